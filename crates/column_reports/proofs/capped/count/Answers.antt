use Rattle.std.proofs.Common.{string_bytes, ap, ◌∙◌}
use Rattle.column_reports.specs.Capped.{one_seen, seen_at}
use Rattle.column_reports.proofs.Capping.{put_seen}
use Rattle.column_reports.proofs.capped.count.Goals as goal

pub returns : goal.returns
returns c =
    let made = c.one_seen-one_more.ensures ∙ ap (one_seen c.args.most c.args.stands) (c.seen_at.ensures ∙ ap (seen_at c.args.seen.now) c.as_str.ensures.value) in
    put_seen (string_bytes c.args.key) c.args.most c.args.stands c.args.seen.now c.insert.new.self c.one_seen-one_more.result made c.in_ok-insert.ensures.updates
