use Rattle.std.proofs.Common.{◌≡◌, ◌++◌, map, option_copied, ap, ◌∙◌, rules}
use Rattle.json.specs.Value.{members_view}
use Rattle.geoparquet.specs.Findings.{finding}
use Rattle.geoparquet.specs.Ordered.{members_entries, ordered_members}
use Rattle.geoparquet.specs.RepeatedKeys.{own_findings, steps_on, told}
use Rattle.geoparquet.proofs.Gathering.{own_done, own_next}
use Rattle.geoparquet.proofs.repeated_keys.add_repeated.Goals as goal

pub loop-key-init : goal.loop-key-init
loop-key-init c =
    let all : c.into_iter-key-iterator.result ≡ c.in_ok-by_key.by_key.entries = search rules in
    record {
      so_far = ap (λ ms. told (map finding c.args.findings.now.items ++ own_findings (steps_on c.args.way.now) (members_view c.args.members.now) ms)) (ap members_entries all ∙ c.in_ok-by_key.ensures);
      there = c.in_ok-values.ensures;
    }

pub loop-key-preserved : goal.loop-key-preserved
loop-key-preserved c =
    let there = c.loop-key.invariant.there in
    record {
      so_far = own_next (steps_on c.args.way.now) (members_view c.args.members.now) c.loop-key.findings.items c.add_key.new.findings.items _ c.next.new.self (c.in-Some.key.now, c.in-Some._last.now)
          c.in_ok-values.values (option_copied c.get.result) c.in-Some.ensures.steps there c.get.ensures.value c.in_ok-add_key.ensures
          ∙ c.loop-key.invariant.so_far;
      there = there;
    }

pub returns : goal.returns
returns c =
    own_done (steps_on c.args.way.now) (members_view c.args.members.now) c.args.findings.now.items c.loop-key.findings.items _ (ordered_members (members_view c.args.members.now)) c.in-None.ensures.steps.0 c.loop-key.invariant.so_far
