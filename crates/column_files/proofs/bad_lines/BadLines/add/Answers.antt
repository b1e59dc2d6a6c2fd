use Rattle.std.proofs.Common.{rules, ◌≡◌, ◌+◌, ◌≤◌, ◌<◌, ◌∷◌, ◌++◌, [], length, min}
use Rattle.line_reader.specs.Lines.{max_count}
use Rattle.column_files.specs.LineItems.{max_bad_lines}
use Rattle.column_files.proofs.Items.{kept_more, kept_counted}
use Rattle.column_files.proofs.bad_lines.BadLines.add.Goals as goal

pub returns-in_ok-push : goal.returns-in_ok-push
returns-in_ok-push c = λ bad kept.
    let old = c.args.self.now in
    let few : length old.first.items < max_bad_lines = search rules in
    let grown : c.push.new.self.items ≡ old.first.items ++ c.args.line ∷ [] = search rules in
    kept_more bad old.first.items c.push.new.self.items c.args.line old.more kept.0 kept.1 few grown

pub returns-else-len-lt-MAX_BAD_LINES : goal.returns-else-len-lt-MAX_BAD_LINES
returns-else-len-lt-MAX_BAD_LINES c = λ bad kept.
    let old = c.args.self.now in
    let full : max_bad_lines ≤ length old.first.items = search rules in
    let next : c.saturating_add-self.result ≡ min (old.more + 1) max_count = search rules in
    kept_counted bad old.first.items c.args.line old.more c.saturating_add-self.result kept.0 kept.1 full next
