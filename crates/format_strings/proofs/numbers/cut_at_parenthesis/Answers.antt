use Rattle.std.proofs.Common.{lit<}
use Rattle.std.proofs.lemmas.Str.Pattern.{split_parts}
use Rattle.format_strings.proofs.Parsed.{cut_is}
use Rattle.format_strings.proofs.numbers.cut_at_parenthesis.Goals as goal

pub returns : goal.returns
returns c = cut_is 40 _ _
    (split_parts 40 c.args.text.now c.split_once.result c.split_once.ensures.cases (lit< tt))
