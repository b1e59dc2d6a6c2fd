use Rattle.format_strings.proofs.Noted.{behind_front}
use Rattle.format_strings.proofs.notations.behind.Goals as goal

pub returns : goal.returns
returns c =
    behind_front c.args.front.now c.args.text.now c.strip_prefix.result c.strip_prefix.ensures.cases
