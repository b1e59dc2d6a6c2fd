use Rattle.std.proofs.Common.{sym, subst}
use Rattle.std.specs.Str.{IsUtf8}
use Rattle.std.proofs.lemmas.Str.{IsUtf8-append}
use Rattle.value_tokens.proofs.OneLine.{one_line}
use Rattle.value_tokens.proofs.text.text_of.Goals as goal

pub from_utf8_unchecked-requires : goal.from_utf8_unchecked-requires
from_utf8_unchecked-requires c = subst IsUtf8 (sym c.into_inner.ensures.items) (IsUtf8-append _ _ c.requires c.into_inner.ensures.utf8)

pub returns-clause-one_line : goal.returns-clause-one_line
returns-clause-one_line c = one_line c.args.out.tokens c.into_inner.ensures.reads_back
