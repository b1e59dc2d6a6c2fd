use Rattle.std.proofs.Common.{rules}
use Rattle.std.proofs.lemmas.Iterator.{YieldsList-from_chars, YieldsList-from_take, text_from_collect}
use Rattle.parquet_columns.proofs.excerpt.first_of.Goals as goal

pub returns : goal.returns
returns c = text_from_collect _ c.collect.ensures.ran (YieldsList-from_take _ (YieldsList-from_chars c.args.text.now (search rules) cc) c.take.ensures.count)
