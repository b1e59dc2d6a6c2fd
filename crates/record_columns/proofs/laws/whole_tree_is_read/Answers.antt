use Rattle.record_columns.specs.Columns.{column_of, columns_of}
use Rattle.record_columns.proofs.Whole.{made_of_whole}
use Rattle.record_columns.proofs.laws.whole_tree_is_read.Goals as goal

pub returns : goal.returns
returns c = record { columns = made_of_whole columns_of; column = made_of_whole column_of }
