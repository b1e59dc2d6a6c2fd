use Rattle.parquet_footer.proofs.wire.+number_at.Given as goal

abbrev pub decreases-number_at : goal.decreases-number_at
decreases-number_at l = l.most
