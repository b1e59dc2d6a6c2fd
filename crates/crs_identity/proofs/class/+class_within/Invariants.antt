use Rattle.crs_identity.proofs.class.+class_within.Given as goal

abbrev pub decreases-class_within : goal.decreases-class_within
decreases-class_within l = l.levels
