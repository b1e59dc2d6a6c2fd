use Rattle.geoarrow_layout.proofs.Lemmas.{◌≢◌, inl, inr, refl, rules, to_z-of_z, MemberDimension, NativeIn, NativeFaultIn, refused, part_answer}
use Rattle.geoarrow_layout.proofs.read.member.Goals as goal

pub returns-in-Ok-2 : goal.returns-in-Ok-2
returns-in-Ok-2 c =
    let other : c.in-Ok-2.field-0.1 ≢ c.in-Some.dimension = search rules in
    λ t h. part_answer (NativeIn c.args.collections) (NativeFaultIn c.args.collections) c.args.id _ t _ _ _ (refused MemberDimension) (search (rules, to_z-of_z))
    c.in-Some.ensures (inr (refl, c.in-Ok-2.field-0.0, c.in-Ok-2.field-0.1, c.in-Ok-2.is, other)) (c.native.ensures t h)

pub returns-in-Err : goal.returns-in-Err
returns-in-Err c = λ t h. part_answer (NativeIn c.args.collections) (NativeFaultIn c.args.collections) c.args.id _ t _ _ _ (refused c.in-Err.fault) (search (rules, to_z-of_z))
    c.in-Some.ensures (inl c.in-Err.is) (c.native.ensures t h)
