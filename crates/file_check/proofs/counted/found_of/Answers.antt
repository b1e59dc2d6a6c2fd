use Rattle.std.proofs.Common.{◌≡◌, ◌+◌, [], ◌∷◌, ◌++◌, take, string_bytes, sym, ap, ◌∙◌, subst, arith}
use Rattle.std.proofs.lemmas.List.{take_more, take_all}
use Rattle.file_check.specs.Wants.{IsFoundIn}
use Rattle.file_check.proofs.Wanted.{found_next}
use Rattle.file_check.proofs.counted.found_of.Goals as goal

pub loop-said-preserved : goal.loop-said-preserved
loop-said-preserved c =
    let l = c.loop-said in
    let columns = c.args.columns.now in
    let said = c.said-item.result in
    let taken : take (l.said-index + 1) columns ≡ take l.said-index columns ++ said ∷ [] =
    take_more columns l.said-index _ c.loop-said-test.true ∙ ap (λ x. take l.said-index columns ++ x ∷ []) (sym c.said-item.is) in
    found_next (string_bytes c.args.want.now.column) (string_bytes c.args.want.now.want) columns l.said-index said l.found c.look_at.new.self taken l.invariant
    c.in_ok-look_at.ensures

pub returns : goal.returns
returns c =
    let l = c.loop-said in
    subst (λ rs. IsFoundIn (string_bytes c.args.want.now.column) (string_bytes c.args.want.now.want) rs l.found)
    (take_all l.said-index c.args.columns.now (omega arith)) l.invariant
