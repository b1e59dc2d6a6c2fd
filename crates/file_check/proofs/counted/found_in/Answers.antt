use Rattle.std.proofs.Common.{rules, ◌≡◌, ◌+◌, [], ◌∷◌, ◌++◌, take, sym, ap, ◌∙◌, subst, arith}
use Rattle.std.proofs.lemmas.List.{take_more, take_all}
use Rattle.file_check.specs.Wants.{AreFoundIn}
use Rattle.file_check.proofs.Wanted.{wanted_more}
use Rattle.file_check.proofs.counted.found_in.Goals as goal

pub loop-want-preserved : goal.loop-want-preserved
loop-want-preserved c =
    let l = c.loop-want in
    let wants = c.args.wants.now in
    let want = c.want-item.result in
    let rs = c.args.columns.now in
    let found = c.in_ok-found_of.field-0 in
    let taken : take (l.want-index + 1) wants ≡ take l.want-index wants ++ want ∷ [] =
    take_more wants l.want-index _ c.loop-want-test.true ∙ ap (λ x. take l.want-index wants ++ x ∷ []) (sym c.want-item.is) in
    let pushed : c.push.new.self.items ≡ l.found.items ++ found ∷ [] = search rules in
    subst (λ ws. AreFoundIn ws rs c.push.new.self.items) (sym taken)
    (subst (AreFoundIn (take l.want-index wants ++ want ∷ []) rs) (sym pushed)
    (wanted_more rs (take l.want-index wants) l.found.items want found l.invariant c.in_ok-found_of.ensures))

pub returns : goal.returns
returns c =
    let l = c.loop-want in
    subst (λ ws. AreFoundIn ws c.args.columns.now l.found.items) (take_all l.want-index c.args.wants.now (omega arith)) l.invariant
