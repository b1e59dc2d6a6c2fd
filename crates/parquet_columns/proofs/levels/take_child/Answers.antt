use Rattle.std.proofs.Common.{[], ◌∷◌, ◌++◌, map, sym, ap, ◌∙◌}
use Rattle.std.proofs.lemmas.List.{map-append}
use Rattle.parquet_columns.specs.Levels.{level}
use Rattle.parquet_columns.proofs.Opening.{last_counted}
use Rattle.parquet_columns.proofs.levels.take_child.Goals as goal

pub returns : goal.returns
returns c =
    ap (map level) c.in_ok-push.ensures.items ∙ map-append level _ _ ∙ ap (λ n. map level c.pop.new.self.items ++ record { name = c.in-Some.last.name.now; left = n } ∷ []) c.saturating_sub.ensures
    ∙ sym (last_counted _ _ _ c.in-Some.ensures.items)
