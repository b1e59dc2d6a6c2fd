use Rattle.std.proofs.Common.{◌≡◌, ◌-◌, map, drop, take, length, min, sym, ap, ◌∙◌}
use Rattle.std.proofs.lemmas.List.{take_rest, take_min, drop_min, take-map, drop-map}
use Rattle.parquet_footer.specs.Element.{element}
use Rattle.parquet_columns.proofs.invalid.between.Goals as goal

pub returns : goal.returns
returns c =
    let es = c.args.elements.now in
    let start = c.args.start in
    let rest : take (length es - c.min-from.result) (drop c.min-from.result es) ≡ drop start es =
    take_rest es c.min-from.result ∙ ap (λ n. drop n es) c.min-from.ensures ∙ drop_min start es in
    let less = c.args.at - start in
    ap (λ xs. map element (take c.min-count.result xs)) rest
    ∙ ap (λ n. map element (take n (drop start es))) (c.min-count.ensures ∙ ap (λ n. min n (length (take (length es - c.min-from.result) (drop c.min-from.result es)))) c.saturating_sub.ensures ∙ ap (λ xs. min less (length xs)) rest)
    ∙ ap (map element) (take_min less (drop start es)) ∙ sym (take-map element less (drop start es)) ∙ ap (take less) (sym (drop-map element start es))
