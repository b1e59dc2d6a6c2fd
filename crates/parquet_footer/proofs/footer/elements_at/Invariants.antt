use Rattle.std.proofs.Common.{◌≡◌, ◌-◌, map}
use Rattle.parquet_footer.specs.Element.{element, element_at}
use Rattle.parquet_footer.specs.Footer.{all_at}
use Rattle.parquet_footer.proofs.Lists.{with_front}
use Rattle.parquet_footer.proofs.footer.elements_at.Given as goal

abbrev pub invariant-structs : goal.invariant-structs
invariant-structs l = with_front (map element l.found.items) (all_at (element_at l.size) (l.count - l.i) l.rest) ≡ all_at (element_at l.size) l.count l.bytes
