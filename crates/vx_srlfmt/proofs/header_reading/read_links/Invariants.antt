-- The loop of `read_links` over `i`: what stays true.
use Rattle.std.proofs.Common.{◌≡◌, ◌+◌, ◌-◌, ◌*◌, ◌^◌, ◌<◌, ◌++◌, length}
use Rattle.std.specs.Prelude.{All}
use Rattle.vx_srlfmt.specs.HeaderReading.{links_at}
use Rattle.vx_srlfmt.proofs.header_reading.read_links.Given as goal

abbrev pub invariant-loop-i : goal.invariant-loop-i
invariant-loop-i l = record {
  links : l.links ++ links_at (l.count - l.i) (124 + 24 * l.i) l.block ≡ links_at l.count 124 l.block;
  sites : All (λ k. k.site < 2 ^ 32) l.links;
  many : length l.links ≡ l.i;
}
