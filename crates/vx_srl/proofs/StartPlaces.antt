-- What is known of a header of a ring.
use Rattle.std.proofs.Common.{◌≡◌, ℕ, ◌+◌, ◌<◌, true, ◌&&◌}
use Rattle.std.specs.Prelude.{nat_lt}
use Rattle.std.proofs.lemmas.Bool.{ltb-true}
use Rattle.vx_model.proofs.Tests.{and_left}
use Rattle.vx_ringio.specs.Classes.{is_of_ring}
use Rattle.vx_srlfmt.specs.declared.header.Header.{Header}

pub place_of_ring : (ring : ℕ) (h : Header) → is_of_ring ring h ≡ true → h.place < ring
place_of_ring ring h is = ltb-true h.place ring (and_left (nat_lt h.place ring) (nat_lt 0 h.low && nat_lt h.run (h.stamp + 1)) is)
