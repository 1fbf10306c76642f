-- What the blocks of a log's unit are, in an image of the shelf.
use Rattle.std.specs.Prelude.{ℕ, ◌+◌, Bool, ◌&&◌, nat_lt, List, if◌then◌else◌}
use Rattle.vx_srlfmt.specs.Kinds.{Kind, Top, Front, Body, Damaged, Other, kind_of}
use Rattle.vx_srlfmt.specs.declared.header.Header.{Header}
use Rattle.vx_disk.specs.Shelf.{Image}

-- whether a header is one of a ring of this size: its low place lies in the ring, numbers begin at 1, and each run began with a header
abbrev pub is_of_ring : ℕ → Header → Bool
is_of_ring ring h = nat_lt h.place ring && (nat_lt 0 h.low && nat_lt h.run (h.stamp + 1))

-- a header of another ring is none
abbrev pub narrowed : ℕ → Kind → Kind
narrowed ring (Top h) = if is_of_ring ring h then Top h else Other
narrowed ring (Front r) = Front r
narrowed ring (Body bytes) = Body bytes
narrowed ring Damaged = Damaged
narrowed ring Other = Other

-- what a block is
unfoldable pub class_of : ℕ → List ℕ → Kind
class_of ring bytes = narrowed ring (kind_of bytes)

-- what each block of the unit is: two headers, the ring, and behind them nothing
abbrev pub classes : ℕ → ℕ → Image → ℕ → Kind
classes unit ring i b = if nat_lt b (ring + 2) then class_of ring (i unit b) else Other
