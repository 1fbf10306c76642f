-- A rack of which the contents are told or not.
use Rattle.std.specs.Prelude.{◌≡◌, true, false}
use Rattle.vx_disk.specs.Racks.{IsRack}
use Rattle.vx_disk.specs.Shelf.{Lawful, Meaning}
use Rattle.vx_disk.specs.declared.shelf.Shelf.{Ghosts}
use Rattle.vx_untold.specs.Untold.{untold, untold_Lawful}
use Rattle.vx_untold.specs.declared.shade.Shade.{Shade}
use Rattle.vx_untold.specs.declared.shade.Shade.TheVariants.{Bright, Dark}

-- it is a rack still
pub untold_IsRack : (m : Meaning) → IsRack m → IsRack (untold m)
untold_IsRack m rack = record {
  told = rack.told;
  is = rack.is;
  counts = rack.counts;
  armed = rack.armed;
  latest = λ tells down u b v is. absurd is;
  stable = λ tells u b. absurd (let clash : false ≡ true = tells in cc);
  settled = λ u b v loose left. absurd left;
  at_rest = λ down u b v left. absurd left;
}

-- the rack, as it is
abbrev pub rack_of : {R : Type 0} → Shade R → R
rack_of (Bright rack) = rack
rack_of (Dark rack) = rack

-- and as it is seen
abbrev pub shade_meaning : {R : Type 0} → (R → Meaning) → Shade R → Meaning
shade_meaning meaning (Bright rack) = meaning rack
shade_meaning meaning (Dark rack) = untold (meaning rack)

-- it obeys the laws of a shelf and of a rack
pub shade_lawful : {R : Type 0} (meaning : R → Meaning) → ((rack : R) → Lawful (meaning rack)) → (s : Shade R) → Lawful (shade_meaning meaning s)
shade_lawful meaning law (Bright rack) = law rack
shade_lawful meaning law (Dark rack) = untold_Lawful (meaning rack) (law rack)

pub shade_rack : {R : Type 0} (meaning : R → Meaning) → ((rack : R) → IsRack (meaning rack)) → (s : Shade R) → IsRack (shade_meaning meaning s)
shade_rack meaning law (Bright rack) = law rack
shade_rack meaning law (Dark rack) = untold_IsRack (meaning rack) (law rack)

-- what its values mean
abbrev pub shade_of : {R : Type 0} → Ghosts R → Ghosts (Shade R)
shade_of g = record { meaning = λ s. shade_meaning g.meaning s }
