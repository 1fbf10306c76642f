-- Disks of a group by themselves, as an import takes them.
use Rattle.std.specs.Prelude.{Bool, true, false}
use Rattle.vx_untold.specs.Shades.{rack_of}
use Rattle.vx_untold.specs.declared.shade.Shade.{Shade}
use Rattle.vx_untold.specs.declared.shade.Shade.TheVariants.{Dark}

-- as they are, where imports of them agree; else as disks that tell nothing
abbrev pub ready_of : {R : Type 0} → Bool → Shade R → Shade R
ready_of true s = s
ready_of false s = Dark (rack_of s)
