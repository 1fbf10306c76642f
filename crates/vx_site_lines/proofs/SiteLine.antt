-- What a line that makes a site comes to.
use Rattle.std.proofs.Common.{◌≡◌, refl}
use Rattle.std.specs.Prelude.{Option, Some, None, is_some, Bool, true, false}
use Rattle.vx_disk.specs.Racks.{most_blocks}
use Rattle.vx_order.specs.Shapes.{most_disk_blocks as most_of}

pub most_same : {T : Type 0} (dir : Option T) (files : Bool) → is_some dir ≡ files → most_blocks dir ≡ most_of files
most_same None true e = absurd (cc)
most_same None false e = refl
most_same (Some d) true e = refl
most_same (Some d) false e = absurd (cc)
