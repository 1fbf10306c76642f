-- The write that the fuse of a group cut, as it is kept with the disks of the site.
use Rattle.std.specs.Prelude.{Option, Some, None, Result, Err}
use Rattle.vx_model.specs.Content.{Write}
use Rattle.vx_model.specs.declared.no.No.{No}
use Rattle.vx_model.specs.declared.no.No.TheVariants.{Down as IsOff}
use Rattle.vx_history.specs.Groups.{GroupNode}
use Rattle.vx_grouped.specs.Ends.{plain_write}
use Rattle.vx_diskset.specs.declared.group_set.CutWrite.{CutWrite}

-- a write that is kept with the disks
abbrev pub cut_value : Option CutWrite → Option Write
cut_value None = None
cut_value (Some x) = Some (plain_write x.volume x.block x.bytes)

-- the one that the site notes
abbrev pub noted_cut : Option GroupNode → Option Write
noted_cut None = None
noted_cut (Some note) = note.cut

-- the one that is kept behind a write that was answered so
abbrev pub cut_behind : {T : Type 0} → Result T No → Write → Option Write → Option Write
cut_behind (Err IsOff) x old = Some x
cut_behind other x old = old
