-- A refusal 7 of the log of a site names the disk on which that lies.
use Rattle.std.proofs.Common.{◌≡◌, ◌∙◌, ℕ, ap}
use Rattle.std.specs.Prelude.{Option}
use Rattle.vx_model.specs.declared.no.No.TheVariants.{Device}
use Rattle.vx_model.specs.declared.units.Units.{Units}
use Rattle.vx_history.specs.Groups.{GroupNode}
use Rattle.vx_history.specs.World.{Node}
use Rattle.vx_disk.specs.Shelf.{Meaning}
use Rattle.vx_disk.specs.Causes.{BlamesUnit}
use Rattle.vx_rvg.specs.Views.{Core}
use Rattle.vx_events.specs.Fails.{IsLogDisk}
use Rattle.vx_diskset.specs.Shelves.{IsRackOf}
use Rattle.vx_diskset.specs.Layouts.{units_by, units_of}

pub log_disk : (n : Node) (c : Core) (m : Meaning) (disk : ℕ) → c.units ≡ units_of n → c.log.unit ≡ c.units.srl → IsRackOf n m → BlamesUnit m.disks c.log.unit (Device disk) → IsLogDisk n disk
log_disk n c m disk units place rack blames = λ none. blames (rack none) ∙ place ∙ ap (λ (u : Units). u.srl) units ∙ ap (λ (o : Option GroupNode). (units_by o n.disks).srl) none
