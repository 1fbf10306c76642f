-- What the disks of a site promise of a link on which it sends.
use Rattle.std.specs.Prelude.{◌≢◌, ℕ, Result, Ok, Err}
use Rattle.vx_model.specs.declared.errors.Stop.{Stop}
use Rattle.vx_model.specs.declared.errors.Stop.TheVariants.{No as Refused, OutOfMemory}
use Rattle.vx_model.specs.declared.link.Link.{Link as PlainLink}
use Rattle.vx_model.specs.declared.no.No.TheVariants.{Device}
use Rattle.vx_history.specs.World.{Node, World}
use Rattle.vx_history.specs.declared.sender.Action.{Action}
use Rattle.vx_history.specs.declared.sender.Action.TheVariants.{Nothing as SendsNothing}
use Rattle.vx_history.specs.declared.sender.SEvent.TheVariants.{Pump}
use Rattle.vx_events.specs.Fails.{IsLogDisk}
use Rattle.vx_events.specs.LinkFinds.{IsUnreadable}
use Rattle.vx_disk.specs.Counts.{Rose}
use Rattle.vx_net.specs.Flights.{Flying}
use Rattle.vx_peers.specs.Senders.{LinkMoved}

-- the link and the packets are those of the world behind its pump; or a disk failed, whose count rose, or memory was wanting
abbrev pub PumpedIs : (w : World) (site to : ℕ) → PlainLink → Flying → (old new : ℕ → ℕ) → Result (Unit {0}) Stop → Type 0
PumpedIs w site to l f old new (Ok done) = LinkMoved w site to Pump l f
PumpedIs w site to l f old new (Err OutOfMemory) = Unit {0}
PumpedIs w site to l f old new (Err (Refused (Device disk))) = Rose (old disk) (new disk)
PumpedIs w site to l f old new (Err (Refused other)) = ⊥

-- Why a site that runs sent nothing, whether contents are told or not, where its rule asked this of it: memory was wanting; the disk of its log
-- failed, whose count rose, as there was something to send; or its log cannot be read.
abbrev pub PumpStop : Node → (asked : Action) → (old new : ℕ → ℕ) → Stop → Type 0
PumpStop n asked old new OutOfMemory = Unit {0}
PumpStop n asked old new (Refused (Device disk)) = Rose (old disk) (new disk) × (asked ≢ SendsNothing) × IsLogDisk n disk
PumpStop n asked old new (Refused other) = IsUnreadable other
