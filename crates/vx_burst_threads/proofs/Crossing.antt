-- A turn may be shared by threads.
use denote.RattleType.{RattleType}
use denote.Param.Send.{IsSend, IsSync, sendable}
use Rattle.std.proofs.Crossing.{crosses}
use Rattle.std.proofs.Crossing as heap
use Rattle.atomic_table.proofs.shared.Shared.TheSendSync as shared
use Rattle.atomic_table.proofs.send_lease.SendLease.TheSendSync as lease
use Rattle.vx_turn.specs.declared.engine.Engine.{Ghosts}
use Rattle.vx_turn.specs.contracts.turn.Turn as turn
use Rattle.vx_turn.specs.contracts.slot.Slot as slot

pub slot_send : (E : RattleType) → IsSend E → IsSend (slot.the_row E)
slot_send E s = search (sendable, crosses) depth 20

pub turn_sync : (E : RattleType) (g : Ghosts E.Denot) → IsSend E → IsSync (turn.the_row E g)
turn_sync E g s = search (sendable, crosses, shared.the_sync, lease.the_sync, slot_send, heap.send, heap.sync) depth 20
