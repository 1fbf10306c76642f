-- What the disks of a site that receives promise.
use Rattle.std.specs.Prelude.{◌≡◌, ℕ, ◌+◌, ◌≤◌, List, true, false, None, length, Result, Ok, Err}
use Rattle.vx_model.specs.Sites.{is_origin}
use Rattle.vx_model.specs.declared.call.Update.{Update}
use Rattle.vx_model.specs.declared.no.No.{No}
use Rattle.vx_model.specs.declared.no.No.TheVariants.{Device, Limit, Down as IsDown}
use Rattle.vx_model.specs.declared.site.SiteState.TheVariants.{Up as IsUp}
use Rattle.vx_history.specs.Events.{applied}
use Rattle.vx_history.specs.LinkForms.{plain_receiver}
use Rattle.vx_history.specs.Receiving.{received_step}
use Rattle.vx_history.specs.Stops.{IsFused}
use Rattle.vx_history.specs.World.{Node}
use Rattle.vx_history.specs.declared.receiver.RAction.{RAction}
use Rattle.vx_history.specs.declared.receiver.RAction.TheVariants.{DataAck}
use Rattle.vx_history.specs.declared.receiver.REvent.TheVariants.{Applied}
use Rattle.vx_history.specs.Steps.{worked}
use Rattle.vx_disk.specs.Counts.{Rose}
use Rattle.vx_disk.specs.Shelf.{Meaning}
use Rattle.vx_disk.specs.declared.shelf.Shelf.{Ghosts}
use Rattle.vx_rvg.specs.Views.{Core}
use Rattle.vx_rvg.specs.Contents.{ShowsContent}
use Rattle.vx_srl.specs.Views.{most_number}
use Rattle.vx_events.specs.Sayings.{received_content}
use Rattle.vx_events.specs.declared.said.Said.{Said}
use Rattle.vx_events.specs.declared.said.Said.TheVariants.{DoneAt, Refused}
use Rattle.vx_diskset.specs.declared.disk_set.DiskSet.{DiskSet}
use Rattle.vx_diskset.specs.declared.receivers.Reached.{Reached}
use Rattle.vx_diskset.specs.DiskSets.{CrashedTo, RoseAt, halted_at, no_number, with_first}
use Rattle.vx_diskset.specs.Holds.{KeptBeside, most_with}
use Rattle.vx_diskset.specs.Needs.{NoneNeeds}
use Rattle.vx_diskset.specs.Stands.{CutAt, IsHeldAt, IsReceiverAt, IsToldAt, SiteStands}

-- a site that may apply what it received
pub record CanReceive (beside : KeptBeside) (n : Node) : Type 0 where
  pub receives : is_origin n.role ≡ false
  pub up : n.state ≡ IsUp
  pub running : n.halted ≡ None
  -- none of its links needs a number of its log
  pub unneeded : NoneNeeds beside.links (length n.log)

-- a site whose writes up to a number are applied
abbrev pub reached : Node → ℕ → Node
reached n number = worked (applied n number n.mark)

-- So many of the updates that wait behind its group are logged, for each of which a number is left; or a disk failed; or its fuse ran out, and no more than these
-- are in the log.
abbrev pub LoggedTo : KeptBeside → Node → ℕ → List Update → Core → Meaning → Meaning → Result (Unit {0}) No → Type 0
LoggedTo beside n count us c m new (Ok done) = IsReceiverAt beside (reached n (n.safe + count)) c us new
LoggedTo beside n count us c m new (Err (Device disk)) = IsReceiverAt beside (halted_at n disk) c us new × Rose (m.disk_faults disk) (new.disk_faults disk)
LoggedTo beside n count us c m new (Err IsDown) = IsFused n.fuse × IsHeldAt beside (with_first n (n.safe + count)) new
LoggedTo beside n count us c m new (Err other) = ⊥

-- the same of an apply behind it
abbrev pub ReachedTo : KeptBeside → Node → ℕ → List Update → Core → Meaning → Meaning → Result Reached No → Type 0
ReachedTo beside n count us c m new (Ok r) = (r.number ≡ n.safe + count) × (r.acks ≡ true) × IsReceiverAt beside (reached n (n.safe + count)) c us new
ReachedTo beside n count us c m new (Err why) = LoggedTo beside n count us c m new (Err why)

-- the reply of an apply of what waits
abbrev pub reached_by : Result Reached No → Said
reached_by (Ok r) = DoneAt r.number
reached_by (Err why) = Refused why

module _ {R : Type 0} {g : Ghosts R} where
  -- the blocks, which are those of the content where it is told, or a failing disk
  abbrev pub ShowedAt : KeptBeside → Node → ℕ → ℕ → ℕ → List ℕ → DiskSet R g → DiskSet R g → Result (Unit {0}) No → Type 0
  ShowedAt beside n volume start count bytes old new (Ok done) = (IsToldAt new → ShowsContent (received_content n) volume start count bytes) × SiteStands beside n new
  ShowedAt beside n volume start count bytes old new (Err (Device disk)) = SiteStands beside n new × RoseAt old new disk
  ShowedAt beside n volume start count bytes old new (Err other) = ⊥

  -- By what the rule of receivers says of it: the first of what waits is applied, up to a number that is to be acknowledged; or nothing waits.
  abbrev pub ReachedBy : RAction → KeptBeside → Node → Reached → DiskSet R g → Type 0
  ReachedBy (DataAck number) beside n r new = (r.number ≡ number) × (r.acks ≡ true) × SiteStands beside (reached n number) new
  ReachedBy other beside n r new = (r.number ≡ n.safe) × (r.acks ≡ false) × SiteStands beside (worked n) new

  -- It is applied; or a disk failed; or no number is left for all of it, and then nothing is; or the fuse of the site ran out, and then this holds
  -- of it and of the writes that were to be durable.
  abbrev pub ReachedWith : (ℕ → Node → DiskSet R g → Type 0) → KeptBeside → Node → ℕ → DiskSet R g → DiskSet R g → Result Reached No → Type 0
  ReachedWith Off beside n count old new (Ok r) = ReachedBy (received_step (plain_receiver n) (Applied count)).action beside n r new
  ReachedWith Off beside n count old new (Err (Device disk)) = SiteStands beside (halted_at n disk) new × RoseAt old new disk
  ReachedWith Off beside n count old new (Err (Limit what most)) =
      (Limit what most ≡ no_number) × (IsToldAt new → most_number ≤ most_with beside n (length n.log)) × SiteStands beside n new
  ReachedWith Off beside n count old new (Err IsDown) = IsFused n.fuse × Off (n.safe + count) n new
  ReachedWith Off beside n count old new (Err other) = ⊥

  -- an apply behind which the site of a fuse that ran out crashed, and one behind which it has not crashed yet
  abbrev pub ReachedAt : KeptBeside → Node → ℕ → DiskSet R g → DiskSet R g → Result Reached No → Type 0
  ReachedAt beside n count old new result = ReachedWith (λ most k e. CrashedTo beside k most e) beside n count old new result

  abbrev pub ReachedUp : KeptBeside → Node → ℕ → DiskSet R g → DiskSet R g → Result Reached No → Type 0
  ReachedUp beside n count old new result = ReachedWith (λ most k e. CutAt beside (with_first k most) e) beside n count old new result
