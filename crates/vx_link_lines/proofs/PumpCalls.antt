-- The calls of a pump: it reads, and so its fuse is as it was, and it is not answered 6.
use Rattle.std.proofs.Common.{◌≡◌, ℕ, false, sym, subst, refl}
use Rattle.std.specs.Prelude.{IfOk, Result, Some, slice_get, slice_set}
use Rattle.vx_model.specs.declared.errors.OutOfMemory.{OutOfMemory}
use Rattle.vx_model.specs.declared.errors.Stop.{Stop}
use Rattle.vx_model.specs.declared.errors.Stop.TheVariants.{No as RefusedSo, OutOfMemory as MemoryStop}
use Rattle.vx_model.specs.declared.no.No.{No}
use Rattle.vx_model.specs.declared.no.No.TheVariants.{Device, Down as IsDown}
use Rattle.vx_disk.specs.declared.shelf.Shelf.{Ghosts}
use Rattle.vx_history.specs.World.{Node}
use Rattle.vx_history.specs.declared.sender.Action.{Action}
use Rattle.vx_grouped.specs.SiteEnds.{is_off}
use Rattle.vx_events.specs.declared.said.Said.{Said}
use Rattle.vx_diskset.specs.Asked.{LeavesAlone, LeavesFuse}
use Rattle.vx_diskset.specs.Burning.{NoMore}
use Rattle.vx_diskset.specs.Pumps.{PumpStop}
use Rattle.vx_diskset.specs.declared.disk_set.DiskSet.{DiskSet}
use Rattle.vx_diskset.proofs.AloneCalls.{alone_refused}
use Rattle.vx_yard.specs.OfSites.{OfSite}
use Rattle.vx_yard.specs.Replies.{reply_to}
use Rattle.vx_yard.specs.declared.yard.Yard.{Yard}

never_off : (n : Node) (asked : Action) (old new : ℕ → ℕ) (why : No) → PumpStop n asked old new (RefusedSo why) → is_off why ≡ false
never_off n asked old new (Device disk) stopped = refl
never_off n asked old new IsDown stopped = absurd stopped
never_off n asked old new other stopped = refl

module _ {R : Type 0} {g : Ghosts R} (s : ℕ) (old new : Yard R g) (before after : DiskSet R g) (there : slice_get old.disk_sets.items s ≡ Some before) (disk_sets : new.disk_sets.items ≡ slice_set old.disk_sets.items s after)
    (alone : LeavesAlone before after) (n : Node) (asked : Action) (counts counts' : ℕ → ℕ) where
  by_stop : (stop : Stop) → PumpStop n asked counts counts' stop → IfOk (reply_to stop) (λ said. OfSite (LeavesFuse NoMore said) s old new)
  by_stop MemoryStop stopped = tt
  by_stop (RefusedSo why) stopped = record { before = before; after = after; there = there; disk_sets = disk_sets; did = alone_refused why before after (never_off n asked counts counts' why stopped) alone }

  -- it was ended
  pub pump_stopped : (site : ℕ) (stop : Stop) (r : Result Said OutOfMemory) → site ≡ s → PumpStop n asked counts counts' stop → r ≡ reply_to stop → IfOk r (λ said. OfSite (LeavesFuse NoMore said) site old new)
  pump_stopped site stop r here stopped is =
      subst (λ (k : ℕ). IfOk r (λ said. OfSite (LeavesFuse NoMore said) k old new)) (sym here)
      (subst (λ (x : Result Said OutOfMemory). IfOk x (λ said. OfSite (LeavesFuse NoMore said) s old new)) (sym is) (by_stop stop stopped))
