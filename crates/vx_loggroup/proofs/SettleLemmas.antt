-- Logs of a group that are lost by commits, one after the other.
use Rattle.std.proofs.Common.{◌≡◌, ◌⊎◌, ℕ, ◌<◌, ◌≤◌, Bool, true, List, length, refl, sym, subst, arith}
use Rattle.std.specs.Prelude.{Err}
use Rattle.vx_disk.specs.Causes.{Cause, DeviceCause, refusal_of}
use Rattle.vx_disk.specs.Shelf.{Meaning, Nothing}
use Rattle.vx_disk.specs.declared.shelf.ShelfError.{ShelfError}
use Rattle.vx_disk.specs.declared.shelf.ShelfError.TheVariants.{Fault, Down}
use Rattle.vx_disk.proofs.Causing.{Rose_before}
use Rattle.vx_disk.proofs.Runs.{then_nothing}
use Rattle.vx_group.specs.Blames.{StopsByDevice}
use Rattle.vx_group.specs.Holding.{GroupStands, wide}
use Rattle.vx_group.specs.Stands.{inner_meaning}
use Rattle.vx_group.specs.declared.group_core.GroupCore.{GroupCore}
use Rattle.vx_group.specs.declared.inner.Inner.{Inner}
use Rattle.vx_group.proofs.FindingLemmas.{as_finds, none_finds, still_group, then_group}
use Rattle.vx_group.proofs.HoldLemmas.{wide_shape}
use Rattle.vx_group.proofs.LoseLemmas.{along_none, then_along}
use Rattle.vx_group.proofs.MendLemmas.{same_Goes}
use Rattle.vx_group.proofs.UnitLemmas.{same_units, then_units}
use Rattle.vx_logged.specs.Logged.{EachOn}
use Rattle.vx_logged.proofs.StandLemmas.{narrowed_same, narrowed_then}
use Rattle.vx_logs.specs.declared.logs.Logs.{Logs}
use Rattle.vx_model.specs.declared.no.No.{No}
use Rattle.vx_loggroup.specs.LoggedVolumes.{LoggedStands}
use Rattle.vx_loggroup.specs.Taking.{LogsSettle}
use Rattle.vx_loggroup.proofs.AlikeLemmas.{all_whole}
use Rattle.vx_group.specs.Finds.{MoreUnsure}
use Rattle.vx_group.proofs.SettleCalls.{as_told, same_told}
use Rattle.vx_loggroup.proofs.UnsureGroups.{with_unsure}

pub settle_none : (c : GroupCore) (m : Meaning) → LogsSettle c c m m
settle_none c m = record {
  goes = same_Goes (inner_meaning (wide c) m);
  narrow = narrowed_same c;
  loses = along_none c.inner.config m;
  finds = still_group c m;
  below = same_units m;
}

pub settle_then : (c d e : GroupCore) (m m1 m2 : Meaning) → LogsSettle c d m m1 → LogsSettle d e m1 m2 → LogsSettle c e m m2
settle_then c d e m m1 m2 one two = record {
  goes = then_nothing Nothing (inner_meaning (wide c) m) (inner_meaning (wide d) m1) (inner_meaning (wide e) m2) one.goes two.goes;
  narrow = narrowed_then c d e one.narrow two.narrow;
  loses = then_along c.inner.config d.inner.config e.inner.config m m1 m2 one.loses two.loses;
  finds = then_group c d e m m1 m2 one.finds two.finds;
  below = then_units m m1 m2 one.below two.below;
}

-- volumes are marked as unsure
pub settle_marks : (c : GroupCore) (unsure : List Bool) (m : Meaning) → MoreUnsure c.inner.unsure unsure → LogsSettle c (with_unsure unsure c) m m
settle_marks c unsure m more = record {
  goes = same_Goes (inner_meaning (wide c) m);
  narrow = (let same = narrowed_same c in record { shape = same.shape; less = same.less; on = same.on });
  loses = along_none c.inner.config m;
  finds = record {
    core = as_finds (wide c) (wide c) (wide (with_unsure unsure c)) m m refl refl refl (none_finds (wide c) m);
    settles = as_told (wide c) (wide c) (wide (with_unsure unsure c)) m m refl refl (same_told (wide c) m);
    unsure = more;
    free = λ none. none;
  };
  below = same_units m;
}

-- those of the first volumes were committed
pub record LostSoFar (c0 : GroupCore) (ls : List Logs) (a : List Bool) (s : Bool) (m0 : Meaning) (core : GroupCore) (m : Meaning) : Type 0 where
  pub stands : LoggedStands core ls a s m
  pub settles : LogsSettle c0 core m0 m
  pub trust : c0.inner.committed ≡ true → core.inner.committed ≡ true

pub none_lost : (c : GroupCore) (ls : List Logs) (a : List Bool) (s : Bool) (m : Meaning) → LoggedStands c ls a s m → LostSoFar c ls a s m c m
none_lost c ls a s m stands = record { stands = stands; settles = settle_none c m; trust = λ is. is }

module _ (c0 : GroupCore) (ls : List Logs) (a : List Bool) (s : Bool) (m0 : Meaning) (core : GroupCore) (m : Meaning) (was : LostSoFar c0 ls a s m0 core m) where
  pub lost_there : (n : ℕ) → n < length ls → n < (inner_meaning (wide core) m).units
  lost_there n lt = let many = was.stands.many in let same = (wide_shape core).volumes in omega (arith, lt, many, same)

  module _ (next : GroupCore) (m' : Meaning) (group : GroupStands next m') (settles : LogsSettle core next m m') (each : EachOn core next m m') where
    pub lost_stands : LoggedStands next ls a s m'
    lost_stands = all_whole core next ls a s m m' was.stands group settles.goes each

    pub lost_on : LogsSettle c0 next m0 m'
    lost_on = settle_then c0 core next m0 m m' was.settles settles

    pub one_lost : (core.inner.committed ≡ true → next.inner.committed ≡ true) → LostSoFar c0 ls a s m0 next m'
    one_lost trust = record { stands = lost_stands; settles = lost_on; trust = λ is. trust (was.trust is) }

  -- why it stops
  pub lost_stops : (T U : Type 0) (next : Inner) (m' : Meaning) (v : ℕ) (e : ShelfError) → Cause {T = T} (inner_meaning (wide core) m) (inner_meaning next m') v (Err e) → StopsByDevice {T = U} m0 m' (Err e)
  lost_stops T U next m' v (Fault d) why = (Rose_before (m0.disk_faults d) (m.disk_faults d) (m'.disk_faults d) (was.settles.goes.disk_faults d) why.0.disk_count, why.1.after)
  lost_stops T U next m' v Down down = down

-- why a call is refused then
pub stop_by : (T : Type 0) (m m1 m' : Meaning) (e : ShelfError) (said : No) → ((d : ℕ) → m.disk_faults d ≤ m1.disk_faults d) → said ≡ refusal_of e → StopsByDevice {T = T} m1 m' (Err e) → DeviceCause m m' said
stop_by T m m1 m' e said less is why = subst (λ (n : No). DeviceCause m m' n) (sym is) (by e why)
  where
    by : (e : ShelfError) → StopsByDevice {T = T} m1 m' (Err e) → DeviceCause m m' (refusal_of e)
    by (Fault d) rose = Rose_before (m.disk_faults d) (m1.disk_faults d) (m'.disk_faults d) (less d) rose.0
    by Down down = down
