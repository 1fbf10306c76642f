-- Marks that are taken off the logs of all volumes, one after the other.
use Rattle.std.proofs.Common.{◌≡◌, ◌∙◌, inl, inr, ℕ, ◌+◌, ◌<◌, ◌≤◌, Bool, true, false, Some, List, length, refl, sym, ap, subst, arith}
use Rattle.std.specs.Prelude.{Err, slice_get}
use Rattle.std.proofs.lemmas.Bool.{cases_eq}
use Rattle.std.proofs.lemmas.Option.{slice_get_within}
use Rattle.vx_disk.specs.Causes.{Cause}
use Rattle.vx_disk.specs.Shelf.{Meaning}
use Rattle.vx_disk.specs.declared.shelf.ShelfError.{ShelfError}
use Rattle.vx_disk.specs.declared.shelf.ShelfError.TheVariants.{Fault, Down}
use Rattle.vx_disk.proofs.Causing.{Rose_before}
use Rattle.vx_group.specs.Attaches.{region_count}
use Rattle.vx_group.specs.Blames.{StopsByDevice}
use Rattle.vx_group.specs.Holding.{wide}
use Rattle.vx_group.specs.Stands.{inner_meaning}
use Rattle.vx_group.specs.declared.group_core.GroupCore.{GroupCore}
use Rattle.vx_group.specs.declared.inner.Inner.{Inner}
use Rattle.vx_group.proofs.HoldLemmas.{wide_shape}
use Rattle.vx_grouplogs.specs.Covering.{AllAlike}
use Rattle.vx_grouplogs.specs.Marking.{HoldsMany, NoMarks}
use Rattle.vx_logged.proofs.StandLemmas.{alike_goes}
use Rattle.vx_logs.specs.declared.logs.Logs.{Logs}
use Rattle.vx_model.specs.Sizes.{regions_of}
use Rattle.vx_loggroup.specs.LoggedVolumes.{LoggedStands, is_alike}
use Rattle.vx_loggroup.specs.Marks.{ClearsVolume, MarksAreOff}
use Rattle.vx_loggroup.specs.Taking.{LogsSettle, MapsShrink}
use Rattle.vx_loggroup.proofs.SetLemmas.{item_at}
use Rattle.vx_loggroup.proofs.SettleLemmas.{settle_none, settle_then}
use Rattle.vx_loggroup.proofs.TakenMaps.{shrink_none, shrink_then}

-- those of the first volumes were, and the others are as they were
pub record ClearedSoFar (c0 : GroupCore) (ls0 : List Logs) (a : List Bool) (m0 : Meaning) (n : ℕ) (core : GroupCore) (ls : List Logs) (m : Meaning) : Type 0 where
  pub stands : LoggedStands core ls a false m
  pub settles : LogsSettle c0 core m0 m
  pub off : MarksAreOff (wide c0).config a n ls
  pub rest : (v : ℕ) → n ≤ v → slice_get ls v ≡ slice_get ls0 v
  pub trust : c0.inner.committed ≡ true → core.inner.committed ≡ true
  pub shrink : MapsShrink ls0 ls

pub none_cleared : (c0 : GroupCore) (ls0 : List Logs) (a : List Bool) (m0 : Meaning) → LoggedStands c0 ls0 a false m0 → ClearedSoFar c0 ls0 a m0 0 c0 ls0 m0
none_cleared c0 ls0 a m0 stands = record {
  stands = stands;
  settles = settle_none c0 m0;
  off = record { each = λ v l lt same_at is. absurd (omega (arith, lt)) };
  rest = λ v le. refl;
  trust = λ is. is;
  shrink = shrink_none ls0;
}

module _ (c0 : GroupCore) (ls0 : List Logs) (a : List Bool) (m0 : Meaning) (n : ℕ) (core : GroupCore) (ls : List Logs) (m : Meaning) (was : ClearedSoFar c0 ls0 a m0 n core ls m) where
  -- what is asked of the next one
  pub next_same : ((v : ℕ) → v < length ls0 → is_alike a v ≡ true → AllAlike (wide c0).config v m0) → n < length ls0 → is_alike a n ≡ true → AllAlike (wide core).config n m
  next_same same lt same_at = alike_goes c0 core n m0 m was.settles.goes (same n lt same_at)

  pub next_there : n < length ls → n < (inner_meaning (wide core) m).units
  next_there lt = let many = was.stands.many in let same = (wide_shape core).volumes in omega (arith, lt, many, same)

  module _ (next : GroupCore) (ls' : List Logs) (m' : Meaning) (stands : LoggedStands next ls' a false m') (settles : LogsSettle core next m m') (marks : ClearsVolume (wide core).config n ls ls') (shrink : MapsShrink ls ls') where
    pub goes_on : LogsSettle c0 next m0 m'
    goes_on = settle_then c0 core next m0 m m' was.settles settles

    pub one_cleared : (is_alike a n ≡ true → (l k : Logs) → slice_get ls n ≡ Some l → HoldsMany l.drl → slice_get ls' n ≡ Some k → NoMarks (region_count (wide core).config n) k) → (core.inner.committed ≡ true → next.inner.committed ≡ true)
        → ((v : ℕ) (l : Logs) → slice_get ls0 v ≡ Some l → HoldsMany l.drl) → ClearedSoFar c0 ls0 a m0 (n + 1) next ls' m'
    one_cleared off trust full = record {
      stands = stands;
      settles = goes_on;
      off = record {
        each = λ v l lt same_at is. elim (cases_eq v n) [
          | inl same ↦ here v l same same_at is
          | inr apart ↦ was.off.each v l (omega (arith, lt, apart)) same_at (sym (marks.others v apart) ∙ is)
        ];
      };
      rest = λ v le. marks.others v (λ same. omega (arith, le, same)) ∙ was.rest v (omega (arith, le));
      trust = λ is. trust (was.trust is);
      shrink = shrink_then ls0 ls ls' was.shrink shrink;
    }
      where
        at_n : (k : Logs) → is_alike a n ≡ true → slice_get ls' n ≡ Some k → NoMarks (region_count (wide c0).config n) k
        at_n k same_at is =
            let low = slice_get_within ls' n k is in
            let old = item_at ls n (let many = shrink.many in omega (arith, low, many)) in
            subst (λ (r : ℕ). NoMarks r k) (ap regions_of (was.settles.goes.size n)) (off same_at old.0 k old.1 (full n old.0 (sym (was.rest n (omega arith)) ∙ old.1)) is)

        here : (v : ℕ) (l : Logs) → v ≡ n → is_alike a v ≡ true → slice_get ls' v ≡ Some l → NoMarks (region_count (wide c0).config v) l
        here v l same same_at is = subst (λ (w : ℕ). NoMarks (region_count (wide c0).config w) l) (sym same) (at_n l (sym (ap (is_alike a) same) ∙ same_at) (sym (ap (λ (w : ℕ). slice_get ls' w) same) ∙ is))

  pub all_cleared : length ls ≤ n → MarksAreOff (wide c0).config a (length ls) ls
  all_cleared le = record { each = λ v l lt same_at is. was.off.each v l (omega (arith, lt, le)) same_at is }

  -- why it stops
  pub stops_by : (T U : Type 0) (next : Inner) (m' : Meaning) (v : ℕ) (e : ShelfError) → Cause {T = T} (inner_meaning (wide core) m) (inner_meaning next m') v (Err e) → StopsByDevice {T = U} m0 m' (Err e)
  stops_by T U next m' v (Fault d) why = (Rose_before (m0.disk_faults d) (m.disk_faults d) (m'.disk_faults d) (was.settles.goes.disk_faults d) why.0.disk_count, why.1.after)
  stops_by T U next m' v Down down = down
