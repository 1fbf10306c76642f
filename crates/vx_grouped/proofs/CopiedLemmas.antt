-- How many regions an attach copies, by what stands of the logs of a group.
use Rattle.std.proofs.Common.{◌≡◌, ◌∙◌, ℕ, zero, suc, ◌≤◌, Bool, true, false, Option, Some, None, List, refl, sym, ap, arith}
use Rattle.std.specs.Prelude.{if◌then◌else◌, is_some, nat_le, slice_get, IfOk, Result, Ok, Err}
use Rattle.vx_config.specs.Checks.{plexes_of}
use Rattle.vx_config.specs.declared.entry.LogEntry.{LogEntry}
use Rattle.vx_config.specs.declared.entry.VolumeLog.TheVariants.{Fmr}
use Rattle.vx_disk.specs.Shelf.{Meaning}
use Rattle.vx_fmr.specs.Missed.{Missed}
use Rattle.vx_group.specs.Attaches.{missed_regions, region_count}
use Rattle.vx_group.specs.Holding.{wide}
use Rattle.vx_group.specs.declared.group_core.GroupCore.{GroupCore}
use Rattle.vx_group.proofs.HoldLemmas.{wide_shape}
use Rattle.vx_group.proofs.MissLemmas.{count_all}
use Rattle.vx_kept.specs.LogRuns.{log_place, run_or}
use Rattle.vx_groupmaps.specs.Loading.{on_failed_disk}
use Rattle.vx_loggroup.specs.Attaching.{fmr_at, fmr_or, map_by}
use Rattle.vx_loggroup.specs.Facts.{LoggedFact}
use Rattle.vx_logs.specs.declared.logs.Logs.{Logs}
use Rattle.vx_model.specs.declared.errors.Stop.{Stop}
use Rattle.vx_model.specs.Numbers.{one_if}
use Rattle.vx_maplog.specs.Logs.{log_of}
use Rattle.vx_resync.specs.Picks.{missed_or, picked_below}
use Rattle.vx_grouped.specs.Copied.{CopiesRegions}

few_one : (t : Bool) → one_if t ≤ 1
few_one true = omega arith
few_one false = omega arith

few_picked : (f : ℕ → Bool) (n : ℕ) → picked_below f n ≤ n
few_picked f zero = omega arith
few_picked f (suc n) = let less = few_picked f n in let one = few_one (f n) in omega (arith, less, one)

some_run : (o : Option LogEntry) → is_some (run_or o) ≡ is_some o
some_run None = refl
some_run (Some e) = refl

-- a volume has a log, whatever plex of it is held back
wide_log : (core : GroupCore) (v : ℕ) → is_some (log_of (wide core).config v Fmr) ≡ is_some (log_of core.inner.config v Fmr)
unfolding log_place
wide_log core v = sym (some_run (log_of (wide core).config v Fmr)) ∙ ap is_some ((wide_shape core).logs v Fmr) ∙ some_run (log_of core.inner.config v Fmr)

module _ (core : GroupCore) (logs : List Logs) (alike : List Bool) (stopped : Bool) (m : Meaning) (fact : LoggedFact core logs alike stopped m) (v p : ℕ) (none : is_some (log_of core.inner.config v Fmr) ≡ false) where
  no_map : (o : Option Logs) → slice_get logs v ≡ o → stopped ≡ false → fmr_or o ≡ None
  no_map None at going = refl
  no_map (Some l) at going = by l.fmr refl
    where
      by : (f : Option Missed) → l.fmr ≡ f → f ≡ None
      by None is = refl
      by (Some f) is = absurd (let clash : true ≡ false = sym ((((fact.each v l at).on going).fmr f is).run.has) ∙ wide_log core v ∙ none in cc)

  gone_by : (s d b f : Bool) → stopped ≡ s → (if s then None else (if d then None else (if b then None else (if f then None else fmr_at logs v)))) ≡ None
  gone_by true d b f is = refl
  gone_by false true b f is = refl
  gone_by false false true f is = refl
  gone_by false false false true is = refl
  gone_by false false false false is = no_map (slice_get logs v) refl is

  map_none : map_by logs core.inner.config stopped m.down v p ≡ None
  map_none = gone_by stopped m.down (nat_le (plexes_of core.inner.config v) p) (on_failed_disk core.inner.config v Fmr) refl

-- so many are copied as the plex has missed by the map in memory
pub copies_missed : (core : GroupCore) (logs : List Logs) (alike : List Bool) (stopped : Bool) (m : Meaning) → LoggedFact core logs alike stopped m → (v p n : ℕ) → n ≡ missed_regions core.inner.config v p (map_by logs core.inner.config stopped m.down v p)
    → CopiesRegions core.inner.config v n
copies_missed core logs alike stopped m fact v p n is = record {
  few = let less = few_picked (missed_or p (map_by logs core.inner.config stopped m.down v p)) (region_count core.inner.config v) in omega (arith, is, less);
  all = λ none. is ∙ ap (missed_regions core.inner.config v p) (map_none core logs alike stopped m fact v p none) ∙ count_all core.inner.config v p;
}

-- the same of an answer
pub copies_by : (r : Result ℕ Stop) (core : GroupCore) (logs : List Logs) (alike : List Bool) (stopped : Bool) (m : Meaning) → LoggedFact core logs alike stopped m → (v p : ℕ)
    → IfOk r (λ n. n ≡ missed_regions core.inner.config v p (map_by logs core.inner.config stopped m.down v p)) → IfOk r (CopiesRegions core.inner.config v)
copies_by (Ok n) core logs alike stopped m fact v p is = copies_missed core logs alike stopped m fact v p n is
copies_by (Err stop) core logs alike stopped m fact v p is = tt
