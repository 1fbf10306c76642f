-- Maps that go from memory behind an attach: the commit that their log is lost, and what the attach is then.
use Rattle.std.proofs.Common.{◌≡◌, ◌∙◌, inl, inr, ⊎_elim, ℕ, ◌+◌, ◌<◌, ◌≤◌, Bool, true, false, Option, Some, None, List, IsTrue, refl, sym, ap, subst, arith}
use Rattle.std.proofs.lemmas.Bool.{cases_lt}
use Rattle.std.specs.Prelude.{◌||◌, ◌&&◌, not, IfErr, Result, Ok, Err, is_some, slice_get}
use Rattle.vx_config.specs.Table.{greatest}
use Rattle.vx_config.specs.declared.config.Config.{Config}
use Rattle.vx_config.specs.declared.entry.VolumeLog.{VolumeLog}
use Rattle.vx_config.specs.declared.entry.VolumeLog.TheVariants.{Fmr}
use Rattle.vx_copies.specs.Commits.{MoreFailed}
use Rattle.vx_disk.specs.Shelf.{Goes, Meaning, Nothing, Or, Values}
use Rattle.vx_disk.proofs.Causing.{Rose_after, Rose_before}
use Rattle.vx_disk.proofs.Runs.{then_nothing}
use Rattle.vx_fmr.specs.Missed.{Missed}
use Rattle.vx_group.specs.Attaches.{AnyImage, HasOther, OnMissed}
use Rattle.vx_group.specs.Calls.{GroupAttaches}
use Rattle.vx_group.specs.Dets.{DetStops}
use Rattle.vx_group.specs.Holding.{GroupStands, wide}
use Rattle.vx_group.specs.Loses.{TrustsBut}
use Rattle.vx_group.specs.Regains.{HoldsPlex}
use Rattle.vx_group.specs.Stands.{inner_meaning}
use Rattle.vx_group.specs.declared.group_core.GroupCore.{GroupCore}
use Rattle.vx_group.proofs.AttachLemmas.{any_acts, on_back}
use Rattle.vx_group.proofs.CreateLemmas.{cause_before}
use Rattle.vx_group.proofs.FailingLemmas.{then_failing}
use Rattle.vx_group.proofs.HoldLemmas.{wide_shape}
use Rattle.vx_group.proofs.MendLemmas.{same_Goes}
use Rattle.vx_group.proofs.LoseLemmas.{none_parts, then_parts}
use Rattle.vx_groupmaps.specs.Loading.{on_failed_disk}
use Rattle.vx_groupmaps.specs.Missing.{OnMaps}
use Rattle.vx_kept.specs.Keeping.{Acts, SameShape}
use Rattle.vx_kept.specs.LogRuns.{log_trusted}
use Rattle.vx_kept.proofs.StateLemmas.{same_shape, then_shape}
use Rattle.vx_kept.proofs.Steps.{both_Acts, same_Acts, wide_Acts}
use Rattle.vx_logged.specs.Behind.{MapSaid}
use Rattle.vx_logs.specs.declared.logs.Logs.{Logs}
use Rattle.vx_model.specs.declared.errors.Stop.{Stop}
use Rattle.vx_model.specs.declared.errors.Stop.TheVariants.{No as Refused, OutOfMemory}
use Rattle.vx_volume.specs.Plexes.{active}
use Rattle.vx_loggroup.specs.Attaching.{LoggedAttaches, MapSource, MapsHeld, OnAttached, fmr_at, fmr_or, leaves_maps, maps_gone, went}
use Rattle.vx_loggroup.specs.Keeping.{LogsKeep, LogsStay, in_memory, logs_at, logs_or}
use Rattle.vx_loggroup.specs.LoggedVolumes.{LoggedStands}
use Rattle.vx_loggroup.proofs.AlikeLemmas.{all_whole}
use Rattle.vx_loggroup.proofs.EndedLemmas.{memory_is}
use Rattle.vx_loggroup.proofs.FollowLemmas.{copied_attaches, kept_attaches}
use Rattle.vx_loggroup.proofs.KeepingLemmas.{shape_places, stays_by}
use Rattle.vx_loggroup.proofs.StayLemmas.{each_idle}

-- ---- the commit

-- another plex than the one that is attached is ACTIVE
pub source_other : (c d : GroupCore) (a : List Bool) (s : Bool) (v p q : ℕ) (f : Option Missed) (m m' : Meaning) → MapSource c.inner.config a s v p q → GroupAttaches v p f c d m m' → HasOther d.inner.config v p
source_other c d a s v p q f m m' source it = record { plex = q; is_on = it.others v q (λ one same. other same) ∙ source.on; apart = other }
  where
    other : q ≡ p → ⊥
    other same = let clash : false ≡ true = sym source.off ∙ ap (active c.inner.config v) (sym same) ∙ source.on in cc

pub idle_logged : (c d : GroupCore) (ls : List Logs) (a : List Bool) (s : Bool) (m m' : Meaning) → LoggedStands c ls a s m → GroupStands d m' → SameShape d.inner.config c.inner.config → Goes Nothing (inner_meaning (wide c) m) (inner_meaning (wide d) m') → Acts Nothing AnyImage m m'
    → LoggedStands d ls a s m'
idle_logged c d ls a s m m' stands group shape goes acts = all_whole c d ls a s m m' stands group goes (each_idle AnyImage c d m m' stands.group shape goes acts)

fmr_logs : (o : Option Logs) → fmr_or o ≡ (logs_or o).fmr
fmr_logs None = refl
fmr_logs (Some l) = refl

-- the log is held as lost
pub said_lost : (d : GroupCore) (v : ℕ) (ls : List Logs) → log_trusted d.inner.config v Fmr ≡ false → MapSaid d v (logs_at ls v)
said_lost d v ls lost = inl (λ told none. let clash : false ≡ true = sym lost ∙ (wide_shape d).trusted v Fmr told in cc)

-- it is in memory, or held as lost, or no serial is left
pub said_there : (d : GroupCore) (v : ℕ) (ls : List Logs) → (d.inner.config.serial + 9 < greatest → log_trusted d.inner.config v Fmr ≡ true → fmr_at ls v ≡ None → false ≡ true) → MapSaid d v (logs_at ls v)
said_there d v ls there = elim (cases_lt (d.inner.config.serial + 9) greatest) [
  | inl lt ↦ inl (λ told none. let clash : false ≡ true = there lt ((wide_shape d).trusted v Fmr told) (fmr_logs (slice_get ls v) ∙ none) in cc)
  | inr full ↦ inr full
]

-- nothing was done
pub none_attaches : (v p : ℕ) (f : Option Missed) (c : GroupCore) (m : Meaning) → GroupAttaches v p f c c m m
none_attaches v p f c m = record {
  goes = same_Goes (inner_meaning (wide c) m);
  acts = any_acts Nothing (OnMissed c.inner.config v p f) AnyImage m m (same_Acts AnyImage m) (λ u k x none. absurd none);
  shape = same_shape c.inner.config;
  others = λ w q apart. refl;
  parts = none_parts c.inner.config;
  faults = refl;
  unsure = refl;
}

pub all_err : {T : Type 0} {E : Type 0} {P : Type 0} (r : Result T E) → P → IfErr r (λ e. P)
all_err (Ok x) is = tt
all_err (Err e) is = is

-- all logs but this one are in use as before
pub lost_stays : (c d : GroupCore) (v : ℕ) (ls : List Logs) (m m' : Meaning) → SameShape d.inner.config c.inner.config → MoreFailed m m' c.inner.config.disks d.inner.config.disks → TrustsBut v Fmr c.inner.config d.inner.config → fmr_at ls v ≡ None
    → LogsStay c.inner.config d.inner.config ls ls m m'
lost_stays c d v ls m m' shape failing trusts none =
    stays_by c.inner.config d.inner.config ls ls m m' (shape_places c.inner.config d.inner.config shape) failing.blamed
    (λ w log has told. trusts.each w log (λ same. away w log has same.0 same.1) told) (λ w log s at was. inl was.has)
  where
    away : (w : ℕ) (log : VolumeLog) → in_memory ls w log ≡ true → w ≡ v → log ≡ Fmr → ⊥
    away w log has one two =
        let here : in_memory ls v Fmr ≡ true = subst (λ (x : ℕ). in_memory ls x Fmr ≡ true) one (subst (λ (k : VolumeLog). in_memory ls w k ≡ true) two has) in
        let clash : false ≡ true = sym (ap is_some none) ∙ memory_is ls v ∙ here in cc

-- ---- behind an attach, and a copy of a map

module _ (v p : ℕ) (f : Option Missed) (c d e : GroupCore) (m m1 m2 : Meaning) (second : GroupAttaches v p f d e m1 m2) where
  pub lost_attaches : (leaves : Bool) → LoggedAttaches leaves v p f c d m m1 → LoggedAttaches leaves v p f c e m m2
  lost_attaches leaves it = record {
    goes = then_nothing Nothing (inner_meaning (wide c) m) (inner_meaning (wide d) m1) (inner_meaning (wide e) m2) it.goes second.goes;
    acts = by leaves it.acts;
    shape = then_shape e.inner.config d.inner.config c.inner.config second.shape it.shape;
    others = λ w q apart. second.others w q apart ∙ it.others w q apart;
    parts = then_parts c.inner.config d.inner.config e.inner.config it.parts second.parts;
    faults = second.faults ∙ it.faults;
    unsure = second.unsure ∙ it.unsure;
  }
    where
      grown : (W : Values) → ((u b : ℕ) (x : List ℕ) → OnMissed c.inner.config v p f u b x → W u b x) → Acts W AnyImage m m1 → Acts W AnyImage m m2
      grown W into acts =
          wide_Acts (Or W (OnMissed d.inner.config v p f)) W AnyImage m m2 (both_Acts W (OnMissed d.inner.config v p f) AnyImage AnyImage m m1 m2 acts second.acts (λ i now. tt))
          (λ u b x. ⊎_elim (λ (put : W u b x). put) (λ (put : OnMissed d.inner.config v p f u b x). into u b x (on_back c.inner.config d.inner.config v p f it.shape u b x put)))

      by : (b : Bool) → Acts (OnAttached b c.inner.config v p f) AnyImage m m1 → Acts (OnAttached b c.inner.config v p f) AnyImage m m2
      by true acts = grown (OnMissed c.inner.config v p f) (λ u b x put. put) acts
      by false acts = grown (Or (OnMissed c.inner.config v p f) (OnMaps c.inner.config v)) (λ u b x put. inl put) acts

pub lost_holds : {S : Type 0} (meaning : S → Meaning) (c d e : Config) (v p : ℕ) (s1 s2 : S) → ((u : ℕ) → (meaning s1).faults u ≤ (meaning s2).faults u) → MoreFailed (meaning s1) (meaning s2) d.disks e.disks → HoldsPlex meaning c d v p s1 → HoldsPlex meaning c e v p s2
lost_holds meaning c d e v p s1 s2 faults more it = record {
  moment = it.moment;
  config = it.config;
  volumes = it.volumes;
  now = it.now;
  rises = λ u. (let one = it.rises u in let two = faults u in omega (arith, one, two));
  failing = then_failing (meaning it.moment) (meaning s1) (meaning s2) it.rises faults it.config.disks d.disks e.disks it.failing more;
}

pub lost_keeps : (c d e : GroupCore) (ls ks : List Logs) (m m1 m2 : Meaning) → SameShape d.inner.config c.inner.config → ((u : ℕ) → m.faults u ≤ m1.faults u) → ((u : ℕ) → m1.faults u ≤ m2.faults u) → (IsTrue m1.down → IsTrue m2.down) → LogsKeep c d ls ks m m1
    → LogsStay d.inner.config e.inner.config ks ks m1 m2 → (greatest ≤ d.inner.config.serial + 9 → e ≡ d) → LogsKeep c e ls ks m m2
lost_keeps c d e ls ks m m1 m2 shape one two falls first second full = record {
  each = λ v log s at uses. elim (first.each v log s at uses) [
    | inl is ↦ elim (second.each v log s (shape_places c.inner.config d.inner.config shape v log s at) is) [
      | inl now ↦ inl now
      | inr (inl rose) ↦ inr (inl (Rose_before (m.faults s.disk) (m1.faults s.disk) (m2.faults s.disk) (one s.disk) rose))
      | inr (inr down) ↦ inr (inr (inl down))
    ]
    | inr (inl rose) ↦ inr (inl (Rose_after (m.faults s.disk) (m1.faults s.disk) (m2.faults s.disk) rose (two s.disk)))
    | inr (inr (inl down)) ↦ inr (inr (inl (falls down)))
    | inr (inr (inr far)) ↦ inr (inr (inr (subst (λ (x : GroupCore). greatest ≤ x.inner.config.serial + 9) (sym (full far)) far)))
  ];
}

pub stop_before : (T : Type 0) (U : Type 0) (m m1 m2 : Meaning) (stop : Stop) → ((d : ℕ) → m.disk_faults d ≤ m1.disk_faults d) → DetStops {T = U} m1 m2 (Err stop) → DetStops {T = T} m m2 (Err stop)
stop_before T U m m1 m2 (Refused why) less is = cause_before m m1 m2 less why is
stop_before T U m m1 m2 OutOfMemory less is = is

-- ---- which maps a refused attach leaves

went_by : (a b : Option Missed) → is_some a ≡ true → b ≡ None → is_some a && not (is_some b) ≡ true
went_by (Some f) b some none = ap (λ (o : Option Missed). not (is_some o)) none
went_by None b some none = some

leaves_by : (same stopped gone : Bool) → same ≡ false → stopped ≡ false → gone ≡ true → (same || stopped) || not gone ≡ false
leaves_by true stopped gone one two three = one
leaves_by false true gone one two three = two
leaves_by false false gone one two three = ap not three

-- none went where they are as they were
pub still_leaves : (b : Bool) (ls : List Logs) (v : ℕ) → b || not (went ls ls v) ≡ true
still_leaves true ls v = refl
still_leaves false ls v = by (fmr_at ls v)
  where
    by : (o : Option Missed) → not (is_some o && not (is_some o)) ≡ true
    by None = refl
    by (Some f) = refl

-- maps that were in memory went in it
went_leaves : (same stopped : Bool) (ls ks : List Logs) (v : ℕ) (f : Missed) → same ≡ false → stopped ≡ false → fmr_at ls v ≡ Some f → fmr_at ks v ≡ None → (same || stopped) || not (went ls ks v) ≡ false
went_leaves same stopped ls ks v f one two was none = leaves_by same stopped (went ls ks v) one two (went_by (fmr_at ls v) (fmr_at ks v) (ap is_some was) none)

pub refused_maps : (same stopped : Bool) (ls ks : List Logs) (v : ℕ) → same ≡ false → stopped ≡ false → fmr_at ks v ≡ None → (fmr_at ls v ≡ None → ks ≡ ls) → (same || stopped) || not (went ls ks v) ≡ true → ks ≡ ls
refused_maps same stopped ls ks v one two none still leaves = by (fmr_at ls v) refl
  where
    by : (o : Option Missed) → fmr_at ls v ≡ o → ks ≡ ls
    by None is = still is
    by (Some f) is = absurd (let clash : false ≡ true = sym (went_leaves same stopped ls ks v f one two is none) ∙ leaves in cc)

-- what was written: where maps were in memory, also of them
pub refused_attaches : (same stopped : Bool) (ls ks : List Logs) (v p : ℕ) (f : Option Missed) (c d e : GroupCore) (m m1 m2 m3 : Meaning) → same ≡ false → stopped ≡ false → fmr_at ks v ≡ None → (fmr_at ls v ≡ None → m2 ≡ m1) → GroupAttaches v p f c d m m1 → Goes (OnMaps (wide d).config v) m1 m2
    → Goes Nothing (inner_meaning (wide d) m1) (inner_meaning (wide d) m2) → GroupAttaches v p f d e m2 m3 → LoggedAttaches ((same || stopped) || not (went ls ks v)) v p f c e m m3
refused_attaches same stopped ls ks v p f c d e m m1 m2 m3 one two none still it maps goes last = by (fmr_at ls v) refl
  where
    by : (o : Option Missed) → fmr_at ls v ≡ o → LoggedAttaches ((same || stopped) || not (went ls ks v)) v p f c e m m3
    by None is = lost_attaches v p f c d e m m2 m3 last ((same || stopped) || not (went ls ks v)) (kept_attaches ((same || stopped) || not (went ls ks v)) v p f c d m m2 (subst (λ (x : Meaning). GroupAttaches v p f c d m x) (sym (still is)) it))
    by (Some g) is = lost_attaches v p f c d e m m2 m3 last ((same || stopped) || not (went ls ks v)) (copied_attaches ((same || stopped) || not (went ls ks v)) v p f c d m m1 m2 (went_leaves same stopped ls ks v g one two is none) it maps goes)

-- ---- maps that were given up before

-- of those on a disk that is held as failed none are there, and the others are as they were
pub held_went : (c : Config) (v : ℕ) (old mid new : List Logs) → MapsHeld c old mid → went mid new v ≡ maps_gone c old new v
held_went c v old mid new held = by (on_failed_disk c v Fmr) refl
  where
    by : (x : Bool) → on_failed_disk c v Fmr ≡ x → went mid new v ≡ maps_gone c old new v
    by true failed =
        ap (λ (o : Option Missed). is_some o && not (is_some (fmr_at new v))) (held.gone v failed)
        ∙ sym (ap (λ (x : Bool). not x && went old new v) failed)
    by false good =
        ap (λ (o : Option Logs). is_some (fmr_or o) && not (is_some (fmr_at new v))) (held.same v good)
        ∙ sym (ap (λ (x : Bool). not x && went old new v) good)

pub held_leaves : {T : Type 0} {E : Type 0} (same stopped : Bool) (c : Config) (v : ℕ) (old mid new : List Logs) (r : Result T E) → MapsHeld c old mid → leaves_maps same stopped (went mid new v) r ≡ leaves_maps same stopped (maps_gone c old new v) r
held_leaves same stopped c v old mid new r held = ap (λ (b : Bool). leaves_maps same stopped b r) (held_went c v old mid new held)
