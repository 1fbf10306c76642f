-- Which logs a group uses behind a call, and behind two in a row.
use Rattle.std.proofs.Common.{◌≡◌, ◌⊎◌, ◌∙◌, inl, inr, ℕ, zero, suc, ◌+◌, ◌<◌, ◌≤◌, Bool, true, false, Option, Some, None, List, [], ◌∷◌, ◌++◌, length, IsTrue, refl, sym, ap, subst, arith}
use Rattle.std.proofs.Math.ListN.{set}
use Rattle.std.proofs.lemmas.Bool.{cases_eq, not-true}
use Rattle.std.proofs.lemmas.List.{length-set}
use Rattle.std.proofs.lemmas.Option.{slice_get_within}
use Rattle.std.specs.Prelude.{◌&&◌, not, slice_get}
use Rattle.vx_config.specs.Changes.{lost_as}
use Rattle.vx_config.specs.Table.{greatest}
use Rattle.vx_config.specs.declared.config.Config.{Config}
use Rattle.vx_config.specs.declared.entry.LogEntry.{LogEntry}
use Rattle.vx_config.specs.declared.entry.Subdisk.{Subdisk}
use Rattle.vx_config.specs.declared.entry.VolumeEntry.{VolumeEntry}
use Rattle.vx_config.specs.declared.entry.VolumeLog.{VolumeLog}
use Rattle.vx_config.specs.declared.entry.VolumeLog.TheVariants.{Drl, Fmr}
use Rattle.vx_copies.specs.Marks.{failed_at}
use Rattle.vx_copies.proofs.OneTry.{held_or}
use Rattle.vx_disk.specs.Counts.{Rose}
use Rattle.vx_disk.specs.Shelf.{Meaning}
use Rattle.vx_disk.proofs.Causing.{Rose_after, Rose_before}
use Rattle.vx_group.specs.Loses.{TrustsStill}
use Rattle.vx_group.specs.declared.group_core.GroupCore.{GroupCore}
use Rattle.vx_grouplogs.specs.Gone.{has_log}
use Rattle.vx_kept.specs.Keeping.{Extends, SameShape, frame, frame_at, frame_or}
use Rattle.vx_kept.specs.LogRuns.{log_place, log_trusted, run_or}
use Rattle.vx_layout.proofs.Pairs.{and_left, and_right}
use Rattle.vx_logged.specs.Behind.{AreKept}
use Rattle.vx_logged.specs.Logged.{TrustsIn}
use Rattle.vx_logs.specs.declared.logs.Logs.{Logs}
use Rattle.vx_maplog.specs.Logs.{log_or}
use Rattle.vx_loggroup.specs.Keeping.{KeptOr, LogsKeep, LogsKept, LogsStay, has_or, in_memory, lies_well, logs_at, logs_or, uses_log}
use Rattle.vx_loggroup.proofs.SetLemmas.{item_at, set_here, set_other}

-- ---- what is in use

-- a log in use is in memory and not lost, and its disk is held as good
pub record LogUsed (c : Config) (l : List Logs) (v : ℕ) (log : VolumeLog) (s : Subdisk) : Type 0 where
  pub has : in_memory l v log ≡ true
  pub trusted : log_trusted c v log ≡ true
  pub good : failed_at c.disks s.disk ≡ false

and_true : (a b : Bool) → a ≡ true → b ≡ true → a && b ≡ true
and_true true b one two = two
and_true false b one two = one

pub used_parts : (c : Config) (l : List Logs) (v : ℕ) (log : VolumeLog) (s : Subdisk) → log_place c v log ≡ Some s → uses_log c l v log ≡ true → LogUsed c l v log s
unfolding uses_log
used_parts c l v log s at is =
    let rest = and_right (in_memory l v log) (log_trusted c v log && lies_well c (log_place c v log)) is in
    record {
      has = and_left (in_memory l v log) (log_trusted c v log && lies_well c (log_place c v log)) is;
      trusted = and_left (log_trusted c v log) (lies_well c (log_place c v log)) rest;
      good = not-true (failed_at c.disks s.disk) (sym (ap (lies_well c) at) ∙ and_right (log_trusted c v log) (lies_well c (log_place c v log)) rest);
    }

pub used_from : (c : Config) (l : List Logs) (v : ℕ) (log : VolumeLog) (s : Subdisk) → log_place c v log ≡ Some s → LogUsed c l v log s → uses_log c l v log ≡ true
unfolding uses_log
used_from c l v log s at it =
    and_true (in_memory l v log) (log_trusted c v log && lies_well c (log_place c v log)) it.has
    (and_true (log_trusted c v log) (lies_well c (log_place c v log)) it.trusted (ap (lies_well c) at ∙ ap not it.good))

-- ---- where logs lie

unlost : (o : Option LogEntry) → run_or (lost_as false o) ≡ run_or o
unlost None = refl
unlost (Some e) = refl

frame_place : (o : Option VolumeEntry) (log : VolumeLog) → run_or (log_or log (frame_or o)) ≡ run_or (log_or log o)
unfolding frame
frame_place None log = refl
frame_place (Some v) Drl = unlost v.drl
frame_place (Some v) Fmr = unlost v.fmr

pub frames_places : (c d : Config) → ((v : ℕ) → frame_at d v ≡ frame_at c v) → (v : ℕ) (log : VolumeLog) (s : Subdisk) → log_place c v log ≡ Some s → log_place d v log ≡ Some s
unfolding log_place
frames_places c d frames v log s at = sym (frame_place (slice_get d.volumes v) log) ∙ ap (λ (o : Option VolumeEntry). run_or (log_or log o)) (frames v) ∙ frame_place (slice_get c.volumes v) log ∙ at

pub shape_places : (c d : Config) → SameShape d c → (v : ℕ) (log : VolumeLog) (s : Subdisk) → log_place c v log ≡ Some s → log_place d v log ≡ Some s
shape_places c d shape v log s at = shape.logs v log ∙ at

place_low : (c : Config) (v : ℕ) (log : VolumeLog) (s : Subdisk) → log_place c v log ≡ Some s → v < length c.volumes
unfolding log_place
place_low c v log s at = by (slice_get c.volumes v) refl
  where
    by : (o : Option VolumeEntry) → slice_get c.volumes v ≡ o → v < length c.volumes
    by None is = absurd (let clash : None ≡ Some s = sym (ap (λ (o : Option VolumeEntry). run_or (log_or log o)) is) ∙ at in cc)
    by (Some x) is = slice_get_within c.volumes v x is

pub extends_places : (c d : Config) → Extends d c → (v : ℕ) (log : VolumeLog) (s : Subdisk) → log_place c v log ≡ Some s → log_place d v log ≡ Some s
extends_places c d shape v log s at = shape.logs v log (place_low c v log s at) ∙ at

-- ---- what is in memory

pub memory_at : (ls : List Logs) (v : ℕ) (l : Logs) (log : VolumeLog) → slice_get ls v ≡ Some l → in_memory ls v log ≡ has_log log l
memory_at ls v l log at = ap (has_or log) at

pub memory_here : (ls : List Logs) (v : ℕ) (k : Logs) (log : VolumeLog) → v < length ls → in_memory (set ls v k) v log ≡ has_log log k
memory_here ls v k log lt =
    let it = item_at (set ls v k) v (let long = length-set ls v k in omega (arith, lt, long)) in
    ap (has_or log) it.1 ∙ ap (λ (x : Logs). has_log log x) (sym (set_here ls v k it.0 it.1))

-- the item that is there
pub memory_item : (ls : List Logs) (v : ℕ) (log : VolumeLog) → in_memory ls v log ≡ true → (l : Logs) × (slice_get ls v ≡ Some l) × (has_log log l ≡ true)
memory_item ls v log is = by (slice_get ls v) refl
  where
    by : (o : Option Logs) → slice_get ls v ≡ o → (l : Logs) × (slice_get ls v ≡ Some l) × (has_log log l ≡ true)
    by None at = absurd (let clash : false ≡ true = sym (ap (has_or log) at) ∙ is in cc)
    by (Some l) at = (l, at, sym (ap (has_or log) at) ∙ is)

pub memory_logs : (ls : List Logs) (v : ℕ) (log : VolumeLog) → in_memory ls v log ≡ true → has_log log (logs_at ls v) ≡ true
memory_logs ls v log is = let it = memory_item ls v log is in ap (λ (o : Option Logs). has_log log (logs_or o)) it.1 ∙ it.2

pub appended : (ls ks : List Logs) (v : ℕ) (l : Logs) → slice_get ls v ≡ Some l → slice_get (ls ++ ks) v ≡ Some l
appended [] ks v l at = absurd (let clash : None ≡ Some l = at in cc)
appended (x ∷ ls) ks zero l at = at
appended (x ∷ ls) ks (suc v) l at = appended ls ks v l at

pub memory_more : (ls ks : List Logs) (v : ℕ) (log : VolumeLog) → in_memory ls v log ≡ true → in_memory (ls ++ ks) v log ≡ true
memory_more ls ks v log is = let it = memory_item ls v log is in ap (has_or log) (appended ls ks v it.0 it.1) ∙ it.2

-- ---- one call

-- the count of the disk rose, or the shelf is down
abbrev pub MayGo : Subdisk → Meaning → Meaning → Type 0
MayGo s m m' = Rose (m.faults s.disk) (m'.faults s.disk) ⊎ IsTrue m'.down

module _ (c d : Config) (l k : List Logs) (m m' : Meaning)
    (places : (v : ℕ) (log : VolumeLog) (s : Subdisk) → log_place c v log ≡ Some s → log_place d v log ≡ Some s)
    (disks : (u : ℕ) → failed_at c.disks u ≡ false → failed_at d.disks u ≡ true → Rose (m.faults u) (m'.faults u)) where
  pub stays_by : ((v : ℕ) (log : VolumeLog) → in_memory k v log ≡ true → log_trusted c v log ≡ true → log_trusted d v log ≡ true)
      → ((v : ℕ) (log : VolumeLog) (s : Subdisk) → log_place c v log ≡ Some s → LogUsed c l v log s → (in_memory k v log ≡ true) ⊎ MayGo s m m') → LogsStay c d l k m m'
  stays_by trusts holds = record {
    each = λ v log s at uses.
        let was = used_parts c l v log s at uses in
        elim (holds v log s at was) [
          | inl has ↦ elim (held_or d.disks s.disk) [
            | inl good ↦ inl (used_from d k v log s (places v log s at) (record { has = has; trusted = trusts v log has was.trusted; good = good }))
            | inr failed ↦ inr (inl (disks s.disk was.good failed))
          ]
          | inr goes ↦ inr goes
        ];
  }

  -- no log goes from memory
  pub stays_more : TrustsStill c d → ((v : ℕ) (log : VolumeLog) → in_memory l v log ≡ true → in_memory k v log ≡ true) → LogsStay c d l k m m'
  stays_more trusts more = stays_by (λ v log has told. trusts.each v log told) (λ v log s at was. inl (more v log was.has))

-- the logs in memory are as they were
pub stays_same : (c d : Config) (l : List Logs) (m m' : Meaning) → ((v : ℕ) (log : VolumeLog) (s : Subdisk) → log_place c v log ≡ Some s → log_place d v log ≡ Some s)
    → ((u : ℕ) → failed_at c.disks u ≡ false → failed_at d.disks u ≡ true → Rose (m.faults u) (m'.faults u)) → TrustsStill c d → LogsStay c d l l m m'
stays_same c d l m m' places disks trusts = stays_more c d l l m m' places disks trusts (λ v log has. has)

-- and those of volume v alone may be held as lost, where they are not in memory
pub stays_in : (c d : Config) (v : ℕ) (l : List Logs) (m m' : Meaning) → ((w : ℕ) (log : VolumeLog) (s : Subdisk) → log_place c w log ≡ Some s → log_place d w log ≡ Some s)
    → ((u : ℕ) → failed_at c.disks u ≡ false → failed_at d.disks u ≡ true → Rose (m.faults u) (m'.faults u)) → TrustsIn v (logs_at l v) c d → LogsStay c d l l m m'
stays_in c d v l m m' places disks trusts =
    stays_by c d l l m m' places disks (λ w log has told. trusts.each w log (λ same. memory_logs l v log (subst (λ (n : ℕ). in_memory l n log ≡ true) same has)) told) (λ w log s at was. inl was.has)

-- the configuration is as it was, and what is in memory too
pub stays_none : (c : Config) (l : List Logs) (m m' : Meaning) → LogsStay c c l l m m'
stays_none c l m m' = record { each = λ v log s at uses. inl uses }

-- the logs of volume v are others
module _ (c d : Config) (v : ℕ) (ls : List Logs) (l k : Logs) (m m' : Meaning) (at_v : slice_get ls v ≡ Some l)
    (places : (w : ℕ) (log : VolumeLog) (s : Subdisk) → log_place c w log ≡ Some s → log_place d w log ≡ Some s)
    (disks : (u : ℕ) → failed_at c.disks u ≡ false → failed_at d.disks u ≡ true → Rose (m.faults u) (m'.faults u))
    (trusts : TrustsIn v k c d) (drop : (log : VolumeLog) (s : Subdisk) → log_place c v log ≡ Some s → has_log log l ≡ true → has_log log k ≡ false → MayGo s m m') where
  low_v : v < length ls
  low_v = slice_get_within ls v l at_v

  kept_here : (log : VolumeLog) (s : Subdisk) → log_place c v log ≡ Some s → in_memory ls v log ≡ true → (in_memory (set ls v k) v log ≡ true) ⊎ MayGo s m m'
  kept_here log s at has = by (has_log log k) refl
    where
      by : (b : Bool) → has_log log k ≡ b → (in_memory (set ls v k) v log ≡ true) ⊎ MayGo s m m'
      by true is = inl (memory_here ls v k log low_v ∙ is)
      by false is = inr (drop log s at (sym (memory_at ls v l log at_v) ∙ has) is)

  kept_at : (w : ℕ) (log : VolumeLog) (s : Subdisk) → log_place c w log ≡ Some s → in_memory ls w log ≡ true → (in_memory (set ls v k) w log ≡ true) ⊎ MayGo s m m'
  kept_at w log s at has = elim (cases_eq w v) [
    | inl same ↦ subst (λ (n : ℕ). (in_memory (set ls v k) n log ≡ true) ⊎ MayGo s m m') (sym same) (kept_here log s (subst (λ (n : ℕ). log_place c n log ≡ Some s) same at) (subst (λ (n : ℕ). in_memory ls n log ≡ true) same has))
    | inr apart ↦ inl (ap (has_or log) (set_other ls v k w apart) ∙ has)
  ]

  pub stays_set : LogsStay c d ls (set ls v k) m m'
  stays_set =
      stays_by c d ls (set ls v k) m m' places disks
      (λ w log has told. trusts.each w log (λ same. sym (memory_here ls v k log low_v) ∙ subst (λ (n : ℕ). in_memory (set ls v k) n log ≡ true) same has) told)
      (λ w log s at was. kept_at w log s at was.has)

-- ---- two calls

goes_on : (s : Subdisk) (m m1 m2 : Meaning) → ((u : ℕ) → m1.faults u ≤ m2.faults u) → (IsTrue m1.down → IsTrue m2.down) → MayGo s m m1 → MayGo s m m2
goes_on s m m1 m2 two falls (inl rose) = inl (Rose_after (m.faults s.disk) (m1.faults s.disk) (m2.faults s.disk) rose (two s.disk))
goes_on s m m1 m2 two falls (inr down) = inr (falls down)

goes_back : (s : Subdisk) (m m1 m2 : Meaning) → ((u : ℕ) → m.faults u ≤ m1.faults u) → MayGo s m1 m2 → MayGo s m m2
goes_back s m m1 m2 one (inl rose) = inl (Rose_before (m.faults s.disk) (m1.faults s.disk) (m2.faults s.disk) (one s.disk) rose)
goes_back s m m1 m2 one (inr down) = inr down

pub then_stays : (c d e : Config) (l k j : List Logs) (m m1 m2 : Meaning) → ((v : ℕ) (log : VolumeLog) (s : Subdisk) → log_place c v log ≡ Some s → log_place d v log ≡ Some s)
    → ((u : ℕ) → m.faults u ≤ m1.faults u) → ((u : ℕ) → m1.faults u ≤ m2.faults u) → (IsTrue m1.down → IsTrue m2.down) → LogsStay c d l k m m1 → LogsStay d e k j m1 m2 → LogsStay c e l j m m2
then_stays c d e l k j m m1 m2 places one two falls first second = record {
  each = λ v log s at uses. elim (first.each v log s at uses) [
    | inl is ↦ elim (second.each v log s (places v log s at) is) [
      | inl now ↦ inl now
      | inr goes ↦ inr (goes_back s m m1 m2 one goes)
    ]
    | inr goes ↦ inr (goes_on s m m1 m2 two falls goes)
  ];
}

-- of a group
pub stay_keeps : (c d : GroupCore) (l k : List Logs) (m m' : Meaning) → LogsStay c.inner.config d.inner.config l k m m' → LogsKeep c d l k m m'
stay_keeps c d l k m m' stay = record {
  each = λ v log s at uses. elim (stay.each v log s at uses) [
    | inl is ↦ inl is
    | inr (inl rose) ↦ inr (inl rose)
    | inr (inr down) ↦ inr (inr (inl down))
  ];
}

pub then_keeps : (c d e : GroupCore) (l k j : List Logs) (m m1 m2 : Meaning) → ((v : ℕ) (log : VolumeLog) (s : Subdisk) → log_place c.inner.config v log ≡ Some s → log_place d.inner.config v log ≡ Some s)
    → ((u : ℕ) → m.faults u ≤ m1.faults u) → ((u : ℕ) → m1.faults u ≤ m2.faults u) → (IsTrue m1.down → IsTrue m2.down) → LogsStay c.inner.config d.inner.config l k m m1 → LogsKeep d e k j m1 m2 → LogsKeep c e l j m m2
then_keeps c d e l k j m m1 m2 places one two falls first second = record {
  each = λ v log s at uses. elim (first.each v log s at uses) [
    | inl is ↦ again s (second.each v log s (places v log s at) is)
    | inr goes ↦ whole s (goes_on s m m1 m2 two falls goes)
  ];
}
  where
    whole : {A : Type 0} {B : Type 0} (s : Subdisk) → MayGo s m m2 → A ⊎ Rose (m.faults s.disk) (m2.faults s.disk) ⊎ IsTrue m2.down ⊎ B
    whole s (inl rose) = inr (inl rose)
    whole s (inr down) = inr (inr (inl down))

    again : {A : Type 0} {B : Type 0} (s : Subdisk) → A ⊎ Rose (m1.faults s.disk) (m2.faults s.disk) ⊎ IsTrue m2.down ⊎ B → A ⊎ Rose (m.faults s.disk) (m2.faults s.disk) ⊎ IsTrue m2.down ⊎ B
    again s (inl now) = inl now
    again s (inr (inl rose)) = inr (inl (Rose_before (m.faults s.disk) (m1.faults s.disk) (m2.faults s.disk) (one s.disk) rose))
    again s (inr (inr rest)) = inr (inr rest)

-- no serial is left
pub full_keeps : (c d : GroupCore) (l k : List Logs) (m m' : Meaning) → greatest ≤ d.inner.config.serial + 9 → LogsKeep c d l k m m'
full_keeps c d l k m m' full = record { each = λ v log s at uses. inr (inr (inr full)) }

-- a read
pub config_keeps : (c d : GroupCore) (l : List Logs) (m m' : Meaning) → d.inner.config ≡ c.inner.config → LogsKeep c d l l m m'
config_keeps c d l m m' same = record { each = λ v log s at uses. inl (ap (λ (x : Config). uses_log x l v log) same ∙ uses) }

-- ---- which logs are kept

pub kept_set : (core : GroupCore) (ls : List Logs) (v : ℕ) (k : Logs) → AreKept core v k → LogsKept core (set ls v k) v
kept_set core ls v k kept = by (slice_get (set ls v k) v) refl
  where
    by : (o : Option Logs) → slice_get (set ls v k) v ≡ o → KeptOr core v (slice_get (set ls v k) v)
    by None is = subst (KeptOr core v) (sym is) tt
    by (Some y) is = subst (KeptOr core v) (sym is) (subst (AreKept core v) (set_here ls v k y is) kept)

-- what is said of the item is said of the list
pub here_trusts : (v : ℕ) (ls : List Logs) (k : Logs) → slice_get ls v ≡ Some k → (c d : Config) → TrustsIn v k c d → TrustsIn v (logs_at ls v) c d
here_trusts v ls k at c d trusts = record { each = λ w log has told. trusts.each w log (λ same. sym (ap (λ (o : Option Logs). has_log log (logs_or o)) at) ∙ has same) told }
