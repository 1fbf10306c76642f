-- Logs of volumes that are in memory or held as lost, behind a flush, behind the calls of a detach and behind a volume that is made.
use Rattle.std.proofs.Common.{◌≡◌, ◌⊎◌, ◌∙◌, inl, inr, ℕ, ◌+◌, ◌<◌, ◌≤◌, Bool, true, false, IsTrue, Option, Some, None, List, ◌++◌, length, refl, sym, ap, subst, arith, is_some}
use Rattle.std.proofs.Math.ListN.{set}
use Rattle.std.proofs.lemmas.Bool.{cases_eq, cases_lt}
use Rattle.std.proofs.lemmas.List.{length-set}
use Rattle.std.proofs.lemmas.Option.{same_Some, slice_get_within}
use Rattle.std.specs.Prelude.{OnOk, Result, Ok, Err, slice_get}
use Rattle.vx_config.specs.Changes.{lost}
use Rattle.vx_config.specs.Table.{greatest}
use Rattle.vx_config.specs.declared.config.Config.{Config}
use Rattle.vx_config.specs.declared.entry.VolumeLog.{VolumeLog}
use Rattle.vx_config.specs.declared.entry.VolumeLog.TheVariants.{Drl, Fmr}
use Rattle.vx_disk.specs.Shelf.{Meaning, Nothing}
use Rattle.vx_group.specs.Holding.{GroupStands, wide}
use Rattle.vx_group.specs.declared.group_core.GroupCore.{GroupCore}
use Rattle.vx_group.proofs.HoldLemmas.{wide_shape}
use Rattle.vx_group.proofs.TrustingLemmas.{trusting_others}
use Rattle.vx_grouplogs.specs.Gone.{has_log}
use Rattle.vx_group.specs.Settles.{ReadsOne}
use Rattle.vx_kept.specs.Keeping.{Extends}
use Rattle.vx_kept.specs.LogRuns.{log_trusted}
use Rattle.vx_kept.specs.PlexActs.{PlexActs}
use Rattle.vx_logged.specs.Behind.{AreKept, BothKept, MapSaid}
use Rattle.vx_logged.specs.Logged.{Narrowed}
use Rattle.vx_logged.proofs.KeptLemmas.{both_kept, both_later, log_later, map_later}
use Rattle.vx_logged.proofs.StandLemmas.{inner_wide, narrowed_then}
use Rattle.vx_logs.specs.declared.logs.Logs.{Logs}
use Rattle.vx_maplog.specs.Logs.{used_or}
use Rattle.vx_volume.specs.Plexes.{active}
use Rattle.vx_loggroup.specs.Detaching.{MapsBegin, ReadsAlike}
use Rattle.vx_loggroup.specs.Fresh.{LogsFirst}
use Rattle.vx_loggroup.specs.Keeping.{KeptOr, LogsKept, LogsSure, SaysLosses, SureKept, TrustsNew, logs_at, logs_or}
use Rattle.vx_loggroup.proofs.KeepingLemmas.{appended, kept_set}
use Rattle.vx_loggroup.proofs.SetLemmas.{item_at, set_here, set_other}

-- ---- answers

-- what is promised behind an Ok under a premise
pub ok_under : {T E A : Type 0} (P : Type 0) (r : Result T E) → (A → OnOk r P) → OnOk r (A → P)
ok_under P (Ok x) f = f
ok_under P (Err e) f = tt

-- ---- one volume

pub kept_each : (core : GroupCore) (ls : List Logs) (v : ℕ) → ((l : Logs) → slice_get ls v ≡ Some l → AreKept core v l) → LogsKept core ls v
kept_each core ls v each = by (slice_get ls v) refl
  where
    by : (o : Option Logs) → slice_get ls v ≡ o → KeptOr core v (slice_get ls v)
    by None is = subst (KeptOr core v) (sym is) tt
    by (Some l) is = subst (KeptOr core v) (sym is) (each l is)

-- calls that trust no log anew, and leave the logs as they were
pub sure_kept : (c d : GroupCore) (ls ks : List Logs) (v : ℕ) → Narrowed c d → slice_get ks v ≡ slice_get ls v → LogsSure c ls v → LogsKept d ks v
sure_kept c d ls ks v narrow same sure = kept_each d ks v (λ l is. both_kept d v l (both_later c d v l narrow (sure.each l (sym same ∙ is))))

pub sure_or : (core : GroupCore) (ls : List Logs) (v : ℕ) → LogsKept core ls v → LogsSure core ls v ⊎ (greatest ≤ core.inner.config.serial + 9)
sure_or core ls v kept = by (slice_get ls v) refl kept
  where
    here : (l : Logs) → slice_get ls v ≡ Some l → BothKept core v l → LogsSure core ls v
    here l at both = record { each = λ x is. subst (BothKept core v) (same_Some l x (sym at ∙ is)) both }

    by : (o : Option Logs) → slice_get ls v ≡ o → KeptOr core v o → LogsSure core ls v ⊎ (greatest ≤ core.inner.config.serial + 9)
    by None at was = inl (record { each = λ x is. absurd (let clash : None ≡ Some x = sym at ∙ is in cc) })
    by (Some l) at was = elim was.so [
      | inl both ↦ elim both.1 [ inl fmr ↦ inl (here l at (record { drl = both.0; fmr = fmr })) | inr spent ↦ inr spent ]
      | inr spent ↦ inr spent
    ]

-- ---- all volumes

pub says_losses : (c d : GroupCore) (ls ks : List Logs) → SureKept c d ls ks → SaysLosses c d ls ks
says_losses c d ls ks keeps = record { each = λ v was. elim (sure_or c ls v was) [ inl sure ↦ inl (keeps.each v sure) | inr spent ↦ inr spent ] }

-- the logs are as they were
pub narrow_kept : (c d : GroupCore) (ls : List Logs) → Narrowed c d → SureKept c d ls ls
narrow_kept c d ls narrow = record { each = λ v sure. sure_kept c d ls ls v narrow refl sure }

-- those of volume v are others
pub set_sure : (c d : GroupCore) (v : ℕ) (ls : List Logs) (l k : Logs) → slice_get ls v ≡ Some l → Narrowed c d → (BothKept c v l → AreKept d v k) → SureKept c d ls (set ls v k)
set_sure c d v ls l k at narrow here = record {
  each = λ w sure. elim (cases_eq w v) [
    | inl same ↦ subst (λ (n : ℕ). LogsKept d (set ls v k) n) (sym same) (kept_set d ls v k (here ((subst (λ (n : ℕ). LogsSure c ls n) same sure).each l at)))
    | inr apart ↦ sure_kept c d ls (set ls v k) w narrow (set_other ls v k w apart) sure
  ];
}

-- ---- a detach

pub said_at : (core : GroupCore) (v : ℕ) (ls : List Logs) (l : Logs) → slice_get ls v ≡ Some l → MapSaid core v l → MapSaid core v (logs_at ls v)
said_at core v ls l at said = subst (MapSaid core v) (sym (ap logs_or at)) said

-- the map of a plex begins, and a log of missed regions that is in memory no more is held as lost then
pub begun_sure : (c d e : GroupCore) (v plex : ℕ) (ls ks : List Logs) → v < length ls → Narrowed c d → Narrowed d e → MapsBegin v plex ls ks → MapSaid e v (logs_at ks v) → SureKept c e ls ks
begun_sure c d e v plex ls ks low one two begins said = record {
  each = λ w sure. elim (cases_eq w v) [
    | inl same ↦ subst (λ (n : ℕ). LogsKept e ks n) (sym same) (kept_each e ks v (λ k is. here k is (subst (λ (n : ℕ). LogsSure c ls n) same sure)))
    | inr apart ↦ sure_kept c e ls ks w both (begins.others w apart) sure
  ];
}
  where
    both : Narrowed c e
    both = narrowed_then c d e one two

    here : (k : Logs) → slice_get ks v ≡ Some k → LogsSure c ls v → AreKept e v k
    here k is sure =
        let it = item_at ls v low in
        record { so = inl (log_later c e v it.0 k both (begins.here it.0 k it.1 is).drl (sure.each it.0 it.1).drl, subst (λ (x : Logs). MapSaid e v x) (ap logs_or is) said) }

-- ---- logs that are trusted anew

pub since_same : (v : ℕ) (k : Logs) (c : GroupCore) → TrustsNew v k c c
since_same v k c = record { each = λ w log told. inl told }

pub since_less : (v : ℕ) (k : Logs) (c d : GroupCore) → Narrowed c d → TrustsNew v k c d
since_less v k c d narrow = record { each = λ w log told. inl (narrow.less w log told) }

pub since_then : (v : ℕ) (k j : Logs) (c d e : GroupCore) → ((log : VolumeLog) → has_log log k ≡ true → has_log log j ≡ true) → TrustsNew v k c d → TrustsNew v j d e → TrustsNew v j c e
since_then v k j c d e more one two = record {
  each = λ w log told. elim (two.each w log told) [
    | inl was ↦ elim (one.each w log was) [ inl old ↦ inl old | inr new ↦ inr (new.0, more log new.1) ]
    | inr new ↦ inr new
  ];
}

other_trusted : (v : ℕ) (log : VolumeLog) (c : Config) (w : ℕ) (k : VolumeLog) → (w ≡ v → k ≡ log → ⊥) → log_trusted (lost v log false c) w k ≡ true → log_trusted c w k ≡ true
unfolding log_trusted
other_trusted v log c w k apart is = sym (ap used_or (trusting_others v log c w k apart)) ∙ is

same_log : (a b : VolumeLog) → (a ≡ b) ⊎ (a ≡ b → ⊥)
same_log Drl Drl = inl refl
same_log Drl Fmr = inr (λ is. let clash : Drl ≡ Fmr = is in cc)
same_log Fmr Drl = inr (λ is. let clash : Fmr ≡ Drl = is in cc)
same_log Fmr Fmr = inl refl

-- a log that is trusted by a commit, which is in memory
pub since_told : (v : ℕ) (log : VolumeLog) (c d : GroupCore) (k : Logs) (m m' : Meaning) → PlexActs Nothing (lost v log false (wide c).config) (wide d).config m m' → has_log log k ≡ true → TrustsNew v k c d
since_told v log c d k m m' acts has = record {
  each = λ w j told. elim (cases_eq w v) [
    | inl same ↦ elim (same_log j log) [
      | inl at ↦ inr (same, subst (λ (x : VolumeLog). has_log x k ≡ true) (sym at) has)
      | inr apart ↦ inl (other_trusted v log (wide c).config w j (λ at is. apart is) (acts.shape.trusted w j told))
    ]
    | inr apart ↦ inl (other_trusted v log (wide c).config w j (λ at is. apart at) (acts.shape.trusted w j told))
  ];
}

-- the logs of the volume in their place
pub since_set : (v : ℕ) (ls : List Logs) (k : Logs) (c d : GroupCore) → v < length ls → TrustsNew v k c d → TrustsNew v (logs_at (set ls v k) v) c d
since_set v ls k c d low since =
    let it = item_at (set ls v k) v (let long = length-set ls v k in omega (arith, low, long)) in
    let same : k ≡ logs_at (set ls v k) v = set_here ls v k it.0 it.1 ∙ sym (ap logs_or it.1) in
    record { each = λ w log told. elim (since.each w log told) [ inl was ↦ inl was | inr new ↦ inr (new.0, subst (λ (x : Logs). has_log log x ≡ true) same new.1) ] }

-- ---- logs that begin

gone_back : {A : Type 0} (o p : Option A) → ((x : A) → o ≡ Some x → p ≡ Some x) → p ≡ None → o ≡ None
gone_back None p keeps none = refl
gone_back (Some x) p keeps none = absurd (let clash : Some x ≡ None = sym (keeps x refl) ∙ none in cc)

there_clash : {A : Type 0} (o : Option A) → is_some o ≡ true → o ≡ None → ⊥
there_clash None has none = let clash : false ≡ true = has in cc
there_clash (Some x) has none = let clash : Some x ≡ None = none in cc

-- a log that is not in memory behind a beginning was not before it
first_gone : (v n : ℕ) (ls ks : List Logs) → LogsFirst v n ls ks → (w : ℕ) (l k : Logs) → slice_get ls w ≡ Some l → slice_get ks w ≡ Some k → (k.drl ≡ None → l.drl ≡ None) × (k.fmr ≡ None → l.fmr ≡ None)
first_gone v n ls ks first w l k was now = elim (cases_eq w v) [
  | inl same ↦ let it = first.here l k (subst (λ (x : ℕ). slice_get ls x ≡ Some l) same was) (subst (λ (x : ℕ). slice_get ks x ≡ Some k) same now) in (gone_back l.drl k.drl it.drl, gone_back l.fmr k.fmr it.fmr)
  | inr apart ↦ let same : l ≡ k = same_Some l k (sym was ∙ sym (first.others w apart) ∙ now) in (λ none. ap (λ (x : Logs). x.drl) same ∙ none, λ none. ap (λ (x : Logs). x.fmr) same ∙ none)
]

pub sure_first : (v n : ℕ) (c d : GroupCore) (ls ks : List Logs) → LogsFirst v n ls ks → TrustsNew v (logs_at ks v) c d → (w : ℕ) → LogsSure c ls w → LogsSure d ks w
sure_first v n c d ls ks first since w sure = record { each = λ k is. by k is (item_at ls w (low k is)) }
  where
    low : (k : Logs) → slice_get ks w ≡ Some k → w < length ls
    low k is = let lt = slice_get_within ks w k is in let many = first.many in omega (arith, lt, many)

    has : (k : Logs) (log : VolumeLog) → slice_get ks w ≡ Some k → w ≡ v → has_log log (logs_at ks v) ≡ true → has_log log k ≡ true
    has k log is same there = sym (ap (λ (o : Option Logs). has_log log (logs_or o)) (subst (λ (x : ℕ). slice_get ks x ≡ Some k) same is)) ∙ there

    by : (k : Logs) → slice_get ks w ≡ Some k → (l : Logs) × (slice_get ls w ≡ Some l) → BothKept d w k
    by k is it =
        let gone = first_gone v n ls ks first w it.0 k it.1 is in
        let was = sure.each it.0 it.1 in
        record {
          drl = λ told none. elim (since.each w Drl told) [
            | inl old ↦ was.drl old (gone.0 none)
            | inr new ↦ there_clash k.drl (has k Drl is new.0 new.1) none
          ];
          fmr = λ told none. elim (since.each w Fmr told) [
            | inl old ↦ was.fmr old (gone.1 none)
            | inr new ↦ there_clash k.fmr (has k Fmr is new.0 new.1) none
          ];
        }

-- a call behind it
pub first_sure : (v n : ℕ) (c d e : GroupCore) (ls ks js : List Logs) → LogsFirst v n ls ks → TrustsNew v (logs_at ks v) c d → SureKept d e ks js → SureKept c e ls js
first_sure v n c d e ls ks js first since keeps = record { each = λ w sure. keeps.each w (sure_first v n c d ls ks first since w sure) }

-- ---- a detach behind a beginning of its map

pub ready_free : {P : Type 0} (done : Bool) (s : ℕ) → (done ≡ true → P) → (done ≡ false → greatest ≤ s) → s < greatest → P
ready_free true s free full less = free refl
ready_free false s free full less = absurd (let spent = full refl in omega (arith, spent, less))

-- a plex that is ACTIVE reads what each one reads, where the volume reads as one value
pub alike_here : (c : Config) (v p : ℕ) (m : Meaning) → IsTrue (active c v p) → ((IsTrue m.down → ⊥) → ReadsOne c v m) → ReadsAlike c v p m
alike_here c v p m on one = record { so = λ up q b x y has is_on inside at_p at_q. (one up).one b x y (record { inside = inside; plex = p; is_on = on; value = at_p }) (record { inside = inside; plex = q; is_on = is_on; value = at_q }) }

-- what is said before it is said behind it, where serials are left
pub later_sure : (c d e : GroupCore) (ls ks : List Logs) → d.inner.config.serial + 9 < greatest → Narrowed d e → SureKept c d ls ks → SureKept c e ls ks
later_sure c d e ls ks less narrow keeps = record {
  each = λ v sure. elim (sure_or d ks v (keeps.each v sure)) [
    | inl now ↦ sure_kept d e ks ks v narrow refl now
    | inr spent ↦ absurd (omega (arith, spent, less))
  ];
}

pub said_later : (c d : GroupCore) (v : ℕ) (l : Logs) → c.inner.config.serial + 9 < greatest → Narrowed c d → MapSaid c v l → MapSaid d v l
said_later c d v l less narrow said = elim said [
  | inl kept ↦ inl (map_later c d v l l narrow refl kept)
  | inr spent ↦ absurd (omega (arith, spent, less))
]

-- ---- a volume that is made

-- behind it the volumes that stood have the logs that they had, and of one more no log is trusted
pub made_sure : (c d : GroupCore) (ls ks : List Logs) (m : Meaning) → GroupStands c m → Extends d.inner.config c.inner.config → length ls ≡ length c.inner.config.volumes → ((v : ℕ) (k : Logs) → v < length ls → slice_get ks v ≡ Some k → slice_get ls v ≡ Some k) → SureKept c d ls ks
made_sure c d ls ks m stands shape many same = record {
  each = λ v sure. kept_each d ks v (λ k is. both_kept d v k (elim (cases_lt v (length c.inner.config.volumes)) [
    | inl low ↦ here v k low (sure.each k (same v k (omega (arith, low, many)) is))
    | inr past ↦ made v k past
  ]));
}
  where
    old : (v : ℕ) (log : VolumeLog) → v < length c.inner.config.volumes → log_trusted (wide d).config v log ≡ true → log_trusted (wide c).config v log ≡ true
    old v log low told = (inner_wide c m stands).trusted v log (shape.trusted v log low ((wide_shape d).trusted v log told))

    here : (v : ℕ) (k : Logs) → v < length c.inner.config.volumes → BothKept c v k → BothKept d v k
    here v k low was = record { drl = λ told none. was.drl (old v Drl low told) none; fmr = λ told none. was.fmr (old v Fmr low told) none }

    lost_new : (v : ℕ) (log : VolumeLog) → length c.inner.config.volumes ≤ v → log_trusted (wide d).config v log ≡ true → ⊥
    lost_new v log past told = let clash : false ≡ true = sym (shape.beyond v log past) ∙ (wide_shape d).trusted v log told in cc

    made : (v : ℕ) (k : Logs) → length c.inner.config.volumes ≤ v → BothKept d v k
    made v k past = record { drl = λ told none. lost_new v Drl past told; fmr = λ told none. lost_new v Fmr past told }

-- the logs behind those of a list
pub front_item : (ls ks : List Logs) (v : ℕ) (k : Logs) → v < length ls → slice_get (ls ++ ks) v ≡ Some k → slice_get ls v ≡ Some k
front_item ls ks v k low is =
    let it = item_at ls v low in
    subst (λ (x : Logs). slice_get ls v ≡ Some x) (same_Some it.0 k (sym (appended ls ks v it.0 it.1) ∙ is)) it.1
