-- What a log that is lost leaves of a configuration, and that the loss can be taken back.
use Rattle.std.proofs.Common.{◌≡◌, inl, inr, ℕ, zero, suc, ◌+◌, Bool, true, false, Option, Some, None, List, [], ◌∷◌, length, refl, ap, sym, ◌∙◌, subst, arith}
use Rattle.std.specs.Prelude.{◌&&◌, ◌==◌, map, slice_get}
use Rattle.std.proofs.lemmas.Bool.{and_from, and_parts, cases_eq}
use Rattle.vx_disk.specs.Shelf.{Meaning}
use Rattle.vx_model.specs.declared.no.No.{No}
use Rattle.vx_model.specs.declared.site.PlexState.TheVariants.{Stale}
use Rattle.vx_config.specs.Changes.{changed_at, lost, lost_as, with_lost, with_state, with_volumes}
use Rattle.vx_config.specs.Checks.{blocks_or_none, column_blocks, is_sound}
use Rattle.vx_config.specs.declared.config.Config.{Config}
use Rattle.vx_config.specs.declared.entry.DiskEntry.{DiskEntry}
use Rattle.vx_config.specs.declared.entry.LogEntry.{LogEntry}
use Rattle.vx_config.specs.declared.entry.PlexEntry.{PlexEntry}
use Rattle.vx_config.specs.declared.entry.VolumeEntry.{VolumeEntry}
use Rattle.vx_config.specs.declared.entry.VolumeLog.{VolumeLog}
use Rattle.vx_config.specs.declared.entry.VolumeLog.TheVariants.{Drl, Fmr}
use Rattle.vx_config.proofs.Changed.{changed-length}
use Rattle.vx_copyfmt.specs.Commits.{Tidy}
use Rattle.vx_copies.specs.Bodies.{fits_units, have_blocks, is_wanted}
use Rattle.vx_copies.specs.Commits.{Refused}
use Rattle.vx_copies.specs.Looking.{on_shelf}
use Rattle.vx_copies.specs.Marks.{failed_at}
use Rattle.vx_kept.specs.Choice.{chosen, live, live_or}
use Rattle.vx_kept.specs.Keeping.{AllOn, IsTidy, MayBeNext, SameShape, frame, frame_or}
use Rattle.vx_kept.specs.LogRuns.{log_lost, log_place, log_trusted, lost_or, run_or}
use Rattle.vx_kept.specs.Losses.{LosesLog, SamePlexes}
use Rattle.vx_kept.proofs.Chosen.{same_extends}
use Rattle.vx_kept.proofs.Narrower.{sound_chosen}
use Rattle.vx_kept.proofs.Staling.{with_serial}
use Rattle.vx_kept.proofs.StateLemmas.{get_other, get_same, map_one}
use Rattle.vx_layout.specs.Places.{place, place_in, place_or, plex_in}
use Rattle.vx_maplog.specs.Logs.{log_in, log_of, log_or, used_or}
use Rattle.vx_volume.specs.Plexes.{active, active_or}

-- ---- one entry

run_lost : (w : Bool) (o : Option LogEntry) → run_or (lost_as w o) ≡ run_or o
run_lost w None = refl
run_lost w (Some e) = refl

trust_lost : (o : Option LogEntry) → used_or (lost_as true o) ≡ true → ⊥
trust_lost None is = let clash : false ≡ true = is in cc
trust_lost (Some e) is = let clash : false ≡ true = is in cc

entry_back : (w : Bool) (o : Option LogEntry) → w ≡ lost_or o → lost_as w (lost_as true o) ≡ o
entry_back w None is = refl
entry_back w (Some e) is = ap (λ (b : Bool). Some (record { lost = b; disk = e.disk; start = e.start; blocks = e.blocks })) is

-- ---- one volume

blocks_lost : (log : VolumeLog) (o : Option VolumeEntry) → blocks_or_none (map_one (with_lost log true) o) ≡ blocks_or_none o
blocks_lost log None = refl
blocks_lost Drl (Some x) = refl
blocks_lost Fmr (Some x) = refl

found_again : (o : Option LogEntry) → lost_as false (lost_as true o) ≡ lost_as false o
found_again None = refl
found_again (Some e) = refl

frames_lost : (log : VolumeLog) (o : Option VolumeEntry) → frame_or (map_one (with_lost log true) o) ≡ frame_or o
unfolding frame
frames_lost log None = refl
frames_lost Drl (Some x) =
    ap (λ (l : Option LogEntry). Some (record { name = x.name; blocks = x.blocks; ncol = x.ncol; width = x.width; prefer = x.prefer; drl = l; fmr = lost_as false x.fmr; plexes = map (with_state Stale false) x.plexes })) (found_again x.drl)
frames_lost Fmr (Some x) =
    ap (λ (l : Option LogEntry). Some (record { name = x.name; blocks = x.blocks; ncol = x.ncol; width = x.width; prefer = x.prefer; drl = lost_as false x.drl; fmr = l; plexes = map (with_state Stale false) x.plexes })) (found_again x.fmr)

plexes_lost : (log : VolumeLog) (q : ℕ) (o : Option VolumeEntry) → plex_in (map_one (with_lost log true) o) q ≡ plex_in o q
plexes_lost log q None = refl
plexes_lost Drl q (Some x) = refl
plexes_lost Fmr q (Some x) = refl

in_lost : (log : VolumeLog) (x : VolumeEntry) (o : Option PlexEntry) (b : ℕ) → place_in (with_lost log true x) o b ≡ place_in x o b
unfolding column_blocks
in_lost Drl x None b = refl
in_lost Fmr x None b = refl
in_lost Drl x (Some e) b = refl
in_lost Fmr x (Some e) b = refl

place_lost : (log : VolumeLog) (q b : ℕ) (o : Option VolumeEntry) → place_or (map_one (with_lost log true) o) q b ≡ place_or o q b
place_lost log q b None = refl
place_lost Drl q b (Some x) = in_lost Drl x (slice_get x.plexes q) b
place_lost Fmr q b (Some x) = in_lost Fmr x (slice_get x.plexes q) b

runs_lost : (log k : VolumeLog) (o : Option VolumeEntry) → run_or (log_or k (map_one (with_lost log true) o)) ≡ run_or (log_or k o)
runs_lost log k None = refl
runs_lost Drl Drl (Some x) = run_lost true x.drl
runs_lost Drl Fmr (Some x) = refl
runs_lost Fmr Drl (Some x) = refl
runs_lost Fmr Fmr (Some x) = run_lost true x.fmr

trusts_lost : (log k : VolumeLog) (o : Option VolumeEntry) → used_or (log_or k (map_one (with_lost log true) o)) ≡ true → used_or (log_or k o) ≡ true
trusts_lost log k None is = is
trusts_lost Drl Drl (Some x) is = absurd (trust_lost x.drl is)
trusts_lost Drl Fmr (Some x) is = is
trusts_lost Fmr Drl (Some x) is = is
trusts_lost Fmr Fmr (Some x) is = absurd (trust_lost x.fmr is)

here_lost : (log : VolumeLog) (o : Option VolumeEntry) → log_or log (map_one (with_lost log true) o) ≡ lost_as true (log_or log o)
here_lost log None = refl
here_lost Drl (Some x) = refl
here_lost Fmr (Some x) = refl

else_lost : (log k : VolumeLog) → (k ≡ log → ⊥) → (o : Option VolumeEntry) → log_or k (map_one (with_lost log true) o) ≡ log_or k o
else_lost log k apart None = refl
else_lost Drl Drl apart (Some x) = absurd (apart refl)
else_lost Drl Fmr apart (Some x) = refl
else_lost Fmr Drl apart (Some x) = refl
else_lost Fmr Fmr apart (Some x) = absurd (apart refl)

volume_back : (w : Bool) (log : VolumeLog) (x : VolumeEntry) → w ≡ lost_or (log_in log x) → with_lost log w (with_lost log true x) ≡ x
volume_back w Drl x is = ap (λ (o : Option LogEntry). record x { drl = o }) (entry_back w x.drl is)
volume_back w Fmr x is = ap (λ (o : Option LogEntry). record x { fmr = o }) (entry_back w x.fmr is)

-- ---- all volumes

module _ (v : ℕ) (log : VolumeLog) (c : Config) where
  abbrev a : Config
  a = lost v log true c

  volume_other : (x : ℕ) → (x ≡ v → ⊥) → slice_get a.volumes x ≡ slice_get c.volumes x
  volume_other x apart = get_other (with_lost log true) v x apart c.volumes

  volume_same : slice_get a.volumes v ≡ map_one (with_lost log true) (slice_get c.volumes v)
  volume_same = get_same (with_lost log true) v c.volumes

  -- what each volume has of it as before
  each : {A : Type 0} (f : Option VolumeEntry → A) → ((o : Option VolumeEntry) → f (map_one (with_lost log true) o) ≡ f o) → (x : ℕ) → f (slice_get a.volumes x) ≡ f (slice_get c.volumes x)
  each f map x = elim (cases_eq x v) [
    | inl at ↦ subst (λ (y : ℕ). f (slice_get a.volumes y) ≡ f (slice_get c.volumes y)) (sym at) (ap f volume_same ∙ map (slice_get c.volumes v))
    | inr other ↦ ap f (volume_other x other)
  ]

  trusts : (x : ℕ) (k : VolumeLog) → used_or (log_of a x k) ≡ true → used_or (log_of c x k) ≡ true
  trusts x k = elim (cases_eq x v) [
    | inl at ↦ subst (λ (y : ℕ). used_or (log_of a y k) ≡ true → used_or (log_of c y k) ≡ true) (sym at)
        (λ is. trusts_lost log k (slice_get c.volumes v) (sym (ap (λ (o : Option VolumeEntry). used_or (log_or k o)) volume_same) ∙ is))
    | inr other ↦ (λ is. sym (ap (λ (o : Option VolumeEntry). used_or (log_or k o)) (volume_other x other)) ∙ is)
  ]

  lost_shape : SameShape a c
  unfolding place log_place log_trusted
  lost_shape = record {
    volumes = changed-length (with_lost log true) v c.volumes;
    frames = λ x. each frame_or (frames_lost log) x;
    blocks = λ x. each blocks_or_none (blocks_lost log) x;
    place = λ x q b. each (λ (o : Option VolumeEntry). place_or o q b) (place_lost log q b) x;
    logs = λ x k. each (λ (o : Option VolumeEntry). run_or (log_or k o)) (runs_lost log k) x;
    trusted = trusts;
  }

  pub lost_plexes : SamePlexes c a
  lost_plexes = record {
    shape = lost_shape;
    plexes = λ x q. each (λ (o : Option VolumeEntry). plex_in o q) (plexes_lost log q) x;
    serial = refl;
    site = refl;
    disks = refl;
    rvg = refl;
  }

  pub loses : LosesLog v log c a
  loses = record {
    here = ap (log_or log) volume_same ∙ here_lost log (slice_get c.volumes v);
    others = λ x k apart. elim (cases_eq x v) [
      | inl at ↦ subst (λ (y : ℕ). log_of a y k ≡ log_of c y k) (sym at) (ap (log_or k) volume_same ∙ else_lost log k (apart at) (slice_get c.volumes v))
      | inr other ↦ ap (log_or k) (volume_other x other)
    ];
  }

-- as the code makes it
pub made_plexes : (v : ℕ) (log : VolumeLog) (c d : Config) → d ≡ lost v log true c → SamePlexes c d
made_plexes v log c d is = subst (SamePlexes c) (sym is) (lost_plexes v log c)

pub made_loses : (v : ℕ) (log : VolumeLog) (c d : Config) → d ≡ lost v log true c → LosesLog v log c d
made_loses v log c d is = subst (LosesLog v log c) (sym is) (loses v log c)

-- ---- and back

back_at : (w : Bool) (log : VolumeLog) (v : ℕ) (xs : List VolumeEntry) → w ≡ lost_or (log_or log (slice_get xs v)) → changed_at (with_lost log w) v (changed_at (with_lost log true) v xs) ≡ xs
back_at w log v [] is = refl
back_at w log zero (x ∷ xs) is = ap (λ (y : VolumeEntry). y ∷ xs) (volume_back w log x is)
back_at w log (suc v) (x ∷ xs) is = ap (λ (ys : List VolumeEntry). x ∷ ys) (back_at w log v xs is)

pub lost_back : (v : ℕ) (log : VolumeLog) (w : Bool) (c d e : Config) → d ≡ lost v log true c → w ≡ log_lost c v log → e ≡ lost v log w d → e ≡ c
unfolding log_lost
lost_back v log w c d e was is made = made ∙ ap (lost v log w) was ∙ ap (λ (vs : List VolumeEntry). with_volumes vs c) (back_at w log v c.volumes is)

-- ---- what follows for a commit

module _ (c a : Config) (same : SamePlexes c a) where
  pub active_same : (v p : ℕ) → active a v p ≡ active c v p
  unfolding active
  active_same v p = ap active_or (same.plexes v p)

  live_same : (v p : ℕ) → live a v p ≡ live c v p
  unfolding live
  live_same v p = ap live_or (same.plexes v p)

  pub lost_on : AllOn c → AllOn a
  lost_on on = record { each = λ v p is. active_same v p ∙ on.each v p (sym (live_same v p) ∙ is) }

  pub lost_wanted : is_sound a ≡ is_sound c → (units : ℕ) (size : ℕ → ℕ) → is_wanted units size c ≡ true → is_wanted units size a ≡ true
  lost_wanted sound units size wanted =
      let parts = and_parts (is_sound c) (fits_units units size c) wanted in
      and_from (is_sound a) (fits_units units size a) (sound ∙ parts.0) (ap (λ (ds : List DiskEntry). length ds == units && have_blocks size 0 ds) same.disks ∙ parts.1)

  pub lost_tidy : (m : Meaning) → IsTidy c m → IsTidy a m
  lost_tidy m tidy = record {
    each = λ u held. subst (λ (s : ℕ). Tidy (on_shelf m) (s + 1) (m.leaves u)) (sym same.serial)
        (tidy.each u (record { below = held.below; good = ap (λ (ds : List DiskEntry). failed_at ds u) (sym same.disks) ∙ held.good }));
  }

  pub lost_follows : is_sound c ≡ true → AllOn c → MayBeNext c a
  lost_follows sound on = record {
    shape = same_extends a c same.shape;
    serial = same.serial;
    narrows = λ v p lt is. on.each v p (sym (live_same v p) ∙ is);
    some = λ v lt. (chosen c v, live_same v (chosen c v) ∙ sound_chosen c sound v (let count = same.shape.volumes in omega (arith, count, lt)));
  }

-- what is refused is put back
pub lost_refused : (good v : ℕ) (log : VolumeLog) (c a d : Config) (old new : Meaning) (why : No) → a ≡ lost v log true c → Refused good a d old new why → d ≡ lost v log true (with_serial d.serial c)
lost_refused good v log c a d old new why is refused = refused.kept ∙ ap (with_serial d.serial) is

pub flag_serial : (w : Bool) (s v : ℕ) (log : VolumeLog) (c : Config) → w ≡ log_lost c v log → w ≡ log_lost (with_serial s c) v log
unfolding log_lost
flag_serial w s v log c is = is
