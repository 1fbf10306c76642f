-- What a call makes of a configuration, place by place, from what it makes of frames, disks and states.
use Rattle.std.proofs.Common.{◌≡◌, ◌⊎◌, inl, inr, ℕ, zero, suc, ◌<◌, Bool, true, false, Option, Some, None, List, [], ◌∷◌, length, refl, sym, ◌∙◌, ap, subst, arith}
use Rattle.std.specs.Prelude.{◌||◌, is_some, slice_get}
use Rattle.std.specs.List.{list_any}
use Rattle.std.proofs.lemmas.Bool.{cases_lt, eqb-true}
use Rattle.std.proofs.lemmas.Option.{same_Some, slice_get_past}
use Rattle.vx_model.specs.declared.site.PlexState.{PlexState}
use Rattle.vx_disk.specs.Counts.{Rose}
use Rattle.vx_disk.specs.Shelf.{Meaning}
use Rattle.vx_config.specs.Changes.{Matched}
use Rattle.vx_config.specs.Checks.{blocks_or, in_region, is_sound}
use Rattle.vx_config.specs.declared.config.Config.{Config}
use Rattle.vx_config.specs.declared.entry.DiskEntry.{DiskEntry}
use Rattle.vx_config.specs.declared.entry.PlexEntry.{PlexEntry}
use Rattle.vx_config.specs.declared.entry.Subdisk.{Subdisk}
use Rattle.vx_config.specs.declared.entry.VolumeEntry.{VolumeEntry}
use Rattle.vx_copies.specs.Commits.{MoreFailed}
use Rattle.vx_copies.specs.Marks.{blocks_at, failed_at}
use Rattle.vx_layout.specs.Places.{disk_blocks, lies_on, plex_at, plex_in}
use Rattle.vx_layout.proofs.Placing.{region_of, subdisk_region}
use Rattle.vx_volume.specs.Plexes.{uses, uses_or}
use Rattle.vx_volume.specs.Volumes.{PlexBlamed}
use Rattle.vx_kept.specs.Keeping.{frame_at}
use Rattle.vx_kept.proofs.Chosen.{frames_volumes}
use Rattle.vx_kept.proofs.Frames.{SameOne, SamePlex, SameVolume, same_of}
use Rattle.vx_group.specs.GivesUp.{EachBlamed}
use Rattle.vx_group.specs.Loses.{LosesPlexes, SameParts}
use Rattle.vx_grouped.specs.ConfigMoves.{ConfigMoves, DiskMoves, EachPlexRose, LosesSome, PlexMoves, PlexRose, StateMoves, VolumeMoves, VolumeRose, none_again}
use Rattle.vx_grouped.specs.CoreMoves.{BothOn, CoreMoves}
use Rattle.vx_grouped.specs.StateChanges.{StateStays}
use Rattle.vx_grouped.proofs.StateChangeLemmas.{on_state, on_there, states_stay}

-- ---- lists

pub some_long : {A B : Type 0} (xs : List A) (ys : List B) → length ys ≡ length xs → (k : ℕ) → is_some (slice_get ys k) ≡ is_some (slice_get xs k)
some_long [] [] long k = refl
some_long [] (y ∷ ys) long k = absurd (omega (arith, long))
some_long (x ∷ xs) [] long k = absurd (omega (arith, long))
some_long (x ∷ xs) (y ∷ ys) long zero = refl
some_long (x ∷ xs) (y ∷ ys) long (suc k) = some_long xs ys (omega (arith, long)) k

pub placed_by : {A : Type 0} (P : A → A → Type 0) (o p : Option A) → is_some p ≡ is_some o → ((x y : A) → o ≡ Some x → p ≡ Some y → P x y) → Matched P o p
placed_by P None None same each = tt
placed_by P None (Some y) same each = absurd (let clash : true ≡ false = same in cc)
placed_by P (Some x) None same each = absurd (let clash : false ≡ true = same in cc)
placed_by P (Some x) (Some y) same each = each x y refl refl

-- ---- disks

pub disk_blocks_at : (ds : List DiskEntry) (k : ℕ) (d : DiskEntry) → slice_get ds k ≡ Some d → blocks_at ds k ≡ d.blocks
disk_blocks_at [] k d is = absurd (let no_one : None ≡ Some d = is in cc)
disk_blocks_at (e ∷ ds) zero d is = ap (λ (x : DiskEntry). x.blocks) (same_Some e d is)
disk_blocks_at (e ∷ ds) (suc k) d is = disk_blocks_at ds k d is

pub disk_failed_at : (ds : List DiskEntry) (k : ℕ) (d : DiskEntry) → slice_get ds k ≡ Some d → failed_at ds k ≡ d.failed
disk_failed_at [] k d is = absurd (let no_one : None ≡ Some d = is in cc)
disk_failed_at (e ∷ ds) zero d is = ap (λ (x : DiskEntry). x.failed) (same_Some e d is)
disk_failed_at (e ∷ ds) (suc k) d is = disk_failed_at ds k d is

pub rose_as : (m m' : Meaning) (u : ℕ) → m.disk_faults u ≡ m.faults u → m'.disk_faults u ≡ m'.faults u → Rose (m.faults u) (m'.faults u) → Rose (m.disk_faults u) (m'.disk_faults u)
rose_as m m' u one two it = subst (λ (x : ℕ). Rose x (m'.disk_faults u)) (sym one) (subst (λ (x : ℕ). Rose (m.faults u) x) (sym two) it)

module _ (c d : Config) (m m' : Meaning) (one : (u : ℕ) → m.disk_faults u ≡ m.faults u) (two : (u : ℕ) → m'.disk_faults u ≡ m'.faults u) where
  pub disk_place : (again : ℕ → Bool) → length d.disks ≡ length c.disks → ((u : ℕ) → blocks_at d.disks u ≡ blocks_at c.disks u)
      → ((u : ℕ) → failed_at c.disks u ≡ false → failed_at d.disks u ≡ true → Rose (m.faults u) (m'.faults u)) → ((u : ℕ) → again u ≡ false → failed_at c.disks u ≡ true → failed_at d.disks u ≡ true)
      → (k : ℕ) → Matched (DiskMoves again m m' k) (slice_get c.disks k) (slice_get d.disks k)
  disk_place again count blocks blamed stays k = placed_by (DiskMoves again m m' k) (slice_get c.disks k) (slice_get d.disks k) (some_long c.disks d.disks count k) each
    where
      each : (a b : DiskEntry) → slice_get c.disks k ≡ Some a → slice_get d.disks k ≡ Some b → DiskMoves again m m' k a b
      each a b at_a at_b = record {
        blocks = sym (disk_blocks_at d.disks k b at_b) ∙ blocks k ∙ disk_blocks_at c.disks k a at_a;
        failed = λ failed. by a.failed refl failed;
        stays = λ off failed. sym (disk_failed_at d.disks k b at_b) ∙ stays k off (disk_failed_at c.disks k a at_a ∙ failed);
      }
        where
          by : (t : Bool) → a.failed ≡ t → b.failed ≡ true → (a.failed ≡ true) ⊎ Rose (m.disk_faults k) (m'.disk_faults k)
          by true is failed = inl is
          by false is failed = inr (rose_as m m' k (one k) (two k) (blamed k (disk_failed_at c.disks k a at_a ∙ is) (disk_failed_at d.disks k b at_b ∙ failed)))

  pub disk_at : (again : ℕ → Bool) → CoreMoves again c d m m' → (k : ℕ) → Matched (DiskMoves again m m' k) (slice_get c.disks k) (slice_get d.disks k)
  disk_at again it = disk_place again it.parts.count it.blocks it.blamed it.stays

-- ---- volumes

plex_placed : (By : PlexEntry → PlexState → Type 0) (o p : Option PlexEntry) → SamePlex o p → ((x y : PlexEntry) → o ≡ Some x → p ≡ Some y → By x y.state) → Matched (PlexMoves By) o p
plex_placed By None None same each = tt
plex_placed By None (Some y) same each = absurd same
plex_placed By (Some x) None same each = absurd same
plex_placed By (Some x) (Some y) same each = record { subdisks = same; state = each x y refl refl }

module _ (By : VolumeEntry → PlexEntry → PlexState → Type 0) where
  volume_by : (v u : VolumeEntry) → SameVolume v u → ((k : ℕ) (x y : PlexEntry) → slice_get v.plexes k ≡ Some x → slice_get u.plexes k ≡ Some y → By v x y.state) → VolumeMoves By v u
  volume_by v u same each = record {
    name = same.name;
    blocks = same.blocks;
    ncol = same.ncol;
    width = same.width;
    prefer = same.prefer;
    drl = same.drl;
    fmr = same.fmr;
    plexes = λ k. plex_placed (By v) (slice_get v.plexes k) (slice_get u.plexes k) (same.plexes k) (each k);
  }

  volume_placed : (o p : Option VolumeEntry) → SameOne o p → ((e : VolumeEntry) (k : ℕ) (x y : PlexEntry) → o ≡ Some e → plex_in o k ≡ Some x → plex_in p k ≡ Some y → By e x y.state) → Matched (VolumeMoves By) o p
  volume_placed None None same each = tt
  volume_placed None (Some u) same each = absurd same
  volume_placed (Some v) None same each = absurd same
  volume_placed (Some v) (Some u) same each = volume_by v u same (λ k x y at_x at_y. each v k x y refl at_x at_y)

  -- at one place, where the frames are the same
  pub volume_moves : (c d : Config) (v : ℕ) → frame_at d v ≡ frame_at c v → ((e : VolumeEntry) (k : ℕ) (p q : PlexEntry) → slice_get c.volumes v ≡ Some e → plex_at c v k ≡ Some p → plex_at d v k ≡ Some q → By e p q.state) → Matched (VolumeMoves By) (slice_get c.volumes v) (slice_get d.volumes v)
  volume_moves c d v frames each = volume_placed (slice_get c.volumes v) (slice_get d.volumes v) (same_of (slice_get c.volumes v) (slice_get d.volumes v) frames) each

-- where the volumes are the same
pub volumes_same : (x d : Config) (m m' : Meaning) → d.volumes ≡ x.volumes → (v : ℕ) → Matched (VolumeMoves (StateMoves m m')) (slice_get x.volumes v) (slice_get d.volumes v)
volumes_same x d m m' same v = volume_moves (StateMoves m m') x d v (frames_volumes d x same v) each
  where
    each : (e : VolumeEntry) (k : ℕ) (p q : PlexEntry) → slice_get x.volumes v ≡ Some e → plex_at x v k ≡ Some p → plex_at d v k ≡ Some q → StateMoves m m' e p q.state
    each e k p q at_e at_p at_q = inl (ap (λ (e : PlexEntry). e.state) (same_Some q p (sym at_q ∙ ap (λ (vs : List VolumeEntry). plex_in (slice_get vs v) k) same ∙ at_p)))

-- and disks may have failed alone
pub fails_alone : (c x d : Config) (m m' : Meaning) → ((u : ℕ) → m.disk_faults u ≡ m.faults u) → ((u : ℕ) → m'.disk_faults u ≡ m'.faults u) → x.disks ≡ c.disks → SameParts x d → MoreFailed m m' c.disks d.disks → d.volumes ≡ x.volumes
    → LosesSome m m' x d
fails_alone c x d m m' one two same parts failing volumes = record {
  parts = parts;
  disks = λ k. subst (λ (ds : List DiskEntry). Matched (DiskMoves none_again m m' k) (slice_get ds k) (slice_get d.disks k)) (sym same) (disk_place c d m m' one two none_again failing.count failing.blocks failing.blamed (λ u off. failing.stays u) k);
  volumes = volumes_same x d m m' volumes;
}

-- ---- configurations

pub config_moves : (again : ℕ → Bool) (By : VolumeEntry → PlexEntry → PlexState → Type 0) (c d : Config) (m m' : Meaning) → ((u : ℕ) → m.disk_faults u ≡ m.faults u) → ((u : ℕ) → m'.disk_faults u ≡ m'.faults u) → CoreMoves again c d m m'
    → ((v : ℕ) (e : VolumeEntry) (k : ℕ) (p q : PlexEntry) → slice_get c.volumes v ≡ Some e → plex_at c v k ≡ Some p → plex_at d v k ≡ Some q → By e p q.state) → ConfigMoves again By m m' c d
config_moves again By c d m m' one two it each = record {
  parts = it.parts;
  disks = disk_at c d m m' one two again it;
  volumes = λ v. volume_moves By c d v (it.frames v) (each v);
}

pub core_moves : (c d : Config) (m m' : Meaning) → SameParts c d → ((v : ℕ) → frame_at d v ≡ frame_at c v) → MoreFailed m m' c.disks d.disks → BothOn c d m.units → CoreMoves none_again c d m m'
core_moves c d m m' parts frames disks on = record { parts = parts; frames = frames; on = on; blocks = disks.blocks; blamed = disks.blamed; stays = λ u off. disks.stays u }

-- ---- the disks that a plex uses

module _ (c : Config) (sound : is_sound c ≡ true) where
  there : (d : ℕ) → 0 < disk_blocks c.disks d → d < length c.disks
  there d some = elim (cases_lt d (length c.disks)) [
    | inl lt ↦ lt
    | inr le ↦ absurd (let none : disk_blocks c.disks d ≡ 0 = ap blocks_or (slice_get_past c.disks d le) in omega (arith, none, some))
  ]

  find : (d : ℕ) (ss : List Subdisk) → list_any (lies_on d) ss ≡ true → (i : ℕ) × ((s : Subdisk) × (slice_get ss i ≡ Some s) × (s.disk ≡ d))
  find d [] any = absurd (let clash : false ≡ true = any in cc)
  find d (s ∷ ss) any = at (lies_on d s) refl any (find d ss)
    where
      at : (t : Bool) → lies_on d s ≡ t → t || list_any (lies_on d) ss ≡ true → (list_any (lies_on d) ss ≡ true → (i : ℕ) × ((s : Subdisk) × (slice_get ss i ≡ Some s) × (s.disk ≡ d))) → (i : ℕ) × ((x : Subdisk) × (slice_get (s ∷ ss) i ≡ Some x) × (x.disk ≡ d))
      at true is any more = (0, (s, refl, eqb-true s.disk d is))
      at false is any more = let w = more any in (suc w.0, (w.1.0, w.1.1, w.1.2))

  region_there : (s : Subdisk) → in_region c.disks s ≡ true → s.disk < length c.disks
  region_there s is = let r = region_of c.disks s is in there s.disk (omega (arith, r.end, r.public))

  by_plex : (v p d : ℕ) (x : VolumeEntry) → slice_get c.volumes v ≡ Some x → (o : Option PlexEntry) → slice_get x.plexes p ≡ o → uses_or d o ≡ true → d < length c.disks
  by_plex v p d x at None at_p is = absurd (let clash : false ≡ true = is in cc)
  by_plex v p d x at (Some a) at_p is =
      let w = find d a.subdisks is in
      let lt = region_there w.1.0 (subdisk_region c sound v p w.0 x a w.1.0 at at_p w.1.1) in
      omega (arith, lt, w.1.2)

  by_volume : (v p d : ℕ) (o : Option VolumeEntry) → slice_get c.volumes v ≡ o → uses_or d (plex_in o p) ≡ true → d < length c.disks
  by_volume v p d None at is = absurd (let clash : false ≡ true = is in cc)
  by_volume v p d (Some x) at is = by_plex v p d x at (slice_get x.plexes p) refl is

  pub used_below : (v p d : ℕ) → uses c v p d ≡ true → d < length c.disks
  unfolding uses
  used_below v p d is = by_volume v p d (slice_get c.volumes v) refl is

-- a disk that a plex uses, by its entry
used_of : (c : Config) (v k disk : ℕ) (p : PlexEntry) → plex_at c v k ≡ Some p → uses c v k disk ≡ true → uses_or disk (Some p) ≡ true
unfolding uses
used_of c v k disk p at is = subst (λ (o : Option PlexEntry). uses_or disk o ≡ true) at is

used_some : (c : Config) (v k disk : ℕ) → plex_at c v k ≡ None → uses c v k disk ≡ true → ⊥
unfolding uses
used_some c v k disk none is = let clash : uses_or disk None ≡ true = subst (λ (o : Option PlexEntry). uses_or disk o ≡ true) none is in cc

-- ---- calls in which plexes may have failed

module _ (c : Config) (m m' : Meaning) (one : (u : ℕ) → m.disk_faults u ≡ m.faults u) (two : (u : ℕ) → m'.disk_faults u ≡ m'.faults u) (sound : is_sound c ≡ true) (count : length c.disks ≡ m.units) where
  -- a call on a disk of the plex failed
  pub plex_rose : (v k : ℕ) (p : PlexEntry) → plex_at c v k ≡ Some p → PlexBlamed c v k m m' → PlexRose m m' p
  plex_rose v k p at it = record {
    disk = it.disk;
    lies = used_of c v k it.disk p at it.is_its;
    below = let lt = used_below c sound v k it.disk it.is_its in omega (arith, lt, count);
    rose = rose_as m m' it.disk (one it.disk) (two it.disk) it.rose;
  }

  -- or of some plex of the volume
  pub volume_rose : (v : ℕ) (e : VolumeEntry) → slice_get c.volumes v ≡ Some e → (k : ℕ) → PlexBlamed c v k m m' → VolumeRose m m' e
  volume_rose v e at k it = by (slice_get e.plexes k) refl
    where
      in_e : plex_at c v k ≡ slice_get e.plexes k
      in_e = ap (λ (o : Option VolumeEntry). plex_in o k) at

      by : (o : Option PlexEntry) → slice_get e.plexes k ≡ o → VolumeRose m m' e
      by None is = absurd (used_some c v k it.disk (in_e ∙ is) it.is_its)
      by (Some p) is = record { place = k; plex = p; at = is; rose = plex_rose v k p (in_e ∙ is) it }

  -- or of each that takes part
  pub each_rose : (v : ℕ) → EachBlamed c v m m' → EachPlexRose c v m m'
  each_rose v it = record { each = λ p plex at is. plex_rose v p plex at (it.each p (on_there c v p plex at ∙ ap on_state is)) }

  pub state_by : (v : ℕ) (e : VolumeEntry) (k : ℕ) (p : PlexEntry) (is : PlexState) → slice_get c.volumes v ≡ Some e → plex_at c v k ≡ Some p → StateStays c v k m m' p.state is → StateMoves m m' e p is
  state_by v e k p is at_e at_p (inl same) = inl same
  state_by v e k p is at_e at_p (inr (inl lost)) = inr (inl (lost.0, plex_rose v k p at_p lost.1))
  state_by v e k p is at_e at_p (inr (inr back)) = inr (inr (back.0, volume_rose v e at_e back.1.0 back.1.1))

module _ (c d : Config) (m m' : Meaning) (one : (u : ℕ) → m.disk_faults u ≡ m.faults u) (two : (u : ℕ) → m'.disk_faults u ≡ m'.faults u) (on : BothOn c d m.units) (loses : LosesPlexes c d m m') where
  pub loses_some : LosesSome m m' c d
  loses_some = config_moves none_again (StateMoves m m') c d m m' one two (core_moves c d m m' loses.parts loses.frames loses.disks on)
      (λ v e k p q at_e at_p at_q. state_by c m m' one two on.sound on.count v e k p q.state at_e at_p (states_stay c d m m' on.was on.now loses v k p q at_p at_q))
