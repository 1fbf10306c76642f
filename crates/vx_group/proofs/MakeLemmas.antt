-- A volume that is made: its plan, and what is added behind headers that were written back.
use Rattle.std.proofs.Common.{◌≡◌, ◌≤◌, inl, inr, ⊎_elim, ℕ, ◌<◌, true, false, Option, None, List, [], ◌∷◌, ◌++◌, length, Result, Ok, Err, refl, ap, sym, ◌∙◌, subst, arith}
use Rattle.std.specs.Prelude.{IfSome, map, slice_get}
use Rattle.std.proofs.lemmas.Bool.{and_parts, both_ways, cases_lt}
use Rattle.vx_disk.specs.Causes.{refusal_of}
use Rattle.vx_disk.specs.Moves.{Anything, Says}
use Rattle.vx_disk.specs.Shelf.{Goes, Lawful, Meaning, Nothing, Or, Values}
use Rattle.vx_disk.specs.declared.shelf.ShelfError.{ShelfError}
use Rattle.vx_disk.specs.declared.shelf.ShelfError.TheVariants.{Fault, Down}
use Rattle.vx_disk.proofs.Runs.{same_Goes}
use Rattle.vx_model.specs.declared.errors.Stop.{Stop}
use Rattle.vx_model.specs.declared.errors.Stop.TheVariants.{No as Refused, OutOfMemory}
use Rattle.vx_model.specs.declared.limits.TheConstants.{MOST_SUBDISKS}
use Rattle.vx_model.specs.declared.no.No.{No}
use Rattle.vx_model.specs.declared.no.No.TheVariants as refusal
use Rattle.vx_model.specs.declared.no.Counted.TheVariants.{Subdisks}
use Rattle.vx_model.specs.declared.units.Units.{Units}
use Rattle.vx_config.specs.Checks.{is_sound}
use Rattle.vx_config.specs.Configs.{subdisk_count}
use Rattle.vx_config.specs.declared.config.Config.{Config}
use Rattle.vx_config.specs.declared.entry.DiskEntry.{DiskEntry}
use Rattle.vx_config.specs.declared.entry.VolumeEntry.{VolumeEntry}
use Rattle.vx_copies.specs.Bodies.{fits_units, have_blocks, is_wanted}
use Rattle.vx_copies.proofs.OneTry.{wanted_same}
use Rattle.vx_layout.specs.Made.{made_plex, with_volume}
use Rattle.vx_layout.specs.Space.{FindsSpace, IsFound, IsShape}
use Rattle.vx_layout.specs.declared.shape.Found.{Found}
use Rattle.vx_layout.specs.declared.shape.Shape.{Shape}
use Rattle.vx_layout.proofs.SoundLemmas.{sound_stays}
use Rattle.vx_volume.specs.Plexes.{active_or}
use Rattle.vx_volume.proofs.ReadRuns.{still}
use Rattle.vx_kept.specs.Choice.{live_or}
use Rattle.vx_kept.specs.Commits.{Member}
use Rattle.vx_kept.specs.Groups.{PlacesApart, group_meaning}
use Rattle.vx_kept.specs.Keeping.{Acts, Sees}
use Rattle.vx_kept.proofs.Chosen.{active_volumes, alike_shape, extends_volumes, same_extends}
use Rattle.vx_kept.proofs.PlexActing.{wider_Acts}
use Rattle.vx_kept.proofs.StateLemmas.{same_shape}
use Rattle.vx_kept.proofs.Steps.{both_Acts, group-Goes, same_Acts, wide_Acts}
use Rattle.vx_group.specs.Blames.{StopsByDevice}
use Rattle.vx_group.specs.Makes.{AreZero, IsVolume, MakeEnds, MakeStops, MakesBeside, StayAsWere, Unmoved, VolumeMade, ZerosOn, make_refusal}
use Rattle.vx_group.specs.Moves.{Narrows}
use Rattle.vx_group.specs.Nexts.{Added, Adds, IsNextConfig, IsPlanned, LongerEnds, PlanEnds}
use Rattle.vx_group.specs.Settled.{SameBut}
use Rattle.vx_group.specs.Stands.{InnerStands, volume_faults, inner_meaning}
use Rattle.vx_group.specs.declared.inner.Inner.{Inner}
use Rattle.vx_group.proofs.CallLemmas.{narrows_Goes}
use Rattle.vx_group.proofs.LongerLemmas.{longer_count, made_on, sound_disks}
use Rattle.vx_group.proofs.ShapeLemmas.{MayMake, fresh_name, may_make}
use Rattle.vx_group.proofs.Standing.{apart_of_core}
use Rattle.vx_group.specs.Loses.{SameParts}

-- ---- the plan

-- where the configuration with the volume is not sound its subdisks are too many
too_many : (c : Config) (name : List ℕ) (want : Shape) (found : Found) (v : VolumeEntry) → is_sound c ≡ true → MayMake c name want → IsShape want → IfSome want.prefer (λ p. p < want.mirrors) → IsFound c want found → IsVolume name want found v
    → is_sound (with_volume c v) ≡ false → MOST_SUBDISKS < subdisk_count (with_volume c v)
too_many c name want found v sound may shape prefer space volume off = elim (cases_lt MOST_SUBDISKS (subdisk_count (with_volume c v))) [
  | inl lt ↦ lt
  | inr le ↦ absurd (both_ways (is_sound (with_volume c v)) off (sound_stays c want found v sound shape prefer space volume.made (fresh_name name v volume.named c.volumes may.fresh) le))
]

pub planned : (c : Config) (name : List ℕ) (want : Shape) (found : Found) (v : VolumeEntry) → is_sound c ≡ true → make_refusal c name want ≡ None → IsShape want → IfSome want.prefer (λ p. p < want.mirrors) → IsFound c want found → IsVolume name want found v
    → (r : Result Config Stop) → LongerEnds c v r → PlanEnds c name want r
planned c name want found v sound may shape prefer space volume (Ok next) ends = record { found = found; space = space; volume = v; is_volume = volume; is = ends.0; sound = ends.1 }
planned c name want found v sound may shape prefer space volume (Err (Refused why)) ends =
    subst (λ (no : No). PlanEnds c name want (Err (Refused no))) (sym ends.0)
    (record { found = found; space = space; many = inr (v, volume, too_many c name want found v sound (may_make c name want may) shape prefer space volume ends.1) }, refl)
planned c name want found v sound may shape prefer space volume (Err OutOfMemory) ends = tt

pub finds_plan : (c : Config) (name : List ℕ) (want : Shape) (stop : Stop) → FindsSpace c want (Err stop) → PlanEnds c name want (Err stop)
finds_plan c name want (Refused (refusal.Space need have)) short = short
finds_plan c name want (Refused other) none = absurd none
finds_plan c name want OutOfMemory none = tt

pub plan_next : (c : Config) (name : List ℕ) (want : Shape) (next : Config) → make_refusal c name want ≡ None → IsPlanned c name want next → IsNextConfig c next
plan_next c name want next may is = record {
  volume = is.volume;
  is = is.is;
  sound = is.sound;
  few = let room = (may_make c name want may).room in let count = ap (λ (x : Config). length x.volumes) is.is ∙ longer_count c is.volume in omega (arith, room, count);
  small = let blocks = (may_make c name want may).blocks in let same = is.is_volume.made.blocks in omega (arith, blocks, same);
  on = λ p live.
      let plexes : is.volume.plexes ≡ map made_plex is.found.plexes.items = is.is_volume.made.plexes in
      ap (λ ps. active_or (slice_get ps p)) plexes ∙ made_on is.found.plexes.items p (sym (ap (λ ps. live_or (slice_get ps p)) plexes) ∙ live);
  lost = is.is_volume.lost;
}

pub next_parts : (c next : Config) → IsNextConfig c next → SameParts c next
next_parts c next is_next = record { site = ap (λ (x : Config). x.site) is_next.is; rvg = ap (λ (x : Config). x.rvg) is_next.is; count = ap (λ (x : Config). length x.disks) is_next.is; later = (let same : next.serial ≡ c.serial = ap (λ (x : Config). x.serial) is_next.is in omega (arith, same)) }

-- no count of a fault falls
pub beside_counts : (c : Config) (m m' : Meaning) → MakesBeside c m m' → (u : ℕ) → m.faults u ≤ m'.faults u
beside_counts c m m' (inl acts) u = acts.faults u
beside_counts c m m' (inr more) u = more.acts.faults u

-- ---- behind headers that were written back

pub config_is : (x y : Config) → x.serial ≡ y.serial → x.site ≡ y.site → x.disks ≡ y.disks → x.volumes ≡ y.volumes → x.rvg ≡ y.rvg → x ≡ y
config_is x y serial site disks volumes rvg =
    ap (λ (s : ℕ). record { serial = s; site = x.site; disks = x.disks; volumes = x.volumes; rvg = x.rvg }) serial
    ∙ ap (λ (s : ℕ). record { serial = y.serial; site = s; disks = x.disks; volumes = x.volumes; rvg = x.rvg }) site
    ∙ ap (λ (ds : List DiskEntry). record { serial = y.serial; site = y.site; disks = ds; volumes = x.volumes; rvg = x.rvg }) disks
    ∙ ap (λ (vs : List VolumeEntry). record { serial = y.serial; site = y.site; disks = y.disks; volumes = vs; rvg = x.rvg }) volumes
    ∙ ap (λ (u : Option Units). record { serial = y.serial; site = y.site; disks = y.disks; volumes = y.volumes; rvg = u }) rvg

-- another configuration with the same volumes in memory
pub volumes_Goes : (c d : Config) (f : ℕ → ℕ) (m : Meaning) → Lawful m → PlacesApart c → d.volumes ≡ c.volumes → Goes Nothing (group_meaning c f m) (group_meaning d f m)
volumes_Goes c d f m lawful apart same = group-Goes c d (Member 0 m) f f m m Nothing Nothing (same_Acts (Sees c (Member 0 m) m) m) apart
    (alike_shape d c c same (same_shape c)) (λ v p is_on. sym (active_volumes d c same v p) ∙ is_on) (λ v p b x in_it is_on none. none) (λ v. omega arith) (λ not t i left. lawful.never not t i left)

module _ (core mid : Inner) (m m1 : Meaning) (lawful : Lawful m1) (stands : InnerStands core m) (stands1 : InnerStands mid m1) (narrows : Narrows core mid m m1) (same : SameBut core.config mid.config) where
  blocks_at : have_blocks m.size 0 mid.config.disks ≡ true
  blocks_at =
      let wanted : is_wanted m.units m.size mid.config ≡ true = wanted_same m1 m mid.config (sym narrows.acts.units) (λ u. sym (narrows.acts.size u)) stands1.wanted in
      (and_parts _ (have_blocks m.size 0 mid.config.disks) (and_parts (is_sound mid.config) (fits_units m.units m.size mid.config) wanted).1).1

  pub later_next : (next : Config) → IsNextConfig core.config next → IsNextConfig mid.config (record { serial = next.serial; site = next.site; disks = mid.config.disks; volumes = next.volumes; rvg = next.rvg })
  later_next next is_next = record {
    volume = is_next.volume;
    is = config_is (record { serial = next.serial; site = next.site; disks = mid.config.disks; volumes = next.volumes; rvg = next.rvg }) (with_volume mid.config is_next.volume)
        (ap (λ (x : Config). x.serial) is_next.is ∙ sym same.serial) (ap (λ (x : Config). x.site) is_next.is ∙ sym same.site) refl
        (ap (λ (x : Config). x.volumes) is_next.is ∙ ap (λ (vs : List VolumeEntry). (with_volume (record { serial = 0; site = 0; disks = mid.config.disks; volumes = vs; rvg = None }) is_next.volume).volumes) (sym same.volumes))
        (ap (λ (x : Config). x.rvg) is_next.is ∙ sym same.rvg);
    sound = sound_disks next m.size mid.config.disks next_blocks blocks_at (same.count ∙ sym (ap (λ (x : Config). length x.disks) is_next.is)) is_next.sound;
    few = is_next.few;
    small = is_next.small;
    on = is_next.on;
    lost = is_next.lost;
  }
    where
      next_blocks : have_blocks m.size 0 next.disks ≡ true
      next_blocks = ap (λ (x : Config). have_blocks m.size 0 x.disks) is_next.is
          ∙ (and_parts _ (have_blocks m.size 0 core.config.disks) (and_parts (is_sound core.config) (fits_units m.units m.size core.config) stands.wanted).1).1

  -- the headers alone
  pub settled_stay : StayAsWere core mid m m1
  settled_stay = record {
    goes = still (inner_meaning core m) (inner_meaning mid m1) (group_meaning core.config (volume_faults mid.faults) m1)
        (narrows_Goes core mid m m1 lawful stands narrows (volume_faults core.faults) (volume_faults mid.faults) (λ u. let is = ap (λ (f : List ℕ). volume_faults f u) narrows.faults in omega (arith, is)))
        (volumes_Goes mid.config core.config (volume_faults mid.faults) m1 lawful (apart_of_core mid m1 stands1) (sym same.volumes));
    shape = same_extends mid.config core.config (alike_shape mid.config core.config core.config same.volumes (same_shape core.config));
    on = λ v p lt. active_volumes mid.config core.config same.volumes v p;
    faults = narrows.faults;
    unsure = narrows.unsure;
  }

  module _ (d : Inner) (m2 : Meaning) (after : Lawful m2) (stay : StayAsWere mid d m1 m2) where
    pub later_stay : StayAsWere core d m m2
    later_stay = record {
      goes = still (inner_meaning core m) (inner_meaning mid m1) (group_meaning core.config (volume_faults d.faults) m2)
          (narrows_Goes core mid m m1 lawful stands narrows (volume_faults core.faults) (volume_faults mid.faults) (λ u. let is = ap (λ (f : List ℕ). volume_faults f u) narrows.faults in omega (arith, is)))
          (still (inner_meaning mid m1) (group_meaning mid.config (volume_faults d.faults) m2) (group_meaning core.config (volume_faults d.faults) m2) stay.goes
          (volumes_Goes mid.config core.config (volume_faults d.faults) m2 after (apart_of_core mid m1 stands1) (sym same.volumes)));
      shape = extends_volumes d.config mid.config core.config (sym same.volumes) stay.shape;
      on = λ v p lt. stay.on v p (let count = ap length same.volumes in omega (arith, lt, count)) ∙ active_volumes mid.config core.config same.volumes v p;
      faults = stay.faults ∙ narrows.faults;
      unsure = stay.unsure ∙ narrows.unsure;
    }

  pub later_adds : (d : Inner) (m2 : Meaning) (next last : Config) → last.volumes ≡ next.volumes → {T E : Type 0} → (r : Result T E) → Adds mid d last m2 r → Adds core d next m2 r
  later_adds d m2 next last volumes (Ok x) added = record {
    volumes = added.volumes ∙ volumes;
    begins = subst (λ (n : ℕ). AreZero d.config n m2) (ap length same.volumes) added.begins;
  }
  later_adds d m2 next last volumes (Err e) is = is ∙ same.volumes

-- ---- the whole

-- no call
pub no_stay : (core : Inner) (m : Meaning) → StayAsWere core core m m
no_stay core m = record {
  goes = same_Goes Nothing (inner_meaning core m);
  shape = same_extends core.config core.config (same_shape core.config);
  on = λ v p lt. refl;
  faults = refl;
  unsure = refl;
}

module _ (core d : Inner) (name : List ℕ) (want : Shape) (next : Config) (m m' : Meaning) (is_planned : IsPlanned core.config name want next) where
  pub made_volume : Added core d next m' → VolumeMade name want (length core.config.volumes) core d m'
  made_volume added = record {
    number = refl;
    found = is_planned.found;
    space = is_planned.space;
    volume = is_planned.volume;
    is_volume = is_planned.is_volume;
    volumes = added.volumes ∙ ap (λ (x : Config). x.volumes) is_planned.is;
    begins = added.begins;
  }

pub stopped_by : (c : Config) (name : List ℕ) (want : Shape) (old new : Meaning) (e : ShelfError) → StopsByDevice {T = Unit {0}} old new (Err e) → MakeStops c name want old new (refusal_of e)
stopped_by c name want old new (Fault disk) why = why.0
stopped_by c name want old new Down down = down

-- a plan that fails
pub plan_stops : (core : Inner) (name : List ℕ) (want : Shape) (m : Meaning) (stop : Stop) → PlanEnds core.config name want (Err stop) → MakeEnds name want core core m m (Err stop)
plan_stops core name want m (Refused (refusal.Space need have)) short = (refl, short)
plan_stops core name want m (Refused (refusal.Limit Subdisks most)) many = (refl, many)
plan_stops core name want m (Refused other) none = absurd none
plan_stops core name want m OutOfMemory none = refl

pub unmoved_stop : (same : Type 0) (stop : Stop) → same → Unmoved {T = ℕ} (Err stop) same
unmoved_stop same (Refused (refusal.Device disk)) is = tt
unmoved_stop same (Refused refusal.Down) is = tt
unmoved_stop same (Refused other) is = is
unmoved_stop same OutOfMemory is = is

pub unmoved_error : (same : Type 0) (e : ShelfError) → Unmoved {T = ℕ} (Err (Refused (refusal_of e))) same
unmoved_error same (Fault disk) = tt
unmoved_error same Down = tt

-- ---- what is written beside the configuration areas

pub nothing_beside : (P : Says) (m m1 : Meaning) → Acts Nothing P m m1 → Acts Nothing Anything m m1
nothing_beside P m m1 acts = wider_Acts Nothing Nothing P m m1 acts (λ u b x none. none)

then_beside : (W : Values) (m m1 m2 : Meaning) → Acts Nothing Anything m m1 → Acts W Anything m1 m2 → Acts W Anything m m2
then_beside W m m1 m2 one two = wide_Acts (Or Nothing W) W Anything m m2 (both_Acts Nothing W Anything Anything m m1 m2 one two (λ i now. tt)) (λ u b x. ⊎_elim (λ none. absurd none) (λ put. put))

pub begun_behind : (P : Says) (c mid next : Config) (m m1 m2 : Meaning) → mid.volumes ≡ c.volumes → Acts Nothing P m m1 → IsNextConfig mid next → Acts (ZerosOn next (length mid.volumes)) Anything m1 m2 → MakesBeside c m m2
begun_behind P c mid next m m1 m2 volumes acts is_next begun = inr (record {
  next = next;
  volume = is_next.volume;
  is = ap (λ (x : Config). x.volumes) is_next.is ∙ ap (λ (vs : List VolumeEntry). vs ++ (is_next.volume ∷ [])) volumes;
  sound = is_next.sound;
  acts = subst (λ (n : ℕ). Acts (ZerosOn next n) Anything m m2) (ap length volumes) (then_beside (ZerosOn next (length mid.volumes)) m m1 m2 (nothing_beside P m m1 acts) begun);
})

pub makes_behind : (P : Says) (c mid : Config) (m m1 m2 : Meaning) → mid.volumes ≡ c.volumes → Acts Nothing P m m1 → MakesBeside mid m1 m2 → MakesBeside c m m2
makes_behind P c mid m m1 m2 volumes acts (inl none) = inl (then_beside Nothing m m1 m2 (nothing_beside P m m1 acts) none)
makes_behind P c mid m m1 m2 volumes acts (inr begins) = inr (record {
  next = begins.next;
  volume = begins.volume;
  is = begins.is ∙ ap (λ (vs : List VolumeEntry). vs ++ (begins.volume ∷ [])) volumes;
  sound = begins.sound;
  acts = subst (λ (n : ℕ). Acts (ZerosOn begins.next n) Anything m m2) (ap length volumes) (then_beside (ZerosOn begins.next (length mid.volumes)) m m1 m2 (nothing_beside P m m1 acts) begins.acts);
})
