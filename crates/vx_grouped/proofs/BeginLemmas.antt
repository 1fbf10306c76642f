-- A group that is begun on the disks of a bare site, by its note.
use Rattle.std.proofs.Common.{◌≡◌, ◌⊎◌, inl, inr, ℕ, ◌<◌, Bool, true, false, List, [], length, IsTrue, IsFalse, refl, sym, ◌∙◌, ap, subst, arith}
use Rattle.std.proofs.lemmas.Bool.{both_ways, false_from_ne_true, not-false}
use Rattle.std.specs.Prelude.{Option, None, Result, Ok, Err, IfErr, not, Some}
use Rattle.std.proofs.lemmas.Option.{slice_get_within}
use Rattle.vx_model.specs.declared.errors.Stop.{Stop}
use Rattle.vx_model.specs.declared.errors.Stop.TheVariants.{No as Refused, OutOfMemory}
use Rattle.vx_model.specs.declared.no.No.{No}
use Rattle.vx_model.specs.declared.no.No.TheVariants.{Device, Down as IsOff, Size}
use Rattle.vx_disk.specs.Causes.{DeviceCause}
use Rattle.vx_disk.specs.Counts.{Rose}
use Rattle.vx_disk.specs.Racks.{IsRack}
use Rattle.vx_disk.specs.Shelf.{Meaning}
use Rattle.vx_disk.specs.declared.shelf.Shelf.{Ghosts}
use Rattle.vx_history.specs.Groups.{GroupNode}
use Rattle.vx_history.specs.Missing.{maps_none}
use Rattle.vx_history.specs.World.{Fuse, Node, NoFuse, no_volumes}
use Rattle.vx_config.specs.Checks.{blocks_of}
use Rattle.vx_config.specs.Configs.{HasSpelling}
use Rattle.vx_config.specs.declared.config.Config.{Config}
use Rattle.vx_config.specs.declared.entry.VolumeEntry.{VolumeEntry}
use Rattle.vx_copies.proofs.OneTry.{wanted_count}
use Rattle.vx_copies.specs.Marks.{failed_at}
use Rattle.vx_copyio.specs.Labelling.{HasSmall}
use Rattle.vx_kept.specs.Trusts.{HasFailed}
use Rattle.vx_group.specs.Calls.{GroupCreated}
use Rattle.vx_group.specs.Creates.{IsNewGroup}
use Rattle.vx_group.specs.Holding.{volumes_by, wide}
use Rattle.vx_group.specs.Stands.{inner_meaning}
use Rattle.vx_group.specs.declared.group_core.GroupCore.{GroupCore}
use Rattle.vx_group.specs.declared.group_core.Held.{Held}
use Rattle.vx_group.specs.declared.inner.Inner.{Inner}
use Rattle.vx_group.proofs.Standing.{disks_fit}
use Rattle.vx_loggroup.specs.Facts.{LoggedFact}
use Rattle.vx_untold.specs.Shades.{shade_meaning, rack_of}
use Rattle.vx_untold.specs.declared.shade.Shade.{Shade}
use Rattle.vx_untold.specs.declared.shade.Shade.TheVariants.{Bright}
use Rattle.vx_watched.specs.Since.{CalledSince}
use Rattle.vx_grouped.specs.Begins.{BeginRefuses, BeginsGroup, CanBegin, IsEmptyConfig, IsFirstNote, group_begun}
use Rattle.vx_grouped.specs.GroupNotes.{noted_config}
use Rattle.vx_grouped.specs.GroupSites.{GroupUp, IsMarkedSite, laid_disks, laid_below}
use Rattle.vx_grouped.specs.Plain.{HoldsPlain}
use Rattle.vx_grouped.specs.SetFuses.{HasFuse}
use Rattle.vx_grouped.specs.SiteMaps.{StandMaps}
use Rattle.vx_grouped.specs.declared.laid.Laid.{Laid}
use Rattle.vx_grouped.specs.declared.group_site.GroupSite.TheVariants.{Up, Marked}
use Rattle.vx_kept.specs.Finds.{AllAtOnce}
use Rattle.vx_kept.proofs.Findings.{newest_at}
use Rattle.vx_group.proofs.HoldLemmas.{wide_none}
use Rattle.vx_grouped.proofs.MapStandLemmas.{empty_noted}
use Rattle.vx_grouped.proofs.MovesLemmas.{disk_blocks_at}
use Rattle.vx_grouped.proofs.NoteLemmas.{blocks_same}
use Rattle.vx_grouped.proofs.NotedLemmas.{spells_zero}

-- the note of a group that was just made
abbrev first_note : Inner → GroupNode
first_note core = record {
  config = noted_config core.config;
  begun = [];
  loose = not core.committed;
  dark = false;
  bytes = no_volumes;
  others = λ v b. [];
  cut = None;
  maps = maps_none core.config.serial;
  inside = λ v. false;
}

kept_tight : (kept : Bool) → kept ≡ true → not kept ≡ false
kept_tight true is = refl
kept_tight false is = cc

none_blocks : (v : ℕ) → blocks_of [] v ≡ 0
none_blocks v = refl

unarmed_fuse : (f : Fuse) (m : Meaning) → f ≡ NoFuse → IsFalse m.armed → HasFuse f m
unarmed_fuse f m is none = subst (λ (x : Fuse). HasFuse x m) (sym is) none

module _ (m m' : Meaning) (n : Node) (can : CanBegin n m) (since : CalledSince m m') where
  stays_up : IsTrue m'.down → ⊥
  stays_up down = both_ways m.down can.up (since.safe can.unarmed down)

  marked : IsMarkedSite n m'
  marked = record {
    state = can.state;
    units = since.units ∙ can.units;
    size = λ u low. since.size u ∙ can.size u low;
    unfused = can.unfused;
    up = false_from_ne_true m'.down stays_up;
    unarmed = since.unarmed can.unarmed;
  }

  never_small : HasSmall m → ⊥
  never_small it =
      let low : it.unit < n.disks = (let there = it.there in let same = can.units in omega (arith, there, same)) in
      let size = can.size it.unit low in
      let large = can.large in
      let small = it.small in
      omega (arith, size, large, small)

  module _ (site : ℕ) (core : GroupCore) (new : IsNewGroup site m core.inner m') (held : core.held ≡ None) where
    volumes : (wide core).config.volumes ≡ []
    volumes = ap (λ (h : Option Held). volumes_by h core.inner.config) held ∙ new.volumes

    holds : HoldsPlain (first_note core.inner) (inner_meaning (wide core) m')
    holds = record {
      size = λ v. sym (ap (λ (vs : List VolumeEntry). blocks_of vs v) volumes ∙ none_blocks v);
      has = λ v b x there within left. absurd (let none : length (wide core).config.volumes ≡ 0 = ap (λ (vs : List VolumeEntry). length vs) volumes in omega (arith, there, none));
    }

    begun_up : (told : Bool) → (IsTrue told → IsTrue m'.tells) → HasSpelling core.inner.config → GroupUp (group_begun (first_note core.inner) site n) (first_note core.inner) told core m'
    begun_up told bright has = record {
      lit = λ clear is. bright is;
      noted = record { is = refl; none = record { role = refl; volumes = refl; log = refl; safe = refl; running = refl } };
      fuse = unarmed_fuse n.fuse m' can.unfused (since.unarmed can.unarmed);
      spells = spells_zero core.inner.config has;
      at = record {
        state = refl;
        up = stays_up;
        lies = record {
          units = since.units ∙ can.units;
          size = λ u low. since.size u ∙ can.size u low;
          config = refl;
          agreed = λ tight. new.stands.trusts.both (not-false core.inner.committed tight);
          committed = λ tight none. not-false core.inner.committed tight;
          images = record {
            noted = record { each = λ tight i x each is. inl ((newest_at core.inner.config m' new.newest).each i x each is) };
            newest = λ is. subst (λ (i : Inner). AllAtOnce i.config m') (sym (wide_none core held)) (newest_at core.inner.config m' new.newest);
            openly = λ is. absurd (let clash : false ≡ true = sym new.settled ∙ is in cc);
            free = λ tight none. held;
          };
          holds = holds;
        };
      };
    }

    count : length core.inner.config.disks ≡ m'.units
    count = wanted_count m'.units m'.size core.inner.config new.stands.wanted

    empty : IsEmptyConfig site n core.inner.config
    empty = record {
      site_is = new.site_is;
      many = count ∙ since.units ∙ can.units;
      each = λ k d at.
          let lt = slice_get_within core.inner.config.disks k d at in
          let low : k < n.disks = (let is = count in let same = since.units in let units = can.units in omega (arith, lt, is, same, units)) in
          sym (disk_blocks_at core.inner.config.disks k d at) ∙ sym (blocks_same core.inner.config.disks k lt) ∙ sym ((disks_fit core.inner.config m' new.stands.wanted).size k lt) ∙ since.size k ∙ can.size k low;
      volumes = new.volumes;
      rvg = new.rvg;
    }

    first : IsFirstNote (first_note core.inner)
    first = record {
      begun = refl;
      size = λ v. refl;
      others = λ v b. refl;
      cut = refl;
      dark = refl;
      serial = core.inner.config.serial;
      small = let used = new.few in let is = count in let same = since.units in let units = can.units in let few = can.few in omega (arith, used, is, same, units, few);
      maps = refl;
      inside = λ v. refl;
    }

    trusted : (P : Type 0) → (HasFailed core.inner.config.disks → P) → ((first_note core.inner).loose ≡ false) ⊎ P
    trusted P failed = elim new.trust [
      | inl kept ↦ inl (kept_tight core.inner.committed kept)
      | inr some ↦ inr (failed some)
    ]

one_config : (a b : Config) → Some a ≡ Some b → a ≡ b
one_config a b is = cc is

module _ {R : Type 0} (g : Ghosts R) (rack : R) (n : Node) (site : ℕ) (can : CanBegin n (g.meaning rack)) where
  begun_maps : (group : Laid R g) → LoggedFact group.core group.logs.items group.alike group.stopped (laid_disks group) → HasSpelling group.core.inner.config → group.core.inner.config.volumes ≡ [] → StandMaps (first_note group.core.inner) (Up group)
  begun_maps group stands has none = record {
    config = group.core.inner.config;
    is = refl;
    spells = spells_zero group.core.inner.config has;
    up = λ c is. sym (one_config group.core.inner.config c is);
    maps = empty_noted group.core.inner.config group.logs.items group.alike group.stopped none stands.many;
  }

  begun_of : (group : Laid R g) → LoggedFact group.core group.logs.items group.alike group.stopped (laid_disks group) → (IsTrue (laid_below group).tells → IsTrue (laid_disks group).tells) → HasSpelling group.core.inner.config → IsNewGroup site (g.meaning rack) group.core.inner (laid_disks group) × (group.core.held ≡ None) → CalledSince (g.meaning rack) (laid_disks group)
      → ((k : ℕ) → failed_at group.core.inner.config.disks k ≡ true → Rose ((g.meaning rack).disk_faults k) ((laid_disks group).disk_faults k)) → BeginsGroup site n (g.meaning rack) (Up group) (Ok tt)
  begun_of group stands bright has it since fails = (
    first_note group.core.inner,
    first (g.meaning rack) (laid_disks group) n can since site group.core it.0 it.1,
    begun_up (g.meaning rack) (laid_disks group) n can since site group.core it.0 it.1 (laid_below group).tells bright has,
    empty (g.meaning rack) (laid_disks group) n can since site group.core it.0 it.1,
    trusted (g.meaning rack) (laid_disks group) n can since site group.core it.0 it.1 (HasFailed group.core.inner.config.disks) (λ some. some),
    begun_maps group stands has it.0.volumes,
    fails,
  )

  -- the disks that it holds as failed
  failed_on : ((r : R) → IsRack (g.meaning r)) → (core : GroupCore) (made : R) → IsNewGroup site (g.meaning rack) core.inner (g.meaning made) → (k : ℕ) → failed_at core.inner.config.disks k ≡ true → Rose ((g.meaning rack).disk_faults k) ((g.meaning made).disk_faults k)
  failed_on racks core made new k is =
      subst (λ (x : ℕ). Rose x ((g.meaning made).disk_faults k)) (sym ((racks rack).counts k)) (subst (λ (x : ℕ). Rose ((g.meaning rack).faults k) x) (sym ((racks made).counts k)) (new.failed k is))

  -- the group over the disks that it was made of
  pub begun_done : ((r : R) → IsRack (g.meaning r)) → (group : Laid R g) (core : GroupCore) (made : R) → LoggedFact group.core group.logs.items group.alike group.stopped (laid_disks group) → group.core ≡ core → group.shelf ≡ Bright made → HasSpelling group.core.inner.config → IsNewGroup site (g.meaning rack) core.inner (g.meaning made) × (core.held ≡ None) → CalledSince (g.meaning rack) (g.meaning made)
      → BeginsGroup site n (g.meaning rack) (Up group) (Ok tt)
  begun_done racks group core made stands same bright has it since =
      begun_of group stands (subst (λ (s : Shade R). IsTrue (g.meaning (rack_of s)).tells → IsTrue (shade_meaning g.meaning s).tells) (sym bright) (λ is. is)) has
      (subst (λ (s : Shade R). IsNewGroup site (g.meaning rack) group.core.inner (shade_meaning g.meaning s) × (group.core.held ≡ None)) (sym bright) (subst (λ (x : GroupCore). IsNewGroup site (g.meaning rack) x.inner (g.meaning made) × (x.held ≡ None)) (sym same) it))
      (subst (λ (s : Shade R). CalledSince (g.meaning rack) (shade_meaning g.meaning s)) (sym bright) since)
      (λ k is.
      subst (λ (s : Shade R). Rose ((g.meaning rack).disk_faults k) ((shade_meaning g.meaning s).disk_faults k)) (sym bright)
      (failed_on racks core made it.0 k (ap (λ (x : GroupCore). failed_at x.inner.config.disks k) (sym same) ∙ is)))

  begun_failed : (s : R) (why : No) → (HasSmall (g.meaning rack) × (why ≡ Size)) ⊎ DeviceCause (g.meaning rack) (g.meaning s) why → CalledSince (g.meaning rack) (g.meaning s) → BeginsGroup {g = g} site n (g.meaning rack) (Marked s) (Err (Refused why))
  begun_failed s why (inl small) since = absurd (never_small (g.meaning rack) (g.meaning s) n can since small.0)
  begun_failed s (Device disk) (inr cause) since = (marked (g.meaning rack) (g.meaning s) n can since, cause)
  begun_failed s IsOff (inr cause) since = absurd (stays_up (g.meaning rack) (g.meaning s) n can since cause)
  begun_failed s other (inr cause) since = absurd cause

  pub begun_refused : (s : R) (stop : Stop) → BeginRefuses (g.meaning rack) (g.meaning s) stop → CalledSince (g.meaning rack) (g.meaning s) → BeginsGroup {g = g} site n (g.meaning rack) (Marked s) (Err stop)
  begun_refused s (Refused why) it since = begun_failed s why it since
  begun_refused s OutOfMemory it since = marked (g.meaning rack) (g.meaning s) n can since

-- a refusal, as the group answers it
refuses_as : {S G : Type 0} (site : ℕ) (old : Meaning) (meaning : S → Meaning) (core : G → GroupCore) (shelf : G → S) (s : S) (stop : Stop) → GroupCreated {S = S} {G = G} site old meaning core shelf (Err (s, stop)) → BeginRefuses old (meaning s) stop
refuses_as site old meaning core shelf s (Refused why) it = it
refuses_as site old meaning core shelf s OutOfMemory it = tt

pub refuses_by : {S G : Type 0} (r : Result G (S × Stop)) (site : ℕ) (old : Meaning) (meaning : S → Meaning) (core : G → GroupCore) (shelf : G → S) → GroupCreated {S = S} {G = G} site old meaning core shelf r → IfErr r (λ e. BeginRefuses old (meaning e.0) e.1)
refuses_by (Ok made) site old meaning core shelf it = tt
refuses_by {S} {G} (Err e) site old meaning core shelf it = refuses_as {S = S} {G = G} site old meaning core shelf e.0 e.1 it
