-- What stands on the disks of a group, over its calls.
use Rattle.std.proofs.Common.{◌≡◌, ⊎_elim, ℕ, zero, suc, ◌+◌, ◌<◌, ◌≤◌, ◌^◌, true, false, Option, Some, None, List, [], ◌∷◌, IfSome, length, refl, ap, sym, ◌∙◌, subst, arith}
use Rattle.std.specs.Prelude.{◌==◌}
use Rattle.std.proofs.lemmas.Bool.{and_parts, eqb-true}
use Rattle.vx_disk.specs.Shelf.{Goes, Lawful, Meaning, Values}
use Rattle.vx_model.specs.declared.units.Units.{Units}
use Rattle.vx_copyfmt.specs.Copies.{area_a, area_b}
use Rattle.vx_config.specs.Checks.{blocks_of, is_sound}
use Rattle.vx_config.specs.Configs.{CanSpell, UnitsFit}
use Rattle.vx_config.specs.declared.config.Config.{Config}
use Rattle.vx_config.specs.declared.entry.DiskEntry.{DiskEntry}
use Rattle.vx_copies.specs.Bodies.{fits_units, have_blocks, is_wanted}
use Rattle.vx_copies.specs.Marks.{NoneGood}
use Rattle.vx_copies.proofs.OneTry.{wanted_same}
use Rattle.vx_copyio.specs.Labelling.{AreLarge}
use Rattle.vx_layout.specs.Places.{disk_blocks}
use Rattle.vx_volume.specs.Plexes.{DisksFit, SomeActive}
use Rattle.vx_kept.specs.Commits.{Member}
use Rattle.vx_kept.specs.Finds.{FindsFrom, NoConfiguration}
use Rattle.vx_kept.specs.Groups.{PlacesApart, HasActive}
use Rattle.vx_kept.specs.Keeping.{AllOn, IsTidy, Kept}
use Rattle.vx_kept.proofs.Facts.{from_fact, from_tidy, to_fact, to_tidy}
use Rattle.vx_kept.proofs.Committed.{fewer, member_same}
use Rattle.vx_kept.proofs.Lasting.{low_Kept}
use Rattle.vx_kept.proofs.Narrower.{has_active, stand_apart, wanted_sound}
use Rattle.vx_kept.specs.Trusts.{Trusts}
use Rattle.vx_kept.proofs.Trusting.{less_finds, less_trusts}
use Rattle.vx_group.specs.Stands.{InnerStands}
use Rattle.vx_group.specs.declared.inner.Inner.{Inner}

-- ---- a configuration that fits the shelf

pub if_some : (o : Option Units) → ((u : Units) → o ≡ Some u → UnitsFit u) → IfSome o UnitsFit
if_some None each = tt
if_some (Some u) each = each u refl

of_some : (o : Option Units) → IfSome o UnitsFit → (u : Units) → o ≡ Some u → UnitsFit u
of_some None is u at = absurd (let clash : None ≡ Some u = at in cc)
of_some (Some x) is u at = let same : x ≡ u = cc in subst UnitsFit same is

-- each disk has the blocks of its unit
have_of : (size : ℕ → ℕ) (k : ℕ) (ds : List DiskEntry) → have_blocks size k ds ≡ true → (u : ℕ) → u < length ds → size (k + u) ≡ disk_blocks ds u
have_of size k [] is u lt = absurd (omega (arith, lt))
have_of size k (d ∷ ds) is zero lt =
    let one = (and_parts (d.blocks == size k) (have_blocks size (k + 1) ds) is).0 in
    let same : d.blocks ≡ size k = eqb-true d.blocks (size k) one in
    ap size (omega arith) ∙ sym same
have_of size k (d ∷ ds) is (suc u) lt =
    let rest = have_of size (k + 1) ds (and_parts (d.blocks == size k) (have_blocks size (k + 1) ds) is).1 u (omega (arith, lt)) in
    ap size (omega arith) ∙ rest

pub disks_fit : (c : Config) (m : Meaning) → is_wanted m.units m.size c ≡ true → DisksFit c.disks m
disks_fit c m wanted =
    let fits = and_parts (length c.disks == m.units) (have_blocks m.size 0 c.disks) (and_parts (is_sound c) (fits_units m.units m.size c) wanted).1 in
    let count : length c.disks ≡ m.units = eqb-true (length c.disks) m.units fits.0 in
    record {
      there = λ u lt. omega (arith, lt, count);
      size = λ u lt. ap m.size (omega arith) ∙ have_of m.size 0 c.disks fits.1 u lt;
    }

-- ---- what the core says

module _ (core : Inner) (m : Meaning) (stands : InnerStands core m) where
  pub sound_of : is_sound core.config ≡ true
  sound_of = wanted_sound m.units m.size core.config stands.wanted

  pub can_of : CanSpell core.config
  can_of = record { serial = stands.serial; disks = stands.disks; rvg = if_some core.config.rvg stands.rvg }

  pub fit_of : DisksFit core.config.disks m
  fit_of = disks_fit core.config m stands.wanted

  pub kept_of : Kept core.config (Member core.good m) m
  kept_of = from_fact core.config (Member core.good m) m stands.kept

  pub tidy_of : core.unsettled ≡ false → IsTidy core.config m
  tidy_of is = from_tidy core.config (Member core.good m) m stands.kept (stands.tidy is)

  pub apart_of_core : PlacesApart core.config
  apart_of_core = stand_apart core.config sound_of

  pub active_of : HasActive core.config
  active_of = has_active core.config sound_of stands.on

  pub some_active : (v : ℕ) → v < length core.config.volumes → SomeActive core.config v
  some_active v lt = record { plex = active_of.first v; is_on = active_of.is_on v lt }

-- ---- from the parts

pub made : (core : Inner) (m : Meaning) → is_wanted m.units m.size core.config ≡ true → CanSpell core.config → length core.config.volumes ≤ 32 → ((v : ℕ) → blocks_of core.config.volumes v < 2 ^ 64) → AreLarge m → AllOn core.config
    → (NoneGood core.config.disks (length core.config.disks) core.good → ⊥) → Kept core.config (Member core.good m) m → (core.unsettled ≡ false → IsTidy core.config m) → Trusts core.committed core.agreed core.good m → InnerStands core m
made core m wanted can few small large on some kept tidy trusts = record {
  wanted = wanted;
  serial = can.serial;
  disks = can.disks;
  rvg = of_some core.config.rvg can.rvg;
  few = few;
  small = small;
  large = large;
  on = on;
  some = some;
  kept = to_fact core.config (Member core.good m) m kept;
  tidy = λ is. to_tidy core.config m (tidy is);
  trusts = trusts;
}

pub still_large : (m m' : Meaning) → m'.units ≡ m.units → ((u : ℕ) → m'.size u ≡ m.size u) → AreLarge m → AreLarge m'
still_large m m' units size large = record { each = λ u lt. let was = large.each u (omega (arith, units, lt)) in omega (arith, was, size u) }

-- calls that write behind the configuration areas alone
module _ (core : Inner) (W : Values) (m m' : Meaning) (goes : Goes W m m') (above : (u b : ℕ) (x : List ℕ) → W u b x → 512 ≤ b) (lawful : Lawful m) (lawful' : Lawful m') (stands : InnerStands core m) where
  low_same : (u b : ℕ) (v : List ℕ) → b < 512 → m'.leaves u b v → m.leaves u b v
  low_same u b v lt left = ⊎_elim (λ was. was) (λ w. absurd (let le : 512 ≤ b = above u b v w in omega (arith, le, lt))) (goes.leaves u b v left)

  -- no image has another configuration than one had
  pub low_finds : FindsFrom NoConfiguration m m'
  low_finds = less_finds m m' lawful lawful' goes.units goes.size goes.tells low_same

  pub low_Stands : InnerStands core m'
  low_Stands = record {
    wanted = wanted_same m m' core.config goes.units goes.size stands.wanted;
    serial = stands.serial;
    disks = stands.disks;
    rvg = stands.rvg;
    few = stands.few;
    small = stands.small;
    large = still_large m m' goes.units goes.size stands.large;
    on = stands.on;
    some = stands.some;
    kept = to_fact core.config (Member core.good m') m' (fewer core.config (Member core.good m) (Member core.good m') m' (member_same core.good m m' goes.units)
        (low_Kept core.config (Member core.good m) m m' W goes above lawful lawful' (kept_of core m stands)));
    tidy = λ is. record {
      goes = λ u v w x y held in_v in_w in_x in_y. (stands.tidy is).goes u v w x y (record { below = let lt : u < m'.units = held.below in omega (arith, goes.units, lt); good = held.good })
          (low_same u area_a v (omega arith) in_v) (low_same u area_b w (omega arith) in_w) (low_same u area_a x (omega arith) in_x) (low_same u area_b y (omega arith) in_y);
    };
    trusts = less_trusts core.committed core.agreed core.good m m' lawful lawful' goes.units goes.size goes.tells low_same stands.trusts;
  }
