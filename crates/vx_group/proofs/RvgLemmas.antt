-- A group of which other volumes are the replicated volume group.
use Rattle.std.proofs.Common.{◌≡◌, ℕ, ◌-◌, ◌<◌, ◌≤◌, Bool, true, false, IfSome, Option, Some, None, List, [], ◌∷◌, length, Result, Err, refl, ap, sym, ◌∙◌, arith}
use Rattle.std.specs.Prelude.{◌*◌, ◌&&◌, not, nat_le, nat_lt, if◌then◌else◌, sum_by, All}
use Rattle.std.specs.List.{list_all}
use Rattle.std.proofs.lemmas.Bool.{and_from, and_parts, lt-ltb, ltb-true}
use Rattle.std.proofs.lemmas.List.Elements.{All-cons, All-nil}
use Rattle.std.proofs.lemmas.Option.{same_Some}
use Rattle.vx_disk.specs.Shelf.{Meaning}
use Rattle.vx_model.specs.declared.limits.TheConstants.{LEAST_BLOCKS, LINK_PLACES, MOST_DATA_VOLUMES}
use Rattle.vx_model.specs.declared.errors.Stop.{Stop}
use Rattle.vx_model.specs.declared.errors.Stop.TheVariants.{No as Refused}
use Rattle.vx_model.specs.declared.no.Counted.TheVariants.{Number}
use Rattle.vx_model.specs.declared.no.No.{No}
use Rattle.vx_model.specs.declared.no.No.TheVariants.{Limit, Size}
use Rattle.vx_model.specs.declared.units.Units.{Units}
use Rattle.vx_config.specs.Checks.{blocks_of, group_or_none, is_group, is_sound, map_blocks_of, other_than, pairwise}
use Rattle.vx_config.specs.Configs.{UnitsFit}
use Rattle.vx_config.specs.Table.{greatest}
use Rattle.vx_config.specs.declared.config.Config.{Config}
use Rattle.vx_config.specs.declared.entry.VolumeEntry.{VolumeEntry}
use Rattle.vx_copies.specs.Bodies.{fits_units}
use Rattle.vx_kept.specs.Commits.{Member}
use Rattle.vx_kept.proofs.Chosen.{active_volumes, alike_shape}
use Rattle.vx_kept.proofs.Committed.{take_on}
use Rattle.vx_kept.proofs.StateLemmas.{same_shape}
use Rattle.vx_kept.proofs.Steps.{same_Acts}
use Rattle.vx_kept.proofs.Trusting.{unsaid_trusts}
use Rattle.vx_kept.specs.Keeping.{Sees}
use Rattle.vx_group.specs.Calls.{GroupNarrows, members_by}
use Rattle.vx_group.specs.Dets.{margin}
use Rattle.vx_group.specs.Finds.{CoreEnds}
use Rattle.vx_group.specs.Holding.{wide, with_config}
use Rattle.vx_group.specs.Moves.{Narrows}
use Rattle.vx_group.specs.Rvgs.{set_rvg_refusal, with_rvg}
use Rattle.vx_group.specs.Stands.{InnerStands}
use Rattle.vx_group.specs.declared.group_core.GroupCore.{GroupCore}
use Rattle.vx_group.specs.declared.inner.Inner.{Inner}
use Rattle.vx_group.proofs.CallLemmas.{both_Narrows}
use Rattle.vx_group.proofs.ReadyLemmas.{kept_volumes}
use Rattle.vx_group.proofs.RvgSound.{group_sound, rvg_sound}
use Rattle.vx_group.proofs.Standing.{kept_of, made, sound_of, tidy_of}

-- ---- refusals

not_late : (a b : ℕ) → b ≤ a → nat_lt a b ≡ false
not_late a b le = by (nat_lt a b) refl
  where
    by : (t : Bool) → nat_lt a b ≡ t → nat_lt a b ≡ false
    by false is = is
    by true is = absurd (let lt = ltb-true a b is in omega (arith, lt, le))

pub refused_as : (x y : No) → Some x ≡ Some y → ◌≡◌ {A = Result (Unit {0}) Stop} (Err (Refused x)) (Err (Refused y))
refused_as x y is = ap (λ (n : No). Err (Refused n)) (same_Some x y is)

pub none_some : {P : Type 0} (x : No) → Some x ≡ None → P
none_some x is = absurd (let clash : Some x ≡ None = is in cc)

abbrev by_tests : Bool → Bool → Option No
by_tests late may = if late then Some (Limit Number greatest) else (if not may then Some Size else None)

module _ (c : Config) (u : Units) where
  pub late_refusal : greatest - margin < c.serial → set_rvg_refusal c u ≡ Some (Limit Number greatest)
  late_refusal lt = ap (λ (b : Bool). by_tests b (is_group c.volumes u)) (lt-ltb (greatest - margin) c.serial lt)

  module _ (le : c.serial ≤ greatest - margin) where
    by_group : set_rvg_refusal c u ≡ by_tests false (is_group c.volumes u)
    by_group = ap (λ (b : Bool). by_tests b (is_group c.volumes u)) (not_late (greatest - margin) c.serial le)

    pub small_refusal : is_group c.volumes u ≡ false → set_rvg_refusal c u ≡ Some Size
    small_refusal off = by_group ∙ ap (λ (b : Bool). by_tests false b) off

    pub no_refusal : is_group c.volumes u ≡ true → set_rvg_refusal c u ≡ None
    no_refusal on = by_group ∙ ap (λ (b : Bool). by_tests false b) on

-- whether a checked configuration is so with these volumes
pub may_is : (c : Config) (u v : Units) → v ≡ u → is_sound c ≡ true → is_sound (with_rvg (Some v) c) ≡ is_group c.volumes u
may_is c u v same checked = rvg_sound (Some v) c checked ∙ ap (λ (w : Units). is_group c.volumes w) same

-- a group whose configuration was left as it was
pub same_core : (core : GroupCore) (c : Config) → c ≡ core.inner.config → ◌≡◌ {A = GroupCore} (record { inner = with_config c core.inner; held = core.held }) core
same_core core c is = ap (λ (x : Config). record { inner = with_config x core.inner; held = core.held }) is

pub no_narrows : (c : GroupCore) (m : Meaning) → GroupNarrows c c m m
no_narrows c m = record {
  acts = same_Acts (Sees (wide c).config (members_by c.held c.inner.good m) m) m;
  shape = same_shape c.inner.config;
  on = λ v p is. is;
  wide_on = λ v p is. is;
  faults = refl;
  unsure = refl;
}

-- ---- the numbers of such a group fit their fields

all_small : (k : ℕ) → k ≤ 32 → (xs : List ℕ) → list_all (λ n. nat_lt n k) xs ≡ true → All (λ n. n < 256) xs
all_small k le [] is = All-nil (λ n. n < 256)
all_small k le (x ∷ xs) is =
    let both = and_parts (nat_lt x k) (list_all (λ n. nat_lt n k) xs) is in
    All-cons (λ n. n < 256) x xs (let lt = ltb-true x k both.0 in omega (arith, lt, le)) (all_small k le xs both.1)

module _ (vs : List VolumeEntry) (few : length vs ≤ 32) (u : Units) (is : is_group vs u ≡ true) where
  are_below : list_all (λ n. nat_lt n (length vs)) (u.srl ∷ (u.maps ∷ u.vols)) ≡ true
  are_below =
      let five = and_parts (nat_le 1 (length u.vols) && nat_le (length u.vols) MOST_DATA_VOLUMES && list_all (λ n. nat_lt n (length vs)) (u.srl ∷ (u.maps ∷ u.vols)) && pairwise other_than (u.srl ∷ (u.maps ∷ u.vols)) && nat_le LEAST_BLOCKS (blocks_of vs u.srl))
      (nat_le (LINK_PLACES * sum_by (map_blocks_of vs) u.vols) (blocks_of vs u.maps)) is in
      let four = and_parts (nat_le 1 (length u.vols) && nat_le (length u.vols) MOST_DATA_VOLUMES && list_all (λ n. nat_lt n (length vs)) (u.srl ∷ (u.maps ∷ u.vols)) && pairwise other_than (u.srl ∷ (u.maps ∷ u.vols))) (nat_le LEAST_BLOCKS (blocks_of vs u.srl)) five.0 in
      let three = and_parts (nat_le 1 (length u.vols) && nat_le (length u.vols) MOST_DATA_VOLUMES && list_all (λ n. nat_lt n (length vs)) (u.srl ∷ (u.maps ∷ u.vols))) (pairwise other_than (u.srl ∷ (u.maps ∷ u.vols))) four.0 in
      (and_parts (nat_le 1 (length u.vols) && nat_le (length u.vols) MOST_DATA_VOLUMES) (list_all (λ n. nat_lt n (length vs)) (u.srl ∷ (u.maps ∷ u.vols))) three.0).1

  units_fit : UnitsFit u
  units_fit =
      let first = and_parts (nat_lt u.srl (length vs)) (list_all (λ n. nat_lt n (length vs)) (u.maps ∷ u.vols)) are_below in
      let second = and_parts (nat_lt u.maps (length vs)) (list_all (λ n. nat_lt n (length vs)) u.vols) first.1 in
      record {
        srl = let lt = ltb-true u.srl (length vs) first.0 in omega (arith, lt, few);
        maps = let lt = ltb-true u.maps (length vs) second.0 in omega (arith, lt, few);
        vols = all_small (length vs) few u.vols second.1;
      }

rvg_fits : (vs : List VolumeEntry) → length vs ≤ 32 → (rvg : Option Units) → group_or_none vs rvg ≡ true → IfSome rvg UnitsFit
rvg_fits vs few None is = tt
rvg_fits vs few (Some u) is = units_fit vs few u is

-- ---- the group with it

module _ (core : Inner) (rvg : Option Units) where
  abbrev pub rvg_core : Inner
  rvg_core = with_config (with_rvg rvg core.config) core

  pub rvg_Stands : (m : Meaning) → InnerStands core m → group_or_none core.config.volumes rvg ≡ true → InnerStands rvg_core m
  rvg_Stands m stands may = made rvg_core m
      (and_from (is_sound (with_rvg rvg core.config)) (fits_units m.units m.size core.config) (rvg_sound rvg core.config (sound_of core m stands) ∙ may) (and_parts (is_sound core.config) (fits_units m.units m.size core.config) stands.wanted).1)
      (record { serial = stands.serial; disks = stands.disks; rvg = rvg_fits core.config.volumes stands.few rvg may }) stands.few stands.small stands.large (take_on core.config (with_rvg rvg core.config) refl stands.on) stands.some
      (kept_volumes core.config (with_rvg rvg core.config) (Member core.good m) m refl refl (kept_of core m stands))
      (λ settled. record { each = λ u held. (tidy_of core m stands settled).each u (record { below = held.below; good = held.good }) }) stands.trusts

  -- what leads to the one leads to the other
  pub rvg_Narrows : (c : Inner) (old m : Meaning) → Narrows c core old m → Narrows c rvg_core old m
  rvg_Narrows c old m narrows = record {
    acts = narrows.acts;
    shape = alike_shape (with_rvg rvg core.config) core.config c.config refl narrows.shape;
    on = λ v p is_on. narrows.on v p (sym (active_volumes (with_rvg rvg core.config) core.config refl v p) ∙ is_on);
    faults = narrows.faults;
    unsure = narrows.unsure;
  }

  pub then_Narrows : (c d : Inner) (old m new : Meaning) → core.config.volumes ≡ c.config.volumes → core.good ≡ c.good → Narrows c core old m → Narrows rvg_core d m new → Narrows c d old new
  then_Narrows c d old m new volumes good first second = both_Narrows c rvg_core d old m new volumes good (rvg_Narrows c old m first) second

-- the group of before may be one, where the volumes are those of before
pub may_before : (core d : Inner) (m : Meaning) (rvg : Option Units) → InnerStands core m → rvg ≡ core.config.rvg → d.config.volumes ≡ core.config.volumes → group_or_none d.config.volumes rvg ≡ true
may_before core d m rvg stands is volumes =
    ap (λ (vs : List VolumeEntry). group_or_none vs rvg) volumes ∙ ap (λ (r : Option Units). group_or_none core.config.volumes r) is ∙ group_sound core.config (sound_of core m stands)

-- ---- the group of before, behind a commit that was refused: images may have another one

module _ (core : Inner) (rvg : Option Units) where
  abbrev pub undone_core : Inner
  undone_core = record {
    config = with_rvg rvg core.config;
    good = core.good;
    room = core.room;
    unsettled = core.unsettled;
    committed = false;
    agreed = core.agreed;
    next = core.next;
    faults = core.faults;
    unsure = core.unsure;
  }

  pub undone_Stands : (m : Meaning) → InnerStands core m → group_or_none core.config.volumes rvg ≡ true → InnerStands undone_core m
  undone_Stands m stands may = let it = rvg_Stands core rvg m stands may in record {
    wanted = it.wanted;
    serial = it.serial;
    disks = it.disks;
    rvg = it.rvg;
    few = it.few;
    small = it.small;
    large = it.large;
    on = it.on;
    some = it.some;
    kept = it.kept;
    tidy = it.tidy;
    trusts = unsaid_trusts core.committed core.agreed core.good m stands.trusts;
  }

  pub undone_Narrows : (c : Inner) (old m : Meaning) → Narrows c core old m → Narrows c undone_core old m
  undone_Narrows c old m narrows = let it = rvg_Narrows core rvg c old m narrows in record { acts = it.acts; shape = it.shape; on = it.on; faults = it.faults; unsure = it.unsure }

  pub undone_ends : (old m : Meaning) → CoreEnds core old m → CoreEnds undone_core old m
  undone_ends old m ends = record {
    begun = ends.begun;
    finds = ends.finds;
    openly = λ is. refl;
    newest = λ is. let clash : false ≡ true = is in absurd (cc);
  }
