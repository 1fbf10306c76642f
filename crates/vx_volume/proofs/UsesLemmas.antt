-- The disks on which a plex lies, whatever its state.
use Rattle.std.proofs.Common.{◌≡◌, ◌∙◌, inl, inr, ℕ, ◌+◌, ◌-◌, ◌<◌, ◌≤◌, Bool, true, false, Option, Some, None, List, [], ◌∷◌, length, suc, IsTrue, refl, sym, ap, arith}
use Rattle.std.specs.Prelude.{◌||◌, is_some, nat_lt, slice_get, sum_by, if◌then◌else◌}
use Rattle.std.specs.List.{list_any}
use Rattle.std.proofs.lemmas.Bool.{cases_lt, eq-eqb, eqb-true, lt-ltb}
use Rattle.std.proofs.lemmas.List.Sums.{sum_by-cons}
use Rattle.std.proofs.lemmas.Option.{slice_get_past}
use Rattle.vx_config.specs.Checks.{blocks_of, blocks_or, blocks_or_none, column_blocks, in_region, is_sound, is_volume}
use Rattle.vx_config.specs.declared.config.Config.{Config}
use Rattle.vx_config.specs.declared.entry.PlexEntry.{PlexEntry}
use Rattle.vx_config.specs.declared.entry.Subdisk.{Subdisk}
use Rattle.vx_config.specs.declared.entry.VolumeEntry.{VolumeEntry}
use Rattle.vx_layout.specs.Places.{disk_blocks, has_plex, lies_on, linear, located, place, place_in, place_or, plex_at, plex_in, subdisk_blocks}
use Rattle.vx_layout.proofs.Pairs.{all_at}
use Rattle.vx_layout.proofs.Placing.{filled, from_sound, linear_within, region_of, subdisk_region}
use Rattle.vx_volume.specs.Plexes.{Inside, uses, uses_or}

-- a plex that is there
pub record TherePlex (c : Config) (v p : ℕ) : Type 0 where
  pub volume : VolumeEntry
  pub plex : PlexEntry
  pub at_v : slice_get c.volumes v ≡ Some volume
  pub at_p : slice_get volume.plexes p ≡ Some plex

pub there_plex : (c : Config) (v p : ℕ) → IsTrue (has_plex c v p) → TherePlex c v p
unfolding has_plex
there_plex c v p is = by_volume (slice_get c.volumes v) refl
  where
    by_plex : (x : VolumeEntry) → slice_get c.volumes v ≡ Some x → (o : Option PlexEntry) → slice_get x.plexes p ≡ o → is_some o ≡ true → TherePlex c v p
    by_plex x at None at_p on = absurd (let clash : false ≡ true = on in cc)
    by_plex x at (Some a) at_p on = record { volume = x; plex = a; at_v = at; at_p = at_p }

    by_volume : (o : Option VolumeEntry) → slice_get c.volumes v ≡ o → TherePlex c v p
    by_volume None at = absurd (let clash : false ≡ true = ap (λ (o : Option VolumeEntry). is_some (plex_in o p)) (sym at) ∙ is in cc)
    by_volume (Some x) at = by_plex x at (slice_get x.plexes p) refl (ap (λ (o : Option VolumeEntry). is_some (plex_in o p)) (sym at) ∙ is)

found_on : (ss : List Subdisk) (k : ℕ) → k < sum_by subdisk_blocks ss → list_any (lies_on (located ss k).0) ss ≡ true
found_on [] k lt = absurd (omega (arith, lt))
found_on (s ∷ ss) k lt = by (nat_lt k s.blocks) refl (λ out. found_on ss (k - s.blocks) (let cons = sum_by-cons subdisk_blocks s ss in omega (arith, lt, cons, out)))
  where
    or_true : (a b : Bool) → b ≡ true → a || b ≡ true
    or_true true b is = refl
    or_true false b is = is

    by : (t : Bool) → nat_lt k s.blocks ≡ t → (s.blocks ≤ k → list_any (lies_on (located ss (k - s.blocks)).0) ss ≡ true) → list_any (lies_on (if t then (s.disk, s.start + k) else located ss (k - s.blocks)).0) (s ∷ ss) ≡ true
    by true is more = ap (λ (b : Bool). b || list_any (lies_on s.disk) ss) (eq-eqb s.disk s.disk refl)
    by false is more = or_true (lies_on (located ss (k - s.blocks)).0 s) _ (more (elim (cases_lt k s.blocks) [ inl lt ↦ absurd (let clash : true ≡ false = sym (lt-ltb k s.blocks lt) ∙ is in cc) | inr le ↦ le ]))

-- a disk with blocks is there
pub disk_there : (c : Config) (d : ℕ) → 0 < disk_blocks c.disks d → d < length c.disks
disk_there c d some = elim (cases_lt d (length c.disks)) [
  | inl lt ↦ lt
  | inr le ↦ absurd (let none : disk_blocks c.disks d ≡ 0 = ap blocks_or (slice_get_past c.disks d le) in omega (arith, none, some))
]

module _ (c : Config) (sound : is_sound c ≡ true) (v p : ℕ) (there : TherePlex c v p) where
  -- a block of it lies on a disk that it uses
  pub plex_uses : (k : ℕ) → Inside c v k → IsTrue (uses c v p (place c v p k).0)
  unfolding uses place
  plex_uses k inside = by there
    where
      by : TherePlex c v p → uses_or (place_or (slice_get c.volumes v) p k).0 (plex_at c v p) ≡ true
      by t =
          let blocks : blocks_of c.volumes v ≡ t.volume.blocks = ap blocks_or_none t.at_v in
          let is = filled t.volume p t.plex (all_at is_volume c.volumes v t.volume (from_sound c sound).2 t.at_v) t.at_p in
          let within = linear_within t.volume t.plex k is (omega (arith, blocks, inside.within)) in
          let plex : plex_at c v p ≡ Some t.plex = ap (λ (o : Option VolumeEntry). plex_in o p) t.at_v ∙ t.at_p in
          let at : place_or (slice_get c.volumes v) p k ≡ located t.plex.subdisks (linear (column_blocks t.volume) t.volume.ncol t.volume.width k) = ap (λ (o : Option VolumeEntry). place_or o p k) t.at_v ∙ ap (λ (o : Option PlexEntry). place_in t.volume o k) t.at_p in
          ap (λ (o : Option PlexEntry). uses_or (place_or (slice_get c.volumes v) p k).0 o) plex ∙ ap (λ (q : ℕ × ℕ). list_any (lies_on q.0) t.plex.subdisks) at ∙ found_on t.plex.subdisks (linear (column_blocks t.volume) t.volume.ncol t.volume.width k) within

  -- and a disk that it uses is there
  pub plex_disk : (d : ℕ) → IsTrue (uses c v p d) → d < length c.disks
  unfolding uses
  plex_disk d is = by there
    where
      find : (ss : List Subdisk) → list_any (lies_on d) ss ≡ true → (i : ℕ) × ((s : Subdisk) × (slice_get ss i ≡ Some s) × (s.disk ≡ d))
      find [] any = absurd (let clash : false ≡ true = any in cc)
      find (s ∷ ss) any = at (lies_on d s) refl any (find ss)
        where
          at : (t : Bool) → lies_on d s ≡ t → t || list_any (lies_on d) ss ≡ true → (list_any (lies_on d) ss ≡ true → (i : ℕ) × ((x : Subdisk) × (slice_get ss i ≡ Some x) × (x.disk ≡ d))) → (i : ℕ) × ((x : Subdisk) × (slice_get (s ∷ ss) i ≡ Some x) × (x.disk ≡ d))
          at true is any more = (0, (s, refl, eqb-true s.disk d is))
          at false is any more = let w = more any in (suc w.0, (w.1.0, w.1.1, w.1.2))

      by : TherePlex c v p → d < length c.disks
      by t =
          let plex : plex_at c v p ≡ Some t.plex = ap (λ (o : Option VolumeEntry). plex_in o p) t.at_v ∙ t.at_p in
          let w = find t.plex.subdisks (ap (uses_or d) (sym plex) ∙ is) in
          let r = subdisk_region c sound v p w.0 t.volume t.plex w.1.0 t.at_v t.at_p w.1.1 in
          let lt = region_there w.1.0 r in
          omega (arith, lt, w.1.2)
        where
          region_there : (s : Subdisk) → in_region c.disks s ≡ true → s.disk < length c.disks
          region_there s is = let r = region_of c.disks s is in disk_there c s.disk (omega (arith, r.end))

-- a block of a plex lies on a disk that it uses, which is there
pub has_uses : (c : Config) → is_sound c ≡ true → (v p : ℕ) → IsTrue (has_plex c v p) → (k : ℕ) → Inside c v k → IsTrue (uses c v p (place c v p k).0)
has_uses c sound v p has k inside = plex_uses c sound v p (there_plex c v p has) k inside

pub has_disk : (c : Config) → is_sound c ≡ true → (v p : ℕ) → IsTrue (has_plex c v p) → (d : ℕ) → IsTrue (uses c v p d) → d < length c.disks
has_disk c sound v p has d is = plex_disk c sound v p (there_plex c v p has) d is
