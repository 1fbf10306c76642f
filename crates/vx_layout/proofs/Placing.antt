-- No two blocks of plexes have one place.
use Rattle.std.proofs.Common.{◌≡◌, ◌⊎◌, inl, inr, ℕ, zero, suc, ◌+◌, ◌-◌, ◌*◌, ◌%◌, ◌<◌, ◌≤◌, Bool, true, false, Option, Some, None, List, [], ◌∷◌, ◌++◌, length, get_or, refl, ap, sym, ◌∙◌, subst, arith}
use Rattle.std.specs.Prelude.{◌&&◌, ◌||◌, ◌==◌, not, nat_lt, nat_le, min, max, slice_get, flat_map, sum_by, is_some, if◌then◌else◌}
use Rattle.std.specs.List.{list_all, list_any}
use Rattle.std.proofs.lemmas.List.Sums.{sum_by-cons}
use Rattle.std.proofs.lemmas.Option.{slice_get_past, slice_get_read}
use Rattle.std.proofs.lemmas.Bool.{cases_lt, eq-eqb, eqb-true, false_from_ne_true, leb-true, lt-ltb, ltb-true}
use Rattle.std.specs.Int.{div_ceil}
use Rattle.vx_config.specs.Checks.{are_apart, are_placed, blocks_of, blocks_or_none, column_blocks, differ, ends_within, fill, group_or_none, has_logs, has_plexes, has_shape, in_region, is_live, is_sound, is_volume, log_runs, pairwise, plex_fills, plex_runs, preferred_is, runs, volume_runs, blocks_or}
use Rattle.vx_config.specs.Configs.{subdisk_count}
use Rattle.vx_config.specs.declared.config.Config.{Config}
use Rattle.vx_config.specs.declared.entry.DiskEntry.{DiskEntry}
use Rattle.vx_config.specs.declared.entry.PlexEntry.{PlexEntry}
use Rattle.vx_config.specs.declared.entry.Subdisk.{Subdisk}
use Rattle.vx_config.specs.declared.entry.VolumeEntry.{VolumeEntry}
use Rattle.vx_config.proofs.FillLemmas.{not-zero}
use Rattle.vx_layout.specs.Places.{AreApart, HasBlock, InRegion, IsFilled, IsSeat, subdisk_blocks, disk_blocks, has_plex, linear, located, place, place_in, place_or, plex_in}
use Rattle.vx_layout.proofs.Pairs.{all_at, and_left, and_right, flat_across, flat_part, get_left, in_flat, pairs_at, pairs_left}
use Rattle.vx_layout.specs.declared.spot.Seat.{Seat}
use Rattle.vx_layout.specs.declared.spot.Spot.{Spot}
use Rattle.vx_layout.proofs.Stripes.{fill_sum, linear_below, linear_one, linear_run}

-- ---- subdisks that are apart have no block in common

no_block : (s t : Subdisk) (o q : ℕ) → are_apart s t ≡ true → o < s.blocks → q < t.blocks → s.disk ≡ t.disk → s.start + o ≡ t.start + q → ⊥
unfolding are_apart
no_block s t o q apart in_s in_t disk at = by (s.disk == t.disk) (eq-eqb s.disk t.disk disk) apart
  where
    by : (b : Bool) → b ≡ true → not b || nat_le (min (s.start + s.blocks) (t.start + t.blocks)) (max s.start t.start) ≡ true → ⊥
    by true is test = let le : min (s.start + s.blocks) (t.start + t.blocks) ≤ max s.start t.start = leb-true _ _ test in omega (arith, le, in_s, in_t, at)
    by false is test = let clash : false ≡ true = is in absurd cc

-- ---- the place of a block

abbrev before : List Subdisk → ℕ → ℕ
before [] n = 0
before (s ∷ ss) zero = 0
before (s ∷ ss) (suc n) = s.blocks + before ss n

record At (ss : List Subdisk) (k : ℕ) : Type 0 where
  index : ℕ
  subdisk : Subdisk
  offset : ℕ
  there : slice_get ss index ≡ Some subdisk
  inside : offset < subdisk.blocks
  place : located ss k ≡ (subdisk.disk, subdisk.start + offset)
  number : k ≡ before ss index + offset

at_of : (ss : List Subdisk) (k : ℕ) → k < sum_by subdisk_blocks ss → At ss k
at_of [] k lt = absurd (omega (arith, lt))
at_of (s ∷ ss) k lt = elim (cases_lt k s.blocks) [
  | inl here ↦ record { number = omega arith; index = 0; subdisk = s; offset = k; there = refl; inside = here; place = ap (λ (b : Bool). if b then (s.disk, s.start + k) else located ss (k - s.blocks)) (lt-ltb k s.blocks here) }
  | inr past ↦
      let sum : sum_by subdisk_blocks (s ∷ ss) ≡ s.blocks + sum_by subdisk_blocks ss = sum_by-cons subdisk_blocks s ss in
      let it = at_of ss (k - s.blocks) (omega (arith, lt, past, sum)) in
      record {
        number = omega (arith, past, it.number);
        index = suc it.index;
        subdisk = it.subdisk;
        offset = it.offset;
        there = it.there;
        inside = it.inside;
        place = ap (λ (b : Bool). if b then (s.disk, s.start + k) else located ss (k - s.blocks)) (not_lt k s.blocks past) ∙ it.place;
      }
]
  where
    not_lt : (m n : ℕ) → n ≤ m → nat_lt m n ≡ false
    not_lt m n le = false_from_ne_true (nat_lt m n) (λ is. let lt : m < n = ltb-true m n is in omega (arith, le, lt))

-- two blocks of one list that have one place are one
one_in : (ss : List Subdisk) (k l : ℕ) → pairwise are_apart ss ≡ true → k < sum_by subdisk_blocks ss → l < sum_by subdisk_blocks ss → located ss k ≡ located ss l → k ≡ l
one_in ss k l pairs in_k in_l same =
    let x = at_of ss k in_k in
    let y = at_of ss l in_l in
    let pair : ◌≡◌ {A = ℕ × ℕ} (x.subdisk.disk, x.subdisk.start + x.offset) (y.subdisk.disk, y.subdisk.start + y.offset) = sym x.place ∙ same ∙ y.place in
    let disk : x.subdisk.disk ≡ y.subdisk.disk = ap (λ (q : ℕ × ℕ). q.0) pair in
    let at : x.subdisk.start + x.offset ≡ y.subdisk.start + y.offset = ap (λ (q : ℕ × ℕ). q.1) pair in
    elim (cases_lt x.index y.index) [
      | inl lt ↦ absurd (no_block x.subdisk y.subdisk x.offset y.offset (pairs_at are_apart ss x.index y.index x.subdisk y.subdisk pairs lt x.there y.there) x.inside y.inside disk at)
      | inr le ↦ elim (cases_lt y.index x.index) [
        | inl lt ↦ absurd (no_block y.subdisk x.subdisk y.offset x.offset (pairs_at are_apart ss y.index x.index y.subdisk x.subdisk pairs lt y.there x.there) y.inside x.inside (sym disk) (sym at))
        | inr ge ↦
            let index : x.index ≡ y.index = omega (arith, le, ge) in
            let found : Some x.subdisk ≡ Some y.subdisk = sym x.there ∙ ap (slice_get ss) index ∙ y.there in
            let one : x.subdisk ≡ y.subdisk = cc in
            let start : x.subdisk.start ≡ y.subdisk.start = ap (λ (s : Subdisk). s.start) one in
            let front : before ss x.index ≡ before ss y.index = ap (before ss) index in
            omega (arith, x.number, y.number, at, start, front)
      ]
    ]

-- two lists, of which each two subdisks are apart
none_shared : (ss ts : List Subdisk) (k l : ℕ) → ((i j : ℕ) (s t : Subdisk) → slice_get ss i ≡ Some s → slice_get ts j ≡ Some t → are_apart s t ≡ true) → k < sum_by subdisk_blocks ss → l < sum_by subdisk_blocks ts → located ss k ≡ located ts l → ⊥
none_shared ss ts k l apart in_k in_l same =
    let x = at_of ss k in_k in
    let y = at_of ts l in_l in
    let pair : ◌≡◌ {A = ℕ × ℕ} (x.subdisk.disk, x.subdisk.start + x.offset) (y.subdisk.disk, y.subdisk.start + y.offset) = sym x.place ∙ same ∙ y.place in
    no_block x.subdisk y.subdisk x.offset y.offset (apart x.index y.index x.subdisk y.subdisk x.there y.there) x.inside y.inside (ap (λ (q : ℕ × ℕ). q.0) pair) (ap (λ (q : ℕ × ℕ). q.1) pair)

-- ---- the plexes of a sound configuration

module _ (c : Config) (sound : pairwise are_apart (runs c) ≡ true) where
  volume_pairs : (v : ℕ) (x : VolumeEntry) → slice_get c.volumes v ≡ Some x → pairwise are_apart (volume_runs x) ≡ true
  unfolding runs
  volume_pairs v x at = flat_part volume_runs are_apart c.volumes v x sound at

  -- one plex
  pub one_plex : (v p k l : ℕ) (x : VolumeEntry) (a : PlexEntry) → slice_get c.volumes v ≡ Some x → slice_get x.plexes p ≡ Some a
      → k < sum_by subdisk_blocks a.subdisks → l < sum_by subdisk_blocks a.subdisks → located a.subdisks k ≡ located a.subdisks l → k ≡ l
  one_plex v p k l x a at_x at_a in_k in_l same =
      one_in a.subdisks k l (flat_part plex_runs are_apart x.plexes p a (pairs_left are_apart (flat_map plex_runs x.plexes) (log_runs x.drl ++ log_runs x.fmr) (volume_pairs v x at_x)) at_a) in_k in_l same

  -- two plexes of one volume
  pub two_plexes : (v p q k l : ℕ) (x : VolumeEntry) (a b : PlexEntry) → p < q → slice_get c.volumes v ≡ Some x → slice_get x.plexes p ≡ Some a → slice_get x.plexes q ≡ Some b
      → k < sum_by subdisk_blocks a.subdisks → l < sum_by subdisk_blocks b.subdisks → located a.subdisks k ≡ located b.subdisks l → ⊥
  two_plexes v p q k l x a b lt at_x at_a at_b in_k in_l same =
      none_shared a.subdisks b.subdisks k l
      (λ i j s t at_s at_t. flat_across plex_runs are_apart x.plexes p q i j a b s t (pairs_left are_apart (flat_map plex_runs x.plexes) (log_runs x.drl ++ log_runs x.fmr) (volume_pairs v x at_x)) lt at_a at_b at_s at_t)
      in_k in_l same

  -- a subdisk of a plex is a run of its volume
  pub in_volume : (x : VolumeEntry) (p i : ℕ) (a : PlexEntry) (s : Subdisk) → slice_get x.plexes p ≡ Some a → slice_get a.subdisks i ≡ Some s → (j : ℕ) × (slice_get (volume_runs x) j ≡ Some s)
  in_volume x p i a s at_a at_s = let it = in_flat plex_runs x.plexes p i a s at_a at_s in get_left (flat_map plex_runs x.plexes) (log_runs x.drl ++ log_runs x.fmr) it.0 s it.1

  -- plexes of two volumes
  pub two_volumes : (v w p q k l : ℕ) (x y : VolumeEntry) (a b : PlexEntry) → v < w → slice_get c.volumes v ≡ Some x → slice_get c.volumes w ≡ Some y → slice_get x.plexes p ≡ Some a → slice_get y.plexes q ≡ Some b
      → k < sum_by subdisk_blocks a.subdisks → l < sum_by subdisk_blocks b.subdisks → located a.subdisks k ≡ located b.subdisks l → ⊥
  unfolding runs
  two_volumes v w p q k l x y a b lt at_x at_y at_a at_b in_k in_l same =
      none_shared a.subdisks b.subdisks k l
      (λ i j s t at_s at_t.
      let m = in_volume x p i a s at_a at_s in
      let n = in_volume y q j b t at_b at_t in
      flat_across volume_runs are_apart c.volumes v w m.0 n.0 x y s t sound lt at_x at_y m.1 n.1)
      in_k in_l same

-- ---- what a sound configuration has

pub from_sound : (c : Config) → is_sound c ≡ true → (list_all (in_region c.disks) (runs c) ≡ true) × (pairwise are_apart (runs c) ≡ true) × (list_all is_volume c.volumes ≡ true)
unfolding is_sound
from_sound c is =
    let four : nat_le (subdisk_count c) 1024 && are_placed c && pairwise differ c.volumes && list_all is_volume c.volumes ≡ true = and_left _ (group_or_none c.volumes c.rvg) is in
    let volumes : list_all is_volume c.volumes ≡ true = and_right (nat_le (subdisk_count c) 1024 && are_placed c && pairwise differ c.volumes) _ four in
    let three : nat_le (subdisk_count c) 1024 && are_placed c && pairwise differ c.volumes ≡ true = and_left _ (list_all is_volume c.volumes) four in
    let two : nat_le (subdisk_count c) 1024 && are_placed c ≡ true = and_left _ (pairwise differ c.volumes) three in
    let placed : are_placed c ≡ true = and_right (nat_le (subdisk_count c) 1024) _ two in
    (and_left (list_all (in_region c.disks) (runs c)) (pairwise are_apart (runs c)) placed, and_right (list_all (in_region c.disks) (runs c)) (pairwise are_apart (runs c)) placed, volumes)

pub filled : (x : VolumeEntry) (p : ℕ) (a : PlexEntry) → is_volume x ≡ true → slice_get x.plexes p ≡ Some a → IsFilled x a
filled x p a is at =
    let both : has_shape x && has_logs x ≡ true = and_left _ (has_plexes x) is in
    let shape : has_shape x ≡ true = and_left _ (has_logs x) both in
    let plexes : has_plexes x ≡ true = and_right (has_shape x && has_logs x) _ is in
    let three : nat_le (length x.plexes) 8 && list_all (plex_fills x) x.plexes && preferred_is (length x.plexes) x.prefer ≡ true = and_left _ (list_any is_live x.plexes) plexes in
    let two : nat_le (length x.plexes) 8 && list_all (plex_fills x) x.plexes ≡ true = and_left _ (preferred_is (length x.plexes) x.prefer) three in
    let fills : list_all (plex_fills x) x.plexes ≡ true = and_right (nat_le (length x.plexes) 8) _ two in
    let mine : plex_fills x a ≡ true = all_at (plex_fills x) x.plexes p a fills at in
    let count : nat_le 1 x.ncol && nat_le x.ncol 8 ≡ true = and_left _ (not (x.width == 0) || x.ncol == 1) shape in
    let least : 1 ≤ x.ncol = leb-true 1 x.ncol (and_left (nat_le 1 x.ncol) _ count) in
    let more : suc (x.ncol - 1) ≡ x.ncol = omega (arith, least) in
    let sum = fill_sum (column_blocks x) (x.ncol - 1) (column_blocks x) a.subdisks (omega arith) (subst (λ (n : ℕ). fill (column_blocks x) n (column_blocks x) a.subdisks ≡ true) (sym more) mine) in
    record {
      columns = omega (arith, least);
      one = λ width.
          let test : (x.width == 0) ≡ true = eq-eqb x.width 0 width in
          let or : not (x.width == 0) || x.ncol == 1 ≡ true = and_right (nat_le 1 x.ncol && nat_le x.ncol 8) _ shape in
          let one : (x.ncol == 1) ≡ true = ap (λ (b : Bool). not b || x.ncol == 1) (sym test) ∙ or in
          eqb-true x.ncol 1 one;
      sum = sum ∙ times (x.ncol - 1) (column_blocks x) ∙ ap (λ (n : ℕ). n * column_blocks x) more;
    }
  where
    times : (m n : ℕ) → m * n + n ≡ suc m * n
    times m n = omega arith

-- a block of the volume is one of the plex's subdisks
pub linear_within : (x : VolumeEntry) (a : PlexEntry) (b : ℕ) → IsFilled x a → b < x.blocks → linear (column_blocks x) x.ncol x.width b < sum_by subdisk_blocks a.subdisks
unfolding column_blocks
linear_within x a b is lt = by (cases_lt 0 x.width)
  where
    by : (0 < x.width) ⊎ (x.width ≤ 0) → linear (column_blocks x) x.ncol x.width b < sum_by subdisk_blocks a.subdisks
    by (inl some) =
        let column : column_blocks x ≡ div_ceil x.blocks (x.ncol * x.width) * x.width = ap (λ (t : Bool). if t then x.blocks else div_ceil x.blocks (x.ncol * x.width) * x.width) (not-zero x.width (λ none. omega (arith, some, none))) in
        omega (arith, linear_below x.blocks x.ncol x.width (column_blocks x) b some is.columns column lt, is.sum)
    by (inr none) =
        let width : x.width ≡ 0 = omega (arith, none) in
        let test : (x.width == 0) ≡ true = eq-eqb x.width 0 width in
        let straight : linear (column_blocks x) x.ncol x.width b ≡ b = ap (λ (w : ℕ). linear (column_blocks x) x.ncol w b) width in
        let column : column_blocks x ≡ x.blocks = ap (λ (t : Bool). if t then x.blocks else div_ceil x.blocks (x.ncol * x.width) * x.width) test in
        let all : x.ncol * column_blocks x ≡ x.blocks = ap (λ (n : ℕ). n * column_blocks x) (is.one width) ∙ one_times (column_blocks x) ∙ column in
        omega (arith, straight, all, is.sum, lt)
      where
        one_times : (n : ℕ) → 1 * n ≡ n
        one_times n = omega arith

-- two blocks of the volume are two of them
pub linear_differs : (x : VolumeEntry) (a : PlexEntry) (b d : ℕ) → IsFilled x a → b < x.blocks → d < x.blocks → linear (column_blocks x) x.ncol x.width b ≡ linear (column_blocks x) x.ncol x.width d → b ≡ d
unfolding column_blocks
linear_differs x a b d is lt lt' same = by (cases_lt 0 x.width)
  where
    by : (0 < x.width) ⊎ (x.width ≤ 0) → b ≡ d
    by (inl some) =
        let column : column_blocks x ≡ div_ceil x.blocks (x.ncol * x.width) * x.width = ap (λ (t : Bool). if t then x.blocks else div_ceil x.blocks (x.ncol * x.width) * x.width) (not-zero x.width (λ none. omega (arith, some, none))) in
        linear_one x.blocks x.ncol x.width (column_blocks x) b d some is.columns column lt lt' same
    by (inr none) =
        let width : x.width ≡ 0 = omega (arith, none) in
        sym (ap (λ (w : ℕ). linear (column_blocks x) x.ncol w b) width) ∙ same ∙ ap (λ (w : ℕ). linear (column_blocks x) x.ncol w d) width

record Part (c : Config) (v p b : ℕ) : Type 0 where
  volume : VolumeEntry
  plex : PlexEntry
  at_v : slice_get c.volumes v ≡ Some volume
  at_p : slice_get volume.plexes p ≡ Some plex
  is_at : place c v p b ≡ located plex.subdisks (linear (column_blocks volume) volume.ncol volume.width b)
  is_filled : IsFilled volume plex
  block : b < volume.blocks

within : (c : Config) (v p b : ℕ) (x : Part c v p b) → linear (column_blocks x.volume) x.volume.ncol x.volume.width b < sum_by subdisk_blocks x.plex.subdisks
within c v p b x = linear_within x.volume x.plex b x.is_filled x.block

-- the subdisk of a plex lies in its disk's public region
pub subdisk_region : (c : Config) → is_sound c ≡ true → (v p i : ℕ) (x : VolumeEntry) (a : PlexEntry) (s : Subdisk) → slice_get c.volumes v ≡ Some x → slice_get x.plexes p ≡ Some a → slice_get a.subdisks i ≡ Some s → in_region c.disks s ≡ true
unfolding runs
subdisk_region c sound v p i x a s at_v at_p at_s =
    let m = in_volume c (from_sound c sound).1 x p i a s at_p at_s in
    let n = in_flat volume_runs c.volumes v m.0 x s at_v m.1 in
    all_at (in_region c.disks) (runs c) n.0 s (from_sound c sound).0 n.1

pub region_of : (disks : List DiskEntry) (s : Subdisk) → in_region disks s ≡ true → InRegion disks s.disk s.start s.blocks
region_of disks s is = by (slice_get disks s.disk) refl is
  where
    by : (o : Option DiskEntry) → slice_get disks s.disk ≡ o → ends_within s o ≡ true → InRegion disks s.disk s.start s.blocks
    by None at is = absurd (let clash : false ≡ true = is in cc)
    by (Some d) at is =
        let blocks : disk_blocks disks s.disk ≡ d.blocks = ap blocks_or at in
        let end : s.start + s.blocks ≤ d.blocks = leb-true (s.start + s.blocks) d.blocks (and_right (nat_le 512 s.start) _ is) in
        record { public = leb-true 512 s.start (and_left (nat_le 512 s.start) _ is); end = omega (arith, blocks, end) }

module _ (c : Config) (sound : is_sound c ≡ true) where
  part_of : (v p b : ℕ) → HasBlock c v p b → Part c v p b
  unfolding has_plex place
  part_of v p b has = by_volume (slice_get c.volumes v) refl
    where
      by_plex : (x : VolumeEntry) → slice_get c.volumes v ≡ Some x → (o : Option PlexEntry) → slice_get x.plexes p ≡ o → is_some o ≡ true → Part c v p b
      by_plex x at None at_p is = absurd (let clash : false ≡ true = is in cc)
      by_plex x at (Some a) at_p is =
          let blocks : blocks_of c.volumes v ≡ x.blocks = ap blocks_or_none at in
          record {
            volume = x;
            plex = a;
            at_v = at;
            at_p = at_p;
            is_at = ap (λ (o : Option VolumeEntry). place_or o p b) at ∙ ap (λ (o : Option PlexEntry). place_in x o b) at_p;
            is_filled = filled x p a (all_at is_volume c.volumes v x (from_sound c sound).2 at) at_p;
            block = omega (arith, blocks, has.block);
          }

      by_volume : (o : Option VolumeEntry) → slice_get c.volumes v ≡ o → Part c v p b
      by_volume None at = absurd (let clash : false ≡ true = ap (λ (o : Option VolumeEntry). is_some (plex_in o p)) (sym at) ∙ has.plex in cc)
      by_volume (Some x) at = by_plex x at (slice_get x.plexes p) refl (ap (λ (o : Option VolumeEntry). is_some (plex_in o p)) (sym at) ∙ has.plex)

  same_plex : (v p b d : ℕ) → Part c v p b → Part c v p d → place c v p b ≡ place c v p d → b ≡ d
  same_plex v p b d x y same = by x.volume y.volume x.plex y.plex x.at_v y.at_v x.at_p y.at_p (same_Some' (sym x.at_v ∙ y.at_v)) x.is_filled x.block y.block x.is_at y.is_at
    where
      same_Some' : {A : Type 0} {x y : A} → Some x ≡ Some y → x ≡ y
      same_Some' e = cc

      by : (xv yv : VolumeEntry) (xp yp : PlexEntry) → slice_get c.volumes v ≡ Some xv → slice_get c.volumes v ≡ Some yv → slice_get xv.plexes p ≡ Some xp → slice_get yv.plexes p ≡ Some yp → xv ≡ yv → IsFilled xv xp → b < xv.blocks → d < yv.blocks
          → place c v p b ≡ located xp.subdisks (linear (column_blocks xv) xv.ncol xv.width b) → place c v p d ≡ located yp.subdisks (linear (column_blocks yv) yv.ncol yv.width d) → b ≡ d
      by xv yv xp yp at_x at_y at_a at_b one filled in_b in_d is_b is_d =
          let plexes : Some xp ≡ Some yp = sym at_a ∙ ap (λ (w : VolumeEntry). slice_get w.plexes p) one ∙ at_b in
          let plex : yp ≡ xp = sym (same_Some' plexes) in
          let in_d' : d < xv.blocks = subst (λ (w : VolumeEntry). d < w.blocks) (sym one) in_d in
          let is_d' : place c v p d ≡ located xp.subdisks (linear (column_blocks xv) xv.ncol xv.width d) = is_d ∙ ap (λ (w : PlexEntry). located w.subdisks (linear (column_blocks yv) yv.ncol yv.width d)) plex ∙ ap (λ (w : VolumeEntry). located xp.subdisks (linear (column_blocks w) w.ncol w.width d)) (sym one) in
          linear_differs xv xp b d filled in_b in_d'
          (one_plex c (from_sound c sound).1 v p (linear (column_blocks xv) xv.ncol xv.width b) (linear (column_blocks xv) xv.ncol xv.width d) xv xp at_x at_a
          (linear_within xv xp b filled in_b) (linear_within xv xp d filled in_d') (sym is_b ∙ same ∙ is_d'))

  same_volume : (v p q b d : ℕ) → p < q → Part c v p b → Part c v q d → place c v p b ≡ place c v q d → ⊥
  same_volume v p q b d lt x y same =
      let volume : Some y.volume ≡ Some x.volume = sym y.at_v ∙ x.at_v in
      let one : y.volume ≡ x.volume = cc in
      two_plexes c (from_sound c sound).1 v p q (linear (column_blocks x.volume) x.volume.ncol x.volume.width b) (linear (column_blocks y.volume) y.volume.ncol y.volume.width d) x.volume x.plex y.plex lt x.at_v x.at_p (ap (λ (w : VolumeEntry). slice_get w.plexes q) (sym one) ∙ y.at_p) (within c v p b x) (within c v q d y) (sym x.is_at ∙ same ∙ y.is_at)

  other_volume : (v w p q b d : ℕ) → v < w → Part c v p b → Part c w q d → place c v p b ≡ place c w q d → ⊥
  other_volume v w p q b d lt x y same = two_volumes c (from_sound c sound).1 v w p q (linear (column_blocks x.volume) x.volume.ncol x.volume.width b) (linear (column_blocks y.volume) y.volume.ncol y.volume.width d) x.volume y.volume x.plex y.plex lt x.at_v y.at_v x.at_p y.at_p (within c v p b x) (within c w q d y) (sym x.is_at ∙ same ∙ y.is_at)

  region : (v p b : ℕ) → Part c v p b → InRegion c.disks (place c v p b).0 (place c v p b).1 1
  region v p b x =
      let it = at_of x.plex.subdisks (linear (column_blocks x.volume) x.volume.ncol x.volume.width b) (within c v p b x) in
      let r = region_of c.disks it.subdisk (subdisk_region c sound v p it.index x.volume x.plex it.subdisk x.at_v x.at_p it.there) in
      let is : place c v p b ≡ (it.subdisk.disk, it.subdisk.start + it.offset) = x.is_at ∙ it.place in
      let here : InRegion c.disks it.subdisk.disk (it.subdisk.start + it.offset) 1 = record { public = omega (arith, r.public); end = omega (arith, r.end, it.inside) } in
      subst (λ (q : ℕ × ℕ). InRegion c.disks q.0 q.1 1) (sym is) here

  pub sound_apart : AreApart c
  sound_apart = record {
    region = λ v p b has. region v p b (part_of v p b has);
    one = λ v p b w q d in_b in_d same.
        let x = part_of v p b in_b in
        let y = part_of w q d in_d in
        elim (cases_lt v w) [
          | inl lt ↦ absurd (other_volume v w p q b d lt x y same)
          | inr le ↦ elim (cases_lt w v) [
            | inl lt ↦ absurd (other_volume w v q p d b lt y x (sym same))
            | inr ge ↦
                let vol : w ≡ v = omega (arith, le, ge) in
                let y' : Part c v q d = subst (λ (k : ℕ). Part c k q d) vol y in
                let same' : place c v p b ≡ place c v q d = same ∙ ap (λ (k : ℕ). place c k q d) vol in
                elim (cases_lt p q) [
                  | inl lt ↦ absurd (same_volume v p q b d lt x y' same')
                  | inr low ↦ elim (cases_lt q p) [
                    | inl lt ↦ absurd (same_volume v q p d b lt y' x (sym same'))
                    | inr high ↦
                        let plex : q ≡ p = omega (arith, low, high) in
                        (sym vol, sym plex, same_plex v p b d x (subst (λ (k : ℕ). Part c v k d) plex y') (same' ∙ ap (λ (k : ℕ). place c v k d) plex))
                  ]
                ]
          ]
        ];
  }

-- a seat in the subdisks, as far as the unit goes, is one of the plex
pub run_in : (v : VolumeEntry) (p : PlexEntry) (b : ℕ) (ss : List Subdisk) (k : ℕ) (seat : Seat) (unit reach : ℕ) → ss ≡ p.subdisks → k ≡ linear (column_blocks v) v.ncol v.width b
    → ((j : ℕ) → j < seat.reach → located ss (k + j) ≡ (seat.subdisk.disk, seat.subdisk.start + (seat.offset + j))) → (0 < v.width → unit ≡ v.width - b % v.width) → reach ≡ min seat.reach unit
    → (j : ℕ) → j < reach → place_in v (Some p) (b + j) ≡ (seat.subdisk.disk, seat.subdisk.start + (seat.offset + j))
run_in v p b ss k seat unit reach same is run in_unit least j lt =
    ap (λ (n : ℕ). located p.subdisks n) (along (cases_lt 0 v.width)) ∙ ap (λ (xs : List Subdisk). located xs (k + j)) (sym same) ∙ run j (omega (arith, lt, least))
  where
    along : (0 < v.width) ⊎ (v.width ≤ 0) → linear (column_blocks v) v.ncol v.width (b + j) ≡ k + j
    along (inl some) = let one = linear_run (column_blocks v) v.ncol v.width b j some (omega (arith, lt, least, in_unit some)) in omega (arith, one, is)
    along (inr none) =
        let width : v.width ≡ 0 = omega (arith, none) in
        let flat : linear (column_blocks v) v.ncol v.width (b + j) ≡ b + j = ap (λ (w : ℕ). linear (column_blocks v) v.ncol w (b + j)) width in
        let here : linear (column_blocks v) v.ncol v.width b ≡ b = ap (λ (w : ℕ). linear (column_blocks v) v.ncol w b) width in
        omega (arith, flat, here, is)

-- ---- what a look into a list gives

pub got : {A : Type 0} (xs ys : List A) (i : ℕ) (x : A) → ys ≡ xs → i < length ys → x ≡ get_or ys i x → slice_get xs i ≡ Some x
got xs ys i x same lt is = ap (λ zs. slice_get zs i) (sym same) ∙ slice_get_read ys (length ys) i x refl lt is

pub none_got : {A : Type 0} (xs ys : List A) (i : ℕ) → ys ≡ xs → length ys ≤ i → slice_get xs i ≡ None
none_got xs ys i same le = ap (λ zs. slice_get zs i) (sym same) ∙ slice_get_past ys i le

pub ends_in : (disks : List DiskEntry) (s : Subdisk) (d : DiskEntry) → in_region disks s ≡ true → slice_get disks s.disk ≡ Some d → s.start + s.blocks ≤ d.blocks
ends_in disks s d is at = let blocks : disk_blocks disks s.disk ≡ d.blocks = ap blocks_or at in omega (arith, (region_of disks s is).end, blocks)

pub no_disk : (disks : List DiskEntry) (s : Subdisk) → in_region disks s ≡ true → slice_get disks s.disk ≡ None → ⊥
no_disk disks s is at = let e : ends_within s None ≡ true = ap (ends_within s) (sym at) ∙ is in cc

-- ---- what a block has

module _ (c : Config) (sound : is_sound c ≡ true) (v p b : ℕ) (has : HasBlock c v p b) (x : VolumeEntry) (at_v : slice_get c.volumes v ≡ Some x) where
  pub block_in : b < x.blocks
  block_in = let blocks : blocks_of c.volumes v ≡ x.blocks = ap blocks_or_none at_v in omega (arith, blocks, has.block)

  pub plex_there : slice_get x.plexes p ≡ None → ⊥
  unfolding has_plex
  plex_there none = let e : false ≡ true = ap is_some (sym none) ∙ ap (λ (o : Option VolumeEntry). is_some (plex_in o p)) (sym at_v) ∙ has.plex in cc

  module _ (a : PlexEntry) (at_p : slice_get x.plexes p ≡ Some a) where
    pub plex_filled : IsFilled x a
    plex_filled = filled x p a (all_at is_volume c.volumes v x (from_sound c sound).2 at_v) at_p

    pub seat_region : (disks : List DiskEntry) (seat : Seat) → disks ≡ c.disks → IsSeat a.subdisks seat → in_region disks seat.subdisk ≡ true
    seat_region disks seat same is = ap (λ (ds : List DiskEntry). in_region ds seat.subdisk) same ∙ subdisk_region c sound v p is.index x a seat.subdisk at_v at_p is.there

    pub place_run : (seat : Seat) (spot : Spot) → ((j : ℕ) → j < seat.reach → place_in x (Some a) (b + j) ≡ (seat.subdisk.disk, seat.subdisk.start + (seat.offset + j)))
        → spot.disk ≡ seat.subdisk.disk → spot.at ≡ seat.subdisk.start + seat.offset → spot.reach ≡ seat.reach → (j : ℕ) → j < spot.reach → place c v p (b + j) ≡ (spot.disk, spot.at + j)
    unfolding place
    place_run seat spot run disk at reach j lt =
        ap (λ (o : Option VolumeEntry). place_or o p (b + j)) at_v ∙ ap (λ (o : Option PlexEntry). place_in x o (b + j)) at_p ∙ run j (omega (arith, lt, reach))
        ∙ ap (λ (n : ℕ). (n, seat.subdisk.start + (seat.offset + j))) (sym disk) ∙ ap (λ (n : ℕ). (spot.disk, n)) (let e : seat.subdisk.start + (seat.offset + j) ≡ spot.at + j = omega (arith, at) in e)

pub volume_there : (c : Config) (v p b : ℕ) → HasBlock c v p b → slice_get c.volumes v ≡ None → ⊥
unfolding has_plex
volume_there c v p b has none = let e : false ≡ true = ap (λ (o : Option VolumeEntry). is_some (plex_in o p)) (sym none) ∙ has.plex in cc

-- the region of disks as they were told
pub region_same : (ds disks : List DiskEntry) (disk at reach : ℕ) → ds ≡ disks → InRegion ds disk at reach → InRegion disks disk at reach
region_same ds disks disk at reach same is = subst (λ (x : List DiskEntry). InRegion x disk at reach) same is

pub spot_region : (disks : List DiskEntry) (seat : Seat) → in_region disks seat.subdisk ≡ true → seat.offset + seat.reach ≤ seat.subdisk.blocks → InRegion disks seat.subdisk.disk (seat.subdisk.start + seat.offset) seat.reach
spot_region disks seat is fits = let r = region_of disks seat.subdisk is in record { public = omega (arith, r.public); end = omega (arith, r.end, fits) }

-- a block that was looked up is there
pub has_from : (c : Config) (v p b : ℕ) (x : VolumeEntry) → slice_get c.volumes v ≡ Some x → p < length x.plexes → b < x.blocks → HasBlock c v p b
unfolding has_plex
has_from c v p b x at_v in_p in_b = record {
  plex = ap (λ (o : Option VolumeEntry). is_some (plex_in o p)) at_v ∙ there x.plexes p in_p;
  block = let blocks : blocks_of c.volumes v ≡ x.blocks = ap blocks_or_none at_v in omega (arith, blocks, in_b);
}
  where
    there : (ps : List PlexEntry) (n : ℕ) → n < length ps → is_some (slice_get ps n) ≡ true
    there [] n lt = absurd (omega (arith, lt))
    there (q ∷ ps) zero lt = refl
    there (q ∷ ps) (suc n) lt = there ps n (omega (arith, lt))
