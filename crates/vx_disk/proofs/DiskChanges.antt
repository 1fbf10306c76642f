-- How what is told of the disks in memory changes, where one of them does.
use Rattle.std.proofs.Common.{◌≡◌, ◌≢◌, ◌⊎◌, inl, inr, ⊎_elim, ℕ, ◌<◌, ◌≤◌, ◌+◌, ◌*◌, ◌/◌, Option, None, Vec, Bool, true, false, List, [], length, map, get_or, set, refl, sym, ◌∙◌, ap, subst, arith}
use Rattle.std.specs.Prelude.{replicate}
use Rattle.std.proofs.lemmas.List.{length-set}
use Rattle.std.proofs.lemmas.Bool.{cases_eq, cases_lt}
use Rattle.std.specs.declared.alloc.Global.{Global}
use Rattle.vx_disk.specs.Racks.{Alike}
use Rattle.vx_disk.specs.declared.unit.MemUnit.{MemUnit}
use Rattle.vx_disk.specs.Blocks.{block_at, over}
use Rattle.vx_disk.specs.Disks.{SameBlocks}
use Rattle.vx_disk.specs.Shelf.{Covers, piece, DisksWrote, DisksFlushed}
use Rattle.vx_disk.specs.Memory.{latest_of, loose_of, size_of, failing_of, disks_of, may_keep, meaning_of, NoneLoose}
use Rattle.vx_disk.proofs.Changes.{map_here, map_other, map_was, now}
use Rattle.vx_disk.proofs.Flags.{no_loose, over_in, over_out}

-- one unit changed
module _ (units : List MemUnit) (u : ℕ) (x y : MemUnit) (exists : u < length units) (was : y ≡ get_or units u y) where
  pub same_map : {A : Type 0} (f : MemUnit → A) (d : A) → f x ≡ f y → (w : ℕ) → get_or (map f (set units u x)) w d ≡ get_or (map f units) w d
  same_map f d same w = elim (cases_eq w u) [
    | inl is ↦ subst (λ (k : ℕ). get_or (map f (set units u x)) k d ≡ get_or (map f units) k d) (sym is) (map_here units u x y exists was f d ∙ same ∙ sym (map_was units u x y exists was f d))
    | inr not ↦ map_other units u x y exists was f d w not
  ]

  pub fault-SameBlocks : (fuse fuse' : Option (ℕ × ℕ)) → x.latest.items ≡ y.latest.items → x.stable.items ≡ y.stable.items → x.loose.items ≡ y.loose.items → SameBlocks (disks_of units fuse) (disks_of (set units u x) fuse')
  fault-SameBlocks fuse fuse' latest stable loose = record {
    stable = λ w b. ap (λ l. block_at l b) (same_map (λ m. m.stable.items) [] stable w);
    latest = λ w b. ap (λ l. block_at l b) (same_map (λ m. m.latest.items) [] latest w);
    loose = λ w b. ap (λ l. get_or l b false) (same_map (λ m. m.loose.items) [] loose w);
  }

  pub same_failing : x.failing ≡ y.failing → (w : ℕ) → failing_of (set units u x) w ≡ failing_of units w
  same_failing same = same_map (λ m. m.failing) false same

  pub same_NoneLoose : x.loose.items ≡ y.loose.items → NoneLoose units → NoneLoose (set units u x)
  same_NoneLoose same none w b = ap (λ l. get_or l b false) (same_map (λ m. m.loose.items) [] same w) ∙ none w b

  pub flush-DisksFlushed : (fuse fuse' : Option (ℕ × ℕ)) → x.latest.items ≡ y.latest.items → x.stable.items ≡ y.latest.items → x.loose.items ≡ replicate (length y.loose.items) false
      → DisksFlushed u (disks_of units fuse) (disks_of (set units u x) fuse')
  flush-DisksFlushed fuse fuse' latest stable loose = record {
    latest = λ w b. ap (λ l. block_at l b) (same_map (λ m. m.latest.items) [] latest w);
    here = λ b. (
      ap (λ l. block_at l b) (map_here units u x y exists was (λ m. m.stable.items) [] ∙ stable ∙ sym (map_was units u x y exists was (λ m. m.latest.items) [])),
      ap (λ l. get_or l b false) (map_here units u x y exists was (λ m. m.loose.items) [] ∙ loose) ∙ no_loose (length y.loose.items) b,
    );
    elsewhere = λ w b not. (
      ap (λ l. block_at l b) (map_other units u x y exists was (λ m. m.stable.items) [] w not),
      ap (λ l. get_or l b false) (map_other units u x y exists was (λ m. m.loose.items) [] w not),
    );
  }

  module _ (block k : ℕ) (bytes : List ℕ) (whole : length bytes ≡ 512 * k) (fits : 512 * block ≤ length y.latest.items) (room : block + k ≤ length y.loose.items)
      (latest : x.latest.items ≡ over y.latest.items (512 * block) bytes) (stable : x.stable.items ≡ y.stable.items)
      (blocks : length x.loose.items ≡ length y.loose.items) (faults : x.faults ≡ y.faults)
      (loose : x.loose.items ≡ over y.loose.items block (replicate (length bytes / 512) true)) where
    loose_is : x.loose.items ≡ over y.loose.items block (replicate k true)
    loose_is = loose ∙ ap (λ (n : ℕ). over y.loose.items block (replicate n true)) (omega (arith, whole))

    abbrev After : (ℕ × Option (ℕ × ℕ)) → Option (ℕ × ℕ) → ℕ → Type 0
    After old fuse' b =
        (Covers u block bytes old.0 b × (block_at (latest_of (set units u x) old.0) b ≡ piece block bytes b) × (get_or (loose_of (set units u x) old.0) b false ≡ true))
        ⊎ ((Covers u block bytes old.0 b → ⊥) × (block_at (latest_of (set units u x) old.0) b ≡ block_at (latest_of units old.0) b) × (get_or (loose_of (set units u x) old.0) b false ≡ get_or (loose_of units old.0) b false))

    here : (b : ℕ) → After (u, None) None b
    here b =
        let latest_now = ap (λ l. block_at l b) (map_here units u x y exists was (λ m. m.latest.items) []) in
        let loose_now = ap (λ l. get_or l b false) (map_here units u x y exists was (λ m. m.loose.items) [] ∙ loose_is) in
        ⊎_elim
        (λ put. inl (put.0, latest_now ∙ put.1, loose_now ∙ over_in y.loose.items block k true room b put.0.first (omega (arith, put.0.last, put.0.first, whole))))
        (λ out. inr (
          out.0,
          latest_now ∙ out.1 ∙ ap (λ l. block_at l b) (sym (map_was units u x y exists was (λ m. m.latest.items) [])),
          loose_now ∙ over_out y.loose.items block k true room b (apart b out.0) ∙ ap (λ l. get_or l b false) (sym (map_was units u x y exists was (λ m. m.loose.items) [])),
        ))
        (now units u x y exists was block k bytes whole fits latest stable blocks faults b)
      where
        apart : (b : ℕ) → (Covers u block bytes u b → ⊥) → (b < block) ⊎ (block + k ≤ b)
        apart b not = elim (cases_lt b block) [
          | inl before ↦ inl before
          | inr from ↦ elim (cases_lt b (block + k)) [
            | inl below ↦ absurd (not (record { there = refl; first = from; last = omega (arith, whole) }))
            | inr past ↦ inr past
          ]
        ]

    pub write-DisksWrote : (fuse fuse' : Option (ℕ × ℕ)) → DisksWrote u block bytes (disks_of units fuse) (disks_of (set units u x) fuse')
    write-DisksWrote fuse fuse' = record {
      stable = λ w b. ap (λ l. block_at l b) (same_map (λ m. m.stable.items) [] stable w);
      latest = λ w b. elim (cases_eq w u) [
        | inl is ↦ subst (λ (j : ℕ). After (j, None) None b) (sym is) (here b)
        | inr not ↦ inr (
          (λ c. not c.there),
          ap (λ l. block_at l b) (map_other units u x y exists was (λ m. m.latest.items) [] w not),
          ap (λ l. get_or l b false) (map_other units u x y exists was (λ m. m.loose.items) [] w not),
        )
      ];
    }

-- the blocks end within the unit
pub room_within : (units : List MemUnit) (u : ℕ) (y : MemUnit) (exists : u < length units) (was : y ≡ get_or units u y) (n : ℕ) → n ≤ size_of units u → n ≤ length y.loose.items
room_within units u y exists was n fits = omega (arith, map_was units u y y exists was (λ m. length m.loose.items) 0)

-- one unit made to fail
module _ (units : List MemUnit) (u : ℕ) (x y : MemUnit) (exists : u < length units) (was : y ≡ get_or units u y)
    (latest : x.latest.items ≡ y.latest.items) (stable : x.stable.items ≡ y.stable.items) (loose : x.loose.items ≡ y.loose.items) (faults : x.faults ≡ y.faults) where
  same : {A : Type 0} (f : MemUnit → A) (d : A) → f x ≡ f y → (w : ℕ) → get_or (map f (set units u x)) w d ≡ get_or (map f units) w d
  same = same_map units u x y exists was

  leaves : (w b : ℕ) (v : List ℕ) → may_keep (set units u x) w b v → may_keep units w b v
  leaves w b v left = ⊎_elim
      (λ is. inl (is ∙ ap (λ l. block_at l b) (same (λ m. m.stable.items) [] stable w)))
      (λ is. inr (is ∙ ap (λ l. block_at l b) (same (λ m. m.latest.items) [] latest w))) left

  left : (w b : ℕ) (v : List ℕ) → may_keep units w b v → may_keep (set units u x) w b v
  left w b v was = ⊎_elim
      (λ is. inl (is ∙ ap (λ l. block_at l b) (sym (same (λ m. m.stable.items) [] stable w))))
      (λ is. inr (is ∙ ap (λ l. block_at l b) (sym (same (λ m. m.latest.items) [] latest w)))) was

  pub fail-Alike : (past : List (Vec MemUnit Global)) (down : Bool) (fuse : Option (ℕ × ℕ)) → Alike (meaning_of units past down fuse) (meaning_of (set units u x) past down fuse)
  fail-Alike past down fuse = record {
    contents = record {
      units = length-set units u x;
      size = same (λ m. length m.loose.items) 0 (ap length loose);
      tells = refl;
      moment = refl;
      reads = λ w b v is. is ∙ ap (λ l. block_at l b) (same (λ m. m.latest.items) [] latest w);
      still_reads = λ w b v is. is ∙ ap (λ l. block_at l b) (sym (same (λ m. m.latest.items) [] latest w));
      leaves = leaves;
      still_leaves = left;
      now = λ i now w b. leaves w b (i w b) (now w b);
      still_now = λ i now w b. left w b (i w b) (now w b);
      since = λ t i. ⊎_elim (λ now. inl (λ w b. leaves w b (i w b) (now w b))) (λ then. inr then);
      keeps = λ t i. ⊎_elim (λ now. inl (λ w b. left w b (i w b) (now w b))) (λ then. inr then);
    };
    counts = record { faults = same (λ m. m.faults) 0 faults; disk_faults = same (λ m. m.faults) 0 faults };
  }

  pub failing_here : failing_of (set units u x) u ≡ x.failing
  failing_here = map_here units u x y exists was (λ m. m.failing) false

  pub failing_elsewhere : (w : ℕ) → w ≢ u → failing_of (set units u x) w ≡ failing_of units w
  failing_elsewhere w not = map_other units u x y exists was (λ m. m.failing) false w not
