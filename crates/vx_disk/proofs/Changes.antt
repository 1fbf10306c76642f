-- How the meaning of disks in memory changes.
use Rattle.std.proofs.Common.{◌≡◌, ◌≢◌, ◌⊎◌, inl, inr, ⊎_elim, ℕ, ◌<◌, ◌≤◌, ◌+◌, ◌-◌, ◌*◌, ◌^◌, Option, Bool, IsTrue, List, [], ◌∷◌, ◌++◌, length, map, get_or, set, take, drop, Vec, refl, sym, ◌∙◌, ap, subst, arith, length-append}
use Rattle.std.specs.declared.alloc.Global.{Global}
use Rattle.std.proofs.lemmas.List.{map-set, length-map, length-set, get_or-set_same, get_or-set_other, get_or-map}
use Rattle.std.proofs.lemmas.Bool.{cases_eq, cases_lt}
use Rattle.vx_disk.specs.Blocks.{block_at, over}
use Rattle.vx_disk.proofs.Blocks.{block-over_in, block-over_before, block-over_after, piece-take}
use Rattle.vx_disk.proofs.Pasts.{States, was-since, since-was}
use Rattle.vx_disk.specs.declared.unit.MemUnit.{MemUnit}
use Rattle.vx_disk.specs.Counts.{Rose}
use Rattle.vx_disk.specs.Shelf.{Values, Or, Goes, Nothing, Covers, Written, piece, Wrote, Flushed, Read}
use Rattle.vx_disk.specs.Memory.{size_of, faults_of, gives, may_keep, Since, meaning_of}

-- what has to be shown of a change, where the state before it has joined the past
pub record Change (written : Values) (units units' : List MemUnit) (down' : Bool) : Type 0 where
  pub number : length units' ≡ length units
  pub size : (u : ℕ) → size_of units' u ≡ size_of units u
  pub faults : (u : ℕ) → faults_of units u ≤ faults_of units' u
  pub reads : (u b : ℕ) (v : List ℕ) → gives units' u b v → Or (gives units) written u b v ⊎ IsTrue down'
  pub leaves : (u b : ℕ) (v : List ℕ) → may_keep units' u b v → Or (may_keep units) written u b v

pub change-goes : (written : Values) (units units' : List MemUnit) (state : Vec MemUnit Global) (past past' : States) (down : Bool) (fuse : Option (ℕ × ℕ)) → Change written units units' down
    → state.items ≡ units → past' ≡ past ++ state ∷ [] → Goes written (meaning_of units past down fuse) (meaning_of units' past' down fuse)
change-goes written units units' state past past' down fuse change is pushed = record {
  units = change.number;
  size = change.size;
  tells = refl;
  reads = change.reads;
  leaves = change.leaves;
  later = omega (arith, ap length pushed, length-append past (state ∷ []));
  since = λ t i le left. ⊎_elim
      (λ now. inr (λ u b. change.leaves u b (i u b) (now u b)))
      (λ was. inl (subst (λ (l : List MemUnit). Since l past t i) is (was-since state past past' pushed t i le was))) left;
  keeps = λ t i le left. inr (since-was state past past' pushed t i le (subst (λ (l : List MemUnit). Since l past t i) (sym is) left));
  faults = change.faults;
  disk_faults = change.faults;
  falls = λ is_down. is_down;
  unarmed = λ no. no;
  safe = λ no is_down. is_down;
}

-- one unit changed: u is its number, y what it was and x what it is now
module _ (units : List MemUnit) (u : ℕ) (x y : MemUnit) (exists : u < length units) (was : y ≡ get_or units u y) where
  pub map_here : {A : Type 0} (f : MemUnit → A) (d : A) → get_or (map f (set units u x)) u d ≡ f x
  map_here f d = ap (λ l. get_or l u d) (map-set f units u x) ∙ get_or-set_same (map f units) u (f x) d (omega (arith, length-map units f))

  pub map_other : {A : Type 0} (f : MemUnit → A) (d : A) (w : ℕ) → w ≢ u → get_or (map f (set units u x)) w d ≡ get_or (map f units) w d
  map_other f d w other = ap (λ l. get_or l w d) (map-set f units u x) ∙ get_or-set_other (map f units) u w (f x) d other

  pub map_was : {A : Type 0} (f : MemUnit → A) (d : A) → get_or (map f units) u d ≡ f y
  map_was f d = get_or-map f units u y d exists ∙ ap f (sym was)

  module _ (written : Values) (down' : Bool)
      (size : length x.loose.items ≡ length y.loose.items)
      (faults : y.faults ≤ x.faults)
      (reads : (b : ℕ) (v : List ℕ) → v ≡ block_at x.latest.items b → ((v ≡ block_at y.latest.items b) ⊎ written u b v) ⊎ IsTrue down')
      (leaves : (b : ℕ) (v : List ℕ) → (v ≡ block_at x.stable.items b) ⊎ (v ≡ block_at x.latest.items b) → ((v ≡ block_at y.stable.items b) ⊎ (v ≡ block_at y.latest.items b)) ⊎ written u b v) where
    sizes : (w : ℕ) → size_of (set units u x) w ≡ size_of units w
    sizes w = elim (cases_eq w u) [
      | inl is ↦ subst (λ (k : ℕ). size_of (set units u x) k ≡ size_of units k) (sym is) (map_here (λ m. length m.loose.items) 0 ∙ size ∙ sym (map_was (λ m. length m.loose.items) 0))
      | inr not ↦ map_other (λ m. length m.loose.items) 0 w not
    ]

    all_faults : (w : ℕ) → faults_of units w ≤ faults_of (set units u x) w
    all_faults w = elim (cases_eq w u) [
      | inl is ↦ subst (λ (k : ℕ). faults_of units k ≤ faults_of (set units u x) k) (sym is) (omega (arith, faults, map_here (λ m. m.faults) 0, map_was (λ m. m.faults) 0))
      | inr not ↦ omega (arith, map_other (λ m. m.faults) 0 w not)
    ]

    abbrev latest : MemUnit → List ℕ
    latest m = m.latest.items

    abbrev stable : MemUnit → List ℕ
    stable m = m.stable.items

    reads_here : (b : ℕ) (v : List ℕ) → gives (set units u x) u b v → Or (gives units) written u b v ⊎ IsTrue down'
    reads_here b v is = ⊎_elim
        (λ or. inl (⊎_elim (λ old. inl (old ∙ ap (λ l. block_at l b) (sym (map_was latest [])))) (λ new. inr new) or))
        (λ down. inr down)
        (reads b v (is ∙ ap (λ l. block_at l b) (map_here latest [])))

    all_reads : (w b : ℕ) (v : List ℕ) → gives (set units u x) w b v → Or (gives units) written w b v ⊎ IsTrue down'
    all_reads w b v = elim (cases_eq w u) [
      | inl is ↦ subst (λ (k : ℕ). gives (set units u x) k b v → Or (gives units) written k b v ⊎ IsTrue down') (sym is) (reads_here b v)
      | inr not ↦ λ is. inl (inl (is ∙ ap (λ l. block_at l b) (map_other latest [] w not)))
    ]

    leaves_here : (b : ℕ) (v : List ℕ) → may_keep (set units u x) u b v → Or (may_keep units) written u b v
    leaves_here b v left = ⊎_elim
        (λ old. inl (⊎_elim (λ is. inl (is ∙ ap (λ l. block_at l b) (sym (map_was stable [])))) (λ is. inr (is ∙ ap (λ l. block_at l b) (sym (map_was latest [])))) old))
        (λ new. inr new)
        (leaves b v (⊎_elim (λ is. inl (is ∙ ap (λ l. block_at l b) (map_here stable []))) (λ is. inr (is ∙ ap (λ l. block_at l b) (map_here latest []))) left))

    all_leaves : (w b : ℕ) (v : List ℕ) → may_keep (set units u x) w b v → Or (may_keep units) written w b v
    all_leaves w b v = elim (cases_eq w u) [
      | inl is ↦ subst (λ (k : ℕ). may_keep (set units u x) k b v → Or (may_keep units) written k b v) (sym is) (leaves_here b v)
      | inr not ↦ λ left. inl (⊎_elim (λ is. inl (is ∙ ap (λ l. block_at l b) (map_other stable [] w not))) (λ is. inr (is ∙ ap (λ l. block_at l b) (map_other latest [] w not))) left)
    ]

    pub change-one : Change written units (set units u x) down'
    change-one = record {
      number = length-set units u x;
      size = sizes;
      faults = all_faults;
      reads = all_reads;
      leaves = all_leaves;
    }

-- a fault more on one unit
module _ (units : List MemUnit) (u : ℕ) (x y : MemUnit) (exists : u < length units) (was : y ≡ get_or units u y)
    (latest : x.latest.items ≡ y.latest.items) (stable : x.stable.items ≡ y.stable.items) (loose : x.loose.items ≡ y.loose.items) (rose : Rose y.faults x.faults) where
  pub change-fault : (down : Bool) → Change Nothing units (set units u x) down
  change-fault down = change-one units u x y exists was Nothing down (ap length loose) rose.fell_not
      (λ b v is. inl (inl (is ∙ ap (λ l. block_at l b) latest)))
      (λ b v left. inl (⊎_elim (λ is. inl (is ∙ ap (λ l. block_at l b) stable)) (λ is. inr (is ∙ ap (λ l. block_at l b) latest)) left))

  pub fault-Rose : Rose (faults_of units u) (faults_of (set units u x) u)
  fault-Rose =
      let old : faults_of units u ≡ y.faults = map_was units u x y exists was (λ m. m.faults) 0 in
      let new : faults_of (set units u x) u ≡ x.faults = map_here units u x y exists was (λ m. m.faults) 0 in
      record { fell_not = omega (arith, old, new, rose.fell_not); rose = ⊎_elim (λ (lt : y.faults < x.faults). inl (omega arith)) (λ (top : 2 ^ 64 - 1 ≤ x.faults). inr (omega arith)) rose.rose }

-- one unit's blocks written
module _ (units : List MemUnit) (u : ℕ) (x y : MemUnit) (exists : u < length units) (was : y ≡ get_or units u y)
    (block k : ℕ) (bytes : List ℕ) (whole : length bytes ≡ 512 * k) (fits : 512 * block ≤ length y.latest.items)
    (latest : x.latest.items ≡ over y.latest.items (512 * block) bytes) (stable : x.stable.items ≡ y.stable.items)
    (loose : length x.loose.items ≡ length y.loose.items) (faults : x.faults ≡ y.faults) where
  -- a block of it now
  pub now : (b : ℕ) → (Covers u block bytes u b × (block_at x.latest.items b ≡ piece block bytes b)) ⊎ ((Covers u block bytes u b → ⊥) × (block_at x.latest.items b ≡ block_at y.latest.items b))
  now b = elim (cases_lt b block) [
    | inl before ↦ inr ((λ c. omega (arith, c.first)), ap (λ l. block_at l b) latest ∙ block-over_before y.latest.items bytes block k b whole fits before)
    | inr above ↦ elim (cases_lt b (block + k)) [
      | inl below ↦ inl (record { there = refl; first = above; last = omega (arith, whole) }, ap (λ l. block_at l b) latest ∙ block-over_in y.latest.items bytes block k b whole fits above below)
      | inr after ↦ inr ((λ c. omega (arith, c.last, whole)), ap (λ l. block_at l b) latest ∙ block-over_after y.latest.items bytes block k b whole fits after)
    ]
  ]

  written_or : (b : ℕ) (v : List ℕ) → v ≡ block_at x.latest.items b → (v ≡ block_at y.latest.items b) ⊎ Written u block bytes u b v
  written_or b v is = ⊎_elim (λ put. inr (record { covers = put.0; value = is ∙ put.1 })) (λ out. inl (is ∙ out.1)) (now b)

  pub change-write : (down : Bool) → Change (Written u block bytes) units (set units u x) down
  change-write down = change-one units u x y exists was (Written u block bytes) down loose (omega (arith, faults))
      (λ b v is. inl (written_or b v is))
      (λ b v left. ⊎_elim (λ is. inl (inl (is ∙ ap (λ l. block_at l b) stable))) (λ is. ⊎_elim (λ old. inl (inr old)) (λ new. inr new) (written_or b v is)) left)

  pub write-Wrote : (past past' : States) (down down' : Bool) (fuse fuse' : Option (ℕ × ℕ)) → Wrote u block bytes (meaning_of units past down fuse) (meaning_of (set units u x) past' down' fuse')
  write-Wrote past past' down down' fuse fuse' = record {
    each = λ w b v is. elim (cases_eq w u) [
      | inl same ↦ subst (λ (j : ℕ). gives (set units u x) j b v → Written u block bytes j b v ⊎ ((Covers u block bytes j b → ⊥) × gives units j b v)) (sym same) (here b v) is
      | inr not ↦ inr ((λ c. not c.there), is ∙ ap (λ l. block_at l b) (map_other units u x y exists was (λ m. m.latest.items) [] w not))
    ];
  }
    where
      here : (b : ℕ) (v : List ℕ) → gives (set units u x) u b v → Written u block bytes u b v ⊎ ((Covers u block bytes u b → ⊥) × gives units u b v)
      here b v is =
          let value = is ∙ ap (λ l. block_at l b) (map_here units u x y exists was (λ m. m.latest.items) []) in
          ⊎_elim (λ put. inl (record { covers = put.0; value = value ∙ put.1 }))
          (λ out. inr (out.0, value ∙ out.1 ∙ ap (λ l. block_at l b) (sym (map_was units u x y exists was (λ m. m.latest.items) []))))
          (now b)

-- one unit flushed
module _ (units : List MemUnit) (u : ℕ) (x y : MemUnit) (exists : u < length units) (was : y ≡ get_or units u y)
    (latest : x.latest.items ≡ y.latest.items) (stable : x.stable.items ≡ y.latest.items)
    (loose : length x.loose.items ≡ length y.loose.items) (faults : x.faults ≡ y.faults) where
  pub change-flush : (down : Bool) → Change Nothing units (set units u x) down
  change-flush down = change-one units u x y exists was Nothing down loose (omega (arith, faults))
      (λ b v is. inl (inl (is ∙ ap (λ l. block_at l b) latest)))
      (λ b v left. inl (inr (⊎_elim (λ is. is ∙ ap (λ l. block_at l b) stable) (λ is. is ∙ ap (λ l. block_at l b) latest) left)))

  pub flush-Flushed : (past past' : States) (down down' : Bool) (fuse fuse' : Option (ℕ × ℕ)) → Flushed u (meaning_of units past down fuse) (meaning_of (set units u x) past' down' fuse')
  flush-Flushed past past' down down' fuse fuse' = record {
    each = λ b v left.
        let value = ⊎_elim
        (λ is. is ∙ ap (λ l. block_at l b) (map_here units u x y exists was (λ m. m.stable.items) [] ∙ stable))
        (λ is. is ∙ ap (λ l. block_at l b) (map_here units u x y exists was (λ m. m.latest.items) [] ∙ latest)) left in
        value ∙ ap (λ l. block_at l b) (sym (map_was units u x y exists was (λ m. m.latest.items) []));
  }

-- the blocks lie in the unit
pub begins_within : (units : List MemUnit) (u : ℕ) (y : MemUnit) (exists : u < length units) (was : y ≡ get_or units u y) (block k : ℕ) → block + k ≤ size_of units u → 512 * block ≤ length y.latest.items
begins_within units u y exists was block k fits = omega (arith, map_was units u y y exists was (λ m. length m.loose.items) 0, y.latest_size)

-- what was read from a unit
module _ (units : List MemUnit) (u : ℕ) (y : MemUnit) (exists : u < length units) (was : y ≡ get_or units u y) (past : States) (down : Bool) (fuse : Option (ℕ × ℕ))
    (block n k : ℕ) (into : List ℕ) (whole : n ≡ 512 * k) (read : into ≡ take n (drop (512 * block) y.latest.items)) where
  pub read-Read : length into ≡ n → Read (meaning_of units past down fuse) u block into
  read-Read size = record {
    each = λ tells b covers.
        ap (λ (l : List ℕ). piece block l b) read
        ∙ piece-take y.latest.items block b n k whole covers.first (omega (arith, covers.last, size))
        ∙ ap (λ l. block_at l b) (sym (map_was units u y y exists was (λ m. m.latest.items) []));
  }
