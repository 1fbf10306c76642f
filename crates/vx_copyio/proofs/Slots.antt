-- What a disk has once the body of a copy stands behind its header, or the header alone is missing.
use Rattle.std.proofs.Common.{◌≡◌, ◌⊎◌, inl, inr, ℕ, ◌+◌, ◌-◌, ◌*◌, ◌/◌, ◌%◌, ◌<◌, ◌≤◌, Bool, true, Option, Some, None, List, length, take, drop, refl, ap, sym, subst, ◌∙◌, arith}
use Rattle.std.proofs.lemmas.Bool.{cases_lt, lt-ltb, le-ltb}
use Rattle.vx_wire.specs.Seals.{digest_of}
use Rattle.vx_wire.proofs.SealLemmas.{length-digest_of}
use Rattle.vx_disk.specs.Shelf.{piece}
use Rattle.vx_copyfmt.specs.Areas.{CanSpellArea, area_block, header_of}
use Rattle.vx_copyfmt.specs.Copies.{Disk, Copy, Holds, area_a, area_b, body_of, copy_at}
use Rattle.vx_copyfmt.specs.Commits.{Slots, Among, FromNew, IsHeaderBlock, IsTop, Lower, Tidy, target_of}
use Rattle.vx_copyfmt.specs.declared.area.AreaHeader.{AreaHeader}
use Rattle.vx_copyfmt.proofs.AreaLemmas.{header_of-is}
use Rattle.vx_copyfmt.proofs.Areas.{becomes, under_holds}
use Rattle.vx_copyfmt.proofs.Targets.{target_lesser}
use Rattle.vx_copyfmt.proofs.Bodies.{body_is}
use Rattle.vx_copyio.specs.Putting.{IsCopyMade, those}

-- the bytes fill whole blocks, 127 at most
pub record FillsBlocks (bytes : List ℕ) : Type 0 where
  pub whole : length bytes % 512 ≡ 0
  pub few : length bytes ≤ 65024

-- the disk has the pieces of the body behind the header
abbrev pub HasBody : ℕ → List ℕ → Disk → Type 0
HasBody area body d = (b : ℕ) → area + 1 ≤ b → 512 * (b - (area + 1)) < length body → d b ≡ piece (area + 1) body b

module _ (h : AreaHeader) (body : List ℕ) (can : CanSpellArea h) (fills : FillsBlocks body) (long : h.length ≤ length body) (digest : h.digest ≡ digest_of (take h.length body)) where
  pub head_is : header_of (area_block h) ≡ Some h
  head_is = header_of-is (area_block h) h (record { can = can; typed = record { digest = ap length digest ∙ length-digest_of (take h.length body) }; is = refl })

  body_there : (area : ℕ) (d : Disk) → HasBody area body d → body_of d area h.length ≡ take h.length body
  body_there area d has =
      let k : ℕ = length body / 512 in
      let len : length body ≡ 512 * k = omega (arith, fills.whole) in
      body_is d (area + 1) k h.length body len (omega (arith, fills.few)) long
      (λ j lt.
      let at : area + 1 + j - (area + 1) ≡ j = omega arith in
      has (area + 1 + j) (omega arith) (omega (arith, lt, len, at)) ∙ ap (λ (m : ℕ). take 512 (drop (512 * m) body)) at)

  module _ (counts : ℕ → List ℕ → Bool) (counted : counts h.serial (take h.length body) ≡ true) where
    read_is : those counts h.serial (take h.length body) ≡ Some (take h.length body)
    read_is = rw counted refl

    module _ (slots : Slots) (lower : Lower h.serial slots) (area : ℕ) (one : IsHeaderBlock area) (d : Disk) (head : d area ≡ area_block h) (has : HasBody area body d) where
      same_body : body_of d area h.length ≡ take h.length body
      same_body = body_there area d has

      there : header_of (d area) ≡ Some h
      there = ap header_of head ∙ head_is

      digest_there : digest_of (body_of d area h.length) ≡ h.digest
      digest_there = ap digest_of same_body ∙ sym digest

      read_there : those counts h.serial (body_of d area h.length) ≡ Some (take h.length body)
      read_there = ap (those counts h.serial) same_body ∙ read_is

      -- with both it has the new copy
      pub new_copy : ((a : ℕ) → IsHeaderBlock a → (a ≡ area → ⊥) → slots a (d a)) → slots 0 (d 0) → FromNew (those counts) (IsCopyMade h body) slots d
      new_copy other label = record {
        serial = h.serial;
        config = take h.length body;
        area = area;
        made = record { serial_is = refl; body_is = refl };
        first = d 0;
        there = label;
        label = refl;
        copy = becomes (those counts) h.serial slots lower d h (take h.length body) (omega arith) area one other there digest_there read_there;
      }

      pub new_counts : copy_at (those counts) d area ≡ Some (record { serial = h.serial; area = area; body = Holds (take h.length body) })
      new_counts = under_holds (those counts) d area h (take h.length body) (header_of (d area)) there digest_there read_there

-- ---- once both are durable, the next copy may be written

-- what a crash leaves now: the header, its body, and outside of their area what it might have left
pub record Landed (area : ℕ) (h : AreaHeader) (body : List ℕ) (old new : Slots) : Type 0 where
  pub header : (v : List ℕ) → new area v → v ≡ area_block h
  pub pieces : (b : ℕ) (v : List ℕ) → area + 1 ≤ b → 512 * (b - (area + 1)) < length body → new b v → v ≡ piece (area + 1) body b
  pub rest : (b : ℕ) (v : List ℕ) → (b < area) ⊎ (area + 127 < b) → new b v → old b v

-- a block of one area lies in no other
other_out : (area a : ℕ) → IsHeaderBlock area → IsHeaderBlock a → (a ≡ area → ⊥) → (b : ℕ) → a ≤ b → b ≤ a + 127 → (b < area) ⊎ (area + 127 < b)
other_out area a (inl is) (inl same) apart b low high = absurd (apart (same ∙ sym is))
other_out area a (inl is) (inr same) apart b low high = inr (omega (arith, is, same, low))
other_out area a (inr is) (inl same) apart b low high = inl (omega (arith, is, same, high))
other_out area a (inr is) (inr same) apart b low high = absurd (apart (same ∙ sym is))

zero_out : (area : ℕ) → IsHeaderBlock area → (0 < area) ⊎ (area + 127 < 0)
zero_out area (inl is) = inl (omega (arith, is))
zero_out area (inr is) = inl (omega (arith, is))

same_or : (a area : ℕ) → (a ≡ area) ⊎ (a ≡ area → ⊥)
same_or a area = elim (cases_lt a area) [
  | inl below ↦ inr (λ same. omega (arith, below, same))
  | inr le ↦ elim (cases_lt area a) [
    | inl above ↦ inr (λ same. omega (arith, above, same))
    | inr ge ↦ inl (omega (arith, le, ge))
  ]
]

-- the next copy goes to the area of a header that is less, or is missing
target_second : (p q : Option AreaHeader) (h : AreaHeader) → p ≡ Some h → ((g : AreaHeader) → q ≡ Some g → g.serial < h.serial) → target_of p q ≡ area_b
target_second p None h is less = rw is refl
target_second p (Some g) h is less = let lt : g.serial < h.serial = less g refl in rw (is, le-ltb h.serial g.serial (omega (arith, lt))) refl

target_first : (p q : Option AreaHeader) (h : AreaHeader) → q ≡ Some h → ((g : AreaHeader) → p ≡ Some g → g.serial < h.serial) → target_of p q ≡ area_a
target_first None q h is less = refl
target_first (Some g) q h is less = rw (is, lt-ltb g.serial h.serial (less g refl)) refl

module _ (h : AreaHeader) (body : List ℕ) (can : CanSpellArea h) (fills : FillsBlocks body) (long : h.length ≤ length body) (digest : h.digest ≡ digest_of (take h.length body))
    (counts : ℕ → List ℕ → Bool) (counted : counts h.serial (take h.length body) ≡ true) (old new : Slots) (lower : Lower h.serial old) (area : ℕ) (one : IsHeaderBlock area) (landed : Landed area h body old new) where
  pub landed_new : (d : Disk) → Among new d → FromNew (those counts) (IsCopyMade h body) old d
  landed_new d among =
      new_copy h body can fills long digest counts counted old lower area one d (landed.header (d area) (among area)) (λ b low high. landed.pieces b (d b) low high (among b))
      (λ a is apart. landed.rest a (d a) (other_out area a one is apart a (omega arith) (omega arith)) (among a)) (landed.rest 0 (d 0) (zero_out area one) (among 0))

  -- the header of the other area is one of before
  outer : (a : ℕ) (v : List ℕ) → IsHeaderBlock a → (a ≡ area → ⊥) → new a v → old a v
  outer a v is apart in_v = landed.rest a v (other_out area a one is apart a (omega arith) (omega arith)) in_v

  landed_counts : (d : Disk) (a : ℕ) (g : AreaHeader) → IsHeaderBlock a → Among new d → IsTop d a g → (x : Copy (List ℕ)) × (copy_at (those counts) d a ≡ Some x)
  landed_counts d a g is among top = elim (same_or a area) [
    | inl same ↦ (
      record { serial = h.serial; area = area; body = Holds (take h.length body) },
      subst (λ (k : ℕ). copy_at (those counts) d k ≡ Some (record { serial = h.serial; area = area; body = Holds (take h.length body) })) (sym same)
          (new_counts h body can fills long digest counts counted old lower area one d (landed.header (d area) (among area)) (λ b low high. landed.pieces b (d b) low high (among b))),
    )
    | inr apart ↦
        let lt : g.serial < h.serial = lower a (d a) g is (landed.rest a (d a) (other_out area a one is apart a (omega arith) (omega arith)) (among a)) top.head in
        let here : header_of (d area) ≡ Some h = ap header_of (landed.header (d area) (among area)) ∙ head_is h body can fills long digest in
        absurd (top.kept (target_lesser d area a h g one is apart here top.head lt))
  ]

  landed_below : Lower (h.serial + 1) new
  landed_below a v g is in_v head = elim (same_or a area) [
    | inl same ↦
        let here : v ≡ area_block h = landed.header v (subst (λ (k : ℕ). new k v) same in_v) in
        let both : Some h ≡ Some g = sym (head_is h body can fills long digest) ∙ ap header_of (sym here) ∙ head in
        let same_serial : h.serial ≡ g.serial = some_serial both in
        omega (arith, same_serial)
    | inr apart ↦
        let lt : g.serial < h.serial = lower a v g is (outer a v is apart in_v) head in
        omega (arith, lt)
  ]
    where
      some_serial : {x y : AreaHeader} → Some x ≡ Some y → x.serial ≡ y.serial
      some_serial is = cc

  -- the next copy goes to the other area
  landed_goes : (v w x y : List ℕ) → new area_a v → new area_b w → new area_a x → new area_b y → target_of (header_of v) (header_of w) ≡ target_of (header_of x) (header_of y)
  landed_goes v w x y in_v in_w in_x in_y = by_area one
    where
      of_header : (u : List ℕ) → new area u → header_of u ≡ Some h
      of_header u in_u = ap header_of (landed.header u in_u) ∙ head_is h body can fills long digest

      less : (a : ℕ) (u : List ℕ) → IsHeaderBlock a → (a ≡ area → ⊥) → new a u → (g : AreaHeader) → header_of u ≡ Some g → g.serial < h.serial
      less a u is apart in_u g head = lower a u g is (outer a u is apart in_u) head

      by_area : IsHeaderBlock area → target_of (header_of v) (header_of w) ≡ target_of (header_of x) (header_of y)
      by_area (inl first) =
          let apart : area_b ≡ area → ⊥ = λ same. omega (arith, same, first) in
          target_second (header_of v) (header_of w) h (of_header v (subst (λ (k : ℕ). new k v) (sym first) in_v)) (less area_b w (inr refl) apart in_w)
          ∙ sym (target_second (header_of x) (header_of y) h (of_header x (subst (λ (k : ℕ). new k x) (sym first) in_x)) (less area_b y (inr refl) apart in_y))
      by_area (inr second) =
          let apart : area_a ≡ area → ⊥ = λ same. omega (arith, same, second) in
          target_first (header_of v) (header_of w) h (of_header w (subst (λ (k : ℕ). new k w) (sym second) in_w)) (less area_a v (inl refl) apart in_v)
          ∙ sym (target_first (header_of x) (header_of y) h (of_header y (subst (λ (k : ℕ). new k y) (sym second) in_y)) (less area_a x (inl refl) apart in_x))

  pub landed_tidy : Tidy (those counts) (h.serial + 1) new
  landed_tidy = record { fit = record { counts = landed_counts; below = landed_below }; goes = landed_goes }
