-- Where the next copy goes, and which header of a disk is the greater one.
use Rattle.std.proofs.Common.{◌≡◌, ◌⊎◌, inl, inr, ⊎_elim, ℕ, ◌+◌, ◌<◌, ◌≤◌, Option, Some, None, List, refl, ap, sym, subst, ◌∙◌, arith}
use Rattle.std.proofs.lemmas.Bool.{cases_lt, lt-ltb, le-ltb}
use Rattle.vx_copyfmt.specs.Areas.{header_of}
use Rattle.vx_copyfmt.specs.declared.area.AreaHeader.{AreaHeader}
use Rattle.vx_copyfmt.specs.Copies.{Disk, area_a, area_b}
use Rattle.vx_copyfmt.specs.Commits.{target_of, IsHeaderBlock, IsTop}

-- a target is one of the two headers
pub target_block : (p q : Option AreaHeader) → IsHeaderBlock (target_of p q)
target_block None q = inl refl
target_block (Some x) None = inr refl
target_block (Some x) (Some y) = elim (cases_lt x.serial y.serial) [
  | inl lt ↦ inl (rw (lt-ltb x.serial y.serial lt) refl)
  | inr le ↦ inr (rw (le-ltb x.serial y.serial le) refl)
]

pub target_low : (p q : Option AreaHeader) (x y : AreaHeader) → p ≡ Some x → q ≡ Some y → x.serial < y.serial → target_of p q ≡ area_a
target_low p q x y is_x is_y lt = rw (is_x, is_y, lt-ltb x.serial y.serial lt) refl

pub target_high : (p q : Option AreaHeader) (x y : AreaHeader) → p ≡ Some x → q ≡ Some y → y.serial ≤ x.serial → target_of p q ≡ area_b
target_high p q x y is_x is_y le = rw (is_x, is_y, le-ltb x.serial y.serial le) refl

-- the next copy goes to the area of the lesser header
pub target_lesser : (d : Disk) (area a : ℕ) (h g : AreaHeader) → IsHeaderBlock area → IsHeaderBlock a → (a ≡ area → ⊥) → header_of (d area) ≡ Some h → header_of (d a) ≡ Some g → g.serial < h.serial
    → target_of (header_of (d area_a)) (header_of (d area_b)) ≡ a
target_lesser d area a h g (inl one) (inl is) apart here there lt = absurd (apart (is ∙ sym one))
target_lesser d area a h g (inr one) (inr is) apart here there lt = absurd (apart (is ∙ sym one))
target_lesser d area a h g (inl one) (inr is) apart here there lt =
    target_high (header_of (d area_a)) (header_of (d area_b)) h g (ap (λ (b : ℕ). header_of (d b)) (sym one) ∙ here) (ap (λ (b : ℕ). header_of (d b)) (sym is) ∙ there) (omega (arith, lt)) ∙ sym is
target_lesser d area a h g (inr one) (inl is) apart here there lt =
    target_low (header_of (d area_a)) (header_of (d area_b)) g h (ap (λ (b : ℕ). header_of (d b)) (sym is) ∙ there) (ap (λ (b : ℕ). header_of (d b)) (sym one) ∙ here) lt ∙ sym is

-- a block of a header is outside of the bodies
pub head_out : (area a : ℕ) → IsHeaderBlock area → IsHeaderBlock a → (a ≤ area) ⊎ (area + 128 ≤ a)
head_out area a (inl one) (inl is) = inl (omega (arith, one, is))
head_out area a (inl one) (inr is) = inr (omega (arith, one, is))
head_out area a (inr one) is = ⊎_elim (λ (x : a ≡ area_a). inl (omega (arith, one, x))) (λ (x : a ≡ area_b). inl (omega (arith, one, x))) is

pub area_out : (area a b : ℕ) → IsHeaderBlock area → IsHeaderBlock a → (area ≡ a → ⊥) → a ≤ b → b ≤ a + 127 → (b ≤ area) ⊎ (area + 128 ≤ b)
area_out area a b (inl one) (inl is) apart low high = absurd (apart (one ∙ sym is))
area_out area a b (inl one) (inr is) apart low high = inr (omega (arith, one, is, low))
area_out area a b (inr one) (inl is) apart low high = inl (omega (arith, one, is, high))
area_out area a b (inr one) (inr is) apart low high = absurd (apart (one ∙ sym is))

-- where the next copy goes on a disk
abbrev pub own_target : Disk → ℕ
own_target d = target_of (header_of (d area_a)) (header_of (d area_b))

-- it goes by the headers alone
pub target_same : (d e : Disk) → d area_a ≡ e area_a → d area_b ≡ e area_b → own_target d ≡ own_target e
target_same d e first second = ap (λ (v : List ℕ). target_of (header_of v) (header_of (d area_b))) first ∙ ap (λ (v : List ℕ). target_of (header_of (e area_a)) (header_of v)) second

pub top_same : (d e : Disk) (a : ℕ) (h : AreaHeader) → IsHeaderBlock a → ((b : ℕ) → IsHeaderBlock b → d b ≡ e b) → IsTop d a h → IsTop e a h
top_same d e a h is same top = record {
  head = ap header_of (sym (same a is)) ∙ top.head;
  kept = λ at. top.kept (target_same d e (same area_a (inl refl)) (same area_b (inr refl)) ∙ at);
}

-- there is one greater header
pub one_top : (d : Disk) (a b : ℕ) (h g : AreaHeader) → IsHeaderBlock a → IsHeaderBlock b → IsTop d a h → IsTop d b g → a ≡ b
one_top d a b h g (inl is) (inl one) top other = is ∙ sym one
one_top d a b h g (inr is) (inr one) top other = is ∙ sym one
one_top d a b h g (inl is) (inr one) top other = absurd (⊎_elim (λ at. top.kept (at ∙ sym is)) (λ at. other.kept (at ∙ sym one)) (target_block (header_of (d area_a)) (header_of (d area_b))))
one_top d a b h g (inr is) (inl one) top other = absurd (⊎_elim (λ at. other.kept (at ∙ sym one)) (λ at. top.kept (at ∙ sym is)) (target_block (header_of (d area_a)) (header_of (d area_b))))

-- in the first area it is not less, in the second it is greater
pub top_first : (d : Disk) (h k : AreaHeader) → IsTop d area_a h → header_of (d area_b) ≡ Some k → k.serial ≤ h.serial
top_first d h k top second = elim (cases_lt h.serial k.serial) [
  | inl lt ↦ absurd (top.kept (target_low (header_of (d area_a)) (header_of (d area_b)) h k top.head second lt))
  | inr le ↦ le
]

pub top_second : (d : Disk) (h k : AreaHeader) → IsTop d area_b h → header_of (d area_a) ≡ Some k → k.serial < h.serial
top_second d h k top first = elim (cases_lt k.serial h.serial) [
  | inl lt ↦ lt
  | inr le ↦ absurd (top.kept (target_high (header_of (d area_a)) (header_of (d area_b)) k h first top.head le))
]

same_header : (o : Option AreaHeader) (h k : AreaHeader) → o ≡ Some h → o ≡ Some k → k.serial ≤ h.serial
same_header o h k one two = let same : Some h ≡ Some k = sym one ∙ two in let it : h ≡ k = cc in omega (arith, ap (λ (x : AreaHeader). x.serial) it)

pub top_greatest : (d : Disk) (a b : ℕ) (h k : AreaHeader) → IsHeaderBlock a → IsHeaderBlock b → IsTop d a h → header_of (d b) ≡ Some k → k.serial ≤ h.serial
top_greatest d a b h k (inl is) (inl one) top there = same_header (header_of (d a)) h k top.head (ap (λ (n : ℕ). header_of (d n)) (is ∙ sym one) ∙ there)
top_greatest d a b h k (inr is) (inr one) top there = same_header (header_of (d a)) h k top.head (ap (λ (n : ℕ). header_of (d n)) (is ∙ sym one) ∙ there)
top_greatest d a b h k (inl is) (inr one) top there = top_first d h k (subst (λ (n : ℕ). IsTop d n h) is top) (ap (λ (n : ℕ). header_of (d n)) (sym one) ∙ there)
top_greatest d a b h k (inr is) (inl one) top there =
    let lt : k.serial < h.serial = top_second d h k (subst (λ (n : ℕ). IsTop d n h) is top) (ap (λ (n : ℕ). header_of (d n)) (sym one) ∙ there) in
    omega (arith, lt)

-- where the disk's own headers send the next copy, beside an area: there, or no header stands, or the greater one stands there
pub data Sent (d : Disk) (area : ℕ) : Type 0 where
  Here : own_target d ≡ area → Sent d area
  Bare : header_of (d area_a) ≡ None → header_of (d area_b) ≡ None → Sent d area
  OnTop : (g : AreaHeader) → IsTop d area g → Sent d area

sent_first : (d : Disk) (area : ℕ) (g : AreaHeader) → own_target d ≡ area_a → header_of (d area_b) ≡ Some g → IsHeaderBlock area → Sent d area
sent_first d area g to second (inl is) = Here (to ∙ sym is)
sent_first d area g to second (inr is) =
    OnTop g (record { head = ap (λ (b : ℕ). header_of (d b)) is ∙ second; kept = λ at. let clash : area_a ≡ area_b = sym to ∙ at ∙ is in omega (arith, clash) })

sent_second : (d : Disk) (area : ℕ) (g : AreaHeader) → own_target d ≡ area_b → header_of (d area_a) ≡ Some g → IsHeaderBlock area → Sent d area
sent_second d area g to first (inr is) = Here (to ∙ sym is)
sent_second d area g to first (inl is) =
    OnTop g (record { head = ap (λ (b : ℕ). header_of (d b)) is ∙ first; kept = λ at. let clash : area_b ≡ area_a = sym to ∙ at ∙ is in omega (arith, clash) })

pub sent_by : (d : Disk) (area : ℕ) (p q : Option AreaHeader) → header_of (d area_a) ≡ p → header_of (d area_b) ≡ q → IsHeaderBlock area → Sent d area
sent_by d area None None first second one = Bare first second
sent_by d area None (Some y) first second one = sent_first d area y (ap (λ (o : Option AreaHeader). target_of o (header_of (d area_b))) first) second one
sent_by d area (Some x) None first second one =
    sent_second d area x (ap (λ (o : Option AreaHeader). target_of o (header_of (d area_b))) first ∙ ap (target_of (Some x)) second) first one
sent_by d area (Some x) (Some y) first second one = elim (cases_lt x.serial y.serial) [
  | inl lt ↦ sent_first d area y (target_low (header_of (d area_a)) (header_of (d area_b)) x y first second lt) second one
  | inr le ↦ sent_second d area x (target_high (header_of (d area_a)) (header_of (d area_b)) x y first second le) first one
]
