-- Blocks in two parts: those before the ring's end, and those behind its begin.
use Rattle.std.proofs.Common.{◌≡◌, ◌⊎◌, inl, inr, ⊎_elim, min, ℕ, Bool, IsTrue, zero, suc, ◌+◌, ◌-◌, ◌*◌, ◌/◌, ◌%◌, ◌<◌, ◌≤◌, List, [], ◌∷◌, ◌++◌, length, take, drop, refl, sym, ◌∙◌, ap, subst, arith, length-drop, length-append}
use Rattle.std.specs.Prelude.{All}
use Rattle.std.specs.List.{AllByRecursion}
use Rattle.std.proofs.Math.Nat.{mod-add-mod, mod-eq_of_lt, mod_self}
use Rattle.std.proofs.lemmas.Bool.{cases_lt}
use Rattle.std.proofs.lemmas.List.{take-append-le, drop-append-le}
use Rattle.std.proofs.lemmas.List.Elements.{All-from_recursion, recursion_from_All}
use Rattle.vx_ringlog.specs.Records.{first_blocks}
use Rattle.vx_srlfmt.specs.Kinds.{IsBody, Body}
use Rattle.vx_disk.specs.Shelf.{Goes, Meaning, Nothing}
use Rattle.vx_ringlog.specs.Acts.{body_acts}
use Rattle.vx_ringlog.specs.Cells.{Act, Write}
use Rattle.vx_ringlog.specs.Chain.{block}
use Rattle.vx_ringlog.proofs.Blocks.{cut_count}
use Rattle.vx_ringio.specs.Bodies.{all_blocks}
use Rattle.vx_ringio.specs.Reading.{EachPlace, GaveBlocks}
use Rattle.vx_ringio.specs.Tracks.{Follows, Arrives}
use Rattle.vx_ringio.proofs.Seeing.{gave_before}
use Rattle.vx_ringio.proofs.Following.{sooner, nothing_arrives, then_follows, then_arrives}

-- ---- lists of blocks

none_of : (one : List ℕ) → length one ≡ 0 → one ≡ []
none_of [] none = refl
none_of (x ∷ one) none = absurd (omega arith)

pub append_blocks : (n k : ℕ) (one two : List ℕ) → length one ≡ 512 * n → first_blocks (n + k) (one ++ two) ≡ first_blocks n one ++ first_blocks k two
append_blocks zero k one two size =
    let none : 0 + k ≡ k = omega arith in
    ap (λ (n : ℕ). first_blocks n (one ++ two)) none ∙ ap (λ (xs : List ℕ). first_blocks k (xs ++ two)) (none_of one (omega (arith, size)))
append_blocks (suc n) k one two size =
    let first : take 512 (one ++ two) ≡ take 512 one = take-append-le 512 one two (omega (arith, size)) in
    let rest : drop 512 (one ++ two) ≡ drop 512 one ++ two = drop-append-le 512 one two (omega (arith, size)) in
    let more : suc n + k ≡ suc (n + k) = omega arith in
    ap (λ (m : ℕ). first_blocks m (one ++ two)) more
    ∙ ap (λ (b : List ℕ). b ∷ first_blocks (n + k) (drop 512 (one ++ two))) first
    ∙ ap (λ (bs : List (List ℕ)). take 512 one ∷ bs)
    (ap (λ (xs : List ℕ). first_blocks (n + k) xs) rest ∙ append_blocks n k (drop 512 one) two (omega (arith, size, length-drop 512 one)))

pub all_append : (one two : List ℕ) → length one % 512 ≡ 0 → all_blocks (one ++ two) ≡ all_blocks one ++ all_blocks two
all_append one two whole =
    let count : length (one ++ two) / 512 ≡ length one / 512 + length two / 512 = omega (arith, whole, length-append one two) in
    ap (λ (n : ℕ). first_blocks n (one ++ two)) count ∙ append_blocks (length one / 512) (length two / 512) one two (omega (arith, whole))

front_each : (xs ys : List (List ℕ)) → AllByRecursion IsBody (xs ++ ys) → AllByRecursion IsBody xs × AllByRecursion IsBody ys
front_each [] ys all = (tt, all)
front_each (x ∷ xs) ys all = let rest = front_each xs ys all.1 in ((all.0, rest.0), rest.1)

-- the parts are of body blocks
pub body_parts : (bytes one two : List ℕ) → bytes ≡ one ++ two → length one % 512 ≡ 0 → All IsBody (all_blocks bytes) → All IsBody (all_blocks one) × All IsBody (all_blocks two)
body_parts bytes one two is whole body =
    let both : all_blocks bytes ≡ all_blocks one ++ all_blocks two = ap (λ (xs : List ℕ). all_blocks xs) is ∙ all_append one two whole in
    let each = front_each (all_blocks one) (all_blocks two) (recursion_from_All IsBody (all_blocks one ++ all_blocks two) (subst (λ (bs : List (List ℕ)). All IsBody bs) both body)) in
    (All-from_recursion IsBody (all_blocks one) each.0, All-from_recursion IsBody (all_blocks two) each.1)

-- ---- acts

acts_append : (ring p : ℕ) (xs ys : List (List ℕ)) → body_acts ring p (xs ++ ys) ≡ body_acts ring p xs ++ body_acts ring (p + length xs) ys
acts_append ring p [] ys = ap (λ (q : ℕ). body_acts ring q ys) (omega arith)
acts_append ring p (x ∷ xs) ys =
    let at : suc p + length xs ≡ p + length (x ∷ xs) = omega arith in
    ap (λ (acts : List Act). Write (block ring p) (Body x) ∷ acts) (acts_append ring (suc p) xs ys ∙ ap (λ (q : ℕ). body_acts ring (suc p) xs ++ body_acts ring q ys) at)

next_same : (ring p q : ℕ) → p % ring ≡ q % ring → suc p % ring ≡ suc q % ring
next_same ring p q same =
    let a : (p % ring + 1) % ring ≡ (p + 1) % ring = mod-add-mod p ring 1 in
    let b : (q % ring + 1) % ring ≡ (q + 1) % ring = mod-add-mod q ring 1 in
    let at_p : suc p % ring ≡ (p + 1) % ring = ap (λ (n : ℕ). n % ring) (omega arith) in
    let at_q : (q + 1) % ring ≡ suc q % ring = ap (λ (n : ℕ). n % ring) (omega arith) in
    at_p ∙ sym a ∙ ap (λ (n : ℕ). (n + 1) % ring) same ∙ b ∙ at_q

acts_same : (ring p q : ℕ) (xs : List (List ℕ)) → p % ring ≡ q % ring → body_acts ring p xs ≡ body_acts ring q xs
acts_same ring p q [] same = refl
acts_same ring p q (x ∷ xs) same =
    ap (λ (b : ℕ). Write (2 + b) (Body x) ∷ body_acts ring (suc p) xs) same
    ∙ ap (λ (acts : List Act). Write (block ring q) (Body x) ∷ acts) (acts_same ring (suc p) (suc q) xs (next_same ring p q same))

-- ---- the two parts

-- the first part ends with the ring, or is all
pub record InParts (ring place : ℕ) (one two : List ℕ) : Type 0 where
  pub ring_is : 0 < ring
  pub whole : length one % 512 ≡ 0
  pub ends : (length two ≡ 0) ⊎ (place % ring + length one / 512 ≡ ring)

pub in_parts : (ring place n total : ℕ) (one two : List ℕ) → 0 < ring → n ≡ min (ring - place % ring) (total / 512) → length one ≡ 512 * n → length two + 512 * n ≡ total → total % 512 ≡ 0
    → InParts ring place one two
in_parts ring place n total one two some is size rest whole = record {
  ring_is = some;
  whole = omega (arith, size);
  ends = ⊎_elim
      (λ (all : total / 512 < ring - place % ring). inl (omega (arith, all, is, size, rest, whole)))
      (λ (more : ring - place % ring ≤ total / 512). inr (omega (arith, more, is, size, some)))
      (cases_lt (total / 512) (ring - place % ring));
}

none_blocks : (two : List ℕ) → length two ≡ 0 → all_blocks two ≡ []
none_blocks two none = ap (λ (xs : List ℕ). all_blocks xs) (none_of two none)

round : (ring place n : ℕ) → 0 < ring → place % ring + n ≡ ring → (place + n) % ring ≡ 0 % ring
round ring place n some end =
    let zero_is : 0 % ring ≡ 0 = mod-eq_of_lt some in
    sym (mod-add-mod place ring n) ∙ ap (λ (m : ℕ). m % ring) end ∙ mod_self ring ∙ sym zero_is

inside : (ring place : ℕ) → 0 < ring → place % ring ≡ (place % ring) % ring
inside ring place some = let same : (place % ring) % ring ≡ place % ring = mod-eq_of_lt (omega (arith, some)) in sym same

module _ (ring place : ℕ) (one two : List ℕ) (parts : InParts ring place one two) where
  -- the place behind the first part is one whose block is the ring's first, where there is a second part
  behind : (all_blocks two ≡ []) ⊎ ((place + length (all_blocks one)) % ring ≡ 0 % ring)
  behind = ⊎_elim
      (λ none. inl (none_blocks two none))
      (λ end. inr (round ring place (length (all_blocks one)) parts.ring_is (ap (λ (n : ℕ). place % ring + n) (cut_count (length one / 512) one) ∙ end)))
      parts.ends

  second_acts : (bs : List (List ℕ)) → (bs ≡ []) ⊎ ((place + length (all_blocks one)) % ring ≡ 0 % ring) → body_acts ring (place + length (all_blocks one)) bs ≡ body_acts ring 0 bs
  second_acts bs (inl none) = ap (λ (xs : List (List ℕ)). body_acts ring (place + length (all_blocks one)) xs) none ∙ ap (λ (xs : List (List ℕ)). body_acts ring 0 xs) (sym none)
  second_acts bs (inr at) = acts_same ring (place + length (all_blocks one)) 0 bs at

  acts_parts : body_acts ring (place % ring) (all_blocks one) ++ body_acts ring 0 (all_blocks two) ≡ body_acts ring place (all_blocks (one ++ two))
  acts_parts =
      sym (ap (λ (bs : List (List ℕ)). body_acts ring place bs) (all_append one two parts.whole)
      ∙ acts_append ring place (all_blocks one) (all_blocks two)
      ∙ ap (λ (acts : List Act). acts ++ body_acts ring (place + length (all_blocks one)) (all_blocks two)) (acts_same ring place (place % ring) (all_blocks one) (inside ring place parts.ring_is))
      ∙ ap (λ (acts : List Act). body_acts ring (place % ring) (all_blocks one) ++ acts) (second_acts (all_blocks two) behind))

  -- what two calls write
  module _ (unit : ℕ) (bytes : List ℕ) (is : bytes ≡ one ++ two) (m m' : Meaning) where
    as_whole : body_acts ring (place % ring) (all_blocks one) ++ body_acts ring 0 (all_blocks two) ≡ body_acts ring place (all_blocks bytes)
    as_whole = acts_parts ∙ ap (λ (xs : List ℕ). body_acts ring place (all_blocks xs)) (sym is)

    pub first_follows : Follows unit ring (body_acts ring (place % ring) (all_blocks one)) m m' → Follows unit ring (body_acts ring place (all_blocks bytes)) m m'
    first_follows follows = subst (λ (acts : List Act). Follows unit ring acts m m') as_whole
        (sooner unit ring (body_acts ring (place % ring) (all_blocks one)) (body_acts ring 0 (all_blocks two)) m m' follows)

    nothing_more : (bs : List (List ℕ)) → bs ≡ [] → Arrives unit ring (body_acts ring 0 bs) m' m'
    nothing_more bs none = subst (λ (xs : List (List ℕ)). Arrives unit ring (body_acts ring 0 xs) m' m') (sym none) (nothing_arrives unit ring m')

    pub first_arrives : length two ≡ 0 → Arrives unit ring (body_acts ring (place % ring) (all_blocks one)) m m' → Arrives unit ring (body_acts ring place (all_blocks bytes)) m m'
    first_arrives none arrives = subst (λ (acts : List Act). Arrives unit ring acts m m') as_whole
        (then_arrives unit ring (body_acts ring (place % ring) (all_blocks one)) (body_acts ring 0 (all_blocks two)) m m' m' arrives (nothing_more (all_blocks two) (none_blocks two none)))

    module _ (m'' : Meaning) (arrives : Arrives unit ring (body_acts ring (place % ring) (all_blocks one)) m m') where
      pub both_follow : Follows unit ring (body_acts ring (place % ring) (all_blocks one)) m m' → Follows unit ring (body_acts ring 0 (all_blocks two)) m' m''
          → Follows unit ring (body_acts ring place (all_blocks bytes)) m m''
      both_follow one_follows two_follow = subst (λ (acts : List Act). Follows unit ring acts m m'') as_whole
          (then_follows unit ring (body_acts ring (place % ring) (all_blocks one)) (body_acts ring 0 (all_blocks two)) m m' m'' one_follows arrives two_follow)

      pub both_arrive : Arrives unit ring (body_acts ring 0 (all_blocks two)) m' m'' → Arrives unit ring (body_acts ring place (all_blocks bytes)) m m''
      both_arrive two_arrive = subst (λ (acts : List Act). Arrives unit ring acts m m'') as_whole
          (then_arrives unit ring (body_acts ring (place % ring) (all_blocks one)) (body_acts ring 0 (all_blocks two)) m m' m'' arrives two_arrive)

-- ---- blocks that were read

places_append : (P : ℕ → List ℕ → Type 0) (ring p : ℕ) (xs ys : List (List ℕ)) → EachPlace P ring p xs → EachPlace P ring (p + length xs) ys → EachPlace P ring p (xs ++ ys)
places_append P ring p [] ys one two = subst (λ (q : ℕ). EachPlace P ring q ys) (omega arith) two
places_append P ring p (x ∷ xs) ys one two =
    let at : p + length (x ∷ xs) ≡ suc p + length xs = omega arith in
    (one.0, places_append P ring (suc p) xs ys one.1 (subst (λ (q : ℕ). EachPlace P ring q ys) at two))

places_same : (P : ℕ → List ℕ → Type 0) (ring p q : ℕ) (xs : List (List ℕ)) → p % ring ≡ q % ring → EachPlace P ring p xs → EachPlace P ring q xs
places_same P ring p q [] same each = tt
places_same P ring p q (x ∷ xs) same each =
    (subst (λ (b : ℕ). P (2 + b) x) same each.0, places_same P ring (suc p) (suc q) xs (next_same ring p q same) each.1)

pub places_parts : (P : ℕ → List ℕ → Type 0) (ring place : ℕ) (one two : List ℕ) → InParts ring place one two → EachPlace P ring (place % ring) (all_blocks one) → EachPlace P ring 0 (all_blocks two)
    → EachPlace P ring place (all_blocks (one ++ two))
places_parts P ring place one two parts first second =
    subst (λ (bs : List (List ℕ)). EachPlace P ring place bs) (sym (all_append one two parts.whole))
    (places_append P ring place (all_blocks one) (all_blocks two)
    (places_same P ring (place % ring) place (all_blocks one) (sym (inside ring place parts.ring_is)) first)
    (go (all_blocks two) (behind ring place one two parts) second))
  where
    go : (bs : List (List ℕ)) → (bs ≡ []) ⊎ ((place + length (all_blocks one)) % ring ≡ 0 % ring) → EachPlace P ring 0 bs → EachPlace P ring (place + length (all_blocks one)) bs
    go bs (inl none) each = subst (λ (xs : List (List ℕ)). EachPlace P ring (place + length (all_blocks one)) xs) (sym none) tt
    go bs (inr at) each = places_same P ring 0 (place + length (all_blocks one)) bs (sym at) each

pub places_first : (P : ℕ → List ℕ → Type 0) (ring place : ℕ) (one two : List ℕ) → InParts ring place one two → length two ≡ 0 → EachPlace P ring (place % ring) (all_blocks one) → EachPlace P ring place (all_blocks (one ++ two))
places_first P ring place one two parts none first =
    places_parts P ring place one two parts first (subst (λ (bs : List (List ℕ)). EachPlace P ring 0 bs) (sym (none_blocks two none)) tt)

-- what two reads gave, the second behind the first
pub gave_parts : (unit ring place : ℕ) (one two : List ℕ) (old mid : Meaning) → InParts ring place one two → Goes Nothing old mid → (IsTrue mid.down → ⊥)
    → (IsTrue old.tells → GaveBlocks unit ring old (place % ring) (all_blocks one)) → (IsTrue mid.tells → GaveBlocks unit ring mid 0 (all_blocks two)) → IsTrue old.tells → GaveBlocks unit ring old place (all_blocks (one ++ two))
gave_parts unit ring place one two old mid parts goes up first second tells =
    places_parts (old.reads unit) ring place one two parts (first tells) (gave_before unit ring old mid 0 (all_blocks two) goes up (second (subst (λ (t : Bool). IsTrue t) (sym goes.tells) tells)))
