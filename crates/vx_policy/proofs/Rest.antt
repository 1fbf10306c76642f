-- The rule over the links from one place on, by the link of that place and those after it.
use Rattle.std.proofs.Common.{◌≡◌, ℕ, ◌+◌, ◌*◌, ◌<◌, ◌≤◌, ◌^◌, List, ◌∷◌, Bool, true, false, Option, Some, None, sym, ap, ◌∙◌, drop, get_or, length, zip, drop-cons, arith, add-one}
use Rattle.std.proofs.Math.Seq.{drop-length}
use Rattle.std.proofs.Math.Nat.{pow-succ'}
use Rattle.std.specs.Option.{is_some}
use Rattle.vx_model.specs.declared.link.Link.{Link}
use Rattle.vx_history.specs.declared.admission.Change.{Change}
use Rattle.vx_model.specs.declared.no.No.{No}
use Rattle.vx_history.specs.Admission.{Held, first_full, held_by_room, or_else, change, changes}
use Rattle.vx_policy.specs.Verdicts.{bit_for, bits_for, refusal_if}

drop-next : {A : Type 0} (xs : List A) (at : ℕ) (d : A) → at < length xs → drop at xs ≡ get_or xs at d ∷ drop (at + 1) xs
drop-next xs at d h = drop-cons xs at d h ∙ ap (λ (k : ℕ). get_or xs at d ∷ drop k xs) (sym (add-one at))

pairs-step : (links : List Link) (used : List ℕ) (at : ℕ) (d : Link) (e : ℕ) → at < length links → at < length used
    → zip (drop at links) (drop at used) ≡ (get_or links at d, get_or used at e) ∷ zip (drop (at + 1) links) (drop (at + 1) used)
pairs-step links used at d e h k =
    ap (λ (ls : List Link). zip ls (drop at used)) (drop-next links at d h)
    ∙ ap (λ (us : List ℕ). zip (get_or links at d ∷ drop (at + 1) links) us) (drop-next used at e k)

pub full-step : (need room : ℕ) (links : List Link) (used : List ℕ) (at : ℕ) (d : Link) (e : ℕ) → at < length links → at < length used
    → first_full need room (zip (drop at links) (drop at used))
    ≡ or_else (held_by_room need room (get_or links at d) (get_or used at e)) (first_full need room (zip (drop (at + 1) links) (drop (at + 1) used)))
full-step need room links used at d e h k = ap (first_full need room) (pairs-step links used at d e h k)

-- the first that holds, read from here on
pub full-here : (here rest whole : Option Held) (said : Option No) → said ≡ refusal_if here → is_some said ≡ true → whole ≡ or_else here rest → said ≡ refusal_if whole
full-here (Some why) rest whole said is some all = is ∙ sym (ap refusal_if all)
full-here None rest whole said is some all = grind (arith, is, some)

bits-step : (test : Change → Bool) (need room : ℕ) (links : List Link) (used : List ℕ) (at next : ℕ) (d : Link) (e : ℕ)
    → next ≡ at + 1 → at < length links → at < length used
    → bits_for test (changes need room (zip (drop at links) (drop at used)))
    ≡ bit_for (test (change need room (get_or links at d) (get_or used at e))) + 2 * bits_for test (changes need room (zip (drop next links) (drop next used)))
unfolding bits_for
bits-step test need room links used at next d e is h k =
    rw is (ap (λ (ps : List (Link × ℕ)). bits_for test (changes need room ps)) (pairs-step links used at d e h k))

-- a set that has the links from the next one on, with the bit of this one, has those from this one on
pub bits-on : (test : Change → Bool) (need room : ℕ) (links : List Link) (used : List ℕ) (at next here : ℕ) (d : Link) (e : ℕ) (set more : ℕ) (c : Change)
    → here ≡ at → next ≡ at + 1 → at < length links → at < length used
    → set ≡ bits_for test (changes need room (zip (drop next links) (drop next used)))
    → c ≡ change need room (get_or links at d) (get_or used at e) → more ≡ bit_for (test c)
    → 2 * set + more ≡ bits_for test (changes need room (zip (drop here links) (drop here used)))
bits-on test need room links used at next here d e set more c place is h k sets changed bits_is =
    rw place (rw bits_is (rw changed (rw sets (omega (arith, bits-step test need room links used at next d e is h k)))))

-- behind the last link there is none
pub bits-none : (test : Change → Bool) (need room : ℕ) (links : List Link) (used : List ℕ) (at : ℕ) → at ≡ length links
    → 0 ≡ bits_for test (changes need room (zip (drop at links) used))
unfolding bits_for
bits-none test need room links used at is =
    rw is (sym (ap (λ (ls : List Link). bits_for test (changes need room (zip ls used))) (drop-length links)))

bit-small : (b : Bool) → bit_for b ≤ 1
bit-small true = grind arith
bit-small false = grind arith

-- so many bits with one more in front
pub bits-next : (set back : ℕ) (b : Bool) → set < 2 ^ back → 2 * set + bit_for b < 2 ^ (back + 1)
bits-next set back b h = rw (add-one back) (omega (arith, h, bit-small b, pow-succ' 2 back))
