-- What is read is spelled so, and what is spelled is read, for each kind of form.
use Rattle.std.proofs.Common.{◌≡◌, ℕ, zero, suc, ◌^◌, ◌<◌, ◌≤◌, Bool, true, false, cond, ◌||◌, ◌&&◌, List, [], ◌∷◌, ◌++◌, length, take, drop, Option, Some, None, Ok, Err, refl, sym, ap, subst, ◌∙◌, append_assoc, arith, ◌⊎◌, inl, inr}
use Rattle.std.specs.Prelude.{nat_lt, nat_le, ◌==◌, if◌then◌else◌}
use Rattle.std.proofs.lemmas.Bool.{ltb-false, le-ltb, leb-true, le-leb, eqb-true, eqb-false, false_from_ne_true}
use Rattle.std.proofs.lemmas.List.{take_at, drop_at, take-append-drop, length-append, length-take}
use Rattle.vx_wire.specs.Fields.{name_bytes}
use Rattle.vx_wire.specs.Numbers.{be_bytes, number_at, AreBytes}
use Rattle.vx_wire.proofs.NumberLemmas.{length-be_bytes, AreBytes-rest, AreBytes-drop, number_at-be_bytes, number_at-spelled, number_at-lt}
use Rattle.vx_config.specs.Forms.{Reading, ◌>>=◌, Form, number, within, coded_or, coded, flag_code, flag_of, flag, read_name, name, pair, made_of, keyed}

-- ---- readings

abbrev done : {A : Type 0} → A → List ℕ → Reading A
done a rest = Ok (a, rest)

abbrev failed : {A : Type 0} → ℕ → Reading A
failed left = Err left

pub ok_is : {A : Type 0} (x y : A × List ℕ) → done x.0 x.1 ≡ done y.0 y.1 → x ≡ y
ok_is x y e = cc

pub err_is : {A : Type 0} (m n : ℕ) → failed {A = A} m ≡ failed n → m ≡ n
err_is m n e = cc

-- the value of a step that did not fail
pub bind_ok : {A B : Type 0} (r : Reading A) (f : A × List ℕ → Reading B) (y : B × List ℕ) → (r >>= f) ≡ Ok y → (x : A × List ℕ) × (r ≡ Ok x) × (f x ≡ Ok y)
bind_ok (Ok x) f y e = (x, refl, e)
bind_ok (Err left) f y e = absurd cc

-- where a step failed, it was the first or the second
pub bind_err : {A B : Type 0} (r : Reading A) (f : A × List ℕ → Reading B) (left : ℕ) (P : Type 0) → (r >>= f) ≡ Err left → (r ≡ Err left → P) → ((x : A × List ℕ) → r ≡ Ok x → f x ≡ Err left → P) → P
bind_err (Ok x) f left P e first second = second x refl e
bind_err {A} {B} (Err k) f left P e first second = first (ap (λ (n : ℕ). failed {A = A} n) (err_is {A = B} k left e))

-- ---- what a form keeps

-- what a reader took from the front
pub record Takes (bytes text rest : List ℕ) : Type 0 where
  pub parts : bytes ≡ text ++ rest
  pub behind : AreBytes rest

pub Takes-then : (a x b y c : List ℕ) → Takes a x b → Takes b y c → Takes a (x ++ y) c
Takes-then a x b y c p q = record { parts = p.parts ∙ ap (λ (t : List ℕ). x ++ t) q.parts ∙ sym (append_assoc x y c); behind = q.behind }

pub Takes-shorter : (a x b : List ℕ) → Takes a x b → length b ≤ length a
Takes-shorter a x b t = omega (arith, ap length t.parts, length-append x b)

-- what is read is spelled so; what is spelled is read, whatever follows it; what is wrong is one of the bytes
pub record IsForm {A : Type 0} (form : Form A) : Type 0 where
  pub takes : (bytes : List ℕ) (x : A × List ℕ) → AreBytes bytes → form.read bytes ≡ Ok x → Takes bytes (form.spell x.0) x.1 × form.Fits x.0
  pub again : (a : A) (rest : List ℕ) → form.Fits a → form.read (form.spell a ++ rest) ≡ Ok (a, rest)
  pub stops : (bytes : List ℕ) (left : ℕ) → AreBytes bytes → form.read bytes ≡ Err left → left ≤ length bytes

-- ---- tests

guard_ok : {A : Type 0} (b : Bool) (left : ℕ) (x y : A × List ℕ) → cond b (failed left) (Ok x) ≡ Ok y → (b ≡ false) × (x ≡ y)
guard_ok true left x y e = absurd cc
guard_ok false left x y e = (refl, ok_is x y e)

pub guard_err : {A : Type 0} (b : Bool) (k left : ℕ) (x : A × List ℕ) → cond b (failed k) (Ok x) ≡ Err left → k ≡ left
guard_err {A} true k left x e = err_is {A = A} k left e
guard_err false k left x e = absurd cc

pub test_ok : {A : Type 0} (b : Bool) (left : ℕ) (x : Reading A) (y : A × List ℕ) → cond b x (failed left) ≡ Ok y → (b ≡ true) × (x ≡ Ok y)
test_ok true left x y e = (refl, e)
test_ok false left x y e = absurd cc

pub test_err : {A : Type 0} (b : Bool) (k left : ℕ) (x : Reading A) (P : Type 0) → cond b x (failed k) ≡ Err left → (k ≡ left → P) → (b ≡ true → x ≡ Err left → P) → P
test_err true k left x P e first second = second refl e
test_err {A} false k left x P e first second = first (err_is {A = A} k left e)

both : (a b : Bool) → (a && b) ≡ true → (a ≡ true) × (b ≡ true)
both true b e = (refl, e)
both false b e = absurd cc

neither : (a b : Bool) → (a || b) ≡ false → (a ≡ false) × (b ≡ false)
neither true b e = absurd cc
neither false b e = (refl, e)

-- ---- single fields

pub number-IsForm : (w : ℕ) → IsForm (number w)
number-IsForm w = record {
  takes = λ bytes x h e.
      let g = guard_ok (nat_lt (length bytes) w) (length bytes) (number_at w 0 bytes, drop w bytes) x e in
      let long : w ≤ length bytes = ltb-false (length bytes) w g.0 in
      let same : be_bytes w (number_at w 0 bytes) ≡ take w bytes = number_at-spelled w 0 bytes h (omega arith) in
      let parts : bytes ≡ be_bytes w (number_at w 0 bytes) ++ drop w bytes = sym (take-append-drop w bytes) ∙ ap (λ (t : List ℕ). t ++ drop w bytes) (sym same) in
      let lt : number_at w 0 bytes < 256 ^ w = number_at-lt w 0 bytes h in
      let rest : AreBytes (drop w bytes) = AreBytes-drop w bytes h in
      subst (λ (y : ℕ × List ℕ). Takes bytes (be_bytes w y.0) y.1 × (y.0 < 256 ^ w)) g.1 (record { parts = parts; behind = rest }, lt);
  again = λ n rest lt.
      let len : length (be_bytes w n) ≡ w = length-be_bytes w n in
      let long : nat_lt (length (be_bytes w n ++ rest)) w ≡ false = le-ltb (length (be_bytes w n ++ rest)) w (omega (arith, length-append (be_bytes w n) rest)) in
      let same : number_at w 0 (be_bytes w n ++ rest) ≡ n = number_at-be_bytes w n [] rest lt in
      rw (long, same, drop_at (be_bytes w n) rest w len) refl;
  stops = λ bytes left h e.
      let k : length bytes ≡ left = guard_err (nat_lt (length bytes) w) (length bytes) left (number_at w 0 bytes, drop w bytes) e in
      omega arith;
}

pub within-IsForm : (w least most : ℕ) → IsForm (within w least most)
within-IsForm w least most = record {
  takes = λ bytes x h e.
      let test : ℕ × List ℕ → Reading ℕ = λ n. if nat_le least n.0 && nat_le n.0 most then Ok n else Err (length bytes) in
      let b = bind_ok ((number w).read bytes) test x e in
      let t = test_ok (nat_le least b.0.0 && nat_le b.0.0 most) (length bytes) (Ok b.0) x b.2 in
      let between = both (nat_le least b.0.0) (nat_le b.0.0 most) t.0 in
      let same : b.0 ≡ x = ok_is b.0 x t.1 in
      let taken = (number-IsForm w).takes bytes b.0 h b.1 in
      let low : least ≤ b.0.0 = leb-true least b.0.0 between.0 in
      let high : b.0.0 ≤ most = leb-true b.0.0 most between.1 in
      subst (λ (y : ℕ × List ℕ). Takes bytes (be_bytes w y.0) y.1 × ((y.0 < 256 ^ w) × (least ≤ y.0) × (y.0 ≤ most))) same (taken.0, (taken.1, low, high));
  again = λ n rest fits.
      let one : (number w).read (be_bytes w n ++ rest) ≡ Ok (n, rest) = (number-IsForm w).again n rest fits.0 in
      let low : nat_le least n ≡ true = le-leb least n fits.1 in
      let high : nat_le n most ≡ true = le-leb n most fits.2 in
      rw (one, low, high) refl;
  stops = λ bytes left h e.
      let test : ℕ × List ℕ → Reading ℕ = λ n. if nat_le least n.0 && nat_le n.0 most then Ok n else Err (length bytes) in
      bind_err ((number w).read bytes) test left (left ≤ length bytes) e
      (λ first. (number-IsForm w).stops bytes left h first)
      (λ n ne second. test_err (nat_le least n.0 && nat_le n.0 most) (length bytes) left (Ok n) (left ≤ length bytes) second (λ k. omega arith) (λ t wrong. absurd cc));
}

-- a code is below 256, is read as its value, and is the only one that is
pub record IsCode {A : Type 0} (code : A → ℕ) (of : ℕ → Option A) : Type 0 where
  pub small : (a : A) → code a < 256
  pub read : (a : A) → of (code a) ≡ Some a
  pub only : (n : ℕ) (a : A) → of n ≡ Some a → code a ≡ n

coded_ok : {A : Type 0} (left : ℕ) (rest : List ℕ) (o : Option A) (x : A × List ℕ) → coded_or left rest o ≡ Ok x → (o ≡ Some x.0) × (rest ≡ x.1)
coded_ok left rest None x e = absurd cc
coded_ok {A} left rest (Some a) x e = (ap (λ (y : A × List ℕ). Some y.0) (ok_is (a, rest) x e), ap (λ (y : A × List ℕ). y.1) (ok_is (a, rest) x e))

pub coded_err : {A : Type 0} (k left : ℕ) (rest : List ℕ) (o : Option A) → coded_or k rest o ≡ Err left → k ≡ left
coded_err {A} k left rest None e = err_is {A = A} k left e
coded_err k left rest (Some a) e = absurd cc

pub coded-IsForm : {A : Type 0} (code : A → ℕ) (of : ℕ → Option A) → IsCode code of → IsForm (coded code of)
coded-IsForm {A} code of is = record {
  takes = λ bytes x h e.
      let choose : ℕ × List ℕ → Reading A = λ n. coded_or (length bytes) n.1 (of n.0) in
      let b = bind_ok ((number 1).read bytes) choose x e in
      let c = coded_ok (length bytes) b.0.1 (of b.0.0) x b.2 in
      let taken = (number-IsForm 1).takes bytes b.0 h b.1 in
      let same : code x.0 ≡ b.0.0 = is.only b.0.0 x.0 c.0 in
      let front : Takes bytes (be_bytes 1 (code x.0)) b.0.1 = rw same taken.0 in
      (subst (λ (r : List ℕ). Takes bytes (be_bytes 1 (code x.0)) r) c.1 front, tt);
  again = λ a rest fits.
      let one : (number 1).read (be_bytes 1 (code a) ++ rest) ≡ Ok (code a, rest) = (number-IsForm 1).again (code a) rest (is.small a) in
      rw (one, is.read a) refl;
  stops = λ bytes left h e.
      let choose : ℕ × List ℕ → Reading A = λ n. coded_or (length bytes) n.1 (of n.0) in
      bind_err ((number 1).read bytes) choose left (left ≤ length bytes) e
      (λ first. (number-IsForm 1).stops bytes left h first)
      (λ n ne second. let k : length bytes ≡ left = coded_err (length bytes) left n.1 (of n.0) second in omega arith);
}

-- which way a choice went
pub chosen : {A : Type 0} (b : Bool) (x y z : A) → cond b x y ≡ z → ((b ≡ true) × (x ≡ z)) ⊎ ((b ≡ false) × (y ≡ z))
chosen true x y z e = inl (refl, e)
chosen false x y z e = inr (refl, e)

abbrev some : {A : Type 0} → A → Option A
some a = Some a

flag_is : (n : ℕ) (v a : Bool) → flag_code v ≡ n → some v ≡ Some a → flag_code a ≡ n
flag_is n v a code e = let same : v ≡ a = cc in ap flag_code (sym same) ∙ code

flag_only : (n : ℕ) (a : Bool) → flag_of n ≡ Some a → flag_code a ≡ n
flag_only n a e =
    elim (chosen (n == 0) (some false) (if n == 1 then some true else None) (Some a) e) [
      | inl p ↦ flag_is n false a (sym (eqb-true n 0 p.0)) p.1
      | inr p ↦ elim (chosen (n == 1) (some true) None (Some a) p.1) [
        | inl q ↦ flag_is n true a (sym (eqb-true n 1 q.0)) q.1
        | inr q ↦ absurd cc
      ]
    ]

pub flag-IsCode : IsCode flag_code flag_of
flag-IsCode = record {
  small = flag_small;
  read = flag_read;
  only = flag_only;
} where
  flag_small : (a : Bool) → flag_code a < 256
  flag_small false = omega arith
  flag_small true = omega arith

  flag_read : (a : Bool) → flag_of (flag_code a) ≡ Some a
  flag_read false = refl
  flag_read true = refl

pub flag-IsForm : IsForm flag
unfolding flag
flag-IsForm = coded-IsForm flag_code flag_of flag-IsCode

pub flag_fits : (b : Bool) → flag.Fits b
unfolding flag
flag_fits b = tt

name-test : (n : ℕ) (rest : List ℕ) → (n == 0 || nat_lt 8 n || nat_lt (length rest) n) ≡ false → (0 < n) × ((n ≤ 8) × (n ≤ length rest))
name-test n rest e =
    let last = neither (n == 0 || nat_lt 8 n) (nat_lt (length rest) n) e in
    let first = neither (n == 0) (nat_lt 8 n) last.0 in
    let some : n ≡ 0 → ⊥ = eqb-false n 0 first.0 in
    let few : n ≤ 8 = ltb-false 8 n first.1 in
    let long : n ≤ length rest = ltb-false (length rest) n last.1 in
    (above n some, (few, long)) where
      above : (n : ℕ) → (n ≡ 0 → ⊥) → 0 < n
      above zero h = absurd (h refl)
      above (suc n) h = omega arith

name-takes : (bytes : List ℕ) (x : List ℕ × List ℕ) → AreBytes bytes → read_name bytes ≡ Ok x → Takes bytes (name_bytes x.0) x.1 × ((0 < length x.0) × (length x.0 ≤ 8))
name-takes [] x h e = absurd cc
name-takes (n ∷ rest) x h e =
    let g = guard_ok (n == 0 || nat_lt 8 n || nat_lt (length rest) n) (length (n ∷ rest)) (take n rest, drop n rest) x e in
    let t = name-test n rest g.0 in
    let len : length (take n rest) ≡ n = omega (arith, length-take n rest, t.1.1) in
    let parts : n ∷ rest ≡ name_bytes (take n rest) ++ drop n rest = rw len (ap (λ (r : List ℕ). n ∷ r) (sym (take-append-drop n rest))) in
    let behind : AreBytes (drop n rest) = AreBytes-drop n rest (AreBytes-rest n rest h) in
    let bounds : (0 < length (take n rest)) × (length (take n rest) ≤ 8) = rw len (t.0, t.1.0) in
    subst (λ (y : List ℕ × List ℕ). Takes (n ∷ rest) (name_bytes y.0) y.1 × ((0 < length y.0) × (length y.0 ≤ 8))) g.1 (record { parts = parts; behind = behind }, bounds)

name-tested : (n : ℕ) (rest : List ℕ) → 0 < n → n ≤ 8 → n ≤ length rest → (n == 0 || nat_lt 8 n || nat_lt (length rest) n) ≡ false
name-tested n rest least few long =
    let zero_not : (n == 0) ≡ false = false_from_ne_true (n == 0) (λ t. let z : n ≡ 0 = eqb-true n 0 t in absurd (omega arith)) in
    let few_is : nat_lt 8 n ≡ false = le-ltb 8 n few in
    let long_is : nat_lt (length rest) n ≡ false = le-ltb (length rest) n long in
    rw (zero_not, few_is, long_is) refl

name-again : (n rest : List ℕ) → (0 < length n) × (length n ≤ 8) → read_name (name_bytes n ++ rest) ≡ Ok (n, rest)
name-again n rest fits =
    let test : (length n == 0 || nat_lt 8 (length n) || nat_lt (length (n ++ rest)) (length n)) ≡ false = name-tested (length n) (n ++ rest) fits.0 fits.1 (omega (arith, length-append n rest)) in
    rw (test, take_at n rest (length n) refl, drop_at n rest (length n) refl) refl

name-stops : (bytes : List ℕ) (left : ℕ) → AreBytes bytes → read_name bytes ≡ Err left → left ≤ length bytes
name-stops [] left h e = let k : 0 ≡ left = err_is {A = List ℕ} 0 left e in omega arith
name-stops (n ∷ rest) left h e =
    let k : length (n ∷ rest) ≡ left = guard_err (n == 0 || nat_lt 8 n || nat_lt (length rest) n) (length (n ∷ rest)) left (take n rest, drop n rest) e in omega arith

pub name-IsForm : IsForm name
unfolding name
name-IsForm = record { takes = name-takes; again = name-again; stops = name-stops }

-- ---- several fields

pub pair-IsForm : {A B : Type 0} (f : Form A) (g : Form B) → IsForm f → IsForm g → IsForm (pair f g)
pair-IsForm {A} {B} f g is_f is_g = record {
  takes = λ bytes x h e.
      let more : A × List ℕ → Reading (A × B) = λ a. g.read a.1 >>= λ b. Ok ((a.0, b.0), b.1) in
      let one = bind_ok (f.read bytes) more x e in
      let a : A × List ℕ = one.0 in
      let join : B × List ℕ → Reading (A × B) = λ b. Ok ((a.0, b.0), b.1) in
      let two = bind_ok (g.read a.1) join x one.2 in
      let b : B × List ℕ = two.0 in
      let first = is_f.takes bytes a h one.1 in
      let second = is_g.takes a.1 b first.0.behind two.1 in
      let whole : Takes bytes (f.spell a.0 ++ g.spell b.0) b.1 = Takes-then bytes (f.spell a.0) a.1 (g.spell b.0) b.1 first.0 second.0 in
      let made : (A × B) × List ℕ = ((a.0, b.0), b.1) in
      subst (λ (y : (A × B) × List ℕ). Takes bytes (f.spell y.0.0 ++ g.spell y.0.1) y.1 × (f.Fits y.0.0 × g.Fits y.0.1)) (ok_is made x two.2) (whole, (first.1, second.1));
  again = λ p rest fits.
      let one : f.read (f.spell p.0 ++ (g.spell p.1 ++ rest)) ≡ Ok (p.0, g.spell p.1 ++ rest) = is_f.again p.0 (g.spell p.1 ++ rest) fits.0 in
      let two : g.read (g.spell p.1 ++ rest) ≡ Ok (p.1, rest) = is_g.again p.1 rest fits.1 in
      ap (pair f g).read (append_assoc (f.spell p.0) (g.spell p.1) rest) ∙ rw (one, two) refl;
  stops = λ bytes left h e.
      let more : A × List ℕ → Reading (A × B) = λ a. g.read a.1 >>= λ b. Ok ((a.0, b.0), b.1) in
      bind_err (f.read bytes) more left (left ≤ length bytes) e
      (λ first. is_f.stops bytes left h first)
      (λ a ae second.
      let taken : Takes bytes (f.spell a.0) a.1 = (is_f.takes bytes a h ae).0 in
      let join : B × List ℕ → Reading (A × B) = λ b. Ok ((a.0, b.0), b.1) in
      bind_err (g.read a.1) join left (left ≤ length bytes) second
      (λ wrong. let inside : left ≤ length a.1 = is_g.stops a.1 left taken.behind wrong in omega (arith, Takes-shorter bytes (f.spell a.0) a.1 taken))
      (λ b be none. absurd cc));
}

pub made_of-IsForm : {A B : Type 0} (make : A → B) (parts : B → A) (form : Form A) → ((a : A) → parts (make a) ≡ a) → ((b : B) → make (parts b) ≡ b) → IsForm form → IsForm (made_of make parts form)
made_of-IsForm {A} {B} make parts form there back is = record {
  takes = λ bytes x h e.
      let join : A × List ℕ → Reading B = λ a. Ok (make a.0, a.1) in
      let one = bind_ok (form.read bytes) join x e in
      let a : A × List ℕ = one.0 in
      let taken = is.takes bytes a h one.1 in
      let made : B × List ℕ = (make a.0, a.1) in
      let P : A → Type 0 = λ p. Takes bytes (form.spell p) a.1 × form.Fits p in
      let same : P (parts (make a.0)) = subst P (sym (there a.0)) taken in
      subst (λ (y : B × List ℕ). Takes bytes (form.spell (parts y.0)) y.1 × form.Fits (parts y.0)) (ok_is made x one.2) same;
  again = λ b rest fits.
      let one : form.read (form.spell (parts b) ++ rest) ≡ Ok (parts b, rest) = is.again (parts b) rest fits in
      let whole : (made_of make parts form).read (form.spell (parts b) ++ rest) ≡ Ok (make (parts b), rest) = rw one refl in
      whole ∙ ap (λ (v : B). done v rest) (back b);
  stops = λ bytes left h e.
      let join : A × List ℕ → Reading B = λ a. Ok (make a.0, a.1) in
      bind_err (form.read bytes) join left (left ≤ length bytes) e (λ first. is.stops bytes left h first) (λ a ae none. absurd cc);
}

pub keyed-IsForm : {K A : Type 0} (key : A → K) (first : Form K) (form : K → Form A) → IsForm first → ((k : K) → IsForm (form k)) → ((k : K) (a : A) → (form k).Fits a → key a ≡ k) → IsForm (keyed key first form)
keyed-IsForm {K} {A} key first form is_first is_form tells = record {
  takes = λ bytes x h e.
      let more : K × List ℕ → Reading A = λ k. (form k.0).read k.1 in
      let one = bind_ok (first.read bytes) more x e in
      let k : K × List ℕ = one.0 in
      let front = is_first.takes bytes k h one.1 in
      let behind = (is_form k.0).takes k.1 x front.0.behind one.2 in
      let same : k.0 ≡ key x.0 = sym (tells k.0 x.0 behind.1) in
      let whole : Takes bytes (first.spell k.0 ++ (form k.0).spell x.0) x.1 = Takes-then bytes (first.spell k.0) k.1 ((form k.0).spell x.0) x.1 front.0 behind.0 in
      let P : K → Type 0 = λ v. Takes bytes (first.spell v ++ (form v).spell x.0) x.1 × (first.Fits v × (form v).Fits x.0) in
      subst P same (whole, (front.1, behind.1));
  again = λ a rest fits.
      let more : List ℕ = (form (key a)).spell a ++ rest in
      let one : first.read (first.spell (key a) ++ more) ≡ Ok (key a, more) = is_first.again (key a) more fits.0 in
      let two : (form (key a)).read more ≡ Ok (a, rest) = (is_form (key a)).again a rest fits.1 in
      ap (keyed key first form).read (append_assoc (first.spell (key a)) ((form (key a)).spell a) rest) ∙ rw (one, two) refl;
  stops = λ bytes left h e.
      let more : K × List ℕ → Reading A = λ k. (form k.0).read k.1 in
      bind_err (first.read bytes) more left (left ≤ length bytes) e
      (λ wrong. is_first.stops bytes left h wrong)
      (λ k ke wrong.
      let taken : Takes bytes (first.spell k.0) k.1 = (is_first.takes bytes k h ke).0 in
      let inside : left ≤ length k.1 = (is_form k.0).stops k.1 left taken.behind wrong in
      omega (arith, Takes-shorter bytes (first.spell k.0) k.1 taken));
}
