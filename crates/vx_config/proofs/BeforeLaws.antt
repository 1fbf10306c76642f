-- All before the first wrong field is right: some value is spelled as the bytes are up to there.
use Rattle.std.proofs.Common.{◌≡◌, ℕ, zero, suc, ◌+◌, ◌-◌, ◌^◌, ◌<◌, ◌≤◌, Bool, true, false, ◌&&◌, ◌||◌, List, [], ◌∷◌, ◌++◌, length, take, drop, Option, Some, None, Ok, Err, refl, sym, ap, subst, ◌∙◌, arith}
use Rattle.std.specs.Prelude.{flat_map, is_some, nat_lt, nat_le, ◌==◌, if◌then◌else◌}
use Rattle.std.specs.List.{AllByRecursion}
use Rattle.std.proofs.lemmas.List.{take_at, drop_at, take-append-le, length-append, length-take}
use Rattle.std.proofs.lemmas.List.Concat.{flat_map-cons}
use Rattle.vx_wire.specs.Numbers.{be_bytes, AreBytes, number_at}
use Rattle.vx_wire.proofs.PlaceLemmas.{take_sum}
use Rattle.vx_config.specs.Forms.{Reading, ◌>>=◌, Form, number, within, coded_or, coded, flag, flag_code, flag_of, read_name, name, pair, made_of, keyed, read_many, counted, spell_if, read_if, FitsIf, optional, same_flag, where_flag}
use Rattle.vx_config.proofs.FormLaws.{bind_err, err_is, test_err, IsForm, within-IsForm, coded_err, guard_err, flag-IsForm, flag_fits}
use Rattle.vx_config.proofs.PartLaws.{many-stops, if-stops}

-- ---- fronts

take-behind : (x y : List ℕ) (m : ℕ) → take (length x + m) (x ++ y) ≡ x ++ take m y
take-behind x y m = take_sum (length x) m (x ++ y) ∙ rw (take_at x y (length x) refl, drop_at x y (length x) refl) refl

-- a front of the first part
front-take : (n : ℕ) (x y bytes : List ℕ) → n ≤ length bytes → take n x ≡ take n bytes → take n (x ++ y) ≡ take n bytes
front-take n x y bytes fits e =
    let inside : n ≤ length x = omega (arith, ap length e, length-take n x, length-take n bytes) in
    take-append-le n x y inside ∙ e

-- a front that goes on behind the first part
pub behind-take : (bytes x rest y : List ℕ) (left : ℕ) → bytes ≡ x ++ rest → left ≤ length rest → take (length rest - left) y ≡ take (length rest - left) rest → take (length bytes - left) (x ++ y) ≡ take (length bytes - left) bytes
behind-take bytes x rest y left parts inside e =
    let m : ℕ = length rest - left in
    let n : length bytes - left ≡ length x + m = omega (arith, ap length parts, length-append x rest) in
    let one : take (length bytes - left) (x ++ y) ≡ x ++ take m y = ap (λ (k : ℕ). take k (x ++ y)) n ∙ take-behind x y m in
    let two : take (length bytes - left) bytes ≡ x ++ take m rest = ap (λ (k : ℕ). take k bytes) n ∙ ap (take (length x + m)) parts ∙ take-behind x rest m in
    one ∙ ap (λ (t : List ℕ). x ++ t) e ∙ sym two

-- nothing stands before the first byte
pub none-before : (n : ℕ) (x bytes : List ℕ) → n ≡ 0 → take n x ≡ take n bytes
none-before n x bytes e = ap (λ (k : ℕ). take k x) e ∙ sym (ap (λ (k : ℕ). take k bytes) e)

-- ---- what is kept

-- some value is spelled as the bytes are, up to so many from their end
pub record Before {A : Type 0} (form : Form A) (bytes : List ℕ) (left : ℕ) : Type 0 where
  pub value : A
  pub fits : form.Fits value
  pub same : take (length bytes - left) (form.spell value) ≡ take (length bytes - left) bytes

pub record IsFull {A : Type 0} (form : Form A) : Type 0 where
  pub one : A
  pub fits : form.Fits one
  pub before : (bytes : List ℕ) (left : ℕ) → AreBytes bytes → form.read bytes ≡ Err left → Before form bytes left

-- a form that is one field
pub record IsField {A : Type 0} (form : Form A) : Type 0 where
  pub starts : (bytes : List ℕ) (left : ℕ) → form.read bytes ≡ Err left → left ≡ length bytes

pub field-full : {A : Type 0} (form : Form A) (a : A) → form.Fits a → IsField form → IsFull form
field-full form a fits is = record {
  one = a;
  fits = fits;
  before = λ bytes left h e.
      let all : left ≡ length bytes = is.starts bytes left e in
      record { value = a; fits = fits; same = none-before (length bytes - left) (form.spell a) bytes (omega arith) };
}

-- ---- single fields

pub number-IsField : (w : ℕ) → IsField (number w)
number-IsField w = record {
  starts = λ bytes left e. sym (guard_err (nat_lt (length bytes) w) (length bytes) left (number_at w 0 bytes, drop w bytes) e);
}

pub within-IsField : (w least most : ℕ) → IsField (within w least most)
within-IsField w least most = record {
  starts = λ bytes left e.
      let test : ℕ × List ℕ → Reading ℕ = λ n. if nat_le least n.0 && nat_le n.0 most then Ok n else Err (length bytes) in
      bind_err ((number w).read bytes) test left (left ≡ length bytes) e
      (λ first. (number-IsField w).starts bytes left first)
      (λ n ne second. test_err (nat_le least n.0 && nat_le n.0 most) (length bytes) left (Ok n) (left ≡ length bytes) second (λ k. sym k) (λ t wrong. absurd cc));
}

coded-IsField : {A : Type 0} (code : A → ℕ) (of : ℕ → Option A) → IsField (coded code of)
coded-IsField {A} code of = record {
  starts = λ bytes left e.
      let choose : ℕ × List ℕ → Reading A = λ n. coded_or (length bytes) n.1 (of n.0) in
      bind_err ((number 1).read bytes) choose left (left ≡ length bytes) e
      (λ first. (number-IsField 1).starts bytes left first)
      (λ n ne second. sym (coded_err (length bytes) left n.1 (of n.0) second));
}

flag-IsField : IsField flag
unfolding flag
flag-IsField = coded-IsField flag_code flag_of

name-starts : (bytes : List ℕ) (left : ℕ) → read_name bytes ≡ Err left → left ≡ length bytes
name-starts [] left e = sym (err_is {A = List ℕ} 0 left e)
name-starts (n ∷ rest) left e = sym (guard_err (n == 0 || nat_lt 8 n || nat_lt (length rest) n) (length (n ∷ rest)) left (take n rest, drop n rest) e)

pub number-IsFull : (w : ℕ) → 0 < 256 ^ w → IsFull (number w)
number-IsFull w some = field-full (number w) 0 some (number-IsField w)

pub within-IsFull : (w least most : ℕ) → least < 256 ^ w → least ≤ most → IsFull (within w least most)
within-IsFull w least most fits low = field-full (within w least most) least (fits, omega arith, low) (within-IsField w least most)

pub coded-IsFull : {A : Type 0} (code : A → ℕ) (of : ℕ → Option A) (a : A) → IsFull (coded code of)
coded-IsFull code of a = field-full (coded code of) a tt (coded-IsField code of)

pub flag-IsFull : IsFull flag
flag-IsFull = field-full flag false (flag_fits false) flag-IsField

pub name-IsFull : IsFull name
unfolding name
name-IsFull = field-full name (97 ∷ []) (omega arith, omega arith) record { starts = name-starts }

-- ---- several fields

pub pair-IsFull : {A B : Type 0} (f : Form A) (g : Form B) → IsForm f → IsForm g → IsFull f → IsFull g → IsFull (pair f g)
pair-IsFull {A} {B} f g is_f is_g full_f full_g = record {
  one = (full_f.one, full_g.one);
  fits = (full_f.fits, full_g.fits);
  before = λ bytes left h e.
      let more : A × List ℕ → Reading (A × B) = λ a. g.read a.1 >>= λ b. Ok ((a.0, b.0), b.1) in
      bind_err (f.read bytes) more left (Before (pair f g) bytes left) e
      (λ first.
      let b : Before f bytes left = full_f.before bytes left h first in
      record { value = (b.value, full_g.one); fits = (b.fits, full_g.fits); same = front-take (length bytes - left) (f.spell b.value) (g.spell full_g.one) bytes (omega arith) b.same })
      (λ a ae second.
      let taken = is_f.takes bytes a h ae in
      let join : B × List ℕ → Reading (A × B) = λ b. Ok ((a.0, b.0), b.1) in
      bind_err (g.read a.1) join left (Before (pair f g) bytes left) second
      (λ wrong.
      let b : Before g a.1 left = full_g.before a.1 left taken.0.behind wrong in
      let inside : left ≤ length a.1 = is_g.stops a.1 left taken.0.behind wrong in
      record { value = (a.0, b.value); fits = (taken.1, b.fits); same = behind-take bytes (f.spell a.0) a.1 (g.spell b.value) left taken.0.parts inside b.same })
      (λ b be none. absurd cc));
}

pub made_of-IsFull : {A B : Type 0} (make : A → B) (parts : B → A) (form : Form A) → ((a : A) → parts (make a) ≡ a) → IsFull form → IsFull (made_of make parts form)
made_of-IsFull {A} {B} make parts form there full = record {
  one = make full.one;
  fits = subst form.Fits (sym (there full.one)) full.fits;
  before = λ bytes left h e.
      let join : A × List ℕ → Reading B = λ a. Ok (make a.0, a.1) in
      bind_err (form.read bytes) join left (Before (made_of make parts form) bytes left) e
      (λ first.
      let b : Before form bytes left = full.before bytes left h first in
      let same : form.spell (parts (make b.value)) ≡ form.spell b.value = ap form.spell (there b.value) in
      record { value = make b.value; fits = subst form.Fits (sym (there b.value)) b.fits; same = ap (take (length bytes - left)) same ∙ b.same })
      (λ a ae none. absurd cc);
}

pub keyed-IsFull : {K A : Type 0} (key : A → K) (first : Form K) (form : K → Form A) → IsForm first → ((k : K) → IsForm (form k)) → ((k : K) (a : A) → (form k).Fits a → key a ≡ k) → IsFull first → ((k : K) → IsFull (form k)) → IsFull (keyed key first form)
keyed-IsFull {K} {A} key first form is_first is_form tells full_first full_form = record {
  one = (full_form full_first.one).one;
  fits = fits_at full_first.one (full_form full_first.one).one full_first.fits (full_form full_first.one).fits;
  before = λ bytes left h e.
      let more : K × List ℕ → Reading A = λ k. (form k.0).read k.1 in
      bind_err (first.read bytes) more left (Before (keyed key first form) bytes left) e
      (λ wrong.
      let b : Before first bytes left = full_first.before bytes left h wrong in
      let a : A = (full_form b.value).one in
      let same : key a ≡ b.value = tells b.value a (full_form b.value).fits in
      let front : take (length bytes - left) (first.spell (key a)) ≡ take (length bytes - left) bytes = ap (λ (k : K). take (length bytes - left) (first.spell k)) same ∙ b.same in
      record { value = a; fits = fits_at b.value a b.fits (full_form b.value).fits; same = front-take (length bytes - left) (first.spell (key a)) ((form (key a)).spell a) bytes (omega arith) front })
      (λ k ke wrong.
      let taken = is_first.takes bytes k h ke in
      let b : Before (form k.0) k.1 left = (full_form k.0).before k.1 left taken.0.behind wrong in
      let inside : left ≤ length k.1 = (is_form k.0).stops k.1 left taken.0.behind wrong in
      let same : k.0 ≡ key b.value = sym (tells k.0 b.value b.fits) in
      let P : K → Type 0 = λ v. take (length bytes - left) (first.spell v ++ (form v).spell b.value) ≡ take (length bytes - left) bytes in
      let whole : P k.0 = behind-take bytes (first.spell k.0) k.1 ((form k.0).spell b.value) left taken.0.parts inside b.same in
      record { value = b.value; fits = fits_at k.0 b.value taken.1 b.fits; same = subst P same whole });
} where
  fits_at : (k : K) (a : A) → first.Fits k → (form k).Fits a → first.Fits (key a) × (form (key a)).Fits a
  fits_at k a p q = subst (λ (v : K). first.Fits v × (form v).Fits a) (sym (tells k a q)) (p, q)

-- ---- many values

ones : {A : Type 0} → A → ℕ → List A
ones a zero = []
ones a (suc n) = a ∷ ones a n

length-ones : {A : Type 0} (a : A) (n : ℕ) → length (ones a n) ≡ n
unfolding ones
length-ones a zero = refl
length-ones a (suc n) = ap suc (length-ones a n)

ones-fit : {A : Type 0} (P : A → Type 0) (a : A) (n : ℕ) → P a → AllByRecursion P (ones a n)
unfolding ones
ones-fit P a zero p = tt
ones-fit P a (suc n) p = (p, ones-fit P a n p)

record BeforeMany {A : Type 0} (form : Form A) (n : ℕ) (bytes : List ℕ) (left : ℕ) : Type 0 where
  values : List A
  count : length values ≡ n
  fits : AllByRecursion form.Fits values
  same : take (length bytes - left) (flat_map form.spell values) ≡ take (length bytes - left) bytes

many-before : {A : Type 0} (form : Form A) → IsForm form → IsFull form → (n : ℕ) (bytes : List ℕ) (left : ℕ) → AreBytes bytes → read_many form n bytes ≡ Err left → BeforeMany form n bytes left
unfolding read_many
many-before form is full zero bytes left h e = absurd cc
many-before {A} form is full (suc n) bytes left h e =
    let more : A × List ℕ → Reading (List A) = λ a. read_many form n a.1 >>= λ xs. Ok (a.0 ∷ xs.0, xs.1) in
    bind_err (form.read bytes) more left (BeforeMany form (suc n) bytes left) e
    (λ wrong.
    let b : Before form bytes left = full.before bytes left h wrong in
    let others : List A = ones full.one n in
    record {
      values = b.value ∷ others;
      count = ap suc (length-ones full.one n);
      fits = (b.fits, ones-fit form.Fits full.one n full.fits);
      same = ap (take (length bytes - left)) (flat_map-cons form.spell b.value others) ∙ front-take (length bytes - left) (form.spell b.value) (flat_map form.spell others) bytes (omega arith) b.same;
    })
    (λ a ae second.
    let taken = is.takes bytes a h ae in
    let join : List A × List ℕ → Reading (List A) = λ xs. Ok (a.0 ∷ xs.0, xs.1) in
    bind_err (read_many form n a.1) join left (BeforeMany form (suc n) bytes left) second
    (λ wrong.
    let b : BeforeMany form n a.1 left = many-before form is full n a.1 left taken.0.behind wrong in
    let inside : left ≤ length a.1 = many-stops form is n a.1 left taken.0.behind wrong in
    record {
      values = a.0 ∷ b.values;
      count = ap suc b.count;
      fits = (taken.1, b.fits);
      same = ap (take (length bytes - left)) (flat_map-cons form.spell a.0 b.values) ∙ behind-take bytes (form.spell a.0) a.1 (flat_map form.spell b.values) left taken.0.parts inside b.same;
    })
    (λ xs xse none. absurd cc))

pub counted-IsFull : {A : Type 0} (least most : ℕ) (form : Form A) → least ≤ most → most ≤ 255 → IsForm form → IsFull form → IsFull (counted least most form)
counted-IsFull {A} least most form low few is full = record {
  one = ones full.one least;
  fits = (omega (arith, length-ones full.one least), omega (arith, length-ones full.one least), ones-fit form.Fits full.one least full.fits);
  before = λ bytes left h e.
      let more : ℕ × List ℕ → Reading (List A) = λ n. read_many form n.0 n.1 in
      bind_err ((within 1 least most).read bytes) more left (Before (counted least most form) bytes left) e
      (λ wrong.
      let all : left ≡ length bytes = (within-IsField 1 least most).starts bytes left wrong in
      record {
        value = ones full.one least;
        fits = (omega (arith, length-ones full.one least), omega (arith, length-ones full.one least), ones-fit form.Fits full.one least full.fits);
        same = none-before (length bytes - left) (be_bytes 1 (length (ones full.one least)) ++ flat_map form.spell (ones full.one least)) bytes (omega arith);
      })
      (λ n ne wrong.
      let taken = (within-IsForm 1 least most).takes bytes n h ne in
      let b : BeforeMany form n.0 n.1 left = many-before form is full n.0 n.1 left taken.0.behind wrong in
      let inside : left ≤ length n.1 = many-stops form is n.0 n.1 left taken.0.behind wrong in
      let P : ℕ → Type 0 = λ m. take (length bytes - left) (be_bytes 1 m ++ flat_map form.spell b.values) ≡ take (length bytes - left) bytes in
      let whole : P n.0 = behind-take bytes (be_bytes 1 n.0) n.1 (flat_map form.spell b.values) left taken.0.parts inside b.same in
      record {
        value = b.values;
        fits = (omega (arith, b.count, taken.1.1), omega (arith, b.count, taken.1.2), b.fits);
        same = subst P (sym b.count) whole;
      });
}

-- ---- values behind a flag

if-before : {A : Type 0} (form : Form A) → IsFull form → (flags : Bool) (bytes : List ℕ) (left : ℕ) → AreBytes bytes → read_if form flags bytes ≡ Err left → (flags ≡ true) × Before form bytes left
if-before form full false bytes left h e = absurd cc
if-before {A} form full true bytes left h e =
    let join : A × List ℕ → Reading (Option A) = λ a. Ok (Some a.0, a.1) in
    bind_err (form.read bytes) join left ((true ≡ true) × Before form bytes left) e (λ wrong. (refl, full.before bytes left h wrong)) (λ a ae none. absurd cc)

-- a flag that was read, and a wrong value behind it
flag-behind : {A : Type 0} (form : Form A) → IsForm form → IsFull form → (bytes : List ℕ) (found : Bool × List ℕ) (left : ℕ) → AreBytes bytes → flag.read bytes ≡ Ok found → read_if form found.0 found.1 ≡ Err left
    → (a : A) × (form.Fits a × ((found.0 ≡ true) × (take (length bytes - left) (spell_if form (Some a)) ≡ take (length bytes - left) bytes)))
unfolding flag
flag-behind {A} form is full bytes found left h fe e =
    let taken = flag-IsForm.takes bytes found h fe in
    let b = if-before form full found.0 found.1 left taken.0.behind e in
    let inside : left ≤ length found.1 = if-stops form is found.0 found.1 left taken.0.behind e in
    let P : Bool → Type 0 = λ v. take (length bytes - left) (flag.spell v ++ form.spell b.1.value) ≡ take (length bytes - left) bytes in
    let whole : P found.0 = behind-take bytes (flag.spell found.0) found.1 (form.spell b.1.value) left taken.0.parts inside b.1.same in
    (b.1.value, (b.1.fits, (b.0, subst P b.0 whole)))

pub optional-IsFull : {A : Type 0} (form : Form A) → IsForm form → IsFull form → IsFull (optional form)
optional-IsFull {A} form is full = record {
  one = None;
  fits = tt;
  before = λ bytes left h e.
      let more : Bool × List ℕ → Reading (Option A) = λ found. read_if form found.0 found.1 in
      bind_err (flag.read bytes) more left (Before (optional form) bytes left) e
      (λ wrong.
      let all : left ≡ length bytes = flag-IsField.starts bytes left wrong in
      record { value = None; fits = tt; same = none-before (length bytes - left) (be_bytes 1 0) bytes (omega arith) })
      (λ found fe wrong.
      let b = flag-behind form is full bytes found left h fe wrong in
      record { value = Some b.0; fits = b.1.0; same = b.1.1.1 });
}

-- a value of the flag
abbrev of_flag : {A : Type 0} → A → Bool → Option A
of_flag a false = None
of_flag a true = Some a

same_true : (wanted found : Bool) → same_flag wanted found ≡ true → found ≡ true → true ≡ wanted
same_true true found e f = refl
same_true false true e f = absurd cc
same_true false false e f = absurd cc

pub where_flag-IsFull : {A : Type 0} (form : Form A) (wanted : Bool) → IsForm form → IsFull form → IsFull (where_flag form wanted)
where_flag-IsFull {A} form wanted is full = record {
  one = of_flag full.one wanted;
  fits = default wanted;
  before = λ bytes left h e.
      let more : Bool × List ℕ → Reading (Option A) = λ found. if same_flag wanted found.0 then read_if form found.0 found.1 else Err (length bytes) in
      bind_err (flag.read bytes) more left (Before (where_flag form wanted) bytes left) e
      (λ wrong. first bytes left (flag-IsField.starts bytes left wrong))
      (λ found fe second.
      test_err (same_flag wanted found.0) (length bytes) left (read_if form found.0 found.1) (Before (where_flag form wanted) bytes left) second
      (λ k. first bytes left (sym k))
      (λ t wrong.
      let b = flag-behind form is full bytes found left h fe wrong in
      record { value = Some b.0; fits = (same_true wanted found.0 t b.1.1.0, b.1.0); same = b.1.1.1 }));
} where
  default : (v : Bool) → (is_some (of_flag full.one v) ≡ v) × FitsIf form (of_flag full.one v)
  default false = (refl, tt)
  default true = (refl, full.fits)

  first : (bytes : List ℕ) (left : ℕ) → left ≡ length bytes → Before (where_flag form wanted) bytes left
  first bytes left all = record { value = of_flag full.one wanted; fits = default wanted; same = none-before (length bytes - left) (spell_if form (of_flag full.one wanted)) bytes (omega arith) }
