-- What is read is spelled so, and what is spelled is read: values one after the other, and values behind a flag.
use Rattle.std.proofs.Common.{◌≡◌, ℕ, zero, suc, ◌≤◌, Bool, true, false, List, [], ◌∷◌, ◌++◌, length, Option, Some, None, Ok, Err, refl, sym, ap, subst, ◌∙◌, append_assoc, arith}
use Rattle.std.specs.Prelude.{flat_map, is_some, if◌then◌else◌}
use Rattle.std.specs.List.{AllByRecursion}
use Rattle.std.proofs.lemmas.List.{append-nil}
use Rattle.std.proofs.lemmas.List.Concat.{flat_map-cons}
use Rattle.vx_wire.specs.Numbers.{be_bytes, AreBytes}
use Rattle.vx_config.specs.Forms.{Reading, ◌>>=◌, Form, within, flag, read_many, counted, spell_if, read_if, FitsIf, optional, same_flag, where_flag}
use Rattle.vx_config.proofs.FormLaws.{bind_ok, bind_err, ok_is, test_ok, test_err, Takes, Takes-then, Takes-shorter, IsForm, within-IsForm, flag-IsForm, flag_fits}

-- ---- many values

pub many-takes : {A : Type 0} (form : Form A) → IsForm form → (n : ℕ) (bytes : List ℕ) (x : List A × List ℕ) → AreBytes bytes → read_many form n bytes ≡ Ok x
    → Takes bytes (flat_map form.spell x.0) x.1 × ((length x.0 ≡ n) × AllByRecursion form.Fits x.0)
unfolding read_many
many-takes {A} form is zero bytes x h e =
    subst (λ (y : List A × List ℕ). Takes bytes (flat_map form.spell y.0) y.1 × ((length y.0 ≡ 0) × AllByRecursion form.Fits y.0)) (ok_is ([], bytes) x e)
    (record { parts = refl; behind = h }, (refl, tt))
many-takes {A} form is (suc n) bytes x h e =
    let more : A × List ℕ → Reading (List A) = λ a. read_many form n a.1 >>= λ xs. Ok (a.0 ∷ xs.0, xs.1) in
    let one = bind_ok (form.read bytes) more x e in
    let a : A × List ℕ = one.0 in
    let join : List A × List ℕ → Reading (List A) = λ xs. Ok (a.0 ∷ xs.0, xs.1) in
    let two = bind_ok (read_many form n a.1) join x one.2 in
    let xs : List A × List ℕ = two.0 in
    let first = is.takes bytes a h one.1 in
    let second = many-takes form is n a.1 xs first.0.behind two.1 in
    let both : Takes bytes (form.spell a.0 ++ flat_map form.spell xs.0) xs.1 = Takes-then bytes (form.spell a.0) a.1 (flat_map form.spell xs.0) xs.1 first.0 second.0 in
    let made : List A × List ℕ = (a.0 ∷ xs.0, xs.1) in
    let P : List A × List ℕ → Type 0 = λ y. Takes bytes (flat_map form.spell y.0) y.1 × ((length y.0 ≡ suc n) × AllByRecursion form.Fits y.0) in
    let here : P made = (rw flat_map-cons both, (ap suc second.1.0, (first.1, second.1.1))) in
    subst P (ok_is made x two.2) here

many-again : {A : Type 0} (form : Form A) → IsForm form → (xs : List A) (rest : List ℕ) → AllByRecursion form.Fits xs → read_many form (length xs) (flat_map form.spell xs ++ rest) ≡ Ok (xs, rest)
unfolding read_many
many-again form is [] rest fits = refl
many-again {A} form is (x ∷ xs) rest fits =
    let more : List ℕ = flat_map form.spell xs ++ rest in
    let regrouped : flat_map form.spell (x ∷ xs) ++ rest ≡ form.spell x ++ more = ap (λ (t : List ℕ). t ++ rest) (flat_map-cons form.spell x xs) ∙ append_assoc (form.spell x) (flat_map form.spell xs) rest in
    let one : form.read (form.spell x ++ more) ≡ Ok (x, more) = is.again x more fits.0 in
    let two : read_many form (length xs) more ≡ Ok (xs, rest) = many-again form is xs rest fits.1 in
    ap (read_many form (suc (length xs))) regrouped ∙ rw (one, two) refl

pub many-stops : {A : Type 0} (form : Form A) → IsForm form → (n : ℕ) (bytes : List ℕ) (left : ℕ) → AreBytes bytes → read_many form n bytes ≡ Err left → left ≤ length bytes
unfolding read_many
many-stops form is zero bytes left h e = absurd cc
many-stops {A} form is (suc n) bytes left h e =
    let more : A × List ℕ → Reading (List A) = λ a. read_many form n a.1 >>= λ xs. Ok (a.0 ∷ xs.0, xs.1) in
    bind_err (form.read bytes) more left (left ≤ length bytes) e
    (λ wrong. is.stops bytes left h wrong)
    (λ a ae second.
    let taken : Takes bytes (form.spell a.0) a.1 = (is.takes bytes a h ae).0 in
    let join : List A × List ℕ → Reading (List A) = λ xs. Ok (a.0 ∷ xs.0, xs.1) in
    bind_err (read_many form n a.1) join left (left ≤ length bytes) second
    (λ wrong. let inside : left ≤ length a.1 = many-stops form is n a.1 left taken.behind wrong in omega (arith, Takes-shorter bytes (form.spell a.0) a.1 taken))
    (λ xs xse wrong. absurd cc))

pub counted-IsForm : {A : Type 0} (least most : ℕ) (form : Form A) → most ≤ 255 → IsForm form → IsForm (counted least most form)
counted-IsForm {A} least most form few is = record {
  takes = λ bytes x h e.
      let more : ℕ × List ℕ → Reading (List A) = λ n. read_many form n.0 n.1 in
      let one = bind_ok ((within 1 least most).read bytes) more x e in
      let n : ℕ × List ℕ = one.0 in
      let count = (within-IsForm 1 least most).takes bytes n h one.1 in
      let items = many-takes form is n.0 n.1 x count.0.behind one.2 in
      let whole : Takes bytes (be_bytes 1 n.0 ++ flat_map form.spell x.0) x.1 = Takes-then bytes (be_bytes 1 n.0) n.1 (flat_map form.spell x.0) x.1 count.0 items.0 in
      let same : n.0 ≡ length x.0 = sym items.1.0 in
      let P : ℕ → Type 0 = λ m. Takes bytes (be_bytes 1 m ++ flat_map form.spell x.0) x.1 in
      let low : least ≤ length x.0 = omega (arith, count.1.1, items.1.0) in
      let high : length x.0 ≤ most = omega (arith, count.1.2, items.1.0) in
      (subst P same whole, (low, high, items.1.1));
  again = λ xs rest fits.
      let more : List ℕ = flat_map form.spell xs ++ rest in
      let one : (within 1 least most).read (be_bytes 1 (length xs) ++ more) ≡ Ok (length xs, more) = (within-IsForm 1 least most).again (length xs) more (omega (arith, fits.1), fits.0, fits.1) in
      let two : read_many form (length xs) more ≡ Ok (xs, rest) = many-again form is xs rest fits.2 in
      ap (counted least most form).read (append_assoc (be_bytes 1 (length xs)) (flat_map form.spell xs) rest) ∙ rw (one, two) refl;
  stops = λ bytes left h e.
      let more : ℕ × List ℕ → Reading (List A) = λ n. read_many form n.0 n.1 in
      bind_err ((within 1 least most).read bytes) more left (left ≤ length bytes) e
      (λ wrong. (within-IsForm 1 least most).stops bytes left h wrong)
      (λ n ne wrong.
      let taken : Takes bytes (be_bytes 1 n.0) n.1 = ((within-IsForm 1 least most).takes bytes n h ne).0 in
      let inside : left ≤ length n.1 = many-stops form is n.0 n.1 left taken.behind wrong in
      omega (arith, Takes-shorter bytes (be_bytes 1 n.0) n.1 taken));
}

-- ---- values behind a flag

-- what follows the flag
abbrev pub behind_flag : {A : Type 0} → Form A → Option A → List ℕ
behind_flag form None = []
behind_flag form (Some a) = form.spell a

pub spell_if-is : {A : Type 0} (form : Form A) (o : Option A) → spell_if form o ≡ flag.spell (is_some o) ++ behind_flag form o
unfolding flag
spell_if-is form None = sym (append-nil (be_bytes 1 0))
spell_if-is form (Some a) = refl

if-takes : {A : Type 0} (form : Form A) → IsForm form → (b : Bool) (bytes : List ℕ) (x : Option A × List ℕ) → AreBytes bytes → read_if form b bytes ≡ Ok x
    → Takes bytes (behind_flag form x.0) x.1 × ((b ≡ is_some x.0) × FitsIf form x.0)
if-takes {A} form is false bytes x h e =
    subst (λ (y : Option A × List ℕ). Takes bytes (behind_flag form y.0) y.1 × ((false ≡ is_some y.0) × FitsIf form y.0)) (ok_is (None, bytes) x e)
    (record { parts = refl; behind = h }, (refl, tt))
if-takes {A} form is true bytes x h e =
    let join : A × List ℕ → Reading (Option A) = λ a. Ok (Some a.0, a.1) in
    let one = bind_ok (form.read bytes) join x e in
    let a : A × List ℕ = one.0 in
    let taken = is.takes bytes a h one.1 in
    subst (λ (y : Option A × List ℕ). Takes bytes (behind_flag form y.0) y.1 × ((true ≡ is_some y.0) × FitsIf form y.0)) (ok_is (Some a.0, a.1) x one.2)
    (taken.0, (refl, taken.1))

if-again : {A : Type 0} (form : Form A) → IsForm form → (o : Option A) (rest : List ℕ) → FitsIf form o → read_if form (is_some o) (behind_flag form o ++ rest) ≡ Ok (o, rest)
if-again form is None rest fits = refl
if-again form is (Some a) rest fits =
    let one : form.read (form.spell a ++ rest) ≡ Ok (a, rest) = is.again a rest fits in
    rw one refl

pub if-stops : {A : Type 0} (form : Form A) → IsForm form → (b : Bool) (bytes : List ℕ) (left : ℕ) → AreBytes bytes → read_if form b bytes ≡ Err left → left ≤ length bytes
if-stops form is false bytes left h e = absurd cc
if-stops {A} form is true bytes left h e =
    let join : A × List ℕ → Reading (Option A) = λ a. Ok (Some a.0, a.1) in
    bind_err (form.read bytes) join left (left ≤ length bytes) e (λ wrong. is.stops bytes left h wrong) (λ a ae none. absurd cc)

pub optional-IsForm : {A : Type 0} (form : Form A) → IsForm form → IsForm (optional form)
optional-IsForm {A} form is = record {
  takes = λ bytes x h e.
      let more : Bool × List ℕ → Reading (Option A) = λ found. read_if form found.0 found.1 in
      let one = bind_ok (flag.read bytes) more x e in
      let b : Bool × List ℕ = one.0 in
      let front = flag-IsForm.takes bytes b h one.1 in
      let behind = if-takes form is b.0 b.1 x front.0.behind one.2 in
      let whole : Takes bytes (flag.spell b.0 ++ behind_flag form x.0) x.1 = Takes-then bytes (flag.spell b.0) b.1 (behind_flag form x.0) x.1 front.0 behind.0 in
      let text : flag.spell b.0 ++ behind_flag form x.0 ≡ spell_if form x.0 = ap (λ (v : Bool). flag.spell v ++ behind_flag form x.0) behind.1.0 ∙ sym (spell_if-is form x.0) in
      (subst (λ (t : List ℕ). Takes bytes t x.1) text whole, behind.1.1);
  again = λ o rest fits.
      let more : List ℕ = behind_flag form o ++ rest in
      let regrouped : spell_if form o ++ rest ≡ flag.spell (is_some o) ++ more = ap (λ (t : List ℕ). t ++ rest) (spell_if-is form o) ∙ append_assoc (flag.spell (is_some o)) (behind_flag form o) rest in
      let one : flag.read (flag.spell (is_some o) ++ more) ≡ Ok (is_some o, more) = flag-IsForm.again (is_some o) more (flag_fits (is_some o)) in
      let two : read_if form (is_some o) more ≡ Ok (o, rest) = if-again form is o rest fits in
      ap (optional form).read regrouped ∙ rw (one, two) refl;
  stops = λ bytes left h e.
      let more : Bool × List ℕ → Reading (Option A) = λ found. read_if form found.0 found.1 in
      bind_err (flag.read bytes) more left (left ≤ length bytes) e
      (λ wrong. flag-IsForm.stops bytes left h wrong)
      (λ b be wrong.
      let taken : Takes bytes (flag.spell b.0) b.1 = (flag-IsForm.takes bytes b h be).0 in
      let inside : left ≤ length b.1 = if-stops form is b.0 b.1 left taken.behind wrong in
      omega (arith, Takes-shorter bytes (flag.spell b.0) b.1 taken));
}

same_flag-is : (a b : Bool) → same_flag a b ≡ true → b ≡ a
same_flag-is false false e = refl
same_flag-is false true e = absurd cc
same_flag-is true false e = absurd cc
same_flag-is true true e = refl

same_flag-same : (a : Bool) → same_flag a a ≡ true
same_flag-same false = refl
same_flag-same true = refl

pub where_flag-IsForm : {A : Type 0} (form : Form A) (wanted : Bool) → IsForm form → IsForm (where_flag form wanted)
where_flag-IsForm {A} form wanted is = record {
  takes = λ bytes x h e.
      let more : Bool × List ℕ → Reading (Option A) = λ found. if same_flag wanted found.0 then read_if form found.0 found.1 else Err (length bytes) in
      let one = bind_ok (flag.read bytes) more x e in
      let b : Bool × List ℕ = one.0 in
      let t = test_ok (same_flag wanted b.0) (length bytes) (read_if form b.0 b.1) x one.2 in
      let front = flag-IsForm.takes bytes b h one.1 in
      let behind = if-takes form is b.0 b.1 x front.0.behind t.1 in
      let whole : Takes bytes (flag.spell b.0 ++ behind_flag form x.0) x.1 = Takes-then bytes (flag.spell b.0) b.1 (behind_flag form x.0) x.1 front.0 behind.0 in
      let text : flag.spell b.0 ++ behind_flag form x.0 ≡ spell_if form x.0 = ap (λ (v : Bool). flag.spell v ++ behind_flag form x.0) behind.1.0 ∙ sym (spell_if-is form x.0) in
      let flags : is_some x.0 ≡ wanted = sym behind.1.0 ∙ same_flag-is wanted b.0 t.0 in
      (subst (λ (t : List ℕ). Takes bytes t x.1) text whole, (flags, behind.1.1));
  again = λ o rest fits.
      let more : List ℕ = behind_flag form o ++ rest in
      let regrouped : spell_if form o ++ rest ≡ flag.spell (is_some o) ++ more = ap (λ (t : List ℕ). t ++ rest) (spell_if-is form o) ∙ append_assoc (flag.spell (is_some o)) (behind_flag form o) rest in
      let one : flag.read (flag.spell (is_some o) ++ more) ≡ Ok (is_some o, more) = flag-IsForm.again (is_some o) more (flag_fits (is_some o)) in
      let test : same_flag wanted (is_some o) ≡ true = ap (λ (v : Bool). same_flag v (is_some o)) (sym fits.0) ∙ same_flag-same (is_some o) in
      let two : read_if form (is_some o) more ≡ Ok (o, rest) = if-again form is o rest fits.1 in
      ap (where_flag form wanted).read regrouped ∙ rw (one, test, two) refl;
  stops = λ bytes left h e.
      let more : Bool × List ℕ → Reading (Option A) = λ found. if same_flag wanted found.0 then read_if form found.0 found.1 else Err (length bytes) in
      bind_err (flag.read bytes) more left (left ≤ length bytes) e
      (λ wrong. flag-IsForm.stops bytes left h wrong)
      (λ b be second.
      let taken : Takes bytes (flag.spell b.0) b.1 = (flag-IsForm.takes bytes b h be).0 in
      test_err (same_flag wanted b.0) (length bytes) left (read_if form b.0 b.1) (left ≤ length bytes) second
      (λ k. omega arith)
      (λ t wrong. let inside : left ≤ length b.1 = if-stops form is b.0 b.1 left taken.behind wrong in omega (arith, Takes-shorter bytes (flag.spell b.0) b.1 taken)));
}
