-- Once a commit is done, an import finds the new configuration, or is refused with 8 or 9.
use Rattle.std.proofs.Common.{◌≡◌, ◌⊎◌, inl, inr, ℕ, zero, suc, ◌<◌, ◌≤◌, Bool, true, false, Option, Some, None, List, refl, ap, sym, subst, ◌∙◌, arith}
use Rattle.std.specs.Prelude.{◌&&◌, ◌||◌, if◌then◌else◌}
use Rattle.std.proofs.lemmas.Bool.{cases_lt}
use Rattle.vx_disk.specs.Shelf.{Image, Values}
use Rattle.vx_copyfmt.specs.Labels.{seen_in}
use Rattle.vx_copyfmt.specs.declared.label.LabelSeen.{LabelSeen}
use Rattle.vx_copyfmt.specs.declared.label.LabelSeen.TheVariants as seen
use Rattle.vx_copyfmt.specs.Copies.{Copy, Body, Holds, Differs, copy_of}
use Rattle.vx_copyfmt.specs.Imports.{ImportOutcome, Found, Missing, NoConfig, Damaged, Format, is_label, strange_label, first_of, later, on_disk, strange, missing, or_missing, settle, by_body, by_newest, by_labels, newest_found, import_of}
use Rattle.vx_copyfmt.specs.Commits.{FindsOld, FindsNew, GivesConfig, Answers, Committed, IsGood, CopyWritten, Spoilt}
use Rattle.vx_copyfmt.proofs.Newest.{import_new, Below, BelowCopy, later_none, later_takes, later_keeps, below_later, below_on, later_either}

-- ---- labels that are known

no_version : (l : LabelSeen) → is_label l ≡ true → strange_label l ≡ None
no_version (seen.Label l) is = refl
no_version (seen.Format v) is = absurd cc
no_version seen.Other is = refl

none_either : (b : Bool) (o : Option ℕ) → o ≡ None → (if b then o else None) ≡ None
none_either true o is = is
none_either false o is = refl

pub no_strange : (readable : ℕ → Bool) (i : Image) (n : ℕ) → ((u : ℕ) → u < n → is_label (seen_in (i u 0)) ≡ true) → strange readable i n ≡ None
no_strange readable i zero labels = refl
no_strange readable i (suc n) labels =
    ap (λ (o : Option ℕ). first_of o (if readable n then strange_label (seen_in (i n 0)) else None)) (no_strange readable i n (λ u lt. labels u (omega (arith, lt))))
    ∙ none_either (readable n) (strange_label (seen_in (i n 0))) (no_version (seen_in (i n 0)) (labels n (omega arith)))

-- ---- missing disks

first_none : {A : Type 0} (o p : Option A) → first_of o p ≡ None → (o ≡ None) × (p ≡ None)
first_none None p is = (refl, is)
first_none (Some x) p is = absurd cc

wanted : (f r : Bool) (n : ℕ) → (if f || r then None else Some n) ≡ None → f ≡ false → r ≡ true
wanted true r n is no_fail = absurd cc
wanted false true n is no_fail = refl
wanted false false n is no_fail = absurd cc

-- where no disk is missing, each that is held as good can be read
pub none_missing : (failed readable : ℕ → Bool) (n : ℕ) → missing failed readable n ≡ None → (d : ℕ) → d < n → failed d ≡ false → readable d ≡ true
none_missing failed readable zero none d lt good = absurd (omega (arith, lt))
none_missing failed readable (suc n) none d lt good =
    let parts = first_none (missing failed readable n) (if failed n || readable n then None else Some n) none in
    elim (cases_lt d n) [
      | inl below ↦ none_missing failed readable n parts.0 d below good
      | inr last ↦
          let same : n ≡ d = omega (arith, lt, last) in
          subst (λ (k : ℕ). readable k ≡ true) same (wanted (failed n) (readable n) n parts.1 (subst (λ (k : ℕ). failed k ≡ false) (sym same) good))
    ]

module _ {C : Type 0} (failed : C → ℕ → Bool) where
  -- what is settled is this configuration, or misses a disk
  pub settle_gives : (units : ℕ) (readable : ℕ → Bool) (c : C) → GivesConfig c (settle failed units readable c)
  settle_gives units readable c = by_missing (missing (failed c) readable units)
    where
      by_missing : (o : Option ℕ) → GivesConfig c (or_missing c o)
      by_missing None = refl
      by_missing (Some d) = tt

  -- a configuration one of whose disks cannot be read is not found
  pub settle_misses : (units : ℕ) (readable : ℕ → Bool) (c f : C) (g : ℕ) → g < units → failed c g ≡ false → readable g ≡ false → GivesConfig f (settle failed units readable c)
  settle_misses units readable c f g lt good out = by_missing (missing (failed c) readable units) refl
    where
      by_missing : (o : Option ℕ) → missing (failed c) readable units ≡ o → GivesConfig f (or_missing c o)
      by_missing (Some d) is = tt
      by_missing None is = let there : false ≡ true = sym out ∙ none_missing (failed c) readable units is g lt good in absurd cc

  -- and so does what was committed before
  pub old_misses : (held : Option C) (f : C) (readable : ℕ → Bool) (g : ℕ) → IsGood failed held g → readable g ≡ false → (o : ImportOutcome C) → Answers held o
      → ((c : C) → o ≡ Found c → failed c g ≡ false → readable g ≡ true) → GivesConfig f o
  old_misses None f readable g was out o answers wants = subst (GivesConfig f) (sym answers) tt
  old_misses (Some c) f readable g was out (Found x) answers wants =
      let there : false ≡ true = sym out ∙ wants x refl (subst (λ (k : C). failed k g ≡ false) (sym answers) was) in absurd cc
  old_misses (Some c) f readable g was out (Missing d) answers wants = tt
  old_misses (Some c) f readable g was out NoConfig answers wants = tt
  old_misses (Some c) f readable g was out (Damaged d b s t) answers wants = absurd answers
  old_misses (Some c) f readable g was out (Format v) answers wants = absurd answers

  -- what is found wants each disk that it holds as good
  module _ (reads : ℕ → List ℕ → Option C) where
    body_wants : (units : ℕ) (readable : ℕ → Bool) (disk area : ℕ) (b : Body C) (g : ℕ) → g < units → (c : C) → by_body failed units readable disk area b ≡ Found c → failed c g ≡ false → readable g ≡ true
    body_wants units readable disk area (Differs s t) g lt c is good = absurd cc
    body_wants units readable disk area (Holds x) g lt c is good = by_missing (missing (failed x) readable units) refl is
      where
        by_missing : (o : Option ℕ) → missing (failed x) readable units ≡ o → or_missing x o ≡ Found c → readable g ≡ true
        by_missing (Some d) miss found = absurd cc
        by_missing None miss found = let same : x ≡ c = cc in none_missing (failed x) readable units miss g lt (subst (λ (k : C). failed k g ≡ false) (sym same) good)

    newest_wants : (units : ℕ) (readable : ℕ → Bool) (o : Option (ℕ × Copy C)) (g : ℕ) → g < units → (c : C) → by_newest failed units readable o ≡ Found c → failed c g ≡ false → readable g ≡ true
    newest_wants units readable None g lt c is good = absurd cc
    newest_wants units readable (Some x) g lt c is good = body_wants units readable x.0 x.1.area x.1.body g lt c is good

    labels_want : (units : ℕ) (readable : ℕ → Bool) (v : Option ℕ) (o : Option (ℕ × Copy C)) (g : ℕ) → g < units → (c : C) → by_labels v (by_newest failed units readable o) ≡ Found c → failed c g ≡ false → readable g ≡ true
    labels_want units readable None o g lt c is good = newest_wants units readable o g lt c is good
    labels_want units readable (Some v) o g lt c is good = absurd cc

  pub found_wants : (reads : ℕ → List ℕ → Option C) (units : ℕ) (readable : ℕ → Bool) (i : Image) (g : ℕ) → g < units → (c : C) → import_of reads failed units readable i ≡ Found c → failed c g ≡ false → readable g ≡ true
  unfolding import_of
  found_wants reads units readable i g lt c is good = labels_want reads units readable (strange readable i units) (newest_found reads readable i units) g lt c is good

  module _ (reads : ℕ → List ℕ → Option C) (serial : ℕ) (f : C) (units : ℕ) (i : Image) (readable : ℕ → Bool) (labels : (u : ℕ) → u < units → is_label (seen_in (i u 0)) ≡ true) (written : CopyWritten reads failed serial f units i) where
    -- the greatest copy is the new one, or each disk so far that can be read is held as failed
    abbrev Top : ℕ → Type 0
    Top n =
        ((u : ℕ) × (area : ℕ) × (newest_found reads readable i n ≡ Some (u, record { serial = serial; area = area; body = Holds f })))
        ⊎ (Below serial (newest_found reads readable i n) × ((u : ℕ) → u < n → readable u ≡ true → failed f u ≡ true))

    abbrev Put : Bool → ℕ → Option (ℕ × Copy C)
    Put t n = if t && is_label (seen_in (i n 0)) then on_disk n (copy_of reads (i n)) else None

    older_copy : (n : ℕ) → n < units → failed f n ≡ true → (o : Option (Copy C)) → copy_of reads (i n) ≡ o → BelowCopy serial o
    older_copy n lt fails None is = tt
    older_copy n lt fails (Some x) is = written.older n x lt fails is

    put_all : (n : ℕ) → n < units → Put true n ≡ on_disk n (copy_of reads (i n))
    put_all n lt = rw (labels n lt) refl

    longer : (n : ℕ) → ((u : ℕ) → u < n → readable u ≡ true → failed f u ≡ true) → (readable n ≡ true → failed f n ≡ true) → (u : ℕ) → u < suc n → readable u ≡ true → failed f u ≡ true
    longer n before here u lt reads_it = elim (cases_lt u n) [
      | inl below ↦ before u below reads_it
      | inr last ↦ let same : n ≡ u = omega (arith, lt, last) in subst (λ (k : ℕ). failed f k ≡ true) same (here (subst (λ (k : ℕ). readable k ≡ true) (sym same) reads_it))
    ]

    skipped : (n : ℕ) → readable n ≡ false → Top n → (((u : ℕ) × (area : ℕ) × (later (newest_found reads readable i n) (Put (readable n) n) ≡ Some (u, record { serial = serial; area = area; body = Holds f })))
        ⊎ (Below serial (later (newest_found reads readable i n) (Put (readable n) n)) × ((u : ℕ) → u < suc n → readable u ≡ true → failed f u ≡ true)))
    skipped n out top =
        let none : later (newest_found reads readable i n) (Put (readable n) n) ≡ newest_found reads readable i n = ap (λ (t : Bool). later (newest_found reads readable i n) (Put t n)) out ∙ later_none (newest_found reads readable i n) in
        elim top [
          | inl new ↦ inl (new.0, new.1, none ∙ new.2)
          | inr old ↦ inr (subst (Below serial) (sym none) old.0, longer n old.1 (λ is. let clash : false ≡ true = sym out ∙ is in absurd cc))
        ]

    taken : (n : ℕ) → n < units → readable n ≡ true → (b : Bool) → failed f n ≡ b → Top n → (((u : ℕ) × (area : ℕ) × (later (newest_found reads readable i n) (Put (readable n) n) ≡ Some (u, record { serial = serial; area = area; body = Holds f })))
        ⊎ (Below serial (later (newest_found reads readable i n) (Put (readable n) n)) × ((u : ℕ) → u < suc n → readable u ≡ true → failed f u ≡ true)))
    taken n lt in_it true fails top =
        let put : Put (readable n) n ≡ on_disk n (copy_of reads (i n)) = ap (λ (t : Bool). Put t n) in_it ∙ put_all n lt in
        let below : Below serial (on_disk n (copy_of reads (i n))) = below_on serial n (copy_of reads (i n)) (older_copy n lt fails (copy_of reads (i n)) refl) in
        elim top [
          | inl new ↦ inl (
            new.0,
            new.1,
            ap (λ (o : Option (ℕ × Copy C)). later o (Put (readable n) n)) new.2 ∙ ap (λ (o : Option (ℕ × Copy C)). later (Some (new.0, record { serial = serial; area = new.1; body = Holds f })) o) put
                ∙ later_keeps serial (new.0, record { serial = serial; area = new.1; body = Holds f }) (on_disk n (copy_of reads (i n))) (omega arith) below,
          )
          | inr old ↦ inr (
            subst (λ (o : Option (ℕ × Copy C)). Below serial (later (newest_found reads readable i n) o)) (sym put) (below_later serial (newest_found reads readable i n) (on_disk n (copy_of reads (i n))) old.0 below),
            longer n old.1 (λ is. fails),
          )
        ]
    taken n lt in_it false good top =
        let copy = written.new n lt good in
        let x : ℕ × Copy C = (n, record { serial = serial; area = copy.0; body = Holds f }) in
        let put : Put (readable n) n ≡ Some x = ap (λ (t : Bool). Put t n) in_it ∙ put_all n lt ∙ ap (λ (o : Option (Copy C)). on_disk n o) copy.1 in
        elim top [
          | inl new ↦
              let y : ℕ × Copy C = (new.0, record { serial = serial; area = new.1; body = Holds f }) in
              let is : later (newest_found reads readable i n) (Put (readable n) n) ≡ later (Some y) (Some x) = ap (λ (o : Option (ℕ × Copy C)). later o (Put (readable n) n)) new.2 ∙ ap (λ (o : Option (ℕ × Copy C)). later (Some y) o) put in
              elim (later_either y x) [
                | inl first ↦ inl (new.0, new.1, is ∙ first)
                | inr second ↦ inl (n, copy.0, is ∙ second)
              ]
          | inr old ↦ inl (n, copy.0, ap (λ (o : Option (ℕ × Copy C)). later (newest_found reads readable i n) o) put ∙ later_takes serial (newest_found reads readable i n) x (omega arith) old.0)
        ]

    one_more : (n : ℕ) → suc n ≤ units → Top n → (b : Bool) → readable n ≡ b → Top (suc n)
    one_more n le top true in_it = taken n (omega (arith, le)) in_it (failed f n) refl top
    one_more n le top false out = skipped n out top

    tops : (n : ℕ) → n ≤ units → Top n
    tops zero le = inr (tt, λ u lt. absurd (omega (arith, lt)))
    tops (suc n) le = one_more n le (tops n (omega (arith, le))) (readable n) refl

    no_labels : strange readable i units ≡ None
    no_labels = no_strange readable i units labels

    abbrev out : ImportOutcome C
    out = import_of reads failed units readable i

    -- an import that can read the disk g, which has the new configuration, finds it, unless one of its disks is missing
    pub front_settles : (g : ℕ) → g < units → failed f g ≡ false → readable g ≡ true → out ≡ settle failed units readable f
    front_settles g lt good in_it = elim (tops units (omega arith)) [
      | inl new ↦ import_new reads failed (λ s c. ⊥) serial (λ m c no. absurd no) units readable i new.0 (record { serial = serial; area = new.1; body = Holds f }) f no_labels new.2 refl
      | inr old ↦ let clash : false ≡ true = sym good ∙ old.1 g lt in_it in absurd cc
    ]

    -- and what others find is no other one, unless they are refused for a torn disk
    pub commit_gives : (held : Option C) (begun : ℕ → C → Type 0) (disks : ℕ → Type 0) (leaves : Values) (g : ℕ) → g < units → failed f g ≡ false → IsGood failed held g → Committed reads failed units held leaves
        → ((s : ℕ) (c : C) → begun s c → failed c g ≡ false)
        → FindsOld reads failed units leaves readable i ⊎ FindsNew reads failed begun units readable i ⊎ Spoilt reads failed disks units leaves readable i
        → GivesConfig f out ⊎ Spoilt reads failed disks units leaves readable i
    commit_gives held begun disks leaves g lt good was_good committed grows finds = by_read (readable g) refl
      where
        by_read : (b : Bool) → readable g ≡ b → GivesConfig f out ⊎ Spoilt reads failed disks units leaves readable i
        by_read true in_it = inl (subst (GivesConfig f) (sym (front_settles g lt good in_it)) (settle_gives units readable f))
        by_read false not_read = elim finds [
          | inl old ↦ inl (subst (GivesConfig f) (sym old.same) (old_misses held f readable g was_good not_read (import_of reads failed units readable old.image) (committed.each old.image readable old.left) (found_wants reads units readable old.image g lt)))
          | inr (inl new) ↦ inl (subst (GivesConfig f) (sym new.found) (settle_misses units readable new.config f g lt (grows new.serial new.config new.made) not_read))
          | inr (inr refused) ↦ inr refused
        ]
