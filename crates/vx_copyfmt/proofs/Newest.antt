-- What an import finds in an image of which each disk is as one of before, or has a copy that was made since.
use Rattle.std.proofs.Common.{◌≡◌, ◌⊎◌, inl, inr, ℕ, zero, suc, ◌<◌, ◌≤◌, Bool, true, false, Option, Some, None, List, refl, ap, sym, subst, ◌∙◌, arith}
use Rattle.std.specs.Prelude.{nat_lt, ◌&&◌, if◌then◌else◌}
use Rattle.std.proofs.lemmas.Bool.{cases_lt, lt-ltb, le-ltb}
use Rattle.vx_disk.specs.Shelf.{Image, Values, Each}
use Rattle.vx_copyfmt.specs.Labels.{seen_in}
use Rattle.vx_copyfmt.specs.Copies.{Disk, Copy, Body, Holds, copy_of}
use Rattle.vx_copyfmt.specs.Imports.{is_label, strange_label, first_of, later, on_disk, strange, settle, by_body, by_newest, by_labels, newest_found, import_of}
use Rattle.vx_copyfmt.specs.Commits.{Slots, Among, FromOld, FromNew, FindsOld, FindsNew, Older}

-- ---- labels

pub strange_same : (readable : ℕ → Bool) (i j : Image) (n : ℕ) → ((u : ℕ) → u < n → seen_in (i u 0) ≡ seen_in (j u 0)) → strange readable i n ≡ strange readable j n
strange_same readable i j zero same = refl
strange_same readable i j (suc n) same =
    ap (λ (o : Option ℕ). first_of o (if readable n then strange_label (seen_in (i n 0)) else None)) (strange_same readable i j n (λ u lt. same u (omega (arith, lt))))
    ∙ ap (λ l. first_of (strange readable j n) (if readable n then strange_label l else None)) (same n (omega arith))

-- ---- the greatest copy

abbrev pub Below : {C : Type 0} → ℕ → Option (ℕ × Copy C) → Type 0
Below s None = Unit {0}
Below s (Some x) = x.1.serial < s

abbrev pub BelowCopy : {C : Type 0} → ℕ → Option (Copy C) → Type 0
BelowCopy s None = Unit {0}
BelowCopy s (Some x) = x.serial < s

module _ {C : Type 0} where
  pub later_none : (o : Option (ℕ × Copy C)) → later o None ≡ o
  later_none None = refl
  later_none (Some x) = refl

  pub below_on : (s u : ℕ) (o : Option (Copy C)) → BelowCopy s o → Below s (on_disk u o)
  below_on s u None below = tt
  below_on s u (Some x) below = below

  pub below_later : (s : ℕ) (o p : Option (ℕ × Copy C)) → Below s o → Below s p → Below s (later o p)
  below_later s None p one two = two
  below_later s (Some x) None one two = one
  below_later s (Some x) (Some y) one two = by_test (nat_lt x.1.serial y.1.serial)
    where
      by_test : (b : Bool) → Below s (if b then Some y else Some x)
      by_test true = two
      by_test false = one

  -- a greater one stays
  pub later_keeps : (s : ℕ) (x : ℕ × Copy C) (o : Option (ℕ × Copy C)) → s ≤ x.1.serial → Below s o → later (Some x) o ≡ Some x
  later_keeps s x None le below = refl
  later_keeps s x (Some y) le below = rw (le-ltb x.1.serial y.1.serial (omega (arith, le, below))) refl

  pub later_takes : (s : ℕ) (o : Option (ℕ × Copy C)) (y : ℕ × Copy C) → s ≤ y.1.serial → Below s o → later o (Some y) ≡ Some y
  later_takes s None y le below = refl
  later_takes s (Some x) y le below = rw (lt-ltb x.1.serial y.1.serial (omega (arith, le, below))) refl

  pub later_either : (x y : ℕ × Copy C) → (later (Some x) (Some y) ≡ Some x) ⊎ (later (Some x) (Some y) ≡ Some y)
  later_either x y = by_test (nat_lt x.1.serial y.1.serial) refl
    where
      by_test : (b : Bool) → nat_lt x.1.serial y.1.serial ≡ b → (later (Some x) (Some y) ≡ Some x) ⊎ (later (Some x) (Some y) ≡ Some y)
      by_test true e = inr (rw e refl)
      by_test false e = inl (rw e refl)

-- ---- what is found hangs on the labels and the greatest copy

module _ {C : Type 0} (reads : ℕ → List ℕ → Option C) (failed : C → ℕ → Bool) where
  pub same_import : (units : ℕ) (readable : ℕ → Bool) (i j : Image) → strange readable i units ≡ strange readable j units → newest_found reads readable i units ≡ newest_found reads readable j units
      → import_of reads failed units readable i ≡ import_of reads failed units readable j
  unfolding import_of
  same_import units readable i j labels tops =
      ap (λ (o : Option ℕ). by_labels o (by_newest failed units readable (newest_found reads readable i units))) labels
      ∙ ap (λ (o : Option (ℕ × Copy C)). by_labels (strange readable j units) (by_newest failed units readable o)) tops

  pub same_format : (units : ℕ) (readable : ℕ → Bool) (i j : Image) (v : ℕ) → strange readable i units ≡ Some v → strange readable j units ≡ Some v
      → import_of reads failed units readable i ≡ import_of reads failed units readable j
  unfolding import_of
  same_format units readable i j v one two =
      ap (λ (o : Option ℕ). by_labels o (by_newest failed units readable (newest_found reads readable i units))) one
      ∙ sym (ap (λ (o : Option ℕ). by_labels o (by_newest failed units readable (newest_found reads readable j units))) two)

-- ---- copies that were made since

-- a copy that was made since
pub record IsMade {C : Type 0} (begun : ℕ → C → Type 0) (x : Copy C) : Type 0 where
  pub serial : ℕ
  pub config : C
  pub area : ℕ
  pub made : begun serial config
  pub is : x ≡ record { serial = serial; area = area; body = Holds config }

-- one disk beside one of before
pub record Alike {C : Type 0} (reads : ℕ → List ℕ → Option C) (begun : ℕ → C → Type 0) (slots : Slots) (d e : Disk) : Type 0 where
  pub among : Among slots e
  pub label : seen_in (d 0) ≡ seen_in (e 0)
  pub copies : (copy_of reads d ≡ copy_of reads e) ⊎ ((x : Copy C) × IsMade begun x × (copy_of reads d ≡ Some x))

module _ {C : Type 0} (reads : ℕ → List ℕ → Option C) (failed : C → ℕ → Bool) (begun : ℕ → C → Type 0) (s : ℕ) (late : (m : ℕ) (c : C) → begun m c → s ≤ m) where
  -- the greatest copy is that of before, or one that was made since
  abbrev Tops : (ℕ → Bool) → Image → Image → ℕ → Type 0
  Tops readable i j n =
      ((newest_found reads readable i n ≡ newest_found reads readable j n) × Below s (newest_found reads readable i n))
      ⊎ ((u : ℕ) × (x : Copy C) × IsMade begun x × (newest_found reads readable i n ≡ Some (u, x)))

  made_serial : (x : Copy C) → IsMade begun x → s ≤ x.serial
  made_serial x is = let le : s ≤ is.serial = late is.serial is.config is.made in let same : x.serial ≡ is.serial = ap (λ (y : Copy C). y.serial) is.is in omega (arith, le, same)

  abbrev Put : Bool → ℕ → Option (Copy C) → Option (ℕ × Copy C)
  Put t n o = if t then on_disk n o else None

  -- one disk more
  more : (n : ℕ) (a b : Option (ℕ × Copy C)) (t : Bool) (o p : Option (Copy C))
      → ((a ≡ b) × Below s a) ⊎ ((u : ℕ) × (x : Copy C) × IsMade begun x × (a ≡ Some (u, x)))
      → ((o ≡ p) × BelowCopy s o) ⊎ ((x : Copy C) × IsMade begun x × (o ≡ Some x))
      → ((later a (Put t n o) ≡ later b (Put t n p)) × Below s (later a (Put t n o))) ⊎ ((u : ℕ) × (x : Copy C) × IsMade begun x × (later a (Put t n o) ≡ Some (u, x)))
  more n a b false o p (inl old) disk = inl ((later_none a ∙ old.0 ∙ sym (later_none b)), subst (Below s) (sym (later_none a)) old.1)
  more n a b false o p (inr made) disk = inr (made.0, made.1, made.2, (later_none a ∙ made.3))
  more n a b true o p (inl old) (inl same) =
      inl ((ap (λ (q : Option (ℕ × Copy C)). later q (on_disk n o)) old.0 ∙ ap (λ (q : Option (Copy C)). later b (on_disk n q)) same.0), below_later s a (on_disk n o) old.1 (below_on s n o same.1))
  more n a b true o p (inl old) (inr new) =
      inr (n, new.0, new.1, (ap (λ (q : Option (Copy C)). later a (on_disk n q)) new.2 ∙ later_takes s a (n, new.0) (made_serial new.0 new.1) old.1))
  more n a b true o p (inr made) (inl same) =
      inr (made.0, made.1, made.2, (ap (λ (q : Option (ℕ × Copy C)). later q (on_disk n o)) made.3 ∙ later_keeps s (made.0, made.1) (on_disk n o) (made_serial made.1 made.2) (below_on s n o same.1)))
  more n a b true o p (inr made) (inr new) =
      let x : ℕ × Copy C = (made.0, made.1) in
      let y : ℕ × Copy C = (n, new.0) in
      let is : later a (on_disk n o) ≡ later (Some x) (Some y) = ap (λ (q : Option (ℕ × Copy C)). later q (on_disk n o)) made.3 ∙ ap (λ (q : Option (Copy C)). later (Some x) (on_disk n q)) new.2 in
      elim (later_either x y) [
        | inl first ↦ inr (made.0, made.1, made.2, is ∙ first)
        | inr second ↦ inr (n, new.0, new.1, is ∙ second)
      ]

  tops : (readable : ℕ → Bool) (leaves : Values) (i j : Image) (n : ℕ) → ((u : ℕ) → u < n → Older reads s (leaves u)) → ((u : ℕ) → u < n → Alike reads begun (leaves u) (i u) (j u)) → Tops readable i j n
  tops readable leaves i j zero older alike = inl (refl, tt)
  tops readable leaves i j (suc n) older alike =
      let here = alike n (omega arith) in
      let before : Tops readable i j n = tops readable leaves i j n (λ u lt. older u (omega (arith, lt))) (λ u lt. alike u (omega (arith, lt))) in
      let step = more n (newest_found reads readable i n) (newest_found reads readable j n) (readable n && is_label (seen_in (i n 0))) (copy_of reads (i n)) (copy_of reads (j n)) before
      (elim here.copies [
        | inl same ↦ inl (same, below_old (copy_of reads (i n)) refl (copy_of reads (j n)) same (older n (omega arith)) here.among)
        | inr new ↦ inr new
      ]) in
      subst
      (λ t. ((later (newest_found reads readable i n) (Put (readable n && is_label (seen_in (i n 0))) n (copy_of reads (i n))) ≡ later (newest_found reads readable j n) (Put (readable n && is_label t) n (copy_of reads (j n))))
      × Below s (later (newest_found reads readable i n) (Put (readable n && is_label (seen_in (i n 0))) n (copy_of reads (i n)))))
      ⊎ ((u : ℕ) × (x : Copy C) × IsMade begun x × (later (newest_found reads readable i n) (Put (readable n && is_label (seen_in (i n 0))) n (copy_of reads (i n))) ≡ Some (u, x))))
      here.label step
    where
      below_old : (o : Option (Copy C)) → copy_of reads (i n) ≡ o → (p : Option (Copy C)) → o ≡ copy_of reads (j n) → Older reads s (leaves n) → Among (leaves n) (j n) → BelowCopy s o
      below_old None is p same old among = tt
      below_old (Some x) is p same old among = old.below (j n) x among (sym same)

  -- what is found follows
  pub import_new : (units : ℕ) (readable : ℕ → Bool) (i : Image) (u : ℕ) (x : Copy C) (c : C) → strange readable i units ≡ None → newest_found reads readable i units ≡ Some (u, x) → x.body ≡ Holds c
      → import_of reads failed units readable i ≡ settle failed units readable c
  unfolding import_of
  import_new units readable i u x c labels top body =
      ap (λ (o : Option ℕ). by_labels o (by_newest failed units readable (newest_found reads readable i units))) labels
      ∙ ap (λ (o : Option (ℕ × Copy C)). by_newest failed units readable o) top
      ∙ ap (λ (b : Body C). by_body failed units readable u x.area b) body

  -- ---- the image of before

  abbrev relabelled : List ℕ → Disk → Disk
  relabelled first base zero = first
  relabelled first base (suc b) = base (suc b)

  relabelled_among : (slots : Slots) (first : List ℕ) (base : Disk) → slots 0 first → Among slots base → Among slots (relabelled first base)
  relabelled_among slots first base here among zero = here
  relabelled_among slots first base here among (suc b) = among (suc b)

  abbrev chosen : (slots : Slots) (d base : Disk) → FromOld reads slots d ⊎ FromNew reads begun slots d → Disk
  chosen slots d base (inl old) = old.disk
  chosen slots d base (inr new) = relabelled new.first base

  chosen_alike : (slots : Slots) (d base : Disk) → Among slots base → (from : FromOld reads slots d ⊎ FromNew reads begun slots d) → Alike reads begun slots d (chosen slots d base from)
  chosen_alike slots d base among (inl old) = record { among = old.among; label = old.label; copies = inl old.copy }
  chosen_alike slots d base among (inr new) = record {
    among = relabelled_among slots new.first base new.there among;
    label = new.label;
    copies = inr (record { serial = new.serial; area = new.area; body = Holds new.config }, record { serial = new.serial; config = new.config; area = new.area; made = new.made; is = refl }, new.copy);
  }

  module _ (units : ℕ) (leaves : Values) (i base : Image) (amid : (u : ℕ) → u < units → FromOld reads (leaves u) (i u) ⊎ FromNew reads begun (leaves u) (i u)) (has : Each leaves base) (outside : (u b : ℕ) → units ≤ u → leaves u b (i u b)) where
    abbrev at_disk : (u : ℕ) → (u < units) ⊎ (units ≤ u) → Disk
    at_disk u (inl lt) = chosen (leaves u) (i u) (base u) (amid u lt)
    at_disk u (inr le) = i u

    at_among : (u : ℕ) (c : (u < units) ⊎ (units ≤ u)) → Among (leaves u) (at_disk u c)
    at_among u (inl lt) = (chosen_alike (leaves u) (i u) (base u) (has u) (amid u lt)).among
    at_among u (inr le) = λ b. outside u b le

    at_alike : (u : ℕ) (c : (u < units) ⊎ (units ≤ u)) → u < units → Alike reads begun (leaves u) (i u) (at_disk u c)
    at_alike u (inl lt) below = chosen_alike (leaves u) (i u) (base u) (has u) (amid u lt)
    at_alike u (inr le) below = absurd (omega (arith, le, below))

    abbrev before : Image
    before u = at_disk u (cases_lt u units)

    -- an import finds what it might have found before, or what was made since
    pub amid_gives : ((u : ℕ) → u < units → Older reads s (leaves u)) → (readable : ℕ → Bool)
        → FindsOld reads failed units leaves readable i ⊎ FindsNew reads failed begun units readable i
    amid_gives older readable = by_version (strange readable i units) refl
      where
        alike : (u : ℕ) → u < units → Alike reads begun (leaves u) (i u) (before u)
        alike u lt = at_alike u (cases_lt u units) lt

        labels : strange readable i units ≡ strange readable before units
        labels = strange_same readable i before units (λ u lt. (alike u lt).label)

        left : Each leaves before
        left u = at_among u (cases_lt u units)

        by_version : (o : Option ℕ) → strange readable i units ≡ o → FindsOld reads failed units leaves readable i ⊎ FindsNew reads failed begun units readable i
        by_version (Some v) is = inl (record { image = before; left = left; same = same_format reads failed units readable i before v is (sym labels ∙ is) })
        by_version None is = elim (tops readable leaves i before units older alike) [
          | inl old ↦ inl (record { image = before; left = left; same = same_import reads failed units readable i before labels old.0 })
          | inr new ↦ inr (record {
            serial = new.2.serial;
            config = new.2.config;
            made = new.2.made;
            found = import_new units readable i new.0 new.1 new.2.config is new.3 (ap (λ (x : Copy C). x.body) new.2.is);
          })
        ]
