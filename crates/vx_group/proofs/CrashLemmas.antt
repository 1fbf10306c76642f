-- What a crash or a deport leaves of a group may be imported, where all choices of the disks that can be read agree.
use Rattle.std.proofs.Common.{◌≡◌, ◌⊎◌, inl, inr, ℕ, zero, suc, ◌<◌, ◌≤◌, Bool, true, false, Option, Some, None, List, refl, ap, sym, ◌∙◌, subst, arith}
use Rattle.std.specs.Prelude.{◌&&◌, ◌==◌, bytes_eq, nat_lt, if◌then◌else◌}
use Rattle.std.proofs.lemmas.Bool.{cases_lt, eqb-true, false_from_ne_true, lt-ltb, ltb-true}
use Rattle.vx_wire.specs.Seals.{digest_of}
use Rattle.vx_disk.specs.Shelf.{Each, Image, Meaning}
use Rattle.vx_copyfmt.specs.Areas.{header_of}
use Rattle.vx_copyfmt.specs.Copies.{Body, Copy, Differs, Disk, Holds, area_a, area_b, body_of, copy_at, copy_of, copy_under, greater, holding, judged}
use Rattle.vx_copyfmt.specs.Commits.{Counts, IsHeaderBlock, IsTop, target_of}
use Rattle.vx_copyfmt.specs.Imports.{Damaged, Format, Found, Missing, NoConfig, ImportOutcome, by_body, by_labels, by_newest, first_of, import_of, is_label, later, missing, newest_found, on_disk, or_missing, strange, strange_label}
use Rattle.vx_copyfmt.specs.Labels.{seen_in}
use Rattle.vx_copyfmt.specs.declared.area.AreaHeader.{AreaHeader}
use Rattle.vx_copyfmt.proofs.Areas.{serial_under, top_copy}
use Rattle.vx_copyfmt.proofs.Subs.{counts_sub}
use Rattle.vx_copyfmt.proofs.Targets.{top_greatest}
use Rattle.vx_config.specs.declared.config.Config.{Config}
use Rattle.vx_copies.specs.Answers.{good_set}
use Rattle.vx_copies.specs.Bodies.{failed_in, of_serial, reads_in}
use Rattle.vx_copies.specs.Commits.{HeldGood, IsNone, Silent}
use Rattle.vx_copies.specs.Looking.{on_shelf}
use Rattle.vx_copies.specs.Marks.{failed_at}
use Rattle.vx_copies.proofs.OneTry.{shelf_same}
use Rattle.vx_kept.specs.Cleans.{at_serial}
use Rattle.vx_kept.specs.Commits.{Member}
use Rattle.vx_kept.specs.Groups.{found, found_by}
use Rattle.vx_kept.specs.Keeping.{Base, Kept}
use Rattle.vx_kept.specs.Trusts.{Trusts, is_plain}
use Rattle.vx_kept.proofs.Chosen.{settle_found}
use Rattle.vx_kept.proofs.Facts.{from_fact}
use Rattle.vx_kept.proofs.Low.{found_same, import_low}
use Rattle.vx_group.specs.Deports.{DeportedBy}
use Rattle.vx_group.specs.Resumes.{AtRest, CanImport}
use Rattle.vx_group.specs.Stands.{InnerStands}
use Rattle.vx_group.proofs.FoundLemmas.{later_is}
use Rattle.vx_group.proofs.Standing.{kept_of}
use Rattle.vx_group.specs.declared.inner.Inner.{Inner}

-- ---- each disk with a header has a greater one

record Top (d : Disk) : Type 0 where
  area : ℕ
  header : AreaHeader
  is : IsHeaderBlock area
  top : IsTop d area header

in_b : (d : Disk) (y : AreaHeader) → header_of (d area_b) ≡ Some y → target_of (header_of (d area_a)) (header_of (d area_b)) ≡ area_a → Top d
in_b d y is target = record { area = area_b; header = y; is = inr refl; top = record { head = is; kept = λ same. let clash : 1 ≡ 129 = sym target ∙ same in omega (arith, clash) } }

in_a : (d : Disk) (x : AreaHeader) → header_of (d area_a) ≡ Some x → target_of (header_of (d area_a)) (header_of (d area_b)) ≡ area_b → Top d
in_a d x is target = record { area = area_a; header = x; is = inl refl; top = record { head = is; kept = λ same. let clash : 129 ≡ 1 = sym target ∙ same in omega (arith, clash) } }

has_top : (d : Disk) (p q : Option AreaHeader) → header_of (d area_a) ≡ p → header_of (d area_b) ≡ q → (a : ℕ) (h : AreaHeader) → IsHeaderBlock a → header_of (d a) ≡ Some h → Top d
has_top d None None at_a at_b a h (inl is) head = absurd (let it : None ≡ Some h = sym at_a ∙ subst (λ (k : ℕ). header_of (d k) ≡ Some h) is head in cc)
has_top d None None at_a at_b a h (inr is) head = absurd (let it : None ≡ Some h = sym at_b ∙ subst (λ (k : ℕ). header_of (d k) ≡ Some h) is head in cc)
has_top d None (Some y) at_a at_b a h is head = in_b d y at_b (rw at_a refl)
has_top d (Some x) None at_a at_b a h is head = in_a d x at_a (rw at_a (rw at_b refl))
has_top d (Some x) (Some y) at_a at_b a h is head = by (nat_lt x.serial y.serial) refl
  where
    by : (b : Bool) → nat_lt x.serial y.serial ≡ b → Top d
    by true lt = in_b d y at_b (rw at_a (rw at_b (rw lt refl)))
    by false le = in_a d x at_a (rw at_a (rw at_b (rw le refl)))

-- ---- the newest copy is the greatest

later_most : {C : Type 0} (o p : Option (ℕ × Copy C)) (y : ℕ × Copy C) → (o ≡ Some y) ⊎ (p ≡ Some y) → (z : ℕ × Copy C) × (later o p ≡ Some z) × (y.1.serial ≤ z.1.serial)
later_most None None y (inl is) = absurd cc
later_most None None y (inr is) = absurd cc
later_most None (Some q) y (inl is) = absurd cc
later_most None (Some q) y (inr is) = let same : q ≡ y = cc in (q, refl, rw same (omega arith))
later_most (Some x) None y (inl is) = let same : x ≡ y = cc in (x, refl, rw same (omega arith))
later_most (Some x) None y (inr is) = absurd cc
later_most {C} (Some x) (Some q) y which = elim (cases_lt x.1.serial q.1.serial) [
  | inl lt ↦ (q, ap (λ (b : Bool). if b then Some q else Some x) (lt-ltb x.1.serial q.1.serial lt), most_q lt which)
  | inr le ↦ (x, ap (λ (b : Bool). if b then Some q else Some x) (false_from_ne_true (nat_lt x.1.serial q.1.serial) (λ is. let lt : x.1.serial < q.1.serial = ltb-true x.1.serial q.1.serial is in omega (arith, le, lt))), most_x le which)
]
  where
    most_q : x.1.serial < q.1.serial → (Some x ≡ Some y) ⊎ (Some q ≡ Some y) → y.1.serial ≤ q.1.serial
    most_q lt (inl is) = let same : x ≡ y = cc in let s : x.1.serial ≡ y.1.serial = ap (λ (k : ℕ × Copy C). k.1.serial) same in omega (arith, lt, s)
    most_q lt (inr is) = let same : q ≡ y = cc in let s : q.1.serial ≡ y.1.serial = ap (λ (k : ℕ × Copy C). k.1.serial) same in omega (arith, s)

    most_x : q.1.serial ≤ x.1.serial → (Some x ≡ Some y) ⊎ (Some q ≡ Some y) → y.1.serial ≤ x.1.serial
    most_x le (inl is) = let same : x ≡ y = cc in let s : x.1.serial ≡ y.1.serial = ap (λ (k : ℕ × Copy C). k.1.serial) same in omega (arith, s)
    most_x le (inr is) = let same : q ≡ y = cc in let s : q.1.serial ≡ y.1.serial = ap (λ (k : ℕ × Copy C). k.1.serial) same in omega (arith, le, s)

module _ {C : Type 0} (reads : ℕ → List ℕ → Option C) (j : Image) where
  abbrev Put : ℕ → Option (ℕ × Copy C)
  Put n = if true && is_label (seen_in (j n 0)) then on_disk n (copy_of reads (j n)) else None

  newest_most : (units : ℕ) → ((u : ℕ) → u < units → is_label (seen_in (j u 0)) ≡ true) → (n : ℕ) → n ≤ units → (u : ℕ) (y : Copy C) → u < n → copy_of reads (j u) ≡ Some y
      → (z : ℕ × Copy C) × (newest_found reads (λ u. true) j n ≡ Some z) × (y.serial ≤ z.1.serial)
  newest_most units labels zero le u y lt is = absurd (omega (arith, lt))
  newest_most units labels (suc n) le u y lt is = elim (cases_lt u n) [
    | inl below ↦
        let it = newest_most units labels n (omega (arith, le)) u y below is in
        let more = later_most (newest_found reads (λ u. true) j n) (Put n) it.0 (inl it.1) in
        (more.0, more.1, omega (arith, it.2, more.2))
    | inr last ↦
        let same : u ≡ n = omega (arith, lt, last) in
        let here : copy_of reads (j n) ≡ Some y = subst (λ (k : ℕ). copy_of reads (j k) ≡ Some y) same is in
        let put : Put n ≡ Some (n, y) = ap (λ (b : Bool). if b then on_disk n (copy_of reads (j n)) else None) (labels n (omega (arith, le))) ∙ ap (λ (o : Option (Copy C)). on_disk n o) here in
        later_most (newest_found reads (λ u. true) j n) (Put n) (n, y) (inr put)
  ]

  put_is : (n : ℕ) (b : Bool) (o : Option (Copy C)) (z : ℕ × Copy C) → (if b then on_disk n o else None) ≡ Some z → (z.0 ≡ n) × (o ≡ Some z.1)
  put_is n true None z is = absurd cc
  put_is n true (Some y) z is = let same : (n, y) ≡ z = cc in (ap (λ (q : ℕ × Copy C). q.0) (sym same), ap (λ (q : ℕ × Copy C). Some q.1) same)
  put_is n false o z is = absurd cc

  -- and it stands on its disk
  newest_on : (n : ℕ) (z : ℕ × Copy C) → newest_found reads (λ u. true) j n ≡ Some z → copy_of reads (j z.0) ≡ Some z.1
  newest_on zero z is = absurd cc
  newest_on (suc n) z is = elim (later_is (newest_found reads (λ u. true) j n) (Put n) z is) [
    | inl before ↦ newest_on n z before
    | inr here ↦ let it = put_is n (true && is_label (seen_in (j n 0))) (copy_of reads (j n)) z here in subst (λ (k : ℕ). copy_of reads (j k) ≡ Some z.1) (sym it.0) it.1
  ]

-- what is found is the newest
holds_of : (x : Config) (units disk area : ℕ) (b : Body Config) → by_body failed_in units (λ u. true) disk area b ≡ Found x → b ≡ Holds x
holds_of x units disk area (Holds c) is = by (missing (failed_in c) (λ u. true) units) is
  where
    by : (o : Option ℕ) → or_missing c o ≡ Found x → Holds c ≡ Holds x
    by None e = let same : c ≡ x = cc in ap Holds same
    by (Some k) e = absurd cc
holds_of x units disk area (Differs s t) is = absurd cc

found_newest : (reads : ℕ → List ℕ → Option Config) (units : ℕ) (j : Image) (x : Config) (z : ℕ × Copy Config) → newest_found reads (λ u. true) j units ≡ Some z → import_of reads failed_in units (λ u. true) j ≡ Found x → z.1.body ≡ Holds x
unfolding import_of
found_newest reads units j x z is finds = by (strange (λ u. true) j units) (subst (λ (o : Option (ℕ × Copy Config)). by_labels (strange (λ u. true) j units) (by_newest failed_in units (λ u. true) o) ≡ Found x) is finds)
  where
    by : (o : Option ℕ) → by_labels o (by_newest failed_in units (λ u. true) (Some z)) ≡ Found x → z.1.body ≡ Holds x
    by None e = holds_of x units z.0 z.1.area z.1.body e
    by (Some version) e = absurd cc

-- ---- a copy has the serial of its body

holds_one : {C : Type 0} (c x : C) → Holds c ≡ Holds x → c ≡ x
holds_one c x is = cc

serial_of : (s : ℕ) (o : Option Config) (c : Config) → of_serial s o ≡ Some c → c.serial ≡ s
serial_of s None c is = absurd cc
serial_of s (Some k) c is = by (k.serial == s) refl is
  where
    by : (b : Bool) → k.serial == s ≡ b → (if b then Some k else None) ≡ Some c → c.serial ≡ s
    by true at e = let same : k ≡ c = cc in ap (λ (x : Config). x.serial) (sym same) ∙ eqb-true k.serial s at
    by false at e = absurd cc

copy_serial : (m : Meaning) (d : Disk) (area : ℕ) (o : Option AreaHeader) (y : Copy Config) (x : Config) → copy_under (on_shelf m) d area o ≡ Some y → y.body ≡ Holds x → y.serial ≡ x.serial
copy_serial m d area None y x is holds = absurd cc
copy_serial m d area (Some h) y x is holds = by (bytes_eq (digest_of (body_of d area h.length)) h.digest) is
  where
    held : (o : Option Config) → on_shelf m h.serial (body_of d area h.length) ≡ o → holding area h.serial o ≡ Some y → y.serial ≡ x.serial
    held None at e = absurd cc
    held (Some c) at e =
        let same : record { serial = h.serial; area = area; body = Holds c } ≡ y = cc in
        let one : c ≡ x = holds_one c x (ap (λ (k : Copy Config). k.body) same ∙ holds) in
        ap (λ (k : Copy Config). k.serial) (sym same) ∙ sym (serial_of h.serial (reads_in m.units m.size (body_of d area h.length)) c at) ∙ ap (λ (k : Config). k.serial) one

    by : (b : Bool) → judged area h (body_of d area h.length) (on_shelf m h.serial (body_of d area h.length)) b ≡ Some y → y.serial ≡ x.serial
    by true e = held (on_shelf m h.serial (body_of d area h.length)) refl e
    by false e =
        let same : record { serial = h.serial; area = area; body = Differs h.digest (digest_of (body_of d area h.length)) } ≡ y = cc in
        absurd (let clash : Differs h.digest (digest_of (body_of d area h.length)) ≡ Holds x = ap (λ (k : Copy Config). k.body) same ∙ holds in cc)

greater_one : (o p : Option (Copy Config)) (z : Copy Config) → greater o p ≡ Some z → (o ≡ Some z) ⊎ (p ≡ Some z)
greater_one None p z is = inr is
greater_one (Some x) None z is = inl is
greater_one (Some x) (Some y) z is = by (nat_lt x.serial y.serial) is
  where
    by : (b : Bool) → (if b then Some y else Some x) ≡ Some z → (Some x ≡ Some z) ⊎ (Some y ≡ Some z)
    by true e = inr e
    by false e = inl e

own_serial : (m : Meaning) (d : Disk) (y : Copy Config) (x : Config) → copy_of (on_shelf m) d ≡ Some y → y.body ≡ Holds x → y.serial ≡ x.serial
own_serial m d y x is holds = elim (greater_one (copy_at (on_shelf m) d area_a) (copy_at (on_shelf m) d area_b) y is) [
  | inl a ↦ copy_serial m d area_a (header_of (d area_a)) y x a holds
  | inr b ↦ copy_serial m d area_b (header_of (d area_b)) y x b holds
]

-- ---- what a crash leaves

-- m is the shelf before the crash, which left the image i; m' is the shelf behind it
module _ (c : Config) (G : ℕ → Type 0) (m m' : Meaning) (kept : Kept c G m) (units : m'.units ≡ m.units) (size : (u : ℕ) → m'.size u ≡ m.size u) (i : Image) (left : Each m.leaves i)
    (rest : (u b : ℕ) (v : List ℕ) → m'.leaves u b v → v ≡ i u b) where
  label_at : (u : ℕ) → u < m.units → is_label (seen_in (i u 0)) ≡ true
  label_at u lt = kept.labels.each u (i u 0) lt (left u 0)

  bound : (x : Config) → found m i ≡ Found x → (u a : ℕ) (h : AreaHeader) → u < m.units → IsHeaderBlock a → header_of (i u a) ≡ Some h → h.serial ≤ x.serial
  bound x finds u a h lt is head =
      let top = has_top (i u) (header_of (i u area_a)) (header_of (i u area_b)) refl refl a h is head in
      let le : h.serial ≤ top.header.serial = top_greatest (i u) top.area a top.header h top.is is top.top head in
      let copy = kept.counts u lt (i u) top.area top.header top.is (λ b. left u b) top.top in
      let y : Copy Config = copy.0 in
      let y_is : y.serial ≡ top.header.serial = serial_under (on_shelf m) (i u) top.area top.header y top.top.head copy.1 in
      let of : copy_of (on_shelf m) (i u) ≡ Some y = top_copy (on_shelf m) (i u) top.area top.header y top.is top.top copy.1 in
      let most = newest_most (on_shelf m) i m.units label_at m.units (omega arith) u y lt of in
      let z_is : most.0.1.serial ≡ x.serial = own_serial m (i most.0.0) most.0.1 x (newest_on (on_shelf m) i m.units most.0 most.1) (found_newest (on_shelf m) m.units i x most.0 most.1 finds) in
      omega (arith, le, y_is, most.2, z_is)

  same_low : (R : ℕ → Bool) (j : Image) → Each m'.leaves j → found_by m' R j ≡ found_by m R i
  same_low R j each = found_same m m' units size R j ∙ import_low (on_shelf m) j i (λ u b lt. rest u b (j u b) (each u b)) failed_in m.units R

  pub crash_base : (x : Config) → found m i ≡ Found x → Base x m'
  crash_base x finds = record {
    below = record {
      each = λ u lt a v h is at head.
          let le = bound x finds u a h (omega (arith, units, lt)) is (ap header_of (sym (rest u a v at)) ∙ head) in
          omega (arith, le);
    };
    counts = λ u lt.
        subst (λ (r : ℕ → List ℕ → Option Config). Counts r (m'.leaves u)) (shelf_same m m' units size)
        (counts_sub (on_shelf m) (m.leaves u) (m'.leaves u) (λ b v at. subst (m.leaves u b) (sym (rest u b v at)) (left u b)) (kept.counts u (omega (arith, units, lt))));
    labels = record { each = λ u v lt at. ap (λ (w : List ℕ). is_label (seen_in w)) (rest u 0 v at) ∙ label_at u (omega (arith, units, lt)) };
  }

  -- where imports agree
  pub crash_can : (committed : Bool) (good : ℕ) → Trusts committed true good m → CanImport m'
  crash_can committed good trusts = record {
    base = λ j x each is. crash_base x (sym (same_low (λ u. true) j each) ∙ is);
    one = λ j k R x each_j each_k is.
        let sees = kept.sees i left in
        let same : x ≡ sees.config = trusts.agree refl i R sees.config x left sees.found (sym (same_low R j each_j) ∙ is) in
        same_low (λ u. true) k each_k ∙ sees.found ∙ ap (λ (y : Config). Found y) (sym same);
    plain = λ j R x each is. ap is_plain (same_low R j each) ∙ trusts.plain refl i R x left (sym (same_low (λ u. true) j each) ∙ is);
  }

-- ---- what a deport leaves

-- some number below n passes both, or none does
both_or : (a b : ℕ → Bool) (n : ℕ) → ((g : ℕ) × (g < n) × (a g ≡ false) × (b g ≡ true)) ⊎ ((u : ℕ) → u < n → a u ≡ false → b u ≡ false)
both_or a b zero = inr (λ u lt is. absurd (omega (arith, lt)))
both_or a b (suc n) = by (a n) (b n) refl refl (both_or a b n)
  where
    at_last : {P : Type 0} (u : ℕ) → u < suc n → (u < n → P) → (u ≡ n → P) → P
    at_last u lt before last = elim (cases_lt u n) [ inl less ↦ before less | inr le ↦ last (omega (arith, lt, le)) ]

    by : (x y : Bool) → a n ≡ x → b n ≡ y → ((g : ℕ) × (g < n) × (a g ≡ false) × (b g ≡ true)) ⊎ ((u : ℕ) → u < n → a u ≡ false → b u ≡ false)
        → ((g : ℕ) × (g < suc n) × (a g ≡ false) × (b g ≡ true)) ⊎ ((u : ℕ) → u < suc n → a u ≡ false → b u ≡ false)
    by x y at_a at_b (inl it) = inl (it.0, (let lt = it.1 in omega (arith, lt)), it.2, it.3)
    by false true at_a at_b (inr none) = inl (n, omega arith, at_a, at_b)
    by true y at_a at_b (inr none) = inr (λ u lt is. at_last u lt (λ less. none u less is) (λ same. absurd (let clash : false ≡ true = sym is ∙ ap a same ∙ at_a in cc)))
    by false false at_a at_b (inr none) = inr (λ u lt is. at_last u lt (λ less. none u less is) (λ same. ap b same ∙ at_b))

-- where nothing can be read nothing is found
module _ (reads : ℕ → List ℕ → Option Config) (R : ℕ → Bool) (i : Image) where
  strange_none : (n : ℕ) → ((u : ℕ) → u < n → R u ≡ false) → strange R i n ≡ None
  strange_none zero off = refl
  strange_none (suc n) off =
      ap (λ (b : Bool). first_of (strange R i n) (if b then strange_label (seen_in (i n 0)) else None)) (off n (omega arith))
      ∙ ap (λ (o : Option ℕ). first_of o None) (strange_none n (λ u lt. off u (omega (arith, lt))))

  newest_none : (n : ℕ) → ((u : ℕ) → u < n → R u ≡ false) → newest_found reads R i n ≡ None
  newest_none zero off = refl
  newest_none (suc n) off =
      ap (λ (b : Bool). later (newest_found reads R i n) (if b && is_label (seen_in (i n 0)) then on_disk n (copy_of reads (i n)) else None)) (off n (omega arith))
      ∙ ap (λ (o : Option (ℕ × Copy Config)). later o None) (newest_none n (λ u lt. off u (omega (arith, lt))))

  none_found : (units : ℕ) → ((u : ℕ) → u < units → R u ≡ false) → import_of reads failed_in units R i ≡ NoConfig
  unfolding import_of
  none_found units off =
      ap (λ (o : Option ℕ). by_labels o (by_newest failed_in units R (newest_found reads R i units))) (strange_none units off)
      ∙ ap (λ (o : Option (ℕ × Copy Config)). by_newest failed_in units R o) (newest_none units off)

must_fail : (f r : Bool) → (f ≡ false → r ≡ false) → r ≡ true → f ≡ true
must_fail true r off on = refl
must_fail false r off on = absurd (let clash : false ≡ true = sym (off refl) ∙ on in cc)

-- where it holds no disk as failed none of these says anything
pub good_silent : (c : Config) (m : Meaning) → ((u : ℕ) → u < m.units → failed_at c.disks u ≡ false) → Silent c m
good_silent c m good = record { each = λ i R each reads none. absurd (let clash : false ≡ true = sym (good reads.disk reads.below) ∙ reads.failed in cc) }

module _ (by : Config) (core : Inner) (old new : Meaning) (it : DeportedBy by core old new) where
  deport_base : (i : Image) (x : Config) → Each new.leaves i → found new i ≡ Found x → Base x new
  deport_base i x each is =
      let both : Found it.config ≡ Found x = sym (it.finds i each) ∙ is in
      let same : it.config ≡ x = cc in
      let kept = from_fact (at_serial it.config.serial it.behind.config) (HeldGood it.config new) new it.kept in
      subst (λ (y : Config). Base y new) same (record { below = record { each = λ u lt. kept.below.each u lt }; counts = kept.counts; labels = kept.labels })

  -- where the disks that are held as failed say nothing by themselves
  pub deport_can : Silent it.config new → CanImport new
  deport_can silent = record { base = deport_base; one = one; plain = plain }
    where
      quiet : (i : Image) (R : ℕ → Bool) (x : Config) → Each new.leaves i → ((u : ℕ) → u < new.units → failed_at it.config.disks u ≡ false → R u ≡ false) → found_by new R i ≡ Found x → ⊥
      quiet i R x each none is = elim (both_or (λ u. false) R new.units) [
        | inl k ↦
            let failed : failed_at it.config.disks k.0 ≡ true = must_fail (failed_at it.config.disks k.0) (R k.0) (none k.0 k.1) k.3 in
            subst IsNone is (silent.each i R each (record { disk = k.0; below = k.1; failed = failed; read = k.3 }) (λ u held. none u held.below held.good))
        | inr off ↦ let clash : NoConfig ≡ Found x = sym (none_found (on_shelf new) R i new.units (λ u lt. off u lt refl)) ∙ is in cc
      ]

      none_plain : (o : ImportOutcome Config) → IsNone o → is_plain o ≡ true
      none_plain (Found x) none = refl
      none_plain (Missing disk) none = refl
      none_plain NoConfig none = refl
      none_plain (Damaged disk block stored computed) none = absurd none
      none_plain (Format version) none = absurd none

      settle_plain : (o : Option ℕ) → is_plain (or_missing it.config o) ≡ true
      settle_plain None = refl
      settle_plain (Some disk) = refl

      plain : (i : Image) (R : ℕ → Bool) (x : Config) → Each new.leaves i → found new i ≡ Found x → is_plain (found_by new R i) ≡ true
      plain i R x each is = elim (both_or (λ u. failed_at it.config.disks u) R new.units) [
        | inl g ↦ ap is_plain (it.reads i R g.0 each (record { below = g.1; good = g.2 }) g.3) ∙ settle_plain (missing (failed_in it.config) R new.units)
        | inr none ↦ elim (both_or (λ u. false) R new.units) [
          | inl k ↦
              let failed : failed_at it.config.disks k.0 ≡ true = must_fail (failed_at it.config.disks k.0) (R k.0) (none k.0 k.1) k.3 in
              none_plain (found_by new R i) (silent.each i R each (record { disk = k.0; below = k.1; failed = failed; read = k.3 }) (λ u held. none u held.below held.good))
          | inr off ↦ ap is_plain (none_found (on_shelf new) R i new.units (λ u lt. off u lt refl))
        ]
      ]

      one : (i j : Image) (R : ℕ → Bool) (x : Config) → Each new.leaves i → Each new.leaves j → found_by new R i ≡ Found x → found new j ≡ Found x
      one i j R x each_i each_j is = elim (both_or (λ u. failed_at it.config.disks u) R new.units) [
        | inl g ↦
            let same : it.config ≡ x = settle_found new.units R it.config x (sym (it.reads i R g.0 each_i (record { below = g.1; good = g.2 }) g.3) ∙ is) in
            it.finds j each_j ∙ ap (λ (y : Config). Found y) same
        | inr none ↦ absurd (quiet i R x each_i none is)
      ]

  -- or where the newest configuration is committed
  pub committed_can : Trusts true true (good_set it.config.disks) new → CanImport new
  committed_can trusts = record {
    base = deport_base;
    one = λ i j R x each_i each_j is. it.finds j each_j ∙ ap (λ (y : Config). Found y) (sym (trusts.agree refl i R it.config x each_i (it.finds i each_i) is));
    plain = λ i R x each is. trusts.plain refl i R x each is;
  }

pub group_can : (by : Config) (core : Inner) (old new : Meaning) → DeportedBy by core old new → (core.committed ≡ true) ⊎ ((i : Image) (x : Config) → Each new.leaves i → found new i ≡ Found x → Silent x new) → CanImport new
group_can by core old new it (inl is) = committed_can by core old new it (it.trusts is)
group_can by core old new it (inr silent) = record {
  base = λ i x each is. deport_base by core old new it i x each is;
  one = λ i j R x each_i each_j is. (deport_can by core old new it (silent i it.config each_i (it.finds i each_i))).one i j R x each_i each_j is;
  plain = λ i R x each is. (deport_can by core old new it (silent i it.config each (it.finds i each))).plain i R x each is;
}

-- ---- a group whose shelf fell

pub rest_can : (core : Inner) (m : Meaning) → InnerStands core m → AtRest m → core.agreed ≡ true → CanImport m
rest_can core m stands rest agreed = record {
  base = λ j x each is. (crash_can core.config (Member core.good m) m m kept refl (λ u. refl) j each (λ u b v left. rest.one u b v (j u b) left (each u b)) core.committed core.good trusts).base j x each is;
  one = λ i j R x each_i each_j is. (crash_can core.config (Member core.good m) m m kept refl (λ u. refl) i each_i (λ u b v left. rest.one u b v (i u b) left (each_i u b)) core.committed core.good trusts).one i j R x each_i each_j is;
  plain = λ i R x each is. (crash_can core.config (Member core.good m) m m kept refl (λ u. refl) i each (λ u b v left. rest.one u b v (i u b) left (each u b)) core.committed core.good trusts).plain i R x each is;
}
  where
    kept : Kept core.config (Member core.good m) m
    kept = kept_of core m stands

    trusts : Trusts core.committed true core.good m
    trusts = subst (λ (b : Bool). Trusts core.committed b core.good m) agreed stands.trusts
