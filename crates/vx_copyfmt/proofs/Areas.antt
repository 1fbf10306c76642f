-- While a body is written into the area that does not hold the greater header, a disk keeps its copy; with the new header it has the new one.
use Rattle.std.proofs.Common.{◌≡◌, ◌⊎◌, inl, inr, ⊎_elim, ℕ, zero, suc, ◌+◌, ◌<◌, ◌≤◌, Bool, true, false, Option, Some, None, List, ◌++◌, take, refl, ap, sym, subst, ◌∙◌, arith}
use Rattle.std.specs.Prelude.{nat_lt, bytes_eq, if◌then◌else◌}
use Rattle.std.proofs.lemmas.Bool.{cases_lt, lt-ltb, le-ltb}
use Rattle.vx_wire.specs.Seals.{digest_of}
use Rattle.vx_wire.proofs.SealLemmas.{alike, same_bytes}
use Rattle.vx_copyfmt.proofs.Targets.{Bare, Here, OnTop, Sent, area_out, head_out, one_top, own_target, sent_by, target_block, top_first, top_greatest, top_same, top_second}
use Rattle.vx_copyfmt.proofs.Told.{not_both}
use Rattle.vx_copyfmt.specs.Areas.{header_of}
use Rattle.vx_copyfmt.specs.Labels.{seen_in}
use Rattle.vx_copyfmt.specs.declared.area.AreaHeader.{AreaHeader}
use Rattle.vx_copyfmt.specs.Copies.{Disk, Copy, Holds, Differs, run_of, body_of, area_a, area_b, greater, holding, judged, copy_with, copy_under, copy_at, copy_of}
use Rattle.vx_copyfmt.specs.Commits.{Slots, Among, target_of, exactly, IsHeaderBlock, IsTop, Lower, Counts, Fit, Tidy, TwoTargets, Mixed, FromOld, Forged, Broken, Torn, Older}

-- ---- what an area depends on

pub run_of-same : (d e : Disk) (b n : ℕ) → ((k : ℕ) → b ≤ k → k < b + n → d k ≡ e k) → run_of d b n ≡ run_of e b n
run_of-same d e b zero same = refl
run_of-same d e b (suc n) same =
    ap (λ (t : List ℕ). t ++ run_of d (b + 1) n) (same b (omega arith) (omega arith))
    ∙ ap (λ (t : List ℕ). e b ++ t) (run_of-same d e (b + 1) n (λ k low high. same k (omega (arith, low)) (omega (arith, high))))

-- the copy has this serial, if there is one
abbrev HasSerial : {C : Type 0} → ℕ → Option (Copy C) → Type 0
HasSerial n None = Unit {0}
HasSerial n (Some x) = x.serial ≡ n

holding_serial : {C : Type 0} (area n : ℕ) (o : Option C) → HasSerial n (holding area n o)
holding_serial area n None = tt
holding_serial area n (Some c) = refl

judged_serial : {C : Type 0} (area : ℕ) (h : AreaHeader) (body : List ℕ) (o : Option C) (b : Bool) → HasSerial h.serial (judged area h body o b)
judged_serial area h body o true = holding_serial area h.serial o
judged_serial area h body o false = refl

-- a body beside the one that stood there, where this is the digest of the header
data Stands (digest now was : List ℕ) : Type 0 where
  Otherwise : bytes_eq (digest_of now) digest ≡ false → Stands digest now was
  AsBefore : now ≡ was → Stands digest now was
  Changed : digest_of now ≡ digest → (now ≡ was → ⊥) → Stands digest now was

stands_by : (digest now was : List ℕ) → Stands digest now was
stands_by digest now was = by_digest (bytes_eq (digest_of now) digest) refl
  where
    by_body : digest_of now ≡ digest → (b : Bool) → bytes_eq now was ≡ b → Stands digest now was
    by_body same true is = AsBefore (same_bytes now was is)
    by_body same false is = Changed same (λ e. not_both (sym is ∙ alike now was e))

    by_digest : (b : Bool) → bytes_eq (digest_of now) digest ≡ b → Stands digest now was
    by_digest false is = Otherwise is
    by_digest true is = by_body (same_bytes (digest_of now) digest is) (bytes_eq now was) refl

-- a disk with these headers
abbrev with_headers : List ℕ → List ℕ → Disk
with_headers v w b = if nat_lt b area_b then v else w

module _ {C : Type 0} (reads : ℕ → List ℕ → Option C) where
  under_serial : (d : Disk) (area : ℕ) (h : AreaHeader) (o : Option AreaHeader) → o ≡ Some h → HasSerial h.serial (copy_under reads d area o)
  under_serial d area h None is = absurd cc
  under_serial d area h (Some g) is =
      let same : g ≡ h = cc in
      subst (λ (k : AreaHeader). HasSerial k.serial (copy_with reads area g (body_of d area g.length))) same (judged_serial area g (body_of d area g.length) (reads g.serial (body_of d area g.length)) (bytes_eq (digest_of (body_of d area g.length)) g.digest))

  pub under_none : (d : Disk) (area : ℕ) (o : Option AreaHeader) → o ≡ None → copy_under reads d area o ≡ None
  under_none d area None is = refl
  under_none d area (Some g) is = absurd cc

  under_same : (d e : Disk) (area : ℕ) (o : Option AreaHeader) → run_of d (area + 1) 127 ≡ run_of e (area + 1) 127 → copy_under reads d area o ≡ copy_under reads e area o
  under_same d e area None same = refl
  under_same d e area (Some h) same = ap (λ (t : List ℕ). copy_with reads area h (take h.length t)) same

  -- two disks that agree on the blocks of an area have one copy there
  pub copy_at-same : (d e : Disk) (area : ℕ) → ((b : ℕ) → area ≤ b → b ≤ area + 127 → d b ≡ e b) → copy_at reads d area ≡ copy_at reads e area
  copy_at-same d e area same =
      under_same d e area (header_of (d area)) (run_of-same d e (area + 1) 127 (λ b low high. same b (omega (arith, low)) (omega (arith, high))))
      ∙ ap (λ (v : List ℕ). copy_under reads e area (header_of v)) (same area (omega arith) (omega arith))

  -- ---- while a body is written

  -- the disk with other blocks in the body of an area
  abbrev pub mended : Disk → Disk → ℕ → Disk
  mended d base area b = if nat_lt area b then (if nat_lt b (area + 128) then base b else d b) else d b

  pub mended_out : (d base : Disk) (area b : ℕ) → (b ≤ area) ⊎ (area + 128 ≤ b) → mended d base area b ≡ d b
  mended_out d base area b (inl low) = rw (le-ltb area b low) refl
  mended_out d base area b (inr high) = rw (lt-ltb area b (omega (arith, high)), le-ltb b (area + 128) high) refl

  pub mended_in : (d base : Disk) (area b : ℕ) → area < b → b < area + 128 → mended d base area b ≡ base b
  mended_in d base area b low high = rw (lt-ltb area b low, lt-ltb b (area + 128) high) refl

  -- outside of the run it has one of the values
  pub outside : (slots : Slots) (area b : ℕ) (v : List ℕ) → (b ≤ area) ⊎ (area + 128 ≤ b) → slots b v ⊎ ((area + 1 ≤ b) × (b ≤ area + 127)) → slots b v
  outside slots area b v out (inl is) = is
  outside slots area b v (inl low) (inr both) = absurd (omega (arith, low, both.0))
  outside slots area b v (inr high) (inr both) = absurd (omega (arith, high, both.1))

  pub mended_among : (slots : Slots) (d base : Disk) (area : ℕ) → Among slots base → Mixed slots area d → Among slots (mended d base area)
  mended_among slots d base area has mixed b = elim (cases_lt area b) [
    | inl low ↦ elim (cases_lt b (area + 128)) [
      | inl high ↦ subst (slots b) (sym (mended_in d base area b low high)) (has b)
      | inr high ↦ subst (slots b) (sym (mended_out d base area b (inr high))) (outside slots area b (d b) (inr high) (mixed b))
    ]
    | inr low ↦ subst (slots b) (sym (mended_out d base area b (inl low))) (outside slots area b (d b) (inl low) (mixed b))
  ]

  same_both : (d e : Disk) → copy_at reads d area_a ≡ copy_at reads e area_a → copy_at reads d area_b ≡ copy_at reads e area_b → copy_of reads d ≡ copy_of reads e
  same_both d e one two = ap (λ (t : Option (Copy C)). greater t (copy_at reads d area_b)) one ∙ ap (greater (copy_at reads e area_a)) two

  pub serial_under : (d : Disk) (area : ℕ) (h : AreaHeader) (x : Copy C) → header_of (d area) ≡ Some h → copy_at reads d area ≡ Some x → x.serial ≡ h.serial
  serial_under d area h x head is = subst (HasSerial h.serial) is (under_serial d area h (header_of (d area)) head)

  -- two of which the one is less
  pub greater_is_second : (m : ℕ) (o : Option (Copy C)) (y : Copy C) → ((x : Copy C) → o ≡ Some x → x.serial < y.serial) → greater o (Some y) ≡ Some y
  greater_is_second m None y below = refl
  greater_is_second m (Some x) y below = rw (lt-ltb x.serial y.serial (below x refl)) refl

  pub greater_not_more : (x : Copy C) (o : Option (Copy C)) → ((y : Copy C) → o ≡ Some y → y.serial ≤ x.serial) → greater (Some x) o ≡ Some x
  greater_not_more x None le = refl
  greater_not_more x (Some y) le = rw (le-ltb x.serial y.serial (le y refl)) refl

  -- a copy goes by a header of its serial
  pub copy_header : (d : Disk) (area : ℕ) (o : Option AreaHeader) → header_of (d area) ≡ o → (x : Copy C) → copy_at reads d area ≡ Some x → (h : AreaHeader) × (header_of (d area) ≡ Some h) × (x.serial ≡ h.serial)
  copy_header d area None head x is = let none : None ≡ Some x = sym (under_none d area (header_of (d area)) head) ∙ is in absurd cc
  copy_header d area (Some h) head x is = (h, head, serial_under d area h x head is)

  pub under_with : (d : Disk) (area : ℕ) (h : AreaHeader) (o : Option AreaHeader) → o ≡ Some h → copy_under reads d area o ≡ copy_with reads area h (body_of d area h.length)
  under_with d area h o is = ap (copy_under reads d area) is

  -- the copy under the greater header is that of the disk
  pub top_copy : (d : Disk) (a : ℕ) (h : AreaHeader) (x : Copy C) → IsHeaderBlock a → IsTop d a h → copy_at reads d a ≡ Some x → copy_of reads d ≡ Some x
  top_copy d a h x (inl is) top here =
      let first : IsTop d area_a h = subst (λ (n : ℕ). IsTop d n h) is top in
      let there : copy_at reads d area_a ≡ Some x = subst (λ (n : ℕ). copy_at reads d n ≡ Some x) is here in
      let number : x.serial ≡ h.serial = serial_under d area_a h x first.head there in
      ap (λ (o : Option (Copy C)). greater o (copy_at reads d area_b)) there
      ∙ greater_not_more x (copy_at reads d area_b) (λ y has.
      let found = copy_header d area_b (header_of (d area_b)) refl y has in
      let le : found.0.serial ≤ h.serial = top_first d h found.0 first found.1 in
      let same : y.serial ≡ found.0.serial = found.2 in
      omega (arith, le, same, number))
  top_copy d a h x (inr is) top here =
      let second : IsTop d area_b h = subst (λ (n : ℕ). IsTop d n h) is top in
      let there : copy_at reads d area_b ≡ Some x = subst (λ (n : ℕ). copy_at reads d n ≡ Some x) is here in
      let number : x.serial ≡ h.serial = serial_under d area_b h x second.head there in
      ap (λ (o : Option (Copy C)). greater (copy_at reads d area_a) o) there
      ∙ greater_is_second 0 (copy_at reads d area_a) x (λ y has.
      let found = copy_header d area_a (header_of (d area_a)) refl y has in
      let lt : found.0.serial < h.serial = top_second d h found.0 second found.1 in
      let same : y.serial ≡ found.0.serial = found.2 in
      omega (arith, lt, same, number))

  -- and none is greater
  greater_either : (o p : Option (Copy C)) (x : Copy C) → greater o p ≡ Some x → (o ≡ Some x) ⊎ (p ≡ Some x)
  greater_either None p x is = inr is
  greater_either (Some y) None x is = inl is
  greater_either (Some y) (Some z) x is = by_test (nat_lt y.serial z.serial) is
    where
      by_test : (b : Bool) → (if b then Some z else Some y) ≡ Some x → (Some y ≡ Some x) ⊎ (Some z ≡ Some x)
      by_test true it = inr it
      by_test false it = inl it

  pub greater_most : (m : ℕ) (o p : Option (Copy C)) → ((x : Copy C) → o ≡ Some x → x.serial ≤ m) → ((x : Copy C) → p ≡ Some x → x.serial ≤ m) → (x : Copy C) → greater o p ≡ Some x → x.serial ≤ m
  greater_most m o p one two x is = ⊎_elim (λ has. one x has) (λ has. two x has) (greater_either o p x is)

  -- where no header has the serial or a greater one, no copy has
  pub lower_older : (serial : ℕ) (slots : Slots) → Lower serial slots → Older reads serial slots
  lower_older serial slots low = record {
    below = λ d x among is. ⊎_elim (λ has. each d area_a (inl refl) among x has) (λ has. each d area_b (inr refl) among x has) (greater_either (copy_at reads d area_a) (copy_at reads d area_b) x is);
  }
    where
      each : (d : Disk) (area : ℕ) → IsHeaderBlock area → Among slots d → (x : Copy C) → copy_at reads d area ≡ Some x → x.serial < serial
      each d area one among x has =
          let found = copy_header d area (header_of (d area)) refl x has in
          let lt : found.0.serial < serial = low area (d area) found.0 one (among area) found.1 in
          let same : x.serial ≡ found.0.serial = found.2 in
          omega (arith, lt, same)

  pub top_most : (d : Disk) (a : ℕ) (h : AreaHeader) → IsHeaderBlock a → IsTop d a h → (x : Copy C) → copy_of reads d ≡ Some x → x.serial ≤ h.serial
  top_most d a h is top = greater_most h.serial (copy_at reads d area_a) (copy_at reads d area_b) (each area_a (inl refl)) (each area_b (inr refl))
    where
      each : (b : ℕ) → IsHeaderBlock b → (x : Copy C) → copy_at reads d b ≡ Some x → x.serial ≤ h.serial
      each b one x has =
          let found = copy_header d b (header_of (d b)) refl x has in
          let le : found.0.serial ≤ h.serial = top_greatest d a b h found.0 is one top found.1 in
          let same : x.serial ≡ found.0.serial = found.2 in
          omega (arith, le, same)

  label_out : (area : ℕ) → IsHeaderBlock area → (0 ≤ area) ⊎ (area + 128 ≤ 0)
  label_out area one = inl (omega arith)

  -- the copy of a disk is that of the one that stood there
  module _ (slots : Slots) (counts : Counts reads slots) (base : Disk) (has : Among slots base) (d : Disk) where
    mended_same : (area : ℕ) → IsHeaderBlock area → (b : ℕ) → IsHeaderBlock b → d b ≡ mended d base area b
    mended_same area one b is = sym (mended_out d base area b (head_out area b one is))

    mended_top : (area a : ℕ) (h : AreaHeader) → IsHeaderBlock area → IsHeaderBlock a → IsTop d a h → IsTop (mended d base area) a h
    mended_top area a h one is top = top_same d (mended d base area) a h is (mended_same area one) top

    -- where no header stands, there is no copy
    bare_stays : (area : ℕ) → IsHeaderBlock area → header_of (d area_a) ≡ None → header_of (d area_b) ≡ None → Mixed slots area d → FromOld reads slots d
    bare_stays area one first second mixed =
        let e : Disk = mended d base area in
        let a_none : copy_at reads d area_a ≡ None = under_none d area_a (header_of (d area_a)) first in
        let b_none : copy_at reads d area_b ≡ None = under_none d area_b (header_of (d area_b)) second in
        let a_then : copy_at reads e area_a ≡ None = under_none e area_a (header_of (e area_a)) (ap header_of (sym (mended_same area one area_a (inl refl))) ∙ first) in
        let b_then : copy_at reads e area_b ≡ None = under_none e area_b (header_of (e area_b)) (ap header_of (sym (mended_same area one area_b (inr refl))) ∙ second) in
        record {
          disk = e;
          among = mended_among slots d base area has mixed;
          label = ap seen_in (sym (mended_out d base area 0 (label_out area one)));
          copy = same_both d e (a_none ∙ sym a_then) (b_none ∙ sym b_then);
        }

    -- where the greater header stands in another area, its copy does
    top_stays : (area a : ℕ) → IsHeaderBlock area → IsHeaderBlock a → (area ≡ a → ⊥) → Mixed slots area d → (g : AreaHeader) → IsTop d a g → FromOld reads slots d
    top_stays area a one is apart mixed g top =
        let e : Disk = mended d base area in
        let among : Among slots e = mended_among slots d base area has mixed in
        let after : IsTop e a g = mended_top area a g one is top in
        let found = counts e a g is among after in
        let same : copy_at reads d a ≡ copy_at reads e a = copy_at-same d e a (λ b low high. sym (mended_out d base area b (area_out area a b one is apart low high))) in
        record {
          disk = e;
          among = among;
          label = ap seen_in (sym (mended_out d base area 0 (label_out area one)));
          copy = top_copy d a g found.0 is top (same ∙ found.1) ∙ sym (top_copy e a g found.0 is after found.1);
        }

    stays_by : (area a : ℕ) → IsHeaderBlock area → IsHeaderBlock a → (area ≡ a → ⊥) → Mixed slots area d → own_target d ≡ area → Sent d a → FromOld reads slots d
    stays_by area a one is apart mixed own (Here to) = absurd (apart (sym own ∙ to))
    stays_by area a one is apart mixed own (Bare first second) = bare_stays area one first second mixed
    stays_by area a one is apart mixed own (OnTop g top) = top_stays area a one is apart mixed g top

    -- where the body was written into the area that does not hold it
    stays : (area : ℕ) → IsHeaderBlock area → Mixed slots area d → own_target d ≡ area → FromOld reads slots d
    stays area (inl first) mixed own = stays_by area area_b (inl first) (inr refl) (λ same. omega (arith, first, same)) mixed own (sent_by d area_b (header_of (d area_a)) (header_of (d area_b)) refl refl (inr refl))
    stays area (inr second) mixed own = stays_by area area_a (inr second) (inl refl) (λ same. omega (arith, second, same)) mixed own (sent_by d area_a (header_of (d area_a)) (header_of (d area_b)) refl refl (inl refl))

    -- the headers stand as a crash may leave them
    header_there : (area : ℕ) → IsHeaderBlock area → Mixed slots area d → (a : ℕ) → IsHeaderBlock a → slots a (d a)
    header_there area one mixed a is = outside slots area a (d a) (head_out area a one is) (mixed a)

    -- the body was written behind the greater header
    module _ (area : ℕ) (one : IsHeaderBlock area) (mixed : Mixed slots area d) (g : AreaHeader) (top : IsTop d area g) where
      abbrev stood : Disk
      stood = mended d base area

      stood_among : Among slots stood
      stood_among = mended_among slots d base area has mixed

      stood_top : IsTop stood area g
      stood_top = mended_top area area g one one top

      stood_copy : (x : Copy C) × (copy_at reads stood area ≡ Some x)
      stood_copy = counts stood area g one stood_among stood_top

      stood_serial : stood_copy.0.serial ≡ g.serial
      stood_serial = serial_under stood area g stood_copy.0 stood_top.head stood_copy.1

      -- with the same body it is the same copy
      kept_copy : body_of d area g.length ≡ body_of stood area g.length → copy_at reads d area ≡ Some stood_copy.0
      kept_copy same =
          under_with d area g (header_of (d area)) top.head ∙ ap (copy_with reads area g) same ∙ sym (under_with stood area g (header_of (stood area)) stood_top.head) ∙ stood_copy.1

      differs_copy : bytes_eq (digest_of (body_of d area g.length)) g.digest ≡ false
          → copy_at reads d area ≡ Some (record { serial = g.serial; area = area; body = Differs g.digest (digest_of (body_of d area g.length)) })
      differs_copy other =
          under_with d area g (header_of (d area)) top.head ∙ ap (judged area g (body_of d area g.length) (reads g.serial (body_of d area g.length))) other

      abbrev FromHeaders : List ℕ → List ℕ → Type 0
      FromHeaders v w = slots area_a v × slots area_b w × (target_of (header_of v) (header_of w) ≡ area)

      two_targets : (v w : List ℕ) → FromHeaders v w → TwoTargets slots
      two_targets v w from = record {
        one = d;
        other = with_headers v w;
        one_a = header_there area one mixed area_a (inl refl);
        one_b = header_there area one mixed area_b (inr refl);
        other_a = from.0;
        other_b = from.1;
        apart = λ same. top.kept (same ∙ from.2);
      }

      forged : (v w : List ℕ) → FromHeaders v w → digest_of (body_of d area g.length) ≡ g.digest → (body_of d area g.length ≡ body_of stood area g.length → ⊥) → Forged slots d
      forged v w from digest changed =
          record { area = area; header = g; top = top; disk = stood; among = stood_among; head = stood_top.head; digest = digest; targets = two_targets v w from; changed = changed }

      torn : (v w : List ℕ) → FromHeaders v w → Broken reads stood_copy.0.serial d ⊎ Forged slots d → Torn reads slots d
      torn v w from now = record {
        disk = stood;
        among = stood_among;
        label = ap seen_in (sym (mended_out d base area 0 (label_out area one)));
        was = stood_copy.0;
        copy = top_copy stood area g stood_copy.0 one stood_top stood_copy.1;
        most = λ x is. let le : x.serial ≤ g.serial = top_most d area g one top x is in omega (arith, le, stood_serial);
        targets = two_targets v w from;
        now = now;
      }

      torn_kind : (v w : List ℕ) → FromHeaders v w → Stands g.digest (body_of d area g.length) (body_of stood area g.length) → FromOld reads slots d ⊎ Torn reads slots d
      torn_kind v w from (Otherwise other) =
          let digest : List ℕ = digest_of (body_of d area g.length) in
          inr (torn v w from (inl (record {
            area = area;
            stored = g.digest;
            computed = digest;
            copy = top_copy d area g (record { serial = g.serial; area = area; body = Differs g.digest digest }) one top (differs_copy other)
                ∙ ap (λ (n : ℕ). Some (record { serial = n; area = area; body = Differs g.digest digest })) (sym stood_serial);
          })))
      torn_kind v w from (AsBefore same) = inl (record {
        disk = stood;
        among = stood_among;
        label = ap seen_in (sym (mended_out d base area 0 (label_out area one)));
        copy = top_copy d area g stood_copy.0 one top (kept_copy same) ∙ sym (top_copy stood area g stood_copy.0 one stood_top stood_copy.1);
      })
      torn_kind v w from (Changed digest changed) = inr (torn v w from (inr (forged v w from digest changed)))

      torn_counts : (v w : List ℕ) → FromHeaders v w → Stands g.digest (body_of d area g.length) (body_of stood area g.length) → ((x : Copy C) × (copy_at reads d area ≡ Some x)) ⊎ Forged slots d
      torn_counts v w from (Otherwise other) = inl (record { serial = g.serial; area = area; body = Differs g.digest (digest_of (body_of d area g.length)) }, differs_copy other)
      torn_counts v w from (AsBefore same) = inl (stood_copy.0, kept_copy same)
      torn_counts v w from (Changed digest changed) = inr (forged v w from digest changed)

    kind_by : (area : ℕ) → IsHeaderBlock area → Mixed slots area d → (v w : List ℕ) → slots area_a v → slots area_b w → target_of (header_of v) (header_of w) ≡ area → Sent d area
        → FromOld reads slots d ⊎ Torn reads slots d
    kind_by area one mixed v w in_a in_b to (Here is) = inl (stays area one mixed is)
    kind_by area one mixed v w in_a in_b to (Bare first second) = inl (bare_stays area one first second mixed)
    kind_by area one mixed v w in_a in_b to (OnTop g top) =
        torn_kind area one mixed g top v w (in_a, in_b, to) (stands_by g.digest (body_of d area g.length) (body_of (mended d base area) area g.length))

    -- the copy is that of before, or the disk is torn, where the target was found by what a crash leaves in both headers
    pub kind_mixed : (v w : List ℕ) → slots area_a v → slots area_b w → Mixed slots (target_of (header_of v) (header_of w)) d → FromOld reads slots d ⊎ Torn reads slots d
    kind_mixed v w in_a in_b mixed =
        let area : ℕ = target_of (header_of v) (header_of w) in
        let one : IsHeaderBlock area = target_block (header_of v) (header_of w) in
        kind_by area one mixed v w in_a in_b refl (sent_by d area (header_of (d area_a)) (header_of (d area_b)) refl refl one)

    -- ---- what counts on such a disk

    abbrev EachCounts : Type 0
    EachCounts = (a : ℕ) (h : AreaHeader) → IsHeaderBlock a → IsTop d a h → (x : Copy C) × (copy_at reads d a ≡ Some x)

    mixed_counts : (area : ℕ) → IsHeaderBlock area → own_target d ≡ area → Mixed slots area d → EachCounts
    mixed_counts area one target mixed a h is top =
        let e : Disk = mended d base area in
        let apart : area ≡ a → ⊥ = λ same. top.kept (target ∙ same) in
        let found = counts e a h is (mended_among slots d base area has mixed) (mended_top area a h one is top) in
        (found.0, copy_at-same d e a (λ b low high. sym (mended_out d base area b (area_out area a b one is apart low high))) ∙ found.1)

    bare_counts : header_of (d area_a) ≡ None → header_of (d area_b) ≡ None → EachCounts
    bare_counts first second a h (inl is) top = let none : None ≡ Some h = sym first ∙ ap (λ (b : ℕ). header_of (d b)) (sym is) ∙ top.head in absurd cc
    bare_counts first second a h (inr is) top = let none : None ≡ Some h = sym second ∙ ap (λ (b : ℕ). header_of (d b)) (sym is) ∙ top.head in absurd cc

    top_counts : (area : ℕ) (g : AreaHeader) → IsHeaderBlock area → IsTop d area g → (x : Copy C) × (copy_at reads d area ≡ Some x) → EachCounts
    top_counts area g one top found a h is other = let same : area ≡ a = one_top d area a g h one is top other in (found.0, ap (copy_at reads d) (sym same) ∙ found.1)

    counts_by : (area : ℕ) → IsHeaderBlock area → Mixed slots area d → (v w : List ℕ) → slots area_a v → slots area_b w → target_of (header_of v) (header_of w) ≡ area → Sent d area → EachCounts ⊎ Forged slots d
    counts_by area one mixed v w in_a in_b to (Here is) = inl (mixed_counts area one is mixed)
    counts_by area one mixed v w in_a in_b to (Bare first second) = inl (bare_counts first second)
    counts_by area one mixed v w in_a in_b to (OnTop g top) =
        ⊎_elim (λ found. inl (top_counts area g one top found)) (λ false_body. inr false_body) (torn_counts area one mixed g top v w (in_a, in_b, to) (stands_by g.digest (body_of d area g.length) (body_of (mended d base area) area g.length)))

  -- ---- what is ready for the next copy

  -- one disk, of which the greater header counts
  pub exact_tidy : (serial : ℕ) (d : Disk) → ((a : ℕ) (h : AreaHeader) → IsHeaderBlock a → IsTop d a h → (x : Copy C) × (copy_at reads d a ≡ Some x))
      → ((a : ℕ) (h : AreaHeader) → IsHeaderBlock a → header_of (d a) ≡ Some h → h.serial < serial) → Tidy reads serial (exactly d)
  exact_tidy serial d each below = record {
    fit = record {
      counts = λ e a h is same top. let found = each a h is (top_same e d a h is (λ b block. same b) top) in (found.0, copy_at-same e d a (λ b low high. same b) ∙ found.1);
      below = λ a v h is in_v head. below a h is (ap header_of (sym in_v) ∙ head);
    };
    goes = λ v w x y in_v in_w in_x in_y. ap (λ (t : List ℕ). target_of (header_of t) (header_of w)) (in_v ∙ sym in_x) ∙ ap (λ (t : List ℕ). target_of (header_of x) (header_of t)) (in_w ∙ sym in_y);
  }

  -- a disk of those that are
  pub one_tidy : (serial : ℕ) (slots : Slots) (d : Disk) → Fit reads serial slots → Among slots d → Tidy reads serial (exactly d)
  one_tidy serial slots d fit among = exact_tidy serial d (λ a h is top. fit.counts d a h is among top) (λ a h is head. fit.below a (d a) h is (among a) head)

  -- and one of which the body of an area is written, unless the new body has the digest of the greater header
  pub fit_mixed : (serial : ℕ) (slots : Slots) → Fit reads serial slots → (base : Disk) → Among slots base → (d : Disk) (v w : List ℕ) → slots area_a v → slots area_b w → Mixed slots (target_of (header_of v) (header_of w)) d
      → Tidy reads (serial + 1) (exactly d) ⊎ Forged slots d
  fit_mixed serial slots fit base has d v w in_a in_b mixed =
      let area : ℕ = target_of (header_of v) (header_of w) in
      let one : IsHeaderBlock area = target_block (header_of v) (header_of w) in
      ⊎_elim (λ each. inl (exact_tidy (serial + 1) d each (λ a h is head.
      let lt : h.serial < serial = fit.below a (d a) h is (outside slots area a (d a) (head_out area a one is) (mixed a)) head in omega (arith, lt)))) (λ false_body. inr false_body)
      (counts_by slots fit.counts base has d area one mixed v w in_a in_b refl (sent_by d area (header_of (d area_a)) (header_of (d area_b)) refl refl one))

  -- ---- no disk is torn where the next copy goes to one area

  pub no_torn : (serial : ℕ) (slots : Slots) (d : Disk) → Tidy reads serial slots → Torn reads slots d → ⊥
  no_torn serial slots d tidy torn =
      let two = torn.targets in
      two.apart (tidy.goes (two.one area_a) (two.one area_b) (two.other area_a) (two.other area_b) two.one_a two.one_b two.other_a two.other_b)

  pub no_forged : (serial : ℕ) (slots : Slots) (d : Disk) → Tidy reads serial slots → Forged slots d → ⊥
  no_forged serial slots d tidy forged =
      let two = forged.targets in
      two.apart (tidy.goes (two.one area_a) (two.one area_b) (two.other area_a) (two.other area_b) two.one_a two.one_b two.other_a two.other_b)

  -- ---- once the new header stands

  pub greater_is_first : (x : Copy C) (o : Option (Copy C)) → ((y : Copy C) → o ≡ Some y → y.serial < x.serial) → greater (Some x) o ≡ Some x
  greater_is_first x None below = refl
  greater_is_first x (Some y) below = let le : y.serial ≤ x.serial = omega (arith, below y refl) in rw (le-ltb x.serial y.serial le) refl

  judged_holds : (area : ℕ) (h : AreaHeader) (body : List ℕ) (c : C) (o : Option C) (b : Bool) → o ≡ Some c → b ≡ true → judged area h body o b ≡ Some (record { serial = h.serial; area = area; body = Holds c })
  judged_holds area h body c o b got same = rw (got, same) refl

  pub under_holds : (d : Disk) (area : ℕ) (h : AreaHeader) (c : C) (o : Option AreaHeader) → o ≡ Some h → digest_of (body_of d area h.length) ≡ h.digest → reads h.serial (body_of d area h.length) ≡ Some c
      → copy_under reads d area o ≡ Some (record { serial = h.serial; area = area; body = Holds c })
  under_holds d area h c o is digest got =
      rw is (judged_holds area h (body_of d area h.length) c (reads h.serial (body_of d area h.length)) (bytes_eq (digest_of (body_of d area h.length)) h.digest) got (alike (digest_of (body_of d area h.length)) h.digest digest))

  module _ (serial : ℕ) (slots : Slots) (lower : Lower serial slots) (d : Disk) (h : AreaHeader) (c : C) (late : serial ≤ h.serial) where
    other_below : (area : ℕ) → IsHeaderBlock area → slots area (d area) → (x : Copy C) → copy_at reads d area ≡ Some x → x.serial < h.serial
    other_below area one is x has =
        let found = copy_header d area (header_of (d area)) refl x has in
        let below : found.0.serial < serial = lower area (d area) found.0 one is found.1 in
        let same : x.serial ≡ found.0.serial = found.2 in
        omega (arith, below, same, late)

    -- with the new header over its body in one area, and what stood there in the other
    pub becomes : (area : ℕ) → IsHeaderBlock area → ((a : ℕ) → IsHeaderBlock a → (a ≡ area → ⊥) → slots a (d a)) → header_of (d area) ≡ Some h
        → digest_of (body_of d area h.length) ≡ h.digest → reads h.serial (body_of d area h.length) ≡ Some c → copy_of reads d ≡ Some (record { serial = h.serial; area = area; body = Holds c })
    becomes area (inl first) other head digest got =
        let x : Copy C = record { serial = h.serial; area = area; body = Holds c } in
        let here : copy_at reads d area ≡ Some x = under_holds d area h c (header_of (d area)) head digest got in
        let there : copy_at reads d area_a ≡ Some x = subst (λ (a : ℕ). copy_at reads d a ≡ Some x) first here in
        ap (λ (o : Option (Copy C)). greater o (copy_at reads d area_b)) there
        ∙ greater_is_first x (copy_at reads d area_b) (λ y has. other_below area_b (inr refl) (other area_b (inr refl) (λ same. omega (arith, same, first))) y has)
    becomes area (inr second) other head digest got =
        let y : Copy C = record { serial = h.serial; area = area; body = Holds c } in
        let here : copy_at reads d area ≡ Some y = under_holds d area h c (header_of (d area)) head digest got in
        let there : copy_at reads d area_b ≡ Some y = subst (λ (a : ℕ). copy_at reads d a ≡ Some y) second here in
        ap (λ (o : Option (Copy C)). greater (copy_at reads d area_a) o) there
        ∙ greater_is_second 0 (copy_at reads d area_a) y (λ x has. other_below area_a (inl refl) (other area_a (inl refl) (λ same. omega (arith, same, second))) x has)
