-- What is said of copies whose bodies are kept as they are, said of the same copies with their bodies read.
use Rattle.std.proofs.Common.{◌≡◌, inl, inr, ℕ, ◌≤◌, Bool, true, false, Option, Some, None, List, take, refl, ap, sym, subst, ◌∙◌, arith}
use Rattle.std.specs.Prelude.{nat_lt, bytes_eq, is_some, if◌then◌else◌}
use Rattle.vx_wire.specs.Seals.{digest_of}
use Rattle.vx_copyfmt.specs.Areas.{header_of}
use Rattle.vx_copyfmt.specs.Copies.{Disk, Body, Holds, Differs, Copy, area_a, area_b, body_of, greater, judged, copy_under, copy_at, copy_of}
use Rattle.vx_copyfmt.specs.Commits.{Broken, Counts, Fit, FromNew, FromOld, Slots, Tidy, Torn}
use Rattle.vx_copyfmt.specs.declared.area.AreaHeader.{AreaHeader}
use Rattle.vx_copyio.specs.Putting.{IsCopyMade, those}

module _ {C : Type 0} (reads : ℕ → List ℕ → Option C) where
  -- the bodies that are read as something
  abbrev pub counts : ℕ → List ℕ → Bool
  counts serial body = is_some (reads serial body)

  abbrev held_as : ℕ → ℕ → Option C → Option (Copy C)
  held_as serial area None = None
  held_as serial area (Some c) = Some (record { serial = serial; area = area; body = Holds c })

  abbrev with_body : ℕ → ℕ → Body (List ℕ) → Option (Copy C)
  with_body serial area (Holds bytes) = held_as serial area (reads serial bytes)
  with_body serial area (Differs stored computed) = Some (record { serial = serial; area = area; body = Differs stored computed })

  -- a copy with its body read
  abbrev as_read : Option (Copy (List ℕ)) → Option (Copy C)
  as_read None = None
  as_read (Some x) = with_body x.serial x.area x.body

  -- the copy is read as one
  abbrev Kept : Option (Copy (List ℕ)) → Type 0
  Kept None = Unit {0}
  Kept (Some x) = (y : Copy C) × (with_body x.serial x.area x.body ≡ Some y) × (y.serial ≡ x.serial)

  under_body : (area : ℕ) (h : AreaHeader) (body : List ℕ) (o : Option C) → reads h.serial body ≡ o → (b : Bool)
      → (as_read (judged area h body (if is_some o then Some body else None) b) ≡ judged area h body o b) × Kept (judged area h body (if is_some o then Some body else None) b)
  under_body area h body None is true = (refl, tt)
  under_body area h body (Some c) is true =
      let held : held_as h.serial area (reads h.serial body) ≡ held_as h.serial area (Some c) = ap (λ (o : Option C). held_as h.serial area o) is in
      (held, (record { serial = h.serial; area = area; body = Holds c }, held, refl))
  under_body area h body o is false = (refl, (record { serial = h.serial; area = area; body = Differs h.digest (digest_of body) }, refl, refl))

  under : (d : Disk) (area : ℕ) (o : Option AreaHeader) → (as_read (copy_under (those counts) d area o) ≡ copy_under reads d area o) × Kept (copy_under (those counts) d area o)
  under d area None = (refl, tt)
  under d area (Some h) = under_body area h (body_of d area h.length) (reads h.serial (body_of d area h.length)) refl (bytes_eq (digest_of (body_of d area h.length)) h.digest)

  pub same_at : (d : Disk) (area : ℕ) → as_read (copy_at (those counts) d area) ≡ copy_at reads d area
  same_at d area = (under d area (header_of (d area))).0

  kept_at : (d : Disk) (area : ℕ) → Kept (copy_at (those counts) d area)
  kept_at d area = (under d area (header_of (d area))).1

  same_greater : (o p : Option (Copy (List ℕ))) → Kept o → Kept p → as_read (greater o p) ≡ greater (as_read o) (as_read p)
  same_greater None p one two = refl
  same_greater (Some x) None (y, is, same) two = is ∙ ap (λ (r : Option (Copy C)). greater r None) (sym is)
  same_greater (Some x) (Some z) (y, is, same) (w, is_w, same_w) =
      by_order (nat_lt x.serial z.serial)
      ∙ ap (λ (n : ℕ). if nat_lt n z.serial then Some w else Some y) (sym same) ∙ ap (λ (n : ℕ). if nat_lt y.serial n then Some w else Some y) (sym same_w)
      ∙ ap (λ (o : Option (Copy C)). greater (Some y) o) (sym is_w) ∙ ap (λ (o : Option (Copy C)). greater o (as_read (Some z))) (sym is)
    where
      by_order : (b : Bool) → as_read (if b then Some z else Some x) ≡ (if b then Some w else Some y)
      by_order true = is_w
      by_order false = is

  pub same_copy : (d : Disk) → as_read (copy_of (those counts) d) ≡ copy_of reads d
  same_copy d = same_greater (copy_at (those counts) d area_a) (copy_at (those counts) d area_b) (kept_at d area_a) (kept_at d area_b)
      ∙ ap (λ (r : Option (Copy C)). greater r (as_read (copy_at (those counts) d area_b))) (same_at d area_a)
      ∙ ap (λ (r : Option (Copy C)). greater (copy_at reads d area_a) r) (same_at d area_b)

  kept_greater : (o p : Option (Copy (List ℕ))) → Kept o → Kept p → Kept (greater o p)
  kept_greater None p one two = two
  kept_greater (Some x) None one two = one
  kept_greater (Some x) (Some z) one two = by_order (nat_lt x.serial z.serial)
    where
      by_order : (b : Bool) → Kept (if b then Some z else Some x)
      by_order true = two
      by_order false = one

  kept_of : (d : Disk) → Kept (copy_of (those counts) d)
  kept_of d = kept_greater (copy_at (those counts) d area_a) (copy_at (those counts) d area_b) (kept_at d area_a) (kept_at d area_b)

  -- a copy that counts is one of those, and back
  back_at : (o : Option (Copy (List ℕ))) (y : Copy C) → as_read o ≡ Some y → (x : Copy (List ℕ)) × (o ≡ Some x)
  back_at None y is = absurd cc
  back_at (Some x) y is = (x, refl)

  forth_at : (o : Option (Copy (List ℕ))) (x : Copy (List ℕ)) → Kept o → o ≡ Some x → (y : Copy C) × (as_read o ≡ Some y)
  forth_at None x kept is = absurd cc
  forth_at (Some z) x (y, reads_y, same) is = (y, reads_y)

  pub counts_bytes : (slots : Slots) → Counts reads slots → Counts (those counts) slots
  counts_bytes slots all d a h is among top =
      let there = all d a h is among top in
      back_at (copy_at (those counts) d a) there.0 (same_at d a ∙ there.1)

  pub counts_read : (slots : Slots) → Counts (those counts) slots → Counts reads slots
  counts_read slots all d a h is among top =
      let there = all d a h is among top in
      let found = forth_at (copy_at (those counts) d a) there.0 (kept_at d a) there.1 in
      (found.0, sym (same_at d a) ∙ found.1)

  pub fit_bytes : (serial : ℕ) (slots : Slots) → Fit reads serial slots → Fit (those counts) serial slots
  fit_bytes serial slots fit = record { counts = counts_bytes slots fit.counts; below = fit.below }

  pub fit_read : (serial : ℕ) (slots : Slots) → Fit (those counts) serial slots → Fit reads serial slots
  fit_read serial slots fit = record { counts = counts_read slots fit.counts; below = fit.below }

  pub tidy_read : (serial : ℕ) (slots : Slots) → Tidy (those counts) serial slots → Tidy reads serial slots
  tidy_read serial slots tidy = record { fit = fit_read serial slots tidy.fit; goes = tidy.goes }

  pub old_read : (slots : Slots) (d : Disk) → FromOld (those counts) slots d → FromOld reads slots d
  old_read slots d from = record {
    disk = from.disk;
    among = from.among;
    label = from.label;
    copy = sym (same_copy d) ∙ ap (λ (o : Option (Copy (List ℕ))). as_read o) from.copy ∙ same_copy from.disk;
  }

  -- a copy that is read is read from one with its serial
  read_from : (o : Option (Copy (List ℕ))) (y : Copy C) → Kept o → as_read o ≡ Some y → (x : Copy (List ℕ)) × (o ≡ Some x) × (y.serial ≡ x.serial)
  read_from None y kept is = absurd cc
  read_from (Some x) y (z, reads_z, same) is = (x, refl, some_serial (sym is ∙ reads_z) ∙ same)
    where
      some_serial : {v w : Copy C} → Some v ≡ Some w → v.serial ≡ w.serial
      some_serial both = cc

  broken_read : (m n : ℕ) (d : Disk) → m ≡ n → Broken (those counts) n d → Broken reads m d
  broken_read m n d same broken = record {
    area = broken.area;
    stored = broken.stored;
    computed = broken.computed;
    copy = sym (same_copy d) ∙ ap (λ (o : Option (Copy (List ℕ))). as_read o) broken.copy
        ∙ ap (λ (k : ℕ). Some (record { serial = k; area = broken.area; body = Differs broken.stored broken.computed })) (sym same);
  }

  pub torn_read : (slots : Slots) (d : Disk) → Torn (those counts) slots d → Torn reads slots d
  torn_read slots d torn =
      let kept : Kept (Some torn.was) = subst (λ (o : Option (Copy (List ℕ))). Kept o) torn.copy (kept_of torn.disk) in
      record {
        disk = torn.disk;
        among = torn.among;
        label = torn.label;
        was = kept.0;
        copy = sym (same_copy torn.disk) ∙ ap (λ (o : Option (Copy (List ℕ))). as_read o) torn.copy ∙ kept.1;
        most = λ y is.
            let found = read_from (copy_of (those counts) d) y (kept_of d) (same_copy d ∙ is) in
            let le : found.0.serial ≤ torn.was.serial = torn.most found.0 found.1 in
            omega (arith, le, found.2, kept.2);
        targets = torn.targets;
        now = elim torn.now [ inl broken ↦ inl (broken_read kept.0.serial torn.was.serial d kept.2 broken) | inr forged ↦ inr forged ];
      }

  pub new_read : (begun : ℕ → C → Type 0) (h : AreaHeader) (body : List ℕ) (c : C) (slots : Slots) (d : Disk) → reads h.serial (take h.length body) ≡ Some c → begun h.serial c
      → FromNew (those counts) (IsCopyMade h body) slots d → FromNew reads begun slots d
  new_read begun h body c slots d is made from = record {
    serial = h.serial;
    config = c;
    area = from.area;
    made = made;
    first = from.first;
    there = from.there;
    label = from.label;
    copy = sym (same_copy d) ∙ ap (λ (o : Option (Copy (List ℕ))). as_read o) from.copy
        ∙ ap (λ (n : ℕ). held_as from.serial from.area (reads n from.config)) from.made.serial_is
        ∙ ap (λ (b : List ℕ). held_as from.serial from.area (reads h.serial b)) from.made.body_is ∙ ap (λ (o : Option C). held_as from.serial from.area o) is
        ∙ ap (λ (n : ℕ). Some (record { serial = n; area = from.area; body = Holds c })) from.made.serial_is;
  }

  -- a body that is read counts
  pub read_counts : (serial : ℕ) (body : List ℕ) (c : C) → reads serial body ≡ Some c → counts serial body ≡ true
  read_counts serial body c is = ap (λ (o : Option C). is_some o) is
