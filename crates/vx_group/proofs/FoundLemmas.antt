-- What an import found fits the shelf, also with the disks that came back held as good.
use Rattle.std.proofs.Common.{◌≡◌, ◌⊎◌, inl, inr, ℕ, zero, suc, ◌+◌, Bool, true, false, Option, Some, None, List, [], ◌∷◌, length, refl, ap, sym, ◌∙◌, subst}
use Rattle.std.specs.Prelude.{◌&&◌, ◌==◌, bytes_eq, nat_lt, if◌then◌else◌, slice_get, flat_map}
use Rattle.std.specs.List.{list_all}
use Rattle.vx_disk.specs.Shelf.{Image, Meaning}
use Rattle.vx_wire.specs.Seals.{digest_of}
use Rattle.vx_copyfmt.specs.Areas.{header_of}
use Rattle.vx_copyfmt.specs.Copies.{Body, Copy, Differs, Disk, Holds, area_a, area_b, body_of, copy_at, copy_of, copy_under, greater, holding, judged}
use Rattle.vx_copyfmt.specs.Imports.{Found, by_body, by_labels, by_newest, import_of, is_label, later, newest_found, on_disk, or_missing, missing, strange}
use Rattle.vx_copyfmt.specs.Labels.{seen_in}
use Rattle.vx_copyfmt.specs.declared.area.AreaHeader.{AreaHeader}
use Rattle.vx_config.specs.Checks.{ends_within, in_region, is_sound, runs, volume_runs}
use Rattle.vx_config.specs.declared.config.Config.{Config}
use Rattle.vx_config.specs.declared.entry.DiskEntry.{DiskEntry}
use Rattle.vx_config.specs.declared.entry.Subdisk.{Subdisk}
use Rattle.vx_copies.specs.Answers.{returned, returned_from}
use Rattle.vx_copies.specs.Bodies.{failed_in, fits_units, have_blocks, if_wanted, is_wanted, of_serial, reads_in}
use Rattle.vx_copies.specs.Looking.{on_shelf}

-- ---- what is found was read

pub later_is : {C : Type 0} (o p : Option (ℕ × Copy C)) (z : ℕ × Copy C) → later o p ≡ Some z → (o ≡ Some z) ⊎ (p ≡ Some z)
later_is None p z is = inr is
later_is (Some x) None z is = inl is
later_is (Some x) (Some y) z is = by (nat_lt x.1.serial y.1.serial) is
  where
    by : (b : Bool) → (if b then Some y else Some x) ≡ Some z → (Some x ≡ Some z) ⊎ (Some y ≡ Some z)
    by true e = inr e
    by false e = inl e

greater_is : {C : Type 0} (o p : Option (Copy C)) (z : Copy C) → greater o p ≡ Some z → (o ≡ Some z) ⊎ (p ≡ Some z)
greater_is None p z is = inr is
greater_is (Some x) None z is = inl is
greater_is (Some x) (Some y) z is = by (nat_lt x.serial y.serial) is
  where
    by : (b : Bool) → (if b then Some y else Some x) ≡ Some z → (Some x ≡ Some z) ⊎ (Some y ≡ Some z)
    by true e = inr e
    by false e = inl e

put_is : {C : Type 0} (n : ℕ) (b : Bool) (o : Option (Copy C)) (z : ℕ × Copy C) → (if b then on_disk n o else None) ≡ Some z → (z.0 ≡ n) × (o ≡ Some z.1)
put_is n true None z is = absurd cc
put_is n true (Some y) z is = let same : (n, y) ≡ z = cc in (ap (λ (q : ℕ × Copy _). q.0) (sym same), ap (λ (q : ℕ × Copy _). Some q.1) same)
put_is n false o z is = absurd cc

newest_copy : {C : Type 0} (reads : ℕ → List ℕ → Option C) (R : ℕ → Bool) (j : Image) (n : ℕ) (z : ℕ × Copy C) → newest_found reads R j n ≡ Some z → copy_of reads (j z.0) ≡ Some z.1
newest_copy reads R j zero z is = absurd cc
newest_copy reads R j (suc n) z is = elim (later_is (newest_found reads R j n) (if R n && is_label (seen_in (j n 0)) then on_disk n (copy_of reads (j n)) else None) z is) [
  | inl before ↦ newest_copy reads R j n z before
  | inr here ↦ let it = put_is n (R n && is_label (seen_in (j n 0))) (copy_of reads (j n)) z here in subst (λ (k : ℕ). copy_of reads (j k) ≡ Some z.1) (sym it.0) it.1
]

-- a body that was read
record WasRead {C : Type 0} (reads : ℕ → List ℕ → Option C) (x : C) : Type 0 where
  serial : ℕ
  bytes : List ℕ
  is : reads serial bytes ≡ Some x

holds_same : {C : Type 0} (c x : C) → Holds c ≡ Holds x → c ≡ x
holds_same c x is = cc

copy_read : {C : Type 0} (reads : ℕ → List ℕ → Option C) (d : Disk) (area : ℕ) (o : Option AreaHeader) (y : Copy C) (x : C) → copy_under reads d area o ≡ Some y → y.body ≡ Holds x → WasRead reads x
copy_read reads d area None y x is holds = absurd cc
copy_read {C} reads d area (Some h) y x is holds = by (bytes_eq (digest_of (body_of d area h.length)) h.digest) is
  where
    held : (o : Option C) → reads h.serial (body_of d area h.length) ≡ o → holding area h.serial o ≡ Some y → WasRead reads x
    held None at e = absurd cc
    held (Some c) at e =
        let same : record { serial = h.serial; area = area; body = Holds c } ≡ y = cc in
        let one : c ≡ x = holds_same c x (ap (λ (k : Copy C). k.body) same ∙ holds) in
        record { serial = h.serial; bytes = body_of d area h.length; is = at ∙ ap (λ (k : C). Some k) one }

    by : (b : Bool) → judged area h (body_of d area h.length) (reads h.serial (body_of d area h.length)) b ≡ Some y → WasRead reads x
    by true e = held (reads h.serial (body_of d area h.length)) refl e
    by false e =
        let same : record { serial = h.serial; area = area; body = Differs h.digest (digest_of (body_of d area h.length)) } ≡ y = cc in
        absurd (let clash : Differs h.digest (digest_of (body_of d area h.length)) ≡ Holds x = ap (λ (k : Copy C). k.body) same ∙ holds in cc)

copy_was : {C : Type 0} (reads : ℕ → List ℕ → Option C) (d : Disk) (y : Copy C) (x : C) → copy_of reads d ≡ Some y → y.body ≡ Holds x → WasRead reads x
copy_was reads d y x is holds = elim (greater_is (copy_at reads d area_a) (copy_at reads d area_b) y is) [
  | inl a ↦ copy_read reads d area_a (header_of (d area_a)) y x a holds
  | inr b ↦ copy_read reads d area_b (header_of (d area_b)) y x b holds
]

found_was : (reads : ℕ → List ℕ → Option Config) (units : ℕ) (R : ℕ → Bool) (j : Image) (x : Config) → import_of reads failed_in units R j ≡ Found x → WasRead reads x
unfolding import_of
found_was reads units R j x is = by_label (strange R j units) is
  where
    body_is : (b : Body Config) (disk area : ℕ) → by_body failed_in units R disk area b ≡ Found x → b ≡ Holds x
    body_is (Holds c) disk area e = missed (missing (failed_in c) R units) e
      where
        missed : (o : Option ℕ) → or_missing c o ≡ Found x → Holds c ≡ Holds x
        missed None e = let same : c ≡ x = cc in ap Holds same
        missed (Some k) e = absurd cc
    body_is (Differs s t) disk area e = absurd cc

    by_new : (o : Option (ℕ × Copy Config)) → newest_found reads R j units ≡ o → by_newest failed_in units R o ≡ Found x → WasRead reads x
    by_new None at e = absurd cc
    by_new (Some z) at e = copy_was reads (j z.0) z.1 x (newest_copy reads R j units z at) (body_is z.1.body z.0 z.1.area e)

    by_label : (o : Option ℕ) → by_labels o (by_newest failed_in units R (newest_found reads R j units)) ≡ Found x → WasRead reads x
    by_label None e = by_new (newest_found reads R j units) refl e
    by_label (Some v) e = absurd cc

pub found_wanted : (m : Meaning) (R : ℕ → Bool) (j : Image) (x : Config) → import_of (on_shelf m) failed_in m.units R j ≡ Found x → is_wanted m.units m.size x ≡ true
unfolding reads_in
found_wanted m R j x is = let was = found_was (on_shelf m) m.units R j x is in of_read was.serial (reads_in m.units m.size was.bytes) was.bytes refl was.is
  where
    kept : (o : Option Config) → if_wanted m.units m.size o ≡ Some x → is_wanted m.units m.size x ≡ true
    kept None e = absurd cc
    kept (Some c) e = tested (is_wanted m.units m.size c) refl e
      where
        tested : (b : Bool) → is_wanted m.units m.size c ≡ b → (if b then Some c else None) ≡ Some x → is_wanted m.units m.size x ≡ true
        tested true at f = let same : c ≡ x = cc in subst (λ (k : Config). is_wanted m.units m.size k ≡ true) same at
        tested false at f = absurd cc

    of_read : (s : ℕ) (o : Option Config) (bytes : List ℕ) → o ≡ reads_in m.units m.size bytes → of_serial s o ≡ Some x → is_wanted m.units m.size x ≡ true
    of_read s None bytes at e = absurd cc
    of_read s (Some c) bytes at e = serial_is (c.serial == s) e
      where
        serial_is : (b : Bool) → (if b then Some c else None) ≡ Some x → is_wanted m.units m.size x ≡ true
        serial_is true f = let same : c ≡ x = cc in kept _ (sym at ∙ ap (λ (k : Config). Some k) same)
        serial_is false f = absurd cc

-- ---- with disks that came back

length_back : (R : ℕ → Bool) (k : ℕ) (ds : List DiskEntry) → length (returned_from R k ds) ≡ length ds
length_back R k [] = refl
length_back R k (d ∷ ds) = ap suc (length_back R (k + 1) ds)

have_back : (R : ℕ → Bool) (size : ℕ → ℕ) (k n : ℕ) (ds : List DiskEntry) → have_blocks size n (returned_from R k ds) ≡ have_blocks size n ds
have_back R size k n [] = refl
have_back R size k n (d ∷ ds) = ap (λ (b : Bool). (d.blocks == size n) && b) (have_back R size (k + 1) (n + 1) ds)

ends_back : (r : Subdisk) (R : ℕ → Bool) (k : ℕ) (ds : List DiskEntry) (u : ℕ) → ends_within r (slice_get (returned_from R k ds) u) ≡ ends_within r (slice_get ds u)
ends_back r R k [] u = refl
ends_back r R k (d ∷ ds) zero = refl
ends_back r R k (d ∷ ds) (suc u) = ends_back r R (k + 1) ds u

regions_back : (R : ℕ → Bool) (ds : List DiskEntry) (rs : List Subdisk) → list_all (in_region (returned_from R 0 ds)) rs ≡ list_all (in_region ds) rs
regions_back R ds [] = refl
regions_back R ds (r ∷ rs) =
    ap (λ (b : Bool). b && list_all (in_region (returned_from R 0 ds)) rs) (ends_back r R 0 ds r.disk) ∙ ap (λ (b : Bool). in_region ds r && b) (regions_back R ds rs)

sound_back : (R : ℕ → Bool) (c : Config) → is_sound (returned R c) ≡ is_sound c
unfolding is_sound runs
sound_back R c = rw (regions_back R c.disks (flat_map volume_runs c.volumes)) refl

pub wanted_back_again : (R : ℕ → Bool) (units : ℕ) (size : ℕ → ℕ) (c : Config) → is_wanted units size c ≡ true → is_wanted units size (returned R c) ≡ true
wanted_back_again R units size c wanted =
    ap (λ (b : Bool). b && fits_units units size (returned R c)) (sound_back R c)
    ∙ ap (λ (n : ℕ). is_sound c && ((n == units) && have_blocks size 0 (returned R c).disks)) (length_back R 0 c.disks)
    ∙ ap (λ (b : Bool). is_sound c && ((length c.disks == units) && b)) (have_back R size 0 0 c.disks) ∙ wanted
