-- While a stamp and a number are left for it, no call is refused for want of one.
use Rattle.std.proofs.Common.{◌≡◌, ◌⊎◌, inl, inr, ⊎_elim, ◌+◌, ◌<◌, ◌≤◌, ℕ, Bool, true, false, List, ap, sym, subst, refl, arith}
use Rattle.std.specs.Prelude.{Option, Some, None, Result, Ok, Err, OnOk, ltb, leb, ◌&&◌, ◌||◌, if◌then◌else◌}
use Rattle.std.proofs.lemmas.Bool.Decides.{nat_tests}
use Rattle.vx_model.specs.Answer.{is_too_large}
use Rattle.vx_model.specs.declared.no.No.{No}
use Rattle.vx_model.specs.declared.no.No.TheVariants.{Device, Limit, Down, Range, Size}
use Rattle.vx_model.specs.declared.no.Counted.TheVariants.{Number}
use Rattle.vx_disk.specs.Shelf.{Meaning}
use Rattle.vx_srl.specs.Views.{Log, head_number, most_number}
use Rattle.vx_rvg.specs.Groups.{ApplyIs, GroupFails, WriteIs, has_numbers, halted_or, write_refusal}
use Rattle.vx_rvg.specs.Saves.{SaveIs, reclaim_refusal, reclaimed, log_without}
use Rattle.vx_rvg.specs.Views.{Core, last_of}
use Rattle.vx_diskset.specs.Rooms.{HasNumbers, NeverLimit, TakesOne}
use Rattle.vx_diskset.proofs.MakeRoom.{GivenUp, given_up}

-- ---- refusals that are not for want of a number

abbrev NotLimit : No → Type 0
NotLimit (Limit what most) = ⊥
NotLimit other = Unit {0}

abbrev NotSome : Option No → Type 0
NotSome None = Unit {0}
NotSome (Some why) = NotLimit why

err_never : (T : Type 0) (why : No) → NotLimit why → NeverLimit (let r : Result T No = Err why in r)
err_never T (Limit what most) not = absurd not
err_never T other not = tt

pub never_as : (T U : Type 0) (why : No) → NeverLimit (let r : Result T No = Err why in r) → NeverLimit (let r : Result U No = Err why in r)
never_as T U (Limit what most) never = absurd never
never_as T U other never = tt

refused_never : {T : Type 0} (r : Result T No) (why : No) → NotLimit why → r ≡ Err why → NeverLimit r
refused_never {T} r why not is = subst (λ x. NeverLimit x) (sym is) (err_never T why not)

fails_not : (c : Core) (old new : Meaning) (c' : Core) (why : No) → GroupFails c old new c' why → NotLimit why
fails_not c old new c' (Device disk) fails = tt
fails_not c old new c' Down fails = tt
fails_not c old new c' (Limit what most) fails = fails
fails_not c old new c' other fails = absurd fails

unless : (halted : Option ℕ) (rest : Option No) → NotSome rest → NotSome (halted_or halted rest)
unless None rest not = not
unless (Some disk) rest not = tt

one_of : (b : Bool) (x y : Option No) → NotSome x → NotSome y → NotSome (if b then x else y)
one_of true x y one two = one
one_of false x y one two = two

-- ---- an apply

apply_by : (o : Option No) (c : Core) (count : ℕ) (old new : Meaning) (c' : Core) (r : Result ℕ No) → NotSome o → ApplyIs o c count old new c' r → NeverLimit r
apply_by (Some why) c count old new c' r not is = refused_never r why not is.0
apply_by None c count old new c' (Ok number) not is = tt
apply_by None c count old new c' (Err why) not is = err_never ℕ why (fails_not c old new c' why is)

pub apply_never : (c : Core) (count : ℕ) (old new : Meaning) (c' : Core) (r : Result ℕ No) → ApplyIs (halted_or c.halted None) c count old new c' r → NeverLimit r
apply_never c count old new c' r is = apply_by (halted_or c.halted None) c count old new c' r (unless c.halted None tt) is

-- ---- what a log gives up

few_left : (b s t : Bool) (stamp to : ℕ) → leb most_number stamp ≡ s → leb most_number to ≡ t → stamp + 1 ≤ most_number → to + 1 ≤ most_number → NotSome (if b && (s || t) then Some (Limit Number most_number) else None)
few_left false s t stamp to es et stamps numbers = tt
few_left true false false stamp to es et stamps numbers = tt
few_left true true t stamp to es et stamps numbers = let full : most_number ≤ stamp = grind (arith, nat_tests) in absurd (omega (arith, full, stamps))
few_left true false true stamp to es et stamps numbers = let full : most_number ≤ to = grind (arith, nat_tests) in absurd (omega (arith, full, numbers))

reclaim_not : (c : Core) (to : ℕ) → to ≤ last_of c → HasNumbers c 1 → NotSome (reclaim_refusal c to)
reclaim_not c to known has =
    unless c.halted (if leb c.log.header.low to && (leb most_number c.log.header.stamp || leb most_number to) then Some (Limit Number most_number) else None)
    (few_left (leb c.log.header.low to) (leb most_number c.log.header.stamp) (leb most_number to) c.log.header.stamp to refl refl has.stamps (omega (arith, known, has.numbers)))

save_by : (o : Option No) (c after : Core) (old new : Meaning) (c' : Core) (r : Result (Unit {0}) No) → NotSome o → SaveIs o c after old new c' r → NeverLimit r
save_by (Some why) c after old new c' r not is = refused_never r why not is.0
save_by None c after old new c' (Ok done) not is = tt
save_by None c after old new c' (Err why) not is = err_never (Unit {0}) why (fails_not c old new c' why is)

save_stamp : (o : Option No) (c : Core) (to : ℕ) (old new : Meaning) (c' : Core) (r : Result (Unit {0}) No) → 0 < c.log.header.low → to ≤ last_of c → SaveIs o c (reclaimed c to) old new c' r → OnOk r (c'.log.header.stamp ≤ c.log.header.stamp + 1)
save_stamp (Some why) c to old new c' (Ok done) some known is = absurd (let e : Ok done ≡ Err why = is.0 in cc)
save_stamp None c to old new c' (Ok done) some known is =
    let same = ap (λ (k : Core). k.log.header.stamp) is in
    let given : GivenUp c.log (log_without c.log to) to = given_up c.log to some known in
    ⊎_elim (λ one. omega (arith, same, one)) (λ two. omega (arith, same, two)) given.stamp
save_stamp o c to old new c' (Err why) some known is = tt

pub reclaim_takes : (c : Core) (to : ℕ) (old new : Meaning) (c' : Core) (r : Result (Unit {0}) No) → 0 < c.log.header.low → to ≤ last_of c → SaveIs (reclaim_refusal c to) c (reclaimed c to) old new c' r → TakesOne c c' r
reclaim_takes c to old new c' r some known is = record {
  never = λ has. save_by (reclaim_refusal c to) c (reclaimed c to) old new c' r (reclaim_not c to known has) is;
  stamp = save_stamp (reclaim_refusal c to) c to old new c' r some known is;
}

-- ---- a write

pub numbers_log : (c d : Core) (count : ℕ) → d.log ≡ c.log → HasNumbers c count → HasNumbers d count
numbers_log c d count is has = record {
  stamps = omega (arith, has.stamps, ap (λ (l : Log). l.header.stamp) is);
  numbers = omega (arith, has.numbers, ap (λ (l : Log). head_number l) is);
}

write_not : (c : Core) (size start count : ℕ) → last_of c + 1 ≤ most_number → NotSome (write_refusal c size start count)
write_not c size start count numbers =
    let last : Option No = if leb most_number (last_of c) then Some (Limit Number most_number) else None in
    let mid : Option No = if ltb size (start + count) then Some Range else last in
    let rest : Option No = if is_too_large c.log.ring count then Some Size else mid in
    unless c.halted rest (one_of (is_too_large c.log.ring count) (Some Size) mid tt (one_of (ltb size (start + count)) (Some Range) last tt (by (leb most_number (last_of c)) refl)))
  where
    by : (t : Bool) → leb most_number (last_of c) ≡ t → NotSome (if t then Some (Limit Number most_number) else None)
    by true e = let full : most_number ≤ last_of c = grind (arith, nat_tests) in absurd (omega (arith, full, numbers))
    by false e = tt

write_by : (o : Option No) (c : Core) (vol start : ℕ) (bytes : List ℕ) (old new : Meaning) (c' : Core) (r : Result ℕ No) → NotSome o → WriteIs o c vol start bytes old new c' r → NeverLimit r
write_by (Some why) c vol start bytes old new c' r not is = refused_never r why not is.0
write_by None c vol start bytes old new c' (Ok number) not is = tt
write_by None c vol start bytes old new c' (Err why) not is = err_never ℕ why (fails_not c old new c' why is)

write_stamp : (o : Option No) (c : Core) (vol start : ℕ) (bytes : List ℕ) (old new : Meaning) (c' : Core) (r : Result ℕ No) (most : ℕ) → c.log.header.stamp ≤ most → WriteIs o c vol start bytes old new c' r → OnOk r (c'.log.header.stamp ≤ most)
write_stamp (Some why) c vol start bytes old new c' (Ok number) most le is = absurd (let e : Ok number ≡ Err why = is.0 in cc)
write_stamp None c vol start bytes old new c' (Ok number) most le is = omega (arith, le, ap (λ (k : Core). k.log.header.stamp) is.1)
write_stamp o c vol start bytes old new c' (Err why) most le is = tt

-- behind room for it, which took one stamp at most
pub write_takes : (c d : Core) (vol size start count : ℕ) (bytes : List ℕ) (old new : Meaning) (c' : Core) (r : Result ℕ No) → last_of d ≡ last_of c → d.log.header.stamp ≤ c.log.header.stamp + 1
    → WriteIs (write_refusal d size start count) d vol start bytes old new c' r → TakesOne c c' r
write_takes c d vol size start count bytes old new c' r last stamp is = record {
  never = λ has. write_by (write_refusal d size start count) d vol start bytes old new c' r (write_not d size start count (omega (arith, last, has.numbers))) is;
  stamp = write_stamp (write_refusal d size start count) d vol start bytes old new c' r (c.log.header.stamp + 1) stamp is;
}

-- ---- whether numbers are left

pub has_them : (c : Core) (count : ℕ) → has_numbers c count ≡ true → HasNumbers c count
has_them c count is = by (leb (c.log.header.stamp + count) most_number) (leb (last_of c + count) most_number) refl refl is
  where
    by : (a b : Bool) → leb (c.log.header.stamp + count) most_number ≡ a → leb (last_of c + count) most_number ≡ b → (a && b) ≡ true → HasNumbers c count
    by true true ea eb e = record { stamps = grind (arith, nat_tests); numbers = grind (arith, nat_tests) }
    by true false ea eb e = absurd (cc)
    by false b ea eb e = absurd (cc)

pub lacks_them : (c : Core) (count : ℕ) → has_numbers c count ≡ false → (most_number < c.log.header.stamp + count) ⊎ (most_number < last_of c + count)
lacks_them c count is = by (leb (c.log.header.stamp + count) most_number) (leb (last_of c + count) most_number) refl refl is
  where
    by : (a b : Bool) → leb (c.log.header.stamp + count) most_number ≡ a → leb (last_of c + count) most_number ≡ b → (a && b) ≡ false → (most_number < c.log.header.stamp + count) ⊎ (most_number < last_of c + count)
    by true true ea eb e = absurd (cc)
    by true false ea eb e = inr (grind (arith, nat_tests))
    by false b ea eb e = inl (grind (arith, nat_tests))
