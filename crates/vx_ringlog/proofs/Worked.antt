-- The log of an image on small rings, worked by hand: two records whose seal was cut off at its last flush, with the header of
-- the second one alone, and the same ring when the log was started and one record was sealed.
use Rattle.std.proofs.Common.{◌≡◌, inl, ℕ, zero, suc, ◌<◌, List, [], ◌∷◌, replicate, refl, subst, arith}
use Rattle.vx_model.specs.Content.{Write}
use Rattle.vx_model.specs.States.{first_state}
use Rattle.vx_model.specs.Sites.{first_line}
use Rattle.vx_srlfmt.specs.Kinds.{Top, Front, Body, Other, body_byte}
use Rattle.vx_srlfmt.specs.declared.header.Header.{Header}
use Rattle.vx_srlfmt.specs.declared.record.RecordHead.{RecordHead}
use Rattle.vx_ringlog.specs.Cells.{RingImage}
use Rattle.vx_ringlog.specs.Records.{Era, era_of, Record, given, Genuine, write_logged, as_on_disk, firsts_of, record_of}
use Rattle.vx_ringlog.specs.Chain.{block, ScanStops, Starts}
use Rattle.vx_ringlog.proofs.Blocks.{write_comes_back}
use Rattle.vx_ringlog.specs.Starting.{Raises, Repeats}

-- places of a ring of eight blocks
first_place : block 8 0 ≡ 2
first_place = refl

last_place : block 8 7 ≡ 9
last_place = refl

wrapped_place : block 8 8 ≡ 2
wrapped_place = refl

-- one block of a byte, and what it is on disk
abbrev filled : ℕ → List (List ℕ)
filled byte = replicate 512 byte ∷ []

abbrev stands : ℕ → List ℕ
stands byte = body_byte ∷ replicate 511 byte

filled_on_disk : as_on_disk (filled 0x11) ≡ stands 0x11 ∷ []
filled_on_disk = refl

filled_firsts : firsts_of (filled 0x11) ≡ 0x11 ∷ replicate 15 0
filled_firsts = refl

-- that block, written to block 5 of volume 0 of a first line
abbrev put_of : ℕ → Write
put_of byte = record { volume = 0; start = 5; bytes = replicate 512 byte }

abbrev logged : ℕ → ℕ → ℕ → Record
logged incarnation number byte = record_of (record { incarnation = incarnation; run = 1; line = first_line 0 }) number (put_of byte)

count_of : (logged 1 2 0x22).head.count ≡ 1
count_of = refl

body_of : (logged 1 2 0x22).body ≡ stands 0x22 ∷ []
body_of = refl

is_given : given (logged 1 2 0x22) ≡ replicate 512 0x22
is_given = refl

is_write : write_logged (logged 1 2 0x22) ≡ put_of 0x22
is_write = refl

is_genuine : (incarnation number byte : ℕ) → Genuine (logged incarnation number byte)
is_genuine incarnation number byte = (write_comes_back (record { incarnation = incarnation; run = 1; line = first_line 0 }) number (put_of byte) refl).genuine

abbrev header_of : ℕ → ℕ → Header
header_of stamp incarnation = record { stamp = stamp; state = first_state 0; incarnation = incarnation; floor = 0; run = 1; low = 1; place = 0; applied = 0 }

-- the headers of a start
raised : Raises (header_of 2 1) (header_of 3 2)
raised = record { stamp = omega arith; incarnation = refl; run = refl; line = refl; low = refl; place = refl; floor = refl }

repeated : Repeats (header_of 3 2) (header_of 4 2)
repeated = record { stamp = omega arith; era = refl; low = refl; place = refl; floor = refl }

-- the bodies of both records stand, and the header of the second one
abbrev cut : RingImage
cut zero = Top (header_of 2 1)
cut (suc zero) = Top (header_of 1 1)
cut (suc (suc zero)) = Other
cut (suc (suc (suc zero))) = Body (stands 0x11)
cut (suc (suc (suc (suc zero)))) = Front (logged 1 2 0x22).head
cut (suc (suc (suc (suc (suc zero))))) = Body (stands 0x22)
cut (suc (suc (suc (suc (suc (suc b)))))) = Other

-- the log was started, and a record of number 1 was sealed
abbrev sealed_again : RingImage
sealed_again zero = Top (header_of 4 2)
sealed_again (suc zero) = Top (header_of 3 2)
sealed_again (suc (suc zero)) = Front (logged 2 1 0x11).head
sealed_again (suc (suc (suc zero))) = Body (stands 0x11)
sealed_again (suc (suc (suc (suc zero)))) = Front (logged 1 2 0x22).head
sealed_again (suc (suc (suc (suc (suc zero))))) = Body (stands 0x22)
sealed_again (suc (suc (suc (suc (suc (suc b)))))) = Other

less_top : (a f : Header) (n : ℕ) → Top a ≡ Top f → a.stamp < n → f.stamp < n
less_top a f n is less = let same : a ≡ f = cc (is) in subst (λ (x : Header). x.stamp < n) same less

other_stops : (e : Era) (n prev : ℕ) → ScanStops e n prev Other
other_stops e n prev = ((λ r t. cc (t.is)), (λ is. cc))

-- the second record is not found
none_found : Starts 8 cut (header_of 2 1) []
none_found = record { counts = inl (refl, λ f is. less_top (header_of 1 1) f 2 is (omega arith)); scan = other_stops (era_of (header_of 2 1)) 1 0 }

-- a header of record 2 of incarnation 1 is not taken behind a record of incarnation 2
earlier_stops : ScanStops (era_of (header_of 4 2)) 2 2 (Front (logged 1 2 0x22).head)
earlier_stops = (
  (λ r t.
      let same : (logged 1 2 0x22).head ≡ r = cc (t.is) in
      let low : r.incarnation ≡ 1 = subst (λ (x : RecordHead). x.incarnation ≡ 1) same refl in omega (arith, low, t.not_below)),
  (λ is. cc),
)

-- the new one is found, and the header of the old second one is not taken behind it
one_found : Starts 8 sealed_again (header_of 4 2) (logged 2 1 0x11 ∷ [])
one_found = record {
  counts = inl (refl, λ f is. less_top (header_of 3 2) f 4 is (omega arith));
  scan = (
    (record { is = refl; number = refl; run = refl; line = refl; not_below = omega arith; not_above = omega arith }, is_genuine 2 1 0x11),
    (refl, tt),
    earlier_stops,
  );
}
