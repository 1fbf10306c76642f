-- What reads of a log's blocks show.
use Rattle.std.proofs.Common.{◌≡◌, ◌⊎◌, inl, inr, ⊎_elim, ℕ, zero, suc, ◌+◌, ◌-◌, ◌*◌, ◌%◌, ◌<◌, ◌≤◌, Bool, true, false, ◌&&◌, List, [], ◌∷◌, length, take, drop, IsTrue, refl, sym, ◌∙◌, ap, subst, arith, lit<, append-nil}
use Rattle.std.specs.Prelude.{nat_lt}
use Rattle.std.proofs.Math.Nat.{mod-eq_of_lt}
use Rattle.std.proofs.lemmas.Bool.{lt-ltb, le-ltb, and_from}
use Rattle.vx_ringlog.specs.Records.{first_blocks}
use Rattle.vx_wire.specs.Numbers.{be_bytes, number_at}
use Rattle.vx_wire.specs.Places.{cut}
use Rattle.vx_wire.specs.Seals.{IsSealed, IsBroken, digest_of}
use Rattle.vx_wire.specs.declared.sealed.BrokenSeal.{BrokenSeal}
use Rattle.vx_wire.proofs.NumberLemmas.{number_at-be_bytes, number_at-cut}
use Rattle.vx_wire.proofs.SealLemmas.{IsSealed-sealed}
use Rattle.vx_srlfmt.specs.Headers.{header_magic, header_fields, header_block, IsHeader, IsDamagedHeader}
use Rattle.vx_srlfmt.specs.Kinds.{Kind, Top, Damaged, Other}
use Rattle.vx_srlfmt.specs.Records.{IsSeen}
use Rattle.vx_srlfmt.specs.declared.header.Header.{Header}
use Rattle.vx_srlfmt.specs.declared.record.Seen.{Seen}
use Rattle.vx_srlfmt.specs.declared.record.Seen.TheVariants as seen
use Rattle.vx_srlfmt.proofs.Lengths.{length-header_fields}
use Rattle.vx_disk.specs.Shelf.{Covers, Goes, Meaning, Nothing, Read}
use Rattle.vx_disk.proofs.Runs.{piece_one, covers_one}
use Rattle.vx_ringlog.specs.Cells.{RingImage}
use Rattle.vx_ringlog.specs.Chain.{block}
use Rattle.vx_ringio.specs.Classes.{class_of, is_of_ring}
use Rattle.vx_ringio.specs.Reading.{EachPlace, GaveBlocks, ReadsAs, SeesFront, ShowsFront, ShowsBlocks}
use Rattle.vx_ringio.proofs.Classing.{class_is, class_front, class_no_top, front_class, damaged_class, top_class}
use Rattle.vx_ringio.proofs.Following.{still_read}
use Rattle.vx_ringio.proofs.Writing.{nth, nth_more}

-- ---- headers of the log

pub is_of : (ring : ℕ) (h : Header) → h.place < ring → 0 < h.low → h.run ≤ h.stamp → is_of_ring ring h ≡ true
is_of ring h place low runs =
    and_from (nat_lt h.place ring) (nat_lt 0 h.low && nat_lt h.run (h.stamp + 1)) (lt-ltb h.place ring place)
    (and_from (nat_lt 0 h.low) (nat_lt h.run (h.stamp + 1)) (lt-ltb 0 h.low low) (lt-ltb h.run (h.stamp + 1) (omega (arith, runs))))

and_false : (a b : Bool) → (a ≡ false) ⊎ (b ≡ false) → (a && b) ≡ false
and_false true b or = ⊎_elim (λ no. absurd cc) (λ no. no) or
and_false false b or = refl

pub is_of_other : (ring : ℕ) (h : Header) → ((h.place < ring) × (0 < h.low) × (h.stamp < h.run)) ⊎ (((h.place < ring) × (h.low ≤ 0)) ⊎ (ring ≤ h.place)) → is_of_ring ring h ≡ false
is_of_other ring h (inl over) =
    and_false (nat_lt h.place ring) (nat_lt 0 h.low && nat_lt h.run (h.stamp + 1))
    (inr (and_false (nat_lt 0 h.low) (nat_lt h.run (h.stamp + 1)) (inr (le-ltb h.run (h.stamp + 1) (omega (arith, over.2))))))
is_of_other ring h (inr (inl low)) =
    and_false (nat_lt h.place ring) (nat_lt 0 h.low && nat_lt h.run (h.stamp + 1)) (inr (and_false (nat_lt 0 h.low) (nat_lt h.run (h.stamp + 1)) (inl (le-ltb 0 h.low low.1))))
is_of_other ring h (inr (inr high)) = and_false (nat_lt h.place ring) (nat_lt 0 h.low && nat_lt h.run (h.stamp + 1)) (inl (le-ltb h.place ring high))

header_sealed : (b : List ℕ) (h : Header) → IsHeader b h → IsSealed b
unfolding header_block
header_sealed b h is =
    let few : length (header_fields h) ≤ 480 = omega (arith, length-header_fields h, is.can.state.few) in
    subst IsSealed (sym is.is) (IsSealed-sealed (header_fields h) few)

abbrev NoTop : ℕ → List ℕ → Type 0
NoTop ring b = (h : Header) → class_of ring b ≡ Top h → ⊥

other_not_top : (v : Kind) (h : Header) → v ≡ Other → v ≡ Top h → ⊥
other_not_top v h other top = cc

-- a header of another ring
pub of_other_ring : (ring : ℕ) (b : List ℕ) (h : Header) → IsHeader b h → is_of_ring ring h ≡ false → NoTop ring b × (IsDamagedHeader b → ⊥)
of_other_ring ring b h is other = (
  (λ g top. other_not_top (class_of ring b) g (class_no_top ring b h is other) top),
  (λ damaged. damaged.broken (header_sealed b h is)),
)

pub no_top : (ring : ℕ) (b : List ℕ) → ((h : Header) → IsHeader b h → ⊥) → NoTop ring b
no_top ring b none h top = none h (top_class ring b h top)

magic_read : (b : List ℕ) → take 8 b ≡ be_bytes 8 header_magic → number_at 8 0 b ≡ header_magic
magic_read b begins =
    number_at-cut 8 0 b ∙ ap (λ (xs : List ℕ). number_at 8 0 xs) (begins ∙ sym (append-nil (be_bytes 8 header_magic)))
    ∙ number_at-be_bytes 8 header_magic [] [] (lit< tt)

pub not_begun : (b : List ℕ) (n : ℕ) → n ≡ number_at 8 0 b → (n ≡ header_magic → ⊥) → IsDamagedHeader b → ⊥
not_begun b n is other damaged = other (is ∙ magic_read b damaged.begins)

pub begun : (b : List ℕ) (n : ℕ) → be_bytes 8 n ≡ cut 0 8 b → n ≡ header_magic → take 8 b ≡ be_bytes 8 header_magic
begun b n spelled is = sym spelled ∙ ap (λ (m : ℕ). be_bytes 8 m) is

pub broken_top : (ring : ℕ) (b : List ℕ) (broken : BrokenSeal) → ((h : Header) → IsHeader b h → ⊥) → take 8 b ≡ be_bytes 8 header_magic → IsBroken b broken
    → NoTop ring b × IsDamagedHeader b × (broken.stored ≡ drop 480 b) × (broken.computed ≡ digest_of (take 480 b))
broken_top ring b broken none begins is = (no_top ring b none, record { begins = begins; broken = is.differ }, is.stored, is.computed)

-- a read of one block gives its bytes
pub one_read : (unit b : ℕ) (bytes : List ℕ) (m : Meaning) → length bytes ≡ 512 → Read m unit b bytes → IsTrue m.tells → m.reads unit b bytes
one_read unit b bytes m size read tells = subst (λ (v : List ℕ). m.reads unit b v) (piece_one b bytes size) (read.each tells b (covers_one unit b bytes size))

-- ---- the header of a record

pub seen_shows : (ring : ℕ) (b : List ℕ) (s : Seen) → IsSeen b s → ShowsFront s (class_of ring b)
seen_shows ring b (seen.Record r) is = class_front ring b r is
seen_shows ring b (seen.Damaged stored computed) is = class_is ring b Damaged is.damaged
seen_shows ring b seen.Other is = ((λ r front. is.0 r (front_class ring b r front)), (λ damaged. is.1 (damaged_class ring b damaged)))

pub front_shows : (unit ring place : ℕ) (bytes : List ℕ) (m : Meaning) (s : Seen) → length bytes ≡ 512 → 0 < ring → Read m unit (block ring place) bytes → IsSeen bytes s
    → (c : RingImage) → ReadsAs unit ring c m → ShowsFront s (c (block ring place))
front_shows unit ring place bytes m s size some read is c reads =
    subst (λ (v : Kind). ShowsFront s v) (reads.each (block ring place) bytes (omega (arith, some)) (one_read unit (block ring place) bytes m size read reads.tells)) (seen_shows ring bytes s is)

-- ---- blocks of a body

places_each : (P : ℕ → List ℕ → Type 0) (ring p n : ℕ) (bytes : List ℕ) → ((k : ℕ) → k < n → P (block ring (p + k)) (nth bytes k)) → EachPlace P ring p (first_blocks n bytes)
places_each P ring p zero bytes each = tt
places_each P ring p (suc n) bytes each = (
  (let at : p + 0 ≡ p = omega arith in subst (λ (q : ℕ). P (block ring q) (take 512 bytes)) at (each 0 (omega arith))),
  places_each P ring (suc p) n (drop 512 bytes) (λ k low.
      let at : p + suc k ≡ suc p + k = omega arith in
      subst (λ (q : ℕ). P (block ring q) (nth (drop 512 bytes) k)) at (subst (λ (x : List ℕ). P (block ring (p + suc k)) x) (sym (nth_more bytes k)) (each (suc k) (omega arith)))),
)

-- what a read of blocks that do not pass the ring's end gave
pub part_gave : (unit ring first n : ℕ) (bytes : List ℕ) (m : Meaning) → length bytes ≡ 512 * n → first + n ≤ ring → Read m unit (2 + first) bytes → IsTrue m.tells → GaveBlocks unit ring m first (first_blocks n bytes)
part_gave unit ring first n bytes m size fits read tells = places_each (m.reads unit) ring first n bytes each
  where
    each : (k : ℕ) → k < n → m.reads unit (block ring (first + k)) (nth bytes k)
    each k low =
        let at : 2 + first + k - (2 + first) ≡ k = omega arith in
        let covers : Covers unit (2 + first) bytes unit (2 + first + k) = record { there = refl; first = omega arith; last = omega (arith, size, low) } in
        let same : (first + k) % ring ≡ first + k = mod-eq_of_lt (omega (arith, fits, low)) in
        let there : 2 + first + k ≡ block ring (first + k) = omega (arith, same) in
        subst (λ (b : ℕ). m.reads unit b (nth bytes k)) there (subst (λ (j : ℕ). m.reads unit (2 + first + k) (take 512 (drop (512 * j) bytes))) at (read.each tells (2 + first + k) covers))

-- the classes of the blocks that reads gave
pub gave_shows : (unit ring : ℕ) (m : Meaning) (p : ℕ) (bs : List (List ℕ)) → 0 < ring → (c : RingImage) → ReadsAs unit ring c m → GaveBlocks unit ring m p bs → ShowsBlocks ring c p bs
gave_shows unit ring m p [] some c reads gave = tt
gave_shows unit ring m p (b ∷ bs) some c reads gave = (reads.each (block ring p) b (omega (arith, some)) gave.0, gave_shows unit ring m (suc p) bs some c reads gave.1)

pub part_shows : (unit ring first n : ℕ) (bytes : List ℕ) (m : Meaning) → length bytes ≡ 512 * n → first + n ≤ ring → 0 < ring → Read m unit (2 + first) bytes
    → (c : RingImage) → ReadsAs unit ring c m → ShowsBlocks ring c first (first_blocks n bytes)
part_shows unit ring first n bytes m size fits some read c reads = gave_shows unit ring m first (first_blocks n bytes) some c reads (part_gave unit ring first n bytes m size fits read reads.tells)

-- and those that they gave behind other reads
pub gave_before : (unit ring : ℕ) (old mid : Meaning) (p : ℕ) (bs : List (List ℕ)) → Goes Nothing old mid → (IsTrue mid.down → ⊥) → GaveBlocks unit ring mid p bs → GaveBlocks unit ring old p bs
gave_before unit ring old mid p [] goes up gave = tt
gave_before unit ring old mid p (b ∷ bs) goes up gave = (still_read old mid goes up unit (block ring p) b gave.0, gave_before unit ring old mid (suc p) bs goes up gave.1)

pub sees_front_before : (unit b : ℕ) (old mid : Meaning) (s : Seen) → Goes Nothing old mid → (IsTrue mid.down → ⊥) → SeesFront unit b mid s → SeesFront unit b old s
sees_front_before unit b old mid s goes up sees = record { bytes = sees.bytes; read = still_read old mid goes up unit b sees.bytes sees.read; is = sees.is }
