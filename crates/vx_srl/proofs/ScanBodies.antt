-- The bodies that a scan reads.
use Rattle.std.proofs.Common.{◌≡◌, ℕ, zero, suc, ◌+◌, ◌*◌, ◌/◌, ◌<◌, List, [], ◌∷◌, length, take, drop, get_or, refl, sym, ◌∙◌, ap, subst, arith}
use Rattle.std.specs.Prelude.{All, slice_index}
use Rattle.std.specs.List.{AllByRecursion}
use Rattle.std.proofs.lemmas.List.{get_or-drop, get_or-take}
use Rattle.std.proofs.lemmas.List.Elements.{All-from_recursion, recursion_from_All}
use Rattle.vx_srlfmt.specs.Kinds.{Kind, Body, IsKind, IsBody, body_byte, kind_of}
use Rattle.vx_srlfmt.proofs.KindLaws.{kind_of-is}
use Rattle.vx_srlfmt.specs.declared.record.RecordHead.{RecordHead}
use Rattle.vx_wire.specs.Seals.{digest_of}
use Rattle.vx_disk.specs.Shelf.{Meaning}
use Rattle.vx_ringlog.specs.Cells.{RingImage}
use Rattle.vx_ringlog.specs.Chain.{HasBody}
use Rattle.vx_ringlog.specs.Records.{Record, Genuine, with_firsts, first_blocks}
use Rattle.vx_ringlog.proofs.Blocks.{cut_count}
use Rattle.vx_ringio.specs.Bodies.{all_blocks, given_of}
use Rattle.vx_ringio.specs.Classes.{class_of}
use Rattle.vx_ringio.specs.Reading.{GaveBlocks, ShowsBlocks}
use Rattle.vx_ringio.proofs.Classing.{class_body}
use Rattle.vx_ringio.proofs.Following.{narrowed_body, body_same}
use Rattle.vx_srl.specs.Damages.{SeesRecordBody}

-- ---- the first byte of each block

first_byte : (bytes : List ℕ) → slice_index (take 512 bytes) 0 ≡ get_or bytes (512 * 0) 0
first_byte bytes = get_or-take 512 bytes 0 0 (omega arith)

later_byte : (bytes : List ℕ) (k : ℕ) → get_or (drop 512 bytes) (512 * k) 0 ≡ get_or bytes (512 * suc k) 0
later_byte bytes k =
    let at : 512 + 512 * k ≡ 512 * suc k = omega arith in
    get_or-drop 512 bytes (512 * k) 0 ∙ ap (λ (i : ℕ). get_or bytes i 0) at

bodies_each : (n : ℕ) (bytes : List ℕ) → ((k : ℕ) → k < n → get_or bytes (512 * k) 0 ≡ body_byte) → AllByRecursion IsBody (first_blocks n bytes)
bodies_each zero bytes each = tt
bodies_each (suc n) bytes each = (first_byte bytes ∙ each 0 (omega arith), bodies_each n (drop 512 bytes) (λ k low. later_byte bytes k ∙ each (suc k) (omega arith)))

each_body : (n : ℕ) (bytes : List ℕ) → AllByRecursion IsBody (first_blocks n bytes) → (k : ℕ) → k < n → get_or bytes (512 * k) 0 ≡ body_byte
each_body zero bytes all k low = absurd (omega arith)
each_body (suc n) bytes all zero low = sym (first_byte bytes) ∙ all.0
each_body (suc n) bytes all (suc k) low = sym (later_byte bytes k) ∙ each_body n (drop 512 bytes) all.1 k (omega arith)

pub are_bodies : (n : ℕ) (bytes : List ℕ) → ((k : ℕ) → k < n → get_or bytes (512 * k) 0 ≡ body_byte) → All IsBody (first_blocks n bytes)
are_bodies n bytes each = All-from_recursion IsBody (first_blocks n bytes) (bodies_each n bytes each)

pub byte_of_body : (n : ℕ) (bytes : List ℕ) → All IsBody (first_blocks n bytes) → (k : ℕ) → k < n → get_or bytes (512 * k) 0 ≡ body_byte
byte_of_body n bytes all k low = each_body n bytes (recursion_from_All IsBody (first_blocks n bytes) all) k low

-- ---- what stands where blocks were read

body_class : (ring : ℕ) (b x : List ℕ) → class_of ring b ≡ Body x → IsBody b
unfolding class_of
body_class ring b x is = (subst (λ (k : Kind). IsKind b k) (narrowed_body ring (kind_of b) x is) (kind_of-is b)).0

-- the blocks of a body that stands are those that were read
read_same : (ring : ℕ) (c : RingImage) (p : ℕ) (bs xs : List (List ℕ)) → length bs ≡ length xs → ShowsBlocks ring c p bs → HasBody ring c p xs → bs ≡ xs
read_same ring c p [] [] size shows has = refl
read_same ring c p [] (x ∷ xs) size shows has = absurd (omega arith)
read_same ring c p (b ∷ bs) [] size shows has = absurd (omega arith)
read_same ring c p (b ∷ bs) (x ∷ xs) size shows has =
    ap (λ (y : List ℕ). y ∷ bs) (body_same ring b x (shows.0 ∙ has.0)) ∙ ap (λ (ys : List (List ℕ)). x ∷ ys) (read_same ring c (suc p) bs xs (omega arith) shows.1 has.1)

read_bodies : (ring : ℕ) (c : RingImage) (p : ℕ) (bs xs : List (List ℕ)) → length bs ≡ length xs → ShowsBlocks ring c p bs → HasBody ring c p xs → AllByRecursion IsBody bs
read_bodies ring c p [] xs size shows has = tt
read_bodies ring c p (b ∷ bs) [] size shows has = absurd (omega arith)
read_bodies ring c p (b ∷ bs) (x ∷ xs) size shows has = (body_class ring b x (shows.0 ∙ has.0), read_bodies ring c (suc p) bs xs (omega arith) shows.1 has.1)

-- body blocks that were read stand
stand_read : (ring : ℕ) (c : RingImage) (p : ℕ) (bs : List (List ℕ)) → AllByRecursion IsBody bs → ShowsBlocks ring c p bs → HasBody ring c p bs
stand_read ring c p [] all shows = tt
stand_read ring c p (b ∷ bs) all shows = (sym shows.0 ∙ class_body ring b all.0, stand_read ring c (suc p) bs all.1 shows.1)

module _ (ring : ℕ) (c : RingImage) (p : ℕ) (head : RecordHead) (bytes : List ℕ) (size : length bytes ≡ 512 * head.count) (shows : ShowsBlocks ring c p (all_blocks bytes)) where
  count : length (all_blocks bytes) ≡ head.count
  count = cut_count (length bytes / 512) bytes ∙ omega arith

  -- of a record with this header, whose body stands there
  module _ (r : Record) (is : r.head ≡ head) (genuine : Genuine r) (has : HasBody ring c p r.body) where
    same_size : length (all_blocks bytes) ≡ length r.body
    same_size = count ∙ sym (ap (λ (h : RecordHead). h.count) is) ∙ genuine.count

    pub read_are_bodies : All IsBody (all_blocks bytes)
    read_are_bodies = All-from_recursion IsBody (all_blocks bytes) (read_bodies ring c p (all_blocks bytes) r.body same_size shows has)

    pub read_digest : head.digest ≡ digest_of (given_of head bytes)
    read_digest =
        sym (ap (λ (h : RecordHead). h.digest) is) ∙ genuine.digest
        ∙ ap (λ (h : RecordHead). digest_of (with_firsts h.firsts r.body)) is
        ∙ ap (λ (bs : List (List ℕ)). digest_of (with_firsts head.firsts bs)) (sym (read_same ring c p (all_blocks bytes) r.body same_size shows has))

  pub read_stands : All IsBody (all_blocks bytes) → head.digest ≡ digest_of (given_of head bytes) → (r : Record) × (r.head ≡ head) × Genuine r × HasBody ring c p r.body
  read_stands bodies digest = (
    record { head = head; body = all_blocks bytes },
    refl,
    record { count = sym count; digest = digest },
    stand_read ring c p (all_blocks bytes) (recursion_from_All IsBody (all_blocks bytes) bodies) shows,
  )

-- a body that was read has its digest
pub body_shown : (unit ring place : ℕ) (head : RecordHead) (bytes : List ℕ) (m : Meaning) (computed : List ℕ) → length bytes ≡ 512 * head.count → GaveBlocks unit ring m (place + 1) (all_blocks bytes)
    → computed ≡ digest_of (given_of head bytes) → SeesRecordBody unit ring place head computed m
body_shown unit ring place head bytes m computed size gave is = record {
  body = all_blocks bytes;
  count = cut_count (length bytes / 512) bytes ∙ omega (arith, size);
  gave = gave;
  computed_is = is;
}
