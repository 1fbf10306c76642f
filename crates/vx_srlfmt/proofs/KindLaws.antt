-- Each block is one thing.
use Rattle.std.proofs.Common.{◌≡◌, ◌≤◌, ℕ, ◌-◌, ◌^◌, ◌<◌, Bool, true, false, ◌&&◌, not, List, [], ◌∷◌, length, take, drop, refl, ap, sym, ◌∙◌, arith}
use Rattle.std.specs.Prelude.{◌==◌, nat_lt, slice_index, bytes_eq, if◌then◌else◌}
use Rattle.std.specs.List.{list_all, AllByRecursion}
use Rattle.std.proofs.lemmas.Bool.{and_parts, and_from, ltb-true, lt-ltb, eqb-true, eq-eqb, false_from_ne_true}
use Rattle.std.proofs.lemmas.List.{get_or-take}
use Rattle.std.proofs.lemmas.List.Elements.{All-from_recursion, recursion_from_All}
use Rattle.vx_model.specs.declared.state.KeptLink.{KeptLink}
use Rattle.vx_wire.specs.Fields.{zero_bytes}
use Rattle.vx_wire.specs.Numbers.{be_bytes}
use Rattle.vx_wire.specs.Seals.{digest_of}
use Rattle.vx_wire.proofs.SealLemmas.{alike, same_bytes}
use Rattle.vx_srlfmt.specs.HeaderReading.{header_in}
use Rattle.vx_srlfmt.specs.Headers.{header_magic, header_block, Agrees, IsHeader, CanSpellLink}
use Rattle.vx_srlfmt.specs.RecordReading.{head_in}
use Rattle.vx_srlfmt.specs.Records.{record_magic, record_block, IsRecord, IsDamaged}
use Rattle.vx_srlfmt.specs.Kinds.{Kind, Top, Front, Body, Damaged, Other, IsKind, body_byte, IsBody, all_below, link_bounds, header_bounds, head_bounds, is_header, is_record, is_sealed, begins_record, kind_of}
use Rattle.vx_srlfmt.specs.declared.header.Header.{Header}
use Rattle.vx_srlfmt.specs.declared.record.RecordHead.{RecordHead}
use Rattle.vx_srlfmt.proofs.HeaderAgain.{Agrees-header_in, few-header_in, header_in-is, begins_header}
use Rattle.vx_srlfmt.proofs.RecordAgain as record_again
use Rattle.vx_srlfmt.proofs.RecordLaws.{front_record}
use Rattle.vx_srlfmt.proofs.Told.{not_both}

-- ---- tests and facts

below_from : (pairs : List (ℕ × ℕ)) → all_below pairs ≡ true → AllByRecursion (λ p. p.0 < p.1) pairs
below_from [] h = tt
below_from (p ∷ pairs) h =
    let parts = and_parts (nat_lt p.0 p.1) (all_below pairs) h in
    (ltb-true p.0 p.1 parts.0, below_from pairs parts.1)

from_below : (pairs : List (ℕ × ℕ)) → AllByRecursion (λ p. p.0 < p.1) pairs → all_below pairs ≡ true
from_below [] h = refl
from_below (p ∷ pairs) h = and_from (nat_lt p.0 p.1) (all_below pairs) (lt-ltb p.0 p.1 h.0) (from_below pairs h.1)

can_links : (ls : List KeptLink) → list_all (λ l. all_below (link_bounds l)) ls ≡ true → AllByRecursion CanSpellLink ls × AllByRecursion (λ l. l.site < 2 ^ 32) ls
can_links [] h = (tt, tt)
can_links (l ∷ ls) h =
    let parts = and_parts (all_below (link_bounds l)) (list_all (λ k. all_below (link_bounds k)) ls) h in
    let first = below_from (link_bounds l) parts.0 in
    let rest = can_links ls parts.1 in
    ((record { stored = first.1.0; start = first.1.1.0 }, rest.0), (first.0, rest.1))

links_can : (ls : List KeptLink) → AllByRecursion CanSpellLink ls → AllByRecursion (λ l. l.site < 2 ^ 32) ls → list_all (λ l. all_below (link_bounds l)) ls ≡ true
links_can [] h k = refl
links_can (l ∷ ls) h k =
    and_from (all_below (link_bounds l)) (list_all (λ m. all_below (link_bounds m)) ls) (from_below (link_bounds l) (k.0, (h.0.stored, (h.0.start, tt)))) (links_can ls h.1 k.1)

-- ---- headers

header_from : (block : List ℕ) (h : Header) → Agrees h.state.role h.state.other → length h.state.links ≤ 4 → is_header block h ≡ true → IsHeader block h
unfolding is_header
header_from block h agrees few test =
    let parts = and_parts (bytes_eq block (header_block h)) (all_below (header_bounds h) && list_all (λ l. all_below (link_bounds l)) h.state.links) test in
    let bounds = and_parts (all_below (header_bounds h)) (list_all (λ l. all_below (link_bounds l)) h.state.links) parts.1 in
    let b = below_from (header_bounds h) bounds.0 in
    let links = can_links h.state.links bounds.1 in
    record {
      can = record {
        stamp = b.0;
        state = record {
          generation = b.1.0;
          top = b.1.1.1.0;
          role = agrees;
          replay = b.1.1.1.1.1.1.1.1.1.1.0;
          end = b.1.1.1.1.1.1.1.1.1.1.1.0;
          parent = b.1.1.1.1.1.1.1.1.1.1.1.1.1.0;
          fork = b.1.1.1.1.1.1.1.1.1.1.1.1.1.1.1.0;
          few = few;
          links = All-from_recursion CanSpellLink h.state.links links.0;
        };
        incarnation = b.1.1.1.1.0;
        floor = b.1.1.1.1.1.0;
        run = b.1.1.1.1.1.1.0;
        low = b.1.1.1.1.1.1.1.0;
        applied = b.1.1.1.1.1.1.1.1.1.0;
      };
      typed = record {
        origin = b.1.1.0;
        other = b.1.1.1.1.1.1.1.1.1.1.1.1.0;
        parent = b.1.1.1.1.1.1.1.1.1.1.1.1.1.1.0;
        sites = All-from_recursion (λ l. l.site < 2 ^ 32) h.state.links links.1;
      };
      place = b.1.1.1.1.1.1.1.1.0;
      is = same_bytes block (header_block h) parts.0;
    }

from_header : (block : List ℕ) (h : Header) → IsHeader block h → is_header block h ≡ true
unfolding is_header
from_header block h is =
    let s = is.can.state in
    let t = is.typed in
    let bounds : all_below (header_bounds h) ≡ true = from_below (header_bounds h)
    (is.can.stamp, (s.generation, (t.origin, (s.top, (is.can.incarnation, (is.can.floor, (is.can.run, (is.can.low, (is.place, (is.can.applied, (s.replay, (s.end, (t.other, (s.parent, (t.parent, (s.fork, tt)))))))))))))))) in
    let links : list_all (λ l. all_below (link_bounds l)) h.state.links ≡ true =
    links_can h.state.links (recursion_from_All CanSpellLink h.state.links s.links) (recursion_from_All (λ l. l.site < 2 ^ 32) h.state.links t.sites) in
    and_from (bytes_eq block (header_block h)) (all_below (header_bounds h) && list_all (λ l. all_below (link_bounds l)) h.state.links)
    (alike block (header_block h) is.is) (and_from (all_below (header_bounds h)) (list_all (λ l. all_below (link_bounds l)) h.state.links) bounds links)

-- ---- record headers

record_from : (block : List ℕ) (r : RecordHead) → is_record block r ≡ true → IsRecord block r
unfolding is_record
record_from block r test =
    let parts = and_parts (bytes_eq block (record_block r)) (all_below (head_bounds r) && (bytes_eq (drop r.count r.firsts) (zero_bytes (16 - r.count)) && (length r.digest == 32 && length r.firsts == 16))) test in
    let bounds = and_parts (all_below (head_bounds r)) (bytes_eq (drop r.count r.firsts) (zero_bytes (16 - r.count)) && (length r.digest == 32 && length r.firsts == 16)) parts.1 in
    let b = below_from (head_bounds r) bounds.0 in
    let rest = and_parts (bytes_eq (drop r.count r.firsts) (zero_bytes (16 - r.count))) (length r.digest == 32 && length r.firsts == 16) bounds.1 in
    let lengths = and_parts (length r.digest == 32) (length r.firsts == 16) rest.1 in
    let few : r.count < 17 = b.1.1.1.1.1.1.1.1.0 in
    record {
      can = record {
        incarnation = b.0;
        run = b.1.0;
        generation = b.1.1.0;
        number = b.1.1.1.1.0;
        some = b.1.1.1.1.1.1.1.0;
        few = omega (arith, few);
        firsts = same_bytes (drop r.count r.firsts) (zero_bytes (16 - r.count)) rest.0;
      };
      typed = record {
        origin = b.1.1.1.0;
        vol = b.1.1.1.1.1.0;
        block = b.1.1.1.1.1.1.0;
        digest = eqb-true (length r.digest) 32 lengths.0;
        firsts = eqb-true (length r.firsts) 16 lengths.1;
      };
      is = same_bytes block (record_block r) parts.0;
    }

from_record : (block : List ℕ) (r : RecordHead) → IsRecord block r → is_record block r ≡ true
unfolding is_record
from_record block r is =
    let c = is.can in
    let t = is.typed in
    let few : r.count < 17 = omega (arith, c.few) in
    let bounds : all_below (head_bounds r) ≡ true = from_below (head_bounds r)
    (c.incarnation, (c.run, (c.generation, (t.origin, (c.number, (t.vol, (t.block, (c.some, (few, tt))))))))) in
    let lengths : (length r.digest == 32 && length r.firsts == 16) ≡ true =
    and_from (length r.digest == 32) (length r.firsts == 16) (eq-eqb (length r.digest) 32 t.digest) (eq-eqb (length r.firsts) 16 t.firsts) in
    let rest : (bytes_eq (drop r.count r.firsts) (zero_bytes (16 - r.count)) && (length r.digest == 32 && length r.firsts == 16)) ≡ true =
    and_from (bytes_eq (drop r.count r.firsts) (zero_bytes (16 - r.count))) (length r.digest == 32 && length r.firsts == 16) (alike (drop r.count r.firsts) (zero_bytes (16 - r.count)) c.firsts) lengths in
    and_from (bytes_eq block (record_block r)) (all_below (head_bounds r) && (bytes_eq (drop r.count r.firsts) (zero_bytes (16 - r.count)) && (length r.digest == 32 && length r.firsts == 16)))
    (alike block (record_block r) is.is)
    (and_from (all_below (head_bounds r)) (bytes_eq (drop r.count r.firsts) (zero_bytes (16 - r.count)) && (length r.digest == 32 && length r.firsts == 16)) bounds rest)

-- ---- one kind excludes another

magics_differ : be_bytes 8 header_magic ≡ be_bytes 8 record_magic → ⊥
unfolding be_bytes
magics_differ e = not_both (ap (λ (b : List ℕ). slice_index b 5 == 0x52) e)

-- a block that begins with a magic is no body block
not_body : (block : List ℕ) (m : ℕ) → take 8 block ≡ be_bytes 8 m → slice_index (be_bytes 8 m) 0 ≡ 0x56 → IsBody block → ⊥
not_body block m begins letter body =
    let first : slice_index (take 8 block) 0 ≡ slice_index block 0 = get_or-take 8 block 0 0 (omega arith) in
    let same : slice_index (take 8 block) 0 ≡ slice_index (be_bytes 8 m) 0 = ap (λ (b : List ℕ). slice_index b 0) begins in
    absurd (omega (arith, first, same, letter, body))

pub header_letter : slice_index (be_bytes 8 header_magic) 0 ≡ 0x56
unfolding be_bytes
header_letter = refl

pub record_letter : slice_index (be_bytes 8 record_magic) 0 ≡ 0x56
unfolding be_bytes
record_letter = refl

pub header_not_record : (block : List ℕ) (h : Header) (r : RecordHead) → IsHeader block h → IsRecord block r → ⊥
header_not_record block h r is also = magics_differ (sym (begins_header block h is) ∙ record_again.begins_record block r also)

pub header_not_damaged : (block : List ℕ) (h : Header) → IsHeader block h → IsDamaged block → ⊥
header_not_damaged block h is also = magics_differ (sym (begins_header block h is) ∙ also.begins)

pub header_not_body : (block : List ℕ) (h : Header) → IsHeader block h → IsBody block → ⊥
header_not_body block h is = not_body block header_magic (begins_header block h is) header_letter

pub record_not_damaged : (block : List ℕ) (r : RecordHead) → IsRecord block r → IsDamaged block → ⊥
record_not_damaged block r is also = also.broken (front_record block r is).1

pub record_not_body : (block : List ℕ) (r : RecordHead) → IsRecord block r → IsBody block → ⊥
record_not_body block r is = not_body block record_magic (record_again.begins_record block r is) record_letter

pub damaged_not_body : (block : List ℕ) → IsDamaged block → IsBody block → ⊥
damaged_not_body block is = not_body block record_magic is.begins record_letter

-- ---- the tests tell the kind

damaged_from : (block : List ℕ) → (begins_record block && not (is_sealed block)) ≡ true → IsDamaged block
unfolding begins_record is_sealed
damaged_from block test =
    let parts = and_parts (begins_record block) (not (is_sealed block)) test in
    record {
      begins = same_bytes (take 8 block) (be_bytes 8 record_magic) parts.0;
      broken = λ is.
          let yes : is_sealed block ≡ true = alike (drop 480 block) (digest_of (take 480 block)) is in
          let no : not true ≡ true = ap not (sym yes) ∙ parts.1 in
          absurd cc;
    }

from_damaged : (block : List ℕ) → IsDamaged block → (begins_record block && not (is_sealed block)) ≡ true
unfolding begins_record is_sealed
from_damaged block is =
    let no : is_sealed block ≡ false = false_from_ne_true (is_sealed block) (λ yes. is.broken (same_bytes (drop 480 block) (digest_of (take 480 block)) yes)) in
    and_from (begins_record block) (not (is_sealed block)) (alike (take 8 block) (be_bytes 8 record_magic) is.begins) (ap not no)

header_read : (block : List ℕ) (h : Header) → IsHeader block h → is_header block (header_in block) ≡ true
header_read block h is = ap (is_header block) (header_in-is block h is) ∙ from_header block h is

record_read : (block : List ℕ) (r : RecordHead) → IsRecord block r → is_record block (head_in block) ≡ true
record_read block r is = ap (is_record block) (record_again.head_in-is block r is) ∙ from_record block r is

-- what the four tests pick
abbrev picked : List ℕ → Bool → Bool → Bool → Bool → Kind
picked block top front damaged body =
    if top then Top (header_in block) else if front then Front (head_in block) else if damaged then Damaged else if body then Body block else Other

abbrev top_test : List ℕ → Bool
top_test block = is_header block (header_in block)

abbrev front_test : List ℕ → Bool
front_test block = is_record block (head_in block)

abbrev damaged_test : List ℕ → Bool
damaged_test block = begins_record block && not (is_sealed block)

abbrev body_test : List ℕ → Bool
body_test block = slice_index block 0 == body_byte

picked-is : (block : List ℕ) (a b c d : Bool) → top_test block ≡ a → front_test block ≡ b → damaged_test block ≡ c → body_test block ≡ d → IsKind block (picked block a b c d)
picked-is block true b c d e f g i = header_from block (header_in block) (Agrees-header_in block) (few-header_in block) e
picked-is block false true c d e f g i = record_from block (head_in block) f
picked-is block false false true d e f g i = damaged_from block g
picked-is block false false false true e f g i = (eqb-true (slice_index block 0) body_byte i, refl)
picked-is block false false false false e f g i = (
  (λ h is. absurd (not_both (sym e ∙ header_read block h is))),
  (λ r is. absurd (not_both (sym f ∙ record_read block r is))),
  (λ is. absurd (not_both (sym i ∙ eq-eqb (slice_index block 0) body_byte is))),
  (λ is. absurd (not_both (sym g ∙ from_damaged block is))),
)

pub kind_of-is : (block : List ℕ) → IsKind block (kind_of block)
unfolding kind_of
kind_of-is block = picked-is block (top_test block) (front_test block) (damaged_test block) (body_test block) refl refl refl refl

picks : (block : List ℕ) (a b c d : Bool) → top_test block ≡ a → front_test block ≡ b → damaged_test block ≡ c → body_test block ≡ d → kind_of block ≡ picked block a b c d
unfolding kind_of
picks block a b c d e f g i = ap (λ t. picked block t (front_test block) (damaged_test block) (body_test block)) e
    ∙ ap (λ t. picked block a t (damaged_test block) (body_test block)) f
    ∙ ap (λ t. picked block a b t (body_test block)) g
    ∙ ap (λ t. picked block a b c t) i

no_header : (block : List ℕ) → ((h : Header) → IsHeader block h → ⊥) → top_test block ≡ false
no_header block none = false_from_ne_true (top_test block) (λ yes. none (header_in block) (header_from block (header_in block) (Agrees-header_in block) (few-header_in block) yes))

no_record : (block : List ℕ) → ((r : RecordHead) → IsRecord block r → ⊥) → front_test block ≡ false
no_record block none = false_from_ne_true (front_test block) (λ yes. none (head_in block) (record_from block (head_in block) yes))

not_damaged : (block : List ℕ) → (IsDamaged block → ⊥) → damaged_test block ≡ false
not_damaged block none = false_from_ne_true (damaged_test block) (λ yes. none (damaged_from block yes))

pub kind_of-only : (block : List ℕ) (kind : Kind) → IsKind block kind → kind_of block ≡ kind
kind_of-only block (Top h) is =
    picks block true (front_test block) (damaged_test block) (body_test block) (header_read block h is) refl refl refl ∙ ap (λ (g : Header). Top g) (header_in-is block h is)
kind_of-only block (Front r) is =
    picks block false true (damaged_test block) (body_test block) (no_header block (λ h also. header_not_record block h r also is)) (record_read block r is) refl refl
    ∙ ap (λ (q : RecordHead). Front q) (record_again.head_in-is block r is)
kind_of-only block (Body bytes) is =
    picks block false false false true (no_header block (λ h also. header_not_body block h also is.0)) (no_record block (λ r also. record_not_body block r also is.0))
    (not_damaged block (λ also. damaged_not_body block also is.0)) (eq-eqb (slice_index block 0) body_byte is.0)
    ∙ ap (λ (b : List ℕ). Body b) (sym is.1)
kind_of-only block Damaged is =
    picks block false false true (body_test block) (no_header block (λ h also. header_not_damaged block h also is)) (no_record block (λ r also. record_not_damaged block r also is)) (from_damaged block is) refl
kind_of-only block Other is =
    picks block false false false false (no_header block is.0) (no_record block is.1) (not_damaged block is.3)
    (false_from_ne_true (body_test block) (λ yes. is.2 (eqb-true (slice_index block 0) body_byte yes)))
