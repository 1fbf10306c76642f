-- A log as its callers see it.
use Rattle.std.specs.Prelude.{◌≡◌, ℕ, ◌+◌, ◌-◌, ◌%◌, ◌≤◌, List, [], ◌∷◌, ◌++◌, length, drop, slice_get, Some, All, true}
use Rattle.vx_model.specs.declared.limits.TheConstants.{LOG_HEADERS, MOST_LOG_BLOCKS, MOST_NUMBER}
use Rattle.vx_model.specs.Content.{blocks_in}
use Rattle.vx_wire.specs.Seals.{digest_of}
use Rattle.vx_srlfmt.specs.Headers.{CanSpellHeader}
use Rattle.vx_srlfmt.specs.Records.{CanSpellHead}
use Rattle.vx_srlfmt.specs.declared.header.Header.{Header}
use Rattle.vx_srlfmt.specs.declared.record.RecordHead.{RecordHead}
use Rattle.vx_ringlog.specs.Records.{Record, as_on_disk, firsts_of}
use Rattle.vx_ringio.specs.Bodies.{all_blocks}
use Rattle.vx_ringio.specs.Classes.{is_of_ring}
use Rattle.vx_srl.specs.declared.kept.Kept.{Kept}

pub record Log : Type 0 where
  -- the unit of the shelf, and its blocks that hold records
  pub unit : ℕ
  pub ring : ℕ
  -- the header that counts
  pub header : Header
  -- the records that are part of the log, and those that are staged behind them
  pub held : List Kept
  pub staged : List Kept

-- no number, stamp, run or incarnation goes past this
abbrev pub most_number : ℕ
most_number = MOST_NUMBER

-- a record takes its blocks and one for its header
abbrev pub width_of : Kept → ℕ
width_of k = k.head.count + 1

-- so many blocks of the ring are taken by these records
abbrev pub widths : List Kept → ℕ
widths [] = 0
widths (k ∷ ks) = width_of k + widths ks

abbrev pub blocks_needed : List ℕ → ℕ
blocks_needed bytes = blocks_in bytes + 1

-- all that the log holds or has staged
abbrev pub all_of : Log → List Kept
all_of l = l.held ++ l.staged

-- the blocks that no record takes
abbrev pub free_of : Log → ℕ
free_of l = l.ring - widths (all_of l)

-- the number of the last record that is part of the log, and the number behind all that is staged
abbrev pub head_number : Log → ℕ
head_number l = l.header.low + length l.held - 1

abbrev pub next_of : Log → ℕ
next_of l = l.header.low + length (all_of l)

-- how many of the records that are held have a number up to this one
abbrev pub count_to : Log → ℕ → ℕ
count_to l to = to + 1 - l.header.low

-- so many blocks are taken by the numbers above this one
abbrev pub blocks_above : Log → ℕ → ℕ
blocks_above l n = widths (drop (count_to l n) (all_of l))

-- the place behind these records, in the ring
abbrev pub place_after : ℕ → ℕ → List Kept → ℕ
place_after ring p [] = p
place_after ring p (k ∷ ks) = place_after ring ((p + width_of k) % ring) ks

-- the place of the next record
abbrev pub end_of : Log → ℕ
end_of l = place_after l.ring l.header.place (all_of l)

-- the body of a record with these bytes, staged next, does not pass the ring's end
abbrev pub BodyFits : Log → List ℕ → Type 0
BodyFits l bytes = (end_of l + 1) % l.ring + blocks_in bytes ≤ l.ring

-- each of these records has its place behind the one before
abbrev pub PlacedFrom : ℕ → ℕ → List Kept → Type 0
PlacedFrom ring p [] = Unit {0}
PlacedFrom ring p (k ∷ ks) = (k.place ≡ p) × PlacedFrom ring ((p + width_of k) % ring) ks

-- the incarnation of the last of these records, or this one where there is none
abbrev pub last_incarnation : ℕ → List Kept → ℕ
last_incarnation floor [] = floor
last_incarnation floor (k ∷ ks) = last_incarnation k.head.incarnation ks

-- records behind a header of a ring: they follow one another, and there is room for them
pub record IsOrdered (ring : ℕ) (header : Header) (records : List Kept) : Type 0 where
  pub some : 6 ≤ ring
  pub few : ring ≤ MOST_LOG_BLOCKS - LOG_HEADERS
  pub spell : CanSpellHeader header
  pub of_ring : is_of_ring ring header ≡ true
  pub heads : All (λ k. CanSpellHead k.head) records
  pub placed : PlacedFrom ring header.place records
  pub fits : widths records ≤ ring
  pub numbers : header.low + length records ≤ most_number + 1

-- the record of a write, as the log would stage it next
abbrev pub record_next : Log → ℕ → ℕ → List ℕ → Record
record_next l vol block bytes = record {
  head = record {
    incarnation = l.header.incarnation;
    run = l.header.run;
    line = l.header.state.line;
    number = next_of l;
    vol = vol;
    block = block;
    count = blocks_in bytes;
    digest = digest_of bytes;
    firsts = firsts_of (all_blocks bytes);
  };
  body = as_on_disk (all_blocks bytes);
}

-- the same in memory
abbrev pub kept_record : Log → ℕ → ℕ → List ℕ → Kept
kept_record l vol block bytes = record { place = end_of l; head = (record_next l vol block bytes).head }

-- the header of the record of a number that is held
pub record IsFront (l : Log) (n : ℕ) (head : RecordHead) : Type 0 where
  pub kept : Kept
  pub there : slice_get l.held (n - l.header.low) ≡ Some kept
  pub is : head ≡ kept.head
