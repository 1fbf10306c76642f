-- Calls that write the headers of a log alone.
use Rattle.std.proofs.Common.{◌≡◌, inl, inr, ℕ, suc, ◌<◌, ◌≤◌, List, [], ◌∷◌, length, IsTrue, arith}
use Rattle.vx_disk.specs.Moves.{Anything, Moves, Run}
use Rattle.vx_disk.specs.Shelf.{Goes, Meaning, Nothing, Written}
use Rattle.vx_disk.proofs.Moving.{goes_on, of_goes, then_goes}
use Rattle.vx_ringlog.specs.Chain.{block}
use Rattle.vx_ringio.specs.Reading.{GaveBlocks}
use Rattle.vx_ringio.proofs.Following.{still_read}

-- one header block is written
pub header_aside : (unit at : ℕ) (bytes : List ℕ) (old new : Meaning) → length bytes ≡ 512 → at < 2 → Goes (Written unit at bytes) old new → Moves (Run unit 0 2) Anything old new
header_aside unit at bytes old new long low goes =
    of_goes (Run unit 0 2) Anything (Written unit at bytes) old new goes
    (λ u b v is. record { there = is.covers.there; first = omega arith; last = omega (arith, is.covers.first, is.covers.last, long, low) })
    (λ i each. tt)

-- and flushed
pub aside_flushed : (unit : ℕ) (old mid new : Meaning) → Moves (Run unit 0 2) Anything old mid → Goes Nothing mid new → Moves (Run unit 0 2) Anything old new
aside_flushed unit old mid new moves goes = then_goes (Run unit 0 2) Anything Nothing old mid new moves goes (λ u b v none. absurd none) (λ i each. tt)

pub both_aside : (unit : ℕ) (old mid new : Meaning) → Moves (Run unit 0 2) Anything old mid → Moves (Run unit 0 2) Anything mid new → Moves (Run unit 0 2) Anything old new
both_aside unit old mid new one two = goes_on (Run unit 0 2) (Run unit 0 2) Anything Anything old mid new one two (λ u b is. is) (λ i beside is. tt)

-- reads of the ring give what they gave
pub aside_reads : (unit : ℕ) (old new : Meaning) → Moves (Run unit 0 2) Anything old new → (IsTrue new.down → ⊥) → (b : ℕ) (v : List ℕ) → 2 ≤ b → new.reads unit b v → old.reads unit b v
aside_reads unit old new moves up b v high is = elim (moves.reads unit b v is) [
  | inl was ↦ was
  | inr (inl mine) ↦ absurd (omega (arith, mine.last, high))
  | inr (inr down) ↦ absurd (up down)
]

pub aside_reads_since : (unit : ℕ) (old mid new : Meaning) → Goes Nothing old mid → Moves (Run unit 0 2) Anything mid new → (IsTrue new.down → ⊥)
    → (b : ℕ) (v : List ℕ) → 2 ≤ b → new.reads unit b v → old.reads unit b v
aside_reads_since unit old mid new goes moves up b v high is = still_read old mid goes (λ down. up (moves.falls down)) unit b v (aside_reads unit mid new moves up b v high is)

-- and so do those of several blocks
pub gave_aside : (unit ring : ℕ) (old new : Meaning) → ((b : ℕ) (v : List ℕ) → 2 ≤ b → new.reads unit b v → old.reads unit b v) → (p : ℕ) (bs : List (List ℕ)) → GaveBlocks unit ring new p bs
    → GaveBlocks unit ring old p bs
gave_aside unit ring old new rests p [] gave = tt
gave_aside unit ring old new rests p (b ∷ bs) gave = (rests (block ring p) b (omega arith) gave.0, gave_aside unit ring old new rests (suc p) bs gave.1)
