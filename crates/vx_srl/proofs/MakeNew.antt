-- What stands on the unit of a new log.
use Rattle.std.proofs.Common.{◌≡◌, ℕ, ◌%◌, ◌++◌, IsTrue, ap, subst}
use Rattle.vx_srlfmt.specs.Kinds.{Other}
use Rattle.vx_srlfmt.specs.declared.header.Header.{Header}
use Rattle.vx_disk.specs.Moves.{Blocks, Says, Moves, Anything}
use Rattle.vx_disk.specs.Shelf.{Lawful, Meaning}
use Rattle.vx_disk.proofs.Moving.{goes_on}
use Rattle.vx_ringlog.specs.Acts.{head_acts}
use Rattle.vx_ringlog.specs.Cells.{run_all, still}
use Rattle.vx_ringio.specs.Reading.{LeavesAs}
use Rattle.vx_ringio.specs.Tracks.{Tracks, Arrives}
use Rattle.vx_ringio.proofs.Following.{left_tracks, then_arrives}
use Rattle.vx_srl.specs.Starts.{HasNewHeaders}

-- one more call, of which nothing is said
pub then_any : (mine : Blocks) (P : Says) (old mid new : Meaning) → Moves mine Anything old mid → Moves mine P mid new → Moves mine Anything old new
then_any mine P old mid new one two = goes_on mine mine Anything P old mid new one two (λ u b is. is) (λ i beside is. tt)

-- the zeros, and both headers over them
pub new_headers : (unit ring : ℕ) (first second : Header) (old zeros one new : Meaning) → Lawful zeros → (IsTrue old.tells → LeavesAs unit ring (λ b. Other) zeros)
    → Arrives unit ring (head_acts (second.stamp % 2) second) zeros one → Arrives unit ring (head_acts (first.stamp % 2) first) one new
    → HasNewHeaders unit ring first second old new
new_headers unit ring first second old zeros one new lawful leaves two_arrives one_arrives = record {
  each = λ tells two is_one.
      let both : Arrives unit ring (head_acts (second.stamp % 2) second ++ head_acts (first.stamp % 2) first) zeros new =
      then_arrives unit ring (head_acts (second.stamp % 2) second) (head_acts (first.stamp % 2) first) zeros one new two_arrives one_arrives in
      let odd : second.stamp % 2 ≡ 1 = ap (λ (n : ℕ). n % 2) is_one in
      let even : first.stamp % 2 ≡ 0 = ap (λ (n : ℕ). n % 2) two in
      subst (λ (a : ℕ). Tracks unit ring (run_all (still (λ b. Other)) (head_acts a second ++ head_acts 0 first)) new) odd
      (subst (λ (a : ℕ). Tracks unit ring (run_all (still (λ b. Other)) (head_acts (second.stamp % 2) second ++ head_acts a first)) new) even
      (both.each (still (λ b. Other)) (left_tracks unit ring (λ b. Other) zeros lawful (leaves tells))));
}
