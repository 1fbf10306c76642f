-- The write of a call, its blocks as those that wait, and the volume that it is for.
use Rattle.std.proofs.Common.{◌≡◌, ℕ, ◌+◌, ◌<◌, ◌≤◌, Bool, true, List, [], ◌∷◌, length, ◌∙◌, ap, arith, append-nil}
use Rattle.std.specs.Prelude.{if◌then◌else◌, leb}
use Rattle.std.proofs.lemmas.Bool.{lt-ltb}
use Rattle.std.proofs.lemmas.Bool.Decides.{nat_tests}
use Rattle.vx_model.specs.Content.{Write, blocks_in}
use Rattle.vx_disk.specs.Shelf.{Meaning}
use Rattle.vx_overlay.specs.Writes.{entries_at, entries_of}
use Rattle.vx_overlay.proofs.WriteLemmas.{its_entries}
use Rattle.vx_rvg.specs.Views.{unit_of, volume_size}

fits : (a b : ℕ) → a ≤ b → leb a b ≡ true
fits a b le = grind (arith, nat_tests)

-- the entries of a write that ends within its volume
its_own : (size : ℕ → ℕ) (x : Write) → x.start + blocks_in x.bytes ≤ size x.volume → its_entries size x ≡ entries_at x.volume x.start (blocks_in x.bytes) x.bytes
its_own size x within =
    ap (λ (w : Bool). if w then entries_at x.volume x.start (blocks_in x.bytes) x.bytes else []) (fits (x.start + blocks_in x.bytes) (size x.volume) within)

pub entries_one : (size : ℕ → ℕ) (x : Write) → x.start + blocks_in x.bytes ≤ size x.volume → entries_of size (x ∷ []) ≡ entries_at x.volume x.start (blocks_in x.bytes) x.bytes
entries_one size x within = append-nil (its_entries size x) ∙ its_own size x within

pub volume_size_is : (vols : List ℕ) (m : Meaning) (v : ℕ) → v < length vols → volume_size vols m v ≡ m.size (unit_of vols v)
volume_size_is vols m v exists = ap (λ (t : Bool). if t then m.size (unit_of vols v) else 0) (lt-ltb v (length vols) exists)

-- the write of a call
abbrev pub write_at : ℕ → ℕ → List ℕ → Write
write_at vol start bytes = record { volume = vol; start = start; bytes = bytes }
