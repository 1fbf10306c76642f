-- `push_damaged`: its result.
use Rattle.std.proofs.Common.{◌≡◌, ℕ, List, ◌∷◌, ◌++◌, append_assoc, codes}
use Rattle.std.specs.Fmt.{decimal}
use Rattle.hex.specs.Hex.{encode_lower}
use Rattle.vx_report.proofs.refusals.push_damaged.Goals as goal

-- The parts of the line are put one after another.
parts : (out front unit block stored computed : List ℕ)
    → (out ++ (front ++ unit ++ 32 ∷ block)) ++ 32 ∷ stored ++ 32 ∷ computed ≡ out ++ (front ++ unit ++ 32 ∷ block ++ 32 ∷ stored ++ 32 ∷ computed)
parts out front unit block stored computed = simp append_assoc

pub returns : goal.returns
returns c =
    rw (c.in_ok-push_digest-2.ensures, c.in_ok-push_digest.ensures, c.in_ok-push_two_after.ensures, c.from.ensures)
    (parts _ (codes "22 damaged ") (decimal c.args.unit) (decimal c.args.block) (encode_lower c.args.stored.now) (encode_lower c.args.computed.now))
