-- The loop of `as_names`: what stays true, and what falls.
use Rattle.std.proofs.Common.{◌≡◌, length}
use Rattle.vx_script.specs.Words.{names_of, with_front}
use Rattle.vx_script.proofs.values.as_names.Given as goal

abbrev pub invariant-parts : goal.invariant-parts
invariant-parts l = names_of l.word ≡ with_front l.names (names_of l.rest)

abbrev pub decreases-parts : goal.decreases-parts
decreases-parts l = length l.rest
