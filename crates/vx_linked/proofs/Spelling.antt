-- A state with other links that a header can spell is one that it can spell.
use Rattle.std.proofs.Common.{◌≡◌, ◌<◌, ◌≤◌, ◌^◌, ℕ, true, List, [], ◌∷◌, length, arith}
use Rattle.std.specs.Prelude.{nat_le}
use Rattle.std.specs.List.{AllByRecursion, list_all}
use Rattle.std.proofs.lemmas.Bool.Decides.{nat_tests}
use Rattle.std.proofs.lemmas.List.Elements.{All-from_recursion}
use Rattle.vx_history.proofs.Updates.{and_left, and_right}
use Rattle.vx_model.specs.declared.limits.TheConstants.{MOST_LINKS, MOST_NUMBER}
use Rattle.vx_model.specs.declared.state.KeptLink.{KeptLink}
use Rattle.vx_model.specs.declared.state.State.{State}
use Rattle.vx_srlfmt.specs.Headers.{CanSpellLink, CanSpellState}
use Rattle.vx_linked.specs.Making.{is_state_spelled}

few_enough : (k : ℕ) → nat_le k MOST_NUMBER ≡ true → k < 2 ^ 63
few_enough k e = grind (arith, nat_tests)

one_spelled : (l : KeptLink) → is_state_spelled l ≡ true → CanSpellLink l
one_spelled l e = record {
  stored = few_enough l.stored (and_left (nat_le l.stored MOST_NUMBER) (nat_le l.start MOST_NUMBER) e);
  start = few_enough l.start (and_right (nat_le l.stored MOST_NUMBER) (nat_le l.start MOST_NUMBER) e);
}

each_spelled : (ls : List KeptLink) → list_all is_state_spelled ls ≡ true → AllByRecursion CanSpellLink ls
each_spelled [] e = tt
each_spelled (l ∷ ls) e = (one_spelled l (and_left (is_state_spelled l) (list_all is_state_spelled ls) e), each_spelled ls (and_right (is_state_spelled l) (list_all is_state_spelled ls) e))

pub spell_with : (s : State) (ls : List KeptLink) → CanSpellState s → length ls ≤ MOST_LINKS → list_all is_state_spelled ls ≡ true → CanSpellState (record s { links = ls })
spell_with s ls can few all = record {
  generation = can.generation;
  top = can.top;
  role = can.role;
  replay = can.replay;
  end = can.end;
  parent = can.parent;
  fork = can.fork;
  few = few;
  links = All-from_recursion CanSpellLink ls (each_spelled ls all);
}
