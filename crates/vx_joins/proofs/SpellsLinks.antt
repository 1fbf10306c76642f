-- A state with more stored of a link is still one that a header can spell.
use Rattle.std.proofs.Common.{◌<◌, ◌^◌, ℕ, Bool, true, false, List, [], ◌∷◌, arith}
use Rattle.std.specs.Prelude.{eqb, if◌then◌else◌}
use Rattle.std.specs.List.{AllByRecursion}
use Rattle.std.proofs.lemmas.List.{length-map}
use Rattle.std.proofs.lemmas.List.Elements.{All-from_recursion, recursion_from_All}
use Rattle.vx_model.specs.declared.state.KeptLink.{KeptLink}
use Rattle.vx_model.specs.declared.state.State.{State}
use Rattle.vx_srlfmt.specs.Headers.{CanSpellLink, CanSpellState}
use Rattle.vx_joins.specs.Hearings.{links_stored, stored_at}

one_stored : (number : ℕ) (l : KeptLink) → number < 2 ^ 63 → CanSpellLink l → (b : Bool) → CanSpellLink (if b then record l { stored = number } else l)
one_stored number l few can true = record { stored = few; start = can.start }
one_stored number l few can false = can

each_stored : (to number : ℕ) (ls : List KeptLink) → number < 2 ^ 63 → AllByRecursion CanSpellLink ls → AllByRecursion CanSpellLink (links_stored to number ls)
each_stored to number [] few all = tt
each_stored to number (l ∷ ls) few all = (one_stored number l few all.0 (eqb l.site to), each_stored to number ls few all.1)

pub spell_stored : (s : State) (to number : ℕ) → number < 2 ^ 63 → CanSpellState s → CanSpellState (record s { links = links_stored to number s.links })
spell_stored s to number few can = record {
  generation = can.generation;
  top = can.top;
  role = can.role;
  replay = can.replay;
  end = can.end;
  parent = can.parent;
  fork = can.fork;
  few = omega (arith, can.few, length-map s.links (stored_at to number));
  links = All-from_recursion CanSpellLink (links_stored to number s.links) (each_stored to number s.links few (recursion_from_All CanSpellLink s.links can.links));
}
