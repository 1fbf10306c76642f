-- `renumber`: its result; what `number` asks.
use Rattle.std.proofs.Common.{rules, subst, sym, length, List}
use Rattle.vx_burst.specs.declared.placing.Spot.{Spot}
use Rattle.vx_burst.specs.Placing.{NotedOnce, SpotsInside, SpotsNumbered}
use Rattle.vx_burst.proofs.Placings.{noted-sorted}
use Rattle.vx_burst.proofs.placing.renumber.Goals as goal

pub number-requires-clause-once : goal.number-requires-clause-once
number-requires-clause-once c = let n = noted-sorted c.args.answers.now (length c.args.answers.now) c.note.result.items c.sort-order.result.items c.sort-order.ensures.0 c.note.ensures in
    subst NotedOnce (sym c.as_slice.ensures.value) n.once

pub number-requires-clause-inside : goal.number-requires-clause-inside
number-requires-clause-inside c = let n = noted-sorted c.args.answers.now (length c.args.answers.now) c.note.result.items c.sort-order.result.items c.sort-order.ensures.0 c.note.ensures in
    subst (SpotsInside (length c.args.answers.now)) (sym c.as_slice.ensures.value) (λ i s at. (n.each i s at).0)

pub returns : goal.returns
returns c = let n = noted-sorted c.args.answers.now (length c.args.answers.now) c.note.result.items c.sort-order.result.items c.sort-order.ensures.0 c.note.ensures in record {
  spots = c.sort-order.result.items;
  noted = n;
  rises = c.sort-order.ensures.1;
  numbered = subst (λ (l : List Spot). SpotsNumbered l (length l) c.args.answers.now c.number.new.answers) c.as_slice.ensures.value c.number.ensures;
  long = search rules;
}
