-- `state_stored`: clause spell.
use Rattle.std.proofs.Common.{List, ◌∙◌, ap, sym, subst, arith}
use Rattle.vx_model.specs.declared.state.KeptLink.{KeptLink}
use Rattle.vx_model.specs.declared.state.State.{State}
use Rattle.vx_srlfmt.specs.Headers.{CanSpellState}
use Rattle.vx_joins.specs.Hearings.{links_stored}
use Rattle.vx_joins.proofs.SpellsLinks.{spell_stored}
use Rattle.vx_joins.proofs.hearing.state_stored.Goals as goal

pub returns-clause-spell : goal.returns-clause-spell
returns-clause-spell c =
    subst (λ (s : State). CanSpellState (record s { links = c.with_stored-after.result })) (sym c.copy-after.ensures)
    (subst (λ (ls : List KeptLink). CanSpellState (record c.args.state.now { links = ls })) (sym (c.with_stored-after.ensures ∙ ap (λ (ls : List KeptLink). links_stored c.args.to c.args.stored ls) c.as_slice.ensures.links))
    (spell_stored c.args.state.now c.args.to c.args.stored (omega (arith, c.requires.number)) c.requires.state))
