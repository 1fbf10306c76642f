-- The calls of a change, with a restart of the log or without, and which disk its refusal names.
use Rattle.std.proofs.Common.{ℕ, subst, sym}
use Rattle.std.specs.Prelude.{OnOk, Option}
use Rattle.vx_disk.specs.Burns.{MakesCalls}
use Rattle.vx_rvg.specs.Saves.{AppliesNone}
use Rattle.vx_rvg.proofs.ChangeCalls.{on_anyway}
use Rattle.vx_rvg.proofs.group.Rvg.change.Goals as goal

pub returns-in-None-clause-calls : goal.returns-in-None-clause-calls
returns-in-None-clause-calls g c =
    on_anyway (AppliesNone c.args.restart c.args.self.now.core) (MakesCalls 2 (g.S.Shelf.meaning c.args.self.now.shelf) (g.S.Shelf.meaning c.set_state.new.self.shelf)) c.set_state.result c.set_state.ensures.calls

pub returns-in-None-clause-short : goal.returns-in-None-clause-short
returns-in-None-clause-short g c = λ none. c.set_state.ensures.short

pub returns-in-Some-clause-calls : goal.returns-in-Some-clause-calls
returns-in-Some-clause-calls g c =
    subst (λ (o : Option ℕ). OnOk c.restart.result (AppliesNone o c.args.self.now.core → MakesCalls 2 (g.S.Shelf.meaning c.args.self.now.shelf) (g.S.Shelf.meaning c.restart.new.shelf))) (sym c.in-Some.is) c.restart.ensures.calls

pub returns-in-Some-clause-short : goal.returns-in-Some-clause-short
returns-in-Some-clause-short g c = λ none. c.restart.ensures.short (subst (λ (o : Option ℕ). AppliesNone o c.args.self.now.core) c.in-Some.is none)

pub returns-in-None-clause-blames : goal.returns-in-None-clause-blames
returns-in-None-clause-blames g c = λ none. c.set_state.ensures.blames

pub returns-in-Some-clause-blames : goal.returns-in-Some-clause-blames
returns-in-Some-clause-blames g c = λ none. c.restart.ensures.blames (subst (λ (o : Option ℕ). AppliesNone o c.args.self.now.core) c.in-Some.is none)
