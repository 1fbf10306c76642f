-- `set_state`: clauses goes, leads, blames and works.
use Rattle.std.proofs.Common.{ap, subst}
use Rattle.vx_disk.specs.Causes.{Works}
use Rattle.vx_srl.specs.Views.{Log}
use Rattle.vx_disk.proofs.Naming.{blames_failed}
use Rattle.vx_srl.proofs.Saving.{state_goes, state_leads}
use Rattle.vx_srl.proofs.log.Srl.set_state.Goals as goal

pub returns-in-Err-clause-goes : goal.returns-in-Err-clause-goes
returns-in-Err-clause-goes g c = state_goes _ _ c.self.view_is c.header_with-header.result _ _ c.args.state.now c.header_with-header.ensures.is c.requires.line c.write_header.ensures.follows

pub returns-clause-goes : goal.returns-clause-goes
returns-clause-goes g c = state_goes _ _ c.self.view_is c.header_with-header.result _ _ c.args.state.now c.header_with-header.ensures.is c.requires.line c.write_header.ensures.follows

pub returns-clause-leads : goal.returns-clause-leads
returns-clause-leads g c = state_leads _ _ c.self.view_is c.header_with-header.result _ _ c.args.state.now c.header_with-header.ensures.is c.requires.line c.in_default.ensures.arrives

pub returns-in-Err-clause-blames : goal.returns-in-Err-clause-blames
returns-in-Err-clause-blames g c =
    blames_failed (Unit {0}) (g.S.Shelf.meaning c.args.shelf.now).disks _ _ c.in-Err.error c.refusal.result (ap (λ (l : Log). l.unit) c.self.view_is) c.refusal.ensures c.in-Err.ensures.names

pub returns-clause-works : goal.returns-clause-works
returns-clause-works g c = subst (λ (l : Log). Works (g.S.Shelf.meaning c.args.shelf.now).disks l.unit) c.self.view_is c.in_default.ensures.works
