-- `stage_in`: clauses goes, leads, works and blames; what `write_body` asks.
use Rattle.std.proofs.Common.{ap, subst}
use Rattle.vx_disk.proofs.Naming.{blames_failed}
use Rattle.vx_srl.proofs.StageRecord.{body_blocks}
use Rattle.vx_srl.proofs.StageKept.{goes_kept, leads_kept}
use Rattle.vx_disk.specs.Causes.{Works}
use Rattle.vx_srl.specs.Views.{Log}
use Rattle.vx_srl.proofs.log.Srl.stage_in.Goals as goal

pub write_body-requires-clause-body : goal.write_body-requires-clause-body
write_body-requires-clause-body g c = body_blocks c.args.bytes.now c.next_front-head.new.disk c.requires.blocks c.next_front-head.ensures.body

pub returns-in-Err-clause-goes : goal.returns-in-Err-clause-goes
returns-in-Err-clause-goes g c =
    goes_kept _ _ _ _ _ _ _ _ c.self.invariant c.args.self.now c.self.view_is c.args.vol c.args.block c.args.bytes.now c.next_front-head.new.disk c.requires.blocks
    c.requires.room c.next_front-head.ensures.body _ _ c.write_body.ensures.follows

pub returns-clause-goes : goal.returns-clause-goes
returns-clause-goes g c =
    goes_kept _ _ _ _ _ _ _ _ c.self.invariant c.args.self.now c.self.view_is c.args.vol c.args.block c.args.bytes.now c.next_front-head.new.disk c.requires.blocks
    c.requires.room c.next_front-head.ensures.body _ _ c.write_body.ensures.follows

pub returns-clause-leads : goal.returns-clause-leads
returns-clause-leads g c =
    leads_kept _ _ _ _ _ _ _ _ c.self.invariant c.args.self.now c.self.view_is c.args.vol c.args.block c.args.bytes.now c.next_front-head.new.disk c.requires.blocks
    c.requires.room c.next_front-head.ensures.body _ _ c.keep.new.self c.keep.ensures c.in_default.ensures.arrives

pub returns-clause-works : goal.returns-clause-works
returns-clause-works g c = subst (λ (l : Log). Works (g.S.Shelf.meaning c.args.shelf.now).disks l.unit) c.self.view_is c.in_default.ensures.works

pub returns-in-Err-clause-blames : goal.returns-in-Err-clause-blames
returns-in-Err-clause-blames g c =
    blames_failed (Unit {0}) (g.S.Shelf.meaning c.args.shelf.now).disks _ _ c.in-Err.error c.refusal.result (ap (λ (l : Log). l.unit) c.self.view_is) c.refusal.ensures c.in-Err.ensures.names
