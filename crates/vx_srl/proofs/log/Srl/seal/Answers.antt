-- `seal`: clauses nothing, goes, leads and blames.
use Rattle.std.proofs.Common.{refl, subst, sym, arith}
use Rattle.vx_disk.proofs.Naming.{blames_failed}
use Rattle.vx_srl.specs.Calls.{sealing}
use Rattle.vx_srl.specs.Rings.{LeadsTo}
use Rattle.vx_srl.specs.Views.{Log}
use Rattle.vx_srl.proofs.SealLaws.{seal_goes, seal_leads}
use Rattle.vx_srl.proofs.Sealing.{is_sealed, some_staged, view_ordered}
use Rattle.vx_srl.proofs.log.Srl.seal.Goals as goal

pub returns-in-Err-clause-nothing : goal.returns-in-Err-clause-nothing
returns-in-Err-clause-nothing g c =
    let i = c.self.inside in
    λ none. absurd (some_staged i.unit i.ring i.header i.records.items i.sealed c.args.self.now c.self.view_is c.self.invariant.few (λ all. c.if-self-len.false (omega (arith, all, c.len.ensures))) none)

pub returns-in-Err-clause-goes : goal.returns-in-Err-clause-goes
returns-in-Err-clause-goes g c =
    let i = c.self.inside in
    seal_goes c.args.self.now (view_ordered i.unit i.ring i.header i.records.items i.sealed c.args.self.now c.self.view_is c.self.invariant.ordered) _ _ c.write_staged.ensures.follows

pub returns-clause-nothing : goal.returns-clause-nothing
returns-clause-nothing g c =
    let i = c.self.inside in
    λ none. absurd (some_staged i.unit i.ring i.header i.records.items i.sealed c.args.self.now c.self.view_is c.self.invariant.few (λ all. c.if-self-len.false (omega (arith, all, c.len.ensures))) none)

pub returns-clause-goes : goal.returns-clause-goes
returns-clause-goes g c =
    let i = c.self.inside in
    seal_goes c.args.self.now (view_ordered i.unit i.ring i.header i.records.items i.sealed c.args.self.now c.self.view_is c.self.invariant.ordered) _ _ c.write_staged.ensures.follows

pub returns-clause-leads : goal.returns-clause-leads
returns-clause-leads g c =
    let i = c.self.inside in
    λ some. subst (λ (x : Log). LeadsTo c.args.self.now sealing x (g.S.Shelf.meaning c.args.shelf.now) (g.S.Shelf.meaning c.write_staged.new.shelf))
    (sym (is_sealed i.unit i.ring i.header i.records.items i.sealed c.args.self.now c.self.view_is c.len-self-inside.result (omega (arith, c.len-self-inside.ensures))))
    (seal_leads c.args.self.now (view_ordered i.unit i.ring i.header i.records.items i.sealed c.args.self.now c.self.view_is c.self.invariant.ordered) _ _ c.in_default.ensures.arrives)

pub returns-in-Err-clause-blames : goal.returns-in-Err-clause-blames
returns-in-Err-clause-blames g c =
    blames_failed (Unit {0}) (g.S.Shelf.meaning c.args.shelf.now).disks _ _ c.in-Err.error c.refusal.result refl c.refusal.ensures c.in-Err.ensures.names
