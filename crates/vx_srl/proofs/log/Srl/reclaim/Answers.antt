-- `reclaim`: clauses goes, leads and blames.
use Rattle.std.proofs.Common.{◌≡◌, ℕ, ◌+◌, ◌-◌, ◌∙◌, ap, arith}
use Rattle.vx_srl.specs.Calls.{saved}
use Rattle.vx_srl.specs.Views.{Log}
use Rattle.vx_disk.proofs.Naming.{blames_failed}
use Rattle.vx_srl.proofs.LogLists.{low_some}
use Rattle.vx_srl.proofs.Saving.{without_goes, without_leads}
use Rattle.vx_srl.proofs.log.Srl.reclaim.Goals as goal

pub returns-in-Err-clause-goes : goal.returns-in-Err-clause-goes
returns-in-Err-clause-goes g c =
    let low : c.self.inside.header.low ≡ c.args.self.now.header.low = ap (λ (x : Log). x.header.low) c.self.view_is in
    without_goes _ _ c.self.view_is c.header_without-header.result _ _ c.args.to c.header_without-header.ensures.is
    (omega (arith, low, low_some c.self.inside.ring c.self.inside.header c.self.invariant.ordered.of_ring)) (omega (arith, low, c.if-to-self.false)) c.requires.held c.write_header.ensures.follows

pub returns-clause-goes : goal.returns-clause-goes
returns-clause-goes g c =
    let low : c.self.inside.header.low ≡ c.args.self.now.header.low = ap (λ (x : Log). x.header.low) c.self.view_is in
    without_goes _ _ c.self.view_is c.header_without-header.result _ _ c.args.to c.header_without-header.ensures.is
    (omega (arith, low, low_some c.self.inside.ring c.self.inside.header c.self.invariant.ordered.of_ring)) (omega (arith, low, c.if-to-self.false)) c.requires.held c.write_header.ensures.follows

pub returns-clause-leads : goal.returns-clause-leads
returns-clause-leads g c =
    let low : c.self.inside.header.low ≡ c.args.self.now.header.low = ap (λ (x : Log). x.header.low) c.self.view_is in
    λ at. without_leads _ _ c.self.view_is c.header_without-header.result _ _ c.args.to _ c.header_without-header.ensures.is
    (omega (arith, low, low_some c.self.inside.ring c.self.inside.header c.self.invariant.ordered.of_ring)) at c.requires.held
    (c.give_up.ensures ∙ ap (λ (x : ℕ). saved c.args.self.now c.header_without-header.result (c.args.to + 1 - x)) low) c.in_default.ensures.arrives

pub returns-in-Err-clause-blames : goal.returns-in-Err-clause-blames
returns-in-Err-clause-blames g c =
    blames_failed (Unit {0}) (g.S.Shelf.meaning c.args.shelf.now).disks _ _ c.in-Err.error c.refusal.result (ap (λ (l : Log). l.unit) c.self.view_is) c.refusal.ensures c.in-Err.ensures.names
