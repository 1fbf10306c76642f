-- `fetch`: clauses cause, gives, agrees, names, blames and works; what `read_body` asks.
use Rattle.std.proofs.Common.{ℕ, ◌*◌, ◌/◌, ◌≤◌, ◌∙◌, List, ap, sym, subst, arith, length, take, length-take}
use Rattle.vx_wire.specs.Seals.{digest_of}
use Rattle.vx_srl.specs.Views.{Log}
use Rattle.vx_disk.proofs.Naming.{blames_failed}
use Rattle.vx_srl.proofs.ScanBodies.{body_shown}
use Rattle.vx_srl.proofs.FetchKept.{count_within, count_few, never_differ, fetched, agrees, names}
use Rattle.vx_disk.specs.Causes.{Works}
use Rattle.vx_srl.proofs.log.Srl.fetch.Goals as goal

short : (count ring : ℕ) (xs : List ℕ) → count ≤ ring → length (take (512 * count) xs) / 512 ≤ ring
short count ring xs few = omega (arith, length-take (512 * count) xs, few)

pub read_body-requires-clause-room : goal.read_body-requires-clause-room
read_body-requires-clause-room g c =
    short _ _ _ (count_within c.self.inside.unit _ _ _ _ _ _ _ c.self.invariant c.args.self.now c.self.view_is c.args.n c.if-n-self.false c.requires.held c.index-kept.result.now c.index-kept.ensures)

pub returns-in-Differs-clause-cause : goal.returns-in-Differs-clause-cause
returns-in-Differs-clause-cause g c =
    let few : c.index-kept.result.now.head.count ≤ 16 =
    count_few c.self.inside.unit _ _ _ _ _ _ _ c.self.invariant c.args.self.now c.self.view_is c.args.n c.if-n-self.false c.requires.held c.index-kept.result.now c.index-kept.ensures in
    λ low. (
      ap (λ (l : Log). l.unit) c.self.view_is,
      c.in-Differs.ensures.is.2,
      never_differ c.self.inside.unit _ _ _ _ _ _ _ c.self.invariant c.args.self.now c.self.view_is c.args.n c.if-n-self.false c.requires.held c.index-kept.result.now c.index-kept.ensures
          _ c.read_body.new.into (omega (arith, c.read_body.ensures.size, length-take {A = ℕ})) c.in_default.ensures.shows c.in-Differs.stored c.in-Differs.computed c.unmask_body.new.bytes c.in-Differs.ensures.is,
    )

pub returns-clause-gives : goal.returns-clause-gives
returns-clause-gives g c =
    let few : c.index-kept.result.now.head.count ≤ 16 =
    count_few c.self.inside.unit _ _ _ _ _ _ _ c.self.invariant c.args.self.now c.self.view_is c.args.n c.if-n-self.false c.requires.held c.index-kept.result.now c.index-kept.ensures in
    fetched c.self.inside.unit _ _ _ _ _ _ _ c.self.invariant c.args.self.now c.self.view_is c.args.n c.if-n-self.false c.requires.held c.index-kept.result.now c.index-kept.ensures
    _ c.read_body.new.into (omega (arith, c.read_body.ensures.size, length-take {A = ℕ})) c.in_default.ensures.shows c.new.result (c.new.ensures ∙ c.in_default-unmask_body.ensures.is.0)

pub returns-clause-agrees : goal.returns-clause-agrees
returns-clause-agrees g c =
    let few : c.index-kept.result.now.head.count ≤ 16 =
    count_few c.self.inside.unit _ _ _ _ _ _ _ c.self.invariant c.args.self.now c.self.view_is c.args.n c.if-n-self.false c.requires.held c.index-kept.result.now c.index-kept.ensures in
    agrees c.self.inside.unit _ _ _ _ _ _ _ c.self.invariant c.args.self.now c.self.view_is c.args.n c.if-n-self.false c.requires.held c.index-kept.result.now c.index-kept.ensures
    c.new.result (omega (arith, c.read_body.ensures.size, c.unmask_body.ensures.size, ap (λ (bytes : List ℕ). length bytes) c.new.ensures, length-take {A = ℕ}))
    (c.in_default-unmask_body.ensures.is.1 ∙ ap (λ (bytes : List ℕ). digest_of bytes) (sym c.new.ensures))

pub returns-in-Differs-clause-names : goal.returns-in-Differs-clause-names
returns-in-Differs-clause-names g c =
    let few : c.index-kept.result.now.head.count ≤ 16 =
    count_few c.self.inside.unit _ _ _ _ _ _ _ c.self.invariant c.args.self.now c.self.view_is c.args.n c.if-n-self.false c.requires.held c.index-kept.result.now c.index-kept.ensures in
    λ low. names c.self.inside.unit _ _ _ _ _ _ _ c.self.invariant c.args.self.now c.self.view_is c.args.n c.if-n-self.false c.requires.held c.index-kept.result.now c.index-kept.ensures
    c.in-Differs.stored c.in-Differs.ensures.is.0 (g.S.Shelf.meaning c.args.shelf.now) c.in-Differs.computed
    (λ tells. body_shown c.self.inside.unit c.self.inside.ring c.index-kept.result.now.place c.index-kept.result.now.head c.read_body.new.into (g.S.Shelf.meaning c.args.shelf.now) c.in-Differs.computed
    (omega (arith, c.read_body.ensures.size, length-take {A = ℕ})) (c.in_default.ensures.gave tells) c.in-Differs.ensures.is.1)

pub returns-clause-works : goal.returns-clause-works
returns-clause-works g c = subst (λ (l : Log). Works (g.S.Shelf.meaning c.args.shelf.now).disks l.unit) c.self.view_is c.in_default.ensures.works

pub returns-in-Err-clause-blames : goal.returns-in-Err-clause-blames
returns-in-Err-clause-blames g c =
    blames_failed (Unit {0}) (g.S.Shelf.meaning c.args.shelf.now).disks _ _ c.in-Err.error c.refusal.result (ap (λ (l : Log). l.unit) c.self.view_is) c.refusal.ensures c.in-Err.ensures.names
