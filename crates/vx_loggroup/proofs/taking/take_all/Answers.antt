-- `take_all`: its clauses; what stays true in its loop over `vol`, and what the calls ask.
use Rattle.std.proofs.Common.{◌∙◌, sym, arith}
use Rattle.vx_group.proofs.HoldLemmas.{wide_shape}
use Rattle.vx_logs.specs.declared.logs.Logs.{Logs}
use Rattle.vx_loggroup.proofs.TakenMaps.{next_tells, none_taken, one_taken}
use Rattle.vx_loggroup.proofs.taking.take_all.Goals as goal

pub loop-vol-init : goal.loop-vol-init
loop-vol-init g c = none_taken c.args.core.now c.args.alike.now c.args.good c.args.stopped.now c.args.rested.now c.args.logs.now.items (g.S.Shelf.meaning c.args.shelf.now) c.requires.stands c.requires.plain

pub overflow_cast-vol : goal.overflow_cast-vol
overflow_cast-vol g c =
    let end = c.len-vol-end.ensures in let test = c.loop-vol-test.true in
    let many = c.requires.stands.many in
    let few = c.requires.stands.group.stands.few in
    let same = (wide_shape c.args.core.now).volumes in
    omega (arith, c.args.logs.now.ok, end, test, many, few, same)

pub may_take-may-requires : goal.may_take-may-requires
may_take-may-requires g c = record {
  inside =
      let end = c.len-vol-end.ensures in let test = c.loop-vol-test.true in
      let many = c.requires.stands.many in
      let few = c.requires.stands.group.stands.few in
      let same = (wide_shape c.args.core.now).volumes in
      omega (arith, c.args.logs.now.ok, end, test, many, few, same);
}

pub take_at-requires-clause-stands : goal.take_at-requires-clause-stands
take_at-requires-clause-stands g c = c.loop-vol.invariant.stands

pub take_at-requires-clause-there : goal.take_at-requires-clause-there
take_at-requires-clause-there g c =
    let end = c.len-vol-end.ensures in let test = c.loop-vol-test.true in
    let many = c.requires.stands.many in
    omega (arith, c.args.logs.now.ok, end, test, many)

pub take_at-requires-clause-plain : goal.take_at-requires-clause-plain
take_at-requires-clause-plain g c = λ (l : Logs) is. c.requires.plain c.loop-vol.vol l (sym (c.loop-vol.invariant.rest c.loop-vol.vol (omega arith)) ∙ is)

pub take_at-requires-clause-tells : goal.take_at-requires-clause-tells
take_at-requires-clause-tells g c = λ may up.
    let end = c.len-vol-end.ensures in let test = c.loop-vol-test.true in
    let many = c.requires.stands.many in
    next_tells c.args.core.now c.args.alike.now c.args.good c.args.stopped.now c.args.rested.now c.args.logs.now.items (g.S.Shelf.meaning c.args.shelf.now) c.loop-vol.vol c.loop-vol.logs.items (g.S.Shelf.meaning c.loop-vol.shelf) c.loop-vol.invariant
    (c.requires.tells c.loop-vol.vol (omega (arith, c.args.logs.now.ok, end, test, many)) (c.may_take-may.ensures.clean may) (c.may_take-may.ensures.maps may)) up

pub loop-vol-preserved : goal.loop-vol-preserved
loop-vol-preserved g c =
    one_taken c.args.core.now c.args.alike.now c.args.good c.args.stopped.now c.args.rested.now c.args.logs.now.items (g.S.Shelf.meaning c.args.shelf.now) c.loop-vol.vol c.loop-vol.logs.items (g.S.Shelf.meaning c.loop-vol.shelf) c.loop-vol.invariant c.may_take-may.result c.may_take-may.ensures.clean c.may_take-may.ensures.maps c.may_take-may.ensures.within c.take_at.new.logs.items (g.S.Shelf.meaning c.take_at.new.shelf) c.take_at.ensures.stands c.take_at.ensures.goes c.take_at.ensures.takes c.take_at.ensures.was

pub returns-clause-stands : goal.returns-clause-stands
returns-clause-stands g c = c.loop-vol.invariant.stands

pub returns-clause-goes : goal.returns-clause-goes
returns-clause-goes g c = c.loop-vol.invariant.goes

pub returns-clause-drls : goal.returns-clause-drls
returns-clause-drls g c = c.loop-vol.invariant.drls

pub returns-clause-why : goal.returns-clause-why
returns-clause-why g c = c.loop-vol.invariant.why

pub returns-clause-were : goal.returns-clause-were
returns-clause-were g c = c.loop-vol.invariant.were
