-- `give_up_all`: its clauses; what stays true in its loop over `vol`, and what `give_up` asks.
use Rattle.std.proofs.Common.{arith}
use Rattle.vx_group.proofs.HoldLemmas.{wide_shape}
use Rattle.vx_loggroup.proofs.HeldMaps.{all_held, none_held, one_held}
use Rattle.vx_loggroup.proofs.failed_maps.give_up_all.Goals as goal

pub loop-vol-init : goal.loop-vol-init
loop-vol-init g c = none_held c.args.core.now c.args.alike.now c.args.stopped c.args.logs.now.items (g.S.Shelf.meaning c.args.shelf.now) c.requires.stands

pub overflow_cast-vol : goal.overflow_cast-vol
overflow_cast-vol g c =
    let end = c.len-vol-end.ensures in let test = c.loop-vol-test.true in
    let many = c.requires.stands.many in
    let few = c.requires.stands.group.stands.few in
    let same = (wide_shape c.args.core.now).volumes in
    omega (arith, c.args.logs.now.ok, end, test, many, few, same)

pub give_up-requires : goal.give_up-requires
give_up-requires g c = record { stands = c.loop-vol.invariant.stands }

pub loop-vol-preserved : goal.loop-vol-preserved
loop-vol-preserved g c =
    one_held c.args.core.now c.args.alike.now c.args.stopped c.args.logs.now.items (g.S.Shelf.meaning c.args.shelf.now) c.loop-vol.vol c.loop-vol.logs.items c.loop-vol.invariant c.give_up.new.logs.items c.give_up.ensures.stands c.give_up.ensures.held

pub returns-clause-stands : goal.returns-clause-stands
returns-clause-stands g c = c.loop-vol.invariant.stands

pub returns-clause-held : goal.returns-clause-held
returns-clause-held g c =
    let end = c.len-vol-end.ensures in let test = c.loop-vol-test.false in
    let many = c.loop-vol.invariant.many in
    all_held c.args.core.now c.args.alike.now c.args.stopped c.args.logs.now.items (g.S.Shelf.meaning c.args.shelf.now) c.loop-vol.vol c.loop-vol.logs.items c.loop-vol.invariant (omega (arith, c.args.logs.now.ok, end, test, many))
