-- `give_up`: its clauses; what `index_mut` asks.
use Rattle.std.proofs.Common.{◌∙◌, sym, arith}
use Rattle.vx_loggroup.proofs.HeldMaps.{drop_stands, held_same, held_set, held_there}
use Rattle.vx_loggroup.proofs.SetLemmas.{item_of}
use Rattle.vx_loggroup.proofs.failed_maps.give_up.Goals as goal

pub returns-then-not-lies_on_failed-clause-stands : goal.returns-then-not-lies_on_failed-clause-stands
returns-then-not-lies_on_failed-clause-stands g c = c.requires.stands

pub returns-then-not-lies_on_failed-clause-held : goal.returns-then-not-lies_on_failed-clause-held
returns-then-not-lies_on_failed-clause-held g c = held_same c.args.core.now.inner.config c.args.vol c.args.logs.now.items (sym c.lies_on_failed.ensures ∙ c.if-not-lies_on_failed.true)

pub index_mut-requires : goal.index_mut-requires
index_mut-requires g c = let there = held_there c.args.core.now.inner.config c.args.vol (sym c.lies_on_failed.ensures ∙ c.if-not-lies_on_failed.false) in let many = c.requires.stands.many in omega (arith, c.args.logs.now.ok, there, many)

pub returns-clause-stands : goal.returns-clause-stands
returns-clause-stands g c =
    drop_stands c.args.core.now c.args.logs.now.items c.args.alike.now c.args.stopped (g.S.Shelf.meaning c.args.shelf.now) c.args.vol c.index_mut.result.now c.drop_maps.new.one
    (item_of c.args.logs.now.items c.args.vol c.index_mut.result.now c.index_mut.ensures.value (let there = held_there c.args.core.now.inner.config c.args.vol (sym c.lies_on_failed.ensures ∙ c.if-not-lies_on_failed.false) in let many = c.requires.stands.many in omega (arith, there, many)))
    c.drop_maps.ensures.drl c.drop_maps.ensures.gone c.requires.stands

pub returns-clause-held : goal.returns-clause-held
returns-clause-held g c =
    held_set c.args.core.now.inner.config c.args.vol c.args.logs.now.items c.index_mut.result.now c.drop_maps.new.one
    (item_of c.args.logs.now.items c.args.vol c.index_mut.result.now c.index_mut.ensures.value (let there = held_there c.args.core.now.inner.config c.args.vol (sym c.lies_on_failed.ensures ∙ c.if-not-lies_on_failed.false) in let many = c.requires.stands.many in omega (arith, there, many)))
    (sym c.lies_on_failed.ensures ∙ c.if-not-lies_on_failed.false) c.drop_maps.ensures.drl c.drop_maps.ensures.gone
