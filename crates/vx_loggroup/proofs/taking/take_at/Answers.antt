-- `take_at`: its clauses; what `take_one` asks.
use Rattle.std.proofs.Common.{◌≡◌, ◌∙◌, None, Some, false, refl, sym, arith}
use Rattle.vx_disk.specs.Shelf.{Nothing}
use Rattle.vx_group.proofs.MendLemmas.{same_Goes}
use Rattle.vx_loggroup.specs.LoggedVolumes.{is_alike}
use Rattle.vx_loggroup.proofs.AlikeLemmas.{here_stands, set_stands}
use Rattle.vx_loggroup.proofs.SetLemmas.{item_of}
use Rattle.vx_loggroup.proofs.StillLemmas.{core_goes, core_others, core_stands}
use Rattle.vx_loggroup.proofs.TakenMaps.{takes_none, takes_set, were_set}
use Rattle.vx_loggroup.proofs.taking.take_at.Goals as goal

pub index_mut-requires : goal.index_mut-requires
index_mut-requires g c = let many = c.requires.stands.many in let there = c.requires.there in omega (arith, c.args.logs.now.ok, many, there)

pub take_one-requires-clause-stands : goal.take_one-requires-clause-stands
take_one-requires-clause-stands g c = c.requires.stands.group

pub take_one-requires-clause-plain : goal.take_one-requires-clause-plain
take_one-requires-clause-plain g c = c.requires.plain c.index_mut.result.now (item_of c.args.logs.now.items c.args.vol c.index_mut.result.now c.index_mut.ensures.value (let many = c.requires.stands.many in let there = c.requires.there in omega (arith, many, there)))

pub take_one-requires-clause-log : goal.take_one-requires-clause-log
take_one-requires-clause-log g c = (c.requires.stands.each c.args.vol c.index_mut.result.now (item_of c.args.logs.now.items c.args.vol c.index_mut.result.now c.index_mut.ensures.value (let many = c.requires.stands.many in let there = c.requires.there in omega (arith, many, there)))).on refl

pub take_one-requires-clause-tells : goal.take_one-requires-clause-tells
take_one-requires-clause-tells g c = c.requires.tells c.if-not-may.false

pub returns-then-not-may-clause-goes : goal.returns-then-not-may-clause-goes
returns-then-not-may-clause-goes g c = same_Goes (g.S.Shelf.meaning c.args.shelf.now)

pub returns-then-not-may-clause-takes : goal.returns-then-not-may-clause-takes
returns-then-not-may-clause-takes g c = takes_none c.args.core.now.inner.config c.args.may c.args.vol c.args.logs.now.items c.requires.plain

pub returns-clause-stands : goal.returns-clause-stands
returns-clause-stands g c =
    let law = g.met.S.Shelf.lawful c.args.shelf.now in
    let law' = g.met.S.Shelf.lawful c.take_one.new.shelf in
    let goes = core_goes c.args.core.now (g.S.Shelf.meaning c.args.shelf.now) (g.S.Shelf.meaning c.take_one.new.shelf) law law' c.requires.stands.group c.take_one.ensures.goes in
    set_stands Nothing c.args.core.now c.args.core.now c.args.logs.now.items c.args.alike.now c.args.alike.now false false c.args.vol c.take_one.new.one (g.S.Shelf.meaning c.args.shelf.now) (g.S.Shelf.meaning c.take_one.new.shelf) c.requires.stands
    (core_stands c.args.core.now (g.S.Shelf.meaning c.args.shelf.now) (g.S.Shelf.meaning c.take_one.new.shelf) law law' c.requires.stands.group c.take_one.ensures.goes) goes
    (λ w b x apart none. none) (λ off. off) (core_others c.args.vol c.args.core.now (g.S.Shelf.meaning c.args.shelf.now) (g.S.Shelf.meaning c.take_one.new.shelf) c.requires.stands.group c.take_one.ensures.goes) (λ w apart. refl)
    (here_stands c.args.core.now c.args.core.now c.args.vol c.index_mut.result.now c.take_one.new.one (is_alike c.args.alike.now c.args.vol) false (g.S.Shelf.meaning c.args.shelf.now) (g.S.Shelf.meaning c.take_one.new.shelf)
    (c.requires.stands.each c.args.vol c.index_mut.result.now (item_of c.args.logs.now.items c.args.vol c.index_mut.result.now c.index_mut.ensures.value (let many = c.requires.stands.many in let there = c.requires.there in omega (arith, many, there)))) goes (λ on. c.take_one.ensures.log) (λ know. c.take_one.ensures.known))

pub returns-clause-takes : goal.returns-clause-takes
returns-clause-takes g c = takes_set c.args.core.now.inner.config c.args.may c.args.vol c.args.logs.now.items c.index_mut.result.now c.take_one.new.one (item_of c.args.logs.now.items c.args.vol c.index_mut.result.now c.index_mut.ensures.value (let many = c.requires.stands.many in let there = c.requires.there in omega (arith, many, there))) c.take_one.ensures.drl c.if-not-may.false c.take_one.ensures.used

pub returns-then-not-may-clause-was : goal.returns-then-not-may-clause-was
returns-then-not-may-clause-was g c = λ k f is at. absurd (let clash : None ≡ Some f = sym (c.requires.plain k is) ∙ at in cc)

pub returns-clause-was : goal.returns-clause-was
returns-clause-was g c = were_set c.args.core.now.inner.config c.args.vol c.args.logs.now.items c.take_one.new.one (g.S.Shelf.meaning c.args.shelf.now) c.take_one.ensures.was
