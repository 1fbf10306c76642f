-- `begin_missing`: its clauses; what `begin_one` asks.
use Rattle.std.proofs.Common.{false, refl, arith}
use Rattle.vx_disk.proofs.Runs.{none_written}
use Rattle.vx_disk.specs.Shelf.{Nothing}
use Rattle.vx_group.specs.Holding.{wide}
use Rattle.vx_group.specs.Stands.{inner_meaning}
use Rattle.vx_group.proofs.MendLemmas.{same_Goes}
use Rattle.vx_group.proofs.TrustLemmas.{ok_from}
use Rattle.vx_loggroup.specs.Attaching.{fmr_at}
use Rattle.vx_loggroup.specs.LoggedVolumes.{is_alike}
use Rattle.vx_loggroup.proofs.AlikeLemmas.{here_stands, set_stands}
use Rattle.vx_loggroup.proofs.DetachedLogs.{begin_none, begin_set, empty_none, empty_set}
use Rattle.vx_loggroup.proofs.SetLemmas.{item_of}
use Rattle.vx_kept.proofs.Findings.{same_from}
use Rattle.vx_kept.specs.Finds.{NoConfiguration}
use Rattle.vx_loggroup.proofs.KeepingLemmas.{stays_none}
use Rattle.vx_loggroup.proofs.KeepingCalls.{dropped_stay}
use Rattle.vx_loggroup.proofs.detaching.begin_missing.Goals as goal

pub index_mut-requires : goal.index_mut-requires
index_mut-requires g c = let many = c.requires.stands.many in let there = c.requires.there in omega (arith, c.args.logs.now.ok, many, there)

pub begin_one-requires-clause-stands : goal.begin_one-requires-clause-stands
begin_one-requires-clause-stands g c = c.requires.stands.group

pub begin_one-requires-clause-some : goal.begin_one-requires-clause-some
begin_one-requires-clause-some g c = let is = c.blocks_of.ensures in let off = c.if-blocks_of-eq0.false in omega (arith, is, off)

pub begin_one-requires-clause-log : goal.begin_one-requires-clause-log
begin_one-requires-clause-log g c = (c.requires.stands.each c.args.vol c.index_mut.result.now (item_of c.args.logs.now.items c.args.vol c.index_mut.result.now c.index_mut.ensures.value (let many = c.requires.stands.many in let there = c.requires.there in omega (arith, many, there)))).on refl

pub begin_one-requires-clause-known : goal.begin_one-requires-clause-known
begin_one-requires-clause-known g c = (c.requires.stands.each c.args.vol c.index_mut.result.now (item_of c.args.logs.now.items c.args.vol c.index_mut.result.now c.index_mut.ensures.value (let many = c.requires.stands.many in let there = c.requires.there in omega (arith, many, there)))).maps refl

pub returns-clause-stands : goal.returns-clause-stands
returns-clause-stands g c =
    set_stands Nothing c.args.core.now c.args.core.now c.args.logs.now.items c.args.alike.now c.args.alike.now false false c.args.vol c.begin_one.new.one (g.S.Shelf.meaning c.args.shelf.now) (g.S.Shelf.meaning c.begin_one.new.shelf) c.requires.stands c.begin_one.ensures.stands c.begin_one.ensures.goes
    (λ w b x apart none. none) (λ off. off) c.begin_one.ensures.others (λ w apart. refl)
    (here_stands c.args.core.now c.args.core.now c.args.vol c.index_mut.result.now c.begin_one.new.one (is_alike c.args.alike.now c.args.vol) false (g.S.Shelf.meaning c.args.shelf.now) (g.S.Shelf.meaning c.begin_one.new.shelf) (c.requires.stands.each c.args.vol c.index_mut.result.now (item_of c.args.logs.now.items c.args.vol c.index_mut.result.now c.index_mut.ensures.value (let many = c.requires.stands.many in let there = c.requires.there in omega (arith, many, there)))) c.begin_one.ensures.goes (λ on. c.begin_one.ensures.log) (λ know. c.begin_one.ensures.known))

pub returns-clause-maps : goal.returns-clause-maps
returns-clause-maps g c = begin_set c.args.vol c.args.plex c.args.logs.now.items c.index_mut.result.now c.begin_one.new.one (item_of c.args.logs.now.items c.args.vol c.index_mut.result.now c.index_mut.ensures.value (let many = c.requires.stands.many in let there = c.requires.there in omega (arith, many, there))) c.begin_one.ensures.begins

pub returns-then-blocks_of-eq0-clause-maps : goal.returns-then-blocks_of-eq0-clause-maps
returns-then-blocks_of-eq0-clause-maps g c = begin_none c.args.vol c.args.plex c.args.logs.now.items

pub returns-then-blocks_of-eq0-clause-goes : goal.returns-then-blocks_of-eq0-clause-goes
returns-then-blocks_of-eq0-clause-goes g c = same_Goes (inner_meaning (wide c.args.core.now) (g.S.Shelf.meaning c.args.shelf.now))

pub returns-then-blocks_of-eq0-clause-below : goal.returns-then-blocks_of-eq0-clause-below
returns-then-blocks_of-eq0-clause-below g c = none_written _ (g.S.Shelf.meaning c.args.shelf.now) (g.S.Shelf.meaning c.args.shelf.now) (same_Goes (g.S.Shelf.meaning c.args.shelf.now))

pub returns-then-blocks_of-eq0-clause-empty : goal.returns-then-blocks_of-eq0-clause-empty
returns-then-blocks_of-eq0-clause-empty g c = empty_none c.args.core.now.inner.config c.args.vol c.args.plex (fmr_at c.args.logs.now.items c.args.vol) (let is = c.blocks_of.ensures in let zero = c.if-blocks_of-eq0.true in omega (arith, is, zero))

pub returns-clause-empty : goal.returns-clause-empty
returns-clause-empty g c = ok_from c.begin_one.result (empty_set c.args.core.now.inner.config c.args.vol c.args.plex c.args.logs.now.items c.begin_one.new.one) c.begin_one.ensures.empty

pub returns-then-blocks_of-eq0-clause-less : goal.returns-then-blocks_of-eq0-clause-less
returns-then-blocks_of-eq0-clause-less g c =
    same_from NoConfiguration (g.S.Shelf.meaning c.args.shelf.now)

pub returns-clause-less : goal.returns-clause-less
returns-clause-less g c =
    c.begin_one.ensures.less

pub returns-then-blocks_of-eq0-clause-stays : goal.returns-then-blocks_of-eq0-clause-stays
returns-then-blocks_of-eq0-clause-stays g c = stays_none c.args.core.now.inner.config c.args.logs.now.items (g.S.Shelf.meaning c.args.shelf.now) (g.S.Shelf.meaning c.args.shelf.now)

pub returns-clause-stays : goal.returns-clause-stays
returns-clause-stays g c = dropped_stay c.args.core.now.inner.config c.args.vol c.args.logs.now.items c.index_mut.result.now c.begin_one.new.one (g.S.Shelf.meaning c.args.shelf.now) (g.S.Shelf.meaning c.begin_one.new.shelf) (item_of c.args.logs.now.items c.args.vol c.index_mut.result.now c.index_mut.ensures.value (let many = c.requires.stands.many in let there = c.requires.there in omega (arith, many, there))) c.begin_one.ensures.drops
