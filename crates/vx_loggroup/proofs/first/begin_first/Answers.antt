-- `begin_first`: its clauses; what its calls ask.
use Rattle.std.proofs.Common.{false, ap, refl, arith, Bool}
use Rattle.vx_config.specs.Checks.{blocks_of}
use Rattle.vx_disk.specs.Shelf.{Nothing}
use Rattle.vx_disk.proofs.Causing.{Cause_both}
use Rattle.vx_group.specs.Attaches.{region_count}
use Rattle.vx_group.specs.Holding.{wide}
use Rattle.vx_group.specs.Stands.{inner_meaning}
use Rattle.vx_group.proofs.TrustLemmas.{err_from, ok_from}
use Rattle.vx_model.specs.Sizes.{regions_of}
use Rattle.vx_groupmaps.specs.Missing.{none_spared}
use Rattle.vx_logged.proofs.StandLemmas.{alike_goes, others_each}
use Rattle.vx_loggroup.specs.LoggedVolumes.{is_alike}
use Rattle.vx_loggroup.proofs.AlikeLemmas.{all_whole, here_stands, index_low, set_stands}
use Rattle.vx_loggroup.proofs.FreshLemmas.{begins_then, lists_none, lists_set}
use Rattle.vx_loggroup.proofs.NewLemmas.{list_same, list_set, news_same, news_start}
use Rattle.vx_loggroup.proofs.SetLemmas.{item_of}
use Rattle.vx_loggroup.specs.Keeping.{logs_at}
use Rattle.vx_loggroup.proofs.SureLemmas.{since_less, since_set, since_then}
use Rattle.vx_group.proofs.UnsureLemmas.{marks_then, misses_to}
use Rattle.vx_loggroup.proofs.first.begin_first.Goals as goal

pub index_mut-requires : goal.index_mut-requires
index_mut-requires g c = let lt = (index_low c.args.core.now c.args.logs.now.items c.args.alike.now false (g.S.Shelf.meaning c.args.shelf.now) c.args.vol c.requires.stands c.requires.there) in omega (arith, c.args.logs.now.ok, lt)

pub returns-in-Err-clause-stands : goal.returns-in-Err-clause-stands
returns-in-Err-clause-stands g c = all_whole c.args.core.now c.ready_group.new.core c.args.logs.now.items c.args.alike.now false (g.S.Shelf.meaning c.args.shelf.now) (g.S.Shelf.meaning c.ready_group.new.shelf) c.requires.stands c.ready_group.ensures.stands c.ready_group.ensures.goes c.ready_group.ensures.logs

pub returns-in-Err-clause-begins : goal.returns-in-Err-clause-begins
returns-in-Err-clause-begins g c = (record { goes = c.ready_group.ensures.goes; loses = c.ready_group.ensures.loses; finds = c.ready_group.ensures.finds; trusts = c.ready_group.ensures.trusts; still = c.ready_group.ensures.still; on = c.ready_group.ensures.narrow.on; units = c.ready_group.ensures.below; others = others_each c.args.vol c.args.core.now c.ready_group.new.core (g.S.Shelf.meaning c.args.shelf.now) (g.S.Shelf.meaning c.ready_group.new.shelf) c.ready_group.ensures.logs })

pub returns-in-Err-clause-first : goal.returns-in-Err-clause-first
returns-in-Err-clause-first g c = lists_none c.args.vol (region_count (wide c.args.core.now).config c.args.vol) c.args.logs.now.items

pub returns-then-not-ready-clause-stands : goal.returns-then-not-ready-clause-stands
returns-then-not-ready-clause-stands g c = all_whole c.args.core.now c.ready_group.new.core c.args.logs.now.items c.args.alike.now false (g.S.Shelf.meaning c.args.shelf.now) (g.S.Shelf.meaning c.ready_group.new.shelf) c.requires.stands c.ready_group.ensures.stands c.ready_group.ensures.goes c.ready_group.ensures.logs

pub returns-then-not-ready-clause-begins : goal.returns-then-not-ready-clause-begins
returns-then-not-ready-clause-begins g c = (record { goes = c.ready_group.ensures.goes; loses = c.ready_group.ensures.loses; finds = c.ready_group.ensures.finds; trusts = c.ready_group.ensures.trusts; still = c.ready_group.ensures.still; on = c.ready_group.ensures.narrow.on; units = c.ready_group.ensures.below; others = others_each c.args.vol c.args.core.now c.ready_group.new.core (g.S.Shelf.meaning c.args.shelf.now) (g.S.Shelf.meaning c.ready_group.new.shelf) c.ready_group.ensures.logs })

pub returns-then-not-ready-clause-first : goal.returns-then-not-ready-clause-first
returns-then-not-ready-clause-first g c = lists_none c.args.vol (region_count (wide c.args.core.now).config c.args.vol) c.args.logs.now.items

pub returns-then-blocks_of-eq0-clause-stands : goal.returns-then-blocks_of-eq0-clause-stands
returns-then-blocks_of-eq0-clause-stands g c = all_whole c.args.core.now c.ready_group.new.core c.args.logs.now.items c.args.alike.now false (g.S.Shelf.meaning c.args.shelf.now) (g.S.Shelf.meaning c.ready_group.new.shelf) c.requires.stands c.ready_group.ensures.stands c.ready_group.ensures.goes c.ready_group.ensures.logs

pub returns-then-blocks_of-eq0-clause-begins : goal.returns-then-blocks_of-eq0-clause-begins
returns-then-blocks_of-eq0-clause-begins g c = (record { goes = c.ready_group.ensures.goes; loses = c.ready_group.ensures.loses; finds = c.ready_group.ensures.finds; trusts = c.ready_group.ensures.trusts; still = c.ready_group.ensures.still; on = c.ready_group.ensures.narrow.on; units = c.ready_group.ensures.below; others = others_each c.args.vol c.args.core.now c.ready_group.new.core (g.S.Shelf.meaning c.args.shelf.now) (g.S.Shelf.meaning c.ready_group.new.shelf) c.ready_group.ensures.logs })

pub returns-then-blocks_of-eq0-clause-first : goal.returns-then-blocks_of-eq0-clause-first
returns-then-blocks_of-eq0-clause-first g c = lists_none c.args.vol (region_count (wide c.args.core.now).config c.args.vol) c.args.logs.now.items

pub returns-then-not-ready-clause-few : goal.returns-then-not-ready-clause-few
returns-then-not-ready-clause-few g c = let few = c.in-Ok.ensures.few in omega (arith, few)

pub returns-then-blocks_of-eq0-clause-few : goal.returns-then-blocks_of-eq0-clause-few
returns-then-blocks_of-eq0-clause-few g c = let few = c.in-Ok.ensures.few in omega (arith, few)

pub begin_both-requires-clause-none : goal.begin_both-requires-clause-none
begin_both-requires-clause-none g c = c.in-Ok.ensures.none c.if-not-ready.false

pub begin_both-requires-clause-up : goal.begin_both-requires-clause-up
begin_both-requires-clause-up g c = c.in-Ok.ensures.cause.after

pub begin_both-requires-clause-there : goal.begin_both-requires-clause-there
begin_both-requires-clause-there g c = let same = c.ready_group.ensures.goes.units in let there = c.requires.there in omega (arith, same, there)

pub begin_both-requires-clause-some : goal.begin_both-requires-clause-some
begin_both-requires-clause-some g c = let is = c.blocks_of.ensures in let off = c.if-blocks_of-eq0.false in omega (arith, is, off)

pub begin_both-requires-clause-log : goal.begin_both-requires-clause-log
begin_both-requires-clause-log g c = c.ready_group.ensures.logs.each c.args.vol c.index_mut.result.now ((c.requires.stands.each c.args.vol c.index_mut.result.now (item_of c.args.logs.now.items c.args.vol c.index_mut.result.now c.index_mut.ensures.value (index_low c.args.core.now c.args.logs.now.items c.args.alike.now false (g.S.Shelf.meaning c.args.shelf.now) c.args.vol c.requires.stands c.requires.there))).on refl)

pub begin_both-requires-clause-maps : goal.begin_both-requires-clause-maps
begin_both-requires-clause-maps g c = c.ready_group.ensures.logs.maps c.args.vol none_spared c.index_mut.result.now ((c.requires.stands.each c.args.vol c.index_mut.result.now (item_of c.args.logs.now.items c.args.vol c.index_mut.result.now c.index_mut.ensures.value (index_low c.args.core.now c.args.logs.now.items c.args.alike.now false (g.S.Shelf.meaning c.args.shelf.now) c.args.vol c.requires.stands c.requires.there))).maps refl)

pub begin_both-requires-clause-alike : goal.begin_both-requires-clause-alike
begin_both-requires-clause-alike g c = alike_goes c.args.core.now c.ready_group.new.core c.args.vol (g.S.Shelf.meaning c.args.shelf.now) (g.S.Shelf.meaning c.ready_group.new.shelf) c.ready_group.ensures.goes c.requires.same

pub returns-clause-begins : goal.returns-clause-begins
returns-clause-begins g c = (begins_then c.args.vol c.args.core.now c.ready_group.new.core c.begin_both.new.core (g.S.Shelf.meaning c.args.shelf.now) (g.S.Shelf.meaning c.ready_group.new.shelf) (g.S.Shelf.meaning c.begin_both.new.shelf) (record { goes = c.ready_group.ensures.goes; loses = c.ready_group.ensures.loses; finds = c.ready_group.ensures.finds; trusts = c.ready_group.ensures.trusts; still = c.ready_group.ensures.still; on = c.ready_group.ensures.narrow.on; units = c.ready_group.ensures.below; others = others_each c.args.vol c.args.core.now c.ready_group.new.core (g.S.Shelf.meaning c.args.shelf.now) (g.S.Shelf.meaning c.ready_group.new.shelf) c.ready_group.ensures.logs }) c.begin_both.ensures.begins)

pub returns-clause-stands : goal.returns-clause-stands
returns-clause-stands g c =
    set_stands Nothing c.args.core.now c.begin_both.new.core c.args.logs.now.items c.args.alike.now c.args.alike.now false false c.args.vol c.begin_both.new.one (g.S.Shelf.meaning c.args.shelf.now) (g.S.Shelf.meaning c.begin_both.new.shelf) c.requires.stands c.begin_both.ensures.stands (begins_then c.args.vol c.args.core.now c.ready_group.new.core c.begin_both.new.core (g.S.Shelf.meaning c.args.shelf.now) (g.S.Shelf.meaning c.ready_group.new.shelf) (g.S.Shelf.meaning c.begin_both.new.shelf) (record { goes = c.ready_group.ensures.goes; loses = c.ready_group.ensures.loses; finds = c.ready_group.ensures.finds; trusts = c.ready_group.ensures.trusts; still = c.ready_group.ensures.still; on = c.ready_group.ensures.narrow.on; units = c.ready_group.ensures.below; others = others_each c.args.vol c.args.core.now c.ready_group.new.core (g.S.Shelf.meaning c.args.shelf.now) (g.S.Shelf.meaning c.ready_group.new.shelf) c.ready_group.ensures.logs }) c.begin_both.ensures.begins).goes
    (λ w b x apart none. none) (λ off. off) (begins_then c.args.vol c.args.core.now c.ready_group.new.core c.begin_both.new.core (g.S.Shelf.meaning c.args.shelf.now) (g.S.Shelf.meaning c.ready_group.new.shelf) (g.S.Shelf.meaning c.begin_both.new.shelf) (record { goes = c.ready_group.ensures.goes; loses = c.ready_group.ensures.loses; finds = c.ready_group.ensures.finds; trusts = c.ready_group.ensures.trusts; still = c.ready_group.ensures.still; on = c.ready_group.ensures.narrow.on; units = c.ready_group.ensures.below; others = others_each c.args.vol c.args.core.now c.ready_group.new.core (g.S.Shelf.meaning c.args.shelf.now) (g.S.Shelf.meaning c.ready_group.new.shelf) c.ready_group.ensures.logs }) c.begin_both.ensures.begins).others (λ w apart. refl)
    (here_stands c.args.core.now c.begin_both.new.core c.args.vol c.index_mut.result.now c.begin_both.new.one (is_alike c.args.alike.now c.args.vol) false (g.S.Shelf.meaning c.args.shelf.now) (g.S.Shelf.meaning c.begin_both.new.shelf) (c.requires.stands.each c.args.vol c.index_mut.result.now (item_of c.args.logs.now.items c.args.vol c.index_mut.result.now c.index_mut.ensures.value (index_low c.args.core.now c.args.logs.now.items c.args.alike.now false (g.S.Shelf.meaning c.args.shelf.now) c.args.vol c.requires.stands c.requires.there))) (begins_then c.args.vol c.args.core.now c.ready_group.new.core c.begin_both.new.core (g.S.Shelf.meaning c.args.shelf.now) (g.S.Shelf.meaning c.ready_group.new.shelf) (g.S.Shelf.meaning c.begin_both.new.shelf) (record { goes = c.ready_group.ensures.goes; loses = c.ready_group.ensures.loses; finds = c.ready_group.ensures.finds; trusts = c.ready_group.ensures.trusts; still = c.ready_group.ensures.still; on = c.ready_group.ensures.narrow.on; units = c.ready_group.ensures.below; others = others_each c.args.vol c.args.core.now c.ready_group.new.core (g.S.Shelf.meaning c.args.shelf.now) (g.S.Shelf.meaning c.ready_group.new.shelf) c.ready_group.ensures.logs }) c.begin_both.ensures.begins).goes (λ on. c.begin_both.ensures.log) (λ know. c.begin_both.ensures.maps))

pub returns-clause-first : goal.returns-clause-first
returns-clause-first g c = lists_set c.args.vol (region_count (wide c.args.core.now).config c.args.vol) (region_count (wide c.ready_group.new.core).config c.args.vol) c.args.logs.now.items c.index_mut.result.now c.begin_both.new.one (item_of c.args.logs.now.items c.args.vol c.index_mut.result.now c.index_mut.ensures.value (index_low c.args.core.now c.args.logs.now.items c.args.alike.now false (g.S.Shelf.meaning c.args.shelf.now) c.args.vol c.requires.stands c.requires.there)) (ap regions_of (c.ready_group.ensures.goes.size c.args.vol)) c.begin_both.ensures.first

pub returns-clause-few : goal.returns-clause-few
returns-clause-few g c = ok_from c.begin_both.result (λ few. let one = c.in-Ok.ensures.few in let two = few in omega (arith, one, two)) c.begin_both.ensures.few

pub returns-clause-trust : goal.returns-clause-trust
returns-clause-trust g c = ok_from c.begin_both.result (λ keeps is. keeps (c.in-Ok.ensures.trust is)) c.begin_both.ensures.trust

pub returns-clause-agreed : goal.returns-clause-agreed
returns-clause-agreed g c = err_from c.begin_both.result (λ keeps is. keeps (c.in-Ok.ensures.trust is)) c.begin_both.ensures.agreed

pub returns-then-not-ready-clause-cause : goal.returns-then-not-ready-clause-cause
returns-then-not-ready-clause-cause g c = record { before = c.in-Ok.ensures.cause.before; after = c.in-Ok.ensures.cause.after }

pub returns-then-blocks_of-eq0-clause-cause : goal.returns-then-blocks_of-eq0-clause-cause
returns-then-blocks_of-eq0-clause-cause g c = record { before = c.in-Ok.ensures.cause.before; after = c.in-Ok.ensures.cause.after }

pub returns-clause-cause : goal.returns-clause-cause
returns-clause-cause g c = Cause_both (inner_meaning (wide c.args.core.now) (g.S.Shelf.meaning c.args.shelf.now)) (inner_meaning (wide c.ready_group.new.core) (g.S.Shelf.meaning c.ready_group.new.shelf)) (inner_meaning (wide c.begin_both.new.core) (g.S.Shelf.meaning c.begin_both.new.shelf)) c.args.vol c.begin_both.result (record { before = c.in-Ok.ensures.cause.before; after = c.in-Ok.ensures.cause.after }) c.ready_group.ensures.goes.faults c.ready_group.ensures.goes.disk_faults c.begin_both.ensures.cause

pub returns-in-Err-clause-news : goal.returns-in-Err-clause-news
returns-in-Err-clause-news g c = list_same c.args.core.now.inner.config c.args.vol c.args.logs.now.items

pub returns-then-not-ready-clause-news : goal.returns-then-not-ready-clause-news
returns-then-not-ready-clause-news g c = list_same c.args.core.now.inner.config c.args.vol c.args.logs.now.items

pub returns-then-blocks_of-eq0-clause-news : goal.returns-then-blocks_of-eq0-clause-news
returns-then-blocks_of-eq0-clause-news g c = list_same c.args.core.now.inner.config c.args.vol c.args.logs.now.items

pub returns-clause-news : goal.returns-clause-news
returns-clause-news g c = list_set c.args.core.now.inner.config c.args.vol c.args.logs.now.items c.index_mut.result.now c.begin_both.new.one (item_of c.args.logs.now.items c.args.vol c.index_mut.result.now c.index_mut.ensures.value (index_low c.args.core.now c.args.logs.now.items c.args.alike.now false (g.S.Shelf.meaning c.args.shelf.now) c.args.vol c.requires.stands c.requires.there))
    (news_start c.args.vol c.args.core.now c.ready_group.new.core (g.S.Shelf.meaning c.args.shelf.now) (g.S.Shelf.meaning c.ready_group.new.shelf) (record { goes = c.ready_group.ensures.goes; loses = c.ready_group.ensures.loses; finds = c.ready_group.ensures.finds; trusts = c.ready_group.ensures.trusts; still = c.ready_group.ensures.still; on = c.ready_group.ensures.narrow.on; units = c.ready_group.ensures.below; others = others_each c.args.vol c.args.core.now c.ready_group.new.core (g.S.Shelf.meaning c.args.shelf.now) (g.S.Shelf.meaning c.ready_group.new.shelf) c.ready_group.ensures.logs }) c.index_mut.result.now c.index_mut.result.now c.begin_both.new.one c.begin_both.ensures.first.fmr (news_same c.args.core.now.inner.config c.args.vol c.index_mut.result.now) c.begin_both.ensures.news)

pub returns-in-Err-clause-since : goal.returns-in-Err-clause-since
returns-in-Err-clause-since g c = since_less c.args.vol (logs_at c.args.logs.now.items c.args.vol) c.args.core.now c.ready_group.new.core c.ready_group.ensures.narrow

pub returns-then-not-ready-clause-since : goal.returns-then-not-ready-clause-since
returns-then-not-ready-clause-since g c = since_less c.args.vol (logs_at c.args.logs.now.items c.args.vol) c.args.core.now c.ready_group.new.core c.ready_group.ensures.narrow

pub returns-then-blocks_of-eq0-clause-since : goal.returns-then-blocks_of-eq0-clause-since
returns-then-blocks_of-eq0-clause-since g c = since_less c.args.vol (logs_at c.args.logs.now.items c.args.vol) c.args.core.now c.ready_group.new.core c.ready_group.ensures.narrow

pub returns-clause-since : goal.returns-clause-since
returns-clause-since g c = since_set c.args.vol c.args.logs.now.items c.begin_both.new.one c.args.core.now c.begin_both.new.core (index_low c.args.core.now c.args.logs.now.items c.args.alike.now false (g.S.Shelf.meaning c.args.shelf.now) c.args.vol c.requires.stands c.requires.there)
    (since_then c.args.vol c.begin_both.new.one c.begin_both.new.one c.args.core.now c.ready_group.new.core c.begin_both.new.core (λ log has. has) (since_less c.args.vol c.begin_both.new.one c.args.core.now c.ready_group.new.core c.ready_group.ensures.narrow) c.begin_both.ensures.since)

pub returns-in-Err-clause-unsure : goal.returns-in-Err-clause-unsure
returns-in-Err-clause-unsure g c = c.in-Err.ensures.marks

pub returns-in-Err-clause-misses : goal.returns-in-Err-clause-misses
returns-in-Err-clause-misses g c = misses_to c.ready_group.new.core.inner c.in-Err.error c.in-Err.ensures.misses

pub returns-then-not-ready-clause-unsure : goal.returns-then-not-ready-clause-unsure
returns-then-not-ready-clause-unsure g c = c.in-Ok.ensures.marks

pub returns-then-blocks_of-eq0-clause-unsure : goal.returns-then-blocks_of-eq0-clause-unsure
returns-then-blocks_of-eq0-clause-unsure g c = c.in-Ok.ensures.marks

pub returns-clause-unsure : goal.returns-clause-unsure
returns-clause-unsure g c = marks_then c.args.vol c.args.core.now.inner.unsure c.ready_group.new.core.inner.unsure c.begin_both.new.core.inner.unsure c.begin_both.result c.in-Ok.ensures.marks c.begin_both.ensures.unsure

pub returns-clause-misses : goal.returns-clause-misses
returns-clause-misses g c = c.begin_both.ensures.misses

pub returns-in-Err-clause-few : goal.returns-in-Err-clause-few
returns-in-Err-clause-few g c = tt

pub returns-in-Err-clause-trust : goal.returns-in-Err-clause-trust
returns-in-Err-clause-trust g c = tt

pub returns-in-Err-clause-agreed : goal.returns-in-Err-clause-agreed
returns-in-Err-clause-agreed g c = c.in-Err.ensures.agreed

pub returns-then-blocks_of-eq0-clause-trust : goal.returns-then-blocks_of-eq0-clause-trust
returns-then-blocks_of-eq0-clause-trust g c = c.in-Ok.ensures.trust

pub returns-then-blocks_of-eq0-clause-agreed : goal.returns-then-blocks_of-eq0-clause-agreed
returns-then-blocks_of-eq0-clause-agreed g c = tt

pub returns-then-blocks_of-eq0-clause-misses : goal.returns-then-blocks_of-eq0-clause-misses
returns-then-blocks_of-eq0-clause-misses g c = tt

pub returns-then-not-ready-clause-trust : goal.returns-then-not-ready-clause-trust
returns-then-not-ready-clause-trust g c = c.in-Ok.ensures.trust

pub returns-then-not-ready-clause-agreed : goal.returns-then-not-ready-clause-agreed
returns-then-not-ready-clause-agreed g c = tt

pub returns-then-not-ready-clause-misses : goal.returns-then-not-ready-clause-misses
returns-then-not-ready-clause-misses g c = tt
