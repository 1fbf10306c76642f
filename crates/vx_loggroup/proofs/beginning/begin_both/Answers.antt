-- `begin_both`: its clauses; what the second call asks.
use Rattle.std.proofs.Common.{ap, arith}
use Rattle.vx_disk.proofs.Causing.{Cause_both}
use Rattle.vx_group.specs.Attaches.{region_count}
use Rattle.vx_group.specs.Holding.{wide}
use Rattle.vx_group.specs.Stands.{inner_meaning}
use Rattle.vx_group.proofs.TrustLemmas.{err_from, ok_from}
use Rattle.vx_model.specs.Sizes.{regions_of}
use Rattle.vx_loggroup.proofs.BegunLemmas.{blocks_later}
use Rattle.vx_loggroup.proofs.FreshLemmas.{begins_then, first_then}
use Rattle.vx_loggroup.proofs.NewLemmas.{news_start}
use Rattle.vx_loggroup.proofs.OpenLemmas.{alike_reads}
use Rattle.vx_loggroup.proofs.KeepingCalls.{first_has}
use Rattle.vx_loggroup.proofs.SureLemmas.{since_then}
use Rattle.vx_group.proofs.UnsureLemmas.{marks_then}
use Rattle.vx_loggroup.proofs.beginning.begin_both.Goals as goal

pub begin_fmr-requires-clause-up : goal.begin_fmr-requires-clause-up
begin_fmr-requires-clause-up g c = c.in-Ok.ensures.cause.after

pub begin_fmr-requires-clause-there : goal.begin_fmr-requires-clause-there
begin_fmr-requires-clause-there g c = let same = c.begin_drl.ensures.begins.goes.units in let there = c.requires.there in omega (arith, same, there)

pub begin_fmr-requires-clause-some : goal.begin_fmr-requires-clause-some
begin_fmr-requires-clause-some g c = blocks_later c.args.core.now c.begin_drl.new.core c.args.vol (g.S.Shelf.meaning c.args.shelf.now) (g.S.Shelf.meaning c.begin_drl.new.shelf) c.requires.none c.begin_drl.ensures.none c.begin_drl.ensures.begins.goes c.requires.some

pub begin_fmr-requires-clause-one : goal.begin_fmr-requires-clause-one
begin_fmr-requires-clause-one g c = alike_reads (wide c.begin_drl.new.core).config c.args.vol (g.S.Shelf.meaning c.begin_drl.new.shelf) (g.met.S.Shelf.lawful c.begin_drl.new.shelf) c.begin_drl.ensures.alike

pub returns-clause-begins : goal.returns-clause-begins
returns-clause-begins g c = begins_then c.args.vol c.args.core.now c.begin_drl.new.core c.begin_fmr.new.core (g.S.Shelf.meaning c.args.shelf.now) (g.S.Shelf.meaning c.begin_drl.new.shelf) (g.S.Shelf.meaning c.begin_fmr.new.shelf) c.begin_drl.ensures.begins c.begin_fmr.ensures.begins

pub returns-clause-first : goal.returns-clause-first
returns-clause-first g c = first_then (region_count (wide c.args.core.now).config c.args.vol) (region_count (wide c.begin_drl.new.core).config c.args.vol) c.args.one.now c.begin_drl.new.one c.begin_fmr.new.one (ap regions_of (c.begin_drl.ensures.begins.goes.size c.args.vol)) c.begin_drl.ensures.first c.begin_fmr.ensures.first

pub returns-clause-few : goal.returns-clause-few
returns-clause-few g c = ok_from c.begin_fmr.result (λ few. let one = c.in-Ok.ensures.few in let two = few in omega (arith, one, two)) c.begin_fmr.ensures.few

pub returns-clause-trust : goal.returns-clause-trust
returns-clause-trust g c = ok_from c.begin_fmr.result (λ keeps is. keeps (c.in-Ok.ensures.trust is)) c.begin_fmr.ensures.trust

pub returns-clause-agreed : goal.returns-clause-agreed
returns-clause-agreed g c = err_from c.begin_fmr.result (λ keeps is. keeps (c.in-Ok.ensures.trust is)) c.begin_fmr.ensures.agreed

pub returns-clause-cause : goal.returns-clause-cause
returns-clause-cause g c = Cause_both (inner_meaning (wide c.args.core.now) (g.S.Shelf.meaning c.args.shelf.now)) (inner_meaning (wide c.begin_drl.new.core) (g.S.Shelf.meaning c.begin_drl.new.shelf)) (inner_meaning (wide c.begin_fmr.new.core) (g.S.Shelf.meaning c.begin_fmr.new.shelf)) c.args.vol c.begin_fmr.result c.in-Ok.ensures.cause c.begin_drl.ensures.begins.goes.faults c.begin_drl.ensures.begins.goes.disk_faults c.begin_fmr.ensures.cause

pub returns-in-Err-clause-news : goal.returns-in-Err-clause-news
returns-in-Err-clause-news g c = c.begin_drl.ensures.news

pub returns-clause-news : goal.returns-clause-news
returns-clause-news g c = news_start c.args.vol c.args.core.now c.begin_drl.new.core (g.S.Shelf.meaning c.args.shelf.now) (g.S.Shelf.meaning c.begin_drl.new.shelf) c.begin_drl.ensures.begins c.args.one.now c.begin_drl.new.one c.begin_fmr.new.one c.begin_fmr.ensures.first.fmr c.begin_drl.ensures.news c.begin_fmr.ensures.news

pub returns-in-Err-clause-since : goal.returns-in-Err-clause-since
returns-in-Err-clause-since g c = c.begin_drl.ensures.since

pub returns-clause-since : goal.returns-clause-since
returns-clause-since g c = since_then c.args.vol c.begin_drl.new.one c.begin_fmr.new.one c.args.core.now c.begin_drl.new.core c.begin_fmr.new.core (λ log has. first_has (region_count (wide c.begin_drl.new.core).config c.args.vol) log c.begin_drl.new.one c.begin_fmr.new.one c.begin_fmr.ensures.first has) c.begin_drl.ensures.since c.begin_fmr.ensures.since

pub returns-in-Err-clause-unsure : goal.returns-in-Err-clause-unsure
returns-in-Err-clause-unsure g c = c.in-Err.ensures.unsure

pub returns-in-Err-clause-misses : goal.returns-in-Err-clause-misses
returns-in-Err-clause-misses g c = c.in-Err.ensures.misses

pub returns-clause-unsure : goal.returns-clause-unsure
returns-clause-unsure g c = marks_then c.args.vol c.args.core.now.inner.unsure c.begin_drl.new.core.inner.unsure c.begin_fmr.new.core.inner.unsure c.begin_fmr.result c.in-Ok.ensures.unsure c.begin_fmr.ensures.unsure

pub returns-clause-misses : goal.returns-clause-misses
returns-clause-misses g c = c.begin_fmr.ensures.misses

pub returns-in-Err-clause-stands : goal.returns-in-Err-clause-stands
returns-in-Err-clause-stands g c = c.begin_drl.ensures.stands

pub returns-in-Err-clause-none : goal.returns-in-Err-clause-none
returns-in-Err-clause-none g c = c.begin_drl.ensures.none

pub returns-in-Err-clause-begins : goal.returns-in-Err-clause-begins
returns-in-Err-clause-begins g c = c.begin_drl.ensures.begins

pub returns-in-Err-clause-first : goal.returns-in-Err-clause-first
returns-in-Err-clause-first g c = c.begin_drl.ensures.first

pub returns-in-Err-clause-log : goal.returns-in-Err-clause-log
returns-in-Err-clause-log g c = c.begin_drl.ensures.log

pub returns-in-Err-clause-maps : goal.returns-in-Err-clause-maps
returns-in-Err-clause-maps g c = c.begin_drl.ensures.maps

pub returns-in-Err-clause-few : goal.returns-in-Err-clause-few
returns-in-Err-clause-few g c = tt

pub returns-in-Err-clause-trust : goal.returns-in-Err-clause-trust
returns-in-Err-clause-trust g c = tt

pub returns-in-Err-clause-agreed : goal.returns-in-Err-clause-agreed
returns-in-Err-clause-agreed g c = c.in-Err.ensures.agreed

pub returns-in-Err-clause-cause : goal.returns-in-Err-clause-cause
returns-in-Err-clause-cause g c = c.in-Err.ensures.cause

pub returns-clause-stands : goal.returns-clause-stands
returns-clause-stands g c = c.begin_fmr.ensures.stands

pub returns-clause-none : goal.returns-clause-none
returns-clause-none g c = c.begin_fmr.ensures.none

pub returns-clause-log : goal.returns-clause-log
returns-clause-log g c = c.begin_fmr.ensures.log

pub returns-clause-maps : goal.returns-clause-maps
returns-clause-maps g c = c.begin_fmr.ensures.maps
