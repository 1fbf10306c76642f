-- `begin_drl`: where no log begins; what its call asks.
use Rattle.std.proofs.Common.{◌∙◌, sym, arith, refl}
use Rattle.vx_group.specs.Attaches.{region_count}
use Rattle.vx_group.specs.Holding.{wide}
use Rattle.vx_loggroup.proofs.FreshLemmas.{begins_none, first_none, none_of}
use Rattle.vx_loggroup.proofs.NewLemmas.{news_same}
use Rattle.vx_loggroup.proofs.SureLemmas.{since_same}
use Rattle.vx_loggroup.proofs.beginning.begin_drl.Goals as goal

pub returns-then-is_some-clause-begins : goal.returns-then-is_some-clause-begins
returns-then-is_some-clause-begins g c = begins_none c.args.vol c.args.core.now (g.S.Shelf.meaning c.args.shelf.now)

pub returns-then-is_some-clause-first : goal.returns-then-is_some-clause-first
returns-then-is_some-clause-first g c = first_none (region_count (wide c.args.core.now).config c.args.vol) c.args.one.now

pub returns-then-is_some-2-clause-begins : goal.returns-then-is_some-2-clause-begins
returns-then-is_some-2-clause-begins g c = begins_none c.args.vol c.args.core.now (g.S.Shelf.meaning c.args.shelf.now)

pub returns-then-is_some-2-clause-first : goal.returns-then-is_some-2-clause-first
returns-then-is_some-2-clause-first g c = first_none (region_count (wide c.args.core.now).config c.args.vol) c.args.one.now

pub returns-then-not-is_waiting-clause-begins : goal.returns-then-not-is_waiting-clause-begins
returns-then-not-is_waiting-clause-begins g c = begins_none c.args.vol c.args.core.now (g.S.Shelf.meaning c.args.shelf.now)

pub returns-then-not-is_waiting-clause-first : goal.returns-then-not-is_waiting-clause-first
returns-then-not-is_waiting-clause-first g c = first_none (region_count (wide c.args.core.now).config c.args.vol) c.args.one.now

pub begin_log-requires-clause-waits : goal.begin_log-requires-clause-waits
begin_log-requires-clause-waits g c = (none_of c.args.one.now.drl (sym c.is_some.ensures ∙ c.if-is_some.false), none_of c.args.one.now.fmr (sym c.is_some-2.ensures ∙ c.if-is_some-2.false))

pub returns-then-is_some-clause-news : goal.returns-then-is_some-clause-news
returns-then-is_some-clause-news g c = news_same c.args.core.now.inner.config c.args.vol c.args.one.now

pub returns-then-is_some-2-clause-news : goal.returns-then-is_some-2-clause-news
returns-then-is_some-2-clause-news g c = news_same c.args.core.now.inner.config c.args.vol c.args.one.now

pub returns-then-not-is_waiting-clause-news : goal.returns-then-not-is_waiting-clause-news
returns-then-not-is_waiting-clause-news g c = news_same c.args.core.now.inner.config c.args.vol c.args.one.now

pub returns-clause-news : goal.returns-clause-news
returns-clause-news g c = c.begin_log.ensures.news

pub returns-then-is_some-clause-since : goal.returns-then-is_some-clause-since
returns-then-is_some-clause-since g c = since_same c.args.vol c.args.one.now c.args.core.now

pub returns-then-is_some-2-clause-since : goal.returns-then-is_some-2-clause-since
returns-then-is_some-2-clause-since g c = since_same c.args.vol c.args.one.now c.args.core.now

pub returns-then-not-is_waiting-clause-since : goal.returns-then-not-is_waiting-clause-since
returns-then-not-is_waiting-clause-since g c = since_same c.args.vol c.args.one.now c.args.core.now

pub returns-clause-since : goal.returns-clause-since
returns-clause-since g c = c.begin_log.ensures.since

pub returns-clause-unsure : goal.returns-clause-unsure
returns-clause-unsure g c = c.begin_log.ensures.unsure

pub returns-clause-misses : goal.returns-clause-misses
returns-clause-misses g c = c.begin_log.ensures.misses

pub returns-then-is_some-clause-stands : goal.returns-then-is_some-clause-stands
returns-then-is_some-clause-stands g c = c.requires.stands

pub returns-then-is_some-clause-none : goal.returns-then-is_some-clause-none
returns-then-is_some-clause-none g c = c.requires.none

pub returns-then-is_some-clause-log : goal.returns-then-is_some-clause-log
returns-then-is_some-clause-log g c = c.requires.log

pub returns-then-is_some-clause-maps : goal.returns-then-is_some-clause-maps
returns-then-is_some-clause-maps g c = c.requires.maps

pub returns-then-is_some-clause-alike : goal.returns-then-is_some-clause-alike
returns-then-is_some-clause-alike g c = c.requires.alike

pub returns-then-is_some-clause-cause : goal.returns-then-is_some-clause-cause
returns-then-is_some-clause-cause g c = record { before = c.requires.up; after = c.requires.up }

pub returns-then-is_some-clause-few : goal.returns-then-is_some-clause-few
returns-then-is_some-clause-few g c = omega arith

pub returns-then-is_some-clause-trust : goal.returns-then-is_some-clause-trust
returns-then-is_some-clause-trust g c = λ is. is

pub returns-then-is_some-clause-agreed : goal.returns-then-is_some-clause-agreed
returns-then-is_some-clause-agreed g c = tt

pub returns-then-is_some-clause-unsure : goal.returns-then-is_some-clause-unsure
returns-then-is_some-clause-unsure g c = refl

pub returns-then-is_some-clause-misses : goal.returns-then-is_some-clause-misses
returns-then-is_some-clause-misses g c = tt

pub returns-then-is_some-2-clause-stands : goal.returns-then-is_some-2-clause-stands
returns-then-is_some-2-clause-stands g c = c.requires.stands

pub returns-then-is_some-2-clause-none : goal.returns-then-is_some-2-clause-none
returns-then-is_some-2-clause-none g c = c.requires.none

pub returns-then-is_some-2-clause-log : goal.returns-then-is_some-2-clause-log
returns-then-is_some-2-clause-log g c = c.requires.log

pub returns-then-is_some-2-clause-maps : goal.returns-then-is_some-2-clause-maps
returns-then-is_some-2-clause-maps g c = c.requires.maps

pub returns-then-is_some-2-clause-alike : goal.returns-then-is_some-2-clause-alike
returns-then-is_some-2-clause-alike g c = c.requires.alike

pub returns-then-is_some-2-clause-cause : goal.returns-then-is_some-2-clause-cause
returns-then-is_some-2-clause-cause g c = record { before = c.requires.up; after = c.requires.up }

pub returns-then-is_some-2-clause-few : goal.returns-then-is_some-2-clause-few
returns-then-is_some-2-clause-few g c = omega arith

pub returns-then-is_some-2-clause-trust : goal.returns-then-is_some-2-clause-trust
returns-then-is_some-2-clause-trust g c = λ is. is

pub returns-then-is_some-2-clause-agreed : goal.returns-then-is_some-2-clause-agreed
returns-then-is_some-2-clause-agreed g c = tt

pub returns-then-is_some-2-clause-unsure : goal.returns-then-is_some-2-clause-unsure
returns-then-is_some-2-clause-unsure g c = refl

pub returns-then-is_some-2-clause-misses : goal.returns-then-is_some-2-clause-misses
returns-then-is_some-2-clause-misses g c = tt

pub returns-then-not-is_waiting-clause-stands : goal.returns-then-not-is_waiting-clause-stands
returns-then-not-is_waiting-clause-stands g c = c.requires.stands

pub returns-then-not-is_waiting-clause-none : goal.returns-then-not-is_waiting-clause-none
returns-then-not-is_waiting-clause-none g c = c.requires.none

pub returns-then-not-is_waiting-clause-log : goal.returns-then-not-is_waiting-clause-log
returns-then-not-is_waiting-clause-log g c = c.requires.log

pub returns-then-not-is_waiting-clause-maps : goal.returns-then-not-is_waiting-clause-maps
returns-then-not-is_waiting-clause-maps g c = c.requires.maps

pub returns-then-not-is_waiting-clause-alike : goal.returns-then-not-is_waiting-clause-alike
returns-then-not-is_waiting-clause-alike g c = c.requires.alike

pub returns-then-not-is_waiting-clause-cause : goal.returns-then-not-is_waiting-clause-cause
returns-then-not-is_waiting-clause-cause g c = record { before = c.requires.up; after = c.requires.up }

pub returns-then-not-is_waiting-clause-few : goal.returns-then-not-is_waiting-clause-few
returns-then-not-is_waiting-clause-few g c = omega arith

pub returns-then-not-is_waiting-clause-trust : goal.returns-then-not-is_waiting-clause-trust
returns-then-not-is_waiting-clause-trust g c = λ is. is

pub returns-then-not-is_waiting-clause-agreed : goal.returns-then-not-is_waiting-clause-agreed
returns-then-not-is_waiting-clause-agreed g c = tt

pub returns-then-not-is_waiting-clause-unsure : goal.returns-then-not-is_waiting-clause-unsure
returns-then-not-is_waiting-clause-unsure g c = refl

pub returns-then-not-is_waiting-clause-misses : goal.returns-then-not-is_waiting-clause-misses
returns-then-not-is_waiting-clause-misses g c = tt

pub returns-clause-stands : goal.returns-clause-stands
returns-clause-stands g c = c.begin_log.ensures.stands

pub returns-clause-none : goal.returns-clause-none
returns-clause-none g c = c.begin_log.ensures.none

pub returns-clause-begins : goal.returns-clause-begins
returns-clause-begins g c = c.begin_log.ensures.begins

pub returns-clause-first : goal.returns-clause-first
returns-clause-first g c = c.begin_log.ensures.first

pub returns-clause-log : goal.returns-clause-log
returns-clause-log g c = c.begin_log.ensures.log

pub returns-clause-maps : goal.returns-clause-maps
returns-clause-maps g c = c.begin_log.ensures.maps

pub returns-clause-few : goal.returns-clause-few
returns-clause-few g c = c.begin_log.ensures.few

pub returns-clause-trust : goal.returns-clause-trust
returns-clause-trust g c = c.begin_log.ensures.trust

pub returns-clause-agreed : goal.returns-clause-agreed
returns-clause-agreed g c = c.begin_log.ensures.agreed

pub returns-clause-cause : goal.returns-clause-cause
returns-clause-cause g c = c.begin_log.ensures.cause

pub returns-clause-alike : goal.returns-clause-alike
returns-clause-alike g c = c.begin_log.ensures.alike
