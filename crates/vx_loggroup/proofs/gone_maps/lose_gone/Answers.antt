-- `lose_gone`: what `lose_attached` asks; its clauses.
use Rattle.std.proofs.Common.{◌∙◌, List, None, ap, false, refl, sym, arith}
use Rattle.vx_logs.specs.declared.logs.Logs.{Logs}
use Rattle.vx_group.proofs.FailingLemmas.{no_failing}
use Rattle.vx_group.proofs.FindingLemmas.{none_finds}
use Rattle.vx_group.proofs.TrustLemmas.{ok_from}
use Rattle.vx_group.specs.Holding.{wide}
use Rattle.vx_loggroup.specs.Attaching.{fmr_at}
use Rattle.vx_loggroup.proofs.GoingLemmas.{all_err, idle_logged, lost_stays, none_attaches, said_lost, said_there}
use Rattle.vx_loggroup.proofs.KeepingLemmas.{stays_none}
use Rattle.vx_group.proofs.SettleCalls.{same_told}
use Rattle.vx_loggroup.proofs.gone_maps.lose_gone.Goals as goal

pub lose_attached-requires-clause-stands : goal.lose_attached-requires-clause-stands
lose_attached-requires-clause-stands g c = c.requires.stands.group

pub lose_attached-requires-clause-is_on : goal.lose_attached-requires-clause-is_on
lose_attached-requires-clause-is_on g c = c.requires.on.is_on

pub lose_attached-requires-clause-more : goal.lose_attached-requires-clause-more
lose_attached-requires-clause-more g c = let lt = c.is_gone.ensures.more c.if-not-is_gone.false in omega (arith, lt)

pub returns-then-not-is_gone-clause-stands : goal.returns-then-not-is_gone-clause-stands
returns-then-not-is_gone-clause-stands g c = c.requires.stands

pub returns-then-not-is_gone-clause-attaches : goal.returns-then-not-is_gone-clause-attaches
returns-then-not-is_gone-clause-attaches g c = λ map. none_attaches c.args.vol c.args.plex map c.args.core.now (g.S.Shelf.meaning c.args.shelf.now)

pub returns-then-not-is_gone-clause-ends : goal.returns-then-not-is_gone-clause-ends
returns-then-not-is_gone-clause-ends g c = c.requires.on

pub returns-then-not-is_gone-clause-failing : goal.returns-then-not-is_gone-clause-failing
returns-then-not-is_gone-clause-failing g c = no_failing (g.S.Shelf.meaning c.args.shelf.now) (g.S.Shelf.meaning c.args.shelf.now) c.args.core.now.inner.config.disks c.args.core.now.inner.config.disks refl

pub returns-then-not-is_gone-clause-kept : goal.returns-then-not-is_gone-clause-kept
returns-then-not-is_gone-clause-kept g c =
    said_there c.args.core.now c.args.vol c.args.logs.now.items (λ lt told none. c.is_gone.ensures.there c.if-not-is_gone.true lt told (ap (λ (ls : List Logs). fmr_at ls c.args.vol) c.as_slice.ensures.value ∙ none))

pub returns-then-not-is_gone-clause-stays : goal.returns-then-not-is_gone-clause-stays
returns-then-not-is_gone-clause-stays g c = stays_none c.args.core.now.inner.config c.args.logs.now.items (g.S.Shelf.meaning c.args.shelf.now) (g.S.Shelf.meaning c.args.shelf.now)

pub returns-then-not-is_gone-clause-full : goal.returns-then-not-is_gone-clause-full
returns-then-not-is_gone-clause-full g c = λ full. refl

pub returns-then-not-is_gone-clause-finds : goal.returns-then-not-is_gone-clause-finds
returns-then-not-is_gone-clause-finds g c = none_finds (wide c.args.core.now) (g.S.Shelf.meaning c.args.shelf.now)

pub returns-then-not-is_gone-clause-free : goal.returns-then-not-is_gone-clause-free
returns-then-not-is_gone-clause-free g c = c.requires.alone

pub returns-clause-stands : goal.returns-clause-stands
returns-clause-stands g c =
    idle_logged c.args.core.now c.lose_attached.new.core c.args.logs.now.items c.args.alike.now false (g.S.Shelf.meaning c.args.shelf.now) (g.S.Shelf.meaning c.lose_attached.new.shelf) c.requires.stands c.lose_attached.ensures.stands (c.lose_attached.ensures.attaches None).shape (c.lose_attached.ensures.attaches None).goes c.lose_attached.ensures.idle

pub returns-clause-attaches : goal.returns-clause-attaches
returns-clause-attaches g c = c.lose_attached.ensures.attaches

pub returns-clause-ends : goal.returns-clause-ends
returns-clause-ends g c = c.lose_attached.ensures.ends

pub returns-clause-failing : goal.returns-clause-failing
returns-clause-failing g c = c.lose_attached.ensures.failing

pub returns-clause-gone : goal.returns-clause-gone
returns-clause-gone g c = all_err c.lose_attached.result (sym (ap (λ (ls : List Logs). fmr_at ls c.args.vol) c.as_slice.ensures.value) ∙ c.is_gone.ensures.gone c.if-not-is_gone.false)

pub returns-clause-kept : goal.returns-clause-kept
returns-clause-kept g c = ok_from c.lose_attached.result (said_lost c.lose_attached.new.core c.args.vol c.args.logs.now.items) c.lose_attached.ensures.lost

pub returns-clause-stays : goal.returns-clause-stays
returns-clause-stays g c =
    lost_stays c.args.core.now c.lose_attached.new.core c.args.vol c.args.logs.now.items (g.S.Shelf.meaning c.args.shelf.now) (g.S.Shelf.meaning c.lose_attached.new.shelf) (c.lose_attached.ensures.attaches None).shape c.lose_attached.ensures.failing c.lose_attached.ensures.logs
    (sym (ap (λ (ls : List Logs). fmr_at ls c.args.vol) c.as_slice.ensures.value) ∙ c.is_gone.ensures.gone c.if-not-is_gone.false)

pub returns-clause-full : goal.returns-clause-full
returns-clause-full g c = λ full. absurd (let lt = c.is_gone.ensures.more c.if-not-is_gone.false in omega (arith, lt, full))

pub returns-clause-finds : goal.returns-clause-finds
returns-clause-finds g c = c.lose_attached.ensures.finds

pub returns-clause-cause : goal.returns-clause-cause
returns-clause-cause g c = c.lose_attached.ensures.cause

pub returns-then-not-is_gone-clause-settles : goal.returns-then-not-is_gone-clause-settles
returns-then-not-is_gone-clause-settles g c = same_told (wide c.args.core.now) (g.S.Shelf.meaning c.args.shelf.now)

pub returns-clause-settles : goal.returns-clause-settles
returns-clause-settles g c = c.lose_attached.ensures.settles
