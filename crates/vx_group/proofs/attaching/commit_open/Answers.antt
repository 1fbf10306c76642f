-- `commit_open`: clauses attaches, failing and cause; what `detach` asks.
use Rattle.std.proofs.Common.{ℕ, None, refl, ◌∙◌, sym}
use Rattle.vx_group.proofs.AttachLemmas.{narrows_attaches, no_bit, then_attaches}
use Rattle.vx_group.proofs.DetachLemmas.{zero_bit}
use Rattle.vx_group.proofs.CallLemmas.{not_down}
use Rattle.vx_group.proofs.MissLemmas.{blames_then}
use Rattle.vx_group.proofs.FailingLemmas.{then_failing}
use Rattle.vx_group.proofs.Standing.{some_active}
use Rattle.vx_group.proofs.FindingLemmas.{ends_then}
use Rattle.vx_group.proofs.TrustStillLemmas.{then_logs}
use Rattle.vx_group.proofs.SettleMore.{ends_kept}
use Rattle.vx_group.proofs.attaching.commit_open.Goals as goal

pub detach-requires-clause-left : goal.detach-requires-clause-left
detach-requires-clause-left g c = λ lt.
    let some = some_active c.args.core.now (g.S.Shelf.meaning c.args.shelf.now) c.requires.stands 0 lt in
    record { plex = some.plex; is_on = some.is_on; out = zero_bit 0 some.plex refl }

pub returns-in-Ok-clause-attaches : goal.returns-in-Ok-clause-attaches
returns-in-Ok-clause-attaches g c = λ map.
    narrows_attaches c.args.vol c.args.plex map c.args.core.now c.detach.new.core (g.S.Shelf.meaning c.args.shelf.now) (g.S.Shelf.meaning c.detach.new.shelf) (g.met.S.Shelf.lawful c.detach.new.shelf) c.requires.stands c.detach.ensures.narrows c.detach.ensures.parts
    (λ w q apart. c.detach.ensures.others w q (λ same bit. no_bit q bit))

pub returns-then-is_down-clause-attaches : goal.returns-then-is_down-clause-attaches
returns-then-is_down-clause-attaches g c = λ map.
    then_attaches c.args.vol c.args.plex map c.args.core.now c.detach.new.core c.take_back.new.core (g.S.Shelf.meaning c.args.shelf.now) (g.S.Shelf.meaning c.detach.new.shelf) (g.S.Shelf.meaning c.take_back.new.shelf)
    (narrows_attaches c.args.vol c.args.plex map c.args.core.now c.detach.new.core (g.S.Shelf.meaning c.args.shelf.now) (g.S.Shelf.meaning c.detach.new.shelf) (g.met.S.Shelf.lawful c.detach.new.shelf) c.requires.stands c.detach.ensures.narrows c.detach.ensures.parts
    (λ w q apart. c.detach.ensures.others w q (λ same bit. no_bit q bit)))
    (c.take_back.ensures.attaches map)

pub returns-else-is_down-clause-attaches : goal.returns-else-is_down-clause-attaches
returns-else-is_down-clause-attaches g c = λ map.
    then_attaches c.args.vol c.args.plex map c.args.core.now c.detach.new.core c.take_back.new.core (g.S.Shelf.meaning c.args.shelf.now) (g.S.Shelf.meaning c.detach.new.shelf) (g.S.Shelf.meaning c.take_back.new.shelf)
    (narrows_attaches c.args.vol c.args.plex map c.args.core.now c.detach.new.core (g.S.Shelf.meaning c.args.shelf.now) (g.S.Shelf.meaning c.detach.new.shelf) (g.met.S.Shelf.lawful c.detach.new.shelf) c.requires.stands c.detach.ensures.narrows c.detach.ensures.parts
    (λ w q apart. c.detach.ensures.others w q (λ same bit. no_bit q bit)))
    (c.take_back.ensures.attaches map)

pub returns-then-is_down-clause-failing : goal.returns-then-is_down-clause-failing
returns-then-is_down-clause-failing g c =
    then_failing (g.S.Shelf.meaning c.args.shelf.now) (g.S.Shelf.meaning c.detach.new.shelf) (g.S.Shelf.meaning c.take_back.new.shelf) c.detach.ensures.narrows.acts.faults (c.take_back.ensures.attaches None).acts.faults
    c.args.core.now.config.disks c.detach.new.core.config.disks c.take_back.new.core.config.disks c.detach.ensures.failing c.take_back.ensures.failing

pub returns-else-is_down-clause-failing : goal.returns-else-is_down-clause-failing
returns-else-is_down-clause-failing g c =
    then_failing (g.S.Shelf.meaning c.args.shelf.now) (g.S.Shelf.meaning c.detach.new.shelf) (g.S.Shelf.meaning c.take_back.new.shelf) c.detach.ensures.narrows.acts.faults (c.take_back.ensures.attaches None).acts.faults
    c.args.core.now.config.disks c.detach.new.core.config.disks c.take_back.new.core.config.disks c.detach.ensures.failing c.take_back.ensures.failing

pub returns-else-is_down-clause-cause : goal.returns-else-is_down-clause-cause
returns-else-is_down-clause-cause g c =
    blames_then (Unit {0}) ℕ (g.S.Shelf.meaning c.args.shelf.now) (g.S.Shelf.meaning c.detach.new.shelf) (g.S.Shelf.meaning c.take_back.new.shelf) c.in-Err.error (c.in-Err.ensures.sure c.requires.more) (c.take_back.ensures.attaches None).acts.disk_faults (c.take_back.ensures.attaches None).acts.falls
    (not_down c.is_down.result (g.S.Shelf.meaning c.take_back.new.shelf).down c.is_down.ensures c.if-is_down.false)

pub returns-in-Ok-clause-finds : goal.returns-in-Ok-clause-finds
returns-in-Ok-clause-finds g c =
    c.detach.ensures.finds

pub returns-then-is_down-clause-finds : goal.returns-then-is_down-clause-finds
returns-then-is_down-clause-finds g c =
    ends_then c.detach.new.core c.take_back.new.core (g.S.Shelf.meaning c.args.shelf.now) (g.S.Shelf.meaning c.detach.new.shelf) (g.S.Shelf.meaning c.take_back.new.shelf) c.detach.ensures.finds c.take_back.ensures.finds

pub returns-else-is_down-clause-finds : goal.returns-else-is_down-clause-finds
returns-else-is_down-clause-finds g c =
    ends_then c.detach.new.core c.take_back.new.core (g.S.Shelf.meaning c.args.shelf.now) (g.S.Shelf.meaning c.detach.new.shelf) (g.S.Shelf.meaning c.take_back.new.shelf) c.detach.ensures.finds c.take_back.ensures.finds

pub returns-in-Ok-clause-logs : goal.returns-in-Ok-clause-logs
returns-in-Ok-clause-logs g c = c.detach.ensures.logs

pub returns-then-is_down-clause-logs : goal.returns-then-is_down-clause-logs
returns-then-is_down-clause-logs g c = then_logs c.args.core.now.config c.detach.new.core.config c.take_back.new.core.config c.detach.ensures.logs c.take_back.ensures.logs

pub returns-else-is_down-clause-logs : goal.returns-else-is_down-clause-logs
returns-else-is_down-clause-logs g c = then_logs c.args.core.now.config c.detach.new.core.config c.take_back.new.core.config c.detach.ensures.logs c.take_back.ensures.logs

pub returns-in-Ok-clause-missed : goal.returns-in-Ok-clause-missed
returns-in-Ok-clause-missed g c = tt

pub returns-then-is_down-clause-missed : goal.returns-then-is_down-clause-missed
returns-then-is_down-clause-missed g c = c.take_back.ensures.missed c.in-Err.ensures.missed

pub returns-else-is_down-clause-missed : goal.returns-else-is_down-clause-missed
returns-else-is_down-clause-missed g c = c.take_back.ensures.missed c.in-Err.ensures.missed

pub returns-in-Ok-clause-settles : goal.returns-in-Ok-clause-settles
returns-in-Ok-clause-settles g c = c.detach.ensures.settles

pub returns-then-is_down-clause-settles : goal.returns-then-is_down-clause-settles
returns-then-is_down-clause-settles g c = ends_kept c.detach.new.core c.take_back.new.core (g.S.Shelf.meaning c.args.shelf.now) (g.S.Shelf.meaning c.detach.new.shelf) (g.S.Shelf.meaning c.take_back.new.shelf) c.detach.ensures.settles c.take_back.ensures.settles

pub returns-else-is_down-clause-settles : goal.returns-else-is_down-clause-settles
returns-else-is_down-clause-settles g c = ends_kept c.detach.new.core c.take_back.new.core (g.S.Shelf.meaning c.args.shelf.now) (g.S.Shelf.meaning c.detach.new.shelf) (g.S.Shelf.meaning c.take_back.new.shelf) c.detach.ensures.settles c.take_back.ensures.settles

pub detach-requires-clause-stands : goal.detach-requires-clause-stands
detach-requires-clause-stands g c = c.requires.stands

pub detach-requires-clause-settled : goal.detach-requires-clause-settled
detach-requires-clause-settled g c = c.requires.settled

pub detach-requires-clause-those : goal.detach-requires-clause-those
detach-requires-clause-those g c = record { each = λ p bit. absurd (no_bit p bit) }

pub take_back-requires-clause-stands : goal.take_back-requires-clause-stands
take_back-requires-clause-stands g c = c.detach.ensures.stands

pub take_back-requires-clause-is_on : goal.take_back-requires-clause-is_on
take_back-requires-clause-is_on g c = c.detach.ensures.others c.args.vol c.args.plex (λ same bit. no_bit c.args.plex bit) ∙ c.requires.is_on

pub take_back-requires-clause-other : goal.take_back-requires-clause-other
take_back-requires-clause-other g c = let other = c.requires.other in record { plex = other.plex; is_on = c.detach.ensures.others c.args.vol other.plex (λ same bit. no_bit other.plex bit) ∙ other.is_on; apart = other.apart }

pub returns-in-Ok-clause-stands : goal.returns-in-Ok-clause-stands
returns-in-Ok-clause-stands g c = c.detach.ensures.stands

pub returns-in-Ok-clause-ends : goal.returns-in-Ok-clause-ends
returns-in-Ok-clause-ends g c = record { is_on = c.detach.ensures.others c.args.vol c.args.plex (λ same bit. no_bit c.args.plex bit) ∙ c.requires.is_on; committed = c.in-Ok.ensures.committed }

pub returns-in-Ok-clause-count : goal.returns-in-Ok-clause-count
returns-in-Ok-clause-count g c = refl

pub returns-in-Ok-clause-failing : goal.returns-in-Ok-clause-failing
returns-in-Ok-clause-failing g c = c.detach.ensures.failing

pub returns-in-Ok-clause-trust : goal.returns-in-Ok-clause-trust
returns-in-Ok-clause-trust g c = c.in-Ok.ensures.trust

pub returns-in-Ok-clause-cause : goal.returns-in-Ok-clause-cause
returns-in-Ok-clause-cause g c = c.in-Ok.ensures.cause

pub returns-then-is_down-clause-stands : goal.returns-then-is_down-clause-stands
returns-then-is_down-clause-stands g c = c.take_back.ensures.stands

pub returns-then-is_down-clause-ends : goal.returns-then-is_down-clause-ends
returns-then-is_down-clause-ends g c = c.take_back.ensures.off

pub returns-then-is_down-clause-cause : goal.returns-then-is_down-clause-cause
returns-then-is_down-clause-cause g c = sym c.is_down.ensures ∙ c.if-is_down.true

pub returns-else-is_down-clause-stands : goal.returns-else-is_down-clause-stands
returns-else-is_down-clause-stands g c = c.take_back.ensures.stands

pub returns-else-is_down-clause-ends : goal.returns-else-is_down-clause-ends
returns-else-is_down-clause-ends g c = c.take_back.ensures.off
