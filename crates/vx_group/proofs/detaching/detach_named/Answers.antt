-- `detach_named`: clauses stands, narrows, off, cause, sure, others, parts and 10 more; what `commit_stale` asks.
use Rattle.std.proofs.Common.{inl, inr, false, true, length, ap, ◌∙◌, refl, sym, subst, Err, arith, ◌≡◌}
use Rattle.vx_disk.specs.declared.shelf.ShelfError.{ShelfError}
use Rattle.vx_kept.specs.Commits.{Member}
use Rattle.vx_kept.specs.States.{staled}
use Rattle.vx_kept.proofs.Narrower.{staled_on}
use Rattle.vx_kept.proofs.StateLemmas.{is_staled}
use Rattle.vx_group.specs.Blames.{Blames, BlamesOr}
use Rattle.vx_group.proofs.LoseLemmas.{staled_lies}
use Rattle.vx_group.proofs.UsesLemmas.{uses_volumes}
use Rattle.vx_group.proofs.CallLemmas.{not_down}
use Rattle.vx_group.proofs.DetachLemmas.{left_Narrows, left_Stands, left_others, staled_less, staled_some, stop_blames, stop_sure, taken_Narrows, taken_Stands, taken_off, taken_others}
use Rattle.vx_group.proofs.FailingLemmas.{failing_from, few_serial, no_failing}
use Rattle.vx_group.proofs.GiveLemmas.{keeps_volumes, none_changed}
use Rattle.vx_group.proofs.SettleCalls.{done_settled, left_settled, less_acts}
use Rattle.vx_group.proofs.Standing.{apart_of_core, kept_of, sound_of, tidy_of}
use Rattle.vx_group.proofs.TrustLemmas.{committed_or, stays_committed}
use Rattle.vx_group.proofs.FindingLemmas.{done_ends, left_ends}
use Rattle.vx_group.proofs.TrustStillLemmas.{kept_logs, volumes_logs}
use Rattle.vx_group.proofs.detaching.detach_named.Goals as goal

pub commit_stale-requires-clause-kept : goal.commit_stale-requires-clause-kept
commit_stale-requires-clause-kept g c = kept_of c.args.core.now (g.S.Shelf.meaning c.args.shelf.now) c.requires.stands

pub commit_stale-requires-clause-tidy : goal.commit_stale-requires-clause-tidy
commit_stale-requires-clause-tidy g c = tidy_of c.args.core.now (g.S.Shelf.meaning c.args.shelf.now) c.requires.stands c.requires.settled

pub returns-then-is_down-clause-stands : goal.returns-then-is_down-clause-stands
returns-then-is_down-clause-stands g c = taken_Stands c.args.core.now _ c.args.vol c.args.failed.set (g.S.Shelf.meaning c.args.shelf.now) (g.S.Shelf.meaning c.commit_stale.new.shelf) c.requires.stands c.commit_stale.ensures.acts c.commit_stale.ensures.wanted c.commit_stale.ensures.can c.commit_stale.ensures.on refl refl c.in-Ok.ensures.ends c.good_of-core.ensures (c.in-Ok.ensures.trusts c.args.core.now.committed c.args.core.now.agreed c.requires.stands.trusts c.is_committed-core.result c.is_committed-core.ensures.some)

pub returns-then-is_down-clause-narrows : goal.returns-then-is_down-clause-narrows
returns-then-is_down-clause-narrows g c = taken_Narrows c.args.core.now _ c.args.vol c.args.failed.set (g.S.Shelf.meaning c.args.shelf.now) (g.S.Shelf.meaning c.commit_stale.new.shelf) c.requires.stands c.commit_stale.ensures.acts c.commit_stale.ensures.wanted c.commit_stale.ensures.can c.commit_stale.ensures.on refl refl c.in-Ok.ensures.ends c.good_of-core.ensures

pub returns-then-is_down-2-clause-stands : goal.returns-then-is_down-2-clause-stands
returns-then-is_down-2-clause-stands g c = left_Stands c.args.core.now _ c.args.vol c.args.failed.set (g.S.Shelf.meaning c.args.shelf.now) (g.S.Shelf.meaning c.commit_stale.new.shelf) c.requires.stands c.commit_stale.ensures.acts c.commit_stale.ensures.wanted c.commit_stale.ensures.can c.commit_stale.ensures.on refl refl (staled c.args.vol c.args.failed.set c.args.core.now.config 8) c.in-Err.no c.in-Err.ensures.ends refl refl (c.in-Err.ensures.trusts c.args.core.now.committed c.args.core.now.agreed c.requires.stands.trusts)

pub returns-then-is_down-2-clause-narrows : goal.returns-then-is_down-2-clause-narrows
returns-then-is_down-2-clause-narrows g c = left_Narrows c.args.core.now _ c.args.vol c.args.failed.set (g.S.Shelf.meaning c.args.shelf.now) (g.S.Shelf.meaning c.commit_stale.new.shelf) c.requires.stands c.commit_stale.ensures.acts c.commit_stale.ensures.wanted c.commit_stale.ensures.can c.commit_stale.ensures.on refl refl (staled c.args.vol c.args.failed.set c.args.core.now.config 8) c.in-Err.no c.in-Err.ensures.ends refl refl

pub returns-else-is_down-clause-stands : goal.returns-else-is_down-clause-stands
returns-else-is_down-clause-stands g c = taken_Stands c.args.core.now _ c.args.vol c.args.failed.set (g.S.Shelf.meaning c.args.shelf.now) (g.S.Shelf.meaning c.commit_stale.new.shelf) c.requires.stands c.commit_stale.ensures.acts c.commit_stale.ensures.wanted c.commit_stale.ensures.can c.commit_stale.ensures.on refl refl c.in-Ok.ensures.ends c.good_of-core.ensures (c.in-Ok.ensures.trusts c.args.core.now.committed c.args.core.now.agreed c.requires.stands.trusts c.is_committed-core.result c.is_committed-core.ensures.some)

pub returns-else-is_down-clause-narrows : goal.returns-else-is_down-clause-narrows
returns-else-is_down-clause-narrows g c = taken_Narrows c.args.core.now _ c.args.vol c.args.failed.set (g.S.Shelf.meaning c.args.shelf.now) (g.S.Shelf.meaning c.commit_stale.new.shelf) c.requires.stands c.commit_stale.ensures.acts c.commit_stale.ensures.wanted c.commit_stale.ensures.can c.commit_stale.ensures.on refl refl c.in-Ok.ensures.ends c.good_of-core.ensures

pub returns-else-is_down-clause-off : goal.returns-else-is_down-clause-off
returns-else-is_down-clause-off g c = taken_off c.args.core.now (record { config = c.commit_stale.new.config; good = c.good_of-core.result; room = c.commit_stale.new.room; unsettled = c.args.core.now.unsettled; committed = c.is_committed-core.result; agreed = c.is_committed-core.result; next = c.args.core.now.next; faults = c.args.core.now.faults; unsure = c.args.core.now.unsure }) c.args.vol c.args.failed.set (g.S.Shelf.meaning c.args.shelf.now) (g.S.Shelf.meaning c.commit_stale.new.shelf) c.requires.stands c.commit_stale.ensures.acts c.commit_stale.ensures.wanted c.commit_stale.ensures.can c.commit_stale.ensures.on refl refl c.in-Ok.ensures.ends c.good_of-core.ensures c.requires.those

pub returns-else-is_down-2-clause-stands : goal.returns-else-is_down-2-clause-stands
returns-else-is_down-2-clause-stands g c = left_Stands c.args.core.now _ c.args.vol c.args.failed.set (g.S.Shelf.meaning c.args.shelf.now) (g.S.Shelf.meaning c.commit_stale.new.shelf) c.requires.stands c.commit_stale.ensures.acts c.commit_stale.ensures.wanted c.commit_stale.ensures.can c.commit_stale.ensures.on refl refl (staled c.args.vol c.args.failed.set c.args.core.now.config 8) c.in-Err.no c.in-Err.ensures.ends refl refl (c.in-Err.ensures.trusts c.args.core.now.committed c.args.core.now.agreed c.requires.stands.trusts)

pub returns-else-is_down-2-clause-narrows : goal.returns-else-is_down-2-clause-narrows
returns-else-is_down-2-clause-narrows g c = left_Narrows c.args.core.now _ c.args.vol c.args.failed.set (g.S.Shelf.meaning c.args.shelf.now) (g.S.Shelf.meaning c.commit_stale.new.shelf) c.requires.stands c.commit_stale.ensures.acts c.commit_stale.ensures.wanted c.commit_stale.ensures.can c.commit_stale.ensures.on refl refl (staled c.args.vol c.args.failed.set c.args.core.now.config 8) c.in-Err.no c.in-Err.ensures.ends refl refl

pub returns-else-is_down-2-clause-cause : goal.returns-else-is_down-2-clause-cause
returns-else-is_down-2-clause-cause g c = subst (λ (e : ShelfError). BlamesOr {T = Unit {0}} c.args.failed.disk (g.S.Shelf.meaning c.args.shelf.now) (g.S.Shelf.meaning c.commit_stale.new.shelf) (Err e)) (sym c.fault_of.ensures) (stop_blames c.args.core.now.good (staled c.args.vol c.args.failed.set c.args.core.now.config 8) _ (g.S.Shelf.meaning c.args.shelf.now) (g.S.Shelf.meaning c.commit_stale.new.shelf) (staled_some c.args.core.now.config c.args.vol c.args.failed.set c.args.core.now.good c.requires.stands.some) (not_down c.is_down-in-Err.result (g.S.Shelf.meaning c.commit_stale.new.shelf).down c.is_down-in-Err.ensures c.if-is_down-2.false) c.in-Err.no c.args.failed.disk c.in-Err.ensures.ends.cause)

pub returns-else-is_down-2-clause-sure : goal.returns-else-is_down-2-clause-sure
returns-else-is_down-2-clause-sure g c = λ less. subst (λ (e : ShelfError). Blames {T = Unit {0}} (g.S.Shelf.meaning c.args.shelf.now) (g.S.Shelf.meaning c.commit_stale.new.shelf) (Err e)) (sym c.fault_of.ensures) (stop_sure c.args.core.now.good (staled c.args.vol c.args.failed.set c.args.core.now.config 8) _ (g.S.Shelf.meaning c.args.shelf.now) (g.S.Shelf.meaning c.commit_stale.new.shelf) (staled_some c.args.core.now.config c.args.vol c.args.failed.set c.args.core.now.good c.requires.stands.some) (not_down c.is_down-in-Err.result (g.S.Shelf.meaning c.commit_stale.new.shelf).down c.is_down-in-Err.ensures c.if-is_down-2.false) c.in-Err.no c.args.failed.disk (staled_less c.args.core.now.config c.args.vol c.args.failed.set less) c.in-Err.ensures.ends.cause)

pub returns-then-is_down-clause-others : goal.returns-then-is_down-clause-others
returns-then-is_down-clause-others g c = taken_others c.args.core.now (record { config = c.commit_stale.new.config; good = c.good_of-core.result; room = c.commit_stale.new.room; unsettled = c.args.core.now.unsettled; committed = c.is_committed-core.result; agreed = c.is_committed-core.result; next = c.args.core.now.next; faults = c.args.core.now.faults; unsure = c.args.core.now.unsure }) c.args.vol c.args.failed.set (g.S.Shelf.meaning c.args.shelf.now) (g.S.Shelf.meaning c.commit_stale.new.shelf) c.requires.stands c.commit_stale.ensures.acts c.commit_stale.ensures.wanted c.commit_stale.ensures.can c.commit_stale.ensures.on refl refl c.in-Ok.ensures.ends c.good_of-core.ensures

pub returns-then-is_down-2-clause-others : goal.returns-then-is_down-2-clause-others
returns-then-is_down-2-clause-others g c = left_others c.args.core.now (record { config = c.commit_stale.new.config; good = c.args.core.now.good; room = c.commit_stale.new.room; unsettled = true; committed = false; agreed = c.args.core.now.committed; next = c.args.core.now.next; faults = c.args.core.now.faults; unsure = c.args.core.now.unsure }) c.args.vol c.args.failed.set (g.S.Shelf.meaning c.args.shelf.now) (g.S.Shelf.meaning c.commit_stale.new.shelf) c.requires.stands c.commit_stale.ensures.acts c.commit_stale.ensures.wanted c.commit_stale.ensures.can c.commit_stale.ensures.on refl refl (staled c.args.vol c.args.failed.set c.args.core.now.config 8) c.in-Err.no c.in-Err.ensures.ends refl refl

pub returns-else-is_down-clause-others : goal.returns-else-is_down-clause-others
returns-else-is_down-clause-others g c = taken_others c.args.core.now (record { config = c.commit_stale.new.config; good = c.good_of-core.result; room = c.commit_stale.new.room; unsettled = c.args.core.now.unsettled; committed = c.is_committed-core.result; agreed = c.is_committed-core.result; next = c.args.core.now.next; faults = c.args.core.now.faults; unsure = c.args.core.now.unsure }) c.args.vol c.args.failed.set (g.S.Shelf.meaning c.args.shelf.now) (g.S.Shelf.meaning c.commit_stale.new.shelf) c.requires.stands c.commit_stale.ensures.acts c.commit_stale.ensures.wanted c.commit_stale.ensures.can c.commit_stale.ensures.on refl refl c.in-Ok.ensures.ends c.good_of-core.ensures

pub returns-else-is_down-2-clause-others : goal.returns-else-is_down-2-clause-others
returns-else-is_down-2-clause-others g c = left_others c.args.core.now (record { config = c.commit_stale.new.config; good = c.args.core.now.good; room = c.commit_stale.new.room; unsettled = true; committed = false; agreed = c.args.core.now.committed; next = c.args.core.now.next; faults = c.args.core.now.faults; unsure = c.args.core.now.unsure }) c.args.vol c.args.failed.set (g.S.Shelf.meaning c.args.shelf.now) (g.S.Shelf.meaning c.commit_stale.new.shelf) c.requires.stands c.commit_stale.ensures.acts c.commit_stale.ensures.wanted c.commit_stale.ensures.can c.commit_stale.ensures.on refl refl (staled c.args.vol c.args.failed.set c.args.core.now.config 8) c.in-Err.no c.in-Err.ensures.ends refl refl

pub returns-else-is_down-clause-parts : goal.returns-else-is_down-clause-parts
returns-else-is_down-clause-parts g c =
    let was = is_staled c.args.vol c.args.failed.set 8 c.args.core.now.config in
    let grown = c.in-Ok.ensures.ends.grown in
    record { site = grown.site ∙ was.site; rvg = grown.rvg ∙ was.rvg; count = grown.disks.count ∙ ap length was.disks; later = (let more = c.in-Ok.ensures.ends.later in let same = was.serial in omega (arith, more, same)) }

pub returns-then-is_down-clause-parts : goal.returns-then-is_down-clause-parts
returns-then-is_down-clause-parts g c =
    let was = is_staled c.args.vol c.args.failed.set 8 c.args.core.now.config in
    let grown = c.in-Ok.ensures.ends.grown in
    record { site = grown.site ∙ was.site; rvg = grown.rvg ∙ was.rvg; count = grown.disks.count ∙ ap length was.disks; later = (let more = c.in-Ok.ensures.ends.later in let same = was.serial in omega (arith, more, same)) }

pub returns-then-is_down-2-clause-parts : goal.returns-then-is_down-2-clause-parts
returns-then-is_down-2-clause-parts g c = let left = c.in-Err.ensures.ends in record { site = left.site; rvg = left.rvg; count = ap length left.disks; later = left.later }

pub returns-else-is_down-2-clause-parts : goal.returns-else-is_down-2-clause-parts
returns-else-is_down-2-clause-parts g c = let left = c.in-Err.ensures.ends in record { site = left.site; rvg = left.rvg; count = ap length left.disks; later = left.later }

pub returns-then-is_down-clause-none : goal.returns-then-is_down-clause-none
returns-then-is_down-clause-none g c = none_changed c.args.vol c.args.failed.set c.args.core.now.config c.commit_stale.new.config c.in-Ok.ensures.ends.grown.volumes

pub returns-then-is_down-2-clause-none : goal.returns-then-is_down-2-clause-none
returns-then-is_down-2-clause-none g c = λ is. c.in-Err.ensures.ends.volumes

pub returns-else-is_down-clause-none : goal.returns-else-is_down-clause-none
returns-else-is_down-clause-none g c = none_changed c.args.vol c.args.failed.set c.args.core.now.config c.commit_stale.new.config c.in-Ok.ensures.ends.grown.volumes

pub returns-else-is_down-2-clause-none : goal.returns-else-is_down-2-clause-none
returns-else-is_down-2-clause-none g c = λ is. c.in-Err.ensures.ends.volumes

pub returns-else-is_down-2-clause-keeps : goal.returns-else-is_down-2-clause-keeps
returns-else-is_down-2-clause-keeps g c = keeps_volumes c.args.core.now.config c.commit_stale.new.config c.fault_of.result c.in-Err.ensures.ends.volumes

pub returns-else-is_down-clause-committed : goal.returns-else-is_down-clause-committed
returns-else-is_down-clause-committed g c = record { finds = c.in-Ok.ensures.ends.finds }

pub returns-then-is_down-clause-failing : goal.returns-then-is_down-clause-failing
returns-then-is_down-clause-failing g c =
    failing_from (g.S.Shelf.meaning c.args.shelf.now) (g.S.Shelf.meaning c.commit_stale.new.shelf) (staled c.args.vol c.args.failed.set c.args.core.now.config 8).disks c.args.core.now.config.disks c.commit_stale.new.config.disks
    (is_staled c.args.vol c.args.failed.set 8 c.args.core.now.config).disks c.in-Ok.ensures.ends.grown.disks

pub returns-else-is_down-clause-failing : goal.returns-else-is_down-clause-failing
returns-else-is_down-clause-failing g c =
    failing_from (g.S.Shelf.meaning c.args.shelf.now) (g.S.Shelf.meaning c.commit_stale.new.shelf) (staled c.args.vol c.args.failed.set c.args.core.now.config 8).disks c.args.core.now.config.disks c.commit_stale.new.config.disks
    (is_staled c.args.vol c.args.failed.set 8 c.args.core.now.config).disks c.in-Ok.ensures.ends.grown.disks

pub returns-then-is_down-2-clause-failing : goal.returns-then-is_down-2-clause-failing
returns-then-is_down-2-clause-failing g c = no_failing (g.S.Shelf.meaning c.args.shelf.now) (g.S.Shelf.meaning c.commit_stale.new.shelf) c.args.core.now.config.disks c.commit_stale.new.config.disks c.in-Err.ensures.ends.disks

pub returns-else-is_down-2-clause-failing : goal.returns-else-is_down-2-clause-failing
returns-else-is_down-2-clause-failing g c = no_failing (g.S.Shelf.meaning c.args.shelf.now) (g.S.Shelf.meaning c.commit_stale.new.shelf) c.args.core.now.config.disks c.commit_stale.new.config.disks c.in-Err.ensures.ends.disks

pub returns-else-is_down-clause-few : goal.returns-else-is_down-clause-few
returns-else-is_down-clause-few g c =
    let was = is_staled c.args.vol c.args.failed.set 8 c.args.core.now.config in
    few_serial c.args.core.now.config (staled c.args.vol c.args.failed.set c.args.core.now.config 8) c.commit_stale.new.config was.serial was.disks c.in-Ok.ensures.ends.few

pub returns-then-is_down-clause-lies : goal.returns-then-is_down-clause-lies
returns-then-is_down-clause-lies g c =
    staled_lies c.args.vol c.args.failed.set c.args.core.now.config c.commit_stale.new.config c.in-Ok.ensures.ends.grown.volumes

pub returns-else-is_down-clause-lies : goal.returns-else-is_down-clause-lies
returns-else-is_down-clause-lies g c =
    staled_lies c.args.vol c.args.failed.set c.args.core.now.config c.commit_stale.new.config c.in-Ok.ensures.ends.grown.volumes

pub returns-then-is_down-2-clause-lies : goal.returns-then-is_down-2-clause-lies
returns-then-is_down-2-clause-lies g c =
    uses_volumes c.args.core.now.config c.commit_stale.new.config c.in-Err.ensures.ends.volumes

pub returns-else-is_down-2-clause-lies : goal.returns-else-is_down-2-clause-lies
returns-else-is_down-2-clause-lies g c =
    uses_volumes c.args.core.now.config c.commit_stale.new.config c.in-Err.ensures.ends.volumes

pub returns-else-is_down-clause-trust : goal.returns-else-is_down-clause-trust
returns-else-is_down-clause-trust g c = stays_committed c.args.core.now.committed c.is_committed-core.result (λ off. (c.is_committed-core.ensures.none off).0)

pub returns-then-is_down-clause-agreed : goal.returns-then-is_down-clause-agreed
returns-then-is_down-clause-agreed g c = stays_committed c.args.core.now.committed c.is_committed-core.result (λ off. (c.is_committed-core.ensures.none off).0)

pub returns-then-is_down-clause-kept : goal.returns-then-is_down-clause-kept
returns-then-is_down-clause-kept g c = inr c.in-Ok.ensures.ends.grown.volumes

pub returns-else-is_down-clause-kept : goal.returns-else-is_down-clause-kept
returns-else-is_down-clause-kept g c = inr c.in-Ok.ensures.ends.grown.volumes

pub returns-then-is_down-2-clause-kept : goal.returns-then-is_down-2-clause-kept
returns-then-is_down-2-clause-kept g c = inl c.in-Err.ensures.ends.volumes

pub returns-else-is_down-2-clause-kept : goal.returns-else-is_down-2-clause-kept
returns-else-is_down-2-clause-kept g c = inl c.in-Err.ensures.ends.volumes

pub returns-else-is_down-clause-whole : goal.returns-else-is_down-clause-whole
returns-else-is_down-clause-whole g c = committed_or c.is_committed-core.result c.commit_stale.new.config.disks (λ is. (c.is_committed-core.ensures.none is).1)

pub returns-then-is_down-clause-finds : goal.returns-then-is_down-clause-finds
returns-then-is_down-clause-finds g c =
    done_ends (staled c.args.vol c.args.failed.set c.args.core.now.config 8) _ (g.S.Shelf.meaning c.args.shelf.now) (g.S.Shelf.meaning c.commit_stale.new.shelf) c.commit_stale.ensures.finds c.requires.settled (record { finds = c.in-Ok.ensures.ends.finds })

pub returns-else-is_down-clause-finds : goal.returns-else-is_down-clause-finds
returns-else-is_down-clause-finds g c =
    done_ends (staled c.args.vol c.args.failed.set c.args.core.now.config 8) _ (g.S.Shelf.meaning c.args.shelf.now) (g.S.Shelf.meaning c.commit_stale.new.shelf) c.commit_stale.ensures.finds c.requires.settled (record { finds = c.in-Ok.ensures.ends.finds })

pub returns-then-is_down-2-clause-finds : goal.returns-then-is_down-2-clause-finds
returns-then-is_down-2-clause-finds g c =
    left_ends (staled c.args.vol c.args.failed.set c.args.core.now.config 8) _ (g.S.Shelf.meaning c.args.shelf.now) (g.S.Shelf.meaning c.commit_stale.new.shelf) c.commit_stale.ensures.finds refl

pub returns-else-is_down-2-clause-finds : goal.returns-else-is_down-2-clause-finds
returns-else-is_down-2-clause-finds g c =
    left_ends (staled c.args.vol c.args.failed.set c.args.core.now.config 8) _ (g.S.Shelf.meaning c.args.shelf.now) (g.S.Shelf.meaning c.commit_stale.new.shelf) c.commit_stale.ensures.finds refl

pub returns-then-is_down-clause-logs : goal.returns-then-is_down-clause-logs
returns-then-is_down-clause-logs g c = kept_logs c.args.vol c.args.failed.set 8 c.args.core.now.config c.commit_stale.new.config (inr c.in-Ok.ensures.ends.grown.volumes)

pub returns-else-is_down-clause-logs : goal.returns-else-is_down-clause-logs
returns-else-is_down-clause-logs g c = kept_logs c.args.vol c.args.failed.set 8 c.args.core.now.config c.commit_stale.new.config (inr c.in-Ok.ensures.ends.grown.volumes)

pub returns-then-is_down-2-clause-logs : goal.returns-then-is_down-2-clause-logs
returns-then-is_down-2-clause-logs g c = volumes_logs c.args.core.now.config c.commit_stale.new.config c.in-Err.ensures.ends.volumes

pub returns-else-is_down-2-clause-logs : goal.returns-else-is_down-2-clause-logs
returns-else-is_down-2-clause-logs g c = volumes_logs c.args.core.now.config c.commit_stale.new.config c.in-Err.ensures.ends.volumes

pub returns-else-is_down-clause-room : goal.returns-else-is_down-clause-room
returns-else-is_down-clause-room g c = let later = c.in-Ok.ensures.ends.later in let top = c.commit_stale.ensures.can.serial in let was = (is_staled c.args.vol c.args.failed.set 8 c.args.core.now.config).serial in omega (arith, later, top, was)

pub returns-then-is_down-clause-settles : goal.returns-then-is_down-clause-settles
returns-then-is_down-clause-settles g c = done_settled _ (g.S.Shelf.meaning c.args.shelf.now) (g.S.Shelf.meaning c.commit_stale.new.shelf) c.commit_stale.ensures.on (record { finds = c.in-Ok.ensures.ends.finds })

pub returns-else-is_down-clause-settles : goal.returns-else-is_down-clause-settles
returns-else-is_down-clause-settles g c = done_settled _ (g.S.Shelf.meaning c.args.shelf.now) (g.S.Shelf.meaning c.commit_stale.new.shelf) c.commit_stale.ensures.on (record { finds = c.in-Ok.ensures.ends.finds })

pub returns-then-is_down-2-clause-settles : goal.returns-then-is_down-2-clause-settles
returns-then-is_down-2-clause-settles g c =
    let m = g.S.Shelf.meaning c.args.shelf.now in
    left_settled (staled c.args.vol c.args.failed.set c.args.core.now.config 8) c.args.core.now.config (Member c.args.core.now.good m) _ (g.S.Shelf.meaning c.args.shelf.now) (g.S.Shelf.meaning c.commit_stale.new.shelf)
    (staled_on c.args.vol c.args.failed.set c.args.core.now.config c.requires.left (sound_of c.args.core.now m c.requires.stands) c.requires.stands.on) c.requires.stands.kept
    (less_acts c.args.core.now.config _ (g.S.Shelf.meaning c.args.shelf.now) (g.S.Shelf.meaning c.commit_stale.new.shelf) (apart_of_core c.args.core.now m c.requires.stands) c.commit_stale.ensures.acts) c.commit_stale.ensures.finds refl

pub returns-else-is_down-2-clause-settles : goal.returns-else-is_down-2-clause-settles
returns-else-is_down-2-clause-settles g c =
    let m = g.S.Shelf.meaning c.args.shelf.now in
    left_settled (staled c.args.vol c.args.failed.set c.args.core.now.config 8) c.args.core.now.config (Member c.args.core.now.good m) _ (g.S.Shelf.meaning c.args.shelf.now) (g.S.Shelf.meaning c.commit_stale.new.shelf)
    (staled_on c.args.vol c.args.failed.set c.args.core.now.config c.requires.left (sound_of c.args.core.now m c.requires.stands) c.requires.stands.on) c.requires.stands.kept
    (less_acts c.args.core.now.config _ (g.S.Shelf.meaning c.args.shelf.now) (g.S.Shelf.meaning c.commit_stale.new.shelf) (apart_of_core c.args.core.now m c.requires.stands) c.commit_stale.ensures.acts) c.commit_stale.ensures.finds refl

pub returns-then-is_down-clause-cause : goal.returns-then-is_down-clause-cause
returns-then-is_down-clause-cause g c = sym c.is_down.ensures ∙ c.if-is_down.true

pub returns-then-is_down-clause-sure : goal.returns-then-is_down-clause-sure
returns-then-is_down-clause-sure g c = λ less. sym c.is_down.ensures ∙ c.if-is_down.true

pub returns-then-is_down-clause-good : goal.returns-then-is_down-clause-good
returns-then-is_down-clause-good g c = λ un. absurd (let clash : false ≡ true = sym c.requires.settled ∙ un in cc)

pub returns-then-is_down-clause-missed : goal.returns-then-is_down-clause-missed
returns-then-is_down-clause-missed g c = inr (sym c.is_down.ensures ∙ c.if-is_down.true)

pub returns-else-is_down-clause-settled : goal.returns-else-is_down-clause-settled
returns-else-is_down-clause-settled g c = c.requires.settled

pub returns-else-is_down-clause-good : goal.returns-else-is_down-clause-good
returns-else-is_down-clause-good g c = λ un. absurd (let clash : false ≡ true = sym c.requires.settled ∙ un in cc)

pub returns-else-is_down-clause-cause : goal.returns-else-is_down-clause-cause
returns-else-is_down-clause-cause g c = not_down c.is_down.result (g.S.Shelf.meaning c.commit_stale.new.shelf).down c.is_down.ensures c.if-is_down.false

pub returns-else-is_down-clause-sure : goal.returns-else-is_down-clause-sure
returns-else-is_down-clause-sure g c = λ less. not_down c.is_down.result (g.S.Shelf.meaning c.commit_stale.new.shelf).down c.is_down.ensures c.if-is_down.false

pub returns-else-is_down-clause-named : goal.returns-else-is_down-clause-named
returns-else-is_down-clause-named g c = c.in-Ok.ensures.named

pub returns-then-is_down-2-clause-cause : goal.returns-then-is_down-2-clause-cause
returns-then-is_down-2-clause-cause g c = sym c.is_down-in-Err.ensures ∙ c.if-is_down-2.true

pub returns-then-is_down-2-clause-sure : goal.returns-then-is_down-2-clause-sure
returns-then-is_down-2-clause-sure g c = λ less. sym c.is_down-in-Err.ensures ∙ c.if-is_down-2.true

pub returns-then-is_down-2-clause-good : goal.returns-then-is_down-2-clause-good
returns-then-is_down-2-clause-good g c = λ un. refl

pub returns-then-is_down-2-clause-missed : goal.returns-then-is_down-2-clause-missed
returns-then-is_down-2-clause-missed g c = inl refl

pub returns-then-is_down-2-clause-agreed : goal.returns-then-is_down-2-clause-agreed
returns-then-is_down-2-clause-agreed g c = λ is. is

pub returns-else-is_down-2-clause-good : goal.returns-else-is_down-2-clause-good
returns-else-is_down-2-clause-good g c = λ un. refl

pub returns-else-is_down-2-clause-missed : goal.returns-else-is_down-2-clause-missed
returns-else-is_down-2-clause-missed g c = inl refl

pub returns-else-is_down-2-clause-agreed : goal.returns-else-is_down-2-clause-agreed
returns-else-is_down-2-clause-agreed g c = λ is. is

pub returns-then-is_down-clause-off : goal.returns-then-is_down-clause-off
returns-then-is_down-clause-off g c = tt

pub returns-then-is_down-clause-settled : goal.returns-then-is_down-clause-settled
returns-then-is_down-clause-settled g c = tt

pub returns-then-is_down-clause-few : goal.returns-then-is_down-clause-few
returns-then-is_down-clause-few g c = tt

pub returns-then-is_down-clause-room : goal.returns-then-is_down-clause-room
returns-then-is_down-clause-room g c = tt

pub returns-then-is_down-clause-trust : goal.returns-then-is_down-clause-trust
returns-then-is_down-clause-trust g c = tt

pub returns-then-is_down-clause-whole : goal.returns-then-is_down-clause-whole
returns-then-is_down-clause-whole g c = tt

pub returns-then-is_down-clause-committed : goal.returns-then-is_down-clause-committed
returns-then-is_down-clause-committed g c = tt

pub returns-then-is_down-clause-named : goal.returns-then-is_down-clause-named
returns-then-is_down-clause-named g c = tt

pub returns-then-is_down-2-clause-off : goal.returns-then-is_down-2-clause-off
returns-then-is_down-2-clause-off g c = tt

pub returns-then-is_down-2-clause-settled : goal.returns-then-is_down-2-clause-settled
returns-then-is_down-2-clause-settled g c = tt

pub returns-then-is_down-2-clause-few : goal.returns-then-is_down-2-clause-few
returns-then-is_down-2-clause-few g c = tt

pub returns-then-is_down-2-clause-room : goal.returns-then-is_down-2-clause-room
returns-then-is_down-2-clause-room g c = tt

pub returns-then-is_down-2-clause-trust : goal.returns-then-is_down-2-clause-trust
returns-then-is_down-2-clause-trust g c = tt

pub returns-then-is_down-2-clause-whole : goal.returns-then-is_down-2-clause-whole
returns-then-is_down-2-clause-whole g c = tt

pub returns-then-is_down-2-clause-committed : goal.returns-then-is_down-2-clause-committed
returns-then-is_down-2-clause-committed g c = tt

pub returns-then-is_down-2-clause-named : goal.returns-then-is_down-2-clause-named
returns-then-is_down-2-clause-named g c = tt

pub returns-else-is_down-2-clause-off : goal.returns-else-is_down-2-clause-off
returns-else-is_down-2-clause-off g c = tt

pub returns-else-is_down-2-clause-settled : goal.returns-else-is_down-2-clause-settled
returns-else-is_down-2-clause-settled g c = tt

pub returns-else-is_down-2-clause-few : goal.returns-else-is_down-2-clause-few
returns-else-is_down-2-clause-few g c = tt

pub returns-else-is_down-2-clause-room : goal.returns-else-is_down-2-clause-room
returns-else-is_down-2-clause-room g c = tt

pub returns-else-is_down-2-clause-trust : goal.returns-else-is_down-2-clause-trust
returns-else-is_down-2-clause-trust g c = tt

pub returns-else-is_down-2-clause-whole : goal.returns-else-is_down-2-clause-whole
returns-else-is_down-2-clause-whole g c = tt

pub returns-else-is_down-2-clause-committed : goal.returns-else-is_down-2-clause-committed
returns-else-is_down-2-clause-committed g c = tt

pub returns-else-is_down-2-clause-named : goal.returns-else-is_down-2-clause-named
returns-else-is_down-2-clause-named g c = tt

pub returns-else-is_down-clause-missed : goal.returns-else-is_down-clause-missed
returns-else-is_down-clause-missed g c = tt

pub returns-else-is_down-clause-agreed : goal.returns-else-is_down-clause-agreed
returns-else-is_down-clause-agreed g c = tt
