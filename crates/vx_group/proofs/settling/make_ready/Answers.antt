-- `make_ready`: clauses narrows, cause, volumes, failing, few, good, trust and agreed; what `detach` asks.
use Rattle.std.proofs.Common.{◌∙◌, length, refl, arith, ◌≡◌, true, false, sym}
use Rattle.vx_group.proofs.CallLemmas.{blames_later, both_Narrows}
use Rattle.vx_group.proofs.DetachLemmas.{zero_bit}
use Rattle.vx_group.proofs.FailingLemmas.{few_ok, then_failing, no_failing}
use Rattle.vx_group.proofs.LoseLemmas.{but_parts, then_parts, none_parts}
use Rattle.vx_group.proofs.SettleCalls.{headers_missed, same_told, settled_behind}
use Rattle.vx_group.proofs.Standing.{some_active}
use Rattle.vx_group.proofs.TrustLemmas.{err_from, ok_from}
use Rattle.vx_group.proofs.FindingLemmas.{behind_finds, none_finds}
use Rattle.vx_kept.specs.Commits.{Member}
use Rattle.vx_kept.specs.Keeping.{Sees}
use Rattle.vx_kept.proofs.StateLemmas.{same_shape}
use Rattle.vx_kept.proofs.Steps.{same_Acts}
use Rattle.vx_group.proofs.settling.make_ready.Goals as goal

pub detach-requires-clause-left : goal.detach-requires-clause-left
detach-requires-clause-left g c = λ lt.
    let some = some_active c.settle_headers.new.core (g.S.Shelf.meaning c.settle_headers.new.shelf) c.settle_headers.ensures.stands 0 lt in
    record { plex = some.plex; is_on = some.is_on; out = zero_bit 0 some.plex refl }

pub returns-clause-narrows : goal.returns-clause-narrows
returns-clause-narrows g c =
    both_Narrows c.args.core.now c.settle_headers.new.core c.detach.new.core (g.S.Shelf.meaning c.args.shelf.now) (g.S.Shelf.meaning c.settle_headers.new.shelf) (g.S.Shelf.meaning c.detach.new.shelf) c.settle_headers.ensures.volumes c.settle_headers.ensures.good c.settle_headers.ensures.narrows c.detach.ensures.narrows

pub returns-clause-cause : goal.returns-clause-cause
returns-clause-cause g c =
    blames_later c.detach.result (g.S.Shelf.meaning c.args.shelf.now) (g.S.Shelf.meaning c.settle_headers.new.shelf) (g.S.Shelf.meaning c.detach.new.shelf) c.settle_headers.ensures.narrows.acts.disk_faults
    (c.detach.ensures.sure (let same = c.settle_headers.ensures.serial in let less = c.if-core-ge-MOST_NUMBER.false in omega (arith, same, less)))

pub returns-clause-volumes : goal.returns-clause-volumes
returns-clause-volumes g c = c.detach.ensures.none refl ∙ c.settle_headers.ensures.volumes

pub returns-in-Err-clause-parts : goal.returns-in-Err-clause-parts
returns-in-Err-clause-parts g c = but_parts c.args.core.now.config c.settle_headers.new.core.config c.settle_headers.ensures.same

pub returns-clause-parts : goal.returns-clause-parts
returns-clause-parts g c =
    then_parts c.args.core.now.config c.settle_headers.new.core.config c.detach.new.core.config (but_parts c.args.core.now.config c.settle_headers.new.core.config c.settle_headers.ensures.same) c.detach.ensures.parts

pub returns-clause-failing : goal.returns-clause-failing
returns-clause-failing g c =
    then_failing (g.S.Shelf.meaning c.args.shelf.now) (g.S.Shelf.meaning c.settle_headers.new.shelf) (g.S.Shelf.meaning c.detach.new.shelf) c.settle_headers.ensures.narrows.acts.faults c.detach.ensures.narrows.acts.faults
    c.args.core.now.config.disks c.settle_headers.new.core.config.disks c.detach.new.core.config.disks c.settle_headers.ensures.failing c.detach.ensures.failing

pub returns-clause-few : goal.returns-clause-few
returns-clause-few g c =
    few_ok c.detach.result c.args.core.now.config.serial c.settle_headers.new.core.config.serial c.detach.new.core.config.serial (length c.settle_headers.new.core.config.disks) (length c.args.core.now.config.disks) c.detach.ensures.few c.settle_headers.ensures.serial c.settle_headers.ensures.failing.count

pub returns-clause-good : goal.returns-clause-good
returns-clause-good g c = λ is. c.detach.ensures.good is ∙ c.settle_headers.ensures.good

pub returns-clause-trust : goal.returns-clause-trust
returns-clause-trust g c = ok_from c.detach.result (λ keeps is. keeps (c.settle_headers.ensures.trust ∙ is)) c.detach.ensures.trust

pub returns-clause-agreed : goal.returns-clause-agreed
returns-clause-agreed g c = err_from c.detach.result (λ keeps is. keeps (c.settle_headers.ensures.trust ∙ is)) c.detach.ensures.agreed

pub returns-in-Err-clause-agreed : goal.returns-in-Err-clause-agreed
returns-in-Err-clause-agreed g c = λ is. c.settle_headers.ensures.agreed ∙ c.requires.stands.trusts.both is

pub returns-clause-finds : goal.returns-clause-finds
returns-clause-finds g c =
    behind_finds c.args.core.now c.settle_headers.new.core c.detach.new.core (g.S.Shelf.meaning c.args.shelf.now) (g.S.Shelf.meaning c.settle_headers.new.shelf) (g.S.Shelf.meaning c.detach.new.shelf) c.settle_headers.ensures.finds c.detach.ensures.finds

pub returns-in-Err-clause-full : goal.returns-in-Err-clause-full
returns-in-Err-clause-full g c = λ full. absurd (let less = c.if-core-ge-MOST_NUMBER.false in omega (arith, full, less))

pub returns-clause-full : goal.returns-clause-full
returns-clause-full g c = λ full. absurd (let less = c.if-core-ge-MOST_NUMBER.false in omega (arith, full, less))

pub returns-then-not-core-clause-settles : goal.returns-then-not-core-clause-settles
returns-then-not-core-clause-settles g c = same_told c.args.core.now (g.S.Shelf.meaning c.args.shelf.now)

pub returns-in-Err-clause-settles : goal.returns-in-Err-clause-settles
returns-in-Err-clause-settles g c =
    headers_missed c.args.core.now c.settle_headers.new.core (g.S.Shelf.meaning c.args.shelf.now) (g.S.Shelf.meaning c.settle_headers.new.shelf) c.requires.stands c.settle_headers.ensures.narrows c.settle_headers.ensures.serial c.settle_headers.ensures.less c.in-Err.ensures.missed

pub returns-clause-settles : goal.returns-clause-settles
returns-clause-settles g c =
    settled_behind c.args.core.now c.settle_headers.new.core c.detach.new.core (g.S.Shelf.meaning c.args.shelf.now) (g.S.Shelf.meaning c.settle_headers.new.shelf) (g.S.Shelf.meaning c.detach.new.shelf) c.requires.stands c.if-core-ge-MOST_NUMBER.false c.settle_headers.ensures.narrows c.settle_headers.ensures.less c.detach.ensures.settles

pub returns-then-not-core-clause-ready : goal.returns-then-not-core-clause-ready
returns-then-not-core-clause-ready g c = λ on. absurd (let clash : false ≡ true = sym c.if-not-core.true ∙ on in cc)

pub returns-then-core-ge-MOST_NUMBER-clause-ready : goal.returns-then-core-ge-MOST_NUMBER-clause-ready
returns-then-core-ge-MOST_NUMBER-clause-ready g c = λ on. let full = c.if-core-ge-MOST_NUMBER.true in omega (arith, full)

pub returns-in-Err-clause-ready : goal.returns-in-Err-clause-ready
returns-in-Err-clause-ready g c = tt

pub returns-clause-ready : goal.returns-clause-ready
returns-clause-ready g c = ok_from c.detach.result (λ off on. absurd (let clash : true ≡ false = sym on ∙ off in cc)) c.detach.ensures.settled

pub returns-then-core-ge-MOST_NUMBER-clause-stands : goal.returns-then-core-ge-MOST_NUMBER-clause-stands
returns-then-core-ge-MOST_NUMBER-clause-stands g c = c.requires.stands

pub returns-then-core-ge-MOST_NUMBER-clause-volumes : goal.returns-then-core-ge-MOST_NUMBER-clause-volumes
returns-then-core-ge-MOST_NUMBER-clause-volumes g c = refl

pub returns-then-core-ge-MOST_NUMBER-clause-parts : goal.returns-then-core-ge-MOST_NUMBER-clause-parts
returns-then-core-ge-MOST_NUMBER-clause-parts g c = none_parts c.args.core.now.config

pub returns-then-core-ge-MOST_NUMBER-clause-failing : goal.returns-then-core-ge-MOST_NUMBER-clause-failing
returns-then-core-ge-MOST_NUMBER-clause-failing g c = no_failing (g.S.Shelf.meaning c.args.shelf.now) (g.S.Shelf.meaning c.args.shelf.now) c.args.core.now.config.disks c.args.core.now.config.disks refl

pub returns-then-core-ge-MOST_NUMBER-clause-few : goal.returns-then-core-ge-MOST_NUMBER-clause-few
returns-then-core-ge-MOST_NUMBER-clause-few g c = omega arith

pub returns-then-core-ge-MOST_NUMBER-clause-missed : goal.returns-then-core-ge-MOST_NUMBER-clause-missed
returns-then-core-ge-MOST_NUMBER-clause-missed g c = tt

pub returns-then-core-ge-MOST_NUMBER-clause-trust : goal.returns-then-core-ge-MOST_NUMBER-clause-trust
returns-then-core-ge-MOST_NUMBER-clause-trust g c = λ is. is

pub returns-then-core-ge-MOST_NUMBER-clause-agreed : goal.returns-then-core-ge-MOST_NUMBER-clause-agreed
returns-then-core-ge-MOST_NUMBER-clause-agreed g c = tt

pub returns-then-core-ge-MOST_NUMBER-clause-finds : goal.returns-then-core-ge-MOST_NUMBER-clause-finds
returns-then-core-ge-MOST_NUMBER-clause-finds g c = none_finds c.args.core.now (g.S.Shelf.meaning c.args.shelf.now)

pub returns-then-core-ge-MOST_NUMBER-clause-full : goal.returns-then-core-ge-MOST_NUMBER-clause-full
returns-then-core-ge-MOST_NUMBER-clause-full g c = λ full. full

pub returns-then-core-ge-MOST_NUMBER-clause-good : goal.returns-then-core-ge-MOST_NUMBER-clause-good
returns-then-core-ge-MOST_NUMBER-clause-good g c = λ is. refl

pub returns-then-core-ge-MOST_NUMBER-clause-cause : goal.returns-then-core-ge-MOST_NUMBER-clause-cause
returns-then-core-ge-MOST_NUMBER-clause-cause g c = c.requires.up

pub returns-then-not-core-clause-stands : goal.returns-then-not-core-clause-stands
returns-then-not-core-clause-stands g c = c.requires.stands

pub returns-then-not-core-clause-volumes : goal.returns-then-not-core-clause-volumes
returns-then-not-core-clause-volumes g c = refl

pub returns-then-not-core-clause-parts : goal.returns-then-not-core-clause-parts
returns-then-not-core-clause-parts g c = none_parts c.args.core.now.config

pub returns-then-not-core-clause-failing : goal.returns-then-not-core-clause-failing
returns-then-not-core-clause-failing g c = no_failing (g.S.Shelf.meaning c.args.shelf.now) (g.S.Shelf.meaning c.args.shelf.now) c.args.core.now.config.disks c.args.core.now.config.disks refl

pub returns-then-not-core-clause-few : goal.returns-then-not-core-clause-few
returns-then-not-core-clause-few g c = omega arith

pub returns-then-not-core-clause-missed : goal.returns-then-not-core-clause-missed
returns-then-not-core-clause-missed g c = tt

pub returns-then-not-core-clause-trust : goal.returns-then-not-core-clause-trust
returns-then-not-core-clause-trust g c = λ is. is

pub returns-then-not-core-clause-agreed : goal.returns-then-not-core-clause-agreed
returns-then-not-core-clause-agreed g c = tt

pub returns-then-not-core-clause-finds : goal.returns-then-not-core-clause-finds
returns-then-not-core-clause-finds g c = none_finds c.args.core.now (g.S.Shelf.meaning c.args.shelf.now)

pub returns-then-not-core-clause-full : goal.returns-then-not-core-clause-full
returns-then-not-core-clause-full g c = λ full. full

pub returns-then-not-core-clause-good : goal.returns-then-not-core-clause-good
returns-then-not-core-clause-good g c = λ is. refl

pub returns-then-not-core-clause-cause : goal.returns-then-not-core-clause-cause
returns-then-not-core-clause-cause g c = c.requires.up

pub returns-in-Err-clause-stands : goal.returns-in-Err-clause-stands
returns-in-Err-clause-stands g c = c.settle_headers.ensures.stands

pub returns-in-Err-clause-narrows : goal.returns-in-Err-clause-narrows
returns-in-Err-clause-narrows g c = c.settle_headers.ensures.narrows

pub returns-in-Err-clause-volumes : goal.returns-in-Err-clause-volumes
returns-in-Err-clause-volumes g c = c.settle_headers.ensures.volumes

pub returns-in-Err-clause-failing : goal.returns-in-Err-clause-failing
returns-in-Err-clause-failing g c = c.settle_headers.ensures.failing

pub returns-in-Err-clause-few : goal.returns-in-Err-clause-few
returns-in-Err-clause-few g c = tt

pub returns-in-Err-clause-trust : goal.returns-in-Err-clause-trust
returns-in-Err-clause-trust g c = tt

pub returns-in-Err-clause-finds : goal.returns-in-Err-clause-finds
returns-in-Err-clause-finds g c = c.settle_headers.ensures.finds

pub returns-in-Err-clause-cause : goal.returns-in-Err-clause-cause
returns-in-Err-clause-cause g c = c.in-Err.ensures.cause

pub returns-clause-stands : goal.returns-clause-stands
returns-clause-stands g c = c.detach.ensures.stands

pub returns-then-core-ge-MOST_NUMBER-clause-narrows : goal.returns-then-core-ge-MOST_NUMBER-clause-narrows
returns-then-core-ge-MOST_NUMBER-clause-narrows g c = record { acts = same_Acts (Sees c.args.core.now.config (Member c.args.core.now.good (g.S.Shelf.meaning c.args.shelf.now)) (g.S.Shelf.meaning c.args.shelf.now)) (g.S.Shelf.meaning c.args.shelf.now); shape = same_shape c.args.core.now.config; on = λ v p is. is; faults = refl; unsure = refl }

pub returns-then-not-core-clause-narrows : goal.returns-then-not-core-clause-narrows
returns-then-not-core-clause-narrows g c = record { acts = same_Acts (Sees c.args.core.now.config (Member c.args.core.now.good (g.S.Shelf.meaning c.args.shelf.now)) (g.S.Shelf.meaning c.args.shelf.now)) (g.S.Shelf.meaning c.args.shelf.now); shape = same_shape c.args.core.now.config; on = λ v p is. is; faults = refl; unsure = refl }
