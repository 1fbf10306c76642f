-- `add`: its clauses, way by way; what `add_last` asks.
use Rattle.std.proofs.Common.{◌≡◌, ◌∙◌, inl, List, true, false, refl, sym, subst, arith}
use Rattle.vx_config.specs.declared.entry.DiskEntry.{DiskEntry}
use Rattle.vx_group.specs.Blames.{StopsByDevice}
use Rattle.vx_group.specs.Nexts.{Adds, IsNextConfig}
use Rattle.vx_group.proofs.DeportLemmas.{blames_stop, stops_later}
use Rattle.vx_group.proofs.LoseLemmas.{but_parts, then_parts}
use Rattle.vx_group.proofs.MakeLemmas.{begun_behind, later_adds, later_next, later_stay, nothing_beside, settled_stay}
use Rattle.vx_group.proofs.MissingLemmas.{mark_Stands, mark_finds, mark_stay}
use Rattle.vx_group.proofs.FailingLemmas.{then_failing}
use Rattle.vx_group.proofs.FindingLemmas.{then_finds}
use Rattle.vx_group.proofs.TrustStillLemmas.{then_logs, volumes_logs}
use Rattle.vx_group.proofs.SettleCalls.{headers_missed}
use Rattle.vx_group.proofs.SettleMore.{made_marked, made_missed, made_told}
use Rattle.vx_group.proofs.making.add.Goals as goal

pub returns-in-Err-clause-stays : goal.returns-in-Err-clause-stays
returns-in-Err-clause-stays g c = settled_stay c.args.core.now c.settle_headers.new.core (g.S.Shelf.meaning c.args.shelf.now) (g.S.Shelf.meaning c.settle_headers.new.shelf) (g.met.S.Shelf.lawful c.settle_headers.new.shelf) c.requires.stands c.settle_headers.ensures.stands c.settle_headers.ensures.narrows c.settle_headers.ensures.same

pub returns-in-Err-clause-adds : goal.returns-in-Err-clause-adds
returns-in-Err-clause-adds g c = c.settle_headers.ensures.volumes

pub returns-in-Err-clause-cause : goal.returns-in-Err-clause-cause
returns-in-Err-clause-cause g c = blames_stop (g.S.Shelf.meaning c.args.shelf.now) (g.S.Shelf.meaning c.settle_headers.new.shelf) c.in-Err.error c.in-Err.ensures.cause

pub add_last-requires-clause-settled : goal.add_last-requires-clause-settled
add_last-requires-clause-settled g c = c.in-Ok.ensures.settled

pub add_last-requires-clause-more : goal.add_last-requires-clause-more
add_last-requires-clause-more g c = let same = c.settle_headers.ensures.serial in let less = c.requires.more in omega (arith, same, less)

pub add_last-requires-clause-is_next : goal.add_last-requires-clause-is_next
add_last-requires-clause-is_next g c =
    subst (λ (ds : List DiskEntry). IsNextConfig c.settle_headers.new.core.config (record { serial = c.args.next.serial; site = c.args.next.site; disks = ds; volumes = c.args.next.volumes; rvg = c.args.next.rvg })) (sym c.copy-next.ensures)
    (later_next c.args.core.now c.settle_headers.new.core (g.S.Shelf.meaning c.args.shelf.now) (g.S.Shelf.meaning c.settle_headers.new.shelf) (g.met.S.Shelf.lawful c.settle_headers.new.shelf) c.requires.stands c.settle_headers.ensures.stands c.settle_headers.ensures.narrows c.settle_headers.ensures.same c.args.next c.requires.is_next)

pub returns-in-Err-clause-beside : goal.returns-in-Err-clause-beside
returns-in-Err-clause-beside g c = inl (nothing_beside _ (g.S.Shelf.meaning c.args.shelf.now) (g.S.Shelf.meaning c.settle_headers.new.shelf) c.settle_headers.ensures.narrows.acts)

pub returns-in-Err-clause-parts : goal.returns-in-Err-clause-parts
returns-in-Err-clause-parts g c = but_parts c.args.core.now.config c.settle_headers.new.core.config c.settle_headers.ensures.same

pub returns-in-Err-clause-finds : goal.returns-in-Err-clause-finds
returns-in-Err-clause-finds g c =
    c.settle_headers.ensures.finds

pub returns-in-Err-clause-logs : goal.returns-in-Err-clause-logs
returns-in-Err-clause-logs g c = volumes_logs c.args.core.now.config c.settle_headers.new.core.config c.settle_headers.ensures.volumes

pub returns-in-Ok-add_last-clause-stands : goal.returns-in-Ok-add_last-clause-stands
returns-in-Ok-add_last-clause-stands g c = c.add_last.ensures.stands

pub returns-in-Ok-add_last-clause-stays : goal.returns-in-Ok-add_last-clause-stays
returns-in-Ok-add_last-clause-stays g c =
    later_stay c.args.core.now c.settle_headers.new.core (g.S.Shelf.meaning c.args.shelf.now) (g.S.Shelf.meaning c.settle_headers.new.shelf) (g.met.S.Shelf.lawful c.settle_headers.new.shelf) c.requires.stands c.settle_headers.ensures.stands c.settle_headers.ensures.narrows c.settle_headers.ensures.same c.add_last.new.core (g.S.Shelf.meaning c.add_last.new.shelf) (g.met.S.Shelf.lawful c.add_last.new.shelf) c.add_last.ensures.stays

pub returns-in-Ok-add_last-clause-adds : goal.returns-in-Ok-add_last-clause-adds
returns-in-Ok-add_last-clause-adds g c =
    subst (λ r. Adds c.args.core.now c.add_last.new.core c.args.next (g.S.Shelf.meaning c.add_last.new.shelf) r) c.in-Ok-add_last.is
    (later_adds c.args.core.now c.settle_headers.new.core (g.S.Shelf.meaning c.args.shelf.now) (g.S.Shelf.meaning c.settle_headers.new.shelf) (g.met.S.Shelf.lawful c.settle_headers.new.shelf) c.requires.stands c.settle_headers.ensures.stands c.settle_headers.ensures.narrows c.settle_headers.ensures.same c.add_last.new.core (g.S.Shelf.meaning c.add_last.new.shelf) c.args.next _ refl c.add_last.result c.add_last.ensures.adds)

pub returns-in-Ok-add_last-clause-up : goal.returns-in-Ok-add_last-clause-up
returns-in-Ok-add_last-clause-up g c = c.in-Ok-add_last.ensures.up

pub returns-in-Ok-add_last-clause-parts : goal.returns-in-Ok-add_last-clause-parts
returns-in-Ok-add_last-clause-parts g c =
    then_parts c.args.core.now.config c.settle_headers.new.core.config c.add_last.new.core.config (but_parts c.args.core.now.config c.settle_headers.new.core.config c.settle_headers.ensures.same) c.add_last.ensures.parts

pub returns-in-Ok-add_last-clause-disks : goal.returns-in-Ok-add_last-clause-disks
returns-in-Ok-add_last-clause-disks g c =
    then_failing (g.S.Shelf.meaning c.args.shelf.now) (g.S.Shelf.meaning c.settle_headers.new.shelf) (g.S.Shelf.meaning c.add_last.new.shelf) c.settle_headers.ensures.narrows.acts.faults c.add_last.ensures.beside.faults
    c.args.core.now.config.disks c.settle_headers.new.core.config.disks c.add_last.new.core.config.disks c.settle_headers.ensures.failing c.add_last.ensures.disks

pub returns-in-Ok-add_last-clause-newest : goal.returns-in-Ok-add_last-clause-newest
returns-in-Ok-add_last-clause-newest g c = c.in-Ok-add_last.ensures.newest

pub returns-in-Ok-add_last-clause-beside : goal.returns-in-Ok-add_last-clause-beside
returns-in-Ok-add_last-clause-beside g c =
    begun_behind _ c.args.core.now.config c.settle_headers.new.core.config _ (g.S.Shelf.meaning c.args.shelf.now) (g.S.Shelf.meaning c.settle_headers.new.shelf) (g.S.Shelf.meaning c.add_last.new.shelf) c.settle_headers.ensures.volumes c.settle_headers.ensures.narrows.acts
    (subst (λ (ds : List DiskEntry). IsNextConfig c.settle_headers.new.core.config (record { serial = c.args.next.serial; site = c.args.next.site; disks = ds; volumes = c.args.next.volumes; rvg = c.args.next.rvg })) (sym c.copy-next.ensures)
    (later_next c.args.core.now c.settle_headers.new.core (g.S.Shelf.meaning c.args.shelf.now) (g.S.Shelf.meaning c.settle_headers.new.shelf) (g.met.S.Shelf.lawful c.settle_headers.new.shelf) c.requires.stands c.settle_headers.ensures.stands c.settle_headers.ensures.narrows c.settle_headers.ensures.same c.args.next c.requires.is_next))
    c.add_last.ensures.beside

pub returns-in-Ok-add_last-clause-trust : goal.returns-in-Ok-add_last-clause-trust
returns-in-Ok-add_last-clause-trust g c = λ is. c.in-Ok-add_last.ensures.trust (c.settle_headers.ensures.trust ∙ is)

pub returns-in-Ok-add_last-clause-whole : goal.returns-in-Ok-add_last-clause-whole
returns-in-Ok-add_last-clause-whole g c = c.in-Ok-add_last.ensures.whole

pub returns-in-Ok-add_last-clause-agreed : goal.returns-in-Ok-add_last-clause-agreed
returns-in-Ok-add_last-clause-agreed g c = tt

pub returns-in-Ok-add_last-clause-missed : goal.returns-in-Ok-add_last-clause-missed
returns-in-Ok-add_last-clause-missed g c = λ was. tt

pub returns-in-Ok-add_last-clause-finds : goal.returns-in-Ok-add_last-clause-finds
returns-in-Ok-add_last-clause-finds g c =
    then_finds c.args.core.now c.settle_headers.new.core c.add_last.new.core (g.S.Shelf.meaning c.args.shelf.now) (g.S.Shelf.meaning c.settle_headers.new.shelf) (g.S.Shelf.meaning c.add_last.new.shelf) c.settle_headers.ensures.finds c.add_last.ensures.finds

pub returns-in-Ok-add_last-clause-logs : goal.returns-in-Ok-add_last-clause-logs
returns-in-Ok-add_last-clause-logs g c =
    then_logs c.args.core.now.config c.settle_headers.new.core.config c.add_last.new.core.config (volumes_logs c.args.core.now.config c.settle_headers.new.core.config c.settle_headers.ensures.volumes) c.add_last.ensures.logs

pub returns-in-Ok-add_last-clause-cause : goal.returns-in-Ok-add_last-clause-cause
returns-in-Ok-add_last-clause-cause g c = tt

pub returns-then-unsettled-clause-stands : goal.returns-then-unsettled-clause-stands
returns-then-unsettled-clause-stands g c =
    mark_Stands c.add_last.new.core true (g.S.Shelf.meaning c.add_last.new.shelf) (λ off. absurd (let clash : true ≡ false = off in cc)) c.add_last.ensures.stands

pub returns-then-unsettled-clause-stays : goal.returns-then-unsettled-clause-stays
returns-then-unsettled-clause-stays g c =
    mark_stay c.args.core.now c.add_last.new.core true (g.S.Shelf.meaning c.args.shelf.now) (g.S.Shelf.meaning c.add_last.new.shelf)
    (later_stay c.args.core.now c.settle_headers.new.core (g.S.Shelf.meaning c.args.shelf.now) (g.S.Shelf.meaning c.settle_headers.new.shelf) (g.met.S.Shelf.lawful c.settle_headers.new.shelf) c.requires.stands c.settle_headers.ensures.stands c.settle_headers.ensures.narrows c.settle_headers.ensures.same c.add_last.new.core (g.S.Shelf.meaning c.add_last.new.shelf) (g.met.S.Shelf.lawful c.add_last.new.shelf) c.add_last.ensures.stays)

pub returns-then-unsettled-clause-adds : goal.returns-then-unsettled-clause-adds
returns-then-unsettled-clause-adds g c =
    subst (λ r. Adds c.args.core.now c.add_last.new.core c.args.next (g.S.Shelf.meaning c.add_last.new.shelf) r) c.in-Err-add_last.is
    (later_adds c.args.core.now c.settle_headers.new.core (g.S.Shelf.meaning c.args.shelf.now) (g.S.Shelf.meaning c.settle_headers.new.shelf) (g.met.S.Shelf.lawful c.settle_headers.new.shelf) c.requires.stands c.settle_headers.ensures.stands c.settle_headers.ensures.narrows c.settle_headers.ensures.same c.add_last.new.core (g.S.Shelf.meaning c.add_last.new.shelf) c.args.next _ refl c.add_last.result c.add_last.ensures.adds)

pub returns-then-unsettled-clause-up : goal.returns-then-unsettled-clause-up
returns-then-unsettled-clause-up g c = tt

pub returns-then-unsettled-clause-parts : goal.returns-then-unsettled-clause-parts
returns-then-unsettled-clause-parts g c =
    then_parts c.args.core.now.config c.settle_headers.new.core.config c.add_last.new.core.config (but_parts c.args.core.now.config c.settle_headers.new.core.config c.settle_headers.ensures.same) c.add_last.ensures.parts

pub returns-then-unsettled-clause-disks : goal.returns-then-unsettled-clause-disks
returns-then-unsettled-clause-disks g c =
    then_failing (g.S.Shelf.meaning c.args.shelf.now) (g.S.Shelf.meaning c.settle_headers.new.shelf) (g.S.Shelf.meaning c.add_last.new.shelf) c.settle_headers.ensures.narrows.acts.faults c.add_last.ensures.beside.faults
    c.args.core.now.config.disks c.settle_headers.new.core.config.disks c.add_last.new.core.config.disks c.settle_headers.ensures.failing c.add_last.ensures.disks

pub returns-then-unsettled-clause-newest : goal.returns-then-unsettled-clause-newest
returns-then-unsettled-clause-newest g c = tt

pub returns-then-unsettled-clause-beside : goal.returns-then-unsettled-clause-beside
returns-then-unsettled-clause-beside g c =
    begun_behind _ c.args.core.now.config c.settle_headers.new.core.config _ (g.S.Shelf.meaning c.args.shelf.now) (g.S.Shelf.meaning c.settle_headers.new.shelf) (g.S.Shelf.meaning c.add_last.new.shelf) c.settle_headers.ensures.volumes c.settle_headers.ensures.narrows.acts
    (subst (λ (ds : List DiskEntry). IsNextConfig c.settle_headers.new.core.config (record { serial = c.args.next.serial; site = c.args.next.site; disks = ds; volumes = c.args.next.volumes; rvg = c.args.next.rvg })) (sym c.copy-next.ensures)
    (later_next c.args.core.now c.settle_headers.new.core (g.S.Shelf.meaning c.args.shelf.now) (g.S.Shelf.meaning c.settle_headers.new.shelf) (g.met.S.Shelf.lawful c.settle_headers.new.shelf) c.requires.stands c.settle_headers.ensures.stands c.settle_headers.ensures.narrows c.settle_headers.ensures.same c.args.next c.requires.is_next))
    c.add_last.ensures.beside

pub returns-then-unsettled-clause-trust : goal.returns-then-unsettled-clause-trust
returns-then-unsettled-clause-trust g c = tt

pub returns-then-unsettled-clause-whole : goal.returns-then-unsettled-clause-whole
returns-then-unsettled-clause-whole g c = tt

pub returns-then-unsettled-clause-agreed : goal.returns-then-unsettled-clause-agreed
returns-then-unsettled-clause-agreed g c = λ is. c.in-Err-add_last.ensures.agreed (c.settle_headers.ensures.trust ∙ is)

pub returns-then-unsettled-clause-missed : goal.returns-then-unsettled-clause-missed
returns-then-unsettled-clause-missed g c = λ was. refl

pub returns-then-unsettled-clause-finds : goal.returns-then-unsettled-clause-finds
returns-then-unsettled-clause-finds g c =
    mark_finds c.args.core.now c.add_last.new.core true (g.S.Shelf.meaning c.args.shelf.now) (g.S.Shelf.meaning c.add_last.new.shelf)
    (then_finds c.args.core.now c.settle_headers.new.core c.add_last.new.core (g.S.Shelf.meaning c.args.shelf.now) (g.S.Shelf.meaning c.settle_headers.new.shelf) (g.S.Shelf.meaning c.add_last.new.shelf) c.settle_headers.ensures.finds c.add_last.ensures.finds)
    (λ openly is. c.in-Err-add_last.ensures.off (c.settle_headers.ensures.trust ∙ openly c.if-unsettled.true))

pub returns-then-unsettled-clause-logs : goal.returns-then-unsettled-clause-logs
returns-then-unsettled-clause-logs g c =
    then_logs c.args.core.now.config c.settle_headers.new.core.config c.add_last.new.core.config (volumes_logs c.args.core.now.config c.settle_headers.new.core.config c.settle_headers.ensures.volumes) c.add_last.ensures.logs

pub returns-then-unsettled-clause-cause : goal.returns-then-unsettled-clause-cause
returns-then-unsettled-clause-cause g c =
    subst (λ r. StopsByDevice (g.S.Shelf.meaning c.args.shelf.now) (g.S.Shelf.meaning c.add_last.new.shelf) r) c.in-Err-add_last.is
    (stops_later c.add_last.result (g.S.Shelf.meaning c.args.shelf.now) (g.S.Shelf.meaning c.settle_headers.new.shelf) (g.S.Shelf.meaning c.add_last.new.shelf) c.settle_headers.ensures.narrows.acts.disk_faults c.add_last.ensures.cause)

pub returns-else-unsettled-clause-stands : goal.returns-else-unsettled-clause-stands
returns-else-unsettled-clause-stands g c = c.add_last.ensures.stands

pub returns-else-unsettled-clause-stays : goal.returns-else-unsettled-clause-stays
returns-else-unsettled-clause-stays g c =
    later_stay c.args.core.now c.settle_headers.new.core (g.S.Shelf.meaning c.args.shelf.now) (g.S.Shelf.meaning c.settle_headers.new.shelf) (g.met.S.Shelf.lawful c.settle_headers.new.shelf) c.requires.stands c.settle_headers.ensures.stands c.settle_headers.ensures.narrows c.settle_headers.ensures.same c.add_last.new.core (g.S.Shelf.meaning c.add_last.new.shelf) (g.met.S.Shelf.lawful c.add_last.new.shelf) c.add_last.ensures.stays

pub returns-else-unsettled-clause-adds : goal.returns-else-unsettled-clause-adds
returns-else-unsettled-clause-adds g c =
    subst (λ r. Adds c.args.core.now c.add_last.new.core c.args.next (g.S.Shelf.meaning c.add_last.new.shelf) r) c.in-Err-add_last.is
    (later_adds c.args.core.now c.settle_headers.new.core (g.S.Shelf.meaning c.args.shelf.now) (g.S.Shelf.meaning c.settle_headers.new.shelf) (g.met.S.Shelf.lawful c.settle_headers.new.shelf) c.requires.stands c.settle_headers.ensures.stands c.settle_headers.ensures.narrows c.settle_headers.ensures.same c.add_last.new.core (g.S.Shelf.meaning c.add_last.new.shelf) c.args.next _ refl c.add_last.result c.add_last.ensures.adds)

pub returns-else-unsettled-clause-up : goal.returns-else-unsettled-clause-up
returns-else-unsettled-clause-up g c = tt

pub returns-else-unsettled-clause-parts : goal.returns-else-unsettled-clause-parts
returns-else-unsettled-clause-parts g c =
    then_parts c.args.core.now.config c.settle_headers.new.core.config c.add_last.new.core.config (but_parts c.args.core.now.config c.settle_headers.new.core.config c.settle_headers.ensures.same) c.add_last.ensures.parts

pub returns-else-unsettled-clause-disks : goal.returns-else-unsettled-clause-disks
returns-else-unsettled-clause-disks g c =
    then_failing (g.S.Shelf.meaning c.args.shelf.now) (g.S.Shelf.meaning c.settle_headers.new.shelf) (g.S.Shelf.meaning c.add_last.new.shelf) c.settle_headers.ensures.narrows.acts.faults c.add_last.ensures.beside.faults
    c.args.core.now.config.disks c.settle_headers.new.core.config.disks c.add_last.new.core.config.disks c.settle_headers.ensures.failing c.add_last.ensures.disks

pub returns-else-unsettled-clause-newest : goal.returns-else-unsettled-clause-newest
returns-else-unsettled-clause-newest g c = tt

pub returns-else-unsettled-clause-beside : goal.returns-else-unsettled-clause-beside
returns-else-unsettled-clause-beside g c =
    begun_behind _ c.args.core.now.config c.settle_headers.new.core.config _ (g.S.Shelf.meaning c.args.shelf.now) (g.S.Shelf.meaning c.settle_headers.new.shelf) (g.S.Shelf.meaning c.add_last.new.shelf) c.settle_headers.ensures.volumes c.settle_headers.ensures.narrows.acts
    (subst (λ (ds : List DiskEntry). IsNextConfig c.settle_headers.new.core.config (record { serial = c.args.next.serial; site = c.args.next.site; disks = ds; volumes = c.args.next.volumes; rvg = c.args.next.rvg })) (sym c.copy-next.ensures)
    (later_next c.args.core.now c.settle_headers.new.core (g.S.Shelf.meaning c.args.shelf.now) (g.S.Shelf.meaning c.settle_headers.new.shelf) (g.met.S.Shelf.lawful c.settle_headers.new.shelf) c.requires.stands c.settle_headers.ensures.stands c.settle_headers.ensures.narrows c.settle_headers.ensures.same c.args.next c.requires.is_next))
    c.add_last.ensures.beside

pub returns-else-unsettled-clause-trust : goal.returns-else-unsettled-clause-trust
returns-else-unsettled-clause-trust g c = tt

pub returns-else-unsettled-clause-whole : goal.returns-else-unsettled-clause-whole
returns-else-unsettled-clause-whole g c = tt

pub returns-else-unsettled-clause-agreed : goal.returns-else-unsettled-clause-agreed
returns-else-unsettled-clause-agreed g c = λ is. c.in-Err-add_last.ensures.agreed (c.settle_headers.ensures.trust ∙ is)

pub returns-else-unsettled-clause-missed : goal.returns-else-unsettled-clause-missed
returns-else-unsettled-clause-missed g c = λ was. absurd (let clash : true ≡ false = sym was ∙ c.if-unsettled.false in cc)

pub returns-else-unsettled-clause-finds : goal.returns-else-unsettled-clause-finds
returns-else-unsettled-clause-finds g c =
    then_finds c.args.core.now c.settle_headers.new.core c.add_last.new.core (g.S.Shelf.meaning c.args.shelf.now) (g.S.Shelf.meaning c.settle_headers.new.shelf) (g.S.Shelf.meaning c.add_last.new.shelf) c.settle_headers.ensures.finds c.add_last.ensures.finds

pub returns-else-unsettled-clause-logs : goal.returns-else-unsettled-clause-logs
returns-else-unsettled-clause-logs g c =
    then_logs c.args.core.now.config c.settle_headers.new.core.config c.add_last.new.core.config (volumes_logs c.args.core.now.config c.settle_headers.new.core.config c.settle_headers.ensures.volumes) c.add_last.ensures.logs

pub returns-else-unsettled-clause-cause : goal.returns-else-unsettled-clause-cause
returns-else-unsettled-clause-cause g c =
    subst (λ r. StopsByDevice (g.S.Shelf.meaning c.args.shelf.now) (g.S.Shelf.meaning c.add_last.new.shelf) r) c.in-Err-add_last.is
    (stops_later c.add_last.result (g.S.Shelf.meaning c.args.shelf.now) (g.S.Shelf.meaning c.settle_headers.new.shelf) (g.S.Shelf.meaning c.add_last.new.shelf) c.settle_headers.ensures.narrows.acts.disk_faults c.add_last.ensures.cause)

pub returns-in-Err-clause-missed : goal.returns-in-Err-clause-missed
returns-in-Err-clause-missed g c = λ was. c.in-Err.ensures.missed

pub returns-in-Err-clause-settles : goal.returns-in-Err-clause-settles
returns-in-Err-clause-settles g c =
    headers_missed c.args.core.now c.settle_headers.new.core (g.S.Shelf.meaning c.args.shelf.now) (g.S.Shelf.meaning c.settle_headers.new.shelf) c.requires.stands c.settle_headers.ensures.narrows c.settle_headers.ensures.serial c.settle_headers.ensures.less c.in-Err.ensures.missed

pub returns-in-Ok-add_last-clause-settles : goal.returns-in-Ok-add_last-clause-settles
returns-in-Ok-add_last-clause-settles g c = made_told c.args.core.now c.settle_headers.new.core _ (g.S.Shelf.meaning c.args.shelf.now) (g.S.Shelf.meaning c.settle_headers.new.shelf) (g.S.Shelf.meaning c.add_last.new.shelf) c.requires.stands c.requires.up c.requires.more c.settle_headers.ensures.narrows c.settle_headers.ensures.less c.add_last.ensures.alikes c.in-Ok-add_last.ensures.dones

pub returns-then-unsettled-clause-settles : goal.returns-then-unsettled-clause-settles
returns-then-unsettled-clause-settles g c = made_marked c.args.core.now c.settle_headers.new.core _ (g.S.Shelf.meaning c.args.shelf.now) (g.S.Shelf.meaning c.settle_headers.new.shelf) (g.S.Shelf.meaning c.add_last.new.shelf) c.requires.stands c.requires.up c.requires.more c.settle_headers.ensures.narrows c.settle_headers.ensures.less c.add_last.ensures.alikes refl

pub returns-else-unsettled-clause-settles : goal.returns-else-unsettled-clause-settles
returns-else-unsettled-clause-settles g c = made_missed c.args.core.now c.settle_headers.new.core _ (g.S.Shelf.meaning c.args.shelf.now) (g.S.Shelf.meaning c.settle_headers.new.shelf) (g.S.Shelf.meaning c.add_last.new.shelf) c.requires.stands c.requires.up c.requires.more c.settle_headers.ensures.narrows c.settle_headers.ensures.less c.add_last.ensures.alikes c.if-unsettled.false c.add_last.ensures.nones
