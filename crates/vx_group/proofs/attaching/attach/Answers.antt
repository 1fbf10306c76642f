-- `attach`: clauses attaches, ends, cause, failing and count; what `copy_to` and `commit_open` ask.
use Rattle.std.proofs.Common.{◌<◌, ℕ, inl, Err, ◌∙◌, arith, ap}
use Rattle.std.specs.Prelude.{None}
use Rattle.std.specs.Option.{option_copied}
use Rattle.vx_config.specs.Table.{greatest}
use Rattle.vx_kept.proofs.Chosen.{active_volumes}
use Rattle.vx_group.proofs.AttachLemmas.{has_other, narrows_attaches, then_attaches}
use Rattle.vx_group.proofs.CallLemmas.{blames_later}
use Rattle.vx_group.proofs.FailingLemmas.{no_failing, then_failing}
use Rattle.vx_group.proofs.MissingLemmas.{mark_Stands, mark_attaches, mark_finds}
use Rattle.vx_group.proofs.MissLemmas.{count_volumes, knows_later, narrows_reads, same_count}
use Rattle.vx_group.proofs.OpeningLemmas.{present, same_may}
use Rattle.vx_group.proofs.Standing.{some_active, sound_of}
use Rattle.vx_group.proofs.FindingLemmas.{before_ends, behind_finds, stays_finds, then_finds}
use Rattle.vx_kept.specs.Cleans.{at_serial}
use Rattle.vx_group.specs.declared.inner.Inner.{Inner}
use Rattle.vx_group.proofs.SettleCalls.{headers_missed}
use Rattle.vx_group.proofs.SettleMore.{copied_ends, copied_missed, copy_less}
use Rattle.vx_group.proofs.attaching.attach.Goals as goal
use Rattle.vx_group.proofs.TrustStillLemmas.{then_logs, volumes_logs}
use Rattle.vx_group.proofs.LoseLemmas.{but_parts}

pub returns-in-Err-clause-attaches : goal.returns-in-Err-clause-attaches
returns-in-Err-clause-attaches g c =
    narrows_attaches c.args.vol c.args.plex (option_copied c.args.fmr) c.args.core.now c.settle_headers.new.core (g.S.Shelf.meaning c.args.shelf.now) (g.S.Shelf.meaning c.settle_headers.new.shelf) (g.met.S.Shelf.lawful c.settle_headers.new.shelf) c.requires.stands c.settle_headers.ensures.narrows (but_parts c.args.core.now.config c.settle_headers.new.core.config c.settle_headers.ensures.same)
    (λ w q apart. active_volumes c.settle_headers.new.core.config c.args.core.now.config c.settle_headers.ensures.volumes w q)

pub returns-in-Err-clause-ends : goal.returns-in-Err-clause-ends
returns-in-Err-clause-ends g c = inl (active_volumes c.settle_headers.new.core.config c.args.core.now.config c.settle_headers.ensures.volumes c.args.vol c.args.plex ∙ c.requires.off)

pub copy_to-requires-clause-may : goal.copy_to-requires-clause-may
copy_to-requires-clause-may g c = same_may c.args.core.now.config c.settle_headers.new.core.config c.args.vol c.args.plex c.settle_headers.ensures.volumes c.settle_headers.ensures.serial c.requires.may

pub copy_to-requires-clause-off : goal.copy_to-requires-clause-off
copy_to-requires-clause-off g c = active_volumes c.settle_headers.new.core.config c.args.core.now.config c.settle_headers.ensures.volumes c.args.vol c.args.plex ∙ c.requires.off

pub returns-in-Err-copy_to-clause-attaches : goal.returns-in-Err-copy_to-clause-attaches
returns-in-Err-copy_to-clause-attaches g c =
    mark_attaches c.args.vol c.args.plex (option_copied c.args.fmr) c.args.core.now c.copy_to.new.core c.args.core.now.unsettled (g.S.Shelf.meaning c.args.shelf.now) (g.S.Shelf.meaning c.copy_to.new.shelf)
    (then_attaches c.args.vol c.args.plex (option_copied c.args.fmr) c.args.core.now c.settle_headers.new.core c.copy_to.new.core (g.S.Shelf.meaning c.args.shelf.now) (g.S.Shelf.meaning c.settle_headers.new.shelf) (g.S.Shelf.meaning c.copy_to.new.shelf)
    (narrows_attaches c.args.vol c.args.plex (option_copied c.args.fmr) c.args.core.now c.settle_headers.new.core (g.S.Shelf.meaning c.args.shelf.now) (g.S.Shelf.meaning c.settle_headers.new.shelf) (g.met.S.Shelf.lawful c.settle_headers.new.shelf) c.requires.stands c.settle_headers.ensures.narrows (but_parts c.args.core.now.config c.settle_headers.new.core.config c.settle_headers.ensures.same)
    (λ w q apart. active_volumes c.settle_headers.new.core.config c.args.core.now.config c.settle_headers.ensures.volumes w q))
    c.copy_to.ensures.attaches)

pub returns-in-Err-copy_to-clause-ends : goal.returns-in-Err-copy_to-clause-ends
returns-in-Err-copy_to-clause-ends g c = inl c.in-Err-copy_to.ensures.opens

pub returns-in-Err-copy_to-clause-cause : goal.returns-in-Err-copy_to-clause-cause
returns-in-Err-copy_to-clause-cause g c =
    blames_later {T = ℕ} (Err c.in-Err-copy_to.error) (g.S.Shelf.meaning c.args.shelf.now) (g.S.Shelf.meaning c.settle_headers.new.shelf) (g.S.Shelf.meaning c.copy_to.new.shelf) c.settle_headers.ensures.narrows.acts.disk_faults c.in-Err-copy_to.ensures.cause

pub commit_open-requires-clause-settled : goal.commit_open-requires-clause-settled
commit_open-requires-clause-settled g c = c.copy_to.ensures.settled ∙ c.in-Ok.ensures.settled

pub commit_open-requires-clause-more : goal.commit_open-requires-clause-more
commit_open-requires-clause-more g c =
    let less : c.args.core.now.config.serial < greatest = c.requires.may.more in
    let same = c.copy_to.ensures.serial ∙ c.settle_headers.ensures.serial in
    omega (arith, less, same)

pub commit_open-requires-clause-is_on : goal.commit_open-requires-clause-is_on
commit_open-requires-clause-is_on g c = c.in-Ok-copy_to.ensures.opens

pub commit_open-requires-clause-other : goal.commit_open-requires-clause-other
commit_open-requires-clause-other g c =
    has_other c.settle_headers.new.core.config c.copy_to.new.core.config c.args.vol c.args.plex
    (some_active c.settle_headers.new.core (g.S.Shelf.meaning c.settle_headers.new.shelf) c.settle_headers.ensures.stands c.args.vol
    (same_may c.args.core.now.config c.settle_headers.new.core.config c.args.vol c.args.plex c.settle_headers.ensures.volumes c.settle_headers.ensures.serial c.requires.may).volume)
    (active_volumes c.settle_headers.new.core.config c.args.core.now.config c.settle_headers.ensures.volumes c.args.vol c.args.plex ∙ c.requires.off)
    c.copy_to.ensures.attaches.others

pub returns-clause-attaches : goal.returns-clause-attaches
returns-clause-attaches g c =
    then_attaches c.args.vol c.args.plex (option_copied c.args.fmr) c.args.core.now c.settle_headers.new.core c.commit_open.new.core (g.S.Shelf.meaning c.args.shelf.now) (g.S.Shelf.meaning c.settle_headers.new.shelf) (g.S.Shelf.meaning c.commit_open.new.shelf)
    (narrows_attaches c.args.vol c.args.plex (option_copied c.args.fmr) c.args.core.now c.settle_headers.new.core (g.S.Shelf.meaning c.args.shelf.now) (g.S.Shelf.meaning c.settle_headers.new.shelf) (g.met.S.Shelf.lawful c.settle_headers.new.shelf) c.requires.stands c.settle_headers.ensures.narrows (but_parts c.args.core.now.config c.settle_headers.new.core.config c.settle_headers.ensures.same)
    (λ w q apart. active_volumes c.settle_headers.new.core.config c.args.core.now.config c.settle_headers.ensures.volumes w q))
    (then_attaches c.args.vol c.args.plex (option_copied c.args.fmr) c.settle_headers.new.core c.copy_to.new.core c.commit_open.new.core (g.S.Shelf.meaning c.settle_headers.new.shelf) (g.S.Shelf.meaning c.copy_to.new.shelf) (g.S.Shelf.meaning c.commit_open.new.shelf) c.copy_to.ensures.attaches (c.commit_open.ensures.attaches (option_copied c.args.fmr)))

pub returns-clause-cause : goal.returns-clause-cause
returns-clause-cause g c =
    blames_later c.commit_open.result (g.S.Shelf.meaning c.args.shelf.now) (g.S.Shelf.meaning c.settle_headers.new.shelf) (g.S.Shelf.meaning c.commit_open.new.shelf) c.settle_headers.ensures.narrows.acts.disk_faults
    (blames_later c.commit_open.result (g.S.Shelf.meaning c.settle_headers.new.shelf) (g.S.Shelf.meaning c.copy_to.new.shelf) (g.S.Shelf.meaning c.commit_open.new.shelf) c.copy_to.ensures.attaches.acts.disk_faults c.commit_open.ensures.cause)

pub returns-in-Err-copy_to-clause-failing : goal.returns-in-Err-copy_to-clause-failing
returns-in-Err-copy_to-clause-failing g c =
    then_failing (g.S.Shelf.meaning c.args.shelf.now) (g.S.Shelf.meaning c.settle_headers.new.shelf) (g.S.Shelf.meaning c.copy_to.new.shelf) c.settle_headers.ensures.narrows.acts.faults c.copy_to.ensures.attaches.acts.faults
    c.args.core.now.config.disks c.settle_headers.new.core.config.disks c.copy_to.new.core.config.disks c.settle_headers.ensures.failing
    (no_failing (g.S.Shelf.meaning c.settle_headers.new.shelf) (g.S.Shelf.meaning c.copy_to.new.shelf) c.settle_headers.new.core.config.disks c.copy_to.new.core.config.disks c.copy_to.ensures.disks)

pub returns-clause-failing : goal.returns-clause-failing
returns-clause-failing g c =
    then_failing (g.S.Shelf.meaning c.args.shelf.now) (g.S.Shelf.meaning c.copy_to.new.shelf) (g.S.Shelf.meaning c.commit_open.new.shelf)
    (λ u. let one = c.settle_headers.ensures.narrows.acts.faults u in let two = c.copy_to.ensures.attaches.acts.faults u in omega (arith, one, two)) (c.commit_open.ensures.attaches None).acts.faults
    c.args.core.now.config.disks c.copy_to.new.core.config.disks c.commit_open.new.core.config.disks
    (then_failing (g.S.Shelf.meaning c.args.shelf.now) (g.S.Shelf.meaning c.settle_headers.new.shelf) (g.S.Shelf.meaning c.copy_to.new.shelf) c.settle_headers.ensures.narrows.acts.faults c.copy_to.ensures.attaches.acts.faults
    c.args.core.now.config.disks c.settle_headers.new.core.config.disks c.copy_to.new.core.config.disks c.settle_headers.ensures.failing
    (no_failing (g.S.Shelf.meaning c.settle_headers.new.shelf) (g.S.Shelf.meaning c.copy_to.new.shelf) c.settle_headers.new.core.config.disks c.copy_to.new.core.config.disks c.copy_to.ensures.disks))
    c.commit_open.ensures.failing

pub copy_to-requires-clause-knows : goal.copy_to-requires-clause-knows
copy_to-requires-clause-knows g c =
    knows_later c.args.core.now.config c.settle_headers.new.core.config c.args.vol c.args.plex (option_copied c.args.fmr) (g.S.Shelf.meaning c.args.shelf.now) (g.S.Shelf.meaning c.settle_headers.new.shelf)
    (present c.settle_headers.new.core.config c.args.vol c.args.plex (same_may c.args.core.now.config c.settle_headers.new.core.config c.args.vol c.args.plex c.settle_headers.ensures.volumes c.settle_headers.ensures.serial c.requires.may)) (sound_of c.settle_headers.new.core (g.S.Shelf.meaning c.settle_headers.new.shelf) c.settle_headers.ensures.stands) c.settle_headers.ensures.volumes
    (narrows_reads c.args.core.now c.settle_headers.new.core (g.S.Shelf.meaning c.args.shelf.now) (g.S.Shelf.meaning c.settle_headers.new.shelf) c.settle_headers.ensures.narrows c.in-Ok.ensures.cause) c.requires.knows

pub returns-clause-count : goal.returns-clause-count
returns-clause-count g c =
    same_count _ _ c.commit_open.result c.commit_open.ensures.count (count_volumes c.args.core.now.config c.settle_headers.new.core.config c.args.vol c.args.plex _ (option_copied c.args.fmr) c.settle_headers.ensures.volumes c.in-Ok-copy_to.ensures.count)

pub returns-in-Err-clause-finds : goal.returns-in-Err-clause-finds
returns-in-Err-clause-finds g c =
    c.settle_headers.ensures.finds

pub returns-in-Err-copy_to-clause-finds : goal.returns-in-Err-copy_to-clause-finds
returns-in-Err-copy_to-clause-finds g c =
    mark_finds c.args.core.now c.copy_to.new.core c.args.core.now.unsettled (g.S.Shelf.meaning c.args.shelf.now) (g.S.Shelf.meaning c.copy_to.new.shelf)
    (then_finds c.args.core.now c.settle_headers.new.core c.copy_to.new.core (g.S.Shelf.meaning c.args.shelf.now) (g.S.Shelf.meaning c.settle_headers.new.shelf) (g.S.Shelf.meaning c.copy_to.new.shelf) c.settle_headers.ensures.finds
    (stays_finds c.settle_headers.new.core c.copy_to.new.core (g.S.Shelf.meaning c.settle_headers.new.shelf) (g.S.Shelf.meaning c.copy_to.new.shelf) (ap (λ (x : Inner). at_serial 0 x.config) c.in-Err-copy_to.ensures.same) c.copy_to.ensures.trust c.copy_to.ensures.settled c.copy_to.ensures.less))
    (λ openly is. c.copy_to.ensures.trust ∙ c.settle_headers.ensures.trust ∙ openly is)

pub returns-clause-finds : goal.returns-clause-finds
returns-clause-finds g c =
    behind_finds c.args.core.now c.settle_headers.new.core c.commit_open.new.core (g.S.Shelf.meaning c.args.shelf.now) (g.S.Shelf.meaning c.settle_headers.new.shelf) (g.S.Shelf.meaning c.commit_open.new.shelf) c.settle_headers.ensures.finds
    (before_ends c.commit_open.new.core (g.S.Shelf.meaning c.settle_headers.new.shelf) (g.S.Shelf.meaning c.copy_to.new.shelf) (g.S.Shelf.meaning c.commit_open.new.shelf) c.copy_to.ensures.less c.commit_open.ensures.finds)

pub returns-in-Err-clause-logs : goal.returns-in-Err-clause-logs
returns-in-Err-clause-logs g c = volumes_logs c.args.core.now.config c.settle_headers.new.core.config c.settle_headers.ensures.volumes

pub returns-in-Err-copy_to-clause-logs : goal.returns-in-Err-copy_to-clause-logs
returns-in-Err-copy_to-clause-logs g c =
    then_logs c.args.core.now.config c.settle_headers.new.core.config c.copy_to.new.core.config (volumes_logs c.args.core.now.config c.settle_headers.new.core.config c.settle_headers.ensures.volumes) c.copy_to.ensures.logs

pub returns-clause-logs : goal.returns-clause-logs
returns-clause-logs g c =
    then_logs c.args.core.now.config c.settle_headers.new.core.config c.commit_open.new.core.config (volumes_logs c.args.core.now.config c.settle_headers.new.core.config c.settle_headers.ensures.volumes) (then_logs c.settle_headers.new.core.config c.copy_to.new.core.config c.commit_open.new.core.config c.copy_to.ensures.logs c.commit_open.ensures.logs)

pub returns-in-Err-copy_to-clause-stands : goal.returns-in-Err-copy_to-clause-stands
returns-in-Err-copy_to-clause-stands g c =
    mark_Stands c.copy_to.new.core c.args.core.now.unsettled (g.S.Shelf.meaning c.copy_to.new.shelf) (λ off. c.copy_to.ensures.settled ∙ c.in-Ok.ensures.settled) c.copy_to.ensures.stands

pub returns-in-Err-clause-missed : goal.returns-in-Err-clause-missed
returns-in-Err-clause-missed g c = λ was. inl (inl c.in-Err.ensures.missed)

pub returns-in-Err-copy_to-clause-missed : goal.returns-in-Err-copy_to-clause-missed
returns-in-Err-copy_to-clause-missed g c = λ was. inl (inl was)

pub returns-clause-missed : goal.returns-clause-missed
returns-clause-missed g c = λ was. c.commit_open.ensures.missed

pub returns-in-Err-clause-settles : goal.returns-in-Err-clause-settles
returns-in-Err-clause-settles g c =
    headers_missed c.args.core.now c.settle_headers.new.core (g.S.Shelf.meaning c.args.shelf.now) (g.S.Shelf.meaning c.settle_headers.new.shelf) c.requires.stands c.settle_headers.ensures.narrows c.settle_headers.ensures.serial c.settle_headers.ensures.less c.in-Err.ensures.missed

pub returns-in-Err-copy_to-clause-settles : goal.returns-in-Err-copy_to-clause-settles
returns-in-Err-copy_to-clause-settles g c =
    copied_missed c.args.core.now c.settle_headers.new.core (g.S.Shelf.meaning c.args.shelf.now) (g.S.Shelf.meaning c.settle_headers.new.shelf) (g.S.Shelf.meaning c.copy_to.new.shelf) c.requires.stands c.settle_headers.ensures.narrows c.settle_headers.ensures.less c.settle_headers.ensures.stands
    (copy_less c.settle_headers.new.core.config c.args.vol c.args.plex (option_copied c.args.fmr)
    (present c.settle_headers.new.core.config c.args.vol c.args.plex (same_may c.args.core.now.config c.settle_headers.new.core.config c.args.vol c.args.plex c.settle_headers.ensures.volumes c.settle_headers.ensures.serial c.requires.may)) (sound_of c.settle_headers.new.core (g.S.Shelf.meaning c.settle_headers.new.shelf) c.settle_headers.ensures.stands)
    (active_volumes c.settle_headers.new.core.config c.args.core.now.config c.settle_headers.ensures.volumes c.args.vol c.args.plex ∙ c.requires.off) (g.S.Shelf.meaning c.settle_headers.new.shelf) (g.S.Shelf.meaning c.copy_to.new.shelf) c.copy_to.ensures.attaches.acts) c.copy_to.ensures.less
    c.copy_to.new.core c.requires.up (c.copy_to.ensures.serial ∙ c.settle_headers.ensures.serial)

pub returns-clause-settles : goal.returns-clause-settles
returns-clause-settles g c =
    copied_ends c.args.core.now c.settle_headers.new.core (g.S.Shelf.meaning c.args.shelf.now) (g.S.Shelf.meaning c.settle_headers.new.shelf) (g.S.Shelf.meaning c.copy_to.new.shelf) c.requires.stands c.settle_headers.ensures.narrows c.settle_headers.ensures.less c.settle_headers.ensures.stands
    (copy_less c.settle_headers.new.core.config c.args.vol c.args.plex (option_copied c.args.fmr)
    (present c.settle_headers.new.core.config c.args.vol c.args.plex (same_may c.args.core.now.config c.settle_headers.new.core.config c.args.vol c.args.plex c.settle_headers.ensures.volumes c.settle_headers.ensures.serial c.requires.may)) (sound_of c.settle_headers.new.core (g.S.Shelf.meaning c.settle_headers.new.shelf) c.settle_headers.ensures.stands)
    (active_volumes c.settle_headers.new.core.config c.args.core.now.config c.settle_headers.ensures.volumes c.args.vol c.args.plex ∙ c.requires.off) (g.S.Shelf.meaning c.settle_headers.new.shelf) (g.S.Shelf.meaning c.copy_to.new.shelf) c.copy_to.ensures.attaches.acts) c.copy_to.ensures.less
    c.commit_open.new.core (g.S.Shelf.meaning c.commit_open.new.shelf) c.requires.may.more c.commit_open.ensures.settles
