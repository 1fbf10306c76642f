-- `take_back`: clauses attaches, off and failing; what `detach` asks; that each place lies within.
use Rattle.std.proofs.Common.{◌∙◌, inl, inr, refl, sym}
use Rattle.vx_volume.proofs.PlaceLemmas.{active_few}
use Rattle.vx_kept.proofs.Chosen.{active_volumes}
use Rattle.vx_group.proofs.AttachLemmas.{narrows_attaches, other_left, then_attaches}
use Rattle.vx_group.proofs.DetLemmas.{bit_here, bit_only, left_volumes, on_volumes, one_on}
use Rattle.vx_group.proofs.SourcesLemmas.{no_attaches}
use Rattle.vx_group.proofs.FailingLemmas.{no_failing, then_failing}
use Rattle.vx_group.proofs.Standing.{sound_of}
use Rattle.vx_group.proofs.FindingLemmas.{behind_finds, none_finds}
use Rattle.vx_group.proofs.SettleMore.{behind_kept, missed_kept, still_kept}
use Rattle.vx_group.proofs.CallLemmas.{not_down}
use Rattle.vx_group.proofs.attaching.take_back.Goals as goal
use Rattle.vx_group.proofs.TrustStillLemmas.{same_logs, then_logs, volumes_logs}
use Rattle.vx_group.proofs.LoseLemmas.{but_parts}

pub returns-in-Err-clause-attaches : goal.returns-in-Err-clause-attaches
returns-in-Err-clause-attaches g c = λ map.
    narrows_attaches c.args.vol c.args.plex map c.args.core.now c.settle_headers.new.core (g.S.Shelf.meaning c.args.shelf.now) (g.S.Shelf.meaning c.settle_headers.new.shelf) (g.met.S.Shelf.lawful c.settle_headers.new.shelf) c.requires.stands c.settle_headers.ensures.narrows (but_parts c.args.core.now.config c.settle_headers.new.core.config c.settle_headers.ensures.same)
    (λ w q apart. active_volumes c.settle_headers.new.core.config c.args.core.now.config c.settle_headers.ensures.volumes w q)

pub bounds-flags-plex : goal.bounds-flags-plex
bounds-flags-plex g c = active_few c.args.core.now.config (sound_of c.args.core.now (g.S.Shelf.meaning c.args.shelf.now) c.requires.stands) c.args.vol c.args.plex c.requires.is_on

pub detach-requires-clause-left : goal.detach-requires-clause-left
detach-requires-clause-left g c = λ lt.
    left_volumes c.args.core.now.config c.settle_headers.new.core.config c.args.vol c.set_of-set.result c.settle_headers.ensures.volumes
    (other_left c.args.core.now.config c.args.vol c.args.plex c.set_of-set.result (active_few c.args.core.now.config (sound_of c.args.core.now (g.S.Shelf.meaning c.args.shelf.now) c.requires.stands) c.args.vol c.args.plex c.requires.is_on) c.set_of-set.ensures c.requires.other)

pub detach-requires-clause-those : goal.detach-requires-clause-those
detach-requires-clause-those g c =
    on_volumes c.args.core.now.config c.settle_headers.new.core.config c.args.vol c.set_of-set.result c.settle_headers.ensures.volumes
    (one_on c.args.plex c.set_of-set.result (active_few c.args.core.now.config (sound_of c.args.core.now (g.S.Shelf.meaning c.args.shelf.now) c.requires.stands) c.args.vol c.args.plex c.requires.is_on) c.set_of-set.ensures c.args.core.now.config c.args.vol c.requires.is_on)

pub returns-in-Ok-detach-clause-attaches : goal.returns-in-Ok-detach-clause-attaches
returns-in-Ok-detach-clause-attaches g c = λ map.
    then_attaches c.args.vol c.args.plex map c.args.core.now c.settle_headers.new.core c.detach.new.core (g.S.Shelf.meaning c.args.shelf.now) (g.S.Shelf.meaning c.settle_headers.new.shelf) (g.S.Shelf.meaning c.detach.new.shelf)
    (narrows_attaches c.args.vol c.args.plex map c.args.core.now c.settle_headers.new.core (g.S.Shelf.meaning c.args.shelf.now) (g.S.Shelf.meaning c.settle_headers.new.shelf) (g.met.S.Shelf.lawful c.settle_headers.new.shelf) c.requires.stands c.settle_headers.ensures.narrows (but_parts c.args.core.now.config c.settle_headers.new.core.config c.settle_headers.ensures.same)
    (λ w q apart. active_volumes c.settle_headers.new.core.config c.args.core.now.config c.settle_headers.ensures.volumes w q))
    (narrows_attaches c.args.vol c.args.plex map c.settle_headers.new.core c.detach.new.core (g.S.Shelf.meaning c.settle_headers.new.shelf) (g.S.Shelf.meaning c.detach.new.shelf) (g.met.S.Shelf.lawful c.detach.new.shelf) c.settle_headers.ensures.stands c.detach.ensures.narrows c.detach.ensures.parts
    (λ w q apart. c.detach.ensures.others w q (λ same bit. apart same (bit_only c.args.plex c.set_of-set.result (active_few c.args.core.now.config (sound_of c.args.core.now (g.S.Shelf.meaning c.args.shelf.now) c.requires.stands) c.args.vol c.args.plex c.requires.is_on) c.set_of-set.ensures q bit))))

pub returns-in-Ok-detach-clause-off : goal.returns-in-Ok-detach-clause-off
returns-in-Ok-detach-clause-off g c = inl (c.in-Ok-detach.ensures.off.each c.args.plex (bit_here c.args.plex c.set_of-set.result (active_few c.args.core.now.config (sound_of c.args.core.now (g.S.Shelf.meaning c.args.shelf.now) c.requires.stands) c.args.vol c.args.plex c.requires.is_on) c.set_of-set.ensures))

pub returns-in-Err-detach-clause-attaches : goal.returns-in-Err-detach-clause-attaches
returns-in-Err-detach-clause-attaches g c = λ map.
    then_attaches c.args.vol c.args.plex map c.args.core.now c.settle_headers.new.core c.detach.new.core (g.S.Shelf.meaning c.args.shelf.now) (g.S.Shelf.meaning c.settle_headers.new.shelf) (g.S.Shelf.meaning c.detach.new.shelf)
    (narrows_attaches c.args.vol c.args.plex map c.args.core.now c.settle_headers.new.core (g.S.Shelf.meaning c.args.shelf.now) (g.S.Shelf.meaning c.settle_headers.new.shelf) (g.met.S.Shelf.lawful c.settle_headers.new.shelf) c.requires.stands c.settle_headers.ensures.narrows (but_parts c.args.core.now.config c.settle_headers.new.core.config c.settle_headers.ensures.same)
    (λ w q apart. active_volumes c.settle_headers.new.core.config c.args.core.now.config c.settle_headers.ensures.volumes w q))
    (narrows_attaches c.args.vol c.args.plex map c.settle_headers.new.core c.detach.new.core (g.S.Shelf.meaning c.settle_headers.new.shelf) (g.S.Shelf.meaning c.detach.new.shelf) (g.met.S.Shelf.lawful c.detach.new.shelf) c.settle_headers.ensures.stands c.detach.ensures.narrows c.detach.ensures.parts
    (λ w q apart. c.detach.ensures.others w q (λ same bit. apart same (bit_only c.args.plex c.set_of-set.result (active_few c.args.core.now.config (sound_of c.args.core.now (g.S.Shelf.meaning c.args.shelf.now) c.requires.stands) c.args.vol c.args.plex c.requires.is_on) c.set_of-set.ensures q bit))))

pub returns-then-is_down-clause-failing : goal.returns-then-is_down-clause-failing
returns-then-is_down-clause-failing g c = no_failing (g.S.Shelf.meaning c.args.shelf.now) (g.S.Shelf.meaning c.args.shelf.now) c.args.core.now.config.disks c.args.core.now.config.disks refl

pub returns-in-Ok-detach-clause-failing : goal.returns-in-Ok-detach-clause-failing
returns-in-Ok-detach-clause-failing g c =
    then_failing (g.S.Shelf.meaning c.args.shelf.now) (g.S.Shelf.meaning c.settle_headers.new.shelf) (g.S.Shelf.meaning c.detach.new.shelf) c.settle_headers.ensures.narrows.acts.faults c.detach.ensures.narrows.acts.faults
    c.args.core.now.config.disks c.settle_headers.new.core.config.disks c.detach.new.core.config.disks c.settle_headers.ensures.failing c.detach.ensures.failing

pub returns-in-Err-detach-clause-failing : goal.returns-in-Err-detach-clause-failing
returns-in-Err-detach-clause-failing g c =
    then_failing (g.S.Shelf.meaning c.args.shelf.now) (g.S.Shelf.meaning c.settle_headers.new.shelf) (g.S.Shelf.meaning c.detach.new.shelf) c.settle_headers.ensures.narrows.acts.faults c.detach.ensures.narrows.acts.faults
    c.args.core.now.config.disks c.settle_headers.new.core.config.disks c.detach.new.core.config.disks c.settle_headers.ensures.failing c.detach.ensures.failing

pub returns-then-is_down-clause-attaches : goal.returns-then-is_down-clause-attaches
returns-then-is_down-clause-attaches g c = λ map. no_attaches c.args.vol c.args.plex map c.args.core.now (g.S.Shelf.meaning c.args.shelf.now) (g.met.S.Shelf.lawful c.args.shelf.now) c.requires.stands

pub returns-then-is_down-clause-finds : goal.returns-then-is_down-clause-finds
returns-then-is_down-clause-finds g c =
    none_finds c.args.core.now (g.S.Shelf.meaning c.args.shelf.now)

pub returns-in-Err-clause-finds : goal.returns-in-Err-clause-finds
returns-in-Err-clause-finds g c =
    c.settle_headers.ensures.finds

pub returns-in-Ok-detach-clause-finds : goal.returns-in-Ok-detach-clause-finds
returns-in-Ok-detach-clause-finds g c =
    behind_finds c.args.core.now c.settle_headers.new.core c.detach.new.core (g.S.Shelf.meaning c.args.shelf.now) (g.S.Shelf.meaning c.settle_headers.new.shelf) (g.S.Shelf.meaning c.detach.new.shelf) c.settle_headers.ensures.finds c.detach.ensures.finds

pub returns-in-Err-detach-clause-finds : goal.returns-in-Err-detach-clause-finds
returns-in-Err-detach-clause-finds g c =
    behind_finds c.args.core.now c.settle_headers.new.core c.detach.new.core (g.S.Shelf.meaning c.args.shelf.now) (g.S.Shelf.meaning c.settle_headers.new.shelf) (g.S.Shelf.meaning c.detach.new.shelf) c.settle_headers.ensures.finds c.detach.ensures.finds

pub returns-then-is_down-clause-logs : goal.returns-then-is_down-clause-logs
returns-then-is_down-clause-logs g c = same_logs c.args.core.now.config

pub returns-in-Err-clause-logs : goal.returns-in-Err-clause-logs
returns-in-Err-clause-logs g c = volumes_logs c.args.core.now.config c.settle_headers.new.core.config c.settle_headers.ensures.volumes

pub returns-in-Ok-detach-clause-logs : goal.returns-in-Ok-detach-clause-logs
returns-in-Ok-detach-clause-logs g c =
    then_logs c.args.core.now.config c.settle_headers.new.core.config c.detach.new.core.config (volumes_logs c.args.core.now.config c.settle_headers.new.core.config c.settle_headers.ensures.volumes) c.detach.ensures.logs

pub returns-in-Err-detach-clause-logs : goal.returns-in-Err-detach-clause-logs
returns-in-Err-detach-clause-logs g c =
    then_logs c.args.core.now.config c.settle_headers.new.core.config c.detach.new.core.config (volumes_logs c.args.core.now.config c.settle_headers.new.core.config c.settle_headers.ensures.volumes) c.detach.ensures.logs

pub returns-then-is_down-clause-missed : goal.returns-then-is_down-clause-missed
returns-then-is_down-clause-missed g c = λ was. inl (inr (sym c.is_down.ensures ∙ c.if-is_down.true))

pub returns-in-Err-clause-missed : goal.returns-in-Err-clause-missed
returns-in-Err-clause-missed g c = λ was. inl (inl c.in-Err.ensures.missed)

pub returns-in-Ok-detach-clause-missed : goal.returns-in-Ok-detach-clause-missed
returns-in-Ok-detach-clause-missed g c = λ was. inr c.in-Ok-detach.ensures.committed

pub returns-in-Err-detach-clause-missed : goal.returns-in-Err-detach-clause-missed
returns-in-Err-detach-clause-missed g c = λ was. inl c.in-Err-detach.ensures.missed

pub returns-then-is_down-clause-settles : goal.returns-then-is_down-clause-settles
returns-then-is_down-clause-settles g c = still_kept c.args.core.now (g.S.Shelf.meaning c.args.shelf.now)

pub returns-in-Err-clause-settles : goal.returns-in-Err-clause-settles
returns-in-Err-clause-settles g c = missed_kept c.args.core.now c.settle_headers.new.core (g.S.Shelf.meaning c.args.shelf.now) (g.S.Shelf.meaning c.settle_headers.new.shelf) c.requires.stands c.settle_headers.ensures.narrows c.settle_headers.ensures.less c.in-Err.ensures.missed

pub returns-in-Ok-detach-clause-settles : goal.returns-in-Ok-detach-clause-settles
returns-in-Ok-detach-clause-settles g c = behind_kept c.args.core.now c.settle_headers.new.core c.detach.new.core (g.S.Shelf.meaning c.args.shelf.now) (g.S.Shelf.meaning c.settle_headers.new.shelf) (g.S.Shelf.meaning c.detach.new.shelf) c.requires.stands c.settle_headers.ensures.narrows c.settle_headers.ensures.less c.detach.ensures.settles

pub returns-in-Err-detach-clause-settles : goal.returns-in-Err-detach-clause-settles
returns-in-Err-detach-clause-settles g c = behind_kept c.args.core.now c.settle_headers.new.core c.detach.new.core (g.S.Shelf.meaning c.args.shelf.now) (g.S.Shelf.meaning c.settle_headers.new.shelf) (g.S.Shelf.meaning c.detach.new.shelf) c.requires.stands c.settle_headers.ensures.narrows c.settle_headers.ensures.less c.detach.ensures.settles

pub settle_headers-requires-clause-stands : goal.settle_headers-requires-clause-stands
settle_headers-requires-clause-stands g c = c.requires.stands

pub settle_headers-requires-clause-up : goal.settle_headers-requires-clause-up
settle_headers-requires-clause-up g c = not_down c.is_down.result (g.S.Shelf.meaning c.args.shelf.now).down c.is_down.ensures c.if-is_down.false

pub detach-requires-clause-stands : goal.detach-requires-clause-stands
detach-requires-clause-stands g c = c.settle_headers.ensures.stands

pub detach-requires-clause-settled : goal.detach-requires-clause-settled
detach-requires-clause-settled g c = c.in-Ok.ensures.settled

pub returns-then-is_down-clause-stands : goal.returns-then-is_down-clause-stands
returns-then-is_down-clause-stands g c = c.requires.stands

pub returns-then-is_down-clause-off : goal.returns-then-is_down-clause-off
returns-then-is_down-clause-off g c = inr (inr (sym c.is_down.ensures ∙ c.if-is_down.true))

pub returns-in-Err-clause-stands : goal.returns-in-Err-clause-stands
returns-in-Err-clause-stands g c = c.settle_headers.ensures.stands

pub returns-in-Err-clause-off : goal.returns-in-Err-clause-off
returns-in-Err-clause-off g c = inr (inl c.in-Err.ensures.missed)

pub returns-in-Err-clause-failing : goal.returns-in-Err-clause-failing
returns-in-Err-clause-failing g c = c.settle_headers.ensures.failing

pub returns-in-Ok-detach-clause-stands : goal.returns-in-Ok-detach-clause-stands
returns-in-Ok-detach-clause-stands g c = c.detach.ensures.stands

pub returns-in-Err-detach-clause-stands : goal.returns-in-Err-detach-clause-stands
returns-in-Err-detach-clause-stands g c = c.detach.ensures.stands

pub returns-in-Err-detach-clause-off : goal.returns-in-Err-detach-clause-off
returns-in-Err-detach-clause-off g c = inr c.in-Err-detach.ensures.missed
