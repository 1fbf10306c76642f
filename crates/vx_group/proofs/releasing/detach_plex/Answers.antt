-- `detach_plex`: clauses off, cause, narrows, others, trust, agreed, kept, keeps and 3 more; what `detach` asks; that each place lies within.
use Rattle.std.proofs.Common.{inl, length, ◌∙◌, arith}
use Rattle.vx_volume.proofs.PlaceLemmas.{active_few}
use Rattle.vx_group.proofs.CallLemmas.{blames_later, both_Narrows}
use Rattle.vx_kept.proofs.Chosen.{active_volumes}
use Rattle.vx_group.proofs.DetLemmas.{bit_here, bit_only, left_volumes, off_by, on_volumes, one_on}
use Rattle.vx_group.proofs.AttachLemmas.{other_left}
use Rattle.vx_group.proofs.FailingLemmas.{few_nine, then_failing}
use Rattle.vx_group.proofs.GiveLemmas.{keeps_volumes}
use Rattle.vx_group.proofs.HoldLemmas.{one_kept}
use Rattle.vx_group.proofs.LostLemmas.{later_keeps}
use Rattle.vx_group.proofs.Standing.{sound_of}
use Rattle.vx_group.proofs.SettleCalls.{headers_missed, settled_behind}
use Rattle.vx_group.proofs.TrustLemmas.{err_from, ok_from}
use Rattle.vx_group.proofs.FindingLemmas.{behind_finds}
use Rattle.vx_group.proofs.TrustStillLemmas.{then_logs, volumes_logs}
use Rattle.vx_group.proofs.releasing.detach_plex.Goals as goal

pub bounds-flags-plex : goal.bounds-flags-plex
bounds-flags-plex g c = (active_few c.args.core.now.config (sound_of c.args.core.now (g.S.Shelf.meaning c.args.shelf.now) c.requires.stands) c.args.vol c.args.plex c.requires.is_on)

pub detach-requires-clause-left : goal.detach-requires-clause-left
detach-requires-clause-left g c = λ lt.
    left_volumes c.args.core.now.config c.settle_headers.new.core.config c.args.vol c.set_of-set.result c.settle_headers.ensures.volumes
    (other_left c.args.core.now.config c.args.vol c.args.plex c.set_of-set.result (active_few c.args.core.now.config (sound_of c.args.core.now (g.S.Shelf.meaning c.args.shelf.now) c.requires.stands) c.args.vol c.args.plex c.requires.is_on) c.set_of-set.ensures c.requires.other)

pub detach-requires-clause-those : goal.detach-requires-clause-those
detach-requires-clause-those g c =
    on_volumes c.args.core.now.config c.settle_headers.new.core.config c.args.vol c.set_of-set.result c.settle_headers.ensures.volumes
    (one_on c.args.plex c.set_of-set.result (active_few c.args.core.now.config (sound_of c.args.core.now (g.S.Shelf.meaning c.args.shelf.now) c.requires.stands) c.args.vol c.args.plex c.requires.is_on) c.set_of-set.ensures c.args.core.now.config c.args.vol c.requires.is_on)

pub returns-clause-off : goal.returns-clause-off
returns-clause-off g c =
    off_by c.detach.result c.detach.new.core.config c.args.vol c.args.plex c.set_of-set.result (bit_here c.args.plex c.set_of-set.result (active_few c.args.core.now.config (sound_of c.args.core.now (g.S.Shelf.meaning c.args.shelf.now) c.requires.stands) c.args.vol c.args.plex c.requires.is_on) c.set_of-set.ensures) c.detach.ensures.off

pub returns-clause-cause : goal.returns-clause-cause
returns-clause-cause g c =
    blames_later c.detach.result (g.S.Shelf.meaning c.args.shelf.now) (g.S.Shelf.meaning c.settle_headers.new.shelf) (g.S.Shelf.meaning c.detach.new.shelf) c.settle_headers.ensures.narrows.acts.disk_faults
    (c.detach.ensures.sure (let same = c.settle_headers.ensures.serial in let less = c.requires.more in omega (arith, same, less)))

pub returns-clause-narrows : goal.returns-clause-narrows
returns-clause-narrows g c =
    both_Narrows c.args.core.now c.settle_headers.new.core c.detach.new.core (g.S.Shelf.meaning c.args.shelf.now) (g.S.Shelf.meaning c.settle_headers.new.shelf) (g.S.Shelf.meaning c.detach.new.shelf) c.settle_headers.ensures.volumes c.settle_headers.ensures.good c.settle_headers.ensures.narrows c.detach.ensures.narrows

pub returns-clause-others : goal.returns-clause-others
returns-clause-others g c =
    λ w p apart. c.detach.ensures.others w p (λ same bit. apart same (bit_only c.args.plex c.set_of-set.result (active_few c.args.core.now.config (sound_of c.args.core.now (g.S.Shelf.meaning c.args.shelf.now) c.requires.stands) c.args.vol c.args.plex c.requires.is_on) c.set_of-set.ensures p bit)) ∙ active_volumes c.settle_headers.new.core.config c.args.core.now.config c.settle_headers.ensures.volumes w p

pub returns-in-Err-clause-others : goal.returns-in-Err-clause-others
returns-in-Err-clause-others g c =
    λ w p apart. active_volumes c.settle_headers.new.core.config c.args.core.now.config c.settle_headers.ensures.volumes w p

pub returns-clause-trust : goal.returns-clause-trust
returns-clause-trust g c = ok_from c.detach.result (λ keeps is. keeps (c.settle_headers.ensures.trust ∙ is)) c.detach.ensures.trust

pub returns-clause-agreed : goal.returns-clause-agreed
returns-clause-agreed g c = err_from c.detach.result (λ keeps is. keeps (c.settle_headers.ensures.trust ∙ is)) c.detach.ensures.agreed

pub returns-in-Err-clause-agreed : goal.returns-in-Err-clause-agreed
returns-in-Err-clause-agreed g c = λ is. c.settle_headers.ensures.agreed ∙ c.requires.stands.trusts.both is

pub returns-clause-kept : goal.returns-clause-kept
returns-clause-kept g c =
    let lt = (active_few c.args.core.now.config (sound_of c.args.core.now (g.S.Shelf.meaning c.args.shelf.now) c.requires.stands) c.args.vol c.args.plex c.requires.is_on) in
    one_kept c.args.vol c.args.plex c.set_of-set.result (bit_here c.args.plex c.set_of-set.result lt c.set_of-set.ensures) (bit_only c.args.plex c.set_of-set.result lt c.set_of-set.ensures) lt
    c.args.core.now.config c.settle_headers.new.core.config c.detach.new.core.config c.settle_headers.ensures.volumes c.detach.ensures.kept

pub returns-in-Err-clause-kept : goal.returns-in-Err-clause-kept
returns-in-Err-clause-kept g c = inl c.settle_headers.ensures.volumes

pub returns-clause-keeps : goal.returns-clause-keeps
returns-clause-keeps g c =
    later_keeps c.args.core.now.config c.settle_headers.new.core.config c.detach.new.core.config c.settle_headers.ensures.volumes c.detach.result c.detach.ensures.keeps

pub returns-in-Err-clause-keeps : goal.returns-in-Err-clause-keeps
returns-in-Err-clause-keeps g c = keeps_volumes c.args.core.now.config c.settle_headers.new.core.config c.in-Err.error c.settle_headers.ensures.volumes

pub returns-clause-parts : goal.returns-clause-parts
returns-clause-parts g c =
    let same = c.settle_headers.ensures.same in
    let parts = c.detach.ensures.parts in
    record { site = parts.site ∙ same.site; rvg = parts.rvg ∙ same.rvg; count = parts.count ∙ same.count; later = (let one = same.serial in let two = parts.later in omega (arith, one, two)) }

pub returns-in-Err-clause-parts : goal.returns-in-Err-clause-parts
returns-in-Err-clause-parts g c = let same = c.settle_headers.ensures.same in record { site = same.site; rvg = same.rvg; count = same.count; later = (let is = same.serial in omega (arith, is)) }

pub returns-clause-failing : goal.returns-clause-failing
returns-clause-failing g c =
    then_failing (g.S.Shelf.meaning c.args.shelf.now) (g.S.Shelf.meaning c.settle_headers.new.shelf) (g.S.Shelf.meaning c.detach.new.shelf) c.settle_headers.ensures.narrows.acts.faults c.detach.ensures.narrows.acts.faults
    c.args.core.now.config.disks c.settle_headers.new.core.config.disks c.detach.new.core.config.disks c.settle_headers.ensures.failing c.detach.ensures.failing

pub returns-clause-few : goal.returns-clause-few
returns-clause-few g c =
    few_nine c.detach.result c.args.core.now.config.serial c.settle_headers.new.core.config.serial c.detach.new.core.config.serial (length c.settle_headers.new.core.config.disks) c.detach.ensures.few c.settle_headers.ensures.serial c.as_slice-disks.ensures.few

pub returns-clause-finds : goal.returns-clause-finds
returns-clause-finds g c =
    behind_finds c.args.core.now c.settle_headers.new.core c.detach.new.core (g.S.Shelf.meaning c.args.shelf.now) (g.S.Shelf.meaning c.settle_headers.new.shelf) (g.S.Shelf.meaning c.detach.new.shelf) c.settle_headers.ensures.finds c.detach.ensures.finds

pub returns-in-Err-clause-logs : goal.returns-in-Err-clause-logs
returns-in-Err-clause-logs g c = volumes_logs c.args.core.now.config c.settle_headers.new.core.config c.settle_headers.ensures.volumes

pub returns-clause-logs : goal.returns-clause-logs
returns-clause-logs g c =
    then_logs c.args.core.now.config c.settle_headers.new.core.config c.detach.new.core.config (volumes_logs c.args.core.now.config c.settle_headers.new.core.config c.settle_headers.ensures.volumes) c.detach.ensures.logs

pub returns-in-Err-clause-settles : goal.returns-in-Err-clause-settles
returns-in-Err-clause-settles g c =
    headers_missed c.args.core.now c.settle_headers.new.core (g.S.Shelf.meaning c.args.shelf.now) (g.S.Shelf.meaning c.settle_headers.new.shelf) c.requires.stands c.settle_headers.ensures.narrows c.settle_headers.ensures.serial c.settle_headers.ensures.less c.in-Err.ensures.missed

pub returns-clause-settles : goal.returns-clause-settles
returns-clause-settles g c =
    settled_behind c.args.core.now c.settle_headers.new.core c.detach.new.core (g.S.Shelf.meaning c.args.shelf.now) (g.S.Shelf.meaning c.settle_headers.new.shelf) (g.S.Shelf.meaning c.detach.new.shelf) c.requires.stands c.requires.more c.settle_headers.ensures.narrows c.settle_headers.ensures.less c.detach.ensures.settles
