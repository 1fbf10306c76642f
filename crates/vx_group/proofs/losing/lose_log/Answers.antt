-- The commit of a log that is lost, behind headers that were written back.
use Rattle.std.proofs.Common.{◌∙◌, arith, length}
use Rattle.vx_kept.proofs.RunLemmas.{logs_volumes}
use Rattle.vx_group.proofs.CallLemmas.{blames_later, both_Narrows}
use Rattle.vx_group.proofs.FailingLemmas.{then_failing, few_nine}
use Rattle.vx_group.proofs.GiveLemmas.{keeps_volumes}
use Rattle.vx_group.proofs.LoseLemmas.{but_parts, then_parts}
use Rattle.vx_group.proofs.LostLemmas.{later_keeps, left_plexes}
use Rattle.vx_group.proofs.SettleCalls.{headers_missed, settled_behind}
use Rattle.vx_group.proofs.TrustLemmas.{err_from, ok_from}
use Rattle.vx_group.proofs.FindingLemmas.{behind_finds}
use Rattle.vx_group.proofs.TrustStillLemmas.{still_but, then_but, volumes_logs}
use Rattle.vx_group.proofs.losing.lose_log.Goals as goal

pub lose_settled-requires-clause-more : goal.lose_settled-requires-clause-more
lose_settled-requires-clause-more g c =
    let same = c.settle_headers.ensures.serial in let less = c.requires.more in omega (arith, same, less)

pub returns-clause-cause : goal.returns-clause-cause
returns-clause-cause g c =
    blames_later c.lose_settled.result (g.S.Shelf.meaning c.args.shelf.now) (g.S.Shelf.meaning c.settle_headers.new.shelf) (g.S.Shelf.meaning c.lose_settled.new.shelf) c.settle_headers.ensures.narrows.acts.disk_faults c.lose_settled.ensures.cause

pub returns-clause-narrows : goal.returns-clause-narrows
returns-clause-narrows g c =
    both_Narrows c.args.core.now c.settle_headers.new.core c.lose_settled.new.core (g.S.Shelf.meaning c.args.shelf.now) (g.S.Shelf.meaning c.settle_headers.new.shelf) (g.S.Shelf.meaning c.lose_settled.new.shelf) c.settle_headers.ensures.volumes c.settle_headers.ensures.good c.settle_headers.ensures.narrows c.lose_settled.ensures.narrows

pub returns-clause-plexes : goal.returns-clause-plexes
returns-clause-plexes g c =
    λ w p. c.lose_settled.ensures.plexes w p ∙ left_plexes c.args.core.now.config c.settle_headers.new.core.config c.settle_headers.ensures.volumes w p

pub returns-in-Err-clause-plexes : goal.returns-in-Err-clause-plexes
returns-in-Err-clause-plexes g c =
    left_plexes c.args.core.now.config c.settle_headers.new.core.config c.settle_headers.ensures.volumes

pub returns-clause-others : goal.returns-clause-others
returns-clause-others g c =
    λ w k apart. c.lose_settled.ensures.others w k apart ∙ logs_volumes c.settle_headers.new.core.config c.args.core.now.config c.settle_headers.ensures.volumes w k

pub returns-in-Err-clause-others : goal.returns-in-Err-clause-others
returns-in-Err-clause-others g c =
    λ w k apart. logs_volumes c.settle_headers.new.core.config c.args.core.now.config c.settle_headers.ensures.volumes w k

pub returns-clause-trust : goal.returns-clause-trust
returns-clause-trust g c =
    ok_from c.lose_settled.result (λ keeps is. keeps (c.settle_headers.ensures.trust ∙ is)) c.lose_settled.ensures.trust

pub returns-clause-agreed : goal.returns-clause-agreed
returns-clause-agreed g c =
    err_from c.lose_settled.result (λ keeps is. keeps (c.settle_headers.ensures.trust ∙ is)) c.lose_settled.ensures.agreed

pub returns-in-Err-clause-agreed : goal.returns-in-Err-clause-agreed
returns-in-Err-clause-agreed g c =
    λ is. c.settle_headers.ensures.agreed ∙ c.requires.stands.trusts.both is

pub returns-clause-failing : goal.returns-clause-failing
returns-clause-failing g c =
    then_failing (g.S.Shelf.meaning c.args.shelf.now) (g.S.Shelf.meaning c.settle_headers.new.shelf) (g.S.Shelf.meaning c.lose_settled.new.shelf) c.settle_headers.ensures.narrows.acts.faults c.lose_settled.ensures.narrows.acts.faults
    c.args.core.now.config.disks c.settle_headers.new.core.config.disks c.lose_settled.new.core.config.disks c.settle_headers.ensures.failing c.lose_settled.ensures.failing

pub returns-clause-keeps : goal.returns-clause-keeps
returns-clause-keeps g c =
    later_keeps c.args.core.now.config c.settle_headers.new.core.config c.lose_settled.new.core.config c.settle_headers.ensures.volumes c.lose_settled.result c.lose_settled.ensures.keeps

pub returns-in-Err-clause-keeps : goal.returns-in-Err-clause-keeps
returns-in-Err-clause-keeps g c =
    keeps_volumes c.args.core.now.config c.settle_headers.new.core.config c.in-Err.error c.settle_headers.ensures.volumes

pub returns-in-Err-clause-parts : goal.returns-in-Err-clause-parts
returns-in-Err-clause-parts g c = but_parts c.args.core.now.config c.settle_headers.new.core.config c.settle_headers.ensures.same

pub returns-clause-parts : goal.returns-clause-parts
returns-clause-parts g c = then_parts c.args.core.now.config c.settle_headers.new.core.config c.lose_settled.new.core.config (but_parts c.args.core.now.config c.settle_headers.new.core.config c.settle_headers.ensures.same) c.lose_settled.ensures.parts

pub returns-clause-finds : goal.returns-clause-finds
returns-clause-finds g c =
    behind_finds c.args.core.now c.settle_headers.new.core c.lose_settled.new.core (g.S.Shelf.meaning c.args.shelf.now) (g.S.Shelf.meaning c.settle_headers.new.shelf) (g.S.Shelf.meaning c.lose_settled.new.shelf) c.settle_headers.ensures.finds c.lose_settled.ensures.finds

pub returns-in-Err-clause-logs : goal.returns-in-Err-clause-logs
returns-in-Err-clause-logs g c =
    still_but c.args.vol c.args.log c.args.core.now.config c.settle_headers.new.core.config (volumes_logs c.args.core.now.config c.settle_headers.new.core.config c.settle_headers.ensures.volumes)

pub returns-clause-logs : goal.returns-clause-logs
returns-clause-logs g c =
    then_but c.args.vol c.args.log c.args.core.now.config c.settle_headers.new.core.config c.lose_settled.new.core.config (volumes_logs c.args.core.now.config c.settle_headers.new.core.config c.settle_headers.ensures.volumes) c.lose_settled.ensures.logs

pub returns-clause-few : goal.returns-clause-few
returns-clause-few g c = few_nine c.lose_settled.result c.args.core.now.config.serial c.settle_headers.new.core.config.serial c.lose_settled.new.core.config.serial (length c.settle_headers.new.core.config.disks) c.lose_settled.ensures.few c.settle_headers.ensures.serial c.as_slice-disks.ensures.few

pub returns-in-Err-clause-settles : goal.returns-in-Err-clause-settles
returns-in-Err-clause-settles g c =
    headers_missed c.args.core.now c.settle_headers.new.core (g.S.Shelf.meaning c.args.shelf.now) (g.S.Shelf.meaning c.settle_headers.new.shelf) c.requires.stands c.settle_headers.ensures.narrows c.settle_headers.ensures.serial c.settle_headers.ensures.less c.in-Err.ensures.missed

pub returns-clause-settles : goal.returns-clause-settles
returns-clause-settles g c =
    settled_behind c.args.core.now c.settle_headers.new.core c.lose_settled.new.core (g.S.Shelf.meaning c.args.shelf.now) (g.S.Shelf.meaning c.settle_headers.new.shelf) (g.S.Shelf.meaning c.lose_settled.new.shelf) c.requires.stands c.requires.more c.settle_headers.ensures.narrows c.settle_headers.ensures.less c.lose_settled.ensures.settles

pub returns-clause-stands : goal.returns-clause-stands
returns-clause-stands g c = c.lose_settled.ensures.stands

pub returns-clause-lost : goal.returns-clause-lost
returns-clause-lost g c = c.lose_settled.ensures.lost

pub returns-clause-settled : goal.returns-clause-settled
returns-clause-settled g c = c.lose_settled.ensures.settled

pub returns-clause-missed : goal.returns-clause-missed
returns-clause-missed g c = c.lose_settled.ensures.missed

pub returns-clause-committed : goal.returns-clause-committed
returns-clause-committed g c = c.lose_settled.ensures.committed

pub returns-in-Err-clause-stands : goal.returns-in-Err-clause-stands
returns-in-Err-clause-stands g c = c.settle_headers.ensures.stands

pub returns-in-Err-clause-narrows : goal.returns-in-Err-clause-narrows
returns-in-Err-clause-narrows g c = c.settle_headers.ensures.narrows

pub returns-in-Err-clause-lost : goal.returns-in-Err-clause-lost
returns-in-Err-clause-lost g c = tt

pub returns-in-Err-clause-settled : goal.returns-in-Err-clause-settled
returns-in-Err-clause-settled g c = tt

pub returns-in-Err-clause-few : goal.returns-in-Err-clause-few
returns-in-Err-clause-few g c = tt

pub returns-in-Err-clause-failing : goal.returns-in-Err-clause-failing
returns-in-Err-clause-failing g c = c.settle_headers.ensures.failing

pub returns-in-Err-clause-trust : goal.returns-in-Err-clause-trust
returns-in-Err-clause-trust g c = tt

pub returns-in-Err-clause-committed : goal.returns-in-Err-clause-committed
returns-in-Err-clause-committed g c = tt

pub returns-in-Err-clause-finds : goal.returns-in-Err-clause-finds
returns-in-Err-clause-finds g c = c.settle_headers.ensures.finds

pub returns-in-Err-clause-cause : goal.returns-in-Err-clause-cause
returns-in-Err-clause-cause g c = c.in-Err.ensures.cause
