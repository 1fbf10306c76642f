-- `commit_rvg`: what `detach` asks; clauses narrows, volumes, site, failing, ends, trust, agreed, later, finds, cause and stands.
use Rattle.std.proofs.Common.{◌≤◌, Some, List, Err, refl, ap, ◌∙◌, arith}
use Rattle.vx_model.specs.declared.units.Units.{Units}
use Rattle.vx_config.specs.Checks.{is_group}
use Rattle.vx_config.specs.declared.entry.VolumeEntry.{VolumeEntry}
use Rattle.vx_group.proofs.CallLemmas.{blames_later}
use Rattle.vx_group.proofs.DetachLemmas.{zero_bit}
use Rattle.vx_group.proofs.FailingLemmas.{then_failing}
use Rattle.vx_group.proofs.FindingLemmas.{behind_finds}
use Rattle.vx_group.proofs.RvgLemmas.{may_before, rvg_Stands, rvg_core, then_Narrows, undone_Narrows, undone_Stands, undone_core, undone_ends}
use Rattle.vx_group.proofs.Standing.{some_active}
use Rattle.vx_group.proofs.SettleCalls.{as_told, headers_missed, settled_behind}
use Rattle.vx_group.proofs.grouping.commit_rvg.Goals as goal

pub returns-in-Err-clause-site : goal.returns-in-Err-clause-site
returns-in-Err-clause-site g c = c.settle_headers.ensures.same.site

pub returns-in-Err-clause-ends : goal.returns-in-Err-clause-ends
returns-in-Err-clause-ends g c = c.settle_headers.ensures.same.rvg

pub returns-in-Err-clause-agreed : goal.returns-in-Err-clause-agreed
returns-in-Err-clause-agreed g c = λ is. c.settle_headers.ensures.agreed ∙ c.requires.stands.trusts.both is

pub returns-in-Err-clause-later : goal.returns-in-Err-clause-later
returns-in-Err-clause-later g c = let same = c.settle_headers.ensures.serial in omega (arith, same)

pub returns-in-Err-clause-finds : goal.returns-in-Err-clause-finds
returns-in-Err-clause-finds g c = c.settle_headers.ensures.finds

pub detach-requires-clause-stands : goal.detach-requires-clause-stands
detach-requires-clause-stands g c = rvg_Stands c.settle_headers.new.core (Some c.copy.result) (g.S.Shelf.meaning c.settle_headers.new.shelf) c.settle_headers.ensures.stands (ap (λ (vs : List VolumeEntry). is_group vs c.copy.result) c.settle_headers.ensures.volumes ∙ ap (λ (u : Units). is_group c.args.core.now.config.volumes u) c.copy.ensures ∙ c.requires.may)

pub detach-requires-clause-left : goal.detach-requires-clause-left
detach-requires-clause-left g c = λ lt.
    let some = some_active (rvg_core c.settle_headers.new.core (Some c.copy.result)) (g.S.Shelf.meaning c.settle_headers.new.shelf) (rvg_Stands c.settle_headers.new.core (Some c.copy.result) (g.S.Shelf.meaning c.settle_headers.new.shelf) c.settle_headers.ensures.stands (ap (λ (vs : List VolumeEntry). is_group vs c.copy.result) c.settle_headers.ensures.volumes ∙ ap (λ (u : Units). is_group c.args.core.now.config.volumes u) c.copy.ensures ∙ c.requires.may)) 0 lt in
    record { plex = some.plex; is_on = some.is_on; out = zero_bit 0 some.plex refl }

pub returns-in-Ok-detach-clause-narrows : goal.returns-in-Ok-detach-clause-narrows
returns-in-Ok-detach-clause-narrows g c = then_Narrows c.settle_headers.new.core (Some c.copy.result) c.args.core.now c.detach.new.core (g.S.Shelf.meaning c.args.shelf.now) (g.S.Shelf.meaning c.settle_headers.new.shelf) (g.S.Shelf.meaning c.detach.new.shelf) c.settle_headers.ensures.volumes c.settle_headers.ensures.good c.settle_headers.ensures.narrows c.detach.ensures.narrows

pub returns-in-Ok-detach-clause-volumes : goal.returns-in-Ok-detach-clause-volumes
returns-in-Ok-detach-clause-volumes g c = c.detach.ensures.none refl ∙ c.settle_headers.ensures.volumes

pub returns-in-Ok-detach-clause-site : goal.returns-in-Ok-detach-clause-site
returns-in-Ok-detach-clause-site g c = c.detach.ensures.parts.site ∙ c.settle_headers.ensures.same.site

pub returns-in-Ok-detach-clause-failing : goal.returns-in-Ok-detach-clause-failing
returns-in-Ok-detach-clause-failing g c = then_failing (g.S.Shelf.meaning c.args.shelf.now) (g.S.Shelf.meaning c.settle_headers.new.shelf) (g.S.Shelf.meaning c.detach.new.shelf) c.settle_headers.ensures.narrows.acts.faults c.detach.ensures.narrows.acts.faults c.args.core.now.config.disks c.settle_headers.new.core.config.disks c.detach.new.core.config.disks c.settle_headers.ensures.failing c.detach.ensures.failing

pub returns-in-Ok-detach-clause-ends : goal.returns-in-Ok-detach-clause-ends
returns-in-Ok-detach-clause-ends g c = record { named = c.detach.ensures.parts.rvg ∙ ap (λ (u : Units). Some u) c.copy.ensures; committed = c.in-Ok-detach.ensures.committed }

pub returns-in-Ok-detach-clause-trust : goal.returns-in-Ok-detach-clause-trust
returns-in-Ok-detach-clause-trust g c = λ is. c.in-Ok-detach.ensures.trust (c.settle_headers.ensures.trust ∙ is)

pub returns-in-Ok-detach-clause-later : goal.returns-in-Ok-detach-clause-later
returns-in-Ok-detach-clause-later g c =
    let same = c.settle_headers.ensures.serial in
    let more : c.settle_headers.new.core.config.serial ≤ c.detach.new.core.config.serial = c.detach.ensures.parts.later in
    omega (arith, same, more)

pub returns-in-Ok-detach-clause-finds : goal.returns-in-Ok-detach-clause-finds
returns-in-Ok-detach-clause-finds g c =
    behind_finds c.args.core.now c.settle_headers.new.core c.detach.new.core (g.S.Shelf.meaning c.args.shelf.now) (g.S.Shelf.meaning c.settle_headers.new.shelf) (g.S.Shelf.meaning c.detach.new.shelf) c.settle_headers.ensures.finds c.detach.ensures.finds

pub returns-in-Err-detach-clause-stands : goal.returns-in-Err-detach-clause-stands
returns-in-Err-detach-clause-stands g c = undone_Stands c.detach.new.core c.named_by-before.result (g.S.Shelf.meaning c.detach.new.shelf) c.detach.ensures.stands (may_before c.settle_headers.new.core c.detach.new.core (g.S.Shelf.meaning c.settle_headers.new.shelf) c.named_by-before.result c.settle_headers.ensures.stands c.named_by-before.ensures (c.detach.ensures.none refl))

pub returns-in-Err-detach-clause-narrows : goal.returns-in-Err-detach-clause-narrows
returns-in-Err-detach-clause-narrows g c =
    undone_Narrows c.detach.new.core c.named_by-before.result c.args.core.now (g.S.Shelf.meaning c.args.shelf.now) (g.S.Shelf.meaning c.detach.new.shelf)
    (then_Narrows c.settle_headers.new.core (Some c.copy.result) c.args.core.now c.detach.new.core (g.S.Shelf.meaning c.args.shelf.now) (g.S.Shelf.meaning c.settle_headers.new.shelf) (g.S.Shelf.meaning c.detach.new.shelf) c.settle_headers.ensures.volumes c.settle_headers.ensures.good c.settle_headers.ensures.narrows c.detach.ensures.narrows)

pub returns-in-Err-detach-clause-volumes : goal.returns-in-Err-detach-clause-volumes
returns-in-Err-detach-clause-volumes g c = c.detach.ensures.none refl ∙ c.settle_headers.ensures.volumes

pub returns-in-Err-detach-clause-site : goal.returns-in-Err-detach-clause-site
returns-in-Err-detach-clause-site g c = c.detach.ensures.parts.site ∙ c.settle_headers.ensures.same.site

pub returns-in-Err-detach-clause-failing : goal.returns-in-Err-detach-clause-failing
returns-in-Err-detach-clause-failing g c = then_failing (g.S.Shelf.meaning c.args.shelf.now) (g.S.Shelf.meaning c.settle_headers.new.shelf) (g.S.Shelf.meaning c.detach.new.shelf) c.settle_headers.ensures.narrows.acts.faults c.detach.ensures.narrows.acts.faults c.args.core.now.config.disks c.settle_headers.new.core.config.disks c.detach.new.core.config.disks c.settle_headers.ensures.failing c.detach.ensures.failing

pub returns-in-Err-detach-clause-ends : goal.returns-in-Err-detach-clause-ends
returns-in-Err-detach-clause-ends g c = c.named_by-before.ensures ∙ c.settle_headers.ensures.same.rvg

pub returns-in-Err-detach-clause-agreed : goal.returns-in-Err-detach-clause-agreed
returns-in-Err-detach-clause-agreed g c = λ is. c.in-Err-detach.ensures.agreed (c.settle_headers.ensures.trust ∙ is)

pub returns-in-Err-detach-clause-later : goal.returns-in-Err-detach-clause-later
returns-in-Err-detach-clause-later g c =
    let same = c.settle_headers.ensures.serial in
    let more : c.settle_headers.new.core.config.serial ≤ c.detach.new.core.config.serial = c.detach.ensures.parts.later in
    omega (arith, same, more)

pub returns-in-Err-detach-clause-finds : goal.returns-in-Err-detach-clause-finds
returns-in-Err-detach-clause-finds g c =
    behind_finds c.args.core.now c.settle_headers.new.core (undone_core c.detach.new.core c.named_by-before.result) (g.S.Shelf.meaning c.args.shelf.now) (g.S.Shelf.meaning c.settle_headers.new.shelf) (g.S.Shelf.meaning c.detach.new.shelf) c.settle_headers.ensures.finds
    (undone_ends c.detach.new.core c.named_by-before.result (g.S.Shelf.meaning c.settle_headers.new.shelf) (g.S.Shelf.meaning c.detach.new.shelf) c.detach.ensures.finds)

pub returns-in-Err-detach-clause-cause : goal.returns-in-Err-detach-clause-cause
returns-in-Err-detach-clause-cause g c =
    blames_later {T = Unit {0}} (Err c.in-Err-detach.error) (g.S.Shelf.meaning c.args.shelf.now) (g.S.Shelf.meaning c.settle_headers.new.shelf) (g.S.Shelf.meaning c.detach.new.shelf) c.settle_headers.ensures.narrows.acts.disk_faults
    (c.in-Err-detach.ensures.sure (let same = c.settle_headers.ensures.serial in let less = c.requires.more in omega (arith, same, less)))

pub returns-in-Err-clause-settles : goal.returns-in-Err-clause-settles
returns-in-Err-clause-settles g c =
    headers_missed c.args.core.now c.settle_headers.new.core (g.S.Shelf.meaning c.args.shelf.now) (g.S.Shelf.meaning c.settle_headers.new.shelf) c.requires.stands c.settle_headers.ensures.narrows c.settle_headers.ensures.serial c.settle_headers.ensures.less c.in-Err.ensures.missed

pub returns-in-Ok-detach-clause-settles : goal.returns-in-Ok-detach-clause-settles
returns-in-Ok-detach-clause-settles g c =
    settled_behind c.args.core.now c.settle_headers.new.core c.detach.new.core (g.S.Shelf.meaning c.args.shelf.now) (g.S.Shelf.meaning c.settle_headers.new.shelf) (g.S.Shelf.meaning c.detach.new.shelf) c.requires.stands c.requires.more c.settle_headers.ensures.narrows c.settle_headers.ensures.less c.detach.ensures.settles

pub returns-in-Err-detach-clause-settles : goal.returns-in-Err-detach-clause-settles
returns-in-Err-detach-clause-settles g c =
    as_told c.args.core.now c.detach.new.core (undone_core c.detach.new.core c.named_by-before.result) (g.S.Shelf.meaning c.args.shelf.now) (g.S.Shelf.meaning c.detach.new.shelf) refl refl
    (settled_behind c.args.core.now c.settle_headers.new.core c.detach.new.core (g.S.Shelf.meaning c.args.shelf.now) (g.S.Shelf.meaning c.settle_headers.new.shelf) (g.S.Shelf.meaning c.detach.new.shelf) c.requires.stands c.requires.more c.settle_headers.ensures.narrows c.settle_headers.ensures.less c.detach.ensures.settles)
