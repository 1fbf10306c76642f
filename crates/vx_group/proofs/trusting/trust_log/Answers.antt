-- `trust_log`: clauses goes and acts; what `detach` asks.
use Rattle.vx_group.proofs.DetachLemmas.{zero_bit}
use Rattle.std.proofs.Common.{◌∙◌, ℕ, length, refl, arith, List, ap, subst, sym, inl}
use Rattle.vx_config.specs.declared.config.Config.{Config}
use Rattle.vx_layout.specs.Places.{plex_at}
use Rattle.vx_group.specs.Stands.{volume_faults}
use Rattle.vx_group.proofs.FailingLemmas.{few_nine}
use Rattle.vx_group.proofs.LostLemmas.{left_plexes}
use Rattle.vx_group.proofs.CallLemmas.{narrows_Goes}
use Rattle.vx_group.specs.Holding.{with_config}
use Rattle.vx_group.proofs.Standing.{some_active}
use Rattle.vx_group.proofs.LoseLemmas.{but_parts, loses_none}
use Rattle.vx_group.proofs.SettleCalls.{headers_missed, settled_behind}
use Rattle.vx_group.proofs.TrustingLemmas.{both_acts, both_goes, early_PlexActs, now_Stands, trusted_loses, trusting_plexes}
use Rattle.vx_group.proofs.FindingLemmas.{behind_finds}
use Rattle.vx_group.proofs.TrustStillLemmas.{again_logs, then_logs, volumes_logs}
use Rattle.vx_group.specs.Loses.{TrustsStill}
use Rattle.vx_group.proofs.trusting.trust_log.Goals as goal

pub returns-in-Err-clause-goes : goal.returns-in-Err-clause-goes
returns-in-Err-clause-goes g c =
    narrows_Goes c.args.core.now c.settle_headers.new.core (g.S.Shelf.meaning c.args.shelf.now) (g.S.Shelf.meaning c.settle_headers.new.shelf) (g.met.S.Shelf.lawful c.settle_headers.new.shelf) c.requires.stands c.settle_headers.ensures.narrows
    (volume_faults c.args.core.now.faults) (volume_faults c.settle_headers.new.core.faults) (λ u. let same = ap (λ (x : List ℕ). volume_faults x u) c.settle_headers.ensures.narrows.faults in omega (arith, same))

pub returns-in-Err-clause-acts : goal.returns-in-Err-clause-acts
returns-in-Err-clause-acts g c =
    early_PlexActs c.args.vol c.args.log c.args.core.now c.settle_headers.new.core c.settle_headers.new.core.config c.settle_headers.new.core (g.S.Shelf.meaning c.args.shelf.now) (g.S.Shelf.meaning c.settle_headers.new.shelf) (g.S.Shelf.meaning c.settle_headers.new.shelf)
    (g.met.S.Shelf.lawful c.settle_headers.new.shelf) (g.met.S.Shelf.lawful c.settle_headers.new.shelf) c.requires.stands c.settle_headers.ensures.narrows c.settle_headers.ensures.volumes

pub detach-requires-clause-stands : goal.detach-requires-clause-stands
detach-requires-clause-stands g c = now_Stands c.args.vol c.args.log c.settle_headers.new.core c.trust.new.config (g.S.Shelf.meaning c.settle_headers.new.shelf) c.trust.ensures.changed c.trust.ensures.sound c.settle_headers.ensures.stands

pub detach-requires-clause-left : goal.detach-requires-clause-left
detach-requires-clause-left g c = λ lt.
    let some = some_active (with_config c.trust.new.config c.settle_headers.new.core) (g.S.Shelf.meaning c.settle_headers.new.shelf) (now_Stands c.args.vol c.args.log c.settle_headers.new.core c.trust.new.config (g.S.Shelf.meaning c.settle_headers.new.shelf) c.trust.ensures.changed c.trust.ensures.sound c.settle_headers.ensures.stands) 0 lt in
    record { plex = some.plex; is_on = some.is_on; out = zero_bit 0 some.plex refl }

pub returns-clause-goes : goal.returns-clause-goes
returns-clause-goes g c =
    both_goes c.args.vol c.args.log c.args.core.now c.settle_headers.new.core c.trust.new.config c.detach.new.core (g.S.Shelf.meaning c.args.shelf.now) (g.S.Shelf.meaning c.settle_headers.new.shelf) (g.S.Shelf.meaning c.detach.new.shelf)
    (g.met.S.Shelf.lawful c.settle_headers.new.shelf) (g.met.S.Shelf.lawful c.detach.new.shelf) c.requires.stands c.settle_headers.ensures.narrows c.settle_headers.ensures.volumes
    c.trust.ensures.changed c.trust.ensures.sound c.settle_headers.ensures.stands c.detach.ensures.narrows

pub returns-clause-acts : goal.returns-clause-acts
returns-clause-acts g c =
    both_acts c.args.vol c.args.log c.args.core.now c.settle_headers.new.core c.trust.new.config c.detach.new.core (g.S.Shelf.meaning c.args.shelf.now) (g.S.Shelf.meaning c.settle_headers.new.shelf) (g.S.Shelf.meaning c.detach.new.shelf)
    (g.met.S.Shelf.lawful c.settle_headers.new.shelf) (g.met.S.Shelf.lawful c.detach.new.shelf) c.requires.stands c.settle_headers.ensures.narrows c.settle_headers.ensures.volumes
    c.trust.ensures.changed c.trust.ensures.sound c.settle_headers.ensures.stands c.detach.ensures.narrows

pub returns-in-Err-clause-loses : goal.returns-in-Err-clause-loses
returns-in-Err-clause-loses g c =
    loses_none c.args.core.now.config c.settle_headers.new.core.config (g.S.Shelf.meaning c.args.shelf.now) (g.S.Shelf.meaning c.settle_headers.new.shelf) c.settle_headers.ensures.volumes c.settle_headers.ensures.failing
    (but_parts c.args.core.now.config c.settle_headers.new.core.config c.settle_headers.ensures.same)

pub returns-clause-loses : goal.returns-clause-loses
returns-clause-loses g c =
    trusted_loses c.args.vol c.args.log c.args.core.now.config c.settle_headers.new.core.config c.trust.new.config c.detach.new.core.config (g.S.Shelf.meaning c.args.shelf.now) (g.S.Shelf.meaning c.settle_headers.new.shelf) (g.S.Shelf.meaning c.detach.new.shelf)
    c.settle_headers.ensures.narrows.acts.faults c.detach.ensures.narrows.acts.faults c.settle_headers.ensures.volumes c.settle_headers.ensures.failing (but_parts c.args.core.now.config c.settle_headers.new.core.config c.settle_headers.ensures.same)
    c.trust.ensures.changed (c.detach.ensures.none refl) c.detach.ensures.failing c.detach.ensures.parts

pub returns-clause-faults : goal.returns-clause-faults
returns-clause-faults g c = c.detach.ensures.narrows.faults ∙ c.settle_headers.ensures.narrows.faults

pub returns-clause-unsure : goal.returns-clause-unsure
returns-clause-unsure g c = c.detach.ensures.narrows.unsure ∙ c.settle_headers.ensures.narrows.unsure

pub returns-in-Err-clause-plexes : goal.returns-in-Err-clause-plexes
returns-in-Err-clause-plexes g c = left_plexes c.args.core.now.config c.settle_headers.new.core.config c.settle_headers.ensures.volumes

pub returns-clause-plexes : goal.returns-clause-plexes
returns-clause-plexes g c = λ w p.
    left_plexes c.trust.new.config c.detach.new.core.config (c.detach.ensures.none refl) w p ∙ ap (λ (x : Config). plex_at x w p) c.trust.ensures.changed ∙ trusting_plexes c.args.vol c.args.log c.settle_headers.new.core.config w p
    ∙ left_plexes c.args.core.now.config c.settle_headers.new.core.config c.settle_headers.ensures.volumes w p

pub returns-clause-few : goal.returns-clause-few
returns-clause-few g c =
    few_nine c.detach.result c.args.core.now.config.serial c.trust.new.config.serial c.detach.new.core.config.serial (length c.trust.new.config.disks) c.detach.ensures.few (ap (λ (x : Config). x.serial) c.trust.ensures.changed ∙ c.settle_headers.ensures.serial)
    (let same = ap (λ (x : Config). length x.disks) c.trust.ensures.changed in let le = c.as_slice-disks.ensures.few in omega (arith, same, le))

pub returns-in-Err-clause-finds : goal.returns-in-Err-clause-finds
returns-in-Err-clause-finds g c =
    c.settle_headers.ensures.finds

pub returns-clause-finds : goal.returns-clause-finds
returns-clause-finds g c =
    behind_finds c.args.core.now c.settle_headers.new.core c.detach.new.core (g.S.Shelf.meaning c.args.shelf.now) (g.S.Shelf.meaning c.settle_headers.new.shelf) (g.S.Shelf.meaning c.detach.new.shelf) c.settle_headers.ensures.finds c.detach.ensures.finds

pub returns-in-Err-clause-logs : goal.returns-in-Err-clause-logs
returns-in-Err-clause-logs g c = volumes_logs c.args.core.now.config c.settle_headers.new.core.config c.settle_headers.ensures.volumes

pub returns-clause-logs : goal.returns-clause-logs
returns-clause-logs g c =
    then_logs c.args.core.now.config c.settle_headers.new.core.config c.detach.new.core.config (volumes_logs c.args.core.now.config c.settle_headers.new.core.config c.settle_headers.ensures.volumes) (then_logs c.settle_headers.new.core.config c.trust.new.config c.detach.new.core.config (subst (λ (x : Config). TrustsStill c.settle_headers.new.core.config x) (sym c.trust.ensures.changed) (again_logs c.args.vol c.args.log c.settle_headers.new.core.config)) c.detach.ensures.logs)

pub returns-in-Err-clause-settles : goal.returns-in-Err-clause-settles
returns-in-Err-clause-settles g c =
    headers_missed c.args.core.now c.settle_headers.new.core (g.S.Shelf.meaning c.args.shelf.now) (g.S.Shelf.meaning c.settle_headers.new.shelf) c.requires.stands c.settle_headers.ensures.narrows c.settle_headers.ensures.serial c.settle_headers.ensures.less c.in-Err.ensures.missed

pub returns-clause-settles : goal.returns-clause-settles
returns-clause-settles g c =
    settled_behind c.args.core.now c.settle_headers.new.core c.detach.new.core (g.S.Shelf.meaning c.args.shelf.now) (g.S.Shelf.meaning c.settle_headers.new.shelf) (g.S.Shelf.meaning c.detach.new.shelf) c.requires.stands c.requires.more c.settle_headers.ensures.narrows c.settle_headers.ensures.less c.detach.ensures.settles

pub returns-in-Err-clause-missed : goal.returns-in-Err-clause-missed
returns-in-Err-clause-missed g c = inl c.in-Err.ensures.missed

pub returns-clause-missed : goal.returns-clause-missed
returns-clause-missed g c = c.detach.ensures.missed

pub returns-clause-stands : goal.returns-clause-stands
returns-clause-stands g c = c.detach.ensures.stands

pub returns-clause-committed : goal.returns-clause-committed
returns-clause-committed g c = c.detach.ensures.committed

pub returns-in-Err-clause-few : goal.returns-in-Err-clause-few
returns-in-Err-clause-few g c = tt

pub returns-in-Err-clause-volumes : goal.returns-in-Err-clause-volumes
returns-in-Err-clause-volumes g c = tt

pub returns-in-Err-clause-trust : goal.returns-in-Err-clause-trust
returns-in-Err-clause-trust g c = tt

pub returns-in-Err-clause-committed : goal.returns-in-Err-clause-committed
returns-in-Err-clause-committed g c = tt

pub returns-in-Err-clause-faults : goal.returns-in-Err-clause-faults
returns-in-Err-clause-faults g c = c.settle_headers.ensures.narrows.faults

pub returns-in-Err-clause-unsure : goal.returns-in-Err-clause-unsure
returns-in-Err-clause-unsure g c = c.settle_headers.ensures.narrows.unsure

pub returns-in-Err-clause-stands : goal.returns-in-Err-clause-stands
returns-in-Err-clause-stands g c = c.settle_headers.ensures.stands

pub returns-in-Err-clause-cause : goal.returns-in-Err-clause-cause
returns-in-Err-clause-cause g c = c.in-Err.ensures.cause
