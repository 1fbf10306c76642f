-- `attach_held`: clauses attaches, ends, regains, held, cause and count; what `regain` and `attach` ask.
use Rattle.std.proofs.Common.{inl, ◌∙◌}
use Rattle.std.specs.Option.{option_copied}
use Rattle.vx_kept.proofs.Chosen.{active_volumes}
use Rattle.vx_group.proofs.AttachLemmas.{narrows_attaches, then_attaches}
use Rattle.vx_group.proofs.CallLemmas.{blames_later}
use Rattle.vx_group.proofs.MissLemmas.{knows_later, missed_volumes, narrows_reads, same_count}
use Rattle.vx_group.proofs.OpeningLemmas.{may_behind, present}
use Rattle.vx_group.proofs.Standing.{sound_of}
use Rattle.vx_group.proofs.RegainLemmas.{all_holds, then_regains}
use Rattle.vx_group.proofs.FindingLemmas.{then_finds}
use Rattle.vx_group.proofs.TrustStillLemmas.{then_logs, volumes_logs}
use Rattle.vx_group.proofs.SettleCalls.{then_told}
use Rattle.vx_group.proofs.att.attach_held.Goals as goal

pub regain-requires-clause-more : goal.regain-requires-clause-more
regain-requires-clause-more g c =
    c.requires.may.more

pub returns-in-Err-clause-attaches : goal.returns-in-Err-clause-attaches
returns-in-Err-clause-attaches g c =
    (narrows_attaches c.args.vol c.args.plex (option_copied c.args.fmr) c.args.core.now c.regain.new.core (g.S.Shelf.meaning c.args.shelf.now) (g.S.Shelf.meaning c.regain.new.shelf) (g.met.S.Shelf.lawful c.regain.new.shelf) c.requires.stands c.regain.ensures.narrows c.regain.ensures.parts (λ w q apart. active_volumes c.regain.new.core.config c.args.core.now.config c.regain.ensures.volumes w q))

pub returns-in-Err-clause-ends : goal.returns-in-Err-clause-ends
returns-in-Err-clause-ends g c =
    inl (active_volumes c.regain.new.core.config c.args.core.now.config c.regain.ensures.volumes c.args.vol c.args.plex ∙ c.requires.off)

pub attach-requires-clause-may : goal.attach-requires-clause-may
attach-requires-clause-may g c =
    may_behind c.args.core.now.config c.regain.new.core.config c.args.vol c.args.plex c.requires.may c.requires.more c.regain.ensures.volumes c.in-Ok.ensures.few

pub attach-requires-clause-off : goal.attach-requires-clause-off
attach-requires-clause-off g c =
    active_volumes c.regain.new.core.config c.args.core.now.config c.regain.ensures.volumes c.args.vol c.args.plex ∙ c.requires.off

pub returns-clause-attaches : goal.returns-clause-attaches
returns-clause-attaches g c =
    then_attaches c.args.vol c.args.plex (option_copied c.args.fmr) c.args.core.now c.regain.new.core c.attach.new.core (g.S.Shelf.meaning c.args.shelf.now) (g.S.Shelf.meaning c.regain.new.shelf) (g.S.Shelf.meaning c.attach.new.shelf) (narrows_attaches c.args.vol c.args.plex (option_copied c.args.fmr) c.args.core.now c.regain.new.core (g.S.Shelf.meaning c.args.shelf.now) (g.S.Shelf.meaning c.regain.new.shelf) (g.met.S.Shelf.lawful c.regain.new.shelf) c.requires.stands c.regain.ensures.narrows c.regain.ensures.parts (λ w q apart. active_volumes c.regain.new.core.config c.args.core.now.config c.regain.ensures.volumes w q)) c.attach.ensures.attaches

pub returns-clause-regains : goal.returns-clause-regains
returns-clause-regains g c =
    then_regains (g.S.Shelf.meaning c.args.shelf.now) (g.S.Shelf.meaning c.regain.new.shelf) (g.S.Shelf.meaning c.attach.new.shelf) c.regain.ensures.narrows.acts.faults c.attach.ensures.attaches.acts.faults c.args.core.now.config c.regain.new.core.config c.attach.new.core.config c.args.vol c.args.plex c.attach.ensures.failing c.regain.ensures.regains

pub returns-clause-held : goal.returns-clause-held
returns-clause-held g c =
    all_holds c.attach.result (record { moment = c.regain.new.shelf; config = c.regain.new.core.config; volumes = c.regain.ensures.volumes; now = c.in-Ok.ensures.held; rises = c.attach.ensures.attaches.acts.faults; failing = c.attach.ensures.failing })

pub returns-clause-cause : goal.returns-clause-cause
returns-clause-cause g c =
    blames_later c.attach.result (g.S.Shelf.meaning c.args.shelf.now) (g.S.Shelf.meaning c.regain.new.shelf) (g.S.Shelf.meaning c.attach.new.shelf) c.regain.ensures.narrows.acts.disk_faults c.attach.ensures.cause

pub attach-requires-clause-knows : goal.attach-requires-clause-knows
attach-requires-clause-knows g c =
    knows_later c.args.core.now.config c.regain.new.core.config c.args.vol c.args.plex (option_copied c.args.fmr) (g.S.Shelf.meaning c.args.shelf.now) (g.S.Shelf.meaning c.regain.new.shelf)
    (present c.regain.new.core.config c.args.vol c.args.plex (may_behind c.args.core.now.config c.regain.new.core.config c.args.vol c.args.plex c.requires.may c.requires.more c.regain.ensures.volumes c.in-Ok.ensures.few)) (sound_of c.regain.new.core (g.S.Shelf.meaning c.regain.new.shelf) c.regain.ensures.stands)
    c.regain.ensures.volumes (narrows_reads c.args.core.now c.regain.new.core (g.S.Shelf.meaning c.args.shelf.now) (g.S.Shelf.meaning c.regain.new.shelf) c.regain.ensures.narrows c.in-Ok.ensures.cause) c.requires.knows

pub returns-clause-count : goal.returns-clause-count
returns-clause-count g c = same_count _ _ c.attach.result c.attach.ensures.count (missed_volumes c.args.core.now.config c.regain.new.core.config c.args.vol c.args.plex (option_copied c.args.fmr) c.regain.ensures.volumes)

pub returns-in-Err-clause-finds : goal.returns-in-Err-clause-finds
returns-in-Err-clause-finds g c =
    c.regain.ensures.finds

pub returns-clause-finds : goal.returns-clause-finds
returns-clause-finds g c =
    then_finds c.args.core.now c.regain.new.core c.attach.new.core (g.S.Shelf.meaning c.args.shelf.now) (g.S.Shelf.meaning c.regain.new.shelf) (g.S.Shelf.meaning c.attach.new.shelf) c.regain.ensures.finds c.attach.ensures.finds

pub returns-in-Err-clause-logs : goal.returns-in-Err-clause-logs
returns-in-Err-clause-logs g c = volumes_logs c.args.core.now.config c.regain.new.core.config c.regain.ensures.volumes

pub returns-clause-logs : goal.returns-clause-logs
returns-clause-logs g c =
    then_logs c.args.core.now.config c.regain.new.core.config c.attach.new.core.config (volumes_logs c.args.core.now.config c.regain.new.core.config c.regain.ensures.volumes) c.attach.ensures.logs

pub returns-in-Err-clause-settles : goal.returns-in-Err-clause-settles
returns-in-Err-clause-settles g c = c.regain.ensures.settles

pub returns-clause-settles : goal.returns-clause-settles
returns-clause-settles g c = then_told c.args.core.now c.regain.new.core c.attach.new.core (g.S.Shelf.meaning c.args.shelf.now) (g.S.Shelf.meaning c.regain.new.shelf) (g.S.Shelf.meaning c.attach.new.shelf) c.regain.ensures.settles c.attach.ensures.settles
