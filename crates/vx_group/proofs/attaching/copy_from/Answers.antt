-- `copy_from`: clauses stands, attaches, opens, serial, cause, same, disks, count and knows; what `attach_from` asks.
use Rattle.std.proofs.Common.{◌≡◌, true, false, Err, length, ap, sym, ◌∙◌, subst, arith, ℕ}
use Rattle.std.specs.Option.{option_copied}
use Rattle.vx_model.specs.declared.site.PlexState.TheVariants.{Active}
use Rattle.vx_config.specs.Checks.{is_sound}
use Rattle.vx_config.specs.declared.config.Config.{Config}
use Rattle.vx_volume.specs.Plexes.{DisksFit, active, uses}
use Rattle.vx_group.proofs.AttachLemmas.{back_Stands, back_attaches, same_back, to_Stands, to_attaches, to_finds}
use Rattle.vx_group.specs.Holding.{with_config}
use Rattle.vx_group.proofs.MissLemmas.{count_by, knows_copied, misses_by, picked_goes, reach_by, refused_cause}
use Rattle.vx_group.proofs.OpeningLemmas.{open_on, open_shape, open_sound, open_wider, present}
use Rattle.vx_group.proofs.SourcesLemmas.{copy_by}
use Rattle.vx_group.proofs.UsesLemmas.{uses_stated}
use Rattle.vx_group.proofs.Standing.{fit_of, sound_of}
use Rattle.vx_group.proofs.TrustStillLemmas.{same_logs, stated_still}
use Rattle.vx_group.specs.Loses.{TrustsStill}
use Rattle.vx_group.specs.declared.inner.Inner.{Inner}
use Rattle.vx_group.proofs.attaching.copy_from.Goals as goal

pub attach_from-requires-clause-checked : goal.attach_from-requires-clause-checked
attach_from-requires-clause-checked g c =
    subst (λ (x : Config). is_sound x ≡ true) (sym c.set_state.ensures.changed)
    (open_sound c.args.core.now.config c.args.vol c.args.plex (present c.args.core.now.config c.args.vol c.args.plex c.requires.may) (sound_of c.args.core.now (g.S.Shelf.meaning c.args.shelf.now) c.requires.stands))

pub attach_from-requires-clause-volume : goal.attach_from-requires-clause-volume
attach_from-requires-clause-volume g c =
    let lt = c.requires.may.volume in
    let same = ap (λ (x : Config). length x.volumes) c.set_state.ensures.changed ∙ (open_shape c.args.core.now.config c.args.vol c.args.plex (present c.args.core.now.config c.args.vol c.args.plex c.requires.may)).volumes in
    omega (arith, lt, same)

pub attach_from-requires-clause-from : goal.attach_from-requires-clause-from
attach_from-requires-clause-from g c =
    ap (λ (x : Config). active x c.args.vol c.args.source) c.set_state.ensures.changed
    ∙ open_wider c.args.core.now.config c.args.vol c.args.plex (present c.args.core.now.config c.args.vol c.args.plex c.requires.may) c.args.vol c.args.source c.requires.from

pub attach_from-requires-clause-to : goal.attach_from-requires-clause-to
attach_from-requires-clause-to g c =
    ap (λ (x : Config). active x c.args.vol c.args.plex) c.set_state.ensures.changed ∙ open_on c.args.core.now.config c.args.vol c.args.plex (present c.args.core.now.config c.args.vol c.args.plex c.requires.may)

pub attach_from-requires-clause-disks : goal.attach_from-requires-clause-disks
attach_from-requires-clause-disks g c =
    subst (λ (x : Config). DisksFit x.disks (g.S.Shelf.meaning c.args.shelf.now)) (sym c.set_state.ensures.changed) (fit_of c.args.core.now (g.S.Shelf.meaning c.args.shelf.now) c.requires.stands)

pub returns-in-Ok-clause-stands : goal.returns-in-Ok-clause-stands
returns-in-Ok-clause-stands g c =
    to_Stands c.args.core.now c.args.vol c.args.plex (option_copied c.args.fmr) c.requires.may c.requires.off (g.S.Shelf.meaning c.args.shelf.now) (g.S.Shelf.meaning c.attach_from.new.shelf) (g.met.S.Shelf.lawful c.args.shelf.now) (g.met.S.Shelf.lawful c.attach_from.new.shelf) c.requires.stands c.set_state.new.self c.set_state.ensures.changed (picked_goes c.set_state.new.self c.args.vol c.args.source c.args.plex (option_copied c.args.fmr) (g.S.Shelf.meaning c.args.shelf.now) (g.S.Shelf.meaning c.attach_from.new.shelf) c.attach_from.ensures.moved)

pub returns-in-Ok-clause-attaches : goal.returns-in-Ok-clause-attaches
returns-in-Ok-clause-attaches g c =
    to_attaches c.args.core.now c.args.vol c.args.plex (option_copied c.args.fmr) c.requires.may c.requires.off (g.S.Shelf.meaning c.args.shelf.now) (g.S.Shelf.meaning c.attach_from.new.shelf) (g.met.S.Shelf.lawful c.args.shelf.now) (g.met.S.Shelf.lawful c.attach_from.new.shelf) c.requires.stands c.set_state.new.self c.set_state.ensures.changed (picked_goes c.set_state.new.self c.args.vol c.args.source c.args.plex (option_copied c.args.fmr) (g.S.Shelf.meaning c.args.shelf.now) (g.S.Shelf.meaning c.attach_from.new.shelf) c.attach_from.ensures.moved)
    c.args.source c.requires.from (c.in-Ok.ensures.copied (misses_by c.args.core.now.config c.args.vol c.args.source c.args.plex (option_copied c.args.fmr) (g.S.Shelf.meaning c.args.shelf.now) (present c.args.core.now.config c.args.vol c.args.plex c.requires.may) c.requires.knows c.set_state.new.self c.set_state.ensures.changed c.requires.from))

pub returns-in-Ok-clause-opens : goal.returns-in-Ok-clause-opens
returns-in-Ok-clause-opens g c =
    ap (λ (x : Config). active x c.args.vol c.args.plex) c.set_state.ensures.changed ∙ open_on c.args.core.now.config c.args.vol c.args.plex (present c.args.core.now.config c.args.vol c.args.plex c.requires.may)

pub returns-in-Ok-clause-serial : goal.returns-in-Ok-clause-serial
returns-in-Ok-clause-serial g c = ap (λ (x : Config). x.serial) c.set_state.ensures.changed

pub returns-in-Err-clause-stands : goal.returns-in-Err-clause-stands
returns-in-Err-clause-stands g c =
    back_Stands c.args.core.now c.args.vol c.args.plex (option_copied c.args.fmr) c.requires.may c.requires.off (g.S.Shelf.meaning c.args.shelf.now) (g.S.Shelf.meaning c.attach_from.new.shelf) (g.met.S.Shelf.lawful c.args.shelf.now) (g.met.S.Shelf.lawful c.attach_from.new.shelf) c.requires.stands c.set_state.new.self c.set_state.ensures.changed (picked_goes c.set_state.new.self c.args.vol c.args.source c.args.plex (option_copied c.args.fmr) (g.S.Shelf.meaning c.args.shelf.now) (g.S.Shelf.meaning c.attach_from.new.shelf) c.attach_from.ensures.moved)
    c.set_state-in-Err.new.self c.whole_of-whole.result c.whole_of-whole.ensures c.set_state-in-Err.ensures.changed

pub returns-in-Err-clause-attaches : goal.returns-in-Err-clause-attaches
returns-in-Err-clause-attaches g c =
    back_attaches c.args.core.now c.args.vol c.args.plex (option_copied c.args.fmr) c.requires.may c.requires.off (g.S.Shelf.meaning c.args.shelf.now) (g.S.Shelf.meaning c.attach_from.new.shelf) (g.met.S.Shelf.lawful c.args.shelf.now) (g.met.S.Shelf.lawful c.attach_from.new.shelf) c.requires.stands c.set_state.new.self c.set_state.ensures.changed (picked_goes c.set_state.new.self c.args.vol c.args.source c.args.plex (option_copied c.args.fmr) (g.S.Shelf.meaning c.args.shelf.now) (g.S.Shelf.meaning c.attach_from.new.shelf) c.attach_from.ensures.moved)
    c.set_state-in-Err.new.self c.whole_of-whole.result c.whole_of-whole.ensures c.set_state-in-Err.ensures.changed

pub returns-in-Err-clause-opens : goal.returns-in-Err-clause-opens
returns-in-Err-clause-opens g c =
    ap (λ (x : Config). active x c.args.vol c.args.plex)
    (same_back c.args.core.now c.args.vol c.args.plex (option_copied c.args.fmr) c.requires.may c.requires.off (g.S.Shelf.meaning c.args.shelf.now) (g.S.Shelf.meaning c.attach_from.new.shelf) (g.met.S.Shelf.lawful c.args.shelf.now) (g.met.S.Shelf.lawful c.attach_from.new.shelf) c.requires.stands c.set_state.new.self c.set_state.ensures.changed (picked_goes c.set_state.new.self c.args.vol c.args.source c.args.plex (option_copied c.args.fmr) (g.S.Shelf.meaning c.args.shelf.now) (g.S.Shelf.meaning c.attach_from.new.shelf) c.attach_from.ensures.moved)
    c.set_state-in-Err.new.self c.whole_of-whole.result c.whole_of-whole.ensures c.set_state-in-Err.ensures.changed)
    ∙ c.requires.off

pub returns-in-Err-clause-serial : goal.returns-in-Err-clause-serial
returns-in-Err-clause-serial g c = ap (λ (x : Config). x.serial) (c.set_state-in-Err.ensures.changed) ∙ ap (λ (x : Config). x.serial) c.set_state.ensures.changed

pub returns-in-Err-clause-cause : goal.returns-in-Err-clause-cause
returns-in-Err-clause-cause g c =
    copy_by {T = ℕ} c.args.core.now.config c.set_state.new.self c.args.vol c.args.source c.args.plex (g.S.Shelf.meaning c.args.shelf.now) (g.S.Shelf.meaning c.attach_from.new.shelf)
    (λ x q u. ap (λ (e : Config). uses e x q u) c.set_state.ensures.changed ∙ uses_stated c.args.vol c.args.plex Active false c.args.core.now.config x q u) (Err c.fault_of.result)
    (refused_cause ℕ ℕ c.set_state.new.self c.args.vol c.args.source c.args.plex (g.S.Shelf.meaning c.args.shelf.now) (g.S.Shelf.meaning c.attach_from.new.shelf) c.in-Err.no c.fault_of.result c.fault_of.ensures c.in-Err.ensures.blamed)

pub returns-in-Err-clause-same : goal.returns-in-Err-clause-same
returns-in-Err-clause-same g c =
    ap (λ (x : Config). with_config x c.args.core.now)
    (same_back c.args.core.now c.args.vol c.args.plex (option_copied c.args.fmr) c.requires.may c.requires.off (g.S.Shelf.meaning c.args.shelf.now) (g.S.Shelf.meaning c.attach_from.new.shelf) (g.met.S.Shelf.lawful c.args.shelf.now) (g.met.S.Shelf.lawful c.attach_from.new.shelf) c.requires.stands c.set_state.new.self c.set_state.ensures.changed (picked_goes c.set_state.new.self c.args.vol c.args.source c.args.plex (option_copied c.args.fmr) (g.S.Shelf.meaning c.args.shelf.now) (g.S.Shelf.meaning c.attach_from.new.shelf) c.attach_from.ensures.moved)
    c.set_state-in-Err.new.self c.whole_of-whole.result c.whole_of-whole.ensures c.set_state-in-Err.ensures.changed)

pub returns-in-Ok-clause-disks : goal.returns-in-Ok-clause-disks
returns-in-Ok-clause-disks g c = ap (λ (x : Config). x.disks) c.set_state.ensures.changed

pub returns-in-Err-clause-disks : goal.returns-in-Err-clause-disks
returns-in-Err-clause-disks g c = ap (λ (x : Config). x.disks) (c.set_state-in-Err.ensures.changed) ∙ ap (λ (x : Config). x.disks) c.set_state.ensures.changed

pub attach_from-requires-clause-reach : goal.attach_from-requires-clause-reach
attach_from-requires-clause-reach g c = reach_by c.args.core.now.config c.args.vol c.args.source c.args.plex (option_copied c.args.fmr) (g.S.Shelf.meaning c.args.shelf.now) (present c.args.core.now.config c.args.vol c.args.plex c.requires.may) c.requires.knows c.set_state.new.self c.set_state.ensures.changed

pub returns-in-Ok-clause-cause : goal.returns-in-Ok-clause-cause
returns-in-Ok-clause-cause g c = c.in-Ok.ensures.blamed

pub returns-in-Ok-clause-count : goal.returns-in-Ok-clause-count
returns-in-Ok-clause-count g c = count_by c.args.core.now.config c.args.vol c.args.plex c.in-Ok.copied (option_copied c.args.fmr) (present c.args.core.now.config c.args.vol c.args.plex c.requires.may) c.set_state.new.self c.set_state.ensures.changed c.in-Ok.ensures.count

pub returns-in-Ok-clause-knows : goal.returns-in-Ok-clause-knows
returns-in-Ok-clause-knows g c = λ up. knows_copied c.args.core.now.config c.args.vol c.args.source c.args.plex (option_copied c.args.fmr) (g.S.Shelf.meaning c.args.shelf.now) (present c.args.core.now.config c.args.vol c.args.plex c.requires.may) c.requires.knows c.set_state.new.self c.set_state.ensures.changed (sound_of c.args.core.now (g.S.Shelf.meaning c.args.shelf.now) c.requires.stands) (g.S.Shelf.meaning c.attach_from.new.shelf) c.attach_from.ensures.moved up

pub returns-in-Err-clause-knows : goal.returns-in-Err-clause-knows
returns-in-Err-clause-knows g c = λ up. knows_copied c.args.core.now.config c.args.vol c.args.source c.args.plex (option_copied c.args.fmr) (g.S.Shelf.meaning c.args.shelf.now) (present c.args.core.now.config c.args.vol c.args.plex c.requires.may) c.requires.knows c.set_state.new.self c.set_state.ensures.changed (sound_of c.args.core.now (g.S.Shelf.meaning c.args.shelf.now) c.requires.stands) (g.S.Shelf.meaning c.attach_from.new.shelf) c.attach_from.ensures.moved up

pub returns-in-Ok-clause-less : goal.returns-in-Ok-clause-less
returns-in-Ok-clause-less g c =
    to_finds c.args.core.now c.args.vol c.args.plex (option_copied c.args.fmr) c.requires.may c.requires.off (g.S.Shelf.meaning c.args.shelf.now) (g.S.Shelf.meaning c.attach_from.new.shelf) (g.met.S.Shelf.lawful c.args.shelf.now) (g.met.S.Shelf.lawful c.attach_from.new.shelf) c.requires.stands c.set_state.new.self c.set_state.ensures.changed (picked_goes c.set_state.new.self c.args.vol c.args.source c.args.plex (option_copied c.args.fmr) (g.S.Shelf.meaning c.args.shelf.now) (g.S.Shelf.meaning c.attach_from.new.shelf) c.attach_from.ensures.moved)

pub returns-in-Err-clause-less : goal.returns-in-Err-clause-less
returns-in-Err-clause-less g c =
    to_finds c.args.core.now c.args.vol c.args.plex (option_copied c.args.fmr) c.requires.may c.requires.off (g.S.Shelf.meaning c.args.shelf.now) (g.S.Shelf.meaning c.attach_from.new.shelf) (g.met.S.Shelf.lawful c.args.shelf.now) (g.met.S.Shelf.lawful c.attach_from.new.shelf) c.requires.stands c.set_state.new.self c.set_state.ensures.changed (picked_goes c.set_state.new.self c.args.vol c.args.source c.args.plex (option_copied c.args.fmr) (g.S.Shelf.meaning c.args.shelf.now) (g.S.Shelf.meaning c.attach_from.new.shelf) c.attach_from.ensures.moved)

pub returns-in-Ok-clause-logs : goal.returns-in-Ok-clause-logs
returns-in-Ok-clause-logs g c = subst (λ (x : Config). TrustsStill c.args.core.now.config x) (sym c.set_state.ensures.changed) (stated_still c.args.vol c.args.plex Active false c.args.core.now.config)

pub returns-in-Err-clause-logs : goal.returns-in-Err-clause-logs
returns-in-Err-clause-logs g c = subst (λ (x : Config). TrustsStill c.args.core.now.config x) (sym (ap (λ (x : Inner). x.config) (returns-in-Err-clause-same g c))) (same_logs c.args.core.now.config)
