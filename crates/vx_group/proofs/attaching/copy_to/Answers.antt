-- `copy_to`: clauses attaches, settled, serial, disks, stands, opens, no_source, cause and count; what `try_from` asks; what stays true in its loop over `source`.
use Rattle.std.proofs.Common.{ap, refl, sym, ◌∙◌, subst, arith}
use Rattle.std.specs.Option.{option_copied}
use Rattle.vx_volume.specs.Plexes.{active}
use Rattle.vx_group.specs.Attaches.{Attaches, KnowsMissed, MayAttach, missed_regions}
use Rattle.vx_group.specs.Stands.{InnerStands}
use Rattle.vx_group.specs.declared.inner.Inner.{Inner}
use Rattle.vx_group.proofs.AttachLemmas.{then_attaches}
use Rattle.vx_group.proofs.SourcesLemmas.{sources_all, sources_blame, sources_next, sources_start, tried_up}
use Rattle.vx_kept.proofs.Findings.{then_from}
use Rattle.vx_kept.specs.Finds.{NoConfiguration}
use Rattle.vx_group.proofs.TrustStillLemmas.{same_logs}
use Rattle.vx_group.specs.Loses.{TrustsStill}
use Rattle.vx_group.proofs.attaching.copy_to.Goals as goal

pub loop-source-init : goal.loop-source-init
loop-source-init g c =
    (sources_start c.args.core.now c.args.vol c.args.plex (option_copied c.args.fmr) 0 (g.S.Shelf.meaning c.args.shelf.now) (g.met.S.Shelf.lawful c.args.shelf.now) c.requires.stands c.requires.up, refl, c.requires.knows)

pub try_from-requires-clause-stands : goal.try_from-requires-clause-stands
try_from-requires-clause-stands g c =
    subst (λ (x : Inner). InnerStands x (g.S.Shelf.meaning c.loop-source.shelf)) (sym c.loop-source.invariant.1) c.loop-source.invariant.0.stands

pub try_from-requires-clause-may : goal.try_from-requires-clause-may
try_from-requires-clause-may g c =
    subst (λ (x : Inner). MayAttach x.config c.args.vol c.args.plex) (sym c.loop-source.invariant.1) c.requires.may

pub try_from-requires-clause-off : goal.try_from-requires-clause-off
try_from-requires-clause-off g c =
    ap (λ (x : Inner). active x.config c.args.vol c.args.plex) c.loop-source.invariant.1 ∙ c.requires.off

pub try_from-requires-clause-up : goal.try_from-requires-clause-up
try_from-requires-clause-up g c =
    c.loop-source.invariant.0.up

pub loop-source-preserved : goal.loop-source-preserved
loop-source-preserved g c = (
  sources_next c.args.core.now c.args.vol c.args.plex (option_copied c.args.fmr) c.loop-source.source c.loop-source.device (g.S.Shelf.meaning c.args.shelf.now) (g.S.Shelf.meaning c.loop-source.shelf) (g.S.Shelf.meaning c.try_from.new.shelf) c.loop-source.invariant.0 c.loop-source.core c.try_from.new.core c.loop-source.invariant.1 c.in-Err-Fault.ensures.same c.try_from.ensures.attaches c.in-Err-Fault.disk c.in-Err-Fault.field-0 c.in-Err-Fault.field-0-is c.try_from.ensures.stands c.try_from.ensures.less c.in-Err-Fault.ensures.tried,
  c.in-Err-Fault.ensures.same ∙ c.loop-source.invariant.1,
  subst (λ (x : Inner). KnowsMissed x.config c.args.vol c.args.plex (option_copied c.args.fmr) (g.S.Shelf.meaning c.try_from.new.shelf)) c.loop-source.invariant.1
      (c.try_from.ensures.knows (tried_up c.loop-source.core.config c.args.vol c.loop-source.source c.args.plex c.loop-source.device c.in-Err-Fault.disk c.in-Err-Fault.field-0 (g.S.Shelf.meaning c.loop-source.shelf) (g.S.Shelf.meaning c.try_from.new.shelf) c.in-Err-Fault.field-0-is c.in-Err-Fault.ensures.tried)),
)

pub returns-in-Ok-clause-attaches : goal.returns-in-Ok-clause-attaches
returns-in-Ok-clause-attaches g c =
    then_attaches c.args.vol c.args.plex (option_copied c.args.fmr) c.args.core.now c.args.core.now c.try_from.new.core (g.S.Shelf.meaning c.args.shelf.now) (g.S.Shelf.meaning c.loop-source.shelf) (g.S.Shelf.meaning c.try_from.new.shelf) c.loop-source.invariant.0.attaches (subst (λ (x : Inner). Attaches c.args.vol c.args.plex (option_copied c.args.fmr) x c.try_from.new.core (g.S.Shelf.meaning c.loop-source.shelf) (g.S.Shelf.meaning c.try_from.new.shelf)) c.loop-source.invariant.1 c.try_from.ensures.attaches)

pub returns-in-Ok-clause-settled : goal.returns-in-Ok-clause-settled
returns-in-Ok-clause-settled g c =
    c.try_from.ensures.settled ∙ ap (λ (x : Inner). x.unsettled) c.loop-source.invariant.1

pub returns-in-Ok-clause-serial : goal.returns-in-Ok-clause-serial
returns-in-Ok-clause-serial g c =
    c.try_from.ensures.serial ∙ ap (λ (x : Inner). x.config.serial) c.loop-source.invariant.1

pub returns-in-Ok-clause-disks : goal.returns-in-Ok-clause-disks
returns-in-Ok-clause-disks g c =
    c.try_from.ensures.disks ∙ ap (λ (x : Inner). x.config.disks) c.loop-source.invariant.1

pub returns-in-Err-Down-clause-attaches : goal.returns-in-Err-Down-clause-attaches
returns-in-Err-Down-clause-attaches g c =
    then_attaches c.args.vol c.args.plex (option_copied c.args.fmr) c.args.core.now c.args.core.now c.try_from.new.core (g.S.Shelf.meaning c.args.shelf.now) (g.S.Shelf.meaning c.loop-source.shelf) (g.S.Shelf.meaning c.try_from.new.shelf) c.loop-source.invariant.0.attaches (subst (λ (x : Inner). Attaches c.args.vol c.args.plex (option_copied c.args.fmr) x c.try_from.new.core (g.S.Shelf.meaning c.loop-source.shelf) (g.S.Shelf.meaning c.try_from.new.shelf)) c.loop-source.invariant.1 c.try_from.ensures.attaches)

pub returns-in-Err-Down-clause-settled : goal.returns-in-Err-Down-clause-settled
returns-in-Err-Down-clause-settled g c =
    c.try_from.ensures.settled ∙ ap (λ (x : Inner). x.unsettled) c.loop-source.invariant.1

pub returns-in-Err-Down-clause-serial : goal.returns-in-Err-Down-clause-serial
returns-in-Err-Down-clause-serial g c =
    c.try_from.ensures.serial ∙ ap (λ (x : Inner). x.config.serial) c.loop-source.invariant.1

pub returns-in-Err-Down-clause-disks : goal.returns-in-Err-Down-clause-disks
returns-in-Err-Down-clause-disks g c =
    c.try_from.ensures.disks ∙ ap (λ (x : Inner). x.config.disks) c.loop-source.invariant.1

pub returns-clause-stands : goal.returns-clause-stands
returns-clause-stands g c =
    subst (λ (x : Inner). InnerStands x (g.S.Shelf.meaning c.loop-source.shelf)) (sym c.loop-source.invariant.1) c.loop-source.invariant.0.stands

pub returns-clause-attaches : goal.returns-clause-attaches
returns-clause-attaches g c =
    subst (λ (x : Inner). Attaches c.args.vol c.args.plex (option_copied c.args.fmr) c.args.core.now x (g.S.Shelf.meaning c.args.shelf.now) (g.S.Shelf.meaning c.loop-source.shelf)) (sym c.loop-source.invariant.1) c.loop-source.invariant.0.attaches

pub returns-clause-opens : goal.returns-clause-opens
returns-clause-opens g c =
    ap (λ (x : Inner). active x.config c.args.vol c.args.plex) c.loop-source.invariant.1 ∙ c.requires.off

pub returns-clause-settled : goal.returns-clause-settled
returns-clause-settled g c =
    ap (λ (x : Inner). x.unsettled) c.loop-source.invariant.1

pub returns-clause-serial : goal.returns-clause-serial
returns-clause-serial g c =
    ap (λ (x : Inner). x.config.serial) c.loop-source.invariant.1

pub returns-clause-disks : goal.returns-clause-disks
returns-clause-disks g c =
    ap (λ (x : Inner). x.config.disks) c.loop-source.invariant.1

pub returns-clause-no_source : goal.returns-clause-no_source
returns-clause-no_source g c =
    sources_all c.args.core.now c.args.vol c.args.plex (option_copied c.args.fmr) c.loop-source.source c.loop-source.device (g.S.Shelf.meaning c.args.shelf.now) (g.S.Shelf.meaning c.loop-source.shelf) c.loop-source.invariant.0 (let le = c.loop-source-test.false in omega (arith, le))

pub returns-clause-cause : goal.returns-clause-cause
returns-clause-cause g c =
    sources_blame c.args.core.now c.args.vol c.args.plex (option_copied c.args.fmr) c.loop-source.source c.loop-source.device (g.S.Shelf.meaning c.args.shelf.now) (g.S.Shelf.meaning c.loop-source.shelf) c.loop-source.invariant.0 (let le = c.loop-source-test.false in omega (arith, le)) c.requires.may.volume

pub try_from-requires-clause-knows : goal.try_from-requires-clause-knows
try_from-requires-clause-knows g c =
    subst (λ (x : Inner). KnowsMissed x.config c.args.vol c.args.plex (option_copied c.args.fmr) (g.S.Shelf.meaning c.loop-source.shelf)) (sym c.loop-source.invariant.1) c.loop-source.invariant.2

pub returns-in-Ok-clause-count : goal.returns-in-Ok-clause-count
returns-in-Ok-clause-count g c = c.in-Ok.ensures.count ∙ ap (λ (x : Inner). missed_regions x.config c.args.vol c.args.plex (option_copied c.args.fmr)) c.loop-source.invariant.1

pub returns-in-Ok-clause-less : goal.returns-in-Ok-clause-less
returns-in-Ok-clause-less g c =
    then_from NoConfiguration (g.S.Shelf.meaning c.args.shelf.now) (g.S.Shelf.meaning c.loop-source.shelf) (g.S.Shelf.meaning c.try_from.new.shelf) c.loop-source.invariant.0.less c.try_from.ensures.less

pub returns-in-Err-Down-clause-less : goal.returns-in-Err-Down-clause-less
returns-in-Err-Down-clause-less g c =
    then_from NoConfiguration (g.S.Shelf.meaning c.args.shelf.now) (g.S.Shelf.meaning c.loop-source.shelf) (g.S.Shelf.meaning c.try_from.new.shelf) c.loop-source.invariant.0.less c.try_from.ensures.less

pub returns-clause-less : goal.returns-clause-less
returns-clause-less g c =
    c.loop-source.invariant.0.less

pub returns-in-Err-Down-clause-same : goal.returns-in-Err-Down-clause-same
returns-in-Err-Down-clause-same g c = c.in-Err-Down.ensures.same ∙ c.loop-source.invariant.1

pub returns-clause-same : goal.returns-clause-same
returns-clause-same g c = c.loop-source.invariant.1

pub returns-in-Ok-clause-logs : goal.returns-in-Ok-clause-logs
returns-in-Ok-clause-logs g c = subst (λ (x : Inner). TrustsStill x.config c.try_from.new.core.config) c.loop-source.invariant.1 c.try_from.ensures.logs

pub returns-in-Err-Down-clause-logs : goal.returns-in-Err-Down-clause-logs
returns-in-Err-Down-clause-logs g c = subst (λ (x : Inner). TrustsStill x.config c.try_from.new.core.config) c.loop-source.invariant.1 c.try_from.ensures.logs

pub returns-clause-logs : goal.returns-clause-logs
returns-clause-logs g c = subst (λ (x : Inner). TrustsStill c.args.core.now.config x.config) (sym c.loop-source.invariant.1) (same_logs c.args.core.now.config)
