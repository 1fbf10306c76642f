-- Both logs of a volume, each committed as lost where it is wanted.
use Rattle.std.proofs.Common.{◌≡◌, Bool, true, false, ◌∙◌}
use Rattle.std.specs.Prelude.{Err}
use Rattle.vx_disk.specs.Shelf.{Nothing}
use Rattle.vx_disk.proofs.Causing.{Cause_both}
use Rattle.vx_disk.proofs.Runs.{then_nothing}
use Rattle.vx_group.specs.Holding.{wide}
use Rattle.vx_group.specs.Stands.{inner_meaning}
use Rattle.vx_config.specs.declared.entry.VolumeLog.TheVariants.{Drl}
use Rattle.vx_logged.proofs.RefuseLemmas.{map_said}
use Rattle.vx_logged.proofs.StandLemmas.{each_then, narrowed_then}
use Rattle.vx_group.proofs.LoseLemmas.{then_along}
use Rattle.vx_group.proofs.UnitLemmas.{then_units}
use Rattle.vx_group.proofs.FindingLemmas.{then_group}
use Rattle.vx_logged.proofs.GoneLogs.{trusts_then}
use Rattle.vx_group.proofs.UnsureLemmas.{unsure_then}
use Rattle.vx_logged.proofs.keeping.keep_logs.Goals as goal

pub returns-in-Ok-keep_map-clause-goes : goal.returns-in-Ok-keep_map-clause-goes
returns-in-Ok-keep_map-clause-goes g c = then_nothing Nothing (inner_meaning (wide c.args.core.now) (g.S.Shelf.meaning c.args.shelf.now)) (inner_meaning (wide c.keep_log.new.core) (g.S.Shelf.meaning c.keep_log.new.shelf)) (inner_meaning (wide c.keep_map.new.core) (g.S.Shelf.meaning c.keep_map.new.shelf)) c.keep_log.ensures.goes c.keep_map.ensures.goes

pub returns-in-Ok-keep_map-clause-logs : goal.returns-in-Ok-keep_map-clause-logs
returns-in-Ok-keep_map-clause-logs g c = each_then c.args.core.now c.keep_log.new.core c.keep_map.new.core (g.S.Shelf.meaning c.args.shelf.now) (g.S.Shelf.meaning c.keep_log.new.shelf) (g.S.Shelf.meaning c.keep_map.new.shelf) c.keep_log.ensures.logs c.keep_map.ensures.logs

pub returns-in-Ok-keep_map-clause-narrow : goal.returns-in-Ok-keep_map-clause-narrow
returns-in-Ok-keep_map-clause-narrow g c = narrowed_then c.args.core.now c.keep_log.new.core c.keep_map.new.core c.keep_log.ensures.narrow c.keep_map.ensures.narrow

pub returns-in-Ok-keep_map-clause-kept : goal.returns-in-Ok-keep_map-clause-kept
returns-in-Ok-keep_map-clause-kept g c = λ is told none. c.in-Ok.ensures.kept c.if-not-done.false (c.keep_map.ensures.narrow.less c.args.vol Drl told) none

pub returns-in-Err-keep_map-clause-goes : goal.returns-in-Err-keep_map-clause-goes
returns-in-Err-keep_map-clause-goes g c = then_nothing Nothing (inner_meaning (wide c.args.core.now) (g.S.Shelf.meaning c.args.shelf.now)) (inner_meaning (wide c.keep_log.new.core) (g.S.Shelf.meaning c.keep_log.new.shelf)) (inner_meaning (wide c.keep_map.new.core) (g.S.Shelf.meaning c.keep_map.new.shelf)) c.keep_log.ensures.goes c.keep_map.ensures.goes

pub returns-in-Err-keep_map-clause-logs : goal.returns-in-Err-keep_map-clause-logs
returns-in-Err-keep_map-clause-logs g c = each_then c.args.core.now c.keep_log.new.core c.keep_map.new.core (g.S.Shelf.meaning c.args.shelf.now) (g.S.Shelf.meaning c.keep_log.new.shelf) (g.S.Shelf.meaning c.keep_map.new.shelf) c.keep_log.ensures.logs c.keep_map.ensures.logs

pub returns-in-Err-keep_map-clause-narrow : goal.returns-in-Err-keep_map-clause-narrow
returns-in-Err-keep_map-clause-narrow g c = narrowed_then c.args.core.now c.keep_log.new.core c.keep_map.new.core c.keep_log.ensures.narrow c.keep_map.ensures.narrow

pub returns-then-not-done-clause-said : goal.returns-then-not-done-clause-said
returns-then-not-done-clause-said g c = λ is. absurd (let clash : false ≡ true = is in cc)

pub returns-in-Ok-keep_map-clause-said : goal.returns-in-Ok-keep_map-clause-said
returns-in-Ok-keep_map-clause-said g c = λ is. map_said c.keep_map.new.core c.args.vol c.args.logs.now c.in-Ok-keep_map.field-0 c.in-Ok-keep_map.ensures.kept c.in-Ok-keep_map.ensures.spent

pub returns-in-Ok-keep_map-clause-loses : goal.returns-in-Ok-keep_map-clause-loses
returns-in-Ok-keep_map-clause-loses g c = then_along c.args.core.now.inner.config c.keep_log.new.core.inner.config c.keep_map.new.core.inner.config (g.S.Shelf.meaning c.args.shelf.now) (g.S.Shelf.meaning c.keep_log.new.shelf) (g.S.Shelf.meaning c.keep_map.new.shelf) c.keep_log.ensures.loses c.keep_map.ensures.loses

pub returns-in-Err-keep_map-clause-loses : goal.returns-in-Err-keep_map-clause-loses
returns-in-Err-keep_map-clause-loses g c = then_along c.args.core.now.inner.config c.keep_log.new.core.inner.config c.keep_map.new.core.inner.config (g.S.Shelf.meaning c.args.shelf.now) (g.S.Shelf.meaning c.keep_log.new.shelf) (g.S.Shelf.meaning c.keep_map.new.shelf) c.keep_log.ensures.loses c.keep_map.ensures.loses

pub returns-in-Err-keep_map-clause-cause : goal.returns-in-Err-keep_map-clause-cause
returns-in-Err-keep_map-clause-cause g c = Cause_both {T = Bool} (inner_meaning (wide c.args.core.now) (g.S.Shelf.meaning c.args.shelf.now)) (inner_meaning (wide c.keep_log.new.core) (g.S.Shelf.meaning c.keep_log.new.shelf)) (inner_meaning (wide c.keep_map.new.core) (g.S.Shelf.meaning c.keep_map.new.shelf)) c.args.vol (Err c.in-Err-keep_map.error) c.in-Ok.ensures.cause c.keep_log.ensures.goes.faults c.keep_log.ensures.goes.disk_faults c.in-Err-keep_map.ensures.cause

pub returns-in-Ok-keep_map-clause-below : goal.returns-in-Ok-keep_map-clause-below
returns-in-Ok-keep_map-clause-below g c = then_units (g.S.Shelf.meaning c.args.shelf.now) (g.S.Shelf.meaning c.keep_log.new.shelf) (g.S.Shelf.meaning c.keep_map.new.shelf) c.keep_log.ensures.below c.keep_map.ensures.below

pub returns-in-Err-keep_map-clause-below : goal.returns-in-Err-keep_map-clause-below
returns-in-Err-keep_map-clause-below g c = then_units (g.S.Shelf.meaning c.args.shelf.now) (g.S.Shelf.meaning c.keep_log.new.shelf) (g.S.Shelf.meaning c.keep_map.new.shelf) c.keep_log.ensures.below c.keep_map.ensures.below

pub returns-in-Ok-keep_map-clause-finds : goal.returns-in-Ok-keep_map-clause-finds
returns-in-Ok-keep_map-clause-finds g c =
    then_group c.args.core.now c.keep_log.new.core c.keep_map.new.core (g.S.Shelf.meaning c.args.shelf.now) (g.S.Shelf.meaning c.keep_log.new.shelf) (g.S.Shelf.meaning c.keep_map.new.shelf)
    c.keep_log.ensures.finds
    c.keep_map.ensures.finds

pub returns-in-Err-keep_map-clause-finds : goal.returns-in-Err-keep_map-clause-finds
returns-in-Err-keep_map-clause-finds g c =
    then_group c.args.core.now c.keep_log.new.core c.keep_map.new.core (g.S.Shelf.meaning c.args.shelf.now) (g.S.Shelf.meaning c.keep_log.new.shelf) (g.S.Shelf.meaning c.keep_map.new.shelf)
    c.keep_log.ensures.finds
    c.keep_map.ensures.finds

pub returns-then-not-done-clause-finds : goal.returns-then-not-done-clause-finds
returns-then-not-done-clause-finds g c =
    c.keep_log.ensures.finds

pub returns-in-Err-clause-trusts : goal.returns-in-Err-clause-trusts
returns-in-Err-clause-trusts g c =
    c.keep_log.ensures.trusts

pub returns-then-not-done-clause-trusts : goal.returns-then-not-done-clause-trusts
returns-then-not-done-clause-trusts g c =
    c.keep_log.ensures.trusts

pub returns-in-Ok-keep_map-clause-trusts : goal.returns-in-Ok-keep_map-clause-trusts
returns-in-Ok-keep_map-clause-trusts g c =
    trusts_then c.args.vol c.args.logs.now c.args.core.now.inner.config c.keep_log.new.core.inner.config c.keep_map.new.core.inner.config c.keep_log.ensures.trusts c.keep_map.ensures.trusts

pub returns-in-Err-keep_map-clause-trusts : goal.returns-in-Err-keep_map-clause-trusts
returns-in-Err-keep_map-clause-trusts g c =
    trusts_then c.args.vol c.args.logs.now c.args.core.now.inner.config c.keep_log.new.core.inner.config c.keep_map.new.core.inner.config c.keep_log.ensures.trusts c.keep_map.ensures.trusts

pub returns-then-not-done-clause-spent : goal.returns-then-not-done-clause-spent
returns-then-not-done-clause-spent g c =
    λ is. c.in-Ok.ensures.spent c.if-not-done.true

pub returns-in-Ok-keep_map-clause-spent : goal.returns-in-Ok-keep_map-clause-spent
returns-in-Ok-keep_map-clause-spent g c =
    λ is. absurd (let clash : true ≡ false = is in cc)

pub returns-in-Err-clause-marks : goal.returns-in-Err-clause-marks
returns-in-Err-clause-marks g c = c.in-Err.ensures.marks

pub returns-in-Err-clause-misses : goal.returns-in-Err-clause-misses
returns-in-Err-clause-misses g c = c.in-Err.ensures.misses

pub returns-then-not-done-clause-marks : goal.returns-then-not-done-clause-marks
returns-then-not-done-clause-marks g c = c.in-Ok.ensures.marks

pub returns-in-Ok-keep_map-clause-marks : goal.returns-in-Ok-keep_map-clause-marks
returns-in-Ok-keep_map-clause-marks g c = c.in-Ok-keep_map.ensures.marks ∙ c.in-Ok.ensures.marks

pub returns-in-Err-keep_map-clause-marks : goal.returns-in-Err-keep_map-clause-marks
returns-in-Err-keep_map-clause-marks g c = unsure_then c.args.vol c.args.core.now.inner.unsure c.keep_log.new.core.inner.unsure c.keep_map.new.core.inner.unsure c.in-Err-keep_map.error c.in-Ok.ensures.marks c.in-Err-keep_map.ensures.marks

pub returns-in-Err-keep_map-clause-misses : goal.returns-in-Err-keep_map-clause-misses
returns-in-Err-keep_map-clause-misses g c = c.in-Err-keep_map.ensures.misses

pub returns-in-Err-clause-stands : goal.returns-in-Err-clause-stands
returns-in-Err-clause-stands g c = c.keep_log.ensures.stands

pub returns-in-Err-clause-goes : goal.returns-in-Err-clause-goes
returns-in-Err-clause-goes g c = c.keep_log.ensures.goes

pub returns-in-Err-clause-loses : goal.returns-in-Err-clause-loses
returns-in-Err-clause-loses g c = c.keep_log.ensures.loses

pub returns-in-Err-clause-logs : goal.returns-in-Err-clause-logs
returns-in-Err-clause-logs g c = c.keep_log.ensures.logs

pub returns-in-Err-clause-narrow : goal.returns-in-Err-clause-narrow
returns-in-Err-clause-narrow g c = c.keep_log.ensures.narrow

pub returns-in-Err-clause-below : goal.returns-in-Err-clause-below
returns-in-Err-clause-below g c = c.keep_log.ensures.below

pub returns-in-Err-clause-still : goal.returns-in-Err-clause-still
returns-in-Err-clause-still g c = c.keep_log.ensures.still

pub returns-in-Err-clause-kept : goal.returns-in-Err-clause-kept
returns-in-Err-clause-kept g c = tt

pub returns-in-Err-clause-said : goal.returns-in-Err-clause-said
returns-in-Err-clause-said g c = tt

pub returns-in-Err-clause-full : goal.returns-in-Err-clause-full
returns-in-Err-clause-full g c = tt

pub returns-in-Err-clause-spent : goal.returns-in-Err-clause-spent
returns-in-Err-clause-spent g c = tt

pub returns-in-Err-clause-trust : goal.returns-in-Err-clause-trust
returns-in-Err-clause-trust g c = tt

pub returns-in-Err-clause-agreed : goal.returns-in-Err-clause-agreed
returns-in-Err-clause-agreed g c = c.in-Err.ensures.agreed

pub returns-in-Err-clause-finds : goal.returns-in-Err-clause-finds
returns-in-Err-clause-finds g c = c.keep_log.ensures.finds

pub returns-in-Err-clause-cause : goal.returns-in-Err-clause-cause
returns-in-Err-clause-cause g c = c.in-Err.ensures.cause

pub returns-then-not-done-clause-stands : goal.returns-then-not-done-clause-stands
returns-then-not-done-clause-stands g c = c.keep_log.ensures.stands

pub returns-then-not-done-clause-goes : goal.returns-then-not-done-clause-goes
returns-then-not-done-clause-goes g c = c.keep_log.ensures.goes

pub returns-then-not-done-clause-loses : goal.returns-then-not-done-clause-loses
returns-then-not-done-clause-loses g c = c.keep_log.ensures.loses

pub returns-then-not-done-clause-logs : goal.returns-then-not-done-clause-logs
returns-then-not-done-clause-logs g c = c.keep_log.ensures.logs

pub returns-then-not-done-clause-narrow : goal.returns-then-not-done-clause-narrow
returns-then-not-done-clause-narrow g c = c.keep_log.ensures.narrow

pub returns-then-not-done-clause-below : goal.returns-then-not-done-clause-below
returns-then-not-done-clause-below g c = c.keep_log.ensures.below

pub returns-then-not-done-clause-still : goal.returns-then-not-done-clause-still
returns-then-not-done-clause-still g c = c.keep_log.ensures.still

pub returns-then-not-done-clause-trust : goal.returns-then-not-done-clause-trust
returns-then-not-done-clause-trust g c = c.in-Ok.ensures.trust

pub returns-then-not-done-clause-agreed : goal.returns-then-not-done-clause-agreed
returns-then-not-done-clause-agreed g c = tt

pub returns-then-not-done-clause-misses : goal.returns-then-not-done-clause-misses
returns-then-not-done-clause-misses g c = tt

pub returns-then-not-done-clause-cause : goal.returns-then-not-done-clause-cause
returns-then-not-done-clause-cause g c = c.in-Ok.ensures.cause

pub returns-then-not-done-clause-kept : goal.returns-then-not-done-clause-kept
returns-then-not-done-clause-kept g c = λ is. absurd (let clash : false ≡ true = is in cc)

pub returns-then-not-done-clause-full : goal.returns-then-not-done-clause-full
returns-then-not-done-clause-full g c = λ is. c.in-Ok.ensures.full c.if-not-done.true

pub returns-in-Ok-keep_map-clause-stands : goal.returns-in-Ok-keep_map-clause-stands
returns-in-Ok-keep_map-clause-stands g c = c.keep_map.ensures.stands

pub returns-in-Ok-keep_map-clause-still : goal.returns-in-Ok-keep_map-clause-still
returns-in-Ok-keep_map-clause-still g c = λ none w p. c.keep_map.ensures.still (c.keep_log.ensures.finds.free none) w p ∙ c.keep_log.ensures.still none w p

pub returns-in-Err-keep_map-clause-stands : goal.returns-in-Err-keep_map-clause-stands
returns-in-Err-keep_map-clause-stands g c = c.keep_map.ensures.stands

pub returns-in-Err-keep_map-clause-still : goal.returns-in-Err-keep_map-clause-still
returns-in-Err-keep_map-clause-still g c = λ none w p. c.keep_map.ensures.still (c.keep_log.ensures.finds.free none) w p ∙ c.keep_log.ensures.still none w p

pub returns-in-Ok-keep_map-clause-full : goal.returns-in-Ok-keep_map-clause-full
returns-in-Ok-keep_map-clause-full g c = λ is. absurd (let clash : true ≡ false = is in cc)

pub returns-in-Ok-keep_map-clause-trust : goal.returns-in-Ok-keep_map-clause-trust
returns-in-Ok-keep_map-clause-trust g c = λ is. c.in-Ok-keep_map.ensures.trust (c.in-Ok.ensures.trust is)

pub returns-in-Ok-keep_map-clause-agreed : goal.returns-in-Ok-keep_map-clause-agreed
returns-in-Ok-keep_map-clause-agreed g c = tt

pub returns-in-Ok-keep_map-clause-misses : goal.returns-in-Ok-keep_map-clause-misses
returns-in-Ok-keep_map-clause-misses g c = tt

pub returns-in-Ok-keep_map-clause-cause : goal.returns-in-Ok-keep_map-clause-cause
returns-in-Ok-keep_map-clause-cause g c = record { before = c.in-Ok.ensures.cause.before; after = c.in-Ok-keep_map.ensures.cause.after }

pub returns-in-Err-keep_map-clause-agreed : goal.returns-in-Err-keep_map-clause-agreed
returns-in-Err-keep_map-clause-agreed g c = λ is. c.in-Err-keep_map.ensures.agreed (c.in-Ok.ensures.trust is)

pub returns-in-Err-keep_map-clause-kept : goal.returns-in-Err-keep_map-clause-kept
returns-in-Err-keep_map-clause-kept g c = tt

pub returns-in-Err-keep_map-clause-said : goal.returns-in-Err-keep_map-clause-said
returns-in-Err-keep_map-clause-said g c = tt

pub returns-in-Err-keep_map-clause-full : goal.returns-in-Err-keep_map-clause-full
returns-in-Err-keep_map-clause-full g c = tt

pub returns-in-Err-keep_map-clause-spent : goal.returns-in-Err-keep_map-clause-spent
returns-in-Err-keep_map-clause-spent g c = tt

pub returns-in-Err-keep_map-clause-trust : goal.returns-in-Err-keep_map-clause-trust
returns-in-Err-keep_map-clause-trust g c = tt
