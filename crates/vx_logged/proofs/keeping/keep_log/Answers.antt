-- A log that is committed as lost, where it is wanted.
use Rattle.std.proofs.Common.{◌≡◌, ◌∙◌, Bool, true, false, ap, sym}
use Rattle.std.specs.Prelude.{is_some}
use Rattle.vx_group.proofs.LostLemmas.{if_ok_from}
use Rattle.vx_logged.proofs.GoneLogs.{trusts_but}
use Rattle.vx_config.specs.declared.entry.VolumeLog.TheVariants.{Drl}
use Rattle.vx_logged.proofs.keeping.keep_log.Goals as goal

pub returns-clause-kept : goal.returns-clause-kept
returns-clause-kept g c =
    if_ok_from c.keep_one.result (λ (done : Bool) kept is told none. (let clash : false ≡ true = sym (ap is_some none) ∙ sym c.is_some.ensures ∙ kept is told in cc)) c.keep_one.ensures.kept

pub returns-clause-trusts : goal.returns-clause-trusts
returns-clause-trusts g c =
    trusts_but c.args.vol Drl c.args.logs.now c.args.core.now.inner.config c.keep_one.new.core.inner.config c.is_some.result c.is_some.ensures c.keep_one.ensures.trusts c.keep_one.ensures.stays

pub returns-clause-spent : goal.returns-clause-spent
returns-clause-spent g c =
    c.keep_one.ensures.spent

pub returns-clause-stands : goal.returns-clause-stands
returns-clause-stands g c = c.keep_one.ensures.stands

pub returns-clause-goes : goal.returns-clause-goes
returns-clause-goes g c = c.keep_one.ensures.goes

pub returns-clause-loses : goal.returns-clause-loses
returns-clause-loses g c = c.keep_one.ensures.loses

pub returns-clause-logs : goal.returns-clause-logs
returns-clause-logs g c = c.keep_one.ensures.logs

pub returns-clause-narrow : goal.returns-clause-narrow
returns-clause-narrow g c = c.keep_one.ensures.narrow

pub returns-clause-below : goal.returns-clause-below
returns-clause-below g c = c.keep_one.ensures.below

pub returns-clause-still : goal.returns-clause-still
returns-clause-still g c = c.keep_one.ensures.still

pub returns-clause-full : goal.returns-clause-full
returns-clause-full g c = c.keep_one.ensures.full

pub returns-clause-trust : goal.returns-clause-trust
returns-clause-trust g c = c.keep_one.ensures.trust

pub returns-clause-agreed : goal.returns-clause-agreed
returns-clause-agreed g c = c.keep_one.ensures.agreed

pub returns-clause-finds : goal.returns-clause-finds
returns-clause-finds g c = c.keep_one.ensures.finds

pub returns-clause-marks : goal.returns-clause-marks
returns-clause-marks g c = c.keep_one.ensures.marks

pub returns-clause-misses : goal.returns-clause-misses
returns-clause-misses g c = c.keep_one.ensures.misses

pub returns-clause-cause : goal.returns-clause-cause
returns-clause-cause g c = c.keep_one.ensures.cause
