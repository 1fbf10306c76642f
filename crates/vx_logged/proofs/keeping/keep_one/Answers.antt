-- A log that is committed as lost, where it is wanted.
use Rattle.std.proofs.Common.{◌≡◌, ◌∙◌, Bool, true, false, refl, sym, arith}
use Rattle.vx_disk.specs.Shelf.{Nothing}
use Rattle.vx_kept.specs.LogRuns.{log_trusted}
use Rattle.vx_group.proofs.HoldLemmas.{wide_shape}
use Rattle.vx_group.proofs.LostLemmas.{if_ok_from}
use Rattle.vx_group.proofs.UnitLemmas.{acts_units, same_units}
use Rattle.vx_logged.proofs.StandLemmas.{each_on, each_same, narrowed_acts, narrowed_same}
use Rattle.vx_group.proofs.LoseLemmas.{along_none}
use Rattle.vx_group.proofs.FindingLemmas.{still_group}
use Rattle.vx_group.proofs.TrustStillLemmas.{same_logs}
use Rattle.vx_logged.proofs.GoneLogs.{trusts_all}
use Rattle.vx_group.proofs.CallLemmas.{not_down}
use Rattle.vx_group.specs.Stands.{inner_meaning}
use Rattle.vx_group.specs.Holding.{wide}
use Rattle.vx_disk.proofs.Runs.{same_Goes}
use Rattle.vx_logged.proofs.keeping.keep_one.Goals as goal

pub returns-then-is_down-clause-logs : goal.returns-then-is_down-clause-logs
returns-then-is_down-clause-logs g c =
    each_same c.args.core.now (g.S.Shelf.meaning c.args.shelf.now)

pub returns-then-has-clause-logs : goal.returns-then-has-clause-logs
returns-then-has-clause-logs g c =
    each_same c.args.core.now (g.S.Shelf.meaning c.args.shelf.now)

pub returns-then-not-is_trusted-clause-logs : goal.returns-then-not-is_trusted-clause-logs
returns-then-not-is_trusted-clause-logs g c =
    each_same c.args.core.now (g.S.Shelf.meaning c.args.shelf.now)

pub returns-clause-logs : goal.returns-clause-logs
returns-clause-logs g c =
    each_on c.args.core.now c.lose_group.new.core (g.S.Shelf.meaning c.args.shelf.now) (g.S.Shelf.meaning c.lose_group.new.shelf) c.requires.stands c.lose_group.ensures.acts

pub returns-then-not-is_trusted-clause-kept : goal.returns-then-not-is_trusted-clause-kept
returns-then-not-is_trusted-clause-kept g c =
    λ is told.
    let off : log_trusted c.args.core.now.inner.config c.args.vol c.args.log ≡ false = sym c.is_trusted.ensures ∙ c.if-not-is_trusted.true in
    let here = (wide_shape c.args.core.now).trusted c.args.vol c.args.log told in
    absurd (let clash : false ≡ true = sym off ∙ here in cc)

pub returns-clause-kept : goal.returns-clause-kept
returns-clause-kept g c =
    if_ok_from c.lose_group.result (λ (done : Bool) gone is told. absurd (let clash : false ≡ true = sym (gone is) ∙ told in cc)) c.lose_group.ensures.lost

pub returns-then-is_down-clause-narrow : goal.returns-then-is_down-clause-narrow
returns-then-is_down-clause-narrow g c = narrowed_same c.args.core.now

pub returns-then-has-clause-narrow : goal.returns-then-has-clause-narrow
returns-then-has-clause-narrow g c = narrowed_same c.args.core.now

pub returns-then-not-is_trusted-clause-narrow : goal.returns-then-not-is_trusted-clause-narrow
returns-then-not-is_trusted-clause-narrow g c = narrowed_same c.args.core.now

pub returns-clause-narrow : goal.returns-clause-narrow
returns-clause-narrow g c = narrowed_acts Nothing c.args.core.now c.lose_group.new.core (g.S.Shelf.meaning c.args.shelf.now) (g.S.Shelf.meaning c.lose_group.new.shelf) c.lose_group.ensures.acts

pub returns-then-core-clause-logs : goal.returns-then-core-clause-logs
returns-then-core-clause-logs g c =
    each_same c.args.core.now (g.S.Shelf.meaning c.args.shelf.now)

pub returns-then-core-clause-narrow : goal.returns-then-core-clause-narrow
returns-then-core-clause-narrow g c = narrowed_same c.args.core.now

pub returns-then-is_down-clause-below : goal.returns-then-is_down-clause-below
returns-then-is_down-clause-below g c = same_units (g.S.Shelf.meaning c.args.shelf.now)

pub returns-then-is_down-clause-still : goal.returns-then-is_down-clause-still
returns-then-is_down-clause-still g c = λ none w p. refl

pub returns-then-has-clause-below : goal.returns-then-has-clause-below
returns-then-has-clause-below g c = same_units (g.S.Shelf.meaning c.args.shelf.now)

pub returns-then-has-clause-still : goal.returns-then-has-clause-still
returns-then-has-clause-still g c = λ none w p. refl

pub returns-then-not-is_trusted-clause-below : goal.returns-then-not-is_trusted-clause-below
returns-then-not-is_trusted-clause-below g c = same_units (g.S.Shelf.meaning c.args.shelf.now)

pub returns-then-not-is_trusted-clause-still : goal.returns-then-not-is_trusted-clause-still
returns-then-not-is_trusted-clause-still g c = λ none w p. refl

pub returns-then-core-clause-below : goal.returns-then-core-clause-below
returns-then-core-clause-below g c = same_units (g.S.Shelf.meaning c.args.shelf.now)

pub returns-then-core-clause-still : goal.returns-then-core-clause-still
returns-then-core-clause-still g c = λ none w p. refl

pub returns-clause-below : goal.returns-clause-below
returns-clause-below g c = acts_units Nothing _ (g.S.Shelf.meaning c.args.shelf.now) (g.S.Shelf.meaning c.lose_group.new.shelf) c.lose_group.ensures.acts.acts

pub returns-then-is_down-clause-loses : goal.returns-then-is_down-clause-loses
returns-then-is_down-clause-loses g c = along_none c.args.core.now.inner.config (g.S.Shelf.meaning c.args.shelf.now)

pub returns-then-has-clause-loses : goal.returns-then-has-clause-loses
returns-then-has-clause-loses g c = along_none c.args.core.now.inner.config (g.S.Shelf.meaning c.args.shelf.now)

pub returns-then-not-is_trusted-clause-loses : goal.returns-then-not-is_trusted-clause-loses
returns-then-not-is_trusted-clause-loses g c = along_none c.args.core.now.inner.config (g.S.Shelf.meaning c.args.shelf.now)

pub returns-clause-loses : goal.returns-clause-loses
returns-clause-loses g c = record { loses = c.lose_group.ensures.loses; rises = c.lose_group.ensures.acts.acts.faults }

pub returns-then-core-clause-loses : goal.returns-then-core-clause-loses
returns-then-core-clause-loses g c = along_none c.args.core.now.inner.config (g.S.Shelf.meaning c.args.shelf.now)

pub returns-then-is_down-clause-finds : goal.returns-then-is_down-clause-finds
returns-then-is_down-clause-finds g c =
    still_group c.args.core.now (g.S.Shelf.meaning c.args.shelf.now)

pub returns-then-has-clause-finds : goal.returns-then-has-clause-finds
returns-then-has-clause-finds g c =
    still_group c.args.core.now (g.S.Shelf.meaning c.args.shelf.now)

pub returns-then-not-is_trusted-clause-finds : goal.returns-then-not-is_trusted-clause-finds
returns-then-not-is_trusted-clause-finds g c =
    still_group c.args.core.now (g.S.Shelf.meaning c.args.shelf.now)

pub returns-clause-finds : goal.returns-clause-finds
returns-clause-finds g c =
    c.lose_group.ensures.finds

pub returns-then-core-clause-finds : goal.returns-then-core-clause-finds
returns-then-core-clause-finds g c =
    still_group c.args.core.now (g.S.Shelf.meaning c.args.shelf.now)

pub returns-then-is_down-clause-trusts : goal.returns-then-is_down-clause-trusts
returns-then-is_down-clause-trusts g c =
    trusts_all c.args.vol c.args.log c.args.core.now.inner.config

pub returns-then-has-clause-trusts : goal.returns-then-has-clause-trusts
returns-then-has-clause-trusts g c =
    trusts_all c.args.vol c.args.log c.args.core.now.inner.config

pub returns-then-not-is_trusted-clause-trusts : goal.returns-then-not-is_trusted-clause-trusts
returns-then-not-is_trusted-clause-trusts g c =
    trusts_all c.args.vol c.args.log c.args.core.now.inner.config

pub returns-then-core-clause-trusts : goal.returns-then-core-clause-trusts
returns-then-core-clause-trusts g c =
    trusts_all c.args.vol c.args.log c.args.core.now.inner.config

pub returns-clause-trusts : goal.returns-clause-trusts
returns-clause-trusts g c =
    c.lose_group.ensures.logs

pub returns-then-is_down-clause-stays : goal.returns-then-is_down-clause-stays
returns-then-is_down-clause-stays g c =
    λ has. same_logs c.args.core.now.inner.config

pub returns-then-has-clause-stays : goal.returns-then-has-clause-stays
returns-then-has-clause-stays g c =
    λ has. same_logs c.args.core.now.inner.config

pub returns-then-not-is_trusted-clause-stays : goal.returns-then-not-is_trusted-clause-stays
returns-then-not-is_trusted-clause-stays g c =
    λ has. same_logs c.args.core.now.inner.config

pub returns-then-core-clause-stays : goal.returns-then-core-clause-stays
returns-then-core-clause-stays g c =
    λ has. same_logs c.args.core.now.inner.config

pub returns-clause-stays : goal.returns-clause-stays
returns-clause-stays g c =
    λ has. absurd (let clash : true ≡ false = sym has ∙ c.if-has.false in cc)

pub returns-then-has-clause-few : goal.returns-then-has-clause-few
returns-then-has-clause-few g c = omega arith

pub returns-then-not-is_trusted-clause-few : goal.returns-then-not-is_trusted-clause-few
returns-then-not-is_trusted-clause-few g c = omega arith

pub returns-then-core-clause-few : goal.returns-then-core-clause-few
returns-then-core-clause-few g c = omega arith

pub returns-clause-few : goal.returns-clause-few
returns-clause-few g c = c.lose_group.ensures.few

pub returns-clause-marks : goal.returns-clause-marks
returns-clause-marks g c = c.lose_group.ensures.marks

pub returns-clause-misses : goal.returns-clause-misses
returns-clause-misses g c = c.lose_group.ensures.misses

pub returns-clause-stands : goal.returns-clause-stands
returns-clause-stands g c = c.lose_group.ensures.stands

pub returns-clause-goes : goal.returns-clause-goes
returns-clause-goes g c = c.lose_group.ensures.goes

pub returns-clause-still : goal.returns-clause-still
returns-clause-still g c = c.lose_group.ensures.still

pub returns-clause-full : goal.returns-clause-full
returns-clause-full g c = c.lose_group.ensures.full

pub returns-clause-trust : goal.returns-clause-trust
returns-clause-trust g c = c.lose_group.ensures.trust

pub returns-clause-agreed : goal.returns-clause-agreed
returns-clause-agreed g c = c.lose_group.ensures.agreed

pub returns-clause-cause : goal.returns-clause-cause
returns-clause-cause g c = c.lose_group.ensures.cause

pub returns-then-has-clause-stands : goal.returns-then-has-clause-stands
returns-then-has-clause-stands g c = c.requires.stands

pub returns-then-has-clause-goes : goal.returns-then-has-clause-goes
returns-then-has-clause-goes g c = same_Goes Nothing (inner_meaning (wide c.args.core.now) (g.S.Shelf.meaning c.args.shelf.now))

pub returns-then-has-clause-trust : goal.returns-then-has-clause-trust
returns-then-has-clause-trust g c = λ is. is

pub returns-then-has-clause-agreed : goal.returns-then-has-clause-agreed
returns-then-has-clause-agreed g c = tt

pub returns-then-has-clause-marks : goal.returns-then-has-clause-marks
returns-then-has-clause-marks g c = refl

pub returns-then-has-clause-misses : goal.returns-then-has-clause-misses
returns-then-has-clause-misses g c = tt

pub returns-then-has-clause-cause : goal.returns-then-has-clause-cause
returns-then-has-clause-cause g c = record { before = not_down c.is_down.result (g.S.Shelf.meaning c.args.shelf.now).down c.is_down.ensures c.if-is_down.false; after = not_down c.is_down.result (g.S.Shelf.meaning c.args.shelf.now).down c.is_down.ensures c.if-is_down.false }

pub returns-then-not-is_trusted-clause-stands : goal.returns-then-not-is_trusted-clause-stands
returns-then-not-is_trusted-clause-stands g c = c.requires.stands

pub returns-then-not-is_trusted-clause-goes : goal.returns-then-not-is_trusted-clause-goes
returns-then-not-is_trusted-clause-goes g c = same_Goes Nothing (inner_meaning (wide c.args.core.now) (g.S.Shelf.meaning c.args.shelf.now))

pub returns-then-not-is_trusted-clause-trust : goal.returns-then-not-is_trusted-clause-trust
returns-then-not-is_trusted-clause-trust g c = λ is. is

pub returns-then-not-is_trusted-clause-agreed : goal.returns-then-not-is_trusted-clause-agreed
returns-then-not-is_trusted-clause-agreed g c = tt

pub returns-then-not-is_trusted-clause-marks : goal.returns-then-not-is_trusted-clause-marks
returns-then-not-is_trusted-clause-marks g c = refl

pub returns-then-not-is_trusted-clause-misses : goal.returns-then-not-is_trusted-clause-misses
returns-then-not-is_trusted-clause-misses g c = tt

pub returns-then-not-is_trusted-clause-cause : goal.returns-then-not-is_trusted-clause-cause
returns-then-not-is_trusted-clause-cause g c = record { before = not_down c.is_down.result (g.S.Shelf.meaning c.args.shelf.now).down c.is_down.ensures c.if-is_down.false; after = not_down c.is_down.result (g.S.Shelf.meaning c.args.shelf.now).down c.is_down.ensures c.if-is_down.false }

pub returns-then-core-clause-stands : goal.returns-then-core-clause-stands
returns-then-core-clause-stands g c = c.requires.stands

pub returns-then-core-clause-goes : goal.returns-then-core-clause-goes
returns-then-core-clause-goes g c = same_Goes Nothing (inner_meaning (wide c.args.core.now) (g.S.Shelf.meaning c.args.shelf.now))

pub returns-then-core-clause-trust : goal.returns-then-core-clause-trust
returns-then-core-clause-trust g c = λ is. is

pub returns-then-core-clause-agreed : goal.returns-then-core-clause-agreed
returns-then-core-clause-agreed g c = tt

pub returns-then-core-clause-marks : goal.returns-then-core-clause-marks
returns-then-core-clause-marks g c = refl

pub returns-then-core-clause-misses : goal.returns-then-core-clause-misses
returns-then-core-clause-misses g c = tt

pub returns-then-core-clause-cause : goal.returns-then-core-clause-cause
returns-then-core-clause-cause g c = record { before = not_down c.is_down.result (g.S.Shelf.meaning c.args.shelf.now).down c.is_down.ensures c.if-is_down.false; after = not_down c.is_down.result (g.S.Shelf.meaning c.args.shelf.now).down c.is_down.ensures c.if-is_down.false }

pub returns-then-is_down-clause-stands : goal.returns-then-is_down-clause-stands
returns-then-is_down-clause-stands g c = c.requires.stands

pub returns-then-is_down-clause-goes : goal.returns-then-is_down-clause-goes
returns-then-is_down-clause-goes g c = same_Goes Nothing (inner_meaning (wide c.args.core.now) (g.S.Shelf.meaning c.args.shelf.now))

pub returns-then-is_down-clause-kept : goal.returns-then-is_down-clause-kept
returns-then-is_down-clause-kept g c = tt

pub returns-then-is_down-clause-full : goal.returns-then-is_down-clause-full
returns-then-is_down-clause-full g c = tt

pub returns-then-is_down-clause-spent : goal.returns-then-is_down-clause-spent
returns-then-is_down-clause-spent g c = tt

pub returns-then-is_down-clause-few : goal.returns-then-is_down-clause-few
returns-then-is_down-clause-few g c = tt

pub returns-then-is_down-clause-trust : goal.returns-then-is_down-clause-trust
returns-then-is_down-clause-trust g c = tt

pub returns-then-is_down-clause-agreed : goal.returns-then-is_down-clause-agreed
returns-then-is_down-clause-agreed g c = c.requires.stands.stands.trusts.both

pub returns-then-is_down-clause-marks : goal.returns-then-is_down-clause-marks
returns-then-is_down-clause-marks g c = refl

pub returns-then-is_down-clause-misses : goal.returns-then-is_down-clause-misses
returns-then-is_down-clause-misses g c = tt

pub returns-then-is_down-clause-cause : goal.returns-then-is_down-clause-cause
returns-then-is_down-clause-cause g c = sym c.is_down.ensures ∙ c.if-is_down.true

pub returns-then-has-clause-kept : goal.returns-then-has-clause-kept
returns-then-has-clause-kept g c = λ is told. c.if-has.true

pub returns-then-core-clause-kept : goal.returns-then-core-clause-kept
returns-then-core-clause-kept g c = λ is. absurd (let clash : false ≡ true = is in cc)

pub returns-then-has-clause-full : goal.returns-then-has-clause-full
returns-then-has-clause-full g c = λ is. absurd (let clash : true ≡ false = is in cc)

pub returns-then-has-clause-spent : goal.returns-then-has-clause-spent
returns-then-has-clause-spent g c = λ is. absurd (let clash : true ≡ false = is in cc)

pub returns-then-not-is_trusted-clause-full : goal.returns-then-not-is_trusted-clause-full
returns-then-not-is_trusted-clause-full g c = λ is. absurd (let clash : true ≡ false = is in cc)

pub returns-then-not-is_trusted-clause-spent : goal.returns-then-not-is_trusted-clause-spent
returns-then-not-is_trusted-clause-spent g c = λ is. absurd (let clash : true ≡ false = is in cc)
