-- `miss_fallen`: its clauses; what `mark_group` asks.
use Rattle.std.proofs.Common.{◌∙◌, inl, inr, Bool, refl, sym, arith}
use Rattle.vx_disk.specs.Shelf.{Nothing}
use Rattle.vx_disk.proofs.Runs.{same_Goes}
use Rattle.vx_group.specs.Holding.{wide}
use Rattle.vx_group.specs.Stands.{inner_meaning}
use Rattle.vx_group.proofs.FindingLemmas.{still_group}
use Rattle.vx_group.proofs.LoseLemmas.{along_same}
use Rattle.vx_group.proofs.TrustStillLemmas.{same_logs}
use Rattle.vx_grouplogs.proofs.GoneLemmas.{drop_same}
use Rattle.vx_groupmaps.specs.Missing.{none_spared}
use Rattle.vx_groupmaps.proofs.KnowLemmas.{note_same}
use Rattle.vx_logs.specs.Writes.{first_region, last_region}
use Rattle.vx_logged.specs.Begun.{fell_now}
use Rattle.vx_logged.specs.Logged.{are_off}
use Rattle.vx_logged.proofs.FallenLemmas.{fell_same, off_run}
use Rattle.vx_logged.proofs.GoneLogs.{trusts_in}
use Rattle.vx_logged.proofs.HoldsLemmas.{either_way, inner_count, none_hold, off_any, these_hold}
use Rattle.vx_logged.proofs.StandLemmas.{cause_to, each_same, others_each, same_only, narrowed_same}
use Rattle.vx_logged.proofs.KeptLemmas.{kept_said}
use Rattle.vx_group.proofs.UnsureLemmas.{misses_to}
use Rattle.vx_logged.proofs.missing.miss_fallen.Goals as goal

pub mark_group-requires-clause-some : goal.mark_group-requires-clause-some
mark_group-requires-clause-some g c = c.misses_any-misses.ensures.some c.if-not-misses.false

pub mark_group-requires-clause-log : goal.mark_group-requires-clause-log
mark_group-requires-clause-log g c = c.requires.log (c.misses_any-misses.ensures.going c.if-not-misses.false)

pub returns-then-not-misses-clause-goes : goal.returns-then-not-misses-clause-goes
returns-then-not-misses-clause-goes g c = same_Goes Nothing (inner_meaning (wide c.args.core.now) (g.S.Shelf.meaning c.args.shelf.now))

pub returns-then-not-misses-clause-loses : goal.returns-then-not-misses-clause-loses
returns-then-not-misses-clause-loses g c = along_same c.args.core.now.inner.config (g.S.Shelf.meaning c.args.shelf.now) (g.S.Shelf.meaning c.args.shelf.now) (λ u. omega arith)

pub returns-then-not-misses-clause-log : goal.returns-then-not-misses-clause-log
returns-then-not-misses-clause-log g c = λ on. on

pub returns-then-not-misses-clause-others : goal.returns-then-not-misses-clause-others
returns-then-not-misses-clause-others g c = others_each c.args.vol c.args.core.now c.args.core.now (g.S.Shelf.meaning c.args.shelf.now) (g.S.Shelf.meaning c.args.shelf.now) (each_same c.args.core.now (g.S.Shelf.meaning c.args.shelf.now))

pub returns-then-not-misses-clause-adds : goal.returns-then-not-misses-clause-adds
returns-then-not-misses-clause-adds g c = same_only _ _ _ c.args.logs.now

pub returns-then-not-misses-clause-maps : goal.returns-then-not-misses-clause-maps
returns-then-not-misses-clause-maps g c = λ know. know

pub returns-then-not-misses-clause-still : goal.returns-then-not-misses-clause-still
returns-then-not-misses-clause-still g c = λ w p. refl

pub returns-then-not-misses-clause-notes : goal.returns-then-not-misses-clause-notes
returns-then-not-misses-clause-notes g c = note_same _ _ _ c.args.logs.now c.args.logs.now refl

pub returns-then-not-misses-clause-begins : goal.returns-then-not-misses-clause-begins
returns-then-not-misses-clause-begins g c = λ before. elim before [
  | inl off ↦ inl (off_any (fell_now c.args.was.now c.args.core.now c.args.vol) (first_region c.args.block) (last_region c.args.block c.args.count) c.args.logs.now off)
  | inr spent ↦ inr spent
]

pub returns-then-not-misses-clause-holds : goal.returns-then-not-misses-clause-holds
returns-then-not-misses-clause-holds g c = λ going some. elim (c.misses_any-misses.ensures.none c.if-not-misses.true going some) [
  | inl none ↦ inl (none_hold c.args.core.now c.args.vol (first_region c.args.block) (last_region c.args.block c.args.count) c.args.was.now c.args.logs.now (g.S.Shelf.meaning c.args.shelf.now) c.requires.stands c.requires.exists none)
  | inr spent ↦ inr spent
]

pub returns-then-not-misses-clause-drops : goal.returns-then-not-misses-clause-drops
returns-then-not-misses-clause-drops g c = drop_same (wide c.args.core.now).config c.args.vol c.args.logs.now (g.S.Shelf.meaning c.args.shelf.now) (g.S.Shelf.meaning c.args.shelf.now)

pub returns-then-not-misses-clause-trusts : goal.returns-then-not-misses-clause-trusts
returns-then-not-misses-clause-trusts g c = trusts_in c.args.vol c.args.logs.now c.args.core.now.inner.config c.args.core.now.inner.config (same_logs c.args.core.now.inner.config)

pub returns-then-not-misses-clause-trust : goal.returns-then-not-misses-clause-trust
returns-then-not-misses-clause-trust g c = λ is. is

pub returns-then-not-misses-clause-finds : goal.returns-then-not-misses-clause-finds
returns-then-not-misses-clause-finds g c = still_group c.args.core.now (g.S.Shelf.meaning c.args.shelf.now)

pub returns-then-not-misses-clause-cause : goal.returns-then-not-misses-clause-cause
returns-then-not-misses-clause-cause g c = record { before = c.requires.up; after = c.requires.up }

pub returns-in-Ok-clause-log : goal.returns-in-Ok-clause-log
returns-in-Ok-clause-log g c = λ on. c.mark_group.ensures.log

pub returns-in-Err-clause-log : goal.returns-in-Err-clause-log
returns-in-Err-clause-log g c = λ on. c.mark_group.ensures.log

pub returns-in-Ok-clause-maps : goal.returns-in-Ok-clause-maps
returns-in-Ok-clause-maps g c = c.mark_group.ensures.maps none_spared

pub returns-in-Err-clause-maps : goal.returns-in-Err-clause-maps
returns-in-Err-clause-maps g c = c.mark_group.ensures.maps none_spared

pub returns-in-Ok-clause-begins : goal.returns-in-Ok-clause-begins
returns-in-Ok-clause-begins g c = λ before. elim before [
  | inl off ↦ inl (off_run (fell_now c.args.was.now c.mark_group.new.core c.args.vol) (fell_now c.args.was.now c.args.core.now c.args.vol) (are_off c.mark_group.new.core c.args.vol) (first_region c.args.block) (last_region c.args.block c.args.count) c.args.logs.now c.mark_group.new.logs
      (λ p on. sym (fell_same c.args.core.now c.mark_group.new.core c.args.vol c.args.was.now c.mark_group.ensures.still p) ∙ on) off c.mark_group.ensures.notes)
  | inr spent ↦ absurd (let left = c.misses_any-misses.ensures.left c.if-not-misses.false in omega (arith, left, spent))
]

pub returns-in-Err-clause-begins : goal.returns-in-Err-clause-begins
returns-in-Err-clause-begins g c = λ before. tt

pub returns-in-Ok-clause-holds : goal.returns-in-Ok-clause-holds
returns-in-Ok-clause-holds g c = λ going some. either_way c.in-Ok.field-0
    (λ done. these_hold c.args.core.now c.mark_group.new.core c.args.vol (first_region c.args.block) (last_region c.args.block c.args.count) c.args.was.now c.mark_group.new.logs (inner_count c.args.core.now c.mark_group.new.core c.args.vol (c.mark_group.ensures.loses.loses.frames c.args.vol) (c.mark_group.ensures.goes.size c.args.vol)) c.requires.exists (c.in-Ok.ensures.holds done))
    c.in-Ok.ensures.spent

pub returns-in-Err-clause-holds : goal.returns-in-Err-clause-holds
returns-in-Err-clause-holds g c = λ going some. tt

pub returns-in-Ok-clause-trust : goal.returns-in-Ok-clause-trust
returns-in-Ok-clause-trust g c = c.in-Ok.ensures.trust

pub returns-in-Err-clause-agreed : goal.returns-in-Err-clause-agreed
returns-in-Err-clause-agreed g c = c.in-Err.ensures.agreed

pub returns-in-Ok-clause-cause : goal.returns-in-Ok-clause-cause
returns-in-Ok-clause-cause g c = record { before = c.in-Ok.ensures.cause.before; after = c.in-Ok.ensures.cause.after }

pub returns-in-Err-clause-cause : goal.returns-in-Err-clause-cause
returns-in-Err-clause-cause g c = cause_to Bool (Unit {0}) c.args.vol c.in-Err.error (inner_meaning (wide c.args.core.now) (g.S.Shelf.meaning c.args.shelf.now)) (inner_meaning (wide c.mark_group.new.core) (g.S.Shelf.meaning c.mark_group.new.shelf)) c.in-Err.ensures.cause

pub returns-then-not-misses-clause-left : goal.returns-then-not-misses-clause-left
returns-then-not-misses-clause-left g c = λ before. tt

pub returns-in-Ok-clause-left : goal.returns-in-Ok-clause-left
returns-in-Ok-clause-left g c = λ before. tt

pub returns-in-Err-clause-left : goal.returns-in-Err-clause-left
returns-in-Err-clause-left g c = λ before. elim before [
  | inl off ↦ off_run (fell_now c.args.was.now c.mark_group.new.core c.args.vol) (fell_now c.args.was.now c.args.core.now c.args.vol) (are_off c.mark_group.new.core c.args.vol) (first_region c.args.block) (last_region c.args.block c.args.count) c.args.logs.now c.mark_group.new.logs
      (λ p on. sym (fell_same c.args.core.now c.mark_group.new.core c.args.vol c.args.was.now c.mark_group.ensures.still p) ∙ on) off c.mark_group.ensures.notes
  | inr spent ↦ absurd (let left = c.misses_any-misses.ensures.left c.if-not-misses.false in omega (arith, left, spent))
]

pub returns-then-not-misses-clause-narrow : goal.returns-then-not-misses-clause-narrow
returns-then-not-misses-clause-narrow g c = narrowed_same c.args.core.now

pub returns-in-Ok-clause-narrow : goal.returns-in-Ok-clause-narrow
returns-in-Ok-clause-narrow g c = c.mark_group.ensures.narrow

pub returns-in-Err-clause-narrow : goal.returns-in-Err-clause-narrow
returns-in-Err-clause-narrow g c = c.mark_group.ensures.narrow

pub returns-then-not-misses-clause-kept : goal.returns-then-not-misses-clause-kept
returns-then-not-misses-clause-kept g c = λ was. was

pub returns-in-Ok-clause-kept : goal.returns-in-Ok-clause-kept
returns-in-Ok-clause-kept g c = λ was. kept_said c.mark_group.new.core c.args.vol c.mark_group.new.logs c.in-Ok.field-0 (λ done. (c.in-Ok.ensures.may done).some) c.in-Ok.ensures.said c.in-Ok.ensures.spent

pub returns-in-Err-clause-kept : goal.returns-in-Err-clause-kept
returns-in-Err-clause-kept g c = λ was. tt

pub returns-in-Ok-clause-marks : goal.returns-in-Ok-clause-marks
returns-in-Ok-clause-marks g c = c.in-Ok.ensures.marks

pub returns-in-Err-clause-marks : goal.returns-in-Err-clause-marks
returns-in-Err-clause-marks g c = c.in-Err.ensures.marks

pub returns-in-Err-clause-misses : goal.returns-in-Err-clause-misses
returns-in-Err-clause-misses g c = misses_to c.mark_group.new.core.inner c.in-Err.error c.in-Err.ensures.misses

pub returns-in-Ok-clause-stands : goal.returns-in-Ok-clause-stands
returns-in-Ok-clause-stands g c = c.mark_group.ensures.stands

pub returns-in-Ok-clause-goes : goal.returns-in-Ok-clause-goes
returns-in-Ok-clause-goes g c = c.mark_group.ensures.goes

pub returns-in-Ok-clause-loses : goal.returns-in-Ok-clause-loses
returns-in-Ok-clause-loses g c = c.mark_group.ensures.loses

pub returns-in-Ok-clause-others : goal.returns-in-Ok-clause-others
returns-in-Ok-clause-others g c = c.mark_group.ensures.others

pub returns-in-Ok-clause-adds : goal.returns-in-Ok-clause-adds
returns-in-Ok-clause-adds g c = c.mark_group.ensures.adds

pub returns-in-Ok-clause-still : goal.returns-in-Ok-clause-still
returns-in-Ok-clause-still g c = c.mark_group.ensures.still

pub returns-in-Ok-clause-notes : goal.returns-in-Ok-clause-notes
returns-in-Ok-clause-notes g c = c.mark_group.ensures.notes

pub returns-in-Ok-clause-drops : goal.returns-in-Ok-clause-drops
returns-in-Ok-clause-drops g c = c.mark_group.ensures.drops

pub returns-in-Ok-clause-trusts : goal.returns-in-Ok-clause-trusts
returns-in-Ok-clause-trusts g c = c.mark_group.ensures.trusts

pub returns-in-Ok-clause-agreed : goal.returns-in-Ok-clause-agreed
returns-in-Ok-clause-agreed g c = tt

pub returns-in-Ok-clause-finds : goal.returns-in-Ok-clause-finds
returns-in-Ok-clause-finds g c = c.mark_group.ensures.finds

pub returns-in-Ok-clause-misses : goal.returns-in-Ok-clause-misses
returns-in-Ok-clause-misses g c = tt

pub returns-in-Err-clause-stands : goal.returns-in-Err-clause-stands
returns-in-Err-clause-stands g c = c.mark_group.ensures.stands

pub returns-in-Err-clause-goes : goal.returns-in-Err-clause-goes
returns-in-Err-clause-goes g c = c.mark_group.ensures.goes

pub returns-in-Err-clause-loses : goal.returns-in-Err-clause-loses
returns-in-Err-clause-loses g c = c.mark_group.ensures.loses

pub returns-in-Err-clause-others : goal.returns-in-Err-clause-others
returns-in-Err-clause-others g c = c.mark_group.ensures.others

pub returns-in-Err-clause-adds : goal.returns-in-Err-clause-adds
returns-in-Err-clause-adds g c = c.mark_group.ensures.adds

pub returns-in-Err-clause-still : goal.returns-in-Err-clause-still
returns-in-Err-clause-still g c = c.mark_group.ensures.still

pub returns-in-Err-clause-notes : goal.returns-in-Err-clause-notes
returns-in-Err-clause-notes g c = c.mark_group.ensures.notes

pub returns-in-Err-clause-drops : goal.returns-in-Err-clause-drops
returns-in-Err-clause-drops g c = c.mark_group.ensures.drops

pub returns-in-Err-clause-trusts : goal.returns-in-Err-clause-trusts
returns-in-Err-clause-trusts g c = c.mark_group.ensures.trusts

pub returns-in-Err-clause-trust : goal.returns-in-Err-clause-trust
returns-in-Err-clause-trust g c = tt

pub returns-in-Err-clause-finds : goal.returns-in-Err-clause-finds
returns-in-Err-clause-finds g c = c.mark_group.ensures.finds

pub returns-then-not-misses-clause-stands : goal.returns-then-not-misses-clause-stands
returns-then-not-misses-clause-stands g c = c.requires.stands

pub returns-then-not-misses-clause-agreed : goal.returns-then-not-misses-clause-agreed
returns-then-not-misses-clause-agreed g c = tt

pub returns-then-not-misses-clause-marks : goal.returns-then-not-misses-clause-marks
returns-then-not-misses-clause-marks g c = refl

pub returns-then-not-misses-clause-misses : goal.returns-then-not-misses-clause-misses
returns-then-not-misses-clause-misses g c = tt
