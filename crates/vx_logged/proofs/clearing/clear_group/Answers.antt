-- Marks that are taken off.
use Rattle.std.proofs.Common.{◌≡◌, ◌∙◌, ℕ, Bool, false, true, refl, subst, arith}
use Rattle.vx_config.specs.declared.config.Config.{Config}
use Rattle.vx_disk.specs.Shelf.{Nothing}
use Rattle.vx_disk.proofs.Causing.{Cause_both}
use Rattle.vx_disk.proofs.Runs.{then_nothing}
use Rattle.vx_group.specs.Holding.{wide}
use Rattle.vx_group.specs.Stands.{inner_meaning}
use Rattle.vx_group.proofs.LostLemmas.{if_ok_from}
use Rattle.vx_group.proofs.TrustLemmas.{err_from, ok_from}
use Rattle.vx_grouplogs.specs.Covering.{AllAlike}
use Rattle.vx_grouplogs.specs.Marking.{MarksFewer, NoMarks}
use Rattle.vx_groupmaps.specs.Missing.{none_spared}
use Rattle.vx_groupmaps.proofs.KnowLemmas.{note_none, note_same}
use Rattle.vx_logged.proofs.StandLemmas.{alike_goes, config_is, if_ok_any, inner_fit, inner_others, inner_sound, know_inner, know_wide, logs_Stands, logs_goes, narrowed_then, no_regions, others_each, others_then, same_fewer, same_regions, to_inner, to_wide, logs_idle}
use Rattle.vx_group.proofs.LoseLemmas.{along_same, then_along}
use Rattle.vx_group.proofs.UnitLemmas.{goes_units, then_units}
use Rattle.vx_group.proofs.FindingLemmas.{then_group}
use Rattle.vx_logged.proofs.GoneLogs.{inner_places, trusts_in, trusts_then}
use Rattle.vx_grouplogs.proofs.GoneLemmas.{drop_before, drop_behind, drop_same}
use Rattle.vx_logged.proofs.KeptLemmas.{log_later, some_blocks}
use Rattle.vx_group.proofs.UnsureLemmas.{marks_then}
use Rattle.vx_logged.proofs.clearing.clear_group.Goals as goal

pub clear_run-requires-clause-checked : goal.clear_run-requires-clause-checked
clear_run-requires-clause-checked g c =
    inner_sound c.ready_group.new.core c.args.vol (g.S.Shelf.meaning c.ready_group.new.shelf) (g.S.Shelf.meaning c.ready_group.new.shelf) (c.in-Ok.ensures.none c.if-not-ready.false) c.ready_group.ensures.stands

pub clear_run-requires-clause-disks : goal.clear_run-requires-clause-disks
clear_run-requires-clause-disks g c =
    inner_fit c.ready_group.new.core c.args.vol (g.S.Shelf.meaning c.ready_group.new.shelf) (g.S.Shelf.meaning c.ready_group.new.shelf) (c.in-Ok.ensures.none c.if-not-ready.false) c.ready_group.ensures.stands

pub clear_run-requires-clause-on : goal.clear_run-requires-clause-on
clear_run-requires-clause-on g c =
    to_inner c.ready_group.new.core c.args.vol (g.S.Shelf.meaning c.ready_group.new.shelf) (g.S.Shelf.meaning c.ready_group.new.shelf) (c.in-Ok.ensures.none c.if-not-ready.false) c.ready_group.ensures.stands c.args.vol c.args.logs.now (c.ready_group.ensures.logs.each c.args.vol c.args.logs.now c.requires.log)

pub clear_run-requires-clause-some : goal.clear_run-requires-clause-some
clear_run-requires-clause-some g c =
    let is = c.blocks_of-blocks.ensures in let off = c.if-blocks-eq0.false in omega (arith, is, off)

pub clear_run-requires-clause-alike : goal.clear_run-requires-clause-alike
clear_run-requires-clause-alike g c =
    subst (λ (x : Config). AllAlike x c.args.vol (g.S.Shelf.meaning c.ready_group.new.shelf)) (config_is c.ready_group.new.core c.args.vol (g.S.Shelf.meaning c.ready_group.new.shelf) (g.S.Shelf.meaning c.ready_group.new.shelf) (c.in-Ok.ensures.none c.if-not-ready.false) c.ready_group.ensures.stands) (alike_goes c.args.core.now c.ready_group.new.core c.args.vol (g.S.Shelf.meaning c.args.shelf.now) (g.S.Shelf.meaning c.ready_group.new.shelf) c.ready_group.ensures.goes c.requires.alike)

pub keep_log-requires-clause-stands : goal.keep_log-requires-clause-stands
keep_log-requires-clause-stands g c =
    logs_Stands c.ready_group.new.core c.args.vol (g.S.Shelf.meaning c.ready_group.new.shelf) (g.S.Shelf.meaning c.clear_run.new.shelf) (c.in-Ok.ensures.none c.if-not-ready.false) c.ready_group.ensures.stands c.clear_run.ensures.goes (g.met.S.Shelf.lawful c.ready_group.new.shelf) (g.met.S.Shelf.lawful c.clear_run.new.shelf)

pub keep_log-requires-clause-there : goal.keep_log-requires-clause-there
keep_log-requires-clause-there g c =
    omega (arith, c.requires.there, c.ready_group.ensures.goes.units)

pub returns-in-Err-clear_run-clause-stands : goal.returns-in-Err-clear_run-clause-stands
returns-in-Err-clear_run-clause-stands g c =
    logs_Stands c.ready_group.new.core c.args.vol (g.S.Shelf.meaning c.ready_group.new.shelf) (g.S.Shelf.meaning c.clear_run.new.shelf) (c.in-Ok.ensures.none c.if-not-ready.false) c.ready_group.ensures.stands c.clear_run.ensures.goes (g.met.S.Shelf.lawful c.ready_group.new.shelf) (g.met.S.Shelf.lawful c.clear_run.new.shelf)

pub returns-in-Err-clear_run-clause-goes : goal.returns-in-Err-clear_run-clause-goes
returns-in-Err-clear_run-clause-goes g c =
    then_nothing Nothing (inner_meaning (wide c.args.core.now) (g.S.Shelf.meaning c.args.shelf.now)) (inner_meaning (wide c.ready_group.new.core) (g.S.Shelf.meaning c.ready_group.new.shelf)) (inner_meaning (wide c.ready_group.new.core) (g.S.Shelf.meaning c.clear_run.new.shelf)) c.ready_group.ensures.goes (logs_goes c.ready_group.new.core c.args.vol (g.S.Shelf.meaning c.ready_group.new.shelf) (g.S.Shelf.meaning c.clear_run.new.shelf) (c.in-Ok.ensures.none c.if-not-ready.false) c.ready_group.ensures.stands c.clear_run.ensures.group)

pub returns-clause-goes : goal.returns-clause-goes
returns-clause-goes g c =
    then_nothing Nothing (inner_meaning (wide c.args.core.now) (g.S.Shelf.meaning c.args.shelf.now)) (inner_meaning (wide c.ready_group.new.core) (g.S.Shelf.meaning c.clear_run.new.shelf)) (inner_meaning (wide c.keep_log.new.core) (g.S.Shelf.meaning c.keep_log.new.shelf)) (then_nothing Nothing (inner_meaning (wide c.args.core.now) (g.S.Shelf.meaning c.args.shelf.now)) (inner_meaning (wide c.ready_group.new.core) (g.S.Shelf.meaning c.ready_group.new.shelf)) (inner_meaning (wide c.ready_group.new.core) (g.S.Shelf.meaning c.clear_run.new.shelf)) c.ready_group.ensures.goes (logs_goes c.ready_group.new.core c.args.vol (g.S.Shelf.meaning c.ready_group.new.shelf) (g.S.Shelf.meaning c.clear_run.new.shelf) (c.in-Ok.ensures.none c.if-not-ready.false) c.ready_group.ensures.stands c.clear_run.ensures.group)) c.keep_log.ensures.goes

pub returns-in-Err-clause-log : goal.returns-in-Err-clause-log
returns-in-Err-clause-log g c =
    c.ready_group.ensures.logs.each c.args.vol c.args.logs.now c.requires.log

pub returns-in-Err-clause-others : goal.returns-in-Err-clause-others
returns-in-Err-clause-others g c =
    others_each c.args.vol c.args.core.now c.ready_group.new.core (g.S.Shelf.meaning c.args.shelf.now) (g.S.Shelf.meaning c.ready_group.new.shelf) c.ready_group.ensures.logs

pub returns-then-not-ready-clause-log : goal.returns-then-not-ready-clause-log
returns-then-not-ready-clause-log g c =
    c.ready_group.ensures.logs.each c.args.vol c.args.logs.now c.requires.log

pub returns-then-not-ready-clause-others : goal.returns-then-not-ready-clause-others
returns-then-not-ready-clause-others g c =
    others_each c.args.vol c.args.core.now c.ready_group.new.core (g.S.Shelf.meaning c.args.shelf.now) (g.S.Shelf.meaning c.ready_group.new.shelf) c.ready_group.ensures.logs

pub returns-then-blocks-eq0-clause-log : goal.returns-then-blocks-eq0-clause-log
returns-then-blocks-eq0-clause-log g c =
    c.ready_group.ensures.logs.each c.args.vol c.args.logs.now c.requires.log

pub returns-then-blocks-eq0-clause-others : goal.returns-then-blocks-eq0-clause-others
returns-then-blocks-eq0-clause-others g c =
    others_each c.args.vol c.args.core.now c.ready_group.new.core (g.S.Shelf.meaning c.args.shelf.now) (g.S.Shelf.meaning c.ready_group.new.shelf) c.ready_group.ensures.logs

pub returns-in-Err-clear_run-clause-log : goal.returns-in-Err-clear_run-clause-log
returns-in-Err-clear_run-clause-log g c =
    to_wide c.ready_group.new.core c.args.vol (g.S.Shelf.meaning c.ready_group.new.shelf) (g.S.Shelf.meaning c.clear_run.new.shelf) (c.in-Ok.ensures.none c.if-not-ready.false) c.ready_group.ensures.stands c.args.vol c.clear_run.new.logs c.clear_run.ensures.on

pub returns-clause-log : goal.returns-clause-log
returns-clause-log g c =
    c.keep_log.ensures.logs.each c.args.vol c.clear_run.new.logs (to_wide c.ready_group.new.core c.args.vol (g.S.Shelf.meaning c.ready_group.new.shelf) (g.S.Shelf.meaning c.clear_run.new.shelf) (c.in-Ok.ensures.none c.if-not-ready.false) c.ready_group.ensures.stands c.args.vol c.clear_run.new.logs c.clear_run.ensures.on)

pub returns-in-Err-clear_run-clause-others : goal.returns-in-Err-clear_run-clause-others
returns-in-Err-clear_run-clause-others g c =
    others_then c.args.vol c.args.core.now c.ready_group.new.core c.ready_group.new.core (g.S.Shelf.meaning c.args.shelf.now) (g.S.Shelf.meaning c.ready_group.new.shelf) (g.S.Shelf.meaning c.clear_run.new.shelf) (others_each c.args.vol c.args.core.now c.ready_group.new.core (g.S.Shelf.meaning c.args.shelf.now) (g.S.Shelf.meaning c.ready_group.new.shelf) c.ready_group.ensures.logs) (inner_others c.ready_group.new.core c.args.vol (g.S.Shelf.meaning c.ready_group.new.shelf) (g.S.Shelf.meaning c.clear_run.new.shelf) (c.in-Ok.ensures.none c.if-not-ready.false) c.ready_group.ensures.stands c.clear_run.ensures.goes c.clear_run.ensures.others)

pub returns-clause-others : goal.returns-clause-others
returns-clause-others g c =
    others_then c.args.vol c.args.core.now c.ready_group.new.core c.keep_log.new.core (g.S.Shelf.meaning c.args.shelf.now) (g.S.Shelf.meaning c.clear_run.new.shelf) (g.S.Shelf.meaning c.keep_log.new.shelf) (others_then c.args.vol c.args.core.now c.ready_group.new.core c.ready_group.new.core (g.S.Shelf.meaning c.args.shelf.now) (g.S.Shelf.meaning c.ready_group.new.shelf) (g.S.Shelf.meaning c.clear_run.new.shelf) (others_each c.args.vol c.args.core.now c.ready_group.new.core (g.S.Shelf.meaning c.args.shelf.now) (g.S.Shelf.meaning c.ready_group.new.shelf) c.ready_group.ensures.logs) (inner_others c.ready_group.new.core c.args.vol (g.S.Shelf.meaning c.ready_group.new.shelf) (g.S.Shelf.meaning c.clear_run.new.shelf) (c.in-Ok.ensures.none c.if-not-ready.false) c.ready_group.ensures.stands c.clear_run.ensures.goes c.clear_run.ensures.others)) (others_each c.args.vol c.ready_group.new.core c.keep_log.new.core (g.S.Shelf.meaning c.clear_run.new.shelf) (g.S.Shelf.meaning c.keep_log.new.shelf) c.keep_log.ensures.logs)

pub returns-then-not-ready-clause-full : goal.returns-then-not-ready-clause-full
returns-then-not-ready-clause-full g c =
    λ is. let full = c.in-Ok.ensures.full c.if-not-ready.true in omega (arith, full)

pub returns-clause-full : goal.returns-clause-full
returns-clause-full g c =
    if_ok_from c.keep_log.result (λ (done : Bool) full is. let few = c.in-Ok.ensures.few in let here = full is in omega (arith, few, here)) c.keep_log.ensures.full

pub returns-clause-trust : goal.returns-clause-trust
returns-clause-trust g c =
    ok_from c.keep_log.result (λ keeps is. keeps (c.in-Ok.ensures.trust is)) c.keep_log.ensures.trust

pub returns-clause-agreed : goal.returns-clause-agreed
returns-clause-agreed g c =
    err_from c.keep_log.result (λ keeps is. keeps (c.in-Ok.ensures.trust is)) c.keep_log.ensures.agreed

pub returns-in-Err-clear_run-clause-agreed : goal.returns-in-Err-clear_run-clause-agreed
returns-in-Err-clear_run-clause-agreed g c =
    λ is. c.ready_group.ensures.stands.stands.trusts.both (c.in-Ok.ensures.trust is)

pub returns-in-Err-clear_run-clause-cause : goal.returns-in-Err-clear_run-clause-cause
returns-in-Err-clear_run-clause-cause g c =
    c.in-Err-clear_run.ensures.down

pub returns-clause-cause : goal.returns-clause-cause
returns-clause-cause g c =
    let goes = then_nothing Nothing (inner_meaning (wide c.args.core.now) (g.S.Shelf.meaning c.args.shelf.now)) (inner_meaning (wide c.ready_group.new.core) (g.S.Shelf.meaning c.ready_group.new.shelf)) (inner_meaning (wide c.ready_group.new.core) (g.S.Shelf.meaning c.clear_run.new.shelf)) c.ready_group.ensures.goes (logs_goes c.ready_group.new.core c.args.vol (g.S.Shelf.meaning c.ready_group.new.shelf) (g.S.Shelf.meaning c.clear_run.new.shelf) (c.in-Ok.ensures.none c.if-not-ready.false) c.ready_group.ensures.stands c.clear_run.ensures.group) in
    Cause_both (inner_meaning (wide c.args.core.now) (g.S.Shelf.meaning c.args.shelf.now)) (inner_meaning (wide c.ready_group.new.core) (g.S.Shelf.meaning c.clear_run.new.shelf)) (inner_meaning (wide c.keep_log.new.core) (g.S.Shelf.meaning c.keep_log.new.shelf)) c.args.vol c.keep_log.result
    (record { before = c.in-Ok.ensures.cause.before; after = λ down. c.in-Ok.ensures.cause.after (c.in-Ok-clear_run.ensures.up down) }) goes.faults goes.disk_faults c.keep_log.ensures.cause

pub returns-in-Err-clause-fewer : goal.returns-in-Err-clause-fewer
returns-in-Err-clause-fewer g c = same_fewer _ c.args.logs.now

pub returns-then-not-ready-clause-fewer : goal.returns-then-not-ready-clause-fewer
returns-then-not-ready-clause-fewer g c = same_fewer _ c.args.logs.now

pub returns-then-not-ready-clause-off : goal.returns-then-not-ready-clause-off
returns-then-not-ready-clause-off g c = λ is. absurd (let clash : false ≡ true = is in cc)

pub returns-then-blocks-eq0-clause-fewer : goal.returns-then-blocks-eq0-clause-fewer
returns-then-blocks-eq0-clause-fewer g c = same_fewer _ c.args.logs.now

pub returns-then-blocks-eq0-clause-off : goal.returns-then-blocks-eq0-clause-off
returns-then-blocks-eq0-clause-off g c = λ is many.
    no_regions c.args.core.now c.ready_group.new.core c.args.vol c.blocks_of-blocks.result c.args.logs.now (g.S.Shelf.meaning c.args.shelf.now) (g.S.Shelf.meaning c.ready_group.new.shelf) (c.in-Ok.ensures.none c.if-not-ready.false) c.ready_group.ensures.goes c.blocks_of-blocks.ensures c.if-blocks-eq0.true

pub returns-in-Err-clear_run-clause-fewer : goal.returns-in-Err-clear_run-clause-fewer
returns-in-Err-clear_run-clause-fewer g c = subst (λ (n : ℕ). MarksFewer n c.args.logs.now c.clear_run.new.logs) (same_regions c.args.core.now c.ready_group.new.core c.args.vol (g.S.Shelf.meaning c.args.shelf.now) (g.S.Shelf.meaning c.ready_group.new.shelf) (c.in-Ok.ensures.none c.if-not-ready.false) c.ready_group.ensures.goes) c.clear_run.ensures.fewer

pub returns-clause-fewer : goal.returns-clause-fewer
returns-clause-fewer g c = subst (λ (n : ℕ). MarksFewer n c.args.logs.now c.clear_run.new.logs) (same_regions c.args.core.now c.ready_group.new.core c.args.vol (g.S.Shelf.meaning c.args.shelf.now) (g.S.Shelf.meaning c.ready_group.new.shelf) (c.in-Ok.ensures.none c.if-not-ready.false) c.ready_group.ensures.goes) c.clear_run.ensures.fewer

pub returns-clause-off : goal.returns-clause-off
returns-clause-off g c = if_ok_any c.keep_log.result (λ (done : Bool) is many. subst (λ (n : ℕ). NoMarks n c.clear_run.new.logs) (same_regions c.args.core.now c.ready_group.new.core c.args.vol (g.S.Shelf.meaning c.args.shelf.now) (g.S.Shelf.meaning c.ready_group.new.shelf) (c.in-Ok.ensures.none c.if-not-ready.false) c.ready_group.ensures.goes) (c.in-Ok-clear_run.ensures.off many))

pub returns-in-Err-clause-maps : goal.returns-in-Err-clause-maps
returns-in-Err-clause-maps g c = c.ready_group.ensures.logs.maps c.args.vol none_spared c.args.logs.now

pub returns-in-Err-clause-stay : goal.returns-in-Err-clause-stay
returns-in-Err-clause-stay g c = note_same _ _ _ c.args.logs.now c.args.logs.now refl

pub returns-then-not-ready-clause-maps : goal.returns-then-not-ready-clause-maps
returns-then-not-ready-clause-maps g c = c.ready_group.ensures.logs.maps c.args.vol none_spared c.args.logs.now

pub returns-then-not-ready-clause-stay : goal.returns-then-not-ready-clause-stay
returns-then-not-ready-clause-stay g c = note_same _ _ _ c.args.logs.now c.args.logs.now refl

pub returns-then-blocks-eq0-clause-maps : goal.returns-then-blocks-eq0-clause-maps
returns-then-blocks-eq0-clause-maps g c = c.ready_group.ensures.logs.maps c.args.vol none_spared c.args.logs.now

pub returns-then-blocks-eq0-clause-stay : goal.returns-then-blocks-eq0-clause-stay
returns-then-blocks-eq0-clause-stay g c = note_same _ _ _ c.args.logs.now c.args.logs.now refl

pub returns-in-Err-clear_run-clause-maps : goal.returns-in-Err-clear_run-clause-maps
returns-in-Err-clear_run-clause-maps g c = λ know. know_wide c.ready_group.new.core c.args.vol (g.S.Shelf.meaning c.ready_group.new.shelf) (g.S.Shelf.meaning c.clear_run.new.shelf) (c.in-Ok.ensures.none c.if-not-ready.false) c.ready_group.ensures.stands c.args.vol none_spared c.clear_run.new.logs (c.clear_run.ensures.maps none_spared (know_inner c.ready_group.new.core c.args.vol (g.S.Shelf.meaning c.ready_group.new.shelf) (g.S.Shelf.meaning c.ready_group.new.shelf) (c.in-Ok.ensures.none c.if-not-ready.false) c.ready_group.ensures.stands c.args.vol none_spared c.args.logs.now (c.ready_group.ensures.logs.maps c.args.vol none_spared c.args.logs.now know)))

pub returns-in-Err-clear_run-clause-stay : goal.returns-in-Err-clear_run-clause-stay
returns-in-Err-clear_run-clause-stay g c = note_none _ _ _ c.args.logs.now c.clear_run.new.logs c.in-Err-clear_run.ensures.gone

pub returns-clause-maps : goal.returns-clause-maps
returns-clause-maps g c = λ know. c.keep_log.ensures.logs.maps c.args.vol none_spared c.clear_run.new.logs
    (know_wide c.ready_group.new.core c.args.vol (g.S.Shelf.meaning c.ready_group.new.shelf) (g.S.Shelf.meaning c.clear_run.new.shelf) (c.in-Ok.ensures.none c.if-not-ready.false) c.ready_group.ensures.stands c.args.vol none_spared c.clear_run.new.logs (c.clear_run.ensures.maps none_spared (know_inner c.ready_group.new.core c.args.vol (g.S.Shelf.meaning c.ready_group.new.shelf) (g.S.Shelf.meaning c.ready_group.new.shelf) (c.in-Ok.ensures.none c.if-not-ready.false) c.ready_group.ensures.stands c.args.vol none_spared c.args.logs.now (c.ready_group.ensures.logs.maps c.args.vol none_spared c.args.logs.now know))))

pub returns-clause-stay : goal.returns-clause-stay
returns-clause-stay g c = note_same _ _ _ c.args.logs.now c.clear_run.new.logs c.in-Ok-clear_run.ensures.same

pub returns-in-Err-clause-loses : goal.returns-in-Err-clause-loses
returns-in-Err-clause-loses g c = c.ready_group.ensures.loses

pub returns-then-not-ready-clause-loses : goal.returns-then-not-ready-clause-loses
returns-then-not-ready-clause-loses g c = c.ready_group.ensures.loses

pub returns-then-blocks-eq0-clause-loses : goal.returns-then-blocks-eq0-clause-loses
returns-then-blocks-eq0-clause-loses g c = c.ready_group.ensures.loses

pub returns-in-Err-clear_run-clause-loses : goal.returns-in-Err-clear_run-clause-loses
returns-in-Err-clear_run-clause-loses g c =
    then_along c.args.core.now.inner.config c.ready_group.new.core.inner.config c.ready_group.new.core.inner.config (g.S.Shelf.meaning c.args.shelf.now) (g.S.Shelf.meaning c.ready_group.new.shelf) (g.S.Shelf.meaning c.clear_run.new.shelf) c.ready_group.ensures.loses (along_same c.ready_group.new.core.inner.config (g.S.Shelf.meaning c.ready_group.new.shelf) (g.S.Shelf.meaning c.clear_run.new.shelf) c.clear_run.ensures.goes.faults)

pub returns-clause-loses : goal.returns-clause-loses
returns-clause-loses g c =
    then_along c.args.core.now.inner.config c.ready_group.new.core.inner.config c.keep_log.new.core.inner.config (g.S.Shelf.meaning c.args.shelf.now) (g.S.Shelf.meaning c.clear_run.new.shelf) (g.S.Shelf.meaning c.keep_log.new.shelf)
    (then_along c.args.core.now.inner.config c.ready_group.new.core.inner.config c.ready_group.new.core.inner.config (g.S.Shelf.meaning c.args.shelf.now) (g.S.Shelf.meaning c.ready_group.new.shelf) (g.S.Shelf.meaning c.clear_run.new.shelf) c.ready_group.ensures.loses (along_same c.ready_group.new.core.inner.config (g.S.Shelf.meaning c.ready_group.new.shelf) (g.S.Shelf.meaning c.clear_run.new.shelf) c.clear_run.ensures.goes.faults)) c.keep_log.ensures.loses

pub returns-in-Err-clause-below : goal.returns-in-Err-clause-below
returns-in-Err-clause-below g c = c.ready_group.ensures.below

pub returns-then-not-ready-clause-below : goal.returns-then-not-ready-clause-below
returns-then-not-ready-clause-below g c = c.ready_group.ensures.below

pub returns-then-blocks-eq0-clause-below : goal.returns-then-blocks-eq0-clause-below
returns-then-blocks-eq0-clause-below g c = c.ready_group.ensures.below

pub returns-in-Err-clear_run-clause-below : goal.returns-in-Err-clear_run-clause-below
returns-in-Err-clear_run-clause-below g c =
    then_units (g.S.Shelf.meaning c.args.shelf.now) (g.S.Shelf.meaning c.ready_group.new.shelf) (g.S.Shelf.meaning c.clear_run.new.shelf) c.ready_group.ensures.below (goes_units _ (g.S.Shelf.meaning c.ready_group.new.shelf) (g.S.Shelf.meaning c.clear_run.new.shelf) c.clear_run.ensures.goes)

pub returns-clause-below : goal.returns-clause-below
returns-clause-below g c =
    then_units (g.S.Shelf.meaning c.args.shelf.now) (g.S.Shelf.meaning c.clear_run.new.shelf) (g.S.Shelf.meaning c.keep_log.new.shelf)
    (then_units (g.S.Shelf.meaning c.args.shelf.now) (g.S.Shelf.meaning c.ready_group.new.shelf) (g.S.Shelf.meaning c.clear_run.new.shelf) c.ready_group.ensures.below (goes_units _ (g.S.Shelf.meaning c.ready_group.new.shelf) (g.S.Shelf.meaning c.clear_run.new.shelf) c.clear_run.ensures.goes)) c.keep_log.ensures.below

pub returns-in-Err-clause-narrow : goal.returns-in-Err-clause-narrow
returns-in-Err-clause-narrow g c = c.ready_group.ensures.narrow

pub returns-then-not-ready-clause-narrow : goal.returns-then-not-ready-clause-narrow
returns-then-not-ready-clause-narrow g c = c.ready_group.ensures.narrow

pub returns-then-blocks-eq0-clause-narrow : goal.returns-then-blocks-eq0-clause-narrow
returns-then-blocks-eq0-clause-narrow g c = c.ready_group.ensures.narrow

pub returns-in-Err-clear_run-clause-narrow : goal.returns-in-Err-clear_run-clause-narrow
returns-in-Err-clear_run-clause-narrow g c = c.ready_group.ensures.narrow

pub returns-clause-narrow : goal.returns-clause-narrow
returns-clause-narrow g c = narrowed_then c.args.core.now c.ready_group.new.core c.keep_log.new.core c.ready_group.ensures.narrow c.keep_log.ensures.narrow

pub returns-in-Err-clause-finds : goal.returns-in-Err-clause-finds
returns-in-Err-clause-finds g c =
    c.ready_group.ensures.finds

pub returns-then-not-ready-clause-finds : goal.returns-then-not-ready-clause-finds
returns-then-not-ready-clause-finds g c =
    c.ready_group.ensures.finds

pub returns-then-blocks-eq0-clause-finds : goal.returns-then-blocks-eq0-clause-finds
returns-then-blocks-eq0-clause-finds g c =
    c.ready_group.ensures.finds

pub returns-in-Err-clear_run-clause-finds : goal.returns-in-Err-clear_run-clause-finds
returns-in-Err-clear_run-clause-finds g c =
    then_group c.args.core.now c.ready_group.new.core c.ready_group.new.core (g.S.Shelf.meaning c.args.shelf.now) (g.S.Shelf.meaning c.ready_group.new.shelf) (g.S.Shelf.meaning c.clear_run.new.shelf)
    c.ready_group.ensures.finds
    (logs_idle c.ready_group.new.core c.args.vol (g.S.Shelf.meaning c.ready_group.new.shelf) (g.S.Shelf.meaning c.clear_run.new.shelf) (c.in-Ok.ensures.none c.if-not-ready.false) c.ready_group.ensures.stands c.clear_run.ensures.goes (g.met.S.Shelf.lawful c.ready_group.new.shelf) (g.met.S.Shelf.lawful c.clear_run.new.shelf))

pub returns-clause-finds : goal.returns-clause-finds
returns-clause-finds g c =
    then_group c.args.core.now c.ready_group.new.core c.keep_log.new.core (g.S.Shelf.meaning c.args.shelf.now) (g.S.Shelf.meaning c.clear_run.new.shelf) (g.S.Shelf.meaning c.keep_log.new.shelf)
    (then_group c.args.core.now c.ready_group.new.core c.ready_group.new.core (g.S.Shelf.meaning c.args.shelf.now) (g.S.Shelf.meaning c.ready_group.new.shelf) (g.S.Shelf.meaning c.clear_run.new.shelf)
    c.ready_group.ensures.finds
    (logs_idle c.ready_group.new.core c.args.vol (g.S.Shelf.meaning c.ready_group.new.shelf) (g.S.Shelf.meaning c.clear_run.new.shelf) (c.in-Ok.ensures.none c.if-not-ready.false) c.ready_group.ensures.stands c.clear_run.ensures.goes (g.met.S.Shelf.lawful c.ready_group.new.shelf) (g.met.S.Shelf.lawful c.clear_run.new.shelf)))
    c.keep_log.ensures.finds

pub returns-in-Err-clause-drops : goal.returns-in-Err-clause-drops
returns-in-Err-clause-drops g c =
    drop_same (wide c.args.core.now).config c.args.vol c.args.logs.now (g.S.Shelf.meaning c.args.shelf.now) (g.S.Shelf.meaning c.ready_group.new.shelf)

pub returns-in-Err-clause-trusts : goal.returns-in-Err-clause-trusts
returns-in-Err-clause-trusts g c =
    trusts_in c.args.vol c.args.logs.now c.args.core.now.inner.config c.ready_group.new.core.inner.config c.ready_group.ensures.trusts

pub returns-then-not-ready-clause-drops : goal.returns-then-not-ready-clause-drops
returns-then-not-ready-clause-drops g c =
    drop_same (wide c.args.core.now).config c.args.vol c.args.logs.now (g.S.Shelf.meaning c.args.shelf.now) (g.S.Shelf.meaning c.ready_group.new.shelf)

pub returns-then-not-ready-clause-trusts : goal.returns-then-not-ready-clause-trusts
returns-then-not-ready-clause-trusts g c =
    trusts_in c.args.vol c.args.logs.now c.args.core.now.inner.config c.ready_group.new.core.inner.config c.ready_group.ensures.trusts

pub returns-then-blocks-eq0-clause-drops : goal.returns-then-blocks-eq0-clause-drops
returns-then-blocks-eq0-clause-drops g c =
    drop_same (wide c.args.core.now).config c.args.vol c.args.logs.now (g.S.Shelf.meaning c.args.shelf.now) (g.S.Shelf.meaning c.ready_group.new.shelf)

pub returns-then-blocks-eq0-clause-trusts : goal.returns-then-blocks-eq0-clause-trusts
returns-then-blocks-eq0-clause-trusts g c =
    trusts_in c.args.vol c.args.logs.now c.args.core.now.inner.config c.ready_group.new.core.inner.config c.ready_group.ensures.trusts

pub returns-in-Err-clear_run-clause-drops : goal.returns-in-Err-clear_run-clause-drops
returns-in-Err-clear_run-clause-drops g c =
    drop_behind (wide c.args.core.now).config c.ready_group.new.core.inner.config c.args.vol c.args.logs.now c.clear_run.new.logs (g.S.Shelf.meaning c.args.shelf.now) (g.S.Shelf.meaning c.ready_group.new.shelf) (g.S.Shelf.meaning c.clear_run.new.shelf) (inner_places c.args.core.now c.ready_group.new.core c.args.vol (c.in-Ok.ensures.none c.if-not-ready.false) c.ready_group.ensures.narrow) c.ready_group.ensures.loses.rises c.clear_run.ensures.drops

pub returns-in-Err-clear_run-clause-trusts : goal.returns-in-Err-clear_run-clause-trusts
returns-in-Err-clear_run-clause-trusts g c =
    trusts_in c.args.vol c.clear_run.new.logs c.args.core.now.inner.config c.ready_group.new.core.inner.config c.ready_group.ensures.trusts

pub returns-clause-drops : goal.returns-clause-drops
returns-clause-drops g c =
    drop_before (wide c.args.core.now).config c.args.vol c.args.logs.now c.clear_run.new.logs (g.S.Shelf.meaning c.args.shelf.now) (g.S.Shelf.meaning c.clear_run.new.shelf) (g.S.Shelf.meaning c.keep_log.new.shelf) c.keep_log.ensures.loses.rises c.keep_log.ensures.goes.falls
    (drop_behind (wide c.args.core.now).config c.ready_group.new.core.inner.config c.args.vol c.args.logs.now c.clear_run.new.logs (g.S.Shelf.meaning c.args.shelf.now) (g.S.Shelf.meaning c.ready_group.new.shelf) (g.S.Shelf.meaning c.clear_run.new.shelf) (inner_places c.args.core.now c.ready_group.new.core c.args.vol (c.in-Ok.ensures.none c.if-not-ready.false) c.ready_group.ensures.narrow) c.ready_group.ensures.loses.rises c.clear_run.ensures.drops)

pub returns-clause-trusts : goal.returns-clause-trusts
returns-clause-trusts g c =
    trusts_then c.args.vol c.clear_run.new.logs c.args.core.now.inner.config c.ready_group.new.core.inner.config c.keep_log.new.core.inner.config (trusts_in c.args.vol c.clear_run.new.logs c.args.core.now.inner.config c.ready_group.new.core.inner.config c.ready_group.ensures.trusts) c.keep_log.ensures.trusts

pub returns-clause-still : goal.returns-clause-still
returns-clause-still g c = λ w p. c.keep_log.ensures.still (c.in-Ok.ensures.none c.if-not-ready.false) w p ∙ c.ready_group.ensures.still w p

pub returns-then-not-ready-clause-spent : goal.returns-then-not-ready-clause-spent
returns-then-not-ready-clause-spent g c = λ is. let spent = c.in-Ok.ensures.spent c.if-not-ready.true in omega (arith, spent)

pub returns-then-blocks-eq0-clause-spent : goal.returns-then-blocks-eq0-clause-spent
returns-then-blocks-eq0-clause-spent g c = λ is. absurd (let clash : true ≡ false = is in cc)

pub returns-clause-spent : goal.returns-clause-spent
returns-clause-spent g c = c.keep_log.ensures.spent

pub returns-then-not-ready-clause-same : goal.returns-then-not-ready-clause-same
returns-then-not-ready-clause-same g c = refl

pub returns-then-blocks-eq0-clause-same : goal.returns-then-blocks-eq0-clause-same
returns-then-blocks-eq0-clause-same g c = refl

pub returns-clause-same : goal.returns-clause-same
returns-clause-same g c = ok_from c.keep_log.result (λ keeps. c.in-Ok-clear_run.ensures.same) c.keep_log.ensures.trust

pub returns-in-Err-clause-kept : goal.returns-in-Err-clause-kept
returns-in-Err-clause-kept g c = λ was. tt

pub returns-in-Err-clause-said : goal.returns-in-Err-clause-said
returns-in-Err-clause-said g c = λ some. tt

pub returns-then-not-ready-clause-kept : goal.returns-then-not-ready-clause-kept
returns-then-not-ready-clause-kept g c = λ was is. absurd (let clash : false ≡ true = is in cc)

pub returns-then-not-ready-clause-said : goal.returns-then-not-ready-clause-said
returns-then-not-ready-clause-said g c = λ some is. absurd (let clash : false ≡ true = is in cc)

pub returns-then-blocks-eq0-clause-kept : goal.returns-then-blocks-eq0-clause-kept
returns-then-blocks-eq0-clause-kept g c = λ was is. log_later c.args.core.now c.ready_group.new.core c.args.vol c.args.logs.now c.args.logs.now c.ready_group.ensures.narrow refl was

pub returns-then-blocks-eq0-clause-said : goal.returns-then-blocks-eq0-clause-said
returns-then-blocks-eq0-clause-said g c = λ some is. absurd (some_blocks c.args.core.now c.ready_group.new.core c.args.vol c.blocks_of-blocks.result (g.S.Shelf.meaning c.args.shelf.now) (g.S.Shelf.meaning c.ready_group.new.shelf) (c.in-Ok.ensures.none c.if-not-ready.false) c.ready_group.ensures.goes c.blocks_of-blocks.ensures c.if-blocks-eq0.true some)

pub returns-in-Err-clear_run-clause-kept : goal.returns-in-Err-clear_run-clause-kept
returns-in-Err-clear_run-clause-kept g c = λ was. tt

pub returns-in-Err-clear_run-clause-said : goal.returns-in-Err-clear_run-clause-said
returns-in-Err-clear_run-clause-said g c = λ some. tt

pub returns-clause-kept : goal.returns-clause-kept
returns-clause-kept g c = λ was. c.keep_log.ensures.kept

pub returns-clause-said : goal.returns-clause-said
returns-clause-said g c = λ some. c.keep_log.ensures.kept

pub returns-in-Err-clause-marks : goal.returns-in-Err-clause-marks
returns-in-Err-clause-marks g c = c.in-Err.ensures.marks

pub returns-in-Err-clause-misses : goal.returns-in-Err-clause-misses
returns-in-Err-clause-misses g c = c.in-Err.ensures.misses

pub returns-then-not-ready-clause-marks : goal.returns-then-not-ready-clause-marks
returns-then-not-ready-clause-marks g c = c.in-Ok.ensures.marks

pub returns-then-blocks-eq0-clause-marks : goal.returns-then-blocks-eq0-clause-marks
returns-then-blocks-eq0-clause-marks g c = c.in-Ok.ensures.marks

pub returns-in-Err-clear_run-clause-marks : goal.returns-in-Err-clear_run-clause-marks
returns-in-Err-clear_run-clause-marks g c = c.in-Ok.ensures.marks

pub returns-in-Err-clear_run-clause-misses : goal.returns-in-Err-clear_run-clause-misses
returns-in-Err-clear_run-clause-misses g c = tt

pub returns-clause-marks : goal.returns-clause-marks
returns-clause-marks g c = marks_then c.args.vol c.args.core.now.inner.unsure c.ready_group.new.core.inner.unsure c.keep_log.new.core.inner.unsure c.keep_log.result c.in-Ok.ensures.marks c.keep_log.ensures.marks

pub returns-clause-misses : goal.returns-clause-misses
returns-clause-misses g c = c.keep_log.ensures.misses

pub returns-in-Err-clause-stands : goal.returns-in-Err-clause-stands
returns-in-Err-clause-stands g c = c.ready_group.ensures.stands

pub returns-in-Err-clause-goes : goal.returns-in-Err-clause-goes
returns-in-Err-clause-goes g c = c.ready_group.ensures.goes

pub returns-in-Err-clause-still : goal.returns-in-Err-clause-still
returns-in-Err-clause-still g c = c.ready_group.ensures.still

pub returns-in-Err-clause-off : goal.returns-in-Err-clause-off
returns-in-Err-clause-off g c = tt

pub returns-in-Err-clause-full : goal.returns-in-Err-clause-full
returns-in-Err-clause-full g c = tt

pub returns-in-Err-clause-spent : goal.returns-in-Err-clause-spent
returns-in-Err-clause-spent g c = tt

pub returns-in-Err-clause-same : goal.returns-in-Err-clause-same
returns-in-Err-clause-same g c = tt

pub returns-in-Err-clause-trust : goal.returns-in-Err-clause-trust
returns-in-Err-clause-trust g c = tt

pub returns-in-Err-clause-agreed : goal.returns-in-Err-clause-agreed
returns-in-Err-clause-agreed g c = c.in-Err.ensures.agreed

pub returns-in-Err-clause-cause : goal.returns-in-Err-clause-cause
returns-in-Err-clause-cause g c = c.in-Err.ensures.cause

pub returns-then-not-ready-clause-stands : goal.returns-then-not-ready-clause-stands
returns-then-not-ready-clause-stands g c = c.ready_group.ensures.stands

pub returns-then-not-ready-clause-goes : goal.returns-then-not-ready-clause-goes
returns-then-not-ready-clause-goes g c = c.ready_group.ensures.goes

pub returns-then-not-ready-clause-still : goal.returns-then-not-ready-clause-still
returns-then-not-ready-clause-still g c = c.ready_group.ensures.still

pub returns-then-not-ready-clause-trust : goal.returns-then-not-ready-clause-trust
returns-then-not-ready-clause-trust g c = c.in-Ok.ensures.trust

pub returns-then-not-ready-clause-agreed : goal.returns-then-not-ready-clause-agreed
returns-then-not-ready-clause-agreed g c = tt

pub returns-then-not-ready-clause-misses : goal.returns-then-not-ready-clause-misses
returns-then-not-ready-clause-misses g c = tt

pub returns-then-not-ready-clause-cause : goal.returns-then-not-ready-clause-cause
returns-then-not-ready-clause-cause g c = c.in-Ok.ensures.cause

pub returns-then-blocks-eq0-clause-stands : goal.returns-then-blocks-eq0-clause-stands
returns-then-blocks-eq0-clause-stands g c = c.ready_group.ensures.stands

pub returns-then-blocks-eq0-clause-goes : goal.returns-then-blocks-eq0-clause-goes
returns-then-blocks-eq0-clause-goes g c = c.ready_group.ensures.goes

pub returns-then-blocks-eq0-clause-still : goal.returns-then-blocks-eq0-clause-still
returns-then-blocks-eq0-clause-still g c = c.ready_group.ensures.still

pub returns-then-blocks-eq0-clause-trust : goal.returns-then-blocks-eq0-clause-trust
returns-then-blocks-eq0-clause-trust g c = c.in-Ok.ensures.trust

pub returns-then-blocks-eq0-clause-agreed : goal.returns-then-blocks-eq0-clause-agreed
returns-then-blocks-eq0-clause-agreed g c = tt

pub returns-then-blocks-eq0-clause-misses : goal.returns-then-blocks-eq0-clause-misses
returns-then-blocks-eq0-clause-misses g c = tt

pub returns-then-blocks-eq0-clause-cause : goal.returns-then-blocks-eq0-clause-cause
returns-then-blocks-eq0-clause-cause g c = c.in-Ok.ensures.cause

pub returns-in-Err-clear_run-clause-off : goal.returns-in-Err-clear_run-clause-off
returns-in-Err-clear_run-clause-off g c = tt

pub returns-in-Err-clear_run-clause-full : goal.returns-in-Err-clear_run-clause-full
returns-in-Err-clear_run-clause-full g c = tt

pub returns-in-Err-clear_run-clause-spent : goal.returns-in-Err-clear_run-clause-spent
returns-in-Err-clear_run-clause-spent g c = tt

pub returns-in-Err-clear_run-clause-same : goal.returns-in-Err-clear_run-clause-same
returns-in-Err-clear_run-clause-same g c = tt

pub returns-in-Err-clear_run-clause-trust : goal.returns-in-Err-clear_run-clause-trust
returns-in-Err-clear_run-clause-trust g c = tt
