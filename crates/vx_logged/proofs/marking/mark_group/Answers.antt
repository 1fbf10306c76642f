-- Marks of a group before a write.
use Rattle.std.proofs.Common.{IsTrue, ◌≡◌, ◌+◌, ◌<◌, ◌≤◌, ℕ, Bool, false, true, refl, subst, sym, arith, ◌∙◌}
use Rattle.vx_config.specs.Checks.{blocks_of}
use Rattle.vx_config.specs.declared.config.Config.{Config}
use Rattle.vx_disk.specs.Shelf.{Nothing}
use Rattle.vx_disk.proofs.Causing.{Cause_both}
use Rattle.vx_disk.proofs.Runs.{then_nothing}
use Rattle.vx_group.specs.Holding.{wide}
use Rattle.vx_group.specs.Stands.{inner_meaning}
use Rattle.vx_grouplogs.specs.Marking.{MarksOnly}
use Rattle.vx_logs.specs.Writes.{first_region, last_region}
use Rattle.vx_group.proofs.LostLemmas.{if_ok_from}
use Rattle.vx_group.proofs.TrustLemmas.{err_from, ok_from}
use Rattle.vx_groupmaps.specs.Knowing.{PlexesKnow, or_off}
use Rattle.vx_groupmaps.proofs.KnowLemmas.{note_more, note_same}
use Rattle.vx_kept.specs.Keeping.{AllOn}
use Rattle.vx_logs.specs.Held.{stale}
use Rattle.vx_logged.specs.Logged.{are_off}
use Rattle.vx_logged.proofs.BeginLemmas.{plexes_each, plexes_logs}
use Rattle.vx_logged.proofs.HoldsLemmas.{holds_run, holds_same, inner_count}
use Rattle.vx_logged.proofs.MissLemmas.{know_stale, know_wider, stale_are_off}
use Rattle.vx_logged.proofs.RefuseLemmas.{hold_older}
use Rattle.vx_logged.proofs.StandLemmas.{config_is, if_ok_any, inner_fit, inner_others, inner_sound, know_inner, know_wide, logs_Stands, logs_goes, narrowed_same, narrowed_then, others_each, others_then, same_only, same_regions, to_inner, to_wide, logs_idle}
use Rattle.vx_group.proofs.LoseLemmas.{along_same, then_along}
use Rattle.vx_group.proofs.FindingLemmas.{then_group}
use Rattle.vx_logged.proofs.GoneLogs.{inner_places, trusts_in, trusts_then}
use Rattle.vx_grouplogs.proofs.GoneLemmas.{drop_before, drop_behind, drop_same}
use Rattle.vx_group.proofs.UnsureLemmas.{marks_then}
use Rattle.vx_logged.proofs.marking.mark_group.Goals as goal

pub guard_run-requires-clause-checked : goal.guard_run-requires-clause-checked
guard_run-requires-clause-checked g c =
    inner_sound c.ready_group.new.core c.args.vol (g.S.Shelf.meaning c.ready_group.new.shelf) (g.S.Shelf.meaning c.ready_group.new.shelf) (c.in-Ok.ensures.none c.if-not-ready.false) c.ready_group.ensures.stands

pub guard_run-requires-clause-disks : goal.guard_run-requires-clause-disks
guard_run-requires-clause-disks g c =
    inner_fit c.ready_group.new.core c.args.vol (g.S.Shelf.meaning c.ready_group.new.shelf) (g.S.Shelf.meaning c.ready_group.new.shelf) (c.in-Ok.ensures.none c.if-not-ready.false) c.ready_group.ensures.stands

pub guard_run-requires-clause-on : goal.guard_run-requires-clause-on
guard_run-requires-clause-on g c =
    to_inner c.ready_group.new.core c.args.vol (g.S.Shelf.meaning c.ready_group.new.shelf) (g.S.Shelf.meaning c.ready_group.new.shelf) (c.in-Ok.ensures.none c.if-not-ready.false) c.ready_group.ensures.stands c.args.vol c.args.logs.now (c.ready_group.ensures.logs.each c.args.vol c.args.logs.now c.requires.log)

pub guard_run-requires-clause-within : goal.guard_run-requires-clause-within
guard_run-requires-clause-within g c =
    subst (λ (x : Config). c.args.block + c.args.count ≤ blocks_of x.volumes c.args.vol) (config_is c.ready_group.new.core c.args.vol (g.S.Shelf.meaning c.ready_group.new.shelf) (g.S.Shelf.meaning c.ready_group.new.shelf) (c.in-Ok.ensures.none c.if-not-ready.false) c.ready_group.ensures.stands) (let same = c.ready_group.ensures.goes.size c.args.vol in omega (arith, c.requires.within, same))

pub keep_logs-requires-clause-stands : goal.keep_logs-requires-clause-stands
keep_logs-requires-clause-stands g c =
    logs_Stands c.ready_group.new.core c.args.vol (g.S.Shelf.meaning c.ready_group.new.shelf) (g.S.Shelf.meaning c.guard_run.new.shelf) (c.in-Ok.ensures.none c.if-not-ready.false) c.ready_group.ensures.stands c.guard_run.ensures.goes (g.met.S.Shelf.lawful c.ready_group.new.shelf) (g.met.S.Shelf.lawful c.guard_run.new.shelf)

pub keep_logs-requires-clause-there : goal.keep_logs-requires-clause-there
keep_logs-requires-clause-there g c =
    omega (arith, c.requires.there, c.ready_group.ensures.goes.units)

pub returns-in-Err-guard_run-clause-stands : goal.returns-in-Err-guard_run-clause-stands
returns-in-Err-guard_run-clause-stands g c =
    logs_Stands c.ready_group.new.core c.args.vol (g.S.Shelf.meaning c.ready_group.new.shelf) (g.S.Shelf.meaning c.guard_run.new.shelf) (c.in-Ok.ensures.none c.if-not-ready.false) c.ready_group.ensures.stands c.guard_run.ensures.goes (g.met.S.Shelf.lawful c.ready_group.new.shelf) (g.met.S.Shelf.lawful c.guard_run.new.shelf)

pub returns-in-Err-guard_run-clause-goes : goal.returns-in-Err-guard_run-clause-goes
returns-in-Err-guard_run-clause-goes g c =
    then_nothing Nothing (inner_meaning (wide c.args.core.now) (g.S.Shelf.meaning c.args.shelf.now)) (inner_meaning (wide c.ready_group.new.core) (g.S.Shelf.meaning c.ready_group.new.shelf)) (inner_meaning (wide c.ready_group.new.core) (g.S.Shelf.meaning c.guard_run.new.shelf)) c.ready_group.ensures.goes (logs_goes c.ready_group.new.core c.args.vol (g.S.Shelf.meaning c.ready_group.new.shelf) (g.S.Shelf.meaning c.guard_run.new.shelf) (c.in-Ok.ensures.none c.if-not-ready.false) c.ready_group.ensures.stands c.guard_run.ensures.group)

pub returns-clause-goes : goal.returns-clause-goes
returns-clause-goes g c =
    then_nothing Nothing (inner_meaning (wide c.args.core.now) (g.S.Shelf.meaning c.args.shelf.now)) (inner_meaning (wide c.ready_group.new.core) (g.S.Shelf.meaning c.guard_run.new.shelf)) (inner_meaning (wide c.keep_logs.new.core) (g.S.Shelf.meaning c.keep_logs.new.shelf)) (then_nothing Nothing (inner_meaning (wide c.args.core.now) (g.S.Shelf.meaning c.args.shelf.now)) (inner_meaning (wide c.ready_group.new.core) (g.S.Shelf.meaning c.ready_group.new.shelf)) (inner_meaning (wide c.ready_group.new.core) (g.S.Shelf.meaning c.guard_run.new.shelf)) c.ready_group.ensures.goes (logs_goes c.ready_group.new.core c.args.vol (g.S.Shelf.meaning c.ready_group.new.shelf) (g.S.Shelf.meaning c.guard_run.new.shelf) (c.in-Ok.ensures.none c.if-not-ready.false) c.ready_group.ensures.stands c.guard_run.ensures.group)) c.keep_logs.ensures.goes

pub returns-in-Err-clause-log : goal.returns-in-Err-clause-log
returns-in-Err-clause-log g c =
    c.ready_group.ensures.logs.each c.args.vol c.args.logs.now c.requires.log

pub returns-in-Err-clause-others : goal.returns-in-Err-clause-others
returns-in-Err-clause-others g c =
    others_each c.args.vol c.args.core.now c.ready_group.new.core (g.S.Shelf.meaning c.args.shelf.now) (g.S.Shelf.meaning c.ready_group.new.shelf) c.ready_group.ensures.logs

pub returns-then-not-ready-clause-log : goal.returns-then-not-ready-clause-log
returns-then-not-ready-clause-log g c =
    c.ready_group.ensures.logs.each c.args.vol c.args.logs.now c.requires.log

pub returns-then-not-ready-clause-others : goal.returns-then-not-ready-clause-others
returns-then-not-ready-clause-others g c =
    others_each c.args.vol c.args.core.now c.ready_group.new.core (g.S.Shelf.meaning c.args.shelf.now) (g.S.Shelf.meaning c.ready_group.new.shelf) c.ready_group.ensures.logs

pub returns-in-Err-guard_run-clause-log : goal.returns-in-Err-guard_run-clause-log
returns-in-Err-guard_run-clause-log g c =
    to_wide c.ready_group.new.core c.args.vol (g.S.Shelf.meaning c.ready_group.new.shelf) (g.S.Shelf.meaning c.guard_run.new.shelf) (c.in-Ok.ensures.none c.if-not-ready.false) c.ready_group.ensures.stands c.args.vol c.guard_run.new.logs c.guard_run.ensures.on

pub returns-clause-log : goal.returns-clause-log
returns-clause-log g c =
    c.keep_logs.ensures.logs.each c.args.vol c.guard_run.new.logs (to_wide c.ready_group.new.core c.args.vol (g.S.Shelf.meaning c.ready_group.new.shelf) (g.S.Shelf.meaning c.guard_run.new.shelf) (c.in-Ok.ensures.none c.if-not-ready.false) c.ready_group.ensures.stands c.args.vol c.guard_run.new.logs c.guard_run.ensures.on)

pub returns-in-Err-guard_run-clause-others : goal.returns-in-Err-guard_run-clause-others
returns-in-Err-guard_run-clause-others g c =
    others_then c.args.vol c.args.core.now c.ready_group.new.core c.ready_group.new.core (g.S.Shelf.meaning c.args.shelf.now) (g.S.Shelf.meaning c.ready_group.new.shelf) (g.S.Shelf.meaning c.guard_run.new.shelf) (others_each c.args.vol c.args.core.now c.ready_group.new.core (g.S.Shelf.meaning c.args.shelf.now) (g.S.Shelf.meaning c.ready_group.new.shelf) c.ready_group.ensures.logs) (inner_others c.ready_group.new.core c.args.vol (g.S.Shelf.meaning c.ready_group.new.shelf) (g.S.Shelf.meaning c.guard_run.new.shelf) (c.in-Ok.ensures.none c.if-not-ready.false) c.ready_group.ensures.stands c.guard_run.ensures.goes c.guard_run.ensures.others)

pub returns-clause-others : goal.returns-clause-others
returns-clause-others g c =
    others_then c.args.vol c.args.core.now c.ready_group.new.core c.keep_logs.new.core (g.S.Shelf.meaning c.args.shelf.now) (g.S.Shelf.meaning c.guard_run.new.shelf) (g.S.Shelf.meaning c.keep_logs.new.shelf) (others_then c.args.vol c.args.core.now c.ready_group.new.core c.ready_group.new.core (g.S.Shelf.meaning c.args.shelf.now) (g.S.Shelf.meaning c.ready_group.new.shelf) (g.S.Shelf.meaning c.guard_run.new.shelf) (others_each c.args.vol c.args.core.now c.ready_group.new.core (g.S.Shelf.meaning c.args.shelf.now) (g.S.Shelf.meaning c.ready_group.new.shelf) c.ready_group.ensures.logs) (inner_others c.ready_group.new.core c.args.vol (g.S.Shelf.meaning c.ready_group.new.shelf) (g.S.Shelf.meaning c.guard_run.new.shelf) (c.in-Ok.ensures.none c.if-not-ready.false) c.ready_group.ensures.stands c.guard_run.ensures.goes c.guard_run.ensures.others)) (others_each c.args.vol c.ready_group.new.core c.keep_logs.new.core (g.S.Shelf.meaning c.guard_run.new.shelf) (g.S.Shelf.meaning c.keep_logs.new.shelf) c.keep_logs.ensures.logs)

pub returns-then-not-ready-clause-full : goal.returns-then-not-ready-clause-full
returns-then-not-ready-clause-full g c =
    λ is. let full = c.in-Ok.ensures.full c.if-not-ready.true in omega (arith, full)

pub returns-clause-full : goal.returns-clause-full
returns-clause-full g c =
    if_ok_from c.keep_logs.result (λ (done : Bool) full is. let few = c.in-Ok.ensures.few in let here = full is in omega (arith, few, here)) c.keep_logs.ensures.full

pub returns-clause-trust : goal.returns-clause-trust
returns-clause-trust g c =
    ok_from c.keep_logs.result (λ keeps is. keeps (c.in-Ok.ensures.trust is)) c.keep_logs.ensures.trust

pub returns-clause-agreed : goal.returns-clause-agreed
returns-clause-agreed g c =
    err_from c.keep_logs.result (λ keeps is. keeps (c.in-Ok.ensures.trust is)) c.keep_logs.ensures.agreed

pub returns-in-Err-guard_run-clause-agreed : goal.returns-in-Err-guard_run-clause-agreed
returns-in-Err-guard_run-clause-agreed g c =
    λ is. c.ready_group.ensures.stands.stands.trusts.both (c.in-Ok.ensures.trust is)

pub returns-in-Err-guard_run-clause-cause : goal.returns-in-Err-guard_run-clause-cause
returns-in-Err-guard_run-clause-cause g c =
    c.in-Err-guard_run.ensures.down

pub returns-clause-cause : goal.returns-clause-cause
returns-clause-cause g c =
    let goes = then_nothing Nothing (inner_meaning (wide c.args.core.now) (g.S.Shelf.meaning c.args.shelf.now)) (inner_meaning (wide c.ready_group.new.core) (g.S.Shelf.meaning c.ready_group.new.shelf)) (inner_meaning (wide c.ready_group.new.core) (g.S.Shelf.meaning c.guard_run.new.shelf)) c.ready_group.ensures.goes (logs_goes c.ready_group.new.core c.args.vol (g.S.Shelf.meaning c.ready_group.new.shelf) (g.S.Shelf.meaning c.guard_run.new.shelf) (c.in-Ok.ensures.none c.if-not-ready.false) c.ready_group.ensures.stands c.guard_run.ensures.group) in
    Cause_both (inner_meaning (wide c.args.core.now) (g.S.Shelf.meaning c.args.shelf.now)) (inner_meaning (wide c.ready_group.new.core) (g.S.Shelf.meaning c.guard_run.new.shelf)) (inner_meaning (wide c.keep_logs.new.core) (g.S.Shelf.meaning c.keep_logs.new.shelf)) c.args.vol c.keep_logs.result
    (record { before = c.in-Ok.ensures.cause.before; after = λ down. c.in-Ok.ensures.cause.after (c.in-Ok-guard_run.ensures.up down) }) goes.faults goes.disk_faults c.keep_logs.ensures.cause

pub returns-then-not-ready-clause-may : goal.returns-then-not-ready-clause-may
returns-then-not-ready-clause-may g c =
    λ is. absurd (let clash : false ≡ true = is in cc)

pub returns-clause-may : goal.returns-clause-may
returns-clause-may g c =
    if_ok_from c.keep_logs.result (λ (done : Bool) kept is. record { some = kept is; held = c.in-Ok-guard_run.ensures.held }) c.keep_logs.ensures.kept

pub returns-in-Err-clause-adds : goal.returns-in-Err-clause-adds
returns-in-Err-clause-adds g c = same_only _ _ _ c.args.logs.now

pub returns-then-not-ready-clause-adds : goal.returns-then-not-ready-clause-adds
returns-then-not-ready-clause-adds g c = same_only _ _ _ c.args.logs.now

pub returns-in-Err-guard_run-clause-adds : goal.returns-in-Err-guard_run-clause-adds
returns-in-Err-guard_run-clause-adds g c =
    subst (λ (n : ℕ). MarksOnly n (first_region c.args.block) (last_region c.args.block c.args.count) c.args.logs.now c.guard_run.new.logs) (same_regions c.args.core.now c.ready_group.new.core c.args.vol (g.S.Shelf.meaning c.args.shelf.now) (g.S.Shelf.meaning c.ready_group.new.shelf) (c.in-Ok.ensures.none c.if-not-ready.false) c.ready_group.ensures.goes) c.guard_run.ensures.adds

pub returns-clause-adds : goal.returns-clause-adds
returns-clause-adds g c =
    subst (λ (n : ℕ). MarksOnly n (first_region c.args.block) (last_region c.args.block c.args.count) c.args.logs.now c.guard_run.new.logs) (same_regions c.args.core.now c.ready_group.new.core c.args.vol (g.S.Shelf.meaning c.args.shelf.now) (g.S.Shelf.meaning c.ready_group.new.shelf) (c.in-Ok.ensures.none c.if-not-ready.false) c.ready_group.ensures.goes) c.guard_run.ensures.adds

pub returns-in-Err-clause-narrow : goal.returns-in-Err-clause-narrow
returns-in-Err-clause-narrow g c = c.ready_group.ensures.narrow

pub returns-then-not-ready-clause-narrow : goal.returns-then-not-ready-clause-narrow
returns-then-not-ready-clause-narrow g c = c.ready_group.ensures.narrow

pub returns-in-Err-guard_run-clause-narrow : goal.returns-in-Err-guard_run-clause-narrow
returns-in-Err-guard_run-clause-narrow g c = c.ready_group.ensures.narrow

pub returns-clause-narrow : goal.returns-clause-narrow
returns-clause-narrow g c = narrowed_then c.args.core.now c.ready_group.new.core c.keep_logs.new.core c.ready_group.ensures.narrow c.keep_logs.ensures.narrow

pub returns-in-Err-clause-maps : goal.returns-in-Err-clause-maps
returns-in-Err-clause-maps g c = λ spare. c.ready_group.ensures.logs.maps c.args.vol spare c.args.logs.now

pub returns-then-not-ready-clause-maps : goal.returns-then-not-ready-clause-maps
returns-then-not-ready-clause-maps g c = λ spare. c.ready_group.ensures.logs.maps c.args.vol spare c.args.logs.now

pub returns-in-Err-guard_run-clause-maps : goal.returns-in-Err-guard_run-clause-maps
returns-in-Err-guard_run-clause-maps g c = λ spare know.
    know_wide c.ready_group.new.core c.args.vol (g.S.Shelf.meaning c.ready_group.new.shelf) (g.S.Shelf.meaning c.guard_run.new.shelf) (c.in-Ok.ensures.none c.if-not-ready.false) c.ready_group.ensures.stands c.args.vol (spare) c.guard_run.new.logs
    (c.guard_run.ensures.knows (spare) (know_wider c.ready_group.new.core.inner.config c.args.vol (first_region c.args.block) (last_region c.args.block c.args.count) spare c.args.logs.now (g.S.Shelf.meaning c.ready_group.new.shelf) (know_inner c.ready_group.new.core c.args.vol (g.S.Shelf.meaning c.ready_group.new.shelf) (g.S.Shelf.meaning c.ready_group.new.shelf) (c.in-Ok.ensures.none c.if-not-ready.false) c.ready_group.ensures.stands c.args.vol spare c.args.logs.now (c.ready_group.ensures.logs.maps c.args.vol spare c.args.logs.now know))))

pub returns-clause-maps : goal.returns-clause-maps
returns-clause-maps g c = λ spare know. c.keep_logs.ensures.logs.maps c.args.vol spare c.guard_run.new.logs
    (know_wide c.ready_group.new.core c.args.vol (g.S.Shelf.meaning c.ready_group.new.shelf) (g.S.Shelf.meaning c.guard_run.new.shelf) (c.in-Ok.ensures.none c.if-not-ready.false) c.ready_group.ensures.stands c.args.vol (spare) c.guard_run.new.logs
    (c.guard_run.ensures.knows (spare) (know_wider c.ready_group.new.core.inner.config c.args.vol (first_region c.args.block) (last_region c.args.block c.args.count) spare c.args.logs.now (g.S.Shelf.meaning c.ready_group.new.shelf) (know_inner c.ready_group.new.core c.args.vol (g.S.Shelf.meaning c.ready_group.new.shelf) (g.S.Shelf.meaning c.ready_group.new.shelf) (c.in-Ok.ensures.none c.if-not-ready.false) c.ready_group.ensures.stands c.args.vol spare c.args.logs.now (c.ready_group.ensures.logs.maps c.args.vol spare c.args.logs.now know)))))

pub returns-then-not-ready-clause-knows : goal.returns-then-not-ready-clause-knows
returns-then-not-ready-clause-knows g c = λ spare know is. absurd (let clash : false ≡ true = is in cc)

pub returns-clause-knows : goal.returns-clause-knows
returns-clause-knows g c = λ spare know. if_ok_any c.keep_logs.result (λ (done : Bool) is.
    c.keep_logs.ensures.logs.maps c.args.vol spare c.guard_run.new.logs
    (know_wide c.ready_group.new.core c.args.vol (g.S.Shelf.meaning c.ready_group.new.shelf) (g.S.Shelf.meaning c.guard_run.new.shelf) (c.in-Ok.ensures.none c.if-not-ready.false) c.ready_group.ensures.stands c.args.vol (spare) c.guard_run.new.logs
    (c.guard_run.ensures.knows (spare) (know_stale c.args.core.now c.ready_group.new.core c.args.vol (first_region c.args.block) (last_region c.args.block c.args.count) spare c.args.logs.now (g.S.Shelf.meaning c.ready_group.new.shelf) c.ready_group.ensures.stands c.ready_group.ensures.narrow (c.in-Ok.ensures.none c.if-not-ready.false) (c.ready_group.ensures.logs.maps c.args.vol (or_off (wide c.args.core.now).config c.args.vol (first_region c.args.block) (last_region c.args.block c.args.count) spare) c.args.logs.now know)))))

pub returns-in-Err-clause-notes : goal.returns-in-Err-clause-notes
returns-in-Err-clause-notes g c = note_same _ _ _ c.args.logs.now c.args.logs.now refl

pub returns-then-not-ready-clause-notes : goal.returns-then-not-ready-clause-notes
returns-then-not-ready-clause-notes g c = note_same _ _ _ c.args.logs.now c.args.logs.now refl

pub returns-in-Err-guard_run-clause-notes : goal.returns-in-Err-guard_run-clause-notes
returns-in-Err-guard_run-clause-notes g c =
    note_more (stale c.ready_group.new.core.inner.config c.args.vol) (are_off c.ready_group.new.core c.args.vol) (first_region c.args.block) (last_region c.args.block c.args.count) c.args.logs.now c.guard_run.new.logs
    (stale_are_off c.ready_group.new.core c.ready_group.new.core c.args.vol (c.in-Ok.ensures.none c.if-not-ready.false) (narrowed_same c.ready_group.new.core)) c.guard_run.ensures.notes

pub returns-clause-notes : goal.returns-clause-notes
returns-clause-notes g c =
    note_more (stale c.ready_group.new.core.inner.config c.args.vol) (are_off c.keep_logs.new.core c.args.vol) (first_region c.args.block) (last_region c.args.block c.args.count) c.args.logs.now c.guard_run.new.logs
    (stale_are_off c.ready_group.new.core c.keep_logs.new.core c.args.vol (c.in-Ok.ensures.none c.if-not-ready.false) c.keep_logs.ensures.narrow) c.guard_run.ensures.notes

pub returns-then-not-ready-clause-said : goal.returns-then-not-ready-clause-said
returns-then-not-ready-clause-said g c = λ is. absurd (let clash : false ≡ true = is in cc)

pub returns-then-not-ready-clause-missed : goal.returns-then-not-ready-clause-missed
returns-then-not-ready-clause-missed g c = λ is. absurd (let clash : false ≡ true = is in cc)

pub returns-clause-missed : goal.returns-clause-missed
returns-clause-missed g c = if_ok_any c.keep_logs.result (λ (done : Bool) is.
    hold_older c.args.core.now c.ready_group.new.core c.args.vol (first_region c.args.block) (last_region c.args.block c.args.count) c.guard_run.new.logs (g.S.Shelf.meaning c.ready_group.new.shelf) c.ready_group.ensures.stands c.ready_group.ensures.narrow (c.in-Ok.ensures.none c.if-not-ready.false)
    (record { volume = c.requires.there; within = omega (arith, c.requires.some, c.requires.within) }) c.in-Ok-guard_run.ensures.missed)

pub returns-in-Err-clause-loses : goal.returns-in-Err-clause-loses
returns-in-Err-clause-loses g c = c.ready_group.ensures.loses

pub returns-then-not-ready-clause-loses : goal.returns-then-not-ready-clause-loses
returns-then-not-ready-clause-loses g c = c.ready_group.ensures.loses

pub returns-in-Err-guard_run-clause-loses : goal.returns-in-Err-guard_run-clause-loses
returns-in-Err-guard_run-clause-loses g c =
    then_along c.args.core.now.inner.config c.ready_group.new.core.inner.config c.ready_group.new.core.inner.config (g.S.Shelf.meaning c.args.shelf.now) (g.S.Shelf.meaning c.ready_group.new.shelf) (g.S.Shelf.meaning c.guard_run.new.shelf) c.ready_group.ensures.loses (along_same c.ready_group.new.core.inner.config (g.S.Shelf.meaning c.ready_group.new.shelf) (g.S.Shelf.meaning c.guard_run.new.shelf) c.guard_run.ensures.goes.faults)

pub returns-clause-loses : goal.returns-clause-loses
returns-clause-loses g c =
    then_along c.args.core.now.inner.config c.ready_group.new.core.inner.config c.keep_logs.new.core.inner.config (g.S.Shelf.meaning c.args.shelf.now) (g.S.Shelf.meaning c.guard_run.new.shelf) (g.S.Shelf.meaning c.keep_logs.new.shelf)
    (then_along c.args.core.now.inner.config c.ready_group.new.core.inner.config c.ready_group.new.core.inner.config (g.S.Shelf.meaning c.args.shelf.now) (g.S.Shelf.meaning c.ready_group.new.shelf) (g.S.Shelf.meaning c.guard_run.new.shelf) c.ready_group.ensures.loses (along_same c.ready_group.new.core.inner.config (g.S.Shelf.meaning c.ready_group.new.shelf) (g.S.Shelf.meaning c.guard_run.new.shelf) c.guard_run.ensures.goes.faults)) c.keep_logs.ensures.loses

pub returns-clause-said : goal.returns-clause-said
returns-clause-said g c = c.keep_logs.ensures.said

pub returns-in-Err-clause-finds : goal.returns-in-Err-clause-finds
returns-in-Err-clause-finds g c =
    c.ready_group.ensures.finds

pub returns-then-not-ready-clause-finds : goal.returns-then-not-ready-clause-finds
returns-then-not-ready-clause-finds g c =
    c.ready_group.ensures.finds

pub returns-in-Err-guard_run-clause-finds : goal.returns-in-Err-guard_run-clause-finds
returns-in-Err-guard_run-clause-finds g c =
    then_group c.args.core.now c.ready_group.new.core c.ready_group.new.core (g.S.Shelf.meaning c.args.shelf.now) (g.S.Shelf.meaning c.ready_group.new.shelf) (g.S.Shelf.meaning c.guard_run.new.shelf)
    c.ready_group.ensures.finds
    (logs_idle c.ready_group.new.core c.args.vol (g.S.Shelf.meaning c.ready_group.new.shelf) (g.S.Shelf.meaning c.guard_run.new.shelf) (c.in-Ok.ensures.none c.if-not-ready.false) c.ready_group.ensures.stands c.guard_run.ensures.goes (g.met.S.Shelf.lawful c.ready_group.new.shelf) (g.met.S.Shelf.lawful c.guard_run.new.shelf))

pub returns-clause-finds : goal.returns-clause-finds
returns-clause-finds g c =
    then_group c.args.core.now c.ready_group.new.core c.keep_logs.new.core (g.S.Shelf.meaning c.args.shelf.now) (g.S.Shelf.meaning c.guard_run.new.shelf) (g.S.Shelf.meaning c.keep_logs.new.shelf)
    (then_group c.args.core.now c.ready_group.new.core c.ready_group.new.core (g.S.Shelf.meaning c.args.shelf.now) (g.S.Shelf.meaning c.ready_group.new.shelf) (g.S.Shelf.meaning c.guard_run.new.shelf)
    c.ready_group.ensures.finds
    (logs_idle c.ready_group.new.core c.args.vol (g.S.Shelf.meaning c.ready_group.new.shelf) (g.S.Shelf.meaning c.guard_run.new.shelf) (c.in-Ok.ensures.none c.if-not-ready.false) c.ready_group.ensures.stands c.guard_run.ensures.goes (g.met.S.Shelf.lawful c.ready_group.new.shelf) (g.met.S.Shelf.lawful c.guard_run.new.shelf)))
    c.keep_logs.ensures.finds

pub returns-in-Err-clause-drops : goal.returns-in-Err-clause-drops
returns-in-Err-clause-drops g c =
    drop_same (wide c.args.core.now).config c.args.vol c.args.logs.now (g.S.Shelf.meaning c.args.shelf.now) (g.S.Shelf.meaning c.ready_group.new.shelf)

pub returns-in-Err-clause-trusts : goal.returns-in-Err-clause-trusts
returns-in-Err-clause-trusts g c =
    trusts_in c.args.vol c.args.logs.now c.args.core.now.inner.config c.ready_group.new.core.inner.config c.ready_group.ensures.trusts

pub returns-then-not-ready-clause-drops : goal.returns-then-not-ready-clause-drops
returns-then-not-ready-clause-drops g c =
    drop_same (wide c.args.core.now).config c.args.vol c.args.logs.now (g.S.Shelf.meaning c.args.shelf.now) (g.S.Shelf.meaning c.ready_group.new.shelf)

pub returns-then-not-ready-clause-trusts : goal.returns-then-not-ready-clause-trusts
returns-then-not-ready-clause-trusts g c =
    trusts_in c.args.vol c.args.logs.now c.args.core.now.inner.config c.ready_group.new.core.inner.config c.ready_group.ensures.trusts

pub returns-in-Err-guard_run-clause-drops : goal.returns-in-Err-guard_run-clause-drops
returns-in-Err-guard_run-clause-drops g c =
    drop_behind (wide c.args.core.now).config c.ready_group.new.core.inner.config c.args.vol c.args.logs.now c.guard_run.new.logs (g.S.Shelf.meaning c.args.shelf.now) (g.S.Shelf.meaning c.ready_group.new.shelf) (g.S.Shelf.meaning c.guard_run.new.shelf) (inner_places c.args.core.now c.ready_group.new.core c.args.vol (c.in-Ok.ensures.none c.if-not-ready.false) c.ready_group.ensures.narrow) c.ready_group.ensures.loses.rises c.guard_run.ensures.drops

pub returns-in-Err-guard_run-clause-trusts : goal.returns-in-Err-guard_run-clause-trusts
returns-in-Err-guard_run-clause-trusts g c =
    trusts_in c.args.vol c.guard_run.new.logs c.args.core.now.inner.config c.ready_group.new.core.inner.config c.ready_group.ensures.trusts

pub returns-clause-drops : goal.returns-clause-drops
returns-clause-drops g c =
    drop_before (wide c.args.core.now).config c.args.vol c.args.logs.now c.guard_run.new.logs (g.S.Shelf.meaning c.args.shelf.now) (g.S.Shelf.meaning c.guard_run.new.shelf) (g.S.Shelf.meaning c.keep_logs.new.shelf) c.keep_logs.ensures.loses.rises c.keep_logs.ensures.goes.falls
    (drop_behind (wide c.args.core.now).config c.ready_group.new.core.inner.config c.args.vol c.args.logs.now c.guard_run.new.logs (g.S.Shelf.meaning c.args.shelf.now) (g.S.Shelf.meaning c.ready_group.new.shelf) (g.S.Shelf.meaning c.guard_run.new.shelf) (inner_places c.args.core.now c.ready_group.new.core c.args.vol (c.in-Ok.ensures.none c.if-not-ready.false) c.ready_group.ensures.narrow) c.ready_group.ensures.loses.rises c.guard_run.ensures.drops)

pub returns-clause-trusts : goal.returns-clause-trusts
returns-clause-trusts g c =
    trusts_then c.args.vol c.guard_run.new.logs c.args.core.now.inner.config c.ready_group.new.core.inner.config c.keep_logs.new.core.inner.config (trusts_in c.args.vol c.guard_run.new.logs c.args.core.now.inner.config c.ready_group.new.core.inner.config c.ready_group.ensures.trusts) c.keep_logs.ensures.trusts

pub returns-then-not-ready-clause-spent : goal.returns-then-not-ready-clause-spent
returns-then-not-ready-clause-spent g c =
    λ is. let spent = c.in-Ok.ensures.spent c.if-not-ready.true in omega (arith, spent)

pub returns-clause-spent : goal.returns-clause-spent
returns-clause-spent g c =
    c.keep_logs.ensures.spent

pub returns-in-Err-clause-plexes : goal.returns-in-Err-clause-plexes
returns-in-Err-clause-plexes g c = plexes_each c.args.core.now c.ready_group.new.core c.args.vol (g.S.Shelf.meaning c.args.shelf.now) (g.S.Shelf.meaning c.ready_group.new.shelf) c.ready_group.ensures.logs

pub returns-then-not-ready-clause-plexes : goal.returns-then-not-ready-clause-plexes
returns-then-not-ready-clause-plexes g c = plexes_each c.args.core.now c.ready_group.new.core c.args.vol (g.S.Shelf.meaning c.args.shelf.now) (g.S.Shelf.meaning c.ready_group.new.shelf) c.ready_group.ensures.logs

pub returns-clause-plexes : goal.returns-clause-plexes
returns-clause-plexes g c = λ missed up know.
    let none = c.in-Ok.ensures.none c.if-not-ready.false in
    let mid : IsTrue (g.S.Shelf.meaning c.guard_run.new.shelf).down → ⊥ = λ down. up (c.keep_logs.ensures.goes.falls down) in
    let first : IsTrue (g.S.Shelf.meaning c.ready_group.new.shelf).down → ⊥ = λ down. mid (c.guard_run.ensures.goes.falls down) in
    let same = config_is c.ready_group.new.core c.args.vol (g.S.Shelf.meaning c.ready_group.new.shelf) (g.S.Shelf.meaning c.ready_group.new.shelf) none c.ready_group.ensures.stands in
    let ready = plexes_each c.args.core.now c.ready_group.new.core c.args.vol (g.S.Shelf.meaning c.args.shelf.now) (g.S.Shelf.meaning c.ready_group.new.shelf) c.ready_group.ensures.logs missed first know in
    let guarded = plexes_logs c.ready_group.new.core.inner.config (inner_sound c.ready_group.new.core c.args.vol (g.S.Shelf.meaning c.ready_group.new.shelf) (g.S.Shelf.meaning c.ready_group.new.shelf) none c.ready_group.ensures.stands) c.args.vol (g.S.Shelf.meaning c.ready_group.new.shelf) (g.S.Shelf.meaning c.guard_run.new.shelf) c.guard_run.ensures.goes missed mid
    (subst (λ (x : Config). PlexesKnow x c.args.vol missed (g.S.Shelf.meaning c.ready_group.new.shelf).reads) same ready) in
    plexes_each c.ready_group.new.core c.keep_logs.new.core c.args.vol (g.S.Shelf.meaning c.guard_run.new.shelf) (g.S.Shelf.meaning c.keep_logs.new.shelf) c.keep_logs.ensures.logs missed up
    (subst (λ (x : Config). PlexesKnow x c.args.vol missed (g.S.Shelf.meaning c.guard_run.new.shelf).reads) (sym same) guarded)

pub returns-then-not-ready-clause-holds : goal.returns-then-not-ready-clause-holds
returns-then-not-ready-clause-holds g c = λ is. absurd (let clash : false ≡ true = is in cc)

pub returns-clause-holds : goal.returns-clause-holds
returns-clause-holds g c = if_ok_any c.keep_logs.result (λ (done : Bool) is.
    let none = c.in-Ok.ensures.none c.if-not-ready.false in
    let same = config_is c.ready_group.new.core c.args.vol (g.S.Shelf.meaning c.ready_group.new.shelf) (g.S.Shelf.meaning c.ready_group.new.shelf) none c.ready_group.ensures.stands in
    let size = c.ready_group.ensures.goes.size c.args.vol in
    holds_same c.ready_group.new.core.inner.config c.keep_logs.new.core.inner.config c.args.vol (first_region c.args.block) (last_region c.args.block c.args.count) c.guard_run.new.logs
    (inner_count c.ready_group.new.core c.keep_logs.new.core c.args.vol (c.keep_logs.ensures.loses.loses.frames c.args.vol) (c.keep_logs.ensures.goes.size c.args.vol)) (c.keep_logs.ensures.still none c.args.vol)
    (holds_run c.ready_group.new.core.inner.config c.args.vol (first_region c.args.block) (last_region c.args.block c.args.count) c.guard_run.new.logs
    (subst (λ (x : Config). AllOn x) same c.ready_group.ensures.stands.stands.on) (subst (λ (x : Config). 0 < blocks_of x.volumes c.args.vol) same (omega (arith, size, c.requires.some, c.requires.within))) c.in-Ok-guard_run.ensures.missed))

pub returns-in-Err-clause-free : goal.returns-in-Err-clause-free
returns-in-Err-clause-free g c = tt

pub returns-then-not-ready-clause-free : goal.returns-then-not-ready-clause-free
returns-then-not-ready-clause-free g c = λ is. absurd (let clash : false ≡ true = is in cc)

pub returns-in-Err-guard_run-clause-free : goal.returns-in-Err-guard_run-clause-free
returns-in-Err-guard_run-clause-free g c = tt

pub returns-clause-free : goal.returns-clause-free
returns-clause-free g c = if_ok_any c.keep_logs.result (λ (done : Bool) is. c.keep_logs.ensures.finds.free (c.in-Ok.ensures.none c.if-not-ready.false))

pub returns-in-Err-clause-marks : goal.returns-in-Err-clause-marks
returns-in-Err-clause-marks g c = c.in-Err.ensures.marks

pub returns-in-Err-clause-misses : goal.returns-in-Err-clause-misses
returns-in-Err-clause-misses g c = c.in-Err.ensures.misses

pub returns-then-not-ready-clause-marks : goal.returns-then-not-ready-clause-marks
returns-then-not-ready-clause-marks g c = c.in-Ok.ensures.marks

pub returns-in-Err-guard_run-clause-marks : goal.returns-in-Err-guard_run-clause-marks
returns-in-Err-guard_run-clause-marks g c = c.in-Ok.ensures.marks

pub returns-in-Err-guard_run-clause-misses : goal.returns-in-Err-guard_run-clause-misses
returns-in-Err-guard_run-clause-misses g c = tt

pub returns-clause-marks : goal.returns-clause-marks
returns-clause-marks g c = marks_then c.args.vol c.args.core.now.inner.unsure c.ready_group.new.core.inner.unsure c.keep_logs.new.core.inner.unsure c.keep_logs.result c.in-Ok.ensures.marks c.keep_logs.ensures.marks

pub returns-clause-misses : goal.returns-clause-misses
returns-clause-misses g c = c.keep_logs.ensures.misses

pub returns-in-Err-clause-stands : goal.returns-in-Err-clause-stands
returns-in-Err-clause-stands g c = c.ready_group.ensures.stands

pub returns-in-Err-clause-goes : goal.returns-in-Err-clause-goes
returns-in-Err-clause-goes g c = c.ready_group.ensures.goes

pub returns-in-Err-clause-still : goal.returns-in-Err-clause-still
returns-in-Err-clause-still g c = c.ready_group.ensures.still

pub returns-in-Err-clause-said : goal.returns-in-Err-clause-said
returns-in-Err-clause-said g c = tt

pub returns-in-Err-clause-missed : goal.returns-in-Err-clause-missed
returns-in-Err-clause-missed g c = tt

pub returns-in-Err-clause-holds : goal.returns-in-Err-clause-holds
returns-in-Err-clause-holds g c = tt

pub returns-in-Err-clause-may : goal.returns-in-Err-clause-may
returns-in-Err-clause-may g c = tt

pub returns-in-Err-clause-full : goal.returns-in-Err-clause-full
returns-in-Err-clause-full g c = tt

pub returns-in-Err-clause-spent : goal.returns-in-Err-clause-spent
returns-in-Err-clause-spent g c = tt

pub returns-in-Err-clause-trust : goal.returns-in-Err-clause-trust
returns-in-Err-clause-trust g c = tt

pub returns-in-Err-clause-agreed : goal.returns-in-Err-clause-agreed
returns-in-Err-clause-agreed g c = c.in-Err.ensures.agreed

pub returns-in-Err-clause-cause : goal.returns-in-Err-clause-cause
returns-in-Err-clause-cause g c = c.in-Err.ensures.cause

pub returns-in-Err-clause-knows : goal.returns-in-Err-clause-knows
returns-in-Err-clause-knows g c = λ spare know. tt

pub returns-then-not-ready-clause-stands : goal.returns-then-not-ready-clause-stands
returns-then-not-ready-clause-stands g c = c.ready_group.ensures.stands

pub returns-then-not-ready-clause-goes : goal.returns-then-not-ready-clause-goes
returns-then-not-ready-clause-goes g c = c.ready_group.ensures.goes

pub returns-then-not-ready-clause-still : goal.returns-then-not-ready-clause-still
returns-then-not-ready-clause-still g c = c.ready_group.ensures.still

pub returns-then-not-ready-clause-trust : goal.returns-then-not-ready-clause-trust
returns-then-not-ready-clause-trust g c = c.in-Ok.ensures.trust

pub returns-then-not-ready-clause-agreed : goal.returns-then-not-ready-clause-agreed
returns-then-not-ready-clause-agreed g c = tt

pub returns-then-not-ready-clause-misses : goal.returns-then-not-ready-clause-misses
returns-then-not-ready-clause-misses g c = tt

pub returns-then-not-ready-clause-cause : goal.returns-then-not-ready-clause-cause
returns-then-not-ready-clause-cause g c = c.in-Ok.ensures.cause

pub returns-in-Err-guard_run-clause-still : goal.returns-in-Err-guard_run-clause-still
returns-in-Err-guard_run-clause-still g c = c.ready_group.ensures.still

pub returns-in-Err-guard_run-clause-knows : goal.returns-in-Err-guard_run-clause-knows
returns-in-Err-guard_run-clause-knows g c = λ spare know. tt

pub returns-in-Err-guard_run-clause-said : goal.returns-in-Err-guard_run-clause-said
returns-in-Err-guard_run-clause-said g c = tt

pub returns-in-Err-guard_run-clause-missed : goal.returns-in-Err-guard_run-clause-missed
returns-in-Err-guard_run-clause-missed g c = tt

pub returns-in-Err-guard_run-clause-holds : goal.returns-in-Err-guard_run-clause-holds
returns-in-Err-guard_run-clause-holds g c = tt

pub returns-in-Err-guard_run-clause-may : goal.returns-in-Err-guard_run-clause-may
returns-in-Err-guard_run-clause-may g c = tt

pub returns-in-Err-guard_run-clause-full : goal.returns-in-Err-guard_run-clause-full
returns-in-Err-guard_run-clause-full g c = tt

pub returns-in-Err-guard_run-clause-spent : goal.returns-in-Err-guard_run-clause-spent
returns-in-Err-guard_run-clause-spent g c = tt

pub returns-in-Err-guard_run-clause-trust : goal.returns-in-Err-guard_run-clause-trust
returns-in-Err-guard_run-clause-trust g c = tt

pub returns-clause-stands : goal.returns-clause-stands
returns-clause-stands g c = c.keep_logs.ensures.stands

pub returns-clause-still : goal.returns-clause-still
returns-clause-still g c = λ w p. c.keep_logs.ensures.still (c.in-Ok.ensures.none c.if-not-ready.false) w p ∙ c.ready_group.ensures.still w p
