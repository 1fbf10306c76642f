-- `mark_fallen`: what its calls ask; its clauses.
use Rattle.std.proofs.Common.{◌≡◌, ◌∙◌, ◌<◌, Bool, true, false, IsTrue, refl, sym, ap, subst, arith}
use Rattle.vx_config.specs.Checks.{blocks_of}
use Rattle.vx_config.specs.declared.config.Config.{Config}
use Rattle.vx_disk.specs.Shelf.{Nothing}
use Rattle.vx_disk.proofs.Runs.{then_nothing}
use Rattle.vx_group.specs.Holding.{wide}
use Rattle.vx_group.specs.Stands.{inner_meaning}
use Rattle.vx_group.proofs.FindingLemmas.{then_group}
use Rattle.vx_group.proofs.LoseLemmas.{along_same, then_along}
use Rattle.vx_group.proofs.TrustLemmas.{err_from, ok_from}
use Rattle.vx_grouplogs.proofs.GoneLemmas.{drop_behind, drop_same, drop_then}
use Rattle.vx_groupmaps.specs.Knowing.{PlexesKnow, or_off}
use Rattle.vx_groupmaps.specs.Missing.{none_spared, or_run}
use Rattle.vx_groupmaps.proofs.KnowLemmas.{note_same}
use Rattle.vx_logs.specs.Writes.{first_region, last_region}
use Rattle.vx_model.specs.Sizes.{regions_of as regions_in}
use Rattle.vx_logged.specs.Begun.{but_run, fell_now, was_on}
use Rattle.vx_logged.specs.Logged.{are_off}
use Rattle.vx_logged.proofs.BeginLemmas.{but_any, but_more, but_note, but_then, plexes_each}
use Rattle.vx_logged.proofs.EmptyLemmas.{plexes_maps}
use Rattle.vx_logged.proofs.FallenLemmas.{adds_before, cause_from, clear_off, clear_run, fell_same, off_more, off_run, there_still}
use Rattle.vx_logged.proofs.GoneLogs.{trusts_in, trusts_then}
use Rattle.vx_logged.proofs.StandLemmas.{config_is, if_ok_any, maps_idle, narrowed_then, others_each, others_then, same_only}
use Rattle.vx_group.proofs.UnsureLemmas.{marks_then}
use Rattle.vx_logged.proofs.beginning.mark_fallen.Goals as goal

pub begin_fallen-requires-clause-none : goal.begin_fallen-requires-clause-none
begin_fallen-requires-clause-none g c = (c.in-Ok.ensures.none c.if-not-ready.false)

pub begin_fallen-requires-clause-some : goal.begin_fallen-requires-clause-some
begin_fallen-requires-clause-some g c =
    let same = c.ready_group.ensures.goes.size c.args.vol in
    subst (λ (x : Config). 0 < blocks_of x.volumes c.args.vol) (config_is c.ready_group.new.core c.args.vol (g.S.Shelf.meaning c.ready_group.new.shelf) (g.S.Shelf.meaning c.ready_group.new.shelf) (c.in-Ok.ensures.none c.if-not-ready.false) c.ready_group.ensures.stands) (omega (arith, same, c.requires.some, c.requires.within))

pub begin_fallen-requires-clause-exists : goal.begin_fallen-requires-clause-exists
begin_fallen-requires-clause-exists g c = λ p on. there_still c.args.core.now c.ready_group.new.core c.args.vol p (g.S.Shelf.meaning c.ready_group.new.shelf) c.ready_group.ensures.narrow (c.in-Ok.ensures.none c.if-not-ready.false) c.ready_group.ensures.stands (c.requires.has p on)

pub begin_fallen-requires-clause-log : goal.begin_fallen-requires-clause-log
begin_fallen-requires-clause-log g c = c.ready_group.ensures.logs.each c.args.vol c.args.logs.now c.requires.log

pub mark_group-requires-clause-there : goal.mark_group-requires-clause-there
mark_group-requires-clause-there g c = omega (arith, c.requires.there, c.ready_group.ensures.goes.units, c.begin_fallen.ensures.goes.units)

pub mark_group-requires-clause-within : goal.mark_group-requires-clause-within
mark_group-requires-clause-within g c = let same = c.ready_group.ensures.goes.size c.args.vol in omega (arith, c.requires.within, same)

pub returns-in-Err-clause-log : goal.returns-in-Err-clause-log
returns-in-Err-clause-log g c = c.ready_group.ensures.logs.each c.args.vol c.args.logs.now c.requires.log

pub returns-in-Err-clause-others : goal.returns-in-Err-clause-others
returns-in-Err-clause-others g c = others_each c.args.vol c.args.core.now c.ready_group.new.core (g.S.Shelf.meaning c.args.shelf.now) (g.S.Shelf.meaning c.ready_group.new.shelf) c.ready_group.ensures.logs

pub returns-in-Err-clause-adds : goal.returns-in-Err-clause-adds
returns-in-Err-clause-adds g c = same_only _ _ _ c.args.logs.now

pub returns-in-Err-clause-maps : goal.returns-in-Err-clause-maps
returns-in-Err-clause-maps g c = c.ready_group.ensures.logs.maps c.args.vol (or_run (first_region c.args.block) (last_region c.args.block c.args.count) none_spared) c.args.logs.now

pub returns-in-Err-clause-notes : goal.returns-in-Err-clause-notes
returns-in-Err-clause-notes g c = but_note (fell_now c.args.was.now c.ready_group.new.core c.args.vol) (are_off c.ready_group.new.core c.args.vol) (first_region c.args.block) (last_region c.args.block c.args.count) c.args.logs.now c.args.logs.now (note_same _ _ _ c.args.logs.now c.args.logs.now refl)

pub returns-in-Err-clause-drops : goal.returns-in-Err-clause-drops
returns-in-Err-clause-drops g c = drop_same (wide c.args.core.now).config c.args.vol c.args.logs.now (g.S.Shelf.meaning c.args.shelf.now) (g.S.Shelf.meaning c.ready_group.new.shelf)

pub returns-in-Err-clause-trusts : goal.returns-in-Err-clause-trusts
returns-in-Err-clause-trusts g c = trusts_in c.args.vol c.args.logs.now c.args.core.now.inner.config c.ready_group.new.core.inner.config c.ready_group.ensures.trusts

pub returns-then-not-ready-clause-log : goal.returns-then-not-ready-clause-log
returns-then-not-ready-clause-log g c = c.ready_group.ensures.logs.each c.args.vol c.args.logs.now c.requires.log

pub returns-then-not-ready-clause-others : goal.returns-then-not-ready-clause-others
returns-then-not-ready-clause-others g c = others_each c.args.vol c.args.core.now c.ready_group.new.core (g.S.Shelf.meaning c.args.shelf.now) (g.S.Shelf.meaning c.ready_group.new.shelf) c.ready_group.ensures.logs

pub returns-then-not-ready-clause-adds : goal.returns-then-not-ready-clause-adds
returns-then-not-ready-clause-adds g c = same_only _ _ _ c.args.logs.now

pub returns-then-not-ready-clause-maps : goal.returns-then-not-ready-clause-maps
returns-then-not-ready-clause-maps g c = c.ready_group.ensures.logs.maps c.args.vol (or_run (first_region c.args.block) (last_region c.args.block c.args.count) none_spared) c.args.logs.now

pub returns-then-not-ready-clause-notes : goal.returns-then-not-ready-clause-notes
returns-then-not-ready-clause-notes g c = but_note (fell_now c.args.was.now c.ready_group.new.core c.args.vol) (are_off c.ready_group.new.core c.args.vol) (first_region c.args.block) (last_region c.args.block c.args.count) c.args.logs.now c.args.logs.now (note_same _ _ _ c.args.logs.now c.args.logs.now refl)

pub returns-then-not-ready-clause-drops : goal.returns-then-not-ready-clause-drops
returns-then-not-ready-clause-drops g c = drop_same (wide c.args.core.now).config c.args.vol c.args.logs.now (g.S.Shelf.meaning c.args.shelf.now) (g.S.Shelf.meaning c.ready_group.new.shelf)

pub returns-then-not-ready-clause-trusts : goal.returns-then-not-ready-clause-trusts
returns-then-not-ready-clause-trusts g c = trusts_in c.args.vol c.args.logs.now c.args.core.now.inner.config c.ready_group.new.core.inner.config c.ready_group.ensures.trusts

pub returns-in-Err-clause-knows : goal.returns-in-Err-clause-knows
returns-in-Err-clause-knows g c = λ know. tt

pub returns-in-Err-clause-begins : goal.returns-in-Err-clause-begins
returns-in-Err-clause-begins g c = λ is. tt

pub returns-then-not-ready-clause-said : goal.returns-then-not-ready-clause-said
returns-then-not-ready-clause-said g c = λ is. absurd (let clash : false ≡ true = is in cc)

pub returns-then-not-ready-clause-may : goal.returns-then-not-ready-clause-may
returns-then-not-ready-clause-may g c = λ is. absurd (let clash : false ≡ true = is in cc)

pub returns-then-not-ready-clause-knows : goal.returns-then-not-ready-clause-knows
returns-then-not-ready-clause-knows g c = λ know is. absurd (let clash : false ≡ true = is in cc)

pub returns-then-not-ready-clause-begins : goal.returns-then-not-ready-clause-begins
returns-then-not-ready-clause-begins g c = λ sure is. absurd (let clash : false ≡ true = is in cc)

pub returns-then-not-ready-clause-spent : goal.returns-then-not-ready-clause-spent
returns-then-not-ready-clause-spent g c = λ is. let spent = c.in-Ok.ensures.spent c.if-not-ready.true in omega (arith, spent)

pub returns-clause-goes : goal.returns-clause-goes
returns-clause-goes g c = then_nothing Nothing (inner_meaning (wide c.args.core.now) (g.S.Shelf.meaning c.args.shelf.now)) (inner_meaning (wide c.ready_group.new.core) (g.S.Shelf.meaning c.begin_fallen.new.shelf)) (inner_meaning (wide c.mark_group.new.core) (g.S.Shelf.meaning c.mark_group.new.shelf)) (then_nothing Nothing (inner_meaning (wide c.args.core.now) (g.S.Shelf.meaning c.args.shelf.now)) (inner_meaning (wide c.ready_group.new.core) (g.S.Shelf.meaning c.ready_group.new.shelf)) (inner_meaning (wide c.ready_group.new.core) (g.S.Shelf.meaning c.begin_fallen.new.shelf)) c.ready_group.ensures.goes c.begin_fallen.ensures.goes) c.mark_group.ensures.goes

pub returns-clause-loses : goal.returns-clause-loses
returns-clause-loses g c = then_along c.args.core.now.inner.config c.ready_group.new.core.inner.config c.mark_group.new.core.inner.config (g.S.Shelf.meaning c.args.shelf.now) (g.S.Shelf.meaning c.begin_fallen.new.shelf) (g.S.Shelf.meaning c.mark_group.new.shelf) (then_along c.args.core.now.inner.config c.ready_group.new.core.inner.config c.ready_group.new.core.inner.config (g.S.Shelf.meaning c.args.shelf.now) (g.S.Shelf.meaning c.ready_group.new.shelf) (g.S.Shelf.meaning c.begin_fallen.new.shelf) c.ready_group.ensures.loses (along_same c.ready_group.new.core.inner.config (g.S.Shelf.meaning c.ready_group.new.shelf) (g.S.Shelf.meaning c.begin_fallen.new.shelf) c.begin_fallen.ensures.below.faults)) c.mark_group.ensures.loses

pub returns-clause-others : goal.returns-clause-others
returns-clause-others g c = others_then c.args.vol c.args.core.now c.ready_group.new.core c.mark_group.new.core (g.S.Shelf.meaning c.args.shelf.now) (g.S.Shelf.meaning c.begin_fallen.new.shelf) (g.S.Shelf.meaning c.mark_group.new.shelf) (others_then c.args.vol c.args.core.now c.ready_group.new.core c.ready_group.new.core (g.S.Shelf.meaning c.args.shelf.now) (g.S.Shelf.meaning c.ready_group.new.shelf) (g.S.Shelf.meaning c.begin_fallen.new.shelf) (others_each c.args.vol c.args.core.now c.ready_group.new.core (g.S.Shelf.meaning c.args.shelf.now) (g.S.Shelf.meaning c.ready_group.new.shelf) c.ready_group.ensures.logs) c.begin_fallen.ensures.others) c.mark_group.ensures.others

pub returns-clause-adds : goal.returns-clause-adds
returns-clause-adds g c = adds_before _ _ (first_region c.args.block) (last_region c.args.block c.args.count) c.args.logs.now c.begin_fallen.new.logs c.mark_group.new.logs (ap regions_in (c.ready_group.ensures.goes.size c.args.vol)) c.begin_fallen.ensures.drl c.mark_group.ensures.adds

pub returns-clause-narrow : goal.returns-clause-narrow
returns-clause-narrow g c = narrowed_then c.args.core.now c.ready_group.new.core c.mark_group.new.core c.ready_group.ensures.narrow c.mark_group.ensures.narrow

pub returns-clause-still : goal.returns-clause-still
returns-clause-still g c = λ w p. c.mark_group.ensures.still w p ∙ c.ready_group.ensures.still w p

pub returns-clause-maps : goal.returns-clause-maps
returns-clause-maps g c = λ know. c.mark_group.ensures.maps (or_run (first_region c.args.block) (last_region c.args.block c.args.count) none_spared)
    (c.begin_fallen.ensures.knows (or_run (first_region c.args.block) (last_region c.args.block c.args.count) none_spared) (but_run (was_on c.args.was.now) (first_region c.args.block) (last_region c.args.block c.args.count)) (λ p r. clear_run c.ready_group.new.core c.args.vol (first_region c.args.block) (last_region c.args.block c.args.count) c.args.was.now p r)
    (λ is up. subst (λ (x : Config). PlexesKnow x c.args.vol (but_run (was_on c.args.was.now) (first_region c.args.block) (last_region c.args.block c.args.count)) (g.S.Shelf.meaning c.ready_group.new.shelf).reads) (config_is c.ready_group.new.core c.args.vol (g.S.Shelf.meaning c.ready_group.new.shelf) (g.S.Shelf.meaning c.ready_group.new.shelf) (c.in-Ok.ensures.none c.if-not-ready.false) c.ready_group.ensures.stands) (plexes_each c.args.core.now c.ready_group.new.core c.args.vol (g.S.Shelf.meaning c.args.shelf.now) (g.S.Shelf.meaning c.ready_group.new.shelf) c.ready_group.ensures.logs (but_run (was_on c.args.was.now) (first_region c.args.block) (last_region c.args.block c.args.count)) up ((c.requires.reads is).so (λ down. up (c.ready_group.ensures.goes.falls down)))))
    (c.ready_group.ensures.logs.maps c.args.vol (or_run (first_region c.args.block) (last_region c.args.block c.args.count) none_spared) c.args.logs.now know))

pub returns-clause-knows : goal.returns-clause-knows
returns-clause-knows g c = λ know. c.mark_group.ensures.knows none_spared
    (c.begin_fallen.ensures.knows (or_off (wide c.ready_group.new.core).config c.args.vol (first_region c.args.block) (last_region c.args.block c.args.count) none_spared) (but_run (was_on c.args.was.now) (first_region c.args.block) (last_region c.args.block c.args.count)) (λ p r. clear_off c.ready_group.new.core c.args.vol (first_region c.args.block) (last_region c.args.block c.args.count) c.args.was.now (c.in-Ok.ensures.none c.if-not-ready.false) (g.S.Shelf.meaning c.ready_group.new.shelf) c.ready_group.ensures.stands p r)
    (λ is up. subst (λ (x : Config). PlexesKnow x c.args.vol (but_run (was_on c.args.was.now) (first_region c.args.block) (last_region c.args.block c.args.count)) (g.S.Shelf.meaning c.ready_group.new.shelf).reads) (config_is c.ready_group.new.core c.args.vol (g.S.Shelf.meaning c.ready_group.new.shelf) (g.S.Shelf.meaning c.ready_group.new.shelf) (c.in-Ok.ensures.none c.if-not-ready.false) c.ready_group.ensures.stands) (plexes_each c.args.core.now c.ready_group.new.core c.args.vol (g.S.Shelf.meaning c.args.shelf.now) (g.S.Shelf.meaning c.ready_group.new.shelf) c.ready_group.ensures.logs (but_run (was_on c.args.was.now) (first_region c.args.block) (last_region c.args.block c.args.count)) up ((c.requires.reads is).so (λ down. up (c.ready_group.ensures.goes.falls down)))))
    (off_more c.args.core.now c.ready_group.new.core c.args.vol (first_region c.args.block) (last_region c.args.block c.args.count) c.args.logs.now (g.S.Shelf.meaning c.ready_group.new.shelf) c.ready_group.ensures.narrow (c.ready_group.ensures.logs.maps c.args.vol (or_off (wide c.args.core.now).config c.args.vol (first_region c.args.block) (last_region c.args.block c.args.count) none_spared) c.args.logs.now know)))

pub returns-clause-notes : goal.returns-clause-notes
returns-clause-notes g c =
    let same = fell_same c.ready_group.new.core c.mark_group.new.core c.args.vol c.args.was.now c.mark_group.ensures.still in
    but_then (fell_now c.args.was.now c.mark_group.new.core c.args.vol) (are_off c.mark_group.new.core c.args.vol) (first_region c.args.block) (last_region c.args.block c.args.count) c.args.logs.now c.begin_fallen.new.logs c.mark_group.new.logs
    (but_more (fell_now c.args.was.now c.ready_group.new.core c.args.vol) (fell_now c.args.was.now c.mark_group.new.core c.args.vol) (are_off c.mark_group.new.core c.args.vol) (are_off c.mark_group.new.core c.args.vol) (first_region c.args.block) (last_region c.args.block c.args.count) c.args.logs.now c.begin_fallen.new.logs (λ p is. same p ∙ is) (λ p is. is) (but_any (fell_now c.args.was.now c.ready_group.new.core c.args.vol) (are_off c.mark_group.new.core c.args.vol) (first_region c.args.block) (last_region c.args.block c.args.count) c.args.logs.now c.begin_fallen.new.logs c.begin_fallen.ensures.notes))
    (but_note (fell_now c.args.was.now c.mark_group.new.core c.args.vol) (are_off c.mark_group.new.core c.args.vol) (first_region c.args.block) (last_region c.args.block c.args.count) c.begin_fallen.new.logs c.mark_group.new.logs c.mark_group.ensures.notes)

pub returns-clause-begins : goal.returns-clause-begins
returns-clause-begins g c = λ is. if_ok_any c.mark_group.result (λ (done : Bool) so.
    let same = fell_same c.ready_group.new.core c.mark_group.new.core c.args.vol c.args.was.now c.mark_group.ensures.still in
    off_run (fell_now c.args.was.now c.mark_group.new.core c.args.vol) (fell_now c.args.was.now c.ready_group.new.core c.args.vol) (are_off c.mark_group.new.core c.args.vol) (first_region c.args.block) (last_region c.args.block c.args.count) c.begin_fallen.new.logs c.mark_group.new.logs (λ p on. sym (same p) ∙ on) (c.begin_fallen.ensures.begins is) c.mark_group.ensures.notes)

pub returns-clause-drops : goal.returns-clause-drops
returns-clause-drops g c =
    drop_behind (wide c.args.core.now).config (wide c.ready_group.new.core).config c.args.vol c.args.logs.now c.mark_group.new.logs (g.S.Shelf.meaning c.args.shelf.now) (g.S.Shelf.meaning c.ready_group.new.shelf) (g.S.Shelf.meaning c.mark_group.new.shelf) (c.ready_group.ensures.narrow.shape.logs c.args.vol) c.ready_group.ensures.loses.rises
    (drop_then (wide c.ready_group.new.core).config (wide c.ready_group.new.core).config c.args.vol c.args.logs.now c.begin_fallen.new.logs c.mark_group.new.logs (g.S.Shelf.meaning c.ready_group.new.shelf) (g.S.Shelf.meaning c.begin_fallen.new.shelf) (g.S.Shelf.meaning c.mark_group.new.shelf) (λ log. refl) c.begin_fallen.ensures.below.faults c.mark_group.ensures.loses.rises c.mark_group.ensures.goes.falls c.begin_fallen.ensures.drops c.mark_group.ensures.drops)

pub returns-clause-trusts : goal.returns-clause-trusts
returns-clause-trusts g c = trusts_then c.args.vol c.mark_group.new.logs c.args.core.now.inner.config c.ready_group.new.core.inner.config c.mark_group.new.core.inner.config (trusts_in c.args.vol c.mark_group.new.logs c.args.core.now.inner.config c.ready_group.new.core.inner.config c.ready_group.ensures.trusts) c.mark_group.ensures.trusts

pub returns-clause-trust : goal.returns-clause-trust
returns-clause-trust g c = ok_from c.mark_group.result (λ keeps is. keeps (c.in-Ok.ensures.trust is)) c.mark_group.ensures.trust

pub returns-clause-agreed : goal.returns-clause-agreed
returns-clause-agreed g c = err_from c.mark_group.result (λ keeps is. keeps (c.in-Ok.ensures.trust is)) c.mark_group.ensures.agreed

pub returns-clause-finds : goal.returns-clause-finds
returns-clause-finds g c = then_group c.args.core.now c.ready_group.new.core c.mark_group.new.core (g.S.Shelf.meaning c.args.shelf.now) (g.S.Shelf.meaning c.begin_fallen.new.shelf) (g.S.Shelf.meaning c.mark_group.new.shelf) (then_group c.args.core.now c.ready_group.new.core c.ready_group.new.core (g.S.Shelf.meaning c.args.shelf.now) (g.S.Shelf.meaning c.ready_group.new.shelf) (g.S.Shelf.meaning c.begin_fallen.new.shelf) c.ready_group.ensures.finds (maps_idle c.ready_group.new.core c.args.vol (g.S.Shelf.meaning c.ready_group.new.shelf) (g.S.Shelf.meaning c.begin_fallen.new.shelf) (c.in-Ok.ensures.none c.if-not-ready.false) c.ready_group.ensures.stands c.begin_fallen.ensures.below c.begin_fallen.ensures.less)) c.mark_group.ensures.finds

pub returns-clause-cause : goal.returns-clause-cause
returns-clause-cause g c = cause_from (inner_meaning (wide c.args.core.now) (g.S.Shelf.meaning c.args.shelf.now)) (inner_meaning (wide c.ready_group.new.core) (g.S.Shelf.meaning c.begin_fallen.new.shelf)) (inner_meaning (wide c.mark_group.new.core) (g.S.Shelf.meaning c.mark_group.new.shelf)) c.args.vol c.mark_group.result (then_nothing Nothing (inner_meaning (wide c.args.core.now) (g.S.Shelf.meaning c.args.shelf.now)) (inner_meaning (wide c.ready_group.new.core) (g.S.Shelf.meaning c.ready_group.new.shelf)) (inner_meaning (wide c.ready_group.new.core) (g.S.Shelf.meaning c.begin_fallen.new.shelf)) c.ready_group.ensures.goes c.begin_fallen.ensures.goes).falls (then_nothing Nothing (inner_meaning (wide c.args.core.now) (g.S.Shelf.meaning c.args.shelf.now)) (inner_meaning (wide c.ready_group.new.core) (g.S.Shelf.meaning c.ready_group.new.shelf)) (inner_meaning (wide c.ready_group.new.core) (g.S.Shelf.meaning c.begin_fallen.new.shelf)) c.ready_group.ensures.goes c.begin_fallen.ensures.goes).faults (then_nothing Nothing (inner_meaning (wide c.args.core.now) (g.S.Shelf.meaning c.args.shelf.now)) (inner_meaning (wide c.ready_group.new.core) (g.S.Shelf.meaning c.ready_group.new.shelf)) (inner_meaning (wide c.ready_group.new.core) (g.S.Shelf.meaning c.begin_fallen.new.shelf)) c.ready_group.ensures.goes c.begin_fallen.ensures.goes).disk_faults c.mark_group.ensures.cause

pub returns-in-Err-clause-plexes : goal.returns-in-Err-clause-plexes
returns-in-Err-clause-plexes g c = λ missed up know. plexes_each c.args.core.now c.ready_group.new.core c.args.vol (g.S.Shelf.meaning c.args.shelf.now) (g.S.Shelf.meaning c.ready_group.new.shelf) c.ready_group.ensures.logs missed up know

pub returns-then-not-ready-clause-plexes : goal.returns-then-not-ready-clause-plexes
returns-then-not-ready-clause-plexes g c = λ missed up know. plexes_each c.args.core.now c.ready_group.new.core c.args.vol (g.S.Shelf.meaning c.args.shelf.now) (g.S.Shelf.meaning c.ready_group.new.shelf) c.ready_group.ensures.logs missed up know

pub returns-clause-plexes : goal.returns-clause-plexes
returns-clause-plexes g c = λ missed up know.
    let mid : IsTrue (g.S.Shelf.meaning c.begin_fallen.new.shelf).down → ⊥ = λ down. up (c.mark_group.ensures.goes.falls down) in
    c.mark_group.ensures.plexes missed up
    (plexes_maps c.ready_group.new.core c.args.vol (g.S.Shelf.meaning c.ready_group.new.shelf) (g.S.Shelf.meaning c.begin_fallen.new.shelf) (c.in-Ok.ensures.none c.if-not-ready.false) c.ready_group.ensures.stands c.begin_fallen.ensures.below missed mid
    (plexes_each c.args.core.now c.ready_group.new.core c.args.vol (g.S.Shelf.meaning c.args.shelf.now) (g.S.Shelf.meaning c.ready_group.new.shelf) c.ready_group.ensures.logs missed (λ down. mid (c.begin_fallen.ensures.below.falls down)) know))

pub returns-then-not-ready-clause-holds : goal.returns-then-not-ready-clause-holds
returns-then-not-ready-clause-holds g c = λ is. absurd (let clash : false ≡ true = is in cc)

pub returns-clause-holds : goal.returns-clause-holds
returns-clause-holds g c = c.mark_group.ensures.holds

pub returns-in-Err-clause-free : goal.returns-in-Err-clause-free
returns-in-Err-clause-free g c = tt

pub returns-then-not-ready-clause-free : goal.returns-then-not-ready-clause-free
returns-then-not-ready-clause-free g c = λ is. absurd (let clash : false ≡ true = is in cc)

pub returns-clause-free : goal.returns-clause-free
returns-clause-free g c = c.mark_group.ensures.free

pub returns-in-Err-clause-marks : goal.returns-in-Err-clause-marks
returns-in-Err-clause-marks g c = c.in-Err.ensures.marks

pub returns-in-Err-clause-misses : goal.returns-in-Err-clause-misses
returns-in-Err-clause-misses g c = c.in-Err.ensures.misses

pub returns-then-not-ready-clause-marks : goal.returns-then-not-ready-clause-marks
returns-then-not-ready-clause-marks g c = c.in-Ok.ensures.marks

pub returns-clause-marks : goal.returns-clause-marks
returns-clause-marks g c = marks_then c.args.vol c.args.core.now.inner.unsure c.ready_group.new.core.inner.unsure c.mark_group.new.core.inner.unsure c.mark_group.result c.in-Ok.ensures.marks c.mark_group.ensures.marks

pub returns-clause-misses : goal.returns-clause-misses
returns-clause-misses g c = c.mark_group.ensures.misses

pub returns-in-Err-clause-stands : goal.returns-in-Err-clause-stands
returns-in-Err-clause-stands g c = c.ready_group.ensures.stands

pub returns-in-Err-clause-goes : goal.returns-in-Err-clause-goes
returns-in-Err-clause-goes g c = c.ready_group.ensures.goes

pub returns-in-Err-clause-loses : goal.returns-in-Err-clause-loses
returns-in-Err-clause-loses g c = c.ready_group.ensures.loses

pub returns-in-Err-clause-narrow : goal.returns-in-Err-clause-narrow
returns-in-Err-clause-narrow g c = c.ready_group.ensures.narrow

pub returns-in-Err-clause-still : goal.returns-in-Err-clause-still
returns-in-Err-clause-still g c = c.ready_group.ensures.still

pub returns-in-Err-clause-said : goal.returns-in-Err-clause-said
returns-in-Err-clause-said g c = tt

pub returns-in-Err-clause-holds : goal.returns-in-Err-clause-holds
returns-in-Err-clause-holds g c = tt

pub returns-in-Err-clause-may : goal.returns-in-Err-clause-may
returns-in-Err-clause-may g c = tt

pub returns-in-Err-clause-spent : goal.returns-in-Err-clause-spent
returns-in-Err-clause-spent g c = tt

pub returns-in-Err-clause-trust : goal.returns-in-Err-clause-trust
returns-in-Err-clause-trust g c = tt

pub returns-in-Err-clause-agreed : goal.returns-in-Err-clause-agreed
returns-in-Err-clause-agreed g c = c.in-Err.ensures.agreed

pub returns-in-Err-clause-finds : goal.returns-in-Err-clause-finds
returns-in-Err-clause-finds g c = c.ready_group.ensures.finds

pub returns-in-Err-clause-cause : goal.returns-in-Err-clause-cause
returns-in-Err-clause-cause g c = c.in-Err.ensures.cause

pub returns-then-not-ready-clause-stands : goal.returns-then-not-ready-clause-stands
returns-then-not-ready-clause-stands g c = c.ready_group.ensures.stands

pub returns-then-not-ready-clause-goes : goal.returns-then-not-ready-clause-goes
returns-then-not-ready-clause-goes g c = c.ready_group.ensures.goes

pub returns-then-not-ready-clause-loses : goal.returns-then-not-ready-clause-loses
returns-then-not-ready-clause-loses g c = c.ready_group.ensures.loses

pub returns-then-not-ready-clause-narrow : goal.returns-then-not-ready-clause-narrow
returns-then-not-ready-clause-narrow g c = c.ready_group.ensures.narrow

pub returns-then-not-ready-clause-still : goal.returns-then-not-ready-clause-still
returns-then-not-ready-clause-still g c = c.ready_group.ensures.still

pub returns-then-not-ready-clause-trust : goal.returns-then-not-ready-clause-trust
returns-then-not-ready-clause-trust g c = c.in-Ok.ensures.trust

pub returns-then-not-ready-clause-agreed : goal.returns-then-not-ready-clause-agreed
returns-then-not-ready-clause-agreed g c = tt

pub returns-then-not-ready-clause-finds : goal.returns-then-not-ready-clause-finds
returns-then-not-ready-clause-finds g c = c.ready_group.ensures.finds

pub returns-then-not-ready-clause-misses : goal.returns-then-not-ready-clause-misses
returns-then-not-ready-clause-misses g c = tt

pub returns-then-not-ready-clause-cause : goal.returns-then-not-ready-clause-cause
returns-then-not-ready-clause-cause g c = c.in-Ok.ensures.cause

pub returns-clause-stands : goal.returns-clause-stands
returns-clause-stands g c = c.mark_group.ensures.stands

pub returns-clause-log : goal.returns-clause-log
returns-clause-log g c = c.mark_group.ensures.log

pub returns-clause-said : goal.returns-clause-said
returns-clause-said g c = c.mark_group.ensures.said

pub returns-clause-may : goal.returns-clause-may
returns-clause-may g c = c.mark_group.ensures.may

pub returns-clause-spent : goal.returns-clause-spent
returns-clause-spent g c = c.mark_group.ensures.spent
