-- `keep_fallen`: what its calls ask; its clauses.
use Rattle.std.proofs.Common.{◌≡◌, ◌∙◌, inl, inr, Bool, true, false, refl, sym, ap, subst, arith}
use Rattle.std.specs.Prelude.{not}
use Rattle.vx_config.specs.Checks.{blocks_of}
use Rattle.vx_config.specs.declared.config.Config.{Config}
use Rattle.vx_disk.specs.Shelf.{Nothing}
use Rattle.vx_disk.proofs.Runs.{then_nothing}
use Rattle.vx_group.specs.Holding.{wide}
use Rattle.vx_group.specs.Stands.{inner_meaning}
use Rattle.vx_group.proofs.FindingLemmas.{then_group}
use Rattle.vx_group.proofs.LoseLemmas.{along_same, then_along}
use Rattle.vx_group.proofs.TrustLemmas.{err_from, ok_from}
use Rattle.vx_grouplogs.proofs.GoneLemmas.{drop_before, drop_behind, drop_same}
use Rattle.vx_groupmaps.specs.Knowing.{PlexesKnow}
use Rattle.vx_groupmaps.specs.Missing.{none_spared}
use Rattle.vx_groupmaps.proofs.KnowLemmas.{note_same}
use Rattle.vx_logged.specs.Begun.{fell_now, was_on}
use Rattle.vx_logged.specs.Behind.{none_missing}
use Rattle.vx_logged.proofs.BeginLemmas.{but_more, but_note, first_flag, plexes_each}
use Rattle.vx_logged.proofs.FallenLemmas.{cause_from, fell_same, no_blocks, off_less, there_still}
use Rattle.vx_logged.proofs.GoneLogs.{trusts_in, trusts_then}
use Rattle.vx_logged.proofs.StandLemmas.{config_is, if_err_any, if_ok_any, narrowed_then, others_each, others_then, maps_idle}
use Rattle.vx_logged.proofs.KeptLemmas.{map_later, some_blocks}
use Rattle.vx_group.proofs.UnsureLemmas.{marks_then}
use Rattle.vx_logged.proofs.beginning.keep_fallen.Goals as goal

pub begin_fallen-requires-clause-none : goal.begin_fallen-requires-clause-none
begin_fallen-requires-clause-none g c = (c.in-Ok.ensures.none c.if-not-ready.false)

pub begin_fallen-requires-clause-exists : goal.begin_fallen-requires-clause-exists
begin_fallen-requires-clause-exists g c = λ p on.
    let same : blocks_of (wide c.args.core.now).config.volumes c.args.vol ≡ blocks_of c.ready_group.new.core.inner.config.volumes c.args.vol = (sym (c.ready_group.ensures.goes.size c.args.vol) ∙ ap (λ (x : Config). blocks_of x.volumes c.args.vol) (config_is c.ready_group.new.core c.args.vol (g.S.Shelf.meaning c.ready_group.new.shelf) (g.S.Shelf.meaning c.ready_group.new.shelf) (c.in-Ok.ensures.none c.if-not-ready.false) c.ready_group.ensures.stands)) in
    let is = c.blocks_of-blocks.ensures in
    let off = c.if-blocks-eq0.false in
    there_still c.args.core.now c.ready_group.new.core c.args.vol p (g.S.Shelf.meaning c.ready_group.new.shelf) c.ready_group.ensures.narrow (c.in-Ok.ensures.none c.if-not-ready.false) c.ready_group.ensures.stands (c.requires.has p (omega (arith, same, is, off)) on)

pub begin_fallen-requires-clause-log : goal.begin_fallen-requires-clause-log
begin_fallen-requires-clause-log g c = c.ready_group.ensures.logs.each c.args.vol c.args.logs.now c.requires.log

pub keep_map-requires-clause-there : goal.keep_map-requires-clause-there
keep_map-requires-clause-there g c = omega (arith, c.requires.there, c.ready_group.ensures.goes.units, c.begin_fallen.ensures.goes.units)

pub returns-in-Err-clause-log : goal.returns-in-Err-clause-log
returns-in-Err-clause-log g c = c.ready_group.ensures.logs.each c.args.vol c.args.logs.now c.requires.log

pub returns-in-Err-clause-others : goal.returns-in-Err-clause-others
returns-in-Err-clause-others g c = others_each c.args.vol c.args.core.now c.ready_group.new.core (g.S.Shelf.meaning c.args.shelf.now) (g.S.Shelf.meaning c.ready_group.new.shelf) c.ready_group.ensures.logs

pub returns-in-Err-clause-maps : goal.returns-in-Err-clause-maps
returns-in-Err-clause-maps g c = c.ready_group.ensures.logs.maps c.args.vol none_spared c.args.logs.now

pub returns-in-Err-clause-notes : goal.returns-in-Err-clause-notes
returns-in-Err-clause-notes g c = but_note (fell_now c.args.was.now c.ready_group.new.core c.args.vol) none_missing 0 0 c.args.logs.now c.args.logs.now (note_same _ _ _ c.args.logs.now c.args.logs.now refl)

pub returns-in-Err-clause-drops : goal.returns-in-Err-clause-drops
returns-in-Err-clause-drops g c = drop_same (wide c.args.core.now).config c.args.vol c.args.logs.now (g.S.Shelf.meaning c.args.shelf.now) (g.S.Shelf.meaning c.ready_group.new.shelf)

pub returns-in-Err-clause-trusts : goal.returns-in-Err-clause-trusts
returns-in-Err-clause-trusts g c = trusts_in c.args.vol c.args.logs.now c.args.core.now.inner.config c.ready_group.new.core.inner.config c.ready_group.ensures.trusts

pub returns-then-not-ready-clause-log : goal.returns-then-not-ready-clause-log
returns-then-not-ready-clause-log g c = c.ready_group.ensures.logs.each c.args.vol c.args.logs.now c.requires.log

pub returns-then-not-ready-clause-others : goal.returns-then-not-ready-clause-others
returns-then-not-ready-clause-others g c = others_each c.args.vol c.args.core.now c.ready_group.new.core (g.S.Shelf.meaning c.args.shelf.now) (g.S.Shelf.meaning c.ready_group.new.shelf) c.ready_group.ensures.logs

pub returns-then-not-ready-clause-maps : goal.returns-then-not-ready-clause-maps
returns-then-not-ready-clause-maps g c = c.ready_group.ensures.logs.maps c.args.vol none_spared c.args.logs.now

pub returns-then-not-ready-clause-notes : goal.returns-then-not-ready-clause-notes
returns-then-not-ready-clause-notes g c = but_note (fell_now c.args.was.now c.ready_group.new.core c.args.vol) none_missing 0 0 c.args.logs.now c.args.logs.now (note_same _ _ _ c.args.logs.now c.args.logs.now refl)

pub returns-then-not-ready-clause-drops : goal.returns-then-not-ready-clause-drops
returns-then-not-ready-clause-drops g c = drop_same (wide c.args.core.now).config c.args.vol c.args.logs.now (g.S.Shelf.meaning c.args.shelf.now) (g.S.Shelf.meaning c.ready_group.new.shelf)

pub returns-then-not-ready-clause-trusts : goal.returns-then-not-ready-clause-trusts
returns-then-not-ready-clause-trusts g c = trusts_in c.args.vol c.args.logs.now c.args.core.now.inner.config c.ready_group.new.core.inner.config c.ready_group.ensures.trusts

pub returns-then-blocks-eq0-clause-log : goal.returns-then-blocks-eq0-clause-log
returns-then-blocks-eq0-clause-log g c = c.ready_group.ensures.logs.each c.args.vol c.args.logs.now c.requires.log

pub returns-then-blocks-eq0-clause-others : goal.returns-then-blocks-eq0-clause-others
returns-then-blocks-eq0-clause-others g c = others_each c.args.vol c.args.core.now c.ready_group.new.core (g.S.Shelf.meaning c.args.shelf.now) (g.S.Shelf.meaning c.ready_group.new.shelf) c.ready_group.ensures.logs

pub returns-then-blocks-eq0-clause-maps : goal.returns-then-blocks-eq0-clause-maps
returns-then-blocks-eq0-clause-maps g c = c.ready_group.ensures.logs.maps c.args.vol none_spared c.args.logs.now

pub returns-then-blocks-eq0-clause-notes : goal.returns-then-blocks-eq0-clause-notes
returns-then-blocks-eq0-clause-notes g c = but_note (fell_now c.args.was.now c.ready_group.new.core c.args.vol) none_missing 0 0 c.args.logs.now c.args.logs.now (note_same _ _ _ c.args.logs.now c.args.logs.now refl)

pub returns-then-blocks-eq0-clause-drops : goal.returns-then-blocks-eq0-clause-drops
returns-then-blocks-eq0-clause-drops g c = drop_same (wide c.args.core.now).config c.args.vol c.args.logs.now (g.S.Shelf.meaning c.args.shelf.now) (g.S.Shelf.meaning c.ready_group.new.shelf)

pub returns-then-blocks-eq0-clause-trusts : goal.returns-then-blocks-eq0-clause-trusts
returns-then-blocks-eq0-clause-trusts g c = trusts_in c.args.vol c.args.logs.now c.args.core.now.inner.config c.ready_group.new.core.inner.config c.ready_group.ensures.trusts

pub returns-then-not-ready-clause-begins : goal.returns-then-not-ready-clause-begins
returns-then-not-ready-clause-begins g c = λ is. absurd (let clash : false ≡ true = is in cc)

pub returns-then-not-ready-clause-spent : goal.returns-then-not-ready-clause-spent
returns-then-not-ready-clause-spent g c = λ is. let spent = c.in-Ok.ensures.spent c.if-not-ready.true in omega (arith, spent)

pub returns-then-blocks-eq0-clause-begins : goal.returns-then-blocks-eq0-clause-begins
returns-then-blocks-eq0-clause-begins g c = λ is. no_blocks (wide c.args.core.now).config c.args.vol (fell_now c.args.was.now c.ready_group.new.core c.args.vol) c.args.logs.now c.requires.log.fits ((sym (c.ready_group.ensures.goes.size c.args.vol) ∙ ap (λ (x : Config). blocks_of x.volumes c.args.vol) (config_is c.ready_group.new.core c.args.vol (g.S.Shelf.meaning c.ready_group.new.shelf) (g.S.Shelf.meaning c.ready_group.new.shelf) (c.in-Ok.ensures.none c.if-not-ready.false) c.ready_group.ensures.stands)) ∙ sym c.blocks_of-blocks.ensures ∙ c.if-blocks-eq0.true)

pub returns-then-blocks-eq0-clause-spent : goal.returns-then-blocks-eq0-clause-spent
returns-then-blocks-eq0-clause-spent g c = λ is. absurd (let clash : true ≡ false = is in cc)

pub returns-clause-goes : goal.returns-clause-goes
returns-clause-goes g c = then_nothing Nothing (inner_meaning (wide c.args.core.now) (g.S.Shelf.meaning c.args.shelf.now)) (inner_meaning (wide c.ready_group.new.core) (g.S.Shelf.meaning c.begin_fallen.new.shelf)) (inner_meaning (wide c.keep_map.new.core) (g.S.Shelf.meaning c.keep_map.new.shelf)) (then_nothing Nothing (inner_meaning (wide c.args.core.now) (g.S.Shelf.meaning c.args.shelf.now)) (inner_meaning (wide c.ready_group.new.core) (g.S.Shelf.meaning c.ready_group.new.shelf)) (inner_meaning (wide c.ready_group.new.core) (g.S.Shelf.meaning c.begin_fallen.new.shelf)) c.ready_group.ensures.goes c.begin_fallen.ensures.goes) c.keep_map.ensures.goes

pub returns-clause-loses : goal.returns-clause-loses
returns-clause-loses g c = then_along c.args.core.now.inner.config c.ready_group.new.core.inner.config c.keep_map.new.core.inner.config (g.S.Shelf.meaning c.args.shelf.now) (g.S.Shelf.meaning c.begin_fallen.new.shelf) (g.S.Shelf.meaning c.keep_map.new.shelf) (then_along c.args.core.now.inner.config c.ready_group.new.core.inner.config c.ready_group.new.core.inner.config (g.S.Shelf.meaning c.args.shelf.now) (g.S.Shelf.meaning c.ready_group.new.shelf) (g.S.Shelf.meaning c.begin_fallen.new.shelf) c.ready_group.ensures.loses (along_same c.ready_group.new.core.inner.config (g.S.Shelf.meaning c.ready_group.new.shelf) (g.S.Shelf.meaning c.begin_fallen.new.shelf) c.begin_fallen.ensures.below.faults)) c.keep_map.ensures.loses

pub returns-clause-log : goal.returns-clause-log
returns-clause-log g c = c.keep_map.ensures.logs.each c.args.vol c.begin_fallen.new.logs c.begin_fallen.ensures.log

pub returns-clause-others : goal.returns-clause-others
returns-clause-others g c = others_then c.args.vol c.args.core.now c.ready_group.new.core c.keep_map.new.core (g.S.Shelf.meaning c.args.shelf.now) (g.S.Shelf.meaning c.begin_fallen.new.shelf) (g.S.Shelf.meaning c.keep_map.new.shelf) (others_then c.args.vol c.args.core.now c.ready_group.new.core c.ready_group.new.core (g.S.Shelf.meaning c.args.shelf.now) (g.S.Shelf.meaning c.ready_group.new.shelf) (g.S.Shelf.meaning c.begin_fallen.new.shelf) (others_each c.args.vol c.args.core.now c.ready_group.new.core (g.S.Shelf.meaning c.args.shelf.now) (g.S.Shelf.meaning c.ready_group.new.shelf) c.ready_group.ensures.logs) c.begin_fallen.ensures.others) (others_each c.args.vol c.ready_group.new.core c.keep_map.new.core (g.S.Shelf.meaning c.begin_fallen.new.shelf) (g.S.Shelf.meaning c.keep_map.new.shelf) c.keep_map.ensures.logs)

pub returns-clause-narrow : goal.returns-clause-narrow
returns-clause-narrow g c = narrowed_then c.args.core.now c.ready_group.new.core c.keep_map.new.core c.ready_group.ensures.narrow c.keep_map.ensures.narrow

pub returns-clause-still : goal.returns-clause-still
returns-clause-still g c = λ w p. c.keep_map.ensures.still (c.in-Ok.ensures.none c.if-not-ready.false) w p ∙ c.ready_group.ensures.still w p

pub returns-clause-maps : goal.returns-clause-maps
returns-clause-maps g c = λ know. c.keep_map.ensures.logs.maps c.args.vol none_spared c.begin_fallen.new.logs
    (c.begin_fallen.ensures.knows none_spared (λ p r. not (was_on c.args.was.now p)) (λ p r fell clear. ap not (first_flag c.args.was.now c.ready_group.new.core c.args.vol p fell))
    (λ is up. subst (λ (x : Config). PlexesKnow x c.args.vol (λ p r. not (was_on c.args.was.now p)) (g.S.Shelf.meaning c.ready_group.new.shelf).reads) (config_is c.ready_group.new.core c.args.vol (g.S.Shelf.meaning c.ready_group.new.shelf) (g.S.Shelf.meaning c.ready_group.new.shelf) (c.in-Ok.ensures.none c.if-not-ready.false) c.ready_group.ensures.stands) (plexes_each c.args.core.now c.ready_group.new.core c.args.vol (g.S.Shelf.meaning c.args.shelf.now) (g.S.Shelf.meaning c.ready_group.new.shelf) c.ready_group.ensures.logs (λ p r. not (was_on c.args.was.now p)) up (c.requires.reads.so (λ down. up (c.ready_group.ensures.goes.falls down)))))
    (c.ready_group.ensures.logs.maps c.args.vol none_spared c.args.logs.now know))

pub returns-clause-notes : goal.returns-clause-notes
returns-clause-notes g c = but_more (fell_now c.args.was.now c.ready_group.new.core c.args.vol) (fell_now c.args.was.now c.keep_map.new.core c.args.vol) none_missing none_missing 0 0 c.args.logs.now c.begin_fallen.new.logs (λ p is. fell_same c.ready_group.new.core c.keep_map.new.core c.args.vol c.args.was.now (c.keep_map.ensures.still (c.in-Ok.ensures.none c.if-not-ready.false)) p ∙ is) (λ p is. is) c.begin_fallen.ensures.notes

pub returns-clause-begins : goal.returns-clause-begins
returns-clause-begins g c = if_ok_any c.keep_map.result (λ (done : Bool) so.
    off_less (fell_now c.args.was.now c.keep_map.new.core c.args.vol) (fell_now c.args.was.now c.ready_group.new.core c.args.vol) c.begin_fallen.new.logs (λ p on. sym (fell_same c.ready_group.new.core c.keep_map.new.core c.args.vol c.args.was.now (c.keep_map.ensures.still (c.in-Ok.ensures.none c.if-not-ready.false)) p) ∙ on) (c.begin_fallen.ensures.begins refl))

pub returns-clause-drops : goal.returns-clause-drops
returns-clause-drops g c =
    drop_behind (wide c.args.core.now).config (wide c.ready_group.new.core).config c.args.vol c.args.logs.now c.begin_fallen.new.logs (g.S.Shelf.meaning c.args.shelf.now) (g.S.Shelf.meaning c.ready_group.new.shelf) (g.S.Shelf.meaning c.keep_map.new.shelf) (c.ready_group.ensures.narrow.shape.logs c.args.vol) c.ready_group.ensures.loses.rises
    (drop_before (wide c.ready_group.new.core).config c.args.vol c.args.logs.now c.begin_fallen.new.logs (g.S.Shelf.meaning c.ready_group.new.shelf) (g.S.Shelf.meaning c.begin_fallen.new.shelf) (g.S.Shelf.meaning c.keep_map.new.shelf) c.keep_map.ensures.loses.rises c.keep_map.ensures.goes.falls c.begin_fallen.ensures.drops)

pub returns-clause-trusts : goal.returns-clause-trusts
returns-clause-trusts g c = trusts_then c.args.vol c.begin_fallen.new.logs c.args.core.now.inner.config c.ready_group.new.core.inner.config c.keep_map.new.core.inner.config (trusts_in c.args.vol c.begin_fallen.new.logs c.args.core.now.inner.config c.ready_group.new.core.inner.config c.ready_group.ensures.trusts) c.keep_map.ensures.trusts

pub returns-clause-trust : goal.returns-clause-trust
returns-clause-trust g c = ok_from c.keep_map.result (λ keeps is. keeps (c.in-Ok.ensures.trust is)) c.keep_map.ensures.trust

pub returns-clause-agreed : goal.returns-clause-agreed
returns-clause-agreed g c = err_from c.keep_map.result (λ keeps is. keeps (c.in-Ok.ensures.trust is)) c.keep_map.ensures.agreed

pub returns-clause-finds : goal.returns-clause-finds
returns-clause-finds g c = then_group c.args.core.now c.ready_group.new.core c.keep_map.new.core (g.S.Shelf.meaning c.args.shelf.now) (g.S.Shelf.meaning c.begin_fallen.new.shelf) (g.S.Shelf.meaning c.keep_map.new.shelf) (then_group c.args.core.now c.ready_group.new.core c.ready_group.new.core (g.S.Shelf.meaning c.args.shelf.now) (g.S.Shelf.meaning c.ready_group.new.shelf) (g.S.Shelf.meaning c.begin_fallen.new.shelf) c.ready_group.ensures.finds (maps_idle c.ready_group.new.core c.args.vol (g.S.Shelf.meaning c.ready_group.new.shelf) (g.S.Shelf.meaning c.begin_fallen.new.shelf) (c.in-Ok.ensures.none c.if-not-ready.false) c.ready_group.ensures.stands c.begin_fallen.ensures.below c.begin_fallen.ensures.less)) c.keep_map.ensures.finds

pub returns-clause-cause : goal.returns-clause-cause
returns-clause-cause g c = cause_from (inner_meaning (wide c.args.core.now) (g.S.Shelf.meaning c.args.shelf.now)) (inner_meaning (wide c.ready_group.new.core) (g.S.Shelf.meaning c.begin_fallen.new.shelf)) (inner_meaning (wide c.keep_map.new.core) (g.S.Shelf.meaning c.keep_map.new.shelf)) c.args.vol c.keep_map.result (then_nothing Nothing (inner_meaning (wide c.args.core.now) (g.S.Shelf.meaning c.args.shelf.now)) (inner_meaning (wide c.ready_group.new.core) (g.S.Shelf.meaning c.ready_group.new.shelf)) (inner_meaning (wide c.ready_group.new.core) (g.S.Shelf.meaning c.begin_fallen.new.shelf)) c.ready_group.ensures.goes c.begin_fallen.ensures.goes).falls (then_nothing Nothing (inner_meaning (wide c.args.core.now) (g.S.Shelf.meaning c.args.shelf.now)) (inner_meaning (wide c.ready_group.new.core) (g.S.Shelf.meaning c.ready_group.new.shelf)) (inner_meaning (wide c.ready_group.new.core) (g.S.Shelf.meaning c.begin_fallen.new.shelf)) c.ready_group.ensures.goes c.begin_fallen.ensures.goes).faults (then_nothing Nothing (inner_meaning (wide c.args.core.now) (g.S.Shelf.meaning c.args.shelf.now)) (inner_meaning (wide c.ready_group.new.core) (g.S.Shelf.meaning c.ready_group.new.shelf)) (inner_meaning (wide c.ready_group.new.core) (g.S.Shelf.meaning c.begin_fallen.new.shelf)) c.ready_group.ensures.goes c.begin_fallen.ensures.goes).disk_faults c.keep_map.ensures.cause

pub returns-in-Err-clause-left : goal.returns-in-Err-clause-left
returns-in-Err-clause-left g c = λ none. inl (c.in-Err.ensures.quiet none)

pub returns-then-not-ready-clause-left : goal.returns-then-not-ready-clause-left
returns-then-not-ready-clause-left g c = λ none. tt

pub returns-then-blocks-eq0-clause-left : goal.returns-then-blocks-eq0-clause-left
returns-then-blocks-eq0-clause-left g c = λ none. tt

pub returns-clause-left : goal.returns-clause-left
returns-clause-left g c = λ none. if_err_any c.keep_map.result (inr
    (off_less (fell_now c.args.was.now c.keep_map.new.core c.args.vol) (fell_now c.args.was.now c.ready_group.new.core c.args.vol) c.begin_fallen.new.logs (λ p on. sym (fell_same c.ready_group.new.core c.keep_map.new.core c.args.vol c.args.was.now (c.keep_map.ensures.still (c.in-Ok.ensures.none c.if-not-ready.false)) p) ∙ on) (c.begin_fallen.ensures.begins refl)))

pub returns-in-Err-clause-kept : goal.returns-in-Err-clause-kept
returns-in-Err-clause-kept g c = λ was. tt

pub returns-in-Err-clause-said : goal.returns-in-Err-clause-said
returns-in-Err-clause-said g c = λ some. tt

pub returns-then-not-ready-clause-kept : goal.returns-then-not-ready-clause-kept
returns-then-not-ready-clause-kept g c = λ was is. absurd (let clash : false ≡ true = is in cc)

pub returns-then-not-ready-clause-said : goal.returns-then-not-ready-clause-said
returns-then-not-ready-clause-said g c = λ some is. absurd (let clash : false ≡ true = is in cc)

pub returns-then-blocks-eq0-clause-kept : goal.returns-then-blocks-eq0-clause-kept
returns-then-blocks-eq0-clause-kept g c = λ was is. map_later c.args.core.now c.ready_group.new.core c.args.vol c.args.logs.now c.args.logs.now c.ready_group.ensures.narrow refl was

pub returns-then-blocks-eq0-clause-said : goal.returns-then-blocks-eq0-clause-said
returns-then-blocks-eq0-clause-said g c = λ some is. absurd (some_blocks c.args.core.now c.ready_group.new.core c.args.vol c.blocks_of-blocks.result (g.S.Shelf.meaning c.args.shelf.now) (g.S.Shelf.meaning c.ready_group.new.shelf) (c.in-Ok.ensures.none c.if-not-ready.false) c.ready_group.ensures.goes c.blocks_of-blocks.ensures c.if-blocks-eq0.true some)

pub returns-clause-kept : goal.returns-clause-kept
returns-clause-kept g c = λ was. c.keep_map.ensures.kept

pub returns-clause-said : goal.returns-clause-said
returns-clause-said g c = λ some. c.keep_map.ensures.kept

pub returns-in-Err-clause-marks : goal.returns-in-Err-clause-marks
returns-in-Err-clause-marks g c = c.in-Err.ensures.marks

pub returns-in-Err-clause-misses : goal.returns-in-Err-clause-misses
returns-in-Err-clause-misses g c = c.in-Err.ensures.misses

pub returns-then-not-ready-clause-marks : goal.returns-then-not-ready-clause-marks
returns-then-not-ready-clause-marks g c = c.in-Ok.ensures.marks

pub returns-clause-marks : goal.returns-clause-marks
returns-clause-marks g c = marks_then c.args.vol c.args.core.now.inner.unsure c.ready_group.new.core.inner.unsure c.keep_map.new.core.inner.unsure c.keep_map.result c.in-Ok.ensures.marks c.keep_map.ensures.marks

pub returns-clause-misses : goal.returns-clause-misses
returns-clause-misses g c = c.keep_map.ensures.misses

pub returns-then-blocks-eq0-clause-marks : goal.returns-then-blocks-eq0-clause-marks
returns-then-blocks-eq0-clause-marks g c = c.in-Ok.ensures.marks

pub returns-in-Err-clause-stands : goal.returns-in-Err-clause-stands
returns-in-Err-clause-stands g c = c.ready_group.ensures.stands

pub returns-in-Err-clause-goes : goal.returns-in-Err-clause-goes
returns-in-Err-clause-goes g c = c.ready_group.ensures.goes

pub returns-in-Err-clause-loses : goal.returns-in-Err-clause-loses
returns-in-Err-clause-loses g c = c.ready_group.ensures.loses

pub returns-in-Err-clause-narrow : goal.returns-in-Err-clause-narrow
returns-in-Err-clause-narrow g c = c.ready_group.ensures.narrow

pub returns-in-Err-clause-still : goal.returns-in-Err-clause-still
returns-in-Err-clause-still g c = c.ready_group.ensures.still

pub returns-in-Err-clause-begins : goal.returns-in-Err-clause-begins
returns-in-Err-clause-begins g c = tt

pub returns-in-Err-clause-spent : goal.returns-in-Err-clause-spent
returns-in-Err-clause-spent g c = tt

pub returns-in-Err-clause-trust : goal.returns-in-Err-clause-trust
returns-in-Err-clause-trust g c = tt

pub returns-in-Err-clause-agreed : goal.returns-in-Err-clause-agreed
returns-in-Err-clause-agreed g c = c.in-Err.ensures.agreed

pub returns-in-Err-clause-finds : goal.returns-in-Err-clause-finds
returns-in-Err-clause-finds g c = c.ready_group.ensures.finds

pub returns-in-Err-clause-cause : goal.returns-in-Err-clause-cause
returns-in-Err-clause-cause g c = c.in-Err.ensures.cause

pub returns-then-not-ready-clause-stands : goal.returns-then-not-ready-clause-stands
returns-then-not-ready-clause-stands g c = c.ready_group.ensures.stands

pub returns-then-not-ready-clause-goes : goal.returns-then-not-ready-clause-goes
returns-then-not-ready-clause-goes g c = c.ready_group.ensures.goes

pub returns-then-not-ready-clause-loses : goal.returns-then-not-ready-clause-loses
returns-then-not-ready-clause-loses g c = c.ready_group.ensures.loses

pub returns-then-not-ready-clause-narrow : goal.returns-then-not-ready-clause-narrow
returns-then-not-ready-clause-narrow g c = c.ready_group.ensures.narrow

pub returns-then-not-ready-clause-still : goal.returns-then-not-ready-clause-still
returns-then-not-ready-clause-still g c = c.ready_group.ensures.still

pub returns-then-not-ready-clause-trust : goal.returns-then-not-ready-clause-trust
returns-then-not-ready-clause-trust g c = c.in-Ok.ensures.trust

pub returns-then-not-ready-clause-agreed : goal.returns-then-not-ready-clause-agreed
returns-then-not-ready-clause-agreed g c = tt

pub returns-then-not-ready-clause-finds : goal.returns-then-not-ready-clause-finds
returns-then-not-ready-clause-finds g c = c.ready_group.ensures.finds

pub returns-then-not-ready-clause-misses : goal.returns-then-not-ready-clause-misses
returns-then-not-ready-clause-misses g c = tt

pub returns-then-not-ready-clause-cause : goal.returns-then-not-ready-clause-cause
returns-then-not-ready-clause-cause g c = c.in-Ok.ensures.cause

pub returns-then-blocks-eq0-clause-stands : goal.returns-then-blocks-eq0-clause-stands
returns-then-blocks-eq0-clause-stands g c = c.ready_group.ensures.stands

pub returns-then-blocks-eq0-clause-goes : goal.returns-then-blocks-eq0-clause-goes
returns-then-blocks-eq0-clause-goes g c = c.ready_group.ensures.goes

pub returns-then-blocks-eq0-clause-loses : goal.returns-then-blocks-eq0-clause-loses
returns-then-blocks-eq0-clause-loses g c = c.ready_group.ensures.loses

pub returns-then-blocks-eq0-clause-narrow : goal.returns-then-blocks-eq0-clause-narrow
returns-then-blocks-eq0-clause-narrow g c = c.ready_group.ensures.narrow

pub returns-then-blocks-eq0-clause-still : goal.returns-then-blocks-eq0-clause-still
returns-then-blocks-eq0-clause-still g c = c.ready_group.ensures.still

pub returns-then-blocks-eq0-clause-trust : goal.returns-then-blocks-eq0-clause-trust
returns-then-blocks-eq0-clause-trust g c = c.in-Ok.ensures.trust

pub returns-then-blocks-eq0-clause-agreed : goal.returns-then-blocks-eq0-clause-agreed
returns-then-blocks-eq0-clause-agreed g c = tt

pub returns-then-blocks-eq0-clause-finds : goal.returns-then-blocks-eq0-clause-finds
returns-then-blocks-eq0-clause-finds g c = c.ready_group.ensures.finds

pub returns-then-blocks-eq0-clause-misses : goal.returns-then-blocks-eq0-clause-misses
returns-then-blocks-eq0-clause-misses g c = tt

pub returns-then-blocks-eq0-clause-cause : goal.returns-then-blocks-eq0-clause-cause
returns-then-blocks-eq0-clause-cause g c = c.in-Ok.ensures.cause

pub returns-in-Err-clause-drl : goal.returns-in-Err-clause-drl
returns-in-Err-clause-drl g c = refl

pub returns-then-not-ready-clause-drl : goal.returns-then-not-ready-clause-drl
returns-then-not-ready-clause-drl g c = refl

pub returns-then-blocks-eq0-clause-drl : goal.returns-then-blocks-eq0-clause-drl
returns-then-blocks-eq0-clause-drl g c = refl

pub returns-clause-stands : goal.returns-clause-stands
returns-clause-stands g c = c.keep_map.ensures.stands

pub returns-clause-drl : goal.returns-clause-drl
returns-clause-drl g c = c.begin_fallen.ensures.drl

pub returns-clause-spent : goal.returns-clause-spent
returns-clause-spent g c = c.keep_map.ensures.spent
