-- A flush, and maps and marks behind it.
use Rattle.std.proofs.Common.{◌≡◌, ◌∙◌, inl, inr, Bool, true, false, Err, ap, refl, sym, arith, ◌<◌}
use Rattle.std.specs.Prelude.{not}
use Rattle.vx_disk.specs.Shelf.{Nothing}
use Rattle.vx_disk.proofs.Causing.{Cause_both}
use Rattle.vx_disk.proofs.Runs.{then_nothing}
use Rattle.vx_group.specs.Holding.{wide}
use Rattle.vx_group.specs.Stands.{inner_meaning}
use Rattle.vx_group.proofs.FindingLemmas.{then_group}
use Rattle.vx_group.proofs.HoldLemmas.{narrow_sound, narrow_wider}
use Rattle.vx_group.proofs.LoseLemmas.{then_along}
use Rattle.vx_grouplogs.proofs.GoneLemmas.{drop_behind, drop_same, drop_then}
use Rattle.vx_groupmaps.specs.Missing.{none_spared}
use Rattle.vx_groupmaps.proofs.KnowLemmas.{note_same}
use Rattle.vx_model.specs.Sizes.{regions_of as regions_in}
use Rattle.vx_volume.specs.Plexes.{active}
use Rattle.vx_volume.proofs.PlaceLemmas.{active_few}
use Rattle.vx_logged.specs.Begun.{fell_in, fell_now, was_on}
use Rattle.vx_logged.specs.Behind.{none_missing}
use Rattle.vx_logged.proofs.BeginLemmas.{but_more, but_note, but_then, plexes_each, plexes_one, whole_of}
use Rattle.vx_logged.proofs.FallenLemmas.{fell_all, fell_same, fell_some, fewer_before, fewer_drl, gave_off, off_less, off_stay, was_there, still_off}
use Rattle.vx_logged.proofs.GoneLogs.{trusts_in, trusts_less, trusts_then}
use Rattle.vx_logged.proofs.StandLemmas.{alike_goes, cause_to, each_on, flushed_alike, flushed_then, narrowed_acts, narrowed_then, others_each, others_then, same_fewer}
use Rattle.vx_config.specs.Checks.{blocks_of}
use Rattle.vx_logged.proofs.KeptLemmas.{both_kept, both_later, kept_by, log_later, map_later}
use Rattle.std.proofs.lemmas.Bool.{cases_lt}
use Rattle.vx_config.specs.Table.{greatest}
use Rattle.vx_kept.proofs.Chosen.{active_volumes}
use Rattle.vx_group.proofs.UnsureLemmas.{gives_faults, misses_faults, unsure_then}
use Rattle.vx_logged.proofs.flushing.flush_cleared.Goals as goal

pub returns-in-Err-clause-log : goal.returns-in-Err-clause-log
returns-in-Err-clause-log g c =
    (each_on c.args.core.now c.flush_group.new.core (g.S.Shelf.meaning c.args.shelf.now) (g.S.Shelf.meaning c.flush_group.new.shelf) c.requires.stands c.flush_group.ensures.acts).each c.args.vol c.args.logs.now

pub returns-in-Err-clause-others : goal.returns-in-Err-clause-others
returns-in-Err-clause-others g c =
    others_each c.args.vol c.args.core.now c.flush_group.new.core (g.S.Shelf.meaning c.args.shelf.now) (g.S.Shelf.meaning c.flush_group.new.shelf) (each_on c.args.core.now c.flush_group.new.core (g.S.Shelf.meaning c.args.shelf.now) (g.S.Shelf.meaning c.flush_group.new.shelf) c.requires.stands c.flush_group.ensures.acts)

pub returns-then-not-sure-clause-log : goal.returns-then-not-sure-clause-log
returns-then-not-sure-clause-log g c =
    (each_on c.args.core.now c.flush_group.new.core (g.S.Shelf.meaning c.args.shelf.now) (g.S.Shelf.meaning c.flush_group.new.shelf) c.requires.stands c.flush_group.ensures.acts).each c.args.vol c.args.logs.now

pub returns-then-not-sure-clause-others : goal.returns-then-not-sure-clause-others
returns-then-not-sure-clause-others g c =
    others_each c.args.vol c.args.core.now c.flush_group.new.core (g.S.Shelf.meaning c.args.shelf.now) (g.S.Shelf.meaning c.flush_group.new.shelf) (each_on c.args.core.now c.flush_group.new.core (g.S.Shelf.meaning c.args.shelf.now) (g.S.Shelf.meaning c.flush_group.new.shelf) c.requires.stands c.flush_group.ensures.acts)

pub returns-in-Err-clause-fewer : goal.returns-in-Err-clause-fewer
returns-in-Err-clause-fewer g c = same_fewer _ c.args.logs.now

pub returns-then-not-sure-clause-fewer : goal.returns-then-not-sure-clause-fewer
returns-then-not-sure-clause-fewer g c = same_fewer _ c.args.logs.now

pub returns-in-Err-clause-maps : goal.returns-in-Err-clause-maps
returns-in-Err-clause-maps g c = (each_on c.args.core.now c.flush_group.new.core (g.S.Shelf.meaning c.args.shelf.now) (g.S.Shelf.meaning c.flush_group.new.shelf) c.requires.stands c.flush_group.ensures.acts).maps c.args.vol none_spared c.args.logs.now

pub returns-then-not-sure-clause-maps : goal.returns-then-not-sure-clause-maps
returns-then-not-sure-clause-maps g c = (each_on c.args.core.now c.flush_group.new.core (g.S.Shelf.meaning c.args.shelf.now) (g.S.Shelf.meaning c.flush_group.new.shelf) c.requires.stands c.flush_group.ensures.acts).maps c.args.vol none_spared c.args.logs.now

pub returns-in-Err-clause-loses : goal.returns-in-Err-clause-loses
returns-in-Err-clause-loses g c = record { loses = c.flush_group.ensures.loses; rises = c.flush_group.ensures.acts.acts.faults }

pub returns-then-not-sure-clause-loses : goal.returns-then-not-sure-clause-loses
returns-then-not-sure-clause-loses g c = record { loses = c.flush_group.ensures.loses; rises = c.flush_group.ensures.acts.acts.faults }

pub returns-in-Err-clause-finds : goal.returns-in-Err-clause-finds
returns-in-Err-clause-finds g c =
    c.flush_group.ensures.finds

pub returns-then-not-sure-clause-finds : goal.returns-then-not-sure-clause-finds
returns-then-not-sure-clause-finds g c =
    c.flush_group.ensures.finds

pub returns-in-Err-clause-drops : goal.returns-in-Err-clause-drops
returns-in-Err-clause-drops g c =
    drop_same (wide c.args.core.now).config c.args.vol c.args.logs.now (g.S.Shelf.meaning c.args.shelf.now) (g.S.Shelf.meaning c.flush_group.new.shelf)

pub returns-in-Err-clause-trusts : goal.returns-in-Err-clause-trusts
returns-in-Err-clause-trusts g c =
    trusts_in c.args.vol c.args.logs.now c.args.core.now.inner.config c.flush_group.new.core.inner.config c.flush_group.ensures.logs

pub returns-then-not-sure-clause-drops : goal.returns-then-not-sure-clause-drops
returns-then-not-sure-clause-drops g c =
    drop_same (wide c.args.core.now).config c.args.vol c.args.logs.now (g.S.Shelf.meaning c.args.shelf.now) (g.S.Shelf.meaning c.flush_group.new.shelf)

pub returns-then-not-sure-clause-trusts : goal.returns-then-not-sure-clause-trusts
returns-then-not-sure-clause-trusts g c =
    trusts_in c.args.vol c.args.logs.now c.args.core.now.inner.config c.flush_group.new.core.inner.config c.flush_group.ensures.logs

pub keep_fallen-requires-clause-there : goal.keep_fallen-requires-clause-there
keep_fallen-requires-clause-there g c = omega (arith, c.requires.there, c.flush_group.ensures.goes.units)

pub keep_fallen-requires-clause-log : goal.keep_fallen-requires-clause-log
keep_fallen-requires-clause-log g c = (each_on c.args.core.now c.flush_group.new.core (g.S.Shelf.meaning c.args.shelf.now) (g.S.Shelf.meaning c.flush_group.new.shelf) c.requires.stands c.flush_group.ensures.acts).each c.args.vol c.args.logs.now (c.requires.log c.if-not-sure.false)

pub keep_fallen-requires-clause-has : goal.keep_fallen-requires-clause-has
keep_fallen-requires-clause-has g c = λ p blocks on. was_there c.args.core.now c.flush_group.new.core c.args.vol p (g.S.Shelf.meaning c.args.shelf.now) c.requires.stands (narrowed_acts Nothing c.args.core.now c.flush_group.new.core (g.S.Shelf.meaning c.args.shelf.now) (g.S.Shelf.meaning c.flush_group.new.shelf) c.flush_group.ensures.acts) (record { volume = c.requires.there; within = (let same = c.flush_group.ensures.goes.size c.args.vol in omega (arith, same, blocks)) }) (c.actives-was.ensures.some p on)

pub keep_fallen-requires-clause-reads : goal.keep_fallen-requires-clause-reads
keep_fallen-requires-clause-reads g c = whole_of (wide c.flush_group.new.core).config c.args.vol (was_on c.actives-was.result) (active (wide c.args.core.now).config c.args.vol) (g.S.Shelf.meaning c.flush_group.new.shelf) (λ p on. narrow_wider c.args.core.now (g.S.Shelf.meaning c.args.shelf.now) c.requires.stands c.args.vol p (c.actives-was.ensures.some p on))
    (λ up. plexes_each c.args.core.now c.flush_group.new.core c.args.vol (g.S.Shelf.meaning c.args.shelf.now) (g.S.Shelf.meaning c.flush_group.new.shelf) (each_on c.args.core.now c.flush_group.new.core (g.S.Shelf.meaning c.args.shelf.now) (g.S.Shelf.meaning c.flush_group.new.shelf) c.requires.stands c.flush_group.ensures.acts) (λ p r. not (active (wide c.args.core.now).config c.args.vol p)) up (plexes_one (wide c.args.core.now).config c.args.vol (g.S.Shelf.meaning c.args.shelf.now) (c.requires.one c.if-not-sure.false)))

pub clear_group-requires-clause-there : goal.clear_group-requires-clause-there
clear_group-requires-clause-there g c = omega (arith, c.requires.there, c.flush_group.ensures.goes.units, c.keep_fallen.ensures.goes.units)

pub clear_group-requires-clause-alike : goal.clear_group-requires-clause-alike
clear_group-requires-clause-alike g c = alike_goes c.flush_group.new.core c.keep_fallen.new.core c.args.vol (g.S.Shelf.meaning c.flush_group.new.shelf) (g.S.Shelf.meaning c.keep_fallen.new.shelf) c.keep_fallen.ensures.goes
    (flushed_alike c.args.core.now c.flush_group.new.core c.args.vol (g.S.Shelf.meaning c.args.shelf.now) (g.S.Shelf.meaning c.flush_group.new.shelf) c.flush_group.ensures.acts c.in-Ok.ensures.ok (c.requires.one c.if-not-sure.false))

pub returns-in-Err-clause-notes : goal.returns-in-Err-clause-notes
returns-in-Err-clause-notes g c = but_note (fell_in c.args.core.now c.flush_group.new.core c.args.vol) none_missing 0 0 c.args.logs.now c.args.logs.now (note_same _ _ _ c.args.logs.now c.args.logs.now refl)

pub returns-then-not-sure-clause-notes : goal.returns-then-not-sure-clause-notes
returns-then-not-sure-clause-notes g c = but_note (fell_in c.args.core.now c.flush_group.new.core c.args.vol) none_missing 0 0 c.args.logs.now c.args.logs.now (note_same _ _ _ c.args.logs.now c.args.logs.now refl)

pub returns-in-Err-clause-begins : goal.returns-in-Err-clause-begins
returns-in-Err-clause-begins g c = λ is. tt

pub returns-then-not-sure-clause-begins : goal.returns-then-not-sure-clause-begins
returns-then-not-sure-clause-begins g c = λ is. absurd (let clash : false ≡ true = sym c.if-not-sure.true ∙ is in cc)

pub returns-in-Err-keep_fallen-clause-goes : goal.returns-in-Err-keep_fallen-clause-goes
returns-in-Err-keep_fallen-clause-goes g c = then_nothing Nothing (inner_meaning (wide c.args.core.now) (g.S.Shelf.meaning c.args.shelf.now)) (inner_meaning (wide c.flush_group.new.core) (g.S.Shelf.meaning c.flush_group.new.shelf)) (inner_meaning (wide c.keep_fallen.new.core) (g.S.Shelf.meaning c.keep_fallen.new.shelf)) c.flush_group.ensures.goes c.keep_fallen.ensures.goes

pub returns-in-Err-keep_fallen-clause-loses : goal.returns-in-Err-keep_fallen-clause-loses
returns-in-Err-keep_fallen-clause-loses g c = then_along c.args.core.now.inner.config c.flush_group.new.core.inner.config c.keep_fallen.new.core.inner.config (g.S.Shelf.meaning c.args.shelf.now) (g.S.Shelf.meaning c.flush_group.new.shelf) (g.S.Shelf.meaning c.keep_fallen.new.shelf) (record { loses = c.flush_group.ensures.loses; rises = c.flush_group.ensures.acts.acts.faults }) c.keep_fallen.ensures.loses

pub returns-in-Err-keep_fallen-clause-log : goal.returns-in-Err-keep_fallen-clause-log
returns-in-Err-keep_fallen-clause-log g c = λ on. c.keep_fallen.ensures.log

pub returns-in-Err-keep_fallen-clause-others : goal.returns-in-Err-keep_fallen-clause-others
returns-in-Err-keep_fallen-clause-others g c = others_then c.args.vol c.args.core.now c.flush_group.new.core c.keep_fallen.new.core (g.S.Shelf.meaning c.args.shelf.now) (g.S.Shelf.meaning c.flush_group.new.shelf) (g.S.Shelf.meaning c.keep_fallen.new.shelf) (others_each c.args.vol c.args.core.now c.flush_group.new.core (g.S.Shelf.meaning c.args.shelf.now) (g.S.Shelf.meaning c.flush_group.new.shelf) (each_on c.args.core.now c.flush_group.new.core (g.S.Shelf.meaning c.args.shelf.now) (g.S.Shelf.meaning c.flush_group.new.shelf) c.requires.stands c.flush_group.ensures.acts)) c.keep_fallen.ensures.others

pub returns-in-Err-keep_fallen-clause-fewer : goal.returns-in-Err-keep_fallen-clause-fewer
returns-in-Err-keep_fallen-clause-fewer g c = fewer_drl _ c.args.logs.now c.keep_fallen.new.logs c.keep_fallen.ensures.drl

pub returns-in-Err-keep_fallen-clause-maps : goal.returns-in-Err-keep_fallen-clause-maps
returns-in-Err-keep_fallen-clause-maps g c = λ know. c.keep_fallen.ensures.maps ((each_on c.args.core.now c.flush_group.new.core (g.S.Shelf.meaning c.args.shelf.now) (g.S.Shelf.meaning c.flush_group.new.shelf) c.requires.stands c.flush_group.ensures.acts).maps c.args.vol none_spared c.args.logs.now know)

pub returns-in-Err-keep_fallen-clause-notes : goal.returns-in-Err-keep_fallen-clause-notes
returns-in-Err-keep_fallen-clause-notes g c = but_more (fell_now c.actives-was.result c.keep_fallen.new.core c.args.vol) (fell_in c.args.core.now c.keep_fallen.new.core c.args.vol) none_missing none_missing 0 0 c.args.logs.now c.keep_fallen.new.logs (fell_some c.args.core.now c.keep_fallen.new.core c.args.vol c.actives-was.result c.actives-was.ensures.some) (λ p is. is) c.keep_fallen.ensures.notes

pub returns-in-Err-keep_fallen-clause-drops : goal.returns-in-Err-keep_fallen-clause-drops
returns-in-Err-keep_fallen-clause-drops g c = drop_behind (wide c.args.core.now).config (wide c.flush_group.new.core).config c.args.vol c.args.logs.now c.keep_fallen.new.logs (g.S.Shelf.meaning c.args.shelf.now) (g.S.Shelf.meaning c.flush_group.new.shelf) (g.S.Shelf.meaning c.keep_fallen.new.shelf) (c.flush_group.ensures.acts.shape.logs c.args.vol) c.flush_group.ensures.acts.acts.faults c.keep_fallen.ensures.drops

pub returns-in-Err-keep_fallen-clause-trusts : goal.returns-in-Err-keep_fallen-clause-trusts
returns-in-Err-keep_fallen-clause-trusts g c = trusts_then c.args.vol c.keep_fallen.new.logs c.args.core.now.inner.config c.flush_group.new.core.inner.config c.keep_fallen.new.core.inner.config (trusts_in c.args.vol c.keep_fallen.new.logs c.args.core.now.inner.config c.flush_group.new.core.inner.config c.flush_group.ensures.logs) c.keep_fallen.ensures.trusts

pub returns-in-Err-keep_fallen-clause-finds : goal.returns-in-Err-keep_fallen-clause-finds
returns-in-Err-keep_fallen-clause-finds g c = then_group c.args.core.now c.flush_group.new.core c.keep_fallen.new.core (g.S.Shelf.meaning c.args.shelf.now) (g.S.Shelf.meaning c.flush_group.new.shelf) (g.S.Shelf.meaning c.keep_fallen.new.shelf) c.flush_group.ensures.finds c.keep_fallen.ensures.finds

pub returns-then-not-done-clause-goes : goal.returns-then-not-done-clause-goes
returns-then-not-done-clause-goes g c = then_nothing Nothing (inner_meaning (wide c.args.core.now) (g.S.Shelf.meaning c.args.shelf.now)) (inner_meaning (wide c.flush_group.new.core) (g.S.Shelf.meaning c.flush_group.new.shelf)) (inner_meaning (wide c.keep_fallen.new.core) (g.S.Shelf.meaning c.keep_fallen.new.shelf)) c.flush_group.ensures.goes c.keep_fallen.ensures.goes

pub returns-then-not-done-clause-loses : goal.returns-then-not-done-clause-loses
returns-then-not-done-clause-loses g c = then_along c.args.core.now.inner.config c.flush_group.new.core.inner.config c.keep_fallen.new.core.inner.config (g.S.Shelf.meaning c.args.shelf.now) (g.S.Shelf.meaning c.flush_group.new.shelf) (g.S.Shelf.meaning c.keep_fallen.new.shelf) (record { loses = c.flush_group.ensures.loses; rises = c.flush_group.ensures.acts.acts.faults }) c.keep_fallen.ensures.loses

pub returns-then-not-done-clause-log : goal.returns-then-not-done-clause-log
returns-then-not-done-clause-log g c = λ on. c.keep_fallen.ensures.log

pub returns-then-not-done-clause-others : goal.returns-then-not-done-clause-others
returns-then-not-done-clause-others g c = others_then c.args.vol c.args.core.now c.flush_group.new.core c.keep_fallen.new.core (g.S.Shelf.meaning c.args.shelf.now) (g.S.Shelf.meaning c.flush_group.new.shelf) (g.S.Shelf.meaning c.keep_fallen.new.shelf) (others_each c.args.vol c.args.core.now c.flush_group.new.core (g.S.Shelf.meaning c.args.shelf.now) (g.S.Shelf.meaning c.flush_group.new.shelf) (each_on c.args.core.now c.flush_group.new.core (g.S.Shelf.meaning c.args.shelf.now) (g.S.Shelf.meaning c.flush_group.new.shelf) c.requires.stands c.flush_group.ensures.acts)) c.keep_fallen.ensures.others

pub returns-then-not-done-clause-fewer : goal.returns-then-not-done-clause-fewer
returns-then-not-done-clause-fewer g c = fewer_drl _ c.args.logs.now c.keep_fallen.new.logs c.keep_fallen.ensures.drl

pub returns-then-not-done-clause-maps : goal.returns-then-not-done-clause-maps
returns-then-not-done-clause-maps g c = λ know. c.keep_fallen.ensures.maps ((each_on c.args.core.now c.flush_group.new.core (g.S.Shelf.meaning c.args.shelf.now) (g.S.Shelf.meaning c.flush_group.new.shelf) c.requires.stands c.flush_group.ensures.acts).maps c.args.vol none_spared c.args.logs.now know)

pub returns-then-not-done-clause-notes : goal.returns-then-not-done-clause-notes
returns-then-not-done-clause-notes g c = but_more (fell_now c.actives-was.result c.keep_fallen.new.core c.args.vol) (fell_in c.args.core.now c.keep_fallen.new.core c.args.vol) none_missing none_missing 0 0 c.args.logs.now c.keep_fallen.new.logs (fell_some c.args.core.now c.keep_fallen.new.core c.args.vol c.actives-was.result c.actives-was.ensures.some) (λ p is. is) c.keep_fallen.ensures.notes

pub returns-then-not-done-clause-drops : goal.returns-then-not-done-clause-drops
returns-then-not-done-clause-drops g c = drop_behind (wide c.args.core.now).config (wide c.flush_group.new.core).config c.args.vol c.args.logs.now c.keep_fallen.new.logs (g.S.Shelf.meaning c.args.shelf.now) (g.S.Shelf.meaning c.flush_group.new.shelf) (g.S.Shelf.meaning c.keep_fallen.new.shelf) (c.flush_group.ensures.acts.shape.logs c.args.vol) c.flush_group.ensures.acts.acts.faults c.keep_fallen.ensures.drops

pub returns-then-not-done-clause-trusts : goal.returns-then-not-done-clause-trusts
returns-then-not-done-clause-trusts g c = trusts_then c.args.vol c.keep_fallen.new.logs c.args.core.now.inner.config c.flush_group.new.core.inner.config c.keep_fallen.new.core.inner.config (trusts_in c.args.vol c.keep_fallen.new.logs c.args.core.now.inner.config c.flush_group.new.core.inner.config c.flush_group.ensures.logs) c.keep_fallen.ensures.trusts

pub returns-then-not-done-clause-finds : goal.returns-then-not-done-clause-finds
returns-then-not-done-clause-finds g c = then_group c.args.core.now c.flush_group.new.core c.keep_fallen.new.core (g.S.Shelf.meaning c.args.shelf.now) (g.S.Shelf.meaning c.flush_group.new.shelf) (g.S.Shelf.meaning c.keep_fallen.new.shelf) c.flush_group.ensures.finds c.keep_fallen.ensures.finds

pub returns-in-Err-keep_fallen-clause-begins : goal.returns-in-Err-keep_fallen-clause-begins
returns-in-Err-keep_fallen-clause-begins g c = λ is. tt

pub returns-in-Err-keep_fallen-clause-agreed : goal.returns-in-Err-keep_fallen-clause-agreed
returns-in-Err-keep_fallen-clause-agreed g c = λ is. c.in-Err-keep_fallen.ensures.agreed (c.in-Ok.ensures.trust is)

pub returns-in-Err-keep_fallen-clause-cause : goal.returns-in-Err-keep_fallen-clause-cause
returns-in-Err-keep_fallen-clause-cause g c = Cause_both {T = Unit {0}} (inner_meaning (wide c.args.core.now) (g.S.Shelf.meaning c.args.shelf.now)) (inner_meaning (wide c.flush_group.new.core) (g.S.Shelf.meaning c.flush_group.new.shelf)) (inner_meaning (wide c.keep_fallen.new.core) (g.S.Shelf.meaning c.keep_fallen.new.shelf)) c.args.vol (Err c.in-Err-keep_fallen.refused) c.in-Ok.ensures.cause c.flush_group.ensures.goes.faults c.flush_group.ensures.goes.disk_faults
    (cause_to Bool (Unit {0}) c.args.vol c.in-Err-keep_fallen.refused (inner_meaning (wide c.flush_group.new.core) (g.S.Shelf.meaning c.flush_group.new.shelf)) (inner_meaning (wide c.keep_fallen.new.core) (g.S.Shelf.meaning c.keep_fallen.new.shelf)) c.in-Err-keep_fallen.ensures.cause)

pub returns-then-not-done-clause-begins : goal.returns-then-not-done-clause-begins
returns-then-not-done-clause-begins g c = λ is. inr (c.in-Ok-keep_fallen.ensures.spent c.if-not-done.true)

pub returns-then-not-done-clause-ok : goal.returns-then-not-done-clause-ok
returns-then-not-done-clause-ok g c = flushed_then c.args.vol (inner_meaning (wide c.args.core.now) (g.S.Shelf.meaning c.args.shelf.now)) (inner_meaning (wide c.flush_group.new.core) (g.S.Shelf.meaning c.flush_group.new.shelf)) (inner_meaning (wide c.keep_fallen.new.core) (g.S.Shelf.meaning c.keep_fallen.new.shelf)) c.in-Ok.ensures.ok c.keep_fallen.ensures.goes

pub returns-then-not-done-clause-trust : goal.returns-then-not-done-clause-trust
returns-then-not-done-clause-trust g c = λ is. c.in-Ok-keep_fallen.ensures.trust (c.in-Ok.ensures.trust is)

pub returns-then-not-done-clause-cause : goal.returns-then-not-done-clause-cause
returns-then-not-done-clause-cause g c = record { before = c.in-Ok.ensures.cause.before; after = c.in-Ok-keep_fallen.ensures.cause.after }

pub returns-in-Ok-clear_group-clause-goes : goal.returns-in-Ok-clear_group-clause-goes
returns-in-Ok-clear_group-clause-goes g c = then_nothing Nothing (inner_meaning (wide c.args.core.now) (g.S.Shelf.meaning c.args.shelf.now)) (inner_meaning (wide c.keep_fallen.new.core) (g.S.Shelf.meaning c.keep_fallen.new.shelf)) (inner_meaning (wide c.clear_group.new.core) (g.S.Shelf.meaning c.clear_group.new.shelf)) (then_nothing Nothing (inner_meaning (wide c.args.core.now) (g.S.Shelf.meaning c.args.shelf.now)) (inner_meaning (wide c.flush_group.new.core) (g.S.Shelf.meaning c.flush_group.new.shelf)) (inner_meaning (wide c.keep_fallen.new.core) (g.S.Shelf.meaning c.keep_fallen.new.shelf)) c.flush_group.ensures.goes c.keep_fallen.ensures.goes) c.clear_group.ensures.goes

pub returns-in-Ok-clear_group-clause-loses : goal.returns-in-Ok-clear_group-clause-loses
returns-in-Ok-clear_group-clause-loses g c = then_along c.args.core.now.inner.config c.keep_fallen.new.core.inner.config c.clear_group.new.core.inner.config (g.S.Shelf.meaning c.args.shelf.now) (g.S.Shelf.meaning c.keep_fallen.new.shelf) (g.S.Shelf.meaning c.clear_group.new.shelf)
    (then_along c.args.core.now.inner.config c.flush_group.new.core.inner.config c.keep_fallen.new.core.inner.config (g.S.Shelf.meaning c.args.shelf.now) (g.S.Shelf.meaning c.flush_group.new.shelf) (g.S.Shelf.meaning c.keep_fallen.new.shelf) (record { loses = c.flush_group.ensures.loses; rises = c.flush_group.ensures.acts.acts.faults }) c.keep_fallen.ensures.loses) c.clear_group.ensures.loses

pub returns-in-Ok-clear_group-clause-log : goal.returns-in-Ok-clear_group-clause-log
returns-in-Ok-clear_group-clause-log g c = λ on. c.clear_group.ensures.log

pub returns-in-Ok-clear_group-clause-others : goal.returns-in-Ok-clear_group-clause-others
returns-in-Ok-clear_group-clause-others g c = others_then c.args.vol c.args.core.now c.keep_fallen.new.core c.clear_group.new.core (g.S.Shelf.meaning c.args.shelf.now) (g.S.Shelf.meaning c.keep_fallen.new.shelf) (g.S.Shelf.meaning c.clear_group.new.shelf) (others_then c.args.vol c.args.core.now c.flush_group.new.core c.keep_fallen.new.core (g.S.Shelf.meaning c.args.shelf.now) (g.S.Shelf.meaning c.flush_group.new.shelf) (g.S.Shelf.meaning c.keep_fallen.new.shelf) (others_each c.args.vol c.args.core.now c.flush_group.new.core (g.S.Shelf.meaning c.args.shelf.now) (g.S.Shelf.meaning c.flush_group.new.shelf) (each_on c.args.core.now c.flush_group.new.core (g.S.Shelf.meaning c.args.shelf.now) (g.S.Shelf.meaning c.flush_group.new.shelf) c.requires.stands c.flush_group.ensures.acts)) c.keep_fallen.ensures.others) c.clear_group.ensures.others

pub returns-in-Ok-clear_group-clause-fewer : goal.returns-in-Ok-clear_group-clause-fewer
returns-in-Ok-clear_group-clause-fewer g c = fewer_before _ _ c.args.logs.now c.keep_fallen.new.logs c.clear_group.new.logs (ap regions_in (c.keep_fallen.ensures.goes.size c.args.vol ∙ c.flush_group.ensures.goes.size c.args.vol)) c.keep_fallen.ensures.drl c.clear_group.ensures.fewer

pub returns-in-Ok-clear_group-clause-maps : goal.returns-in-Ok-clear_group-clause-maps
returns-in-Ok-clear_group-clause-maps g c = λ know. c.clear_group.ensures.maps (c.keep_fallen.ensures.maps ((each_on c.args.core.now c.flush_group.new.core (g.S.Shelf.meaning c.args.shelf.now) (g.S.Shelf.meaning c.flush_group.new.shelf) c.requires.stands c.flush_group.ensures.acts).maps c.args.vol none_spared c.args.logs.now know))

pub returns-in-Ok-clear_group-clause-notes : goal.returns-in-Ok-clear_group-clause-notes
returns-in-Ok-clear_group-clause-notes g c = but_then (fell_in c.args.core.now c.clear_group.new.core c.args.vol) none_missing 0 0 c.args.logs.now c.keep_fallen.new.logs c.clear_group.new.logs
    (but_more (fell_now c.actives-was.result c.keep_fallen.new.core c.args.vol) (fell_in c.args.core.now c.clear_group.new.core c.args.vol) none_missing none_missing 0 0 c.args.logs.now c.keep_fallen.new.logs (λ p is. fell_some c.args.core.now c.clear_group.new.core c.args.vol c.actives-was.result c.actives-was.ensures.some p (fell_same c.keep_fallen.new.core c.clear_group.new.core c.args.vol c.actives-was.result c.clear_group.ensures.still p ∙ is)) (λ p is. is) c.keep_fallen.ensures.notes)
    (but_note (fell_in c.args.core.now c.clear_group.new.core c.args.vol) none_missing 0 0 c.keep_fallen.new.logs c.clear_group.new.logs c.clear_group.ensures.stay)

pub returns-in-Ok-clear_group-clause-drops : goal.returns-in-Ok-clear_group-clause-drops
returns-in-Ok-clear_group-clause-drops g c = drop_then (wide c.args.core.now).config (wide c.keep_fallen.new.core).config c.args.vol c.args.logs.now c.keep_fallen.new.logs c.clear_group.new.logs (g.S.Shelf.meaning c.args.shelf.now) (g.S.Shelf.meaning c.keep_fallen.new.shelf) (g.S.Shelf.meaning c.clear_group.new.shelf) (λ log. c.keep_fallen.ensures.narrow.shape.logs c.args.vol log ∙ c.flush_group.ensures.acts.shape.logs c.args.vol log) (then_along c.args.core.now.inner.config c.flush_group.new.core.inner.config c.keep_fallen.new.core.inner.config (g.S.Shelf.meaning c.args.shelf.now) (g.S.Shelf.meaning c.flush_group.new.shelf) (g.S.Shelf.meaning c.keep_fallen.new.shelf) (record { loses = c.flush_group.ensures.loses; rises = c.flush_group.ensures.acts.acts.faults }) c.keep_fallen.ensures.loses).rises c.clear_group.ensures.loses.rises c.clear_group.ensures.goes.falls
    (drop_behind (wide c.args.core.now).config (wide c.flush_group.new.core).config c.args.vol c.args.logs.now c.keep_fallen.new.logs (g.S.Shelf.meaning c.args.shelf.now) (g.S.Shelf.meaning c.flush_group.new.shelf) (g.S.Shelf.meaning c.keep_fallen.new.shelf) (c.flush_group.ensures.acts.shape.logs c.args.vol) c.flush_group.ensures.acts.acts.faults c.keep_fallen.ensures.drops) c.clear_group.ensures.drops

pub returns-in-Ok-clear_group-clause-trusts : goal.returns-in-Ok-clear_group-clause-trusts
returns-in-Ok-clear_group-clause-trusts g c = trusts_then c.args.vol c.clear_group.new.logs c.args.core.now.inner.config c.keep_fallen.new.core.inner.config c.clear_group.new.core.inner.config (trusts_less c.args.vol c.keep_fallen.new.logs c.clear_group.new.logs c.args.core.now.inner.config c.keep_fallen.new.core.inner.config c.clear_group.ensures.drops.none (trusts_then c.args.vol c.keep_fallen.new.logs c.args.core.now.inner.config c.flush_group.new.core.inner.config c.keep_fallen.new.core.inner.config (trusts_in c.args.vol c.keep_fallen.new.logs c.args.core.now.inner.config c.flush_group.new.core.inner.config c.flush_group.ensures.logs) c.keep_fallen.ensures.trusts)) c.clear_group.ensures.trusts

pub returns-in-Ok-clear_group-clause-finds : goal.returns-in-Ok-clear_group-clause-finds
returns-in-Ok-clear_group-clause-finds g c = then_group c.args.core.now c.keep_fallen.new.core c.clear_group.new.core (g.S.Shelf.meaning c.args.shelf.now) (g.S.Shelf.meaning c.keep_fallen.new.shelf) (g.S.Shelf.meaning c.clear_group.new.shelf)
    (then_group c.args.core.now c.flush_group.new.core c.keep_fallen.new.core (g.S.Shelf.meaning c.args.shelf.now) (g.S.Shelf.meaning c.flush_group.new.shelf) (g.S.Shelf.meaning c.keep_fallen.new.shelf) c.flush_group.ensures.finds c.keep_fallen.ensures.finds) c.clear_group.ensures.finds

pub returns-in-Err-clear_group-clause-goes : goal.returns-in-Err-clear_group-clause-goes
returns-in-Err-clear_group-clause-goes g c = then_nothing Nothing (inner_meaning (wide c.args.core.now) (g.S.Shelf.meaning c.args.shelf.now)) (inner_meaning (wide c.keep_fallen.new.core) (g.S.Shelf.meaning c.keep_fallen.new.shelf)) (inner_meaning (wide c.clear_group.new.core) (g.S.Shelf.meaning c.clear_group.new.shelf)) (then_nothing Nothing (inner_meaning (wide c.args.core.now) (g.S.Shelf.meaning c.args.shelf.now)) (inner_meaning (wide c.flush_group.new.core) (g.S.Shelf.meaning c.flush_group.new.shelf)) (inner_meaning (wide c.keep_fallen.new.core) (g.S.Shelf.meaning c.keep_fallen.new.shelf)) c.flush_group.ensures.goes c.keep_fallen.ensures.goes) c.clear_group.ensures.goes

pub returns-in-Err-clear_group-clause-loses : goal.returns-in-Err-clear_group-clause-loses
returns-in-Err-clear_group-clause-loses g c = then_along c.args.core.now.inner.config c.keep_fallen.new.core.inner.config c.clear_group.new.core.inner.config (g.S.Shelf.meaning c.args.shelf.now) (g.S.Shelf.meaning c.keep_fallen.new.shelf) (g.S.Shelf.meaning c.clear_group.new.shelf)
    (then_along c.args.core.now.inner.config c.flush_group.new.core.inner.config c.keep_fallen.new.core.inner.config (g.S.Shelf.meaning c.args.shelf.now) (g.S.Shelf.meaning c.flush_group.new.shelf) (g.S.Shelf.meaning c.keep_fallen.new.shelf) (record { loses = c.flush_group.ensures.loses; rises = c.flush_group.ensures.acts.acts.faults }) c.keep_fallen.ensures.loses) c.clear_group.ensures.loses

pub returns-in-Err-clear_group-clause-log : goal.returns-in-Err-clear_group-clause-log
returns-in-Err-clear_group-clause-log g c = λ on. c.clear_group.ensures.log

pub returns-in-Err-clear_group-clause-others : goal.returns-in-Err-clear_group-clause-others
returns-in-Err-clear_group-clause-others g c = others_then c.args.vol c.args.core.now c.keep_fallen.new.core c.clear_group.new.core (g.S.Shelf.meaning c.args.shelf.now) (g.S.Shelf.meaning c.keep_fallen.new.shelf) (g.S.Shelf.meaning c.clear_group.new.shelf) (others_then c.args.vol c.args.core.now c.flush_group.new.core c.keep_fallen.new.core (g.S.Shelf.meaning c.args.shelf.now) (g.S.Shelf.meaning c.flush_group.new.shelf) (g.S.Shelf.meaning c.keep_fallen.new.shelf) (others_each c.args.vol c.args.core.now c.flush_group.new.core (g.S.Shelf.meaning c.args.shelf.now) (g.S.Shelf.meaning c.flush_group.new.shelf) (each_on c.args.core.now c.flush_group.new.core (g.S.Shelf.meaning c.args.shelf.now) (g.S.Shelf.meaning c.flush_group.new.shelf) c.requires.stands c.flush_group.ensures.acts)) c.keep_fallen.ensures.others) c.clear_group.ensures.others

pub returns-in-Err-clear_group-clause-fewer : goal.returns-in-Err-clear_group-clause-fewer
returns-in-Err-clear_group-clause-fewer g c = fewer_before _ _ c.args.logs.now c.keep_fallen.new.logs c.clear_group.new.logs (ap regions_in (c.keep_fallen.ensures.goes.size c.args.vol ∙ c.flush_group.ensures.goes.size c.args.vol)) c.keep_fallen.ensures.drl c.clear_group.ensures.fewer

pub returns-in-Err-clear_group-clause-maps : goal.returns-in-Err-clear_group-clause-maps
returns-in-Err-clear_group-clause-maps g c = λ know. c.clear_group.ensures.maps (c.keep_fallen.ensures.maps ((each_on c.args.core.now c.flush_group.new.core (g.S.Shelf.meaning c.args.shelf.now) (g.S.Shelf.meaning c.flush_group.new.shelf) c.requires.stands c.flush_group.ensures.acts).maps c.args.vol none_spared c.args.logs.now know))

pub returns-in-Err-clear_group-clause-notes : goal.returns-in-Err-clear_group-clause-notes
returns-in-Err-clear_group-clause-notes g c = but_then (fell_in c.args.core.now c.clear_group.new.core c.args.vol) none_missing 0 0 c.args.logs.now c.keep_fallen.new.logs c.clear_group.new.logs
    (but_more (fell_now c.actives-was.result c.keep_fallen.new.core c.args.vol) (fell_in c.args.core.now c.clear_group.new.core c.args.vol) none_missing none_missing 0 0 c.args.logs.now c.keep_fallen.new.logs (λ p is. fell_some c.args.core.now c.clear_group.new.core c.args.vol c.actives-was.result c.actives-was.ensures.some p (fell_same c.keep_fallen.new.core c.clear_group.new.core c.args.vol c.actives-was.result c.clear_group.ensures.still p ∙ is)) (λ p is. is) c.keep_fallen.ensures.notes)
    (but_note (fell_in c.args.core.now c.clear_group.new.core c.args.vol) none_missing 0 0 c.keep_fallen.new.logs c.clear_group.new.logs c.clear_group.ensures.stay)

pub returns-in-Err-clear_group-clause-drops : goal.returns-in-Err-clear_group-clause-drops
returns-in-Err-clear_group-clause-drops g c = drop_then (wide c.args.core.now).config (wide c.keep_fallen.new.core).config c.args.vol c.args.logs.now c.keep_fallen.new.logs c.clear_group.new.logs (g.S.Shelf.meaning c.args.shelf.now) (g.S.Shelf.meaning c.keep_fallen.new.shelf) (g.S.Shelf.meaning c.clear_group.new.shelf) (λ log. c.keep_fallen.ensures.narrow.shape.logs c.args.vol log ∙ c.flush_group.ensures.acts.shape.logs c.args.vol log) (then_along c.args.core.now.inner.config c.flush_group.new.core.inner.config c.keep_fallen.new.core.inner.config (g.S.Shelf.meaning c.args.shelf.now) (g.S.Shelf.meaning c.flush_group.new.shelf) (g.S.Shelf.meaning c.keep_fallen.new.shelf) (record { loses = c.flush_group.ensures.loses; rises = c.flush_group.ensures.acts.acts.faults }) c.keep_fallen.ensures.loses).rises c.clear_group.ensures.loses.rises c.clear_group.ensures.goes.falls
    (drop_behind (wide c.args.core.now).config (wide c.flush_group.new.core).config c.args.vol c.args.logs.now c.keep_fallen.new.logs (g.S.Shelf.meaning c.args.shelf.now) (g.S.Shelf.meaning c.flush_group.new.shelf) (g.S.Shelf.meaning c.keep_fallen.new.shelf) (c.flush_group.ensures.acts.shape.logs c.args.vol) c.flush_group.ensures.acts.acts.faults c.keep_fallen.ensures.drops) c.clear_group.ensures.drops

pub returns-in-Err-clear_group-clause-trusts : goal.returns-in-Err-clear_group-clause-trusts
returns-in-Err-clear_group-clause-trusts g c = trusts_then c.args.vol c.clear_group.new.logs c.args.core.now.inner.config c.keep_fallen.new.core.inner.config c.clear_group.new.core.inner.config (trusts_less c.args.vol c.keep_fallen.new.logs c.clear_group.new.logs c.args.core.now.inner.config c.keep_fallen.new.core.inner.config c.clear_group.ensures.drops.none (trusts_then c.args.vol c.keep_fallen.new.logs c.args.core.now.inner.config c.flush_group.new.core.inner.config c.keep_fallen.new.core.inner.config (trusts_in c.args.vol c.keep_fallen.new.logs c.args.core.now.inner.config c.flush_group.new.core.inner.config c.flush_group.ensures.logs) c.keep_fallen.ensures.trusts)) c.clear_group.ensures.trusts

pub returns-in-Err-clear_group-clause-finds : goal.returns-in-Err-clear_group-clause-finds
returns-in-Err-clear_group-clause-finds g c = then_group c.args.core.now c.keep_fallen.new.core c.clear_group.new.core (g.S.Shelf.meaning c.args.shelf.now) (g.S.Shelf.meaning c.keep_fallen.new.shelf) (g.S.Shelf.meaning c.clear_group.new.shelf)
    (then_group c.args.core.now c.flush_group.new.core c.keep_fallen.new.core (g.S.Shelf.meaning c.args.shelf.now) (g.S.Shelf.meaning c.flush_group.new.shelf) (g.S.Shelf.meaning c.keep_fallen.new.shelf) c.flush_group.ensures.finds c.keep_fallen.ensures.finds) c.clear_group.ensures.finds

pub returns-in-Ok-clear_group-clause-begins : goal.returns-in-Ok-clear_group-clause-begins
returns-in-Ok-clear_group-clause-begins g c = λ is. inl (off_less (fell_in c.args.core.now c.clear_group.new.core c.args.vol) (fell_now c.actives-was.result c.keep_fallen.new.core c.args.vol) c.clear_group.new.logs
    (λ p on. sym (fell_same c.keep_fallen.new.core c.clear_group.new.core c.args.vol c.actives-was.result c.clear_group.ensures.still p) ∙ fell_all c.args.core.now c.clear_group.new.core c.args.vol c.actives-was.result (λ q is_on. c.actives-was.ensures.all q (active_few c.args.core.now.inner.config (narrow_sound c.args.core.now (g.S.Shelf.meaning c.args.shelf.now) c.requires.stands) c.args.vol q is_on) is_on) p on)
    (off_stay (fell_now c.actives-was.result c.keep_fallen.new.core c.args.vol) c.keep_fallen.new.logs c.clear_group.new.logs (c.in-Ok-keep_fallen.ensures.begins c.if-not-done.false) c.clear_group.ensures.stay))

pub returns-in-Err-clear_group-clause-begins : goal.returns-in-Err-clear_group-clause-begins
returns-in-Err-clear_group-clause-begins g c = λ is. tt

pub returns-in-Ok-clear_group-clause-ok : goal.returns-in-Ok-clear_group-clause-ok
returns-in-Ok-clear_group-clause-ok g c = flushed_then c.args.vol (inner_meaning (wide c.args.core.now) (g.S.Shelf.meaning c.args.shelf.now)) (inner_meaning (wide c.keep_fallen.new.core) (g.S.Shelf.meaning c.keep_fallen.new.shelf)) (inner_meaning (wide c.clear_group.new.core) (g.S.Shelf.meaning c.clear_group.new.shelf)) (flushed_then c.args.vol (inner_meaning (wide c.args.core.now) (g.S.Shelf.meaning c.args.shelf.now)) (inner_meaning (wide c.flush_group.new.core) (g.S.Shelf.meaning c.flush_group.new.shelf)) (inner_meaning (wide c.keep_fallen.new.core) (g.S.Shelf.meaning c.keep_fallen.new.shelf)) c.in-Ok.ensures.ok c.keep_fallen.ensures.goes) c.clear_group.ensures.goes

pub returns-in-Ok-clear_group-clause-trust : goal.returns-in-Ok-clear_group-clause-trust
returns-in-Ok-clear_group-clause-trust g c = λ is. c.in-Ok-clear_group.ensures.trust (c.in-Ok-keep_fallen.ensures.trust (c.in-Ok.ensures.trust is))

pub returns-in-Err-clear_group-clause-agreed : goal.returns-in-Err-clear_group-clause-agreed
returns-in-Err-clear_group-clause-agreed g c = λ is. c.in-Err-clear_group.ensures.agreed (c.in-Ok-keep_fallen.ensures.trust (c.in-Ok.ensures.trust is))

pub returns-in-Ok-clear_group-clause-cause : goal.returns-in-Ok-clear_group-clause-cause
returns-in-Ok-clear_group-clause-cause g c = record { before = c.in-Ok.ensures.cause.before; after = c.in-Ok-clear_group.ensures.cause.after }

pub returns-in-Err-clear_group-clause-cause : goal.returns-in-Err-clear_group-clause-cause
returns-in-Err-clear_group-clause-cause g c = Cause_both {T = Unit {0}} (inner_meaning (wide c.args.core.now) (g.S.Shelf.meaning c.args.shelf.now)) (inner_meaning (wide c.keep_fallen.new.core) (g.S.Shelf.meaning c.keep_fallen.new.shelf)) (inner_meaning (wide c.clear_group.new.core) (g.S.Shelf.meaning c.clear_group.new.shelf)) c.args.vol (Err c.in-Err-clear_group.error) (record { before = c.in-Ok.ensures.cause.before; after = c.in-Ok-keep_fallen.ensures.cause.after }) (then_nothing Nothing (inner_meaning (wide c.args.core.now) (g.S.Shelf.meaning c.args.shelf.now)) (inner_meaning (wide c.flush_group.new.core) (g.S.Shelf.meaning c.flush_group.new.shelf)) (inner_meaning (wide c.keep_fallen.new.core) (g.S.Shelf.meaning c.keep_fallen.new.shelf)) c.flush_group.ensures.goes c.keep_fallen.ensures.goes).faults (then_nothing Nothing (inner_meaning (wide c.args.core.now) (g.S.Shelf.meaning c.args.shelf.now)) (inner_meaning (wide c.flush_group.new.core) (g.S.Shelf.meaning c.flush_group.new.shelf)) (inner_meaning (wide c.keep_fallen.new.core) (g.S.Shelf.meaning c.keep_fallen.new.shelf)) c.flush_group.ensures.goes c.keep_fallen.ensures.goes).disk_faults
    (cause_to Bool (Unit {0}) c.args.vol c.in-Err-clear_group.error (inner_meaning (wide c.keep_fallen.new.core) (g.S.Shelf.meaning c.keep_fallen.new.shelf)) (inner_meaning (wide c.clear_group.new.core) (g.S.Shelf.meaning c.clear_group.new.shelf)) c.in-Err-clear_group.ensures.cause)

pub returns-in-Err-clause-narrow : goal.returns-in-Err-clause-narrow
returns-in-Err-clause-narrow g c = narrowed_acts Nothing c.args.core.now c.flush_group.new.core (g.S.Shelf.meaning c.args.shelf.now) (g.S.Shelf.meaning c.flush_group.new.shelf) c.flush_group.ensures.acts

pub returns-then-not-sure-clause-narrow : goal.returns-then-not-sure-clause-narrow
returns-then-not-sure-clause-narrow g c = narrowed_acts Nothing c.args.core.now c.flush_group.new.core (g.S.Shelf.meaning c.args.shelf.now) (g.S.Shelf.meaning c.flush_group.new.shelf) c.flush_group.ensures.acts

pub returns-in-Err-keep_fallen-clause-narrow : goal.returns-in-Err-keep_fallen-clause-narrow
returns-in-Err-keep_fallen-clause-narrow g c = narrowed_then c.args.core.now c.flush_group.new.core c.keep_fallen.new.core (narrowed_acts Nothing c.args.core.now c.flush_group.new.core (g.S.Shelf.meaning c.args.shelf.now) (g.S.Shelf.meaning c.flush_group.new.shelf) c.flush_group.ensures.acts) c.keep_fallen.ensures.narrow

pub returns-then-not-done-clause-narrow : goal.returns-then-not-done-clause-narrow
returns-then-not-done-clause-narrow g c = narrowed_then c.args.core.now c.flush_group.new.core c.keep_fallen.new.core (narrowed_acts Nothing c.args.core.now c.flush_group.new.core (g.S.Shelf.meaning c.args.shelf.now) (g.S.Shelf.meaning c.flush_group.new.shelf) c.flush_group.ensures.acts) c.keep_fallen.ensures.narrow

pub returns-in-Ok-clear_group-clause-narrow : goal.returns-in-Ok-clear_group-clause-narrow
returns-in-Ok-clear_group-clause-narrow g c = narrowed_then c.args.core.now c.keep_fallen.new.core c.clear_group.new.core (narrowed_then c.args.core.now c.flush_group.new.core c.keep_fallen.new.core (narrowed_acts Nothing c.args.core.now c.flush_group.new.core (g.S.Shelf.meaning c.args.shelf.now) (g.S.Shelf.meaning c.flush_group.new.shelf) c.flush_group.ensures.acts) c.keep_fallen.ensures.narrow) c.clear_group.ensures.narrow

pub returns-in-Err-clear_group-clause-narrow : goal.returns-in-Err-clear_group-clause-narrow
returns-in-Err-clear_group-clause-narrow g c = narrowed_then c.args.core.now c.keep_fallen.new.core c.clear_group.new.core (narrowed_then c.args.core.now c.flush_group.new.core c.keep_fallen.new.core (narrowed_acts Nothing c.args.core.now c.flush_group.new.core (g.S.Shelf.meaning c.args.shelf.now) (g.S.Shelf.meaning c.flush_group.new.shelf) c.flush_group.ensures.acts) c.keep_fallen.ensures.narrow) c.clear_group.ensures.narrow

pub returns-in-Err-clause-left : goal.returns-in-Err-clause-left
returns-in-Err-clause-left g c = λ is. gave_off c.args.vol c.args.core.now c.flush_group.new.core (inner_meaning (wide c.args.core.now) (g.S.Shelf.meaning c.args.shelf.now)) (inner_meaning (wide c.flush_group.new.core) (g.S.Shelf.meaning c.flush_group.new.shelf)) (g.S.Shelf.meaning c.args.shelf.now) (g.S.Shelf.meaning c.flush_group.new.shelf) c.args.logs.now c.in-Err.error c.in-Err.ensures.gave_up c.in-Err.ensures.cause

pub returns-then-not-sure-clause-left : goal.returns-then-not-sure-clause-left
returns-then-not-sure-clause-left g c = λ is. tt

pub returns-in-Err-keep_fallen-clause-left : goal.returns-in-Err-keep_fallen-clause-left
returns-in-Err-keep_fallen-clause-left g c = λ is. elim (cases_lt c.args.core.now.inner.config.serial greatest) [
  | inl less ↦ elim (c.in-Err-keep_fallen.ensures.left (c.in-Ok.ensures.clear less)) [
    | inl down ↦ inl down
    | inr off ↦ inr (off_less (fell_in c.args.core.now c.keep_fallen.new.core c.args.vol) (fell_now c.actives-was.result c.keep_fallen.new.core c.args.vol) c.keep_fallen.new.logs
        (fell_all c.args.core.now c.keep_fallen.new.core c.args.vol c.actives-was.result (λ q is_on. c.actives-was.ensures.all q (active_few c.args.core.now.inner.config (narrow_sound c.args.core.now (g.S.Shelf.meaning c.args.shelf.now) c.requires.stands) c.args.vol q is_on) is_on)) off)
  ]
  | inr full ↦ inr (still_off c.args.core.now c.keep_fallen.new.core c.args.vol c.keep_fallen.new.logs (λ p. c.keep_fallen.ensures.still c.args.vol p ∙ active_volumes c.flush_group.new.core.inner.config c.args.core.now.inner.config (c.in-Ok.ensures.full full) c.args.vol p))
]

pub returns-then-not-done-clause-left : goal.returns-then-not-done-clause-left
returns-then-not-done-clause-left g c = λ is. tt

pub returns-in-Ok-clear_group-clause-left : goal.returns-in-Ok-clear_group-clause-left
returns-in-Ok-clear_group-clause-left g c = λ is. tt

pub returns-in-Err-clear_group-clause-left : goal.returns-in-Err-clear_group-clause-left
returns-in-Err-clear_group-clause-left g c = λ is. inr (off_less (fell_in c.args.core.now c.clear_group.new.core c.args.vol) (fell_now c.actives-was.result c.keep_fallen.new.core c.args.vol) c.clear_group.new.logs
    (λ p on. sym (fell_same c.keep_fallen.new.core c.clear_group.new.core c.args.vol c.actives-was.result c.clear_group.ensures.still p) ∙ fell_all c.args.core.now c.clear_group.new.core c.args.vol c.actives-was.result (λ q is_on. c.actives-was.ensures.all q (active_few c.args.core.now.inner.config (narrow_sound c.args.core.now (g.S.Shelf.meaning c.args.shelf.now) c.requires.stands) c.args.vol q is_on) is_on) p on)
    (off_stay (fell_now c.actives-was.result c.keep_fallen.new.core c.args.vol) c.keep_fallen.new.logs c.clear_group.new.logs (c.in-Ok-keep_fallen.ensures.begins c.if-not-done.false) c.clear_group.ensures.stay))

pub returns-in-Err-clause-kept : goal.returns-in-Err-clause-kept
returns-in-Err-clause-kept g c = λ was. tt

pub returns-in-Err-clause-said : goal.returns-in-Err-clause-said
returns-in-Err-clause-said g c = λ is some. tt

pub returns-then-not-sure-clause-kept : goal.returns-then-not-sure-clause-kept
returns-then-not-sure-clause-kept g c = λ was. both_kept c.flush_group.new.core c.args.vol c.args.logs.now (both_later c.args.core.now c.flush_group.new.core c.args.vol c.args.logs.now (narrowed_acts Nothing c.args.core.now c.flush_group.new.core (g.S.Shelf.meaning c.args.shelf.now) (g.S.Shelf.meaning c.flush_group.new.shelf) c.flush_group.ensures.acts) was)

pub returns-then-not-sure-clause-said : goal.returns-then-not-sure-clause-said
returns-then-not-sure-clause-said g c = λ is some. absurd (let clash : false ≡ true = sym c.if-not-sure.true ∙ is in cc)

pub returns-in-Err-keep_fallen-clause-kept : goal.returns-in-Err-keep_fallen-clause-kept
returns-in-Err-keep_fallen-clause-kept g c = λ was. tt

pub returns-in-Err-keep_fallen-clause-said : goal.returns-in-Err-keep_fallen-clause-said
returns-in-Err-keep_fallen-clause-said g c = λ is some. tt

pub returns-then-not-done-clause-kept : goal.returns-then-not-done-clause-kept
returns-then-not-done-clause-kept g c = λ was. record { so = inr (c.in-Ok-keep_fallen.ensures.spent c.if-not-done.true) }

pub returns-then-not-done-clause-said : goal.returns-then-not-done-clause-said
returns-then-not-done-clause-said g c = λ is some. record { so = inr (c.in-Ok-keep_fallen.ensures.spent c.if-not-done.true) }

pub returns-in-Ok-clear_group-clause-kept : goal.returns-in-Ok-clear_group-clause-kept
returns-in-Ok-clear_group-clause-kept g c = λ was. kept_by c.clear_group.new.core c.args.vol c.clear_group.new.logs c.in-Ok-clear_group.field-0
    (c.in-Ok-clear_group.ensures.kept (log_later c.args.core.now c.keep_fallen.new.core c.args.vol c.args.logs.now c.keep_fallen.new.logs (narrowed_then c.args.core.now c.flush_group.new.core c.keep_fallen.new.core (narrowed_acts Nothing c.args.core.now c.flush_group.new.core (g.S.Shelf.meaning c.args.shelf.now) (g.S.Shelf.meaning c.flush_group.new.shelf) c.flush_group.ensures.acts) c.keep_fallen.ensures.narrow) c.keep_fallen.ensures.drl was.drl))
    (map_later c.keep_fallen.new.core c.clear_group.new.core c.args.vol c.keep_fallen.new.logs c.clear_group.new.logs c.clear_group.ensures.narrow c.in-Ok-clear_group.ensures.same (c.in-Ok-keep_fallen.ensures.kept (map_later c.args.core.now c.flush_group.new.core c.args.vol c.args.logs.now c.args.logs.now (narrowed_acts Nothing c.args.core.now c.flush_group.new.core (g.S.Shelf.meaning c.args.shelf.now) (g.S.Shelf.meaning c.flush_group.new.shelf) c.flush_group.ensures.acts) refl was.fmr) c.if-not-done.false))
    c.in-Ok-clear_group.ensures.spent

pub returns-in-Ok-clear_group-clause-said : goal.returns-in-Ok-clear_group-clause-said
returns-in-Ok-clear_group-clause-said g c = λ is some.
    let flushed : 0 < blocks_of (wide c.flush_group.new.core).config.volumes c.args.vol = (let same = c.flush_group.ensures.goes.size c.args.vol in omega (arith, some, same)) in
    let fallen : 0 < blocks_of (wide c.keep_fallen.new.core).config.volumes c.args.vol = (let same = c.keep_fallen.ensures.goes.size c.args.vol in omega (arith, flushed, same)) in
    kept_by c.clear_group.new.core c.args.vol c.clear_group.new.logs c.in-Ok-clear_group.field-0
    (c.in-Ok-clear_group.ensures.said fallen)
    (map_later c.keep_fallen.new.core c.clear_group.new.core c.args.vol c.keep_fallen.new.logs c.clear_group.new.logs c.clear_group.ensures.narrow c.in-Ok-clear_group.ensures.same (c.in-Ok-keep_fallen.ensures.said flushed c.if-not-done.false))
    c.in-Ok-clear_group.ensures.spent

pub returns-in-Err-clear_group-clause-kept : goal.returns-in-Err-clear_group-clause-kept
returns-in-Err-clear_group-clause-kept g c = λ was. tt

pub returns-in-Err-clear_group-clause-said : goal.returns-in-Err-clear_group-clause-said
returns-in-Err-clear_group-clause-said g c = λ is some. tt

pub returns-in-Err-clause-marks : goal.returns-in-Err-clause-marks
returns-in-Err-clause-marks g c = c.in-Err.ensures.marks

pub returns-in-Err-clause-gives_up : goal.returns-in-Err-clause-gives_up
returns-in-Err-clause-gives_up g c = gives_faults {T = Unit {0}} c.args.vol c.args.core.now.inner c.flush_group.new.core.inner (g.S.Shelf.meaning c.args.shelf.now) (g.S.Shelf.meaning c.flush_group.new.shelf) (Err c.in-Err.error) c.in-Err.ensures.gave_up

pub returns-then-not-sure-clause-marks : goal.returns-then-not-sure-clause-marks
returns-then-not-sure-clause-marks g c = c.in-Ok.ensures.marks

pub returns-then-not-sure-clause-gives_up : goal.returns-then-not-sure-clause-gives_up
returns-then-not-sure-clause-gives_up g c = tt

pub returns-in-Err-keep_fallen-clause-marks : goal.returns-in-Err-keep_fallen-clause-marks
returns-in-Err-keep_fallen-clause-marks g c = unsure_then c.args.vol c.args.core.now.inner.unsure c.flush_group.new.core.inner.unsure c.keep_fallen.new.core.inner.unsure c.in-Err-keep_fallen.refused c.in-Ok.ensures.marks c.in-Err-keep_fallen.ensures.marks

pub returns-in-Err-keep_fallen-clause-gives_up : goal.returns-in-Err-keep_fallen-clause-gives_up
returns-in-Err-keep_fallen-clause-gives_up g c = misses_faults Bool c.args.vol c.args.core.now.inner.config c.keep_fallen.new.core.inner (g.S.Shelf.meaning c.args.shelf.now) (g.S.Shelf.meaning c.keep_fallen.new.shelf) c.in-Err-keep_fallen.refused c.in-Err-keep_fallen.ensures.misses

pub returns-then-not-done-clause-marks : goal.returns-then-not-done-clause-marks
returns-then-not-done-clause-marks g c = c.in-Ok-keep_fallen.ensures.marks ∙ c.in-Ok.ensures.marks

pub returns-then-not-done-clause-gives_up : goal.returns-then-not-done-clause-gives_up
returns-then-not-done-clause-gives_up g c = tt

pub returns-in-Ok-clear_group-clause-marks : goal.returns-in-Ok-clear_group-clause-marks
returns-in-Ok-clear_group-clause-marks g c = c.in-Ok-clear_group.ensures.marks ∙ (c.in-Ok-keep_fallen.ensures.marks ∙ c.in-Ok.ensures.marks)

pub returns-in-Ok-clear_group-clause-gives_up : goal.returns-in-Ok-clear_group-clause-gives_up
returns-in-Ok-clear_group-clause-gives_up g c = tt

pub returns-in-Err-clear_group-clause-marks : goal.returns-in-Err-clear_group-clause-marks
returns-in-Err-clear_group-clause-marks g c = unsure_then c.args.vol c.args.core.now.inner.unsure c.keep_fallen.new.core.inner.unsure c.clear_group.new.core.inner.unsure c.in-Err-clear_group.error (c.in-Ok-keep_fallen.ensures.marks ∙ c.in-Ok.ensures.marks) c.in-Err-clear_group.ensures.marks

pub returns-in-Err-clear_group-clause-gives_up : goal.returns-in-Err-clear_group-clause-gives_up
returns-in-Err-clear_group-clause-gives_up g c = misses_faults Bool c.args.vol c.args.core.now.inner.config c.clear_group.new.core.inner (g.S.Shelf.meaning c.args.shelf.now) (g.S.Shelf.meaning c.clear_group.new.shelf) c.in-Err-clear_group.error c.in-Err-clear_group.ensures.misses

pub returns-in-Err-clause-stands : goal.returns-in-Err-clause-stands
returns-in-Err-clause-stands g c = c.flush_group.ensures.stands

pub returns-in-Err-clause-goes : goal.returns-in-Err-clause-goes
returns-in-Err-clause-goes g c = c.flush_group.ensures.goes

pub returns-in-Err-clause-ok : goal.returns-in-Err-clause-ok
returns-in-Err-clause-ok g c = tt

pub returns-in-Err-clause-trust : goal.returns-in-Err-clause-trust
returns-in-Err-clause-trust g c = tt

pub returns-in-Err-clause-agreed : goal.returns-in-Err-clause-agreed
returns-in-Err-clause-agreed g c = c.in-Err.ensures.agreed

pub returns-in-Err-clause-cause : goal.returns-in-Err-clause-cause
returns-in-Err-clause-cause g c = c.in-Err.ensures.cause

pub returns-then-not-sure-clause-stands : goal.returns-then-not-sure-clause-stands
returns-then-not-sure-clause-stands g c = c.flush_group.ensures.stands

pub returns-then-not-sure-clause-goes : goal.returns-then-not-sure-clause-goes
returns-then-not-sure-clause-goes g c = c.flush_group.ensures.goes

pub returns-then-not-sure-clause-ok : goal.returns-then-not-sure-clause-ok
returns-then-not-sure-clause-ok g c = c.in-Ok.ensures.ok

pub returns-then-not-sure-clause-trust : goal.returns-then-not-sure-clause-trust
returns-then-not-sure-clause-trust g c = c.in-Ok.ensures.trust

pub returns-then-not-sure-clause-agreed : goal.returns-then-not-sure-clause-agreed
returns-then-not-sure-clause-agreed g c = tt

pub returns-then-not-sure-clause-cause : goal.returns-then-not-sure-clause-cause
returns-then-not-sure-clause-cause g c = c.in-Ok.ensures.cause

pub returns-in-Err-clear_group-clause-stands : goal.returns-in-Err-clear_group-clause-stands
returns-in-Err-clear_group-clause-stands g c = c.clear_group.ensures.stands

pub returns-in-Ok-clear_group-clause-stands : goal.returns-in-Ok-clear_group-clause-stands
returns-in-Ok-clear_group-clause-stands g c = c.clear_group.ensures.stands

pub returns-in-Err-keep_fallen-clause-stands : goal.returns-in-Err-keep_fallen-clause-stands
returns-in-Err-keep_fallen-clause-stands g c = c.keep_fallen.ensures.stands

pub returns-then-not-done-clause-stands : goal.returns-then-not-done-clause-stands
returns-then-not-done-clause-stands g c = c.keep_fallen.ensures.stands

pub returns-in-Err-clear_group-clause-ok : goal.returns-in-Err-clear_group-clause-ok
returns-in-Err-clear_group-clause-ok g c = tt

pub returns-in-Err-clear_group-clause-trust : goal.returns-in-Err-clear_group-clause-trust
returns-in-Err-clear_group-clause-trust g c = tt

pub returns-in-Err-keep_fallen-clause-ok : goal.returns-in-Err-keep_fallen-clause-ok
returns-in-Err-keep_fallen-clause-ok g c = tt

pub returns-in-Err-keep_fallen-clause-trust : goal.returns-in-Err-keep_fallen-clause-trust
returns-in-Err-keep_fallen-clause-trust g c = tt

pub returns-in-Ok-clear_group-clause-agreed : goal.returns-in-Ok-clear_group-clause-agreed
returns-in-Ok-clear_group-clause-agreed g c = tt

pub returns-then-not-done-clause-agreed : goal.returns-then-not-done-clause-agreed
returns-then-not-done-clause-agreed g c = tt
