-- `miss_refused`: where logs are stopped nothing is noted.
use Rattle.std.proofs.Common.{◌≡◌, ◌∙◌, inl, inr, true, false, refl, sym, arith}
use Rattle.vx_disk.specs.Shelf.{Nothing, Or}
use Rattle.vx_disk.proofs.Runs.{both_Goes, none_written, then_nothing, weaker}
use Rattle.vx_group.specs.Holding.{wide}
use Rattle.vx_group.specs.Stands.{inner_meaning}
use Rattle.vx_group.proofs.MendLemmas.{same_Goes}
use Rattle.vx_grouplogs.proofs.GoneLemmas.{drop_then}
use Rattle.vx_groupmaps.specs.Missing.{OnMaps, none_spared, or_run}
use Rattle.vx_groupmaps.proofs.KnowLemmas.{note_same, plex_below}
use Rattle.vx_logs.specs.Writes.{first_region, last_region}
use Rattle.vx_logged.specs.Begun.{but_run, if_sure, was_on}
use Rattle.vx_logged.proofs.BeginLemmas.{but_any, but_note, but_then}
use Rattle.vx_logged.proofs.EmptyLemmas.{clear_list}
use Rattle.vx_logged.proofs.FallenLemmas.{finds_both, off_run}
use Rattle.vx_logged.specs.Behind.{all_those}
use Rattle.vx_logged.proofs.StandLemmas.{each_same, others_each, others_then}
use Rattle.vx_kept.proofs.Findings.{same_from}
use Rattle.vx_kept.specs.Finds.{NoConfiguration}
use Rattle.vx_logged.proofs.refusing.miss_refused.Goals as goal

pub empty_listed-requires-clause-some : goal.empty_listed-requires-clause-some
empty_listed-requires-clause-some g c =
    omega (arith, c.requires.some, c.requires.within)

pub empty_listed-requires-clause-exists : goal.empty_listed-requires-clause-exists
empty_listed-requires-clause-exists g c =
    λ p on. plex_below (wide c.args.core.now).config c.args.vol p 0 (c.requires.has p on)

pub empty_listed-requires-clause-log : goal.empty_listed-requires-clause-log
empty_listed-requires-clause-log g c =
    c.requires.log c.if-stopped.false

pub returns-then-stopped-clause-below : goal.returns-then-stopped-clause-below
returns-then-stopped-clause-below g c = none_written (OnMaps (wide c.args.core.now).config c.args.vol) (g.S.Shelf.meaning c.args.shelf.now) (g.S.Shelf.meaning c.args.shelf.now) (same_Goes (g.S.Shelf.meaning c.args.shelf.now))

pub returns-then-stopped-clause-goes : goal.returns-then-stopped-clause-goes
returns-then-stopped-clause-goes g c = same_Goes (inner_meaning (wide c.args.core.now) (g.S.Shelf.meaning c.args.shelf.now))

pub returns-then-stopped-clause-log : goal.returns-then-stopped-clause-log
returns-then-stopped-clause-log g c = λ is. absurd (let clash : true ≡ false = sym c.if-stopped.true ∙ is in cc)

pub returns-then-stopped-clause-knows : goal.returns-then-stopped-clause-knows
returns-then-stopped-clause-knows g c = λ is. absurd (let clash : true ≡ false = sym c.if-stopped.true ∙ is in cc)

pub returns-then-stopped-clause-others : goal.returns-then-stopped-clause-others
returns-then-stopped-clause-others g c = others_each c.args.vol c.args.core.now c.args.core.now (g.S.Shelf.meaning c.args.shelf.now) (g.S.Shelf.meaning c.args.shelf.now) (each_same c.args.core.now (g.S.Shelf.meaning c.args.shelf.now))

pub returns-then-stopped-clause-notes : goal.returns-then-stopped-clause-notes
returns-then-stopped-clause-notes g c =
    but_note (if_sure c.args.sure c.args.was.now) all_those (first_region c.args.block) (last_region c.args.block c.args.count) c.args.logs.now c.args.logs.now (note_same all_those (first_region c.args.block) (last_region c.args.block c.args.count) c.args.logs.now c.args.logs.now refl)

pub returns-then-stopped-clause-begins : goal.returns-then-stopped-clause-begins
returns-then-stopped-clause-begins g c =
    λ is. absurd (let clash : true ≡ false = sym c.if-stopped.true ∙ is in cc)

pub returns-clause-log : goal.returns-clause-log
returns-clause-log g c = λ is. c.miss_all.ensures.log

pub returns-clause-knows : goal.returns-clause-knows
returns-clause-knows g c =
    λ is know. c.miss_all.ensures.knows (c.empty_listed.ensures.knows (or_run (first_region c.args.block) (last_region c.args.block c.args.count) none_spared) (but_run (was_on c.args.was.now) (first_region c.args.block) (last_region c.args.block c.args.count)) (λ p r. clear_list c.args.vol (first_region c.args.block) (last_region c.args.block c.args.count) c.args.was.now p r) (λ sure up. (c.requires.reads is sure).so up) know)

pub returns-clause-below : goal.returns-clause-below
returns-clause-below g c =
    weaker (Or (OnMaps (wide c.args.core.now).config c.args.vol) (OnMaps (wide c.args.core.now).config c.args.vol)) (OnMaps (wide c.args.core.now).config c.args.vol) (g.S.Shelf.meaning c.args.shelf.now) (g.S.Shelf.meaning c.miss_all.new.shelf) (both_Goes (OnMaps (wide c.args.core.now).config c.args.vol) (OnMaps (wide c.args.core.now).config c.args.vol) (g.S.Shelf.meaning c.args.shelf.now) (g.S.Shelf.meaning c.empty_listed.new.shelf) (g.S.Shelf.meaning c.miss_all.new.shelf) c.empty_listed.ensures.below c.miss_all.ensures.below) (λ u b x either. elim either [ inl one ↦ one | inr two ↦ two ])

pub returns-clause-goes : goal.returns-clause-goes
returns-clause-goes g c =
    then_nothing Nothing (inner_meaning (wide c.args.core.now) (g.S.Shelf.meaning c.args.shelf.now)) (inner_meaning (wide c.args.core.now) (g.S.Shelf.meaning c.empty_listed.new.shelf)) (inner_meaning (wide c.args.core.now) (g.S.Shelf.meaning c.miss_all.new.shelf)) c.empty_listed.ensures.goes c.miss_all.ensures.goes

pub returns-clause-others : goal.returns-clause-others
returns-clause-others g c =
    others_then c.args.vol c.args.core.now c.args.core.now c.args.core.now (g.S.Shelf.meaning c.args.shelf.now) (g.S.Shelf.meaning c.empty_listed.new.shelf) (g.S.Shelf.meaning c.miss_all.new.shelf) c.empty_listed.ensures.others c.miss_all.ensures.others

pub returns-clause-drl : goal.returns-clause-drl
returns-clause-drl g c =
    c.miss_all.ensures.drl ∙ c.empty_listed.ensures.drl

pub returns-clause-less : goal.returns-clause-less
returns-clause-less g c =
    finds_both (g.S.Shelf.meaning c.args.shelf.now) (g.S.Shelf.meaning c.empty_listed.new.shelf) (g.S.Shelf.meaning c.miss_all.new.shelf) c.empty_listed.ensures.less c.miss_all.ensures.less

pub returns-clause-notes : goal.returns-clause-notes
returns-clause-notes g c =
    but_then (if_sure c.args.sure c.args.was.now) all_those (first_region c.args.block) (last_region c.args.block c.args.count) c.args.logs.now c.empty_listed.new.logs c.miss_all.new.logs (but_any (if_sure c.args.sure c.args.was.now) all_those (first_region c.args.block) (last_region c.args.block c.args.count) c.args.logs.now c.empty_listed.new.logs c.empty_listed.ensures.notes) (but_note (if_sure c.args.sure c.args.was.now) all_those (first_region c.args.block) (last_region c.args.block c.args.count) c.empty_listed.new.logs c.miss_all.new.logs c.miss_all.ensures.notes)

pub returns-clause-begins : goal.returns-clause-begins
returns-clause-begins g c =
    λ is sure. off_run (was_on c.args.was.now) (was_on c.args.was.now) all_those (first_region c.args.block) (last_region c.args.block c.args.count) c.empty_listed.new.logs c.miss_all.new.logs (λ p on. on) (c.empty_listed.ensures.begins sure) c.miss_all.ensures.notes

pub returns-then-stopped-clause-less : goal.returns-then-stopped-clause-less
returns-then-stopped-clause-less g c =
    same_from NoConfiguration (g.S.Shelf.meaning c.args.shelf.now)

pub returns-then-stopped-clause-drops : goal.returns-then-stopped-clause-drops
returns-then-stopped-clause-drops g c =
    λ is. absurd (let clash : true ≡ false = sym c.if-stopped.true ∙ is in cc)

pub returns-clause-drops : goal.returns-clause-drops
returns-clause-drops g c =
    λ is. drop_then (wide c.args.core.now).config (wide c.args.core.now).config c.args.vol c.args.logs.now c.empty_listed.new.logs c.miss_all.new.logs (g.S.Shelf.meaning c.args.shelf.now) (g.S.Shelf.meaning c.empty_listed.new.shelf) (g.S.Shelf.meaning c.miss_all.new.shelf) (λ log. refl) c.empty_listed.ensures.below.faults c.miss_all.ensures.below.faults c.miss_all.ensures.below.falls c.empty_listed.ensures.drops c.miss_all.ensures.drops

pub returns-then-stopped-clause-stays : goal.returns-then-stopped-clause-stays
returns-then-stopped-clause-stays g c =
    λ is. refl

pub returns-clause-stays : goal.returns-clause-stays
returns-clause-stays g c =
    λ is. absurd (let clash : true ≡ false = sym is ∙ c.if-stopped.false in cc)
