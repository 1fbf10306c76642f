-- `empty_listed`: its clauses; what stays true in its loop over `plex`.
use Rattle.std.proofs.Common.{◌≡◌, ◌∙◌, true, false, refl, sym, arith}
use Rattle.vx_group.specs.Holding.{wide}
use Rattle.vx_group.proofs.Standing.{sound_of}
use Rattle.vx_groupmaps.proofs.KnowLemmas.{note_same}
use Rattle.vx_volume.proofs.PlaceLemmas.{count_few}
use Rattle.vx_logged.specs.Begun.{if_sure, was_on}
use Rattle.vx_logged.specs.Behind.{none_missing}
use Rattle.vx_logged.proofs.BeginLemmas.{but_more, but_note}
use Rattle.vx_logged.proofs.EmptyLemmas.{emptied_end, emptied_pass, emptied_start, emptied_then, sure_list}
use Rattle.vx_logged.proofs.emptying.empty_listed.Goals.{else-listed, then-listed}
use Rattle.vx_logged.proofs.emptying.empty_listed.Goals as goal

pub loop-plex-init : goal.loop-plex-init
loop-plex-init g c = emptied_start c.args.core.now c.args.vol c.args.was.now c.args.logs.now (g.S.Shelf.meaning c.args.shelf.now) c.requires.stands c.requires.log

pub empty_plex-requires-clause-exists : goal.empty_plex-requires-clause-exists
empty_plex-requires-clause-exists g c = c.requires.exists c.loop-plex.plex (sym c.listed.ensures ∙ c.if-listed.true)

pub loop-plex-preserved : goal.loop-plex-preserved
loop-plex-preserved g c =
    elim c.if-listed.branch [
      | then-listed w ↦
          rw (w.logs-is, w.shelf-is) (emptied_then c.args.core.now c.args.vol c.loop-plex.plex c.args.was.now c.args.logs.now c.loop-plex.logs w.empty_plex.new.logs (g.S.Shelf.meaning c.args.shelf.now) (g.S.Shelf.meaning c.loop-plex.shelf) (g.S.Shelf.meaning w.empty_plex.new.shelf) (sym c.listed.ensures ∙ w.if-listed.true) w.empty_plex.ensures.stands w.empty_plex.ensures.below w.empty_plex.ensures.goes w.empty_plex.ensures.log w.empty_plex.ensures.others w.empty_plex.ensures.drl w.empty_plex.ensures.drops w.empty_plex.ensures.less w.empty_plex.ensures.knows w.empty_plex.ensures.notes w.empty_plex.ensures.begins c.loop-plex.invariant)
      | else-listed w ↦
          rw (w.logs-is, w.shelf-is) (emptied_pass c.args.core.now c.args.vol c.loop-plex.plex c.args.was.now c.args.logs.now c.loop-plex.logs (g.S.Shelf.meaning c.args.shelf.now) (g.S.Shelf.meaning c.loop-plex.shelf) (sym c.listed.ensures ∙ w.if-listed.false) c.loop-plex.invariant)
    ]

pub returns-then-not-sure-clause-below : goal.returns-then-not-sure-clause-below
returns-then-not-sure-clause-below g c = (emptied_start c.args.core.now c.args.vol c.args.was.now c.args.logs.now (g.S.Shelf.meaning c.args.shelf.now) c.requires.stands c.requires.log).below

pub returns-then-not-sure-clause-goes : goal.returns-then-not-sure-clause-goes
returns-then-not-sure-clause-goes g c = (emptied_start c.args.core.now c.args.vol c.args.was.now c.args.logs.now (g.S.Shelf.meaning c.args.shelf.now) c.requires.stands c.requires.log).goes

pub returns-then-not-sure-clause-others : goal.returns-then-not-sure-clause-others
returns-then-not-sure-clause-others g c = (emptied_start c.args.core.now c.args.vol c.args.was.now c.args.logs.now (g.S.Shelf.meaning c.args.shelf.now) c.requires.stands c.requires.log).others

pub returns-then-not-sure-clause-drops : goal.returns-then-not-sure-clause-drops
returns-then-not-sure-clause-drops g c = (emptied_start c.args.core.now c.args.vol c.args.was.now c.args.logs.now (g.S.Shelf.meaning c.args.shelf.now) c.requires.stands c.requires.log).drops

pub returns-then-not-sure-clause-less : goal.returns-then-not-sure-clause-less
returns-then-not-sure-clause-less g c = (emptied_start c.args.core.now c.args.vol c.args.was.now c.args.logs.now (g.S.Shelf.meaning c.args.shelf.now) c.requires.stands c.requires.log).less

pub returns-then-not-sure-clause-notes : goal.returns-then-not-sure-clause-notes
returns-then-not-sure-clause-notes g c = but_note (if_sure c.args.sure c.args.was.now) none_missing 0 0 c.args.logs.now c.args.logs.now (note_same none_missing 0 0 c.args.logs.now c.args.logs.now refl)

pub returns-then-not-sure-clause-knows : goal.returns-then-not-sure-clause-knows
returns-then-not-sure-clause-knows g c = λ spare missed clear reads know. know

pub returns-then-not-sure-clause-begins : goal.returns-then-not-sure-clause-begins
returns-then-not-sure-clause-begins g c = λ is. absurd (let clash : false ≡ true = sym c.if-not-sure.true ∙ is in cc)

pub returns-clause-knows : goal.returns-clause-knows
returns-clause-knows g c = λ spare missed clear reads know. c.loop-plex.invariant.knows spare missed clear (reads c.if-not-sure.false) know

pub returns-clause-notes : goal.returns-clause-notes
returns-clause-notes g c = but_more (was_on c.args.was.now) (if_sure c.args.sure c.args.was.now) none_missing none_missing 0 0 c.args.logs.now c.loop-plex.logs (λ p on. sure_list c.args.sure c.args.was.now p c.if-not-sure.false on) (λ p on. on) c.loop-plex.invariant.notes

pub returns-clause-begins : goal.returns-clause-begins
returns-clause-begins g c = λ is. emptied_end c.args.core.now c.args.vol c.loop-plex.plex c.args.was.now c.args.logs.now c.loop-plex.logs (g.S.Shelf.meaning c.args.shelf.now) (g.S.Shelf.meaning c.loop-plex.shelf) (omega (arith, c.loop-plex-test.false))
    (λ p on. let low = c.requires.exists p on in let few = count_few (wide c.args.core.now).config (sound_of (wide c.args.core.now) (g.S.Shelf.meaning c.args.shelf.now) c.requires.stands.stands) c.args.vol in omega (arith, low, few)) c.loop-plex.invariant
