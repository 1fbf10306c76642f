-- `begin_fallen`: its clauses; what stays true in its loop over `plex`.
use Rattle.std.proofs.Common.{◌≡◌, ◌∙◌, true, false, sym, arith}
use Rattle.vx_logged.proofs.BeginLemmas.{first_flag}
use Rattle.vx_logged.proofs.FallenLemmas.{fallen_end, fallen_few, fallen_pass, fallen_start, fallen_then}
use Rattle.vx_logged.proofs.beginning.begin_fallen.Goals.{else-fell, then-fell}
use Rattle.vx_logged.proofs.beginning.begin_fallen.Goals as goal

pub loop-plex-init : goal.loop-plex-init
loop-plex-init g c = fallen_start c.args.core.now c.args.vol c.args.was.now c.args.logs.now (g.S.Shelf.meaning c.args.shelf.now) c.requires.stands c.requires.log

pub begin_plex-requires-clause-exists : goal.begin_plex-requires-clause-exists
begin_plex-requires-clause-exists g c = c.requires.exists c.loop-plex.plex (first_flag c.args.was.now c.args.core.now c.args.vol c.loop-plex.plex (sym c.fell.ensures ∙ c.if-fell.true))

pub loop-plex-preserved : goal.loop-plex-preserved
loop-plex-preserved g c =
    elim c.if-fell.branch [
      | then-fell w ↦
          rw (w.logs-is, w.shelf-is) (fallen_then c.args.core.now c.args.vol c.loop-plex.plex c.args.was.now c.args.logs.now c.loop-plex.logs w.begin_plex.new.logs (g.S.Shelf.meaning c.args.shelf.now) (g.S.Shelf.meaning c.loop-plex.shelf) (g.S.Shelf.meaning w.begin_plex.new.shelf) c.requires.none
          (sym c.fell.ensures ∙ w.if-fell.true) w.begin_plex.ensures.stands w.begin_plex.ensures.below w.begin_plex.ensures.goes w.begin_plex.ensures.log w.begin_plex.ensures.others w.begin_plex.ensures.drl w.begin_plex.ensures.drops w.begin_plex.ensures.less w.begin_plex.ensures.knows w.begin_plex.ensures.notes w.begin_plex.ensures.begins c.loop-plex.invariant)
      | else-fell w ↦
          rw (w.logs-is, w.shelf-is) (fallen_pass c.args.core.now c.args.vol c.loop-plex.plex c.args.was.now c.args.logs.now c.loop-plex.logs (g.S.Shelf.meaning c.args.shelf.now) (g.S.Shelf.meaning c.loop-plex.shelf) (sym c.fell.ensures ∙ w.if-fell.false) c.loop-plex.invariant)
    ]

pub returns-then-not-sure-clause-below : goal.returns-then-not-sure-clause-below
returns-then-not-sure-clause-below g c = (fallen_start c.args.core.now c.args.vol c.args.was.now c.args.logs.now (g.S.Shelf.meaning c.args.shelf.now) c.requires.stands c.requires.log).below

pub returns-then-not-sure-clause-goes : goal.returns-then-not-sure-clause-goes
returns-then-not-sure-clause-goes g c = (fallen_start c.args.core.now c.args.vol c.args.was.now c.args.logs.now (g.S.Shelf.meaning c.args.shelf.now) c.requires.stands c.requires.log).goes

pub returns-then-not-sure-clause-others : goal.returns-then-not-sure-clause-others
returns-then-not-sure-clause-others g c = (fallen_start c.args.core.now c.args.vol c.args.was.now c.args.logs.now (g.S.Shelf.meaning c.args.shelf.now) c.requires.stands c.requires.log).others

pub returns-then-not-sure-clause-drops : goal.returns-then-not-sure-clause-drops
returns-then-not-sure-clause-drops g c = (fallen_start c.args.core.now c.args.vol c.args.was.now c.args.logs.now (g.S.Shelf.meaning c.args.shelf.now) c.requires.stands c.requires.log).drops

pub returns-then-not-sure-clause-less : goal.returns-then-not-sure-clause-less
returns-then-not-sure-clause-less g c = (fallen_start c.args.core.now c.args.vol c.args.was.now c.args.logs.now (g.S.Shelf.meaning c.args.shelf.now) c.requires.stands c.requires.log).less

pub returns-then-not-sure-clause-notes : goal.returns-then-not-sure-clause-notes
returns-then-not-sure-clause-notes g c = (fallen_start c.args.core.now c.args.vol c.args.was.now c.args.logs.now (g.S.Shelf.meaning c.args.shelf.now) c.requires.stands c.requires.log).notes

pub returns-then-not-sure-clause-knows : goal.returns-then-not-sure-clause-knows
returns-then-not-sure-clause-knows g c = λ spare missed clear reads know. know

pub returns-then-not-sure-clause-begins : goal.returns-then-not-sure-clause-begins
returns-then-not-sure-clause-begins g c = λ is. absurd (let clash : false ≡ true = sym c.if-not-sure.true ∙ is in cc)

pub returns-clause-knows : goal.returns-clause-knows
returns-clause-knows g c = λ spare missed clear reads know. c.loop-plex.invariant.knows spare missed clear (reads c.if-not-sure.false) know

pub returns-clause-begins : goal.returns-clause-begins
returns-clause-begins g c = λ is. fallen_end c.args.core.now c.args.vol c.loop-plex.plex c.args.was.now c.args.logs.now c.loop-plex.logs (g.S.Shelf.meaning c.args.shelf.now) (g.S.Shelf.meaning c.loop-plex.shelf) (omega (arith, c.loop-plex-test.false))
    (λ p on. fallen_few c.args.core.now c.args.vol p (g.S.Shelf.meaning c.args.shelf.now) c.requires.none c.requires.stands (c.requires.exists p on)) c.loop-plex.invariant
