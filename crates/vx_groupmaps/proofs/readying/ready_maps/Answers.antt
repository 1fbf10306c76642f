-- The maps of the plexes that are ACTIVE, emptied one after the other.
use Rattle.std.proofs.Common.{◌∙◌, Bool, IsTrue, sym, subst, arith}
use Rattle.vx_volume.proofs.CopyLemmas.{disks_still}
use Rattle.vx_volume.proofs.PlaceLemmas.{active_below}
use Rattle.vx_groupmaps.specs.Beginning.{EmptyEnds}
use Rattle.vx_groupmaps.proofs.ReadyLemmas.{ready_all, ready_one, ready_pass, ready_then, two_go}
use Rattle.vx_groupmaps.proofs.readying.ready_maps.Goals.{then-is_active+in-Ok+else-gone, else-is_active}
use Rattle.vx_groupmaps.proofs.readying.ready_maps.Goals as goal

pub begin_map-requires-clause-exists : goal.begin_map-requires-clause-exists
begin_map-requires-clause-exists g c = active_below c.args.config.now c.requires.checked c.args.vol c.loop-plex.plex (sym c.is_active.ensures ∙ c.if-is_active.true)

pub begin_map-requires-clause-disks : goal.begin_map-requires-clause-disks
begin_map-requires-clause-disks g c =
    disks_still c.args.config.now.disks (g.S.Shelf.meaning c.args.shelf.now) (g.S.Shelf.meaning c.loop-plex.shelf) c.requires.disks c.loop-plex.invariant.0.goes.units c.loop-plex.invariant.0.goes.size

pub returns-then-gone-clause-goes : goal.returns-then-gone-clause-goes
returns-then-gone-clause-goes g c =
    two_go c.args.config.now c.requires.checked c.args.vol c.loop-plex.plex (sym c.is_active.ensures ∙ c.if-is_active.true) c.args.logs.now c.loop-plex.logs (g.S.Shelf.meaning c.args.shelf.now) (g.S.Shelf.meaning c.loop-plex.shelf) (g.S.Shelf.meaning c.begin_map.new.shelf) c.loop-plex.invariant.0 c.begin_map.ensures.goes

pub returns-in-Err-clause-goes : goal.returns-in-Err-clause-goes
returns-in-Err-clause-goes g c =
    two_go c.args.config.now c.requires.checked c.args.vol c.loop-plex.plex (sym c.is_active.ensures ∙ c.if-is_active.true) c.args.logs.now c.loop-plex.logs (g.S.Shelf.meaning c.args.shelf.now) (g.S.Shelf.meaning c.loop-plex.shelf) (g.S.Shelf.meaning c.begin_map.new.shelf) c.loop-plex.invariant.0 c.begin_map.ensures.goes

pub returns-then-gone-clause-nothing : goal.returns-then-gone-clause-nothing
returns-then-gone-clause-nothing g c = λ ready.
    c.begin_map.ensures.nothing
    (ready_one c.args.config.now c.requires.checked c.args.vol c.requires.some c.loop-plex.plex c.loop-plex.logs c.loop-plex.invariant.0.fits (sym c.is_active.ensures ∙ c.if-is_active.true) (c.loop-plex.invariant.0.ready ready)) ∙ c.loop-plex.invariant.1 ready

pub returns-in-Err-clause-nothing : goal.returns-in-Err-clause-nothing
returns-in-Err-clause-nothing g c = λ ready.
    c.begin_map.ensures.nothing
    (ready_one c.args.config.now c.requires.checked c.args.vol c.requires.some c.loop-plex.plex c.loop-plex.logs c.loop-plex.invariant.0.fits (sym c.is_active.ensures ∙ c.if-is_active.true) (c.loop-plex.invariant.0.ready ready)) ∙ c.loop-plex.invariant.1 ready

pub loop-plex-preserved : goal.loop-plex-preserved
loop-plex-preserved g c =
    elim c.if-is_active.branch [
      | then-is_active+in-Ok+else-gone w ↦
          rw (w.logs-is, w.shelf-is) (
            ready_then c.args.config.now c.requires.checked c.args.vol c.loop-plex.plex (sym c.is_active.ensures ∙ w.if-is_active.true) c.args.logs.now c.loop-plex.logs (g.S.Shelf.meaning c.args.shelf.now) (g.S.Shelf.meaning c.loop-plex.shelf) (g.S.Shelf.meaning w.begin_map.new.shelf) c.loop-plex.invariant.0 w.begin_map.ensures.goes
                w.begin_map.new.logs (subst (λ (t : Bool). EmptyEnds c.loop-plex.plex t c.loop-plex.logs.fmr w.begin_map.new.logs.fmr (g.S.Shelf.meaning c.loop-plex.shelf) (g.S.Shelf.meaning w.begin_map.new.shelf) × (IsTrue (g.S.Shelf.meaning w.begin_map.new.shelf).down → IsTrue (g.S.Shelf.meaning c.loop-plex.shelf).down)) w.if-gone.false w.in-Ok.ensures.answers)
                w.begin_map.ensures.drl w.begin_map.ensures.fits w.in-Ok.ensures.stands w.begin_map.ensures.covers w.in-Ok.ensures.ready,
            λ ready.
                w.begin_map.ensures.nothing
                (ready_one c.args.config.now c.requires.checked c.args.vol c.requires.some c.loop-plex.plex c.loop-plex.logs c.loop-plex.invariant.0.fits (sym c.is_active.ensures ∙ w.if-is_active.true) (c.loop-plex.invariant.0.ready ready)) ∙ c.loop-plex.invariant.1 ready,
          )
      | else-is_active w ↦
          rw (w.logs-is, w.shelf-is) (
            ready_pass c.args.config.now c.args.vol c.loop-plex.plex c.args.logs.now c.loop-plex.logs (g.S.Shelf.meaning c.args.shelf.now) (g.S.Shelf.meaning c.loop-plex.shelf) (sym c.is_active.ensures ∙ w.if-is_active.false) c.loop-plex.invariant.0,
            c.loop-plex.invariant.1,
          )
    ]

pub returns-clause-ready : goal.returns-clause-ready
returns-clause-ready g c = ready_all c.args.config.now c.requires.checked c.args.vol c.loop-plex.plex c.loop-plex.logs (omega (arith, c.loop-plex-test.false)) c.loop-plex.invariant.0.below
