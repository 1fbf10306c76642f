-- The plexes that go by their maps, one after the other.
use Rattle.std.proofs.Common.{◌+◌, ◌∙◌, sym, subst, arith}
use Rattle.vx_groupmaps.specs.Flushing.{MappedLoop}
use Rattle.vx_groupmaps.proofs.FlushLemmas.{mapped_end, mapped_failed_by, mapped_ok, mapped_pass}
use Rattle.vx_groupmaps.proofs.flushing.flush_mapped.Goals.{then-goes_by_map+in-Ok, then-goes_by_map+in-Err-Fault, else-goes_by_map}
use Rattle.vx_groupmaps.proofs.flushing.flush_mapped.Goals as goal

pub loop-plex-preserved : goal.loop-plex-preserved
loop-plex-preserved g c =
    elim c.if-goes_by_map.branch [
      | then-goes_by_map+in-Ok w ↦
          subst (λ s. MappedLoop c.args.config.now c.args.vol (c.loop-plex.plex + 1) c.if-goes_by_map.failed (g.S.Shelf.meaning c.args.shelf.now) (g.S.Shelf.meaning s)) (sym w.shelf-is)
          (mapped_ok _ _ _ _ _ _ _ c.loop-plex.invariant _ (sym c.goes_by_map.ensures ∙ w.if-goes_by_map.true) w.flush_one.ensures.goes w.in-Ok.ensures.cause w.in-Ok.ensures.ok w.failed-is)
      | then-goes_by_map+in-Err-Fault w ↦
          subst (λ s. MappedLoop c.args.config.now c.args.vol (c.loop-plex.plex + 1) c.if-goes_by_map.failed (g.S.Shelf.meaning c.args.shelf.now) (g.S.Shelf.meaning s)) (sym w.shelf-is)
          (mapped_failed_by _ _ _ _ _ _ _ c.loop-plex.invariant _ (sym c.goes_by_map.ensures ∙ w.if-goes_by_map.true) w.flush_one.ensures.goes (omega (arith, c.loop-plex-test.true)) _ _ w.in-Err-Fault.field-0-is w.in-Err-Fault.ensures.cause w.failed-is)
      | else-goes_by_map w ↦
          subst (λ s. MappedLoop c.args.config.now c.args.vol (c.loop-plex.plex + 1) c.if-goes_by_map.failed (g.S.Shelf.meaning c.args.shelf.now) (g.S.Shelf.meaning s)) (sym w.shelf-is)
          (mapped_pass _ _ _ _ _ _ _ c.loop-plex.invariant (sym c.goes_by_map.ensures ∙ w.if-goes_by_map.false) w.failed-is)
    ]

pub returns-clause-ends : goal.returns-clause-ends
returns-clause-ends g c = mapped_end c.args.config.now c.requires.checked c.args.vol _ _ _ _ _ (omega (arith, c.loop-plex-test.false)) c.set_of.ensures c.loop-plex.invariant
