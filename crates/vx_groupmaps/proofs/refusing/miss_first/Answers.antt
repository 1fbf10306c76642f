-- Notes in the maps of the first plexes.
use Rattle.std.proofs.Common.{◌<◌, false, arith}
use Rattle.vx_groupmaps.specs.Refusing.{all_plexes}
use Rattle.vx_groupmaps.proofs.ReadyLemmas.{same_then}
use Rattle.vx_groupmaps.proofs.RefusedLemmas.{first_noted, has_all, map_later}
use Rattle.vx_logs.proofs.PlexesLemmas.{notes_next, notes_none, notes_writes}
use Rattle.vx_groupmaps.proofs.refusing.miss_first.Goals as goal

pub loop-plex-init : goal.loop-plex-init
loop-plex-init g c = (notes_none all_plexes false c.args.first c.args.last c.args.map.now (g.S.Shelf.meaning c.args.shelf.now), omega arith)

pub miss_one-requires-clause-has : goal.miss_one-requires-clause-has
miss_one-requires-clause-has g c = map_later c.loop-plex.plex c.args.first c.args.last c.args.map.now c.loop-plex.map (g.S.Shelf.meaning c.args.shelf.now) (g.S.Shelf.meaning c.loop-plex.shelf) c.requires.has c.loop-plex.invariant.0

pub miss_one-requires-clause-exists : goal.miss_one-requires-clause-exists
miss_one-requires-clause-exists g c = omega (arith, c.loop-plex-test.true, c.requires.many, c.loop-plex.invariant.0.noted.same.shape.plexes)

pub returns-in-Err-clause-writes : goal.returns-in-Err-clause-writes
returns-in-Err-clause-writes g c =
    let few : c.loop-plex.plex < 8 = omega (arith, c.loop-plex-test.true, c.requires.few) in
    notes_writes c.loop-plex.plex all_plexes false c.args.first c.args.last c.args.map.now c.loop-plex.map (g.S.Shelf.meaning c.args.shelf.now) (g.S.Shelf.meaning c.loop-plex.shelf) c.loop-plex.invariant.0 few (has_all c.loop-plex.plex few)
    c.miss_one.new.map (g.S.Shelf.meaning c.miss_one.new.shelf) c.miss_one.ensures.writes

pub returns-in-Err-clause-same : goal.returns-in-Err-clause-same
returns-in-Err-clause-same g c = same_then c.args.map.now c.loop-plex.map c.miss_one.new.map c.loop-plex.invariant.0.noted.same c.miss_one.ensures.same

pub loop-plex-preserved : goal.loop-plex-preserved
loop-plex-preserved g c =
    let few : c.loop-plex.plex < 8 = omega (arith, c.loop-plex-test.true, c.requires.few) in (
      notes_next c.loop-plex.plex all_plexes false c.args.first c.args.last c.args.map.now c.loop-plex.map (g.S.Shelf.meaning c.args.shelf.now) (g.S.Shelf.meaning c.loop-plex.shelf) c.loop-plex.invariant.0 few (has_all c.loop-plex.plex few)
          c.miss_one.new.map (g.S.Shelf.meaning c.miss_one.new.shelf) c.miss_one.ensures.writes c.in-Ok.ensures.ok c.in-Ok.ensures.unit,
      omega (arith, c.loop-plex-test.true),
    )

pub returns-clause-writes : goal.returns-clause-writes
returns-clause-writes g c = c.loop-plex.invariant.0.writes

pub returns-clause-ok : goal.returns-clause-ok
returns-clause-ok g c = first_noted c.loop-plex.plex c.args.plexes c.args.first c.args.last c.args.map.now c.loop-plex.map (g.S.Shelf.meaning c.args.shelf.now) (g.S.Shelf.meaning c.loop-plex.shelf) c.loop-plex.invariant.1 (omega (arith, c.loop-plex-test.false)) c.loop-plex.invariant.0

pub returns-clause-same : goal.returns-clause-same
returns-clause-same g c = c.loop-plex.invariant.0.noted.same
