-- Notes in the maps of a set of plexes.
use Rattle.std.proofs.Common.{◌∙◌, ◌<◌, sym, arith}
use Rattle.vx_logs.proofs.PlexesLemmas.{notes_writes, notes_next, notes_pass, still_there}
use Rattle.vx_logs.proofs.noting.note_plexes.Goals.{then-is_in+in-Ok, else-is_in}
use Rattle.vx_logs.proofs.noting.note_plexes.Goals as goal

pub returns-in-Err-clause-writes : goal.returns-in-Err-clause-writes
returns-in-Err-clause-writes g c =
    let few : c.loop-plex.plex < 8 = omega (arith, c.loop-plex-test.true) in
    notes_writes c.loop-plex.plex c.args.set c.args.anew c.args.first c.args.last c.args.map.now c.loop-plex.map (g.S.Shelf.meaning c.args.shelf.now) (g.S.Shelf.meaning c.loop-plex.shelf) c.loop-plex.invariant.0 few (sym c.is_in.ensures ∙ c.if-is_in.true)
    c.note_one.new.map (g.S.Shelf.meaning c.note_one.new.shelf) c.note_one.ensures.writes

pub returns-in-Err-clause-nothing : goal.returns-in-Err-clause-nothing
returns-in-Err-clause-nothing g c = λ all.
    let few : c.loop-plex.plex < 8 = omega (arith, c.loop-plex-test.true) in
    let it = still_there c.loop-plex.plex c.args.set c.args.anew c.args.first c.args.last c.args.map.now c.loop-plex.map (g.S.Shelf.meaning c.args.shelf.now) (g.S.Shelf.meaning c.loop-plex.shelf) c.requires.has c.loop-plex.invariant.0 few (sym c.is_in.ensures ∙ c.if-is_in.true) all in
    c.note_one.ensures.nothing it.0 it.1 ∙ c.loop-plex.invariant.1 all

pub loop-plex-preserved : goal.loop-plex-preserved
loop-plex-preserved g c =
    let few : c.loop-plex.plex < 8 = omega (arith, c.loop-plex-test.true) in
    elim c.if-is_in.branch [
      | then-is_in+in-Ok w ↦
          rw (w.map-is, w.shelf-is) (
            notes_next c.loop-plex.plex c.args.set c.args.anew c.args.first c.args.last c.args.map.now c.loop-plex.map (g.S.Shelf.meaning c.args.shelf.now) (g.S.Shelf.meaning c.loop-plex.shelf) c.loop-plex.invariant.0 few (sym c.is_in.ensures ∙ w.if-is_in.true)
                w.note_one.new.map (g.S.Shelf.meaning w.note_one.new.shelf) w.note_one.ensures.writes w.in-Ok.ensures.ok w.in-Ok.ensures.unit,
            λ all.
                let it = still_there c.loop-plex.plex c.args.set c.args.anew c.args.first c.args.last c.args.map.now c.loop-plex.map (g.S.Shelf.meaning c.args.shelf.now) (g.S.Shelf.meaning c.loop-plex.shelf) c.requires.has c.loop-plex.invariant.0 few (sym c.is_in.ensures ∙ w.if-is_in.true) all in
                w.note_one.ensures.nothing it.0 it.1 ∙ c.loop-plex.invariant.1 all,
          )
      | else-is_in w ↦
          rw (w.map-is, w.shelf-is) (
            notes_pass c.loop-plex.plex c.args.set c.args.anew c.args.first c.args.last c.args.map.now c.loop-plex.map (g.S.Shelf.meaning c.args.shelf.now) (g.S.Shelf.meaning c.loop-plex.shelf) c.loop-plex.invariant.0 few (sym c.is_in.ensures ∙ w.if-is_in.false),
            c.loop-plex.invariant.1,
          )
    ]
