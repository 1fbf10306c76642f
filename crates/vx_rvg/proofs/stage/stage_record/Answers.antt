-- The group behind the staging of a write.
use Rattle.std.proofs.Common.{◌≤◌, ◌+◌, inr, length, sym, ap, subst, arith}
use Rattle.vx_model.specs.Content.{blocks_in}
use Rattle.vx_disk.specs.Burns.{FallsShort, MakesCalls}
use Rattle.vx_disk.specs.Causes.{Works}
use Rattle.vx_srl.specs.Views.{BodyFits, free_of, blocks_needed, next_of}
use Rattle.vx_ringio.specs.Tracks.{RingLies}
use Rattle.vx_rvg.specs.Views.{Core}
use Rattle.vx_rvg.proofs.Blaming.{blames_of}
use Rattle.vx_rvg.proofs.StagedCalls.{number_fits, stage_done, stage_stopped, staged_has, staged_moves, staged_room, staged_sound, stopped_sound, where_refused}
use Rattle.vx_rvg.proofs.stage.stage_record.Goals as goal

pub stage-requires-clause-lies : goal.stage-requires-clause-lies
stage-requires-clause-lies g c = subst (λ (k : Core). RingLies k.log.unit k.log.ring (g.S.Shelf.meaning c.args.shelf.now)) (sym c.core.view_is) c.requires.sound.lies

pub add_all-requires-clause-room : goal.add_all-requires-clause-room
add_all-requires-clause-room g c =
    subst (λ (k : Core). length k.pending.entries + blocks_in c.args.bytes.now ≤ k.pending.capacity) (sym c.core.view_is)
    (staged_room c.args.core.now (g.S.Shelf.meaning c.args.shelf.now) c.args.bytes.now c.requires.sound c.requires.room)

pub returns-in-Ok-clause-answers : goal.returns-in-Ok-clause-answers
returns-in-Ok-clause-answers g c =
    let room = subst (λ (k : Core). blocks_needed c.args.bytes.now ≤ free_of k.log) (sym c.core.view_is) c.requires.room in
    let fits = number_fits c.core.inside.srl c.in-Ok.number (c.in-Ok.ensures.no_number room) in
    let did = c.in-Ok.ensures.stages room fits in
    stage_done _ c.args.core.now c.core.view_is c.args.vol c.args.start c.args.bytes.now (g.S.Shelf.meaning c.args.shelf.now) (g.S.Shelf.meaning c.stage.new.shelf) c.requires.sound c.requires.some c.in-Ok.ensures.goes
    c.stage.new.self c.add_all.new.pending did.1 c.add_all.ensures.capacity c.add_all.ensures.entries c.in-Ok.number did.0 did.2 fits

pub returns-in-Ok-clause-unchanged : goal.returns-in-Ok-clause-unchanged
returns-in-Ok-clause-unchanged g c =
    let room = subst (λ (k : Core). blocks_needed c.args.bytes.now ≤ free_of k.log) (sym c.core.view_is) c.requires.room in
    let fits = number_fits c.core.inside.srl c.in-Ok.number (c.in-Ok.ensures.no_number room) in
    where_refused c.args.core.now _ (λ past. absurd (omega (arith, past, fits, ap (λ (k : Core). next_of k.log) c.core.view_is)))

pub returns-in-Ok-clause-sound : goal.returns-in-Ok-clause-sound
returns-in-Ok-clause-sound g c =
    let room = subst (λ (k : Core). blocks_needed c.args.bytes.now ≤ free_of k.log) (sym c.core.view_is) c.requires.room in
    let did = c.in-Ok.ensures.stages room (number_fits c.core.inside.srl c.in-Ok.number (c.in-Ok.ensures.no_number room)) in
    staged_sound _ c.args.core.now c.core.view_is c.args.vol c.args.start c.args.bytes.now (g.S.Shelf.meaning c.args.shelf.now) (g.S.Shelf.meaning c.stage.new.shelf) c.requires.sound c.requires.some c.in-Ok.ensures.goes
    c.stage.new.self c.add_all.new.pending did.1 c.add_all.ensures.capacity c.add_all.ensures.entries c.requires.within

pub returns-in-Ok-clause-staged : goal.returns-in-Ok-clause-staged
returns-in-Ok-clause-staged g c =
    let room = subst (λ (k : Core). blocks_needed c.args.bytes.now ≤ free_of k.log) (sym c.core.view_is) c.requires.room in
    let did = c.in-Ok.ensures.stages room (number_fits c.core.inside.srl c.in-Ok.number (c.in-Ok.ensures.no_number room)) in
    staged_has _ c.args.core.now c.core.view_is c.args.vol c.args.start c.args.bytes.now (g.S.Shelf.meaning c.args.shelf.now) (g.S.Shelf.meaning c.stage.new.shelf) c.requires.sound c.requires.some c.in-Ok.ensures.goes
    c.stage.new.self c.add_all.new.pending did.1 c.add_all.ensures.capacity c.add_all.ensures.entries c.requires.volume c.requires.blocks c.requires.within c.in-Ok.ensures.leads

pub returns-in-Ok-clause-moves : goal.returns-in-Ok-clause-moves
returns-in-Ok-clause-moves g c =
    staged_moves _ c.args.core.now c.core.view_is c.args.vol c.args.start c.args.bytes.now (g.S.Shelf.meaning c.args.shelf.now) (g.S.Shelf.meaning c.stage.new.shelf) c.requires.sound c.requires.some c.in-Ok.ensures.goes

pub returns-in-Ok-clause-calls : goal.returns-in-Ok-clause-calls
returns-in-Ok-clause-calls g c = subst (λ (k : Core). BodyFits k.log c.args.bytes.now → MakesCalls 1 (g.S.Shelf.meaning c.args.shelf.now) (g.S.Shelf.meaning c.stage.new.shelf)) c.core.view_is c.in-Ok.ensures.calls

pub returns-in-Ok-clause-short : goal.returns-in-Ok-clause-short
returns-in-Ok-clause-short g c = subst (λ (k : Core). BodyFits k.log c.args.bytes.now → FallsShort 1 (g.S.Shelf.meaning c.args.shelf.now) (g.S.Shelf.meaning c.stage.new.shelf)) c.core.view_is c.in-Ok.ensures.short

pub returns-in-Ok-clause-works : goal.returns-in-Ok-clause-works
returns-in-Ok-clause-works g c = subst (λ (k : Core). Works (g.S.Shelf.meaning c.args.shelf.now).disks k.log.unit) c.core.view_is c.in-Ok.ensures.works

pub returns-in-Err-clause-answers : goal.returns-in-Err-clause-answers
returns-in-Err-clause-answers g c =
    let room = subst (λ (k : Core). blocks_needed c.args.bytes.now ≤ free_of k.log) (sym c.core.view_is) c.requires.room in
    stage_stopped _ c.args.core.now c.core.view_is c.args.vol c.args.start c.args.bytes.now (g.S.Shelf.meaning c.args.shelf.now) (g.S.Shelf.meaning c.stage.new.shelf) c.requires.sound c.requires.some c.in-Err.ensures.goes
    c.stage.new.self c.in-Err.why (λ past. (c.in-Err.ensures.no_number room past, (c.in-Err.ensures.unchanged (inr past)).0)) (c.in-Err.ensures.stages room) c.refused-no.result c.refused-no.ensures _ c.halt.ensures

pub returns-in-Err-clause-unchanged : goal.returns-in-Err-clause-unchanged
returns-in-Err-clause-unchanged g c =
    where_refused c.args.core.now _ (λ past. (c.in-Err.ensures.unchanged (inr (omega (arith, past, ap (λ (k : Core). next_of k.log) c.core.view_is)))).1)

pub returns-in-Err-clause-sound : goal.returns-in-Err-clause-sound
returns-in-Err-clause-sound g c =
    let room = subst (λ (k : Core). blocks_needed c.args.bytes.now ≤ free_of k.log) (sym c.core.view_is) c.requires.room in
    stopped_sound _ c.args.core.now c.core.view_is c.args.vol c.args.start c.args.bytes.now (g.S.Shelf.meaning c.args.shelf.now) (g.S.Shelf.meaning c.stage.new.shelf) c.requires.sound c.requires.some c.in-Err.ensures.goes
    c.stage.new.self c.in-Err.why (λ past. (c.in-Err.ensures.no_number room past, (c.in-Err.ensures.unchanged (inr past)).0)) (c.in-Err.ensures.stages room) c.refused-no.result c.refused-no.ensures _ c.halt.ensures

pub returns-in-Err-clause-moves : goal.returns-in-Err-clause-moves
returns-in-Err-clause-moves g c =
    staged_moves _ c.args.core.now c.core.view_is c.args.vol c.args.start c.args.bytes.now (g.S.Shelf.meaning c.args.shelf.now) (g.S.Shelf.meaning c.stage.new.shelf) c.requires.sound c.requires.some c.in-Err.ensures.goes

pub returns-in-Err-clause-short : goal.returns-in-Err-clause-short
returns-in-Err-clause-short g c = subst (λ (k : Core). BodyFits k.log c.args.bytes.now → FallsShort 1 (g.S.Shelf.meaning c.args.shelf.now) (g.S.Shelf.meaning c.stage.new.shelf)) c.core.view_is c.in-Err.ensures.short

pub returns-in-Err-clause-blames : goal.returns-in-Err-clause-blames
returns-in-Err-clause-blames g c =
    blames_of (g.S.Shelf.meaning c.args.shelf.now).disks _ _ c.in-Err.why c.refused-no.result (ap (λ (k : Core). k.log.unit) c.core.view_is) c.refused-no.ensures c.in-Err.ensures.blames
