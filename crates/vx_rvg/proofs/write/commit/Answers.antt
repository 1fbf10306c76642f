-- The group behind a write that is staged and sealed.
use Rattle.std.proofs.Common.{length, ◌∙◌, ap}
use Rattle.vx_disk.proofs.Spending.{then_spends}
use Rattle.vx_rvg.specs.Views.{Core}
use Rattle.vx_disk.proofs.Naming.{unit_since}
use Rattle.vx_rvg.proofs.Blaming.{staged_place}
use Rattle.vx_rvg.specs.Commits.{number_refusal}
use Rattle.vx_rvg.proofs.WriteCommit.{cut_fits, four_calls, four_least, four_short, seal_fails, seal_leaves, sound_staged, stage_fails, stage_leaves, stage_writing, staged_low, staged_up, write_answers, write_leaves, write_moves, write_stands}
use Rattle.vx_rvg.proofs.write.commit.Goals as goal

pub stage_record-requires-clause-sound : goal.stage_record-requires-clause-sound
stage_record-requires-clause-sound g c =
    sound_staged c.args.core.now (g.S.Shelf.meaning c.args.shelf.now) (c.requires.sound.idle c.requires.running c.requires.up) c.requires.sound

pub returns-in-Err-clause-writes : goal.returns-in-Err-clause-writes
returns-in-Err-clause-writes g c =
    stage_fails c.args.core.now c.args.vol c.args.start c.args.bytes.now (g.S.Shelf.meaning c.args.shelf.now) (g.S.Shelf.meaning c.stage_record.new.shelf) c.requires.sound (c.requires.sound.idle c.requires.running c.requires.up) c.requires.some c.requires.number c.stage_record.ensures.moves c.stage_record.new.core c.in-Err.no c.in-Err.ensures.answers

pub returns-in-Err-clause-sound : goal.returns-in-Err-clause-sound
returns-in-Err-clause-sound g c =
    stage_leaves c.args.core.now c.args.vol c.args.start c.args.bytes.now (g.S.Shelf.meaning c.args.shelf.now) (g.S.Shelf.meaning c.stage_record.new.shelf) c.requires.sound (c.requires.sound.idle c.requires.running c.requires.up) c.requires.some c.requires.number c.stage_record.ensures.moves c.stage_record.new.core c.in-Err.no c.in-Err.ensures.answers

pub returns-in-Err-clause-moves : goal.returns-in-Err-clause-moves
returns-in-Err-clause-moves g c =
    stage_writing c.args.core.now c.args.vol c.args.start c.args.bytes.now (g.S.Shelf.meaning c.args.shelf.now) (g.S.Shelf.meaning c.stage_record.new.shelf) c.requires.sound (c.requires.sound.idle c.requires.running c.requires.up) c.requires.some c.requires.number c.stage_record.ensures.moves

pub seal_records-requires-clause-some : goal.seal_records-requires-clause-some
seal_records-requires-clause-some g c =
    staged_low c.args.core.now c.args.vol c.args.start c.args.bytes.now (g.S.Shelf.meaning c.args.shelf.now) (g.S.Shelf.meaning c.stage_record.new.shelf) c.requires.sound (c.requires.sound.idle c.requires.running c.requires.up) c.requires.some c.requires.number c.stage_record.ensures.moves c.stage_record.new.core c.in_default.field-0 c.in_default.ensures.answers

pub seal_records-requires-clause-up : goal.seal_records-requires-clause-up
seal_records-requires-clause-up g c =
    staged_up c.args.core.now c.args.vol c.args.start c.args.bytes.now (g.S.Shelf.meaning c.args.shelf.now) (g.S.Shelf.meaning c.stage_record.new.shelf) c.requires.sound (c.requires.sound.idle c.requires.running c.requires.up) c.requires.some c.requires.number c.stage_record.ensures.moves c.stage_record.new.core c.in_default.field-0 c.in_default.ensures.answers

pub returns-in-Ok-clause-writes : goal.returns-in-Ok-clause-writes
returns-in-Ok-clause-writes g c =
    write_answers c.args.core.now c.args.vol c.args.start c.args.bytes.now (g.S.Shelf.meaning c.args.shelf.now) (g.S.Shelf.meaning c.stage_record.new.shelf) c.requires.sound (c.requires.sound.idle c.requires.running c.requires.up) c.requires.some c.requires.number c.stage_record.ensures.moves c.stage_record.new.core c.in_default.field-0 c.in_default.ensures.answers c.in_default.ensures.staged (g.S.Shelf.meaning c.seal_records.new.shelf) c.seal_records.ensures.moves c.seal_records.new.core c.in-Ok.number c.in-Ok.ensures.answers

pub returns-in-Ok-clause-sound : goal.returns-in-Ok-clause-sound
returns-in-Ok-clause-sound g c =
    write_leaves c.args.core.now c.args.vol c.args.start c.args.bytes.now (g.S.Shelf.meaning c.args.shelf.now) (g.S.Shelf.meaning c.stage_record.new.shelf) c.requires.sound (c.requires.sound.idle c.requires.running c.requires.up) c.requires.some c.requires.number c.stage_record.ensures.moves c.stage_record.new.core c.in_default.field-0 c.in_default.ensures.answers c.in_default.ensures.staged (g.S.Shelf.meaning c.seal_records.new.shelf) c.seal_records.ensures.moves c.seal_records.new.core c.in-Ok.number c.in-Ok.ensures.answers c.in-Ok.ensures.sound

pub returns-in-Ok-clause-stands : goal.returns-in-Ok-clause-stands
returns-in-Ok-clause-stands g c =
    write_stands c.args.core.now c.args.vol c.args.start c.args.bytes.now (g.S.Shelf.meaning c.args.shelf.now) (g.S.Shelf.meaning c.stage_record.new.shelf) c.requires.sound (c.requires.sound.idle c.requires.running c.requires.up) c.requires.some c.requires.number c.stage_record.ensures.moves c.stage_record.new.core c.in_default.field-0 c.in_default.ensures.answers c.in_default.ensures.staged (g.S.Shelf.meaning c.seal_records.new.shelf) c.seal_records.ensures.moves c.seal_records.new.core c.in-Ok.number c.in-Ok.ensures.answers c.in-Ok.ensures.stands

pub returns-in-Ok-clause-moves : goal.returns-in-Ok-clause-moves
returns-in-Ok-clause-moves g c =
    write_moves c.args.core.now c.args.vol c.args.start c.args.bytes.now (g.S.Shelf.meaning c.args.shelf.now) (g.S.Shelf.meaning c.stage_record.new.shelf) c.requires.sound (c.requires.sound.idle c.requires.running c.requires.up) c.requires.some c.requires.number c.stage_record.ensures.moves c.stage_record.new.core c.in_default.field-0 c.in_default.ensures.answers c.in_default.ensures.staged (g.S.Shelf.meaning c.seal_records.new.shelf) c.seal_records.ensures.moves

pub returns-in-Ok-clause-calls : goal.returns-in-Ok-clause-calls
returns-in-Ok-clause-calls g c =
    λ fits. four_calls c.args.core.now c.args.vol c.args.start c.args.bytes.now (g.S.Shelf.meaning c.args.shelf.now) (g.S.Shelf.meaning c.stage_record.new.shelf) c.requires.sound (c.requires.sound.idle c.requires.running c.requires.up) c.requires.some c.requires.number c.stage_record.ensures.moves c.stage_record.new.core c.in_default.field-0 c.in_default.ensures.answers (g.S.Shelf.meaning c.seal_records.new.shelf) (c.in_default.ensures.calls fits) c.in-Ok.ensures.calls

pub returns-in-Ok-clause-short : goal.returns-in-Ok-clause-short
returns-in-Ok-clause-short g c =
    λ fits. four_short c.args.core.now c.args.vol c.args.start c.args.bytes.now (g.S.Shelf.meaning c.args.shelf.now) (g.S.Shelf.meaning c.stage_record.new.shelf) c.requires.sound (c.requires.sound.idle c.requires.running c.requires.up) c.requires.some c.requires.number c.stage_record.ensures.moves c.stage_record.new.core c.in_default.field-0 c.in_default.ensures.answers (g.S.Shelf.meaning c.seal_records.new.shelf) (c.stage_record.ensures.short fits) (c.in_default.ensures.calls fits) c.seal_records.ensures.short

pub returns-in-Ok-clause-least : goal.returns-in-Ok-clause-least
returns-in-Ok-clause-least g c =
    four_least c.args.core.now c.args.vol c.args.start c.args.bytes.now (g.S.Shelf.meaning c.args.shelf.now) (g.S.Shelf.meaning c.stage_record.new.shelf) c.requires.sound (c.requires.sound.idle c.requires.running c.requires.up) c.requires.some c.requires.number c.stage_record.ensures.moves c.stage_record.new.core c.in_default.field-0 c.in_default.ensures.answers (g.S.Shelf.meaning c.seal_records.new.shelf) c.in_default.ensures.least c.in-Ok.ensures.calls

pub returns-in-Ok-clause-spends : goal.returns-in-Ok-clause-spends
returns-in-Ok-clause-spends g c =
    then_spends _ _ _ c.stage_record.ensures.spends c.seal_records.ensures.spends

pub returns-in-Ok-clause-works : goal.returns-in-Ok-clause-works
returns-in-Ok-clause-works g c =
    c.in_default.ensures.works

pub keep_oldest-requires : goal.keep_oldest-requires
keep_oldest-requires g c =
    record { held = cut_fits c.args.core.now c.args.vol c.args.start c.args.bytes.now (g.S.Shelf.meaning c.args.shelf.now) (g.S.Shelf.meaning c.stage_record.new.shelf) c.requires.sound (c.requires.sound.idle c.requires.running c.requires.up) c.requires.some c.requires.number c.stage_record.ensures.moves c.stage_record.new.core c.in_default.field-0 c.in_default.ensures.answers c.in_default.ensures.staged (g.S.Shelf.meaning c.seal_records.new.shelf) c.seal_records.ensures.moves _ c.seal_records.new.core c.core-2.view_is c.in-Err-seal_records.no c.in-Err-seal_records.ensures.answers c.len-before.result (c.len-before.ensures ∙ ap (λ (k : Core). length k.pending.entries) c.core.view_is) }

pub returns-in-Err-seal_records-clause-writes : goal.returns-in-Err-seal_records-clause-writes
returns-in-Err-seal_records-clause-writes g c =
    seal_fails c.args.core.now c.args.vol c.args.start c.args.bytes.now (g.S.Shelf.meaning c.args.shelf.now) (g.S.Shelf.meaning c.stage_record.new.shelf) c.requires.sound (c.requires.sound.idle c.requires.running c.requires.up) c.requires.some c.requires.number c.stage_record.ensures.moves c.stage_record.new.core c.in_default.field-0 c.in_default.ensures.answers c.in_default.ensures.staged (g.S.Shelf.meaning c.seal_records.new.shelf) c.seal_records.ensures.moves _ c.seal_records.new.core c.core-2.view_is c.in-Err-seal_records.no c.in-Err-seal_records.ensures.answers c.len-before.result (c.len-before.ensures ∙ ap (λ (k : Core). length k.pending.entries) c.core.view_is) c.keep_oldest.new.self c.keep_oldest.ensures.entries c.keep_oldest.ensures.capacity

pub returns-in-Err-seal_records-clause-sound : goal.returns-in-Err-seal_records-clause-sound
returns-in-Err-seal_records-clause-sound g c =
    seal_leaves c.args.core.now c.args.vol c.args.start c.args.bytes.now (g.S.Shelf.meaning c.args.shelf.now) (g.S.Shelf.meaning c.stage_record.new.shelf) c.requires.sound (c.requires.sound.idle c.requires.running c.requires.up) c.requires.some c.requires.number c.stage_record.ensures.moves c.stage_record.new.core c.in_default.field-0 c.in_default.ensures.answers c.in_default.ensures.staged (g.S.Shelf.meaning c.seal_records.new.shelf) c.seal_records.ensures.moves _ c.seal_records.new.core c.core-2.view_is c.in-Err-seal_records.no c.in-Err-seal_records.ensures.answers c.len-before.result (c.len-before.ensures ∙ ap (λ (k : Core). length k.pending.entries) c.core.view_is) c.keep_oldest.new.self c.keep_oldest.ensures.entries c.keep_oldest.ensures.capacity

pub returns-in-Err-seal_records-clause-moves : goal.returns-in-Err-seal_records-clause-moves
returns-in-Err-seal_records-clause-moves g c =
    write_moves c.args.core.now c.args.vol c.args.start c.args.bytes.now (g.S.Shelf.meaning c.args.shelf.now) (g.S.Shelf.meaning c.stage_record.new.shelf) c.requires.sound (c.requires.sound.idle c.requires.running c.requires.up) c.requires.some c.requires.number c.stage_record.ensures.moves c.stage_record.new.core c.in_default.field-0 c.in_default.ensures.answers c.in_default.ensures.staged (g.S.Shelf.meaning c.seal_records.new.shelf) c.seal_records.ensures.moves

pub returns-in-Err-seal_records-clause-short : goal.returns-in-Err-seal_records-clause-short
returns-in-Err-seal_records-clause-short g c =
    λ fits. four_short c.args.core.now c.args.vol c.args.start c.args.bytes.now (g.S.Shelf.meaning c.args.shelf.now) (g.S.Shelf.meaning c.stage_record.new.shelf) c.requires.sound (c.requires.sound.idle c.requires.running c.requires.up) c.requires.some c.requires.number c.stage_record.ensures.moves c.stage_record.new.core c.in_default.field-0 c.in_default.ensures.answers (g.S.Shelf.meaning c.seal_records.new.shelf) (c.stage_record.ensures.short fits) (c.in_default.ensures.calls fits) c.seal_records.ensures.short

pub returns-in-Err-seal_records-clause-spends : goal.returns-in-Err-seal_records-clause-spends
returns-in-Err-seal_records-clause-spends g c =
    then_spends _ _ _ c.stage_record.ensures.spends c.seal_records.ensures.spends

pub returns-in-Err-seal_records-clause-blames : goal.returns-in-Err-seal_records-clause-blames
returns-in-Err-seal_records-clause-blames g c =
    unit_since (g.S.Shelf.meaning c.args.shelf.now) (g.S.Shelf.meaning c.stage_record.new.shelf) _ _ c.in-Err-seal_records.no c.stage_record.ensures.spends
    (staged_place (number_refusal c.args.core.now) c.args.core.now c.stage_record.new.core c.args.vol c.args.start c.args.bytes.now (g.S.Shelf.meaning c.args.shelf.now) (g.S.Shelf.meaning c.stage_record.new.shelf) c.in_default.field-0 c.in_default.ensures.answers)
    c.in-Err-seal_records.ensures.blames
