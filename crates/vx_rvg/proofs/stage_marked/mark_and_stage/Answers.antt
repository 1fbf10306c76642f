-- The marks of a write, and its staging behind them.
use Rattle.std.proofs.Common.{ℕ, ◌+◌, ◌/◌, ◌<◌, ◌≤◌, inl, length, true, refl, ap, arith, subst, sym}
use Rattle.vx_model.specs.Content.{blocks_in}
use Rattle.vx_disk.specs.Burns.{FallsShort}
use Rattle.vx_disk.specs.Moves.{Moves, Run, Union}
use Rattle.vx_disk.specs.Shelf.{Meaning}
use Rattle.vx_disk.proofs.Spending.{on_always, then_spends, spends_none}
use Rattle.vx_dcm.specs.Places.{HasRegion, IsOfSlots, IsPlaceOfSlots, Maps, MapsBetween, SlotsMarked}
use Rattle.vx_srl.specs.Views.{Log, blocks_needed, free_of}
use Rattle.vx_rvg.specs.Marks.{map_run}
use Rattle.vx_rvg.specs.StagedMarks.{StagedMarking}
use Rattle.vx_rvg.specs.Views.{Core, volume_size}
use Rattle.vx_rvg.proofs.Blaming.{blames_idle, works_behind}
use Rattle.vx_rvg.proofs.MarkStaging.{marks_alone, no_refusal, staged_maps, staged_marks, staged_since, staging_moves, stopped_alone}
use Rattle.vx_rvg.proofs.MarkedStands.{between_none, blames_log, calls_same, least_behind, log_is, regions_ordered, short_same, still_short, write_region}
use Rattle.vx_rvg.proofs.WriteSound.{volume_same}
use Rattle.vx_rvg.proofs.stage_marked.mark_and_stage.Goals as goal

-- ---- what is asked

pub mark_named-requires-clause-some : goal.mark_named-requires-clause-some
mark_named-requires-clause-some g c = subst (λ (n : ℕ). c.args.start / 64 ≤ n) (sym c.end_region-last.ensures) (regions_ordered c.args.start (blocks_in c.args.bytes.now) (omega (arith, c.requires.blocks.some, c.requires.blocks.whole)))

pub mark_named-requires-clause-exists : goal.mark_named-requires-clause-exists
mark_named-requires-clause-exists g c =
    subst (λ (n : ℕ). HasRegion c.args.core.now.maps 0 c.args.vol n) (sym c.end_region-last.ensures)
    (write_region c.args.core.now (g.S.Shelf.meaning c.args.shelf.now) c.requires.sound c.args.vol c.args.start (blocks_in c.args.bytes.now) c.requires.volume (omega (arith, c.requires.blocks.some, c.requires.blocks.whole)) c.requires.within)

pub stage_record-requires-clause-some : goal.stage_record-requires-clause-some
stage_record-requires-clause-some g c = subst (λ (k : Core). 0 < k.log.header.low) (sym c.in_default-mark_named.ensures.marks.0) c.requires.some

pub stage_record-requires-clause-volume : goal.stage_record-requires-clause-volume
stage_record-requires-clause-volume g c = subst (λ (k : Core). c.args.vol < length k.units.vols) (sym c.in_default-mark_named.ensures.marks.0) c.requires.volume

pub stage_record-requires-clause-room : goal.stage_record-requires-clause-room
stage_record-requires-clause-room g c = subst (λ (k : Core). blocks_needed c.args.bytes.now ≤ free_of k.log) (sym c.in_default-mark_named.ensures.marks.0) c.requires.room

pub stage_record-requires-clause-within : goal.stage_record-requires-clause-within
stage_record-requires-clause-within g c =
    subst (λ (k : Core). c.args.start + blocks_in c.args.bytes.now ≤ volume_size k.units.vols (g.S.Shelf.meaning c.mark_named.new.shelf) c.args.vol) (sym c.in_default-mark_named.ensures.marks.0)
    (omega (arith, c.requires.within, volume_same c.args.core.now.units.vols (g.S.Shelf.meaning c.args.shelf.now) (g.S.Shelf.meaning c.mark_named.new.shelf) (record { units = c.mark_named.ensures.moves.units; size = c.mark_named.ensures.moves.size }) c.args.vol))

-- ---- it is refused

pub returns-in-Some-clause-part : goal.returns-in-Some-clause-part
returns-in-Some-clause-part g c = between_none _ true c.args.core.now.maps c.args.core.now.maps refl

pub returns-in-Some-clause-calls : goal.returns-in-Some-clause-calls
returns-in-Some-clause-calls g c = λ all. tt

pub returns-in-Some-clause-short : goal.returns-in-Some-clause-short
returns-in-Some-clause-short g c = λ all fits. still_short 1 (g.S.Shelf.meaning c.args.shelf.now)

pub returns-in-Some-clause-blames : goal.returns-in-Some-clause-blames
returns-in-Some-clause-blames g c = inl (blames_idle (g.S.Shelf.meaning c.args.shelf.now).disks c.args.core.now.units.maps c.in-Some.no c.in-Some.ensures.idle)

pub returns-then-is_down-clause-part : goal.returns-then-is_down-clause-part
returns-then-is_down-clause-part g c = between_none _ true c.args.core.now.maps c.args.core.now.maps refl

pub returns-then-is_down-clause-calls : goal.returns-then-is_down-clause-calls
returns-then-is_down-clause-calls g c = λ all. tt

pub returns-then-is_down-clause-short : goal.returns-then-is_down-clause-short
returns-then-is_down-clause-short g c = λ all fits. still_short 1 (g.S.Shelf.meaning c.args.shelf.now)

pub returns-then-is_down-clause-blames : goal.returns-then-is_down-clause-blames
returns-then-is_down-clause-blames g c = inl tt

-- ---- the marks could not be written

pub returns-in-Err-clause-answers : goal.returns-in-Err-clause-answers
returns-in-Err-clause-answers g c = stopped_alone c.args.core.now c.mark_named.new.core (sym c.in_default.ensures.is) c.args.vol c.args.start c.args.bytes.now (g.S.Shelf.meaning c.args.shelf.now) (g.S.Shelf.meaning c.mark_named.new.shelf) c.in-Err.no c.in-Err.ensures.marks

pub returns-in-Err-clause-unchanged : goal.returns-in-Err-clause-unchanged
returns-in-Err-clause-unchanged g c = no_refusal c.args.core.now _ (sym c.in_default.ensures.is)

pub returns-in-Err-clause-part : goal.returns-in-Err-clause-part
returns-in-Err-clause-part g c = subst (λ (n : ℕ). MapsBetween (λ k w q. IsOfSlots c.args.marks c.args.vol (c.args.start / 64) n k w q) true c.args.core.now.maps c.mark_named.new.core.maps) c.end_region-last.ensures c.mark_named.ensures.part

pub returns-in-Err-clause-moves : goal.returns-in-Err-clause-moves
returns-in-Err-clause-moves g c =
    subst (λ (n : ℕ). Moves (Union (map_run c.args.core.now) (Run c.args.core.now.units.srl 0 (c.args.core.now.log.ring + 2))) (StagedMarking c.args.core.now (λ (r : ℕ). IsPlaceOfSlots c.args.core.now.maps c.args.marks c.args.vol (c.args.start / 64) n r) true (g.S.Shelf.meaning c.args.shelf.now)) (g.S.Shelf.meaning c.args.shelf.now) (g.S.Shelf.meaning c.mark_named.new.shelf)) c.end_region-last.ensures
    (marks_alone c.args.core.now (λ (r : ℕ). IsPlaceOfSlots c.args.core.now.maps c.args.marks c.args.vol (c.args.start / 64) c.end_region-last.result r) (g.S.Shelf.meaning c.args.shelf.now) (g.S.Shelf.meaning c.mark_named.new.shelf) c.mark_named.ensures.moves)

pub returns-in-Err-clause-calls : goal.returns-in-Err-clause-calls
returns-in-Err-clause-calls g c = λ all. tt

pub returns-in-Err-clause-short : goal.returns-in-Err-clause-short
returns-in-Err-clause-short g c = λ all fits.
    subst (λ (n : Meaning). FallsShort 1 (g.S.Shelf.meaning c.args.shelf.now) n) (sym (ap (λ s. g.S.Shelf.meaning s) (c.mark_named.ensures.nothing (subst (λ (n : ℕ). SlotsMarked c.args.marks c.args.vol (c.args.start / 64) n c.args.core.now.maps) (sym c.end_region-last.ensures) all)))) (still_short 1 (g.S.Shelf.meaning c.args.shelf.now))

pub returns-in-Err-clause-blames : goal.returns-in-Err-clause-blames
returns-in-Err-clause-blames g c = inl c.in-Err.ensures.blames

-- ---- the write behind the marks

pub returns-clause-answers : goal.returns-clause-answers
returns-clause-answers g c = staged_since c.args.core.now c.mark_named.new.core c.in_default-mark_named.ensures.marks.0 (sym c.in_default.ensures.is) c.stage_record.result c.stage_record.new.core c.args.vol c.args.start c.args.bytes.now (g.S.Shelf.meaning c.mark_named.new.shelf) (g.S.Shelf.meaning c.stage_record.new.shelf) c.stage_record.ensures.answers (g.S.Shelf.meaning c.args.shelf.now) c.mark_named.ensures.moves.disk_faults

pub returns-clause-unchanged : goal.returns-clause-unchanged
returns-clause-unchanged g c = no_refusal c.args.core.now _ (sym c.in_default.ensures.is)

pub returns-clause-staged : goal.returns-clause-staged
returns-clause-staged g c = staged_marks c.args.core.now c.mark_named.new.core c.in_default-mark_named.ensures.marks.0 (sym c.in_default.ensures.is) c.stage_record.result c.stage_record.new.core c.args.vol c.args.start c.args.bytes.now (g.S.Shelf.meaning c.mark_named.new.shelf) (g.S.Shelf.meaning c.stage_record.new.shelf) c.stage_record.ensures.answers (record { volume = c.args.vol; start = c.args.start; bytes = c.args.bytes.now }) (g.S.Shelf.meaning c.args.shelf.now) c.in_default-mark_named.ensures.stands c.stage_record.ensures.staged

pub returns-clause-marked : goal.returns-clause-marked
returns-clause-marked g c =
    on_always c.stage_record.result
    (subst (λ (n : ℕ). SlotsMarked c.args.marks c.args.vol (c.args.start / 64) n c.stage_record.new.core.maps) c.end_region-last.ensures
    (subst (λ (d : Maps). SlotsMarked c.args.marks c.args.vol (c.args.start / 64) c.end_region-last.result d) (sym (staged_maps c.args.core.now c.mark_named.new.core c.in_default-mark_named.ensures.marks.0 (sym c.in_default.ensures.is) c.stage_record.result c.stage_record.new.core c.args.vol c.args.start c.args.bytes.now (g.S.Shelf.meaning c.mark_named.new.shelf) (g.S.Shelf.meaning c.stage_record.new.shelf) c.stage_record.ensures.answers)) c.in_default-mark_named.ensures.marked))

pub returns-clause-part : goal.returns-clause-part
returns-clause-part g c =
    subst (λ (n : ℕ). MapsBetween (λ k w q. IsOfSlots c.args.marks c.args.vol (c.args.start / 64) n k w q) true c.args.core.now.maps c.stage_record.new.core.maps) c.end_region-last.ensures
    (subst (λ (d : Maps). MapsBetween (λ k w q. IsOfSlots c.args.marks c.args.vol (c.args.start / 64) c.end_region-last.result k w q) true c.args.core.now.maps d) (sym (staged_maps c.args.core.now c.mark_named.new.core c.in_default-mark_named.ensures.marks.0 (sym c.in_default.ensures.is) c.stage_record.result c.stage_record.new.core c.args.vol c.args.start c.args.bytes.now (g.S.Shelf.meaning c.mark_named.new.shelf) (g.S.Shelf.meaning c.stage_record.new.shelf) c.stage_record.ensures.answers)) c.mark_named.ensures.part)

pub returns-clause-moves : goal.returns-clause-moves
returns-clause-moves g c =
    subst (λ (n : ℕ). Moves (Union (map_run c.args.core.now) (Run c.args.core.now.units.srl 0 (c.args.core.now.log.ring + 2))) (StagedMarking c.args.core.now (λ (r : ℕ). IsPlaceOfSlots c.args.core.now.maps c.args.marks c.args.vol (c.args.start / 64) n r) true (g.S.Shelf.meaning c.args.shelf.now)) (g.S.Shelf.meaning c.args.shelf.now) (g.S.Shelf.meaning c.stage_record.new.shelf)) c.end_region-last.ensures
    (staging_moves c.args.core.now c.mark_named.new.core c.in_default-mark_named.ensures.marks.0 (λ (r : ℕ). IsPlaceOfSlots c.args.core.now.maps c.args.marks c.args.vol (c.args.start / 64) c.end_region-last.result r) (g.S.Shelf.meaning c.args.shelf.now) (g.S.Shelf.meaning c.mark_named.new.shelf) c.requires.sound.maps c.mark_named.ensures.sound.maps c.in_default-mark_named.ensures.stands c.mark_named.ensures.bits c.mark_named.ensures.place.long (g.S.Shelf.meaning c.stage_record.new.shelf) c.mark_named.ensures.moves c.stage_record.ensures.moves)

pub returns-clause-calls : goal.returns-clause-calls
returns-clause-calls g c = λ all.
    calls_same 1 c.stage_record.result c.args.core.now.log c.mark_named.new.core.log c.args.bytes.now (g.S.Shelf.meaning c.args.shelf.now) (g.S.Shelf.meaning c.mark_named.new.shelf) (g.S.Shelf.meaning c.stage_record.new.shelf)
    (ap (λ s. g.S.Shelf.meaning s) (c.mark_named.ensures.nothing (subst (λ (n : ℕ). SlotsMarked c.args.marks c.args.vol (c.args.start / 64) n c.args.core.now.maps) (sym c.end_region-last.ensures) all)))
    (log_is c.args.core.now c.mark_named.new.core c.in_default-mark_named.ensures.marks.0) c.stage_record.ensures.calls

pub returns-clause-short : goal.returns-clause-short
returns-clause-short g c = λ all.
    short_same 1 c.args.core.now.log c.mark_named.new.core.log c.args.bytes.now (g.S.Shelf.meaning c.args.shelf.now) (g.S.Shelf.meaning c.mark_named.new.shelf) (g.S.Shelf.meaning c.stage_record.new.shelf)
    (ap (λ s. g.S.Shelf.meaning s) (c.mark_named.ensures.nothing (subst (λ (n : ℕ). SlotsMarked c.args.marks c.args.vol (c.args.start / 64) n c.args.core.now.maps) (sym c.end_region-last.ensures) all)))
    (log_is c.args.core.now c.mark_named.new.core c.in_default-mark_named.ensures.marks.0) c.stage_record.ensures.short

pub returns-clause-blames : goal.returns-clause-blames
returns-clause-blames g c =
    blames_log c.stage_record.result (g.S.Shelf.meaning c.args.shelf.now) (g.S.Shelf.meaning c.mark_named.new.shelf) c.args.core.now c.mark_named.new.core c.mark_named.ensures.spends (ap (λ (l : Log). l.unit) (log_is c.args.core.now c.mark_named.new.core c.in_default-mark_named.ensures.marks.0)) c.stage_record.ensures.blames

pub returns-clause-least : goal.returns-clause-least
returns-clause-least g c = least_behind 1 c.stage_record.result (g.S.Shelf.meaning c.args.shelf.now) (g.S.Shelf.meaning c.mark_named.new.shelf) (g.S.Shelf.meaning c.stage_record.new.shelf) c.mark_named.ensures.spends c.in_default-mark_named.ensures.marks.1 c.stage_record.ensures.least

pub returns-clause-spends : goal.returns-clause-spends
returns-clause-spends g c = then_spends _ _ _ c.mark_named.ensures.spends c.stage_record.ensures.spends

pub returns-clause-works : goal.returns-clause-works
returns-clause-works g c = works_behind c.stage_record.result (g.S.Shelf.meaning c.args.shelf.now) (g.S.Shelf.meaning c.mark_named.new.shelf) c.args.core.now c.mark_named.new.core c.mark_named.ensures.spends (log_is c.args.core.now c.mark_named.new.core c.in_default-mark_named.ensures.marks.0) c.stage_record.ensures.works

pub returns-in-Some-clause-unchanged : goal.returns-in-Some-clause-unchanged
returns-in-Some-clause-unchanged g c = λ is. refl

pub returns-in-Some-clause-sound : goal.returns-in-Some-clause-sound
returns-in-Some-clause-sound g c = c.requires.sound

pub returns-in-Some-clause-marked : goal.returns-in-Some-clause-marked
returns-in-Some-clause-marked g c = tt

pub returns-in-Some-clause-least : goal.returns-in-Some-clause-least
returns-in-Some-clause-least g c = tt

pub returns-in-Some-clause-works : goal.returns-in-Some-clause-works
returns-in-Some-clause-works g c = tt

pub returns-in-Some-clause-spends : goal.returns-in-Some-clause-spends
returns-in-Some-clause-spends g c = spends_none (g.S.Shelf.meaning c.args.shelf.now)

pub returns-then-is_down-clause-unchanged : goal.returns-then-is_down-clause-unchanged
returns-then-is_down-clause-unchanged g c = λ is. refl

pub returns-then-is_down-clause-sound : goal.returns-then-is_down-clause-sound
returns-then-is_down-clause-sound g c = c.requires.sound

pub returns-then-is_down-clause-marked : goal.returns-then-is_down-clause-marked
returns-then-is_down-clause-marked g c = tt

pub returns-then-is_down-clause-least : goal.returns-then-is_down-clause-least
returns-then-is_down-clause-least g c = tt

pub returns-then-is_down-clause-works : goal.returns-then-is_down-clause-works
returns-then-is_down-clause-works g c = tt

pub returns-then-is_down-clause-spends : goal.returns-then-is_down-clause-spends
returns-then-is_down-clause-spends g c = spends_none (g.S.Shelf.meaning c.args.shelf.now)

pub returns-in-Err-clause-sound : goal.returns-in-Err-clause-sound
returns-in-Err-clause-sound g c = c.mark_named.ensures.sound

pub returns-in-Err-clause-spends : goal.returns-in-Err-clause-spends
returns-in-Err-clause-spends g c = c.mark_named.ensures.spends

pub returns-in-Err-clause-marked : goal.returns-in-Err-clause-marked
returns-in-Err-clause-marked g c = tt

pub returns-in-Err-clause-least : goal.returns-in-Err-clause-least
returns-in-Err-clause-least g c = tt

pub returns-in-Err-clause-works : goal.returns-in-Err-clause-works
returns-in-Err-clause-works g c = tt

pub returns-clause-sound : goal.returns-clause-sound
returns-clause-sound g c = c.stage_record.ensures.sound
