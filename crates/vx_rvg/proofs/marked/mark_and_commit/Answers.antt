-- The marks of a write, and the write behind them.
use Rattle.std.proofs.Common.{◌∙◌, ℕ, ◌+◌, ◌/◌, ◌<◌, ◌≤◌, [], ◌∷◌, inl, length, true, ap, arith, subst, sym}
use Rattle.std.proofs.lemmas.Result.{on_ok_weaker}
use Rattle.vx_model.specs.Content.{blocks_in}
use Rattle.vx_disk.specs.Burns.{FallsShort}
use Rattle.vx_disk.specs.Moves.{Moves, Run, Union}
use Rattle.vx_disk.specs.Shelf.{Meaning}
use Rattle.vx_disk.proofs.Spending.{on_always, then_spends}
use Rattle.vx_dcm.specs.Places.{HasRegion, IsOfSlots, IsPlaceOfSlots, Maps, MapsBetween, SlotsMarked}
use Rattle.vx_dcm.proofs.SlotMarks.{slots_all}
use Rattle.vx_srl.specs.Views.{Log, blocks_needed, free_of, most_number}
use Rattle.vx_rvg.specs.Holdings.{with_writes}
use Rattle.vx_rvg.specs.Marks.{MarkedWriting, map_run, with_marks}
use Rattle.vx_rvg.specs.Stands.{Stands}
use Rattle.vx_rvg.specs.Views.{Core, last_of, volume_size}
use Rattle.vx_rvg.proofs.Blaming.{works_behind}
use Rattle.vx_rvg.proofs.MapStands.{is_up}
use Rattle.vx_rvg.proofs.MarkStands.{alone_sound, halted_log, moves_alone, remarks_alone, stays_up}
use Rattle.vx_rvg.proofs.MarkedStands.{blames_log, calls_same, least_behind, log_is, maps_kept, marked_moves, marked_writes, marks_fail, marks_first, regions_ordered, short_same, write_region}
use Rattle.vx_rvg.proofs.WriteCommit.{sound_staged}
use Rattle.vx_rvg.proofs.WriteSound.{volume_same}
use Rattle.vx_rvg.proofs.marked.mark_and_commit.Goals as goal

pub mark_named-requires-clause-sound : goal.mark_named-requires-clause-sound
mark_named-requires-clause-sound g c = sound_staged c.args.core.now (g.S.Shelf.meaning c.args.shelf.now) (c.requires.sound.idle c.requires.running c.requires.up) c.requires.sound

pub mark_named-requires-clause-some : goal.mark_named-requires-clause-some
mark_named-requires-clause-some g c = subst (λ (n : ℕ). c.args.start / 64 ≤ n) (sym c.end_region-last.ensures) (regions_ordered c.args.start (blocks_in c.args.bytes.now) (omega (arith, c.requires.blocks.some, c.requires.blocks.whole)))

pub mark_named-requires-clause-exists : goal.mark_named-requires-clause-exists
mark_named-requires-clause-exists g c =
    subst (λ (n : ℕ). HasRegion c.args.core.now.maps 0 c.args.vol n) (sym c.end_region-last.ensures)
    (write_region c.args.core.now (g.S.Shelf.meaning c.args.shelf.now) c.requires.sound c.args.vol c.args.start (blocks_in c.args.bytes.now) c.requires.volume (omega (arith, c.requires.blocks.some, c.requires.blocks.whole)) c.requires.within)

-- ---- what the log asks behind the marks

pub commit-requires-clause-sound : goal.commit-requires-clause-sound
commit-requires-clause-sound g c =
    alone_sound c.args.core.now c.mark_named.new.core (g.S.Shelf.meaning c.mark_named.new.shelf) (c.requires.sound.idle c.requires.running c.requires.up) (log_is c.args.core.now c.mark_named.new.core c.in_default.ensures.marks.0) c.mark_named.ensures.sound

pub commit-requires-clause-some : goal.commit-requires-clause-some
commit-requires-clause-some g c = subst (λ (k : Core). 0 < k.log.header.low) (sym c.in_default.ensures.marks.0) c.requires.some

pub commit-requires-clause-running : goal.commit-requires-clause-running
commit-requires-clause-running g c = ap (λ (k : Core). k.halted) c.in_default.ensures.marks.0 ∙ c.requires.running

pub commit-requires-clause-up : goal.commit-requires-clause-up
commit-requires-clause-up g c = is_up _ c.in_default.ensures.marks.1

pub commit-requires-clause-volume : goal.commit-requires-clause-volume
commit-requires-clause-volume g c = subst (λ (k : Core). c.args.vol < length k.units.vols) (sym c.in_default.ensures.marks.0) c.requires.volume

pub commit-requires-clause-room : goal.commit-requires-clause-room
commit-requires-clause-room g c = subst (λ (k : Core). blocks_needed c.args.bytes.now ≤ free_of k.log) (sym c.in_default.ensures.marks.0) c.requires.room

pub commit-requires-clause-within : goal.commit-requires-clause-within
commit-requires-clause-within g c =
    subst (λ (k : Core). c.args.start + blocks_in c.args.bytes.now ≤ volume_size k.units.vols (g.S.Shelf.meaning c.mark_named.new.shelf) c.args.vol) (sym c.in_default.ensures.marks.0)
    (omega (arith, c.requires.within, volume_same c.args.core.now.units.vols (g.S.Shelf.meaning c.args.shelf.now) (g.S.Shelf.meaning c.mark_named.new.shelf) (record { units = c.mark_named.ensures.moves.units; size = c.mark_named.ensures.moves.size }) c.args.vol))

pub commit-requires-clause-number : goal.commit-requires-clause-number
commit-requires-clause-number g c = subst (λ (k : Core). last_of k < most_number) (sym c.in_default.ensures.marks.0) c.requires.number

-- ---- the marks could not be written

pub returns-in-Err-clause-writes : goal.returns-in-Err-clause-writes
returns-in-Err-clause-writes g c = marks_fail c.args.core.now c.mark_named.new.core c.args.vol c.args.start c.args.bytes.now (g.S.Shelf.meaning c.args.shelf.now) (g.S.Shelf.meaning c.mark_named.new.shelf) c.in-Err.no c.in-Err.ensures.marks

pub returns-in-Err-clause-sound : goal.returns-in-Err-clause-sound
returns-in-Err-clause-sound g c =
    alone_sound c.args.core.now c.mark_named.new.core (g.S.Shelf.meaning c.mark_named.new.shelf) (c.requires.sound.idle c.requires.running c.requires.up)
    (halted_log c.in-Err.no (record c.args.core.now { maps = c.mark_named.new.core.maps }) c.mark_named.new.core c.in-Err.ensures.marks.0) c.mark_named.ensures.sound

pub returns-in-Err-clause-part : goal.returns-in-Err-clause-part
returns-in-Err-clause-part g c =
    subst (λ (n : ℕ). MapsBetween (λ k w q. IsOfSlots c.args.marks c.args.vol (c.args.start / 64) n k w q) true c.args.core.now.maps c.mark_named.new.core.maps) c.end_region-last.ensures c.mark_named.ensures.part

pub returns-in-Err-clause-moves : goal.returns-in-Err-clause-moves
returns-in-Err-clause-moves g c =
    subst (λ (n : ℕ). Moves (Union (map_run c.args.core.now) (Run c.args.core.now.units.srl 0 (c.args.core.now.log.ring + 2))) (MarkedWriting c.args.core.now (λ (r : ℕ). IsPlaceOfSlots c.args.core.now.maps c.args.marks c.args.vol (c.args.start / 64) n r) (record { volume = c.args.vol; start = c.args.start; bytes = c.args.bytes.now }) (g.S.Shelf.meaning c.args.shelf.now)) (g.S.Shelf.meaning c.args.shelf.now) (g.S.Shelf.meaning c.mark_named.new.shelf)) c.end_region-last.ensures
    (marks_first c.args.core.now (λ (r : ℕ). IsPlaceOfSlots c.args.core.now.maps c.args.marks c.args.vol (c.args.start / 64) c.end_region-last.result r) (record { volume = c.args.vol; start = c.args.start; bytes = c.args.bytes.now }) (g.S.Shelf.meaning c.args.shelf.now) (g.S.Shelf.meaning c.mark_named.new.shelf) (moves_alone c.args.core.now (λ (r : ℕ). IsPlaceOfSlots c.args.core.now.maps c.args.marks c.args.vol (c.args.start / 64) c.end_region-last.result r) true (g.S.Shelf.meaning c.args.shelf.now) (g.S.Shelf.meaning c.mark_named.new.shelf) c.mark_named.ensures.moves))

pub returns-in-Err-clause-calls : goal.returns-in-Err-clause-calls
returns-in-Err-clause-calls g c = λ all. tt

pub returns-in-Err-clause-short : goal.returns-in-Err-clause-short
returns-in-Err-clause-short g c = λ all fits.
    subst (λ (n : Meaning). FallsShort 4 (g.S.Shelf.meaning c.args.shelf.now) n)
    (sym (ap (λ s. g.S.Shelf.meaning s) (c.mark_named.ensures.nothing (subst (λ (n : ℕ). SlotsMarked c.args.marks c.args.vol (c.args.start / 64) n c.args.core.now.maps) (sym c.end_region-last.ensures) all))))
    (record { left = λ up down. absurd (stays_up _ _ up (λ is. is) down) })

pub returns-in-Err-clause-blames : goal.returns-in-Err-clause-blames
returns-in-Err-clause-blames g c = inl c.in-Err.ensures.blames

-- ---- the write behind the marks

pub returns-clause-writes : goal.returns-clause-writes
returns-clause-writes g c =
    marked_writes c.args.core.now c.mark_named.new.core c.in_default.ensures.marks.0 c.commit.result c.commit.new.core c.args.vol c.args.start c.args.bytes.now (g.S.Shelf.meaning c.args.shelf.now) (g.S.Shelf.meaning c.mark_named.new.shelf) (g.S.Shelf.meaning c.commit.new.shelf) c.mark_named.ensures.moves.disk_faults c.commit.ensures.writes

pub returns-clause-stands : goal.returns-clause-stands
returns-clause-stands g c =
    let kept = maps_kept c.commit.result c.mark_named.new.core c.commit.new.core c.args.vol c.args.start c.args.bytes.now (g.S.Shelf.meaning c.mark_named.new.shelf) (g.S.Shelf.meaning c.commit.new.shelf) c.commit.ensures.writes in
    on_ok_weaker c.commit.result
    (λ stand h stands all. subst (λ (d : Maps). Stands c.commit.new.core (with_writes ((record { volume = c.args.vol; start = c.args.start; bytes = c.args.bytes.now }) ∷ []) (with_marks d h)) (g.S.Shelf.meaning c.commit.new.shelf)) (sym kept) (stand (with_marks c.mark_named.new.core.maps h) ((remarks_alone c.args.core.now c.mark_named.new.core (g.S.Shelf.meaning c.args.shelf.now) (g.S.Shelf.meaning c.mark_named.new.shelf) c.in_default.ensures.stands).each h stands all)))
    c.commit.ensures.stands

pub returns-clause-marked : goal.returns-clause-marked
returns-clause-marked g c =
    let kept = maps_kept c.commit.result c.mark_named.new.core c.commit.new.core c.args.vol c.args.start c.args.bytes.now (g.S.Shelf.meaning c.mark_named.new.shelf) (g.S.Shelf.meaning c.commit.new.shelf) c.commit.ensures.writes in
    on_always c.commit.result
    (subst (λ (n : ℕ). SlotsMarked c.args.marks c.args.vol (c.args.start / 64) n c.commit.new.core.maps) c.end_region-last.ensures
    (subst (λ (d : Maps). SlotsMarked c.args.marks c.args.vol (c.args.start / 64) c.end_region-last.result d) (sym kept) c.in_default.ensures.marked))

pub returns-clause-part : goal.returns-clause-part
returns-clause-part g c =
    let kept = maps_kept c.commit.result c.mark_named.new.core c.commit.new.core c.args.vol c.args.start c.args.bytes.now (g.S.Shelf.meaning c.mark_named.new.shelf) (g.S.Shelf.meaning c.commit.new.shelf) c.commit.ensures.writes in
    subst (λ (n : ℕ). MapsBetween (λ k w q. IsOfSlots c.args.marks c.args.vol (c.args.start / 64) n k w q) true c.args.core.now.maps c.commit.new.core.maps) c.end_region-last.ensures
    (subst (λ (d : Maps). MapsBetween (λ k w q. IsOfSlots c.args.marks c.args.vol (c.args.start / 64) c.end_region-last.result k w q) true c.args.core.now.maps d) (sym kept) c.mark_named.ensures.part)

pub returns-clause-moves : goal.returns-clause-moves
returns-clause-moves g c =
    subst (λ (n : ℕ). Moves (Union (map_run c.args.core.now) (Run c.args.core.now.units.srl 0 (c.args.core.now.log.ring + 2))) (MarkedWriting c.args.core.now (λ (r : ℕ). IsPlaceOfSlots c.args.core.now.maps c.args.marks c.args.vol (c.args.start / 64) n r) (record { volume = c.args.vol; start = c.args.start; bytes = c.args.bytes.now }) (g.S.Shelf.meaning c.args.shelf.now)) (g.S.Shelf.meaning c.args.shelf.now) (g.S.Shelf.meaning c.commit.new.shelf)) c.end_region-last.ensures
    (marked_moves c.args.core.now c.mark_named.new.core c.in_default.ensures.marks.0 (λ (r : ℕ). IsPlaceOfSlots c.args.core.now.maps c.args.marks c.args.vol (c.args.start / 64) c.end_region-last.result r) (g.S.Shelf.meaning c.args.shelf.now) (g.S.Shelf.meaning c.mark_named.new.shelf) c.requires.sound
    (alone_sound c.args.core.now c.mark_named.new.core (g.S.Shelf.meaning c.mark_named.new.shelf) (c.requires.sound.idle c.requires.running c.requires.up) (log_is c.args.core.now c.mark_named.new.core c.in_default.ensures.marks.0) c.mark_named.ensures.sound)
    (remarks_alone c.args.core.now c.mark_named.new.core (g.S.Shelf.meaning c.args.shelf.now) (g.S.Shelf.meaning c.mark_named.new.shelf) c.in_default.ensures.stands) c.mark_named.ensures.bits c.mark_named.ensures.place.long
    (record { volume = c.args.vol; start = c.args.start; bytes = c.args.bytes.now }) (λ r low own. slots_all c.args.core.now.maps c.mark_named.new.core.maps c.args.marks c.args.vol (c.args.start / 64) c.end_region-last.result c.mark_named.ensures.sizes c.in_default.ensures.marked r own)
    (g.S.Shelf.meaning c.commit.new.shelf)
    (moves_alone c.args.core.now (λ (r : ℕ). IsPlaceOfSlots c.args.core.now.maps c.args.marks c.args.vol (c.args.start / 64) c.end_region-last.result r) true (g.S.Shelf.meaning c.args.shelf.now) (g.S.Shelf.meaning c.mark_named.new.shelf) c.mark_named.ensures.moves) c.commit.ensures.moves)

pub returns-clause-calls : goal.returns-clause-calls
returns-clause-calls g c = λ all.
    calls_same 4 c.commit.result c.args.core.now.log c.mark_named.new.core.log c.args.bytes.now (g.S.Shelf.meaning c.args.shelf.now) (g.S.Shelf.meaning c.mark_named.new.shelf) (g.S.Shelf.meaning c.commit.new.shelf)
    (ap (λ s. g.S.Shelf.meaning s) (c.mark_named.ensures.nothing (subst (λ (n : ℕ). SlotsMarked c.args.marks c.args.vol (c.args.start / 64) n c.args.core.now.maps) (sym c.end_region-last.ensures) all)))
    (log_is c.args.core.now c.mark_named.new.core c.in_default.ensures.marks.0) c.commit.ensures.calls

pub returns-clause-short : goal.returns-clause-short
returns-clause-short g c = λ all.
    short_same 4 c.args.core.now.log c.mark_named.new.core.log c.args.bytes.now (g.S.Shelf.meaning c.args.shelf.now) (g.S.Shelf.meaning c.mark_named.new.shelf) (g.S.Shelf.meaning c.commit.new.shelf)
    (ap (λ s. g.S.Shelf.meaning s) (c.mark_named.ensures.nothing (subst (λ (n : ℕ). SlotsMarked c.args.marks c.args.vol (c.args.start / 64) n c.args.core.now.maps) (sym c.end_region-last.ensures) all)))
    (log_is c.args.core.now c.mark_named.new.core c.in_default.ensures.marks.0) c.commit.ensures.short

pub returns-clause-blames : goal.returns-clause-blames
returns-clause-blames g c =
    blames_log c.commit.result (g.S.Shelf.meaning c.args.shelf.now) (g.S.Shelf.meaning c.mark_named.new.shelf) c.args.core.now c.mark_named.new.core c.mark_named.ensures.spends (ap (λ (l : Log). l.unit) (log_is c.args.core.now c.mark_named.new.core c.in_default.ensures.marks.0)) c.commit.ensures.blames

pub returns-clause-least : goal.returns-clause-least
returns-clause-least g c = least_behind 4 c.commit.result (g.S.Shelf.meaning c.args.shelf.now) (g.S.Shelf.meaning c.mark_named.new.shelf) (g.S.Shelf.meaning c.commit.new.shelf) c.mark_named.ensures.spends c.in_default.ensures.marks.1 c.commit.ensures.least

pub returns-clause-spends : goal.returns-clause-spends
returns-clause-spends g c = then_spends _ _ _ c.mark_named.ensures.spends c.commit.ensures.spends

pub returns-clause-works : goal.returns-clause-works
returns-clause-works g c = works_behind c.commit.result (g.S.Shelf.meaning c.args.shelf.now) (g.S.Shelf.meaning c.mark_named.new.shelf) c.args.core.now c.mark_named.new.core c.mark_named.ensures.spends (log_is c.args.core.now c.mark_named.new.core c.in_default.ensures.marks.0) c.commit.ensures.works
