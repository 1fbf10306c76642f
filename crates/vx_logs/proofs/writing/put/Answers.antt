-- A write of the plexes, and notes for those that failed.
use Rattle.std.proofs.Common.{◌/◌, ◌<◌, length, true, refl, arith}
use Rattle.vx_disk.specs.Shelf.{Goes}
use Rattle.vx_config.specs.Checks.{blocks_of}
use Rattle.vx_volume.proofs.CopyLemmas.{disks_still}
use Rattle.vx_logs.specs.Noting.{FmrAt, FmrEnds, is_one}
use Rattle.vx_logs.specs.Writes.{first_region, last_region}
use Rattle.vx_logs.proofs.MarkLemmas.{fits_later, fmr_ready, same_drl}
use Rattle.vx_logs.proofs.PutLemmas.{both_puts, failed_below, first_last, first_puts, is_put, last_inside, renamed}
use Rattle.vx_logs.proofs.writing.put.Goals as goal

pub last_region-last-requires-clause-end : goal.last_region-last-requires-clause-end
last_region-last-requires-clause-end g c = omega (arith, c.requires.within, c.blocks_of-end.ensures, c.blocks_of-end.type_inv)

pub last_region-last-requires-clause-some : goal.last_region-last-requires-clause-some
last_region-last-requires-clause-some g c = omega (arith, c.requires.many, c.requires.whole)

pub note_missed-requires-clause-ready : goal.note_missed-requires-clause-ready
note_missed-requires-clause-ready g c =
    let n : 0 < length c.args.bytes.now / 512 = omega (arith, c.requires.many, c.requires.whole) in
    fmr_ready c.args.config.now c.requires.checked c.args.vol (omega (arith, n, c.requires.within)) c.args.logs.now c.requires.fits c.in-Ok.failed.set c.last_region-last.result (g.S.Shelf.meaning c.write_all.new.shelf)
    (disks_still c.args.config.now.disks (g.S.Shelf.meaning c.args.shelf.now) (g.S.Shelf.meaning c.write_all.new.shelf) c.requires.disks c.write_all.ensures.goes.units c.write_all.ensures.goes.size)
    (let lt = last_inside (blocks_of c.args.config.now.volumes c.args.vol) c.args.block (length c.args.bytes.now / 512) n c.requires.within in omega (arith, lt, c.last_region-last.ensures))
    (failed_below c.args.config.now c.requires.checked c.args.vol (omega (arith, n, c.requires.within)) c.args.logs.now c.requires.fits (g.S.Shelf.meaning c.args.shelf.now) c.requires.disks c.args.block (length c.args.bytes.now / 512) c.args.bytes.now c.requires.volume c.requires.within
    (g.S.Shelf.meaning c.write_all.new.shelf) c.write_all.ensures.goes c.in-Ok.failed c.in-Ok.ensures.ends.0)

pub note_missed-requires-clause-some : goal.note_missed-requires-clause-some
note_missed-requires-clause-some g c =
    let n : 0 < length c.args.bytes.now / 512 = omega (arith, c.requires.many, c.requires.whole) in
    let le = first_last c.args.block (length c.args.bytes.now / 512) n in
    omega (arith, le, c.first_region-first.ensures, c.last_region-last.ensures)

pub returns-in-Ok-note_missed-clause-writes : goal.returns-in-Ok-note_missed-clause-writes
returns-in-Ok-note_missed-clause-writes g c =
    let n : 0 < length c.args.bytes.now / 512 = omega (arith, c.requires.many, c.requires.whole) in
    both_puts c.args.config.now c.requires.checked c.args.vol (omega (arith, n, c.requires.within)) c.args.logs.now c.requires.fits (g.S.Shelf.meaning c.args.shelf.now) c.requires.disks c.args.block (length c.args.bytes.now / 512) c.args.bytes.now c.requires.volume c.requires.within
    (g.S.Shelf.meaning c.write_all.new.shelf) c.write_all.ensures.goes c.in-Ok.failed c.in-Ok.ensures.ends.0 (g.S.Shelf.meaning c.note_missed.new.shelf)
    (renamed (λ a b. Goes (FmrAt (is_one c.in-Ok.failed.set) true a b c.args.logs.now.fmr (g.S.Shelf.meaning c.write_all.new.shelf)) (g.S.Shelf.meaning c.write_all.new.shelf) (g.S.Shelf.meaning c.note_missed.new.shelf)) c.first_region-first.result c.last_region-last.result
    (first_region c.args.block) (last_region c.args.block (length c.args.bytes.now / 512)) c.first_region-first.ensures c.last_region-last.ensures c.note_missed.ensures.writes)

pub returns-in-Ok-note_missed-clause-puts : goal.returns-in-Ok-note_missed-clause-puts
returns-in-Ok-note_missed-clause-puts g c =
    let n : 0 < length c.args.bytes.now / 512 = omega (arith, c.requires.many, c.requires.whole) in
    is_put c.args.config.now c.requires.checked c.args.vol (omega (arith, n, c.requires.within)) c.args.logs.now c.requires.fits (g.S.Shelf.meaning c.args.shelf.now) c.requires.disks c.args.block (length c.args.bytes.now / 512) c.args.bytes.now c.requires.volume c.requires.within
    (g.S.Shelf.meaning c.write_all.new.shelf) c.write_all.ensures.goes c.in-Ok.failed c.in-Ok.ensures.ends.0 (g.S.Shelf.meaning c.note_missed.new.shelf)
    (renamed (λ a b. Goes (FmrAt (is_one c.in-Ok.failed.set) true a b c.args.logs.now.fmr (g.S.Shelf.meaning c.write_all.new.shelf)) (g.S.Shelf.meaning c.write_all.new.shelf) (g.S.Shelf.meaning c.note_missed.new.shelf)) c.first_region-first.result c.last_region-last.result
    (first_region c.args.block) (last_region c.args.block (length c.args.bytes.now / 512)) c.first_region-first.ensures c.last_region-last.ensures c.note_missed.ensures.writes)
    (λ down. c.in-Ok.ensures.ends.0.up (c.in-Ok-note_missed.ensures.answers.1 down)) c.in-Ok-note_missed.lost (record { drl = c.args.logs.now.drl; fmr = c.note_missed.new.fmr }) c.in-Ok.ensures.ends.1 refl
    (renamed (λ a b. FmrEnds (is_one c.in-Ok.failed.set) true a b c.in-Ok-note_missed.lost c.args.logs.now.fmr c.note_missed.new.fmr (g.S.Shelf.meaning c.write_all.new.shelf) (g.S.Shelf.meaning c.note_missed.new.shelf)) c.first_region-first.result c.last_region-last.result
    (first_region c.args.block) (last_region c.args.block (length c.args.bytes.now / 512)) c.first_region-first.ensures c.last_region-last.ensures c.in-Ok-note_missed.ensures.answers.0)

pub returns-in-Ok-note_missed-clause-fits : goal.returns-in-Ok-note_missed-clause-fits
returns-in-Ok-note_missed-clause-fits g c =
    fits_later c.args.config.now c.args.vol c.args.logs.now (record { drl = c.args.logs.now.drl; fmr = c.note_missed.new.fmr }) c.requires.fits (same_drl c.args.logs.now.drl) c.note_missed.ensures.keeps

pub returns-in-Err-note_missed-clause-writes : goal.returns-in-Err-note_missed-clause-writes
returns-in-Err-note_missed-clause-writes g c =
    let n : 0 < length c.args.bytes.now / 512 = omega (arith, c.requires.many, c.requires.whole) in
    both_puts c.args.config.now c.requires.checked c.args.vol (omega (arith, n, c.requires.within)) c.args.logs.now c.requires.fits (g.S.Shelf.meaning c.args.shelf.now) c.requires.disks c.args.block (length c.args.bytes.now / 512) c.args.bytes.now c.requires.volume c.requires.within
    (g.S.Shelf.meaning c.write_all.new.shelf) c.write_all.ensures.goes c.in-Ok.failed c.in-Ok.ensures.ends.0 (g.S.Shelf.meaning c.note_missed.new.shelf)
    (renamed (λ a b. Goes (FmrAt (is_one c.in-Ok.failed.set) true a b c.args.logs.now.fmr (g.S.Shelf.meaning c.write_all.new.shelf)) (g.S.Shelf.meaning c.write_all.new.shelf) (g.S.Shelf.meaning c.note_missed.new.shelf)) c.first_region-first.result c.last_region-last.result
    (first_region c.args.block) (last_region c.args.block (length c.args.bytes.now / 512)) c.first_region-first.ensures c.last_region-last.ensures c.note_missed.ensures.writes)

pub returns-in-Err-note_missed-clause-fits : goal.returns-in-Err-note_missed-clause-fits
returns-in-Err-note_missed-clause-fits g c =
    fits_later c.args.config.now c.args.vol c.args.logs.now (record { drl = c.args.logs.now.drl; fmr = c.note_missed.new.fmr }) c.requires.fits (same_drl c.args.logs.now.drl) c.note_missed.ensures.keeps

pub returns-in-Err-clause-writes : goal.returns-in-Err-clause-writes
returns-in-Err-clause-writes g c =
    let n : 0 < length c.args.bytes.now / 512 = omega (arith, c.requires.many, c.requires.whole) in
    first_puts c.args.config.now c.requires.checked c.args.vol (omega (arith, n, c.requires.within)) c.args.logs.now c.requires.fits (g.S.Shelf.meaning c.args.shelf.now) c.requires.disks c.args.block (length c.args.bytes.now / 512) c.args.bytes.now c.requires.volume c.requires.within
    (g.S.Shelf.meaning c.write_all.new.shelf) c.write_all.ensures.goes
