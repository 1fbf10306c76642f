-- A write of a volume with its logs.
use Rattle.std.proofs.Common.{◌⊎◌, inl, inr, ◌/◌, ◌<◌, length, true, arith}
use Rattle.vx_config.specs.Checks.{blocks_of}
use Rattle.vx_disk.specs.Moves.{Along}
use Rattle.vx_disk.specs.Shelf.{Goes}
use Rattle.vx_volume.proofs.CopyLemmas.{disks_still}
use Rattle.vx_logs.specs.Marks.{MarksFirst}
use Rattle.vx_logs.specs.Writes.{MarkedLogs, MarkedAt, first_region, last_region}
use Rattle.vx_logs.proofs.PutLemmas.{first_last, last_inside, renamed}
use Rattle.vx_logs.proofs.WriteLemmas.{ends_keep, first_Along, mark_Along, mark_writes, marks_refused, puts_refused, was_put, whole_writes}
use Rattle.vx_logs.proofs.writing.write.Goals.{then-lost-via-then-lost, then-lost-via-else-lost+then-lost-2}
use Rattle.vx_logs.proofs.writing.write.Goals as goal

pub last_region-last-requires-clause-end : goal.last_region-last-requires-clause-end
last_region-last-requires-clause-end g c =
    omega (arith, c.requires.within, c.blocks_of-end.ensures, c.blocks_of-end.type_inv)

pub last_region-last-requires-clause-some : goal.last_region-last-requires-clause-some
last_region-last-requires-clause-some g c =
    omega (arith, c.requires.many, c.requires.whole)

pub mark-requires-clause-some : goal.mark-requires-clause-some
mark-requires-clause-some g c =
    let n : 0 < length c.args.bytes.now / 512 = omega (arith, c.requires.many, c.requires.whole) in
    let le = first_last c.args.block (length c.args.bytes.now / 512) n in
    omega (arith, le, c.first_region-first.ensures, c.last_region-last.ensures)

pub mark-requires-clause-inside : goal.mark-requires-clause-inside
mark-requires-clause-inside g c =
    let n : 0 < length c.args.bytes.now / 512 = omega (arith, c.requires.many, c.requires.whole) in
    let lt = last_inside (blocks_of c.args.config.now.volumes c.args.vol) c.args.block (length c.args.bytes.now / 512) n c.requires.within in
    omega (arith, lt, c.last_region-last.ensures)

pub put-requires-clause-disks : goal.put-requires-clause-disks
put-requires-clause-disks g c =
    disks_still c.args.config.now.disks (g.S.Shelf.meaning c.args.shelf.now) (g.S.Shelf.meaning c.mark.new.shelf) c.requires.disks c.mark.ensures.writes.units c.mark.ensures.writes.size

pub returns-then-lost-clause-goes : goal.returns-then-lost-clause-goes
returns-then-lost-clause-goes g c =
    mark_writes c.args.config.now c.args.vol c.args.block (length c.args.bytes.now / 512) c.args.bytes.now c.args.logs.now (g.S.Shelf.meaning c.args.shelf.now) (g.S.Shelf.meaning c.mark.new.shelf)
    (renamed (λ a b. Goes (MarkedAt c.args.config.now c.args.vol a b c.args.logs.now (g.S.Shelf.meaning c.args.shelf.now)) (g.S.Shelf.meaning c.args.shelf.now) (g.S.Shelf.meaning c.mark.new.shelf)) c.first_region-first.result c.last_region-last.result (first_region c.args.block) (last_region c.args.block (length c.args.bytes.now / 512)) c.first_region-first.ensures c.last_region-last.ensures c.mark.ensures.writes)

pub returns-then-lost-clause-first : goal.returns-then-lost-clause-first
returns-then-lost-clause-first g c =
    renamed (λ a b. Along (g.S.Shelf.meaning c.args.shelf.now) (g.S.Shelf.meaning c.mark.new.shelf) (MarksFirst c.args.config.now c.args.vol a b c.args.logs.now (g.S.Shelf.meaning c.args.shelf.now))) c.first_region-first.result c.last_region-last.result (first_region c.args.block) (last_region c.args.block (length c.args.bytes.now / 512)) c.first_region-first.ensures c.last_region-last.ensures
    (mark_Along c.args.config.now c.args.vol c.first_region-first.result c.last_region-last.result c.args.logs.now (g.S.Shelf.meaning c.args.shelf.now) (g.S.Shelf.meaning c.mark.new.shelf) c.mark.ensures.writes)

pub returns-then-lost-clause-writes : goal.returns-then-lost-clause-writes
returns-then-lost-clause-writes g c =
    record {
      some = elim c.then-lost.branch [ then-lost-via-then-lost w ↦ inl w.if-lost.true | then-lost-via-else-lost+then-lost-2 w ↦ inr w.if-lost-2.true ];
      marked = renamed (λ a b. MarkedLogs c.args.config.now c.args.vol a b c.in-Ok.lost c.args.logs.now c.mark.new.logs (g.S.Shelf.meaning c.args.shelf.now) (g.S.Shelf.meaning c.mark.new.shelf)) c.first_region-first.result c.last_region-last.result (first_region c.args.block) (last_region c.args.block (length c.args.bytes.now / 512)) c.first_region-first.ensures c.last_region-last.ensures c.in-Ok.ensures.marks;
      goes = renamed (λ a b. Goes (MarkedAt c.args.config.now c.args.vol a b c.args.logs.now (g.S.Shelf.meaning c.args.shelf.now)) (g.S.Shelf.meaning c.args.shelf.now) (g.S.Shelf.meaning c.mark.new.shelf)) c.first_region-first.result c.last_region-last.result (first_region c.args.block) (last_region c.args.block (length c.args.bytes.now / 512)) c.first_region-first.ensures c.last_region-last.ensures c.mark.ensures.writes;
    }

pub returns-in-Ok-put-clause-goes : goal.returns-in-Ok-put-clause-goes
returns-in-Ok-put-clause-goes g c =
    let n : 0 < length c.args.bytes.now / 512 = omega (arith, c.requires.many, c.requires.whole) in
    whole_writes c.args.config.now c.requires.checked c.args.vol c.args.block (length c.args.bytes.now / 512) c.args.bytes.now n c.requires.volume c.requires.within c.args.logs.now c.mark.new.logs c.mark.ensures.fits c.in-Ok.lost c.if-lost.false c.if-lost-2.false (g.S.Shelf.meaning c.args.shelf.now) (g.S.Shelf.meaning c.mark.new.shelf) (disks_still c.args.config.now.disks (g.S.Shelf.meaning c.args.shelf.now) (g.S.Shelf.meaning c.mark.new.shelf) c.requires.disks c.mark.ensures.writes.units c.mark.ensures.writes.size)
    (renamed (λ a b. MarkedLogs c.args.config.now c.args.vol a b c.in-Ok.lost c.args.logs.now c.mark.new.logs (g.S.Shelf.meaning c.args.shelf.now) (g.S.Shelf.meaning c.mark.new.shelf)) c.first_region-first.result c.last_region-last.result (first_region c.args.block) (last_region c.args.block (length c.args.bytes.now / 512)) c.first_region-first.ensures c.last_region-last.ensures c.in-Ok.ensures.marks)
    (g.S.Shelf.meaning c.put.new.shelf) c.put.ensures.writes
    (renamed (λ a b. Goes (MarkedAt c.args.config.now c.args.vol a b c.args.logs.now (g.S.Shelf.meaning c.args.shelf.now)) (g.S.Shelf.meaning c.args.shelf.now) (g.S.Shelf.meaning c.mark.new.shelf)) c.first_region-first.result c.last_region-last.result (first_region c.args.block) (last_region c.args.block (length c.args.bytes.now / 512)) c.first_region-first.ensures c.last_region-last.ensures c.mark.ensures.writes)

pub returns-in-Ok-put-clause-first : goal.returns-in-Ok-put-clause-first
returns-in-Ok-put-clause-first g c =
    let n : 0 < length c.args.bytes.now / 512 = omega (arith, c.requires.many, c.requires.whole) in
    first_Along c.args.config.now c.requires.checked c.args.vol c.args.block (length c.args.bytes.now / 512) c.args.bytes.now n c.requires.volume c.requires.within c.args.logs.now c.mark.new.logs c.mark.ensures.fits c.in-Ok.lost c.if-lost.false c.if-lost-2.false (g.S.Shelf.meaning c.args.shelf.now) (g.S.Shelf.meaning c.mark.new.shelf) (disks_still c.args.config.now.disks (g.S.Shelf.meaning c.args.shelf.now) (g.S.Shelf.meaning c.mark.new.shelf) c.requires.disks c.mark.ensures.writes.units c.mark.ensures.writes.size)
    (renamed (λ a b. MarkedLogs c.args.config.now c.args.vol a b c.in-Ok.lost c.args.logs.now c.mark.new.logs (g.S.Shelf.meaning c.args.shelf.now) (g.S.Shelf.meaning c.mark.new.shelf)) c.first_region-first.result c.last_region-last.result (first_region c.args.block) (last_region c.args.block (length c.args.bytes.now / 512)) c.first_region-first.ensures c.last_region-last.ensures c.in-Ok.ensures.marks)
    (g.S.Shelf.meaning c.put.new.shelf) c.put.ensures.writes
    (renamed (λ a b. Goes (MarkedAt c.args.config.now c.args.vol a b c.args.logs.now (g.S.Shelf.meaning c.args.shelf.now)) (g.S.Shelf.meaning c.args.shelf.now) (g.S.Shelf.meaning c.mark.new.shelf)) c.first_region-first.result c.last_region-last.result (first_region c.args.block) (last_region c.args.block (length c.args.bytes.now / 512)) c.first_region-first.ensures c.last_region-last.ensures c.mark.ensures.writes)

pub returns-in-Ok-put-clause-writes : goal.returns-in-Ok-put-clause-writes
returns-in-Ok-put-clause-writes g c =
    let n : 0 < length c.args.bytes.now / 512 = omega (arith, c.requires.many, c.requires.whole) in
    was_put c.args.config.now c.requires.checked c.args.vol c.args.block (length c.args.bytes.now / 512) c.args.bytes.now n c.requires.volume c.requires.within c.args.logs.now c.mark.new.logs c.mark.ensures.fits c.in-Ok.lost c.if-lost.false c.if-lost-2.false (g.S.Shelf.meaning c.args.shelf.now) (g.S.Shelf.meaning c.mark.new.shelf) (disks_still c.args.config.now.disks (g.S.Shelf.meaning c.args.shelf.now) (g.S.Shelf.meaning c.mark.new.shelf) c.requires.disks c.mark.ensures.writes.units c.mark.ensures.writes.size)
    (renamed (λ a b. MarkedLogs c.args.config.now c.args.vol a b c.in-Ok.lost c.args.logs.now c.mark.new.logs (g.S.Shelf.meaning c.args.shelf.now) (g.S.Shelf.meaning c.mark.new.shelf)) c.first_region-first.result c.last_region-last.result (first_region c.args.block) (last_region c.args.block (length c.args.bytes.now / 512)) c.first_region-first.ensures c.last_region-last.ensures c.in-Ok.ensures.marks)
    (g.S.Shelf.meaning c.put.new.shelf) c.put.ensures.writes
    (renamed (λ a b. Goes (MarkedAt c.args.config.now c.args.vol a b c.args.logs.now (g.S.Shelf.meaning c.args.shelf.now)) (g.S.Shelf.meaning c.args.shelf.now) (g.S.Shelf.meaning c.mark.new.shelf)) c.first_region-first.result c.last_region-last.result (first_region c.args.block) (last_region c.args.block (length c.args.bytes.now / 512)) c.first_region-first.ensures c.last_region-last.ensures c.mark.ensures.writes) c.requires.fits c.requires.disks (λ down. c.requires.up (c.in-Ok.ensures.marks.up down))
    (ends_keep c.first_region-first.result c.last_region-last.result c.in-Ok.lost.drl c.args.logs.now.drl c.mark.new.logs.drl (g.S.Shelf.meaning c.args.shelf.now) (g.S.Shelf.meaning c.mark.new.shelf) c.in-Ok.ensures.marks.drl) c.in-Ok-put.stored c.put.new.logs c.in-Ok-put.ensures.puts

pub returns-in-Err-put-clause-goes : goal.returns-in-Err-put-clause-goes
returns-in-Err-put-clause-goes g c =
    let n : 0 < length c.args.bytes.now / 512 = omega (arith, c.requires.many, c.requires.whole) in
    whole_writes c.args.config.now c.requires.checked c.args.vol c.args.block (length c.args.bytes.now / 512) c.args.bytes.now n c.requires.volume c.requires.within c.args.logs.now c.mark.new.logs c.mark.ensures.fits c.in-Ok.lost c.if-lost.false c.if-lost-2.false (g.S.Shelf.meaning c.args.shelf.now) (g.S.Shelf.meaning c.mark.new.shelf) (disks_still c.args.config.now.disks (g.S.Shelf.meaning c.args.shelf.now) (g.S.Shelf.meaning c.mark.new.shelf) c.requires.disks c.mark.ensures.writes.units c.mark.ensures.writes.size)
    (renamed (λ a b. MarkedLogs c.args.config.now c.args.vol a b c.in-Ok.lost c.args.logs.now c.mark.new.logs (g.S.Shelf.meaning c.args.shelf.now) (g.S.Shelf.meaning c.mark.new.shelf)) c.first_region-first.result c.last_region-last.result (first_region c.args.block) (last_region c.args.block (length c.args.bytes.now / 512)) c.first_region-first.ensures c.last_region-last.ensures c.in-Ok.ensures.marks)
    (g.S.Shelf.meaning c.put.new.shelf) c.put.ensures.writes
    (renamed (λ a b. Goes (MarkedAt c.args.config.now c.args.vol a b c.args.logs.now (g.S.Shelf.meaning c.args.shelf.now)) (g.S.Shelf.meaning c.args.shelf.now) (g.S.Shelf.meaning c.mark.new.shelf)) c.first_region-first.result c.last_region-last.result (first_region c.args.block) (last_region c.args.block (length c.args.bytes.now / 512)) c.first_region-first.ensures c.last_region-last.ensures c.mark.ensures.writes)

pub returns-in-Err-put-clause-first : goal.returns-in-Err-put-clause-first
returns-in-Err-put-clause-first g c =
    let n : 0 < length c.args.bytes.now / 512 = omega (arith, c.requires.many, c.requires.whole) in
    first_Along c.args.config.now c.requires.checked c.args.vol c.args.block (length c.args.bytes.now / 512) c.args.bytes.now n c.requires.volume c.requires.within c.args.logs.now c.mark.new.logs c.mark.ensures.fits c.in-Ok.lost c.if-lost.false c.if-lost-2.false (g.S.Shelf.meaning c.args.shelf.now) (g.S.Shelf.meaning c.mark.new.shelf) (disks_still c.args.config.now.disks (g.S.Shelf.meaning c.args.shelf.now) (g.S.Shelf.meaning c.mark.new.shelf) c.requires.disks c.mark.ensures.writes.units c.mark.ensures.writes.size)
    (renamed (λ a b. MarkedLogs c.args.config.now c.args.vol a b c.in-Ok.lost c.args.logs.now c.mark.new.logs (g.S.Shelf.meaning c.args.shelf.now) (g.S.Shelf.meaning c.mark.new.shelf)) c.first_region-first.result c.last_region-last.result (first_region c.args.block) (last_region c.args.block (length c.args.bytes.now / 512)) c.first_region-first.ensures c.last_region-last.ensures c.in-Ok.ensures.marks)
    (g.S.Shelf.meaning c.put.new.shelf) c.put.ensures.writes
    (renamed (λ a b. Goes (MarkedAt c.args.config.now c.args.vol a b c.args.logs.now (g.S.Shelf.meaning c.args.shelf.now)) (g.S.Shelf.meaning c.args.shelf.now) (g.S.Shelf.meaning c.mark.new.shelf)) c.first_region-first.result c.last_region-last.result (first_region c.args.block) (last_region c.args.block (length c.args.bytes.now / 512)) c.first_region-first.ensures c.last_region-last.ensures c.mark.ensures.writes)

pub returns-in-Err-put-clause-writes : goal.returns-in-Err-put-clause-writes
returns-in-Err-put-clause-writes g c =
    let n : 0 < length c.args.bytes.now / 512 = omega (arith, c.requires.many, c.requires.whole) in
    puts_refused c.args.config.now c.requires.checked c.args.vol c.args.block (length c.args.bytes.now / 512) c.args.bytes.now n c.requires.volume c.requires.within c.args.logs.now c.mark.new.logs c.mark.ensures.fits c.in-Ok.lost c.if-lost.false c.if-lost-2.false (g.S.Shelf.meaning c.args.shelf.now) (g.S.Shelf.meaning c.mark.new.shelf) (disks_still c.args.config.now.disks (g.S.Shelf.meaning c.args.shelf.now) (g.S.Shelf.meaning c.mark.new.shelf) c.requires.disks c.mark.ensures.writes.units c.mark.ensures.writes.size)
    (renamed (λ a b. MarkedLogs c.args.config.now c.args.vol a b c.in-Ok.lost c.args.logs.now c.mark.new.logs (g.S.Shelf.meaning c.args.shelf.now) (g.S.Shelf.meaning c.mark.new.shelf)) c.first_region-first.result c.last_region-last.result (first_region c.args.block) (last_region c.args.block (length c.args.bytes.now / 512)) c.first_region-first.ensures c.last_region-last.ensures c.in-Ok.ensures.marks)
    (g.S.Shelf.meaning c.put.new.shelf) c.put.ensures.writes
    (renamed (λ a b. Goes (MarkedAt c.args.config.now c.args.vol a b c.args.logs.now (g.S.Shelf.meaning c.args.shelf.now)) (g.S.Shelf.meaning c.args.shelf.now) (g.S.Shelf.meaning c.mark.new.shelf)) c.first_region-first.result c.last_region-last.result (first_region c.args.block) (last_region c.args.block (length c.args.bytes.now / 512)) c.first_region-first.ensures c.last_region-last.ensures c.mark.ensures.writes)
    (ends_keep c.first_region-first.result c.last_region-last.result c.in-Ok.lost.drl c.args.logs.now.drl c.mark.new.logs.drl (g.S.Shelf.meaning c.args.shelf.now) (g.S.Shelf.meaning c.mark.new.shelf) c.in-Ok.ensures.marks.drl) c.put.new.logs c.in-Err-put.no c.in-Err-put.ensures.puts

pub returns-in-Err-clause-goes : goal.returns-in-Err-clause-goes
returns-in-Err-clause-goes g c =
    mark_writes c.args.config.now c.args.vol c.args.block (length c.args.bytes.now / 512) c.args.bytes.now c.args.logs.now (g.S.Shelf.meaning c.args.shelf.now) (g.S.Shelf.meaning c.mark.new.shelf)
    (renamed (λ a b. Goes (MarkedAt c.args.config.now c.args.vol a b c.args.logs.now (g.S.Shelf.meaning c.args.shelf.now)) (g.S.Shelf.meaning c.args.shelf.now) (g.S.Shelf.meaning c.mark.new.shelf)) c.first_region-first.result c.last_region-last.result (first_region c.args.block) (last_region c.args.block (length c.args.bytes.now / 512)) c.first_region-first.ensures c.last_region-last.ensures c.mark.ensures.writes)

pub returns-in-Err-clause-first : goal.returns-in-Err-clause-first
returns-in-Err-clause-first g c =
    renamed (λ a b. Along (g.S.Shelf.meaning c.args.shelf.now) (g.S.Shelf.meaning c.mark.new.shelf) (MarksFirst c.args.config.now c.args.vol a b c.args.logs.now (g.S.Shelf.meaning c.args.shelf.now))) c.first_region-first.result c.last_region-last.result (first_region c.args.block) (last_region c.args.block (length c.args.bytes.now / 512)) c.first_region-first.ensures c.last_region-last.ensures
    (mark_Along c.args.config.now c.args.vol c.first_region-first.result c.last_region-last.result c.args.logs.now (g.S.Shelf.meaning c.args.shelf.now) (g.S.Shelf.meaning c.mark.new.shelf) c.mark.ensures.writes)

pub returns-in-Err-clause-writes : goal.returns-in-Err-clause-writes
returns-in-Err-clause-writes g c =
    marks_refused c.args.config.now c.args.vol c.args.block (length c.args.bytes.now / 512) c.args.bytes.now c.first_region-first.result c.last_region-last.result c.args.logs.now c.mark.new.logs (g.S.Shelf.meaning c.args.shelf.now) (g.S.Shelf.meaning c.mark.new.shelf) c.in-Err.no c.in-Err.ensures.marks
