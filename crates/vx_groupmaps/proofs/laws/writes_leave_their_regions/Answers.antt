-- A write between marks.
use Rattle.std.proofs.Common.{◌/◌, length, arith}
use Rattle.vx_groupmaps.proofs.BetweenLemmas.{write_covers, write_spares}
use Rattle.vx_groupmaps.proofs.laws.writes_leave_their_regions.Goals as goal

pub returns : goal.returns
returns g c = record {
  sure = λ d spare detaches agree cover.
      write_covers c.args.config.now c.requires.checked c.args.vol c.args.logs.now (g.S.Shelf.meaning c.args.before.now) (g.S.Shelf.meaning c.args.after.now) d detaches spare cover c.args.block (length c.args.bytes.now / 512) c.args.bytes.now
      (λ k run. record { volume = c.requires.volume; within = omega (arith, run.last, c.requires.within) }) c.requires.reads agree;
  unsure = λ d spare set detaches newly cover.
      write_spares c.args.config.now c.requires.checked c.args.vol c.args.logs.now (g.S.Shelf.meaning c.args.before.now) (g.S.Shelf.meaning c.args.after.now) d detaches spare cover c.args.block (length c.args.bytes.now / 512) c.args.bytes.now
      (λ k run. record { volume = c.requires.volume; within = omega (arith, run.last, c.requires.within) }) c.requires.reads set newly;
}
