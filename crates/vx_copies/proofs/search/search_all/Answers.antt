-- `search_all`: what stays true in its loop over `disk`.
use Rattle.std.proofs.Common.{refl, ◌∙◌, IsTrue, subst, Bool}
use Rattle.vx_disk.proofs.Runs.{same_Goes, then_nothing}
use Rattle.vx_disk.proofs.Untouching.{untouched_both, untouched_none}
use Rattle.vx_disk.specs.Shelf.{Nothing}
use Rattle.vx_copies.proofs.Searching.{none_yet, one_more}
use Rattle.vx_copies.proofs.search.search_all.Goals as goal

pub loop-disk-init : goal.loop-disk-init
loop-disk-init g c = record {
  found = none_yet (g.S.Shelf.meaning c.args.shelf.now) _ refl refl tt;
  goes = same_Goes Nothing (g.S.Shelf.meaning c.args.shelf.now);
  down = refl;
  disks = untouched_none (g.S.Shelf.meaning c.args.shelf.now).disks;
  up = c.requires.up;
  room = c.requires.room;
}

pub loop-disk-preserved : goal.loop-disk-preserved
loop-disk-preserved g c = record {
  found = one_more c.loop-disk.disk (g.S.Shelf.meaning c.args.shelf.now) (g.S.Shelf.meaning c.loop-disk.shelf) (g.S.Shelf.meaning c.look.new.shelf) (g.met.S.Shelf.lawful c.args.shelf.now)
      (record { goes = c.loop-disk.invariant.goes; up = c.loop-disk.invariant.up }) c.loop-disk.found c.with-found.result c.in-Ok.seen c.loop-disk.invariant.found c.in-Ok.ensures.goes c.in-Ok.ensures.sees c.in-Ok.ensures.counts c.in-Ok.ensures.fits
      c.with-found.ensures.format c.with-found.ensures.best c.with-found.ensures.flags c.with-found.ensures.fits;
  goes = then_nothing Nothing _ _ _ c.loop-disk.invariant.goes c.in-Ok.ensures.goes;
  down = c.in-Ok.ensures.down ∙ c.loop-disk.invariant.down;
  disks = untouched_both _ _ _ c.loop-disk.invariant.disks c.in-Ok.ensures.disks;
  up = λ down. c.loop-disk.invariant.up (subst (λ (t : Bool). IsTrue t) c.in-Ok.ensures.down down);
  room = c.in-Ok.ensures.room;
}
