-- What a crash leaves of settled plexes.
use Rattle.vx_groupmaps.proofs.BetweenLemmas.{image_agrees, settled_disk}
use Rattle.vx_groupmaps.proofs.laws.settled_plexes_agree_on_disk.Goals as goal

pub returns : goal.returns
returns g c = record {
  disk = λ settled stand cover.
      settled_disk c.args.config.now c.requires.checked c.args.vol c.requires.some c.args.logs.now c.requires.fits c.requires.whole (g.S.Shelf.meaning c.args.before.now) (g.S.Shelf.meaning c.args.after.now) c.requires.up settled stand cover;
  image = λ i disk each. image_agrees c.args.config.now c.args.vol (g.S.Shelf.meaning c.args.after.now) i disk each;
}
