-- Plexes that are detached.
use Rattle.vx_groupmaps.proofs.BetweenLemmas.{detach_covers, detach_spares}
use Rattle.vx_groupmaps.proofs.laws.detached_plexes_go_by_their_maps.Goals as goal

pub returns : goal.returns
returns g c = record {
  sure = λ d spare detaches agree cover.
      detach_covers c.args.config.now c.requires.checked c.args.vol c.args.logs.now (g.S.Shelf.meaning c.args.before.now) (g.S.Shelf.meaning c.args.after.now) d detaches spare cover c.requires.reads agree;
  unsure = λ d spare set detaches newly cover.
      detach_spares c.args.config.now c.requires.checked c.args.vol c.args.logs.now (g.S.Shelf.meaning c.args.before.now) (g.S.Shelf.meaning c.args.after.now) d detaches spare cover c.requires.reads set newly;
}
