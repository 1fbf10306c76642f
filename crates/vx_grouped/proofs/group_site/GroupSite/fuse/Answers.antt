-- `fuse`: the site is up with the fuse that was set.
use Rattle.std.proofs.Common.{subst, sym, ◌∙◌}
use Rattle.vx_grouped.specs.GroupSites.{UpNoted}
use Rattle.vx_untold.specs.Shades.{shade_meaning, shade_rack, rack_of}
use Rattle.vx_grouped.proofs.AlikeLemmas.{fuse_now, fused_up}
use Rattle.vx_grouped.proofs.StayMapLemmas.{as_was, up_same}
use Rattle.vx_grouped.proofs.group_site.GroupSite.fuse.Goals as goal

pub returns-in-Up-clause-fused : goal.returns-in-Up-clause-fused
returns-in-Up-clause-fused g c = λ n note it.
    let is_rack = (g.met.R.Rack g.world.𝓛 g.world.𝓜 g.world.𝓡 ((λ s x. x), (λ x. x), (λ x. x), λ x. x)).rack in
    fused_up n note c.in-Up.group.core c.fuse.result.core (shade_meaning g.R.Shelf.meaning c.in-Up.group.shelf) (shade_meaning g.R.Shelf.meaning c.fuse.result.shelf) c.fuse.ensures.core c.fuse.ensures.alike c.fuse.ensures.down c.fuse.ensures.volumes
    (g.R.Shelf.meaning (rack_of c.in-Up.group.shelf)).tells (g.R.Shelf.meaning (rack_of c.fuse.result.shelf)).tells c.fuse.ensures.told c.args.calls
    (fuse_now c.args.calls c.args.pick (shade_meaning g.R.Shelf.meaning c.in-Up.group.shelf) (shade_meaning g.R.Shelf.meaning c.fuse.result.shelf) (shade_rack g.R.Shelf.meaning is_rack c.in-Up.group.shelf) c.fuse.ensures.disks)
    (subst (λ e. UpNoted n note e) (sym c.replace.ensures.value ∙ c.in-Up.is) it)

pub returns-in-Up-clause-maps : goal.returns-in-Up-clause-maps
returns-in-Up-clause-maps g c = up_same c.args.self.now c.in-Up.group c.fuse.result (sym c.replace.ensures.value ∙ c.in-Up.is) c.fuse.ensures.core c.fuse.ensures.logs c.fuse.ensures.flags c.fuse.ensures.ended

pub returns-in_default-clause-maps : goal.returns-in_default-clause-maps
returns-in_default-clause-maps g c = as_was c.args.self.now c.replace.result (sym c.replace.ensures.value)
