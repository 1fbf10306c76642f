-- A volume that is made in the group below a replicated volume group.
use Rattle.std.proofs.Common.{◌≡◌, ◌∙◌, ap, sym, subst}
use Rattle.std.specs.Prelude.{IfOk, Some}
use Rattle.vx_disk.specs.Moves.{Nowhere}
use Rattle.vx_untold.specs.Shades.{shade_lawful, shade_rack}
use Rattle.vx_watched.specs.Since.{CalledSince}
use Rattle.vx_watched.specs.Traces.{TellsLess}
use Rattle.vx_grouped.specs.GroupSites.{UpNoted, site_below, site_disks}
use Rattle.vx_grouped.specs.SiteAdds.{VolumeIn, refuses_volume}
use Rattle.vx_grouped.specs.SiteMaps.{AddedMapped}
use Rattle.vx_diskset.specs.Aboves.{above_in, site_in}
use Rattle.vx_diskset.specs.OverVolumes.{VolBelow}
use Rattle.vx_diskset.proofs.MakesBelow.{disks_still, stands_still, unmoved_map}
use Rattle.vx_diskset.proofs.OverFrames.{below_stays}
use Rattle.vx_diskset.proofs.OverKept.{keeps_below, nowhere_aside}
use Rattle.vx_diskset.proofs.OverPlain.{carried_site}
use Rattle.vx_diskset.proofs.over_set.OverSet.make.Goals as goal

pub of-requires-after_bounds : goal.of-requires-after_bounds
of-requires-after_bounds g c = λ κs lives. below_stays Nowhere c.parts-site.result.1 c.parts-site.result.0 c.make_below-site.result.0 c.make_below-site.ensures.goes c.parts-site.ensures.stays

pub returns-clause-makes : goal.returns-clause-makes
returns-clause-makes g c =
    let lawful = (g.met.R.Shelf g.world.𝓛 g.world.𝓜 g.world.𝓡 ((λ s x. x), (λ x. x), (λ x. x), λ x. x)).lawful in
    let is_rack = (g.met.R.Rack g.world.𝓛 g.world.𝓜 g.world.𝓡 ((λ s x. x), (λ x. x), (λ x. x), λ x. x)).rack in
    let was : c.parts-site.result.0 ≡ site_in c.args.self.now = c.parts-site.ensures.site ∙ ap (λ s. site_in s) c.replace.ensures.value in
    let stood : c.parts-site.result.1 ≡ above_in c.args.self.now = c.parts-site.ensures.above ∙ ap (λ s. above_in s) c.replace.ensures.value in
    record {
      made = λ n note up.
          carried_site (λ o e. VolBelow n note c.args.name.now c.args.want.now o e c.make_below-site.result.1) (site_in c.args.self.now) c.parts-site.result.0 (site_in c.of.result) c.make_below-site.result.0 was c.of.ensures.site
          (c.make_below-site.ensures.made n note (subst (λ s. UpNoted n note s) (sym was) up));
      maps = λ n note up.
          carried_site (λ o e. AddedMapped o e c.make_below-site.result.1) (site_in c.args.self.now) c.parts-site.result.0 (site_in c.of.result) c.make_below-site.result.0 was c.of.ensures.site
          (c.make_below-site.ensures.maps n note (subst (λ s. UpNoted n note s) (sym was) up));
      refused = λ n note why up is. c.make_below-site.ensures.refused n note why (subst (λ s. UpNoted n note s) (sym was) up) (subst (λ s. refuses_volume s c.args.name.now c.args.want.now ≡ Some why) (sym was) is);
      volume = λ n note up.
          carried_site (λ o e. IfOk c.make_below-site.result.1 (λ vol. VolumeIn c.args.name.now c.args.want.now vol o e)) (site_in c.args.self.now) c.parts-site.result.0 (site_in c.of.result) c.make_below-site.result.0 was c.of.ensures.site
          (c.make_below-site.ensures.volume n note (subst (λ s. UpNoted n note s) (sym was) up));
      cut = c.of.ensures.cut ∙ c.parts-site.ensures.cut ∙ ap (λ s. s.cut) c.replace.ensures.value;
      kept =
          keeps_below (shade_lawful g.R.Shelf.meaning lawful) (shade_rack g.R.Shelf.meaning is_rack) Nowhere c.args.self.now c.of.result c.parts-site.result.1 c.parts-site.result.0 c.make_below-site.result.0 stood was c.of.ensures.site
          c.of.ensures.above c.make_below-site.ensures.goes c.parts-site.ensures.stays (nowhere_aside c.parts-site.result.1);
      still =
          unmoved_map (λ still. stands_still c.args.self.now c.of.result c.parts-site.result.1 c.parts-site.result.0 c.make_below-site.result.0 stood was c.of.ensures.site c.of.ensures.above still)
          c.make_below-site.result.1 c.make_below-site.ensures.still;
      disks =
          unmoved_map (λ still. ap (λ s. (site_disks s).disks) c.of.ensures.site ∙ disks_still c.parts-site.result.0 c.make_below-site.result.0 still ∙ ap (λ s. (site_disks s).disks) was) c.make_below-site.result.1 c.make_below-site.ensures.still;
    }

pub returns-clause-since : goal.returns-clause-since
returns-clause-since g c = carried_site (λ o e. CalledSince (site_disks o) (site_disks e)) (site_in c.args.self.now) c.parts-site.result.0 (site_in c.of.result) c.make_below-site.result.0 (c.parts-site.ensures.site ∙ ap (λ s. site_in s) c.replace.ensures.value) c.of.ensures.site c.make_below-site.ensures.since

pub returns-clause-told : goal.returns-clause-told
returns-clause-told g c = carried_site (λ o e. TellsLess (site_below o) (site_below e)) (site_in c.args.self.now) c.parts-site.result.0 (site_in c.of.result) c.make_below-site.result.0 (c.parts-site.ensures.site ∙ ap (λ s. site_in s) c.replace.ensures.value) c.of.ensures.site c.make_below-site.ensures.told
