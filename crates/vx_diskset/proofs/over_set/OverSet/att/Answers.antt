-- A plex of a volume that is attached, below a replicated volume group.
use Rattle.std.proofs.Common.{◌≡◌, ◌∙◌, ap, sym, subst}
use Rattle.std.specs.Prelude.{Some, IfOk, IsTrue, None, false}
use Rattle.vx_disk.specs.Moves.{Nowhere}
use Rattle.vx_untold.specs.Shades.{shade_lawful, shade_rack}
use Rattle.vx_watched.specs.Since.{CalledSince}
use Rattle.vx_watched.specs.Traces.{TellsLess}
use Rattle.vx_grouped.specs.GroupSites.{UpNoted, site_below, site_disks}
use Rattle.vx_grouped.specs.SiteEnds.{RegionsOf, is_plex_on, refuses_att}
use Rattle.vx_grouped.specs.SiteMaps.{AttMapped}
use Rattle.vx_diskset.specs.Aboves.{above_in, site_in}
use Rattle.vx_diskset.specs.OverPlains.{AttBelow}
use Rattle.vx_diskset.proofs.OverFrames.{below_stays}
use Rattle.vx_diskset.proofs.OverKept.{keeps_below, nowhere_aside}
use Rattle.vx_diskset.proofs.OverPlain.{carried_site, ok_carried}
use Rattle.vx_diskset.proofs.over_set.OverSet.att.Goals as goal

pub of-requires-after_bounds : goal.of-requires-after_bounds
of-requires-after_bounds g c = λ κs lives. below_stays Nowhere c.parts-site.result.1 c.parts-site.result.0 c.att_below-site.result.0 c.att_below-site.ensures.goes c.parts-site.ensures.stays

pub returns-clause-atts : goal.returns-clause-atts
returns-clause-atts g c =
    let lawful = (g.met.R.Shelf g.world.𝓛 g.world.𝓜 g.world.𝓡 ((λ s x. x), (λ x. x), (λ x. x), λ x. x)).lawful in
    let is_rack = (g.met.R.Rack g.world.𝓛 g.world.𝓜 g.world.𝓡 ((λ s x. x), (λ x. x), (λ x. x), λ x. x)).rack in
    let was : c.parts-site.result.0 ≡ site_in c.args.self.now = c.parts-site.ensures.site ∙ ap (λ s. site_in s) c.replace.ensures.value in
    let stood : c.parts-site.result.1 ≡ above_in c.args.self.now = c.parts-site.ensures.above ∙ ap (λ s. above_in s) c.replace.ensures.value in
    record {
      called = λ n note up.
          carried_site (λ o e. AttBelow n note c.args.volume c.args.plex o e c.att_below-site.result.1) (site_in c.args.self.now) c.parts-site.result.0 (site_in c.of.result) c.att_below-site.result.0 was c.of.ensures.site
          (c.att_below-site.ensures.called n note (subst (λ s. UpNoted n note s) (sym was) up));
      maps = λ n note up.
          carried_site (λ o e. AttMapped c.args.volume c.args.plex o e c.att_below-site.result.1) (site_in c.args.self.now) c.parts-site.result.0 (site_in c.of.result) c.att_below-site.result.0 was c.of.ensures.site
          (c.att_below-site.ensures.maps n note (subst (λ s. UpNoted n note s) (sym was) up));
      refused = λ n note why up is. c.att_below-site.ensures.refused n note why (subst (λ s. UpNoted n note s) (sym was) up) (subst (λ s. refuses_att s c.args.volume c.args.plex ≡ Some why) (sym was) is);
      already = λ n note up none on.
          c.att_below-site.ensures.already n note (subst (λ s. UpNoted n note s) (sym was) up) (subst (λ s. refuses_att s c.args.volume c.args.plex ≡ None) (sym was) none) (subst (λ s. IsTrue (is_plex_on s c.args.volume c.args.plex)) (sym was) on);
      count = λ off.
          subst (λ s. IfOk c.att_below-site.result.1 (λ k. RegionsOf s c.args.volume k)) was (c.att_below-site.ensures.count (subst (λ s. is_plex_on s c.args.volume c.args.plex ≡ false) (sym was) off));
      on = λ off.
          ok_carried c.att_below-site.result.1 (λ on. subst (λ s. IsTrue (is_plex_on s c.args.volume c.args.plex)) (sym c.of.ensures.site) on) (c.att_below-site.ensures.on (subst (λ s. is_plex_on s c.args.volume c.args.plex ≡ false) (sym was) off));
      cut = c.of.ensures.cut ∙ c.parts-site.ensures.cut ∙ ap (λ s. s.cut) c.replace.ensures.value;
      kept =
          keeps_below (shade_lawful g.R.Shelf.meaning lawful) (shade_rack g.R.Shelf.meaning is_rack) Nowhere c.args.self.now c.of.result c.parts-site.result.1 c.parts-site.result.0 c.att_below-site.result.0 stood was c.of.ensures.site
          c.of.ensures.above c.att_below-site.ensures.goes c.parts-site.ensures.stays (nowhere_aside c.parts-site.result.1);
    }

pub returns-clause-since : goal.returns-clause-since
returns-clause-since g c = carried_site (λ o e. CalledSince (site_disks o) (site_disks e)) (site_in c.args.self.now) c.parts-site.result.0 (site_in c.of.result) c.att_below-site.result.0 (c.parts-site.ensures.site ∙ ap (λ s. site_in s) c.replace.ensures.value) c.of.ensures.site c.att_below-site.ensures.since

pub returns-clause-told : goal.returns-clause-told
returns-clause-told g c = carried_site (λ o e. TellsLess (site_below o) (site_below e)) (site_in c.args.self.now) c.parts-site.result.0 (site_in c.of.result) c.att_below-site.result.0 (c.parts-site.ensures.site ∙ ap (λ s. site_in s) c.replace.ensures.value) c.of.ensures.site c.att_below-site.ensures.told
