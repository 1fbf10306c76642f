-- The group below a replicated volume group that is deported.
use Rattle.std.proofs.Common.{◌≡◌, ◌∙◌, ap, subst, sym}
use Rattle.vx_disk.specs.Moves.{Nowhere}
use Rattle.vx_untold.specs.Shades.{shade_lawful, shade_rack}
use Rattle.vx_watched.specs.Since.{CalledSince}
use Rattle.vx_watched.specs.Traces.{TellsLess}
use Rattle.vx_grouped.specs.GroupSites.{DownNoted, UpNoted, site_below, site_disks}
use Rattle.vx_diskset.specs.Aboves.{above_in, site_in}
use Rattle.vx_diskset.specs.Noted.{RestsNamed}
use Rattle.vx_diskset.specs.OverAways.{DeportedBelow}
use Rattle.vx_diskset.proofs.OverAway.{gave_up}
use Rattle.vx_diskset.proofs.OverDoubted.{deported_below, doubted_away, doubted_named, doubts_above, doubts_since, doubts_told, keeps_doubted}
use Rattle.vx_diskset.proofs.OverFrames.{site_stays}
use Rattle.vx_diskset.proofs.OverKept.{nowhere_aside}
use Rattle.vx_diskset.proofs.OverPlain.{carried_site}
use Rattle.vx_diskset.proofs.over_set.OverSet.deport.Goals as goal

pub of-requires-after_bounds : goal.of-requires-after_bounds
of-requires-after_bounds g c = λ κs lives.
    doubts_above c.parts-site.result.1 c.deport-left.result.0 c.doubt_fallen-site.result c.doubt_fallen-site.ensures
    (site_stays Nowhere c.parts-site.result.1 c.parts-site.result.0 c.deport-left.result.0 c.deport-left.ensures.volumes c.parts-site.ensures.stays)

pub returns-clause-deports : goal.returns-clause-deports
returns-clause-deports g c =
    let lawful = (g.met.R.Shelf g.world.𝓛 g.world.𝓜 g.world.𝓡 ((λ s x. x), (λ x. x), (λ x. x), λ x. x)).lawful in
    let is_rack = (g.met.R.Rack g.world.𝓛 g.world.𝓜 g.world.𝓡 ((λ s x. x), (λ x. x), (λ x. x), λ x. x)).rack in
    let was : c.parts-site.result.0 ≡ site_in c.args.self.now = c.parts-site.ensures.site ∙ ap (λ s. site_in s) c.replace.ensures.value in
    let stood : c.parts-site.result.1 ≡ above_in c.args.self.now = c.parts-site.ensures.above ∙ ap (λ s. above_in s) c.replace.ensures.value in
    record {
      deported = λ n note up.
          carried_site (λ o e. DeportedBelow n note o e c.deport-left.result.1) (site_in c.args.self.now) c.parts-site.result.0 (site_in c.of.result) c.doubt_fallen-site.result was c.of.ensures.site
          (deported_below n note c.parts-site.result.0 c.deport-left.result.0 c.doubt_fallen-site.result c.doubt_fallen-site.ensures c.deport-left.result.1 (c.deport-left.ensures.deported n note (subst (λ s. UpNoted n note s) (sym was) up)));
      cut = c.of.ensures.cut ∙ c.parts-site.ensures.cut ∙ ap (λ s. s.cut) c.replace.ensures.value;
      kept =
          keeps_doubted (shade_lawful g.R.Shelf.meaning lawful) (shade_rack g.R.Shelf.meaning is_rack) Nowhere c.args.self.now c.of.result c.parts-site.result.1 c.parts-site.result.0 c.deport-left.result.0 stood was c.deport-left.ensures.volumes c.parts-site.ensures.stays
          (nowhere_aside c.parts-site.result.1) c.doubt_fallen-site.result c.of.ensures.site c.of.ensures.above c.doubt_fallen-site.ensures;
      away = λ beside n idle stands state running gone.
          gave_up (shade_lawful g.R.Shelf.meaning lawful) c.args.self.now c.of.result c.parts-site.result.1 c.parts-site.result.0 c.deport-left.result.0 stood was c.deport-left.ensures.closes c.parts-site.ensures.stays beside n idle stands state running
          (doubted_away c.deport-left.result.0 c.doubt_fallen-site.result idle c.doubt_fallen-site.ensures (sym c.of.ensures.site ∙ gone)) gone;
      named = λ units count k note down.
          subst (λ s. RestsNamed units count s) (sym c.of.ensures.site) (doubted_named units count c.deport-left.result.0 c.doubt_fallen-site.result c.doubt_fallen-site.ensures k note (subst (λ s. DownNoted k note s) c.of.ensures.site down));
    }

pub returns-clause-since : goal.returns-clause-since
returns-clause-since g c =
    carried_site (λ o e. CalledSince (site_disks o) (site_disks e)) (site_in c.args.self.now) c.parts-site.result.0 (site_in c.of.result) c.doubt_fallen-site.result
    (c.parts-site.ensures.site ∙ ap (λ s. site_in s) c.replace.ensures.value) c.of.ensures.site (doubts_since c.parts-site.result.0 c.deport-left.result.0 c.doubt_fallen-site.result c.doubt_fallen-site.ensures c.deport-left.ensures.since)

pub returns-clause-told : goal.returns-clause-told
returns-clause-told g c =
    carried_site (λ o e. TellsLess (site_below o) (site_below e)) (site_in c.args.self.now) c.parts-site.result.0 (site_in c.of.result) c.doubt_fallen-site.result
    (c.parts-site.ensures.site ∙ ap (λ s. site_in s) c.replace.ensures.value) c.of.ensures.site (doubts_told c.parts-site.result.0 c.deport-left.result.0 c.doubt_fallen-site.result c.doubt_fallen-site.ensures c.deport-left.ensures.told)
