-- A read of a volume of the group below a replicated volume group.
use Rattle.std.proofs.Common.{◌≡◌, ◌∙◌, ap, sym, subst}
use Rattle.vx_disk.specs.Moves.{Nowhere}
use Rattle.vx_untold.specs.Shades.{shade_lawful, shade_rack}
use Rattle.vx_watched.specs.Since.{CalledSince}
use Rattle.vx_watched.specs.Traces.{TellsLess}
use Rattle.vx_grouped.specs.GroupSites.{UpNoted, site_below, site_disks}
use Rattle.vx_grouped.specs.SiteEnds.{PlainRead}
use Rattle.vx_diskset.specs.Aboves.{above_in, site_in}
use Rattle.vx_diskset.proofs.OverFrames.{site_stays}
use Rattle.vx_diskset.proofs.OverKept.{keeps_over, nowhere_aside}
use Rattle.vx_diskset.proofs.OverPlain.{carried_site}
use Rattle.vx_diskset.proofs.over_set.OverSet.read_plain.Goals as goal

pub of-requires-after_bounds : goal.of-requires-after_bounds
of-requires-after_bounds g c = λ κs lives. site_stays Nowhere c.parts-site.result.1 c.parts-site.result.0 c.read-answer.new.self c.read-answer.ensures.volumes c.parts-site.ensures.stays

pub returns-clause-reads : goal.returns-clause-reads
returns-clause-reads g c =
    let lawful = (g.met.R.Shelf g.world.𝓛 g.world.𝓜 g.world.𝓡 ((λ s x. x), (λ x. x), (λ x. x), λ x. x)).lawful in
    let is_rack = (g.met.R.Rack g.world.𝓛 g.world.𝓜 g.world.𝓡 ((λ s x. x), (λ x. x), (λ x. x), λ x. x)).rack in
    let was : c.parts-site.result.0 ≡ site_in c.args.self.now = c.parts-site.ensures.site ∙ ap (λ s. site_in s) c.replace.ensures.value in
    let stood : c.parts-site.result.1 ≡ above_in c.args.self.now = c.parts-site.ensures.above ∙ ap (λ s. above_in s) c.replace.ensures.value in
    record {
      read = λ n note up fits.
          carried_site (λ o e. PlainRead n note c.args.volume c.args.start c.read-answer.new.into o e c.read-answer.result) (site_in c.args.self.now) c.parts-site.result.0 (site_in c.of.result) c.read-answer.new.self was c.of.ensures.site
          (c.read-answer.ensures.read n note (subst (λ s. UpNoted n note s) (sym was) up) fits);
      cut = c.of.ensures.cut ∙ c.parts-site.ensures.cut ∙ ap (λ s. s.cut) c.replace.ensures.value;
      kept =
          keeps_over (shade_lawful g.R.Shelf.meaning lawful) (shade_rack g.R.Shelf.meaning is_rack) Nowhere c.args.self.now c.of.result c.parts-site.result.1 c.parts-site.result.0 c.read-answer.new.self stood was c.of.ensures.site
          c.of.ensures.above c.read-answer.ensures.volumes c.parts-site.ensures.stays (nowhere_aside c.parts-site.result.1);
    }

pub returns-clause-since : goal.returns-clause-since
returns-clause-since g c =
    carried_site (λ o e. CalledSince (site_disks o) (site_disks e)) (site_in c.args.self.now) c.parts-site.result.0 (site_in c.of.result) c.read-answer.new.self
    (c.parts-site.ensures.site ∙ ap (λ s. site_in s) c.replace.ensures.value) c.of.ensures.site c.read-answer.ensures.since

pub returns-clause-told : goal.returns-clause-told
returns-clause-told g c =
    carried_site (λ o e. TellsLess (site_below o) (site_below e)) (site_in c.args.self.now) c.parts-site.result.0 (site_in c.of.result) c.read-answer.new.self
    (c.parts-site.ensures.site ∙ ap (λ s. site_in s) c.replace.ensures.value) c.of.ensures.site c.read-answer.ensures.told
