-- A write to a volume of the group below a replicated volume group.
use Rattle.std.proofs.Common.{◌≡◌, ◌∙◌, ap, subst, sym}
use Rattle.vx_disk.specs.Shelf.{Covers}
use Rattle.vx_untold.specs.Shades.{shade_lawful, shade_rack}
use Rattle.vx_watched.specs.Since.{CalledSince}
use Rattle.vx_watched.specs.Traces.{TellsLess}
use Rattle.vx_grouped.specs.Ends.{plain_write}
use Rattle.vx_grouped.specs.GroupSites.{DownNoted, UpNoted, site_below, site_disks}
use Rattle.vx_diskset.specs.Aboves.{IsOutside, above_in, site_in}
use Rattle.vx_diskset.specs.GroupSets.{cut_behind, cut_value}
use Rattle.vx_diskset.specs.Noted.{RestsNamed}
use Rattle.vx_diskset.specs.OverWrites.{WroteBelow}
use Rattle.vx_diskset.proofs.OverDoubted.{doubted_named, doubts_above, doubts_since, doubts_told, keeps_doubted}
use Rattle.vx_diskset.proofs.OverFrames.{site_stays}
use Rattle.vx_diskset.proofs.OverKept.{covers_aside}
use Rattle.vx_diskset.proofs.OverPlain.{carried_site}
use Rattle.vx_diskset.proofs.OverWrites.{wrote_below}
use Rattle.vx_diskset.proofs.over_set.OverSet.write_plain.Goals as goal

pub of-requires-after_bounds : goal.of-requires-after_bounds
of-requires-after_bounds g c = λ κs lives.
    doubts_above c.parts-site.result.1 c.write_set-answer.new.group.site c.doubt_fallen-site.result c.doubt_fallen-site.ensures
    (site_stays (Covers c.args.volume c.args.start c.args.bytes.now) c.parts-site.result.1 c.parts-site.result.0 c.write_set-answer.new.group.site c.write_set-answer.ensures.volumes c.parts-site.ensures.stays)

pub returns-clause-writes : goal.returns-clause-writes
returns-clause-writes g c =
    let lawful = (g.met.R.Shelf g.world.𝓛 g.world.𝓜 g.world.𝓡 ((λ s x. x), (λ x. x), (λ x. x), λ x. x)).lawful in
    let is_rack = (g.met.R.Rack g.world.𝓛 g.world.𝓜 g.world.𝓡 ((λ s x. x), (λ x. x), (λ x. x), λ x. x)).rack in
    let was : c.parts-site.result.0 ≡ site_in c.args.self.now = c.parts-site.ensures.site ∙ ap (λ s. site_in s) c.replace.ensures.value in
    let stood : c.parts-site.result.1 ≡ above_in c.args.self.now = c.parts-site.ensures.above ∙ ap (λ s. above_in s) c.replace.ensures.value in
    record {
      wrote = λ n note up fits.
          carried_site (λ o e. WroteBelow n note (plain_write c.args.volume c.args.start c.args.bytes.now) o e c.write_set-answer.result) (site_in c.args.self.now) c.parts-site.result.0 (site_in c.of.result) c.doubt_fallen-site.result was c.of.ensures.site
          (wrote_below n note (plain_write c.args.volume c.args.start c.args.bytes.now) c.parts-site.result.0 c.write_set-answer.new.group.site c.doubt_fallen-site.result c.doubt_fallen-site.ensures c.write_set-answer.result
          (c.write_set-answer.ensures.wrote n note (subst (λ s. UpNoted n note s) (sym was) up) fits));
      cut =
          ap (λ x. cut_value x) c.of.ensures.cut ∙ c.write_set-answer.ensures.cut
          ∙ ap (λ x. cut_behind c.write_set-answer.result (plain_write c.args.volume c.args.start c.args.bytes.now) (cut_value x)) (c.parts-site.ensures.cut ∙ ap (λ s. s.cut) c.replace.ensures.value);
      kept = λ out.
          keeps_doubted (shade_lawful g.R.Shelf.meaning lawful) (shade_rack g.R.Shelf.meaning is_rack) (Covers c.args.volume c.args.start c.args.bytes.now) c.args.self.now c.of.result c.parts-site.result.1 c.parts-site.result.0 c.write_set-answer.new.group.site stood was
          c.write_set-answer.ensures.volumes c.parts-site.ensures.stays (covers_aside c.args.volume c.args.start c.args.bytes.now c.parts-site.result.1 (subst (λ a. IsOutside c.args.volume a) (sym stood) out)) c.doubt_fallen-site.result c.of.ensures.site
          c.of.ensures.above c.doubt_fallen-site.ensures;
      named = λ units count k note down.
          subst (λ s. RestsNamed units count s) (sym c.of.ensures.site)
          (doubted_named units count c.write_set-answer.new.group.site c.doubt_fallen-site.result c.doubt_fallen-site.ensures k note (subst (λ s. DownNoted k note s) c.of.ensures.site down));
    }

pub returns-clause-since : goal.returns-clause-since
returns-clause-since g c =
    carried_site (λ o e. CalledSince (site_disks o) (site_disks e)) (site_in c.args.self.now) c.parts-site.result.0 (site_in c.of.result) c.doubt_fallen-site.result
    (c.parts-site.ensures.site ∙ ap (λ s. site_in s) c.replace.ensures.value) c.of.ensures.site
    (doubts_since c.parts-site.result.0 c.write_set-answer.new.group.site c.doubt_fallen-site.result c.doubt_fallen-site.ensures c.write_set-answer.ensures.since)

pub returns-clause-told : goal.returns-clause-told
returns-clause-told g c =
    carried_site (λ o e. TellsLess (site_below o) (site_below e)) (site_in c.args.self.now) c.parts-site.result.0 (site_in c.of.result) c.doubt_fallen-site.result
    (c.parts-site.ensures.site ∙ ap (λ s. site_in s) c.replace.ensures.value) c.of.ensures.site
    (doubts_told c.parts-site.result.0 c.write_set-answer.new.group.site c.doubt_fallen-site.result c.doubt_fallen-site.ensures c.write_set-answer.ensures.told)
