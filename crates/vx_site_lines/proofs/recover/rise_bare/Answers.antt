-- A bare site whose disks may be a raw set starts what an earlier run left on them, and else is refused.
use Rattle.std.proofs.Common.{◌≡◌, ◌∙◌, ◌-◌, ap, refl, rules, subst, sym}
use Rattle.std.specs.Prelude.{map}
use Rattle.std.proofs.lemmas.Result.{err_from_is_err_and}
use Rattle.vx_history.specs.Steps.{raw_volumes}
use Rattle.vx_order.specs.declared.facts.SiteFacts.{SiteFacts}
use Rattle.vx_script.specs.declared.line.ScriptLine.TheVariants.{Recover}
use Rattle.vx_diskset.specs.Asked.{SameFailing}
use Rattle.vx_diskset.specs.Layouts.{CanBeRaw}
use Rattle.vx_diskset.proofs.KeepsFailing.{failing_same}
use Rattle.vx_events.specs.Facts.{volume_fact}
use Rattle.vx_events.proofs.Places.{some_same}
use Rattle.vx_yard.proofs.Lists.{get_at}
use Rattle.vx_yard.proofs.NamedSite.{unbegun_by}
use Rattle.vx_yard.proofs.OfSites.{site_still}
use Rattle.vx_site_lines.proofs.RiseCases.{bare_refused}
use Rattle.vx_site_lines.proofs.recover.rise_bare.Goals as goal

pub rise_found-requires-clause-raw : goal.rise_found-requires-clause-raw
rise_found-requires-clause-raw g c κs within = λ f at.
    let facts = c.args.yard.now.facts.items in
    let s = c.args.site in
    let one : c.index.result.now ≡ f = some_same (sym (get_at facts s c.index.result.now c.requires.facts c.index.ensures) ∙ at) in
    let two : c.index-2.result.now ≡ f = some_same (sym (get_at facts s c.index-2.result.now c.requires.facts c.index-2.ensures) ∙ at) in
    record {
      can = subst (λ (x : SiteFacts). CanBeRaw x.disks f.blocks) one (subst (λ (x : SiteFacts). CanBeRaw c.index.result.now.disks x.blocks) two (c.can_be_raw.ensures.is (search rules)));
      size = ap (λ (x : SiteFacts). x.blocks) (sym two);
      table = c.in_ok-volumes.ensures ∙ ap (λ (x : SiteFacts). map volume_fact (raw_volumes 1 (x.disks - 2) c.index-2.result.now.blocks)) one
          ∙ ap (λ (x : SiteFacts). map volume_fact (raw_volumes 1 (f.disks - 2) x.blocks)) two;
      fits = (c.requires.room f at).start;
    }

pub rise_found-requires-clause-room : goal.rise_found-requires-clause-room
rise_found-requires-clause-room g c κs within =
    (c.requires.room c.index-2.result.now (get_at c.args.yard.now.facts.items c.args.site c.index-2.result.now c.requires.facts c.index-2.ensures)).waiting

pub rise_found-requires-clause-empty : goal.rise_found-requires-clause-empty
rise_found-requires-clause-empty g c κs within =
    (c.requires.room c.index-2.result.now (get_at c.args.yard.now.facts.items c.args.site c.index-2.result.now c.requires.facts c.index-2.ensures)).shows

pub returns-then-not-can_be_raw-clause-rises : goal.returns-then-not-can_be_raw-clause-rises
returns-then-not-can_be_raw-clause-rises g c = λ d number stands below bare. bare_refused d c.args.yard.now c.args.site c.args.name.now number stands below bare

pub returns-then-not-can_be_raw-clause-failing : goal.returns-then-not-can_be_raw-clause-failing
returns-then-not-can_be_raw-clause-failing g c = site_still SameFailing c.args.site c.args.yard.now c.args.yard.now failing_same c.requires.disk_set refl

pub returns-in_err-volumes-clause-rises : goal.returns-in_err-volumes-clause-rises
returns-in_err-volumes-clause-rises g c = λ d number stands below bare.
    let p = err_from_is_err_and c.from_residual.result c.from_residual.ensures.1 in
    unbegun_by d (Recover c.args.name.now) c.args.yard.now _ c.from_residual.result p.0 p.1 refl refl refl (record { flight = refl; assemblies = refl; feeders = refl }) stands

pub returns-in_err-volumes-clause-failing : goal.returns-in_err-volumes-clause-failing
returns-in_err-volumes-clause-failing g c = site_still SameFailing c.args.site c.args.yard.now c.args.yard.now failing_same c.requires.disk_set refl

pub returns-clause-rises : goal.returns-clause-rises
returns-clause-rises g c = λ d number stands below bare. c.rise_found.ensures.rises d c.args.name.now number stands below bare
