-- `make_site`: clauses told, leads and asked; what `unreachable` asks.
use Rattle.std.proofs.Common.{◌≡◌, ◌∙◌, ◌++◌, ◌∷◌, [], ◌<◌, ℕ, length, ap, sym, arith, refl, vec_len}
use Rattle.std.specs.Prelude.{slice_get, slice_set}
use Rattle.vx_order.specs.declared.facts.SiteFacts.{SiteFacts}
use Rattle.vx_yard.proofs.ChangeSite.{told_before}
use Rattle.vx_yard.proofs.Lists.{get_at, pop_pushed}
use Rattle.vx_events.proofs.Refused.{site_may}
use Rattle.vx_yard.specs.Yards.{in_files}
use Rattle.vx_diskset.specs.Asked.{SameFailing}
use Rattle.vx_diskset.proofs.KeepsFailing.{failing_same}
use Rattle.vx_yard.proofs.OfSites.{site_kept, site_still}
use Rattle.vx_site_lines.proofs.make.make_site.Goals.{then-site-len-via-then-site-len, then-site-len-via-else-site-len+then-site-ge-MOST_SITES}
use Rattle.vx_yard.proofs.NamedSite.{unbegun_by}
use Rattle.vx_yard.proofs.Kept.{many_sites}
use Rattle.vx_site_lines.proofs.SiteMore.{site_leads, site_stops}
use Rattle.std.proofs.lemmas.Result.{err_from_is_err_and}
use Rattle.vx_script.specs.declared.line.ScriptLine.TheVariants.{Site as SiteLine}
use Rattle.vx_site_lines.proofs.make.make_site.Goals as goal

pub returns-in-Ok-clause-told : goal.returns-in-Ok-clause-told
returns-in-Ok-clause-told g c = told_before c.args.yard.now.disk_sets.items c.len-site.result c.index_mut.result.now c.fit-made.new.self
    (get_at c.args.yard.now.disk_sets.items c.len-site.result c.index_mut.result.now (omega (arith, c.if-site-len.false, c.len.ensures, c.args.yard.now.disk_sets.ok)) c.index_mut.ensures.value) c.in-Ok.ensures.later

pub returns-in-Err-clause-told : goal.returns-in-Err-clause-told
returns-in-Err-clause-told g c = told_before c.args.yard.now.disk_sets.items c.len-site.result c.index_mut.result.now c.fit-made.new.self
    (get_at c.args.yard.now.disk_sets.items c.len-site.result c.index_mut.result.now (omega (arith, c.if-site-len.false, c.len.ensures, c.args.yard.now.disk_sets.ok)) c.index_mut.ensures.value) c.in-Err.ensures.later

pub unreachable-requires : goal.unreachable-requires
unreachable-requires g c =
    let may = site_may c.args.yard.now.facts.items (in_files c.args.yard.now) c.args.name.now c.args.disks c.args.blocks c.requires.free in
    let site : c.len-site.result < 8 = omega (arith, c.len-site.ensures, c.args.yard.now.facts.ok, may.few_sites) in
    let disk_sets : c.len.result ≡ 8 = omega (arith, c.len.ensures, c.args.yard.now.disk_sets.ok, c.requires.kept.eight) in
    elim c.then-site-len.branch [
      | then-site-len-via-then-site-len w ↦ absurd (omega (arith, w.if-site-len.true, site, disk_sets))
      | then-site-len-via-else-site-len+then-site-ge-MOST_SITES w ↦ absurd (omega (arith, w.if-site-ge-MOST_SITES.true, site))
    ]

pub returns-in-Ok-clause-leads : goal.returns-in-Ok-clause-leads
returns-in-Ok-clause-leads g c = λ d stands.
    let many = many_sites d c.args.yard.now stands in
    let site : c.len-site.result ≡ length c.args.yard.now.facts.items = omega (arith, c.len-site.ensures, c.args.yard.now.facts.ok) in
    let at = ap (slice_get c.args.yard.now.disk_sets.items) (sym site)
    ∙ get_at c.args.yard.now.disk_sets.items c.len-site.result c.index_mut.result.now (omega (arith, c.if-site-len.false, c.len.ensures, c.args.yard.now.disk_sets.ok)) c.index_mut.ensures.value in
    site_leads d c.args.yard.now _ c.args.name.now c.args.disks c.args.blocks c.index_mut.result.now c.fit-made.new.self stands c.requires.free
    (record { there = at; later = c.in-Ok.ensures.later; disk_sets = ap (λ (k : ℕ). slice_set c.args.yard.now.disk_sets.items k c.fit-made.new.self) site; racks = refl })
    (c.in-Ok.ensures.fits (stands.disk_sets.others (length c.args.yard.now.facts.items) c.index_mut.result.now (omega (arith, many)) at))
    (c.in_ok-push.ensures.items ∙ ap (λ (f : SiteFacts). c.args.yard.now.facts.items ++ f ∷ []) c.bare.ensures)
    (record { flight = refl; assemblies = refl; feeders = refl })

pub returns-in-Err-clause-leads : goal.returns-in-Err-clause-leads
returns-in-Err-clause-leads g c = λ d stands.
    let many = many_sites d c.args.yard.now stands in
    let site : c.len-site.result ≡ length c.args.yard.now.facts.items = omega (arith, c.len-site.ensures, c.args.yard.now.facts.ok) in
    let at = ap (slice_get c.args.yard.now.disk_sets.items) (sym site)
    ∙ get_at c.args.yard.now.disk_sets.items c.len-site.result c.index_mut.result.now (omega (arith, c.if-site-len.false, c.len.ensures, c.args.yard.now.disk_sets.ok)) c.index_mut.ensures.value in
    site_stops c.folder.result c.in-Err.stop c.stopped.result d c.args.yard.now _ c.args.name.now c.args.disks c.args.blocks c.index_mut.result.now c.fit-made.new.self c.stopped.ensures stands c.requires.free
    c.folder.ensures
    (record { there = at; later = c.in-Err.ensures.later; disk_sets = ap (λ (k : ℕ). slice_set c.args.yard.now.disk_sets.items k c.fit-made.new.self) site; racks = refl })
    (c.in-Err.ensures.fits (stands.disk_sets.others (length c.args.yard.now.facts.items) c.index_mut.result.now (omega (arith, many)) at))
    (pop_pushed c.args.yard.now.facts.items c.push.new.self.items c.pop.new.self.items c.bare.result (vec_len c.push.new.self) c.in_ok-push.ensures.items (omega (arith, c.push.new.self.ok)) c.pop.ensures.rest)
    (record { flight = refl; assemblies = refl; feeders = refl })

pub returns-in_err-push-clause-leads : goal.returns-in_err-push-clause-leads
returns-in_err-push-clause-leads g c = λ d stands.
    let p = err_from_is_err_and c.from_residual.result c.from_residual.ensures.1 in
    unbegun_by d (SiteLine c.args.name.now c.args.disks c.args.blocks) c.args.yard.now _ c.from_residual.result p.0 p.1 c.in_err-push.ensures.items refl refl (record { flight = refl; assemblies = refl; feeders = refl }) stands

pub returns-in-Ok-clause-asked : goal.returns-in-Ok-clause-asked
returns-in-Ok-clause-asked g c = λ d stands.
    let many = many_sites d c.args.yard.now stands in
    site_kept d.world.sites c.len-site.result c.args.yard.now _ c.index_mut.result.now c.fit-made.new.self (omega (arith, c.len-site.ensures, c.args.yard.now.facts.ok, many))
    (get_at c.args.yard.now.disk_sets.items c.len-site.result c.index_mut.result.now (omega (arith, c.if-site-len.false, c.len.ensures, c.args.yard.now.disk_sets.ok)) c.index_mut.ensures.value)
    refl c.fit-made.ensures.failing

pub returns-in-Err-clause-asked : goal.returns-in-Err-clause-asked
returns-in-Err-clause-asked g c = λ d stands.
    let many = many_sites d c.args.yard.now stands in
    site_kept d.world.sites c.len-site.result c.args.yard.now _ c.index_mut.result.now c.fit-made.new.self (omega (arith, c.len-site.ensures, c.args.yard.now.facts.ok, many))
    (get_at c.args.yard.now.disk_sets.items c.len-site.result c.index_mut.result.now (omega (arith, c.if-site-len.false, c.len.ensures, c.args.yard.now.disk_sets.ok)) c.index_mut.ensures.value)
    refl c.fit-made.ensures.failing

pub returns-in_err-push-clause-asked : goal.returns-in_err-push-clause-asked
returns-in_err-push-clause-asked g c = λ d stands.
    let may = site_may c.args.yard.now.facts.items (in_files c.args.yard.now) c.args.name.now c.args.disks c.args.blocks c.requires.free in
    site_still SameFailing d.world.sites c.args.yard.now _ failing_same (omega (arith, may.few_sites, many_sites d c.args.yard.now stands, stands.disk_sets.eight)) refl
