-- `full_at`: its result, and what the views ask.
use Rattle.std.proofs.Common.{◌∙◌, ap, sym, List}
use Rattle.std.specs.Prelude.{Option, map}
use Rattle.vx_config.specs.declared.config.Config.{Config}
use Rattle.vx_order.specs.declared.facts.SiteFacts.{SiteFacts}
use Rattle.vx_events.specs.GroupViews.{config_disks, volume_view, volumes_of}
use Rattle.vx_yard.proofs.Lists.{get_at}
use Rattle.vx_above.specs.Views.{full_seen}
use Rattle.vx_above.proofs.Smalls.{small_as}
use Rattle.vx_above.proofs.StatusAbove.{full_above, full_apart, full_plain}
use Rattle.vx_above.proofs.site_view.full_at.Goals as goal

pub views_of-shown-requires-clause-few : goal.views_of-shown-requires-clause-few
views_of-shown-requires-clause-few g c = small_as c.index-disk_set.result.now _ (sym c.config.ensures)

pub returns-clause-linked : goal.returns-clause-linked
returns-clause-linked g c = λ d f stands below apart off at links.
    let y = c.args.yard.now in
    let s = c.args.site in
    let disk_set = c.index-disk_set.result.now in
    let shown = c.views_of-shown.result in
    full_apart d y s c.session-session.result c.index.result.now f shown.0 shown.1 c.args.links disk_set c.full_view.result stands below apart off
    (get_at y.facts.items s c.index.result.now c.requires.site c.index.ensures) at
    (get_at y.disk_sets.items s disk_set c.requires.disk_set c.index-disk_set.ensures)
    c.session-session.ensures.is
    (c.full_view.ensures ∙ ap (λ (fs : List SiteFacts). full_seen fs c.session-session.result c.index.result.now shown.0 shown.1 c.args.links) c.deref.ensures.value)
    (c.views_of-shown.ensures.disks ∙ ap (λ (o : Option Config). config_disks o) c.config.ensures)
    (c.views_of-shown.ensures.volumes ∙ ap (λ (o : Option Config). map volume_view (volumes_of o)) c.config.ensures)
    links

pub returns-clause-plain : goal.returns-clause-plain
returns-clause-plain g c = λ none.
    let y = c.args.yard.now in
    let s = c.args.site in
    let disk_set = c.index-disk_set.result.now in
    let shown = c.views_of-shown.result in
    full_plain y s c.session-session.result c.index.result.now shown.0 shown.1 c.args.links disk_set c.full_view.result
    (get_at y.facts.items s c.index.result.now c.requires.site c.index.ensures)
    (get_at y.disk_sets.items s disk_set c.requires.disk_set c.index-disk_set.ensures)
    (c.full_view.ensures ∙ ap (λ (fs : List SiteFacts). full_seen fs c.session-session.result c.index.result.now shown.0 shown.1 c.args.links) c.deref.ensures.value)
    (c.views_of-shown.ensures.disks ∙ ap (λ (o : Option Config). config_disks o) c.config.ensures)
    (c.views_of-shown.ensures.volumes ∙ ap (λ (o : Option Config). map volume_view (volumes_of o)) c.config.ensures)
    none

pub returns-clause-above : goal.returns-clause-above
returns-clause-above g c = λ d f stands below over at links.
    let y = c.args.yard.now in
    let s = c.args.site in
    let disk_set = c.index-disk_set.result.now in
    let shown = c.views_of-shown.result in
    full_above d y s c.session-session.result c.index.result.now f shown.0 shown.1 c.args.links disk_set c.full_view.result stands below over
    (get_at y.facts.items s c.index.result.now c.requires.site c.index.ensures) at
    (get_at y.disk_sets.items s disk_set c.requires.disk_set c.index-disk_set.ensures)
    c.session-session.ensures.is
    (c.full_view.ensures ∙ ap (λ (fs : List SiteFacts). full_seen fs c.session-session.result c.index.result.now shown.0 shown.1 c.args.links) c.deref.ensures.value)
    (c.views_of-shown.ensures.disks ∙ ap (λ (o : Option Config). config_disks o) c.config.ensures)
    (c.views_of-shown.ensures.volumes ∙ ap (λ (o : Option Config). map volume_view (volumes_of o)) c.config.ensures)
    links
