-- What the status of a site shows of the group below its replicated volume group.
use Rattle.std.proofs.Common.{◌≡◌, ◌∙◌, ◌<◌, ℕ, Bool, true, false, List, [], map, ap, sym, refl}
use Rattle.std.specs.Prelude.{Option, Some, None, slice_get}
use Rattle.vx_model.specs.declared.site.SiteState.{SiteState}
use Rattle.vx_model.specs.declared.site.SiteState.TheVariants.{Bare as IsBare, Up as IsUp, Deported as IsDeported, Down as IsDown}
use Rattle.vx_disk.specs.declared.shelf.Shelf.{Ghosts}
use Rattle.vx_config.specs.declared.config.Config.{Config}
use Rattle.vx_history.specs.Doubts.{Doubted}
use Rattle.vx_history.specs.Groups.{GroupNode}
use Rattle.vx_history.specs.World.{Node}
use Rattle.vx_grouped.specs.GroupSites.{GroupSiteStands, site_config}
use Rattle.vx_grouped.specs.declared.group_site.GroupSite.{GroupSite}
use Rattle.vx_grouped.specs.declared.group_site.GroupSite.TheVariants.{Up as GroupUp, Deported as GroupAway, Down as GroupDown, Marked, Gone as GroupGone}
use Rattle.vx_diskset.specs.Aboves.{site_in}
use Rattle.vx_diskset.specs.GroupCalls.{config_in}
use Rattle.vx_diskset.specs.Holds.{KeptBeside, beside_of}
use Rattle.vx_diskset.specs.Noted.{NotedOn, below_rvg}
use Rattle.vx_diskset.specs.Stands.{SiteStands}
use Rattle.vx_diskset.specs.declared.disk_set.DiskSet.{DiskSet}
use Rattle.vx_diskset.specs.declared.disk_set.DiskSet.TheVariants.{Bare, Spoiled, Up, Receives, Down, OfGroup, Over, Gone}
use Rattle.vx_order.specs.declared.facts.RvgFacts.{RvgFacts}
use Rattle.vx_order.specs.declared.facts.SiteFacts.{SiteFacts}
use Rattle.vx_report.specs.declared.view.LinkView.{LinkView}
use Rattle.vx_report.specs.declared.view.RvgView.{RvgView}
use Rattle.vx_report.specs.declared.view.SiteView.{SiteView}
use Rattle.vx_report.specs.declared.view.VolumeView.{VolumeView}
use Rattle.vx_events.proofs.Places.{some_same}
use Rattle.vx_events.specs.GroupLines.{is_over_group}
use Rattle.vx_events.specs.GroupNotes.{note_at}
use Rattle.vx_events.specs.GroupViews.{config_disks, noted_disks, noted_volumes, shown_up, volume_view, volumes_of}
use Rattle.vx_events.specs.LinkViews.{linked_view}
use Rattle.vx_events.specs.RvgViews.{is_over_rvg, over_disks}
use Rattle.vx_yard.specs.Standing.{StandsFor}
use Rattle.vx_yard.specs.declared.yard.Yard.{Yard}
use Rattle.vx_yard.proofs.OverGroup.{apart_bare, both_ways, over_rvg}
use Rattle.vx_above.proofs.GroupStatus.{config_is}
use Rattle.vx_above.proofs.OverSites.{OverIs, over_set, site_noted}
use Rattle.vx_above.specs.Seen.{group_at, group_in, links_seen, site_seen}
use Rattle.vx_above.specs.Views.{ShowsPlain, full_seen}
use Rattle.vx_events.proofs.RvgEvents.{rvg_apart}
use Rattle.vx_above.proofs.StatusLinks.{linked_view_is}

-- a site that is not up shows neither disks nor volumes
pub none_shown : {A : Type 0} (t : SiteState) (xs : List A) → (t ≡ IsUp → ⊥) → [] ≡ shown_up t xs
none_shown IsBare xs off = refl
none_shown IsUp xs off = absurd (off refl)
none_shown IsDeported xs off = refl
none_shown IsDown xs off = refl

-- a view with these disks and volumes
abbrev with_shown : SiteView → List Bool → List VolumeView → SiteView
with_shown view disks volumes = record view { disks = disks; volumes = volumes }

-- nothing is shown of a replicated volume group that is not seen
none_grouped : (t : SiteState) (fs : List SiteFacts) (session : ℕ) (o : Option RvgFacts) → o ≡ None → group_at t fs session o ≡ None
none_grouped IsBare fs session o none = refl
none_grouped IsUp fs session o none = ap (λ (x : Option RvgFacts). group_in fs session x) none
none_grouped IsDeported fs session o none = refl
none_grouped IsDown fs session o none = refl

-- a view of these parts
abbrev view_by : SiteFacts → List Bool → List VolumeView → Option RvgView → List LinkView → SiteView
view_by f disks volumes rvg links = record { name = f.name; state = f.state; disks = disks; volumes = volumes; rvg = rvg; links = links }

module _ {R : Type 0} {g : Ghosts R} where
  -- a site without one and without links
  pub full_plain : (y : Yard R g) (s session : ℕ) (site : SiteFacts) (disks : List Bool) (volumes : List VolumeView) (links : List LinkView) (disk_set : DiskSet R g) (view : SiteView)
      → slice_get y.facts.items s ≡ Some site → slice_get y.disk_sets.items s ≡ Some disk_set → view ≡ full_seen y.facts.items session site disks volumes links
      → disks ≡ config_disks (config_in disk_set) → volumes ≡ map volume_view (volumes_of (config_in disk_set)) → links ≡ [] → ShowsPlain y s view
  full_plain y s session site disks volumes links disk_set view site_at disk_set_at is disks_is volumes_is links_is f e f_at e_at none =
      let fs : List SiteFacts = y.facts.items in
      let same : disk_set ≡ e = some_same (sym disk_set_at ∙ e_at) in
      is
      ∙ ap (λ (x : SiteFacts). full_seen fs session x disks volumes links) (some_same (sym site_at ∙ f_at))
      ∙ ap (λ (o : Option RvgView). view_by f disks volumes o links) (none_grouped f.state fs session f.rvg none)
      ∙ ap (λ (ls : List LinkView). view_by f disks volumes None ls) links_is
      ∙ ap (λ (ds : List Bool). view_by f ds volumes None []) (disks_is ∙ ap (λ (x : DiskSet R g). config_disks (config_in x)) same)
      ∙ ap (λ (vs : List VolumeView). view_by f (config_disks (config_in e)) vs None []) (volumes_is ∙ ap (λ (x : DiskSet R g). map volume_view (volumes_of (config_in x))) same)

  -- the configuration in memory of a site that is over no group: none
  none_bare : (n : Node) (s : GroupSite R g) → GroupSiteStands n s → n.state ≡ IsBare → site_config s ≡ None
  none_bare n (GroupUp laid) (note, it) bare = absurd (let e : IsUp ≡ IsBare = sym it.at.state ∙ bare in cc)
  none_bare n (GroupAway idle) it bare = refl
  none_bare n (GroupDown idle) it bare = refl
  none_bare n (Marked rack) it bare = refl
  none_bare n GroupGone it bare = absurd it

  none_config : (beside : KeptBeside) (n : Node) (e : DiskSet R g) → SiteStands beside n e → is_over_group n ≡ false → is_over_rvg n ≡ false → config_in e ≡ None
  none_config beside n (Bare rack) it apart off = refl
  none_config beside n (Spoiled rack) it apart off = refl
  none_config beside n (Up rvg) it apart off = refl
  none_config beside n (Receives s) it apart off = refl
  none_config beside n (Down rack) it apart off = refl
  none_config beside n (OfGroup s) it apart off = none_bare n s.site it.stands (apart_bare beside n s it apart)
  none_config beside n (Over s) it apart off = absurd (both_ways (over_rvg beside n s it) off)
  none_config beside n Gone it apart off = absurd it

  -- a group in memory below a replicated volume group shows what is noted of it
  shown_under : (n : Node) (note : GroupNode) (s : GroupSite R g) → NotedOn (below_rvg n) note s
      → (config_disks (site_config s) ≡ shown_up n.state (noted_disks note)) × (map volume_view (volumes_of (site_config s)) ≡ shown_up n.state (noted_volumes note))
  shown_under n note (GroupUp laid) it =
      let is = config_is note.config laid.core.inner.config it.at.lies.config it.spells in (
        ap (λ (o : Option Config). config_disks o) (sym is) ∙ ap (λ (t : SiteState). shown_up t (noted_disks note)) (sym it.at.state),
        ap (λ (o : Option Config). map volume_view (volumes_of o)) (sym is) ∙ ap (λ (t : SiteState). shown_up t (noted_volumes note)) (sym it.at.state),
      )
  shown_under n note (GroupAway idle) it =
      let off : n.state ≡ IsUp → ⊥ = λ on. let e : IsDeported ≡ IsUp = sym it.away.state ∙ on in cc in
      (none_shown n.state (noted_disks note) off, none_shown n.state (noted_volumes note) off)
  shown_under n note (GroupDown idle) it =
      let off : n.state ≡ IsUp → ⊥ = λ on. let e : IsDown ≡ IsUp = sym it.away.state ∙ on in cc in
      (none_shown n.state (noted_disks note) off, none_shown n.state (noted_volumes note) off)
  shown_under n note (Marked rack) it = absurd it
  shown_under n note GroupGone it = absurd it

  -- so a site over no group shows none
  pub full_apart : (d : Doubted) (y : Yard R g) (s session : ℕ) (site f : SiteFacts) (disks : List Bool) (volumes : List VolumeView) (links : List LinkView) (disk_set : DiskSet R g) (view : SiteView) → StandsFor d y → s < d.world.sites
      → is_over_group (d.world.nodes s) ≡ false → is_over_rvg (d.world.nodes s) ≡ false
      → slice_get y.facts.items s ≡ Some site → slice_get y.facts.items s ≡ Some f → slice_get y.disk_sets.items s ≡ Some disk_set
      → ((beside : KeptBeside) (n : Node) → SiteStands beside n disk_set → n.state ≡ IsUp → is_over_group n ≡ false → session ≡ n.session)
      → view ≡ full_seen y.facts.items session site disks volumes links → disks ≡ config_disks (config_in disk_set) → volumes ≡ map volume_view (volumes_of (config_in disk_set))
      → links ≡ links_seen y.facts.items f.links → view ≡ linked_view d.world s
  full_apart d y s session site f disks volumes links disk_set view stands below apart off site_at f_at disk_set_at session_is is disks_is volumes_is links_is =
      let fs : List SiteFacts = y.facts.items in
      let none : config_in disk_set ≡ None = none_config (beside_of d s) (d.world.nodes s) disk_set (stands.disk_sets.sites s disk_set below disk_set_at) apart off in
      is
      ∙ ap (λ (ds : List Bool). full_seen fs session site ds volumes links) (disks_is ∙ ap (λ (o : Option Config). config_disks o) none)
      ∙ ap (λ (vs : List VolumeView). full_seen fs session site [] vs links) (volumes_is ∙ ap (λ (o : Option Config). map volume_view (volumes_of o)) none)
      ∙ linked_view_is d y s session site f links disk_set (site_seen fs session site links) stands below apart site_at f_at disk_set_at session_is refl links_is

  -- and one with a replicated volume group over its group those that it notes
  pub full_above : (d : Doubted) (y : Yard R g) (s session : ℕ) (site f : SiteFacts) (disks : List Bool) (volumes : List VolumeView) (links : List LinkView) (disk_set : DiskSet R g) (view : SiteView) → StandsFor d y → s < d.world.sites
      → is_over_rvg (d.world.nodes s) ≡ true
      → slice_get y.facts.items s ≡ Some site → slice_get y.facts.items s ≡ Some f → slice_get y.disk_sets.items s ≡ Some disk_set
      → ((beside : KeptBeside) (n : Node) → SiteStands beside n disk_set → n.state ≡ IsUp → is_over_group n ≡ false → session ≡ n.session)
      → view ≡ full_seen y.facts.items session site disks volumes links → disks ≡ config_disks (config_in disk_set) → volumes ≡ map volume_view (volumes_of (config_in disk_set))
      → links ≡ links_seen y.facts.items f.links → view ≡ over_disks (d.world.nodes s) (note_at (d.world.nodes s)) (linked_view d.world s)
  full_above d y s session site f disks volumes links disk_set view stands below over site_at f_at disk_set_at session_is is disks_is volumes_is links_is =
      let fs : List SiteFacts = y.facts.items in
      let n : Node = d.world.nodes s in
      let note : GroupNode = note_at n in
      let o : OverIs disk_set = over_set (beside_of d s) n disk_set (stands.disk_sets.sites s disk_set below disk_set_at) over in
      let noted = site_noted d y s o.set stands below (disk_set_at ∙ ap (λ (e : DiskSet R g). Some e) o.is) over in
      let shown = shown_under n note (site_in o.set) noted.0 in
      is
      ∙ ap (λ (ds : List Bool). full_seen fs session site ds volumes links) (disks_is ∙ ap (λ (e : DiskSet R g). config_disks (config_in e)) o.is ∙ shown.0)
      ∙ ap (λ (vs : List VolumeView). full_seen fs session site (shown_up n.state (noted_disks note)) vs links) (volumes_is ∙ ap (λ (e : DiskSet R g). map volume_view (volumes_of (config_in e))) o.is ∙ shown.1)
      ∙ ap (λ (v : SiteView). with_shown v (shown_up n.state (noted_disks note)) (shown_up n.state (noted_volumes note)))
      (linked_view_is d y s session site f links disk_set (site_seen fs session site links) stands below (rvg_apart n over) site_at f_at disk_set_at session_is refl links_is)
