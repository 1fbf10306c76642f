-- What a status shows of a group in memory is what its site notes.
use Rattle.std.proofs.Common.{◌≡◌, ◌∙◌, ℕ, List, [], map, ap, sym, subst, refl, arith}
use Rattle.std.specs.Prelude.{Bool, true, Option, Some, None, slice_get}
use Rattle.vx_model.specs.declared.site.SiteState.{SiteState}
use Rattle.vx_model.specs.declared.site.SiteState.TheVariants.{Bare as IsBare, Up as IsUp, Deported as IsDeported, Down as IsDown}
use Rattle.vx_disk.specs.declared.shelf.Shelf.{Ghosts}
use Rattle.vx_config.specs.declared.config.Config.{Config}
use Rattle.vx_kept.specs.Cleans.{at_serial}
use Rattle.vx_history.specs.Doubts.{Doubted}
use Rattle.vx_history.specs.Groups.{GroupNode}
use Rattle.vx_history.specs.World.{Node}
use Rattle.vx_grouped.specs.GroupSites.{GroupSiteStands, UpNoted, site_config}
use Rattle.vx_grouped.specs.declared.group_site.GroupSite.{GroupSite}
use Rattle.vx_grouped.specs.declared.group_site.GroupSite.TheVariants.{Up, Deported, Down, Marked, Gone}
use Rattle.vx_diskset.specs.GroupCalls.{AtSite, config_in}
use Rattle.vx_diskset.specs.declared.disk_set.DiskSet.{DiskSet}
use Rattle.vx_diskset.specs.declared.disk_set.DiskSet.TheVariants.{Bare, Spoiled, Up as RaisedSet, Receives, Down as DownSet, OfGroup, Over, Gone as GoneSet}
use Rattle.vx_order.specs.declared.facts.SiteFacts.{SiteFacts}
use Rattle.vx_script.specs.declared.line.ScriptLine.TheVariants.{Status}
use Rattle.vx_report.specs.declared.view.SiteView.{SiteView}
use Rattle.vx_report.specs.declared.view.VolumeView.{VolumeView}
use Rattle.vx_events.proofs.Places.{some_same}
use Rattle.vx_events.specs.Facts.{seat_of}
use Rattle.vx_events.specs.GroupEnds.{GroupDone}
use Rattle.vx_events.specs.GroupNotes.{note_at}
use Rattle.vx_events.specs.GroupViews.{config_disks, config_of, grouped_view, noted_disks, noted_volumes, shown_up, volume_view, volumes_of}
use Rattle.vx_events.specs.StepsOver.{fact_of_group, over_group_at}
use Rattle.vx_events.specs.declared.said.Said.TheVariants.{Shown}
use Rattle.vx_yard.proofs.ChangeSite.{rose_none}
use Rattle.vx_yard.proofs.NamedSite.{place_at}
use Rattle.vx_yard.specs.Standing.{LeadsOver, StandsFor}
use Rattle.vx_yard.specs.Yards.{count_of}
use Rattle.vx_yard.specs.declared.yard.Yard.{Yard}
use Rattle.vx_group_lines.specs.Noting.{HasConfig, HasNoConfig}
use Rattle.vx_group_lines.specs.Views.{view_with}
use Rattle.vx_group_lines.proofs.GroupAt.{GroupAt, group_at, up_noted}
use Rattle.vx_group_lines.proofs.GroupLeads.{leads_by}
use Rattle.vx_group_lines.proofs.GroupMarks.{group_noted_at, noting_same}
use Rattle.vx_above.proofs.GroupStatus.{config_is}
use Rattle.vx_above.proofs.StatusAbove.{none_shown}

-- ---- the view

abbrev view_of : Node → SiteState → List Bool → List VolumeView → SiteView
view_of n state disks volumes = record { name = n.name; state = state; disks = disks; volumes = volumes; rvg = None; links = [] }

-- a site that is not up shows neither
pub view_off : (n : Node) (note : GroupNode) → (n.state ≡ IsUp → ⊥) → view_with (fact_of_group n note) None ≡ grouped_view n note
view_off n note off =
    ap (λ (xs : List Bool). view_of n n.state xs []) (none_shown n.state (noted_disks note) off)
    ∙ ap (λ (xs : List VolumeView). view_of n n.state (shown_up n.state (noted_disks note)) xs) (none_shown n.state (noted_volumes note) off)

view_noted : (n : Node) (note : GroupNode) (c : Config) → config_of note.config ≡ Some (at_serial 0 c) → n.state ≡ IsUp → view_with (fact_of_group n note) (Some c) ≡ grouped_view n note
view_noted n note c is up =
    ap (λ (o : Option Config). view_of n n.state (config_disks o) (map volume_view (volumes_of o))) (sym is)
    ∙ ap (λ (t : SiteState). view_of n n.state (shown_up t (noted_disks note)) (shown_up t (noted_volumes note))) (sym up)

module _ {R : Type 0} {g : Ghosts R} where
  pub config_at : (e : DiskSet R g) (o : Option Config) → AtSite (λ s. site_config s ≡ o) e → config_in e ≡ o
  config_at (Bare rack) o is = absurd is
  config_at (Spoiled rack) o is = absurd is
  config_at (RaisedSet rvg) o is = absurd is
  config_at (Receives s) o is = absurd is
  config_at (DownSet rack) o is = absurd is
  config_at (OfGroup s) o is = is
  config_at (Over s) o is = is
  config_at GoneSet o is = absurd is

  -- one that is up has the configuration that is noted
  pub view_up : (n : Node) (note : GroupNode) (s : GroupSite R g) (c : Config) → UpNoted n note s → site_config s ≡ Some c → view_with (fact_of_group n note) (Some c) ≡ grouped_view n note
  view_up n note (Up laid) c it is =
      subst (λ (x : Config). view_with (fact_of_group n note) (Some x) ≡ grouped_view n note) (some_same is)
      (view_noted n note laid.core.inner.config (config_is note.config laid.core.inner.config it.at.lies.config it.spells) it.at.state)
  view_up n note (Deported idle) c it is = absurd it
  view_up n note (Down idle) c it is = absurd it
  view_up n note (Marked rack) c it is = absurd it
  view_up n note Gone c it is = absurd it

  -- ---- the line

  shows_site : (n : Node) (s : GroupSite R g) (view : SiteView) → GroupSiteStands n s → (n.state ≡ IsBare → ⊥)
      → ((c : Config) → site_config s ≡ Some c → view ≡ view_with (fact_of_group n (note_at n)) (Some c))
      → (site_config s ≡ None → view ≡ view_with (fact_of_group n (note_at n)) None) → view ≡ grouped_view n (note_at n)
  shows_site n (Up laid) view (note, it) made up off =
      let noted = up_noted n (Up laid) (note, it) it.at.state in
      up laid.core.inner.config refl ∙ view_up n (note_at n) (Up laid) laid.core.inner.config noted refl
  shows_site n (Deported idle) view (note, it) made up off = off refl ∙ view_off n (note_at n) (λ on. let e : IsDeported ≡ IsUp = sym it.away.state ∙ on in cc)
  shows_site n (Down idle) view (note, it) made up off = off refl ∙ view_off n (note_at n) (λ on. let e : IsDown ≡ IsUp = sym it.away.state ∙ on in cc)
  shows_site n (Marked rack) view it made up off = absurd (made it.state)
  shows_site n Gone view it made up off = absurd it

  -- how a site over a group stands
  pub shows_group : (d : Doubted) (y : Yard R g) (name : List ℕ) (s : ℕ) (e : DiskSet R g) (view : SiteView) → GroupAt d y name s e → slice_get y.disk_sets.items s ≡ Some e
      → ((f : SiteFacts) (c : Config) → slice_get y.facts.items s ≡ Some f → f.rvg ≡ None → HasConfig s c y → view ≡ view_with f (Some c))
      → ((f : SiteFacts) → slice_get y.facts.items s ≡ Some f → f.rvg ≡ None → HasNoConfig s y → view ≡ view_with f None) → view ≡ grouped_view (d.world.nodes s) (note_at (d.world.nodes s))
  shows_group d y name s e view at there up off =
      let n : Node = d.world.nodes s in
      let set_there : slice_get y.disk_sets.items s ≡ Some (OfGroup at.set) = there ∙ ap (λ (x : DiskSet R g). Some x) at.is_set in
      shows_site n at.set.site view at.stands.stands at.made
      (λ c is. up (fact_of_group n (note_at n)) c at.fact refl (record { disk_set = OfGroup at.set; there = set_there; is = is }))
      (λ is. off (fact_of_group n (note_at n)) at.fact refl (record { disk_set = OfGroup at.set; there = set_there; is = is }))

  pub status_leads : (d : Doubted) (y : Yard R g) (name : List ℕ) (s : ℕ) (e : DiskSet R g) (view : SiteView) → StandsFor d y → seat_of y.facts.items name ≡ Some s → over_group_at d.world name ≡ true
      → slice_get y.disk_sets.items s ≡ Some e
      → ((f : SiteFacts) (c : Config) → slice_get y.facts.items s ≡ Some f → f.rvg ≡ None → HasConfig s c y → view ≡ view_with f (Some c))
      → ((f : SiteFacts) → slice_get y.facts.items s ≡ Some f → f.rvg ≡ None → HasNoConfig s y → view ≡ view_with f None) → LeadsOver d (Status name) (Shown view) y y
  status_leads d y name s e view stands seat over there up off =
      let n : Node = d.world.nodes s in
      let at : GroupAt d y name s e = group_at d y name s e stands seat over there in
      leads_by d d (Status name) s [] (Shown view) y y (place_at d y name s stands seat).number
      (GroupDone (note_at n) tt (refl, refl, ap (λ (x : SiteView). Shown x) (shows_group d y name s e view at there up off))
      (record { world = sym (noting_same d.world s (note_at n) (group_noted_at d y name s e at)); after = λ i. refl; strayed = refl }))
      (record { stands = stands; carries = λ was. was }) (rose_none (count_of y) (count_of y) (λ i u. omega arith))
