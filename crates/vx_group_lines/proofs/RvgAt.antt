-- The site of a line that makes a replicated volume group, which no test refuses: it is up over a group of disks, and has none.
use Rattle.std.proofs.Common.{◌≡◌, ◌∙◌, ◌+◌, ◌<◌, ℕ, true, List, length, ap, sym, subst, refl, arith}
use Rattle.std.specs.Prelude.{Contains, Option, Some, None, slice_get, unwrap_or}
use Rattle.std.specs.Str.{bytes_eq}
use Rattle.vx_model.specs.Sites.{is_up}
use Rattle.vx_model.specs.declared.site.SiteState.{SiteState}
use Rattle.vx_model.specs.declared.site.SiteState.TheVariants.{Bare, Up as IsUp, Deported, Down}
use Rattle.vx_disk.specs.declared.shelf.Shelf.{Ghosts}
use Rattle.vx_config.specs.Checks.{is_group}
use Rattle.vx_config.specs.declared.config.Config.{Config}
use Rattle.vx_history.specs.Doubts.{Doubted}
use Rattle.vx_history.specs.Groups.{GroupNode}
use Rattle.vx_history.specs.World.{Node}
use Rattle.vx_grouped.specs.GroupNotes.{NotesConfig}
use Rattle.vx_grouped.specs.GroupSites.{UpNoted, site_config}
use Rattle.vx_grouped.specs.declared.group_site.GroupSite.{GroupSite}
use Rattle.vx_grouped.specs.declared.group_site.GroupSite.TheVariants.{Up, Deported as Away, Down as Fell, Marked, Gone}
use Rattle.vx_diskset.proofs.UnitsLie.{log_aside}
use Rattle.vx_diskset.specs.GroupCalls.{config_in}
use Rattle.vx_diskset.specs.Holds.{beside_of}
use Rattle.vx_diskset.specs.Makings.{IsFirstSite}
use Rattle.vx_diskset.specs.Noted.{NotedOn, SiteNoted}
use Rattle.vx_diskset.specs.GroupSets.{noted_cut}
use Rattle.vx_diskset.specs.Stands.{IsGroupSet, SiteStands}
use Rattle.vx_diskset.specs.declared.disk_set.DiskSet.{DiskSet}
use Rattle.vx_order.specs.Order.{line_refusal}
use Rattle.vx_order.specs.declared.facts.SiteFacts.{SiteFacts}
use Rattle.vx_script.specs.declared.line.ScriptLine.TheVariants.{Rvg}
use Rattle.vx_events.proofs.OverSeats.{fact_grouped}
use Rattle.vx_events.proofs.Places.{position_within}
use Rattle.vx_events.proofs.OverSeats.{seats_over}
use Rattle.vx_events.proofs.RvgTests.{RvgMay, rvg_may}
use Rattle.vx_events.proofs.RvgUnits.{units_fit}
use Rattle.vx_events.proofs.Values.{length-values_from, slice_get-values_from}
use Rattle.vx_events.specs.Facts.{seat_of, site_number}
use Rattle.vx_events.specs.GroupNotes.{note_at}
use Rattle.vx_events.specs.GroupViews.{volumes_of}
use Rattle.vx_events.specs.RvgFits.{config_rvg, entries_noted}
use Rattle.vx_events.specs.RvgNotes.{units_named}
use Rattle.vx_events.specs.StepsOver.{fact_over, facts_over}
use Rattle.vx_yard.proofs.OverGroup.{bare_apart, both_ways, over_is, set_notes}
use Rattle.vx_yard.specs.Working.{IsFree}
use Rattle.vx_yard.specs.Yards.{in_files}
use Rattle.vx_yard.specs.declared.yard.Yard.{Yard}
use Rattle.vx_above.proofs.Changing.{notes_config}
use Rattle.vx_group_lines.proofs.GroupAt.{GroupAt, up_noted}
use Rattle.vx_group_lines.proofs.GroupMarks.{group_noted_at}
use Rattle.vx_yard.specs.Standing.{StandsFor}

up_is : (t : SiteState) → is_up t ≡ true → t ≡ IsUp
up_is Bare is = absurd (cc)
up_is IsUp is = refl
up_is Deported is = absurd (cc)
up_is Down is = absurd (cc)

module _ {R : Type 0} {g : Ghosts R} where
  pub record RvgAt (d : Doubted) (y : Yard R g) (name srl maps : List ℕ) (volumes : List (List ℕ)) (s : ℕ) (e : DiskSet R g) : Type 0 where
    pub number : site_number d.world name ≡ s
    pub group : GroupAt d y name s e
    pub up : (d.world.nodes s).state ≡ IsUp
    pub may : RvgMay d.world s srl maps volumes

  pub rvg_at : (d : Doubted) (y : Yard R g) (name srl maps : List ℕ) (volumes : List (List ℕ)) (s : ℕ) (e : DiskSet R g) → StandsFor d y → seat_of y.facts.items name ≡ Some s → IsFree y (Rvg name srl maps volumes) → slice_get y.disk_sets.items s ≡ Some e
      → RvgAt d y name srl maps volumes s e
  rvg_at d y name srl maps volumes s e stands seat free there =
      let start : 0 + s ≡ s = omega arith in
      let many : length (facts_over d.world) ≡ d.world.sites = length-values_from (λ i. fact_over d.world i) 0 d.world.sites in
      let placed : seat_of (facts_over d.world) name ≡ Some s = ap (λ (fs : List SiteFacts). seat_of fs name) (sym stands.facts) ∙ seat in
      let inside : s < length (facts_over d.world) = position_within (λ (site : SiteFacts). bytes_eq site.name name) (facts_over d.world) s placed in
      let below : s < d.world.sites = omega (arith, many, inside) in
      let number : site_number d.world name ≡ s = ap (λ (o : Option ℕ). unwrap_or o 0) (sym (seats_over d.world name) ∙ placed) in
      let may : RvgMay d.world s srl maps volumes =
      subst (λ (k : ℕ). RvgMay d.world k srl maps volumes) number
      (rvg_may d.world (in_files y) name srl maps volumes (subst (λ (fs : List SiteFacts). line_refusal fs (in_files y) (Rvg name srl maps volumes) ≡ None) stands.facts free)) in
      let it : SiteStands (beside_of d s) (d.world.nodes s) e = stands.disk_sets.sites s e below there in
      let of = over_is (beside_of d s) (d.world.nodes s) e it may.over in
      let set : IsGroupSet (beside_of d s) (d.world.nodes s) of.0 = subst (λ (x : DiskSet R g). SiteStands (beside_of d s) (d.world.nodes s) x) of.1 it in
      record {
        number = number;
        group = record {
          below = below;
          set = of.0;
          is_set = of.1;
          stands = set;
          over = may.over;
          made = λ bare. both_ways may.over (bare_apart (d.world.nodes s) (set.bare bare));
          fact = ap (λ (fs : List SiteFacts). slice_get fs s) stands.facts ∙ slice_get-values_from (λ i. fact_over d.world i) 0 d.world.sites s below ∙ ap (λ (i : ℕ). Some (fact_over d.world i)) start
              ∙ ap (λ (f : SiteFacts). Some f) (fact_grouped d.world s may.over);
        };
        up = up_is (d.world.nodes s).state may.up;
        may = may;
      }

  -- ---- what `DiskSet::make_rvg` asks

  noted_on : (n : Node) (note : GroupNode) (e : GroupSite R g) → UpNoted n note e → NotedOn n note e
  noted_on n note (Up laid) it = it
  noted_on n note (Away idle) it = absurd it
  noted_on n note (Fell idle) it = absurd it
  noted_on n note (Marked rack) it = absurd it
  noted_on n note Gone it = absurd it

  pub record HasUp (note : GroupNode) (e : GroupSite R g) : Type 0 where
    pub config : Config
    pub has : site_config e ≡ Some config
    pub noted : NotesConfig note config

  has_up : (n : Node) (note : GroupNode) (e : GroupSite R g) → UpNoted n note e → HasUp note e
  has_up n note (Up laid) it = record { config = laid.core.inner.config; has = refl; noted = record { is = it.at.lies.config; spells = it.spells } }
  has_up n note (Away idle) it = absurd it
  has_up n note (Fell idle) it = absurd it
  has_up n note (Marked rack) it = absurd it
  has_up n note Gone it = absurd it

  module _ (d : Doubted) (y : Yard R g) (name srl maps : List ℕ) (volumes : List (List ℕ)) (s : ℕ) (e : DiskSet R g) (stands : StandsFor d y) (at : RvgAt d y name srl maps volumes s e) where
    abbrev n : Node
    n = d.world.nodes s

    abbrev note : GroupNode
    note = note_at (d.world.nodes s)

    up_here : UpNoted (d.world.nodes s) (note_at (d.world.nodes s)) at.group.set.site
    up_here = up_noted (d.world.nodes s) at.group.set.site at.group.stands.stands at.up

    pub asks_noted : SiteNoted (d.world.nodes s) (note_at (d.world.nodes s)) e
    asks_noted = subst (λ (x : DiskSet R g). SiteNoted (d.world.nodes s) (note_at (d.world.nodes s)) x) (sym at.group.is_set)
        (noted_on n note at.group.set.site up_here, at.group.stands.cut ∙ ap (λ (o : Option GroupNode). noted_cut o) (group_noted_at d y name s e at.group))

    pub asks_first : IsFirstSite s (d.world.nodes s)
    asks_first = stands.first s at.group.below at.group.made (set_notes (beside_of d s) n at.group.set at.group.stands at.group.made).1.none.volumes

    pub asks_config : HasUp (note_at (d.world.nodes s)) at.group.set.site
    asks_config = has_up n note at.group.set.site up_here

    pub asks_has : config_in e ≡ Some asks_config.config
    asks_has = ap (λ (x : DiskSet R g). config_in x) at.group.is_set ∙ asks_config.has

    pub asks_none : asks_config.config.rvg ≡ None
    asks_none = ap (λ (o : Option Config). config_rvg o) (sym (notes_config note asks_config.config asks_config.noted))
        ∙ at.group.stands.plain at.group.made note (group_noted_at d y name s e at.group)

    pub entries_same : entries_noted (note_at (d.world.nodes s)) ≡ asks_config.config.volumes
    entries_same = ap (λ (o : Option Config). volumes_of o) (notes_config note asks_config.config asks_config.noted)

    pub asks_fits : is_group asks_config.config.volumes (units_named (note_at (d.world.nodes s)) srl maps volumes) ≡ true
    asks_fits = subst (λ vs. is_group vs (units_named (note_at (d.world.nodes s)) srl maps volumes) ≡ true) entries_same (units_fit d.world s srl maps volumes at.may)

    -- the volume of the log is no data volume
    pub asks_aside : (v : ℕ) → Contains (units_named (note_at (d.world.nodes s)) srl maps volumes).vols v → v ≡ (units_named (note_at (d.world.nodes s)) srl maps volumes).srl → ⊥
    asks_aside v has same = log_aside asks_config.config.volumes (units_named (note_at (d.world.nodes s)) srl maps volumes) asks_fits v has same
