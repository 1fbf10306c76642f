-- Lines that read or apply at a site that leads its volumes.
use Rattle.std.proofs.Common.{◌≡◌, ◌∙◌, ℕ, List, Bool, true, false, ap, arith, refl, sym, subst}
use Rattle.std.specs.Prelude.{Some, slice_get}
use Rattle.vx_model.specs.Sites.{is_origin}
use Rattle.vx_model.specs.declared.site.Role.{Role}
use Rattle.vx_model.specs.declared.site.SiteState.TheVariants.{Up as IsUp}
use Rattle.vx_model.proofs.Lists.{get_there}
use Rattle.vx_model.proofs.Tests.{by_bool}
use Rattle.vx_history.specs.Doubts.{Doubted}
use Rattle.vx_disk.specs.declared.shelf.Shelf.{Ghosts}
use Rattle.vx_order.specs.declared.facts.SiteFacts.{SiteFacts}
use Rattle.vx_script.specs.declared.line.ScriptLine.TheVariants.{Read, Show}
use Rattle.vx_events.proofs.Places.{some_same}
use Rattle.vx_events.proofs.Refused.{Named}
use Rattle.vx_events.proofs.DataNamed.{read_role}
use Rattle.vx_events.proofs.RefusedCalls.{read_may, show_may}
use Rattle.vx_events.proofs.OverSeats.{over_reads}
use Rattle.vx_events.specs.Facts.{seat_of}
use Rattle.vx_events.specs.GroupLines.{is_over_group}
use Rattle.vx_diskset.specs.Holds.{beside_of}
use Rattle.vx_diskset.specs.declared.disk_set.DiskSet.{DiskSet}
use Rattle.vx_yard.specs.Deliveries.{Receives}
use Rattle.vx_yard.specs.Standing.{StandsFor}
use Rattle.vx_yard.specs.Working.{IsFree}
use Rattle.vx_yard.specs.Yards.{in_files}
use Rattle.vx_yard.specs.declared.yard.Yard.{Yard}
use Rattle.vx_yard.proofs.NamedSite.{fact_named, fact_placed, place_at, site_at}
use Rattle.vx_yard.proofs.OverGroup.{over_none}
use Rattle.vx_yard.proofs.Leads.{room_origin, room_receives}
use Rattle.vx_events.specs.RvgViews.{is_over_rvg}
use Rattle.vx_events.specs.RvgOver.{is_plain_kind, kind_named}

module _ {R : Type 0} {g : Ghosts R} (d : Doubted) (y : Yard R g) (name : List ℕ) (s : ℕ) (stands : StandsFor d y) (seat : seat_of y.facts.items name ≡ Some s) where
  -- a site of which the tests see that it is up
  up_at : (n : Named y.facts.items name) → n.facts.state ≡ IsUp → (d.world.nodes s).state ≡ IsUp
  up_at n up =
      sym (over_reads d.world s (λ (f : SiteFacts). f.state) (d.world.nodes s).state refl refl)
      ∙ sym (ap (λ (f : SiteFacts). f.state) (fact_placed d y name s (place_at d y name s stands seat) seat n)) ∙ up

  -- a site over a group leads its volumes
  over_leads : is_over_group (d.world.nodes s) ≡ true → is_origin (d.world.nodes s).role ≡ true
  over_leads over =
      let below = (place_at d y name s stands seat).below in
      let e = get_there y.disk_sets.items s (omega (arith, below, stands.disk_sets.few, stands.disk_sets.eight)) in
      ap (λ (r : Role). is_origin r) (over_none (beside_of d s) (d.world.nodes s) e.0 (stands.disk_sets.sites s e.0 below e.1) over).role

  -- a read that no test refuses is at such a site
  pub read_leads : (volume : List ℕ) (start count : ℕ) → (is_over_rvg (d.world.nodes s) ≡ true → is_plain_kind (kind_named (d.world.nodes s) volume) ≡ false) → IsFree y (Read name volume start count) → (t : ℕ) → seat_of y.facts.items name ≡ Some t → is_origin (d.world.nodes t).role ≡ true
  read_leads volume start count plain free t at =
      let may = read_may y.facts.items (in_files y) name volume start count free in
      let up : (d.world.nodes s).state ≡ IsUp = up_at may.site may.up in
      subst (λ (i : ℕ). is_origin (d.world.nodes i).role ≡ true) (some_same (sym seat ∙ at))
      (by_bool (is_over_group (d.world.nodes s)) over_leads
      (λ apart. ap is_origin (read_role d.world s y.facts.items (in_files y) name volume start count may.site (fact_named d y name s (site_at d y name s stands apart seat) seat may.site) up plain free)))

  module _ (e : DiskSet R g) (b : Bool) (there : slice_get y.disk_sets.items s ≡ Some e) (is : Receives e b) where
    -- one that has room for updates receives
    pub room_waits : b ≡ true → is_origin (d.world.nodes s).role ≡ false
    room_waits yes_ = (room_receives (beside_of d s) (d.world.nodes s) e b is yes_ (stands.disk_sets.sites s e (place_at d y name s stands seat).below there)).1

    -- one that is up and has none leads
    pub room_leads : b ≡ false → (n : Named y.facts.items name) → n.facts.state ≡ IsUp → (t : ℕ) → seat_of y.facts.items name ≡ Some t → is_origin (d.world.nodes t).role ≡ true
    room_leads none n up t at =
        let below = (place_at d y name s stands seat).below in
        subst (λ (i : ℕ). is_origin (d.world.nodes i).role ≡ true) (some_same (sym seat ∙ at))
        (room_origin (beside_of d s) (d.world.nodes s) e b is none (stands.roles.each s e below there) (stands.disk_sets.sites s e below there) (up_at n up))

    pub show_leads : b ≡ false → (volume : List ℕ) (start count : ℕ) → IsFree y (Show name volume start count) → (t : ℕ) → seat_of y.facts.items name ≡ Some t → is_origin (d.world.nodes t).role ≡ true
    show_leads none volume start count free = let may = show_may y.facts.items (in_files y) name volume start count free in room_leads none may.site may.up
