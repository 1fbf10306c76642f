-- A line that recovers a site, by what it was before: up, down or bare.
use Rattle.std.proofs.Common.{◌≡◌, ◌∙◌, ◌<◌, ℕ, Bool, false, List, ap, sym, subst, refl, arith}
use Rattle.std.specs.Prelude.{Option, Some, None, Result, slice_get}
use Rattle.vx_model.specs.declared.errors.OutOfMemory.{OutOfMemory}
use Rattle.vx_model.specs.declared.site.SiteState.{SiteState}
use Rattle.vx_model.specs.declared.site.SiteState.TheVariants.{Bare as IsBare, Up as IsUp, Deported, Down as IsDown}
use Rattle.vx_disk.specs.declared.shelf.Shelf.{Ghosts}
use Rattle.vx_history.specs.Doubts.{Doubted, happened}
use Rattle.vx_history.specs.declared.event.Event.TheVariants.{Crash as CrashAt}
use Rattle.vx_events.proofs.OverSeats.{over_reads}
use Rattle.vx_events.proofs.Places.{never_some, some_same}
use Rattle.vx_events.proofs.Refused.{Named, named, passes}
use Rattle.vx_events.specs.Facts.{seat_of, site_number}
use Rattle.vx_events.specs.LinksFit.{LinksFit}
use Rattle.vx_events.specs.Lists.{Choice}
use Rattle.vx_events.specs.declared.said.Said.{Said}
use Rattle.vx_model.specs.declared.no.No.TheVariants.{Role as WrongRole}
use Rattle.vx_order.specs.Grouping.{is_deported, recover_role}
use Rattle.vx_order.specs.Order.{line_refusal}
use Rattle.vx_order.specs.Shapes.{line_role}
use Rattle.vx_order.specs.Subject.{first_name}
use Rattle.vx_order.specs.Tests.{when}
use Rattle.vx_order.specs.declared.facts.SiteFacts.{SiteFacts}
use Rattle.vx_script.specs.declared.line.ScriptLine.TheVariants.{Recover}
use Rattle.vx_above.specs.OwnDisks.{own_disks}
use Rattle.vx_site_lines.specs.Rises.{LeadsFrom, RisesFrom, WasDown, WasUp}
use Rattle.vx_yard.specs.Standing.{Falls, Leads, LeadsIs, StandsFor}
use Rattle.vx_yard.specs.Yards.{count_of}
use Rattle.vx_yard.specs.declared.yard.Yard.{Yard}
use Rattle.vx_yard.proofs.NamedSite.{place_at, site_at}
use Rattle.vx_yard.proofs.RecoverLine.{rose_then}
use Rattle.vx_above.proofs.RiseWorlds.{own_sites}
use Rattle.vx_yard.proofs.SiteEvents.{first_choice, keeps_k}
use Rattle.vx_diskset.proofs.GroupStands.{none_apart}

-- the site of such a line is not deported
pub never_deported : (sites : List SiteFacts) (files : Bool) (name : List ℕ) (f : SiteFacts) → line_refusal sites files (Recover name) ≡ None → ((n : Named sites name) → n.facts ≡ f) → f.state ≡ Deported → ⊥
unfolding first_name line_role
never_deported sites files name f free is away =
    let p = passes sites files (Recover name) free in
    let site = named sites name p.known in
    let none : recover_role (Some f) ≡ None = subst (λ (x : SiteFacts). recover_role (Some x) ≡ None) (is site) (subst (λ (o : Option SiteFacts). recover_role o ≡ None) site.found p.role) in
    let said : recover_role (Some f) ≡ Some WrongRole = ap (λ (t : SiteState). when (is_deported t) WrongRole) away in
    never_some (sym none ∙ said)

module _ {R : Type 0} {g : Ghosts R} where
  -- what the start of a site's group promises of these yards
  abbrev pub Rising : (s blocks : ℕ) → Said → Yard R g → Yard R g → Type 0
  Rising s blocks said old new =
      (d h : Doubted) (c : Choice) (taken : Bool) (name : List ℕ) → site_number d.world name ≡ s → RisesFrom d s c taken h → LinksFit d → StandsFor (own_disks taken s d.world h) old
      → s < h.world.sites → ((own_disks taken s d.world h).world.nodes s).state ≡ IsDown → ((own_disks taken s d.world h).world.nodes s).group ≡ None → blocks ≡ ((own_disks taken s d.world h).world.nodes s).blocks
      → LeadsFrom (own_disks taken s d.world h) d (Recover name) said old new

  -- a site that was down
  pub recover_from_down : (d : Doubted) (old new : Yard R g) (name : List ℕ) (s blocks : ℕ) (said : Said) (f : SiteFacts) → StandsFor d old → (d.world.nodes (site_number d.world name)).group ≡ None → seat_of old.facts.items name ≡ Some s
      → slice_get old.facts.items s ≡ Some f → f.state ≡ IsDown → blocks ≡ f.blocks → Rising s blocks said old new → Leads d (Recover name) said old new
  recover_from_down d old new name s blocks said f stands apart seat at down blocks_is rises =
      let none = subst (λ (i : ℕ). (d.world.nodes i).group ≡ None) (place_at d old name s stands seat).number apart in
      let over = none_apart (d.world.nodes s) none in
      let here = site_at d old name s stands over seat in
      let same = some_same (sym at ∙ here.fact) in
      let state : (d.world.nodes s).state ≡ IsDown = sym (ap (λ (x : SiteFacts). x.state) same) ∙ down in
      let lead = rises d d first_choice false name here.number (WasDown state refl refl) stands.links stands here.below state none (blocks_is ∙ ap (λ (x : SiteFacts). x.blocks) same) in
      record { next = lead.next; fails = lead.fails; done = lead.done; stands = lead.stands; carries = lead.carries; rose = lead.rose }

  -- a site that was up crashes first
  pub recover_from_up : (d : Doubted) (old mid new : Yard R g) (name : List ℕ) (s blocks : ℕ) (said : Said) (f : SiteFacts) → StandsFor d old → (d.world.nodes (site_number d.world name)).group ≡ None → seat_of old.facts.items name ≡ Some s
      → slice_get old.facts.items s ≡ Some f → f.state ≡ IsUp → blocks ≡ f.blocks → ((d : Doubted) → StandsFor d old → s < d.world.sites → (d.world.nodes s).state ≡ IsUp → Falls d s old mid)
      → Rising s blocks said mid new → Leads d (Recover name) said old new
  recover_from_up d old mid new name s blocks said f stands apart seat at up blocks_is falls rises =
      let none = subst (λ (i : ℕ). (d.world.nodes i).group ≡ None) (place_at d old name s stands seat).number apart in
      let over = none_apart (d.world.nodes s) none in
      let here = site_at d old name s stands over seat in
      let same = some_same (sym at ∙ here.fact) in
      let state : (d.world.nodes s).state ≡ IsUp = sym (ap (λ (x : SiteFacts). x.state) same) ∙ up in
      let fell = falls d stands here.below state in
      let h : Doubted = happened d (CrashAt s fell.count) fell.taken in
      let lead = rises d h (keeps_k fell.count) fell.taken name here.number (WasUp state (ap (λ (k : ℕ). happened d (CrashAt s k) fell.taken) (sym fell.keeps))) stands.links fell.stands
      (omega (arith, here.below, fell.sites, own_sites s d.world h fell.taken)) fell.down
      (fell.group ∙ none) (blocks_is ∙ ap (λ (x : SiteFacts). x.blocks) same ∙ sym fell.blocks) in
      record {
        next = lead.next;
        fails = lead.fails;
        done = lead.done;
        stands = lead.stands;
        carries = λ was. lead.carries (fell.carries was);
        rose = rose_then lead.fails (count_of old) (count_of mid) (count_of new) fell.rose lead.rose;
      }

  -- the state of a site that the tests found
  pub state_found : (d : Doubted) (y : Yard R g) (name : List ℕ) (s : ℕ) (f : SiteFacts) → StandsFor d y → seat_of y.facts.items name ≡ Some s → slice_get y.facts.items s ≡ Some f → (d.world.nodes s).state ≡ f.state
  state_found d y name s f stands seat at =
      let here = place_at d y name s stands seat in
      sym (over_reads d.world s (λ (x : SiteFacts). x.state) (d.world.nodes s).state refl refl) ∙ sym (ap (λ (x : SiteFacts). x.state) (some_same (sym at ∙ here.fact)))

  -- a bare one
  pub recover_from_bare : (d : Doubted) (old new : Yard R g) (name : List ℕ) (s : ℕ) (f : SiteFacts) (result : Result Said OutOfMemory) → StandsFor d old → seat_of old.facts.items name ≡ Some s
      → slice_get old.facts.items s ≡ Some f → f.state ≡ IsBare
      → ((d : Doubted) → site_number d.world name ≡ s → StandsFor d old → s < d.world.sites → (d.world.nodes s).state ≡ IsBare → LeadsIs d (Recover name) old new result)
      → LeadsIs d (Recover name) old new result
  recover_from_bare d old new name s f result stands seat at bare rises =
      let here = place_at d old name s stands seat in
      rises d here.number stands here.below (state_found d old name s f stands seat at ∙ bare)
