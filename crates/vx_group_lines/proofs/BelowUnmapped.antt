-- Where a line on the group below a replicated volume group begins that asks nothing of the regions which plexes of the group missed: none are noted.
use Rattle.std.proofs.Common.{◌≡◌, ◌∙◌, ℕ, List, true, ap, refl, subst, sym}
use Rattle.std.specs.Prelude.{None, Ok, Result, Some, slice_get}
use Rattle.vx_disk.specs.declared.shelf.Shelf.{Ghosts}
use Rattle.vx_grouped.specs.GroupSites.{UpNoted}
use Rattle.vx_history.specs.Doubts.{Doubted}
use Rattle.vx_history.specs.Groups.{GroupNode}
use Rattle.vx_history.specs.Missing.{with_maps}
use Rattle.vx_history.specs.World.{Node}
use Rattle.vx_model.specs.declared.errors.OutOfMemory.{OutOfMemory}
use Rattle.vx_model.specs.declared.site.SiteState.{SiteState}
use Rattle.vx_model.specs.declared.site.SiteState.TheVariants.{Up as IsUp}
use Rattle.vx_order.specs.declared.facts.RvgFacts.{RvgFacts}
use Rattle.vx_order.specs.declared.facts.SiteFacts.{SiteFacts}
use Rattle.vx_script.specs.declared.line.ScriptLine.{ScriptLine}
use Rattle.vx_diskset.proofs.OverNoted.{noted_up}
use Rattle.vx_diskset.specs.Aboves.{site_in}
use Rattle.vx_diskset.specs.Holds.{beside_of}
use Rattle.vx_diskset.specs.Noted.{below_rvg}
use Rattle.vx_diskset.specs.declared.disk_set.DiskSet.{DiskSet}
use Rattle.vx_events.proofs.RvgMissed.{missed_node, missed_note}
use Rattle.vx_events.specs.Facts.{group_by, group_fact, seat_of}
use Rattle.vx_events.specs.Fails.{Fails}
use Rattle.vx_events.specs.GroupNotes.{note_at}
use Rattle.vx_events.specs.LinkedFacts.{linked_fact}
use Rattle.vx_events.specs.RvgOver.{BelowEnds, OverRvg, missed_world}
use Rattle.vx_events.specs.RvgSteps.{over_rvg_at, rvg_place}
use Rattle.vx_events.specs.RvgViews.{is_over_rvg}
use Rattle.vx_events.specs.declared.said.Said.{Said}
use Rattle.vx_yard.proofs.NamedSite.{fact_named, place_at}
use Rattle.vx_yard.specs.AboveLines.{LeadsAboveIs}
use Rattle.vx_yard.specs.Carries.{Carries}
use Rattle.vx_yard.specs.Standing.{StandsFor}
use Rattle.vx_yard.specs.Yards.{IsTold}
use Rattle.vx_yard.specs.declared.yard.Yard.{Yard}
use Rattle.vx_above.proofs.OverSites.{over_again}
use Rattle.vx_group_lines.proofs.BelowAt.{BelowAt, below_at}
use Rattle.vx_group_lines.proofs.BelowDone.{LeadsBelow, leads_above}
use Rattle.vx_group_lines.proofs.BelowMissed.{missed_carries, missed_site, missed_stands}
use Rattle.vx_group_lines.proofs.NoMaps.{none_noted}
use Rattle.vx_group_lines.proofs.Tests.{UpMay}

module _ {R : Type 0} {g : Ghosts R} where
  -- the site, up and running, where none are noted
  pub record Unmapped (d : Doubted) (y : Yard R g) (name : List ℕ) (s : ℕ) (e : DiskSet R g) : Type 0 where
    pub stands : StandsFor (missed_world none_noted d s) y
    pub carries : Carries d y → Carries (missed_world none_noted d s) y
    pub at : BelowAt (missed_world none_noted d s) y name s e
    pub none : (note_at ((missed_world none_noted d s).world.nodes s)).maps ≡ none_noted
    pub up : ((missed_world none_noted d s).world.nodes s).state ≡ IsUp
    pub running : ((missed_world none_noted d s).world.nodes s).halted ≡ None
    pub asks : UpNoted (below_rvg ((missed_world none_noted d s).world.nodes s)) (note_at ((missed_world none_noted d s).world.nodes s)) (site_in at.set)

  unmapped : (d : Doubted) (y : Yard R g) (name : List ℕ) (s : ℕ) (e : DiskSet R g) → StandsFor d y → seat_of y.facts.items name ≡ Some s → (at : BelowAt d y name s e) → slice_get y.disk_sets.items s ≡ Some e → (d.world.nodes s).state ≡ IsUp
      → (d.world.nodes s).halted ≡ None → Unmapped d y name s e
  unmapped d y name s e stands seat at there up running =
      let n : Node = d.world.nodes s in
      let note : GroupNode = note_at (d.world.nodes s) in
      let m : Node = missed_site none_noted n in
      let f : Doubted = missed_world none_noted d s in
      let here : f.world.nodes s ≡ m = missed_node none_noted d s in
      let then : StandsFor f y = missed_stands none_noted d y name s e stands at there in
      let over : is_over_rvg (f.world.nodes s) ≡ true = ap (λ (x : Node). is_over_rvg x) here ∙ over_again n m (with_maps none_noted note) at.over refl refl in
      let again : BelowAt f y name s e
      = below_at f y name s e then seat (subst (λ (i : ℕ). is_over_rvg (f.world.nodes i) ≡ true) (sym (place_at f y name s then seat).number) over) there in
      let is_up : (f.world.nodes s).state ≡ IsUp = ap (λ (x : Node). x.state) here ∙ up in
      record {
        stands = then;
        carries = missed_carries none_noted d y name s e stands at there;
        at = again;
        none = ap (λ (k : GroupNode). k.maps) (missed_note none_noted d s);
        up = is_up;
        running = ap (λ (x : Node). x.halted) here ∙ running;
        asks = noted_up (beside_of f s) (f.world.nodes s) (note_at (f.world.nodes s)) again.set.site again.stands.1 is_up again.noted.0;
      }

  -- the tests found the site of this name up, with a replicated volume group that is not halted
  pub unmapped_named : (d : Doubted) (y : Yard R g) (name : List ℕ) (s : ℕ) (e : DiskSet R g) → StandsFor d y → seat_of y.facts.items name ≡ Some s → over_rvg_at d.world name ≡ true → slice_get y.disk_sets.items s ≡ Some e
      → (may : UpMay y.facts.items name) → ((rvg : RvgFacts) → may.site.facts.rvg ≡ Some rvg → rvg.halted ≡ None) → Unmapped d y name s e
  unmapped_named d y name s e stands seat over there may runs =
      let at : BelowAt d y name s e = below_at d y name s e stands seat over there in
      let fact : may.site.facts ≡ linked_fact d.world s = fact_named d y name s at.seat seat may.site in
      let up : (d.world.nodes s).state ≡ IsUp = sym (ap (λ (k : SiteFacts). k.state) fact) ∙ may.up in
      let running : (d.world.nodes s).halted ≡ None
      = runs (group_fact (d.world.nodes s)) (ap (λ (k : SiteFacts). k.rvg) fact ∙ ap (λ (t : SiteState). group_by t (d.world.nodes s)) up) in
      unmapped d y name s e stands seat at there up running

  -- what the line is led to where none are noted, it is led to whatever is noted
  pub above_unmapped : (d : Doubted) (y new : Yard R g) (s : ℕ) (line : ScriptLine) (result : Result Said OutOfMemory) → (Carries d y → Carries (missed_world none_noted d s) y) → rvg_place d.world line ≡ s
      → ((said : Said) (fails : Fails) (next : Doubted) → BelowEnds (IsTold new) d line s fails said next → OverRvg (IsTold new) d line s fails said next)
      → (said : Said) × (result ≡ Ok said) × LeadsBelow (missed_world none_noted d s) line s said y new → LeadsAboveIs d line y new result
  above_unmapped d y new s line result carries place turn it =
      subst (λ (r : Result Said OutOfMemory). LeadsAboveIs d line y new r) (sym it.1) (leads_above none_noted d line s it.0 y new carries place (turn it.0) it.2)
