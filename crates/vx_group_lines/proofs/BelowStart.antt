-- Where a line on the group below a replicated volume group begins: what plexes of it missed is what is in memory.
use Rattle.std.proofs.Common.{◌≡◌, ◌∙◌, ℕ, true, List, ap, sym, subst, refl}
use Rattle.std.specs.Prelude.{Some, slice_get, Result, Ok}
use Rattle.vx_disk.specs.declared.shelf.Shelf.{Ghosts}
use Rattle.vx_history.specs.Doubts.{Doubted}
use Rattle.vx_history.specs.Groups.{GroupNode, MissedNote}
use Rattle.vx_history.specs.Missing.{with_maps}
use Rattle.vx_history.specs.World.{Node}
use Rattle.vx_model.specs.declared.errors.OutOfMemory.{OutOfMemory}
use Rattle.vx_model.specs.declared.site.SiteState.TheVariants.{Up as IsUp}
use Rattle.vx_order.specs.declared.facts.SiteFacts.{SiteFacts}
use Rattle.vx_script.specs.declared.line.ScriptLine.{ScriptLine}
use Rattle.vx_grouped.proofs.ImportMapLemmas.{memory_note, memory_noted}
use Rattle.vx_grouped.specs.GroupSites.{UpNoted}
use Rattle.vx_grouped.specs.SiteMaps.{StandMaps}
use Rattle.vx_grouped.specs.declared.group_site.GroupSite.{GroupSite}
use Rattle.vx_grouped.specs.declared.group_site.GroupSite.TheVariants.{Up as SiteUp, Deported as SiteAway, Down as SiteDown, Marked, Gone as SiteGone}
use Rattle.vx_diskset.proofs.OverNoted.{noted_up}
use Rattle.vx_diskset.specs.Aboves.{site_in}
use Rattle.vx_diskset.specs.Holds.{beside_of}
use Rattle.vx_diskset.specs.Noted.{below_rvg}
use Rattle.vx_diskset.specs.declared.disk_set.DiskSet.{DiskSet}
use Rattle.vx_diskset.specs.declared.disk_set.DiskSet.TheVariants.{Over}
use Rattle.vx_diskset.specs.declared.over_set.OverSet.{OverSet}
use Rattle.vx_events.proofs.Places.{some_same}
use Rattle.vx_events.proofs.RvgMissed.{missed_node, missed_note}
use Rattle.vx_events.specs.Facts.{seat_of, site_number}
use Rattle.vx_events.specs.Fails.{Fails}
use Rattle.vx_events.specs.GroupNotes.{note_at}
use Rattle.vx_events.specs.RvgOver.{BelowEnds, OverRvg, missed_world}
use Rattle.vx_events.specs.RvgSteps.{over_rvg_at, rvg_place}
use Rattle.vx_events.specs.RvgViews.{is_over_rvg}
use Rattle.vx_events.specs.declared.said.Said.{Said}
use Rattle.vx_yard.proofs.NamedSite.{fact_named}
use Rattle.vx_yard.specs.AboveLines.{LeadsAboveIs}
use Rattle.vx_yard.specs.Carries.{Carries}
use Rattle.vx_yard.specs.Standing.{StandsFor}
use Rattle.vx_yard.specs.Yards.{IsTold}
use Rattle.vx_yard.specs.declared.yard.Yard.{Yard}
use Rattle.vx_above.proofs.OverSites.{over_again}
use Rattle.vx_group_lines.proofs.BelowAt.{BelowAt, below_at, below_here}
use Rattle.vx_group_lines.proofs.BelowDone.{LeadsBelow, leads_above}
use Rattle.vx_group_lines.proofs.BelowMissed.{missed_carries, missed_site, missed_stands}
use Rattle.vx_group_lines.proofs.Tests.{UpMay}

module _ {R : Type 0} {g : Ghosts R} where
  -- what the group has in memory may be noted
  memory_at : (n : Node) (note : GroupNode) (e : GroupSite R g) → UpNoted n note e → (w : MissedNote) × StandMaps (with_maps w note) e
  memory_at n note (SiteUp group) it = (
    memory_note group.core.inner.config group.logs.items group.alike group.stopped,
    record {
      config = group.core.inner.config;
      is = it.at.lies.config;
      spells = it.spells;
      up = λ c is. sym (some_same is);
      maps = memory_noted group.core.inner.config group.logs.items group.alike group.stopped;
    },
  )
  memory_at n note (SiteAway idle) it = absurd it
  memory_at n note (SiteDown idle) it = absurd it
  memory_at n note (Marked rack) it = absurd it
  memory_at n note SiteGone it = absurd it

  one_set : (e : DiskSet R g) (x y : OverSet R g) → e ≡ Over x → e ≡ Over y → x ≡ y
  one_set e x y is same = let set : Over x ≡ Over y = sym is ∙ same in cc

  -- the site where it is noted
  pub record BelowStart (d : Doubted) (y : Yard R g) (name : List ℕ) (s : ℕ) (e : DiskSet R g) : Type 0 where
    pub missed : MissedNote
    pub stands : StandsFor (missed_world missed d s) y
    pub carries : Carries d y → Carries (missed_world missed d s) y
    pub number : site_number d.world name ≡ s
    pub at : BelowAt (missed_world missed d s) y name s e
    pub maps : StandMaps (note_at ((missed_world missed d s).world.nodes s)) (site_in at.set)
    pub up : ((missed_world missed d s).world.nodes s).state ≡ IsUp
    pub asks : UpNoted (below_rvg ((missed_world missed d s).world.nodes s)) (note_at ((missed_world missed d s).world.nodes s)) (site_in at.set)

  -- the tests found the site of this name up, with a replicated volume group
  pub below_start : (d : Doubted) (y : Yard R g) (name : List ℕ) (s : ℕ) (e : DiskSet R g) → StandsFor d y → seat_of y.facts.items name ≡ Some s → over_rvg_at d.world name ≡ true
      → UpMay y.facts.items name → slice_get y.disk_sets.items s ≡ Some e → BelowStart d y name s e
  below_start d y name s e stands seat over may there =
      let n : Node = d.world.nodes s in
      let note : GroupNode = note_at (d.world.nodes s) in
      let first : BelowAt d y name s e = below_at d y name s e stands seat over there in
      let up : n.state ≡ IsUp = sym (ap (λ (f : SiteFacts). f.state) (fact_named d y name s first.seat seat may.site)) ∙ may.up in
      let memory : (w : MissedNote) × StandMaps (with_maps w note) (site_in first.set) = memory_at (below_rvg n) note (site_in first.set) (noted_up (beside_of d s) n note first.set.site first.stands.1 up first.noted.0) in
      let w : MissedNote = memory.0 in
      let e_d : Doubted = missed_world w d s in
      let m : Node = missed_site w n in
      let here : e_d.world.nodes s ≡ m = missed_node w d s in
      let then : StandsFor e_d y = missed_stands w d y name s e stands first there in
      let still : is_over_rvg (e_d.world.nodes s) ≡ true = ap (λ (x : Node). is_over_rvg x) here ∙ over_again n m (with_maps w note) first.over refl refl in
      let again : BelowAt e_d y name s e = below_here e_d y name s e then seat still there in
      let is_up : (e_d.world.nodes s).state ≡ IsUp = ap (λ (x : Node). x.state) here ∙ up in
      record {
        missed = w;
        stands = then;
        carries = missed_carries w d y name s e stands first there;
        number = first.seat.number;
        at = again;
        maps =
            subst (λ (k : GroupNode). StandMaps k (site_in again.set)) (sym (missed_note w d s))
            (subst (λ (x : OverSet R g). StandMaps (with_maps w note) (site_in x)) (one_set e first.set again.set first.is_set again.is_set) memory.1);
        up = is_up;
        asks = noted_up (beside_of e_d s) (e_d.world.nodes s) (note_at (e_d.world.nodes s)) again.set.site again.stands.1 is_up again.noted.0;
      }

  -- what it is led to where that is noted, it is led to whatever is noted
  pub above_is : (d : Doubted) (y new : Yard R g) (name : List ℕ) (s : ℕ) (e : DiskSet R g) (line : ScriptLine) (result : Result Said OutOfMemory) (start : BelowStart d y name s e) → rvg_place d.world line ≡ s
      → ((said : Said) (fails : Fails) (next : Doubted) → BelowEnds (IsTold new) d line s fails said next → OverRvg (IsTold new) d line s fails said next)
      → (said : Said) × (result ≡ Ok said) × LeadsBelow (missed_world start.missed d s) line s said y new → LeadsAboveIs d line y new result
  above_is d y new name s e line result start place turn it =
      subst (λ (r : Result Said OutOfMemory). LeadsAboveIs d line y new r) (sym it.1) (leads_above start.missed d line s it.0 y new start.carries place (turn it.0) it.2)
