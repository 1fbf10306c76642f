-- A site of which a line knows that it is over no group of disks.
use Rattle.std.proofs.Common.{◌≡◌, ◌∙◌, ◌<◌, ℕ, List, length, ap, sym, subst, arith, Bool, false, true}
use Rattle.std.specs.Prelude.{Option, Some, None, ◌&&◌, eqb, is_some, map, if◌then◌else◌}
use Rattle.vx_model.specs.declared.site.SiteState.TheVariants.{Bare as IsBare, Up as IsUp, Down as IsDown}
use Rattle.vx_model.proofs.Lists.{get_there}
use Rattle.vx_history.specs.Doubts.{Doubted}
use Rattle.vx_history.specs.Groups.{GroupNode}
use Rattle.vx_history.specs.World.{Node, Volume, World}
use Rattle.vx_disk.specs.declared.shelf.Shelf.{Ghosts}
use Rattle.vx_diskset.specs.Holds.{KeptBeside, beside_of}
use Rattle.vx_diskset.specs.Stands.{IsGroupSet, SiteStands}
use Rattle.vx_diskset.specs.declared.disk_set.DiskSet.{DiskSet}
use Rattle.vx_diskset.specs.declared.disk_set.DiskSet.TheVariants.{Bare, Spoiled, Up, Receives, Down, OfGroup, Over, Gone}
use Rattle.vx_diskset.specs.declared.group_set.GroupSet.{GroupSet}
use Rattle.vx_diskset.proofs.GroupStands.{over_group}
use Rattle.vx_events.proofs.OverSeats.{fact_apart}
use Rattle.vx_events.specs.Facts.{seat_of, site_fact, volume_fact}
use Rattle.vx_events.specs.GroupLines.{is_over_group}
use Rattle.vx_events.specs.GroupNotes.{note_at}
use Rattle.vx_events.specs.LinkedFacts.{linked_fact, seen_fact}
use Rattle.vx_events.specs.RvgViews.{over_table}
use Rattle.vx_events.specs.StepsOver.{fact_over}
use Rattle.vx_order.specs.declared.facts.SiteFacts.{SiteFacts}
use Rattle.vx_diskset.specs.Asked.{LeavesAlone, WritesUnder}
use Rattle.vx_events.specs.declared.said.Said.{Said}
use Rattle.vx_yard.specs.OfSites.{OfSite, ReadsBy, WritesBy}
use Rattle.vx_yard.specs.Standing.{StandsFor}
use Rattle.vx_yard.specs.declared.yard.Yard.{Yard}
use Rattle.vx_yard.proofs.NamedSite.{SiteAt, place_at, site_at}
use Rattle.vx_diskset.proofs.GroupFinding.{over_made}
use Rattle.vx_yard.proofs.OverGroup.{none_rvg}

-- so is a node with the same group and volumes
pub over_as : (n m : Node) → m.group ≡ n.group → m.volumes ≡ n.volumes → is_over_group n ≡ false → is_over_group m ≡ false
over_as n m group volumes apart =
    ap (λ (o : Option GroupNode). is_some o && eqb (length m.volumes) 0) group ∙ ap (λ (vs : List Volume). is_some n.group && eqb (length vs) 0) volumes ∙ apart

pub over_is : (n m : Node) → m ≡ n → is_over_group n ≡ false → is_over_group m ≡ false
over_is n m same apart = ap is_over_group same ∙ apart

-- a site that notes no group shows its own volumes
pub seen_alone : (n : Node) → n.group ≡ None → seen_fact n ≡ site_fact n
seen_alone n none =
    ap (λ (b : Bool). let f : SiteFacts = record (site_fact n) { grouped = b; volumes = if b then over_table n (note_at n) else map volume_fact n.volumes } in f) (none_rvg n none)

-- what the tests see of such a site
pub fact_at : (w : World) (s : ℕ) (f : SiteFacts) → is_over_group (w.nodes s) ≡ false → f ≡ linked_fact w s → f ≡ fact_over w s
fact_at w s f apart is = is ∙ sym (fact_apart w s apart)

pub fact_stays : (w v : World) (s : ℕ) → is_over_group (w.nodes s) ≡ false → is_over_group (v.nodes s) ≡ false → linked_fact v s ≡ linked_fact w s → fact_over v s ≡ fact_over w s
fact_stays w v s was is same = fact_apart v s is ∙ same ∙ sym (fact_apart w s was)

module _ {R : Type 0} {g : Ghosts R} where
  -- what a read and a write ask of the disks of such a site
  pub reads_alone : (b : Bool) (s : ℕ) (old new : Yard R g) → b ≡ false → OfSite LeavesAlone s old new → OfSite (ReadsBy b) s old new
  reads_alone b s old new apart did = subst (λ (x : Bool). OfSite (ReadsBy x) s old new) (sym apart) did

  pub writes_alone : (b : Bool) (s : ℕ) (bytes : List ℕ) (said : Said) (old new : Yard R g) → b ≡ false → OfSite (WritesUnder bytes said) s old new → OfSite (WritesBy b bytes said) s old new
  writes_alone b s bytes said old new apart did = subst (λ (x : Bool). OfSite (WritesBy x bytes said) s old new) (sym apart) did

  -- the disks of a group are those of a bare site then
  pub never_apart : {A : Type 0} (beside : KeptBeside) (n : Node) (s : GroupSet R g) → IsGroupSet beside n s → is_over_group n ≡ false → (n.state ≡ IsBare → ⊥) → A
  never_apart beside n s stands apart some = absurd (let e : true ≡ false = sym (over_group beside n s stands some) ∙ apart in cc)

  pub never_up : {A : Type 0} (beside : KeptBeside) (n : Node) (s : GroupSet R g) → IsGroupSet beside n s → is_over_group n ≡ false → n.state ≡ IsUp → A
  never_up beside n s stands apart up = never_apart beside n s stands apart (λ bare. let e : IsBare ≡ IsUp = sym bare ∙ up in cc)

  pub never_down : {A : Type 0} (beside : KeptBeside) (n : Node) (s : GroupSet R g) → IsGroupSet beside n s → is_over_group n ≡ false → n.state ≡ IsDown → A
  never_down beside n s stands apart down = never_apart beside n s stands apart (λ bare. let e : IsBare ≡ IsDown = sym bare ∙ down in cc)

  -- and a bare site is over none
  pub bare_apart : (beside : KeptBeside) (n : Node) (e : DiskSet R g) → SiteStands beside n e → n.state ≡ IsBare → is_over_group n ≡ false
  bare_apart beside n (Bare rack) h bare = ap is_over_group h.bare.is
  bare_apart beside n (Spoiled rack) h bare = ap is_over_group h.is
  bare_apart beside n (Up rvg) h bare = absurd (let e : IsBare ≡ IsUp = sym bare ∙ h.1.state in cc)
  bare_apart beside n (Receives s) h bare = absurd (let e : IsBare ≡ IsUp = sym bare ∙ h.1.state in cc)
  bare_apart beside n (Down rack) h bare = absurd (let e : IsBare ≡ IsDown = sym bare ∙ h.state in cc)
  bare_apart beside n (OfGroup s) h bare = ap is_over_group (h.bare bare)
  bare_apart beside n (Over s) h bare = absurd (over_made beside n s.site h.1 bare)
  bare_apart beside n Gone h bare = absurd h

  pub bare_over : (d : Doubted) (y : Yard R g) (s : ℕ) → StandsFor d y → s < d.world.sites → (d.world.nodes s).state ≡ IsBare → is_over_group (d.world.nodes s) ≡ false
  bare_over d y s stands below bare =
      let e = get_there y.disk_sets.items s (omega (arith, below, stands.disk_sets.eight, stands.disk_sets.few)) in
      bare_apart (beside_of d s) (d.world.nodes s) e.0 (stands.disk_sets.sites s e.0 below e.1) bare

  pub bare_seat : (d : Doubted) (y : Yard R g) (name : List ℕ) (s : ℕ) → StandsFor d y → seat_of y.facts.items name ≡ Some s → (d.world.nodes s).state ≡ IsBare → SiteAt d y name s
  bare_seat d y name s stands seat bare = site_at d y name s stands (bare_over d y s stands (place_at d y name s stands seat).below bare) seat
