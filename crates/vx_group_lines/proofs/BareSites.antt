-- A bare site, of whose disks a group may be made, or on which one may be found.
use Rattle.std.proofs.Common.{◌≡◌, ◌∙◌, ◌<◌, ◌≤◌, ℕ, Bool, true, false, List, [], ap, sym, refl}
use Rattle.std.specs.Prelude.{Option, Some, None, slice_get, if◌then◌else◌}
use Rattle.vx_model.specs.declared.limits.TheConstants.{LEAST_BLOCKS, MOST_DISKS}
use Rattle.vx_model.specs.declared.site.SiteState.TheVariants.{Bare as IsBare, Up as IsUp, Down as IsDown}
use Rattle.vx_disk.specs.declared.shelf.Shelf.{Ghosts}
use Rattle.vx_history.specs.Doubts.{After, Doubted}
use Rattle.vx_history.specs.KeptLinks.{kept_links}
use Rattle.vx_history.specs.World.{Node, NoFuse, World}
use Rattle.vx_order.specs.declared.facts.SiteFacts.{SiteFacts}
use Rattle.vx_diskset.specs.GroupCalls.{bare_disks}
use Rattle.vx_diskset.specs.Holds.{KeptBeside, beside_of, header_links}
use Rattle.vx_diskset.specs.Stands.{SiteStands, bare_with, faults_at}
use Rattle.vx_diskset.specs.declared.disk_set.DiskSet.{DiskSet}
use Rattle.vx_diskset.specs.declared.disk_set.DiskSet.TheVariants.{Bare, Spoiled, Up as RaisedSet, Receives, Down as DownSet, OfGroup, Over, Gone as GoneSet}
use Rattle.vx_events.proofs.OverSeats.{fact_apart}
use Rattle.vx_events.proofs.Steps.{no_sites}
use Rattle.vx_events.specs.Facts.{seat_of, site_number}
use Rattle.vx_events.specs.GroupNotes.{note_at}
use Rattle.vx_events.specs.LinkedFacts.{linked_fact}
use Rattle.vx_events.specs.LinksFit.{IsBlank, LinksFit}
use Rattle.vx_events.specs.StepsOver.{fact_of_group}
use Rattle.vx_yard.proofs.NamedSite.{PlaceAt, place_at}
use Rattle.vx_yard.proofs.OverGroup.{bare_apart}
use Rattle.vx_yard.specs.Standing.{StandsFor}
use Rattle.vx_yard.specs.Yards.{IsShaped, IsYardKept}
use Rattle.vx_yard.specs.declared.yard.Yard.{Yard}
use Rattle.vx_diskset.proofs.GroupFinding.{over_made}

-- the tests see its state, whether it is over a group or not
pub over_state : (n : Node) (w : World) (s : ℕ) (b : Bool) → n ≡ w.nodes s → (if b then fact_of_group (w.nodes s) (note_at (w.nodes s)) else linked_fact w s).state ≡ n.state
over_state n w s true is = ap (λ (k : Node). k.state) (sym is)
over_state n w s false is = ap (λ (k : Node). k.state) (sym is)

pub never_up : IsBare ≡ IsUp → ⊥
never_up e = cc

never_down : IsBare ≡ IsDown → ⊥
never_down e = cc

pub bare_sure : (d : Doubted) (s : ℕ) → (d.world.nodes s).state ≡ IsBare → LinksFit d → d.after s ≡ None
bare_sure d s bare fits = by (d.after s) refl
  where
    by : (o : Option After) → d.after s ≡ o → o ≡ None
    by None is = refl
    by (Some a) is = absurd (never_up (sym bare ∙ (fits.doubts s a is).up))

pub blank_links : (d : Doubted) (s : ℕ) → IsBlank d.world s → header_links d.world s ≡ []
blank_links d s blank = ap (λ (ss : List ℕ). kept_links (d.world.links s) ss) (no_sites (d.world.links s) d.world.sites 0 d.world.sites blank.links)

module _ {R : Type 0} {g : Ghosts R} where
  pub bare_is : (beside : KeptBeside) (n : Node) (e : DiskSet R g) → SiteStands beside n e → n.state ≡ IsBare → n ≡ bare_with n
  bare_is beside n (Bare rack) it bare = it.bare.is
  bare_is beside n (Spoiled rack) it bare = it.is
  bare_is beside n (RaisedSet rvg) it bare = absurd (never_up (sym bare ∙ it.1.state))
  bare_is beside n (Receives s) it bare = absurd (never_up (sym bare ∙ it.1.state))
  bare_is beside n (DownSet rack) it bare = absurd (never_down (sym bare ∙ it.state))
  bare_is beside n (OfGroup s) it bare = it.bare bare
  bare_is beside n (Over s) it bare = absurd (over_made beside n s.site it.1 bare)
  bare_is beside n GoneSet it bare = absurd it

  -- the counts of its disks
  pub bare_counts : (beside : KeptBeside) (n : Node) (e : DiskSet R g) → SiteStands beside n e → n.state ≡ IsBare → (k : ℕ) → (bare_disks e).disk_faults k ≡ faults_at e k
  bare_counts beside n (Bare rack) it bare k = refl
  bare_counts beside n (Spoiled rack) it bare k = refl
  bare_counts beside n (RaisedSet rvg) it bare k = absurd (never_up (sym bare ∙ it.1.state))
  bare_counts beside n (Receives s) it bare k = absurd (never_up (sym bare ∙ it.1.state))
  bare_counts beside n (DownSet rack) it bare k = absurd (never_down (sym bare ∙ it.state))
  bare_counts beside n (OfGroup s) it bare k = refl
  bare_counts beside n (Over s) it bare k = absurd (over_made beside n s.site it.1 bare)
  bare_counts beside n GoneSet it bare k = absurd it

  -- the bare site of this number, and its disks
  pub record IsBareSite (d : Doubted) (y : Yard R g) (name : List ℕ) (s : ℕ) (e : DiskSet R g) : Type 0 where
    pub below : s < d.world.sites
    pub number : site_number d.world name ≡ s
    pub bare : (d.world.nodes s).state ≡ IsBare
    pub is : (d.world.nodes s) ≡ bare_with (d.world.nodes s)
    pub stood : SiteStands (beside_of d s) (d.world.nodes s) e
    pub fact : slice_get y.facts.items s ≡ Some (linked_fact d.world s)
    pub few : (d.world.nodes s).disks ≤ MOST_DISKS
    pub some : LEAST_BLOCKS ≤ (d.world.nodes s).blocks

  pub bare_site : (d : Doubted) (y : Yard R g) (name : List ℕ) (s : ℕ) (e : DiskSet R g) → StandsFor d y → IsYardKept y → seat_of y.facts.items name ≡ Some s → slice_get y.disk_sets.items s ≡ Some e
      → (d.world.nodes s).state ≡ IsBare → IsBareSite d y name s e
  bare_site d y name s e stands kept seat there bare =
      let place : PlaceAt d y name s = place_at d y name s stands seat in
      let n : Node = d.world.nodes s in
      let stood = stands.disk_sets.sites s e place.below there in
      let is : n ≡ bare_with n = bare_is (beside_of d s) n e stood bare in
      let fact : slice_get y.facts.items s ≡ Some (linked_fact d.world s) = place.fact ∙ ap (λ (f : SiteFacts). Some f) (fact_apart d.world s (bare_apart n is)) in
      let shaped : IsShaped (linked_fact d.world s) = kept.each s (linked_fact d.world s) fact in
      record { below = place.below; number = place.number; bare = bare; is = is; stood = stood; fact = fact; few = shaped.disks bare; some = shaped.blocks }

  pub bare_unfused : (d : Doubted) (y : Yard R g) (name : List ℕ) (s : ℕ) (e : DiskSet R g) → IsBareSite d y name s e → (d.world.nodes s).fuse ≡ NoFuse
  bare_unfused d y name s e site = ap (λ (k : Node). k.fuse) site.is
