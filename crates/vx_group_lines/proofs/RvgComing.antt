-- What a line leaves of a site that was down, with a replicated volume group over its group of disks.
use Rattle.std.proofs.Common.{◌≡◌, ◌∙◌, ◌<◌, ℕ, true, false, List, [], length, ap, sym, subst, refl}
use Rattle.std.specs.Prelude.{eqb, is_some, not, Option, Some, None, slice_set}
use Rattle.vx_model.specs.Sites.{is_origin}
use Rattle.vx_model.proofs.Tests.{and_right}
use Rattle.vx_model.specs.declared.site.SiteState.{SiteState}
use Rattle.vx_model.specs.declared.site.SiteState.TheVariants.{Up as IsUp, Deported as IsAway, Down as IsDown}
use Rattle.vx_disk.specs.declared.shelf.Shelf.{Ghosts}
use Rattle.vx_config.specs.declared.config.Config.{Config}
use Rattle.vx_history.specs.Doubts.{After, Doubted}
use Rattle.vx_history.specs.Groups.{GroupNode}
use Rattle.vx_history.specs.World.{Gathering, Node, NoFuse, Volume, World}
use Rattle.vx_order.specs.declared.facts.SiteFacts.{SiteFacts}
use Rattle.vx_rvg.specs.Views.{Core}
use Rattle.vx_grouped.specs.GroupSites.{DownNoted}
use Rattle.vx_grouped.specs.SiteReturns.{as_imported, is_dimmed}
use Rattle.vx_diskset.specs.Aboves.{below_site, site_in}
use Rattle.vx_diskset.specs.Asked.{FailsAs, FusedAs, SameFailing}
use Rattle.vx_diskset.specs.Holds.{KeptBeside, beside_of, doubt_of, header_links}
use Rattle.vx_diskset.specs.Noted.{IsNamed, NotedOver, NotedOn, SiteNoted, below_rvg}
use Rattle.vx_diskset.specs.Stands.{OverStands, RoleIs, SiteStands}
use Rattle.vx_diskset.specs.declared.disk_set.DiskSet.{DiskSet}
use Rattle.vx_diskset.specs.declared.disk_set.DiskSet.TheVariants.{Over}
use Rattle.vx_diskset.specs.declared.over_set.OverSet.{OverSet}
use Rattle.vx_diskset.specs.declared.over_set.OverSite.{OverSite}
use Rattle.vx_diskset.specs.declared.over_set.OverSite.TheVariants.{Origin as OriginSite, Receiver as ReceiverSite, Deported as OverAway, Down as OverFell, Gone as NoOver}
use Rattle.vx_events.proofs.Places.{never_some}
use Rattle.vx_events.specs.GroupNotes.{note_at}
use Rattle.vx_events.specs.LinkedFacts.{linked_fact, links_by, links_of_site}
use Rattle.vx_events.specs.RvgViews.{is_over_rvg}
use Rattle.vx_events.specs.StepsOver.{fact_of_group, fact_over}
use Rattle.vx_yard.proofs.Carrying.{SameLoad, carries_at, feeds_none}
use Rattle.vx_yard.proofs.FailsStay.{fails_then}
use Rattle.vx_yard.proofs.FuseStays.{fused_none}
use Rattle.vx_yard.proofs.OneSite.{Changed, Comes, stands_at, told_by}
use Rattle.vx_yard.proofs.OverGroup.{both_ways}
use Rattle.vx_yard.specs.Carries.{Carries}
use Rattle.vx_yard.specs.Standing.{BeginsFirst, StandsFor}
use Rattle.vx_yard.specs.declared.yard.Yard.{Yard}
use Rattle.vx_above.proofs.OverSites.{site_named, site_noted}
use Rattle.vx_group_lines.specs.Noting.{made_facts}
use Rattle.vx_group_lines.proofs.Arriving.{Arrives}
use Rattle.vx_group_lines.proofs.GroupAt.{loose_down}
use Rattle.vx_group_lines.proofs.Returning.{SitsOn}
use Rattle.vx_group_lines.proofs.Rising.{sits_down}

-- ---- the node

-- such a site has data volumes
pub some_data : (n : Node) → is_over_rvg n ≡ true → n.volumes ≡ [] → ⊥
some_data n over none =
    let e : true ≡ false = sym (and_right (is_some n.group) (not (eqb (length n.volumes) 0)) over) ∙ ap (λ (vs : List Volume). not (eqb (length vs) 0)) none in
    absurd (cc)

-- one of which no doubt is kept is in none
pub none_after : (w : World) (s : ℕ) (o : Option After) → doubt_of w s o ≡ None → o ≡ None
none_after w s None is = refl
none_after w s (Some a) is = absurd (never_some (sym is))

-- what is seen of one that comes up does not tell that it was down
pub down_made : (core : Core) (c : Config) (w : World) (s : ℕ) (note : GroupNode) → (w.nodes s).state ≡ IsDown → made_facts core c (linked_fact w s) ≡ made_facts core c (fact_of_group (w.nodes s) note)
down_made core c w s note down = ap (λ (t : SiteState). let f : SiteFacts = record (made_facts core c (linked_fact w s)) { links = links_by t (links_of_site w s) } in f) down

module _ {R : Type 0} {g : Ghosts R} where
  -- the note of one that is down is that of disks that crashed
  pub fell_noted : (n k : Node) (note : GroupNode) (beside : KeptBeside) (s : OverSite R g) → OverStands beside n s → n.state ≡ IsDown → NotedOn k note (below_site s) → DownNoted k note (below_site s)
  fell_noted n k note beside (OriginSite f) stands down it = absurd (let clash : IsUp ≡ IsDown = sym stands.state ∙ down in cc)
  fell_noted n k note beside (ReceiverSite f) stands down it = absurd (let clash : IsUp ≡ IsDown = sym stands.state ∙ down in cc)
  fell_noted n k note beside (OverAway idle) stands down it = absurd (let clash : IsAway ≡ IsDown = sym stands.0 ∙ down in cc)
  fell_noted n k note beside (OverFell idle) stands down it = it
  fell_noted n k note beside NoOver stands down it = absurd stands

  fell_unfused : (n k : Node) (note : GroupNode) (beside : KeptBeside) (s : OverSite R g) → OverStands beside n s → n.state ≡ IsDown → NotedOn k note (below_site s) → k.fuse ≡ NoFuse
  fell_unfused n k note beside (OriginSite f) stands down it = absurd (let clash : IsUp ≡ IsDown = sym stands.state ∙ down in cc)
  fell_unfused n k note beside (ReceiverSite f) stands down it = absurd (let clash : IsUp ≡ IsDown = sym stands.state ∙ down in cc)
  fell_unfused n k note beside (OverAway idle) stands down it = absurd (let clash : IsAway ≡ IsDown = sym stands.0 ∙ down in cc)
  fell_unfused n k note beside (OverFell idle) stands down it = it.unfused
  fell_unfused n k note beside NoOver stands down it = absurd stands

  -- a call on the disks of a site that is down
  pub record DownCall (b : Doubted) (old new : Yard R g) (s : ℕ) (o : OverSet R g) (after : DiskSet R g) : Type 0 where
    pub stands : StandsFor b old
    pub below : s < b.world.sites
    pub over : is_over_rvg (b.world.nodes s) ≡ true
    pub down : (b.world.nodes s).state ≡ IsDown
    pub changed : Changed old new s (Over o) after
    pub failing : SameFailing (Over o) after

  -- a call on the disks of a site that is down or was deported, as an import sees them
  pub record RestCall (b : Doubted) (old new : Yard R g) (s : ℕ) (o : OverSet R g) (after : DiskSet R g) : Type 0 where
    pub changed : Changed old new s (Over o) after
    pub noted : SiteNoted (b.world.nodes s) (note_at (b.world.nodes s)) (Over o)
    pub sits : SitsOn (below_rvg (b.world.nodes s)) (as_imported (site_in o))
    pub loose : is_dimmed (site_in o) ≡ true → (note_at (b.world.nodes s)).loose ≡ true

  module _ (b : Doubted) (old new : Yard R g) (s : ℕ) (o : OverSet R g) (after : DiskSet R g) (call : DownCall b old new s o after) where
    abbrev n : Node
    n = b.world.nodes s

    abbrev note : GroupNode
    note = note_at (b.world.nodes s)

    pub rest_stood : SiteStands (beside_of b s) (b.world.nodes s) (Over o)
    rest_stood = call.stands.disk_sets.sites s (Over o) call.below call.changed.there

    pub rest_noted : SiteNoted (b.world.nodes s) (note_at (b.world.nodes s)) (Over o)
    rest_noted = site_noted b old s o call.stands call.below call.changed.there call.over

    pub rest_named : IsNamed (b.world.nodes s)
    rest_named = site_named b old s o call.stands call.below call.changed.there

    pub rest_sure : b.after s ≡ None
    rest_sure = none_after b.world s (b.after s) rest_stood.0.1

    pub rest_links : header_links b.world s ≡ []
    rest_links = rest_stood.0.4

    pub rest_origin : is_origin (b.world.nodes s).role ≡ true
    rest_origin = rest_stood.0.5

    pub rest_some : (b.world.nodes s).volumes ≡ [] → ⊥
    rest_some none = some_data n call.over none

    pub rest_fell : DownNoted (below_rvg (b.world.nodes s)) (note_at (b.world.nodes s)) (site_in o)
    rest_fell = fell_noted n (below_rvg n) note (beside_of b s) o.site rest_stood.1 call.down rest_noted.0

    pub rest_call : RestCall b old new s o after
    rest_call = record { changed = call.changed; noted = rest_noted; sits = sits_down (below_rvg n) note (site_in o) rest_fell; loose = loose_down (below_rvg n) note (site_in o) rest_fell }

    pub rest_unfused : (b.world.nodes s).fuse ≡ NoFuse
    rest_unfused = fell_unfused n (below_rvg n) note (beside_of b s) o.site rest_stood.1 call.down rest_noted.0

    -- ---- such a site behind the line

    module _ (e : Doubted) (m : Node) (gathered : Option Gathering) (arrives : Arrives b e s m gathered) (here : SiteStands (beside_of e s) m after) (failing : m.failing ≡ n.failing) (unfused : m.fuse ≡ NoFuse) (role : RoleIs m after) where
      comes : Comes b e s after
      comes = record {
        changes = arrives.site;
        links = arrives.fits;
        stands = subst (λ (x : Node). SiteStands (beside_of e s) x after) (sym arrives.node) here;
        failing = subst (λ (x : Node). FailsAs x after) (sym arrives.node) (fails_then n m (Over o) after failing call.failing (call.stands.failing s (Over o) call.below call.changed.there));
        fuse = subst (λ (x : Node). FusedAs x after) (sym arrives.node) (fused_none m after unfused);
        role = subst (λ (x : Node). RoleIs x after) (sym arrives.node) role;
        doubt = λ was a is. absurd (never_some (sym arrives.sure ∙ is));
      }

      pub stands_so : (f : SiteFacts) → NotedOver m after → f ≡ fact_over e.world s → new.facts.items ≡ slice_set old.facts.items s f → StandsFor e new
      stands_so f noted seen facts =
          stands_at b e old new s f (Over o) after call.stands call.below call.changed comes
          (λ was. subst (λ (x : Node). BeginsFirst s x) (sym arrives.node) (arrives.first was)) (λ _. subst (λ (x : Node). NotedOver x after) (sym arrives.node) noted) seen facts

    -- what the yard carries, where writes arise at the site, or it is not up
    pub carries_so : (e : Doubted) (m : Node) → Arrives b e s m (b.world.gathering s) → (m.state ≡ IsUp → is_origin m.role ≡ false → ⊥) → SameLoad old new → Carries b old → Carries e new
    carries_so e m arrives never load carries =
        carries_at s b e old new carries load (record { site = arrives.site; packets = arrives.packets; gathering = arrives.gathering })
        (feeds_none n (e.world.nodes s) (λ up receives. never (ap (λ (x : Node). x.state) (sym arrives.node) ∙ up) (ap (λ (x : Node). is_origin x.role) (sym arrives.node) ∙ receives)))
        (told_by old new s (Over o) after call.changed)

    pub never_receives : (m : Node) → is_origin m.role ≡ true → m.state ≡ IsUp → is_origin m.role ≡ false → ⊥
    never_receives m origin up receives = both_ways origin receives
