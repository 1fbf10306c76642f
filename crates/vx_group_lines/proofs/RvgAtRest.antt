-- A site whose group has a replicated volume group, at rest before its disks are imported, and what is looked at behind that.
use Rattle.std.proofs.Common.{◌≡◌, ◌∙◌, ◌<◌, ◌≤◌, ℕ, Bool, true, [], ap, arith, sym, subst, refl}
use Rattle.std.specs.Prelude.{IsTrue, Option, Some, None, slice_get, Result, Err}
use Rattle.vx_model.specs.declared.errors.OutOfMemory.{OutOfMemory}
use Rattle.vx_model.specs.declared.errors.Stop.{Stop}
use Rattle.vx_model.specs.declared.errors.Stop.TheVariants.{No as StopsBy, OutOfMemory as MemoryStop}
use Rattle.vx_model.specs.declared.no.No.TheVariants.{Device}
use Rattle.vx_model.specs.declared.site.SiteState.{SiteState}
use Rattle.vx_model.specs.declared.site.SiteState.TheVariants.{Down as IsDown}
use Rattle.vx_disk.specs.declared.shelf.Shelf.{Ghosts}
use Rattle.vx_history.specs.Doubts.{Doubted}
use Rattle.vx_history.specs.Groups.{GroupNode}
use Rattle.vx_history.specs.World.{Node}
use Rattle.vx_order.specs.declared.facts.SiteFacts.{SiteFacts}
use Rattle.vx_grouped.specs.GroupSites.{site_below, site_disks}
use Rattle.vx_diskset.specs.Asked.{SameFailing}
use Rattle.vx_diskset.specs.Holds.{KeptBeside, beside_of}
use Rattle.vx_diskset.specs.Aboves.{site_in}
use Rattle.vx_diskset.specs.Noted.{SiteNoted}
use Rattle.vx_diskset.specs.OverRises.{LookedOver, LooksOver, RaisedOver, RaisesAbove}
use Rattle.vx_diskset.specs.Stands.{IsRackTold, SiteStands, faults_at}
use Rattle.vx_diskset.specs.declared.disk_set.DiskSet.{DiskSet}
use Rattle.vx_diskset.specs.declared.disk_set.DiskSet.TheVariants.{Bare, Spoiled, Up as RaisedSet, Receives, Down as DownSet, OfGroup, Over, Gone as GoneSet}
use Rattle.vx_diskset.specs.declared.group_set.CutWrite.{CutWrite}
use Rattle.vx_diskset.specs.declared.group_set.KeptWrite.{KeptWrite}
use Rattle.vx_diskset.specs.declared.over_set.OverSet.{OverSet}
use Rattle.vx_events.proofs.OverSeats.{fact_apart}
use Rattle.vx_events.proofs.RvgEvents.{rvg_apart}
use Rattle.vx_events.specs.GroupNotes.{note_at}
use Rattle.vx_events.specs.LinkedFacts.{linked_fact, links_by, links_of_site}
use Rattle.vx_events.specs.RvgViews.{is_over_rvg}
use Rattle.vx_events.specs.declared.said.Said.{Said}
use Rattle.vx_yard.proofs.Carrying.{SameLoad}
use Rattle.vx_yard.proofs.NamedSite.{fact_of}
use Rattle.vx_yard.proofs.OneSite.{Changed}
use Rattle.vx_yard.specs.Standing.{StandsFor}
use Rattle.vx_yard.specs.declared.yard.Yard.{Yard}
use Rattle.vx_above.proofs.OverSites.{OverIs, note_is, over_set, site_noted}
use Rattle.vx_group_lines.specs.Rises.{StoodUp}
use Rattle.vx_group_lines.specs.RvgRises.{RestsSo, rests_as}
use Rattle.vx_group_lines.proofs.Raising.{RaisedTo}
use Rattle.vx_group_lines.proofs.Recovering.{changed_up, failing_up, same_between}
use Rattle.vx_group_lines.proofs.RvgComing.{DownCall}

module _ {R : Type 0} {g : Ghosts R} where
  -- ---- what was looked at

  -- it has a replicated volume group behind that
  pub record LookedAt (cut : Option CutWrite) (x : OverSet R g) (after : DiskSet R g) (answer : Result (Option KeptWrite) Stop) : Type 0 where
    pub set : OverSet R g
    pub is : after ≡ Over set
    pub looked : LooksOver cut (Over x) (Over set) answer

  pub looked_at : (cut : Option CutWrite) (x : OverSet R g) (after : DiskSet R g) (answer : Result (Option KeptWrite) Stop) → LooksOver cut (Over x) after answer → LookedAt cut x after answer
  looked_at cut x (Over p) answer it = record { set = p; is = refl; looked = it }
  looked_at cut x (Bare rack) answer it = absurd it
  looked_at cut x (Spoiled rack) answer it = absurd it
  looked_at cut x (RaisedSet rvg) answer it = absurd it
  looked_at cut x (Receives r) answer it = absurd it
  looked_at cut x (DownSet rack) answer it = absurd it
  looked_at cut x (OfGroup r) answer it = absurd it
  looked_at cut x GoneSet answer it = absurd it

  -- where no write was cut nothing is read, and no disk fails
  pub never_lost : (beside : KeptBeside) (n : Node) (note : GroupNode) (x p : OverSet R g) (stop : Stop) → LookedOver beside n note None x p (Err stop) → ⊥
  never_lost beside n note x p (StopsBy (Device disk)) it = it.2
  never_lost beside n note x p (StopsBy other) it = it
  never_lost beside n note x p MemoryStop it = it

  -- ---- the site rests

  -- where the call begins: the yard stands for the world in which the site rests
  pub record AtRest (d : Doubted) (s kept : ℕ) (taken : Bool) (old : Yard R g) : Type 0 where
    pub rests : RestsSo d s kept taken
    pub stands : StandsFor (rests_as d s kept taken) old
    pub below : s < (rests_as d s kept taken).world.sites
    pub over : is_over_rvg ((rests_as d s kept taken).world.nodes s) ≡ true
    pub down : ((rests_as d s kept taken).world.nodes s).state ≡ IsDown

  module _ (d : Doubted) (s kept : ℕ) (taken : Bool) (old mid new : Yard R g) (before between : DiskSet R g) (first : RaisedTo old mid s before between) (at : AtRest d s kept taken old) where
    abbrev b : Doubted
    b = rests_as d s kept taken

    abbrev n : Node
    n = (rests_as d s kept taken).world.nodes s

    abbrev note : GroupNode
    note = note_at ((rests_as d s kept taken).world.nodes s)

    -- what the tests see of it
    abbrev pub rest_seen_fact : SiteFacts
    rest_seen_fact = linked_fact (rests_as d s kept taken).world s

    pub rest_over : OverIs before
    rest_over = over_set (beside_of b s) n before (at.stands.disk_sets.sites s before at.below first.there) at.over

    abbrev pub rest_set : OverSet R g
    rest_set = rest_over.set

    there_over : slice_get old.disk_sets.items s ≡ Some (Over rest_set)
    there_over = first.there ∙ ap (λ (e : DiskSet R g). Some e) rest_over.is

    stood : SiteStands (beside_of b s) n (Over rest_set)
    stood = at.stands.disk_sets.sites s (Over rest_set) at.below there_over

    noted : SiteNoted n note (Over rest_set)
    noted = site_noted b old s rest_set at.stands at.below there_over at.over

    pub first_fact : slice_get old.facts.items s ≡ Some rest_seen_fact
    first_fact = fact_of b old s at.stands at.below ∙ ap (λ (x : SiteFacts). Some x) (fact_apart b.world s (rvg_apart n at.over))

    pub unlinked : rest_seen_fact.links ≡ []
    unlinked = ap (λ (t : SiteState). links_by t (links_of_site b.world s)) at.down

    -- such a call on its disks
    pub called_rest : (after : DiskSet R g) → Changed old new s before after → SameFailing before after → DownCall (rests_as d s kept taken) old new s rest_set after
    called_rest after changed failing = record {
      stands = at.stands;
      below = at.below;
      over = at.over;
      down = at.down;
      changed = subst (λ (e : DiskSet R g). Changed old new s e after) rest_over.is changed;
      failing = subst (λ (e : DiskSet R g). SameFailing e after) rest_over.is failing;
    }

    pub called_over : (after : DiskSet R g) (p : OverSet R g) → after ≡ Over p → Changed old new s before after → SameFailing before after → DownCall (rests_as d s kept taken) old new s rest_set (Over p)
    called_over after p is changed failing = called_rest (Over p) (subst (λ (e : DiskSet R g). Changed old new s before e) is changed) (subst (λ (e : DiskSet R g). SameFailing before e) is failing)

    -- what the import came to
    pub raised : (r : Result (Option CutWrite) Stop) → RaisesAbove before between r
        → RaisedOver (beside_of (rests_as d s kept taken) s) ((rests_as d s kept taken).world.nodes s) (note_at ((rests_as d s kept taken).world.nodes s)) rest_set between r
    raised r above = subst (λ (e : DiskSet R g). RaisesAbove e between r) rest_over.is above (beside_of b s) n note (note_is n at.over) at.down (at.stands.links.quiet s) stood noted

    -- ---- what was looked at behind it

    module _ (cut : Option CutWrite) (result : Result Said OutOfMemory) (st : StoodUp s cut mid new result) where
      pub stood_same : between ≡ st.before
      stood_same = same_between old mid new s before between first cut result st

      pub stood_changed : Changed old new s before st.after
      stood_changed = changed_up old mid new s before between first cut result st

      pub stood_failing : SameFailing before st.after
      stood_failing = failing_up old mid new s before between first cut result st

      pub stood_load : new.assemblies ≡ mid.assemblies → SameLoad old new
      stood_load held = record {
        flight = st.flight ∙ first.load.flight;
        assemblies = ap (λ xs. xs.items) held ∙ first.load.assemblies;
        feeders = ap (λ xs. xs.items) st.feeders ∙ first.load.feeders;
      }

      pub stood_looks : (x : OverSet R g) → between ≡ Over x → LookedAt cut x st.after st.answer
      stood_looks x is = looked_at cut x st.after st.answer (subst (λ (e : DiskSet R g). LooksOver cut e st.after st.answer) (sym stood_same ∙ is) st.over)

      -- its rack tells no more than that of the group that came up
      pub stood_told : (x p : OverSet R g) → between ≡ Over x → st.after ≡ Over p → IsTrue (site_below (site_in p)).tells → IsTrue (site_below (site_in x)).tells
      stood_told x p is to told =
          subst (λ (e : DiskSet R g). IsRackTold e) (sym stood_same ∙ is) (st.later.told (subst (λ (e : DiskSet R g). IsRackTold e) (sym to) told))

      -- no call on its disks goes back
      pub stood_later : (x p : OverSet R g) → between ≡ Over x → st.after ≡ Over p → (k : ℕ) → (site_disks (site_in x)).disk_faults k ≤ (site_disks (site_in p)).disk_faults k
      stood_later x p is to k = omega (arith, st.later.counts k, ap (λ (e : DiskSet R g). faults_at e k) (sym stood_same ∙ is), ap (λ (e : DiskSet R g). faults_at e k) to)
