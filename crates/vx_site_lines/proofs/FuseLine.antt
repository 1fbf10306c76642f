-- What a line leaves that sets the fuse of a site.
use Rattle.std.proofs.Common.{◌≡◌, ◌∙◌, ◌<◌, ℕ, true, false, List, [], ap, sym, subst, refl, Some}
use Rattle.vx_history.specs.Steps.{fused}
use Rattle.vx_history.specs.World.{Node, FuseSet}
use Rattle.vx_model.specs.declared.site.SiteState.TheVariants.{Up as IsUp}
use Rattle.vx_disk.specs.declared.shelf.Shelf.{Ghosts}
use Rattle.vx_script.specs.declared.line.ScriptLine.TheVariants.{Fuse}
use Rattle.vx_diskset.specs.declared.disk_set.DiskSet.{DiskSet}
use Rattle.vx_events.specs.declared.said.Said.TheVariants.{Done}
use Rattle.vx_yard.specs.declared.yard.Yard.{Yard}
use Rattle.vx_events.specs.Facts.{seat_of, site_number}
use Rattle.vx_events.specs.StepsOver.{over_group_at}
use Rattle.vx_yard.specs.Working.{IsFree}
use Rattle.vx_yard.specs.Yards.{in_files}
use Rattle.vx_yard.proofs.CrashLine.{rose_still, fuse_fact}
use Rattle.vx_events.proofs.Refused.{fuse_may}
use Rattle.std.proofs.Common.{arith}
use Rattle.std.specs.Prelude.{Option}
use Rattle.vx_history.proofs.Updates.{at_place}
use Rattle.vx_history.specs.Doubts.{Doubted}
use Rattle.vx_history.specs.World.{with_node}
use Rattle.vx_disk.specs.Disks.{SameBlocks}
use Rattle.vx_diskset.specs.Asked.{SetsFuse}
use Rattle.vx_diskset.specs.Fuses.{HasLeft}
use Rattle.vx_diskset.specs.Holds.{KeptBeside, beside_of}
use Rattle.vx_diskset.specs.Stands.{KeepsRole, SiteStands}
use Rattle.vx_yard.specs.OfSites.{OfSite}
use Rattle.vx_yard.specs.Standing.{Leads, StandsFor, BeginsFirst}
use Rattle.vx_yard.specs.Yards.{IsTold}
use Rattle.vx_yard.proofs.FailsStay.{fails_then, fuse_keeps}
use Rattle.vx_yard.proofs.FuseStays.{fused_on}
use Rattle.vx_yard.proofs.NamedSite.{apart_at, asks_at, named_at, place_at}
use Rattle.vx_yard.proofs.NoteSite.{changes_one, comes_one, none_left, with_one}
use Rattle.vx_yard.proofs.OneSite.{Changed, role_kept, stands_still, told_by}
use Rattle.vx_yard.proofs.Rows.{fact_like, fact_same}
use Rattle.vx_yard.proofs.Carrying.{SameLoad, carries_node}
use Rattle.vx_above.proofs.SeenSites.{state_placed}
use Rattle.vx_site_lines.proofs.Apart.{fact_stays, over_is}
use Rattle.vx_yard.proofs.FirstSites.{begins_like}
use Rattle.vx_diskset.proofs.NotedLikes.{noted_fused}
use Rattle.vx_diskset.specs.Noted.{NotedOver, OversFused}
use Rattle.vx_events.specs.Ends.{Ends}
use Rattle.vx_events.specs.GroupLines.{is_over_group}
use Rattle.vx_events.specs.GroupNotes.{IsKnown, note_at}
use Rattle.vx_events.specs.RvgOver.{EndsOver}
use Rattle.vx_events.specs.RvgSteps.{over_rvg_at}
use Rattle.vx_events.specs.RvgViews.{is_over_rvg}
use Rattle.vx_yard.specs.AboveLines.{LeadsAbove}
use Rattle.vx_yard.specs.Carries.{Carries}
use Rattle.vx_events.proofs.RvgEvents.{rvg_apart}
use Rattle.vx_site_lines.proofs.AboveEnds.{stays_over}

-- a site whose fuse is set
abbrev fused_node : Node → (calls : ℕ) → Node
fused_node m calls = record m { fuse = FuseSet calls }

fuse_ends : (told : Type 0) (d : Doubted) (name : List ℕ) (calls pick s : ℕ) → site_number d.world name ≡ s
    → Ends told d (Fuse name calls pick) (site_number d.world name) [] Done (with_one d s (fused_node (d.world.nodes s) calls))
fuse_ends told d name calls pick s number =
    none_left told d (Fuse name calls pick) (site_number d.world name) Done (with_node d.world s (fused_node (d.world.nodes s) calls)) refl refl (ap (λ (k : ℕ). fused d.world k calls) (sym number))

module _ {R : Type 0} {g : Ghosts R} where
  -- the site of such a line is up
  pub fuse_up : (d : Doubted) (old : Yard R g) (name : List ℕ) (calls pick s : ℕ) → StandsFor d old → IsFree old (Fuse name calls pick) → seat_of old.facts.items name ≡ Some s → (d.world.nodes s).state ≡ IsUp
  fuse_up d old name calls pick s stands free seat =
      let may = fuse_may old.facts.items (in_files old) name calls pick free in
      state_placed d old name s stands seat may.0 ∙ may.1

  -- the yard behind it, in which the site has the fuse
  pub fuse_stands : (d : Doubted) (old new : Yard R g) (calls pick s : ℕ) (before after : DiskSet R g) → StandsFor d old → s < d.world.sites → is_over_group (d.world.nodes s) ≡ false → (d.world.nodes s).state ≡ IsUp
      → Changed old new s before after → KeepsRole before after → OversFused calls before after → ((beside : KeptBeside) (n : Node) → SiteStands beside n before → n.state ≡ IsUp → SiteStands beside (record n { fuse = FuseSet calls }) after)
      → ((beside : KeptBeside) (n : Node) → SiteStands beside n before → n.state ≡ IsUp → SetsFuse calls pick before after)
      → new.facts ≡ old.facts → StandsFor (with_one d s (fused_node (d.world.nodes s) calls)) new
  fuse_stands d old new calls pick s before after stands below over up changed keeps noted fuses asked facts =
      let m : Node = d.world.nodes s in
      let n : Node = fused_node m calls in
      let there = stands.disk_sets.sites s before below changed.there in
      let sets = asked (beside_of d s) m there up in
      stands_still d (with_one d s n) old new s before after stands below changed
      (comes_one d s n after refl stands.links (fuses (beside_of d s) m there up)
      (fails_then m n before after refl (fuse_keeps calls pick before after sets) (stands.failing s before below changed.there))
      (fused_on (λ o x. SameBlocks o x × (x.fuse ≡ Some (calls, pick))) m n (FuseSet calls) before after refl
      (λ x y set left. subst (λ (z : Option (ℕ × ℕ)). HasLeft calls z) (sym set.1) (omega arith)) sets (stands.fuses s before below changed.there))
      (role_kept d old s before after stands below changed.there keeps))
      (λ first. subst (λ (x : Node). BeginsFirst s x) (sym (at_place d.world.nodes s n)) (begins_like s m n (λ bare. bare) refl refl refl refl first))
      (λ was. subst (λ (x : Node). NotedOver x after) (sym (at_place d.world.nodes s n))
      (noted_fused (beside_of d s) m n calls (record { name = refl; disks = refl; blocks = refl; volumes = refl; group = refl; state = refl; fuse = refl }) before after there up noted was))
      (fact_stays d.world (with_one d s n).world s over (over_is n ((with_one d s n).world.nodes s) (at_place d.world.nodes s n) over)
      (fact_same n ((with_one d s n).world.nodes s) (d.world.links s) (d.world.links s) d.world.sites d.world.sites (at_place d.world.nodes s n) (λ k. refl) refl
      ∙ fact_like m n (d.world.links s) d.world.sites (fuse_fact m (FuseSet calls)) (λ k l. refl)))
      (ap (λ fs. fs.items) facts)

  fuse_carries : (d : Doubted) (old new : Yard R g) (calls s : ℕ) (before after : DiskSet R g) → Changed old new s before after → SameLoad old new
      → Carries d old → Carries (with_one d s (fused_node (d.world.nodes s) calls)) new
  fuse_carries d old new calls s before after changed load =
      let n : Node = fused_node (d.world.nodes s) calls in
      carries_node s d (with_one d s n) n old new load (changes_one d s n) refl refl (at_place d.world.nodes s n) refl refl refl (told_by old new s before after changed)

  pub fuse_leads : (d : Doubted) (old new : Yard R g) (name : List ℕ) (calls pick s : ℕ) (before after : DiskSet R g) → StandsFor d old → over_group_at d.world name ≡ false → IsFree old (Fuse name calls pick) → seat_of old.facts.items name ≡ Some s
      → Changed old new s before after → KeepsRole before after → OversFused calls before after → ((beside : KeptBeside) (n : Node) → SiteStands beside n before → n.state ≡ IsUp → SiteStands beside (record n { fuse = FuseSet calls }) after)
      → ((beside : KeptBeside) (n : Node) → SiteStands beside n before → n.state ≡ IsUp → SetsFuse calls pick before after)
      → new.facts ≡ old.facts → SameLoad old new → Leads d (Fuse name calls pick) Done old new
  fuse_leads d old new name calls pick s before after stands apart free is changed keeps noted fuses asked facts load =
      let seat = named_at d old name s stands apart is in
      record {
        next = with_one d s (fused_node (d.world.nodes s) calls);
        fails = [];
        done = record { ends = fuse_ends (IsTold new) d name calls pick s seat.number; counts = tt; works = tt; calls = tt };
        carries = fuse_carries d old new calls s before after changed load;
        stands = fuse_stands d old new calls pick s before after stands seat.below (apart_at d old name s stands apart is) (fuse_up d old name calls pick s stands free is) changed keeps noted fuses asked facts;
        rose = rose_still old new s before after changed.there changed.later changed.disk_sets;
      }

  -- the same where the group of the site bears a replicated volume group
  pub fuse_above : (d : Doubted) (old new : Yard R g) (name : List ℕ) (calls pick s : ℕ) (before after : DiskSet R g) → StandsFor d old → over_rvg_at d.world name ≡ true → IsFree old (Fuse name calls pick) → seat_of old.facts.items name ≡ Some s
      → Changed old new s before after → KeepsRole before after → OversFused calls before after → ((beside : KeptBeside) (n : Node) → SiteStands beside n before → n.state ≡ IsUp → SiteStands beside (record n { fuse = FuseSet calls }) after)
      → ((beside : KeptBeside) (n : Node) → SiteStands beside n before → n.state ≡ IsUp → SetsFuse calls pick before after)
      → new.facts ≡ old.facts → SameLoad old new → LeadsAbove d (Fuse name calls pick) Done old new
  fuse_above d old new name calls pick s before after stands rvg free is changed keeps noted fuses asked facts load =
      let m : Node = d.world.nodes s in
      let n : Node = fused_node m calls in
      let seat = place_at d old name s stands is in
      let over : is_over_rvg m ≡ true = subst (λ (i : ℕ). is_over_rvg (d.world.nodes i) ≡ true) seat.number rvg in
      record {
        next = with_one d s n;
        fails = [];
        works = subst (λ (i : ℕ). EndsOver (IsTold new) d (Fuse name calls pick) i [] Done (with_one d s n)) (sym seat.number)
            (stays_over (IsTold new) d (Fuse name calls pick) s Done Done (with_one d s n) (fuse_ends (IsKnown (IsTold new) (note_at m)) d name calls pick s seat.number) refl refl over
            (ap (λ (x : Node). x.group) (at_place d.world.nodes s n)) refl);
        carries = fuse_carries d old new calls s before after changed load;
        stands = fuse_stands d old new calls pick s before after stands seat.below (rvg_apart m over) (fuse_up d old name calls pick s stands free is) changed keeps noted fuses asked facts;
        rose = rose_still old new s before after changed.there changed.later changed.disk_sets;
      }

  pub fuse_asks : (d : Doubted) (old new : Yard R g) (name : List ℕ) (calls pick s : ℕ) (before after : DiskSet R g) → StandsFor d old → IsFree old (Fuse name calls pick) → seat_of old.facts.items name ≡ Some s
      → Changed old new s before after → ((beside : KeptBeside) (n : Node) → SiteStands beside n before → n.state ≡ IsUp → SetsFuse calls pick before after) → OfSite (SetsFuse calls pick) (site_number d.world name) old new
  fuse_asks d old new name calls pick s before after stands free is changed asked =
      let seat = place_at d old name s stands is in
      asks_at (SetsFuse calls pick) d old new name s before after stands is changed.there changed.disk_sets
      (asked (beside_of d s) (d.world.nodes s) (stands.disk_sets.sites s before seat.below changed.there) (fuse_up d old name calls pick s stands free is))
