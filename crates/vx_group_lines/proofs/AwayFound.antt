-- What an import of a site whose group has a replicated volume group leads its yard to, where nothing was known of the disks, and some replicated volume group came up.
use Rattle.std.proofs.Common.{◌≡◌, ◌∙◌, ℕ, false, List, ap, sym, subst, refl, inr}
use Rattle.std.specs.Prelude.{Some, slice_set}
use Rattle.vx_disk.specs.declared.shelf.Shelf.{Ghosts}
use Rattle.vx_config.specs.declared.config.Config.{Config}
use Rattle.vx_history.specs.Doubts.{Doubted}
use Rattle.vx_history.specs.Steps.{burned}
use Rattle.vx_history.specs.World.{Fuse}
use Rattle.vx_order.specs.declared.facts.SiteFacts.{SiteFacts}
use Rattle.vx_rvg.specs.Views.{Core}
use Rattle.vx_script.specs.declared.line.ScriptLine.TheVariants.{GroupImport}
use Rattle.vx_grouped.specs.GroupSites.{site_config, site_disks}
use Rattle.vx_grouped.specs.SiteReturns.{KeepsFuse, as_imported}
use Rattle.vx_diskset.specs.Aboves.{site_in}
use Rattle.vx_diskset.specs.GroupCalls.{AtSite, core_in}
use Rattle.vx_diskset.specs.Holds.{beside_of}
use Rattle.vx_diskset.specs.OverRises.{FoundAgain}
use Rattle.vx_diskset.specs.declared.disk_set.DiskSet.TheVariants.{Over}
use Rattle.vx_diskset.specs.declared.over_set.OverSet.{OverSet}
use Rattle.vx_events.specs.Facts.{site_number}
use Rattle.vx_events.specs.GroupNotes.{note_at}
use Rattle.vx_events.specs.LinkedFacts.{linked_fact}
use Rattle.vx_events.specs.RvgBack.{RvgFinds}
use Rattle.vx_events.specs.declared.said.Said.TheVariants.{Done}
use Rattle.vx_yard.proofs.Carrying.{SameLoad}
use Rattle.vx_yard.specs.AboveLines.{LeadsAbove}
use Rattle.vx_yard.specs.Yards.{IsTold}
use Rattle.vx_yard.specs.declared.yard.Yard.{Yard}
use Rattle.vx_group_lines.specs.Noting.{made_facts}
use Rattle.vx_group_lines.proofs.AwayCalls.{AwayCall, away_fused, away_links, away_made, away_rest, away_sure}
use Rattle.vx_group_lines.proofs.RvgFound.{FoundCall, found_carries, found_ends, found_fails, found_left, found_rose, found_sits, found_stands}
use Rattle.vx_group_lines.proofs.RvgStanding.{RvgOver}

module _ {R : Type 0} {g : Ghosts R} (d : Doubted) (old new : Yard R g) (name : List ℕ) (s : ℕ) (number : site_number d.world name ≡ s) (o p : OverSet R g) (call : AwayCall d old new s o (Over p)) (keeps : KeepsFuse (as_imported (site_in o)) (site_disks (site_in p)))
    (again : FoundAgain (beside_of d s) (d.world.nodes s) (note_at (d.world.nodes s)) (site_in o) p) where
  abbrev lit : Fuse
  lit = burned (d.world.nodes s).fuse

  abbrev found : FoundCall d d (GroupImport name) s false old new (Over o) p (burned (d.world.nodes s).fuse)
  found = record {
    stands = call.stands;
    fits = call.stands.links;
    below = call.below;
    sure = away_sure d old new s o (Over p) call;
    links = away_links d old new s o (Over p) call;
    note = refl;
    changed = call.changed;
    failing = call.failing;
    brings = tt;
    over = again.over;
    less = again.less;
    lit_is = refl;
    fused = away_fused d old new s o (Over p) call again.over.node (site_disks (site_in p)) again.over.same.fuse refl keeps;
  }

  abbrev left : Doubted
  left = found_left d d (GroupImport name) s false old new (Over o) p lit found

  sits : RvgOver (beside_of left s) again.over.node again.over.next (Over p)
  sits = found_sits d d (GroupImport name) s false old new (Over o) p lit found

  pub away_found : SameLoad old new
      → ((core : Core) (c : Config) → core_in (Over p) ≡ Some core → AtSite (λ x. site_config x ≡ Some c) (Over p) → new.facts.items ≡ slice_set old.facts.items s (made_facts core c (linked_fact d.world s)))
      → LeadsAbove d (GroupImport name) Done old new
  unfolding sits
  away_found load made = record {
    next = left;
    fails = found_fails d d (GroupImport name) s false old new (Over o) p lit found;
    works = inr (subst (λ (k : ℕ). RvgFinds (IsTold new) d (GroupImport name) k (found_fails d d (GroupImport name) s false old new (Over o) p lit found) Done left) (sym number)
        (found_ends d d (GroupImport name) s false old new (Over o) p lit found 0 Done (sym (away_rest d s call.away)) refl));
    stands = found_stands d d (GroupImport name) s false old new (Over o) p lit found
        (made sits.core sits.config sits.has_core sits.has ∙ ap (λ (f : SiteFacts). slice_set old.facts.items s f) (away_made sits.core sits.config d.world s (note_at (d.world.nodes s)) call.away));
    carries = λ carried. found_carries d d (GroupImport name) s false old new (Over o) p lit found load carried;
    rose = found_rose d d (GroupImport name) s false old new (Over o) p lit found;
  }
