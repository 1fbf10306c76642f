-- What a call on the group below a replicated volume group leads the yard to, that wrote to no volume, where imports of the group may disagree behind it.
use Rattle.std.proofs.Common.{◌≡◌, ℕ, Bool, true, List, length, refl, sym}
use Rattle.std.specs.Prelude.{Some, slice_set}
use Rattle.vx_model.specs.declared.units.Units.{Units}
use Rattle.vx_disk.specs.declared.shelf.Shelf.{Ghosts}
use Rattle.vx_effects.specs.Facts.{down_fact}
use Rattle.vx_history.specs.Doubts.{Doubted}
use Rattle.vx_history.specs.Groups.{GroupNode}
use Rattle.vx_history.specs.Steps.{burned, crashed}
use Rattle.vx_history.specs.World.{Node}
use Rattle.vx_script.specs.declared.line.ScriptLine.{ScriptLine}
use Rattle.vx_grouped.specs.GroupSites.{DownNoted, UpNoted, with_note}
use Rattle.vx_diskset.specs.Aboves.{site_in}
use Rattle.vx_diskset.specs.Noted.{IsNoteTidy, RestsNamed, below_rvg}
use Rattle.vx_diskset.specs.declared.disk_set.DiskSet.{DiskSet}
use Rattle.vx_diskset.specs.declared.over_set.OverSet.{OverSet}
use Rattle.vx_events.proofs.RvgStays.{then_same}
use Rattle.vx_events.specs.Doubts.{IsAs}
use Rattle.vx_events.specs.Fails.{Fails}
use Rattle.vx_events.specs.GroupEnds.{GroupEnds}
use Rattle.vx_events.specs.GroupNotes.{note_at}
use Rattle.vx_events.specs.GroupViews.{noted_table}
use Rattle.vx_events.specs.LinkedFacts.{linked_fact}
use Rattle.vx_events.specs.RvgFits.{NoteKeepsRvg, entries_noted, rvg_noted}
use Rattle.vx_events.specs.RvgOver.{AsGroup, EndsBelow, loosened_at, note_loosened}
use Rattle.vx_events.specs.RvgViews.{over_table}
use Rattle.vx_events.specs.RvgWorks.{FuseRanOut, NoneFailed}
use Rattle.vx_events.specs.declared.said.Said.{Said}
use Rattle.vx_yard.proofs.Carrying.{LetsGo, SameLoad}
use Rattle.vx_yard.proofs.Rows.{fact_from, fact_like}
use Rattle.vx_yard.specs.Standing.{StandsFor}
use Rattle.vx_yard.specs.Stands.{RoseAll}
use Rattle.vx_yard.specs.Yards.{IsTold, count_of}
use Rattle.vx_yard.specs.declared.yard.Yard.{Yard}
use Rattle.vx_above.proofs.OverSeen.{seen_like}
use Rattle.vx_above.proofs.OverSites.{over_again}
use Rattle.vx_above.proofs.Tables.{table_like}
use Rattle.vx_group_lines.proofs.BelowDone.{LeadsBelow, loosened_world}
use Rattle.vx_group_lines.proofs.BelowOff.{FollowsOff, below_fell, crash_kept, world_kept}
use Rattle.vx_group_lines.proofs.BelowUp.{BelowCalled, NotesBelow, below_follows}
use Rattle.vx_group_lines.proofs.GroupEnding.{world_up}
use Rattle.vx_group_lines.proofs.GroupLeads.{Follows}

pub loosened_as : (loosens : Bool) (d : Doubted) (s : ℕ) (k : GroupNode) → IsAs (world_up d s k) (loosened_at loosens (world_up d s k).world s) (world_up d s (note_loosened loosens k))
loosened_as loosens d s k = record { world = sym (loosened_world loosens d.world s k); after = λ i. refl; strayed = refl }

module _ {R : Type 0} {g : Ghosts R} (d : Doubted) (line : ScriptLine) (old new : Yard R g) (name : List ℕ) (s : ℕ) (before after : DiskSet R g) (p : OverSet R g) (stands : StandsFor d old) (call : BelowCalled d old new name s before after p)
    (loosens : Bool) (k : GroupNode) (tidy : IsNoteTidy (note_loosened loosens k)) (keeps : NoteKeepsRvg (note_at (d.world.nodes s)) k) (cut : k.cut ≡ (note_at (d.world.nodes s)).cut) (inside : k.inside ≡ (note_at (d.world.nodes s)).inside)
    (table : noted_table k ≡ noted_table (note_at (d.world.nodes s))) (rvg : rvg_noted k ≡ rvg_noted (note_at (d.world.nodes s))) where
  abbrev n : Node
  n = d.world.nodes s

  abbrev note : GroupNode
  note = note_at (d.world.nodes s)

  abbrev left : GroupNode
  left = note_loosened loosens k

  notes : NotesBelow note left
  notes = record { keeps = then_same note k left keeps refl; tidy = tidy; cut = cut; inside = inside }

  over : over_table (with_note left n) left ≡ over_table n note
  over = table_like n (with_note left n) note left refl rvg table

  -- what the tests see of the site is the same
  seen : linked_fact d.world s ≡ fact_from (with_note left n) (d.world.links s) d.world.sites
  seen = sym (fact_like n (with_note left n) (d.world.links s) d.world.sites (seen_like n left (burned n.fuse) call.at.over (over_again n (with_note left n) left call.at.over refl refl) over) (λ j l. refl))

  -- it is up still
  pub up_loosened : (said : Said) (fails : Fails) → UpNoted (below_rvg (with_note (note_loosened loosens k) (d.world.nodes s))) (note_loosened loosens k) (site_in p) → new.facts.items ≡ slice_set old.facts.items s (linked_fact d.world s) → SameLoad old new
      → GroupEnds (IsTold new) d line s fails said (world_up d s k) → (loosens ≡ true → NoneFailed s fails → (FuseRanOut (d.world.nodes s) said → ⊥) → ⊥) → RoseAll fails (count_of old) (count_of new) → LeadsBelow d line s said old new
  up_loosened said fails noted facts load ends why rises =
      let follows : Follows d (world_up d s left) old new = below_follows d old new name s before after p stands call left noted notes (linked_fact d.world s) seen facts load in
      record {
        next = world_up d s left;
        middle = world_up d s k;
        fails = fails;
        ends = AsGroup ends;
        loosens = loosens;
        why = why;
        left = loosened_as loosens d s k;
        stands = follows.stands;
        carries = follows.carries;
        rose = rises;
      }

  -- its fuse ran out
  pub off_loosened : (said : Said) (fails : Fails) → DownNoted (crashed (with_note (note_loosened loosens k) (below_rvg (d.world.nodes s))) 0) (note_loosened loosens k) (site_in p)
      → ((units : Units) → rvg_noted k ≡ Some units → RestsNamed units (length (entries_noted k)) (site_in p)) → new.facts.items ≡ slice_set old.facts.items s (down_fact (linked_fact d.world s)) → LetsGo old new s
      → ((count : ℕ) → EndsBelow (IsTold new) d line s fails said (world_kept d s count k)) → (loosens ≡ true → NoneFailed s fails → (FuseRanOut (d.world.nodes s) said → ⊥) → ⊥) → RoseAll fails (count_of old) (count_of new) → LeadsBelow d line s said old new
  off_loosened said fails noted rests facts lets ends why rises =
      let fell : FollowsOff d s left old new = below_fell d old new name s before after p stands call left noted notes rests over facts lets in
      record {
        next = world_kept d s fell.count left;
        middle = world_kept d s fell.count k;
        fails = fails;
        ends = ends fell.count;
        loosens = loosens;
        why = why;
        left = loosened_as loosens (crash_kept d s fell.count) s k;
        stands = fell.follows.stands;
        carries = fell.follows.carries;
        rose = rises;
      }
