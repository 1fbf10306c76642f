-- Lines on the replicated volume group of a site over a group, by how they end there.
use Rattle.std.proofs.Common.{◌≡◌, ℕ, List, sym, subst, refl}
use Rattle.vx_history.specs.Doubts.{Doubted}
use Rattle.vx_history.specs.World.{Fuse}
use Rattle.vx_order.specs.Calls.{is_data}
use Rattle.vx_order.specs.declared.facts.VolumeKind.{VolumeKind}
use Rattle.vx_order.specs.declared.facts.VolumeKind.TheVariants.{Data}
use Rattle.vx_script.specs.declared.line.ScriptLine.TheVariants.{Put, Read, Show, Write}
use Rattle.vx_events.specs.Fails.{Fails}
use Rattle.vx_events.specs.RvgOver.{EndsOver, EndsRead, EndsWrite, fuse_behind, kind_named, OverRvg, NotesLine, burnt_over}
use Rattle.vx_events.specs.declared.said.Said.{Said}
use Rattle.vx_events.specs.RvgWorks.{FuseRanOut, NotesWork}
use Rattle.vx_history.specs.Groups.{GroupNode}
use Rattle.vx_script.specs.declared.line.ScriptLine.{ScriptLine}
use Rattle.vx_events.specs.GroupNotes.{note_at}
use Rattle.vx_events.specs.RvgSteps.{rvg_place}
use Rattle.vx_events.specs.Facts.{site_number}
use Rattle.vx_events.specs.Ends.{place_of as site_of}

-- what is asked of a line whose events are those of a raw set
pub record LineOver (told : Type 0) (d : Doubted) (s : ℕ) (line : ScriptLine) : Type 0 where
  pub place : site_of d.world line ≡ s
  pub lined : (inner : Said) (fails : Fails) (next : GroupNode) → NotesWork (FuseRanOut (d.world.nodes s) inner) s fails (note_at (d.world.nodes s)) next
      → NotesLine (FuseRanOut (d.world.nodes s) inner) s fails line (note_at (d.world.nodes s)) next
  pub wrap : (fails : Fails) (said : Said) (new : Doubted) → EndsOver told d line s fails said new → OverRvg told d line (rvg_place d.world line) fails said new
  pub fuse : (old now : Fuse) → fuse_behind line old now ≡ burnt_over old now

-- ---- by the names of a line

module _ (told : Type 0) (d : Doubted) (name volume : List ℕ) (s : ℕ) (number : site_number d.world name ≡ s) where
  pub line_write : (start count fill : ℕ) → kind_named (d.world.nodes s) volume ≡ Data → LineOver told d s (Write name volume start count fill)
  line_write start count fill kind = record {
    place = number;
    lined = λ inner fails next works. works;
    wrap = λ fails said new ends.
        subst (λ (k : ℕ). OverRvg told d (Write name volume start count fill) k fails said new) (sym number)
        (subst (λ (x : VolumeKind). EndsWrite (is_data x) told d (Write name volume start count fill) s fails said new) (sym kind) ends);
    fuse = λ old now. refl;
  }

  pub line_put : (start : ℕ) (bytes : List ℕ) → kind_named (d.world.nodes s) volume ≡ Data → LineOver told d s (Put name volume start bytes)
  line_put start bytes kind = record {
    place = number;
    lined = λ inner fails next works. works;
    wrap = λ fails said new ends.
        subst (λ (k : ℕ). OverRvg told d (Put name volume start bytes) k fails said new) (sym number)
        (subst (λ (x : VolumeKind). EndsWrite (is_data x) told d (Put name volume start bytes) s fails said new) (sym kind) ends);
    fuse = λ old now. refl;
  }

  pub line_read : (start count : ℕ) → kind_named (d.world.nodes s) volume ≡ Data → LineOver told d s (Read name volume start count)
  line_read start count kind = record {
    place = number;
    lined = λ inner fails next works. works;
    wrap = λ fails said new ends.
        subst (λ (k : ℕ). OverRvg told d (Read name volume start count) k fails said new) (sym number)
        (subst (λ (x : VolumeKind). EndsRead (is_data x) told d (Read name volume start count) volume start count s fails said new) (sym kind) ends);
    fuse = λ old now. refl;
  }

  pub line_show : (start count : ℕ) → kind_named (d.world.nodes s) volume ≡ Data → LineOver told d s (Show name volume start count)
  line_show start count kind = record {
    place = number;
    lined = λ inner fails next works. works;
    wrap = λ fails said new ends.
        subst (λ (k : ℕ). OverRvg told d (Show name volume start count) k fails said new) (sym number)
        (subst (λ (x : VolumeKind). EndsRead (is_data x) told d (Show name volume start count) volume start count s fails said new) (sym kind) ends);
    fuse = λ old now. refl;
  }
