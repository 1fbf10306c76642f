-- A note of the fuses of two sites.
use Rattle.std.proofs.Common.{◌≡◌, ◌∙◌, ◌⊎◌, ◌<◌, ℕ}
use Rattle.std.specs.Prelude.{Some, slice_get}
use Rattle.vx_history.specs.Doubts.{Doubted}
use Rattle.vx_history.specs.World.{Node}
use Rattle.vx_disk.specs.declared.shelf.Shelf.{Ghosts}
use Rattle.vx_diskset.specs.declared.disk_set.DiskSet.{DiskSet}
use Rattle.vx_effects.proofs.Notes.{both_here}
use Rattle.vx_yard.specs.Carries.{Carries}
use Rattle.vx_link_lines.specs.Headed.{NotesAt, noted_by}
use Rattle.vx_yard.specs.Standing.{StandsFor}
use Rattle.vx_yard.specs.declared.yard.Yard.{Yard}
use Rattle.vx_link_lines.proofs.NotedYard.{carries_noted, note_one, notes_one, stands_noted}

abbrev pub note_both : (a b : ℕ) → (ℕ → Node) → ℕ → Node
note_both a b nodes = note_one b (note_one a nodes)

pub notes_both : (a b s : ℕ) → (s ≡ a) ⊎ (s ≡ b) → NotesAt s (note_both a b)
notes_both a b s one = record {
  here = λ nodes. both_here nodes a b s one;
  alike = λ nodes new i same. (notes_one b).alike (note_one a nodes) (note_one a new) i ((notes_one a).alike nodes new i same);
  shows = λ w. (notes_one b).shows (record w { nodes = note_one a w.nodes }) ∙ (notes_one a).shows w;
  fits = λ d fit. (notes_one b).fits (noted_by (note_one a) d) ((notes_one a).fits d fit);
}

module _ {R : Type 0} {g : Ghosts R} where
  pub stands_both : (d : Doubted) (y : Yard R g) (a b : ℕ) (e f : DiskSet R g) → StandsFor d y → a < d.world.sites → b < d.world.sites → slice_get y.disk_sets.items a ≡ Some e → slice_get y.disk_sets.items b ≡ Some f
      → StandsFor (noted_by (note_both a b) d) y
  stands_both d y a b e f stands below below_too at at_too = stands_noted (noted_by (note_one a) d) y b f (stands_noted d y a e stands below at) below_too at_too

  pub carries_both : (d : Doubted) (y : Yard R g) (a b : ℕ) → Carries d y → Carries (noted_by (note_both a b) d) y
  carries_both d y a b carries = carries_noted (noted_by (note_one a) d) y b (carries_noted d y a carries)
