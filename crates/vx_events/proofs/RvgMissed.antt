-- The worlds in which a site with a replicated volume group over its group notes something else of the regions that plexes missed; and those in which imports of its
-- group may disagree.
use Rattle.std.proofs.Common.{◌≡◌, ◌∙◌, ℕ, Bool, false, ap, subst}
use Rattle.std.specs.Prelude.{Option, Some, unwrap_or}
use Rattle.vx_history.proofs.Updates.{at_place}
use Rattle.vx_history.specs.Doubts.{Doubted}
use Rattle.vx_history.specs.Groups.{GroupNode, MissedNote}
use Rattle.vx_history.specs.Missing.{with_maps}
use Rattle.vx_history.specs.Stops.{IsLikeDoubted}
use Rattle.vx_history.specs.World.{Node, World}
use Rattle.vx_events.proofs.Noting.{as_like, like_disks}
use Rattle.vx_events.proofs.RvgStopping.{noted_doubted}
use Rattle.vx_events.specs.Doubts.{IsAs}
use Rattle.vx_events.specs.GroupNotes.{no_note, note_at}
use Rattle.vx_events.specs.RvgFits.{NoteKeepsRvg}
use Rattle.vx_events.specs.RvgOver.{loosened_at, missed_world, note_loosened}
use Rattle.vx_events.specs.RvgWorks.{NoteAgrees}

module _ (w : MissedNote) (d : Doubted) (s : ℕ) where
  pub missed_node : (missed_world w d s).world.nodes s ≡ record (d.world.nodes s) { group = Some (with_maps w (note_at (d.world.nodes s))) }
  missed_node = at_place d.world.nodes s (record (d.world.nodes s) { group = Some (with_maps w (note_at (d.world.nodes s))) })

  pub missed_note : note_at ((missed_world w d s).world.nodes s) ≡ with_maps w (note_at (d.world.nodes s))
  missed_note = ap (λ (n : Node). note_at n) missed_node

  -- they differ in notes alone
  pub missed_like : IsLikeDoubted d (missed_world w d s)
  missed_like = noted_doubted d s (with_maps w (note_at (d.world.nodes s)))

  pub missed_dark : (note_at (d.world.nodes s)).dark ≡ false → (note_at ((missed_world w d s).world.nodes s)).dark ≡ false
  missed_dark known = ap (λ (k : GroupNode). k.dark) missed_note ∙ known

  pub missed_agrees : NoteAgrees (note_at (d.world.nodes s)) → NoteAgrees (note_at ((missed_world w d s).world.nodes s))
  missed_agrees a = record { loose = ap (λ (k : GroupNode). k.loose) missed_note ∙ a.loose; begun = ap (λ (k : GroupNode). k.begun) missed_note ∙ a.begun }

  -- what keeps the replicated volume group of the one note keeps that of the other
  pub missed_keeps : (next : GroupNode) → NoteKeepsRvg (note_at ((missed_world w d s).world.nodes s)) next → NoteKeepsRvg (note_at (d.world.nodes s)) next
  missed_keeps next keeps = subst (λ (k : GroupNode). NoteKeepsRvg k next) missed_note keeps

module _ (loosens : Bool) (s : ℕ) (middle new : Doubted) (left : IsAs middle (loosened_at loosens middle.world s) new) where
  abbrev next : GroupNode
  next = note_loosened loosens (note_at (middle.world.nodes s))

  pub loosened_group : (new.world.nodes s).group ≡ Some next
  loosened_group =
      ap (λ (v : World). (v.nodes s).group) left.world ∙ ap (λ (n : Node). n.group) (at_place middle.world.nodes s (record (middle.world.nodes s) { group = Some next }))

  pub loosened_note : note_at (new.world.nodes s) ≡ next
  loosened_note = ap (λ (o : Option GroupNode). unwrap_or o no_note) loosened_group

  -- they differ in notes alone
  pub loosened_like : IsLikeDoubted middle new
  loosened_like = as_like middle new (loosened_at loosens middle.world s) (like_disks middle.world s (middle.world.nodes s).failing (Some next)) left
