-- How a line ended that makes a replicated volume group is an end of events of the world: from one that differs in what a site notes of its group.
use Rattle.std.proofs.Common.{◌≡◌, ℕ, List, [], ◌∷◌, false, refl, sym}
use Rattle.std.specs.Prelude.{Some}
use Rattle.vx_history.specs.Doubts.{Doubted}
use Rattle.vx_history.specs.Groups.{GroupNode}
use Rattle.vx_history.specs.Steps.{burned, worked_on}
use Rattle.vx_history.specs.Stops.{AllDone as EventsDone, IsLikeDoubted, all_fails}
use Rattle.vx_history.specs.World.{World}
use Rattle.vx_history.specs.declared.event.Event.{Event}
use Rattle.vx_history.specs.declared.event.Event.TheVariants.{Crash as CrashAt}
use Rattle.vx_script.specs.declared.line.ScriptLine.{ScriptLine}
use Rattle.vx_events.proofs.Noting.{as_like, like_disks, like_noted, like_self, like_then}
use Rattle.vx_events.proofs.Stopping.{runs_as}
use Rattle.vx_events.specs.Doubts.{run_as}
use Rattle.vx_events.specs.Fails.{Fails}
use Rattle.vx_events.specs.GroupLines.{noting}
use Rattle.vx_events.specs.GroupNotes.{note_at}
use Rattle.vx_events.specs.RvgMakes.{IsLeftRvg, MakesRvg, RvgCut, RvgDone, RvgFails, RvgLacks, RvgStops, noting_in, units_at}
use Rattle.vx_events.specs.RvgNotes.{volume_events}
use Rattle.vx_events.specs.declared.said.Said.{Said}

rvg_left : (s : ℕ) (next : GroupNode) (last new : Doubted) → IsLeftRvg s next last new → IsLikeDoubted last new
rvg_left s next last new is =
    let v : World = noting last.world s next in
    as_like last new (worked_on v s) (like_then (like_disks last.world s (last.world.nodes s).failing (Some next)) (like_noted v s (burned (v.nodes s).fuse))) is

-- the same doubts over a world in which the site has another note
pub noted_doubted : (d : Doubted) (s : ℕ) (note : GroupNode) → IsLikeDoubted d (noting_in d s note)
noted_doubted d s note = record { worlds = like_disks d.world s (d.world.nodes s).failing (Some note); after = λ i. refl }

pub same_doubted : (d : Doubted) → IsLikeDoubted d d
same_doubted d = record { worlds = like_self d.world; after = λ i. refl }

pub ended : (d before new : Doubted) → IsLikeDoubted d before → (s : ℕ) (next : GroupNode) (events : List Event) → all_fails events ≡ []
    → IsLeftRvg s next (run_as false before events) new → RvgStops d new
ended d before new like s next events tells left = record {
  before = before;
  like = like;
  events = events;
  ending = [];
  stops = EventsDone (run_as false before events) (runs_as false before events) (sym tells) (rvg_left s next (run_as false before events) new left);
}

pub rvg_stops : (told : Type 0) (d : Doubted) (line : ScriptLine) (s : ℕ) (fails : Fails) (said : Said) (new : Doubted) → MakesRvg told d line s fails said new
    → RvgStops d new
rvg_stops told d line s fails said new (RvgDone site srl maps volumes middle next is are notes says left) =
    ended d (noting_in d s middle) new (noted_doubted d s middle) s next
    (volume_events (note_at (d.world.nodes s)) s (units_at d s srl maps volumes)) refl left
rvg_stops told d line s fails said new (RvgLacks site srl maps volumes next is are notes says left) = ended d d new (same_doubted d) s next [] refl left
rvg_stops told d line s fails said new (RvgFails site srl maps volumes disk next is are has notes says left) = ended d d new (same_doubted d) s next [] refl left
rvg_stops told d line s fails said new (RvgCut site srl maps volumes next is are fused notes says left) =
    ended d d new (same_doubted d) s next (CrashAt s 0 ∷ []) refl left
