-- What a read of a volume of the group alone leaves of a site with a replicated volume group over that group.
use Rattle.std.proofs.Common.{◌≡◌, ◌∙◌, ◌⊎◌, ℕ, Bool, true, false, List, [], ap, inl, inr, refl}
use Rattle.vx_history.proofs.Updates.{at_place}
use Rattle.vx_history.specs.Doubts.{Doubted}
use Rattle.vx_history.specs.Steps.{worked, worked_on}
use Rattle.vx_history.specs.Stops.{AllDone as EventsDone}
use Rattle.vx_history.specs.World.{Node, World}
use Rattle.vx_order.specs.Calls.{is_data}
use Rattle.vx_script.specs.declared.line.ScriptLine.{ScriptLine}
use Rattle.vx_events.proofs.GroupTold.{gives_told}
use Rattle.vx_events.proofs.Noting.{as_like, like_worked}
use Rattle.vx_events.proofs.RvgStopping.{same_doubted}
use Rattle.vx_events.specs.Doubts.{IsAs}
use Rattle.vx_events.specs.Fails.{Fails}
use Rattle.vx_events.specs.GroupLines.{plain_number}
use Rattle.vx_events.specs.GroupNotes.{note_at}
use Rattle.vx_events.specs.GroupReplies.{GivesPlain}
use Rattle.vx_events.specs.RvgMakes.{RvgStops}
use Rattle.vx_events.specs.RvgOver.{EndsOver, EndsRead, ReadOut, ReadsBeside, kind_named}
use Rattle.vx_events.specs.declared.said.Said.{Said}

-- either kind of volume is read
pub read_by : (told : Type 0) (d : Doubted) (line : ScriptLine) (volume : List ℕ) (start count s : ℕ) (fails : Fails) (said : Said) (new : Doubted) (P : Type 0) → (EndsOver told d line s fails said new → P)
    → (IsAs d (worked_on d.world s) new → P) → (mine : Bool) → EndsRead mine told d line volume start count s fails said new → P
read_by told d line volume start count s fails said new P over beside true it = over it
read_by told d line volume start count s fails said new P over beside false it = beside it.left

module _ (d new : Doubted) (s : ℕ) (left : IsAs d (worked_on d.world s) new) where
  pub read_node : new.world.nodes s ≡ worked (d.world.nodes s)
  read_node = ap (λ (w : World). w.nodes s) left.world ∙ at_place d.world.nodes s (worked (d.world.nodes s))

  -- the site notes of its group what it noted
  pub read_note : note_at (new.world.nodes s) ≡ note_at (d.world.nodes s)
  read_note = ap (λ (n : Node). note_at n) read_node

  -- it is no event
  pub read_stops : RvgStops d new
  read_stops = record { before = d; like = same_doubted d; events = []; ending = []; stops = EventsDone d refl refl (as_like d new (worked_on d.world s) (like_worked d.world s) left) }

-- the same where less is told
module _ {T U : Type 0} (f : U → T) (d : Doubted) (line : ScriptLine) (volume : List ℕ) (start count s : ℕ) (fails : Fails) (said : Said) (new : Doubted) (over : EndsOver T d line s fails said new → EndsOver U d line s fails said new) where
  beside_told : ReadsBeside T d volume start count s fails said new → ReadsBeside U d volume start count s fails said new
  beside_told x = record { are = x.are; reads = by x.reads; left = x.left }
    where
      by : GivesPlain T (note_at (d.world.nodes s)) (plain_number (note_at (d.world.nodes s)) volume) start count said ⊎ ReadOut s fails (note_at (d.world.nodes s)) (plain_number (note_at (d.world.nodes s)) volume) said
          → GivesPlain U (note_at (d.world.nodes s)) (plain_number (note_at (d.world.nodes s)) volume) start count said ⊎ ReadOut s fails (note_at (d.world.nodes s)) (plain_number (note_at (d.world.nodes s)) volume) said
      by (inl gives) = inl (gives_told f (note_at (d.world.nodes s)) (plain_number (note_at (d.world.nodes s)) volume) start count said gives)
      by (inr out) = inr out

  either_told : (mine : Bool) → EndsRead mine T d line volume start count s fails said new → EndsRead mine U d line volume start count s fails said new
  either_told true x = over x
  either_told false x = beside_told x

  pub read_told : EndsRead (is_data (kind_named (d.world.nodes s) volume)) T d line volume start count s fails said new → EndsRead (is_data (kind_named (d.world.nodes s) volume)) U d line volume start count s fails said new
  read_told x = either_told (is_data (kind_named (d.world.nodes s) volume)) x
