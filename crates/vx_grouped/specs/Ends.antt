-- How calls on a group leave it, as its site notes it.
use Rattle.std.specs.Prelude.{ℕ, List, Result, Ok, Err}
use Rattle.vx_model.specs.Content.{Write}
use Rattle.vx_model.specs.declared.site.SiteState.TheVariants.{Deported}
use Rattle.vx_model.specs.declared.errors.Stop.{Stop}
use Rattle.vx_model.specs.declared.errors.Stop.TheVariants.{No as Refused, OutOfMemory}
use Rattle.vx_model.specs.declared.no.No.{No}
use Rattle.vx_model.specs.declared.no.No.TheVariants.{Device, Down}
use Rattle.vx_disk.specs.Shelf.{Meaning}
use Rattle.vx_history.specs.Groups.{GroupNode, note_cut, note_doubt, note_write}
use Rattle.vx_history.specs.World.{Node}
use Rattle.vx_config.specs.declared.config.Config.{Config}
use Rattle.vx_group.specs.declared.group_core.GroupCore.{GroupCore}
use Rattle.vx_grouped.specs.Away.{IsDeportedAt, note_deported}
use Rattle.vx_grouped.specs.GroupNotes.{IsGroupAt, IsGroupCut, IsTight, note_called}

-- a write of these bytes
abbrev pub plain_write : ℕ → ℕ → List ℕ → Write
plain_write v block bytes = record { volume = v; start = block; bytes = bytes }

-- A write to a volume: done, its blocks have what was written; failed, each has that or what it had, and where the fuse ran out the disks are
-- down. No other refusal comes.
abbrev pub WriteLeaves : {T : Type 0} → Node → GroupNode → Write → GroupCore → Meaning → Result T No → Type 0
WriteLeaves n note x core m (Ok done) = (nexts : List (List ℕ)) × IsGroupAt n (note_write x (note_called nexts core note)) core m × IsTight note core
WriteLeaves n note x core m (Err (Device disk)) = (nexts : List (List ℕ)) × IsGroupAt n (note_doubt x (note_called nexts core note)) core m
WriteLeaves n note x core m (Err Down) = (nexts : List (List ℕ)) × IsGroupCut n (note_cut x (note_called nexts core note)) core m
WriteLeaves n note x core m (Err other) = ⊥

-- A call that writes to no volume: each has what it had, whatever is answered. A refusal but 6 and 7 has changed nothing, and memory suffices.
abbrev pub CallLeaves : {T : Type 0} → Node → GroupNode → GroupCore → Meaning → Result T Stop → Type 0
CallLeaves n note core m (Ok done) = (nexts : List (List ℕ)) × IsGroupAt n (note_called nexts core note) core m × IsTight note core
CallLeaves n note core m (Err (Refused (Device disk))) = (nexts : List (List ℕ)) × IsGroupAt n (note_called nexts core note) core m
CallLeaves n note core m (Err (Refused Down)) = (nexts : List (List ℕ)) × IsGroupCut n (note_called nexts core note) core m
CallLeaves n note core m (Err (Refused other)) = IsGroupAt n note core m
CallLeaves n note core m (Err OutOfMemory) = ⊥

-- A deport: done, the disks are by themselves; refused, the group is given back, and each volume has what it had.
abbrev pub DeportLeaves : {S G : Type 0} → Node → GroupNode → GroupCore → (S → Meaning) → (G → GroupCore) → (G → Meaning) → Result S (G × Stop) → Type 0
DeportLeaves n note c meaning core back (Ok s) = (x : Config) × IsDeportedAt (record n { state = Deported }) (note_deported x c.inner note) c.inner.config x (meaning s)
DeportLeaves n note c meaning core back (Err (g, stop)) = CallLeaves {T = Unit {0}} n note (core g) (back g) (Err stop)
