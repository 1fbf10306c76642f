-- A volume that is made in a group, as its site notes it.
use Rattle.std.specs.Prelude.{◌==◌, ℕ, if◌then◌else◌, Result, Ok, Err, List, []}
use Rattle.vx_model.specs.Content.{zero_block}
use Rattle.vx_model.specs.declared.errors.Stop.{Stop}
use Rattle.vx_model.specs.declared.errors.Stop.TheVariants.{No as Refused, OutOfMemory}
use Rattle.vx_disk.specs.Shelf.{Meaning}
use Rattle.vx_history.specs.Groups.{GroupNode}
use Rattle.vx_history.specs.World.{Node}
use Rattle.vx_layout.specs.declared.shape.Shape.{Shape}
use Rattle.vx_group.specs.declared.group_core.GroupCore.{GroupCore}
use Rattle.vx_grouped.specs.Ends.{CallLeaves}
use Rattle.vx_grouped.specs.GroupNotes.{IsGroupAt, IsTight, note_called}

-- the note with a volume of so many blocks, which begins as zeros
abbrev pub note_added : ℕ → ℕ → GroupNode → GroupNode
note_added vol blocks note = record note {
  bytes = record {
    size = λ v. if v == vol then blocks else note.bytes.size v;
    block = λ v b. if v == vol then zero_block else note.bytes.block v b;
  };
  others = λ v b. if v == vol then [] else note.others v b;
}

-- where memory ran out nothing has changed
abbrev pub IsUnmoved : {T : Type 0} → Result T Stop → Type 0 → Type 0
IsUnmoved (Ok x) same = Unit {0}
IsUnmoved (Err (Refused why)) same = Unit {0}
IsUnmoved (Err OutOfMemory) same = same

-- A volume is made, which begins as zeros, and each other has what it had; or it is not, and each has what it had. A refusal but 6 and 7 has
-- changed nothing, nor has want of memory.
abbrev pub VolumeLeaves : Node → GroupNode → Shape → GroupCore → Meaning → Result ℕ Stop → Type 0
VolumeLeaves n note want core m (Ok vol) = (nexts : List (List ℕ)) × IsGroupAt n (note_added vol want.blocks (note_called nexts core note)) core m × IsTight note core
VolumeLeaves n note want core m (Err (Refused why)) = CallLeaves {T = ℕ} n note core m (Err (Refused why))
VolumeLeaves n note want core m (Err OutOfMemory) = IsGroupAt n note core m
