-- What calls on the volumes of a group make of its note, in the words of its lines.
use Rattle.std.proofs.Common.{◌⊎◌, ◌<◌, ◌≤◌, ℕ, length, inl, inr}
use Rattle.vx_disk.specs.Shelf.{Meaning}
use Rattle.vx_config.specs.declared.config.Config.{Config}
use Rattle.vx_history.specs.Groups.{GroupNode}
use Rattle.vx_groupmaps.specs.Loading.{DeviceRose}
use Rattle.vx_grouped.specs.ConfigMoves.{LosesSome, none_again}
use Rattle.vx_grouped.specs.GroupNotes.{NotesConfig}
use Rattle.vx_events.specs.Fails.{Fails}
use Rattle.vx_events.specs.GroupConfigs.{ConfigLoses}
use Rattle.vx_events.specs.RvgWorks.{NoneFailed, NoteAgrees, NotesWork, WorksAs}
use Rattle.vx_above.proofs.Changing.{moves_to, reconfigures}
use Rattle.vx_above.proofs.Losing.{Names}

-- ---- imports that agreed

-- the disk of the call that failed, where they do not
abbrev pub rose_disk : (begun next : GroupNode) (o e : Meaning) → (NoteAgrees begun → NoteAgrees next) ⊎ DeviceRose o e → ℕ
rose_disk begun next o e (inl keeps) = 0
rose_disk begun next o e (inr some) = some.disk

module _ (s many : ℕ) (fails : Fails) (o e : Meaning) (names : Names s many fails o e) where
  pub quiet_by : (begun next : GroupNode) (calm : (NoteAgrees begun → NoteAgrees next) ⊎ DeviceRose o e) → rose_disk begun next o e calm < many → NoneFailed s fails → NoteAgrees begun → NoteAgrees next
  quiet_by begun next (inl keeps) below none agrees = keeps agrees
  quiet_by begun next (inr some) below none agrees = absurd (none some.disk (names.each some.disk below some.rose))

  pub works_note : (Off : Type 0) (begun next : GroupNode) (was now : Config) → NotesConfig begun was → NotesConfig next now → length was.disks ≤ many → LosesSome o e was now → WorksAs Off s fails begun next → NotesWork Off s fails begun next
  works_note Off begun next was now noted noted_now enough change works =
      reconfigures s many fails o e begun next names (λ c x. ConfigLoses s fails c x) (WorksAs Off s fails) was now noted noted_now
      (moves_to s many fails o e begun next names none_again was now enough change) works
