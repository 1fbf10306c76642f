-- A volume of which regions of one plex are copied to all that are ACTIVE.
use Rattle.std.specs.Prelude.{◌≡◌, ◌⊎◌, ℕ, Bool, true, false, IsTrue, List}
use Rattle.vx_disk.specs.Counts.{Rose}
use Rattle.vx_disk.specs.Shelf.{Meaning}
use Rattle.vx_config.specs.declared.config.Config.{Config}
use Rattle.vx_layout.specs.Places.{place}
use Rattle.vx_volume.specs.Plexes.{Inside, active}
use Rattle.vx_resync.specs.Picks.{InPicked}
use Rattle.vx_kept.specs.Keeping.{Acts, SameShape, Sees}
use Rattle.vx_group.specs.Loses.{LosesPlexes}
use Rattle.vx_group.specs.Stands.{InnerStands}
use Rattle.vx_group.specs.declared.inner.Inner.{Inner}

-- no disk
abbrev pub NoMember : ℕ → Type 0
NoMember u = ⊥

-- one of these blocks of the volume, on a plex that is ACTIVE, with a value that this plex, the source, read there
pub record FromSource (c : Config) (v source : ℕ) (P : ℕ → Type 0) (m : Meaning) (u b : ℕ) (x : List ℕ) : Type 0 where
  pub number : ℕ
  pub plex : ℕ
  pub inside : Inside c v number
  pub is_one : P number
  pub is_on : IsTrue (active c v plex)
  pub at : place c v plex number ≡ (u, b)
  pub value : IsTrue m.tells → m.reads (place c v source number).0 (place c v source number).1 x

-- no commit was made, or the count of some disk rose; and each plex that is not ACTIVE any more failed
pub record SpentBy (c d : Config) (old new : Meaning) : Type 0 where
  pub any : (d ≡ c) ⊎ ((disk : ℕ) × Rose (old.disk_faults disk) (new.disk_faults disk))
  pub loses : LosesPlexes c d old new

-- Of the volume these blocks alone were written, as the source read them, and plexes that failed detached; no plex is ACTIVE that was not.
pub record CopyMoved (core : Inner) (v source : ℕ) (P : ℕ → Type 0) (d : Inner) (old new : Meaning) : Type 0 where
  pub stands : InnerStands d new
  pub shape : SameShape d.config core.config
  pub on : (w p : ℕ) → IsTrue (active d.config w p) → IsTrue (active core.config w p)
  pub others : (w p : ℕ) → (w ≡ v → ⊥) → active d.config w p ≡ active core.config w p
  pub faults : d.faults ≡ core.faults
  pub unsure : d.unsure ≡ core.unsure
  pub spent : SpentBy core.config d.config old new
  pub acts : Acts (FromSource core.config v source P old) (Sees core.config NoMember old) old new

-- Of these blocks each plex that is ACTIVE reads one value, which the source read; every other block reads as it did. A newest configuration that
-- was committed still is.
pub record RunCopied (core : Inner) (v source : ℕ) (P : ℕ → Type 0) (d : Inner) (old new : Meaning) : Type 0 where
  pub moved : CopyMoved core v source P d old new
  pub settled : d.unsettled ≡ false
  pub trust : core.committed ≡ true → d.committed ≡ true
  pub source_on : IsTrue (active d.config v source)
  pub up : IsTrue new.down → ⊥
  pub value : ℕ → List ℕ
  pub origin : (k : ℕ) → P k → Inside core.config v k → IsTrue old.tells → old.reads (place core.config v source k).0 (place core.config v source k).1 (value k)
  pub copied : (p k : ℕ) (x : List ℕ) → P k → Inside core.config v k → IsTrue (active d.config v p) → new.reads (place core.config v p k).0 (place core.config v p k).1 x → x ≡ value k
  pub rest : (w p k : ℕ) (x : List ℕ) → (w ≡ v → P k → ⊥) → Inside core.config w k → IsTrue (active d.config w p) → new.reads (place core.config w p k).0 (place core.config w p k).1 x
      → old.reads (place core.config w p k).0 (place core.config w p k).1 x

-- A crash leaves of each block of the picked regions of the volume one value on every plex that is ACTIVE, which the source read, and of each
-- other block what the plex read. Other volumes read as they did. A newest configuration that was committed still is.
pub record Mirrored (core : Inner) (v source : ℕ) (picked : ℕ → Bool) (d : Inner) (old new : Meaning) : Type 0 where
  pub moved : CopyMoved core v source (InPicked picked) d old new
  pub settled : d.unsettled ≡ false
  pub trust : core.committed ≡ true → d.committed ≡ true
  pub up : IsTrue new.down → ⊥
  pub value : ℕ → List ℕ
  pub origin : (k : ℕ) → InPicked picked k → Inside core.config v k → IsTrue old.tells → old.reads (place core.config v source k).0 (place core.config v source k).1 (value k)
  pub one : (p k : ℕ) (x : List ℕ) → InPicked picked k → Inside core.config v k → IsTrue (active d.config v p) → new.leaves (place core.config v p k).0 (place core.config v p k).1 x → x ≡ value k
  pub kept : (p k : ℕ) (x : List ℕ) → (InPicked picked k → ⊥) → Inside core.config v k → IsTrue (active d.config v p) → new.leaves (place core.config v p k).0 (place core.config v p k).1 x
      → old.reads (place core.config v p k).0 (place core.config v p k).1 x
  pub rest : (w p k : ℕ) (x : List ℕ) → (w ≡ v → ⊥) → Inside core.config w k → IsTrue (active d.config w p) → new.reads (place core.config w p k).0 (place core.config w p k).1 x
      → old.reads (place core.config w p k).0 (place core.config w p k).1 x
