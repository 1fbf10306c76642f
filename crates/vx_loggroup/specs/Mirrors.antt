-- What each call keeps of the plexes and disks of a group, but for the plexes that it names.
use Rattle.std.specs.Prelude.{◌≡◌, ◌⊎◌, ℕ, true, false, IsTrue, List}
use Rattle.vx_copies.specs.Marks.{failed_at}
use Rattle.vx_disk.specs.Counts.{Rose}
use Rattle.vx_disk.specs.Shelf.{Meaning}
use Rattle.vx_group.specs.Holding.{wide}
use Rattle.vx_group.specs.Stands.{inner_meaning}
use Rattle.vx_group.specs.declared.group_core.GroupCore.{GroupCore}
use Rattle.vx_layout.specs.Places.{place}
use Rattle.vx_volume.specs.Plexes.{Inside, active}
use Rattle.vx_volume.specs.Volumes.{PlexBlamed}

-- no plex
abbrev pub names_none : ℕ → ℕ → Type 0
names_none w q = ⊥

-- this plex of this volume alone
abbrev pub names_plex : ℕ → ℕ → ℕ → ℕ → Type 0
names_plex v p w q = (w ≡ v) × (q ≡ p)

-- A plex that was ACTIVE, and is none of those, is so, or a call on one of its disks failed. A disk is newly held as failed only where a call on it failed.
-- What a plex that is ACTIVE reads, its volume reads.
pub record MirrorsKeep (named : ℕ → ℕ → Type 0) (c d : GroupCore) (old new : Meaning) : Type 0 where
  pub plexes : (w q : ℕ) → IsTrue (active c.inner.config w q) → (named w q → ⊥) → IsTrue (active d.inner.config w q) ⊎ PlexBlamed c.inner.config w q old new
  pub disks : (u : ℕ) → failed_at c.inner.config.disks u ≡ false → failed_at d.inner.config.disks u ≡ true → Rose (old.faults u) (new.faults u)
  pub reads : (w q b : ℕ) (x : List ℕ) → IsTrue (active (wide d).config w q) → Inside (wide d).config w b → new.reads (place (wide d).config w q b).0 (place (wide d).config w q b).1 x → (inner_meaning (wide d) new).reads w b x
