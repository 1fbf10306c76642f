-- Plexes that go by their maps, as they are made durable.
use Rattle.std.specs.Prelude.{◌≡◌, ℕ, ◌<◌, Bool, true, false, IsTrue, List, length, Result, Ok, Err}
use Rattle.vx_config.specs.declared.config.Config.{Config}
use Rattle.vx_disk.specs.Blocks.{bit_at}
use Rattle.vx_disk.specs.Shelf.{Goes, Meaning, Nothing}
use Rattle.vx_model.specs.declared.limits.TheConstants.{MOST_PLEXES}
use Rattle.vx_model.specs.declared.no.No.{No}
use Rattle.vx_model.specs.declared.no.No.TheVariants as refusal
use Rattle.vx_volume.specs.Steps.{in_set}
use Rattle.vx_volume.specs.Volumes.{PlexBlamed, PlexFlushed}
use Rattle.vx_groupmaps.specs.Missing.{by_map}

-- Of each plex that goes by its map a crash leaves what it read, but of those in the set, of each of which a disk failed.
pub record MappedFlushed (c : Config) (v set : ℕ) (old new : Meaning) : Type 0 where
  pub flushed : (p : ℕ) → IsTrue (by_map c v p) → bit_at set p ≡ false → PlexFlushed c v p old new
  pub blamed : (p : ℕ) → bit_at set p ≡ true → IsTrue (by_map c v p) × PlexBlamed c v p old new
  pub up : IsTrue new.down → ⊥

-- what a flush of them answers
abbrev pub MappedEnds : Config → ℕ → Meaning → Meaning → Result ℕ No → Type 0
MappedEnds c v old new (Ok set) = MappedFlushed c v set old new
MappedEnds c v old new (Err refusal.Down) = IsTrue new.down
MappedEnds c v old new (Err other) = ⊥

-- what the loop over the plexes keeps
pub record MappedLoop (c : Config) (v count : ℕ) (failed : List Bool) (old new : Meaning) : Type 0 where
  pub goes : Goes Nothing old new
  pub up : IsTrue new.down → ⊥
  pub long : length failed ≡ MOST_PLEXES
  pub flushed : (p : ℕ) → p < count → IsTrue (by_map c v p) → in_set failed p ≡ false → PlexFlushed c v p old new
  pub blamed : (p : ℕ) → in_set failed p ≡ true → (p < count) × IsTrue (by_map c v p) × PlexBlamed c v p old new
