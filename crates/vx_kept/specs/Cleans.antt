-- Plexes that a deport puts from ACTIVE into CLEAN, in a configuration in memory, and what the commit of it leaves.
use Rattle.std.specs.Prelude.{◌≡◌, ℕ, zero, suc, Bool, true, false, if◌then◌else◌, Option, Some, None, Result, Ok, Err, List, slice_index_or, ◌≤◌}
use Rattle.vx_disk.specs.Shelf.{Each, Image, Meaning}
use Rattle.vx_model.specs.declared.limits.TheConstants.{MOST_PLEXES}
use Rattle.vx_model.specs.declared.no.No.{No}
use Rattle.vx_model.specs.declared.site.PlexState.{PlexState}
use Rattle.vx_model.specs.declared.site.PlexState.TheVariants.{Active, Clean, Stale}
use Rattle.vx_config.specs.Changes.{stated}
use Rattle.vx_config.specs.declared.config.Config.{Config}
use Rattle.vx_config.specs.declared.entry.PlexEntry.{PlexEntry}
use Rattle.vx_copyfmt.specs.Imports.{Found, settle}
use Rattle.vx_copies.specs.Bodies.{failed_in}
use Rattle.vx_copies.specs.Commits.{Grown, HeldGood}
use Rattle.vx_layout.specs.Places.{plex_at}
use Rattle.vx_volume.specs.Plexes.{active}
use Rattle.vx_kept.specs.Commits.{Left}
use Rattle.vx_kept.specs.Groups.{found, found_by}
use Rattle.vx_kept.specs.Keeping.{Kept}
use Rattle.vx_kept.specs.States.{whole_of}
use Rattle.vx_kept.specs.Trusts.{FailsAll}

abbrev pub is_clean : PlexState → Bool
is_clean Active = false
is_clean Clean = true
is_clean Stale = false

abbrev pub clean_or : Option PlexEntry → Bool
clean_or None = false
clean_or (Some p) = is_clean p.state

-- whether a plex is CLEAN
unfoldable pub clean : Config → ℕ → ℕ → Bool
clean c v p = clean_or (plex_at c v p)

-- no plex of the volume is CLEAN
pub record NoneClean (c : Config) (v : ℕ) : Type 0 where
  pub each : (p : ℕ) → clean c v p ≡ false

-- with a plex that is ACTIVE in the state CLEAN
abbrev pub clean_at : ℕ → ℕ → Config → Config
clean_at v p c = if active c v p then stated v p Clean (whole_of c v p) c else c

-- with the first n plexes of a volume so
unfoldable pub clean_plexes : ℕ → Config → ℕ → Config
clean_plexes v c zero = c
clean_plexes v c (suc n) = clean_at v n (clean_plexes v c n)

-- whether a volume is marked
abbrev pub is_unsure : List Bool → ℕ → Bool
is_unsure unsure v = slice_index_or unsure v false

-- with all plexes of the first n volumes so, but for the volumes that are marked
unfoldable pub cleaned : List Bool → Config → ℕ → Config
cleaned unsure c zero = c
cleaned unsure c (suc n) = if is_unsure unsure n then cleaned unsure c n else clean_plexes n (cleaned unsure c n) MOST_PLEXES

-- a configuration with another serial
abbrev pub at_serial : ℕ → Config → Config
at_serial s c = record { serial = s; site = c.site; disks = c.disks; volumes = c.volumes; rvg = c.rvg }

-- Whatever a crash leaves, an import that can read all disks finds this configuration, and one that can read a disk that it holds as good
-- finds it, or misses another one; it holds some disk as good. A group in which the plexes are ACTIVE as before may stand on the disks.
pub record Shown (c a d : Config) (old new : Meaning) : Type 0 where
  pub finds : (i : Image) → Each new.leaves i → found new i ≡ Found d
  pub reads : (i : Image) (readable : ℕ → Bool) (g : ℕ) → Each new.leaves i → HeldGood d new g → readable g ≡ true → found_by new readable i ≡ settle failed_in new.units readable d
  pub grown : Grown old new a d
  pub later : c.serial ≤ d.serial
  pub kept : Kept (at_serial d.serial c) (HeldGood d new) new
  pub some : FailsAll d.disks → ⊥

-- how such a commit ends
abbrev pub CleanEnds : {T : Type 0} → ℕ → Config → Config → Config → Meaning → Meaning → Result T No → Type 0
CleanEnds good c a d old new (Ok x) = Shown c a d old new
CleanEnds good c a d old new (Err why) = Left good c a d old new why
