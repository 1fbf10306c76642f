-- How many regions an attach copies.
use Rattle.std.specs.Prelude.{◌≡◌, ℕ, ◌≤◌, false, is_some}
use Rattle.vx_config.specs.declared.config.Config.{Config}
use Rattle.vx_config.specs.declared.entry.VolumeLog.TheVariants.{Fmr}
use Rattle.vx_maplog.specs.Logs.{log_of}
use Rattle.vx_group.specs.Attaches.{region_count}

-- never more than the volume has, and all where it has no log of missed regions
pub record CopiesRegions (c : Config) (v count : ℕ) : Type 0 where
  pub few : count ≤ region_count c v
  pub all : is_some (log_of c v Fmr) ≡ false → count ≡ region_count c v
