-- A volume that is made of the space that was found.
use Rattle.std.specs.Prelude.{◌≡◌, ◌<◌, ◌≤◌, false, IsTrue, IfSome, is_some, map, List, [], ◌∷◌, ◌++◌}
use Rattle.std.specs.List.{list_all}
use Rattle.vx_model.specs.declared.site.PlexState.TheVariants.{Active}
use Rattle.vx_config.specs.declared.config.Config.{Config}
use Rattle.vx_config.specs.declared.entry.PlexEntry.{PlexEntry}
use Rattle.vx_config.specs.declared.entry.Subdisk.{Subdisk}
use Rattle.vx_config.specs.declared.entry.VolumeEntry.{VolumeEntry}
use Rattle.vx_config.specs.Checks.{differ, is_sound, log_runs}
use Rattle.vx_config.specs.Configs.{subdisk_count}
use Rattle.vx_layout.specs.Space.{IsFound, IsShape}
use Rattle.vx_layout.specs.declared.shape.Found.{Found}
use Rattle.vx_layout.specs.declared.shape.Shape.{Shape}

-- a new plex of these subdisks
abbrev pub made_plex : List Subdisk → PlexEntry
made_plex ss = record { state = Active; whole = false; subdisks = ss }

-- a volume of this shape in the space that was found
pub record IsVolumeMade (want : Shape) (found : Found) (v : VolumeEntry) : Type 0 where
  pub blocks : v.blocks ≡ want.blocks
  pub ncol : v.ncol ≡ want.ncol
  pub width : v.width ≡ want.width
  pub prefer : v.prefer ≡ want.prefer
  pub plexes : v.plexes ≡ map made_plex found.plexes.items
  pub drl : is_some v.drl ≡ want.drl
  pub fmr : is_some v.fmr ≡ want.fmr
  pub logs : log_runs v.drl ++ log_runs v.fmr ≡ found.logs

-- a configuration with one volume more
abbrev pub with_volume : Config → VolumeEntry → Config
with_volume c v = record c { volumes = c.volumes ++ (v ∷ []) }

-- no volume has its name
abbrev pub IsNew : Config → VolumeEntry → Type 0
IsNew c v = IsTrue (list_all (λ u. differ u v) c.volumes)

-- a volume in the space that was found, with a name of its own, keeps a sound configuration sound
abbrev pub StaysSound : Type 0
StaysSound = (c : Config) (want : Shape) (found : Found) (v : VolumeEntry) → IsTrue (is_sound c) → IsShape want → IfSome want.prefer (λ p. p < want.mirrors) → IsFound c want found → IsVolumeMade want found v → IsNew c v → subdisk_count (with_volume c v) ≤ 1024
    → IsTrue (is_sound (with_volume c v))
