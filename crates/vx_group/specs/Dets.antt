-- When a plex may not be detached.
use Rattle.std.specs.Prelude.{ℕ, zero, suc, ◌-◌, Bool, false, not, ◌&&◌, ◌||◌, ◌==◌, nat_le, nat_lt, if◌then◌else◌, Option, Some, None, Result, Ok, Err, length}
use Rattle.vx_config.specs.Checks.{plexes_of}
use Rattle.vx_disk.specs.Causes.{DeviceCause}
use Rattle.vx_disk.specs.Shelf.{Meaning}
use Rattle.vx_model.specs.declared.errors.Stop.{Stop}
use Rattle.vx_model.specs.declared.errors.Stop.TheVariants.{No as Refused, OutOfMemory}
use Rattle.vx_model.specs.declared.limits.TheConstants.{COMMIT_MARGIN}
use Rattle.vx_model.specs.declared.no.Counted.TheVariants.{Number as Numbers}
use Rattle.vx_model.specs.declared.no.Named.TheVariants.{Number}
use Rattle.vx_model.specs.declared.no.No.{No}
use Rattle.vx_model.specs.declared.no.No.TheVariants.{LastPlex, Limit, Unknown}
use Rattle.vx_config.specs.Table.{greatest}
use Rattle.vx_config.specs.declared.config.Config.{Config}
use Rattle.vx_volume.specs.Plexes.{active}

-- one of the first n numbers passes
abbrev pub any_below : (ℕ → Bool) → ℕ → Bool
any_below test zero = false
any_below test (suc n) = any_below test n || test n

-- a plex that is ACTIVE and not this one
abbrev pub is_other : Config → ℕ → ℕ → ℕ → Bool
is_other c v p q = not (q == p) && active c v q

-- so many serials are left at least where a call of its own may commit
abbrev pub margin : ℕ
margin = COMMIT_MARGIN

-- The first refusal that holds: no such volume, no such plex, the last one that is ACTIVE, too few serials.
abbrev pub det_refusal : Config → ℕ → ℕ → Option No
det_refusal c v p =
    if nat_le (length c.volumes) v then Some (Unknown (Number v)) else
    (if nat_le (plexes_of c v) p then Some (Unknown (Number p)) else
    (if active c v p && not (any_below (is_other c v p) (plexes_of c v)) then Some LastPlex else
    (if nat_lt (greatest - margin) c.serial then Some (Limit Numbers greatest) else None)))

-- a detach stops for a device alone
abbrev pub DetStops : {T : Type 0} → Meaning → Meaning → Result T Stop → Type 0
DetStops old new (Ok x) = Unit {0}
DetStops old new (Err (Refused why)) = DeviceCause old new why
DetStops old new (Err OutOfMemory) = ⊥
