-- Changes of a configuration in place: the state of a plex, the loss of a log, and one volume less.
use Rattle.std.specs.Prelude.{ℕ, zero, suc, Bool, true, nat_lt, List, [], ◌∷◌, Option, Some, None}
use Rattle.std.specs.List.{list_all, list_any}
use Rattle.vx_model.specs.declared.site.PlexState.{PlexState}
use Rattle.vx_model.specs.declared.site.PlexState.TheVariants.{Active, Clean, Stale}
use Rattle.vx_model.specs.declared.units.Units.{Units}
use Rattle.vx_config.specs.Checks.{is_live}
use Rattle.vx_config.specs.declared.config.Config.{Config}
use Rattle.vx_config.specs.declared.entry.LogEntry.{LogEntry}
use Rattle.vx_config.specs.declared.entry.PlexEntry.{PlexEntry}
use Rattle.vx_config.specs.declared.entry.VolumeEntry.{VolumeEntry}
use Rattle.vx_config.specs.declared.entry.VolumeLog.{VolumeLog}
use Rattle.vx_config.specs.declared.entry.VolumeLog.TheVariants.{Drl, Fmr}

-- the list with the item at this place changed; the same list where there is none
abbrev pub changed_at : {A : Type 0} → (A → A) → ℕ → List A → List A
changed_at f k [] = []
changed_at f zero (x ∷ xs) = f x ∷ xs
changed_at f (suc k) (x ∷ xs) = x ∷ changed_at f k xs

-- what stands at the same place of two lists, if anything does, is in this relation
abbrev pub Matched : {A : Type 0} → (A → A → Type 0) → Option A → Option A → Type 0
Matched R None None = Unit {0}
Matched R None (Some y) = ⊥
Matched R (Some x) None = ⊥
Matched R (Some x) (Some y) = R x y

-- a plex in this state, of which the next attach has to copy all regions or not
abbrev pub with_state : PlexState → Bool → PlexEntry → PlexEntry
with_state state whole p = record { state = state; whole = whole; subdisks = p.subdisks }

-- a volume with one of its plexes so
abbrev pub with_plex : ℕ → PlexState → Bool → VolumeEntry → VolumeEntry
with_plex plex state whole v =
    record { name = v.name; blocks = v.blocks; ncol = v.ncol; width = v.width; prefer = v.prefer; drl = v.drl; fmr = v.fmr; plexes = changed_at (with_state state whole) plex v.plexes }

-- the state of a plex that takes part again where it stopped cleanly
abbrev pub live_again : PlexState → PlexState
live_again Active = Active
live_again Clean = Active
live_again Stale = Stale

-- a log that is lost or not, where there is one
abbrev pub lost_as : Bool → Option LogEntry → Option LogEntry
lost_as lost None = None
lost_as lost (Some l) = Some (record { lost = lost; disk = l.disk; start = l.start; blocks = l.blocks })

-- a volume with one of its logs so
abbrev pub with_lost : VolumeLog → Bool → VolumeEntry → VolumeEntry
with_lost Drl lost v =
    record { name = v.name; blocks = v.blocks; ncol = v.ncol; width = v.width; prefer = v.prefer; drl = lost_as lost v.drl; fmr = v.fmr; plexes = v.plexes }
with_lost Fmr lost v =
    record { name = v.name; blocks = v.blocks; ncol = v.ncol; width = v.width; prefer = v.prefer; drl = v.drl; fmr = lost_as lost v.fmr; plexes = v.plexes }

-- a configuration with other volumes
abbrev pub with_volumes : List VolumeEntry → Config → Config
with_volumes volumes c = record { serial = c.serial; site = c.site; disks = c.disks; volumes = volumes; rvg = c.rvg }

-- with a plex of a volume in this state
abbrev pub stated : ℕ → ℕ → PlexState → Bool → Config → Config
stated volume plex state whole c = with_volumes (changed_at (with_plex plex state whole) volume c.volumes) c

-- with a log of a volume lost or not
abbrev pub lost : ℕ → VolumeLog → Bool → Config → Config
lost volume log is_lost c = with_volumes (changed_at (with_lost log is_lost) volume c.volumes) c

-- one of the plexes is ACTIVE or CLEAN; so it is where there is no such volume
abbrev pub has_live : Option VolumeEntry → Bool
has_live None = true
has_live (Some v) = list_any is_live v.plexes

-- the replicated volume group, where there is one, names the first n volumes alone
abbrev pub names_below : ℕ → Option Units → Bool
names_below n None = true
names_below n (Some u) = list_all (λ k. nat_lt k n) (u.srl ∷ (u.maps ∷ u.vols))
