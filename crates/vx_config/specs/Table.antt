-- The table of a configuration's fields.
use Rattle.std.specs.Prelude.{◌≡◌, ℕ, ◌==◌, if◌then◌else◌, Bool, true, false, List, ◌++◌, length, Option, Some, None, is_some, Ok, Err}
use Rattle.vx_model.specs.declared.limits.TheConstants.{MOST_DATA_VOLUMES, MOST_DISKS, MOST_NUMBER, MOST_VOLUMES}
use Rattle.vx_model.specs.declared.site.PlexState.{PlexState}
use Rattle.vx_model.specs.declared.site.PlexState.TheVariants.{Active, Clean, Stale}
use Rattle.vx_model.specs.declared.units.Units.{Units}
use Rattle.vx_wire.specs.Numbers.{be_bytes}
use Rattle.vx_config.specs.Forms.{Reading, ◌>>=◌, Form, number, within, coded, flag, name, pair, made_of, keyed, counted, optional, where_flag}
use Rattle.vx_config.specs.declared.config.Config.{Config}
use Rattle.vx_config.specs.declared.entry.DiskEntry.{DiskEntry}
use Rattle.vx_config.specs.declared.entry.LogEntry.{LogEntry}
use Rattle.vx_config.specs.declared.entry.PlexEntry.{PlexEntry}
use Rattle.vx_config.specs.declared.entry.Subdisk.{Subdisk}
use Rattle.vx_config.specs.declared.entry.VolumeEntry.{VolumeEntry}

-- a disk: blocks, state
unfoldable pub disk : Form DiskEntry
disk = made_of (λ p. record { blocks = p.0; failed = p.1 }) (λ d. (d.blocks, d.failed)) (pair (number 8) flag)

-- a subdisk: disk, start, blocks
unfoldable pub subdisk : Form Subdisk
subdisk = made_of (λ p. record { disk = p.0; start = p.1.0; blocks = p.1.1 }) (λ s. (s.disk, (s.start, s.blocks))) (pair (number 1) (pair (number 8) (number 8)))

-- a log that is present: lost, disk, start, blocks
unfoldable pub log : Form LogEntry
log = made_of (λ p. record { lost = p.0; disk = p.1.0; start = p.1.1.0; blocks = p.1.1.1 }) (λ l. (l.lost, (l.disk, (l.start, l.blocks)))) (pair flag (pair (number 1) (pair (number 8) (number 8))))

abbrev pub state_code : PlexState → ℕ
state_code Active = 0
state_code Clean = 1
state_code Stale = 2

abbrev pub state_of : ℕ → Option PlexState
state_of n = if n == 0 then Some Active else if n == 1 then Some Clean else if n == 2 then Some Stale else None

-- the state of a plex: 0 ACTIVE, 1 CLEAN, 2 STALE
unfoldable pub state : Form PlexState
state = coded state_code state_of

-- a plex: state, whole, subdisks
unfoldable pub plex : Form PlexEntry
plex = made_of (λ p. record { state = p.0; whole = p.1.0; subdisks = p.1.1 }) (λ p. (p.state, (p.whole, p.subdisks))) (pair state (pair flag (counted 0 255 subdisk)))

abbrev pub preferred_number : Option ℕ → ℕ
preferred_number None = 0
preferred_number (Some p) = p

abbrev pub preferred_where : Bool → ℕ → Option ℕ
preferred_where false p = None
preferred_where true p = Some p

abbrev pub most_preferred : Bool → ℕ
most_preferred false = 0
most_preferred true = 255

-- the preferred plex behind its policy; 0 where the policy is round
abbrev pub preferred : Bool → Form (Option ℕ)
preferred policy = record {
  spell = λ o. be_bytes 1 (preferred_number o);
  read = λ bytes. (within 1 0 (most_preferred policy)).read bytes >>= λ p. Ok (preferred_where policy p.0, p.1);
  Fits = λ o. (is_some o ≡ policy) × (within 1 0 (most_preferred policy)).Fits (preferred_number o);
}

-- what the flags of a volume stand for: the preferred plex, the DRL and the FMR log
abbrev pub Ways : Type 0
Ways = Option ℕ × (Option LogEntry × Option LogEntry)

-- the flags drl and fmr and the policy, 1 exactly where there is one; then the preferred plex, the DRL and the FMR log
unfoldable pub ways : Form Ways
ways = keyed (λ w. (is_some w.1.0, (is_some w.1.1, is_some w.0))) (pair flag (pair flag flag))
    (λ k. pair (preferred k.1.1) (pair (where_flag log k.0) (where_flag log k.1.0)))

-- a volume: name, blocks, ncol, width, what its flags stand for, plexes
unfoldable pub volume : Form VolumeEntry
volume = made_of
    (λ p. record { name = p.0; blocks = p.1.0; ncol = p.1.1.0; width = p.1.1.1.0; prefer = p.1.1.1.1.0.0; drl = p.1.1.1.1.0.1.0; fmr = p.1.1.1.1.0.1.1; plexes = p.1.1.1.1.1 })
    (λ v. (v.name, (v.blocks, (v.ncol, (v.width, ((v.prefer, (v.drl, v.fmr)), v.plexes))))))
    (pair name (pair (number 8) (pair (number 1) (pair (number 4) (pair ways (counted 0 255 plex))))))

-- the replicated volume group: log, maps, data volumes
unfoldable pub units : Form Units
units = made_of (λ p. record { srl = p.0; maps = p.1.0; vols = p.1.1 }) (λ u. (u.srl, (u.maps, u.vols))) (pair (number 1) (pair (number 1) (counted 0 MOST_DATA_VOLUMES (number 1))))

-- the greatest serial
abbrev pub greatest : ℕ
greatest = MOST_NUMBER

-- format 1 behind its version: serial, site, disks, volumes, replicated volume group
unfoldable pub format_1 : Form Config
format_1 = made_of
    (λ p. record { serial = p.0; site = p.1.0; disks = p.1.1.0; volumes = p.1.1.1.0; rvg = p.1.1.1.1 })
    (λ c. (c.serial, (c.site, (c.disks, (c.volumes, c.rvg)))))
    (pair (within 8 0 greatest) (pair (number 4) (pair (counted 1 MOST_DISKS disk) (pair (counted 0 MOST_VOLUMES volume) (optional units)))))

-- the format of a version, where there is one
abbrev pub behind_version : ℕ → ℕ → List ℕ → Reading Config
behind_version version left bytes = if version == 1 then format_1.read bytes else Err left

-- a configuration: the version, which decides the format, and the fields of that format
unfoldable pub config : Form Config
config = record {
  spell = λ c. be_bytes 4 1 ++ format_1.spell c;
  read = λ bytes. (number 4).read bytes >>= λ v. behind_version v.0 (length bytes) v.1;
  Fits = format_1.Fits;
}
