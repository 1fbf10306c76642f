-- The codes of a header's enums and flags, and what a code is read as.
use Rattle.std.specs.Prelude.{ℕ, ◌+◌, Bool, bit_and, ◌==◌, if◌then◌else◌}
use Rattle.vx_model.specs.declared.link.Prot.{Prot}
use Rattle.vx_model.specs.declared.link.Prot.TheVariants as prot
use Rattle.vx_model.specs.declared.link.SyncMode.{SyncMode}
use Rattle.vx_model.specs.declared.link.SyncMode.TheVariants as sync
use Rattle.vx_model.specs.declared.site.Mark.{Mark}
use Rattle.vx_model.specs.declared.site.Mark.TheVariants as mark
use Rattle.vx_model.specs.declared.site.Role.{Role}
use Rattle.vx_model.specs.declared.site.Role.TheVariants as role
use Rattle.vx_model.specs.declared.site.SPhase.{SPhase}
use Rattle.vx_model.specs.declared.site.SPhase.TheVariants as phase
use Rattle.vx_model.specs.declared.state.KeptMode.{KeptMode}
use Rattle.vx_model.specs.declared.state.KeptMode.TheVariants as mode

abbrev pub role_code : Role → ℕ
role_code role.Primary = 0
role_code role.Secondary = 1
role_code (role.Handing to) = 2
role_code role.Bunker = 3

abbrev pub mark_code : Mark → ℕ
mark_code mark.Inconsistent = 0
mark_code mark.Consistent = 1

abbrev pub phase_code : SPhase → ℕ
phase_code phase.Quiet = 0
phase_code phase.Regions = 1
phase_code phase.Log = 2
phase_code phase.ForkKept = 3

abbrev pub mode_code : KeptMode → ℕ
mode_code mode.Log = 0
mode_code mode.Dcm = 1
mode_code mode.Replay = 2
mode_code mode.Fork = 3
mode_code mode.Stale = 4

abbrev pub sync_code : SyncMode → ℕ
sync_code sync.Off = 0
sync_code sync.Override = 1
sync_code sync.Fail = 2

abbrev pub prot_code : Prot → ℕ
prot_code prot.Off = 0
prot_code prot.Override = 1
prot_code prot.Fail = 2
prot_code prot.Dcm = 3
prot_code prot.Autodcm = 4

-- bit 0 says whether the link is attached, bit 1 whether it goes to a bunker
abbrev pub flags_code : Bool → Bool → ℕ
flags_code attached bunker = (if attached then 1 else 0) + (if bunker then 2 else 0)

-- What a code is read as. One that is no code is read as the last, and no block that has it is spelled so.
abbrev pub role_of : ℕ → ℕ → Role
role_of n other = if n == 0 then role.Primary else if n == 1 then role.Secondary else if n == 2 then role.Handing other else role.Bunker

abbrev pub mark_of : ℕ → Mark
mark_of n = if n == 0 then mark.Inconsistent else mark.Consistent

abbrev pub phase_of : ℕ → SPhase
phase_of n = if n == 0 then phase.Quiet else if n == 1 then phase.Regions else if n == 2 then phase.Log else phase.ForkKept

abbrev pub mode_of : ℕ → KeptMode
mode_of n = if n == 0 then mode.Log else if n == 1 then mode.Dcm else if n == 2 then mode.Replay else if n == 3 then mode.Fork else mode.Stale

abbrev pub sync_of : ℕ → SyncMode
sync_of n = if n == 0 then sync.Off else if n == 1 then sync.Override else sync.Fail

abbrev pub prot_of : ℕ → Prot
prot_of n = if n == 0 then prot.Off else if n == 1 then prot.Override else if n == 2 then prot.Fail else if n == 3 then prot.Dcm else prot.Autodcm

abbrev pub attached_of : ℕ → Bool
attached_of flags = bit_and flags 1 == 1

abbrev pub bunker_of : ℕ → Bool
bunker_of flags = bit_and flags 2 == 2
