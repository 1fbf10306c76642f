-- The code of a value is read as that value.
use Rattle.std.proofs.Common.{◌≡◌, ℕ, ◌<◌, ◌^◌, Bool, true, false, refl, sym, ap, lit<}
use Rattle.std.specs.Prelude.{◌==◌, if◌then◌else◌}
use Rattle.vx_model.specs.declared.link.Prot.{Prot}
use Rattle.vx_model.specs.declared.link.Prot.TheVariants as prot
use Rattle.vx_model.specs.declared.link.SyncMode.{SyncMode}
use Rattle.vx_model.specs.declared.link.SyncMode.TheVariants as sync
use Rattle.vx_model.specs.declared.site.Mark.{Mark}
use Rattle.vx_model.specs.declared.site.Mark.TheVariants as mark
use Rattle.vx_model.specs.declared.site.Role.{Role}
use Rattle.vx_model.specs.declared.site.Role.TheVariants as role
use Rattle.vx_model.specs.declared.site.SPhase.{SPhase}
use Rattle.vx_model.specs.declared.site.SPhase.TheVariants as phase
use Rattle.vx_model.specs.declared.state.KeptMode.{KeptMode}
use Rattle.vx_model.specs.declared.state.KeptMode.TheVariants as mode
use Rattle.vx_srlfmt.specs.Codes.{role_code, mark_code, phase_code, mode_code, sync_code, prot_code, flags_code, role_of, mark_of, phase_of, mode_of, sync_of, prot_of, attached_of, bunker_of}
use Rattle.vx_srlfmt.specs.Headers.{Agrees}

pub role_of-role_code : (r : Role) (other : ℕ) → Agrees r other → role_of (role_code r) other ≡ r
role_of-role_code role.Primary other h = refl
role_of-role_code role.Secondary other h = refl
role_of-role_code (role.Handing to) other h = ap (λ (n : ℕ). role.Handing n) (sym h)
role_of-role_code role.Bunker other h = refl

Agrees-if : (b : Bool) (r s : Role) (other : ℕ) → Agrees r other → Agrees s other → Agrees (if b then r else s) other
Agrees-if true r s other h k = h
Agrees-if false r s other h k = k

-- what is read names the other site
pub Agrees-role_of : (n other : ℕ) → Agrees (role_of n other) other
Agrees-role_of n other =
    Agrees-if (n == 0) role.Primary (if n == 1 then role.Secondary else if n == 2 then role.Handing other else role.Bunker) other tt
    (Agrees-if (n == 1) role.Secondary (if n == 2 then role.Handing other else role.Bunker) other tt
    (Agrees-if (n == 2) (role.Handing other) role.Bunker other refl tt))

pub role_code-lt : (x : Role) → role_code x < 256 ^ 1
role_code-lt role.Primary = lit< tt
role_code-lt role.Secondary = lit< tt
role_code-lt (role.Handing to) = lit< tt
role_code-lt role.Bunker = lit< tt

pub mark_of-mark_code : (x : Mark) → mark_of (mark_code x) ≡ x
mark_of-mark_code mark.Inconsistent = refl
mark_of-mark_code mark.Consistent = refl

pub mark_code-lt : (x : Mark) → mark_code x < 256 ^ 1
mark_code-lt mark.Inconsistent = lit< tt
mark_code-lt mark.Consistent = lit< tt

pub phase_of-phase_code : (x : SPhase) → phase_of (phase_code x) ≡ x
phase_of-phase_code phase.Quiet = refl
phase_of-phase_code phase.Regions = refl
phase_of-phase_code phase.Log = refl
phase_of-phase_code phase.ForkKept = refl

pub phase_code-lt : (x : SPhase) → phase_code x < 256 ^ 1
phase_code-lt phase.Quiet = lit< tt
phase_code-lt phase.Regions = lit< tt
phase_code-lt phase.Log = lit< tt
phase_code-lt phase.ForkKept = lit< tt

pub mode_of-mode_code : (x : KeptMode) → mode_of (mode_code x) ≡ x
mode_of-mode_code mode.Log = refl
mode_of-mode_code mode.Dcm = refl
mode_of-mode_code mode.Replay = refl
mode_of-mode_code mode.Fork = refl
mode_of-mode_code mode.Stale = refl

pub mode_code-lt : (x : KeptMode) → mode_code x < 256 ^ 1
mode_code-lt mode.Log = lit< tt
mode_code-lt mode.Dcm = lit< tt
mode_code-lt mode.Replay = lit< tt
mode_code-lt mode.Fork = lit< tt
mode_code-lt mode.Stale = lit< tt

pub sync_of-sync_code : (x : SyncMode) → sync_of (sync_code x) ≡ x
sync_of-sync_code sync.Off = refl
sync_of-sync_code sync.Override = refl
sync_of-sync_code sync.Fail = refl

pub sync_code-lt : (x : SyncMode) → sync_code x < 256 ^ 1
sync_code-lt sync.Off = lit< tt
sync_code-lt sync.Override = lit< tt
sync_code-lt sync.Fail = lit< tt

pub prot_of-prot_code : (x : Prot) → prot_of (prot_code x) ≡ x
prot_of-prot_code prot.Off = refl
prot_of-prot_code prot.Override = refl
prot_of-prot_code prot.Fail = refl
prot_of-prot_code prot.Dcm = refl
prot_of-prot_code prot.Autodcm = refl

pub prot_code-lt : (x : Prot) → prot_code x < 256 ^ 1
prot_code-lt prot.Off = lit< tt
prot_code-lt prot.Override = lit< tt
prot_code-lt prot.Fail = lit< tt
prot_code-lt prot.Dcm = lit< tt
prot_code-lt prot.Autodcm = lit< tt

pub attached_of-flags_code : (attached bunker : Bool) → attached_of (flags_code attached bunker) ≡ attached
attached_of-flags_code true true = refl
attached_of-flags_code true false = refl
attached_of-flags_code false true = refl
attached_of-flags_code false false = refl

pub bunker_of-flags_code : (attached bunker : Bool) → bunker_of (flags_code attached bunker) ≡ bunker
bunker_of-flags_code true true = refl
bunker_of-flags_code true false = refl
bunker_of-flags_code false true = refl
bunker_of-flags_code false false = refl

pub flags_code-lt : (attached bunker : Bool) → flags_code attached bunker < 256 ^ 1
flags_code-lt true true = lit< tt
flags_code-lt true false = lit< tt
flags_code-lt false true = lit< tt
flags_code-lt false false = lit< tt
