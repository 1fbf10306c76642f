-- Which disk a refused call of the group names, and which one works where it is done.
use Rattle.std.proofs.Common.{◌≡◌, ◌∙◌, ◌<◌, ℕ, List, true, false, ap, length, sym, subst}
use Rattle.std.specs.Prelude.{IfErr, OnOk, Option, Some, None, Result, Ok, Err}
use Rattle.vx_model.specs.declared.no.No.{No}
use Rattle.vx_model.specs.declared.no.No.TheVariants.{Device}
use Rattle.vx_model.specs.Refusals.{IsNoDevice}
use Rattle.vx_disk.specs.Causes.{BlamesUnit, Names, Works, refusal_of}
use Rattle.vx_disk.specs.Disks.{Disks}
use Rattle.vx_disk.specs.Shelf.{Meaning}
use Rattle.vx_disk.specs.declared.shelf.ShelfError.{ShelfError}
use Rattle.vx_disk.specs.declared.shelf.ShelfError.TheVariants.{Fault, Down}
use Rattle.vx_disk.specs.Spends.{Spends}
use Rattle.vx_disk.proofs.Naming.{some_since}
use Rattle.vx_disk.proofs.Spending.{works_since}
use Rattle.vx_srl.specs.Causes.{BlamesLog}
use Rattle.vx_srl.specs.Views.{Log}
use Rattle.vx_srl.specs.declared.errors.SrlNo.{SrlNo}
use Rattle.vx_srl.specs.declared.errors.SrlNo.TheVariants.{NoRoom, Other, Overrun}
use Rattle.vx_rvg.specs.Commits.{StageIs}
use Rattle.vx_rvg.specs.Groups.{BlamesVolumes, no_of}
use Rattle.vx_rvg.specs.Views.{Core, unit_of}

by_log : (disks : Option Disks) (unit : ℕ) (why : SrlNo) → BlamesLog disks unit why → BlamesUnit disks unit (no_of why)
by_log disks unit (NoRoom need free) blames = tt
by_log disks unit (Overrun low) blames = tt
by_log disks unit (Other why) blames = blames

-- a call of the log failed
pub blames_of : (disks : Option Disks) (u unit : ℕ) (why : SrlNo) (said : No) → u ≡ unit → said ≡ no_of why → BlamesLog disks u why → BlamesUnit disks unit said
blames_of disks u unit why said here is blames =
    subst (λ (v : ℕ). BlamesUnit disks v said) here (subst (λ (x : No). BlamesUnit disks u x) (sym is) (by_log disks u why blames))

-- no call of a device failed
pub blames_idle : (disks : Option Disks) (unit : ℕ) (why : No) → IsNoDevice why → BlamesUnit disks unit why
blames_idle disks unit (Device disk) none = absurd none
blames_idle disks unit other none = tt

-- the call before left the shelf and the place of the log as they were
pub blames_since : {T : Type 0} (r : Result T No) (old mid : Meaning) (c k : Core) → mid ≡ old → k.log ≡ c.log → IfErr r (BlamesUnit mid.disks k.log.unit) → IfErr r (BlamesUnit old.disks c.log.unit)
blames_since (Ok x) old mid c k same log blames = tt
blames_since (Err why) old mid c k same log blames =
    subst (λ (l : Log). BlamesUnit old.disks l.unit why) log (subst (λ (m : Meaning). BlamesUnit m.disks k.log.unit why) same blames)

-- a call before kept the place of the log, and made no disk fail or work
pub works_behind : {T : Type 0} (r : Result T No) (old mid : Meaning) (c k : Core) → Spends old mid → k.log ≡ c.log → OnOk r (Works mid.disks k.log.unit) → OnOk r (Works old.disks c.log.unit)
works_behind (Ok x) old mid c k spends log works = subst (λ (l : Log). Works old.disks l.unit) log (works_since old mid k.log.unit spends works)
works_behind (Err why) old mid c k spends log works = tt

-- ---- behind other calls

-- what is staged leaves it
pub staged_place : (refusal : Option No) (c c' : Core) (vol start : ℕ) (bytes : List ℕ) (old new : Meaning) (number : ℕ) → StageIs refusal c vol start bytes old new c' (Ok number) → c'.log.unit ≡ c.log.unit
staged_place (Some why) c c' vol start bytes old new number is = absurd (let e : Ok number ≡ Err why = is.0 in cc)
staged_place None c c' vol start bytes old new number is = ap (λ (k : Core). k.log.unit) is.1

-- ---- the disk of a volume

pub named_volume : (T : Type 0) (disks : Option Disks) (vols : List ℕ) (v unit : ℕ) (error : ShelfError) → v < length vols → unit ≡ unit_of vols v → Names {T = T} disks unit (Err error) → BlamesVolumes disks vols (refusal_of error)
named_volume T None vols v unit (Fault disk) low here names = λ some. absurd (let e : false ≡ true = some in cc)
named_volume T (Some disks) vols v unit (Fault disk) low here names = λ some. (v, (low, names ∙ here))
named_volume T disks vols v unit Down low here names = tt

pub volumes_since : (old mid : Meaning) (vols : List ℕ) (why : No) → Spends old mid → BlamesVolumes mid.disks vols why → BlamesVolumes old.disks vols why
volumes_since old mid vols (Device disk) spends blames = λ some. blames (some_since _ old.disks mid.disks spends.told some)
volumes_since old mid vols other spends blames = tt

-- a call that failed and ended the others
pub volumes_exit : (U : Type 0) (old mid : Meaning) (vols : List ℕ) (r : Result U ShelfError) (error given : ShelfError) → r ≡ Err error → error ≡ given → Spends old mid → BlamesVolumes mid.disks vols (refusal_of given)
    → IfErr r (λ e. BlamesVolumes old.disks vols (refusal_of e))
volumes_exit U old mid vols r error given is same spends blames =
    subst (λ (x : Result U ShelfError). IfErr x (λ e. BlamesVolumes old.disks vols (refusal_of e))) (sym is)
    (subst (λ (e : ShelfError). BlamesVolumes old.disks vols (refusal_of e)) (sym same) (volumes_since old mid vols (refusal_of given) spends blames))
