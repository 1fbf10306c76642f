-- Which disk a call on a unit of a rack that failed names, behind other calls too.
use Rattle.std.proofs.Common.{◌≡◌, ◌∙◌, ℕ, false, true, refl, subst, sym}
use Rattle.std.specs.Prelude.{IsSome, Option, Some, None, Result, Ok, Err}
use Rattle.vx_model.specs.declared.no.No.{No}
use Rattle.vx_model.specs.declared.no.No.TheVariants.{Device}
use Rattle.vx_disk.specs.Causes.{BlamesUnit, Names, WithDisks, refusal_of}
use Rattle.vx_disk.specs.Disks.{Disks}
use Rattle.vx_disk.specs.Shelf.{Meaning}
use Rattle.vx_disk.specs.Spends.{Spends}
use Rattle.vx_disk.specs.declared.shelf.ShelfError.{ShelfError}
use Rattle.vx_disk.specs.declared.shelf.ShelfError.TheVariants.{Fault, Down}

named_unit : (T : Type 0) (disks : Option Disks) (unit : ℕ) (error : ShelfError) → Names {T = T} disks unit (Err error) → BlamesUnit disks unit (refusal_of error)
named_unit T None unit (Fault disk) names = λ some. absurd (let e : false ≡ true = some in cc)
named_unit T (Some disks) unit (Fault disk) names = λ some. names
named_unit T disks unit Down names = tt

-- the call failed
pub blames_failed : (T : Type 0) (disks : Option Disks) (u unit : ℕ) (error : ShelfError) (why : No) → u ≡ unit → why ≡ refusal_of error → Names {T = T} disks u (Err error) → BlamesUnit disks unit why
blames_failed T disks u unit error why here is names =
    subst (λ (v : ℕ). BlamesUnit disks v why) here (subst (λ (x : No). BlamesUnit disks u x) (sym is) (named_unit T disks u error names))

-- ---- calls one after another

-- a later one names the disk of the unit as the first does
pub names_before : (T : Type 0) (old mid : Option Disks) (P : Disks → Disks → Type 0) (unit : ℕ) (r : Result T ShelfError) → WithDisks old mid P → Names mid unit r → Names old unit r
names_before T None mid P unit r on names = tt
names_before T (Some o) None P unit r on names = absurd on
names_before T (Some o) (Some n) P unit (Ok x) on names = tt
names_before T (Some o) (Some n) P unit (Err (Fault disk)) on names = names
names_before T (Some o) (Some n) P unit (Err Down) on names = tt

names_err : (T U : Type 0) (disks : Option Disks) (unit : ℕ) (error : ShelfError) → Names {T = T} disks unit (Err error) → Names {T = U} disks unit (Err error)
names_err T U None unit error names = tt
names_err T U (Some disks) unit (Fault disk) names = names
names_err T U (Some disks) unit Down names = tt

pub names_done : (T : Type 0) (x : T) (disks : Option Disks) (unit : ℕ) → Names {T = T} disks unit (Ok x)
names_done T x None unit = tt
names_done T x (Some disks) unit = tt

-- one that failed behind others, and ended them
pub names_exit : (T U : Type 0) (old mid : Option Disks) (P : Disks → Disks → Type 0) (u unit : ℕ) (r : Result U ShelfError) (error given : ShelfError) → r ≡ Err error → error ≡ given → u ≡ unit → WithDisks old mid P
    → Names {T = T} mid u (Err given) → Names {T = U} old unit r
names_exit T U old mid P u unit r error given is same here on names =
    let first : Names {T = U} old u (Err given) = names_before U old mid P u (Err given) on (names_err T U mid u given names) in
    subst (λ (v : ℕ). Names {T = U} old v r) here
    (subst (λ (x : Result U ShelfError). Names {T = U} old u x) (sym is) (subst (λ (e : ShelfError). Names {T = U} old u (Err e)) (sym same) first))

pub some_since : (P : Disks → Disks → Type 0) (old mid : Option Disks) → WithDisks old mid P → IsSome old → IsSome mid
some_since P None mid on some = absurd (let e : false ≡ true = some in cc)
some_since P (Some o) None on some = absurd on
some_since P (Some o) (Some m) on some = refl

-- calls before left the unit where it is
pub unit_since : (old mid : Meaning) (u unit : ℕ) (why : No) → Spends old mid → u ≡ unit → BlamesUnit mid.disks u why → BlamesUnit old.disks unit why
unit_since old mid u unit (Device disk) spends here blames = λ some. blames (some_since _ old.disks mid.disks spends.told some) ∙ here
unit_since old mid u unit other spends here blames = tt
