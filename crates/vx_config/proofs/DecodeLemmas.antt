-- What a reading of a whole configuration says.
use Rattle.std.proofs.Common.{◌≡◌, ℕ, ◌-◌, ◌≤◌, List, ◌++◌, length, take, Result, Ok, Err, refl, sym, ap, ◌∙◌, arith}
use Rattle.std.proofs.lemmas.List.{length-append, take_at}
use Rattle.vx_wire.specs.Numbers.{AreBytes}
use Rattle.vx_config.specs.Configs.{spelled_config, HasSpelling, IsSpelling, AgreesUpTo, IsRefused, Stops, Reads, stop_of}
use Rattle.vx_config.specs.Forms.{Reading, Gives}
use Rattle.vx_config.specs.declared.stop.ConfigStop.{ConfigStop}
use Rattle.vx_config.specs.declared.wrong.Wrong.{Wrong}
use Rattle.vx_config.specs.declared.wrong.Wrong.TheVariants.{Left, Memory}
use Rattle.vx_config.specs.Table.{config}
use Rattle.vx_config.specs.declared.config.Config.{Config}
use Rattle.vx_config.proofs.BeforeTable.{config-before}
use Rattle.vx_config.proofs.FormLaws.{ok_is, Takes-shorter}
use Rattle.vx_config.proofs.TableLaws.{config-IsForm}

abbrev gives : Config → List ℕ → Reading Config
gives c rest = Ok (c, rest)

abbrev both_of : Config → List ℕ → Config × List ℕ
both_of c rest = (c, rest)

abbrev wrong_at : ℕ → Reading Config
wrong_at left = Err left

abbrev pub gave : Wrong → Result Config Wrong
gave w = Err w

abbrev pub answer : ConfigStop → Result (Config × ℕ) ConfigStop
answer stop = Err stop

-- no more is left than there was
pub rest-shorter : (bytes : List ℕ) (c : Config) (rest : List ℕ) → AreBytes bytes → config.read bytes ≡ Ok (c, rest) → length rest ≤ length bytes
rest-shorter bytes c rest h e = Takes-shorter bytes (config.spell c) rest (config-IsForm.takes bytes (c, rest) h e).0

-- what was read is spelled so
pub read-spelled : (bytes : List ℕ) (c : Config) (rest : List ℕ) → AreBytes bytes → config.read bytes ≡ Ok (c, rest) → IsSpelling (take (length bytes - length rest) bytes) c
unfolding spelled_config HasSpelling
read-spelled bytes c rest h e =
    let taken = config-IsForm.takes bytes (c, rest) h e in
    let parts : bytes ≡ config.spell c ++ rest = taken.0.parts in
    let n : length (config.spell c) ≡ length bytes - length rest = omega (arith, ap length parts, length-append (config.spell c) rest) in
    record { has = taken.1; is = ap (take (length bytes - length rest)) parts ∙ take_at (config.spell c) rest (length bytes - length rest) n }

-- what is spelled is read
pub spelled-read : (bytes : List ℕ) (c : Config) (rest : List ℕ) → HasSpelling c → bytes ≡ spelled_config c ++ rest → config.read bytes ≡ Ok (c, rest)
unfolding spelled_config HasSpelling
spelled-read bytes c rest has is = ap config.read is ∙ config-IsForm.again c rest has

-- what was read is what was spelled
pub read-same : (bytes : List ℕ) (c d : Config) (rest more : List ℕ) → config.read bytes ≡ Ok (c, rest) → HasSpelling d → bytes ≡ spelled_config d ++ more
    → (c ≡ d) × (length bytes - length rest ≡ length (spelled_config d))
read-same bytes c d rest more e has is =
    let same : gives c rest ≡ gives d more = sym e ∙ spelled-read bytes d more has is in
    let pair : both_of c rest ≡ both_of d more = ok_is (c, rest) (d, more) same in
    let left : rest ≡ more = ap (λ (p : Config × List ℕ). p.1) pair in
    (ap (λ (p : Config × List ℕ). p.0) pair, omega (arith, ap length is, ap length left, length-append (spelled_config d) more))

-- what is wrong is no configuration's front
pub none-wrong : (bytes : List ℕ) (left : ℕ) → config.read bytes ≡ Err left → (c : Config) (rest : List ℕ) → HasSpelling c → bytes ≡ spelled_config c ++ rest → ⊥
none-wrong bytes left e c rest has is =
    let same : wrong_at left ≡ gives c rest = sym e ∙ spelled-read bytes c rest has is in
    absurd cc

pub left-inside : (bytes : List ℕ) (left : ℕ) → AreBytes bytes → config.read bytes ≡ Err left → left ≤ length bytes
left-inside bytes left h e = config-IsForm.stops bytes left h e

agrees : (bytes : List ℕ) (left : ℕ) → AreBytes bytes → config.read bytes ≡ Err left → AgreesUpTo (length bytes - left) bytes
unfolding spelled_config HasSpelling
agrees bytes left h e = let b = config-before bytes left h e in record { value = b.value; has = b.fits; same = b.same }

pub is-refused : (bytes : List ℕ) (left : ℕ) → AreBytes bytes → config.read bytes ≡ Err left → IsRefused (length bytes - left) bytes
is-refused bytes left h e = record {
  none = λ front. none-wrong bytes left e front.value front.rest front.has front.is;
  place = record { left = left; inside = (let inside : left ≤ length bytes = left-inside bytes left h e in omega arith); wrong = e; before = agrees bytes left h e };
}

-- two configurations at the front of the same bytes are one
pub one-spelling : (c d : Config) (rest more : List ℕ) → HasSpelling c → HasSpelling d → spelled_config c ++ rest ≡ spelled_config d ++ more → (c ≡ d) × (rest ≡ more)
one-spelling c d rest more has_c has_d same =
    let both : gives c rest ≡ gives d more = sym (spelled-read (spelled_config c ++ rest) c rest has_c refl) ∙ spelled-read (spelled_config c ++ rest) d more has_d same in
    let pair : both_of c rest ≡ both_of d more = ok_is (c, rest) (d, more) both in
    (ap (λ (p : Config × List ℕ). p.0) pair, ap (λ (p : Config × List ℕ). p.1) pair)

-- the same of what a reader returned
pub stops-read : (bytes rest : List ℕ) (w : Wrong) → AreBytes bytes → Gives (gave w) rest (config.read bytes) → Stops bytes (stop_of w (length bytes))
stops-read bytes rest (Left left) h e = is-refused bytes left h e
stops-read bytes rest Memory h e = tt

pub none-read : (bytes rest : List ℕ) (w : Wrong) → Gives (gave w) rest (config.read bytes) → (c : Config) (more : List ℕ) → HasSpelling c → bytes ≡ spelled_config c ++ more → Reads (answer (stop_of w (length bytes))) c (length (spelled_config c))
none-read bytes rest (Left left) e c more has is = none-wrong bytes left e c more has is
none-read bytes rest Memory e c more has is = tt
