-- Forms of a format: how a value is spelled, how one is read at the front of bytes, and which values have a spelling.
use Rattle.std.specs.Prelude.{ℕ, zero, suc, ◌^◌, ◌<◌, ◌≤◌, ◌≡◌, Bool, true, false, ◌&&◌, ◌||◌, List, [], ◌∷◌, ◌++◌, length, take, drop, flat_map, Option, Some, None, is_some, Result, Ok, Err, nat_lt, nat_le, ◌==◌, if◌then◌else◌}
use Rattle.vx_model.specs.declared.limits.TheConstants.{MOST_NAME_BYTES}
use Rattle.std.specs.List.{AllByRecursion}
use Rattle.vx_wire.specs.Fields.{name_bytes}
use Rattle.vx_wire.specs.Numbers.{be_bytes, number_at}
use Rattle.vx_config.specs.declared.wrong.Wrong.{Wrong}
use Rattle.vx_config.specs.declared.wrong.Wrong.TheVariants.{Left, Memory}

-- a value and the bytes behind it, or how many bytes are left from the first wrong field on
abbrev pub Reading : Type 0 → Type 0
Reading A = Result (A × List ℕ) ℕ

infixl 10 ◌>>=◌
-- first the one reading, then the other behind it
abbrev pub ◌>>=◌ : {A B : Type 0} → Reading A → (A × List ℕ → Reading B) → Reading B
(Ok x) >>= f = f x
(Err left) >>= f = Err left

-- what a step over bytes returned is what reading gives, with these bytes left, unless memory ran out
abbrev pub Gives : {A : Type 0} → Result A Wrong → List ℕ → Reading A → Type 0
Gives (Ok x) rest reading = reading ≡ Ok (x, rest)
Gives (Err (Left left)) rest reading = reading ≡ Err left
Gives (Err Memory) rest reading = Unit {0}

-- how values of a type are spelled, how one is read, and which have a spelling
pub record Form (A : Type 0) : Type 1 where
  pub spell : A → List ℕ
  pub read : List ℕ → Reading A
  pub Fits : A → Type 0

-- ---- single fields

-- a number in w bytes
abbrev pub number : ℕ → Form ℕ
number w = record {
  spell = be_bytes w;
  read = λ bytes. if nat_lt (length bytes) w then Err (length bytes) else Ok (number_at w 0 bytes, drop w bytes);
  Fits = λ n. n < 256 ^ w;
}

-- a number in w bytes, from least to most
abbrev pub within : ℕ → ℕ → ℕ → Form ℕ
within w least most = record {
  spell = be_bytes w;
  read = λ bytes. (number w).read bytes >>= λ n. if nat_le least n.0 && nat_le n.0 most then Ok n else Err (length bytes);
  Fits = λ n. (n < 256 ^ w) × (least ≤ n) × (n ≤ most);
}

-- a value behind a code, where there is one
abbrev pub coded_or : {A : Type 0} → ℕ → List ℕ → Option A → Reading A
coded_or left rest None = Err left
coded_or left rest (Some a) = Ok (a, rest)

-- a code in one byte
abbrev pub coded : {A : Type 0} → (A → ℕ) → (ℕ → Option A) → Form A
coded code of = record {
  spell = λ a. be_bytes 1 (code a);
  read = λ bytes. (number 1).read bytes >>= λ n. coded_or (length bytes) n.1 (of n.0);
  Fits = λ a. Unit {0};
}

abbrev pub flag_code : Bool → ℕ
flag_code false = 0
flag_code true = 1

abbrev pub flag_of : ℕ → Option Bool
flag_of n = if n == 0 then Some false else if n == 1 then Some true else None

-- a flag: 1 where it is set, else 0
unfoldable pub flag : Form Bool
flag = coded flag_code flag_of

abbrev pub read_name : List ℕ → Reading (List ℕ)
read_name [] = Err 0
read_name (n ∷ rest) = if n == 0 || nat_lt MOST_NAME_BYTES n || nat_lt (length rest) n then Err (length (n ∷ rest)) else Ok (take n rest, drop n rest)

-- a name of 1 to 8 bytes: its length, then its bytes
unfoldable pub name : Form (List ℕ)
name = record {
  spell = name_bytes;
  read = read_name;
  Fits = λ n. (0 < length n) × (length n ≤ MOST_NAME_BYTES);
}

-- ---- several fields

-- the one, then the other
abbrev pub pair : {A B : Type 0} → Form A → Form B → Form (A × B)
pair first second = record {
  spell = λ p. first.spell p.0 ++ second.spell p.1;
  read = λ bytes. first.read bytes >>= λ a. second.read a.1 >>= λ b. Ok ((a.0, b.0), b.1);
  Fits = λ p. first.Fits p.0 × second.Fits p.1;
}

-- a value as it is made of its parts
abbrev pub made_of : {A B : Type 0} → (A → B) → (B → A) → Form A → Form B
made_of make parts form = record {
  spell = λ b. form.spell (parts b);
  read = λ bytes. form.read bytes >>= λ a. Ok (make a.0, a.1);
  Fits = λ b. form.Fits (parts b);
}

-- first what the value's form hangs on, then the value
abbrev pub keyed : {K A : Type 0} → (A → K) → Form K → (K → Form A) → Form A
keyed key first form = record {
  spell = λ a. first.spell (key a) ++ (form (key a)).spell a;
  read = λ bytes. first.read bytes >>= λ k. (form k.0).read k.1;
  Fits = λ a. first.Fits (key a) × (form (key a)).Fits a;
}

-- so many values, one after the other
unfoldable pub read_many : {A : Type 0} → Form A → ℕ → List ℕ → Reading (List A)
read_many form zero bytes = Ok ([], bytes)
read_many form (suc n) bytes = form.read bytes >>= λ x. read_many form n x.1 >>= λ xs. Ok (x.0 ∷ xs.0, xs.1)

-- a count in one byte, from least to most, and so many values
abbrev pub counted : {A : Type 0} → ℕ → ℕ → Form A → Form (List A)
counted least most form = record {
  spell = λ xs. be_bytes 1 (length xs) ++ flat_map form.spell xs;
  read = λ bytes. (within 1 least most).read bytes >>= λ n. read_many form n.0 n.1;
  Fits = λ xs. (least ≤ length xs) × (length xs ≤ most) × AllByRecursion form.Fits xs;
}

abbrev pub spell_if : {A : Type 0} → Form A → Option A → List ℕ
spell_if form None = be_bytes 1 0
spell_if form (Some a) = be_bytes 1 1 ++ form.spell a

abbrev pub read_if : {A : Type 0} → Form A → Bool → List ℕ → Reading (Option A)
read_if form false rest = Ok (None, rest)
read_if form true rest = form.read rest >>= λ a. Ok (Some a.0, a.1)

abbrev pub FitsIf : {A : Type 0} → Form A → Option A → Type 0
FitsIf form None = Unit {0}
FitsIf form (Some a) = form.Fits a

-- a flag, and the value where it is 1
abbrev pub optional : {A : Type 0} → Form A → Form (Option A)
optional form = record {
  spell = spell_if form;
  read = λ bytes. flag.read bytes >>= λ found. read_if form found.0 found.1;
  Fits = FitsIf form;
}

-- the same flag
abbrev pub same_flag : Bool → Bool → Bool
same_flag false false = true
same_flag false true = false
same_flag true false = false
same_flag true true = true

-- a value whose flag, which stands before it, has to be this one
abbrev pub where_flag : {A : Type 0} → Form A → Bool → Form (Option A)
where_flag form wanted = record {
  spell = spell_if form;
  read = λ bytes. flag.read bytes >>= λ found. if same_flag wanted found.0 then read_if form found.0 found.1 else Err (length bytes);
  Fits = λ o. (is_some o ≡ wanted) × FitsIf form o;
}
