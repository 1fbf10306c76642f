-- What the reader of lines does to the bytes that are ahead of it.
use Rattle.std.specs.Prelude.{◌≡◌, ℕ, ◌<◌, Bool, true, false, List, [], ◌∷◌, ◌++◌, length, Option, Some, None, Result, Ok, Err}
use Rattle.vx_script.specs.Lines.{split_lines, whole_lines_of, without_return, HasNoNewline}
use Rattle.vx_cli.specs.declared.reader.Next.{Next}
use Rattle.vx_cli.specs.declared.reader.Next.TheVariants.{Line, Last, End, Long}
use Rattle.vx_cli.specs.declared.reader.ReadError.{ReadError}
use Rattle.vx_cli.specs.declared.reader.ReadError.TheVariants.{Fault, Memory}

-- A source that tells its bytes has these left. One that does not may have any.
abbrev pub MayHave : Option (List ℕ) → List ℕ → Type 0
MayHave None bytes = Unit {0}
MayHave (Some told) bytes = bytes ≡ told

-- bytes are those that are held, and then those that the source has left
pub record Ahead (held : List ℕ) (left : Option (List ℕ)) (bytes : List ℕ) : Type 0 where
  pub rest : List ℕ
  pub has : MayHave left rest
  pub is : bytes ≡ held ++ rest

-- what is ahead now came after some bytes that are done with
pub record FollowsInput (held : List ℕ) (left : Option (List ℕ)) (done new : List ℕ) (now_left : Option (List ℕ)) : Type 0 where
  pub before : (bytes : List ℕ) → Ahead new now_left bytes → Ahead held left (done ++ bytes)

-- one piece was taken, or nothing was left
abbrev pub FillIs : List ℕ → Option (List ℕ) → Result Bool ReadError → List ℕ → Option (List ℕ) → Type 0
FillIs held left (Ok true) new now_left = FollowsInput held left [] new now_left
FillIs held left (Ok false) new now_left = (new ≡ held) × MayHave now_left [] × Ahead held left held
FillIs held left (Err Fault) new now_left = (new ≡ held) × FollowsInput held left [] new now_left
FillIs held left (Err Memory) new now_left = Unit {0}

-- a line was cut off at its newline, or there is none
abbrev pub CutIs : Bool → List ℕ → List ℕ → List ℕ → Type 0
CutIs true old line new = (raw : List ℕ) × HasNoNewline raw × (old ≡ raw ++ 10 ∷ new) × (line ≡ without_return raw)
CutIs false old line new = HasNoNewline old × (new ≡ old)

-- raw is a whole line of an input, whatever follows it
pub record IsWholeLine (raw line : List ℕ) : Type 0 where
  pub lines : (tail : List ℕ) → split_lines (raw ++ tail) ≡ line ∷ split_lines tail
  pub whole : (tail : List ℕ) → whole_lines_of (raw ++ tail) ≡ line ∷ whole_lines_of tail

-- a last line, which the input ends
pub record IsLast (held : List ℕ) (left : Option (List ℕ)) (line : List ℕ) : Type 0 where
  pub bytes : List ℕ
  pub ahead : Ahead held left bytes
  pub lines : split_lines bytes ≡ line ∷ []

-- a first line of more than 4,096 bytes
pub record IsLong (held : List ℕ) (left : Option (List ℕ)) : Type 0 where
  pub bytes : List ℕ
  pub ahead : Ahead held left bytes
  pub line : List ℕ
  pub others : List (List ℕ)
  pub lines : split_lines bytes ≡ line ∷ others
  pub long : 4096 < length line

-- the next line of the bytes ahead
abbrev pub NextIs : List ℕ → Option (List ℕ) → Result Next ReadError → List ℕ → List ℕ → Option (List ℕ) → Type 0
NextIs held left (Ok Line) line new now_left = (raw : List ℕ) × IsWholeLine raw line × FollowsInput held left raw new now_left
NextIs held left (Ok Last) line new now_left = IsLast held left line × MayHave now_left []
NextIs held left (Ok End) line new now_left = Ahead held left [] × MayHave now_left []
NextIs held left (Ok Long) line new now_left = IsLong held left
NextIs held left (Err Fault) line new now_left = HasNoNewline new × FollowsInput held left [] new now_left
NextIs held left (Err Memory) line new now_left = Unit {0}

-- a byte is ahead
pub record IsByteAhead (held : List ℕ) (left : Option (List ℕ)) : Type 0 where
  pub first : ℕ
  pub others : List ℕ
  pub ahead : Ahead held left (first ∷ others)

-- whether a byte is ahead
abbrev pub MoreIs : List ℕ → Option (List ℕ) → Result Bool ReadError → List ℕ → Option (List ℕ) → Type 0
MoreIs held left (Ok true) new now_left = IsByteAhead held left
MoreIs held left (Ok false) new now_left = Ahead held left [] × MayHave now_left []
MoreIs held left (Err Fault) new now_left = (new ≡ []) × FollowsInput held left [] new now_left
MoreIs held left (Err Memory) new now_left = Unit {0}
