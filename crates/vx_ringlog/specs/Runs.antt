-- Whole runs of a log: calls, crashes at any moment of a call or a start, and starts.
use Rattle.std.specs.Prelude.{◌≡◌, ◌⊎◌, ℕ, ◌+◌, List, [], ◌∷◌, ◌++◌, take}
use Rattle.vx_srlfmt.specs.declared.header.Header.{Header}
use Rattle.vx_ringlog.specs.Cells.{RingImage, LeftBy, still}
use Rattle.vx_ringlog.specs.Records.{Record}
use Rattle.vx_ringlog.specs.Chain.{Starts, Recovers}
use Rattle.vx_ringlog.specs.Ready.{next}
use Rattle.vx_ringlog.specs.Acts.{start_acts}
use Rattle.vx_ringlog.specs.Logs.{In, State, IsLog, Call, Stage, Seal, Save, Restart, acts_of, behind_call, Allowed}
use Rattle.vx_ringlog.specs.Starting.{MayStart, started, Made, state_made}

-- a log runs, or a crash left this image of it
pub data Condition : Type 0 where
  Up : State → Condition
  Down : RingImage → Condition

-- a call; a crash in it; a start, from what its scan finds; a crash in it
pub data Happening : Type 0 where
  Calls : Call → Happening
  Crashes : Call → RingImage → Happening
  Begins : ℕ → ℕ → Header → Header → Header → List Record → Happening
  Fails : ℕ → ℕ → Header → Header → Header → List Record → RingImage → Happening

-- it leads from one condition to the other
abbrev pub GoesInto : ℕ → Happening → Condition → Condition → Type 0
GoesInto size (Calls c) (Up s) n = Allowed size s c × (n ≡ Up (behind_call size s c))
GoesInto size (Crashes c i) (Up s) n = Allowed size s c × LeftBy s.unit (acts_of size s c) i × (n ≡ Down i)
GoesInto size (Begins here other h g again rs) (Down i) n = MayStart i here other h g again × Starts size i h rs × (n ≡ Up (started i here other g again rs))
GoesInto size (Fails here other h g again rs j) (Down i) n = MayStart i here other h g again × Starts size i h rs × LeftBy (still i) (start_acts here other g again) j × (n ≡ Down j)
GoesInto size (Calls c) (Down i) n = ⊥
GoesInto size (Crashes c j) (Down i) n = ⊥
GoesInto size (Begins here other h g again rs) (Up s) n = ⊥
GoesInto size (Fails here other h g again rs j) (Up s) n = ⊥

-- one after another
abbrev pub GoesAll : ℕ → List Happening → Condition → Condition → Type 0
GoesAll size [] m n = n ≡ m
GoesAll size (x ∷ xs) m n = (o : Condition) × GoesInto size x m o × GoesAll size xs o n

-- what was sealed, or found by a start, since the log was last emptied, and what is staged
pub record Account : Type 0 where
  pub kept : List Record
  pub pending : List Record

-- that of a log that was emptied
abbrev pub emptied_account : Account
emptied_account = record { kept = []; pending = [] }

-- a first part of what is staged is kept, and the rest is lost
abbrev pub cut_account : ℕ → Account → Account
cut_account k a = record { kept = a.kept ++ take k a.pending; pending = [] }

-- what a call makes of it
abbrev pub BooksCall : Call → Account → Account → Type 0
BooksCall (Stage r) a b = b ≡ record { kept = a.kept; pending = a.pending ++ r ∷ [] }
BooksCall Seal a b = b ≡ record { kept = a.kept ++ a.pending; pending = [] }
BooksCall (Save g gone kept) a b = b ≡ a
BooksCall (Restart g) a b = b ≡ emptied_account

-- a crash keeps a first part of what is staged, or, in a restart, nothing
abbrev pub BooksCrash : Call → Account → Account → Type 0
BooksCrash (Stage r) a b = (k : ℕ) × (b ≡ cut_account k a)
BooksCrash Seal a b = (k : ℕ) × (b ≡ cut_account k a)
BooksCrash (Save g gone kept) a b = (k : ℕ) × (b ≡ cut_account k a)
BooksCrash (Restart g) a b = ((k : ℕ) × (b ≡ cut_account k a)) ⊎ (b ≡ emptied_account)

-- a start changes no account, and neither does one that a crash cut off
abbrev pub Books : Happening → Account → Account → Type 0
Books (Calls c) a b = BooksCall c a b
Books (Crashes c i) a b = BooksCrash c a b
Books (Begins here other h g again rs) a b = b ≡ a
Books (Fails here other h g again rs j) a b = b ≡ a

-- what all of these make of it
abbrev pub BooksAll : List Happening → Account → Account → Type 0
BooksAll [] a b = b ≡ a
BooksAll (x ∷ xs) a b = (c : Account) × Books x a c × BooksAll xs c b

-- the log has a last part of what was kept, the rest having been reclaimed, and what is staged
abbrev pub StandsForAccount : ℕ → Condition → Account → Type 0
StandsForAccount size (Up s) a = IsLog size s × ((gone : List Record) × (a.kept ≡ gone ++ s.held)) × (a.pending ≡ s.staged)
StandsForAccount size (Down i) a = ((h : Header) × (rs : List Record) × Recovers size i h rs × ((gone : List Record) × (a.kept ≡ gone ++ rs))) × (a.pending ≡ [])

-- whatever happens to a log, it stands for its account
abbrev pub RunIsSafe : Type 0
RunIsSafe = (size : ℕ) (xs : List Happening) (m n : Condition) (a : Account) → StandsForAccount size m a → GoesAll size xs m n → (b : Account) × BooksAll xs a b × StandsForAccount size n b

-- a new log is one in which nothing is held, and its first record has the number behind `head`
abbrev pub MadeIsSafe : Type 0
MadeIsSafe = (size head : ℕ) (i : RingImage) (h g : Header) → Made head i h g → StandsForAccount size (Up (state_made i h)) emptied_account × (next (state_made i h).header.low (state_made i h).held ≡ head + 1)

-- a crash at any moment of a call leaves only records that the last start found and records made since it
abbrev pub NonePassedOver : Type 0
NonePassedOver = (size : ℕ) (s : State) (c : Call) → IsLog size s → Allowed size s c → (i : RingImage) → LeftBy s.unit (acts_of size s c) i → (h : Header) (rs : List Record) → Starts size i h rs
    → (r : Record) → In r rs → In r s.found ⊎ (r.incarnation ≡ s.header.incarnation)

-- a log at rest may be started again with no crash between: what stands is what a scan finds
abbrev pub RestIsStill : Type 0
RestIsStill = (size : ℕ) (s : State) → IsLog size s → s.staged ≡ [] → Recovers size s.unit.stable s.header s.held

-- every call but a stage leaves nothing loose
abbrev pub NothingLoose : Type 0
NothingLoose = (size : ℕ) (s : State) → ((behind_call size s Seal).unit.loose ≡ []) × ((g : Header) (gone kept : List Record) → (behind_call size s (Save g gone kept)).unit.loose ≡ []) × ((g : Header) → (behind_call size s (Restart g)).unit.loose ≡ [])
