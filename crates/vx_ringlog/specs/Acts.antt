-- The device calls of the log, as lists.
use Rattle.std.specs.Prelude.{ℕ, suc, ◌+◌, List, [], ◌∷◌, ◌++◌}
use Rattle.vx_srlfmt.specs.Kinds.{Top, Front, Body}
use Rattle.vx_srlfmt.specs.declared.header.Header.{Header}
use Rattle.vx_ringlog.specs.Cells.{Act, Write, Flush}
use Rattle.vx_ringlog.specs.Records.{Record}
use Rattle.vx_ringlog.specs.Chain.{block, width}

-- the body blocks from place p on
abbrev pub body_acts : ℕ → ℕ → List (List ℕ) → List Act
body_acts size p [] = []
body_acts size p (b ∷ bs) = Write (block size p) (Body b) ∷ body_acts size (suc p) bs

-- the body of a record whose header has place q
abbrev pub stage_acts : ℕ → ℕ → Record → List Act
stage_acts size q s = body_acts size (suc q) s.body

-- the headers of records from place p on, and the flush
abbrev pub fronts_of : ℕ → ℕ → List Record → List Act
fronts_of size p [] = Flush ∷ []
fronts_of size p (s ∷ ss) = Write (block size p) (Front s.head) ∷ fronts_of size (p + width s) ss

-- the flush of the bodies, and then the headers
abbrev pub seal_acts : ℕ → ℕ → List Record → List Act
seal_acts size q staged = Flush ∷ fronts_of size q staged

-- a header of the log over block b, and the flush
abbrev pub head_acts : ℕ → Header → List Act
head_acts b h = Write b (Top h) ∷ Flush ∷ []

-- a start: the raised header over the one of the lesser stamp, and then the other one
abbrev pub start_acts : ℕ → ℕ → Header → Header → List Act
start_acts here other raised again = head_acts other raised ++ head_acts here again
