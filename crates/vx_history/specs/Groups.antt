-- What a site notes of its group of disks, and what calls of the group make of it. Events of sites and links do not look at it.
use Rattle.std.specs.Prelude.{◌≡◌, ◌⊎◌, ℕ, ◌-◌, if◌then◌else◌, Bool, true, false, List, [], ◌∷◌, ◌++◌, Option, Some, Contains}
use Rattle.vx_model.specs.Content.{Write, Content, block_of, put, touches}

-- what is noted of the regions that the plexes of a group missed
pub record MissedNote : Type 0 where
  -- of a volume whether the regions that its plexes missed are known; where they are not, each plex that takes no part counts as one that missed all
  pub mapped : ℕ → Bool
  -- of a volume and one of its plexes the regions that it missed
  pub missed : ℕ → ℕ → ℕ → Bool
  -- those that it may have missed beside these
  pub perhaps : ℕ → ℕ → ℕ → Bool
  -- of a volume whether its copies may differ, as a write of it failed since it was made or came up
  pub doubt : ℕ → Bool
  -- the serial of the configuration
  pub serial : ℕ

-- a site whose disks are a group
pub record GroupNode : Type 0 where
  -- the configuration as it is spelled in bytes; its serial does not count
  pub config : List ℕ
  -- further configurations, as they are spelled with no disk held as failed, that a commit which was refused or cut off may have left on the disks
  pub begun : List (List ℕ)
  -- the disks may hold configurations that do not agree
  pub loose : Bool
  -- nothing is known of what the disks hold: it came up from disks that may not have agreed, or of which nothing was noted
  pub dark : Bool
  -- the blocks of the volumes outside the replicated volume group, by their places in the configuration
  pub bytes : Content
  -- the further values that a block of such a volume may have
  pub others : ℕ → ℕ → List (List ℕ)
  -- the write to such a volume in which the fuse ran out, until the next recovery
  pub cut : Option Write
  -- the regions that plexes missed
  pub maps : MissedNote
  -- the volumes of the replicated volume group, of whose blocks nothing is noted here
  pub inside : ℕ → Bool

-- a value that a block of a volume may have: any where nothing is noted of it, and else the one that is noted, or one of the further ones
abbrev pub BlockMay : GroupNode → ℕ → ℕ → List ℕ → Type 0
BlockMay note v b x = (note.inside v ≡ true) ⊎ (x ≡ note.bytes.block v b) ⊎ Contains (note.others v b) x

-- the note behind a write that was done: each of its blocks has one value
abbrev pub note_write : Write → GroupNode → GroupNode
note_write x note = record note { bytes = put note.bytes x; others = λ v b. if touches x v b then [] else note.others v b }

-- the note behind a write that failed: each of its blocks has what it had, or what was to be written
abbrev pub note_doubt : Write → GroupNode → GroupNode
note_doubt x note = record note { others = λ v b. if touches x v b then block_of x.bytes (b - x.start) ∷ note.others v b else note.others v b }

-- the same behind a write in which the fuse ran out: it is the one that a recovery looks at
abbrev pub note_cut : Write → GroupNode → GroupNode
note_cut x note = record (note_doubt x note) { cut = Some x }

-- what is noted of the volumes, and of the regions that plexes missed, is the same
pub record NoteSame (old new : GroupNode) : Type 0 where
  pub dark : new.dark ≡ old.dark
  pub bytes : new.bytes ≡ old.bytes
  pub others : new.others ≡ old.others
  pub cut : new.cut ≡ old.cut
  pub maps : new.maps ≡ old.maps
  pub inside : new.inside ≡ old.inside

-- Behind a call in which no commit was refused: nothing is begun, or what was, and perhaps configurations of the call. Where imports agreed and nothing was
-- begun so it is still.
pub record NoteSettles (old new : GroupNode) : Type 0 where
  pub same : NoteSame old new
  pub begun : ((new.begun ≡ []) × (new.loose ≡ false)) ⊎ ((nexts : List (List ℕ)) × (new.begun ≡ nexts ++ old.begun) × (old.loose ≡ true → new.loose ≡ true))
  pub tight : old.loose ≡ false → old.begun ≡ [] → (new.begun ≡ []) × (new.loose ≡ false)

-- Behind a call in which a commit may have been refused: nothing is begun, or further configurations. Where imports agreed and nothing was begun they agree
-- still, but behind one in which a second commit may have been refused (`twice`).
pub record NoteUnsettles (twice : Bool) (old new : GroupNode) : Type 0 where
  pub same : NoteSame old new
  pub begun : ((new.begun ≡ []) × (new.loose ≡ false)) ⊎ ((nexts : List (List ℕ)) × (new.begun ≡ nexts ++ old.begun) × (old.loose ≡ true → new.loose ≡ true))
  pub tight : twice ≡ false → old.loose ≡ false → old.begun ≡ [] → new.loose ≡ false

-- Behind any calls, one after another: these configurations are begun, the last first; and what was begun before them too, unless a commit was done since.
pub record NoteWorks (old new : GroupNode) : Type 0 where
  pub same : NoteSame old new
  pub firsts : List (List ℕ)
  pub begun : (new.begun ≡ firsts) ⊎ ((new.begun ≡ firsts ++ old.begun) × (old.loose ≡ true → new.loose ≡ true))
  pub tight : old.loose ≡ false → old.begun ≡ [] → firsts ≡ [] → new.loose ≡ false
