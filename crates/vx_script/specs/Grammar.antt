-- The lines of a script, how they are spelt, and the column at which a line is wrong.
use Rattle.std.specs.Prelude.{◌≡◌, ℕ, ◌+◌, ◌-◌, Bool, true, List, [], ◌∷◌, length, Option, Some, None, Result, Ok, Err, nat_lt, ◌==◌, if◌then◌else◌, codes}
use Rattle.vx_model.specs.declared.limits.TheConstants.{BLOCK}
use Rattle.vx_model.specs.declared.link.Prot.{Prot}
use Rattle.vx_model.specs.declared.link.SyncMode.{SyncMode}
use Rattle.vx_script.specs.Lines.{begins_with}
use Rattle.vx_script.specs.Words.{WordReading, after_spaces, word_of, after_word}
use Rattle.vx_script.specs.Tokens.{Token, Key, Named, Number, Hex, NameList, SpellAll, words_of, joined_words}
use Rattle.vx_script.specs.Keywords.{keyword_of}
use Rattle.vx_script.specs.Choices.{disk_state_text, log_text, map_text, sync_text, prot_text}
use Rattle.vx_script.specs.Formats.{format_of, read_by, policy_token}
use Rattle.vx_script.specs.declared.keyword.Keyword.{Keyword}
use Rattle.vx_script.specs.declared.line.Layout.{Layout}
use Rattle.vx_script.specs.declared.line.Layout.TheVariants.{Concat, Stripe}
use Rattle.vx_script.specs.declared.line.ScriptLine.{ScriptLine}
use Rattle.vx_script.specs.declared.line.ScriptLine.TheVariants.{Site, Raw, Disk, Crash, Fuse, Recover, GroupInit, GroupDeport, GroupImport, Volume, PlexDetach, PlexAttach, Rvg, Write, Put, Read, Show, Apply, Wait, Link, Set, Attach, Detach, Pause, Resume, Connect, Cut, Pump, Tick, Deliver, Settle, Resync, Migrate, Takeover, Failback, Bunker, Activate, Burst, Status, CallWrite, CallRead, End}

-- a keyword and a site
abbrev pub one_site : List ℕ → List ℕ → List Token
one_site key site = Key key ∷ Named [] site ∷ []

-- a keyword, a site and a word
abbrev pub site_word : List ℕ → List ℕ → List ℕ → List Token
site_word key site word = Key key ∷ Named [] site ∷ Key word ∷ []

-- a keyword, a site and a number
abbrev pub site_and_number : List ℕ → List ℕ → ℕ → List Token
site_and_number key site n = Key key ∷ Named [] site ∷ Number [] n ∷ []

-- a keyword, a site and two numbers
abbrev pub site_numbers : List ℕ → List ℕ → ℕ → ℕ → List Token
site_numbers key site m n = Key key ∷ Named [] site ∷ Number [] m ∷ Number [] n ∷ []

-- a keyword and two sites
abbrev pub two_sites : List ℕ → List ℕ → List ℕ → List Token
two_sites key first second = Key key ∷ Named [] first ∷ Named [] second ∷ []

-- a keyword, two sites and the modes of a link
abbrev pub two_modes : List ℕ → List ℕ → List ℕ → SyncMode → Prot → List Token
two_modes key first second sync prot = Key key ∷ Named [] first ∷ Named [] second ∷ Key (sync_text sync) ∷ Key (prot_text prot) ∷ []

-- a keyword, a site, a volume, and a run of blocks
abbrev pub block_run : List ℕ → List ℕ → List ℕ → ℕ → ℕ → List Token
block_run key site volume start count = Key key ∷ Named [] site ∷ Named [] volume ∷ Number [] start ∷ Number [] count ∷ []

-- a plex and a word
abbrev pub plex_word : List ℕ → List ℕ → ℕ → List ℕ → List Token
plex_word site volume plex word = Key (codes "plex") ∷ Named [] site ∷ Named [] volume ∷ Number [] plex ∷ Key word ∷ []

-- a layout before further options
abbrev pub layout_tokens : Layout → List Token → List Token
layout_tokens Concat more = Key (codes "layout=concat") ∷ more
layout_tokens (Stripe columns width) more = Key (codes "layout=stripe") ∷ Number (codes "ncol=") columns ∷ Number (codes "width=") width ∷ more

-- the places of each kind of line
abbrev pub tokens : ScriptLine → List Token
tokens (Site site disks blocks) = site_numbers (codes "site") site disks blocks
tokens (Raw site) = one_site (codes "raw") site
tokens (Disk site disk state) = Key (codes "disk") ∷ Named [] site ∷ Number [] disk ∷ Key (disk_state_text state) ∷ []
tokens (Crash site pick) = site_and_number (codes "crash") site pick
tokens (Fuse site writes pick) = site_numbers (codes "fuse") site writes pick
tokens (Recover site) = one_site (codes "recover") site
tokens (GroupInit site) = site_word (codes "dg") site (codes "init")
tokens (GroupDeport site) = site_word (codes "dg") site (codes "deport")
tokens (GroupImport site) = site_word (codes "dg") site (codes "import")
tokens (Volume site volume blocks mirrors layout log map policy) = Key (codes "vol") ∷ Named [] site ∷ Named [] volume ∷ Number [] blocks ∷ Number (codes "mirrors=") mirrors
    ∷ layout_tokens layout (Key (log_text log) ∷ Key (map_text map) ∷ policy_token policy ∷ [])
tokens (PlexDetach site volume plex) = plex_word site volume plex (codes "det")
tokens (PlexAttach site volume plex) = plex_word site volume plex (codes "att")
tokens (Rvg site srl dcm volumes) = Key (codes "rvg") ∷ Named [] site ∷ Named (codes "srl=") srl ∷ Named (codes "dcm=") dcm ∷ NameList (codes "vols=") volumes ∷ []
tokens (Write site volume start count fill) = Key (codes "write") ∷ Named [] site ∷ Named [] volume ∷ Number [] start ∷ Number [] count ∷ Hex 1 (fill ∷ []) ∷ []
tokens (Put site volume start bytes) = Key (codes "put") ∷ Named [] site ∷ Named [] volume ∷ Number [] start ∷ Hex BLOCK bytes ∷ []
tokens (Read site volume start count) = block_run (codes "read") site volume start count
tokens (Show site volume start count) = block_run (codes "show") site volume start count
tokens (Apply site count) = site_and_number (codes "apply") site count
tokens (Wait site number) = site_and_number (codes "wait") site number
tokens (Link primary secondary sync prot) = two_modes (codes "link") primary secondary sync prot
tokens (Set primary secondary sync prot) = two_modes (codes "set") primary secondary sync prot
tokens (Attach primary secondary) = two_sites (codes "attach") primary secondary
tokens (Detach primary secondary) = two_sites (codes "detach") primary secondary
tokens (Pause primary secondary) = two_sites (codes "pause") primary secondary
tokens (Resume primary secondary) = two_sites (codes "resume") primary secondary
tokens (Connect primary secondary) = two_sites (codes "connect") primary secondary
tokens (Cut primary secondary) = two_sites (codes "cut") primary secondary
tokens (Pump primary secondary) = two_sites (codes "pump") primary secondary
tokens (Tick primary secondary) = two_sites (codes "tick") primary secondary
tokens (Deliver packet) = Key (codes "deliver") ∷ Number [] packet ∷ []
tokens (Settle primary secondary) = two_sites (codes "settle") primary secondary
tokens (Resync primary secondary) = two_sites (codes "resync") primary secondary
tokens (Migrate primary secondary) = two_sites (codes "migrate") primary secondary
tokens (Takeover site) = one_site (codes "takeover") site
tokens (Failback new old) = two_sites (codes "failback") new old
tokens (Bunker primary bunker sync prot) = two_modes (codes "bunker") primary bunker sync prot
tokens (Activate bunker secondary) = two_sites (codes "activate") bunker secondary
tokens (Burst site threads) = site_and_number (codes "burst") site threads
tokens (Status site) = one_site (codes "status") site
tokens (CallWrite thread volume start count fill) = Key (codes "t") ∷ Number [] thread ∷ Key (codes "write") ∷ Named [] volume ∷ Number [] start ∷ Number [] count ∷ Hex 1 (fill ∷ []) ∷ []
tokens (CallRead thread volume start) = Key (codes "t") ∷ Number [] thread ∷ Key (codes "read") ∷ Named [] volume ∷ Number [] start ∷ []
tokens End = Key (codes "end") ∷ []

-- the line says so
abbrev pub IsLine : List ℕ → ScriptLine → Type 0
IsLine bytes line = SpellAll (tokens line) (words_of bytes)

-- an empty line, a line of spaces alone, or a comment
abbrev pub IsQuiet : List (List ℕ) → Type 0
IsQuiet [] = Unit {0}
IsQuiet (word ∷ words) = begins_with 35 word ≡ true

-- the printed line
abbrev pub spelling : ScriptLine → List ℕ
spelling line = joined_words (tokens line)

-- a line that was read
abbrev pub some_line : WordReading ScriptLine → WordReading (Option ScriptLine)
some_line (Ok l) = Ok (Some l)
some_line (Err left) = Err left

-- the first word of an empty line or a comment
abbrev pub is_silent : List ℕ → Bool
is_silent [] = true
is_silent (b ∷ bytes) = b == 35

-- what follows a keyword
abbrev pub line_of_keyword : Option Keyword → List ℕ → ℕ → WordReading (Option ScriptLine)
line_of_keyword None rest left = Err left
line_of_keyword (Some keyword) rest left = some_line (read_by (format_of keyword) rest)

-- what a first word and the rest say
unfoldable pub line_by : List ℕ → List ℕ → ℕ → WordReading (Option ScriptLine)
line_by word rest left = if is_silent word then Ok None else line_of_keyword (keyword_of word) rest left

-- what a line says that is not too long
unfoldable pub line_after_spaces : List ℕ → WordReading (Option ScriptLine)
line_after_spaces bytes = line_by (word_of (after_spaces bytes)) (after_word (after_spaces bytes)) (length (after_spaces bytes))

-- the place from 1, where left bytes of len are left
abbrev pub at_column : ℕ → WordReading (Option ScriptLine) → Result (Option ScriptLine) ℕ
at_column len (Ok l) = Ok l
at_column len (Err left) = Err (len + 1 - left)

-- what a line says, nothing for an empty line or a comment; Err: the column at which it is wrong
unfoldable pub line_of : List ℕ → Result (Option ScriptLine) ℕ
line_of bytes = if nat_lt 4096 (length bytes) then Err 4097 else at_column (length bytes) (line_after_spaces bytes)
