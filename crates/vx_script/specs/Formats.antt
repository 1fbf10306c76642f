-- The places of each kind of line, as they are read.
use Rattle.std.specs.Prelude.{ℕ, List, [], ◌∷◌, Option, Some, None, Ok, Err, codes, if◌then◌else◌}
use Rattle.std.specs.Str.{bytes_eq}
use Rattle.vx_model.specs.declared.limits.TheConstants.{BLOCK}
use Rattle.vx_model.specs.declared.link.Prot.{Prot}
use Rattle.vx_model.specs.declared.link.SyncMode.{SyncMode}
use Rattle.vx_script.specs.Words.{WordReading, and_then, next_word, words_end, word_name, word_number, byte_of, block_word, labelled, names_of}
use Rattle.vx_script.specs.Tokens.{Token, Key, Named, Number, Hex, NameList}
use Rattle.vx_script.specs.Keywords.{pick_of}
use Rattle.vx_script.specs.Choices.{disk_state_text, group_text, plex_text, layout_text, log_text, map_text, sync_text, prot_text, call_text}
use Rattle.vx_script.specs.declared.choice.TheConstants.{DISK_STATES, GROUP_VERBS, PLEX_VERBS, LAYOUT_WORDS, VOLUME_LOGS, VOLUME_MAPS, SYNC_MODES, PROTS, CALL_VERBS}
use Rattle.vx_script.specs.declared.choice.GroupVerb.{GroupVerb}
use Rattle.vx_script.specs.declared.choice.GroupVerb.TheVariants.{Init as InitVerb, Deport as DeportVerb, Import as ImportVerb}
use Rattle.vx_script.specs.declared.choice.PlexVerb.{PlexVerb}
use Rattle.vx_script.specs.declared.choice.PlexVerb.TheVariants.{Detach as DetachPlex, Attach as AttachPlex}
use Rattle.vx_script.specs.declared.choice.LayoutWord.{LayoutWord}
use Rattle.vx_script.specs.declared.choice.LayoutWord.TheVariants.{IsConcat, IsStripe}
use Rattle.vx_script.specs.declared.choice.CallVerb.{CallVerb}
use Rattle.vx_script.specs.declared.choice.CallVerb.TheVariants.{CallsWrite, CallsRead}
use Rattle.vx_script.specs.declared.keyword.SiteVerb.{SiteVerb}
use Rattle.vx_script.specs.declared.keyword.SiteVerb.TheVariants.{Raw as RawVerb, Recover as RecoverVerb, Takeover as TakeoverVerb, Status as StatusVerb}
use Rattle.vx_script.specs.declared.keyword.NumberVerb.{NumberVerb}
use Rattle.vx_script.specs.declared.keyword.NumberVerb.TheVariants.{Crash as CrashVerb, Apply as ApplyVerb, Wait as WaitVerb, Burst as BurstVerb}
use Rattle.vx_script.specs.declared.keyword.SpanVerb.{SpanVerb}
use Rattle.vx_script.specs.declared.keyword.SpanVerb.TheVariants.{Read as ReadVerb, Show as ShowVerb}
use Rattle.vx_script.specs.declared.keyword.LinkVerb.{LinkVerb}
use Rattle.vx_script.specs.declared.keyword.LinkVerb.TheVariants.{Link as SetLinkVerb, Set as SetVerb, Bunker as BunkerVerb}
use Rattle.vx_script.specs.declared.keyword.PairVerb.{PairVerb}
use Rattle.vx_script.specs.declared.keyword.PairVerb.TheVariants.{Attach as AttachVerb, Detach as DetachVerb, Pause as PauseVerb, Resume as ResumeVerb, Connect as ConnectVerb, Cut as CutVerb, Pump as PumpVerb, Tick as TickVerb, Settle as SettleVerb, Resync as ResyncVerb, Migrate as MigrateVerb, Failback as FailbackVerb, Activate as ActivateVerb}
use Rattle.vx_script.specs.declared.keyword.Keyword.{Keyword}
use Rattle.vx_script.specs.declared.keyword.Keyword.TheVariants.{Site as SiteKey, Disk as DiskKey, Fuse as FuseKey, Group as GroupKey, Volume as VolumeKey, Plex as PlexKey, Rvg as RvgKey, Write as WriteKey, Put as PutKey, Deliver as DeliverKey, Call as CallKey, End as EndKey, OfSite as SiteKeys, OfNumber as NumberKeys, OfSpan as SpanKeys, OfLink as LinkKeys, OfPair as PairKeys}
use Rattle.vx_script.specs.declared.line.Layout.{Layout}
use Rattle.vx_script.specs.declared.line.Layout.TheVariants.{Concat, Stripe}
use Rattle.vx_script.specs.declared.line.ReadPolicy.{ReadPolicy}
use Rattle.vx_script.specs.declared.line.ReadPolicy.TheVariants.{Round, Prefer}
use Rattle.vx_script.specs.declared.line.ScriptLine.{ScriptLine}
use Rattle.vx_script.specs.declared.line.ScriptLine.TheVariants.{Site, Raw, Disk, Crash, Fuse, Recover, GroupInit, GroupDeport, GroupImport, Volume, PlexDetach, PlexAttach, Rvg, Write, Put, Read, Show, Apply, Wait, Link, Set, Attach, Detach, Pause, Resume, Connect, Cut, Pump, Tick, Deliver, Settle, Resync, Migrate, Takeover, Failback, Bunker, Activate, Burst, Status, CallWrite, CallRead, End}

-- a place: what a word says there, and the token that stands for a value
pub record Place (V : Type 0) : Type 0 where
  pub value : List ℕ → Option V
  pub token : V → Token

-- a place and then the rest of the line, which may depend on its value
pub data Format : Type 1 where
  Done : ScriptLine → Format
  Then : {V : Type 0} → Place V → (V → Format) → Format

-- a place before the rest, so that `do` writes a format
infixl 10 ◌>>=◌
abbrev pub ◌>>=◌ : {V : Type 0} → Place V → (V → Format) → Format
place >>= more = Then place more

-- a line that ends where it should
abbrev pub ended : ScriptLine → WordReading (Unit {0}) → WordReading ScriptLine
ended line (Ok u) = Ok line
ended line (Err left) = Err left

-- how a line is read
abbrev pub read_by : Format → List ℕ → WordReading ScriptLine
read_by (Done line) bytes = ended line (words_end bytes)
read_by (Then place more) bytes = and_then (next_word place.value bytes) (λ x. read_by (more x.0) x.1)

-- a name behind a label
abbrev pub name_after : List ℕ → Place (List ℕ)
name_after label = record { value = labelled label word_name; token = Named label }

-- a number behind a label
abbrev pub number_after : List ℕ → Place ℕ
number_after label = record { value = labelled label word_number; token = Number label }

-- names behind a label
abbrev pub names_after : List ℕ → Place (List (List ℕ))
names_after label = record { value = labelled label names_of; token = NameList label }

-- a name
abbrev pub a_name : Place (List ℕ)
a_name = name_after []

-- a number
abbrev pub a_number : Place ℕ
a_number = number_after []

-- the digits of a byte
abbrev pub byte : Place ℕ
byte = record { value = byte_of; token = λ b. Hex 1 (b ∷ []) }

-- the digits of a block
abbrev pub a_block : Place (List ℕ)
a_block = record { value = block_word; token = Hex BLOCK }

-- one of a few words
abbrev pub pick : {V : Type 0} → (V → List ℕ) → List V → Place V
pick text all = record { value = pick_of text all; token = λ v. Key (text v) }

-- the plex that a volume is to be read from
abbrev pub preferred_policy : Option ℕ → Option ReadPolicy
preferred_policy None = None
preferred_policy (Some plex) = Some (Prefer plex)

-- what a word says of the reading of a volume
unfoldable pub policy_of : List ℕ → Option ReadPolicy
policy_of word = if bytes_eq word (codes "rdpol=round") then Some Round else preferred_policy (labelled (codes "rdpol=prefer:") word_number word)

-- the place of a reading policy
abbrev pub policy_token : ReadPolicy → Token
policy_token Round = Key (codes "rdpol=round")
policy_token (Prefer plex) = Number (codes "rdpol=prefer:") plex

-- how a volume is read
abbrev pub policy_place : Place ReadPolicy
policy_place = record { value = policy_of; token = policy_token }

-- the lines of one site
abbrev pub site_line : SiteVerb → List ℕ → ScriptLine
site_line RawVerb site = Raw site
site_line RecoverVerb site = Recover site
site_line TakeoverVerb site = Takeover site
site_line StatusVerb site = Status site

-- the lines of a site and a number
abbrev pub number_line : NumberVerb → List ℕ → ℕ → ScriptLine
number_line CrashVerb site n = Crash site n
number_line ApplyVerb site n = Apply site n
number_line WaitVerb site n = Wait site n
number_line BurstVerb site n = Burst site n

-- the lines of a run of blocks
abbrev pub span_line : SpanVerb → List ℕ → List ℕ → ℕ → ℕ → ScriptLine
span_line ReadVerb site volume start count = Read site volume start count
span_line ShowVerb site volume start count = Show site volume start count

-- the lines that set a link's modes
abbrev pub link_line : LinkVerb → List ℕ → List ℕ → SyncMode → Prot → ScriptLine
link_line SetLinkVerb first second sync prot = Link first second sync prot
link_line SetVerb first second sync prot = Set first second sync prot
link_line BunkerVerb first second sync prot = Bunker first second sync prot

-- the lines of two sites
abbrev pub pair_line : PairVerb → List ℕ → List ℕ → ScriptLine
pair_line AttachVerb first second = Attach first second
pair_line DetachVerb first second = Detach first second
pair_line PauseVerb first second = Pause first second
pair_line ResumeVerb first second = Resume first second
pair_line ConnectVerb first second = Connect first second
pair_line CutVerb first second = Cut first second
pair_line PumpVerb first second = Pump first second
pair_line TickVerb first second = Tick first second
pair_line SettleVerb first second = Settle first second
pair_line ResyncVerb first second = Resync first second
pair_line MigrateVerb first second = Migrate first second
pair_line FailbackVerb first second = Failback first second
pair_line ActivateVerb first second = Activate first second

-- the lines of a group
abbrev pub group_line : GroupVerb → List ℕ → ScriptLine
group_line InitVerb site = GroupInit site
group_line DeportVerb site = GroupDeport site
group_line ImportVerb site = GroupImport site

-- the lines of a plex
abbrev pub plex_line : PlexVerb → List ℕ → List ℕ → ℕ → ScriptLine
plex_line DetachPlex site volume plex = PlexDetach site volume plex
plex_line AttachPlex site volume plex = PlexAttach site volume plex

-- What follows the first word of each kind of line; in the comments the whole line.

-- site S D B
unfoldable pub site_format : Format
site_format = do
  site ← a_name
  disks ← a_number
  blocks ← a_number
  Done (Site site disks blocks)

-- disk S D fail, or ok
unfoldable pub disk_format : Format
disk_format = do
  site ← a_name
  disk ← a_number
  state ← pick disk_state_text DISK_STATES
  Done (Disk site disk state)

-- fuse S K PICK
unfoldable pub fuse_format : Format
fuse_format = do
  site ← a_name
  writes ← a_number
  bits ← a_number
  Done (Fuse site writes bits)

-- dg S init, deport or import
unfoldable pub group_format : Format
group_format = do
  site ← a_name
  verb ← pick group_text GROUP_VERBS
  Done (group_line verb site)

-- a volume's last options
unfoldable pub volume_tail : List ℕ → List ℕ → ℕ → ℕ → Layout → Format
volume_tail site volume blocks mirrors layout = do
  log ← pick log_text VOLUME_LOGS
  map ← pick map_text VOLUME_MAPS
  policy ← policy_place
  Done (Volume site volume blocks mirrors layout log map policy)

-- a volume's options behind the first word of its layout
unfoldable pub layout_format : List ℕ → List ℕ → ℕ → ℕ → LayoutWord → Format
layout_format site volume blocks mirrors IsConcat = volume_tail site volume blocks mirrors Concat
layout_format site volume blocks mirrors IsStripe = do
  columns ← number_after (codes "ncol=")
  width ← number_after (codes "width=")
  volume_tail site volume blocks mirrors (Stripe columns width)

-- vol S V BLOCKS mirrors=K layout=.. ..
unfoldable pub volume_format : Format
volume_format = do
  site ← a_name
  volume ← a_name
  blocks ← a_number
  mirrors ← number_after (codes "mirrors=")
  word ← pick layout_text LAYOUT_WORDS
  layout_format site volume blocks mirrors word

-- plex S V P det, or att
unfoldable pub plex_format : Format
plex_format = do
  site ← a_name
  volume ← a_name
  plex ← a_number
  verb ← pick plex_text PLEX_VERBS
  Done (plex_line verb site volume plex)

-- rvg S srl=V dcm=V vols=V,V
unfoldable pub rvg_format : Format
rvg_format = do
  site ← a_name
  srl ← name_after (codes "srl=")
  dcm ← name_after (codes "dcm=")
  volumes ← names_after (codes "vols=")
  Done (Rvg site srl dcm volumes)

-- write S V BLOCK COUNT XX
unfoldable pub write_format : Format
write_format = do
  site ← a_name
  volume ← a_name
  start ← a_number
  count ← a_number
  fill ← byte
  Done (Write site volume start count fill)

-- put S V BLOCK HEX
unfoldable pub put_format : Format
put_format = do
  site ← a_name
  volume ← a_name
  start ← a_number
  bytes ← a_block
  Done (Put site volume start bytes)

-- deliver K
unfoldable pub deliver_format : Format
deliver_format = do
  packet ← a_number
  Done (Deliver packet)

-- a burst's call behind its verb
unfoldable pub call_more : ℕ → CallVerb → Format
call_more thread CallsWrite = do
  volume ← a_name
  start ← a_number
  count ← a_number
  fill ← byte
  Done (CallWrite thread volume start count fill)
call_more thread CallsRead = do
  volume ← a_name
  start ← a_number
  Done (CallRead thread volume start)

-- t K write .., or read ..
unfoldable pub call_format : Format
call_format = do
  thread ← a_number
  verb ← pick call_text CALL_VERBS
  call_more thread verb

-- end
unfoldable pub end_format : Format
end_format = Done End

-- raw S, and the like
unfoldable pub of_site_format : SiteVerb → Format
of_site_format verb = do
  site ← a_name
  Done (site_line verb site)

-- crash S PICK, and the like
unfoldable pub of_number_format : NumberVerb → Format
of_number_format verb = do
  site ← a_name
  n ← a_number
  Done (number_line verb site n)

-- read S V BLOCK COUNT, and the like
unfoldable pub of_span_format : SpanVerb → Format
of_span_format verb = do
  site ← a_name
  volume ← a_name
  start ← a_number
  count ← a_number
  Done (span_line verb site volume start count)

-- link P S synchronous=X srlprot=Y, and the like
unfoldable pub of_link_format : LinkVerb → Format
of_link_format verb = do
  first ← a_name
  second ← a_name
  sync ← pick sync_text SYNC_MODES
  prot ← pick prot_text PROTS
  Done (link_line verb first second sync prot)

-- attach P S, and the like
unfoldable pub of_pair_format : PairVerb → Format
of_pair_format verb = do
  first ← a_name
  second ← a_name
  Done (pair_line verb first second)

-- what follows a keyword
abbrev pub format_of : Keyword → Format
format_of SiteKey = site_format
format_of DiskKey = disk_format
format_of FuseKey = fuse_format
format_of GroupKey = group_format
format_of VolumeKey = volume_format
format_of PlexKey = plex_format
format_of RvgKey = rvg_format
format_of WriteKey = write_format
format_of PutKey = put_format
format_of DeliverKey = deliver_format
format_of CallKey = call_format
format_of EndKey = end_format
format_of (SiteKeys verb) = of_site_format verb
format_of (NumberKeys verb) = of_number_format verb
format_of (SpanKeys verb) = of_span_format verb
format_of (LinkKeys verb) = of_link_format verb
format_of (PairKeys verb) = of_pair_format verb
