-- The first words of the lines.
use Rattle.std.specs.Prelude.{ℕ, List, Option, codes}
use Rattle.std.specs.List.{find}
use Rattle.std.specs.Str.{bytes_eq}
use Rattle.vx_script.specs.declared.keyword.TheConstants.{KEYWORDS}
use Rattle.vx_script.specs.declared.keyword.Keyword.{Keyword}
use Rattle.vx_script.specs.declared.keyword.Keyword.TheVariants.{Site, Disk, Fuse, Group, Volume, Plex, Rvg, Write, Put, Deliver, Call, End, OfSite, OfNumber, OfSpan, OfLink, OfPair}
use Rattle.vx_script.specs.declared.keyword.SiteVerb.{SiteVerb}
use Rattle.vx_script.specs.declared.keyword.SiteVerb.TheVariants.{Raw, Recover, Takeover, Status}
use Rattle.vx_script.specs.declared.keyword.NumberVerb.{NumberVerb}
use Rattle.vx_script.specs.declared.keyword.NumberVerb.TheVariants.{Crash, Apply, Wait, Burst}
use Rattle.vx_script.specs.declared.keyword.SpanVerb.{SpanVerb}
use Rattle.vx_script.specs.declared.keyword.SpanVerb.TheVariants.{Read, Show}
use Rattle.vx_script.specs.declared.keyword.LinkVerb.{LinkVerb}
use Rattle.vx_script.specs.declared.keyword.LinkVerb.TheVariants.{Link, Set, Bunker}
use Rattle.vx_script.specs.declared.keyword.PairVerb.{PairVerb}
use Rattle.vx_script.specs.declared.keyword.PairVerb.TheVariants.{Attach, Detach, Pause, Resume, Connect, Cut, Pump, Tick, Settle, Resync, Migrate, Failback, Activate}

-- lines of one site
abbrev pub site_text : SiteVerb → List ℕ
site_text Raw = codes "raw"
site_text Recover = codes "recover"
site_text Takeover = codes "takeover"
site_text Status = codes "status"

-- lines of a site and a number
abbrev pub number_text : NumberVerb → List ℕ
number_text Crash = codes "crash"
number_text Apply = codes "apply"
number_text Wait = codes "wait"
number_text Burst = codes "burst"

-- lines of a run of blocks
abbrev pub span_text : SpanVerb → List ℕ
span_text Read = codes "read"
span_text Show = codes "show"

-- lines that set a link's modes
abbrev pub link_text : LinkVerb → List ℕ
link_text Link = codes "link"
link_text Set = codes "set"
link_text Bunker = codes "bunker"

-- lines of two sites
abbrev pub pair_text : PairVerb → List ℕ
pair_text Attach = codes "attach"
pair_text Detach = codes "detach"
pair_text Pause = codes "pause"
pair_text Resume = codes "resume"
pair_text Connect = codes "connect"
pair_text Cut = codes "cut"
pair_text Pump = codes "pump"
pair_text Tick = codes "tick"
pair_text Settle = codes "settle"
pair_text Resync = codes "resync"
pair_text Migrate = codes "migrate"
pair_text Failback = codes "failback"
pair_text Activate = codes "activate"

-- the word that a keyword is
abbrev pub keyword_text : Keyword → List ℕ
keyword_text Site = codes "site"
keyword_text Disk = codes "disk"
keyword_text Fuse = codes "fuse"
keyword_text Group = codes "dg"
keyword_text Volume = codes "vol"
keyword_text Plex = codes "plex"
keyword_text Rvg = codes "rvg"
keyword_text Write = codes "write"
keyword_text Put = codes "put"
keyword_text Deliver = codes "deliver"
keyword_text Call = codes "t"
keyword_text End = codes "end"
keyword_text (OfSite verb) = site_text verb
keyword_text (OfNumber verb) = number_text verb
keyword_text (OfSpan verb) = span_text verb
keyword_text (OfLink verb) = link_text verb
keyword_text (OfPair verb) = pair_text verb

-- the value of the list that a word is the text of
abbrev pub pick_of : {V : Type 0} → (V → List ℕ) → List V → List ℕ → Option V
pick_of text all word = find (λ v. bytes_eq word (text v)) all

-- the keyword that a word is
unfoldable pub keyword_of : List ℕ → Option Keyword
keyword_of word = pick_of keyword_text KEYWORDS word
