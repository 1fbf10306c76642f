-- Each kind of line: its format is faithful, and gives the line when it is given the line's places.
use Rattle.std.proofs.Common.{◌≡◌, ℕ, Bool, true, false, cond, List, [], ◌∷◌, length, Option, Some, None, Ok, Err, refl, ap, sym, subst, ◌∙◌}
use Rattle.std.specs.Prelude.{codes}
use Rattle.vx_script.specs.Words.{WordReading, after_spaces, word_of, after_word}
use Rattle.vx_script.specs.Tokens.{Token, Key, Named, Number, SpellAll, words_of}
use Rattle.vx_script.specs.Keywords.{site_text, number_text, span_text, link_text, pair_text, keyword_text, keyword_of}
use Rattle.vx_script.specs.Choices.{group_text, plex_text, layout_text, call_text}
use Rattle.vx_script.specs.Formats.{read_by, format_of, site_line, number_line, span_line, link_line, pair_line, group_line, plex_line, site_format, disk_format, fuse_format, group_format, volume_tail, layout_format, volume_format, plex_format, rvg_format, write_format, put_format, deliver_format, call_more, call_format, end_format, of_site_format, of_number_format, of_span_format, of_link_format, of_pair_format}
use Rattle.vx_script.specs.Grammar.{tokens, layout_tokens, one_site, site_word, site_and_number, two_sites, two_modes, block_run, plex_word, IsLine, line_by, line_after_spaces, line_of_keyword, some_line, is_silent}
use Rattle.vx_model.specs.declared.link.Prot.{Prot}
use Rattle.vx_model.specs.declared.link.SyncMode.{SyncMode}
use Rattle.vx_script.specs.declared.choice.GroupVerb.{GroupVerb}
use Rattle.vx_script.specs.declared.choice.GroupVerb.TheVariants.{Init as InitVerb, Deport as DeportVerb, Import as ImportVerb}
use Rattle.vx_script.specs.declared.choice.PlexVerb.{PlexVerb}
use Rattle.vx_script.specs.declared.choice.PlexVerb.TheVariants.{Detach as DetachPlex, Attach as AttachPlex}
use Rattle.vx_script.specs.declared.choice.LayoutWord.{LayoutWord}
use Rattle.vx_script.specs.declared.choice.LayoutWord.TheVariants.{IsConcat, IsStripe}
use Rattle.vx_script.specs.declared.choice.CallVerb.{CallVerb}
use Rattle.vx_script.specs.declared.choice.CallVerb.TheVariants.{CallsWrite, CallsRead}
use Rattle.vx_script.specs.declared.keyword.SiteVerb.{SiteVerb}
use Rattle.vx_script.specs.declared.keyword.SiteVerb.TheVariants.{Raw as RawVerb, Recover as RecoverVerb, Takeover as TakeoverVerb, Status as StatusVerb}
use Rattle.vx_script.specs.declared.keyword.NumberVerb.{NumberVerb}
use Rattle.vx_script.specs.declared.keyword.NumberVerb.TheVariants.{Crash as CrashVerb, Apply as ApplyVerb, Wait as WaitVerb, Burst as BurstVerb}
use Rattle.vx_script.specs.declared.keyword.SpanVerb.{SpanVerb}
use Rattle.vx_script.specs.declared.keyword.SpanVerb.TheVariants.{Read as ReadVerb, Show as ShowVerb}
use Rattle.vx_script.specs.declared.keyword.LinkVerb.{LinkVerb}
use Rattle.vx_script.specs.declared.keyword.LinkVerb.TheVariants.{Link as SetLinkVerb, Set as SetVerb, Bunker as BunkerVerb}
use Rattle.vx_script.specs.declared.keyword.PairVerb.{PairVerb}
use Rattle.vx_script.specs.declared.keyword.PairVerb.TheVariants.{Attach as AttachVerb, Detach as DetachVerb, Pause as PauseVerb, Resume as ResumeVerb, Connect as ConnectVerb, Cut as CutVerb, Pump as PumpVerb, Tick as TickVerb, Settle as SettleVerb, Resync as ResyncVerb, Migrate as MigrateVerb, Failback as FailbackVerb, Activate as ActivateVerb}
use Rattle.vx_script.specs.declared.keyword.Keyword.{Keyword}
use Rattle.vx_script.specs.declared.keyword.Keyword.TheVariants.{Site as SiteKey, Disk as DiskKey, Fuse as FuseKey, Group as GroupKey, Volume as VolumeKey, Plex as PlexKey, Rvg as RvgKey, Write as WriteKey, Put as PutKey, Deliver as DeliverKey, Call as CallKey, End as EndKey, OfSite as SiteKeys, OfNumber as NumberKeys, OfSpan as SpanKeys, OfLink as LinkKeys, OfPair as PairKeys}
use Rattle.vx_script.specs.declared.line.Layout.{Layout}
use Rattle.vx_script.specs.declared.line.Layout.TheVariants.{Concat, Stripe}
use Rattle.vx_script.specs.declared.line.ScriptLine.{ScriptLine}
use Rattle.vx_script.specs.declared.line.ScriptLine.TheVariants.{Site, Raw, Disk, Crash, Fuse, Recover, GroupInit, GroupDeport, GroupImport, Volume, PlexDetach, PlexAttach, Rvg, Write, Put, Read, Show, Apply, Wait, Link, Set, Attach, Detach, Pause, Resume, Connect, Cut, Pump, Tick, Deliver, Settle, Resync, Migrate, Takeover, Failback, Bunker, Activate, Burst, Status, CallWrite, CallRead, End}
use Rattle.vx_script.proofs.WordLemmas.{first_is, first_found}
use Rattle.vx_script.proofs.FormatLemmas.{Spelt, spell_cons, Faithful, Reads, read_only, read_found, name_place, number_place, names_place}
use Rattle.vx_script.proofs.PlaceLemmas.{byte_place, block_place, disk_state_place, group_place, plex_place, layout_place, log_place, map_place, sync_place, prot_place, call_place, policy_is_place, keyword_again, keyword_is, keyword_loud, keyword_some}

-- a volume's options
abbrev volume_front : List ℕ → List ℕ → ℕ → ℕ → List Token → List Token
volume_front site volume blocks mirrors ts = Key (codes "vol") ∷ Named [] site ∷ Named [] volume ∷ Number [] blocks ∷ Number (codes "mirrors=") mirrors ∷ ts

tail_faithful : (site volume : List ℕ) (blocks mirrors : ℕ) (layout : Layout)
    → Faithful (volume_tail site volume blocks mirrors layout) (λ ts. volume_front site volume blocks mirrors (layout_tokens layout ts))
unfolding volume_tail
tail_faithful site volume blocks mirrors layout = (log_place, λ log. (map_place, λ map. (policy_is_place, λ policy. refl)))

layout_faithful : (site volume : List ℕ) (blocks mirrors : ℕ) (word : LayoutWord)
    → Faithful (layout_format site volume blocks mirrors word) (λ ts. volume_front site volume blocks mirrors (Key (layout_text word) ∷ ts))
unfolding layout_format
layout_faithful site volume blocks mirrors IsConcat = tail_faithful site volume blocks mirrors Concat
layout_faithful site volume blocks mirrors IsStripe =
    (number_place (codes "ncol=") refl, λ columns. (number_place (codes "width=") refl, λ width. tail_faithful site volume blocks mirrors (Stripe columns width)))

call_faithful : (thread : ℕ) (verb : CallVerb) → Faithful (call_more thread verb) (λ ts. Key (codes "t") ∷ Number [] thread ∷ Key (call_text verb) ∷ ts)
unfolding call_more
call_faithful thread CallsWrite = (name_place [] refl, λ volume. (number_place [] refl, λ block. (number_place [] refl, λ count. (byte_place, λ fill. refl))))
call_faithful thread CallsRead = (name_place [] refl, λ volume. (number_place [] refl, λ block. refl))

site_tokens : (verb : SiteVerb) (a : List ℕ) → tokens (site_line verb a) ≡ one_site (site_text verb) a
site_tokens RawVerb a = refl
site_tokens RecoverVerb a = refl
site_tokens TakeoverVerb a = refl
site_tokens StatusVerb a = refl

number_tokens : (verb : NumberVerb) (a : List ℕ) (n : ℕ) → tokens (number_line verb a n) ≡ site_and_number (number_text verb) a n
number_tokens CrashVerb a n = refl
number_tokens ApplyVerb a n = refl
number_tokens WaitVerb a n = refl
number_tokens BurstVerb a n = refl

span_tokens : (verb : SpanVerb) (a b : List ℕ) (m n : ℕ) → tokens (span_line verb a b m n) ≡ block_run (span_text verb) a b m n
span_tokens ReadVerb a b m n = refl
span_tokens ShowVerb a b m n = refl

link_tokens : (verb : LinkVerb) (a b : List ℕ) (x : SyncMode) (y : Prot) → tokens (link_line verb a b x y) ≡ two_modes (link_text verb) a b x y
link_tokens SetLinkVerb a b x y = refl
link_tokens SetVerb a b x y = refl
link_tokens BunkerVerb a b x y = refl

pair_tokens : (verb : PairVerb) (a b : List ℕ) → tokens (pair_line verb a b) ≡ two_sites (pair_text verb) a b
pair_tokens AttachVerb a b = refl
pair_tokens DetachVerb a b = refl
pair_tokens PauseVerb a b = refl
pair_tokens ResumeVerb a b = refl
pair_tokens ConnectVerb a b = refl
pair_tokens CutVerb a b = refl
pair_tokens PumpVerb a b = refl
pair_tokens TickVerb a b = refl
pair_tokens SettleVerb a b = refl
pair_tokens ResyncVerb a b = refl
pair_tokens MigrateVerb a b = refl
pair_tokens FailbackVerb a b = refl
pair_tokens ActivateVerb a b = refl

group_tokens : (verb : GroupVerb) (a : List ℕ) → tokens (group_line verb a) ≡ site_word (codes "dg") a (group_text verb)
group_tokens InitVerb a = refl
group_tokens DeportVerb a = refl
group_tokens ImportVerb a = refl

plex_tokens : (verb : PlexVerb) (a b : List ℕ) (n : ℕ) → tokens (plex_line verb a b n) ≡ plex_word a b n (plex_text verb)
plex_tokens DetachPlex a b n = refl
plex_tokens AttachPlex a b n = refl

pub faithful : (k : Keyword) → Faithful (format_of k) (λ ts. Key (keyword_text k) ∷ ts)
unfolding site_format disk_format fuse_format group_format volume_format plex_format rvg_format write_format put_format deliver_format call_format end_format of_site_format of_number_format of_span_format of_link_format of_pair_format
faithful SiteKey = (name_place [] refl, λ site. (number_place [] refl, λ disks. (number_place [] refl, λ blocks. refl)))
faithful DiskKey = (name_place [] refl, λ site. (number_place [] refl, λ disk. (disk_state_place, λ state. refl)))
faithful FuseKey = (name_place [] refl, λ site. (number_place [] refl, λ writes. (number_place [] refl, λ bits. refl)))
faithful GroupKey = (name_place [] refl, λ site. (group_place, λ verb. group_tokens verb site))
faithful VolumeKey = (name_place [] refl, λ site. (name_place [] refl, λ volume. (number_place [] refl, λ blocks. (number_place (codes "mirrors=") refl, λ mirrors. (layout_place, λ word. layout_faithful site volume blocks mirrors word)))))
faithful PlexKey = (name_place [] refl, λ site. (name_place [] refl, λ volume. (number_place [] refl, λ plex. (plex_place, λ verb. plex_tokens verb site volume plex))))
faithful RvgKey = (name_place [] refl, λ site. (name_place (codes "srl=") refl, λ srl. (name_place (codes "dcm=") refl, λ dcm. (names_place (codes "vols=") refl, λ volumes. refl))))
faithful WriteKey = (name_place [] refl, λ site. (name_place [] refl, λ volume. (number_place [] refl, λ start. (number_place [] refl, λ count. (byte_place, λ fill. refl)))))
faithful PutKey = (name_place [] refl, λ site. (name_place [] refl, λ volume. (number_place [] refl, λ start. (block_place, λ bytes. refl))))
faithful DeliverKey = (number_place [] refl, λ packet. refl)
faithful CallKey = (number_place [] refl, λ thread. (call_place, λ verb. call_faithful thread verb))
faithful EndKey = refl
faithful (SiteKeys verb) = (name_place [] refl, λ site. site_tokens verb site)
faithful (NumberKeys verb) = (name_place [] refl, λ site. (number_place [] refl, λ n. number_tokens verb site n))
faithful (SpanKeys verb) = (name_place [] refl, λ site. (name_place [] refl, λ volume. (number_place [] refl, λ start. (number_place [] refl, λ count. span_tokens verb site volume start count))))
faithful (LinkKeys verb) = (name_place [] refl, λ first. (name_place [] refl, λ second. (sync_place, λ sync. (prot_place, λ prot. link_tokens verb first second sync prot))))
faithful (PairKeys verb) = (name_place [] refl, λ first. (name_place [] refl, λ second. pair_tokens verb first second))

-- the keyword of a line, and its other places
record Kind (line : ScriptLine) : Type 0 where
  keyword : Keyword
  places : List Token
  is : tokens line ≡ Key (keyword_text keyword) ∷ places
  reads : Reads (format_of keyword) places line

abbrev behind : List Token → List Token
behind [] = []
behind (t ∷ ts) = ts

kind : (line : ScriptLine) (k : Keyword) → tokens line ≡ Key (keyword_text k) ∷ behind (tokens line) → Reads (format_of k) (behind (tokens line)) line → Kind line
kind line k is reads = record { keyword = k; places = behind (tokens line); is = is; reads = reads }

kind_of : (line : ScriptLine) → Kind line
unfolding site_format disk_format fuse_format group_format volume_tail layout_format volume_format plex_format rvg_format write_format put_format deliver_format call_more call_format end_format of_site_format of_number_format of_span_format of_link_format of_pair_format
kind_of (Site a b c) = kind (Site a b c) SiteKey refl (a, refl, (b, refl, (c, refl, refl)))
kind_of (Raw a) = kind (Raw a) (SiteKeys RawVerb) refl (a, refl, refl)
kind_of (Recover a) = kind (Recover a) (SiteKeys RecoverVerb) refl (a, refl, refl)
kind_of (Takeover a) = kind (Takeover a) (SiteKeys TakeoverVerb) refl (a, refl, refl)
kind_of (Status a) = kind (Status a) (SiteKeys StatusVerb) refl (a, refl, refl)
kind_of (Disk a b c) = kind (Disk a b c) DiskKey refl (a, refl, (b, refl, (c, refl, refl)))
kind_of (Crash a b) = kind (Crash a b) (NumberKeys CrashVerb) refl (a, refl, (b, refl, refl))
kind_of (Apply a b) = kind (Apply a b) (NumberKeys ApplyVerb) refl (a, refl, (b, refl, refl))
kind_of (Wait a b) = kind (Wait a b) (NumberKeys WaitVerb) refl (a, refl, (b, refl, refl))
kind_of (Burst a b) = kind (Burst a b) (NumberKeys BurstVerb) refl (a, refl, (b, refl, refl))
kind_of (Fuse a b c) = kind (Fuse a b c) FuseKey refl (a, refl, (b, refl, (c, refl, refl)))
kind_of (GroupInit a) = kind (GroupInit a) GroupKey refl (a, refl, (InitVerb, refl, refl))
kind_of (GroupDeport a) = kind (GroupDeport a) GroupKey refl (a, refl, (DeportVerb, refl, refl))
kind_of (GroupImport a) = kind (GroupImport a) GroupKey refl (a, refl, (ImportVerb, refl, refl))
kind_of (Volume a b c d Concat e f g) = kind (Volume a b c d Concat e f g) VolumeKey refl (a, refl, (b, refl, (c, refl, (d, refl, (IsConcat, refl, (e, refl, (f, refl, (g, refl, refl))))))))
kind_of (Volume a b c d (Stripe m n) e f g) = kind (Volume a b c d (Stripe m n) e f g) VolumeKey refl (a, refl, (b, refl, (c, refl, (d, refl, (IsStripe, refl, (m, refl, (n, refl, (e, refl, (f, refl, (g, refl, refl))))))))))
kind_of (PlexDetach a b c) = kind (PlexDetach a b c) PlexKey refl (a, refl, (b, refl, (c, refl, (DetachPlex, refl, refl))))
kind_of (PlexAttach a b c) = kind (PlexAttach a b c) PlexKey refl (a, refl, (b, refl, (c, refl, (AttachPlex, refl, refl))))
kind_of (Rvg a b c d) = kind (Rvg a b c d) RvgKey refl (a, refl, (b, refl, (c, refl, (d, refl, refl))))
kind_of (Write a b c d e) = kind (Write a b c d e) WriteKey refl (a, refl, (b, refl, (c, refl, (d, refl, (e, refl, refl)))))
kind_of (Put a b c d) = kind (Put a b c d) PutKey refl (a, refl, (b, refl, (c, refl, (d, refl, refl))))
kind_of (Read a b c d) = kind (Read a b c d) (SpanKeys ReadVerb) refl (a, refl, (b, refl, (c, refl, (d, refl, refl))))
kind_of (Show a b c d) = kind (Show a b c d) (SpanKeys ShowVerb) refl (a, refl, (b, refl, (c, refl, (d, refl, refl))))
kind_of (Link a b c d) = kind (Link a b c d) (LinkKeys SetLinkVerb) refl (a, refl, (b, refl, (c, refl, (d, refl, refl))))
kind_of (Set a b c d) = kind (Set a b c d) (LinkKeys SetVerb) refl (a, refl, (b, refl, (c, refl, (d, refl, refl))))
kind_of (Bunker a b c d) = kind (Bunker a b c d) (LinkKeys BunkerVerb) refl (a, refl, (b, refl, (c, refl, (d, refl, refl))))
kind_of (Attach a b) = kind (Attach a b) (PairKeys AttachVerb) refl (a, refl, (b, refl, refl))
kind_of (Detach a b) = kind (Detach a b) (PairKeys DetachVerb) refl (a, refl, (b, refl, refl))
kind_of (Pause a b) = kind (Pause a b) (PairKeys PauseVerb) refl (a, refl, (b, refl, refl))
kind_of (Resume a b) = kind (Resume a b) (PairKeys ResumeVerb) refl (a, refl, (b, refl, refl))
kind_of (Connect a b) = kind (Connect a b) (PairKeys ConnectVerb) refl (a, refl, (b, refl, refl))
kind_of (Cut a b) = kind (Cut a b) (PairKeys CutVerb) refl (a, refl, (b, refl, refl))
kind_of (Pump a b) = kind (Pump a b) (PairKeys PumpVerb) refl (a, refl, (b, refl, refl))
kind_of (Tick a b) = kind (Tick a b) (PairKeys TickVerb) refl (a, refl, (b, refl, refl))
kind_of (Settle a b) = kind (Settle a b) (PairKeys SettleVerb) refl (a, refl, (b, refl, refl))
kind_of (Resync a b) = kind (Resync a b) (PairKeys ResyncVerb) refl (a, refl, (b, refl, refl))
kind_of (Migrate a b) = kind (Migrate a b) (PairKeys MigrateVerb) refl (a, refl, (b, refl, refl))
kind_of (Failback a b) = kind (Failback a b) (PairKeys FailbackVerb) refl (a, refl, (b, refl, refl))
kind_of (Activate a b) = kind (Activate a b) (PairKeys ActivateVerb) refl (a, refl, (b, refl, refl))
kind_of (Deliver a) = kind (Deliver a) DeliverKey refl (a, refl, refl)
kind_of (CallWrite a b c d e) = kind (CallWrite a b c d e) CallKey refl (a, refl, (CallsWrite, refl, (b, refl, (c, refl, (d, refl, (e, refl, refl))))))
kind_of (CallRead a b c) = kind (CallRead a b c) CallKey refl (a, refl, (CallsRead, refl, (b, refl, (c, refl, refl))))
kind_of End = kind End EndKey refl refl

-- the first word, and what follows it
record Begun (key : List ℕ) (others : List Token) (bytes : List ℕ) : Type 0 where
  word : word_of (after_spaces bytes) ≡ key
  spelt : Spelt others (after_word (after_spaces bytes))

begun : (key : List ℕ) (others : List Token) (bytes : List ℕ) → SpellAll (Key key ∷ others) (words_of bytes) → Begun key others bytes
begun key others bytes is =
    let a = spell_cons (Key key) others (words_of bytes) is in
    let both = first_is bytes a.0 a.1 a.2 in
    record { word = both.0 ∙ a.3; spelt = record { all = subst (SpellAll others) (sym both.1) a.4 } }

at_word : (bytes key : List ℕ) → word_of (after_spaces bytes) ≡ key → line_after_spaces bytes ≡ line_by key (after_word (after_spaces bytes)) (length (after_spaces bytes))
unfolding line_after_spaces
at_word bytes key e = ap (λ (w : List ℕ). line_by w (after_word (after_spaces bytes)) (length (after_spaces bytes))) e

by_keyword : (k : Keyword) (rest : List ℕ) (left : ℕ) → line_by (keyword_text k) rest left ≡ some_line (read_by (format_of k) rest)
unfolding line_by
by_keyword k rest left =
    ap (λ (t : Bool). cond t (Ok None) (line_of_keyword (keyword_of (keyword_text k)) rest left)) (keyword_loud k)
    ∙ ap (λ (o : Option Keyword). line_of_keyword o rest left) (keyword_again k)

-- what is in the grammar is read
pub line_only : (bytes : List ℕ) (line : ScriptLine) → IsLine bytes line → line_after_spaces bytes ≡ Ok (Some line)
line_only bytes line is =
    let k = kind_of line in
    let b = begun (keyword_text k.keyword) k.places bytes (subst (λ (ts : List Token). SpellAll ts (words_of bytes)) k.is is) in
    at_word bytes (keyword_text k.keyword) b.word
    ∙ by_keyword k.keyword (after_word (after_spaces bytes)) (length (after_spaces bytes))
    ∙ ap some_line (read_only (format_of k.keyword) (λ ts. Key (keyword_text k.keyword) ∷ ts) k.places line (after_word (after_spaces bytes)) (faithful k.keyword) k.reads b.spelt)

pub some_is : (r : WordReading ScriptLine) (line : ScriptLine) → some_line r ≡ Ok (Some line) → r ≡ Ok line
some_is (Ok l) line e = let same : l ≡ line = cc in ap (λ (k : ScriptLine). Ok k) same
some_is (Err left) line e = absurd (cc)

by_some : (o : Option Keyword) (rest : List ℕ) (left : ℕ) (line : ScriptLine) → line_of_keyword o rest left ≡ Ok (Some line) → (k : Keyword) × (o ≡ Some k) × (read_by (format_of k) rest ≡ Ok line)
by_some None rest left line e = absurd (cc)
by_some (Some k) rest left line e = (k, refl, some_is (read_by (format_of k) rest) line e)

silent : (t : Bool) (others : WordReading (Option ScriptLine)) (line : ScriptLine) → cond t (Ok None) others ≡ Ok (Some line) → others ≡ Ok (Some line)
silent true others line e = absurd (cc)
silent false others line e = e

-- what was read is in the grammar
pub line_found : (bytes : List ℕ) (line : ScriptLine) → line_after_spaces bytes ≡ Ok (Some line) → IsLine bytes line
unfolding line_after_spaces line_by
line_found bytes line e =
    let word : List ℕ = word_of (after_spaces bytes) in
    let rest : List ℕ = after_word (after_spaces bytes) in
    let left : ℕ = length (after_spaces bytes) in
    let a = by_some (keyword_of word) rest left line (silent (is_silent word) (line_of_keyword (keyword_of word) rest left) line e) in
    let found = read_found (format_of a.0) (λ ts. Key (keyword_text a.0) ∷ ts) line rest (faithful a.0) a.2 in
    subst (λ (ts : List Token). SpellAll ts (words_of bytes)) (sym found.is)
    (subst (SpellAll (Key (keyword_text a.0) ∷ found.places)) (sym (first_found bytes (keyword_text a.0) (keyword_is word a.0 a.1) (keyword_some a.0))) (refl, found.spelt.all))
