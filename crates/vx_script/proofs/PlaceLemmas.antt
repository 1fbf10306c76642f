-- The laws of the places that take one of a few words or digits, and of the keywords.
use Rattle.std.proofs.Common.{◌≡◌, ℕ, zero, suc, ◌<◌, Bool, true, false, not, cond, List, [], ◌∷◌, length, replicate, Option, Some, None, Result, Ok, Err, refl, arith, ap, sym, subst, ◌∙◌, ⊎_elim}
use Rattle.std.proofs.lemmas.Bool.{and_parts, cases_Bool, not-true}
use Rattle.std.proofs.lemmas.Option.{same_Some}
use Rattle.std.specs.Prelude.{codes}
use Rattle.std.specs.List.{list_all, find}
use Rattle.std.specs.Str.{bytes_eq}
use Rattle.std.proofs.lemmas.Slice.Eq.{bytes_eq-Decides}
use Rattle.hex.specs.Hex.{decode_sized, encode_lower, IsBytes}
use Rattle.hex.proofs.OnLiterals.{hex_on_literals}
use Rattle.vx_script.proofs.SpellLemmas.{hex_again, hex_visible}
use Rattle.hex.specs.declared.error.FromHexError.{FromHexError}
use Rattle.vx_model.specs.declared.link.SyncMode.{SyncMode}
use Rattle.vx_model.specs.declared.link.SyncMode.TheVariants.{Off as SyncOff, Override as SyncOverride, Fail as SyncFail}
use Rattle.vx_model.specs.declared.link.Prot.{Prot}
use Rattle.vx_model.specs.declared.link.Prot.TheVariants.{Off as ProtOff, Override as ProtOverride, Fail as ProtFail, Dcm as ProtDcm, Autodcm as ProtAutodcm}
use Rattle.vx_script.specs.Words.{labelled, word_number, only_byte, decoded, byte_of, block_word}
use Rattle.vx_script.specs.Tokens.{Spells}
use Rattle.vx_script.specs.Keywords.{keyword_text, keyword_of, pick_of}
use Rattle.vx_script.specs.Choices.{disk_state_text, group_text, plex_text, layout_text, log_text, map_text, sync_text, prot_text, call_text}
use Rattle.vx_script.specs.Formats.{pick, byte, a_block, policy_of, policy_token, policy_place, preferred_policy}
use Rattle.vx_script.specs.Grammar.{is_silent}
use Rattle.vx_script.specs.declared.keyword.TheConstants.{KEYWORDS}
use Rattle.vx_script.specs.declared.choice.TheConstants.{DISK_STATES, GROUP_VERBS, PLEX_VERBS, LAYOUT_WORDS, VOLUME_LOGS, VOLUME_MAPS, SYNC_MODES, PROTS, CALL_VERBS}
use Rattle.vx_script.specs.declared.keyword.Keyword.{Keyword}
use Rattle.vx_script.specs.declared.keyword.Keyword.TheVariants.{Site, Disk, Fuse, Group, Volume, Plex, Rvg, Write, Put, Deliver, Call, End, OfSite, OfNumber, OfSpan, OfLink, OfPair}
use Rattle.vx_script.specs.declared.line.ReadPolicy.{ReadPolicy}
use Rattle.vx_script.specs.declared.line.ReadPolicy.TheVariants.{Round, Prefer}
use Rattle.vx_script.specs.declared.line.DiskState.{DiskState}
use Rattle.vx_script.specs.declared.line.DiskState.TheVariants.{Fail, Work}
use Rattle.vx_script.specs.declared.line.VolumeLog.{VolumeLog}
use Rattle.vx_script.specs.declared.line.VolumeLog.TheVariants.{NoLog, Drl}
use Rattle.vx_script.specs.declared.line.VolumeMap.{VolumeMap}
use Rattle.vx_script.specs.declared.line.VolumeMap.TheVariants.{NoMap, Fmr}
use Rattle.vx_script.specs.declared.choice.GroupVerb.{GroupVerb}
use Rattle.vx_script.specs.declared.choice.GroupVerb.TheVariants.{Init, Deport, Import}
use Rattle.vx_script.specs.declared.choice.PlexVerb.{PlexVerb}
use Rattle.vx_script.specs.declared.choice.PlexVerb.TheVariants.{Detach as DetachPlex, Attach as AttachPlex}
use Rattle.vx_script.specs.declared.choice.LayoutWord.{LayoutWord}
use Rattle.vx_script.specs.declared.choice.LayoutWord.TheVariants.{IsConcat, IsStripe}
use Rattle.vx_script.specs.declared.choice.CallVerb.{CallVerb}
use Rattle.vx_script.specs.declared.choice.CallVerb.TheVariants.{CallsWrite, CallsRead}
use Rattle.vx_script.specs.declared.keyword.SiteVerb.TheVariants.{Raw, Recover, Takeover, Status}
use Rattle.vx_script.specs.declared.keyword.NumberVerb.TheVariants.{Crash, Apply, Wait, Burst}
use Rattle.vx_script.specs.declared.keyword.SpanVerb.TheVariants.{Read, Show}
use Rattle.vx_script.specs.declared.keyword.LinkVerb.TheVariants.{Link, Set, Bunker}
use Rattle.vx_script.specs.declared.keyword.PairVerb.TheVariants.{Attach, Detach, Pause, Resume, Connect, Cut, Pump, Tick, Settle, Resync, Migrate, Failback, Activate}
use Rattle.vx_script.proofs.FormatLemmas.{IsPlace, pick_place, picked, labelled_empty, no_number}

disk_state_again : (x : DiskState) → pick_of disk_state_text DISK_STATES (disk_state_text x) ≡ Some x
disk_state_again Fail = refl
disk_state_again Work = refl

pub disk_state_place : IsPlace (pick disk_state_text DISK_STATES)
disk_state_place = pick_place disk_state_text DISK_STATES Fail disk_state_again refl refl

group_again : (x : GroupVerb) → pick_of group_text GROUP_VERBS (group_text x) ≡ Some x
group_again Init = refl
group_again Deport = refl
group_again Import = refl

pub group_place : IsPlace (pick group_text GROUP_VERBS)
group_place = pick_place group_text GROUP_VERBS Init group_again refl refl

plex_again : (x : PlexVerb) → pick_of plex_text PLEX_VERBS (plex_text x) ≡ Some x
plex_again DetachPlex = refl
plex_again AttachPlex = refl

pub plex_place : IsPlace (pick plex_text PLEX_VERBS)
plex_place = pick_place plex_text PLEX_VERBS DetachPlex plex_again refl refl

layout_again : (x : LayoutWord) → pick_of layout_text LAYOUT_WORDS (layout_text x) ≡ Some x
layout_again IsConcat = refl
layout_again IsStripe = refl

pub layout_place : IsPlace (pick layout_text LAYOUT_WORDS)
layout_place = pick_place layout_text LAYOUT_WORDS IsConcat layout_again refl refl

log_again : (x : VolumeLog) → pick_of log_text VOLUME_LOGS (log_text x) ≡ Some x
log_again NoLog = refl
log_again Drl = refl

pub log_place : IsPlace (pick log_text VOLUME_LOGS)
log_place = pick_place log_text VOLUME_LOGS NoLog log_again refl refl

map_again : (x : VolumeMap) → pick_of map_text VOLUME_MAPS (map_text x) ≡ Some x
map_again NoMap = refl
map_again Fmr = refl

pub map_place : IsPlace (pick map_text VOLUME_MAPS)
map_place = pick_place map_text VOLUME_MAPS NoMap map_again refl refl

sync_again : (x : SyncMode) → pick_of sync_text SYNC_MODES (sync_text x) ≡ Some x
sync_again SyncOff = refl
sync_again SyncOverride = refl
sync_again SyncFail = refl

pub sync_place : IsPlace (pick sync_text SYNC_MODES)
sync_place = pick_place sync_text SYNC_MODES SyncOff sync_again refl refl

prot_again : (x : Prot) → pick_of prot_text PROTS (prot_text x) ≡ Some x
prot_again ProtOff = refl
prot_again ProtOverride = refl
prot_again ProtFail = refl
prot_again ProtDcm = refl
prot_again ProtAutodcm = refl

pub prot_place : IsPlace (pick prot_text PROTS)
prot_place = pick_place prot_text PROTS ProtOff prot_again refl refl

call_again : (x : CallVerb) → pick_of call_text CALL_VERBS (call_text x) ≡ Some x
call_again CallsWrite = refl
call_again CallsRead = refl

pub call_place : IsPlace (pick call_text CALL_VERBS)
call_place = pick_place call_text CALL_VERBS CallsWrite call_again refl refl

-- digits
only_byte_is : (r : Result (List ℕ) FromHexError) (b : ℕ) → only_byte r ≡ Some b → r ≡ Ok (b ∷ [])
only_byte_is (Ok []) b e = absurd (cc)
only_byte_is (Ok (c ∷ [])) b e = ap (λ (x : ℕ). Ok (x ∷ [])) (same_Some c b e)
only_byte_is (Ok (c ∷ d ∷ bytes)) b e = absurd (cc)
only_byte_is (Err x) b e = absurd (cc)

decoded_is : (r : Result (List ℕ) FromHexError) (bytes : List ℕ) → decoded r ≡ Some bytes → r ≡ Ok bytes
decoded_is (Ok x) bytes e = ap (λ (y : List ℕ). Ok y) (same_Some x bytes e)
decoded_is (Err x) bytes e = absurd (cc)

zero_byte : only_byte (decode_sized (codes "00") 1) ≡ Some 0
unfolding hex_on_literals
zero_byte = refl

pub byte_place : IsPlace byte
unfolding byte_of
byte_place = record { only = λ w x h. ap only_byte h; found = λ w x e. only_byte_is (decode_sized w 1) x e; empty = refl; sample = 0; word = codes "00"; fits = zero_byte; shown = refl }

-- the digits of zeros
unfoldable zeros : ℕ → List ℕ
zeros n = replicate n 0

zeros_bytes : (n : ℕ) → IsBytes (zeros n)
unfolding zeros
zeros_bytes zero i = omega arith
zeros_bytes (suc n) zero = omega arith
zeros_bytes (suc n) (suc i) = zeros_bytes n i

length_zeros : (n : ℕ) → length (zeros n) ≡ n
unfolding zeros
length_zeros zero = refl
length_zeros (suc n) = ap (λ (k : ℕ). suc k) (length_zeros n)

pub block_place : IsPlace a_block
unfolding block_word
block_place = record { only = λ w x h. ap decoded h; found = λ w x e. decoded_is (decode_sized w 512) x e; empty = refl; sample = zeros 512; word = encode_lower (zeros 512); fits = ap decoded (hex_again 512 (zeros 512) (length_zeros 512) (zeros_bytes 512)); shown = hex_visible (zeros 512) (zeros_bytes 512) }

pub keyword_again : (k : Keyword) → keyword_of (keyword_text k) ≡ Some k
unfolding keyword_of
keyword_again Site = refl
keyword_again Disk = refl
keyword_again Fuse = refl
keyword_again Group = refl
keyword_again Volume = refl
keyword_again Plex = refl
keyword_again Rvg = refl
keyword_again Write = refl
keyword_again Put = refl
keyword_again Deliver = refl
keyword_again Call = refl
keyword_again End = refl
keyword_again (OfSite Raw) = refl
keyword_again (OfSite Recover) = refl
keyword_again (OfSite Takeover) = refl
keyword_again (OfSite Status) = refl
keyword_again (OfNumber Crash) = refl
keyword_again (OfNumber Apply) = refl
keyword_again (OfNumber Wait) = refl
keyword_again (OfNumber Burst) = refl
keyword_again (OfSpan Read) = refl
keyword_again (OfSpan Show) = refl
keyword_again (OfLink Link) = refl
keyword_again (OfLink Set) = refl
keyword_again (OfLink Bunker) = refl
keyword_again (OfPair Attach) = refl
keyword_again (OfPair Detach) = refl
keyword_again (OfPair Pause) = refl
keyword_again (OfPair Resume) = refl
keyword_again (OfPair Connect) = refl
keyword_again (OfPair Cut) = refl
keyword_again (OfPair Pump) = refl
keyword_again (OfPair Tick) = refl
keyword_again (OfPair Settle) = refl
keyword_again (OfPair Resync) = refl
keyword_again (OfPair Migrate) = refl
keyword_again (OfPair Failback) = refl
keyword_again (OfPair Activate) = refl

pub keyword_is : (word : List ℕ) (k : Keyword) → keyword_of word ≡ Some k → word ≡ keyword_text k
unfolding keyword_of
keyword_is word k e = picked keyword_text KEYWORDS word k e

-- what is picked passes what all pass
passes : {V : Type 0} (p q : V → Bool) (all : List V) (x : V) → list_all q all ≡ true → find p all ≡ Some x → q x ≡ true
passes p q [] x all e = absurd (cc)
passes p q (v ∷ vs) x all e =
    let a = and_parts (q v) (list_all q vs) all in
    ⊎_elim
    (λ (t : p v ≡ true). subst (λ y. q y ≡ true) (same_Some v x (sym (ap (λ (b : Bool). cond b (Some v) (find p vs)) t) ∙ e)) a.0)
    (λ (t : p v ≡ false). passes p q vs x a.1 (sym (ap (λ (b : Bool). cond b (Some v) (find p vs)) t) ∙ e))
    (cases_Bool (p v))

abbrev is_loud : Keyword → Bool
is_loud k = not (is_silent (keyword_text k))

loud : (k : Keyword) → is_loud k ≡ true
unfolding keyword_of
loud k = passes (λ v. bytes_eq (keyword_text k) (keyword_text v)) is_loud KEYWORDS k refl (keyword_again k)

-- no keyword is empty or begins a comment
pub keyword_loud : (k : Keyword) → is_silent (keyword_text k) ≡ false
keyword_loud k = not-true (is_silent (keyword_text k)) (loud k)

some_byte : (word : List ℕ) → is_silent word ≡ false → 0 < length word
some_byte [] e = absurd (cc)
some_byte (b ∷ bytes) e = omega arith

pub keyword_some : (k : Keyword) → 0 < length (keyword_text k)
keyword_some k = some_byte (keyword_text k) (keyword_loud k)

-- the reading policy
preferred_is : (o : Option ℕ) (x : ReadPolicy) → preferred_policy o ≡ Some x → (n : ℕ) × (o ≡ Some n) × (x ≡ Prefer n)
preferred_is None x e = absurd (cc)
preferred_is (Some n) x e = (n, refl, sym (same_Some (Prefer n) x e))

round_no_prefer : labelled (codes "rdpol=prefer:") word_number (codes "rdpol=round") ≡ None
unfolding labelled
round_no_prefer = refl

policy_only : (word : List ℕ) (x : ReadPolicy) → Spells (policy_token x) word → policy_of word ≡ Some x
unfolding policy_of
policy_only word Round h = ap policy_of h
policy_only word (Prefer n) h =
    ⊎_elim
    (λ (t : bytes_eq word (codes "rdpol=round") ≡ true). let e : None ≡ Some n = sym round_no_prefer ∙ sym (ap (labelled (codes "rdpol=prefer:") word_number) ((bytes_eq-Decides word (codes "rdpol=round")).0 t)) ∙ h in absurd (cc))
    (λ (t : bytes_eq word (codes "rdpol=round") ≡ false). ap (λ (b : Bool). cond b (Some Round) (preferred_policy (labelled (codes "rdpol=prefer:") word_number word))) t ∙ ap preferred_policy h)
    (cases_Bool (bytes_eq word (codes "rdpol=round")))

policy_found : (word : List ℕ) (x : ReadPolicy) → policy_of word ≡ Some x → Spells (policy_token x) word
unfolding policy_of
policy_found word x e =
    ⊎_elim
    (λ (t : bytes_eq word (codes "rdpol=round") ≡ true).
    let same : Round ≡ x = same_Some Round x (sym (ap (λ (b : Bool). cond b (Some Round) (preferred_policy (labelled (codes "rdpol=prefer:") word_number word))) t) ∙ e) in
    subst (λ (y : ReadPolicy). Spells (policy_token y) word) same ((bytes_eq-Decides word (codes "rdpol=round")).0 t))
    (λ (t : bytes_eq word (codes "rdpol=round") ≡ false).
    let a = preferred_is (labelled (codes "rdpol=prefer:") word_number word) x (sym (ap (λ (b : Bool). cond b (Some Round) (preferred_policy (labelled (codes "rdpol=prefer:") word_number word))) t) ∙ e) in
    subst (λ (y : ReadPolicy). Spells (policy_token y) word) (sym a.2) a.1)
    (cases_Bool (bytes_eq word (codes "rdpol=round")))

policy_empty : policy_of [] ≡ None
unfolding policy_of
policy_empty = ap preferred_policy (labelled_empty (codes "rdpol=prefer:") word_number no_number)

policy_round : policy_of (codes "rdpol=round") ≡ Some Round
unfolding policy_of
policy_round = refl

pub policy_is_place : IsPlace policy_place
policy_is_place = record {
  only = policy_only;
  found = policy_found;
  empty = policy_empty;
  sample = Round;
  word = codes "rdpol=round";
  fits = policy_round;
  shown = refl;
}
