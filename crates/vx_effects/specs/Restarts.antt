-- The links that a site comes up with, by what the header of its log keeps of them.
use Rattle.std.specs.Prelude.{◌≡◌, ℕ, ◌+◌, Bool, true, false, not, ◌&&◌, eqb, ltb, List, [], ◌∷◌, Some}
use Rattle.std.specs.List.{list_any}
use Rattle.vx_history.specs.KeptLinks.{kept_link}
use Rattle.vx_history.specs.LinkForms.{plain_link}
use Rattle.vx_history.specs.Sends.{is_linked}
use Rattle.vx_history.specs.World.{Link, Node, no_link, no_regions, updated}
use Rattle.vx_model.specs.declared.link.Link.{Link as PlainLink}
use Rattle.vx_model.specs.declared.link.Mode.{Mode}
use Rattle.vx_model.specs.declared.link.Mode.TheVariants as mode
use Rattle.vx_model.specs.declared.link.Prot.{Prot}
use Rattle.vx_model.specs.declared.link.Prot.TheVariants.{Off, Override, Fail, Dcm as MapIfCut, Autodcm}
use Rattle.vx_model.specs.declared.state.KeptLink.{KeptLink}
use Rattle.vx_model.specs.declared.state.KeptMode.{KeptMode}
use Rattle.vx_model.specs.declared.state.KeptMode.TheVariants.{Log, Dcm, Replay, Fork, Stale}
use Rattle.vx_order.specs.declared.facts.LinkFacts.{LinkFacts}
use Rattle.vx_events.specs.LinkedFacts.{needed_by}

-- a link by the log or by a map goes by it again, a replay falls back to its map, and a fork map is gathered from its beginning
abbrev pub mode_again : KeptMode → Mode
mode_again Log = mode.Log
mode_again Dcm = mode.Dcm
mode_again Replay = mode.Dcm
mode_again Fork = mode.Fork 0
mode_again Stale = mode.Stale

-- the link in memory: what was stored counts as acknowledged and as sent
abbrev pub link_again : KeptLink → PlainLink
link_again l = record {
  site = l.site;
  bunker = l.bunker;
  attached = l.attached;
  connected = false;
  paused = false;
  sync = l.sync;
  prot = l.prot;
  session = 0;
  net = l.stored;
  stored = l.stored;
  sent = l.stored;
  trimmed = 0;
  mode = mode_again l.mode;
}

abbrev pub fact_again : KeptLink → (used : ℕ) → LinkFacts
fact_again l used = record { link = link_again l; used = used }

-- these links, each with the blocks that it needs
abbrev pub facts_again : List KeptLink → List ℕ → List LinkFacts
facts_again [] used = []
facts_again (l ∷ ls) [] = []
facts_again (l ∷ ls) (u ∷ us) = fact_again l u ∷ facts_again ls us

abbrev pub is_failing_prot : Prot → Bool
is_failing_prot Off = false
is_failing_prot Override = false
is_failing_prot Fail = true
is_failing_prot MapIfCut = false
is_failing_prot Autodcm = false

abbrev pub is_plain_kept : KeptMode → Bool
is_plain_kept Log = true
is_plain_kept Dcm = false
is_plain_kept Replay = false
is_plain_kept Fork = false
is_plain_kept Stale = true

-- a link that site p may keep among so many sites
abbrev pub is_fine : (p sites : ℕ) → KeptLink → Bool
is_fine p sites l =
    is_failing_prot l.prot && (is_plain_kept l.mode && (not l.bunker && (eqb l.start 0 && (not (eqb l.site p) && ltb l.site sites))))

abbrev pub leads_there : (site : ℕ) → KeptLink → Bool
leads_there s l = eqb l.site s

-- these are links that site p may keep, none of them twice
abbrev pub are_fine : (p sites : ℕ) → List KeptLink → Bool
are_fine p sites [] = true
are_fine p sites (l ∷ ls) = is_fine p sites l && (not (list_any (leads_there l.site) ls) && are_fine p sites ls)

-- the world's link, in this place among those of its site
abbrev pub link_found : (place : ℕ) → KeptLink → Link
link_found place l = record {
  made = Some place;
  bunker = l.bunker;
  attached = l.attached;
  connected = false;
  paused = false;
  sync = l.sync;
  prot = l.prot;
  session = 0;
  net = l.stored;
  stored = l.stored;
  sent = l.stored;
  trimmed = 0;
  mode = mode_again l.mode;
  map = no_regions;
  since = no_regions;
}

-- a row with these links behind those that it has, so many
abbrev pub row_with : (row : ℕ → Link) → (place : ℕ) → List KeptLink → ℕ → Link
row_with row place [] = row
row_with row place (l ∷ ls) = row_with (updated row l.site (link_found place l)) (place + 1) ls

-- the row of these links
abbrev pub row_of_kept : List KeptLink → ℕ → Link
row_of_kept ls = row_with (λ s. no_link) 0 ls

-- each link of the row shows in memory as a header keeps it
abbrev pub IsAgain : (row : ℕ → Link) → Type 0
IsAgain row = (k : ℕ) → is_linked (row k) ≡ true → plain_link k (row k) ≡ link_again (kept_link k (row k))

-- the blocks that the links of a row need, in the order of their making
abbrev pub needs_of : Node → (row : ℕ → Link) → List ℕ → List ℕ
needs_of n row [] = []
needs_of n row (s ∷ ss) = needed_by n s (row s) ∷ needs_of n row ss
