-- No line takes back that a world may have strayed. One strays where what came up was found on disks of which nothing was known, as a replicated volume group or as a
-- group of a site that had one.
use Rattle.std.proofs.Common.{◌≡◌, ◌∙◌, ◌⊎◌, inl, inr, ℕ, Bool, true, false, List, [], ◌∷◌, ◌++◌, Option, Some, None, ap, sym}
use Rattle.vx_model.specs.declared.no.No.{No}
use Rattle.vx_history.specs.Doubts.{Doubted}
use Rattle.vx_history.specs.Steps.{worked_on}
use Rattle.vx_history.specs.World.{Node, World}
use Rattle.vx_history.specs.declared.event.Event.{Event}
use Rattle.vx_history.specs.declared.event.Event.TheVariants.{Crash as CrashAt, Fault, Recover as RecoverAt, Fall as FallAt}
use Rattle.vx_script.specs.declared.line.ScriptLine.{ScriptLine}
use Rattle.vx_script.specs.declared.line.ScriptLine.TheVariants.{GroupDeport, GroupImport, PlexAttach, PlexDetach, Put, Read, Recover, Rvg, Show, Volume, Write}
use Rattle.vx_events.proofs.Straying.{run_strays, runs_strays}
use Rattle.vx_events.specs.Doubts.{IsAs}
use Rattle.vx_events.specs.Ends.{AllDone, DiskFails, Ends, FindsLinks, FindsNone, FromBare, FromDown, FromUp, FuseRunsOut, HeaderFails, NoNumber, Recovering, ShowsReceived, place_of as site_of}
use Rattle.vx_events.specs.Facts.{site_number}
use Rattle.vx_events.specs.Fails.{Fails}
use Rattle.vx_events.specs.GroupEnds.{FindsGroup, FindsNoGroup, GroupCut, GroupDone, GroupEnds, GroupFails, GroupLacks, GroupNotFound, ImportFails, InitFails, KeptUnread}
use Rattle.vx_events.specs.GroupLines.{crash_first, cut_events, fuse_lost, group_events, noting, refused_events, unread_events}
use Rattle.vx_events.specs.Lines.{EndsBy, is_of_links}
use Rattle.vx_events.specs.LinkEnds.{AppliesCut, AppliesPart, LinkEnds, LinksCut, LinksDone, LinksFind, LinksHalt, LogUnread, NoHeader}
use Rattle.vx_events.specs.LinkFinds.{ApplyCut, ApplyHalts, EndsBetween, FindsOther, GivesUp, HeaderCut, HeaderHalts, IsStored, IsUnread, KeepsOther, LosesOther, ReadsNone, SendsOther, SettlesOther, TakesOther}
use Rattle.vx_events.specs.LinkLists.{link_events}
use Rattle.vx_events.specs.Lists.{Choice, crash_count, events_of}
use Rattle.vx_events.specs.OpenLines.{is_open}
use Rattle.vx_events.specs.Parts.{PartLeft, ReadFirst, StopsBetween, StopsDown, StopsInPart, StopsRead, StopsShort}
use Rattle.vx_events.specs.RvgBack.{FindsLost, FindsNoRvg, FindsPlain, FindsRvg, GroupHeld, GroupUnfound, KeptLost, LogFails, LogLacks, RvgBack, RvgFinds, RvgUp, fall_first}
use Rattle.vx_events.specs.RvgMakes.{MakesRvg, RvgCut, RvgDone, RvgFails, RvgLacks, noting_in, units_at}
use Rattle.vx_events.specs.RvgNotes.{volume_events}
use Rattle.vx_events.specs.GroupNotes.{IsKnown, note_at}
use Rattle.vx_order.specs.Calls.{is_data}
use Rattle.vx_events.proofs.ReadsLeave.{read_by}
use Rattle.vx_events.proofs.WritesBelow.{write_by}
use Rattle.vx_events.specs.RvgOver.{AsGroup, BelowEnds, CutBelow, EndsBelow, EndsOver, OverRvg, kind_named, missed_world}
use Rattle.vx_events.specs.RvgParts.{RvgShort, ShortFull, ShortGroup, ShortLog, ShortMade, short_place}
use Rattle.vx_events.specs.RvgSteps.{AsBefore, FoundOne, FullBy, StepFull, WorksAbove, WorksBeside, WorksFull, is_for_rvg, rvg_place}
use Rattle.vx_events.specs.StepsOver.{WorksOver, group_place, is_for_group, refused_over}
use Rattle.vx_events.specs.declared.said.Said.{Said}
use Rattle.vx_events.specs.RvgTakes.{RvgTaken, TakeFails, TakeLacks, TakeCut, TakeOff, TakeUnfound, TakeHeld, RvgTakes}

-- one world has strayed where the other has
abbrev pub StraysAs : (d new : Doubted) → Type 0
StraysAs d new = new.strayed ≡ d.strayed

-- ---- lines of sites

recovering_strays : (d : Doubted) (s : ℕ) (c : Choice) (taken : Bool) (mid : Doubted) (n : Node) → Recovering d s c taken mid n → StraysAs d mid
recovering_strays d s c taken mid n (FromUp up is node) = ap (λ (x : Doubted). x.strayed) is ∙ run_strays taken d (CrashAt s (crash_count (d.world.nodes s) c.kept) ∷ [])
recovering_strays d s c taken mid n (FromDown down is node) = ap (λ (x : Doubted). x.strayed) is
recovering_strays d s c taken mid n (FromBare bare is node) = ap (λ (x : Doubted). x.strayed) is

pub site_strays : (told : Type 0) (d : Doubted) (line : ScriptLine) (s : ℕ) (fails : Fails) (said : Said) (new : Doubted) → Ends told d line s fails said new → StraysAs d new
site_strays told d line s fails said new (AllDone c taken borne says left) = left.strayed ∙ run_strays taken d (events_of d.world line c)
site_strays told d line s fails said new (DiskFails c taken before e rest events disk split leaves names one says left) = left.strayed ∙ run_strays taken d (before ++ events)
site_strays told d line s fails said new (HeaderFails c e f disk is leaves writes one says left) = left.strayed
site_strays told d line s fails said new (FuseRunsOut c e begun is begins keeps fused none says left) = left.strayed ∙ run_strays false d (begun ++ CrashAt s c.kept ∷ [])
site_strays told d line s fails said new (NoNumber c taken before e rest split lacks most none says left) = left.strayed ∙ run_strays taken d before
site_strays told d line s fails said new (ShowsReceived site volume start count is role gives borne left) = left.strayed
site_strays told d line s fails said new (FindsLinks untold c taken site mid n k row is from comes borne says left) = left.strayed ∙ recovering_strays d s c taken mid n from
site_strays told d line s fails said new (FindsNone untold c taken site mid n why is from other none says left) = left.strayed ∙ recovering_strays d s c taken mid n from

-- ---- lines of links

between_strays : (p s : ℕ) (d middle : Doubted) (fails : Fails) (said : Said) (last : Doubted) → EndsBetween p s d middle fails said last → StraysAs middle last
between_strays p s d middle fails said last (IsStored stored none says is) = ap (λ (x : Doubted). x.strayed) is
between_strays p s d middle fails said last (GivesUp why up none says is) = ap (λ (x : Doubted). x.strayed) is
between_strays p s d middle fails said last (IsUnread disk sends names one says is) = ap (λ (x : Doubted). x.strayed) is
between_strays p s d middle fails said last (HeaderHalts number disk opens writes names one says is) = ap (λ (x : Doubted). x.strayed) is
between_strays p s d middle fails said last (ApplyHalts disk opens names one says is) = ap (λ (x : Doubted). x.strayed) is
between_strays p s d middle fails said last (HeaderCut number kept taken opens writes fused none says is) = ap (λ (x : Doubted). x.strayed) is
between_strays p s d middle fails said last (ApplyCut kept taken opens fused none says is) = ap (λ (x : Doubted). x.strayed) is

other_strays : (d : Doubted) (line : ScriptLine) (fails : Fails) (said : Said) (last : Doubted) → FindsOther d line fails said last → StraysAs d last
other_strays d line fails said last (SendsOther p s more line_is sends none says is) = ap (λ (x : Doubted). x.strayed) is
other_strays d line fails said last (ReadsNone p s why line_is unread none says is) = ap (λ (x : Doubted). x.strayed) is
other_strays d line fails said last (TakesOther number q x line_is may none says is) = ap (λ (x : Doubted). x.strayed) is
other_strays d line fails said last (KeepsOther number q line_is may none says is) = ap (λ (x : Doubted). x.strayed) is
other_strays d line fails said last (LosesOther number q line_is may none says is) = ap (λ (x : Doubted). x.strayed) is
other_strays d line fails said last (SettlesOther p s middle line_is moves ends) =
    between_strays (site_number d.world p) (site_number d.world s) d middle fails said last ends ∙ moves.strayed

pub link_strays : (told : Type 0) (d : Doubted) (line : ScriptLine) (fails : Fails) (said : Said) (new : Doubted) → LinkEnds told d line fails said new → StraysAs d new
link_strays told d line fails said new (LinksDone last runs none failed says left) = left.strayed ∙ runs_strays (link_events d.world line) d last runs
link_strays told d line fails said new (LinksHalt e site disk middle comes names one says left) = left.strayed ∙ runs_strays comes.before d middle comes.runs
link_strays told d line fails said new (AppliesPart before rest site count reached disk last split runs none names one says left) =
    left.strayed ∙ runs_strays (before ++ Fault site disk ∷ []) d last runs
link_strays told d line fails said new (AppliesCut before rest site count reached kept taken middle split runs none most opens fused failed says left) = left.strayed ∙ runs_strays before d middle runs
link_strays told d line fails said new (LinksCut e site kept taken middle comes fused none says left) = left.strayed ∙ runs_strays comes.before d middle comes.runs
link_strays told d line fails said new (LogUnread before rest e site disk middle split reads runs none names one says left) = left.strayed ∙ runs_strays before d middle runs
link_strays told d line fails said new (NoHeader before rest e site middle split takes runs none most failed says left) = left.strayed ∙ runs_strays before d middle runs
link_strays told d line fails said new (LinksFind untold last finds left) = left.strayed ∙ other_strays d line fails said last finds

kind_strays : (links : Bool) (told : Type 0) (d : Doubted) (line : ScriptLine) (fails : Fails) (said : Said) (new : Doubted) → EndsBy links told d line fails said new → StraysAs d new
kind_strays true told d line fails said new ends = link_strays told d line fails said new ends
kind_strays false told d line fails said new ends = site_strays told d line (site_of d.world line) fails said new ends

-- ---- lines of groups

pub group_strays : (told : Type 0) (d : Doubted) (line : ScriptLine) (s : ℕ) (fails : Fails) (said : Said) (new : Doubted) → GroupEnds told d line s fails said new → StraysAs d new
group_strays told d line s fails said new (GroupDone next are does left) = left.strayed ∙ run_strays false d (group_events (d.world.nodes s) s line)
group_strays told d line s fails said new (GroupLacks why wants none says left) = left.strayed
group_strays told d line s fails said new (GroupFails disk next are has spoils says left) = left.strayed ∙ run_strays false d (refused_events (d.world.nodes s) s line)
group_strays told d line s fails said new (InitFails disk site is are has says left) = left.strayed
group_strays told d line s fails said new (ImportFails why next site is are refuses begun says left) = left.strayed
group_strays told d line s fails said new (KeptUnread disk next site is are has back says left) = left.strayed ∙ run_strays false d (unread_events (d.world.nodes s) s)
group_strays told d line s fails said new (GroupCut next are fused cuts says left) = left.strayed ∙ run_strays false d (cut_events s line)
group_strays told d line s fails said new (GroupNotFound why next are brings not leaves says left) = left.strayed ∙ run_strays false d (refused_events (d.world.nodes s) s line)
group_strays told d line s fails said new (FindsGroup next are brings unknown dark says left) = left.strayed ∙ run_strays false d (group_events (d.world.nodes s) s line)
group_strays told d line s fails said new (FindsNoGroup next why are brings unknown device refused says left) = left.strayed ∙ run_strays false d (refused_events (d.world.nodes s) s line)

over_strays : (group : Bool) (told : Type 0) (d : Doubted) (line : ScriptLine) (fails : Fails) (said : Said) (new : Doubted) → WorksOver group told d line fails said new → StraysAs d new
over_strays true told d line fails said new ends = group_strays told d line (group_place d.world line) fails said new ends
over_strays false told d line fails said new (inl step) = kind_strays (is_of_links line) told d line fails said new step.ends
over_strays false told d line fails said new (inr kept) = group_strays told d line (group_place d.world line) fails said new kept.ends

-- ---- replicated volume groups over groups

making_strays : (told : Type 0) (d : Doubted) (line : ScriptLine) (s : ℕ) (fails : Fails) (said : Said) (new : Doubted) → MakesRvg told d line s fails said new → StraysAs d new
making_strays told d line s fails said new (RvgDone site srl maps volumes middle next is are x says left) =
    left.strayed ∙ run_strays false (noting_in d s middle) (volume_events (note_at (d.world.nodes s)) s (units_at d s srl maps volumes))
making_strays told d line s fails said new (RvgLacks site srl maps volumes next is are x says left) = left.strayed
making_strays told d line s fails said new (RvgFails site srl maps volumes disk next is are has x says left) = left.strayed
making_strays told d line s fails said new (RvgCut site srl maps volumes next is are fused x says left) = left.strayed ∙ run_strays false d (CrashAt s 0 ∷ [])

pub back_strays : (told : Type 0) (d : Doubted) (line : ScriptLine) (s : ℕ) (fails : Fails) (said : Said) (new : Doubted) → RvgBack told d line s fails said new → StraysAs d new
back_strays told d line s fails said new (RvgUp site kept taken middle next shown has is are back keeps works says shows left) =
    left.strayed ∙ run_strays taken d (fall_first (d.world.nodes s).state s kept ++ RecoverAt s None ∷ [])
back_strays told d line s fails said new (LogFails site kept taken disk middle next begun has is are failed back keeps works begins says left) =
    left.strayed ∙ run_strays taken d (fall_first (d.world.nodes s).state s kept ++ begun)
back_strays told d line s fails said new (LogLacks site kept taken middle next has is are back keeps works lacks says left) =
    left.strayed ∙ run_strays taken d (fall_first (d.world.nodes s).state s kept)
back_strays told d line s fails said new (KeptLost site kept taken disk middle next has cut is are failed back keeps works says left) =
    left.strayed ∙ run_strays taken d (fall_first (d.world.nodes s).state s kept ++ RecoverAt s None ∷ CrashAt s 0 ∷ [])
back_strays told d line s fails said new (GroupUnfound site kept taken lost why next has is are not leaves says left) =
    left.strayed ∙ run_strays taken d (fall_first (d.world.nodes s).state s kept)
back_strays told d line s fails said new (GroupHeld site kept taken lost disk next has is are failed notes says left) =
    left.strayed ∙ run_strays taken d (fall_first (d.world.nodes s).state s kept)

takes_strays : (told : Type 0) (d : Doubted) (line : ScriptLine) (s : ℕ) (fails : Fails) (said : Said) (new : Doubted) → RvgTakes told d line s fails said new → StraysAs d new
takes_strays told d line s fails said new (RvgTaken site middle next has is are back keeps works says left) = left.strayed ∙ run_strays false d (RecoverAt s None ∷ [])
takes_strays told d line s fails said new (TakeFails site disk middle next events has is are failed back keeps works begun says left) = left.strayed ∙ run_strays false d events
takes_strays told d line s fails said new (TakeLacks site middle next has is are back keeps works lacks says left) = left.strayed
takes_strays told d line s fails said new (TakeCut site middle next events has is are fused back keeps works begun says left) = left.strayed ∙ run_strays false d (events ++ FallAt s ∷ [])
takes_strays told d line s fails said new (TakeOff site next has is are fused notes says left) = left.strayed ∙ run_strays false d (FallAt s ∷ [])
takes_strays told d line s fails said new (TakeUnfound site lost why next has is are not leaves says left) = left.strayed
takes_strays told d line s fails said new (TakeHeld site lost disk next has is are failed notes says left) = left.strayed

pub ends_over_strays : (told : Type 0) (d : Doubted) (line : ScriptLine) (s : ℕ) (fails : Fails) (said : Said) (new : Doubted) → EndsOver told d line s fails said new → StraysAs d new
ends_over_strays told d line s fails said new h =
    h.left.strayed ∙ site_strays (IsKnown told (note_at (d.world.nodes s))) d line (site_of d.world line) h.ending h.inner h.middle h.ends

-- one on the group alone
under_strays : (told : Type 0) (d : Doubted) (line : ScriptLine) (s : ℕ) (fails : Fails) (said : Said) (new : Doubted) → EndsBelow told d line s fails said new → StraysAs d new
under_strays told d line s fails said new (AsGroup ends) = group_strays told d line s fails said new ends
under_strays told d line s fails said new (CutBelow kept next are fused cuts says left) = left.strayed ∙ run_strays false d (CrashAt s (crash_count (d.world.nodes s) kept) ∷ [])

below_strays : (told : Type 0) (d : Doubted) (line : ScriptLine) (s : ℕ) (fails : Fails) (said : Said) (new : Doubted) → BelowEnds told d line s fails said new → StraysAs d new
below_strays told d line s fails said new h = h.left.strayed ∙ under_strays told (missed_world h.missed d s) line s fails said h.middle h.ends

-- ---- any line

module _ (told : Type 0) (d : Doubted) (fails : Fails) (said : Said) (new : Doubted) where
  -- it strayed no more than before, or found something else
  abbrev pub CalmOrFinds : ℕ → ScriptLine → Type 0
  CalmOrFinds s line = StraysAs d new ⊎ RvgFinds told d line s fails said new

  either_strays : (line : ScriptLine) (s : ℕ) → RvgBack told d line s fails said new ⊎ RvgFinds told d line s fails said new → CalmOrFinds s line
  either_strays line s (inl back) = inl (back_strays told d line s fails said new back)
  either_strays line s (inr finds) = inr finds

  takes_found : (line : ScriptLine) (s : ℕ) → RvgTakes told d line s fails said new ⊎ RvgFinds told d line s fails said new → CalmOrFinds s line
  takes_found line s (inl takes) = inl (takes_strays told d line s fails said new takes)
  takes_found line s (inr finds) = inr finds

  over_found : (line : ScriptLine) (s : ℕ) → OverRvg told d line s fails said new → CalmOrFinds s line
  over_found (GroupDeport site) s ends = inl (below_strays told d (GroupDeport site) s fails said new ends)
  over_found (Volume site volume blocks mirrors layout log map policy) s ends = inl (below_strays told d (Volume site volume blocks mirrors layout log map policy) s fails said new ends)
  over_found (PlexDetach site volume plex) s ends = inl (below_strays told d (PlexDetach site volume plex) s fails said new ends)
  over_found (PlexAttach site volume plex) s ends = inl (below_strays told d (PlexAttach site volume plex) s fails said new ends)
  over_found (GroupImport site) s ends = takes_found (GroupImport site) s ends
  over_found (Recover site) s ends = either_strays (Recover site) s ends
  over_found (Write site volume start count fill) s ends =
      write_by told d (Write site volume start count fill) s fails said new (CalmOrFinds s (Write site volume start count fill)) (λ it. inl (ends_over_strays told d (Write site volume start count fill) s fails said new it)) (λ below. inl (below_strays told d (Write site volume start count fill) s fails said new below)) (is_data (kind_named (d.world.nodes s) volume)) ends
  over_found (Put site volume start bytes) s ends =
      write_by told d (Put site volume start bytes) s fails said new (CalmOrFinds s (Put site volume start bytes)) (λ it. inl (ends_over_strays told d (Put site volume start bytes) s fails said new it)) (λ below. inl (below_strays told d (Put site volume start bytes) s fails said new below)) (is_data (kind_named (d.world.nodes s) volume)) ends
  over_found (Read site volume start count) s ends =
      read_by told d (Read site volume start count) volume start count s fails said new (CalmOrFinds s (Read site volume start count)) (λ it. inl (ends_over_strays told d (Read site volume start count) s fails said new it)) (λ left. inl left.strayed) (is_data (kind_named (d.world.nodes s) volume)) ends
  over_found (Show site volume start count) s ends =
      read_by told d (Show site volume start count) volume start count s fails said new (CalmOrFinds s (Show site volume start count)) (λ it. inl (ends_over_strays told d (Show site volume start count) s fails said new it)) (λ left. inl left.strayed) (is_data (kind_named (d.world.nodes s) volume)) ends
  over_found other s ends = inl (ends_over_strays told d other s fails said new ends)

  beside_found : (line : ScriptLine) → WorksBeside told d line fails said new → CalmOrFinds (group_place d.world line) line
  beside_found line (AsBefore works found) = inl (over_strays (is_for_group d.world line) told d line fails said new works)
  beside_found line (FoundOne finds) = inr finds

  -- at the site that it names
  abbrev pub CalmOrSome : ScriptLine → Type 0
  CalmOrSome line = StraysAs d new ⊎ ((s : ℕ) × RvgFinds told d line s fails said new)

  some_found : (line : ScriptLine) (s : ℕ) → CalmOrFinds s line → CalmOrSome line
  some_found line s (inl same) = inl same
  some_found line s (inr finds) = inr (s, finds)

  above_found : (halts above : Bool) (line : ScriptLine) → WorksAbove halts above told d line fails said new → CalmOrSome line
  above_found true above line ends = absurd ends
  above_found false true line ends = some_found line (rvg_place d.world line) (over_found line (rvg_place d.world line) ends)
  above_found false false line ends = some_found line (group_place d.world line) (beside_found line ends)

  full_found : (line : ScriptLine) → WorksFull told d line fails said new → CalmOrSome line
  full_found (Rvg site srl maps volumes) ends = inl (making_strays told d (Rvg site srl maps volumes) (site_number d.world site) fails said new ends)
  full_found other ends = above_found (is_open d.world other) (is_for_rvg d.world other) other ends

  by_found : (line : ScriptLine) (o : Option No) → FullBy o told d line fails said new → CalmOrSome line
  by_found line (Some why) step = inl (ap (λ (x : Doubted). x.strayed) step.stays)
  by_found line None step = full_found line step

pub step_found : (told : Type 0) (files : Bool) (d : Doubted) (line : ScriptLine) (fails : Fails) (said : Said) (new : Doubted) → StepFull told files d line fails said new
    → CalmOrSome told d fails said new line
step_found told files d line fails said new step = by_found told d fails said new line (refused_over d.world files line) step

-- ---- what has strayed

module _ (told : Type 0) (d : Doubted) (line : ScriptLine) (s : ℕ) (fails : Fails) (said : Said) (new : Doubted) where
  finds_calm : RvgFinds told d line s fails said new → new.strayed ≡ false → d.strayed ≡ false
  finds_calm (FindsRvg kept taken next mid n k row c units are brings unknown dark is same comes config fits lies says left) calm =
      absurd (let e : true ≡ false = sym left.strayed ∙ calm in cc)
  finds_calm (FindsLost site kept taken disk next mid n k row c units has cut is are failed unknown dark rests same comes config fits lies says left) calm =
      absurd (let e : true ≡ false = sym left.strayed ∙ calm in cc)
  finds_calm (FindsPlain kept taken next mid has are brings unknown dark is none says left) calm = absurd (let e : true ≡ false = sym left.strayed ∙ calm in cc)
  finds_calm (FindsNoRvg kept taken lost next why has are brings unknown device notes says left) calm =
      sym (left.strayed ∙ run_strays taken d (fall_first (d.world.nodes s).state s kept)) ∙ calm

module _ (told : Type 0) (files : Bool) (d : Doubted) (line : ScriptLine) (fails : Fails) (said : Said) (new : Doubted) (step : StepFull told files d line fails said new) where
  -- what has not strayed behind a line had not before it
  pub step_calm : new.strayed ≡ false → d.strayed ≡ false
  step_calm calm = by (step_found told files d line fails said new step)
    where
      by : CalmOrSome told d fails said new line → d.strayed ≡ false
      by (inl same) = sym same ∙ calm
      by (inr (s, finds)) = finds_calm told d line s fails said new finds calm

-- ---- want of memory

part_strays : (line : ScriptLine) (d : Doubted) (es : List Event) (new : Doubted) → PartLeft line d es new → StraysAs d new
part_strays line d [] new is = ap (λ (x : Doubted). x.strayed) is
part_strays line d (e ∷ es) new left = left.strayed ∙ run_strays false d (e ∷ es)

read_strays : (d : Doubted) (line : ScriptLine) (new : Doubted) → ReadFirst d line new → StraysAs d new
read_strays d line new read = by read.leads
  where
    s : ℕ
    s = group_place d.world line

    v : World
    v = noting d.world s read.next

    by : IsAs d (worked_on v s) new ⊎ IsAs d (fuse_lost v s) new → StraysAs d new
    by (inl left) = left.strayed
    by (inr left) = left.strayed

short_strays : (told : Type 0) (d : Doubted) (line : ScriptLine) (new : Doubted) → StopsShort told d line new → StraysAs d new
short_strays told d line new (StopsInPart part) = part_strays line d part.before new part.leads
short_strays told d line new (StopsDown fell) = fell.leads.strayed ∙ run_strays false d (crash_first (d.world.nodes (group_place d.world line)).state (group_place d.world line))
short_strays told d line new (StopsRead read) = read_strays d line new read
short_strays told d line new (StopsBetween untold p s middle is moves left) = left.strayed ∙ moves.strayed

rvg_short_strays : (told : Type 0) (d : Doubted) (line : ScriptLine) (s : ℕ) (new : Doubted) → RvgShort told d line s new → StraysAs d new
rvg_short_strays told d line s new (ShortGroup kept taken lost next has is notes left) = left.strayed ∙ run_strays taken d (fall_first (d.world.nodes s).state s kept)
rvg_short_strays told d line s new (ShortLog kept taken fails middle next has is are back keeps cut left) =
    left.strayed ∙ run_strays taken d (fall_first (d.world.nodes s).state s kept)
rvg_short_strays told d line s new (ShortMade site srl maps volumes fails next is are notes left) = left.strayed

pub full_short_strays : (told : Type 0) (d : Doubted) (line : ScriptLine) (new : Doubted) → ShortFull told d line new → StraysAs d new
full_short_strays told d line new (inl short) = short_strays told d line new short
full_short_strays told d line new (inr short) = rvg_short_strays told d line (short_place d.world line) new short
