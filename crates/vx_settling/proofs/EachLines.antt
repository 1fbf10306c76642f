-- What holds of what each site notes of its group, and of a site that notes none, no line changes that works on no group, where contents are told to it.
use Rattle.std.proofs.Common.{◌≡◌, ℕ, [], ◌∷◌, ◌++◌, Bool, true, false}
use Rattle.std.specs.Prelude.{Option, None}
use Rattle.vx_history.specs.Doubts.{Doubted, crashed_as, halved}
use Rattle.vx_history.specs.Groups.{GroupNode}
use Rattle.vx_history.specs.World.{World}
use Rattle.vx_history.specs.declared.event.Event.TheVariants.{Crash as CrashAt, Fault}
use Rattle.vx_script.specs.declared.line.ScriptLine.{ScriptLine}
use Rattle.vx_events.specs.Doubts.{run_as, with_disks}
use Rattle.vx_events.specs.Ends.{AllDone, DiskFails, Ends, FindsLinks, FindsNone, FuseRunsOut, HeaderFails, IsLeft, NoNumber, ShowsReceived, noted, place_of}
use Rattle.vx_events.specs.Fails.{Fails}
use Rattle.vx_events.specs.Lines.{EndsBy}
use Rattle.vx_events.specs.LinkEnds.{AppliesCut, AppliesPart, AreLeft, LinkEnds, LinksCut, LinksDone, LinksFind, LinksHalt, LogUnread, NoHeader, link_noted}
use Rattle.vx_events.specs.Lists.{events_of}
use Rattle.vx_events.specs.LinkLists.{link_events}
use Rattle.vx_events.specs.Brights.{AllNote}
use Rattle.vx_events.specs.declared.said.Said.{Said}
use Rattle.vx_settling.proofs.EachNote.{as_each, crashed_each, disks_each, halved_each, link_noted_each, noted_each, run_each, runs_each}

module _ (P : Option GroupNode → Type 0) (empty : P None) where
  left_each : (s : ℕ) (line : ScriptLine) (taken : Bool) (d last new : Doubted) → IsLeft s line taken d last new → AllNote P d → AllNote P last → AllNote P new
  left_each s line taken d last new left before b =
      let u : World = with_disks taken s d.world last.world in
      as_each P empty last (noted s line u) new left (noted_each P empty s line u (disks_each P empty taken s d.world last.world before.sites b.sites)) b

  -- ---- lines on no group

  pub ends_each : (told : Type 0) → told → (d : Doubted) (line : ScriptLine) (s : ℕ) (fails : Fails) (said : Said) (new : Doubted) → AllNote P d
      → Ends told d line s fails said new → AllNote P new
  ends_each told tells d line s fails said new b (AllDone c taken borne says left) =
      left_each s line taken d (run_as taken d (events_of d.world line c)) new left b (run_each P empty taken d (events_of d.world line c) b)
  ends_each told tells d line s fails said new b (DiskFails c taken before e rest leaves disk is led may failed says left) =
      left_each s line taken d (run_as taken d (before ++ leaves)) new left b (run_each P empty taken d (before ++ leaves) b)
  ends_each told tells d line s fails said new b (HeaderFails c e f disk is leaves writes failed says left) =
      left_each s line false d (halved d f s disk) new left b (halved_each P empty d f s disk b)
  ends_each told tells d line s fails said new b (FuseRunsOut c e begun is begins keeps fused failed says left) =
      left_each s line false d (run_as false d (begun ++ CrashAt s c.kept ∷ [])) new left b (run_each P empty false d (begun ++ CrashAt s c.kept ∷ []) b)
  ends_each told tells d line s fails said new b (NoNumber c taken before e rest is may none failed says left) =
      left_each s line taken d (run_as taken d before) new left b (run_each P empty taken d before b)
  ends_each told tells d line s fails said new b (ShowsReceived site volume start count is role gives borne left) = left_each s line false d d new left b b
  ends_each told tells d line s fails said new b (FindsLinks untold c taken site mid n k row is recovers comes borne says left) = absurd (untold tells)
  ends_each told tells d line s fails said new b (FindsNone untold c taken site mid n why is recovers device failed says left) = absurd (untold tells)

  are_each : (line : ScriptLine) (d last new : Doubted) → AreLeft line d last new → AllNote P last → AllNote P new
  are_each line d last new left b = as_each P empty last (link_noted d.world line last.world) new left (link_noted_each P empty d.world line last.world b.sites) b

  links_each : (told : Type 0) → told → (d : Doubted) → d.strayed ≡ false → (line : ScriptLine) (fails : Fails) (said : Said) (new : Doubted) → AllNote P d → LinkEnds told d line fails said new
      → AllNote P new
  links_each told tells d calm line fails said new b (LinksDone last runs none borne says left) =
      are_each line d last new left (runs_each P empty (link_events d.world line) d last b runs)
  links_each told tells d calm line fails said new b (LinksHalt e site disk middle comes here is says left) =
      are_each line d (halved middle e site disk) new left (halved_each P empty middle e site disk (runs_each P empty comes.before d middle b comes.runs))
  links_each told tells d calm line fails said new b (AppliesPart before rest site count reached disk last split runs none here is says left) =
      are_each line d last new left (runs_each P empty (before ++ Fault site disk ∷ []) d last b runs)
  links_each told tells d calm line fails said new b (AppliesCut before rest site count reached kept taken middle split runs none few opens fused failed says left) =
      let h : Doubted = halved middle (Fault site 0) site 0 in
      are_each line d (crashed_as h site kept taken) new left
      (crashed_each P empty h site kept taken (halved_each P empty middle (Fault site 0) site 0 (runs_each P empty before d middle b runs)))
  links_each told tells d calm line fails said new b (LinksCut e site kept taken middle comes fused none says left) =
      let h : Doubted = halved middle e site 0 in
      are_each line d (crashed_as h site kept taken) new left (crashed_each P empty h site kept taken (halved_each P empty middle e site 0 (runs_each P empty comes.before d middle b comes.runs)))
  links_each told tells d calm line fails said new b (LogUnread before rest e site disk middle split reads runs none here is says left) =
      are_each line d middle new left (runs_each P empty before d middle b runs)
  links_each told tells d calm line fails said new b (NoHeader before rest e site middle split takes runs none most is says left) =
      are_each line d middle new left (runs_each P empty before d middle b runs)
  links_each told tells d calm line fails said new b (LinksFind untold last finds left) = absurd (untold tells calm)

  pub kind_each : (told : Type 0) → told → (links : Bool) (d : Doubted) → d.strayed ≡ false → (line : ScriptLine) (fails : Fails) (said : Said) (new : Doubted) → AllNote P d
      → EndsBy links told d line fails said new → AllNote P new
  kind_each told tells true d calm line fails said new b ends = links_each told tells d calm line fails said new b ends
  kind_each told tells false d calm line fails said new b ends = ends_each told tells d line (place_of d.world line) fails said new b ends
