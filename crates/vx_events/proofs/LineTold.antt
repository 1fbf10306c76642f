-- What the events of a line came to where contents are told they came to where even more is told.
use Rattle.std.proofs.Common.{ℕ, Bool, true, false, List, [], ◌∷◌}
use Rattle.vx_history.specs.Doubts.{Doubted, happened}
use Rattle.vx_history.specs.Refusals.{Outcome}
use Rattle.vx_history.specs.Step.{step}
use Rattle.vx_history.specs.World.{World}
use Rattle.vx_history.specs.declared.event.Event.{Event}
use Rattle.vx_history.specs.declared.event.Event.TheVariants.{Read as ReadAt}
use Rattle.vx_script.specs.declared.line.ScriptLine.{ScriptLine}
use Rattle.vx_script.specs.declared.line.ScriptLine.TheVariants.{Write, Put}
use Rattle.vx_events.specs.Doubts.{doubt_chosen}
use Rattle.vx_events.specs.Ends.{Ends, AllDone, DiskFails, HeaderFails, FuseRunsOut, NoNumber, ShowsReceived, FindsLinks, FindsNone, place_of}
use Rattle.vx_events.specs.Fails.{Fails}
use Rattle.vx_events.specs.LinkEnds.{LinkEnds, LinksDone, LinksHalt, AppliesPart, AppliesCut, LinksCut, LinksFind, LogUnread, NoHeader}
use Rattle.vx_events.specs.Lines.{CountsCalls, EndsBy}
use Rattle.vx_events.specs.Lists.{events_of}
use Rattle.vx_events.specs.Sayings.{RepeatsOf, Replies}
use Rattle.vx_events.specs.declared.said.Said.{Said}

-- what holds where contents are told holds where even more is told
module _ {T U : Type 0} (f : U → T) where
  repeats_told : (s : ℕ) (e : Event) (o : Outcome) (said : Said) → RepeatsOf T s e o said → RepeatsOf U s e o said
  repeats_told s (ReadAt p volume start count) o said x = record { bytes = x.bytes; got = x.got; size = x.size; is = λ u. x.is (f u) }
  repeats_told s other o said x = x

  replies_told : (line : ScriptLine) (s : ℕ) (taken : Bool) (d : Doubted) (es : List Event) (said : Said) → Replies T line s taken d es said → Replies U line s taken d es said
  replies_told line s taken d [] said x = x
  replies_told line s taken d (e ∷ []) said x = repeats_told s e (step (doubt_chosen taken d e).world e) said x
  replies_told line s taken d (e ∷ b ∷ es) said x = replies_told line s taken (happened d e taken) (b ∷ es) said x

  pub ends_told : (d : Doubted) (line : ScriptLine) (s : ℕ) (fails : Fails) (said : Said) (new : Doubted) → Ends T d line s fails said new → Ends U d line s fails said new
  ends_told d line s fails said new (AllDone c taken none replies leads) = AllDone c taken none (replies_told line s taken d (events_of d.world line c) said replies) leads
  ends_told d line s fails said new (DiskFails c taken before e rest left disk list leaves names one says leads) = DiskFails c taken before e rest left disk list leaves names one says leads
  ends_told d line s fails said new (HeaderFails c e b disk list leaves writes one says leads) = HeaderFails c e b disk list leaves writes one says leads
  ends_told d line s fails said new (FuseRunsOut c e begun list is keeps fused none says leads) = FuseRunsOut c e begun list is keeps fused none says leads
  ends_told d line s fails said new (NoNumber c taken before e rest list may least none says leads) = NoNumber c taken before e rest list may (λ u. least (f u)) none says leads
  ends_told d line s fails said new (ShowsReceived site volume start count is role gives none leads) =
      ShowsReceived site volume start count is role (record { bytes = gives.bytes; got = gives.got; size = gives.size; is = λ u. gives.is (f u) }) none leads
  ends_told d line s fails said new (FindsLinks never c taken site mid n k row is from comes none says leads) = FindsLinks (λ u. never (f u)) c taken site mid n k row is from comes none says leads
  ends_told d line s fails said new (FindsNone never c taken site mid n why is from other none says leads) = FindsNone (λ u. never (f u)) c taken site mid n why is from other none says leads

  pub links_told : (d : Doubted) (line : ScriptLine) (fails : Fails) (said : Said) (new : Doubted) → LinkEnds T d line fails said new → LinkEnds U d line fails said new
  links_told d line fails said new (LinksDone last runs none is says leads) = LinksDone last runs none is says leads
  links_told d line fails said new (LinksHalt e site disk middle comes here is says leads) = LinksHalt e site disk middle comes here is says leads
  links_told d line fails said new (AppliesPart before rest site count reached disk last split runs none here is says leads) = AppliesPart before rest site count reached disk last split runs none here is says leads
  links_told d line fails said new (AppliesCut before rest site count reached kept taken middle split runs none few opens fused failed says leads) = AppliesCut before rest site count reached kept taken middle split runs none few opens fused failed says leads
  links_told d line fails said new (LinksCut e site kept taken middle comes fused none says leads) = LinksCut e site kept taken middle comes fused none says leads
  links_told d line fails said new (LogUnread before rest e site disk middle split reads runs none here is says leads) = LogUnread before rest e site disk middle split reads runs none here is says leads
  links_told d line fails said new (NoHeader before rest e site middle split takes runs none most is says leads) = NoHeader before rest e site middle split takes runs none (λ u. most (f u)) is says leads
  links_told d line fails said new (LinksFind never last finds leads) = LinksFind (λ u calm. never (f u) calm) last finds leads

  pub kind_told : (links : Bool) (d : Doubted) (line : ScriptLine) (fails : Fails) (said : Said) (new : Doubted) → EndsBy links T d line fails said new → EndsBy links U d line fails said new
  kind_told true d line fails said new x = links_told d line fails said new x
  kind_told false d line fails said new x = ends_told d line (place_of d.world line) fails said new x

  pub counts_told : (w : World) (line : ScriptLine) (said : Said) → CountsCalls T w line said → CountsCalls U w line said
  counts_told w (Write site volume start count fill) said x = record { done = λ u. x.done (f u); off = λ u. x.off (f u) }
  counts_told w (Put site volume start bytes) said x = record { done = λ u. x.done (f u); off = λ u. x.off (f u) }
  counts_told w other said x = x
