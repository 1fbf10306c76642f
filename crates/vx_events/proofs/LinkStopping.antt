-- However a line of links ends, it ends as events of the world do, where the world has not strayed.
use Rattle.std.proofs.Common.{◌≡◌, ◌∙◌, ℕ, false, List, [], ◌∷◌, ◌++◌, ap, sym, refl}
use Rattle.std.proofs.lemmas.List.{append_assoc}
use Rattle.vx_history.specs.Doubts.{Doubted, halved, crashed_as}
use Rattle.vx_history.specs.Stops.{AllDone, Halts, Cuts, Reads, all_fails, told_fails}
use Rattle.vx_history.specs.declared.event.Event.{Event}
use Rattle.vx_history.specs.declared.event.Event.TheVariants.{Fault}
use Rattle.vx_script.specs.declared.line.ScriptLine.{ScriptLine}
use Rattle.vx_events.proofs.Noting.{links_like}
use Rattle.vx_events.specs.Fails.{Fails}
use Rattle.vx_events.specs.LinkEnds.{LinkEnds, LinkStops, LinksDone, LinksHalt, AppliesPart, AppliesCut, LinksCut, LinksFind, LogUnread, NoHeader, AllCame, FirstCame, AppliedPart}
use Rattle.vx_events.specs.LinkLists.{link_events}
use Rattle.vx_events.specs.declared.said.Said.{Said}

fails_joined : (xs ys : List Event) → all_fails (xs ++ ys) ≡ all_fails xs ++ all_fails ys
fails_joined [] ys = refl
fails_joined (e ∷ es) ys = ap (λ (fs : List (ℕ × ℕ)). told_fails e ++ fs) (fails_joined es ys) ∙ sym (append_assoc (told_fails e) (all_fails es) (all_fails ys))

pub link_stops : (told : Type 0) → told → (d : Doubted) → d.strayed ≡ false → (line : ScriptLine) (fails : Fails) (said : Said) (new : Doubted) → LinkEnds told d line fails said new → LinkStops d line fails new
link_stops told is_told d calm line fails said new (LinksDone last runs none failed says leads) = record {
  events = link_events d.world line;
  came = AllCame refl;
  stops = AllDone last runs (failed ∙ sym none) (links_like line d last new leads);
}
link_stops told is_told d calm line fails said new (LinksHalt e site disk middle comes here is says leads) = record {
  events = link_events d.world line;
  came = AllCame refl;
  stops = Halts e site disk middle comes is (links_like line d (halved middle e site disk) new leads);
}
link_stops told is_told d calm line fails said new (AppliesPart before rest site count reached disk last split runs none here is says leads) = record {
  events = before ++ Fault site disk ∷ [];
  came = AppliedPart before rest site count reached disk split refl;
  stops = AllDone last runs (is ∙ ap (λ (fs : List (ℕ × ℕ)). fs ++ (site, disk) ∷ []) (sym none) ∙ sym (fails_joined before (Fault site disk ∷ []))) (links_like line d last new leads);
}
link_stops told is_told d calm line fails said new (AppliesCut before rest site count reached kept taken middle split runs none few opens fused failed says leads) = record {
  events = before ++ Fault site 0 ∷ [];
  came = AppliedPart before rest site count reached 0 split refl;
  stops = Cuts (Fault site 0) site kept taken middle (record { before = before; rest = []; split = refl; runs = runs; fails = none; opens = opens; writes = refl }) fused failed
      (links_like line d (crashed_as (halved middle (Fault site 0) site 0) site kept taken) new leads);
}
link_stops told is_told d calm line fails said new (LinksCut e site kept taken middle comes fused none says leads) = record {
  events = link_events d.world line;
  came = AllCame refl;
  stops = Cuts e site kept taken middle comes fused none (links_like line d (crashed_as (halved middle e site 0) site kept taken) new leads);
}
link_stops told is_told d calm line fails said new (LogUnread before rest e site disk middle split reads runs none here is says leads) = record {
  events = link_events d.world line;
  came = AllCame refl;
  stops = Reads before rest e site disk middle split runs none is (links_like line d middle new leads);
}
link_stops told is_told d calm line fails said new (NoHeader before rest e site middle split takes runs none most is says leads) = record {
  events = before;
  came = FirstCame (e ∷ rest) split;
  stops = AllDone middle runs (is ∙ sym none) (links_like line d middle new leads);
}
link_stops told is_told d calm line fails said new (LinksFind untold last finds leads) = absurd (untold is_told calm)
