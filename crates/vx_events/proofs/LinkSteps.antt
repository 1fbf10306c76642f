-- Lines over two linked sites: each is a step, to the world that is written out. A disk fails as a link is set anew, and a crash takes either.
use Rattle.std.proofs.Common.{◌≡◌, ℕ, Bool, true, false, List, [], ◌∷◌, refl}
use Rattle.std.specs.Prelude.{None}
use Rattle.vx_model.specs.Sizes.{is_raw_shape}
use Rattle.vx_model.specs.declared.link.Prot.TheVariants.{Fail as FailsWhenFull}
use Rattle.vx_model.specs.declared.link.SyncMode.TheVariants.{Off as NeverWaits, Fail as FailsIfNotLive}
use Rattle.vx_model.specs.declared.no.No.TheVariants.{Device}
use Rattle.vx_history.specs.Doubts.{Doubted, halved}
use Rattle.vx_history.specs.Step.{run}
use Rattle.vx_history.specs.World.{empty_world}
use Rattle.vx_history.specs.declared.event.Event.TheVariants.{Site as MakeSite, Raw as MakeRaw, Set as SetAt, Crash as CrashAt}
use Rattle.vx_script.specs.declared.line.ScriptLine.{ScriptLine}
use Rattle.vx_script.specs.declared.line.ScriptLine.TheVariants.{Link, Set, Crash}
use Rattle.vx_order.specs.Asks.{ask_of}
use Rattle.vx_order.specs.Order.{line_refusal}
use Rattle.vx_order.specs.Shapes.{line_role, line_unknown, taken, over_limit, wrong_size}
use Rattle.vx_order.specs.Spans.{span_of}
use Rattle.vx_order.specs.Subject.{first_name, second_name, need_of, halt_of}
use Rattle.vx_order.specs.Tests.{first_said_no}
use Rattle.vx_events.proofs.Stopping.{runs_as}
use Rattle.vx_events.specs.Doubts.{run_as, sure, with_disks}
use Rattle.vx_events.specs.Ends.{AllDone}
use Rattle.vx_events.specs.LinkEnds.{LinksDone, LinksHalt, link_noted}
use Rattle.vx_events.specs.LinkLists.{link_events}
use Rattle.vx_events.specs.Lines.{LineStep}
use Rattle.vx_events.specs.declared.said.Said.TheVariants.{Done, Refused}

abbrev a : List ℕ
a = 97 ∷ []

abbrev b : List ℕ
b = 98 ∷ []

-- two raw sets
abbrev two : Doubted
two = sure (run empty_world (MakeSite a 3 64 ∷ MakeRaw 0 ∷ MakeSite b 3 64 ∷ MakeRaw 1 ∷ []))

-- what a line of links that is done leaves
abbrev behind : Doubted → ScriptLine → Doubted
behind d line =
    let last = run_as false d (link_events d.world line) in record last { world = link_noted d.world line last.world }

abbrev link_line : ScriptLine
link_line = Link a b NeverWaits FailsWhenFull

links : LineStep (Unit {0}) false two link_line [] Done (behind two link_line)
unfolding line_refusal first_said_no first_name second_name need_of halt_of line_role line_unknown taken over_limit wrong_size span_of ask_of is_raw_shape
links = record {
  ends = LinksDone (run_as false two (link_events two.world link_line)) (runs_as false two (link_events two.world link_line)) refl refl refl (record { world = refl; after = λ s. refl; strayed = refl });
  counts = tt;
  works = λ said. (refl, refl);
  calls = λ said. (tt, tt);
}

-- a disk that fails as the link is set anew: whether it is, is in doubt
abbrev set_line : ScriptLine
set_line = Set a b FailsIfNotLive FailsWhenFull

abbrev doubt : Doubted
doubt =
    let d = behind two link_line in
    let last = halved d (SetAt 0 1 FailsIfNotLive FailsWhenFull) 0 0 in record last { world = link_noted d.world set_line last.world }

sets : LineStep (Unit {0}) false (behind two link_line) set_line ((0, 0) ∷ []) (Refused (Device 0)) doubt
unfolding line_refusal first_said_no first_name second_name need_of halt_of line_role line_unknown taken over_limit wrong_size span_of ask_of is_raw_shape
sets = record {
  ends = LinksHalt (SetAt 0 1 FailsIfNotLive FailsWhenFull) 0 0 (behind two link_line)
      (record { before = []; rest = []; split = refl; runs = refl; fails = refl; opens = (refl, refl); writes = refl }) (λ none. refl) refl refl (record { world = refl; after = λ s. refl; strayed = refl });
  counts = tt;
  works = λ said. refl;
  calls = λ said. tt;
}

-- a crash takes the one or the other
abbrev crash_line : ScriptLine
crash_line = Crash a 0

abbrev crashed : Bool → Doubted
crashed taken =
    let last = run_as taken doubt (CrashAt 0 0 ∷ []) in record last { world = with_disks taken 0 doubt.world last.world }

crashes : (taken : Bool) → LineStep (Unit {0}) false doubt crash_line [] Done (crashed taken)
unfolding line_refusal first_said_no first_name second_name need_of halt_of line_role line_unknown taken over_limit wrong_size span_of ask_of is_raw_shape
crashes true = record {
  ends = AllDone (record { kept = 0; reached = 0 }) true tt refl (record { world = refl; after = λ s. refl; strayed = refl });
  counts = tt;
  works = tt;
  calls = tt;
}
crashes false = record {
  ends = AllDone (record { kept = 0; reached = 0 }) false tt refl (record { world = refl; after = λ s. refl; strayed = refl });
  counts = tt;
  works = tt;
  calls = tt;
}

as_set : ((crashed true).world.links 0 1).sync ≡ FailsIfNotLive
unfolding is_raw_shape
as_set = refl

as_before : ((crashed false).world.links 0 1).sync ≡ NeverWaits
unfolding is_raw_shape
as_before = refl

in_doubt_no_more : (taken : Bool) → (crashed taken).after 0 ≡ None
in_doubt_no_more true = refl
in_doubt_no_more false = refl
