-- Events that stop before their end are so among more events, and behind others that are done.
use Rattle.std.proofs.Common.{◌≡◌, ◌∙◌, ◌++◌, ℕ, List, [], ◌∷◌, Bool, false, refl, ap, sym, subst, append_assoc}
use Rattle.vx_history.specs.Doubts.{Doubted, Runs, happened}
use Rattle.vx_history.specs.Stops.{ComesTo, IsFused, all_fails, told_fails}
use Rattle.vx_history.specs.declared.event.Event.{Event}
use Rattle.vx_history.specs.declared.event.Event.TheVariants.{Apply as ApplyAt, Fault}
use Rattle.vx_script.specs.declared.line.ScriptLine.{ScriptLine}
use Rattle.vx_script.specs.declared.line.ScriptLine.TheVariants.{Settle}
use Rattle.vx_events.specs.Doubts.{run_as}
use Rattle.vx_events.specs.Fails.{Fails}
use Rattle.vx_events.specs.LinkEnds.{AppliesCut, AppliesPart, AreLeft, LinkEnds, LinksCut, LinksHalt, LogUnread, NoHeader}
use Rattle.vx_events.specs.LinkLists.{link_events}
use Rattle.vx_events.specs.Parts.{DonePart, PartLeft}
use Rattle.vx_events.specs.declared.said.Said.{Said}
use Rattle.vx_settling.specs.Ending.{CutsApplying, CutsIn, HaltsApplying, HaltsIn, IsUnreadIn, LacksNumber, StopsAmong}

-- ---- lists of events

pub runs_then : (d m n : Doubted) (xs ys : List Event) → Runs d xs m → Runs m ys n → Runs d (xs ++ ys) n
runs_then d m n [] ys one two = subst (λ (x : Doubted). Runs x ys n) one two
runs_then d m n (x ∷ xs) ys (taken, one) two = (taken, runs_then (happened d x taken) m n xs ys one two)

fails_append : (xs ys : List Event) → all_fails (xs ++ ys) ≡ all_fails xs ++ all_fails ys
fails_append [] ys = refl
fails_append (x ∷ xs) ys = ap (λ (fs : Fails). told_fails x ++ fs) (fails_append xs ys) ∙ sym (append_assoc (told_fails x) (all_fails xs) (all_fails ys))

fails_both : (xs ys : List Event) → all_fails xs ≡ [] → all_fails ys ≡ [] → all_fails (xs ++ ys) ≡ []
fails_both xs ys one two = fails_append xs ys ∙ ap (λ (fs : Fails). fs ++ all_fails ys) one ∙ two

pub run_as_then : (taken : Bool) (d : Doubted) (xs ys : List Event) → run_as taken d (xs ++ ys) ≡ run_as taken (run_as taken d xs) ys
run_as_then taken d [] ys = refl
run_as_then taken d (x ∷ xs) ys = run_as_then taken (happened d x taken) xs ys

longer : (events before rest ys : List Event) (e : Event) → events ≡ before ++ e ∷ rest → events ++ ys ≡ before ++ e ∷ (rest ++ ys)
longer events before rest ys e is = ap (λ (es : List Event). es ++ ys) is ∙ append_assoc before (e ∷ rest) ys

later : (xs events before rest : List Event) (e : Event) → events ≡ before ++ e ∷ rest → xs ++ events ≡ (xs ++ before) ++ e ∷ rest
later xs events before rest e is = ap (λ (es : List Event). xs ++ es) is ∙ sym (append_assoc xs before (e ∷ rest))

-- ---- among more

module _ (told : Type 0) (d : Doubted) (xs ys : List Event) (fails : Fails) (said : Said) (last : Doubted) where
  comes_more : (e : Event) (site : ℕ) (middle : Doubted) → ComesTo d xs e site middle → ComesTo d (xs ++ ys) e site middle
  comes_more e site middle came = record {
    before = came.before;
    rest = came.rest ++ ys;
    split = longer xs came.before came.rest ys e came.split;
    runs = came.runs;
    fails = came.fails;
    opens = came.opens;
    writes = came.writes;
  }

  pub stops_more : StopsAmong told d xs fails said last → StopsAmong told d (xs ++ ys) fails said last
  stops_more (HaltsIn e site disk middle came here one is leaves) = HaltsIn e site disk middle (comes_more e site middle came) here one is leaves
  stops_more (HaltsApplying before rest site count reached disk split runs none here one is) =
      HaltsApplying before (rest ++ ys) site count reached disk (longer xs before rest ys (ApplyAt site count reached) split) runs none here one is
  stops_more (CutsApplying before rest site count reached kept taken middle split runs none few opens fused one is leaves) =
      CutsApplying before (rest ++ ys) site count reached kept taken middle (longer xs before rest ys (ApplyAt site count reached) split) runs none few opens fused one is leaves
  stops_more (CutsIn e site kept taken middle came fused one is leaves) = CutsIn e site kept taken middle (comes_more e site middle came) fused one is leaves
  stops_more (IsUnreadIn before rest e site disk split reads runs none here one is) =
      IsUnreadIn before (rest ++ ys) e site disk (longer xs before rest ys e split) reads runs none here one is
  stops_more (LacksNumber before rest e site split takes runs none lacks one is) =
      LacksNumber before (rest ++ ys) e site (longer xs before rest ys e split) takes runs none lacks one is

-- ---- behind others

module _ (told : Type 0) (d m : Doubted) (xs ys : List Event) (fails : Fails) (said : Said) (last : Doubted) (done : Runs d xs m) (calm : all_fails xs ≡ [])
    (fuses : (i : ℕ) → IsFused (m.world.nodes i).fuse → IsFused (d.world.nodes i).fuse) where
  comes_behind : (e : Event) (site : ℕ) (middle : Doubted) → ComesTo m ys e site middle → ComesTo d (xs ++ ys) e site middle
  comes_behind e site middle came = record {
    before = xs ++ came.before;
    rest = came.rest;
    split = later xs ys came.before came.rest e came.split;
    runs = runs_then d m middle xs came.before done came.runs;
    fails = fails_both xs came.before calm came.fails;
    opens = came.opens;
    writes = came.writes;
  }

  pub stops_behind : StopsAmong told m ys fails said last → StopsAmong told d (xs ++ ys) fails said last
  stops_behind (HaltsIn e site disk middle came here one is leaves) = HaltsIn e site disk middle (comes_behind e site middle came) here one is leaves
  stops_behind (HaltsApplying before rest site count reached disk split runs none here one is) =
      HaltsApplying (xs ++ before) rest site count reached disk (later xs ys before rest (ApplyAt site count reached) split)
      (subst (λ (es : List Event). Runs d es last) (sym (append_assoc xs before (Fault site disk ∷ []))) (runs_then d m last xs (before ++ Fault site disk ∷ []) done runs))
      (fails_both xs before calm none) here one is
  stops_behind (CutsApplying before rest site count reached kept taken middle split runs none few opens fused one is leaves) =
      CutsApplying (xs ++ before) rest site count reached kept taken middle (later xs ys before rest (ApplyAt site count reached) split) (runs_then d m middle xs before done runs)
      (fails_both xs before calm none) few opens (fuses site fused) one is leaves
  stops_behind (CutsIn e site kept taken middle came fused one is leaves) = CutsIn e site kept taken middle (comes_behind e site middle came) (fuses site fused) one is leaves
  stops_behind (IsUnreadIn before rest e site disk split reads runs none here one is) =
      IsUnreadIn (xs ++ before) rest e site disk (later xs ys before rest e split) reads (runs_then d m last xs before done runs) (fails_both xs before calm none) here one is
  stops_behind (LacksNumber before rest e site split takes runs none lacks one is) =
      LacksNumber (xs ++ before) rest e site (later xs ys before rest e split) takes (runs_then d m last xs before done runs) (fails_both xs before calm none) lacks one is

-- ---- as a line ends

pub line_stops : (told : Type 0) (d : Doubted) (line : ScriptLine) (fails : Fails) (said : Said) (last new : Doubted) → StopsAmong told d (link_events d.world line) fails said last
    → AreLeft line d last new → LinkEnds told d line fails said new
line_stops told d line fails said last new (HaltsIn e site disk middle came here one is leaves) left =
    LinksHalt e site disk middle came here one is (subst (λ (x : Doubted). AreLeft line d x new) leaves left)
line_stops told d line fails said last new (HaltsApplying before rest site count reached disk split runs none here one is) left =
    AppliesPart before rest site count reached disk last split runs none here one is left
line_stops told d line fails said last new (CutsApplying before rest site count reached kept taken middle split runs none few opens fused one is leaves) left =
    AppliesCut before rest site count reached kept taken middle split runs none few opens fused one is (subst (λ (x : Doubted). AreLeft line d x new) leaves left)
line_stops told d line fails said last new (CutsIn e site kept taken middle came fused one is leaves) left =
    LinksCut e site kept taken middle came fused one is (subst (λ (x : Doubted). AreLeft line d x new) leaves left)
line_stops told d line fails said last new (IsUnreadIn before rest e site disk split reads runs none here one is) left =
    LogUnread before rest e site disk last split reads runs none here one is left
line_stops told d line fails said last new (LacksNumber before rest e site split takes runs none lacks one is) left =
    NoHeader before rest e site last split takes runs none lacks one is left

-- ---- a first part of a line

-- some events were done before these, so that the line notes what it does
pub part_behind : (line : ScriptLine) (d : Doubted) (xs before : List Event) (new : Doubted) → (xs ≡ [] → ⊥)
    → AreLeft line d (run_as false (run_as false d xs) before) new → PartLeft line d (xs ++ before) new
part_behind line d [] before new some left = absurd (some refl)
part_behind line d (x ∷ xs) before new some left = subst (λ (e : Doubted). AreLeft line d e new) (sym (run_as_then false d (x ∷ xs) before)) left

pub settle_part : (d : Doubted) (p s : List ℕ) (before rest : List Event) (new : Doubted) → link_events d.world (Settle p s) ≡ before ++ rest
    → PartLeft (Settle p s) d before new → DonePart d (Settle p s) new
settle_part d p s before rest new split left =
    record { choice = record { kept = 0; reached = 0 }; before = before; rest = rest; list = split; stops = tt; leads = left }
