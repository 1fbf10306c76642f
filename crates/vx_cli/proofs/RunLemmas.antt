-- A run, and the racks that come back from it.
use Rattle.std.proofs.Common.{◌≡◌, ℕ, Bool, List, [], ◌∷◌, Option, refl, arith, sym, subst}
use Rattle.std.proofs.lemmas.Bool.{false_from_ne_true}
use Rattle.vx_history.specs.Doubts.{Doubted}
use Rattle.vx_history.specs.World.{empty_world}
use Rattle.vx_events.specs.Doubts.{sure}
use Rattle.vx_disk.specs.Shelf.{Meaning}
use Rattle.vx_disk.specs.declared.shelf.Shelf.{Ghosts}
use Rattle.vx_stream.proofs.SendLemmas.{appends_none}
use Rattle.vx_world.specs.Lines.{GoodDoubted}
use Rattle.vx_world.proofs.Doubting.{quiet_good}
use Rattle.vx_world.proofs.Whole.{empty_good}
use Rattle.vx_yard.specs.declared.yard.Yard.{Yard}
use Rattle.vx_yard.specs.Holds.{AreFresh, GroupsHold, RacksHold, RacksTell, rack_faults}
use Rattle.vx_events.specs.Fails.{Fails}
use Rattle.vx_yard.specs.Carries.{Carries}
use Rattle.vx_yard.specs.Standing.{Serves, StandsFor}
use Rattle.vx_yard.specs.Yards.{IsTold, count_of, in_files}
use Rattle.vx_cli.specs.declared.status.Status.{Status}
use Rattle.vx_cli.specs.declared.status.Status.TheVariants.{OutOfMemory}
use Rattle.vx_cli.specs.Reading.{MayHave}
use Rattle.vx_cli.specs.Runs.{RunsLines, LeavesRacks, fails_of_lines}
use Rattle.vx_cli.specs.Ends.{RunEnds, RunIs}
use Rattle.vx_cli.specs.Turns.{YardComes}
use Rattle.vx_cli.proofs.EndsLemmas.{ends_here}
use Rattle.vx_cli.proofs.ReaderLemmas.{ahead_some}
use Rattle.vx_cli.proofs.StepLemmas.{last_told, line_told, rose_none, rose_same}

-- a run where contents are told is one where even more is told
run_told : {T U : Type 0} (f : U → T) (files : Bool) (w : Doubted) (lines : List (List ℕ)) (failures : List Fails) (texts : List (List ℕ)) (new : Doubted)
    → RunsLines T files w lines failures texts new → RunsLines U files w lines failures texts new
run_told f files w [] [] [] new run = run
run_told f files w [] [] (text ∷ texts) new run = run
run_told f files w [] (fails ∷ failures) texts new run = run
run_told f files w (line ∷ lines) [] texts new run = run
run_told f files w (line ∷ lines) (fails ∷ failures) [] new run = run
run_told f files w (line ∷ lines) (fails ∷ failures) (text ∷ texts) new run =
    (run.0, line_told f files w line fails text run.0 run.1, run_told f files run.0 lines failures texts new run.2)

-- the world without sites is good, and no site of it is in doubt
begins_good : GoodDoubted (sure empty_world)
begins_good = quiet_good (sure empty_world) empty_good (λ s. refl)

module _ {R : Type 0} {g : Ghosts R} where
  -- where a run begins
  pub begins : (y : Yard R g) → StandsFor (sure empty_world) y → Carries (sure empty_world) y → Serves (sure empty_world) y
  begins y stands carries = record { stands = stands; carries = carries; good = λ tells calm. begins_good }

  -- what a run of a yard came to, with the racks that come back from it
  pub run_is : (files : Bool) (racks : List R) (status : Status) (old new : Yard R g) (left now_left w0 w1 : Option (List ℕ)) (f0 f1 : ℕ → ℕ → ℕ)
      → YardComes 0 (sure empty_world) [] left status old new now_left w0 w1 → in_files old ≡ files
      → ((d : Doubted) → StandsFor d new → RacksHold g.meaning d racks) → ((d : Doubted) → StandsFor d new → IsTold new → GroupsHold g.meaning d racks)
      → ((w : Doubted) → StandsFor w new → RacksTell g.meaning racks → IsTold new)
      → ((s d : ℕ) → count_of old s d ≡ f0 s d) → ((w : Doubted) → StandsFor w new → (s d : ℕ) → f1 s d ≡ count_of new s d)
      → RunIs (RacksTell g.meaning racks) files (LeavesRacks g.meaning racks) status left now_left w0 w1 f0 f1
  run_is files racks status old new left now_left w0 w1 f0 f1 comes kept holds groups told counts after =
      let o = comes.outcome in
      let tells : RacksTell g.meaning racks → IsTold new = told o.world o.leaves.stands in
      record {
        input = comes.bytes;
        has = subst (MayHave left) (sym comes.ahead.is) comes.ahead.has;
        outcome = record {
          part = o.part;
          world = o.world;
          out = o.out;
          split = o.split;
          few = o.few;
          behind = o.behind;
          run = subst (λ (f : Bool). RunsLines (RacksTell g.meaning racks) f (sure empty_world) o.part.lines o.part.failures o.part.texts o.behind) kept
              (run_told tells (in_files old) (sure empty_world) o.part.lines o.part.failures o.part.texts o.behind o.run);
          last = last_told tells status o.part.others o.behind o.world o.last;
          ends = subst (λ (f : Bool). RunEnds f o.behind.world 0 status comes.bytes now_left o.part o.out) kept o.ends;
          appends = o.appends;
          rose = rose_same (fails_of_lines o.part.failures) (count_of old) (count_of new) f0 f1 (λ s d. sym (counts s d)) (after o.world o.leaves.stands) o.rose;
          leaves = record {
            good = λ t calm. o.leaves.good (tells t) calm;
            holds = holds o.world o.leaves.stands;
            groups = λ t. groups o.world o.leaves.stands (tells t);
          };
        };
      }

module _ {R : Type 0} (meaning : R → Meaning) where
  -- the racks of a world without sites hold it
  fresh_leave : (racks : List R) → AreFresh meaning racks → LeavesRacks meaning racks (sure empty_world)
  fresh_leave racks fresh = record {
    good = λ tells calm. begins_good;
    holds = record {
      eight = fresh.eight;
      each = λ s r below apart at. absurd (omega arith);
      others = λ s r past at. record {
        units = fresh.units s r at;
        up = false_from_ne_true (meaning r).down (fresh.up s r at);
        unarmed = false_from_ne_true (meaning r).armed (fresh.unarmed s r at);
      };
    };
    groups = λ _. record { each = λ s r note below over is known at. absurd (omega arith) };
  }

  -- memory ran out before the run began
  pub run_stops : (told : Type 0) (files : Bool) (racks now : List R) (left w0 : Option (List ℕ)) → AreFresh meaning racks → now ≡ racks
      → RunIs told files (LeavesRacks meaning now) OutOfMemory left left w0 w0 (rack_faults meaning racks) (rack_faults meaning now)
  run_stops told files racks now left w0 fresh same =
      let some = ahead_some [] left in let at = some.1 in
      subst (λ (rs : List R). RunIs told files (LeavesRacks meaning rs) OutOfMemory left left w0 w0 (rack_faults meaning racks) (rack_faults meaning rs)) (sym same)
      (record {
        input = at.rest;
        has = at.has;
        outcome = ends_here 0 (sure empty_world) at.rest OutOfMemory left w0 w0 (rack_faults meaning racks) (rack_faults meaning racks) [] (omega arith)
            (record { sent = []; unsent = []; texts = refl; last = omega arith; is = refl }) (appends_none w0) (rose_none (rack_faults meaning racks)) (fresh_leave racks fresh);
      })
