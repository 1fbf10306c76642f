-- A line within one that settles a link, as one of its events.
use Rattle.std.proofs.Common.{◌≡◌, ◌∙◌, ℕ, List, [], false, sym, subst, refl, arith}
use Rattle.std.specs.Prelude.{IfOk, Result, Ok, Err}
use Rattle.vx_model.specs.declared.errors.OutOfMemory.{OutOfMemory}
use Rattle.vx_model.specs.declared.no.No.{No}
use Rattle.vx_history.specs.Doubts.{Doubted}
use Rattle.vx_history.specs.World.{Fuse}
use Rattle.vx_history.specs.declared.event.Event.{Event}
use Rattle.vx_disk.specs.declared.shelf.Shelf.{Ghosts}
use Rattle.vx_events.proofs.Tolds.{done_told}
use Rattle.vx_events.specs.Fails.{Fails}
use Rattle.vx_events.specs.Lines.{IsDone}
use Rattle.vx_events.specs.declared.said.Said.{Said}
use Rattle.vx_events.specs.declared.said.Said.TheVariants.{Done, Refused}
use Rattle.vx_script.specs.declared.line.ScriptLine.{ScriptLine}
use Rattle.vx_world.proofs.Doubting.{like_good, runs_good}
use Rattle.vx_settling.proofs.Burning.{like_burnt}
use Rattle.vx_settling.proofs.Moving.{still_may}
use Rattle.vx_settling.proofs.Named.{moved_names}
use Rattle.vx_settling.proofs.Working.{short_none}
use Rattle.vx_settling.specs.Burnt.{EndTo, GoesTo, NotedAs, OnTo, noted_as}
use Rattle.vx_settling.specs.Works.{CalmTold}
use Rattle.vx_yard.specs.Carries.{Carries}
use Rattle.vx_yard.specs.BothSites.{BothSites, SettleBurns}
use Rattle.vx_yard.specs.OfSites.{AllSameFailing, OfSite}
use Rattle.vx_node.specs.Settling.{EndedFor, NotedFor, OnFor, SettlesFor, ShortFor, WentFor, went_by, went_of}
use Rattle.vx_yard.specs.Standing.{GoodFor, Leads, LeadsIs, StandsFor}
use Rattle.vx_yard.specs.Stands.{AreTold, RoseAll}
use Rattle.vx_yard.specs.Yards.{IsTold, count_of}
use Rattle.vx_yard.specs.declared.yard.Yard.{Yard}
use Rattle.vx_diskset.specs.Asked.{LeavesAlone}
use Rattle.vx_yard.proofs.ChangeSite.{rose_less, rose_none}
use Rattle.vx_yard.proofs.FailsStay.{alone_keeps}
use Rattle.vx_yard.proofs.OfSites.{all_of_site}

module _ {R : Type 0} {g : Ghosts R} where
  -- the yard's own world is good where the one without notes is
  pub good_noted : (fuses : ℕ → Fuse) (d : Doubted) (y : Yard R g) → GoodFor d y → GoodFor (noted_as fuses d) y
  good_noted fuses d y good = λ tells calm. like_good d (noted_as fuses d) (good tells calm) (record { worlds = like_burnt fuses d.world; after = λ i. refl })

  -- with the same disks nothing else is told
  pub told_same : (old new : Yard R g) → new.disk_sets.items ≡ old.disk_sets.items → IsTold new → IsTold old
  told_same old new same told = subst (λ es. AreTold es) same told

  -- a site that was left alone
  pub all_alone : (s : ℕ) (old new : Yard R g) → OfSite LeavesAlone s old new → AllSameFailing old new
  all_alone s old new of =
      all_of_site s old new (record { before = of.before; after = of.after; there = of.there; disk_sets = of.disk_sets; did = alone_keeps of.before of.after of.did })

  noted_for : (a b : ℕ) (d e : Doubted) (y : Yard R g) → NotedAs a b d e → StandsFor e y → Carries e y → NotedFor a b d y
  noted_for a b d e y noted stands carries = record {
    fuses = noted.fuses;
    burns = noted.burns;
    stands = subst (λ (x : Doubted). StandsFor x y) noted.is stands;
    carries = subst (λ (x : Doubted). Carries x y) noted.is carries;
  }

  module _ (first second : List ℕ) (a b : ℕ) (d : Doubted) (events : List Event) (old new : Yard R g) (serves : SettlesFor first second a b d old) (told : IsTold new → IsTold old) (asked : AllSameFailing old new) where
    -- nothing was done
    pub step_short : StandsFor (noted_as serves.noted.fuses d) new → Carries (noted_as serves.noted.fuses d) new → RoseAll [] (count_of old) (count_of new) → ShortFor a b d events old new
    step_short stands carries rose = record {
      last = d;
      short = short_none (CalmTold (IsTold new) d) a b d serves.may events;
      noted = record { fuses = serves.noted.fuses; burns = serves.noted.burns; stands = stands; carries = carries };
      told = told;
      asked = asked;
      rose = rose;
    }

    pub step_same : new ≡ old → ShortFor a b d events old new
    step_same same =
        step_short (subst (λ (y : Yard R g). StandsFor (noted_as serves.noted.fuses d) y) (sym same) serves.noted.stands)
        (subst (λ (y : Yard R g). Carries (noted_as serves.noted.fuses d) y) (sym same) serves.noted.carries)
        (subst (λ (y : Yard R g). RoseAll [] (count_of old) (count_of y)) (sym same) (rose_none (count_of old) (count_of old) (λ s u. omega arith)))

    module _ (line : ScriptLine) (law : (fails : Fails) (said : Said) (e : Doubted) → IsDone (CalmTold (IsTold new) d) (noted_as serves.noted.fuses d) line fails said e → GoesTo (CalmTold (IsTold new) d) a b d events fails e said) where
      -- as what is told where the world has not strayed
      done_calm : (said : Said) (leads : Leads (noted_as serves.noted.fuses d) line said old new) → IsDone (CalmTold (IsTold new) d) (noted_as serves.noted.fuses d) line leads.fails said leads.next
      done_calm said leads =
          let less : CalmTold (IsTold new) d → IsTold new = λ t. t.0 in
          done_told less (noted_as serves.noted.fuses d) line leads.fails said leads.next leads.done

      on_by : (said : Said) (leads : Leads (noted_as serves.noted.fuses d) line said old new) → OnTo (CalmTold (IsTold new) d) a b d events leads.fails leads.next → BothSites (SettleBurns Done) a b old new → OnFor first second a b d events old new
      on_by said leads on calls =
          let moves = on.works.moves in
          record {
            next = on.next;
            works = on.works;
            serves = record {
              noted = noted_for a b on.next leads.next new on.noted leads.stands (leads.carries serves.noted.carries);
              may = still_may a b d on.next moves serves.may;
              good = λ tells calm.
                  let was : d.strayed ≡ false = sym moves.strayed ∙ calm in
                  runs_good events d on.next (serves.good (told tells) was) (on.works.exact (tells, was));
              from = moved_names a b d on.next first moves ∙ serves.from;
              to = moved_names a b d on.next second moves ∙ serves.to;
            };
            told = told;
            asked = asked;
            called = calls;
            rose = rose_less leads.fails (count_of old) (count_of new) leads.rose;
          }

      off_by : (why : No) (said : Said) (leads : Leads (noted_as serves.noted.fuses d) line said old new) → EndTo (CalmTold (IsTold new) d) a b d events leads.fails why leads.next → BothSites (SettleBurns (Refused why)) a b old new → EndedFor a b d events why old new
      off_by why said leads off calls = record {
        last = off.last;
        fails = leads.fails;
        stops = off.stops;
        sites = off.sites;
        noted = noted_for a b off.last leads.next new off.noted leads.stands (leads.carries serves.noted.carries);
        told = told;
        asked = asked;
        called = calls;
        rose = leads.rose;
      }

      by_said : (said : Said) → Leads (noted_as serves.noted.fuses d) line said old new → BothSites (SettleBurns said) a b old new → WentFor first second a b d events old new (went_by said)
      by_said (Refused why) leads calls = off_by why (Refused why) leads (law leads.fails (Refused why) leads.next (done_calm (Refused why) leads)) calls
      by_said other leads calls = on_by other leads (law leads.fails other leads.next (done_calm other leads)) calls

      pub step_went : (r : Result Said OutOfMemory) → LeadsIs (noted_as serves.noted.fuses d) line old new r → IfOk r (λ said. BothSites (SettleBurns said) a b old new) → WentFor first second a b d events old new (went_of r)
      step_went (Ok said) leads calls = by_said said leads calls
      step_went (Err e) stays calls = step_short stays.stands (stays.carries serves.noted.carries) stays.rose
