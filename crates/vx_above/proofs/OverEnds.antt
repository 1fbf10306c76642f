-- What a line leads a yard to that works on the replicated volume group of a site over a group: how it ends there, from how it ends on a raw set.
use Rattle.std.proofs.Common.{◌≡◌, ◌∙◌, ◌++◌, ℕ, true, false, List, [], ◌∷◌, ap, sym, refl}
use Rattle.std.proofs.lemmas.List.{append-nil}
use Rattle.std.proofs.lemmas.Option.{slice_get_within}
use Rattle.std.specs.Prelude.{Option, Some, IsTrue, slice_get, slice_set, unwrap_or}
use Rattle.vx_disk.specs.Counts.{Rose}
use Rattle.vx_disk.specs.Shelf.{Meaning}
use Rattle.vx_disk.specs.declared.shelf.Shelf.{Ghosts}
use Rattle.vx_history.proofs.Updates.{at_place}
use Rattle.vx_history.specs.Doubts.{Doubted}
use Rattle.vx_history.specs.Groups.{GroupNode}
use Rattle.vx_history.specs.Steps.{burned}
use Rattle.vx_history.specs.World.{Fuse, Node, NoFuse, with_node}
use Rattle.vx_model.specs.declared.no.No.TheVariants.{Down as IsOff}
use Rattle.vx_model.specs.declared.site.SiteState.TheVariants.{Up as IsUp, Down as IsDown}
use Rattle.vx_order.specs.declared.facts.SiteFacts.{SiteFacts}
use Rattle.vx_script.specs.declared.line.ScriptLine.{ScriptLine}
use Rattle.vx_grouped.specs.GroupSites.{site_below, site_disks, with_note}
use Rattle.vx_grouped.specs.declared.group_site.GroupSite.{GroupSite}
use Rattle.vx_grouped.specs.declared.group_site.GroupSite.TheVariants.{Up as GroupUp, Deported as GroupAway, Down as GroupDown, Marked, Gone as GroupGone}
use Rattle.vx_diskset.specs.Aboves.{site_in}
use Rattle.vx_diskset.specs.Fuses.{FuseOn}
use Rattle.vx_diskset.specs.Holds.{beside_of}
use Rattle.vx_diskset.specs.Noted.{AgreesStill, NotedOver, NotedOn, below_rvg}
use Rattle.vx_diskset.specs.Stands.{IsRackTold, IsToldAt}
use Rattle.vx_diskset.specs.declared.disk_set.DiskSet.{DiskSet}
use Rattle.vx_diskset.specs.declared.disk_set.DiskSet.TheVariants.{Over}
use Rattle.vx_diskset.specs.declared.over_set.OverSet.{OverSet}
use Rattle.vx_events.proofs.RvgEvents.{rvg_apart}
use Rattle.vx_events.specs.Doubts.{IsAs}
use Rattle.vx_events.specs.Ends.{Ends, place_of as site_of}
use Rattle.vx_events.specs.Fails.{Fails}
use Rattle.vx_events.specs.GroupEnds.{AreOf}
use Rattle.vx_events.specs.GroupLines.{is_over_group}
use Rattle.vx_events.specs.GroupNotes.{IsKnown, note_at, no_note}
use Rattle.vx_events.specs.LinkedFacts.{linked_fact}
use Rattle.vx_events.specs.RvgOver.{EndsOver, NotesLine, OverRvg, SaysOver, fuse_behind, noting_over}
use Rattle.vx_events.specs.RvgSteps.{rvg_place}
use Rattle.vx_events.specs.RvgViews.{is_over_rvg, over_table}
use Rattle.vx_events.specs.RvgWorks.{FuseRanOut, NotesWork}
use Rattle.vx_events.specs.StepsOver.{fact_over}
use Rattle.vx_events.specs.declared.said.Said.{Said}
use Rattle.vx_events.specs.declared.said.Said.TheVariants.{Refused}
use Rattle.vx_yard.proofs.Lists.{get-set_same}
use Rattle.vx_yard.proofs.NoteSite.{with_one}
use Rattle.vx_yard.proofs.OneSite.{Comes, stands_at}
use Rattle.vx_yard.proofs.OverGroup.{begins_apart}
use Rattle.vx_yard.proofs.Reaching.{Reaches}
use Rattle.vx_yard.specs.AboveLines.{LeadsAbove}
use Rattle.vx_yard.specs.Carries.{Carries}
use Rattle.vx_yard.specs.Stands.{RoseAll}
use Rattle.vx_yard.specs.Yards.{IsTold, count_of}
use Rattle.vx_yard.specs.declared.yard.Yard.{Yard}
use Rattle.vx_above.proofs.Moved.{OverCall, call_note, call_off, call_table, call_up, borne_are, borne_calls, done_are, done_calls, done_off, done_rose, done_up, ended_rose, ended_up, moved, up_extra}
use Rattle.vx_above.proofs.OverComes.{StaysAs, comes_off, comes_up, noted_off, noted_up}
use Rattle.vx_above.proofs.OverSeen.{fact_noted, noted_node}
use Rattle.vx_above.proofs.OverSites.{note_is, over_again}
use Rattle.vx_above.proofs.Tables.{table_again}

module _ {R : Type 0} {g : Ghosts R} where
  -- what a rack tells is told of its disks, where it is known what they hold
  pub lit_on : (k : Node) (note : GroupNode) (e : GroupSite R g) → NotedOn k note e → note.dark ≡ false → IsTrue (site_below e).tells → IsTrue (site_disks e).tells
  lit_on k note (GroupUp laid) it known told = it.lit known told
  lit_on k note (GroupAway idle) it known told = it.lit known told
  lit_on k note (GroupDown idle) it known told = it.lit known told
  lit_on k note (Marked rack) it known told = absurd it
  lit_on k note GroupGone it known told = absurd it

  module _ (d : Doubted) (old new : Yard R g) (s : ℕ) (o p : OverSet R g) (call : OverCall d old new s o p) where
    abbrev n : Node
    n = d.world.nodes s

    abbrev note : GroupNode
    note = note_at (d.world.nodes s)

    abbrev next : GroupNode
    next = call_note d old new s o p call

    now_there : slice_get new.disk_sets.items s ≡ Some (Over p)
    now_there =
        ap (λ (es : List (DiskSet R g)). slice_get es s) call.changed.disk_sets
        ∙ get-set_same old.disk_sets.items s (Over p) (slice_get_within old.disk_sets.items s (Over o) call.changed.there)

    rack_told : IsTold new → IsRackTold (Over p)
    rack_told told = told.each s (Over p) now_there

    next_known : IsKnown (IsTold new) note → next.dark ≡ false
    next_known known = (moved d old new s o p call).1.same.dark ∙ known.1

    module _ (e : Doubted) (m : Node) (reach : Reaches d e s m (Over p)) (stays : StaysAs n m) where
      -- contents are told
      pub told_up : m.state ≡ IsUp → IsKnown (IsTold new) note → IsToldAt (Over p)
      told_up up known = lit_on (below_rvg (with_note next n)) next (site_in p) (call_up d old new s o p call (beside_of e s) m reach.stands up).0.0 (next_known known) (rack_told known.0)

      was_over : is_over_rvg m ≡ true
      was_over = over_again n m note call.over (stays.group ∙ note_is n call.over) stays.volumes

      module _ (fuse : Fuse) where
        abbrev k : Node
        k = noted_node m next fuse

        abbrev left : Doubted
        left = with_one e s (noted_node m next fuse)

        is_over : is_over_rvg k ≡ true
        is_over = over_again n k next call.over refl stays.volumes

        is_apart : is_over_group (left.world.nodes s) ≡ false
        is_apart = ap (λ (x : Node). is_over_group x) (at_place e.world.nodes s k) ∙ rvg_apart k is_over

        same_table : over_table k next ≡ over_table m (note_at m)
        same_table =
            call_table d old new s o p call k stays.volumes
            ∙ sym (table_again n m note stays.volumes)
            ∙ ap (λ (x : GroupNode). over_table m x) (sym (some_note (stays.group ∙ note_is n call.over)))
          where
            some_note : m.group ≡ Some note → note_at m ≡ note
            some_note is = ap (λ (x : Option GroupNode). unwrap_or x no_note) is

        fact_left : fact_over left.world s ≡ linked_fact e.world s
        fact_left = fact_noted m next fuse was_over is_over same_table e s reach.here

        module _ (line : ScriptLine) (lit : fuse_behind line n.fuse m.fuse ≡ fuse) where
          left_as : IsAs e (noting_over line d.world e.world s next) left
          left_as = record {
            world = ap (λ (x : Fuse). with_node e.world s (noted_node m next x)) (sym lit)
                ∙ ap (λ (y : Node). with_node e.world s (noted_node y next (fuse_behind line n.fuse y.fuse))) (sym reach.here);
            after = λ i. refl;
            strayed = refl;
          }

          ends_over : (borne ending fails : Fails) (inner said : Said) → fails ≡ borne ++ ending → AreOf s borne → Ends (IsKnown (IsTold new) note) d line (site_of d.world line) ending inner e
              → NotesLine (FuseRanOut n inner) s fails line note next → SaysOver n next inner said → EndsOver (IsTold new) d line s fails said left
          ends_over borne ending fails inner said split bears ends notes says = record {
            borne = borne;
            ending = ending;
            split = split;
            bears = bears;
            inner = inner;
            middle = e;
            ends = ends;
            next = next;
            notes = notes;
            says = says;
            left = left_as;
          }

          leads_over : (said : Said) (fails : Fails) → Comes d left s (Over p) → NotedOver (left.world.nodes s) (Over p) → OverRvg (IsTold new) d line (rvg_place d.world line) fails said left
              → (f : SiteFacts) → f ≡ linked_fact e.world s → new.facts.items ≡ slice_set old.facts.items s f → (Carries d old → Carries left new) → RoseAll fails (count_of old) (count_of new) → LeadsAbove d line said old new
          leads_over said fails comes noted works f shown facts carries rose = record {
            next = left;
            fails = fails;
            works = works;
            stands = stands_at d left old new s f (Over o) (Over p) call.stands call.below call.changed comes
                (λ _. begins_apart s (beside_of left s) (left.world.nodes s) (Over p) comes.stands is_apart) (λ _. noted) (shown ∙ sym fact_left) facts;
            carries = carries;
            rose = rose;
          }

      -- ---- the line by which these ends are those of a line at such a site

      module _ (line : ScriptLine) (inner said : Said) (lined : (fails : Fails) → NotesWork (FuseRanOut n inner) s fails note next → NotesLine (FuseRanOut n inner) s fails line note next)
          (wrap : (fails : Fails) (x : Doubted) → EndsOver (IsTold new) d line s fails said x → OverRvg (IsTold new) d line (rvg_place d.world line) fails said x)
          (says : SaysOver n next inner said) (f : SiteFacts) (shown : f ≡ linked_fact e.world s) (facts : new.facts.items ≡ slice_set old.facts.items s f) where
        -- the site is up still
        module _ (up : m.state ≡ IsUp) (lit : fuse_behind line n.fuse m.fuse ≡ burned n.fuse) (on : (x : Meaning) → FuseOn m.fuse x → FuseOn (burned n.fuse) x) (off : m.fuse ≡ NoFuse → burned n.fuse ≡ NoFuse)
            (carries : Carries d old → Carries (with_one e s (noted_node m next (burned n.fuse))) new) where
          abbrev agrees : AgreesStill note next (site_disks (site_in o)) (site_disks (site_in p))
          agrees = (call_up d old new s o p call (beside_of e s) m reach.stands up).1

          abbrev extra : ℕ
          extra = up_extra d old new s o p call agrees

          up_leads : (fails : Fails) → EndsOver (IsTold new) d line s fails said (with_one e s (noted_node m next (burned n.fuse))) → RoseAll fails (count_of old) (count_of new) → LeadsAbove d line said old new
          up_leads fails ends rose =
              leads_over (burned n.fuse) line lit said fails
              (comes_up d old new s o p call e m reach stays up on off)
              (noted_up d old new s o p call e m reach stays up)
              (wrap fails (with_one e s (noted_node m next (burned n.fuse))) ends) f shown facts carries rose

          -- no call ended the line
          pub over_done : Ends (IsKnown (IsTold new) note) d line (site_of d.world line) [] inner e → LeadsAbove d line said old new
          over_done ends =
              let fails : Fails = done_calls d old new s o p call extra in
              up_leads fails
              (ends_over (burned n.fuse) line lit fails [] fails inner said (sym (append-nil fails)) (done_are d old new s o p call extra) ends
              (lined fails (done_up d old new s o p call agrees (FuseRanOut n inner))) says)
              (done_rose d old new s o p call extra)

          -- one on this disk did
          pub over_halts : (disk : ℕ) → Rose ((site_disks (site_in o)).disk_faults disk) ((site_disks (site_in p)).disk_faults disk) → Ends (IsKnown (IsTold new) note) d line (site_of d.world line) ((s, disk) ∷ []) inner e
              → LeadsAbove d line said old new
          over_halts disk rose ends =
              let borne : Fails = borne_calls d old new s o p call disk rose extra in
              let fails : Fails = borne ++ (s, disk) ∷ [] in
              up_leads fails
              (ends_over (burned n.fuse) line lit borne ((s, disk) ∷ []) fails inner said refl (borne_are d old new s o p call disk rose extra) ends
              (lined fails (ended_up d old new s o p call disk rose agrees (FuseRanOut n inner))) says)
              (ended_rose d old new s o p call disk rose extra)

        -- its fuse ran out
        pub over_off : m.state ≡ IsDown → m.fuse ≡ NoFuse → fuse_behind line n.fuse m.fuse ≡ NoFuse → (Carries d old → Carries (with_one e s (noted_node m next NoFuse)) new) → inner ≡ Refused IsOff
            → Ends (IsKnown (IsTold new) note) d line (site_of d.world line) [] inner e → LeadsAbove d line said old new
        over_off down unfused lit carries is ends =
            let fails : Fails = done_calls d old new s o p call 0 in
            leads_over NoFuse line lit said fails
            (comes_off d old new s o p call e m reach stays down unfused)
            (noted_off d old new s o p call e m reach stays down unfused)
            (wrap fails (with_one e s (noted_node m next NoFuse))
            (ends_over NoFuse line lit fails [] fails inner said (sym (append-nil fails)) (done_are d old new s o p call 0) ends
            (lined fails (done_off d old new s o p call (FuseRanOut n inner) ((call_off d old new s o p call (beside_of e s) m reach.stands down).1, is))) says))
            f shown facts carries (done_rose d old new s o p call 0)
