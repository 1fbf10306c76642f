-- What a line that makes no replicated volume group leads its yard to, where the fuse of the disks ran out in it.
use Rattle.std.proofs.Common.{◌≡◌, ◌∙◌, ◌+◌, ℕ, true, false, List, length, ap, sym, subst, refl, arith, ⊎_elim}
use Rattle.std.proofs.lemmas.Bool.{cases_eq}
use Rattle.std.specs.Prelude.{◌&&◌, Some, None, eqb, not, slice_set}
use Rattle.vx_model.specs.declared.no.No.TheVariants.{Down as IsOff}
use Rattle.vx_model.specs.declared.site.SiteState.TheVariants.{Up as IsUp, Deported as IsAway, Down as IsDown}
use Rattle.vx_model.specs.declared.units.Units.{Units}
use Rattle.vx_disk.specs.Shelf.{Meaning}
use Rattle.vx_disk.specs.declared.shelf.Shelf.{Ghosts}
use Rattle.vx_history.specs.Doubts.{Doubted, happened}
use Rattle.vx_history.specs.Groups.{GroupNode, NoteWorks}
use Rattle.vx_history.specs.Steps.{crashed}
use Rattle.vx_history.specs.Stops.{IsFused}
use Rattle.vx_history.specs.World.{Node, Volume}
use Rattle.vx_history.specs.declared.event.Event.TheVariants.{Crash as CrashAt}
use Rattle.vx_script.specs.declared.line.ScriptLine.TheVariants.{Rvg}
use Rattle.vx_effects.specs.Facts.{down_fact}
use Rattle.vx_grouped.specs.ConfigMoves.{LosesSome, none_again}
use Rattle.vx_grouped.specs.GroupNotes.{NotesConfig}
use Rattle.vx_grouped.specs.GroupSites.{DownNoted, HasNoRvg, site_disks, with_note}
use Rattle.vx_grouped.specs.SiteEnds.{ConfigGoes}
use Rattle.vx_grouped.specs.SiteMaps.{StandMaps}
use Rattle.vx_grouped.specs.declared.group_site.GroupSite.{GroupSite}
use Rattle.vx_grouped.specs.declared.group_site.GroupSite.TheVariants.{Up as SiteUp, Deported as SiteAway, Down as SiteFell, Marked, Gone as SiteGone}
use Rattle.vx_diskset.specs.Asked.{SameFailing}
use Rattle.vx_diskset.specs.GroupCalls.{CalledOn, cut_in}
use Rattle.vx_diskset.specs.GroupSets.{cut_value}
use Rattle.vx_diskset.specs.Holds.{beside_of}
use Rattle.vx_diskset.specs.Makings.{NarrowsNote, PlainNoted, below_in, note_begun}
use Rattle.vx_diskset.specs.Noted.{NotedOn}
use Rattle.vx_diskset.specs.Stands.{faults_at}
use Rattle.vx_diskset.specs.declared.disk_set.DiskSet.{DiskSet}
use Rattle.vx_diskset.specs.declared.disk_set.DiskSet.TheVariants.{Bare, Spoiled, Up, Receives, Down, OfGroup, Over, Gone}
use Rattle.vx_diskset.specs.declared.group_set.CutWrite.{CutWrite}
use Rattle.vx_diskset.specs.declared.group_set.GroupSet.{GroupSet}
use Rattle.vx_events.specs.Fails.{Fails}
use Rattle.vx_events.specs.GroupNotes.{note_at}
use Rattle.vx_events.specs.GroupViews.{noted_table}
use Rattle.vx_events.specs.RvgFits.{rvg_noted}
use Rattle.vx_events.specs.RvgMakes.{MakesRvg, RvgCut}
use Rattle.vx_events.specs.RvgNotes.{units_named}
use Rattle.vx_events.specs.RvgSteps.{HasNoRvgs}
use Rattle.vx_events.specs.RvgViews.{is_over_rvg}
use Rattle.vx_events.specs.RvgWorks.{WorksAs}
use Rattle.vx_events.specs.StepsOver.{fact_of_group}
use Rattle.vx_events.specs.declared.said.Said.TheVariants.{Refused}
use Rattle.vx_yard.proofs.Carrying.{LetsGo}
use Rattle.vx_yard.proofs.OneSite.{Changed}
use Rattle.vx_yard.proofs.OverGroup.{set_notes}
use Rattle.vx_yard.specs.Gaining.{LeadsRvg}
use Rattle.vx_yard.specs.Standing.{StandsFor}
use Rattle.vx_yard.specs.Yards.{IsTold, count_of}
use Rattle.vx_yard.specs.declared.yard.Yard.{Yard}
use Rattle.vx_above.proofs.Changing.{moves_table}
use Rattle.vx_above.proofs.Fails.{calls_of}
use Rattle.vx_above.proofs.Losing.{Names}
use Rattle.vx_above.proofs.SiteCalls.{calls, names_below, rose_below}
use Rattle.vx_group_lines.proofs.Arriving.{Arrives, arrives_crash, arrives_worked}
use Rattle.vx_group_lines.proofs.GroupAt.{no_value}
use Rattle.vx_group_lines.proofs.GroupCalls.{down_seen, off_follows}
use Rattle.vx_group_lines.proofs.GroupEnding.{world_off}
use Rattle.vx_group_lines.proofs.GroupLeads.{Follows}
use Rattle.vx_group_lines.proofs.GroupMarks.{group_noted_at}
use Rattle.vx_group_lines.proofs.Plains.{rvg_goes}
use Rattle.vx_group_lines.proofs.RvgAt.{RvgAt, asks_aside}
use Rattle.vx_group_lines.proofs.RvgCalls.{below_faults}
use Rattle.vx_group_lines.proofs.RvgGained.{rvg_begins}
use Rattle.vx_group_lines.proofs.RvgNotes.{notes_none}
use Rattle.vx_group_lines.proofs.RvgRefused.{plain_noted}
use Rattle.vx_group_lines.proofs.RvgStays.{rvg_uncut}

module _ {R : Type 0} {g : Ghosts R} where
  noted_down : (m : Node) (next : GroupNode) (e : GroupSite R g) → NotedOn m next e → m.state ≡ IsDown → DownNoted m next e
  noted_down m next (SiteUp laid) it down = absurd (let clash : IsUp ≡ IsDown = sym it.at.state ∙ down in cc)
  noted_down m next (SiteAway idle) it down = absurd (let clash : IsAway ≡ IsDown = sym it.away.state ∙ down in cc)
  noted_down m next (SiteFell idle) it down = it
  noted_down m next (Marked rack) it down = absurd it
  noted_down m next SiteGone it down = absurd it

  -- the group of such a site
  record PlainFell (m : Node) (next : GroupNode) (e : DiskSet R g) : Type 0 where
    set : GroupSet R g
    is : e ≡ OfGroup set
    noted : DownNoted m next set.site
    cut : cut_value set.cut ≡ next.cut

  plain_fell : (m : Node) (next : GroupNode) (e : DiskSet R g) → PlainNoted m next e → m.state ≡ IsDown → PlainFell m next e
  plain_fell m next (OfGroup s) it down = record { set = s; is = refl; noted = noted_down m next s.site it.0 down; cut = it.1 }
  plain_fell m next (Bare rack) it down = absurd it
  plain_fell m next (Spoiled rack) it down = absurd it
  plain_fell m next (Up rvg) it down = absurd it
  plain_fell m next (Receives s) it down = absurd it
  plain_fell m next (Down rack) it down = absurd it
  plain_fell m next (Over s) it down = absurd it
  plain_fell m next Gone it down = absurd it

  module _ (d : Doubted) (old new : Yard R g) (name srl maps : List ℕ) (volumes : List (List ℕ)) (s : ℕ) (before after : DiskSet R g) (stands : StandsFor d old)
      (at : RvgAt d old name srl maps volumes s before) (changed : Changed old new s before after) (failing : SameFailing before after) (since : CalledOn before after) where
    abbrev n : Node
    n = d.world.nodes s

    abbrev note : GroupNode
    note = note_at (d.world.nodes s)

    abbrev units : Units
    units = units_named (note_at (d.world.nodes s)) srl maps volumes

    abbrev was_site : GroupSite R g
    was_site = at.group.set.site

    abbrev now_site : GroupSite R g
    now_site = below_in after at.group.set.site

    abbrev o : Meaning
    o = site_disks was_site

    abbrev e : Meaning
    e = site_disks now_site

    none : HasNoRvg (d.world.nodes s)
    none = (set_notes (beside_of d s) n at.group.set at.group.stands at.group.made).1.none

    clear : note.cut ≡ None
    clear = rvg_uncut d old new name srl maps volumes s before after stands at changed failing since

    module _ (middle next : GroupNode) (narrows : NarrowsNote (note.dark ≡ false) units note middle) (works : NoteWorks (note_begun units middle) next) (goes : ConfigGoes (LosesSome o e) middle next was_site now_site)
        (maps_stand : StandMaps next now_site) (noted : PlainNoted (crashed (with_note next (d.world.nodes s)) 0) next after) (fused : IsFused n.fuse) where
      abbrev m : Node
      m = crashed (with_note next (d.world.nodes s)) 0

      abbrev many : ℕ
      many = o.units + length goes.was.disks

      abbrev fails : Fails
      fails = calls s old new many

      names : Names s many fails o e
      names = names_below old new s before after changed o e (λ k. ap (λ (x : DiskSet R g). faults_at x k) at.group.is_set) (below_faults m next after was_site (plain_noted m next after noted)) many (omega arith)

      keeps : WorksAs (IsFused n.fuse) s fails (note_begun units middle) next
      keeps = record { works = works; quiet = λ none off agreed. absurd (off fused) }

      was_noted : NotesConfig note goes.was
      was_noted = record { is = ap (λ (k : GroupNode). k.config) (sym narrows.same) ∙ goes.noted.is; spells = goes.noted.spells }

      table : noted_table next ≡ noted_table note
      table = moves_table s many fails o e note next names none_again goes.was goes.now was_noted goes.noted_now goes.change

      same_rvg : rvg_noted next ≡ rvg_noted note
      same_rvg = rvg_goes note next goes.was goes.now was_noted goes.noted_now goes.change.parts.rvg

      fell : PlainFell m next after
      fell = plain_fell m next after noted refl

      next_clear : next.cut ≡ None
      next_clear = works.same.cut ∙ ap (λ (k : GroupNode). k.cut) narrows.same ∙ clear

      stand_maps : StandMaps next fell.set.site
      stand_maps = subst (λ (x : DiskSet R g). StandMaps next (below_in x was_site)) fell.is maps_stand

      none_cut : (x : CutWrite) → fell.set.cut ≡ Some x → ⊥
      none_cut x is = let clash : Some x ≡ None = sym is ∙ no_value fell.set.cut (fell.cut ∙ next_clear) in cc

      arrives : Arrives d (world_off d s next) s m None
      arrives =
          arrives_worked d (happened d (CrashAt s 0) false) s (crashed n 0) next None
          (arrives_crash d d s n (d.world.gathering s) (rvg_begins d old new name srl maps volumes s before after stands at changed failing since) at.group.below at.up none.log none.safe)

      alone : is_over_rvg m ≡ false
      alone = ap (λ (vs : List Volume). true && not (eqb (length vs) 0)) none.volumes

      -- no site gets a replicated volume group
      fell_none : HasNoRvgs d.world → HasNoRvgs (world_off d s next).world
      fell_none never i = ⊎_elim
          (λ (same : i ≡ s). ap (λ (j : ℕ). is_over_rvg ((world_off d s next).world.nodes j)) same ∙ ap (λ (x : Node). is_over_rvg x) arrives.node ∙ alone)
          (λ apart. ap (λ (x : Node). is_over_rvg x) (arrives.site.nodes i apart) ∙ never i)
          (cases_eq i s)

      makes : MakesRvg (IsTold new) d (Rvg name srl maps volumes) s fails (Refused IsOff) (world_off d s next)
      makes =
          RvgCut name srl maps volumes next refl (calls_of s (count_of old s) (count_of new s) many) fused
          (notes_none s many fails o e names (IsTold new) units note middle narrows goes.was goes.now goes.noted (omega arith) next goes.noted_now goes.change (asks_aside d old name srl maps volumes s before stands at) (IsFused n.fuse) keeps) refl
          (record { world = refl; after = λ i. refl; strayed = refl })

      follows : new.facts.items ≡ slice_set old.facts.items s (down_fact (fact_of_group (d.world.nodes s) (note_at (d.world.nodes s)))) → LetsGo old new s → Follows d (world_off d s next) old new
      follows facts lets =
          off_follows d old new name s before after stands (record { at = at.group; changed = changed; failing = failing }) next fell.set at.up fell.is fell.noted stand_maps
          (same_rvg ∙ at.group.stands.plain at.group.made note (group_noted_at d old name s before at.group)) (ap (λ (x : DiskSet R g). cut_in x) fell.is ∙ fell.cut) (λ x is. absurd (none_cut x is))
          (down_fact (fact_of_group n note)) (down_seen n note next none.volumes table) facts lets

      pub fell_leads : new.facts.items ≡ slice_set old.facts.items s (down_fact (fact_of_group (d.world.nodes s) (note_at (d.world.nodes s)))) → LetsGo old new s → LeadsRvg d name srl maps volumes (Refused IsOff) old new
      fell_leads facts lets = record {
        next = world_off d s next;
        fails = fails;
        makes = subst (λ (k : ℕ). MakesRvg (IsTold new) d (Rvg name srl maps volumes) k fails (Refused IsOff) (world_off d s next)) (sym at.number) makes;
        stands = (follows facts lets).stands;
        none = λ other never. fell_none never;
        carries = (follows facts lets).carries;
        rose = rose_below old new s before after changed many;
      }
