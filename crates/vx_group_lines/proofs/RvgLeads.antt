-- What a line that makes a replicated volume group leads its yard to, where it is done.
use Rattle.std.proofs.Common.{◌≡◌, ◌∙◌, ◌⊎◌, ◌+◌, ℕ, false, List, length, ap, sym, subst, refl, arith}
use Rattle.std.specs.Prelude.{Option, Some, None, slice_set}
use Rattle.vx_model.specs.declared.site.SiteState.TheVariants.{Up as IsUp, Down as IsDown}
use Rattle.vx_model.specs.declared.units.Units.{Units}
use Rattle.vx_disk.specs.Shelf.{Meaning}
use Rattle.vx_disk.specs.declared.shelf.Shelf.{Ghosts}
use Rattle.vx_config.specs.declared.config.Config.{Config}
use Rattle.vx_history.specs.Doubts.{Doubted}
use Rattle.vx_history.specs.Groups.{GroupNode, NoteWorks}
use Rattle.vx_history.specs.World.{Node}
use Rattle.vx_rvg.specs.Views.{Core}
use Rattle.vx_script.specs.declared.line.ScriptLine.TheVariants.{Rvg}
use Rattle.vx_groupmaps.specs.Loading.{DeviceRose}
use Rattle.vx_grouped.specs.ConfigMoves.{LosesSome}
use Rattle.vx_grouped.specs.GroupSites.{site_config, site_disks, HasNoRvg}
use Rattle.vx_grouped.specs.SiteEnds.{ConfigGoes}
use Rattle.vx_grouped.specs.declared.group_site.GroupSite.{GroupSite}
use Rattle.vx_diskset.specs.Asked.{SameFailing}
use Rattle.vx_diskset.specs.GroupSets.{noted_cut}
use Rattle.vx_diskset.specs.GroupCalls.{AtSite, CalledOn, core_in}
use Rattle.vx_diskset.specs.Makings.{NarrowsNote, StandsUnlinked, below_in, rvg_made}
use Rattle.vx_diskset.specs.Noted.{SiteNoted}
use Rattle.vx_diskset.specs.Stands.{faults_at}
use Rattle.vx_diskset.specs.declared.disk_set.DiskSet.{DiskSet}
use Rattle.vx_events.proofs.Places.{some_same}
use Rattle.vx_events.specs.Fails.{Fails}
use Rattle.vx_events.specs.GroupNotes.{note_at}
use Rattle.vx_events.specs.RvgMakes.{MakesRvg, RvgDone, noting_in}
use Rattle.vx_events.specs.RvgNotes.{HasOneValue, NotesRvg, as_replicated, note_gained, units_named, volume_events}
use Rattle.vx_events.specs.RvgWorks.{NoteAgrees}
use Rattle.vx_events.specs.StepsOver.{fact_of_group}
use Rattle.vx_events.specs.declared.said.Said.TheVariants.{Done}
use Rattle.vx_yard.proofs.Carrying.{SameLoad}
use Rattle.vx_yard.proofs.OneSite.{Changed}
use Rattle.vx_yard.specs.Standing.{StandsFor}
use Rattle.vx_yard.specs.Gaining.{LeadsRvg}
use Rattle.vx_yard.specs.Yards.{IsTold, count_of}
use Rattle.vx_yard.specs.declared.yard.Yard.{Yard}
use Rattle.vx_above.proofs.Quiet.{quiet_by, rose_disk}
use Rattle.vx_above.proofs.SiteCalls.{calls, names_below, rose_below}
use Rattle.vx_above.proofs.Fails.{calls_of}
use Rattle.vx_above.proofs.Losing.{Names}
use Rattle.vx_group_lines.proofs.GroupAt.{uncut}
use Rattle.vx_group_lines.proofs.GroupMarks.{group_noted_at}
use Rattle.vx_group_lines.proofs.RvgAt.{RvgAt, asks_config}
use Rattle.vx_group_lines.proofs.RvgCalls.{below_faults}
use Rattle.vx_group_lines.proofs.RvgGained.{gained_carries, gained_stands, rvg_next, sits}
use Rattle.vx_group_lines.proofs.RvgNotes.{notes_rvg}
use Rattle.vx_group_lines.specs.Noting.{made_facts}
use Rattle.vx_events.specs.RvgFits.{FitsSome, HasUnits}
use Rattle.vx_diskset.specs.Holds.{beside_of}
use Rattle.vx_events.specs.GroupViews.{config_of}
use Rattle.vx_events.proofs.RvgTests.{gained_note, gained_units}
use Rattle.vx_events.proofs.RvgGains.{made_fits}
use Rattle.vx_events.specs.Doubts.{run_as}
use Rattle.vx_yard.proofs.OverGroup.{set_notes}

module _ {R : Type 0} {g : Ghosts R} (d : Doubted) (old new : Yard R g) (name srl maps : List ℕ) (volumes : List (List ℕ)) (s : ℕ) (before after : DiskSet R g) (stands : StandsFor d old)
    (at : RvgAt d old name srl maps volumes s before) (changed : Changed old new s before after) (failing : SameFailing before after) (since : CalledOn before after) where
  abbrev n : Node
  n = d.world.nodes s

  abbrev note : GroupNode
  note = note_at (d.world.nodes s)

  abbrev units : Units
  units = units_named (note_at (d.world.nodes s)) srl maps volumes

  abbrev config : Config
  config = (asks_config d old name srl maps volumes s before stands at).config

  abbrev was_site : GroupSite R g
  was_site = at.group.set.site

  abbrev now_site : GroupSite R g
  now_site = below_in after at.group.set.site

  module _ (middle settled : GroupNode) (narrows : NarrowsNote (note.dark ≡ false) units note middle) (one : HasOneValue units middle) (works : NoteWorks middle settled)
      (goes : ConfigGoes (λ x y. LosesSome (site_disks was_site) (site_disks now_site) (as_replicated units x) y) middle settled was_site now_site) (calm : (NoteAgrees middle → NoteAgrees settled) ⊎ DeviceRose (site_disks was_site) (site_disks now_site))
      (made : StandsUnlinked (rvg_made config units middle (note_gained units settled) (d.world.nodes s)) after)
      (noted : SiteNoted (rvg_made config units middle (note_gained units settled) (d.world.nodes s)) (note_gained units settled) after) where
    abbrev o : Meaning
    o = site_disks was_site

    abbrev e : Meaning
    e = site_disks now_site

    abbrev many : ℕ
    many = o.units + length goes.was.disks + rose_disk middle settled o e calm + 1

    abbrev fails : Fails
    fails = calls s old new many

    names : Names s many fails o e
    names = names_below old new s before after changed o e (λ k. ap (λ (x : DiskSet R g). faults_at x k) at.group.is_set)
        (below_faults (rvg_made config units middle (note_gained units settled) (d.world.nodes s)) (note_gained units settled) after was_site noted) many (omega arith)

    notes : NotesRvg (IsTold new) s fails units note middle (note_gained units settled)
    notes = notes_rvg s many fails o e names (IsTold new) units note middle narrows goes.was goes.now goes.noted (omega arith) settled goes.noted_now goes.change one
        (record { works = works; quiet = λ none off agreed. quiet_by s many fails o e names middle settled calm (omega arith) none agreed })

    none : HasNoRvg (d.world.nodes s)
    none = (set_notes (beside_of d s) n at.group.set at.group.stands at.group.made).1.none

    abbrev next : Doubted
    next = rvg_next d old new name srl maps volumes s before after stands at changed failing since middle settled

    makes : MakesRvg (IsTold new) d (Rvg name srl maps volumes) s fails Done next
    makes = RvgDone name srl maps volumes middle (note_gained units settled) refl (calls_of s (count_of old s) (count_of new s) many) notes refl (record { world = refl; after = λ i. refl; strayed = refl })

    fits : (c : Config) → config_of (note_gained units settled).config ≡ Some c → FitsSome (next.world.nodes s) c
    fits c is =
        made_fits (IsTold new) d (Rvg name srl maps volumes) s fails Done next c
        (record { below = at.group.below; up = at.up; running = none.running; role = none.role; volumes = none.volumes; log = none.log }) makes refl
        (ap (λ (x : GroupNode). config_of x.config) (gained_note s (note_gained units settled) (run_as false (noting_in d s middle) (volume_events note s units)) next (record { world = refl; after = λ i. refl; strayed = refl })) ∙ is)

    units_so : (c : Config) → config_of (note_gained units settled).config ≡ Some c → (c.rvg ≡ Some units) × HasUnits c.volumes units
    units_so c is =
        let same : notes.moves.now ≡ c = some_same (sym (ap (λ (x : GroupNode). config_of x.config) notes.is ∙ notes.moves.is) ∙ is) in (
          ap (λ (x : Config). x.rvg) (sym same) ∙ notes.moves.change.rvg,
          subst (λ (x : Config). HasUnits x.volumes units) same (gained_units (IsTold new) s fails units note middle (note_gained units settled) notes at.may.has),
        )

    -- no write is cut at a site that is up
    clear : settled.cut ≡ None
    clear =
        works.same.cut ∙ ap (λ (x : GroupNode). x.cut) narrows.same
        ∙ sym (at.group.stands.cut ∙ ap (λ (x : Option GroupNode). noted_cut x) (group_noted_at d old name s before at.group))
        ∙ uncut (beside_of d s) n at.group.set at.group.stands (λ down. let w : IsUp ≡ IsDown = sym at.up ∙ down in absurd (cc))

    pub gained_leads : ((core : Core) (c : Config) → core_in after ≡ Some core → AtSite (λ x. site_config x ≡ Some c) after → new.facts.items ≡ slice_set old.facts.items s (made_facts core c (fact_of_group (d.world.nodes s) (note_at (d.world.nodes s)))))
        → SameLoad old new → LeadsRvg d name srl maps volumes Done old new
    gained_leads shown load =
        let there = sits d old new name srl maps volumes s before after stands at changed failing since middle settled made noted fits units_so clear in
        record {
          next = next;
          fails = fails;
          makes = subst (λ (k : ℕ). MakesRvg (IsTold new) d (Rvg name srl maps volumes) k fails Done next) (sym at.number) makes;
          stands = gained_stands d old new name srl maps volumes s before after stands at changed failing since middle settled made noted fits units_so clear (shown there.core there.config there.has_core there.has);
          none = λ other. absurd (other refl);
          carries = gained_carries d old new name srl maps volumes s before after stands at changed failing since middle settled made noted fits units_so clear load;
          rose = rose_below old new s before after changed many;
        }
