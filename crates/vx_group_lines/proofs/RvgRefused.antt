-- What a line that makes no replicated volume group leads its yard to: a failed call, want of a serial or of memory ended it.
use Rattle.std.proofs.Common.{◌≡◌, ◌∙◌, ◌⊎◌, ◌+◌, ℕ, false, List, length, ap, sym, subst, refl, arith, inr}
use Rattle.vx_model.specs.declared.limits.TheConstants.{MOST_NUMBER}
use Rattle.vx_model.specs.declared.no.Counted.TheVariants.{Number}
use Rattle.vx_model.specs.declared.no.No.TheVariants.{Device, Limit}
use Rattle.vx_model.specs.declared.units.Units.{Units}
use Rattle.vx_disk.specs.Counts.{Rose}
use Rattle.vx_disk.specs.Shelf.{Meaning}
use Rattle.vx_disk.specs.declared.shelf.Shelf.{Ghosts}
use Rattle.vx_history.specs.Doubts.{Doubted}
use Rattle.vx_history.specs.Groups.{GroupNode, NoteWorks}
use Rattle.vx_history.specs.World.{Node}
use Rattle.vx_script.specs.declared.line.ScriptLine.TheVariants.{Rvg}
use Rattle.vx_groupmaps.specs.Loading.{DeviceRose}
use Rattle.vx_grouped.specs.ConfigMoves.{LosesSome, none_again}
use Rattle.vx_grouped.specs.GroupNotes.{NotesConfig}
use Rattle.vx_grouped.specs.GroupSites.{site_disks, with_note}
use Rattle.vx_grouped.specs.SiteEnds.{ConfigGoes}
use Rattle.vx_grouped.specs.SiteMaps.{StandMaps}
use Rattle.vx_grouped.specs.declared.group_site.GroupSite.{GroupSite}
use Rattle.vx_diskset.specs.Asked.{SameFailing}
use Rattle.vx_diskset.specs.GroupCalls.{CalledOn}
use Rattle.vx_diskset.specs.Makings.{NarrowsNote, PlainNoted, below_in, note_begun}
use Rattle.vx_diskset.specs.Noted.{SiteNoted}
use Rattle.vx_diskset.specs.Stands.{faults_at}
use Rattle.vx_diskset.specs.declared.disk_set.DiskSet.{DiskSet}
use Rattle.vx_diskset.specs.declared.disk_set.DiskSet.TheVariants.{Bare, Spoiled, Up, Receives, Down, OfGroup, Over, Gone}
use Rattle.vx_diskset.specs.declared.group_set.GroupSet.{GroupSet}
use Rattle.vx_events.specs.Fails.{Fails}
use Rattle.vx_events.specs.GroupNotes.{note_at}
use Rattle.vx_events.specs.GroupViews.{noted_table}
use Rattle.vx_events.specs.RvgFits.{rvg_noted}
use Rattle.vx_events.specs.RvgMakes.{MakesRvg, RvgFails, RvgLacks}
use Rattle.vx_events.specs.RvgNotes.{units_named}
use Rattle.vx_events.specs.RvgParts.{RvgShort, ShortMade}
use Rattle.vx_events.specs.RvgWorks.{NoteAgrees, WorksAs}
use Rattle.vx_events.specs.declared.said.Said.{Said}
use Rattle.vx_events.specs.declared.said.Said.TheVariants.{Refused}
use Rattle.vx_yard.proofs.Carrying.{SameLoad}
use Rattle.vx_yard.proofs.CrashLine.{rose_still}
use Rattle.vx_yard.proofs.OneSite.{Changed}
use Rattle.vx_yard.specs.Standing.{StandsFor}
use Rattle.vx_yard.specs.Gaining.{LeadsRvg, StopsRvg}
use Rattle.vx_yard.specs.Yards.{IsTold, count_of}
use Rattle.vx_yard.specs.declared.yard.Yard.{Yard}
use Rattle.vx_above.proofs.Quiet.{quiet_by, rose_disk}
use Rattle.vx_above.proofs.SiteCalls.{calls, names_below, rose_below}
use Rattle.vx_above.proofs.Changing.{moves_table}
use Rattle.vx_above.proofs.Fails.{calls_of}
use Rattle.vx_above.proofs.Losing.{Names}
use Rattle.vx_group_lines.proofs.RvgAt.{RvgAt, asks_aside}
use Rattle.vx_group_lines.proofs.RvgCalls.{below_faults}
use Rattle.vx_group_lines.proofs.Plains.{rvg_goes}
use Rattle.vx_group_lines.proofs.RvgNotes.{notes_lacking, notes_none}
use Rattle.vx_group_lines.proofs.RvgStays.{rvg_left, stays_carries, stays_none, stays_stands}

module _ {R : Type 0} {g : Ghosts R} where
  pub plain_noted : (m : Node) (next : GroupNode) (e : DiskSet R g) → PlainNoted m next e → SiteNoted m next e
  plain_noted m next (OfGroup s) it = it
  plain_noted m next (Bare rack) it = absurd it
  plain_noted m next (Spoiled rack) it = absurd it
  plain_noted m next (Up rvg) it = absurd it
  plain_noted m next (Receives s) it = absurd it
  plain_noted m next (Down rack) it = absurd it
  plain_noted m next (Over s) it = absurd it
  plain_noted m next Gone it = absurd it

  module _ (d : Doubted) (old new : Yard R g) (name srl maps : List ℕ) (volumes : List (List ℕ)) (s : ℕ) (before after : DiskSet R g) (stands : StandsFor d old)
      (at : RvgAt d old name srl maps volumes s before) (changed : Changed old new s before after) (failing : SameFailing before after) (since : CalledOn before after) (facts : new.facts.items ≡ old.facts.items) (load : SameLoad old new) where
    abbrev n : Node
    n = d.world.nodes s

    abbrev note : GroupNode
    note = note_at (d.world.nodes s)

    abbrev units : Units
    units = units_named (note_at (d.world.nodes s)) srl maps volumes

    abbrev was_site : GroupSite R g
    was_site = at.group.set.site

    abbrev now_site : GroupSite R g
    now_site = below_in after at.group.set.site

    abbrev o : Meaning
    o = site_disks was_site

    abbrev e : Meaning
    e = site_disks now_site

    module _ (middle next : GroupNode) (narrows : NarrowsNote (note.dark ≡ false) units note middle) (works : NoteWorks (note_begun units middle) next) (goes : ConfigGoes (LosesSome o e) middle next was_site now_site)
        (maps_stand : StandMaps next now_site) (calm : (NoteAgrees (note_begun units middle) → NoteAgrees next) ⊎ DeviceRose o e) (noted : PlainNoted (with_note next (d.world.nodes s)) next after) (disk : ℕ) where
      abbrev many : ℕ
      many = o.units + length goes.was.disks + rose_disk (note_begun units middle) next o e calm + disk + 1

      abbrev fails : Fails
      fails = calls s old new many

      names : Names s many fails o e
      names = names_below old new s before after changed o e (λ k. ap (λ (x : DiskSet R g). faults_at x k) at.group.is_set)
          (below_faults (with_note next n) next after was_site (plain_noted (with_note next n) next after noted)) many (omega arith)

      keeps : WorksAs ⊥ s fails (note_begun units middle) next
      keeps = record { works = works; quiet = λ none off agreed. quiet_by s many fails o e names (note_begun units middle) next calm (omega arith) none agreed }

      was_noted : NotesConfig note goes.was
      was_noted = record { is = ap (λ (k : GroupNode). k.config) (sym narrows.same) ∙ goes.noted.is; spells = goes.noted.spells }

      table : noted_table next ≡ noted_table note
      table = moves_table s many fails o e note next names none_again goes.was goes.now was_noted goes.noted_now goes.change

      same_rvg : rvg_noted next ≡ rvg_noted note
      same_rvg = rvg_goes note next goes.was goes.now was_noted goes.noted_now goes.change.parts.rvg

      same_cut : next.cut ≡ note.cut
      same_cut = works.same.cut ∙ ap (λ (k : GroupNode). k.cut) narrows.same

      stand_maps : (x : GroupSet R g) → after ≡ OfGroup x → StandMaps next x.site
      stand_maps x is = subst (λ (y : DiskSet R g). StandMaps next (below_in y was_site)) is maps_stand

      abbrev left : Doubted
      left = rvg_left d old new name srl maps volumes s before after stands at changed failing since next noted stand_maps same_cut table

      leads_so : (said : Said) → MakesRvg (IsTold new) d (Rvg name srl maps volumes) s fails said left → LeadsRvg d name srl maps volumes said old new
      leads_so said makes = record {
        next = left;
        fails = fails;
        makes = subst (λ (k : ℕ). MakesRvg (IsTold new) d (Rvg name srl maps volumes) k fails said left) (sym at.number) makes;
        stands = stays_stands d old new name srl maps volumes s before after stands at changed failing since next noted stand_maps same_cut table same_rvg facts;
        none = λ other never. stays_none d old new name srl maps volumes s before after stands at changed failing since next noted stand_maps same_cut table never;
        carries = stays_carries d old new name srl maps volumes s before after stands at changed failing since next noted stand_maps same_cut table load;
        rose = rose_below old new s before after changed many;
      }

      -- a call on this disk failed
      pub fails_leads : Rose (o.disk_faults disk) (e.disk_faults disk) → LeadsRvg d name srl maps volumes (Refused (Device disk)) old new
      fails_leads rose = leads_so (Refused (Device disk))
          (RvgFails name srl maps volumes disk next refl (calls_of s (count_of old s) (count_of new s) many) (names.each disk (omega arith) rose)
          (notes_none s many fails o e names (IsTold new) units note middle narrows goes.was goes.now goes.noted (omega arith) next goes.noted_now goes.change (asks_aside d old name srl maps volumes s before stands at) ⊥ keeps) refl (record { world = refl; after = λ i. refl; strayed = refl }))

      -- no serial is left
      pub lacks_leads : LeadsRvg d name srl maps volumes (Refused (Limit Number MOST_NUMBER)) old new
      lacks_leads = leads_so (Refused (Limit Number MOST_NUMBER))
          (RvgLacks name srl maps volumes next refl (calls_of s (count_of old s) (count_of new s) many)
          (notes_lacking s many fails o e names (IsTold new) units note middle narrows goes.was goes.now goes.noted (omega arith) next goes.noted_now goes.change (asks_aside d old name srl maps volumes s before stands at) keeps) refl (record { world = refl; after = λ i. refl; strayed = refl }))

      -- memory is wanted
      pub memory_leads : StopsRvg d name srl maps volumes old new
      memory_leads = record {
        next = left;
        part = inr (subst (λ (k : ℕ). RvgShort (IsTold new) d (Rvg name srl maps volumes) k left) (sym at.number)
            (ShortMade name srl maps volumes fails next refl (calls_of s (count_of old s) (count_of new s) many)
            (notes_none s many fails o e names (IsTold new) units note middle narrows goes.was goes.now goes.noted (omega arith) next goes.noted_now goes.change (asks_aside d old name srl maps volumes s before stands at) ⊥ keeps) (record { world = refl; after = λ i. refl; strayed = refl })));
        stands = stays_stands d old new name srl maps volumes s before after stands at changed failing since next noted stand_maps same_cut table same_rvg facts;
        none = λ never. stays_none d old new name srl maps volumes s before after stands at changed failing since next noted stand_maps same_cut table never;
        carries = stays_carries d old new name srl maps volumes s before after stands at changed failing since next noted stand_maps same_cut table load;
        rose = rose_still old new s before after changed.there changed.later changed.disk_sets;
      }
