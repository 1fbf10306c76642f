-- A line that makes a replicated volume group, where it is done.
use Rattle.std.proofs.Common.{◌≡◌, ◌∙◌, ◌≤◌, ℕ, false, true, List, map, length, ap, sym, subst, refl, arith}
use Rattle.std.proofs.lemmas.List.{length-map}
use Rattle.std.specs.Prelude.{Option, Some, None, slice_set}
use Rattle.vx_model.specs.Sites.{is_origin}
use Rattle.vx_model.specs.declared.site.Role.{Role}
use Rattle.vx_model.specs.declared.units.Units.{Units}
use Rattle.vx_disk.specs.declared.shelf.Shelf.{Ghosts}
use Rattle.vx_config.specs.Checks.{blocks_of}
use Rattle.vx_config.specs.declared.config.Config.{Config}
use Rattle.vx_config.specs.declared.entry.VolumeEntry.{VolumeEntry}
use Rattle.vx_history.specs.Doubts.{After, Doubted, happened}
use Rattle.vx_history.specs.Groups.{GroupNode}
use Rattle.vx_history.specs.Steps.{worked_on}
use Rattle.vx_history.specs.Volumes.{as_volume, volumes_set}
use Rattle.vx_history.specs.World.{Node, World}
use Rattle.vx_history.specs.declared.event.Event.TheVariants.{Volumes as VolumesAt}
use Rattle.vx_history.specs.declared.volumes.DataVolume.{DataVolume}
use Rattle.vx_model.specs.Content.{Write}
use Rattle.vx_grouped.specs.GroupSites.{HasNoRvg, with_note}
use Rattle.vx_diskset.proofs.NotedLikes.{cut_none}
use Rattle.vx_diskset.proofs.Roles.{role_origin}
use Rattle.vx_diskset.proofs.UnitsLie.{units_some}
use Rattle.vx_diskset.specs.Asked.{FailsAs, FusedAs, SameFailing}
use Rattle.vx_diskset.specs.GroupCalls.{CalledOn}
use Rattle.vx_diskset.specs.Holds.{beside_of, doubt_of}
use Rattle.vx_diskset.specs.Makings.{StandsUnlinked, rvg_made}
use Rattle.vx_diskset.specs.Noted.{IsNamed, NotedOver, SiteNoted}
use Rattle.vx_diskset.specs.Stands.{RoleIs, SiteStands}
use Rattle.vx_diskset.specs.declared.disk_set.DiskSet.{DiskSet}
use Rattle.vx_diskset.specs.declared.disk_set.DiskSet.TheVariants.{Bare, Spoiled, Up, Receives, Down, OfGroup, Over, Gone}
use Rattle.vx_events.proofs.Places.{never_some, some_same}
use Rattle.vx_events.specs.GroupLines.{noting}
use Rattle.vx_events.specs.GroupNotes.{note_at}
use Rattle.vx_events.specs.RvgFits.{data_at, data_of, entries_noted, FitsSome, HasUnits}
use Rattle.vx_events.specs.RvgNotes.{note_gained, srl_blocks, units_named}
use Rattle.vx_events.specs.RvgViews.{is_over_rvg}
use Rattle.vx_events.specs.StepsOver.{fact_of_group, fact_over}
use Rattle.vx_yard.proofs.Carrying.{Feeds, SameLoad, carries_at}
use Rattle.vx_yard.proofs.FailsStay.{fails_then}
use Rattle.vx_yard.proofs.OneSite.{Changed, Comes, told_by, stands_at}
use Rattle.vx_yard.proofs.OverGroup.{many_apart, set_notes, with_data}
use Rattle.vx_yard.specs.Carries.{Carries}
use Rattle.vx_yard.specs.Standing.{BeginsFirst, StandsFor}
use Rattle.vx_yard.specs.declared.yard.Yard.{Yard}
use Rattle.vx_group_lines.proofs.Arriving.{Arrives, arrives_data, arrives_none, arrives_noted, arrives_worked, noted_at}
use Rattle.vx_above.proofs.Changing.{notes_config}
use Rattle.vx_group_lines.proofs.GroupLeads.{feeds_nobody}
use Rattle.vx_group_lines.proofs.RvgAt.{RvgAt, asks_config, asks_fits, entries_same}
use Rattle.vx_group_lines.proofs.RvgCalls.{fused_below}
use Rattle.vx_group_lines.proofs.RvgFacts.{gained_fact, up_seen}
use Rattle.vx_group_lines.proofs.RvgStanding.{RvgOver, rvg_over, set_volumes}
use Rattle.vx_group_lines.specs.Noting.{made_facts}
use Rattle.vx_kept.specs.Cleans.{at_serial}
use Rattle.vx_events.specs.GroupViews.{config_of}

no_after : (w : World) (s : ℕ) (o : Option After) → doubt_of w s o ≡ None → o ≡ None
no_after w s None is = refl
no_after w s (Some a) is = absurd (never_some (sym is))

module _ {R : Type 0} {g : Ghosts R} where
  -- what stands by one note of a site stands by that which the site notes
  pub over_noted : (k : Node) (note : GroupNode) (e : DiskSet R g) → k.group ≡ Some note → IsNamed k → SiteNoted k note e → NotedOver k e
  over_noted k note (Bare rack) is named it = tt
  over_noted k note (Spoiled rack) is named it = tt
  over_noted k note (Up rvg) is named it = tt
  over_noted k note (Receives site) is named it = tt
  over_noted k note (Down rack) is named it = tt
  over_noted k note (OfGroup site) is named it = tt
  over_noted k note (Over site) is named it = (λ other there. subst (λ (x : GroupNode). SiteNoted k x (Over site)) (some_same (sym is ∙ there)) it, named)
  over_noted k note Gone is named it = tt

module _ {R : Type 0} {g : Ghosts R} (d : Doubted) (old new : Yard R g) (name srl maps : List ℕ) (volumes : List (List ℕ)) (s : ℕ) (before after : DiskSet R g) (stands : StandsFor d old)
    (at : RvgAt d old name srl maps volumes s before) (changed : Changed old new s before after) (failing : SameFailing before after) (since : CalledOn before after) where
  abbrev n : Node
  n = d.world.nodes s

  abbrev note : GroupNode
  note = note_at (d.world.nodes s)

  abbrev units : Units
  units = units_named (note_at (d.world.nodes s)) srl maps volumes

  abbrev entries : List VolumeEntry
  entries = entries_noted (note_at (d.world.nodes s))

  abbrev config : Config
  config = (asks_config d old name srl maps volumes s before stands at).config

  none : HasNoRvg (d.world.nodes s)
  none = (set_notes (beside_of d s) n at.group.set at.group.stands at.group.made).1.none

  pub rvg_begins : Arrives d d s (d.world.nodes s) (d.world.gathering s)
  rvg_begins = arrives_none d s stands.links (no_after d.world s (d.after s) (at.group.stands.sure at.group.made)) (at.group.stands.unlinked at.group.made)

  since_set : CalledOn (OfGroup at.group.set) after
  since_set = subst (λ (x : DiskSet R g). CalledOn x after) at.group.is_set since

  module _ (middle settled : GroupNode) where
    abbrev gained : GroupNode
    gained = note_gained units settled

    abbrev parts : List DataVolume
    parts = data_of entries units

    abbrev log : ℕ
    log = srl_blocks note units

    abbrev noted_node : Node
    noted_node = record (d.world.nodes s) { group = Some middle }

    abbrev k : Node
    k = with_note gained (volumes_set log parts noted_node)

    abbrev mid_world : Doubted
    mid_world = happened (noted_at d s middle) (VolumesAt s log parts) false

    abbrev pub rvg_next : Doubted
    rvg_next = record mid_world { world = worked_on (noting mid_world.world s gained) s }

    many : 1 ≤ length (map as_volume parts)
    many =
        let fits : 1 ≤ length units.vols = units_some config.volumes units (asks_fits d old name srl maps volumes s before stands at) in
        omega (arith, fits, length-map parts as_volume, length-map units.vols (data_at entries))

    arrives : Arrives d rvg_next s k (d.world.gathering s)
    arrives =
        arrives_worked d mid_world s (volumes_set log parts noted_node) gained (d.world.gathering s)
        (arrives_data d (noted_at d s middle) s noted_node log parts (d.world.gathering s) (arrives_noted d d s n middle (d.world.gathering s) rvg_begins) at.group.below at.up
        (record { role = none.role; volumes = none.volumes; log = none.log; safe = none.safe; running = none.running })
        (λ empty. omega (arith, many, ap (λ vs. length vs) empty)))

    same_made : rvg_made config units middle gained (d.world.nodes s) ≡ k
    same_made = ap (λ (vs : List VolumeEntry). with_note gained (volumes_set (blocks_of vs units.srl) (data_of vs units) noted_node)) (sym (entries_same d old name srl maps volumes s before stands at))

    -- the site has the replicated volume group of what it notes
    module _ (made : StandsUnlinked (rvg_made config units middle gained (d.world.nodes s)) after) (noted : SiteNoted (rvg_made config units middle gained (d.world.nodes s)) gained after)
        (fits : (c : Config) → config_of gained.config ≡ Some c → FitsSome (rvg_next.world.nodes s) c) (has : (c : Config) → config_of gained.config ≡ Some c → (c.rvg ≡ Some units) × HasUnits c.volumes units) (clear : gained.cut ≡ None) where
      here : SiteStands (beside_of rvg_next s) k after
      here = subst (λ (x : Node). StandsUnlinked x after) same_made made (beside_of rvg_next s) arrives.links (ap (λ (o : Option After). doubt_of rvg_next.world s o) arrives.sure)

      origin : is_origin n.role ≡ true
      origin = ap (λ (r : Role). is_origin r) none.role

      over : is_over_rvg k ≡ true
      over = with_data k.group (length k.volumes) refl many

      pub sits : RvgOver (beside_of rvg_next s) k gained after
      sits = rvg_over (beside_of rvg_next s) k gained after here (subst (λ (x : Node). SiteNoted x gained after) same_made noted) (many_apart k many) at.up origin

      comes : Comes d rvg_next s after
      comes = record {
        changes = arrives.site;
        links = arrives.fits;
        stands = subst (λ (x : Node). SiteStands (beside_of rvg_next s) x after) (sym arrives.node) here;
        failing = subst (λ (x : Node). FailsAs x after) (sym arrives.node) (fails_then n k before after refl failing (stands.failing s before at.group.below changed.there));
        fuse = subst (λ (x : Node). FusedAs x after) (sym arrives.node)
            (fused_below n k at.group.set after refl since_set sits.up (subst (λ (x : DiskSet R g). FusedAs n x) at.group.is_set (stands.fuses s before at.group.below changed.there)));
        role = subst (λ (x : Node). RoleIs x after) (sym arrives.node) (role_origin k after origin);
        doubt = λ was a is. absurd (never_some (sym arrives.sure ∙ is));
      }

      fits_here : FitsSome k (at_serial 0 sits.config)
      fits_here = subst (λ (x : Node). FitsSome x (at_serial 0 sits.config)) arrives.node (fits (at_serial 0 sits.config) (notes_config gained sits.config sits.noted))

      here_named : IsNamed k
      here_named =
          let noted : config_of gained.config ≡ Some (at_serial 0 sits.config) = notes_config gained sits.config sits.noted in
          let it = has (at_serial 0 sits.config) noted in (
            at_serial 0 sits.config,
            fits_here.0,
            noted,
            fits_here.1.rvg,
            fits_here.1.volumes,
            subst (λ (u : Units). HasUnits sits.config.volumes u) (some_same (sym it.0 ∙ fits_here.1.rvg)) it.1,
            cut_none k gained refl clear,
          )

      -- and it is so noted
      here_noted : NotedOver k after
      here_noted = over_noted k gained after refl here_named (subst (λ (x : Node). SiteNoted x gained after) same_made noted)

      pub seen : made_facts sits.core sits.config (fact_of_group (d.world.nodes s) (note_at (d.world.nodes s))) ≡ fact_over rvg_next.world s
      seen = gained_fact rvg_next.world s n k note gained sits.core sits.config fits_here.0 arrives.node refl (notes_config gained sits.config sits.noted) at.up over (many_apart k many) fits_here.1.rvg fits_here.1.volumes arrives.links refl refl refl
          (up_seen (beside_of rvg_next s) k sits.core (set_volumes after) sits.stands none.running (ap (λ (ws : List Write). length ws) none.log ∙ sym none.safe))

      -- the yard stands for the world in which the site has it
      pub gained_stands : new.facts.items ≡ slice_set old.facts.items s (made_facts sits.core sits.config (fact_of_group (d.world.nodes s) (note_at (d.world.nodes s)))) → StandsFor rvg_next new
      gained_stands facts =
          stands_at d rvg_next old new s (made_facts sits.core sits.config (fact_of_group n note)) before after stands at.group.below changed comes
          (λ was. subst (λ (x : Node). BeginsFirst s x) (sym arrives.node) (arrives.first was)) (λ _. subst (λ (x : Node). NotedOver x after) (sym arrives.node) here_noted) seen facts

      pub gained_carries : SameLoad old new → Carries d old → Carries rvg_next new
      gained_carries load carries =
          carries_at s d rvg_next old new carries load (record { site = arrives.site; packets = arrives.packets; gathering = arrives.gathering })
          (subst (λ (x : Node). Feeds n x) (sym arrives.node) (feeds_nobody n k none.role)) (told_by old new s before after changed)
