-- How a recovery or an import moves the note of a group below a replicated volume group, where it brought the group up: by the import, and by the calls of the log then.
use Rattle.std.proofs.Common.{◌≡◌, ◌∙◌, ◌+◌, ◌<◌, ◌≤◌, ℕ, length, ap, sym, subst, refl, arith, inl, inr, ⊎_elim, IsTrue}
use Rattle.std.specs.Prelude.{List, map, Option, Some, None, Contains, slice_get, unwrap_or}
use Rattle.std.proofs.lemmas.Option.{slice_get_within}
use Rattle.vx_disk.specs.Counts.{Rose}
use Rattle.vx_disk.specs.Shelf.{Meaning}
use Rattle.vx_disk.specs.declared.shelf.Shelf.{Ghosts}
use Rattle.vx_config.specs.Changes.{Matched}
use Rattle.vx_config.specs.declared.config.Config.{Config}
use Rattle.vx_config.specs.declared.entry.VolumeEntry.{VolumeEntry}
use Rattle.vx_kept.specs.Cleans.{at_serial}
use Rattle.vx_history.specs.Doubts.{Doubted}
use Rattle.vx_history.specs.Groups.{GroupNode, NoteWorks}
use Rattle.vx_history.specs.Volumes.{as_volume}
use Rattle.vx_history.specs.World.{Node}
use Rattle.vx_history.specs.declared.volumes.DataVolume.{DataVolume}
use Rattle.vx_grouped.proofs.ReadyLemmas.{imported_same}
use Rattle.vx_grouped.specs.ConfigMoves.{AnyState, LosesSome, VolumeMoves}
use Rattle.vx_grouped.specs.GroupSites.{laid_disks, site_disks}
use Rattle.vx_grouped.specs.SiteEnds.{ConfigGoes}
use Rattle.vx_grouped.specs.SiteReturns.{as_imported, is_dimmed}
use Rattle.vx_grouped.specs.declared.group_site.GroupSite.TheVariants.{Up}
use Rattle.vx_grouped.specs.declared.laid.Laid.{Laid}
use Rattle.vx_diskset.proofs.GroundNotes.{calm_by}
use Rattle.vx_diskset.specs.Aboves.{site_in}
use Rattle.vx_diskset.specs.Layouts.{units_of}
use Rattle.vx_diskset.specs.Noted.{AgreesStill, CutRests, IsNamed, below_rvg}
use Rattle.vx_diskset.specs.OverRises.{CameGroup, note_ready}
use Rattle.vx_diskset.specs.declared.disk_set.DiskSet.TheVariants.{Over}
use Rattle.vx_diskset.specs.declared.over_set.OverSet.{OverSet}
use Rattle.vx_events.proofs.Places.{some_same}
use Rattle.vx_events.proofs.RvgAgain.{all_kept, data_kept, has_kept}
use Rattle.vx_events.specs.Fails.{Fails}
use Rattle.vx_events.specs.GroupConfigs.{VolumeStays}
use Rattle.vx_events.specs.GroupEnds.{AreOf}
use Rattle.vx_events.specs.GroupNotes.{IsKnown, NotesBack, no_note, note_at}
use Rattle.vx_events.specs.GroupViews.{config_of}
use Rattle.vx_events.specs.RvgFits.{KeptConfig, KeptVolume, NoteKeepsRvg, config_rvg}
use Rattle.vx_events.specs.RvgWorks.{NotesWork}
use Rattle.vx_yard.specs.Stands.{RoseAll}
use Rattle.vx_yard.specs.Yards.{IsTold, count_of}
use Rattle.vx_yard.specs.declared.yard.Yard.{Yard}
use Rattle.vx_above.proofs.Changing.{notes_config}
use Rattle.vx_above.proofs.Fails.{calls_name, calls_of}
use Rattle.vx_above.proofs.Losing.{Names, placed_as}
use Rattle.vx_above.proofs.Quiet.{quiet_by, rose_disk, works_note}
use Rattle.vx_above.proofs.SiteCalls.{calls, count_new, count_old, rose_below}
use Rattle.vx_group_lines.proofs.Returning.{SitsOn, back_of, volume_stays}
use Rattle.vx_group_lines.proofs.RvgComing.{RestCall}

-- a volume that stands as it did is kept
keep_volume : (e : VolumeEntry) (o : Option VolumeEntry) → Matched VolumeStays (Some e) o → KeptVolume e o
keep_volume e None it = absurd it
keep_volume e (Some f) it = record { now = f; is = refl; name = it.name; blocks = it.blocks }

-- what rose from a count no less to one no greater
rose_between : (a x y z : ℕ) → a ≤ x → Rose x y → y ≤ z → Rose a z
rose_between a x y z low it high = record {
  fell_not = omega (arith, low, it.fell_not, high);
  rose = ⊎_elim (λ less. inl (omega (arith, low, less, high))) (λ top. inr (omega (arith, top, high))) it.rose;
}

-- the data volumes of a site are those of another note as well that keeps the replicated volume group
pub named_again : (n m : Node) (next : GroupNode) → m.volumes ≡ n.volumes → m.group ≡ Some next → NoteKeepsRvg (note_at n) next → CutRests m → IsNamed n → IsNamed m
named_again n m next volumes group keeps rests it =
    let k : KeptConfig it.0 next = keeps it.0 it.2 in (
      k.now,
      it.1,
      ap (λ (o : Option GroupNode). config_of (unwrap_or o no_note).config) group ∙ k.is,
      k.keeps.rvg ∙ it.3,
      volumes ∙ it.4 ∙ ap (λ (ys : List DataVolume). map as_volume ys) (sym (data_kept it.0 k.now k.keeps it.1.vols it.5.vols)),
      record { srl = has_kept it.0 k.now k.keeps it.1.srl it.5.srl; vols = all_kept it.0 k.now k.keeps it.1.vols it.5.vols },
      rests,
    )

module _ {R : Type 0} {g : Ghosts R} (b : Doubted) (old new : Yard R g) (s : ℕ) (o p : OverSet R g) (call : RestCall b old new s o (Over p)) where
  abbrev n : Node
  n = b.world.nodes s

  abbrev note : GroupNode
  note = note_at (b.world.nodes s)

  -- ---- the calls on its disks

  abbrev pub calls_at : ℕ → Fails
  calls_at many = calls s old new many

  pub calls_are_of : (many : ℕ) → AreOf s (calls_at many)
  calls_are_of many = calls_of s (count_of old s) (count_of new s) many

  pub calls_rose : (many : ℕ) → RoseAll (calls_at many) (count_of old) (count_of new)
  calls_rose many = rose_below old new s (Over o) (Over p) call.changed many

  -- one of each disk whose count rose, from a moment on between those before and behind
  pub call_named : (many k : ℕ) (from to : ℕ) → k < many → (site_disks (site_in o)).disk_faults k ≤ from → Rose from to → to ≤ (site_disks (site_in p)).disk_faults k → Contains (calls_at many) (s, k)
  call_named many k from to below later rose last =
      calls_name s (count_of old s) (count_of new s) many k below
      (rose_between (count_of old s k) from to (count_of new s k) (omega (arith, later, count_old old new s (Over o) (Over p) call.changed k)) rose
      (omega (arith, last, count_new old new s (Over o) (Over p) call.changed k)))

  -- ---- the group came up

  module _ (laid : Laid R g) (group : CameGroup (b.world.nodes s) (note_at (b.world.nodes s)) (site_in o) laid) (x : OverSet R g) (to : (k : ℕ) → (laid_disks laid).disk_faults k ≤ (site_disks (site_in x)).disk_faults k)
      (last : (k : ℕ) → (site_disks (site_in x)).disk_faults k ≤ (site_disks (site_in p)).disk_faults k) where
    abbrev middle : GroupNode
    middle = group.middle

    abbrev mid : Meaning
    mid = laid_disks laid

    -- behind the calls of its log
    abbrev now : Meaning
    now = site_disks (site_in x)

    abbrev pub many_at : ℕ → ℕ
    many_at extra = n.disks + mid.units + extra

    names_mid : (extra : ℕ) → Names s (many_at extra) (calls_at (many_at extra)) mid now
    names_mid extra = record {
      many = omega arith;
      each = λ k below rose. call_named (many_at extra) k (mid.disk_faults k) (now.disk_faults k) below (group.from k) rose (last k);
    }

    -- as a site notes it with as many disks, as large
    pub group_back : (m : Node) (extra : ℕ) → (b.world.nodes s).disks ≡ m.disks → (b.world.nodes s).blocks ≡ m.blocks → (IsKnown (IsTold new) group.middle → IsTrue (laid_disks laid).tells)
        → NotesBack (IsTold new) s m (calls_at (many_at extra)) (note_at (b.world.nodes s)) group.middle
    group_back m extra disks blocks tells =
        let sits : SitsOn (below_rvg n) (as_imported (site_in o)) = call.sits in
        back_of (IsTold new) (is_dimmed (site_in o)) s m note middle (as_imported (site_in o)) (Up laid) (calls_at (many_at extra)) tells
        (record { units = sits.units ∙ disks; size = λ u low. sits.size u (omega (arith, low, disks)) ∙ blocks })
        call.loose group.returns group.config
        (λ k low rose. call_named (many_at extra) k ((as_imported (site_in o)).disk_faults k) (mid.disk_faults k) (omega (arith, low, disks))
        (omega (arith, (imported_same {R = R} {g = g} (site_in o)).counts k)) rose (omega (arith, to k, last k)))

    -- with the replicated volume group that the site has, and the volumes below it
    pub group_keeps : IsTrue (laid_disks laid).tells → group.config.now.rvg ≡ Some (units_of (b.world.nodes s)) → NoteKeepsRvg (note_at (b.world.nodes s)) group.middle
    group_keeps tells named c at = record {
      now = at_serial 0 group.config.now;
      is = notes_config middle group.config.now group.config.noted_now;
      keeps = record {
        rvg = named ∙ sym call.noted.3.named ∙ ap (λ (x : Option Config). config_rvg x) at;
        volumes = λ v e is. keep_volume e (slice_get group.config.now.volumes v) (stays v e (ap (λ (x : Config). slice_get x.volumes v) first ∙ is));
      };
    }
      where
        first : at_serial 0 group.config.was ≡ c
        first = some_same (sym (notes_config (note_ready (site_in o) note) group.config.was group.config.noted) ∙ at)

        stays : (v : ℕ) (e : VolumeEntry) → slice_get group.config.was.volumes v ≡ Some e → Matched VolumeStays (Some e) (slice_get group.config.now.volumes v)
        stays v e is =
            subst (λ (x : Option VolumeEntry). Matched VolumeStays x (slice_get group.config.now.volumes v)) is
            (placed_as (VolumeMoves AnyState) VolumeStays (slice_get group.config.was.volumes v) (slice_get group.config.now.volumes v) (λ x y _ _ moves. volume_stays x y moves)
            (group.config.change.volumes tells v (slice_get_within group.config.was.volumes v e is)))

    -- the fuse of the disks ran out in the calls of the log
    pub group_fused : (Off : Type 0) → Off → (next : GroupNode) → NoteWorks group.middle next → (goes : ConfigGoes (LosesSome (laid_disks laid) (site_disks (site_in x))) group.middle next (Up laid) (site_in x)) → (extra : ℕ) → length goes.was.disks ≤ extra
        → NotesWork Off s (calls_at (many_at extra)) group.middle next
    group_fused Off off next works goes extra enough =
        works_note s (many_at extra) (calls_at (many_at extra)) mid now (names_mid extra) Off middle next goes.was goes.now goes.noted goes.noted_now (omega (arith, enough)) goes.change
        (record { works = works; quiet = λ none never agreed. absurd (never off) })

    -- what the calls of the log made of it then
    module _ (next : GroupNode) (works : NoteWorks group.middle next) (goes : ConfigGoes (LosesSome (laid_disks laid) (site_disks (site_in x))) group.middle next (Up laid) (site_in x))
        (agrees : AgreesStill group.middle next (laid_disks laid) (site_disks (site_in x))) where
      -- so far the disks go of which a failed call is told
      abbrev pub extra_at : ℕ
      extra_at = length goes.was.disks + rose_disk middle next mid now (calm_by middle next mid now agrees) + 1

      pub group_works : (extra : ℕ) → extra_at ≤ extra → NotesWork ⊥ s (calls_at (many_at extra)) group.middle next
      group_works extra enough =
          works_note s (many_at extra) (calls_at (many_at extra)) mid now (names_mid extra) ⊥ middle next goes.was goes.now goes.noted goes.noted_now (omega (arith, enough)) goes.change
          (record {
            works = works;
            quiet = λ none off agreed. quiet_by s (many_at extra) (calls_at (many_at extra)) mid now (names_mid extra) middle next (calm_by middle next mid now agrees) (omega (arith, enough)) none agreed;
          })
