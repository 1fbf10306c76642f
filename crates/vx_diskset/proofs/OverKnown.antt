-- A site whose group came up, of which it is known what the disks hold: it has the replicated volume group of the site, which came up, or was refused.
use Rattle.std.proofs.Common.{◌≡◌, ◌∙◌, ◌⊎◌, inl, inr, ℕ, ◌≤◌, Bool, true, false, length, not, IsTrue, ap, arith, refl, subst, sym}
use Rattle.std.specs.Prelude.{Option, Some}
use Rattle.vx_config.specs.declared.config.Config.{Config}
use Rattle.vx_disk.specs.Moves.{Anything}
use Rattle.vx_disk.specs.Racks.{IsRack}
use Rattle.vx_disk.specs.Shelf.{Lawful, Meaning}
use Rattle.vx_disk.specs.declared.shelf.Shelf.{Ghosts}
use Rattle.vx_events.specs.GroupViews.{config_of, volumes_of}
use Rattle.vx_events.specs.RvgFits.{entries_noted, rvg_noted}
use Rattle.vx_ground.specs.Accounts.{GroundSince, ground_state}
use Rattle.vx_ground.specs.Lifted.{laid_volumes}
use Rattle.vx_group.proofs.HoldLemmas.{wide_shape}
use Rattle.vx_grouped.specs.Brings.{BringsSite}
use Rattle.vx_grouped.specs.ConfigMoves.{LosesSome}
use Rattle.vx_grouped.specs.GroupNotes.{note_dimmed}
use Rattle.vx_grouped.specs.GroupSites.{CutNoted, DownNoted, GroupDown, GroupUp, UpNoted, idle_below, idle_disks, laid_below, laid_disks, site_disks, with_note}
use Rattle.vx_grouped.specs.Readies.{ready_of}
use Rattle.vx_grouped.specs.SiteEnds.{ConfigGoes}
use Rattle.vx_grouped.specs.declared.group_site.GroupSite.{GroupSite}
use Rattle.vx_grouped.specs.declared.group_site.GroupSite.TheVariants.{Up, Down}
use Rattle.vx_grouped.specs.declared.idle.Idle.{Idle}
use Rattle.vx_grouped.specs.declared.laid.Laid.{Laid}
use Rattle.vx_history.specs.Groups.{GroupNode}
use Rattle.vx_history.specs.Steps.{burned, crashed}
use Rattle.vx_history.specs.Stops.{IsFused}
use Rattle.vx_history.proofs.Fuses.{burned_twice}
use Rattle.vx_history.specs.World.{Fuse, Node}
use Rattle.vx_model.specs.declared.units.Units.{Units}
use Rattle.vx_untold.specs.Shades.{rack_of, shade_meaning}
use Rattle.vx_untold.specs.declared.shade.Shade.{Shade}
use Rattle.vx_watched.specs.Since.{CalledSince}
use Rattle.vx_watched.specs.Traces.{TellsLess}
use Rattle.vx_diskset.specs.Aboves.{InsideOf}
use Rattle.vx_diskset.specs.Fuses.{FuseOn}
use Rattle.vx_diskset.specs.GroupSets.{cut_value}
use Rattle.vx_diskset.specs.Holds.{KeptBeside}
use Rattle.vx_diskset.specs.Layouts.{config_units, units_of}
use Rattle.vx_diskset.specs.Noted.{AgreesStill, FoundNamed, NotedOn, NotesWorked, RestsNamed, TidyNote, below_rvg}
use Rattle.vx_diskset.specs.OverRises.{CameGroup, CameOver, RoseAgain, came_with}
use Rattle.vx_diskset.specs.OverStarts.{FellBack, Started, all_latest}
use Rattle.vx_diskset.specs.Stands.{IsOverSite, idle_ready}
use Rattle.vx_diskset.specs.Works.{LogBlocks, OnlyLog}
use Rattle.vx_diskset.specs.declared.group_set.CutWrite.{CutWrite}
use Rattle.vx_diskset.specs.declared.over_set.OverSet.{OverSet}
use Rattle.vx_disk.proofs.Moving.{still}
use Rattle.vx_ground.proofs.AccountLemmas.{ground_none}
use Rattle.vx_watched.proofs.SinceLemmas.{since_none}
use Rattle.vx_diskset.proofs.MadeOver.{fuse_over}
use Rattle.vx_diskset.proofs.OverCame.{took}
use Rattle.vx_diskset.proofs.OverFalls.{crash_noted}
use Rattle.vx_diskset.proofs.OverHas.{HasVolumes, told_before}
use Rattle.vx_diskset.proofs.OverHolds.{agreed_told, bright_told, came_group, CameUp, ground_same, group_here, names_found, read_rvg}
use Rattle.vx_diskset.proofs.OverMoved.{inside_then, moved, moved_is, named_then, tidy_then, units_then}
use Rattle.vx_diskset.proofs.OverNoted.{note_read}
use Rattle.vx_diskset.proofs.OverReturns.{came_again, came_session}
use Rattle.vx_diskset.proofs.OverNoted.{cut_down}

module _ {R : Type 0} {g : Ghosts R} (racks : (s : Shade R) → IsRack (shade_meaning g.meaning s)) (laws : (s : Shade R) → Lawful (shade_meaning g.meaning s)) (beside : KeptBeside) (n : Node) (note : GroupNode) (idle : Idle R g) (agrees : note.loose ≡ false → idle.agreed ≡ true)
    (names : FoundNamed (units_of n) (length (entries_noted note)) (idle_ready idle)) (over : IsOverSite beside n) (inside : InsideOf (units_of n) note) (laid : Laid R g) (risen : CameUp n note idle laid) (told : IsTrue (laid_disks laid).tells) (has : HasVolumes beside n laid) where
  abbrev ready : GroupNode
  ready = note_dimmed (not idle.agreed) note

  abbrev came : CameGroup n note (Down idle) laid
  came = came_group n note idle agrees names laid risen

  abbrev middle : GroupNode
  middle = came.middle

  abbrev brings : BringsSite (idle_ready idle) laid
  brings = risen.brings

  abbrev first : Meaning
  first = shade_meaning g.meaning brings.first

  pub group_up : GroupUp (below_rvg (came_with (burned n.fuse) middle n)) middle (laid_below laid).tells laid.core (laid_disks laid)
  group_up = group_here n note idle agrees names laid risen

  pub bright_known : not idle.agreed ≡ false
  bright_known = ap not (agreed_told g.meaning idle.agreed idle.rack (told_before beside n idle laid brings told))

  pub inside_known : InsideOf (units_of n) middle
  inside_known = λ v disk. ap (λ (f : ℕ → Bool). f v) came.returns.inside ∙ inside v disk

  pub named_known : rvg_noted middle ≡ Some (units_of n)
  named_known = read_rvg n note idle agrees names laid risen ∙ (names_found n note idle agrees names laid risen told).0

  pub named_config : came.config.now.rvg ≡ Some (units_of n)
  named_config = ap (λ (c : Config). c.rvg) (sym came.config.has) ∙ (names_found n note idle agrees names laid risen told).0

  -- the volumes are those that were noted
  pub seen_known : length came.config.now.volumes ≡ length came.config.was.volumes
  seen_known =
      let it = took (idle_ready idle) first laid.core (laid_disks laid) brings.revived brings.brings told in
      let here = it.goes.units in
      let shape = it.opens.alike.shape.volumes in
      let wide_is = (wide_shape laid.core).volumes in
      let now_is : length laid.core.inner.config.volumes ≡ length it.config.volumes = omega (arith, here, shape, wide_is) in
      ap (λ (c : Config). length c.volumes) (sym came.config.has) ∙ now_is ∙ (names_found n note idle agrees names laid risen told).1 ∙ ap (λ (o : Option Config). length (volumes_of o)) (note_read ready came.config.was came.config.noted)

  -- ---- and its replicated volume group came up

  module _ (s : OverSet R g) (started : Started (units_of n) laid s) where
    abbrev rose_moved : NotesWorked (came_with (burned n.fuse) middle n) middle (Up laid) (Up started.laid)
    rose_moved = moved racks n middle (burned n.fuse) (units_of n) laid started.laid inside_known named_known group_up started.starts.ground started.starts.since started.starts.told started.starts.does.0

    abbrev rose_next : GroupNode
    rose_next = rose_moved.0

    rose_units : config_units (config_of rose_next.config) ≡ units_of n
    rose_units = units_then racks n middle (burned n.fuse) (units_of n) laid started.laid inside_known named_known group_up started.starts.ground started.starts.since started.starts.told started.starts.does.0

    rose_inside : InsideOf (units_of n) rose_next
    rose_inside = inside_then racks n middle (burned n.fuse) (units_of n) laid started.laid inside_known named_known group_up started.starts.ground started.starts.since started.starts.told started.starts.does.0

    rose_tidy : TidyNote (units_of n) rose_next
    rose_tidy = tidy_then racks n middle (burned n.fuse) (units_of n) laid started.laid inside_known named_known group_up started.starts.ground started.starts.since started.starts.told started.starts.does.0

    rose_by : UpNoted (below_rvg (with_note rose_next (came_with (burned n.fuse) middle n))) rose_next (Up started.laid) → AgreesStill middle rose_next (laid_disks laid) (laid_disks started.laid) → CameOver beside n middle (burned (burned n.fuse)) laid s
    rose_by up agrees =
        let lit : FuseOn (burned (burned n.fuse)) (laid_volumes started.laid) = fuse_over (burned n.fuse) (laid_disks started.laid) (laid_volumes started.laid) (λ off. off) up.fuse in
        record {
          next = rose_next;
          works = rose_moved.1;
          goes = subst (λ (e : GroupSite R g). ConfigGoes (LosesSome (laid_disks laid) (site_disks e)) middle rose_next (Up laid) e) (sym started.site) rose_moved.2;
          agrees = subst (λ (e : GroupSite R g). AgreesStill middle rose_next (laid_disks laid) (site_disks e)) (sym started.site) agrees;
          noted = (
            subst (λ (e : GroupSite R g). NotedOn (below_rvg (came_with (burned (burned n.fuse)) rose_next n)) rose_next e) (sym started.site) up,
            ap (λ (o : Option CutWrite). cut_value o) started.cut ∙ sym (rose_moved.1.same.cut ∙ came.returns.cut),
            subst (λ (u : Units). InsideOf u rose_next) (sym rose_units) rose_inside,
            subst (λ (u : Units). TidyNote u rose_next) (sym rose_units) rose_tidy,
            subst (λ (e : GroupSite R g). RestsNamed (config_units (config_of rose_next.config)) (length (entries_noted rose_next)) e) (sym started.site) tt,
          );
          stands = came_again laws beside n rose_next (burned (burned n.fuse)) laid s rose_units over started told lit has;
          session = came_session laws beside n rose_next (burned (burned n.fuse)) laid s rose_units over started told lit has;
        }

    pub rose_known : RoseAgain beside n note (Down idle) s
    rose_known = by_end rose_moved.3
      where
        by_end : (UpNoted (below_rvg (with_note rose_next (came_with (burned n.fuse) middle n))) rose_next (Up started.laid) × AgreesStill middle rose_next (laid_disks laid) (laid_disks started.laid))
            ⊎ (CutNoted (below_rvg (with_note rose_next (came_with (burned n.fuse) middle n))) rose_next (Up started.laid) × IsFused (burned n.fuse)) → RoseAgain beside n note (Down idle) s
        by_end (inl it) = record {
          laid = laid;
          group = came;
          told = told;
          bright = bright_known;
          named = named_config;
          over = subst (λ (f : Fuse). CameOver beside n middle f laid s) (burned_twice n.fuse) (rose_by it.0 it.1);
          to = λ k. subst (λ (e : GroupSite R g). (laid_disks laid).disk_faults k ≤ (site_disks e).disk_faults k) (sym started.site) (started.starts.since.counts k);
        }
        by_end (inr it) = absurd (started.starts.does.3 (cut_down (below_rvg (with_note rose_next (came_with (burned n.fuse) middle n))) rose_next (Up started.laid) it.0))

  -- ---- or it was refused

  module _ (mid : Laid R g) (last : Idle R g) (fell : FellBack mid last) (ground : GroundSince (ground_state laid.core) (laid_disks laid) (ground_state mid.core) (laid_disks mid)) (since : CalledSince (laid_disks laid) (laid_disks mid))
      (less : TellsLess (laid_below laid) (laid_below mid)) (only : OnlyLog (units_of n) (laid_volumes laid) (laid_volumes mid)) where
    abbrev pub moved_known : NotesWorked (came_with (burned n.fuse) middle n) middle (Up laid) (Up mid)
    moved_known = moved racks n middle (burned n.fuse) (units_of n) laid mid inside_known named_known group_up ground since less only

    abbrev worked : GroupNode
    worked = moved_known.0

    pub units_known : config_units (config_of worked.config) ≡ units_of n
    units_known = units_then racks n middle (burned n.fuse) (units_of n) laid mid inside_known named_known group_up ground since less only

    pub rvg_known : rvg_noted worked ≡ Some (units_of n)
    rvg_known = named_then racks n middle (burned n.fuse) (units_of n) laid mid inside_known named_known group_up ground since less only

    pub inner_known : InsideOf (units_of n) worked
    inner_known = inside_then racks n middle (burned n.fuse) (units_of n) laid mid inside_known named_known group_up ground since less only

    fell_told : IsTrue (idle_disks fell.fell).tells
    fell_told = fell.is.stopped.tells ∙ since.tells ∙ told

    pub agreed_known : last.agreed ≡ fell.fell.agreed
    agreed_known = fell.agreed (bright_told g.meaning fell.fell.rack fell_told)

    pub ready_known : idle_ready last ≡ idle_ready fell.fell
    ready_known = ap (λ (b : Bool). shade_meaning g.meaning (ready_of b last.rack)) agreed_known ∙ ap (λ (x : Shade R). shade_meaning g.meaning (ready_of fell.fell.agreed x)) fell.rack

    pub counts_known : (d : ℕ) → (idle_disks last).disk_faults d ≡ (laid_disks mid).disk_faults d
    counts_known d = ap (λ (x : Shade R). (shade_meaning g.meaning x).disk_faults d) fell.rack ∙ fell.is.stopped.counts.disk_faults d

    abbrev lost_node : Node
    lost_node = below_rvg (with_note worked (came_with (burned n.fuse) middle n))

    -- the group of the site as it crashed
    pub down_known : UpNoted lost_node worked (Up mid) → DownNoted (crashed lost_node 0) worked (Down last)
    down_known up =
        subst (λ (b : Bool). GroupDown (crashed lost_node 0) worked b (idle_below last).tells (idle_disks last)) (sym agreed_known)
        (subst (λ (x : Shade R). GroupDown (crashed lost_node 0) worked fell.fell.agreed (g.meaning (rack_of x)).tells (shade_meaning g.meaning x)) (sym fell.rack)
        (crash_noted all_latest mid fell.fell fell.is (Up mid) refl lost_node worked moved_known.4 up))

  -- behind no call the note is the same
  pub none_known : (last : Idle R g) (fell : FellBack laid last)
      → (moved_known laid last fell (ground_none (ground_state laid.core) (laid_disks laid)) (since_none (laid_disks laid)) (λ below. below) (still (LogBlocks (units_of n)) Anything (laid_volumes laid))).0 ≡ middle
  none_known last fell =
      moved_is racks n middle (burned n.fuse) (units_of n) laid laid inside_known named_known group_up (ground_none (ground_state laid.core) (laid_disks laid)) (since_none (laid_disks laid)) (λ below. below) (still (LogBlocks (units_of n)) Anything (laid_volumes laid))
      ∙ ground_same n note idle agrees names laid risen
