-- An import of a site that was deported, whose group of disks has a replicated volume group: it is known what the disks hold, and the group came up.
use Rattle.std.proofs.Common.{◌≡◌, ◌∙◌, ◌⊎◌, inl, inr, ⊎_elim, ℕ, ◌+◌, ◌≤◌, Bool, true, false, IsTrue, length, ap, arith, refl, subst, sym}
use Rattle.std.specs.Prelude.{Err, Ok, Option, Some, not, ◌&&◌}
use Rattle.vx_disk.specs.Counts.{Rose}
use Rattle.vx_disk.specs.Moves.{Anything}
use Rattle.vx_disk.specs.Racks.{IsRack}
use Rattle.vx_disk.specs.Shelf.{Lawful, Meaning}
use Rattle.vx_disk.specs.declared.shelf.Shelf.{Ghosts}
use Rattle.vx_disk.proofs.Causing.{Rose_before}
use Rattle.vx_disk.proofs.Moving.{still}
use Rattle.vx_events.specs.GroupViews.{config_of}
use Rattle.vx_events.specs.RvgFits.{entries_noted, rvg_noted}
use Rattle.vx_ground.specs.Accounts.{GroundSince, ground_state}
use Rattle.vx_ground.specs.Lifted.{laid_volumes}
use Rattle.vx_group.specs.Settles.{LacksCommit}
use Rattle.vx_grouped.specs.ConfigMoves.{LosesSome}
use Rattle.vx_grouped.specs.GroupNotes.{holds_none, is_sure, note_dimmed}
use Rattle.vx_grouped.specs.GroupSites.{AwayNoted, CutNoted, DownNoted, GroupDown, UpNoted, idle_below, idle_disks, laid_below, laid_disks, site_disks, with_note, GroupUp}
use Rattle.vx_grouped.specs.SiteEnds.{ConfigGoes, stops_down, HasNow}
use Rattle.vx_grouped.specs.declared.group_site.GroupSite.{GroupSite}
use Rattle.vx_grouped.specs.declared.group_site.GroupSite.TheVariants.{Up, Deported, Down}
use Rattle.vx_grouped.specs.declared.idle.Idle.{Idle}
use Rattle.vx_grouped.specs.declared.laid.Laid.{Laid}
use Rattle.vx_history.specs.Groups.{GroupNode}
use Rattle.vx_history.specs.Steps.{burned, crashed, worked}
use Rattle.vx_history.specs.Stops.{IsFused}
use Rattle.vx_history.specs.World.{NoFuse, Node}
use Rattle.vx_model.specs.declared.errors.Stop.{Stop}
use Rattle.vx_model.specs.declared.errors.Stop.TheVariants.{No as Refused, OutOfMemory}
use Rattle.vx_model.specs.declared.no.No.{No}
use Rattle.vx_model.specs.declared.no.No.TheVariants.{Damaged, Device, Down as IsOff, Limit, NoConfig}
use Rattle.vx_model.specs.declared.site.SPhase.TheVariants.{Quiet}
use Rattle.vx_model.specs.declared.site.SiteState.TheVariants.{Deported as IsAway, Down as IsDown}
use Rattle.vx_model.specs.declared.units.Units.{Units}
use Rattle.vx_untold.specs.Shades.{shade_meaning, rack_of}
use Rattle.vx_untold.specs.declared.shade.Shade.{Shade}
use Rattle.vx_watched.specs.Since.{CalledSince}
use Rattle.vx_watched.specs.Traces.{TellsLess}
use Rattle.vx_srl.specs.Views.{most_number}
use Rattle.vx_model.specs.declared.state.State.{State}
use Rattle.vx_grouped.proofs.SettleLemmas.{fell_fused}
use Rattle.vx_ground.proofs.AccountLemmas.{ground_none}
use Rattle.vx_watched.proofs.SinceLemmas.{since_none}
use Rattle.vx_diskset.specs.Aboves.{InsideOf, site_in}
use Rattle.vx_diskset.specs.GroupSets.{cut_value}
use Rattle.vx_diskset.specs.Holds.{KeptBeside, most_header, state_with}
use Rattle.vx_diskset.specs.Layouts.{config_units, units_of}
use Rattle.vx_diskset.specs.Noted.{AgreesStill, FoundNamed, NotedOn, NotesWorked, RestsNamed, SiteNoted, TidyNote, below_rvg}
use Rattle.vx_diskset.specs.OverRises.{CameGroup, RoseAgain, SessionFrom, StartLost, came_with}
use Rattle.vx_diskset.specs.OverStarts.{BroughtBy, FellBack, Revived, StandsOff, Started, StartsOn, TriedOn, UpUnless, all_latest, is_alone}
use Rattle.vx_diskset.specs.OverTakes.{LostAway, LostOff, LostOver, fallen_in, gone_in}
use Rattle.vx_diskset.specs.Stands.{AwayLeft, IsOverSite, RestsOver, idle_ready}
use Rattle.vx_diskset.specs.Works.{LogBlocks, OnlyLog}
use Rattle.vx_diskset.specs.declared.disk_set.DiskSet.TheVariants.{Over}
use Rattle.vx_diskset.specs.declared.group_set.CutWrite.{CutWrite}
use Rattle.vx_diskset.specs.declared.over_set.OverSet.{OverSet}
use Rattle.vx_diskset.proofs.CountMoves.{counts_lose}
use Rattle.vx_diskset.proofs.OverAway.{given_site}
use Rattle.vx_diskset.proofs.OverDisks.{LeavesLess, idle_less, named_less}
use Rattle.vx_diskset.proofs.OverFalls.{crash_fallen, crash_named}
use Rattle.vx_diskset.proofs.OverGone.{risen_gone}
use Rattle.vx_diskset.proofs.OverHas.{HasVolumes, away_has}
use Rattle.vx_diskset.proofs.OverHolds.{CameUp, agreed_told, agrees_down, came_away, came_group, down_for, group_here, never_both}
use Rattle.vx_diskset.proofs.OverKept.{fell_site}
use Rattle.vx_diskset.proofs.OverKnown.{agreed_known, bright_known, counts_known, down_known, inner_known, moved_known, named_config, none_known, ready_known, rose_known, rvg_known, seen_known, units_known}
use Rattle.vx_diskset.proofs.OverLikes.{fed_like}
use Rattle.vx_diskset.proofs.OverLost.{InSession, left_there, lost_away, lost_stands, starting_in, still_in}
use Rattle.vx_diskset.proofs.OverNoted.{cut_down}
use Rattle.vx_diskset.proofs.OverRecovers.{stands_alone}
use Rattle.vx_diskset.proofs.PlainBacks.{fused_back}
use Rattle.vx_diskset.proofs.StartGroup.{limit_same}

sure_left : (a b : Bool) → (a && b) ≡ true → a ≡ true
sure_left true b is = refl
sure_left false b is = absurd (let clash : false ≡ true = is in cc)

module _ {R : Type 0} {g : Ghosts R} (racks : (s : Shade R) → IsRack (shade_meaning g.meaning s)) (laws : (s : Shade R) → Lawful (shade_meaning g.meaning s)) (beside : KeptBeside) (n : Node) (note : GroupNode) (idle : Idle R g) (cut : Option CutWrite) (group : n.group ≡ Some note)
    (state : n.state ≡ IsAway) (quiet : n.phase ≡ Quiet) (over : IsOverSite beside n) (rests : RestsOver (λ c. AwayLeft c beside n (idle_ready idle)) beside n (idle_ready idle)) (away : AwayNoted (below_rvg n) note (Deported idle)) (cut_is : cut_value cut ≡ note.cut) (inside : InsideOf (units_of n) note)
    (tidy : TidyNote (units_of n) note) (names : FoundNamed (units_of n) (length (entries_noted note)) (idle_ready idle)) where
  abbrev ready : GroupNode
  ready = note_dimmed (not idle.agreed) note

  -- ---- the group came up

  module _ (laid : Laid R g) (by : BroughtBy (Deported idle) (Up laid) (Ok tt)) where
    risen : CameUp n note idle laid
    risen = came_away n note idle away laid by

    abbrev came : CameGroup n note (Down idle) laid
    came = came_group n note idle away.agrees names laid risen

    abbrev middle : GroupNode
    middle = came.middle

    group_up : GroupUp (below_rvg (came_with (burned n.fuse) middle n)) middle (laid_below laid).tells laid.core (laid_disks laid)
    group_up = group_here n note idle away.agrees names laid risen

    abbrev as_away : (l : Laid R g) → CameGroup n note (Down idle) l → CameGroup n note (Deported idle) l
    as_away l it = record { middle = it.middle; returns = it.returns; config = it.config; up = it.up; from = it.from }

    -- ---- it is known what the disks hold

    module _ (told : IsTrue (laid_disks laid).tells) where
      has : HasVolumes beside n laid
      has = away_has beside n idle laid risen.brings told rests

      pub taken : (s : OverSet R g) → Started (units_of n) laid s → RoseAgain beside n note (Deported idle) s
      taken s started =
          let it : RoseAgain beside n note (Down idle) s = rose_known racks laws beside n note idle away.agrees names over inside laid risen told has s started in
          record { laid = it.laid; group = as_away it.laid it.group; told = it.told; bright = it.bright; named = it.named; over = it.over; to = it.to }

      module _ (mid : Laid R g) (last : Idle R g) (fell : FellBack mid last) (s : OverSet R g) (cuts : s.cut ≡ cut) (ground : GroundSince (ground_state laid.core) (laid_disks laid) (ground_state mid.core) (laid_disks mid)) (since : CalledSince (laid_disks laid) (laid_disks mid))
          (less : TellsLess (laid_below laid) (laid_below mid)) (only : OnlyLog (units_of n) (laid_volumes laid) (laid_volumes mid)) where
        abbrev lost_moved : NotesWorked (came_with (burned n.fuse) middle n) middle (Up laid) (Up mid)
        lost_moved = moved_known racks laws beside n note idle away.agrees names over inside laid risen told has mid last fell ground since less only

        abbrev worked_note : GroupNode
        worked_note = lost_moved.0

        abbrev rest : GroupNode
        rest = record worked_note { cut = note.cut }

        lost_units : config_units (config_of worked_note.config) ≡ units_of n
        lost_units = units_known racks laws beside n note idle away.agrees names over inside laid risen told has mid last fell ground since less only

        lost_named : rvg_noted worked_note ≡ Some (units_of n)
        lost_named = rvg_known racks laws beside n note idle away.agrees names over inside laid risen told has mid last fell ground since less only

        ready_is : idle_ready last ≡ idle_ready fell.fell
        ready_is = ready_known racks laws beside n note idle away.agrees names over inside laid risen told has mid last fell ground since less only

        counts_down : (d : ℕ) → (idle_disks last).disk_faults d ≡ (laid_disks mid).disk_faults d
        counts_down = counts_known racks laws beside n note idle away.agrees names over inside laid risen told has mid last fell ground since less only

        abbrev lost_node : Node
        lost_node = below_rvg (with_note worked_note (came_with (burned n.fuse) middle n))

        abbrev Ends : Type 0
        Ends = UpNoted lost_node worked_note (Up mid) ⊎ CutNoted lost_node worked_note (Up mid)

        -- what an import may find of the disks
        found_last : Ends → FoundNamed (config_units (config_of worked_note.config)) (length (entries_noted worked_note)) (idle_ready last)
        found_last ends =
            subst (λ (m : Meaning). FoundNamed (config_units (config_of worked_note.config)) (length (entries_noted worked_note)) m) (sym ready_is)
            (subst (λ (u : Units). FoundNamed u (length (entries_noted worked_note)) (idle_ready fell.fell)) (sym lost_units)
            (crash_named all_latest mid fell.fell fell.is (Up mid) refl lost_node worked_note (units_of n) ends lost_named))

        abbrev lost_over : (e : GroupSite R g) → site_in s ≡ e → HasNow lost_moved.2.now e → ((d : ℕ) → (site_disks e).disk_faults d ≡ (laid_disks mid).disk_faults d) → LostOver n note (Deported idle) s
        lost_over e at has_now counts = record {
          laid = laid;
          group = as_away laid came;
          told = told;
          bright = bright_known racks laws beside n note idle away.agrees names over inside laid risen told has;
          named = named_config racks laws beside n note idle away.agrees names over inside laid risen told has;
          seen = seen_known racks laws beside n note idle away.agrees names over inside laid risen told has;
          worked = worked_note;
          works = lost_moved.1;
          goes = subst (λ (x : GroupSite R g). ConfigGoes (LosesSome (laid_disks laid) (site_disks x)) middle worked_note (Up laid) x) (sym at) (record {
            was = lost_moved.2.was;
            now = lost_moved.2.now;
            had = lost_moved.2.had;
            has = has_now;
            noted = lost_moved.2.noted;
            noted_now = lost_moved.2.noted_now;
            change = counts_lose (laid_disks laid) (laid_disks mid) (site_disks e) counts lost_moved.2.was lost_moved.2.now lost_moved.2.change;
          });
          to = λ k. subst (λ (x : GroupSite R g). (laid_disks laid).disk_faults k ≤ (site_disks x).disk_faults k) (sym at) (let more = since.counts k in let same = counts k in omega (arith, more, same));
        }

        lost_site : (k : Node) (e : GroupSite R g) → site_in s ≡ e → config_units (config_of worked_note.config) ≡ units_of k → NotedOn (below_rvg k) rest e → RestsNamed (config_units (config_of worked_note.config)) (length (entries_noted worked_note)) e → SiteNoted k rest (Over s)
        lost_site k e at units noted named = (
          subst (λ (x : GroupSite R g). NotedOn (below_rvg k) rest x) (sym at) noted,
          ap (λ (o : Option CutWrite). cut_value o) cuts ∙ cut_is,
          subst (λ (u : Units). InsideOf u worked_note) (sym lost_units ∙ units) (inner_known racks laws beside n note idle away.agrees names over inside laid risen told has mid last fell ground since less only),
          record { tidy = lost_moved.4; named = lost_named ∙ ap (λ (u : Units). Some u) (sym lost_units ∙ units) },
          subst (λ (x : GroupSite R g). RestsNamed (units_of k) (length (entries_noted worked_note)) x) (sym at) (subst (λ (u : Units). RestsNamed u (length (entries_noted worked_note)) e) units named),
        )

        -- the disks are by themselves

        module _ (x : Idle R g) (at : site_in s ≡ Deported x) (back : Revived last x) (up : IsTrue (laid_disks mid).down → ⊥) where
          counts_x : (d : ℕ) → (idle_disks x).disk_faults d ≡ (laid_disks mid).disk_faults d
          counts_x d = back.alike.counts.disk_faults d ∙ counts_down d

          less_x : LeavesLess (idle_ready last) (idle_ready x)
          less_x = idle_less last x back.agreed back.alike

          never_lacks : UpNoted lost_node worked_note (Up mid) → IsTrue (idle_ready fell.fell).tells → LacksCommit mid.core.inner → ⊥
          never_lacks noted tells lacks =
              let sure : is_sure mid.core ≡ true = sym fell.is.agreed ∙ agreed_told g.meaning fell.fell.agreed fell.fell.rack tells in
              never_both mid.core.inner.committed (sure_left mid.core.inner.committed (holds_none mid.core.held) sure) (noted.at.lies.images.openly lacks.missed)

          gone_noted : (session : ℕ) → UpNoted lost_node worked_note (Up mid) → SiteNoted (gone_in NoFuse session rest n) rest (Over s)
          gone_noted session noted =
              lost_site (gone_in NoFuse session rest n) (Deported x) at refl
              (risen_gone (crashed lost_node 0) (below_rvg (gone_in NoFuse session rest n)) worked_note note.cut last x (record { is = refl; none = record { role = refl; volumes = refl; log = refl; safe = refl; running = refl } }) state refl refl refl back
              (down_known racks laws beside n note idle away.agrees names over inside laid risen told has mid last fell ground since less only noted))
              (named_less (config_units (config_of worked_note.config)) (length (entries_noted worked_note)) (idle_ready last) (idle_ready x) less_x (found_last (inl noted)))

          gone_by : (session : ℕ) → SessionFrom n session → InSession racks laws beside n laid told has mid since only fell.fell fell.is session → (stop : Stop) → StartLost beside n session middle worked_note (Deported idle) (site_in s) stop
              → LostAway beside n note (Deported idle) s stop
          gone_by session from found stop why = by_end lost_moved.3
            where
              by_end : (UpNoted lost_node worked_note (Up mid) × AgreesStill middle worked_note (laid_disks laid) (laid_disks mid)) ⊎ (CutNoted lost_node worked_note (Up mid) × IsFused (burned n.fuse)) → LostAway beside n note (Deported idle) s stop
              by_end (inl it) = record {
                over = lost_over (Deported x) at tt counts_x;
                agrees = subst (λ (e : GroupSite R g). AgreesStill middle worked_note (laid_disks laid) (site_disks e)) (sym at) (agrees_down middle worked_note (laid_disks laid) (laid_disks mid) (idle_disks x) counts_x it.1);
                session = session;
                why = why;
                noted = gone_noted session it.0;
                stands = lost_away racks laws beside n laid told has mid since only fell.fell fell.is session from found rest lost_units n.state NoFuse (never_lacks it.0) x
                    (subst (λ (m : Meaning). LeavesLess m (idle_ready x)) ready_is less_x) over state s (given_site laws s.site x at);
              }
              by_end (inr it) = absurd (up (cut_down lost_node worked_note (Up mid) it.0))

          gone_cause : (why : No) → stops_down (Refused why) ≡ false → StartsOn (units_of n) laid mid (Err why) → LostAway beside n note (Deported idle) s (Refused why)
          gone_cause (Device disk) on it =
              let begun = starting_in racks laws beside n laid told has mid since only fell.fell fell.is it.does.1 in
              let rose : Rose ((idle_disks idle).disk_faults disk) ((laid_disks mid).disk_faults disk) = Rose_before ((idle_disks idle).disk_faults disk) ((laid_disks laid).disk_faults disk) ((laid_disks mid).disk_faults disk) (by.since.counts disk) it.does.2 in
              gone_by begun.0 begun.1 begun.2 (Refused (Device disk)) (
                begun.1,
                subst (λ (e : GroupSite R g). Rose ((idle_disks idle).disk_faults disk) ((site_disks e).disk_faults disk)) (sym at) (subst (λ (k : ℕ). Rose ((idle_disks idle).disk_faults disk) k) (sym (counts_x disk)) rose),
              )
          gone_cause (Limit what most) on it =
              let with = left_there racks laws beside n laid told has in
              gone_by n.session (inl refl) (still_in racks laws beside n laid told has mid since only fell.fell fell.is (λ u b v left. ⊎_elim (λ was. was) (λ none. absurd none) (it.does.3.leaves u b v left))) (Refused (Limit what most)) (
                refl,
                limit_same it.does.2.0 it.does.2.1,
                ⊎_elim (λ (stamp : most_number ≤ most_header beside n + 2). stamp) (λ (session : most_number ≤ n.session). let more : most_number ≤ most_header beside n + 2 = omega arith in more)
                    (it.does.2.2 (state_with n beside.links) n.session (most_header beside n) with.held with.left),
              )
          gone_cause NoConfig on it = let with = left_there racks laws beside n laid told has in absurd (it.does.2.1 (state_with n beside.links) n.session (most_header beside n) with.held with.left)
          gone_cause (Damaged unit block stored computed) on it =
              let with = left_there racks laws beside n laid told has in absurd (it.does.2.3 (state_with n beside.links) n.session (most_header beside n) with.held with.left)
          gone_cause IsOff on it = absurd (let clash : true ≡ false = on in cc)
          gone_cause other on it = absurd it.does.2

        -- they are down

        module _ (at : site_in s ≡ Down last) where
          fallen_last : CutNoted lost_node worked_note (Up mid) → DownNoted (crashed lost_node 0) worked_note (Down last)
          fallen_last it =
              subst (λ (b : Bool). GroupDown (crashed lost_node 0) worked_note b (idle_below last).tells (idle_disks last)) (sym (agreed_known racks laws beside n note idle away.agrees names over inside laid risen told has mid last fell ground since less only))
              (subst (λ (x : Shade R). GroupDown (crashed lost_node 0) worked_note fell.fell.agreed (g.meaning (rack_of x)).tells (shade_meaning g.meaning x)) (sym fell.rack)
              (crash_fallen all_latest mid fell.fell fell.is (Up mid) refl lost_node worked_note lost_moved.4 it))

          down_either : Ends → DownNoted (crashed lost_node 0) worked_note (Down last)
          down_either (inl up) = down_known racks laws beside n note idle away.agrees names over inside laid risen told has mid last fell ground since less only up
          down_either (inr it) = fallen_last it

          off_noted : (session : ℕ) → Ends → SiteNoted (fallen_in session rest n) rest (Over s)
          off_noted session ends =
              lost_site (fallen_in session rest n) (Down last) at refl
              (down_for (crashed lost_node 0) (below_rvg (fallen_in session rest n)) worked_note note.cut last (record { is = refl; none = record { role = refl; volumes = refl; log = refl; safe = refl; running = refl } }) refl refl refl refl (down_either ends))
              (found_last ends)

          ends_of : (UpNoted lost_node worked_note (Up mid) × AgreesStill middle worked_note (laid_disks laid) (laid_disks mid)) ⊎ (CutNoted lost_node worked_note (Up mid) × IsFused (burned n.fuse)) → Ends
          ends_of (inl it) = inl it.0
          ends_of (inr it) = inr it.0

          lost_off : StartsOn (units_of n) laid mid (Err IsOff) → LostOff beside n note (Deported idle) s
          lost_off it =
              let begun = starting_in racks laws beside n laid told has mid since only fell.fell fell.is it.does.1 in
              record {
                over = lost_over (Down last) at tt counts_down;
                fused = fused_back n.fuse (fell_fused (burned n.fuse) (laid_disks laid) (laid_disks mid) group_up.fuse group_up.at.up since.safe it.does.2);
                session = begun.0;
                from = begun.1;
                noted = off_noted begun.0 (ends_of lost_moved.3);
                stands = fed_like beside (let m : Node = record n { state = IsDown; session = begun.0; fuse = NoFuse; group = Some rest } in m) n.other s last (fell_site s.site last at)
                    (lost_stands racks laws beside n laid told has mid since only fell.fell fell.is begun.0 begun.1 begun.2 rest lost_units IsDown NoFuse last ready_is fell.rested over refl refl s (fell_site s.site last at));
              }

      -- what was started stands by itself
      never_off : (mid : Laid R g) → StandsOff (units_of n) laid mid → ⊥
      never_off mid off =
          let with = left_there racks laws beside n laid told has in
          let it = off.starts.does.2.each (state_with n beside.links) n.session (most_header beside n) with.held with.left in
          never_both (is_alone off.core.log.header.state) (ap (λ (x : State). is_alone x) it.0 ∙ stands_alone n beside.links over.5 over.4 quiet) off.linked

      -- the start was refused: the disks are by themselves
      pub lost_taken : (mid : Laid R g) (last : Idle R g) (fell : FellBack mid last) (s : OverSet R g) (x : Idle R g) → site_in s ≡ Deported x → Revived last x → s.cut ≡ cut → (stop : Stop) → stops_down stop ≡ false → UpUnless stop mid → TriedOn (units_of n) laid mid stop
          → LostAway beside n note (Deported idle) s stop
      lost_taken mid last fell s x at back cuts (Refused why) on up (inl it) = gone_cause mid last fell s cuts it.ground it.since it.told it.does.0 x at back (up why refl on) why on it
      lost_taken mid last fell s x at back cuts (Refused why) on up (inr it) = absurd (never_off mid it.1)
      lost_taken mid last fell s x at back cuts OutOfMemory on up it =
          subst (λ (l : Laid R g). FellBack l last → LostAway beside n note (Deported idle) s OutOfMemory) (sym it)
          (λ again. gone_by laid last again s cuts (ground_none (ground_state laid.core) (laid_disks laid)) (since_none (laid_disks laid)) (λ below. below) (still (LogBlocks (units_of n)) Anything (laid_volumes laid)) x at back group_up.at.up n.session (inl refl)
          (still_in racks laws beside n laid told has laid (since_none (laid_disks laid)) (still (LogBlocks (units_of n)) Anything (laid_volumes laid)) again.fell again.is (λ u b v left. left)) OutOfMemory (refl, none_known racks laws beside n note idle away.agrees names over inside laid risen told has last again))
          fell

      -- or its fuse ran out
      pub lost_fused : (mid : Laid R g) (last : Idle R g) (fell : FellBack mid last) (s : OverSet R g) → site_in s ≡ Down last → s.cut ≡ cut → TriedOn (units_of n) laid mid (Refused IsOff) → LostOff beside n note (Deported idle) s
      lost_fused mid last fell s at cuts (inl it) = lost_off mid last fell s cuts it.ground it.since it.told it.does.0 at it
      lost_fused mid last fell s at cuts (inr it) = absurd (never_off mid it.1)
