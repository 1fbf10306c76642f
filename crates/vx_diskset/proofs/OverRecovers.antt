-- What a recovery leaves of a site that is down, whose group of disks has a replicated volume group.
use Rattle.std.proofs.Common.{◌≡◌, ◌∙◌, ◌⊎◌, inl, inr, ⊎_elim, ℕ, ◌+◌, ◌≤◌, Bool, true, false, List, [], length, not, IsTrue, ap, arith, refl, subst, sym}
use Rattle.std.proofs.lemmas.Option.{same_Some}
use Rattle.std.specs.Prelude.{◌&&◌, Err, None, Ok, Option, Result, Some}
use Rattle.vx_disk.specs.Counts.{Rose}
use Rattle.vx_disk.specs.Moves.{Anything}
use Rattle.vx_disk.specs.Racks.{IsRack}
use Rattle.vx_disk.specs.Shelf.{Lawful, Meaning}
use Rattle.vx_disk.specs.declared.shelf.Shelf.{Ghosts}
use Rattle.vx_disk.proofs.Causing.{Rose_before}
use Rattle.vx_disk.proofs.Moving.{still}
use Rattle.vx_events.specs.GroupViews.{config_of}
use Rattle.vx_events.specs.RvgFits.{entries_noted, rvg_noted}
use Rattle.vx_ground.specs.Accounts.{GroundSince, ground_state}
use Rattle.vx_ground.specs.Lifted.{laid_volumes}
use Rattle.vx_ground.proofs.AccountLemmas.{ground_none}
use Rattle.vx_grouped.specs.Brings.{BringsSite}
use Rattle.vx_grouped.specs.ConfigMoves.{LosesSome}
use Rattle.vx_grouped.specs.GroupNotes.{note_dimmed}
use Rattle.vx_grouped.specs.GroupSites.{CutNoted, DownNoted, GroupUp, UpNoted, idle_disks, laid_below, laid_disks, site_disks, with_note}
use Rattle.vx_grouped.specs.SiteEnds.{ConfigGoes}
use Rattle.vx_grouped.specs.declared.group_site.GroupSite.{GroupSite}
use Rattle.vx_grouped.specs.declared.group_site.GroupSite.TheVariants.{Up, Deported, Down, Marked, Gone}
use Rattle.vx_grouped.specs.declared.idle.Idle.{Idle}
use Rattle.vx_grouped.specs.declared.laid.Laid.{Laid}
use Rattle.vx_grouped.proofs.ReadyLemmas.{down_ready}
use Rattle.vx_grouped.proofs.SettleLemmas.{fell_fused}
use Rattle.vx_history.specs.Groups.{GroupNode}
use Rattle.vx_history.specs.Steps.{burned, crashed}
use Rattle.vx_history.specs.Stops.{IsFused}
use Rattle.vx_history.specs.World.{NoFuse, Node}
use Rattle.vx_logimport.specs.declared.rested.Rested.{Rested}
use Rattle.vx_model.specs.Sites.{is_origin}
use Rattle.vx_model.specs.declared.errors.Stop.{Stop}
use Rattle.vx_model.specs.declared.errors.Stop.TheVariants.{No as Refused, OutOfMemory}
use Rattle.vx_model.specs.declared.no.No.{No}
use Rattle.vx_model.specs.declared.no.No.TheVariants.{Damaged, Device, Down as IsOff, Limit, NoConfig}
use Rattle.vx_model.specs.declared.site.SPhase.{SPhase}
use Rattle.vx_model.specs.declared.site.SPhase.TheVariants.{Quiet}
use Rattle.vx_model.specs.declared.site.SiteState.TheVariants.{Deported as IsAway, Down as IsDown, Up as IsUp}
use Rattle.vx_model.specs.declared.state.KeptLink.{KeptLink}
use Rattle.vx_model.specs.declared.state.State.{State}
use Rattle.vx_model.specs.declared.units.Units.{Units}
use Rattle.vx_srl.specs.Views.{most_number}
use Rattle.vx_untold.specs.Shades.{shade_meaning}
use Rattle.vx_untold.specs.declared.shade.Shade.{Shade}
use Rattle.vx_watched.specs.Since.{CalledSince}
use Rattle.vx_watched.specs.Traces.{TellsLess}
use Rattle.vx_watched.proofs.SinceLemmas.{since_none}
use Rattle.vx_diskset.specs.Aboves.{InsideOf, below_site, site_in}
use Rattle.vx_diskset.specs.GroupSets.{cut_value}
use Rattle.vx_diskset.specs.Holds.{KeptBeside, most_header, state_with}
use Rattle.vx_diskset.specs.Layouts.{config_units, units_of}
use Rattle.vx_diskset.specs.Noted.{AgreesStill, FoundNamed, NotedOn, NotesWorked, RestsNamed, SiteNoted, TidyNote, below_rvg}
use Rattle.vx_diskset.specs.OverRises.{CameGroup, LostAgain, OverRises, RaisedOver, RaisesAbove, RisesAgain, RisesFound, RisesHeld, RisesLost, RisesPlain, RoseAgain, SessionFrom, StartLost, came_with, rest_in}
use Rattle.vx_diskset.specs.OverStarts.{BehindImport, BroughtBy, FellBack, RaisesOver, StandsOff, StartFails, Started, StartsOn, StartsOver, TriedOn, WithUnits, all_latest, has_no_links, is_alone, is_idle_phase}
use Rattle.vx_diskset.specs.Stands.{FellOver, FellSettles, IsOverSite, OverStands, RestsOver, SiteStands, idle_ready}
use Rattle.vx_diskset.specs.Works.{LogBlocks, OnlyLog}
use Rattle.vx_diskset.specs.declared.disk_set.DiskSet.{DiskSet}
use Rattle.vx_diskset.specs.declared.disk_set.DiskSet.TheVariants.{Bare, Spoiled, Up as UpSet, Receives, Down as DownSet, OfGroup, Over, Gone as GoneSet}
use Rattle.vx_diskset.specs.declared.group_set.CutWrite.{CutWrite}
use Rattle.vx_diskset.specs.declared.group_set.GroupSet.{GroupSet}
use Rattle.vx_diskset.specs.declared.over_set.OverSet.{OverSet}
use Rattle.vx_diskset.specs.declared.over_set.OverSite.{OverSite}
use Rattle.vx_diskset.specs.declared.over_set.OverSite.TheVariants.{Origin as OriginSite, Receiver as ReceiverSite, Deported as GroupAway, Down as GroupFell, Gone as NoGroup}
use Rattle.vx_diskset.proofs.CountMoves.{counts_lose}
use Rattle.vx_diskset.proofs.OverDims.{some_in}
use Rattle.vx_diskset.proofs.OverFalls.{crash_named}
use Rattle.vx_diskset.proofs.OverHas.{HasVolumes, fell_has, one_down}
use Rattle.vx_diskset.proofs.OverHolds.{agrees_down, came_down, came_group, CameUp, down_for, found_again, group_here, held_refused, held_untold, names_found, never_both, never_fused, plain_again}
use Rattle.vx_diskset.proofs.OverKept.{fell_site}
use Rattle.vx_diskset.proofs.OverKnown.{agreed_known, bright_known, counts_known, down_known, inner_known, moved_known, named_config, none_known, ready_known, rose_known, rvg_known, seen_known, units_known}
use Rattle.vx_diskset.proofs.OverLost.{InSession, left_there, lost_stands, starting_in, still_in}
use Rattle.vx_diskset.proofs.StartGroup.{limit_same}

-- ---- a site that stands by itself

alone_by : (a b c : Bool) → a ≡ true → b ≡ true → c ≡ true → (a && (b && c)) ≡ true
alone_by true true true first second third = refl
alone_by false b c first second third = absurd (let clash : false ≡ true = first in cc)
alone_by true false c first second third = absurd (let clash : false ≡ true = second in cc)
alone_by true true false first second third = absurd (let clash : false ≡ true = third in cc)

pub stands_alone : (n : Node) (links : List KeptLink) → is_origin n.role ≡ true → links ≡ [] → n.phase ≡ Quiet → is_alone (state_with n links) ≡ true
stands_alone n links origin none quiet =
    alone_by (is_origin n.role) (has_no_links links) (is_idle_phase n.phase) origin (ap (λ (ls : List KeptLink). has_no_links ls) none) (ap (λ (p : SPhase). is_idle_phase p) quiet)

-- ---- a site that is down, as its note has it

module _ {R : Type 0} {g : Ghosts R} (racks : (s : Shade R) → IsRack (shade_meaning g.meaning s)) (laws : (s : Shade R) → Lawful (shade_meaning g.meaning s)) (beside : KeptBeside) (n : Node) (note : GroupNode) (idle : Idle R g) (cut : Option CutWrite) (group : n.group ≡ Some note)
    (state : n.state ≡ IsDown) (quiet : n.phase ≡ Quiet) (over : IsOverSite beside n) (unfused : n.fuse ≡ NoFuse) (rests : RestsOver (λ c. FellOver c beside n (idle_ready idle)) beside n (idle_ready idle)) (settles : FellSettles n idle) (down : DownNoted (below_rvg n) note (Down idle))
    (cut_is : cut_value cut ≡ note.cut) (inside : InsideOf (units_of n) note) (tidy : TidyNote (units_of n) note) (names : FoundNamed (units_of n) (length (entries_noted note)) (idle_ready idle)) where
  abbrev ready : GroupNode
  ready = note_dimmed (not idle.agreed) note

  ready_down : IsTrue (idle_ready idle).down
  ready_down = down_ready g.meaning idle.agreed idle.rack ∙ down.stopped.down

  module _ (laid : Laid R g) (by : BroughtBy (Down idle) (Up laid) (Ok tt)) where
    risen : CameUp n note idle laid
    risen = came_down n note idle down laid by

    abbrev came : CameGroup n note (Down idle) laid
    came = came_group n note idle down.agrees names laid risen

    abbrev middle : GroupNode
    middle = came.middle

    abbrev brings : BringsSite (idle_ready idle) laid
    brings = by.brings

    abbrev first : Meaning
    first = shade_meaning g.meaning brings.first

    group_up : GroupUp (below_rvg (came_with (burned n.fuse) middle n)) middle (laid_below laid).tells laid.core (laid_disks laid)
    group_up = group_here n note idle down.agrees names laid risen

    -- ---- it is known what the disks hold

    module _ (told : IsTrue (laid_disks laid).tells) where
      rested : (r : Rested) × (idle.rested ≡ Some r)
      rested = some_in idle.rested by.known

      has : HasVolumes beside n laid
      has = fell_has beside n idle laid brings told rests (settles rested.0 rested.1) (one_down beside n idle laid brings told racks ready_down)

      bright : not idle.agreed ≡ false
      bright = bright_known racks laws beside n note idle down.agrees names over inside laid risen told has

      named_now : came.config.now.rvg ≡ Some (units_of n)
      named_now = named_config racks laws beside n note idle down.agrees names over inside laid risen told has

      -- the volumes are those that were noted
      seen : length came.config.now.volumes ≡ length came.config.was.volumes
      seen = seen_known racks laws beside n note idle down.agrees names over inside laid risen told has

      -- ---- and its replicated volume group came up

      rose_again : (s : OverSet R g) → Started (units_of n) laid s → RoseAgain beside n note (Down idle) s
      rose_again = rose_known racks laws beside n note idle down.agrees names over inside laid risen told has

      -- ---- or it was refused

      module _ (mid : Laid R g) (last : Idle R g) (fell : FellBack mid last) (s : OverSet R g) (at : site_in s ≡ Down last) (cuts : s.cut ≡ cut) (ground : GroundSince (ground_state laid.core) (laid_disks laid) (ground_state mid.core) (laid_disks mid)) (since : CalledSince (laid_disks laid) (laid_disks mid))
          (less : TellsLess (laid_below laid) (laid_below mid)) (only : OnlyLog (units_of n) (laid_volumes laid) (laid_volumes mid)) where
        abbrev lost_moved : NotesWorked (came_with (burned n.fuse) middle n) middle (Up laid) (Up mid)
        lost_moved = moved_known racks laws beside n note idle down.agrees names over inside laid risen told has mid last fell ground since less only

        abbrev worked : GroupNode
        worked = lost_moved.0

        abbrev rest : GroupNode
        rest = record worked { cut = note.cut }

        lost_units : config_units (config_of worked.config) ≡ units_of n
        lost_units = units_known racks laws beside n note idle down.agrees names over inside laid risen told has mid last fell ground since less only

        lost_named : rvg_noted worked ≡ Some (units_of n)
        lost_named = rvg_known racks laws beside n note idle down.agrees names over inside laid risen told has mid last fell ground since less only

        lost_inside : InsideOf (units_of n) worked
        lost_inside = inner_known racks laws beside n note idle down.agrees names over inside laid risen told has mid last fell ground since less only

        agreed_is : last.agreed ≡ fell.fell.agreed
        agreed_is = agreed_known racks laws beside n note idle down.agrees names over inside laid risen told has mid last fell ground since less only

        ready_is : idle_ready last ≡ idle_ready fell.fell
        ready_is = ready_known racks laws beside n note idle down.agrees names over inside laid risen told has mid last fell ground since less only

        counts_down : (d : ℕ) → (idle_disks last).disk_faults d ≡ (laid_disks mid).disk_faults d
        counts_down = counts_known racks laws beside n note idle down.agrees names over inside laid risen told has mid last fell ground since less only

        abbrev lost_node : Node
        lost_node = below_rvg (with_note worked (came_with (burned n.fuse) middle n))

        -- the group of the site as it crashed
        down_last : UpNoted lost_node worked (Up mid) → DownNoted (crashed lost_node 0) worked (Down last)
        down_last = down_known racks laws beside n note idle down.agrees names over inside laid risen told has mid last fell ground since less only

        lost_noted : (session : ℕ) → UpNoted lost_node worked (Up mid) → SiteNoted (rest_in session rest n) rest (Over s)
        lost_noted session up = (
          subst (λ (e : GroupSite R g). NotedOn (below_rvg (rest_in session rest n)) rest e) (sym at)
              (down_for (crashed lost_node 0) (below_rvg (rest_in session rest n)) worked note.cut last (record { is = refl; none = record { role = refl; volumes = refl; log = refl; safe = refl; running = refl } }) state unfused refl refl (down_last up)),
          ap (λ (o : Option CutWrite). cut_value o) cuts ∙ cut_is,
          subst (λ (u : Units). InsideOf u worked) (sym lost_units) lost_inside,
          record { tidy = lost_moved.4; named = lost_named ∙ ap (λ (u : Units). Some u) (sym lost_units) },
          subst (λ (e : GroupSite R g). RestsNamed (config_units (config_of worked.config)) (length (entries_noted worked)) e) (sym at)
              (subst (λ (m : Meaning). FoundNamed (config_units (config_of worked.config)) (length (entries_noted worked)) m) (sym ready_is)
              (subst (λ (u : Units). FoundNamed u (length (entries_noted worked)) (idle_ready fell.fell)) (sym lost_units)
              (crash_named all_latest mid fell.fell fell.is (Up mid) refl lost_node worked (units_of n) (inl up) lost_named))),
        )

        lost_goes : ConfigGoes (LosesSome (laid_disks laid) (site_disks (site_in s))) middle worked (Up laid) (site_in s)
        lost_goes =
            subst (λ (e : GroupSite R g). ConfigGoes (LosesSome (laid_disks laid) (site_disks e)) middle worked (Up laid) e) (sym at) (record {
              was = lost_moved.2.was;
              now = lost_moved.2.now;
              had = lost_moved.2.had;
              has = tt;
              noted = lost_moved.2.noted;
              noted_now = lost_moved.2.noted_now;
              change = counts_lose (laid_disks laid) (laid_disks mid) (idle_disks last) counts_down lost_moved.2.was lost_moved.2.now lost_moved.2.change;
            })

        mid_up : IsTrue (laid_disks mid).down → ⊥
        mid_up off = never_fused n unfused (fell_fused (burned n.fuse) (laid_disks laid) (laid_disks mid) group_up.fuse group_up.at.up since.safe off)

        lost_by : (session : ℕ) → SessionFrom n session → InSession racks laws beside n laid told has mid since only fell.fell fell.is session → (stop : Stop) → StartLost beside n session middle worked (Down idle) (site_in s) stop
            → LostAgain beside n note (Down idle) s stop
        lost_by session from found stop why = by_end lost_moved.3
          where
            by_end : (UpNoted lost_node worked (Up mid) × AgreesStill middle worked (laid_disks laid) (laid_disks mid)) ⊎ (CutNoted lost_node worked (Up mid) × IsFused (burned n.fuse)) → LostAgain beside n note (Down idle) s stop
            by_end (inl it) = record {
              laid = laid;
              group = came;
              told = told;
              bright = bright;
              named = named_now;
              seen = inr seen;
              worked = worked;
              works = lost_moved.1;
              goes = lost_goes;
              agrees = subst (λ (e : GroupSite R g). AgreesStill middle worked (laid_disks laid) (site_disks e)) (sym at) (agrees_down middle worked (laid_disks laid) (laid_disks mid) (idle_disks last) counts_down it.1);
              session = session;
              why = why;
              noted = lost_noted session it.0;
              stands = lost_stands racks laws beside n laid told has mid since only fell.fell fell.is session from found rest lost_units n.state n.fuse last ready_is fell.rested over state unfused s (fell_site s.site last at);
              to = λ k. subst (λ (e : GroupSite R g). (laid_disks laid).disk_faults k ≤ (site_disks e).disk_faults k) (sym at) (let more = since.counts k in let same = counts_down k in omega (arith, more, same));
            }
            by_end (inr it) = absurd (never_fused n unfused it.1)

        lost_cause : (why : No) → StartsOn (units_of n) laid mid (Err why) → LostAgain beside n note (Down idle) s (Refused why)
        lost_cause (Device disk) it =
            let begun = starting_in racks laws beside n laid told has mid since only fell.fell fell.is it.does.1 in
            let rose : Rose ((idle_disks idle).disk_faults disk) ((laid_disks mid).disk_faults disk) = Rose_before ((idle_disks idle).disk_faults disk) ((laid_disks laid).disk_faults disk) ((laid_disks mid).disk_faults disk) (by.since.counts disk) it.does.2 in
            lost_by begun.0 begun.1 begun.2 (Refused (Device disk)) (
              begun.1,
              subst (λ (e : GroupSite R g). Rose ((idle_disks idle).disk_faults disk) ((site_disks e).disk_faults disk)) (sym at) (subst (λ (x : ℕ). Rose ((idle_disks idle).disk_faults disk) x) (sym (counts_down disk)) rose),
            )
        lost_cause (Limit what most) it =
            let with = left_there racks laws beside n laid told has in
            lost_by n.session (inl refl) (still_in racks laws beside n laid told has mid since only fell.fell fell.is (λ u b v left. ⊎_elim (λ was. was) (λ none. absurd none) (it.does.3.leaves u b v left))) (Refused (Limit what most)) (
              refl,
              limit_same it.does.2.0 it.does.2.1,
              ⊎_elim (λ (stamp : most_number ≤ most_header beside n + 2). stamp) (λ (session : most_number ≤ n.session). let more : most_number ≤ most_header beside n + 2 = omega arith in more)
                  (it.does.2.2 (state_with n beside.links) n.session (most_header beside n) with.held with.left),
            )
        lost_cause NoConfig it = let with = left_there racks laws beside n laid told has in absurd (it.does.2.1 (state_with n beside.links) n.session (most_header beside n) with.held with.left)
        lost_cause (Damaged unit block stored computed) it =
            let with = left_there racks laws beside n laid told has in absurd (it.does.2.3 (state_with n beside.links) n.session (most_header beside n) with.held with.left)
        lost_cause IsOff it = absurd (mid_up it.does.2)
        lost_cause other it = absurd it.does.2

      -- what was started stands by itself
      never_off : (mid : Laid R g) → StandsOff (units_of n) laid mid → ⊥
      never_off mid off =
          let with = left_there racks laws beside n laid told has in
          let has = off.starts.does.2.each (state_with n beside.links) n.session (most_header beside n) with.held with.left in
          never_both (is_alone off.core.log.header.state) (ap (λ (x : State). is_alone x) has.0 ∙ stands_alone n beside.links over.5 over.4 quiet) off.linked

      lost_tried : (mid : Laid R g) (last : Idle R g) (fell : FellBack mid last) (s : OverSet R g) → site_in s ≡ Down last → s.cut ≡ cut → (stop : Stop) → TriedOn (units_of n) laid mid stop → LostAgain beside n note (Down idle) s stop
      lost_tried mid last fell s at cuts (Refused why) (inl it) = lost_cause mid last fell s at cuts it.ground it.since it.told it.does.0 why it
      lost_tried mid last fell s at cuts (Refused why) (inr it) = absurd (never_off mid it.1)
      lost_tried mid last fell s at cuts OutOfMemory it =
          subst (λ (x : Laid R g). FellBack x last → LostAgain beside n note (Down idle) s OutOfMemory) (sym it)
          (λ back. lost_by laid last back s at cuts (ground_none (ground_state laid.core) (laid_disks laid)) (since_none (laid_disks laid)) (λ below. below) (still (LogBlocks (units_of n)) Anything (laid_volumes laid)) n.session (inl refl)
          (still_in racks laws beside n laid told has laid (since_none (laid_disks laid)) (still (LogBlocks (units_of n)) Anything (laid_volumes laid)) back.fell back.is (λ u b v left. left)) OutOfMemory (refl, none_known racks laws beside n note idle down.agrees names over inside laid risen told has last back))
          fell

    -- ---- by what came of it

    same_units_of : (u : Units) → laid.core.inner.config.rvg ≡ Some u → IsTrue (laid_disks laid).tells → u ≡ units_of n
    same_units_of u has told = same_Some u (units_of n) (sym has ∙ (names_found n note idle down.agrees names laid risen told).0)

    started_by : (u : Units) → laid.core.inner.config.rvg ≡ Some u → (s : OverSet R g) → Started u laid s → (b : Bool) → (laid_disks laid).tells ≡ b → OverRises beside n note (Down idle) (Over s) (Ok tt)
    started_by u has s started true told = RisesAgain s refl refl (rose_again told s (subst (λ (x : Units). Started x laid s) (same_units_of u has told) started))
    started_by u has s started false dim = RisesFound s refl refl (found_again n note idle down.agrees names down laws beside cut group state over unfused rests settles cut_is inside tidy laid risen (λ told. never_both (laid_disks laid).tells told dim) u has s started)

    failed_by : (u : Units) → laid.core.inner.config.rvg ≡ Some u → (s : OverSet R g) (stop : Stop) → StartFails false u laid cut s stop → (b : Bool) → (laid_disks laid).tells ≡ b → OverRises beside n note (Down idle) (Over s) (Err stop)
    failed_by u has s stop off true told = RisesLost s stop refl refl (lost_tried told off.mid off.idle off.fell s off.site off.cut_is stop (subst (λ (x : Units). TriedOn x laid off.mid stop) (same_units_of u has told) off.tried))
    failed_by u has s stop off false dim = RisesHeld s stop refl refl (held_untold n note idle down.agrees names down laws beside cut group state over unfused rests settles cut_is inside tidy laid risen (λ told. never_both (laid_disks laid).tells told dim) u off.mid off.idle off.fell s off.site off.cut_is stop off.tried)

    start_in : (u : Units) → laid.core.inner.config.rvg ≡ Some u → (new : DiskSet R g) (r : Result (Unit {0}) Stop) → StartsOver false u laid cut new r → OverRises beside n note (Down idle) new r
    start_in u has (Bare rack) r it = absurd it
    start_in u has (Spoiled rack) r it = absurd it
    start_in u has (UpSet rvg) r it = absurd it
    start_in u has (Receives s) r it = absurd it
    start_in u has (DownSet rack) r it = absurd it
    start_in u has (OfGroup s) r it = absurd it
    start_in u has (Over s) (Ok done) it = started_by u has s it (laid_disks laid).tells refl
    start_in u has (Over s) (Err stop) it = failed_by u has s stop it (laid_disks laid).tells refl
    start_in u has GoneSet r it = absurd it

    start_units : (o : Option Units) → laid.core.inner.config.rvg ≡ o → (new : DiskSet R g) (r : Result (Unit {0}) Stop) → WithUnits false o laid cut new r → OverRises beside n note (Down idle) new r
    start_units None has new r it = let s : GroupSet R g = record { site = Up laid; cut = None } in RisesPlain s it.0 it.1 (plain_again n note idle down.agrees names laid risen by.maps s refl has)
    start_units (Some u) has new r it = start_in u has new r it

  refused_in : (now : Idle R g) (stop : Stop) → BroughtBy (Down idle) (Down now) (Err stop) → (new : DiskSet R g) (r : Result (Unit {0}) Stop) → BehindImport false (Down now) cut new (Err stop) r → OverRises beside n note (Down idle) new r
  refused_in now stop by (Bare rack) r behind = absurd behind.0
  refused_in now stop by (Spoiled rack) r behind = absurd behind.0
  refused_in now stop by (UpSet rvg) r behind = absurd behind.0
  refused_in now stop by (Receives s) r behind = absurd behind.0
  refused_in now stop by (DownSet rack) r behind = absurd behind.0
  refused_in now stop by (OfGroup s) r behind = absurd behind.0
  refused_in now stop by (Over s) r behind = RisesHeld s stop refl behind.2 (held_refused n note idle down.agrees names down laws beside cut group state over unfused rests settles cut_is inside tidy now stop by s behind.0 behind.1)
  refused_in now stop by GoneSet r behind = absurd behind.0

  rises_behind : (mid : GroupSite R g) (answer : Result (Unit {0}) Stop) → BroughtBy (Down idle) mid answer → (new : DiskSet R g) (r : Result (Unit {0}) Stop) → BehindImport false mid cut new answer r → OverRises beside n note (Down idle) new r
  rises_behind (Up laid) (Ok done) by new r behind = start_units laid by laid.core.inner.config.rvg refl new r behind
  rises_behind (Deported x) (Ok done) by new r behind = let it = by.recovered (below_rvg n) note down in absurd it.2
  rises_behind (Down x) (Ok done) by new r behind = let it = by.recovered (below_rvg n) note down in absurd it.2
  rises_behind (Marked rack) (Ok done) by new r behind = let it = by.recovered (below_rvg n) note down in absurd it.2
  rises_behind Gone (Ok done) by new r behind = let it = by.recovered (below_rvg n) note down in absurd it.2
  rises_behind (Up laid) (Err stop) by new r behind = let it = by.recovered (below_rvg n) note down in absurd it.0
  rises_behind (Deported x) (Err stop) by new r behind = let it = by.recovered (below_rvg n) note down in absurd it.0
  rises_behind (Down now) (Err stop) by new r behind = refused_in now stop by new r behind
  rises_behind (Marked rack) (Err stop) by new r behind = let it = by.recovered (below_rvg n) note down in absurd it.0
  rises_behind Gone (Err stop) by new r behind = let it = by.recovered (below_rvg n) note down in absurd it.0

-- ---- any site that is down

module _ {R : Type 0} {g : Ghosts R} (racks : (s : Shade R) → IsRack (shade_meaning g.meaning s)) (laws : (s : Shade R) → Lawful (shade_meaning g.meaning s)) (beside : KeptBeside) (n : Node) (note : GroupNode) (group : n.group ≡ Some note) (state : n.state ≡ IsDown) (quiet : n.phase ≡ Quiet) where
  by_site : (x : OverSite R g) (cut : Option CutWrite) → IsOverSite beside n → OverStands beside n x → NotedOn (below_rvg n) note (below_site x) → cut_value cut ≡ note.cut → InsideOf (units_of n) note → TidyNote (units_of n) note → RestsNamed (units_of n) (length (entries_noted note)) (below_site x)
      → (new : DiskSet R g) (r : Result (Option CutWrite) Stop) (it : RaisesOver (below_site x) cut new r) → OverRises beside n note (below_site x) new it.started
  by_site (OriginSite f) cut over stands noted cut_is inside tidy names new r it = absurd (let clash : IsUp ≡ IsDown = sym stands.state ∙ state in cc)
  by_site (ReceiverSite f) cut over stands noted cut_is inside tidy names new r it = absurd (let clash : IsUp ≡ IsDown = sym stands.state ∙ state in cc)
  by_site (GroupAway idle) cut over stands noted cut_is inside tidy names new r it = absurd (let clash : IsAway ≡ IsDown = sym stands.0 ∙ state in cc)
  by_site (GroupFell idle) cut over stands noted cut_is inside tidy names new r it =
      rises_behind racks laws beside n note idle cut group state quiet over stands.1 stands.2 stands.3 noted cut_is inside tidy names it.mid it.answer it.by new it.started it.behind
  by_site NoGroup cut over stands noted cut_is inside tidy names new r it = absurd stands

  recovers_one : (o : OverSet R g) (new : DiskSet R g) (r : Result (Option CutWrite) Stop) → RaisesOver (site_in o) o.cut new r → SiteStands beside n (Over o) → SiteNoted n note (Over o) → RaisedOver beside n note o new r
  recovers_one o new r it stands noted = record {
    answer = it.started;
    hands = it.is;
    rises = by_site o.site o.cut stands.0 stands.1 noted.0 noted.1 noted.2 noted.3 noted.4 new r it;
  }

module _ {R : Type 0} {g : Ghosts R} where
  pub recovers_over : ((s : Shade R) → IsRack (shade_meaning g.meaning s)) → ((s : Shade R) → Lawful (shade_meaning g.meaning s)) → (o : OverSet R g) (new : DiskSet R g) (r : Result (Option CutWrite) Stop) → RaisesOver (site_in o) o.cut new r → RaisesAbove (Over o) new r
  recovers_over racks laws o new r it = λ beside n note group state quiet stands noted. recovers_one racks laws beside n note group state quiet o new r it stands noted

  -- of other disks nothing is said
  pub recovers_rest : (e new : DiskSet R g) (r : Result (Option CutWrite) Stop) → ((s : OverSet R g) → e ≡ Over s → ⊥) → RaisesAbove e new r
  recovers_rest (Bare rack) new r never = tt
  recovers_rest (Spoiled rack) new r never = tt
  recovers_rest (UpSet rvg) new r never = tt
  recovers_rest (Receives s) new r never = tt
  recovers_rest (DownSet rack) new r never = tt
  recovers_rest (OfGroup s) new r never = tt
  recovers_rest (Over s) new r never = absurd (never s refl)
  recovers_rest GoneSet new r never = tt
