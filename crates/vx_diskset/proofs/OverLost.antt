-- A site whose group came up with the replicated volume group that it has, which was not started: the disks crashed, and it is down in the session that its log has.
use Rattle.std.proofs.Common.{◌≡◌, ◌∙◌, ◌⊎◌, inl, inr, ⊎_elim, ℕ, ◌+◌, ◌<◌, List, true, IsTrue, arith, refl, subst, sym}
use Rattle.std.specs.Prelude.{None, Option, Some}
use Rattle.vx_config.specs.Checks.{blocks_of}
use Rattle.vx_config.specs.declared.config.Config.{Config}
use Rattle.vx_copyfmt.specs.Imports.{Found}
use Rattle.vx_disk.specs.Moves.{Moves, Run}
use Rattle.vx_disk.specs.Racks.{IsRack}
use Rattle.vx_disk.specs.Shelf.{Each, Image, Lawful, Meaning}
use Rattle.vx_disk.specs.declared.shelf.Shelf.{Ghosts}
use Rattle.vx_events.specs.GroupViews.{config_of}
use Rattle.vx_events.specs.RvgNotes.{inside_of}
use Rattle.vx_ground.specs.Lifted.{laid_volumes}
use Rattle.vx_group.specs.Holding.{wide}
use Rattle.vx_group.specs.Laws.{group_lawful}
use Rattle.vx_grouped.specs.GroupSites.{idle_disks, laid_disks}
use Rattle.vx_grouped.specs.declared.idle.Idle.{Idle}
use Rattle.vx_grouped.specs.declared.laid.Laid.{Laid}
use Rattle.vx_history.specs.Groups.{GroupNode}
use Rattle.vx_history.specs.World.{NoFuse, Node, Fuse}
use Rattle.vx_kept.specs.Commits.{Member}
use Rattle.vx_kept.specs.Facts.{KeptFact}
use Rattle.vx_kept.specs.Groups.{Shows, found as finds}
use Rattle.vx_kept.proofs.Low.{found_same}
use Rattle.vx_model.specs.declared.site.SiteState.TheVariants.{Down as IsDown, Deported as IsAway}
use Rattle.vx_model.specs.declared.units.Units.{Units}
use Rattle.vx_rvg.specs.Starts.{Starting, ring_in}
use Rattle.vx_untold.specs.Shades.{shade_meaning}
use Rattle.vx_untold.specs.declared.shade.Shade.{Shade}
use Rattle.vx_watched.specs.Since.{CalledSince}
use Rattle.vx_model.specs.declared.site.SiteState.{SiteState}
use Rattle.vx_group.specs.Settles.{LacksCommit}
use Rattle.vx_grouped.proofs.ReadyLemmas.{down_ready}
use Rattle.vx_grouped.specs.Readies.{ready_of}
use Rattle.vx_diskset.proofs.OverDisks.{LeavesLess, away_less}
use Rattle.vx_diskset.proofs.OverCame.{rack_rests}
use Rattle.vx_diskset.specs.Founded.{LaidFell}
use Rattle.vx_diskset.specs.Holds.{KeptBeside, most_header, state_with}
use Rattle.vx_diskset.specs.Lasts.{FoundWith, LeftWith}
use Rattle.vx_diskset.specs.Layouts.{IsLaid, IsLaidBy, config_units, units_of}
use Rattle.vx_diskset.specs.OverRises.{SessionFrom}
use Rattle.vx_diskset.specs.OverStarts.{all_latest}
use Rattle.vx_diskset.specs.Stands.{FellOver, IsOverSite, OverStands, RestsOver, RvgSettles, SiteStands, idle_ready, AwayLeft}
use Rattle.vx_diskset.specs.Works.{OnlyLog}
use Rattle.vx_diskset.specs.declared.disk_set.DiskSet.TheVariants.{Over}
use Rattle.vx_diskset.specs.declared.over_set.OverSet.{OverSet}
use Rattle.vx_diskset.specs.declared.over_set.OverSite.{OverSite}
use Rattle.vx_diskset.specs.declared.over_set.OverSite.TheVariants.{Down as GroupFell, Deported as GroupAway}
use Rattle.vx_diskset.proofs.CrashGroup.{left_with}
use Rattle.vx_diskset.proofs.Laying.{laid_as}
use Rattle.vx_diskset.proofs.OverCrash.{IsUnder, found_some, image_one, ready_under, shown, shows, shows_one}
use Rattle.vx_diskset.proofs.OverHas.{HasVolumes}
use Rattle.vx_diskset.proofs.OverSettles.{fell_settles, settles_by}
use Rattle.vx_diskset.proofs.Sessions.{header_below, next_below}
use Rattle.vx_diskset.proofs.StartGroup.{left_still_with}
use Rattle.vx_diskset.proofs.StaysUp.{found_below, left_moved}

never_none : (note : GroupNode) → ◌≡◌ {A = Option GroupNode} (Some note) None → ⊥
never_none note none = cc

found_inj : {a b : Config} → Found a ≡ Found b → a ≡ b
found_inj e = cc

module _ {R : Type 0} {g : Ghosts R} (racks : (s : Shade R) → IsRack (shade_meaning g.meaning s)) (laws : (s : Shade R) → Lawful (shade_meaning g.meaning s)) (beside : KeptBeside) (n : Node) (laid : Laid R g) (told : IsTrue (laid_disks laid).tells) (has : HasVolumes beside n laid) where
  abbrev ring : ℕ
  ring = ring_in (units_of n) (laid_volumes laid)

  ring_is : ring ≡ n.ring
  ring_is = sym has.lies.ring_is

  with : LeftWith (units_of n) ring (state_with n beside.links) n.session (most_header beside n) n.log n.base (laid_volumes laid)
  with =
      subst (λ (k : ℕ). LeftWith (units_of n) k (state_with n beside.links) n.session (most_header beside n) n.log n.base (laid_volumes laid)) (sym ring_is) has.left

  law : (l : Laid R g) → Lawful (laid_volumes l)
  law l = group_lawful (wide l.core) (shade_meaning g.meaning l.shelf) (laws l.shelf) l.stands.group.stands

  -- what was left before it is not nothing
  pub left_there : LeftWith (units_of n) ring (state_with n beside.links) n.session (most_header beside n) n.log n.base (laid_volumes laid)
  left_there = with

  -- ---- behind calls on the log, and the crash

  module _ (mid : Laid R g) (since : CalledSince (laid_disks laid) (laid_disks mid)) (only : OnlyLog (units_of n) (laid_volumes laid) (laid_volumes mid)) (fell : Idle R g) (is : LaidFell all_latest mid fell) where
    abbrev c : Config
    c = (wide mid.core).config

    fell_tells : IsTrue (idle_disks fell).tells
    fell_tells = is.stopped.tells ∙ since.tells ∙ told

    kept : KeptFact c (Member (wide mid.core).good (laid_disks mid)) (laid_disks mid)
    kept = mid.stands.group.stands.kept

    pub image : (i : Image) × (idle_disks fell).now i
    image = (laws fell.rack).image fell_tells

    abbrev j : Image
    j = image.0

    j_each : Each (laid_disks mid).leaves j
    j_each = λ u b. is.stopped.leaves u b (j u b) ((laws fell.rack).within j image.1 u b)

    pub some : (x : Config) × (finds (laid_disks mid) j ≡ Found x)
    some = found_some (finds (laid_disks mid) j) (kept.finds j j_each)

    abbrev pub above : Image
    above = shown c some.0 j

    above_now : (laid_volumes mid).now above
    above_now = record { image = j; left = is.stopped.now j image.1; config = some.0; found = some.1; shows = shows c some.0 j }

    -- ---- the log and the content that the volumes show in this session

    abbrev pub InSession : ℕ → Type 0
    InSession session = FoundWith (units_of n) ring (state_with n beside.links) session (most_header beside (record n { session = session })) above n.log n.base

    -- where nothing was written it is as before
    pub still_in : ((u b : ℕ) (v : List ℕ) → (laid_volumes mid).leaves u b v → (laid_volumes laid).leaves u b v) → InSession n.session
    still_in less =
        left_with (units_of n) ring (state_with n beside.links) n.session (most_header beside n) n.log n.base (laid_volumes mid) above (law mid) above_now
        (left_still_with (units_of n) ring (state_with n beside.links) n.session (most_header beside n) n.log n.base (laid_volumes laid) (laid_volumes mid) only.tells only.size less with)

    pub starting_in : Moves (Run (units_of n).srl 0 (ring + 2)) (Starting (units_of n) (laid_volumes laid)) (laid_volumes laid) (laid_volumes mid) → (session : ℕ) × SessionFrom n session × InSession session
    starting_in moves =
        ⊎_elim
        (λ was. (n.session, inl refl, left_with (units_of n) ring (state_with n beside.links) n.session (most_header beside n) n.log n.base (laid_volumes laid) above (law laid) was with))
        (λ starting. ⊎_elim
        (λ old. (n.session, inl refl, record { held = with.held; has = with.has; needs = with.needs; found = old }))
        (λ next. (
          n.session + 1,
          inr (refl, next_below n.session refl (header_below (units_of n) ring (state_with n beside.links) (n.session + 1) (most_header beside n + 3) above with.held next)),
          record {
            held = with.held;
            has = with.has;
            needs = with.needs;
            found = found_below (units_of n) ring (state_with n beside.links) (n.session + 1) (most_header beside n + 3) (most_header beside (record n { session = n.session + 1 })) above with.held (omega arith) next;
          },
        ))
        (starting.each (state_with n beside.links) n.session (most_header beside n) with.held with.left))
        (left_moved (Run (units_of n).srl 0 (ring + 2)) (Starting (units_of n) (laid_volumes laid)) (laid_volumes laid) (laid_volumes mid) above (law laid) (law mid) moves above_now)

    -- ---- the site

    module _ (session : ℕ) (from : SessionFrom n session) (found : InSession session) (w : GroupNode) (units : config_units (config_of w.config) ≡ units_of n) (state : SiteState) (fuse : Fuse) where
      abbrev k : Node
      k = record n { state = state; fuse = fuse; session = session; group = Some w }

      under : IsUnder (idle_ready fell) (idle_disks fell)
      under = ready_under g fell.agreed fell.rack

      up_each : (i : Image) → Each (idle_ready fell).leaves i → Each (laid_disks mid).leaves i
      up_each i each u b = is.stopped.leaves u b (i u b) (under.leaves u b (i u b) (each u b))

      up_finds : (i : Image) (x : Config) → finds (idle_ready fell) i ≡ Found x → finds (laid_disks mid) i ≡ Found x
      up_finds i x at = sym (found_same (laid_disks mid) (idle_ready fell) (under.units ∙ is.stopped.units) (λ u. under.size u ∙ is.stopped.size u) (λ u. true) i) ∙ at

      laid_mid : IsLaid (units_of n) n.ring n.volumes n.base.size (laid_volumes mid)
      laid_mid = laid_as (units_of n) n.ring n.volumes n.base.size (laid_volumes laid) (laid_volumes mid) only.size has.lies

      there_k : (v : ℕ) → inside_of (units_of k) v ≡ true → v < (laid_volumes mid).units
      there_k v inside = let low = has.there v (subst (λ (u : Units). inside_of u v ≡ true) units inside) in let same = only.units in omega (arith, low, same)

      begun : 0 < session
      begun = let some = has.begun in ⊎_elim (λ same. omega (arith, some, same)) (λ next. let more = next.0 in omega (arith, more)) from

      shows_as : (above' : Image) → above' ≡ above → FoundWith (units_of k) n.ring (state_with n beside.links) session (most_header beside k) above' n.log n.base
      shows_as above' same =
          subst (λ (i : Image). FoundWith (units_of k) n.ring (state_with n beside.links) session (most_header beside k) i n.log n.base) (sym same)
          (subst (λ (u : Units). FoundWith u n.ring (state_with n beside.links) session (most_header beside k) above n.log n.base) (sym units)
          (subst (λ (x : ℕ). FoundWith (units_of n) x (state_with n beside.links) session (most_header beside k) above n.log n.base) ring_is found))

      rests_k : RestsOver (λ x. FellOver x beside k (idle_ready fell)) beside k (idle_ready fell)
      rests_k = record {
        config = c;
        sure = has.sure;
        lies = subst (λ (u : Units). IsLaidBy u n.ring n.volumes n.base.size (blocks_of c.volumes)) (sym units) laid_mid;
        there = there_k;
        low = has.low;
        logged = has.logged;
        begun = λ tells. begun;
        left = λ tells. record {
          extends = λ i x each at. (kept.kin i x (up_each i each) (up_finds i x at)).shape;
          found = λ i y above' each at shows_y.
              let i_is : i ≡ j = image_one (idle_disks fell) i j (laws fell.rack) (racks fell.rack) is.stopped.down fell_tells image.1 (λ u b. under.leaves u b (i u b) (each u b)) in
              let at_j : finds (laid_disks mid) j ≡ Found y = subst (λ (h : Image). finds (laid_disks mid) h ≡ Found y) i_is (up_finds i y at) in
              let y_is : y ≡ some.0 = found_inj (sym at_j ∙ some.1) in
              let shows_j : Shows c some.0 j above' = subst (λ (z : Config). Shows c z j above') y_is (subst (λ (h : Image). Shows c y h above') i_is shows_y) in
              shows_as above' (shows_one c some.0 j above' shows_j);
        };
      }

      over_k : IsOverSite beside n → IsOverSite beside k
      over_k over = ((λ none. never_none w none), over.1, over.2, over.3, over.4, over.5)

      -- of disks that are by themselves as the crash left them
      module _ (last : Idle R g) (ready : idle_ready last ≡ idle_ready fell) (rested : last.rested ≡ fell.rested) where
        fell_stands : state ≡ IsDown → fuse ≡ NoFuse → (s : OverSite R g) → s ≡ GroupFell last → OverStands beside k s
        fell_stands down unfused s at = subst (λ (x : OverSite R g). OverStands beside k x) (sym at) (
          down,
          unfused,
          subst (λ (m : Meaning). RestsOver (λ x. FellOver x beside k m) beside k m) (sym ready) rests_k,
          λ q came. subst (λ (m : Meaning). RvgSettles (units_of k) m) (sym ready) (fell_settles mid k fell is.stopped there_k is.lacking q (sym rested ∙ came)),
        )

        pub lost_stands : IsOverSite beside n → state ≡ IsDown → fuse ≡ NoFuse → (s : OverSet R g) → s.site ≡ GroupFell last → SiteStands beside k (Over s)
        lost_stands over down unfused s at = (over_k over, fell_stands down unfused s.site at)

      -- or were brought up by themselves
      module _ (never : IsTrue (idle_ready fell).tells → LacksCommit mid.core.inner → ⊥) where
        away_k : RestsOver (λ x. AwayLeft x beside k (idle_ready fell)) beside k (idle_ready fell)
        unfolding rests_k
        away_k = record {
          config = c;
          sure = rests_k.sure;
          lies = rests_k.lies;
          there = rests_k.there;
          low = rests_k.low;
          logged = rests_k.logged;
          begun = rests_k.begun;
          left = λ tells. inr (record {
            over = rests_k.left tells;
            settles = settles_by mid k fell is.stopped there_k (never tells);
            one = rack_rests (idle_ready fell) (racks (ready_of fell.agreed fell.rack)) (down_ready g.meaning fell.agreed fell.rack ∙ is.stopped.down) tells;
          });
        }

        pub lost_away : (last : Idle R g) → LeavesLess (idle_ready fell) (idle_ready last) → IsOverSite beside n → state ≡ IsAway → (s : OverSet R g) → s.site ≡ GroupAway last → SiteStands beside k (Over s)
        lost_away last less over away s at = (over_k over, subst (λ (x : OverSite R g). OverStands beside k x) (sym at) (away, away_less beside k (idle_ready fell) (idle_ready last) less away_k))
