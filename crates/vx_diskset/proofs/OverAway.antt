-- The disks of a site whose group, with a replicated volume group over it, was deported: by each configuration that an import finds they keep its log and its content.
use Rattle.std.proofs.Common.{◌≡◌, ◌∙◌, ◌⊎◌, inl, inr, ⊎_elim, ℕ, ◌-◌, ◌<◌, ◌≤◌, Bool, true, List, length, take, drop, IsTrue, ap, arith, refl, subst, sym}
use Rattle.std.specs.Prelude.{None, Option, Some}
use Rattle.std.proofs.lemmas.List.{drop_all, length-take, take_all}
use Rattle.vx_config.specs.Checks.{blocks_of, is_sound}
use Rattle.vx_config.specs.declared.config.Config.{Config}
use Rattle.vx_copies.specs.Answers.{returned}
use Rattle.vx_copyfmt.specs.Imports.{Found}
use Rattle.vx_disk.specs.Shelf.{Each, Image, Lawful, Meaning, Nothing as NoValue}
use Rattle.vx_disk.specs.declared.shelf.Shelf.{Ghosts}
use Rattle.vx_group.specs.Deports.{DeportedBy}
use Rattle.vx_group.specs.Holding.{GroupStands, wide}
use Rattle.vx_group.specs.Laws.{group_lawful}
use Rattle.vx_group.proofs.Standing.{sound_of}
use Rattle.vx_blockwise.specs.Blocks.{alone_lawful}
use Rattle.vx_ground.specs.Lifted.{laid_volumes}
use Rattle.vx_diskset.specs.LaidBlocks.{laid_blockwise}
use Rattle.vx_diskset.proofs.BlockLemmas.{sound_alone}
use Rattle.vx_grouped.specs.GroupSites.{idle_disks, laid_disks}
use Rattle.vx_grouped.specs.Volumes.{SiteCloses}
use Rattle.vx_grouped.specs.declared.group_site.GroupSite.{GroupSite}
use Rattle.vx_grouped.specs.declared.group_site.GroupSite.TheVariants.{Up, Deported, Down, Marked, Gone}
use Rattle.vx_grouped.specs.declared.idle.Idle.{Idle}
use Rattle.vx_grouped.specs.declared.laid.Laid.{Laid}
use Rattle.vx_history.specs.World.{Node}
use Rattle.vx_model.specs.declared.site.SiteState.TheVariants.{Up as IsUp}
use Rattle.vx_kept.specs.Choice.{live}
use Rattle.vx_kept.specs.Groups.{found as finds, group_meaning, seen}
use Rattle.vx_kept.specs.Keeping.{Kin, SameShape}
use Rattle.vx_kept.specs.Opens.{OpenVolumes}
use Rattle.vx_kept.specs.PlexActs.{PlexActs}
use Rattle.vx_kept.specs.Cleans.{at_serial, cleaned}
use Rattle.vx_kept.proofs.CleanLemmas.{AllClean, all_clean}
use Rattle.vx_kept.proofs.Low.{found_same}
use Rattle.vx_kept.proofs.Narrower.{on_live}
use Rattle.vx_layout.specs.Places.{place}
use Rattle.vx_layout.proofs.Placing.{sound_apart}
use Rattle.vx_loggroup.proofs.DeportedLogs.{at_acts, at_shape}
use Rattle.vx_model.specs.Content.{Content, Write, fold_writes}
use Rattle.vx_model.specs.declared.call.Update.{Update}
use Rattle.vx_model.specs.declared.state.KeptLink.{KeptLink}
use Rattle.vx_model.specs.declared.state.State.{State}
use Rattle.vx_model.specs.declared.units.Units.{Units}
use Rattle.vx_rvg.specs.Stands.{LeftGroup}
use Rattle.vx_rvg.specs.Views.{Core, IsSound}
use Rattle.vx_rvg.proofs.LeftRest.{left_rest}
use Rattle.vx_untold.specs.Shades.{shade_meaning}
use Rattle.vx_untold.specs.declared.shade.Shade.{Shade}
use Rattle.vx_volume.specs.Plexes.{Inside, active}
use Rattle.vx_volume.proofs.PlaceLemmas.{has_of}
use Rattle.vx_events.specs.RvgFits.{config_rvg, entries_noted, rvg_noted}
use Rattle.vx_events.specs.GroupViews.{config_of, volumes_of}
use Rattle.vx_grouped.specs.SiteEnds.{NewestCommitted}
use Rattle.vx_history.specs.Groups.{GroupNode}
use Rattle.vx_diskset.specs.Noted.{RestsNamed}
use Rattle.vx_diskset.proofs.OverNoted.{note_read}
use Rattle.vx_diskset.specs.Aboves.{AboveStays, above_in, below_site, site_in}
use Rattle.vx_diskset.specs.Holds.{KeptBeside, most_header, state_with}
use Rattle.vx_diskset.specs.Lasts.{HasLast, LeftWith}
use Rattle.vx_diskset.specs.Layouts.{LiesOn, units_of}
use Rattle.vx_diskset.specs.Needs.{NoneNeeds}
use Rattle.vx_diskset.specs.OverAways.{given_up}
use Rattle.vx_diskset.specs.Stands.{AwayLeft, IsOverSite, IsReceiverAt, IsUpAt, OverStands, RestsOver, SiteStands, idle_ready}
use Rattle.vx_diskset.specs.declared.above.Above.{Above}
use Rattle.vx_diskset.specs.declared.above.Above.TheVariants.{Nothing, Origin, Receiver}
use Rattle.vx_diskset.specs.declared.disk_set.DiskSet.TheVariants.{Over}
use Rattle.vx_diskset.specs.declared.over_set.OverSet.{OverSet}
use Rattle.vx_diskset.specs.declared.over_set.OverSite.{OverSite}
use Rattle.vx_diskset.specs.declared.over_set.OverSite.TheVariants.{Origin as OriginSite, Receiver as ReceiverSite, Deported as GroupAway, Down as GroupFell, Gone as NoGroup}
use Rattle.vx_model.proofs.Contents.{folded_size}
use Rattle.vx_diskset.proofs.Laying.{laid_as, laid_in, laid_sized, over_there}
use Rattle.vx_diskset.proofs.OverClean.{returned_live, returned_place}
use Rattle.vx_diskset.proofs.OverCrash.{IsUnder, ready_under}
use Rattle.vx_diskset.proofs.OverFrames.{OverUp, over_to}
use Rattle.vx_diskset.proofs.RawSets.{over_on}
use Rattle.vx_diskset.proofs.Receiving.{durable_of, receiver_up}
use Rattle.vx_diskset.proofs.StartGroup.{left_still_with}

-- ---- what its volumes keep of it

-- a site that is up and runs keeps its log and its content, whatever a crash leaves
pub up_left : {beside : KeptBeside} (n : Node) (c : Core) (m : Meaning) → IsUpAt beside n c m → IsSound c m → n.halted ≡ None → IsTrue m.tells → LeftWith (units_of n) n.ring (state_with n beside.links) n.session (most_header beside n) n.log n.base m
up_left {beside} n c m up sound running tells =
    let holds = up.content running tells in
    let state_is : c.log.header.state ≡ state_with n beside.links = up.kept ∙ ap (λ (ls : List KeptLink). state_with n ls) (up.linked tells) in
    let stamp : c.log.header.stamp ≤ most_header beside n = let least = up.stamp tells running in omega (arith, least) in
    record {
      held = holds.held;
      has = subst (λ (r : ℕ). HasLast r n.log n.base holds.held) up.ring holds.has;
      needs = subst (λ (s : State). NoneNeeds s.links (holds.held.low - 1)) state_is holds.needs;
      left =
          subst (λ (u : Units). LeftGroup u n.ring (state_with n beside.links) n.session (most_header beside n) holds.held m) up.units
          (subst (λ (r : ℕ). LeftGroup c.units r (state_with n beside.links) n.session (most_header beside n) holds.held m) up.ring
          (subst (λ (s : State). LeftGroup c.units c.log.ring s n.session (most_header beside n) holds.held m) state_is
          (subst (λ (i : ℕ). LeftGroup c.units c.log.ring c.log.header.state i (most_header beside n) holds.held m) up.session
          (left_rest c holds.held m holds.stands tells holds.has.some sound.log_unit (most_header beside n) stamp))));
    }

-- ---- its disks, as an import finds them

module _ {R : Type 0} {g : Ghosts R} (beside : KeptBeside) (n : Node) (l : Laid R g) (idle : Idle R g) (it : DeportedBy (wide l.core).config l.core.inner (laid_disks l) (idle_disks idle)) where
  abbrev m : Meaning
  m = laid_disks l

  abbrev m' : Meaning
  m' = idle_disks idle

  abbrev r : Meaning
  r = idle_ready idle

  abbrev c : Config
  c = (wide l.core).config

  group : GroupStands l.core m
  group = l.stands.group

  -- the configuration behind the flushes
  abbrev at : Config
  at = at_serial it.config.serial it.behind.config

  under : IsUnder r m'
  under = ready_under g idle.agreed idle.rack

  acts : PlexActs NoValue c at m m'
  acts = at_acts l.core m m' group it

  shape : SameShape at c
  shape = at_shape l.core m m' group it

  sound : is_sound c ≡ true
  sound = sound_of (wide l.core) m group.stands

  told_up : IsTrue r.tells → IsTrue m.tells
  told_up tells = sym acts.acts.tells ∙ under.tells tells

  module _ (i : Image) (x : Config) (each : Each r.leaves i) (is : finds r i ≡ Found x) where
    each_disk : Each m'.leaves i
    each_disk u b = under.leaves u b (i u b) (each u b)

    is_disk : finds m' i ≡ Found x
    is_disk = sym (found_same m' r under.units under.size (λ u. true) i) ∙ is

    kin : Kin at x
    kin = it.kept.kin i x each_disk is_disk

    same_config : x ≡ it.config
    same_config = let both : Found x ≡ Found it.config = sym is_disk ∙ it.finds i each_disk in cc

    clean : AllClean it.behind.unsure (length l.core.inner.config.volumes) it.behind.config (cleaned it.behind.unsure it.behind.config (length l.core.inner.config.volumes))
    clean = all_clean it.behind.unsure (length l.core.inner.config.volumes) it.behind.config

    size_at : (v : ℕ) → blocks_of x.volumes v ≡ blocks_of at.volumes v
    size_at v = ap (λ (y : Config). blocks_of y.volumes v) same_config ∙ ap (λ vs. blocks_of vs v) it.volumes ∙ clean.alike.shape.blocks v

    count_at : length x.volumes ≡ length at.volumes
    count_at = ap (λ (y : Config). length y.volumes) same_config ∙ ap length it.volumes ∙ clean.alike.shape.volumes

    module _ (readable : ℕ → Bool) (opened : Config) (opens : OpenVolumes 0 (returned readable x) opened) where
      size_is : (v : ℕ) → blocks_of opened.volumes v ≡ blocks_of c.volumes v
      size_is v = opens.alike.shape.blocks v ∙ size_at v ∙ shape.blocks v

      count_is : length opened.volumes ≡ length c.volumes
      count_is = opens.alike.shape.volumes ∙ count_at ∙ shape.volumes

      inside_up : (v b : ℕ) → Inside opened v b → Inside c v b
      inside_up v b in_it = record {
        volume = let low = in_it.volume in let count = count_is in omega (arith, low, count);
        within = let low = in_it.within in let same = size_is v in omega (arith, low, same);
      }

      inside_down : (v b : ℕ) → Inside c v b → Inside opened v b
      inside_down v b in_it = record {
        volume = let low = in_it.volume in let count = count_is in omega (arith, low, count);
        within = let low = in_it.within in let same = size_is v in omega (arith, low, same);
      }

      low_at : (v b : ℕ) → Inside opened v b → v < length at.volumes
      low_at v b in_it = let low = in_it.volume in let one = opens.alike.shape.volumes in let two = count_at in omega (arith, low, one, two)

      -- a plex that takes part is ACTIVE in memory
      on_up : (v q b : ℕ) → Inside opened v b → IsTrue (active opened v q) → IsTrue (active c v q)
      on_up v q b in_it on =
          let lives : IsTrue (live x v q) = sym (opens.alike.lives v q ∙ returned_live readable x v q) ∙ on_live opened v q on in
          acts.on v q (kin.on v q (low_at v b in_it) lives)

      lay : (v q b : ℕ) → Inside opened v b → place opened v q b ≡ place c v q b
      lay v q b in_it = opens.alike.shape.place v q b ∙ returned_place readable x v q b ∙ kin.shape.place v q b (low_at v b in_it) ∙ shape.place v q b

      -- so of each block no more is left than was
      left_up : (v b : ℕ) (w : List ℕ) → seen r.tells opened r.leaves v b w → seen m.tells c m.leaves v b w
      left_up v b w (inl on) =
          let in_it : Inside c v b = inside_up v b on.inside in
          let on_c : IsTrue (active c v on.plex) = on_up v on.plex b on.inside on.is_on in
          let at_c : m'.leaves (place c v on.plex b).0 (place c v on.plex b).1 w = subst (λ (s : ℕ × ℕ). m'.leaves s.0 s.1 w) (lay v on.plex b on.inside) (under.leaves (place opened v on.plex b).0 (place opened v on.plex b).1 w on.value) in
          let above = ((sound_apart c sound).region v on.plex b (has_of c v on.plex b on_c in_it)).public in
          inl (record {
            inside = in_it;
            plex = on.plex;
            is_on = on_c;
            value = ⊎_elim (λ was. was) (λ none. absurd none) (acts.acts.leaves (place c v on.plex b).0 (place c v on.plex b).1 w above at_c);
          })
      left_up v b w (inr out) = inr (record { tells = told_up out.tells; outside = λ in_it. out.outside (inside_down v b in_it); empty = out.empty })

  -- ---- the site

  module _ (lies : LiesOn n (laid_blockwise l)) (low : n.low ≡ 1) (begun : IsTrue (laid_blockwise l).tells → 0 < n.session) (sure : beside.doubt ≡ None) (over : n.group ≡ None → ⊥) (most : n.safe ≤ length n.log)
      (left : IsTrue (laid_blockwise l).tells → LeftWith (units_of n) n.ring (state_with n beside.links) n.session (most_header beside n) (take n.safe n.log) n.base (laid_blockwise l)) where
    abbrev after : Node
    after = given_up n

    long : length (take n.safe n.log) ≡ n.safe
    long = omega (arith, length-take n.safe n.log, most)

    same_base : n.base ≡ after.base
    same_base = ap (λ (xs : List Write). fold_writes n.base xs) (sym (drop_all n.safe (take n.safe n.log) (omega (arith, long))))

    left_base : IsTrue (laid_blockwise l).tells → LeftWith (units_of after) after.ring (state_with after beside.links) after.session (most_header beside after) after.log after.base (laid_blockwise l)
    left_base tells = subst (λ (k : Content). LeftWith (units_of n) n.ring (state_with n beside.links) n.session (most_header beside n) (take n.safe n.log) k (laid_blockwise l)) same_base (left tells)

    pub away_rests : RestsOver (λ k. AwayLeft k beside after r) beside after r
    away_rests = record {
      config = at;
      sure = sure;
      lies =
          laid_sized (units_of n) n.ring n.volumes n.base.size after.base.size (group_meaning at (λ v. 0) m') (folded_size n.base (drop n.safe (take n.safe n.log)))
          (laid_as (units_of n) n.ring n.volumes n.base.size (laid_blockwise l) (group_meaning at (λ v. 0) m') shape.blocks (laid_in n (laid_blockwise l) lies));
      there = λ k is. let here = over_there n (laid_blockwise l) over lies k is in let same = shape.volumes in omega (arith, here, same);
      low = low;
      logged = long;
      begun = λ tells. begun (told_up tells);
      left = λ tells. inl (record {
        extends = λ i x each is. (kin i x each is).shape;
        left = λ i x opened readable each is opens.
            left_still_with (units_of after) after.ring (state_with after beside.links) after.session (most_header beside after) after.log after.base (laid_blockwise l) (group_meaning opened (λ v. 0) r) (tells ∙ sym (told_up tells))
            (size_is i x each is readable opened opens) (left_up i x each is readable opened opens) (left_base (told_up tells));
      });
    }

-- ---- of a site

module _ {R : Type 0} {g : Ghosts R} (laws : (s : Shade R) → Lawful (shade_meaning g.meaning s)) where
  law : (l : Laid R g) → Lawful (laid_volumes l)
  law l = group_lawful (wide l.core) (shade_meaning g.meaning l.shelf) (laws l.shelf) l.stands.group.stands

  given_idle : (x y : Idle R g) → ◌≡◌ {A = GroupSite R g} (Deported x) (Deported y) → x ≡ y
  given_idle x y is = cc

  pub given_site : (s : OverSite R g) (idle : Idle R g) → below_site s ≡ Deported idle → s ≡ GroupAway idle
  given_site (OriginSite f) idle is = absurd (cc)
  given_site (ReceiverSite f) idle is = absurd (cc)
  given_site (GroupAway x) idle is = ap (λ (i : Idle R g). GroupAway i) (given_idle x idle is)
  given_site (GroupFell x) idle is = absurd (cc)
  given_site NoGroup idle is = absurd (cc)

  module _ (beside : KeptBeside) (n : Node) (idle : Idle R g) (over : IsOverSite beside n) (running : n.halted ≡ None) where
    abbrev Rests : Type 0
    Rests = RestsOver (λ k. AwayLeft k beside (given_up n) (idle_ready idle)) beside (given_up n) (idle_ready idle)

    origin_away : (l : Laid R g) (core : Core) → DeportedBy (wide l.core).config l.core.inner (laid_disks l) (idle_disks idle) → IsSound core (laid_volumes l) → IsUpAt beside n core (laid_blockwise l) → Rests
    origin_away l core it sound up =
        away_rests beside n l idle it up.lies up.low up.begun (up.sure running) over.0 up.logged
        (λ tells. subst (λ (xs : List Write). LeftWith (units_of n) n.ring (state_with n beside.links) n.session (most_header beside n) xs n.base (laid_blockwise l)) (sym (take_all n.safe n.log (up.durable running)))
        (up_left n core (laid_blockwise l) up (sound_alone core (laid_volumes l) sound) running tells))

    receiver_away : (l : Laid R g) (core : Core) (waiting : List Update) → DeportedBy (wide l.core).config l.core.inner (laid_disks l) (idle_disks idle) → IsSound core (laid_volumes l) → IsReceiverAt beside n core waiting (laid_blockwise l) → Rests
    receiver_away l core waiting it sound here =
        let up : IsUpAt beside (durable_of n) core (laid_blockwise l) = receiver_up n core waiting (laid_blockwise l) here running (alone_lawful (laid_volumes l) (law l)) sound.log_unit in
        away_rests beside n l idle it here.lies here.low here.begun (here.sure running) over.0 (let least = here.least in let most = here.most in omega (arith, least, most))
        (λ tells. up_left (durable_of n) core (laid_blockwise l) up (sound_alone core (laid_volumes l) sound) running tells)

    away_by : (e : GroupSite R g) (a : Above) → SiteCloses e (Deported idle) → AboveStays a e → OverUp beside n a e → Rests
    away_by (Up l) Nothing closes sound it = absurd it
    away_by (Up l) (Origin core) closes sound it = origin_away l core closes sound it
    away_by (Up l) (Receiver core waiting) closes sound it = receiver_away l core waiting closes sound.0 it
    away_by (Deported x) a closes sound it = absurd it
    away_by (Down x) a closes sound it = absurd it
    away_by (Marked rack) a closes sound it = absurd it
    away_by Gone a closes sound it = absurd it

    away_stands : (new : OverSet R g) → site_in new ≡ Deported idle → Rests → SiteStands beside (given_up n) (Over new)
    away_stands new at rests = (
      over_on beside n (given_up n) refl refl refl refl over,
      subst (λ (x : OverSite R g). OverStands beside (given_up n) x) (sym (given_site new.site idle at)) (refl, rests),
    )

  -- so a deport leaves it, where the disks were given up
  pub gave_up : (old new : OverSet R g) (a : Above) (e e' : GroupSite R g) → a ≡ above_in old → e ≡ site_in old → SiteCloses e e' → AboveStays a e → (beside : KeptBeside) (n : Node) (idle : Idle R g) → SiteStands beside n (Over old) → n.state ≡ IsUp → n.halted ≡ None → e' ≡ Deported idle
      → site_in new ≡ Deported idle → SiteStands beside (given_up n) (Over new)
  gave_up old new a e e' above_is site_is closes sound beside n idle stands state running gone at =
      let was : OverUp beside n (above_in old) (site_in old) = over_to beside n old.site state stands.1 in
      let it : OverUp beside n a e = subst (λ (x : GroupSite R g). OverUp beside n a x) (sym site_is) (subst (λ (x : Above). OverUp beside n x (site_in old)) (sym above_is) was) in
      away_stands beside n idle stands.0 running new at (away_by beside n idle stands.0 running e a (subst (λ (x : GroupSite R g). SiteCloses e x) gone closes) sound it)

-- ---- what an import may find of it

found_inj : {a b : Config} → Found a ≡ Found b → a ≡ b
found_inj e = cc

module _ {R : Type 0} {g : Ghosts R} where
  -- each configuration is the one that is noted
  pub newest_named : (note : GroupNode) (e : GroupSite R g) (units : Units) → NewestCommitted note e → rvg_noted note ≡ Some units → RestsNamed units (length (entries_noted note)) e
  newest_named note (Up laid) units it named = absurd it
  newest_named note (Deported idle) units it named =
      let under : IsUnder (idle_ready idle) (idle_disks idle) = ready_under g idle.agreed idle.rack in
      let read : config_of note.config ≡ Some (at_serial 0 it.0) = note_read note it.0 it.1 in
      record {
        each = λ i x each is.
            let found : finds (idle_disks idle) i ≡ Found x = sym (found_same (idle_disks idle) (idle_ready idle) under.units under.size (λ u. true) i) ∙ is in
            let same : x ≡ it.0 = found_inj (sym found ∙ it.2.finds i (λ u b. under.leaves u b (i u b) (each u b))) in (
              ap (λ (c : Config). c.rvg) same ∙ sym (ap (λ (o : Option Config). config_rvg o) read) ∙ named,
              ap (λ (c : Config). length c.volumes) same ∙ sym (ap (λ (o : Option Config). length (volumes_of o)) read),
            );
      }
  newest_named note (Down idle) units it named = absurd it
  newest_named note (Marked rack) units it named = absurd it
  newest_named note Gone units it named = absurd it
