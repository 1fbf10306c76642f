-- The disks below a replicated volume group, of which some are made to fail, or whose fuse is set: what stood over them stands.
use Rattle.std.proofs.Common.{◌≡◌, ◌∙◌, ◌<◌, arith, inl, inr, ℕ, Bool, true, false, List, ap, refl, subst, sym, IsTrue}
use Rattle.vx_config.specs.declared.config.Config.{Config}
use Rattle.vx_copyfmt.specs.Imports.{Found}
use Rattle.vx_disk.specs.Causes.{OnDisks, WithDisks}
use Rattle.vx_disk.specs.Racks.{Alike, IsRack}
use Rattle.vx_disk.specs.Shelf.{Each, Image, Meaning, Nothing, Values}
use Rattle.vx_disk.specs.declared.shelf.Shelf.{Ghosts}
use Rattle.vx_disk.proofs.Alikes.{alike_Goes}
use Rattle.vx_history.specs.Groups.{GroupNode}
use Rattle.vx_history.specs.World.{Fuse, NoFuse, FuseSet, FuseLit, Node}
use Rattle.vx_kept.specs.Groups.{found as finds, group_meaning, seen}
use Rattle.vx_kept.proofs.Low.{found_same}
use Rattle.vx_model.specs.declared.call.Update.{Update}
use Rattle.vx_model.specs.declared.site.SiteState.TheVariants.{Up as IsUp, Down as IsDown, Deported as IsAway}
use Rattle.vx_rvg.specs.Views.{Core, IsSound}
use Rattle.vx_secondary.specs.Receivers.{Wait}
use Rattle.vx_untold.specs.Shades.{shade_meaning}
use Rattle.vx_untold.specs.declared.shade.Shade.{Shade}
use Rattle.vx_untold.specs.declared.shade.Shade.TheVariants.{Bright, Dark}
use Rattle.vx_watched.specs.Traces.{TellsLess}
use Rattle.vx_ground.specs.Lifted.{laid_volumes}
use Rattle.vx_diskset.specs.LaidBlocks.{laid_blockwise}
use Rattle.vx_diskset.proofs.BlockLemmas.{alike_blockwise}
use Rattle.vx_grouped.specs.GroupSites.{AwayNoted, DownNoted, UpNoted, idle_below, idle_disks, laid_below, laid_disks, site_disks}
use Rattle.vx_grouped.specs.Readies.{ready_of}
use Rattle.vx_grouped.specs.declared.group_site.GroupSite.TheVariants.{Up, Deported, Down}
use Rattle.vx_grouped.specs.declared.idle.Idle.{Idle}
use Rattle.vx_grouped.specs.declared.laid.Laid.{Laid}
use Rattle.vx_grouped.proofs.AlikeLemmas.{alike_away, alike_down, alike_up, fuse_now, fuse_stays, fused_up}
use Rattle.vx_diskset.specs.Aboves.{above_in, above_site, below_site, site_in}
use Rattle.vx_diskset.specs.Asked.{SetsDisk, SetsFuse, units_in}
use Rattle.vx_diskset.specs.DiskSets.{Later}
use Rattle.vx_diskset.specs.Founded.{DisksAlike, FailsOne, FusesFor, LaidFails, LaidFuses}
use Rattle.vx_diskset.specs.Fuses.{FuseOn}
use Rattle.vx_diskset.specs.Holds.{KeptBeside, most_header, state_with}
use Rattle.vx_diskset.specs.Layouts.{units_of}
use Rattle.vx_diskset.specs.Noted.{FoundNamed, FusesNoted, NotedOn, RestsNamed, StaysNoted}
use Rattle.vx_group.specs.Resumes.{AtRest}
use Rattle.vx_diskset.specs.Stands.{AwayLeft, AwayOver, FellOver, IsOverSite, IsReceiverAt, IsUpAt, KeepsRole, OverStands, RestsOver, RoleBy, SiteStands, idle_ready, RvgSettles}
use Rattle.vx_diskset.specs.declared.above.Above.{Above}
use Rattle.vx_diskset.specs.declared.above.Above.TheVariants.{Origin, Receiver}
use Rattle.vx_diskset.specs.declared.disk_set.DiskSet.{DiskSet}
use Rattle.vx_diskset.specs.declared.disk_set.DiskSet.TheVariants.{Over}
use Rattle.vx_diskset.specs.declared.founded.Founded.{Founded}
use Rattle.vx_diskset.specs.declared.founded.FoundedReceiver.{FoundedReceiver}
use Rattle.vx_diskset.specs.declared.over_set.OverSet.{OverSet}
use Rattle.vx_diskset.specs.declared.over_set.OverSite.{OverSite}
use Rattle.vx_diskset.specs.declared.over_set.OverSite.TheVariants.{Origin as OriginSite, Receiver as ReceiverSite, Deported as GroupAway, Down as GroupFell, Gone as NoGroup}
use Rattle.vx_diskset.proofs.FuseGroup.{alike_sound, up_alike}
use Rattle.vx_diskset.proofs.MakeGroup.{up_still}
use Rattle.vx_diskset.proofs.Receiving.{receiver_alike, receiver_still, wait_as}
use Rattle.vx_diskset.proofs.StartGroup.{left_still_with}
use Rattle.vx_model.specs.declared.units.Units.{Units}

-- ---- disks by themselves of which no more may be left

-- the same disks, of which a crash leaves no more
pub record LeavesLess (m m' : Meaning) : Type 0 where
  pub units : m'.units ≡ m.units
  pub size : (u : ℕ) → m'.size u ≡ m.size u
  pub tells : m'.tells ≡ m.tells
  pub leaves : (u b : ℕ) (v : List ℕ) → m'.leaves u b v → m.leaves u b v

pub less_alike : (m m' : Meaning) → Alike m m' → LeavesLess m m'
less_alike m m' alike = record { units = alike.contents.units; size = alike.contents.size; tells = alike.contents.tells; leaves = alike.contents.leaves }

-- and of its volumes
pub seen_less : (tells tells' : Bool) (c : Config) (old new : Values) → (IsTrue tells' → IsTrue tells) → ((u b : ℕ) (v : List ℕ) → new u b v → old u b v) → (u b : ℕ) (v : List ℕ) → seen tells' c new u b v → seen tells c old u b v
seen_less tells tells' c old new told less u b v (inl on) = inl (record { inside = on.inside; plex = on.plex; is_on = on.is_on; value = less _ _ v on.value })
seen_less tells tells' c old new told less u b v (inr out) = inr (record { tells = told out.tells; outside = out.outside; empty = out.empty })

-- what names the replicated volume group does so still
pub named_less : (units : Units) (count : ℕ) (m m' : Meaning) → LeavesLess m m' → FoundNamed units count m → FoundNamed units count m'
named_less units count m m' less it = record {
  each = λ i x each is. it.each i x (λ u b. less.leaves u b (i u b) (each u b)) (sym (found_same m m' less.units less.size (λ u. true) i) ∙ is);
}

module _ (beside : KeptBeside) (n : Node) (m m' : Meaning) (less : LeavesLess m m') where
  before : (i : Image) → Each m'.leaves i → Each m.leaves i
  before i each u b = less.leaves u b (i u b) (each u b)

  was_found : (i : Image) (x : Config) → finds m' i ≡ Found x → finds m i ≡ Found x
  was_found i x is = sym (found_same m m' less.units less.size (λ u. true) i) ∙ is

  rests_less : (P Q : Config → Type 0) → ((c : Config) → P c → Q c) → RestsOver P beside n m → RestsOver Q beside n m'
  rests_less P Q like it = record {
    config = it.config;
    sure = it.sure;
    lies = it.lies;
    there = it.there;
    low = it.low;
    logged = it.logged;
    begun = λ told. it.begun (sym less.tells ∙ told);
    left = λ told. like it.config (it.left (sym less.tells ∙ told));
  }

  fell_one : (c : Config) → FellOver c beside n m → FellOver c beside n m'
  fell_one c it = record {
    extends = λ i x each is. it.extends i x (before i each) (was_found i x is);
    found = λ i x above each is shows. it.found i x above (before i each) (was_found i x is) shows;
  }

  pub fell_less : RestsOver (λ c. FellOver c beside n m) beside n m → RestsOver (λ c. FellOver c beside n m') beside n m'
  fell_less = rests_less (λ c. FellOver c beside n m) (λ c. FellOver c beside n m') fell_one

  pub settles_less : (units : Units) → RvgSettles units m → RvgSettles units m'
  settles_less units it = record {
    each = λ i x v each is inside. elim (it.each i x v (before i each) (was_found i x is) inside) [
      | inl on ↦ inl on
      | inr agree ↦ inr (record { so = λ p q b y z in_it on_p on_q at_p at_q. agree.so p q b y z in_it on_p on_q (less.leaves _ _ y at_p) (less.leaves _ _ z at_q) })
    ];
  }

  away_one : (c : Config) → AwayOver c beside n m → AwayOver c beside n m'
  away_one c it = record {
    extends = λ i x each is. it.extends i x (before i each) (was_found i x is);
    left = λ i x opened readable each is opens.
        left_still_with (units_of n) n.ring (state_with n beside.links) n.session (most_header beside n) n.log n.base (group_meaning opened (λ v. 0) m) (group_meaning opened (λ v. 0) m') less.tells (λ u. refl)
        (seen_less m.tells m'.tells opened m.leaves m'.leaves (λ told. sym less.tells ∙ told) less.leaves) (it.left i x opened readable (before i each) (was_found i x is) opens);
  }

  pub one_less : AtRest m → AtRest m'
  one_less rest = record { one = λ u b x y left right. rest.one u b x y (less.leaves u b x left) (less.leaves u b y right) }

  left_one : (c : Config) → AwayLeft c beside n m → AwayLeft c beside n m'
  left_one c (inl away) = inl (away_one c away)
  left_one c (inr fell) = inr (record { over = fell_one c fell.over; settles = settles_less (units_of n) fell.settles; one = one_less fell.one })

  pub away_less : RestsOver (λ c. AwayLeft c beside n m) beside n m → RestsOver (λ c. AwayLeft c beside n m') beside n m'
  away_less = rests_less (λ c. AwayLeft c beside n m) (λ c. AwayLeft c beside n m') left_one

abbrev origin_of : Core → Above
origin_of core = Origin core

abbrev receiver_of : Core → List Update → Above
receiver_of core waiting = Receiver core waiting

-- whether imports of them agree or not
ready_less : {R : Type 0} (g : Ghosts R) (agreed : Bool) (s s' : Shade R) → Alike (shade_meaning g.meaning s) (shade_meaning g.meaning s') → LeavesLess (shade_meaning g.meaning (ready_of agreed s)) (shade_meaning g.meaning (ready_of agreed s'))
ready_less g true s s' alike = less_alike (shade_meaning g.meaning s) (shade_meaning g.meaning s') alike
ready_less g false (Bright r) (Bright r') alike = record { units = alike.contents.units; size = alike.contents.size; tells = refl; leaves = λ u b v left. absurd left }
ready_less g false (Bright r) (Dark r') alike = record { units = alike.contents.units; size = alike.contents.size; tells = refl; leaves = λ u b v left. absurd left }
ready_less g false (Dark r) (Bright r') alike = record { units = alike.contents.units; size = alike.contents.size; tells = refl; leaves = λ u b v left. absurd left }
ready_less g false (Dark r) (Dark r') alike = record { units = alike.contents.units; size = alike.contents.size; tells = refl; leaves = λ u b v left. absurd left }

module _ {R : Type 0} {g : Ghosts R} where
  pub idle_less : (idle new : Idle R g) → new.agreed ≡ idle.agreed → Alike (idle_disks idle) (idle_disks new) → LeavesLess (idle_ready idle) (idle_ready new)
  idle_less idle new agreed alike =
      subst (λ (b : Bool). LeavesLess (idle_ready idle) (shade_meaning g.meaning (ready_of b new.rack))) (sym agreed) (ready_less g idle.agreed idle.rack new.rack alike)

  -- ---- the group below by its parts

  pub carried_laid : (P : Laid R g → Laid R g → Type 0) (a b c d : Laid R g) → b ≡ a → c ≡ d → P b d → P a c
  carried_laid P a b c d first last it = subst (λ x. P x c) first (subst (λ y. P b y) (sym last) it)

  module _ (core : Core) (l k : Laid R g) (alike : Alike (laid_volumes l) (laid_volumes k)) (down : (laid_disks k).down ≡ (laid_disks l).down) where
    pub laid_sound : IsSound core (laid_volumes l) → IsSound core (laid_volumes k)
    laid_sound sound = alike_sound core (laid_volumes l) (laid_volumes k) alike down sound

    pub laid_waits : (us : List Update) → Wait core (laid_volumes l).size us → Wait core (laid_volumes k).size us
    laid_waits us waits = wait_as core core (laid_volumes l).size (laid_volumes k).size us refl refl refl refl alike.contents.size waits

  -- the fuse, as the volumes have it
  fuse_volumes : (f : Fuse) (l k : Laid R g) → (laid_disks k).armed ≡ (laid_disks l).armed → FuseOn f (laid_blockwise l) → FuseOn f (laid_blockwise k)
  fuse_volumes NoFuse l k armed it = armed ∙ it
  fuse_volumes (FuseSet calls) l k armed it = tt
  fuse_volumes (FuseLit most) l k armed it = tt

  -- ---- an origin

  module _ (s : OverSite R g) (f f' : Founded R g) (is : s ≡ OriginSite f) (core : f'.core ≡ f.core) where
    -- whatever it stands for still
    origin_with : (beside : KeptBeside) (n k : Node) → (IsUpAt beside n f.core (laid_blockwise f.laid) → IsUpAt beside k f.core (laid_blockwise f'.laid)) → OverStands beside n s → OverStands beside k (OriginSite f')
    origin_with beside n k still stands =
        subst (λ (x : Core). IsUpAt beside k x (laid_blockwise f'.laid)) (sym core) (still (subst (λ (x : OverSite R g). OverStands beside n x) is stands))

    pub origin_above : above_site (OriginSite f') ≡ above_site s
    origin_above = ap (λ (x : Core). origin_of x) core ∙ sym (ap (λ (x : OverSite R g). above_site x) is)

    pub origin_fails : (disk : ℕ) (on : Bool) → LaidFails disk on f.laid f'.laid → (beside : KeptBeside) (n : Node) → OverStands beside n s → OverStands beside n (OriginSite f')
    origin_fails disk on fails beside n =
        origin_with beside n n
        (λ up. up_still n f.core (laid_blockwise f.laid) (laid_blockwise f'.laid) (alike_Goes Nothing (laid_blockwise f.laid) (laid_blockwise f'.laid) (alike_blockwise (laid_volumes f.laid) (laid_volumes f'.laid) fails.volumes) fails.down fails.armed) (alike_blockwise (laid_volumes f.laid) (laid_volumes f'.laid) fails.volumes).contents.now fails.down
        (fuse_volumes n.fuse f.laid f'.laid fails.armed up.fuse) up)

    pub origin_fuses : (calls pick : ℕ) → LaidFuses calls pick f.laid f'.laid → (beside : KeptBeside) (n : Node) → OverStands beside n s → OverStands beside (record n { fuse = FuseSet calls }) (OriginSite f')
    origin_fuses calls pick fuses beside n =
        origin_with beside n (record n { fuse = FuseSet calls }) (λ up. up_alike n (FuseSet calls) f.core (laid_blockwise f.laid) (laid_blockwise f'.laid) (alike_blockwise (laid_volumes f.laid) (laid_volumes f'.laid) fuses.volumes) fuses.down tt up)

  -- ---- a receiver

  module _ (s : OverSite R g) (f f' : FoundedReceiver R g) (is : s ≡ ReceiverSite f) (core : f'.core ≡ f.core) (waiting : f'.waiting ≡ f.waiting) where
    receiver_with : (beside : KeptBeside) (n k : Node) → (IsReceiverAt beside n f.core f.waiting (laid_blockwise f.laid) → IsReceiverAt beside k f.core f.waiting (laid_blockwise f'.laid)) → OverStands beside n s → OverStands beside k (ReceiverSite f')
    receiver_with beside n k still stands =
        subst (λ (x : Core). IsReceiverAt beside k x f'.waiting (laid_blockwise f'.laid)) (sym core)
        (subst (λ (us : List Update). IsReceiverAt beside k f.core us (laid_blockwise f'.laid)) (sym waiting) (still (subst (λ (x : OverSite R g). OverStands beside n x) is stands)))

    pub receiver_above : above_site (ReceiverSite f') ≡ above_site s
    receiver_above = ap (λ (x : Core). receiver_of x f'.waiting) core ∙ ap (λ (us : List Update). receiver_of f.core us) waiting ∙ sym (ap (λ (x : OverSite R g). above_site x) is)

    pub receiver_fails : (disk : ℕ) (on : Bool) → LaidFails disk on f.laid f'.laid → (beside : KeptBeside) (n : Node) → OverStands beside n s → OverStands beside n (ReceiverSite f')
    receiver_fails disk on fails beside n =
        receiver_with beside n n
        (λ r. receiver_still n f.core f.waiting (laid_blockwise f.laid) (laid_blockwise f'.laid) (alike_Goes Nothing (laid_blockwise f.laid) (laid_blockwise f'.laid) (alike_blockwise (laid_volumes f.laid) (laid_volumes f'.laid) fails.volumes) fails.down fails.armed) (alike_blockwise (laid_volumes f.laid) (laid_volumes f'.laid) fails.volumes).contents.now fails.down
        (fuse_volumes n.fuse f.laid f'.laid fails.armed r.fuse) r)

    pub receiver_fuses : (calls pick : ℕ) → LaidFuses calls pick f.laid f'.laid → (beside : KeptBeside) (n : Node) → OverStands beside n s → OverStands beside (record n { fuse = FuseSet calls }) (ReceiverSite f')
    receiver_fuses calls pick fuses beside n =
        receiver_with beside n (record n { fuse = FuseSet calls }) (λ r. receiver_alike n (FuseSet calls) f.core f.waiting (laid_blockwise f.laid) (laid_blockwise f'.laid) (alike_blockwise (laid_volumes f.laid) (laid_volumes f'.laid) fuses.volumes) fuses.down tt r)

  -- ---- the note, and the counts

  laid_noted : (disk : ℕ) (on : Bool) (l k : Laid R g) → LaidFails disk on l k → (n : Node) (note : GroupNode) → UpNoted n note (Up l) → UpNoted n note (Up k)
  laid_noted disk on l k fails n note it =
      alike_up n note l.core k.core (laid_disks l) (laid_disks k) fails.core fails.alike fails.down fails.volumes (laid_below l).tells (laid_below k).tells fails.told
      (fuse_stays n.fuse (laid_disks l) (laid_disks k) (FailsOne disk on) fails.armed (λ o d told. told.0.fuse) fails.disks it.fuse) it

  laid_fused : (calls pick : ℕ) (l k : Laid R g) → ((t : Shade R) → IsRack (shade_meaning g.meaning t)) → LaidFuses calls pick l k → (n : Node) (note : GroupNode) → UpNoted n note (Up l) → UpNoted (record n { fuse = FuseSet calls }) note (Up k)
  laid_fused calls pick l k racks fuses n note it =
      fused_up n note l.core k.core (laid_disks l) (laid_disks k) fuses.core fuses.alike fuses.down fuses.volumes (laid_below l).tells (laid_below k).tells fuses.told calls
      (fuse_now calls pick (laid_disks l) (laid_disks k) (racks l.shelf) fuses.disks) it

  module _ (old : OverSet R g) (f f' : Founded R g) (is : old.site ≡ OriginSite f) where
    abbrev origin_new : OverSet R g
    origin_new = record { site = OriginSite f'; cut = old.cut }

    module _ (disk : ℕ) (on : Bool) (fails : LaidFails disk on f.laid f'.laid) where
      pub origin_stays : StaysNoted old origin_new
      origin_stays = record { cut = refl; each = λ n note it. laid_noted disk on f.laid f'.laid fails n note (subst (λ (x : OverSite R g). NotedOn n note (below_site x)) is it); named = λ units count it. tt }

      pub origin_asked : WithDisks (site_disks (below_site old.site)).disks (laid_disks f'.laid).disks (FailsOne disk on)
      origin_asked = subst (λ (x : OverSite R g). WithDisks (site_disks (below_site x)).disks (laid_disks f'.laid).disks (FailsOne disk on)) (sym is) fails.disks

      pub origin_counts : DisksAlike (below_site old.site) (Up f'.laid)
      origin_counts = subst (λ (x : OverSite R g). DisksAlike (below_site x) (Up f'.laid)) (sym is) (record { counts = fails.alike.counts.disk_faults; tells = fails.alike.contents.tells; told = fails.told })

    module _ (calls pick : ℕ) (fuses : LaidFuses calls pick f.laid f'.laid) where
      pub origin_fused : ((t : Shade R) → IsRack (shade_meaning g.meaning t)) → FusesNoted calls old origin_new
      origin_fused racks = record { cut = refl; each = λ n note it. laid_fused calls pick f.laid f'.laid racks fuses n note (subst (λ (x : OverSite R g). UpNoted n note (below_site x)) is it); named = λ units count it. tt }

      pub origin_set : OnDisks (site_disks (below_site old.site)).disks (laid_disks f'.laid).disks (FusesFor calls pick)
      origin_set = subst (λ (x : OverSite R g). OnDisks (site_disks (below_site x)).disks (laid_disks f'.laid).disks (FusesFor calls pick)) (sym is) fuses.disks

      pub origin_since : DisksAlike (below_site old.site) (Up f'.laid)
      origin_since = subst (λ (x : OverSite R g). DisksAlike (below_site x) (Up f'.laid)) (sym is) (record { counts = fuses.alike.counts.disk_faults; tells = fuses.alike.contents.tells; told = fuses.told })

  module _ (old : OverSet R g) (f f' : FoundedReceiver R g) (is : old.site ≡ ReceiverSite f) where
    abbrev receiver_new : OverSet R g
    receiver_new = record { site = ReceiverSite f'; cut = old.cut }

    module _ (disk : ℕ) (on : Bool) (fails : LaidFails disk on f.laid f'.laid) where
      pub receiver_stays : StaysNoted old receiver_new
      receiver_stays = record { cut = refl; each = λ n note it. laid_noted disk on f.laid f'.laid fails n note (subst (λ (x : OverSite R g). NotedOn n note (below_site x)) is it); named = λ units count it. tt }

      pub receiver_asked : WithDisks (site_disks (below_site old.site)).disks (laid_disks f'.laid).disks (FailsOne disk on)
      receiver_asked = subst (λ (x : OverSite R g). WithDisks (site_disks (below_site x)).disks (laid_disks f'.laid).disks (FailsOne disk on)) (sym is) fails.disks

      pub receiver_counts : DisksAlike (below_site old.site) (Up f'.laid)
      receiver_counts = subst (λ (x : OverSite R g). DisksAlike (below_site x) (Up f'.laid)) (sym is) (record { counts = fails.alike.counts.disk_faults; tells = fails.alike.contents.tells; told = fails.told })

    module _ (calls pick : ℕ) (fuses : LaidFuses calls pick f.laid f'.laid) where
      pub receiver_fused_noted : ((t : Shade R) → IsRack (shade_meaning g.meaning t)) → FusesNoted calls old receiver_new
      receiver_fused_noted racks = record { cut = refl; each = λ n note it. laid_fused calls pick f.laid f'.laid racks fuses n note (subst (λ (x : OverSite R g). UpNoted n note (below_site x)) is it); named = λ units count it. tt }

      pub receiver_set : OnDisks (site_disks (below_site old.site)).disks (laid_disks f'.laid).disks (FusesFor calls pick)
      receiver_set = subst (λ (x : OverSite R g). OnDisks (site_disks (below_site x)).disks (laid_disks f'.laid).disks (FusesFor calls pick)) (sym is) fuses.disks

      pub receiver_since : DisksAlike (below_site old.site) (Up f'.laid)
      receiver_since = subst (λ (x : OverSite R g). DisksAlike (below_site x) (Up f'.laid)) (sym is) (record { counts = fuses.alike.counts.disk_faults; tells = fuses.alike.contents.tells; told = fuses.told })

  -- ---- disks by themselves

  module _ (old : OverSet R g) (idle new : Idle R g) (disk : ℕ) (on : Bool) (agreed : new.agreed ≡ idle.agreed) (alike : Alike (idle_disks idle) (idle_disks new)) (down : (idle_disks new).down ≡ (idle_disks idle).down)
      (armed : (idle_disks new).armed ≡ (idle_disks idle).armed) (told : WithDisks (idle_disks idle).disks (idle_disks new).disks (FailsOne disk on)) (less : TellsLess (idle_below idle) (idle_below new)) where
    module _ (is : old.site ≡ GroupAway idle) where
      pub away_fails : (beside : KeptBeside) (n : Node) → OverStands beside n old.site → OverStands beside n (GroupAway new)
      away_fails beside n stands =
          let was = subst (λ (x : OverSite R g). OverStands beside n x) is stands in
          (was.0, away_less beside n (idle_ready idle) (idle_ready new) (idle_less idle new agreed alike) was.1)

      pub away_stays : StaysNoted old (record { site = GroupAway new; cut = old.cut })
      away_stays = record {
        cut = refl;
        each = λ n note it.
            let was : AwayNoted n note (Deported idle) = subst (λ (x : OverSite R g). NotedOn n note (below_site x)) is it in
            alike_away n (idle_disks idle) (idle_disks new) alike down armed idle.agreed new.agreed agreed (idle_below idle).tells (idle_below new).tells less note
            (fuse_stays n.fuse (idle_disks idle) (idle_disks new) (FailsOne disk on) armed (λ o d t. t.0.fuse) told was.fuse) was;
        named = λ units count it.
            let was : FoundNamed units count (idle_ready idle) = subst (λ (x : OverSite R g). RestsNamed units count (below_site x)) is it in
            named_less units count (idle_ready idle) (idle_ready new) (idle_less idle new agreed alike) was;
      }

      pub away_asked : WithDisks (site_disks (below_site old.site)).disks (idle_disks new).disks (FailsOne disk on)
      away_asked = subst (λ (x : OverSite R g). WithDisks (site_disks (below_site x)).disks (idle_disks new).disks (FailsOne disk on)) (sym is) told

      pub away_counts : DisksAlike (below_site old.site) (Deported new)
      away_counts = subst (λ (x : OverSite R g). DisksAlike (below_site x) (Deported new)) (sym is) (record { counts = alike.counts.disk_faults; tells = alike.contents.tells; told = less })

    module _ (is : old.site ≡ GroupFell idle) where
      pub fell_fails : new.rested ≡ idle.rested → (beside : KeptBeside) (n : Node) → OverStands beside n old.site → OverStands beside n (GroupFell new)
      fell_fails rested beside n stands =
          let was = subst (λ (x : OverSite R g). OverStands beside n x) is stands in
          (was.0, was.1, fell_less beside n (idle_ready idle) (idle_ready new) (idle_less idle new agreed alike) was.2, λ r is. settles_less beside n (idle_ready idle) (idle_ready new) (idle_less idle new agreed alike) (units_of n) (was.3 r (sym rested ∙ is)))

      pub fell_stays : StaysNoted old (record { site = GroupFell new; cut = old.cut })
      fell_stays = record {
        cut = refl;
        each = λ n note it.
            let was : DownNoted n note (Down idle) = subst (λ (x : OverSite R g). NotedOn n note (below_site x)) is it in
            alike_down n (idle_disks idle) (idle_disks new) alike down armed idle.agreed new.agreed agreed (idle_below idle).tells (idle_below new).tells less note was;
        named = λ units count it.
            let was : FoundNamed units count (idle_ready idle) = subst (λ (x : OverSite R g). RestsNamed units count (below_site x)) is it in
            named_less units count (idle_ready idle) (idle_ready new) (idle_less idle new agreed alike) was;
      }

      pub fell_asked : WithDisks (site_disks (below_site old.site)).disks (idle_disks new).disks (FailsOne disk on)
      fell_asked = subst (λ (x : OverSite R g). WithDisks (site_disks (below_site x)).disks (idle_disks new).disks (FailsOne disk on)) (sym is) told

      pub fell_counts : DisksAlike (below_site old.site) (Down new)
      fell_counts = subst (λ (x : OverSite R g). DisksAlike (below_site x) (Down new)) (sym is) (record { counts = alike.counts.disk_faults; tells = alike.contents.tells; told = less })

  -- a site whose disks are by themselves is not up
  pub away_up : (beside : KeptBeside) (n : Node) (s : OverSite R g) (idle : Idle R g) → s ≡ GroupAway idle → OverStands beside n s → n.state ≡ IsUp → ⊥
  away_up beside n s idle is stands up = let was = subst (λ (x : OverSite R g). OverStands beside n x) is stands in let clash : IsAway ≡ IsUp = sym was.0 ∙ up in cc

  pub fell_up : (beside : KeptBeside) (n : Node) (s : OverSite R g) (idle : Idle R g) → s ≡ GroupFell idle → OverStands beside n s → n.state ≡ IsUp → ⊥
  fell_up beside n s idle is stands up = let was = subst (λ (x : OverSite R g). OverStands beside n x) is stands in let clash : IsDown ≡ IsUp = sym was.0 ∙ up in cc

  pub gone_up : (beside : KeptBeside) (n : Node) (s : OverSite R g) → s ≡ NoGroup → OverStands beside n s → ⊥
  gone_up beside n s is stands = subst (λ (x : OverSite R g). OverStands beside n x) is stands

  -- nor is its group noted as up
  pub away_fused : (calls : ℕ) (old : OverSet R g) (idle : Idle R g) → old.site ≡ GroupAway idle → FusesNoted calls old (record { site = GroupAway idle; cut = old.cut })
  away_fused calls old idle is = record { cut = refl; each = λ n note it. absurd (subst (λ (x : OverSite R g). UpNoted n note (below_site x)) is it); named = λ units count it. subst (λ (x : OverSite R g). RestsNamed units count (below_site x)) is it }

  pub fell_fused : (calls : ℕ) (old : OverSet R g) (idle : Idle R g) → old.site ≡ GroupFell idle → FusesNoted calls old (record { site = GroupFell idle; cut = old.cut })
  fell_fused calls old idle is = record { cut = refl; each = λ n note it. absurd (subst (λ (x : OverSite R g). UpNoted n note (below_site x)) is it); named = λ units count it. subst (λ (x : OverSite R g). RestsNamed units count (below_site x)) is it }

  pub gone_fused : (calls : ℕ) (old : OverSet R g) → old.site ≡ NoGroup → FusesNoted calls old (record { site = NoGroup; cut = old.cut })
  gone_fused calls old is = record { cut = refl; each = λ n note it. absurd (subst (λ (x : OverSite R g). UpNoted n note (below_site x)) is it); named = λ units count it. tt }

  pub same_counts : (old : OverSet R g) (s : OverSite R g) → old.site ≡ s → DisksAlike (below_site old.site) (below_site s)
  same_counts old s is = subst (λ (x : OverSite R g). DisksAlike (below_site old.site) (below_site x)) is (record { counts = λ d. refl; tells = refl; told = λ told. told })

  pub same_stays : (old : OverSet R g) (s : OverSite R g) → old.site ≡ s → StaysNoted old (record { site = s; cut = old.cut })
  same_stays old s is = record { cut = refl; each = λ n note it. subst (λ (x : OverSite R g). NotedOn n note (below_site x)) is it; named = λ units count it. subst (λ (x : OverSite R g). RestsNamed units count (below_site x)) is it }

  -- ---- the same of a disk set

  module _ (e : DiskSet R g) (old new : OverSet R g) (is : e ≡ Over old) where
    pub set_over : (n k : Node) (beside : KeptBeside) → (IsOverSite beside n → IsOverSite beside k) → (OverStands beside n old.site → OverStands beside k new.site) → SiteStands beside n e → SiteStands beside k (Over new)
    set_over n k beside still it stands = let was = subst (λ (x : DiskSet R g). SiteStands beside n x) is stands in (still was.0, it was.1)

    -- what it stands for, from the disk set
    pub set_in : (beside : KeptBeside) (n : Node) → SiteStands beside n e → OverStands beside n old.site
    set_in beside n stands = (subst (λ (x : DiskSet R g). SiteStands beside n x) is stands).1

    pub set_role : above_in new ≡ above_in old → KeepsRole e (Over new)
    set_role same = subst (λ (x : DiskSet R g). KeepsRole x (Over new)) (sym is) (record { kept = λ n role. subst (λ (a : Above). RoleBy n a) (sym same) role })

    pub set_later : DisksAlike (site_in old) (site_in new) → Later e (Over new)
    set_later same = subst (λ (x : DiskSet R g). Later x (Over new)) (sym is) (record { counts = λ d. let now = same.counts d in omega (arith, now); told = same.told })

    pub set_asked : (disk : ℕ) (on : Bool) → (disk < (site_disks (site_in old)).units → WithDisks (site_disks (site_in old)).disks (site_disks (site_in new)).disks (FailsOne disk on)) → disk < units_in e → SetsDisk disk on e (Over new)
    set_asked disk on asked low = subst (λ (x : DiskSet R g). SetsDisk disk on x (Over new)) (sym is) (asked (subst (λ (x : DiskSet R g). disk < units_in x) is low))

    pub set_fuse : (calls pick : ℕ) → OnDisks (site_disks (site_in old)).disks (site_disks (site_in new)).disks (FusesFor calls pick) → SetsFuse calls pick e (Over new)
    set_fuse calls pick asked = subst (λ (x : DiskSet R g). SetsFuse calls pick x (Over new)) (sym is) asked
