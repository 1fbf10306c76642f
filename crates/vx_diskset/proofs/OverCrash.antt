-- What a crash leaves of a site whose group of disks has a replicated volume group.
use Rattle.std.proofs.Common.{◌≡◌, ◌∙◌, ◌⊎◌, inl, inr, ⊎_elim, ℕ, ◌<◌, ◌≤◌, Bool, true, false, List, [], length, take, drop, IsTrue, ap, arith, refl, subst, sym}
use Rattle.std.specs.Prelude.{None, Option, Some}
use Rattle.std.proofs.lemmas.List.{length-take}
use Rattle.vx_config.specs.Checks.{blocks_of}
use Rattle.vx_config.specs.declared.config.Config.{Config}
use Rattle.vx_copyfmt.specs.Imports.{Found, ImportOutcome}
use Rattle.vx_disk.specs.Racks.{IsRack, Stopped}
use Rattle.vx_disk.specs.Shelf.{Each, Image, Lawful, Meaning}
use Rattle.vx_disk.specs.declared.shelf.Shelf.{Ghosts}
use Rattle.vx_events.specs.RvgNotes.{inside_of}
use Rattle.vx_group.specs.Holding.{wide}
use Rattle.vx_history.specs.World.{Node}
use Rattle.vx_kept.specs.Facts.{KeptFact, is_found}
use Rattle.vx_kept.specs.Choice.{chosen}
use Rattle.vx_kept.specs.Groups.{Shows, found as finds}
use Rattle.vx_kept.proofs.Low.{found_same}
use Rattle.vx_kept.proofs.Steps.{inside}
use Rattle.vx_layout.specs.Places.{place}
use Rattle.vx_model.specs.Content.{fold_writes}
use Rattle.vx_model.specs.declared.units.Units.{Units}
use Rattle.vx_untold.specs.Shades.{shade_meaning}
use Rattle.vx_untold.specs.declared.shade.Shade.{Shade}
use Rattle.vx_untold.specs.declared.shade.Shade.TheVariants.{Bright, Dark}
use Rattle.vx_volume.specs.Plexes.{Inside}
use Rattle.vx_ground.specs.Lifted.{laid_volumes}
use Rattle.vx_diskset.specs.LaidBlocks.{laid_blockwise}
use Rattle.vx_grouped.specs.GroupSites.{idle_disks, laid_disks}
use Rattle.vx_grouped.specs.Readies.{ready_of}
use Rattle.vx_grouped.specs.declared.idle.Idle.{Idle}
use Rattle.vx_grouped.specs.declared.laid.Laid.{Laid}
use Rattle.vx_diskset.specs.DiskSets.{CrashedAt, fell_to}
use Rattle.vx_diskset.specs.Holds.{HasDoubted, HasWrites, KeptBeside, KeptSite, itself, most_with, state_with, sure_of}
use Rattle.vx_diskset.specs.Lasts.{FoundWith}
use Rattle.vx_diskset.specs.Layouts.{IsLaidBy, LiesOn, units_by, units_of}
use Rattle.vx_diskset.specs.Stands.{FellOver, IsHeldAt, IsOverSite, RestsOver, RvgSettles, SameGround, idle_ready, FellSettles}
use Rattle.vx_diskset.specs.declared.disk_set.DiskSet.TheVariants.{Over}
use Rattle.vx_diskset.specs.declared.group_set.CutWrite.{CutWrite}
use Rattle.vx_diskset.specs.declared.over_set.OverSite.TheVariants.{Down as GroupFell}
use Rattle.vx_diskset.proofs.BesideLemmas.{writes_itself}
use Rattle.vx_diskset.proofs.CrashGroup.{one_value}
use Rattle.vx_model.proofs.Contents.{folded_size}
use Rattle.vx_diskset.proofs.Laying.{laid_in, laid_sized, over_there}
use Rattle.vx_model.specs.Sites.{is_origin}

-- ---- images of the disks, and of the volumes

-- the image of the volumes that one of the disks shows by a configuration
module _ (c x : Config) (j : Image) where
  value_by : (v b : ℕ) → Inside c v b ⊎ (Inside c v b → ⊥) → List ℕ
  value_by v b (inl in_it) = j (place x v (chosen x v) b).0 (place x v (chosen x v) b).1
  value_by v b (inr out) = []

  by_here : (v b : ℕ) → Inside c v b → (t : Inside c v b ⊎ (Inside c v b → ⊥)) → value_by v b t ≡ j (place x v (chosen x v) b).0 (place x v (chosen x v) b).1
  unfolding value_by
  by_here v b in_it (inl held) = refl
  by_here v b in_it (inr out) = absurd (out in_it)

  by_beyond : (v b : ℕ) → (Inside c v b → ⊥) → (t : Inside c v b ⊎ (Inside c v b → ⊥)) → value_by v b t ≡ []
  unfolding value_by
  by_beyond v b out (inl held) = absurd (out held)
  by_beyond v b out (inr not) = refl

  pub shown : Image
  shown v b = value_by v b (inside c v b)

  pub shows : Shows c x j shown
  unfolding shown value_by
  shows = record { here = λ v b in_it. by_here v b in_it (inside c v b); beyond = λ v b out. by_beyond v b out (inside c v b) }

  -- there is no other
  pub shows_one : (above : Image) → Shows c x j above → above ≡ shown
  shows_one above it = λ t. λ v. λ b. same v b t
    where
      same : (v b : ℕ) → above v b ≡ shown v b
      same v b = ⊎_elim (λ in_it. it.here v b in_it ∙ sym (shows.here v b in_it)) (λ out. it.beyond v b out ∙ sym (shows.beyond v b out)) (inside c v b)

pub found_some : (o : ImportOutcome Config) → is_found o ≡ true → (x : Config) × (o ≡ Found x)
found_some (Found x) some = (x, refl)
found_some other none = absurd (cc)

-- behind a crash there is one image
pub image_one : (m : Meaning) (i j : Image) → Lawful m → IsRack m → IsTrue m.down → IsTrue m.tells → m.now j → Each m.leaves i → i ≡ j
image_one m i j lawful rack down tells now each = λ t. λ u. λ b. same u b t
  where
    same : (u b : ℕ) → i u b ≡ j u b
    same u b = (one_value m j u b lawful rack down tells now).only (i u b) (each u b)

-- ---- disks as an import sees them

-- no more is left of them
pub record IsUnder (r m : Meaning) : Type 0 where
  pub units : r.units ≡ m.units
  pub size : (u : ℕ) → r.size u ≡ m.size u
  pub tells : IsTrue r.tells → IsTrue m.tells
  pub leaves : (u b : ℕ) (v : List ℕ) → r.leaves u b v → m.leaves u b v

pub ready_under : {R : Type 0} (g : Ghosts R) (agreed : Bool) (s : Shade R) → IsUnder (shade_meaning g.meaning (ready_of agreed s)) (shade_meaning g.meaning s)
ready_under g true s = record { units = refl; size = λ u. refl; tells = λ is. is; leaves = λ u b v left. left }
ready_under g false (Bright r) = record { units = refl; size = λ u. refl; tells = λ is. absurd (let e : false ≡ true = is in cc); leaves = λ u b v left. absurd left }
ready_under g false (Dark r) = record { units = refl; size = λ u. refl; tells = λ is. absurd (let e : false ≡ true = is in cc); leaves = λ u b v left. absurd left }

module _ {R : Type 0} {g : Ghosts R} where
  -- ---- the site, or what it may be besides

  module _ (k : KeptSite) (n : Node) (l : Laid R g) (idle : Idle R g) (good : ℕ → Type 0) (same : SameGround k.node n) (stop : Stopped (laid_disks l) (idle_disks idle)) (law : Lawful (idle_disks idle)) (rack : IsRack (idle_disks idle))
      (kept : KeptFact (wide l.core).config good (laid_disks l)) (lies : LiesOn k.node (laid_blockwise l)) (low : k.node.low ≡ 1) (begun : IsTrue (laid_volumes l).tells → 0 < k.node.session)
      (there : (u : ℕ) → inside_of (units_of n) u ≡ true → u < (laid_volumes l).units) where
    abbrev m : Meaning
    m = laid_disks l

    abbrev m' : Meaning
    m' = idle_disks idle

    abbrev r : Meaning
    r = idle_ready idle

    abbrev c : Config
    c = (wide l.core).config

    under : IsUnder r m'
    under = ready_under g idle.agreed idle.rack

    up_leaves : (i : Image) → Each r.leaves i → Each m.leaves i
    up_leaves i each u b = stop.leaves u b (i u b) (under.leaves u b (i u b) (each u b))

    up_finds : (i : Image) (x : Config) → finds r i ≡ Found x → finds m i ≡ Found x
    up_finds i x is = sym (found_same m r (under.units ∙ stop.units) (λ u. under.size u ∙ stop.size u) (λ u. true) i) ∙ is

    told_up : IsTrue r.tells → IsTrue m.tells
    told_up tells = sym stop.tells ∙ under.tells tells

    lies_down : (count : ℕ) → IsLaidBy (units_of n) k.node.ring k.node.volumes (fold_writes k.node.base (drop k.node.safe (take count k.node.log))).size (blocks_of c.volumes)
    lies_down count =
        subst (λ (u : Units). IsLaidBy u k.node.ring k.node.volumes (fold_writes k.node.base (drop k.node.safe (take count k.node.log))).size (blocks_of c.volumes)) same.units
        (laid_sized (units_of k.node) k.node.ring k.node.volumes k.node.base.size (fold_writes k.node.base (drop k.node.safe (take count k.node.log))).size (laid_blockwise l)
        (folded_size k.node.base (drop k.node.safe (take count k.node.log))) (laid_in k.node (laid_blockwise l) lies))

    fell_units : (count : ℕ) → units_of n ≡ units_of (fell_to n k.node count)
    fell_units count = ap (λ (d : ℕ). units_by n.group d) (sym same.disks)

    rests : (count : ℕ) → k.node.safe ≤ count → count ≤ length k.node.log
        → (IsTrue r.tells → (i : Image) (x : Config) (above : Image) → Each r.leaves i → finds r i ≡ Found x → Shows c x i above
        → FoundWith (units_of k.node) k.node.ring (state_with k.node k.links) k.node.session (most_with (sure_of k) k.node count) above (take count k.node.log) (fold_writes k.node.base (drop k.node.safe (take count k.node.log))))
        → RestsOver (λ x. FellOver x (sure_of k) (fell_to n k.node count) r) (sure_of k) (fell_to n k.node count) r
    rests count least most found = record {
      config = c;
      sure = refl;
      lies = subst (λ (u : Units). IsLaidBy u k.node.ring k.node.volumes (fold_writes k.node.base (drop k.node.safe (take count k.node.log))).size (blocks_of c.volumes)) (fell_units count) (lies_down count);
      there = λ u is. there u (subst (λ (w : Units). inside_of w u ≡ true) (sym (fell_units count)) is);
      low = low;
      logged = omega (arith, length-take count k.node.log, most);
      begun = λ tells. begun (told_up tells);
      left = λ tells. record {
        extends = λ i x each is. (kept.kin i x (up_leaves i each) (up_finds i x is)).shape;
        found = λ i x above each is shows.
            subst (λ (u : Units). FoundWith u k.node.ring (state_with k.node k.links) k.node.session (most_with (sure_of k) k.node count) above (take count k.node.log) (fold_writes k.node.base (drop k.node.safe (take count k.node.log)))) (same.units ∙ fell_units count)
            (found tells i x above each is shows);
      };
    }

    -- with so many of its writes, where this image of the disks is what they hold
    rests_by : (j : Image) (x : Config) → m'.now j → finds m j ≡ Found x → (has : HasWrites (sure_of k) k.node (shown c x j)) → RestsOver (λ y. FellOver y (sure_of k) (fell_to n k.node has.count) r) (sure_of k) (fell_to n k.node has.count) r
    rests_by j x now is has = rests has.count has.least has.most (λ tells i y above each finds_y shows_y.
        let i_is : i ≡ j = image_one m' i j law rack stop.down (under.tells tells) now (λ u b. under.leaves u b (i u b) (each u b)) in
        let at_j : finds m j ≡ Found y = subst (λ (h : Image). finds m h ≡ Found y) i_is (up_finds i y finds_y) in
        let y_is : y ≡ x = found_inj (sym at_j ∙ is) in
        let shows_j : Shows c x j above = subst (λ (z : Config). Shows c z j above) y_is (subst (λ (h : Image). Shows c y h above) i_is shows_y) in
        subst (λ (h : Image). FoundWith (units_of k.node) k.node.ring (state_with k.node k.links) k.node.session (most_with (sure_of k) k.node has.count) h (take has.count k.node.log) (fold_writes k.node.base (drop k.node.safe (take has.count k.node.log))))
        (sym (shows_one c x j above shows_j)) has.found)
      where
        found_inj : {a b : Config} → Found a ≡ Found b → a ≡ b
        found_inj e = cc

  -- ---- what a crash kept

  pub record FellShown (beside : KeptBeside) (n : Node) (idle : Idle R g) : Type 0 where
    pub kept : KeptSite
    pub is : (kept ≡ itself beside n) ⊎ (beside.doubt ≡ Some kept)
    pub ground : SameGround kept.node n
    pub links : kept.links ≡ []
    pub role : is_origin kept.node.role ≡ true
    pub count : ℕ
    pub least : kept.node.safe ≤ count
    pub most : count ≤ length kept.node.log
    pub rests : RestsOver (λ x. FellOver x (sure_of kept) (fell_to n kept.node count) (idle_ready idle)) (sure_of kept) (fell_to n kept.node count) (idle_ready idle)

  module _ {beside : KeptBeside} (n : Node) (l : Laid R g) (idle : Idle R g) (good : ℕ → Type 0) (over : IsOverSite beside n) (held : IsHeldAt beside n (laid_blockwise l)) (stop : Stopped (laid_disks l) (idle_disks idle)) (law : Lawful (idle_disks idle)) (rack : IsRack (idle_disks idle))
      (kept : KeptFact (wide l.core).config good (laid_disks l))
      (lawful : Lawful (laid_volumes l)) where
    abbrev volumes_config : Config
    volumes_config = (wide l.core).config

    here : (u : ℕ) → inside_of (units_of n) u ≡ true → u < (laid_volumes l).units
    here = over_there n (laid_blockwise l) over.0 held.lies

    own : SameGround n n
    own = record { units = refl; disks = refl; blocks = refl }

    fell_itself : (j : Image) (x : Config) → (idle_disks idle).now j → finds (laid_disks l) j ≡ Found x → HasWrites beside n (shown volumes_config x j) → FellShown beside n idle
    fell_itself j x now is has =
        let writes = writes_itself n (shown volumes_config x j) has in
        record {
          kept = itself beside n;
          is = inl refl;
          ground = own;
          links = over.4;
          role = over.5;
          count = writes.count;
          least = writes.least;
          most = writes.most;
          rests = rests_by (itself beside n) n l idle good own stop law rack kept held.lies held.low held.begun here j x now is writes;
        }

    -- it is nothing besides
    fell_besides : (above : Image) → HasDoubted beside.doubt above → FellShown beside n idle
    fell_besides above has = absurd (let it : HasDoubted None above = subst (λ (o : Option KeptSite). HasDoubted o above) over.1 has in it)

    fell_by : (b : Bool) → (idle_ready idle).tells ≡ b → FellShown beside n idle
    fell_by true tells =
        let it = law.image ((ready_under g idle.agreed idle.rack).tells tells) in
        let j : Image = it.0 in
        let each : Each (laid_disks l).leaves j = λ u b. stop.leaves u b (j u b) (law.within j it.1 u b) in
        let some = found_some (finds (laid_disks l) j) (kept.finds j each) in
        ⊎_elim (λ has. fell_itself j some.0 it.1 some.1 has) (λ has. fell_besides (shown volumes_config some.0 j) has)
        (held.left (shown volumes_config some.0 j) (lawful.within (shown volumes_config some.0 j) (record { image = j; left = stop.now j it.1; config = some.0; found = some.1; shows = shows volumes_config some.0 j })))
    fell_by false untold = record {
      kept = itself beside n;
      is = inl refl;
      ground = own;
      links = over.4;
      role = over.5;
      count = n.safe;
      least = omega arith;
      most = held.logged;
      rests = rests (itself beside n) n l idle good own stop law rack kept held.lies held.low held.begun here n.safe (omega arith) held.logged (λ tells. absurd (let e : true ≡ false = sym tells ∙ untold in cc));
    }

    pub over_fell : FellSettles n idle → (cut : Option CutWrite) → CrashedAt beside n (Over (record { site = GroupFell idle; cut = cut }))
    over_fell settles cut =
        let it = fell_by (idle_ready idle).tells refl in
        record {
          kept = it.kept;
          is = it.is;
          count = it.count;
          least = it.least;
          most = it.most;
          stands = (
            (
              over.0,
              refl,
              (let few = over.2 in let same = it.ground.disks in omega (arith, few, same)),
              (let some = over.3 in let same = it.ground.blocks in omega (arith, some, same)),
              it.links,
              it.role,
            ),
            (refl, refl, it.rests, λ r is. subst (λ (u : Units). RvgSettles u (idle_ready idle)) (ap (λ (d : ℕ). units_by n.group d) (sym it.ground.disks)) (settles r is)),
          );
        }
