-- A replicated volume group over the volumes of a group of which others changed, or were made.
use Rattle.std.proofs.Common.{◌≡◌, ◌∙◌, ◌⊎◌, ⊎_elim, ℕ, zero, suc, ◌*◌, ◌<◌, Bool, true, false, List, [], ◌∷◌, length, drop, take, map, ltb, Option, Some, None, MatchOption, IsTrue, ap, subst, sym, refl, arith}
use Rattle.std.proofs.lemmas.Bool.{cases_lt, le-ltb}
use Rattle.std.proofs.lemmas.List.Sums.{sum_by-cons}
use Rattle.std.specs.List.{sum_by}
use Rattle.std.specs.Prelude.{◌&&◌, IsFalse, if◌then◌else◌, slice_index}
use Rattle.vx_model.specs.Sizes.{map_blocks, ring_of}
use Rattle.vx_model.specs.declared.limits.TheConstants.{BLOCK, LINK_PLACES}
use Rattle.vx_model.specs.declared.site.SiteState.TheVariants.{Up as IsUp, Down as IsDown, Deported as IsDeported}
use Rattle.vx_model.specs.declared.units.Units.{Units}
use Rattle.vx_history.specs.Groups.{GroupNode}
use Rattle.vx_disk.specs.declared.shelf.Shelf.{Ghosts}
use Rattle.vx_ground.specs.Lifted.{laid_volumes}
use Rattle.vx_diskset.specs.LaidBlocks.{laid_blockwise}
use Rattle.vx_grouped.specs.declared.group_site.GroupSite.{GroupSite}
use Rattle.vx_grouped.specs.declared.group_site.GroupSite.TheVariants.{Up, Deported, Down, Marked, Gone}
use Rattle.vx_grouped.specs.declared.laid.Laid.{Laid}
use Rattle.vx_diskset.specs.Aboves.{AboveStays, above_site, below_site}
use Rattle.vx_diskset.specs.Layouts.{IsLaid, IsLaidBy, LiesBy, LiesOn, units_by, units_of}
use Rattle.vx_diskset.specs.declared.above.Above.{Above}
use Rattle.vx_diskset.specs.declared.above.Above.TheVariants.{Nothing, Origin, Receiver}
use Rattle.vx_diskset.specs.declared.over_set.OverSite.{OverSite}
use Rattle.vx_diskset.specs.declared.over_set.OverSite.TheVariants.{Origin as OriginSite, Receiver as ReceiverSite, Deported as GroupAway, Down as GroupFell, Gone as NoGroup}
use Rattle.vx_diskset.proofs.BesideLemmas.{never_besides, site_map}
use Rattle.vx_diskset.proofs.MixedImages.{aside_of, left_mixed}
use Rattle.vx_diskset.proofs.Laying.{laid_in, over_there}
use Rattle.vx_events.specs.RvgNotes.{inside_of}
use Rattle.vx_model.specs.declared.call.Update.{Update}
use Rattle.vx_history.specs.Steps.{burned, worked}
use Rattle.vx_history.specs.World.{Fuse, NoFuse, FuseSet, FuseLit, Node}
use Rattle.vx_disk.specs.Maps.{maps_of}
use Rattle.vx_disk.specs.Moves.{Blocks}
use Rattle.vx_disk.specs.Shelf.{Each, Image, Keeps, Lawful, Meaning}
use Rattle.vx_overlay.specs.Writes.{newest_of}
use Rattle.vx_rvg.specs.Contents.{writes_of}
use Rattle.vx_rvg.specs.Holdings.{Holding}
use Rattle.vx_rvg.specs.Stands.{Stands}
use Rattle.vx_rvg.specs.Views.{Core, IsSound, applied_count, unit_of, volume_size}
use Rattle.vx_rvg.proofs.WriteSound.{within_same}
use Rattle.vx_srl.specs.Rings.{RingOn}
use Rattle.vx_secondary.specs.Receivers.{Wait, can_log}
use Rattle.vx_grouped.specs.Volumes.{SiteGoes, VolumesGo, laid_seen}
use Rattle.vx_diskset.specs.Fuses.{FuseOn}
use Rattle.vx_diskset.specs.Holds.{HasSite, KeptBeside}
use Rattle.vx_diskset.specs.OverKeeps.{BelowGoes}
use Rattle.vx_diskset.specs.Stands.{AboveStands, IsHeldAt, IsReceiverAt, IsUpAt, OverStands}
use Rattle.vx_diskset.proofs.LastWrites.{still_with}

was_running : (before after : Bool) → (IsTrue before → IsTrue after) → IsFalse after → IsFalse before
was_running false after falls up = refl
was_running true after falls up = absurd (let e : true ≡ false = sym (falls refl) ∙ up in cc)

never_and : (a b : Bool) → a ≡ false → (a && b) ≡ true → ⊥
never_and true b not is = let e : true ≡ false = not in cc
never_and false b not is = let e : false ≡ true = is in cc

sum_kept : (f h : ℕ → ℕ) (us : List ℕ) → ((v : ℕ) → v < length us → h (slice_index us v) ≡ f (slice_index us v)) → sum_by h us ≡ sum_by f us
sum_kept f h [] same = refl
sum_kept f h (u ∷ us) same =
    let here : h u ≡ f u = same zero (omega arith) in
    let front = sum_by-cons h u us in
    let front' = sum_by-cons f u us in
    omega (arith, front, front', here, sum_kept f h us (λ v low. same (suc v) (omega (arith, low))))

sizes_kept : (f h : ℕ → ℕ) (us : List ℕ) → ((v : ℕ) → v < length us → h (slice_index us v) ≡ f (slice_index us v)) → map f us ≡ map h us
sizes_kept f h [] same = refl
sizes_kept f h (u ∷ us) same =
    let here : h u ≡ f u = same zero (omega arith) in
    ap (λ (n : ℕ). n ∷ map f us) (sym here) ∙ ap (λ (ns : List ℕ). h u ∷ ns) (sizes_kept f h us (λ v low. same (suc v) (omega (arith, low))))

match_on : (m m' : Meaning) (o : Option (List ℕ)) (u b : ℕ) (y : List ℕ) → (Keeps m u b y → Keeps m' u b y) → MatchOption o (Keeps m u b y) (λ bytes. bytes ≡ y) → MatchOption o (Keeps m' u b y) (λ bytes. bytes ≡ y)
match_on m m' (Some bytes) u b y still is = is
match_on m m' None u b y still keeps = still keeps

module _ (c : Core) (m m' : Meaning) (mine : Blocks) (goes : VolumesGo mine m m') (sound : IsSound c m) where
  vol_low : (v : ℕ) → v < length c.units.vols → unit_of c.units.vols v < m.units
  vol_low v low = sound.placed.exist v low

  vol_size : (v : ℕ) → v < length c.units.vols → m'.size (unit_of c.units.vols v) ≡ m.size (unit_of c.units.vols v)
  vol_size v low = goes.size (unit_of c.units.vols v) (vol_low v low)

  volume_kept : (v : ℕ) → volume_size c.units.vols m' v ≡ volume_size c.units.vols m v
  volume_kept v = ⊎_elim
      (λ (low : v < length c.units.vols). ap (λ (n : ℕ). if ltb v (length c.units.vols) then n else 0) (vol_size v low))
      (λ high. ap (λ (t : Bool). if t then m'.size (unit_of c.units.vols v) else 0) (le-ltb v (length c.units.vols) high) ∙ sym (ap (λ (t : Bool). if t then m.size (unit_of c.units.vols v) else 0) (le-ltb v (length c.units.vols) high)))
      (cases_lt v (length c.units.vols))

  maps_kept : maps_of c.units.vols m' ≡ maps_of c.units.vols m
  maps_kept = sum_kept (λ (u : ℕ). map_blocks (m.size u)) (λ (u : ℕ). map_blocks (m'.size u)) c.units.vols (λ v low. ap (λ (n : ℕ). map_blocks n) (vol_size v low))

  -- it is sound still
  pub frame_sound : IsSound c m'
  frame_sound = record {
    placed = record {
      log_exists = omega (arith, goes.units, sound.placed.log_exists);
      maps_exist = omega (arith, goes.units, sound.placed.maps_exist);
      exist = λ v low. omega (arith, goes.units, sound.placed.exist v low);
      apart = sound.placed.apart;
      maps_apart = sound.placed.maps_apart;
      maps_aside = sound.placed.maps_aside;
      distinct = sound.placed.distinct;
      maps_fit = omega (arith, maps_kept, goes.size c.units.maps sound.placed.maps_exist, sound.placed.maps_fit);
    };
    maps = record {
      unit = sound.maps.unit;
      first = sound.maps.first;
      long = sound.maps.long ∙ ap (λ (n : ℕ). BLOCK * (LINK_PLACES * n)) (sym maps_kept);
      sizes = sound.maps.sizes ∙ sizes_kept m.size m'.size c.units.vols vol_size;
    };
    log_unit = sound.log_unit;
    lies = record { exists = omega (arith, goes.units, sound.lies.exists); within = omega (arith, goes.size c.log.unit sound.lies.exists, sound.lies.within) };
    idle = λ running up. sound.idle running (was_running m.down m'.down goes.falls up);
    low = sound.low;
    known = sound.known;
    room = sound.room;
    waiting = sound.waiting ∙ sym (within_same (volume_size c.units.vols m) (volume_size c.units.vols m') volume_kept (drop (applied_count c) c.log.held));
  }

  module _ (still : IsFalse m'.down) (log_aside : (b : ℕ) → mine c.units.srl b → ⊥) (maps_aside : (b : ℕ) → mine c.units.maps b → ⊥) (vols_aside : (v b : ℕ) → v < length c.units.vols → mine (unit_of c.units.vols v) b → ⊥) where
    left_on : (u b : ℕ) (y : List ℕ) → u < m.units → (mine u b → ⊥) → m'.leaves u b y → m.leaves u b y
    left_on u b y low aside left = ⊎_elim (λ was. was) (λ here. absurd (aside here)) (goes.leaves u b y low left)

    read_on : (u b : ℕ) (y : List ℕ) → u < m.units → (mine u b → ⊥) → m'.reads u b y → m.reads u b y
    read_on u b y low aside read = ⊎_elim (λ was. was) (λ more. ⊎_elim (λ here. absurd (aside here)) (λ down. absurd (never down)) more) (goes.reads u b y low read)
      where
        never : IsTrue m'.down → ⊥
        never down = let e : true ≡ false = sym down ∙ still in cc

    keeps_on : (u b : ℕ) (y : List ℕ) → u < m.units → (mine u b → ⊥) → Keeps m u b y → Keeps m' u b y
    keeps_on u b y low aside keeps = record { only = λ v left. keeps.only v (left_on u b v low aside left) }

    -- and holds what it held
    pub frame_stands : (h : Holding) → Stands c h m → Stands c h m'
    frame_stands h stands = record {
      log = stands.log;
      low = stands.low;
      writes = stands.writes;
      place = stands.place;
      maps = record {
        size = (let least = stands.maps.size in let same = goes.size c.units.maps sound.placed.maps_exist in omega (arith, least, same));
        each = λ b bytes there. keeps_on c.units.maps b bytes sound.placed.maps_exist (maps_aside b) (stands.maps.each b bytes there);
      };
      marks = stands.marks;
      ready = record {
        ring = record {
          is_log = on.is_log;
          tracks = record {
            leaves = λ b v low left. on.tracks.leaves b v low (left_on c.log.unit b v sound.lies.exists (log_off b) left);
            reads = λ b v low read. on.tracks.reads b v low (read_on c.log.unit b v sound.lies.exists (log_off b) read);
            beyond = on.tracks.beyond;
            beyond_read = on.tracks.beyond_read;
          };
          describes = on.describes;
        };
        idle = stands.ready.idle;
        whole = stands.ready.whole;
        sizes = record { each = λ v low. stands.ready.sizes.each v low ∙ sym (vol_size v low); none = stands.ready.sizes.none };
        content = record {
          each = λ v b low. match_on m m' (newest_of h.content.size (writes_of stands.log.held) v b) (unit_of c.units.vols v) b (h.content.block v b) (keeps_on (unit_of c.units.vols v) b (h.content.block v b) (vol_low v (there v b low)) (vols_aside v b (there v b low)))
              (stands.ready.content.each v b low);
        };
        waiting = stands.ready.waiting;
        settled = λ v b low none. keeps_on (unit_of c.units.vols v) b (h.content.block v b) (vol_low v (there v b low)) (vols_aside v b (there v b low)) (stands.ready.settled v b low none);
      };
    }
      where
        on : RingOn c.log stands.log m
        on = stands.ready.ring

        log_off : (b : ℕ) → mine c.log.unit b → ⊥
        log_off b here = log_aside b (subst (λ (u : ℕ). mine u b) sound.log_unit here)

        -- a volume with a block is one of the group's
        there : (v b : ℕ) → b < h.content.size v → v < length c.units.vols
        there v b low = ⊎_elim (λ is. is) (λ high. absurd (let none = stands.ready.sizes.none v high in omega (arith, low, none))) (cases_lt v (length c.units.vols))

  can_kept : (u : Update) → can_log c m.size u ≡ true → can_log c m'.size u ≡ true
  can_kept u can = ⊎_elim
      (λ (low : u.vol < length c.units.vols). rw (vol_size u.vol low) can)
      (λ high. absurd (never_and (ltb u.vol (length c.units.vols)) _ (le-ltb u.vol (length c.units.vols) high) can))
      (cases_lt u.vol (length c.units.vols))

  -- what waits behind it fits
  pub frame_wait : (us : List Update) → Wait c m.size us → Wait c m'.size us
  frame_wait us wait = record { few = wait.few; line = wait.line; number = wait.number; fits = λ k u is. can_kept u (wait.fits k u is) }

-- ---- a site that is up

-- a replicated volume group that is laid on these volumes of a group
lies_over : (o : Option GroupNode) (n : Node) (sizes : ℕ → ℕ) (m : Meaning) → (o ≡ None → ⊥) → IsLaid (units_by o n.disks) n.ring n.volumes sizes m → ((k : ℕ) → inside_of (units_by o n.disks) k ≡ true → k < m.units) → LiesBy o n.disks n.blocks n.ring n.volumes sizes m
lies_over None n sizes m over laid there = absurd (over refl)
lies_over (Some note) n sizes m over laid there = record { laid = laid; there = there }

module _ (n : Node) (c : Core) (m m' : Meaning) (mine : Blocks) (goes : VolumesGo mine m m') (sound : IsSound c m) (over : n.group ≡ None → ⊥) where
  laid_kept : IsLaidBy c.units n.ring n.volumes n.base.size m.size → IsLaidBy c.units n.ring n.volumes n.base.size m'.size
  laid_kept laid = record {
    large = (let least = laid.large in omega (arith, least, goes.size c.units.srl sound.placed.log_exists));
    ring_is = laid.ring_is ∙ ap (λ (k : ℕ). ring_of k) (sym (goes.size c.units.srl sound.placed.log_exists));
    some = laid.some;
    few = laid.few;
    count = laid.count;
    named = laid.named;
    each = λ v low. laid.each v low ∙ sym (vol_size c m m' mine goes sound v (omega (arith, low, laid.count)));
    none = laid.none;
  }

  lies_kept : c.units ≡ units_of n → LiesOn n m → LiesOn n m'
  lies_kept units lies =
      lies_over n.group n n.base.size m' over
      (subst (λ (u : Units). IsLaidBy u n.ring n.volumes n.base.size m'.size) units (laid_kept (subst (λ (u : Units). IsLaidBy u n.ring n.volumes n.base.size m.size) (sym units) (laid_in n m lies)))) (λ k is. (let low = over_there n m over lies k is in let more = goes.units in omega (arith, low, more)))

-- whether it runs or not, where before the call each mix of what a crash might leave of the blocks had the site
module _ {beside : KeptBeside} (n : Node) (c : Core) (m m' : Meaning) (mine : Blocks) (goes : VolumesGo mine m m') (sound : IsSound c m) (over : n.group ≡ None → ⊥) (certain : beside.doubt ≡ None) (lawful : Lawful m) (after : Lawful m')
    (closed : (i : Image) → Each m.leaves i → m.now i) (log_aside : (b : ℕ) → mine c.units.srl b → ⊥) (maps_aside : (b : ℕ) → mine c.units.maps b → ⊥) (vols_aside : (v b : ℕ) → v < length c.units.vols → mine (unit_of c.units.vols v) b → ⊥) where
  left_behind : c.units ≡ units_of n → LiesOn n m → ((i : Image) → m.now i → HasSite beside n i) → (i : Image) → m'.now i → HasSite beside n i
  left_behind units lies left i now =
      left_mixed n m (laid_in n m lies) m' mine goes lawful after (over_there n m over lies)
      (λ u b is. aside_of c.units mine log_aside maps_aside vols_aside u b (subst (λ (w : Units). inside_of w u ≡ true) (sym units) is)) closed certain left i (after.within i now)

  worked_left : ((i : Image) → m'.now i → HasSite beside n i) → (i : Image) → m'.now i → HasSite beside (worked n) i
  worked_left left i now = site_map n (worked n) i (λ has. record { count = has.count; least = has.least; most = has.most; found = has.found }) (left i now)

  -- whether its shelf is down or not, a crash leaves the site's writes
  pub frame_held : IsUpAt beside n c m → IsHeldAt beside n m'
  frame_held up = record {
    lies = lies_kept n c m m' mine goes sound over up.units up.lies;
    low = up.low;
    logged = up.logged;
    begun = λ told. up.begun (sym goes.tells ∙ told);
    left = left_behind up.units up.lies up.left;
    may = λ k is. never_besides beside.doubt m' certain k is;
  }

  -- of a receiver too
  pub receiver_behind : (us : List Update) → IsReceiverAt beside n c us m → IsHeldAt beside n m'
  receiver_behind us r = record {
    lies = lies_kept n c m m' mine goes sound over r.units r.lies;
    low = r.low;
    logged = omega (arith, r.least, r.most);
    begun = λ told. r.begun (sym goes.tells ∙ told);
    left = left_behind r.units r.lies r.left;
    may = λ k is. never_besides beside.doubt m' certain k is;
  }

  module _ (still : IsFalse m'.down) (fuse : FuseOn (burned n.fuse) m') where
    pub frame_up : IsUpAt beside n c m → IsUpAt beside (worked n) c m'
    frame_up up = record {
      state = up.state;
      up = still;
      fuse = fuse;
      lies = lies_kept n c m m' mine goes sound over up.units up.lies;
      low = up.low;
      units = up.units;
      ring = up.ring;
      found = up.found;
      kept = up.kept;
      linked = λ told. up.linked (sym goes.tells ∙ told);
      session = up.session;
      begun = λ told. up.begun (sym goes.tells ∙ told);
      stamp = λ told none. up.stamp (sym goes.tells ∙ told) none;
      fresh = λ origin told none one room. up.fresh origin (sym goes.tells ∙ told) none one room;
      first = up.first;
      head = up.head;
      halted = up.halted;
      logged = up.logged;
      durable = up.durable;
      takes = up.takes;
      content = λ none told. still_with c n.log n.base m m' (frame_stands c m m' mine goes sound still log_aside maps_aside vols_aside) (up.content none (sym goes.tells ∙ told));
      left = worked_left (left_behind up.units up.lies up.left);
      sure = up.sure;
      may = λ k is. never_besides beside.doubt m' certain k is;
    }

    pub frame_receiver : (us : List Update) → IsReceiverAt beside n c us m → IsReceiverAt beside (worked n) c us m'
    frame_receiver us r = record {
      state = r.state;
      role = r.role;
      up = still;
      fuse = fuse;
      lies = lies_kept n c m m' mine goes sound over r.units r.lies;
      low = r.low;
      units = r.units;
      ring = r.ring;
      found = r.found;
      kept = r.kept;
      linked = λ told. r.linked (sym goes.tells ∙ told);
      session = r.session;
      begun = λ told. r.begun (sym goes.tells ∙ told);
      stamp = λ told none. r.stamp (sym goes.tells ∙ told) none;
      first = r.first;
      least = r.least;
      most = r.most;
      head = r.head;
      halted = r.halted;
      waits = r.waits;
      takes = r.takes;
      content = λ none told. still_with c (take n.safe n.log) n.base m m' (frame_stands c m m' mine goes sound still log_aside maps_aside vols_aside) (r.content none (sym goes.tells ∙ told));
      left = worked_left (left_behind r.units r.lies r.left);
      sure = r.sure;
      may = λ k is. never_besides beside.doubt m' certain k is;
    }

module _ {R : Type 0} {g : Ghosts R} where
  -- the fuse, as the volumes have it behind calls
  pub fuse_gone : (f : Fuse) (l k : Laid R g) → (IsFalse (laid_blockwise l).armed → IsFalse (laid_blockwise k).armed) → FuseOn f (laid_blockwise l) → FuseOn (burned f) (laid_blockwise k)
  fuse_gone NoFuse l k unarmed it = unarmed it
  fuse_gone (FuseSet calls) l k unarmed it = tt
  fuse_gone (FuseLit most) l k unarmed it = tt

  -- what stands over a group that is up
  abbrev pub OverUp : KeptBeside → Node → Above → GroupSite R g → Type 0
  OverUp beside n above (Up laid) = AboveStands beside n above (laid_blockwise laid)
  OverUp beside n above other = ⊥

  pub over_from : (beside : KeptBeside) (n : Node) (s : OverSite R g) → OverUp beside n (above_site s) (below_site s) → OverStands beside n s
  over_from beside n (OriginSite f) it = it
  over_from beside n (ReceiverSite f) it = it
  over_from beside n (GroupAway idle) it = absurd it
  over_from beside n (GroupFell idle) it = absurd it
  over_from beside n NoGroup it = it

  pub over_to : (beside : KeptBeside) (n : Node) (s : OverSite R g) → n.state ≡ IsUp → OverStands beside n s → OverUp beside n (above_site s) (below_site s)
  over_to beside n (OriginSite f) up it = it
  over_to beside n (ReceiverSite f) up it = it
  over_to beside n (GroupAway idle) up it = absurd (let e : IsDeported ≡ IsUp = sym it.0 ∙ up in cc)
  over_to beside n (GroupFell idle) up it = absurd (let e : IsDown ≡ IsUp = sym it.0 ∙ up in cc)
  over_to beside n NoGroup up it = it

  -- over a group of which other volumes changed what stood over it is sound
  pub above_goes : (mine : Blocks) (a : Above) (old new : Laid R g) → VolumesGo mine (laid_seen old) (laid_seen new) → AboveStays a (Up old) → AboveStays a (Up new)
  above_goes mine Nothing old new goes it = it
  above_goes mine (Origin core) old new goes it = frame_sound core (laid_volumes old) (laid_volumes new) mine goes it
  above_goes mine (Receiver core waiting) old new goes it = (frame_sound core (laid_volumes old) (laid_volumes new) mine goes it.0, frame_wait core (laid_volumes old) (laid_volumes new) mine goes it.0 waiting it.1)

  pub site_stays : (mine : Blocks) (a : Above) (old new : GroupSite R g) → SiteGoes mine old new → AboveStays a old → AboveStays a new
  site_stays mine a (Up old) (Up new) goes it = above_goes mine a old new goes it
  site_stays mine a (Up old) (Deported idle) goes it = tt
  site_stays mine a (Up old) (Down idle) goes it = tt
  site_stays mine a (Up old) (Marked rack) goes it = absurd goes
  site_stays mine a (Up old) Gone goes it = absurd goes
  site_stays mine a (Deported idle) new goes it = subst (λ (x : GroupSite R g). AboveStays a x) (sym goes) tt
  site_stays mine a (Down idle) new goes it = subst (λ (x : GroupSite R g). AboveStays a x) (sym goes) tt
  site_stays mine a (Marked rack) new goes it = absurd it
  site_stays mine a Gone new goes it = subst (λ (x : GroupSite R g). AboveStays a x) (sym goes) tt

  -- so it is over one whose disks crashed behind the call
  pub below_stays : (mine : Blocks) (a : Above) (old new : GroupSite R g) → BelowGoes mine old new → AboveStays a old → AboveStays a new
  below_stays mine a (Up old) (Up new) goes it = above_goes mine a old new goes it
  below_stays mine a (Up old) (Deported idle) goes it = tt
  below_stays mine a (Up old) (Down idle) goes it = tt
  below_stays mine a (Up old) (Marked rack) goes it = absurd goes
  below_stays mine a (Up old) Gone goes it = absurd goes
  below_stays mine a (Deported idle) new goes it = subst (λ (x : GroupSite R g). AboveStays a x) (sym goes) tt
  below_stays mine a (Down idle) new goes it = subst (λ (x : GroupSite R g). AboveStays a x) (sym goes) tt
  below_stays mine a (Marked rack) new goes it = absurd it
  below_stays mine a Gone new goes it = subst (λ (x : GroupSite R g). AboveStays a x) (sym goes) tt
