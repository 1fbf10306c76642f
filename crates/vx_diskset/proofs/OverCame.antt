-- What the volumes of a group have of a replicated volume group behind an import of disks that crashed, or were deported.
use Rattle.std.proofs.Common.{◌≡◌, ◌∙◌, inl, inr, ⊎_elim, ℕ, ◌+◌, ◌<◌, ◌≤◌, true, List, [], length, IsTrue, ap, arith, subst, sym, ◌⊎◌}
use Rattle.std.specs.Prelude.{None, Some}
use Rattle.std.proofs.lemmas.Bool.{cases_lt}
use Rattle.vx_config.specs.Checks.{blocks_of}
use Rattle.vx_config.specs.declared.config.Config.{Config}
use Rattle.vx_copyfmt.specs.Imports.{Found}
use Rattle.vx_disk.specs.Racks.{Alike, IsRack}
use Rattle.vx_disk.specs.Shelf.{Each, Image, Keeps, Meaning}
use Rattle.vx_events.specs.RvgNotes.{inside_of}
use Rattle.vx_history.specs.World.{Node}
use Rattle.vx_group.specs.Resumes.{stopped}
use Rattle.vx_kept.specs.Groups.{found as finds, group_meaning}
use Rattle.vx_kept.specs.Keeping.{Extends}
use Rattle.vx_kept.proofs.Low.{found_same}
use Rattle.vx_group.specs.Holding.{wide}
use Rattle.vx_group.specs.Resumes.{AtRest}
use Rattle.vx_group.specs.Stands.{inner_meaning}
use Rattle.vx_group.specs.declared.group_core.GroupCore.{GroupCore}
use Rattle.vx_grouped.specs.Brings.{BringsVolumes, TookVolumes}
use Rattle.vx_model.specs.Content.{Content, Write}
use Rattle.vx_model.specs.Sizes.{ring_of}
use Rattle.vx_model.specs.declared.state.State.{State}
use Rattle.vx_model.specs.declared.units.Units.{Units}
use Rattle.vx_overlay.specs.Writes.{newest_of}
use Rattle.vx_ringio.specs.Classes.{class_of, classes}
use Rattle.vx_ringio.proofs.Following.{class_beyond, class_here}
use Rattle.vx_rvg.specs.Contents.{HasSizes}
use Rattle.vx_rvg.specs.Holdings.{Holding}
use Rattle.vx_rvg.specs.Stands.{FoundGroup, LeftGroup}
use Rattle.vx_rvg.specs.Views.{unit_of}
use Rattle.vx_diskset.specs.Holds.{KeptBeside, most_header, state_with}
use Rattle.vx_diskset.specs.Lasts.{FoundWith, LeftWith}
use Rattle.vx_diskset.specs.Layouts.{IsLaid, IsLaidBy, units_of}
use Rattle.vx_diskset.specs.Stands.{AwayOver, FellOver, RestsOver, RvgSettles}
use Rattle.vx_diskset.proofs.CrashGroup.{keeps_option}
use Rattle.vx_diskset.proofs.Laying.{sizes_of}
use Rattle.vx_diskset.proofs.OverDisks.{seen_less}
use Rattle.vx_diskset.proofs.StartGroup.{left_still_with}
use Rattle.vx_volume.specs.Plexes.{Inside}
use Rattle.vx_group.specs.Settles.{LivesAgree}
use Rattle.vx_kept.proofs.Narrower.{wanted_sound}
use Rattle.vx_group.proofs.FoundLemmas.{found_wanted}
use Rattle.vx_diskset.proofs.InsideUnits.{log_inside, vol_inside}
use Rattle.vx_diskset.proofs.OverClean.{clean_value}
use Rattle.vx_diskset.proofs.OverCrash.{shown, shows}

-- ---- one image says what is left of them

-- nothing is said of the blocks of the maps
abbrev without_maps : Holding → Holding
without_maps h = record { low = h.low; writes = h.writes; place = h.place; content = h.content; maps = [] }

none_there : {A : Type 0} {x : A} → None ≡ Some x → ⊥
none_there e = cc

module _ (units : Units) (ring : ℕ) (state : State) (session stamp : ℕ) (m : Meaning) (i : Image) (tells : IsTrue m.tells) (log : (b : ℕ) → b < ring + 2 → Keeps m units.srl b (i units.srl b)) where
  by_image : (h : Holding) → ((v b : ℕ) → v < length units.vols → b < h.content.size v → Keeps m (unit_of units.vols v) b (i (unit_of units.vols v) b)) → HasSizes units.vols h.content m → FoundGroup units ring state session stamp i h
      → LeftGroup units ring state session stamp (without_maps h) m
  by_image h vols sizes found = record {
    header = found.header;
    records = found.records;
    kinds = classes units.srl ring i;
    leaves = record {
      tells = tells;
      each = λ b v low left. ap (class_of ring) ((log b low).only v left) ∙ sym (class_here units.srl ring i b low);
      beyond = λ b high. class_beyond units.srl ring i b high;
    };
    recovers = found.recovers;
    state_is = found.state_is;
    session_is = found.session_is;
    stamp_most = found.stamp_most;
    some = found.some;
    low_is = found.low_is;
    writes_are = found.writes_are;
    place_is = found.place_is;
    sizes = sizes;
    content = record {
      each = λ v b low. keeps_option m (unit_of units.vols v) b (i (unit_of units.vols v) b) (h.content.block v b) (newest_of h.content.size h.writes v b) (vols v b (there v b low) low) (found.content.each v b low);
    };
    maps = record { size = omega arith; each = λ b bytes at. absurd (none_there at) };
  }
    where
      -- a volume with a block is one of the group's
      there : (v b : ℕ) → b < h.content.size v → v < length units.vols
      there v b low = ⊎_elim (λ is. is) (λ high. absurd (let none = sizes.none v high in omega (arith, low, none))) (cases_lt v (length units.vols))

  by_image_with : (xs : List Write) (c : Content) → ((v b : ℕ) → v < length units.vols → b < c.size v → Keeps m (unit_of units.vols v) b (i (unit_of units.vols v) b)) → HasSizes units.vols c m → FoundWith units ring state session stamp i xs c
      → LeftWith units ring state session stamp xs c m
  by_image_with xs c vols sizes with = record {
    held = without_maps with.held;
    has = record { some = with.has.some; last = with.has.last; writes = with.has.writes; content = with.has.content; whole = with.has.whole };
    needs = with.needs;
    left = by_image with.held (λ v b there low. vols v b there (subst (λ (k : Content). b < k.size v) with.has.content low)) (subst (λ (k : Content). HasSizes units.vols k m) (sym with.has.content) sizes) with.found;
  }

-- ---- what was taken up

module _ (r first : Meaning) (core : GroupCore) (m : Meaning) (alike : Alike r first) (brings : BringsVolumes first core m) (told : IsTrue m.tells) where
  pub told_first : IsTrue first.tells
  told_first = sym brings.tells ∙ told

  pub told_rest : IsTrue r.tells
  told_rest = sym alike.contents.tells ∙ told_first

  abbrev pub took : TookVolumes first core m
  took = brings.took told_first

  pub each_rest : Each r.leaves took.image
  each_rest = λ u b. alike.contents.leaves u b (took.image u b) (took.each u b)

  pub found_rest : finds r took.image ≡ Found took.config
  found_rest = sym (found_same r first alike.contents.units alike.contents.size (λ u. true) took.image) ∙ took.is

  module _ (c : Config) (extends : Extends took.config c) where
    volume_size : (v : ℕ) → v < length c.volumes → (inner_meaning (wide core) m).size v ≡ blocks_of c.volumes v
    volume_size v low = took.goes.size v ∙ took.opens.alike.shape.blocks v ∙ extends.blocks v low

    -- no volume is gone
    units_low : length c.volumes ≤ (inner_meaning (wide core) m).units
    units_low = let here = took.goes.units in let shape = took.opens.alike.shape.volumes in let more = extends.volumes in omega (arith, here, shape, more)

    module _ (n : Node) (lies : IsLaidBy (units_of n) n.ring n.volumes n.base.size (blocks_of c.volumes)) (there : (k : ℕ) → inside_of (units_of n) k ≡ true → k < length c.volumes) where
      -- it lies there as it did
      pub laid_up : IsLaid (units_of n) n.ring n.volumes n.base.size (inner_meaning (wide core) m)
      laid_up = record {
        large = (let least = lies.large in let same = volume_size (units_of n).srl (there (units_of n).srl (log_inside (units_of n))) in omega (arith, least, same));
        ring_is = lies.ring_is ∙ ap (λ (k : ℕ). ring_of k) (sym (volume_size (units_of n).srl (there (units_of n).srl (log_inside (units_of n)))));
        some = lies.some;
        few = lies.few;
        count = lies.count;
        named = lies.named;
        each = λ v low. lies.each v low ∙ sym (volume_size (unit_of (units_of n).vols v) (there (unit_of (units_of n).vols v) (vol_inside (units_of n) v (let same = lies.count in omega (arith, low, same)))));
        none = lies.none;
      }

-- ---- of disks that crashed

-- a rack that is down has one value of each block
pub rack_rests : (m : Meaning) → IsRack m → IsTrue m.down → IsTrue m.tells → AtRest m
rack_rests m rack down tells = record { one = λ u b x y left right. latest u b x left ∙ sym (latest u b y right) }
  where
    latest : (u b : ℕ) (x : List ℕ) → m.leaves u b x → x ≡ rack.told.latest u b
    latest u b x left = rack.latest tells down u b x (rack.at_rest down u b x left)

pub alike_rests : (m new : Meaning) → Alike m new → AtRest m → AtRest new
alike_rests m new alike rest = record { one = λ u b x y left right. rest.one u b x y (alike.contents.leaves u b x left) (alike.contents.leaves u b y right) }

module _ {beside : KeptBeside} (n : Node) (r first : Meaning) (core : GroupCore) (m : Meaning) (alike : Alike r first) (brings : BringsVolumes first core m) (one : AtRest first) (rests : RestsOver (λ c. FellOver c beside n r) beside n r) (settles : RvgSettles (units_of n) r)
    (told : IsTrue m.tells) where
  abbrev mine : TookVolumes first core m
  mine = took r first core m alike brings told

  abbrev fell : FellOver rests.config beside n r
  fell = rests.left (told_rest r first core m alike brings told)

  seen_config : finds r mine.image ≡ Found mine.config
  seen_config = found_rest r first core m alike brings told

  seen_each : Each r.leaves mine.image
  seen_each = each_rest r first core m alike brings told

  seen_extends : Extends mine.config rests.config
  seen_extends = fell.extends mine.image mine.config seen_each seen_config

  pub fell_laid : IsLaid (units_of n) n.ring n.volumes n.base.size (inner_meaning (wide core) m)
  fell_laid = laid_up r first core m alike brings told rests.config seen_extends n rests.lies rests.there

  -- a block of one of its volumes has what the image shows
  keeps_block : (v b : ℕ) → inside_of (units_of n) v ≡ true → b < blocks_of rests.config.volumes v → Keeps (inner_meaning (wide core) m) v b (shown rests.config mine.config mine.image v b)
  keeps_block v b inside low = record { only = λ value is. by value is (settles.each mine.image mine.config v seen_each seen_config inside) }
    where
      here : Inside rests.config v b
      here = record { volume = rests.there v inside; within = low }

      by : (value : List ℕ) → (inner_meaning (wide core) m).leaves v b value → (stopped mine.config v ≡ true) ⊎ LivesAgree mine.config v r → value ≡ shown rests.config mine.config mine.image v b
      by value is (inl stop) =
          brings.unclean (told_first r first core m alike brings told) rests.config mine.config mine.image (shown rests.config mine.config mine.image) v b value one mine.each mine.is seen_extends (shows rests.config mine.config mine.image) stop here is
      by value is (inr agree) =
          clean_value r first core m alike mine rests.config seen_extends (wanted_sound r.units r.size mine.config (found_wanted r (λ u. true) mine.image mine.config seen_config)) v b value agree here is

  log_low : (b : ℕ) → b < n.ring + 2 → b < blocks_of rests.config.volumes (units_of n).srl
  log_low b low = let least = rests.lies.large in let ring = rests.lies.ring_is in omega (arith, low, least, ring)

  vol_low : (v b : ℕ) → v < length (units_of n).vols → b < n.base.size v → b < blocks_of rests.config.volumes (unit_of (units_of n).vols v)
  vol_low v b there low = let same = rests.lies.each v (let count = rests.lies.count in omega (arith, there, count)) in omega (arith, low, same)

  pub fell_there : (k : ℕ) → inside_of (units_of n) k ≡ true → k < (inner_meaning (wide core) m).units
  fell_there k is = let low = rests.there k is in let many = units_low r first core m alike brings told rests.config seen_extends in omega (arith, low, many)

  pub fell_left : LeftWith (units_of n) n.ring (state_with n beside.links) n.session (most_header beside n) n.log n.base (inner_meaning (wide core) m)
  fell_left =
      by_image_with (units_of n) n.ring (state_with n beside.links) n.session (most_header beside n) (inner_meaning (wide core) m) (shown rests.config mine.config mine.image) told
      (λ b low. keeps_block (units_of n).srl b (log_inside (units_of n)) (log_low b low)) n.log n.base
      (λ v b there low. keeps_block (unit_of (units_of n).vols v) b (vol_inside (units_of n) v there) (vol_low v b there low))
      (sizes_of (units_of n) n.ring n.volumes n.base (inner_meaning (wide core) m) fell_laid)
      (fell.found mine.image mine.config (shown rests.config mine.config mine.image) seen_each seen_config (shows rests.config mine.config mine.image))

-- ---- of disks that were deported

module _ {beside : KeptBeside} (n : Node) (r first : Meaning) (core : GroupCore) (m : Meaning) (alike : Alike r first) (brings : BringsVolumes first core m) (rests : RestsOver (λ c. AwayOver c beside n r) beside n r) (told : IsTrue m.tells) where
  abbrev given : TookVolumes first core m
  given = took r first core m alike brings told

  abbrev away : AwayOver rests.config beside n r
  away = rests.left (told_rest r first core m alike brings told)

  given_config : finds r given.image ≡ Found given.config
  given_config = found_rest r first core m alike brings told

  given_each : Each r.leaves given.image
  given_each = each_rest r first core m alike brings told

  pub away_laid : IsLaid (units_of n) n.ring n.volumes n.base.size (inner_meaning (wide core) m)
  away_laid = laid_up r first core m alike brings told rests.config (away.extends given.image given.config given_each given_config) n rests.lies rests.there

  pub away_there : (k : ℕ) → inside_of (units_of n) k ≡ true → k < (inner_meaning (wide core) m).units
  away_there k is = let low = rests.there k is in let many = units_low r first core m alike brings told rests.config (away.extends given.image given.config given_each given_config) in omega (arith, low, many)

  pub away_left : LeftWith (units_of n) n.ring (state_with n beside.links) n.session (most_header beside n) n.log n.base (inner_meaning (wide core) m)
  away_left =
      left_still_with (units_of n) n.ring (state_with n beside.links) n.session (most_header beside n) n.log n.base (group_meaning given.opened (λ v. 0) r) (inner_meaning (wide core) m) (brings.tells ∙ alike.contents.tells) given.goes.size
      (λ u b v left. ⊎_elim (λ was. seen_less r.tells first.tells given.opened r.leaves first.leaves (λ tells. sym alike.contents.tells ∙ tells) alike.contents.leaves u b v was) (λ none. absurd none) (given.goes.leaves u b v left))
      (away.left given.image given.config given.opened given.readable given_each given_config given.opens)
