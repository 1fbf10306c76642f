-- What a crash leaves of a site that was up.
use Rattle.std.proofs.Common.{◌≡◌, ◌⊎◌, inl, inr, ⊎_elim, ℕ, zero, suc, ◌+◌, ◌-◌, ◌<◌, ◌≤◌, Bool, true, false, List, length, take, drop, Option, Some, None, IsTrue, MatchOption, refl, sym, ◌∙◌, ap, subst, arith}
use Rattle.std.proofs.lemmas.List.{length-take, take-take}
use Rattle.std.specs.Prelude.{slice_get, Err}
use Rattle.vx_model.specs.Content.{Content, Write, fold_writes}
use Rattle.vx_history.specs.World.{Node}
use Rattle.vx_history.specs.Steps.{crashed, half_begun}
use Rattle.vx_model.specs.declared.state.State.{State}
use Rattle.vx_model.specs.declared.units.Units.{Units}
use Rattle.vx_srlfmt.specs.Kinds.{Kind}
use Rattle.vx_diskset.specs.Holds.{KeptBeside}
use Rattle.vx_disk.specs.Racks.{IsRack, Stopped}
use Rattle.vx_disk.specs.Shelf.{Meaning, Image, Keeps, Lawful}
use Rattle.vx_overlay.specs.Writes.{newest_of}
use Rattle.vx_ringio.specs.Classes.{class_of, classes}
use Rattle.vx_ringio.proofs.Following.{class_here, class_beyond, left_image}
use Rattle.vx_ringlog.specs.Chain.{Recovers}
use Rattle.vx_rvg.specs.Contents.{HasSizes}
use Rattle.vx_rvg.specs.Holdings.{Holding}
use Rattle.vx_rvg.specs.Stands.{FoundGroup, LeftGroup}
use Rattle.vx_rvg.specs.Views.{Core, unit_of}
use Rattle.vx_rvg.proofs.ContentFacts.{has_content, has_maps}
use Rattle.vx_disk.specs.declared.shelf.Shelf.{Ghosts}
use Rattle.vx_diskset.specs.declared.disk_set.DiskSet.{DiskSet}
use Rattle.vx_diskset.specs.declared.disk_set.DiskSet.TheVariants.{Up, Down}
use Rattle.vx_rvg.specs.declared.group.Rvg.{Rvg}
use Rattle.vx_diskset.specs.DiskSets.{CrashedAt, CrashedTo, WroteUp, WroteAt, AppliedUp, AppliedAt, fell_to, with_first}
use Rattle.vx_model.specs.declared.no.No.{No}
use Rattle.vx_model.specs.declared.no.No.TheVariants.{Device, Limit, Down as Off}
use Rattle.vx_model.proofs.Contents.{folded_size}
use Rattle.vx_grouped.specs.SiteEnds.{is_off}
use Rattle.vx_events.specs.Facts.{values_from}
use Rattle.vx_diskset.specs.Lasts.{FoundWith, LeftWith}
use Rattle.vx_diskset.specs.Holds.{HasDoubted, HasWrites, KeptSite, itself, state_with, sure_of}
use Rattle.vx_diskset.specs.Layouts.{LiesOn, raw_units, units_of, LiesRaw}
use Rattle.vx_diskset.specs.Holds.{most_with}
use Rattle.vx_diskset.specs.Stands.{IsUpAt, IsHeldAt, IsDownAt, CutAt, IsToldAt, IsUngrouped, SiteStands}
use Rattle.vx_diskset.proofs.Laying.{laid_in, lies_as, lies_sized, sizes_of, raw_sized, units_raw}
use Rattle.vx_diskset.proofs.BesideLemmas.{doubted, writes_itself}
use Rattle.vx_diskset.proofs.StaysUp.{held_up}
use Rattle.vx_events.proofs.Places.{never_some, some_same}
use Rattle.vx_events.proofs.Values.{length-values_from, slice_index-values_from}
use Rattle.vx_diskset.proofs.RawSets.{cut_there}

-- ---- a rack that crashed has one value in each block

-- what an image has of a block is all that may be left there
pub one_value : (m : Meaning) (i : Image) (u b : ℕ) → Lawful m → IsRack m → IsTrue m.down → IsTrue m.tells → m.now i → Keeps m u b (i u b)
one_value m i u b lawful rack down tells now = record {
  only = λ v left. latest v left ∙ sym (latest (i u b) (lawful.within i now u b));
}
  where
    latest : (v : List ℕ) → m.leaves u b v → v ≡ rack.told.latest u b
    latest v left = rack.latest tells down u b v (rack.at_rest down u b v left)

-- ---- one image says what is left

pub keeps_option : (m : Meaning) (u b : ℕ) (here bytes : List ℕ) (o : Option (List ℕ)) → Keeps m u b here
    → MatchOption o (here ≡ bytes) (λ new. new ≡ bytes) → MatchOption o (Keeps m u b bytes) (λ new. new ≡ bytes)
keeps_option m u b here bytes (Some new) keeps is = is
keeps_option m u b here bytes None keeps is = record { only = λ v left. keeps.only v left ∙ is }

value_there : (f : ℕ → List ℕ) (k n b : ℕ) (bytes : List ℕ) → slice_get (values_from f k n) b ≡ Some bytes → f (k + b) ≡ bytes
value_there f k zero b bytes is = absurd (never_some is)
value_there f k (suc n) zero bytes is = ap f (omega arith) ∙ some_same is
value_there f k (suc n) (suc b) bytes is = ap f (omega arith) ∙ value_there f (k + 1) n b bytes is

-- with the blocks of the map unit as an image has them
abbrev with_maps : Units → Meaning → Image → Holding → Holding
with_maps units m i h = record { low = h.low; writes = h.writes; place = h.place; content = h.content; maps = values_from (λ b. i units.maps b) 0 (m.size units.maps) }

found_left : (units : Units) (ring : ℕ) (state : State) (session stamp : ℕ) (h : Holding) (m : Meaning) (i : Image) → IsTrue m.tells
    → ((u b : ℕ) → Keeps m u b (i u b)) → HasSizes units.vols h.content m → FoundGroup units ring state session stamp i h → LeftGroup units ring state session stamp (with_maps units m i h) m
found_left units ring state session stamp h m i tells one sizes found = record {
  header = found.header;
  records = found.records;
  kinds = classes units.srl ring i;
  leaves = record {
    tells = tells;
    each = λ b v low left. ap (class_of ring) ((one units.srl b).only v left) ∙ sym (class_here units.srl ring i b low);
    beyond = λ b high. class_beyond units.srl ring i b high;
  };
  recovers = found.recovers;
  state_is = found.state_is;
  session_is = found.session_is;
  stamp_most = found.stamp_most;
  some = found.some;
  low_is = found.low_is;
  writes_are = found.writes_are;
  place_is = found.place_is;
  sizes = sizes;
  content = record {
    each = λ v b low. keeps_option m (unit_of units.vols v) b (i (unit_of units.vols v) b) (h.content.block v b) (newest_of h.content.size h.writes v b)
        (one (unit_of units.vols v) b) (found.content.each v b low);
  };
  maps = record {
    size = (let long = length-values_from (λ b. i units.maps b) 0 (m.size units.maps) in omega (arith, long));
    each = λ b bytes there.
        let here : 0 + b ≡ b = omega arith in
        let is : i units.maps (0 + b) ≡ bytes = value_there (λ b. i units.maps b) 0 (m.size units.maps) b bytes there in
        subst (λ (v : List ℕ). Keeps m units.maps b v) (sym (ap (λ (k : ℕ). i units.maps k) here) ∙ is) (one units.maps b);
  };
}

pub found_left_with : (units : Units) (ring : ℕ) (state : State) (session stamp : ℕ) (xs : List Write) (c : Content) (m : Meaning) (i : Image) → IsTrue m.tells
    → ((u b : ℕ) → Keeps m u b (i u b)) → HasSizes units.vols c m → FoundWith units ring state session stamp i xs c → LeftWith units ring state session stamp xs c m
found_left_with units ring state session stamp xs c m i tells one sizes with = record {
  held = with_maps units m i with.held;
  has = record { some = with.has.some; last = with.has.last; writes = with.has.writes; content = with.has.content; whole = with.has.whole };
  needs = with.needs;
  left = found_left units ring state session stamp with.held m i tells one (subst (λ (k : Content). HasSizes units.vols k m) (sym with.has.content) sizes) with.found;
}

-- and what is left says what each image has
pub left_found : (units : Units) (ring : ℕ) (state : State) (session stamp : ℕ) (h : Holding) (m : Meaning) (i : Image) → Lawful m → m.now i
    → LeftGroup units ring state session stamp h m → FoundGroup units ring state session stamp i h
left_found units ring state session stamp h m i lawful now left = record {
  header = left.header;
  records = left.records;
  recovers = subst (λ (k : ℕ → Kind). Recovers ring k left.header left.records) (λ j. λ b. same b j) left.recovers;
  state_is = left.state_is;
  session_is = left.session_is;
  stamp_most = left.stamp_most;
  some = left.some;
  low_is = left.low_is;
  writes_are = left.writes_are;
  place_is = left.place_is;
  content = has_content units.vols h.content h.writes m i left.content (lawful.within i now);
  maps = has_maps units h.maps m i left.maps (λ b. lawful.within i now units.maps b);
}
  where
    same : (b : ℕ) → left.kinds b ≡ classes units.srl ring i b
    same b = sym (left_image units.srl ring left.kinds m i left.leaves (lawful.within i now) b)

pub left_with : (units : Units) (ring : ℕ) (state : State) (session stamp : ℕ) (xs : List Write) (c : Content) (m : Meaning) (i : Image) → Lawful m → m.now i
    → LeftWith units ring state session stamp xs c m → FoundWith units ring state session stamp i xs c
left_with units ring state session stamp xs c m i lawful now with = record { held = with.held; has = with.has; needs = with.needs; found = left_found units ring state session stamp with.held m i lawful now with.left }

-- ---- the sizes of a site's volumes

-- the volumes lie on the disks between the first and the last
pub site_sizes : (disks blocks : ℕ) (c : Content) (m : Meaning) → 3 ≤ disks → ((u : ℕ) → u < disks → m.size u ≡ blocks)
    → ((v : ℕ) → v < disks - 2 → c.size v ≡ blocks) → ((v : ℕ) → disks - 2 ≤ v → c.size v ≡ 0) → HasSizes (raw_units disks).vols c m
site_sizes disks blocks c m some size here none = record {
  each = λ v there.
      let inside : v < disks - 2 = omega (arith, there, length-values_from (λ (k : ℕ). k) 1 (disks - 2)) in
      here v inside ∙ sym (ap m.size (slice_index-values_from 1 (disks - 2) v inside) ∙ size (1 + v) (omega (arith, inside, some)));
  none = λ v past. none v (omega (arith, past, length-values_from (λ (k : ℕ). k) 1 (disks - 2)));
}

-- ---- the crash of a site that is up

-- what a crash kept: the site as its node says it, or what it might be besides, with so many of its writes, and what it left of them where
-- contents are told
pub record Fell (beside : KeptBeside) (n : Node) (m : Meaning) : Type 0 where
  pub kept : KeptSite
  pub is : (kept ≡ itself beside n) ⊎ (beside.doubt ≡ Some kept)
  pub count : ℕ
  pub least : kept.node.safe ≤ count
  pub most : count ≤ length kept.node.log
  pub down : IsDownAt (sure_of kept) (fell_to n kept.node count) m

module _ (k : KeptSite) (other : Node) (none : other.group ≡ None) (raw : k.node.group ≡ None) (m new : Meaning) (lies : LiesOn k.node m) (low : k.node.low ≡ 1) (begun : IsTrue m.tells → 0 < k.node.session) (lawful : Lawful new) (rack : IsRack new) (stopped : Stopped m new) where
  abbrev n : Node
  n = k.node

  lies_at : (count : ℕ) → LiesOn (crashed n count) new
  lies_at count = lies_sized n (fold_writes n.base (drop n.safe (take count n.log))).size new (folded_size n.base (drop n.safe (take count n.log))) (lies_as n m new stopped.units stopped.size lies)

  lies_down : (count : ℕ) → LiesRaw (crashed n count) new
  lies_down count = raw_sized n (fold_writes n.base (drop n.safe (take count n.log))).size new raw (folded_size n.base (drop n.safe (take count n.log))) (lies_as n m new stopped.units stopped.size lies)

  left_at : (i : Image) (has : HasWrites (sure_of k) n i) → new.now i → IsTrue new.tells
      → LeftWith (units_of n) n.ring (state_with n k.links) n.session (most_with (sure_of k) n has.count) (take has.count n.log) (fold_writes n.base (drop n.safe (take has.count n.log))) new
  left_at i has now tells =
      found_left_with (units_of n) n.ring (state_with n k.links) n.session (most_with (sure_of k) n has.count) (take has.count n.log) (fold_writes n.base (drop n.safe (take has.count n.log))) new i tells
      (λ u b. one_value new i u b lawful rack stopped.down tells now)
      (sizes_of (units_of n) n.ring n.volumes (fold_writes n.base (drop n.safe (take has.count n.log))) new (laid_in (crashed n has.count) new (lies_at has.count)))
      has.found

  down_at : (count : ℕ) → n.safe ≤ count → count ≤ length n.log
      → (IsTrue new.tells → LeftWith (units_of n) n.ring (state_with n k.links) n.session (most_with (sure_of k) n count) (take count n.log) (fold_writes n.base (drop n.safe (take count n.log))) new)
      → IsDownAt (sure_of k) (fell_to other n count) new
  down_at count least most left = record {
    state = refl;
    unfused = refl;
    down = stopped.down;
    unarmed = stopped.unarmed;
    sure = refl;
    raw = none;
    lies = lies_down count;
    low = low;
    logged = omega (arith, length-take count n.log, most);
    begun = λ tells. begun (sym stopped.tells ∙ tells);
    left = λ tells. subst (λ (u : Units). LeftWith u n.ring (state_with n k.links) n.session (most_with (sure_of k) n count) (take count n.log) (fold_writes n.base (drop n.safe (take count n.log))) new) (units_raw n raw) (left tells);
  }

module _ {beside : KeptBeside} (n : Node) (m new : Meaning) (raw : IsUngrouped beside n) (up : IsHeldAt beside n m) (lawful : Lawful new) (rack : IsRack new) (stopped : Stopped m new) where
  fell_itself : (i : Image) → HasWrites beside n i → new.now i → IsTrue new.tells → Fell beside n new
  fell_itself i has now tells =
      let own = writes_itself n i has in
      record {
        kept = itself beside n;
        is = inl refl;
        count = own.count;
        least = own.least;
        most = own.most;
        down = down_at (itself beside n) n raw.0 raw.0 m new up.lies up.low up.begun lawful rack stopped own.count own.least own.most (λ told. left_at (itself beside n) n raw.0 raw.0 m new up.lies up.low up.begun lawful rack stopped i own now told);
      }

  fell_besides : (i : Image) → HasDoubted beside.doubt i → new.now i → IsTrue new.tells → Fell beside n new
  fell_besides i has now tells =
      let d = doubted beside.doubt i has in
      let k : KeptSite = d.0 in
      let may = up.may k d.1 in
      record {
        kept = k;
        is = inr d.1;
        count = d.2.count;
        least = d.2.least;
        most = d.2.most;
        down = down_at k n raw.0 (raw.1 k d.1) m new may.lies may.low may.begun lawful rack stopped d.2.count d.2.least d.2.most (λ told. left_at k n raw.0 (raw.1 k d.1) m new may.lies may.low may.begun lawful rack stopped i d.2 now told);
      }

  fell_by : (b : Bool) → new.tells ≡ b → Fell beside n new
  fell_by true tells =
      let i = lawful.image tells in
      ⊎_elim (λ own. fell_itself i.0 own i.1 tells) (λ other. fell_besides i.0 other i.1 tells) (up.left i.0 (stopped.now i.0 i.1))
  fell_by false untold = record {
    kept = itself beside n;
    is = inl refl;
    count = n.safe;
    least = omega arith;
    most = up.logged;
    down = down_at (itself beside n) n raw.0 raw.0 m new up.lies up.low up.begun lawful rack stopped n.safe (omega arith) up.logged (λ tells. absurd (never tells untold));
  }
    where
      never : {b : Bool} → b ≡ true → b ≡ false → ⊥
      never is not = cc

  -- a site that was up is down with one of the numbers that a crash may keep
  pub crash_down : Fell beside n new
  crash_down = fell_by new.tells refl

module _ {R : Type 0} {g : Ghosts R} where
  pub held_crashed : {beside : KeptBeside} (n : Node) (old shelf new : R) → shelf ≡ old → IsUngrouped beside n → IsHeldAt beside n (g.meaning old) → Lawful (g.meaning new) → IsRack (g.meaning new) → Stopped (g.meaning shelf) (g.meaning new) → CrashedAt {g = g} beside n (Down new)
  held_crashed n old shelf new is raw held lawful rack stopped =
      let k = crash_down n (g.meaning old) (g.meaning new) raw held lawful rack (subst (λ (r : R). Stopped (g.meaning r) (g.meaning new)) is stopped) in
      record { kept = k.kept; is = k.is; count = k.count; least = k.least; most = k.most; stands = k.down }

  -- the disk set of a site that crashed
  pub crashed_at : {beside : KeptBeside} (n : Node) (core : Core) (old shelf new : R) → shelf ≡ old → IsUngrouped beside n → IsUpAt beside n core (g.meaning old) → Lawful (g.meaning new) → IsRack (g.meaning new) → Stopped (g.meaning shelf) (g.meaning new)
      → CrashedAt {g = g} beside n (Down new)
  crashed_at n core old shelf new is raw up lawful rack stopped = held_crashed n old shelf new is raw (held_up n core (g.meaning old) up) lawful rack stopped

  -- the same where its fuse ran out before
  pub cut_crashed : {beside : KeptBeside} (n : Node) (e : DiskSet R g) (rvg : Rvg R g) (shelf new : R) → e ≡ Up rvg → shelf ≡ rvg.shelf → CutAt beside n e → Lawful (g.meaning new) → IsRack (g.meaning new) → Stopped (g.meaning shelf) (g.meaning new)
      → CrashedAt {g = g} beside n (Down new)
  cut_crashed {beside} n e rvg shelf new is same cut lawful rack stopped =
      let held = cut_there beside n e rvg is cut in
      held_crashed n rvg.shelf shelf new same held.0 held.1 lawful rack stopped

  -- the crash of a site that has the first of its writes alone, as one of the site
  pub fell_within : {beside : KeptBeside} (n : Node) (limit : ℕ) (new : DiskSet R g) → beside.doubt ≡ None → CrashedAt beside (with_first n limit) new → CrashedTo beside n limit new
  fell_within {beside} n limit new sure fell = ⊎_elim (λ own. by fell.kept own fell.count fell.least fell.most fell.stands) (λ other. absurd (never_some (sym sure ∙ other))) fell.is
    where
      by : (k : KeptSite) → k ≡ itself beside (with_first n limit) → (count : ℕ) → k.node.safe ≤ count → count ≤ length k.node.log → SiteStands (sure_of k) (fell_to (with_first n limit) k.node count) new → CrashedTo beside n limit new
      by k own =
          subst (λ (x : KeptSite). (count : ℕ) → x.node.safe ≤ count → count ≤ length x.node.log → SiteStands (sure_of x) (fell_to (with_first n limit) x.node count) new → CrashedTo beside n limit new) (sym own)
          (λ count least most stands.
          let few : count ≤ limit = omega (arith, most, length-take limit n.log) in
          record {
            count = count;
            least = least;
            few = few;
            most = omega (arith, most, length-take limit n.log);
            stands = subst (λ (ws : List Write). SiteStands (sure_of (itself beside n)) (let m : Node = record (crashed n count) { base = fold_writes n.base (drop n.safe ws); log = ws } in m) new) (take-take count limit n.log few) stands;
          })

  -- a write or an apply whose fuse ran out, and the crash behind it
  pub wrote_off : {beside : KeptBeside} (n : Node) (x : Write) (old mid new : DiskSet R g) (why : No) → is_off why ≡ true → WroteUp beside n x old mid (Err why) → (CutAt beside (half_begun n x) mid → CrashedAt beside (half_begun n x) new) → (IsToldAt new → IsToldAt mid) → WroteAt beside n x old new (Err why)
  wrote_off n x old mid new Off off is falls later = (is.0, falls is.1, (λ calls told exact. is.2 calls (later told) exact), is.3)
  wrote_off n x old mid new other off is falls later = absurd (cc)

  pub wrote_on : (beside : KeptBeside) (n : Node) (x : Write) (old new : DiskSet R g) (why : No) → is_off why ≡ false → WroteUp beside n x old new (Err why) → WroteAt beside n x old new (Err why)
  wrote_on beside n x old new Off off is = absurd (cc)
  wrote_on beside n x old new (Device disk) off is = is
  wrote_on beside n x old new (Limit what most) off is = is
  wrote_on beside n x old new other off is = is

  pub applied_off : {beside : KeptBeside} (n : Node) (to : ℕ) (old mid new : DiskSet R g) (why : No) → is_off why ≡ true → beside.doubt ≡ None → AppliedUp beside n to old mid (Err why)
      → (CutAt beside (with_first n n.safe) mid → CrashedAt beside (with_first n n.safe) new) → AppliedAt beside n to old new (Err why)
  applied_off n to old mid new Off off sure is falls = (is.0, fell_within n n.safe new sure (falls is.1))
  applied_off n to old mid new other off sure is falls = absurd (cc)

  pub applied_on : (beside : KeptBeside) (n : Node) (to : ℕ) (old new : DiskSet R g) (why : No) → is_off why ≡ false → AppliedUp beside n to old new (Err why) → AppliedAt beside n to old new (Err why)
  applied_on beside n to old new Off off is = absurd (cc)
  applied_on beside n to old new (Device disk) off is = is
  applied_on beside n to old new other off is = is
