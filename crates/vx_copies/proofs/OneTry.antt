-- What one try of a commit makes of the disks.
use Rattle.std.proofs.Common.{◌≡◌, ◌⊎◌, inl, inr, ⊎_elim, ℕ, ◌+◌, ◌<◌, ◌≤◌, Bool, true, false, Option, Some, List, length, refl, ap, sym, subst, ◌∙◌, arith}
use Rattle.std.specs.Prelude.{◌&&◌, not, nat_eq}
use Rattle.std.proofs.lemmas.Bool.{eqb-true, and_parts, both_ways}
use Rattle.vx_disk.specs.Blocks.{bit_at}
use Rattle.vx_disk.specs.Moves.{Beside, Moves}
use Rattle.vx_disk.specs.Shelf.{Each, Image, Meaning}
use Rattle.vx_copyfmt.specs.Copies.{Copy, Disk, Holds, copy_of}
use Rattle.vx_copyfmt.specs.Commits.{Among, Counts, Fit, Forged, FromNew, FromOld, Lower, Older, Slots, Tidy, Torn, exactly}
use Rattle.vx_copyfmt.proofs.Areas.{lower_older}
use Rattle.vx_copyfmt.proofs.Subs.{lower_more, lower_sub, tidy_more}
use Rattle.vx_copyio.specs.Putting.{AreasOf, IsMember, LeavesSame, part_of}
use Rattle.vx_config.specs.Checks.{is_sound, runs}
use Rattle.vx_config.specs.declared.config.Config.{Config}
use Rattle.vx_config.specs.declared.entry.DiskEntry.{DiskEntry}
use Rattle.vx_copies.specs.Answers.{good_set}
use Rattle.vx_copies.specs.Bodies.{fits_units, have_blocks, is_wanted, of_serial}
use Rattle.vx_copies.specs.Commits.{AreTidy, Becomes, Behind, Below, Grown, HeldGood, IsBefore, IsOne, LeavesLater, Remain, Stage, CopiesStand, Underway}
use Rattle.vx_copies.specs.Looking.{on_shelf}
use Rattle.vx_copies.specs.Marks.{HasGood, failed_at}
use Rattle.vx_copies.specs.Orders.{InOrderThis, OrderedThis}
use Rattle.vx_copies.specs.Tries.{AllThis, HasThis, IsThis, OldOrThis, Tried}
use Rattle.vx_copies.proofs.Bodies.{reads-same}
use Rattle.vx_copies.proofs.Goods.{good_bit}

-- ---- the same units

pub shelf_same : (old new : Meaning) → new.units ≡ old.units → ((u : ℕ) → new.size u ≡ old.size u) → on_shelf old ≡ on_shelf new
shelf_same old new units size = λ i serial bytes. of_serial serial (sym (reads-same new.units old.units new.size old.size bytes units size) i)

pub wanted_same : (old new : Meaning) (c : Config) → new.units ≡ old.units → ((u : ℕ) → new.size u ≡ old.size u) → is_wanted old.units old.size c ≡ true → is_wanted new.units new.size c ≡ true
wanted_same old new c units size wanted =
    let sizes : old.size ≡ new.size = λ i u. sym (size u) i in
    subst (λ (s : ℕ → ℕ). is_wanted new.units s c ≡ true) sizes (subst (λ (n : ℕ). is_wanted n old.size c ≡ true) (sym units) wanted)

-- a serial is no matter for whether it counts
pub wanted_serial : (units : ℕ) (size : ℕ → ℕ) (c : Config) (s : ℕ) → is_wanted units size c ≡ true → is_wanted units size (record { serial = s; site = c.site; disks = c.disks; volumes = c.volumes; rvg = c.rvg }) ≡ true
unfolding is_sound runs
wanted_serial units size c s wanted = wanted

pub wanted_count : (units : ℕ) (size : ℕ → ℕ) (c : Config) → is_wanted units size c ≡ true → length c.disks ≡ units
wanted_count units size c wanted =
    let parts = and_parts (is_sound c) (fits_units units size c) wanted in
    let two = and_parts (nat_eq (length c.disks) units) (have_blocks size 0 c.disks) parts.1 in
    eqb-true (length c.disks) units two.0

-- ---- disks that are held as good

pub held_or : (disks : List DiskEntry) (u : ℕ) → (failed_at disks u ≡ false) ⊎ (failed_at disks u ≡ true)
held_or disks u = by_test (failed_at disks u)
  where
    by_test : (b : Bool) → (b ≡ false) ⊎ (b ≡ true)
    by_test false = inl refl
    by_test true = inr refl

not_true : (b : Bool) → not b ≡ true → b ≡ false
not_true false is = refl
not_true true is = absurd cc

-- what is held as good was so before
pub kept_good : {old new : Meaning} {c d : Config} → Grown old new c d → (u : ℕ) → failed_at d.disks u ≡ false → failed_at c.disks u ≡ false
kept_good {old} {new} {c} {d} grown u is = by_failed (held_or c.disks u)
  where
    by_failed : (failed_at c.disks u ≡ false) ⊎ (failed_at c.disks u ≡ true) → failed_at c.disks u ≡ false
    by_failed (inl good) = good
    by_failed (inr failed) = absurd (both_ways (failed_at d.disks u) is (grown.disks.stays u failed))

module _ (c : Config) (m : Meaning) (count : length c.disks ≡ m.units) where
  pub member_held : (u : ℕ) → IsMember (bit_at (good_set c.disks)) m.units u → HeldGood c m u
  member_held u member = record {
    below = member.below;
    good = not_true (failed_at c.disks u) (sym (good_bit c.disks u (omega (arith, count, member.below))) ∙ member.is);
  }

  pub held_member : (u : ℕ) → HeldGood c m u → IsMember (bit_at (good_set c.disks)) m.units u
  held_member u held = record { below = held.below; is = good_bit c.disks u (omega (arith, count, held.below)) ∙ ap not held.good }

-- the parts of a set
first_bit : (a b : Bool) → a ≡ true → b ≡ true → (a && b) ≡ true
first_bit true b one two = two
first_bit false b one two = one

second_bit : (a b : Bool) → a ≡ true → b ≡ false → (a && not b) ≡ true
second_bit true b one two = ap not two
second_bit false b one two = one

-- ---- where a copy comes from

module _ {C : Type 0} (reads : ℕ → List ℕ → Option C) where
  abbrev pub new_wider : (P Q : ℕ → C → Type 0) (slots : Slots) (d : Disk) → ((s : ℕ) (c : C) → P s c → Q s c) → FromNew reads P slots d → FromNew reads Q slots d
  new_wider P Q slots d more from = record {
    serial = from.serial;
    config = from.config;
    area = from.area;
    made = more from.serial from.config from.made;
    first = from.first;
    there = from.there;
    label = from.label;
    copy = from.copy;
  }

  pub as_before : (slots : Slots) (d : Disk) → Among slots d → FromOld reads slots d
  as_before slots d among = record { disk = d; among = among; label = refl; copy = refl }

  -- a copy that is later than the serial is none of before, nor one of these that is torn
  pub later_old : (slots : Slots) (s : ℕ) (d : Disk) (x : Copy C) → Older reads (s + 1) slots → copy_of reads d ≡ Some x → s < x.serial → FromOld reads slots d → ⊥
  later_old slots s d x older is late from = let less : x.serial < s + 1 = older.below from.disk x from.among (sym from.copy ∙ is) in omega (arith, less, late)

  pub later_torn : (slots : Slots) (s : ℕ) (d : Disk) (x : Copy C) → Older reads (s + 1) slots → copy_of reads d ≡ Some x → s < x.serial → Torn reads slots d → ⊥
  later_torn slots s d x older is late torn =
      let less : torn.was.serial < s + 1 = older.below torn.disk torn.was torn.among torn.copy in
      omega (arith, less, late, torn.most x is)

-- ---- one try: the configuration t is written, and d is what it then is

module _ (c t d : Config) (old new : Meaning) (next : t.serial ≡ c.serial + 1) (as_c : t.disks ≡ c.disks) (after : d.serial ≡ c.serial + 1) (count : length t.disks ≡ old.units)
    (own : Grown old new c t) (grown : Grown old new c d) (tried : Tried (IsMember (bit_at (good_set t.disks)) old.units) t old new) where
  abbrev Mine : ℕ → Type 0
  Mine = IsMember (bit_at (good_set t.disks)) old.units

  abbrev reads : ℕ → List ℕ → Option Config
  reads = on_shelf old

  mine_held : (u : ℕ) → Mine u → HeldGood c old u
  mine_held u mine = let held = member_held t old count u mine in record { below = held.below; good = subst (λ (ds : List DiskEntry). failed_at ds u ≡ false) as_c held.good }

  held_mine : (u : ℕ) → HeldGood c old u → Mine u
  held_mine u held = held_member t old count u (record { below = held.below; good = subst (λ (ds : List DiskEntry). failed_at ds u ≡ false) (sym as_c) held.good })

  -- what was held as failed is as it was
  left_out : (u : ℕ) → failed_at c.disks u ≡ true → (b : ℕ) (v : List ℕ) → new.leaves u b v → old.leaves u b v
  left_out u failed b v left = ⊎_elim (λ was. was) (λ (mine : AreasOf Mine u b). absurd (both_ways (failed_at c.disks u) (mine_held u mine.on).good failed)) (tried.moves.leaves u b v left)

  lower_next : Below c old → (u : ℕ) → u < old.units → Lower t.serial (old.leaves u)
  lower_next below u lt = subst (λ (n : ℕ). Lower n (old.leaves u)) (sym next) (below.each u lt)

  fit_next : Below c old → (u : ℕ) → HeldGood c old u → Counts reads (old.leaves u) → Fit reads t.serial (old.leaves u)
  fit_next below u held counts = record { counts = counts; below = lower_next below u held.below }

  -- no header is above the new ones
  pub try_below : Below c old → Below d new
  try_below below = record { each = λ u lt. by_held u (omega (arith, lt, tried.moves.units)) (held_or c.disks u) }
    where
      by_held : (u : ℕ) → u < old.units → (failed_at c.disks u ≡ false) ⊎ (failed_at c.disks u ≡ true) → Lower (d.serial + 1) (new.leaves u)
      by_held u lt (inr failed) = lower_more (c.serial + 1) (d.serial + 1) (new.leaves u) (omega (arith, after)) (lower_sub (old.leaves u) (new.leaves u) (left_out u failed) (c.serial + 1) (below.each u lt))
      by_held u lt (inl good) =
          let same : t.serial + 1 ≡ d.serial + 1 = omega (arith, next, after) in
          subst (λ (n : ℕ). Lower n (new.leaves u)) same (tried.lower u (held_mine u (record { below = lt; good = good })) (lower_next below u lt))

  this_before : IsBefore c d old new t.serial t
  this_before = record {
    is = record { serial_is = refl; above = omega (arith, next); within = omega (arith, next, after); grown = own };
    fewer = λ u failed. grown.disks.stays u (subst (λ (ds : List DiskEntry). failed_at ds u ≡ true) as_c failed);
  }

  abbrev tries : ℕ → Config
  tries s = t

  these_one : (u : ℕ) → HeldGood c old u → (s : ℕ) (x : Config) → IsThis t s x → IsOne c d.serial tries u s x
  these_one u held s x this = record {
    above = omega (arith, this.serial_is, next);
    within = omega (arith, this.serial_is, next, after);
    is = this.config_is;
    holds = subst (λ (k : Config). failed_at k.disks u ≡ false) (sym this.config_is) (subst (λ (ds : List DiskEntry). failed_at ds u ≡ false) (sym as_c) held.good);
  }

  of_this : (u : ℕ) (e : Disk) → OldOrThis t u old e → Below c old → HeldGood c old u → Counts reads (old.leaves u) → Becomes (IsOne c d.serial tries u) old u e
  of_this u e one below held counts = by_kind (one.each (fit_next below u held counts))
    where
      by_kind : FromOld reads (old.leaves u) e ⊎ FromNew reads (IsThis t) (old.leaves u) e ⊎ Torn reads (old.leaves u) e → Becomes (IsOne c d.serial tries u) old u e
      by_kind (inl from) = inl from
      by_kind (inr (inl from)) = inr (inl (new_wider reads (IsThis t) (IsOne c d.serial tries u) (old.leaves u) e (these_one u held) from))
      by_kind (inr (inr torn)) = inr (inr torn)

  fit_this : (u : ℕ) (e : Disk) → OldOrThis t u old e → Below c old → HeldGood c old u → Counts reads (old.leaves u) → Tidy reads (d.serial + 1) (exactly e) ⊎ Forged (old.leaves u) e
  fit_this u e one below held counts =
      ⊎_elim (λ tidy. inl (tidy_more reads (t.serial + 1) (d.serial + 1) (exactly e) (omega (arith, next, after)) tidy)) (λ forged. inr forged) (one.fit (fit_next below u held counts))

  module _ (good : ℕ) (some : HasGood c.disks good) (order : OrderedThis (IsMember (part_of (good_set t.disks) good true) old.units) (IsMember (part_of (good_set t.disks) good false) old.units) t old new) where
    abbrev First : ℕ → Type 0
    First = IsMember (part_of (good_set t.disks) good true) old.units

    abbrev Second : ℕ → Type 0
    Second = IsMember (part_of (good_set t.disks) good false) old.units

    second_of : (u : ℕ) → HeldGood c old u → bit_at good u ≡ false → Second u
    second_of u held out = let mine = held_mine u held in record { below = mine.below; is = second_bit (bit_at (good_set t.disks) u) (bit_at good u) mine.is out }

    leads : HeldGood c old some.disk
    leads = record { below = omega (arith, some.below, count, ap (λ (ds : List DiskEntry). length ds) as_c); good = some.held }

    first_of : First some.disk
    first_of = let mine = held_mine some.disk leads in record { below = mine.below; is = first_bit (bit_at (good_set t.disks) some.disk) (bit_at good some.disk) mine.is some.member }

    led_by : (i : Image) (u : ℕ) → FromNew reads (IsThis t) (old.leaves some.disk) (i some.disk) → Becomes (IsOne c d.serial tries u) old u (i u)
        → FromOld reads (old.leaves u) (i u) ⊎ Behind good c d.serial tries old i u ⊎ Torn reads (old.leaves u) (i u)
    led_by i u lead (inl from) = inl from
    led_by i u lead (inr (inr torn)) = inr (inr torn)
    led_by i u lead (inr (inl from)) =
        let front : FromNew reads (IsOne c d.serial tries some.disk) (old.leaves some.disk) (i some.disk) =
        new_wider reads (IsThis t) (IsOne c d.serial tries some.disk) (old.leaves some.disk) (i some.disk) (these_one some.disk leads) lead in
        inr (inl (record { from = from; leader = some.disk; held = leads; member = some.member; front = front; ahead = omega (arith, from.made.within, front.made.above, next, after) }))

    stage : (i : Image) → ((u : ℕ) → Mine u → OldOrThis t u old (i u)) → InOrderThis First Second t old i → Stage good c d.serial tries old i
    stage i seen ordered = record {
      each = λ ready u held. of_this u (i u) (seen u (held_mine u held)) ready.below held (ready.counts u held);
      led = λ ready u held out. elim ordered [
        | inl was ↦ inl (as_before reads (old.leaves u) (i u) (was u (second_of u held out)))
        | inr new ↦ led_by i u (new some.disk first_of (lower_next ready.below some.disk leads.below)) (of_this u (i u) (seen u (held_mine u held)) ready.below held (ready.counts u held))
      ];
      fit = λ ready u held. fit_this u (i u) (seen u (held_mine u held)) ready.below held (ready.counts u held);
    }

    -- a crash in the try leaves such a stage
    try_since : (s : ℕ) (i : Image) → s ≤ old.moment → new.left_since s i → old.left_since s i ⊎ (Beside (AreasOf (HeldGood c old)) old.leaves i × Stage good c d.serial tries old i)
    try_since s i le left = elim (tried.moves.since s i le left) [
      | inl was ↦ inl was
      | inr now ↦ elim (order.along.each s i le left) [
        | inl was ↦ inl was
        | inr ordered ↦ inr (
          (λ u b. ⊎_elim (λ was. inl was) (λ (mine : AreasOf Mine u b). inr (record { on = mine_held u mine.on; first = mine.first; last = mine.last })) (now.0 u b)),
          stage i (λ u mine. now.1.each u mine) ordered,
        )
      ]
    ]

    try_moves : Moves (AreasOf (HeldGood c old)) (Stage good c d.serial tries old) old new
    try_moves = record {
      units = tried.moves.units;
      size = tried.moves.size;
      tells = tried.moves.tells;
      reads = λ u b v is. elim (tried.moves.reads u b v is) [
        | inl was ↦ inl was
        | inr (inl mine) ↦ inr (inl (record { on = mine_held u mine.on; first = mine.first; last = mine.last }))
        | inr (inr down) ↦ inr (inr down)
      ];
      leaves = λ u b v left. ⊎_elim (λ was. inl was) (λ (mine : AreasOf Mine u b). inr (record { on = mine_held u mine.on; first = mine.first; last = mine.last })) (tried.moves.leaves u b v left);
      later = tried.moves.later;
      since = try_since;
      keeps = tried.moves.keeps;
      faults = tried.moves.faults;
      disk_faults = tried.moves.disk_faults;
      falls = tried.moves.falls;
      unarmed = tried.moves.unarmed;
      safe = tried.moves.safe;
    }

    pub try_underway : Underway good c d old new
    try_underway = record {
      serial = omega (arith, after);
      grown = grown;
      tries = tries;
      tried = λ s above within. let same : t.serial ≡ s = omega (arith, above, within, next, after) in subst (λ (n : ℕ). IsBefore c d old new n t) same this_before;
      chain = λ s r above le within u failed. failed;
      moves = try_moves;
      below = try_below;
      leaves = λ below u e held counts among. of_this u e (tried.leaves u e (held_mine u held) among) below held counts;
      fits = λ below u e held counts among. fit_this u e (tried.leaves u e (held_mine u held) among) below held counts;
      now = λ i left. stage i (λ u mine. tried.leaves u (i u) mine (λ b. left u b)) (order.now i left);
    }

  tidy_there : (u : ℕ) → Tidy reads (t.serial + 1) (new.leaves u) → Tidy (on_shelf new) (d.serial + 1) (new.leaves u)
  tidy_there u tidy =
      let same : t.serial + 1 ≡ d.serial + 1 = omega (arith, next, after) in
      subst (λ (r : ℕ → List ℕ → Option Config). Tidy r (d.serial + 1) (new.leaves u)) (shelf_same old new tried.moves.units tried.moves.size) (subst (λ (n : ℕ). Tidy reads n (new.leaves u)) same tidy)

  later_than : (u : ℕ) → u < old.units → HasThis t u old new → LeavesLater c d.serial u old new
  later_than u lt has = record {
    tidy = λ below. tidy_there u (has.tidy (lower_next below u lt));
    newer = λ below e among.
        let from = has.made e (lower_next below u lt) among in
        (record { serial = from.serial; area = from.area; body = Holds from.config }, from.copy, omega (arith, from.made.serial_is, next));
  }

  pub try_remain : ((u : ℕ) → HeldGood d old u → LeavesSame u old new ⊎ HasThis t u old new) → Remain c d old new
  try_remain others = record {
    each = λ u held.
        let here : HeldGood d old u = record { below = omega (arith, held.below, tried.moves.units); good = held.good } in
        ⊎_elim (λ same. inl same) (λ has. inr (later_than u here.below has)) (others u here);
  }

-- ---- it was written to each of its disks

module _ (c t : Config) (old new : Meaning) (next : t.serial ≡ c.serial + 1) (as_c : t.disks ≡ c.disks) (count : length t.disks ≡ old.units) (own : Grown old new c t)
    (tried : Tried (IsMember (bit_at (good_set t.disks)) old.units) t old new) (all : AllThis (IsMember (bit_at (good_set t.disks)) old.units) t old new) where
  try_new : Below c old → (i : Image) → Each new.leaves i → (u : ℕ) → u < old.units → failed_at t.disks u ≡ false
      → (area : ℕ) × (copy_of (on_shelf old) (i u) ≡ Some (record { serial = t.serial; area = area; body = Holds t }))
  try_new below i left u lt good =
      let held : HeldGood c old u = record { below = lt; good = subst (λ (ds : List DiskEntry). failed_at ds u ≡ false) as_c good } in
      let from = (all.each u (held_mine c t t old new next as_c next count own own tried u held)).made (i u) (lower_next c t t old new next as_c next count own own tried below u lt) (λ b. left u b) in (
        from.area,
        from.copy ∙ ap (λ (n : ℕ). Some (record { serial = n; area = from.area; body = Holds from.config })) from.made.serial_is
            ∙ ap (λ (x : Config). Some (record { serial = t.serial; area = from.area; body = Holds x })) from.made.config_is,
      )

  pub try_stands : CopiesStand c t old new
  try_stands = record {
    each = λ below i left. record {
      new = try_new below i left;
      older = λ u x lt failed is.
          let was : failed_at c.disks u ≡ true = subst (λ (ds : List DiskEntry). failed_at ds u ≡ true) as_c failed in
          let less : x.serial < c.serial + 1 =
          (lower_older (on_shelf old) (c.serial + 1) (old.leaves u) (below.each u lt)).below (i u) x (λ b. left_out c t t old new next as_c next count own own tried u was b (i u b) (left u b)) is in
          omega (arith, less, next);
    };
  }

  pub try_tidy : AreTidy c t old new
  try_tidy = record {
    each = λ below u held.
        let here : HeldGood t old u = record { below = omega (arith, held.below, tried.moves.units); good = held.good } in
        tidy_there c t t old new next as_c next count own own tried u ((all.each u (held_member t old count u here)).tidy (lower_next c t t old new next as_c next count own own tried below u here.below));
  }
