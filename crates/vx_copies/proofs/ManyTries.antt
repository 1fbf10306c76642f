-- Tries one after the other.
use Rattle.std.proofs.Common.{◌≡◌, ◌⊎◌, inl, inr, ⊎_elim, ℕ, ◌+◌, ◌<◌, ◌≤◌, Bool, true, false, Option, Some, List, length, refl, ap, sym, subst, ◌∙◌, arith}
use Rattle.std.specs.Prelude.{nat_lt, if◌then◌else◌}
use Rattle.std.proofs.lemmas.Bool.{both_ways, cases_lt, le-ltb, lt-ltb}
use Rattle.vx_disk.specs.Blocks.{bit_at}
use Rattle.vx_disk.specs.Counts.{Rose}
use Rattle.vx_disk.specs.Moves.{Beside}
use Rattle.vx_disk.specs.Shelf.{Each, Image, Lawful, Meaning}
use Rattle.vx_disk.proofs.Moving.{goes_on, still, wider}
use Rattle.vx_copyfmt.specs.Copies.{Copy, Disk, Holds, copy_of}
use Rattle.vx_copyfmt.specs.Commits.{Among, Counts, Forged, FromNew, FromOld, Older, Slots, Tidy, Torn, CopyWritten, exactly}
use Rattle.vx_copyfmt.specs.Labels.{seen_in}
use Rattle.vx_copyfmt.proofs.Areas.{lower_older, no_forged, no_torn, one_tidy}
use Rattle.vx_copyfmt.proofs.Subs.{counts_sub, forged_sub, old_sub, tidy_more, tidy_sub, torn_sub}
use Rattle.vx_copyio.specs.Labelling.{AreLarge}
use Rattle.vx_copyio.specs.Putting.{AreasOf, LeavesSame}
use Rattle.vx_config.specs.Table.{greatest}
use Rattle.vx_config.specs.declared.config.Config.{Config}
use Rattle.vx_copies.specs.Bodies.{failed_in}
use Rattle.vx_copies.specs.Commits.{AreTidy, Becomes, Behind, Below, HeldGood, IsBefore, IsBlamed, IsOne, LeavesLater, NamesFailed, ReadyDisks, Remain, Stage, CopiesStand, Underway, lowest_member}
use Rattle.vx_copies.specs.Looking.{on_shelf}
use Rattle.vx_copies.specs.Marks.{NoneGood, failed_at}
use Rattle.vx_disk.proofs.Causing.{Rose_after}
use Rattle.vx_copies.proofs.Growing.{before_first, before_later, grown_both}
use Rattle.vx_copies.proofs.MarkedDisks.{serial_grown}
use Rattle.vx_copies.proofs.OneTry.{as_before, held_or, kept_good, later_old, later_torn, new_wider, shelf_same}

-- ---- none yet

pub none_yet : (good : ℕ) (c : Config) (m : Meaning) → Underway good c c m m
none_yet good c m = record {
  serial = omega arith;
  grown = serial_grown c c.serial m m;
  tries = λ s. c;
  tried = λ s above within. absurd (omega (arith, above, within));
  chain = λ s t above le within u failed. failed;
  moves = still (AreasOf (HeldGood c m)) (Stage good c c.serial (λ s. c) m) m;
  below = λ below. below;
  leaves = λ below u e held counts among. inl (as_before (on_shelf m) (m.leaves u) e among);
  fits = λ below u e held counts among. inl (one_tidy (on_shelf m) (c.serial + 1) (m.leaves u) e (record { counts = counts; below = below.each u held.below }) among);
  now = λ i left. record {
    each = λ ready u held. inl (as_before (on_shelf m) (m.leaves u) (i u) (λ b. left u b));
    led = λ ready u held out. inl (as_before (on_shelf m) (m.leaves u) (i u) (λ b. left u b));
    fit = λ ready u held. inl (one_tidy (on_shelf m) (c.serial + 1) (m.leaves u) (i u) (record { counts = ready.counts u held; below = ready.below.each u held.below }) (λ b. left u b));
  };
}

-- ---- where a copy comes from, after two calls

module _ {C : Type 0} (reads : ℕ → List ℕ → Option C) (slots : Slots) where
  -- a disk with the label and the copy of one that has a copy that was begun
  abbrev new_alike : (P Q : ℕ → C → Type 0) (d e : Disk) → ((s : ℕ) (c : C) → P s c → Q s c) → seen_in (d 0) ≡ seen_in (e 0) → copy_of reads d ≡ copy_of reads e → FromNew reads P slots e → FromNew reads Q slots d
  new_alike P Q d e wide label copy new = record {
    serial = new.serial;
    config = new.config;
    area = new.area;
    made = wide new.serial new.config new.made;
    first = new.first;
    there = new.there;
    label = label ∙ new.label;
    copy = copy ∙ new.copy;
  }

-- ---- two parts of the tries

module _ (good : ℕ) (a c d : Config) (old mid new : Meaning) (one : Underway good a c old mid) (remain : Remain a c old mid) (two : Underway good c d mid new) where
  same : on_shelf old ≡ on_shelf mid
  same = shelf_same old mid one.moves.units one.moves.size

  held_first : (u : ℕ) → HeldGood c mid u → HeldGood a old u
  held_first u held = record { below = omega (arith, held.below, one.moves.units); good = kept_good one.grown u held.good }

  labels : (u : ℕ) (v : List ℕ) → mid.leaves u 0 v → old.leaves u 0 v
  labels u v left = ⊎_elim (λ was. was) (λ (mine : AreasOf (HeldGood a old) u 0). absurd (omega (arith, mine.first))) (one.moves.leaves u 0 v left)

  before_one : (s : ℕ) (x : Config) → IsBefore a c old mid s x → IsBefore a d old new s x
  before_one = before_later old mid new one.moves.faults two.moves.faults a c d two.serial two.grown

  before_two : (s : ℕ) (x : Config) → IsBefore c d mid new s x → IsBefore a d old new s x
  before_two = before_first old mid new one.moves.faults two.moves.faults a c d one.serial one.grown

  -- ---- the table of both

  abbrev tries : ℕ → Config
  tries s = if nat_lt c.serial s then two.tries s else one.tries s

  low : (s : ℕ) → s ≤ c.serial → tries s ≡ one.tries s
  low s le = rw (le-ltb c.serial s le) refl

  high : (s : ℕ) → c.serial < s → tries s ≡ two.tries s
  high s lt = rw (lt-ltb c.serial s lt) refl

  both_tried : (s : ℕ) → a.serial < s → s ≤ d.serial → IsBefore a d old new s (tries s)
  both_tried s above within = elim (cases_lt c.serial s) [
    | inl later ↦ subst (IsBefore a d old new s) (sym (high s later)) (before_two s (two.tries s) (two.tried s later within))
    | inr le ↦ subst (IsBefore a d old new s) (sym (low s le)) (before_one s (one.tries s) (one.tried s above le))
  ]

  both_chain : (s t : ℕ) → a.serial < s → s ≤ t → t ≤ d.serial → (u : ℕ) → failed_at (tries s).disks u ≡ true → failed_at (tries t).disks u ≡ true
  both_chain s t above le within u failed = elim (cases_lt c.serial s) [
    | inl later ↦
        let more : c.serial < t = omega (arith, later, le) in
        let was : failed_at (two.tries s).disks u ≡ true = subst (λ (x : Config). failed_at x.disks u ≡ true) (high s later) failed in
        subst (λ (x : Config). failed_at x.disks u ≡ true) (sym (high t more)) (two.chain s t later le within u was)
    | inr early ↦
        let was : failed_at (one.tries s).disks u ≡ true = subst (λ (x : Config). failed_at x.disks u ≡ true) (low s early) failed in
        elim (cases_lt c.serial t) [
          | inl more ↦
              let between : failed_at c.disks u ≡ true = (one.tried s above early).fewer u was in
              subst (λ (x : Config). failed_at x.disks u ≡ true) (sym (high t more)) ((two.tried t more within).is.grown.disks.stays u between)
          | inr less ↦ subst (λ (x : Config). failed_at x.disks u ≡ true) (sym (low t less)) (one.chain s t above le less u was)
        ]
  ]

  one_wide : (u s : ℕ) (x : Config) → IsOne a c.serial one.tries u s x → IsOne a d.serial tries u s x
  one_wide u s x is = record { above = is.above; within = omega (arith, is.within, two.serial); is = is.is ∙ sym (low s is.within); holds = is.holds }

  two_wide : (u s : ℕ) (x : Config) → IsOne c d.serial two.tries u s x → IsOne a d.serial tries u s x
  two_wide u s x is = record { above = omega (arith, is.above, one.serial); within = is.within; is = is.is ∙ sym (high s is.above); holds = is.holds }

  -- ---- one disk

  -- what the second part wrote
  second_new : (u : ℕ) (e : Disk) (from : FromNew (on_shelf mid) (IsOne c d.serial two.tries u) (mid.leaves u) e) → (f : FromNew (on_shelf old) (IsOne a d.serial tries u) (old.leaves u) e) × (f.serial ≡ from.serial)
  second_new u e from = (
    record {
      serial = from.serial;
      config = from.config;
      area = from.area;
      made = two_wide u from.serial from.config from.made;
      first = from.first;
      there = labels u from.first from.there;
      label = from.label;
      copy = subst (λ (r : ℕ → List ℕ → Option Config). copy_of r e ≡ Some (record { serial = from.serial; area = from.area; body = Holds from.config })) (sym same) from.copy;
    },
    refl,
  )

  -- ---- disks that are ready in between

  older : Below a old → (u : ℕ) → HeldGood a old u → Older (on_shelf old) (a.serial + 1) (old.leaves u)
  older below u held = lower_older (on_shelf old) (a.serial + 1) (old.leaves u) (below.each u held.below)

  counts_mid : Below a old → (u : ℕ) → HeldGood c mid u → Counts (on_shelf old) (old.leaves u) → Counts (on_shelf mid) (mid.leaves u)
  counts_mid below u held counts = elim (remain.each u held) [
    | inl is ↦ subst (λ (r : ℕ → List ℕ → Option Config). Counts r (mid.leaves u)) same (counts_sub (on_shelf old) (old.leaves u) (mid.leaves u) is.each counts)
    | inr later ↦ (later.tidy below).fit.counts
  ]

  ready_mid : ReadyDisks a old → ReadyDisks c mid
  ready_mid ready = record { below = one.below ready.below; counts = λ u held. counts_mid ready.below u held (ready.counts u (held_first u held)) }

  torn_mid : Below a old → (u : ℕ) (e : Disk) → HeldGood c mid u → Torn (on_shelf mid) (mid.leaves u) e → Torn (on_shelf old) (old.leaves u) e
  torn_mid below u e held torn = elim (remain.each u held) [
    | inl is ↦ torn_sub (on_shelf old) (old.leaves u) (mid.leaves u) is.each e (subst (λ (r : ℕ → List ℕ → Option Config). Torn r (mid.leaves u) e) (sym same) torn)
    | inr later ↦ absurd (no_torn (on_shelf mid) (c.serial + 1) (mid.leaves u) e (later.tidy below) torn)
  ]

  forged_mid : Below a old → (u : ℕ) (e : Disk) → HeldGood c mid u → Forged (mid.leaves u) e → Forged (old.leaves u) e
  forged_mid below u e held forged = elim (remain.each u held) [
    | inl is ↦ forged_sub (old.leaves u) (mid.leaves u) is.each e forged
    | inr later ↦ absurd (no_forged (on_shelf mid) (c.serial + 1) (mid.leaves u) e (later.tidy below) forged)
  ]

  -- what might have been left in between
  old_mid : Below a old → (u : ℕ) (e : Disk) → HeldGood c mid u → Counts (on_shelf old) (old.leaves u) → FromOld (on_shelf mid) (mid.leaves u) e → Becomes (IsOne a d.serial tries u) old u e
  old_mid below u e held counts there = by_remain (remain.each u held)
    where
      from : FromOld (on_shelf old) (mid.leaves u) e
      from = subst (λ (r : ℕ → List ℕ → Option Config). FromOld r (mid.leaves u) e) (sym same) there

      by_kind : LeavesLater a c.serial u old mid → Becomes (IsOne a c.serial one.tries u) old u from.disk → Becomes (IsOne a d.serial tries u) old u e
      by_kind later (inl was) =
          let x = later.newer below from.disk from.among in
          absurd (later_old (on_shelf old) (old.leaves u) a.serial from.disk x.0 (older below u (held_first u held)) x.1 x.2 was)
      by_kind later (inr (inl made)) =
          inr (inl (new_alike (on_shelf old) (old.leaves u) (IsOne a c.serial one.tries u) (IsOne a d.serial tries u) e from.disk (one_wide u) from.label from.copy made))
      by_kind later (inr (inr torn)) =
          let x = later.newer below from.disk from.among in
          absurd (later_torn (on_shelf old) (old.leaves u) a.serial from.disk x.0 (older below u (held_first u held)) x.1 x.2 torn)

      by_remain : LeavesSame u old mid ⊎ LeavesLater a c.serial u old mid → Becomes (IsOne a d.serial tries u) old u e
      by_remain (inl is) = inl (old_sub (on_shelf old) (old.leaves u) (mid.leaves u) is.each e from)
      by_remain (inr later) = by_kind later (one.leaves below u from.disk (held_first u held) counts from.among)

  -- a disk on which the second part may have written
  of_two : Below a old → (u : ℕ) (e : Disk) → HeldGood c mid u → Counts (on_shelf old) (old.leaves u) → Becomes (IsOne c d.serial two.tries u) mid u e → Becomes (IsOne a d.serial tries u) old u e
  of_two below u e held counts (inl from) = old_mid below u e held counts from
  of_two below u e held counts (inr (inl from)) = inr (inl (second_new u e from).0)
  of_two below u e held counts (inr (inr torn)) = inr (inr (torn_mid below u e held torn))

  widen : (u : ℕ) (e : Disk) → Becomes (IsOne a c.serial one.tries u) old u e → Becomes (IsOne a d.serial tries u) old u e
  widen u e (inl from) = inl from
  widen u e (inr (inl from)) = inr (inl (new_wider (on_shelf old) (IsOne a c.serial one.tries u) (IsOne a d.serial tries u) (old.leaves u) e (one_wide u) from))
  widen u e (inr (inr torn)) = inr (inr torn)

  -- one on which it did not
  of_one : Below a old → (u : ℕ) (e : Disk) → HeldGood a old u → Counts (on_shelf old) (old.leaves u) → Among (mid.leaves u) e → Becomes (IsOne a d.serial tries u) old u e
  of_one below u e held counts among = widen u e (one.leaves below u e held counts among)

  left_alone : (u b : ℕ) (v : List ℕ) → (HeldGood c mid u → ⊥) → mid.leaves u b v ⊎ AreasOf (HeldGood c mid) u b → mid.leaves u b v
  left_alone u b v out (inl was) = was
  left_alone u b v out (inr mine) = absurd (out mine.on)

  not_held : (u : ℕ) → failed_at c.disks u ≡ true → HeldGood c mid u → ⊥
  not_held u failed held = both_ways (failed_at c.disks u) held.good failed

  fit_two : Below a old → (u : ℕ) (e : Disk) → HeldGood c mid u → Tidy (on_shelf mid) (d.serial + 1) (exactly e) ⊎ Forged (mid.leaves u) e → Tidy (on_shelf old) (d.serial + 1) (exactly e) ⊎ Forged (old.leaves u) e
  fit_two below u e held (inl tidy) = inl (subst (λ (r : ℕ → List ℕ → Option Config). Tidy r (d.serial + 1) (exactly e)) (sym same) tidy)
  fit_two below u e held (inr forged) = inr (forged_mid below u e held forged)

  fit_later : (u : ℕ) (e : Disk) → Tidy (on_shelf old) (c.serial + 1) (exactly e) ⊎ Forged (old.leaves u) e → Tidy (on_shelf old) (d.serial + 1) (exactly e) ⊎ Forged (old.leaves u) e
  fit_later u e (inl tidy) = inl (tidy_more (on_shelf old) (c.serial + 1) (d.serial + 1) (exactly e) (omega (arith, two.serial)) tidy)
  fit_later u e (inr forged) = inr forged

  fit_one : Below a old → (u : ℕ) (e : Disk) → HeldGood a old u → Counts (on_shelf old) (old.leaves u) → Among (mid.leaves u) e → Tidy (on_shelf old) (d.serial + 1) (exactly e) ⊎ Forged (old.leaves u) e
  fit_one below u e held counts among = fit_later u e (one.fits below u e held counts among)

  -- ---- an image in the second part, and one from before it

  module _ (first : ReadyDisks a old) (i : Image) (beside : Beside (AreasOf (HeldGood c mid)) mid.leaves i) (seen : Stage good c d.serial two.tries mid i) (base : Image) (has : Each mid.leaves base) where
    -- the disk is this one, or has its label and copy, or a copy of the second part; or it is torn
    abbrev Under : ℕ → Disk → Type 0
    Under v e =
        (i v ≡ e)
        ⊎ (HeldGood c mid v
        × (((seen_in (i v 0) ≡ seen_in (e 0)) × (copy_of (on_shelf mid) (i v) ≡ copy_of (on_shelf mid) e))
        ⊎ FromNew (on_shelf mid) (IsOne c d.serial two.tries v) (mid.leaves v) (i v)
        ⊎ ((torn : Torn (on_shelf mid) (mid.leaves v) (i v)) × (torn.disk ≡ e))))

    abbrev Base : ℕ → Type 0
    Base v = (e : Disk) × Among (mid.leaves v) e × Under v e

    of_each : (v : ℕ) → HeldGood c mid v → Becomes (IsOne c d.serial two.tries v) mid v (i v) → Base v
    of_each v held (inl from) = (from.disk, from.among, inr (held, inl (from.label, from.copy)))
    of_each v held (inr (inl from)) = (base v, (λ b. has v b), inr (held, inr (inl from)))
    of_each v held (inr (inr torn)) = (torn.disk, torn.among, inr (held, inr (inr (torn, refl))))

    of_itself : (v : ℕ) → (HeldGood c mid v → ⊥) → Base v
    of_itself v out = (i v, (λ b. left_alone v b (i v b) out (beside v b)), inl refl)

    based : (v : ℕ) → Base v
    based v = elim (cases_lt v mid.units) [
      | inr above ↦ of_itself v (λ held. omega (arith, above, held.below))
      | inl lt ↦ elim (held_or c.disks v) [
        | inr failed ↦ of_itself v (not_held v failed)
        | inl good ↦ let held : HeldGood c mid v = record { below = lt; good = good } in of_each v held (seen.each (ready_mid first) v held)
      ]
    ]

    abbrev under : Image
    under v = (based v).0

    before : Stage good a c.serial one.tries old under
    before = one.now under (λ v b. (based v).1 b)

    -- a copy that was begun in the first part stands, or a later one
    carried : (v : ℕ) (e : Disk) → Among (mid.leaves v) e → Under v e → HeldGood a old v → (n : FromNew (on_shelf old) (IsOne a c.serial one.tries v) (old.leaves v) e)
        → (f : FromNew (on_shelf old) (IsOne a d.serial tries v) (old.leaves v) (i v)) × (n.serial ≤ f.serial)
    carried v e among (inl itself) mine n =
        (new_alike (on_shelf old) (old.leaves v) (IsOne a c.serial one.tries v) (IsOne a d.serial tries v) (i v) e (one_wide v) (ap (λ (x : Disk). seen_in (x 0)) itself) (ap (copy_of (on_shelf old)) itself) n, omega arith)
    carried v e among (inr (held, inl alike)) mine n = (
      new_alike (on_shelf old) (old.leaves v) (IsOne a c.serial one.tries v) (IsOne a d.serial tries v) (i v) e (one_wide v) alike.0
          (subst (λ (r : ℕ → List ℕ → Option Config). copy_of r (i v) ≡ copy_of r e) (sym same) alike.1) n,
      omega arith,
    )
    carried v e among (inr (held, inr (inl later))) mine n =
        let f = second_new v (i v) later in
        (f.0, omega (arith, n.made.within, later.made.above, f.1))
    carried v e among (inr (held, inr (inr (torn, is)))) mine n = elim (remain.each v held) [
      | inr later ↦ absurd (no_torn (on_shelf mid) (c.serial + 1) (mid.leaves v) (i v) (later.tidy first.below) torn)
      | inl still ↦
          let x : Copy Config = record { serial = n.serial; area = n.area; body = Holds n.config } in
          let less : x.serial < a.serial + 1 = (older first.below v mine).below e x (λ b. still.each b (e b) (among b)) n.copy in
          absurd (omega (arith, less, n.made.above))
    ]

    -- ---- a disk that is no member of the set

    abbrev Led : ℕ → Image → Type 0
    Led u j = FromOld (on_shelf old) (old.leaves u) (j u) ⊎ Behind good a c.serial one.tries old j u ⊎ Torn (on_shelf old) (old.leaves u) (j u)

    abbrev LedOn : ℕ → Type 0
    LedOn u = FromOld (on_shelf old) (old.leaves u) (i u) ⊎ Behind good a d.serial tries old i u ⊎ Torn (on_shelf old) (old.leaves u) (i u)

    behind_carried : (u : ℕ) (behind : Behind good a c.serial one.tries old under u) (f : FromNew (on_shelf old) (IsOne a d.serial tries u) (old.leaves u) (i u)) → f.serial ≤ behind.from.serial
        → Behind good a d.serial tries old i u
    behind_carried u behind f le =
        let lead = carried behind.leader (based behind.leader).0 (based behind.leader).1 (based behind.leader).2 behind.held behind.front in
        record { from = f; leader = behind.leader; held = behind.held; member = behind.member; front = lead.0; ahead = omega (arith, behind.ahead, lead.1, le) }

    led_itself : (u : ℕ) → i u ≡ under u → Led u under → LedOn u
    led_itself u itself (inl from) = inl (subst (FromOld (on_shelf old) (old.leaves u)) (sym itself) from)
    led_itself u itself (inr (inl behind)) =
        inr (inl (behind_carried u behind (new_alike (on_shelf old) (old.leaves u) (IsOne a c.serial one.tries u) (IsOne a d.serial tries u) (i u) (under u) (one_wide u)
        (ap (λ (x : Disk). seen_in (x 0)) itself) (ap (copy_of (on_shelf old)) itself) behind.from) (omega arith)))
    led_itself u itself (inr (inr torn)) = inr (inr (subst (Torn (on_shelf old) (old.leaves u)) (sym itself) torn))

    led_alike : (u : ℕ) → HeldGood a old u → LeavesLater a c.serial u old mid → seen_in (i u 0) ≡ seen_in (under u 0) → copy_of (on_shelf mid) (i u) ≡ copy_of (on_shelf mid) (under u) → Led u under → LedOn u
    led_alike u mine later label copy (inl from) =
        let x = later.newer first.below (based u).0 (based u).1 in
        absurd (later_old (on_shelf old) (old.leaves u) a.serial (based u).0 x.0 (older first.below u mine) x.1 x.2 from)
    led_alike u mine later label copy (inr (inl behind)) =
        inr (inl (behind_carried u behind (new_alike (on_shelf old) (old.leaves u) (IsOne a c.serial one.tries u) (IsOne a d.serial tries u) (i u) (under u) (one_wide u)
        label (subst (λ (r : ℕ → List ℕ → Option Config). copy_of r (i u) ≡ copy_of r (under u)) (sym same) copy) behind.from) (omega arith)))
    led_alike u mine later label copy (inr (inr torn)) =
        let x = later.newer first.below (based u).0 (based u).1 in
        absurd (later_torn (on_shelf old) (old.leaves u) a.serial (based u).0 x.0 (older first.below u mine) x.1 x.2 torn)

    led_old : (u : ℕ) → HeldGood a old u → HeldGood c mid u → FromOld (on_shelf mid) (mid.leaves u) (i u) → Under u (under u) → Led u under → LedOn u
    led_old u mine held from (inl itself) led = led_itself u itself led
    led_old u mine held from (inr (here, inr (inl new))) led =
        let less : Older (on_shelf mid) (c.serial + 1) (mid.leaves u) = lower_older (on_shelf mid) (c.serial + 1) (mid.leaves u) ((one.below first.below).each u held.below) in
        absurd (later_old (on_shelf mid) (mid.leaves u) c.serial (i u) (record { serial = new.serial; area = new.area; body = Holds new.config }) less new.copy new.made.above from)
    led_old u mine held from (inr (here, inr (inr (torn, is)))) led = inr (inr (torn_mid first.below u (i u) held torn))
    led_old u mine held from (inr (here, inl alike)) led = elim (remain.each u held) [
      | inl is ↦ inl (old_sub (on_shelf old) (old.leaves u) (mid.leaves u) is.each (i u) (subst (λ (r : ℕ → List ℕ → Option Config). FromOld r (mid.leaves u) (i u)) (sym same) from))
      | inr later ↦ led_alike u mine later alike.0 alike.1 led
    ]

    -- one on which the second part did not write
    led_out : (u : ℕ) → failed_at c.disks u ≡ true → Under u (under u) → Led u under → LedOn u
    led_out u failed (inl itself) led = led_itself u itself led
    led_out u failed (inr (here, other)) led = absurd (not_held u failed here)

    -- and one on which it may have written
    led_in : (u : ℕ) → HeldGood a old u → HeldGood c mid u → FromOld (on_shelf mid) (mid.leaves u) (i u) ⊎ Behind good c d.serial two.tries mid i u ⊎ Torn (on_shelf mid) (mid.leaves u) (i u) → Led u under → LedOn u
    led_in u mine held (inl from) led = led_old u mine held from (based u).2 led
    led_in u mine held (inr (inl behind)) led =
        let own = second_new u (i u) behind.from in
        let lead = second_new behind.leader (i behind.leader) behind.front in
        inr (inl (record { from = own.0; leader = behind.leader; held = held_first behind.leader behind.held; member = behind.member; front = lead.0; ahead = omega (arith, behind.ahead, own.1, lead.1) }))
    led_in u mine held (inr (inr torn)) led = inr (inr (torn_mid first.below u (i u) held torn))

    -- ---- of each disk

    held_mid : (u : ℕ) → HeldGood a old u → failed_at c.disks u ≡ false → HeldGood c mid u
    held_mid u held stays = record { below = omega (arith, held.below, one.moves.units); good = stays }

    each_both : (u : ℕ) → HeldGood a old u → Becomes (IsOne a d.serial tries u) old u (i u)
    each_both u held = elim (held_or c.disks u) [
      | inl stays ↦ of_two first.below u (i u) (held_mid u held stays) (first.counts u held) (seen.each (ready_mid first) u (held_mid u held stays))
      | inr failed ↦ of_one first.below u (i u) held (first.counts u held) (λ b. left_alone u b (i u b) (not_held u failed) (beside u b))
    ]

    fit_both : (u : ℕ) → HeldGood a old u → Tidy (on_shelf old) (d.serial + 1) (exactly (i u)) ⊎ Forged (old.leaves u) (i u)
    fit_both u held = elim (held_or c.disks u) [
      | inl stays ↦ fit_two first.below u (i u) (held_mid u held stays) (seen.fit (ready_mid first) u (held_mid u held stays))
      | inr failed ↦ fit_one first.below u (i u) held (first.counts u held) (λ b. left_alone u b (i u b) (not_held u failed) (beside u b))
    ]

    led_both : (u : ℕ) → HeldGood a old u → bit_at good u ≡ false → LedOn u
    led_both u held out = elim (held_or c.disks u) [
      | inl stays ↦ led_in u held (held_mid u held stays) (seen.led (ready_mid first) u (held_mid u held stays) out) (before.led first u held out)
      | inr failed ↦ led_out u failed (based u).2 (before.led first u held out)
    ]

  module _ (lawful : Lawful mid) where
    some_base : (i : Image) → Beside (AreasOf (HeldGood c mid)) mid.leaves i → (base : Image) × Each mid.leaves base
    some_base i beside = by_tells mid.tells refl
      where
        far : mid.leaves mid.units 0 (i mid.units 0)
        far = left_alone mid.units 0 (i mid.units 0) (λ held. omega (arith, held.below)) (beside mid.units 0)

        by_tells : (b : Bool) → mid.tells ≡ b → (base : Image) × Each mid.leaves base
        by_tells true tells = let some = lawful.image tells in (some.0, lawful.within some.0 some.1)
        by_tells false tells = absurd (lawful.none tells mid.units 0 (i mid.units 0) far)

    stage_both : (i : Image) → Beside (AreasOf (HeldGood c mid)) mid.leaves i → Stage good c d.serial two.tries mid i → Stage good a d.serial tries old i
    stage_both i beside seen =
        let some = some_base i beside in
        record { each = λ first u held. each_both first i beside seen some.0 some.1 u held; led = λ first u held out. led_both first i beside seen some.0 some.1 u held out; fit = λ first u held. fit_both first i beside seen some.0 some.1 u held }

    led_wide : (i : Image) (u : ℕ) → FromOld (on_shelf old) (old.leaves u) (i u) ⊎ Behind good a c.serial one.tries old i u ⊎ Torn (on_shelf old) (old.leaves u) (i u)
        → FromOld (on_shelf old) (old.leaves u) (i u) ⊎ Behind good a d.serial tries old i u ⊎ Torn (on_shelf old) (old.leaves u) (i u)
    led_wide i u (inl from) = inl from
    led_wide i u (inr (inl behind)) = inr (inl (record {
      from = new_wider (on_shelf old) (IsOne a c.serial one.tries u) (IsOne a d.serial tries u) (old.leaves u) (i u) (one_wide u) behind.from;
      leader = behind.leader;
      held = behind.held;
      member = behind.member;
      front = new_wider (on_shelf old) (IsOne a c.serial one.tries behind.leader) (IsOne a d.serial tries behind.leader) (old.leaves behind.leader) (i behind.leader) (one_wide behind.leader) behind.front;
      ahead = behind.ahead;
    }))
    led_wide i u (inr (inr torn)) = inr (inr torn)

    one_stage : (i : Image) → Stage good a c.serial one.tries old i → Stage good a d.serial tries old i
    one_stage i seen = record {
      fit = λ first u held. fit_later u (i u) (seen.fit first u held);
      each = λ first u held. widen u (i u) (seen.each first u held);
      led = λ first u held out. led_wide i u (seen.led first u held out);
    }

    pub both_underway : Underway good a d old new
    both_underway = record {
      serial = omega (arith, one.serial, two.serial);
      grown = grown_both old mid new one.moves.faults two.moves.faults a c d one.grown two.grown;
      tries = tries;
      tried = both_tried;
      chain = both_chain;
      moves = goes_on (AreasOf (HeldGood a old)) (AreasOf (HeldGood c mid)) (Stage good a d.serial tries old) (Stage good c d.serial two.tries mid) old mid new
          (wider (AreasOf (HeldGood a old)) (AreasOf (HeldGood a old)) (Stage good a c.serial one.tries old) (Stage good a d.serial tries old) old mid one.moves (λ u b mine. mine) (λ i beside seen. one_stage i seen))
          two.moves (λ u b mine. record { on = held_first u mine.on; first = mine.first; last = mine.last }) stage_both;
      below = λ below. two.below (one.below below);
      leaves = λ below u e held counts among. elim (held_or c.disks u) [
        | inl stays ↦
            let here : HeldGood c mid u = record { below = omega (arith, held.below, one.moves.units); good = stays } in
            of_two below u e here counts (two.leaves (one.below below) u e here (counts_mid below u here counts) among)
        | inr failed ↦ of_one below u e held counts (λ b. left_alone u b (e b) (not_held u failed) (two.moves.leaves u b (e b) (among b)))
      ];
      fits = λ below u e held counts among. elim (held_or c.disks u) [
        | inl stays ↦
            let here : HeldGood c mid u = record { below = omega (arith, held.below, one.moves.units); good = stays } in
            fit_two below u e here (two.fits (one.below below) u e here (counts_mid below u here counts) among)
        | inr failed ↦ fit_one below u e held counts (λ b. left_alone u b (e b) (not_held u failed) (two.moves.leaves u b (e b) (among b)))
      ];
      now = λ i left. stage_both i (λ u b. two.moves.leaves u b (i u b) (left u b)) (two.now i left);
    }

  pub both_stand : CopiesStand c d mid new → CopiesStand a d old new
  both_stand stands = record {
    each = λ below i left. subst (λ (n : ℕ). CopyWritten (on_shelf old) failed_in d.serial d n i) one.moves.units
        (subst (λ (r : ℕ → List ℕ → Option Config). CopyWritten r failed_in d.serial d mid.units i) (sym same) (stands.each (one.below below) i left));
  }

  pub both_tidy : AreTidy c d mid new → AreTidy a d old new
  both_tidy tidy = record { each = λ below u held. tidy.each (one.below below) u held }

  remain_both : (u : ℕ) → HeldGood c mid u → LeavesSame u old mid ⊎ LeavesLater a c.serial u old mid → LeavesSame u mid new ⊎ LeavesLater c d.serial u mid new → LeavesSame u old new ⊎ LeavesLater a d.serial u old new
  remain_both u held (inl was) (inl is) = inl (record { each = λ b v left. was.each b v (is.each b v left) })
  remain_both u held (inr was) (inl is) = inr (record {
    tidy = λ below. tidy_more (on_shelf new) (c.serial + 1) (d.serial + 1) (new.leaves u) (omega (arith, two.serial))
        (subst (λ (r : ℕ → List ℕ → Option Config). Tidy r (c.serial + 1) (new.leaves u)) (shelf_same mid new two.moves.units two.moves.size)
        (tidy_sub (on_shelf mid) (mid.leaves u) (new.leaves u) is.each (c.serial + 1) (was.tidy below)));
    newer = λ below e among. was.newer below e (λ b. is.each b (e b) (among b));
  })
  remain_both u held was (inr is) = inr (record {
    tidy = λ below. is.tidy (one.below below);
    newer = λ below e among.
        let x = is.newer (one.below below) e among in
        (x.0, subst (λ (r : ℕ → List ℕ → Option Config). copy_of r e ≡ Some x.0) (sym same) x.1, omega (arith, x.2, one.serial));
  })

  pub both_remain : Remain c d mid new → Remain a d old new
  both_remain next = record {
    each = λ u held.
        let here : HeldGood c mid u = record { below = omega (arith, held.below, two.moves.units); good = kept_good two.grown u held.good } in
        remain_both u here (remain.each u here) (next.each u held);
  }

pub stays_large : (old new : Meaning) → new.units ≡ old.units → ((u : ℕ) → new.size u ≡ old.size u) → AreLarge old → AreLarge new
stays_large old new units size large = record { each = λ u lt. omega (arith, size u, large.each u (omega (arith, lt, units))) }

-- ---- the disk that a refusal names

-- the count of the disk rose, or none was tried
abbrev pub Blamed : ℕ → Config → Config → Meaning → Meaning → ℕ → Type 0
Blamed good a c old new disk = Rose (old.disk_faults disk) (new.disk_faults disk) ⊎ ((c ≡ a) × (disk ≡ lowest_member good))

pub is_blamed : (good : ℕ) (a c : Config) (old new : Meaning) (disk : ℕ) → a.serial < greatest → NoneGood c.disks (length c.disks) good ⊎ (greatest ≤ c.serial) → Blamed good a c old new disk → IsBlamed good a old new disk
is_blamed good a c old new disk more ends (inl rose) = inl rose
is_blamed good a c old new disk more (inl none) (inr first) = inr (subst (λ (x : Config). NoneGood x.disks (length x.disks) good) first.0 none, first.1)
is_blamed good a c old new disk more (inr most) (inr first) = let le : greatest ≤ a.serial = subst (λ (x : Config). greatest ≤ x.serial) first.0 most in absurd (omega (arith, le, more))

-- the device of a try is that of all of them
pub names_failed : (good : ℕ) (a c d : Config) (old mid new : Meaning) (device : ℕ) → Blamed good a c old mid device → d.disks ≡ c.disks → ((k : ℕ) → mid.disk_faults k ≤ new.disk_faults k) → NamesFailed a d old new device
names_failed good a c d old mid new device (inl rose) same more = inr (Rose_after (old.disk_faults device) (mid.disk_faults device) (new.disk_faults device) rose (more device))
names_failed good a c d old mid new device (inr first) same more = inl (same ∙ ap (λ (x : Config). x.disks) first.0)
