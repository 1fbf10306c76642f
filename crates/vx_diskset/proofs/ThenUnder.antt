-- Headers on the disks of a site one after another: their calls in all, and what they leave of the fuse.
use Rattle.std.proofs.Common.{◌≡◌, ◌∙◌, ◌<◌, ℕ, zero, suc, ◌+◌, inl, inr, true, false, arith, sym, Bool, refl}
use Rattle.std.specs.Prelude.{Option, Some, None}
use Rattle.vx_model.specs.declared.no.No.{No}
use Rattle.vx_model.specs.declared.no.No.TheVariants.{Down as IsDown}
use Rattle.vx_disk.specs.Burns.{FallsShort, FewerLeft, MakesCalls, RackIsShort}
use Rattle.vx_disk.specs.Causes.{OnDisks, WithDisks, Works}
use Rattle.vx_disk.specs.Disks.{Disks}
use Rattle.vx_disk.specs.Shelf.{Meaning}
use Rattle.vx_disk.specs.declared.shelf.Shelf.{Ghosts}
use Rattle.vx_disk.proofs.Burning.{then_calls, then_short}
use Rattle.vx_disk.specs.Spends.{BurntOut, Passed, Spent}
use Rattle.vx_disk.proofs.Spending.{spent_both}
use Rattle.vx_events.specs.declared.said.Said.{Said}
use Rattle.vx_events.specs.declared.said.Said.TheVariants.{Done, DoneAt, Logged, Refused}
use Rattle.vx_diskset.specs.Asked.{HeadUnder, LeavesFuse, ShortBy, TakesBy, WorksBy, disks_told, size_in}
use Rattle.vx_diskset.specs.Burning.{Burnt, NoMore}
use Rattle.vx_diskset.specs.declared.disk_set.DiskSet.{DiskSet}

-- ---- so many calls

-- a shelf of which nothing is said but its disks, and whether it is down
abbrev shelf_of : Option Disks → Bool → Meaning
shelf_of disks down = record {
  units = 0;
  size = λ u. 0;
  tells = false;
  reads = λ u b x. ⊥;
  leaves = λ u b x. ⊥;
  now = λ i. ⊥;
  moment = 0;
  left_since = λ k i. ⊥;
  faults = λ u. 0;
  disk_faults = λ u. 0;
  down = down;
  armed = false;
  disks = disks;
}

fewer_then : (j k : ℕ) (a b c : Option Disks) → WithDisks a b (λ o n. FewerLeft j o.fuse n.fuse) → WithDisks b c (λ o n. FewerLeft k o.fuse n.fuse) → WithDisks a c (λ o n. FewerLeft (j + k) o.fuse n.fuse)
fewer_then j k a b c one two =
    let made : MakesCalls (j + k) (shelf_of a false) (shelf_of c false) =
    then_calls j k (shelf_of a false) (shelf_of b false) (shelf_of c false) (record { fuses = one }) (record { fuses = two }) in
    made.fuses

short_then : (j k : ℕ) (a b : Option Disks) → WithDisks a b (λ o n. FewerLeft j o.fuse n.fuse) → RackIsShort k b → RackIsShort (j + k) a
short_then j k a b one short =
    let first : FallsShort j (shelf_of a false) (shelf_of b false) = record { left = λ up down. absurd (let e : false ≡ true = down in cc) } in
    let falls : FallsShort (j + k) (shelf_of a false) (shelf_of b true) =
    then_short j k (shelf_of a false) (shelf_of b false) (shelf_of b true) first (record { fuses = one }) (record { left = λ up down. short }) in
    falls.left refl refl

-- ---- what they leave

spent_so : (size : ℕ → ℕ) (x y : Disks) → ((u : ℕ) → y.failing u ≡ x.failing u) → Passed x y → Spent size false false x y
spent_so size x y failing passed = record { failing = failing; burnt = inl (passed, λ down. down); rests = λ down none. absurd (let e : false ≡ true = down in cc) }

spent_out : (size : ℕ → ℕ) (x y : Disks) → ((u : ℕ) → y.failing u ≡ x.failing u) → BurntOut size x y → Spent size false true x y
spent_out size x y failing out = record { failing = failing; burnt = inr (out, refl); rests = λ down none. absurd (let e : false ≡ true = down in cc) }

passed_then : (x y z : Disks) → ((u : ℕ) → y.failing u ≡ x.failing u) → ((u : ℕ) → z.failing u ≡ y.failing u) → Passed x y → Passed y z → Passed x z
passed_then x y z same same_too one two =
    let none : ℕ → ℕ = λ u. 0 in
    let both : Spent none false false x z = spent_both none none (λ u. refl) false false false (λ down. down) (λ down. down) x y z (spent_so none x y same one) (spent_so none y z same_too two) in
    elim both.burnt [
      | inl passed ↦ passed.0
      | inr out ↦ absurd (let e : false ≡ true = out.1 in cc)
    ]

out_then : (size size' : ℕ → ℕ) → ((u : ℕ) → size' u ≡ size u) → (x y z : Disks) → ((u : ℕ) → y.failing u ≡ x.failing u) → ((u : ℕ) → z.failing u ≡ y.failing u) → Passed x y → BurntOut size' y z → BurntOut size x z
out_then size size' sizes x y z same same_too one two =
    let both : Spent size false true x z = spent_both size size' sizes false false true (λ down. down) (λ down. refl) x y z (spent_so size x y same one) (spent_out size' y z same_too two) in
    elim both.burnt [
      | inl passed ↦ absurd (let e : false ≡ true = passed.1 refl in cc)
      | inr out ↦ out.0
    ]

refused_then : (size size' : ℕ → ℕ) → ((u : ℕ) → size' u ≡ size u) → (why : No) (x y z : Disks) → ((u : ℕ) → y.failing u ≡ x.failing u) → ((u : ℕ) → z.failing u ≡ y.failing u) → Passed x y
    → Burnt NoMore (Refused why) size' y z → Burnt NoMore (Refused why) size x z
refused_then size size' sizes IsDown x y z same same_too one two = out_then size size' sizes x y z same same_too one two
refused_then size size' sizes other x y z same same_too one two = passed_then x y z same same_too one two

burnt_then : (size size' : ℕ → ℕ) → ((u : ℕ) → size' u ≡ size u) → (said : Said) (x y z : Disks) → ((u : ℕ) → y.failing u ≡ x.failing u) → ((u : ℕ) → z.failing u ≡ y.failing u) → Passed x y
    → Burnt NoMore said size' y z → Burnt NoMore said size x z
burnt_then size size' sizes (DoneAt number) x y z same same_too one two = (passed_then x y z same same_too one two.0, tt)
burnt_then size size' sizes (Logged number) x y z same same_too one two = (passed_then x y z same same_too one two.0, tt)
burnt_then size size' sizes (Refused why) x y z same same_too one two = refused_then size size' sizes why x y z same same_too one two
burnt_then size size' sizes other x y z same same_too one two = passed_then x y z same same_too one two

burnt_on : (size size' : ℕ → ℕ) → ((u : ℕ) → size' u ≡ size u) → (said : Said) (a b c : Option Disks) → OnDisks a b Passed → OnDisks b c (Burnt NoMore said size') → OnDisks a c (Burnt NoMore said size)
burnt_on size size' sizes said None None None one two = tt
burnt_on size size' sizes said None None (Some z) one two = absurd two
burnt_on size size' sizes said None (Some y) c one two = absurd one
burnt_on size size' sizes said (Some x) None c one two = absurd one
burnt_on size size' sizes said (Some x) (Some y) None one two = absurd two
burnt_on size size' sizes said (Some x) (Some y) (Some z) one two = (burnt_then size size' sizes said x y z one.1 two.1 one.0 two.0, λ u. two.1 u ∙ one.1 u)

-- ---- of a line that was answered so

takes_then : (j k : ℕ) (said : Said) (a b c : Option Disks) → WithDisks a b (λ o n. FewerLeft j o.fuse n.fuse) → TakesBy k said b c → TakesBy (j + k) said a c
takes_then j k (Refused why) a b c one two = tt
takes_then j k other a b c one two = fewer_then j k a b c one two

short_why : (j k : ℕ) (why : No) (a b : Option Disks) → WithDisks a b (λ o n. FewerLeft j o.fuse n.fuse) → ShortBy k (Refused why) b → ShortBy (j + k) (Refused why) a
short_why j k IsDown a b one two = short_then j k a b one two
short_why j k other a b one two = tt

short_said : (j k : ℕ) (said : Said) (a b : Option Disks) → WithDisks a b (λ o n. FewerLeft j o.fuse n.fuse) → ShortBy k said b → ShortBy (j + k) said a
short_said j k (Refused why) a b one two = short_why j k why a b one two
short_said j k other a b one two = tt

-- no disk was made to fail or work between
works_same : (P : Disks → Disks → Type 0) (a b : Option Disks) → OnDisks a b P → Works b 0 → Works a 0
works_same P None b on works = tt
works_same P (Some x) None on works = absurd on
works_same P (Some x) (Some y) on works = sym (on.1 0) ∙ works

works_both : (P : Disks → Disks → Type 0) (j k : ℕ) (a b : Option Disks) → OnDisks a b P → (0 < j → Works a 0) → (0 < k → Works b 0) → 0 < j + k → Works a 0
works_both P zero k a b on one two some = works_same P a b on (two (omega (arith, some)))
works_both P (suc j) k a b on one two some = one (omega arith)

works_then : (P : Disks → Disks → Type 0) (j k : ℕ) (said : Said) (a b : Option Disks) → OnDisks a b P → (0 < j → Works a 0) → WorksBy k said b → WorksBy (j + k) said a
works_then P j k (Refused why) a b on one two = tt
works_then P j k other a b on one two = works_both P j k a b on one two

module _ {R : Type 0} {g : Ghosts R} where
  -- calls that passed, and then others
  pub then_leaves : (said : Said) (a b c : DiskSet R g) → LeavesFuse NoMore Done a b → LeavesFuse NoMore said b c → LeavesFuse NoMore said a c
  then_leaves said a b c one two = record {
    told = burnt_on (size_in a) (size_in b) one.sizes said (disks_told a) (disks_told b) (disks_told c) one.told two.told;
    sizes = λ u. two.sizes u ∙ one.sizes u;
  }

  -- headers that are done, and then others
  pub then_under : (j k : ℕ) (said : Said) (a b c : DiskSet R g) → HeadUnder j Done a b → HeadUnder k said b c → HeadUnder (j + k) said a c
  then_under j k said a b c one two = record {
    burns = then_leaves said a b c one.burns two.burns;
    takes = takes_then j k said (disks_told a) (disks_told b) (disks_told c) one.takes two.takes;
    short = short_said j k said (disks_told a) (disks_told b) one.takes two.short;
    works = works_then Passed j k said (disks_told a) (disks_told b) one.burns.told one.works two.works;
  }
