-- Calls that are made one after another.
use Rattle.std.proofs.Common.{◌≡◌, ℕ, ◌+◌, ◌-◌, ◌≤◌, ◌<◌, Option, Some, None, Result, Ok, Err, OnOk, Bool, true, false, IsTrue, IsFalse, refl, sym, ◌∙◌, ap, subst, arith}
use Rattle.std.proofs.lemmas.Option.{none-some, same_Some}
use Rattle.vx_disk.specs.declared.shelf.ShelfError.{ShelfError}
use Rattle.vx_disk.specs.Causes.{Calls, OnDisks, WithDisks}
use Rattle.vx_disk.specs.Disks.{Burns, Disks}
use Rattle.vx_disk.specs.Shelf.{Meaning}
use Rattle.vx_disk.specs.Burns.{FallsShort, FewerLeft, IsShort, MakesCalls, RackIsShort}

one_fewer : (old new : Option (ℕ × ℕ)) → Burns old new → FewerLeft 1 old new
one_fewer None new burns = burns
one_fewer (Some f) new burns = (burns.0, burns.1)

one_on : {T : Type 0} → (m : Meaning) (step : Disks → Disks → Type 0) (x : T) (old new : Option Disks) → OnDisks old new (λ o n. Calls {T = T} m step o n (Ok x))
    → WithDisks old new (λ o n. FewerLeft 1 o.fuse n.fuse)
one_on m step x None None on = tt
one_on m step x None (Some new) on = absurd on
one_on m step x (Some old) None on = absurd on
one_on m step x (Some old) (Some new) on = one_fewer old.fuse new.fuse on.0.1

-- a write or a flush
pub one_call : {T : Type 0} → (m m' : Meaning) (step : Disks → Disks → Type 0) (r : Result T ShelfError) → OnDisks m.disks m'.disks (λ o n. Calls m step o n r) → OnOk r (MakesCalls 1 m m')
one_call m m' step (Ok x) on = record { fuses = one_on m step x m.disks m'.disks on }
one_call m m' step (Err error) on = tt

-- none
none_fewer : (fuse : Option (ℕ × ℕ)) → FewerLeft 0 fuse fuse
none_fewer None = refl
none_fewer (Some f) = let same : f.0 ≡ f.0 - 0 = omega arith in (omega arith, ap (λ (n : ℕ). Some (n, f.1)) same)

none_on : (d : Option Disks) → WithDisks d d (λ o n. FewerLeft 0 o.fuse n.fuse)
none_on None = tt
none_on (Some d) = none_fewer d.fuse

pub no_calls : (m : Meaning) (n : ℕ) → n ≡ 0 → MakesCalls n m m
no_calls m n none = subst (λ (k : ℕ). MakesCalls k m m) (sym none) (record { fuses = none_on m.disks })

-- two after each other
fewer_by : (j k : ℕ) (old mid new : ℕ × ℕ) → j ≤ old.0 → mid ≡ (old.0 - j, old.1) → k ≤ mid.0 → new ≡ (mid.0 - k, mid.1) → (j + k ≤ old.0) × (new ≡ (old.0 - (j + k), old.1))
fewer_by j k old mid new le is le' is' =
    let left : mid.0 ≡ old.0 - j = ap (λ (f : ℕ × ℕ). f.0) is in
    let rest : mid.0 - k ≡ old.0 - (j + k) = omega (arith, left) in
    let pick : mid.1 ≡ old.1 = ap (λ (f : ℕ × ℕ). f.1) is in
    (omega (arith, le, left, le'), is' ∙ (λ i. (rest i, pick i)))

both_fewer : (j k : ℕ) (old mid new : Option (ℕ × ℕ)) → FewerLeft j old mid → FewerLeft k mid new → FewerLeft (j + k) old new
both_fewer j k None None new one two = two
both_fewer j k None (Some f) new one two = absurd (none-some f (sym one))
both_fewer j k (Some f) None new one two = absurd (none-some (f.0 - j, f.1) one.1)
both_fewer j k (Some f) (Some g) None one two = absurd (none-some (g.0 - k, g.1) two.1)
both_fewer j k (Some f) (Some g) (Some h) one two =
    let all : _ = fewer_by j k f g h one.0 (same_Some {A = ℕ × ℕ} g (f.0 - j, f.1) one.1) two.0 (same_Some {A = ℕ × ℕ} h (g.0 - k, g.1) two.1) in
    (all.0, ap (λ (x : ℕ × ℕ). Some x) all.1)

both_on : (j k : ℕ) (old mid new : Option Disks) → WithDisks old mid (λ o n. FewerLeft j o.fuse n.fuse) → WithDisks mid new (λ o n. FewerLeft k o.fuse n.fuse)
    → WithDisks old new (λ o n. FewerLeft (j + k) o.fuse n.fuse)
both_on j k None None None one two = tt
both_on j k None None (Some new) one two = absurd two
both_on j k None (Some mid) new one two = absurd one
both_on j k (Some old) None new one two = absurd one
both_on j k (Some old) (Some mid) None one two = absurd two
both_on j k (Some old) (Some mid) (Some new) one two = both_fewer j k old.fuse mid.fuse new.fuse one two

pub then_calls : (j k : ℕ) (old mid new : Meaning) → MakesCalls j old mid → MakesCalls k mid new → MakesCalls (j + k) old new
then_calls j k old mid new one two = record { fuses = both_on j k old.disks mid.disks new.disks one.fuses two.fuses }

-- ---- a shelf that falls

both_ways : (b : Bool) → IsFalse b → IsTrue b → ⊥
both_ways b up down = cc

-- none
pub no_fall : (n : ℕ) (m : Meaning) → FallsShort n m m
no_fall n m = record { left = λ up down. absurd (both_ways m.down up down) }

-- of more calls
more_fuse : (j n : ℕ) → j ≤ n → (fuse : Option (ℕ × ℕ)) → IsShort j fuse → IsShort n fuse
more_fuse j n le None short = absurd short
more_fuse j n le (Some f) short = omega (arith, le, short)

more_rack : (j n : ℕ) → j ≤ n → (disks : Option Disks) → RackIsShort j disks → RackIsShort n disks
more_rack j n le None short = tt
more_rack j n le (Some d) short = more_fuse j n le d.fuse short

pub sooner_short : (j n : ℕ) → j ≤ n → (old new : Meaning) → FallsShort j old new → FallsShort n old new
sooner_short j n le old new falls = record { left = λ up down. more_rack j n le old.disks (falls.left up down) }

-- two after each other
then_fuse : (j k : ℕ) (old mid : Option (ℕ × ℕ)) → FewerLeft j old mid → IsShort k mid → IsShort (j + k) old
then_fuse j k None None fewer short = absurd short
then_fuse j k None (Some g) fewer short = absurd (none-some g (sym fewer))
then_fuse j k (Some f) None fewer short = absurd short
then_fuse j k (Some f) (Some g) fewer short =
    let left : g.0 ≡ f.0 - j = ap (λ (x : ℕ × ℕ). x.0) (same_Some {A = ℕ × ℕ} g (f.0 - j, f.1) fewer.1) in
    omega (arith, fewer.0, left, short)

then_rack : (j k : ℕ) (old mid : Option Disks) → WithDisks old mid (λ o n. FewerLeft j o.fuse n.fuse) → RackIsShort k mid → RackIsShort (j + k) old
then_rack j k None mid fewer short = tt
then_rack j k (Some old) None fewer short = absurd fewer
then_rack j k (Some old) (Some mid) fewer short = then_fuse j k old.fuse mid.fuse fewer short

then_left : (j k : ℕ) (old mid new : Meaning) (b : Bool) → mid.down ≡ b → FallsShort j old mid → MakesCalls j old mid → FallsShort k mid new → IsFalse old.down → IsTrue new.down → RackIsShort (j + k) old.disks
then_left j k old mid new true is first made second up down = more_rack j (j + k) (omega arith) old.disks (first.left up is)
then_left j k old mid new false is first made second up down = then_rack j k old.disks mid.disks made.fuses (second.left is down)

pub then_short : (j k : ℕ) (old mid new : Meaning) → FallsShort j old mid → MakesCalls j old mid → FallsShort k mid new → FallsShort (j + k) old new
then_short j k old mid new first made second = record { left = then_left j k old mid new mid.down refl first made second }

-- what it says of a rack with a fuse
pub left_fewer : (n : ℕ) (old new : Meaning) → FallsShort n old new → IsFalse old.down → IsTrue new.down
    → (d : Disks) → old.disks ≡ Some d → (calls pick : ℕ) → d.fuse ≡ Some (calls, pick) → calls < n
left_fewer n old new falls up down d is calls pick set =
    let short : RackIsShort n (Some d) = subst (λ (x : Option Disks). RackIsShort n x) is (falls.left up down) in
    subst (λ (f : Option (ℕ × ℕ)). IsShort n f) set short
