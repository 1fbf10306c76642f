-- What calls make of the disks of a rack, one after another.
use Rattle.std.proofs.Common.{◌≡◌, ◌⊎◌, inl, inr, ℕ, ◌+◌, ◌-◌, ◌≤◌, Bool, List, Option, Some, None, Result, Ok, Err, OnOk, IsTrue, refl, sym, ◌∙◌, ap, subst, arith}
use Rattle.std.proofs.lemmas.Option.{none-some, same_Some}
use Rattle.vx_disk.specs.declared.shelf.ShelfError.{ShelfError}
use Rattle.vx_disk.specs.declared.shelf.ShelfError.TheVariants.{Fault, Down}
use Rattle.vx_disk.specs.Burns.{FewerLeft, MakesCalls}
use Rattle.vx_disk.specs.Causes.{Calls, Cause, OnDisks, WithDisks, Works}
use Rattle.vx_disk.specs.Disks.{Burns, Disks, RanOut, SameBlocks, Untouched}
use Rattle.vx_disk.specs.Shelf.{DisksFlushed, DisksWrote, Goes, Meaning, Nothing, Values, Written}
use Rattle.vx_disk.specs.Spends.{Loses, MakesAtLeast, Passed, Spends, Spent}

-- ---- fuses

pub loses_none : (f : Option (ℕ × ℕ)) → Loses 0 f f
loses_none None = refl
loses_none (Some f) = (f.0, omega arith, refl)

loses_same : (n : ℕ) (old new new' : Option (ℕ × ℕ)) → new' ≡ new → Loses n old new → Loses n old new'
loses_same n old new new' same loses = subst (λ (f : Option (ℕ × ℕ)). Loses n old f) (sym same) loses

loses_burnt : (old new : Option (ℕ × ℕ)) → Burns old new → Loses 1 old new
loses_burnt None new burns = burns
loses_burnt (Some f) new burns = (f.0 - 1, omega (arith, burns.0), burns.1)

pub loses_fewer : (j n : ℕ) → j ≤ n → (old new : Option (ℕ × ℕ)) → Loses n old new → Loses j old new
loses_fewer j n le None new loses = loses
loses_fewer j n le (Some f) new loses = (loses.0, omega (arith, le, loses.1), loses.2)

pub loses_both : (j k : ℕ) (old mid new : Option (ℕ × ℕ)) → Loses j old mid → Loses k mid new → Loses (j + k) old new
loses_both j k None None new one two = two
loses_both j k None (Some g) new one two = absurd (none-some g (sym one))
loses_both j k (Some f) None new one two = absurd (none-some (one.0, f.1) one.2)
loses_both j k (Some f) (Some g) new one two =
    let is : g ≡ (one.0, f.1) = same_Some {A = ℕ × ℕ} g (one.0, f.1) one.2 in
    let calls : g.0 ≡ one.0 = ap (λ (x : ℕ × ℕ). x.0) is in
    let pick : g.1 ≡ f.1 = ap (λ (x : ℕ × ℕ). x.1) is in
    (two.0, omega (arith, one.1, two.1, calls), two.2 ∙ ap (λ (p : ℕ). Some (two.0, p)) pick)

-- where a fuse is behind both as it was before, it was so between them
between : (x y z : Option (ℕ × ℕ)) (f : ℕ × ℕ) → Loses 0 x y → Loses 0 y z → x ≡ Some f → z ≡ Some f → y ≡ Some f
between None y z f one two first last = absurd (none-some f first)
between (Some g) None z f one two first last = absurd (none-some (one.0, g.1) one.2)
between (Some g) (Some h) z f one two first last =
    let same : g ≡ f = same_Some {A = ℕ × ℕ} g f first in
    let is : h ≡ (one.0, g.1) = same_Some {A = ℕ × ℕ} h (one.0, g.1) one.2 in
    let end : (two.0, h.1) ≡ f = same_Some {A = ℕ × ℕ} (two.0, h.1) f (sym two.2 ∙ last) in
    let calls : h.0 ≡ one.0 = ap (λ (p : ℕ × ℕ). p.0) is in
    let ends : two.0 ≡ f.0 = ap (λ (p : ℕ × ℕ). p.0) end in
    let begins : g.0 ≡ f.0 = ap (λ (p : ℕ × ℕ). p.0) same in
    let left : h.0 ≡ f.0 = omega (arith, one.1, two.1, calls, ends, begins) in
    let pick : h.1 ≡ f.1 = ap (λ (p : ℕ × ℕ). p.1) end in
    ap (λ (p : ℕ × ℕ). Some p) (λ i. (left i, pick i))

never_less : (old new : Option (ℕ × ℕ)) (f : ℕ × ℕ) → Burns old new → old ≡ Some f → new ≡ Some f → ⊥
never_less None new f burns first last = none-some f first
never_less (Some g) new f burns first last =
    let same : g ≡ f = same_Some {A = ℕ × ℕ} g f first in
    let end : (g.0 - 1, g.1) ≡ f = same_Some {A = ℕ × ℕ} (g.0 - 1, g.1) f (sym burns.1 ∙ last) in
    let begins : g.0 ≡ f.0 = ap (λ (p : ℕ × ℕ). p.0) same in
    let ends : g.0 - 1 ≡ f.0 = ap (λ (p : ℕ × ℕ). p.0) end in
    omega (arith, burns.0, begins, ends)

-- ---- disks

same_none : (d : Disks) → SameBlocks d d
same_none d = record { stable = λ u b. refl; latest = λ u b. refl; loose = λ u b. refl }

same_both : (x y z : Disks) → SameBlocks x y → SameBlocks y z → SameBlocks x z
same_both x y z one two = record { stable = λ u b. two.stable u b ∙ one.stable u b; latest = λ u b. two.latest u b ∙ one.latest u b; loose = λ u b. two.loose u b ∙ one.loose u b }

untouched_both : (x y z : Disks) → Untouched x y → Untouched y z → Untouched x z
untouched_both x y z one two = record { blocks = same_both x y z one.blocks two.blocks; fuse = two.fuse ∙ one.fuse }

passed_untouched : (x y : Disks) → Untouched x y → Passed x y
passed_untouched x y same = record { fuse = loses_same 0 x.fuse x.fuse y.fuse same.fuse (loses_none x.fuse); still = λ f first last. same.blocks }

passed_burnt : (x y : Disks) → Burns x.fuse y.fuse → Passed x y
passed_burnt x y burns = record { fuse = loses_fewer 0 1 (omega arith) x.fuse y.fuse (loses_burnt x.fuse y.fuse burns); still = λ f first last. absurd (never_less x.fuse y.fuse f burns first last) }

passed_both : (x y z : Disks) → Passed x y → Passed y z → Passed x z
passed_both x y z one two = record {
  fuse = loses_both 0 0 x.fuse y.fuse z.fuse one.fuse two.fuse;
  still = λ f first last.
      let middle : y.fuse ≡ Some f = between x.fuse y.fuse z.fuse f one.fuse two.fuse first last in
      same_both x y z (one.still f first middle) (two.still f middle last);
}

out_untouched : (size : ℕ → ℕ) (x y z : Disks) → RanOut size x y → Untouched y z → RanOut size x z
out_untouched size x y z ran same = record {
  pick = ran.pick;
  out = ran.out;
  crash = record {
    stable = λ u b. same.blocks.stable u b ∙ ran.crash.stable u b;
    latest = λ u b. same.blocks.latest u b ∙ ran.crash.latest u b;
    loose = λ u b. same.blocks.loose u b ∙ ran.crash.loose u b;
    fuse = same.fuse ∙ ran.crash.fuse;
  };
}

out_sized : (size size' : ℕ → ℕ) (x y : Disks) → ((u : ℕ) → size' u ≡ size u) → RanOut size' x y → RanOut size x y
out_sized size size' x y sizes ran =
    let same : size' ≡ size = λ i u. sizes u i in
    subst (λ (s : ℕ → ℕ). RanOut s x y) same ran

pub spent_both : (size size' : ℕ → ℕ) → ((u : ℕ) → size' u ≡ size u) → (a b c : Bool) → (IsTrue a → IsTrue b) → (IsTrue b → IsTrue c) → (x y z : Disks)
    → Spent size a b x y → Spent size' b c y z → Spent size a c x z
spent_both size size' sizes a b c falls stays x y z one two = record {
  failing = λ u. two.failing u ∙ one.failing u;
  burnt = elim one.burnt [
    | inl passed ↦ elim two.burnt [
      | inl again ↦ inl (passed_both x y z passed.0 again.0, λ down. passed.1 (again.1 down))
      | inr out ↦ inr (
        record { middle = out.0.middle; passed = passed_both x y out.0.middle passed.0 out.0.passed; out = out_sized size size' out.0.middle z sizes out.0.out },
        out.1,
      )
    ]
    | inr out ↦ inr (
      record { middle = out.0.middle; passed = out.0.passed; out = out_untouched size out.0.middle y z out.0.out (two.rests out.1 out.0.out.crash.fuse) },
      stays out.1,
    )
  ];
  rests = λ down none.
      let first : Untouched x y = one.rests down none in
      untouched_both x y z first (two.rests (falls down) (first.fuse ∙ none));
}

spent_untouched : (size : ℕ → ℕ) (a b : Bool) (x y : Disks) → b ≡ a → Untouched x y → ((u : ℕ) → y.failing u ≡ x.failing u) → Spent size a b x y
spent_untouched size a b x y same untouched failing = record {
  failing = failing;
  burnt = inl (passed_untouched x y untouched, λ down. subst (λ (t : Bool). IsTrue t) same down);
  rests = λ down none. untouched;
}

-- ---- a write or a flush

spent_passed : (m m' : Meaning) (x y : Disks) → (IsTrue m.down → ⊥) → (IsTrue m'.down → ⊥) → Burns x.fuse y.fuse → ((u : ℕ) → y.failing u ≡ x.failing u) → Spent m.size m.down m'.down x y
spent_passed m m' x y up up' burns failing = record {
  failing = failing;
  burnt = inl (passed_burnt x y burns, λ down. absurd (up' down));
  rests = λ down none. absurd (up down);
}

spent_down : (m m' : Meaning) (x y : Disks) → IsTrue m'.down → (IsTrue m.down × Untouched x y) ⊎ RanOut m.size x y → ((u : ℕ) → y.failing u ≡ x.failing u) → Spent m.size m.down m'.down x y
spent_down m m' x y down (inl was) failing = record { failing = failing; burnt = inl (passed_untouched x y was.1, λ now. was.0); rests = λ before none. was.1 }
spent_down m m' x y down (inr out) failing = record {
  failing = failing;
  burnt = inr (record { middle = x; passed = passed_untouched x x (record { blocks = same_none x; fuse = refl }); out = out }, down);
  rests = λ before none. absurd (none-some (0, out.pick) (sym none ∙ out.out));
}

spent_call : {T : Type 0} → (m m' : Meaning) (unit : ℕ) (step : Disks → Disks → Type 0) (r : Result T ShelfError) (x y : Disks) → Cause m m' unit r → Calls m step x y r → ((u : ℕ) → y.failing u ≡ x.failing u)
    → Spent m.size m.down m'.down x y
spent_call m m' unit step (Ok done) x y cause calls failing = spent_passed m m' x y cause.before cause.after calls.1 failing
spent_call m m' unit step (Err (Fault disk)) x y cause calls failing = spent_passed m m' x y cause.1.before cause.1.after calls failing
spent_call m m' unit step (Err Down) x y cause calls failing = spent_down m m' x y cause calls failing

told_call : {T : Type 0} → (m m' : Meaning) (unit : ℕ) (step : Disks → Disks → Type 0) (r : Result T ShelfError) (old new : Option Disks) → Cause m m' unit r
    → OnDisks old new (λ o n. Calls m step o n r) → WithDisks old new (Spent m.size m.down m'.down)
told_call m m' unit step r None None cause on = tt
told_call m m' unit step r None (Some y) cause on = absurd on
told_call m m' unit step r (Some x) None cause on = absurd on
told_call m m' unit step r (Some x) (Some y) cause on = spent_call m m' unit step r x y cause on.0 on.1

spends_call : {T : Type 0} → (m m' : Meaning) (written : Values) (unit : ℕ) (step : Disks → Disks → Type 0) (r : Result T ShelfError) → Goes written m m' → Cause m m' unit r
    → OnDisks m.disks m'.disks (λ o n. Calls m step o n r) → Spends m m'
spends_call m m' written unit step r goes cause on = record { size = goes.size; falls = goes.falls; told = told_call m m' unit step r m.disks m'.disks cause on }

pub spends_write : {T : Type 0} → (m m' : Meaning) (unit block : ℕ) (bytes : List ℕ) (r : Result T ShelfError) → Goes (Written unit block bytes) m m' → Cause m m' unit r
    → OnDisks m.disks m'.disks (λ o n. Calls m (DisksWrote unit block bytes) o n r) → Spends m m'
spends_write m m' unit block bytes r goes cause on = spends_call m m' (Written unit block bytes) unit (DisksWrote unit block bytes) r goes cause on

pub spends_flush : {T : Type 0} → (m m' : Meaning) (unit : ℕ) (r : Result T ShelfError) → Goes Nothing m m' → Cause m m' unit r → OnDisks m.disks m'.disks (λ o n. Calls m (DisksFlushed unit) o n r) → Spends m m'
spends_flush m m' unit r goes cause on = spends_call m m' Nothing unit (DisksFlushed unit) r goes cause on

-- ---- a read

told_read : (size : ℕ → ℕ) (a b : Bool) (old new : Option Disks) → b ≡ a → OnDisks old new Untouched → WithDisks old new (Spent size a b)
told_read size a b None None same on = tt
told_read size a b None (Some y) same on = absurd on
told_read size a b (Some x) None same on = absurd on
told_read size a b (Some x) (Some y) same on = spent_untouched size a b x y same on.0 on.1

pub spends_read : (m m' : Meaning) → Goes Nothing m m' → m'.down ≡ m.down → OnDisks m.disks m'.disks Untouched → Spends m m'
spends_read m m' goes down on = record {
  size = goes.size;
  falls = λ was. subst (λ (t : Bool). IsTrue t) (sym down) was;
  told = told_read m.size m.down m'.down m.disks m'.disks down on;
}

-- ---- none, and two after each other

told_none : (size : ℕ → ℕ) (a : Bool) (d : Option Disks) → WithDisks d d (Spent size a a)
told_none size a None = tt
told_none size a (Some d) = spent_untouched size a a d d refl (record { blocks = same_none d; fuse = refl }) (λ u. refl)

pub spends_none : (m : Meaning) → Spends m m
spends_none m = record { size = λ u. refl; falls = λ down. down; told = told_none m.size m.down m.disks }

told_both : (size size' : ℕ → ℕ) → ((u : ℕ) → size' u ≡ size u) → (a b c : Bool) → (IsTrue a → IsTrue b) → (IsTrue b → IsTrue c) → (x y z : Option Disks)
    → WithDisks x y (Spent size a b) → WithDisks y z (Spent size' b c) → WithDisks x z (Spent size a c)
told_both size size' sizes a b c falls stays None None None one two = tt
told_both size size' sizes a b c falls stays None None (Some z) one two = absurd two
told_both size size' sizes a b c falls stays None (Some y) z one two = absurd one
told_both size size' sizes a b c falls stays (Some x) None z one two = absurd one
told_both size size' sizes a b c falls stays (Some x) (Some y) None one two = absurd two
told_both size size' sizes a b c falls stays (Some x) (Some y) (Some z) one two = spent_both size size' sizes a b c falls stays x y z one two

pub then_spends : (old mid new : Meaning) → Spends old mid → Spends mid new → Spends old new
then_spends old mid new one two = record {
  size = λ u. two.size u ∙ one.size u;
  falls = λ down. two.falls (one.falls down);
  told = told_both old.size mid.size one.size old.down mid.down new.down one.falls two.falls old.disks mid.disks new.disks one.told two.told;
}

-- ---- so many calls or more

loses_exact : (n : ℕ) (old new : Option (ℕ × ℕ)) → FewerLeft n old new → Loses n old new
loses_exact n None new fewer = fewer
loses_exact n (Some f) new fewer = (f.0 - n, omega (arith, fewer.0), fewer.1)

least_on : (n : ℕ) (old new : Option Disks) → WithDisks old new (λ o d. FewerLeft n o.fuse d.fuse) → WithDisks old new (λ o d. Loses n o.fuse d.fuse)
least_on n None None on = tt
least_on n None (Some new) on = absurd on
least_on n (Some old) None on = absurd on
least_on n (Some old) (Some new) on = loses_exact n old.fuse new.fuse on

pub at_least : (n : ℕ) (old new : Meaning) → MakesCalls n old new → MakesAtLeast n old new
at_least n old new made = record { fuses = least_on n old.disks new.disks made.fuses }

fewer_on : (j n : ℕ) → j ≤ n → (old new : Option Disks) → WithDisks old new (λ o d. Loses n o.fuse d.fuse) → WithDisks old new (λ o d. Loses j o.fuse d.fuse)
fewer_on j n le None None on = tt
fewer_on j n le None (Some new) on = absurd on
fewer_on j n le (Some old) None on = absurd on
fewer_on j n le (Some old) (Some new) on = loses_fewer j n le old.fuse new.fuse on

pub at_least_fewer : (j n : ℕ) → j ≤ n → (old new : Meaning) → MakesAtLeast n old new → MakesAtLeast j old new
at_least_fewer j n le old new made = record { fuses = fewer_on j n le old.disks new.disks made.fuses }

both_on : (j k : ℕ) (x y z : Option Disks) → WithDisks x y (λ o d. Loses j o.fuse d.fuse) → WithDisks y z (λ o d. Loses k o.fuse d.fuse) → WithDisks x z (λ o d. Loses (j + k) o.fuse d.fuse)
both_on j k None None None one two = tt
both_on j k None None (Some z) one two = absurd two
both_on j k None (Some y) z one two = absurd one
both_on j k (Some x) None z one two = absurd one
both_on j k (Some x) (Some y) None one two = absurd two
both_on j k (Some x) (Some y) (Some z) one two = loses_both j k x.fuse y.fuse z.fuse one two

pub then_at_least : (j k : ℕ) (old mid new : Meaning) → MakesAtLeast j old mid → MakesAtLeast k mid new → MakesAtLeast (j + k) old new
then_at_least j k old mid new one two = record { fuses = both_on j k old.disks mid.disks new.disks one.fuses two.fuses }

-- ---- disks that are made to fail

told_works : (size : ℕ → ℕ) (a b : Bool) (x y : Option Disks) (u : ℕ) → WithDisks x y (Spent size a b) → Works y u → Works x u
told_works size a b None None u on works = tt
told_works size a b None (Some y) u on works = absurd on
told_works size a b (Some x) None u on works = absurd on
told_works size a b (Some x) (Some y) u on works = sym (on.failing u) ∙ works

-- a disk that works behind calls worked before them
pub works_since : (old mid : Meaning) (u : ℕ) → Spends old mid → Works mid.disks u → Works old.disks u
works_since old mid u spends works = told_works old.size old.down mid.down old.disks mid.disks u spends.told works

-- what is so is so at Ok
pub on_always : {T E : Type 0} {P : Type 0} → (r : Result T E) → P → OnOk r P
on_always (Ok x) p = p
on_always (Err e) p = tt
