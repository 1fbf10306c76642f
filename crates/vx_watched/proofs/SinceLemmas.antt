-- Calls on a shelf one after another: what they make of it and of its disks.
use Rattle.std.proofs.Common.{◌≡◌, ℕ, ◌-◌, Bool, true, false, Option, Some, None, Result, Ok, Err, IsTrue, IsFalse, refl, sym, ◌∙◌, ap, subst, arith}
use Rattle.std.proofs.lemmas.Option.{same_Some}
use Rattle.vx_disk.specs.declared.shelf.ShelfError.{ShelfError}
use Rattle.vx_disk.specs.declared.shelf.ShelfError.TheVariants.{Fault, Down}
use Rattle.vx_disk.specs.Causes.{Calls, Cause, OnDisks, WithDisks}
use Rattle.vx_disk.specs.Disks.{Burns, Disks, Untouched, is_set}
use Rattle.vx_disk.specs.Racks.{Stopped}
use Rattle.vx_disk.specs.Shelf.{Goes, Meaning, Values}
use Rattle.vx_watched.specs.Since.{CalledSince, DisksGo, FuseGoes, fuse_calls, fuse_pick, is_rack}

-- ---- fuses

fuse_same : (f g : Option (ℕ × ℕ)) → g ≡ f → FuseGoes f g
fuse_same f g same = record { set = ap is_set same; left = (let is = ap fuse_calls same in omega (arith, is)); pick = ap fuse_pick same }

fuse_burns : (f g : Option (ℕ × ℕ)) → Burns f g → FuseGoes f g
fuse_burns None g burns = fuse_same None g burns
fuse_burns (Some f) g burns = record {
  set = ap is_set burns.1;
  left = (let is : fuse_calls g ≡ f.0 - 1 = ap fuse_calls burns.1 in omega (arith, is));
  pick = ap fuse_pick burns.1;
}

fuse_both : (f g h : Option (ℕ × ℕ)) → FuseGoes f g → FuseGoes g h → FuseGoes f h
fuse_both f g h one two = record { set = two.set ∙ one.set; left = (let a = one.left in let b = two.left in omega (arith, a, b)); pick = two.pick ∙ one.pick }

-- ---- the disks of a rack

not_both : (b : Bool) → IsTrue b → IsFalse b → ⊥
not_both true is not = let clash : true ≡ false = not in cc
not_both false is not = let clash : false ≡ true = is in cc

stayed_up : (b c : Bool) → (IsTrue b → IsTrue c) → IsFalse c → IsFalse b
stayed_up true c falls up = absurd (not_both c (falls refl) up)
stayed_up false c falls up = refl

both_go : (b c : Bool) (x y z : Disks) → (IsTrue b → IsTrue c) → DisksGo b x y → DisksGo c y z → DisksGo c x z
both_go b c x y z falls one two = record {
  failing = λ u. two.failing u ∙ one.failing u;
  fuse = λ up. fuse_both x.fuse y.fuse z.fuse (one.fuse (stayed_up b c falls up)) (two.fuse up);
}

go_call : {T : Type 0} → (m : Meaning) (step : Disks → Disks → Type 0) (r : Result T ShelfError) (down : Bool) (x y : Disks) → (r ≡ Err Down → IsTrue down) → Calls m step x y r → ((u : ℕ) → y.failing u ≡ x.failing u) → DisksGo down x y
go_call m step (Ok done) down x y fell calls failing = record { failing = failing; fuse = λ up. fuse_burns x.fuse y.fuse calls.1 }
go_call m step (Err (Fault disk)) down x y fell calls failing = record { failing = failing; fuse = λ up. fuse_burns x.fuse y.fuse calls }
go_call m step (Err Down) down x y fell calls failing = record { failing = failing; fuse = λ up. absurd (not_both down (fell refl) up) }

-- ---- a rack, or another shelf

on_both : (old new : Option Disks) (P Q : Disks → Disks → Type 0) → ((o n : Disks) → P o n → Q o n) → WithDisks old new P → WithDisks old new Q
on_both None None P Q more it = tt
on_both None (Some n) P Q more it = absurd it
on_both (Some o) None P Q more it = absurd it
on_both (Some o) (Some n) P Q more it = more o n it

pub rack_same : (old new : Option Disks) (P : Disks → Disks → Type 0) → WithDisks old new P → is_rack new ≡ is_rack old
rack_same None None P it = refl
rack_same None (Some n) P it = absurd it
rack_same (Some o) None P it = absurd it
rack_same (Some o) (Some n) P it = refl

told_then : (first mid new : Option Disks) (b c : Bool) → (IsTrue b → IsTrue c) → ((o n : Disks) → first ≡ Some o → mid ≡ Some n → DisksGo b o n) → WithDisks mid new (DisksGo c) → (o n : Disks) → first ≡ Some o → new ≡ Some n → DisksGo c o n
told_then first None None b c falls since step o n is now = cc
told_then first None (Some z) b c falls since step o n is now = absurd step
told_then first (Some y) None b c falls since step o n is now = absurd step
told_then first (Some y) (Some z) b c falls since step o n is now =
    let same : z ≡ n = same_Some z n now in
    both_go b c o y n falls (since o y is refl) (subst (λ (x : Disks). DisksGo c y x) same step)

told_none : (d : Option Disks) (b : Bool) (o n : Disks) → d ≡ Some o → d ≡ Some n → DisksGo b o n
told_none None b o n is now = cc
told_none (Some x) b o n is now =
    let one : o ≡ x = cc in
    let two : n ≡ x = cc in
    record { failing = λ u. ap (λ (d : Disks). d.failing u) (two ∙ sym one); fuse = λ up. fuse_same o.fuse n.fuse (ap (λ (d : Disks). d.fuse) (two ∙ sym one)) }

-- ---- no call, and one call more

pub since_none : (m : Meaning) → CalledSince m m
since_none m = record {
  units = refl;
  size = λ u. refl;
  tells = refl;
  counts = λ d. omega arith;
  falls = λ down. down;
  unarmed = λ none. none;
  safe = λ none down. down;
  rack = refl;
  told = told_none m.disks m.down;
}

module _ (first m m' : Meaning) (written : Values) (since : CalledSince first m) (goes : Goes written m m') where
  since_step : WithDisks m.disks m'.disks (DisksGo m'.down) → CalledSince first m'
  since_step step = record {
    units = goes.units ∙ since.units;
    size = λ u. goes.size u ∙ since.size u;
    tells = goes.tells ∙ since.tells;
    counts = λ d. let a = since.counts d in let b = goes.disk_faults d in omega (arith, a, b);
    falls = λ down. goes.falls (since.falls down);
    unarmed = λ none. goes.unarmed (since.unarmed none);
    safe = λ none down. since.safe none (goes.safe (since.unarmed none) down);
    rack = rack_same m.disks m'.disks (DisksGo m'.down) step ∙ since.rack;
    told = told_then first.disks m.disks m'.disks m.down m'.down goes.falls since.told step;
  }

  -- a write or a flush
  pub since_call : {T : Type 0} → (unit : ℕ) (step : Disks → Disks → Type 0) (r : Result T ShelfError) → Cause m m' unit r → OnDisks m.disks m'.disks (λ o n. Calls m step o n r) → CalledSince first m'
  since_call unit step r cause on =
      since_step (on_both m.disks m'.disks (λ o n. Calls m step o n r × ((u : ℕ) → n.failing u ≡ o.failing u)) (DisksGo m'.down) (λ o n it. go_call m step r m'.down o n (fell r cause) it.0 it.1) on)
    where
      fell : {T : Type 0} → (r : Result T ShelfError) → Cause m m' unit r → r ≡ Err Down → IsTrue m'.down
      fell (Ok done) cause is = cc
      fell (Err (Fault disk)) cause is = cc
      fell (Err Down) cause is = cause

  -- a read
  pub since_read : OnDisks m.disks m'.disks Untouched → CalledSince first m'
  since_read on =
      since_step (on_both m.disks m'.disks (λ o n. Untouched o n × ((u : ℕ) → n.failing u ≡ o.failing u)) (DisksGo m'.down) (λ o n it. record { failing = it.1; fuse = λ up. fuse_same o.fuse n.fuse it.0.fuse }) on)

-- a crash of a shelf that was down
pub since_stop : (first m m' : Meaning) (P : Disks → Disks → Type 0) → CalledSince first m → IsTrue m.down → Stopped m m' → OnDisks m.disks m'.disks P → CalledSince first m'
since_stop first m m' P since was stopped on =
    let step : WithDisks m.disks m'.disks (DisksGo m'.down) =
    on_both m.disks m'.disks (λ o n. P o n × ((u : ℕ) → n.failing u ≡ o.failing u)) (DisksGo m'.down) (λ o n it. record { failing = it.1; fuse = λ up. absurd (not_both m'.down stopped.down up) }) on in
    record {
      units = stopped.units ∙ since.units;
      size = λ u. stopped.size u ∙ since.size u;
      tells = stopped.tells ∙ since.tells;
      counts = λ d. let a = since.counts d in let b = stopped.counts.disk_faults d in omega (arith, a, b);
      falls = λ down. stopped.down;
      unarmed = λ none. stopped.unarmed;
      safe = λ none down. since.safe none was;
      rack = rack_same m.disks m'.disks (DisksGo m'.down) step ∙ since.rack;
      told = told_then first.disks m.disks m'.disks m.down m'.down (λ down. stopped.down) since.told step;
    }
