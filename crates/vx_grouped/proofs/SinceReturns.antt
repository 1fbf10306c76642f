-- The disks of a site behind an import of them, beside what they were.
use Rattle.std.proofs.Common.{◌≡◌, ◌∙◌, ◌⊎◌, ℕ, ◌≤◌, Bool, true, false, ap, refl, subst, sym, arith, IsTrue}
use Rattle.std.proofs.lemmas.Option.{same_Some}
use Rattle.std.specs.Prelude.{Option, Some, None, IsFalse}
use Rattle.vx_disk.specs.Causes.{OnDisks, WithDisks}
use Rattle.vx_disk.specs.Disks.{Crashed, Disks, Untouched, is_set}
use Rattle.vx_disk.specs.Racks.{Alike, IsRack, Stopped}
use Rattle.vx_disk.specs.Shelf.{Meaning}
use Rattle.vx_group.specs.Resumes.{CanImport}
use Rattle.vx_untold.specs.Shades.{rack_of, shade_meaning}
use Rattle.vx_untold.specs.Untold.{untold}
use Rattle.vx_untold.specs.declared.shade.Shade.{Shade}
use Rattle.vx_untold.specs.declared.shade.Shade.TheVariants.{Bright, Dark}
use Rattle.vx_watched.specs.Since.{CalledSince, fuse_calls, is_rack}
use Rattle.vx_watched.proofs.SinceLemmas.{rack_same}
use Rattle.vx_grouped.specs.Readies.{ready_of}
use Rattle.vx_grouped.specs.SiteReturns.{FailsFused, ReturnSince, TellsNone}

-- the same disks, made to fail as they were, whatever became of a fuse
record Stays (old new : Meaning) : Type 0 where
  units : new.units ≡ old.units
  size : (u : ℕ) → new.size u ≡ old.size u
  tells : IsTrue new.tells → IsTrue old.tells
  counts : (d : ℕ) → old.disk_faults d ≤ new.disk_faults d
  rack : is_rack new.disks ≡ is_rack old.disks
  failing : (o n : Disks) → old.disks ≡ Some o → new.disks ≡ Some n → (u : ℕ) → n.failing u ≡ o.failing u

stays_of : (a b : Meaning) → ReturnSince a b → Stays a b
stays_of a b it = record { units = it.units; size = it.size; tells = it.tells; counts = it.counts; rack = it.rack; failing = λ x y was is. (it.told x y was is).failing }

stays_called : (a b : Meaning) → CalledSince a b → Stays a b
stays_called a b it = record { units = it.units; size = it.size; tells = λ on. sym it.tells ∙ on; counts = it.counts; rack = it.rack; failing = λ x y was is. (it.told x y was is).failing }

no_rack : (a b : Meaning) → is_rack b.disks ≡ is_rack a.disks → (x : Disks) → a.disks ≡ Some x → b.disks ≡ None → ⊥
no_rack a b same x was none = let e : true ≡ false = ap is_rack (sym was) ∙ sym same ∙ ap is_rack none in cc

stays_then : (a b c : Meaning) → Stays a b → Stays b c → Stays a c
stays_then a b c one two = record {
  units = two.units ∙ one.units;
  size = λ u. two.size u ∙ one.size u;
  tells = λ on. one.tells (two.tells on);
  counts = λ d. let first = one.counts d in let second = two.counts d in omega (arith, first, second);
  rack = two.rack ∙ one.rack;
  failing = λ x z was is. between b.disks refl x z was is;
}
  where
    between : (o : Option Disks) → b.disks ≡ o → (x z : Disks) → a.disks ≡ Some x → c.disks ≡ Some z → (u : ℕ) → z.failing u ≡ x.failing u
    between None middle x z was is u = absurd (no_rack a b one.rack x was middle)
    between (Some y) middle x z was is u = two.failing y z middle is u ∙ one.failing x y was middle u

unarmed_set : (m : Meaning) (rack : IsRack m) → IsFalse m.armed → (y : Disks) → m.disks ≡ Some y → is_set y.fuse ≡ true → ⊥
unarmed_set m rack unarmed y is on =
    let told : rack.told ≡ y = same_Some rack.told y (sym rack.is ∙ is) in
    let off : is_set y.fuse ≡ false = sym (ap (λ (d : Disks). is_set d.fuse) told) ∙ sym rack.armed ∙ unarmed in
    let e : true ≡ false = sym on ∙ off in
    cc

-- the fuse is gone
unset : (a b : Meaning) → IsRack b → IsFalse b.armed → Stays a b → ReturnSince a b
unset a b rack unarmed it = record {
  units = it.units;
  size = it.size;
  tells = it.tells;
  counts = it.counts;
  rack = it.rack;
  told = λ x y was is. record {
    failing = it.failing x y was is;
    set = λ on. absurd (unarmed_set b rack unarmed y is on);
    left = λ on. absurd (unarmed_set b rack unarmed y is on);
  };
}

-- nothing was done
pub return_none : (m : Meaning) → ReturnSince m m
return_none m = record {
  units = refl;
  size = λ u. refl;
  tells = λ on. on;
  counts = λ d. omega arith;
  rack = refl;
  told = λ x y was is. fused x y (same_Some y x (sym is ∙ was));
}
  where
    fused : (x y : Disks) → y ≡ x → FailsFused x y
    fused x y same = subst (λ (d : Disks). FailsFused x d) (sym same) (record { failing = λ u. refl; set = λ on. on; left = λ on. omega arith })

-- calls, and the disks are up
pub return_calls : (a b : Meaning) → CalledSince a b → IsFalse b.down → ReturnSince a b
return_calls a b since up = record {
  units = since.units;
  size = since.size;
  tells = λ on. sym since.tells ∙ on;
  counts = since.counts;
  rack = since.rack;
  told = λ x y was is. let goes = since.told x y was is in record { failing = goes.failing; set = λ on. sym (goes.fuse up).set ∙ on; left = λ on. (goes.fuse up).left };
}

-- one behind the other
pub return_then : (a b c : Meaning) → ReturnSince a b → ReturnSince b c → ReturnSince a c
return_then a b c one two =
    let all = stays_then a b c (stays_of a b one) (stays_of b c two) in
    record { units = all.units; size = all.size; tells = all.tells; counts = all.counts; rack = all.rack; told = λ x z was is. between b.disks refl x z was is }
  where
    between : (o : Option Disks) → b.disks ≡ o → (x z : Disks) → a.disks ≡ Some x → c.disks ≡ Some z → FailsFused x z
    between None middle x z was is = absurd (no_rack a b one.rack x was middle)
    between (Some y) middle x z was is =
        let first = one.told x y was middle in
        let second = two.told y z middle is in
        record { failing = λ u. second.failing u ∙ first.failing u; set = λ on. first.set (second.set on); left = λ on. let s = second.left on in let f = first.left (second.set on) in omega (arith, s, f) }

-- behind calls that were refused the disks fell
pub return_all : (m0 m1 m2 m3 : Meaning) → ReturnSince m0 m1 → CalledSince m1 m2 → ReturnSince m2 m3 → IsRack m3 → IsFalse m3.armed → ReturnSince m0 m3
return_all m0 m1 m2 m3 one calls last rack unarmed =
    unset m0 m3 rack unarmed (stays_then m0 m1 m3 (stays_of m0 m1 one) (stays_then m1 m2 m3 (stays_called m1 m2 calls) (stays_of m2 m3 last)))

pub return_at : {S : Type 0} (meaning : S → Meaning) (old : Meaning) (s t : S) → t ≡ s → ReturnSince old (meaning s) → ReturnSince old (meaning t)
return_at meaning old s t same it = subst (λ y. ReturnSince old (meaning y)) (sym same) it

-- ---- a crash, the end of a down state, and disks that tell nothing any more

with_at : (old new : Option Disks) (P : Disks → Disks → Type 0) → WithDisks old new P → (x y : Disks) → old ≡ Some x → new ≡ Some y → P x y
with_at None new P it x y was is = let no_one : None ≡ Some x = was in cc
with_at (Some o) None P it x y was is = absurd it
with_at (Some o) (Some n) P it x y was is = subst (λ (a : Disks). P a y) (same_Some o x was) (subst (λ (b : Disks). P o b) (same_Some n y is) it)

pub return_fell : (a b : Meaning) (pick : ℕ) → IsRack b → Stopped a b → OnDisks a.disks b.disks (Crashed a.size pick) → ReturnSince a b
return_fell a b pick rack stopped on = unset a b rack stopped.unarmed (record {
  units = stopped.units;
  size = stopped.size;
  tells = λ told. sym stopped.tells ∙ told;
  counts = λ d. let same = stopped.counts.disk_faults d in omega (arith, same);
  rack = rack_same a.disks b.disks (λ o n. Crashed a.size pick o n × ((u : ℕ) → n.failing u ≡ o.failing u)) on;
  failing = λ x y was is. (with_at a.disks b.disks (λ o n. Crashed a.size pick o n × ((u : ℕ) → n.failing u ≡ o.failing u)) on x y was is).1;
})

pub return_alike : (a b : Meaning) → Alike a b → OnDisks a.disks b.disks Untouched → ReturnSince a b
return_alike a b alike on = record {
  units = alike.contents.units;
  size = alike.contents.size;
  tells = λ told. sym alike.contents.tells ∙ told;
  counts = λ d. let same = alike.counts.disk_faults d in omega (arith, same);
  rack = rack_same a.disks b.disks (λ o n. Untouched o n × ((u : ℕ) → n.failing u ≡ o.failing u)) on;
  told = λ x y was is.
      let it = with_at a.disks b.disks (λ o n. Untouched o n × ((u : ℕ) → n.failing u ≡ o.failing u)) on x y was is in
      record { failing = it.1; set = λ set. ap is_set (sym it.0.fuse) ∙ set; left = λ set. let same = ap fuse_calls it.0.fuse in omega (arith, same) };
}

module _ {R : Type 0} (meaning : R → Meaning) where
  pub return_dark : (s : Shade R) → ReturnSince (shade_meaning meaning s) (shade_meaning meaning (Dark (rack_of s)))
  return_dark (Bright r) = record {
    units = refl;
    size = λ u. refl;
    tells = λ on. let clash : false ≡ true = on in cc;
    counts = λ d. omega arith;
    rack = refl;
    told = (return_none (meaning r)).told;
  }
  return_dark (Dark r) = return_none (untold (meaning r))

  pub return_ready : (agreed : Bool) (s : Shade R) → ReturnSince (shade_meaning meaning s) (shade_meaning meaning (ready_of agreed s))
  return_ready true s = return_none (shade_meaning meaning s)
  return_ready false s = return_dark s

  pub dark_none : (s : Shade R) → TellsNone (shade_meaning meaning (Dark (rack_of s)))
  dark_none s = record { tells = refl; leaves = λ u b v left. left }

  pub dark_can : (s : Shade R) → CanImport (shade_meaning meaning (Dark (rack_of s)))
  dark_can s = record {
    base = λ i x each is. absurd (each 0 0);
    one = λ i j readable x each_i each_j is. absurd (each_i 0 0);
    plain = λ i readable x each is. absurd (each 0 0);
  }

  pub dark_counts : (s : Shade R) (d : ℕ) → (shade_meaning meaning (Dark (rack_of s))).disk_faults d ≡ (shade_meaning meaning s).disk_faults d
  dark_counts (Bright r) d = refl
  dark_counts (Dark r) d = refl

  pub dark_down : (s : Shade R) → (shade_meaning meaning (Dark (rack_of s))).down ≡ (shade_meaning meaning s).down
  dark_down (Bright r) = refl
  dark_down (Dark r) = refl

  pub dark_armed : (s : Shade R) → (shade_meaning meaning (Dark (rack_of s))).armed ≡ (shade_meaning meaning s).armed
  dark_armed (Bright r) = refl
  dark_armed (Dark r) = refl

  pub dark_units : (s : Shade R) → (shade_meaning meaning (Dark (rack_of s))).units ≡ (shade_meaning meaning s).units
  dark_units (Bright r) = refl
  dark_units (Dark r) = refl

  pub dark_size : (s : Shade R) (u : ℕ) → (shade_meaning meaning (Dark (rack_of s))).size u ≡ (shade_meaning meaning s).size u
  dark_size (Bright r) u = refl
  dark_size (Dark r) u = refl

-- disks that had no fuse have none
pub returns_unarmed : (a b : Meaning) → IsRack a → IsRack b → ReturnSince a b → IsFalse a.armed → IsFalse b.armed
returns_unarmed a b was now since off = by (is_set now.told.fuse) refl
  where
    by : (t : Bool) → is_set now.told.fuse ≡ t → IsFalse b.armed
    by false is = now.armed ∙ is
    by true is = absurd (unarmed_set a was off was.told was.is ((since.told was.told now.told was.is now.is).set is))
