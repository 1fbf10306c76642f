-- What calls make of the disks below a replicated volume group, one behind the other, and what a crash makes of them.
use Rattle.std.proofs.Common.{◌≡◌, ◌∙◌, ℕ, Bool, true, false, IsFalse, IsTrue, ap, arith, refl, subst, sym}
use Rattle.std.specs.Prelude.{None, Option, Some}
use Rattle.std.proofs.lemmas.Option.{same_Some}
use Rattle.vx_disk.specs.Causes.{OnDisks, WithDisks}
use Rattle.vx_disk.specs.Disks.{Crashed, Disks}
use Rattle.vx_disk.specs.Racks.{Stopped}
use Rattle.vx_disk.specs.Shelf.{Meaning}
use Rattle.vx_disk.specs.declared.shelf.Shelf.{Ghosts}
use Rattle.vx_grouped.specs.GroupSites.{laid_disks, site_disks}
use Rattle.vx_grouped.specs.SiteEnds.{MayCrashSite}
use Rattle.vx_grouped.specs.declared.group_site.GroupSite.{GroupSite}
use Rattle.vx_grouped.specs.declared.group_site.GroupSite.TheVariants.{Up}
use Rattle.vx_watched.specs.Since.{CalledSince, DisksGo, FuseGoes, is_rack}
use Rattle.vx_watched.proofs.SinceLemmas.{rack_same, since_none}
use Rattle.vx_diskset.specs.Noted.{UnderCalls}

not_both : (b : Bool) → IsTrue b → IsFalse b → ⊥
not_both true is off = let clash : true ≡ false = off in cc
not_both false is off = let clash : false ≡ true = is in cc

stayed_up : (b c : Bool) → (IsTrue b → IsTrue c) → IsFalse c → IsFalse b
stayed_up true c falls up = absurd (not_both c (falls refl) up)
stayed_up false c falls up = refl

fuse_both : (f g h : Option (ℕ × ℕ)) → FuseGoes f g → FuseGoes g h → FuseGoes f h
fuse_both f g h one two = record { set = two.set ∙ one.set; left = (let a = one.left in let b = two.left in omega (arith, a, b)); pick = two.pick ∙ one.pick }

both_go : (b c : Bool) (x y z : Disks) → (IsTrue b → IsTrue c) → DisksGo b x y → DisksGo c y z → DisksGo c x z
both_go b c x y z falls one two = record { failing = λ u. two.failing u ∙ one.failing u; fuse = λ up. fuse_both x.fuse y.fuse z.fuse (one.fuse (stayed_up b c falls up)) (two.fuse up) }

pub told_both : (first mid new : Option Disks) (b c : Bool) → (IsTrue b → IsTrue c) → is_rack new ≡ is_rack mid → ((o n : Disks) → first ≡ Some o → mid ≡ Some n → DisksGo b o n) → ((o n : Disks) → mid ≡ Some o → new ≡ Some n → DisksGo c o n)
    → (o n : Disks) → first ≡ Some o → new ≡ Some n → DisksGo c o n
told_both first None new b c falls rack one two o n is now = absurd (let clash : true ≡ false = sym (ap (λ (d : Option Disks). is_rack d) now) ∙ rack in cc)
told_both first (Some y) new b c falls rack one two o n is now = both_go b c o y n falls (one o y is refl) (two y n refl now)

-- ---- as records

pub under_since : (m m' : Meaning) → CalledSince m m' → UnderCalls m m'
under_since m m' since = record { rack = since.rack; units = since.units; falls = since.falls; told = since.told }

under_none : (m : Meaning) → UnderCalls m m
under_none m = under_since m m (since_none m)

pub under_both : (m0 m1 m2 : Meaning) → UnderCalls m0 m1 → UnderCalls m1 m2 → UnderCalls m0 m2
under_both m0 m1 m2 one two = record {
  rack = two.rack ∙ one.rack;
  units = two.units ∙ one.units;
  falls = λ down. two.falls (one.falls down);
  told = told_both m0.disks m1.disks m2.disks m1.down m2.down two.falls two.rack one.told two.told;
}

-- what is said of disks that are told
of_told : (d e : Option Disks) (P : Disks → Disks → Type 0) → WithDisks d e P → (o n : Disks) → d ≡ Some o → e ≡ Some n → P o n
of_told None e P it o n is now = absurd (let clash : None ≡ Some o = is in cc)
of_told (Some a) None P it o n is now = absurd it
of_told (Some a) (Some b) P it o n is now = subst (λ (x : Disks). P x n) (same_Some a o is) (subst (λ (x : Disks). P a x) (same_Some b n now) it)

-- a crash leaves which of them are made to fail
under_crash : (m m' : Meaning) (P : Disks → Disks → Type 0) → Stopped m m' → OnDisks m.disks m'.disks P → UnderCalls m m'
under_crash m m' P stopped on = record {
  rack = rack_same m.disks m'.disks (λ o n. P o n × ((u : ℕ) → n.failing u ≡ o.failing u)) on;
  units = stopped.units;
  falls = λ down. stopped.down;
  told = λ o n is now. record { failing = (of_told m.disks m'.disks (λ x y. P x y × ((u : ℕ) → y.failing u ≡ x.failing u)) on o n is now).1; fuse = λ up. absurd (not_both m'.down stopped.down up) };
}

module _ {R : Type 0} {g : Ghosts R} where
  pub under_fell : (pick : ℕ) (o s : GroupSite R g) → MayCrashSite pick o s → UnderCalls (site_disks o) (site_disks s)
  under_fell pick (Up l) s it = under_crash (laid_disks l) (site_disks s) (Crashed (laid_disks l).size pick) it.0 it.1
  under_fell pick other s it = subst (λ (x : GroupSite R g). UnderCalls (site_disks other) (site_disks x)) (sym it) (under_none (site_disks other))
