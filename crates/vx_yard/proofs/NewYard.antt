-- A yard without sites.
use Rattle.std.proofs.Common.{◌≡◌, ◌∙◌, ◌≤◌, ℕ, zero, suc, List, [], ◌∷◌, sym, subst, refl, arith}
use Rattle.std.proofs.lemmas.List.{length-map}
use Rattle.std.specs.Prelude.{Some, None, slice_get, map}
use Rattle.vx_history.specs.World.{empty_world}
use Rattle.vx_disk.specs.declared.shelf.Shelf.{Ghosts}
use Rattle.vx_diskset.specs.declared.disk_set.DiskSet.{DiskSet}
use Rattle.vx_diskset.specs.declared.disk_set.DiskSet.TheVariants.{Bare}
use Rattle.std.specs.Vec.{vec_capacity}
use Rattle.vx_effects.proofs.Leaving.{fit_empty}
use Rattle.vx_events.specs.Doubts.{sure}
use Rattle.vx_events.proofs.Places.{never_some, some_same}
use Rattle.vx_yard.specs.Standing.{SitesAgree, StandsFor}
use Rattle.vx_yard.specs.declared.yard.Yard.{Yard}
use Rattle.vx_yard.specs.Holds.{AreFresh, rack_faults}
use Rattle.vx_yard.specs.Stands.{site_faults}
use Rattle.vx_diskset.specs.Stands.{IsUnused}
use Rattle.vx_diskset.proofs.StaysUp.{not_true}

pub counts_new : {R : Type 0} (g : Ghosts R) (rs : List R) (s d : ℕ) → site_faults {g = g} (map (λ (r : R). let e : DiskSet R g = Bare r in e) rs) s d ≡ rack_faults g.meaning rs s d
counts_new g [] s d = refl
counts_new g (r ∷ rs) zero d = refl
counts_new g (r ∷ rs) (suc s) d = counts_new g rs s d

module _ {R : Type 0} {g : Ghosts R} where
  rack_of : (rs : List R) (s : ℕ) (e : DiskSet R g) → slice_get (map (λ (r : R). let e : DiskSet R g = Bare r in e) rs) s ≡ Some e → (r : R) × (slice_get rs s ≡ Some r) × (e ≡ Bare r)
  rack_of [] s e is = absurd (never_some is)
  rack_of (r ∷ rs) zero e is = (r, refl, sym (some_same is))
  rack_of (r ∷ rs) (suc s) e is = rack_of rs s e is

  -- fresh racks are the disk sets of numbers that no site has
  pub disk_sets_new : (rs : List R) → AreFresh g.meaning rs → SitesAgree (sure empty_world) (map (λ (r : R). let e : DiskSet R g = Bare r in e) rs)
  disk_sets_new rs fresh = record {
    eight = length-map rs (λ (r : R). let e : DiskSet R g = Bare r in e) ∙ fresh.eight;
    few = omega arith;
    sites = λ s e below is. absurd (omega (arith, below));
    others = λ s e past is. let found = rack_of rs s e is in subst IsUnused (sym found.2) (record {
      units = fresh.units s found.0 found.1;
      up = not_true (g.meaning found.0).down (fresh.up s found.0 found.1);
      unarmed = not_true (g.meaning found.0).armed (fresh.unarmed s found.0 found.1);
    });
  }

  -- a yard without sites stands for the world without sites
  pub begins_empty : (y : Yard R g) → y.facts.items ≡ [] → SitesAgree (sure empty_world) y.disk_sets.items → y.racks.items ≡ [] → 8 ≤ vec_capacity y.racks → StandsFor (sure empty_world) y
  begins_empty y facts stood none room = record {
    facts = facts;
    disk_sets = stood;
    links = fit_empty;
    roles = record { each = λ s e below is. absurd (omega (arith, below)) };
    first = λ s below. absurd (omega (arith, below));
    noted = λ s e below is. absurd (omega (arith, below));
    doubts = λ s a is. absurd (never is);
    failing = λ s e below is. absurd (omega (arith, below));
    fuses = λ s e below is. absurd (omega (arith, below));
    none = none;
    room = room;
  }
    where
      never : {A : Type 0} {x : A} → None ≡ Some x → ⊥
      never e = cc
