-- A call that sets no disk makes none of its site fail.
use Rattle.std.proofs.Common.{◌≡◌, ◌∙◌, ◌⊎◌, inl, inr, ℕ, ap, sym, subst, refl, Bool}
use Rattle.std.specs.Prelude.{Option, Some, None}
use Rattle.vx_disk.specs.Causes.{OnDisks, WithDisks}
use Rattle.vx_disk.specs.Disks.{Disks, Crashed, Untouched}
use Rattle.vx_disk.specs.Shelf.{Meaning}
use Rattle.vx_disk.specs.declared.shelf.Shelf.{Ghosts}
use Rattle.vx_disk.specs.Spends.{Spends, Spent}
use Rattle.vx_rvg.specs.declared.group.Rvg.{Rvg}
use Rattle.vx_diskset.specs.Asked.{SameFailing, LeavesAlone, MayCrash, disks_told, size_in}
use Rattle.vx_diskset.specs.declared.disk_set.DiskSet.{DiskSet}
use Rattle.vx_diskset.specs.declared.disk_set.DiskSet.TheVariants.{Up, Down}

abbrev pub Same : Option Disks → Option Disks → Type 0
Same old new = WithDisks old new (λ o n. (u : ℕ) → n.failing u ≡ o.failing u)

pub same_disks : (o : Option Disks) → Same o o
same_disks None = tt
same_disks (Some d) = λ u. refl

pub same_then : (a b c : Option Disks) → Same a b → Same b c → Same a c
same_then None None None one two = tt
same_then None None (Some c) one two = absurd two
same_then None (Some b) c one two = absurd one
same_then (Some a) None c one two = absurd one
same_then (Some a) (Some b) None one two = absurd two
same_then (Some a) (Some b) (Some c) one two = λ u. two u ∙ one u

spent_same : (size : ℕ → ℕ) (before after : Bool) (o n : Option Disks) → WithDisks o n (Spent size before after) → Same o n
spent_same size before after None None h = tt
spent_same size before after None (Some n) h = absurd h
spent_same size before after (Some o) None h = absurd h
spent_same size before after (Some o) (Some n) h = h.failing

pub same_spent : (m new : Meaning) → Spends m new → Same m.disks new.disks
same_spent m new spends = spent_same m.size m.down new.down m.disks new.disks spends.told

pub same_on : (P : Disks → Disks → Type 0) (o n : Option Disks) → OnDisks o n P → Same o n
same_on P None None h = tt
same_on P None (Some n) h = absurd h
same_on P (Some o) None h = absurd h
same_on P (Some o) (Some n) h = h.1

untouched_none : (o : Option Disks) → OnDisks o o Untouched
untouched_none None = tt
untouched_none (Some d) = (record { blocks = record { stable = λ u b. refl; latest = λ u b. refl; loose = λ u b. refl }; fuse = refl }, λ u. refl)

pub may_crash : (size : ℕ → ℕ) (pick : ℕ) (o n : Option Disks) → OnDisks o n (Crashed size pick) → OnDisks o n (λ x y. Crashed size pick x y ⊎ Untouched x y)
may_crash size pick None None h = tt
may_crash size pick None (Some n) h = absurd h
may_crash size pick (Some o) None h = absurd h
may_crash size pick (Some o) (Some n) h = (inl h.0, h.1)

may_rest : (size : ℕ → ℕ) (pick : ℕ) (o : Option Disks) → OnDisks o o (λ x y. Crashed size pick x y ⊎ Untouched x y)
may_rest size pick None = tt
may_rest size pick (Some d) = (inr (record { blocks = record { stable = λ u b. refl; latest = λ u b. refl; loose = λ u b. refl }; fuse = refl }), λ u. refl)

module _ {R : Type 0} {g : Ghosts R} where
  pub failing_same : (e : DiskSet R g) → SameFailing e e
  failing_same e = record { told = same_disks (disks_told e) }

  pub failing_then : (a b c : DiskSet R g) → SameFailing a b → SameFailing b c → SameFailing a c
  failing_then a b c one two = record { told = same_then (disks_told a) (disks_told b) (disks_told c) one.told two.told }

  pub alone_same : (e : DiskSet R g) → LeavesAlone e e
  alone_same e = record { told = untouched_none (disks_told e); sizes = λ u. refl }

  -- the shelf of a group that crashed
  pub stopped_up : (e : DiskSet R g) (rvg : Rvg R g) (shelf new : R) (pick : ℕ) → e ≡ Up rvg → shelf ≡ rvg.shelf
      → OnDisks (g.meaning shelf).disks (g.meaning new).disks (Crashed (g.meaning shelf).size pick) → ((u : ℕ) → (g.meaning new).size u ≡ (g.meaning shelf).size u) → MayCrash pick e (Down new)
  stopped_up e rvg shelf new pick is same did sizes =
      subst (λ (x : DiskSet R g). MayCrash pick x (Down new)) (sym is)
      (record {
        told = subst (λ (r : R). OnDisks (g.meaning r).disks (g.meaning new).disks (λ x y. Crashed (g.meaning r).size pick x y ⊎ Untouched x y)) same
            (may_crash (g.meaning shelf).size pick (g.meaning shelf).disks (g.meaning new).disks did);
        sizes = λ u. sizes u ∙ ap (λ (r : R). (g.meaning r).size u) same;
      })

  pub stopped_none : (pick : ℕ) (e : DiskSet R g) → MayCrash pick e e
  stopped_none pick e = record { told = may_rest (size_in e) pick (disks_told e); sizes = λ u. refl }

  pub failing_stopped : (pick : ℕ) (a b : DiskSet R g) → MayCrash pick a b → SameFailing a b
  failing_stopped pick a b stopped = record { told = same_on (λ o n. Crashed (size_in a) pick o n ⊎ Untouched o n) (disks_told a) (disks_told b) stopped.told }
