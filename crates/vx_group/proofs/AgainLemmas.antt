-- What may be imported still may with fewer contents, and behind a refused import.
use Rattle.std.proofs.Common.{◌≡◌, inl, inr, ⊎_elim, ℕ, Bool, true, Option, List, refl, ap, sym, ◌∙◌, subst, arith}
use Rattle.vx_disk.specs.Racks.{IsRack, Stopped}
use Rattle.vx_disk.specs.Shelf.{Each, Goes, Image, Lawful, Meaning, Nothing}
use Rattle.vx_disk.proofs.Alikes.{rest_Settled}
use Rattle.vx_copyfmt.specs.Commits.{Counts}
use Rattle.vx_copyfmt.proofs.Subs.{counts_sub}
use Rattle.vx_config.specs.declared.config.Config.{Config}
use Rattle.vx_copies.specs.Looking.{on_shelf}
use Rattle.vx_copies.proofs.OneTry.{shelf_same}
use Rattle.vx_kept.specs.Commits.{Member}
use Rattle.vx_kept.specs.Groups.{found_by}
use Rattle.vx_kept.specs.Trusts.{Trusts, is_plain}
use Rattle.vx_kept.proofs.Low.{found_same}
use Rattle.vx_model.specs.declared.errors.Stop.{Stop}
use Rattle.vx_group.specs.Imports.{ImportStops}
use Rattle.vx_group.specs.Resumes.{AtRest, CanImport, CanImportBehind, left_at}
use Rattle.vx_group.specs.Stands.{InnerStands}
use Rattle.vx_group.specs.declared.inner.Inner.{Inner}
use Rattle.vx_group.proofs.CrashLemmas.{crash_can}
use Rattle.vx_group.proofs.Standing.{kept_of}

-- ---- the same disks, of which a crash leaves no more

module _ (m m' : Meaning) (units : m'.units ≡ m.units) (size : (u : ℕ) → m'.size u ≡ m.size u) (less : (u b : ℕ) (v : List ℕ) → m'.leaves u b v → m.leaves u b v) where
  before : (i : Image) → Each m'.leaves i → Each m.leaves i
  before i each u b = less u b (i u b) (each u b)

  was : (R : ℕ → Bool) (i : Image) → found_by m R i ≡ found_by m' R i
  was R i = sym (found_same m m' units size R i)

  pub less_can : CanImport m → CanImport m'
  less_can can = record {
    base = λ i x each is.
        let base = can.base i x (before i each) (was (λ u. true) i ∙ is) in
        record {
          below = record { each = λ u lt a v h kind left head. base.below.each u (omega (arith, units, lt)) a v h kind (less u a v left) head };
          counts = λ u lt. subst (λ (r : ℕ → List ℕ → Option Config). Counts r (m'.leaves u)) (shelf_same m m' units size)
              (counts_sub (on_shelf m) (m.leaves u) (m'.leaves u) (λ b v left. less u b v left) (base.counts u (omega (arith, units, lt))));
          labels = record { each = λ u v lt left. base.labels.each u v (omega (arith, units, lt)) (less u 0 v left) };
        };
    one = λ i j R x each_i each_j is. sym (was (λ u. true) j) ∙ can.one i j R x (before i each_i) (before j each_j) (was R i ∙ is);
    plain = λ i R x each is. ap is_plain (sym (was R i)) ∙ can.plain i R x (before i each) (was (λ u. true) i ∙ is);
  }

-- ---- behind any crash

pub import_behind : (m : Meaning) → CanImport m → CanImportBehind m
import_behind m can = record { each = λ i each. less_can m (left_at m i) refl (λ u. refl) (λ u b v is. subst (m.leaves u b) (sym is) (each u b)) can }

-- what stands on disks of which imports agree
pub agreed_behind : (core : Inner) (m : Meaning) → InnerStands core m → core.agreed ≡ true → CanImportBehind m
agreed_behind core m stands agreed = record {
  each = λ i each. crash_can core.config (Member core.good m) m (left_at m i) (kept_of core m stands) refl (λ u. refl) i each (λ u b v is. is) core.committed core.good (subst (λ (b : Bool). Trusts core.committed b core.good m) agreed stands.trusts);
}

-- one value of each block is left of it
module _ (m m' : Meaning) (units : m'.units ≡ m.units) (size : (u : ℕ) → m'.size u ≡ m.size u) (less : (u b : ℕ) (v : List ℕ) → m'.leaves u b v → m.leaves u b v) (rest : AtRest m') (behind : CanImportBehind m) where
  at : (i : Image) → Each m'.leaves i → CanImport m'
  at i each = less_can (left_at m i) m' units size (λ u b v left. rest.one u b v (i u b) left (each u b)) (behind.each i (λ u b. less u b (i u b) (each u b)))

  pub rest_behind : CanImport m'
  rest_behind = record {
    base = λ i x each is. (at i each).base i x each is;
    one = λ i j R x each_i each_j is. (at i each_i).one i j R x each_i each_j is;
    plain = λ i R x each is. (at i each).plain i R x each is;
  }

pub fall_can : (m m' : Meaning) → Lawful m' → IsRack m' → Stopped m m' → CanImportBehind m → CanImport m'
fall_can m m' law rack stopped behind =
    rest_behind m m' stopped.units stopped.size stopped.leaves (record { one = λ u b v w left other. (rest_Settled m' law rack stopped.down).each u b v w tt left other }) behind

-- ---- a refused import

pub goes_can : (m m' : Meaning) → Goes Nothing m m' → CanImport m → CanImport m'
goes_can m m' goes can = less_can m m' goes.units goes.size (λ u b v left. ⊎_elim (λ is. is) (λ none. absurd none) (goes.leaves u b v left)) can

pub stops_behind : (old new : Meaning) (stop : Stop) → CanImport old → ImportStops old new stop → CanImportBehind new
stops_behind old new stop can (inl early) = import_behind new (goes_can old new early.0 can)
stops_behind old new stop can (inr late) = agreed_behind late.0.core new late.0.stands late.0.agreed
