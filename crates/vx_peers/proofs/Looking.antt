-- Reads of a group one after another.
use Rattle.std.proofs.Common.{◌≡◌, ◌∙◌, ◌-◌, ◌≤◌, ℕ, true, false, IsTrue, IsFalse, ap, sym, subst, refl}
use Rattle.std.proofs.lemmas.Bool.{false_from_ne_true}
use Rattle.std.specs.Prelude.{IsSome, Option, Some, None, slice_get}
use Rattle.vx_model.specs.Content.{Write}
use Rattle.vx_model.specs.declared.call.Update.{Update}
use Rattle.vx_model.specs.declared.no.No.{No}
use Rattle.vx_model.specs.declared.no.No.TheVariants as no
use Rattle.vx_disk.specs.Causes.{BlamesUnit, OnDisks}
use Rattle.vx_disk.specs.Disks.{Disks, Untouched}
use Rattle.vx_disk.specs.Shelf.{Goes, Meaning, Nothing}
use Rattle.vx_disk.proofs.Runs.{same_Goes, then_nothing}
use Rattle.vx_disk.proofs.Untouching.{untouched_both, untouched_none}
use Rattle.vx_disk.specs.Spends.{Spends}
use Rattle.vx_disk.proofs.Spending.{spends_none, then_spends}
use Rattle.vx_rvg.specs.Holdings.{Holding, update_of}
use Rattle.vx_rvg.specs.Stands.{GivesWrite, Stands}
use Rattle.vx_rvg.specs.Views.{Core}
use Rattle.vx_rvg.proofs.WriteLog.{cause_from}
use Rattle.vx_srl.specs.Calls.{FetchCause}
use Rattle.vx_srl.specs.Causes.{BlamesLog}
use Rattle.vx_srl.specs.declared.errors.SrlNo.{SrlNo}
use Rattle.vx_srl.specs.declared.errors.SrlNo.TheVariants.{NoRoom, Other, Overrun}
use Rattle.vx_peers.specs.Senders.{BlamesStop, IsOther, ReadCause, stop_with}

-- nothing of a group and its shelf was changed
pub record Looked (c c' : Core) (m m' : Meaning) : Type 0 where
  pub core : c' ≡ c
  pub goes : Goes Nothing m m'
  pub down : m'.down ≡ m.down
  pub disks : OnDisks m.disks m'.disks Untouched
  pub spends : Spends m m'

pub not_looked : (c : Core) (m : Meaning) → Looked c c m m
not_looked c m = record { core = refl; goes = same_Goes Nothing m; down = refl; disks = untouched_none m.disks; spends = spends_none m }

pub looked_on : (a b c : Core) (m0 m1 m2 : Meaning) → Looked a b m0 m1 → Looked b c m1 m2 → Looked a c m0 m2
looked_on a b c m0 m1 m2 one two = record {
  core = two.core ∙ one.core;
  goes = then_nothing Nothing m0 m1 m2 one.goes two.goes;
  down = two.down ∙ one.down;
  disks = untouched_both m0.disks m1.disks m2.disks one.disks two.disks;
  spends = then_spends m0 m1 m2 one.spends two.spends;
}

-- ---- refusals

pub is_other : (c : Core) (m m' : Meaning) (why : SrlNo) → FetchCause c.log m m' why → IsOther why
is_other c m m' (NoRoom need free) cause = absurd cause
is_other c m m' (Overrun low) cause = absurd cause
is_other c m m' (Other why) cause = tt

pub read_stops : (c : Core) (m0 m m' : Meaning) (why : SrlNo) → ((d : ℕ) → m0.disk_faults d ≤ m.disk_faults d) → m.tells ≡ m0.tells → ((h : Holding) → Stands c h m0 → IsTrue m0.tells → Stands c h m) → FetchCause c.log m m' why → ReadCause c m0 m' (stop_with why)
read_stops c m0 m m' (NoRoom need free) faults tells stands cause = absurd cause
read_stops c m0 m m' (Overrun low) faults tells stands cause = absurd cause
read_stops c m0 m m' (Other (no.Damaged unit block stored computed)) faults tells stands cause =
    λ h here told. let now = stands h here told in cause.2 now.log now.ready.ring (tells ∙ told)
read_stops c m0 m m' (Other (no.Device disk)) faults tells stands cause = cause_from m0 m m' (no.Device disk) faults cause
read_stops c m0 m m' (Other no.Down) faults tells stands cause = cause
read_stops c m0 m m' (Other other) faults tells stands cause = absurd cause

has_disks : (old new : Option Disks) (P : Disks → Disks → Type 0) → OnDisks old new P → IsSome old → IsSome new
has_disks None new P on some = absurd (let e : false ≡ true = some in cc)
has_disks (Some o) None P on some = absurd on
has_disks (Some o) (Some n) P on some = refl

blames_unit : (m0 m : Meaning) (unit : ℕ) (why : No) → OnDisks m0.disks m.disks Untouched → BlamesUnit m.disks unit why → BlamesUnit m0.disks unit why
blames_unit m0 m unit (no.Device disk) on blames = λ some. blames (has_disks m0.disks m.disks Untouched on some)
blames_unit m0 m unit other on blames = tt

pub read_blames : (c k : Core) (m0 m : Meaning) (why : SrlNo) → OnDisks m0.disks m.disks Untouched → k ≡ c → BlamesLog m.disks k.log.unit why → BlamesStop m0.disks c.log.unit (stop_with why)
read_blames c k m0 m (NoRoom need free) on same blames = tt
read_blames c k m0 m (Overrun low) on same blames = tt
read_blames c k m0 m (Other why) on same blames = blames_unit m0 m c.log.unit why on (subst (λ (x : Core). BlamesUnit m.disks x.log.unit why) same blames)

-- ---- one more read

pub fetched_more : (a b c : Core) (m0 m1 m2 : Meaning) → Looked a b m0 m1 → c ≡ b → Goes Nothing m1 m2 → m2.down ≡ m1.down → OnDisks m1.disks m2.disks Untouched → Spends m1 m2 → Looked a c m0 m2
fetched_more a b c m0 m1 m2 one core goes down disks spends = looked_on a b c m0 m1 m2 one (record { core = core; goes = goes; down = down; disks = disks; spends = spends })

pub record Fetched (a : Core) (m : Meaning) (h : Holding) (n : ℕ) (u : Update) : Type 0 where
  pub x : Write
  pub there : slice_get h.writes (n - h.low) ≡ Some x
  pub is : u ≡ update_of a.log.header.state.line n x
  pub stands : Stands a h m

-- what was read, and the group stands on
pub stands_on : (a b c : Core) (m0 m1 m2 : Meaning) (n : ℕ) (u : Update) → Looked a b m0 m1 → IsTrue m0.tells → (h : Holding) → Stands a h m1 → GivesWrite b n m1 u → (IsTrue m2.down → ⊥)
    → ((k : Holding) → Stands b k m1 → IsFalse m2.down → Stands c k m2) → c ≡ b → Fetched a m2 h n u
stands_on a b c m0 m1 m2 n u looked tells h stands gives up on same =
    let back : Stands b h m1 = subst (λ (x : Core). Stands x h m1) (sym looked.core) stands in
    let given = gives.each h back (looked.goes.tells ∙ tells) in
    record {
      x = given.0;
      there = given.1;
      is = given.2 ∙ ap (λ (y : Core). update_of y.log.header.state.line n given.0) looked.core;
      stands = subst (λ (y : Core). Stands y h m2) (same ∙ looked.core) (on h back (false_from_ne_true m2.down up));
    }
