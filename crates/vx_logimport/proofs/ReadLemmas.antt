-- Logs that were read.
use Rattle.std.proofs.Common.{◌≡◌, ◌⊎◌, inl, inr, ℕ, zero, suc, ◌+◌, ◌≤◌, Bool, true, false, IsTrue, Option, Some, None, List, [], ◌∷◌, ◌++◌, length, refl, sym, ◌∙◌, subst, arith}
use Rattle.std.specs.Prelude.{slice_get}
use Rattle.vx_config.specs.declared.config.Config.{Config}
use Rattle.vx_config.specs.declared.entry.VolumeLog.TheVariants.{Drl}
use Rattle.vx_disk.proofs.Causing.{Rose_after, Rose_before}
use Rattle.vx_disk.specs.Shelf.{Goes, Meaning, Nothing}
use Rattle.vx_drl.specs.Dirty.{Dirty}
use Rattle.vx_grouplogs.specs.Loading.{TakesUp}
use Rattle.vx_groupmaps.specs.Loading.{DeviceRose, on_failed_disk}
use Rattle.vx_logs.specs.declared.logs.Logs.{Logs}
use Rattle.vx_volume.proofs.ReadRuns.{still}
use Rattle.vx_group.proofs.MendLemmas.{same_Goes}
use Rattle.vx_logimport.specs.Marked.{AreDirtyLogs, LogRead, LogsRead, dirty_logs, log_within}
use Rattle.vx_logimport.specs.Rests.{rests}

-- one that was taken up, or is lost
pub read_of : (good : ℕ) (told : List Bool) (c : Config) (v : ℕ) (o : Option Dirty) (gone : Bool) (m m' : Meaning) → ((d : Dirty) → o ≡ Some d → d.held ≡ 65) → log_within good c v Drl ≡ true → rests told v ≡ true → TakesUp c v o gone m m' → LogRead good told c v o m m'
read_of good told c v None true m m' full within may takes = by takes.2
  where
    by : (on_failed_disk c v Drl ≡ true) ⊎ DeviceRose m m' → LogRead good told c v None m m'
    by (inl failed) = inr (inl failed)
    by (inr rose) = inr (inr (inl rose))
read_of good told c v None false m m' full within may takes = inl takes.0
read_of good told c v (Some d) true m m' full within may takes = absurd (let clash : Some d ≡ None = takes.0 in cc)
read_of good told c v (Some d) false m m' full within may takes = (takes.0.0, takes.0.1, takes.0.2, let held = full d refl in omega (arith, held), within, may)

-- behind reads that changed nothing, and left the shelf up
pub read_before : (good : ℕ) (told : List Bool) (c : Config) (v : ℕ) (o : Option Dirty) (m m1 m2 : Meaning) → Goes Nothing m m1 → (IsTrue m1.down → ⊥) → LogRead good told c v o m1 m2 → LogRead good told c v o m m2
read_before good told c v None m m1 m2 goes up (inl unused) = inl unused
read_before good told c v None m m1 m2 goes up (inr (inl failed)) = inr (inl failed)
read_before good told c v None m m1 m2 goes up (inr (inr (inl rose))) = inr (inr (inl (record { disk = rose.disk; rose = Rose_before (m.disk_faults rose.disk) (m1.disk_faults rose.disk) (m2.disk_faults rose.disk) (goes.disk_faults rose.disk) rose.rose })))
read_before good told c v None m m1 m2 goes up (inr (inr (inr none))) = inr (inr (inr none))
read_before good told c v (Some d) m m1 m2 goes up read = (
  read.0,
  read.1,
  record {
    each = λ tells k lt. elim (goes.reads d.map.unit _ _ (read.2.each (goes.tells ∙ tells) k lt)) [
      | inl (inl was) ↦ was
      | inl (inr none) ↦ absurd none
      | inr down ↦ absurd (up down)
    ];
  },
  read.3,
  read.4,
  read.5,
)

-- before calls
pub read_behind : (good : ℕ) (told : List Bool) (c : Config) (v : ℕ) (o : Option Dirty) (m m1 m2 : Meaning) → ((d : ℕ) → m1.disk_faults d ≤ m2.disk_faults d) → LogRead good told c v o m m1 → LogRead good told c v o m m2
read_behind good told c v None m m1 m2 more (inl unused) = inl unused
read_behind good told c v None m m1 m2 more (inr (inl failed)) = inr (inl failed)
read_behind good told c v None m m1 m2 more (inr (inr (inl rose))) = inr (inr (inl (record { disk = rose.disk; rose = Rose_after (m.disk_faults rose.disk) (m1.disk_faults rose.disk) (m2.disk_faults rose.disk) rose.rose (more rose.disk) })))
read_behind good told c v None m m1 m2 more (inr (inr (inr none))) = inr (inr (inr none))
read_behind good told c v (Some d) m m1 m2 more read = read

-- ---- one log more

pub more_at : (logs : List Logs) (l : Logs) (P : ℕ → Option Logs → Type 0) → ((k : ℕ) → P k (slice_get logs k)) → P (length logs) (Some l) → ((k : ℕ) → P k None) → (v : ℕ) → P v (slice_get (logs ++ (l ∷ [])) v)
more_at [] l P each new none zero = new
more_at [] l P each new none (suc v) = none (suc v)
more_at (x ∷ ls) l P each new none zero = each 0
more_at (x ∷ ls) l P each new none (suc v) = more_at ls l (λ k. P (suc k)) (λ k. each (suc k)) new (λ k. none (suc k)) v

-- what holds of each log and of one more
pub each_more : (logs : List Logs) (l : Logs) (Q : ℕ → Logs → Type 0) → ((k : ℕ) (x : Logs) → slice_get logs k ≡ Some x → Q k x) → Q (length logs) l → (v : ℕ) (x : Logs) → slice_get (logs ++ (l ∷ [])) v ≡ Some x → Q v x
each_more logs l Q each new = more_at logs l (λ k o. (x : Logs) → o ≡ Some x → Q k x) each (λ x is. let same : l ≡ x = cc in subst (Q (length logs)) same new) (λ k x is. absurd (let clash : None ≡ Some x = is in cc))

none_read : (good : ℕ) (told : List Bool) (c : Config) (m m' : Meaning) → LogsRead good told c [] m m'
none_read good told c m m' = record { each = λ v l is. absurd (let clash : None ≡ Some l = is in cc) }

one_read : (good : ℕ) (told : List Bool) (c : Config) (logs : List Logs) (l : Logs) (n : ℕ) (m m' : Meaning) → LogsRead good told c logs m m' → n ≡ length logs → LogRead good told c n l.drl m m' → LogsRead good told c (logs ++ (l ∷ [])) m m'
one_read good told c logs l n m m' read is new = record {
  each = each_more logs l (λ k x. LogRead good told c k x.drl m m') read.each (subst (λ (k : ℕ). LogRead good told c k l.drl m m') is new);
}

all_behind : (good : ℕ) (told : List Bool) (c : Config) (logs : List Logs) (m m1 m2 : Meaning) → ((d : ℕ) → m1.disk_faults d ≤ m2.disk_faults d) → LogsRead good told c logs m m1 → LogsRead good told c logs m m2
all_behind good told c logs m m1 m2 more read = record { each = λ v l is. read_behind good told c v l.drl m m1 m2 more (read.each v l is) }

pub all_read : (good : ℕ) (told : List Bool) (c : Config) (logs : List Logs) (m m1 m2 last : Meaning) → Goes Nothing m m1 → (IsTrue m1.down → ⊥) → ((d : ℕ) → m2.disk_faults d ≤ last.disk_faults d) → LogsRead good told c logs m1 m2 → LogsRead good told c logs m last
all_read good told c logs m m1 m2 last goes up more read = record { each = λ v l is. read_behind good told c v l.drl m m2 last more (read_before good told c v l.drl m m1 m2 goes up (read.each v l is)) }

pub none_dirty : AreDirtyLogs 0 []
none_dirty = record { many = refl; plain = λ v l is. absurd (let clash : None ≡ Some l = is in cc) }

long_more : (logs : List Logs) (l : Logs) → length (logs ++ (l ∷ [])) ≡ length logs + 1
long_more [] l = refl
long_more (x ∷ ls) l = let more = long_more ls l in omega (arith, more)

pub one_dirty : (logs : List Logs) (o : Option Dirty) (n : ℕ) → AreDirtyLogs n logs → AreDirtyLogs (n + 1) (logs ++ (dirty_logs o ∷ []))
one_dirty logs o n are = record {
  many = let more = long_more logs (dirty_logs o) in let many = are.many in omega (arith, more, many);
  plain = each_more logs (dirty_logs o) (λ k x. x.fmr ≡ None) are.plain refl;
}

-- ---- logs that are read one after the other

-- those of the first volumes were read, and nothing else was done
pub record ReadSoFar (good : ℕ) (told : List Bool) (c : Config) (n : ℕ) (logs : List Logs) (old m : Meaning) : Type 0 where
  pub read : LogsRead good told c logs old m
  pub are : AreDirtyLogs n logs
  pub goes : Goes Nothing old m

pub none_so_far : (good : ℕ) (told : List Bool) (c : Config) (m : Meaning) → ReadSoFar good told c 0 [] m m
none_so_far good told c m = record { read = none_read good told c m m; are = none_dirty; goes = same_Goes m }

pub one_so_far : (good : ℕ) (told : List Bool) (c : Config) (n : ℕ) (logs : List Logs) (o : Option Dirty) (old m m' : Meaning) → ReadSoFar good told c n logs old m → (IsTrue m.down → ⊥) → LogRead good told c n o m m' → Goes Nothing m m' → ReadSoFar good told c (n + 1) (logs ++ (dirty_logs o ∷ [])) old m'
one_so_far good told c n logs o old m m' was up read goes = record {
  read = one_read good told c logs (dirty_logs o) n old m' (all_behind good told c logs old m m' goes.disk_faults was.read) (sym was.are.many) (read_before good told c n o old m m' was.goes up read);
  are = one_dirty logs o n was.are;
  goes = still old m m' was.goes goes;
}
