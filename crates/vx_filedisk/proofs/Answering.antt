-- What a call answers, and what the rack's counts and disks are after it.
use Rattle.std.proofs.Common.{◌≡◌, sym, subst, inl, inr, ⊎_elim, ℕ, ◌≤◌, Option, None, Some, Result, Ok, Err, OnOk, arith}
use Rattle.std.proofs.lemmas.Bool.{cases_eq}
use Rattle.vx_disk.specs.declared.shelf.ShelfError.{ShelfError}
use Rattle.vx_disk.specs.declared.shelf.ShelfError.TheVariants.{Fault, Down}
use Rattle.vx_disk.specs.Causes.{Calls, OnDisks}
use Rattle.vx_disk.specs.Disks.{Disks}
use Rattle.vx_disk.specs.Shelf.{Goes, Meaning, Values}
use Rattle.vx_filedisk.specs.declared.files.DiskFiles.{DiskFiles}
use Rattle.vx_filedisk.specs.Counting.{CountsNoted}
use Rattle.vx_filedisk.specs.Following.{FollowsFiles}
use Rattle.vx_filedisk.specs.Hosts.{blank_disks, host_meaning, shown}
use Rattle.vx_filedisk.specs.Laws.{never}
use Rattle.vx_filedisk.proofs.Hosts.{blank_Crashed, blank_Untouched, memory_Goes}

-- what follows from an Ok
pub on_ok : {T E : Type 0} {P Q : Type 0} (r : Result T E) → OnOk r P → (P → Q) → OnOk r Q
on_ok (Ok x) p f = f p
on_ok (Err e) p f = tt

-- of a call on files the fuse is told, and nothing of blocks
pub files_Calls : {T : Type 0} (f : DiskFiles) (c : ℕ → ℕ) (a : Meaning) (step untold : Disks → Disks → Type 0) (o n : Disks) (r : Result T ShelfError) → Calls a step o n r
    → Calls (host_meaning (Some f) c a) untold (blank_disks o) (blank_disks n) r
files_Calls f c a step untold o n (Ok x) calls = ((λ tells. never tells), calls.1)
files_Calls f c a step untold o n (Err (Fault disk)) calls = calls
files_Calls f c a step untold o n (Err Down) calls =
    ⊎_elim (λ was. inl (was.0, blank_Untouched o n was.1)) (λ out. inr (record { pick = out.pick; out = out.out; crash = blank_Crashed a.size (λ u. f.blocks) out.pick o n out.crash })) calls

-- the files answered, and the call that was passed before them is known
module _ {T : Type 0} (unit : ℕ) where
  pub follow_Calls : (f : DiskFiles) (c : ℕ → ℕ) (a : Meaning) (step untold : Disks → Disks → Type 0) (o n : Disks) (passed r : Result T ShelfError) → FollowsFiles unit passed r
      → Calls a step o n passed → Calls (host_meaning (Some f) c a) untold (blank_disks o) (blank_disks n) r
  follow_Calls f c a step untold o n (Ok x) (Ok y) follows calls = ((λ tells. never tells), calls.1)
  follow_Calls f c a step untold o n (Ok x) (Err (Fault disk)) follows calls = calls.1
  follow_Calls f c a step untold o n (Ok x) (Err Down) follows calls = absurd follows
  follow_Calls f c a step untold o n (Err e) (Ok y) follows calls = absurd follows
  follow_Calls f c a step untold o n (Err e) (Err g) follows calls =
      subst (λ x. Calls {T = T} (host_meaning (Some f) c a) untold (blank_disks o) (blank_disks n) (Err x)) (sym follows) (files_Calls {T = T} f c a step untold o n (Err e) calls)

-- no count fell
pub counted_grew : {T : Type 0} (unit : ℕ) (r : Result T ShelfError) (c d : ℕ → ℕ) → CountsNoted unit r c d → (u : ℕ) → c u ≤ d u
counted_grew unit (Ok x) c d counted u = omega (arith, counted.same u)
counted_grew unit (Err (Fault disk)) c d counted u = elim (cases_eq u unit) [
  | inl here ↦ subst (λ n. c n ≤ d n) (sym here) counted.rose.fell_not
  | inr other ↦ omega (arith, counted.others u other)
]
counted_grew unit (Err Down) c d counted u = omega (arith, counted.same u)

-- the same of a rack that is known to be in memory, or in files
pub in_memory_Goes : {T : Type 0} (files : Option DiskFiles) → files ≡ None → (c d : ℕ → ℕ) (a b : Meaning) (written : Values) (unit : ℕ) (r : Result T ShelfError) → Goes written a b
    → CountsNoted unit r c d → Goes written (host_meaning files c a) (host_meaning files d b)
in_memory_Goes files is c d a b written unit r goes counted =
    subst (λ f. Goes written (host_meaning f c a) (host_meaning f d b)) (sym is) (memory_Goes c d a b written goes (counted_grew unit r c d counted))

pub in_files_disks : {T : Type 0} (files : Option DiskFiles) (f : DiskFiles) → files ≡ Some f → (c : ℕ → ℕ) (a : Meaning) (step untold : Disks → Disks → Type 0) (o n : Disks) (unit : ℕ)
    (passed r : Result T ShelfError) → FollowsFiles unit passed r → Calls a step o n passed × ((u : ℕ) → n.failing u ≡ o.failing u)
    → OnDisks (shown files (Some o)) (shown files (Some n)) (λ p q. Calls (host_meaning files c a) untold p q r)
in_files_disks files f is c a step untold o n unit passed r follows calls =
    subst (λ fs. OnDisks (shown fs (Some o)) (shown fs (Some n)) (λ p q. Calls (host_meaning fs c a) untold p q r)) (sym is)
    (follow_Calls unit f c a step untold o n passed r follows calls.0, calls.1)
