-- The calls of a header that has more stored, and none where no more is.
use Rattle.std.proofs.Common.{◌≡◌, ◌<◌, ◌≤◌, ℕ, Bool, true, false, sym, subst, arith}
use Rattle.std.specs.Prelude.{Result, Ok, Err, ltb, if◌then◌else◌}
use Rattle.std.proofs.lemmas.Bool.Decides.{nat_tests}
use Rattle.vx_disk.specs.declared.shelf.Shelf.{Ghosts}
use Rattle.vx_events.specs.declared.said.Said.{Said}
use Rattle.vx_events.specs.declared.said.Said.TheVariants.{Done}
use Rattle.vx_diskset.specs.Asked.{HeadUnder, stored_calls}
use Rattle.vx_diskset.specs.declared.disk_set.DiskSet.{DiskSet}
use Rattle.vx_diskset.proofs.HeadCalls.{head_none}

-- an answer is no stop
pub never_stops : {T E : Type 0} (value : T) (stop : E) → (let r : Result T E = Ok value in r ≡ Err stop) → ⊥
never_stops value stop is = cc

module _ {R : Type 0} {g : Ghosts R} where
  pub stores_none : (old stored : ℕ) (e : DiskSet R g) → stored ≤ old → HeadUnder (stored_calls old stored) Done e e
  stores_none old stored e few = subst (λ (b : Bool). HeadUnder (if b then 2 else 0) Done e e) (sym (not_less old stored few)) (head_none e)
    where
      not_less : (a b : ℕ) → b ≤ a → ltb a b ≡ false
      not_less a b le = grind (arith, nat_tests)

  pub stores_more : (old stored : ℕ) (said : Said) (e new : DiskSet R g) → old < stored → HeadUnder 2 said e new → HeadUnder (stored_calls old stored) said e new
  stores_more old stored said e new more headed = subst (λ (b : Bool). HeadUnder (if b then 2 else 0) said e new) (sym (less old stored more)) headed
    where
      less : (a b : ℕ) → a < b → ltb a b ≡ true
      less a b le = grind (arith, nat_tests)

  -- by numbers that are the same
  pub stores_as : (old old' stored stored' : ℕ) (said : Said) (e new : DiskSet R g) → old ≡ old' → stored ≡ stored' → HeadUnder (stored_calls old stored) said e new → HeadUnder (stored_calls old' stored') said e new
  stores_as old old' stored stored' said e new one two headed = subst (λ (k : ℕ). HeadUnder (stored_calls old' k) said e new) two (subst (λ (k : ℕ). HeadUnder (stored_calls k stored) said e new) one headed)
