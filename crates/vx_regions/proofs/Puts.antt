-- The putting of a region behind an apply of all that is logged.
use Rattle.std.proofs.Common.{◌≡◌, ◌∙◌, ◌⊎◌, inl, inr, ⊎_elim, ℕ, ◌+◌, ◌<◌, ◌≤◌, Bool, false, [], Option, Some, None, refl, sym, ap, subst, arith}
use Rattle.std.specs.Prelude.{Result, Ok, Err, ltb, if◌then◌else◌}
use Rattle.std.proofs.lemmas.Bool.Decides.{nat_tests}
use Rattle.vx_model.specs.Content.{Content, Write, blocks_in, put}
use Rattle.vx_model.specs.declared.no.No.{No}
use Rattle.vx_model.specs.declared.no.No.TheVariants.{Range}
use Rattle.vx_disk.specs.Moves.{Blocks, Moves, Run, Union}
use Rattle.vx_disk.specs.Shelf.{Image, Meaning}
use Rattle.vx_disk.proofs.Moving.{goes_on, still, wider}
use Rattle.vx_rvg.specs.Groups.{ApplyIs, halted_or, core_applied}
use Rattle.vx_rvg.specs.Holdings.{kept_in, with_content}
use Rattle.vx_rvg.specs.Saves.{SaveIs, reclaim_refusal, reclaimed}
use Rattle.vx_rvg.specs.Stands.{FoundAs, Resting, Rests, Saving, Stands}
use Rattle.vx_rvg.specs.Stores.{IsPartly, StoreIs, StoresInto, Storing, refusal_or, store_blocks, store_refusal, without_records}
use Rattle.vx_rvg.specs.Views.{Core, Waits, last_of, unit_of}
use Rattle.vx_rvg.proofs.RestartMoves.{applied_by}
use Rattle.vx_secondary.specs.Logging.{EndsLogging, SameGroup}
use Rattle.vx_secondary.proofs.Rooms.{applied_ends, applied_step, failed_ends, failed_same, reclaim_ends, reclaim_last, reclaim_step}
use Rattle.vx_secondary.proofs.Steps.{same_self, same_then}
use Rattle.vx_secondary.proofs.Writings.{ends_later}
use Rattle.vx_regions.specs.Regions.{PuttingRegion}

-- nothing was put
pub put_self : (c : Core) (x : Write) (m : Meaning) → PuttingRegion c c x m m
put_self c x m = record { same = same_self c; last = refl; moves = still (Union (Waits c m) (store_blocks c x.volume x.start (blocks_in x.bytes))) (Storing c x m) m }

-- ---- the store

module _ (d e : Core) (m m' : Meaning) (some : 0 < d.log.header.low) (running : d.halted ≡ None) where
  emptied_same : None ≡ reclaim_refusal d (last_of d) → SameGroup d (without_records d) × (last_of (without_records d) ≡ last_of d)
  emptied_same none =
      let is : SaveIs (reclaim_refusal d (last_of d)) d (without_records d) m m (without_records d) (Ok tt) = subst (λ (r : Option No). SaveIs r d (without_records d) m m (without_records d) (Ok tt)) none refl in (
        (reclaim_step d (without_records d) m m (last_of d) refl some running (Ok tt) is (still (Run d.units.srl 0 (d.log.ring + 2)) (Saving d (reclaimed d (last_of d)) m) m)).same,
        omega (arith, reclaim_last d (without_records d) m m (last_of d) refl some running tt is),
      )

  stored_same : (r : Option No) → r ≡ reclaim_refusal d (last_of d) → (result : Result (Unit {0}) No) → StoreIs r d m m' e result → SameGroup d e × (last_of e ≡ last_of d)
  stored_same (Some why) eq result is = subst (λ (k : Core). SameGroup d k × (last_of k ≡ last_of d)) (sym is.1) (same_self d, refl)
  stored_same None eq (Ok done) is = subst (λ (k : Core). SameGroup d k × (last_of k ≡ last_of d)) (sym is.0) (emptied_same eq)
  stored_same None eq (Err why) (inl fails) = (failed_same d e m m' why fails, omega (arith, (failed_ends d e m m' why fails).0))
  stored_same None eq (Err why) (inr fails) =
      let w = emptied_same eq in
      (same_then d (without_records d) e w.0 (failed_same (without_records d) e m m' why fails), omega (arith, w.1, (failed_ends (without_records d) e m m' why fails).0))

  stored_ends : (r : Option No) → r ≡ reclaim_refusal d (last_of d) → (why : No) → StoreIs r d m m' e (Err why) → EndsLogging 0 d e m m' why
  stored_ends (Some limit) eq why is =
      reclaim_ends d e m m' (last_of d) refl some running why (subst (λ (r : Option No). SaveIs r d (reclaimed d (last_of d)) m m' e (Err why)) eq is)
  stored_ends None eq why (inl fails) = failed_ends d e m m' why fails
  stored_ends None eq why (inr fails) =
      ends_later 0 0 d (without_records d) e m m m' why (omega (arith, (emptied_same eq).1)) (λ disk. omega arith) (failed_ends (without_records d) e m m' why fails)

-- what lies within its volume is refused for want of a header alone
refusal_is : (d : Core) (size start count : ℕ) → d.halted ≡ None → start + count ≤ size → store_refusal d size start count ≡ reclaim_refusal d (last_of d)
refusal_is d size start count running within =
    let no : ltb size (start + count) ≡ false = grind (arith, nat_tests) in
    ap (λ (o : Option ℕ). refusal_or (halted_or o (if ltb size (start + count) then Some Range else None)) (reclaim_refusal d (last_of d))) running
    ∙ ap (λ (b : Bool). refusal_or (halted_or None (if b then Some Range else None)) (reclaim_refusal d (last_of d))) no

-- ---- the whole call

module _ (c d : Core) (x : Write) (m mid : Meaning) (last : ℕ) (running : c.halted ≡ None) (one : Moves (Waits c m) (Resting c m) m mid) where
  abbrev all_blocks : Blocks
  all_blocks = Union (Waits c m) (store_blocks c x.volume x.start (blocks_in x.bytes))

  applying : Moves all_blocks (Storing c x m) m mid
  applying =
      wider (Waits c m) all_blocks (Resting c m) (Storing c x m) m mid one (λ u b waits. record { here = inl waits })
      (λ i beside resting. record { each = λ h stands. inl (resting.each h stands) })

  -- the apply was refused
  pub put_stopped : (why : No) → ApplyIs (halted_or c.halted None) c last m mid d (Err why) → PuttingRegion c d x m mid
  put_stopped why is = record {
    same = (applied_step c d m mid last running [] (Err why) is one).same;
    last = omega (arith, (applied_ends c d m mid last running why is).0);
    moves = applying;
  }

  module _ (e : Core) (m' : Meaning) (number : ℕ) (is : ApplyIs (halted_or c.halted None) c last m mid d (Ok number)) (rests : Rests c d m mid) where
    abbrev n : ℕ
    n = (applied_by c.halted c last m mid d number is).0

    made : d ≡ core_applied c number n
    made = (applied_by c.halted c last m mid d number is).1

    running_there : d.halted ≡ None
    running_there = ap (λ (k : Core). k.halted) made ∙ running

    last_there : last_of d ≡ last_of c
    last_there = ap (λ (k : Core). last_of k) made

    pub put_units : d.units ≡ c.units
    put_units = ap (λ (k : Core). k.units) made

    within_all : (u b : ℕ) → store_blocks d x.volume x.start (blocks_in x.bytes) u b → all_blocks u b
    within_all u b here = at (subst (λ (k : Core). store_blocks k x.volume x.start (blocks_in x.bytes) u b) made here) where
      at : store_blocks (core_applied c number n) x.volume x.start (blocks_in x.bytes) u b → all_blocks u b
      at here = ⊎_elim (λ gives. record { here = inr (record { here = inl (record { holds = gives.holds; run = gives.run }) }) }) (λ run. record { here = inr (record { here = inr run }) }) here.here

    since : (i : Image) → Storing d x mid i → Storing c x m i
    since i storing = record {
      each = λ h stands.
          subst (λ (k : Core). FoundAs k i h ⊎ ((a : Content) × IsPartly h.content x a × FoundAs (without_records k) i (with_content a (kept_in (without_records k) h)))) made
          (storing.each h (rests.each h stands));
    }

    pub put_stores : StoresInto d e x mid m' → StoresInto c e x m m'
    put_stores stores = record {
      each = λ h stands. subst (λ (k : Core). Stands e (with_content (put h.content x) (kept_in (without_records k) h)) m') made (stores.each h (rests.each h stands));
    }

    module _ (bound : x.start + blocks_in x.bytes ≤ m.size (unit_of c.units.vols x.volume)) (some : 0 < c.log.header.low) where
      abbrev size : ℕ
      size = mid.size (unit_of d.units.vols x.volume)

      within : x.start + blocks_in x.bytes ≤ mid.size (unit_of d.units.vols x.volume)
      within = omega (arith, bound, one.size (unit_of d.units.vols x.volume), ap (λ (k : Core). m.size (unit_of k.units.vols x.volume)) made)

      some_there : 0 < d.log.header.low
      some_there = omega (arith, some, ap (λ (k : Core). k.log.header.low) made)

      pub put_step : (result : Result (Unit {0}) No) → StoreIs (store_refusal d size x.start (blocks_in x.bytes)) d mid m' e result
          → Moves (store_blocks d x.volume x.start (blocks_in x.bytes)) (Storing d x mid) mid m' → PuttingRegion c e x m m'
      put_step result answers two =
          let stored = stored_same d e mid m' some_there running_there (store_refusal d size x.start (blocks_in x.bytes)) (refusal_is d size x.start (blocks_in x.bytes) running_there within) result answers in
          record {
            same = same_then c d e (applied_step c d m mid last running [] (Ok number) is one).same stored.0;
            last = stored.1 ∙ last_there;
            moves = goes_on all_blocks (store_blocks d x.volume x.start (blocks_in x.bytes)) (Storing c x m) (Storing d x mid) m mid m' applying two within_all (λ i beside storing. since i storing);
          }

      pub put_ends : (why : No) → StoreIs (store_refusal d size x.start (blocks_in x.bytes)) d mid m' e (Err why) → EndsLogging 0 c e m m' why
      put_ends why answers =
          ends_later 0 0 c d e m mid m' why (omega (arith, last_there)) one.disk_faults
          (stored_ends d e mid m' some_there running_there (store_refusal d size x.start (blocks_in x.bytes)) (refusal_is d size x.start (blocks_in x.bytes) running_there within) why answers)
