-- A group whose log gives up its records and into whose volumes blocks are then put, as one call.
use Rattle.std.proofs.Common.{◌≡◌, ◌⊎◌, inl, inr, ℕ, ◌+◌, ◌<◌, ◌≤◌, ◌&&◌, Bool, true, false, Option, Some, None, Result, Ok, Err, OnOk, List, refl, sym, ◌∙◌, ap, subst, arith}
use Rattle.std.specs.Prelude.{if◌then◌else◌, leb, ◌||◌}
use Rattle.std.proofs.lemmas.Bool.Decides.{nat_tests}
use Rattle.vx_model.specs.Content.{Content, Write, put, blocks_in}
use Rattle.vx_model.specs.declared.no.No.{No}
use Rattle.vx_model.specs.declared.no.No.TheVariants.{Limit}
use Rattle.vx_model.specs.declared.no.Counted.TheVariants.{Number}
use Rattle.vx_disk.specs.Moves.{Moves, Run}
use Rattle.vx_disk.specs.Shelf.{Image, Meaning}
use Rattle.vx_disk.proofs.Moving.{goes_on, wider}
use Rattle.vx_srl.specs.Views.{Log, most_number}
use Rattle.vx_rvg.specs.Groups.{halted_or}
use Rattle.vx_rvg.specs.Holdings.{Holding, kept_in, with_content}
use Rattle.vx_rvg.specs.Saves.{SaveIs, reclaim_refusal, reclaimed}
use Rattle.vx_rvg.specs.Stands.{FoundAs, Retains, Saving, Stands}
use Rattle.vx_rvg.specs.Stores.{IsPartly, Puts, PutsInto, Putting, StoreIs, Stores, StoresInto, Storing, store_blocks, without_records}
use Rattle.vx_rvg.specs.Views.{Core, last_of, unit_of}
use Rattle.vx_rvg.proofs.ContentFacts.{kept_all}
use Rattle.vx_rvg.proofs.WriteStands.{write_at}

-- ---- where the log holds no record

not_most : (low last : ℕ) → last < low → leb low last ≡ false
not_most low last less = grind (arith, nat_tests)

log_kept : (t : Bool) (l g : Log) → t ≡ false → (if t then g else l) ≡ l
log_kept true l g is = cc
log_kept false l g is = refl

none_left : (t rest : Bool) → t ≡ false → (if t && rest then Some (Limit Number most_number) else None) ≡ None
none_left true rest is = cc
none_left false rest is = refl

none_up : (halted : Option ℕ) (rest : Option No) → halted ≡ None → rest ≡ None → halted_or halted rest ≡ None
none_up (Some disk) rest up none = cc
none_up None rest up none = none

module _ (core : Core) (empty : last_of core < core.log.header.low) where
  pub as_it_is : without_records core ≡ core
  as_it_is = ap (λ (l : Log). record core { log = l }) (log_kept (leb core.log.header.low (last_of core)) core.log _ (not_most core.log.header.low (last_of core) empty))

  pub not_refused : core.halted ≡ None → reclaim_refusal core (last_of core) ≡ None
  not_refused running =
      none_up core.halted _ running
      (none_left (leb core.log.header.low (last_of core)) (leb most_number core.log.header.stamp || leb most_number (last_of core)) (not_most core.log.header.low (last_of core) empty))

  puts_stores : (m m' : Meaning) (core' : Core) (r : Result (Unit {0}) No) → Puts core m m' core' r → Stores core m m' core' r
  puts_stores m m' core' (Ok done) puts = (puts.0 ∙ sym as_it_is, puts.1)
  puts_stores m m' core' (Err why) puts = inl puts

  pub empty_stores : core.halted ≡ None → (m m' : Meaning) (core' : Core) (r : Result (Unit {0}) No) → Puts core m m' core' r → StoreIs (reclaim_refusal core (last_of core)) core m m' core' r
  empty_stores running m m' core' r puts = subst (λ (o : Option No). StoreIs o core m m' core' r) (sym (not_refused running)) (puts_stores m m' core' r puts)

  pub empty_moves : (vol start : ℕ) (bytes : List ℕ) (m m' : Meaning) → Moves (Run (unit_of core.units.vols vol) start (blocks_in bytes)) (Putting core (write_at vol start bytes) m) m m'
      → Moves (store_blocks core vol start (blocks_in bytes)) (Storing core (write_at vol start bytes) m) m m'
  empty_moves vol start bytes m m' moves =
      wider (Run (unit_of core.units.vols vol) start (blocks_in bytes)) (store_blocks core vol start (blocks_in bytes)) (Putting core (write_at vol start bytes) m) (Storing core (write_at vol start bytes) m) m m' moves
      (λ u b run. record { here = inr run })
      (λ i beside putting. record {
        each = λ h stands.
            let found : (d : Content) × IsPartly h.content (write_at vol start bytes) d × FoundAs core i (with_content d h) = putting.each h stands in
            let same : h ≡ kept_in (without_records core) h = sym (kept_all core h m stands) ∙ ap (λ (k : Core). kept_in k h) (sym as_it_is) in
            let there : FoundAs core i (with_content found.0 (kept_in (without_records core) h)) = subst (λ (g : Holding). FoundAs core i (with_content found.0 g)) same found.2 in
            inr (found.0, found.1, subst (λ (k : Core). FoundAs k i (with_content found.0 (kept_in (without_records core) h))) (sym as_it_is) there);
      })

  pub empty_puts : (after : Core) (x : Write) (m m' : Meaning) → PutsInto core after x m m' → StoresInto core after x m m'
  empty_puts after x m m' puts = record {
    each = λ h stands.
        let same : h ≡ kept_in (without_records core) h = sym (kept_all core h m stands) ∙ ap (λ (k : Core). kept_in k h) (sym as_it_is) in
        subst (λ (g : Holding). Stands after (with_content (put h.content x) g) m') same (puts.each h stands);
  }

  pub empty_puts_ok : (after : Core) (x : Write) (m m' : Meaning) (r : Result (Unit {0}) No) → OnOk r (PutsInto core after x m m') → OnOk r (StoresInto core after x m m')
  empty_puts_ok after x m m' (Ok done) puts = empty_puts after x m m' puts
  empty_puts_ok after x m m' (Err why) puts = puts

-- ---- what the group shows of itself

pub is_empty : (v core : Core) → v ≡ core → last_of v < v.log.header.low → last_of core < core.log.header.low
is_empty v core view less = subst (λ (k : Core). last_of k < k.log.header.low) view less

pub is_held : (v core : Core) → v ≡ core → v.log.header.low ≤ last_of v → core.log.header.low ≤ last_of core
is_held v core view low = subst (λ (k : Core). k.log.header.low ≤ last_of k) view low

pub at_its_last : (v core core' : Core) (last : ℕ) → v ≡ core → last ≡ last_of v → core' ≡ reclaimed core last → core' ≡ without_records core
at_its_last v core core' last view last_is is = is ∙ ap (λ (n : ℕ). reclaimed core n) (last_is ∙ ap (λ (k : Core). last_of k) view)

-- ---- where it gives them up

-- a reclaim that was answered
pub given_up : (refusal : Option No) (core after core' : Core) (m mid : Meaning) (done : Unit {0}) → SaveIs refusal core after m mid core' (Ok done) → core' ≡ after
given_up (Some why) core after core' m mid done is = let wrong : _ = is.0 in cc
given_up None core after core' m mid done is = is

all_of_it : (c : Content) (x : Write) → IsPartly c x c
all_of_it c x = record { size = λ v. refl; each = λ v b. inl refl }

module _ (core : Core) (vol start : ℕ) (bytes : List ℕ) (holds : core.log.header.low ≤ last_of core) (m mid : Meaning)
    (moves : Moves (Run core.units.srl 0 (core.log.ring + 2)) (Saving core (without_records core) m) m mid) where
  abbrev own : Write
  own = write_at vol start bytes

  still_or_given_up : (i : Image) (h : Holding) → FoundAs core i h ⊎ FoundAs (without_records core) i (kept_in (without_records core) h)
      → FoundAs core i h ⊎ ((d : Content) × IsPartly h.content own d × FoundAs (without_records core) i (with_content d (kept_in (without_records core) h)))
  still_or_given_up i h (inl old) = inl old
  still_or_given_up i h (inr new) = inr (h.content, all_of_it h.content own, new)

  pub give_up_part : Moves (store_blocks core vol start (blocks_in bytes)) (Storing core (write_at vol start bytes) m) m mid
  give_up_part =
      wider (Run core.units.srl 0 (core.log.ring + 2)) (store_blocks core vol start (blocks_in bytes)) (Saving core (without_records core) m) (Storing core own m) m mid moves
      (λ u b run. record { here = inl (record { holds = holds; run = run }) })
      (λ i beside saving. record { each = λ h stands. still_or_given_up i h (saving.each h stands) })

  module _ (core' : Core) (is : core' ≡ without_records core) (retains : Retains core core' m mid) (new : Meaning) where
    put_since : (i : Image) → Putting core' own mid i → Storing core own m i
    put_since i putting = record {
      each = λ h stands.
          inr (subst (λ (k : Core). (d : Content) × IsPartly h.content own d × FoundAs k i (with_content d (kept_in k h))) is (putting.each (kept_in core' h) (retains.each h stands)));
    }

    pub put_part : Moves (Run (unit_of core'.units.vols vol) start (blocks_in bytes)) (Putting core' (write_at vol start bytes) mid) mid new
        → Moves (store_blocks core vol start (blocks_in bytes)) (Storing core (write_at vol start bytes) m) m new
    put_part two =
        goes_on (store_blocks core vol start (blocks_in bytes)) (Run (unit_of core'.units.vols vol) start (blocks_in bytes)) (Storing core own m) (Putting core' own mid) m mid new give_up_part two
        (λ u b run. record { here = inr (subst (λ (k : Core). Run (unit_of k.units.vols vol) start (blocks_in bytes) u b) is run) })
        (λ i beside putting. put_since i putting)

-- what the group held before, it holds with the write in its content, but for the writes that its log gave up
pub put_stands : (core core' : Core) (x : Write) (m mid : Meaning) → core' ≡ without_records core → Retains core core' m mid → (new : Meaning) (core'' : Core) (r : Result (Unit {0}) No)
    → OnOk r (PutsInto core' core'' x mid new) → OnOk r (StoresInto core core'' x m new)
put_stands core core' x m mid is retains new core'' (Ok done) puts = record {
  each = λ h was. subst (λ (k : Core). Stands core'' (with_content (put h.content x) (kept_in k h)) new) is (puts.each (kept_in core' h) (retains.each h was));
}
put_stands core core' x m mid is retains new core'' (Err why) puts = puts
