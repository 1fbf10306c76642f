-- One record whose blocks are written to their volume.
use Rattle.std.proofs.Common.{◌≡◌, ⊎_elim, ℕ, ◌+◌, ◌-◌, ◌*◌, ◌<◌, ◌≤◌, Bool, true, List, length, drop, get_or, Option, Some, MatchOption, Contains, sym, ◌∙◌, ap, subst, arith, length-drop}
use Rattle.std.specs.Prelude.{if◌then◌else◌, leb, slice_get}
use Rattle.std.proofs.lemmas.Bool.{cases_lt, le-ltb}
use Rattle.std.proofs.lemmas.Bool.Decides.{nat_tests}
use Rattle.std.proofs.lemmas.List.{get_or-drop}
use Rattle.std.proofs.lemmas.List.Elements.{All-contains, Contains-append_left, Contains-get_or}
use Rattle.std.proofs.lemmas.Option.{get_or_from_slice_get, slice_get_within}
use Rattle.vx_model.specs.Content.{block_of}
use Rattle.vx_srlfmt.specs.Records.{CanSpellHead}
use Rattle.vx_srlfmt.specs.declared.record.RecordHead.{RecordHead}
use Rattle.vx_disk.specs.Moves.{Anything, Moves}
use Rattle.vx_disk.specs.Shelf.{Covers, Goes, Meaning, Wrote, Written}
use Rattle.vx_disk.proofs.Moving.{of_goes}
use Rattle.vx_overlay.specs.Pending.{newest}
use Rattle.vx_srl.specs.Views.{IsFront, IsOrdered, Log, all_of}
use Rattle.vx_srl.specs.declared.kept.Kept.{Kept}
use Rattle.vx_rvg.specs.Brings.{BringsOne, IsPut, ReadsNewest}
use Rattle.vx_rvg.specs.Groups.{IsPatched}
use Rattle.vx_rvg.specs.Views.{Core, UnitsPlaced, Waits, applied_count, unit_of, volume_size}
use Rattle.vx_rvg.proofs.WriteStands.{volume_size_is}

pub none_there : (vols : List ℕ) (m : Meaning) (v : ℕ) → length vols ≤ v → volume_size vols m v ≡ 0
none_there vols m v high = ap (λ (t : Bool). if t then m.size (unit_of vols v) else 0) (le-ltb v (length vols) high)

-- the volume of a block that a record puts is there
pub put_there_is : (vols : List ℕ) (m : Meaning) (k : Kept) (v b : ℕ) → IsPut (volume_size vols m) k v b → v < length vols
put_there_is vols m k v b put =
    ⊎_elim (λ there. there) (λ high. absurd (omega (arith, put.first, put.last, put.within, none_there vols m v high))) (cases_lt v (length vols))

fits : (a b : ℕ) → a ≤ b → leb a b ≡ true
fits a b le = grind (arith, nat_tests)

-- the record of a number behind a list's first ones is among the others
pub among_rest : (ks : List Kept) (a i : ℕ) (k : Kept) → a ≤ i → slice_get ks i ≡ Some k → Contains (drop a ks) k
among_rest ks a i k low is =
    let at : a + (i - a) ≡ i = omega (arith, low) in
    let item : get_or (drop a ks) (i - a) k ≡ k = get_or-drop a ks (i - a) k ∙ ap (λ (j : ℕ). get_or ks j k) at ∙ get_or_from_slice_get ks i k k is in
    subst (λ (x : Kept). Contains (drop a ks) x) item (Contains-get_or (drop a ks) (i - a) k (omega (arith, low, slice_get_within ks i k is, length-drop a ks)))

-- the record of a header that was looked up
abbrev pub kept_at : (l : Log) (n : ℕ) (head : RecordHead) → IsFront l n head → Kept
kept_at l n head front = record { place = front.kept.place; head = head }

-- a record of a log has 16 blocks at most
pub count_few : (l : Log) (n : ℕ) (head : RecordHead) → IsFront l n head → IsOrdered l.ring l.header (all_of l) → head.count ≤ 16
count_few l n head front ordered =
    let can : CanSpellHead front.kept.head
    = All-contains (λ k. CanSpellHead k.head) (all_of l) front.kept ordered.heads (Contains-append_left l.held l.staged front.kept (among_rest l.held 0 (n - l.header.low) front.kept (omega arith) front.there)) in
    omega (arith, can.few, ap (λ (h : RecordHead). h.count) front.is)

-- v is the group as the code has it
pub kept_there : (v core : Core) (n : ℕ) (head : RecordHead) (front : IsFront v.log n head) → v ≡ core
    → slice_get core.log.held (n - core.log.header.low) ≡ Some (kept_at v.log n head front)
kept_there v core n head front same =
    subst (λ (x : Core). slice_get x.log.held (n - x.log.header.low) ≡ Some (kept_at v.log n head front)) same
    (front.there ∙ ap (λ (h : RecordHead). Some (record { place = front.kept.place; head = h })) (sym front.is))

pub patched_in : (v core : Core) (vol start : ℕ) (before bytes : List ℕ) → v ≡ core → IsPatched v.pending.entries vol start before bytes → IsPatched core.pending.entries vol start before bytes
patched_in v core vol start before bytes same patched = subst (λ (x : Core). IsPatched x.pending.entries vol start before bytes) same patched

module _ (core : Core) (n : ℕ) (old new : Meaning) (k : Kept) (placed : UnitsPlaced core.units old) (there : slice_get core.log.held (n - core.log.header.low) ≡ Some k)
    (exists : k.head.vol < length core.units.vols) (within : k.head.block + k.head.count ≤ old.size (unit_of core.units.vols k.head.vol))
    (u : ℕ) (unit_is : u ≡ unit_of core.units.vols k.head.vol) (before bytes : List ℕ) (patched : IsPatched core.pending.entries k.head.vol k.head.block before bytes) (long : length before ≡ 512 * k.head.count) where
  inside : k.head.block + k.head.count ≤ volume_size core.units.vols old k.head.vol
  inside = omega (arith, within, volume_size_is core.units.vols old k.head.vol exists)

  written_waits : core.log.header.low ≤ core.applied + 1 → core.applied < n → (w b : ℕ) (x : List ℕ) → Written u k.head.block bytes w b x → Waits core old w b
  written_waits low waits w b x written = record {
    kept = k;
    among = among_rest core.log.held (applied_count core) (n - core.log.header.low) k (omega (arith, low, waits)) there;
    exists = exists;
    there = written.covers.there ∙ unit_is;
    within = inside;
    first = written.covers.first;
    last = omega (arith, written.covers.first, written.covers.last, patched.size, long);
  }

  pub one_moves : core.log.header.low ≤ core.applied + 1 → core.applied < n → Goes (Written u k.head.block bytes) old new → Moves (Waits core old) Anything old new
  one_moves low waits goes = of_goes (Waits core old) Anything (Written u k.head.block bytes) old new goes (written_waits low waits) (λ i each. tt)

  newest_here : (v b : ℕ) (x fresh : List ℕ) → v ≡ k.head.vol → newest core.pending.entries v b ≡ Some fresh → Written u k.head.block bytes (unit_of core.units.vols v) b x → x ≡ fresh
  newest_here v b x fresh same is written =
      let at : k.head.block + (b - k.head.block) ≡ b = omega (arith, written.covers.first) in
      let some : newest core.pending.entries k.head.vol (k.head.block + (b - k.head.block)) ≡ Some fresh
      = ap (λ (j : ℕ). newest core.pending.entries k.head.vol j) at ∙ ap (λ (w : ℕ). newest core.pending.entries w b) (sym same) ∙ is in
      written.value
      ∙ subst (λ (o : Option (List ℕ)). MatchOption o (block_of bytes (b - k.head.block) ≡ block_of before (b - k.head.block)) (λ y. block_of bytes (b - k.head.block) ≡ y)) some
      (patched.each (b - k.head.block) (omega (arith, written.covers.last, patched.size, long)))

  covers : (v b : ℕ) → IsPut (volume_size core.units.vols old) k v b → Covers u k.head.block bytes (unit_of core.units.vols v) b
  covers v b put = record {
    there = ap (λ (w : ℕ). unit_of core.units.vols w) put.volume ∙ sym unit_is;
    first = put.first;
    last = omega (arith, put.first, put.last, patched.size, long);
  }

  module _ (wrote : Wrote u k.head.block bytes old new) where
    here : ReadsNewest core (volume_size core.units.vols old) new k
    here = record {
      each = λ v b fresh put is. record {
        only = λ x reads.
            ⊎_elim (λ written. newest_here v b x fresh put.volume is written) (λ other. absurd (other.0 (covers v b put))) (wrote.each (unit_of core.units.vols v) b x reads);
      };
    }

    others : (j : Kept) → ReadsNewest core (volume_size core.units.vols old) old j → ReadsNewest core (volume_size core.units.vols old) new j
    others j was = record {
      each = λ v b fresh put is. record {
        only = λ x reads.
            ⊎_elim
            (λ written.
            newest_here v b x fresh
            (placed.distinct v k.head.vol (put_there_is core.units.vols old j v b put) exists (written.covers.there ∙ unit_is)) is written)
            (λ other. (was.each v b fresh put is).only x other.1) (wrote.each (unit_of core.units.vols v) b x reads);
      };
    }

    pub one_brings : BringsOne core n old new k.head.count
    one_brings = record {
      kept = k;
      there = there;
      count_is =
          let one : (if leb (k.head.block + k.head.count) (volume_size core.units.vols old k.head.vol) then k.head.count else 0) ≡ k.head.count
          = ap (λ (t : Bool). if t then k.head.count else 0) (fits (k.head.block + k.head.count) (volume_size core.units.vols old k.head.vol) inside) in
          omega (arith, one);
      here = here;
      others = others;
    }
