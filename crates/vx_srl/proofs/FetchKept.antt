-- The record of a number that is held, in memory.
use Rattle.std.proofs.Common.{◌≡◌, ℕ, zero, suc, ◌+◌, ◌-◌, ◌*◌, ◌%◌, ◌<◌, ◌≤◌, Some, true, List, [], ◌∷◌, IsTrue, length, take, get_or, refl, sym, ap, subst, arith, length-take}
use Rattle.std.specs.Prelude.{slice_get, nat_lt, ◌&&◌}
use Rattle.std.proofs.lemmas.Bool.{ltb-true}
use Rattle.std.proofs.lemmas.Option.{same_Some, slice_get_read}
use Rattle.std.proofs.lemmas.List.Elements.{recursion_from_All}
use Rattle.std.specs.List.{AllByRecursion}
use Rattle.vx_model.proofs.Tests.{and_left, and_right}
use Rattle.vx_wire.specs.Seals.{digest_of}
use Rattle.vx_srlfmt.specs.Kinds.{Kind}
use Rattle.vx_srlfmt.specs.Records.{CanSpellHead}
use Rattle.vx_srlfmt.specs.declared.header.Header.{Header}
use Rattle.vx_disk.specs.Shelf.{Meaning}
use Rattle.vx_ringlog.specs.Chain.{block}
use Rattle.vx_ringlog.specs.Logs.{State}
use Rattle.vx_ringio.specs.Bodies.{BodyIs, all_blocks, given_of}
use Rattle.vx_ringio.specs.Classes.{is_of_ring}
use Rattle.vx_ringio.specs.Reading.{ReadsAs, ShowsBlocks}
use Rattle.vx_ringio.specs.declared.body.Body.TheVariants.{Differs}
use Rattle.vx_srl.specs.Calls.{Fetches, AgreesWithFront}
use Rattle.vx_srl.specs.Damages.{SeesRecordBody}
use Rattle.vx_srl.specs.Kepts.{IsLogKept}
use Rattle.vx_srl.specs.Rings.{RingOn}
use Rattle.vx_srl.specs.Views.{Log, PlacedFrom, head_number, width_of, widths}
use Rattle.vx_srl.specs.declared.kept.Kept.{Kept}
use Rattle.vx_srl.proofs.FetchRecord.{none_is, none_differ, fetches}
use Rattle.vx_srl.proofs.StageKept.{seen}

first_part : (n : ℕ) (ks : List Kept) (k : ℕ) (x : Kept) → k < n → slice_get ks k ≡ Some x → slice_get (take n ks) k ≡ Some x
first_part zero ks k x low is = absurd (omega (arith, low))
first_part (suc n) [] k x low is = is
first_part (suc n) (y ∷ ks) zero x low is = is
first_part (suc n) (y ∷ ks) (suc k) x low is = first_part n ks k x (omega (arith, low)) is

first_placed : (n ring p : ℕ) (ks : List Kept) → PlacedFrom ring p ks → PlacedFrom ring p (take n ks)
first_placed zero ring p ks placed = tt
first_placed (suc n) ring p [] placed = tt
first_placed (suc n) ring p (k ∷ ks) placed = (placed.0, first_placed n ring ((p + width_of k) % ring) ks placed.1)

-- one record takes no more blocks than all
width_within : (ks : List Kept) (k : ℕ) (x : Kept) → slice_get ks k ≡ Some x → width_of x ≤ widths ks
width_within [] k x is = absurd (none_is x is)
width_within (y ∷ ks) zero x is = omega (arith, ap (λ (z : Kept). width_of z) (same_Some y x is))
width_within (y ∷ ks) (suc k) x is = omega (arith, width_within ks k x is)

spelled_each : (ks : List Kept) (k : ℕ) (x : Kept) → AllByRecursion (λ k. CanSpellHead k.head) ks → slice_get ks k ≡ Some x → CanSpellHead x.head
spelled_each [] k x each is = absurd (none_is x is)
spelled_each (y ∷ ks) zero x each is = subst (λ (z : Kept). CanSpellHead z.head) (same_Some y x is) each.0
spelled_each (y ∷ ks) (suc k) x each is = spelled_each ks k x each.1 is

low_some : (ring : ℕ) (h : Header) → is_of_ring ring h ≡ true → 0 < h.low
low_some ring h is = ltb-true 0 h.low (and_left (nat_lt 0 h.low) (nat_lt h.run (h.stamp + 1)) (and_right (nat_lt h.place ring) (nat_lt 0 h.low && nat_lt h.run (h.stamp + 1)) is))

module _ (unit ring : ℕ) (header : Header) (records : List Kept) (capacity sealed end used : ℕ) (kept : IsLogKept ring header records capacity sealed end used)
    (l : Log) (is : seen unit ring header records sealed ≡ l) (n : ℕ) (low : header.low ≤ n) (high : n ≤ head_number l) (one : Kept) (indexed : one ≡ get_or records (n - header.low) one) where
  under : n - header.low < sealed
  under = omega (arith, low, subst (λ (x : Log). n ≤ head_number x) (sym is) high, length-take sealed records, kept.few, low_some ring header kept.ordered.of_ring)

  in_records : slice_get records (n - header.low) ≡ Some one
  in_records = slice_get_read records (length records) (n - header.low) one refl (omega (arith, under, kept.few)) indexed

  in_held : slice_get l.held (n - l.header.low) ≡ Some one
  in_held = subst (λ (x : Log). slice_get x.held (n - x.header.low) ≡ Some one) is (first_part sealed records (n - header.low) one under in_records)

  held_placed : PlacedFrom l.ring l.header.place l.held
  held_placed = subst (λ (x : Log). PlacedFrom x.ring x.header.place x.held) is (first_placed sealed ring header.place records kept.ordered.placed)

  pub count_within : one.head.count ≤ ring
  count_within = omega (arith, width_within records (n - header.low) one in_records, kept.ordered.fits)

  pub count_few : one.head.count ≤ 16
  count_few = (spelled_each records (n - header.low) one (recursion_from_All (λ k. CanSpellHead k.head) records kept.ordered.heads) in_records).few

  pub agrees : (bytes : List ℕ) → length bytes ≡ 512 * one.head.count → one.head.digest ≡ digest_of bytes
      → AgreesWithFront l n (record { line = one.head.line; number = n; vol = one.head.vol; block = one.head.block; bytes = bytes })
  agrees bytes size digest = record {
    head = one.head;
    front = record { kept = one; there = in_held; is = refl };
    line = refl;
    number = refl;
    vol = refl;
    block = refl;
    size = size;
    digest = digest;
  }

  pub names : (stored : List ℕ) → stored ≡ one.head.digest
      → (m : Meaning) (computed : List ℕ) → (IsTrue m.tells → SeesRecordBody unit ring one.place one.head computed m)
      → (k : Kept) × (slice_get l.held (n - l.header.low) ≡ Some k) × (2 + (one.place + 1) % ring ≡ block l.ring (k.place + 1)) × (stored ≡ k.head.digest)
      × (IsTrue m.tells → SeesRecordBody l.unit l.ring k.place k.head computed m)
  names stored same m computed sees =
      (one, in_held, ap (λ (x : Log). 2 + (one.place + 1) % x.ring) is, same, subst (λ (x : Log). IsTrue m.tells → SeesRecordBody x.unit x.ring one.place one.head computed m) is sees)

  module _ (m : Meaning) (disk : List ℕ) (size : length disk ≡ 512 * one.head.count)
      (shows : (c : ℕ → Kind) → ReadsAs unit ring c m → ShowsBlocks ring c (one.place + 1) (all_blocks disk)) where
    shown : (c : ℕ → Kind) → ReadsAs l.unit l.ring c m → ShowsBlocks l.ring c (one.place + 1) (all_blocks disk)
    shown = subst (λ (x : Log). (c : ℕ → Kind) → ReadsAs x.unit x.ring c m → ShowsBlocks x.ring c (one.place + 1) (all_blocks disk)) is shows

    pub never_differ : (stored computed given : List ℕ) → BodyIs one.head disk given (Differs stored computed) → (s : State) → RingOn l s m → IsTrue m.tells → ⊥
    never_differ stored computed given body = none_differ l (n - l.header.low) one in_held held_placed m disk size shown stored computed body

    pub fetched : (bytes : List ℕ) → bytes ≡ given_of one.head disk
        → Fetches l n m (record { line = one.head.line; number = n; vol = one.head.vol; block = one.head.block; bytes = bytes })
    fetched bytes read_is = fetches l (n - l.header.low) one in_held held_placed m disk size shown n bytes (subst (λ (x : Log). x.header.low ≤ n) is low) refl read_is
