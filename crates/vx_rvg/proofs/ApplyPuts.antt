-- The blocks that records put, as blocks of a content.
use Rattle.std.proofs.Common.{◌≡◌, ⊎_elim, ℕ, ◌+◌, ◌-◌, List, [], ◌∷◌, length, Option, Some, None, All, refl, sym, ◌∙◌, ap, arith}
use Rattle.std.specs.Prelude.{if◌then◌else◌, leb}
use Rattle.std.proofs.lemmas.Bool.{cases_lt}
use Rattle.std.proofs.lemmas.List.Elements.{All-cons, All-head, All-nil, All-tail}
use Rattle.std.proofs.lemmas.Option.{none-some}
use Rattle.vx_model.specs.Content.{Content, block_of, blocks_in}
use Rattle.vx_srlfmt.specs.declared.record.RecordHead.{RecordHead}
use Rattle.vx_disk.specs.Shelf.{Keeps, Meaning}
use Rattle.vx_overlay.specs.Pending.{newest, newer_or}
use Rattle.vx_overlay.specs.Writes.{blocks_within_of, newest_of, put_there}
use Rattle.vx_overlay.proofs.WriteLemmas.{neither, put_there_at, put_there_in}
use Rattle.vx_ringlog.specs.Records.{Record, given, write_logged}
use Rattle.vx_srl.specs.declared.kept.Kept.{Kept}
use Rattle.vx_srl.proofs.Shared_S1.{Same}
use Rattle.vx_rvg.specs.Brings.{IsPut, KeepsNewest}
use Rattle.vx_rvg.specs.Contents.{HasSizes, writes_of}
use Rattle.vx_rvg.specs.Stands.{IsWholeRecord}
use Rattle.vx_rvg.specs.Views.{Core, blocks_within, unit_of, volume_size}
use Rattle.vx_rvg.proofs.ApplyOne.{none_there}
use Rattle.vx_rvg.proofs.WriteStands.{volume_size_is}

-- as many blocks as its header says
whole_count : (r : Record) → IsWholeRecord r → blocks_in (given r) ≡ r.head.count
whole_count r whole = omega (arith, whole)

module _ (vols : List ℕ) (c : Content) (m : Meaning) (sizes : HasSizes vols c m) where
  pub size_is : (v : ℕ) → c.size v ≡ volume_size vols m v
  size_is v =
      ⊎_elim (λ low. sizes.each v low ∙ sym (volume_size_is vols m v low)) (λ high. sizes.none v high ∙ sym (none_there vols m v high)) (cases_lt v (length vols))

  module _ (r : Record) (k : Kept) (same : r.head ≡ k.head) (whole : IsWholeRecord r) (v b : ℕ) where
    its_count : blocks_in (given r) ≡ k.head.count
    its_count = whole_count r whole ∙ ap (λ (h : RecordHead). h.count) same

    its_block : r.head.block ≡ k.head.block
    its_block = ap (λ (h : RecordHead). h.block) same

    its_vol : r.head.vol ≡ k.head.vol
    its_vol = ap (λ (h : RecordHead). h.vol) same

    its_size : c.size r.head.vol ≡ volume_size vols m k.head.vol
    its_size = ap (λ (w : ℕ). c.size w) its_vol ∙ size_is k.head.vol

    of_put : IsPut (volume_size vols m) k v b → put_there c.size (write_logged r) v b ≡ Some (block_of (given r) (b - r.head.block))
    of_put put =
        put_there_at c.size (write_logged r) v b (omega (arith, whole)) (put.volume ∙ sym its_vol) (omega (arith, put.first, its_block)) (omega (arith, put.last, its_block, its_count))
        (omega (arith, put.within, its_block, its_count, its_size, ap (λ (w : ℕ). volume_size vols m w) put.volume))

    to_put : (bytes : List ℕ) → put_there c.size (write_logged r) v b ≡ Some bytes → IsPut (volume_size vols m) k v b
    to_put bytes is =
        let it : _ = put_there_in c.size (write_logged r) v b bytes (omega (arith, whole)) is in
        let at : volume_size vols m v ≡ volume_size vols m k.head.vol = ap (λ (w : ℕ). volume_size vols m w) (it.0 ∙ its_vol) in
        record { volume = it.0 ∙ its_vol; within = omega (arith, it.3, its_block, its_count, its_size, at); first = omega (arith, it.1, its_block); last = omega (arith, it.2, its_block, its_count) }

  -- where no write puts a block, no record does
  pub none_put : (rs : List Record) (ks : List Kept) (v b : ℕ) → Same rs ks → All IsWholeRecord rs → newest_of c.size (writes_of rs) v b ≡ None
      → All (λ k. IsPut (volume_size vols m) k v b → ⊥) ks
  none_put [] [] v b same whole none = All-nil (λ k. IsPut (volume_size vols m) k v b → ⊥)
  none_put [] (k ∷ ks) v b same whole none = absurd same
  none_put (r ∷ rs) [] v b same whole none = absurd same
  none_put (r ∷ rs) (k ∷ ks) v b same whole none =
      let both : _ = neither (newest_of c.size (writes_of rs) v b) (put_there c.size (write_logged r) v b) none in
      All-cons (λ k. IsPut (volume_size vols m) k v b → ⊥) k ks
      (λ put. none-some (block_of (given r) (b - r.head.block)) (sym both.1 ∙ of_put r k same.0 (All-head IsWholeRecord r rs whole) v b put))
      (none_put rs ks v b same.2 (All-tail IsWholeRecord r rs whole) both.0)

  -- where some write of these puts a block, its newest bytes are in the volume
  module _ (core : Core) (m' : Meaning) (v b : ℕ) (bytes : List ℕ) (is : newest core.pending.entries v b ≡ Some bytes) where
    one_kept : (r : Record) (k : Kept) (rs : List Record) → r.head ≡ k.head → IsWholeRecord r → KeepsNewest core (volume_size vols m) m' k
        → ((newest_of c.size (writes_of rs) v b ≡ None → ⊥) → Keeps m' (unit_of core.units.vols v) b bytes)
        → (later here : Option (List ℕ)) → newest_of c.size (writes_of rs) v b ≡ later → put_there c.size (write_logged r) v b ≡ here → (newer_or later here ≡ None → ⊥)
        → Keeps m' (unit_of core.units.vols v) b bytes
    one_kept r k rs same whole keeps rest later (Some put) later_is here_is some = keeps.each v b bytes (to_put r k same whole v b put here_is) is
    one_kept r k rs same whole keeps rest (Some put) None later_is here_is some = rest (λ none. none-some put (sym none ∙ later_is))
    one_kept r k rs same whole keeps rest None None later_is here_is some = absurd (some refl)

    pub put_kept : (rs : List Record) (ks : List Kept) → Same rs ks → All IsWholeRecord rs → All (KeepsNewest core (volume_size vols m) m') ks
        → (newest_of c.size (writes_of rs) v b ≡ None → ⊥) → Keeps m' (unit_of core.units.vols v) b bytes
    put_kept [] [] same whole keeps some = absurd (some refl)
    put_kept [] (k ∷ ks) same whole keeps some = absurd same
    put_kept (r ∷ rs) [] same whole keeps some = absurd same
    put_kept (r ∷ rs) (k ∷ ks) same whole keeps some =
        one_kept r k rs same.0 (All-head IsWholeRecord r rs whole) (All-head (KeepsNewest core (volume_size vols m) m') k ks keeps)
        (put_kept rs ks same.2 (All-tail IsWholeRecord r rs whole) (All-tail (KeepsNewest core (volume_size vols m) m') k ks keeps))
        (newest_of c.size (writes_of rs) v b) (put_there c.size (write_logged r) v b) refl refl some

  -- as many blocks of writes as of records
  pub within_count : (rs : List Record) (ks : List Kept) → Same rs ks → All IsWholeRecord rs → blocks_within_of c.size (writes_of rs) ≡ blocks_within (volume_size vols m) ks
  within_count [] [] same whole = refl
  within_count [] (k ∷ ks) same whole = absurd same
  within_count (r ∷ rs) [] same whole = absurd same
  within_count (r ∷ rs) (k ∷ ks) same whole =
      let whole_r : IsWholeRecord r = All-head IsWholeRecord r rs whole in
      let count : blocks_in (given r) ≡ k.head.count = its_count r k same.0 whole_r 0 0 in
      let first : (if leb (r.head.block + blocks_in (given r)) (c.size r.head.vol) then blocks_in (given r) else 0) ≡ (if leb (k.head.block + k.head.count) (volume_size vols m k.head.vol) then k.head.count else 0)
      = ap (λ (n : ℕ). if leb (r.head.block + n) (c.size r.head.vol) then n else 0) count
      ∙ ap (λ (n : ℕ). if leb (n + k.head.count) (c.size r.head.vol) then k.head.count else 0) (its_block r k same.0 whole_r 0 0)
      ∙ ap (λ (n : ℕ). if leb (k.head.block + k.head.count) n then k.head.count else 0) (its_size r k same.0 whole_r 0 0) in
      omega (arith, first, within_count rs ks same.2 (All-tail IsWholeRecord r rs whole))
