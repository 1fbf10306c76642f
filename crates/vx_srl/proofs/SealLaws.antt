-- A seal, as a call of the log.
use Rattle.std.proofs.Common.{◌≡◌, ℕ, ◌+◌, ◌%◌, List, [], ◌∷◌, ◌++◌, refl, sym, ◌∙◌, ap}
use Rattle.std.proofs.Math.Nat.{mod-mod}
use Rattle.vx_srlfmt.specs.Kinds.{Front}
use Rattle.vx_srlfmt.specs.declared.record.RecordHead.{RecordHead}
use Rattle.vx_disk.specs.Shelf.{Meaning}
use Rattle.vx_ringlog.specs.Acts.{fronts_of}
use Rattle.vx_ringlog.specs.Cells.{Act, Flush, Write}
use Rattle.vx_ringlog.specs.Chain.{block, width}
use Rattle.vx_ringlog.specs.Logs.{State, behind_call}
use Rattle.vx_ringlog.specs.Ready.{after}
use Rattle.vx_ringlog.specs.Records.{Record}
use Rattle.vx_ringio.specs.Tracks.{Arrives, Follows}
use Rattle.vx_srl.specs.Calls.{sealed_log, sealing}
use Rattle.vx_srl.specs.Fronts.{fronts_written, seal_written}
use Rattle.vx_srl.specs.Rings.{Describes, RingGoes, LeadsTo, RingOn}
use Rattle.vx_srl.specs.Views.{IsOrdered, Log, PlacedFrom, all_of, place_after, width_of}
use Rattle.vx_srl.specs.declared.kept.Kept.{Kept}
use Rattle.vx_srl.proofs.Shared_S1.{Same, block_wraps, held_end, held_same, same_append, same_heads, staged_same, wrapped}
use Rattle.vx_srl.proofs.Calling.{Makes, makes_goes, makes_leads}

pub placed_behind : (ring p : ℕ) (ks ls : List Kept) → PlacedFrom ring p (ks ++ ls) → PlacedFrom ring (place_after ring p ks) ls
placed_behind ring p [] ls placed = placed
placed_behind ring p (k ∷ ks) ls placed = placed_behind ring ((p + width_of k) % ring) ks ls placed.1

-- the same headers at the same places
fronts_same : (ring p q : ℕ) (rs : List Record) (ks : List Kept) → p % ring ≡ q → Same rs ks → PlacedFrom ring q ks → fronts_of ring p rs ≡ fronts_written ring ks ++ Flush ∷ []
fronts_same ring p q [] [] is same placed = refl
fronts_same ring p q [] (k ∷ ks) is same placed = absurd same
fronts_same ring p q (r ∷ rs) [] is same placed = absurd same
fronts_same ring p q (r ∷ rs) (k ∷ ks) is same placed =
    let at : p % ring ≡ k.place % ring = sym (mod-mod p ring) ∙ ap (λ (x : ℕ). x % ring) (is ∙ sym placed.0) in
    let behind : (p + width r) % ring ≡ (q + width_of k) % ring = wrapped ring p q (width r) is ∙ ap (λ (w : ℕ). (q + w) % ring) same.1 in
    ap (λ (b : ℕ). Write b (Front r.head) ∷ fronts_of ring (p + width r) rs) (block_wraps ring p k.place at)
    ∙ ap (λ (h : RecordHead). Write (block ring k.place) (Front h) ∷ fronts_of ring (p + width r) rs) same.0
    ∙ ap (λ (acts : List Act). Write (block ring k.place) (Front k.head) ∷ acts) (fronts_same ring (p + width r) ((q + width_of k) % ring) rs ks behind same.2 placed.1)

module _ (l : Log) (ordered : IsOrdered l.ring l.header (all_of l)) where
  staged_placed : PlacedFrom l.ring (place_after l.ring l.header.place l.held) l.staged
  staged_placed = placed_behind l.ring l.header.place l.held l.staged ordered.placed

  seal_makes : (m : Meaning) → Makes l sealing (seal_written l.ring l.staged) m
  seal_makes m = record {
    allowed = λ s on. tt;
    acts_are = λ s on. ap (λ (acts : List Act). Flush ∷ acts)
        (fronts_same l.ring (after s.base s.held) (place_after l.ring l.header.place l.held) s.staged l.staged (held_end l s m on) (staged_same l s m on) staged_placed);
  }

  seal_describes : (s : State) (m : Meaning) → RingOn l s m → Describes (sealed_log l) (behind_call l.ring s (sealing s))
  seal_describes s m on = record {
    header = on.describes.header;
    here = on.describes.here;
    other = on.describes.other;
    place = on.describes.place;
    held = same_heads (s.held ++ s.staged) (l.held ++ l.staged) (same_append s.held s.staged l.held l.staged (held_same l s m on) (staged_same l s m on));
    staged = refl;
  }

  pub seal_goes : (old new : Meaning) → Follows l.unit l.ring (seal_written l.ring l.staged) old new → RingGoes l sealing old new
  seal_goes old new follows = makes_goes l sealing (seal_written l.ring l.staged) old new (seal_makes old) follows

  pub seal_leads : (old new : Meaning) → Arrives l.unit l.ring (seal_written l.ring l.staged) old new → LeadsTo l sealing (sealed_log l) old new
  seal_leads old new arrives = makes_leads l sealing (seal_written l.ring l.staged) (sealed_log l) old new (seal_makes old) arrives refl refl (λ s on. seal_describes s old on)
