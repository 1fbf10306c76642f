-- The write of a header over the block of the lesser stamp.
use Rattle.std.proofs.Common.{◌≡◌, ◌⊎◌, inl, inr, ⊎_elim, ℕ, ◌<◌, ◌≤◌, sym, ◌∙◌, ap, subst, arith}
use Rattle.vx_srlfmt.specs.Kinds.{Kind, Top}
use Rattle.vx_srlfmt.specs.declared.header.Header.{Header}
use Rattle.vx_ringlog.specs.Cells.{Cells, RingImage, IsImage, May, flush, write}
use Rattle.vx_ringlog.specs.Chain.{IsGreaterTop}
use Rattle.vx_ringlog.specs.Heads.{Heads, HeadSlots}
use Rattle.vx_ringlog.proofs.CellLemmas.{flush_may, may_write, read_same}
use Rattle.vx_ringlog.proofs.Keeps.{sure_flush, sure_read, sure_write}

counts_at : (i : RingImage) (a o : ℕ) (h : Header) → HeadSlots a o → i a ≡ Top h → ((g : Header) → i o ≡ Top g → g.stamp < h.stamp) → IsGreaterTop i h
counts_at i a o h (inl s) is other = inl (ap i (sym s.0) ∙ is, λ g at. other g (ap i s.1 ∙ at))
counts_at i a o h (inr s) is other = inr (ap i (sym s.0) ∙ is, λ g at. other g (ap i s.1 ∙ at))

pub counts : (u : Cells) (a o : ℕ) (h : Header) → Heads u a o h → (i : RingImage) → IsImage u i → IsGreaterTop i h
counts u a o h heads i img = counts_at i a o h heads.slots (heads.sure (i a) (img a)) (λ g at. heads.other g (subst (λ (v : Kind). May u o v) at (img o)))

swap : (a o : ℕ) → HeadSlots a o → HeadSlots o a
swap a o (inl s) = inr (s.1, s.0)
swap a o (inr s) = inl (s.1, s.0)

slots_differ : (a o : ℕ) → HeadSlots a o → a ≡ o → ⊥
slots_differ a o (inl s) same = omega arith
slots_differ a o (inr s) same = omega arith

pub slots_low : (a o : ℕ) → HeadSlots a o → (a < 2) × (o < 2)
slots_low a o (inl s) = (omega arith, omega arith)
slots_low a o (inr s) = (omega arith, omega arith)

-- while the new header is loose one of the two counts
pub counts_either : (u : Cells) (a o : ℕ) (h g : Header) → Heads u a o h → h.stamp < g.stamp → (i : RingImage) → IsImage (write u o (Top g)) i → IsGreaterTop i h ⊎ IsGreaterTop i g
counts_either u a o h g heads less i img =
    let at_a : i a ≡ Top h = sure_write u o (Top g) a (Top h) (slots_differ a o heads.slots) heads.sure (i a) (img a) in
    ⊎_elim
    (λ (old : May u o (i o)). inl (counts_at i a o h heads.slots at_a (λ f at. heads.other f (subst (λ (v : Kind). May u o v) at old))))
    (λ (new : (o ≡ o) × (Top g ≡ i o)). inr (counts_at i o a g (swap a o heads.slots) (sym new.1) (λ f at. let same : h ≡ f = cc (at_a, at) in subst (λ (x : Header). x.stamp < g.stamp) same less)))
    (may_write u o (Top g) o (i o) (img o))

pub heads_written : (u : Cells) (a o : ℕ) (h g : Header) → Heads u a o h → h.stamp < g.stamp → Heads (flush (write u o (Top g))) o a g
heads_written u a o h g heads less =
    let w = write u o (Top g) in record {
      slots = swap a o heads.slots;
      sure = sure_read w o (Top g) (read_same u o (Top g));
      other = λ f may.
          let is : Top f ≡ Top h = sure_write u o (Top g) a (Top h) (slots_differ a o heads.slots) heads.sure (Top f) (flush_may w a (Top f) may) in
          let same : h ≡ f = cc (is) in subst (λ (x : Header). x.stamp < g.stamp) same less;
    }

-- writes of the ring and flushes keep the headers
pub heads_ring : (u : Cells) (a o : ℕ) (h : Header) (b : ℕ) (v : Kind) → 2 ≤ b → Heads u a o h → Heads (write u b v) a o h
heads_ring u a o h b v ring heads =
    let low = slots_low a o heads.slots in record {
      slots = heads.slots;
      sure = sure_write u b v a (Top h) (λ same. omega arith) heads.sure;
      other = λ g may. ⊎_elim (heads.other g) (λ (new : (b ≡ o) × (v ≡ Top g)). absurd (omega arith)) (may_write u b v o (Top g) may);
    }

pub heads_flush : (u : Cells) (a o : ℕ) (h : Header) → Heads u a o h → Heads (flush u) a o h
heads_flush u a o h heads = record { slots = heads.slots; sure = sure_flush u a (Top h) heads.sure; other = λ g may. heads.other g (flush_may u o (Top g) may) }
