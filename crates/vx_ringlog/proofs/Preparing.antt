-- Once the bodies are flushed, the fronts may be written one by one.
use Rattle.std.proofs.Common.{◌≡◌, inl, inr, ⊎_elim, ℕ, suc, ◌+◌, ◌≤◌, List, [], ◌∷◌, ◌++◌, sym, ◌∙◌, subst, arith}
use Rattle.vx_srlfmt.specs.Kinds.{Front, Kind}
use Rattle.vx_ringlog.specs.Cells.{Cells, May, write}
use Rattle.vx_ringlog.specs.Records.{Era, Record}
use Rattle.vx_ringlog.specs.Chain.{ScanStops, block, width}
use Rattle.vx_ringlog.specs.Ready.{End, Now, Prepared, SureBodies, Tame, TameValue, after, last, next}
use Rattle.vx_ringlog.proofs.CellLemmas.{may_write}
use Rattle.vx_ringlog.proofs.Keeps.{Apart, after_le, sure_body_write}

pub stops_fresh : (e : Era) (bound n prev : ℕ) (v : Kind) → TameValue e bound v → bound ≤ n → prev ≡ e.incarnation → ScanStops e n prev v
stops_fresh e bound n prev v tame le now = (
  (λ r t.
      let same : r.incarnation ≡ e.incarnation = omega (arith, t.not_below, t.not_above) in
      let less = tame.fresh r t.is same t.run in omega (arith, t.number)),
  tame.whole,
)

pub end_stops : (size : ℕ) (u : Cells) (e : Era) (bound p n prev : ℕ) → Tame u e bound → bound ≤ n → End size u e p n prev → (v : Kind) → May u (block size p) v → ScanStops e n prev v
end_stops size u e bound p n prev tame le (inl now) v may = stops_fresh e bound n prev v (tame (block size p) v may) le now
end_stops size u e bound p n prev tame le (inr stops) v may = stops v may

pub prepare : (size : ℕ) (u : Cells) (e : Era) (bound p n prev : ℕ) (ss : List Record) → Tame u e bound → bound ≤ n → End size u e p n prev → SureBodies size u p ss → Now e ss → Prepared size u e p n prev ss
prepare size u e bound p n prev [] tame le end bodies now = end_stops size u e bound p n prev tame le end
prepare size u e bound p n prev (s ∷ ss) tame le end bodies now = (
  (λ v may. inr (end_stops size u e bound p n prev tame le end v may)),
  bodies.0,
  prepare size u e bound (p + width s) (suc n) s.incarnation ss tame (omega arith) (inl now.0) bodies.1 now.1,
)

-- v may be written in block b: it is the front that belongs there
abbrev pub Harmless : ℕ → ℕ → Kind → Era → ℕ → ℕ → ℕ → List Record → Type 0
Harmless size b v e p n prev [] = block size p ≡ b → ScanStops e n prev v
Harmless size b v e p n prev (s ∷ ss) = (block size p ≡ b → v ≡ Front s.head) × Apart size b (suc p) (p + width s) × Harmless size b v e (p + width s) (suc n) s.incarnation ss

pub prepared_write : (size : ℕ) (u : Cells) (b : ℕ) (v : Kind) (e : Era) (p n prev : ℕ) (ss : List Record) → Harmless size b v e p n prev ss → Prepared size u e p n prev ss → Prepared size (write u b v) e p n prev ss
prepared_write size u b v e p n prev [] harmless prepared = λ w may.
    ⊎_elim (λ old. prepared w old) (λ (new : (b ≡ block size p) × (v ≡ w)). subst (λ (x : Kind). ScanStops e n prev x) new.1 (harmless (sym new.0))) (may_write u b v (block size p) w may)
prepared_write size u b v e p n prev (s ∷ ss) harmless prepared = (
  (λ w may. ⊎_elim (λ old. prepared.0 w old) (λ (new : (b ≡ block size p) × (v ≡ w)). inl (sym new.1 ∙ harmless.0 (sym new.0))) (may_write u b v (block size p) w may)),
  sure_body_write size u b v (suc p) s.body (λ k low high. harmless.1 k low (omega arith)) prepared.1,
  prepared_write size u b v e (p + width s) (suc n) s.incarnation ss harmless.2 prepared.2,
)

pub harmless_rest : (size b : ℕ) (v : Kind) (e : Era) (p n prev : ℕ) (rs : List Record) → Apart size b p (after p rs) → ScanStops e (next n rs) (last prev rs) v → Harmless size b v e p n prev rs
harmless_rest size b v e p n prev [] apart stops = λ same. stops
harmless_rest size b v e p n prev (r ∷ rs) apart stops =
    let le = after_le (p + width r) rs in (
      (λ same. absurd (apart p (omega arith) (omega arith) same)),
      (λ k low high. apart k (omega arith) (omega arith)),
      harmless_rest size b v e (p + width r) (suc n) r.incarnation rs (λ k low high. apart k (omega arith) (omega arith)) stops,
    )

pub harmless_skip : (size b : ℕ) (v : Kind) (e : Era) (p n prev : ℕ) (done rest : List Record) → Apart size b p (after p done) → Harmless size b v e (after p done) (next n done) (last prev done) rest → Harmless size b v e p n prev (done ++ rest)
harmless_skip size b v e p n prev [] rest apart harmless = harmless
harmless_skip size b v e p n prev (r ∷ rs) rest apart harmless =
    let le = after_le (p + width r) rs in (
      (λ same. absurd (apart p (omega arith) (omega arith) same)),
      (λ k low high. apart k (omega arith) (omega arith)),
      harmless_skip size b v e (p + width r) (suc n) r.incarnation rs rest (λ k low high. apart k (omega arith) (omega arith)) harmless,
    )
