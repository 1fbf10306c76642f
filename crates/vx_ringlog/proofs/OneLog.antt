-- An image has one log.
use Rattle.std.proofs.Common.{◌≡◌, inl, inr, ℕ, suc, ◌+◌, List, [], ◌∷◌, length, refl, sym, ◌∙◌, ap, subst, arith}
use Rattle.vx_srlfmt.specs.declared.header.Header.{Header}
use Rattle.vx_srlfmt.specs.declared.record.RecordHead.{RecordHead}
use Rattle.vx_ringlog.specs.Cells.{RingImage}
use Rattle.vx_ringlog.specs.Records.{Era, era_of, Record}
use Rattle.vx_ringlog.specs.Chain.{width, IsGreaterTop, HasBody, LogIsUnique, Scan}

counts_unique : (i : RingImage) (h g : Header) → IsGreaterTop i h → IsGreaterTop i g → h ≡ g
counts_unique i h g (inl a) (inl b) = cc (a.0, b.0)
counts_unique i h g (inl a) (inr b) = absurd (omega (arith, a.1 g b.0, b.1 h a.0))
counts_unique i h g (inr a) (inl b) = absurd (omega (arith, a.1 g b.0, b.1 h a.0))
counts_unique i h g (inr a) (inr b) = cc (a.0, b.0)

body_unique : (size : ℕ) (i : RingImage) (p : ℕ) (xs bs : List (List ℕ)) → length xs ≡ length bs → HasBody size i p xs → HasBody size i p bs → xs ≡ bs
body_unique size i p [] [] same a b = refl
body_unique size i p [] (y ∷ bs) same a b = absurd (omega arith)
body_unique size i p (x ∷ xs) [] same a b = absurd (omega arith)
body_unique size i p (x ∷ xs) (y ∷ bs) same a b = let one : x ≡ y = cc (a.0, b.0) in let rest = body_unique size i (suc p) xs bs (omega arith) a.1 b.1 in cc (one, rest)

record_same : (r s : Record) → r.head ≡ s.head → r.body ≡ s.body → r ≡ s
record_same r s h b = λ j. record { head = h j; body = b j }

scan_unique : (size : ℕ) (i : RingImage) (e : Era) (p n prev : ℕ) (rs ss : List Record) → Scan size i e p n prev rs → Scan size i e p n prev ss → rs ≡ ss
scan_unique size i e p n prev [] [] a b = refl
scan_unique size i e p n prev [] (s ∷ ss) a b = absurd (a.0 s.head b.0.0)
scan_unique size i e p n prev (r ∷ rs) [] a b = absurd (b.0 r.head a.0.0)
scan_unique size i e p n prev (r ∷ rs) (s ∷ ss) a b =
    let heads : r.head ≡ s.head = cc (a.0.0.is, b.0.0.is) in
    let lengths : length r.body ≡ length s.body = sym a.0.1.count ∙ ap (λ (h : RecordHead). h.count) heads ∙ b.0.1.count in
    let same : r ≡ s = record_same r s heads (body_unique size i (suc p) r.body s.body lengths a.1 b.1) in
    let rest = scan_unique size i e (p + width r) (suc n) r.incarnation rs ss a.2 (subst (λ (x : Record). Scan size i e (p + width x) (suc n) x.incarnation ss) (sym same) b.2) in
    cc (same, rest)

pub log_unique : LogIsUnique
log_unique size i h g rs ss a b =
    let same : h ≡ g = counts_unique i h g a.counts b.counts in
    (same, scan_unique size i (era_of h) h.place h.low h.floor rs ss a.scan (subst (λ (x : Header). Scan size i (era_of x) x.place x.low x.floor ss) (sym same) b.scan))
