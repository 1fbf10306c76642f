-- A write elsewhere and a flush keep what is sure.
use Rattle.std.proofs.Common.{◌≡◌, ⊎_elim, ℕ, suc, ◌+◌, ◌<◌, ◌≤◌, List, [], ◌∷◌, ◌++◌, length, refl, sym, ◌∙◌, subst, arith}
use Rattle.vx_srlfmt.specs.Kinds.{Body, Front, Kind}
use Rattle.vx_srlfmt.specs.declared.record.RecordHead.{RecordHead}
use Rattle.vx_ringlog.specs.Cells.{Cells, flush, read, write}
use Rattle.vx_ringlog.specs.Records.{Era, Record}
use Rattle.vx_ringlog.specs.Chain.{block, width}
use Rattle.vx_ringlog.specs.Ready.{Prepared, ReadBodies, ReadBody, ReadFronts, Sure, SureAll, SureBodies, SureBody, Tame, TameValue, after, last, next}
use Rattle.vx_ringlog.proofs.CellLemmas.{flush_may, may_flush, may_write, read_other}

-- none of the places from p up to q is in this block
abbrev pub Apart : ℕ → ℕ → ℕ → ℕ → Type 0
Apart size b p q = (k : ℕ) → p ≤ k → k < q → block size k ≡ b → ⊥

pub after_le : (p : ℕ) (rs : List Record) → p ≤ after p rs
after_le p [] = omega arith
after_le p (r ∷ rs) = omega (arith, after_le (p + width r) rs)

pub next_le : (n : ℕ) (rs : List Record) → n ≤ next n rs
next_le n [] = omega arith
next_le n (r ∷ rs) = omega (arith, next_le (suc n) rs)

pub after_append : (p : ℕ) (rs ss : List Record) → after p (rs ++ ss) ≡ after (after p rs) ss
after_append p [] ss = refl
after_append p (r ∷ rs) ss = after_append (p + width r) rs ss

pub next_append : (n : ℕ) (rs ss : List Record) → next n (rs ++ ss) ≡ next (next n rs) ss
next_append n [] ss = refl
next_append n (r ∷ rs) ss = next_append (suc n) rs ss

pub last_append : (n : ℕ) (rs ss : List Record) → last n (rs ++ ss) ≡ last (last n rs) ss
last_append n [] ss = refl
last_append n (r ∷ rs) ss = last_append r.incarnation rs ss

pub sure_write : (u : Cells) (b : ℕ) (v : Kind) (c : ℕ) (w : Kind) → (c ≡ b → ⊥) → Sure u c w → Sure (write u b v) c w
sure_write u b v c w ne sure x may = ⊎_elim (λ old. sure x old) (λ (new : (b ≡ c) × (v ≡ x)). absurd (ne (sym new.0))) (may_write u b v c x may)

pub sure_body_write : (size : ℕ) (u : Cells) (b : ℕ) (v : Kind) (p : ℕ) (bs : List (List ℕ)) → Apart size b p (p + length bs) → SureBody size u p bs → SureBody size (write u b v) p bs
sure_body_write size u b v p [] apart sure = tt
sure_body_write size u b v p (x ∷ bs) apart sure = (
  sure_write u b v (block size p) (Body x) (apart p (omega arith) (omega arith)) sure.0,
  sure_body_write size u b v (suc p) bs (λ k low high. apart k (omega arith) (omega arith)) sure.1,
)

pub sure_all_write : (size : ℕ) (u : Cells) (b : ℕ) (v : Kind) (p : ℕ) (rs : List Record) → Apart size b p (after p rs) → SureAll size u p rs → SureAll size (write u b v) p rs
sure_all_write size u b v p [] apart sure = tt
sure_all_write size u b v p (r ∷ rs) apart sure =
    let le = after_le (p + width r) rs in (
      sure_write u b v (block size p) (Front r.head) (apart p (omega arith) (omega arith)) sure.0,
      sure_body_write size u b v (suc p) r.body (λ k low high. apart k (omega arith) (omega arith)) sure.1,
      sure_all_write size u b v (p + width r) rs (λ k low high. apart k (omega arith) (omega arith)) sure.2,
    )

pub sure_flush : (u : Cells) (c : ℕ) (w : Kind) → Sure u c w → Sure (flush u) c w
sure_flush u c w sure x may = sure x (flush_may u c x may)

pub sure_body_flush : (size : ℕ) (u : Cells) (p : ℕ) (bs : List (List ℕ)) → SureBody size u p bs → SureBody size (flush u) p bs
sure_body_flush size u p [] sure = tt
sure_body_flush size u p (b ∷ bs) sure = (sure_flush u (block size p) (Body b) sure.0, sure_body_flush size u (suc p) bs sure.1)

pub sure_all_flush : (size : ℕ) (u : Cells) (p : ℕ) (rs : List Record) → SureAll size u p rs → SureAll size (flush u) p rs
sure_all_flush size u p [] sure = tt
sure_all_flush size u p (r ∷ rs) sure = (sure_flush u (block size p) (Front r.head) sure.0, sure_body_flush size u (suc p) r.body sure.1, sure_all_flush size u (p + width r) rs sure.2)

pub tame_flush : (u : Cells) (e : Era) (n : ℕ) → Tame u e n → Tame (flush u) e n
tame_flush u e n tame b v may = tame b v (flush_may u b v may)

pub tame_write : (u : Cells) (e : Era) (n b : ℕ) (v : Kind) → TameValue e n v → Tame u e n → Tame (write u b v) e n
tame_write u e n b v is tame c w may = ⊎_elim (λ old. tame c w old) (λ (new : (b ≡ c) × (v ≡ w)). subst (λ (x : Kind). TameValue e n x) new.1 is) (may_write u b v c w may)

tame_value_more : (e : Era) (m n : ℕ) (v : Kind) → m ≤ n → TameValue e m v → TameValue e n v
tame_value_more e m n v le t = record { whole = t.whole; incarnation = t.incarnation; run = t.run; fresh = λ r is i k. omega (arith, t.fresh r is i k) }

pub tame_more : (u : Cells) (e : Era) (m n : ℕ) → m ≤ n → Tame u e m → Tame u e n
tame_more u e m n le tame b v may = tame_value_more e m n v le (tame b v may)

pub tame_body : (e : Era) (n : ℕ) (c : List ℕ) → TameValue e n (Body c)
tame_body e n c = record { whole = λ is. cc; incarnation = λ r is. absurd cc; run = λ r is. absurd cc; fresh = λ r is i k. absurd cc }

pub tame_front : (e : Era) (n : ℕ) (s : RecordHead) → s.incarnation ≤ e.incarnation → s.run ≡ e.run → s.number < n → TameValue e n (Front s)
tame_front e n s inc run number = record {
  whole = λ is. cc;
  incarnation = λ r is. let same : s ≡ r = cc in subst (λ (x : RecordHead). x.incarnation ≤ e.incarnation) same inc;
  run = λ r is. let same : s ≡ r = cc in let le : s.run ≤ e.run = omega arith in subst (λ (x : RecordHead). x.run ≤ e.run) same le;
  fresh = λ r is i k. let same : s ≡ r = cc in subst (λ (x : RecordHead). x.number < n) same number;
}

-- a flush makes what is read sure
pub sure_read : (u : Cells) (c : ℕ) (w : Kind) → read u c ≡ w → Sure (flush u) c w
sure_read u c w is x may = may_flush u c x may ∙ is

pub body_read : (size : ℕ) (u : Cells) (p : ℕ) (bs : List (List ℕ)) → ReadBody size u p bs → SureBody size (flush u) p bs
body_read size u p [] is = tt
body_read size u p (b ∷ bs) is = (sure_read u (block size p) (Body b) is.0, body_read size u (suc p) bs is.1)

pub bodies_read : (size : ℕ) (u : Cells) (p : ℕ) (ss : List Record) → ReadBodies size u p ss → SureBodies size (flush u) p ss
bodies_read size u p [] is = tt
bodies_read size u p (s ∷ ss) is = (body_read size u (suc p) s.body is.0, bodies_read size u (p + width s) ss is.1)

pub all_read : (size : ℕ) (u : Cells) (e : Era) (p n prev : ℕ) (ss : List Record) → ReadFronts size u p ss → Prepared size u e p n prev ss → SureAll size (flush u) p ss
all_read size u e p n prev [] is prepared = tt
all_read size u e p n prev (s ∷ ss) is prepared = (
  sure_read u (block size p) (Front s.head) is.0,
  sure_body_flush size u (suc p) s.body prepared.1,
  all_read size u e (p + width s) (suc n) s.incarnation ss is.1 prepared.2,
)

pub prepared_flush : (size : ℕ) (u : Cells) (e : Era) (p n prev : ℕ) (ss : List Record) → Prepared size u e p n prev ss → Prepared size (flush u) e p n prev ss
prepared_flush size u e p n prev [] prepared = λ v may. prepared v (flush_may u (block size p) v may)
prepared_flush size u e p n prev (s ∷ ss) prepared = (
  (λ v may. prepared.0 v (flush_may u (block size p) v may)),
  sure_body_flush size u (suc p) s.body prepared.1,
  prepared_flush size u e (p + width s) (suc n) s.incarnation ss prepared.2,
)

-- reads of other blocks stay
pub read_body_write : (size : ℕ) (u : Cells) (b : ℕ) (v : Kind) (p : ℕ) (bs : List (List ℕ)) → Apart size b p (p + length bs) → ReadBody size u p bs → ReadBody size (write u b v) p bs
read_body_write size u b v p [] apart is = tt
read_body_write size u b v p (x ∷ bs) apart is = (
  read_other u b (block size p) v (λ same. apart p (omega arith) (omega arith) (sym same)) ∙ is.0,
  read_body_write size u b v (suc p) bs (λ k low high. apart k (omega arith) (omega arith)) is.1,
)

pub read_bodies_write : (size : ℕ) (u : Cells) (b : ℕ) (v : Kind) (p : ℕ) (ss : List Record) → Apart size b p (after p ss) → ReadBodies size u p ss → ReadBodies size (write u b v) p ss
read_bodies_write size u b v p [] apart is = tt
read_bodies_write size u b v p (s ∷ ss) apart is =
    let le = after_le (p + width s) ss in (
      read_body_write size u b v (suc p) s.body (λ k low high. apart k (omega arith) (omega arith)) is.0,
      read_bodies_write size u b v (p + width s) ss (λ k low high. apart k (omega arith) (omega arith)) is.1,
    )

pub read_fronts_write : (size : ℕ) (u : Cells) (b : ℕ) (v : Kind) (p : ℕ) (ss : List Record) → Apart size b p (after p ss) → ReadFronts size u p ss → ReadFronts size (write u b v) p ss
read_fronts_write size u b v p [] apart is = tt
read_fronts_write size u b v p (s ∷ ss) apart is =
    let le = after_le (p + width s) ss in (
      read_other u b (block size p) v (λ same. apart p (omega arith) (omega arith) (sym same)) ∙ is.0,
      read_fronts_write size u b v (p + width s) ss (λ k low high. apart k (omega arith) (omega arith)) is.1,
    )

pub read_fronts_snoc : (size : ℕ) (u : Cells) (p : ℕ) (ss : List Record) (s : Record) → ReadFronts size u p ss → read u (block size (after p ss)) ≡ Front s.head → ReadFronts size u p (ss ++ s ∷ [])
read_fronts_snoc size u p [] s is new = (new, tt)
read_fronts_snoc size u p (x ∷ ss) s is new = (is.0, read_fronts_snoc size u (p + width x) ss s is.1 new)
