-- One more is met.
use Rattle.std.proofs.Common.{◌≡◌, ◌⊎◌, ℕ, zero, suc, ◌+◌, ◌<◌, ◌≤◌, List, [], ◌∷◌, ◌++◌, length, refl, ap, sym, ◌∙◌, subst, ⊎_elim, inl, inr, arith, append_assoc, length-append, Some}
use Rattle.std.proofs.lemmas.List.{append-nil}
use Rattle.vx_turn.specs.declared.passes.Pass.{Pass}
use Rattle.vx_turn.specs.Acting.{LiesAmong}
use Rattle.vx_turn.specs.History.{BeginsWith}
use Rattle.vx_turn.specs.Passing.{seen_of, mine_of, met_of, table_id_of, IsSame, Meets}
use Rattle.vx_turn.proofs.Histories.{begins-self, begins-trans, among-cons}
use Rattle.vx_settle.proofs.Bringings.{among-left, among-right}
use Rattle.vx_burst_threads.specs.declared.worker.Worker.{Worker}
use Rattle.vx_burst_threads.specs.declared.worker.Worker.TheVariants.{Writes, Drains}
use Rattle.std.proofs.Common.{slice_get, slice_index_or}
use Rattle.std.proofs.lemmas.Option.{slice_get-get_or, get_or_from_slice_get, slice_get_within}
use Rattle.atomic_table.specs.Seated.{TableId}
use Rattle.vx_settle.specs.declared.peer.Stand.{Stand}
use Rattle.vx_burst_threads.specs.declared.plan.Planned.{Planned}
use Rattle.vx_burst_threads.specs.declared.drainer.Drainer.{Drainer}
use Rattle.vx_burst_threads.specs.Working.{IsSet, AllSet, HasWorked, EachWorked}
use Rattle.vx_burst_threads.specs.Joining.{pass_of, backs, AllOf, Meeting, IsMadeBy}
use Rattle.vx_burst_threads.specs.declared.plan.Answered.{Answered}
use Rattle.vx_burst_threads.specs.declared.writer.Made.{Made}
use Rattle.vx_burst_threads.specs.declared.writer.Writer.{Writer}
use Rattle.vx_burst_threads.specs.Laying.{LaidWith}
use Rattle.vx_burst_threads.proofs.Layings.{laid-none, laid-then, laid-as}

pub among-head : {A : Type 0} (x : A) (xs ys : List A) → LiesAmong x (xs ++ x ∷ ys)
among-head x xs ys = among-right x xs (x ∷ ys) (0, refl)

module _ {P : Type 0} where
  -- those of ws that are not left were met
  pub record Loop (p : Pass) (peers : List P) (ws left : List (Worker P)) (olds : List Answered) (q : Pass) (out : List P) (bs : List Answered) : Type 0 where
    pub done : List (Worker P)
    pub is : ws ≡ left ++ done
    pub met : Meeting p peers done q out
    pub laid : LaidWith (IsMadeBy done) olds bs
    pub count : length out + length left ≤ length peers + length ws

  pub loop-first : (p : Pass) (peers : List P) (ws : List (Worker P)) (olds : List Answered) → Loop p peers ws ws olds p peers olds
  loop-first p peers ws olds = record { done = []; is = sym (append-nil ws); laid = laid-none (IsMadeBy []) olds (λ m o. absurd (cc o.1.1)); count = omega arith; met = record { same = (refl, refl); start = refl; callers = refl; mine = refl; begins = begins-self (seen_of p); each = λ w m. absurd (cc m.1); old = λ x m. m; back = sym (append-nil peers) } }

  pub met-more : (p q r : Pass) (peers out next : List P) (done : List (Worker P)) (w : Worker P) → Meeting p peers done q out → Meets q (pass_of w) r → IsSame q r
      → next ≡ peers ++ backs (w ∷ done) → Meeting p peers (w ∷ done) r next
  met-more p q r peers out next done w a m s b = record {
    same = (s.0 ∙ a.same.0, s.1 ∙ a.same.1);
    start = m.start ∙ a.start;
    callers = m.callers ∙ a.callers;
    mine = m.mine ∙ a.mine;
    begins = begins-trans (seen_of p) (seen_of q) (seen_of r) a.begins m.first;
    each = λ v at. ⊎_elim (λ (e : w ≡ v). subst (λ u. BeginsWith (seen_of (pass_of u)) (seen_of r) × LiesAmong ((pass_of u).number, mine_of (pass_of u)) (met_of r)) e
        (m.second, subst (LiesAmong ((pass_of w).number, mine_of (pass_of w))) (sym m.met) (among-head ((pass_of w).number, mine_of (pass_of w)) (met_of q) (met_of (pass_of w)))))
        (λ (e : LiesAmong v done). let o = a.each v e in (begins-trans (seen_of (pass_of v)) (seen_of q) (seen_of r) o.0 m.first, keep ((pass_of v).number, mine_of (pass_of v)) o.1)) (among-cons v w done at);
    old = λ x at. keep x (a.old x at);
    back = b;
  }
    where
      keep : (x : ℕ × List ℕ) → LiesAmong x (met_of q) → LiesAmong x (met_of r)
      keep x at = subst (LiesAmong x) (sym m.met) (among-left x (met_of q) (((pass_of w).number, mine_of (pass_of w)) ∷ met_of (pass_of w)) at)

  pub loop-more : (p q r : Pass) (peers out next : List P) (ws left less : List (Worker P)) (olds bs cs : List Answered) (w : Worker P) → left ≡ less ++ w ∷ [] → Loop p peers ws left olds q out bs → LaidWith (IsMadeBy (w ∷ [])) bs cs → Meets q (pass_of w) r → IsSame q r
      → next ≡ out ++ backs (w ∷ []) → Loop p peers ws less olds r next cs
  loop-more p q r peers out next ws left less olds bs cs w pop a lays m s b = record {
    done = w ∷ a.done;
    is = a.is ∙ (ap (λ l. l ++ a.done) pop ∙ append_assoc less (w ∷ []) a.done);
    met = met-more p q r peers out next a.done w a.met m s (b ∙ (ap (λ l. l ++ backs (w ∷ [])) a.met.back ∙ (append_assoc peers (backs a.done) (backs (w ∷ [])) ∙ ap (λ l. peers ++ l) (join w a.done))));
    laid = laid-then (IsMadeBy a.done) (IsMadeBy (w ∷ [])) (IsMadeBy (w ∷ a.done)) olds bs cs split (λ m o. (o.0, (suc o.1.0, o.1.1), o.2)) first a.laid lays;
    count = let n = length-append out (backs (w ∷ [])) in let k : length next ≡ length (out ++ backs (w ∷ [])) = ap (λ l. length l) b in let z = one w in
        let x : length left ≡ length (less ++ w ∷ []) = ap (λ l. length l) pop in let y = length-append less (w ∷ []) in let c = a.count in omega (arith, n, k, z, x, y, c);
  }
    where
      one : (w : Worker P) → length (backs (w ∷ [])) ≤ 1
      one (Writes v) = omega arith
      one (Drains v) = omega arith

      join : (w : Worker P) (done : List (Worker P)) → backs done ++ backs (w ∷ []) ≡ backs (w ∷ done)
      join (Writes v) done = append-nil (backs done)
      join (Drains v) done = refl

      split : (m : Made) → IsMadeBy (w ∷ a.done) m → IsMadeBy a.done m ⊎ IsMadeBy (w ∷ []) m
      split m (x, (zero, e), k) = inr (x, (zero, e), k)
      split m (x, (suc i, e), k) = inl (x, (i, e), k)

      first : (m : Made) → IsMadeBy (w ∷ []) m → IsMadeBy (w ∷ a.done) m
      first m (x, (zero, e), k) = (x, (zero, e), k)
      first m (x, (suc i, e), k) = absurd (cc e)

  -- a link's worker makes nothing, and a writer what it made
  pub lays-none : (d : Drainer P) (olds : List Answered) → LaidWith (IsMadeBy (Drains d ∷ [])) olds olds
  lays-none d olds = laid-none (IsMadeBy (Drains d ∷ [])) olds none
    where
      none : (m : Made) → IsMadeBy (Drains d ∷ []) m → ⊥
      none m (x, (zero, e), k) = absurd (cc e)
      none m (x, (suc i, e), k) = absurd (cc e)

  abbrev pub alone : Writer → List (Worker P)
  alone x = Writes x ∷ []

  pub lays-writer : (x : Writer) (olds bs : List Answered) → LaidWith (λ m. LiesAmong m x.made.items) olds bs → LaidWith (IsMadeBy (alone x)) olds bs
  lays-writer x olds bs l = laid-as (λ m. LiesAmong m x.made.items) (IsMadeBy (alone x)) olds bs back (λ m a. (x, (0, refl), a)) l
    where
      writes-one : (v w : Writer) → slice_get (alone v) 0 ≡ Some (Writes w) → v ≡ w
      writes-one v w e = cc e

      back : (m : Made) → IsMadeBy (alone x) m → LiesAmong m x.made.items
      back m (y, (zero, e), k) = subst (λ z. LiesAmong m z.made.items) (sym (writes-one x y e)) k
      back m (y, (suc i, e), k) = absurd (cc e)

  pub loop-last : (p q : Pass) (peers out : List P) (ws left : List (Worker P)) (olds bs : List Answered) → left ≡ [] → Loop p peers ws left olds q out bs → Meeting p peers ws q out × LaidWith (IsMadeBy ws) olds bs
  loop-last p q peers out ws left olds bs none a = subst (λ l. Meeting p peers l q out × LaidWith (IsMadeBy l) olds bs) (sym (a.is ∙ ap (λ l. l ++ a.done) none)) (a.met, a.laid)

  -- a worker's pass stays a pass of its table
  stays : (stand : P → Stand) (root : P → P) (z : TableId) (plan : List Planned) (w x : Worker P) → IsSet stand z plan w → HasWorked stand root plan w x → table_id_of (pass_of x) ≡ z
  stays stand root z plan (Writes w) (Writes x) s h = h.keeps.0.0 ∙ s.0
  stays stand root z plan (Drains w) (Drains x) s h = h.0.keeps.0.0 ∙ s.0
  stays stand root z plan (Writes w) (Drains x) s h = absurd h
  stays stand root z plan (Drains w) (Writes x) s h = absurd h

  pub all-stay : (stand : P → Stand) (root : P → P) (z : TableId) (plan : List Planned) (ws xs : List (Worker P)) → AllSet stand z plan ws → EachWorked stand root plan ws xs → AllOf z xs
  all-stay stand root z plan ws xs s e x m = let inside : m.0 < length xs = slice_get_within xs m.0 x m.1 in
      let n : m.0 < length ws = (let k = e.0 in omega (arith, k, inside)) in
      let w : Worker P = slice_index_or ws m.0 x in
      let here : slice_index_or ws m.0 w ≡ w = get_or_from_slice_get ws m.0 w w (slice_get-get_or ws m.0 x n) in
      let h : HasWorked stand root plan w (slice_index_or xs m.0 x) = e.1 m.0 x n in
      stays stand root z plan w x (s m.0 w n here) (subst (λ v. HasWorked stand root plan w v) (get_or_from_slice_get xs m.0 x x m.1) h)
