-- What each worker knows alone, said of the whole history once all are met.
use Rattle.std.proofs.Common.{◌≡◌, ◌⊎◌, ℕ, zero, suc, ◌+◌, ◌<◌, ◌≤◌, ◌==◌, Bool, true, false, List, [], ◌∷◌, ◌++◌, length, cond, refl, ap, sym, ◌∙◌, subst, ⊎_elim, inl, inr, arith, length-append, eq-eqb, Some, slice_get}
use Rattle.std.proofs.lemmas.Option.{slice_get-get_or, get_or_from_slice_get, slice_get_within}
use Rattle.atomic_table.specs.Seated.{TableId}
use Rattle.vx_model.specs.declared.call.Call.{Call}
use Rattle.vx_model.specs.declared.call.Reply.{Reply}
use Rattle.vx_model.proofs.Lists.{get_there}
use Rattle.vx_turn.specs.declared.ask.Ask.{Ask}
use Rattle.vx_turn.specs.declared.ask.Ask.TheVariants.{Ordered, Charged}
use Rattle.vx_turn.specs.declared.ask.Said.{Said}
use Rattle.vx_turn.specs.declared.ask.Said.TheVariants.{Replied}
use Rattle.vx_turn.specs.declared.ask.Job.TheVariants.{Apply, Fetch, Acked, Wait}
use Rattle.vx_turn.specs.declared.meaning.Entry.{Entry}
use Rattle.vx_turn.specs.declared.meaning.State.{State}
use Rattle.vx_turn.specs.declared.passes.Pass.{Pass}
use Rattle.vx_turn.specs.Acting.{LiesAmong}
use Rattle.vx_turn.specs.History.{BeginsWith, Legal, FitsHistory, HasLogged, places, places_from, Named}
use Rattle.vx_turn.specs.Turning.{Has}
use Rattle.vx_turn.specs.Passing.{pass_view, seen_of, start_of, mine_of, met_of, callers_of, IsNewPass}
use Rattle.vx_turn.proofs.Histories.{logged-more}
use Rattle.vx_turn.proofs.Dealing.{get-snoc}
use Rattle.vx_settle.specs.declared.peer.Stand.{Stand}
use Rattle.vx_settle.proofs.ManyPeers.{some-one, get-inside}
use Rattle.vx_burst_threads.specs.declared.plan.Planned.{Planned}
use Rattle.vx_burst_threads.specs.declared.plan.Answered.{Answered}
use Rattle.vx_burst_threads.specs.declared.drainer.Drainer.{Drainer}
use Rattle.vx_burst_threads.specs.declared.writer.Writer.{Writer}
use Rattle.vx_burst_threads.specs.declared.writer.Made.{Made}
use Rattle.vx_burst_threads.specs.declared.worker.Worker.{Worker}
use Rattle.vx_burst_threads.specs.declared.worker.Worker.TheVariants.{Writes, Drains}
use Rattle.vx_burst_threads.specs.Planning.{call_for}
use Rattle.vx_burst_threads.specs.Writing.{StandsInLog, IsStalledAt, WriterWrote}
use Rattle.vx_burst_threads.specs.Draining.{JobFits, JobsFit, DrainedWith}
use Rattle.vx_burst_threads.specs.Working.{AllSet, HasWorked, EachWorked}
use Rattle.vx_burst_threads.specs.Joining.{pass_of, backs, IsMadeBy, Meeting}
use Rattle.vx_burst_threads.specs.Laying.{LaidWith}
use Rattle.vx_burst_threads.proofs.Making.{stands-more}
use Rattle.vx_burst.specs.Setting.{IsSetUp, AreSetUp}
use Rattle.vx_burst.specs.Finishing.{Went, AckWithin, BurstUnderway, IsLeftOut, IsOfPlan}
use Rattle.vx_burst.specs.Ending.{HasJoined}

-- an entry that stands at a place is found there
pub stands-get : (log : List Entry) (place by : ℕ) (ask : Ask) (said : Said) → StandsInLog log place by ask said → (n : ℕ) → suc n ≡ place → (e : Entry) → slice_get log n ≡ Some e → (e.caller ≡ by) × (e.ask ≡ ask) × (e.said ≡ said)
stands-get log place by ask said s n is e at = found s.front n (let a = s.at in omega (arith, a, is)) (subst (λ l. slice_get l n ≡ Some e) s.is at)
  where
    found : (front : List Entry) (n : ℕ) → length front ≡ n → slice_get ((front ++ record { caller = by; ask = ask; said = said; before = s.before; after = s.after } ∷ []) ++ s.rest) n ≡ Some e → (e.caller ≡ by) × (e.ask ≡ ask) × (e.said ≡ said)
    found [] zero long at = let same : record { caller = by; ask = ask; said = said; before = s.before; after = s.after } ≡ e = some-one at in
        (ap (λ (x : Entry). x.caller) (sym same), ap (λ (x : Entry). x.ask) (sym same), ap (λ (x : Entry). x.said) (sym same))
    found [] (suc n) long at = absurd (omega (arith, long))
    found (x ∷ xs) zero long at = absurd (omega (arith, long))
    found (x ∷ xs) (suc n) long at = found xs n (omega (arith, long)) at

-- the place of an entry is one of its caller's
pub place-in : (k : ℕ) (log : List Entry) (n : ℕ) (e : Entry) → slice_get log n ≡ Some e → LiesAmong (suc (k + n)) (places_from k e.caller log)
place-in k [] n e at = absurd (cc at)
place-in k (x ∷ xs) zero e at = let same : x.caller ≡ e.caller = ap (λ (y : Entry). y.caller) (some-one at) in let z : suc k ≡ suc (k + 0) = omega arith in
    subst (LiesAmong (suc (k + 0))) (sym (ap (λ b. cond b (suc k ∷ places_from (suc k) e.caller xs) (places_from (suc k) e.caller xs)) (eq-eqb x.caller e.caller same))) (0, ap Some z)
place-in k (x ∷ xs) (suc n) e at = let z : suc (suc k + n) ≡ suc (k + suc n) = omega arith in branch (x.caller == e.caller) (subst (λ m. LiesAmong m (places_from (suc k) e.caller xs)) z (place-in (suc k) xs n e at))
  where
    branch : (b : Bool) → LiesAmong (suc (k + suc n)) (places_from (suc k) e.caller xs) → LiesAmong (suc (k + suc n)) (cond b (suc k ∷ places_from (suc k) e.caller xs) (places_from (suc k) e.caller xs))
    branch true m = (suc m.0, m.1)
    branch false m = m

pub place-here : (log : List Entry) (n : ℕ) (e : Entry) → slice_get log n ≡ Some e → LiesAmong (suc n) (places e.caller log)
place-here log n e at = let z : suc (0 + n) ≡ suc n = omega arith in subst (λ m. LiesAmong m (places e.caller log)) z (place-in 0 log n e at)

pub named-among : (callers : ℕ) (log : List Entry) (n : ℕ) (e : Entry) → Named callers log → slice_get log n ≡ Some e → e.caller < callers
named-among callers [] n e named at = absurd (cc at)
named-among callers (x ∷ xs) zero e named at = subst (λ (y : Entry). y.caller < callers) (some-one at) named.0
named-among callers (x ∷ xs) (suc n) e named at = named-among callers xs n e named.1 at

pub set-all : {P : Type 0} (stand : P → Stand) (z : TableId) (start : State) (callers : ℕ) (plan : List Planned) (ws : List (Worker P)) → AreSetUp stand z start callers plan ws → AllSet stand z plan ws
set-all {P} stand z start callers plan ws set i w lt is = one w (set i w (slice_get-get_or ws i w lt ∙ ap Some is))
  where
    one : (w : Worker P) → IsSetUp stand z start callers plan i w → Rattle.vx_burst_threads.specs.Working.IsSet stand z plan w
    one (Writes w) s = s.2
    one (Drains d) s = (s.0.table, s.1)

module _ {P : Type 0} (stand : P → Stand) (root : P → P) where
  -- each worker did its own work
  abbrev pub Paired : List Planned → List (Worker P) → List (Worker P) → Type 0
  Paired plan ws xs = (length xs ≡ length ws) × ((i : ℕ) (w x : Worker P) → slice_get ws i ≡ Some w → slice_get xs i ≡ Some x → HasWorked stand root plan w x)

  pub paired : (plan : List Planned) (ws xs : List (Worker P)) → EachWorked stand root plan ws xs → Paired plan ws xs
  paired plan ws xs e = (e.0, λ i w x a b. subst (λ (z : Worker P × Worker P). HasWorked stand root plan z.0 z.1) (λ k. (get_or_from_slice_get ws i w w a k, get_or_from_slice_get xs i x w b k)) (e.1 i w (slice_get_within ws i w a)))

  -- the peers that came back are those that were handed out, each with its work
  backs-long : (plan : List Planned) (ws xs : List (Worker P)) → Paired plan ws xs → length (backs xs) ≡ length (backs ws)
  backs-long plan [] [] p = refl
  backs-long plan [] (x ∷ xs) p = absurd (let n = p.0 in omega (arith, n))
  backs-long plan (w ∷ ws) [] p = absurd (let n = p.0 in omega (arith, n))
  backs-long plan (w ∷ ws) (x ∷ xs) p = one w x (p.1 0 w x refl refl) (backs-long plan ws xs ((let n = p.0 in omega (arith, n)), λ i u v a b. p.1 (suc i) u v a b))
    where
      one : (w x : Worker P) → HasWorked stand root plan w x → length (backs xs) ≡ length (backs ws) → length (backs (x ∷ xs)) ≡ length (backs (w ∷ ws))
      one (Writes u) (Writes v) h n = n
      one (Drains u) (Drains v) h n = let a = length-append (backs xs) (v.peer ∷ []) in let b = length-append (backs ws) (u.peer ∷ []) in omega (arith, a, b, n)
      one (Writes u) (Drains v) h n = absurd h
      one (Drains u) (Writes v) h n = absurd h

  -- at a place of the peers: the workers that had it
  pub back-pair : (plan : List Planned) (ws xs : List (Worker P)) → Paired plan ws xs → (j : ℕ) (p q : P) → slice_get (backs ws) j ≡ Some p → slice_get (backs xs) j ≡ Some q
      → (i : ℕ) × (d : Drainer P) × (e : Drainer P) × (slice_get ws i ≡ Some (Drains d)) × (slice_get xs i ≡ Some (Drains e)) × (d.peer ≡ p) × (e.peer ≡ q)
  back-pair plan [] xs pairs j p q a b = absurd (cc a)
  back-pair plan (w ∷ ws) [] pairs j p q a b = absurd (cc b)
  back-pair plan (w ∷ ws) (x ∷ xs) pairs j p q a b = one w x refl refl (pairs.1 0 w x refl refl) (λ y z. back-pair plan ws xs less j p q y z) a b
    where
      less : Paired plan ws xs
      less = ((let n = pairs.0 in omega (arith, n)), λ i u v y z. pairs.1 (suc i) u v y z)

      Goal : Type 0
      Goal = (i : ℕ) × (d : Drainer P) × (e : Drainer P) × (slice_get (w ∷ ws) i ≡ Some (Drains d)) × (slice_get (x ∷ xs) i ≡ Some (Drains e)) × (d.peer ≡ p) × (e.peer ≡ q)

      later : (i : ℕ) × (d : Drainer P) × (e : Drainer P) × (slice_get ws i ≡ Some (Drains d)) × (slice_get xs i ≡ Some (Drains e)) × (d.peer ≡ p) × (e.peer ≡ q)
          → (i : ℕ) × (d : Drainer P) × (e : Drainer P) × (slice_get (w ∷ ws) i ≡ Some (Drains d)) × (slice_get (x ∷ xs) i ≡ Some (Drains e)) × (d.peer ≡ p) × (e.peer ≡ q)
      later (i, d, e, s, t, u, v) = (suc i, d, e, s, t, u, v)

      one : (u v : Worker P) → u ≡ w → v ≡ x → HasWorked stand root plan u v
          → (slice_get (backs ws) j ≡ Some p → slice_get (backs xs) j ≡ Some q → (i : ℕ) × (d : Drainer P) × (e : Drainer P) × (slice_get ws i ≡ Some (Drains d)) × (slice_get xs i ≡ Some (Drains e)) × (d.peer ≡ p) × (e.peer ≡ q))
          → slice_get (backs (u ∷ ws)) j ≡ Some p → slice_get (backs (v ∷ xs)) j ≡ Some q
          → (i : ℕ) × (d : Drainer P) × (e : Drainer P) × (slice_get (w ∷ ws) i ≡ Some (Drains d)) × (slice_get (x ∷ xs) i ≡ Some (Drains e)) × (d.peer ≡ p) × (e.peer ≡ q)
      one (Writes u) (Writes v) uw vx h rest a b = later (rest a b)
      one (Drains u) (Drains v) uw vx h rest a b = ⊎_elim (λ (y : slice_get (backs ws) j ≡ Some p). ⊎_elim (λ (z : slice_get (backs xs) j ≡ Some q). later (rest y z))
          (λ (z : (j ≡ length (backs xs)) × (v.peer ≡ q)). absurd (let n = get-inside (backs ws) j p y in let l = backs-long plan ws xs less in let k = z.0 in omega (arith, n, l, k))) (get-snoc (backs xs) v.peer q j b))
          (λ (y : (j ≡ length (backs ws)) × (u.peer ≡ p)). ⊎_elim (λ (z : slice_get (backs xs) j ≡ Some q). absurd (let n = get-inside (backs xs) j q z in let l = backs-long plan ws xs less in let k = y.0 in omega (arith, n, l, k)))
          (λ (z : (j ≡ length (backs xs)) × (v.peer ≡ q)). (0, u, v, ap Some (sym uw), ap Some (sym vx), y.1, z.1)) (get-snoc (backs xs) v.peer q j b)) (get-snoc (backs ws) u.peer p j a)
      one (Writes u) (Drains v) uw vx h rest a b = absurd h
      one (Drains u) (Writes v) uw vx h rest a b = absurd h

  -- what a worker's pass is
  pub worked-pass : (z : TableId) (start : State) (callers : ℕ) (plan : List Planned) (i : ℕ) (w x : Worker P) → IsSetUp stand z start callers plan i w → HasWorked stand root plan w x → ((pass_of x).number ≡ i) × (start_of (pass_of x) ≡ start)
  worked-pass z start callers plan i (Writes w) (Writes x) s h = (h.keeps.0.1 ∙ s.0.number_is, h.keeps.1 ∙ s.0.start_is)
  worked-pass z start callers plan i (Drains w) (Drains x) s h = (h.0.keeps.0.1 ∙ s.0.number_is, h.0.keeps.1 ∙ s.0.start_is)
  worked-pass z start callers plan i (Writes w) (Drains x) s h = absurd h
  worked-pass z start callers plan i (Drains w) (Writes x) s h = absurd h

  -- all workers were met by a pass that had seen nothing, and the history is what it has seen then
  pub record Joined (z : TableId) (start : State) (callers : ℕ) (plan : List Planned) (firsts : List P) (p q : Pass) (out : List P) (log : List Entry) : Type 0 where
    pub ws : List (Worker P)
    pub xs : List (Worker P)
    pub pairs : Paired plan ws xs
    pub set : AreSetUp stand z start callers plan ws
    pub own : IsNewPass z start callers (length ws) p
    pub all : callers ≡ suc (length ws)
    pub back : backs ws ≡ firsts
    pub met : Meeting p [] xs q out
    pub named : Named callers log
    pub has : (by : ℕ) (ps : List ℕ) → Has (pass_view q) by ps → places by log ≡ ps
    pub seen : log ≡ seen_of q

  module _ (z : TableId) (start : State) (callers : ℕ) (plan : List Planned) (firsts : List P) (p q : Pass) (out : List P) (log : List Entry) (j : Joined z start callers plan firsts p q out log) where
    -- the worker with a number
    pub worker-at : (i : ℕ) → i < length j.ws → (w : Worker P) × (x : Worker P) × (slice_get j.ws i ≡ Some w) × (slice_get j.xs i ≡ Some x) × HasWorked stand root plan w x × ((pass_of x).number ≡ i) × (start_of (pass_of x) ≡ start)
    worker-at i lt = let a = get_there j.ws i lt in let n = j.pairs.0 in let b = get_there j.xs i (omega (arith, n, lt)) in let h = j.pairs.1 i a.0 b.0 a.1 b.1 in let s = worked-pass z start callers plan i a.0 b.0 (j.set i a.0 a.1) h in
        (a.0, b.0, a.1, b.1, h, s.0, s.1)

    -- its entries in the whole history are those that it has seen
    pub places-of : (i : ℕ) (x : Worker P) → slice_get j.xs i ≡ Some x → (pass_of x).number ≡ i → places i log ≡ mine_of (pass_of x)
    places-of i x at number = j.has i (mine_of (pass_of x)) (inr (subst (λ n. LiesAmong (n, mine_of (pass_of x)) (met_of q)) number (j.met.each x (i, at)).1))

    pub begins-of : (i : ℕ) (x : Worker P) → slice_get j.xs i ≡ Some x → BeginsWith (seen_of (pass_of x)) log
    begins-of i x at = let b = (j.met.each x (i, at)).0 in (b.0, j.seen ∙ b.1)

    -- an entry of the history is a call that was made, or a job or a stalled call, and what is acknowledged is within the peers
    pub record IsMadeAt (n : ℕ) (e : Entry) : Type 0 where
      pub made : Made
      pub by : IsMadeBy j.xs made
      pub place : made.place ≡ suc n
      pub planned : Planned
      pub reply : Reply
      pub is : slice_get plan made.at ≡ Some planned
      pub asks : e.ask ≡ Ordered (call_for planned)
      pub says : e.said ≡ Replied reply

    -- the call is that of a member of which nothing was made
    abbrev pub IsOpen : ℕ → Call → Type 0
    IsOpen n call = (k : ℕ) × (pl : Planned) × (slice_get plan k ≡ Some pl) × (call ≡ call_for pl) × ((m : Made) → IsMadeBy j.xs m → m.at ≡ k → ⊥)

    -- a job, or a stalled answer that was left open
    abbrev pub IsIdle : Ask → Said → Type 0
    IsIdle ask said = IsLeftOut IsOpen 0 ask said

    abbrev pub Class : ℕ → Entry → Type 0
    Class n e = IsMadeAt n e ⊎ (IsIdle e.ask e.said × AckWithin stand root out e.ask × IsOfPlan plan e.ask)

    -- nothing was made of a member at which its thread stopped
    left-open : (i k : ℕ) (x : Writer) (pl : Planned) → slice_get j.xs i ≡ Some (Writes x) → slice_get plan k ≡ Some pl → pl.thread ≡ i + 1 → ((m : Made) → LiesAmong m x.made.items → m.at < k)
        → (m : Made) → IsMadeBy j.xs m → m.at ≡ k → ⊥
    left-open i k x pl new is own below m (y, (u, here), got) at =
        let inside = get-inside j.xs u (Writes y) here in let n = j.pairs.0 in let w = get_there j.ws u (omega (arith, n, inside)) in by-writer w.0 w.1 (j.pairs.1 u w.0 (Writes y) w.1 here)
      where
        as-worker : Writer → Worker P
        as-worker v = Writes v

        same-writer : (v w : Writer) → as-worker v ≡ as-worker w → v ≡ w
        same-writer v w e = cc e

        by-writer : (w : Worker P) → slice_get j.ws u ≡ Some w → HasWorked stand root plan w (Writes y) → ⊥
        by-writer (Drains d) old h = absurd h
        by-writer (Writes w) old h = let s = j.set u (Writes w) old in let g = (h.made s.0.none_made).1.each m got in
            let same : g.planned ≡ pl = some-one (sym g.is ∙ (ap (slice_get plan) at ∙ is)) in
            let t : w.thread ≡ i + 1 = sym g.own ∙ (ap (λ (z : Planned). z.thread) same ∙ own) in let a = s.1 in let eq : u ≡ i = omega (arith, t, a) in
            let v : y ≡ x = same-writer y x (some-one (sym here ∙ (ap (slice_get j.xs) eq ∙ new))) in
            let lt = below m (subst (λ (c : Writer). LiesAmong m c.made.items) v got) in omega (arith, lt, at)

    writer-class : (n i : ℕ) (e : Entry) (w x : Writer) → slice_get log n ≡ Some e → e.caller ≡ i → slice_get j.ws i ≡ Some (Writes w) → slice_get j.xs i ≡ Some (Writes x) → WriterWrote plan w x → x.pass.number ≡ i → Class n e
    writer-class n i e w x at by old new h number = let fresh = (j.set i (Writes w) old).0.none_made in let m = h.made fresh in
        let mine : LiesAmong (suc n) (mine_of x.pass) = subst (LiesAmong (suc n)) (ap (λ c. places c log) by ∙ places-of i (Writes x) new number) (place-here log n e at) in
        ⊎_elim (λ (o : (d : Made) × LiesAmong d x.made.items × (d.place ≡ suc n)). let k = m.1.each o.0 o.1 in
        let g = stands-get log o.0.place x.pass.number (Ordered (call_for k.planned)) (Replied k.reply) (stands-more (seen_of x.pass) log o.0.place x.pass.number (Ordered (call_for k.planned)) (Replied k.reply) k.stands (begins-of i (Writes x) new)) n (sym o.2) e at in
        inl (record { made = o.0; by = (x, (i, new), o.1); place = o.2; planned = k.planned; reply = k.reply; is = k.is; asks = g.1; says = g.2 }))
        (λ (o : IsStalledAt plan w.thread m.0 x.pass (suc n)).
        let g = stands-get log (suc n) x.pass.number (Ordered (call_for o.planned)) (Replied o.reply) (stands-more (seen_of x.pass) log (suc n) x.pass.number (Ordered (call_for o.planned)) (Replied o.reply) o.stands (begins-of i (Writes x) new)) n refl e at in
        inr (subst (λ (y : Ask × Said). IsIdle y.0 y.1 × AckWithin stand root out y.0 × IsOfPlan plan y.0) (λ k. (sym g.1 k, sym g.2 k)) ((o.stalled, (m.0, o.planned, o.is, refl, left-open i m.0 x o.planned new o.is (o.own ∙ (j.set i (Writes w) old).1) (λ d got. (m.1.each d got).done))), tt, (m.0, o.planned, o.is, refl)))) (m.1.only (suc n) mine)

    -- where a link's worker's peer came back
    drainer-back : (i : ℕ) (d : Drainer P) → slice_get j.xs i ≡ Some (Drains d) → (k : ℕ) × (slice_get out k ≡ Some d.peer)
    drainer-back i d at = let o = among-backs j.xs i d at in (o.0, subst (λ l. slice_get l o.0 ≡ Some d.peer) (sym j.met.back) o.1)
      where
        among-backs : (xs : List (Worker P)) (i : ℕ) (d : Drainer P) → slice_get xs i ≡ Some (Drains d) → (k : ℕ) × (slice_get (backs xs) k ≡ Some d.peer)
        among-backs [] i d at = absurd (cc at)
        among-backs (Drains e ∷ xs) zero d at = let same : Drains e ≡ Drains d = some-one at in let is : e ≡ d = cc same in
            (length (backs xs), subst (λ (y : Drainer P). slice_get (backs xs ++ e.peer ∷ []) (length (backs xs)) ≡ Some y.peer) is (Rattle.vx_turn.proofs.Dealing.get-last (backs xs) e.peer))
        among-backs (Writes w ∷ xs) zero d at = absurd (cc at)
        among-backs (Writes w ∷ xs) (suc i) d at = among-backs xs i d at
        among-backs (Drains e ∷ xs) (suc i) d at = let r = among-backs xs i d at in (r.0, Rattle.vx_turn.proofs.Dealing.get-longer (backs xs) (e.peer ∷ []) r.0 d.peer r.1)

    job-class : (k : ℕ) (d : Drainer P) → slice_get out k ≡ Some d.peer → (ask : Ask) (said : Said) → JobFits (stand d.peer) ask → IsIdle ask said × AckWithin stand root out ask × IsOfPlan plan ask
    job-class k d at (Charged (Acked link net stored)) said f = (tt, (k, d.peer, at, f.0, f.1, f.2), tt)
    job-class k d at (Charged (Apply n)) said f = (tt, tt, tt)
    job-class k d at (Charged (Fetch n)) said f = (tt, tt, tt)
    job-class k d at (Charged (Wait n)) said f = (tt, tt, tt)
    job-class k d at (Ordered call) said f = absurd f

    drainer-class : (n i : ℕ) (e : Entry) (c d : Drainer P) → slice_get log n ≡ Some e → e.caller ≡ i → slice_get j.ws i ≡ Some (Drains c) → slice_get j.xs i ≡ Some (Drains d) → DrainedWith stand root c d → d.pass.number ≡ i → Class n e
    drainer-class n i e c d at by old new h number = let b = begins-of i (Drains d) new in let fresh = (j.set i (Drains c) old).0 in
        let none : JobsFit (seen_of c.pass) c.pass.number (stand c.peer) = λ x m is. absurd (cc (subst (λ (l : List Entry). slice_get l m.0 ≡ Some x) fresh.unseen m.1)) in
        let fit : JobsFit (seen_of d.pass) d.pass.number (stand d.peer) = h.0.jobs none in
        let all : places i log ≡ mine_of d.pass = places-of i (Drains d) new number in
        let mine : LiesAmong (suc n) (mine_of d.pass) = subst (LiesAmong (suc n)) (ap (λ c. places c log) by ∙ all) (place-here log n e at) in
        let first : (place : ℕ) → LiesAmong place (mine_of c.pass) → place ≤ length (seen_of c.pass) = λ place m. absurd (cc (subst (λ (l : List ℕ). slice_get l m.0 ≡ Some place) fresh.none_made m.1)) in
        let low : suc n ≤ length (seen_of d.pass) = h.0.within first (suc n) mine in
        let here : LiesAmong e (seen_of d.pass) = (n, front-get (seen_of d.pass) b.0 n e low (subst (λ l. slice_get l n ≡ Some e) b.1 at)) in
        inr (let k = drainer-back i d new in job-class k.0 d k.1 e.ask e.said (fit e here (by ∙ sym number)))
      where
        front-get : (xs ys : List Entry) (n : ℕ) (e : Entry) → suc n ≤ length xs → slice_get (xs ++ ys) n ≡ Some e → slice_get xs n ≡ Some e
        front-get [] ys n e low at = absurd (omega (arith, low))
        front-get (x ∷ xs) ys zero e low at = at
        front-get (x ∷ xs) ys (suc n) e low at = front-get xs ys n e (omega (arith, low)) at

    -- the caller's own pass made nothing
    own-none : (n : ℕ) (e : Entry) → slice_get log n ≡ Some e → e.caller ≡ length j.ws → ⊥
    own-none n e at by = let rest = q.at_rest in
        let number : q.number ≡ length j.ws = j.met.same.1 ∙ j.own.number_is in
        let low : (pass_view q).low ≡ q.number = rest.2 in let one = rest.3 in
        let h : Has (pass_view q) (length j.ws) (mine_of q) = inl (omega (arith, low, number), omega (arith, low, one, number), refl) in
        let none : places (length j.ws) log ≡ [] = j.has (length j.ws) (mine_of q) h ∙ (j.met.mine ∙ j.own.none_made) in
        let m : LiesAmong (suc n) (places e.caller log) = place-here log n e at in
        let gone : LiesAmong {A = ℕ} (suc n) [] = subst (LiesAmong (suc n)) (ap (λ c. places c log) by ∙ none) m in absurd (cc gone.1)

    pub classify : (n : ℕ) (e : Entry) → slice_get log n ≡ Some e → Class n e
    classify n e at = ⊎_elim (λ (lt : e.caller < length j.ws). let w = worker-at e.caller lt in by-worker w.0 w.1 w.2 w.3 w.4 w.5)
        (λ (is : e.caller ≡ length j.ws). absurd (own-none n e at is)) (split e.caller (length j.ws) (let b = named-among callers log n e j.named at in let a = j.all in omega (arith, a, b)))
      where
        split : (i k : ℕ) → i < suc k → (i < k) ⊎ (i ≡ k)
        split zero zero lt = inr refl
        split zero (suc k) lt = inl (omega arith)
        split (suc i) zero lt = absurd (omega (arith, lt))
        split (suc i) (suc k) lt = ⊎_elim (λ (x : i < k). inl (omega (arith, x))) (λ (x : i ≡ k). inr (ap suc x)) (split i k (omega (arith, lt)))

        by-worker : (w x : Worker P) → slice_get j.ws e.caller ≡ Some w → slice_get j.xs e.caller ≡ Some x → HasWorked stand root plan w x → (pass_of x).number ≡ e.caller → Class n e
        by-worker (Writes w) (Writes x) old new h number = writer-class n e.caller e w x at refl old new h number
        by-worker (Drains w) (Drains x) old new h number = drainer-class n e.caller e w x at refl old new h number
        by-worker (Writes w) (Drains x) old new h number = absurd h
        by-worker (Drains w) (Writes x) old new h number = absurd h

    made-within : (e : Entry) (n : ℕ) → Class n e → AckWithin stand root out e.ask
    made-within e n c = ⊎_elim (λ (m : IsMadeAt n e). subst (AckWithin stand root out) (sym m.asks) tt) (λ (m : IsIdle e.ask e.said × AckWithin stand root out e.ask × IsOfPlan plan e.ask). m.1) c

    pub of-plan : (e : Entry) (n : ℕ) → Class n e → IsOfPlan plan e.ask
    of-plan e n c = ⊎_elim (λ (m : IsMadeAt n e). subst (IsOfPlan plan) (sym m.asks) (m.made.at, m.planned, m.is, refl))
        (λ (m : IsIdle e.ask e.said × AckWithin stand root out e.ask × IsOfPlan plan e.ask). m.2) c

    went : (i : ℕ) (a b : P) → slice_get firsts i ≡ Some a → slice_get out i ≡ Some b → Went stand root start log a b
    went i a b x y = let o = back-pair plan j.ws j.xs j.pairs i a b (subst (λ l. slice_get l i ≡ Some a) (sym j.back) x) (subst (λ l. slice_get l i ≡ Some b) j.met.back y) in
        subst (λ (t : P × P). Went stand root start log t.0 t.1) (λ k. (o.5 k, o.6 k)) (one o.0 o.1 o.2 o.3 o.4)
      where
        one : (k : ℕ) (d e : Drainer P) → slice_get j.ws k ≡ Some (Drains d) → slice_get j.xs k ≡ Some (Drains e) → Went stand root start log d.peer e.peer
        one k d e old new = let h : DrainedWith stand root d e = j.pairs.1 k (Drains d) (Drains e) old new in
            let s : start_of e.pass ≡ start = (worked-pass z start callers plan k (Drains d) (Drains e) (j.set k (Drains d) old) h).1 in let b = begins-of k (Drains e) new in record {
              goes = h.0.goes;
              got = h.0.got;
              took = h.0.took;
              from = λ u m. ⊎_elim (λ (v : LiesAmong u (start_of e.pass).kept). inl (subst (λ (t : State). LiesAmong u t.kept) s v))
                  (λ (v : HasLogged (start_of e.pass).line (seen_of e.pass) u). inr (subst (λ (t : State × List Entry). HasLogged t.0.line t.1 u) (λ i. (s i, sym b.1 i)) (logged-more (start_of e.pass).line (seen_of e.pass) b.0 u v))) (h.0.from u m);
              rooted = h.1;
            }

    pub joined-underway : (s : State) → Legal start log → FitsHistory start log s → BurstUnderway stand root start firsts log s out
    joined-underway s legal fits = record {
      legal = legal;
      fits = fits;
      long = ap (λ l. length l) j.met.back ∙ (backs-long plan j.ws j.xs j.pairs ∙ ap (λ l. length l) j.back);
      each = went;
      acks = λ e m. made-within e m.0 (classify m.0 e m.1);
    }

  -- what the threads left, with the history that the turn's end gives
  pub joined-of : {E : Type 0} (state : E → State) (base : E → E) (first : E) (z : TableId) (callers : ℕ) (plan : List Planned) (firsts : List P) (olds : List Answered) (engine : E) (out : List P) (news : List Answered)
      → (h : HasJoined stand root state base first z callers plan firsts olds engine out news)
      → (j : Joined z (state first) callers plan firsts h.pass h.last out h.closes.log) × LaidWith (IsMadeBy j.xs) olds news × Legal (state first) h.closes.log × FitsHistory (state first) h.closes.log (state engine)
  joined-of state base first z callers plan firsts olds engine out news h = let m = h.worked.met in let pairs = paired plan h.ws h.worked.xs h.worked.worked in
      let start : start_of h.last ≡ state first = m.start ∙ h.own.start_is in let all : callers_of h.last ≡ callers = m.callers ∙ h.own.callers_is in (
        record {
          ws = h.ws;
          xs = h.worked.xs;
          pairs = pairs;
          set = h.set;
          own = h.own;
          all = h.all;
          back = h.back;
          met = m;
          named = subst (λ n. Named n h.closes.log) all h.closes.named;
          has = h.closes.own;
          seen = h.closes.whole (λ by lt. ⊎_elim (worker by) (last by) (split by (length h.ws) (let a = h.all in omega (arith, a, all, lt))));
        },
        h.worked.laid,
        subst (λ s. Legal s h.closes.log) start h.closes.legal,
        subst (λ s. FitsHistory s h.closes.log (state engine)) start h.closes.fits,
      )
    where
      split : (i k : ℕ) → i < suc k → (i < k) ⊎ (i ≡ k)
      split zero zero lt = inr refl
      split zero (suc k) lt = inl (omega arith)
      split (suc i) zero lt = absurd (omega (arith, lt))
      split (suc i) (suc k) lt = ⊎_elim (λ (x : i < k). inl (omega (arith, x))) (λ (x : i ≡ k). inr (ap suc x)) (split i k (omega (arith, lt)))

      worker : (by : ℕ) → by < length h.ws → (ps : List ℕ) × Has (pass_view h.last) by ps
      worker by lt = let pairs = paired plan h.ws h.worked.xs h.worked.worked in let a = get_there h.ws by lt in let n = pairs.0 in let b = get_there h.worked.xs by (omega (arith, n, lt)) in
          let s = worked-pass z (state first) callers plan by a.0 b.0 (h.set by a.0 a.1) (pairs.1 by a.0 b.0 a.1 b.1) in
          (mine_of (pass_of b.0), inr (subst (λ k. LiesAmong (k, mine_of (pass_of b.0)) (met_of h.last)) s.0 (h.worked.met.each b.0 (by, b.1)).1))

      last : (by : ℕ) → by ≡ length h.ws → (ps : List ℕ) × Has (pass_view h.last) by ps
      last by is = let rest = h.last.at_rest in let number : h.last.number ≡ length h.ws = h.worked.met.same.1 ∙ h.own.number_is in let low : (pass_view h.last).low ≡ h.last.number = rest.2 in let one = rest.3 in
          (mine_of h.last, inl (omega (arith, low, number, is), omega (arith, low, one, number, is), refl))
