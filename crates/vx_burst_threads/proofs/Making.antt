-- What a thread made, one more.
use Rattle.std.proofs.Common.{◌≡◌, ◌≢◌, ◌⊎◌, ℕ, zero, suc, ◌+◌, ◌<◌, ◌≤◌, ◌==◌, ◌%◌, Bool, true, false, List, [], ◌∷◌, ◌++◌, length, take, cond, refl, ap, sym, ◌∙◌, subst, ⊎_elim, inl, inr, arith, append_assoc, length-append, eq-eqb, Option, Some, slice_get, vec_capacity}
use Rattle.std.proofs.lemmas.List.{append-nil}
use Rattle.vx_model.specs.declared.call.Reply.{Reply}
use Rattle.vx_turn.specs.declared.ask.Ask.{Ask}
use Rattle.vx_turn.specs.declared.ask.Ask.TheVariants.{Ordered}
use Rattle.vx_turn.specs.declared.ask.Said.{Said}
use Rattle.vx_turn.specs.declared.ask.Said.TheVariants.{Replied}
use Rattle.vx_turn.specs.declared.meaning.Entry.{Entry}
use Rattle.vx_turn.specs.declared.passes.Pass.{Pass}
use Rattle.vx_turn.specs.Acting.{LiesAmong}
use Rattle.vx_turn.specs.History.{BeginsWith}
use Rattle.vx_turn.specs.Passing.{PassCalls, IsSame, seen_of, mine_of}
use Rattle.vx_turn.proofs.Histories.{begins-self, begins-trans, among-split}
use Rattle.vx_turn.proofs.Dealing.{get-snoc}
use Rattle.vx_settle.proofs.Bringings.{among-left, among-right, among-one}
use Rattle.vx_settle.proofs.ManyPeers.{some-one, get-inside}
use Rattle.vx_burst_threads.specs.declared.plan.Planned.{Planned}
use Rattle.vx_burst_threads.specs.declared.writer.Made.{Made}
use Rattle.vx_burst_threads.specs.declared.writer.Writer.{Writer}
use Rattle.vx_burst_threads.specs.Planning.{IsToldAs, IsStalled, IsNotStalled, call_for, own_count}
use Rattle.vx_burst_threads.specs.Writing.{StandsInLog, IsMemberMade, IsStalledAt, HasMade, WasAsked, WriterGoes, KeepsPass, WriterWrote}

-- an entry at a place stays there in a longer history
pub stands-more : (log more : List Entry) (place by : ℕ) (ask : Ask) (said : Said) → StandsInLog log place by ask said → BeginsWith log more → StandsInLog more place by ask said
stands-more log more place by ask said s b = record {
  front = s.front;
  rest = s.rest ++ b.0;
  before = s.before;
  after = s.after;
  is = b.1 ∙ (ap (λ l. l ++ b.0) s.is ∙ append_assoc (s.front ++ record { caller = by; ask = ask; said = said; before = s.before; after = s.after } ∷ []) s.rest b.0);
  at = s.at;
}

pub stands-bound : (log : List Entry) (place by : ℕ) (ask : Ask) (said : Said) → StandsInLog log place by ask said → place ≤ length log
stands-bound log place by ask said s = let e : Entry = record { caller = by; ask = ask; said = said; before = s.before; after = s.after } in
    let n : length log ≡ length ((s.front ++ e ∷ []) ++ s.rest) = ap (λ l. length l) s.is in
    let a = length-append (s.front ++ e ∷ []) s.rest in let b = length-append s.front (e ∷ []) in omega (arith, n, a, b, s.at)

-- the entry of a call stands at its place, and is behind all that was seen
pub called-stands : (p q : Pass) (ask : Ask) (said : Said) (place : ℕ) → PassCalls p ask place said q → StandsInLog (seen_of q) place p.number ask said
called-stands p q ask said place c = let e : Entry = record { caller = p.number; ask = ask; said = said; before = c.before; after = c.after } in record {
  front = seen_of p ++ c.between;
  rest = [];
  before = c.before;
  after = c.after;
  is = c.ends ∙ sym (append-nil ((seen_of p ++ c.between) ++ e ∷ []));
  at = let n : length (seen_of q) ≡ length ((seen_of p ++ c.between) ++ e ∷ []) = ap (λ l. length l) c.ends in let a = length-append (seen_of p ++ c.between) (e ∷ []) in omega (arith, n, a, c.long);
}

pub called-behind : (p q : Pass) (ask : Ask) (said : Said) (place : ℕ) → PassCalls p ask place said q → length (seen_of p) < place
called-behind p q ask said place c = let e : Entry = record { caller = p.number; ask = ask; said = said; before = c.before; after = c.after } in
    let n : length (seen_of q) ≡ length ((seen_of p ++ c.between) ++ e ∷ []) = ap (λ l. length l) c.ends in
    let a = length-append (seen_of p ++ c.between) (e ∷ []) in let b = length-append (seen_of p) c.between in omega (arith, n, a, b, c.long)

pub called-begins : (p q : Pass) (ask : Ask) (said : Said) (place : ℕ) → PassCalls p ask place said q → BeginsWith (seen_of p) (seen_of q)
called-begins p q ask said place c = let e : Entry = record { caller = p.number; ask = ask; said = said; before = c.before; after = c.after } in
    (c.between ++ e ∷ [], c.ends ∙ append_assoc (seen_of p) c.between (e ∷ []))

pub keeps-self : (p : Pass) → KeepsPass p p
keeps-self p = ((refl, refl), refl, refl, refl, begins-self (seen_of p))

pub keeps-then : (p q r : Pass) → KeepsPass p q → KeepsPass q r → KeepsPass p r
keeps-then p q r a b = ((b.0.0 ∙ a.0.0, b.0.1 ∙ a.0.1), b.1 ∙ a.1, b.2 ∙ a.2, b.3 ∙ a.3, begins-trans (seen_of p) (seen_of q) (seen_of r) a.4 b.4)

pub called-keeps : (p q : Pass) (ask : Ask) (said : Said) (place : ℕ) → PassCalls p ask place said q → IsSame p q → KeepsPass p q
called-keeps p q ask said place c s = (s, c.start, c.callers, c.met, called-begins p q ask said place c)

-- nothing was left
abbrev pub None-left : ℕ → Type 0
None-left place = ⊥

pub made-none : (plan : List Planned) (thread : ℕ) (p : Pass) (made : List Made) → made ≡ [] → mine_of p ≡ [] → HasMade plan thread 0 p made None-left
made-none plan thread p made is none = subst (λ l. HasMade plan thread 0 p l None-left) (sym is) (record {
  each = λ m a. absurd (cc a.1);
  rises = λ i j a b lt x y. absurd (cc x);
  whole = λ j pl lt x same. absurd (omega (arith, lt));
  only = λ place m. absurd (cc (subst (λ (l : List ℕ). slice_get l m.0 ≡ Some place) none m.1));
})

-- a member that was made stays so where the thread goes on
made-later : (plan : List Planned) (thread k : ℕ) (p q : Pass) (m : Made) → KeepsPass p q → IsMemberMade plan thread k p m → IsMemberMade plan thread (k + 1) q m
made-later plan thread k p q m keeps i = record {
  planned = i.planned;
  reply = i.reply;
  is = i.is;
  own = i.own;
  done = let d = i.done in omega (arith, d);
  stands = subst (λ n. StandsInLog (seen_of q) m.place n (Ordered (call_for i.planned)) (Replied i.reply)) (sym keeps.0.1) (stands-more (seen_of p) (seen_of q) m.place p.number (Ordered (call_for i.planned)) (Replied i.reply) i.stands keeps.4);
  told = i.told;
  goes = i.goes;
}

pub made-other : (plan : List Planned) (thread k : ℕ) (p : Pass) (made : List Made) (pl : Planned) → slice_get plan k ≡ Some pl → pl.thread ≢ thread → HasMade plan thread k p made None-left
    → HasMade plan thread (k + 1) p made None-left
made-other plan thread k p made pl at other h = record {
  each = λ m a. made-later plan thread k p p m (keeps-self p) (h.each m a);
  rises = h.rises;
  whole = λ j x lt is same. ⊎_elim (λ (old : j < k). h.whole j x old is same)
      (λ (here : j ≡ k). absurd (other (ap (λ (q : Planned). q.thread) (some-one (sym at ∙ (ap (slice_get plan) (sym here) ∙ is))) ∙ same))) (below j k lt);
  only = h.only;
}
  where
    below : (j k : ℕ) → j < k + 1 → (j < k) ⊎ (j ≡ k)
    below zero zero lt = inr refl
    below zero (suc k) lt = inl (omega arith)
    below (suc j) zero lt = absurd (omega (arith, lt))
    below (suc j) (suc k) lt = ⊎_elim (λ (x : j < k). inl (omega (arith, x))) (λ (x : j ≡ k). inr (ap suc x)) (below j k (omega (arith, lt)))

-- a call more was made
pub made-own : (plan : List Planned) (thread k : ℕ) (p q : Pass) (made : List Made) (pl : Planned) (m : Made) (reply : Reply) → slice_get plan k ≡ Some pl → pl.thread ≡ thread → m.at ≡ k
    → PassCalls p (Ordered (call_for pl)) m.place (Replied reply) q → IsSame p q → IsNotStalled reply → IsToldAs reply m.reply → HasMade plan thread k p made None-left → HasMade plan thread (k + 1) q (made ++ m ∷ []) None-left
made-own plan thread k p q made pl m reply at own is c same goes told h = record {
  each = λ x a. ⊎_elim (λ (old : LiesAmong x made). made-later plan thread k p q x keeps (h.each x old)) (λ (new : LiesAmong x (m ∷ [])). subst (IsMemberMade plan thread (k + 1) q) (among-one x m new) here) (among-split x made (m ∷ []) a);
  rises = λ i j a b lt x y. ⊎_elim (λ (oldj : slice_get made j ≡ Some b). ⊎_elim (λ (oldi : slice_get made i ≡ Some a). h.rises i j a b lt oldi oldj)
      (λ (newi : (i ≡ length made) × (m ≡ a)). absurd (let n = get-inside made j b oldj in omega (arith, n, lt, newi.0))) (get-snoc made m a i x))
      (λ (newj : (j ≡ length made) × (m ≡ b)). ⊎_elim (λ (oldi : slice_get made i ≡ Some a). behind a b newj.1 (h.each a (i, oldi)))
      (λ (newi : (i ≡ length made) × (m ≡ a)). absurd (omega (arith, lt, newi.0, newj.0))) (get-snoc made m a i x)) (get-snoc made m b j y);
  whole = λ j x lt get mine. ⊎_elim (λ (old : j < k). let o = h.whole j x old get mine in (o.0, among-left o.0 made (m ∷ []) o.1, o.2))
      (λ (now : k ≤ j). (m, among-right m made (m ∷ []) (0, refl), is ∙ omega (arith, now, lt))) (cut j k);
  only = λ place a. ⊎_elim (λ (old : LiesAmong place (mine_of p)). ⊎_elim (λ (o : (x : Made) × LiesAmong x made × (x.place ≡ place)). inl (o.0, among-left o.0 made (m ∷ []) o.1, o.2)) (λ (o : ⊥). absurd o) (h.only place old))
      (λ (new : LiesAmong place (m.place ∷ [])). inl (m, among-right m made (m ∷ []) (0, refl), among-one place m.place new)) (among-split place (mine_of p) (m.place ∷ []) (subst (LiesAmong place) c.mine a));
}
  where
    keeps : KeepsPass p q
    keeps = called-keeps p q (Ordered (call_for pl)) (Replied reply) m.place c same

    here : IsMemberMade plan thread (k + 1) q m
    here = record {
      planned = pl;
      reply = reply;
      is = ap (slice_get plan) is ∙ at;
      own = own;
      done = omega (arith, is);
      stands = subst (λ n. StandsInLog (seen_of q) m.place n (Ordered (call_for pl)) (Replied reply)) (sym same.1) (called-stands p q (Ordered (call_for pl)) (Replied reply) m.place c);
      told = told;
      goes = goes;
    }

    behind : (a b : Made) → m ≡ b → IsMemberMade plan thread k p a → (a.at < b.at) × (a.place < b.place)
    behind a b new i = let bound = stands-bound (seen_of p) a.place p.number (Ordered (call_for i.planned)) (Replied i.reply) i.stands in let far = called-behind p q (Ordered (call_for pl)) (Replied reply) m.place c in
        let x : m.at ≡ b.at = ap (λ (z : Made). z.at) new in let y : m.place ≡ b.place = ap (λ (z : Made). z.place) new in let d = i.done in
        (omega (arith, x, is, d), omega (arith, y, bound, far))

    cut : (j k : ℕ) → (j < k) ⊎ (k ≤ j)
    cut j zero = inr (omega arith)
    cut zero (suc k) = inl (omega arith)
    cut (suc j) (suc k) = ⊎_elim (λ (x : j < k). inl (omega (arith, x))) (λ (x : k ≤ j). inr (omega (arith, x))) (cut j k)

-- the call was stalled, and nothing more is made
pub made-left : (plan : List Planned) (thread k place : ℕ) (p q : Pass) (made : List Made) (pl : Planned) (reply : Reply) → slice_get plan k ≡ Some pl → pl.thread ≡ thread
    → PassCalls p (Ordered (call_for pl)) place (Replied reply) q → IsSame p q → IsStalled reply → HasMade plan thread k p made None-left
    → HasMade plan thread k q made (IsStalledAt plan thread k q) × IsStalledAt plan thread k q place
made-left plan thread k place p q made pl reply at own c same stalled h = (
  record {
    each = λ x a. let i = h.each x a in record {
      planned = i.planned;
      reply = i.reply;
      is = i.is;
      own = i.own;
      done = i.done;
      stands = subst (λ n. StandsInLog (seen_of q) x.place n (Ordered (call_for i.planned)) (Replied i.reply)) (sym same.1)
          (stands-more (seen_of p) (seen_of q) x.place p.number (Ordered (call_for i.planned)) (Replied i.reply) i.stands (called-begins p q (Ordered (call_for pl)) (Replied reply) place c));
      told = i.told;
      goes = i.goes;
    };
    rises = h.rises;
    whole = h.whole;
    only = λ n a. ⊎_elim (λ (old : LiesAmong n (mine_of p)). ⊎_elim (λ (o : (x : Made) × LiesAmong x made × (x.place ≡ n)). inl o) (λ (o : ⊥). absurd o) (h.only n old))
        (λ (new : LiesAmong n (place ∷ [])). inr (subst (IsStalledAt plan thread k q) (among-one n place new) left)) (among-split n (mine_of p) (place ∷ []) (subst (LiesAmong n) c.mine a));
  },
  left,
)
  where
    left : IsStalledAt plan thread k q place
    left = record {
      planned = pl;
      reply = reply;
      is = at;
      own = own;
      stands = subst (λ n. StandsInLog (seen_of q) place n (Ordered (call_for pl)) (Replied reply)) (sym same.1) (called-stands p q (Ordered (call_for pl)) (Replied reply) place c);
      stalled = stalled;
    }

-- how many of the first members are the thread's
pub own-more : (thread : ℕ) (plan : List Planned) (k : ℕ) (pl : Planned) → slice_get plan k ≡ Some pl → pl.thread ≡ thread → own_count thread (take (suc k) plan) ≡ own_count thread (take k plan) + 1
own-more thread [] k pl at own = absurd (cc at)
own-more thread (x ∷ xs) zero pl at own = ap (λ b. cond b (1 + own_count thread []) (own_count thread [])) (eq-eqb x.thread thread (ap (λ (q : Planned). q.thread) (some-one at) ∙ own))
own-more thread (x ∷ xs) (suc k) pl at own = branch (x.thread == thread) (own-more thread xs k pl at own)
  where
    branch : (b : Bool) → own_count thread (take (suc k) xs) ≡ own_count thread (take k xs) + 1 → cond b (1 + own_count thread (take (suc k) xs)) (own_count thread (take (suc k) xs)) ≡ cond b (1 + own_count thread (take k xs)) (own_count thread (take k xs)) + 1
    branch true e = omega (arith, e)
    branch false e = e

pub own-room : (thread : ℕ) (plan : List Planned) (k : ℕ) (pl : Planned) → slice_get plan k ≡ Some pl → pl.thread ≡ thread → own_count thread (take k plan) < own_count thread plan
own-room thread [] k pl at own = absurd (cc at)
own-room thread (x ∷ xs) zero pl at own = let e : own_count thread (x ∷ xs) ≡ 1 + own_count thread xs = ap (λ b. cond b (1 + own_count thread xs) (own_count thread xs)) (eq-eqb x.thread thread (ap (λ (q : Planned). q.thread) (some-one at) ∙ own)) in omega (arith, e)
own-room thread (x ∷ xs) (suc k) pl at own = branch (x.thread == thread) (own-room thread xs k pl at own)
  where
    branch : (b : Bool) → own_count thread (take k xs) < own_count thread xs → cond b (1 + own_count thread (take k xs)) (own_count thread (take k xs)) < cond b (1 + own_count thread xs) (own_count thread xs)
    branch true e = omega (arith, e)
    branch false e = e

pub own-less : (thread : ℕ) (plan : List Planned) (k : ℕ) → own_count thread (take k plan) ≤ own_count thread (take (suc k) plan)
own-less thread [] zero = omega arith
own-less thread [] (suc k) = omega arith
own-less thread (x ∷ xs) zero = omega arith
own-less thread (x ∷ xs) (suc k) = branch (x.thread == thread) (own-less thread xs k)
  where
    branch : (b : Bool) → own_count thread (take k xs) ≤ own_count thread (take (suc k) xs) → cond b (1 + own_count thread (take k xs)) (own_count thread (take k xs)) ≤ cond b (1 + own_count thread (take (suc k) xs)) (own_count thread (take (suc k) xs))
    branch true e = omega (arith, e)
    branch false e = e

-- the loop, behind the first k members
pub record Loop (plan : List Planned) (w : Writer) (k : ℕ) (x : Writer) : Type 0 where
  pub thread : x.thread ≡ w.thread
  pub keeps : KeepsPass w.pass x.pass
  pub made : mine_of w.pass ≡ [] → HasMade plan w.thread k x.pass x.made.items None-left
  pub few : length x.made.items ≤ own_count w.thread (take k plan)
  pub room : vec_capacity w.made ≤ vec_capacity x.made

pub loop-first : (plan : List Planned) (w : Writer) → w.made.items ≡ [] → Loop plan w 0 w
loop-first plan w none = record { thread = refl; keeps = keeps-self w.pass; made = λ mine. made-none plan w.thread w.pass w.made.items none mine; few = let n : length w.made.items ≡ 0 = ap (λ l. length l) none in omega (arith, n); room = omega arith }

-- there is room for a member of the thread
pub loop-room : (plan : List Planned) (w : Writer) (k : ℕ) (x : Writer) (pl : Planned) → slice_get plan k ≡ Some pl → Loop plan w k x → own_count w.thread plan ≤ vec_capacity w.made → pl.thread ≡ x.thread → length x.made.items < vec_capacity x.made
loop-room plan w k x pl at l room own = let r = own-room w.thread plan k pl at (own ∙ l.thread) in let f = l.few in let c = l.room in omega (arith, r, f, c, room)

-- a member of the thread was made, or ends it
abbrev OwnMember : Planned → ℕ → Writer → Bool → Writer → Type 0
OwnMember pl k x on y = (pl.thread ≡ x.thread) × IsSame x.pass y.pass × ((place : ℕ) × (reply : Reply) × PassCalls x.pass (Ordered (call_for pl)) place (Replied reply) y.pass
    × (((on ≡ true) × IsNotStalled reply × ((m : Made) × (y.made.items ≡ x.made.items ++ m ∷ []) × (m.at ≡ k) × (m.place ≡ place) × IsToldAs reply m.reply))
    ⊎ ((on ≡ false) × IsStalled reply × (y.made.items ≡ x.made.items))))

-- the loop goes on
pub loop-step : (plan : List Planned) (w : Writer) (k : ℕ) (x y : Writer) (pl : Planned) → slice_get plan k ≡ Some pl → Loop plan w k x → WriterGoes pl k x true y → Loop plan w (k + 1) y
loop-step plan w k x y pl at l g = ⊎_elim other own g.2
  where
    next : own_count w.thread (take (k + 1) plan) ≡ own_count w.thread (take (suc k) plan)
    next = let e : k + 1 ≡ suc k = omega arith in ap (λ n. own_count w.thread (take n plan)) e

    other : (true ≡ true) × (pl.thread ≢ x.thread) × (y.pass ≡ x.pass) × (y.made.items ≡ x.made.items) → Loop plan w (k + 1) y
    other o = record {
      thread = g.0 ∙ l.thread;
      keeps = subst (KeepsPass w.pass) (sym o.2) l.keeps;
      made = λ mine. subst (λ (z : Pass × List Made). HasMade plan w.thread (k + 1) z.0 z.1 None-left) (λ i. (sym o.2 i, sym o.3 i))
          (made-other plan w.thread k x.pass x.made.items pl at (λ e. o.1 (e ∙ sym l.thread)) (l.made mine));
      few = let n : length y.made.items ≡ length x.made.items = ap (λ m. length m) o.3 in let f = l.few in let u = own-less w.thread plan k in let z = next in omega (arith, n, f, u, z);
      room = let a = g.1 in let b = l.room in omega (arith, a, b);
    }

    own : OwnMember pl k x true y → Loop plan w (k + 1) y
    own o = ⊎_elim
        (λ (b : (true ≡ true) × IsNotStalled o.2.1 × ((m : Made) × (y.made.items ≡ x.made.items ++ m ∷ []) × (m.at ≡ k) × (m.place ≡ o.2.0) × IsToldAs o.2.1 m.reply)).
        let c : PassCalls x.pass (Ordered (call_for pl)) b.2.0.place (Replied o.2.1) y.pass = subst (λ n. PassCalls x.pass (Ordered (call_for pl)) n (Replied o.2.1) y.pass) (sym b.2.3) o.2.2 in record {
          thread = g.0 ∙ l.thread;
          keeps = keeps-then w.pass x.pass y.pass l.keeps (called-keeps x.pass y.pass (Ordered (call_for pl)) (Replied o.2.1) b.2.0.place c o.1);
          made = λ mine. subst (λ z. HasMade plan w.thread (k + 1) y.pass z None-left) (sym b.2.1)
              (made-own plan w.thread k x.pass y.pass x.made.items pl b.2.0 o.2.1 at (o.0 ∙ l.thread) b.2.2 c o.1 b.1 b.2.4 (l.made mine));
          few = let n : length y.made.items ≡ length (x.made.items ++ b.2.0 ∷ []) = ap (λ m. length m) b.2.1 in let a = length-append x.made.items (b.2.0 ∷ []) in let f = l.few in
              let u = own-more w.thread plan k pl at (o.0 ∙ l.thread) in let z = next in omega (arith, n, a, f, u, z);
          room = let a = g.1 in let b = l.room in omega (arith, a, b);
        })
        (λ (b : (true ≡ false) × IsStalled o.2.1 × (y.made.items ≡ x.made.items)). absurd (cc b.0)) o.2.3

-- the plan is at its end
pub loop-end : (plan : List Planned) (w : Writer) (k : ℕ) (x : Writer) → length plan ≤ k → Loop plan w k x → WriterWrote plan w x
loop-end plan w k x end l = record {
  thread = l.thread;
  keeps = l.keeps;
  made = λ mine. let h = l.made mine in (k, record { each = h.each; rises = h.rises; whole = h.whole; only = λ n a. ⊎_elim (λ (o : (m : Made) × LiesAmong m x.made.items × (m.place ≡ n)). inl o) (λ (o : ⊥). absurd o) (h.only n a) }, inl end);
}

-- the thread ends at a call that was stalled
pub loop-stop : (plan : List Planned) (w : Writer) (k : ℕ) (x y : Writer) (pl : Planned) → slice_get plan k ≡ Some pl → Loop plan w k x → WriterGoes pl k x false y → WriterWrote plan w y
loop-stop plan w k x y pl at l g = ⊎_elim (λ (o : (false ≡ true) × (pl.thread ≢ x.thread) × (y.pass ≡ x.pass) × (y.made.items ≡ x.made.items)). absurd (cc o.0)) own g.2
  where
    own : OwnMember pl k x false y → WriterWrote plan w y
    own o = ⊎_elim
        (λ (b : (false ≡ true) × IsNotStalled o.2.1 × ((m : Made) × (y.made.items ≡ x.made.items ++ m ∷ []) × (m.at ≡ k) × (m.place ≡ o.2.0) × IsToldAs o.2.1 m.reply)). absurd (cc b.0))
        (λ (b : (false ≡ false) × IsStalled o.2.1 × (y.made.items ≡ x.made.items)). record {
          thread = g.0 ∙ l.thread;
          keeps = keeps-then w.pass x.pass y.pass l.keeps (called-keeps x.pass y.pass (Ordered (call_for pl)) (Replied o.2.1) o.2.0 o.2.2 o.1);
          made = λ mine. let d = made-left plan w.thread k o.2.0 x.pass y.pass x.made.items pl o.2.1 at (o.0 ∙ l.thread) o.2.2 o.1 b.1 (l.made mine) in
              (k, subst (λ z. HasMade plan w.thread k y.pass z (IsStalledAt plan w.thread k y.pass)) (sym b.2) d.0, inr (o.2.0, d.1));
        }) o.2.3

-- the call was told
pub goes-made : (pl : Planned) (at : ℕ) (w x : Writer) (m : Made) (r : Option Made) → r ≡ Some m → WasAsked pl at w.pass r x.pass → pl.thread ≡ w.thread → x.thread ≡ w.thread → vec_capacity w.made ≤ vec_capacity x.made
    → x.made.items ≡ w.made.items ++ m ∷ [] → WriterGoes pl at w true x
goes-made pl at w x m r is a own same room items = let b : WasAsked pl at w.pass (Some m) x.pass = subst (λ z. WasAsked pl at w.pass z x.pass) is a in
    (same, room, inr (own, b.0, (b.1.0, b.1.1, b.1.2, inl (refl, b.1.3.0, (m, items, b.1.3.2, b.1.3.3, b.1.3.1)))))

pub take_long : {A : Type 0} (n : ℕ) (xs : List A) → n ≤ length xs → n ≡ length (take n xs)
take_long zero xs le = refl
take_long (suc n) [] le = absurd (omega (arith, le))
take_long (suc n) (x ∷ xs) le = ap suc (take_long n xs (omega (arith, le)))

-- whole blocks, of which there is one, have a first one
pub front_long : (xs : List ℕ) → 0 < length xs → length xs % 512 ≡ 0 → 512 ≡ length (take 512 xs)
front_long xs some whole = take_long 512 xs (omega (arith, some, whole))
