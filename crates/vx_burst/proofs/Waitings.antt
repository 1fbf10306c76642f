-- One wait more.
use Rattle.std.proofs.Common.{◌≡◌, ◌≢◌, ℕ, zero, suc, ◌+◌, ◌-◌, ◌<◌, ◌≤◌, ◌==◌, false, List, [], ◌∷◌, ◌++◌, length, map, take, refl, ap, sym, ◌∙◌, subst, ⊎_elim, arith, append_assoc, Some, slice_get, slice_set}
use Rattle.std.proofs.lemmas.List.{append-nil}
use mathlib.Core.List.{map-append}
use Rattle.vx_model.specs.Answer.{Answer, Shows, Accepts, WrongSize, OutOfRange, answer_of}
use Rattle.vx_model.specs.declared.call.Call.{Call}
use Rattle.vx_model.specs.declared.call.Reply.{Reply}
use Rattle.vx_model.specs.declared.call.Reply.TheVariants as reply
use Rattle.vx_model.specs.declared.no.No.TheVariants as no
use Rattle.vx_model.specs.Numbers.{one_if}
use Rattle.vx_model.proofs.Lists.{get_there}
use Rattle.vx_turn.specs.declared.ask.Ask.{Ask}
use Rattle.vx_turn.specs.declared.ask.Ask.TheVariants.{Ordered, Charged}
use Rattle.vx_turn.specs.declared.ask.Said.{Said}
use Rattle.vx_turn.specs.declared.ask.Said.TheVariants.{Replied, Worked}
use Rattle.vx_turn.specs.declared.ask.Job.TheVariants.{Wait}
use Rattle.vx_turn.specs.declared.ask.JobReply.TheVariants as job
use Rattle.vx_turn.specs.declared.meaning.Counts.{Counts}
use Rattle.vx_turn.specs.declared.meaning.Entry.{Entry}
use Rattle.vx_turn.specs.declared.meaning.State.{State}
use Rattle.vx_turn.specs.Volumes.{as_content}
use Rattle.vx_turn.specs.Acting.{LiesAmong, CountRose, RepliesBy, RepliesTo, head_after}
use Rattle.vx_turn.specs.History.{Point, point_of, next_point, point_after, LegalFrom, asked}
use Rattle.vx_turn.proofs.Histories.{rose-wider}
use Rattle.vx_settle.specs.declared.peer.Stand.{Stand}
use Rattle.vx_settle.specs.declared.bringing.Ended.{Ended}
use Rattle.vx_settle.specs.declared.bringing.Ended.TheVariants as ended
use Rattle.vx_settle.specs.Peers.{PeerGoes}
use Rattle.vx_settle.specs.Bringing.{Events, IsJob, HaveLinks, Once, BringsAll, WaitsFor}
use Rattle.vx_settle.proofs.Bringings.{among-left, among-right, among-one}
use Rattle.vx_settle.proofs.ManyPeers.{some-one, get-set, set-long, get-inside}
use Rattle.vx_burst_threads.specs.declared.plan.Planned.{Planned}
use Rattle.vx_burst_threads.specs.declared.plan.Answered.{Answered}
use Rattle.vx_burst_threads.specs.declared.plan.Told.{Told}
use Rattle.vx_burst_threads.specs.declared.plan.Told.TheVariants as told
use Rattle.vx_burst_threads.specs.declared.plan.Waited.{Waited}
use Rattle.vx_burst_threads.specs.declared.plan.Waited.TheVariants as waited
use Rattle.vx_burst_threads.specs.Planning.{call_for, IsToldAs, IsStalled}
use Rattle.vx_burst.specs.Finishing.{head_behind, IsNothing, AckWithin, BurstUnderway, IsLeftOut, IsCallAsk, Stay, IsAskedAgain, AreBefore, unplaced, HasExcuse, BurstStage, IsWaited, waiting_end, WaitedOne, WaitedOn}
use Rattle.vx_burst.proofs.Underways.{job_entry, asked-jobs, underway-brings, underway-moves}
use Rattle.vx_burst.proofs.Stages.{job-of-plan, stay-jobs, stay-as, again-same, excuse-later, halted-not, brought-excuse}

-- what stays is among the events
pub stay-among : (IsLeft : ℕ → Call → Type 0) (n : ℕ) (xs ys : Events) (i : ℕ) (y : Ask × Said) → Stay IsLeft n xs ys → slice_get ys i ≡ Some y → LiesAmong y xs
stay-among IsLeft n [] ys i y s at = absurd (cc (subst (λ l. slice_get l i ≡ Some y) s at))
stay-among IsLeft n (x ∷ xs) ys i y s at = ⊎_elim (λ (o : IsLeftOut IsLeft n x.0 x.1 × Stay IsLeft n xs ys). let r = stay-among IsLeft n xs ys i y o.1 at in (suc r.0, r.1))
    (λ (o : (zs : Events) × (ys ≡ x ∷ zs) × IsCallAsk x.0 × Stay IsLeft (suc n) xs zs). first o.0 (λ j t. stay-among IsLeft (suc n) xs o.0 j y o.3 t) i (subst (λ l. slice_get l i ≡ Some y) o.1 at)) s
  where
    first : (zs : Events) → ((j : ℕ) → slice_get zs j ≡ Some y → LiesAmong y xs) → (i : ℕ) → slice_get (x ∷ zs) i ≡ Some y → LiesAmong y (x ∷ xs)
    first zs rest zero at = (0, at)
    first zs rest (suc i) at = let r = rest i at in (suc r.0, r.1)

-- a logged write has the next number
done-next : (a : Answer) (head n : ℕ) (call : Call) (b c : Counts) → RepliesBy a head call (reply.Done n) b c → n ≡ head + 1
done-next (Shows blocks) head n call b c r = absurd r
done-next Accepts head n call b c r = r
done-next WrongSize head n call b c r = absurd r
done-next OutOfRange head n call b c r = absurd r

logged-next : (a : Answer) (head n : ℕ) (call : Call) (b c : Counts) → RepliesBy a head call (reply.Logged n) b c → n ≡ head + 1
logged-next (Shows blocks) head n call b c r = absurd r
logged-next Accepts head n call b c r = r
logged-next WrongSize head n call b c r = absurd r
logged-next OutOfRange head n call b c r = absurd r

head-rises : (stopped : Type 0) (p : Point) (ring : ℕ) (ask : Ask) (said : Said) (b c : Counts) → RepliesTo stopped p.volumes ring p.head ask said b c → p.head ≤ head_after p.head said
head-rises stopped p ring (Ordered call) (Replied (reply.Done n)) b c r = ⊎_elim (λ (x : ⊥ × stopped). absurd x.0) (λ (x : RepliesBy (answer_of (as_content p.volumes) ring call) p.head call (reply.Done n) b c).
    (let e = done-next (answer_of (as_content p.volumes) ring call) p.head n call b c x in omega (arith, e))) r
head-rises stopped p ring (Ordered call) (Replied (reply.Logged n)) b c r = ⊎_elim (λ (x : ⊥ × stopped). absurd x.0) (λ (x : RepliesBy (answer_of (as_content p.volumes) ring call) p.head call (reply.Logged n) b c).
    (let e = logged-next (answer_of (as_content p.volumes) ring call) p.head n call b c x in omega (arith, e))) r
head-rises stopped p ring (Ordered call) (Replied (reply.Got bytes)) b c r = omega arith
head-rises stopped p ring (Ordered call) (Replied (reply.Refused cause)) b c r = omega arith
head-rises stopped p ring (Ordered call) (Worked w into) b c r = omega arith
head-rises stopped p ring (Charged j) (Worked w into) b c r = omega arith
head-rises stopped p ring (Charged j) (Replied w) b c r = absurd r

heads-rise : (faults ring : ℕ) (p : Point) (log : List Entry) → LegalFrom faults ring p log → p.head ≤ (point_after p log).head
heads-rise faults ring p [] l = omega arith
heads-rise faults ring p (e ∷ es) l = let a = head-rises (CountRose faults e.before.faults) p ring e.ask e.said e.before e.after l.0.3 in let b = heads-rise faults ring (next_point p e) es l.1 in omega (arith, a, b)

-- a number that was logged is not above the last one
logged-below : (faults ring : ℕ) (p : Point) (log : List Entry) (call : Call) (n : ℕ) → LegalFrom faults ring p log → LiesAmong (Ordered call, Replied (reply.Logged n)) (map asked log) → n ≤ (point_after p log).head
logged-below faults ring p [] call n l m = absurd (cc m.1)
logged-below faults ring p (e ∷ es) call n l (zero, at) = let b = heads-rise faults ring (next_point p e) es l.1 in let s : asked e ≡ (Ordered call, Replied (reply.Logged n)) = some-one at in
    let h : head_after p.head e.said ≡ n = ap (λ (x : Ask × Said). head_after p.head x.1) s in omega (arith, b, h)
logged-below faults ring p (e ∷ es) call n l (suc i, at) = logged-below faults ring (next_point p e) es call n l.1 (i, at)

told-logged : (r : Reply) (t : Told) (n : ℕ) → IsToldAs r t → t ≡ told.Logged n → r ≡ reply.Logged n
told-logged (reply.Got bytes) t n i e = absurd (subst (IsToldAs (reply.Got bytes)) e i)
told-logged (reply.Done m) t n i e = absurd (subst (IsToldAs (reply.Done m)) e i)
told-logged (reply.Logged m) t n i e = ap reply.Logged (sym (subst (IsToldAs (reply.Logged m)) e i))
told-logged (reply.Refused cause) t n i e = absurd (subst (IsToldAs (reply.Refused cause)) e i)

-- another answer at a place with the same place leaves as many without one
unplaced-same : (answers : List Answered) (k : ℕ) (a b : Answered) → slice_get answers k ≡ Some a → a.place ≡ b.place → unplaced (slice_set answers k b) ≡ unplaced answers
unplaced-same [] k a b at same = absurd (cc at)
unplaced-same (x ∷ xs) zero a b at same = ap (λ n. one_if (n == 0) + unplaced xs) (sym same ∙ ap (λ (y : Answered). y.place) (sym (some-one at)))
unplaced-same (x ∷ xs) (suc k) a b at same = ap (λ n. one_if (x.place == 0) + n) (unplaced-same xs k a b at same)

-- an event of an entry
asked-at : (es : List Entry) (i : ℕ) (e : Entry) → slice_get es i ≡ Some e → slice_get (map asked es) i ≡ Some (asked e)
asked-at [] i e at = absurd (cc at)
asked-at (x ∷ es) zero e at = ap (λ (z : Entry). Some (asked z)) (some-one at)
asked-at (x ∷ es) (suc i) e at = asked-at es i e at

module _ {P : Type 0} (stand : P → Stand) (root : P → P) where
  -- jobs change no stage
  stage-moves : (start : State) (firsts : List P) (plan : List Planned) (log more : List Entry) (s t : State) (ps qs : List P) (answers : List Answered) (n : ℕ) (stays es : Events) → BurstStage stand root start firsts plan log s ps answers n stays
      → BurstUnderway stand root start firsts (log ++ more) t qs → map asked more ≡ es → ((ask : Ask) (said : Said) → LiesAmong (ask, said) es → IsJob ask said) → s.counts.faults ≤ t.counts.faults → length qs ≡ length ps
      → ((i : ℕ) (p q : P) → slice_get ps i ≡ Some p → slice_get qs i ≡ Some q → PeerGoes (stand p) (stand q)) → BurstStage stand root start firsts plan (log ++ more) t qs answers n stays
  stage-moves start firsts plan log more s t ps qs answers n stays es g u is jobs rises long goes = record {
    underway = u;
    left = subst (λ l. Stay (IsAskedAgain plan answers) 0 l stays) (sym (map-append asked log more ∙ ap (λ l. map asked log ++ l) is)) (stay-jobs (IsAskedAgain plan answers) 0 (map asked log) es stays jobs g.left);
    calls = λ e m. ⊎_elim (λ (x : LiesAmong e log). g.calls e x) (λ (x : LiesAmong e more). job-of-plan plan e.ask e.said (jobs e.ask e.said (subst (LiesAmong (asked e)) is (x.0, asked-at more x.0 e x.1)))) (Rattle.vx_turn.proofs.Histories.among-split e log more m);
    count = g.count;
    rest = g.rest;
    long = g.long;
    each = λ k pl a x y some. let i = g.each k pl a x y some in record {
      reply = i.reply;
      at = i.at;
      told = i.told;
      stalled = λ z. excuse-later stand root start firsts log more s t ps qs (Ordered (call_for pl)) (λ said. said ≡ Replied i.reply) (AreBefore (take (a.place - 1) stays)) (head_behind start) rises long goes (i.stalled z);
    };
    apart = g.apart;
    rises = g.rises;
  }

  -- how the waiting for an answer ended is no part of a stage
  stage-set : (start : State) (firsts : List P) (plan : List Planned) (log : List Entry) (s : State) (ps : List P) (answers : List Answered) (n : ℕ) (stays : Events) (k : ℕ) (a : Answered) (r : Waited) → BurstStage stand root start firsts plan log s ps answers n stays
      → slice_get answers k ≡ Some a → BurstStage stand root start firsts plan log s ps (slice_set answers k (record { place = a.place; reply = a.reply; waited = r })) n stays
  stage-set start firsts plan log s ps answers n stays k a r g at = record {
    underway = g.underway;
    left = stay-as (IsAskedAgain plan answers) (IsAskedAgain plan (slice_set answers k b)) 0 (map asked log) stays (λ m call le h. again-same plan answers k a b m call at refl h) g.left;
    calls = g.calls;
    count = g.count;
    rest = ap (λ m. n + m) (unplaced-same answers k a b at refl) ∙ g.rest;
    long = set-long answers k b ∙ g.long;
    each = λ j pl x get now some. let o = was j x now in let i = g.each j pl o.0 get o.1 (omega (arith, some, o.2)) in record {
      reply = i.reply;
      at = subst (λ z. slice_get stays (z - 1) ≡ Some (Ordered (call_for pl), Replied i.reply)) o.2 i.at;
      told = subst (IsToldAs i.reply) o.3 i.told;
      stalled = subst (λ z. IsStalled i.reply → HasExcuse stand root start firsts log s ps (Ordered (call_for pl)) (λ said. said ≡ Replied i.reply) (AreBefore (take (z - 1) stays)) (head_behind start)) o.2 i.stalled;
    };
    apart = λ i j x y ix jy some same. let o = was i x ix in let q = was j y jy in g.apart i j o.0 q.0 o.1 q.1 (omega (arith, some, o.2)) (o.2 ∙ (same ∙ sym q.2));
    rises = λ i j pi pj x y lt gi gj own ix jy some. let o = was i x ix in let q = was j y jy in let z = g.rises i j pi pj o.0 q.0 lt gi gj own o.1 q.1 (omega (arith, some, q.2)) in
        let u = z.0 in let v = z.1 in let d = o.2 in let e = q.2 in (omega (arith, u, d), omega (arith, v, d, e));
  }
    where
      b : Answered
      b = record { place = a.place; reply = a.reply; waited = r }

      was : (j : ℕ) (x : Answered) → slice_get (slice_set answers k b) j ≡ Some x → (y : Answered) × (slice_get answers j ≡ Some y) × (y.place ≡ x.place) × (y.reply ≡ x.reply)
      was j x now = ⊎_elim (λ (o : (j ≡ k) × (b ≡ x)). (a, ap (slice_get answers) o.0 ∙ at, ap (λ (y : Answered). y.place) o.1, ap (λ (y : Answered). y.reply) o.1))
          (λ (o : (j ≢ k) × (slice_get answers j ≡ Some x)). (x, o.1, refl, refl)) (get-set answers k b j x now)

  -- what is known of a wait is known later
  waited-later : (start : State) (firsts : List P) (log more : List Entry) (s t : State) (ps qs : List P) (a : Answered) → s.counts.faults ≤ t.counts.faults → length qs ≡ length ps
      → ((i : ℕ) (p q : P) → slice_get ps i ≡ Some p → slice_get qs i ≡ Some q → PeerGoes (stand p) (stand q)) → IsWaited stand root start firsts log s ps a → IsWaited stand root start firsts (log ++ more) t qs a
  waited-later start firsts log more s t ps qs a rises long goes w = record {
    done = λ e. let o = w.done e in (o.0, o.1, o.2, wide (Charged (Wait o.0), Worked (job.Done o.0) o.1) o.3);
    unconfirmed = λ e. let o = w.unconfirmed e in (o.0, o.1, o.2, wide (Charged (Wait o.0), Worked (job.Refused (no.Unconfirmed o.0)) o.1) o.3);
    no = λ e n is. excuse-later stand root start firsts log more s t ps qs (Charged (Wait n)) IsNothing (λ front. Unit {0}) (λ front. n) rises long goes (w.no e n is);
  }
    where
      wide : (x : Ask × Said) → LiesAmong x (map asked log) → LiesAmong x (map asked (log ++ more))
      wide x m = subst (LiesAmong x) (sym (map-append asked log more)) (among-left x (map asked log) (map asked more) m)

  -- an answer that is no logged one was not waited for
  waited-none : (start : State) (firsts : List P) (log : List Entry) (s : State) (ps : List P) (a : Answered) (r : Waited) → ((n : ℕ) → a.reply ≡ told.Logged n → ⊥) → r ≡ waited.No
      → IsWaited stand root start firsts log s ps (record { place = a.place; reply = a.reply; waited = r })
  waited-none start firsts log s ps a r other is = record { done = λ e. absurd (cc (is, e)); unconfirmed = λ e. absurd (cc (is, e)); no = λ e n l. absurd (other n l) }

  ended-done : (e : Ended) → waiting_end e ≡ waited.Done → e ≡ ended.Done
  ended-done ended.No is = absurd (cc is)
  ended-done ended.Done is = refl
  ended-done ended.Unconfirmed is = absurd (cc is)

  ended-unconfirmed : (e : Ended) → waiting_end e ≡ waited.Unconfirmed → e ≡ ended.Unconfirmed
  ended-unconfirmed ended.No is = absurd (cc is)
  ended-unconfirmed ended.Done is = absurd (cc is)
  ended-unconfirmed ended.Unconfirmed is = refl

  ended-no : (e : Ended) → waiting_end e ≡ waited.No → e ≡ ended.No
  ended-no ended.No is = refl
  ended-no ended.Done is = absurd (cc is)
  ended-no ended.Unconfirmed is = absurd (cc is)

  -- a logged call was waited for
  logged-waited : (start : State) (firsts : List P) (plan : List Planned) (log : List Entry) (n : ℕ) (stays : Events) (k m : ℕ) (t u : State) (qs rs : List P) (answers : List Answered) (a : Answered) (e : Ended) (r : Waited)
      → BurstStage stand root start firsts plan log t qs answers n stays → ((j : ℕ) (x : Answered) → j < k → slice_get answers j ≡ Some x → IsWaited stand root start firsts log t qs x) → slice_get answers k ≡ Some a → 0 < a.place
      → a.reply ≡ told.Logged m → WaitsFor stand root t qs m e u rs → r ≡ waiting_end e → WaitedOn stand root start firsts plan n stays (k + 1) u rs (slice_set answers k (record { place = a.place; reply = a.reply; waited = r }))
  logged-waited start firsts plan log n stays k m t u qs rs answers a e r g old at some is w how = record {
    log = log ++ more;
    stage = stage-set start firsts plan (log ++ more) u rs answers n stays k a r (stage-moves start firsts plan log more t u qs rs answers n stays (b.moves.more ++ o.moves.more) g under asks jobs rises b.long goes) at;
    waited = λ j x lt now. ⊎_elim (λ (z : (j ≡ k) × (record { place = a.place; reply = a.reply; waited = r } ≡ x)). subst (IsWaited stand root start firsts (log ++ more) u rs) z.1 here)
        (λ (z : (j ≢ k) × (slice_get answers j ≡ Some x)). waited-later start firsts log more t u qs rs x rises b.long goes (old j x (below j k lt z.0) z.1)) (get-set answers k (record { place = a.place; reply = a.reply; waited = r }) j x now);
  }
    where
      b : BringsAll stand root t qs w.mid rs
      b = w.brings

      o : Once w.mid m e u
      o = w.once

      one : List Entry
      one = map (job_entry t.counts) w.brings.moves.more

      two : List Entry
      two = map (job_entry w.mid.counts) w.once.moves.more

      more : List Entry
      more = map (job_entry t.counts) w.brings.moves.more ++ map (job_entry w.mid.counts) w.once.moves.more

      brought : BurstUnderway stand root start firsts (log ++ map (job_entry t.counts) w.brings.moves.more) w.mid rs
      brought = underway-brings stand root start firsts log t w.mid qs rs g.underway w.brings

      quiet : (ask : Ask) (said : Said) → LiesAmong (ask, said) w.once.moves.more → AckWithin stand root rs ask
      quiet ask said k = let same : (Charged (Wait m), w.once.reply) ≡ (ask, said) = among-one {A = Ask × Said} (ask, said) (Charged (Wait m), w.once.reply) (subst (LiesAmong (ask, said)) w.once.one k) in
          subst (λ (x : Ask × Said). AckWithin stand root rs x.0) same tt

      whole : (log ++ one) ++ two ≡ log ++ more
      whole = append_assoc log one two

      under : BurstUnderway stand root start firsts (log ++ more) u rs
      under = subst (λ l. BurstUnderway stand root start firsts l u rs) whole (underway-moves stand root start firsts (log ++ one) w.mid u rs brought w.once.moves quiet)

      asks : map asked more ≡ w.brings.moves.more ++ w.once.moves.more
      asks = map-append asked one two ∙ (ap (λ l. l ++ map asked two) (asked-jobs t.counts w.brings.moves.more) ∙ ap (λ l. w.brings.moves.more ++ l) (asked-jobs w.mid.counts w.once.moves.more))

      jobs : (ask : Ask) (said : Said) → LiesAmong (ask, said) (w.brings.moves.more ++ w.once.moves.more) → IsJob ask said
      jobs ask said k = ⊎_elim (λ (x : LiesAmong (ask, said) w.brings.moves.more). w.brings.moves.jobs ask said x) (λ (x : LiesAmong (ask, said) w.once.moves.more). w.once.moves.jobs ask said x)
          (Rattle.vx_turn.proofs.Histories.among-split (ask, said) w.brings.moves.more w.once.moves.more k)

      rises : t.counts.faults ≤ u.counts.faults
      rises = let x = w.brings.moves.rises.0 in let y = w.once.moves.rises.0 in omega (arith, x, y)

      goes : (i : ℕ) (p q : P) → slice_get qs i ≡ Some p → slice_get rs i ≡ Some q → PeerGoes (stand p) (stand q)
      goes i p q x y = (w.brings.each i p q x y).walks.goes

      below : (j k : ℕ) → j < k + 1 → j ≢ k → j < k
      below zero zero lt far = absurd (far refl)
      below zero (suc k) lt far = omega arith
      below (suc j) zero lt far = absurd (omega (arith, lt))
      below (suc j) (suc k) lt far = let r = below j k (omega (arith, lt)) (λ e. far (ap suc e)) in omega (arith, r)

      -- what was said stands in the history
      said-in : (s : Said) → w.once.reply ≡ s → LiesAmong (Charged (Wait m), s) (map asked (log ++ more))
      said-in s same = subst (LiesAmong (Charged (Wait m), s)) (sym (map-append asked log more ∙ ap (λ l. map asked log ++ l) asks))
          (among-right (Charged (Wait m), s) (map asked log) (w.brings.moves.more ++ w.once.moves.more) (among-right (Charged (Wait m), s) w.brings.moves.more w.once.moves.more
          (subst (LiesAmong (Charged (Wait m), s)) (sym w.once.one) (0, ap (λ (z : Said). Some (Charged (Wait m), z)) same))))

      top : m ≤ t.head
      top = let l = g.long in let inside = get-inside answers k a at in let pl = get_there plan k (omega (arith, l, inside)) in let i = g.each k pl.0 a pl.1 at some in
          let r : i.reply ≡ reply.Logged m = told-logged i.reply a.reply m i.told is in
          let h = logged-below start.counts.faults start.ring (point_of start) log (call_for pl.0) m g.underway.legal
          (subst (λ z. LiesAmong (Ordered (call_for pl.0), Replied z) (map asked log)) r (stay-among (IsAskedAgain plan answers) 0 (map asked log) stays (a.place - 1) (Ordered (call_for pl.0), Replied i.reply) g.left i.at)) in
          let e = g.underway.fits.0.head_is in omega (arith, h, e)

      excuse : e ≡ ended.No → HasExcuse stand root start firsts (log ++ more) u rs (Charged (Wait m)) IsNothing (λ front. Unit {0}) (λ front. m)
      excuse stuck calm =
          let since = brought.fits.0.since.0 in let on = w.once.moves.rises.0 in let up = w.brings.moves.head in
          let runs : w.mid.halted ≡ false = halted-not stand root w.mid (λ h. calm.0 (rose-wider start.counts.faults start.counts.faults w.mid.counts.faults u.counts.faults (omega arith) on (brought.fits.0.halts h))) in
          let wide : (x : Ask × Said) → LiesAmong x (w.brings.moves.more ++ w.once.moves.more) → LiesAmong x (map asked (log ++ more)) = λ x z. subst (LiesAmong x) (sym (map-append asked log more ∙ ap (λ l. map asked log ++ l) asks)) (among-right x (map asked log) (w.brings.moves.more ++ w.once.moves.more) z) in
          let z = w.once.no stuck runs (λ x. calm.0 (rose-wider start.counts.faults w.mid.counts.faults u.counts.faults u.counts.faults since (omega arith) x))
          (λ j cause into x. calm.1 j cause into (wide (Charged j, Worked (job.Refused cause) into) (among-right (Charged j, Worked (job.Refused cause) into) w.brings.moves.more w.once.moves.more x))) (omega (arith, top, up)) in
          let last : Entry = job_entry w.mid.counts (Charged (Wait m), w.once.reply) in
          let single : two ≡ last ∷ [] = ap (map (job_entry w.mid.counts)) w.once.one in (
            w.once.reply,
            subst IsNothing (sym z.1) tt,
            (
              log ++ one,
              record { entry = last; rest = []; is = sym whole ∙ (ap (λ l. (log ++ one) ++ l) single ∙ sym (append-nil ((log ++ one) ++ last ∷ []))); asks = refl; says = refl },
              tt,
              brought-excuse stand root start firsts log t w.mid u qs rs g.underway w.brings on calm.0 (λ j cause into x. calm.1 j cause into (wide (Charged j, Worked (job.Refused cause) into) (among-left (Charged j, Worked (job.Refused cause) into) w.brings.moves.more w.once.moves.more x))) m top,
            ),
          )

      here : IsWaited stand root start firsts (log ++ more) u rs (record { place = a.place; reply = a.reply; waited = r })
      here = record {
        done = λ x. let z = w.once.done (ended-done e (sym how ∙ x)) in (m, z.1, is, said-in (Worked (job.Done m) z.1) (z.2 ∙ ap (λ q. Worked (job.Done q) z.1) z.3));
        unconfirmed = λ x. let z = w.once.unconfirmed (ended-unconfirmed e (sym how ∙ x)) in (m, z.0, is, said-in (Worked (job.Refused (no.Unconfirmed m)) z.0) z.1);
        no = λ x q l. let same : told.Logged m ≡ told.Logged q = sym is ∙ l in let eq : m ≡ q = cc same in
            subst (λ v. HasExcuse stand root start firsts (log ++ more) u rs (Charged (Wait v)) IsNothing (λ front. Unit {0}) (λ front. v)) eq (excuse (ended-no e (sym how ∙ x)));
      }

  pub waits-none : (start : State) (firsts : List P) (plan : List Planned) (log : List Entry) (n : ℕ) (stays : Events) (s : State) (ps : List P) (answers : List Answered) → BurstStage stand root start firsts plan log s ps answers n stays
      → WaitedOn stand root start firsts plan n stays 0 s ps answers
  waits-none start firsts plan log n stays s ps answers g = record { log = log; stage = g; waited = λ j a lt at. absurd (omega (arith, lt)) }

  pub waits-more : (start : State) (firsts : List P) (plan : List Planned) (n : ℕ) (stays : Events) (k : ℕ) (t u : State) (qs rs : List P) (answers : List Answered) (a : Answered) (r : Waited) → WaitedOn stand root start firsts plan n stays k t qs answers
      → slice_get answers k ≡ Some a → 0 < a.place → WaitedOne stand root t qs a.reply r u rs → WaitedOn stand root start firsts plan n stays (k + 1) u rs (slice_set answers k (record { place = a.place; reply = a.reply; waited = r }))
  waits-more start firsts plan n stays k t u qs rs answers a r w at some one = ⊎_elim
      (λ (o : (m : ℕ) × (e : Ended) × (a.reply ≡ told.Logged m) × WaitsFor stand root t qs m e u rs × (r ≡ waiting_end e)). logged-waited start firsts plan w.log n stays k o.0 t u qs rs answers a o.1 r w.stage w.waited at some o.2 o.3 o.4)
      (λ (o : ((m : ℕ) → a.reply ≡ told.Logged m → ⊥) × (r ≡ waited.No) × (u ≡ t) × (rs ≡ qs)). subst (λ (z : State × List P). WaitedOn stand root start firsts plan n stays (k + 1) z.0 z.1 (slice_set answers k (record { place = a.place; reply = a.reply; waited = r })))
      (λ i. (sym o.2 i, sym o.3 i)) (record {
        log = w.log;
        stage = stage-set start firsts plan w.log t qs answers n stays k a r w.stage at;
        waited = λ j x lt now. ⊎_elim (λ (z : (j ≡ k) × (record { place = a.place; reply = a.reply; waited = r } ≡ x)). subst (IsWaited stand root start firsts w.log t qs) z.1 (waited-none start firsts w.log t qs a r o.0 o.1))
            (λ (z : (j ≢ k) × (slice_get answers j ≡ Some x)). w.waited j x (below j k lt z.0) z.1) (get-set answers k (record { place = a.place; reply = a.reply; waited = r }) j x now);
      })) one
    where
      below : (j k : ℕ) → j < k + 1 → j ≢ k → j < k
      below zero zero lt far = absurd (far refl)
      below zero (suc k) lt far = omega arith
      below (suc j) zero lt far = absurd (omega (arith, lt))
      below (suc j) (suc k) lt far = let r = below j k (omega (arith, lt)) (λ e. far (ap suc e)) in omega (arith, r)

  -- the links of the peers are the engine's still
  pub waited-links : (s t : State) (ps qs : List P) (reply : Told) (r : Waited) → WaitedOne stand root s ps reply r t qs → HaveLinks stand s ps → HaveLinks stand t qs
  waited-links s t ps qs reply r one links = ⊎_elim (λ (o : (m : ℕ) × (e : Ended) × (reply ≡ told.Logged m) × WaitsFor stand root s ps m e t qs × (r ≡ waiting_end e)). wait o.0 o.1 o.3)
      (λ (o : ((m : ℕ) → reply ≡ told.Logged m → ⊥) × (r ≡ waited.No) × (t ≡ s) × (qs ≡ ps)). subst (λ (z : State × List P). HaveLinks stand z.0 z.1) (λ i. (sym o.2 i, sym o.3 i)) links) one
    where
      wait : (m : ℕ) (e : Ended) → WaitsFor stand root s ps m e t qs → HaveLinks stand t qs
      wait m e w i q now = let inside = get-inside qs i q now in let n = w.brings.long in let g = get_there ps i (omega (arith, n, inside)) in
          let l = links i g.0 g.1 in let go = (w.brings.each i g.0 q g.1 now).walks.goes.link in let a = w.brings.moves.links in let b = w.once.moves.links in omega (arith, l, go, a, b)

-- each answer has the place that it had
abbrev pub ArePlacesOf : List Answered → List Answered → Type 0
ArePlacesOf olds answers = (length answers ≡ length olds) × ((j : ℕ) (b : Answered) → slice_get answers j ≡ Some b → (a : Answered) × (slice_get olds j ≡ Some a) × (a.place ≡ b.place))

pub places-set : (olds answers : List Answered) (k : ℕ) (a b : Answered) → slice_get answers k ≡ Some a → a.place ≡ b.place → ArePlacesOf olds answers → ArePlacesOf olds (slice_set answers k b)
places-set olds answers k a b at same p = (
  set-long answers k b ∙ p.0,
  λ j x now. ⊎_elim (λ (o : (j ≡ k) × (b ≡ x)). let z = p.1 j a (ap (slice_get answers) o.0 ∙ at) in (z.0, z.1, z.2 ∙ (same ∙ ap (λ (y : Answered). y.place) o.1)))
      (λ (o : (j ≢ k) × (slice_get answers j ≡ Some x)). p.1 j x o.1) (get-set answers k b j x now),
)
