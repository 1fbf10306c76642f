-- One call more has its place.
use Rattle.std.proofs.Common.{◌≡◌, ◌≢◌, ◌⊎◌, ℕ, zero, suc, ◌+◌, ◌-◌, ◌<◌, ◌≤◌, ◌==◌, Bool, true, false, List, [], ◌∷◌, ◌++◌, length, map, take, refl, ap, sym, ◌∙◌, subst, ⊎_elim, inl, inr, arith, append_assoc, eq-eqb, ne_eqb, Some, slice_get, slice_set}
use Rattle.std.proofs.lemmas.List.{append-nil}
use mathlib.Core.List.{map-append}
use Rattle.vx_model.specs.declared.call.Call.{Call}
use Rattle.vx_model.specs.Numbers.{one_if}
use Rattle.vx_model.proofs.Lists.{get_there}
use Rattle.vx_turn.specs.declared.ask.Ask.{Ask}
use Rattle.vx_turn.specs.declared.ask.Ask.TheVariants.{Ordered, Charged}
use Rattle.vx_turn.specs.declared.ask.Said.{Said}
use Rattle.vx_turn.specs.declared.ask.Said.TheVariants.{Replied, Worked}
use Rattle.vx_turn.specs.declared.ask.Job.{Job}
use Rattle.vx_turn.specs.declared.ask.Job.TheVariants.{Acked}
use Rattle.vx_turn.specs.declared.ask.JobReply.TheVariants as job
use Rattle.vx_turn.specs.declared.meaning.Entry.{Entry}
use Rattle.vx_turn.specs.declared.meaning.State.{State}
use Rattle.vx_turn.specs.Acting.{LiesAmong, CountRose}
use Rattle.vx_turn.specs.History.{HasLogged, asked}
use Rattle.vx_turn.proofs.Histories.{made, rose-wider, logged-more, among-split}
use Rattle.vx_turn.proofs.Dealing.{get-longer, get-last}
use Rattle.vx_settle.specs.declared.peer.Stand.{Stand}
use Rattle.vx_settle.specs.Peers.{PeerGoes, LiesIn}
use Rattle.vx_settle.specs.Bringing.{Events, IsJob, HaveLinks, NoLimit, HasAcked, Drains, BringsAll}
use Rattle.vx_settle.proofs.Bringings.{among-left, among-one, calm-first}
use Rattle.vx_settle.proofs.ManyPeers.{some-one, get-set, set-long, get-inside}
use Rattle.vx_burst_threads.specs.declared.plan.Planned.{Planned}
use Rattle.vx_burst_threads.specs.declared.plan.Answered.{Answered}
use Rattle.vx_burst_threads.specs.Planning.{call_for}
use Rattle.vx_burst.specs.Finishing.{AckWithin, BurstUnderway, PeersApart, Excused, IsCalm, head_behind, IsLeftOut, IsCallAsk, IsOfPlan, Stay, IsAskedAgain, AreBefore, unplaced, ArePlaced, HasExcuse, IsPlaced, BurstStage, StagesOn, AskedOne}
use Rattle.vx_burst.proofs.Underways.{job_entry, jobs-among, asked-jobs, underway-brings, underway-acts}

-- jobs at the end change nothing of what stays
pub stay-jobs : (IsLeft : ℕ → Call → Type 0) (n : ℕ) (xs more ys : Events) → ((ask : Ask) (said : Said) → LiesAmong (ask, said) more → IsJob ask said) → Stay IsLeft n xs ys → Stay IsLeft n (xs ++ more) ys
stay-jobs IsLeft n [] [] ys jobs s = s
stay-jobs IsLeft n [] ((Charged j, said) ∷ ms) ys jobs s = inl (tt, stay-jobs IsLeft n [] ms ys (λ ask other m. jobs ask other (suc m.0, m.1)) s)
stay-jobs IsLeft n [] ((Ordered c, said) ∷ ms) ys jobs s = absurd (jobs (Ordered c) said (0, refl))
stay-jobs IsLeft n (x ∷ xs) more ys jobs s = ⊎_elim (λ (o : IsLeftOut IsLeft n x.0 x.1 × Stay IsLeft n xs ys). inl (o.0, stay-jobs IsLeft n xs more ys jobs o.1))
    (λ (o : (zs : Events) × (ys ≡ x ∷ zs) × IsCallAsk x.0 × Stay IsLeft (suc n) xs zs). inr (o.0, o.1, o.2, stay-jobs IsLeft (suc n) xs more o.0 jobs o.3)) s

pub stay-call : (IsLeft : ℕ → Call → Type 0) (n : ℕ) (xs ys : Events) (x : Ask × Said) → IsCallAsk x.0 → Stay IsLeft n xs ys → Stay IsLeft n (xs ++ x ∷ []) (ys ++ x ∷ [])
stay-call IsLeft n [] ys x o s = inr ([], ap (λ l. l ++ x ∷ []) s, o, refl)
stay-call IsLeft n (z ∷ xs) ys x o s = ⊎_elim (λ (p : IsLeftOut IsLeft n z.0 z.1 × Stay IsLeft n xs ys). inl (p.0, stay-call IsLeft n xs ys x o p.1))
    (λ (p : (zs : Events) × (ys ≡ z ∷ zs) × IsCallAsk z.0 × Stay IsLeft (suc n) xs zs). inr (p.0 ++ x ∷ [], ap (λ l. l ++ x ∷ []) p.1, p.2, stay-call IsLeft (suc n) xs p.0 x o p.3)) s

-- the same calls stay where another reason to leave one out holds wherever the first does
pub stay-as : (IsLeft IsToo : ℕ → Call → Type 0) (n : ℕ) (xs ys : Events) → ((m : ℕ) (call : Call) → m ≤ n + length ys → IsLeft m call → IsToo m call) → Stay IsLeft n xs ys → Stay IsToo n xs ys
stay-as IsLeft IsToo n [] ys f s = s
stay-as IsLeft IsToo n (x ∷ xs) ys f s = ⊎_elim (λ (o : IsLeftOut IsLeft n x.0 x.1 × Stay IsLeft n xs ys). inl (one x.0 x.1 o.0, stay-as IsLeft IsToo n xs ys f o.1))
    (λ (o : (zs : Events) × (ys ≡ x ∷ zs) × IsCallAsk x.0 × Stay IsLeft (suc n) xs zs).
    let long : length ys ≡ suc (length o.0) = ap (λ l. length l) o.1 in inr (o.0, o.1, o.2, stay-as IsLeft IsToo (suc n) xs o.0 (λ m call le. f m call (omega (arith, le, long))) o.3)) s
  where
    one : (ask : Ask) (said : Said) → IsLeftOut IsLeft n ask said → IsLeftOut IsToo n ask said
    one (Charged j) said h = tt
    one (Ordered call) (Replied reply) h = (h.0, f n call (omega arith) h.1)
    one (Ordered call) (Worked reply into) h = absurd h

-- the first ones of a list that grows
pub take-more : {A : Type 0} (n : ℕ) (xs ys : List A) → n ≤ length xs → take n (xs ++ ys) ≡ take n xs
take-more zero xs ys le = refl
take-more (suc n) [] ys le = absurd (omega (arith, le))
take-more (suc n) (x ∷ xs) ys le = ap (λ l. x ∷ l) (take-more n xs ys (omega (arith, le)))

pub take-front : {A : Type 0} (n : ℕ) (xs ys : List A) → n ≡ length xs → take n (xs ++ ys) ≡ xs
take-front n [] ys is = ap (λ k. take k ys) is
take-front zero (x ∷ xs) ys is = absurd (omega (arith, is))
take-front (suc n) (x ∷ xs) ys is = ap (λ l. x ∷ l) (take-front n xs ys (omega (arith, is)))

-- where one more member has its place, which is behind n others, each call that was left out is still asked again
pub again-set : (plan : List Planned) (answers : List Answered) (k : ℕ) (old a : Answered) (n m : ℕ) (call : Call) → slice_get answers k ≡ Some old → old.place ≡ 0 → a.place ≡ n + 1 → m ≤ n → IsAskedAgain plan answers m call → IsAskedAgain plan (slice_set answers k a) m call
again-set plan answers k old a n m call was none place le (j, pl, b, is, at, same, how) =
    let inside = get-inside answers j b at in let long = set-long answers k a in let y = get_there (slice_set answers k a) j (omega (arith, inside, long)) in (
      j,
      pl,
      y.0,
      is,
      y.1,
      same,
      ⊎_elim (λ (o : (j ≡ k) × (a ≡ y.0)). inr (let e : a.place ≡ y.0.place = ap (λ (z : Answered). z.place) o.1 in omega (arith, e, place, le)))
          (λ (o : (j ≢ k) × (slice_get answers j ≡ Some y.0)). subst (λ (z : Answered). (z.place ≡ 0) ⊎ (m < z.place)) (some-one (sym at ∙ o.1)) how) (get-set answers k a j y.0 y.1),
    )

-- the same of an answer that keeps its place
pub again-same : (plan : List Planned) (answers : List Answered) (k : ℕ) (old a : Answered) (m : ℕ) (call : Call) → slice_get answers k ≡ Some old → old.place ≡ a.place → IsAskedAgain plan answers m call → IsAskedAgain plan (slice_set answers k a) m call
again-same plan answers k old a m call was place (j, pl, b, is, at, same, how) =
    let inside = get-inside answers j b at in let long = set-long answers k a in let y = get_there (slice_set answers k a) j (omega (arith, inside, long)) in (
      j,
      pl,
      y.0,
      is,
      y.1,
      same,
      ⊎_elim (λ (o : (j ≡ k) × (a ≡ y.0)). let e : b ≡ old = some-one (sym at ∙ (ap (slice_get answers) o.0 ∙ was)) in
          subst (λ z. (z ≡ 0) ⊎ (m < z)) (ap (λ (z : Answered). z.place) e ∙ (place ∙ ap (λ (z : Answered). z.place) o.1)) how)
          (λ (o : (j ≢ k) × (slice_get answers j ≡ Some y.0)). subst (λ (z : Answered). (z.place ≡ 0) ⊎ (m < z.place)) (some-one (sym at ∙ o.1)) how) (get-set answers k a j y.0 y.1),
    )

-- an answer that gets a place
pub unplaced-set : (answers : List Answered) (k : ℕ) (a b : Answered) → slice_get answers k ≡ Some a → a.place ≡ 0 → 0 < b.place → unplaced answers ≡ unplaced (slice_set answers k b) + 1
unplaced-set [] k a b at none some = absurd (cc at)
unplaced-set (x ∷ xs) zero a b at none some = let e : one_if (x.place == 0) ≡ 1 = ap one_if (eq-eqb x.place 0 (ap (λ (y : Answered). y.place) (some-one at) ∙ none)) in
    let f : one_if (b.place == 0) ≡ 0 = ap one_if (ne_eqb b.place 0 (λ z. absurd (omega (arith, z, some)))) in omega (arith, e, f)
unplaced-set (x ∷ xs) (suc k) a b at none some = let r = unplaced-set xs k a b at none some in omega (arith, r)

-- an event of a history is that of one of its entries
asked-entry : (es : List Entry) (i : ℕ) (x : Ask × Said) → slice_get (map asked es) i ≡ Some x → (e : Entry) × LiesAmong e es × (asked e ≡ x)
asked-entry [] i x at = absurd (cc at)
asked-entry (e ∷ es) zero x at = (e, (0, refl), some-one at)
asked-entry (e ∷ es) (suc i) x at = let r = asked-entry es i x at in (r.0, (suc r.1.0, r.1.1), r.2)

-- a job is no call
pub job-of-plan : (plan : List Planned) (ask : Ask) (said : Said) → IsJob ask said → IsOfPlan plan ask
job-of-plan plan (Charged j) said is = tt
job-of-plan plan (Ordered call) said is = absurd is

module _ {P : Type 0} (stand : P → Stand) (root : P → P) where
  -- an excuse holds on
  pub excuse-later : (start : State) (firsts : List P) (log more : List Entry) (s t : State) (ps qs : List P) (ask : Ask) (IsSaid : Said → Type 0) (IsMoment : List Entry → Type 0) (number : List Entry → ℕ) → s.counts.faults ≤ t.counts.faults → length qs ≡ length ps
      → ((i : ℕ) (p q : P) → slice_get ps i ≡ Some p → slice_get qs i ≡ Some q → PeerGoes (stand p) (stand q)) → HasExcuse stand root start firsts log s ps ask IsSaid IsMoment number → HasExcuse stand root start firsts (log ++ more) t qs ask IsSaid IsMoment number
  excuse-later start firsts log more s t ps qs ask IsSaid IsMoment number rises long goes h calm =
      let was : IsCalm start log s = (
        calm-first start.counts.faults s.counts.faults t.counts.faults rises calm.0,
        λ j cause into m. calm.1 j cause into
            (subst (LiesAmong (Charged j, Worked (job.Refused cause) into)) (sym (map-append asked log more)) (among-left (Charged j, Worked (job.Refused cause) into) (map asked log) (map asked more) m)),
      ) in
      let x = h was in
      let f = x.2 in (
        x.0,
        x.1,
        (
          f.0,
          record { entry = f.1.entry; rest = f.1.rest ++ more; is = ap (λ l. l ++ more) f.1.is ∙ append_assoc (f.0 ++ f.1.entry ∷ []) f.1.rest more; asks = f.1.asks; says = f.1.says },
          f.2,
          λ i p q first now. let inside = get-inside qs i q now in let g = get_there ps i (omega (arith, long, inside)) in let go = goes i g.0 q g.1 now in let e = f.3 i p g.0 first g.1 in
              (e.0, e.1, (let a = e.2 in let b = go.net in omega (arith, a, b)), e.3, λ sound. e.4 (record { line = sound.line; calm = calm-first (stand p).faults (stand g.0).faults (stand q).faults go.faults sound.calm; kept = sound.kept; logged = sound.logged; there = sound.there })),
        ),
      )

  pub halted-not : (s : State) → (s.halted ≡ true → ⊥) → s.halted ≡ false
  halted-not s n = decide s.halted n
    where
      decide : (b : Bool) → (b ≡ true → ⊥) → b ≡ false
      decide true n = absurd (n refl)
      decide false n = refl

  -- no acknowledgement of a peer's link has a number above the peer's, where no other is of this link
  below-peer : (start : State) (firsts : List P) (log : List Entry) (s : State) (ps : List P) → BurstUnderway stand root start firsts log s ps → (i : ℕ) (p q : P) (n stored : ℕ) (said : Said) → PeersApart stand root firsts
      → slice_get firsts i ≡ Some p → slice_get ps i ≡ Some q → LiesAmong (Charged (Acked (stand p).link n stored), said) (map asked log) → n ≤ (stand q).net
  below-peer start firsts log s ps u i p q n stored said apart first now m =
      let e = asked-entry log m.0 (Charged (Acked (stand p).link n stored), said) m.1 in
      let w : AckWithin stand root ps (Charged (Acked (stand p).link n stored)) = subst (λ (x : Ask × Said). AckWithin stand root ps x.0) e.2 (u.acks e.0 e.1) in
      let inside = get-inside ps w.0 w.1 w.2 in let long = u.long in let f = get_there firsts w.0 (omega (arith, inside, long)) in
      let links : (stand f.0).link ≡ (stand p).link = sym (u.each w.0 f.0 w.1 f.1 w.2).goes.link ∙ sym w.3 in
      let same : w.0 ≡ i = apart w.0 i f.0 p f.1 first links in
      let is : w.1 ≡ q = some-one (sym w.2 ∙ (ap (slice_get ps) same ∙ now)) in
      let net : (stand w.1).net ≡ (stand q).net = ap (λ (x : P). (stand x).net) is in let low = w.4 in omega (arith, net, low)

  -- the peers were brought: each that is sound has acknowledged the last logged number
  pub brought-excuse : (start : State) (firsts : List P) (log : List Entry) (s mid t : State) (ps qs : List P) → BurstUnderway stand root start firsts log s ps → (b : BringsAll stand root s ps mid qs) → mid.counts.faults ≤ t.counts.faults
      → (CountRose start.counts.faults t.counts.faults → ⊥) → NoLimit b.moves.more → (number : ℕ) → number ≤ s.head → Excused stand root start firsts qs (log ++ map (job_entry s.counts) b.moves.more) number
  brought-excuse start firsts log s mid t ps qs a b on calm limit number below i p q first now =
      let inside = get-inside qs i q now in let n = b.long in let g = get_there ps i (omega (arith, n, inside)) in
      let w = a.each i p g.0 first g.1 in let r = b.each i g.0 q g.1 now in let go = r.walks.goes in (
        (stand q).net,
        (let x = w.goes.net in let y = go.net in omega (arith, x, y)),
        omega arith,
        λ apart n stored said m. below-peer start firsts (log ++ map (job_entry s.counts) b.moves.more) mid qs (underway-brings stand root start firsts log s mid ps qs a b) i p q n stored said apart first now m,
        λ sound.
            let seen : map asked (log ++ map (job_entry s.counts) b.moves.more) ≡ map asked log ++ b.moves.more = map-append asked log (map (job_entry s.counts) b.moves.more) ∙ ap (λ l. map asked log ++ l) (asked-jobs s.counts b.moves.more) in
            let since = a.fits.0.since.0 in let rises = b.moves.rises.0 in
            let d : Drains s (stand g.0) mid (stand q) b.moves.more = record {
              runs = halted-not s (λ h. calm (rose-wider start.counts.faults start.counts.faults s.counts.faults t.counts.faults (omega arith) (omega (arith, rises, on)) (a.fits.0.halts h)));
              whole = λ x. calm (rose-wider start.counts.faults s.counts.faults mid.counts.faults t.counts.faults since on x);
              limit = limit;
              line = w.goes.line ∙ (sound.line ∙ sym a.fits.0.line_is);
              sound = λ x. sound.calm (rose-wider (stand p).faults (stand g.0).faults (stand q).faults (stand q).faults w.goes.faults (omega arith) x);
              within = λ u m. subst (λ l. LiesIn l u) (sym w.goes.sizes) (⊎_elim (λ (k : LiesAmong u start.kept). sound.kept u k)
                  (λ (k : HasLogged start.line log u). sound.logged u (logged-more start.line log (map (job_entry s.counts) b.moves.more) u k)) (a.fits.0.keeps u m));
              there = λ low into m. sound.there low into (subst (LiesAmong (Charged (Rattle.vx_turn.specs.declared.ask.Job.TheVariants.Fetch ((stand q).net + 1)), Worked (job.Gone low) into)) (sym seen)
                  (Rattle.vx_settle.proofs.Bringings.among-right (Charged (Rattle.vx_turn.specs.declared.ask.Job.TheVariants.Fetch ((stand q).net + 1)), Worked (job.Gone low) into) (map asked log) b.moves.more m));
            } in
            let k : HasAcked (stand g.0).link s.head b.moves.more = r.acked d in
            let x = k.4 in let y = k.5 in (
              k.0,
              k.1,
              k.2,
              k.3,
              omega (arith, x, below),
              omega (arith, y, below),
              subst (LiesAmong (Charged (Rattle.vx_turn.specs.declared.ask.Job.TheVariants.Acked (stand p).link k.0 k.1), Worked (job.Done k.2) k.3)) (sym seen)
                  (Rattle.vx_settle.proofs.Bringings.among-right (Charged (Rattle.vx_turn.specs.declared.ask.Job.TheVariants.Acked (stand p).link k.0 k.1), Worked (job.Done k.2) k.3) (map asked log) b.moves.more
                  (subst (λ l. LiesAmong (Charged (Rattle.vx_turn.specs.declared.ask.Job.TheVariants.Acked l k.0 k.1), Worked (job.Done k.2) k.3) b.moves.more) w.goes.link k.6)),
            ),
      )

  -- a placed answer has a place that is taken
  placed-below : (start : State) (firsts : List P) (plan : List Planned) (log : List Entry) (s : State) (ps : List P) (answers : List Answered) (n : ℕ) (stays : Events) → BurstStage stand root start firsts plan log s ps answers n stays
      → (k : ℕ) (a : Answered) → slice_get answers k ≡ Some a → 0 < a.place → a.place ≤ n
  placed-below start firsts plan log s ps answers n stays g k a at some = let inside = get-inside answers k a at in let l = g.long in let pl = get_there plan k (omega (arith, l, inside)) in
      let x = get-inside stays (a.place - 1) (Ordered (call_for pl.0), Replied (g.each k pl.0 a pl.1 at some).reply) (g.each k pl.0 a pl.1 at some).at in let c = g.count in omega (arith, x, c, some)

  pub stage-asked : (start : State) (firsts : List P) (plan : List Planned) (log : List Entry) (s t : State) (ps qs : List P) (answers : List Answered) (n : ℕ) (stays : Events) (k : ℕ) (pl : Planned) (old a : Answered)
      → BurstStage stand root start firsts plan log s ps answers n stays → slice_get plan k ≡ Some pl → slice_get answers k ≡ Some old → old.place ≡ 0 → ArePlaced answers k → AskedOne stand root s ps pl (n + 1) a t qs
      → (log2 : List Entry) × (stays2 : Events) × BurstStage stand root start firsts plan log2 t qs (slice_set answers k a) (n + 1) stays2
  stage-asked start firsts plan log s t ps qs answers n stays k pl old a g at was none placed (reply, again, told, place) = (
    log ++ more,
    stays2,
    record {
      underway = subst (λ l. BurstUnderway stand root start firsts l t qs) whole (underway-acts stand root start firsts (log ++ jobs) mid t qs (Ordered (call_for pl)) (Replied reply) tt (underway-brings stand root start firsts log s mid ps qs g.underway b) again.acts);
      left = subst (λ l. Stay (IsAskedAgain plan (slice_set answers k a)) 0 l stays2) (sym seen) (stay-call (IsAskedAgain plan (slice_set answers k a)) 0 (map asked log ++ b.moves.more) stays (Ordered (call_for pl), Replied reply) tt
          (stay-jobs (IsAskedAgain plan (slice_set answers k a)) 0 (map asked log) b.moves.more stays b.moves.jobs
          (stay-as (IsAskedAgain plan answers) (IsAskedAgain plan (slice_set answers k a)) 0 (map asked log) stays (λ m call le h. again-set plan answers k old a n m call was none place (let c = g.count in omega (arith, c, le)) h) g.left)));
      calls = λ e m. ⊎_elim (λ (x : LiesAmong e log). g.calls e x) (λ (x : LiesAmong e more). ⊎_elim (λ (y : LiesAmong e jobs). job-of-plan plan e.ask e.said (b.moves.jobs e.ask e.said (jobs-among s.counts b.moves.more e y)))
          (λ (y : LiesAmong e (last ∷ [])). subst (λ (z : Entry). IsOfPlan plan z.ask) (among-one e last y) (k, pl, at, refl)) (among-split e jobs (last ∷ []) x)) (among-split e log more m);
      count = let c = g.count in let z = Rattle.std.proofs.Common.length-append stays ((Ordered (call_for pl), Replied reply) ∷ []) in omega (arith, c, z);
      rest = let r = g.rest in let u = unplaced-set answers k old a was none (omega (arith, place)) in omega (arith, r, u);
      long = set-long answers k a ∙ g.long;
      each = λ j pj x get now some. ⊎_elim
          (λ (o : (j ≡ k) × (a ≡ x)). subst (IsPlaced stand root start firsts (log ++ more) t qs stays2 pj) o.1 (subst (λ y. IsPlaced stand root start firsts (log ++ more) t qs stays2 y a) (some-one (sym at ∙ (ap (slice_get plan) (sym o.0) ∙ get))) here))
          (λ (o : (j ≢ k) × (slice_get answers j ≡ Some x)). later (g.each j pj x get o.1 some)) (get-set answers k a j x now);
      apart = λ i j x y ix jy some same. ⊎_elim
          (λ (o : (i ≡ k) × (a ≡ x)). ⊎_elim (λ (q : (j ≡ k) × (a ≡ y)). o.0 ∙ sym q.0)
          (λ (q : (j ≢ k) × (slice_get answers j ≡ Some y)). absurd (far y j q.1 (omega (arith, some, same)) (sym same ∙ (ap (λ (z : Answered). z.place) (sym o.1) ∙ place)))) (get-set answers k a j y jy))
          (λ (o : (i ≢ k) × (slice_get answers i ≡ Some x)). ⊎_elim (λ (q : (j ≡ k) × (a ≡ y)). absurd (far x i o.1 some (same ∙ (ap (λ (z : Answered). z.place) (sym q.1) ∙ place))))
          (λ (q : (j ≢ k) × (slice_get answers j ≡ Some y)). g.apart i j x y o.1 q.1 some same) (get-set answers k a j y jy)) (get-set answers k a i x ix);
      rises = λ i j pi pj x y lt gi gj own ix jy some. ⊎_elim
          (λ (o : (i ≡ k) × (a ≡ x)). ⊎_elim (λ (q : (j ≡ k) × (a ≡ y)). absurd (let u = o.0 in let v = q.0 in omega (arith, u, v, lt)))
          (λ (q : (j ≢ k) × (slice_get answers j ≡ Some y)). absurd (let e = g.rises k j pl pj old y (let u = o.0 in omega (arith, u, lt)) at gj (ap (λ (z : Planned). z.thread) (some-one (sym at ∙ (ap (slice_get plan) (sym o.0) ∙ gi))) ∙ own) was q.1 some in let z = e.0 in omega (arith, z, none))) (get-set answers k a j y jy))
          (λ (o : (i ≢ k) × (slice_get answers i ≡ Some x)). ⊎_elim (λ (q : (j ≡ k) × (a ≡ y)). (let up = placed i x (let v = q.0 in omega (arith, v, lt)) o.1 in let low = placed-below start firsts plan log s ps answers n stays g i x o.1 up in let e : a.place ≡ y.place = ap (λ (z : Answered). z.place) q.1 in
          (up, omega (arith, low, e, place))))
          (λ (q : (j ≢ k) × (slice_get answers j ≡ Some y)). g.rises i j pi pj x y lt gi gj own o.1 q.1 some) (get-set answers k a j y jy)) (get-set answers k a i x ix);
    },
  )
    where
      mid : State
      mid = again.mid

      b : BringsAll stand root s ps again.mid qs
      b = again.brings

      jobs : List Entry
      jobs = map (job_entry s.counts) again.brings.moves.more

      last : Entry
      last = made again.mid 0 (Ordered (call_for pl)) (Replied reply) t

      more : List Entry
      more = map (job_entry s.counts) again.brings.moves.more ++ made again.mid 0 (Ordered (call_for pl)) (Replied reply) t ∷ []

      stays2 : Events
      stays2 = stays ++ (Ordered (call_for pl), Replied reply) ∷ []

      whole : (log ++ jobs) ++ last ∷ [] ≡ log ++ more
      whole = append_assoc log jobs (last ∷ [])

      seen : map asked (log ++ more) ≡ (map asked log ++ again.brings.moves.more) ++ (Ordered (call_for pl), Replied reply) ∷ []
      seen = ap (map asked) (sym whole) ∙ (map-append asked (log ++ jobs) (last ∷ []) ∙ ap (λ l. l ++ (Ordered (call_for pl), Replied reply) ∷ []) (map-append asked log jobs ∙ ap (λ l. map asked log ++ l) (asked-jobs s.counts again.brings.moves.more)))

      later : {pj : Planned} {x : Answered} → IsPlaced stand root start firsts log s ps stays pj x → IsPlaced stand root start firsts (log ++ more) t qs stays2 pj x
      later {pj} {x} i = record {
        reply = i.reply;
        at = get-longer stays ((Ordered (call_for pl), Replied reply) ∷ []) (x.place - 1) (Ordered (call_for pj), Replied i.reply) i.at;
        told = i.told;
        stalled = λ z. let inside = get-inside stays (x.place - 1) (Ordered (call_for pj), Replied i.reply) i.at in
            let same : take (x.place - 1) stays2 ≡ take (x.place - 1) stays = take-more (x.place - 1) stays ((Ordered (call_for pl), Replied reply) ∷ []) (omega (arith, inside)) in
            subst (λ l. HasExcuse stand root start firsts (log ++ more) t qs (Ordered (call_for pj)) (λ said. said ≡ Replied i.reply) (AreBefore l) (head_behind start)) (sym same)
            (excuse-later start firsts log more s t ps qs (Ordered (call_for pj)) (λ said. said ≡ Replied i.reply) (AreBefore (take (x.place - 1) stays)) (head_behind start) (let u = again.brings.moves.rises.0 in let v = again.acts.rises.0 in omega (arith, u, v)) again.brings.long
            (λ i p q y w. (again.brings.each i p q y w).walks.goes) (i.stalled z));
      }

      far : (y : Answered) (j : ℕ) → slice_get answers j ≡ Some y → 0 < y.place → y.place ≡ n + 1 → ⊥
      far y j get some is = let low = placed-below start firsts plan log s ps answers n stays g j y get some in absurd (omega (arith, low, is))

      here : IsPlaced stand root start firsts (log ++ more) t qs stays2 pl a
      here = record {
        reply = reply;
        at = let e : length stays ≡ a.place - 1 = (let c = g.count in omega (arith, c, place)) in subst (λ z. slice_get stays2 z ≡ Some (Ordered (call_for pl), Replied reply)) e (get-last stays (Ordered (call_for pl), Replied reply));
        told = told;
        stalled = λ z calm. (
          Replied reply,
          refl,
          (
            log ++ jobs,
            record { entry = last; rest = []; is = sym whole ∙ sym (append-nil ((log ++ jobs) ++ last ∷ [])); asks = refl; says = refl },
            moment,
            brought-excuse start firsts log s again.mid t ps qs g.underway again.brings again.acts.rises.0 calm.0
                (λ j cause into m. calm.1 j cause into (subst (LiesAmong (Charged j, Worked (job.Refused cause) into)) (sym seen)
                (among-left (Charged j, Worked (job.Refused cause) into) (map asked log ++ again.brings.moves.more) ((Ordered (call_for pl), Replied reply) ∷ [])
                (Rattle.vx_settle.proofs.Bringings.among-right (Charged j, Worked (job.Refused cause) into) (map asked log) again.brings.moves.more m))))
                (head_behind start (log ++ jobs)) top,
          ),
        );
      }
        where
          moment : AreBefore (take (a.place - 1) stays2) (log ++ jobs)
          moment = let here : take (a.place - 1) stays2 ≡ stays = take-front (a.place - 1) stays ((Ordered (call_for pl), Replied reply) ∷ []) (let c = g.count in omega (arith, c, place)) in
              let events : map asked (log ++ jobs) ≡ map asked log ++ again.brings.moves.more = map-append asked log jobs ∙ ap (λ l. map asked log ++ l) (asked-jobs s.counts again.brings.moves.more) in
              subst (λ (x : Events × Events). Stay (λ n call. Unit {0}) 0 x.0 x.1) (λ i. (sym events i, sym here i))
              (stay-jobs (λ n call. Unit {0}) 0 (map asked log) again.brings.moves.more stays again.brings.moves.jobs (stay-as (IsAskedAgain plan answers) (λ n call. Unit {0}) 0 (map asked log) stays (λ m call le h. tt) g.left))

          top : head_behind start (log ++ jobs) ≤ s.head
          top = let j = (underway-brings stand root start firsts log s again.mid ps qs g.underway again.brings).fits.0.head_is in let m = again.brings.moves.head in omega (arith, j, m)

  -- the links of the peers are the engine's still
  pub asked-links : (s t : State) (ps qs : List P) (pl : Planned) (place : ℕ) (a : Answered) → AskedOne stand root s ps pl place a t qs → HaveLinks stand s ps → HaveLinks stand t qs
  asked-links s t ps qs pl place a (reply, again, told, is) links i q now = let inside = get-inside qs i q now in let n = again.brings.long in let g = get_there ps i (omega (arith, n, inside)) in
      let l = links i g.0 g.1 in let go = (again.brings.each i g.0 q g.1 now).walks.goes.link in let m = again.brings.moves.links in
      let k : length t.nets ≡ length again.mid.nets = Rattle.vx_turn.proofs.Histories.nets-long (Ordered (call_for pl)) again.mid.nets t.nets again.acts.nets in omega (arith, l, go, m, k)

  pub stages-none : (plan : List Planned) (s : State) (ps : List P) (answers : List Answered) (n : ℕ) → StagesOn stand root plan s ps answers n s ps answers n
  stages-none plan s ps answers n start firsts log stays g = (log, stays, g)

  pub stages-then : (plan : List Planned) (s t u : State) (ps qs rs : List P) (xs ys zs : List Answered) (n m k : ℕ) → StagesOn stand root plan s ps xs n t qs ys m → StagesOn stand root plan t qs ys m u rs zs k → StagesOn stand root plan s ps xs n u rs zs k
  stages-then plan s t u ps qs rs xs ys zs n m k a b start firsts log stays g = let x = a start firsts log stays g in b start firsts x.0 x.1 x.2

  pub stages-asked : (plan : List Planned) (s t : State) (ps qs : List P) (answers : List Answered) (n k : ℕ) (pl : Planned) (old a : Answered) → slice_get plan k ≡ Some pl → slice_get answers k ≡ Some old → old.place ≡ 0 → ArePlaced answers k
      → AskedOne stand root s ps pl (n + 1) a t qs → StagesOn stand root plan s ps answers n t qs (slice_set answers k a) (n + 1)
  stages-asked plan s t ps qs answers n k pl old a at was none placed asked start firsts log stays g = stage-asked start firsts plan log s t ps qs answers n stays k pl old a g at was none placed asked

pub placed-set : (answers : List Answered) (k : ℕ) (a : Answered) → ArePlaced answers k → 0 < a.place → ArePlaced (slice_set answers k a) (k + 1)
placed-set answers k a placed some j x lt at = ⊎_elim (λ (o : (j ≡ k) × (a ≡ x)). (let e : a.place ≡ x.place = ap (λ (y : Answered). y.place) o.1 in omega (arith, e, some)))
    (λ (o : (j ≢ k) × (slice_get answers j ≡ Some x)). placed j x (below j k lt o.0) o.1) (get-set answers k a j x at)
  where
    below : (j k : ℕ) → j < k + 1 → j ≢ k → j < k
    below zero zero lt far = absurd (far refl)
    below zero (suc k) lt far = omega arith
    below (suc j) zero lt far = absurd (omega (arith, lt))
    below (suc j) (suc k) lt far = let r = below j k (omega (arith, lt)) (λ e. far (ap suc e)) in omega (arith, r)
