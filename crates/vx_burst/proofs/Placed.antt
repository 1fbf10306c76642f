-- The calls that were made, by their places.
use Rattle.std.proofs.Common.{◌≡◌, ◌⊎◌, ℕ, zero, suc, ◌+◌, ◌-◌, ◌<◌, ◌≤◌, ◌==◌, List, [], ◌∷◌, ◌++◌, length, map, take, refl, ap, sym, ◌∙◌, subst, ⊎_elim, inl, inr, arith, ne_eqb, Some, slice_get, slice_index_or}
use Rattle.std.proofs.lemmas.List.{length-map}
use Rattle.std.proofs.lemmas.Option.{get_or_from_slice_get}
use Rattle.atomic_table.specs.Seated.{TableId}
use Rattle.vx_model.specs.declared.call.Call.{Call}
use Rattle.vx_model.specs.Numbers.{one_if}
use Rattle.vx_model.proofs.Lists.{get_there}
use Rattle.vx_turn.specs.declared.ask.Ask.{Ask}
use Rattle.vx_turn.specs.declared.ask.Ask.TheVariants.{Ordered, Charged}
use Rattle.vx_turn.specs.declared.ask.Said.{Said}
use Rattle.vx_turn.specs.declared.ask.Said.TheVariants.{Replied, Worked}
use Rattle.vx_turn.specs.declared.meaning.Entry.{Entry}
use Rattle.vx_turn.specs.declared.meaning.State.{State}
use Rattle.vx_turn.specs.declared.passes.Pass.{Pass}
use Rattle.vx_turn.specs.Acting.{LiesAmong}
use Rattle.vx_turn.specs.History.{asked}
use Rattle.vx_turn.specs.Passing.{seen_of}
use Rattle.vx_settle.specs.declared.peer.Stand.{Stand}
use Rattle.vx_settle.specs.Bringing.{Events}
use Rattle.vx_settle.proofs.ManyPeers.{some-one, get-inside}
use Rattle.vx_burst_threads.specs.declared.plan.Planned.{Planned}
use Rattle.vx_burst_threads.specs.declared.writer.Writer.{Writer}
use Rattle.vx_burst_threads.specs.declared.writer.Made.{Made}
use Rattle.vx_burst_threads.specs.declared.worker.Worker.{Worker}
use Rattle.vx_burst_threads.specs.declared.worker.Worker.TheVariants.{Writes, Drains}
use Rattle.vx_burst_threads.specs.Planning.{call_for, IsToldAs}
use Rattle.vx_burst_threads.specs.Writing.{StandsInLog, IsMemberMade, IsStalledAt, HasMade}
use Rattle.vx_burst_threads.specs.Working.{HasWorked}
use Rattle.vx_burst_threads.specs.Joining.{IsMadeBy}
use Rattle.vx_burst_threads.proofs.Making.{stands-more}
use Rattle.std.specs.List.Sorted.{IsNonDecreasingBy}
use Rattle.vx_turn.specs.declared.ask.Job.TheVariants.{Wait}
use Rattle.vx_turn.specs.declared.ask.JobReply.TheVariants as job
use Rattle.vx_burst_threads.specs.declared.plan.Answered.{Answered}
use Rattle.vx_burst_threads.specs.Laying.{LaidWith, answered_as}
use Rattle.vx_burst.specs.declared.placing.Spot.{Spot}
use Rattle.vx_burst.specs.Placing.{SpotsNoted, SpotsNumbered}
use Rattle.vx_burst.proofs.Placings.{once-same}
use Rattle.vx_burst.proofs.Underways.{job_entry}
use Rattle.vx_burst.proofs.Ends.{classify, of-plan, IsMadeAt, IsOpen, IsIdle}
use Rattle.vx_burst.specs.Setting.{AreBlank}
use Rattle.vx_burst.specs.Finishing.{IsLeftOut, IsCallAsk, Stay, IsAskedAgain, unplaced, BurstUnderway, BurstStage}
use Rattle.vx_burst.proofs.Ends.{Joined, begins-of}

-- an entry that stands at a place, as it is found
pub stands-find : (log : List Entry) (place by : ℕ) (ask : Ask) (said : Said) → StandsInLog log place by ask said → (n : ℕ) × (e : Entry) × (slice_get log n ≡ Some e) × (suc n ≡ place) × (e.caller ≡ by) × (e.ask ≡ ask) × (e.said ≡ said)
stands-find log place by ask said s = let e : Entry = record { caller = by; ask = ask; said = said; before = s.before; after = s.after } in
    (length s.front, e, subst (λ l. slice_get l (length s.front) ≡ Some e) (sym s.is) (here s.front e s.rest), (let a = s.at in omega (arith, a)), refl, refl, refl)
  where
    here : (front : List Entry) (e : Entry) (rest : List Entry) → slice_get ((front ++ e ∷ []) ++ rest) (length front) ≡ Some e
    here [] e rest = refl
    here (x ∷ xs) e rest = here xs e rest

-- numbers that rise, all above n
abbrev pub Rising : ℕ → List ℕ → Type 0
Rising n [] = Unit {0}
Rising n (p ∷ ps) = (n < p) × Rising p ps

rising-above : (n : ℕ) (ps : List ℕ) (p : ℕ) → Rising n ps → LiesAmong p ps → n < p
rising-above n [] p r m = absurd (cc m.1)
rising-above n (q ∷ qs) p r (zero, at) = let e : q ≡ p = some-one at in let a = r.0 in omega (arith, a, e)
rising-above n (q ∷ qs) p r (suc i, at) = let a = r.0 in let b = rising-above q qs p r.1 (i, at) in omega (arith, a, b)

-- the entry may be left out behind any number of calls that stay
abbrev pub MayLeave : (ℕ → Call → Type 0) → Entry → Type 0
MayLeave IsStalledAt e = (m : ℕ) → IsLeftOut IsStalledAt m e.ask e.said

-- where each event at a place that is none of these may be left out, those at these places stay
pub stay-picked : (IsStalledAt : ℕ → Call → Type 0) (r : ℕ) (ev : ℕ → Ask × Said) (n : ℕ) (log : List Entry) (ps : List ℕ) → Rising n ps → ((p : ℕ) → LiesAmong p ps → p ≤ n + length log) → ((p : ℕ) → LiesAmong p ps → IsCallAsk (ev p).0)
    → ((i : ℕ) (e : Entry) → slice_get log i ≡ Some e → ev (suc (n + i)) ≡ asked e) → ((i : ℕ) (e : Entry) → slice_get log i ≡ Some e → LiesAmong (suc (n + i)) ps ⊎ MayLeave IsStalledAt e) → Stay IsStalledAt r (map asked log) (map ev ps)
stay-picked IsStalledAt l ev n [] [] r top order is class = refl
stay-picked IsStalledAt l ev n [] (p ∷ ps) r top order is class = absurd (let a = top p (0, refl) in let b = r.0 in omega (arith, a, b))
stay-picked IsStalledAt l ev n (e ∷ es) ps r top order is class = step ps r top order (class 0 e refl)
    (λ after qs s t o c. stay-picked IsStalledAt after ev (suc n) es qs s t o (λ i x at. let z : suc (n + suc i) ≡ suc (suc n + i) = omega arith in subst (λ m. ev m ≡ asked x) z (is (suc i) x at)) c) class
  where
    first : ev (suc n) ≡ asked e
    first = let z : suc (n + 0) ≡ suc n = omega arith in subst (λ m. ev m ≡ asked e) z (is 0 e refl)

    shift : (i : ℕ) → suc (n + suc i) ≡ suc (suc n + i)
    shift i = omega arith

    step : (ps : List ℕ) → Rising n ps → ((p : ℕ) → LiesAmong p ps → p ≤ n + length (e ∷ es)) → ((p : ℕ) → LiesAmong p ps → IsCallAsk (ev p).0) → LiesAmong (suc (n + 0)) ps ⊎ MayLeave IsStalledAt e
        → ((after : ℕ) (qs : List ℕ) → Rising (suc n) qs → ((p : ℕ) → LiesAmong p qs → p ≤ suc n + length es) → ((p : ℕ) → LiesAmong p qs → IsCallAsk (ev p).0) → ((i : ℕ) (x : Entry) → slice_get es i ≡ Some x → LiesAmong (suc (suc n + i)) qs ⊎ MayLeave IsStalledAt x) → Stay IsStalledAt after (map asked es) (map ev qs))
        → ((i : ℕ) (x : Entry) → slice_get (e ∷ es) i ≡ Some x → LiesAmong (suc (n + i)) ps ⊎ MayLeave IsStalledAt x) → Stay IsStalledAt l (map asked (e ∷ es)) (map ev ps)
    step [] r top order c rest class = ⊎_elim (λ (m : LiesAmong (suc (n + 0)) []). absurd (cc m.1)) (λ (i : MayLeave IsStalledAt e). inl (
      i l,
      rest l [] tt (λ p m. absurd (cc m.1)) (λ p m. absurd (cc m.1))
          (λ k x at. ⊎_elim (λ (m : LiesAmong (suc (n + suc k)) []). absurd (cc m.1)) (λ (m : MayLeave IsStalledAt x). inr m) (class (suc k) x at)),
    )) c
    step (p ∷ ps) r top order c rest class = ⊎_elim
        (λ (same : p ≡ suc n). inr (
          map ev ps,
          ap (λ y. y ∷ map ev ps) (ap ev same ∙ first),
          subst (λ (y : Ask × Said). IsCallAsk y.0) (ap ev same ∙ first) (order p (0, refl)),
          rest (suc l) ps (subst (λ m. Rising m ps) same r.1) (λ q m. (let t = top q (suc m.0, m.1) in omega (arith, t))) (λ q m. order q (suc m.0, m.1))
              (λ k x at. ⊎_elim (λ (m : LiesAmong (suc (n + suc k)) (p ∷ ps)). inl (tail (suc (n + suc k)) (suc (suc n + k)) (shift k) m (λ z. absurd (omega (arith, z, same))))) (λ (m : MayLeave IsStalledAt x). inr m) (class (suc k) x at)),
        ))
        (λ (far : suc n < p). inl (
          ⊎_elim (λ (m : LiesAmong (suc (n + 0)) (p ∷ ps)). absurd (low m far)) (λ (i : MayLeave IsStalledAt e). i l) c,
          rest l (p ∷ ps) (far, r.1) (λ q m. (let t = top q m in omega (arith, t))) order
              (λ k x at. ⊎_elim (λ (m : LiesAmong (suc (n + suc k)) (p ∷ ps)). inl (subst (λ z. LiesAmong z (p ∷ ps)) (shift k) m)) (λ (m : MayLeave IsStalledAt x). inr m) (class (suc k) x at)),
        )) (which p r.0)
      where
        which : (p : ℕ) → n < p → (p ≡ suc n) ⊎ (suc n < p)
        which p lt = cut p (suc n) (omega (arith, lt))
          where
            cut : (p m : ℕ) → m ≤ p → (p ≡ m) ⊎ (m < p)
            cut zero zero le = inl refl
            cut zero (suc m) le = absurd (omega (arith, le))
            cut (suc p) zero le = inr (omega arith)
            cut (suc p) (suc m) le = ⊎_elim (λ (x : p ≡ m). inl (ap suc x)) (λ (x : m < p). inr (omega (arith, x))) (cut p m (omega (arith, le)))

        low : LiesAmong (suc (n + 0)) (p ∷ ps) → suc n < p → ⊥
        low (zero, at) far = let z : p ≡ suc (n + 0) = some-one at in absurd (omega (arith, z, far))
        low (suc i, at) far = let b = rising-above p ps (suc (n + 0)) r.1 (i, at) in absurd (omega (arith, b, far))

        tail : (a b : ℕ) → a ≡ b → LiesAmong a (p ∷ ps) → (p ≡ a → ⊥) → LiesAmong b ps
        tail a b is (zero, at) not = absurd (not (some-one at))
        tail a b is (suc i, at) not = subst (λ z. LiesAmong z ps) is (i, at)

get-map : {A B : Type 0} (f : A → B) (xs : List A) (i : ℕ) (x : A) → slice_get xs i ≡ Some x → slice_get (map f xs) i ≡ Some (f x)
get-map f [] i x at = absurd (cc at)
get-map f (y ∷ ys) zero x at = let e : y ≡ x = some-one at in ap (λ v. Some (f v)) e
get-map f (y ∷ ys) (suc i) x at = get-map f ys i x at

map-get : {A B : Type 0} (f : A → B) (xs : List A) (i : ℕ) (b : B) → slice_get (map f xs) i ≡ Some b → (x : A) × (slice_get xs i ≡ Some x) × (f x ≡ b)
map-get f [] i b at = absurd (cc at)
map-get f (y ∷ ys) zero b at = (y, refl, some-one at)
map-get f (y ∷ ys) (suc i) b at = map-get f ys i b at

rising-of : (n : ℕ) (xs : List Spot) → ((i : ℕ) (s : Spot) → slice_get xs i ≡ Some s → n < s.place) → ((i k : ℕ) (s t : Spot) → i < k → slice_get xs i ≡ Some s → slice_get xs k ≡ Some t → s.place < t.place) → Rising n (map (λ (s : Spot). s.place) xs)
rising-of n [] low up = tt
rising-of n (x ∷ xs) low up = (low 0 x refl, rising-of x.place xs (λ i s at. up 0 (suc i) x s (omega arith) refl at) (λ i k s t lt a b. up (suc i) (suc k) s t (omega (arith, lt)) a b))

unplaced-ext : (xs ys : List Answered) → length ys ≡ length xs → ((k : ℕ) (a b : Answered) → slice_get xs k ≡ Some a → slice_get ys k ≡ Some b → (a.place ≡ 0 → b.place ≡ 0) × (0 < a.place → 0 < b.place)) → unplaced ys ≡ unplaced xs
unplaced-ext [] [] n f = refl
unplaced-ext [] (y ∷ ys) n f = absurd (omega (arith, n))
unplaced-ext (x ∷ xs) [] n f = absurd (omega (arith, n))
unplaced-ext (x ∷ xs) (y ∷ ys) n f = let r = unplaced-ext xs ys (omega (arith, n)) (λ k a b u v. f (suc k) a b u v) in let h = f 0 x y refl refl in let e = one x.place y.place h.0 h.1 in omega (arith, r, e)
  where
    one : (a b : ℕ) → (a ≡ 0 → b ≡ 0) → (0 < a → 0 < b) → one_if (b == 0) ≡ one_if (a == 0)
    one zero b f g = ap (λ n. one_if (n == 0)) (f refl)
    one (suc a) b f g = let p = g (omega arith) in ap one_if (ne_eqb b 0 (λ e. absurd (omega (arith, e, p)))) ∙ sym (ap one_if (ne_eqb (suc a) 0 (λ e. absurd (omega (arith, e)))))

take-whole : (xs : List Answered) → take (length xs) xs ≡ xs
take-whole [] = refl
take-whole (x ∷ xs) = ap (λ l. x ∷ l) (take-whole xs)

module _ {P : Type 0} (stand : P → Stand) (root : P → P) (z : TableId) (start : State) (callers : ℕ) (plan : List Planned) (firsts : List P) (p q : Pass) (out : List P) (log : List Entry) (j : Joined stand root z start callers plan firsts p q out log) where
  abbrev pub as-worker : Writer → Worker P
  as-worker v = Writes v

  -- all that is known of a call that was made
  pub record MadeInfo (m : Made) : Type 0 where
    pub n : ℕ
    pub entry : Entry
    pub at : slice_get log n ≡ Some entry
    pub place : suc n ≡ m.place
    pub i : ℕ
    pub x : Writer
    pub here : slice_get j.xs i ≡ Some (Writes x)
    pub among : LiesAmong m x.made.items
    pub stop : ℕ
    pub has : HasMade plan (i + 1) stop x.pass x.made.items (IsStalledAt plan (i + 1) stop x.pass)
    pub is : IsMemberMade plan (i + 1) stop x.pass m
    pub caller : entry.caller ≡ i
    pub asks : entry.ask ≡ Ordered (call_for is.planned)
    pub says : entry.said ≡ Replied is.reply

  pub made-info : (m : Made) → IsMadeBy j.xs m → MadeInfo m
  made-info m (x, (i, here), got) = let inside = get-inside j.xs i (Writes x) here in let n = j.pairs.0 in let w = get_there j.ws i (omega (arith, n, inside)) in
      by-writer w.0 w.1 (j.pairs.1 i w.0 (Writes x) w.1 here)
    where
      by-writer : (w : Worker P) → slice_get j.ws i ≡ Some w → HasWorked stand root plan w (Writes x) → MadeInfo m
      by-writer (Drains d) old h = absurd h
      by-writer (Writes w) old h = let s = j.set i (Writes w) old in let k = h.made s.0.none_made in
          let has : HasMade plan (i + 1) k.0 x.pass x.made.items (IsStalledAt plan (i + 1) k.0 x.pass) = subst (λ t. HasMade plan t k.0 x.pass x.made.items (IsStalledAt plan t k.0 x.pass)) s.1 k.1 in
          let g = has.each m got in
          let f = stands-find log m.place x.pass.number (Ordered (call_for g.planned)) (Replied g.reply) (stands-more (seen_of x.pass) log m.place x.pass.number (Ordered (call_for g.planned)) (Replied g.reply) g.stands
          (begins-of stand root z start callers plan firsts p q out log j i (Writes x) here)) in record {
            n = f.0;
            entry = f.1;
            at = f.2;
            place = f.3;
            i = i;
            x = x;
            here = here;
            among = got;
            stop = k.0;
            has = has;
            is = g;
            caller = f.4 ∙ (h.keeps.0.1 ∙ s.0.number_is);
            asks = f.5;
            says = f.6;
          }

  order : (i k : ℕ) → (i ≡ k) ⊎ ((i < k) ⊎ (k < i))
  order zero zero = inl refl
  order zero (suc k) = inr (inl (omega arith))
  order (suc i) zero = inr (inr (omega arith))
  order (suc i) (suc k) = ⊎_elim (λ (x : i ≡ k). inl (ap suc x)) (λ (x : (i < k) ⊎ (k < i)). inr (⊎_elim (λ (y : i < k). inl (omega (arith, y))) (λ (y : k < i). inr (omega (arith, y))) x)) (order i k)

  -- of two calls of one thread the earlier in the plan has the earlier place
  pub made-order : (a b : Made) (s : MadeInfo a) (t : MadeInfo b) → s.i ≡ t.i → a.at < b.at → a.place < b.place
  made-order a b s t same lt = let x : s.x ≡ t.x = writer-same s.x t.x (some-one (sym s.here ∙ (ap (slice_get j.xs) same ∙ t.here))) in
      go (subst (λ (y : Writer). LiesAmong a y.made.items) x s.among)
    where
      writer-same : (v w : Writer) → as-worker v ≡ as-worker w → v ≡ w
      writer-same v w e = cc e

      go : LiesAmong a t.x.made.items → a.place < b.place
      go m = ⊎_elim (λ (e : m.0 ≡ t.among.0). absurd (let u : a ≡ b = some-one (sym m.1 ∙ (ap (slice_get t.x.made.items) e ∙ t.among.1)) in let v : a.at ≡ b.at = ap (λ (y : Made). y.at) u in omega (arith, v, lt)))
          (λ (o : (m.0 < t.among.0) ⊎ (t.among.0 < m.0)). ⊎_elim (λ (y : m.0 < t.among.0). (t.has.rises m.0 t.among.0 a b y m.1 t.among.1).1)
          (λ (y : t.among.0 < m.0). absurd (let r = (t.has.rises t.among.0 m.0 b a y t.among.1 m.1).0 in omega (arith, r, lt))) o) (order m.0 t.among.0)

  -- two calls at one place are one
  pub made-apart : (a b : Made) (s : MadeInfo a) (t : MadeInfo b) → a.place ≡ b.place → a.at ≡ b.at
  made-apart a b s t same = let n : s.n ≡ t.n = (let x = s.place in let y = t.place in omega (arith, x, y, same)) in
      let e : s.entry ≡ t.entry = some-one (sym s.at ∙ (ap (slice_get log) n ∙ t.at)) in
      let i : s.i ≡ t.i = sym s.caller ∙ (ap (λ (y : Entry). y.caller) e ∙ t.caller) in
      ⊎_elim (λ (x : a.at ≡ b.at). x) (λ (x : (a.at < b.at) ⊎ (b.at < a.at)). ⊎_elim (λ (y : a.at < b.at). absurd (let r = made-order a b s t i y in omega (arith, r, same)))
      (λ (y : b.at < a.at). absurd (let r = made-order b a t s (sym i) y in omega (arith, r, same))) x) (order a.at b.at)

  -- what was made of one member stands at one place
  pub made-at : (a b : Made) (s : MadeInfo a) (t : MadeInfo b) → a.at ≡ b.at → a.place ≡ b.place
  made-at a b s t same = let pl : s.is.planned ≡ t.is.planned = some-one (sym s.is.is ∙ (ap (slice_get plan) same ∙ t.is.is)) in
      let e : s.i + 1 ≡ t.i + 1 = sym s.is.own ∙ (ap (λ (y : Planned). y.thread) pl ∙ t.is.own) in let i : s.i ≡ t.i = omega (arith, e) in
      let x : s.x ≡ t.x = writer-same s.x t.x (some-one (sym s.here ∙ (ap (slice_get j.xs) i ∙ t.here))) in
      go (subst (λ (y : Writer). LiesAmong a y.made.items) x s.among)
    where
      writer-same : (v w : Writer) → as-worker v ≡ as-worker w → v ≡ w
      writer-same v w e = cc e

      go : LiesAmong a t.x.made.items → a.place ≡ b.place
      go m = ⊎_elim (λ (e : m.0 ≡ t.among.0). let u : a ≡ b = some-one (sym m.1 ∙ (ap (slice_get t.x.made.items) e ∙ t.among.1)) in ap (λ (y : Made). y.place) u)
          (λ (o : (m.0 < t.among.0) ⊎ (t.among.0 < m.0)). ⊎_elim (λ (y : m.0 < t.among.0). absurd (let r = (t.has.rises m.0 t.among.0 a b y m.1 t.among.1).0 in omega (arith, r, same)))
          (λ (y : t.among.0 < m.0). absurd (let r = (t.has.rises t.among.0 m.0 b a y t.among.1 m.1).0 in omega (arith, r, same))) o) (order m.0 t.among.0)

  module _ (blanks olds : List Answered) (spots : List Spot) (blank : AreBlank blanks) (laid : LaidWith (IsMadeBy j.xs) blanks olds) (long : length blanks ≡ length plan) (noted : SpotsNoted olds (length olds) spots)
      (rises : IsNonDecreasingBy (λ (s : Spot). s.place) spots) where
    -- what was made for a spot
    pub record SpotInfo (s : Spot) : Type 0 where
      pub made : Made
      pub by : IsMadeBy j.xs made
      pub at : made.at ≡ s.at
      pub place : made.place ≡ s.place
      pub here : slice_get olds s.at ≡ Some (answered_as made)

    pub spot-info : (i : ℕ) (s : Spot) → slice_get spots i ≡ Some s → SpotInfo s
    spot-info i s at = let n = noted.each i s at in let a = n.1 in ⊎_elim
        (λ (o : (slice_get blanks s.at ≡ Some a.0) × ((m : Made) → IsMadeBy j.xs m → m.at ≡ s.at → ⊥)). absurd (let b = blank s.at a.0 o.0 in let c = a.3 in omega (arith, b, c)))
        (λ (o : (m : Made) × IsMadeBy j.xs m × (m.at ≡ s.at) × (a.0 ≡ answered_as m)). record { made = o.0; by = o.1; at = o.2; place = ap (λ (y : Answered). y.place) (sym o.3) ∙ sym a.2; here = a.1 ∙ ap Some o.3 }) (laid.each s.at a.0 a.1)

    -- the spots' places rise strictly
    pub spots-rise : (i k : ℕ) (s t : Spot) → i < k → slice_get spots i ≡ Some s → slice_get spots k ≡ Some t → s.place < t.place
    spots-rise i k s t lt x y = let a = spot-info i s x in let b = spot-info k t y in
        let le0 = rises i k s (omega (arith, lt)) (get-inside spots k t y) in
        let le : s.place ≤ t.place = subst (λ (z : Spot × Spot). z.0.place ≤ z.1.place) (λ n. (get_or_from_slice_get spots i s s x n, get_or_from_slice_get spots k t s y n)) le0 in
        ⊎_elim (λ (e : s.place ≡ t.place). absurd (let at = made-apart a.made b.made (made-info a.made a.by) (made-info b.made b.by) (a.place ∙ (e ∙ sym b.place)) in
        let same = once-same spots i k s t noted.once x y (sym a.at ∙ (at ∙ b.at)) in omega (arith, same, lt)))
        (λ (o : (s.place < t.place) ⊎ (t.place < s.place)). ⊎_elim (λ (z : s.place < t.place). z) (λ (z : t.place < s.place). absurd (omega (arith, z, le))) o) (order s.place t.place)

    -- each call that was made has its spot
    pub made-spot : (m : Made) → IsMadeBy j.xs m → (s : Spot) × LiesAmong s spots × (s.at ≡ m.at) × (s.place ≡ m.place)
    made-spot m by = let info = made-info m by in let inside = get-inside plan m.at info.is.planned info.is.is in let l = laid.long in
        let a = get_there olds m.at (omega (arith, inside, l, long)) in ⊎_elim
        (λ (o : (slice_get blanks m.at ≡ Some a.0) × ((d : Made) → IsMadeBy j.xs d → d.at ≡ m.at → ⊥)). absurd (o.1 m by refl))
        (λ (o : (d : Made) × IsMadeBy j.xs d × (d.at ≡ m.at) × (a.0 ≡ answered_as d)).
        let same = made-at o.0 m (made-info o.0 o.1) info o.2 in let pl : a.0.place ≡ o.0.place = ap (λ (y : Answered). y.place) o.3 in let up = info.place in
        let c = noted.cover m.at a.0 (get-inside olds m.at a.0 a.1) a.1 (omega (arith, pl, same, up)) in
        let n = noted.each c.1.0 c.0 c.1.1 in
        let b : n.1.0 ≡ a.0 = some-one (sym n.1.1 ∙ (ap (slice_get olds) c.2 ∙ a.1)) in
        (c.0, c.1, c.2, n.1.2 ∙ (ap (λ (y : Answered). y.place) b ∙ (pl ∙ same)))) (laid.each m.at a.0 a.1)

    module _ (news : List Answered) (numbered : SpotsNumbered spots (length spots) olds news) where
      -- where an answer has a number it has its spot
      pub news-spot : (k : ℕ) (b : Answered) → slice_get news k ≡ Some b → 0 < b.place → (i : ℕ) × (s : Spot) × (slice_get spots i ≡ Some s) × (s.at ≡ k) × (b.place ≡ i + 1)
      news-spot k b at some = let a = numbered.same k b at in ⊎_elim
          (λ (e : 0 ≡ a.0.place). absurd (let same : b ≡ a.0 = some-one (sym at ∙ (numbered.else k (λ i s lt get is. let n = noted.each i s get in let v : n.1.0 ≡ a.0 = some-one (sym n.1.1 ∙ (ap (slice_get olds) is ∙ a.1)) in
          let w : n.1.0.place ≡ a.0.place = ap (λ (y : Answered). y.place) v in let u = n.1.3 in absurd (omega (arith, w, u, e))) ∙ a.1)) in let pl : b.place ≡ a.0.place = ap (λ (y : Answered). y.place) same in omega (arith, pl, e, some)))
          (λ (o : (0 < a.0.place) ⊎ (a.0.place < 0)). ⊎_elim (λ (up : 0 < a.0.place). let c = noted.cover k a.0 (get-inside olds k a.0 a.1) a.1 up in let d = numbered.each c.1.0 c.0 (get-inside spots c.1.0 c.0 c.1.1) c.1.1 in
          let same : d.0 ≡ b = some-one (sym d.1 ∙ (ap (slice_get news) c.2 ∙ at)) in (c.1.0, c.0, c.1.1, c.2, ap (λ (y : Answered). y.place) (sym same) ∙ d.2))
          (λ (low : a.0.place < 0). absurd (omega (arith, low))) o) (order 0 a.0.place)

      pub joined-stage : (s : State) → BurstUnderway stand root start firsts log s out → (stays : Events) × BurstStage stand root start firsts plan log s out news (length spots) stays
      joined-stage s under = (
        map ev ps,
        record {
          underway = under;
          left = stay-picked (IsAskedAgain plan news) 0 ev 0 log ps (rising-of 0 spots (λ i t at. (let n = noted.each i t at in let a = n.1.2 in let b = n.1.3 in omega (arith, a, b))) spots-rise) top ordered is class;
          calls = λ e m. of-plan stand root z start callers plan firsts p q out log j e m.0 (classify stand root z start callers plan firsts p q out log j m.0 e m.1);
          count = length-map ps ev ∙ length-map spots (λ (t : Spot). t.place);
          rest = let c = noted.count in let u = unplaced-ext olds news numbered.long kept in let w = ap unplaced (take-whole olds) in let l = laid.long in omega (arith, c, u, w, l, long);
          long = numbered.long ∙ (laid.long ∙ long);
          each = λ k pl b get at some. let o = news-spot k b at some in let f = spot-info o.0 o.1 o.2 in let m = made-info f.made f.by in
              let same : m.is.planned ≡ pl = some-one (sym m.is.is ∙ (ap (slice_get plan) (f.at ∙ o.3) ∙ get)) in let old = numbered.same k b at in
              let a : old.0 ≡ answered_as f.made = some-one (sym old.1 ∙ (ap (slice_get olds) (sym o.3) ∙ f.here)) in record {
                reply = m.is.reply;
                at = let n : b.place - 1 ≡ o.0 = (let v = o.4 in omega (arith, v)) in
                    subst (λ (y : ℕ × Planned). slice_get (map ev ps) y.0 ≡ Some (Ordered (call_for y.1), Replied m.is.reply)) (λ i. (sym n i, same i))
                    (get-map ev ps o.0 o.1.place (get-map (λ (t : Spot). t.place) spots o.0 o.1 o.2) ∙ ap Some (event o.0 o.1 o.2));
                told = subst (IsToldAs m.is.reply) (ap (λ (y : Answered). y.reply) (sym a) ∙ sym old.2) m.is.told;
                stalled = λ y. absurd (m.is.goes y.0 y.1);
              };
          apart = λ i k a b ia kb some same. let x = news-spot i a ia some in let y = news-spot k b kb (omega (arith, some, same)) in
              let n : x.0 ≡ y.0 = (let u = x.4 in let v = y.4 in omega (arith, u, v, same)) in let t : x.1 ≡ y.1 = some-one (sym x.2 ∙ (ap (slice_get spots) n ∙ y.2)) in sym x.3 ∙ (ap (λ (w : Spot). w.at) t ∙ y.3);
          rises = λ i k pi pk a b lt gi gk own ia kb some. let y = news-spot k b kb some in let f = spot-info y.0 y.1 y.2 in let m = made-info f.made f.by in
              let same : m.is.planned ≡ pk = some-one (sym m.is.is ∙ (ap (slice_get plan) (f.at ∙ y.3) ∙ gk)) in
              let mine : pi.thread ≡ m.i + 1 = own ∙ (ap (λ (w : Planned). w.thread) (sym same) ∙ m.is.own) in
              let w = m.has.whole i pi (let d = m.is.done in let e = f.at in let g = y.3 in omega (arith, d, e, g, lt)) gi mine in
              let by : IsMadeBy j.xs w.0 = (m.x, (m.i, m.here), w.1) in let q = made-spot w.0 by in
              let c = numbered.each q.1.0 q.0 (get-inside spots q.1.0 q.0 q.1.1) q.1.1 in
              let is : c.0 ≡ a = some-one (sym c.1 ∙ (ap (slice_get news) (q.2 ∙ w.2) ∙ ia)) in let place : a.place ≡ q.1.0 + 1 = ap (λ (v : Answered). v.place) (sym is) ∙ c.2 in
              let first = made-info w.0 by in let that : first.is.planned ≡ pi = some-one (sym first.is.is ∙ (ap (slice_get plan) w.2 ∙ gi)) in
              let owner : first.i + 1 ≡ m.i + 1 = sym first.is.own ∙ (ap (λ (v : Planned). v.thread) that ∙ mine) in
              let before = first-of w.0 f.made first m (omega (arith, owner)) (let e = f.at in let g = y.3 in let h = w.2 in omega (arith, e, g, h, lt)) in
              (omega (arith, place), (let r = earlier q.1.0 y.0 q.0 y.1 q.1.1 y.2 (let u = q.3 in let v = f.place in omega (arith, u, v, before)) in let v = y.4 in omega (arith, place, v, r)));
        },
      )
        where
          dummy : Entry
          dummy = job_entry start.counts (Charged (Wait 0), Worked job.Nothing (record { line = start.line; number = 0; vol = 0; block = 0; bytes = [] }))

          ev : ℕ → Ask × Said
          ev n = asked (slice_index_or log (n - 1) (job_entry start.counts (Charged (Wait 0), Worked job.Nothing (record { line = start.line; number = 0; vol = 0; block = 0; bytes = [] }))))

          ps : List ℕ
          ps = map (λ (t : Spot). t.place) spots

          is : (i : ℕ) (e : Entry) → slice_get log i ≡ Some e → ev (suc (0 + i)) ≡ asked e
          is i e at = let n : suc (0 + i) - 1 ≡ i = omega arith in ap (λ k. asked (slice_index_or log k dummy)) n ∙ ap asked (get_or_from_slice_get log i e dummy at)

          event : (i : ℕ) (t : Spot) (at : slice_get spots i ≡ Some t) → ev t.place ≡ (Ordered (call_for (made-info (spot-info i t at).made (spot-info i t at).by).is.planned), Replied (made-info (spot-info i t at).made (spot-info i t at).by).is.reply)
          event i t at = let f = spot-info i t at in let m = made-info f.made f.by in let n : suc (0 + m.n) ≡ t.place = (let a = m.place in let b = f.place in omega (arith, a, b)) in
              ap ev (sym n) ∙ (is m.n m.entry m.at ∙ (λ k. (m.asks k, m.says k)))

          top : (n : ℕ) → LiesAmong n ps → n ≤ 0 + length log
          top n m = let t = map-get (λ (t : Spot). t.place) spots m.0 n m.1 in let f = spot-info m.0 t.0 t.1 in let i = made-info f.made f.by in
              let a = get-inside log i.n i.entry i.at in let b = i.place in let c = f.place in let d = t.2 in omega (arith, a, b, c, d)

          ordered : (n : ℕ) → LiesAmong n ps → IsCallAsk (ev n).0
          ordered n m = let t = map-get (λ (t : Spot). t.place) spots m.0 n m.1 in subst (λ (y : Ask × Said). IsCallAsk y.0) (sym (event m.0 t.0 t.1) ∙ ap ev t.2) tt

          open-again : (m : ℕ) (call : Call) → IsOpen stand root z start callers plan firsts p q out log j 0 call → IsAskedAgain plan news m call
          open-again m call (k, pl, is, same, none) = let inside = get-inside plan k pl is in let l = numbered.long ∙ (laid.long ∙ long) in let b = get_there news k (omega (arith, inside, l)) in (
            k,
            pl,
            b.0,
            is,
            b.1,
            same,
            inl (⊎_elim (λ (e : 0 ≡ b.0.place). sym e) (λ (o : (0 < b.0.place) ⊎ (b.0.place < 0)). ⊎_elim (λ (up : 0 < b.0.place). absurd (let n = news-spot k b.0 b.1 up in let f = spot-info n.0 n.1 n.2 in none f.made f.by (f.at ∙ n.3)))
                (λ (low : b.0.place < 0). absurd (omega (arith, low))) o) (order 0 b.0.place)),
          )

          may-leave : (ask : Ask) (said : Said) → IsIdle stand root z start callers plan firsts p q out log j ask said → (m : ℕ) → IsLeftOut (IsAskedAgain plan news) m ask said
          may-leave (Charged i) said h m = tt
          may-leave (Ordered call) (Replied reply) h m = (h.0, open-again m call h.1)
          may-leave (Ordered call) (Worked reply into) h m = absurd h

          class : (i : ℕ) (e : Entry) → slice_get log i ≡ Some e → LiesAmong (suc (0 + i)) ps ⊎ MayLeave (IsAskedAgain plan news) e
          class i e at = ⊎_elim (λ (m : IsMadeAt stand root z start callers plan firsts p q out log j i e). let c = made-spot m.made m.by in let n : c.0.place ≡ suc (0 + i) = (let a = c.3 in let b = m.place in omega (arith, a, b)) in
              inl (c.1.0, get-map (λ (t : Spot). t.place) spots c.1.0 c.0 c.1.1 ∙ ap Some n))
              (λ (m : IsIdle stand root z start callers plan firsts p q out log j e.ask e.said × Rattle.vx_burst.specs.Finishing.AckWithin stand root out e.ask × Rattle.vx_burst.specs.Finishing.IsOfPlan plan e.ask). inr (may-leave e.ask e.said m.0)) (classify stand root z start callers plan firsts p q out log j i e at)

          kept : (k : ℕ) (a b : Answered) → slice_get olds k ≡ Some a → slice_get news k ≡ Some b → (a.place ≡ 0 → b.place ≡ 0) × (0 < a.place → 0 < b.place)
          kept k a b x y = (
            λ none. ⊎_elim (λ (e : 0 ≡ b.place). sym e) (λ (o : (0 < b.place) ⊎ (b.place < 0)). ⊎_elim (λ (up : 0 < b.place). absurd (let n = news-spot k b y up in let m = noted.each n.0 n.1 n.2 in
                let v : m.1.0 ≡ a = some-one (sym m.1.1 ∙ (ap (slice_get olds) n.3 ∙ x)) in let w : m.1.0.place ≡ a.place = ap (λ (y : Answered). y.place) v in let u = m.1.3 in omega (arith, w, u, none)))
                (λ (low : b.place < 0). absurd (omega (arith, low))) o) (order 0 b.place),
            λ some. let c = noted.cover k a (get-inside olds k a x) x some in let d = numbered.each c.1.0 c.0 (get-inside spots c.1.0 c.0 c.1.1) c.1.1 in
                let same : d.0 ≡ b = some-one (sym d.1 ∙ (ap (slice_get news) c.2 ∙ y)) in let e : d.0.place ≡ b.place = ap (λ (y : Answered). y.place) same in let f = d.2 in omega (arith, e, f),
          )

          first-of : (a b : Made) (s : MadeInfo a) (t : MadeInfo b) → s.i ≡ t.i → a.at < b.at → a.place < b.place
          first-of a b s t same lt = made-order a b s t same lt

          earlier : (i k : ℕ) (s t : Spot) → slice_get spots i ≡ Some s → slice_get spots k ≡ Some t → s.place < t.place → i < k
          earlier i k s t x y lt = ⊎_elim (λ (e : i ≡ k). absurd (let u : s ≡ t = some-one (sym x ∙ (ap (slice_get spots) e ∙ y)) in let v : s.place ≡ t.place = ap (λ (w : Spot). w.place) u in omega (arith, v, lt)))
              (λ (o : (i < k) ⊎ (k < i)). ⊎_elim (λ (w : i < k). w) (λ (w : k < i). absurd (let r = spots-rise k i t s w y x in omega (arith, r, lt))) o) (order i k)
