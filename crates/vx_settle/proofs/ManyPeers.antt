-- Several peers, one after the other, and a wait.
use Rattle.std.proofs.Common.{◌≡◌, ◌≢◌, ◌⊎◌, ℕ, zero, suc, ◌+◌, ◌<◌, ◌≤◌, true, false, List, [], ◌∷◌, ◌++◌, length, refl, ap, sym, ◌∙◌, subst, ⊎_elim, inl, inr, arith, Some, slice_get, slice_set}
use Rattle.vx_model.specs.declared.call.Update.{Update}
use Rattle.vx_model.specs.declared.no.No.{No}
use Rattle.vx_model.specs.declared.no.No.TheVariants as no
use Rattle.vx_turn.specs.declared.ask.Ask.TheVariants.{Charged}
use Rattle.vx_turn.specs.declared.ask.Said.{Said}
use Rattle.vx_turn.specs.declared.ask.Said.TheVariants.{Worked}
use Rattle.vx_turn.specs.declared.ask.Job.TheVariants.{Fetch, Acked, Wait}
use Rattle.vx_turn.specs.declared.ask.JobReply.{JobReply}
use Rattle.vx_turn.specs.declared.ask.JobReply.TheVariants as job
use Rattle.vx_turn.specs.declared.meaning.State.{State}
use Rattle.vx_turn.specs.Acting.{LiesAmong, EngineActs, CountRose, Caused, IsUnknown}
use Rattle.vx_turn.proofs.Histories.{among-split}
use Rattle.vx_settle.specs.declared.peer.Stand.{Stand}
use Rattle.vx_settle.specs.declared.bringing.Ended.{Ended}
use Rattle.vx_settle.specs.declared.bringing.Ended.TheVariants as ended
use Rattle.vx_settle.specs.Peers.{PeerGoes}
use Rattle.vx_settle.specs.Bringing.{Events, HasLink, HaveLinks, EngineMoves, NoLimit, HasAcked, Drains, BringsPeer, IsBrought, BringsAll, WaitEndsBy, Once}
use Rattle.vx_settle.proofs.Bringings.{among-left, among-right, moves-none, moves-then, job-moves, goes-none, walks-none, walks-then, drains-last, calm-first, unrefused}

pub some-one : {A : Type 0} {x y : A} → Some x ≡ Some y → x ≡ y
some-one e = cc e

pub get-set : {A : Type 0} (xs : List A) (k : ℕ) (x : A) (i : ℕ) (y : A) → slice_get (slice_set xs k x) i ≡ Some y → ((i ≡ k) × (x ≡ y)) ⊎ ((i ≢ k) × (slice_get xs i ≡ Some y))
get-set [] k x i y e = absurd (cc e)
get-set (z ∷ zs) zero x zero y e = inl (refl, some-one e)
get-set (z ∷ zs) zero x (suc i) y e = inr (λ b. absurd (omega (arith, b)), e)
get-set (z ∷ zs) (suc k) x zero y e = inr (λ b. absurd (omega (arith, b)), e)
get-set (z ∷ zs) (suc k) x (suc i) y e = ⊎_elim (λ (a : (i ≡ k) × (x ≡ y)). inl (ap suc a.0, a.1)) (λ (b : (i ≢ k) × (slice_get zs i ≡ Some y)). inr (λ j. b.0 (omega (arith, j)), b.1)) (get-set zs k x i y e)

pub set-here : {A : Type 0} (xs : List A) (k : ℕ) (x : A) → k < length xs → slice_get (slice_set xs k x) k ≡ Some x
set-here [] k x less = absurd (omega (arith, less))
set-here (z ∷ zs) zero x less = refl
set-here (z ∷ zs) (suc k) x less = set-here zs k x (omega (arith, less))

pub set-else : {A : Type 0} (xs : List A) (k : ℕ) (x : A) (i : ℕ) (y : A) → i ≢ k → slice_get xs i ≡ Some y → slice_get (slice_set xs k x) i ≡ Some y
set-else [] k x i y far e = e
set-else (z ∷ zs) zero x zero y far e = absurd (far refl)
set-else (z ∷ zs) zero x (suc i) y far e = e
set-else (z ∷ zs) (suc k) x zero y far e = e
set-else (z ∷ zs) (suc k) x (suc i) y far e = set-else zs k x i y (λ j. far (ap suc j)) e

pub set-long : {A : Type 0} (xs : List A) (k : ℕ) (x : A) → length (slice_set xs k x) ≡ length xs
set-long [] k x = refl
set-long (z ∷ zs) zero x = refl
set-long (z ∷ zs) (suc k) x = ap suc (set-long zs k x)

pub get-inside : {A : Type 0} (xs : List A) (i : ℕ) (y : A) → slice_get xs i ≡ Some y → i < length xs
get-inside [] i y e = absurd (cc e)
get-inside (z ∷ zs) zero y e = omega arith
get-inside (z ∷ zs) (suc i) y e = let h = get-inside zs i y e in omega (arith, h)

-- what was acknowledged in a part was in the whole
acked-left : (link head : ℕ) (xs ys : Events) → HasAcked link head xs → HasAcked link head (xs ++ ys)
acked-left link head xs ys a = (a.0, a.1, a.2, a.3, a.4, a.5, among-left (Charged (Acked link a.0 a.1), Worked (job.Done a.2) a.3) xs ys a.6)

acked-right : (link head : ℕ) (xs ys : Events) → HasAcked link head ys → HasAcked link head (xs ++ ys)
acked-right link head xs ys a = (a.0, a.1, a.2, a.3, a.4, a.5, among-right (Charged (Acked link a.0 a.1), Worked (job.Done a.2) a.3) xs ys a.6)

-- what holds of a part of the run holds of the whole
wider : (s t u : State) (p q : Stand) (a : EngineMoves s t) (b : EngineMoves t u) → (Drains s p t q a.more → HasAcked p.link s.head a.more) → Drains s p u q (a.more ++ b.more) → HasAcked p.link s.head (a.more ++ b.more)
wider s t u p q a b f d = acked-left p.link s.head a.more b.more (f (record {
  runs = d.runs;
  whole = calm-first s.counts.faults t.counts.faults u.counts.faults b.rises.0 d.whole;
  limit = λ j cause into m. d.limit j cause into (among-left (Charged j, Worked (job.Refused cause) into) a.more b.more m);
  line = d.line;
  sound = d.sound;
  within = d.within;
  there = λ low into m. d.there low into (among-left (Charged (Fetch (q.net + 1)), Worked (job.Gone low) into) a.more b.more m);
}))

-- a peer that was brought later
later : (s t u : State) (p q : Stand) (a : EngineMoves s t) (b : EngineMoves t u) → PeerGoes p q → (Drains t p u q b.more → HasAcked p.link t.head b.more) → Drains s p u q (a.more ++ b.more) → HasAcked p.link s.head (a.more ++ b.more)
later s t u p q a b goes f d = acked-right p.link s.head a.more b.more (subst (λ h. HasAcked p.link h b.more) a.head (f (drains-last s t u p p q a b (goes-none p) goes d)))

abbrev pub AckIs : {P : Type 0} → (P → Stand) → List P → Events → Type 0
AckIs {P} stand qs es = (link net stored : ℕ) (said : Said) → LiesAmong (Charged (Acked link net stored), said) es → (i : ℕ) × (q : P) × (slice_get qs i ≡ Some q) × (link ≡ (stand q).link) × (net ≤ (stand q).net) × (stored ≤ (stand q).stored)

module _ {P : Type 0} (stand : P → Stand) (root : P → P) where
  -- the first k were brought, and the others are as they were
  pub record Brought (s : State) (ps : List P) (k : ℕ) (t : State) (qs : List P) : Type 0 where
    pub moves : EngineMoves s t
    pub long : length qs ≡ length ps
    pub each : (i : ℕ) (p q : P) → slice_get ps i ≡ Some p → slice_get qs i ≡ Some q → i < k → IsBrought stand root s p t q moves.more
    pub rest : (i : ℕ) (q : P) → slice_get qs i ≡ Some q → k ≤ i → slice_get ps i ≡ Some q
    pub fits : AckIs stand qs moves.more

  pub brought-first : (s : State) (ps : List P) → Brought s ps 0 s ps
  brought-first s ps = record { moves = moves-none s; long = refl; each = λ i p q x y z. absurd (omega (arith, z)); rest = λ i q x y. x; fits = λ link net stored said m. absurd (cc m.1) }

  -- an acknowledgement stays within a peer that went on
  pub fits-set : (qs : List P) (k : ℕ) (q r : P) (es : Events) → slice_get qs k ≡ Some q → PeerGoes (stand q) (stand r) → AckIs stand qs es → AckIs stand (slice_set qs k r) es
  fits-set qs k q r es here goes f link net stored said m = let o = f link net stored said m in at o.0 o.1 o.2 o.3 o.4 o.5
    where
      at : (i : ℕ) (x : P) → slice_get qs i ≡ Some x → link ≡ (stand x).link → net ≤ (stand x).net → stored ≤ (stand x).stored
          → (i : ℕ) × (q : P) × (slice_get (slice_set qs k r) i ≡ Some q) × (link ≡ (stand q).link) × (net ≤ (stand q).net) × (stored ≤ (stand q).stored)
      at i x e l n s = ⊎_elim
          (λ (same : i ≡ k). let is : x ≡ q = some-one (sym e ∙ (ap (slice_get qs) same ∙ here)) in (
            k,
            r,
            set-here qs k r (get-inside qs k q here),
            l ∙ (ap (λ y. (stand y).link) is ∙ sym goes.link),
            (let y = ap (λ y. (stand y).net) is in let z = goes.net in omega (arith, n, y, z)),
            (let y = ap (λ y. (stand y).stored) is in let z = goes.stored in omega (arith, s, y, z)),
          ))
          (λ (far : i ≢ k). (i, x, set-else qs k r i x far e, l, n, s)) (apart i k)
        where
          apart : (i k : ℕ) → (i ≡ k) ⊎ (i ≢ k)
          apart zero zero = inl refl
          apart zero (suc k) = inr (λ e. absurd (omega (arith, e)))
          apart (suc i) zero = inr (λ e. absurd (omega (arith, e)))
          apart (suc i) (suc k) = ⊎_elim (λ (e : i ≡ k). inl (ap suc e)) (λ (n : i ≢ k). inr (λ e. n (omega (arith, e)))) (apart i k)

  pub brought-step : (s t u : State) (ps qs : List P) (k : ℕ) (q r : P) → slice_get qs k ≡ Some q → Brought s ps k t qs → BringsPeer t (stand q) u (stand r) → root r ≡ root q → Brought s ps (k + 1) u (slice_set qs k r)
  brought-step s t u ps qs k q r here a b rooted = record {
    moves = moves-then s t u a.moves b.moves;
    long = set-long qs k r ∙ a.long;
    each = λ i p x at now below. ⊎_elim (λ (e : (i ≡ k) × (r ≡ x)). own i p x at e)
        (λ (e : (i ≢ k) × (slice_get qs i ≡ Some x)). let o = a.each i p x at e.1 (not-k i e.0 below) in record { walks = o.walks; acked = wider s t u (stand p) (stand x) a.moves b.moves o.acked; rooted = o.rooted }) (get-set qs k r i x now);
    rest = λ i x now above. ⊎_elim (λ (e : (i ≡ k) × (r ≡ x)). absurd (let z = e.0 in omega (arith, z, above))) (λ (e : (i ≢ k) × (slice_get qs i ≡ Some x)). a.rest i x e.1 (omega (arith, above))) (get-set qs k r i x now);
    fits = λ link net stored said m. ⊎_elim (λ (x : LiesAmong (Charged (Acked link net stored), said) a.moves.more). fits-set qs k q r a.moves.more here b.walks.goes a.fits link net stored said x)
        (λ (x : LiesAmong (Charged (Acked link net stored), said) b.moves.more). let f = b.fits link net stored said x in (k, r, set-here qs k r (get-inside qs k q here), f.0, f.1, f.2)) (among-split (Charged (Acked link net stored), said) a.moves.more b.moves.more m);
  }
    where
      not-k : (i : ℕ) → i ≢ k → i < k + 1 → i < k
      not-k i n l = omega (arith, n, l)

      own : (i : ℕ) (p x : P) → slice_get ps i ≡ Some p → (i ≡ k) × (r ≡ x) → IsBrought stand root s p u x (a.moves.more ++ b.moves.more)
      own i p x at e = let same : q ≡ p = some-one (sym (a.rest k q here (omega arith)) ∙ (ap (slice_get ps) (sym e.0) ∙ at)) in
          subst (λ (z : P × P). IsBrought stand root s z.0 u z.1 (a.moves.more ++ b.moves.more)) (λ i. (same i, e.1 i))
          (record { walks = walks-then s.kept t.kept (stand q) (stand q) (stand r) a.moves.keeps (walks-none s.kept (stand q)) b.walks; acked = later s t u (stand q) (stand r) a.moves b.moves b.walks.goes b.acked; rooted = rooted })

  pub brought-all : (s t : State) (ps qs : List P) (k : ℕ) → length qs ≤ k → Brought s ps k t qs → BringsAll stand root s ps t qs
  brought-all s t ps qs k all a = record { moves = a.moves; long = a.long; each = λ i p q x y. a.each i p q x y (let n = get-inside qs i q y in omega (arith, n, all)); fits = a.fits }

  -- the next peer's link is one of the engine's
  pub brought-link : (s t : State) (ps qs : List P) (k : ℕ) (q : P) → slice_get qs k ≡ Some q → Brought s ps k t qs → HaveLinks stand s ps → HasLink t (stand q)
  brought-link s t ps qs k q here a links = let l = links k q (a.rest k q here (omega arith)) in let m = a.moves.links in omega (arith, l, m)

pub once-done : (s t : State) (n m : ℕ) (reply : JobReply) (into : Update) → reply ≡ job.Done m → EngineActs s (Charged (Wait n)) (Worked reply into) t → Once s n ended.Done t
once-done s t n m reply into is a = let b : EngineActs s (Charged (Wait n)) (Worked (job.Done m) into) t = subst (λ r. EngineActs s (Charged (Wait n)) (Worked r into) t) is a in record {
  reply = Worked (job.Done m) into;
  moves = job-moves s (Wait n) (job.Done m) into t b;
  one = refl;
  done = λ e. (m, into, refl, b.tells);
  unconfirmed = λ e. absurd (cc e);
  no = λ e. absurd (cc e);
}

-- a wait that was refused with 15 was refused so for its number
once-refused : (s t : State) (n m : ℕ) (reply : JobReply) (into : Update) → reply ≡ job.Refused (no.Unconfirmed m) → EngineActs s (Charged (Wait n)) (Worked reply into) t → Once s n ended.Unconfirmed t
once-refused s t n m reply into is a = let b : EngineActs s (Charged (Wait n)) (Worked (job.Refused (no.Unconfirmed m)) into) t = subst (λ r. EngineActs s (Charged (Wait n)) (Worked r into) t) is a in record {
  reply = Worked (job.Refused (no.Unconfirmed m)) into;
  moves = job-moves s (Wait n) (job.Refused (no.Unconfirmed m)) into t b;
  one = refl;
  done = λ e. absurd (cc e);
  unconfirmed = λ e. (into, ap (λ k. Worked (job.Refused (no.Unconfirmed k)) into) (same b.tells));
  no = λ e. absurd (cc e);
}
  where
    same : Caused s (no.Unconfirmed m) t ⊎ ((no.Unconfirmed m ≡ no.Unconfirmed n) ⊎ (IsUnknown (no.Unconfirmed m) × (s.head < n))) → m ≡ n
    same w = ⊎_elim (λ (c : Caused s (no.Unconfirmed m) t). absurd (⊎_elim (λ (x : ⊥ × CountRose s.counts.faults t.counts.faults). absurd x.0) (λ (x : (⊥ × (s.halted ≡ true)) ⊎ ⊥). ⊎_elim (λ (y : ⊥ × (s.halted ≡ true)). absurd y.0) (λ (y : ⊥). absurd y) x) c))
        (λ (o : (no.Unconfirmed m ≡ no.Unconfirmed n) ⊎ (⊥ × (s.head < n))). ⊎_elim (λ (x : no.Unconfirmed m ≡ no.Unconfirmed n). cc x) (λ (x : ⊥ × (s.head < n)). absurd x.0) o) w

once-no : (s t : State) (n : ℕ) (reply : JobReply) (into : Update) → ((m : ℕ) → reply ≡ job.Done m → ⊥) → ((m : ℕ) → reply ≡ job.Refused (no.Unconfirmed m) → ⊥) → EngineActs s (Charged (Wait n)) (Worked reply into) t → Once s n ended.No t
once-no s t n reply into not-done not-15 a = record {
  reply = Worked reply into;
  moves = job-moves s (Wait n) reply into t a;
  one = refl;
  done = λ e. absurd (cc e);
  unconfirmed = λ e. absurd (cc e);
  no = λ e runs whole limit top. (into, ap (λ r. Worked r into) (nothing reply not-done not-15 a runs whole limit top));
}
  where
    nothing : (reply : JobReply) → ((m : ℕ) → reply ≡ job.Done m → ⊥) → ((m : ℕ) → reply ≡ job.Refused (no.Unconfirmed m) → ⊥) → EngineActs s (Charged (Wait n)) (Worked reply into) t → s.halted ≡ false → (CountRose s.counts.faults t.counts.faults → ⊥)
        → NoLimit ((Charged (Wait n), Worked reply into) ∷ []) → n ≤ s.head → reply ≡ job.Nothing
    nothing (job.Done m) d f a runs whole limit top = absurd (d m refl)
    nothing job.Nothing d f a runs whole limit top = refl
    nothing (job.Gone low) d f a runs whole limit top = absurd a.tells
    nothing (job.Refused cause) d f a runs whole limit top = ⊎_elim (λ (c : Caused s cause t). absurd (unrefused s t cause c runs whole (limit (Wait n) cause into (0, refl))))
        (λ (o : (cause ≡ no.Unconfirmed n) ⊎ (IsUnknown cause × (s.head < n))). ⊎_elim (λ (x : cause ≡ no.Unconfirmed n). absurd (f n (ap job.Refused x))) (λ (x : IsUnknown cause × (s.head < n)). absurd (let y = x.1 in omega (arith, y, top))) o) a.tells

pub once-nothing : (s t : State) (n : ℕ) (reply : JobReply) (into : Update) → reply ≡ job.Nothing → EngineActs s (Charged (Wait n)) (Worked reply into) t → Once s n ended.No t
once-nothing s t n reply into is a = once-no s t n reply into (λ m e. absurd (cc (e, is))) (λ m e. absurd (cc (e, is))) a

pub once-gone : (s t : State) (n low : ℕ) (reply : JobReply) (into : Update) → reply ≡ job.Gone low → EngineActs s (Charged (Wait n)) (Worked reply into) t → Once s n ended.No t
once-gone s t n low reply into is a = once-no s t n reply into (λ m e. absurd (cc (e, is))) (λ m e. absurd (cc (e, is))) a

pub once-ended : (s t : State) (n : ℕ) (cause : No) (r : Ended) (reply : JobReply) (into : Update) → reply ≡ job.Refused cause → WaitEndsBy cause r → EngineActs s (Charged (Wait n)) (Worked reply into) t → Once s n r t
once-ended s t n cause r reply into is by a = ⊎_elim
    (λ (x : (r ≡ ended.Unconfirmed) × (m : ℕ) × (cause ≡ no.Unconfirmed m)). subst (λ e. Once s n e t) (sym x.0) (once-refused s t n x.1 reply into (is ∙ ap job.Refused x.2) a))
    (λ (x : (r ≡ ended.No) × ((m : ℕ) → cause ≡ no.Unconfirmed m → ⊥)). subst (λ e. Once s n e t) (sym x.0)
    (once-no s t n reply into (λ m e. absurd (cc (e, is))) (λ m e. x.1 m (let h : job.Refused cause ≡ job.Refused (no.Unconfirmed m) = sym is ∙ e in cc h)) a)) by
