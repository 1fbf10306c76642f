-- What follows from the clauses of an engine and a peer.
use Rattle.std.proofs.Common.{◌≡◌, ◌⊎◌, ℕ, zero, suc, ◌+◌, ◌<◌, ◌≤◌, true, false, List, [], ◌∷◌, ◌++◌, length, length-append, refl, ap, sym, ◌∙◌, subst, ⊎_elim, inl, inr, arith, append_assoc, Some, None}
use Rattle.std.proofs.lemmas.Bool.{false_from_ne_true}
use Rattle.std.proofs.lemmas.List.{append-nil}
use Rattle.vx_model.specs.declared.call.Update.{Update}
use Rattle.vx_model.specs.declared.history.Line.{Line}
use Rattle.vx_model.specs.declared.no.No.{No}
use Rattle.vx_model.specs.declared.no.No.TheVariants as no
use Rattle.vx_model.specs.declared.no.Counted.TheVariants as counted
use Rattle.vx_turn.specs.declared.ask.Ask.{Ask}
use Rattle.vx_turn.specs.declared.ask.Ask.TheVariants.{Charged}
use Rattle.vx_turn.specs.declared.ask.Said.{Said}
use Rattle.vx_turn.specs.declared.ask.Said.TheVariants.{Worked}
use Rattle.vx_turn.specs.declared.ask.Job.{Job}
use Rattle.vx_turn.specs.declared.ask.Job.TheVariants.{Fetch, Acked}
use Rattle.vx_turn.specs.declared.ask.JobReply.{JobReply}
use Rattle.vx_turn.specs.declared.ask.JobReply.TheVariants as job
use Rattle.vx_turn.specs.declared.meaning.State.{State}
use Rattle.vx_turn.specs.Acting.{LiesAmong, EngineActs, CountRose, Caused, FetchEnds, IsFault, IsHalt, IsBound, IsDamage, IsNumberLimit}
use Rattle.vx_turn.proofs.Histories.{rises-trans, rose-wider, among-split, nets-long}
use Rattle.vx_settle.specs.declared.peer.Ack.{Ack}
use Rattle.vx_settle.specs.declared.peer.Stand.{Stand}
use Rattle.vx_settle.specs.Peers.{AreNumbered, LiesIn, PeerGoes, Hands, Finishes, GetsNext}
use Rattle.vx_settle.specs.Bringing.{Events, IsJob, EngineMoves, Walks, NoLimit, HasAcked, NoAck, Drains, Steps, Climbs, BringsPeer}

pub among-left : {A : Type 0} (x : A) (xs ys : List A) → LiesAmong x xs → LiesAmong x (xs ++ ys)
among-left x [] ys a = absurd (cc a.1)
among-left x (z ∷ zs) ys (zero, e) = (0, e)
among-left x (z ∷ zs) ys (suc i, e) = let r = among-left x zs ys (i, e) in (suc r.0, r.1)

pub among-right : {A : Type 0} (x : A) (xs ys : List A) → LiesAmong x ys → LiesAmong x (xs ++ ys)
among-right x [] ys a = a
among-right x (z ∷ zs) ys a = let r = among-right x zs ys a in (suc r.0, r.1)

pub among-one : {A : Type 0} (x y : A) → LiesAmong x (y ∷ []) → y ≡ x
among-one x y (zero, e) = cc e
among-one x y (suc i, e) = absurd (cc e)

pub job-is : (j : Job) (r : JobReply) (into : Update) (ask : Ask) (other : Said) → LiesAmong {A = Ask × Said} (ask, other) ((Charged j, Worked r into) ∷ []) → IsJob ask other
job-is j r into ask other m = let e : (Charged j, Worked r into) ≡ (ask, other) = among-one {A = Ask × Said} (ask, other) (Charged j, Worked r into) m in subst (λ (x : Ask × Said). IsJob x.0 x.1) e tt

abbrev pub job-moves : (s : State) (j : Job) (r : JobReply) (into : Update) (t : State) → EngineActs s (Charged j) (Worked r into) t → EngineMoves s t
job-moves s j r into t a = record {
  more = (Charged j, Worked r into) ∷ [];
  trail = a.trail_is;
  jobs = job-is j r into;
  rises = a.rises;
  halts = a.halts;
  line = a.line_is;
  volumes = a.volumes_is;
  ring = a.ring_is;
  head = a.head_is;
  links = nets-long (Charged j) s.nets t.nets a.nets;
  keeps = λ u k. ⊎_elim (λ (x : LiesAmong u s.kept). x) (λ (x : ⊥). absurd x) (a.keeps u k);
}

abbrev pub moves-none : (s : State) → EngineMoves s s
moves-none s = record { more = []; trail = sym (append-nil s.trail); jobs = λ ask said m. absurd (cc m.1); rises = (omega arith, omega arith); halts = λ h. inl h; line = refl; volumes = refl; ring = refl; head = refl; links = refl; keeps = λ u k. k }

pub halts-then : (s t u : State) → (t.halted ≡ true → (s.halted ≡ true) ⊎ CountRose s.counts.faults t.counts.faults) → (u.halted ≡ true → (t.halted ≡ true) ⊎ CountRose t.counts.faults u.counts.faults)
    → s.counts.faults ≤ t.counts.faults → t.counts.faults ≤ u.counts.faults → u.halted ≡ true → (s.halted ≡ true) ⊎ CountRose s.counts.faults u.counts.faults
halts-then s t u p q low high h = ⊎_elim (λ (x : t.halted ≡ true). ⊎_elim (λ (y : s.halted ≡ true). inl y)
    (λ (y : CountRose s.counts.faults t.counts.faults). inr (rose-wider s.counts.faults s.counts.faults t.counts.faults u.counts.faults (omega arith) high y)) (p x))
    (λ (x : CountRose t.counts.faults u.counts.faults). inr (rose-wider s.counts.faults t.counts.faults u.counts.faults u.counts.faults low (omega arith) x)) (q h)

abbrev pub moves-then : (s t u : State) → EngineMoves s t → EngineMoves t u → EngineMoves s u
moves-then s t u a b = record {
  more = a.more ++ b.more;
  trail = b.trail ∙ (ap (λ l. l ++ b.more) a.trail ∙ append_assoc s.trail a.more b.more);
  jobs = λ ask said m. ⊎_elim (λ (x : LiesAmong (ask, said) a.more). a.jobs ask said x) (λ (x : LiesAmong (ask, said) b.more). b.jobs ask said x) (among-split (ask, said) a.more b.more m);
  rises = rises-trans s.counts t.counts u.counts a.rises b.rises;
  halts = halts-then s t u a.halts b.halts a.rises.0 b.rises.0;
  line = b.line ∙ a.line;
  volumes = b.volumes ∙ a.volumes;
  ring = b.ring ∙ a.ring;
  head = b.head ∙ a.head;
  links = b.links ∙ a.links;
  keeps = λ v k. a.keeps v (b.keeps v k);
}

pub goes-none : (p : Stand) → PeerGoes p p
goes-none p = record { link = refl; line = refl; sizes = refl; faults = omega arith; net = omega arith; stored = omega arith }

pub goes-then : (p q r : Stand) → PeerGoes p q → PeerGoes q r → PeerGoes p r
goes-then p q r a b = record { link = b.link ∙ a.link; line = b.line ∙ a.line; sizes = b.sizes ∙ a.sizes; faults = omega (arith, a.faults, b.faults); net = omega (arith, a.net, b.net); stored = omega (arith, a.stored, b.stored) }

-- ---- which updates a peer took

pub took-same : (p q : Stand) → q.net ≡ p.net → q.handed ≡ p.handed → GetsNext p [] q
took-same p q net handed = record { handed = handed ∙ sym (append-nil p.handed); next = tt; net = omega (arith, net) }

numbered-then : (l : Line) (n k : ℕ) (xs ys : List Update) → k ≡ n + length xs → AreNumbered l n xs → AreNumbered l k ys → AreNumbered l n (xs ++ ys)
numbered-then l n k [] ys is a b = subst (λ m. AreNumbered l m ys) (let same : k ≡ n = omega (arith, is) in same) b
numbered-then l n k (x ∷ xs) ys is a b = (a.0, a.1, numbered-then l (n + 1) k xs ys (omega (arith, is)) a.2 b)

pub took-then : (p q r : Stand) (xs ys : List Update) → PeerGoes p q → GetsNext p xs q → GetsNext q ys r → GetsNext p (xs ++ ys) r
took-then p q r xs ys g a b = record {
  handed = b.handed ∙ (ap (λ l. l ++ ys) a.handed ∙ append_assoc p.handed xs ys);
  next = numbered-then p.line p.net q.net xs ys a.net a.next (subst (λ l. AreNumbered l q.net ys) g.line b.next);
  net = let long = length-append xs ys in omega (arith, a.net, b.net, long);
}

pub walks-none : (kept : List Update) (p : Stand) → Walks kept p p
walks-none kept p = record { goes = goes-none p; got = []; took = took-same p p refl refl; from = λ u a. absurd (cc a.1) }

pub walks-then : (kept less : List Update) (p q r : Stand) → ((u : Update) → LiesAmong u less → LiesAmong u kept) → Walks kept p q → Walks less q r → Walks kept p r
walks-then kept less p q r sub a b = record {
  goes = goes-then p q r a.goes b.goes;
  got = a.got ++ b.got;
  took = took-then p q r a.got b.got a.goes a.took b.took;
  from = λ u m. ⊎_elim (λ (x : LiesAmong u a.got). a.from u x) (λ (x : LiesAmong u b.got). sub u (b.from u x)) (among-split u a.got b.got m);
}

pub hand-walks : (kept : List Update) (p q : Stand) (u : Update) (ack : Ack) → LiesAmong u kept → Hands p u ack q → Walks kept p q
hand-walks kept p q u ack m h = ⊎_elim
    (λ (same : (q.net ≡ p.net) × (q.handed ≡ p.handed)). record { goes = h.goes; got = []; took = took-same p q same.0 same.1; from = λ v a. absurd (cc a.1) })
    (λ (more : GetsNext p (u ∷ []) q). record { goes = h.goes; got = u ∷ []; took = more; from = λ v a. subst (λ x. LiesAmong x kept) (among-one v u a) m })
    h.handed

pub finish-walks : (kept : List Update) (p q : Stand) (ack : Ack) → Finishes p ack q → Walks kept p q
finish-walks kept p q ack f = record { goes = f.goes; got = []; took = took-same p q f.received f.handed; from = λ v a. absurd (cc a.1) }

full-bound : (cause : No) → IsNumberLimit cause → IsBound cause
full-bound (no.Limit counted.Number most) f = tt
full-bound other f = absurd f

damage-bound : (cause : No) → IsDamage cause → IsBound cause
damage-bound (no.Damaged unit block stored computed) f = tt
damage-bound other f = absurd f

pub unrefused : (s t : State) (cause : No) → Caused s cause t → s.halted ≡ false → (CountRose s.counts.faults t.counts.faults → ⊥) → (IsBound cause → ⊥) → ⊥
unrefused s t cause c runs whole limit = ⊎_elim (λ (a : IsFault cause × CountRose s.counts.faults t.counts.faults). whole a.1)
    (λ (b : (IsHalt cause × (s.halted ≡ true)) ⊎ IsNumberLimit cause). ⊎_elim (λ (h : IsHalt cause × (s.halted ≡ true)). absurd (cc (h.1, runs))) (λ (d : IsNumberLimit cause). limit (full-bound cause d)) b) c

-- a fetch
pub unrefused-fetch : (s t : State) (cause : No) → FetchEnds s cause t → s.halted ≡ false → (CountRose s.counts.faults t.counts.faults → ⊥) → (IsBound cause → ⊥) → ⊥
unrefused-fetch s t cause c runs whole limit = ⊎_elim (λ (a : Caused s cause t). unrefused s t cause a runs whole limit) (λ (d : IsDamage cause). limit (damage-bound cause d)) c

-- the first part of a run without a rise has none, and neither has the last
pub calm-first : (a b c : ℕ) → b ≤ c → (CountRose a c → ⊥) → CountRose a b → ⊥
calm-first a b c le calm r = calm (rose-wider a a b c (omega arith) le r)

pub calm-last : (a b c : ℕ) → a ≤ b → (CountRose a c → ⊥) → CountRose b c → ⊥
calm-last a b c le calm r = calm (rose-wider a b c c le (omega arith) r)

pub still-runs : (s t u : State) → EngineMoves s t → s.halted ≡ false → t.counts.faults ≤ u.counts.faults → (CountRose s.counts.faults u.counts.faults → ⊥) → t.halted ≡ false
still-runs s t u a runs le calm = false_from_ne_true t.halted (λ h. ⊎_elim (λ (z : s.halted ≡ true). absurd (cc (z, runs))) (λ (z : CountRose s.counts.faults t.counts.faults). calm-first s.counts.faults t.counts.faults u.counts.faults le calm z) (a.halts h))

-- the last part of a run drains where the run does
pub drains-last : (s t u : State) (p q r : Stand) (a : EngineMoves s t) (b : EngineMoves t u) → PeerGoes p q → PeerGoes q r → Drains s p u r (a.more ++ b.more) → Drains t q u r b.more
drains-last s t u p q r a b x y d = record {
  runs = still-runs s t u a d.runs b.rises.0 d.whole;
  whole = calm-last s.counts.faults t.counts.faults u.counts.faults a.rises.0 d.whole;
  limit = λ j cause into m. d.limit j cause into (among-right (Charged j, Worked (job.Refused cause) into) a.more b.more m);
  line = x.line ∙ (d.line ∙ sym a.line);
  sound = calm-last p.faults q.faults r.faults x.faults d.sound;
  within = λ v m. subst (λ l. LiesIn l v) (sym x.sizes) (d.within v (a.keeps v m));
  there = λ low into m. d.there low into (among-right (Charged (Fetch (r.net + 1)), Worked (job.Gone low) into) a.more b.more m);
}

-- one step
fetch-quiet : (n : ℕ) (said : Said) → NoAck ((Charged (Fetch n), said) ∷ [])
fetch-quiet n said link net stored other m = let e : (Charged (Fetch n), said) ≡ (Charged (Acked link net stored), other) = among-one (Charged (Acked link net stored), other) (Charged (Fetch n), said) m in
    let k : Charged (Fetch n) ≡ Charged (Acked link net stored) = ap (λ (x : Ask × Said). x.0) e in absurd (cc k)

quiet-both : (xs ys : Events) → NoAck xs → NoAck ys → NoAck (xs ++ ys)
quiet-both xs ys a b link net stored said m = ⊎_elim (λ (x : LiesAmong (Charged (Acked link net stored), said) xs). a link net stored said x) (λ (x : LiesAmong (Charged (Acked link net stored), said) ys). b link net stored said x) (among-split (Charged (Acked link net stored), said) xs ys m)

ack-one : (link net stored : ℕ) (said : Said) (l n m : ℕ) (other : Said) → LiesAmong {A = Ask × Said} (Charged (Acked l n m), other) ((Charged (Acked link net stored), said) ∷ []) → (l ≡ link) × (n ≡ net) × (m ≡ stored)
ack-one link net stored said l n m other at = let e : (Charged (Acked link net stored), said) ≡ (Charged (Acked l n m), other) = among-one (Charged (Acked l n m), other) (Charged (Acked link net stored), said) at in
    let k : Charged (Acked link net stored) ≡ Charged (Acked l n m) = ap (λ (x : Ask × Said). x.0) e in (cc k, cc k, cc k)

pub step-some : (s t : State) (p q : Stand) (net : ℕ) (reply : JobReply) (into : Update) (ack : Ack) (m : ℕ) → net ≡ p.net → reply ≡ job.Done m → EngineActs s (Charged (Fetch (net + 1))) (Worked reply into) t
    → Hands p into ack q → net < ack.net → Steps s p (Some ack.net) t q
step-some s t p q net reply into ack m at is a h more = let b : EngineActs s (Charged (Fetch (net + 1))) (Worked (job.Done m) into) t = subst (λ r. EngineActs s (Charged (Fetch (net + 1))) (Worked r into) t) is a in record {
  moves = job-moves s (Fetch (net + 1)) reply into t a;
  walks = hand-walks s.kept p q into ack b.tells.3 h;
  some = (h.net, omega (arith, more, at));
  none = tt;
  quiet = fetch-quiet (net + 1) (Worked reply into);
}

pub step-stuck : (s t : State) (p q : Stand) (net : ℕ) (reply : JobReply) (into : Update) (ack : Ack) (m : ℕ) → net ≡ p.net → reply ≡ job.Done m → EngineActs s (Charged (Fetch (net + 1))) (Worked reply into) t
    → Hands p into ack q → ack.net ≤ net → Steps s p None t q
step-stuck s t p q net reply into ack m at is a h less = let b : EngineActs s (Charged (Fetch (net + 1))) (Worked (job.Done m) into) t = subst (λ r. EngineActs s (Charged (Fetch (net + 1))) (Worked r into) t) is a in record {
  moves = job-moves s (Fetch (net + 1)) reply into t a;
  walks = hand-walks s.kept p q into ack b.tells.3 h;
  some = tt;
  none = λ d. let n : q.net ≡ p.net + 1 = h.next d.sound (b.tells.2 ∙ sym d.line) (b.tells.1 ∙ ap (λ n. n + 1) at) (d.within into b.tells.3) in let k = h.net in absurd (omega (arith, n, k, less, at));
  quiet = fetch-quiet (net + 1) (Worked reply into);
}

pub step-end : (s t : State) (p : Stand) (net head : ℕ) (reply : JobReply) (into : Update) → net ≡ p.net → head ≡ s.head → net < head → ((m : ℕ) → reply ≡ job.Done m → ⊥) → EngineActs s (Charged (Fetch (net + 1))) (Worked reply into) t
    → Steps s p None t p
step-end s t p net head reply into at top below not a = record {
  moves = job-moves s (Fetch (net + 1)) reply into t a;
  walks = walks-none s.kept p;
  some = tt;
  none = ends reply not a;
  quiet = fetch-quiet (net + 1) (Worked reply into);
}
  where
    ends : (reply : JobReply) → ((m : ℕ) → reply ≡ job.Done m → ⊥) → EngineActs s (Charged (Fetch (net + 1))) (Worked reply into) t → Drains s p t p ((Charged (Fetch (net + 1)), Worked reply into) ∷ []) → ⊥
    ends (job.Done m) not a d = not m refl
    ends job.Nothing not a d = let n = a.tells in absurd (omega (arith, n, top, below))
    ends (job.Gone low) not a d = d.there low into (0, ap (λ n. Some (Charged (Fetch (n + 1)), Worked (job.Gone low) into)) at)
    ends (job.Refused cause) not a d = unrefused-fetch s t cause a.tells.0 d.runs d.whole (d.limit (Fetch (net + 1)) cause into (0, refl))

-- the climb, up to here
pub record Mid (s : State) (p : Stand) (t : State) (q : Stand) (net : ℕ) : Type 0 where
  pub moves : EngineMoves s t
  pub walks : Walks s.kept p q
  pub at : net ≡ q.net
  pub quiet : NoAck moves.more

pub mid-first : (s : State) (p : Stand) (net : ℕ) → net ≡ p.net → Mid s p s p net
mid-first s p net at = record { moves = moves-none s; walks = walks-none s.kept p; at = at; quiet = λ l n m o x. absurd (cc x.1) }

pub mid-step : (s t u : State) (p q r : Stand) (net m : ℕ) → Mid s p t q net → Steps t q (Some m) u r → Mid s p u r m
mid-step s t u p q r net m a b = record {
  moves = moves-then s t u a.moves b.moves;
  walks = walks-then s.kept t.kept p q r a.moves.keeps a.walks b.walks;
  at = b.some.0;
  quiet = quiet-both a.moves.more b.moves.more a.quiet b.quiet;
}

pub mid-stuck : (s t u : State) (p q r : Stand) (net : ℕ) → Mid s p t q net → Steps t q None u r → Climbs s p u r
mid-stuck s t u p q r net a b = record {
  moves = moves-then s t u a.moves b.moves;
  walks = walks-then s.kept t.kept p q r a.moves.keeps a.walks b.walks;
  reached = λ d. absurd (b.none (drains-last s t u p q r a.moves b.moves a.walks.goes b.walks.goes d));
  quiet = quiet-both a.moves.more b.moves.more a.quiet b.quiet;
}

pub mid-end : (s t : State) (p q : Stand) (net head : ℕ) → head ≡ s.head → head ≤ net → Mid s p t q net → Climbs s p t q
mid-end s t p q net head top done a = record {
  moves = a.moves;
  walks = a.walks;
  reached = λ d. let z = a.at in omega (arith, z, top, done);
  quiet = a.quiet;
}

-- one peer
pub bring-done : (s t u : State) (p p1 p2 p3 : Stand) (first last : Ack) (link : ℕ) (reply : JobReply) (into : Update) → Finishes p first p1 → Climbs s p1 t p2 → Finishes p2 last p3 → link ≡ p3.link
    → EngineActs t (Charged (Acked link last.net last.stored)) (Worked reply into) u → BringsPeer s p u p3
bring-done s t u p p1 p2 p3 first last link reply into f c l is a = record {
  moves = moves-then s t u c.moves j;
  walks = walks-then s.kept s.kept p p1 p3 (λ v m. m) (finish-walks s.kept p p1 first f) (walks-then s.kept s.kept p1 p2 p3 (λ v m. m) c.walks (finish-walks s.kept p2 p3 last l));
  acked = λ d.
      let goes : PeerGoes p p2 = goes-then p p1 p2 f.goes c.walks.goes in
      let d1 : Drains s p1 t p2 c.moves.more = record {
        runs = d.runs;
        whole = calm-first s.counts.faults t.counts.faults u.counts.faults j.rises.0 d.whole;
        limit = λ i cause o m. d.limit i cause o (among-left (Charged i, Worked (job.Refused cause) o) c.moves.more j.more m);
        line = f.goes.line ∙ d.line;
        sound = λ r. d.sound (rose-wider p.faults p1.faults p2.faults p3.faults f.goes.faults l.goes.faults r);
        within = λ v m. subst (λ n. LiesIn n v) (sym f.goes.sizes) (d.within v m);
        there = λ low o m. d.there low o (among-left (Charged (Fetch (p3.net + 1)), Worked (job.Gone low) o) c.moves.more j.more (subst (λ n. LiesAmong (Charged (Fetch (n + 1)), Worked (job.Gone low) o) c.moves.more) (sym l.received) m));
      } in
      let top : s.head ≤ p2.net = c.reached d1 in
      let net : s.head ≤ last.net = (let x = l.net in let y = l.received in omega (arith, x, y, top)) in
      let all : p3.stored ≡ p3.net = l.all (λ r. d.sound (rose-wider p.faults p2.faults p3.faults p3.faults goes.faults (omega arith) r)) in
      let stored : s.head ≤ last.stored = (let x = l.stored in let y = l.received in omega (arith, x, all, y, top)) in
      let links : link ≡ p.link = is ∙ (l.goes.link ∙ goes.link) in
      let calm : CountRose t.counts.faults u.counts.faults → ⊥ = calm-last s.counts.faults t.counts.faults u.counts.faults c.moves.rises.0 d.whole in
      let runs : t.halted ≡ false = still-runs s t u c.moves d.runs j.rises.0 d.whole in
      let got = answered reply a runs calm (λ i cause o m. d.limit i cause o (among-right (Charged i, Worked (job.Refused cause) o) c.moves.more j.more m)) in
      let far = among-right (Charged (Acked link last.net last.stored), Worked (job.Done got.0) got.1) c.moves.more j.more got.2 in
      subst (λ x. HasAcked x s.head (c.moves.more ++ j.more)) links (last.net, last.stored, got.0, got.1, net, stored, far);
  fits = λ i n m said at. ⊎_elim (λ (x : LiesAmong (Charged (Acked i n m), said) c.moves.more). absurd (c.quiet i n m said x))
      (λ (x : LiesAmong (Charged (Acked i n m), said) j.more). let e = ack-one link last.net last.stored (Worked reply into) i n m said x in
      (e.0 ∙ is, (let y = e.1 in let z = l.net in omega (arith, y, z)), (let y = e.2 in let z = l.stored in omega (arith, y, z)))) (among-split (Charged (Acked i n m), said) c.moves.more j.more at);
}
  where
    j : EngineMoves t u
    j = job-moves t (Acked link last.net last.stored) reply into u a

    answered : (reply : JobReply) → EngineActs t (Charged (Acked link last.net last.stored)) (Worked reply into) u → t.halted ≡ false → (CountRose t.counts.faults u.counts.faults → ⊥) → NoLimit ((Charged (Acked link last.net last.stored), Worked reply into) ∷ [])
        → (n : ℕ) × (o : Update) × LiesAmong {A = Ask × Said} (Charged (Acked link last.net last.stored), Worked (job.Done n) o) ((Charged (Acked link last.net last.stored), Worked reply into) ∷ [])
    answered (job.Done n) a runs calm limit = (n, into, (0, refl))
    answered job.Nothing a runs calm limit = absurd a.tells
    answered (job.Gone low) a runs calm limit = absurd a.tells
    answered (job.Refused cause) a runs calm limit = absurd (unrefused t u cause a.tells runs calm (limit (Acked link last.net last.stored) cause into (0, refl)))
