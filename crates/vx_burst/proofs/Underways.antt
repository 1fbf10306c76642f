-- A burst goes on by jobs, and by calls.
use Rattle.std.proofs.Common.{◌≡◌, ℕ, zero, suc, List, [], ◌∷◌, ◌++◌, length, map, refl, ap, sym, ◌∙◌, subst, ⊎_elim, inl, inr, arith, append_assoc, Some, slice_get}
use Rattle.vx_model.proofs.Lists.{get_there}
use mathlib.Core.List.{map-append}
use Rattle.vx_turn.specs.declared.ask.Ask.{Ask}
use Rattle.vx_turn.specs.declared.ask.Ask.TheVariants.{Ordered, Charged}
use Rattle.vx_turn.specs.declared.ask.Said.{Said}
use Rattle.vx_turn.specs.declared.ask.Said.TheVariants.{Replied, Worked}
use Rattle.vx_turn.specs.declared.ask.Job.TheVariants.{Apply, Fetch, Acked, Wait}
use Rattle.vx_turn.specs.declared.meaning.Counts.{Counts}
use Rattle.vx_turn.specs.declared.meaning.Entry.{Entry}
use Rattle.vx_turn.specs.declared.meaning.State.{State}
use Rattle.vx_turn.specs.Acting.{LiesAmong, EngineActs, Rises}
use Rattle.vx_turn.specs.History.{Point, point_of, next_point, point_after, LegalFrom, Legal, HasLogged, asked, Reaches, FitsHistory}
use Rattle.vx_turn.proofs.Histories.{rises-trans, among-split, logged-more, made, acts-legal, acts-fits, halts-on}
use Rattle.vx_settle.specs.declared.peer.Stand.{Stand}
use Rattle.vx_settle.specs.Peers.{PeerGoes}
use Rattle.vx_settle.specs.Bringing.{Events, IsJob, EngineMoves, IsBrought, BringsAll}
use Rattle.vx_settle.proofs.Bringings.{among-one, goes-then, took-then}
use Rattle.vx_settle.proofs.ManyPeers.{get-inside}
use Rattle.vx_burst.specs.Finishing.{Went, AckWithin, BurstUnderway}

pub legal-append : (faults ring : ℕ) (p : Point) (xs ys : List Entry) → LegalFrom faults ring p xs → LegalFrom faults ring (point_after p xs) ys → LegalFrom faults ring p (xs ++ ys)
legal-append faults ring p [] ys l m = m
legal-append faults ring p (x ∷ xs) ys l m = (l.0, legal-append faults ring (next_point p x) xs ys l.1 m)

pub point-append : (p : Point) (xs ys : List Entry) → point_after p (xs ++ ys) ≡ point_after (point_after p xs) ys
point-append p [] ys = refl
point-append p (x ∷ xs) ys = point-append (next_point p x) xs ys

-- the entry of a job. Its counts are those of before
abbrev pub job_entry : Counts → Ask × Said → Entry
job_entry c x = record { caller = 0; ask = x.0; said = x.1; before = c; after = c }

abbrev AllJobs : Events → Type 0
AllJobs more = (ask : Ask) (said : Said) → LiesAmong (ask, said) more → IsJob ask said

-- jobs are legal, and change neither the volumes nor the last number
abbrev JobsRun : ℕ → ℕ → Counts → Point → Events → Type 0
JobsRun faults ring c p more = LegalFrom faults ring p (map (job_entry c) more) × ((point_after p (map (job_entry c) more)).volumes ≡ p.volumes) × ((point_after p (map (job_entry c) more)).head ≡ p.head)
    × Rises (point_after p (map (job_entry c) more)).before c × Rises (point_after p (map (job_entry c) more)).after c

jobs-run : (faults ring : ℕ) (c : Counts) (p : Point) (more : Events) → AllJobs more → Rises p.before c → Rises p.after c → JobsRun faults ring c p more
jobs-run faults ring c p [] jobs low high = (tt, refl, refl, low, high)
jobs-run faults ring c p ((Charged j, Worked r into) ∷ ms) jobs low high =
    let rest = jobs-run faults ring c (next_point p (job_entry c (Charged j, Worked r into))) ms (λ ask said m. jobs ask said (suc m.0, m.1)) (omega arith, omega arith) (omega arith, omega arith) in
    (((low, high, (omega arith, omega arith), tt), rest.0), rest.1, rest.2, rest.3, rest.4)
jobs-run faults ring c p ((Charged j, Replied r) ∷ ms) jobs low high = absurd (jobs (Charged j) (Replied r) (0, refl))
jobs-run faults ring c p ((Ordered call, said) ∷ ms) jobs low high = absurd (jobs (Ordered call) said (0, refl))

pub asked-jobs : (c : Counts) (more : Events) → map asked (map (job_entry c) more) ≡ more
asked-jobs c [] = refl
asked-jobs c (x ∷ xs) = ap (λ l. x ∷ l) (asked-jobs c xs)

pub jobs-among : (c : Counts) (more : Events) (e : Entry) → LiesAmong e (map (job_entry c) more) → LiesAmong (e.ask, e.said) more
jobs-among c [] e m = absurd (cc m.1)
jobs-among c (x ∷ xs) e (zero, at) = (0, let s : job_entry c x ≡ e = cc at in ap (λ (z : Entry). Some (z.ask, z.said)) s)
jobs-among c (x ∷ xs) e (suc i, at) = let r = jobs-among c xs e (i, at) in (suc r.0, r.1)

-- the engine goes on by jobs
pub jobs-fit : (start : State) (log : List Entry) (s t : State) (m : EngineMoves s t) → Legal start log → FitsHistory start log s → Legal start (log ++ map (job_entry s.counts) m.more) × FitsHistory start (log ++ map (job_entry s.counts) m.more) t
jobs-fit start log s t m legal fits = let r = fits.0 in let p : Point = point_after (point_of start) log in let es : List Entry = map (job_entry s.counts) m.more in
    let j : JobsRun start.counts.faults start.ring s.counts p m.more = jobs-run start.counts.faults start.ring s.counts p m.more m.jobs r.before r.after in
    let is : point_after (point_of start) (log ++ es) ≡ point_after p es = point-append (point_of start) log es in (
      legal-append start.counts.faults start.ring (point_of start) log es legal j.0,
      (
        record {
          volumes_is = m.volumes ∙ (r.volumes_is ∙ (sym j.1 ∙ ap (λ (q : Point). q.volumes) (sym is)));
          head_is = m.head ∙ (r.head_is ∙ (sym j.2 ∙ ap (λ (q : Point). q.head) (sym is)));
          ring_is = m.ring ∙ r.ring_is;
          line_is = m.line ∙ r.line_is;
          before = subst (λ (q : Point). Rises q.before t.counts) (sym is) (rises-trans (point_after p es).before s.counts t.counts j.3 m.rises);
          after = subst (λ (q : Point). Rises q.after t.counts) (sym is) (rises-trans (point_after p es).after s.counts t.counts j.4 m.rises);
          since = rises-trans start.counts s.counts t.counts r.since m.rises;
          keeps = λ u k. ⊎_elim (λ (x : LiesAmong u start.kept). inl x) (λ (x : HasLogged start.line log u). inr (logged-more start.line log es u x)) (r.keeps u (m.keeps u k));
          links = m.links ∙ r.links;
          halts = halts-on start s t r.halts m.halts r.since.0 m.rises.0;
        },
        m.trail ∙ (ap (λ l. l ++ m.more) fits.1 ∙ (append_assoc start.trail (map asked log) m.more
            ∙ ap (λ l. start.trail ++ l) (ap (λ l. map asked log ++ l) (sym (asked-jobs s.counts m.more)) ∙ sym (map-append asked log es)))),
      ),
    )

module _ {P : Type 0} (stand : P → Stand) (root : P → P) where
  went-more : (start : State) (log more : List Entry) (p q : P) → Went stand root start log p q → Went stand root start (log ++ more) p q
  went-more start log more p q w = record {
    goes = w.goes;
    got = w.got;
    took = w.took;
    from = λ u m. ⊎_elim (λ (x : LiesAmong u start.kept). inl x) (λ (x : HasLogged start.line log u). inr (logged-more start.line log more u x)) (w.from u m);
    rooted = w.rooted;
  }

  went-brought : (start : State) (log more : List Entry) (s t : State) (p q r : P) (es : Events) → Reaches start log s → Went stand root start log p q → IsBrought stand root s q t r es → Went stand root start (log ++ more) p r
  went-brought start log more s t p q r es reaches w b = record {
    goes = goes-then (stand p) (stand q) (stand r) w.goes b.walks.goes;
    got = w.got ++ b.walks.got;
    took = took-then (stand p) (stand q) (stand r) w.got b.walks.got w.goes w.took b.walks.took;
    from = λ u m. ⊎_elim (λ (x : LiesAmong u start.kept). inl x) (λ (x : HasLogged start.line log u). inr (logged-more start.line log more u x))
        (⊎_elim (λ (x : LiesAmong u w.got). w.from u x) (λ (x : LiesAmong u b.walks.got). reaches.keeps u (b.walks.from u x)) (among-split u w.got b.walks.got m));
    rooted = b.rooted ∙ w.rooted;
  }

  -- an acknowledgement stays within peers that went on
  acks-later : (ps qs : List P) → length qs ≡ length ps → ((i : ℕ) (p q : P) → slice_get ps i ≡ Some p → slice_get qs i ≡ Some q → PeerGoes (stand p) (stand q)) → (ask : Ask) → AckWithin stand root ps ask → AckWithin stand root qs ask
  acks-later ps qs long goes (Charged (Acked link net stored)) a = let inside = get-inside ps a.0 a.1 a.2 in let g = get_there qs a.0 (omega (arith, long, inside)) in let go = goes a.0 a.1 g.0 a.2 g.1 in
      (a.0, g.0, g.1, a.3 ∙ sym go.link, (let x = a.4 in let y = go.net in omega (arith, x, y)), (let x = a.5 in let y = go.stored in omega (arith, x, y)))
  acks-later ps qs long goes (Charged (Apply n)) a = tt
  acks-later ps qs long goes (Charged (Fetch n)) a = tt
  acks-later ps qs long goes (Charged (Wait n)) a = tt
  acks-later ps qs long goes (Ordered call) a = tt

  -- each peer was brought
  pub underway-brings : (start : State) (firsts : List P) (log : List Entry) (s t : State) (ps qs : List P) → BurstUnderway stand root start firsts log s ps → (b : BringsAll stand root s ps t qs)
      → BurstUnderway stand root start firsts (log ++ map (job_entry s.counts) b.moves.more) t qs
  underway-brings start firsts log s t ps qs a b = let es : List Entry = map (job_entry s.counts) b.moves.more in let j = jobs-fit start log s t b.moves a.legal a.fits in record {
    legal = j.0;
    fits = j.1;
    long = b.long ∙ a.long;
    each = λ i p r x z. let inside = get-inside qs i r z in let n = b.long in let g = get_there ps i (omega (arith, n, inside)) in
        went-brought start log es s t p g.0 r b.moves.more a.fits.0 (a.each i p g.0 x g.1) (b.each i g.0 r g.1 z);
    acks = λ e m. ⊎_elim (λ (x : LiesAmong e log). acks-later ps qs b.long (λ i p q y z. (b.each i p q y z).walks.goes) e.ask (a.acks e x))
        (λ (x : LiesAmong e es). new e.ask e.said (jobs-among s.counts b.moves.more e x)) (among-split e log es m);
  }
    where
      new : (ask : Ask) (said : Said) → LiesAmong (ask, said) b.moves.more → AckWithin stand root qs ask
      new (Charged (Acked link net stored)) said m = b.fits link net stored said m
      new (Charged (Apply n)) said m = tt
      new (Charged (Fetch n)) said m = tt
      new (Charged (Wait n)) said m = tt
      new (Ordered call) said m = tt

  -- one more entry, that is no acknowledgement
  pub underway-acts : (start : State) (firsts : List P) (log : List Entry) (s t : State) (ps : List P) (ask : Ask) (said : Said) → AckWithin stand root ps ask → BurstUnderway stand root start firsts log s ps → EngineActs s ask said t
      → BurstUnderway stand root start firsts (log ++ made s 0 ask said t ∷ []) t ps
  underway-acts start firsts log s t ps ask said none a acts = record {
    legal = acts-legal start log s 0 ask said t a.legal a.fits.0 acts;
    fits = acts-fits start log s 0 ask said t a.fits acts;
    long = a.long;
    each = λ i p q x y. went-more start log (made s 0 ask said t ∷ []) p q (a.each i p q x y);
    acks = λ e m. ⊎_elim (λ (x : LiesAmong e log). a.acks e x) (λ (x : LiesAmong e (made s 0 ask said t ∷ [])). subst (λ (z : Entry). AckWithin stand root ps z.ask) (among-one e (made s 0 ask said t) x) none) (among-split e log (made s 0 ask said t ∷ []) m);
  }

  -- jobs that acknowledge nothing
  pub underway-moves : (start : State) (firsts : List P) (log : List Entry) (s t : State) (ps : List P) → BurstUnderway stand root start firsts log s ps → (m : EngineMoves s t) → ((ask : Ask) (said : Said) → LiesAmong (ask, said) m.more → AckWithin stand root ps ask)
      → BurstUnderway stand root start firsts (log ++ map (job_entry s.counts) m.more) t ps
  underway-moves start firsts log s t ps a m none = let es : List Entry = map (job_entry s.counts) m.more in let j = jobs-fit start log s t m a.legal a.fits in record {
    legal = j.0;
    fits = j.1;
    long = a.long;
    each = λ i p q x y. went-more start log es p q (a.each i p q x y);
    acks = λ e k. ⊎_elim (λ (x : LiesAmong e log). a.acks e x) (λ (x : LiesAmong e es). none e.ask e.said (jobs-among s.counts m.more e x)) (among-split e log es k);
  }
