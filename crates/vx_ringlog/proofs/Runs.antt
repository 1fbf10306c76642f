-- Whole runs.
use Rattle.std.proofs.Common.{◌≡◌, inl, inr, ⊎_elim, ℕ, zero, suc, ◌+◌, ◌%◌, ◌<◌, List, [], ◌∷◌, ◌++◌, take, refl, sym, ◌∙◌, ap, subst, arith, append_assoc}
use Rattle.vx_srlfmt.specs.Kinds.{Damaged, Front, Kind, Other, Top}
use Rattle.vx_srlfmt.specs.declared.header.Header.{Header}
use Rattle.vx_srlfmt.specs.declared.record.RecordHead.{RecordHead}
use Rattle.vx_ringlog.specs.Cells.{Act, Always, Cells, RingImage, Leaves, LeftBy, act, still}
use Rattle.vx_ringlog.specs.Records.{Era, Record, era_of}
use Rattle.vx_ringlog.specs.Chain.{Recovers, Starts, ScanStops, block}
use Rattle.vx_ringlog.specs.Ready.{TameValue}
use Rattle.vx_ringlog.specs.Acts.{start_acts}
use Rattle.vx_ringlog.specs.Logs.{Allowed, Call, Found, Restart, Save, Seal, Stage, State, acts_of, behind_call}
use Rattle.vx_ringlog.specs.Starting.{Made, SameLog}
use Rattle.vx_ringlog.specs.Runs.{Account, Begins, Books, BooksCall, BooksCrash, Calls, Crashes, Down, Fails, GoesInto, Happening, MadeIsSafe, Condition, RunIsSafe, StandsForAccount, Up, cut_account, emptied_account}
use Rattle.vx_ringlog.proofs.Calls.{call_safe}
use Rattle.vx_ringlog.proofs.OneLog.{log_unique}
use Rattle.vx_ringlog.proofs.Starting.{may_still, start_safe}

pub left : (P : RingImage → Type 0) (u : Cells) (rest : List Act) (i : RingImage) → Always (Leaves P) u rest → LeftBy u rest i → P i
left P u [] i all img = all i img
left P u (a ∷ rest) i all (inl img) = all.0 i img
left P u (a ∷ rest) i all (inr later) = left P (act u a) rest i all.1 later

-- what is held is a last part of what was kept
abbrev Owns : List Record → List Record → Type 0
Owns kept held = (gone : List Record) × (kept ≡ gone ++ held)

called : (size : ℕ) (s : State) (c : Call) (a : Account) → StandsForAccount size (Up s) a → Allowed size s c → (b : Account) × BooksCall c a b × StandsForAccount size (Up (behind_call size s c)) b
called size s (Stage r) a st may = (record { kept = a.kept; pending = a.pending ++ r ∷ [] }, refl, ((call_safe size s (Stage r) st.0 may).1, st.1, ap (λ (l : List Record). l ++ r ∷ []) st.2))
called size s Seal a st may = (
  record { kept = a.kept ++ a.pending; pending = [] },
  refl,
  (
    (call_safe size s Seal st.0 may).1,
    (st.1.0, ap (λ (l : List Record). l ++ a.pending) st.1.1 ∙ append_assoc st.1.0 s.held a.pending ∙ ap (λ (l : List Record). st.1.0 ++ (s.held ++ l)) st.2),
    refl,
  ),
)
called size s (Save g gone kept) a st may = (
  a,
  refl,
  (
    (call_safe size s (Save g gone kept) st.0 may).1,
    (st.1.0 ++ gone, st.1.1 ∙ ap (λ (l : List Record). st.1.0 ++ l) may.split ∙ sym (append_assoc st.1.0 gone kept)),
    st.2,
  ),
)
called size s (Restart g) a st may = (emptied_account, refl, ((call_safe size s (Restart g) st.0 may).1, ([], refl), refl))

-- the image is that of the old log, with k of what is staged
kept_cut : (size : ℕ) (s : State) (i : RingImage) (a : Account) → StandsForAccount size (Up s) a → (found : (k : ℕ) × Recovers size i s.header (s.held ++ take k s.staged)) → StandsForAccount size (Down i) (cut_account found.0 a)
kept_cut size s i a st found = (
  (
    s.header,
    s.held ++ take found.0 s.staged,
    found.1,
    (st.1.0, ap (λ (l : List Record). l ++ take found.0 a.pending) st.1.1 ∙ append_assoc st.1.0 s.held (take found.0 a.pending) ∙ ap (λ (l : List Record). st.1.0 ++ (s.held ++ take found.0 l)) st.2),
  ),
  refl,
)

crashed : (size : ℕ) (s : State) (c : Call) (i : RingImage) (a : Account) → StandsForAccount size (Up s) a → Allowed size s c → LeftBy s.unit (acts_of size s c) i → (b : Account) × BooksCrash c a b × StandsForAccount size (Down i) b
crashed size s (Stage r) i a st may moment =
    ⊎_elim (λ (o : (k : ℕ) × Recovers size i s.header (s.held ++ take k s.staged)). (cut_account o.0 a, (o.0, refl), kept_cut size s i a st o)) (λ none. absurd none)
    (left (Found size s (Stage r)) s.unit (acts_of size s (Stage r)) i (call_safe size s (Stage r) st.0 may).0 moment)
crashed size s Seal i a st may moment =
    ⊎_elim (λ (o : (k : ℕ) × Recovers size i s.header (s.held ++ take k s.staged)). (cut_account o.0 a, (o.0, refl), kept_cut size s i a st o)) (λ none. absurd none)
    (left (Found size s Seal) s.unit (acts_of size s Seal) i (call_safe size s Seal st.0 may).0 moment)
crashed size s (Save g gone kept) i a st may moment =
    ⊎_elim (λ (o : (k : ℕ) × Recovers size i s.header (s.held ++ take k s.staged)). (cut_account o.0 a, (o.0, refl), kept_cut size s i a st o))
    (λ (o : (k : ℕ) × Recovers size i g (kept ++ take k s.staged)). (
      cut_account o.0 a,
      (o.0, refl),
      (
        (
          g,
          kept ++ take o.0 s.staged,
          o.1,
          (
            st.1.0 ++ gone,
            ap (λ (l : List Record). l ++ take o.0 a.pending) (st.1.1 ∙ ap (λ (l : List Record). st.1.0 ++ l) may.split ∙ sym (append_assoc st.1.0 gone kept)) ∙ append_assoc (st.1.0 ++ gone) kept (take o.0 a.pending) ∙ ap (λ (l : List Record). (st.1.0 ++ gone) ++ (kept ++ take o.0 l)) st.2,
          ),
        ),
        refl,
      ),
    ))
    (left (Found size s (Save g gone kept)) s.unit (acts_of size s (Save g gone kept)) i (call_safe size s (Save g gone kept) st.0 may).0 moment)
crashed size s (Restart g) i a st may moment =
    ⊎_elim (λ (o : (k : ℕ) × Recovers size i s.header (s.held ++ take k s.staged)). (cut_account o.0 a, inl (o.0, refl), kept_cut size s i a st o))
    (λ (o : Recovers size i g []). (emptied_account, inr refl, ((g, [], o, ([], refl)), refl)))
    (left (Found size s (Restart g)) s.unit (acts_of size s (Restart g)) i (call_safe size s (Restart g) st.0 may).0 moment)

-- what a start finds is what the image was known to have
recovered : (size : ℕ) (i : RingImage) (a : Account) (h : Header) (rs : List Record) → StandsForAccount size (Down i) a → Starts size i h rs → Recovers size i h rs × Owns a.kept rs
recovered size i a h rs st starts =
    let was = st.0 in
    let same = log_unique size i was.0 h was.1 rs was.2.starts starts in (
      subst (λ (y : List Record). Recovers size i h y) same.1 (subst (λ (y : Header). Recovers size i y was.1) same.0 was.2),
      (was.3.0, was.3.1 ∙ ap (λ (l : List Record). was.3.0 ++ l) same.1),
    )

-- an image of the same records stands for the same account
same_account : (size : ℕ) (a : Account) (h g again : Header) (rs : List Record) (j : RingImage) → Owns a.kept rs → a.pending ≡ [] → SameLog size h g again rs j → StandsForAccount size (Down j) a
same_account size a h g again rs j owns none (inl r) = ((h, rs, r, owns), none)
same_account size a h g again rs j owns none (inr (inl r)) = ((g, rs, r, owns), none)
same_account size a h g again rs j owns none (inr (inr r)) = ((again, rs, r, owns), none)

step : (size : ℕ) (x : Happening) (m n : Condition) (a : Account) → StandsForAccount size m a → GoesInto size x m n → (b : Account) × Books x a b × StandsForAccount size n b
step size (Calls c) (Up s) n a st goes =
    let r = called size s c a st goes.0 in (r.0, r.1, subst (λ (y : Condition). StandsForAccount size y r.0) (sym goes.1) r.2)
step size (Crashes c i) (Up s) n a st goes =
    let r = crashed size s c i a st goes.0 goes.1 in (r.0, r.1, subst (λ (y : Condition). StandsForAccount size y r.0) (sym goes.2) r.2)
step size (Begins here other h g again rs) (Down i) n a st goes =
    let kept = recovered size i a h rs st goes.1 in
    let safe = start_safe size i here other h g again rs goes.0 kept.0 in
    (a, refl, subst (λ (y : Condition). StandsForAccount size y a) (sym goes.2) (safe.1, kept.1, st.1))
step size (Fails here other h g again rs j) (Down i) n a st goes =
    let kept = recovered size i a h rs st goes.1 in
    let safe = start_safe size i here other h g again rs goes.0 kept.0 in
    let there = same_account size a h g again rs j kept.1 st.1 (left (SameLog size h g again rs) (still i) (start_acts here other g again) j safe.0 goes.2) in
    (a, refl, subst (λ (y : Condition). StandsForAccount size y a) (sym goes.3) there)
step size (Calls c) (Down i) n a st goes = absurd goes
step size (Crashes c j) (Down i) n a st goes = absurd goes
step size (Begins here other h g again rs) (Up s) n a st goes = absurd goes
step size (Fails here other h g again rs j) (Up s) n a st goes = absurd goes

pub run_safe : RunIsSafe
run_safe size [] m n a st goes = (a, refl, subst (λ (y : Condition). StandsForAccount size y a) (sym goes) st)
run_safe size (x ∷ xs) m n a st goes =
    let one = step size x m goes.0 a st goes.1 in
    let rest = run_safe size xs goes.0 n one.0 one.2 goes.2 in
    (rest.0, (one.0, one.1, rest.1), rest.2)

-- a block of a new log is no header of a record, and none is damaged
tame_plain : (e : Era) (n : ℕ) (v : Kind) → (v ≡ Damaged → ⊥) → ((r : RecordHead) → v ≡ Front r → ⊥) → TameValue e n v
tame_plain e n v whole none = record { whole = whole; incarnation = λ r is. absurd (none r is); run = λ r is. absurd (none r is); fresh = λ r is p q. absurd (none r is) }

tame_made : (head : ℕ) (i : RingImage) (h g : Header) → Made head i h g → (b : ℕ) → TameValue (era_of h) h.low (i b)
tame_made head i h g m zero = tame_plain (era_of h) h.low (i 0) (λ at. cc (m.first, at)) (λ r at. cc (m.first, at))
tame_made head i h g m (suc zero) = tame_plain (era_of h) h.low (i 1) (λ at. cc (m.second, at)) (λ r at. cc (m.second, at))
tame_made head i h g m (suc (suc b)) =
    let is : i (suc (suc b)) ≡ Other = let same : suc (suc b) ≡ 2 + b = omega arith in ap i same ∙ m.ring b in tame_plain (era_of h) h.low (i (suc (suc b))) (λ at. cc (is, at)) (λ r at. cc (is, at))

pub made_safe : MadeIsSafe
made_safe size head i h g m = (
  (
    record {
      ready = record {
        room = omega arith;
        tame = λ b v may. subst (λ (w : Kind). TameValue (era_of h) h.low w) (sym (may_still i b v may)) (tame_made head i h g m b);
        sure = tt;
        fits = tt;
        floor_below = omega (arith, m.floor);
        end = inr (λ v may. subst (λ (w : Kind). ScanStops (era_of h) h.low h.floor w) (sym (may_still i _ v may ∙ m.ring (0 % size))) ((λ r t. cc (t.is)), (λ is. cc)));
        staged_fits = tt;
        now = tt;
        bodies = tt;
      };
      heads = record {
        slots = inl (refl, refl);
        sure = λ w may. may_still i 0 w may ∙ m.first;
        other = λ f may. let same : g ≡ f = cc (may_still i 1 (Top f) may, m.second) in subst (λ (y : Header). y.stamp < h.stamp) same (omega (arith, m.stamp, m.second_stamp));
      };
      place = ap (λ (x : ℕ). block size x) (sym m.place);
      origin = λ r is. absurd is;
      still = λ none. refl;
    },
    ([], refl),
    refl,
  ),
  omega (arith, m.low),
)
