-- A history with one more entry.
use Rattle.std.proofs.Common.{◌≡◌, ◌≢◌, ◌⊎◌, ℕ, zero, suc, ◌+◌, ◌-◌, ◌^◌, ◌<◌, ◌≤◌, ◌==◌, Bool, true, false, List, [], ◌∷◌, ◌++◌, length, map, cond, refl, ap, sym, ◌∙◌, subst, ⊎_elim, inl, inr, arith, append_assoc, eq-eqb, ne_eqb, nat_lt}
use Rattle.std.proofs.lemmas.List.{append-nil}
use mathlib.Core.List.{map-append}
use borrow.Author.Tests.{ltb-true, ltb-false}
use Rattle.vx_turn.specs.declared.ask.Ask.{Ask}
use Rattle.vx_turn.specs.declared.ask.Ask.TheVariants.{Ordered, Charged}
use Rattle.vx_turn.specs.declared.ask.Said.{Said}
use Rattle.vx_turn.specs.declared.ask.Said.TheVariants.{Replied, Worked}
use Rattle.vx_model.specs.declared.call.Update.{Update}
use Rattle.vx_turn.specs.declared.meaning.State.{State}
use Rattle.vx_turn.specs.declared.meaning.Entry.{Entry}
use Rattle.vx_model.specs.Answer.{answer_of}
use Rattle.vx_model.specs.declared.history.Line.{Line}
use Rattle.vx_turn.specs.declared.meaning.Counts.{Counts}
use Rattle.vx_turn.specs.declared.ask.Job.TheVariants.{Apply, Fetch, Acked, Wait}
use Rattle.vx_turn.specs.Volumes.{Volumes, as_content}
use Rattle.vx_turn.specs.Acting.{LiesAmong, EngineActs, Rises, CountRose, LogsUpdate, Nets, volumes_after, head_after, IsStop, RepliesBy, RepliesTo}
use Rattle.vx_turn.specs.History.{Point, point_of, next_point, point_after, FollowsEntry, LegalFrom, Legal, HasLogged, asked, Reaches, FitsHistory, places_from, places, BeginsWith, Named}
use Rattle.vx_turn.specs.Turning.{longer}

pub point_after-snoc : (p : Point) (log : List Entry) (e : Entry) → point_after p (log ++ e ∷ []) ≡ next_point (point_after p log) e
point_after-snoc p [] e = refl
point_after-snoc p (x ∷ xs) e = point_after-snoc (next_point p x) xs e

pub legal-from-snoc : (faults ring : ℕ) (p : Point) (log : List Entry) (e : Entry) → LegalFrom faults ring p log → FollowsEntry faults ring (point_after p log) e → LegalFrom faults ring p (log ++ e ∷ [])
legal-from-snoc faults ring p [] e l r = (r, tt)
legal-from-snoc faults ring p (x ∷ xs) e l r = (l.0, legal-from-snoc faults ring (next_point p x) xs e l.1 r)

pub logged-more : (l : Line) (log more : List Entry) (u : Update) → HasLogged l log u → HasLogged l (log ++ more) u
logged-more l [] more u h = absurd h
logged-more l (e ∷ es) more u h = ⊎_elim (λ (a : LogsUpdate l e.ask e.said u). inl a) (λ (b : HasLogged l es u). inr (logged-more l es more u b)) h

pub logged-last : (l : Line) (log : List Entry) (e : Entry) (u : Update) → LogsUpdate l e.ask e.said u → HasLogged l (log ++ e ∷ []) u
logged-last l [] e u h = inl h
logged-last l (x ∷ xs) e u h = inr (logged-last l xs e u h)

-- the entry that an ask of the engine makes
abbrev pub made : State → ℕ → Ask → Said → State → Entry
made s by ask said t = record { caller = by; ask = ask; said = said; before = s.counts; after = t.counts }

pub rises-trans : (a b c : Counts) → Rises a b → Rises b c → Rises a c
rises-trans a b c p q = (omega (arith, p.0, q.0), omega (arith, p.1, q.1))

-- a reply stays right where more says that the engine was stopped
pub replies-as : (A B : Type 0) (vs : Volumes) (ring head : ℕ) (ask : Ask) (said : Said) (b a : Counts) → (A → B) → RepliesTo A vs ring head ask said b a → RepliesTo B vs ring head ask said b a
replies-as A B vs ring head (Ordered call) (Replied reply) b a f r = ⊎_elim (λ (x : IsStop reply × A). inl (x.0, f x.1)) (λ (x : RepliesBy (answer_of (as_content vs) ring call) head call reply b a). inr x) r
replies-as A B vs ring head (Charged j) (Worked reply into) b a f r = tt
replies-as A B vs ring head (Ordered call) (Worked reply into) b a f r = absurd r
replies-as A B vs ring head (Charged j) (Replied reply) b a f r = absurd r

-- a rise of a part is one of the whole
pub rose-wider : (a b c d : ℕ) → a ≤ b → c ≤ d → CountRose b c → CountRose a d
rose-wider a b c d low high r = ⊎_elim (λ (x : b < c). inl (omega (arith, x, low, high))) (λ (x : 2 ^ 64 - 1 ≤ c). inr (omega (arith, x, high))) r

pub acts-legal : (start : State) (log : List Entry) (s : State) (by : ℕ) (ask : Ask) (said : Said) (t : State) → Legal start log → Reaches start log s → EngineActs s ask said t
    → Legal start (log ++ made s by ask said t ∷ [])
acts-legal start log s by ask said t l f a = legal-from-snoc start.counts.faults start.ring (point_of start) log (made s by ask said t) l (
  f.before,
  rises-trans (point_after (point_of start) log).after s.counts t.counts f.after a.rises,
  a.rises,
  subst (λ (x : Volumes × ℕ × ℕ). RepliesTo (CountRose start.counts.faults s.counts.faults) x.0 x.1 x.2 ask said s.counts t.counts) (λ i. (f.volumes_is i, f.ring_is i, f.head_is i))
      (replies-as (s.halted ≡ true) (CountRose start.counts.faults s.counts.faults) s.volumes s.ring s.head ask said s.counts t.counts f.halts a.replied),
)

-- no ask changes the number of links
pub nets-long : (ask : Ask) (xs ys : List ℕ) → Nets ask xs ys → length ys ≡ length xs
nets-long (Charged (Acked link net stored)) xs ys n = n.0
nets-long (Charged (Apply count)) xs ys n = ap (λ l. length l) n
nets-long (Charged (Fetch number)) xs ys n = ap (λ l. length l) n
nets-long (Charged (Wait number)) xs ys n = ap (λ l. length l) n
nets-long (Ordered call) xs ys n = ap (λ l. length l) n

-- what becomes of a halt over an ask
pub halts-on : (start s t : State) → (s.halted ≡ true → CountRose start.counts.faults s.counts.faults) → (t.halted ≡ true → (s.halted ≡ true) ⊎ CountRose s.counts.faults t.counts.faults)
    → start.counts.faults ≤ s.counts.faults → s.counts.faults ≤ t.counts.faults → t.halted ≡ true → CountRose start.counts.faults t.counts.faults
halts-on start s t p q low high h = ⊎_elim (λ (x : s.halted ≡ true). rose-wider start.counts.faults start.counts.faults s.counts.faults t.counts.faults (omega arith) high (p x))
    (λ (x : CountRose s.counts.faults t.counts.faults). rose-wider start.counts.faults s.counts.faults t.counts.faults t.counts.faults low (omega arith) x) (q h)

pub acts-reaches : (start : State) (log : List Entry) (s : State) (by : ℕ) (ask : Ask) (said : Said) (t : State) → Reaches start log s → EngineActs s ask said t → Reaches start (log ++ made s by ask said t ∷ []) t
acts-reaches start log s by ask said t f a = let e : Entry = made s by ask said t in
    let is : point_after (point_of start) (log ++ e ∷ []) ≡ next_point (point_after (point_of start) log) e = point_after-snoc (point_of start) log e in record {
      volumes_is = a.volumes_is ∙ (ap (λ c. volumes_after c ask said) f.volumes_is ∙ ap (λ (q : Point). q.volumes) (sym is));
      head_is = a.head_is ∙ (ap (λ h. head_after h said) f.head_is ∙ ap (λ (q : Point). q.head) (sym is));
      ring_is = a.ring_is ∙ f.ring_is;
      line_is = a.line_is ∙ f.line_is;
      before = subst (λ (q : Point). Rises q.before t.counts) (sym is) a.rises;
      after = subst (λ (q : Point). Rises q.after t.counts) (sym is) (omega arith, omega arith);
      since = rises-trans start.counts s.counts t.counts f.since a.rises;
      keeps = λ u k. ⊎_elim (λ (old : LiesAmong u s.kept). ⊎_elim (λ (x : LiesAmong u start.kept). inl x) (λ (y : HasLogged start.line log u). inr (logged-more start.line log (e ∷ []) u y)) (f.keeps u old))
          (λ (new : LogsUpdate s.line ask said u). inr (logged-last start.line log e u (subst (λ (l : Line). LogsUpdate l ask said u) f.line_is new))) (a.keeps u k);
      links = nets-long ask s.nets t.nets a.nets ∙ f.links;
      halts = halts-on start s t f.halts a.halts f.since.0 a.rises.0;
    }

pub acts-fits : (start : State) (log : List Entry) (s : State) (by : ℕ) (ask : Ask) (said : Said) (t : State) → FitsHistory start log s → EngineActs s ask said t → FitsHistory start (log ++ made s by ask said t ∷ []) t
acts-fits start log s by ask said t f a = (
  acts-reaches start log s by ask said t f.0 a,
  a.trail_is ∙ (ap (λ l. l ++ (ask, said) ∷ []) f.1 ∙ (append_assoc start.trail (map asked log) ((ask, said) ∷ []) ∙ ap (λ l. start.trail ++ l) (sym (map-append asked log (made s by ask said t ∷ []))))),
)

pub fits-first : (start : State) → start.halted ≡ false → FitsHistory start [] start
fits-first start runs = (
  record { volumes_is = refl; head_is = refl; ring_is = refl; line_is = refl; before = (omega arith, omega arith); after = (omega arith, omega arith); since = (omega arith, omega arith); keeps = λ u k. inl k; links = refl; halts = λ h. absurd (cc (h, runs)) },
  sym (append-nil start.trail),
)

places_from-other : (n by : ℕ) (log : List Entry) (e : Entry) → e.caller ≢ by → places_from n by (log ++ e ∷ []) ≡ places_from n by log
places_from-other n by [] e other = ap (λ b. cond b (suc n ∷ []) []) (ne_eqb e.caller by other)
places_from-other n by (x ∷ xs) e other = ap (λ l. cond (x.caller == by) (suc n ∷ l) l) (places_from-other (suc n) by xs e other)

pub places-other : (by : ℕ) (log : List Entry) (e : Entry) → e.caller ≢ by → places by (log ++ e ∷ []) ≡ places by log
places-other by log e other = places_from-other 0 by log e other

last_of : (b : Bool) (n : ℕ) (l m : List ℕ) → cond b (n ∷ (l ++ m)) (l ++ m) ≡ cond b (n ∷ l) l ++ m
last_of true n l m = refl
last_of false n l m = refl

pub places_from-append : (n by : ℕ) (xs ys : List Entry) → places_from n by (xs ++ ys) ≡ places_from n by xs ++ places_from (n + length xs) by ys
places_from-append n by [] ys = ap (λ k. places_from k by ys) (sym (Rattle.std.proofs.Common.add-zero n))
places_from-append n by (x ∷ xs) ys = let k : suc n + length xs ≡ n + suc (length xs) = omega arith in
    ap (λ l. cond (x.caller == by) (suc n ∷ l) l) (places_from-append (suc n) by xs ys ∙ ap (λ j. places_from (suc n) by xs ++ places_from j by ys) k)
    ∙ last_of (x.caller == by) (suc n) (places_from (suc n) by xs) (places_from (n + suc (length xs)) by ys)

pub places-own : (log : List Entry) (e : Entry) (k : ℕ) → length log + 1 ≡ k → places e.caller (log ++ e ∷ []) ≡ places e.caller log ++ k ∷ []
places-own log e k is = let at : suc (0 + length log) ≡ k = omega arith in places_from-append 0 e.caller log (e ∷ []) ∙
    ap (λ l. places e.caller log ++ l) (ap (λ b. cond b (suc (0 + length log) ∷ []) []) (eq-eqb e.caller e.caller refl) ∙ ap (λ m. m ∷ []) at)

pub begins-self : (log : List Entry) → BeginsWith log log
begins-self log = ([], sym (append-nil log))

pub begins-more : (seen log more : List Entry) → BeginsWith seen log → BeginsWith seen (log ++ more)
begins-more seen log more b = (b.0 ++ more, ap (λ l. l ++ more) b.1 ∙ append_assoc seen b.0 more)

pub begins-trans : (xs ys zs : List Entry) → BeginsWith xs ys → BeginsWith ys zs → BeginsWith xs zs
begins-trans xs ys zs p q = (p.0 ++ q.0, q.1 ∙ (ap (λ l. l ++ q.0) p.1 ∙ append_assoc xs p.0 q.0))

-- of two beginnings of one list the shorter begins the longer
pub begins-both : (xs ys zs : List Entry) → BeginsWith xs zs → BeginsWith ys zs → length xs ≤ length ys → BeginsWith xs ys
begins-both [] ys zs p q le = (ys, refl)
begins-both (x ∷ xs) [] zs p q le = absurd (omega arith)
begins-both (x ∷ xs) (y ∷ ys) [] p q le = absurd (cc (p.1))
begins-both (x ∷ xs) (y ∷ ys) (z ∷ zs) p q le =
    let heads : x ≡ y = cc (p.1, q.1) in
    let rest = begins-both xs ys zs (p.0, cc (p.1)) (q.0, cc (q.1)) (omega arith) in
    (rest.0, cc (heads, rest.1))

longer-cases : (xs ys zs : List Entry) (b : Bool) → nat_lt (length xs) (length ys) ≡ b → BeginsWith xs zs → BeginsWith ys zs
    → BeginsWith xs (cond b ys xs) × BeginsWith ys (cond b ys xs) × BeginsWith (cond b ys xs) zs
longer-cases xs ys zs true is p q = (begins-both xs ys zs p q (let h : length xs < length ys = ltb-true _ _ is in omega arith), begins-self ys, q)
longer-cases xs ys zs false is p q = (begins-self xs, begins-both ys xs zs q p (let h : length ys ≤ length xs = ltb-false _ _ is in h), p)

pub longer-of : (xs ys zs : List Entry) → BeginsWith xs zs → BeginsWith ys zs → BeginsWith xs (longer xs ys) × BeginsWith ys (longer xs ys) × BeginsWith (longer xs ys) zs
longer-of xs ys zs p q = longer-cases xs ys zs (nat_lt (length xs) (length ys)) refl p q

-- a caller's places are those of a beginning, where they are those of a shorter one
pub no_more : (xs ys : List ℕ) → xs ≡ xs ++ ys → ys ≡ []
no_more [] ys e = sym e
no_more (x ∷ xs) ys e = no_more xs ys (cc e)

pub append-none : (ys zs : List ℕ) → ys ++ zs ≡ [] → ys ≡ []
append-none [] zs e = refl
append-none (y ∷ ys) zs e = absurd cc

pub places-between : (by : ℕ) (xs ys zs : List Entry) → BeginsWith xs ys → BeginsWith ys zs → places by xs ≡ places by zs → places by ys ≡ places by xs
places-between by xs ys zs p q same =
    let py = ap (places by) p.1 ∙ places_from-append 0 by xs p.0 in let pz = ap (places by) q.1 ∙ places_from-append 0 by ys q.0 in
    let l : List ℕ = places_from (0 + length xs) by p.0 in let m : List ℕ = places_from (0 + length ys) by q.0 in
    let all : places by xs ≡ places by xs ++ (l ++ m) = same ∙ (pz ∙ (ap (λ k. k ++ m) py ∙ append_assoc (places by xs) l m)) in
    let none : l ≡ [] = append-none l m (no_more (places by xs) (l ++ m) all) in
    py ∙ (ap (λ k. places by xs ++ k) none ∙ append-nil (places by xs))

pub named-snoc : (callers : ℕ) (log : List Entry) (e : Entry) → Named callers log → e.caller < callers → Named callers (log ++ e ∷ [])
named-snoc callers [] e n l = (l, tt)
named-snoc callers (x ∷ xs) e n l = (n.0, named-snoc callers xs e n.1 l)

pub among-split : {A : Type 0} (x : A) (xs ys : List A) → LiesAmong x (xs ++ ys) → LiesAmong x xs ⊎ LiesAmong x ys
among-split x [] ys a = inr a
among-split x (y ∷ xs) ys (zero, e) = inl (0, e)
among-split x (y ∷ xs) ys (suc i, e) = ⊎_elim (λ (b : LiesAmong x xs). inl (suc b.0, b.1)) (λ (b : LiesAmong x ys). inr b) (among-split x xs ys (i, e))

pub among-cons : {A : Type 0} (x y : A) (ys : List A) → LiesAmong x (y ∷ ys) → (y ≡ x) ⊎ LiesAmong x ys
among-cons x y ys (zero, e) = inl (cc e)
among-cons x y ys (suc i, e) = inr (i, e)

-- the places that a rest adds
pub places-rest : (by : ℕ) (xs ys : List Entry) → places by (xs ++ ys) ≡ places by xs → places_from (length xs) by ys ≡ []
places-rest by xs ys same = let k : 0 + length xs ≡ length xs = omega arith in ap (λ n. places_from n by ys) (sym k) ∙ no_more (places by xs) (places_from (0 + length xs) by ys) (sym same ∙ places_from-append 0 by xs ys)

pub named-inside : (callers : ℕ) (xs : List Entry) (e : Entry) (ys : List Entry) → Named callers (xs ++ e ∷ ys) → e.caller < callers
named-inside callers [] e ys n = n.0
named-inside callers (x ∷ xs) e ys n = named-inside callers xs e ys n.1

pub some-place : (n : ℕ) (e : Entry) (es : List Entry) → places_from n e.caller (e ∷ es) ≡ [] → ⊥
some-place n e es none = let here : places_from n e.caller (e ∷ es) ≡ suc n ∷ places_from (suc n) e.caller es = ap (λ b. cond b (suc n ∷ places_from (suc n) e.caller es) (places_from (suc n) e.caller es)) (eq-eqb e.caller e.caller refl) in
    absurd (cc (here, none))

pub legal-from-prefix : (faults ring : ℕ) (p : Point) (xs ys : List Entry) → LegalFrom faults ring p (xs ++ ys) → LegalFrom faults ring p xs
legal-from-prefix faults ring p [] ys l = tt
legal-from-prefix faults ring p (x ∷ xs) ys l = (l.0, legal-from-prefix faults ring (next_point p x) xs ys l.1)

pub legal-prefix : (start : State) (seen log : List Entry) → BeginsWith seen log → Legal start log → Legal start seen
legal-prefix start seen log b l = legal-from-prefix start.counts.faults start.ring (point_of start) seen b.0 (subst (LegalFrom start.counts.faults start.ring (point_of start)) b.1 l)
