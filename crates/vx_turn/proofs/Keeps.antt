-- Each step keeps the rule of the table.
use Rattle.std.proofs.Common.{◌≡◌, ◌≢◌, ◌⊎◌, ℕ, zero, suc, ◌+◌, ◌-◌, ◌<◌, ◌≤◌, eqb, Bool, true, false, List, [], ◌∷◌, ◌++◌, length, get_or, set, refl, ap, sym, ◌∙◌, subst, ⊎_elim, inl, inr, arith, Option, Some, None, length-set, length-append, get_or-set_same, get_or-set_other, eq-eqb, ne_eqb}
use mathlib.Core.Logic.{dite}
use mathlib.Core.Option.{none, some, some-injective, some-ne-none}
use native.Mathlib.Decide.{ℕ_discrete}
use lib.ListN.{get_elem?}
use lib.Seq.{set-get_or}
use prog.Atomic.{either}
use Rattle.atomic_table.specs.Table as table
use Rattle.atomic_table.specs.Table.{Me, step, Act, keeps, takes, gives, stepped, Allows, Splits, Joins, opening, Valid, carried_after}
use Rattle.atomic_table.proofs.Lists.{at_set, set_here, set_else, set_again}
use Rattle.vx_turn.specs.declared.meaning.Entry.{Entry}
use Rattle.vx_turn.specs.declared.meaning.State.{State}
use Rattle.vx_turn.specs.declared.view.View.{View}
use Rattle.vx_turn.specs.declared.slot.Slot.{Slot}
use Rattle.vx_turn.specs.Acting.{LiesAmong}
use Rattle.vx_turn.specs.History.{Legal, FitsHistory, places, BeginsWith, Named}
use Rattle.vx_turn.specs.Turning.{Has, IsOneSeat, first_view, TellsView, Knows, KeptTable, sees, lower, upper, joined_views, blank_view, longer, entry_in, taken_turn, count_seen, added, handed_back, looked}
use Rattle.vx_turn.proofs.Histories.{fits-first, places-other, places-own, begins-self, begins-more, begins-trans, longer-of, places-between, named-snoc, legal-prefix, among-split, among-cons}

at-inside : {A : Type 0} (l : List A) (i : ℕ) (a : A) → get_elem? l i ≡ some a → i < length l
at-inside [] i a e = absurd (some-ne-none a (sym e))
at-inside (x ∷ xs) zero a e = omega arith
at-inside (x ∷ xs) (suc i) a e = let h = at-inside xs i a e in omega arith

at-end : {A : Type 0} (l : List A) (a b : A) (j : ℕ) → get_elem? (l ++ a ∷ []) j ≡ some b → (get_elem? l j ≡ some b) ⊎ ((j ≡ length l) × (a ≡ b))
at-end [] a b zero e = inr (refl, some-injective a b e)
at-end [] a b (suc j) e = absurd (some-ne-none b (sym e))
at-end (x ∷ xs) a b zero e = inl e
at-end (x ∷ xs) a b (suc j) e = ⊎_elim (λ (h : get_elem? xs j ≡ some b). inl h) (λ (h : (j ≡ length xs) × (a ≡ b)). inr (ap suc h.0, h.1)) (at-end xs a b j e)

no-met : (x : ℕ × List ℕ) → LiesAmong x [] → ⊥
no-met x a = absurd (cc (a.1))

abbrev In : ℕ → View → Type 0
In by v = (ps : List ℕ) × Has v by ps

abbrev Apart : List View → Type 0
Apart views = (i j : ℕ) (v w : View) (by : ℕ) (ps qs : List ℕ) → get_elem? views i ≡ some v → get_elem? views j ≡ some w → Has v by ps → Has w by qs → i ≡ j

-- a seat that stands for no more than it did
apart-set : (views : List View) (id : ℕ) (v w : View) → get_elem? views id ≡ some v → ((by : ℕ) (ps : List ℕ) → Has w by ps → In by v) → Apart views → Apart (set views id w)
apart-set views id v w at less apart i j x y by ps qs ei ej ix iy =
    ⊎_elim
    (λ (a : (i ≡ id) × (w ≡ x)). let vx = less by ps (subst (λ (z : View). Has z by ps) (sym a.1) ix) in ⊎_elim
    (λ (b : (j ≡ id) × (w ≡ y)). a.0 ∙ sym b.0)
    (λ (b : (j ≢ id) × (get_elem? views j ≡ some y)). a.0 ∙ apart id j v y by vx.0 qs at b.1 vx.1 iy)
    (at_set views id j w y ej))
    (λ (a : (i ≢ id) × (get_elem? views i ≡ some x)). ⊎_elim
    (λ (b : (j ≡ id) × (w ≡ y)). let vy = less by qs (subst (λ (z : View). Has z by qs) (sym b.1) iy) in apart i id x v by ps vy.0 a.1 at ix vy.1 ∙ sym b.0)
    (λ (b : (j ≢ id) × (get_elem? views j ≡ some y)). apart i j x y by ps qs a.1 b.1 ix iy)
    (at_set views id j w y ej))
    (at_set views id i w x ei)

blank-has : (by : ℕ) (ps : List ℕ) → Has blank_view by ps → ⊥
blank-has by ps h = ⊎_elim (λ (a : (0 ≤ by) × (by < 0) × (ps ≡ [])). absurd (omega (arith, a.1))) (λ (a : LiesAmong (by, ps) []). no-met (by, ps) a) h

lower-has : (v : View) (by : ℕ) (ps : List ℕ) → Has (lower v) by ps → Has v by ps
lower-has v by ps h = ⊎_elim (λ (a : (v.low ≤ by) × (by < v.high - 1) × (ps ≡ v.mine)). inl (a.0, omega (arith, a.1), a.2)) (λ (a : LiesAmong (by, ps) v.met). inr a) h

upper-in : (v : View) (by : ℕ) (ps : List ℕ) → Has (upper v) by ps → (v.high - 1 ≤ by) × (by < v.high) × (ps ≡ v.mine)
upper-in v by ps h = ⊎_elim (λ (a : (v.high - 1 ≤ by) × (by < v.high) × (ps ≡ v.mine)). a) (λ (a : LiesAmong (by, ps) []). absurd (no-met (by, ps) a)) h

upper-has : (v : View) (by : ℕ) (ps : List ℕ) → v.low < v.high → Has (upper v) by ps → Has v by ps
upper-has v by ps left h = let a = upper-in v by ps h in inl (omega (arith, a.0), a.1, a.2)

others-has : (u : View) (by : ℕ) (ps : List ℕ) → IsOneSeat u → LiesAmong (by, ps) ((u.low, u.mine) ∷ u.met) → Has u by ps
others-has u by ps one a = ⊎_elim (λ (e : (u.low, u.mine) ≡ (by, ps)). let n : u.low ≡ by = ap (λ (x : ℕ × List ℕ). x.0) e in inl (omega (arith, n), omega (arith, n, one), sym (ap (λ (x : ℕ × List ℕ). x.1) e)))
    (λ (b : LiesAmong (by, ps) u.met). inr b) (among-cons (by, ps) (u.low, u.mine) u.met a)

joined-has : (v u : View) (by : ℕ) (ps : List ℕ) → IsOneSeat u → Has (joined_views v u) by ps → Has v by ps ⊎ Has u by ps
joined-has v u by ps one h = ⊎_elim (λ (a : (v.low ≤ by) × (by < v.high) × (ps ≡ v.mine)). inl (inl a))
    (λ (a : LiesAmong (by, ps) (v.met ++ (u.low, u.mine) ∷ u.met)). ⊎_elim (λ (b : LiesAmong (by, ps) v.met). inl (inr b)) (λ (b : LiesAmong (by, ps) ((u.low, u.mine) ∷ u.met)). inr (others-has u by ps one b))
    (among-split (by, ps) v.met ((u.low, u.mine) ∷ u.met) a)) h

-- the places of the seat's callers, once its own entry was added
pub grown-own : (log : List Entry) (v : View) (e : Entry) (n by : ℕ) (ps : List ℕ) → TellsView log v → e.caller ≡ v.low → IsOneSeat v → places e.caller (v.seen ++ e ∷ []) ≡ v.mine ++ n ∷ []
    → Has (sees v true (v.seen ++ e ∷ []) (v.mine ++ n ∷ [])) by ps → places by (v.seen ++ e ∷ []) ≡ ps
grown-own log v e n by ps t named one new h = ⊎_elim
    (λ (a : (v.low ≤ by) × (by < v.high) × (ps ≡ v.mine ++ n ∷ [])). let is : v.low ≡ by = omega (arith, a.0, a.1, one) in subst (λ (b : ℕ). places b (v.seen ++ e ∷ []) ≡ v.mine ++ n ∷ []) (named ∙ is) new ∙ sym a.2)
    (λ (a : LiesAmong (by, ps) v.met). places-other by v.seen e (λ is. let low : v.low ≡ by = sym named ∙ is in t.alone by ps (omega (arith, low)) (omega (arith, low, one)) a) ∙ (t.own by ps (inr a)).1) h

-- two seats of which one takes over what the other stood for
apart-merge : (views : List View) (id other : ℕ) (v u w : View) → get_elem? views id ≡ some v → get_elem? views other ≡ some u → ¬ (other ≡ id)
    → ((by : ℕ) (ps : List ℕ) → Has w by ps → In by v ⊎ In by u) → Apart views → Apart (set (set views id w) other blank_view)
apart-merge views id other v u w at at' two less apart i j x y by ps qs ei ej ix iy = ⊎_elim
    (λ (a : (i ≡ other) × (blank_view ≡ x)). absurd (blank-has by ps (subst (λ (z : View). Has z by ps) (sym a.1) ix)))
    (λ (a : (i ≢ other) × (get_elem? (set views id w) i ≡ some x)). ⊎_elim
    (λ (b : (j ≡ other) × (blank_view ≡ y)). absurd (blank-has by qs (subst (λ (z : View). Has z by qs) (sym b.1) iy)))
    (λ (b : (j ≢ other) × (get_elem? (set views id w) j ≡ some y)). ⊎_elim
    (λ (c : (i ≡ id) × (w ≡ x)). ⊎_elim
    (λ (d : (j ≡ id) × (w ≡ y)). c.0 ∙ sym d.0)
    (λ (d : (j ≢ id) × (get_elem? views j ≡ some y)). c.0 ∙ lone j y by ps qs d.1 b.0 (subst (λ (z : View). Has z by ps) (sym c.1) ix) iy)
    (at_set views id j w y b.1))
    (λ (c : (i ≢ id) × (get_elem? views i ≡ some x)). ⊎_elim
    (λ (d : (j ≡ id) × (w ≡ y)). sym (d.0 ∙ lone i x by qs ps c.1 a.0 (subst (λ (z : View). Has z by qs) (sym d.1) iy) ix))
    (λ (d : (j ≢ id) × (get_elem? views j ≡ some y)). apart i j x y by ps qs c.1 d.1 ix iy)
    (at_set views id j w y b.1))
    (at_set views id i w x a.1))
    (at_set (set views id w) other j blank_view y ej))
    (at_set (set views id w) other i blank_view x ei)
  where
    lone : (j : ℕ) (y : View) (by : ℕ) (ps qs : List ℕ) → get_elem? views j ≡ some y → j ≢ other → Has w by ps → Has y by qs → id ≡ j
    lone j y by ps qs e far h h' = ⊎_elim (λ (m : In by v). apart id j v y by m.0 qs at e m.1 h') (λ (m : In by u). absurd (far (sym (apart other j u y by m.0 qs at' e m.1 h')))) (less by ps h)

-- a number that the seat's upper part stands for is none of another seat, nor of its lower part
upper-alone : (views : List View) (id i : ℕ) (v x : View) (log : List Entry) (by : ℕ) (ps qs : List ℕ) → v.low < v.high → get_elem? views id ≡ some v → TellsView log v → Apart views → get_elem? (set views id (lower v)) i ≡ some x
    → Has x by ps → Has (upper v) by qs → ⊥
upper-alone views id i v x log by ps qs left at t apart e ix iu = let a = upper-in v by qs iu in let iv : Has v by v.mine = inl (omega (arith, a.0), a.1, refl) in ⊎_elim
    (λ (b : (i ≡ id) × (lower v ≡ x)). ⊎_elim (λ (c : (v.low ≤ by) × (by < v.high - 1) × (ps ≡ v.mine)). absurd (omega (arith, c.1, a.0))) (λ (c : LiesAmong (by, ps) v.met). t.alone by ps (omega (arith, a.0)) a.1 c)
    (subst (λ (z : View). Has z by ps) (sym b.1) ix))
    (λ (b : (i ≢ id) × (get_elem? views i ≡ some x)). absurd (b.0 (apart i id x v by ps v.mine b.1 at ix iv)))
    (at_set views id i (lower v) x e)

apart-deal : (views : List View) (id : ℕ) (v : View) (log : List Entry) → v.low < v.high → get_elem? views id ≡ some v → TellsView log v → Apart views → Apart (set views id (lower v) ++ upper v ∷ [])
apart-deal views id v log left at t apart i j x y by ps qs ei ej ix iy = let l : List View = set views id (lower v) in
    ⊎_elim
    (λ (a : get_elem? l i ≡ some x). ⊎_elim
    (λ (b : get_elem? l j ≡ some y). apart-set views id v (lower v) at (λ n ks h. (ks, lower-has v n ks h)) apart i j x y by ps qs a b ix iy)
    (λ (b : (j ≡ length l) × (upper v ≡ y)). absurd (upper-alone views id i v x log by ps qs left at t apart a ix (subst (λ (z : View). Has z by qs) (sym b.1) iy)))
    (at-end l (upper v) y j ej))
    (λ (a : (i ≡ length l) × (upper v ≡ x)). ⊎_elim
    (λ (b : get_elem? l j ≡ some y). absurd (upper-alone views id j v y log by qs ps left at t apart b iy (subst (λ (z : View). Has z by ps) (sym a.1) ix)))
    (λ (b : (j ≡ length l) × (upper v ≡ y)). a.0 ∙ sym b.0)
    (at-end l (upper v) y j ej))
    (at-end l (upper v) x i ei)

module _ {E : Type 0} (state : E → State) (root : E → E) (begun : E) where
  abbrev St : Type 0
  St = table.State (Option (Slot E)) View

  abbrev M : Type 0
  M = Me (Option (Slot E)) View

  abbrev Rule : St → Type 0
  Rule = KeptTable state root begun

  -- each seat knows its part, where the seat id has the view w
  each-set : (views : List View) (id : ℕ) (w : View) (P : ℕ → View → Type 0) → P id w → ((j : ℕ) (u : View) → j ≢ id → get_elem? views j ≡ some u → P j u)
      → (j : ℕ) (u : View) → get_elem? (set views id w) j ≡ some u → P j u
  each-set views id w P mine others j u e = ⊎_elim (λ (t : (j ≡ id) × (w ≡ u)). subst (λ (x : ℕ × View). P x.0 x.1) (λ i. (sym t.0 i, t.1 i)) mine)
      (λ (t : (j ≢ id) × (get_elem? views j ≡ some u)). others j u t.0 t.1) (at_set views id j w u e)

  -- nothing changes
  idles : (s : St) (r : Rule s) (i id : ℕ) (me : M) → get_elem? s.views id ≡ some me.0 → Rule (stepped s i (get_or s.words i 0) id me.1 me.0 keeps)
  idles s r i id me at = subst (λ (x : List ℕ × List View). Rule record { words = x.0; homes = s.homes; views = x.1 }) (λ k. (sym (set-get_or s.words i 0) k, sym (set_again s.views id me.0 at) k)) r

  opens : (callers : ℕ) (slot : Slot E) → (state slot.engine).halted ≡ false → slot.engine ≡ begun → Rule (opening (0 ∷ 0 ∷ []) (Some slot ∷ []) (first_view callers (state slot.engine)))
  opens callers slot runs is = record {
    log = [];
    start = state slot.engine;
    callers = callers;
    holder = 0;
    wide = refl;
    count = refl;
    legal = tt;
    named = tt;
    free = λ _. (slot, refl, fits-first (state slot.engine) runs, ap root is);
    each = first_knows;
    apart = first_apart;
  }
    where
      first : View
      first = first_view callers (state slot.engine)

      own_of : (by : ℕ) (ps : List ℕ) → Has first by ps → (by < callers) × (ps ≡ [])
      own_of by ps h = ⊎_elim (λ (a : (0 ≤ by) × (by < callers) × (ps ≡ [])). (a.1, a.2)) (λ (a : LiesAmong (by, ps) []). absurd (no-met (by, ps) a)) h

      first_knows : (j : ℕ) (v : View) → get_elem? (first ∷ []) j ≡ some v → Knows [] (state slot.engine) callers 0 0 j v
      first_knows zero v e = subst (Knows [] (state slot.engine) callers 0 0 0) (some-injective first v e) (record {
        same = λ _. (refl, refl);
        tells = record { begins = ([], refl); own = λ by ps h. (sym (own_of by ps h).1, sym (own_of by ps h).1); bounded = λ by ps h. (own_of by ps h).0; alone = λ by ps _ _ a. no-met (by, ps) a; first = ([], refl); second = ([], refl) };
        has = λ h. absurd cc;
      })
      first_knows (suc j) v e = absurd (some-ne-none v (sym e))

      first_apart : Apart (first ∷ [])
      first_apart zero zero v w by ps qs ei ej iv iw = refl
      first_apart zero (suc j) v w by ps qs ei ej iv iw = absurd (some-ne-none w (sym ej))
      first_apart (suc i) j v w by ps qs ei ej iv iw = absurd (some-ne-none v (sym ei))

  pub opens_at : (callers : ℕ) (items : List (Option (Slot E))) (slot : Slot E) → items ≡ Some slot ∷ [] → begun ≡ slot.engine → (state slot.engine).halted ≡ false → Rule (opening (0 ∷ 0 ∷ []) items (first_view callers (state begun)))
  opens_at callers items slot is same runs = subst (λ (x : List (Option (Slot E)) × E). Rule (opening (0 ∷ 0 ∷ []) x.0 (first_view callers (state x.1)))) (λ i. (sym is i, sym same i)) (opens callers slot runs (sym same))

  -- a view that sees the whole history
  pub sees-all : (log : List Entry) (v : View) (holds : Bool) → TellsView log v → TellsView log (sees v holds log v.mine)
  sees-all log v holds t = record { begins = begins-self log; own = λ by ps h. ((t.own by ps h).0, (t.own by ps h).0); bounded = t.bounded; alone = t.alone; first = begins-trans v.one v.seen log t.first t.begins; second = begins-trans v.two v.seen log t.second t.begins }

  took : (s : St) (r : Rule s) (id : ℕ) (v : View) → get_elem? s.views id ≡ some v → v.live ≡ true → get_or s.words 0 0 ≡ 0
      → Rule record { words = set s.words 0 1; homes = set s.homes 0 none; views = set s.views id (sees v true r.log v.mine) }
  took s r id v at live free = let k = r.each id v at in let now : get_or (set s.words 0 1) 0 0 ≡ 1 = get_or-set_same s.words 0 1 0 (omega (arith, r.wide)) in record {
    log = r.log;
    start = r.start;
    callers = r.callers;
    holder = id;
    wide = length-set s.words 0 1 ∙ r.wide;
    count = get_or-set_other s.words 0 1 1 0 (λ h. absurd (omega arith)) ∙ r.count;
    legal = r.legal;
    named = r.named;
    free = λ h. absurd (omega (arith, h, now));
    each = each-set s.views id (sees v true r.log v.mine) (Knows r.log r.start r.callers (get_or (set s.words 0 1) 0 0) id)
        (record { same = k.same; tells = sees-all r.log v true k.tells; has = λ _. (now, refl, refl, live) })
        (λ j u other e. let o = r.each j u e in record { same = o.same; tells = o.tells; has = λ h. absurd (omega (arith, (o.has h).0, free)) });
    apart = apart-set s.views id v (sees v true r.log v.mine) at (λ by ps h. (ps, h)) r.apart;
  }

  pub takes_it : (first : Option E) → first ≡ Some begun → (slots id : ℕ) (me : M) → me.0.live ≡ true → Allows Rule slots id me 0 (λ n. either (eqb n 0) 1 n) (taken_turn state root first (step slots 0 0 1 none) me)
  takes_it first known slots id me live s r _ at _ = let x : ℕ = get_or s.words 0 0 in let k = r.each id me.0 at in let same = k.same live in dite (ℕ_discrete x 0)
      (λ hit. let f = r.free hit in let w : View = sees me.0 true r.log me.0.mine in (
        w,
        takes 0 (Some f.0),
        f.1,
        subst (λ (b : Bool). Rule (stepped s 0 (either b 1 x) id me.1 w (takes 0 (Some f.0)))) (sym (eq-eqb x 0 hit)) (took s r id me.0 at live hit),
        (
          (λ _ _. (
            f.0,
            r.log,
            refl,
            k.tells,
            subst (λ (c : State). Legal c r.log) (sym same.0) r.legal,
            subst (λ (c : State). FitsHistory c r.log (state f.0.engine)) (sym same.0) f.2,
            subst (λ (n : ℕ). Named n r.log) (sym same.1) r.named,
            (λ e is. let b : begun ≡ e = some-is (sym known ∙ is) in f.3 ∙ ap root b),
          )),
          λ not. absurd (not hit),
        ),
      ))
      (λ miss. (
        me.0,
        keeps,
        tt,
        subst (λ (b : Bool). Rule (stepped s 0 (either b 1 x) id me.1 me.0 keeps)) (sym (ne_eqb x 0 miss)) (idles s r 0 id me at),
        ((λ hit. absurd (miss hit)), λ _. refl),
      ))
    where
      some-is : {a b : E} → Some a ≡ Some b → a ≡ b
      some-is e = cc e

  pub counts : (slots id : ℕ) (me : M) → Allows Rule slots id me 1 (λ n. n) (count_seen (step slots 1 0 0 none) me)
  counts slots id me s r _ at _ = (me.0, keeps, tt, idles s r 1 id me at, (refl, λ h. r.count ∙ ap length ((r.each id me.0 at).has h).2))

  pub looks : (slots id : ℕ) (me : M) → Allows Rule slots id me 1 (λ n. n) (looked (step slots 1 0 0 none) me)
  looks slots id me s r _ at _ = let k = r.each id me.0 at in let t = k.tells in (
    me.0,
    keeps,
    tt,
    idles s r 1 id me at,
    (
      refl,
      record { begins = begins-self me.0.seen; own = λ by ps h. ((t.own by ps h).1, (t.own by ps h).1); bounded = t.bounded; alone = t.alone; first = t.first; second = t.second },
      λ live. legal-prefix me.0.start me.0.seen r.log t.begins (subst (λ (c : State). Legal c r.log) (sym (k.same live).0) r.legal),
    ),
  )

  -- the seat that has the engine and stands for one caller adds that caller's entry
  grown : (s : St) (r : Rule s) (id n : ℕ) (v : View) (e : Entry) → get_elem? s.views id ≡ some v → v.holds ≡ true → n ≡ length v.seen → Legal v.start (v.seen ++ e ∷ []) → IsOneSeat v → e.caller ≡ v.low
      → Rule record { words = set s.words 1 (n + 1); homes = s.homes; views = set s.views id (sees v true (v.seen ++ e ∷ []) (v.mine ++ (n + 1) ∷ [])) }
  grown s r id n v e at holds len right one named =
      let k = r.each id v at in let h = k.has holds in let log : List Entry = v.seen ++ e ∷ [] in let w : View = sees v true log (v.mine ++ (n + 1) ∷ []) in
      let same : get_or (set s.words 1 (n + 1)) 0 0 ≡ get_or s.words 0 0 = get_or-set_other s.words 1 0 (n + 1) 0 (λ z. absurd (omega arith)) in
      let mine : Has v v.low v.mine = inl (omega arith, omega arith, refl) in
      let old : places v.low v.seen ≡ v.mine = (k.tells.own v.low v.mine mine).1 in
      let new : places e.caller log ≡ v.mine ++ (n + 1) ∷ [] = places-own v.seen e (n + 1) (omega (arith, len)) ∙ ap (λ l. l ++ (n + 1) ∷ []) (ap (λ b. places b v.seen) named ∙ old) in record {
        log = log;
        start = r.start;
        callers = r.callers;
        holder = r.holder;
        wide = length-set s.words 1 (n + 1) ∙ r.wide;
        count = get_or-set_same s.words 1 (n + 1) 0 (omega (arith, r.wide)) ∙ omega (arith, length-append v.seen (e ∷ []), len);
        legal = subst (λ (c : State). Legal c log) (k.same h.3).0 right;
        named = named-snoc r.callers v.seen e (subst (Named r.callers) h.2 r.named) (subst (λ (b : ℕ). b < r.callers) (sym named) (subst (λ (c : ℕ). v.low < c) (k.same h.3).1 (k.tells.bounded v.low v.mine mine)));
        free = λ z. absurd (omega (arith, z, same, h.0));
        each = each-set s.views id w (Knows log r.start r.callers (get_or (set s.words 1 (n + 1)) 0 0) r.holder)
            (record {
              same = k.same;
              tells = record {
                begins = begins-self log;
                own = λ by ps i. let p = grown-own r.log v e (n + 1) by ps k.tells named one new i in (p, p);
                bounded = λ by ps i. ⊎_elim (λ (a : (v.low ≤ by) × (by < v.high) × (ps ≡ w.mine)). k.tells.bounded by v.mine (inl (a.0, a.1, refl))) (λ (a : LiesAmong (by, ps) v.met). k.tells.bounded by ps (inr a)) i;
                alone = k.tells.alone;
                first = begins-more v.one v.seen (e ∷ []) k.tells.first;
                second = begins-more v.two v.seen (e ∷ []) k.tells.second;
              };
              has = λ _. (same ∙ h.0, h.1, refl, h.3);
            })
            (λ j u other at'. let o = r.each j u at' in record {
              same = o.same;
              tells = record {
                begins = begins-more u.seen v.seen (e ∷ []) (subst (BeginsWith u.seen) h.2 o.tells.begins);
                own = λ by ps i. (places-other by v.seen e (λ is. other (r.apart j id u v by ps v.mine at' at i (subst (λ (x : ℕ). Has v x v.mine) (sym named ∙ is) mine))) ∙ (ap (places by) (sym h.2) ∙ (o.tells.own by ps i).0), (o.tells.own by ps i).1);
                bounded = o.tells.bounded;
                alone = o.tells.alone;
                first = o.tells.first;
                second = o.tells.second;
              };
              has = λ z. absurd (other ((o.has z).1 ∙ sym h.1));
            });
        apart = apart-set s.views id v w at (λ by ps i. ⊎_elim (λ (a : (v.low ≤ by) × (by < v.high) × (ps ≡ w.mine)). (v.mine, inl (a.0, a.1, refl))) (λ (a : LiesAmong (by, ps) v.met). (ps, inr a)) i) r.apart;
      }

  pub adds : (slots id n : ℕ) (me : M) (slot : Slot E) → me.1 ≡ (0, Some slot) ∷ [] → me.0.holds ≡ true → n ≡ length me.0.seen → Legal me.0.start (me.0.seen ++ entry_in state me.0.low slot ∷ []) → IsOneSeat me.0
      → Allows Rule slots id me 1 (λ _. n + 1) (λ _. added state (step slots 1 (n + 1) 0 none) me (n + 1))
  adds slots id n me slot out holds len right one s r _ at _ = let v : View = me.0 in (
    sees v true (v.seen ++ entry_in state v.low slot ∷ []) (v.mine ++ (n + 1) ∷ []),
    keeps,
    tt,
    grown s r id n v (entry_in state v.low slot) at holds len right one refl,
    (λ slot' out'. ap (λ (l : Slot E). (sees v true (v.seen ++ entry_in state v.low l ∷ []) (v.mine ++ (n + 1) ∷ []), me.1)) (some-one (ap first_of (sym out ∙ out')))),
  )
    where
      first_of : List (ℕ × Option (Slot E)) → Option (Slot E)
      first_of [] = None
      first_of (x ∷ xs) = x.1

      some-one : {a b : Slot E} → Some a ≡ Some b → a ≡ b
      some-one e = cc

  gave : (s : St) (r : Rule s) (id : ℕ) (v : View) (slot : Slot E) → get_elem? s.views id ≡ some v → 0 < length s.homes → v.holds ≡ true → FitsHistory v.start v.seen (state slot.engine) → root slot.engine ≡ root begun
      → Rule record { words = set s.words 0 0; homes = set s.homes 0 (some (Some slot)); views = set s.views id (sees v false v.seen v.mine) }
  gave s r id v slot at deep holds fits rooted = let k = r.each id v at in let h = k.has holds in let w : View = sees v false v.seen v.mine in let t = k.tells in record {
    log = r.log;
    start = r.start;
    callers = r.callers;
    holder = r.holder;
    wide = length-set s.words 0 0 ∙ r.wide;
    count = get_or-set_other s.words 0 1 0 0 (λ z. absurd (omega arith)) ∙ r.count;
    legal = r.legal;
    named = r.named;
    free = λ _. (slot, set_here s.homes 0 (some (Some slot)) deep, subst (λ (l : List Entry). FitsHistory r.start l (state slot.engine)) (sym h.2) (subst (λ (c : State). FitsHistory c v.seen (state slot.engine)) (k.same h.3).0 fits), rooted);
    each = each-set s.views id w (Knows r.log r.start r.callers (get_or (set s.words 0 0) 0 0) r.holder)
        (record { same = k.same; tells = record { begins = t.begins; own = t.own; bounded = t.bounded; alone = t.alone; first = t.first; second = t.second }; has = λ z. absurd cc })
        (λ j u other e. let o = r.each j u e in record { same = o.same; tells = o.tells; has = λ z. absurd (other ((o.has z).1 ∙ sym h.1)) });
    apart = apart-set s.views id v w at (λ by ps z. (ps, z)) r.apart;
  }

  pub gives_back : (slots id : ℕ) (me : M) (slot : Slot E) → slots ≡ 1 → me.1 ≡ (0, Some slot) ∷ [] → me.0.holds ≡ true → FitsHistory me.0.start me.0.seen (state slot.engine) → root slot.engine ≡ root begun
      → Allows Rule slots id me 0 (λ _. 0) (λ _. handed_back (step slots 0 0 0 none) me 0)
  gives_back slots id me slot one out holds fits rooted s r deep at _ = let w : View = sees me.0 false me.0.seen me.0.mine in
      subst (λ (c : List (ℕ × Option (Slot E))). (w' : View) × (a : Act (Option (Slot E))) × Valid s.homes c a × Rule (stepped s 0 0 id c w' a) × handed_back (step slots 0 0 0 none) (me.0, c) 0 (w', carried_after c a)) (sym out)
      (w, gives, tt, gave s r id me.0 slot at (omega (arith, deep, one)) holds fits rooted, refl)

  dealt : (s : St) (r : Rule s) (id : ℕ) (v : View) → v.low < v.high → get_elem? s.views id ≡ some v → Rule record { words = s.words; homes = s.homes; views = set s.views id (lower v) ++ upper v ∷ [] }
  dealt s r id v left at = let k = r.each id v at in let t = k.tells in let l : List View = set s.views id (lower v) in let hold : ℕ = get_or s.words 0 0 in record {
    log = r.log;
    start = r.start;
    callers = r.callers;
    holder = r.holder;
    wide = r.wide;
    count = r.count;
    legal = r.legal;
    named = r.named;
    free = r.free;
    each = λ j u e. ⊎_elim
        (λ (old : get_elem? l j ≡ some u). each-set s.views id (lower v) (Knows r.log r.start r.callers hold r.holder)
        (record {
          same = k.same;
          tells = record { begins = t.begins; own = λ by ps i. t.own by ps (lower-has v by ps i); bounded = λ by ps i. t.bounded by ps (lower-has v by ps i); alone = λ by ps a b. t.alone by ps a (omega (arith, b)); first = t.first; second = t.second };
          has = k.has;
        }) (λ j' u' other e'. r.each j' u' e') j u old)
        (λ (new : (j ≡ length l) × (upper v ≡ u)). subst (Knows r.log r.start r.callers hold r.holder j) new.1
        (record {
          same = k.same;
          tells = record { begins = t.begins; own = λ by ps i. t.own by ps (upper-has v by ps left i); bounded = λ by ps i. t.bounded by ps (upper-has v by ps left i); alone = λ by ps _ _ a. no-met (by, ps) a; first = t.first; second = t.second };
          has = λ h. absurd cc;
        }))
        (at-end l (upper v) u j e);
    apart = apart-deal s.views id v r.log left at t r.apart;
  }

  pub deals : (id : ℕ) (v : View) → v.low < v.high → Splits Rule id v (lower v) (upper v)
  deals id v left s r at = dealt s r id v left at

  met : (s : St) (r : Rule s) (id other : ℕ) (v u : View) → get_elem? s.views id ≡ some v → get_elem? s.views other ≡ some u → ¬ (other ≡ id) → v.holds ≡ false → v.live ≡ true → u.live ≡ true → IsOneSeat u
      → Rule record { words = s.words; homes = s.homes; views = set (set s.views id (joined_views v u)) other blank_view }
  met s r id other v u at at' two bare live live' one = let k = r.each id v at in let k' = r.each other u at' in let t = k.tells in let t' = k'.tells in
      let b = longer-of v.seen u.seen r.log t.begins t'.begins in let hold : ℕ = get_or s.words 0 0 in record {
        log = r.log;
        start = r.start;
        callers = r.callers;
        holder = r.holder;
        wide = r.wide;
        count = r.count;
        legal = r.legal;
        named = r.named;
        free = r.free;
        each = each-set (set s.views id (joined_views v u)) other blank_view (Knows r.log r.start r.callers hold r.holder)
            (record {
              same = λ h. absurd cc;
              tells = record { begins = (r.log, refl); own = λ by ps i. absurd (blank-has by ps i); bounded = λ by ps i. absurd (blank-has by ps i); alone = λ by ps _ _ a. no-met (by, ps) a; first = ([], refl); second = ([], refl) };
              has = λ h. absurd cc;
            })
            (λ j x apart e. each-set s.views id (joined_views v u) (Knows r.log r.start r.callers hold r.holder)
            (record {
              same = k.same;
              tells = record {
                begins = b.2;
                own = λ by ps i. ⊎_elim
                    (λ (h : Has v by ps). let o = t.own by ps h in (o.0, places-between by v.seen (longer v.seen u.seen) r.log b.0 b.2 (o.1 ∙ sym o.0) ∙ o.1))
                    (λ (h : Has u by ps). let o = t'.own by ps h in (o.0, places-between by u.seen (longer v.seen u.seen) r.log b.1 b.2 (o.1 ∙ sym o.0) ∙ o.1))
                    (joined-has v u by ps one i);
                bounded = λ by ps i. ⊎_elim (λ (h : Has v by ps). t.bounded by ps h) (λ (h : Has u by ps). subst (λ (n : ℕ). by < n) ((k'.same live').1 ∙ sym (k.same live).1) (t'.bounded by ps h)) (joined-has v u by ps one i);
                alone = λ by ps x y a. ⊎_elim (λ (c : LiesAmong (by, ps) v.met). t.alone by ps x y c)
                    (λ (c : LiesAmong (by, ps) ((u.low, u.mine) ∷ u.met)). absurd (two (sym (r.apart id other v u by v.mine ps at at' (inl (x, y, refl)) (others-has u by ps one c)))))
                    (among-split (by, ps) v.met ((u.low, u.mine) ∷ u.met) a);
                first = b.0;
                second = b.1;
              };
              has = λ h. absurd (cc (bare, h));
            }) (λ j' x' _ e'. r.each j' x' e') j x e);
        apart = apart-merge s.views id other v u (joined_views v u) at at' two
            (λ by ps i. ⊎_elim (λ (h : Has v by ps). inl (ps, h)) (λ (h : Has u by ps). inr (ps, h)) (joined-has v u by ps one i)) r.apart;
      }

  pub meets : (id other : ℕ) (v u : View) → v.holds ≡ false → v.live ≡ true → u.live ≡ true → IsOneSeat u → Joins Rule id v other u (joined_views v u) blank_view
  meets id other v u bare live live' one s r at two at' = met s r id other v u at (sym (set_else s.views id other (joined_views v u) two) ∙ at') two bare live live' one
