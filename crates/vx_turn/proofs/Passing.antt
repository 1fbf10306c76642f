-- What a pass is after a call, a job and a meeting.
use Rattle.std.proofs.Common.{inl, ◌≡◌, ℕ, false, true, List, [], ◌∷◌, ◌++◌, length, refl, ap, sym, ◌∙◌, subst, arith, Option, length-append}
use Rattle.atomic_table.specs.Table.{Me}
use Rattle.vx_turn.specs.declared.ask.Ask.{Ask}
use Rattle.vx_turn.specs.declared.ask.Said.{Said}
use Rattle.vx_turn.specs.declared.meaning.State.{State}
use Rattle.vx_turn.specs.declared.meaning.Entry.{Entry}
use Rattle.vx_turn.specs.declared.view.View.{View}
use Rattle.vx_turn.specs.declared.slot.Slot.{Slot}
use Rattle.vx_turn.specs.declared.passes.Pass.{Pass}
use Rattle.vx_turn.specs.Acting.{EngineActs}
use Rattle.vx_turn.specs.History.{Legal, Given, FitsHistory, Named, places, places_from, BeginsWith}
use Rattle.vx_turn.specs.Turning.{Has, IsOneSeat, TellsView, sees, ask_in, said_in, entry_in, longer_by, joined_views, Out}
use Rattle.vx_turn.specs.Resting.{only, IsAtRest}
use Rattle.vx_turn.specs.Passing.{pass_view, PassCalls, Meets}
use Rattle.vx_turn.proofs.Holding.{given-of}
use Rattle.vx_turn.proofs.Keeps.{grown-own, sees-all}
use Rattle.vx_turn.proofs.Histories.{acts-legal, places-own, places-rest, named-snoc}

pub rests : (views : List View) (w : View) (number : ℕ) → views ≡ w ∷ [] → w.holds ≡ false → w.low ≡ number → IsOneSeat w → w.live ≡ true → IsAtRest number views
rests views w number is bare low one live = subst (IsAtRest number) (sym is) (refl, bare, low, one, live)

module _ {E : Type 0} (state : E → State) (root : E → E) (begun : E) where
  abbrev M : Type 0
  M = Me (Option (Slot E)) View

  -- the view of a pass once its entry joined
  abbrev pub after_ask : View → List Entry → ℕ → Slot E → View
  after_ask v log place slot = longer_by state (sees v true log v.mine) place slot

  pub call_done : (p q : Pass) (v : View) (place : ℕ) (engine : E) (m : M) (slot : Slot E) (ask : Ask) (said : Said) (o : Out state root begun v place engine m) → pass_view p ≡ v → v.low ≡ p.number → IsOneSeat v
      → EngineActs (state engine) ask said (state slot.engine) → slot.before.value ≡ engine → ask_in slot.last ≡ ask → said_in slot.last ≡ said → pass_view q ≡ after_ask v o.log place slot → PassCalls p ask place said q
  call_done p q v place engine m slot ask said o is low one acts before_is ask_is said_is now = let e : Entry = entry_in state v.low slot in
      let t = o.tells in let mine = t.own v.low v.mine (inl (omega arith, omega (arith, one), refl)) in
      let a : EngineActs (state slot.before.value) (ask_in slot.last) (said_in slot.last) (state slot.engine) =
      subst (λ (x : E × Ask × Said). EngineActs (state x.0) x.1 x.2 (state slot.engine)) (λ i. (sym before_is i, sym ask_is i, sym said_is i)) acts in
      let f : FitsHistory v.start o.log (state slot.before.value) = subst (λ (x : E). FitsHistory v.start o.log (state x)) (sym before_is) o.fits in record {
        between = t.begins.0;
        before = (state slot.before.value).counts;
        after = (state slot.engine).counts;
        long = ap (λ (w : View). length w.seen) now ∙ omega (arith, length-append o.log (e ∷ []), o.next);
        ends = ap (λ (w : View). w.seen) now ∙ (ap (λ l. l ++ e ∷ []) (t.begins.1 ∙ ap (λ (w : View). w.seen ++ t.begins.0) (sym is))
            ∙ (λ i. ((pass_view p).seen ++ t.begins.0) ++ record { caller = low i; ask = ask_is i; said = said_is i; before = (state slot.before.value).counts; after = (state slot.engine).counts } ∷ []));
        legal = subst (λ (w : View). Legal w.start w.seen) (sym now) (acts-legal v.start o.log (state slot.before.value) v.low (ask_in slot.last) (said_in slot.last) (state slot.engine) o.legal f.0 a);
        start = ap (λ (w : View). w.start) now ∙ ap (λ (w : View). w.start) (sym is);
        callers = ap (λ (w : View). w.callers) now ∙ ap (λ (w : View). w.callers) (sym is);
        mine = ap (λ (w : View). w.mine) now ∙ ap (λ (w : View). w.mine ++ place ∷ []) (sym is);
        met = ap (λ (w : View). w.met) now ∙ ap (λ (w : View). w.met) (sym is);
        own = subst (λ (w : View). (by : ℕ) (ps : List ℕ) → Has w by ps → places by w.seen ≡ ps) (sym now)
            (λ by ps h. grown-own o.log (sees v true o.log v.mine) e place by ps (sees-all state root begun o.log v true t) refl one
            (places-own o.log e place (sym o.next) ∙ ap (λ l. l ++ place ∷ []) mine.0) h);
        others = let none : places_from (length v.seen) v.low t.begins.0 ≡ [] = places-rest v.low v.seen t.begins.0 (ap (places v.low) (sym t.begins.1) ∙ (mine.0 ∙ sym mine.1)) in
            subst (λ (x : View × ℕ). places_from (length x.0.seen) x.1 t.begins.0 ≡ []) (λ i. (sym is i, low i)) none;
        given = subst (λ (x : View × View × Ask × Said). Given x.0.start (x.1.seen ++ t.begins.0) x.2 x.3) (λ i. (sym now i, sym is i, ask_is i, said_is i))
            (subst (λ (l : List Entry). Given v.start l (ask_in slot.last) (said_in slot.last)) t.begins.1 (given-of v.start o.log (state slot.before.value) (state slot.engine) f (ask_in slot.last) (said_in slot.last) a));
        named = subst (λ (w : View). Named w.callers w.seen) (sym now) (named-snoc v.callers o.log e o.named (t.bounded v.low v.mine (inl (omega arith, omega (arith, one), refl))));
      }

pub meet_done : (p other q : Pass) (v u : View) → pass_view p ≡ v → pass_view other ≡ u → u.low ≡ other.number → pass_view q ≡ joined_views v u → TellsView (joined_views v u).seen (joined_views v u) → Legal (joined_views v u).start (joined_views v u).seen → Meets p other q
meet_done p other q v u is is' low now t legal = record {
  legal = subst (λ (w : View). Legal w.start w.seen) (sym now) legal;
  first = subst (λ (x : View × View). BeginsWith x.0.seen x.1.seen) (λ i. (sym is i, sym now i)) t.first;
  second = subst (λ (x : View × View). BeginsWith x.0.seen x.1.seen) (λ i. (sym is' i, sym now i)) t.second;
  start = ap (λ (w : View). w.start) now ∙ ap (λ (w : View). w.start) (sym is);
  callers = ap (λ (w : View). w.callers) now ∙ ap (λ (w : View). w.callers) (sym is);
  mine = ap (λ (w : View). w.mine) now ∙ ap (λ (w : View). w.mine) (sym is);
  met = ap (λ (w : View). w.met) now ∙ (λ i. (sym is i).met ++ (low i, (sym is' i).mine) ∷ (sym is' i).met);
  own = subst (λ (w : View). (by : ℕ) (ps : List ℕ) → Has w by ps → places by w.seen ≡ ps) (sym now) (λ by ps h. (t.own by ps h).1);
}

-- the view of a pass that was made of its seat
pub view_same : (views : List View) (w : View) → views ≡ w ∷ [] → only views ≡ w
view_same views w is = ap only is
