-- What a seat with the engine has, from what its steps told.
use Rattle.std.proofs.Common.{◌≡◌, ℕ, ◌+◌, ◌<◌, false, true, List, [], ◌∷◌, ◌++◌, length, refl, ap, sym, ◌∙◌, subst, Option, Some, None}
use mathlib.Core.Option.{none}
use Rattle.std.proofs.lemmas.List.{append-nil}
use Rattle.atomic_table.specs.Table.{Me, step, rest, Allows}
use Rattle.vx_turn.specs.declared.ask.Ask.{Ask}
use Rattle.vx_turn.specs.declared.ask.Ask.TheVariants.{Ordered, Charged}
use Rattle.vx_turn.specs.declared.ask.Said.{Said}
use Rattle.vx_turn.specs.declared.ask.Said.TheVariants.{Replied, Worked}
use Rattle.vx_turn.specs.declared.ask.Job.TheVariants.{Apply, Fetch, Acked, Wait}
use Rattle.vx_turn.specs.declared.ask.JobReply.TheVariants as job
use Rattle.vx_turn.specs.declared.meaning.State.{State}
use Rattle.vx_turn.specs.declared.meaning.Entry.{Entry}
use Rattle.vx_turn.specs.declared.view.View.{View}
use Rattle.vx_turn.specs.declared.slot.Slot.{Slot}
use Rattle.vx_turn.specs.Acting.{EngineActs}
use Rattle.vx_turn.specs.History.{FitsHistory, Given, places, places_from, BeginsWith, Named}
use Rattle.vx_turn.specs.Turning.{Has, IsOneSeat, TellsView, KeptTable, sees, ask_in, said_in, entry_in, taken_turn, count_seen, added, handed_back, longer_by, HoldsTurn, Out, ReadyBack}
use Rattle.vx_turn.proofs.Histories.{acts-legal, acts-fits, places-rest, named-inside, some-place}
use Rattle.vx_turn.proofs.Keeps.{adds, gives_back}

-- where a pass stands for all callers, it has seen the whole history
pub covered : (callers : ℕ) (seen log : List Entry) (v : View) → v.seen ≡ seen → BeginsWith seen log → TellsView log v → Named callers log → ((by : ℕ) → by < callers → (ps : List ℕ) × Has v by ps) → log ≡ seen
covered callers seen log v is b t named all = whole b.0 b.1
  where
    whole : (more : List Entry) → log ≡ seen ++ more → log ≡ seen
    whole [] e = e ∙ append-nil seen
    whole (x ∷ more) e = let n : x.caller < callers = named-inside callers seen x more (subst (Named callers) e named) in let h = all x.caller n in let o = t.own x.caller h.0 h.1 in
        let none : places_from (length seen) x.caller (x ∷ more) ≡ [] = places-rest x.caller seen (x ∷ more) (ap (places x.caller) (sym e) ∙ (o.0 ∙ (sym o.1 ∙ ap (places x.caller) is))) in
        absurd (some-place (length seen) x more none)

pub given-of : (start : State) (log : List Entry) (s t : State) → FitsHistory start log s → (ask : Ask) (said : Said) → EngineActs s ask said t → Given start log ask said
given-of start log s t f (Charged (Fetch k)) (Worked (job.Done m) into) w = (w.tells.0, w.tells.1, f.0.keeps into w.tells.3)
given-of start log s t f (Charged (Fetch k)) (Worked job.Nothing into) w = tt
given-of start log s t f (Charged (Fetch k)) (Worked (job.Refused cause) into) w = tt
given-of start log s t f (Charged (Fetch k)) (Worked (job.Gone low) into) w = tt
given-of start log s t f (Charged (Apply k)) said w = tt
given-of start log s t f (Charged (Acked l n m)) said w = tt
given-of start log s t f (Charged (Wait k)) said w = tt
given-of start log s t f (Charged (Fetch k)) (Replied reply) w = tt
given-of start log s t f (Ordered call) said w = tt

module _ {E : Type 0} (state : E → State) (root : E → E) (begun : E) where
  abbrev M : Type 0
  M = Me (Option (Slot E)) View

  abbrev Carried : Type 0
  Carried = List (ℕ × Option (Slot E))

  pub held : (first : Option E) → first ≡ Some begun → (m0 m1 m2 m3 : M) (slots r n : ℕ) → m1 ≡ m0 → m0.1 ≡ [] → m0.0.live ≡ true → taken_turn state root first (step slots 0 0 1 none) m1 r m2 → r ≡ 0
      → count_seen (step slots 1 0 0 none) m2 n m3 → HoldsTurn state root begun m0.0 n m3
  held first known m0 m1 m2 m3 slots r n same bare live took zero counts =
      let took' : taken_turn state root first (step slots 0 0 1 none) m0 r m2 = subst (λ (m : M). taken_turn state root first (step slots 0 0 1 none) m r m2) same took in
      let t = took'.0 zero live in
      let is : m2 ≡ (sees m0.0 true t.1 m0.0.mine, (0, Some t.0) ∷ []) = t.2 ∙ ap (λ (c : Carried). (sees m0.0 true t.1 m0.0.mine, (0, Some t.0) ∷ c)) bare in
      (t.0, t.1, counts.0 ∙ is, t.3, t.4, t.5, t.6, t.7 begun known, counts.1 (ap (λ (m : M). m.0.holds) is) ∙ ap (λ (m : M). length m.0.seen) is)

  -- the seat has the slot in hand
  pub in_hand : (v : View) (n : ℕ) (m : M) → HoldsTurn state root begun v n m → (x : Option (Slot E)) × (m.1 ≡ (0, x) ∷ rest m.1)
  in_hand v n m h = (Some h.0, ap (λ (x : M). x.1) h.2 ∙ ap (λ (x : M). (0, Some h.0) ∷ rest x.1) (sym h.2))

  first_of : Carried → Option (Slot E)
  first_of [] = None
  first_of (x ∷ xs) = x.1

  some-one : {a b : Slot E} → Some a ≡ Some b → a ≡ b
  some-one e = cc

  -- the engine that was found is the one that the seat has
  found : (v : View) (n : ℕ) (m : M) (x : Option (Slot E)) (slot : Slot E) (h : HoldsTurn state root begun v n m) → m.1 ≡ (0, x) ∷ rest m.1 → x ≡ Some slot → h.0 ≡ slot
  unfolding first_of
  found v n m x slot h out is = some-one (sym (ap (λ (y : M). first_of y.1) h.2) ∙ (ap first_of out ∙ is))

  pub taken_out : (v : View) (n place : ℕ) (m m' : M) (x : Option (Slot E)) (slot : Slot E) → HoldsTurn state root begun v n m → m.1 ≡ (0, x) ∷ rest m.1 → x ≡ Some slot → m' ≡ (m.0, (0, None) ∷ rest m.1)
      → place ≡ n + 1 → place < 18446744073709551616 → Out state root begun v place slot.engine m'
  taken_out v n place m m' x slot h out is after next short = let same : h.0 ≡ slot = found v n m x slot h out is in record {
    log = h.1;
    seat = after ∙ ap (λ (y : M). (y.0, (0, None) ∷ rest y.1)) h.2;
    tells = h.3;
    legal = h.4;
    fits = subst (λ (l : Slot E). FitsHistory v.start h.1 (state l.engine)) same h.5;
    named = h.6;
    rooted = ap (λ (l : Slot E). root l.engine) (sym same) ∙ h.7;
    next = next ∙ ap (λ k. k + 1) h.8;
    short = short;
  }

  -- the engine has answered
  pub ready : (v : View) (place : ℕ) (engine : E) (m : M) (new : Slot E) (ask : Ask) (said : Said) → Out state root begun v place engine m → IsOneSeat v
      → EngineActs (state engine) ask said (state new.engine) → root new.engine ≡ root engine → new.before.value ≡ engine → ask_in new.last ≡ ask → said_in new.last ≡ said → ReadyBack state root begun m place new
  ready v place engine m new ask said o one acts rooted before_is ask_is said_is =
      let a : EngineActs (state new.before.value) (ask_in new.last) (said_in new.last) (state new.engine) =
      subst (λ (q : E × Ask × Said). EngineActs (state q.0) q.1 q.2 (state new.engine)) (λ i. (sym before_is i, sym ask_is i, sym said_is i)) acts in
      let f : FitsHistory v.start o.log (state new.before.value) = subst (λ (e : E). FitsHistory v.start o.log (state e)) (sym before_is) o.fits in
      subst (λ (x : M). ReadyBack state root begun x place new) (sym o.seat) (record {
        holds = refl;
        carried = refl;
        one = one;
        next = o.next;
        legal = acts-legal v.start o.log (state new.before.value) v.low (ask_in new.last) (said_in new.last) (state new.engine) o.legal f.0 a;
        fits = acts-fits v.start o.log (state new.before.value) v.low (ask_in new.last) (said_in new.last) (state new.engine) f a;
        rooted = rooted ∙ o.rooted;
      })

  -- the slot has the engine again
  pub filled : (m m' : M) (place : ℕ) (slot : Slot E) → ReadyBack state root begun m place slot → m' ≡ (m.0, (0, Some slot) ∷ rest m.1) → m' ≡ (m.0, (0, Some slot) ∷ [])
  filled m m' place slot r is = is ∙ ap (λ (c : Carried). (m.0, (0, Some slot) ∷ rest c)) r.carried

  pub ready_adds : (slots id place : ℕ) (m m' : M) (slot : Slot E) → ReadyBack state root begun m place slot → m' ≡ (m.0, (0, Some slot) ∷ []) → Allows (KeptTable state root begun) slots id m' 1 (λ _. place) (λ _. added state (step slots 1 place 0 none) m' place)
  ready_adds slots id place m m' slot r is =
      let P : M → ℕ → Type 0 = λ x k. Allows (KeptTable state root begun) slots id x 1 (λ _. k) (λ _. added state (step slots 1 k 0 none) x k) in
      let here : P (m.0, (0, Some slot) ∷ []) (length m.0.seen + 1) = adds state root begun slots id (length m.0.seen) (m.0, (0, Some slot) ∷ []) slot refl r.holds refl r.legal r.one in
      subst (λ (x : M × ℕ). P x.0 x.1) (λ i. (sym is i, sym r.next i)) here

  -- the view with the entry, before the engine is given back
  abbrev pub grown_by : View → ℕ → Slot E → View
  grown_by v place slot = sees v true (v.seen ++ entry_in state v.low slot ∷ []) (v.mine ++ place ∷ [])

  pub added_seat : (slots place : ℕ) (m m' m'' : M) (slot : Slot E) → m' ≡ (m.0, (0, Some slot) ∷ []) → added state (step slots 1 place 0 none) m' place m'' → m'' ≡ (grown_by m.0 place slot, (0, Some slot) ∷ [])
  added_seat slots place m m' m'' slot is told = subst (λ (x : M). added state (step slots 1 place 0 none) x place m'') is told slot refl

  pub ready_gives : (slots id place : ℕ) (m m' : M) (slot : Slot E) → slots ≡ 1 → ReadyBack state root begun m place slot → m' ≡ (grown_by m.0 place slot, (0, Some slot) ∷ [])
      → Allows (KeptTable state root begun) slots id m' 0 (λ _. 0) (λ _. handed_back (step slots 0 0 0 none) m' 0)
  ready_gives slots id place m m' slot one r is = subst (λ (x : M). Allows (KeptTable state root begun) slots id x 0 (λ _. 0) (λ _. handed_back (step slots 0 0 0 none) x 0)) (sym is)
      (gives_back state root begun slots id (grown_by m.0 place slot, (0, Some slot) ∷ []) slot one refl refl r.fits r.rooted)

  pub given_seat : (slots place : ℕ) (m m' m'' : M) (slot : Slot E) → m' ≡ (grown_by m.0 place slot, (0, Some slot) ∷ []) → handed_back (step slots 0 0 0 none) m' 0 m'' → m'' ≡ (longer_by state m.0 place slot, [])
  given_seat slots place m m' m'' slot is told = subst (λ (x : M). m'' ≡ (sees x.0 false x.0.seen x.0.mine, [])) is told
