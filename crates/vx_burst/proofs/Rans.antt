-- The whole of a burst, from its parts.
use Rattle.std.proofs.Common.{◌≡◌, ℕ, zero, suc, ◌<◌, ◌==◌, List, [], ◌∷◌, ◌++◌, length, take, drop, refl, ap, sym, subst, arith, ne_eqb}
use Rattle.atomic_table.specs.Seated.{TableId}
use Rattle.vx_model.specs.Numbers.{one_if}
use Rattle.vx_model.proofs.Lists.{get_there}
use Rattle.vx_turn.specs.declared.meaning.Entry.{Entry}
use Rattle.vx_turn.specs.declared.meaning.State.{State}
use Rattle.vx_settle.specs.declared.peer.Stand.{Stand}
use Rattle.vx_settle.specs.Bringing.{Events, HaveLinks}
use Rattle.vx_settle.proofs.ManyPeers.{some-one, get-inside}
use Rattle.vx_burst_threads.specs.declared.plan.Planned.{Planned}
use Rattle.vx_burst_threads.specs.declared.plan.Answered.{Answered}
use Rattle.vx_burst.specs.Setting.{AreBlank}
use Rattle.vx_burst.specs.Placing.{Renumbered}
use Rattle.vx_burst.specs.Finishing.{BurstStage, StagesOn, ArePlaced, IsAskedAgain, unplaced, WaitsOn}
use Rattle.vx_burst.specs.Ending.{HasJoined, Ran}
use Rattle.vx_burst.proofs.Ends.{joined-of, joined-underway}
use Rattle.vx_burst.proofs.Placed.{joined-stage}
use Rattle.vx_burst.proofs.Legals.{stay-leads}

-- where all have places none has none
pub unplaced-none : (xs : List Answered) → ArePlaced xs (length xs) → unplaced xs ≡ 0
unplaced-none [] placed = refl
unplaced-none (a ∷ xs) placed = let e : one_if (a.place == 0) ≡ 0 = ap one_if (ne_eqb a.place 0 (λ z. absurd (let some = placed 0 a (omega arith) refl in omega (arith, z, some)))) in
    let r = unplaced-none xs (λ j x lt at. placed (suc j) x (omega (arith, lt)) at) in omega (arith, e, r)

positive : (n : ℕ) → one_if (n == 0) ≡ 0 → 0 < n
positive zero e = absurd (omega (arith, e))
positive (suc n) e = omega arith

pub placed-all : (xs : List Answered) (n : ℕ) → unplaced xs ≡ 0 → ArePlaced xs n
placed-all [] n none j x lt at = absurd (cc at)
placed-all (a ∷ xs) n none zero x lt at = let e : one_if (a.place == 0) ≡ 0 = omega (arith, none) in let p = positive a.place e in
    let s : a.place ≡ x.place = ap (λ (y : Answered). y.place) (some-one at) in omega (arith, p, s)
placed-all (a ∷ xs) n none (suc j) x lt at = placed-all xs (suc j) (omega (arith, none)) j x (omega arith) at

-- a slice that was written back over items that are as many
pub overwritten : {A : Type 0} (n : ℕ) (xs old : List A) → length xs ≡ n → take n (xs ++ drop (length xs) old) ≡ xs
overwritten n xs old is = subst (λ k. take k (xs ++ drop (length xs) old) ≡ xs) is (front xs (drop (length xs) old))
  where
    front : {A : Type 0} (xs ys : List A) → take (length xs) (xs ++ ys) ≡ xs
    front [] ys = refl
    front (x ∷ xs) ys = ap (λ l. x ∷ l) (front xs ys)

module _ {P : Type 0} (stand : P → Stand) (root : P → P) where
  -- what the threads left is the first stage
  pub joined-stages : {E : Type 0} (state : E → State) (base : E → E) (first : E) (z : TableId) (callers : ℕ) (plan : List Planned) (firsts : List P) (blanks : List Answered) (engine : E) (out : List P) (olds news : List Answered) (n : ℕ)
      → HasJoined stand root state base first z callers plan firsts blanks engine out olds → AreBlank blanks → length blanks ≡ length plan → Renumbered olds news n
      → (log : List Entry) × (stays : Events) × BurstStage stand root (state first) firsts plan log (state engine) out news n stays
  joined-stages state base first z callers plan firsts blanks engine out olds news n h blank long r =
      let o = joined-of stand root state base first z callers plan firsts blanks engine out olds h in
      let u = joined-underway stand root z (state first) callers plan firsts h.pass h.last out h.closes.log o.0 (state engine) o.2 o.3 in
      let s = joined-stage stand root z (state first) callers plan firsts h.pass h.last out h.closes.log o.0 blanks olds r.spots blank o.1 long r.noted r.rises news r.numbered (state engine) u in
      (h.closes.log, s.0, subst (λ m. BurstStage stand root (state first) firsts plan h.closes.log (state engine) out news m s.0) r.long s.1)

  -- the links of the peers are the engine's still
  pub stage-links : (start : State) (firsts : List P) (plan : List Planned) (log : List Entry) (s : State) (ps : List P) (answers : List Answered) (n : ℕ) (stays : Events) → BurstStage stand root start firsts plan log s ps answers n stays
      → HaveLinks stand start firsts → HaveLinks stand s ps
  stage-links start firsts plan log s ps answers n stays g links i q now = let u = g.underway in let inside = get-inside ps i q now in let k = u.long in let p = get_there firsts i (omega (arith, k, inside)) in
      let w = (u.each i p.0 q p.1 now).goes.link in let l = links i p.0 p.1 in let e = u.fits.0.links in omega (arith, w, l, e)

  -- the calls that were left open were asked, and the logged ones were waited for
  pub ran : {E : Type 0} (state : E → State) (base : E → E) (plan : List Planned) (first : E) (firsts : List P) (log : List Entry) (stays : Events) (s : State) (ps : List P) (xs : List Answered) (n : ℕ)
      (t : State) (qs : List P) (ys : List Answered) (m : ℕ) (engine : E) (rs : List P) (zs : List Answered) → BurstStage stand root (state first) firsts plan log s ps xs n stays → StagesOn stand root plan s ps xs n t qs ys m
      → ArePlaced ys (length plan) → WaitsOn stand root t qs ys (length ys) (state engine) rs zs → base engine ≡ base first → Ran stand root state base plan first firsts engine rs zs
  ran state base plan first firsts log stays s ps xs n t qs ys m engine rs zs g on placed waits rooted =
      let a = on (state first) firsts log stays g in
      let long = a.2.long in let rest = a.2.rest in
      let all : ArePlaced ys (length ys) = subst (ArePlaced ys) (sym long) placed in
      let w = waits (state first) firsts plan a.0 m a.1 a.2 all in
      let none = unplaced-none ys all in
      let count : m ≡ length plan = omega (arith, rest, none) in
      let stage : BurstStage stand root (state first) firsts plan w.log (state engine) rs zs (length plan) a.1 = subst (λ k. BurstStage stand root (state first) firsts plan w.log (state engine) rs zs k a.1) count w.stage in record {
        log = w.log;
        stays = a.1;
        stage = stage;
        leads = let u = stage.underway in stay-leads (IsAskedAgain plan zs) (state first) (state engine) w.log a.1 u.legal u.fits.0.volumes_is u.fits.0.head_is stage.left;
        placed = placed-all zs (length plan) (let r = stage.rest in omega (arith, r));
        waited = λ k x at. w.waited k x (let i = get-inside zs k x at in let l = stage.long in omega (arith, i, l, long)) at;
        rooted = rooted;
      }

  -- the same of what was written back
  pub ran-back : {E : Type 0} (state : E → State) (base : E → E) (plan : List Planned) (first : E) (firsts : List P) (engine : E) (n m : ℕ) (rs old-rs : List P) (zs old-zs : List Answered) → length rs ≡ n → length zs ≡ m
      → Ran stand root state base plan first firsts engine rs zs → Ran stand root state base plan first firsts engine (take n (rs ++ drop (length rs) old-rs)) (take m (zs ++ drop (length zs) old-zs))
  ran-back state base plan first firsts engine n m rs old-rs zs old-zs long many whole = subst (λ (x : List P × List Answered). Ran stand root state base plan first firsts engine x.0 x.1)
      (λ i. (sym (overwritten n rs old-rs long) i, sym (overwritten m zs old-zs many) i)) whole
