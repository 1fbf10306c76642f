-- One more worker is set.
use Rattle.std.proofs.Common.{◌≡◌, ℕ, ◌+◌, ◌-◌, ◌<◌, ◌≤◌, List, [], ◌∷◌, ◌++◌, length, refl, ap, sym, ◌∙◌, subst, ⊎_elim, arith, append_assoc, length-append, Option, Some, None, slice_get, vec_capacity}
use Rattle.std.specs.Prelude.{MatchOption}
use Rattle.atomic_table.specs.Seated.{TableId}
use Rattle.vx_turn.specs.declared.meaning.State.{State}
use Rattle.vx_turn.specs.declared.passes.Pass.{Pass}
use Rattle.vx_turn.specs.declared.passes.Passes.{Passes}
use Rattle.vx_turn.specs.Passing.{IsNewPass, AreDealt, Pops}
use Rattle.vx_turn.proofs.Dealing.{get-snoc, get-longer, get-last}
use Rattle.vx_settle.specs.declared.peer.Stand.{Stand}
use Rattle.vx_settle.specs.Bringing.{HaveLinks}
use Rattle.vx_burst_threads.specs.declared.plan.Planned.{Planned}
use Rattle.vx_burst_threads.specs.declared.drainer.Drainer.{Drainer}
use Rattle.vx_burst_threads.specs.declared.writer.Writer.{Writer}
use Rattle.vx_burst_threads.specs.declared.worker.Worker.{Worker}
use Rattle.vx_burst_threads.specs.declared.worker.Worker.TheVariants.{Writes, Drains}
use Rattle.vx_burst_threads.specs.Planning.{AllCalls, own_count}
use Rattle.vx_burst_threads.specs.Joining.{backs}
use Rattle.vx_burst.specs.declared.rooms.Space.{Space}
use Rattle.vx_burst.specs.Setting.{AreThreadRooms, IsSetUp, Set}

pub snoc-long : {A : Type 0} (xs ws : List A) (w : A) → xs ≡ ws ++ w ∷ [] → length xs ≡ length ws + 1
snoc-long xs ws w is = let e : length xs ≡ length (ws ++ w ∷ []) = ap (λ l. length l) is in let a = length-append ws (w ∷ []) in omega (arith, e, a)

module _ {P : Type 0} where
  pub backs-snoc : (ws : List (Worker P)) (d : Drainer P) → backs (ws ++ Drains d ∷ []) ≡ d.peer ∷ backs ws
  backs-snoc [] d = refl
  backs-snoc (Writes w ∷ ws) d = backs-snoc ws d
  backs-snoc (Drains w ∷ ws) d = ap (λ l. l ++ w.peer ∷ []) (backs-snoc ws d)

  pub backs-writer : (ws : List (Worker P)) (w : Writer) → backs (ws ++ Writes w ∷ []) ≡ backs ws
  backs-writer [] w = refl
  backs-writer (Writes v ∷ ws) w = backs-writer ws w
  backs-writer (Drains d ∷ ws) w = ap (λ l. l ++ d.peer ∷ []) (backs-writer ws w)

  -- a pass is left where not all callers have their workers
  pub set-pass : (stand : P → Stand) (z : TableId) (start : State) (callers : ℕ) (plan : List Planned) (ws : List (Worker P)) (old new : Passes) (given : Option Pass) → Set stand z start callers plan ws old → Pops old given new
      → given ≡ None → callers ≤ length ws
  set-pass stand z start callers plan ws old new given s p none = let m : MatchOption None (((callers - length ws) ≡ 0) × AreDealt z start callers 0 new) (λ q. (0 < callers - length ws) × IsNewPass z start callers (callers - (callers - length ws)) q × AreDealt z start callers ((callers - length ws) - 1) new) =
      subst (λ g. MatchOption g (((callers - length ws) ≡ 0) × AreDealt z start callers 0 new) (λ q. (0 < callers - length ws) × IsNewPass z start callers (callers - (callers - length ws)) q × AreDealt z start callers ((callers - length ws) - 1) new)) none (p z start callers (callers - length ws) s.dealt) in
      let e = m.0 in omega (arith, e)

  -- the pass that is given out has the number of the next worker
  pub set-given : (stand : P → Stand) (z : TableId) (start : State) (callers : ℕ) (plan : List Planned) (ws : List (Worker P)) (old new : Passes) (given : Option Pass) (q : Pass) → Set stand z start callers plan ws old → Pops old given new
      → given ≡ Some q → IsNewPass z start callers (length ws) q × AreDealt z start callers (callers - (length ws + 1)) new × (length ws + 1 ≤ callers)
  set-given stand z start callers plan ws old new given q s p is = let m : (0 < callers - length ws) × IsNewPass z start callers (callers - (callers - length ws)) q × AreDealt z start callers ((callers - length ws) - 1) new =
      subst (λ g. MatchOption g (((callers - length ws) ≡ 0) × AreDealt z start callers 0 new) (λ r. (0 < callers - length ws) × IsNewPass z start callers (callers - (callers - length ws)) r × AreDealt z start callers ((callers - length ws) - 1) new)) is (p z start callers (callers - length ws) s.dealt) in
      let b = s.below in let some = m.0 in
      let here : callers - (callers - length ws) ≡ length ws = omega (arith, b, some) in let rest : (callers - length ws) - 1 ≡ callers - (length ws + 1) = omega (arith, b, some) in
      (subst (λ n. IsNewPass z start callers n q) here m.1, subst (λ n. AreDealt z start callers n new) rest m.2, omega (arith, b, some))

  pub set-more : (stand : P → Stand) (z : TableId) (start : State) (callers : ℕ) (plan : List Planned) (ws xs : List (Worker P)) (w : Worker P) (old new : Passes) → xs ≡ ws ++ w ∷ [] → Set stand z start callers plan ws old
      → IsSetUp stand z start callers plan (length ws) w → AreDealt z start callers (callers - (length ws + 1)) new → length ws + 1 ≤ callers → Set stand z start callers plan xs new
  set-more stand z start callers plan ws xs w old new is s up dealt below = let n : length xs ≡ length ws + 1 = (let e : length xs ≡ length (ws ++ w ∷ []) = ap (λ l. length l) is in let a = length-append ws (w ∷ []) in omega (arith, e, a)) in record {
    workers = λ i v at. ⊎_elim (λ (o : slice_get ws i ≡ Some v). s.workers i v o)
        (λ (o : (i ≡ length ws) × (w ≡ v)). subst (λ (x : ℕ × Worker P). IsSetUp stand z start callers plan x.0 x.1) (λ k. (sym o.0 k, o.1 k)) up) (get-snoc ws w v i (subst (λ l. slice_get l i ≡ Some v) is at));
    dealt = subst (λ k. AreDealt z start callers (callers - k) new) (sym n) dealt;
    below = omega (arith, n, below);
  }

  -- the writers so far
  pub record Writing (stand : P → Stand) (z : TableId) (start : State) (callers : ℕ) (plan : List Planned) (threads k : ℕ) (rooms : List Space) (ws : List (Worker P)) (passes : Passes) : Type 0 where
    pub set : Set stand z start callers plan ws passes
    pub long : length ws ≡ k
    pub spaces : AreThreadRooms plan threads rooms
    pub left : length rooms + k ≡ threads
    pub back : backs ws ≡ []

  pub writing-more : (stand : P → Stand) (z : TableId) (start : State) (callers : ℕ) (plan : List Planned) (threads k : ℕ) (rooms less : List Space) (room : Space) (ws xs : List (Worker P)) (x : Writer) (old new : Passes) (given : Option Pass)
      → Writing stand z start callers plan threads k rooms ws old → AllCalls plan → Pops old given new → given ≡ Some x.pass → rooms ≡ less ++ room ∷ [] → x.thread ≡ k + 1 → x.made ≡ room.made → xs ≡ ws ++ Writes x ∷ []
      → Writing stand z start callers plan threads (k + 1) less xs new
  writing-more stand z start callers plan threads k rooms less room ws xs x old new given l calls pops is pop thread made more =
      let g = set-given stand z start callers plan ws old new given x.pass l.set pops is in
      let nl = l.long in
      let r = l.spaces (length less) room (subst (λ z. slice_get z (length less) ≡ Some room) (sym pop) (get-last less room)) in
      let c : length rooms ≡ length less + 1 = (let e : length rooms ≡ length (less ++ room ∷ []) = ap (λ z. length z) pop in let a = length-append less (room ∷ []) in omega (arith, e, a)) in
      let t : threads - length less ≡ x.thread = (let q = l.left in omega (arith, q, c, thread)) in
      let up : IsSetUp stand z start callers plan (length ws) (Writes x) = (
        g.0,
        omega (arith, thread, nl),
        (
          g.0.table,
          ap (λ m. m.items) made ∙ r.0,
          subst (λ (y : ℕ × Space). own_count y.0 plan ≤ vec_capacity y.1.made) (λ i. (t i, record { made = sym made i })) r.1,
          calls,
        ),
      ) in record {
        set = set-more stand z start callers plan ws xs (Writes x) old new more l.set up g.1 g.2;
        long = (let e = snoc-long xs ws (Writes x) more in omega (arith, e, nl));
        spaces = λ i s at. l.spaces i s (subst (λ z. slice_get z i ≡ Some s) (sym pop) (get-longer less (room ∷ []) i s at));
        left = let q = l.left in omega (arith, q, c);
        back = ap backs more ∙ (backs-writer ws x ∙ l.back);
      }

  -- the links' workers so far
  pub record Linking (stand : P → Stand) (z : TableId) (start : State) (callers : ℕ) (plan : List Planned) (all left : List P) (first : ℕ) (ws : List (Worker P)) (passes : Passes) : Type 0 where
    pub set : Set stand z start callers plan ws passes
    pub back : all ≡ left ++ backs ws
    pub links : HaveLinks stand start left
    pub long : length ws + length left ≡ first + length all

  pub linking-more : (stand : P → Stand) (z : TableId) (start : State) (callers : ℕ) (plan : List Planned) (all left less : List P) (first : ℕ) (ws xs : List (Worker P)) (d : Drainer P) (old new : Passes) (given : Option Pass)
      → Linking stand z start callers plan all left first ws old → Pops old given new → given ≡ Some d.pass → left ≡ less ++ d.peer ∷ [] → xs ≡ ws ++ Drains d ∷ []
      → Linking stand z start callers plan all less first xs new
  linking-more stand z start callers plan all left less first ws xs d old new given l pops is pop more =
      let g = set-given stand z start callers plan ws old new given d.pass l.set pops is in
      let link = l.links (length less) d.peer (subst (λ z. slice_get z (length less) ≡ Some d.peer) (sym pop) (get-last less d.peer)) in
      let up : IsSetUp stand z start callers plan (length ws) (Drains d) = (g.0, subst (λ (s : State). (stand d.peer).link < length s.nets) (sym g.0.start_is) link) in record {
        set = set-more stand z start callers plan ws xs (Drains d) old new more l.set up g.1 g.2;
        back = l.back ∙ (ap (λ z. z ++ backs ws) pop ∙ (append_assoc less (d.peer ∷ []) (backs ws) ∙ ap (λ z. less ++ z) (sym (ap backs more ∙ backs-snoc ws d))));
        links = λ i p at. l.links i p (subst (λ z. slice_get z i ≡ Some p) (sym pop) (get-longer less (d.peer ∷ []) i p at));
        long = let q = l.long in let e : length xs ≡ length (ws ++ Drains d ∷ []) = ap (λ z. length z) more in let a = length-append ws (Drains d ∷ []) in
            let f : length left ≡ length (less ++ d.peer ∷ []) = ap (λ z. length z) pop in let b = length-append less (d.peer ∷ []) in omega (arith, q, e, a, f, b);
      }
