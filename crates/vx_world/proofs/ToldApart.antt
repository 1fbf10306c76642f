-- What each event of settling makes of two sites and their link: greetings, and records that are applied.
use Rattle.std.proofs.Common.{◌≡◌, ℕ, suc, ◌-◌, ◌≤◌, ◌<◌, List, [], ◌∷◌, ◌++◌, length, refl, ap, sym, ◌∙◌, subst, arith, true, false}
use Rattle.std.specs.Prelude.{if◌then◌else◌, leb, ltb, eqb, not, max, min, slice_get, Some, ◌&&◌}
use Rattle.std.proofs.lemmas.Bool.Decides.{nat_tests}
use Rattle.vx_history.specs.World.{World, Node, Link, Packet, Hello, DataAck, with_node}
use Rattle.vx_model.specs.Sites.{is_origin, same_line}
use Rattle.vx_history.specs.Sending.{Sent, by_log, greeted, with_taken}
use Rattle.vx_history.specs.Receiving.{Received, with_applied, records_applied, applied_to}
use Rattle.vx_history.specs.LinkForms.{plain_link, with_plain, plain_receiver}
use Rattle.vx_model.specs.declared.site.Mark.{Mark}
use Rattle.vx_model.specs.declared.link.Link.{Link as PlainLink}
use Rattle.vx_history.specs.declared.sender.SEvent.TheVariants.{Connect as ConnectLink, Hello as HearHello}
use Rattle.vx_history.specs.declared.receiver.RState.{RState}
use Rattle.vx_history.proofs.Updates.{by_test}
use Rattle.vx_history.specs.declared.event.Event.TheVariants.{Apply, Deliver, Connect}
use Rattle.vx_history.specs.declared.event.Said.TheVariants.{DoneAt}
use Rattle.vx_history.specs.Sends.{sending, packet, greeting}
use Rattle.vx_history.specs.Refusals.{Outcome, says, is_running}
use Rattle.vx_model.specs.Sites.{is_up}
use Rattle.vx_model.proofs.Tests.{both_true}
use Rattle.vx_history.specs.Events
use Rattle.vx_history.specs.Step.{outcome_of, step, done}
use Rattle.vx_world.proofs.Pair.{counted_at, At, Fit, link_event_at, sending_at, with_node_at, link_passes, work_passes, passes}
use Rattle.vx_world.proofs.Told.{by_true, by_false, IsYoung, nothing_sent, link_at, ours, heard_as}

-- ## Greetings and records

module _ (v : World) (p s : ℕ) (a b : Node) (l : Link) (ps : List Packet) (at : At v p s a b l ps) (fit : Fit p s a b l) where
  -- ## Greetings

  pub greets_is : Events.greets a b ≡ true
  greets_is =
      both_true (is_up b.state) (is_running b.halted && (not (is_origin b.role) && same_line b.line a.line)) (ap is_up fit.up_b)
      (both_true (is_running b.halted) (not (is_origin b.role) && same_line b.line a.line) (ap is_running fit.runs_b)
      (both_true (not (is_origin b.role)) (same_line b.line a.line) (ap not fit.receives) (ours v p s a b l ps at fit)))

  -- a link that is connected is connected again: its receiver greets
  pub connect_at : At (step v (Connect p s)).world p s a b l (ps ++ packet s p b.line (Hello b.session (length b.log) b.safe) 0 ∷ [])
  connect_at =
      let w : World = Events.link_event v p s ConnectLink in
      let m : Link = record l { connected = true } in
      let back : Events.greeting_back v p s ≡ greeting s p b =
      ap (λ (x : Node). if Events.greets x (v.nodes s) then greeting s p (v.nodes s) else []) at.at_p
      ∙ ap (λ (y : Node). if Events.greets a y then greeting s p y else []) at.at_s
      ∙ by_true (Events.greets a b) (greeting s p b) [] greets_is in
      counted_at p s a b l (ps ++ greeting s p b) v (Connect p s)
      (subst (λ (o : Outcome). At o.world p s a b l (ps ++ packet s p b.line (Hello b.session (length b.log) b.safe) 0 ∷ []))
      (sym (link_passes v p s a b l ps at (done (sending w (Events.greeting_back v p s))) fit))
      (subst (λ (more : List Packet). At (sending w more) p s a b l (ps ++ greeting s p b)) (sym back)
      (sending_at w p s a b l ps (subst (λ (x : Link). At w p s a b x ps) same ((nothing_sent v p s a b l ps at fit) w m (link_event_at v p s a b l ps at ConnectLink)))
      (greeting s p b))))
    where
      same : (let m : Link = record l { connected = true } in m) ≡ l
      same = ap (λ c. let m : Link = record l { connected = c } in m) (sym fit.connected)

  -- the link knows what its receiver has
  abbrev pub Knows : ℕ → Type 0
  Knows k = (sent : ℕ) × At (step v (Deliver (suc k))).world p s a b (record l { session = b.session; net = length b.log; stored = b.safe; sent = sent }) ps

  -- a greeting that tells no less than the link knows
  pub hello_at : (k : ℕ) → IsYoung ps k → slice_get ps k ≡ Some (packet s p b.line (Hello b.session (length b.log) b.safe) 0) → l.session ≤ b.session
      → l.stored ≤ b.safe → b.safe ≤ length b.log → (l.session ≡ b.session → l.net ≤ length b.log)
      → Knows k
  hello_at k young e session stored fits net =
      by_test (λ (x : PlainLink). At (step v (Deliver (suc k))).world p s a b (with_plain l x) ps → Knows k) (ltb l.session b.session)
      (record (plain_link s l) {
        session = b.session;
        stored = max l.stored b.safe;
        net = max (length b.log) (max l.stored b.safe);
        sent = max
            (length b.log) (max l.stored b.safe);
      })
      (record (plain_link s l) { net = max l.net (length b.log); stored = max l.stored b.safe })
      (λ _ h. (
        max (length b.log) (max l.stored b.safe),
        told (max (length b.log) (max l.stored b.safe)) b.session
            (max (length b.log) (max l.stored b.safe)) (max l.stored b.safe) refl (omega (arith, stored, fits)) (omega (arith, stored)) h,
      ))
      (λ not_new h. (
        l.sent,
        told l.sent l.session (max l.net (length b.log)) (max l.stored b.safe) (is_same l.session b.session session not_new)
            (omega (arith, net (is_same l.session b.session session not_new))) (omega (arith, stored)) h,
      ))
      (subst (λ (x : Sent). At (step v (Deliver (suc k))).world p s a b (with_plain l x.link) ps)
      ((heard_as v p s a b l ps at fit) (greeted (plain_link s l) b.session (length b.log) b.safe)
      ∙ by_false (ltb b.session l.session) _ _ (not_less b.session l.session session)
      ∙ ap with_taken (by_true (by_log l.mode) _ _ (ap by_log fit.mode)))
      ((link_at v p s a b l ps at fit) k (Hello b.session (length b.log) b.safe) (HearHello b.session (length b.log) b.safe) young e refl))
    where
      not_less : (m n : ℕ) → n ≤ m → ltb m n ≡ false
      not_less m n h = grind (arith, nat_tests)

      is_same : (m n : ℕ) → m ≤ n → ltb m n ≡ false → m ≡ n
      is_same m n h t = grind (arith, nat_tests)

      told : (sent session net stored : ℕ) → session ≡ b.session → net ≡ length b.log → stored ≡ b.safe
          → At (step v (Deliver (suc k))).world p s a b (record l { session = session; net = net; stored = stored; sent = sent }) ps
          → At (step v (Deliver (suc k))).world p s a b (record l { session = b.session; net = length b.log; stored = b.safe; sent = sent }) ps
      told sent session net stored x y z h =
          subst (λ i. At (step v (Deliver (suc k))).world p s a b (record l { session = i; net = length b.log; stored = b.safe; sent = sent }) ps) x
          (subst (λ i. At (step v (Deliver (suc k))).world p s a b (record l { session = session; net = i; stored = b.safe; sent = sent }) ps) y
          (subst (λ i. At (step v (Deliver (suc k))).world p s a b (record l { session = session; net = net; stored = i; sent = sent }) ps) z h))

  -- ## Records that wait

  pub apply_passes : (count : ℕ) → outcome_of v (Apply s count 0) ≡ Events.apply_at v s count
  apply_passes count =
      passes (leb v.sites s) _ v _ at.given_s
      ∙ work_passes v p s a b l ps at s b _ at.at_s fit.up_b fit.runs_b
      ∙ by_false (is_origin (v.nodes s).role) _ _ (ap (λ (x : Node). is_origin x.role) at.at_s ∙ fit.receives)

  -- nothing waits
  pub apply_none : (count : ℕ) → count ≡ 0 → At (step v (Apply s count 0)).world p s a b l ps
  apply_none count none =
      let r : Node → Received = λ n. records_applied (plain_receiver n) count in
      let e : Events.apply_at v s count ≡ says v (DoneAt (v.nodes s).safe) =
      ap (λ (r : Received). Events.applied_by v s r.state r.action)
      (by_true (eqb (min count (length (v.nodes s).log - (v.nodes s).safe)) 0) _ _ (nothing count (length (v.nodes s).log - (v.nodes s).safe) none)) in
      counted_at p s a b l ps v (Apply s count 0) (subst (λ (o : Outcome). At o.world p s a b l ps) (sym (apply_passes count ∙ e)) at)
    where
      nothing : (m n : ℕ) → m ≡ 0 → eqb (min m n) 0 ≡ true
      nothing m n h = grind (arith, nat_tests)

  -- all that waits is applied, and acknowledged to the site that feeds the receiver
  pub apply_all : (count : ℕ) → count ≡ length b.log - b.safe → 0 < count
      → (mark : Mark) × At (step v (Apply s count 0)).world p s a (Events.applied b (length b.log) mark) l
      (ps ++ packet s b.fed_by b.line (DataAck (length b.log)) 0 ∷ [])
  apply_all count all some =
      let t : RState = plain_receiver b in
      let r : Received = with_applied t (t.waiting - count) in
      let e : (n : Node) → Events.applied_by v s (records_applied t count).state (records_applied t count).action ≡ Events.applied_by v s r.state r.action =
      λ n. ap (λ (r : Received). Events.applied_by v s r.state r.action) (by_false (eqb (min count t.waiting) 0) _ _ (something count t.waiting all some)) in
      let number : applied_to (length b.log) (t.waiting - count) ≡ length b.log = omega (arith, all) in
      let is : Events.apply_at v s count ≡ Events.applied_by v s r.state r.action =
      ap (λ (n : Node). Events.applied_by v s (records_applied (plain_receiver n) count).state (records_applied (plain_receiver n) count).action) at.at_s
      ∙ e b in (
        r.state.mark,
        counted_at p s a (Events.applied b (length b.log) r.state.mark) l (ps ++ packet s b.fed_by b.line (DataAck (length b.log)) 0 ∷ []) v (Apply s count 0)
            (subst (λ (o : Outcome). At o.world p s a (Events.applied b (length b.log) r.state.mark) l
            (ps ++ packet s b.fed_by b.line (DataAck (length b.log)) 0 ∷ [])) (sym (apply_passes count ∙ is))
            (subst (λ k. At (Events.acknowledged v s (Events.applied (v.nodes s) k r.state.mark)) p s a (Events.applied b (length b.log) r.state.mark) l
            (ps ++ packet s b.fed_by b.line (DataAck (length b.log)) 0 ∷ [])) (sym number)
            (subst (λ (y : Node). At (Events.acknowledged v s (Events.applied y (length b.log) r.state.mark)) p s a
            (Events.applied b (length b.log) r.state.mark) l (ps ++ packet s b.fed_by b.line (DataAck (length b.log)) 0 ∷ [])) (sym at.at_s)
            (sending_at (with_node v s (Events.applied b (length b.log) r.state.mark)) p s a (Events.applied b (length b.log) r.state.mark) l ps
            (with_node_at v p s a b l ps at (Events.applied b (length b.log) r.state.mark) fit.apart) (packet s b.fed_by b.line (DataAck (length b.log)) 0 ∷ []))))),
      )
    where
      something : (m n : ℕ) → m ≡ n → 0 < m → eqb (min m n) 0 ≡ false
      something m n h k = grind (arith, nat_tests)
