-- A pump as an event of its link.
use Rattle.std.proofs.Common.{◌≡◌, ◌∙◌, ◌⊎◌, inl, inr, ◌+◌, ◌-◌, ◌<◌, ◌≤◌, ℕ, suc, Bool, true, false, List, [], ◌∷◌, ◌++◌, length, map, take, drop, ap, sym, subst, refl, arith}
use Rattle.std.specs.Prelude.{Some, ◌&&◌, slice_get, pred, max, min, if◌then◌else◌}
use Rattle.std.proofs.lemmas.List.{append-nil, length-take}
use Rattle.std.proofs.Math.ListN.{drop_of_length-le}
use Rattle.circular_buffer.proofs.Places.{slice_get-drop, slice_get-take}
use Rattle.vx_model.specs.Content.{Write}
use Rattle.vx_model.specs.declared.call.Update.{Update}
use Rattle.vx_model.specs.declared.history.Line.{Line}
use Rattle.vx_model.specs.declared.link.Link.{Link as PlainLink}
use Rattle.vx_history.specs.Admission.{is_live_link}
use Rattle.vx_history.specs.Events.{link_event, link_step}
use Rattle.vx_history.specs.LinkForms.{plain_link, with_plain}
use Rattle.vx_history.specs.Sending.{Sent, by_log, pumped, pumped_up_to, sent_step, with_nothing}
use Rattle.vx_history.specs.Sends.{between, sent_by, updates}
use Rattle.vx_history.specs.World.{Link, Node, Packet, World, updated}
use Rattle.vx_history.specs.declared.sender.SFacts.{SFacts}
use Rattle.vx_model.specs.declared.limits.TheConstants.{MOST_AHEAD}
use Rattle.vx_history.specs.declared.sender.Action.{Action}
use Rattle.vx_history.specs.declared.sender.Action.TheVariants.{Ignored, Nothing, Taken, Updates}
use Rattle.vx_history.specs.declared.sender.SEvent.TheVariants.{Pump}
use Rattle.vx_history.proofs.Updates.{at_place, by_test}
use Rattle.vx_courier.specs.UnderWay.{FlightStands}
use Rattle.vx_disk.specs.Shelf.{Meaning}
use Rattle.vx_net.specs.Flights.{Flying}
use Rattle.vx_packet.specs.declared.message.Envelope.{Envelope}
use Rattle.vx_rvg.specs.Contents.{write_of_update}
use Rattle.vx_rvg.specs.Holdings.{Holding}
use Rattle.vx_rvg.specs.Views.{Core, last_of}
use Rattle.vx_peers.specs.Senders.{AreRead, LinkMoved, SendsFrom, SentRange}
use Rattle.vx_peers.proofs.Updates.{drop_at}

-- updates are sent on a live link by the log alone
pub sends_live : (k : PlainLink) (facts : SFacts) (from to : ℕ) → (sent_step k Pump facts).action ≡ Updates from to → (is_live_link k && by_log k.mode) ≡ true
sends_live k facts from to is = by (is_live_link k && by_log k.mode) is
  where
    by : (b : Bool) → (if b then pumped_up_to k (max k.sent k.stored) (min facts.safe (k.net + MOST_AHEAD)) else with_nothing k).action ≡ Updates from to → b ≡ true
    by true is = refl
    by false is = absurd (let e : Nothing ≡ Updates from to = is in cc)

-- the writes that were read are those of the site's log
module _ (n : Node) (h : Holding) (line : Line) (some : 0 < h.low) (writes : h.writes ≡ drop (h.low - 1) (take n.safe n.log)) where
  writes_are : (from to : ℕ) (us : List Update) → AreRead h line from us → from + length us ≡ to + 1 → to ≤ n.safe → h.low ≤ from → map write_of_update us ≡ drop (pred from) (take to n.log)
  writes_are from to [] read all durable low = sym (drop_of_length-le (take to n.log) (omega (arith, all, length-take to n.log)))
  writes_are from to (u ∷ us) read all durable low =
      let first = read.each 0 u refl in
      let x : Write = first.0 in
      let number : from + 0 ≡ from = omega arith in
      let here : slice_get h.writes (from - h.low) ≡ Some x = sym (ap (λ (k : ℕ). slice_get h.writes (k - h.low)) number) ∙ first.1 in
      let own : write_of_update u ≡ x = ap write_of_update first.2 in
      let kept : slice_get (drop (h.low - 1) (take n.safe n.log)) (from - h.low) ≡ Some x = sym (ap (λ (ws : List Write). slice_get ws (from - h.low)) writes) ∙ here in
      let in_log : slice_get n.log (pred from) ≡ Some x
      = sym (slice_get-take n.safe n.log (pred from) (omega (arith, some, low, durable, all)))
      ∙ sym (slice_get-drop (h.low - 1) (take n.safe n.log) (from - h.low) (pred from) (omega (arith, some, low))) ∙ kept in
      let there : slice_get (take to n.log) (pred from) ≡ Some x = slice_get-take to n.log (pred from) (omega (arith, some, low, all)) ∙ in_log in
      let cut : drop (pred from) (take to n.log) ≡ x ∷ drop from (take to n.log) = drop_at (take to n.log) (pred from) from x there (omega (arith, some, low)) in
      let later : AreRead h line (from + 1) us
      = record { each = λ k v is. let at : from + 1 + k ≡ from + suc k = omega arith in subst (λ (j : ℕ). (y : Write) × (slice_get h.writes (j - h.low) ≡ Some y) × (v ≡ record { line = line; number = j; vol = y.volume; block = y.start; bytes = y.bytes })) (sym at) (read.each (suc k) v is) } in
      let rest : map write_of_update us ≡ drop (pred (from + 1)) (take to n.log) = writes_are (from + 1) to us later (omega (arith, all)) durable (omega (arith, low)) in
      let same : pred (from + 1) ≡ from = omega arith in
      ap (λ (y : Write). y ∷ map write_of_update us) own ∙ ap (λ (ws : List Write). x ∷ ws) (rest ∙ ap (λ (i : ℕ). drop i (take to n.log)) same) ∙ sym cut

module _ (w : World) (p s : ℕ) (c : Core) (m : Meaning) (from_here : SendsFrom (w.nodes p) c m) where
  abbrev n : Node
  n = w.nodes p

  abbrev l : Link
  l = w.links p s

  abbrev r : Sent
  r = link_step w p s Pump

  -- the rule in memory says what it says of the world's link
  pub rule_same : (k : PlainLink) (safe : ℕ) → k ≡ plain_link s l → safe ≡ last_of c → sent_step k Pump (record { safe = safe; line_ok = true }) ≡ r
  rule_same k safe link is = ap (λ (t : PlainLink). pumped t safe) link ∙ ap (λ (i : ℕ). pumped (plain_link s l) i) (is ∙ from_here.head)

  pub sends_none : (a : Action) → r.action ≡ a → (a ≡ Nothing) ⊎ ((a ≡ Ignored) ⊎ (a ≡ Taken)) → sent_by r.action p s n ≡ []
  sends_none a is (inl nothing) = ap (λ (t : Action). sent_by t p s n) (is ∙ nothing)
  sends_none a is (inr (inl ignored)) = ap (λ (t : Action). sent_by t p s n) (is ∙ ignored)
  sends_none a is (inr (inr taken)) = ap (λ (t : Action). sent_by t p s n) (is ∙ taken)

  same_plain : plain_link s (with_plain l r.link) ≡ r.link
  same_plain =
      by_test (λ (t : Sent). plain_link s (with_plain l t.link) ≡ t.link) (is_live_link (plain_link s l) && by_log l.mode) _ _
      (λ live. by_test (λ (t : Sent). plain_link s (with_plain l t.link) ≡ t.link) _ _ _ (λ more. refl) (λ none. refl))
      (λ dead. refl)

  abbrev next : World
  next = link_event w p s Pump

  link_there : next.links p s ≡ with_plain l r.link
  link_there = ap (λ (row : ℕ → Link). row s) (at_place w.links p (updated (w.links p) s (with_plain l r.link))) ∙ at_place (w.links p) s (with_plain l r.link)

  pub moved_so : (k : PlainLink) (f : Flying) → k ≡ r.link → FlightStands (w.packets ++ sent_by r.action p s n) f → LinkMoved w p s Pump k f
  moved_so k f is flight = record {
    link = is ∙ sym same_plain ∙ ap (λ (t : Link). plain_link s t) (sym link_there);
    flight = flight;
  }

  pub moved_none : (k : PlainLink) (f : Flying) → k ≡ r.link → sent_by r.action p s n ≡ [] → FlightStands w.packets f → LinkMoved w p s Pump k f
  moved_none k f is none flight = moved_so k f is (subst (λ (ps : List Packet). FlightStands ps f) (sym (ap (λ (ps : List Packet). w.packets ++ ps) none ∙ append-nil w.packets)) flight)

  pub moved_range : (from to : ℕ) (e : Envelope) (k : PlainLink) (f f' : Flying) → k ≡ r.link → r.action ≡ Updates from to → e ≡ record { source = p; target = s; line = c.log.header.state.line }
      → SentRange from_here.held c.log.header.state.line e from to f f' → to ≤ last_of c → from_here.held.low ≤ from → FlightStands w.packets f → LinkMoved w p s Pump k f'
  moved_range from to e k f f' is action e_is sends durable low flight =
      let writes : map write_of_update sends.updates ≡ between from to n.log
      = writes_are n from_here.held c.log.header.state.line from_here.some from_here.writes from to sends.updates sends.read sends.all (omega (arith, durable, from_here.head)) low in
      let ways : updates e.source e.target e.line from (map write_of_update sends.updates) ≡ updates p s n.line from (between from to n.log)
      = ap (λ (d : Envelope). updates d.source d.target d.line from (map write_of_update sends.updates)) e_is
      ∙ ap (λ (i : Line). updates p s i from (map write_of_update sends.updates)) from_here.line
      ∙ ap (λ (ws : List Write). updates p s n.line from ws) writes in
      let sent : updates e.source e.target e.line from (map write_of_update sends.updates) ≡ sent_by r.action p s n = ways ∙ sym (ap (λ (a : Action). sent_by a p s n) action) in
      moved_so k f' is (subst (λ (ps : List Packet). FlightStands (w.packets ++ ps) f') sent (sends.flies w.packets flight))
