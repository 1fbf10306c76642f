-- Writes, applies, waits, crashes and recoveries beside a halted site.
use Rattle.vx_model.specs.Sites.{is_bare, is_origin, is_up}
use Rattle.vx_model.specs.declared.limits.TheConstants.{MOST_NUMBER}
use Rattle.std.proofs.Common.{◌≡◌, ◌∙◌, inl, inr, ℕ, zero, suc, ◌+◌, List, [], ◌∷◌, ◌++◌, length, ap, sym, subst, refl, Bool, true, false}
use Rattle.std.specs.Prelude.{Option, Some, None, not, ◌||◌, eqb, ltb, leb, if◌then◌else◌}
use Rattle.std.proofs.lemmas.Bool.{cases_eq}
use Rattle.vx_history.specs.Admission.{admit, Admitted, Held_by, Goes}
use Rattle.vx_model.specs.Answer.{is_wrong_count, is_past, is_too_large}
use Rattle.vx_model.specs.Content.{Write, blocks_in, blocks_from}
use Rattle.vx_history.specs.Events.{linked_sites, plain_links, log_uses, admitted, written_if, put_in, links_changed, links_marked, link_after, link_marked, apply_at, applied_by, acknowledged, applied, reached_at, crash_at, deport_at, crash_world, link_left, kept_of, recover_from, recovery, come_back, restarted_link, recovery_greeting, waited, promises_of}
use Rattle.vx_history.specs.LinkForms.{plain_receiver}
use Rattle.vx_history.specs.Receiving.{received_step, Received}
use Rattle.vx_history.specs.Refusals.{Outcome, says, unless, at_work, on_volume, is_primary, some_below, holds_back, is_unconfirmed, unless_at_most}
use Rattle.vx_history.specs.Sends.{with_links, promising, packets_of}
use Rattle.vx_history.specs.Step.{outcome_of, done, write_at, joined_blocks}
use Rattle.vx_history.specs.Steps.{logged, told_of, burned, crashed, crash_left, kept_by, deported_site}
use Rattle.vx_history.specs.World.{Node, Link, World, History, Gathering, DataAck, line_updated, with_node, with_history}
use Rattle.vx_history.specs.declared.event.Event.TheVariants.{Read, Apply, Wait, Crash, Deport, Recover}
use Rattle.vx_history.specs.declared.event.Said.TheVariants.{DoneAt, Got, Pending}
use Rattle.vx_model.specs.declared.history.Line.{Line}
use Rattle.vx_model.specs.declared.no.No.TheVariants.{Unknown, Size, Range, Role as WrongRole, Down as NotUp, Limit, Unconfirmed}
use Rattle.vx_model.specs.declared.no.Named.TheVariants.{Number as ByNumber}
use Rattle.vx_model.specs.declared.no.Counted.TheVariants.{Number as CountOfNumbers}
use Rattle.vx_history.specs.declared.receiver.RAction.{RAction}
use Rattle.vx_history.specs.declared.receiver.RAction.TheVariants as act
use Rattle.vx_history.specs.declared.receiver.REvent.TheVariants.{Applied}
use Rattle.vx_history.specs.declared.receiver.RState.{RState}
use Rattle.vx_model.specs.declared.site.SiteState.{SiteState}
use Rattle.vx_model.specs.declared.site.SiteState.TheVariants.{Bare, Up, Deported, Down}
use Rattle.vx_history.specs.Gatherings.{emptied}
use Rattle.vx_world.specs.Twins.{Twin}
use Rattle.vx_world.proofs.TwinTests.{not_both, both, works, there}
use Rattle.vx_world.proofs.Twinning.{one_of}
use Rattle.vx_world.proofs.TwinChanges.{twin_sending, twin_promising, twin_row, twin_node}

pub some_same : (n : ℕ) (f g : ℕ → Bool) → ((k : ℕ) → g k ≡ f k) → some_below n g ≡ some_below n f
some_same zero f g e = refl
some_same (suc k) f g e = ap (λ (b : Bool). b || some_below k g) (e k) ∙ ap (λ (b : Bool). f k || b) (some_same k f g e)

-- a site with the record of its line
pub twin_history : (s : ℕ) (w v : World) (twin : Twin s w v) (p : ℕ) (n k : Node) (h g : History) → (p ≡ s → ⊥) → k ≡ n → g ≡ h
    → Twin s (with_history w p n h) (with_history v p k g)
twin_history s w v twin p n k h g apart e f =
    let t = twin_node s w v twin p n k apart e in record {
      sites = t.sites;
      nodes = t.nodes;
      rows = t.rows;
      lines = ap (λ (m : Node). line_updated v.lines m.line g) e ∙ ap (λ (x : History). line_updated v.lines n.line x) f ∙ ap
          (λ (ls : Line → History). line_updated ls n.line h) twin.lines;
      packets = t.packets;
      promised = t.promised;
      gathering = t.gathering;
      here = t.here;
      name = t.name;
      up = t.up;
      up_too = t.up_too;
      halted = t.halted;
      halted_too = t.halted_too;
    }

-- nothing is then in assembly at this site
pub twin_empty : (s : ℕ) (w v : World) (p : ℕ) → Twin s w v → Twin s (emptied w p) (emptied v p)
twin_empty s w v p t = record {
  sites = t.sites;
  nodes = t.nodes;
  rows = t.rows;
  lines = t.lines;
  packets = t.packets;
  promised = t.promised;
  gathering = λ i. ap (λ (g : Option Gathering). if eqb i p then None else g) (t.gathering i);
  here = t.here;
  name = t.name;
  up = t.up;
  up_too = t.up_too;
  halted = t.halted;
  halted_too = t.halted_too;
}

pub one_world : (s : ℕ) (b c : Bool) (a d x y : World) → c ≡ b → Twin s a d → Twin s x y → Twin s (if b then a else x) (if c then d else y)
one_world s true true a d x y e first second = first
one_world s false false a d x y e first second = second
one_world s true false a d x y e first second = absurd (not_both true refl (sym e))
one_world s false true a d x y e first second = absurd (not_both false (sym e) refl)

module _ (s : ℕ) (w v : World) (twin : Twin s w v) where
  pub at_most : (k j : ℕ) (o r : Outcome) → j ≡ k → Twin s o.world r.world → Twin s (unless_at_most k w o).world (unless_at_most j v r).world
  at_most k j o r e rest = both s (leb MOST_NUMBER k) (leb MOST_NUMBER j) (Limit CountOfNumbers MOST_NUMBER) (Limit CountOfNumbers MOST_NUMBER) w v o r
      (ap (λ (i : ℕ). leb MOST_NUMBER i) e) twin (λ _. rest)

  -- ---- waiting

  pub waits_both : (p number : ℕ) → (p ≡ s → ⊥) → Twin s (waited w p number).world (waited v p number).world
  waits_both p number apart =
      let node : v.nodes p ≡ w.nodes p = twin.nodes p apart in
      let row : v.links p ≡ w.links p = twin.rows p apart in
      let rest_w : Outcome = if some_below w.sites (λ k. holds_back number k (w.links p k)) then says w (Pending number) else says
      (promising w (promises_of (w.nodes p) number (w.links p) w.sites)) (DoneAt number) in
      let rest_v : Outcome = if some_below v.sites (λ k. holds_back number k (v.links p k)) then says v (Pending number) else says
      (promising v (promises_of (v.nodes p) number (v.links p) v.sites)) (DoneAt number) in
      both s (eqb number 0 || ltb (w.nodes p).safe number) (eqb number 0 || ltb (v.nodes p).safe number) (Unknown (ByNumber number))
      (Unknown (ByNumber number)) w v
      (unless (some_below w.sites (λ k. is_unconfirmed number k (w.links p k))) (Unconfirmed number) w rest_w)
      (unless (some_below v.sites (λ k. is_unconfirmed number k (v.links p k))) (Unconfirmed number) v rest_v)
      (ap (λ (n : Node). eqb number 0 || ltb n.safe number) node) twin
      (λ _. both s (some_below w.sites (λ k. is_unconfirmed number k (w.links p k))) (some_below v.sites (λ k. is_unconfirmed number k (v.links p k)))
      (Unconfirmed number) (Unconfirmed number) w v rest_w rest_v
      (ap (λ (r : ℕ → Link). some_below v.sites (λ k. is_unconfirmed number k (r k))) row ∙ ap
      (λ (n : ℕ). some_below n (λ k. is_unconfirmed number k (w.links p k))) twin.sites) twin
      (λ _. one_of s w v twin (some_below w.sites (λ k. holds_back number k (w.links p k))) (some_below v.sites (λ k. holds_back number k (v.links p k)))
      (says w (Pending number)) (says v (Pending number))
      (says (promising w (promises_of (w.nodes p) number (w.links p) w.sites)) (DoneAt number))
      (says (promising v (promises_of (v.nodes p) number (v.links p) v.sites)) (DoneAt number))
      (ap (λ (r : ℕ → Link). some_below v.sites (λ k. holds_back number k (r k))) row ∙ ap
      (λ (n : ℕ). some_below n (λ k. holds_back number k (w.links p k))) twin.sites) twin
      (twin_promising s w v twin (promises_of (w.nodes p) number (w.links p) w.sites) (promises_of (v.nodes p) number (v.links p) v.sites)
      (ap (λ (n : Node). promises_of n number (v.links p) v.sites) node ∙ ap (λ (r : ℕ → Link). promises_of (w.nodes p) number r v.sites) row ∙ ap
      (λ (n : ℕ). promises_of (w.nodes p) number (w.links p) n) twin.sites))))

  pub twin_wait : (p number : ℕ) → Twin s (outcome_of w (Wait p number)).world (outcome_of v (Wait p number)).world
  twin_wait p number =
      let o : Outcome = unless (not (is_origin (w.nodes p).role)) WrongRole w (waited w p number) in
      let r : Outcome = unless (not (is_origin (v.nodes p).role)) WrongRole v (waited v p number) in
      there s w v p (at_work w p o) (at_work v p r) twin
      (works s w v p o r twin
      (λ apart. both s (not (is_origin (w.nodes p).role)) (not (is_origin (v.nodes p).role)) WrongRole WrongRole w v (waited w p number) (waited v p number)
      (ap (λ (n : Node). not (is_origin n.role)) (twin.nodes p apart)) twin
      (λ _. waits_both p number apart)))

  -- ---- applying

  pub acknowledged_both : (p : ℕ) (n k : Node) → (p ≡ s → ⊥) → k ≡ n → Twin s (acknowledged w p n) (acknowledged v p k)
  acknowledged_both p n k apart e =
      twin_sending s (with_node w p n) (with_node v p k) (twin_node s w v twin p n k apart e) (packets_of p n.fed_by n.line (DataAck n.safe))
      (packets_of p k.fed_by k.line (DataAck k.safe))
      (ap (λ (m : Node). packets_of p m.fed_by m.line (DataAck m.safe)) e)

  pub applied_both : (p : ℕ) (r : RState) (a : RAction) → (p ≡ s → ⊥) → Twin s (applied_by w p r a).world (applied_by v p r a).world
  applied_both p r act.Nothing apart = twin
  applied_both p r act.Ignored apart = twin
  applied_both p r (act.IgnoredAck number) apart = twin
  applied_both p r (act.Take number) apart = twin
  applied_both p r (act.DataAck number) apart = acknowledged_both p (applied (w.nodes p) number r.mark) (applied (v.nodes p) number r.mark) apart
      (ap (λ (n : Node). applied n number r.mark) (twin.nodes p apart))

  pub twin_apply : (p count reached : ℕ) → Twin s (outcome_of w (Apply p count reached)).world (outcome_of v (Apply p count reached)).world
  twin_apply p count reached =
      let o : Outcome = if is_origin (w.nodes p).role then reached_at w p count reached else apply_at w p count in
      let r : Outcome = if is_origin (v.nodes p).role then reached_at v p count reached else apply_at v p count in
      let rule : Node → Received = λ n. received_step (plain_receiver n) (Applied count) in
      there s w v p (at_work w p o) (at_work v p r) twin
      (works s w v p o r twin
      (λ apart. one_of s w v twin (is_origin (w.nodes p).role) (is_origin (v.nodes p).role) (reached_at w p count reached) (reached_at v p count reached)
      (apply_at w p count) (apply_at v p count)
      (ap (λ (n : Node). is_origin n.role) (twin.nodes p apart)) twin
      (subst (λ (x : Received). Twin s (apply_at w p count).world (applied_by v p x.state x.action).world) (sym (ap rule (twin.nodes p apart)))
      (applied_both p (rule (w.nodes p)).state (rule (w.nodes p)).action apart))))

  -- ---- writing

  letting : Write → Node → (ℕ → Link) → ℕ → Admitted
  letting x n row k = admit (blocks_in x.bytes + 1) n.ring (plain_links row (linked_sites row k 0 k)) (log_uses n row (linked_sites row k 0 k))

  pub same_admitted : (p : ℕ) (x : Write) → (p ≡ s → ⊥) → admitted v p x ≡ admitted w p x
  unfolding letting
  same_admitted p x apart =
      let a : letting x (v.nodes p) (v.links p) v.sites ≡ letting x (w.nodes p) (w.links p) w.sites
      = ap (λ (n : Node). letting x n (v.links p) v.sites) (twin.nodes p apart) ∙ ap (λ (r : ℕ → Link). letting x (w.nodes p) r v.sites) (twin.rows p apart)
      ∙ ap (λ (k : ℕ). letting x (w.nodes p) (w.links p) k) twin.sites in a

  pub changed_both : (p : ℕ) (x : Write) → (p ≡ s → ⊥) → Twin s (links_changed w p x) (links_changed v p x)
  changed_both p x apart =
      twin_row s w v twin p (λ k. link_after (w.nodes p) x k (w.links p k)) (λ k. link_after (v.nodes p) x k (v.links p k)) apart
      (ap (λ (n : Node). (λ (k : ℕ). link_after n x k (v.links p k))) (twin.nodes p apart) ∙ ap
      (λ (r : ℕ → Link). (λ (k : ℕ). link_after (w.nodes p) x k (r k))) (twin.rows p apart))

  marked_both : (w' v' : World) → Twin s w' v' → (p : ℕ) (xs : List Write) → (p ≡ s → ⊥) → Twin s (links_marked w' p xs) (links_marked v' p xs)
  marked_both w' v' t p xs apart =
      twin_row s w' v' t p (λ k. link_marked xs (w'.links p k)) (λ k. link_marked xs (v'.links p k)) apart
      (ap (λ (r : ℕ → Link). (λ (k : ℕ). link_marked xs (r k))) (t.rows p apart))

  pub put_both : (w' v' : World) → Twin s w' v' → (p : ℕ) (x : Write) (fails : Option ℕ) → (p ≡ s → ⊥)
      → Twin s (put_in w' p x fails).world (put_in v' p x fails).world
  put_both w' v' t p x None apart =
      twin_history s (links_marked w' p (x ∷ [])) (links_marked v' p (x ∷ [])) (marked_both w' v' t p (x ∷ []) apart) p (logged (w'.nodes p) x) (logged (v'.nodes p) x) (told_of (w'.lines (w'.nodes p).line) x)
      (told_of (v'.lines (v'.nodes p).line) x) apart (ap (λ (n : Node). logged n x) (t.nodes p apart))
      (ap (λ (n : Node). told_of (v'.lines n.line) x) (t.nodes p apart) ∙ ap (λ (ls : Line → History). told_of (ls (w'.nodes p).line) x) t.lines)
  put_both w' v' t p x (Some disk) apart =
      let half : Node → Node = λ n. record n { log = n.log ++ x ∷ []; halted = Some disk; fuse = burned n.fuse } in
      twin_node s w' v' t p (half (w'.nodes p)) (half (v'.nodes p)) apart (ap half (t.nodes p apart))

  pub written_both : (a : Admitted) (p : ℕ) (x : Write) (fails : Option ℕ) → (p ≡ s → ⊥) → Twin s (written_if a w p x fails).world (written_if a v p x fails).world
  written_both (Held_by why) p x fails apart = twin
  written_both (Goes changes) p x fails apart =
      at_most (w.nodes p).safe (v.nodes p).safe (put_in (links_changed w p x) p x fails) (put_in (links_changed v p x) p x fails)
      (ap (λ (n : Node). n.safe) (twin.nodes p apart))
      (put_both (links_changed w p x) (links_changed v p x) (changed_both p x apart) p x fails apart)

  pub bare_both : (p : ℕ) → is_bare (v.nodes p).state ≡ is_bare (w.nodes p).state
  bare_both p = elim (cases_eq p s) [
    | inl same ↦ subst (λ (i : ℕ). is_bare (v.nodes i).state ≡ is_bare (w.nodes i).state) (sym same) (ap is_bare (twin.up_too ∙ sym twin.up))
    | inr apart ↦ ap (λ (n : Node). is_bare n.state) (twin.nodes p apart)
  ]

  -- the tests of a read or write of a volume, side by side
  pub volume_both : (p volume start count : ℕ) (large : Node → Bool) (a b : Outcome) → ((p ≡ s → ⊥) → Twin s a.world b.world)
      → Twin s (on_volume w p volume start count (large (w.nodes p)) a).world (on_volume v p volume start count (large (v.nodes p)) b).world
  volume_both p volume start count large a b rest =
      let size : Node → Bool = λ n. is_wrong_count count || large n in
      let past : Node → Bool = λ n. is_past n.base volume start count in
      let sized_w : Outcome = unless (size (w.nodes p)) Size w (unless (past (w.nodes p)) Range w a) in
      let sized_v : Outcome = unless (size (v.nodes p)) Size v (unless (past (v.nodes p)) Range v b) in
      let known_w : Outcome = unless (leb (length (w.nodes p).volumes) volume) (Unknown (ByNumber volume)) w sized_w in
      let known_v : Outcome = unless (leb (length (v.nodes p).volumes) volume) (Unknown (ByNumber volume)) v sized_v in
      let first_w : Outcome = unless (not (is_primary (w.nodes p).role)) WrongRole w known_w in
      let first_v : Outcome = unless (not (is_primary (v.nodes p).role)) WrongRole v known_v in
      there s w v p (unless (is_bare (w.nodes p).state) (Unknown (ByNumber volume)) w (at_work w p first_w))
      (unless (is_bare (v.nodes p).state) (Unknown (ByNumber volume)) v (at_work v p first_v)) twin
      (both s (is_bare (w.nodes p).state) (is_bare (v.nodes p).state) (Unknown (ByNumber volume)) (Unknown (ByNumber volume)) w v (at_work w p first_w)
      (at_work v p first_v) (bare_both p) twin
      (λ _. works s w v p first_w first_v twin
      (λ apart.
      let node : v.nodes p ≡ w.nodes p = twin.nodes p apart in
      both s (not (is_primary (w.nodes p).role)) (not (is_primary (v.nodes p).role)) WrongRole WrongRole w v known_w known_v
      (ap (λ (n : Node). not (is_primary n.role)) node) twin
      (λ _. both s (leb (length (w.nodes p).volumes) volume) (leb (length (v.nodes p).volumes) volume) (Unknown (ByNumber volume))
      (Unknown (ByNumber volume)) w v sized_w sized_v (ap (λ (n : Node). leb (length n.volumes) volume) node) twin
      (λ _. both s (size (w.nodes p)) (size (v.nodes p)) Size Size w v (unless (past (w.nodes p)) Range w a) (unless (past (v.nodes p)) Range v b)
      (ap size node) twin
      (λ _. both s (past (w.nodes p)) (past (v.nodes p)) Range Range w v a b (ap past node) twin (λ _. rest apart)))))))

  pub twin_write : (p : ℕ) (x : Write) (fails : Option ℕ) → Twin s (write_at w p x fails).world (write_at v p x fails).world
  twin_write p x fails =
      volume_both p x.volume x.start (blocks_in x.bytes) (λ n. is_too_large n.ring (blocks_in x.bytes)) (written_if (admitted w p x) w p x fails)
      (written_if (admitted v p x) v p x fails)
      (λ apart. subst (λ (t : Admitted). Twin s (written_if (admitted w p x) w p x fails).world (written_if t v p x fails).world)
      (sym (same_admitted p x apart)) (written_both (admitted w p x) p x fails apart))

  pub twin_read : (p volume start count : ℕ) → Twin s (outcome_of w (Read p volume start count)).world (outcome_of v (Read p volume start count)).world
  twin_read p volume start count =
      volume_both p volume start count (λ n. false) (says w (Got (joined_blocks (blocks_from (w.nodes p).base volume start count))))
      (says v (Got (joined_blocks (blocks_from (v.nodes p).base volume start count)))) (λ _. twin)

  -- ---- crashes and recoveries of other sites

  pub up_both : (p : ℕ) → (p ≡ s → ⊥) → not (is_up (v.nodes p).state) ≡ not (is_up (w.nodes p).state)
  up_both p apart = ap (λ (n : Node). not (is_up n.state)) (twin.nodes p apart)

  fall_both : (p kept : ℕ) → (p ≡ s → ⊥) → Twin s (crash_at w p (kept_of (w.nodes p) kept)) (crash_at v p (kept_of (v.nodes p) kept))
  fall_both p kept apart =
      let node : v.nodes p ≡ w.nodes p = twin.nodes p apart in
      let k : ℕ = kept_of (w.nodes p) kept in
      let j : ℕ = kept_of (v.nodes p) kept in
      let same : j ≡ k = ap (λ (n : Node). kept_of n kept) node in
      let fallen : v.nodes p ≡ w.nodes p → crashed (v.nodes p) j ≡ crashed (w.nodes p) k = λ e. ap (λ (n : Node). crashed n j) e ∙ ap
      (λ (i : ℕ). crashed (w.nodes p) i) same in
      let origin : Twin s (crash_left w p k) (crash_left v p j)
      = twin_history s w v twin p (crashed (w.nodes p) k) (crashed (v.nodes p) j) (kept_by (w.lines (w.nodes p).line) (w.nodes p) k)
      (kept_by (v.lines (v.nodes p).line) (v.nodes p) j) apart (fallen node)
      (ap (λ (n : Node). kept_by (v.lines n.line) n j) node ∙ ap (λ (i : ℕ). kept_by (v.lines (w.nodes p).line) (w.nodes p) i) same ∙ ap
      (λ (ls : Line → History). kept_by (ls (w.nodes p).line) (w.nodes p) k) twin.lines) in
      let receiver : Twin s (with_node w p (crashed (w.nodes p) k)) (with_node v p (crashed (v.nodes p) j)) = twin_node s w v twin p (crashed (w.nodes p) k)
      (crashed (v.nodes p) j) apart (fallen node) in
      twin_empty s (with_links (crash_world w p k) p (λ to. link_left (w.nodes p) k (w.links p to)))
      (with_links (crash_world v p j) p (λ to. link_left (v.nodes p) j (v.links p to))) p
      (twin_row s (crash_world w p k) (crash_world v p j)
      (one_world s (is_origin (w.nodes p).role) (is_origin (v.nodes p).role) (crash_left w p k) (crash_left v p j) (with_node w p (crashed (w.nodes p) k))
      (with_node v p (crashed (v.nodes p) j)) (ap (λ (n : Node). is_origin n.role) node) origin receiver)
      p (λ to. link_left (w.nodes p) k (w.links p to)) (λ to. link_left (v.nodes p) j (v.links p to)) apart
      (ap (λ (n : Node). (λ (to : ℕ). link_left n j (v.links p to))) node
      ∙ ap (λ (i : ℕ). (λ (to : ℕ). link_left (w.nodes p) i (v.links p to))) same
      ∙ ap (λ (r : ℕ → Link). (λ (to : ℕ). link_left (w.nodes p) k (r to))) (twin.rows p apart)))

  pub twin_crash : (p kept : ℕ) → (p ≡ s → ⊥) → Twin s (outcome_of w (Crash p kept)).world (outcome_of v (Crash p kept)).world
  twin_crash p kept apart =
      let k : ℕ = kept_of (w.nodes p) kept in
      let j : ℕ = kept_of (v.nodes p) kept in
      there s w v p (unless (not (is_up (w.nodes p).state)) NotUp w (done (crash_at w p k)))
      (unless (not (is_up (v.nodes p).state)) NotUp v (done (crash_at v p j))) twin
      (both s (not (is_up (w.nodes p).state)) (not (is_up (v.nodes p).state)) NotUp NotUp w v (done (crash_at w p k)) (done (crash_at v p j))
      (up_both p apart) twin (λ _. fall_both p kept apart))

  -- a halted site is not deported
  pub twin_deport : (p : ℕ) → Twin s (outcome_of w (Deport p)).world (outcome_of v (Deport p)).world
  twin_deport p =
      let o : Outcome = done (deport_at w p) in
      let r : Outcome = done (deport_at v p) in
      there s w v p (at_work w p o) (at_work v p r) twin
      (works s w v p o r twin
      (λ apart.
      let u : World = crash_at w p (kept_of (w.nodes p) 0) in
      let x : World = crash_at v p (kept_of (v.nodes p) 0) in
      let fallen : Twin s u x = fall_both p 0 apart in
      twin_node s u x fallen p (deported_site (w.nodes p).fuse (u.nodes p)) (deported_site (v.nodes p).fuse (x.nodes p)) apart
      (ap (λ (n : Node). deported_site n.fuse (x.nodes p)) (twin.nodes p apart) ∙ ap (λ (n : Node). deported_site (w.nodes p).fuse n) (fallen.nodes p apart))))

  pub recovery_both : (p : ℕ) (fails : Option ℕ) → (p ≡ s → ⊥) → Twin s (recovery w p fails).world (recovery v p fails).world
  recovery_both p None apart =
      let n : Node = come_back (w.nodes p) in
      let k : Node = come_back (v.nodes p) in
      let same : k ≡ n = ap come_back (twin.nodes p apart) in
      let up : Twin s (with_node w p n) (with_node v p k) = twin_node s w v twin p n k apart same in
      let linked_so : Twin s (with_links (with_node w p n) p (λ to. restarted_link n to (w.links p to)))
      (with_links (with_node v p k) p (λ to. restarted_link k to (v.links p to)))
      = twin_row s (with_node w p n) (with_node v p k) up p (λ to. restarted_link n to (w.links p to)) (λ to. restarted_link k to (v.links p to)) apart
      (ap (λ (m : Node). (λ (to : ℕ). restarted_link m to (v.links p to))) same ∙ ap (λ (r : ℕ → Link). (λ (to : ℕ). restarted_link n to (r to)))
      (twin.rows p apart)) in
      twin_sending s (with_links (with_node w p n) p (λ to. restarted_link n to (w.links p to)))
      (with_links (with_node v p k) p (λ to. restarted_link k to (v.links p to))) linked_so
      (recovery_greeting p n) (recovery_greeting p k) (ap (λ (m : Node). recovery_greeting p m) same)
  recovery_both p (Some disk) apart =
      let next : Node → Node = λ n. record n { session = n.session + 1 } in
      twin_node s w v twin p (next (w.nodes p)) (next (v.nodes p)) apart (ap next (twin.nodes p apart))

  pub recovers_both : (t : SiteState) (p : ℕ) (fails : Option ℕ) → (p ≡ s → ⊥) → Twin s (recover_from t w p fails).world (recover_from t v p fails).world
  recovers_both Bare p fails apart = twin
  recovers_both Up p fails apart = twin
  recovers_both Deported p fails apart = at_most (w.nodes p).session (v.nodes p).session (recovery w p fails) (recovery v p fails)
      (ap (λ (n : Node). n.session) (twin.nodes p apart)) (recovery_both p fails apart)
  recovers_both Down p fails apart = at_most (w.nodes p).session (v.nodes p).session (recovery w p fails) (recovery v p fails)
      (ap (λ (n : Node). n.session) (twin.nodes p apart)) (recovery_both p fails apart)

  pub twin_recover : (p : ℕ) (fails : Option ℕ) → (p ≡ s → ⊥) → Twin s (outcome_of w (Recover p fails)).world (outcome_of v (Recover p fails)).world
  twin_recover p fails apart =
      there s w v p (recover_from (w.nodes p).state w p fails) (recover_from (v.nodes p).state v p fails) twin
      (subst (λ (t : SiteState). Twin s (recover_from (w.nodes p).state w p fails).world (recover_from t v p fails).world)
      (sym (ap (λ (n : Node). n.state) (twin.nodes p apart))) (recovers_both (w.nodes p).state p fails apart))
