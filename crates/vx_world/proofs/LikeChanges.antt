-- Writes, records, links and packets in worlds that differ in notes alone.
use Rattle.std.proofs.Common.{◌≡◌, ◌∙◌, ℕ, ◌+◌, [], ◌∷◌, ◌++◌, length, ap, sym, subst, refl, Bool, true, false}
use Rattle.std.specs.Prelude.{Option, Some, None, not, min, max, ◌&&◌, ◌||◌, leb, if◌then◌else◌}
use Rattle.vx_model.specs.Content.{Write, blocks_in, blocks_from}
use Rattle.vx_model.specs.Answer.{is_too_large, is_wrong_count, is_past}
use Rattle.vx_model.specs.Sites.{is_origin, is_up, is_bare}
use Rattle.vx_model.specs.declared.limits.TheConstants.{MOST_NUMBER}
use Rattle.vx_model.specs.declared.no.No.TheVariants.{Size, Range, Role as WrongRole, Limit, Unknown}
use Rattle.vx_model.specs.declared.no.Named.TheVariants.{Number as ByNumber}
use Rattle.vx_model.specs.declared.no.Counted.TheVariants.{Number as CountOfNumbers}
use Rattle.vx_history.specs.Admission.{Admitted, Held_by, Goes}
use Rattle.vx_history.specs.Receiving.{received_step}
use Rattle.vx_history.specs.Sending.{Sent, sent_step}
use Rattle.vx_history.specs.LinkForms.{plain_link, plain_receiver, with_plain}
use Rattle.vx_history.specs.World.{World, Node, Link as LinkState, History, Packet, Message, Gathering, Hello, Update, NetAck, DataAck, no_regions, with_node}
use Rattle.vx_history.specs.Likes.{IsLike, SameLink}
use Rattle.vx_history.specs.Steps.{burned, logged, told_of}
use Rattle.vx_history.specs.Sends.{is_linked, with_link, sent_by, packets_of, greeting}
use Rattle.vx_history.specs.Refusals.{Outcome, says, on_link, keeps_links, is_primary, is_running, some_below, is_waited_for, why_held, on_volume}
use Rattle.vx_history.specs.Gatherings.{completes, left_by}
use Rattle.vx_history.specs.Events
use Rattle.vx_history.specs.Step.{done, write_at, read_at, joined_blocks}
use Rattle.vx_history.specs.declared.event.Said.{Said}
use Rattle.vx_history.specs.declared.event.Said.TheVariants.{DoneAt, Logged, Got, Taken as IsTaken, Ignored as IsIgnored, Refused}
use Rattle.vx_history.specs.declared.sender.Action.{Action}
use Rattle.vx_history.specs.declared.sender.Action.TheVariants.{Nothing, Ignored, Taken, Updates}
use Rattle.vx_history.specs.declared.sender.SEvent.{SEvent}
use Rattle.vx_history.specs.declared.sender.SEvent.TheVariants.{Hello as HearHello, NetAck as HearNetAck, DataAck as HearDataAck}
use Rattle.vx_history.specs.declared.receiver.REvent.TheVariants.{Update as HearUpdate, Applied}
use Rattle.vx_history.specs.declared.receiver.RState.{RState}
use Rattle.vx_history.specs.declared.receiver.RAction.{RAction}
use Rattle.vx_history.specs.declared.receiver.RAction.TheVariants as act
use Rattle.vx_world.proofs.Likely.{noted, Same, same_of, tests, one_of, link_self, pair_updated, like_node, like_history, like_link, like_sending, like_gathering, at_site_same, at_work_same, on_link_same}
use Rattle.vx_world.proofs.LikeTests.{waited_same, admitted_same, changed_same, marked_same}

-- ## Writes

module _ (w v : World) (like : IsLike w v) where
  pub put_same : (p : ℕ) (x : Write) (fails : Option ℕ) → Same (Events.put_in w p x fails) (Events.put_in v p x fails)
  put_same p x None = record {
    world = like_history (Events.links_marked w p (x ∷ [])) (Events.links_marked v p (x ∷ [])) (marked_same w v like p (x ∷ [])) p (logged (w.nodes p) x) (logged (v.nodes p) x) (told_of (w.lines (w.nodes p).line) x) (told_of (v.lines (v.nodes p).line) x)
        (ap (λ (n : Node). logged n x) (like.nodes p))
        (ap (λ (n : Node). told_of (v.lines n.line) x) (like.nodes p) ∙ ap (λ (h : History). told_of h x) (like.lines (w.nodes p).line));
    said = ap (λ (b : Bool). if b then Logged ((v.nodes p).safe + 1) else DoneAt ((v.nodes p).safe + 1)) (waited_same w v like p)
        ∙ ap (λ (n : Node). if some_below w.sites (λ k. is_waited_for k (w.links p k)) then Logged (n.safe + 1) else DoneAt (n.safe + 1)) (like.nodes p);
  }
  put_same p x (Some disk) = record {
    world = like_node w v like p (record (w.nodes p) { log = (w.nodes p).log ++ x ∷ []; halted = Some disk; fuse = burned (w.nodes p).fuse })
        (record (v.nodes p) { log = (v.nodes p).log ++ x ∷ []; halted = Some disk; fuse = burned (v.nodes p).fuse })
        (ap (λ (n : Node). let m : Node = record n { log = n.log ++ x ∷ []; halted = Some disk; fuse = burned n.fuse } in m) (like.nodes p));
    said = refl;
  }

module _ (w v : World) (like : IsLike w v) where
  pub written_if_same : (admitted : Admitted) (p : ℕ) (x : Write) (fails : Option ℕ)
      → Same (Events.written_if admitted w p x fails) (Events.written_if admitted v p x fails)
  written_if_same (Held_by why) p x fails = same_of w v (Refused (why_held why)) (Refused (why_held why)) like refl
  written_if_same (Goes changes) p x fails =
      tests (leb MOST_NUMBER (w.nodes p).safe) (leb MOST_NUMBER (v.nodes p).safe) (Limit CountOfNumbers MOST_NUMBER)
      (Limit CountOfNumbers MOST_NUMBER) w v _ _ (ap (λ (n : Node). leb MOST_NUMBER n.safe) (like.nodes p)) refl like
      (λ _. put_same (Events.links_changed w p x) (Events.links_changed v p x) (changed_same w v like p x) p x fails)

  pub volume_same : (p volume start count : ℕ) (a b : Bool) (o r : Outcome) → b ≡ a → Same o r
      → Same (on_volume w p volume start count a o) (on_volume v p volume start count b r)
  volume_same p volume start count a b o r e rest =
      at_site_same w v like p _ _
      (tests (is_bare (w.nodes p).state) (is_bare (v.nodes p).state) (Unknown (ByNumber volume)) (Unknown (ByNumber volume)) w v _ _
      (ap (λ (n : Node). is_bare n.state) (like.nodes p)) refl like
      (λ _. at_work_same w v like p _ _
      (tests (not (is_primary (w.nodes p).role)) (not (is_primary (v.nodes p).role)) WrongRole WrongRole w v _ _
      (ap (λ (n : Node). not (is_primary n.role)) (like.nodes p)) refl like
      (λ _. tests (leb (length (w.nodes p).volumes) volume) (leb (length (v.nodes p).volumes) volume) (Unknown (ByNumber volume))
      (Unknown (ByNumber volume)) w v _ _ (ap (λ (n : Node). leb (length n.volumes) volume) (like.nodes p)) refl like
      (λ _. tests (is_wrong_count count || a) (is_wrong_count count || b) Size Size w v _ _ (ap (λ (c : Bool). is_wrong_count count || c) e) refl like
      (λ _. tests (is_past (w.nodes p).base volume start count) (is_past (v.nodes p).base volume start count) Range Range w v o r
      (ap (λ (n : Node). is_past n.base volume start count) (like.nodes p)) refl like
      (λ _. rest)))))))

  pub write_same : (p : ℕ) (x : Write) (fails : Option ℕ) → Same (write_at w p x fails) (write_at v p x fails)
  write_same p x fails =
      volume_same p x.volume x.start (blocks_in x.bytes) (is_too_large (w.nodes p).ring (blocks_in x.bytes))
      (is_too_large (v.nodes p).ring (blocks_in x.bytes)) _ _
      (ap (λ (n : Node). is_too_large n.ring (blocks_in x.bytes)) (like.nodes p))
      (subst (λ (a : Admitted). Same (Events.written_if (Events.admitted w p x) w p x fails) (Events.written_if a v p x fails))
      (sym (admitted_same w v like p x)) (written_if_same (Events.admitted w p x) p x fails))

  pub read_same : (p volume start count : ℕ) → Same (read_at w p volume start count) (read_at v p volume start count)
  read_same p volume start count =
      volume_same p volume start count false false _ _ refl
      (same_of w v (Got (joined_blocks (blocks_from (w.nodes p).base volume start count)))
      (Got (joined_blocks (blocks_from (v.nodes p).base volume start count))) like
      (ap (λ (n : Node). Got (joined_blocks (blocks_from n.base volume start count))) (like.nodes p)))

  -- ## Records that are applied

  pub applied_same : (q : ℕ) (r : RState) (action : RAction) → Same (Events.applied_by w q r action) (Events.applied_by v q r action)
  applied_same q r act.Nothing = same_of w v (DoneAt (w.nodes q).safe) (DoneAt (v.nodes q).safe) like (ap (λ (n : Node). DoneAt n.safe) (like.nodes q))
  applied_same q r act.Ignored = same_of w v (DoneAt (w.nodes q).safe) (DoneAt (v.nodes q).safe) like (ap (λ (n : Node). DoneAt n.safe) (like.nodes q))
  applied_same q r (act.IgnoredAck number) = same_of w v (DoneAt (w.nodes q).safe) (DoneAt (v.nodes q).safe) like
      (ap (λ (n : Node). DoneAt n.safe) (like.nodes q))
  applied_same q r (act.Take number) = same_of w v (DoneAt (w.nodes q).safe) (DoneAt (v.nodes q).safe) like (ap (λ (n : Node). DoneAt n.safe) (like.nodes q))
  applied_same q r (act.DataAck number) =
      let a : Node = Events.applied (w.nodes q) number r.mark in
      let b : Node = Events.applied (v.nodes q) number r.mark in
      let e : b ≡ noted a b = ap (λ (n : Node). Events.applied n number r.mark) (like.nodes q) in record {
        world = like_sending (with_node w q a) (with_node v q b) (like_node w v like q a b e) (packets_of q a.fed_by a.line (DataAck a.safe))
            (packets_of q b.fed_by b.line (DataAck b.safe)) (ap (λ (n : Node). packets_of q n.fed_by n.line (DataAck n.safe)) e);
        said = refl;
      }

  pub apply_same : (q count reached : ℕ)
      → Same (if is_origin (w.nodes q).role then Events.reached_at w q count reached else Events.apply_at w q count) (if is_origin (v.nodes q).role then Events.reached_at v q count reached else Events.apply_at v q count)
  apply_same q count reached =
      let rule = λ (n : Node). received_step (plain_receiver n) (Applied count) in
      one_of (is_origin (w.nodes q).role) (is_origin (v.nodes q).role) (Events.reached_at w q count reached) (Events.reached_at v q count reached)
      (Events.apply_at w q count) (Events.apply_at v q count) (ap (λ (n : Node). is_origin n.role) (like.nodes q))
      (λ _. same_of w v _ _ like (ap (λ (n : Node). DoneAt (min n.safe (max reached (min count n.safe)))) (like.nodes q)))
      (λ _. subst (λ (x : Node). Same (Events.applied_by w q (rule (w.nodes q)).state (rule (w.nodes q)).action)
      (Events.applied_by v q (rule x).state (rule x).action)) (sym (like.nodes q)) (applied_same q (rule (w.nodes q)).state (rule (w.nodes q)).action))

  -- ## Links

  pub moved_same : (p q : ℕ) (e : SEvent) → v.links p q ≡ w.links p q → IsLike (Events.link_event w p q e) (Events.link_event v p q e)
  moved_same p q e same =
      let r : Sent = Events.link_step w p q e in
      let t : Sent = Events.link_step v p q e in
      let is : t ≡ r = ap (λ (l : LinkState). sent_step (plain_link q l) e (Events.receiver_facts (v.nodes p) (v.nodes p).line)) same ∙ ap
      (λ (n : Node). sent_step (plain_link q (w.links p q)) e (Events.receiver_facts n n.line)) (like.nodes p) in
      let put : with_plain (v.links p q) t.link ≡ with_plain (w.links p q) r.link = ap (λ (x : Sent). with_plain (v.links p q) x.link) is ∙ ap
      (λ (l : LinkState). with_plain l r.link) same in
      like_sending (with_link w p q (with_plain (w.links p q) r.link)) (with_link v p q (with_plain (v.links p q) t.link))
      (like_link w v like p q (with_plain (w.links p q) r.link) (with_plain (v.links p q) t.link)
      (subst (λ (l : LinkState). SameLink (with_plain (w.links p q) r.link) l) (sym put) (link_self (with_plain (w.links p q) r.link))))
      (sent_by r.action p q (w.nodes p)) (sent_by t.action p q (v.nodes p))
      (ap (λ (x : Sent). sent_by x.action p q (v.nodes p)) is ∙ by_action r.action p q)
    where
      by_action : (a : Action) (p q : ℕ) → sent_by a p q (v.nodes p) ≡ sent_by a p q (w.nodes p)
      by_action a p q = ap (λ (n : Node). sent_by a p q n) (like.nodes p) ∙ plain a
        where
          plain : (a : Action) → sent_by a p q (noted (w.nodes p) (v.nodes p)) ≡ sent_by a p q (w.nodes p)
          plain Nothing = refl
          plain Ignored = refl
          plain Taken = refl
          plain (Updates from to) = refl

  pub tick_same : (p q : ℕ) → Same (on_link w p q (done (Events.ticked_at w p q))) (on_link v p q (done (Events.ticked_at v p q)))
  tick_same p q =
      on_link_same w v like keeps_links p q _ _
      (λ same _.
      let l : LinkState = Events.ticked_link w p q in
      let m : LinkState = Events.ticked_link v p q in
      let is : m ≡ l = ap (λ (x : LinkState). let y : LinkState = record x { sent = x.net; trimmed = 0; since = no_regions } in y) same in
      record { world = like_link w v like p q l m (subst (λ (x : LinkState). SameLink l x) (sym is) (link_self l)); said = refl })

  pub event_same : (p q : ℕ) (e : SEvent) → Same (on_link w p q (done (Events.link_event w p q e))) (on_link v p q (done (Events.link_event v p q e)))
  event_same p q e = on_link_same w v like keeps_links p q _ _ (λ same _. record { world = moved_same p q e same; said = refl })

  pub greeting_same : (p q : ℕ) → Events.greeting_back v p q ≡ Events.greeting_back w p q
  greeting_same p q =
      ap (λ (n : Node). if Events.greets n (v.nodes q) then greeting q p (v.nodes q) else []) (like.nodes p)
      ∙ ap (λ (n : Node). if Events.greets (w.nodes p) n then greeting q p n else []) (like.nodes q)

  -- ## Packets

  pub link_heard_same : (p : Packet) (e : SEvent) → Same (Events.link_heard w p e) (Events.link_heard v p e)
  link_heard_same p e = by_link (is_linked (w.links p.target p.source)) refl
    where
      rule : LinkState → Node → Sent
      rule l n = sent_step (plain_link p.source l) e (Events.receiver_facts n p.line)

      not_linked : (a b : Bool) → (a && b) ≡ true → b ≡ false → ⊥
      not_linked true true e f = let g : true ≡ false = f in cc
      not_linked true false e f = let g : false ≡ true = e in cc
      not_linked false b e f = let g : false ≡ true = e in cc

      by_link : (c : Bool) → is_linked (w.links p.target p.source) ≡ c → Same (Events.link_heard w p e) (Events.link_heard v p e)
      by_link true is =
          let same : v.links p.target p.source ≡ w.links p.target p.source = (like.links p.target p.source).same is in
          let l : LinkState = w.links p.target p.source in
          let m : LinkState = v.links p.target p.source in
          let r : Sent = sent_step (plain_link p.source l) e (Events.receiver_facts (w.nodes p.target) p.line) in
          let t : Sent = sent_step (plain_link p.source m) e (Events.receiver_facts (v.nodes p.target) p.line) in
          let ruled : t ≡ r = ap (λ (k : LinkState). sent_step (plain_link p.source k) e (Events.receiver_facts (v.nodes p.target) p.line)) same ∙ ap
          (λ (n : Node). sent_step (plain_link p.source l) e (Events.receiver_facts n p.line)) (like.nodes p.target) in
          let put : with_plain m t.link ≡ with_plain l r.link = ap (λ (x : Sent). with_plain m x.link) ruled ∙ ap
          (λ (k : LinkState). with_plain k r.link) same in
          one_of (keeps_links (w.nodes p.target).role && is_linked l) (keeps_links (v.nodes p.target).role && is_linked m)
          (says (with_link w p.target p.source (with_plain l r.link)) (Events.said_of_link r.action))
          (says (with_link v p.target p.source (with_plain m t.link)) (Events.said_of_link t.action)) (says w IsIgnored) (says v IsIgnored)
          (ap (λ (n : Node). keeps_links n.role && is_linked m) (like.nodes p.target) ∙ ap (λ (b : Bool). keeps_links (w.nodes p.target).role && b)
          (like.links p.target p.source).linked)
          (λ _. record {
            world = like_link w v like p.target p.source (with_plain l r.link) (with_plain m t.link)
                (subst (λ (k : LinkState). SameLink (with_plain l r.link) k) (sym put) (link_self (with_plain l r.link)));
            said = ap (λ (x : Sent). Events.said_of_link x.action) ruled;
          })
          (λ _. same_of w v IsIgnored IsIgnored like refl)
      by_link false is =
          let l : LinkState = w.links p.target p.source in
          let m : LinkState = v.links p.target p.source in
          let r : Sent = sent_step (plain_link p.source l) e (Events.receiver_facts (w.nodes p.target) p.line) in
          let t : Sent = sent_step (plain_link p.source m) e (Events.receiver_facts (v.nodes p.target) p.line) in
          one_of (keeps_links (w.nodes p.target).role && is_linked l) (keeps_links (v.nodes p.target).role && is_linked m)
          (says (with_link w p.target p.source (with_plain l r.link)) (Events.said_of_link r.action))
          (says (with_link v p.target p.source (with_plain m t.link)) (Events.said_of_link t.action)) (says w IsIgnored) (says v IsIgnored)
          (ap (λ (n : Node). keeps_links n.role && is_linked m) (like.nodes p.target) ∙ ap (λ (b : Bool). keeps_links (w.nodes p.target).role && b)
          (like.links p.target p.source).linked)
          (λ both. absurd (not_linked (keeps_links (w.nodes p.target).role) (is_linked l) both is))
          (λ _. same_of w v IsIgnored IsIgnored like refl)

  pub from_memory_same : (u x : World) → IsLike u x → (n k : Node) (p : Packet) (number : ℕ) → k ≡ noted n k
      → IsLike (Events.from_memory u n p number) (Events.from_memory x k p number)
  from_memory_same u x l n k p number e =
      like_sending u x l (packets_of p.target p.source n.line (NetAck n.session number)) (packets_of p.target p.source k.line (NetAck k.session number))
      (ap (λ (m : Node). packets_of p.target p.source m.line (NetAck m.session number)) e)

  pub taken_if_same : (b : Bool) (p : Packet) (x : Write) (number : ℕ) → Same (Events.taken_if b w p x number) (Events.taken_if b v p x number)
  taken_if_same true p x number =
      let n : Node = Events.with_write (w.nodes p.target) p.source x in
      let k : Node = Events.with_write (v.nodes p.target) p.source x in record {
        world = from_memory_same (with_node w p.target n) (with_node v p.target k)
            (like_node w v like p.target n k (ap (λ (m : Node). Events.with_write m p.source x) (like.nodes p.target))) (w.nodes p.target)
            (v.nodes p.target) p number (like.nodes p.target);
        said = refl;
      }
  taken_if_same false p x number = same_of w v IsTaken IsTaken like refl

  pub update_taken_same : (p : Packet) (x : Write) (action : RAction) → Same (Events.update_taken w p x action) (Events.update_taken v p x action)
  update_taken_same p x act.Nothing = same_of w v IsIgnored IsIgnored like refl
  update_taken_same p x act.Ignored = same_of w v IsIgnored IsIgnored like refl
  update_taken_same p x (act.IgnoredAck number) = record {
    world = from_memory_same w v like (w.nodes p.target) (v.nodes p.target) p number
        (like.nodes p.target);
    said = refl;
  }
  update_taken_same p x (act.Take number) =
      subst (λ (g : Option Gathering). Same (Events.taken_if (completes (w.gathering p.target) p) w p x number)
      (Events.taken_if (completes g p) v p x number)) (sym (like.gathering p.target)) (taken_if_same (completes (w.gathering p.target) p) p x number)
  update_taken_same p x (act.DataAck number) = same_of w v IsIgnored IsIgnored like refl

  pub heard_same : (p : Packet) (m : Message) → Same (Events.heard w p m) (Events.heard v p m)
  heard_same p (Hello session number stored) = link_heard_same p (HearHello session number stored)
  heard_same p (Update number x) =
      let rule : Node → RAction = λ n. (received_step (plain_receiver n) (HearUpdate p.line number)).action in
      one_of (is_origin (w.nodes p.target).role) (is_origin (v.nodes p.target).role) (says w IsIgnored) (says v IsIgnored)
      (Events.update_taken w p x (rule (w.nodes p.target))) (Events.update_taken v p x (rule (v.nodes p.target)))
      (ap (λ (n : Node). is_origin n.role) (like.nodes p.target))
      (λ _. same_of w v IsIgnored IsIgnored like refl)
      (λ _. subst (λ (a : RAction). Same (Events.update_taken w p x (rule (w.nodes p.target))) (Events.update_taken v p x a))
      (sym (ap rule (like.nodes p.target))) (update_taken_same p x (rule (w.nodes p.target))))
  heard_same p (NetAck session number) = link_heard_same p (HearNetAck session number)
  heard_same p (DataAck number) = link_heard_same p (HearDataAck number)

  pub handed_same : (p : Packet) → Same (Events.handed w p) (Events.handed v p)
  handed_same p =
      one_of (is_up (w.nodes p.target).state && is_running (w.nodes p.target).halted)
      (is_up (v.nodes p.target).state && is_running (v.nodes p.target).halted) (Events.heard w p p.message) (Events.heard v p p.message) (says w IsIgnored)
      (says v IsIgnored)
      (ap (λ (n : Node). is_up n.state && is_running n.halted) (like.nodes p.target)) (λ _. heard_same p p.message)
      (λ _. same_of w v IsIgnored IsIgnored like refl)

pub gathers_same : (p : Packet) (o r : Outcome) → Same o r → Same (Events.gathers p o) (Events.gathers p r)
gathers_same p o r same = record {
  world = subst
      (λ (s : Said). IsLike (Events.gathered_if (Events.is_taken o.said) o.world p) (Events.gathered_if (Events.is_taken s) r.world p)) (sym same.said)
      (by_taken (Events.is_taken o.said));
  said = same.said;
}
  where
    by_taken : (b : Bool) → IsLike (Events.gathered_if b o.world p) (Events.gathered_if b r.world p)
    by_taken true =
        like_gathering o.world r.world same.world _ _
        (λ i. pair_updated (λ (g h : Option Gathering). h ≡ g) o.world.gathering r.world.gathering p.target (left_by (o.world.gathering p.target) p)
        (left_by (r.world.gathering p.target) p) i (ap (λ (g : Option Gathering). left_by g p) (same.world.gathering p.target)) (same.world.gathering i))
    by_taken false = same.world

pub delivered_same : (w v : World) → IsLike w v → (number : ℕ) (p : Option Packet) → Same (Events.delivered w number p) (Events.delivered v number p)
delivered_same w v like number None = same_of w v (Refused (Unknown (ByNumber number))) (Refused (Unknown (ByNumber number))) like refl
delivered_same w v like number (Some p) = gathers_same p (Events.handed w p) (Events.handed v p) (handed_same w v like p)
