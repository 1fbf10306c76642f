-- Each change of one link keeps what is said of it, and what is sent or promised on it is so.
use Rattle.std.proofs.Common.{◌≡◌, ◌⊎◌, inl, inr, ℕ, zero, suc, ◌+◌, ◌≤◌, ◌<◌, List, [], ◌∷◌, take, refl, ap, sym, ◌∙◌, subst, arith, Bool, true, false}
use Rattle.std.specs.Prelude.{if◌then◌else◌, leb, ltb, eqb, not, max, slice_get, Some, pred, ◌&&◌}
use Rattle.std.specs.List.{AllByRecursion}
use Rattle.std.proofs.lemmas.Bool.{false_from_ne_true, leb-true}
use Rattle.std.proofs.lemmas.Bool.Decides.{nat_tests}
use Rattle.std.proofs.lemmas.List.{take-take}
use Rattle.vx_model.specs.Content.{Write, IsNumber, IsPrefixOf, blocks_in}
use Rattle.vx_history.specs.World.{Node, Link, History, Packet, Message, Hello, Update, NetAck, DataAck, Durable, InSession}
use Rattle.vx_model.specs.Sites.{is_origin, same_line}
use Rattle.vx_history.specs.Good.{GoodNode, IsMade}
use Rattle.vx_history.specs.Admission.{change, changed_mode, hold, is_fail}
use Rattle.vx_history.specs.ChangeMaps.{map_changed}
use Rattle.vx_history.specs.GoodCopies.{GoodMode, GoodReplays}
use Rattle.vx_history.specs.Sending.{Sent, sent_step, greeted, greeted_anew, memory_acknowledged, disk_acknowledged, by_log, with_taken, with_ignored, if_on_line}
use Rattle.vx_history.specs.LinkForms.{plain_link, with_plain}
use Rattle.vx_history.specs.declared.admission.Change.{Change}
use Rattle.vx_history.specs.declared.admission.Change.TheVariants.{Stays, ToStale, ToDcm}
use Rattle.vx_model.specs.declared.history.Line.{Line}
use Rattle.vx_model.specs.declared.link.Link.{Link as PlainLink}
use Rattle.vx_model.specs.declared.link.SyncMode.{SyncMode}
use Rattle.vx_model.specs.declared.link.SyncMode.TheVariants.{Off, Override, Fail}
use Rattle.vx_history.specs.declared.sender.SEvent.TheVariants.{Hello as HearHello, NetAck as HearNetAck, DataAck as HearDataAck}
use Rattle.vx_history.proofs.Updates.{by_test, and_left, and_right, same_line_equal}
use Rattle.vx_history.specs.Sound.{IsPresent, IsFollowed, HasStored, GoodLink, GoodMessage, GoodPromise, IsKept, IsStranger, CameTo}
use Rattle.vx_history.specs.Sends.{is_linked, packets_of, packets_from, parts_of, packet, updates, between}
use Rattle.vx_history.specs.Refusals.{holds_back, is_unconfirmed, some_below, goes, waits}
use Rattle.vx_history.specs.Events.{receiver_facts, restarted_link, lost_touch, link_after, link_marked, promise_of, promises_of, used_above}
use Rattle.vx_history.proofs.Converting.{change_holds, mode_converted, mode_marked, unbegun_overtaken, unbegun_restarted, unbegun_stored}
use Rattle.vx_world.proofs.Carry.{LinkSays}
use Rattle.vx_world.proofs.Lists.{prefix_get, prefix_take, drop_get, or_left, or_right, each_append, prefix_trans}

-- a link that differs in nothing that is said of it
pub link_like : (h : History) (p s : ℕ) (a b : Node) (l m : Link) → is_linked m ≡ is_linked l → m.session ≡ l.session → m.net ≡ l.net
    → m.stored ≡ l.stored → (LinkSays h s b l → LinkSays h s b m) → GoodLink h p s a b l → GoodLink h p s a b m
link_like h p s a b l m linked session net stored mode good = record {
  ends = λ is. good.ends (sym linked ∙ is);
  starts = λ is. good.starts (sym linked ∙ is);
  apart = λ is. good.apart (sym linked ∙ is);
  came = λ is. good.came (sym linked ∙ is);
  session = λ is. omega (arith, session, good.session (sym linked ∙ is));
  stored = λ (is, r, e). subst (λ k. HasStored b k) (sym stored) (good.stored (sym linked ∙ is, r, e));
  net = λ (is, r, e) present. omega (arith, net, good.net (sym linked ∙ is, r, e) (subst (λ k. IsPresent b k) session present));
  says = λ o (is, r, e). mode (good.says o (sym linked ∙ is, r, e));
}

-- what is acknowledged is only what is stored
forgotten : (own h : History) (p s : ℕ) (a b : Node) (l m : Link) → GoodNode h s b → is_linked m ≡ is_linked l → m.session ≤ b.session
    → m.net ≡ l.stored → m.stored ≡ l.stored → (LinkSays own s b l → LinkSays own s b m) → GoodLink own p s a b l → GoodLink own p s a b m
forgotten own h p s a b l m node linked session net stored mode good = record {
  ends = λ is. good.ends (sym linked ∙ is);
  starts = λ is. good.starts (sym linked ∙ is);
  apart = λ is. good.apart (sym linked ∙ is);
  came = λ is. good.came (sym linked ∙ is);
  session = λ is. session;
  stored = λ (is, r, e). subst (λ k. HasStored b k) (sym stored) (good.stored (sym linked ∙ is, r, e));
  net = λ (is, r, e) present. omega (arith, net, (good.stored (sym linked ∙ is, r, e)).0, node.safe_fits);
  says = λ o (is, r, e). mode (good.says o (sym linked ∙ is, r, e));
}

-- the greater of two numbers that are stored
both_stored : (b : Node) (m n : ℕ) → HasStored b m → HasStored b n → HasStored b (max m n)
both_stored b m n (least, first) (most, second) = (
  omega (arith, least, most),
  λ by end. elim (greater m n) [
    | inl e ↦ first by (omega (arith, end, e))
    | inr e ↦ second by (omega (arith, end, e))
  ],
)
  where
    greater : (m n : ℕ) → (max m n ≡ m) ⊎ (max m n ≡ n)
    greater m n = by (leb n m) refl
      where
        by : (c : Bool) → leb n m ≡ c → (max m n ≡ m) ⊎ (max m n ≡ n)
        by true e = inl (let l : n ≤ m = grind (arith, nat_tests) in omega (arith, l))
        by false e = inr (let l : m ≤ n = grind (arith, nat_tests) in omega (arith, l))

pub link_restarted : (own h : History) (p s : ℕ) (a b n : Node) (l : Link) → GoodNode h s b → (own.replays s).begun ≡ 0 → GoodLink own p s a b l
    → GoodLink own p s a b (restarted_link n s l)
link_restarted own h p s a b n l node none good =
    forgotten own h p s a b l (restarted_link n s l) node refl (omega arith) refl refl (λ says. unbegun_restarted own.held (own.replays s) b l.map l.stored none l.mode says) good

pub link_lost : (own h : History) (p s : ℕ) (a b : Node) (l : Link) → GoodNode h s b → GoodLink own p s a b l → GoodLink own p s a b (lost_touch l)
link_lost own h p s a b l node good = record {
  ends = good.ends;
  starts = good.starts;
  apart = good.apart;
  came = good.came;
  session = good.session;
  stored = good.stored;
  net = λ v _. omega (arith, (good.stored v).0, node.safe_fits);
  says = good.says;
}

-- the map of a link has more regions
pub link_with_marks : (h : History) (p s : ℕ) (a b : Node) (xs : List Write) (l : Link) → GoodLink h p s a b l → GoodLink h p s a b (link_marked xs l)
link_with_marks h p s a b xs l good =
    link_like h p s a b l (link_marked xs l) refl refl refl refl (λ says. mode_marked h.held (h.replays s) b l.map xs l.stored l.mode says) good

-- a link of an origin changes as a write is let in
module _ (lines : Line → History) (p s : ℕ) (a b : Node) (x : Write) (l : Link) (good_a : GoodNode (lines a.line) p a) (good_b : GoodNode (lines b.line) s b)
    (table : GoodReplays (lines a.line).held ((lines a.line).replays s)) (good : GoodLink (lines a.line) p s a b l) where
  abbrev h : History
  h = lines a.line

  -- what the line holds is a first part of its log
  front : is_origin a.role ≡ true → IsMade a → IsPrefixOf h.held a.log
  front o made = subst (λ (xs : List Write). IsPrefixOf xs a.log) (good_a.origin_log made o) (prefix_take a.safe a.log)

  converted : is_origin a.role ≡ true → IsFollowed a b l → (c : Change) → change (blocks_in x.bytes + 1) a.ring (plain_link s l) (used_above a s l) ≡ c
      → GoodMode h.held (h.replays s) b (map_changed c l.mode l.map a.log (hold (plain_link s l))) l.stored (changed_mode c l.mode)
  converted o v Stays e = good.says o v
  converted o v ToStale e = tt
  converted o v ToDcm e =
      let made : IsMade a × IsMade b = good.ends v.0 in
      let at : GoodNode h s b = subst (λ (k : Line). GoodNode (lines k) s b) v.2 good_b in
      mode_converted h.held a.log (h.replays s) b l.map l.stored (front o made.0) table at.safe_fits (at.receiver_log made.1 v.1) (λ m. at.content (inr m))
      (at.copy made.1 v.1) l.mode (change_holds (blocks_in x.bytes + 1) a.ring (plain_link s l) (used_above a s l) e) (good.stored v) (good.says o v)

  pub link_changed : GoodLink h p s a b (link_after a x s l)
  link_changed = record {
    ends = good.ends;
    starts = good.starts;
    apart = good.apart;
    came = good.came;
    session = good.session;
    stored = good.stored;
    net = good.net;
    says = λ o v. converted o v (change (blocks_in x.bytes + 1) a.ring (plain_link s l) (used_above a s l)) refl;
  }

-- the sender's link after a message of the link's receiver that was sent on the sender's line
module _ (own h : History) (p s : ℕ) (a b : Node) (l : Link) (line : Line) (node : GoodNode h s b) (none : (own.replays s).begun ≡ 0) (good : GoodLink own p s a b l) where
  abbrev pub After : Sent → Type 0
  After r = GoodLink own p s a b (with_plain l r.link)

  same : After (with_ignored (plain_link s l))
  same = link_like own p s a b l (with_plain l (plain_link s l)) refl refl refl refl (λ says. says) good

  -- what is stored may be more
  stored_says : (more : ℕ) → is_origin a.role ≡ true → IsFollowed a b l → GoodMode own.held (own.replays s) b l.map more l.mode
  stored_says more o v = unbegun_stored own.held (own.replays s) b l.map l.stored none more l.mode (good.says o v)

  on_line : (r : Sent) → (line ≡ a.line → After r) → After (if_on_line (receiver_facts a line) (plain_link s l) r)
  on_line r heard =
      by_test After (same_line line a.line) r (with_ignored (plain_link s l)) (λ e. heard (same_line_equal line a.line e)) (λ _. same)

  pub link_hello : (held : List Write) (session number stored : ℕ) → GoodMessage held b line (Hello session number stored)
      → After (sent_step (plain_link s l) (HearHello session number stored) (receiver_facts a line))
  link_hello held session number stored (old, memory, disk) =
      on_line (greeted (plain_link s l) session number stored)
      (λ e. by_test After (ltb session l.session) (with_ignored (plain_link s l)) _
      (λ _. same)
      (λ not_old. by_test (λ (r : PlainLink). After (with_taken r)) (by_log l.mode) _ _
      (λ _. by_test (λ (r : PlainLink). After (with_taken r)) (ltb l.session session) (greeted_anew (plain_link s l) session number (max l.stored stored)) _
      (λ _. record {
        ends = good.ends;
        starts = good.starts;
        apart = good.apart;
        came = good.came;
        session = λ _. old;
        stored = λ v. both_stored b l.stored stored (good.stored v) (disk (v.2 ∙ sym e));
        net = λ v present. omega (arith, memory (v.2 ∙ sym e) present, (good.stored v).0, (disk (v.2 ∙ sym e)).0, node.safe_fits);
        says = λ o v. stored_says (max l.stored stored) o v;
      })
      (λ not_new. record {
        ends = good.ends;
        starts = good.starts;
        apart = good.apart;
        came = good.came;
        session = good.session;
        stored = λ v. both_stored b l.stored stored (good.stored v) (disk (v.2 ∙ sym e));
        net = λ v present. omega (arith, good.net v present, memory (v.2 ∙ sym e) (present.0, present.1 ∙ between_both l.session session not_new not_old));
        says = λ o v. stored_says (max l.stored stored) o v;
      }))
      (λ _. by_test (λ (r : PlainLink). After (with_taken r)) (ltb l.session session) _ _
      (λ _. forgotten own h p s a b l _ node refl old refl refl (λ says. unbegun_overtaken own.held (own.replays s) b l.map l.stored none number l.mode says) good)
      (λ _. link_like own p s a b l _ refl refl refl refl (λ says. unbegun_overtaken own.held (own.replays s) b l.map l.stored none number l.mode says) good))))
    where
      between_both : (m n : ℕ) → ltb m n ≡ false → ltb n m ≡ false → m ≡ n
      between_both m n f g = grind (arith, nat_tests)

  pub link_net_ack : (held : List Write) (session number : ℕ) → GoodMessage held b line (NetAck session number)
      → After (sent_step (plain_link s l) (HearNetAck session number) (receiver_facts a line))
  link_net_ack held session number (old, memory) =
      on_line (memory_acknowledged (plain_link s l) session number)
      (λ e. by_test After (by_log l.mode && (eqb session l.session && ltb l.net number)) _ (with_ignored (plain_link s l))
      (λ t. record {
        ends = good.ends;
        starts = good.starts;
        apart = good.apart;
        came = good.came;
        session = good.session;
        stored = good.stored;
        net = λ v present. memory (v.2 ∙ sym e) (present.0, present.1 ∙ sym (is_same session l.session (and_left _ _ (and_right _ _ t))));
        says = good.says;
      })
      (λ _. same))
    where
      is_same : (m n : ℕ) → eqb m n ≡ true → m ≡ n
      is_same m n t = grind (arith, nat_tests)

  pub link_data_ack : (held : List Write) (number : ℕ) → GoodMessage held b line (DataAck number)
      → After (sent_step (plain_link s l) (HearDataAck number) (receiver_facts a line))
  link_data_ack held number disk =
      on_line (disk_acknowledged (plain_link s l) number)
      (λ e. by_test After (by_log l.mode && ltb l.stored number) _ (with_ignored (plain_link s l))
      (λ _. record {
        ends = good.ends;
        starts = good.starts;
        apart = good.apart;
        came = good.came;
        session = good.session;
        stored = λ v. disk (v.2 ∙ sym e);
        net = λ v present. omega (arith, good.net v present, (disk (v.2 ∙ sym e)).0, node.safe_fits);
        says = λ o v. stored_says number o v;
      })
      (λ _. same))

-- the packets of a message say what it says
pub each_packet : (P : Packet → Type 0) (source target : ℕ) (line : Line) (m : Message) → ((part : ℕ) → P (packet source target line m part))
    → AllByRecursion P (packets_of source target line m)
each_packet P source target line m h = each_from 0 (parts_of m)
  where
    each_from : (part count : ℕ) → AllByRecursion P (packets_from source target line m part count)
    each_from part zero = tt
    each_from part (suc k) = (h part, each_from (part + 1) k)

-- updates of writes that stand on the line at the numbers that they carry
updates_good : (P : Packet → Type 0) (p s : ℕ) (line : Line) (held : List Write)
    → ((number : ℕ) (x : Write) → IsNumber held number x → (part : ℕ) → P (packet p s line (Update number x) part)) → (number : ℕ) (xs : List Write)
    → ((k : ℕ) (x : Write) → slice_get xs k ≡ Some x → IsNumber held (number + k) x) → AllByRecursion P (updates p s line number xs)
updates_good P p s line held each number [] h = tt
updates_good P p s line held each number (x ∷ xs) h =
    each_append P (packets_of p s line (Update number x)) (updates p s line (number + 1) xs)
    (each_packet P p s line (Update number x) (each number x (subst (λ n. IsNumber held n x) (omega arith) (h zero x refl))))
    (updates_good P p s line held each (number + 1) xs (λ k y e. subst (λ n. IsNumber held n y) (omega arith) (h (suc k) y e)))

-- what is sent stands on the line, if no more is sent than is durable
pub sent_good : (P : Packet → Type 0) (p s : ℕ) (n : Node) (held : List Write) → IsPrefixOf (take n.safe n.log) held
    → ((number : ℕ) (x : Write) → IsNumber held number x → (part : ℕ) → P (packet p s n.line (Update number x) part)) → (from to : ℕ) → 0 < from
    → to ≤ n.safe → AllByRecursion P (updates p s n.line from (between from to n.log))
sent_good P p s n held durable each from to some most =
    updates_good P p s n.line held each from (between from to n.log)
    (λ k x e. (
      omega (arith, some),
      ap (λ j. slice_get held j) (let i : pred (from + k) ≡ pred from + k = omega (arith, some) in i)
          ∙ prefix_get (take to n.log) held (pred from + k) x front (sym (drop_get (pred from) (take to n.log) k) ∙ e),
    ))
  where
    front : IsPrefixOf (take to n.log) held
    front = prefix_trans (take to n.log) (take n.safe n.log) held
        (subst (λ t. IsPrefixOf t (take n.safe n.log)) (take-take to n.safe n.log most) (prefix_take to (take n.safe n.log))) durable

tangle : (a b f v g t : Bool) → a ≡ true → b ≡ true → f ≡ true → v ≡ true → (a && (b && (f && (t && not g)))) ≡ false
    → (a && (b && (v && (g && t)))) ≡ false → t ≡ false
tangle true true true true true t e1 e2 e3 e4 u h = h
tangle true true true true false true e1 e2 e3 e4 u h = absurd (cc)
tangle true true true true false false e1 e2 e3 e4 u h = refl
tangle true true true false g t e1 e2 e3 e4 u h = absurd (cc)
tangle true true false v g t e1 e2 e3 e4 u h = absurd (cc)
tangle true false f v g t e1 e2 e3 e4 u h = absurd (cc)
tangle false b f v g t e1 e2 e3 e4 u h = absurd (cc)

waits_if_fails : (m : SyncMode) → is_fail m ≡ true → waits m ≡ true
waits_if_fails Off e = absurd (cc)
waits_if_fails Override e = absurd (cc)
waits_if_fails Fail e = refl

-- what a link that neither fails to confirm n nor has still to says of n
confirmed : (l : Link) (s n : ℕ) → is_linked l ≡ true → l.attached ≡ true → is_fail l.sync ≡ true → is_unconfirmed n s l ≡ false → holds_back n s l ≡ false
    → n ≤ l.net
confirmed l s n made attached fail u h = reaches l.net n
    (tangle (is_linked l) l.attached (is_fail l.sync) (waits l.sync) (goes s l) (ltb l.net n) made attached fail (waits_if_fails l.sync fail) u h)
  where
    reaches : (m n : ℕ) → ltb m n ≡ false → n ≤ m
    reaches m n e = grind (arith, nat_tests)

-- a site of a link's other end that stands on an origin's line receives
pub receives : (nodes : ℕ → Node) (lines : Line → History) (h : History) (p s : ℕ) (l : Link)
    → ((i : ℕ) → GoodNode (lines (nodes i).line) i (nodes i)) → GoodLink h p s (nodes p) (nodes s) l → is_linked l ≡ true → is_origin (nodes p).role ≡ true → (nodes s).line ≡ (nodes p).line
    → is_origin (nodes s).role ≡ false
receives nodes lines h p s l good link is o e =
    false_from_ne_true (is_origin (nodes s).role)
    (λ q. link.apart is (sym ((good p).own_line (link.ends is).0 o) ∙ ap (λ (x : Line). x.origin) (sym e) ∙ (good s).own_line (link.ends is).1 q))

module _ (nodes : ℕ → Node) (links : ℕ → ℕ → Link) (lines : Line → History) (good : (i : ℕ) → GoodNode (lines (nodes i).line) i (nodes i)) (p : ℕ) (n : ℕ)
    (o : is_origin (nodes p).role ≡ true)
    (known : (s : ℕ) → is_linked (links p s) ≡ true → (IsStranger nodes links (nodes p).line s → ⊥) × CameTo nodes (nodes p).line s) where
  abbrev here : History
  here = lines (nodes p).line

  promise_good : (s : ℕ) → GoodLink here p s (nodes p) (nodes s) (links p s) → is_unconfirmed n s (links p s) ≡ false → holds_back n s (links p s) ≡ false
      → AllByRecursion (GoodPromise nodes links) (promise_of (nodes p) n s (links p s))
  promise_good s link u h =
      let l : Link = links p s in
      by_test (AllByRecursion (GoodPromise nodes links)) (is_linked l && (l.attached && is_fail l.sync))
      (record { line = (nodes p).line; number = n; site = s; surety = if leb n l.stored then Durable else InSession l.session } ∷ []) []
      (λ c.
      let made : is_linked l ≡ true = and_left (is_linked l) (l.attached && is_fail l.sync) c in
      let rest : (l.attached && is_fail l.sync) ≡ true = and_right (is_linked l) (l.attached && is_fail l.sync) c in
      let net : n ≤ l.net = confirmed l s n made (and_left l.attached (is_fail l.sync) rest) (and_right l.attached (is_fail l.sync) rest) u h in
      let followed : (nodes s).line ≡ (nodes p).line → IsFollowed (nodes p) (nodes s) l = λ e. (made, receives nodes lines here p s l good link made o e, e) in (
        record {
          kept = by_test (IsKept (nodes s) (nodes p).line n) (leb n l.stored) Durable (InSession l.session)
              (λ t e. omega (arith, (link.stored (followed e)).0, leb-true n l.stored t))
              (λ _. (link.session made, λ e q. omega (arith, net, link.net (followed e) q)));
          known = (known s made).0;
          came = (known s made).1;
        },
        tt,
      ))
      (λ _. tt)

  pub promises_good : ((s : ℕ) → GoodLink here p s (nodes p) (nodes s) (links p s)) → (k : ℕ) → some_below k (λ s. is_unconfirmed n s (links p s)) ≡ false
      → some_below k (λ s. holds_back n s (links p s)) ≡ false → AllByRecursion (GoodPromise nodes links) (promises_of (nodes p) n (links p) k)
  promises_good link zero u h = tt
  promises_good link (suc k) u h =
      each_append (GoodPromise nodes links) (promise_of (nodes p) n k (links p k)) (promises_of (nodes p) n (links p) k)
      (promise_good k (link k) (or_left (is_unconfirmed n k (links p k)) (some_below k (λ s. is_unconfirmed n s (links p s))) u)
      (or_left (holds_back n k (links p k)) (some_below k (λ s. holds_back n s (links p s))) h))
      (promises_good link k (or_right (is_unconfirmed n k (links p k)) (some_below k (λ s. is_unconfirmed n s (links p s))) u)
      (or_right (holds_back n k (links p k)) (some_below k (λ s. holds_back n s (links p s))) h))
