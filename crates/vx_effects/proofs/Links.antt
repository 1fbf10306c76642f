-- What each change of a link keeps of it.
use Rattle.std.proofs.Common.{◌≡◌, ◌∙◌, ℕ, List, drop, take, Bool, true, false, refl, ap, sym, subst}
use Rattle.std.specs.Prelude.{ltb, eqb, max, min, ◌&&◌, ◌+◌, if◌then◌else◌}
use Rattle.vx_history.proofs.Places.{places_same}
use Rattle.vx_history.proofs.Updates.{by_test}
use Rattle.vx_history.specs.Admission.{blocks, change, change_by, changed_mode, full_log, full_log_of, hold, is_live_link}
use Rattle.vx_history.specs.ChangeMaps.{map_after, map_changed}
use Rattle.vx_history.specs.Events.{receiver_facts, link_after, link_left, link_marked, lost_touch, restarted_link, used_above}
use Rattle.vx_history.specs.LinkForms.{plain_link, with_plain}
use Rattle.vx_history.specs.Sending.{Sent, by_log, disk_acknowledged, greeted, greeted_anew, greeted_apart, greeted_by_log, if_on_line, memory_acknowledged, mode_overtaken, mode_restarted, pumped, pumped_up_to, sent_step, with_ignored, with_nothing, with_taken}
use Rattle.vx_history.specs.Sends.{is_linked, is_made}
use Rattle.vx_history.specs.World.{Link, Node, Regions, no_link, no_regions}
use Rattle.vx_history.specs.declared.admission.Change.{Change}
use Rattle.vx_history.specs.declared.admission.Change.TheVariants.{Stays}
use Rattle.vx_history.specs.declared.sender.Action.TheVariants.{Updates}
use Rattle.vx_history.specs.declared.sender.SEvent.{SEvent}
use Rattle.vx_history.specs.declared.sender.SEvent.TheVariants.{Pump, Tick, Hello, NetAck, DataAck, Connect, Cut, Pause, Resume, Restart}
use Rattle.vx_history.specs.declared.sender.SFacts.{SFacts}
use Rattle.vx_model.specs.Content.{Write}
use Rattle.vx_model.specs.declared.limits.TheConstants.{MOST_AHEAD}
use Rattle.vx_model.specs.declared.link.Link.{Link as PlainLink}
use Rattle.vx_model.specs.declared.link.Mode.{Mode}
use Rattle.vx_model.specs.declared.link.Mode.TheVariants.{Log, Dcm, Replay, Fork, Stale}
use Rattle.vx_model.specs.declared.link.Prot.{Prot}
use Rattle.vx_model.specs.declared.link.Prot.TheVariants.{Fail}
use Rattle.vx_model.proofs.Tests.{by_bool}
use Rattle.vx_events.specs.LinksFit.{IsPlain, RowFits, is_plain_mode}

-- a changed link has the place of the old one, is plain where that was, and is none where that was none
pub record KeepsLink (a b : Link) : Type 0 where
  pub made : b.made ≡ a.made
  pub plain : IsPlain a → IsPlain b
  pub none : a ≡ no_link → b ≡ no_link

pub keeps_same : (l : Link) → KeepsLink l l
keeps_same l = record { made = refl; plain = λ p. p; none = λ e. e }

pub keeps_equal : (a b : Link) → b ≡ a → KeepsLink a b
keeps_equal a b e = subst (λ (l : Link). KeepsLink a l) (sym e) (keeps_same a)

pub keeps_then : (a b c : Link) → KeepsLink a b → KeepsLink b c → KeepsLink a c
keeps_then a b c one two = record { made = two.made ∙ one.made; plain = λ p. two.plain (one.plain p); none = λ e. two.none (one.none e) }

never : true ≡ false → ⊥
never e = cc

-- where there is a link, nothing is asked of none
pub none_of : (a b : Link) → is_linked a ≡ true → a ≡ no_link → b ≡ no_link
none_of a b linked e = absurd (never (sym linked ∙ ap is_linked e))

-- ---- what the rule of links keeps

-- it goes by the log or by nothing, and trims nothing
record PlainSent (r : Sent) : Type 0 where
  mode : is_plain_mode r.link.mode ≡ true
  trimmed : r.link.trimmed ≡ 0

overtaken_plain : (m : Mode) (number : ℕ) → is_plain_mode m ≡ true → is_plain_mode (mode_overtaken m number) ≡ true
overtaken_plain Log number e = refl
overtaken_plain Dcm number e = absurd (cc)
overtaken_plain (Replay id phase left start end) number e = absurd (cc)
overtaken_plain (Fork maps) number e = absurd (cc)
overtaken_plain Stale number e = refl

pub restarted_plain : (m : Mode) → is_plain_mode m ≡ true → is_plain_mode (mode_restarted m) ≡ true
restarted_plain Log e = refl
restarted_plain Dcm e = absurd (cc)
restarted_plain (Replay id phase left start end) e = absurd (cc)
restarted_plain (Fork maps) e = absurd (cc)
restarted_plain Stale e = refl

pub mode_same : (m : Mode) → is_plain_mode m ≡ true → mode_restarted m ≡ m
mode_same Log e = refl
mode_same Dcm e = absurd (cc)
mode_same (Replay id phase left start end) e = absurd (cc)
mode_same (Fork maps) e = absurd (cc)
mode_same Stale e = refl

module _ (l : PlainLink) (mode : is_plain_mode l.mode ≡ true) (trimmed : l.trimmed ≡ 0) where
  same_sent : PlainSent (with_ignored l)
  same_sent = record { mode = mode; trimmed = trimmed }

  pumped_plain : (safe : ℕ) → PlainSent (pumped l safe)
  pumped_plain safe =
      by_test PlainSent (is_live_link l && by_log l.mode) (pumped_up_to l (max l.sent l.stored) (min safe (l.net + MOST_AHEAD))) (with_nothing l)
      (λ _. by_test PlainSent (ltb (max l.sent l.stored) (min safe (l.net + MOST_AHEAD)))
      (record { link = record l { sent = min safe (l.net + MOST_AHEAD) }; action = Updates (max l.sent l.stored + 1) (min safe (l.net + MOST_AHEAD)) })
      (with_nothing (record l { sent = max l.sent l.stored }))
      (λ _. record { mode = mode; trimmed = trimmed }) (λ _. record { mode = mode; trimmed = trimmed }))
      (λ _. record { mode = mode; trimmed = trimmed })

  greeted_plain : (session number stored : ℕ) → PlainSent (greeted l session number stored)
  greeted_plain session number stored =
      by_test PlainSent (ltb session l.session) (with_ignored l)
      (with_taken (if by_log l.mode then greeted_by_log l session number stored else greeted_apart l session number))
      (λ _. same_sent)
      (λ _. by_test (λ (k : PlainLink). PlainSent (with_taken k)) (by_log l.mode) (greeted_by_log l session number stored) (greeted_apart l session number)
      (λ _. by_test (λ (k : PlainLink). PlainSent (with_taken k)) (ltb l.session session) (greeted_anew l session number (max l.stored stored))
      (record l { net = max l.net number; stored = max l.stored stored })
      (λ _. record { mode = mode; trimmed = trimmed }) (λ _. record { mode = mode; trimmed = trimmed }))
      (λ _. by_test (λ (k : PlainLink). PlainSent (with_taken k)) (ltb l.session session)
      (record l { session = session; net = l.stored; mode = mode_overtaken l.mode number }) (record l { mode = mode_overtaken l.mode number })
      (λ _. record { mode = overtaken_plain l.mode number mode; trimmed = trimmed }) (λ _. record { mode = overtaken_plain l.mode number mode; trimmed = trimmed })))

  memory_plain : (session number : ℕ) → PlainSent (memory_acknowledged l session number)
  memory_plain session number =
      by_test PlainSent (by_log l.mode && (eqb session l.session && ltb l.net number)) (with_taken (record l { net = number })) (with_ignored l)
      (λ _. record { mode = mode; trimmed = trimmed }) (λ _. same_sent)

  disk_plain : (number : ℕ) → PlainSent (disk_acknowledged l number)
  disk_plain number =
      by_test PlainSent (by_log l.mode && ltb l.stored number) (with_taken (record l { stored = number; net = max l.net number })) (with_ignored l)
      (λ _. record { mode = mode; trimmed = trimmed }) (λ _. same_sent)

  on_line_plain : (facts : SFacts) (heard : Sent) → PlainSent heard → PlainSent (if_on_line facts l heard)
  on_line_plain facts heard h = by_test PlainSent facts.line_ok heard (with_ignored l) (λ _. h) (λ _. same_sent)

  sent_plain : (e : SEvent) (facts : SFacts) → PlainSent (sent_step l e facts)
  sent_plain Pump facts = pumped_plain facts.safe
  sent_plain Tick facts = record { mode = mode; trimmed = refl }
  sent_plain (Hello session number stored) facts = on_line_plain facts (greeted l session number stored) (greeted_plain session number stored)
  sent_plain (NetAck session number) facts = on_line_plain facts (memory_acknowledged l session number) (memory_plain session number)
  sent_plain (DataAck number) facts = on_line_plain facts (disk_acknowledged l number) (disk_plain number)
  sent_plain Connect facts = record { mode = mode; trimmed = trimmed }
  sent_plain Cut facts = record { mode = mode; trimmed = trimmed }
  sent_plain Pause facts = record { mode = mode; trimmed = trimmed }
  sent_plain Resume facts = record { mode = mode; trimmed = trimmed }
  sent_plain Restart facts = record { mode = restarted_plain l.mode mode; trimmed = refl }

-- what the rule makes of a link, whatever was sent since the last tick
pub stepped_plain : (s : ℕ) (l : Link) (e : SEvent) (facts : SFacts) (since : Regions) → IsPlain l
    → IsPlain (record (with_plain l (sent_step (plain_link s l) e facts).link) { since = since })
stepped_plain s l e facts since p =
    let r = sent_plain (plain_link s l) p.mode p.trimmed e facts in
    record { prot = p.prot; mode = r.mode; bunker = p.bunker; trimmed = r.trimmed; map = p.map }

pub keeps_stepped : (s : ℕ) (l : Link) (e : SEvent) (facts : SFacts) → is_linked l ≡ true → KeepsLink l (with_plain l (sent_step (plain_link s l) e facts).link)
keeps_stepped s l e facts linked = record {
  made = refl;
  plain = λ p. stepped_plain s l e facts l.since p;
  none = none_of l (with_plain l (sent_step (plain_link s l) e facts).link) linked;
}

pub keeps_ticked : (s : ℕ) (l : Link) (facts : SFacts) → is_linked l ≡ true
    → KeepsLink l (record (with_plain l (sent_step (plain_link s l) Tick facts).link) { since = no_regions })
keeps_ticked s l facts linked = record {
  made = refl;
  plain = λ p. stepped_plain s l Tick facts no_regions p;
  none = none_of l (record (with_plain l (sent_step (plain_link s l) Tick facts).link) { since = no_regions }) linked;
}

-- ---- changes of all links of a site

pub keeps_touch : (l : Link) → KeepsLink l (lost_touch l)
keeps_touch l = record {
  made = refl;
  plain = λ p. record { prot = p.prot; mode = p.mode; bunker = p.bunker; trimmed = p.trimmed; map = p.map };
  none = λ e. ap (λ (k : Link). lost_touch k) e;
}

pub keeps_restarted : (n : Node) (s : ℕ) (l : Link) → KeepsLink l (restarted_link n s l)
keeps_restarted n s l = record {
  made = refl;
  plain = λ p. stepped_plain s l Restart (receiver_facts n n.line) l.since p;
  none = λ e. ap (λ (k : Link). restarted_link n s k) e;
}

-- a link that fails writes of a full log is not changed as one is let in
by_prot : (p : Prot) (live bunker : Bool) → p ≡ Fail → change_by (full_log p live) bunker ≡ Stays
by_prot p true bunker e = ap (λ (q : Prot). change_by (full_log q true) bunker) e
by_prot p false bunker e = ap (λ (q : Prot). change_by (full_log q false) bunker) e

pub change_stays : (need room : ℕ) (l : PlainLink) (used : ℕ) → l.prot ≡ Fail → change need room l used ≡ Stays
change_stays need room l used prot =
    by_test (λ (c : Change). c ≡ Stays) (blocks need room l used) (change_by (full_log_of l) l.bunker) Stays
    (λ _. by_prot l.prot (is_live_link l) l.bunker prot) (λ _. refl)

with_change : Node → ℕ → Link → Change → Link
with_change n s l c = record l { mode = changed_mode c l.mode; map = map_changed c l.mode l.map n.log (hold (plain_link s l)) }

pub plain_after : (n : Node) (x : Write) (s : ℕ) (l : Link) → IsPlain l → link_after n x s l ≡ l
unfolding with_change
plain_after n x s l p = ap (with_change n s l) (change_stays _ _ (plain_link s l) (used_above n s l) p.prot)

pub none_after : (n : Node) (x : Write) (s : ℕ) (l : Link) → l ≡ no_link → link_after n x s l ≡ l
none_after n x s l e = ap (λ (k : Link). link_after n x s k) e ∙ sym e

-- a link that goes by the log or by nothing keeps no map
map_plain : (m : Mode) (map : Regions) (xs : List Write) → is_plain_mode m ≡ true → map_after m map xs ≡ map
map_plain Log map xs e = refl
map_plain Dcm map xs e = absurd (cc)
map_plain (Replay id phase left start end) map xs e = absurd (cc)
map_plain (Fork maps) map xs e = absurd (cc)
map_plain Stale map xs e = refl

pub plain_marked : (xs : List Write) (l : Link) → IsPlain l → link_marked xs l ≡ l
plain_marked xs l p = ap (λ (map : Regions). let m : Link = record l { map = map } in m) (map_plain l.mode l.map xs p.mode)

pub none_marked : (xs : List Write) (l : Link) → l ≡ no_link → link_marked xs l ≡ l
none_marked xs l e = ap (λ (k : Link). link_marked xs k) e ∙ sym e

pub keeps_marked : (xs : List Write) (l : Link) → KeepsLink l (link_marked xs l)
keeps_marked xs l = record {
  made = refl;
  plain = λ p. subst IsPlain (sym (plain_marked xs l p)) p;
  none = λ e. none_marked xs l e ∙ e;
}

pub keeps_left : (n : Node) (k : ℕ) (l : Link) → KeepsLink l (link_left n k l)
keeps_left n k l =
    let xs : List Write = drop n.safe (take k n.log) in
    keeps_then l (link_marked xs l) (link_left n k l) (keeps_marked xs l) (keeps_touch (link_marked xs l))

-- ---- rows

pub row_moves : (p sites : ℕ) (row new : ℕ → Link) → ((k : ℕ) → KeepsLink (row k) (new k)) → RowFits p sites row → RowFits p sites new
row_moves p sites row new keeps fits = record {
  places = places_same sites row new (λ k. (keeps k).made) fits.places;
  apart = λ k linked. fits.apart k (ap is_made (sym (keeps k).made) ∙ linked);
  plain = λ k linked. (keeps k).plain (fits.plain k (ap is_made (sym (keeps k).made) ∙ linked));
  none = λ k unlinked. (keeps k).none (fits.none k (ap is_made (sym (keeps k).made) ∙ unlinked));
}

-- no link of a row that fits keeps a map
pub row_marked : (xs : List Write) (p sites : ℕ) (row : ℕ → Link) → RowFits p sites row → (k : ℕ) → link_marked xs (row k) ≡ row k
row_marked xs p sites row fits k =
    by_bool (is_linked (row k)) (λ is. plain_marked xs (row k) (fits.plain k is)) (λ is. none_marked xs (row k) (fits.none k is))

pub row_left : (n : Node) (j p sites : ℕ) (row : ℕ → Link) → RowFits p sites row → (k : ℕ) → link_left n j (row k) ≡ lost_touch (row k)
row_left n j p sites row fits k = ap (λ (l : Link). lost_touch l) (row_marked (drop n.safe (take j n.log)) p sites row fits k)

-- a write that is let in changes no link of a row that fits
pub row_after : (n : Node) (x : Write) (p sites : ℕ) (row : ℕ → Link) → RowFits p sites row → (k : ℕ) → link_after n x k (row k) ≡ row k
row_after n x p sites row fits k =
    by_bool (is_linked (row k)) (λ is. plain_after n x k (row k) (fits.plain k is)) (λ is. none_after n x k (row k) (fits.none k is))
