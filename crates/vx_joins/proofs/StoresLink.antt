-- What a greeting or an acknowledgement makes of the links that the header of a log keeps.
use Rattle.std.proofs.Common.{◌≡◌, ◌∙◌, inr, ◌+◌, ◌<◌, ◌≤◌, ◌&&◌, ℕ, zero, suc, Bool, true, false, List, [], ◌∷◌, ap, sym, subst, refl, arith}
use Rattle.std.specs.Prelude.{Option, Some, None, Result, Ok, Err, eqb, ltb, map, max, slice_get, if◌then◌else◌}
use Rattle.std.proofs.lemmas.Bool.Decides.{nat_tests}
use Rattle.vx_events.specs.GroupLines.{is_over_group}
use Rattle.vx_events.specs.LinksFit.{is_plain_mode}
use Rattle.vx_model.specs.declared.errors.Stop.{Stop}
use Rattle.vx_model.specs.declared.errors.Stop.TheVariants.{No as Refused, OutOfMemory}
use Rattle.vx_model.specs.declared.history.Line.{Line}
use Rattle.vx_model.specs.declared.link.Link.{Link as PlainLink}
use Rattle.vx_model.specs.declared.link.Mode.{Mode}
use Rattle.vx_model.specs.declared.link.Mode.TheVariants.{Log, Dcm, Replay, Fork, Stale}
use Rattle.vx_model.specs.declared.no.No.{No}
use Rattle.vx_model.specs.declared.site.SiteState.TheVariants.{Up as IsUp}
use Rattle.vx_model.specs.declared.state.KeptLink.{KeptLink}
use Rattle.vx_model.specs.declared.state.KeptMode.{KeptMode}
use Rattle.vx_model.specs.declared.state.KeptMode.TheVariants as kept
use Rattle.vx_model.specs.declared.state.State.{State}
use Rattle.vx_history.specs.Events.{receiver_facts, gathered_if, is_taken, link_in_place, linked_sites, packet_at, put_before, said_of_link}
use Rattle.vx_history.specs.KeptLinks.{kept_link, kept_links, kept_mode, kept_start}
use Rattle.vx_history.specs.LinkForms.{plain_link, with_plain}
use Rattle.vx_history.specs.Refusals.{Outcome}
use Rattle.vx_history.specs.Sending.{Sent, by_log, disk_acknowledged, greeted, greeted_anew, greeted_apart, greeted_by_log, memory_acknowledged, mode_overtaken, sent_step, with_ignored, with_taken}
use Rattle.vx_history.specs.Sends.{with_link}
use Rattle.vx_history.specs.World.{DataAck, Hello, Link, Message, NetAck, Node, Packet, Update, World, updated}
use Rattle.vx_history.specs.declared.event.Said.{Said}
use Rattle.vx_history.specs.declared.sender.SFacts.{SFacts}
use Rattle.vx_history.specs.Doubts.{Doubted}
use Rattle.vx_history.specs.Steps.{worked}
use Rattle.vx_history.proofs.Places.{in_place_same}
use Rattle.vx_history.proofs.Updates.{all_updated, and_right, at_place, by_test, eqb_equal}
use Rattle.vx_courier.specs.UnderWay.{FlightStands}
use Rattle.vx_net.specs.Flights.{Flying}
use Rattle.vx_disk.specs.Causes.{OnDisks}
use Rattle.vx_disk.specs.Disks.{Disks}
use Rattle.vx_disk.proofs.Spending.{loses_none}
use Rattle.vx_events.specs.declared.said.Said.TheVariants.{Done}
use Rattle.vx_diskset.specs.Asked.{LeavesFuse, disks_told, size_in}
use Rattle.vx_diskset.specs.Burning.{Burnt, NoMore}
use Rattle.vx_disk.specs.declared.shelf.Shelf.{Ghosts}
use Rattle.vx_packet.specs.Assemblies.{Assembled}
use Rattle.vx_peers.specs.Answers.{AnsweredAt, Listens, PartAnsweredAt, is_answer}
use Rattle.vx_peers.proofs.Hears.{event_for, outcome_is}
use Rattle.vx_diskset.specs.Holds.{KeptBeside, beside_of, header_links, row_links, state_with, sure_of}
use Rattle.vx_diskset.specs.Keeps.{CanKeep, KeptAt, kept_anew, restated}
use Rattle.vx_diskset.specs.Needs.{hold_of, is_needing, kept_mode_hold}
use Rattle.vx_diskset.specs.Stands.{SiteStands}
use Rattle.vx_diskset.specs.declared.disk_set.DiskSet.{DiskSet}
use Rattle.vx_joins.specs.Hearings.{HeardAt, PartHeardAt, StoredIs, StoresAt, world_behind, links_stored, stored_at}

-- ---- the rule keeps the mode of a link that goes by the log or by nothing, and what is stored does not fall

abbrev KeepsMode : PlainLink → Sent → Type 0
KeepsMode l s = (s.link.mode ≡ l.mode) × (l.stored ≤ s.link.stored)

still : (l : PlainLink) → KeepsMode l (with_ignored l)
still l = (refl, omega arith)

overtaken : (m : Mode) (number : ℕ) → is_plain_mode m ≡ true → mode_overtaken m number ≡ m
overtaken Log number plain = refl
overtaken Dcm number plain = absurd (cc)
overtaken (Replay id phase left start end) number plain = absurd (cc)
overtaken (Fork maps) number plain = absurd (cc)
overtaken Stale number plain = refl

most : (a b : ℕ) → a ≤ max a b
most a b = omega arith

anew_keeps : (l : PlainLink) (session number stored : ℕ) → KeepsMode l (with_taken (greeted_by_log l session number stored))
anew_keeps l session number stored =
    by_test (λ k. KeepsMode l (with_taken k)) (ltb l.session session) (greeted_anew l session number (max l.stored stored)) (record l { net = max l.net number; stored = max l.stored stored })
    (λ e. (refl, most l.stored stored)) (λ e. (refl, most l.stored stored))

apart_keeps : (l : PlainLink) (session number : ℕ) → is_plain_mode l.mode ≡ true → KeepsMode l (with_taken (greeted_apart l session number))
apart_keeps l session number plain =
    by_test (λ k. KeepsMode l (with_taken k)) (ltb l.session session) (record l { session = session; net = l.stored; mode = mode_overtaken l.mode number }) (record l { mode = mode_overtaken l.mode number })
    (λ e. (overtaken l.mode number plain, omega arith)) (λ e. (overtaken l.mode number plain, omega arith))

greeted_keeps : (l : PlainLink) (session number stored : ℕ) → is_plain_mode l.mode ≡ true → KeepsMode l (greeted l session number stored)
greeted_keeps l session number stored plain =
    by_test (KeepsMode l) (ltb session l.session) (with_ignored l) (with_taken (if by_log l.mode then greeted_by_log l session number stored else greeted_apart l session number)) (λ e. still l)
    (λ e. by_test (λ k. KeepsMode l (with_taken k)) (by_log l.mode) (greeted_by_log l session number stored) (greeted_apart l session number)
    (λ f. anew_keeps l session number stored) (λ f. apart_keeps l session number plain))

memory_keeps : (l : PlainLink) (session number : ℕ) → KeepsMode l (memory_acknowledged l session number)
memory_keeps l session number =
    by_test (KeepsMode l) (by_log l.mode && (eqb session l.session && ltb l.net number)) (with_taken (record l { net = number })) (with_ignored l) (λ e. (refl, omega arith)) (λ e. still l)

disk_keeps : (l : PlainLink) (number : ℕ) → KeepsMode l (disk_acknowledged l number)
disk_keeps l number =
    by_test (KeepsMode l) (by_log l.mode && ltb l.stored number) (with_taken (record l { stored = number; net = max l.net number })) (with_ignored l)
    (λ e. (refl, less l.stored number (and_right (by_log l.mode) (ltb l.stored number) e))) (λ e. still l)
  where
    less : (a b : ℕ) → ltb a b ≡ true → a ≤ b
    less a b e = grind (arith, nat_tests)

answer_keeps : (l : PlainLink) (m : Message) (facts : SFacts) → is_answer m ≡ true → is_plain_mode l.mode ≡ true → KeepsMode l (sent_step l (event_for m) facts)
answer_keeps l (Hello session number stored) facts is plain = by_test (KeepsMode l) facts.line_ok (greeted l session number stored) (with_ignored l) (λ e. greeted_keeps l session number stored plain) (λ e. still l)
answer_keeps l (Update number x) facts is plain = absurd (cc)
answer_keeps l (NetAck session number) facts is plain = by_test (KeepsMode l) facts.line_ok (memory_acknowledged l session number) (with_ignored l) (λ e. memory_keeps l session number) (λ e. still l)
answer_keeps l (DataAck number) facts is plain = by_test (KeepsMode l) facts.line_ok (disk_acknowledged l number) (with_ignored l) (λ e. disk_keeps l number) (λ e. still l)

-- ---- the links of a row, of which one has more stored

kept_is : (q : ℕ) (l : Link) (k : PlainLink) → k.mode ≡ l.mode → kept_link q (with_plain l k) ≡ record (kept_link q l) { stored = k.stored }
kept_is q l k same = ap (λ (m : Mode). let x : KeptLink = record (kept_link q l) { mode = kept_mode m; start = kept_start m; stored = k.stored } in x) same

sites_same : (row new : ℕ → Link) → ((k : ℕ) → (new k).made ≡ (row k).made) → (sites place k : ℕ) → linked_sites new sites place k ≡ linked_sites row sites place k
sites_same row new made sites place zero = refl
sites_same row new made sites place (suc k) =
    ap (λ (o : Option ℕ). put_before o (linked_sites new sites (place + 1) k)) (in_place_same row new made place sites)
    ∙ ap (λ (ss : List ℕ). put_before (link_in_place row place sites) ss) (sites_same row new made sites (place + 1) k)

module _ (row : ℕ → Link) (q number : ℕ) (l : Link) (is : kept_link q l ≡ record (kept_link q (row q)) { stored = number }) where
  one : (s : ℕ) (b : Bool) → eqb s q ≡ b → kept_link s (if b then l else row s) ≡ (if b then record (kept_link s (row s)) { stored = number } else kept_link s (row s))
  one s true same = subst (λ (k : ℕ). kept_link k l ≡ record (kept_link k (row k)) { stored = number }) (sym (eqb_equal s q same)) is
  one s false same = refl

  rows : (ss : List ℕ) → kept_links (updated row q l) ss ≡ links_stored q number (kept_links row ss)
  rows [] = refl
  rows (s ∷ ss) =
      ap (λ (x : KeptLink). x ∷ kept_links (updated row q l) ss) (one s (eqb s q) refl)
      ∙ ap (λ (xs : List KeptLink). stored_at q number (kept_link s (row s)) ∷ xs) (rows ss)

-- and with the number that it has it is the same
unchanged : (row : ℕ → Link) (q number : ℕ) → number ≡ (row q).stored → (ss : List ℕ) → links_stored q number (kept_links row ss) ≡ kept_links row ss
unchanged row q number is [] = refl
unchanged row q number is (s ∷ ss) =
    ap (λ (x : KeptLink). x ∷ links_stored q number (kept_links row ss)) (own (eqb s q) refl)
    ∙ ap (λ (xs : List KeptLink). kept_link s (row s) ∷ xs) (unchanged row q number is ss)
  where
    own : (b : Bool) → eqb s q ≡ b → (if b then record (kept_link s (row s)) { stored = number } else kept_link s (row s)) ≡ kept_link s (row s)
    own true same = ap (λ (k : ℕ). let x : KeptLink = record (kept_link s (row s)) { stored = k } in x) (is ∙ ap (λ (j : ℕ). (row j).stored) (sym (eqb_equal s q same)))
    own false same = refl

-- ---- behind the delivery

module _ (w : World) (number : ℕ) (p : Packet) (at : packet_at w.packets number ≡ Some p) (answers : is_answer p.message ≡ true) (f : Flying) (flight : FlightStands w.packets f)
    (safe : ℕ) (line : Line) (listens : Listens (w.nodes p.target) (w.links p.target p.source) safe line) (plain : is_plain_mode (w.links p.target p.source).mode ≡ true) where
  abbrev l : Link
  l = w.links p.target p.source

  -- what the rule of the link says of the message
  abbrev rule : Sent
  rule = sent_step (plain_link p.source l) (event_for p.message) (receiver_facts (w.nodes p.target) p.line)

  abbrev heard : PlainLink
  heard = rule.link

  abbrev moved : World
  moved = with_link w p.target p.source (with_plain l heard)

  gathered_same : (took : Bool) (v : World) → ((gathered_if took v p).links ≡ v.links) × ((gathered_if took v p).sites ≡ v.sites)
  gathered_same true v = (refl, refl)
  gathered_same false v = (refl, refl)

  row_is : (world_behind w number).links p.target ≡ updated (w.links p.target) p.source (with_plain l heard)
  row_is =
      ap (λ (o : Outcome). o.world.links p.target) (outcome_is w number p at answers f flight safe line listens)
      ∙ ap (λ (g : ℕ → ℕ → Link). g p.target) (gathered_same (is_taken (said_of_link rule.action)) moved).0
      ∙ at_place w.links p.target (updated (w.links p.target) p.source (with_plain l heard))

  sites_is : (world_behind w number).sites ≡ w.sites
  sites_is =
      ap (λ (o : Outcome). o.world.sites) (outcome_is w number p at answers f flight safe line listens)
      ∙ (gathered_same (is_taken (said_of_link rule.action)) moved).1

  keeps : KeepsMode (plain_link p.source l) rule
  keeps = answer_keeps (plain_link p.source l) p.message (receiver_facts (w.nodes p.target) p.line) answers plain

  pub stored_is : ((world_behind w number).links p.target p.source).stored ≡ heard.stored
  stored_is = ap (λ (row : ℕ → Link). (row p.source).stored) row_is ∙ ap (λ (x : Link). x.stored) (at_place (w.links p.target) p.source (with_plain l heard))

  pub rises : l.stored ≤ ((world_behind w number).links p.target p.source).stored
  rises = omega (arith, keeps.1, stored_is)

  made_same : (k : ℕ) → (updated (w.links p.target) p.source (with_plain l heard) k).made ≡ (w.links p.target k).made
  made_same = all_updated (λ k (x : Link). x.made ≡ (w.links p.target k).made) (w.links p.target) p.source (with_plain l heard) refl (λ k apart. refl)

  pub links_are : header_links (world_behind w number) p.target ≡ links_stored p.source ((world_behind w number).links p.target p.source).stored (header_links w p.target)
  links_are =
      let row = w.links p.target in
      let new : ℕ → Link = updated row p.source (with_plain l heard) in
      ap (λ (n : ℕ). row_links ((world_behind w number).links p.target) n) sites_is
      ∙ ap (λ (x : ℕ → Link). row_links x w.sites) row_is
      ∙ ap (kept_links new) (sites_same row new made_same w.sites 0 w.sites)
      ∙ rows row p.source heard.stored (with_plain l heard) (kept_is p.source l heard keeps.0) (linked_sites row w.sites 0 w.sites)
      ∙ ap (λ (k : ℕ). links_stored p.source k (header_links w p.target)) (sym stored_is)

  -- where no more is stored the header keeps the same
  pub links_same : ltb l.stored ((world_behind w number).links p.target p.source).stored ≡ false → header_links (world_behind w number) p.target ≡ header_links w p.target
  links_same none =
      links_are ∙ unchanged (w.links p.target) p.source ((world_behind w number).links p.target p.source).stored (no_more l.stored ((world_behind w number).links p.target p.source).stored none rises) (linked_sites (w.links p.target) w.sites 0 w.sites)
    where
      no_more : (a b : ℕ) → ltb a b ≡ false → a ≤ b → b ≡ a
      no_more a b e le = grind (arith, nat_tests)

-- ---- a header with more stored may be kept

entry : (row : ℕ → Link) (ss : List ℕ) (k : ℕ) (x : KeptLink) → slice_get (kept_links row ss) k ≡ Some x → x ≡ kept_link x.site (row x.site)
entry row [] k x there = absurd (cc)
entry row (s ∷ ss) zero x there = let e : kept_link s (row s) ≡ x = cc in subst (λ (y : KeptLink). y ≡ kept_link y.site (row y.site)) e refl
entry row (s ∷ ss) (suc k) x there = entry row ss k x there

mapped : (f : KeptLink → KeptLink) (xs : List KeptLink) (k : ℕ) (y : KeptLink) → slice_get (map f xs) k ≡ Some y → (x : KeptLink) × (slice_get xs k ≡ Some x) × (y ≡ f x)
mapped f [] k y there = absurd (cc)
mapped f (x ∷ xs) zero y there = let e : f x ≡ y = cc in (x, refl, sym e)
mapped f (x ∷ xs) (suc k) y there = mapped f xs k y there

hold_rises : (m : KeptMode) (start a b : ℕ) → a ≤ b → kept_mode_hold m start a ≤ kept_mode_hold m start b
hold_rises kept.Log start a b le = le
hold_rises kept.Dcm start a b le = le
hold_rises kept.Replay start a b le = omega (arith, le)
hold_rises kept.Fork start a b le = le
hold_rises kept.Stale start a b le = le

needing_same : (q number : ℕ) (x : KeptLink) (b : Bool) → is_needing (if b then record x { stored = number } else x) ≡ is_needing x
needing_same q number x true = refl
needing_same q number x false = refl

hold_more : (q number : ℕ) (x : KeptLink) → (x.site ≡ q → x.stored ≤ number) → (b : Bool) → eqb x.site q ≡ b → hold_of x ≤ hold_of (if b then record x { stored = number } else x)
hold_more q number x less true same = hold_rises x.mode x.start x.stored number (less (eqb_equal x.site q same))
hold_more q number x less false same = omega arith

pub can_store : (beside : KeptBeside) (n : Node) (q number : ℕ) → n.state ≡ IsUp → n.halted ≡ None → is_over_group n ≡ false → ((k : ℕ) (x : KeptLink) → slice_get beside.links k ≡ Some x → x.site ≡ q → x.stored ≤ number)
    → CanKeep beside n (state_with n (links_stored q number beside.links))
can_store beside n q number up running apart less = record {
  up = up;
  running = running;
  apart = apart;
  line = refl;
  role = refl;
  needs = λ k y there needing.
      let x = mapped (stored_at q number) beside.links k y there in
      let same : is_needing x.0 ≡ true = sym (needing_same q number x.0 (eqb x.0.site q)) ∙ ap is_needing (sym x.2) ∙ needing in
      let more : hold_of x.0 ≤ hold_of (stored_at q number x.0) = hold_more q number x.0 (less k x.0 x.1) (eqb x.0.site q) refl in
      inr (k, (x.0, (x.1, (same, subst (λ (z : KeptLink). hold_of x.0 ≤ hold_of z) (sym x.2) more))));
}

-- the links that the header of a site's log keeps have so much stored
pub stored_there : (w : World) (s q k : ℕ) (x : KeptLink) → slice_get (header_links w s) k ≡ Some x → x.site ≡ q → x.stored ≡ (w.links s q).stored
stored_there w s q k x there same =
    ap (λ (y : KeptLink). y.stored) (entry (w.links s) (linked_sites (w.links s) w.sites 0 w.sites) k x there) ∙ ap (λ (j : ℕ). (w.links s j).stored) same

-- ---- behind the call

module _ {R : Type 0} {g : Ghosts R} where
  -- no more is stored
  pub stored_same : (beside : KeptBeside) (n : Node) (to old stored : ℕ) (e new : DiskSet R g) → stored ≤ old → SiteStands beside n new → StoredIs beside n to old stored e new (Ok tt)
  stored_same beside n to old stored e new few stands =
      subst (λ (b : Bool). StoresAt beside n b (if b then links_stored to stored beside.links else beside.links) new) (sym (not_less old stored few)) stands
    where
      not_less : (a b : ℕ) → b ≤ a → ltb a b ≡ false
      not_less a b le = grind (arith, nat_tests)

  -- the header with more stored is kept, or not
  pub stored_more : (beside : KeptBeside) (n : Node) (to old stored : ℕ) (s : State) (e new : DiskSet R g) → old < stored → s ≡ state_with n (links_stored to stored beside.links) → KeptAt beside n s e new (Ok tt) → StoredIs beside n to old stored e new (Ok tt)
  stored_more beside n to old stored s e new more is kept =
      subst (λ (b : Bool). StoresAt beside n b (if b then links_stored to stored beside.links else beside.links) new) (sym (less old stored more))
      (subst (λ (t : State). SiteStands (sure_of (kept_anew beside n t)) (worked (restated n t)) new) is kept)
    where
      less : (a b : ℕ) → a < b → ltb a b ≡ true
      less a b le = grind (arith, nat_tests)

  pub stored_not : (beside : KeptBeside) (n : Node) (to old stored : ℕ) (s : State) (e new : DiskSet R g) (why : No) → s ≡ state_with n (links_stored to stored beside.links) → KeptAt beside n s e new (Err why) → StoredIs beside n to old stored e new (Err (Refused why))
  stored_not beside n to old stored s e new why is kept = subst (λ (t : State). KeptAt beside n t e new (Err why)) is kept

module _ (d : Doubted) (number : ℕ) (p : Packet) (at : packet_at d.world.packets number ≡ Some p) (answers : is_answer p.message ≡ true) (f : Flying) (flight : FlightStands d.world.packets f)
    (safe : ℕ) (line : Line) (listens : Listens (d.world.nodes p.target) (d.world.links p.target p.source) safe line) (plain : is_plain_mode (d.world.links p.target p.source).mode ≡ true) where
  abbrev s : ℕ
  s = p.target

  abbrev before : ℕ
  before = (d.world.links s p.source).stored

  abbrev now : ℕ
  now = ((world_behind d.world number).links s p.source).stored

  links_now : header_links (world_behind d.world number) s ≡ links_stored p.source now (header_links d.world s)
  links_now = links_are d.world number p at answers f flight safe line listens plain

  -- no link that leads to that site has more stored
  pub none_above : (link heard : PlainLink) → link ≡ plain_link p.source (d.world.links s p.source) → heard ≡ plain_link p.source ((world_behind d.world number).links s p.source)
      → (k : ℕ) (x : KeptLink) → slice_get (header_links d.world s) k ≡ Some x → x.site ≡ link.site → x.stored ≤ heard.stored
  none_above link heard link_is heard_is k x there same =
      let own = stored_there d.world s p.source k x there (same ∙ ap (λ (i : PlainLink). i.site) link_is) in
      let more = rises d.world number p at answers f flight safe line listens plain in
      omega (arith, own, more, ap (λ (i : PlainLink). i.stored) heard_is)

  module _ {R : Type 0} {g : Ghosts R} where
    by_rose : (b : Bool) → ltb before now ≡ b → (new : DiskSet R g) → StoresAt (beside_of d s) (d.world.nodes s) b (if b then links_stored p.source now (header_links d.world s) else header_links d.world s) new
        → StoresAt (beside_of d s) (d.world.nodes s) b (header_links (world_behind d.world number) s) new
    by_rose true rose new stands = subst (λ (ls : List KeptLink). StoresAt (beside_of d s) (d.world.nodes s) true ls new) (sym links_now) stands
    by_rose false rose new stands = subst (λ (ls : List KeptLink). StoresAt (beside_of d s) (d.world.nodes s) false ls new) (sym (links_same d.world number p at answers f flight safe line listens plain rose)) stands

    pub heard_ok : (old new : DiskSet R g) (l : PlainLink) (a : Assembled) (said : Said) → StoredIs (beside_of d s) (d.world.nodes s) p.source before now old new (Ok tt) → AnsweredAt d.world s p.source number l a f said
        → HeardAt d s p.source number old new l a f (Ok said)
    heard_ok old new l a said stored answered = (answered, by_rose (ltb before now) refl new stored)

    pub heard_not : (old new : DiskSet R g) (l : PlainLink) (a : Assembled) (stop : Stop) → StoredIs (beside_of d s) (d.world.nodes s) p.source before now old new (Err stop) → HeardAt d s p.source number old new l a f (Err stop)
    heard_not old new l a (Refused why) stored = subst (λ (ls : List KeptLink). KeptAt (beside_of d s) (d.world.nodes s) (state_with (d.world.nodes s) ls) old new (Err why)) (sym links_now) stored
    heard_not old new l a OutOfMemory stored = stored

    pub part_heard_ok : (old new : DiskSet R g) (l : PlainLink) (said : Said) → StoredIs (beside_of d s) (d.world.nodes s) p.source before now old new (Ok tt) → PartAnsweredAt d.world s p.source number l f said
        → PartHeardAt d s p.source number old new l f (Ok said)
    part_heard_ok old new l said stored answered = (answered, by_rose (ltb before now) refl new stored)

    pub part_heard_not : (old new : DiskSet R g) (l : PlainLink) (stop : Stop) → StoredIs (beside_of d s) (d.world.nodes s) p.source before now old new (Err stop) → PartHeardAt d s p.source number old new l f (Err stop)
    part_heard_not old new l (Refused why) stored = subst (λ (ls : List KeptLink). KeptAt (beside_of d s) (d.world.nodes s) (state_with (d.world.nodes s) ls) old new (Err why)) (sym links_now) stored
    part_heard_not old new l OutOfMemory stored = stored

    -- the link is that of the world
    pub stored_as : (old new : DiskSet R g) (link heard : PlainLink) (result : Result (Unit {0}) Stop) → link ≡ plain_link p.source (d.world.links s p.source) → heard ≡ plain_link p.source ((world_behind d.world number).links s p.source)
        → StoredIs (beside_of d s) (d.world.nodes s) link.site link.stored heard.stored old new result → StoredIs (beside_of d s) (d.world.nodes s) p.source before now old new result
    stored_as old new link heard result link_is heard_is stored =
        subst (λ (k : PlainLink). StoredIs (beside_of d s) (d.world.nodes s) p.source before k.stored old new result) heard_is
        (subst (λ (k : PlainLink). StoredIs (beside_of d s) (d.world.nodes s) k.site k.stored heard.stored old new result) link_is stored)

-- ---- a call that did nothing to the disks

none_passed : (size : ℕ → ℕ) (o : Option Disks) → OnDisks o o (Burnt NoMore Done size)
none_passed size None = tt
none_passed size (Some d) = (record { fuse = loses_none d.fuse; still = λ f first last. record { stable = λ u b. refl; latest = λ u b. refl; loose = λ u b. refl } }, λ u. refl)

pub called_none : {R : Type 0} {g : Ghosts R} (e : DiskSet R g) → LeavesFuse NoMore Done e e
called_none e = record { told = none_passed (size_in e) (disks_told e); sizes = λ u. refl }

-- a stop under any result
pub stop_under : (T V : Type 0) (x y : Stop) → (let r : Result T Stop = Err x in r ≡ Err y) → (let r : Result V Stop = Err x in r ≡ Err y)
stop_under T V x y e = let same : x ≡ y = cc in ap (λ (z : Stop). let r : Result V Stop = Err z in r) same
