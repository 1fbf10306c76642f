-- The line that settles a link: its connect, and what follows on it.
use Rattle.std.proofs.Common.{◌≡◌, ◌∙◌, ◌<◌, ◌≤◌, ◌++◌, ℕ, List, [], ◌∷◌, Bool, false, length, ap, sym, subst, refl, arith, length-append, append-nil}
use Rattle.std.specs.Prelude.{IfOk, None, Ok, Err, Result, Some, true}
use Rattle.vx_model.specs.declared.errors.OutOfMemory.{OutOfMemory}
use Rattle.vx_model.specs.Sites.{is_origin}
use Rattle.vx_model.specs.declared.no.No.{No}
use Rattle.vx_history.specs.Doubts.{Doubted}
use Rattle.vx_history.specs.Settling.{settling}
use Rattle.vx_history.specs.Step.{step}
use Rattle.vx_history.specs.World.{Packet, World}
use Rattle.vx_history.specs.declared.event.Event.{Event}
use Rattle.vx_history.specs.declared.event.Event.TheVariants.{Connect as ConnectAt}
use Rattle.vx_disk.specs.declared.shelf.Shelf.{Ghosts}
use Rattle.vx_order.specs.Order.{line_refusal}
use Rattle.vx_order.specs.declared.facts.SiteFacts.{SiteFacts}
use Rattle.vx_events.proofs.LinkSettling.{settle_agrees}
use Rattle.vx_events.proofs.Parts.{none_done}
use Rattle.vx_events.proofs.Places.{some_same}
use Rattle.vx_events.proofs.Tolds.{done_told}
use Rattle.vx_events.specs.Facts.{seat_of, site_number}
use Rattle.vx_events.specs.Parts.{StopsInPart}
use Rattle.vx_events.specs.Settles.{CanSettle}
use Rattle.vx_events.specs.declared.said.Said.{Said}
use Rattle.vx_events.specs.declared.said.Said.TheVariants.{Done, Refused, Settled}
use Rattle.vx_script.specs.declared.line.ScriptLine.{ScriptLine}
use Rattle.vx_script.specs.declared.line.ScriptLine.TheVariants.{Connect, Settle}
use Rattle.vx_settling.proofs.Burning.{burns_none}
use Rattle.vx_settling.proofs.Moving.{may_move}
use Rattle.vx_settling.proofs.WithinLines.{connect_goes, connect_says}
use Rattle.vx_settling.specs.Burnt.{noted_as}
use Rattle.vx_settling.specs.Works.{CalmTold, SettleWorks}
use Rattle.vx_yard.specs.Carries.{Carries}
use Rattle.vx_yard.specs.BothSites.{BothSites, SettleBurns}
use Rattle.vx_yard.specs.OfSites.{AllSameFailing}
use Rattle.vx_node.specs.Settling.{EndedFor, OnFor, SettlesFor, ShortFor, WentFor, end_by, ended_as, settled_on}
use Rattle.vx_yard.specs.Standing.{GoodFor, Leads, LeadsOrStops, StandsFor, StaysFor, StopsFor}
use Rattle.vx_yard.specs.Stands.{RoseAll}
use Rattle.vx_yard.specs.Working.{IsFree}
use Rattle.vx_yard.specs.Yards.{IsTold, count_of, in_files}
use Rattle.vx_node.specs.declared.going.Went.{Went}
use Rattle.vx_node.specs.declared.going.Went.TheVariants.{Ended, On, Short}
use Rattle.vx_yard.specs.declared.yard.Yard.{Yard}
use Rattle.vx_yard.proofs.ChangeSite.{rose_none}
use Rattle.vx_yard.proofs.NamedSite.{place_at}
use Rattle.vx_yard.proofs.OfSites.{all_then}
use Rattle.vx_yard.proofs.SettleCalls.{settle_then}
use Rattle.vx_node.proofs.SettleParts.{apart_at}
use Rattle.vx_node.proofs.SettleEnds.{settle_ended, settle_leads, settle_short}
use Rattle.vx_node.proofs.StepWent.{step_went}
use Rattle.vx_node.proofs.WentOn.{world_is}
use Rattle.vx_node.proofs.WentThen.{on_as, on_then, went_as, went_then}

module _ {R : Type 0} {g : Ghosts R} where
  -- what no test refuses may be settled
  pub begins : (d : Doubted) (y : Yard R g) (first second : List ℕ) (a b : ℕ) → StandsFor d y → Carries d y → GoodFor d y → IsFree y (Settle first second) → seat_of y.facts.items first ≡ Some a → seat_of y.facts.items second ≡ Some b → SettlesFor first second a b d y
  begins d y first second a b stands carries good free one two =
      let here = place_at d y first a stands one in
      let there = place_at d y second b stands two in
      let can : CanSettle d.world (site_number d.world first) (site_number d.world second)
      = settle_agrees d (in_files y) first second stands.links (subst (λ (fs : List SiteFacts). line_refusal fs (in_files y) (Settle first second) ≡ None) stands.facts free) in
      record {
        noted = record { fuses = λ i. (d.world.nodes i).fuse; burns = burns_none a b d.world; stands = stands; carries = carries };
        may = may_move d a b stands.links (subst (λ (j : ℕ). CanSettle d.world a j) there.number (subst (λ (i : ℕ). CanSettle d.world i (site_number d.world second)) here.number can));
        good = good;
        from = here.number;
        to = there.number;
      }

  -- the connect
  pub connected : (d : Doubted) (old mid : Yard R g) (first second : List ℕ) (a b : ℕ) (said : Said) → (serves : SettlesFor first second a b d old) → (IsTold mid → IsTold old) → AllSameFailing old mid → BothSites (SettleBurns Done) a b old mid
      → Leads (noted_as serves.noted.fuses d) (Connect first second) said old mid → OnFor first second a b d (ConnectAt a b ∷ []) old mid
  connected d old mid first second a b said serves told asked calls leads =
      let n = serves.noted in
      let less : CalmTold (IsTold mid) d → IsTold mid = λ t. t.0 in
      let is : said ≡ Done = connect_says (CalmTold (IsTold mid) d) a b d (λ t. t.1) serves.may n.fuses n.burns n.stands.links first second leads.fails said leads.next serves.from serves.to
      (done_told less (noted_as n.fuses d) (Connect first second) leads.fails said leads.next leads.done).ends in
      step_went first second a b d (ConnectAt a b ∷ []) old mid serves told asked (Connect first second)
      (λ fails x e done. connect_goes (CalmTold (IsTold mid) d) a b d (λ t. t.1) serves.may n.fuses n.burns n.stands.links first second fails x e serves.from serves.to done.ends) (Ok Done)
      (subst (λ (x : Said). Leads (noted_as n.fuses d) (Connect first second) x old mid) is leads) calls

  -- nothing of the line was done
  pub still : (d : Doubted) (line : ScriptLine) (y : Yard R g) → StandsFor d y → StopsFor d line y y
  still d line y stands = record { next = d; part = StopsInPart (none_done d line); stands = stands; carries = λ carries. carries; rose = rose_none (count_of y) (count_of y) (λ s u. omega arith) }

  pub stays_so : (d : Doubted) (line : ScriptLine) (old new : Yard R g) → StaysFor d old new → StopsFor d line old new
  stays_so d line old new stays = record { next = d; part = StopsInPart (none_done d line); stands = stays.stands; carries = stays.carries; rose = stays.rose }

  -- by the numbers that the names have
  lead_at : (d : Doubted) (old new : Yard R g) (first second : List ℕ) (i j : ℕ) → site_number d.world first ≡ i → site_number d.world second ≡ j → (all : OnFor first second i j d (settling d.world i j) old new)
      → is_origin (d.world.nodes i).role ≡ true → (d.world.nodes i).safe ≤ (all.next.world.links i j).stored → Leads d (Settle first second) (Settled (d.world.nodes i).safe) old new
  lead_at d old new first second i j one two =
      subst
      (λ (k : ℕ). (all : OnFor first second k j d (settling d.world k j) old new) → is_origin (d.world.nodes k).role ≡ true → (d.world.nodes k).safe ≤ (all.next.world.links k j).stored → Leads d (Settle first second) (Settled (d.world.nodes k).safe) old new)
      one
      (subst
      (λ (l : ℕ). (all : OnFor first second (site_number d.world first) l d (settling d.world (site_number d.world first) l) old new) → is_origin (d.world.nodes (site_number d.world first)).role ≡ true
      → (d.world.nodes (site_number d.world first)).safe ≤ (all.next.world.links (site_number d.world first) l).stored → Leads d (Settle first second) (Settled (d.world.nodes (site_number d.world first)).safe) old new)
      two (λ all origin stored. settle_leads d first second old new all origin stored))

  end_at : (d : Doubted) (old new : Yard R g) (first second : List ℕ) (i j : ℕ) → site_number d.world first ≡ i → site_number d.world second ≡ j → (why : No) → EndedFor i j d (settling d.world i j) why old new
      → i < d.world.sites → j < d.world.sites → Leads d (Settle first second) (Refused why) old new
  end_at d old new first second i j one two why =
      subst (λ (k : ℕ). EndedFor k j d (settling d.world k j) why old new → k < d.world.sites → j < d.world.sites → Leads d (Settle first second) (Refused why) old new) one
      (subst (λ (l : ℕ). EndedFor (site_number d.world first) l d (settling d.world (site_number d.world first) l) why old new → site_number d.world first < d.world.sites → l < d.world.sites → Leads d (Settle first second) (Refused why) old new) two
      (λ end here there. settle_ended d first second old new why end here there))

  short_at : (d : Doubted) (old mid new : Yard R g) (first second : List ℕ) (i j : ℕ) → site_number d.world first ≡ i → site_number d.world second ≡ j → (x : Event) (rest : List Event) (m : Doubted)
      → (CalmTold (IsTold new) d → settling d.world i j ≡ x ∷ rest) → SettleWorks (CalmTold (IsTold new) d) i j d (x ∷ []) m → RoseAll [] (count_of old) (count_of mid) → i < d.world.sites → j < d.world.sites → ShortFor i j m rest mid new → StopsFor d (Settle first second) old new
  short_at d old mid new first second i j one two x rest m =
      subst
      (λ (k : ℕ). (CalmTold (IsTold new) d → settling d.world k j ≡ x ∷ rest) → SettleWorks (CalmTold (IsTold new) d) k j d (x ∷ []) m → RoseAll [] (count_of old) (count_of mid) → k < d.world.sites → j < d.world.sites → ShortFor k j m rest mid new → StopsFor d (Settle first second) old new)
      one
      (subst
      (λ (l : ℕ). (CalmTold (IsTold new) d → settling d.world (site_number d.world first) l ≡ x ∷ rest) → SettleWorks (CalmTold (IsTold new) d) (site_number d.world first) l d (x ∷ []) m → RoseAll [] (count_of old) (count_of mid) → site_number d.world first < d.world.sites
      → l < d.world.sites → ShortFor (site_number d.world first) l m rest mid new → StopsFor d (Settle first second) old new)
      two (λ split works rose here there short. settle_short d first second old new x rest m mid split works rose here there short))

  module _ (d : Doubted) (old mid new : Yard R g) (first second : List ℕ) (a b before head : ℕ) (serves : SettlesFor first second a b d old) (one : OnFor first second a b d (ConnectAt a b ∷ []) old mid)
      (sent : before ≡ length d.world.packets) (durable : head ≡ (d.world.nodes a).safe) where
    -- so many packets there are at least behind the connect
    pub sent_before : before ≤ length one.next.world.packets
    sent_before =
        let m = one.works.moves in
        omega (arith, sent, ap (λ (ps : List Packet). length ps) m.sent, length-append d.world.packets m.more)

    all_is : CalmTold (IsTold new) d → (IsTold new → IsTold mid) → (ConnectAt a b ∷ []) ++ settled_on a b before head one.next.world ≡ settling d.world a b
    all_is tells told =
        let m = world_is first second a b d (ConnectAt a b ∷ []) old mid (refl, tt) one (told tells.0, tells.1) in
        ap (λ (w : World). ConnectAt a b ∷ settled_on a b before head w) m
        ∙ ap (λ (k : ℕ). ConnectAt a b ∷ settled_on a b k head (step d.world (ConnectAt a b)).world) sent
        ∙ ap (λ (k : ℕ). ConnectAt a b ∷ settled_on a b (length d.world.packets) k (step d.world (ConnectAt a b)).world) durable

    -- all is done, and stored
    pub line_on : (on : OnFor first second a b one.next (settled_on a b before head one.next.world) mid new) → head ≤ (on.next.world.links a b).stored → Leads d (Settle first second) (Settled head) old new
    line_on on stored =
        let all = on_as first second a b d ((ConnectAt a b ∷ []) ++ settled_on a b before head one.next.world) (settling d.world a b) old new (λ tells. all_is tells on.told)
        (on_then first second a b d (ConnectAt a b ∷ []) (settled_on a b before head one.next.world) old mid new one on) in
        subst (λ (k : ℕ). Leads d (Settle first second) (Settled k) old new) (sym durable) (lead_at d old new first second a b serves.from serves.to all serves.may.can.sender (omega (arith, stored, durable)))

    -- it was refused
    pub line_ended : (why : No) → EndedFor a b one.next (settled_on a b before head one.next.world) why mid new → Leads d (Settle first second) (Refused why) old new
    line_ended why end =
        let all = went_as first second a b d ((ConnectAt a b ∷ []) ++ settled_on a b before head one.next.world) (settling d.world a b) old new (Ended why) (λ tells. all_is tells end.told)
        (went_then first second a b d (ConnectAt a b ∷ []) (settled_on a b before head one.next.world) old mid new (Ended why) (refl, tt) one end) in
        end_at d old new first second a b serves.from serves.to why all serves.may.can.first serves.may.can.second

    -- memory ran out
    pub line_short : ShortFor a b one.next (settled_on a b before head one.next.world) mid new → StopsFor d (Settle first second) old new
    line_short short =
        let w = one.works in
        let works : SettleWorks (CalmTold (IsTold new) d) a b d (ConnectAt a b ∷ []) one.next
        = record { exact = λ tells. w.exact (short.told tells.0, tells.1); moves = w.moves } in
        short_at d old mid new first second a b serves.from serves.to (ConnectAt a b) (settled_on a b before head one.next.world) one.next (λ tells. sym (all_is tells short.told)) works one.rose serves.may.can.first serves.may.can.second short

    -- what is done may count as memory that ran out
    pub on_short : OnFor first second a b one.next (settled_on a b before head one.next.world) mid new → ShortFor a b one.next (settled_on a b before head one.next.world) mid new
    on_short on = record {
      last = on.next;
      short = record {
        exact = λ tells. record { before = settled_on a b before head one.next.world; rest = []; split = sym (append-nil (settled_on a b before head one.next.world)); runs = on.works.exact tells };
        moves = on.works.moves;
      };
      noted = on.serves.noted;
      told = on.told;
      asked = on.asked;
      rose = on.rose;
    }

    -- by what it was answered
    pub line_by : (w : Went) (settled : Bool) (r : Result Said OutOfMemory) → ended_as r ≡ end_by w settled head → WentFor first second a b one.next (settled_on a b before head one.next.world) mid new w
        → (settled ≡ true → (e : Doubted) → SettlesFor first second a b e new → head ≤ (e.world.links a b).stored) → LeadsOrStops d (Settle first second) old new r
    line_by (Ended why) settled (Ok said) is went stored = subst (λ (x : Said). Leads d (Settle first second) x old new) (sym (some_same is)) (line_ended why went)
    line_by (Ended why) settled (Err e) is went stored = absurd (cc)
    line_by Short settled (Ok said) is went stored = absurd (cc)
    line_by Short settled (Err e) is went stored = line_short went
    line_by On true (Ok said) is went stored = subst (λ (x : Said). Leads d (Settle first second) x old new) (sym (some_same is)) (line_on went (stored refl went.next went.serves))
    line_by On true (Err e) is went stored = absurd (cc)
    line_by On false (Ok said) is went stored = absurd (cc)
    line_by On false (Err e) is went stored = line_short (on_short went)

    -- and no disk was made to fail
    pub line_asked : (w : Went) → WentFor first second a b one.next (settled_on a b before head one.next.world) mid new w → AllSameFailing old new
    line_asked On went = all_then old mid new one.asked went.asked
    line_asked (Ended why) went = all_then old mid new one.asked went.asked
    line_asked Short went = all_then old mid new one.asked went.asked

    -- its calls are those of its parts
    apart : a ≡ b → ⊥
    apart = apart_at first second a b d old serves

    pub line_called : (w : Went) (settled : Bool) (r : Result Said OutOfMemory) → ended_as r ≡ end_by w settled head → WentFor first second a b one.next (settled_on a b before head one.next.world) mid new w
        → IfOk r (λ said. BothSites (SettleBurns said) a b old new)
    line_called (Ended why) settled (Ok said) is went = subst (λ (x : Said). BothSites (SettleBurns x) a b old new) (sym (some_same is)) (settle_then a b apart (Refused why) old mid new one.called went.called)
    line_called On true (Ok said) is went = subst (λ (x : Said). BothSites (SettleBurns x) a b old new) (sym (some_same is)) (settle_then a b apart Done old mid new one.called went.called)
    line_called On false (Ok said) is went = absurd (cc)
    line_called Short settled (Ok said) is went = absurd (cc)
    line_called (Ended why) settled (Err e) is went = tt
    line_called On true (Err e) is went = tt
    line_called On false (Err e) is went = tt
    line_called Short settled (Err e) is went = tt
