-- What events of links in memory leave of what disks hold.
use Rattle.std.proofs.Common.{◌≡◌, ◌∙◌, ◌+◌, ◌++◌, ℕ, List, [], ap, sym, refl, arith}
use Rattle.std.proofs.lemmas.List.{append-nil}
use Rattle.std.specs.Prelude.{not, ◌&&◌, ◌||◌, eqb, ltb, max, min, if◌then◌else◌}
use Rattle.vx_history.specs.Admission.{is_live_link}
use Rattle.vx_history.specs.Events.{greeting_back, link_event, link_step, linked_sites, promises_of, ticked_at, ticked_link, waited}
use Rattle.vx_history.specs.KeptLinks.{kept_link, kept_links}
use Rattle.vx_history.specs.LinkForms.{plain_link, with_plain}
use Rattle.vx_history.specs.Refusals.{Outcome, at_work, holds_back, is_unconfirmed, says, some_below, unless, when_live}
use Rattle.vx_history.specs.Sending.{Sent, by_log, pumped_up_to, with_nothing}
use Rattle.vx_history.specs.Sends.{promising, sending, sent_by, with_link}
use Rattle.vx_history.specs.Step.{done, outcome_of, step}
use Rattle.vx_history.specs.World.{Link, Packet, World, updated}
use Rattle.vx_history.specs.declared.event.Event.TheVariants.{Connect, Cut, Pause, Pump, Resume, Tick, Wait}
use Rattle.vx_history.specs.declared.sender.Action.TheVariants.{Updates}
use Rattle.vx_history.specs.declared.event.Said.TheVariants.{DoneAt, Pending}
use Rattle.vx_history.specs.declared.sender.SEvent.{SEvent}
use Rattle.vx_history.specs.declared.sender.SEvent.TheVariants.{Connect as ConnectLink, Cut as CutLink, Pause as PauseLink, Pump as PumpLink, Resume as ResumeLink}
use Rattle.vx_history.proofs.Behind.{link_by, site_by, unless_by, work_by}
use Rattle.vx_history.proofs.Updates.{all_updated, by_test}
use Rattle.vx_model.specs.Sites.{is_origin}
use Rattle.vx_model.specs.declared.no.Named.TheVariants.{Number as ByNumber}
use Rattle.vx_model.specs.declared.no.No.TheVariants.{LinkDown, Paused, Role as WrongRole, Unconfirmed, Unknown}
use Rattle.vx_model.specs.declared.no.SiteName.TheVariants.{Number as SiteNumber}
use Rattle.vx_model.specs.declared.limits.TheConstants.{MOST_AHEAD}
use Rattle.vx_linked.specs.Disks.{LeavesDisks}
use Rattle.vx_effects.proofs.Rows.{kept_same, made_same, sites_same}

-- behind what a line that waits for a write says
pub wait_by : (P : World → Type 0) (w : World) (p number : ℕ) → P w → P (promising w (promises_of (w.nodes p) number (w.links p) w.sites)) → P (outcome_of w (Wait p number)).world
wait_by P w p number here there =
    let last : Outcome = (if some_below w.sites (λ k. holds_back number k (w.links p k)) then says w (Pending number) else says (promising w (promises_of (w.nodes p) number (w.links p) w.sites)) (DoneAt number)) in
    let confirmed : Outcome = unless (some_below w.sites (λ k. is_unconfirmed number k (w.links p k))) (Unconfirmed number) w last in
    let led : Outcome = unless (not (is_origin (w.nodes p).role)) WrongRole w (waited w p number) in
    site_by P w p (at_work w p led) here
    (work_by P w p led here
    (unless_by P (not (is_origin (w.nodes p).role)) WrongRole w (waited w p number) here
    (unless_by P (eqb number 0 || ltb (w.nodes p).safe number) (Unknown (ByNumber number)) w confirmed here
    (unless_by P (some_below w.sites (λ k. is_unconfirmed number k (w.links p k))) (Unconfirmed number) w last here
    (by_test (λ (r : Outcome). P r.world) (some_below w.sites (λ k. holds_back number k (w.links p k))) (says w (Pending number)) (says (promising w (promises_of (w.nodes p) number (w.links p) w.sites)) (DoneAt number)) (λ _. here)
    (λ _. there))))))

-- with the headers counted, of which an event in memory writes none
abbrev Leaves : World → World → Type 0
Leaves w v = LeavesDisks w (record v { headers = λ i. w.headers i + 0 })

none_more : (n : ℕ) → n + 0 ≡ n
none_more n = omega arith

left_same : (w : World) → Leaves w w
left_same w = record { sites = refl; nodes = λ i. refl; kept = λ i. refl; headers = λ i. none_more (w.headers i); gathering = λ i. refl }

module _ (w : World) (p s : ℕ) (l : Link) where
  abbrev row : ℕ → Link
  row = w.links p

  abbrev next : ℕ → Link
  next = updated row s l

  kept_here : l.made ≡ (w.links p s).made → kept_link s l ≡ kept_link s (w.links p s) → kept_links next (linked_sites next w.sites 0 w.sites) ≡ kept_links row (linked_sites row w.sites 0 w.sites)
  kept_here made kept =
      ap (kept_links next) (sites_same row next (made_same row s l made) w.sites 0 w.sites)
      ∙ kept_same row next (λ k. all_updated (λ (j : ℕ) (x : Link). kept_link j x ≡ kept_link j (row j)) row s l kept (λ j apart. refl) k) (linked_sites row w.sites 0 w.sites)

  left_linked : l.made ≡ (w.links p s).made → kept_link s l ≡ kept_link s (w.links p s) → Leaves w (with_link w p s l)
  left_linked made kept = record {
    sites = refl;
    nodes = λ i. refl;
    kept = all_updated (λ (i : ℕ) (r : ℕ → Link). kept_links r (linked_sites r w.sites 0 w.sites) ≡ kept_links (w.links i) (linked_sites (w.links i) w.sites 0 w.sites)) w.links p next (kept_here made kept)
        (λ i apart. refl);
    headers = λ i. none_more (w.headers i);
    gathering = λ i. refl;
  }

-- the link that the rule makes of one
abbrev moved : World → ℕ → ℕ → SEvent → Link
moved w p s e = with_plain (w.links p s) (link_step w p s e).link

pub connect_leaves : (w : World) (p s : ℕ) → LeavesDisks w (step w (Connect p s)).world
connect_leaves w p s =
    let left = left_linked w p s (moved w p s ConnectLink) refl refl in
    link_by (Leaves w) w p s (done (sending (link_event w p s ConnectLink) (greeting_back w p s))) (left_same w)
    (record { sites = left.sites; nodes = left.nodes; kept = left.kept; headers = left.headers; gathering = left.gathering })

pub cut_leaves : (w : World) (p s : ℕ) → LeavesDisks w (step w (Cut p s)).world
cut_leaves w p s =
    let left = left_linked w p s (moved w p s CutLink) refl refl in
    link_by (Leaves w) w p s (done (link_event w p s CutLink)) (left_same w) (record { sites = left.sites; nodes = left.nodes; kept = left.kept; headers = left.headers; gathering = left.gathering })

pub pause_leaves : (w : World) (p s : ℕ) → LeavesDisks w (step w (Pause p s)).world
pause_leaves w p s =
    let left = left_linked w p s (moved w p s PauseLink) refl refl in
    link_by (Leaves w) w p s (done (link_event w p s PauseLink)) (left_same w) (record { sites = left.sites; nodes = left.nodes; kept = left.kept; headers = left.headers; gathering = left.gathering })

pub resume_leaves : (w : World) (p s : ℕ) → LeavesDisks w (step w (Resume p s)).world
resume_leaves w p s =
    let left = left_linked w p s (moved w p s ResumeLink) refl refl in
    link_by (Leaves w) w p s (done (link_event w p s ResumeLink)) (left_same w) (record { sites = left.sites; nodes = left.nodes; kept = left.kept; headers = left.headers; gathering = left.gathering })

pub tick_leaves : (w : World) (p s : ℕ) → LeavesDisks w (step w (Tick p s)).world
tick_leaves w p s = link_by (Leaves w) w p s (done (ticked_at w p s)) (left_same w) (left_linked w p s (ticked_link w p s) refl refl)

pub wait_leaves : (w : World) (p number : ℕ) → LeavesDisks w (step w (Wait p number)).world
wait_leaves w p number =
    let same = left_same w in
    wait_by (Leaves w) w p number same (record { sites = same.sites; nodes = same.nodes; kept = same.kept; headers = same.headers; gathering = same.gathering })

-- ---- what is sent

-- the packets are those of before
abbrev Quiet : World → World → Type 0
Quiet w v = v.packets ≡ w.packets

pub cut_sends : (w : World) (p s : ℕ) → (step w (Cut p s)).world.packets ≡ w.packets
cut_sends w p s = link_by (Quiet w) w p s (done (link_event w p s CutLink)) refl (append-nil w.packets)

pub pause_sends : (w : World) (p s : ℕ) → (step w (Pause p s)).world.packets ≡ w.packets
pause_sends w p s = link_by (Quiet w) w p s (done (link_event w p s PauseLink)) refl (append-nil w.packets)

pub resume_sends : (w : World) (p s : ℕ) → (step w (Resume p s)).world.packets ≡ w.packets
resume_sends w p s = link_by (Quiet w) w p s (done (link_event w p s ResumeLink)) refl (append-nil w.packets)

pub tick_sends : (w : World) (p s : ℕ) → (step w (Tick p s)).world.packets ≡ w.packets
tick_sends w p s = link_by (Quiet w) w p s (done (ticked_at w p s)) refl refl

pub wait_sends : (w : World) (p number : ℕ) → (step w (Wait p number)).world.packets ≡ w.packets
wait_sends w p number = wait_by (Quiet w) w p number refl refl

-- what a connect sends comes behind what was sent before
pub connect_sends : (w : World) (p s : ℕ) → (more : List Packet) × ((step w (Connect p s)).world.packets ≡ w.packets ++ more)
connect_sends w p s =
    link_by (λ v. (more : List Packet) × (v.packets ≡ w.packets ++ more)) w p s (done (sending (link_event w p s ConnectLink) (greeting_back w p s))) ([], sym (append-nil w.packets))
    (greeting_back w p s, ap (λ (ps : List Packet). ps ++ greeting_back w p s) (append-nil w.packets))

-- ---- a pump

live_by : (P : World → Type 0) (w : World) (s : ℕ) (l : Link) (o : Outcome) → P w → P o.world → P (when_live w s l o).world
live_by P w s l o here there =
    unless_by P (not (l.attached && l.connected)) (LinkDown (SiteNumber s)) w (unless l.paused Paused w o) here (unless_by P l.paused Paused w o here there)

-- of a link it changes what was sent
pump_kept : (w : World) (p s : ℕ) → kept_link s (moved w p s PumpLink) ≡ kept_link s (w.links p s)
pump_kept w p s =
    by_test (λ (t : Sent). kept_link s (with_plain (w.links p s) t.link) ≡ kept_link s (w.links p s)) (is_live_link (plain_link s (w.links p s)) && by_log (w.links p s).mode)
    (pumped_up_to (plain_link s (w.links p s)) (max (w.links p s).sent (w.links p s).stored) (min (w.nodes p).safe ((w.links p s).net + MOST_AHEAD))) (with_nothing (plain_link s (w.links p s)))
    (λ live. up_to (max (w.links p s).sent (w.links p s).stored) (min (w.nodes p).safe ((w.links p s).net + MOST_AHEAD))) (λ dead. refl)
  where
    up_to : (low high : ℕ) → kept_link s (with_plain (w.links p s) (pumped_up_to (plain_link s (w.links p s)) low high).link) ≡ kept_link s (w.links p s)
    up_to low high =
        by_test (λ (t : Sent). kept_link s (with_plain (w.links p s) t.link) ≡ kept_link s (w.links p s)) (ltb low high)
        (let t : Sent = record { link = record (plain_link s (w.links p s)) { sent = high }; action = Updates (low + 1) high } in t) (with_nothing (record (plain_link s (w.links p s)) { sent = low })) (λ more. refl) (λ none. refl)

pub pump_leaves : (w : World) (p s : ℕ) → LeavesDisks w (step w (Pump p s)).world
pump_leaves w p s =
    let left = left_linked w p s (moved w p s PumpLink) refl (pump_kept w p s) in
    let o : Outcome = done (link_event w p s PumpLink) in
    link_by (Leaves w) w p s (when_live w s (w.links p s) o) (left_same w)
    (live_by (Leaves w) w s (w.links p s) o (left_same w) (record { sites = left.sites; nodes = left.nodes; kept = left.kept; headers = left.headers; gathering = left.gathering }))

pub pump_sends : (w : World) (p s : ℕ) → (more : List Packet) × ((step w (Pump p s)).world.packets ≡ w.packets ++ more)
pump_sends w p s =
    let o : Outcome = done (link_event w p s PumpLink) in
    let none : (more : List Packet) × (w.packets ≡ w.packets ++ more) = ([], sym (append-nil w.packets)) in
    link_by (λ v. (more : List Packet) × (v.packets ≡ w.packets ++ more)) w p s (when_live w s (w.links p s) o) none
    (live_by (λ v. (more : List Packet) × (v.packets ≡ w.packets ++ more)) w s (w.links p s) o none (sent_by (link_step w p s PumpLink).action p s (w.nodes p), refl))
