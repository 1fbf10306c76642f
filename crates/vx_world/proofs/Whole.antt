-- Every event keeps all that holds of the world.
use Rattle.std.proofs.Common.{◌≡◌, ℕ, List, [], ◌∷◌, refl, arith, Bool, true, false}
use Rattle.std.proofs.lemmas.Bool.{not-false}
use Rattle.std.specs.Prelude.{leb, not, if◌then◌else◌, eqb, ltb, ◌||◌, bytes_eq}
use Rattle.vx_model.specs.Sites.{is_origin, is_up, is_bare}
use Rattle.vx_model.specs.Sizes.{is_raw_shape}
use Rattle.vx_model.specs.declared.limits.TheConstants.{MOST_DISKS, MOST_SITES}
use Rattle.vx_model.specs.declared.no.No.TheVariants.{Size, Role as WrongRole, Down as NotUp, Exists, Limit, Unknown, Unconfirmed}
use Rattle.vx_model.specs.declared.no.Named.TheVariants.{Number as ByNumber}
use Rattle.vx_model.specs.declared.no.Counted.TheVariants.{Sites, Disks}
use Rattle.vx_history.proofs.StateCases.{bare_is, up_is}
use Rattle.vx_history.proofs.Updates.{by_test}
use Rattle.vx_history.specs.Receiving.{Received, received_step}
use Rattle.vx_history.specs.LinkForms.{plain_receiver}
use Rattle.vx_history.specs.World.{World, Link as LinkRecord, empty_world, no_link}
use Rattle.vx_history.specs.Listed.{HasPlaces}
use Rattle.vx_history.specs.Steps.{site_made, raw_made, stopped_by}
use Rattle.vx_history.specs.Sends.{with_link, sending, promising}
use Rattle.vx_history.specs.Refusals.{Outcome, says, unless, at_work, on_link, on_link_if, keeps_links as has_links, some_below, is_unconfirmed, holds_back}
use Rattle.vx_history.specs.Events
use Rattle.vx_history.specs.Step.{done, outcome_of, step, run, link_part}
use Rattle.vx_history.specs.GoodWorld.{GoodWorld}
use Rattle.vx_history.specs.Sound.{Sound}
use Rattle.vx_history.specs.declared.event.Event.{Event}
use Rattle.vx_history.specs.declared.event.Event.TheVariants.{Site, Raw, Group, Volumes, Write as WriteAt, Read, Apply, Pump, Tick, Deliver, Connect, Cut, Pause, Resume, Wait, Link, Set, Attach, Detach, Crash, Deport, Fall, Recover, Fault}
use Rattle.vx_history.specs.declared.event.Said.TheVariants.{Pending, DoneAt}
use Rattle.vx_history.specs.declared.sender.SEvent.{SEvent}
use Rattle.vx_history.specs.declared.sender.SEvent.TheVariants.{Connect as ConnectLink, Pump as PumpLink, Cut as CutLink, Pause as PauseLink, Resume as ResumeLink}
use Rattle.vx_history.specs.declared.receiver.REvent.TheVariants.{Applied}
use Rattle.vx_world.proofs.Guards
use Rattle.vx_world.proofs.Keeping.{Keeps, keeps_same, keeps_links, made_link, keeps_headers, keeps_promising, keeps_sending}
use Rattle.vx_world.proofs.Stays.{step_keeps, empty_sound}
use Rattle.vx_world.proofs.KeptWrites.{Leaves, write_leaves, moved_leaves, greeting_parts, applied_leaves}
use Rattle.vx_history.specs.Volumes.{volumes_made}
use Rattle.vx_world.proofs.KeptPackets.{deliver_leaves}
use Rattle.vx_world.proofs.Volumed.{volumes_leaves}
use Rattle.vx_world.proofs.KeptSites.{crash_leaves, deport_leaves, fall_leaves, recover_leaves, site_leaves, raw_leaves, group_from_leaves, link_part_leaves, stopped_leaves}

-- ## Events

pub on_link_leaves : (w : World) (p q : ℕ) (e : SEvent) → Leaves w (on_link w p q (done (Events.link_event w p q e)))
on_link_leaves w p q e = Guards.on_link_holds (Keeps w) has_links w p q (done (Events.link_event w p q e)) (keeps_same w) (λ _ _ _. moved_leaves w p q e)

-- a link of an origin is set, attached or detached
set_leaves : (w : World) (p q : ℕ) (l : LinkRecord) → l.made ≡ (w.links p q).made → Leaves w (on_link_if is_origin w p q (done (with_link w p q l)))
set_leaves w p q l same =
    Guards.on_link_holds (Keeps w) is_origin w p q (done (with_link w p q l)) (keeps_same w) (λ _ _ _. keeps_links w w (keeps_same w) (with_link w p q l).links (made_link w p q l same))

pub outcome_leaves : (w : World) (e : Event) → Sound w → Leaves w (outcome_of w e)
outcome_leaves w (Site name disks blocks) s =
    let o : Outcome = done (site_made w name disks blocks) in
    let few : Outcome = unless (eqb disks 0 || ltb blocks 8) Size w o in
    let some : Outcome = unless (ltb MOST_DISKS disks) (Limit Disks MOST_DISKS) w few in
    Guards.unless_holds (Keeps w) (some_below w.sites (λ k. bytes_eq (w.nodes k).name name)) (Exists name) w
    (unless (leb MOST_SITES w.sites) (Limit Sites MOST_SITES) w some) (keeps_same w)
    (λ _. Guards.unless_holds (Keeps w) (leb MOST_SITES w.sites) (Limit Sites MOST_SITES) w some (keeps_same w)
    (λ _. Guards.unless_holds (Keeps w) (ltb MOST_DISKS disks) (Limit Disks MOST_DISKS) w few (keeps_same w)
    (λ _. Guards.unless_holds (Keeps w) (eqb disks 0 || ltb blocks 8) Size w o (keeps_same w) (λ _. site_leaves w name disks blocks s))))
outcome_leaves w (Raw q) s =
    let o : Outcome = done (raw_made w q) in
    let shaped : Outcome = unless (not (is_raw_shape (w.nodes q).disks (w.nodes q).blocks)) Size w o in
    Guards.at_site_holds (Keeps w) w q (unless (not (is_bare (w.nodes q).state)) WrongRole w shaped) (keeps_same w)
    (λ _. Guards.unless_holds (Keeps w) (not (is_bare (w.nodes q).state)) WrongRole w shaped (keeps_same w)
    (λ bare. Guards.unless_holds (Keeps w) (not (is_raw_shape (w.nodes q).disks (w.nodes q).blocks)) Size w o (keeps_same w)
    (λ _. raw_leaves w q s (bare_is (w.nodes q).state (not-false (is_bare (w.nodes q).state) bare)))))
outcome_leaves w (Group q) s =
    Guards.at_site_holds (Keeps w) w q _ (keeps_same w) (λ _. group_from_leaves w q (w.nodes q).state s refl)
outcome_leaves w (Volumes q log xs) s =
    let o : Outcome = done (volumes_made w q log xs) in
    let tested : Outcome = unless (not (Events.is_plain_group (w.nodes q))) WrongRole w o in
    Guards.at_site_holds (Keeps w) w q (at_work w q tested) (keeps_same w)
    (λ _. Guards.at_work_holds (Keeps w) w q tested (keeps_same w)
    (λ up _. Guards.unless_holds (Keeps w) (not (Events.is_plain_group (w.nodes q))) WrongRole w o (keeps_same w)
    (λ plain. volumes_leaves w q log xs s up (not-false (Events.is_plain_group (w.nodes q)) plain))))
outcome_leaves w (WriteAt p volume start bytes fails) s = write_leaves w p (record { volume = volume; start = start; bytes = bytes }) fails s
outcome_leaves w (Read p volume start count) s = Guards.on_volume_holds (Keeps w) w p volume start count false _ (keeps_same w) (λ _ _ _. keeps_same w)
outcome_leaves w (Apply q count reached) s =
    let o : Outcome = if is_origin (w.nodes q).role then Events.reached_at w q count reached else Events.apply_at w q count in
    let r : Received = received_step (plain_receiver (w.nodes q)) (Applied count) in
    Guards.at_site_holds (Keeps w) w q (at_work w q o) (keeps_same w)
    (λ _. Guards.at_work_holds (Keeps w) w q o (keeps_same w)
    (λ _ _. by_test (Leaves w) (is_origin (w.nodes q).role) (Events.reached_at w q count reached) (Events.apply_at w q count) (λ _. keeps_same w)
    (λ _. applied_leaves w q r.state r.action)))
outcome_leaves w (Pump p q) s =
    Guards.on_link_holds (Keeps w) has_links w p q _ (keeps_same w)
    (λ _ _ _. Guards.when_live_holds (Keeps w) w q (w.links p q) (done (Events.link_event w p q PumpLink)) (keeps_same w) (moved_leaves w p q PumpLink))
outcome_leaves w (Tick p q) s =
    Guards.on_link_holds (Keeps w) has_links w p q (done (Events.ticked_at w p q)) (keeps_same w) (λ _ _ _. keeps_links w w (keeps_same w) _ (made_link w p q _ refl))
outcome_leaves w (Deliver number) s = deliver_leaves w number s
outcome_leaves w (Connect p q) s =
    let v : World = Events.link_event w p q ConnectLink in
    Guards.on_link_holds (Keeps w) has_links w p q (done (sending v (Events.greeting_back w p q))) (keeps_same w)
    (λ _ _ _. keeps_sending w v (moved_leaves w p q ConnectLink) (Events.greeting_back w p q) (greeting_parts w p q))
outcome_leaves w (Cut p q) s = on_link_leaves w p q CutLink
outcome_leaves w (Pause p q) s = on_link_leaves w p q PauseLink
outcome_leaves w (Resume p q) s = on_link_leaves w p q ResumeLink
outcome_leaves w (Wait p number) s =
    let unconfirmed : Bool = some_below w.sites (λ k. is_unconfirmed number k (w.links p k)) in
    let held : Bool = some_below w.sites (λ k. holds_back number k (w.links p k)) in
    let promised : Outcome = says (promising w (Events.promises_of (w.nodes p) number (w.links p) w.sites)) (DoneAt number) in
    let answered : Outcome = if held then says w (Pending number) else promised in
    let known : Outcome = unless unconfirmed (Unconfirmed number) w answered in
    let o : Outcome = unless (not (is_origin (w.nodes p).role)) WrongRole w
    (unless (eqb number 0 || ltb (w.nodes p).safe number) (Unknown (ByNumber number)) w known) in
    Guards.at_site_holds (Keeps w) w p (at_work w p o) (keeps_same w)
    (λ _. Guards.at_work_holds (Keeps w) w p o (keeps_same w)
    (λ _ _. Guards.unless_holds (Keeps w) (not (is_origin (w.nodes p).role)) WrongRole w _ (keeps_same w)
    (λ _. Guards.unless_holds (Keeps w) (eqb number 0 || ltb (w.nodes p).safe number) (Unknown (ByNumber number)) w known (keeps_same w)
    (λ _. Guards.unless_holds (Keeps w) unconfirmed (Unconfirmed number) w answered (keeps_same w)
    (λ _. by_test (Leaves w) held (says w (Pending number)) promised (λ _. keeps_same w)
    (λ _. keeps_promising w w (keeps_same w) (Events.promises_of (w.nodes p) number (w.links p) w.sites)))))))
outcome_leaves w (Link p q sync prot part) s =
    Guards.at_site_holds (Keeps w) w p _ (keeps_same w)
    (λ _. Guards.at_site_holds (Keeps w) w q _ (keeps_same w)
    (λ _. Guards.both_holds (Keeps w) w p q (link_part part w p q sync prot) (keeps_same w) (λ up there _ _. link_part_leaves part w p q sync prot s up there)))
outcome_leaves w (Set p q sync prot) s = set_leaves w p q (Events.link_with sync prot (w.links p q)) refl
outcome_leaves w (Attach p q) s = set_leaves w p q (Events.link_attached (w.links p q)) refl
outcome_leaves w (Detach p q) s = set_leaves w p q (Events.link_detached (w.links p q)) refl
outcome_leaves w (Crash q kept) s =
    let o : Outcome = done (Events.crash_at w q (Events.kept_of (w.nodes q) kept)) in
    Guards.at_site_holds (Keeps w) w q (unless (not (is_up (w.nodes q).state)) NotUp w o) (keeps_same w)
    (λ _. Guards.unless_holds (Keeps w) (not (is_up (w.nodes q).state)) NotUp w o (keeps_same w)
    (λ up. crash_leaves w q (Events.kept_of (w.nodes q) kept) s (up_is (w.nodes q).state (not-false (is_up (w.nodes q).state) up))))
outcome_leaves w (Fall q) s = Guards.at_site_holds (Keeps w) w q _ (keeps_same w) (λ _. fall_leaves w q (w.nodes q).state refl)
outcome_leaves w (Deport q) s =
    let o : Outcome = done (Events.deport_at w q) in
    Guards.at_site_holds (Keeps w) w q (at_work w q o) (keeps_same w)
    (λ _. Guards.at_work_holds (Keeps w) w q o (keeps_same w) (λ up _. deport_leaves w q s up))
outcome_leaves w (Recover q fails) s = Guards.at_site_holds (Keeps w) w q _ (keeps_same w) (λ _. recover_leaves w q (w.nodes q).state fails refl)
outcome_leaves w (Fault q disk) s =
    Guards.at_site_holds (Keeps w) w q _ (keeps_same w)
    (λ _. Guards.unless_holds (Keeps w) (not (is_up (w.nodes q).state)) NotUp w (says (stopped_by w q disk) _) (keeps_same w)
    (λ _. stopped_leaves w q disk))

-- whatever headers it writes
pub step_leaves : (w : World) (e : Event) → Sound w → Leaves w (step w e)
step_leaves w e s = keeps_headers w (outcome_of w e).world (outcome_leaves w e s) (step w e).world.headers

pub step_good : (w : World) (e : Event) → GoodWorld w → GoodWorld (step w e).world
step_good w e g =
    let k : Keeps w (step w e).world = step_leaves w e g.sound in record { sound = step_keeps w e g.sound; fits = k.fits g.fits; gathers = k.gathers g.gathers; places = k.places g.places }

pub run_good : (w : World) (events : List Event) → GoodWorld w → GoodWorld (run w events)
run_good w [] g = g
run_good w (e ∷ es) g = run_good (step w e).world es (step_good w e g)

places_none : HasPlaces 0 (λ s. no_link)
places_none = record {
  within = λ s linked. absurd (let e : false ≡ true = linked in cc);
  below = λ s place at. absurd (cc);
  apart = λ s t place one two. absurd (cc);
  filled = λ place less. absurd (omega (arith, less));
}

pub empty_good : GoodWorld empty_world
empty_good = record {
  sound = empty_sound;
  fits = record {
    sized = λ i. record { start = λ v. refl; base = λ v. refl; bare = λ _. refl };
    logs = λ i. tt;
    held = λ l. tt;
    alike = λ i made. absurd (made refl);
    alone = λ i made. absurd (made refl);
  };
  gathers = record { parts = tt; each = λ i. tt };
  places = λ p. places_none;
}
