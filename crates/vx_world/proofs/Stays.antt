-- Every event keeps what holds of the world, and so does every list of events.
use Rattle.std.proofs.Common.{◌≡◌, ℕ, ◌<◌, List, [], ◌∷◌, refl, ap, sym, ◌∙◌, arith, true, false}
use Rattle.std.proofs.lemmas.Bool.{not-false}
use Rattle.std.specs.Prelude.{leb, not, if◌then◌else◌, Option}
use Rattle.std.proofs.lemmas.Bool.Decides.{nat_tests}
use Rattle.vx_model.specs.Content.{Write, blocks_in}
use Rattle.vx_model.specs.Answer.{is_too_large}
use Rattle.vx_history.specs.World.{World, Link as LinkRecord, empty_world, no_history}
use Rattle.vx_model.specs.Sites.{is_origin}
use Rattle.vx_history.specs.Steps.{raw_made}
use Rattle.vx_model.specs.declared.site.SiteState.{SiteState}
use Rattle.vx_model.specs.declared.site.SiteState.TheVariants.{Bare, Up, Deported, Down}
use Rattle.vx_model.specs.declared.no.No.TheVariants.{Size, Role as WrongRole, Down as NotUp}
use Rattle.vx_history.specs.LinkForms.{plain_link}
use Rattle.vx_model.specs.declared.link.Link.{Link as PlainLink}
use Rattle.vx_history.proofs.Updates.{by_test}
use Rattle.vx_history.proofs.GoodLemmas.{good_empty}
use Rattle.vx_history.proofs.StateCases.{bare_is, up_is}
use Rattle.vx_history.specs.declared.event.Event.{Event}
use Rattle.vx_history.specs.declared.event.Event.TheVariants.{Site, Raw, Group, Volumes, Write as WriteAt, Read, Apply, Pump, Tick, Deliver, Connect, Cut, Pause, Resume, Wait, Link, Set, Attach, Detach, Crash, Deport, Fall, Recover, Fault}
use Rattle.vx_history.specs.Refusals.{Outcome, unless, at_work, keeps_links, on_link_if}
use Rattle.vx_model.specs.Sites.{is_up, is_bare}
use Rattle.vx_model.specs.Sizes.{is_raw_shape}
use Rattle.vx_history.specs.Events
use Rattle.vx_history.specs.Step.{done, outcome_of, step, run, link_part, write_at}
use Rattle.vx_history.specs.Sends.{is_linked, with_link}
use Rattle.vx_history.specs.Sound.{GoodLink, Sound, is_at_rest}
use Rattle.vx_world.proofs.Moves.{sound_headers, sound_with_link, unlinked_good}
use Rattle.vx_world.proofs.Tests.{Keeps, unless_keeps, at_site_keeps, at_work_keeps, both_keeps, on_link_keeps, when_live_keeps, on_volume_keeps}
use Rattle.vx_world.proofs.Guards.{primary_origin}
use Rattle.vx_world.proofs.Changes.{written_if_keeps, apply_keeps}
use Rattle.vx_world.proofs.Feeds.{quiet_keeps, pump_keeps, connect_keeps, deliver_keeps, wait_keeps}
use Rattle.vx_world.proofs.Crashes.{again_keeps, crash_keeps, deport_keeps, fall_keeps, recover_keeps, fault_keeps}
use Rattle.vx_history.specs.Volumes.{volumes_made}
use Rattle.vx_world.proofs.Volumed.{volumes_keeps}
use Rattle.vx_world.proofs.Joins.{may_be_site_keeps, raw_keeps, group_keeps, link_part_keeps}
use Rattle.vx_world.proofs.Links

less : (a b : ℕ) → leb a b ≡ false → b < a
less a b e = grind (arith, nat_tests)

write_keeps : (w : World) (p : ℕ) (x : Write) (fails : Option ℕ) → Sound w → Keeps (write_at w p x fails)
write_keeps w p x fails s =
    on_volume_keeps w p x.volume x.start (blocks_in x.bytes) (is_too_large (w.nodes p).ring (blocks_in x.bytes))
    (Events.written_if (Events.admitted w p x) w p x fails) s
    (λ up runs r. written_if_keeps (Events.admitted w p x) w p x fails s (record { up = up; origin = primary_origin (w.nodes p).role r; running = runs }))

group_from_keeps : (w : World) (q : ℕ) (state : SiteState) → Sound w → q < w.sites → (w.nodes q).state ≡ state → Keeps (Events.group_from state w q)
group_from_keeps w q Bare s there e = group_keeps w q s there e
group_from_keeps w q Up s there e = s
group_from_keeps w q Deported s there e = again_keeps w q s (ap is_at_rest e)
group_from_keeps w q Down s there e = again_keeps w q s (ap is_at_rest e)

-- a link of an origin is set, attached or detached
set_keeps : (w : World) (p q : ℕ) (l : LinkRecord) → Sound w → is_linked l ≡ is_linked (w.links p q)
    → GoodLink (w.lines (w.nodes p).line) p q (w.nodes p) (w.nodes q) l → Keeps (on_link_if is_origin w p q (done (with_link w p q l)))
set_keeps w p q l s same good =
    on_link_keeps is_origin w p q (done (with_link w p q l)) s (λ _ _ _. sound_with_link w p q l s good (λ is. same ∙ is) (λ _ is. sym same ∙ is))

-- every event keeps it
outcome_keeps : (w : World) (e : Event) → Sound w → Sound (outcome_of w e).world
outcome_keeps w (Site name disks blocks) s = may_be_site_keeps w name disks blocks s
outcome_keeps w (Raw q) s =
    let o : Outcome = done (raw_made w q) in
    let shaped : Outcome = unless (not (is_raw_shape (w.nodes q).disks (w.nodes q).blocks)) Size w o in
    at_site_keeps w q (unless (not (is_bare (w.nodes q).state)) WrongRole w shaped) s
    (λ there. unless_keeps (not (is_bare (w.nodes q).state)) WrongRole w shaped s
    (λ bare. unless_keeps (not (is_raw_shape (w.nodes q).disks (w.nodes q).blocks)) Size w o s
    (λ _. raw_keeps w q s (less w.sites q there) (bare_is (w.nodes q).state (not-false (is_bare (w.nodes q).state) bare)))))
outcome_keeps w (Group q) s = at_site_keeps w q _ s (λ there. group_from_keeps w q (w.nodes q).state s (less w.sites q there) refl)
outcome_keeps w (Volumes q log xs) s =
    let o : Outcome = done (volumes_made w q log xs) in
    let tested : Outcome = unless (not (Events.is_plain_group (w.nodes q))) WrongRole w o in
    at_site_keeps w q (at_work w q tested) s
    (λ _. at_work_keeps w q tested s
    (λ up _. unless_keeps (not (Events.is_plain_group (w.nodes q))) WrongRole w o s
    (λ plain. volumes_keeps w q log xs s up (not-false (Events.is_plain_group (w.nodes q)) plain))))
outcome_keeps w (WriteAt p volume start bytes fails) s = write_keeps w p (record { volume = volume; start = start; bytes = bytes }) fails s
outcome_keeps w (Read p volume start count) s = on_volume_keeps w p volume start count false _ s (λ _ _ _. s)
outcome_keeps w (Apply q count reached) s =
    let o : Outcome = if is_origin (w.nodes q).role then Events.reached_at w q count reached else Events.apply_at w q count in
    at_site_keeps w q (at_work w q o) s
    (λ _. at_work_keeps w q o s
    (λ up runs. by_test Keeps (is_origin (w.nodes q).role) (Events.reached_at w q count reached) (Events.apply_at w q count) (λ _. s)
    (λ r. apply_keeps w q count s up runs r)))
outcome_keeps w (Pump p q) s =
    on_link_keeps keeps_links w p q _ s (λ up _ linked. when_live_keeps w q (w.links p q) _ s (pump_keeps w p q s up linked))
outcome_keeps w (Tick p q) s =
    let l : LinkRecord = Events.ticked_link w p q in
    on_link_keeps keeps_links w p q (done (with_link w p q l)) s
    (λ _ _ _. sound_with_link w p q l s (Links.link_like (w.lines (w.nodes p).line) p q (w.nodes p) (w.nodes q) (w.links p q) l refl refl refl refl (λ says. says) (s.links p q))
    (λ is. is) (λ _ is. is))
outcome_keeps w (Deliver number) s = deliver_keeps w number s
outcome_keeps w (Connect p q) s = on_link_keeps keeps_links w p q _ s (λ _ _ _. connect_keeps w p q s)
outcome_keeps w (Cut p q) s =
    let l : PlainLink = plain_link q (w.links p q) in on_link_keeps keeps_links w p q _ s (λ _ _ _. quiet_keeps w p q false l.paused l.sent l.trimmed s)
outcome_keeps w (Pause p q) s =
    let l : PlainLink = plain_link q (w.links p q) in on_link_keeps keeps_links w p q _ s (λ _ _ _. quiet_keeps w p q l.connected true l.sent l.trimmed s)
outcome_keeps w (Resume p q) s =
    let l : PlainLink = plain_link q (w.links p q) in on_link_keeps keeps_links w p q _ s (λ _ _ _. quiet_keeps w p q l.connected false l.sent l.trimmed s)
outcome_keeps w (Wait p number) s =
    let o : Outcome = unless (not (is_origin (w.nodes p).role)) WrongRole w (Events.waited w p number) in
    at_site_keeps w p (at_work w p o) s
    (λ _. at_work_keeps w p o s
    (λ up _. unless_keeps (not (is_origin (w.nodes p).role)) WrongRole w (Events.waited w p number) s
    (λ o. wait_keeps w p number s up (not-false (is_origin (w.nodes p).role) o))))
outcome_keeps w (Link p q sync prot part) s =
    at_site_keeps w p _ s
    (λ _. at_site_keeps w q _ s (λ _. both_keeps w p q (link_part part w p q sync prot) s (λ up_p up_q _ runs_q. link_part_keeps part w p q sync prot s up_p up_q runs_q)))
outcome_keeps w (Set p q sync prot) s =
    let l : LinkRecord = Events.link_with sync prot (w.links p q) in
    set_keeps w p q l s refl (Links.link_like (w.lines (w.nodes p).line) p q (w.nodes p) (w.nodes q) (w.links p q) l refl refl refl refl (λ says. says) (s.links p q))
outcome_keeps w (Attach p q) s =
    let l : LinkRecord = Events.link_attached (w.links p q) in
    set_keeps w p q l s refl (Links.link_like (w.lines (w.nodes p).line) p q (w.nodes p) (w.nodes q) (w.links p q) l refl refl refl refl (λ says. says) (s.links p q))
outcome_keeps w (Detach p q) s =
    let l : LinkRecord = Events.link_detached (w.links p q) in
    set_keeps w p q l s refl (Links.link_like (w.lines (w.nodes p).line) p q (w.nodes p) (w.nodes q) (w.links p q) l refl refl refl refl (λ _. tt) (s.links p q))
outcome_keeps w (Crash q kept) s =
    let o : Outcome = done (Events.crash_at w q (Events.kept_of (w.nodes q) kept)) in
    at_site_keeps w q (unless (not (is_up (w.nodes q).state)) NotUp w o) s
    (λ _. unless_keeps (not (is_up (w.nodes q).state)) NotUp w o s
    (λ up. crash_keeps w q kept s (up_is (w.nodes q).state (not-false (is_up (w.nodes q).state) up))))
outcome_keeps w (Fall q) s = at_site_keeps w q _ s (λ _. fall_keeps w q (w.nodes q).state s refl)
outcome_keeps w (Deport q) s =
    let o : Outcome = done (Events.deport_at w q) in
    at_site_keeps w q (at_work w q o) s (λ _. at_work_keeps w q o s (λ up _. deport_keeps w q s up))
outcome_keeps w (Recover q fails) s = at_site_keeps w q _ s (λ _. recover_keeps w q (w.nodes q).state fails s refl)
outcome_keeps w (Fault q disk) s =
    at_site_keeps w q _ s
    (λ _. unless_keeps (not (is_up (w.nodes q).state)) NotUp w _ s
    (λ up. fault_keeps w q disk s (up_is (w.nodes q).state (not-false (is_up (w.nodes q).state) up))))

-- whatever headers it writes
pub step_keeps : (w : World) (e : Event) → Sound w → Sound (step w e).world
step_keeps w e s = sound_headers (outcome_of w e).world (step w e).world.headers (outcome_keeps w e s)

pub run_keeps : (w : World) (events : List Event) → Sound w → Sound (run w events)
run_keeps w [] s = s
run_keeps w (e ∷ es) s = run_keeps (step w e).world es (step_keeps w e s)

pub empty_sound : Sound empty_world
empty_sound = record {
  good = good_empty;
  whole = λ _ _. omega arith;
  fed = λ _ r. absurd (cc);
  takes = λ _. refl;
  newest = λ _ _. refl;
  stands = λ _ made. absurd (made refl);
  come = λ _. tt;
  marked = λ _ up. absurd (let e : Bare ≡ Up = up in cc);
  bunkers = λ p q is. absurd (let e : false ≡ true = is in cc);
  links = λ p q. unlinked_good no_history p q (empty_world.nodes p) (empty_world.nodes q) (empty_world.links p q) (λ e. cc);
  packets = tt;
  promised = tt;
  known = λ i made. absurd (made refl);
  unbegun = λ l s. refl;
}
