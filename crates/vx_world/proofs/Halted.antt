-- What the events that a disk or a fuse ends leave of a good world, and of its halted site as it may be.
use Rattle.std.proofs.Common.{◌≡◌, ◌∙◌, ℕ, ◌<◌, List, [], ◌∷◌, ◌++◌, ap, sym, subst, refl}
use Rattle.std.specs.Prelude.{Some, None, not, ◌||◌, leb, length}
use Rattle.vx_model.specs.Content.{Write as LogWrite, blocks_in}
use Rattle.vx_model.specs.Answer.{is_too_large, is_wrong_count, is_past}
use Rattle.vx_model.specs.Sites.{is_up, is_bare}
use Rattle.vx_model.specs.declared.limits.TheConstants.{MOST_NUMBER}
use Rattle.vx_model.specs.declared.site.SiteState.TheVariants.{Up}
use Rattle.vx_history.proofs.Behind.{after_of}
use Rattle.vx_history.proofs.Updates.{at_place}
use Rattle.vx_history.specs.Admission.{Admitted, Held_by, Goes}
use Rattle.vx_history.specs.World.{Node, World}
use Rattle.vx_history.specs.Doubts.{After, Doubted, resolved, halved}
use Rattle.vx_history.specs.Events.{admitted, written_if, link_after, link_attached, link_detached, link_with, links_changed}
use Rattle.vx_history.specs.Likes.{IsLike}
use Rattle.vx_history.specs.Refusals.{is_primary, is_running}
use Rattle.vx_history.specs.Step.{outcome_of, step}
use Rattle.vx_history.specs.Steps.{stopped_by, half_written, burned}
use Rattle.vx_history.specs.Stops.{WritesAt, IsPartAt}
use Rattle.vx_history.specs.GoodWorld.{GoodWorld}
use Rattle.vx_history.specs.declared.event.Event.{Event}
use Rattle.vx_history.specs.declared.event.Event.TheVariants.{Site, Raw, Group, Volumes, Write, Read, Apply, Pump, Tick, Deliver, Connect, Cut, Pause, Resume, Wait, Link, Set, Attach, Detach, Crash, Deport, Fall, Recover, Fault}
use Rattle.vx_history.specs.declared.event.LinkPart.{LinkPart}
use Rattle.vx_history.specs.declared.event.LinkPart.TheVariants.{Joins, Made, Marked, Opened}
use Rattle.vx_world.specs.Twins.{GoodTwin, IsAlone}
use Rattle.vx_world.proofs.Alone.{same, tested, runs, one_node, counted_alone, set_alone, heard_by, joins_alone, made_alone, marked_alone, opened_alone}
use Rattle.vx_world.proofs.Halving.{aside, half, half_good}
use Rattle.vx_world.proofs.Liking.{good_like}
use Rattle.vx_world.proofs.Several.{like_resolved}
use Rattle.vx_world.proofs.Whole.{step_good}

-- ## Events that a disk or a fuse ends

-- a write that a disk ended
module _ (w : World) (p : ℕ) (up : (w.nodes p).state ≡ Up) where
  half_alone : (x : LogWrite) (disk : ℕ) → IsAlone p w (half_written (links_changed w p x) p x disk)
  half_alone x disk =
      let n : Node = record (w.nodes p) { log = (w.nodes p).log ++ x ∷ []; halted = Some disk; fuse = burned (w.nodes p).fuse } in record {
        sites = refl;
        nodes = λ i apart. aside w.nodes p n i apart;
        rows = λ i apart. aside w.links p (λ k. link_after (w.nodes p) x k (w.links p k)) i apart;
        lines = refl;
        packets = refl;
        promised = refl;
        gathering = λ _ _. refl;
        name = ap (λ (m : Node). m.name) (at_place w.nodes p n);
        up = ap (λ (m : Node). m.state) (at_place w.nodes p n) ∙ up;
      }

  written_alone : (a : Admitted) (x : LogWrite) (disk : ℕ) → IsAlone p w (written_if a w p x (Some disk)).world
  written_alone (Held_by why) x disk = same w p up
  written_alone (Goes changes) x disk = tested w p up (leb MOST_NUMBER (w.nodes p).safe) _ _ (half_alone x disk)

  write_alone : (volume start : ℕ) (bytes : List ℕ) (disk : ℕ) → IsAlone p w (outcome_of w (Write p volume start bytes (Some disk))).world
  write_alone volume start bytes disk =
      let x : LogWrite = record { volume = volume; start = start; bytes = bytes } in
      tested w p up (leb w.sites p) _ _
      (tested w p up (is_bare (w.nodes p).state) _ _ (tested w p up (not (is_up (w.nodes p).state)) _ _ (runs w p up (w.nodes p).halted _
      (tested w p up (not (is_primary (w.nodes p).role)) _ _ (tested w p up (leb (length (w.nodes p).volumes) volume) _ _
      (tested w p up (is_wrong_count (blocks_in bytes) || is_too_large (w.nodes p).ring (blocks_in bytes)) _ _
      (tested w p up (is_past (w.nodes p).base volume start (blocks_in bytes)) _ _ (written_alone (admitted w p x) x disk))))))))

  fault_alone : (disk : ℕ) → IsAlone p w (outcome_of w (Fault p disk)).world
  fault_alone disk =
      tested w p up (leb w.sites p) _ _ (tested w p up (not (is_up (w.nodes p).state)) _ _
      (one_node w p up (record (w.nodes p) { halted = Some disk; fuse = burned (w.nodes p).fuse }) refl up))

part_alone : (w : World) (site p q : ℕ) (part : LinkPart) → (w.nodes site).state ≡ Up → IsPartAt part p q site → (sync : _) (prot : _)
    → IsAlone site w (outcome_of w (Link p q sync prot part)).world
part_alone w site p q Joins up e = λ sync prot. subst (λ (i : ℕ). IsAlone site w (outcome_of w (Link p i sync prot Joins)).world) (sym e) (joins_alone w site up p sync prot)
part_alone w site p q Made up e = λ sync prot. subst (λ (i : ℕ). IsAlone site w (outcome_of w (Link i q sync prot Made)).world) (sym e) (made_alone w site up q sync prot)
part_alone w site p q Marked up e = λ sync prot. subst (λ (i : ℕ). IsAlone site w (outcome_of w (Link p i sync prot Marked)).world) (sym e)
    (marked_alone w site up p sync prot)
part_alone w site p q Opened up e = λ sync prot. subst (λ (i : ℕ). IsAlone site w (outcome_of w (Link i q sync prot Opened)).world) (sym e)
    (opened_alone w site up q sync prot)

writes_alone : (w : World) (e : Event) (site : ℕ) → (w.nodes site).state ≡ Up → WritesAt w e site → IsAlone site w (outcome_of w e).world
writes_alone w (Site name disks blocks) site up at = absurd at
writes_alone w (Raw p) site up at = absurd at
writes_alone w (Group p) site up at = absurd at
writes_alone w (Volumes p log xs) site up at = absurd at
writes_alone w (Write p volume start bytes None) site up at = absurd at
writes_alone w (Write p volume start bytes (Some disk)) site up at =
    subst (λ (i : ℕ). IsAlone site w (outcome_of w (Write i volume start bytes (Some disk))).world) (sym at) (write_alone w site up volume start bytes disk)
writes_alone w (Read p volume start count) site up at = absurd at
writes_alone w (Apply p count reached) site up at = absurd at
writes_alone w (Pump p q) site up at = absurd at
writes_alone w (Tick p q) site up at = absurd at
writes_alone w (Deliver number) site up at = heard_by w site up number at.0 at.1 at.2 at.3
writes_alone w (Connect p q) site up at = absurd at
writes_alone w (Cut p q) site up at = absurd at
writes_alone w (Pause p q) site up at = absurd at
writes_alone w (Resume p q) site up at = absurd at
writes_alone w (Wait p number) site up at = absurd at
writes_alone w (Link p q sync prot part) site up at = part_alone w site p q part up at sync prot
writes_alone w (Set p q sync prot) site up at = subst (λ (i : ℕ). IsAlone site w (outcome_of w (Set i q sync prot)).world) (sym at) (set_alone w site up q (λ l. link_with sync prot l))
writes_alone w (Attach p q) site up at = subst (λ (i : ℕ). IsAlone site w (outcome_of w (Attach i q)).world) (sym at) (set_alone w site up q link_attached)
writes_alone w (Detach p q) site up at = subst (λ (i : ℕ). IsAlone site w (outcome_of w (Detach i q)).world) (sym at) (set_alone w site up q link_detached)
writes_alone w (Crash p kept) site up at = absurd at
writes_alone w (Deport p) site up at = absurd at
writes_alone w (Fall p) site up at = absurd at
writes_alone w (Recover p fails) site up at = absurd at
writes_alone w (Fault p disk) site up at = subst (λ (i : ℕ). IsAlone site w (outcome_of w (Fault i disk)).world) (sym at) (fault_alone w site up disk)

-- headers that are counted, and other notes, are no matter
pub like_counted : (w : World) (h : ℕ → ℕ) → IsLike w (record w { headers = h })
like_counted w h = record {
  sites = refl;
  nodes = λ i. refl;
  links = λ p q. record { linked = refl; same = λ _. refl };
  lines = λ l. refl;
  packets = refl;
  promised = refl;
  gathering = λ i. refl;
}

twin_like : (s : ℕ) (w v : World) (a : After) → GoodTwin s w (resolved w s a) → IsLike w v → GoodTwin s v (resolved v s a)
twin_like s w v a t like = record {
  twin = record {
    sites = refl;
    nodes = λ i apart. aside v.nodes s a.node i apart;
    rows = λ i apart. aside v.links s a.row i apart;
    lines = refl;
    packets = refl;
    promised = refl;
    gathering = λ i. refl;
    here = subst (λ (n : ℕ). s < n) (sym like.sites) t.twin.here;
    name = ap (λ (n : Node). n.name) (at_place v.nodes s a.node) ∙ sym (ap (λ (n : Node). n.name) (at_place w.nodes s a.node)) ∙ t.twin.name ∙ sym
        (ap (λ (n : Node). n.name) (like.nodes s));
    up = ap (λ (n : Node). n.state) (like.nodes s) ∙ t.twin.up;
    up_too = ap (λ (n : Node). n.state) (at_place v.nodes s a.node) ∙ sym (ap (λ (n : Node). n.state) (at_place w.nodes s a.node)) ∙ t.twin.up_too;
    halted = ap (λ (n : Node). is_running n.halted) (like.nodes s) ∙ t.twin.halted;
    halted_too = ap (λ (n : Node). is_running n.halted) (at_place v.nodes s a.node) ∙ sym
        (ap (λ (n : Node). is_running n.halted) (at_place w.nodes s a.node)) ∙ t.twin.halted_too;
  };
  good = good_like w v t.good like;
  good_too = good_like (resolved w s a) (resolved v s a) t.good_too (like_resolved w v s a like);
}

pub halved_good : (d : Doubted) (e : Event) (site disk : ℕ) → GoodWorld d.world → (d.world.nodes site).state ≡ Up → WritesAt d.world e site
    → GoodTwin site (halved d e site disk).world (resolved (halved d e site disk).world site (after_of d e site disk))
halved_good d e site disk g up at =
    let w : World = d.world in
    let u : World = (step w e).world in
    let t : GoodTwin site (stopped_by w site disk) (resolved (stopped_by w site disk) site (record { node = half (u.nodes site) disk; row = u.links site })) =
    half_good site disk w u g (step_good w e g) up (counted_alone w site e (writes_alone w e site up at)) in
    twin_like site (stopped_by w site disk) (halved d e site disk).world (after_of d e site disk)
    (subst (λ (n : Node). GoodTwin site (stopped_by w site disk) (resolved (stopped_by w site disk) site (record { node = n; row = u.links site })))
    (sym (at_place u.nodes site (half (u.nodes site) disk))) t)
    (like_counted (stopped_by w site disk) u.headers)
