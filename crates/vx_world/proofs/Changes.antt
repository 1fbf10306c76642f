-- Each event keeps what holds of the world.
use Rattle.std.proofs.Common.{◌≡◌, ℕ, ◌+◌, ◌-◌, ◌≤◌, ◌++◌, List, [], ◌∷◌, length, refl, sym, subst, arith, true, false}
use Rattle.std.specs.Prelude.{eqb, min, Some, None, Option}
use Rattle.std.specs.List.{AllByRecursion}
use Rattle.vx_model.specs.Content.{Write}
use Rattle.vx_history.specs.World.{World, Node, Link, History, Hello, NetAck, DataAck, updated, with_node}
use Rattle.vx_model.specs.Sites.{is_origin}
use Rattle.vx_history.specs.Steps.{burned, logged, told_of, written, half_written}
use Rattle.vx_history.specs.Good.{IsMade, IsWorking}
use Rattle.vx_history.specs.GoodCopies.{GoodReplays}
use Rattle.vx_history.specs.Regions.{CoversWrite}
use Rattle.vx_model.specs.declared.link.Mode.TheVariants.{Dcm}
use Rattle.vx_history.proofs.Converting.{covers_after}
use Rattle.vx_history.proofs.Copies.{mode_more}
use Rattle.vx_history.specs.Admission.{Admitted, Held_by, Goes}
use Rattle.vx_history.specs.Receiving.{Received, with_applied, applied_to}
use Rattle.vx_history.specs.LinkForms.{plain_receiver}
use Rattle.vx_model.specs.declared.site.Mark.{Mark}
use Rattle.vx_model.specs.declared.site.Mark.TheVariants.{Consistent}
use Rattle.vx_model.specs.declared.site.SPhase.TheVariants.{Log as ByLog}
use Rattle.vx_model.specs.declared.site.SiteState.TheVariants.{Up}
use Rattle.vx_history.specs.declared.receiver.RState.{RState}
use Rattle.vx_history.specs.declared.receiver.RAction.TheVariants.{Nothing as DoesNothing}
use Rattle.vx_history.proofs.Updates.{by_test, at_place}
use Rattle.vx_history.proofs.GoodLemmas.{good_written, good_half_written, up_is_made, prefix_push}
use Rattle.vx_history.specs.Sends.{packets_of, greeting}
use Rattle.vx_history.specs.Events
use Rattle.vx_history.specs.Sound.{LosesNothing, GoodPacket, CameTo, KnownNode, Sound}
use Rattle.vx_world.proofs.Lists.{prefix_refl, not_both}
use Rattle.vx_world.proofs.Moves.{sound_sending, sound_with_links, sound_with_node, sound_with_history, good_later, at_changed}
use Rattle.vx_world.proofs.Carry.{LinkSays}
use Rattle.vx_world.proofs.Tests.{Keeps, unless_keeps}
use Rattle.vx_world.proofs.Guards.{rest_up}
use Rattle.vx_world.proofs.Nodes
use Rattle.vx_world.proofs.Links

-- ## Writes

-- an origin says nothing as a receiver
pub origin_known : (w : World) (i : ℕ) (n : Node) → is_origin n.role ≡ true → KnownNode w.nodes w.links i n
origin_known w i n o = λ _ r _. not_both (is_origin n.role) o r

pub up_whole : (n : Node) → n.state ≡ Up → LosesNothing n
up_whole n up rest = absurd (rest_up n.state rest up)

pub links_changed_keeps : (w : World) (p : ℕ) (x : Write) → Sound w → Sound (Events.links_changed w p x)
links_changed_keeps w p x s =
    sound_with_links w p (λ k. Events.link_after (w.nodes p) x k (w.links p k)) s
    (λ k. Links.link_changed w.lines p k (w.nodes p) (w.nodes k) x (w.links p k) (s.good.nodes p) (s.good.nodes k) (s.good.replays (w.nodes p).line k) (s.links p k))
    (λ k is. is)
    (λ _ k is. is)

-- the maps that links keep get the regions of writes
pub links_marked_keeps : (w : World) (p : ℕ) (xs : List Write) → Sound w → Sound (Events.links_marked w p xs)
links_marked_keeps w p xs s =
    sound_with_links w p (λ k. Events.link_marked xs (w.links p k)) s
    (λ k. Links.link_with_marks (w.lines (w.nodes p).line) p k (w.nodes p) (w.nodes k) xs (w.links p k) (s.links p k))
    (λ k is. is)
    (λ _ k is. is)

-- a link whose map covers what its line holds more says of that line what it said
pub feeds_more : (h : History) (ys : List Write) (told q : ℕ) (b : Node) (l : Link) → GoodReplays h.held (h.replays q)
    → (l.mode ≡ Dcm → AllByRecursion (CoversWrite l.map) ys) → LinkSays h q b l → LinkSays (record h { held = h.held ++ ys; told = told }) q b l
feeds_more h ys told q b l table covers says = mode_more h.held ys (h.replays q) table b l.map l.stored l.mode covers says

-- the maps of a site's links cover these writes
abbrev pub AreMarked : World → ℕ → List Write → Type 0
AreMarked w p xs = (q : ℕ) → (w.links p q).mode ≡ Dcm → AllByRecursion (CoversWrite (w.links p q).map) xs

pub are_marked : (w : World) (p : ℕ) (xs : List Write) → AreMarked (Events.links_marked w p xs) p xs
are_marked w p xs q =
    subst (λ (row : ℕ → Link). (row q).mode ≡ Dcm → AllByRecursion (CoversWrite (row q).map) xs) (sym (at_place w.links p (λ k. Events.link_marked xs (w.links p k))))
    (covers_after (w.links p q).map xs (w.links p q).mode)

written_keeps : (w : World) (p : ℕ) (x : Write) → Sound w → IsWorking (w.nodes p) → AreMarked w p (x ∷ []) → Sound (written w p x)
written_keeps w p x s works marks =
    let n : Node = w.nodes p in
    let h : History = w.lines n.line in
    sound_with_history w p (logged n x) (told_of h x) s
    (good_written w p x s.good works)
    (Nodes.later_logged n x)
    (up_is_made n works.up)
    works.origin
    (prefix_push h.held h.held (x ∷ []) (prefix_refl h.held))
    (up_whole (logged n x) works.up)
    (s.fed p)
    (s.takes p)
    (λ _ _ _ _. (s.good.nodes p).origin_mark works.origin)
    (s.newest p)
    (s.stands p)
    (λ q _ says. feeds_more h (x ∷ []) (length h.held + 1) q (w.nodes q) (w.links p q) (s.good.replays n.line q) (marks q) says)
    (origin_known w p (logged n x) works.origin)
    (λ k. s.unbegun n.line k)

half_written_keeps : (w : World) (p : ℕ) (x : Write) (disk : ℕ) → Sound w → IsWorking (w.nodes p) → Sound (half_written w p x disk)
half_written_keeps w p x disk s works =
    let m : Node = record (w.nodes p) { log = (w.nodes p).log ++ x ∷ []; halted = Some disk; fuse = burned (w.nodes p).fuse } in
    sound_with_node w p m s
    (good_half_written w p x disk s.good works)
    (Nodes.later_longer (w.nodes p) x (Some disk) (burned (w.nodes p).fuse))
    (up_whole m works.up)
    (s.fed p)
    (s.takes p)
    (λ _ none. absurd (cc))
    (s.newest p)
    (s.stands p)
    (λ r l. not_both (is_origin m.role) works.origin r)
    (origin_known w p m works.origin)

put_in_keeps : (w : World) (p : ℕ) (x : Write) (fails : Option ℕ) → Sound w → IsWorking (w.nodes p) → Keeps (Events.put_in w p x fails)
put_in_keeps w p x None s works = written_keeps (Events.links_marked w p (x ∷ [])) p x (links_marked_keeps w p (x ∷ []) s) works (are_marked w p (x ∷ []))
put_in_keeps w p x (Some disk) s works = half_written_keeps w p x disk s works

pub written_if_keeps : (admitted : Admitted) (w : World) (p : ℕ) (x : Write) (fails : Option ℕ) → Sound w → IsWorking (w.nodes p)
    → Keeps (Events.written_if admitted w p x fails)
written_if_keeps (Held_by why) w p x fails s works = s
written_if_keeps (Goes changes) w p x fails s works =
    unless_keeps _ _ w _ s (λ _. put_in_keeps (Events.links_changed w p x) p x fails (links_changed_keeps w p x s) works)

-- ## What sites say

module _ (v : World) (q t : ℕ) (s : Sound v) (made : IsMade (v.nodes q)) where
  line_came : CameTo v.nodes (v.nodes q).line q
  line_came = s.stands q made

  -- a receiver tells what it has
  pub greeting_good : is_origin (v.nodes q).role ≡ false → (v.nodes q).state ≡ Up → (v.nodes q).halted ≡ None
      → AllByRecursion (GoodPacket v.nodes v.links v.lines) (greeting q t (v.nodes q))
  greeting_good r up runs =
      Links.each_packet (GoodPacket v.nodes v.links v.lines) q t (v.nodes q).line (Hello (v.nodes q).session (length (v.nodes q).log) (v.nodes q).safe)
      (λ _. record {
        said = (omega arith, λ _ _. omega arith, λ _. (omega arith, s.marked q up runs));
        known = λ g. (s.known q made r g, omega (arith, (s.good.nodes q).safe_fits, s.known q made r g));
        came = line_came;
      })

  -- and acknowledges what it has on disk, or in memory
  pub disk_good : is_origin (v.nodes q).role ≡ false → (v.nodes q).state ≡ Up → (v.nodes q).halted ≡ None
      → AllByRecursion (GoodPacket v.nodes v.links v.lines) (packets_of q t (v.nodes q).line (DataAck (v.nodes q).safe))
  disk_good r up runs =
      Links.each_packet (GoodPacket v.nodes v.links v.lines) q t (v.nodes q).line (DataAck (v.nodes q).safe)
      (λ _. record {
        said = λ _. (omega arith, s.marked q up runs);
        known = λ g. omega (arith, (s.good.nodes q).safe_fits, s.known q made r g);
        came = line_came;
      })

  pub memory_good : (number : ℕ) → is_origin (v.nodes q).role ≡ false → number ≤ length (v.nodes q).log
      → AllByRecursion (GoodPacket v.nodes v.links v.lines) (packets_of q t (v.nodes q).line (NetAck (v.nodes q).session number))
  memory_good number r has =
      Links.each_packet (GoodPacket v.nodes v.links v.lines) q t (v.nodes q).line (NetAck (v.nodes q).session number)
      (λ _. record {
        said = (omega arith, λ _ _. has);
        known = λ g. omega (arith, has, s.known q made r g);
        came = line_came;
      })

-- ## Records that are applied

acknowledged_keeps : (w : World) (q : ℕ) (n : Node) → Sound w → Sound (with_node w q n) → IsMade n → is_origin n.role ≡ false
    → n.state ≡ Up → n.halted ≡ None → Sound (Events.acknowledged w q n)
acknowledged_keeps w q n s v made r up runs =
    sound_sending (with_node w q n) (packets_of q n.fed_by n.line (DataAck n.safe)) v
    (subst (λ (x : Node). AllByRecursion (GoodPacket (updated w.nodes q n) w.links w.lines) (packets_of q n.fed_by x.line (DataAck x.safe)))
    (at_place w.nodes q n)
    (disk_good (with_node w q n) q n.fed_by v (at_changed IsMade w.nodes q n made) (at_changed (λ (x : Node). is_origin x.role ≡ false) w.nodes q n r)
    (at_changed (λ (x : Node). x.state ≡ Up) w.nodes q n up) (at_changed (λ (x : Node). x.halted ≡ None) w.nodes q n runs)))

pub apply_keeps : (w : World) (q count : ℕ) → Sound w → (w.nodes q).state ≡ Up → (w.nodes q).halted ≡ None → is_origin (w.nodes q).role ≡ false → Keeps (Events.apply_at w q count)
apply_keeps w q count s up runs r =
    let n : Node = w.nodes q in
    let p : RState = plain_receiver n in
    let left : ℕ = p.waiting - count in
    by_test (λ (x : Received). Keeps (Events.applied_by w q x.state x.action)) (eqb (min count p.waiting) 0) (record { state = p; action = DoesNothing })
    (with_applied p left)
    (λ _. s)
    (λ _. Nodes.mark_rises (record p { waiting = left }) (applied_to p.last left)
    (λ (x : RState). Sound (Events.acknowledged w q (Events.applied n (applied_to p.last left) x.mark)))
    (λ mark marks ends only. each mark marks ends only (omega (arith, (s.good.nodes q).safe_fits)) (omega arith)))
  where
    each : (mark : Mark) → ((w.nodes q).mark ≡ Consistent → mark ≡ Consistent)
        → ((w.nodes q).phase ≡ ByLog → (w.nodes q).end ≤ applied_to (length (w.nodes q).log) (length (w.nodes q).log - (w.nodes q).safe - count)
        → mark ≡ Consistent)
        → Nodes.MayMark (w.nodes q) (applied_to (length (w.nodes q).log) (length (w.nodes q).log - (w.nodes q).safe - count)) mark
        → (w.nodes q).safe ≤ applied_to (length (w.nodes q).log) (length (w.nodes q).log - (w.nodes q).safe - count)
        → applied_to (length (w.nodes q).log) (length (w.nodes q).log - (w.nodes q).safe - count) ≤ length (w.nodes q).log
        → Sound (Events.acknowledged w q (Events.applied (w.nodes q) (applied_to (length (w.nodes q).log) (length (w.nodes q).log - (w.nodes q).safe - count)) mark))
    each mark marks ends only least most =
        let n : Node = w.nodes q in
        let k : ℕ = applied_to (length n.log) (length n.log - n.safe - count) in
        let made : IsMade n = up_is_made n up in
        let m : Node = Events.applied n k mark in
        acknowledged_keeps w q m s
        (sound_with_node w q m s
        (good_later w q m s.good made refl (λ is. is) (Nodes.good_applied (w.lines n.line) q k mark n (s.good.replays n.line q) made r least most marks only (s.good.nodes q)))
        (Nodes.later_applied n k mark least marks)
        (up_whole m up)
        (s.fed q)
        (s.takes q)
        (λ _ _. ends)
        (s.newest q)
        (s.stands q)
        (λ _. Nodes.fed_applied (w.lines n.line) q k mark n (s.good.replays n.line q) made r least most marks only (s.good.nodes q))
        (λ is not g. s.known q made not g))
        made r up runs
