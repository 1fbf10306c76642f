-- Crashes, recoveries and halts keep what holds of the world.
use Rattle.std.proofs.Common.{◌≡◌, ℕ, ◌+◌, ◌≤◌, ◌++◌, List, [], length, take, drop, refl, ap, sym, ◌∙◌, subst, arith, Bool, true, false}
use Rattle.std.proofs.lemmas.Bool.{not-false}
use Rattle.std.specs.Prelude.{Option, Some, None, eqb, if◌then◌else◌, not}
use Rattle.std.proofs.Math.Path.{fun_ext}
use Rattle.std.specs.List.{AllByRecursion}
use Rattle.std.proofs.lemmas.List.{length-take, take-append-drop, take-take}
use Rattle.vx_model.specs.Content.{IsPrefixOf, Write}
use Rattle.vx_history.specs.World.{World, Fuse, History, Link, NoFuse, Node, updated, with_node}
use Rattle.vx_model.specs.Sites.{is_origin}
use Rattle.vx_history.specs.Steps.{burned, crashed, crash_left, deported_site, deported_world, fallen_site, fallen_world, group_back, group_up, stopped_by}
use Rattle.vx_history.specs.Good.{IsMade}
use Rattle.vx_model.specs.declared.site.Mark.{Mark}
use Rattle.vx_model.specs.declared.site.Mark.TheVariants.{Consistent}
use Rattle.vx_model.specs.declared.site.SPhase.TheVariants.{Log as ByLog}
use Rattle.vx_model.specs.declared.site.SiteState.{SiteState}
use Rattle.vx_model.specs.declared.site.SiteState.TheVariants.{Bare, Up, Deported, Down}
use Rattle.vx_history.proofs.Updates.{by_test, at_place}
use Rattle.vx_history.proofs.GoodLemmas.{up_is_made}
use Rattle.vx_history.proofs.CrashLemmas.{good_crashed, good_back, good_deported, good_fallen, good_session_begun, good_stopped, kept_length, crash_state}
use Rattle.vx_history.specs.Sends.{with_links, sending, greeting}
use Rattle.vx_history.proofs.GroupLemmas.{group_facts}
use Rattle.vx_history.specs.Events
use Rattle.vx_history.specs.Events.{is_plain_group}
use Rattle.vx_history.specs.Refusals.{says}
use Rattle.vx_history.specs.declared.event.Said.TheVariants.{Done}
use Rattle.vx_model.specs.declared.no.No.TheVariants.{Role as WrongRole}
use Rattle.vx_history.specs.Sound.{GoodPacket, LosesNothing, is_at_rest, Sound}
use Rattle.vx_world.proofs.Lists.{not_both, prefix_take}
use Rattle.vx_world.proofs.Carry.{IsLater, LinkSays}
use Rattle.vx_world.proofs.Moves.{sound_gathering, sound_sending, sound_with_links, sound_with_node, sound_with_history, good_later}
use Rattle.vx_world.proofs.Tests.{Keeps, unless_keeps}
use Rattle.vx_world.proofs.Guards.{rest_up, rest_bare}
use Rattle.vx_world.proofs.Changes.{AreMarked, are_marked, feeds_more, greeting_good, links_marked_keeps, up_whole, origin_known}
use Rattle.vx_world.proofs.Nodes
use Rattle.vx_world.proofs.Links

-- the links of a site that crashed
lost_keeps : (v : World) (q : ℕ) → Sound v → Sound (with_links v q (λ k. Events.lost_touch (v.links q k)))
lost_keeps v q s =
    sound_with_links v q (λ k. Events.lost_touch (v.links q k)) s
    (λ k. Links.link_lost (v.lines (v.nodes q).line) (v.lines (v.nodes k).line) q k (v.nodes q) (v.nodes k) (v.links q k) (s.good.nodes k) (s.links q k))
    (λ k is. is)
    (λ _ k is. is)

crashed_whole : (n : Node) (k : ℕ) → n.safe ≤ k → k ≤ length n.log → LosesNothing (crashed n k)
crashed_whole n k least most = λ _. omega (arith, kept_length n k least most)

-- the writes that a crash keeps beside those that were durable
abbrev newly : Node → ℕ → List Write
newly n k = drop n.safe (take k n.log)

origin_crash_keeps : (w : World) (q k : ℕ) → Sound w → IsMade (w.nodes q) → is_origin (w.nodes q).role ≡ true → (w.nodes q).safe ≤ k
    → k ≤ length (w.nodes q).log → AreMarked w q (newly (w.nodes q) k) → Sound (crash_left w q k)
origin_crash_keeps w q k s made o least most marks =
    let n : Node = w.nodes q in
    let h : History = w.lines n.line in
    let later : IsLater n (crashed n k) = Nodes.later_crashed n k least made in
    let line : h.held ++ newly n k ≡ take k n.log =
    ap (λ (xs : List Write). xs ++ newly n k) (sym ((s.good.nodes q).origin_log made o) ∙ sym (take-take n.safe k n.log least))
    ∙ take-append-drop n.safe (take k n.log) in
    sound_with_history w q (crashed n k) (record h { held = take k n.log }) s
    (good_crashed w q k s.good made o least most)
    later
    (later.made made)
    o
    (subst (λ t. IsPrefixOf t (take k n.log)) (take-take n.safe k n.log least ∙ (s.good.nodes q).origin_log made o) (prefix_take n.safe (take k n.log)))
    (crashed_whole n k least most)
    (s.fed q)
    (s.takes q)
    (λ up. absurd (let e : Down ≡ Up = up in cc))
    (s.newest q)
    (λ _. s.stands q made)
    (λ j _ says.
    subst (λ (xs : List Write). LinkSays (record h { held = xs }) j (w.nodes j) (w.links q j)) line
    (feeds_more h (newly n k) h.told j (w.nodes j) (w.links q j) (s.good.replays n.line j) (marks j) says))
    (origin_known w q (crashed n k) o)
    (λ j. s.unbegun n.line j)

receiver_crash_keeps : (w : World) (q k : ℕ) → Sound w → IsMade (w.nodes q) → is_origin (w.nodes q).role ≡ false → (w.nodes q).safe ≤ k
    → k ≤ length (w.nodes q).log → Sound (with_node w q (crashed (w.nodes q) k))
receiver_crash_keeps w q k s made r least most =
    let n : Node = w.nodes q in
    let later : IsLater n (crashed n k) = Nodes.later_crashed n k least made in
    sound_with_node w q (crashed n k) s
    (good_later w q (crashed n k) s.good made refl later.made (Nodes.good_dropped (w.lines n.line) q k n (s.good.replays n.line q) made r least most (s.good.nodes q)))
    later
    (crashed_whole n k least most)
    (s.fed q)
    (s.takes q)
    (λ up. absurd (let e : Down ≡ Up = up in cc))
    (s.newest q)
    (λ _. s.stands q made)
    (λ _. Nodes.fed_dropped (w.lines n.line) q k n (s.good.replays n.line q) made r least most (s.good.nodes q))
    (λ _ _ g. omega (arith, s.known q made r g, length-take k n.log))

-- each link of a row changes
abbrev pub each_link : (Link → Link) → (ℕ → Link) → ℕ → Link
each_link g row j = g (row j)

-- a row that changed twice
pub row_twice : (f : ℕ → ℕ → Link) (q : ℕ) (row : ℕ → Link) (g : Link → Link) → updated (updated f q row) q (each_link g (updated f q row q)) ≡ updated f q (each_link g row)
row_twice f q row g = fun_ext (λ p. tests (eqb p q) (f p))
  where
    tests : (b : Bool) (other : ℕ → Link) → (if b then each_link g (updated f q row q) else (if b then row else other)) ≡ (if b then each_link g row else other)
    tests true other = ap (λ (r : ℕ → Link). each_link g r) (at_place f q row)
    tests false other = refl

pub crash_keeps : (w : World) (q kept : ℕ) → Sound w → (w.nodes q).state ≡ Up → Sound (Events.crash_at w q (Events.kept_of (w.nodes q) kept))
crash_keeps w q kept s up =
    let n : Node = w.nodes q in
    let k : ℕ = Events.kept_of n kept in
    let made : IsMade n = up_is_made n up in
    let least : n.safe ≤ k = Nodes.kept_least n kept (s.good.nodes q).safe_fits in
    let most : k ≤ length n.log = Nodes.kept_most n kept in
    let xs : List Write = newly n k in
    let row : ℕ → Link = λ to. Events.link_left n k (w.links q to) in
    let v : World = Events.links_marked w q xs in
    let sound : Sound v = links_marked_keeps w q xs s in
    let once : updated v.links q (λ to. Events.lost_touch (v.links q to)) ≡ updated w.links q row = row_twice w.links q (λ to. Events.link_marked xs (w.links q to)) Events.lost_touch in
    sound_gathering (with_links (Events.crash_world w q k) q row) _
    (by_test (λ (u : World). Sound (with_links u q row)) (is_origin n.role) (crash_left w q k) (with_node w q (crashed n k))
    (λ o. subst (λ (f : ℕ → ℕ → Link). Sound (record (crash_left w q k) { links = f })) once
    (lost_keeps (crash_left v q k) q (origin_crash_keeps v q k sound made o least most (are_marked w q xs))))
    (λ r. subst (λ (f : ℕ → ℕ → Link). Sound (record (with_node w q (crashed n k)) { links = f })) once
    (lost_keeps (with_node v q (crashed n k)) q (receiver_crash_keeps v q k sound made r least most))))

-- a site that is down and gives its disks up
deported_keeps : (w : World) (q : ℕ) (fuse : Fuse) → Sound w → (w.nodes q).state ≡ Down → Sound (deported_world fuse w q)
deported_keeps w q fuse s down =
    let n : Node = w.nodes q in
    let rest : is_at_rest n.state ≡ true = ap is_at_rest down in
    let made : IsMade n = rest_bare n.state rest in
    sound_with_node w q (deported_site fuse n) s
    (good_deported w q fuse s.good made (s.whole q rest))
    (Nodes.later_deported n fuse down)
    (λ _. s.whole q rest)
    (s.fed q)
    (s.takes q)
    (λ up. absurd (let e : Deported ≡ Up = up in cc))
    (s.newest q)
    (λ _. s.stands q made)
    (λ _. Nodes.fed_still (w.lines n.line) q n Deported n.log n.session n.mark n.halted fuse n.fed_by (λ m. m))
    (λ _ r g. s.known q made r g)

-- one that gave them up is down
fallen_keeps : (w : World) (q : ℕ) → Sound w → (w.nodes q).state ≡ Deported → Sound (fallen_world w q)
fallen_keeps w q s away =
    let n : Node = w.nodes q in
    let rest : is_at_rest n.state ≡ true = ap is_at_rest away in
    let made : IsMade n = rest_bare n.state rest in
    sound_with_node w q (fallen_site n) s
    (good_fallen w q s.good made (s.whole q rest))
    (Nodes.later_fallen n)
    (λ _. s.whole q rest)
    (s.fed q)
    (s.takes q)
    (λ up. absurd (let e : Down ≡ Up = up in cc))
    (s.newest q)
    (λ _. s.stands q made)
    (λ _. Nodes.fed_still (w.lines n.line) q n Down n.log n.session n.mark n.halted NoFuse n.other (λ m. m))
    (λ _ r g. s.known q made r g)

pub fall_keeps : (w : World) (q : ℕ) (state : SiteState) → Sound w → (w.nodes q).state ≡ state → Sound (Events.fall_from state w q).world
fall_keeps w q Bare s e = s
fall_keeps w q Up s e = s
fall_keeps w q Deported s e = fallen_keeps w q s e
fall_keeps w q Down s e = s

pub deport_keeps : (w : World) (q : ℕ) → Sound w → (w.nodes q).state ≡ Up → Sound (Events.deport_at w q)
deport_keeps w q s up =
    let k : ℕ = Events.kept_of (w.nodes q) 0 in
    deported_keeps (Events.crash_at w q k) q (w.nodes q).fuse (crash_keeps w q 0 s up) (crash_state w q k)

-- the world of a site that has risen with this mark, with its links and its greeting
abbrev pub RisenWorld : World → ℕ → Node → World
RisenWorld w q m = sending (with_links (with_node w q m) q (λ to. Events.restarted_link m to (w.links q to))) (Events.recovery_greeting q m)

risen_keeps : (w : World) (q : ℕ) (mark : Mark) → Sound w → is_at_rest (w.nodes q).state ≡ true → ((w.nodes q).mark ≡ Consistent → mark ≡ Consistent)
    → (is_origin (w.nodes q).role ≡ true → mark ≡ (w.nodes q).mark)
    → (is_origin (w.nodes q).role ≡ false → (w.nodes q).phase ≡ ByLog → (w.nodes q).end ≤ length (w.nodes q).log → mark ≡ Consistent)
    → Nodes.MayMark (w.nodes q) (length (w.nodes q).log) mark → Sound (RisenWorld w q (Nodes.risen (w.nodes q) mark))
risen_keeps w q mark s rest marks same ends only =
    let n : Node = w.nodes q in
    let m : Node = Nodes.risen n mark in
    let made : IsMade n = rest_bare n.state rest in
    let later : IsLater n m = Nodes.later_risen n mark marks in
    let u : World = with_node w q m in
    let sound_u : Sound u = sound_with_node w q m s
    (good_later w q m s.good made refl later.made (Nodes.good_risen (w.lines n.line) q mark n (s.good.replays n.line q) made same (s.whole q rest) marks only (s.good.nodes q)))
    later
    (up_whole m refl)
    (s.fed q)
    (s.takes q)
    (λ _ _. marked (is_origin n.role) refl)
    (s.newest q)
    (λ _. s.stands q made)
    (λ _. Nodes.fed_still (w.lines n.line) q n Up n.log (n.session + 1) mark None n.fuse n.fed_by marks)
    (λ _ r g. s.known q made r g) in
    let v : World = with_links u q (λ to. Events.restarted_link m to (w.links q to)) in
    let sound_v : Sound v = sound_with_links u q (λ to. Events.restarted_link m to (w.links q to)) sound_u
    (λ k. Links.link_restarted (u.lines (u.nodes q).line) (u.lines (u.nodes k).line) q k (u.nodes q) (u.nodes k) m (w.links q k) (sound_u.good.nodes k)
    (s.unbegun (u.nodes q).line k) (sound_u.links q k))
    (λ k is. is)
    (λ _ k is. is) in
    let here : v.nodes q ≡ m = at_place w.nodes q m in
    sound_sending v (Events.recovery_greeting q m) sound_v
    (by_test (AllByRecursion (GoodPacket v.nodes v.links v.lines)) (is_origin m.role) [] (greeting q m.other m)
    (λ _. tt)
    (λ r. subst (λ (x : Node). AllByRecursion (GoodPacket v.nodes v.links v.lines) (greeting q m.other x)) here
    (greeting_good v q m.other sound_v (subst IsMade (sym here) (later.made made)) (subst (λ (x : Node). is_origin x.role ≡ false) (sym here) r)
    (subst (λ (x : Node). x.state ≡ Up) (sym here) refl) (subst (λ (x : Node). x.halted ≡ None) (sym here) refl))))
  where
    marked : (o : Bool) → is_origin (w.nodes q).role ≡ o → (w.nodes q).phase ≡ ByLog → (w.nodes q).end ≤ (w.nodes q).safe → mark ≡ Consistent
    marked true o by end = same o ∙ (s.good.nodes q).origin_mark o
    marked false r by end = ends r by (omega (arith, end, (s.good.nodes q).safe_fits))

recovery_keeps : (w : World) (q : ℕ) (fails : Option ℕ) → Sound w → is_at_rest (w.nodes q).state ≡ true → Keeps (Events.recovery w q fails)
recovery_keeps w q None s rest =
    Nodes.back_by (λ (m : Node). Sound (RisenWorld w q m)) (w.nodes q) (λ mark marks same ends only. risen_keeps w q mark s rest marks same ends only)
recovery_keeps w q (Some disk) s rest =
    let n : Node = w.nodes q in
    let made : IsMade n = rest_bare n.state rest in
    sound_with_node w q (record n { session = n.session + 1 }) s
    (good_session_begun w q s.good made)
    (Nodes.later_begun n rest)
    (s.whole q)
    (s.fed q)
    (s.takes q)
    (λ up. absurd (rest_up n.state rest up))
    (s.newest q)
    (s.stands q)
    (λ _. Nodes.fed_still (w.lines n.line) q n n.state n.log (n.session + 1) n.mark n.halted n.fuse n.fed_by (λ m. m))
    (s.known q)

pub recover_keeps : (w : World) (q : ℕ) (state : SiteState) (fails : Option ℕ) → Sound w → (w.nodes q).state ≡ state
    → Keeps (Events.recover_from state w q fails)
recover_keeps w q Bare fails s e = s
recover_keeps w q Up fails s e = s
recover_keeps w q Deported fails s e = unless_keeps _ _ w (Events.recovery w q fails) s (λ _. recovery_keeps w q fails s (ap is_at_rest e))
recover_keeps w q Down fails s e = unless_keeps _ _ w (Events.recovery w q fails) s (λ _. recovery_keeps w q fails s (ap is_at_rest e))

-- a group of disks that comes up again in its session
back_keeps : (w : World) (q : ℕ) → Sound w → is_at_rest (w.nodes q).state ≡ true → is_plain_group (w.nodes q) ≡ true → Sound (group_back w q)
back_keeps w q s rest plain =
    let n : Node = w.nodes q in
    let origin : is_origin n.role ≡ true = ap is_origin (group_facts n plain).0 in
    let made : IsMade n = rest_bare n.state rest in
    sound_with_node w q (group_up n) s
    (good_back w q s.good made (s.whole q rest))
    (Nodes.later_back n origin)
    (up_whole (group_up n) refl)
    (s.fed q)
    (s.takes q)
    (λ _ _ _ _. (s.good.nodes q).origin_mark origin)
    (s.newest q)
    (λ _. s.stands q made)
    (λ r. not_both (is_origin n.role) origin r)
    (origin_known w q (group_up n) origin)

pub again_keeps : (w : World) (q : ℕ) → Sound w → is_at_rest (w.nodes q).state ≡ true → Keeps (Events.group_again w q)
again_keeps w q s rest =
    unless_keeps (not (is_plain_group (w.nodes q))) WrongRole w (says (group_back w q) Done) s
    (λ plain. back_keeps w q s rest (not-false (is_plain_group (w.nodes q)) plain))

pub fault_keeps : (w : World) (q disk : ℕ) → Sound w → (w.nodes q).state ≡ Up → Sound (stopped_by w q disk)
fault_keeps w q disk s up =
    let n : Node = w.nodes q in
    sound_with_node w q (record n { halted = Some disk; fuse = burned n.fuse }) s
    (good_stopped w q disk s.good (up_is_made n up))
    (Nodes.later_halted n disk)
    (s.whole q)
    (s.fed q)
    (s.takes q)
    (λ _ none. absurd (cc))
    (s.newest q)
    (s.stands q)
    (λ _. Nodes.fed_still (w.lines n.line) q n n.state n.log n.session n.mark (Some disk) (burned n.fuse) n.fed_by (λ m. m))
    (s.known q)
