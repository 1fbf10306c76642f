-- Sites that are made, and the events of a link, keep what holds of the world.
use Rattle.std.proofs.Common.{◌≡◌, ℕ, ◌+◌, ◌-◌, ◌≤◌, ◌<◌, List, [], ◌∷◌, length, refl, ap, sym, ◌∙◌, subst, arith, Bool, true, false, inl}
use Rattle.std.specs.Prelude.{None, if◌then◌else◌, eqb, leb, not, ◌&&◌, ◌||◌, zero, suc, bytes_eq, ltb}
use Rattle.std.proofs.lemmas.Bool.{eq-eqb, not-false, not-true}
use Rattle.std.proofs.lemmas.Bool.Decides.{nat_tests}
use Rattle.vx_history.specs.World.{World, Node, Volume, History, updated, line_updated, with_node, bare_site, no_volumes}
use Rattle.vx_model.specs.Content.{Content}
use Rattle.vx_model.specs.Sites.{is_origin, same_line}
use Rattle.vx_model.specs.Sizes.{ring_of}
use Rattle.vx_history.specs.Receiving.{phase_takes}
use Rattle.vx_history.specs.Steps.{site_made, begun_site, begun_line, line_begun, raw_made, raw_volumes, raw_content, group_made}
use Rattle.vx_model.specs.Sites.{first_line}
use Rattle.vx_history.specs.Good.{IsMade}
use Rattle.vx_model.specs.declared.history.Line.{Line}
use Rattle.vx_model.specs.declared.site.Mark.{Mark}
use Rattle.vx_model.specs.declared.site.Mark.TheVariants.{Consistent, Inconsistent}
use Rattle.vx_model.specs.declared.site.Role.{Role}
use Rattle.vx_model.specs.declared.site.Role.TheVariants.{Primary, Secondary, Handing, Bunker}
use Rattle.vx_model.specs.declared.site.SPhase.TheVariants.{Quiet, Log as ByLog}
use Rattle.vx_model.specs.declared.site.SiteState.TheVariants.{Bare, Up}
use Rattle.vx_model.specs.declared.link.Prot.{Prot}
use Rattle.vx_model.specs.declared.link.SyncMode.{SyncMode}
use Rattle.vx_model.specs.declared.no.No.TheVariants.{Exists, Size, Role as WrongRole, Limit}
use Rattle.vx_model.specs.declared.no.Counted.TheVariants.{Sites, Disks, Links}
use Rattle.vx_history.proofs.Updates.{all_lines, by_test, and_left, and_right, same_line_equal}
use Rattle.vx_history.proofs.GoodLemmas.{good_site, good_begun, good_stays, made_is_given, up_is_made}
use Rattle.vx_history.specs.declared.event.LinkPart.{LinkPart}
use Rattle.vx_history.specs.declared.event.LinkPart.TheVariants.{Joins, Made, Marked, Opened}
use Rattle.vx_history.specs.Sends.{is_linked, with_link}
use Rattle.vx_history.specs.Refusals.{Outcome, unless, some_below, is_primary, is_bunker, is_consistent, is_stale_mode, is_empty, is_fresh, may_link, may_join, may_be_site, sizes_meet, rings_fit, count_links_of, follows}
use Rattle.vx_history.specs.Events.{joined, new_link, opened}
use Rattle.vx_history.specs.Gatherings.{emptied}
use Rattle.vx_history.specs.Step.{done, link_part}
use Rattle.vx_model.specs.declared.limits.TheConstants.{MOST_DISKS, MOST_LINKS, MOST_SITES}
use Rattle.vx_history.specs.Sound.{has_line, HasCome, Sound}
use Rattle.vx_world.proofs.Lists.{each_append, each_weaker, not_both, or_left, or_right}
use Rattle.vx_world.proofs.Stood.{last_line, who_came}
use Rattle.vx_world.proofs.Moves.{sound_gathering, sound_with_node, sound_with_link, good_later, given, at_changed}
use Rattle.vx_world.proofs.Comes.{sound_joining, sound_founding}
use Rattle.vx_world.proofs.Tests.{Keeps, unless_keeps}
use Rattle.vx_world.proofs.Guards.{primary_origin}
use Rattle.vx_world.proofs.Changes.{up_whole}
use Rattle.vx_world.proofs.Carry.{origin_sends}
use Rattle.vx_world.proofs.Nodes

-- ## Sites

site_keeps : (w : World) (name : List ℕ) (disks blocks : ℕ) → Sound w → Sound (site_made w name disks blocks)
site_keeps w name disks blocks s =
    sound_founding w w.sites (w.sites + 1) (bare_site name disks blocks) w.lines s
    (s.good.later w.sites (omega arith))
    (λ _ _. refl)
    (good_site w name disks blocks s.good)
    (λ _. omega arith)
    refl
    refl
    (λ up. absurd (let e : Bare ≡ Up = up in cc))
    (λ _. refl)
    (λ made. absurd (made refl))
    tt
    s.unbegun

pub may_be_site_keeps : (w : World) (name : List ℕ) (disks blocks : ℕ) → Sound w
    → Keeps (may_be_site w name disks blocks (done (site_made w name disks blocks)))
may_be_site_keeps w name disks blocks s =
    let o : Outcome = done (site_made w name disks blocks) in
    let few : Outcome = unless (eqb disks 0 || ltb blocks 8) Size w o in
    let some : Outcome = unless (ltb MOST_DISKS disks) (Limit Disks MOST_DISKS) w few in
    unless_keeps (some_below w.sites (λ k. bytes_eq (w.nodes k).name name)) (Exists name) w (unless (leb MOST_SITES w.sites) (Limit Sites MOST_SITES) w some) s
    (λ _. unless_keeps (leb MOST_SITES w.sites) (Limit Sites MOST_SITES) w some s
    (λ _. unless_keeps (ltb MOST_DISKS disks) (Limit Disks MOST_DISKS) w few s
    (λ _. unless_keeps (eqb disks 0 || ltb blocks 8) Size w o s
    (λ _. site_keeps w name disks blocks s))))

begun_keeps : (w : World) (q ring : ℕ) (volumes : List Volume) (content : Content) → Sound w → q < w.sites → (w.nodes q).state ≡ Bare
    → Sound (line_begun w q ring volumes content)
begun_keeps w q ring volumes content s there bare =
    let n : Node = begun_site q ring volumes content (w.nodes q) in
    let h : History = begun_line content in
    sound_founding w q w.sites n (line_updated w.lines n.line h) s bare
    (λ l apart. by_test (λ (r : History). w.lines l ≡ r) (same_line l n.line) h (w.lines l)
    (λ e. absurd (apart (ap (λ (x : Line). x.origin) (same_line_equal l n.line e))))
    (λ _. refl))
    (good_begun w q ring volumes content s.good there bare)
    (up_whole n refl)
    refl
    (s.takes q)
    (λ _ _ _ _. refl)
    (λ _. refl)
    (λ _. last_line (w.nodes q).stood (first_line q))
    (each_append (HasCome (updated w.nodes q n) q) (w.nodes q).stood (first_line q ∷ [])
    (each_weaker (HasCome w.nodes q) (HasCome (updated w.nodes q n) q) (λ _ c. absurd (c.here bare)) (w.nodes q).stood (s.come q)) (
      record {
        here = at_changed IsMade w.nodes q n (λ e. let f : Up ≡ Bare = e in cc);
        there = at_changed IsMade w.nodes q n (λ e. let f : Up ≡ Bare = e in cc);
        top = at_changed (λ (m : Node). 1 ≤ m.top) w.nodes q n (omega arith);
        named = at_changed (λ (m : Node). 1 ≤ m.top) w.nodes q n (omega arith);
        rises = λ _. at_changed (λ (m : Node). 1 ≤ m.line.generation) w.nodes q n (omega arith);
      },
      tt,
    ))
    (all_lines (λ l (r : History). (k : ℕ) → (r.replays k).begun ≡ 0) w.lines n.line h (λ _. refl) (λ l _. s.unbegun l))

pub raw_keeps : (w : World) (q : ℕ) → Sound w → q < w.sites → (w.nodes q).state ≡ Bare → Sound (raw_made w q)
raw_keeps w q = let n : Node = w.nodes q in begun_keeps w q (ring_of n.blocks) (raw_volumes 1 (n.disks - 2) n.blocks) (raw_content n.disks n.blocks)

pub group_keeps : (w : World) (q : ℕ) → Sound w → q < w.sites → (w.nodes q).state ≡ Bare → Sound (group_made w q)
group_keeps w q = begun_keeps w q 0 [] no_volumes

-- ## The events of a link

none_below : (k : ℕ) (test : ℕ → Bool) → some_below k test ≡ false → (i : ℕ) → i < k → test i ≡ false
none_below zero test none i below = absurd (omega (arith, below))
none_below (suc k) test none i below =
    by_test (λ (b : Bool). (b ≡ eqb i k) → test i ≡ false) (eqb i k) true false
    (λ is _. subst (λ (j : ℕ). test j ≡ false) (sym (equal i k is)) (or_left (test k) (some_below k test) none))
    (λ is _. none_below_rest i k below is (none_below k test (or_right (test k) (some_below k test) none) i))
    (same (eqb i k))
  where
    equal : (a b : ℕ) → eqb a b ≡ true → a ≡ b
    equal a b e = grind (arith, nat_tests)

    less : (a b : ℕ) → a < suc b → eqb a b ≡ false → a < b
    less a b below e = grind (arith, nat_tests)

    none_below_rest : (i k : ℕ) → i < suc k → eqb i k ≡ false → (i < k → test i ≡ false) → test i ≡ false
    none_below_rest i k below is rest = rest (less i k below is)

    same : (b : Bool) → (if b then true else false) ≡ b
    same true = refl
    same false = refl

primary_plain : (r : Role) → is_primary r ≡ true → is_bunker r ≡ false
primary_plain Primary e = refl
primary_plain Secondary e = refl
primary_plain (Handing to) e = refl
primary_plain Bunker e = absurd (cc)

-- a site without links below its world's number has none
no_links : (w : World) (q : ℕ) → Sound w → some_below w.sites (λ k. is_linked (w.links q k)) ≡ false → (k : ℕ) → is_linked (w.links q k) ≡ true → ⊥
no_links w q s none k is =
    not_both (is_linked (w.links q k)) is (none_below w.sites (λ k. is_linked (w.links q k)) none k (made_is_given w k s.good ((s.links q k).ends is).1))

pub join_keeps : (w : World) (p q : ℕ) → Sound w → (w.nodes p).state ≡ Up → (w.nodes q).state ≡ Up → is_origin (w.nodes p).role ≡ true → eqb q p ≡ false
    → is_linked (w.links p q) ≡ false → ((k : ℕ) → is_linked (w.links q k) ≡ true → ⊥)
    → is_origin (w.nodes q).role ≡ true → is_bunker (w.nodes q).role ≡ false → Sound (with_node w q (joined (w.nodes p) p (w.nodes q)))
join_keeps w p q s up_p up_q o other unlinked alone first plain =
    let a : Node = w.nodes p in
    let n : Node = joined a p (w.nodes q) in
    let made_p : IsMade a = up_is_made a up_p in
    let made_q : IsMade (w.nodes q) = up_is_made (w.nodes q) up_q in
    let own : a.line.origin ≡ p = (s.good.nodes p).own_line made_p o in
    let apart : q ≡ p → ⊥ = λ e. not_both (eqb q p) (eq-eqb q p e) other in
    let replay : n.replay ≤ ((w.lines a.line).replays q).begun = by_test (λ (k : ℕ). k ≤ ((w.lines a.line).replays q).begun) (same_line (w.nodes q).line a.line)
    (w.nodes q).replay 0
    (λ e. absurd (apart (sym ((s.good.nodes q).own_line made_q first) ∙ ap (λ (l : Line). l.origin) (same_line_equal (w.nodes q).line a.line e) ∙ own)))
    (λ _. omega arith) in
    sound_joining w q n s
    (ap (λ (j : ℕ). (w.nodes j).line) own, ap (λ (j : ℕ). is_linked (w.links j q)) own ∙ unlinked, plain)
    (λ e. apart (sym e ∙ own))
    made_q made_q (omega arith)
    (record {
      began = s.good.begun p made_p;
      named = (who_came w s a.line p (s.stands p made_p)).named;
      tops = omega arith;
      topped = omega arith;
      notes = refl;
      rises = λ line c e.
          let at : line.generation ≤ a.top = subst (λ (j : ℕ). line.generation ≤ (w.nodes j).top) (e ∙ own) c.named in
          omega (arith, at, s.newest p o);
    })
    alone
    (λ by. let e : Quiet ≡ ByLog = by in absurd (cc))
    (good_stays w q n s.good (Nodes.good_joined (w.lines a.line) q p a (w.nodes q) made_q replay) (λ _. inl (s.good.begun p made_p)) (λ is. is) (given w q n s.good made_q))
    (up_whole n up_q)
    (λ _. sym own)
    refl
    (λ _ _ by. let e : Quiet ≡ ByLog = by in absurd (cc))
    (λ o. absurd (cc))
    (omega arith)

may_join_keeps : (w : World) (p q : ℕ) → Sound w → (w.nodes p).state ≡ Up → (w.nodes q).state ≡ Up
    → Keeps (may_join w p q (done (emptied (with_node w q (joined (w.nodes p) p (w.nodes q))) q)))
may_join_keeps w p q s up_p up_q =
    let o : Outcome = done (emptied (with_node w q (joined (w.nodes p) p (w.nodes q))) q) in
    let fits : Outcome = unless (not (sizes_meet (w.nodes p).volumes (w.nodes q).volumes && rings_fit (w.nodes p) (w.nodes q))) Size w o in
    let few : Outcome = unless (leb MOST_LINKS (count_links_of w p)) (Limit Links MOST_LINKS) w fits in
    unless_keeps (not (may_link w p q)) WrongRole w (unless (is_linked (w.links p q)) (Exists (w.nodes q).name) w few) s
    (λ may. unless_keeps (is_linked (w.links p q)) (Exists (w.nodes q).name) w few s
    (λ unlinked. unless_keeps (leb MOST_LINKS (count_links_of w p)) (Limit Links MOST_LINKS) w fits s
    (λ _. unless_keeps (not (sizes_meet (w.nodes p).volumes (w.nodes q).volumes && rings_fit (w.nodes p) (w.nodes q))) Size w o s
    (λ _. sound_gathering (with_node w q (joined (w.nodes p) p (w.nodes q))) _ (joins (not-false (may_link w p q) may) unlinked)))))
  where
    joins : may_link w p q ≡ true → is_linked (w.links p q) ≡ false → Sound (with_node w q (joined (w.nodes p) p (w.nodes q)))
    joins may unlinked =
        let a : Node = w.nodes p in
        let own : Bool = same_line a.line (first_line p) && is_fresh w q in
        let rest : Bool = not (eqb q p) && (is_empty a.log && own) in
        let links : Bool = some_below w.sites (λ k. is_linked (w.links q k)) in
        let apart : rest ≡ true = and_right (is_primary a.role) rest may in
        let fresh : is_fresh w q ≡ true = and_right (same_line a.line (first_line p)) (is_fresh w q)
        (and_right (is_empty a.log) own (and_right (not (eqb q p)) (is_empty a.log && own) apart)) in
        let alone : not links ≡ true = and_right (is_empty (w.nodes q).log) (not links)
        (and_right (is_primary (w.nodes q).role) (is_empty (w.nodes q).log && not links) fresh) in
        join_keeps w p q s up_p up_q
        (primary_origin a.role (and_left (is_primary a.role) rest may))
        (not-true (eqb q p) (and_left (not (eqb q p)) (is_empty a.log && own) apart))
        unlinked
        (no_links w q s (not-true links alone))
        (primary_origin (w.nodes q).role (and_left (is_primary (w.nodes q).role) (is_empty (w.nodes q).log && not links) fresh))
        (primary_plain (w.nodes q).role (and_left (is_primary (w.nodes q).role) (is_empty (w.nodes q).log && not links) fresh))

make_keeps : (w : World) (p q place : ℕ) (sync : SyncMode) (prot : Prot) → Sound w → (w.nodes p).state ≡ Up → (w.nodes q).state ≡ Up
    → (w.nodes q).halted ≡ None → is_origin (w.nodes p).role ≡ true
    → is_origin (w.nodes q).role ≡ false → (w.nodes q).line ≡ (w.nodes p).line → Sound (with_link w p q (new_link place sync prot (w.nodes q)))
make_keeps w p q place sync prot s up_p up_q runs_q o r same =
    sound_with_link w p q (new_link place sync prot (w.nodes q)) s
    (record {
      ends = λ _. (up_is_made (w.nodes p) up_p, up_is_made (w.nodes q) up_q);
      starts = λ _. origin_sends (w.nodes p).role o;
      apart = λ _ e. not_both (is_origin (w.nodes q).role) (ap (λ (j : ℕ). is_origin (w.nodes j).role) (sym e) ∙ o) r;
      came = λ _. subst (λ (l : Line). has_line (w.nodes q).stood l ≡ true) same (s.stands q (up_is_made (w.nodes q) up_q));
      session = λ _. omega arith;
      stored = λ _. (omega arith, λ by end. s.marked q up_q runs_q by (omega (arith, end)));
      net = λ _ _. omega arith;
      says = λ _ _. tt;
    })
    (λ _. refl)
    (λ r _. not_both (is_origin (w.nodes p).role) o r)

mark_keeps : (w : World) (q : ℕ) → Sound w → (w.nodes q).state ≡ Up → Sound (with_node w q (record (w.nodes q) { mark = Consistent }))
mark_keeps w q s up =
    let n : Node = w.nodes q in
    let m : Node = record n { mark = Consistent } in
    sound_with_node w q m s
    (good_later w q m s.good (up_is_made n up) refl (λ is. is) (Nodes.good_marked (w.lines n.line) q n (s.takes q) (s.good.nodes q)))
    (Nodes.later_marked n)
    (up_whole m up)
    (s.fed q)
    (s.takes q)
    (λ _ _ _ _. refl)
    (s.newest q)
    (s.stands q)
    (λ _. Nodes.fed_still (w.lines n.line) q n n.state n.log n.session Consistent n.halted n.fuse n.fed_by (λ _. refl))
    (s.known q)

consistent_is : (m : Mark) → is_consistent m ≡ true → m ≡ Consistent
consistent_is Consistent e = refl
consistent_is Inconsistent e = absurd (cc)

open_keeps : (w : World) (p q : ℕ) → Sound w → is_empty (w.nodes p).log ≡ true → phase_takes (w.nodes q).phase ≡ true
    → is_consistent (w.nodes q).mark ≡ true → Sound (with_link w p q (opened (w.links p q) (w.nodes p).safe))
open_keeps w p q s empty taken marked =
    let none : (w.nodes p).safe ≤ 0 = omega (arith, (s.good.nodes p).safe_fits, equal (length (w.nodes p).log) 0 empty) in
    let old = s.links p q in
    sound_with_link w p q (opened (w.links p q) (w.nodes p).safe) s
    (record {
      ends = old.ends;
      starts = old.starts;
      apart = old.apart;
      came = old.came;
      session = old.session;
      stored = λ _. (omega (arith, none), λ _ _. consistent_is (w.nodes q).mark marked);
      net = λ _ _. omega (arith, none);
      says = λ _ _. (consistent_is (w.nodes q).mark marked, taken, omega (arith, s.unbegun (w.nodes p).line q));
    })
    (λ is. is)
    (λ _ is. is)
  where
    equal : (a b : ℕ) → eqb a b ≡ true → a ≡ b
    equal a b e = grind (arith, nat_tests)

follows_is : (w : World) (p q : ℕ) → follows w p q ≡ true → is_origin (w.nodes q).role ≡ false
follows_is w p q f = not-true (is_origin (w.nodes q).role) (and_left (not (is_origin (w.nodes q).role)) (same_line (w.nodes q).line (w.nodes p).line) f)

pub link_part_keeps : (part : LinkPart) (w : World) (p q : ℕ) (sync : SyncMode) (prot : Prot) → Sound w → (w.nodes p).state ≡ Up → (w.nodes q).state ≡ Up
    → (w.nodes q).halted ≡ None → Keeps (link_part part w p q sync prot)
link_part_keeps Joins w p q sync prot s up_p up_q runs_q = may_join_keeps w p q s up_p up_q
link_part_keeps Made w p q sync prot s up_p up_q runs_q =
    let o : Outcome = done (with_link w p q (new_link (count_links_of w p) sync prot (w.nodes q))) in
    let test : Bool = is_primary (w.nodes p).role && follows w p q in
    unless_keeps (not test) WrongRole w (unless (is_linked (w.links p q)) (Exists (w.nodes q).name) w o) s
    (λ c. unless_keeps (is_linked (w.links p q)) (Exists (w.nodes q).name) w o s
    (λ _. make_keeps w p q (count_links_of w p) sync prot s up_p up_q runs_q
    (primary_origin (w.nodes p).role (and_left (is_primary (w.nodes p).role) (follows w p q) (not-false test c)))
    (follows_is w p q (and_right (is_primary (w.nodes p).role) (follows w p q) (not-false test c)))
    (same_line_equal (w.nodes q).line (w.nodes p).line
    (and_right (not (is_origin (w.nodes q).role)) (same_line (w.nodes q).line (w.nodes p).line)
    (and_right (is_primary (w.nodes p).role) (follows w p q) (not-false test c))))))
link_part_keeps Marked w p q sync prot s up_p up_q runs_q =
    unless_keeps (not (is_primary (w.nodes p).role && (follows w p q && (is_linked (w.links p q) && is_empty (w.nodes p).log)))) WrongRole w
    (done (with_node w q (record (w.nodes q) { mark = Consistent }))) s
    (λ _. mark_keeps w q s up_q)
link_part_keeps Opened w p q sync prot s up_p up_q runs_q =
    let a : Node = w.nodes p in
    let marked : Bool = is_consistent (w.nodes q).mark in
    let taken : Bool = phase_takes (w.nodes q).phase in
    let stale : Bool = is_stale_mode (w.links p q).mode && (taken && marked) in
    let empty : Bool = is_empty a.log && stale in
    let linked : Bool = is_linked (w.links p q) && empty in
    let followed : Bool = follows w p q && linked in
    let test : Bool = is_primary a.role && followed in
    unless_keeps (not test) WrongRole w (done (with_link w p q (opened (w.links p q) a.safe))) s
    (λ c.
    let all : empty ≡ true = and_right (is_linked (w.links p q)) empty
    (and_right (follows w p q) linked (and_right (is_primary a.role) followed (not-false test c))) in
    let last : (taken && marked) ≡ true = and_right (is_stale_mode (w.links p q).mode) (taken && marked) (and_right (is_empty a.log) stale all) in
    open_keeps w p q s (and_left (is_empty a.log) stale all) (and_left taken marked last) (and_right taken marked last))
