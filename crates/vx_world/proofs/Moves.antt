-- The few ways in which an event changes the world, each with what it has to show.
use Rattle.std.proofs.Common.{◌≡◌, ℕ, ◌≤◌, Bool, List, ◌++◌, sym, ◌∙◌, ap, refl, subst, true, false, inl}
use Rattle.std.proofs.lemmas.Bool.{false_from_ne_true}
use Rattle.std.specs.Prelude.{Option, eqb}
use Rattle.std.specs.List.{AllByRecursion}
use Rattle.vx_model.specs.Content.{IsPrefixOf}
use Rattle.vx_history.specs.World.{World, Node, Link, History, Gathering, Packet, Promise, with_node, with_history, updated, line_updated}
use Rattle.vx_model.specs.Sites.{is_origin, same_line}
use Rattle.vx_history.specs.Good.{GoodNode, Good, IsMade}
use Rattle.vx_model.specs.declared.history.Line.{Line}
use Rattle.vx_model.specs.declared.site.SiteState.TheVariants.{Bare}
use Rattle.vx_history.proofs.Updates.{all_updated, all_lines, at_line, at_place, by_test, eqb_apart, eqb_equal, same_line_equal, updated_other}
use Rattle.vx_history.proofs.GoodLemmas.{good_stays, up_is_made}
use Rattle.vx_history.specs.Refusals.{is_bunker}
use Rattle.vx_model.specs.declared.site.Role.{Role}
use Rattle.vx_model.specs.declared.site.Role.TheVariants.{Primary, Secondary, Handing, Bunker}
use Rattle.vx_history.specs.Sends.{is_linked, with_links, with_link, sending, promising}
use Rattle.vx_history.specs.Sound.{LosesNothing, IsFed, TakesUpdates, IsMarked, IsNewest, StoodHere, HasCome, GoesElsewhere, IsFollowed, GoodLink, GoodPacket, GoodPromise, IsStranger, KnownNode, Sound}
use Rattle.vx_world.proofs.Lists.{each_append, each_weaker, prefix_refl, not_both}
use Rattle.vx_world.proofs.Carry.{IsLater, LinkSays, OriginHere, later_same, come_later, link_later, packets_later, promises_later}

-- what is said of sites by themselves rests on no link
pub good_of : (w : World) (links : ℕ → ℕ → Link) (packets : List Packet) (promised : List Promise) → Good w
    → Good (record w { links = links; packets = packets; promised = promised })
good_of w links packets promised s = record { nodes = s.nodes; begun = s.begun; later = s.later; told = s.told; replays = s.replays }

-- nor on what is in assembly, nor on headers
pub sound_gathering : (w : World) (g : ℕ → Option Gathering) → Sound w → Sound (record w { gathering = g })
sound_gathering w g s = record {
  good = record { nodes = s.good.nodes; begun = s.good.begun; later = s.good.later; told = s.good.told; replays = s.good.replays };
  whole = s.whole;
  fed = s.fed;
  takes = s.takes;
  marked = s.marked;
  newest = s.newest;
  stands = s.stands;
  come = s.come;
  links = s.links;
  bunkers = s.bunkers;
  packets = s.packets;
  promised = s.promised;
  known = s.known;
  unbegun = s.unbegun;
}

pub sound_headers : (w : World) (h : ℕ → ℕ) → Sound w → Sound (record w { headers = h })
sound_headers w h s = record {
  good = record { nodes = s.good.nodes; begun = s.good.begun; later = s.good.later; told = s.good.told; replays = s.good.replays };
  whole = s.whole;
  fed = s.fed;
  takes = s.takes;
  marked = s.marked;
  newest = s.newest;
  stands = s.stands;
  come = s.come;
  links = s.links;
  bunkers = s.bunkers;
  packets = s.packets;
  promised = s.promised;
  known = s.known;
  unbegun = s.unbegun;
}

-- packets that say what is so may be sent
pub sound_sending : (w : World) (ps : List Packet) → Sound w → AllByRecursion (GoodPacket w.nodes w.links w.lines) ps → Sound (sending w ps)
sound_sending w ps s h = record {
  good = good_of w w.links (w.packets ++ ps) w.promised s.good;
  whole = s.whole;
  fed = s.fed;
  takes = s.takes;
  marked = s.marked;
  newest = s.newest;
  stands = s.stands;
  come = s.come;
  links = s.links;
  bunkers = s.bunkers;
  packets = each_append (GoodPacket w.nodes w.links w.lines) w.packets ps s.packets h;
  promised = s.promised;
  known = s.known;
  unbegun = s.unbegun;
}

-- numbers that are kept may be promised
pub sound_promising : (w : World) (es : List Promise) → Sound w → AllByRecursion (GoodPromise w.nodes w.links) es → Sound (promising w es)
sound_promising w es s h = record {
  good = good_of w w.links w.packets (w.promised ++ es) s.good;
  whole = s.whole;
  fed = s.fed;
  takes = s.takes;
  marked = s.marked;
  newest = s.newest;
  stands = s.stands;
  come = s.come;
  links = s.links;
  bunkers = s.bunkers;
  packets = s.packets;
  promised = each_append (GoodPromise w.nodes w.links) w.promised es s.promised h;
  known = s.known;
  unbegun = s.unbegun;
}

-- links that are made stay made, so who is a stranger then was one before
pub stranger_of_links : (nodes : ℕ → Node) (links more : ℕ → ℕ → Link) → ((p s : ℕ) → is_linked (links p s) ≡ true → is_linked (more p s) ≡ true)
    → (l : Line) (i : ℕ) → IsStranger nodes more l i → IsStranger nodes links l i
stranger_of_links nodes links more made l i
    (e, none, plain) = (e, false_from_ne_true (is_linked (links l.origin i)) (λ is. not_both (is_linked (more l.origin i)) (made l.origin i is) none), plain)

-- an origin is a stranger on its own line
pub origin_strange : (w : World) (i : ℕ) (l : Line) → Good w → GoesElsewhere i i (w.links i i) → OriginHere (w.nodes i) l → IsStranger w.nodes w.links l i
origin_strange w i l good apart (up, e, o) =
    let own : l.origin ≡ i = ap (λ (k : Line). k.origin) (sym e) ∙ (good.nodes i).own_line (up_is_made (w.nodes i) up) o in (
      ap (λ (k : ℕ). (w.nodes k).line) own ∙ e,
      false_from_ne_true (is_linked (w.links l.origin i)) (λ is. apart (subst (λ (k : ℕ). is_linked (w.links k i) ≡ true) own is) refl),
      plain (w.nodes i).role o,
    )
  where
    plain : (r : Role) → is_origin r ≡ true → is_bunker r ≡ false
    plain Primary o = refl
    plain Secondary o = refl
    plain (Handing to) o = refl
    plain Bunker o = absurd (cc)

-- links of origins alone may be new
sound_links : (w : World) (f : ℕ → ℕ → Link) → Sound w
    → ((p s : ℕ) → GoodLink (w.lines (w.nodes p).line) p s (w.nodes p) (w.nodes s) (f p s))
    → ((p s : ℕ) → is_linked (w.links p s) ≡ true → is_linked (f p s) ≡ true)
    → ((p s : ℕ) → is_linked (f p s) ≡ true → is_origin (w.nodes p).role ≡ false → is_linked (w.links p s) ≡ true) → Sound (record w { links = f })
sound_links w f s h made old =
    let before : (l : Line) (i : ℕ) → IsStranger w.nodes f l i → IsStranger w.nodes w.links l i = stranger_of_links w.nodes w.links f made in
    let strange : (i : ℕ) (l : Line) → OriginHere (w.nodes i) l → IsStranger w.nodes f l i =
    λ i l o. origin_strange (record w { links = f }) i l (good_of w f w.packets w.promised s.good) (h i i).apart o in
    record {
      good = good_of w f w.packets w.promised s.good;
      whole = s.whole;
      fed = s.fed;
      takes = s.takes;
      marked = s.marked;
      newest = s.newest;
      stands = s.stands;
      come = s.come;
      links = h;
      bunkers = λ p q is r g. s.bunkers p q (old p q is r) r (before (w.nodes p).line q g);
      packets = packets_later w.nodes w.nodes w.links f (λ i. later_same (w.nodes i)) before strange w.lines w.lines
          (λ l. prefix_refl (w.lines l).held) w.packets s.packets;
      promised = promises_later w.nodes w.nodes w.links f (λ i. later_same (w.nodes i)) before strange w.promised s.promised;
      known = λ i is r q. s.known i is r (before (w.nodes i).line i q);
      unbegun = s.unbegun;
    }

-- where the links of one site change
pub still_linked_row : (w : World) (p : ℕ) (row : ℕ → Link) → ((k : ℕ) → is_linked (w.links p k) ≡ true → is_linked (row k) ≡ true) → (i k : ℕ)
    → is_linked (w.links i k) ≡ true → is_linked ((with_links w p row).links i k) ≡ true
still_linked_row w p row made = all_updated (λ i (r : ℕ → Link). (k : ℕ) → is_linked (w.links i k) ≡ true → is_linked (r k) ≡ true) w.links p row made
    (λ _ _ _ m. m)

pub still_linked : (w : World) (p q : ℕ) (l : Link) → (is_linked (w.links p q) ≡ true → is_linked l ≡ true) → (i k : ℕ) → is_linked (w.links i k) ≡ true
    → is_linked ((with_link w p q l).links i k) ≡ true
still_linked w p q l made =
    still_linked_row w p (updated (w.links p) q l)
    (all_updated (λ k (l : Link). is_linked (w.links p k) ≡ true → is_linked l ≡ true) (w.links p) q l made (λ _ _ m. m))

-- all links of one site
pub sound_with_links : (w : World) (p : ℕ) (row : ℕ → Link) → Sound w
    → ((k : ℕ) → GoodLink (w.lines (w.nodes p).line) p k (w.nodes p) (w.nodes k) (row k))
    → ((k : ℕ) → is_linked (w.links p k) ≡ true → is_linked (row k) ≡ true)
    → (is_origin (w.nodes p).role ≡ false → (k : ℕ) → is_linked (row k) ≡ true → is_linked (w.links p k) ≡ true) → Sound (with_links w p row)
sound_with_links w p row s h made old =
    sound_links w (updated w.links p row) s
    (all_updated (λ i (r : ℕ → Link). (k : ℕ) → GoodLink (w.lines (w.nodes i).line) i k (w.nodes i) (w.nodes k) (r k)) w.links p row h (λ i _. s.links i))
    (still_linked_row w p row made)
    (all_updated (λ i (r : ℕ → Link). (k : ℕ) → is_linked (r k) ≡ true → is_origin (w.nodes i).role ≡ false → is_linked (w.links i k) ≡ true) w.links p row
    (λ k is r. old r k is) (λ _ _ _ is _. is))

-- one link
pub sound_with_link : (w : World) (p q : ℕ) (l : Link) → Sound w → GoodLink (w.lines (w.nodes p).line) p q (w.nodes p) (w.nodes q) l
    → (is_linked (w.links p q) ≡ true → is_linked l ≡ true)
    → (is_origin (w.nodes p).role ≡ false → is_linked l ≡ true → is_linked (w.links p q) ≡ true) → Sound (with_link w p q l)
sound_with_link w p q l s h made old =
    sound_with_links w p (updated (w.links p) q l) s
    (all_updated (λ k (l : Link). GoodLink (w.lines (w.nodes p).line) p k (w.nodes p) (w.nodes k) l) (w.links p) q l h (λ k _. s.links p k))
    (all_updated (λ k (l : Link). is_linked (w.links p k) ≡ true → is_linked l ≡ true) (w.links p) q l made (λ _ _ m. m))
    (λ r. all_updated (λ k (l : Link). is_linked l ≡ true → is_linked (w.links p k) ≡ true) (w.links p) q l (old r) (λ _ _ m. m))

-- any later state of the sites and the lines
pub sound_later : (w : World) (f : ℕ → Node) (h : Line → History) → Sound w → ((i : ℕ) → IsLater (w.nodes i) (f i))
    → ((l : Line) → IsPrefixOf (w.lines l).held (h l).held) → Good (record w { nodes = f; lines = h }) → ((i : ℕ) → LosesNothing (f i))
    → ((i : ℕ) → IsFed (f i)) → ((i : ℕ) → TakesUpdates (f i)) → ((i : ℕ) → IsMarked (f i)) → ((i : ℕ) → IsNewest (f i))
    → ((i : ℕ) → StoodHere (f i))
    → ((p q : ℕ) → is_origin (f p).role ≡ true → IsFollowed (f p) (f q) (w.links p q)
    → LinkSays (w.lines (w.nodes p).line) q (w.nodes q) (w.links p q) → LinkSays (h (f p).line) q (f q) (w.links p q))
    → ((i : ℕ) → KnownNode w.nodes w.links i (f i)) → ((l : Line) (i : ℕ) → ((h l).replays i).begun ≡ 0) → Sound (record w { nodes = f; lines = h })
sound_later w f h s later grow good whole fed takes marked newest stands modes known unbegun =
    let before : (l : Line) (i : ℕ) → IsStranger f w.links l i → IsStranger w.nodes w.links l i = λ l i q.
    (sym (later l.origin).line ∙ q.0, q.1, sym (later i).bunker ∙ q.2) in
    let strange : (i : ℕ) (l : Line) → OriginHere (f i) l → IsStranger f w.links l i =
    λ i l o. origin_strange (record w { nodes = f; lines = h }) i l good (s.links i i).apart o in
    record {
      good = good;
      whole = whole;
      fed = fed;
      takes = takes;
      marked = marked;
      newest = newest;
      stands = stands;
      come = λ i. subst (λ (ls : List Line). AllByRecursion (HasCome f i) ls) (sym (later i).stood)
          (each_weaker (HasCome w.nodes i) (HasCome f i) (come_later w.nodes f later i) (w.nodes i).stood (s.come i));
      links = λ p q. link_later (w.lines (w.nodes p).line) (h (f p).line) p q (w.nodes p) (w.nodes q) (f p) (f q) (w.links p q) (later p) (later q)
          (modes p q) (s.links p q);
      bunkers = λ p q is r g. s.bunkers p q is (sym (later p).origin ∙ r)
          (subst (λ (l : Line). IsStranger w.nodes w.links l q) (later p).line (before (f p).line q g));
      packets = packets_later w.nodes f w.links w.links later before strange w.lines h grow w.packets s.packets;
      promised = promises_later w.nodes f w.links w.links later before strange w.promised s.promised;
      known = λ i is r q. known i is r (before (f i).line i q);
      unbegun = unbegun;
    }

-- what the modes of links say of a site they say of it as it is now
abbrev pub StaysFed : World → ℕ → Node → Type 0
StaysFed w i n = is_origin n.role ≡ false → (l : Link) → LinkSays (w.lines (w.nodes i).line) i (w.nodes i) l → LinkSays (w.lines (w.nodes i).line) i n l

-- so where one site changes, and the line of its links stays
modes_now : (w : World) (i : ℕ) (n : Node) → n.line ≡ (w.nodes i).line → StaysFed w i n → (p q : ℕ)
    → IsFollowed (updated w.nodes i n p) (updated w.nodes i n q) (w.links p q) → LinkSays (w.lines (w.nodes p).line) q (w.nodes q) (w.links p q)
    → LinkSays (w.lines (updated w.nodes i n p).line) q (updated w.nodes i n q) (w.links p q)
modes_now w i n same stays p q followed says =
    let line : (k : ℕ) → (updated w.nodes i n k).line ≡ (w.nodes k).line = all_updated (λ k (m : Node). m.line ≡ (w.nodes k).line) w.nodes i n same (λ _ _. refl) in
    let here : (w.nodes p).line ≡ (w.nodes q).line = sym (line p) ∙ sym followed.2 ∙ line q in
    let now : LinkSays (w.lines (w.nodes q).line) q (updated w.nodes i n q) (w.links p q) =
    all_updated (λ k (d : Node). is_origin d.role ≡ false → LinkSays (w.lines (w.nodes k).line) k (w.nodes k) (w.links p k)
    → LinkSays (w.lines (w.nodes k).line) k d (w.links p k)) w.nodes i n
    (λ r. stays r (w.links p i)) (λ _ _ _ x. x) q followed.1 (subst (λ (l : Line). LinkSays (w.lines l) q (w.nodes q) (w.links p q)) here says) in
    subst (λ (l : Line). LinkSays (w.lines l) q (updated w.nodes i n q) (w.links p q)) (sym (line q) ∙ followed.2) now

-- one site, with the lines as they are
pub sound_with_node : (w : World) (i : ℕ) (n : Node) → Sound w → Good (with_node w i n) → IsLater (w.nodes i) n → LosesNothing n → IsFed n → TakesUpdates n
    → IsMarked n → IsNewest n → StoodHere n → StaysFed w i n → KnownNode w.nodes w.links i n → Sound (with_node w i n)
sound_with_node w i n s good later whole fed takes marked newest stands stays known =
    sound_later w (updated w.nodes i n) w.lines s
    (all_updated (λ k (m : Node). IsLater (w.nodes k) m) w.nodes i n later (λ k _. later_same (w.nodes k)))
    (λ l. prefix_refl (w.lines l).held)
    good
    (all_updated (λ k (m : Node). LosesNothing m) w.nodes i n whole (λ k _. s.whole k))
    (all_updated (λ k (m : Node). IsFed m) w.nodes i n fed (λ k _. s.fed k))
    (all_updated (λ k (m : Node). TakesUpdates m) w.nodes i n takes (λ k _. s.takes k))
    (all_updated (λ k (m : Node). IsMarked m) w.nodes i n marked (λ k _. s.marked k))
    (all_updated (λ k (m : Node). IsNewest m) w.nodes i n newest (λ k _. s.newest k))
    (all_updated (λ k (m : Node). StoodHere m) w.nodes i n stands (λ k _. s.stands k))
    (λ p q _ followed. modes_now w i n later.line stays p q followed)
    (all_updated (λ k (m : Node). KnownNode w.nodes w.links k m) w.nodes i n known (λ k _. s.known k))
    s.unbegun

-- what the links of an origin say by its line they say by its line as it is recorded now
abbrev pub FeedsOn : World → ℕ → History → Type 0
FeedsOn w i h = (q : ℕ) → IsFollowed (w.nodes i) (w.nodes q) (w.links i q) → LinkSays (w.lines (w.nodes i).line) q (w.nodes q) (w.links i q)
    → LinkSays h q (w.nodes q) (w.links i q)

module _ (w : World) (i : ℕ) (n : Node) (h : History) (s : Sound w) (good : Good (with_history w i n h)) (later : IsLater (w.nodes i) n) (made : IsMade n)
    (origin : is_origin n.role ≡ true) (feeds : FeedsOn w i h) where
  same_line_at : (k : ℕ) → (updated w.nodes i n k).line ≡ (w.nodes k).line
  same_line_at = all_updated (λ k (m : Node). m.line ≡ (w.nodes k).line) w.nodes i n later.line (λ _ _. refl)

  -- the origin of the line is the site
  own : n.line.origin ≡ i
  own = subst (λ (m : Node). IsMade m → is_origin m.role ≡ true → m.line.origin ≡ i) (at_place w.nodes i n) (good.nodes i).own_line made origin

  sender : (p q : ℕ) → is_origin (updated w.nodes i n p).role ≡ true → IsFollowed (updated w.nodes i n p) (updated w.nodes i n q) (w.links p q)
      → (updated w.nodes i n p).line ≡ n.line → p ≡ i
  sender p q o followed e =
      let is : IsMade (updated w.nodes i n p) = all_updated (λ k (m : Node). IsMade (w.nodes k) → IsMade m) w.nodes i n later.made (λ _ _ x. x) p ((s.links p q).ends followed.0).0 in
      sym ((good.nodes p).own_line is o) ∙ ap (λ (l : Line). l.origin) e ∙ own

  -- a link that starts elsewhere goes by another line, and so to another site
  apart_at : (p q : ℕ) → (p ≡ i → ⊥) → is_origin (updated w.nodes i n p).role ≡ true → IsFollowed (updated w.nodes i n p) (updated w.nodes i n q) (w.links p q)
      → (q ≡ i → ⊥) × ((updated w.nodes i n p).line ≡ n.line → ⊥)
  apart_at p q apart o followed = (
    λ e. apart (sender p q o followed (sym followed.2 ∙ ap (λ (k : ℕ). (updated w.nodes i n k).line) e ∙ ap (λ (m : Node). m.line) (at_place w.nodes i n))),
    λ e. apart (sender p q o followed e),
  )

  here_says : (q : ℕ) → IsFollowed (updated w.nodes i n i) (updated w.nodes i n q) (w.links i q) → LinkSays (w.lines (w.nodes i).line) q (w.nodes q) (w.links i q)
      → LinkSays (line_updated w.lines n.line h (updated w.nodes i n i).line) q (updated w.nodes i n q) (w.links i q)
  here_says q followed says =
      let other : q ≡ i → ⊥ = λ e. (s.links i q).apart followed.0 (sym e) in
      let same : updated w.nodes i n q ≡ w.nodes q = updated_other w.nodes i q n other in
      let was : IsFollowed (w.nodes i) (w.nodes q) (w.links i q) = (
        followed.0,
        subst (λ (m : Node). is_origin m.role ≡ false) same followed.1,
        sym (same_line_at q) ∙ followed.2 ∙ same_line_at i,
      ) in
      let line : line_updated w.lines n.line h (updated w.nodes i n i).line ≡ h =
      ap (λ (m : Node). line_updated w.lines n.line h m.line) (at_place w.nodes i n) ∙ at_line w.lines n.line h in
      subst (λ (r : History). LinkSays r q (updated w.nodes i n q) (w.links i q)) (sym line)
      (subst (λ (m : Node). LinkSays h q m (w.links i q)) (sym same) (feeds q was says))

  there_says : (p q : ℕ) → (p ≡ i → ⊥) → is_origin (updated w.nodes i n p).role ≡ true → IsFollowed (updated w.nodes i n p) (updated w.nodes i n q) (w.links p q)
      → LinkSays (w.lines (w.nodes p).line) q (w.nodes q) (w.links p q) → LinkSays (line_updated w.lines n.line h (updated w.nodes i n p).line) q (updated w.nodes i n q) (w.links p q)
  there_says p q apart o followed says =
      let two = apart_at p q apart o followed in
      let line : line_updated w.lines n.line h (updated w.nodes i n p).line ≡ w.lines (w.nodes p).line =
      by_test (λ (r : History). r ≡ w.lines (w.nodes p).line) (same_line (updated w.nodes i n p).line n.line) h (w.lines (updated w.nodes i n p).line)
      (λ e. absurd (two.1 (same_line_equal (updated w.nodes i n p).line n.line e))) (λ _. ap w.lines (same_line_at p)) in
      subst (λ (r : History). LinkSays r q (updated w.nodes i n q) (w.links p q)) (sym line)
      (subst (λ (m : Node). LinkSays (w.lines (w.nodes p).line) q m (w.links p q)) (sym (updated_other w.nodes i q n two.0)) says)

  pub modes_by_line : (p q : ℕ) → is_origin (updated w.nodes i n p).role ≡ true → IsFollowed (updated w.nodes i n p) (updated w.nodes i n q) (w.links p q)
      → LinkSays (w.lines (w.nodes p).line) q (w.nodes q) (w.links p q) → LinkSays (line_updated w.lines n.line h (updated w.nodes i n p).line) q (updated w.nodes i n q) (w.links p q)
  modes_by_line p q o followed says = by_site (eqb p i) refl
    where
      by_site : (b : Bool) → eqb p i ≡ b → LinkSays (line_updated w.lines n.line h (updated w.nodes i n p).line) q (updated w.nodes i n q) (w.links p q)
      by_site true e =
          let same : p ≡ i = eqb_equal p i e in
          subst (λ (k : ℕ). IsFollowed (updated w.nodes i n k) (updated w.nodes i n q) (w.links k q) → LinkSays (w.lines (w.nodes k).line) q (w.nodes q) (w.links k q)
          → LinkSays (line_updated w.lines n.line h (updated w.nodes i n k).line) q (updated w.nodes i n q) (w.links k q)) (sym same) (here_says q) followed says
      by_site false e = there_says p q (eqb_apart p i e) o followed says

-- an origin, with its line's record
pub sound_with_history : (w : World) (i : ℕ) (n : Node) (h : History) → Sound w → Good (with_history w i n h) → IsLater (w.nodes i) n → IsMade n → is_origin n.role ≡ true
    → IsPrefixOf (w.lines n.line).held h.held → LosesNothing n → IsFed n → TakesUpdates n → IsMarked n → IsNewest n → StoodHere n
    → FeedsOn w i h → KnownNode w.nodes w.links i n → ((k : ℕ) → (h.replays k).begun ≡ 0) → Sound (with_history w i n h)
sound_with_history w i n h s good later made origin grow whole fed takes marked newest stands feeds known unbegun =
    sound_later w (updated w.nodes i n) (line_updated w.lines n.line h) s
    (all_updated (λ k (m : Node). IsLater (w.nodes k) m) w.nodes i n later (λ k _. later_same (w.nodes k)))
    (all_lines (λ l (r : History). IsPrefixOf (w.lines l).held r.held) w.lines n.line h grow (λ l _. prefix_refl (w.lines l).held))
    good
    (all_updated (λ k (m : Node). LosesNothing m) w.nodes i n whole (λ k _. s.whole k))
    (all_updated (λ k (m : Node). IsFed m) w.nodes i n fed (λ k _. s.fed k))
    (all_updated (λ k (m : Node). TakesUpdates m) w.nodes i n takes (λ k _. s.takes k))
    (all_updated (λ k (m : Node). IsMarked m) w.nodes i n marked (λ k _. s.marked k))
    (all_updated (λ k (m : Node). IsNewest m) w.nodes i n newest (λ k _. s.newest k))
    (all_updated (λ k (m : Node). StoodHere m) w.nodes i n stands (λ k _. s.stands k))
    (modes_by_line w i n h s good later made origin feeds)
    (all_updated (λ k (m : Node). KnownNode w.nodes w.links k m) w.nodes i n known (λ k _. s.known k))
    (all_lines (λ l (r : History). (k : ℕ) → (r.replays k).begun ≡ 0) w.lines n.line h unbegun (λ l _. s.unbegun l))

-- a site that is there is given out
pub given : (w : World) (i : ℕ) (n : Node) → Good w → IsMade (w.nodes i) → w.sites ≤ i → n.state ≡ Bare
given w i n good made past = absurd (made (good.later i past))

-- a site that stays on its line is as good as its own facts say
pub good_later : (w : World) (i : ℕ) (n : Node) → Good w → IsMade (w.nodes i) → n.line ≡ (w.nodes i).line → (IsMade (w.nodes i) → IsMade n)
    → GoodNode (w.lines (w.nodes i).line) i n → Good (with_node w i n)
good_later w i n good made line stays node =
    good_stays w i n good
    (subst (λ (l : Line). GoodNode (w.lines l) i n) (sym line) node)
    (λ _. inl (subst (λ (l : Line). IsMade (w.nodes l.origin)) (sym line) (good.begun i made)))
    stays
    (given w i n good made)

-- packets from a site that has just changed
pub at_changed : (P : Node → Type 0) (f : ℕ → Node) (i : ℕ) (n : Node) → P n → P (updated f i n i)
at_changed P f i n h = subst P (sym (at_place f i n)) h

-- what is said of a link that is not there
pub unlinked_good : (h : History) (p q : ℕ) (a b : Node) (l : Link) → (is_linked l ≡ true → ⊥) → GoodLink h p q a b l
unlinked_good h p q a b l none = record {
  ends = λ e. absurd (none e);
  starts = λ e. absurd (none e);
  apart = λ e. absurd (none e);
  came = λ e. absurd (none e);
  session = λ e. absurd (none e);
  stored = λ v. absurd (none v.0);
  net = λ v _. absurd (none v.0);
  says = λ _ v. absurd (none v.0);
}
