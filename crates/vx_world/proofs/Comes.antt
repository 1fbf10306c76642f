-- A site comes to a line, or is made more than bare: what that has to show.
use Rattle.std.proofs.Common.{◌≡◌, ℕ, ◌≤◌, List, [], ◌∷◌, length, refl, ap, sym, ◌∙◌, subst, arith, Bool, true, false, inl}
use Rattle.std.specs.Prelude.{eqb}
use Rattle.std.specs.List.{AllByRecursion}
use Rattle.vx_model.specs.Content.{Write}
use Rattle.vx_history.specs.World.{World, Node, History, Packet, Promise, Message, Surety, Hello, Update, NetAck, DataAck, Durable, InSession, with_node, updated}
use Rattle.vx_model.specs.Sites.{is_origin}
use Rattle.vx_history.specs.Good.{Good, IsMade}
use Rattle.vx_model.specs.declared.history.Line.{Line}
use Rattle.vx_model.specs.declared.site.SPhase.TheVariants.{Log as ByLog}
use Rattle.vx_model.specs.declared.site.SiteState.TheVariants.{Bare}
use Rattle.vx_history.specs.Refusals.{is_bunker}
use Rattle.vx_history.proofs.Updates.{all_updated, by_test, eqb_equal}
use Rattle.vx_history.proofs.GoodLemmas.{good_stays}
use Rattle.vx_history.specs.Sends.{is_linked}
use Rattle.vx_history.specs.Sound.{LosesNothing, IsFed, TakesUpdates, IsMarked, IsNewest, StoodHere, has_line, HasCome, CameTo, GoodLink, GoodMessage, GoodPacket, GoodPromise, IsKept, IsStranger, StrangerSays, KnownNode, Sound}
use Rattle.vx_world.specs.Comings.{MayCome, MayComeFirst}
use Rattle.vx_world.proofs.Lists.{each_append, each_weaker, not_both}
use Rattle.vx_world.proofs.Stood.{more_lines, last_line, who_came}
use Rattle.vx_world.proofs.Carry.{says_later}
use Rattle.vx_world.proofs.Moves.{at_changed, unlinked_good, given}

-- ## A site comes to a line

-- what a site said of another line than the one to which it comes is no matter
message_comes : (held : List Write) (a n : Node) (line : Line) (m : Message) → a.session ≤ n.session → (n.line ≡ line → GoodMessage held n line m)
    → GoodMessage held a line m → GoodMessage held n line m
message_comes held a n line (Update number x) later here h = h
message_comes held a n line (NetAck session number) later here (old, _) = (omega (arith, old, later), λ e. (here e).1 e)
message_comes held a n line (Hello session number stored) later here (old, _, _) = (omega (arith, old, later), λ e. (here e).1 e, λ e. (here e).2 e)
message_comes held a n line (DataAck number) later here h = λ e. here e e

kept_comes : (a n : Node) (line : Line) (number : ℕ) (t : Surety) → a.session ≤ n.session → (n.line ≡ line → IsKept n line number t)
    → IsKept a line number t → IsKept n line number t
kept_comes a n line number Durable later here h = λ e. here e e
kept_comes a n line number (InSession session) later here (old, _) = (omega (arith, old, later), λ e. (here e).1 e)

-- A site comes to a line with whatever it then has of it: what it had said there, what was promised of it there, and what the links say
-- that lead to it, hold of what it has.
module _ (w : World) (i : ℕ) (n : Node) (s : Sound w) (apart : n.line.origin ≡ i → ⊥) (made : IsMade (w.nodes i)) (stays : IsMade n)
    (grows : (w.nodes i).session ≤ n.session) (may : MayCome w i n)
    (alone : (k : ℕ) → is_linked (w.links i k) ≡ true → ⊥) (plain : is_bunker (w.nodes i).role ≡ false) where
  abbrev joined_nodes : ℕ → Node
  joined_nodes = updated w.nodes i n

  before : (l : Line) (k : ℕ) → IsStranger joined_nodes w.links l k → IsStranger w.nodes w.links l k
  before l k q = (
    all_updated (λ j (m : Node). j ≡ l.origin → m.line ≡ l → (w.nodes j).line ≡ l) w.nodes i n
        (λ e g. absurd (apart (ap (λ (x : Line). x.origin) g ∙ sym e))) (λ j _ _ g. g) l.origin refl q.0,
    q.1,
    all_updated (λ j (m : Node). is_bunker m.role ≡ false → is_bunker (w.nodes j).role ≡ false) w.nodes i n (λ _. plain) (λ _ _ e. e) k q.2,
  )

  still_made : (k : ℕ) → IsMade (w.nodes k) → IsMade (joined_nodes k)
  still_made = all_updated (λ k (m : Node). IsMade (w.nodes k) → IsMade m) w.nodes i n (λ _. stays) (λ k _ is. is)

  top_rises : (k : ℕ) → (w.nodes k).top ≤ (joined_nodes k).top
  top_rises = all_updated (λ k (m : Node). (w.nodes k).top ≤ m.top) w.nodes i n may.tops (λ k _. omega arith)

  -- who came to a line came to it, and so has the site
  still_come : (k : ℕ) (line : Line) → HasCome w.nodes k line → HasCome joined_nodes k line
  still_come k line h = record {
    here = still_made k h.here;
    there = still_made line.origin h.there;
    top = omega (arith, h.top, top_rises k);
    named = omega (arith, h.named, top_rises line.origin);
    rises = all_updated (λ j (m : Node). HasCome w.nodes j line → line.origin ≡ m.line.origin → line.generation ≤ m.line.generation) w.nodes i n
        (may.rises line) (λ j _ c. c.rises) k h;
  }

  has_come : HasCome joined_nodes i n.line
  has_come = record {
    here = at_changed IsMade w.nodes i n stays;
    there = still_made n.line.origin may.began;
    top = at_changed (λ (m : Node). n.line.generation ≤ m.top) w.nodes i n may.topped;
    named = omega (arith, may.named, top_rises n.line.origin);
    rises = λ _. at_changed (λ (m : Node). n.line.generation ≤ m.line.generation) w.nodes i n (omega arith);
  }

  all_come : AllByRecursion (HasCome joined_nodes i) n.stood
  all_come = subst (λ (ls : List Line). AllByRecursion (HasCome joined_nodes i) ls) (sym may.notes)
      (each_append (HasCome joined_nodes i) (w.nodes i).stood (n.line ∷ [])
      (each_weaker (HasCome w.nodes i) (HasCome joined_nodes i) (still_come i) (w.nodes i).stood (s.come i)) (has_come, tt))

  stood_more : (line : Line) → has_line (w.nodes i).stood line ≡ true → has_line n.stood line ≡ true
  stood_more line e = ap (λ (ls : List Line). has_line ls line) may.notes ∙ more_lines (w.nodes i).stood (n.line ∷ []) line e

  still_came : (line : Line) (k : ℕ) → CameTo w.nodes line k → CameTo joined_nodes line k
  still_came line = all_updated (λ k (m : Node). CameTo w.nodes line k → has_line m.stood line ≡ true) w.nodes i n (stood_more line) (λ k _ c. c)

  pub sound_coming : ((p : ℕ) → GoodLink (w.lines (w.nodes p).line) p i (w.nodes p) n (w.links p i))
      → ((p : Packet) → p.source ≡ i → n.line ≡ p.line → GoodPacket w.nodes w.links w.lines p → GoodMessage (w.lines p.line).held n p.line p.message)
      → ((e : Promise) → e.site ≡ i → n.line ≡ e.line → GoodPromise w.nodes w.links e → IsKept n e.line e.number e.surety)
      → KnownNode joined_nodes w.links i n → Good (with_node w i n) → LosesNothing n → IsFed n → TakesUpdates n → IsMarked n → IsNewest n
      → Sound (with_node w i n)
  sound_coming comes says keeps known good whole fed takes marked newest = record {
    good = good;
    whole = all_updated (λ k (m : Node). LosesNothing m) w.nodes i n whole (λ k _. s.whole k);
    fed = all_updated (λ k (m : Node). IsFed m) w.nodes i n fed (λ k _. s.fed k);
    takes = all_updated (λ k (m : Node). TakesUpdates m) w.nodes i n takes (λ k _. s.takes k);
    marked = all_updated (λ k (m : Node). IsMarked m) w.nodes i n marked (λ k _. s.marked k);
    newest = all_updated (λ k (m : Node). IsNewest m) w.nodes i n newest (λ k _. s.newest k);
    stands = all_updated (λ k (m : Node). StoodHere m) w.nodes i n
        (λ _. ap (λ (ls : List Line). has_line ls n.line) may.notes ∙ last_line (w.nodes i).stood n.line) (λ k _. s.stands k);
    come = all_updated (λ k (m : Node). AllByRecursion (HasCome joined_nodes k) m.stood) w.nodes i n all_come
        (λ k _. each_weaker (HasCome w.nodes k) (HasCome joined_nodes k) (still_come k) (w.nodes k).stood (s.come k));
    links =
        all_updated (λ p (a : Node). (q : ℕ) → GoodLink (w.lines a.line) p q a (joined_nodes q) (w.links p q)) w.nodes i n
        (λ q. unlinked_good (w.lines n.line) i q n (joined_nodes q) (w.links i q) (alone q))
        (λ p _. all_updated (λ q (b : Node). GoodLink (w.lines (w.nodes p).line) p q (w.nodes p) b (w.links p q)) w.nodes i n (comes p)
        (λ q _. s.links p q));
    bunkers = λ p q is. all_updated (λ j (a : Node). is_linked (w.links j q) ≡ true → is_origin a.role ≡ false
        → IsStranger joined_nodes w.links a.line q → ⊥) w.nodes i n
        (λ there _ _. alone q there) (λ j _ there r g. s.bunkers j q there r (before (w.nodes j).line q g)) p is;
    packets =
        each_weaker (GoodPacket w.nodes w.links w.lines) (GoodPacket joined_nodes w.links w.lines)
        (λ p q. record {
          said = all_updated (λ j (m : Node). j ≡ p.source → GoodMessage (w.lines p.line).held m p.line p.message) w.nodes i n
              (λ e. message_comes (w.lines p.line).held (w.nodes i) n p.line p.message grows (λ here. says p (sym e) here q)
              (subst (λ (j : ℕ). GoodMessage (w.lines p.line).held (w.nodes j) p.line p.message) (sym e) q.said))
              (λ j _ e. subst (λ (x : ℕ). GoodMessage (w.lines p.line).held (w.nodes x) p.line p.message) (sym e) q.said) p.source refl;
          known = says_later _ _ _ _ (before p.line p.target) (before p.line p.source) p.message q.known;
          came = still_came p.line p.source q.came;
        })
        w.packets s.packets;
    promised =
        each_weaker (GoodPromise w.nodes w.links) (GoodPromise joined_nodes w.links)
        (λ e q. record {
          kept = all_updated (λ j (m : Node). j ≡ e.site → IsKept m e.line e.number e.surety) w.nodes i n
              (λ f. kept_comes (w.nodes i) n e.line e.number e.surety grows (λ here. keeps e (sym f) here q)
              (subst (λ (j : ℕ). IsKept (w.nodes j) e.line e.number e.surety) (sym f) q.kept))
              (λ j _ f. subst (λ (x : ℕ). IsKept (w.nodes x) e.line e.number e.surety) (sym f) q.kept) e.site refl;
          known = λ t. q.known (before e.line e.site t);
          came = still_came e.line e.site q.came;
        })
        w.promised s.promised;
    known = all_updated (λ k (m : Node). KnownNode joined_nodes w.links k m) w.nodes i n known (λ k _ is o q. s.known k is o (before (w.nodes k).line k q));
    unbegun = s.unbegun;
  }

-- ## A stranger comes to a line

-- what a site said of a line to which it comes only now is that it had nothing of it
message_joins : (held : List Write) (a n : Node) (line : Line) (to from : Type 0) → a.session ≤ n.session → from
    → (n.phase ≡ ByLog → ⊥) → (m : Message) → GoodMessage held a line m → StrangerSays to from m → GoodMessage held n line m
message_joins held a n line to from later stranger quiet (Update number x) h k = h
message_joins held a n line to from later stranger quiet (NetAck session number) (old, _) k = (omega (arith, old, later), λ _ _. omega (arith, k stranger))
message_joins held a n line to from later stranger quiet (Hello session number stored) (old, _, _) k =
    (omega (arith, old, later), λ _ _. omega (arith, (k stranger).0), λ _. (omega (arith, (k stranger).1), λ by _. absurd (quiet by)))
message_joins held a n line to from later stranger quiet (DataAck number) h k = λ _. (omega (arith, k stranger), λ by _. absurd (quiet by))

-- a site comes, with nothing, to a line whose origin stands on it and keeps no link to the site: it joins at number 0
module _ (w : World) (i : ℕ) (n : Node) (s : Sound w) (stranger : IsStranger w.nodes w.links n.line i) (apart : n.line.origin ≡ i → ⊥)
    (made : IsMade (w.nodes i)) (stays : IsMade n) (grows : (w.nodes i).session ≤ n.session) (may : MayCome w i n) (alone : (k : ℕ) → is_linked (w.links i k) ≡ true → ⊥)
    (quiet : n.phase ≡ ByLog → ⊥) where
  stranger_at : (k : ℕ) (line : Line) → k ≡ i → n.line ≡ line → IsStranger w.nodes w.links line k
  stranger_at k line e g = subst (λ (j : ℕ). IsStranger w.nodes w.links line j) (sym e) (subst (λ (l : Line). IsStranger w.nodes w.links l i) g stranger)

  -- no site on its new line has a link to it
  unlinked : (p : ℕ) → is_linked (w.links p i) ≡ true → n.line ≡ (w.nodes p).line → ⊥
  unlinked p is e = by_origin (is_origin (w.nodes p).role) refl
    where
      by_origin : (o : Bool) → is_origin (w.nodes p).role ≡ o → ⊥
      by_origin true o =
          let g : n.line.origin ≡ p = ap (λ (x : Line). x.origin) e ∙ (s.good.nodes p).own_line ((s.links p i).ends is).0 o in
          not_both (is_linked (w.links p i)) is (ap (λ (j : ℕ). is_linked (w.links j i)) (sym g) ∙ stranger.1)
      by_origin false r = s.bunkers p i is r (subst (λ (l : Line). IsStranger w.nodes w.links l i) e stranger)

  comes : (p : ℕ) → GoodLink (w.lines (w.nodes p).line) p i (w.nodes p) n (w.links p i)
  comes p = record {
    ends = λ e. (((s.links p i).ends e).0, stays);
    starts = (s.links p i).starts;
    apart = (s.links p i).apart;
    came = λ e. ap (λ (ls : List Line). has_line ls (w.nodes p).line) may.notes
        ∙ more_lines (w.nodes i).stood (n.line ∷ []) (w.nodes p).line ((s.links p i).came e);
    session = λ e. omega (arith, (s.links p i).session e, grows);
    stored = λ v. absurd (unlinked p v.0 v.2);
    net = λ v _. absurd (unlinked p v.0 v.2);
    says = λ _ v. absurd (unlinked p v.0 v.2);
  }

  pub sound_joining : Good (with_node w i n) → LosesNothing n → IsFed n → TakesUpdates n → IsMarked n → IsNewest n → length n.log ≤ 0
      → Sound (with_node w i n)
  sound_joining good whole fed takes marked newest empty =
      sound_coming w i n s apart made stays grows may alone stranger.2 comes
      (λ p e here q. message_joins (w.lines p.line).held (w.nodes i) n p.line _ _ grows (stranger_at p.source p.line e here) quiet p.message
      (subst (λ (j : ℕ). GoodMessage (w.lines p.line).held (w.nodes j) p.line p.message) e q.said) q.known)
      (λ e at here q. absurd (q.known (stranger_at e.site e.line at here)))
      (λ _ _ _. empty) good whole fed takes marked newest

-- ## A site comes to a line for the first time

-- it said nothing there, nothing was promised of it there, and no link on the line leads to it: so it may have any first part of the line
module _ (w : World) (i : ℕ) (n : Node) (s : Sound w) (may : MayComeFirst w i n) where
  never : (line : Line) → n.line ≡ line → CameTo w.nodes line i → ⊥
  never line e came =
      not_both (has_line (w.nodes i).stood n.line) (ap (λ (l : Line). has_line (w.nodes i).stood l) e ∙ came) may.new

  first_link : (p : ℕ) → GoodLink (w.lines (w.nodes p).line) p i (w.nodes p) n (w.links p i)
  first_link p = record {
    ends = λ e. (((s.links p i).ends e).0, may.stays);
    starts = (s.links p i).starts;
    apart = (s.links p i).apart;
    came = λ e. ap (λ (ls : List Line). has_line ls (w.nodes p).line) may.comes.notes
        ∙ more_lines (w.nodes i).stood (n.line ∷ []) (w.nodes p).line ((s.links p i).came e);
    session = λ e. omega (arith, (s.links p i).session e, may.session);
    stored = λ v. absurd (never (w.nodes p).line v.2 ((s.links p i).came v.0));
    net = λ v _. absurd (never (w.nodes p).line v.2 ((s.links p i).came v.0));
    says = λ _ v. absurd (never (w.nodes p).line v.2 ((s.links p i).came v.0));
  }

  none_kept : (k : ℕ) → is_linked (w.links i k) ≡ true → ⊥
  none_kept k is = not_both (is_linked (w.links i k)) is (may.alone k)

  pub comes_first : Sound (with_node w i n)
  comes_first =
      sound_coming w i n s may.elsewhere may.made may.stays may.session may.comes none_kept may.plain first_link
      (λ p e here q. absurd (never p.line here (subst (λ (j : ℕ). CameTo w.nodes p.line j) e q.came)))
      (λ e at here q. absurd (never e.line here (subst (λ (j : ℕ). CameTo w.nodes e.line j) at q.came)))
      (λ made r g. may.known made r (before w i n s may.elsewhere may.made may.stays may.session may.comes none_kept may.plain n.line i g))
      (good_stays w i n s.good may.good (λ _. inl may.comes.began) (λ _. may.stays) (given w i n s.good may.made))
      may.whole may.fed may.takes may.marked may.newest

-- ## A bare site changes

-- nothing was said of a bare site, and nothing of a line that it may begin
module _ (w : World) (i sites : ℕ) (n : Node) (h : Line → History) (s : Sound w) (bare : (w.nodes i).state ≡ Bare)
    (other : (l : Line) → (l.origin ≡ i → ⊥) → w.lines l ≡ h l) where
  abbrev founded_nodes : ℕ → Node
  founded_nodes = updated w.nodes i n

  made_elsewhere : (k : ℕ) → IsMade (w.nodes k) → k ≡ i → ⊥
  made_elsewhere k made e = made (ap (λ (j : ℕ). (w.nodes j).state) e ∙ bare)

  same_elsewhere : (k : ℕ) → IsMade (w.nodes k) → w.nodes k ≡ founded_nodes k
  same_elsewhere k made = by_test (λ (m : Node). w.nodes k ≡ m) (eqb k i) n (w.nodes k) (λ e. absurd (made_elsewhere k made (eqb_equal k i e))) (λ _. refl)

  pub come_still : (k : ℕ) (line : Line) → HasCome w.nodes k line → HasCome founded_nodes k line
  come_still k line c = record {
    here = subst IsMade (same_elsewhere k c.here) c.here;
    there = subst IsMade (same_elsewhere line.origin c.there) c.there;
    top = subst (λ (m : Node). line.generation ≤ m.top) (same_elsewhere k c.here) c.top;
    named = subst (λ (m : Node). line.generation ≤ m.top) (same_elsewhere line.origin c.there) c.named;
    rises = subst (λ (m : Node). line.origin ≡ m.line.origin → line.generation ≤ m.line.generation) (same_elsewhere k c.here) c.rises;
  }

  came_still : (line : Line) (k : ℕ) → CameTo w.nodes line k → CameTo founded_nodes line k
  came_still line k c = subst (λ (m : Node). has_line m.stood line ≡ true) (same_elsewhere k (who_came w s line k c).here) c

  stranger_was : (l : Line) (k : ℕ) → IsMade (w.nodes l.origin) → IsStranger founded_nodes w.links l k → IsStranger w.nodes w.links l k
  stranger_was l k made q = (
    subst (λ (m : Node). m.line ≡ l) (sym (same_elsewhere l.origin made)) q.0,
    q.1,
    all_updated (λ j (m : Node). is_bunker m.role ≡ false → is_bunker (w.nodes j).role ≡ false) w.nodes i n (λ _. ((s.good.nodes i).plain bare).0)
        (λ _ _ e. e) k q.2,
  )

  -- a link of another site goes by a line that is as it was
  still_good : (p q : ℕ) → GoodLink (h (w.nodes p).line) p q (w.nodes p) (w.nodes q) (w.links p q)
  still_good p q = by_link (is_linked (w.links p q)) refl
    where
      by_link : (b : Bool) → is_linked (w.links p q) ≡ b → GoodLink (h (w.nodes p).line) p q (w.nodes p) (w.nodes q) (w.links p q)
      by_link true is =
          subst (λ (r : History). GoodLink r p q (w.nodes p) (w.nodes q) (w.links p q))
          (other (w.nodes p).line (made_elsewhere (w.nodes p).line.origin (s.good.begun p ((s.links p q).ends is).0))) (s.links p q)
      by_link false none = unlinked_good (h (w.nodes p).line) p q (w.nodes p) (w.nodes q) (w.links p q) (λ is. not_both (is_linked (w.links p q)) is none)

  pub sound_founding : Good (record w { sites = sites; nodes = founded_nodes; lines = h }) → LosesNothing n → is_origin n.role ≡ true → TakesUpdates n
      → IsMarked n → IsNewest n → StoodHere n → AllByRecursion (HasCome founded_nodes i) n.stood → ((l : Line) (k : ℕ) → ((h l).replays k).begun ≡ 0)
      → Sound (record w { sites = sites; nodes = founded_nodes; lines = h })
  sound_founding good whole origin takes marked newest stands come unbegun = record {
    good = good;
    whole = all_updated (λ k (m : Node). LosesNothing m) w.nodes i n whole (λ k _. s.whole k);
    fed = all_updated (λ k (m : Node). IsFed m) w.nodes i n (λ r. not_both (is_origin n.role) origin r) (λ k _. s.fed k);
    takes = all_updated (λ k (m : Node). TakesUpdates m) w.nodes i n takes (λ k _. s.takes k);
    marked = all_updated (λ k (m : Node). IsMarked m) w.nodes i n marked (λ k _. s.marked k);
    newest = all_updated (λ k (m : Node). IsNewest m) w.nodes i n newest (λ k _. s.newest k);
    stands = all_updated (λ k (m : Node). StoodHere m) w.nodes i n stands (λ k _. s.stands k);
    come = all_updated (λ k (m : Node). AllByRecursion (HasCome founded_nodes k) m.stood) w.nodes i n come
        (λ k _. each_weaker (HasCome w.nodes k) (HasCome founded_nodes k) (come_still k) (w.nodes k).stood (s.come k));
    links =
        all_updated (λ p (a : Node). (q : ℕ) → GoodLink (h a.line) p q a (founded_nodes q) (w.links p q)) w.nodes i n
        (λ q. unlinked_good (h n.line) i q n (founded_nodes q) (w.links i q) (λ e. made_elsewhere i ((s.links i q).ends e).0 refl))
        (λ p _. all_updated (λ q (b : Node). GoodLink (h (w.nodes p).line) p q (w.nodes p) b (w.links p q)) w.nodes i n
        (unlinked_good (h (w.nodes p).line) p i (w.nodes p) n (w.links p i) (λ e. made_elsewhere i ((s.links p i).ends e).1 refl))
        (λ q _. still_good p q));
    bunkers = λ p q is. all_updated (λ j (a : Node). is_linked (w.links j q) ≡ true → is_origin a.role ≡ false
        → IsStranger founded_nodes w.links a.line q → ⊥) w.nodes i n
        (λ there _ _. made_elsewhere i ((s.links i q).ends there).0 refl)
        (λ j _ there r g. s.bunkers j q there r (stranger_was (w.nodes j).line q (s.good.begun j ((s.links j q).ends there).0) g)) p is;
    packets =
        each_weaker (GoodPacket w.nodes w.links w.lines) (GoodPacket founded_nodes w.links h)
        (λ p q. let c = who_came w s p.line p.source q.came in record {
          said = subst (λ (r : History). GoodMessage r.held (founded_nodes p.source) p.line p.message) (other p.line (made_elsewhere p.line.origin c.there))
              (subst (λ (m : Node). GoodMessage (w.lines p.line).held m p.line p.message) (same_elsewhere p.source c.here) q.said);
          known = says_later _ _ _ _ (stranger_was p.line p.target c.there) (stranger_was p.line p.source c.there) p.message q.known;
          came = came_still p.line p.source q.came;
        })
        w.packets s.packets;
    promised =
        each_weaker (GoodPromise w.nodes w.links) (GoodPromise founded_nodes w.links)
        (λ e q. let c = who_came w s e.line e.site q.came in record {
          kept = subst (λ (m : Node). IsKept m e.line e.number e.surety) (same_elsewhere e.site c.here) q.kept;
          known = λ t. q.known (stranger_was e.line e.site c.there t);
          came = came_still e.line e.site q.came;
        })
        w.promised s.promised;
    known = all_updated (λ k (m : Node). KnownNode founded_nodes w.links k m) w.nodes i n
        (λ made r. not_both (is_origin n.role) origin r)
        (λ k _ made r q. s.known k made r (stranger_was (w.nodes k).line k (s.good.begun k made) q));
    unbegun = unbegun;
  }
