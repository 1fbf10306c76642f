-- Worlds that differ in notes alone are good together.
use Rattle.std.proofs.Common.{◌≡◌, ◌∙◌, inl, inr, ℕ, ◌≤◌, List, length, ap, sym, subst, refl, arith, true, false, []}
use Rattle.std.proofs.lemmas.Bool.{cases_Bool}
use Rattle.std.specs.Prelude.{Option, Some, None}
use Rattle.std.specs.List.{AllByRecursion}
use Rattle.vx_model.specs.Content.{IsPrefixOf}
use Rattle.vx_history.specs.Good.{GoodNode, Good, IsMade}
use Rattle.vx_history.proofs.Places.{places_same}
use Rattle.vx_history.specs.Listed.{HasPlaces}
use Rattle.vx_history.specs.Sends.{is_linked, is_made}
use Rattle.vx_history.specs.World.{Node, Link, History, Gathering, Packet, Promise, World}
use Rattle.vx_model.specs.declared.history.Line.{Line}
use Rattle.vx_model.specs.declared.site.SiteState.TheVariants.{Bare}
use Rattle.vx_history.specs.GoodCopies.{GoodReplays}
use Rattle.vx_history.proofs.Advancing.{mode_alike}
use Rattle.vx_history.specs.Sound.{Sound, LosesNothing, IsFed, TakesUpdates, IsMarked, IsNewest, StoodHere, HasCome, GoodLink, GoodPacket, GoodPromise, IsStranger, KnownNode}
use Rattle.vx_world.proofs.Lists.{prefix_refl}
use Rattle.vx_world.proofs.Carry.{IsLater, LinkSays, OriginHere, come_later, link_later, packets_later, promises_later}
use Rattle.vx_world.proofs.Moves.{origin_strange, unlinked_good}
use Rattle.vx_history.specs.Likes.{IsLike, SameLink}
use Rattle.vx_history.specs.Fits.{WriteFits, Fitting, IsSized, IsAlike}
use Rattle.vx_history.specs.GoodGatherings.{IsPart, Gathers, MayGather}
use Rattle.vx_history.specs.GoodWorld.{GoodWorld}
use Rattle.vx_world.proofs.Keeping.{gather_up, fits_there, alike_there}
use Rattle.vx_world.proofs.Likely.{noted}
use Rattle.vx_world.proofs.Lists.{each_weaker}

later_note : (a b : Node) → IsLater a (noted a b)
later_note a b = record {
  line = refl;
  origin = refl;
  bunker = refl;
  session = omega arith;
  safe = omega arith;
  stored = λ k h. h;
  present = λ _ up _.
      (up, omega arith);
  made = λ m. m;
  top = omega arith;
  stood = refl;
}

good_note : (h : History) (i : ℕ) (a b : Node) → GoodNode h i a → GoodNode h i (noted a b)
good_note h i a b g = record {
  safe_fits = g.safe_fits;
  own_line = g.own_line;
  receiver_log = g.receiver_log;
  origin_log = g.origin_log;
  origin_whole = g.origin_whole;
  origin_mark = g.origin_mark;
  plain = g.plain;
  content = g.content;
  copy = λ made r. let c = g.copy made r in record { size = c.size; known = c.known; copying = c.copying; filling = c.filling };
}

module _ (w v : World) (s : Sound w) (like : IsLike w v) where
  at : (P : Node → Type 0) (i : ℕ) → P (noted (w.nodes i) (v.nodes i)) → P (v.nodes i)
  at P i h = subst P (sym (like.nodes i)) h

  later : (i : ℕ) → IsLater (w.nodes i) (v.nodes i)
  later i = at (λ b. IsLater (w.nodes i) b) i (later_note (w.nodes i) (v.nodes i))

  made_back : (i : ℕ) → IsMade (v.nodes i) → IsMade (w.nodes i)
  made_back i = at (λ b. IsMade b → IsMade (w.nodes i)) i (λ is. is)

  before : (l : Line) (i : ℕ) → IsStranger v.nodes v.links l i → IsStranger w.nodes w.links l i
  before l i (on, none, plain) = (sym (later l.origin).line ∙ on, sym (like.links l.origin i).linked ∙ none, sym (later i).bunker ∙ plain)

  node_good : (i : ℕ) → GoodNode (v.lines (v.nodes i).line) i (v.nodes i)
  node_good i =
      subst (λ (h : History). GoodNode h i (v.nodes i)) (sym (like.lines (v.nodes i).line))
      (at (λ b. GoodNode (w.lines b.line) i b) i (good_note (w.lines (w.nodes i).line) i (w.nodes i) (v.nodes i) (s.good.nodes i)))

  sites_like : Good v
  sites_like = record {
    nodes = node_good;
    begun = λ i made. subst (λ (l : Line). IsMade (v.nodes l.origin)) (sym (later i).line)
        ((later (w.nodes i).line.origin).made (s.good.begun i (made_back i made)));
    later = λ i past. at (λ b. b.state ≡ Bare) i (s.good.later i (subst (λ (k : ℕ). k ≤ i) like.sites past));
    told = λ l. subst (λ (h : History). h.told ≤ length h.held) (sym (like.lines l)) (s.good.told l);
    replays = λ l i. subst (λ (h : History). GoodReplays h.held (h.replays i)) (sym (like.lines l)) (s.good.replays l i);
  }

  abbrev line_by : (x : World) (p : ℕ) → History
  line_by x p = x.lines (x.nodes p).line

  same_line_by : (p : ℕ) → line_by v p ≡ line_by w p
  same_line_by p = like.lines (v.nodes p).line ∙ ap w.lines (later p).line

  -- what the mode of a link says of a site it says of it with other notes
  still_says : (p q : ℕ) (l : Link) → LinkSays (line_by w p) q (w.nodes q) l → LinkSays (line_by v p) q (v.nodes q) l
  still_says p q l says =
      let a : Node = w.nodes q in
      let b : Node = v.nodes q in
      subst (λ (h : History). LinkSays h q (v.nodes q) l) (sym (same_line_by p))
      (at (λ c. LinkSays (line_by w p) q c l) q
      (mode_alike (line_by w p).held ((line_by w p).replays q) a a.state a.log a.session a.mark a.halted b.fuse a.fed_by b.failing b.group (λ m. m) l.map l.stored l.mode says))

  link_good : (p q : ℕ) → GoodLink (line_by v p) p q (v.nodes p) (v.nodes q) (v.links p q)
  link_good p q = elim (cases_Bool (is_linked (w.links p q))) [
    | inl is ↦
        subst (λ (l : Link). GoodLink (line_by v p) p q (v.nodes p) (v.nodes q) l) (sym ((like.links p q).same is))
        (link_later (line_by w p) (line_by v p) p q (w.nodes p) (w.nodes q) (v.nodes p) (v.nodes q) (w.links p q) (later p) (later q)
        (λ _ _. still_says p q (w.links p q)) (s.links p q))
    | inr none ↦ unlinked_good (line_by v p) p q (v.nodes p) (v.nodes q) (v.links p q) (λ is. let e : true ≡ false = sym is ∙ (like.links p q).linked ∙ none in absurd (cc))
  ]

  strange : (i : ℕ) (l : Line) → OriginHere (v.nodes i) l → IsStranger v.nodes v.links l i
  strange i l o = origin_strange v i l sites_like (link_good i i).apart o

  held_grow : (l : Line) → IsPrefixOf (w.lines l).held (v.lines l).held
  held_grow l = subst (λ (h : History). IsPrefixOf (w.lines l).held h.held) (sym (like.lines l)) (prefix_refl (w.lines l).held)

  pub sound_like : Sound v
  sound_like = record {
    good = sites_like;
    whole = λ i. at (λ b. LosesNothing b) i (s.whole i);
    fed = λ i. at (λ b. IsFed b) i (s.fed i);
    takes = λ i. at (λ b. TakesUpdates b) i (s.takes i);
    marked = λ i. at (λ b. IsMarked b) i (s.marked i);
    newest = λ i. at (λ b. IsNewest b) i (s.newest i);
    stands = λ i. at (λ b. StoodHere b) i (s.stands i);
    come = λ i. subst (λ (ls : List Line). AllByRecursion (HasCome v.nodes i) ls) (sym (later i).stood)
        (each_weaker (HasCome w.nodes i) (HasCome v.nodes i) (come_later w.nodes v.nodes later i) (w.nodes i).stood (s.come i));
    links = link_good;
    bunkers = λ p q is r g. s.bunkers p q (sym (like.links p q).linked ∙ is) (sym (later p).origin ∙ r)
        (subst (λ (l : Line). IsStranger w.nodes w.links l q) (later p).line (before (v.nodes p).line q g));
    packets = subst (λ (ps : List Packet). AllByRecursion (GoodPacket v.nodes v.links v.lines) ps) (sym like.packets)
        (packets_later w.nodes v.nodes w.links v.links later before strange w.lines v.lines held_grow w.packets s.packets);
    promised = subst (λ (es : List Promise). AllByRecursion (GoodPromise v.nodes v.links) es) (sym like.promised)
        (promises_later w.nodes v.nodes w.links v.links later before strange w.promised s.promised);
    known = λ i. at (λ b. KnownNode v.nodes v.links i b) i (λ is r q. s.known i is r (before (w.nodes i).line i q));
    unbegun = λ l i. subst (λ (h : History). (h.replays i).begun ≡ 0) (sym (like.lines l)) (s.unbegun l i);
  }

  volumes : (i : ℕ) → (v.nodes i).volumes ≡ (w.nodes i).volumes
  volumes i = ap (λ (n : Node). n.volumes) (like.nodes i)

  rings : (i : ℕ) → (v.nodes i).ring ≡ (w.nodes i).ring
  rings i = ap (λ (n : Node). n.ring) (like.nodes i)

  pub fits_like : Fitting w → Fitting v
  fits_like f = record {
    sized = λ i. at (λ b. IsSized b) i (record { start = (f.sized i).start; base = (f.sized i).base; bare = (f.sized i).bare });
    logs = λ i. at (λ b. AllByRecursion (WriteFits b) b.log) i
        (each_weaker (WriteFits (w.nodes i)) (WriteFits (noted (w.nodes i) (v.nodes i)))
        (fits_there (w.nodes i) (noted (w.nodes i) (v.nodes i)) refl refl) (w.nodes i).log (f.logs i));
    held = λ l. subst (λ (h : History). AllByRecursion (WriteFits (v.nodes l.origin)) h.held) (sym (like.lines l))
        (each_weaker (WriteFits (w.nodes l.origin)) (WriteFits (v.nodes l.origin))
        (fits_there (w.nodes l.origin) (v.nodes l.origin) (volumes l.origin) (rings l.origin)) (w.lines l).held (f.held l));
    alike = λ i made. subst (λ (l : Line). IsAlike (v.nodes l.origin) (v.nodes i)) (sym (later i).line)
        (alike_there (w.nodes (w.nodes i).line.origin) (w.nodes i) (v.nodes (w.nodes i).line.origin) (v.nodes i) (volumes (w.nodes i).line.origin)
        (rings (w.nodes i).line.origin) (volumes i) (rings i) (f.alike i (made_back i made)));
    alone = λ i made none. ap (λ (l : Line). l.origin) (later i).line
        ∙ f.alone i (made_back i made) (sym (volumes (w.nodes i).line.origin) ∙ subst (λ (l : Line). (v.nodes l.origin).volumes ≡ []) (later i).line none);
  }

  gathers_like : Gathers w → Gathers v
  gathers_like g = record {
    parts = subst (λ (ps : List Packet). AllByRecursion IsPart ps) (sym like.packets) g.parts;
    each = λ i. subst (λ (ps : List Packet). MayGather i (v.nodes i) ps (v.gathering i)) (sym like.packets)
        (subst (λ (h : Option Gathering). MayGather i (v.nodes i) w.packets h) (sym (like.gathering i))
        (gather_up i (w.nodes i) (v.nodes i) w.packets (w.gathering i) (λ up. ap (λ (n : Node). n.state) (like.nodes i) ∙ up) (g.each i)));
  }

made_like : (a b : Link) → SameLink a b → b.made ≡ a.made
made_like a b same = by_made a.made b.made refl refl
  where
    by_made : (m n : Option ℕ) → a.made ≡ m → b.made ≡ n → b.made ≡ a.made
    by_made (Some place) n one two = ap (λ (l : Link). l.made) (same.same (ap is_made one))
    by_made None None one two = two ∙ sym one
    by_made None (Some place) one two = absurd (let e : true ≡ false = sym (ap is_made two) ∙ same.linked ∙ ap is_made one in cc)

places_like : (w v : World) → IsLike w v → ((p : ℕ) → HasPlaces w.sites (w.links p)) → (p : ℕ) → HasPlaces v.sites (v.links p)
places_like w v like h p =
    subst (λ (n : ℕ). HasPlaces n (v.links p)) (sym like.sites) (places_same w.sites (w.links p) (v.links p) (λ s. made_like (w.links p s) (v.links p s) (like.links p s)) (h p))

pub good_like : (w v : World) → GoodWorld w → IsLike w v → GoodWorld v
good_like w v g like = record { sound = sound_like w v g.sound like; fits = fits_like w v g.sound like g.fits; gathers = gathers_like w v g.sound like g.gathers; places = places_like w v like g.places }
