-- The ways in which an event changes the world, by what they make of messages in assembly, of the sizes of writes and of the places of links.
use Rattle.std.proofs.Common.{◌≡◌, ◌∙◌, ℕ, zero, suc, ◌+◌, ◌≤◌, List, [], ◌∷◌, ◌++◌, take, refl, ap, sym, subst, arith, Bool, true, false}
use Rattle.std.specs.Prelude.{Option, Some, None, ◌||◌, eqb, leb, if◌then◌else◌}
use Rattle.std.specs.List.{AllByRecursion}
use Rattle.std.proofs.lemmas.Bool.Decides.{nat_tests}
use Rattle.std.proofs.lemmas.List.{append-nil}
use Rattle.vx_model.specs.Content.{Write, blocks_in}
use Rattle.vx_model.specs.declared.history.Line.{Line}
use Rattle.vx_model.specs.declared.site.SiteState.TheVariants.{Bare, Up}
use Rattle.vx_model.specs.declared.limits.TheConstants.{MOST_CALL_BLOCKS}
use Rattle.vx_model.proofs.Lists.{found_more}
use Rattle.vx_history.proofs.Places.{places_same}
use Rattle.vx_history.proofs.Updates.{all_updated, all_lines, eqb_equal, and_left, and_right}
use Rattle.vx_history.specs.World.{World, Node, Link, History, Packet, Promise, Message, Gathering, Volume, with_node, with_history, updated, line_updated}
use Rattle.vx_history.specs.Good.{IsMade}
use Rattle.vx_history.specs.Listed.{HasPlaces}
use Rattle.vx_history.specs.Sends.{packets_from, packets_of, parts_of, sending, promising, with_link}
use Rattle.vx_history.specs.Refusals.{agree}
use Rattle.vx_history.specs.Fits.{WriteFits, Fitting, IsSized, IsAlike, LeadsAlone, blocks_of_volume}
use Rattle.vx_history.specs.GoodGatherings.{IsPart, Gathers, MayGather}
use Rattle.vx_world.proofs.Lists.{each_append, each_weaker}

-- the links of each site have their places
abbrev pub ArePlaced : World → Type 0
ArePlaced w = (p : ℕ) → HasPlaces w.sites (w.links p)

-- what holds of messages in assembly, of the sizes of writes and of the places of links holds of v, where it holds of w
pub record Keeps (w v : World) : Type 0 where
  pub gathers : Gathers w → Gathers v
  pub fits : Fitting w → Fitting v
  pub places : ArePlaced w → ArePlaced v

pub keeps_same : (w : World) → Keeps w w
keeps_same w = record { gathers = λ g. g; fits = λ f. f; places = λ h. h }

pub keeps_trans : (u v w : World) → Keeps u v → Keeps v w → Keeps u w
keeps_trans u v w h k = record { gathers = λ g. k.gathers (h.gathers g); fits = λ f. k.fits (h.fits f); places = λ a. k.places (h.places a) }

-- ## Messages in assembly

-- more is sent, and the site is up still
pub gather_later : (i : ℕ) (n m : Node) (ps more : List Packet) (g : Option Gathering) → (n.state ≡ Up → m.state ≡ Up) → MayGather i n ps g
    → MayGather i m (ps ++ more) g
gather_later i n m ps more None up h = tt
gather_later i n m ps more (Some g) up h = record {
  up = up h.up;
  places = h.places;
  missing = h.missing;
  sent = record { place = h.sent.place; packet = h.sent.packet; is = found_more ps more h.sent.place h.sent.packet h.sent.is; target = h.sent.target; key = h.sent.key };
}

pub gather_up : (i : ℕ) (n m : Node) (ps : List Packet) (g : Option Gathering) → (n.state ≡ Up → m.state ≡ Up) → MayGather i n ps g → MayGather i m ps g
gather_up i n m ps g up h = subst (λ (qs : List Packet). MayGather i m qs g) (append-nil ps) (gather_later i n m ps [] g up h)

-- each part of a message is one of its parts
parts_from : (source target : ℕ) (line : Line) (m : Message) (part count : ℕ) → part + count ≤ parts_of m
    → AllByRecursion IsPart (packets_from source target line m part count)
parts_from source target line m part zero h = tt
parts_from source target line m part (suc k) h = (omega (arith, h), parts_from source target line m (part + 1) k (omega (arith, h)))

pub all_parts : (source target : ℕ) (line : Line) (m : Message) → AllByRecursion IsPart (packets_of source target line m)
all_parts source target line m = parts_from source target line m 0 (parts_of m) (omega arith)

-- ## The sizes of writes

-- a site with another state, whose sizes are as they were and whose further writes fit
pub record IsFitted (n m : Node) : Type 0 where
  pub volumes : m.volumes ≡ n.volumes
  pub ring : m.ring ≡ n.ring
  pub line : m.line ≡ n.line
  pub made : IsMade m → IsMade n
  pub start : (v : ℕ) → m.start.size v ≡ n.start.size v
  pub base : (v : ℕ) → m.base.size v ≡ n.base.size v
  pub log : AllByRecursion (WriteFits n) n.log → AllByRecursion (WriteFits n) m.log

-- the same sizes hold the same writes
pub fits_there : (n m : Node) → m.volumes ≡ n.volumes → m.ring ≡ n.ring → (x : Write) → WriteFits n x → WriteFits m x
fits_there n m volumes ring x h = record {
  some = h.some;
  few = h.few;
  room = omega (arith, h.room, ring);
  within = subst (λ (vs : List Volume). x.start + blocks_in x.bytes ≤ blocks_of_volume vs x.volume) (sym volumes) h.within;
}

sized_later : (n m : Node) → IsFitted n m → (m.state ≡ Bare → m.ring ≡ 0) → IsSized n → IsSized m
sized_later n m f bare h = record {
  start = λ v. f.start v ∙ h.start v ∙ ap (λ (vs : List Volume). blocks_of_volume vs v) (sym f.volumes);
  base = λ v. f.base v ∙ h.base v ∙ ap (λ (vs : List Volume). blocks_of_volume vs v) (sym f.volumes);
  bare = bare;
}

log_later : (n m : Node) → IsFitted n m → AllByRecursion (WriteFits n) n.log → AllByRecursion (WriteFits m) m.log
log_later n m f h = each_weaker (WriteFits n) (WriteFits m) (fits_there n m f.volumes f.ring) m.log (f.log h)

pub alike_there : (o n p m : Node) → p.volumes ≡ o.volumes → p.ring ≡ o.ring → m.volumes ≡ n.volumes → m.ring ≡ n.ring → IsAlike o n → IsAlike p m
alike_there o n p m ov or nv nr h = record {
  volumes = ap (λ (vs : List Volume). agree vs m.volumes) ov ∙ ap (λ (vs : List Volume). agree o.volumes vs) nv ∙ h.volumes;
  rings = ap (λ (k : ℕ). leb 17 m.ring || leb k m.ring) or ∙ ap (λ (k : ℕ). leb 17 k || leb o.ring k) nr ∙ h.rings;
}

pub each_take : {A : Type 0} (P : A → Type 0) (n : ℕ) (xs : List A) → AllByRecursion P xs → AllByRecursion P (take n xs)
each_take P zero xs h = tt
each_take P (suc n) [] h = tt
each_take P (suc n) (x ∷ xs) (h, t) = (h, each_take P n xs t)

-- sites alike have volumes of the same sizes
size_alike : (xs ys : List Volume) (v : ℕ) → agree xs ys ≡ true → blocks_of_volume ys v ≡ blocks_of_volume xs v
size_alike [] [] v e = refl
size_alike [] (y ∷ ys) v e = absurd (cc)
size_alike (x ∷ xs) [] v e = absurd (cc)
size_alike (x ∷ xs) (y ∷ ys) zero e = sym (eqb_equal x.blocks y.blocks (and_left (eqb x.blocks y.blocks) (agree xs ys) e))
size_alike (x ∷ xs) (y ∷ ys) (suc v) e = size_alike xs ys v (and_right (eqb x.blocks y.blocks) (agree xs ys) e)

-- so what fits the one fits the other
pub fits_alike : (o n : Node) (x : Write) → IsAlike o n → WriteFits o x → WriteFits n x
fits_alike o n x alike h = record {
  some = h.some;
  few = h.few;
  room = has_room o.ring n.ring (blocks_in x.bytes) alike.rings h.few h.room;
  within = subst (λ (k : ℕ). x.start + blocks_in x.bytes ≤ k) (sym (size_alike o.volumes n.volumes x.volume alike.volumes)) h.within;
}
  where
    has_room : (a b k : ℕ) → (leb 17 b || leb a b) ≡ true → k ≤ MOST_CALL_BLOCKS → k + 1 ≤ a → k + 1 ≤ b
    has_room a b k e few room = by_large (leb 17 b) refl
      where
        by_large : (c : Bool) → leb 17 b ≡ c → k + 1 ≤ b
        by_large true t = let large : 17 ≤ b = grind (arith, nat_tests) in omega (arith, large, few)
        by_large false t =
            let rest : leb a b ≡ true = sym (ap (λ (c : Bool). c || leb a b) t) ∙ e in
            let less : a ≤ b = grind (arith, nat_tests) in omega (arith, less, room)

-- ## Kinds of changes

-- links in the same places
abbrev pub SameMade : World → (ℕ → ℕ → Link) → Type 0
SameMade w f = (p s : ℕ) → (f p s).made ≡ (w.links p s).made

pub made_rows : (w : World) (p : ℕ) (row : ℕ → Link) → ((s : ℕ) → (row s).made ≡ (w.links p s).made) → SameMade w (updated w.links p row)
made_rows w p row same = all_updated (λ a (r : ℕ → Link). (s : ℕ) → (r s).made ≡ (w.links a s).made) w.links p row same (λ a apart s. refl)

pub made_link : (w : World) (p s : ℕ) (l : Link) → l.made ≡ (w.links p s).made → SameMade w (with_link w p s l).links
made_link w p s l same = made_rows w p (updated (w.links p) s l) (all_updated (λ t (m : Link). m.made ≡ (w.links p t).made) (w.links p) s l same (λ t apart. refl))

module _ (w v : World) (k : Keeps w v) where
  pub keeps_links : (f : ℕ → ℕ → Link) → SameMade v f → Keeps w (record v { links = f })
  keeps_links f same = record { places = λ h p. places_same v.sites (v.links p) (f p) (same p) (k.places h p); gathers = λ g. record { parts = (k.gathers g).parts; each = (k.gathers g).each }; fits = λ h. record { sized = (k.fits h).sized; logs = (k.fits h).logs; held = (k.fits h).held; alike = (k.fits h).alike; alone = (k.fits h).alone } }

  pub keeps_headers : (f : ℕ → ℕ) → Keeps w (record v { headers = f })
  keeps_headers f = record { places = k.places; gathers = λ g. record { parts = (k.gathers g).parts; each = (k.gathers g).each }; fits = λ h. record { sized = (k.fits h).sized; logs = (k.fits h).logs; held = (k.fits h).held; alike = (k.fits h).alike; alone = (k.fits h).alone } }

  pub keeps_promising : (more : List Promise) → Keeps w (promising v more)
  keeps_promising more = record { places = k.places; gathers = λ g. record { parts = (k.gathers g).parts; each = (k.gathers g).each }; fits = λ h. record { sized = (k.fits h).sized; logs = (k.fits h).logs; held = (k.fits h).held; alike = (k.fits h).alike; alone = (k.fits h).alone } }

  pub keeps_sending : (more : List Packet) → AllByRecursion IsPart more → Keeps w (sending v more)
  keeps_sending more parts = record {
    gathers = λ g. record {
      parts = each_append IsPart v.packets more (k.gathers g).parts parts;
      each = λ i. gather_later i (v.nodes i) (v.nodes i) v.packets more (v.gathering i) (λ up. up) ((k.gathers g).each i);
    };
    fits = λ h. record { sized = (k.fits h).sized; logs = (k.fits h).logs; held = (k.fits h).held; alike = (k.fits h).alike; alone = (k.fits h).alone };
    places = k.places;
  }

  -- whatever the writes, what is in assembly is as it says
  pub keeps_gathering : (f : ℕ → Option Gathering) → (Gathers v → (i : ℕ) → MayGather i (v.nodes i) v.packets (f i)) → Keeps w (record v { gathering = f })
  keeps_gathering f each = record {
    gathers = λ g. record { parts = (k.gathers g).parts; each = each (k.gathers g) };
    fits = λ h. record { sized = (k.fits h).sized; logs = (k.fits h).logs; held = (k.fits h).held; alike = (k.fits h).alike; alone = (k.fits h).alone };
    places = k.places;
  }

-- a line with what it holds, which fits the site that began it
abbrev FitsLine : (ℕ → Node) → Line → History → Type 0
FitsLine nodes l h = AllByRecursion (WriteFits (nodes l.origin)) h.held

module _ (w : World) (i : ℕ) (n : Node) (fitted : Fitting w → IsFitted (w.nodes i) n) (bare : Fitting w → n.state ≡ Bare → n.ring ≡ 0) where
  abbrev nodes_now : ℕ → Node
  nodes_now = updated w.nodes i n

  volumes_now : Fitting w → (k : ℕ) → (nodes_now k).volumes ≡ (w.nodes k).volumes
  volumes_now f = all_updated (λ k (m : Node). m.volumes ≡ (w.nodes k).volumes) w.nodes i n (fitted f).volumes (λ _ _. refl)

  ring_now : Fitting w → (k : ℕ) → (nodes_now k).ring ≡ (w.nodes k).ring
  ring_now f = all_updated (λ k (m : Node). m.ring ≡ (w.nodes k).ring) w.nodes i n (fitted f).ring (λ _ _. refl)

  held_now : Fitting w → (l : Line) (h : History) → FitsLine w.nodes l h → FitsLine nodes_now l h
  held_now f l h all = each_weaker (WriteFits (w.nodes l.origin)) (WriteFits (nodes_now l.origin))
      (fits_there (w.nodes l.origin) (nodes_now l.origin) (volumes_now f l.origin) (ring_now f l.origin)) h.held all

  fit_nodes : Fitting w → (lines : Line → History) → ((l : Line) → FitsLine w.nodes l (lines l)) → Fitting (record w { nodes = nodes_now; lines = lines })
  fit_nodes f lines held = record {
    sized = all_updated (λ _ (m : Node). IsSized m) w.nodes i n (sized_later (w.nodes i) n (fitted f) (bare f) (f.sized i)) (λ k _. f.sized k);
    logs = all_updated (λ _ (m : Node). AllByRecursion (WriteFits m) m.log) w.nodes i n (log_later (w.nodes i) n (fitted f) (f.logs i)) (λ k _. f.logs k);
    held = λ l. held_now f l (lines l) (held l);
    alike = all_updated (λ _ (m : Node). IsMade m → IsAlike (nodes_now m.line.origin) m) w.nodes i n
        (λ made. subst (λ (l : Line). IsAlike (nodes_now l.origin) n) (sym (fitted f).line)
        (there (w.nodes i).line.origin i n (fitted f).volumes (fitted f).ring (f.alike i ((fitted f).made made))))
        (λ k _ made. there (w.nodes k).line.origin k (w.nodes k) refl refl (f.alike k made));
    alone = all_updated (λ k (m : Node). IsMade m → LeadsAlone (nodes_now m.line.origin) k m) w.nodes i n
        (λ made none. ap (λ (l : Line). l.origin) (fitted f).line
        ∙ f.alone i ((fitted f).made made) (was (w.nodes i).line.origin (subst (λ (l : Line). (nodes_now l.origin).volumes ≡ []) (fitted f).line none)))
        (λ k _ made none. f.alone k made (was (w.nodes k).line.origin none));
  }
    where
      was : (o : ℕ) → (nodes_now o).volumes ≡ [] → (w.nodes o).volumes ≡ []
      was o none = sym (volumes_now f o) ∙ none

      there : (o k : ℕ) (m : Node) → m.volumes ≡ (w.nodes k).volumes → m.ring ≡ (w.nodes k).ring → IsAlike (w.nodes o) (w.nodes k) → IsAlike (nodes_now o) m
      there o k m volumes ring h = alike_there (w.nodes o) (w.nodes k) (nodes_now o) m (volumes_now f o) (ring_now f o) volumes ring h

  pub keeps_node : ((w.nodes i).state ≡ Up → n.state ≡ Up) → Keeps w (with_node w i n)
  keeps_node up = record {
    gathers = λ g. record {
      parts = g.parts;
      each = all_updated (λ k (m : Node). MayGather k m w.packets (w.gathering k)) w.nodes i n
          (gather_up i (w.nodes i) n w.packets (w.gathering i) up (g.each i)) (λ k _. g.each k);
    };
    fits = λ f. let h = fit_nodes f w.lines f.held in record { sized = h.sized; logs = h.logs; held = h.held; alike = h.alike; alone = h.alone };
    places = λ h. h;
  }

  pub keeps_history : (h : History) → ((w.nodes i).state ≡ Up → n.state ≡ Up) → (Fitting w → FitsLine w.nodes n.line h) → Keeps w (with_history w i n h)
  keeps_history h up line = record {
    gathers = λ g. record {
      parts = g.parts;
      each = all_updated (λ k (m : Node). MayGather k m w.packets (w.gathering k)) w.nodes i n
          (gather_up i (w.nodes i) n w.packets (w.gathering i) up (g.each i)) (λ k _. g.each k);
    };
    places = λ h. h;
    fits = λ f. fit_nodes f (line_updated w.lines n.line h) (all_lines (λ l (r : History). FitsLine w.nodes l r) w.lines n.line h (line f) (λ l _. f.held l));
  }

  -- a site that goes down has nothing in assembly
  pub keeps_crash : (lines : Line → History) (links : ℕ → ℕ → Link) → SameMade w links → (Fitting w → (l : Line) → FitsLine w.nodes l (lines l))
      → Keeps w (record w { nodes = nodes_now; lines = lines; links = links; gathering = updated w.gathering i None })
  keeps_crash lines links same line = record {
    places = λ h p. places_same w.sites (w.links p) (links p) (same p) (h p);
    gathers = λ g. record {
      parts = g.parts;
      each = λ k. by_place k (eqb k i) refl (g.each k);
    };
    fits = λ f. let h = fit_nodes f lines (line f) in record { sized = h.sized; logs = h.logs; held = h.held; alike = h.alike; alone = h.alone };
  }
    where
      by_place : (k : ℕ) (b : Bool) → eqb k i ≡ b → MayGather k (w.nodes k) w.packets (w.gathering k)
          → MayGather k (nodes_now k) w.packets (updated w.gathering i None k)
      by_place k true e h = subst (λ (g : Option Gathering). MayGather k (nodes_now k) w.packets g)
          (sym (ap (λ (b : Bool). if b then None else w.gathering k) e)) tt
      by_place k false e h =
          subst (λ (m : Node). MayGather k m w.packets (updated w.gathering i None k)) (sym (ap (λ (b : Bool). if b then n else w.nodes k) e))
          (subst (λ (g : Option Gathering). MayGather k (w.nodes k) w.packets g) (sym (ap (λ (b : Bool). if b then None else w.gathering k) e)) h)
