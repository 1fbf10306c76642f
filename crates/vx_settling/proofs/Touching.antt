-- What an event changes of a world: one site at most, one link, and what was sent.
use Rattle.std.proofs.Common.{◌≡◌, ◌∙◌, ◌+◌, ◌≤◌, ◌++◌, ℕ, List, [], Bool, true, false, refl, ap, sym, subst, arith, append_assoc}
use Rattle.std.proofs.lemmas.List.{append-nil}
use Rattle.std.specs.List.{AllByRecursion}
use Rattle.vx_model.specs.Sites.{is_origin}
use Rattle.vx_model.specs.declared.history.Line.{Line}
use Rattle.vx_history.proofs.Updates.{at_place}
use Rattle.vx_history.specs.Events.{gathered_if}
use Rattle.vx_history.specs.Sends.{sending, with_link, with_links}
use Rattle.vx_history.specs.World.{Link, Node, Packet, World, updated, with_node}
use Rattle.vx_events.specs.LinkFinds.{TakesOf}
use Rattle.vx_effects.proofs.Fitting.{updated_other}
use Rattle.vx_world.proofs.Lists.{each_append}
use Rattle.vx_settling.specs.Kinds.{StillGoes}
use Rattle.vx_settling.proofs.Rules.{goes_same}
use Rattle.vx_settling.proofs.Taking.{takes_same}

-- ---- sites and packets

-- All but the node of site t, what site g puts together, and what was sent is as it was. Site t took updates of f, or none, and none where writes arise.
pub record SiteTouch (Q : Packet → Type 0) (f t g : ℕ) (w v : World) : Type 0 where
  pub sites : v.sites ≡ w.sites
  pub nodes : (i : ℕ) → (i ≡ t → ⊥) → v.nodes i ≡ w.nodes i
  pub node : TakesOf f (w.nodes t) (v.nodes t)
  pub still : is_origin (w.nodes t).role ≡ true → v.nodes t ≡ w.nodes t
  pub gathering : (i : ℕ) → (i ≡ g → ⊥) → v.gathering i ≡ w.gathering i
  pub lines : (l : Line) → v.lines l ≡ w.lines l
  pub promised : v.promised ≡ w.promised
  pub more : List Packet
  pub sent : v.packets ≡ w.packets ++ more
  pub all : AllByRecursion Q more

module _ (Q : Packet → Type 0) (f t g : ℕ) where
  pub site_same : (w : World) → SiteTouch Q f t g w w
  site_same w = record {
    sites = refl;
    nodes = λ i apart. refl;
    node = takes_same f (w.nodes t);
    still = λ origin. refl;
    gathering = λ i apart. refl;
    lines = λ l. refl;
    promised = refl;
    more = [];
    sent = sym (append-nil w.packets);
    all = tt;
  }

  -- more is sent
  pub site_sent : (w v : World) (qs : List Packet) → SiteTouch Q f t g w v → AllByRecursion Q qs → SiteTouch Q f t g w (sending v qs)
  site_sent w v qs m all = record {
    sites = m.sites;
    nodes = m.nodes;
    node = m.node;
    still = m.still;
    gathering = m.gathering;
    lines = m.lines;
    promised = m.promised;
    more = m.more ++ qs;
    sent = ap (λ (ps : List Packet). ps ++ qs) m.sent ∙ append_assoc w.packets m.more qs;
    all = each_append Q m.more qs m.all all;
  }

  -- a site's links are other ones
  pub site_linked : (w v : World) (p : ℕ) (row : ℕ → Link) → SiteTouch Q f t g w v → SiteTouch Q f t g w (with_links v p row)
  site_linked w v p row m = record {
    sites = m.sites;
    nodes = m.nodes;
    node = m.node;
    still = m.still;
    gathering = m.gathering;
    lines = m.lines;
    promised = m.promised;
    more = m.more;
    sent = m.sent;
    all = m.all;
  }

  -- a receiver is this node
  pub site_taken : (w : World) (n : Node) → TakesOf f (w.nodes t) n → is_origin (w.nodes t).role ≡ false → SiteTouch Q f t g w (with_node w t n)
  site_taken w n takes receives = record {
    sites = refl;
    nodes = λ i apart. updated_other w.nodes t i n apart;
    node = subst (λ (k : Node). TakesOf f (w.nodes t) k) (sym (at_place w.nodes t n)) takes;
    still = λ origin. let same : true ≡ false = sym origin ∙ receives in absurd (cc);
    gathering = λ i apart. refl;
    lines = λ l. refl;
    promised = refl;
    more = [];
    sent = sym (append-nil w.packets);
    all = tt;
  }

  -- site g puts a packet to what it has
  pub site_gathered : (w v : World) (q : Packet) (taken : Bool) → q.target ≡ g → SiteTouch Q f t g w v → SiteTouch Q f t g w (gathered_if taken v q)
  site_gathered w v q true at m = record {
    sites = m.sites;
    nodes = m.nodes;
    node = m.node;
    still = m.still;
    gathering = λ i apart. updated_other v.gathering q.target i _ (λ (e : i ≡ q.target). apart (e ∙ at)) ∙ m.gathering i apart;
    lines = m.lines;
    promised = m.promised;
    more = m.more;
    sent = m.sent;
    all = m.all;
  }
  site_gathered w v q false at m = m

-- ---- links

-- all links but that of p to s are as they were, and that one moved by its rule
pub record LinkTouch (p s : ℕ) (w v : World) : Type 0 where
  pub rows : (i k : ℕ) → (i ≡ p → ⊥) → v.links i k ≡ w.links i k
  pub links : (k : ℕ) → (k ≡ s → ⊥) → v.links p k ≡ w.links p k
  pub link : StillGoes (w.links p s) (v.links p s)

pub link_same : (p s : ℕ) (w v : World) → ((i k : ℕ) → v.links i k ≡ w.links i k) → LinkTouch p s w v
link_same p s w v same = record {
  rows = λ i k apart. same i k;
  links = λ k apart. same p k;
  link = subst (λ (m : Link). StillGoes (w.links p s) m) (sym (same p s)) (goes_same (w.links p s));
}

pub link_moved : (p s : ℕ) (w : World) (m : Link) → StillGoes (w.links p s) m → LinkTouch p s w (with_link w p s m)
link_moved p s w m goes =
    let row : ℕ → Link = updated (w.links p) s m in
    record {
      rows = λ i k apart. ap (λ (r : ℕ → Link). r k) (updated_other w.links p i row apart);
      links = λ k apart. ap (λ (r : ℕ → Link). r k) (at_place w.links p row) ∙ updated_other (w.links p) s k m apart;
      link = subst (λ (x : Link). StillGoes (w.links p s) x) (sym (ap (λ (r : ℕ → Link). r s) (at_place w.links p row) ∙ at_place (w.links p) s m)) goes;
    }

-- ---- both, and headers

-- what is changed but for headers
pub record Touch (Q : Packet → Type 0) (f t g p s : ℕ) (w v : World) : Type 0 where
  pub site : SiteTouch Q f t g w v
  pub link : LinkTouch p s w v

-- only for the link's site headers were written
pub record Changed (Q : Packet → Type 0) (f t g p s : ℕ) (w v : World) : Type 0 where
  pub site : SiteTouch Q f t g w v
  pub link : LinkTouch p s w v
  pub headers : (i : ℕ) → (i ≡ p → ⊥) → v.headers i ≡ w.headers i
  pub written : w.headers p ≤ v.headers p

pub touch_same : (Q : Packet → Type 0) (f t g p s : ℕ) (w : World) → Touch Q f t g p s w w
touch_same Q f t g p s w = record { site = site_same Q f t g w; link = link_same p s w w (λ i k. refl) }

-- with so many headers more
pub with_headers : (Q : Packet → Type 0) (f t g p s : ℕ) (w v : World) (more : ℕ → ℕ) → ((i : ℕ) → (i ≡ p → ⊥) → more i ≡ 0) → Touch Q f t g p s w v
    → Changed Q f t g p s w (record v { headers = λ i. w.headers i + more i })
with_headers Q f t g p s w v more none m = record {
  site = record {
    sites = m.site.sites;
    nodes = m.site.nodes;
    node = m.site.node;
    still = m.site.still;
    gathering = m.site.gathering;
    lines = m.site.lines;
    promised = m.site.promised;
    more = m.site.more;
    sent = m.site.sent;
    all = m.site.all;
  };
  link = record { rows = m.link.rows; links = m.link.links; link = m.link.link };
  headers = λ i apart. let zero : more i ≡ 0 = none i apart in omega (arith, zero);
  written = omega arith;
}
