-- The world behind the recovery of a site, of which the disks that are made to fail and the group are noted anew.
use Rattle.std.proofs.Common.{◌≡◌, ◌∙◌, ◌++◌, ◌+◌, ℕ, Bool, true, false, List, [], ◌∷◌, length, ap, sym, refl}
use Rattle.std.specs.Prelude.{Option, Some, nat_lt, leb, ◌&&◌, if◌then◌else◌}
use Rattle.vx_model.specs.Sites.{is_origin}
use Rattle.vx_model.specs.declared.no.SiteName.{SiteName}
use Rattle.vx_model.specs.declared.no.SiteName.TheVariants.{Known, Number}
use Rattle.vx_model.specs.declared.site.Mark.TheVariants.{Consistent}
use Rattle.vx_model.specs.declared.site.SPhase.{SPhase}
use Rattle.vx_model.specs.declared.site.SPhase.TheVariants.{Quiet}
use Rattle.vx_model.specs.declared.site.SiteState.{SiteState}
use Rattle.vx_model.specs.declared.site.SiteState.TheVariants.{Bare, Up, Deported, Down}
use Rattle.vx_history.proofs.Updates.{all_updated, at_place, by_test}
use Rattle.vx_history.specs.Doubts.{After, Doubted}
use Rattle.vx_history.specs.Events.{come_back, linked_sites, recovery_greeting}
use Rattle.vx_history.specs.Groups.{GroupNode}
use Rattle.vx_history.specs.LinkForms.{plain_receiver}
use Rattle.vx_history.specs.Receiving.{is_log_phase}
use Rattle.vx_history.specs.Steps.{recovered}
use Rattle.vx_history.specs.World.{Gathering, Link, Node, Packet, Volume, World, with_node}
use Rattle.vx_history.specs.declared.receiver.RState.{RState}
use Rattle.vx_events.specs.Effects.{EffectAt}
use Rattle.vx_events.specs.Ends.{found_linked}
use Rattle.vx_events.specs.LinkViews.{link_view, link_views, linked_view, marked_from, views_by}
use Rattle.vx_events.specs.Views.{group_shown, name_of}
use Rattle.vx_report.specs.declared.view.LinkView.{LinkView}
use Rattle.vx_report.specs.declared.view.RvgView.{RvgView}
use Rattle.vx_report.specs.declared.view.SiteView.{SiteView}
use Rattle.vx_above.specs.OwnDisks.{own_disks}
use Rattle.vx_yard.proofs.Alike.{apart_place}

-- ---- a site outside a replay comes back as it was

pub come_quiet : (n : Node) → n.phase ≡ Quiet → come_back n ≡ recovered n
come_quiet n quiet =
    by_test (λ (m : Node). m ≡ recovered n) (is_origin n.role) (recovered n) (record (recovered n) { session = marked.session; mark = marked.mark }) (λ _. refl)
    (λ _. ap (λ (r : RState). let m : Node = record (recovered n) { session = r.session; mark = r.mark } in m) unmarked)
  where
    plain : RState
    plain = record (plain_receiver n) { last = length n.log; waiting = 0; session = n.session + 1 }

    marked : RState
    marked = if is_log_phase n.phase && leb n.end (length n.log) then record plain { mark = Consistent } else plain

    unmarked : marked ≡ plain
    unmarked = ap (λ (p : SPhase). let r : RState = (if is_log_phase p && leb n.end (length n.log) then record plain { mark = Consistent } else plain) in r) quiet

-- ---- with the disks that are made to fail

abbrev pub own_node : Bool → (was n : Node) → Node
own_node true was n = record n { failing = was.failing; group = was.group }
own_node false was n = n

module _ (s : ℕ) (w : World) (h last : Doubted) (n : Node) (row : ℕ → Link) (many : ℕ) (doubt : Option After) (packets : List Packet) (gathered : Option Gathering) where
  pub behind_disks : (b : Bool) → EffectAt s h last n row many doubt packets gathered
      → EffectAt s (own_disks b s w h) (own_disks b s w last) (own_node b (w.nodes s) n) row many doubt packets gathered
  behind_disks false eff = eff
  behind_disks true eff = record {
    site = record {
      sites = eff.site.sites;
      nodes = λ i apart.
          apart_place last.world.nodes s (record (last.world.nodes s) { failing = (w.nodes s).failing; group = (w.nodes s).group }) i apart ∙ eff.site.nodes i apart
          ∙ sym (apart_place h.world.nodes s (record (h.world.nodes s) { failing = (w.nodes s).failing; group = (w.nodes s).group }) i apart);
      links = eff.site.links;
      headers = eff.site.headers;
      after = eff.site.after;
      strayed = eff.site.strayed;
      gathering = eff.site.gathering;
    };
    is = record {
      node = at_place last.world.nodes s (record (last.world.nodes s) { failing = (w.nodes s).failing; group = (w.nodes s).group })
          ∙ ap (λ (k : Node). let m : Node = record k { failing = (w.nodes s).failing; group = (w.nodes s).group } in m) eff.is.node;
      links = eff.is.links;
      headers = eff.is.headers;
      after = eff.is.after;
    };
    sent = eff.sent;
    gathering = eff.gathering;
  }

-- of the world itself nothing else is noted
module _ (s : ℕ) (w : World) (h : Doubted) where
  pub own_is : (b : Bool) → (own_disks b s w h).world.nodes s ≡ own_node b (w.nodes s) (h.world.nodes s)
  own_is true = at_place h.world.nodes s (record (h.world.nodes s) { failing = (w.nodes s).failing; group = (w.nodes s).group })
  own_is false = refl

  pub own_links : (b : Bool) (k : ℕ) → (own_disks b s w h).world.links s k ≡ h.world.links s k
  own_links true k = refl
  own_links false k = refl

  pub own_sites : (b : Bool) → (own_disks b s w h).world.sites ≡ h.world.sites
  own_sites true = refl
  own_sites false = refl

  pub own_headers : (b : Bool) → (own_disks b s w h).world.headers s ≡ h.world.headers s
  own_headers true = refl
  own_headers false = refl

  pub own_packets : (b : Bool) → (own_disks b s w h).world.packets ≡ h.world.packets
  own_packets true = refl
  own_packets false = refl

  pub own_gathering : (b : Bool) → (own_disks b s w h).world.gathering s ≡ h.world.gathering s
  own_gathering true = refl
  own_gathering false = refl

-- what comes up is the same, with the disks that are made to fail
pub own_recovered : (b : Bool) (was n : Node) → own_node b was (recovered n) ≡ recovered (own_node b was n)
own_recovered true was n = refl
own_recovered false was n = refl

pub own_session : (b : Bool) (was n : Node) → own_node b was (record n { session = n.session + 1 }) ≡ record (own_node b was n) { session = (own_node b was n).session + 1 }
own_session true was n = refl
own_session false was n = refl

pub own_greeting : (b : Bool) (was n : Node) (s : ℕ) → recovery_greeting s (own_node b was n) ≡ recovery_greeting s n
own_greeting true was n s = refl
own_greeting false was n s = refl

-- ---- what a status shows

module _ (w : World) (s : ℕ) (f : ℕ → Bool) (own : Option GroupNode) where
  abbrev n : Node
  n = record (w.nodes s) { failing = f; group = own }

  abbrev v : World
  v = with_node w s n

  here : v.nodes s ≡ n
  here = at_place w.nodes s n

  names : (i : ℕ) → name_of v i ≡ name_of w i
  names i = ap (λ (x : List ℕ). let o : SiteName = (if nat_lt i w.sites then Known x else Number i) in o)
      (all_updated (λ (j : ℕ) (m : Node). m.name ≡ (w.nodes j).name) w.nodes s n refl (λ j _. refl) i)

  group_noted : (t : SiteState) → group_shown t v n ≡ group_shown t w (w.nodes s)
  group_noted Bare = refl
  group_noted Up = ap (λ (o : SiteName). Some (let r : RvgView = record {
    role = n.role;
    generation = n.line.generation;
    origin = o;
    head = if is_origin n.role then n.safe else length n.log;
    mark = n.mark;
    session = n.session;
    halted = n.halted;
  } in r)) (names n.line.origin)
  group_noted Deported = refl
  group_noted Down = refl

  volumes : (v.nodes s).volumes ≡ (w.nodes s).volumes
  volumes = ap (λ (m : Node). m.volumes) here

  links_noted : (ss : List ℕ) → link_views v s ss ≡ link_views w s ss
  links_noted [] = refl
  links_noted (t ∷ ts) =
      ap (λ (o : SiteName). let l : LinkView = record (link_view v s t (w.links s t)) { name = o } in l ∷ link_views v s ts) (names t)
      ∙ ap (λ (xs : List Volume). let l : LinkView = record (link_view w s t (w.links s t)) { marked = marked_from (w.links s t).map 0 xs } in l ∷ link_views v s ts) volumes
      ∙ ap (λ (ls : List LinkView). link_view w s t (w.links s t) ∷ ls) (links_noted ts)

  abbrev shown_with : Node → Option RvgView → List LinkView → SiteView
  shown_with m rvg links = record { name = m.name; state = m.state; disks = []; volumes = []; rvg = rvg; links = links }

  pub view_noted : linked_view (with_node w s (record (w.nodes s) { failing = f; group = own })) s ≡ linked_view w s
  view_noted =
      let ss : List ℕ = linked_sites (w.links s) w.sites 0 w.sites in
      ap (λ (m : Node). shown_with m (group_shown m.state v m) (views_by m.state (link_views v s ss))) here
      ∙ ap (λ (o : Option RvgView). shown_with (w.nodes s) o (views_by (w.nodes s).state (link_views v s ss))) (group_noted (w.nodes s).state)
      ∙ ap (λ (ls : List LinkView). shown_with (w.nodes s) (group_shown (w.nodes s).state w (w.nodes s)) (views_by (w.nodes s).state ls)) (links_noted ss)

pub own_view : (b : Bool) (s : ℕ) (w : World) (h : Doubted) → linked_view (own_disks b s w h).world s ≡ linked_view h.world s
own_view true s w h = view_noted h.world s (w.nodes s).failing (w.nodes s).group
own_view false s w h = refl

-- ---- what a site on disks that tell nothing comes up with

pub found_effect : (h : Doubted) (s : ℕ) (k : Node) (row : ℕ → Link)
    → EffectAt s h (found_linked h s k row) k row (h.world.headers s) (h.after s) (h.world.packets ++ recovery_greeting s k) (h.world.gathering s)
found_effect h s k row = record {
  site = record {
    sites = refl;
    nodes = λ i apart. apart_place h.world.nodes s k i apart;
    links = λ i j apart. ap (λ (r : ℕ → Link). r j) (apart_place h.world.links s row i apart);
    headers = λ i apart. refl;
    after = λ i apart. refl;
    strayed = λ calm. calm;
    gathering = λ i apart. refl;
  };
  is = record { node = at_place h.world.nodes s k; links = λ j. ap (λ (r : ℕ → Link). r j) (at_place h.world.links s row); headers = refl; after = refl };
  sent = refl;
  gathering = refl;
}
