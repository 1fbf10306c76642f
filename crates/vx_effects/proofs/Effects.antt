-- What each event at one site changes, place by place.
use Rattle.std.proofs.Common.{◌≡◌, ◌∙◌, ℕ, ◌+◌, ◌<◌, List, Bool, true, false, refl, ap, sym, subst}
use Rattle.std.specs.Prelude.{eqb, Option, Some, None}
use Rattle.vx_model.specs.Sites.{is_origin}
use Rattle.vx_model.specs.declared.site.SiteState.TheVariants.{Up}
use Rattle.vx_history.proofs.Updates.{at_place, by_test, eqb_equal}
use Rattle.vx_history.specs.Doubts.{After, Doubted, happened, resolved_at, taken_up}
use Rattle.vx_history.specs.Events.{crash_at, kept_of, link_left, lost_touch}
use Rattle.vx_history.specs.Headers.{headers_by}
use Rattle.vx_history.specs.Gatherings.{emptied}
use Rattle.vx_history.specs.Refusals.{Outcome}
use Rattle.vx_history.specs.Sends.{with_links}
use Rattle.vx_history.specs.Step.{headers_counted, done, outcome_of, step}
use Rattle.vx_history.specs.Steps.{crash_left, crashed}
use Rattle.vx_history.specs.World.{Gathering, Link, Node, Packet, World, updated, with_node}
use Rattle.vx_history.specs.declared.event.Event.{Event}
use Rattle.vx_history.specs.declared.event.Event.TheVariants.{Crash}
use Rattle.vx_events.proofs.Steps.{crash_step}
use Rattle.vx_events.specs.Effects.{ChangesAt, ChangesNode, EffectAt}
use Rattle.vx_events.specs.LinksFit.{RowFits}
use Rattle.vx_effects.proofs.Fitting.{none_more, updated_other}
use Rattle.vx_effects.proofs.Links.{row_left}

-- ---- changes in a row

pub changes_same : (s : ℕ) (d : Doubted) → ChangesNode s d d
changes_same s d = record {
  sites = refl;
  nodes = λ i apart. refl;
  links = λ i k apart. refl;
  headers = λ i apart. refl;
  after = λ i apart. refl;
  strayed = λ calm. calm;
  gathering = λ i apart. refl;
}

pub changes_then : (s : ℕ) (d e f : Doubted) → ChangesNode s d e → ChangesNode s e f → ChangesNode s d f
changes_then s d e f a b = record {
  sites = b.sites ∙ a.sites;
  nodes = λ i apart. b.nodes i apart ∙ a.nodes i apart;
  links = λ i k apart. b.links i k apart ∙ a.links i k apart;
  headers = λ i apart. b.headers i apart ∙ a.headers i apart;
  after = λ i apart. b.after i apart ∙ a.after i apart;
  strayed = λ calm. a.strayed (b.strayed calm);
  gathering = λ i apart. b.gathering i apart ∙ a.gathering i apart;
}

pub quiet_then : (s : ℕ) (d e f : Doubted) → ChangesAt s d e → ChangesAt s e f → ChangesAt s d f
quiet_then s d e f a b = record {
  site = changes_then s d e f a.site b.site;
  packets = b.packets ∙ a.packets;
  gathering = b.gathering ∙ a.gathering;
}

pub effect_then : (s : ℕ) (d e f : Doubted) {n : Node} {row : ℕ → Link} {many : ℕ} {doubt : Option After} {packets : List Packet} {gathered : Option Gathering}
    → ChangesNode s d e → EffectAt s e f n row many doubt packets gathered → EffectAt s d f n row many doubt packets gathered
effect_then s d e f a b = record { site = changes_then s d e f a b.site; is = b.is; sent = b.sent; gathering = b.gathering }

-- where no packet was sent, and what the site puts together stays
pub effect_quiet : (s : ℕ) (d e : Doubted) {n : Node} {row : ℕ → Link} {many : ℕ} {doubt : Option After}
    → EffectAt s d e n row many doubt d.world.packets (d.world.gathering s) → ChangesAt s d e
effect_quiet s d e f = record { site = f.site; packets = f.sent; gathering = f.gathering }

-- ---- a world that an event leaves, before its headers are counted

-- it differs at one site
pub record Turns (s : ℕ) (w v : World) (n : Node) (row : ℕ → Link) (packets : List Packet) (gathered : Option Gathering) : Type 0 where
  pub sites : v.sites ≡ w.sites
  pub nodes : (i : ℕ) → v.nodes i ≡ updated w.nodes s n i
  pub links : (i k : ℕ) → v.links i k ≡ updated w.links s row i k
  pub headers : (i : ℕ) → v.headers i ≡ w.headers i
  pub sent : v.packets ≡ packets
  pub gathering : (i : ℕ) → v.gathering i ≡ updated w.gathering s gathered i

-- what a place has already
pub updated_self : {A : Type 0} (f : ℕ → A) (s i : ℕ) → f i ≡ updated f s (f s) i
updated_self f s i = by_test (λ x. f i ≡ x) (eqb i s) (f s) (f i) (λ e. ap f (eqb_equal i s e)) (λ _. refl)

-- a node alone
pub turns_node : (s : ℕ) (w : World) (n : Node) → Turns s w (with_node w s n) n (w.links s) w.packets (w.gathering s)
turns_node s w n = record {
  sites = refl;
  nodes = λ i. refl;
  links = λ i k. ap (λ (row : ℕ → Link). row k) (updated_self w.links s i);
  headers = λ i. refl;
  sent = refl;
  gathering = λ i. updated_self w.gathering s i;
}

-- nothing at all
pub turns_none : (s : ℕ) (w : World) → Turns s w w (w.nodes s) (w.links s) w.packets (w.gathering s)
turns_none s w = record {
  sites = refl;
  nodes = λ i. updated_self w.nodes s i;
  links = λ i k. ap (λ (row : ℕ → Link). row k) (updated_self w.links s i);
  headers = λ i. refl;
  sent = refl;
  gathering = λ i. updated_self w.gathering s i;
}

-- all else of a world is not looked at
pub turns_like : (s : ℕ) (w u v : World) {n : Node} {row : ℕ → Link} {packets : List Packet} {gathered : Option Gathering} (more : List Packet) → v.sites ≡ u.sites
    → ((i : ℕ) → v.nodes i ≡ u.nodes i) → ((i k : ℕ) → v.links i k ≡ u.links i k) → ((i : ℕ) → v.headers i ≡ u.headers i) → v.packets ≡ more
    → ((i : ℕ) → v.gathering i ≡ u.gathering i) → Turns s w u n row packets gathered → Turns s w v n row more gathered
turns_like s w u v more sites nodes links headers sent gathering t = record {
  sites = sites ∙ t.sites;
  nodes = λ i. nodes i ∙ t.nodes i;
  links = λ i k. links i k ∙ t.links i k;
  headers = λ i. headers i ∙ t.headers i;
  sent = sent;
  gathering = λ i. gathering i ∙ t.gathering i;
}

-- the event with this outcome, so many headers of its site counted
pub effect_of : (d : Doubted) (e : Event) (o : Outcome) (s many : ℕ) {n : Node} {row : ℕ → Link} {packets : List Packet} {gathered : Option Gathering}
    → outcome_of d.world e ≡ o → Turns s d.world o.world n row packets gathered
    → headers_by e d.world o s ≡ many → ((i : ℕ) → (i ≡ s → ⊥) → headers_by e d.world o i ≡ 0)
    → EffectAt s d (record d { world = (step d.world e).world }) n row (d.world.headers s + many) (d.after s) packets gathered
effect_of d e o s many {n} {row} {packets} {gathered} is t here others =
    subst (λ (r : Outcome). EffectAt s d (record d { world = (headers_counted d.world e r).world }) n row (d.world.headers s + many) (d.after s) packets gathered) (sym is)
    (record {
      site = record {
        sites = t.sites;
        nodes = λ i apart. t.nodes i ∙ updated_other d.world.nodes s i n apart;
        links = λ i k apart. t.links i k ∙ ap (λ (r : ℕ → Link). r k) (updated_other d.world.links s i row apart);
        headers = λ i apart. none_more (d.world.headers i) (headers_by e d.world o i) (others i apart);
        after = λ i apart. refl;
        strayed = λ calm. calm;
        gathering = λ i apart. t.gathering i ∙ updated_other d.world.gathering s i gathered apart;
      };
      is = record {
        node = t.nodes s ∙ at_place d.world.nodes s n;
        links = λ k. t.links s k ∙ ap (λ (r : ℕ → Link). r k) (at_place d.world.links s row);
        headers = ap (λ (k : ℕ). d.world.headers s + k) here;
        after = refl;
      };
      sent = t.sent;
      gathering = t.gathering s ∙ at_place d.world.gathering s gathered;
    })

-- the event writes no header
pub effect_plain : (d : Doubted) (e : Event) (o : Outcome) (s : ℕ) {n : Node} {row : ℕ → Link} {packets : List Packet} {gathered : Option Gathering}
    → outcome_of d.world e ≡ o → Turns s d.world o.world n row packets gathered → ((i : ℕ) → headers_by e d.world o i ≡ 0)
    → EffectAt s d (record d { world = (step d.world e).world }) n row (d.world.headers s) (d.after s) packets gathered
effect_plain d e o s {n} {row} {packets} {gathered} is t none =
    subst (λ (many : ℕ). EffectAt s d (record d { world = (step d.world e).world }) n row many (d.after s) packets gathered) (none_more (d.world.headers s) 0 refl)
    (effect_of d e o s 0 is t (none s) (λ i _. none i))

-- the same links, said in other words
pub effect_row : (s : ℕ) (d e : Doubted) {n : Node} {row : ℕ → Link} {other : ℕ → Link} {headers : ℕ} {after : Option After} {packets : List Packet} {gathered : Option Gathering}
    → EffectAt s d e n row headers after packets gathered → ((k : ℕ) → row k ≡ other k) → EffectAt s d e n other headers after packets gathered
effect_row s d e f same = record {
  site = f.site;
  is = record { node = f.is.node; links = λ k. f.is.links k ∙ same k; headers = f.is.headers; after = f.is.after };
  sent = f.sent;
  gathering = f.gathering;
}

-- ---- crashes

pub crash_turns : (s : ℕ) (w : World) (k : ℕ) → Turns s w (crash_at w s k) (crashed (w.nodes s) k) (λ to. link_left (w.nodes s) k (w.links s to)) w.packets None
crash_turns s w k =
    by_test (λ (v : World). Turns s w (emptied (with_links v s (λ to. link_left (w.nodes s) k (w.links s to))) s) (crashed (w.nodes s) k) (λ to. link_left (w.nodes s) k (w.links s to)) w.packets None)
    (is_origin (w.nodes s).role) (crash_left w s k) (with_node w s (crashed (w.nodes s) k))
    (λ _. record { sites = refl; nodes = λ i. refl; links = λ i j. refl; headers = λ i. refl; sent = refl; gathering = λ i. refl })
    (λ _. record { sites = refl; nodes = λ i. refl; links = λ i j. refl; headers = λ i. refl; sent = refl; gathering = λ i. refl })

-- a site that is one of the two is no more in doubt
pub resolved_changes : (d : Doubted) (s : ℕ) (taken : Bool) → ChangesAt s d (resolved_at d s taken)
resolved_changes d s false = record {
  site = record {
    sites = refl;
    nodes = λ i apart. refl;
    links = λ i k apart. refl;
    headers = λ i apart. refl;
    after = λ i apart. updated_other d.after s i None apart;
    strayed = λ calm. calm;
    gathering = λ i apart. refl;
  };
  packets = refl;
  gathering = refl;
}
resolved_changes d s true = by_doubt (d.after s)
  where
    by_doubt : (o : Option After) → ChangesAt s d (record { world = taken_up d.world s o; after = updated d.after s None; strayed = d.strayed })
    by_doubt None = record {
      site = record {
        sites = refl;
        nodes = λ i apart. refl;
        links = λ i k apart. refl;
        headers = λ i apart. refl;
        after = λ i apart. updated_other d.after s i None apart;
        strayed = λ calm. calm;
        gathering = λ i apart. refl;
      };
      packets = refl;
      gathering = refl;
    }
    by_doubt (Some a) = record {
      site = record {
        sites = refl;
        nodes = λ i apart. updated_other d.world.nodes s i a.node apart;
        links = λ i k apart. ap (λ (r : ℕ → Link). r k) (updated_other d.world.links s i a.row apart);
        headers = λ i apart. refl;
        after = λ i apart. updated_other d.after s i None apart;
        strayed = λ calm. calm;
        gathering = λ i apart. refl;
      };
      packets = refl;
      gathering = refl;
    }

pub resolved_headers : (d : Doubted) (s : ℕ) (taken : Bool) (i : ℕ) → (resolved_at d s taken).world.headers i ≡ d.world.headers i
resolved_headers d s false i = refl
resolved_headers d s true i = by_doubt (d.after s)
  where
    by_doubt : (o : Option After) → (taken_up d.world s o).headers i ≡ d.world.headers i
    by_doubt None = refl
    by_doubt (Some a) = refl

module _ (d : Doubted) (s kept : ℕ) (taken : Bool) where
  abbrev r : Doubted
  r = resolved_at d s taken

  pub left_effect : s < r.world.sites → (r.world.nodes s).state ≡ Up
      → EffectAt s d (happened d (Crash s kept) taken) (crashed (r.world.nodes s) (kept_of (r.world.nodes s) kept))
      (λ k. link_left (r.world.nodes s) (kept_of (r.world.nodes s) kept) (r.world.links s k)) (d.world.headers s) None d.world.packets None
  left_effect below up =
      let w : World = r.world in
      let o : Outcome = done (crash_at w s (kept_of (w.nodes s) kept)) in
      let before : ChangesAt s d r = resolved_changes d s taken in
      let f = effect_plain r (Crash s kept) o s (crash_step w s kept below up) (crash_turns s w (kept_of (w.nodes s) kept)) (λ i. refl) in
      record {
        site = changes_then s d r (happened d (Crash s kept) taken) before.site f.site;
        is = record { node = f.is.node; links = f.is.links; headers = f.is.headers ∙ resolved_headers d s taken s; after = f.is.after ∙ at_place d.after s None };
        sent = f.sent ∙ before.packets;
        gathering = f.gathering;
      }

  -- where its links fit none keeps a map
  pub crash_effect : RowFits s r.world.sites (r.world.links s) → s < r.world.sites → (r.world.nodes s).state ≡ Up
      → EffectAt s d (happened d (Crash s kept) taken) (crashed (r.world.nodes s) (kept_of (r.world.nodes s) kept)) (λ k. lost_touch (r.world.links s k)) (d.world.headers s) None
      d.world.packets None
  crash_effect fits below up =
      effect_row s d (happened d (Crash s kept) taken) (left_effect below up) (λ k. row_left (r.world.nodes s) (kept_of (r.world.nodes s) kept) s r.world.sites (r.world.links s) fits k)
