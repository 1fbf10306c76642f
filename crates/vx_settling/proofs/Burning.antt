-- What events of settling make of a world in which fuses were noted: the world that they make, with those fuses.
use Rattle.std.proofs.Common.{◌≡◌, ◌∙◌, ◌⊎◌, inl, inr, ◌+◌, ℕ, List, ◌++◌, Bool, true, false, ap, sym, subst, refl}
use Rattle.std.proofs.Math.Path.{fun_ext}
use Rattle.std.specs.Prelude.{Option, Some, None, eqb, ltb, if◌then◌else◌}
use Rattle.vx_model.specs.Sites.{is_origin}
use Rattle.vx_model.specs.declared.history.Line.{Line}
use Rattle.vx_history.proofs.Fuses.{burned_twice}
use Rattle.vx_history.proofs.Updates.{at_place, eqb_apart, eqb_equal}
use Rattle.vx_history.specs.Doubts.{After, Doubted, crashed_as, halved, resolved, resolved_at, taken_up}
use Rattle.vx_history.specs.Events.{crash_at, kept_of, link_left, packet_at}
use Rattle.vx_history.specs.Groups.{GroupNode}
use Rattle.vx_history.specs.Gatherings.{emptied}
use Rattle.vx_history.specs.Headers.{count_at, heard_headers}
use Rattle.vx_history.specs.Likes.{IsLike, SameLink}
use Rattle.vx_history.specs.Sends.{is_linked, with_links}
use Rattle.vx_history.specs.Step.{outcome_of, step}
use Rattle.vx_history.specs.Stops.{IsFused}
use Rattle.vx_history.specs.Steps.{burned, crash_left, crashed, stopped_by, worked_on}
use Rattle.vx_history.specs.World.{Fuse, FuseLit, FuseSet, Gathering, History, Link, NoFuse, Node, Packet, Promise, World, no_link, updated, with_node}
use Rattle.vx_history.specs.declared.event.Event.{Event}
use Rattle.vx_history.specs.declared.event.Event.TheVariants.{Site, Raw, Group, Volumes, Write as WriteAt, Read, Apply, Pump, Tick, Deliver, Connect, Cut, Pause, Resume, Wait, Link as LinkSites, Set, Attach, Detach, Crash, Deport, Fall, Recover, Fault}
use Rattle.vx_effects.specs.Settings.{SetsFail}
use Rattle.vx_effects.proofs.Fitting.{fit_happened}
use Rattle.vx_events.specs.LinkFinds.{pumped_with, target_with}
use Rattle.vx_events.specs.LinksFit.{LinksFit}
use Rattle.vx_world.proofs.LikeSteps.{looks_same, step_like}
use Rattle.vx_settling.specs.Burnt.{MayBurn, burnt_world, noted_as}
use Rattle.vx_settling.specs.Kinds.{is_settling}
use Rattle.vx_settling.proofs.Running.{event_stays, happens}

-- ---- two worlds of which all parts are the same

module _ (U V : World) where
  pub world_is : V.sites ≡ U.sites → V.nodes ≡ U.nodes → V.links ≡ U.links → V.lines ≡ U.lines → V.packets ≡ U.packets → V.promised ≡ U.promised → V.gathering ≡ U.gathering → V.headers ≡ U.headers → V ≡ U
  world_is sites nodes links lines packets promised gathering headers =
      ap (λ (x : ℕ). let w : World = record V { sites = x } in w) sites
      ∙ ap (λ (x : ℕ → Node). let w : World = record V { sites = U.sites; nodes = x } in w) nodes
      ∙ ap (λ (x : ℕ → ℕ → Link). let w : World = record V { sites = U.sites; nodes = U.nodes; links = x } in w) links
      ∙ ap (λ (x : Line → History). let w : World = record V { sites = U.sites; nodes = U.nodes; links = U.links; lines = x } in w) lines
      ∙ ap (λ (x : List Packet). let w : World = record V { sites = U.sites; nodes = U.nodes; links = U.links; lines = U.lines; packets = x } in w) packets
      ∙ ap (λ (x : List Promise). let w : World = record V { sites = U.sites; nodes = U.nodes; links = U.links; lines = U.lines; packets = U.packets; promised = x } in w) promised
      ∙ ap (λ (x : ℕ → Option Gathering). let w : World = record U { gathering = x; headers = V.headers } in w) gathering
      ∙ ap (λ (x : ℕ → ℕ). let w : World = record U { headers = x } in w) headers

-- the same links, place by place
rows_is : (f g : ℕ → ℕ → Link) → ((i k : ℕ) → g i k ≡ f i k) → g ≡ f
rows_is f g same = fun_ext (λ i. fun_ext (λ k. same i k))

-- a world and the same with noted fuses are alike
pub like_burnt : (fuses : ℕ → Fuse) (w : World) → IsLike w (burnt_world fuses w)
like_burnt fuses w = record {
  sites = refl;
  nodes = λ i. refl;
  links = λ p s. record { linked = refl; same = λ is. refl };
  lines = λ l. refl;
  packets = refl;
  promised = refl;
  gathering = λ i. refl;
}

-- links fit in the one as they do in the other
pub fit_pure : (fuses : ℕ → Fuse) (d : Doubted) → LinksFit (noted_as fuses d) → LinksFit d
fit_pure fuses d fit = record {
  rows = fit.rows;
  later = fit.later;
  bare = λ p bare. let blank = fit.bare p bare in record { links = blank.links; headers = blank.headers };
  doubts = λ p a is. let doubt = fit.doubts p a is in record {
    up = doubt.up;
    halted = doubt.halted;
    up_too = doubt.up_too;
    halted_too = doubt.halted_too;
    row = doubt.row;
    starts = doubt.starts;
    quiet = doubt.quiet;
  };
  starts = fit.starts;
  quiet = fit.quiet;
  rests = fit.rests;
}

-- ---- one event

link_equal : (l m : Link) → SameLink l m → (is_linked l ≡ false → l ≡ no_link) → (is_linked m ≡ false → m ≡ no_link) → m ≡ l
link_equal l m same one two = by (is_linked l) refl
  where
    by : (b : Bool) → is_linked l ≡ b → m ≡ l
    by true is = same.same is
    by false is = two (same.linked ∙ is) ∙ sym (one is)

heard_same : (w : World) (u v : World) (i : ℕ) (o : Option Packet) → v.links ≡ u.links → heard_headers w v i o ≡ heard_headers w u i o
heard_same w u v i None links = refl
heard_same w u v i (Some p) links = ap (λ (ls : ℕ → ℕ → Link). count_at p.target i (if ltb (w.links p.target p.source).stored (ls p.target p.source).stored then 1 else 0)) links

-- they set no link
sets_none : (e : Event) → is_settling e ≡ true → SetsFail e
sets_none (LinkSites p s sync prot part) is = absurd (cc)
sets_none (Set p s sync prot) is = absurd (cc)
sets_none other is = tt

module _ (fuses : ℕ → Fuse) (d : Doubted) (fit : LinksFit (noted_as fuses d)) where
  abbrev w : World
  w = d.world

  abbrev before : World
  before = burnt_world fuses d.world

  module _ (e : Event) (is : is_settling e ≡ true) where
    abbrev U : World
    U = (step d.world e).world

    abbrev V : World
    V = (step (burnt_world fuses d.world) e).world

    like : IsLike U V
    like = step_like d.world (burnt_world fuses d.world) e (like_burnt fuses d.world) (looks_same d.world (burnt_world fuses d.world) (λ i. refl) e)

    fit_U : LinksFit (record d { world = U })
    fit_U = subst LinksFit (happens d e false is) (fit_happened d e false (sets_none e is) (fit_pure fuses d fit))

    fit_V : LinksFit (record d { world = V })
    fit_V = subst LinksFit (happens (noted_as fuses d) e false is) (fit_happened (noted_as fuses d) e false (sets_none e is) fit)

    links : V.links ≡ U.links
    links = rows_is U.links V.links (λ i k. link_equal (U.links i k) (V.links i k) (like.links i k) ((fit_U.rows i).none k) ((fit_V.rows i).none k))

    node : (i : ℕ) → V.nodes i ≡ record (U.nodes i) { fuse = fuses i }
    node i =
        let stays = event_stays (burnt_world fuses d.world) e is in
        let pure = event_stays d.world e is in
        let fuse : (V.nodes i).fuse ≡ fuses i = ap (λ (n : Node). n.fuse) (stays.nodes i) in
        let fails : (V.nodes i).failing ≡ (U.nodes i).failing = ap (λ (n : Node). n.failing) (stays.nodes i) ∙ sym (ap (λ (n : Node). n.failing) (pure.nodes i)) in
        let group : (V.nodes i).group ≡ (U.nodes i).group = ap (λ (n : Node). n.group) (stays.nodes i) ∙ sym (ap (λ (n : Node). n.group) (pure.nodes i)) in
        like.nodes i
        ∙ ap (λ (f : Fuse). let n : Node = record (U.nodes i) { fuse = f; failing = (V.nodes i).failing; group = (V.nodes i).group } in n) fuse
        ∙ ap (λ (f : ℕ → Bool). let n : Node = record (U.nodes i) { fuse = fuses i; failing = f; group = (V.nodes i).group } in n) fails
        ∙ ap (λ (g : Option GroupNode). let n : Node = record (U.nodes i) { fuse = fuses i; group = g } in n) group

  headers : (e : Event) → is_settling e ≡ true → (i : ℕ) → ((step (burnt_world fuses d.world) e).world).headers i ≡ ((step d.world e).world).headers i
  headers (Connect p s) is i = refl
  headers (Tick p s) is i = refl
  headers (Pump p s) is i = refl
  headers (Apply s count reached) is i = refl
  headers (Deliver number) is i =
      ap (λ (k : ℕ). d.world.headers i + k)
      (heard_same d.world (outcome_of d.world (Deliver number)).world (outcome_of (burnt_world fuses d.world) (Deliver number)).world i (packet_at d.world.packets number) (links (Deliver number) refl))
  headers (Site name disks blocks) is i = absurd (cc)
  headers (Raw p) is i = absurd (cc)
  headers (Group p) is i = absurd (cc)
  headers (Volumes p log xs) is i = absurd (cc)
  headers (WriteAt p volume start bytes fails) is i = absurd (cc)
  headers (Read p volume start count) is i = absurd (cc)
  headers (Cut p s) is i = absurd (cc)
  headers (Pause p s) is i = absurd (cc)
  headers (Resume p s) is i = absurd (cc)
  headers (Wait p number) is i = absurd (cc)
  headers (LinkSites p s sync prot part) is i = absurd (cc)
  headers (Set p s sync prot) is i = absurd (cc)
  headers (Attach p s) is i = absurd (cc)
  headers (Detach p s) is i = absurd (cc)
  headers (Crash s kept) is i = absurd (cc)
  headers (Deport s) is i = absurd (cc)
  headers (Fall s) is i = absurd (cc)
  headers (Recover s fails) is i = absurd (cc)
  headers (Fault s disk) is i = absurd (cc)

  pub step_burnt : (e : Event) → is_settling e ≡ true → (step (burnt_world fuses d.world) e).world ≡ burnt_world fuses (step d.world e).world
  step_burnt e is =
      let same = like e is in
      world_is (burnt_world fuses (step d.world e).world) (step (burnt_world fuses d.world) e).world same.sites (fun_ext (λ i. node e is i)) (links e is) (fun_ext (λ l. same.lines l)) same.packets same.promised
      (fun_ext (λ i. same.gathering i)) (fun_ext (λ i. headers e is i))

-- ---- notes

-- a fuse that is noted at one more place
abbrev pub noted_at : (ℕ → Fuse) → ℕ → ℕ → Fuse
noted_at fuses s = updated fuses s (burned (fuses s))

abbrev pub with_fuses : (ℕ → Fuse) → (ℕ → Node) → ℕ → Node
with_fuses fuses nodes = λ i. record (nodes i) { fuse = fuses i }

pub nodes_at : (fuses : ℕ → Fuse) (nodes : ℕ → Node) (s : ℕ) (n k : Node) (f : Fuse) → k ≡ record n { fuse = f } → updated (with_fuses fuses nodes) s k ≡ with_fuses (updated fuses s f) (updated nodes s n)
nodes_at fuses nodes s n k f is = fun_ext (λ i. by i (eqb i s))
  where
    by : (i : ℕ) (b : Bool) → (if b then k else record (nodes i) { fuse = fuses i }) ≡ record (if b then n else nodes i) { fuse = if b then f else fuses i }
    by i true = is
    by i false = refl

pub own_place : (nodes : ℕ → Node) (s : ℕ) → updated nodes s (nodes s) ≡ nodes
own_place nodes s = fun_ext (λ i. by i (eqb i s) refl)
  where
    by : (i : ℕ) (b : Bool) → eqb i s ≡ b → (if b then nodes s else nodes i) ≡ nodes i
    by i true is = ap nodes (sym (eqb_equal i s is))
    by i false is = refl

pub worked_burnt : (fuses : ℕ → Fuse) (w : World) (s : ℕ) → worked_on (burnt_world fuses w) s ≡ burnt_world (noted_at fuses s) w
worked_burnt fuses w s =
    ap (λ (ns : ℕ → Node). let x : World = record w { nodes = ns } in x)
    (nodes_at fuses w.nodes s (w.nodes s) (record (w.nodes s) { fuse = burned (fuses s) }) (burned (fuses s)) refl ∙ ap (with_fuses (noted_at fuses s)) (own_place w.nodes s))

-- a fuse that may be noted is noted as that of the world
pub burns_same : (a b : ℕ) (fuses : ℕ → Fuse) (w : World) → MayBurn a b fuses w → (i : ℕ) → burned (fuses i) ≡ burned (w.nodes i).fuse
burns_same a b fuses w burns i = by (burns.each i)
  where
    by : (fuses i ≡ (w.nodes i).fuse) ⊎ (((i ≡ a) ⊎ (i ≡ b)) × (fuses i ≡ burned (w.nodes i).fuse)) → burned (fuses i) ≡ burned (w.nodes i).fuse
    by (inl same) = ap burned same
    by (inr noted) = ap burned noted.1 ∙ burned_twice (w.nodes i).fuse

-- nothing is noted
pub burns_none : (a b : ℕ) (w : World) → MayBurn a b (λ i. (w.nodes i).fuse) w
burns_none a b w = record { each = λ i. inl refl }

-- of worlds with the same fuses
pub burns_kept : (a b : ℕ) (fuses : ℕ → Fuse) (w v : World) → ((i : ℕ) → (v.nodes i).fuse ≡ (w.nodes i).fuse) → MayBurn a b fuses w → MayBurn a b fuses v
burns_kept a b fuses w v same burns = record {
  each = λ i. by i (burns.each i);
}
  where
    by : (i : ℕ) → (fuses i ≡ (w.nodes i).fuse) ⊎ (((i ≡ a) ⊎ (i ≡ b)) × (fuses i ≡ burned (w.nodes i).fuse)) → (fuses i ≡ (v.nodes i).fuse) ⊎ (((i ≡ a) ⊎ (i ≡ b)) × (fuses i ≡ burned (v.nodes i).fuse))
    by i (inl is) = inl (is ∙ sym (same i))
    by i (inr noted) = inr (noted.0, noted.1 ∙ ap burned (sym (same i)))

-- one of the two is noted
pub burns_noted : (a b : ℕ) (fuses : ℕ → Fuse) (w : World) (s : ℕ) → (s ≡ a) ⊎ (s ≡ b) → MayBurn a b fuses w → MayBurn a b (noted_at fuses s) w
burns_noted a b fuses w s one burns = record { each = λ i. by i (eqb i s) refl }
  where
    at : (i : ℕ) → i ≡ s → (s ≡ a) ⊎ (s ≡ b) → (i ≡ a) ⊎ (i ≡ b)
    at i is (inl here) = inl (is ∙ here)
    at i is (inr there) = inr (is ∙ there)

    by : (i : ℕ) (c : Bool) → eqb i s ≡ c
        → ((if c then burned (fuses s) else fuses i) ≡ (w.nodes i).fuse) ⊎ (((i ≡ a) ⊎ (i ≡ b)) × ((if c then burned (fuses s) else fuses i) ≡ burned (w.nodes i).fuse))
    by i true is = inr (at i (eqb_equal i s is) one, burns_same a b fuses w burns s ∙ ap (λ (j : ℕ). burned (w.nodes j).fuse) (sym (eqb_equal i s is)))
    by i false is = burns.each i

-- with both noted, it is the world with both noted
pub both_burnt : (a b : ℕ) (fuses : ℕ → Fuse) (w : World) → MayBurn a b fuses w → worked_on (worked_on (burnt_world fuses w) a) b ≡ worked_on (worked_on w a) b
both_burnt a b fuses w burns =
    ap (λ (x : World). worked_on x b) (worked_burnt fuses w a) ∙ worked_burnt (noted_at fuses a) w b
    ∙ ap (λ (f : ℕ → Fuse). burnt_world f w) (fun_ext (λ i. at i (eqb i b) refl (eqb i a) refl))
    ∙ sym (ap (λ (x : World). worked_on x b) (worked_burnt (λ i. (w.nodes i).fuse) w a) ∙ worked_burnt (noted_at (λ i. (w.nodes i).fuse) a) w b)
  where
    pure : ℕ → Fuse
    pure i = (w.nodes i).fuse

    none : (i : ℕ) → eqb i a ≡ false → eqb i b ≡ false → fuses i ≡ pure i
    none i here there = by (burns.each i)
      where
        by : (fuses i ≡ (w.nodes i).fuse) ⊎ (((i ≡ a) ⊎ (i ≡ b)) × (fuses i ≡ burned (w.nodes i).fuse)) → fuses i ≡ pure i
        by (inl same) = same
        by (inr (inl is, noted)) = absurd (eqb_apart i a here is)
        by (inr (inr is, noted)) = absurd (eqb_apart i b there is)

    first : (i : ℕ) (c : Bool) → eqb i a ≡ c → burned (if c then burned (fuses a) else fuses i) ≡ burned (if c then burned (pure a) else pure i)
    first i true is = ap burned (burns_same a b fuses w burns a)
    first i false is = burns_same a b fuses w burns i

    at : (i : ℕ) (c : Bool) → eqb i b ≡ c → (k : Bool) → eqb i a ≡ k
        → (if c then burned (noted_at fuses a b) else (if k then burned (fuses a) else fuses i)) ≡ (if c then burned (noted_at pure a b) else (if k then burned (pure a) else pure i))
    at i true is k _ = first b (eqb b a) refl
    at i false is true _ = burns_same a b fuses w burns a
    at i false is false here = none i here is

-- ---- a disk failed, or a fuse ran out

module _ (fuses : ℕ → Fuse) (d : Doubted) (fit : LinksFit (noted_as fuses d)) (a b : ℕ) (burns : MayBurn a b fuses d.world) (e : Event) (is : is_settling e ≡ true) (site disk : ℕ) where
  abbrev done : World
  done = (step d.world e).world

  abbrev may_of : World → Option After
  may_of x = Some (record { node = (stopped_by x site disk).nodes site; row = x.links site })

  stopped_same : (stopped_by (burnt_world fuses (step d.world e).world) site disk).nodes site ≡ (stopped_by (step d.world e).world site disk).nodes site
  stopped_same =
      let n : Node = (step d.world e).world.nodes site in
      let stays = event_stays d.world e is in
      let fuse : burned (fuses site) ≡ burned n.fuse = burns_same a b fuses d.world burns site ∙ ap (λ (f : Fuse). burned f) (sym (ap (λ (k : Node). k.fuse) (stays.nodes site))) in
      at_place (burnt_world fuses (step d.world e).world).nodes site (record n { halted = Some disk; fuse = burned (fuses site) })
      ∙ ap (λ (f : Fuse). let k : Node = record n { halted = Some disk; fuse = f } in k) fuse
      ∙ sym (at_place (step d.world e).world.nodes site (record n { halted = Some disk; fuse = burned n.fuse }))

  pub halved_burnt : halved (noted_as fuses d) e site disk ≡ noted_as (noted_at fuses site) (halved d e site disk)
  halved_burnt =
      let n : Node = d.world.nodes site in
      let same : (step (burnt_world fuses d.world) e).world ≡ burnt_world fuses (step d.world e).world = step_burnt fuses d fit e is in
      ap (λ (x : World). let q : Doubted = record { world = record (stopped_by (burnt_world fuses d.world) site disk) { headers = x.headers }; after = updated d.after site (may_of x); strayed = d.strayed } in q) same
      ∙ ap (λ (ns : ℕ → Node). let q : Doubted = record { world = record (burnt_world fuses d.world) { nodes = ns; headers = (step d.world e).world.headers }; after = updated d.after site (may_of (burnt_world fuses (step d.world e).world)); strayed = d.strayed } in q)
      (nodes_at fuses d.world.nodes site (record n { halted = Some disk; fuse = burned n.fuse }) (record n { halted = Some disk; fuse = burned (fuses site) }) (burned (fuses site)) refl)
      ∙ ap (λ (k : Node). let q : Doubted = record { world = burnt_world (noted_at fuses site) (halved d e site disk).world; after = updated d.after site (Some (record { node = k; row = (step d.world e).world.links site })); strayed = d.strayed } in q) stopped_same

-- a crash takes the fuse away
crash_by : (fuses : ℕ → Fuse) (w : World) (s k : ℕ) (b : Bool)
    → (if b then crash_left (burnt_world fuses w) s k else with_node (burnt_world fuses w) s (crashed (record (w.nodes s) { fuse = fuses s }) k)) ≡ burnt_world (updated fuses s NoFuse) (if b then crash_left w s k else with_node w s (crashed (w.nodes s) k))
crash_by fuses w s k true =
    ap (λ (ns : ℕ → Node). let x : World = record (crash_left w s k) { nodes = ns } in x) (nodes_at fuses w.nodes s (crashed (w.nodes s) k) (crashed (record (w.nodes s) { fuse = fuses s }) k) NoFuse refl)
crash_by fuses w s k false =
    ap (λ (ns : ℕ → Node). let x : World = record w { nodes = ns } in x) (nodes_at fuses w.nodes s (crashed (w.nodes s) k) (crashed (record (w.nodes s) { fuse = fuses s }) k) NoFuse refl)

pub crash_burnt : (fuses : ℕ → Fuse) (w : World) (s k : ℕ) → crash_at (burnt_world fuses w) s k ≡ burnt_world (updated fuses s NoFuse) (crash_at w s k)
crash_burnt fuses w s k = ap (λ (x : World). emptied (with_links x s (λ to. link_left (w.nodes s) k (w.links s to))) s) (crash_by fuses w s k (is_origin (w.nodes s).role))

twice_at : (fuses : ℕ → Fuse) (s : ℕ) (f g : Fuse) → updated (updated fuses s f) s g ≡ updated fuses s g
twice_at fuses s f g = fun_ext (λ i. by i (eqb i s))
  where
    by : (i : ℕ) (c : Bool) → (if c then g else (if c then f else fuses i)) ≡ (if c then g else fuses i)
    by i true = refl
    by i false = refl

pub crashed_burnt : (fuses : ℕ → Fuse) (d : Doubted) (site kept : ℕ) (taken : Bool) → crashed_as (noted_as fuses d) site kept taken ≡ noted_as (updated fuses site NoFuse) (crashed_as d site kept taken)
crashed_burnt fuses d site kept false =
    ap (λ (x : World). let q : Doubted = record { world = x; after = updated d.after site None; strayed = d.strayed } in q) (crash_burnt fuses d.world site (kept_of (d.world.nodes site) kept))
crashed_burnt fuses d site kept true = by (d.after site)
  where
    by : (o : Option After) → (let w : World = taken_up (burnt_world fuses d.world) site o in let q : Doubted = record { world = crash_at w site (kept_of (w.nodes site) kept); after = updated d.after site None; strayed = d.strayed } in q)
        ≡ (let w : World = taken_up d.world site o in let q : Doubted = record { world = burnt_world (updated fuses site NoFuse) (crash_at w site (kept_of (w.nodes site) kept)); after = updated d.after site None; strayed = d.strayed } in q)
    by None = ap (λ (x : World). let q : Doubted = record { world = x; after = updated d.after site None; strayed = d.strayed } in q) (crash_burnt fuses d.world site (kept_of (d.world.nodes site) kept))
    by (Some a) =
        let w : World = resolved d.world site a in
        let more : ℕ → Fuse = updated fuses site a.node.fuse in
        let there : resolved (burnt_world fuses d.world) site a ≡ burnt_world more w
        = ap (λ (ns : ℕ → Node). let x : World = record w { nodes = ns } in x) (nodes_at fuses d.world.nodes site a.node a.node a.node.fuse refl) in
        ap (λ (x : World). let q : Doubted = record { world = crash_at x site (kept_of (x.nodes site) kept); after = updated d.after site None; strayed = d.strayed } in q) there
        ∙ ap (λ (x : World). let q : Doubted = record { world = x; after = updated d.after site None; strayed = d.strayed } in q) (crash_burnt more w site (kept_of (w.nodes site) kept))
        ∙ ap (λ (f : ℕ → Fuse). let q : Doubted = record { world = burnt_world f (crash_at w site (kept_of (w.nodes site) kept)); after = updated d.after site None; strayed = d.strayed } in q) (twice_at fuses site a.node.fuse NoFuse)

-- ---- what may be noted behind that

-- a crash makes another node of its site alone
pub crash_nodes : (w : World) (s k : ℕ) → (crash_at w s k).nodes ≡ updated w.nodes s (crashed (w.nodes s) k)
crash_nodes w s k = by (is_origin (w.nodes s).role)
  where
    by : (b : Bool) → (if b then crash_left w s k else with_node w s (crashed (w.nodes s) k)).nodes ≡ updated w.nodes s (crashed (w.nodes s) k)
    by true = refl
    by false = refl

crash_sites : (w : World) (s k : ℕ) → (crash_at w s k).sites ≡ w.sites
crash_sites w s k = by (is_origin (w.nodes s).role)
  where
    by : (b : Bool) → (if b then crash_left w s k else with_node w s (crashed (w.nodes s) k)).sites ≡ w.sites
    by true = refl
    by false = refl

-- no site is made or lost
pub crashed_sites : (d : Doubted) (site kept : ℕ) (taken : Bool) → (crashed_as d site kept taken).world.sites ≡ d.world.sites
crashed_sites d site kept taken = crash_sites (resolved_at d site taken).world site (kept_of ((resolved_at d site taken).world.nodes site) kept) ∙ by taken
  where
    by_after : (o : Option After) → (taken_up d.world site o).sites ≡ d.world.sites
    by_after None = refl
    by_after (Some x) = refl

    by : (t : Bool) → (resolved_at d site t).world.sites ≡ d.world.sites
    by false = refl
    by true = by_after (d.after site)

pub burns_halved : (a b : ℕ) (fuses : ℕ → Fuse) (d : Doubted) (e : Event) (site disk : ℕ) → MayBurn a b fuses d.world → MayBurn a b (noted_at fuses site) (halved d e site disk).world
burns_halved a b fuses d e site disk burns = record { each = λ i. by i (eqb i site) refl }
  where
    n : Node
    n = record (d.world.nodes site) { halted = Some disk; fuse = burned (d.world.nodes site).fuse }

    by : (i : ℕ) (c : Bool) → eqb i site ≡ c
        → ((if c then burned (fuses site) else fuses i) ≡ (if c then n else d.world.nodes i).fuse) ⊎ (((i ≡ a) ⊎ (i ≡ b)) × ((if c then burned (fuses site) else fuses i) ≡ burned (if c then n else d.world.nodes i).fuse))
    by i true is = inl (burns_same a b fuses d.world burns site)
    by i false is = burns.each i

pub burns_crashed : (a b : ℕ) (fuses : ℕ → Fuse) (d : Doubted) (site kept : ℕ) (taken : Bool) → MayBurn a b fuses d.world → MayBurn a b (updated fuses site NoFuse) (crashed_as d site kept taken).world
burns_crashed a b fuses d site kept taken burns =
    let w : World = (resolved_at d site taken).world in
    record { each = λ i. subst (λ (ns : ℕ → Node). (updated fuses site NoFuse i ≡ (ns i).fuse) ⊎ (((i ≡ a) ⊎ (i ≡ b)) × (updated fuses site NoFuse i ≡ burned (ns i).fuse))) (sym (crash_nodes w site (kept_of (w.nodes site) kept))) (by w (crashed (w.nodes site) (kept_of (w.nodes site) kept)) refl i (eqb i site) refl (others taken i)) }
  where
    others : (t : Bool) (i : ℕ) → eqb i site ≡ false → (resolved_at d site t).world.nodes i ≡ d.world.nodes i
    others false i apart = refl
    others true i apart = by_after (d.after site)
      where
        by_after : (o : Option After) → (taken_up d.world site o).nodes i ≡ d.world.nodes i
        by_after None = refl
        by_after (Some x) = ap (λ (c : Bool). if c then x.node else d.world.nodes i) apart

    by : (w : World) (n : Node) → n.fuse ≡ NoFuse → (i : ℕ) (c : Bool) → eqb i site ≡ c → (eqb i site ≡ false → w.nodes i ≡ d.world.nodes i)
        → ((if c then NoFuse else fuses i) ≡ (if c then n else w.nodes i).fuse) ⊎ (((i ≡ a) ⊎ (i ≡ b)) × ((if c then NoFuse else fuses i) ≡ burned (if c then n else w.nodes i).fuse))
    by w n none i true is same = inl (sym none)
    by w n none i false is same = subst (λ (k : Node). (fuses i ≡ k.fuse) ⊎ (((i ≡ a) ⊎ (i ≡ b)) × (fuses i ≡ burned k.fuse))) (sym (same is)) (burns.each i)

-- a fuse that may run out where it is noted may do so in the world
pub fused_pure : (a b : ℕ) (fuses : ℕ → Fuse) (w : World) → MayBurn a b fuses w → (i : ℕ) → IsFused (fuses i) → IsFused (w.nodes i).fuse
fused_pure a b fuses w burns i lit = by (burns.each i)
  where
    before : (f : Fuse) → IsFused (burned f) → IsFused f
    before NoFuse h = h
    before (FuseSet calls) h = tt
    before (FuseLit most) h = tt

    by : (fuses i ≡ (w.nodes i).fuse) ⊎ (((i ≡ a) ⊎ (i ≡ b)) × (fuses i ≡ burned (w.nodes i).fuse)) → IsFused (w.nodes i).fuse
    by (inl same) = subst (λ (f : Fuse). IsFused f) same lit
    by (inr noted) = before (w.nodes i).fuse (subst (λ (f : Fuse). IsFused f) noted.1 lit)

-- ---- disks that tell no contents

pub pumped_burnt : (fuses : ℕ → Fuse) (d : Doubted) → LinksFit (noted_as fuses d) → (p s : ℕ) (more : List Packet) → pumped_with (burnt_world fuses d.world) p s more ≡ burnt_world fuses (pumped_with d.world p s more)
pumped_burnt fuses d fit p s more = ap (λ (x : World). let y : World = record x { packets = d.world.packets ++ more } in y) (step_burnt fuses d fit (Pump p s) refl)

own_fuse : (fuses : ℕ → Fuse) (s : ℕ) → updated fuses s (fuses s) ≡ fuses
own_fuse fuses s = fun_ext (λ i. by i (eqb i s) refl)
  where
    by : (i : ℕ) (b : Bool) → eqb i s ≡ b → (if b then fuses s else fuses i) ≡ fuses i
    by i true is = ap fuses (sym (eqb_equal i s is))
    by i false is = refl

pub target_burnt : (fuses : ℕ → Fuse) (w : World) (s : ℕ) (n : Node) (g : Option Gathering) (more : List Packet) → target_with (burnt_world fuses w) s (record n { fuse = fuses s }) g more ≡ burnt_world fuses (target_with w s n g more)
target_burnt fuses w s n g more =
    ap (λ (ns : ℕ → Node). let x : World = record w { nodes = ns; gathering = updated w.gathering s g; packets = w.packets ++ more } in x)
    (nodes_at fuses w.nodes s n (record n { fuse = fuses s }) (fuses s) refl ∙ ap (λ (f : ℕ → Fuse). with_fuses f (updated w.nodes s n)) (own_fuse fuses s))
