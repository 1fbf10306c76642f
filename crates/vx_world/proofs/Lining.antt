-- A line leaves a good world, whatever sites are in doubt before and behind it, and whichever of them are as they may be on their disks.
use Rattle.std.proofs.Common.{◌≡◌, ◌∙◌, inl, inr, ℕ, ◌<◌, List, ap, sym, subst, refl, Bool, true, false}
use Rattle.std.specs.Prelude.{Option, Some, None, eqb, if◌then◌else◌}
use Rattle.std.proofs.lemmas.Bool.{cases_eq}
use Rattle.std.proofs.lemmas.Option.{same_Some}
use Rattle.vx_model.specs.declared.site.SiteState.TheVariants.{Up}
use Rattle.vx_history.proofs.Behind.{after_of}
use Rattle.vx_history.proofs.Updates.{all_updated, at_place, eqb_equal}
use Rattle.vx_history.specs.Doubts.{After, Doubted, resolved, resolved_at, taken_up, crashed_as, halved}
use Rattle.vx_history.specs.Events.{kept_of, crash_at}
use Rattle.vx_history.specs.GoodWorld.{GoodWorld}
use Rattle.vx_history.specs.Likes.{IsLike, SameLink}
use Rattle.vx_history.specs.Refusals.{is_running}
use Rattle.vx_history.specs.Step.{outcome_of, step}
use Rattle.vx_history.specs.Steps.{stopped_by}
use Rattle.vx_history.specs.Stops.{EventsEnd, AllDone, Halts, Cuts, Reads, IsOpen, WritesAt, stored_by}
use Rattle.vx_history.specs.World.{World, Node, Link as LinkState}
use Rattle.vx_history.specs.declared.event.Event.{Event}
use Rattle.vx_history.specs.declared.event.Event.TheVariants.{Site, Raw, Group, Volumes, Write, Read, Apply, Pump, Tick, Deliver, Connect, Cut, Pause, Resume, Wait, Link, Set, Attach, Detach, Crash, Deport, Fall, Recover, Fault}
use Rattle.vx_world.specs.Lines.{IsDoubt, GoodDoubted, node_as, row_as, resolved_as}
use Rattle.vx_world.specs.Twins.{GoodTwin, IsElsewhere}
use Rattle.vx_world.proofs.Crashed.{not_past, crash_is}
use Rattle.vx_world.proofs.Halted.{halved_good, like_counted}
use Rattle.vx_world.proofs.Halving.{aside, half}
use Rattle.vx_world.proofs.Likely.{noted, link_self}
use Rattle.vx_world.proofs.Liking.{good_like}
use Rattle.vx_world.proofs.Several.{exact_note, like_sym, like_trans, like_as, choice_like, node_none, row_none, step_as, step_as_good}
use Rattle.vx_world.proofs.Doubting.{world_good, doubt_moved, doubt_of, like_good, others, resolve_good, step_good_as, runs_good}

-- ## An event that a disk or a fuse ends

-- the same event writes at the site, whichever of the others are as they may be
writes_as : (w : World) (after : ℕ → Option After) (c : ℕ → Bool) (e : Event) (site : ℕ) → (resolved_as w after c).nodes site ≡ w.nodes site → (resolved_as w after c).links site ≡ w.links site → WritesAt w e site
    → WritesAt (resolved_as w after c) e site
writes_as w after c (Site name disks blocks) site node row at = at
writes_as w after c (Raw p) site node row at = at
writes_as w after c (Group p) site node row at = at
writes_as w after c (Volumes p log xs) site node row at = at
writes_as w after c (Write p volume start bytes None) site node row at = at
writes_as w after c (Write p volume start bytes (Some disk)) site node row at = at
writes_as w after c (Read p volume start count) site node row at = at
writes_as w after c (Apply p count reached) site node row at = at
writes_as w after c (Pump p q) site node row at = at
writes_as w after c (Tick p q) site node row at = at
writes_as w after c (Deliver number) site node row at =
    let p = at.0 in (
      p,
      at.1,
      at.2,
      at.3,
      subst (λ (n : Node). (((resolved_as w after c).links site) p.source).stored < stored_by n (((resolved_as w after c).links site) p.source) p p.message) (sym node)
          (subst (λ (r : ℕ → LinkState). (r p.source).stored < stored_by (w.nodes site) (r p.source) p p.message) (sym row) at.4),
    )
writes_as w after c (Connect p q) site node row at = at
writes_as w after c (Cut p q) site node row at = at
writes_as w after c (Pause p q) site node row at = at
writes_as w after c (Resume p q) site node row at = at
writes_as w after c (Wait p number) site node row at = at
writes_as w after c (Link p q sync prot part) site node row at = at
writes_as w after c (Set p q sync prot) site node row at = at
writes_as w after c (Attach p q) site node row at = at
writes_as w after c (Detach p q) site node row at = at
writes_as w after c (Crash p kept) site node row at = at
writes_as w after c (Deport p) site node row at = at
writes_as w after c (Fall p) site node row at = at
writes_as w after c (Recover p fails) site node row at = at
writes_as w after c (Fault p disk) site node row at = at

-- what crashes no site in doubt and is no recovery or fault of one
calm_write : (w : World) (e : Event) (site : ℕ) → WritesAt w e site → (s : ℕ) → (s ≡ site → ⊥) → IsElsewhere s e
calm_write w (Site name disks blocks) site at s apart = tt
calm_write w (Raw p) site at s apart = tt
calm_write w (Group p) site at s apart = tt
calm_write w (Volumes p log xs) site at s apart = tt
calm_write w (Write p volume start bytes fails) site at s apart = tt
calm_write w (Read p volume start count) site at s apart = tt
calm_write w (Apply p count reached) site at s apart = tt
calm_write w (Pump p q) site at s apart = tt
calm_write w (Tick p q) site at s apart = tt
calm_write w (Deliver number) site at s apart = tt
calm_write w (Connect p q) site at s apart = tt
calm_write w (Cut p q) site at s apart = tt
calm_write w (Pause p q) site at s apart = tt
calm_write w (Resume p q) site at s apart = tt
calm_write w (Wait p number) site at s apart = tt
calm_write w (Link p q sync prot part) site at s apart = tt
calm_write w (Set p q sync prot) site at s apart = tt
calm_write w (Attach p q) site at s apart = tt
calm_write w (Detach p q) site at s apart = tt
calm_write w (Crash p kept) site at s apart = absurd at
calm_write w (Deport p) site at s apart = tt
calm_write w (Fall p) site at s apart = tt
calm_write w (Recover p fails) site at s apart = absurd at
calm_write w (Fault p disk) site at s apart = λ here. apart (sym here ∙ at)

pub fault_is : (w : World) (s disk : ℕ) → s < w.sites → (w.nodes s).state ≡ Up → (outcome_of w (Fault s disk)).world ≡ stopped_by w s disk
fault_is w s disk here up = rw (not_past w.sites s here) (rw up refl)

module _ (d : Doubted) (e : Event) (site disk : ℕ) (g : GoodDoubted d) (opens : IsOpen (d.world.nodes site)) (at : WritesAt d.world e site) where
  -- a site that runs is in no doubt
  free : d.after site ≡ None
  free = by_doubt (d.after site) refl
    where
      by_doubt : (o : Option After) → d.after site ≡ o → o ≡ None
      by_doubt None is = refl
      by_doubt (Some a) is = let f : true ≡ false = sym (ap is_running opens.1) ∙ (g.doubts site a is).halted in absurd (cc)

  apart_of : (s : ℕ) (a : After) → d.after s ≡ Some a → s ≡ site → ⊥
  apart_of s a is here = let f : None ≡ Some a = sym free ∙ ap d.after (sym here) ∙ is in absurd (cc)

  abbrev h : Doubted
  h = halved d e site disk

  abbrev mine : After
  mine = after_of d e site disk

  twin : GoodTwin site h.world (resolved h.world site mine)
  twin = halved_good d e site disk (world_good d g) opens.0 at

  halved_doubts : (s : ℕ) (a : After) → h.after s ≡ Some a → IsDoubt h.world s a
  halved_doubts s a =
      all_updated (λ k (o : Option After). o ≡ Some a → IsDoubt h.world k a) d.after site (Some mine)
      (λ is. let same : mine ≡ a = cc in subst (λ (x : After). IsDoubt h.world site x) same (doubt_of h.world site mine twin.twin))
      (λ k apart is. doubt_moved d.world h.world k a refl (aside d.world.nodes site (half (d.world.nodes site) disk) k apart) (g.doubts k a is)) s

  -- a fault of the disk alone would leave the same of the site as it was
  fault_like : IsLike (step d.world (Fault site disk)).world h.world
  fault_like =
      let v : World = stopped_by d.world site disk in
      let n : ℕ → ℕ = (step d.world (Fault site disk)).world.headers in
      like_trans (step d.world (Fault site disk)).world v h.world
      (like_sym v (step d.world (Fault site disk)).world
      (subst (λ (x : World). IsLike v (record x { headers = n })) (sym (fault_is d.world site disk twin.twin.here opens.0)) (like_counted v n)))
      (like_counted v h.world.headers)

  -- the site is as it was
  left : (c : ℕ → Bool) → c site ≡ false → GoodWorld (resolved_as h.world h.after c)
  left c none =
      let v : World = (step d.world (Fault site disk)).world in
      good_like (resolved_as v d.after c) (resolved_as h.world h.after c)
      (step_as_good d.world d.after g.doubts (Fault site disk) c (λ s a is _ here. apart_of s a is (sym here)) (g.good c))
      (like_trans (resolved_as v d.after c) (resolved_as h.world d.after c) (resolved_as h.world h.after c)
      (like_as v h.world d.after c fault_like)
      (choice_like h.world d.after h.after c c (λ i n. node_is i n (eqb i site) refl) (λ i r. row_is i r (eqb i site) refl)))
    where
      unchosen : (i : ℕ) → eqb i site ≡ true → c i ≡ false
      unchosen i e = ap c (eqb_equal i site e) ∙ none

      node_is : (i : ℕ) (n : Node) (b : Bool) → eqb i site ≡ b
          → node_as (c i) (if b then Some (after_of d e site disk) else d.after i) n ≡ node_as (c i) (d.after i) n
      node_is i n true is = ap (λ (x : Bool). node_as x (Some (after_of d e site disk)) n) (unchosen i is) ∙ sym
          (ap (λ (x : Bool). node_as x (d.after i) n) (unchosen i is))
      node_is i n false is = refl

      row_is : (i : ℕ) (r : ℕ → LinkState) (b : Bool) → eqb i site ≡ b
          → row_as (c i) (if b then Some (after_of d e site disk) else d.after i) r ≡ row_as (c i) (d.after i) r
      row_is i r true is = ap (λ (x : Bool). row_as x (Some (after_of d e site disk)) r) (unchosen i is) ∙ sym
          (ap (λ (x : Bool). row_as x (d.after i) r) (unchosen i is))
      row_is i r false is = refl

  -- the site is as it may be, and so are those others that are chosen
  module _ (c : ℕ → Bool) (chosen : c site ≡ true) where
    abbrev one : Doubted
    one = record { world = resolved_as d.world d.after c; after = λ _. None; strayed = d.strayed }

    abbrev theirs : After
    theirs = after_of one e site disk

    node_here : (w : World) → node_as (c site) (d.after site) (w.nodes site) ≡ w.nodes site
    node_here w = ap (λ (o : Option After). node_as (c site) o (w.nodes site)) free ∙ node_none (c site) (w.nodes site)

    row_here : (w : World) → row_as (c site) (d.after site) (w.links site) ≡ w.links site
    row_here w = ap (λ (o : Option After). row_as (c site) o (w.links site)) free ∙ row_none (c site) (w.links site)

    other_twin : GoodTwin site (halved one e site disk).world (resolved (halved one e site disk).world site theirs)
    other_twin = halved_good one e site disk (g.good c) (ap (λ (n : Node). n.state) (node_here d.world) ∙ opens.0) (writes_as d.world d.after c e site (node_here d.world) (row_here d.world) at)

    steps : IsLike (step one.world e).world (resolved_as (step d.world e).world d.after c)
    steps = step_as d.world d.after g.doubts e c (λ s a is _. calm_write d.world e site at s (apart_of s a is))

    half_noted : (m n : Node) → n ≡ noted m n → half n disk ≡ noted (half m disk) (half n disk)
    half_noted m n is = ap (λ (x : Node). half x disk) is

    abbrev x : World
    x = resolved (halved one e site disk).world site theirs

    abbrev y : World
    y = resolved_as h.world h.after c

    y_node : y.nodes site ≡ half ((step d.world e).world.nodes site) disk
    y_node =
        ap (λ (b : Bool). node_as b (h.after site) (h.world.nodes site)) chosen
        ∙ ap (λ (o : Option After). node_as true o (h.world.nodes site)) (at_place d.after site (Some mine))
        ∙ at_place (step d.world e).world.nodes site (half ((step d.world e).world.nodes site) disk)

    x_node : x.nodes site ≡ half ((step one.world e).world.nodes site) disk
    x_node =
        at_place (halved one e site disk).world.nodes site theirs.node
        ∙ at_place (step one.world e).world.nodes site (half ((step one.world e).world.nodes site) disk)

    node_like : y.nodes site ≡ noted (x.nodes site) (y.nodes site)
    node_like =
        let m : Node = (step one.world e).world.nodes site in
        let n : Node = (step d.world e).world.nodes site in
        let is : n ≡ noted m n = subst (λ (k : Node). k ≡ noted m k) (node_here (step d.world e).world) (steps.nodes site) in
        subst (λ (k : Node). k ≡ noted (x.nodes site) k) (sym y_node)
        (subst (λ (k : Node). half n disk ≡ noted k (half n disk)) (sym x_node) (half_noted m n is))

    y_row : y.links site ≡ (step d.world e).world.links site
    y_row =
        ap (λ (b : Bool). row_as b (h.after site) (h.world.links site)) chosen
        ∙ ap (λ (o : Option After). row_as true o (h.world.links site)) (at_place d.after site (Some mine))

    x_row : x.links site ≡ (step one.world e).world.links site
    x_row = at_place (halved one e site disk).world.links site theirs.row

    row_like : (q : ℕ) → SameLink (x.links site q) (y.links site q)
    row_like q =
        subst (λ (r : ℕ → LinkState). SameLink (x.links site q) (r q)) (sym y_row)
        (subst (λ (r : ℕ → LinkState). SameLink (r q) ((step d.world e).world.links site q)) (sym x_row)
        (subst (λ (r : ℕ → LinkState). SameLink ((step one.world e).world.links site q) (r q)) (row_here (step d.world e).world) (steps.links site q)))

    node_apart : (i : ℕ) → (i ≡ site → ⊥) → y.nodes i ≡ x.nodes i
    node_apart i apart =
        ap (λ (o : Option After). node_as (c i) o (h.world.nodes i)) (aside d.after site (Some mine) i apart)
        ∙ ap (λ (n : Node). node_as (c i) (d.after i) n) (aside d.world.nodes site (half (d.world.nodes site) disk) i apart)
        ∙ sym (aside one.world.nodes site (half (one.world.nodes site) disk) i apart)
        ∙ sym (aside (halved one e site disk).world.nodes site theirs.node i apart)

    row_apart : (i : ℕ) → (i ≡ site → ⊥) → y.links i ≡ x.links i
    row_apart i apart =
        ap (λ (o : Option After). row_as (c i) o (h.world.links i)) (aside d.after site (Some mine) i apart)
        ∙ sym (aside (halved one e site disk).world.links site theirs.row i apart)

    right : GoodWorld (resolved_as h.world h.after c)
    right = good_like x y other_twin.good_too (record {
      sites = refl;
      nodes = λ i. elim (cases_eq i site) [
        | inl same ↦ subst (λ (j : ℕ). y.nodes j ≡ noted (x.nodes j) (y.nodes j)) (sym same) node_like
        | inr apart ↦ exact_note (x.nodes i) (y.nodes i) (node_apart i apart)
      ];
      links = λ i q. elim (cases_eq i site) [
        | inl same ↦ subst (λ (j : ℕ). SameLink (x.links j q) (y.links j q)) (sym same) (row_like q)
        | inr apart ↦ subst (λ (r : ℕ → LinkState). SameLink (x.links i q) (r q)) (sym (row_apart i apart)) (link_self (x.links i q))
      ];
      lines = λ _. refl;
      packets = refl;
      promised = refl;
      gathering = λ _. refl;
    })

  pub halved_all : GoodDoubted h
  halved_all = record { doubts = halved_doubts; good = λ c. by_choice c (c site) refl }
    where
      by_choice : (c : ℕ → Bool) (b : Bool) → c site ≡ b → GoodWorld (resolved_as (halved d e site disk).world (halved d e site disk).after c)
      by_choice c true chosen = right c chosen
      by_choice c false none = left c none

-- a crash of a site in doubt
pub crashed_all : (d : Doubted) (s kept : ℕ) (taken : Bool) (a : After) → d.after s ≡ Some a → GoodDoubted d → GoodDoubted (crashed_as d s kept taken)
crashed_all d s kept taken a is g =
    let r : Doubted = resolved_at d s taken in
    let v : World = crash_at r.world s (kept_of (r.world.nodes s) kept) in
    let u : World = (step r.world (Crash s kept)).world in
    let stands = standing taken in
    like_good (record { world = u; after = r.after; strayed = r.strayed }) (crashed_as d s kept taken)
    (step_good_as r (Crash s kept) (resolve_good d s taken g) (λ t b other crash. (others d.after s t b other).0 (same_Some t s (sym crash))))
    (record {
      worlds = like_sym v u (subst (λ (x : World). IsLike v (record x { headers = u.headers })) (sym (crash_is r.world s kept stands.0 stands.1))
          (like_counted v u.headers));
      after = λ _. refl;
    })
  where
    standing : (b : Bool) → (s < (resolved_at d s b).world.sites) × (((resolved_at d s b).world.nodes s).state ≡ Up)
    standing false = ((g.doubts s a is).here, (g.doubts s a is).up)
    standing true =
        subst (λ (o : Option After). (s < (taken_up d.world s o).sites) × (((taken_up d.world s o).nodes s).state ≡ Up)) (sym is)
        ((g.doubts s a is).here, ap (λ (n : Node). n.state) (at_place d.world.nodes s a.node) ∙ (g.doubts s a is).up_too)

-- ## Lines

pub line_good : (d new : Doubted) (events : List Event) (fails : List (ℕ × ℕ)) → GoodDoubted d → EventsEnd d events fails new → GoodDoubted new
line_good d new events fails g (AllDone last runs failed like) = like_good last new (runs_good events d last g runs) like
line_good d new events fails g (Halts e site disk middle comes failed like) =
    like_good (halved middle e site disk) new (halved_all middle e site disk (runs_good comes.before d middle g comes.runs) comes.opens comes.writes) like
line_good d new events fails g (Cuts e site kept taken middle comes fused failed like) =
    let h : Doubted = halved middle e site 0 in
    like_good (crashed_as h site kept taken) new
    (crashed_all h site kept taken (after_of middle e site 0) (at_place middle.after site (Some (after_of middle e site 0)))
    (halved_all middle e site 0 (runs_good comes.before d middle g comes.runs) comes.opens comes.writes))
    like
line_good d new events fails g (Reads before rest e site disk middle split runs quiet failed like) =
    like_good middle new (runs_good before d middle g runs) like
