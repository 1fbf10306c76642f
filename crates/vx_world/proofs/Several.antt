-- Any number of halted sites in doubt: an event keeps the world good, whichever of them are as they may be on their disks.
use Rattle.std.proofs.Common.{◌≡◌, ◌∙◌, inl, inr, ℕ, zero, suc, ◌<◌, ap, sym, subst, refl, arith, Bool, true, false}
use Rattle.std.specs.Prelude.{Option, Some, None, ◌&&◌, ltb}
use Rattle.std.proofs.lemmas.Bool.{cases_eq}
use Rattle.std.proofs.lemmas.Bool.Decides.{nat_tests}
use Rattle.vx_model.specs.declared.history.Line.{Line}
use Rattle.vx_history.proofs.Updates.{at_place}
use Rattle.vx_history.specs.Doubts.{After, resolved}
use Rattle.vx_history.specs.GoodWorld.{GoodWorld}
use Rattle.vx_history.specs.Likes.{IsLike, SameLink}
use Rattle.vx_history.specs.Refusals.{is_running}
use Rattle.vx_history.specs.Sends.{is_linked}
use Rattle.vx_history.specs.Step.{step}
use Rattle.vx_history.specs.Groups.{GroupNode}
use Rattle.vx_history.specs.World.{World, Node, Link as LinkRecord, History}
use Rattle.vx_history.specs.declared.event.Event.{Event}
use Rattle.vx_world.specs.Lines.{IsDoubt, node_as, row_as, resolved_as}
use Rattle.vx_world.specs.Twins.{Twin, IsElsewhere}
use Rattle.vx_world.proofs.Halving.{aside}
use Rattle.vx_world.proofs.Likely.{noted, link_self, pair_updated}
use Rattle.vx_world.proofs.LikeSteps.{looks_same, step_like}
use Rattle.vx_world.proofs.Liking.{good_like}
use Rattle.vx_world.proofs.Passed.{twin_step}
use Rattle.vx_world.proofs.Still.{Stands, step_still}
use Rattle.vx_world.proofs.Whole.{step_good}

-- ## Worlds that differ in notes alone

pub exact_note : (a b : Node) → b ≡ a → b ≡ noted a b
exact_note a b e =
    e
    ∙ ap (λ f. let n : Node = record a { fuse = f } in n) (sym (ap (λ (n : Node). n.fuse) e))
    ∙ ap (λ (f : ℕ → Bool). let n : Node = record a { fuse = b.fuse; failing = f } in n) (sym (ap (λ (n : Node). n.failing) e))
    ∙ ap (λ (g : Option GroupNode). let n : Node = record a { fuse = b.fuse; failing = b.failing; group = g } in n) (sym (ap (λ (n : Node). n.group) e))

-- worlds with the same at each place
pub like_exact : (w v : World) → v.sites ≡ w.sites → ((i : ℕ) → v.nodes i ≡ w.nodes i) → ((i : ℕ) → v.links i ≡ w.links i) → v.lines ≡ w.lines
    → v.packets ≡ w.packets → v.promised ≡ w.promised → ((i : ℕ) → v.gathering i ≡ w.gathering i) → IsLike w v
like_exact w v sites nodes links lines packets promised gathering = record {
  sites = sites;
  nodes = λ i. exact_note (w.nodes i) (v.nodes i) (nodes i);
  links = λ p q. let e : v.links p q ≡ w.links p q = ap (λ (r : ℕ → LinkRecord). r q) (links p) in record { linked = ap is_linked e; same = λ _. e };
  lines = λ l. ap (λ (f : Line → History). f l) lines;
  packets = packets;
  promised = promised;
  gathering = gathering;
}

pub like_sym : (w v : World) → IsLike w v → IsLike v w
like_sym w v like = record {
  sites = sym like.sites;
  nodes = λ i. sym (ap (λ (n : Node). noted n (w.nodes i)) (like.nodes i));
  links = λ p q. let s : SameLink (w.links p q) (v.links p q) = like.links p q in record {
    linked = sym s.linked;
    same = λ is. sym (s.same (sym s.linked ∙ is));
  };
  lines = λ l. sym (like.lines l);
  packets = sym like.packets;
  promised = sym like.promised;
  gathering = λ i. sym (like.gathering i);
}

pub like_trans : (u v w : World) → IsLike u v → IsLike v w → IsLike u w
like_trans u v w h k = record {
  sites = k.sites ∙ h.sites;
  nodes = λ i. k.nodes i ∙ ap (λ (n : Node). noted n (w.nodes i)) (h.nodes i);
  links = λ p q. let s : SameLink (u.links p q) (v.links p q) = h.links p q in record {
    linked = (k.links p q).linked ∙ s.linked;
    same = λ is. (k.links p q).same (s.linked ∙ is) ∙ s.same is;
  };
  lines = λ l. k.lines l ∙ h.lines l;
  packets = k.packets ∙ h.packets;
  promised = k.promised ∙ h.promised;
  gathering = λ i. k.gathering i ∙ h.gathering i;
}

-- with a site as it may be
pub like_resolved : (w v : World) (s : ℕ) (a : After) → IsLike w v → IsLike (resolved w s a) (resolved v s a)
like_resolved w v s a like = record {
  sites = like.sites;
  nodes = λ i. pair_updated (λ (m n : Node). n ≡ noted m n) w.nodes v.nodes s a.node a.node i refl (like.nodes i);
  links = λ p q. pair_updated (λ (r t : ℕ → LinkRecord). SameLink (r q) (t q)) w.links v.links s a.row a.row p (link_self (a.row q)) (like.links p q);
  lines = like.lines;
  packets = like.packets;
  promised = like.promised;
  gathering = like.gathering;
}

-- with all that are chosen as they may be
pub like_as : (w v : World) (after : ℕ → Option After) (c : ℕ → Bool) → IsLike w v → IsLike (resolved_as w after c) (resolved_as v after c)
like_as w v after c like = record {
  sites = like.sites;
  nodes = λ i. node_like (c i) (after i) (w.nodes i) (v.nodes i) (like.nodes i);
  links = λ p q. row_like (c p) (after p) (w.links p) (v.links p) q (like.links p q);
  lines = like.lines;
  packets = like.packets;
  promised = like.promised;
  gathering = like.gathering;
}
  where
    node_like : (b : Bool) (o : Option After) (m n : Node) → n ≡ noted m n → node_as b o n ≡ noted (node_as b o m) (node_as b o n)
    node_like true (Some a) m n e = refl
    node_like true None m n e = e
    node_like false o m n e = e

    row_like : (b : Bool) (o : Option After) (r t : ℕ → LinkRecord) (q : ℕ) → SameLink (r q) (t q) → SameLink (row_as b o r q) (row_as b o t q)
    row_like true (Some a) r t q e = link_self (a.row q)
    row_like true None r t q e = e
    row_like false o r t q e = e

-- other choices that come to the same
pub choice_like : (w : World) (after more : ℕ → Option After) (c d : ℕ → Bool)
    → ((i : ℕ) (n : Node) → node_as (d i) (more i) n ≡ node_as (c i) (after i) n)
    → ((i : ℕ) (r : ℕ → LinkRecord) → row_as (d i) (more i) r ≡ row_as (c i) (after i) r) → IsLike (resolved_as w after c) (resolved_as w more d)
choice_like w after more c d nodes rows =
    like_exact (resolved_as w after c) (resolved_as w more d) refl (λ i. nodes i (w.nodes i)) (λ i. rows i (w.links i)) refl refl refl (λ _. refl)

-- nobody is chosen
pub none_like : (w : World) (after : ℕ → Option After) (c : ℕ → Bool) → ((i : ℕ) → c i ≡ false) → IsLike w (resolved_as w after c)
none_like w after c none =
    like_exact w (resolved_as w after c) refl (λ i. ap (λ (b : Bool). node_as b (after i) (w.nodes i)) (none i))
    (λ i. ap (λ (b : Bool). row_as b (after i) (w.links i)) (none i)) refl refl refl (λ _. refl)

pub node_none : (b : Bool) (n : Node) → node_as b None n ≡ n
node_none true n = refl
node_none false n = refl

pub row_none : (b : Bool) (r : ℕ → LinkRecord) → row_as b None r ≡ r
row_none true r = refl
row_none false r = refl

-- ## An event

-- what a site in doubt is, whichever it is
pub twin_of : (w : World) (s : ℕ) (a : After) → IsDoubt w s a → Twin s w (resolved w s a)
twin_of w s a is = record {
  sites = refl;
  nodes = λ i apart. aside w.nodes s a.node i apart;
  rows = λ i apart. aside w.links s a.row i apart;
  lines = refl;
  packets = refl;
  promised = refl;
  gathering = λ _. refl;
  here = is.here;
  name = ap (λ (n : Node). n.name) (at_place w.nodes s a.node) ∙ is.name;
  up = is.up;
  up_too = ap (λ (n : Node). n.state) (at_place w.nodes s a.node) ∙ is.up_too;
  halted = is.halted;
  halted_too = ap (λ (n : Node). is_running n.halted) (at_place w.nodes s a.node) ∙ is.halted_too;
}

-- the same event with the site as it may be leaves it so
module _ (w : World) (s : ℕ) (a : After) (e : Event) (is : IsDoubt w s a) (calm : IsElsewhere s e) where
  abbrev other : World
  other = resolved w s a

  twins : Twin s (step w e).world (step other e).world
  twins = twin_step s w other e calm (twin_of w s a is)

  stands : Stands s other (step other e).world
  stands = step_still s other e (twin_of w s a is).up_too (twin_of w s a is).halted_too is.here calm

  node_is : (step other e).world.nodes s ≡ a.node
  node_is = stands.node ∙ at_place w.nodes s a.node

  row_is : (step other e).world.links s ≡ a.row
  row_is = stands.row ∙ at_place w.links s a.row

  pub step_resolved : IsLike (step other e).world (resolved (step w e).world s a)
  step_resolved =
      like_exact (step other e).world (resolved (step w e).world s a) (sym twins.sites)
      (λ i. elim (cases_eq i s) [
        | inl same ↦
            subst (λ (j : ℕ). (resolved (step w e).world s a).nodes j ≡ (step other e).world.nodes j) (sym same)
            (at_place (step w e).world.nodes s a.node ∙ sym node_is)
        | inr apart ↦ aside (step w e).world.nodes s a.node i apart ∙ sym (twins.nodes i apart)
      ])
      (λ i. elim (cases_eq i s) [
        | inl same ↦
            subst (λ (j : ℕ). (resolved (step w e).world s a).links j ≡ (step other e).world.links j) (sym same)
            (at_place (step w e).world.links s a.row ∙ sym row_is)
        | inr apart ↦ aside (step w e).world.links s a.row i apart ∙ sym (twins.rows i apart)
      ])
      (sym twins.lines) (sym twins.packets) (sym twins.promised) (λ i. sym (twins.gathering i))

  pub doubt_stays : IsDoubt (step w e).world s a
  doubt_stays = record {
    here = twins.here;
    name = ap (λ (n : Node). n.name) (sym node_is) ∙ twins.name;
    up = twins.up;
    up_too = is.up_too;
    halted = twins.halted;
    halted_too = is.halted_too;
  }

-- those below a number are chosen as they are, and no others
abbrev below : (ℕ → Bool) → ℕ → ℕ → Bool
below c n i = ltb i n && c i

below_none : (c : ℕ → Bool) (i : ℕ) → below c zero i ≡ false
below_none c i = let e : ltb i 0 ≡ false = grind (arith, nat_tests) in ap (λ (b : Bool). b && c i) e

below_other : (c : ℕ → Bool) (n i : ℕ) → (i ≡ n → ⊥) → below c (suc n) i ≡ below c n i
below_other c n i apart = ap (λ (b : Bool). b && c i) (same i n apart)
  where
    same : (i n : ℕ) → (i ≡ n → ⊥) → ltb i (suc n) ≡ ltb i n
    same i n apart = grind (arith, nat_tests)

below_here : (c : ℕ → Bool) (n : ℕ) → below c (suc n) n ≡ c n
below_here c n = let e : ltb n (suc n) ≡ true = grind (arith, nat_tests) in ap (λ (b : Bool). b && c n) e

below_past : (c : ℕ → Bool) (n : ℕ) → below c n n ≡ false
below_past c n = let e : ltb n n ≡ false = grind (arith, nat_tests) in ap (λ (b : Bool). b && c n) e

-- a site in doubt is so too where others are as they may be
doubt_as : (w : World) (after : ℕ → Option After) (c : ℕ → Bool) (s : ℕ) (a : After) → c s ≡ false → IsDoubt w s a → IsDoubt (resolved_as w after c) s a
doubt_as w after c s a none is =
    let same : (resolved_as w after c).nodes s ≡ w.nodes s = ap (λ (b : Bool). node_as b (after s) (w.nodes s)) none in
    record {
      here = is.here;
      name = is.name ∙ sym (ap (λ (n : Node). n.name) same);
      up = ap (λ (n : Node). n.state) same ∙ is.up;
      up_too = is.up_too;
      halted = ap (λ (n : Node). is_running n.halted) same ∙ is.halted;
      halted_too = is.halted_too;
    }

module _ (w : World) (after : ℕ → Option After) (doubts : (s : ℕ) (a : After) → after s ≡ Some a → IsDoubt w s a) (e : Event) (c : ℕ → Bool)
    (calm : (s : ℕ) (a : After) → after s ≡ Some a → c s ≡ true → IsElsewhere s e) where
  abbrev part : ℕ → World
  part n = resolved_as w after (below c n)

  abbrev past : ℕ → World
  past n = resolved_as (step w e).world after (below c n)

  skipped_node : (n : ℕ) → ((m : Node) → node_as (c n) (after n) m ≡ m) → (i : ℕ) (m : Node) → node_as (below c (suc n) i) (after i) m ≡ node_as (below c n i) (after i) m
  skipped_node n node i m = elim (cases_eq i n) [
    | inl same ↦
        subst (λ (j : ℕ). node_as (below c (suc n) j) (after j) m ≡ node_as (below c n j) (after j) m) (sym same)
        (ap (λ (b : Bool). node_as b (after n) m) (below_here c n) ∙ node m ∙ sym (ap (λ (b : Bool). node_as b (after n) m) (below_past c n)))
    | inr apart ↦ ap (λ (b : Bool). node_as b (after i) m) (below_other c n i apart)
  ]

  -- one site more that is not as it may be
  skipped : (v : World) (n : ℕ) → ((m : Node) → node_as (c n) (after n) m ≡ m) → ((r : ℕ → LinkRecord) → row_as (c n) (after n) r ≡ r)
      → IsLike (resolved_as v after (below c n)) (resolved_as v after (below c (suc n)))
  skipped v n node row =
      choice_like v after after (below c n) (below c (suc n))
      (skipped_node n node)
      (λ i r. elim (cases_eq i n) [
        | inl same ↦
            subst (λ (j : ℕ). row_as (below c (suc n) j) (after j) r ≡ row_as (below c n j) (after j) r) (sym same)
            (ap (λ (b : Bool). row_as b (after n) r) (below_here c n) ∙ row r ∙ sym (ap (λ (b : Bool). row_as b (after n) r) (below_past c n)))
        | inr apart ↦ ap (λ (b : Bool). row_as b (after i) r) (below_other c n i apart)
      ])

  taken_node : (v : World) (n : ℕ) (a : After) → c n ≡ true → after n ≡ Some a
      → (i : ℕ) → (resolved_as v after (below c (suc n))).nodes i ≡ (resolved (resolved_as v after (below c n)) n a).nodes i
  taken_node v n a chosen is i =
      let u : World = resolved_as v after (below c n) in
      elim (cases_eq i n) [
        | inl same ↦
            subst (λ (j : ℕ). node_as (below c (suc n) j) (after j) (v.nodes j) ≡ (resolved u n a).nodes j) (sym same)
            (ap (λ (b : Bool). node_as b (after n) (v.nodes n)) (below_here c n ∙ chosen) ∙ ap (λ (o : Option After). node_as true o (v.nodes n)) is
            ∙ sym (at_place u.nodes n a.node))
        | inr apart ↦ ap (λ (b : Bool). node_as b (after i) (v.nodes i)) (below_other c n i apart) ∙ sym (aside u.nodes n a.node i apart)
      ]

  -- one more that is
  taken : (v : World) (n : ℕ) (a : After) → c n ≡ true → after n ≡ Some a
      → IsLike (resolved (resolved_as v after (below c n)) n a) (resolved_as v after (below c (suc n)))
  taken v n a chosen is =
      let u : World = resolved_as v after (below c n) in
      like_exact (resolved u n a) (resolved_as v after (below c (suc n))) refl
      (taken_node v n a chosen is)
      (λ i. elim (cases_eq i n) [
        | inl same ↦
            subst (λ (j : ℕ). row_as (below c (suc n) j) (after j) (v.links j) ≡ (resolved u n a).links j) (sym same)
            (ap (λ (b : Bool). row_as b (after n) (v.links n)) (below_here c n ∙ chosen) ∙ ap (λ (o : Option After). row_as true o (v.links n)) is
            ∙ sym (at_place u.links n a.row))
        | inr apart ↦ ap (λ (b : Bool). row_as b (after i) (v.links i)) (below_other c n i apart) ∙ sym (aside u.links n a.row i apart)
      ])
      refl refl refl (λ _. refl)

  skips : (n : ℕ) → ((m : Node) → node_as (c n) (after n) m ≡ m) → ((r : ℕ → LinkRecord) → row_as (c n) (after n) r ≡ r)
      → IsLike (step (part n) e).world (past n) → IsLike (step (part (suc n)) e).world (past (suc n))
  skips n node row before =
      like_trans (step (part (suc n)) e).world (step (part n) e).world (past (suc n))
      (like_sym (step (part n) e).world (step (part (suc n)) e).world (step_like (part n) (part (suc n)) e (skipped w n node row)
      (looks_same (part n) (part (suc n)) (λ i. ap (λ (m : Node). m.group) (skipped_node n node i (w.nodes i))) e)))
      (like_trans (step (part n) e).world (past n) (past (suc n)) before (skipped (step w e).world n node row))

  takes : (n : ℕ) (a : After) → c n ≡ true → after n ≡ Some a → IsLike (step (part n) e).world (past n)
      → IsLike (step (part (suc n)) e).world (past (suc n))
  takes n a chosen is before =
      let v : World = resolved (part n) n a in
      let doubt : IsDoubt (part n) n a = doubt_as w after (below c n) n a (below_past c n) (doubts n a is) in
      like_trans (step (part (suc n)) e).world (step v e).world (past (suc n))
      (like_sym (step v e).world (step (part (suc n)) e).world (step_like v (part (suc n)) e (taken w n a chosen is)
      (looks_same v (part (suc n)) (λ i. ap (λ (m : Node). m.group) (taken_node w n a chosen is i)) e)))
      (like_trans (step v e).world (resolved (step (part n) e).world n a) (past (suc n))
      (step_resolved (part n) n a e doubt (calm n a is chosen))
      (like_trans (resolved (step (part n) e).world n a) (resolved (past n) n a) (past (suc n))
      (like_resolved (step (part n) e).world (past n) n a before) (taken (step w e).world n a chosen is)))

  all_parts : (n : ℕ) → IsLike (step (part n) e).world (past n)
  all_parts zero =
      like_trans (step (part zero) e).world (step w e).world (past zero)
      (like_sym (step w e).world (step (part zero) e).world (step_like w (part zero) e (none_like w after (below c zero) (below_none c))
      (looks_same w (part zero) (λ i. ap (λ (b : Bool). (node_as b (after i) (w.nodes i)).group) (below_none c i)) e)))
      (none_like (step w e).world after (below c zero) (below_none c))
  all_parts (suc n) = by_choice (c n) refl (after n) refl (all_parts n)
    where
      by_choice : (b : Bool) → c n ≡ b → (o : Option After) → after n ≡ o → IsLike (step (part n) e).world (past n)
          → IsLike (step (part (suc n)) e).world (past (suc n))
      by_choice true chosen (Some a) is before = takes n a chosen is before
      by_choice b chosen None is before =
          skips n (λ m. ap (λ (o : Option After). node_as (c n) o m) is ∙ node_none (c n) m)
          (λ r. ap (λ (o : Option After). row_as (c n) o r) is ∙ row_none (c n) r) before
      by_choice false chosen o is before =
          skips n (λ m. ap (λ (b : Bool). node_as b (after n) m) chosen) (λ r. ap (λ (b : Bool). row_as b (after n) r) chosen) before

  within : (i : ℕ) (a : After) → after i ≡ Some a → below c w.sites i ≡ c i
  within i a is = let lt : i < w.sites = (doubts i a is).here in let e : ltb i w.sites ≡ true = grind (arith, nat_tests) in
      ap (λ (b : Bool). b && c i) e

  node_same : (i : ℕ) (o : Option After) → after i ≡ o → (m : Node) → node_as (c i) (after i) m ≡ node_as (below c w.sites i) (after i) m
  node_same i (Some a) is m = ap (λ (b : Bool). node_as b (after i) m) (sym (within i a is))
  node_same i None is m =
      ap (λ (o : Option After). node_as (c i) o m) is ∙ node_none (c i) m ∙ sym (node_none (below c w.sites i) m)
      ∙ sym (ap (λ (o : Option After). node_as (below c w.sites i) o m) is)

  -- beyond the last site none is in doubt
  all_same : (v : World) → IsLike (resolved_as v after (below c w.sites)) (resolved_as v after c)
  all_same v = choice_like v after after (below c w.sites) c (λ i m. node_same i (after i) refl m) (λ i r. row_same i (after i) refl r)
    where
      row_same : (i : ℕ) (o : Option After) → after i ≡ o → (r : ℕ → LinkRecord) → row_as (c i) (after i) r ≡ row_as (below c w.sites i) (after i) r
      row_same i (Some a) is r = ap (λ (b : Bool). row_as b (after i) r) (sym (within i a is))
      row_same i None is r =
          ap (λ (o : Option After). row_as (c i) o r) is ∙ row_none (c i) r ∙ sym (row_none (below c w.sites i) r)
          ∙ sym (ap (λ (o : Option After). row_as (below c w.sites i) o r) is)

  -- the event leaves those that are chosen as they may be
  pub step_as : IsLike (step (resolved_as w after c) e).world (resolved_as (step w e).world after c)
  step_as =
      like_trans (step (resolved_as w after c) e).world (step (part w.sites) e).world (resolved_as (step w e).world after c)
      (like_sym (step (part w.sites) e).world (step (resolved_as w after c) e).world (step_like (part w.sites) (resolved_as w after c) e (all_same w)
      (looks_same (part w.sites) (resolved_as w after c) (λ i. ap (λ (m : Node). m.group) (node_same i (after i) refl (w.nodes i))) e)))
      (like_trans (step (part w.sites) e).world (past w.sites) (resolved_as (step w e).world after c) (all_parts w.sites) (all_same (step w e).world))

  pub step_as_good : GoodWorld (resolved_as w after c) → GoodWorld (resolved_as (step w e).world after c)
  step_as_good good = good_like (step (resolved_as w after c) e).world (resolved_as (step w e).world after c) (step_good (resolved_as w after c) e good) step_as
