-- Worlds in which sites are in doubt: what they are by themselves, behind an event that is done, and as a site is resolved.
use Rattle.std.proofs.Common.{◌≡◌, ◌∙◌, inl, inr, ℕ, ◌<◌, List, [], ◌∷◌, ap, sym, subst, refl, Bool, true, false}
use Rattle.std.specs.Prelude.{Option, Some, None, eqb, leb, not, if◌then◌else◌}
use Rattle.std.proofs.lemmas.Bool.{cases_eq}
use Rattle.std.proofs.lemmas.Option.{same_Some}
use Rattle.vx_model.specs.Sites.{is_up}
use Rattle.vx_model.specs.declared.no.No.TheVariants.{Unknown, Down as NotUp}
use Rattle.vx_model.specs.declared.no.Named.TheVariants.{Number as ByNumber}
use Rattle.vx_model.specs.declared.site.SiteState.{SiteState}
use Rattle.vx_model.specs.declared.site.SiteState.TheVariants.{Up}
use Rattle.vx_history.proofs.Updates.{all_updated, at_place, eqb_equal}
use Rattle.vx_history.specs.Doubts.{After, Doubted, resolved, resolved_at, resolved_for, taken_up, crashed_by, happened, Runs}
use Rattle.vx_history.specs.Events.{recover_from}
use Rattle.vx_history.specs.GoodWorld.{GoodWorld}
use Rattle.vx_history.specs.Likes.{IsLike}
use Rattle.vx_history.specs.Refusals.{Outcome, unless, is_running}
use Rattle.vx_history.specs.Step.{outcome_of, step}
use Rattle.vx_history.specs.Steps.{stopped_by}
use Rattle.vx_history.specs.Stops.{IsLikeDoubted}
use Rattle.vx_history.specs.World.{World, Node, Link as LinkState, updated}
use Rattle.vx_history.specs.declared.event.Event.{Event}
use Rattle.vx_history.specs.declared.event.Event.TheVariants.{Site, Raw, Group, Volumes, Write, Read, Apply, Pump, Tick, Deliver, Connect, Cut, Pause, Resume, Wait, Link, Set, Attach, Detach, Crash, Deport, Fall, Recover, Fault}
use Rattle.vx_world.specs.Lines.{NoDoubts, IsDoubt, GoodDoubted, node_as, row_as, resolved_as}
use Rattle.vx_world.specs.Twins.{Twin, GoodTwin, IsElsewhere}
use Rattle.vx_world.proofs.Halted.{like_counted}
use Rattle.vx_world.proofs.Halving.{aside, half}
use Rattle.vx_world.proofs.Liking.{good_like}
use Rattle.vx_world.proofs.Several.{like_exact, like_sym, like_trans, like_as, choice_like, none_like, node_none, row_none, twin_of, doubt_stays, step_as_good}

-- ## A world in doubt

-- none of the sites is as it may be
pub world_good : (d : Doubted) → GoodDoubted d → GoodWorld d.world
world_good d g =
    good_like (resolved_as d.world d.after (λ _. false)) d.world (g.good (λ _. false))
    (like_sym d.world (resolved_as d.world d.after (λ _. false)) (none_like d.world d.after (λ _. false) (λ _. refl)))

pub quiet_good : (d : Doubted) → GoodWorld d.world → NoDoubts d → GoodDoubted d
quiet_good d g none = record {
  doubts = λ s a is. absurd (let e : None ≡ Some a = sym (none s) ∙ is in cc);
  good = λ c. good_like d.world (resolved_as d.world d.after c) g
      (like_exact d.world (resolved_as d.world d.after c) refl
      (λ i. ap (λ (o : Option After). node_as (c i) o (d.world.nodes i)) (none i) ∙ node_none (c i) (d.world.nodes i))
      (λ i. ap (λ (o : Option After). row_as (c i) o (d.world.links i)) (none i) ∙ row_none (c i) (d.world.links i)) refl refl refl (λ _. refl));
}

-- one of them is as it may be
pub twins_good : (d : Doubted) → GoodDoubted d → (s : ℕ) (a : After) → d.after s ≡ Some a → GoodTwin s d.world (resolved d.world s a)
twins_good d g s a is =
    let w : World = d.world in
    let c : ℕ → Bool = λ i. eqb i s in
    record {
      twin = twin_of w s a (g.doubts s a is);
      good = world_good d g;
      good_too = good_like (resolved_as w d.after c) (resolved w s a) (g.good c)
          (like_exact (resolved_as w d.after c) (resolved w s a) refl (λ i. node_is i (eqb i s) refl) (λ i. row_is i (eqb i s) refl) refl refl refl (λ _. refl));
    }
  where
    node_is : (i : ℕ) (b : Bool) → eqb i s ≡ b → (if b then a.node else d.world.nodes i) ≡ node_as b (d.after i) (d.world.nodes i)
    node_is i true e = sym (ap (λ (o : Option After). node_as true o (d.world.nodes i)) (ap d.after (eqb_equal i s e) ∙ is))
    node_is i false e = refl

    row_is : (i : ℕ) (b : Bool) → eqb i s ≡ b → (if b then a.row else d.world.links i) ≡ row_as b (d.after i) (d.world.links i)
    row_is i true e = sym (ap (λ (o : Option After). row_as true o (d.world.links i)) (ap d.after (eqb_equal i s e) ∙ is))
    row_is i false e = refl

-- what is said of a site in doubt rests on its own node
pub doubt_moved : (w v : World) (s : ℕ) (a : After) → v.sites ≡ w.sites → v.nodes s ≡ w.nodes s → IsDoubt w s a → IsDoubt v s a
doubt_moved w v s a sites node is = record {
  here = subst (λ (n : ℕ). s < n) (sym sites) is.here;
  name = is.name ∙ sym (ap (λ (n : Node). n.name) node);
  up = ap (λ (n : Node). n.state) node ∙ is.up;
  up_too = is.up_too;
  halted = ap (λ (n : Node). is_running n.halted) node ∙ is.halted;
  halted_too = is.halted_too;
}

doubt_like : (w v : World) (s : ℕ) (a : After) → IsLike w v → IsDoubt w s a → IsDoubt v s a
doubt_like w v s a like is = record {
  here = subst (λ (n : ℕ). s < n) (sym like.sites) is.here;
  name = is.name ∙ sym (ap (λ (n : Node). n.name) (like.nodes s));
  up = ap (λ (n : Node). n.state) (like.nodes s) ∙ is.up;
  up_too = is.up_too;
  halted = ap (λ (n : Node). is_running n.halted) (like.nodes s) ∙ is.halted;
  halted_too = is.halted_too;
}

pub doubt_of : (w : World) (s : ℕ) (a : After) → Twin s w (resolved w s a) → IsDoubt w s a
doubt_of w s a t = record {
  here = t.here;
  name = ap (λ (n : Node). n.name) (sym (at_place w.nodes s a.node)) ∙ t.name;
  up = t.up;
  up_too = ap (λ (n : Node). n.state) (sym (at_place w.nodes s a.node)) ∙ t.up_too;
  halted = t.halted;
  halted_too = ap (λ (n : Node). is_running n.halted) (sym (at_place w.nodes s a.node)) ∙ t.halted_too;
}

-- notes are no matter
pub like_good : (d new : Doubted) → GoodDoubted d → IsLikeDoubted d new → GoodDoubted new
like_good d new g like = record {
  doubts = λ s a is. doubt_like d.world new.world s a like.worlds (g.doubts s a (sym (like.after s) ∙ is));
  good = λ c. good_like (resolved_as d.world d.after c) (resolved_as new.world new.after c) (g.good c)
      (like_trans (resolved_as d.world d.after c) (resolved_as new.world d.after c) (resolved_as new.world new.after c)
      (like_as d.world new.world d.after c like.worlds)
      (choice_like new.world d.after new.after c c (λ i n. ap (λ (o : Option After). node_as (c i) o n) (like.after i))
      (λ i r. ap (λ (o : Option After). row_as (c i) o r) (like.after i))));
}

-- ## A site that is resolved

-- the others are in doubt as they were
pub others : (after : ℕ → Option After) (s t : ℕ) (a : After) → updated after s None t ≡ Some a → (t ≡ s → ⊥) × (after t ≡ Some a)
others after s t a =
    all_updated (λ k (o : Option After). o ≡ Some a → (k ≡ s → ⊥) × (after k ≡ Some a)) after s None
    (λ e. absurd (let f : None ≡ Some a = e in cc)) (λ k apart e. (apart, e)) t

left_good : (d : Doubted) (s : ℕ) → GoodDoubted d → GoodDoubted (record { world = d.world; after = updated d.after s None; strayed = d.strayed })
left_good d s g = record {
  doubts = λ t a is. g.doubts t a (others d.after s t a is).1;
  good = λ c. good_like (resolved_as d.world d.after (updated c s false)) (resolved_as d.world (updated d.after s None) c) (g.good (updated c s false))
      (choice_like d.world d.after (updated d.after s None) (updated c s false) c (λ i n. node_is c i n (eqb i s)) (λ i r. row_is c i r (eqb i s)));
}
  where
    node_is : (c : ℕ → Bool) (i : ℕ) (n : Node) (b : Bool)
        → node_as (c i) (if b then None else d.after i) n ≡ node_as (if b then false else c i) (d.after i) n
    node_is c i n true = node_none (c i) n
    node_is c i n false = refl

    row_is : (c : ℕ → Bool) (i : ℕ) (r : ℕ → LinkState) (b : Bool)
        → row_as (c i) (if b then None else d.after i) r ≡ row_as (if b then false else c i) (d.after i) r
    row_is c i r true = row_none (c i) r
    row_is c i r false = refl

taken_good : (d : Doubted) (s : ℕ) (a : After) → d.after s ≡ Some a → GoodDoubted d
    → GoodDoubted (record { world = resolved d.world s a; after = updated d.after s None; strayed = d.strayed })
taken_good d s a is g = record {
  doubts = λ t b other. let o = others d.after s t b other in
      doubt_moved d.world (resolved d.world s a) t b refl (aside d.world.nodes s a.node t o.0) (g.doubts t b o.1);
  good = λ c. good_like (resolved_as d.world d.after (updated c s true)) (resolved_as (resolved d.world s a) (updated d.after s None) c)
      (g.good (updated c s true))
      (like_exact (resolved_as d.world d.after (updated c s true)) (resolved_as (resolved d.world s a) (updated d.after s None) c) refl
      (λ i. node_is c i (eqb i s) refl) (λ i. row_is c i (eqb i s) refl) refl refl refl (λ _. refl));
}
  where
    node_is : (c : ℕ → Bool) (i : ℕ) (b : Bool) → eqb i s ≡ b
        → node_as (c i) (if b then None else d.after i) (if b then a.node else d.world.nodes i)
        ≡ node_as (if b then true else c i) (d.after i) (d.world.nodes i)
    node_is c i true e =
        node_none (c i) a.node ∙ sym (ap (λ (o : Option After). node_as true o (d.world.nodes i)) (ap d.after (eqb_equal i s e) ∙ is))
    node_is c i false e = refl

    row_is : (c : ℕ → Bool) (i : ℕ) (b : Bool) → eqb i s ≡ b
        → row_as (c i) (if b then None else d.after i) (if b then a.row else d.world.links i)
        ≡ row_as (if b then true else c i) (d.after i) (d.world.links i)
    row_is c i true e =
        row_none (c i) a.row ∙ sym (ap (λ (o : Option After). row_as true o (d.world.links i)) (ap d.after (eqb_equal i s e) ∙ is))
    row_is c i false e = refl

pub resolve_good : (d : Doubted) (s : ℕ) (taken : Bool) → GoodDoubted d → GoodDoubted (resolved_at d s taken)
resolve_good d s false g = left_good d s g
resolve_good d s true g = by_after (d.after s) refl
  where
    by_after : (o : Option After) → d.after s ≡ o → GoodDoubted (record { world = taken_up d.world s o; after = updated d.after s None; strayed = d.strayed })
    by_after None is = left_good d s g
    by_after (Some a) is = taken_good d s a is g

-- ## An event that is done

calm_good : (d : Doubted) (e : Event) → GoodDoubted d → ((s : ℕ) (a : After) → d.after s ≡ Some a → IsElsewhere s e)
    → GoodDoubted (record { world = (step d.world e).world; after = d.after; strayed = d.strayed })
calm_good d e g calm = record {
  doubts = λ s a is. doubt_stays d.world s a e (g.doubts s a is) (calm s a is);
  good = λ c. step_as_good d.world d.after g.doubts e c (λ s a is _. calm s a is) (g.good c);
}

-- what a test lets through, or refuses
tested : (P : World → Type 0) (b : Bool) (w : World) (o : Outcome) (why : _) → P w → P o.world → P (unless b why w o).world
tested P true w o why here there = here
tested P false w o why here there = there

-- a site that is up does not come up
up_stays : (w : World) (p : ℕ) (fails : Option ℕ) → (w.nodes p).state ≡ Up → (outcome_of w (Recover p fails)).world ≡ w
up_stays w p fails up =
    tested (λ (v : World). v ≡ w) (leb w.sites p) w (recover_from (w.nodes p).state w p fails) (Unknown (ByNumber p)) refl
    (ap (λ (s : SiteState). (recover_from s w p fails).world) up)

recover_good : (d : Doubted) (p : ℕ) (fails : Option ℕ) (a : After) → d.after p ≡ Some a → GoodDoubted d
    → GoodDoubted (record { world = (step d.world (Recover p fails)).world; after = d.after; strayed = d.strayed })
recover_good d p fails a is g =
    let w : World = d.world in
    let h : ℕ → ℕ = (step w (Recover p fails)).world.headers in
    let like : IsLike w (step w (Recover p fails)).world =
    subst (λ (v : World). IsLike w (record v { headers = h })) (sym (up_stays w p fails (g.doubts p a is).up)) (like_counted w h) in
    like_good d (record { world = (step w (Recover p fails)).world; after = d.after; strayed = d.strayed }) g (record { worlds = like; after = λ _. refl })

-- a disk that halts a site again
again_good : (d : Doubted) (p disk : ℕ) (a : After) → d.after p ≡ Some a → GoodDoubted d
    → GoodDoubted (record { world = (step d.world (Fault p disk)).world; after = d.after; strayed = d.strayed })
again_good d p disk a is g = record {
  doubts = λ s b other. doubts s b other;
  good = λ c. by_choice c (c p) refl;
}
  where
    fault_by : (P : World → Type 0) → P d.world → P (stopped_by d.world p disk) → P (outcome_of d.world (Fault p disk)).world
    fault_by P here there =
        tested P (leb d.world.sites p) d.world _ (Unknown (ByNumber p)) here
        (tested P (not (is_up (d.world.nodes p).state)) d.world _ NotUp here there)

    doubts : (s : ℕ) (b : After) → d.after s ≡ Some b → IsDoubt (step d.world (Fault p disk)).world s b
    doubts s b other = doubt_like (outcome_of d.world (Fault p disk)).world (step d.world (Fault p disk)).world s b
        (like_counted (outcome_of d.world (Fault p disk)).world (step d.world (Fault p disk)).world.headers)
        (fault_by (λ (v : World). IsDoubt v s b) (g.doubts s b other) (elim (cases_eq s p) [
          | inl same ↦
              subst (λ (i : ℕ). IsDoubt (stopped_by d.world p disk) i b) (sym same)
              (halts_again (subst (λ (i : ℕ). IsDoubt d.world i b) same (g.doubts s b other)))
          | inr apart ↦ doubt_moved d.world (stopped_by d.world p disk) s b refl (aside d.world.nodes p (half (d.world.nodes p) disk) s apart) (g.doubts s b other)
        ]))
      where
        halts_again : IsDoubt d.world p b → IsDoubt (stopped_by d.world p disk) p b
        halts_again i =
            let here : (stopped_by d.world p disk).nodes p ≡ half (d.world.nodes p) disk = at_place d.world.nodes p (half (d.world.nodes p) disk) in
            record {
              here = i.here;
              name = i.name ∙ sym (ap (λ (n : Node). n.name) here);
              up = ap (λ (n : Node). n.state) here ∙ i.up;
              up_too = i.up_too;
              halted = ap (λ (n : Node). is_running n.halted) here;
              halted_too = i.halted_too;
            }

    by_choice : (c : ℕ → Bool) (b : Bool) → c p ≡ b → GoodWorld (resolved_as (step d.world (Fault p disk)).world d.after c)
    by_choice c false none =
        step_as_good d.world d.after g.doubts (Fault p disk) c
        (λ s b other chosen here. let f : true ≡ false = sym chosen ∙ ap c (sym here) ∙ none in absurd (cc)) (g.good c)
    by_choice c true chosen =
        let v : World = (outcome_of d.world (Fault p disk)).world in
        good_like (resolved_as d.world d.after c) (resolved_as (step d.world (Fault p disk)).world d.after c) (g.good c)
        (like_trans (resolved_as d.world d.after c) (resolved_as v d.after c) (resolved_as (step d.world (Fault p disk)).world d.after c)
        (fault_by (λ (x : World). IsLike (resolved_as d.world d.after c) (resolved_as x d.after c))
        (like_exact (resolved_as d.world d.after c) (resolved_as d.world d.after c) refl (λ _. refl) (λ _. refl) refl refl refl (λ _. refl))
        (like_exact (resolved_as d.world d.after c) (resolved_as (stopped_by d.world p disk) d.after c) refl
        (λ i. elim (cases_eq i p) [
          | inl same ↦
              subst (λ (j : ℕ). node_as (c j) (d.after j) ((stopped_by d.world p disk).nodes j) ≡ node_as (c j) (d.after j) (d.world.nodes j)) (sym same)
              (covered ((stopped_by d.world p disk).nodes p) ∙ sym (covered (d.world.nodes p)))
          | inr apart ↦ ap (λ (n : Node). node_as (c i) (d.after i) n) (aside d.world.nodes p (half (d.world.nodes p) disk) i apart)
        ])
        (λ _. refl) refl refl refl (λ _. refl)))
        (like_as v (step d.world (Fault p disk)).world d.after c (like_counted v (step d.world (Fault p disk)).world.headers)))
      where
        covered : (n : Node) → node_as (c p) (d.after p) n ≡ a.node
        covered n = ap (λ (b : Bool). node_as b (d.after p) n) chosen ∙ ap (λ (o : Option After). node_as true o n) is

pub step_good_as : (d : Doubted) (e : Event) → GoodDoubted d → ((s : ℕ) (a : After) → d.after s ≡ Some a → crashed_by e ≡ Some s → ⊥)
    → GoodDoubted (record { world = (step d.world e).world; after = d.after; strayed = d.strayed })
step_good_as d (Site name disks blocks) g calm = calm_good d (Site name disks blocks) g (λ _ _ _. tt)
step_good_as d (Raw p) g calm = calm_good d (Raw p) g (λ _ _ _. tt)
step_good_as d (Group p) g calm = calm_good d (Group p) g (λ _ _ _. tt)
step_good_as d (Volumes p log xs) g calm = calm_good d (Volumes p log xs) g (λ _ _ _. tt)
step_good_as d (Write p volume start bytes fails) g calm = calm_good d (Write p volume start bytes fails) g (λ _ _ _. tt)
step_good_as d (Read p volume start count) g calm = calm_good d (Read p volume start count) g (λ _ _ _. tt)
step_good_as d (Apply p count reached) g calm = calm_good d (Apply p count reached) g (λ _ _ _. tt)
step_good_as d (Pump p q) g calm = calm_good d (Pump p q) g (λ _ _ _. tt)
step_good_as d (Tick p q) g calm = calm_good d (Tick p q) g (λ _ _ _. tt)
step_good_as d (Deliver number) g calm = calm_good d (Deliver number) g (λ _ _ _. tt)
step_good_as d (Connect p q) g calm = calm_good d (Connect p q) g (λ _ _ _. tt)
step_good_as d (Cut p q) g calm = calm_good d (Cut p q) g (λ _ _ _. tt)
step_good_as d (Pause p q) g calm = calm_good d (Pause p q) g (λ _ _ _. tt)
step_good_as d (Resume p q) g calm = calm_good d (Resume p q) g (λ _ _ _. tt)
step_good_as d (Wait p number) g calm = calm_good d (Wait p number) g (λ _ _ _. tt)
step_good_as d (Link p q sync prot part) g calm = calm_good d (Link p q sync prot part) g (λ _ _ _. tt)
step_good_as d (Set p q sync prot) g calm = calm_good d (Set p q sync prot) g (λ _ _ _. tt)
step_good_as d (Attach p q) g calm = calm_good d (Attach p q) g (λ _ _ _. tt)
step_good_as d (Detach p q) g calm = calm_good d (Detach p q) g (λ _ _ _. tt)
step_good_as d (Crash p kept) g calm = calm_good d (Crash p kept) g (λ s a is here. calm s a is (ap (λ (i : ℕ). Some i) here))
step_good_as d (Deport p) g calm = calm_good d (Deport p) g (λ _ _ _. tt)
step_good_as d (Fall p) g calm = calm_good d (Fall p) g (λ _ _ _. tt)
step_good_as d (Recover p fails) g calm = by_doubt (d.after p) refl
  where
    by_doubt : (o : Option After) → d.after p ≡ o → GoodDoubted (record { world = (step d.world (Recover p fails)).world; after = d.after; strayed = d.strayed })
    by_doubt (Some a) is = recover_good d p fails a is g
    by_doubt None none = calm_good d (Recover p fails) g
        (λ s a is here. let f : None ≡ Some a = sym none ∙ ap d.after here ∙ is in absurd (cc))
step_good_as d (Fault p disk) g calm = by_doubt (d.after p) refl
  where
    by_doubt : (o : Option After) → d.after p ≡ o → GoodDoubted (record { world = (step d.world (Fault p disk)).world; after = d.after; strayed = d.strayed })
    by_doubt (Some a) is = again_good d p disk a is g
    by_doubt None none = calm_good d (Fault p disk) g
        (λ s a is here. let f : None ≡ Some a = sym none ∙ ap d.after here ∙ is in absurd (cc))

pub happened_good : (d : Doubted) (e : Event) (taken : Bool) → GoodDoubted d → GoodDoubted (happened d e taken)
happened_good d e taken g = by_crash (crashed_by e) refl
  where
    by_crash : (o : Option ℕ) → crashed_by e ≡ o
        → (let r = resolved_for o d taken in GoodDoubted (record r { world = (step r.world e).world }))
    by_crash None none = step_good_as d e g (λ s a is here. let f : None ≡ Some s = sym none ∙ here in absurd (cc))
    by_crash (Some t) crashes =
        step_good_as (resolved_at d t taken) e (resolve_good d t taken g)
        (λ s a is here. (others d.after t s a is).0 (same_Some s t (sym here ∙ crashes)))

pub runs_good : (es : List Event) (d new : Doubted) → GoodDoubted d → Runs d es new → GoodDoubted new
runs_good [] d new g is = subst GoodDoubted (sym is) g
runs_good (e ∷ es) d new g (taken, rest) = runs_good es (happened d e taken) new (happened_good d e taken g) rest
