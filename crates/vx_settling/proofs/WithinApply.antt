-- What a line that applies, within one that settles a link, comes to in a world in which fuses were noted.
use Rattle.std.proofs.Common.{◌≡◌, ◌∙◌, ◌⊎◌, inl, inr, ◌+◌, ◌<◌, ◌≤◌, ℕ, List, [], ◌∷◌, ◌++◌, Bool, true, false, ap, sym, subst, refl}
use Rattle.std.proofs.Math.Path.{fun_ext}
use Rattle.std.specs.Prelude.{Option, Some, None, eqb, if◌then◌else◌}
use Rattle.vx_model.specs.Sites.{is_origin}
use Rattle.vx_model.specs.declared.limits.TheConstants.{MOST_NUMBER}
use Rattle.vx_model.specs.declared.no.Counted.TheVariants.{Number}
use Rattle.vx_model.specs.declared.no.No.TheVariants.{Device, Limit, Down as IsOff}
use Rattle.vx_model.specs.declared.site.SiteState.TheVariants.{Up}
use Rattle.vx_history.proofs.Updates.{at_place}
use Rattle.vx_history.specs.Doubts.{After, Doubted, crashed_as, halved, happened}
use Rattle.vx_history.specs.Events.{apply_at, applied_by, crash_at, kept_of, link_left, reached_at}
use Rattle.vx_history.specs.Groups.{GroupNode}
use Rattle.vx_history.specs.Gatherings.{emptied}
use Rattle.vx_history.specs.Headers.{is_refused}
use Rattle.vx_history.specs.Receiving.{received_step}
use Rattle.vx_history.specs.Refusals.{Outcome, at_site, at_work}
use Rattle.vx_history.specs.Sends.{with_links}
use Rattle.vx_history.specs.Step.{headers_counted, outcome_of, step}
use Rattle.vx_history.specs.Steps.{burned, crash_left, crashed, kept_by, stopped_by, worked_on}
use Rattle.vx_history.specs.World.{Fuse, NoFuse, Node, World, updated, with_history, with_node}
use Rattle.vx_history.specs.declared.event.Event.{Event}
use Rattle.vx_history.specs.declared.event.Event.TheVariants.{Apply as ApplyAt, Crash as CrashAt, Fault}
use Rattle.vx_history.specs.LinkForms.{plain_receiver}
use Rattle.vx_history.specs.declared.receiver.REvent.TheVariants.{Applied}
use Rattle.vx_history.specs.declared.receiver.RState.{RState}
use Rattle.vx_history.specs.declared.receiver.RAction.{RAction}
use Rattle.vx_history.specs.declared.receiver.RAction.TheVariants as receiving
use Rattle.vx_script.specs.declared.line.ScriptLine.TheVariants.{Apply}
use Rattle.vx_events.specs.Doubts.{IsAs, run_as, with_disks}
use Rattle.vx_events.specs.Ends.{AllDone, BegunOf, DiskFails, Ends, LeavesOf, MayKeep, MayName, NoneLeft, WritesAHeader, FindsLinks, FindsNone, FuseRunsOut, HeaderFails, IsLeft, NoNumber, ShowsReceived}
use Rattle.vx_events.specs.Facts.{site_number}
use Rattle.vx_events.specs.Fails.{Fails, IsSiteDisk}
use Rattle.vx_events.specs.LinksFit.{LinksFit}
use Rattle.vx_events.specs.Lists.{Choice, events_of}
use Rattle.vx_events.specs.Sayings.{Replies}
use Rattle.vx_events.specs.declared.said.Said.{Said}
use Rattle.vx_events.specs.declared.said.Said.TheVariants.{Refused}
use Rattle.vx_world.proofs.Crashed.{crash_is, not_past}
use Rattle.vx_world.proofs.Lining.{fault_is}
use Rattle.vx_settling.specs.Between.{MayMove}
use Rattle.vx_settling.specs.Burnt.{EndTo, GoesTo, MayBurn, NotedAs, OnTo, burnt_world, noted_as}
use Rattle.vx_settling.specs.Works.{SettleStops}
use Rattle.vx_settling.proofs.Burning.{burns_crashed, crashed_sites, burns_kept, crash_burnt, crash_nodes, burns_noted, burns_same, fused_pure, nodes_at, noted_at, own_place, step_burnt, worked_burnt}
use Rattle.vx_settling.proofs.Running.{event_stays}
use Rattle.vx_settling.proofs.WithinOne.{head_same, number_burnt, reply_on, single}
use Rattle.vx_settling.proofs.Working.{cuts_apply, lacks_apply, stops_apply, works_apply}

-- ---- the events

-- what a site that receives applies is the same, whatever it is said to have reached
reached_any : (w : World) (s count reached : ℕ) → is_origin (w.nodes s).role ≡ false → step w (ApplyAt s count reached) ≡ step w (ApplyAt s count 0)
reached_any w s count reached receives =
    ap (λ (b : Bool). let o : Outcome = at_site w s (at_work w s (if b then reached_at w s count reached else apply_at w s count)) in headers_counted w (ApplyAt s count reached) o) receives
    ∙ sym (ap (λ (b : Bool). let o : Outcome = at_site w s (at_work w s (if b then reached_at w s count 0 else apply_at w s count)) in headers_counted w (ApplyAt s count 0) o) receives)

applied_says : (w : World) (s : ℕ) (r : RState) (x : RAction) → is_refused (applied_by w s r x).said ≡ false
applied_says w s r receiving.Nothing = refl
applied_says w s r receiving.Ignored = refl
applied_says w s r (receiving.IgnoredAck number) = refl
applied_says w s r (receiving.Take number) = refl
applied_says w s r (receiving.DataAck number) = refl

apply_says : (w : World) (s count reached : ℕ) → s < w.sites → (w.nodes s).state ≡ Up → (w.nodes s).halted ≡ None → is_origin (w.nodes s).role ≡ false → is_refused (step w (ApplyAt s count reached)).said ≡ false
apply_says w s count reached here up runs receives =
    rw (not_past w.sites s here) (rw up (rw runs (rw receives (applied_says w s (received_step (plain_receiver (w.nodes s)) (Applied count)).state (received_step (plain_receiver (w.nodes s)) (Applied count)).action))))

-- ---- disks that are made to fail stay

-- the same disks are made to fail, and they are the same group
abbrev HasDisksOf : (n m : Node) → Type 0
HasDisksOf n m = (m.failing ≡ n.failing) × (m.group ≡ n.group)

same_disks : (taken : Bool) (w v : World) (s : ℕ) → HasDisksOf (w.nodes s) (v.nodes s) → with_disks taken s w v ≡ v
same_disks false w v s same = refl
same_disks true w v s (failing, group) =
    ap (λ (ns : ℕ → Node). let x : World = record v { nodes = ns } in x)
    (ap (λ (f : ℕ → Bool). updated v.nodes s (record (v.nodes s) { failing = f; group = (w.nodes s).group })) (sym failing)
    ∙ ap (λ (g : Option GroupNode). updated v.nodes s (record (v.nodes s) { group = g })) (sym group)
    ∙ own_place v.nodes s)

twice_any : {A : Type 0} (f : ℕ → A) (s : ℕ) (x y : A) → updated (updated f s x) s y ≡ updated f s y
twice_any f s x y = fun_ext (λ i. by i (eqb i s))
  where
    by : (i : ℕ) (c : Bool) → (if c then y else (if c then x else f i)) ≡ (if c then y else f i)
    by i true = refl
    by i false = refl

module _ (told : Type 0) (a b : ℕ) (d : Doubted) (may : MayMove a b d.world) (receives : is_origin (d.world.nodes b).role ≡ false) (fuses : ℕ → Fuse) (burns : MayBurn a b fuses d.world) (fit : LinksFit (noted_as fuses d)) where
  below : b < d.world.sites
  below = may.can.second

  up : (d.world.nodes b).state ≡ Up
  up = may.can.there

  runs : (d.world.nodes b).halted ≡ None
  runs = may.can.runs_there

  -- ---- the worlds

  -- it is applied
  applied_noted : (count reached : ℕ) (taken : Bool) → happened (noted_as fuses d) (ApplyAt b count reached) taken ≡ noted_as fuses (happened d (ApplyAt b count 0) false)
  applied_noted count reached taken =
      ap (λ (x : World). let q : Doubted = record d { world = x } in q)
      (step_burnt fuses d fit (ApplyAt b count reached) refl ∙ ap (λ (o : Outcome). burnt_world fuses o.world) (reached_any d.world b count reached receives))

  -- a disk failed
  fault_noted : (disk : ℕ) (taken : Bool) → happened (noted_as fuses d) (Fault b disk) taken ≡ noted_as (noted_at fuses b) (happened d (Fault b disk) false)
  fault_noted disk taken =
      let n : Node = d.world.nodes b in
      let here : (outcome_of (burnt_world fuses d.world) (Fault b disk)).world ≡ stopped_by (burnt_world fuses d.world) b disk = fault_is (burnt_world fuses d.world) b disk below up in
      let pure : (outcome_of d.world (Fault b disk)).world ≡ stopped_by d.world b disk = fault_is d.world b disk below up in
      ap (λ (x : World). let q : Doubted = record d { world = record x { headers = λ i. d.world.headers i + 0 } } in q) here
      ∙ ap (λ (ns : ℕ → Node). let q : Doubted = record d { world = record d.world { nodes = ns; headers = λ i. d.world.headers i + 0 } } in q)
      (nodes_at fuses d.world.nodes b (record n { halted = Some disk; fuse = burned n.fuse }) (record n { halted = Some disk; fuse = burned (fuses b) }) (burned (fuses b)) refl)
      ∙ ap (λ (x : World). let q : Doubted = record d { world = burnt_world (noted_at fuses b) (record x { headers = λ i. d.world.headers i + 0 }) } in q) (sym pure)

  burns_fault : (disk : ℕ) → MayBurn a b (noted_at fuses b) (happened d (Fault b disk) false).world
  burns_fault disk =
      let n : Node = record (d.world.nodes b) { halted = Some disk; fuse = burned (d.world.nodes b).fuse } in
      subst (λ (x : World). MayBurn a b (noted_at fuses b) (record x { headers = λ i. d.world.headers i + 0 })) (sym (fault_is d.world b disk below up))
      (record { each = λ i. at n refl i (eqb i b) refl })
    where
      at : (n : Node) → n.fuse ≡ burned (d.world.nodes b).fuse → (i : ℕ) (c : Bool) → eqb i b ≡ c
          → ((if c then burned (fuses b) else fuses i) ≡ (if c then n else d.world.nodes i).fuse) ⊎ (((i ≡ a) ⊎ (i ≡ b)) × ((if c then burned (fuses b) else fuses i) ≡ burned (if c then n else d.world.nodes i).fuse))
      at n fuse i true is = inl (burns_same a b fuses d.world burns b ∙ sym fuse)
      at n fuse i false is = burns.each i

  fault_disks : (disk : ℕ) → HasDisksOf (d.world.nodes b) ((happened d (Fault b disk) false).world.nodes b)
  fault_disks disk =
      let n : Node = record (d.world.nodes b) { halted = Some disk; fuse = burned (d.world.nodes b).fuse } in
      let node : (happened d (Fault b disk) false).world.nodes b ≡ n = ap (λ (x : World). x.nodes b) (fault_is d.world b disk below up) ∙ at_place d.world.nodes b n in
      (ap (λ (m : Node). m.failing) node, ap (λ (m : Node). m.group) node)

  -- a halted site has the disks that it had
  fault_names : (disk : ℕ) → IsSiteDisk (d.world.nodes b) disk → IsSiteDisk ((happened d (Fault b disk) false).world.nodes b) disk
  fault_names disk names =
      let n : Node = record (d.world.nodes b) { halted = Some disk; fuse = burned (d.world.nodes b).fuse } in
      let node : (happened d (Fault b disk) false).world.nodes b ≡ n = ap (λ (x : World). x.nodes b) (fault_is d.world b disk below up) ∙ at_place d.world.nodes b n in
      subst (λ (m : Node). IsSiteDisk m disk) (sym node) names

  -- ---- its notes

  left_noted : (m : Doubted) (f : ℕ → Fuse) (last new : Doubted) (taken : Bool) → MayBurn a b f m.world → last ≡ noted_as f m → HasDisksOf (d.world.nodes b) (m.world.nodes b)
      → IsAs last (worked_on (with_disks taken b (burnt_world fuses d.world) last.world) b) new → NotedAs a b m new
  left_noted m f last new taken some is kept left =
      let disks : with_disks taken b (burnt_world fuses d.world) (burnt_world f m.world) ≡ burnt_world f m.world = same_disks taken (burnt_world fuses d.world) (burnt_world f m.world) b kept in
      record {
        fuses = noted_at f b;
        burns = burns_noted a b f m.world b (inr refl) some;
        is =
            ap (λ (x : World). let q : Doubted = record new { world = x } in q) left.world
            ∙ ap (λ (g : ℕ → Option After). let q : Doubted = record { world = worked_on (with_disks taken b (burnt_world fuses d.world) last.world) b; after = g; strayed = new.strayed } in q) (fun_ext (λ s. left.after s))
            ∙ ap (λ (c : Bool). let q : Doubted = record { world = worked_on (with_disks taken b (burnt_world fuses d.world) last.world) b; after = last.after; strayed = c } in q) left.strayed
            ∙ ap (λ (x : Doubted). let q : Doubted = record x { world = worked_on (with_disks taken b (burnt_world fuses d.world) x.world) b } in q) is
            ∙ ap (λ (x : World). let q : Doubted = record m { world = worked_on x b } in q) disks
            ∙ ap (λ (x : World). let q : Doubted = record m { world = x } in q) (worked_burnt f m.world b);
      }

  -- ---- a crash of a site that a fuse stopped is a crash of the site

  crash_stopped : (h : ℕ → ℕ) (kept : ℕ) → (let w : World = record (stopped_by d.world b 0) { headers = h } in crash_at w b (kept_of (w.nodes b) kept)) ≡ record (crash_at d.world b (kept_of (d.world.nodes b) kept)) { headers = h }
  crash_stopped h kept =
      let n : Node = d.world.nodes b in
      let m : Node = record n { halted = Some 0; fuse = burned n.fuse } in
      let w : World = record (stopped_by d.world b 0) { headers = h } in
      ap (λ (q : Node).
      emptied (with_links (if is_origin q.role then with_history w b (crashed q (kept_of q kept)) (kept_by (w.lines q.line) q (kept_of q kept)) else with_node w b (crashed q (kept_of q kept))) b (λ to. link_left q (kept_of q kept) (d.world.links b to))) b)
      (at_place d.world.nodes b m)
      ∙ ap (λ (x : World). emptied (with_links x b (λ to. link_left n (kept_of n kept) (d.world.links b to))) b) (by (is_origin n.role))
    where
      by : (c : Bool)
          → (let n : Node = d.world.nodes b in
          let m : Node = record n { halted = Some 0; fuse = burned n.fuse } in
          let w : World = record (stopped_by d.world b 0) { headers = h } in
          let k : ℕ = kept_of n kept in
          (if c then with_history w b (crashed m k) (kept_by (w.lines m.line) m k) else with_node w b (crashed m k)) ≡ record (if c then crash_left d.world b k else with_node d.world b (crashed n k)) { headers = h })
      by true = ap (λ (ns : ℕ → Node). let x : World = record (crash_left d.world b (kept_of (d.world.nodes b) kept)) { nodes = ns; headers = h } in x)
          (twice_any d.world.nodes b (record (d.world.nodes b) { halted = Some 0; fuse = burned (d.world.nodes b).fuse }) (crashed (d.world.nodes b) (kept_of (d.world.nodes b) kept)))
      by false = ap (λ (ns : ℕ → Node). let x : World = record d.world { nodes = ns; headers = h } in x)
          (twice_any d.world.nodes b (record (d.world.nodes b) { halted = Some 0; fuse = burned (d.world.nodes b).fuse }) (crashed (d.world.nodes b) (kept_of (d.world.nodes b) kept)))

  cut_is : (kept : ℕ) → crashed_as (halved d (Fault b 0) b 0) b kept false ≡ record { world = record (crash_at d.world b (kept_of (d.world.nodes b) kept)) { headers = λ i. d.world.headers i + 0 }; after = updated d.after b None; strayed = d.strayed }
  cut_is kept =
      ap (λ (x : World). let q : Doubted = record { world = x; after = (crashed_as (halved d (Fault b 0) b 0) b kept false).after; strayed = d.strayed } in q) (crash_stopped (λ i. d.world.headers i + 0) kept)
      ∙ ap (λ (f : ℕ → Option After). let q : Doubted = record { world = record (crash_at d.world b (kept_of (d.world.nodes b) kept)) { headers = λ i. d.world.headers i + 0 }; after = f; strayed = d.strayed } in q)
      (twice_any d.after b (Some (record { node = (stopped_by (step d.world (Fault b 0)).world b 0).nodes b; row = (step d.world (Fault b 0)).world.links b })) None)

  cut_noted : (kept : ℕ) → happened (noted_as fuses d) (CrashAt b kept) false ≡ noted_as (updated fuses b NoFuse) (crashed_as (halved d (Fault b 0) b 0) b kept false)
  cut_noted kept =
      ap (λ (x : World). let q : Doubted = record { world = record x { headers = λ i. d.world.headers i + 0 }; after = updated d.after b None; strayed = d.strayed } in q)
      (crash_is (burnt_world fuses d.world) b kept below up ∙ crash_burnt fuses d.world b (kept_of (d.world.nodes b) kept))
      ∙ sym (ap (λ (q : Doubted). noted_as (updated fuses b NoFuse) q) (cut_is kept))

  burns_cut : (kept : ℕ) → MayBurn a b (updated fuses b NoFuse) (crashed_as (halved d (Fault b 0) b 0) b kept false).world
  burns_cut kept =
      let burnt = burns_crashed a b fuses d b kept false burns in
      subst (λ (q : Doubted). MayBurn a b (updated fuses b NoFuse) q.world) (sym (cut_is kept)) (record { each = burnt.each })

  cut_disks : (kept : ℕ) → HasDisksOf (d.world.nodes b) ((crashed_as (halved d (Fault b 0) b 0) b kept false).world.nodes b)
  cut_disks kept =
      let k : ℕ = kept_of (d.world.nodes b) kept in
      let node : (crashed_as (halved d (Fault b 0) b 0) b kept false).world.nodes b ≡ crashed (d.world.nodes b) k =
      ap (λ (q : Doubted). q.world.nodes b) (cut_is kept) ∙ ap (λ (ns : ℕ → Node). ns b) (crash_nodes d.world b k) ∙ at_place d.world.nodes b (crashed (d.world.nodes b) k) in
      (ap (λ (n : Node). n.failing) node, ap (λ (n : Node). n.group) node)

  -- ---- the line

  pub apply_goes : (name : List ℕ) (count : ℕ) (fails : Fails) (said : Said) (new : Doubted) → site_number d.world name ≡ b → Ends told (noted_as fuses d) (Apply name count) (site_number (burnt_world fuses d.world) name) fails said new
      → GoesTo told a b d (ApplyAt b count 0 ∷ []) fails new said
  apply_goes name count fails said new to ends = by (subst (λ (s : ℕ). Ends told (noted_as fuses d) (Apply name count) s fails said new) s_is ends)
    where
      s_is : site_number (burnt_world fuses d.world) name ≡ b
      s_is = number_burnt fuses d.world name ∙ to

      evs : (c : Choice) → events_of (burnt_world fuses d.world) (Apply name count) c ≡ ApplyAt b count c.reached ∷ []
      evs c = ap (λ (s : ℕ). ApplyAt s count c.reached ∷ []) s_is

      by : Ends told (noted_as fuses d) (Apply name count) b fails said new → GoesTo told a b d (ApplyAt b count 0 ∷ []) fails new said
      by (AllDone c taken borne replies left) =
          let reply = subst (λ (es : List Event). Replies told (Apply name count) b taken (noted_as fuses d) es said) (evs c) replies in
          let left_so = subst (λ (es : List Event). IsLeft b (Apply name count) taken (noted_as fuses d) (run_as taken (noted_as fuses d) es) new) (evs c) left in
          let stays = event_stays d.world (ApplyAt b count 0) refl in
          reply_on (OnTo told a b d (ApplyAt b count 0 ∷ []) fails new) (λ why. EndTo told a b d (ApplyAt b count 0 ∷ []) fails why new) (step (burnt_world fuses d.world) (ApplyAt b count c.reached)).world b
          (step (burnt_world fuses d.world) (ApplyAt b count c.reached)).said said (apply_says (burnt_world fuses d.world) b count c.reached below up runs receives) reply
          (record {
            next = happened d (ApplyAt b count 0) false;
            borne = borne;
            works = works_apply told a b d may count 0;
            noted = left_noted (happened d (ApplyAt b count 0) false) fuses (happened (noted_as fuses d) (ApplyAt b count c.reached) taken) new taken
                (burns_kept a b fuses d.world (step d.world (ApplyAt b count 0)).world (λ i. ap (λ (n : Node). n.fuse) (stays.nodes i)) burns) (applied_noted count c.reached taken) (ap (λ (n : Node). n.failing) (stays.nodes b), ap (λ (n : Node). n.group) (stays.nodes b)) left_so;
          })
      by (DiskFails c taken before e rest left disk split leaves names one says is_left) =
          let o = single (ApplyAt b count c.reached) e before rest (sym (evs c) ∙ split) in
          let left_is : left ≡ Fault b disk ∷ [] = subst (λ (x : Event). LeavesOf x disk left) o.1 leaves in
          let named : IsSiteDisk (d.world.nodes b) disk = subst (λ (x : Event). MayName ((noted_as fuses d).world.nodes b) x disk) o.1 names in
          let left_so = subst (λ (es : List Event). IsLeft b (Apply name count) taken (noted_as fuses d) (run_as taken (noted_as fuses d) es) new) (ap (λ (xs : List Event). xs ++ left) o.0 ∙ left_is) is_left in
          subst (λ (x : Said). GoesTo told a b d (ApplyAt b count 0 ∷ []) fails new x) (sym says)
          (record {
            last = happened d (Fault b disk) false;
            sites = ap (λ (x : World). x.sites) (fault_is d.world b disk below up);
            stops = subst (λ (f : Fails). SettleStops told a b d (ApplyAt b count 0 ∷ []) f (Refused (Device disk)) (happened d (Fault b disk) false)) (sym one) (stops_apply told a b d may count 0 disk (up, runs) (fault_names disk named));
            noted = left_noted (happened d (Fault b disk) false) (noted_at fuses b) (happened (noted_as fuses d) (Fault b disk) taken) new taken (burns_fault disk) (fault_noted disk taken)
                (fault_disks disk) left_so;
          })
      by (HeaderFails c e f disk split leaves writes one says is_left) =
          let o = head_same (ApplyAt b count c.reached) e [] [] (sym (evs c) ∙ split) in
          let left_is : f ∷ [] ≡ Fault b disk ∷ [] = subst (λ (x : Event). LeavesOf x disk (f ∷ [])) (sym o.0) leaves in
          absurd (subst (λ (x : Event). WritesAHeader (burnt_world fuses d.world) x b) (head_same f (Fault b disk) [] [] left_is).0 writes)
      by (FuseRunsOut c e begun split begins keeps lit none says is_left) =
          let o = head_same (ApplyAt b count c.reached) e [] [] (sym (evs c) ∙ split) in
          let begun_is : begun ≡ [] = subst (λ (x : Event). BegunOf (burnt_world fuses d.world) x begun) (sym o.0) begins in
          let few : c.kept ≤ (d.world.nodes b).safe + count = subst (λ (x : Event). MayKeep (burnt_world fuses d.world) x c.kept) (sym o.0) keeps in
          let left_so = subst (λ (es : List Event). IsLeft b (Apply name count) false (noted_as fuses d) (run_as false (noted_as fuses d) (es ++ CrashAt b c.kept ∷ [])) new) begun_is is_left in
          subst (λ (x : Said). GoesTo told a b d (ApplyAt b count 0 ∷ []) fails new x) (sym says)
          (record {
            last = crashed_as (halved d (Fault b 0) b 0) b c.kept false;
            sites = crashed_sites (halved d (Fault b 0) b 0) b c.kept false;
            stops = subst (λ (f : Fails). SettleStops told a b d (ApplyAt b count 0 ∷ []) f (Refused IsOff) (crashed_as (halved d (Fault b 0) b 0) b c.kept false)) (sym none)
                (cuts_apply told a b d may count 0 c.kept false few (up, runs) (fused_pure a b fuses d.world burns b lit));
            noted = left_noted (crashed_as (halved d (Fault b 0) b 0) b c.kept false) (updated fuses b NoFuse) (happened (noted_as fuses d) (CrashAt b c.kept) false) new false (burns_cut c.kept) (cut_noted c.kept) (cut_disks c.kept) left_so;
          })
      by (NoNumber c taken before e rest split lack more none says is_left) =
          let o = single (ApplyAt b count c.reached) e before rest (sym (evs c) ∙ split) in
          let left_so = subst (λ (es : List Event). IsLeft b (Apply name count) taken (noted_as fuses d) (run_as taken (noted_as fuses d) es) new) o.0 is_left in
          let lacks = subst (λ (x : Event). told → NoneLeft x (burnt_world fuses d.world) b) o.1 (subst (λ (es : List Event). told → NoneLeft e (run_as taken (noted_as fuses d) es).world b) o.0 more) in
          subst (λ (x : Said). GoesTo told a b d (ApplyAt b count 0 ∷ []) fails new x) (sym says)
          (record {
            last = d;
            sites = refl;
            stops = subst (λ (f : Fails). SettleStops told a b d (ApplyAt b count 0 ∷ []) f (Refused (Limit Number MOST_NUMBER)) d) (sym none) (lacks_apply told a b d may count 0 (λ tells. (lacks tells).1));
            noted = left_noted d fuses (noted_as fuses d) new taken burns refl (refl, refl) left_so;
          })
      by (ShowsReceived site volume start blocks is role gives none is_left) = absurd (cc)
      by (FindsLinks untold c taken site mid n k row is recovering comes none says is_left) = absurd (cc)
      by (FindsNone untold c taken site mid n why is recovering other none says is_left) = absurd (cc)
