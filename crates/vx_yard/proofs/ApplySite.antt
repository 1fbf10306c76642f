-- A line that applies the log of a site that may keep links.
use Rattle.std.proofs.Common.{◌≡◌, ◌∙◌, ◌<◌, ◌≤◌, ◌+◌, ℕ, true, false, List, [], ◌∷◌, length, ap, sym, subst, refl, arith}
use Rattle.std.specs.Prelude.{Bool, not, is_some, Option, Some, None, Ok, Err, slice_get, slice_set}
use Rattle.vx_history.specs.Doubts.{After, Doubted, happened}
use Rattle.vx_history.specs.Events.{linked_sites}
use Rattle.vx_history.specs.Refusals.{Outcome}
use Rattle.vx_history.specs.Step.{step}
use Rattle.vx_history.specs.Steps.{burned, crashed, worked, worked_on}
use Rattle.vx_history.specs.Stops.{IsFused}
use Rattle.vx_history.specs.World.{Fuse, Gathering, Link, Node, Packet}
use Rattle.vx_history.specs.declared.event.Event.{Event}
use Rattle.vx_history.specs.declared.event.Event.TheVariants.{Apply as ApplyAt, Fault}
use Rattle.vx_history.specs.declared.event.Said.{Said as EventSaid}
use Rattle.vx_history.specs.declared.event.Said.TheVariants.{DoneAt as IsDoneAt}
use Rattle.vx_model.specs.Sites.{is_origin}
use Rattle.vx_model.specs.declared.no.No.{No}
use Rattle.vx_model.specs.declared.no.No.TheVariants.{Device, Down as Off, Role as WrongRole}
use Rattle.vx_model.specs.declared.site.SiteState.{SiteState}
use Rattle.vx_model.specs.declared.site.SiteState.TheVariants.{Up as IsUp}
use Rattle.vx_disk.specs.Disks.{Disks}
use Rattle.vx_disk.specs.declared.shelf.Shelf.{Ghosts}
use Rattle.vx_order.specs.declared.facts.LinkFacts.{LinkFacts}
use Rattle.vx_order.specs.declared.facts.SiteFacts.{SiteFacts}
use Rattle.vx_script.specs.declared.line.ScriptLine.TheVariants.{Apply}
use Rattle.vx_diskset.proofs.KeepsFailing.{same_on}
use Rattle.vx_diskset.specs.Asked.{FailsAs, FusedAs, LeavesFuse, SameFailing, disks_told, size_in}
use Rattle.vx_diskset.specs.Burning.{Burnt, NoMore}
use Rattle.vx_diskset.specs.DiskSets.{AppliedAt, AppliedWith, CanApply, CrashedTo, halted_at}
use Rattle.vx_diskset.specs.Holds.{KeptBeside, beside_of, itself, sure_of}
use Rattle.vx_diskset.proofs.Roles.{role_like}
use Rattle.vx_diskset.specs.Stands.{KeepsRole, RoleIs, SiteStands}
use Rattle.vx_diskset.specs.declared.disk_set.DiskSet.{DiskSet}
use Rattle.vx_effects.proofs.Effects.{changes_then}
use Rattle.vx_effects.proofs.Fitting.{fit_happened}
use Rattle.vx_effects.proofs.Leaving.{fit_worked}
use Rattle.vx_effects.proofs.Rises.{fault_effect, note_effect, reached_effect}
use Rattle.vx_events.proofs.Places.{some_same}
use Rattle.vx_events.proofs.Refused.{Named, apply_may, not_false, passes, when_none}
use Rattle.vx_events.specs.GroupLines.{is_over_group}
use Rattle.vx_order.specs.Grouping.{apply_role}
use Rattle.vx_order.specs.Order.{line_refusal}
use Rattle.vx_order.specs.Shapes.{line_role}
use Rattle.vx_order.specs.Sites.{rvg_of}
use Rattle.vx_order.specs.Subject.{first_name}
use Rattle.vx_events.proofs.Steps.{apply_step}
use Rattle.vx_events.specs.Doubts.{run_as}
use Rattle.vx_events.specs.Effects.{EffectAt}
use Rattle.vx_events.specs.Ends.{AllDone, DiskFails, Ends, FuseRunsOut, IsLeft}
use Rattle.vx_events.specs.Fails.{IsSiteDisk}
use Rattle.vx_diskset.specs.Blames.{BlamesSite}
use Rattle.vx_events.specs.Facts.{group_by, group_fact, seat_of, site_number}
use Rattle.vx_events.specs.LinkedFacts.{link_facts, links_by, seen_fact}
use Rattle.vx_events.specs.LinksFit.{LinksFit}
use Rattle.vx_events.specs.Lists.{Choice}
use Rattle.vx_events.specs.Sayings.{RepeatsSaid, Replies}
use Rattle.vx_events.specs.declared.said.Said.{Said}
use Rattle.vx_events.specs.declared.said.Said.TheVariants.{DoneAt, Refused}
use Rattle.vx_yard.specs.Changes.{halted_facts}
use Rattle.vx_effects.specs.Facts.{down_fact}
use Rattle.vx_yard.specs.Standing.{IsSameSite, Leads, StandsFor, crash_of, BeginsFirst}
use Rattle.vx_yard.specs.Working.{IsFree}
use Rattle.vx_yard.specs.Writes.{noted_facts}
use Rattle.vx_yard.specs.Yards.{IsTold, in_files}
use Rattle.vx_yard.specs.declared.yard.Yard.{Yard}
use Rattle.vx_yard.proofs.Alike.{burnt}
use Rattle.vx_yard.proofs.CrashLine.{fuse_fact, rose_still, stopped_fact}
use Rattle.vx_yard.proofs.CrashSite.{crash_comes, crash_fact, crash_gathering, crash_node, crash_sent, crashed_node, down_up, begins_fell}
use Rattle.vx_yard.proofs.Carrying.{LetsGo, LetsGoBy, SameLoad, carries_let, carries_node}
use Rattle.vx_yard.proofs.FailsStay.{fails_then}
use Rattle.vx_yard.proofs.FuseStays.{device_by, done_by, fused_on, left_passed}
use Rattle.vx_yard.proofs.NamedSite.{SiteAt, fact_named, fact_of, rvg_at}
use Rattle.vx_yard.proofs.OneSite.{Changed, Comes, beside_same, role_kept, rose_at, stands_apart, stands_at, still_apart, told_by}
use Rattle.vx_yard.proofs.Rows.{fact_from, fact_like, fact_same, over_same, shown_by}
use Rattle.vx_yard.proofs.SiteEvents.{first_choice, keeps_k}
use Rattle.vx_events.specs.RvgViews.{is_over_rvg}
use Rattle.vx_yard.proofs.OverGroup.{noted_off}

-- ---- a line that notes that the fuse may have let calls pass

-- what is noted of the world behind an event
abbrev pub worked_for : Doubted → (s : ℕ) → Doubted
worked_for h s = record h { world = worked_on h.world s }

pub worked_effect : (s : ℕ) (d h : Doubted) (n : Node) (row : ℕ → Link) (many : ℕ) (doubt : Option After) (packets : List Packet) (gathered : Option Gathering) → EffectAt s d h n row many doubt packets gathered
    → EffectAt s d (worked_for h s) (worked n) row many doubt packets gathered
worked_effect s d h n row many doubt packets gathered eff =
    let note = note_effect h s (worked (h.world.nodes s)) in
    record {
      site = changes_then s d h (worked_for h s) eff.site note.site;
      is = record {
        node = note.is.node ∙ ap (λ (k : Node). worked k) eff.is.node;
        links = λ k. eff.is.links k;
        headers = eff.is.headers;
        after = eff.is.after;
      };
      sent = eff.sent;
      gathering = eff.gathering;
    }

pub halted_fact : (n : Node) (row : ℕ → Link) (sites disk : ℕ) → halted_facts disk (fact_from n row sites) ≡ fact_from (halted_at n disk) row sites
halted_fact n row sites disk =
    let ss : List ℕ = linked_sites row sites 0 sites in
    ap (λ (x : SiteFacts). let f : SiteFacts = record x { links = links_by n.state (link_facts n row ss) } in f) (stopped_fact n disk)
    ∙ ap (λ (ls : List LinkFacts). let f : SiteFacts = record (seen_fact (halted_at n disk)) { links = links_by n.state ls } in f) (sym (shown_by n (halted_at n disk) row (λ k l. refl) ss))

-- a line that applies finds a replicated volume group
apply_has : (sites : List SiteFacts) (files : Bool) (name : List ℕ) (to : ℕ) → line_refusal sites files (Apply name to) ≡ None → (n : Named sites name) → is_some (rvg_of (Some n.facts)) ≡ true
unfolding first_name line_role
apply_has sites files name to free n =
    let p = passes sites files (Apply name to) free in
    not_false (is_some (rvg_of (Some n.facts))) (when_none (not (is_some (rvg_of (Some n.facts)))) WrongRole (subst (λ (o : Option SiteFacts). apply_role o ≡ None) n.found p.role))

-- ---- how the line ends

module _ (told : Type 0) (d : Doubted) (name : List ℕ) (to s : ℕ) (number_is : site_number d.world name ≡ s) where
  event_is : (reached : ℕ) → (let es : List Event = ApplyAt (site_number d.world name) to reached ∷ [] in es) ≡ ApplyAt s to reached ∷ []
  event_is reached = ap (λ (i : ℕ). let es : List Event = ApplyAt i to reached ∷ [] in es) number_is

  -- the log was applied up to this number
  pub applied_ends : (number : ℕ) → (step d.world (ApplyAt s to number)).said ≡ IsDoneAt number → Ends told d (Apply name to) (site_number d.world name) [] (DoneAt number) (worked_for (happened d (ApplyAt s to number) false) s)
  applied_ends number said =
      let e : Doubted = worked_for (happened d (ApplyAt s to number) false) s in
      let c : Choice = record { kept = 0; reached = number } in
      subst (λ (i : ℕ). Ends told d (Apply name to) i [] (DoneAt number) e) (sym number_is)
      (AllDone c false tt
      (subst (λ (es : List Event). Replies told (Apply name to) s false d es (DoneAt number)) (sym (event_is number))
      (subst (λ (o : EventSaid). RepeatsSaid (step d.world (ApplyAt s to number)).world s o (DoneAt number)) (sym said) refl))
      (subst (λ (es : List Event). IsLeft s (Apply name to) false d (run_as false d es) e) (sym (event_is number)) (record { world = refl; after = λ i. refl; strayed = refl })))

  -- a disk failed
  pub apply_halts : (disk : ℕ) → IsSiteDisk (d.world.nodes s) disk → Ends told d (Apply name to) (site_number d.world name) ((s, disk) ∷ []) (Refused (Device disk)) (worked_for (happened d (Fault s disk) false) s)
  apply_halts disk names =
      let e : Doubted = worked_for (happened d (Fault s disk) false) s in
      subst (λ (i : ℕ). Ends told d (Apply name to) i ((s, disk) ∷ []) (Refused (Device disk)) e) (sym number_is)
      (DiskFails first_choice false [] (ApplyAt s to 0) [] (Fault s disk ∷ []) disk (event_is 0) refl names refl refl (record { world = refl; after = λ i. refl; strayed = refl }))

  -- the fuse ran out
  pub apply_off : (count : ℕ) → count ≤ (d.world.nodes s).safe + to → IsFused (d.world.nodes s).fuse → Ends told d (Apply name to) (site_number d.world name) [] (Refused Off) (worked_for (crash_of d s count false) s)
  apply_off count few fused =
      let e : Doubted = worked_for (crash_of d s count false) s in
      subst (λ (i : ℕ). Ends told d (Apply name to) i [] (Refused Off) e) (sym number_is)
      (FuseRunsOut (keeps_k count) (ApplyAt s to 0) [] (event_is 0) refl few fused refl refl (record { world = refl; after = λ i. refl; strayed = refl }))

-- the site, whose fuse ran out in it
module _ (d : Doubted) (s count : ℕ) (below : s < d.world.sites) (up : (d.world.nodes s).state ≡ IsUp) (least : (d.world.nodes s).safe ≤ count) (most : count ≤ length (d.world.nodes s).log) where
  abbrev own : Node
  own = d.world.nodes s

  abbrev fell : Doubted
  fell = crash_of d s count false

  abbrev ended : Doubted
  ended = worked_for fell s

  node_then : fell.world.nodes s ≡ crashed_node own own count
  node_then = crash_node d s count false own (d.world.links s) refl (λ j. refl) (λ _. refl) below up least most

  pub fell_node : ended.world.nodes s ≡ crashed_node own own count
  fell_node = (note_effect fell s (worked (fell.world.nodes s))).is.node ∙ ap (λ (q : Node). worked q) node_then

  pub fell_same : fell.world.nodes s ≡ ended.world.nodes s
  fell_same = node_then ∙ sym fell_node

module _ {R : Type 0} {g : Ghosts R} where
  -- an apply of at most so many that was refused; where its fuse ran out no more of them are kept
  abbrev pub StopsApply : KeptBeside → Node → (to : ℕ) → DiskSet R g → DiskSet R g → No → Type 0
  StopsApply beside n to old new why = AppliedWith (λ most k e. CrashedTo beside k (k.safe + to) e) beside n to old new (Err why)

  pub stops_apply : (beside : KeptBeside) (n : Node) (to : ℕ) (old new : DiskSet R g) (why : No) → AppliedAt beside n to old new (Err why) → StopsApply beside n to old new why
  stops_apply beside n to old new (Device disk) is = is
  stops_apply beside n to old new Off is = (is.0, record { count = is.1.count; least = is.1.least; few = omega (arith, is.1.few); most = is.1.most; stands = is.1.stands })
  stops_apply beside n to old new other is = is

  pub calls_keep : (P : Disks → Disks → Type 0) (said : Said) (before after : DiskSet R g) → LeavesFuse P said before after → SameFailing before after
  calls_keep P said before after did = record { told = same_on (Burnt P said (size_in before)) (disks_told before) (disks_told after) did.told }

  -- a site that an event left so, with what it has beside its node
  pub comes_effect : (d e : Doubted) (s : ℕ) (n : Node) (packets : List Packet) (gathered : Option Gathering) (after : DiskSet R g)
      → EffectAt s d e n (d.world.links s) (d.world.headers s) (d.after s) packets gathered → LinksFit e
      → n.name ≡ (d.world.nodes s).name → n.disks ≡ (d.world.nodes s).disks → n.blocks ≡ (d.world.nodes s).blocks → n.volumes ≡ (d.world.nodes s).volumes → n.role ≡ (d.world.nodes s).role
      → SiteStands (beside_of d s) n after → FailsAs n after → FusedAs n after → RoleIs (d.world.nodes s) after → Comes d e s after
  comes_effect d e s n packets gathered after eff fits name disks blocks volumes role stands failing fuse kind =
      let here : n ≡ e.world.nodes s = sym eff.is.node in
      record {
        changes = eff.site;
        links = fits;
        stands = subst (λ (m : Node). SiteStands (beside_of e s) m after) here
            (subst (λ (b : KeptBeside). SiteStands b n after) (sym (beside_same d e s eff.site.sites (λ k. eff.is.links k) eff.is.headers eff.is.after)) stands);
        failing = subst (λ (m : Node). FailsAs m after) here failing;
        fuse = subst (λ (m : Node). FusedAs m after) here fuse;
        role = subst (λ (m : Node). RoleIs m after) here (role_like (d.world.nodes s) n after (ap is_origin role) kind);
        doubt = λ was a is.
            let w = was a (sym eff.is.after ∙ is) in
            subst (λ (m : Node). IsSameSite m a.node) here
            (record { name = w.name ∙ sym name; disks = w.disks ∙ sym disks; blocks = w.blocks ∙ sym blocks; volumes = w.volumes ∙ sym volumes });
      }

  -- ---- the line

  -- what the tests found
  pub record CanApplyAt (d : Doubted) (y : Yard R g) (name : List ℕ) (s : ℕ) : Type 0 where
    pub seat : SiteAt d y name s
    pub can : CanApply (d.world.nodes s)

  pub can_apply_at : (d : Doubted) (y : Yard R g) (name : List ℕ) (to s : ℕ) → StandsFor d y → IsFree y (Apply name to) → seat_of y.facts.items name ≡ Some s → CanApplyAt d y name s
  can_apply_at d y name to s stands free at =
      let may = apply_may y.facts.items (in_files y) name to free in
      let here = rvg_at d y name s stands at may.site (apply_has y.facts.items (in_files y) name to free may.site) in
      let fact = fact_named d y name s here at may.site in
      let n : Node = d.world.nodes s in
      let up : n.state ≡ IsUp = sym (ap (λ (f : SiteFacts). f.state) fact) ∙ may.up in
      record { seat = here; can = record { up = up; running = may.running (group_fact n) (ap (λ (f : SiteFacts). f.rvg) fact ∙ ap (λ (t : SiteState). group_by t n) up) } }

  -- the site, whose fuse ran out in it
  module _ (d : Doubted) (s count : ℕ) (below : s < d.world.sites) (up : (d.world.nodes s).state ≡ IsUp) (least : (d.world.nodes s).safe ≤ count) (most : count ≤ length (d.world.nodes s).log) where
    pub fell_comes : (before after : DiskSet R g) → LinksFit d → FailsAs (d.world.nodes s) before → SameFailing before after → SiteStands (sure_of (itself (beside_of d s) (d.world.nodes s))) (crashed (d.world.nodes s) count) after
        → Comes d (worked_for (crash_of d s count false) s) s after
    fell_comes before after fits fails same stood =
        let fell : Doubted = crash_of d s count false in
        let ended : Doubted = worked_for fell s in
        let back : fell.world.nodes s ≡ ended.world.nodes s = fell_same d s count below up least most in
        let comes = crash_comes d s count false (d.world.nodes s) (d.world.links s) refl (λ j. refl) (λ _. refl) below up least most before after fits fails same stood in
        record {
          changes = changes_then s d fell ended comes.changes (note_effect fell s (worked (fell.world.nodes s))).site;
          links = fit_worked fell s comes.links;
          stands = subst (λ (q : Node). SiteStands (beside_of fell s) q after) back comes.stands;
          failing = subst (λ (q : Node). FailsAs q after) back comes.failing;
          fuse = subst (λ (q : Node). FusedAs q after) back comes.fuse;
          role = subst (λ (q : Node). RoleIs q after) back comes.role;
          doubt = λ was a there. subst (λ (q : Node). IsSameSite q a.node) back (comes.doubt was a there);
        }

  module _ (d : Doubted) (old new : Yard R g) (name : List ℕ) (to s : ℕ) (before after : DiskSet R g) (stands : StandsFor d old) (here : CanApplyAt d old name s)
      (off : is_over_rvg (d.world.nodes s) ≡ false) (changed : Changed old new s before after) (keeps : KeepsRole before after) where
    abbrev n : Node
    n = d.world.nodes s

    fails_still : (m : Node) (said : Said) → m.failing ≡ n.failing → LeavesFuse NoMore said before after → FailsAs m after
    fails_still m said same calls = fails_then n m before after same (calls_keep NoMore said before after calls) (stands.failing s before here.seat.below changed.there)

    kind : RoleIs n after
    kind = role_kept d old s before after stands here.seat.below changed.there keeps

    -- the log was applied up to this number
    pub applied : (number : ℕ) → is_origin n.role ≡ true → AppliedAt (beside_of d s) n to before after (Ok number) → LeavesFuse NoMore (DoneAt number) before after → new.facts ≡ old.facts → SameLoad old new → Leads d (Apply name to) (DoneAt number) old new
    applied number origin is calls facts load =
        let fuse : FusedAs (worked n) after =
        fused_on (Burnt NoMore (DoneAt number) (size_in before)) n (worked n) (burned n.fuse) before after refl
        (λ x y burns left. left_passed n.fuse x.fuse y.fuse (done_by NoMore (size_in before) (DoneAt number) number x y refl burns).0.fuse left) calls.told (stands.fuses s before here.seat.below changed.there) in
        let fails : FailsAs (worked n) after = fails_still (worked n) (DoneAt number) refl calls in
        let h : Doubted = happened d (ApplyAt s to number) false in
        let e : Doubted = worked_for h s in
        let eff = worked_effect s d h n (d.world.links s) (d.world.headers s) (d.after s) d.world.packets (d.world.gathering s) (reached_effect d s to number false here.seat.below here.can.up here.can.running origin is.0 is.1) in
        let said : (step d.world (ApplyAt s to number)).said ≡ IsDoneAt number = ap (λ (o : Outcome). o.said) (apply_step d.world s to number here.seat.below here.can.up here.can.running origin is.0 is.1) in
        record {
          next = e;
          fails = [];
          done = record {
            ends = applied_ends (IsTold new) d name to s here.seat.number number said;
            counts = tt;
            works = tt;
            calls = tt;
          };
          carries = carries_node s d e (worked n) old new load eff.site eff.sent eff.gathering eff.is.node refl refl refl (told_by old new s before after changed);
          stands = still_apart d e old new s before after stands here.seat.below changed
              (comes_effect d e s (worked n) d.world.packets (d.world.gathering s) after eff (fit_worked h s (fit_happened d (ApplyAt s to number) false tt stands.links)) refl refl refl refl refl is.2 fails fuse kind)
              (λ _. noted_off (beside_of d s) (worked n) (e.world.nodes s) after is.2 off) here.seat.apart (ap (λ (q : Node). is_over_group q) eff.is.node ∙ here.seat.apart)
              (fact_same (worked n) (e.world.nodes s) (d.world.links s) (e.world.links s) d.world.sites e.world.sites eff.is.node (λ j. eff.is.links j) eff.site.sites
              ∙ fact_like n (worked n) (d.world.links s) d.world.sites (fuse_fact n (burned n.fuse)) (λ j l. refl))
              (ap (λ fs. fs.items) facts);
          rose = rose_still old new s before after changed.there changed.later changed.disk_sets;
        }

    -- a disk failed in it, and the site is halted
    halts : (disk : ℕ) (f f' : SiteFacts) → IsSiteDisk n disk → AppliedAt (beside_of d s) n to before after (Err (Device disk)) → LeavesFuse NoMore (Refused (Device disk)) before after → slice_get old.facts.items s ≡ Some f
        → f' ≡ halted_facts disk f → new.facts.items ≡ slice_set old.facts.items s f' → SameLoad old new → Leads d (Apply name to) (Refused (Device disk)) old new
    halts disk f f' names is calls at noted facts load =
        let m : Node = halted_at n disk in
        let h : Doubted = happened d (Fault s disk) false in
        let e : Doubted = worked_for h s in
        let lit : worked m ≡ m = ap (λ (x : Fuse). let q : Node = record m { fuse = x } in q) (burnt n.fuse) in
        let eff : EffectAt s d e m (d.world.links s) (d.world.headers s) (d.after s) d.world.packets (d.world.gathering s) =
        subst (λ (q : Node). EffectAt s d e q (d.world.links s) (d.world.headers s) (d.after s) d.world.packets (d.world.gathering s)) lit
        (worked_effect s d h m (d.world.links s) (d.world.headers s) (d.after s) d.world.packets (d.world.gathering s) (fault_effect d s disk false here.seat.below here.can.up)) in
        let fuse : FusedAs m after =
        fused_on (Burnt NoMore (Refused (Device disk)) (size_in before)) n m (burned n.fuse) before after refl
        (λ x y burns left. left_passed n.fuse x.fuse y.fuse (device_by NoMore (size_in before) (Refused (Device disk)) disk x y refl burns).fuse left) calls.told (stands.fuses s before here.seat.below changed.there) in
        record {
          next = e;
          fails = (s, disk) ∷ [];
          done = record {
            ends = apply_halts (IsTold new) d name to s here.seat.number disk names;
            counts = tt;
            works = tt;
            calls = tt;
          };
          carries = carries_node s d e m old new load eff.site eff.sent eff.gathering eff.is.node refl refl refl (told_by old new s before after changed);
          stands = stands_apart d e old new s f' before after stands here.seat.below changed
              (comes_effect d e s m d.world.packets (d.world.gathering s) after eff (fit_worked h s (fit_happened d (Fault s disk) false tt stands.links)) refl refl refl refl refl is.0 (fails_still m (Refused (Device disk)) refl calls) fuse kind)
              (λ _. noted_off (beside_of d s) m (e.world.nodes s) after is.0 off)
              (ap (λ (q : Node). is_over_group q) eff.is.node ∙ here.seat.apart)
              (noted ∙ ap (halted_facts disk) (some_same (sym at ∙ here.seat.fact)) ∙ halted_fact n (d.world.links s) d.world.sites disk
              ∙ sym (fact_same m (e.world.nodes s) (d.world.links s) (e.world.links s) d.world.sites e.world.sites eff.is.node (λ j. eff.is.links j) eff.site.sites))
              facts;
          rose = rose_at old new s disk before after changed is.1;
        }

    -- its fuse ran out, and the site is down
    falls_off : (f f' : SiteFacts) → StopsApply (beside_of d s) n to before after Off → LeavesFuse NoMore (Refused Off) before after → slice_get old.facts.items s ≡ Some f
        → f' ≡ down_fact f → new.facts.items ≡ slice_set old.facts.items s f' → LetsGo old new s → Leads d (Apply name to) (Refused Off) old new
    falls_off f f' is calls at noted facts lets = itself_by is.1.count is.1.few is.1.least is.1.most is.1.stands
      where
        itself_by : (count : ℕ) → count ≤ n.safe + to → n.safe ≤ count → count ≤ length n.log → SiteStands (sure_of (itself (beside_of d s) n)) (crashed n count) after → Leads d (Apply name to) (Refused Off) old new
        itself_by count few least most stood =
            let h : Doubted = crash_of d s count false in
            let e : Doubted = worked_for h s in
            let m : Node = crashed_node n n count in
            let node : e.world.nodes s ≡ m = fell_node d s count here.seat.below here.can.up least most in
            let same : h.world.nodes s ≡ e.world.nodes s = fell_same d s count here.seat.below here.can.up least most in
            let crashes : Comes d e s after =
            fell_comes d s count here.seat.below here.can.up least most before after stands.links (stands.failing s before here.seat.below changed.there) (calls_keep NoMore (Refused Off) before after calls) stood in
            record {
              next = e;
              fails = [];
              done = record {
                ends = apply_off (IsTold new) d name to s here.seat.number count few is.0;
                counts = tt;
                works = tt;
                calls = tt;
              };
              carries = carries_let s d e old new lets (omega (arith, here.seat.below, stands.disk_sets.few)) crashes.changes
                  (crash_sent d s count false n (d.world.links s) refl (λ j. refl) (λ _. refl) here.seat.below here.can.up least most)
                  (crash_gathering d s count false n (d.world.links s) refl (λ j. refl) (λ _. refl) here.seat.below here.can.up least most)
                  (λ is_up. down_up (sym (ap (λ (q : Node). q.state) node) ∙ is_up)) (told_by old new s before after changed);
              stands = stands_at d e old new s f' before after stands here.seat.below changed
                  crashes
                  (λ first. subst (λ (q : Node). BeginsFirst s q) (sym node) (begins_fell s n n count here.can.up first))
                  (λ _. noted_off (sure_of (itself (beside_of d s) n)) (crashed n count) (e.world.nodes s) after stood off)
                  (noted ∙ ap down_fact (some_same (sym at ∙ fact_of d old s stands here.seat.below)) ∙ crash_fact d s count false n (d.world.links s) refl (λ j. refl) (λ _. refl) here.seat.below here.can.up least most refl refl refl refl
                  ∙ over_same (e.world.nodes s) (h.world.nodes s) (h.world.links s) (h.world.links s) h.world.sites h.world.sites same (λ j. refl) refl)
                  facts;
              rose = rose_still old new s before after changed.there changed.later changed.disk_sets;
            }

    -- it was refused
    pub apply_refused : (why : No) (said : Said) (f f' : SiteFacts) → said ≡ Refused why → BlamesSite n why → StopsApply (beside_of d s) n to before after why → LeavesFuse NoMore (Refused why) before after → slice_get old.facts.items s ≡ Some f
        → f' ≡ noted_facts why f → new.facts.items ≡ slice_set old.facts.items s f' → LetsGoBy why old new s → Leads d (Apply name to) said old new
    apply_refused why said f f' says blames is calls at noted facts lets = subst (λ (r : Said). Leads d (Apply name to) r old new) (sym says) (by_why why blames is calls noted lets)
      where
        by_why : (why : No) → BlamesSite n why → StopsApply (beside_of d s) n to before after why → LeavesFuse NoMore (Refused why) before after → f' ≡ noted_facts why f → LetsGoBy why old new s → Leads d (Apply name to) (Refused why) old new
        by_why (Device disk) blames is calls noted lets = halts disk f f' blames is calls at noted facts (record { flight = lets.flight; assemblies = lets.assemblies; feeders = lets.feeders })
        by_why Off blames is calls noted lets = falls_off f f' is calls at noted facts (record { flight = lets.flight; assemblies = lets.assemblies; feeders = lets.feeders })
        by_why other blames is calls noted lets = absurd is
