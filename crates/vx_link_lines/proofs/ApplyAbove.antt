-- A line that applies the log of a site over a group of disks with a replicated volume group.
use Rattle.std.proofs.Common.{◌≡◌, ◌∙◌, ◌≤◌, ◌+◌, ℕ, true, false, List, length, ap, sym, subst, refl, arith}
use Rattle.std.specs.Prelude.{Some, slice_get, slice_set, Ok}
use Rattle.vx_history.specs.Doubts.{Doubted, happened}
use Rattle.vx_history.specs.Groups.{GroupNode}
use Rattle.vx_history.specs.Refusals.{Outcome}
use Rattle.vx_history.specs.Step.{step}
use Rattle.vx_history.specs.Steps.{burned, crashed, worked}
use Rattle.vx_history.specs.World.{Fuse, NoFuse, Node, Packet}
use Rattle.vx_history.specs.declared.event.Event.TheVariants.{Apply as ApplyAt, Fault}
use Rattle.vx_history.specs.declared.event.Said.TheVariants.{DoneAt as IsDoneAt}
use Rattle.vx_model.specs.Sites.{is_origin}
use Rattle.vx_model.specs.declared.no.No.{No}
use Rattle.vx_model.specs.declared.no.No.TheVariants.{Device, Down as Off}
use Rattle.vx_order.specs.declared.facts.SiteFacts.{SiteFacts}
use Rattle.vx_script.specs.declared.line.ScriptLine.{ScriptLine}
use Rattle.vx_script.specs.declared.line.ScriptLine.TheVariants.{Apply}
use Rattle.vx_disk.specs.declared.shelf.Shelf.{Ghosts}
use Rattle.vx_diskset.specs.Blames.{BlamesSite}
use Rattle.vx_diskset.specs.DiskSets.{AppliedAt, RoseAt, halted_at}
use Rattle.vx_diskset.specs.Fuses.{FuseOn}
use Rattle.vx_diskset.specs.Holds.{beside_of, itself, sure_of}
use Rattle.vx_diskset.specs.Noted.{NotesOn}
use Rattle.vx_diskset.specs.Stands.{KeepsRole, RoleIs, SiteStands}
use Rattle.vx_diskset.specs.declared.disk_set.DiskSet.{DiskSet}
use Rattle.vx_diskset.specs.declared.disk_set.DiskSet.TheVariants.{Over}
use Rattle.vx_diskset.specs.declared.over_set.OverSet.{OverSet}
use Rattle.vx_effects.proofs.Fitting.{fit_happened}
use Rattle.vx_effects.proofs.Leaving.{fit_worked}
use Rattle.vx_effects.proofs.Rises.{fault_effect, reached_effect}
use Rattle.vx_effects.specs.Facts.{down_fact}
use Rattle.vx_events.proofs.OverSeats.{fact_apart}
use Rattle.vx_events.proofs.Places.{some_same}
use Rattle.vx_events.proofs.Steps.{apply_step}
use Rattle.vx_events.specs.Effects.{EffectAt}
use Rattle.vx_events.specs.Fails.{Fails, IsSiteDisk}
use Rattle.vx_events.specs.GroupLines.{is_over_group}
use Rattle.vx_events.specs.GroupNotes.{IsKnown, note_at}
use Rattle.vx_events.specs.LinkedFacts.{linked_fact}
use Rattle.vx_events.specs.RvgOver.{EndsOver, OverRvg, burnt_over}
use Rattle.vx_events.specs.RvgSteps.{rvg_place}
use Rattle.vx_events.specs.RvgViews.{is_over_rvg}
use Rattle.vx_events.specs.declared.said.Said.{Said}
use Rattle.vx_events.specs.declared.said.Said.TheVariants.{DoneAt, Refused}
use Rattle.vx_above.proofs.Moved.{OverCall, call_note}
use Rattle.vx_above.proofs.OverCarries.{carries_over}
use Rattle.vx_above.proofs.OverComes.{StaysAs, lit_burned, same_failing}
use Rattle.vx_above.proofs.OverEnds.{over_done, over_halts, over_off}
use Rattle.vx_above.proofs.OverSites.{OverIs, over_set}
use Rattle.vx_yard.proofs.Alike.{burnt}
use Rattle.vx_yard.proofs.ApplySite.{CanApplyAt, StopsApply, apply_halts, apply_off, applied_ends, fell_comes, fell_node, fell_same, halted_fact, worked_effect, worked_for}
use Rattle.vx_yard.proofs.Carrying.{LetsGo, LetsGoBy, SameLoad, carries_let, carries_node}
use Rattle.vx_yard.proofs.CrashLine.{fuse_fact}
use Rattle.vx_yard.proofs.CrashSite.{crash_fact, crash_gathering, crash_sent, crashed_node, down_up}
use Rattle.vx_yard.proofs.Lists.{set_same}
use Rattle.vx_yard.proofs.NamedSite.{fact_of}
use Rattle.vx_yard.proofs.OneSite.{Changed, Comes, role_kept, told_by}
use Rattle.vx_yard.proofs.Reaching.{Reaches, reaches_effect}
use Rattle.vx_yard.proofs.Rows.{fact_from, fact_like, fact_same, over_same}
use Rattle.vx_yard.specs.AboveLines.{LeadsAbove}
use Rattle.vx_yard.specs.Carries.{Carries}
use Rattle.vx_yard.specs.Changes.{halted_facts}
use Rattle.vx_yard.specs.Standing.{IsSameSite, StandsFor, crash_of}
use Rattle.vx_yard.specs.Writes.{noted_facts}
use Rattle.vx_yard.specs.Yards.{IsTold}
use Rattle.vx_yard.specs.declared.yard.Yard.{Yard}

-- ---- on the disks of a replicated volume group over a group

module _ {R : Type 0} {g : Ghosts R} (d : Doubted) (old new : Yard R g) (name : List ℕ) (to s : ℕ) (here : CanApplyAt d old name s) (o p : OverSet R g) (call : OverCall d old new s o p) (kind : RoleIs (d.world.nodes s) (Over p)) where
  abbrev n : Node
  n = d.world.nodes s

  abbrev line : ScriptLine
  line = Apply name to

  abbrev next : GroupNode
  next = call_note d old new s o p call

  abbrev known : Type 0
  known = IsKnown (IsTold new) (note_at (d.world.nodes s))

  -- the line works on the replicated volume group alone
  wrap : (said : Said) (fails : Fails) (x : Doubted) → EndsOver (IsTold new) d line s fails said x → OverRvg (IsTold new) d line (rvg_place d.world line) fails said x
  wrap said fails x ends = subst (λ (i : ℕ). EndsOver (IsTold new) d line i fails said x) (sym here.seat.number) ends

  told_then : IsTold new → IsTold old
  told_then = told_by old new s (Over o) (Over p) call.changed

  -- ---- it was done

  module _ (number : ℕ) (m : Node) (packets : List Packet)
      (effect : EffectAt s d (happened d (ApplyAt s to number) false) m (d.world.links s) (d.world.headers s) (d.after s) packets (d.world.gathering s)) (same : m ≡ record n { base = m.base; safe = m.safe; mark = m.mark })
      (stood : SiteStands (beside_of d s) (worked m) (Over p)) (shown : fact_from (worked m) (d.world.links s) d.world.sites ≡ fact_from n (d.world.links s) d.world.sites) (said : (step d.world (ApplyAt s to number)).said ≡ IsDoneAt number)
      (facts : new.facts.items ≡ old.facts.items) (carried : Carries d old → Carries (worked_for (happened d (ApplyAt s to number) false) s) new) where
    abbrev e : Doubted
    e = worked_for (happened d (ApplyAt s to number) false) s

    eff : EffectAt s d e (worked m) (d.world.links s) (d.world.headers s) (d.after s) packets (d.world.gathering s)
    eff = worked_effect s d (happened d (ApplyAt s to number) false) m (d.world.links s) (d.world.headers s) (d.after s) packets (d.world.gathering s) effect

    reach : Reaches d e s (worked m) (Over p)
    reach =
        reaches_effect d e s (worked m) packets (d.world.gathering s) (Over p) eff (fit_worked (happened d (ApplyAt s to number) false) s (fit_happened d (ApplyAt s to number) false tt call.stands.links))
        (ap (λ (x : Node). x.name) same) (ap (λ (x : Node). x.disks) same) (ap (λ (x : Node). x.blocks) same) (ap (λ (x : Node). x.volumes) same) (ap (λ (x : Node). x.role) same) stood kind

    stays : StaysAs n (worked m)
    stays = record {
      name = ap (λ (x : Node). x.name) same;
      disks = ap (λ (x : Node). x.disks) same;
      blocks = ap (λ (x : Node). x.blocks) same;
      volumes = ap (λ (x : Node). x.volumes) same;
      group = ap (λ (x : Node). x.group) same;
      failing = ap (λ (x : Node). x.failing) same;
    }

    lit : m.fuse ≡ n.fuse
    lit = ap (λ (x : Node). x.fuse) same

    pub above_applied : LeadsAbove d line (DoneAt number) old new
    above_applied =
        over_done d old new s o p call e (worked m) reach stays line (DoneAt number) (DoneAt number) (λ fails works. works) (wrap (DoneAt number)) refl (linked_fact d.world s)
        (sym (fact_same (worked m) (e.world.nodes s) (d.world.links s) (e.world.links s) d.world.sites e.world.sites eff.is.node (λ j. eff.is.links j) eff.site.sites ∙ shown))
        (facts ∙ sym (set_same old.facts.items s (linked_fact d.world s) here.seat.fact)) (ap (λ (x : Node). x.state) same ∙ call.up)
        (ap (λ (f : Fuse). burnt_over n.fuse (burned f)) lit ∙ lit_burned n.fuse) (λ x on. subst (λ (f : Fuse). FuseOn (burned f) x) lit on) (λ none. sym (ap (λ (f : Fuse). burned f) lit) ∙ none)
        (λ carries. carries_over e s (worked m) next (burned n.fuse) new reach.here (carried carries)) (applied_ends known d name to s here.seat.number number said)

  -- ---- it was refused

  -- a disk failed in it, and the site is halted
  pub above_halted : (disk : ℕ) (f f' : SiteFacts) → IsSiteDisk n disk → SiteStands (beside_of d s) (halted_at n disk) (Over p) → RoseAt (Over o) (Over p) disk → slice_get old.facts.items s ≡ Some f → f' ≡ halted_facts disk f
      → new.facts.items ≡ slice_set old.facts.items s f' → SameLoad old new → LeadsAbove d line (Refused (Device disk)) old new
  above_halted disk f f' names stood rose at noted facts load =
      let m : Node = halted_at n disk in
      let h : Doubted = happened d (Fault s disk) false in
      let e : Doubted = worked_for h s in
      let twice : worked m ≡ m = ap (λ (x : Fuse). let q : Node = record m { fuse = x } in q) (burnt n.fuse) in
      let eff : EffectAt s d e m (d.world.links s) (d.world.headers s) (d.after s) d.world.packets (d.world.gathering s) =
      subst (λ (q : Node). EffectAt s d e q (d.world.links s) (d.world.headers s) (d.after s) d.world.packets (d.world.gathering s)) twice
      (worked_effect s d h m (d.world.links s) (d.world.headers s) (d.after s) d.world.packets (d.world.gathering s) (fault_effect d s disk false call.below call.up)) in
      let reach : Reaches d e s m (Over p) =
      reaches_effect d e s m d.world.packets (d.world.gathering s) (Over p) eff (fit_worked h s (fit_happened d (Fault s disk) false tt call.stands.links)) refl refl refl refl refl stood kind in
      over_halts d old new s o p call e m reach (record { name = refl; disks = refl; blocks = refl; volumes = refl; group = refl; failing = refl }) line (Refused (Device disk)) (Refused (Device disk)) (λ fails works. works)
      (wrap (Refused (Device disk))) refl f'
      (noted ∙ ap (halted_facts disk) (some_same (sym at ∙ here.seat.fact)) ∙ halted_fact n (d.world.links s) d.world.sites disk
      ∙ sym (fact_same m (e.world.nodes s) (d.world.links s) (e.world.links s) d.world.sites e.world.sites eff.is.node (λ j. eff.is.links j) eff.site.sites))
      facts call.up (lit_burned n.fuse) (λ x on. on) (λ none. none)
      (λ carries. carries_over e s m next (burned n.fuse) new reach.here (carries_node s d e m old new load eff.site eff.sent eff.gathering eff.is.node refl refl refl told_then carries)) disk rose
      (apply_halts known d name to s here.seat.number disk names)

  -- its fuse ran out, and the site is down
  pub above_fell : (f f' : SiteFacts) (is : StopsApply (beside_of d s) n to (Over o) (Over p) Off) → slice_get old.facts.items s ≡ Some f → f' ≡ down_fact f → new.facts.items ≡ slice_set old.facts.items s f' → LetsGo old new s
      → LeadsAbove d line (Refused Off) old new
  above_fell f f' is at noted facts lets = by is.1.count is.1.few is.1.least is.1.most is.1.stands
    where
      by : (count : ℕ) → count ≤ n.safe + to → n.safe ≤ count → count ≤ length n.log → SiteStands (sure_of (itself (beside_of d s) n)) (crashed n count) (Over p) → LeadsAbove d line (Refused Off) old new
      by count few least most stood =
          let h : Doubted = crash_of d s count false in
          let e : Doubted = worked_for h s in
          let m : Node = crashed_node n n count in
          let node : e.world.nodes s ≡ m = fell_node d s count call.below call.up least most in
          let same : h.world.nodes s ≡ e.world.nodes s = fell_same d s count call.below call.up least most in
          let comes : Comes d e s (Over p) =
          fell_comes d s count call.below call.up least most (Over o) (Over p) call.stands.links (call.stands.failing s (Over o) call.below call.changed.there) (same_failing d old new s o p call) stood in
          let reach : Reaches d e s m (Over p) = record {
            changes = comes.changes;
            here = node;
            links = comes.links;
            stands = subst (λ (q : Node). SiteStands (beside_of e s) q (Over p)) node comes.stands;
            role = subst (λ (q : Node). RoleIs q (Over p)) node comes.role;
            doubt = λ was a there. subst (λ (q : Node). IsSameSite q a.node) node (comes.doubt was a there);
          } in
          over_off d old new s o p call e m reach (record { name = refl; disks = refl; blocks = refl; volumes = refl; group = refl; failing = refl }) line (Refused Off) (Refused Off) (λ fails works. works) (wrap (Refused Off)) refl f'
          (noted ∙ ap down_fact (some_same (sym at ∙ fact_of d old s call.stands call.below))
          ∙ crash_fact d s count false n (d.world.links s) refl (λ j. refl) (λ _. refl) call.below call.up least most refl refl refl refl
          ∙ over_same (e.world.nodes s) (h.world.nodes s) (h.world.links s) (h.world.links s) h.world.sites h.world.sites same (λ j. refl) refl
          ∙ fact_apart e.world s (ap (λ (q : Node). is_over_group q) node ∙ here.seat.apart))
          facts refl refl refl
          (λ carries. carries_over e s m next NoFuse new node
          (carries_let s d e old new lets (omega (arith, call.below, call.stands.disk_sets.few)) comes.changes
          (crash_sent d s count false n (d.world.links s) refl (λ j. refl) (λ _. refl) call.below call.up least most)
          (crash_gathering d s count false n (d.world.links s) refl (λ j. refl) (λ _. refl) call.below call.up least most)
          (λ is_up. down_up (sym (ap (λ (q : Node). q.state) node) ∙ is_up)) told_then carries))
          refl (apply_off known d name to s here.seat.number count few is.0)

-- ---- by the disk sets before and behind the call

module _ {R : Type 0} {g : Ghosts R} (d : Doubted) (old new : Yard R g) (name : List ℕ) (to s : ℕ) (before after : DiskSet R g) (stands : StandsFor d old) (here : CanApplyAt d old name s) (over : is_over_rvg (d.world.nodes s) ≡ true)
    (changed : Changed old new s before after) (keeps : KeepsRole before after) (notes : NotesOn before after) where
  abbrev own : Node
  own = d.world.nodes s

  abbrev words : ScriptLine
  words = Apply name to

  was : OverIs before
  was = over_set (beside_of d s) (d.world.nodes s) before (stands.disk_sets.sites s before here.seat.below changed.there) over

  -- what holds of all calls on such disks holds of this one
  pub by_over : (P : DiskSet R g → DiskSet R g → Type 0) → OverIs after → ((o p : OverSet R g) → OverCall d old new s o p → RoleIs (d.world.nodes s) (Over p) → P (Over o) (Over p)) → P before after
  by_over P now all =
      subst (λ (x : DiskSet R g). Changed old new s x after → NotesOn x after → RoleIs (d.world.nodes s) after → P x after) (sym was.is)
      (subst (λ (y : DiskSet R g). Changed old new s (Over was.set) y → NotesOn (Over was.set) y → RoleIs (d.world.nodes s) y → P (Over was.set) y) (sym now.is)
      (λ changes moves kind. all was.set now.set (record { stands = stands; below = here.seat.below; over = over; up = here.can.up; changed = changes; notes = moves }) kind))
      changed notes (role_kept d old s before after stands here.seat.below changed.there keeps)

  -- the log was applied up to this number
  pub apply_above : (number : ℕ) → is_origin (d.world.nodes s).role ≡ true → AppliedAt (beside_of d s) (d.world.nodes s) to before after (Ok number) → new.facts ≡ old.facts → SameLoad old new → LeadsAbove d (Apply name to) (DoneAt number) old new
  apply_above number origin is facts load =
      let h : Doubted = happened d (ApplyAt s to number) false in
      let effect = reached_effect d s to number false here.seat.below here.can.up here.can.running origin is.0 is.1 in
      let eff = worked_effect s d h own (d.world.links s) (d.world.headers s) (d.after s) d.world.packets (d.world.gathering s) effect in
      by_over (λ x y. SiteStands (beside_of d s) (worked own) y → LeadsAbove d words (DoneAt number) old new) (over_set (beside_of d s) (worked own) after is.2 over)
      (λ o p call kind stood.
      above_applied d old new name to s here o p call kind number own d.world.packets effect refl stood (fact_like own (worked own) (d.world.links s) d.world.sites (fuse_fact own (burned own.fuse)) (λ j l. refl))
      (ap (λ (x : Outcome). x.said) (apply_step d.world s to number here.seat.below here.can.up here.can.running origin is.0 is.1)) (ap (λ fs. fs.items) facts)
      (carries_node s d (worked_for h s) (worked own) old new load eff.site eff.sent eff.gathering eff.is.node refl refl refl (told_by old new s before after changed))) is.2

  -- it was refused
  pub apply_denied : (why : No) (said : Said) (f f' : SiteFacts) → said ≡ Refused why → BlamesSite (d.world.nodes s) why → StopsApply (beside_of d s) (d.world.nodes s) to before after why → slice_get old.facts.items s ≡ Some f
      → f' ≡ noted_facts why f → new.facts.items ≡ slice_set old.facts.items s f' → LetsGoBy why old new s → LeadsAbove d (Apply name to) said old new
  apply_denied why said f f' says blames is at noted facts lets = subst (λ (r : Said). LeadsAbove d words r old new) (sym says) (by_why why blames is noted lets)
    where
      by_why : (why : No) → BlamesSite own why → StopsApply (beside_of d s) own to before after why → f' ≡ noted_facts why f → LetsGoBy why old new s → LeadsAbove d words (Refused why) old new
      by_why (Device disk) blames is noted lets =
          by_over (λ x y. SiteStands (beside_of d s) (halted_at own disk) y × RoseAt x y disk → LeadsAbove d words (Refused (Device disk)) old new) (over_set (beside_of d s) (halted_at own disk) after is.0 over)
          (λ o p call kind it.
          above_halted d old new name to s here o p call kind disk f f' blames it.0 it.1 at noted facts (record { flight = lets.flight; assemblies = lets.assemblies; feeders = lets.feeders })) is
      by_why Off blames is noted lets =
          by_over (λ x y. StopsApply (beside_of d s) own to x y Off → LeadsAbove d words (Refused Off) old new) (over_set (sure_of (itself (beside_of d s) own)) (crashed own is.1.count) after is.1.stands over)
          (λ o p call kind it. above_fell d old new name to s here o p call kind f f' it at noted facts (record { flight = lets.flight; assemblies = lets.assemblies; feeders = lets.feeders })) is
      by_why other blames is noted lets = absurd is
