-- What disks, fuses and notes leave of a world keeps its links fitting.
use Rattle.std.proofs.Common.{◌≡◌, ◌∙◌, ℕ, ◌≤◌, ◌<◌, Bool, true, false, refl, ap, sym, subst, arith}
use Rattle.std.specs.Prelude.{not, ◌&&◌, eqb, ltb, Option, Some, None}
use Rattle.vx_history.proofs.Updates.{all_updated, at_place, by_test, eqb_apart, eqb_equal}
use Rattle.vx_history.specs.Doubts.{After, Doubted, crashed_as, halved, resolved_at, taken_up}
use Rattle.vx_history.specs.Events.{kept_of, new_link, packet_at}
use Rattle.vx_history.specs.Headers.{headers_by}
use Rattle.vx_history.specs.Refusals.{Outcome, at_site, both_at_work, follows, is_primary, is_running, count_links_of, refused, unless}
use Rattle.vx_history.specs.Sends.{is_linked, with_link}
use Rattle.vx_history.specs.Step.{done, link_part, outcome_of, step}
use Rattle.vx_history.specs.Steps.{burned, fused, stopped_by, worked_on}
use Rattle.vx_history.specs.Stops.{IsOpen, WritesAt}
use Rattle.vx_history.specs.World.{FuseSet, empty_world, Node, Packet, World, updated, with_node, Link as LinkOf}
use Rattle.vx_history.specs.declared.event.Event.{Event}
use Rattle.vx_history.specs.declared.event.Event.TheVariants.{Site, Raw, Group, Volumes, Write, Read, Apply, Pump, Tick, Deliver, Connect, Cut, Pause, Resume, Wait, Link, Set, Attach, Detach, Crash, Deport, Fall, Recover, Fault}
use Rattle.vx_history.specs.declared.event.LinkPart.TheVariants.{Joins, Made, Marked, Opened}
use Rattle.vx_model.specs.declared.link.Prot.{Prot}
use Rattle.vx_model.specs.declared.link.SyncMode.{SyncMode}
use Rattle.vx_model.specs.declared.no.No.{No}
use Rattle.vx_model.specs.declared.no.No.TheVariants.{Exists, Role as WrongRole}
use Rattle.vx_model.specs.declared.site.SPhase.TheVariants.{Quiet}
use Rattle.vx_model.specs.declared.site.SiteState.TheVariants.{Bare, Down, Up}
use Rattle.vx_script.specs.declared.line.ScriptLine.{ScriptLine}
use Rattle.vx_script.specs.declared.line.ScriptLine.TheVariants.{Apply as ApplyLine, Deliver as DeliverLine, Disk, Fuse as FuseLine, Link as LinkLine, Put, Set as SetLine, Settle, Write as WriteLine}
use Rattle.vx_events.specs.Doubts.{IsAs, sure, with_disks}
use Rattle.vx_events.specs.Ends.{IsLeft, found_linked, noted}
use Rattle.vx_events.specs.Found.{ComesUpAs}
use Rattle.vx_events.specs.Facts.{site_number}
use Rattle.vx_events.specs.Failing.{is_failing, made_fail}
use Rattle.vx_events.specs.LinkEnds.{AreLeft, link_noted, target_noted}
use Rattle.vx_events.specs.RvgBack.{fallen, fallen_row, found_fallen}
use Rattle.vx_events.specs.LinksFit.{DoubtFits, IsBlank, IsRested, LinksFit, RowFits, StartsAt}
use Rattle.vx_events.proofs.Places.{never_some, some_same}
use Rattle.vx_effects.specs.Settings.{SetsFail}
use Rattle.vx_effects.proofs.Fitting.{fit_crashed, fit_happened, fit_resolved, none_more, updated_other}
use Rattle.vx_effects.proofs.Headers.{bare_none}
use Rattle.vx_effects.proofs.Links.{keeps_touch, row_moves}
use Rattle.vx_effects.proofs.Moves.{All, Moves, Rests, fit_moves, moves_alike, moves_like}
use Rattle.vx_effects.proofs.Outcomes.{outcome_moves, stopped_moves}
use Rattle.vx_effects.proofs.Tests

-- ---- a failing disk

-- a further site is in doubt
fit_doubt : (d : Doubted) (s : ℕ) (a : After) → DoubtFits d.world s a → LinksFit d → LinksFit (record d { after = updated d.after s (Some a) })
fit_doubt d s a doubt fit = record {
  rows = fit.rows;
  later = fit.later;
  bare = fit.bare;
  starts = fit.starts;
  quiet = fit.quiet;
  rests = fit.rests;
  doubts = all_updated (λ (p : ℕ) (o : Option After). (b : After) → o ≡ Some b → DoubtFits d.world p b) d.after s (Some a)
      (λ b e. subst (λ (c : After). DoubtFits d.world s c) (some_same e) doubt) (λ p _. fit.doubts p);
}

-- an event that writes a header of a log, or a record that a disk ends, makes no site, and its site stays up
record Remains (w v : World) (s : ℕ) : Type 0 where
  sites : v.sites ≡ w.sites
  up : (w.nodes s).state ≡ Up → (v.nodes s).state ≡ Up

settled_remains : (w : World) (e : Event) (s : ℕ) → Moves All w (outcome_of w e).world → Remains w (step w e).world s
settled_remains w e s m = record { sites = m.sites; up = λ up. (m.stays s tt).up up }

-- a link that is made changes no site
made_remains : (w : World) (p q : ℕ) (sync : SyncMode) (prot : Prot) (s : ℕ) → Remains w (step w (Link p q sync prot Made)).world s
made_remains w p q sync prot s =
    let o : Outcome = done (with_link w p q (new_link (count_links_of w p) sync prot (w.nodes q))) in
    let free : Outcome = unless (is_linked (w.links p q)) (Exists (w.nodes q).name) w o in
    let part : Outcome = link_part Made w p q sync prot in
    let Q : Outcome → Type 0 = λ (r : Outcome). (r.world.sites ≡ w.sites) × ((i : ℕ) → r.world.nodes i ≡ w.nodes i) in
    let refusals : (why : No) → Q (refused w why) = λ why. (refl, λ i. refl) in
    let all : Q (outcome_of w (Link p q sync prot Made)) =
    Tests.site_ends Q w refusals p (at_site w q (both_at_work w p q part))
    (λ _. Tests.site_ends Q w refusals q (both_at_work w p q part)
    (λ _. Tests.both_ends Q w refusals p q part
    (λ _ _ _ _. Tests.unless_ends Q w refusals (not (is_primary (w.nodes p).role && follows w p q)) WrongRole free
    (λ _. Tests.unless_ends Q w refusals (is_linked (w.links p q)) (Exists (w.nodes q).name) o (λ _. (refl, λ i. refl)))))) in
    record { sites = all.0; up = λ up. ap (λ (n : Node). n.state) (all.1 s) ∙ up }

writes_remains : (d : Doubted) (e : Event) (s : ℕ) → LinksFit d → WritesAt d.world e s → SetsFail e → Remains d.world (step d.world e).world s
writes_remains d (Site name disks blocks) s fit writes sets = absurd writes
writes_remains d (Raw p) s fit writes sets = absurd writes
writes_remains d (Group p) s fit writes sets = absurd writes
writes_remains d (Volumes p log xs) s fit writes sets = absurd writes
writes_remains d (Write p volume start bytes fails) s fit writes sets = settled_remains d.world (Write p volume start bytes fails) s (outcome_moves d.world (Write p volume start bytes fails) tt)
writes_remains d (Read p volume start count) s fit writes sets = absurd writes
writes_remains d (Apply p count reached) s fit writes sets = absurd writes
writes_remains d (Pump p q) s fit writes sets = absurd writes
writes_remains d (Tick p q) s fit writes sets = absurd writes
writes_remains d (Deliver number) s fit writes sets = settled_remains d.world (Deliver number) s (outcome_moves d.world (Deliver number) tt)
writes_remains d (Connect p q) s fit writes sets = absurd writes
writes_remains d (Cut p q) s fit writes sets = absurd writes
writes_remains d (Pause p q) s fit writes sets = absurd writes
writes_remains d (Resume p q) s fit writes sets = absurd writes
writes_remains d (Wait p number) s fit writes sets = absurd writes
writes_remains d (Link p q sync prot Joins) s fit writes sets = settled_remains d.world (Link p q sync prot Joins) s (outcome_moves d.world (Link p q sync prot Joins) tt)
writes_remains d (Link p q sync prot Made) s fit writes sets = made_remains d.world p q sync prot s
writes_remains d (Link p q sync prot Marked) s fit writes sets = settled_remains d.world (Link p q sync prot Marked) s (outcome_moves d.world (Link p q sync prot Marked) tt)
writes_remains d (Link p q sync prot Opened) s fit writes sets = settled_remains d.world (Link p q sync prot Opened) s (outcome_moves d.world (Link p q sync prot Opened) tt)
writes_remains d (Set p q sync prot) s fit writes sets = settled_remains d.world (Set p q sync prot) s (outcome_moves d.world (Set p q sync prot) sets)
writes_remains d (Attach p q) s fit writes sets = settled_remains d.world (Attach p q) s (outcome_moves d.world (Attach p q) tt)
writes_remains d (Detach p q) s fit writes sets = settled_remains d.world (Detach p q) s (outcome_moves d.world (Detach p q) tt)
writes_remains d (Crash p kept) s fit writes sets = absurd writes
writes_remains d (Deport p) s fit writes sets = absurd writes
writes_remains d (Fall p) s fit writes sets = absurd writes
writes_remains d (Recover p fails) s fit writes sets = absurd writes
writes_remains d (Fault p disk) s fit writes sets = settled_remains d.world (Fault p disk) s (outcome_moves d.world (Fault p disk) tt)

-- such an event crashes nothing
written_done : (d : Doubted) (e : Event) (s : ℕ) → WritesAt d.world e s → SetsFail e → LinksFit d → LinksFit (record d { world = (step d.world e).world })
written_done d (Site name disks blocks) s writes sets fit = absurd writes
written_done d (Raw p) s writes sets fit = absurd writes
written_done d (Group p) s writes sets fit = absurd writes
written_done d (Volumes p log xs) s writes sets fit = absurd writes
written_done d (Write p volume start bytes fails) s writes sets fit = fit_happened d (Write p volume start bytes fails) false sets fit
written_done d (Read p volume start count) s writes sets fit = absurd writes
written_done d (Apply p count reached) s writes sets fit = absurd writes
written_done d (Pump p q) s writes sets fit = absurd writes
written_done d (Tick p q) s writes sets fit = absurd writes
written_done d (Deliver number) s writes sets fit = fit_happened d (Deliver number) false sets fit
written_done d (Connect p q) s writes sets fit = absurd writes
written_done d (Cut p q) s writes sets fit = absurd writes
written_done d (Pause p q) s writes sets fit = absurd writes
written_done d (Resume p q) s writes sets fit = absurd writes
written_done d (Wait p number) s writes sets fit = absurd writes
written_done d (Link p q sync prot part) s writes sets fit = fit_happened d (Link p q sync prot part) false sets fit
written_done d (Set p q sync prot) s writes sets fit = fit_happened d (Set p q sync prot) false sets fit
written_done d (Attach p q) s writes sets fit = fit_happened d (Attach p q) false sets fit
written_done d (Detach p q) s writes sets fit = fit_happened d (Detach p q) false sets fit
written_done d (Crash p kept) s writes sets fit = absurd writes
written_done d (Deport p) s writes sets fit = absurd writes
written_done d (Fall p) s writes sets fit = absurd writes
written_done d (Recover p fails) s writes sets fit = absurd writes
written_done d (Fault p disk) s writes sets fit = fit_happened d (Fault p disk) false sets fit

pub fit_halved : (d : Doubted) (e : Event) (s disk : ℕ) → IsOpen (d.world.nodes s) → WritesAt d.world e s → SetsFail e → LinksFit d → LinksFit (halved d e s disk)
fit_halved d e s disk opens writes sets fit =
    let w : World = d.world in
    let v : World = (step w e).world in
    let stays : Remains w v s = writes_remains d e s fit writes sets in
    let after : LinksFit (record d { world = v }) = written_done d e s writes sets fit in
    let here : Node = record (w.nodes s) { halted = Some disk; fuse = burned (w.nodes s).fuse } in
    let there : Node = record (v.nodes s) { halted = Some disk; fuse = burned (v.nodes s).fuse } in
    let stopped : World = record (stopped_by w s disk) { headers = v.headers } in
    fit_doubt (record d { world = stopped }) s (record { node = (stopped_by v s disk).nodes s; row = v.links s })
    (record {
      up = ap (λ (n : Node). n.state) (at_place w.nodes s here) ∙ opens.0;
      halted = ap (λ (n : Node). is_running n.halted) (at_place w.nodes s here);
      up_too = ap (λ (n : Node). n.state) (at_place v.nodes s there) ∙ stays.up opens.0;
      halted_too = ap (λ (n : Node). is_running n.halted) (at_place v.nodes s there);
      row = subst (λ (n : ℕ). RowFits s n (v.links s)) stays.sites (after.rows s);
      starts = subst (λ (n : Node). StartsAt n (v.links s)) (sym (at_place v.nodes s there)) (after.starts s);
      quiet = ap (λ (n : Node). n.phase) (at_place v.nodes s there) ∙ after.quiet s;
    })
    (fit_moves d (record d { world = stopped }) (moves_like All w (stopped_by w s disk) stopped refl (λ p. refl) (λ p k. refl) (stopped_moves All w s disk))
    (λ p bare. none_more (w.headers p) (headers_by e w (outcome_of w e) p) (bare_none w p bare e)) (λ p a is. (is, tt)) fit)

-- the site is up, whichever of the two it is
resolved_up : (d : Doubted) (s : ℕ) (taken : Bool) → (d.world.nodes s).state ≡ Up → LinksFit d → ((resolved_at d s taken).world.nodes s).state ≡ Up
resolved_up d s false up fit = up
resolved_up d s true up fit = by_doubt (d.after s) refl
  where
    by_doubt : (o : Option After) → d.after s ≡ o → ((taken_up d.world s o).nodes s).state ≡ Up
    by_doubt None e = up
    by_doubt (Some a) e = ap (λ (n : Node). n.state) (at_place d.world.nodes s a.node) ∙ (fit.doubts s a e).up_too

pub fit_crashed_as : (d : Doubted) (s kept : ℕ) (taken : Bool) → (d.world.nodes s).state ≡ Up → LinksFit d → LinksFit (crashed_as d s kept taken)
fit_crashed_as d s kept taken up fit =
    let r : Doubted = resolved_at d s taken in
    fit_crashed r s (kept_of (r.world.nodes s) kept) (at_place d.after s None) (resolved_up d s taken up fit) (fit_resolved d s taken fit)

-- ---- notes

-- a site with another fuse, or with other disks that are made to fail
pub fit_note : (d : Doubted) (s : ℕ) (n : Node) → n.state ≡ (d.world.nodes s).state → n.halted ≡ (d.world.nodes s).halted → n.role ≡ (d.world.nodes s).role
    → Rests (d.world.nodes s) n → LinksFit d → LinksFit (record d { world = with_node d.world s n })
fit_note d s n state halted role rests fit =
    fit_moves d (record d { world = with_node d.world s n }) (moves_alike All d.world s n state halted role rests) (λ p _. refl) (λ p a is. (is, tt)) fit

-- a note leaves all else
still : {n m : Node} → (n.phase ≡ Quiet → m.phase ≡ Quiet) → (IsRested n → IsRested m) → Rests n m
still quiet rests = record { quiet = quiet; rests = rests }

pub fit_failing : (d : Doubted) (s disk : ℕ) (on : Bool) → LinksFit d → LinksFit (record d { world = made_fail d.world s disk on })
fit_failing d s disk on fit = fit_note d s (record (d.world.nodes s) { failing = updated (d.world.nodes s).failing disk on }) refl refl refl (still (λ e. e) (λ e. e)) fit

pub fit_fused : (d : Doubted) (s calls : ℕ) → LinksFit d → LinksFit (record d { world = fused d.world s calls })
fit_fused d s calls fit = fit_note d s (record (d.world.nodes s) { fuse = FuseSet calls }) refl refl refl (still (λ e. e) (λ e. e)) fit

pub fit_worked : (d : Doubted) (s : ℕ) → LinksFit d → LinksFit (record d { world = worked_on d.world s })
fit_worked d s fit = fit_note d s (record (d.world.nodes s) { fuse = burned (d.world.nodes s).fuse }) refl refl refl (still (λ e. e) (λ e. e)) fit

pub fit_disks : (taken : Bool) (s : ℕ) (w : World) (d : Doubted) → LinksFit d → LinksFit (record d { world = with_disks taken s w d.world })
fit_disks true s w d fit = fit_note d s (record (d.world.nodes s) { failing = (w.nodes s).failing; group = (w.nodes s).group }) refl refl refl (still (λ e. e) (λ e. e)) fit
fit_disks false s w d fit = fit

pub fit_noted : (s : ℕ) (line : ScriptLine) (d : Doubted) → LinksFit d → LinksFit (record d { world = noted s line d.world })
fit_noted s (Disk site disk state) d fit = fit_failing d s disk (is_failing state) fit
fit_noted s (FuseLine site calls pick) d fit = fit_fused d s calls fit
fit_noted s (WriteLine site volume start count fill) d fit = fit_worked d s fit
fit_noted s (Put site volume start bytes) d fit = fit_worked d s fit
fit_noted s (ApplyLine site to) d fit = fit_worked d s fit
fit_noted s other d fit = fit

-- the same doubts over a world
pub fit_as : (d new : Doubted) (v : World) → IsAs d v new → LinksFit (record d { world = v }) → LinksFit new
fit_as d new v is fit = record {
  rows = λ p. subst (λ (w : World). RowFits p w.sites (w.links p)) (sym is.world) (fit.rows p);
  later = subst (λ (w : World). (p : ℕ) → w.sites ≤ p → (w.nodes p).state ≡ Bare) (sym is.world) fit.later;
  bare = subst (λ (w : World). (p : ℕ) → (w.nodes p).state ≡ Bare → IsBlank w p) (sym is.world) fit.bare;
  doubts = λ p a e. subst (λ (w : World). DoubtFits w p a) (sym is.world) (fit.doubts p a (sym (is.after p) ∙ e));
  starts = λ p. subst (λ (w : World). StartsAt (w.nodes p) (w.links p)) (sym is.world) (fit.starts p);
  quiet = λ p. subst (λ (w : World). (w.nodes p).phase ≡ Quiet) (sym is.world) (fit.quiet p);
  rests = λ p. subst (λ (w : World). IsRested (w.nodes p)) (sym is.world) (fit.rests p);
}

-- what a line leaves of the worlds to which its events came
pub fit_left : (s : ℕ) (line : ScriptLine) (taken : Bool) (d last new : Doubted) → IsLeft s line taken d last new → LinksFit last → LinksFit new
fit_left s line taken d last new left fit =
    let v : World = with_disks taken s d.world last.world in
    fit_as last new (noted s line v) left (fit_noted s line (record last { world = v }) (fit_disks taken s d.world last fit))

fit_target : (sites : ℕ) (p : Option Packet) (d : Doubted) → LinksFit d → LinksFit (record d { world = target_noted sites p d.world })
fit_target sites None d fit = fit
fit_target sites (Some p) d fit =
    by_test (λ (v : World). LinksFit (record d { world = v })) (ltb p.target sites) (worked_on d.world p.target) d.world (λ _. fit_worked d p.target fit) (λ _. fit)

fit_link_noted : (w : World) (line : ScriptLine) (d : Doubted) → LinksFit d → LinksFit (record d { world = link_noted w line d.world })
fit_link_noted w (LinkLine p s sync prot) d fit =
    fit_worked (record d { world = worked_on d.world (site_number w p) }) (site_number w s) (fit_worked d (site_number w p) fit)
fit_link_noted w (SetLine p s sync prot) d fit = fit_worked d (site_number w p) fit
fit_link_noted w (DeliverLine number) d fit = fit_target w.sites (packet_at w.packets number) d fit
fit_link_noted w (Settle p s) d fit =
    fit_worked (record d { world = worked_on d.world (site_number w p) }) (site_number w s) (fit_worked d (site_number w p) fit)
fit_link_noted w other d fit = fit

-- what a line of links leaves
pub fit_links_left : (line : ScriptLine) (d last new : Doubted) → AreLeft line d last new → LinksFit last → LinksFit new
fit_links_left line d last new left fit = fit_as last new (link_noted d.world line last.world) left (fit_link_noted d.world line last fit)

-- of the world without sites
pub fit_empty : LinksFit (sure empty_world)
fit_empty = record {
  rows = λ p. record {
    places = record {
      within = λ s e. let f : false ≡ true = e in absurd (cc);
      below = λ s place e. absurd (never_some e);
      apart = λ s t place e f. absurd (never_some e);
      filled = λ place less. absurd (let h : place < 0 = less in omega (arith, h));
    };
    apart = λ k e. let f : false ≡ true = e in absurd (cc);
    plain = λ k e. let f : false ≡ true = e in absurd (cc);
    none = λ k e. refl;
  };
  later = λ p h. refl;
  bare = λ p b. record { links = λ k. refl; headers = refl };
  doubts = λ p a e. absurd (never_some e);
  starts = λ p k _. refl;
  quiet = λ p. refl;
  rests = λ p down. let e : Bare ≡ Down = down in absurd (cc);
}

-- what a site that is not in doubt is made, which is not bare, with links that fit
pub fit_linked : (d : Doubted) (s : ℕ) (k : Node) (row : ℕ → LinkOf) → s < d.world.sites → d.after s ≡ None → (k.state ≡ Bare → ⊥) → RowFits s d.world.sites row → StartsAt k row → k.phase ≡ Quiet → IsRested k → LinksFit d
    → LinksFit (found_linked d s k row)
fit_linked d s k row below sure made fits starts quiet rests fit = record {
  rows = all_updated (λ (p : ℕ) (r : ℕ → LinkOf). RowFits p d.world.sites r) d.world.links s row fits (λ p _. fit.rows p);
  later = all_updated (λ (p : ℕ) (n : Node). d.world.sites ≤ p → n.state ≡ Bare) d.world.nodes s k (λ h. absurd (omega (arith, below, h))) (λ p _ h. fit.later p h);
  bare = λ p bare. blank p (apart p bare) (subst (λ (n : Node). n.state ≡ Bare) (updated_other d.world.nodes s p k (apart p bare)) bare);
  doubts = λ p a is.
      let other : p ≡ s → ⊥ = (λ (same : p ≡ s). never_some (sym sure ∙ subst (λ (i : ℕ). d.after i ≡ Some a) same is)) in
      let f : DoubtFits d.world p a = fit.doubts p a is in
      record {
        up = ap (λ (n : Node). n.state) (updated_other d.world.nodes s p k other) ∙ f.up;
        halted = ap (λ (n : Node). is_running n.halted) (updated_other d.world.nodes s p k other) ∙ f.halted;
        up_too = f.up_too;
        halted_too = f.halted_too;
        row = f.row;
        starts = f.starts;
        quiet = f.quiet;
      };
  starts = λ p. starting p (eqb p s) refl;
  quiet = all_updated (λ (p : ℕ) (m : Node). m.phase ≡ Quiet) d.world.nodes s k quiet (λ p _. fit.quiet p);
  rests = all_updated (λ (p : ℕ) (m : Node). IsRested m) d.world.nodes s k rests (λ p _. fit.rests p);
}
  where
    starting : (p : ℕ) (b : Bool) → eqb p s ≡ b → StartsAt (updated d.world.nodes s k p) (updated d.world.links s row p)
    starting p true e =
        subst (λ (i : ℕ). StartsAt (updated d.world.nodes s k i) (updated d.world.links s row i)) (sym (eqb_equal p s e))
        (subst (λ (m : Node). StartsAt m (updated d.world.links s row s)) (sym (at_place d.world.nodes s k))
        (subst (λ (r : ℕ → LinkOf). StartsAt k r) (sym (at_place d.world.links s row)) starts))
    starting p false e =
        let other : p ≡ s → ⊥ = eqb_apart p s e in
        subst (λ (m : Node). StartsAt m (updated d.world.links s row p)) (sym (updated_other d.world.nodes s p k other))
        (subst (λ (r : ℕ → LinkOf). StartsAt (d.world.nodes p) r) (sym (updated_other d.world.links s p row other)) (fit.starts p))

    apart : (p : ℕ) → (updated d.world.nodes s k p).state ≡ Bare → p ≡ s → ⊥
    apart p bare same =
        let here : (updated d.world.nodes s k s).state ≡ Bare = subst (λ (i : ℕ). (updated d.world.nodes s k i).state ≡ Bare) same bare in
        made (ap (λ (n : Node). n.state) (sym (at_place d.world.nodes s k)) ∙ here)

    blank : (p : ℕ) → (p ≡ s → ⊥) → (d.world.nodes p).state ≡ Bare → IsBlank (found_linked d s k row).world p
    blank p other bare = record {
      links = λ i. ap (λ (r : ℕ → LinkOf). is_linked (r i)) (updated_other d.world.links s p row other) ∙ (fit.bare p bare).links i;
      headers = (fit.bare p bare).headers;
    }

-- what is found on the disks of a site that is not in doubt, with links that fit
pub fit_found : (d : Doubted) (s : ℕ) (n k : Node) (row : ℕ → LinkOf) → s < d.world.sites → d.after s ≡ None → ComesUpAs s d.world.sites n k row → LinksFit d
    → LinksFit (found_linked d s k row)
fit_found d s n k row below sure comes fit =
    fit_linked d s k row below sure (λ bare. let e : Up ≡ Bare = sym comes.same.up ∙ bare in absurd (cc)) comes.fits comes.starts comes.quiet (λ _. comes.rests) fit

-- the same behind a crash, with all its writes
pub fit_fallen : (d : Doubted) (s : ℕ) (n k : Node) (row : ℕ → LinkOf) → s < d.world.sites → d.after s ≡ None → ComesUpAs s d.world.sites n k row → LinksFit d
    → LinksFit (found_fallen d s k row)
fit_fallen d s n k row below sure comes fit =
    let it : LinksFit (found_linked d s (fallen k) (fallen_row row)) =
    fit_linked d s (fallen k) (fallen_row row) below sure (λ bare. let e : Down ≡ Bare = bare in absurd (cc)) (row_moves s d.world.sites row (fallen_row row) (λ i. keeps_touch (row i)) comes.fits) comes.starts comes.quiet
    (λ _. refl) fit in
    record {
      rows = it.rows;
      later = it.later;
      bare = λ p bare. record { links = (it.bare p bare).links; headers = (it.bare p bare).headers };
      doubts = λ p a is. let f = it.doubts p a is in record { up = f.up; halted = f.halted; up_too = f.up_too; halted_too = f.halted_too; row = f.row; starts = f.starts; quiet = f.quiet };
      starts = it.starts;
      quiet = it.quiet;
      rests = it.rests;
    }
