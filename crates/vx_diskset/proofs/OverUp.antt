-- How a replicated volume group stands over a group of disks behind its start, where contents are told.
use Rattle.std.proofs.Common.{◌≡◌, ◌∙◌, inl, ℕ, ◌+◌, ◌-◌, ◌<◌, true, [], length, IsTrue, arith, refl, subst, sym}
use Rattle.std.specs.Prelude.{◌≤◌, None}
use Rattle.vx_disk.specs.Shelf.{Image, Lawful, Meaning}
use Rattle.vx_disk.specs.declared.shelf.Shelf.{Ghosts}
use Rattle.vx_events.specs.GroupViews.{config_of}
use Rattle.vx_events.specs.RvgNotes.{inside_of}
use Rattle.vx_history.specs.Groups.{GroupNode}
use Rattle.vx_history.specs.World.{Fuse, Node}
use Rattle.vx_model.specs.declared.state.State.{State}
use Rattle.vx_model.specs.declared.units.Units.{Units}
use Rattle.vx_rvg.specs.Starts.{IsStarted, ring_in}
use Rattle.vx_rvg.specs.Stands.{Stands}
use Rattle.vx_rvg.specs.Views.{Core, IsSound, last_of}
use Rattle.vx_rvg.proofs.ContentFacts.{stands_last}
use Rattle.vx_srl.specs.Views.{most_number}
use Rattle.vx_diskset.specs.LaidBlocks.{laid_blockwise}
use Rattle.vx_grouped.specs.declared.group_site.GroupSite.{GroupSite}
use Rattle.vx_grouped.specs.declared.group_site.GroupSite.TheVariants.{Up}
use Rattle.vx_grouped.specs.declared.laid.Laid.{Laid}
use Rattle.vx_diskset.specs.Aboves.{above_in, site_in}
use Rattle.vx_diskset.specs.Fuses.{FuseOn}
use Rattle.vx_diskset.specs.Holds.{HasWrites, KeptBeside, most_header, state_with}
use Rattle.vx_diskset.specs.Lasts.{HasLast, LeftWith, StandsHolding}
use Rattle.vx_diskset.specs.Layouts.{IsLaid, config_units, units_of}
use Rattle.vx_diskset.specs.Needs.{NoneNeeds}
use Rattle.vx_diskset.specs.OverRises.{came_with}
use Rattle.vx_diskset.specs.Stands.{IsUpAt, OverStands}
use Rattle.vx_diskset.specs.Works.{OnlyLog}
use Rattle.vx_diskset.specs.declared.above.Above.{Above}
use Rattle.vx_diskset.specs.declared.above.Above.TheVariants.{Origin}
use Rattle.vx_diskset.specs.declared.over_set.OverSet.{OverSet}
use Rattle.vx_diskset.proofs.BesideLemmas.{never_besides}
use Rattle.vx_diskset.proofs.LastWrites.{stands_with}
use Rattle.vx_diskset.proofs.Laying.{laid_as}
use Rattle.vx_diskset.proofs.NeedLemmas.{takes_told}
use Rattle.vx_diskset.proofs.OverFrames.{OverUp, over_from}
use Rattle.vx_diskset.proofs.Sessions.{found_below_most, next_below}
use Rattle.vx_diskset.proofs.StaysUp.{not_true, writes_found}

module _ (beside : KeptBeside) (n : Node) (note : GroupNode) (fuse : Fuse) (v new : Meaning) (core : Core) (units : config_units (config_of note.config) ≡ units_of n) (low : n.low ≡ 1) (logged : length n.log ≡ n.safe) (sure : beside.doubt ≡ None)
    (begun : 0 < n.session) (laid : IsLaid (units_of n) n.ring n.volumes n.base.size v) (there : (k : ℕ) → inside_of (units_of n) k ≡ true → k < v.units)
    (left : LeftWith (units_of n) n.ring (state_with n beside.links) n.session (most_header beside n) n.log n.base v) (moves : OnlyLog (units_of n) v new) (sound : IsSound core new) (started : IsStarted (units_of n) v core new) (up : IsTrue new.down → ⊥)
    (after : Lawful new) (on : FuseOn fuse new) where
  abbrev k : Node
  k = came_with fuse note n

  ring_here : ring_in (units_of n) v ≡ n.ring
  ring_here = sym laid.ring_is

  with : LeftWith (units_of n) (ring_in (units_of n) v) (state_with n beside.links) n.session (most_header beside n) n.log n.base v
  with = subst (λ (r : ℕ). LeftWith (units_of n) r (state_with n beside.links) n.session (most_header beside n) n.log n.base v) (sym ring_here) left

  has : (core.log.header.state ≡ state_with n beside.links) × (core.log.header.incarnation ≡ n.session + 1) × (core.log.header.stamp ≤ most_header beside n + 3) × Stands core with.held new
  has = started.each (state_with n beside.links) n.session (most_header beside n) with.held with.left

  stood : StandsHolding core n.log n.base new
  stood = record {
    held = with.held;
    has = subst (λ (r : ℕ). HasLast r n.log n.base with.held) (sym started.ring_is) with.has;
    needs = subst (λ (s : State). NoneNeeds s.links (with.held.low - 1)) (sym has.0) with.needs;
    stands = has.3;
  }

  idle : core.log.staged ≡ []
  idle = sound.idle started.running (not_true new.down up)

  head : last_of core ≡ n.safe
  head = let last = stands_last core with.held new has.3 (omega (arith, started.applied)) in omega (arith, last, with.has.last, logged)

  on_units : core.units ≡ units_of k
  on_units = started.units_are ∙ sym units

  on_ring : core.log.ring ≡ n.ring
  on_ring = started.ring_is ∙ ring_here

  found_at : (i : Image) → new.now i → HasWrites beside k i
  found_at i now = writes_found {beside = beside} k core i on_units on_ring has.0 has.1 (omega (arith, has.2)) logged (stands_with core n.log n.base new i sound.log_unit after stood now)

  pub over_came : IsUpAt beside k core new
  over_came = record {
    state = refl;
    up = not_true new.down up;
    fuse = on;
    lies = record {
      laid = subst (λ (u : Units). IsLaid u n.ring n.volumes n.base.size new) (sym units) (laid_as (units_of n) n.ring n.volumes n.base.size v new moves.size laid);
      there = λ j is. (let least = there j (subst (λ (u : Units). inside_of u j ≡ true) units is) in let same = moves.units in omega (arith, least, same));
    };
    low = low;
    units = on_units;
    ring = on_ring;
    found = beside.links;
    kept = has.0;
    linked = λ told. refl;
    session = has.1;
    begun = λ told. omega arith;
    stamp = λ told none. omega (arith, has.2);
    fresh = λ origin told none one room. absurd (omega (arith, begun, one));
    first = omega (arith, started.applied);
    head = head;
    halted = started.running;
    logged = omega (arith, logged);
    durable = λ none. omega (arith, logged);
    takes = λ none. takes_told core with.held new n.log idle has.3 with.has.some with.has.writes;
    content = λ none told. stood;
    left = λ i now. inl (found_at i now);
    sure = λ none. sure;
    may = never_besides beside.doubt new sure;
  }

  -- there was a further session
  pub over_session : IsTrue new.tells → n.session < most_number
  over_session told =
      let i = after.image told in
      next_below n.session has.1 (found_below_most core.units core.log.ring core.log.header.state core.log.header.incarnation core.log.header.stamp i.0 n.log n.base (stands_with core n.log n.base new i.0 sound.log_unit after stood i.1))

module _ {R : Type 0} {g : Ghosts R} where
  pub set_came : (beside : KeptBeside) (n : Node) (s : OverSet R g) (laid : Laid R g) (core : Core) → site_in s ≡ Up laid → above_in s ≡ Origin core → IsUpAt beside n core (laid_blockwise laid) → OverStands beside n s.site
  set_came beside n s laid core site above up =
      over_from beside n s.site
      (subst (λ (a : Above). OverUp beside n a (site_in s)) (sym above) (subst (λ (e : GroupSite R g). OverUp beside n (Origin core) e) (sym site) up))
