-- What a change of its line leaves of a site that is up, with nothing logged and no links.
use Rattle.std.proofs.Common.{◌≡◌, ◌∙◌, ◌⊎◌, inl, inr, ⊎_elim, ◌+◌, ◌-◌, ◌<◌, ◌≤◌, ◌&&◌, ℕ, zero, suc, Bool, true, false, List, [], length, drop, ap, sym, subst, refl, arith, IsTrue}
use Rattle.std.specs.Prelude.{IsFalse, Option, Some, None, Result, Ok, Err, IfErr, OnOk, IsSome, ltb, if◌then◌else◌}
use Rattle.std.proofs.lemmas.Bool.Decides.{nat_tests}
use Rattle.std.proofs.lemmas.List.{drop_all}
use Rattle.vx_model.specs.Content.{Write}
use Rattle.vx_model.specs.declared.call.Update.{Update}
use Rattle.vx_model.specs.declared.no.No.{No}
use Rattle.vx_model.specs.declared.no.No.TheVariants.{Device, Limit, Down as IsOff}
use Rattle.vx_model.specs.declared.state.KeptLink.{KeptLink}
use Rattle.vx_history.specs.Events.{joined, logged_blocks}
use Rattle.vx_history.specs.Steps.{burned, worked}
use Rattle.vx_history.specs.Stops.{IsFused}
use Rattle.vx_history.specs.World.{Node}
use Rattle.vx_srlfmt.specs.declared.header.Header.{Header}
use Rattle.vx_srl.specs.Calls.{can_restart}
use Rattle.vx_disk.specs.Causes.{BlamesUnit}
use Rattle.vx_srl.specs.Views.{Log, most_number, widths}
use Rattle.vx_srl.specs.declared.kept.Kept.{Kept as KeptRecord}
use Rattle.vx_disk.specs.Burns.{MakesCalls}
use Rattle.vx_disk.specs.Moves.{Blocks, Moves}
use Rattle.vx_disk.specs.Racks.{IsRack}
use Rattle.vx_disk.specs.Shelf.{Image, Lawful, Meaning}
use Rattle.vx_rvg.specs.Groups.{GroupFails, halted_or}
use Rattle.vx_rvg.specs.Holdings.{Holding, kept_in, with_last}
use Rattle.vx_rvg.specs.Saves.{AppliesNone, RestartIs, change_blocks, restart_refusal, with_restart}
use Rattle.vx_rvg.specs.Stands.{FoundAs, Retains, Saving}
use Rattle.vx_rvg.specs.Views.{Core, last_of}
use Rattle.vx_events.proofs.Places.{some_same}
use Rattle.vx_secondary.specs.Receivers.{Wait}
use Rattle.vx_diskset.specs.DiskSets.{halted_at, no_number}
use Rattle.vx_diskset.specs.Fuses.{FuseOn}
use Rattle.vx_diskset.specs.Holds.{KeptBeside, HasSite, HasWrites, KeptSite, MayBe, most_with, state_with, sure_of}
use Rattle.vx_diskset.specs.Lasts.{HasLast, StandsHolding}
use Rattle.vx_diskset.specs.Layouts.{LiesOn}
use Rattle.vx_diskset.specs.Needs.{TakesAs}
use Rattle.vx_diskset.specs.Stands.{IsHeldAt, IsReceiverAt, IsUpAt}
use Rattle.vx_diskset.proofs.BesideLemmas.{never_besides, site_sure}
use Rattle.vx_diskset.proofs.Blamed.{disks_are}
use Rattle.vx_diskset.proofs.Laying.{lies_moved}
use Rattle.vx_diskset.proofs.LastWrites.{stands_with}
use Rattle.vx_diskset.proofs.LogDisks.{log_disk}
use Rattle.vx_diskset.proofs.NeedLemmas.{none_of}
use Rattle.vx_diskset.proofs.StaysUp.{found_below, fuse_moved, fused_by, left_moved, never_both, told_now, up_found, writes_found}
use Rattle.vx_joins.specs.Joins.{CanJoin, JoinedAs, joined_anew, joins_in_doubt}

-- the group with an empty log on the other line
abbrev pub emptied_core : Core → (a : Node) → ℕ → Node → Core
emptied_core c a p n = with_restart c (state_with (joined a p n) []) 0

-- nothing waits behind a group
pub none_wait : (c : Core) (size : ℕ → ℕ) (us : List Update) → us ≡ [] → Wait c size us
none_wait c size us none = subst (λ (xs : List Update). Wait c size xs) (sym none) (record {
  few = omega arith;
  line = λ k u there. absurd (never there);
  number = λ k u there. absurd (never there);
  fits = λ k u there. absurd (never there);
})
  where
    never : {A : Type 0} {x : A} → None ≡ Some x → ⊥
    never e = cc

-- no writes are in a log that is emptied
none_kept : (ring : ℕ) (xs : List Write) (n : Node) (h : Holding) → HasLast ring xs n.base h → HasLast ring [] n.base (with_last 1 0 0 h)
none_kept ring xs n h has =
    let gone : drop (length h.writes - 0) h.writes ≡ [] = drop_all (length h.writes - 0) h.writes (omega arith) in
    record {
      some = omega arith;
      last = let none = ap (λ (ws : List Write). length ws) gone in omega (arith, none);
      writes = gone;
      content = has.content;
      whole = λ room. (refl, refl);
    }

none_left : (k : ℕ) → widths (drop k []) ≡ 0
none_left zero = refl
none_left (suc k) = refl

none_gone : (k : ℕ) → logged_blocks (drop k []) ≡ 0
none_gone zero = refl
none_gone (suc k) = refl

none_taken : (l : Log) → l.held ≡ [] → TakesAs l []
none_taken l held = record {
  each = λ above there. ap (λ (ks : List KeptRecord). widths (drop (above + 1 - l.header.low) ks)) held ∙ none_left (above + 1 - l.header.low) ∙ sym (none_gone above);
}

-- an image with the site's writes has them of one that is halted, whose log may have one header more
has_halted : {beside : KeptBeside} (a : Node) (p : ℕ) (n : Node) (disk : ℕ) (i : Image) → HasWrites beside n i → HasWrites (joins_in_doubt beside a p n disk) (halted_at n disk) i
has_halted {beside} a p n disk i has = record {
  count = has.count;
  least = has.least;
  most = has.most;
  found = record {
    held = has.found.held;
    has = has.found.has;
    needs = has.found.needs;
    found = found_below _ n.ring (state_with n beside.links) n.session (most_with beside n has.count) (most_with (joins_in_doubt beside a p n disk) (halted_at n disk) has.count) i has.found.held (omega arith) has.found.found;
  };
}

-- the same of one that came to the other line
has_anew : (beside : KeptBeside) (a : Node) (p : ℕ) (n : Node) (disk : ℕ) (i : Image) → HasWrites (sure_of (joined_anew beside a p n)) (joined a p n) i
    → HasWrites (sure_of (record (joined_anew beside a p n) { node = halted_at (joined a p n) disk })) (halted_at (joined a p n) disk) i
has_anew beside a p n disk i has = record { count = has.count; least = has.least; most = has.most; found = has.found }

-- the header is all that it writes
pub none_applied : {beside : KeptBeside} (n : Node) (c : Core) (m : Meaning) → IsUpAt beside n c m → CanJoin beside n → AppliesNone (Some 0) c
none_applied {beside} n c m up can = let all : last_of c ≤ c.applied = omega (arith, up.head, up.logged, ap (λ (xs : List Write). length xs) can.empty) in all

pub join_calls : (c : Core) (m new : Meaning) (r : Result (Unit {0}) No) → OnOk r (AppliesNone (Some 0) c → MakesCalls 2 m new) → OnOk r ((beside : KeptBeside) (n : Node) → IsUpAt beside n c m → CanJoin beside n → MakesCalls 2 m new)
join_calls c m new (Ok done) calls = λ beside n up can. calls (none_applied n c m up can)
join_calls c m new (Err why) calls = tt

module _ {beside : KeptBeside} (a : Node) (p : ℕ) (n : Node) (c : Core) (m : Meaning) (up : IsUpAt beside n c m) (can : CanJoin beside n) where
  none_safe : n.safe ≡ 0
  none_safe = omega (arith, up.logged, ap (λ (xs : List Write). length xs) can.empty)

  state_is : state_with (joined a p n) [] ≡ state_with (joined a p n) beside.links
  state_is = ap (λ (ls : List KeptLink). state_with (joined a p n) ls) (sym can.unlinked)

  held_last : (h : Holding) → HasLast c.log.ring n.log n.base h → HasLast c.log.ring [] n.base (kept_in (emptied_core c a p n) h)
  held_last h has = none_kept c.log.ring n.log n h has

  -- an image behind the new header
  anew_found : (i : Image) (told : IsTrue m.tells) → FoundAs (emptied_core c a p n) i (kept_in (emptied_core c a p n) (up.content can.running told).held) → HasWrites (sure_of (joined_anew beside a p n)) (joined a p n) i
  anew_found i told found =
      let stood = up.content can.running told in
      writes_found (joined a p n) (emptied_core c a p n) i up.units up.ring state_is up.session (let t = up.stamp told can.running in omega (arith, t, none_safe)) refl
      (record { held = kept_in (emptied_core c a p n) stood.held; has = held_last stood.held stood.has; needs = none_of [] 0 refl; found = found })

  -- an image in the call has the site as it was or on the other line
  saving_either : (i : Image) (told : IsTrue m.tells) → Saving c (emptied_core c a p n) m i → HasWrites beside n i ⊎ HasWrites (sure_of (joined_anew beside a p n)) (joined a p n) i
  saving_either i told saving =
      let stood = up.content can.running told in
      ⊎_elim
      (λ old. inl (up_found n c m i up can.running told (record { held = stood.held; has = stood.has; needs = stood.needs; found = old })))
      (λ next. inr (anew_found i told next))
      (saving.each stood.held stood.stands)

module _ {beside : KeptBeside} (a : Node) (p : ℕ) (n : Node) (c c' : Core) (m new : Meaning) (up : IsUpAt beside n c m) (can : CanJoin beside n) (lawful : Lawful m) (after : Lawful new)
    (moves : Moves (change_blocks (Some 0) c m) (Saving c (emptied_core c a p n) m) m new) where
  abbrev blocks : Blocks
  blocks = change_blocks (Some 0) c m

  fuse_here : FuseOn (burned n.fuse) new
  fuse_here = fuse_moved n.fuse blocks (Saving c (emptied_core c a p n) m) m new moves up.fuse

  lies_here : LiesOn n new
  lies_here = lies_moved n blocks (Saving c (emptied_core c a p n) m) m new moves up.lies

  either_left : (disk : ℕ) (i : Image) → new.now i → HasSite (joins_in_doubt beside a p n disk) (halted_at n disk) i
  either_left disk i now =
      let told : IsTrue m.tells = sym moves.tells ∙ told_now new i after now in
      ⊎_elim
      (λ was. inl (has_halted a p n disk i (site_sure n i (up.sure can.running) (up.left i was))))
      (λ saving. ⊎_elim (λ old. inl (has_halted a p n disk i old)) (λ next. inr (has_anew beside a p n disk i next)) (saving_either a p n c m up can i told saving))
      (left_moved blocks (Saving c (emptied_core c a p n) m) m new i lawful after moves now)

  may_here : (disk : ℕ) → MayBe (record (joined_anew beside a p n) { node = halted_at (joined a p n) disk }) new
  may_here disk = record { state = up.state; lies = lies_here; low = refl; logged = omega arith; begun = λ told. up.begun (sym moves.tells ∙ told) }

  may_be : (disk : ℕ) (k : KeptSite) → (joins_in_doubt beside a p n disk).doubt ≡ Some k → MayBe k new
  may_be disk k is = subst (λ (x : KeptSite). MayBe x new) (some_same is) (may_here disk)

  -- its fuse ran out
  pub join_cut : IsTrue new.down → IsFused n.fuse × IsHeldAt (joins_in_doubt beside a p n 0) (halted_at n 0) new
  join_cut down = (
    fused_by n.fuse blocks (Saving c (emptied_core c a p n) m) m new moves up.fuse up.up down,
    record { lies = lies_here; low = up.low; logged = up.logged; begun = λ told. up.begun (sym moves.tells ∙ told); left = either_left 0; may = may_be 0 },
  )

  module _ (still : IsFalse new.down) (unit_is : c'.log.unit ≡ c'.units.srl) (place : c.log.unit ≡ c.units.srl) (rack : IsRack m) (runs : c.log.header.run ≤ c.log.header.stamp) where
    -- it stands on the other line
    joined_up : c' ≡ emptied_core c a p n → Retains c c' m new → IsReceiverAt (sure_of (joined_anew beside a p n)) (worked (joined a p n)) c' [] new
    joined_up is retains = subst (λ (k : Core). Retains c k m new → k.log.unit ≡ k.units.srl → IsReceiverAt (sure_of (joined_anew beside a p n)) (worked (joined a p n)) k [] new) (sym is) (λ rests unit. by rests unit) retains unit_is
      where
        stood_anew : Retains c (emptied_core c a p n) m new → IsTrue new.tells → StandsHolding (emptied_core c a p n) [] n.base new
        stood_anew rests told =
            let stood = up.content can.running (sym moves.tells ∙ told) in
            record { held = kept_in (emptied_core c a p n) stood.held; has = held_last a p n c m up can stood.held stood.has; needs = none_of [] 0 refl; stands = rests.each stood.held stood.stands }

        by : Retains c (emptied_core c a p n) m new → c.log.unit ≡ c.units.srl → IsReceiverAt (sure_of (joined_anew beside a p n)) (worked (joined a p n)) (emptied_core c a p n) [] new
        by rests unit = record {
          state = up.state;
          role = refl;
          up = still;
          fuse = fuse_here;
          lies = lies_here;
          low = refl;
          units = up.units;
          ring = up.ring;
          found = [];
          kept = refl;
          linked = λ told. sym can.unlinked;
          session = up.session;
          begun = λ told. up.begun (sym moves.tells ∙ told);
          stamp = λ told none. let t = up.stamp (sym moves.tells ∙ told) can.running in omega (arith, t, none_safe a p n c m up can);
          first = omega arith;
          least = omega arith;
          most = omega arith;
          head = λ none. refl;
          halted = up.halted;
          waits = refl;
          takes = λ none. none_taken (emptied_core c a p n).log refl;
          content = λ none told. stood_anew rests told;
          left = λ i now.
              let told = told_now new i after now in
              let has : HasWrites (sure_of (joined_anew beside a p n)) (joined a p n) i =
              writes_found (joined a p n) (emptied_core c a p n) i up.units up.ring (state_is a p n c m up can) up.session
              (let t = up.stamp (sym moves.tells ∙ told) can.running in omega (arith, t, none_safe a p n c m up can)) refl
              (stands_with (emptied_core c a p n) [] n.base new i unit after (stood_anew rests told) now) in
              inl (record { count = has.count; least = has.least; most = has.most; found = has.found });
          sure = λ none. refl;
          may = never_besides None new refl;
        }

    -- or a disk failed
    join_halted : (disk : ℕ) → c'.units ≡ c.units → c'.log.ring ≡ c.log.ring → c'.log.header ≡ c.log.header → c'.log.held ≡ c.log.held → c'.halted ≡ Some disk → IsUpAt (joins_in_doubt beside a p n disk) (halted_at n disk) c' new
    join_halted disk units ring header held halted = record {
      state = up.state;
      up = still;
      fuse = fuse_here;
      lies = lies_here;
      low = up.low;
      units = units ∙ up.units;
      ring = ring ∙ up.ring;
      found = up.found;
      kept = ap (λ (h : Header). h.state) header ∙ up.kept;
      linked = λ told. up.linked (sym moves.tells ∙ told);
      session = ap (λ (h : Header). h.incarnation) header ∙ up.session;
      begun = λ told. up.begun (sym moves.tells ∙ told);
      stamp = λ told none. absurd (never none);
      fresh = λ origin told none. absurd (never none);
      first = omega (arith, up.first, ap (λ (h : Header). h.low) header);
      head = omega (arith, up.head, ap (λ (h : Header). h.low) header, ap (λ (ks : List KeptRecord). length ks) held);
      halted = halted;
      logged = up.logged;
      durable = λ none. absurd (never none);
      takes = λ none. absurd (never none);
      content = λ none. absurd (never none);
      left = either_left disk;
      sure = λ none. absurd (never none);
      may = may_be disk;
    }
      where
        never : {k : ℕ} → Some k ≡ None → ⊥
        never e = cc

    by_fault : (d : Core) (why : No) → d.units ≡ c.units → d.log ≡ c.log → BlamesUnit m.disks c.log.unit why → GroupFails d m new c' why → JoinedAs beside a p n m c' new (Err why)
    by_fault d (Device disk) units log blames fails = (
      join_halted disk (fails.0.units ∙ units) (fails.0.ring ∙ ap (λ (l : Log). l.ring) log) (fails.0.header ∙ ap (λ (l : Log). l.header) log) (fails.0.held ∙ ap (λ (l : Log). l.held) log) fails.0.halted_is,
      fails.1,
      log_disk n c m disk up.units place (λ none. disks_are m rack) blames,
    )
    by_fault d IsOff units log blames fails = absurd (never_both new.down fails.1 still)
    by_fault d (Limit what most) units log blames fails = absurd fails
    by_fault d other units log blames fails = fails

    full_stamp : (stamp run most : ℕ) → 0 < most → (ltb stamp most && (ltb run most && ltb 0 most)) ≡ false → run ≤ stamp → most ≤ stamp
    full_stamp stamp run most some full le = grind (arith, nat_tests)

    by_refusal : (b : Bool) → can_restart c.log 0 ≡ b → (result : Result (Unit {0}) No) → RestartIs (if b then None else Some no_number) c (emptied_core c a p n) m new c' result
        → (IsSome (if b then None else Some no_number) → new ≡ m) → OnOk result (Retains c c' m new) → IfErr result (BlamesUnit m.disks c.log.unit) → JoinedAs beside a p n m c' new result
    by_refusal false full (Ok done) is unchanged rests blames = absurd (let e : Ok done ≡ Err no_number = is.0 in cc)
    by_refusal false full (Err why) is unchanged rests blames =
        let same : why ≡ no_number = (let e : Err why ≡ Err no_number = is.0 in cc) in
        let stays : new ≡ m = unchanged refl in
        let past : most_number ≤ c.log.header.stamp = full_stamp c.log.header.stamp c.log.header.run most_number (omega arith) full runs in
        subst (λ (k : No). JoinedAs beside a p n m c' new (Err k)) (sym same) (
          refl,
          (λ told. let t = up.stamp (sym moves.tells ∙ told) can.running in omega (arith, t, past)),
          subst (λ (k : Core). IsUpAt beside n k new) (sym is.1) (subst (λ (k : Meaning). IsUpAt beside n c k) (sym stays) up),
        )
    by_refusal true some (Ok done) is unchanged rests blames = joined_up is.0 rests
    by_refusal true some (Err why) is unchanged rests blames = ⊎_elim (λ one. by_fault c why refl refl blames one) (λ other. by_fault _ why refl refl blames other.1) is

    -- what a change of the line answers
    pub joined_as : (result : Result (Unit {0}) No) → RestartIs (restart_refusal c 0) c (emptied_core c a p n) m new c' result → (IsSome (restart_refusal c 0) → new ≡ m) → OnOk result (Retains c c' m new)
        → IfErr result (BlamesUnit m.disks c.log.unit) → JoinedAs beside a p n m c' new result
    joined_as result is unchanged rests blames =
        let runs_on : c.halted ≡ None = up.halted ∙ can.running in
        by_refusal (can_restart c.log 0) refl result
        (subst (λ (h : Option ℕ). RestartIs (halted_or h (if can_restart c.log 0 then None else Some no_number)) c (emptied_core c a p n) m new c' result) runs_on is)
        (subst (λ (h : Option ℕ). IsSome (halted_or h (if can_restart c.log 0 then None else Some no_number)) → new ≡ m) runs_on unchanged) rests blames
