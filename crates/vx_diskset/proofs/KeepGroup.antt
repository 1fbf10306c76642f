-- What a state that is made durable leaves of a site that is up.
use Rattle.std.proofs.Common.{◌≡◌, ◌∙◌, ◌⊎◌, inl, inr, ⊎_elim, ◌+◌, ◌-◌, ◌≤◌, ℕ, Bool, true, false, List, length, ap, sym, subst, refl, arith, IsTrue}
use Rattle.std.specs.Prelude.{IsFalse, Option, Some, None, Result, Ok, Err, IfErr, OnOk, IsSome, leb, slice_get, if◌then◌else◌}
use Rattle.std.proofs.lemmas.Bool.Decides.{nat_tests}
use Rattle.vx_model.specs.declared.no.No.{No}
use Rattle.vx_model.specs.declared.no.No.TheVariants.{Device, Limit, Down as IsOff}
use Rattle.vx_model.specs.declared.state.KeptLink.{KeptLink}
use Rattle.vx_model.specs.declared.state.State.{State}
use Rattle.vx_history.specs.Steps.{burned, worked}
use Rattle.vx_history.specs.Stops.{IsFused}
use Rattle.vx_history.specs.World.{Node}
use Rattle.vx_srlfmt.specs.declared.header.Header.{Header}
use Rattle.vx_disk.specs.Causes.{BlamesUnit}
use Rattle.vx_srl.specs.Views.{most_number}
use Rattle.vx_srl.specs.declared.kept.Kept.{Kept as KeptRecord}
use Rattle.vx_disk.specs.Moves.{Moves, Run}
use Rattle.vx_disk.specs.Racks.{IsRack}
use Rattle.vx_disk.specs.Shelf.{Image, Lawful, Meaning}
use Rattle.vx_rvg.specs.Groups.{Ended, halted_or}
use Rattle.vx_rvg.specs.Holdings.{Holding}
use Rattle.vx_rvg.specs.Saves.{SaveIs, change_refusal, with_new_state}
use Rattle.vx_rvg.specs.Stands.{FoundAs, Retains, Saving, Stands}
use Rattle.vx_rvg.specs.Views.{Core}
use Rattle.vx_rvg.proofs.ContentFacts.{kept_all}
use Rattle.vx_events.proofs.Places.{some_same}
use Rattle.vx_disk.specs.declared.shelf.Shelf.{Ghosts}
use Rattle.vx_rvg.specs.declared.group.Rvg.{Rvg}
use Rattle.vx_diskset.specs.declared.disk_set.DiskSet.{DiskSet}
use Rattle.vx_diskset.specs.declared.disk_set.DiskSet.TheVariants.{Up}
use Rattle.vx_diskset.specs.DiskSets.{CrashedAt, halted_at, no_number}
use Rattle.vx_diskset.specs.Fuses.{FuseOn}
use Rattle.vx_grouped.specs.SiteEnds.{is_off}
use Rattle.vx_diskset.specs.Holds.{KeptBeside, HasSite, HasWrites, KeptSite, MayBe, most_with, state_with, sure_of}
use Rattle.vx_diskset.specs.Keeps.{CanKeep, KeptAt, KeptUp, doubting, kept_anew, restated}
use Rattle.vx_diskset.specs.Lasts.{StandsHolding}
use Rattle.vx_diskset.specs.Layouts.{LiesOn}
use Rattle.vx_diskset.specs.Needs.{NoneNeeds, hold_of, is_needing}
use Rattle.vx_diskset.specs.Stands.{CutAt, IsHeldAt, IsUpAt, IsUngrouped}
use Rattle.vx_diskset.specs.Shelves.{KeptAs}
use Rattle.vx_diskset.proofs.Blamed.{disks_are}
use Rattle.vx_diskset.proofs.BesideLemmas.{never_besides, site_sure}
use Rattle.vx_diskset.proofs.Laying.{lies_moved}
use Rattle.vx_diskset.proofs.LogDisks.{log_disk}
use Rattle.vx_diskset.proofs.LastWrites.{stands_with}
use Rattle.vx_diskset.proofs.NeedLemmas.{takes_same}
use Rattle.vx_diskset.proofs.StaysUp.{found_below, fuse_moved, fused_by, kept_whole, left_moved, never_both, told_now, up_found, writes_found}
use Rattle.vx_diskset.proofs.RawSets.{raw_sure, raw_doubting}

-- an image with the site's writes has them of one that is halted, whose log may have one header more
has_halted : {beside : KeptBeside} (n : Node) (s : State) (disk : ℕ) (i : Image) → HasWrites beside n i → HasWrites (doubting beside n s disk) (halted_at n disk) i
has_halted {beside} n s disk i has = record {
  count = has.count;
  least = has.least;
  most = has.most;
  found = record {
    held = has.found.held;
    has = has.found.has;
    needs = has.found.needs;
    found = found_below _ n.ring (state_with n beside.links) n.session (most_with beside n has.count) (most_with (doubting beside n s disk) (halted_at n disk) has.count) i has.found.held (omega arith) has.found.found;
  };
}

-- the same of one with the new state
has_anew : (beside : KeptBeside) (n : Node) (s : State) (disk : ℕ) (i : Image) → HasWrites (sure_of (kept_anew beside n s)) (restated n s) i → HasWrites (sure_of (record (kept_anew beside n s) { node = halted_at (restated n s) disk })) (halted_at (restated n s) disk) i
has_anew beside n s disk i has = record { count = has.count; least = has.least; most = has.most; found = has.found }

module _ {beside : KeptBeside} (n : Node) (c : Core) (m : Meaning) (s : State) (up : IsUpAt beside n c m) (can : CanKeep beside n s) where
  many : length n.log ≡ n.safe
  many = omega (arith, up.logged, up.durable can.running)

  -- its log has all that the links of the state need
  needs_anew : (told : IsTrue m.tells) → NoneNeeds s.links ((up.content can.running told).held.low - 1)
  needs_anew told =
      let stood = up.content can.running told in
      let old : NoneNeeds beside.links (stood.held.low - 1) = subst (λ (ls : List KeptLink). NoneNeeds ls (stood.held.low - 1)) (ap (λ (x : State). x.links) (kept_whole n c m up told)) stood.needs in
      record {
        each = λ k l there needing. ⊎_elim
            (λ (far : n.safe ≤ hold_of l). omega (arith, far, stood.has.last, many))
            (λ (near : (j : ℕ) × ((o : KeptLink) × ((slice_get beside.links j ≡ Some o) × ((is_needing o ≡ true) × (hold_of o ≤ hold_of l))))).
            let one = old.each near.0 near.1.0 near.1.1.0 near.1.1.1.0 in omega (arith, one, near.1.1.1.1))
            (can.needs k l there needing);
      }

  -- an image behind the new header
  anew_found : (i : Image) (told : IsTrue m.tells) → FoundAs (with_new_state c s) i (up.content can.running told).held → HasWrites (sure_of (kept_anew beside n s)) (restated n s) i
  anew_found i told found =
      let stood = up.content can.running told in
      writes_found (restated n s) (with_new_state c s) i up.units up.ring refl up.session (let t = up.stamp told can.running in omega (arith, t)) many
      (record { held = stood.held; has = stood.has; needs = needs_anew told; found = found })

  -- an image in the call has the site with the old state or the new one
  saving_either : (i : Image) (told : IsTrue m.tells) → Saving c (with_new_state c s) m i → HasWrites beside n i ⊎ HasWrites (sure_of (kept_anew beside n s)) (restated n s) i
  saving_either i told saving =
      let stood = up.content can.running told in
      ⊎_elim
      (λ old. inl (up_found n c m i up can.running told (record { held = stood.held; has = stood.has; needs = stood.needs; found = old })))
      (λ next. inr (anew_found i told (subst (λ (h : Holding). FoundAs (with_new_state c s) i h) (kept_all c stood.held m stood.stands) next)))
      (saving.each stood.held stood.stands)

module _ {beside : KeptBeside} (n : Node) (c c' : Core) (m new : Meaning) (s : State) (up : IsUpAt beside n c m) (can : CanKeep beside n s) (lawful : Lawful m) (after : Lawful new)
    (moves : Moves (Run c.units.srl 0 (c.log.ring + 2)) (Saving c (with_new_state c s) m) m new) where
  fuse_here : FuseOn (burned n.fuse) new
  fuse_here = fuse_moved n.fuse (Run c.units.srl 0 (c.log.ring + 2)) (Saving c (with_new_state c s) m) m new moves up.fuse

  lies_here : LiesOn n new
  lies_here = lies_moved n (Run c.units.srl 0 (c.log.ring + 2)) (Saving c (with_new_state c s) m) m new moves up.lies

  either_left : (disk : ℕ) (i : Image) → new.now i → HasSite (doubting beside n s disk) (halted_at n disk) i
  either_left disk i now =
      let told : IsTrue m.tells = sym moves.tells ∙ told_now new i after now in
      ⊎_elim
      (λ was. inl (has_halted n s disk i (site_sure n i (up.sure can.running) (up.left i was))))
      (λ saving. ⊎_elim (λ old. inl (has_halted n s disk i old)) (λ next. inr (has_anew beside n s disk i next)) (saving_either n c m s up can i told saving))
      (left_moved (Run c.units.srl 0 (c.log.ring + 2)) (Saving c (with_new_state c s) m) m new i lawful after moves now)

  may_here : (disk : ℕ) → MayBe (record (kept_anew beside n s) { node = halted_at (restated n s) disk }) new
  may_here disk = record { state = up.state; lies = lies_here; low = up.low; logged = up.logged; begun = λ told. up.begun (sym moves.tells ∙ told) }

  may_be : (disk : ℕ) (k : KeptSite) → (doubting beside n s disk).doubt ≡ Some k → MayBe k new
  may_be disk k is = subst (λ (x : KeptSite). MayBe x new) (some_same is) (may_here disk)

  -- its fuse ran out
  pub keep_cut : IsTrue new.down → IsFused n.fuse × IsHeldAt (doubting beside n s 0) (halted_at n 0) new
  keep_cut down = (
    fused_by n.fuse (Run c.units.srl 0 (c.log.ring + 2)) (Saving c (with_new_state c s) m) m new moves up.fuse up.up down,
    record { lies = lies_here; low = up.low; logged = up.logged; begun = λ told. up.begun (sym moves.tells ∙ told); left = either_left 0; may = may_be 0 },
  )

  module _ (still : IsFalse new.down) (unit_is : c'.log.unit ≡ c'.units.srl) (place : c.log.unit ≡ c.units.srl) where
    -- the state is durable
    kept_up : c' ≡ with_new_state c s → Retains c c' m new → IsUpAt (sure_of (kept_anew beside n s)) (worked (restated n s)) c' new
    kept_up is retains = subst (λ (k : Core). Retains c k m new → k.log.unit ≡ k.units.srl → IsUpAt (sure_of (kept_anew beside n s)) (worked (restated n s)) k new) (sym is) (λ rests unit. by rests unit) retains unit_is
      where
        stood_anew : Retains c (with_new_state c s) m new → IsTrue new.tells → StandsHolding (with_new_state c s) n.log n.base new
        stood_anew rests told =
            let before : IsTrue m.tells = sym moves.tells ∙ told in
            let stood = up.content can.running before in
            record {
              held = stood.held;
              has = stood.has;
              needs = needs_anew n c m s up can before;
              stands = subst (λ (h : Holding). Stands (with_new_state c s) h new) (kept_all c stood.held m stood.stands) (rests.each stood.held stood.stands);
            }

        by : Retains c (with_new_state c s) m new → c.log.unit ≡ c.units.srl → IsUpAt (sure_of (kept_anew beside n s)) (worked (restated n s)) (with_new_state c s) new
        by rests unit = record {
          state = up.state;
          up = still;
          fuse = fuse_here;
          lies = lies_here;
          low = up.low;
          units = up.units;
          ring = up.ring;
          found = s.links;
          kept = refl;
          linked = λ told. refl;
          session = up.session;
          begun = λ told. up.begun (sym moves.tells ∙ told);
          stamp = λ told none. let t = up.stamp (sym moves.tells ∙ told) can.running in omega (arith, t);
          fresh = λ origin told none one room. let f = up.fresh (sym can.role ∙ origin) (sym moves.tells ∙ told) can.running one room in record { place = f.place; widths_are = f.widths_are };
          first = up.first;
          head = up.head;
          halted = up.halted;
          logged = up.logged;
          durable = λ none. up.durable can.running;
          takes = λ none. takes_same c.log (with_new_state c s).log n.log refl refl (up.takes can.running);
          content = λ none told. stood_anew rests told;
          left = λ i now.
              let told = told_now new i after now in
              let has : HasWrites (sure_of (kept_anew beside n s)) (restated n s) i =
              writes_found (restated n s) (with_new_state c s) i up.units up.ring refl up.session (let t = up.stamp (sym moves.tells ∙ told) can.running in omega (arith, t)) (many n c m s up can)
              (stands_with (with_new_state c s) n.log n.base new i unit after (stood_anew rests told) now) in
              inl (record { count = has.count; least = has.least; most = has.most; found = has.found });
          sure = λ none. refl;
          may = never_besides None new refl;
        }

    -- or a disk failed
    kept_halted : (disk : ℕ) → Ended c (Some disk) c' → IsUpAt (doubting beside n s disk) (halted_at n disk) c' new
    kept_halted disk ended = record {
      state = up.state;
      up = still;
      fuse = fuse_here;
      lies = lies_here;
      low = up.low;
      units = ended.units ∙ up.units;
      ring = ended.ring ∙ up.ring;
      found = up.found;
      kept = ap (λ (h : Header). h.state) ended.header ∙ up.kept;
      linked = λ told. up.linked (sym moves.tells ∙ told);
      session = ap (λ (h : Header). h.incarnation) ended.header ∙ up.session;
      begun = λ told. up.begun (sym moves.tells ∙ told);
      stamp = λ told none. absurd (never none);
      fresh = λ origin told none. absurd (never none);
      first = omega (arith, up.first, ap (λ (h : Header). h.low) ended.header);
      head = omega (arith, up.head, ap (λ (h : Header). h.low) ended.header, ap (λ (ks : List KeptRecord). length ks) ended.held);
      halted = ended.halted_is;
      logged = up.logged;
      durable = λ none. absurd (never none);
      takes = λ none. absurd (never none);
      content = λ none. absurd (never none);
      left = either_left disk;
      sure = λ none. absurd (never none);
      may = may_be disk;
    }
      where
        never : {k : ℕ} → Some k ≡ None → ⊥
        never e = cc

    by_refusal : (b : Bool) → leb most_number c.log.header.stamp ≡ b → (result : Result (Unit {0}) No) → SaveIs (if b then Some no_number else None) c (with_new_state c s) m new c' result
        → (IsSome (if b then Some no_number else None) → new ≡ m) → OnOk result (Retains c c' m new) → IfErr result (BlamesUnit m.disks c.log.unit) → KeptAs beside n s m c' new result
    by_refusal true full (Ok done) is unchanged rests blames = absurd (let e : Ok done ≡ Err no_number = is.0 in cc)
    by_refusal true full (Err why) is unchanged rests blames =
        let same : why ≡ no_number = (let e : Err why ≡ Err no_number = is.0 in cc) in
        let stays : new ≡ m = unchanged refl in
        let past : most_number ≤ c.log.header.stamp = grind (arith, nat_tests) in
        subst (λ (k : No). KeptAs beside n s m c' new (Err k)) (sym same) (
          refl,
          (λ told. let t = up.stamp (sym moves.tells ∙ told) can.running in omega (arith, t, past)),
          subst (λ (k : Core). IsUpAt beside n k new) (sym is.1) (subst (λ (k : Meaning). IsUpAt beside n c k) (sym stays) up),
        )
    by_refusal false some (Ok done) is unchanged rests blames = kept_up is rests
    by_refusal false some (Err (Device disk)) is unchanged rests blames = (kept_halted disk is.0, is.1, λ rack. log_disk n c m disk up.units place rack blames)
    by_refusal false some (Err IsOff) is unchanged rests blames = absurd (never_both new.down is.1 still)
    by_refusal false some (Err (Limit what most)) is unchanged rests blames = absurd is
    by_refusal false some (Err other) is unchanged rests blames = is

    -- what a state that is set answers
    pub kept_as : (result : Result (Unit {0}) No) → SaveIs (change_refusal c) c (with_new_state c s) m new c' result → (IsSome (change_refusal c) → new ≡ m) → OnOk result (Retains c c' m new)
        → IfErr result (BlamesUnit m.disks c.log.unit) → KeptAs beside n s m c' new result
    kept_as result is unchanged rests blames =
        let runs : c.halted ≡ None = up.halted ∙ can.running in
        by_refusal (leb most_number c.log.header.stamp) refl result
        (subst (λ (h : Option ℕ). SaveIs (halted_or h (if leb most_number c.log.header.stamp then Some no_number else None)) c (with_new_state c s) m new c' result) runs is)
        (subst (λ (h : Option ℕ). IsSome (halted_or h (if leb most_number c.log.header.stamp then Some no_number else None)) → new ≡ m) runs unchanged) rests blames

module _ {R : Type 0} {g : Ghosts R} where
  pub kept_at : (beside : KeptBeside) (n : Node) (s : State) (old new : Rvg R g) (result : Result (Unit {0}) No) → IsUngrouped beside n → IsRack (g.meaning old.shelf) → KeptAs beside n s (g.meaning old.shelf) new.core (g.meaning new.shelf) result → KeptUp beside n s (Up old) (Up new) result
  kept_at beside n s old new (Ok done) raw rack is = (raw_sure (kept_anew beside n s) (worked (restated n s)) raw.0, is)
  kept_at beside n s old new (Err (Device disk)) raw rack is = ((raw_doubting beside n s disk raw.0, is.0), is.1, is.2 (λ none. disks_are (g.meaning old.shelf) rack))
  kept_at beside n s old new (Err (Limit what most)) raw rack is = (is.0, is.1, (raw, is.2))
  kept_at beside n s old new (Err IsOff) raw rack is = (is.0, (raw_doubting beside n s 0 raw.0, is.1))
  kept_at beside n s old new (Err other) raw rack is = is

  -- a state whose keeping the fuse cut, and the crash behind it
  pub kept_off : (beside : KeptBeside) (n : Node) (s : State) (old mid new : DiskSet R g) (why : No) → is_off why ≡ true → KeptUp beside n s old mid (Err why) → (CutAt (doubting beside n s 0) (halted_at n 0) mid → CrashedAt (doubting beside n s 0) (halted_at n 0) new)
      → KeptAt beside n s old new (Err why)
  kept_off beside n s old mid new IsOff off is falls = (is.0, falls is.1)
  kept_off beside n s old mid new other off is falls = absurd (cc)

  pub kept_on : (beside : KeptBeside) (n : Node) (s : State) (old new : DiskSet R g) (why : No) → is_off why ≡ false → KeptUp beside n s old new (Err why) → KeptAt beside n s old new (Err why)
  kept_on beside n s old new IsOff off is = absurd (cc)
  kept_on beside n s old new (Device disk) off is = is
  kept_on beside n s old new (Limit what most) off is = is
  kept_on beside n s old new other off is = is
