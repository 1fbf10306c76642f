-- A group over a call that empties its log, all of whose writes are in the volumes.
use Rattle.std.proofs.Common.{◌≡◌, ◌⊎◌, inl, inr, ℕ, ◌+◌, ◌-◌, ◌<◌, ◌≤◌, ◌&&◌, true, List, [], length, drop, ltb, refl, sym, ◌∙◌, ap, subst, arith}
use Rattle.std.proofs.lemmas.Bool.Decides.{nat_tests}
use Rattle.std.proofs.lemmas.List.{drop_all, nil_from_length}
use Rattle.std.proofs.lemmas.List.Elements.{All-nil}
use Rattle.vx_model.specs.Content.{Content, Write}
use Rattle.vx_model.specs.declared.no.No.{No}
use Rattle.vx_model.specs.declared.state.State.{State as SiteState}
use Rattle.vx_srlfmt.specs.declared.header.Header.{Header}
use Rattle.vx_disk.specs.Moves.{Beside, Moves, Run, Says}
use Rattle.vx_disk.specs.Shelf.{Image, Keeps, Meaning}
use Rattle.vx_disk.proofs.Moving.{kept_beside, seen_beside, wider}
use Rattle.vx_overlay.specs.declared.entry.Entry.{Entry}
use Rattle.vx_overlay.specs.Pending.{newest}
use Rattle.vx_overlay.specs.Writes.{entries_of}
use Rattle.vx_ringlog.specs.Chain.{Recovers}
use Rattle.vx_ringlog.specs.Logs.{State, Found as LogFound, behind_call}
use Rattle.vx_ringlog.specs.Records.{Record}
use Rattle.vx_ringio.specs.Classes.{classes}
use Rattle.vx_srl.specs.Calls.{can_restart, restarted_log, restarting}
use Rattle.vx_disk.specs.Causes.{DeviceCause}
use Rattle.vx_srl.specs.Headers.{emptied_header}
use Rattle.vx_srl.specs.Rings.{Finding, RingGoes, LeadsTo}
use Rattle.vx_srl.specs.Views.{Log, most_number}
use Rattle.vx_srl.specs.declared.kept.Kept.{Kept}
use Rattle.vx_rvg.specs.Contents.{HasContent, writes_of}
use Rattle.vx_rvg.specs.Groups.{core_halted}
use Rattle.vx_rvg.specs.Saves.{with_restart}
use Rattle.vx_rvg.specs.Holdings.{Holding, kept_in}
use Rattle.vx_rvg.specs.Stands.{FoundAs, HasMaps, IsWholeRecord, Ready, Retains, Saving, Stands}
use Rattle.vx_rvg.specs.Views.{Core, IsSound, applied_count, blocks_within, last_of, unit_of, volume_size}
use Rattle.vx_rvg.proofs.ContentFacts.{found_as, has_content_beside, has_maps_beside, maps_beside, maps_moved, no_more, volumes_beside}
use Rattle.vx_rvg.proofs.WriteSound.{SameSizes, failed_sound, lies_same, loaded_same, moved_sizes, placed_same}

-- a stamp, a run and a number are left
can_parts : (l : Log) (head : ℕ) → can_restart l head ≡ true → (l.header.stamp < most_number) × (l.header.run < most_number) × (head < most_number)
can_parts l head can = three l.header.stamp l.header.run head most_number can
  where
    three : (a b c n : ℕ) → (ltb a n && (ltb b n && ltb c n)) ≡ true → (a < n) × (b < n) × (c < n)
    three a b c n is = (grind (arith, nat_tests), grind (arith, nat_tests), grind (arith, nat_tests))

pub can_at : (v core : Core) → v ≡ core → (head : ℕ) → can_restart core.log head ≡ true → (v.log.header.stamp < most_number) × (v.log.header.run < most_number) × (head < most_number)
can_at v core same head can = can_parts v.log head (subst (λ (k : Core). can_restart k.log head ≡ true) (sym same) can)

module _ (core : Core) (state : SiteState) (head : ℕ) (all : last_of core ≤ core.applied) (some : 0 < core.log.header.low) (m : Meaning) (sound : IsSound core m) where
  abbrev g : Header
  g = emptied_header core.log state head

  abbrev after : Core
  after = with_restart core state head

  none_left : drop (applied_count core) core.log.held ≡ []
  none_left = drop_all (applied_count core) core.log.held (omega (arith, all, some))

  -- nothing waits
  pub none_wait : core.pending.entries ≡ []
  none_wait = nil_from_length core.pending.entries (sound.waiting ∙ ap (λ (ks : List Kept). blocks_within (volume_size core.units.vols m) ks) none_left)

  pub empty_sound : (m' : Meaning) → SameSizes m m' → IsSound after m'
  empty_sound m' same = record {
    placed = placed_same core.units m m' same sound.placed;
    maps = loaded_same core.units core.maps m m' same sound.maps;
    log_unit = sound.log_unit;
    lies = lies_same core.log.unit core.log.ring m m' same sound.lies;
    idle = λ running up. refl;
    low = omega arith;
    known = omega arith;
    room = sound.room;
    waiting = sym (ap (λ (ks : List Kept). blocks_within (volume_size core.units.vols m') ks) (drop_all {X = Kept} (applied_count after) [] (omega arith)));
  }

  module _ (c : Content) (s : State) (ready : Ready core c s m) where
    beside : (v b : ℕ) → b < c.size v → Run core.log.unit 0 (core.log.ring + 2) (unit_of core.units.vols v) b → ⊥
    beside = volumes_beside core c m sound.placed sound.log_unit ready.sizes

    -- the volumes by themselves have the content
    settled : (v b : ℕ) → b < c.size v → Keeps m (unit_of core.units.vols v) b (c.block v b)
    settled v b low = ready.settled v b low (ap (λ (es : List Entry). newest es v b) none_wait)

    module _ (m' : Meaning) (P : Says) (moves : Moves (Run core.log.unit 0 (core.log.ring + 2)) P m m') where
      kept : (v b : ℕ) → b < c.size v → Keeps m' (unit_of core.units.vols v) b (c.block v b)
      kept v b low = kept_beside (Run core.log.unit 0 (core.log.ring + 2)) P m m' moves (unit_of core.units.vols v) b (beside v b low) (c.block v b) (settled v b low)

      empty_ready : LeadsTo core.log (restarting g) (restarted_log core.log g) m m' → Ready after c (behind_call core.log.ring s (restarting g s)) m'
      empty_ready leads = record {
        ring = leads.each s ready.ring;
        idle = refl;
        whole = All-nil IsWholeRecord;
        sizes = record { each = λ v low. ready.sizes.each v low ∙ sym (moves.size (unit_of core.units.vols v)); none = ready.sizes.none };
        content = record { each = λ v b low. kept v b low };
        waiting = ap (λ (rs : List Record). entries_of c.size (writes_of rs)) (sym (drop_all {X = Record} (applied_count after) [] (omega arith)));
        settled = λ v b low none. kept v b low;
      }

  -- ---- of whatever the group held

  module _ (h : Holding) (stands : Stands core h m) where
    abbrev s : State
    s = stands.log

    none_kept : [] ≡ drop (length h.writes - 0) h.writes
    none_kept = sym (drop_all (length h.writes - 0) h.writes (omega arith))

    empty_stands : (m' : Meaning) (P : Says) → Moves (Run core.log.unit 0 (core.log.ring + 2)) P m m' → LeadsTo core.log (restarting g) (restarted_log core.log g) m m' → Stands after (kept_in after h) m'
    empty_stands m' P moves leads = record {
      log = behind_call core.log.ring s (restarting g s);
      ready = empty_ready h.content s stands.ready m' P moves leads;
      low = refl;
      writes = none_kept;
      place = refl;
      maps = maps_moved (Run core.log.unit 0 (core.log.ring + 2)) P core.units h.maps m m' moves (maps_beside core m sound.placed sound.log_unit) stands.maps;
      marks = stands.marks;
    }

    module _ (i : Image) (aside : Beside (Run core.log.unit 0 (core.log.ring + 2)) m.leaves i) where
      old_has : HasContent core.units.vols h.content (writes_of s.held) i
      old_has = has_content_beside (Run core.log.unit 0 (core.log.ring + 2)) core.units.vols h.content (writes_of s.held) m i (beside h.content s stands.ready) stands.ready.content aside

      new_has : HasContent core.units.vols h.content [] i
      new_has = record {
        each = λ v b low.
            seen_beside (Run core.log.unit 0 (core.log.ring + 2)) m (unit_of core.units.vols v) b (beside h.content s stands.ready v b low) (h.content.block v b) i (settled h.content s stands.ready v b low) aside;
      }

      has_them : HasMaps core.units h.maps i
      has_them = has_maps_beside (Run core.log.unit 0 (core.log.ring + 2)) core.units h.maps m i (maps_beside core m sound.placed sound.log_unit) stands.maps aside

      found_new : Recovers core.log.ring (classes core.log.unit core.log.ring i) g [] → FoundAs after i (kept_in after h)
      found_new recovers = record {
        header = g;
        records = [];
        recovers = subst (λ (u : ℕ). Recovers core.log.ring (classes u core.log.ring i) g []) sound.log_unit recovers;
        state_is = refl;
        session_is = refl;
        stamp_most = omega arith;
        some = omega arith;
        low_is = refl;
        writes_are = none_kept;
        place_is = refl;
        content = subst (λ (ws : List Write). HasContent core.units.vols h.content ws i) none_kept new_has;
        maps = has_them;
      }

      empty_found : LogFound core.log.ring s (restarting g s) (classes core.log.unit core.log.ring i) → FoundAs core i h ⊎ FoundAs after i (kept_in after h)
      empty_found (inl old) =
          inl (found_as core h m i sound.log_unit stands (subst (λ (rs : List Record). Recovers core.log.ring (classes core.log.unit core.log.ring i) s.header rs) (no_more s.held s.staged old.0 stands.ready.idle) old.1) old_has has_them)
      empty_found (inr new) = inr (found_new new)

  pub empty_rests : (m' : Meaning) (P : Says) → Moves (Run core.log.unit 0 (core.log.ring + 2)) P m m' → LeadsTo core.log (restarting g) (restarted_log core.log g) m m' → Retains core after m m'
  empty_rests m' P moves leads = record { each = λ h stands. empty_stands h stands m' P moves leads }

  pub empty_moves : (m' : Meaning) → RingGoes core.log (restarting g) m m' → Moves (Run core.units.srl 0 (core.log.ring + 2)) (Saving core after m) m m'
  empty_moves m' goes =
      wider (Run core.log.unit 0 (core.log.ring + 2)) (Run core.units.srl 0 (core.log.ring + 2)) (Finding core.log (restarting g) m) (Saving core after m) m m' goes
      (λ u b is. record { there = is.there ∙ sound.log_unit; first = is.first; last = is.last })
      (λ i aside found. record { each = λ h stands. empty_found h stands i aside (found.each stands.log stands.ready.ring) })

-- ---- v is the group as the code has it

module _ (v core : Core) (same : v ≡ core) (state : SiteState) (head : ℕ) (all : last_of core ≤ core.applied) (some : 0 < v.log.header.low) (m : Meaning) (sound : IsSound core m) where
  all_here : last_of v ≤ v.applied
  all_here = subst (λ (k : Core). last_of k ≤ k.applied) (sym same) all

  sound_here : IsSound v m
  sound_here = subst (λ (k : Core). IsSound k m) (sym same) sound

  module _ (m' : Meaning) (goes : RingGoes v.log (restarting (emptied_header v.log state head)) m m') where
    pub emptied_moves : Moves (Run core.units.srl 0 (core.log.ring + 2)) (Saving core (with_restart core state head) m) m m'
    emptied_moves =
        subst (λ (k : Core). Moves (Run k.units.srl 0 (k.log.ring + 2)) (Saving k (with_restart k state head) m) m m') same (empty_moves v state head all_here some m sound_here m' goes)

    module _ (l' : Log) (is : l' ≡ restarted_log v.log (emptied_header v.log state head)) where
      made : record v { log = l'; applied = head } ≡ with_restart v state head
      made = λ i. record v { log = is i; pending = record v.pending { entries = none_wait v state head all_here some m sound_here i }; applied = head }

      pub emptied_is : record v { log = l'; applied = head } ≡ with_restart core state head
      emptied_is = made ∙ ap (λ (k : Core). with_restart k state head) same

      pub emptied_sound : IsSound (record v { log = l'; applied = head }) m'
      emptied_sound =
          subst (λ (k : Core). IsSound k m') (sym made)
          (empty_sound v state head all_here some m sound_here m' (moved_sizes (Run v.log.unit 0 (v.log.ring + 2)) (Finding v.log (restarting (emptied_header v.log state head)) m) m m' goes))

      pub emptied_rests : LeadsTo v.log (restarting (emptied_header v.log state head)) l' m m' → Retains core (record v { log = l'; applied = head }) m m'
      emptied_rests leads =
          subst (λ (k : Core). Retains k (record v { log = l'; applied = head }) m m') same
          (subst (λ (k : Core). Retains v k m m') (sym made)
          (empty_rests v state head all_here some m sound_here m' (Finding v.log (restarting (emptied_header v.log state head)) m) goes
          (subst (λ (l : Log). LeadsTo v.log (restarting (emptied_header v.log state head)) l m m') is leads)))

    -- a device call failed
    pub emptied_fails : (l' : Log) → l' ≡ v.log → (why : No) → DeviceCause m m' why → IsSound (core_halted why (record v { log = l' })) m'
    emptied_fails l' is why cause =
        failed_sound v l' m m' why (moved_sizes (Run v.log.unit 0 (v.log.ring + 2)) (Finding v.log (restarting (emptied_header v.log state head)) m) m m' goes) sound_here
        (record { unit = ap (λ (l : Log). l.unit) is; ring = ap (λ (l : Log). l.ring) is; header = ap (λ (l : Log). l.header) is; held = ap (λ (l : Log). l.held) is }) cause
