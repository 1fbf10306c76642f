-- A group over a call that writes a header of its log and gives up the first records, all of which are in the volumes.
use Rattle.std.proofs.Common.{◌≡◌, ◌⊎◌, inl, inr, ℕ, ◌+◌, ◌-◌, ◌<◌, ◌≤◌, List, length, drop, Option, Some, None, IsFalse, MatchOption, refl, sym, ◌∙◌, ap, subst, arith}
use Rattle.std.proofs.lemmas.List.{drop-drop, length-drop}
use Rattle.vx_model.specs.Content.{Content, Write}
use Rattle.vx_srlfmt.specs.declared.header.Header.{Header}
use Rattle.vx_disk.specs.Moves.{Says, Moves, Run, Beside}
use Rattle.vx_disk.specs.Shelf.{Meaning, Image, Keeps}
use Rattle.vx_disk.proofs.Moving.{kept_beside, wider}
use Rattle.vx_overlay.specs.declared.entry.Entry.{Entry}
use Rattle.vx_overlay.specs.Pending.{newest}
use Rattle.vx_overlay.specs.Writes.{newest_of, entries_of}
use Rattle.vx_overlay.proofs.WriteLemmas.{newest_drop, newest_drop_none, newest_entries}
use Rattle.vx_ringlog.specs.Chain.{Recovers}
use Rattle.vx_ringlog.specs.Logs.{State, Found as LogFound, behind_call}
use Rattle.vx_ringlog.specs.Records.{Record}
use Rattle.vx_ringio.specs.Classes.{classes}
use Rattle.vx_srl.specs.Calls.{saving, saved}
use Rattle.vx_srl.specs.Rings.{Finding, RingGoes, LeadsTo}
use Rattle.vx_srl.specs.declared.kept.Kept.{Kept}
use Rattle.vx_rvg.specs.Contents.{writes_of, HasContent, KeepsContent}
use Rattle.vx_rvg.specs.Holdings.{Holding, kept_in}
use Rattle.vx_rvg.specs.Stands.{FoundAs, HasMaps, Ready, Retains, Saving, Stands}
use Rattle.vx_rvg.specs.Views.{Core, IsSound, UnitsPlaced, applied_count, blocks_within, unit_of, volume_size}
use Rattle.vx_rvg.proofs.ContentFacts.{found_as, has_content_beside, has_maps_beside, maps_beside, maps_moved, no_more, recovers_low, stands_count, volumes_beside}
use Rattle.vx_rvg.proofs.ReadStands.{whole_writes, whole_drop, writes_drop}
use Rattle.vx_rvg.proofs.WriteSound.{SameSizes, applied_few, lies_same, loaded_same, placed_same, volume_same, within_same}

-- the group behind the call
abbrev pub after_save : Core → Header → ℕ → Core
after_save core g n = record core { log = saved core.log g n }

drop_rest : {X : Type 0} (xs : List X) (n a b : ℕ) → n + b ≡ a → drop b (drop n xs) ≡ drop a xs
drop_rest xs n a b is = drop-drop b n xs ∙ ap (λ (k : ℕ). drop k xs) is

module _ (core : Core) (g : Header) (n : ℕ) (low_is : g.low ≡ core.log.header.low + n) (fewer : n ≤ applied_count core) (some : 0 < core.log.header.low) where
  counts : n + applied_count (after_save core g n) ≡ applied_count core
  counts = omega (arith, low_is, fewer)

  pub save_sound : (m m' : Meaning) → SameSizes m m' → IsSound core m → (IsFalse m'.down → IsFalse m.down) → IsSound (after_save core g n) m'
  save_sound m m' same sound up =
      let few : applied_count core ≤ length core.log.held = applied_few core m sound some in
      record {
        placed = placed_same core.units m m' same sound.placed;
        maps = loaded_same core.units core.maps m m' same sound.maps;
        log_unit = sound.log_unit;
        lies = lies_same core.log.unit core.log.ring m m' same sound.lies;
        idle = λ running is. sound.idle running (up is);
        low = omega (arith, low_is, fewer, sound.low);
        known = omega (arith, low_is, fewer, few, sound.known, length-drop n core.log.held, some);
        room = sound.room;
        waiting = sound.waiting
            ∙ sym (within_same (volume_size core.units.vols m) (volume_size core.units.vols m') (volume_same core.units.vols m m' same) (drop (applied_count core) core.log.held))
            ∙ sym (ap (λ (ks : List Kept). blocks_within (volume_size core.units.vols m') ks) (drop_rest core.log.held n (applied_count core) (applied_count (after_save core g n)) counts));
      }

  module _ (c : Content) (m : Meaning) (s : State) (ready : Ready core c s m) (placed : UnitsPlaced core.units m) (unit_is : core.log.unit ≡ core.units.srl) (few : n ≤ length core.log.held) where
    rest_writes : writes_of (drop n s.held) ≡ drop n (writes_of s.held)
    rest_writes = writes_drop n s.held

    beside : (v b : ℕ) → b < c.size v → Run core.log.unit 0 (core.log.ring + 2) (unit_of core.units.vols v) b → ⊥
    beside = volumes_beside core c m placed unit_is ready.sizes

    -- a block that only the records which are given up put waits no longer
    waits_not : (v b : ℕ) → newest_of c.size (writes_of (drop n s.held)) v b ≡ None → newest core.pending.entries v b ≡ None
    waits_not v b none =
        let a : ℕ = applied_count core in
        let b' : ℕ = applied_count (after_save core g n) in
        let rest : drop b' (drop n (writes_of s.held)) ≡ writes_of (drop a s.held) = drop_rest (writes_of s.held) n a b' counts ∙ sym (writes_drop a s.held) in
        let among : newest_of c.size (drop n (writes_of s.held)) v b ≡ None = ap (λ (ws : List Write). newest_of c.size ws v b) (sym rest_writes) ∙ none in
        ap (λ (es : List Entry). newest es v b) ready.waiting
        ∙ newest_entries c.size (writes_of (drop a s.held)) v b (whole_writes (drop a s.held) (whole_drop a s.held ready.whole))
        ∙ ap (λ (ws : List Write). newest_of c.size ws v b) (sym rest)
        ∙ newest_drop_none c.size b' (drop n (writes_of s.held)) v b among

    matched : (o : Option (List ℕ)) (bytes y : List ℕ) (P : Type 0) → o ≡ Some bytes → MatchOption o P (λ k. k ≡ y) → bytes ≡ y
    matched o bytes y P is match = subst (λ (p : Option (List ℕ)). MatchOption p P (λ k. k ≡ y)) is match

    kept_by : (o : Option (List ℕ)) (v b : ℕ) → b < c.size v → newest_of c.size (writes_of (drop n s.held)) v b ≡ o
        → MatchOption o (Keeps m (unit_of core.units.vols v) b (c.block v b)) (λ bytes. bytes ≡ c.block v b)
    kept_by (Some bytes) v b low is =
        matched (newest_of c.size (writes_of s.held) v b) bytes (c.block v b) (Keeps m (unit_of core.units.vols v) b (c.block v b))
        (newest_drop c.size n (writes_of s.held) v b bytes (ap (λ (ws : List Write). newest_of c.size ws v b) (sym rest_writes) ∙ is)) (ready.content.each v b low)
    kept_by None v b low is = ready.settled v b low (waits_not v b is)

    -- the volumes with the other records over them have the content
    kept_content : KeepsContent core.units.vols c (writes_of (drop n s.held)) m
    kept_content = record { each = λ v b low. kept_by (newest_of c.size (writes_of (drop n s.held)) v b) v b low refl }

    module _ (m' : Meaning) (P : Says) (moves : Moves (Run core.log.unit 0 (core.log.ring + 2)) P m m') where
      keeps_on : (v b : ℕ) (y : List ℕ) → b < c.size v → Keeps m (unit_of core.units.vols v) b y → Keeps m' (unit_of core.units.vols v) b y
      keeps_on v b y low keeps = kept_beside (Run core.log.unit 0 (core.log.ring + 2)) P m m' moves (unit_of core.units.vols v) b (beside v b low) y keeps

      keeps_each : (o : Option (List ℕ)) (v b : ℕ) → b < c.size v → MatchOption o (Keeps m (unit_of core.units.vols v) b (c.block v b)) (λ bytes. bytes ≡ c.block v b)
          → MatchOption o (Keeps m' (unit_of core.units.vols v) b (c.block v b)) (λ bytes. bytes ≡ c.block v b)
      keeps_each (Some bytes) v b low is = is
      keeps_each None v b low keeps = keeps_on v b (c.block v b) low keeps

      pub save_ready : LeadsTo core.log (saving g n) (saved core.log g n) m m' → Ready (after_save core g n) c (behind_call core.log.ring s (saving g n s)) m'
      save_ready leads = record {
        ring = leads.each s ready.ring;
        idle = ready.idle;
        whole = whole_drop n s.held ready.whole;
        sizes = record { each = λ v low. ready.sizes.each v low ∙ sym (moves.size (unit_of core.units.vols v)); none = ready.sizes.none };
        content = record { each = λ v b low. keeps_each (newest_of c.size (writes_of (drop n s.held)) v b) v b low (kept_content.each v b low) };
        waiting = ready.waiting
            ∙ ap (λ (rs : List Record). entries_of c.size (writes_of rs)) (sym (drop_rest s.held n (applied_count core) (applied_count (after_save core g n)) counts));
        settled = λ v b low none. keeps_on v b (c.block v b) low (ready.settled v b low none);
      }

  -- ---- of whatever the group held

  module _ (m : Meaning) (sound : IsSound core m) (h : Holding) (stands : Stands core h m) where
    abbrev s : State
    s = stands.log

    few : n ≤ length core.log.held
    few = omega (arith, fewer, applied_few core m sound some)

    -- the writes that the log still has
    rest_are : writes_of (drop n s.held) ≡ drop (length h.writes - length (drop n core.log.held)) h.writes
    rest_are =
        let count : n ≡ length h.writes - length (drop n core.log.held) = omega (arith, stands_count core h m stands, length-drop n core.log.held, few) in
        writes_drop n s.held ∙ ap (λ (ws : List Write). drop n ws) stands.writes ∙ ap (λ (k : ℕ). drop k h.writes) count

    pub save_stands : (m' : Meaning) (P : Says) → Moves (Run core.log.unit 0 (core.log.ring + 2)) P m m' → LeadsTo core.log (saving g n) (saved core.log g n) m m'
        → Stands (after_save core g n) (kept_in (after_save core g n) h) m'
    save_stands m' P moves leads = record {
      log = behind_call core.log.ring s (saving g n s);
      ready = save_ready h.content m s stands.ready sound.placed sound.log_unit few m' P moves leads;
      low = refl;
      writes = rest_are;
      place = refl;
      maps = maps_moved (Run core.log.unit 0 (core.log.ring + 2)) P core.units h.maps m m' moves (maps_beside core m sound.placed sound.log_unit) stands.maps;
      marks = stands.marks;
    }

    module _ (i : Image) (aside : Beside (Run core.log.unit 0 (core.log.ring + 2)) m.leaves i) where
      abbrev apart : (v b : ℕ) → b < h.content.size v → Run core.log.unit 0 (core.log.ring + 2) (unit_of core.units.vols v) b → ⊥
      apart = volumes_beside core h.content m sound.placed sound.log_unit stands.ready.sizes

      old_has : HasContent core.units.vols h.content (writes_of s.held) i
      old_has = has_content_beside (Run core.log.unit 0 (core.log.ring + 2)) core.units.vols h.content (writes_of s.held) m i apart stands.ready.content aside

      new_has : HasContent core.units.vols h.content (writes_of (drop n s.held)) i
      new_has =
          has_content_beside (Run core.log.unit 0 (core.log.ring + 2)) core.units.vols h.content (writes_of (drop n s.held)) m i apart
          (kept_content h.content m s stands.ready sound.placed sound.log_unit few) aside

      has_them : HasMaps core.units h.maps i
      has_them = has_maps_beside (Run core.log.unit 0 (core.log.ring + 2)) core.units h.maps m i (maps_beside core m sound.placed sound.log_unit) stands.maps aside

      found_new : Recovers core.log.ring (classes core.log.unit core.log.ring i) g (drop n s.held) → FoundAs (after_save core g n) i (kept_in (after_save core g n) h)
      found_new recovers = record {
        header = g;
        records = drop n s.held;
        recovers = subst (λ (u : ℕ). Recovers core.log.ring (classes u core.log.ring i) g (drop n s.held)) sound.log_unit recovers;
        state_is = refl;
        session_is = refl;
        stamp_most = omega arith;
        some = recovers_low core.log.unit core.log.ring i g (drop n s.held) recovers;
        low_is = refl;
        writes_are = rest_are;
        place_is = refl;
        content = subst (λ (ws : List Write). HasContent core.units.vols h.content ws i) rest_are new_has;
        maps = has_them;
      }

      pub save_found : LogFound core.log.ring s (saving g n s) (classes core.log.unit core.log.ring i) → FoundAs core i h ⊎ FoundAs (after_save core g n) i (kept_in (after_save core g n) h)
      save_found (inl old) =
          inl (found_as core h m i sound.log_unit stands (subst (λ (rs : List Record). Recovers core.log.ring (classes core.log.unit core.log.ring i) s.header rs) (no_more s.held s.staged old.0 stands.ready.idle) old.1) old_has has_them)
      save_found (inr new) =
          inr (found_new (subst (λ (rs : List Record). Recovers core.log.ring (classes core.log.unit core.log.ring i) g rs) (no_more (drop n s.held) s.staged new.0 stands.ready.idle) new.1))

  module _ (m m' : Meaning) (sound : IsSound core m) where
    pub save_rests : (P : Says) → Moves (Run core.log.unit 0 (core.log.ring + 2)) P m m' → LeadsTo core.log (saving g n) (saved core.log g n) m m' → Retains core (after_save core g n) m m'
    save_rests P moves leads = record { each = λ h stands. save_stands m sound h stands m' P moves leads }

    pub save_moves : RingGoes core.log (saving g n) m m' → Moves (Run core.units.srl 0 (core.log.ring + 2)) (Saving core (after_save core g n) m) m m'
    save_moves goes =
        wider (Run core.log.unit 0 (core.log.ring + 2)) (Run core.units.srl 0 (core.log.ring + 2)) (Finding core.log (saving g n) m) (Saving core (after_save core g n) m) m m' goes
        (λ u b is. record { there = is.there ∙ sound.log_unit; first = is.first; last = is.last })
        (λ i aside found. record { each = λ h stands. save_found m sound h stands i aside (found.each stands.log stands.ready.ring) })
