-- A group over a call that puts blocks into a volume without the log.
use Rattle.std.proofs.Common.{◌≡◌, ◌⊎◌, inl, inr, ⊎_elim, ℕ, ◌+◌, ◌-◌, ◌*◌, ◌<◌, ◌≤◌, Bool, true, false, List, [], length, leb, IsTrue, refl, sym, ◌∙◌, ap, subst, arith}
use Rattle.std.proofs.lemmas.Bool.{both_ways}
use Rattle.std.specs.Prelude.{if◌then◌else◌, Err}
use Rattle.std.proofs.lemmas.Bool.Decides.{nat_tests}
use Rattle.std.proofs.lemmas.List.{nil_from_length}
use Rattle.vx_model.specs.Content.{Content, Write, put, block_of, blocks_in, touches}
use Rattle.vx_model.specs.declared.no.No.{No}
use Rattle.vx_model.proofs.Tests.{shows, tells}
use Rattle.vx_disk.specs.Causes.{Cause}
use Rattle.vx_disk.specs.declared.shelf.ShelfError.{ShelfError}
use Rattle.vx_disk.specs.declared.shelf.ShelfError.TheVariants.{Down, Fault}
use Rattle.vx_disk.specs.Moves.{Beside, Moves, Run, Says}
use Rattle.vx_disk.specs.Shelf.{Covers, Each, Goes, Image, Keeps, KeepsAll, Meaning, Or, Written}
use Rattle.vx_disk.proofs.Moving.{Written_Run, kept_beside, of_written}
use Rattle.vx_ringlog.specs.Chain.{Recovers}
use Rattle.vx_ringlog.specs.Logs.{State, Seal}
use Rattle.vx_ringlog.specs.Records.{Record}
use Rattle.vx_ringlog.proofs.Calls.{call_safe}
use Rattle.vx_ringio.specs.Classes.{classes}
use Rattle.vx_ringio.proofs.Following.{image_beside, tracks_beside}
use Rattle.vx_disk.specs.Causes.{DeviceCause, refusal_of}
use Rattle.vx_rvg.specs.Contents.{HasContent, KeepsContent, writes_of}
use Rattle.vx_rvg.specs.Groups.{core_halted}
use Rattle.vx_rvg.specs.Holdings.{Holding, with_content}
use Rattle.vx_rvg.specs.Stands.{FoundAs, Ready, Stands}
use Rattle.vx_rvg.specs.Stores.{AreBlocks, IsPartly, Putting, PutsInto}
use Rattle.vx_rvg.specs.Views.{Core, IsSound, last_of, unit_of, volume_size}
use Rattle.vx_rvg.proofs.ContentFacts.{found_held, found_with, has_maps_beside, held_length, maps_moved, volume_there}
use Rattle.vx_rvg.proofs.WriteSound.{failed_sound, moved_sizes}
use Rattle.vx_rvg.proofs.WriteStands.{volume_size_is, write_at}

fits : (a b : ℕ) → a ≤ b → leb a b ≡ true
fits a b le = grind (arith, nat_tests)

touched : (t : Bool) (a b : List ℕ) → t ≡ true → (if t then a else b) ≡ a
touched true a b is = refl
touched false a b is = cc

untouched : (t : Bool) (a b : List ℕ) → t ≡ false → (if t then a else b) ≡ b
untouched true a b is = cc
untouched false a b is = refl

module _ (core : Core) (c : Content) (vol start : ℕ) (bytes : List ℕ) (m : Meaning) (s : State) (ready : Ready core c s m) (sound : IsSound core m)
    (exists : vol < length core.units.vols) (blocks : AreBlocks bytes) (emptied : last_of core < core.log.header.low) (within : start + blocks_in bytes ≤ volume_size core.units.vols m vol) where
  abbrev own : Write
  own = write_at vol start bytes

  abbrev unit : ℕ
  unit = unit_of core.units.vols vol

  inside : start + blocks_in bytes ≤ c.size vol
  inside = omega (arith, within, volume_size_is core.units.vols m vol exists, ready.sizes.each vol exists)

  none_held : s.held ≡ []
  none_held = nil_from_length s.held (omega (arith, held_length core.log s m ready.ring, emptied))

  -- the log lies beside the volume
  log_aside : (b : ℕ) → b < core.log.ring + 2 → Run unit start (blocks_in bytes) core.log.unit b → ⊥
  log_aside b low run = sound.placed.apart vol exists (sym run.there ∙ sound.log_unit)

  -- ---- the blocks that are put

  covers : (v b : ℕ) → touches own v b ≡ true → Covers unit start bytes (unit_of core.units.vols v) b
  covers v b is =
      let parts : (v ≡ vol) × (start ≤ b) × (512 * (b - start) < length bytes) = tells v vol start b (512 * (b - start)) (length bytes) is in
      record { there = ap (λ (w : ℕ). unit_of core.units.vols w) parts.0; first = parts.1; last = parts.2 }

  not_there : (v b : ℕ) → b < c.size v → touches own v b ≡ false → Covers unit start bytes (unit_of core.units.vols v) b → ⊥
  not_there v b low is over =
      both_ways (touches own v b) is (shows v vol start b (512 * (b - start)) (length bytes) (sound.placed.distinct v vol (volume_there core.units.vols c m v b ready.sizes low) exists over.there) over.first over.last)

  -- a run of as many blocks has no other
  out_of_run : (v b : ℕ) → b < c.size v → touches own v b ≡ false → Run unit start (blocks_in bytes) (unit_of core.units.vols v) b → ⊥
  out_of_run v b low is run = not_there v b low is (record { there = run.there; first = run.first; last = omega (arith, run.first, run.last, blocks.whole) })

  put_is : (v b : ℕ) → (put c own).block v b ≡ (if touches own v b then block_of bytes (b - start) else c.block v b)
  put_is v b = ap (λ (t : Bool). if t then (if touches own v b then block_of bytes (b - start) else c.block v b) else c.block v b) (fits (start + blocks_in bytes) (c.size vol) inside)

  put_new : (v b : ℕ) → touches own v b ≡ true → (put c own).block v b ≡ block_of bytes (b - start)
  put_new v b is = put_is v b ∙ touched (touches own v b) (block_of bytes (b - start)) (c.block v b) is

  put_old : (v b : ℕ) → touches own v b ≡ false → (put c own).block v b ≡ c.block v b
  put_old v b is = put_is v b ∙ untouched (touches own v b) (block_of bytes (b - start)) (c.block v b) is

  settled : (v b : ℕ) → b < c.size v → Keeps m (unit_of core.units.vols v) b (c.block v b)
  settled v b low = let has : KeepsContent core.units.vols c [] m = subst (λ (rs : List Record). KeepsContent core.units.vols c (writes_of rs) m) none_held ready.content in has.each v b low

  -- ---- behind the call

  module _ (m' : Meaning) (P : Says) (moves : Moves (Run unit start (blocks_in bytes)) P m m') (kept : KeepsAll m' unit start bytes) where
    keeps_by : (v b : ℕ) → b < c.size v → (t : Bool) → touches own v b ≡ t → Keeps m' (unit_of core.units.vols v) b ((put c own).block v b)
    keeps_by v b low true is =
        let over : Covers unit start bytes (unit_of core.units.vols v) b = covers v b is in
        let here : Keeps m' unit b (block_of bytes (b - start)) = kept.each b (record { there = refl; first = over.first; last = over.last }) in
        subst (λ (y : List ℕ). Keeps m' (unit_of core.units.vols v) b y) (sym (put_new v b is)) (subst (λ (u : ℕ). Keeps m' u b (block_of bytes (b - start))) (sym over.there) here)
    keeps_by v b low false is =
        subst (λ (y : List ℕ). Keeps m' (unit_of core.units.vols v) b y) (sym (put_old v b is))
        (kept_beside (Run unit start (blocks_in bytes)) P m m' moves (unit_of core.units.vols v) b (out_of_run v b low is) (c.block v b) (settled v b low))

    keeps : (v b : ℕ) → b < c.size v → Keeps m' (unit_of core.units.vols v) b ((put c own).block v b)
    keeps v b low = keeps_by v b low (touches own v b) refl

    store_ready : (IsTrue m'.down → ⊥) → Ready core (put c own) s m'
    store_ready up = record {
      ring = record {
        is_log = ready.ring.is_log;
        tracks = tracks_beside core.log.unit core.log.ring s.unit (Run unit start (blocks_in bytes)) P m m' moves log_aside up ready.ring.tracks;
        describes = ready.ring.describes;
      };
      idle = ready.idle;
      whole = ready.whole;
      sizes = record { each = λ v there. ready.sizes.each v there ∙ sym (moves.size (unit_of core.units.vols v)); none = ready.sizes.none };
      content = subst (λ (rs : List Record). KeepsContent core.units.vols (put c own) (writes_of rs) m') (sym none_held) (record { each = λ v b low. keeps v b low });
      waiting = ready.waiting;
      settled = λ v b low none. keeps v b low;
    }

  -- ---- an image in the call

  module _ (i : Image) (each : Each (Or m.leaves (Written unit start bytes)) i) where
    abbrev found_block : ℕ → ℕ → List ℕ
    found_block v b = if touches own v b then i (unit_of core.units.vols v) b else c.block v b

    abbrev found : Content
    found = record { size = c.size; block = found_block }

    old_or_new : (v b : ℕ) → b < c.size v → touches own v b ≡ true → (i (unit_of core.units.vols v) b ≡ c.block v b) ⊎ (i (unit_of core.units.vols v) b ≡ (put c own).block v b)
    old_or_new v b low is =
        ⊎_elim (λ was. inl ((settled v b low).only (i (unit_of core.units.vols v) b) was)) (λ written. inr (written.value ∙ sym (put_new v b is))) (each (unit_of core.units.vols v) b)

    low_of : (v b : ℕ) → touches own v b ≡ true → b < c.size v
    low_of v b is =
        let parts : (v ≡ vol) × (start ≤ b) × (512 * (b - start) < length bytes) = tells v vol start b (512 * (b - start)) (length bytes) is in
        omega (arith, parts.1, parts.2, blocks.whole, inside, ap (λ (w : ℕ). c.size w) parts.0)

    partly_by : (v b : ℕ) (t : Bool) → touches own v b ≡ t → (found_block v b ≡ c.block v b) ⊎ (found_block v b ≡ (put c own).block v b)
    partly_by v b true is =
        let here : found_block v b ≡ i (unit_of core.units.vols v) b = touched (touches own v b) (i (unit_of core.units.vols v) b) (c.block v b) is in
        ⊎_elim (λ was. inl (here ∙ was)) (λ new. inr (here ∙ new)) (old_or_new v b (low_of v b is) is)
    partly_by v b false is = inl (untouched (touches own v b) (i (unit_of core.units.vols v) b) (c.block v b) is)

    partly : IsPartly c own found
    partly = record { size = λ v. refl; each = λ v b. partly_by v b (touches own v b) refl }

    has_by : (v b : ℕ) → b < c.size v → (t : Bool) → touches own v b ≡ t → i (unit_of core.units.vols v) b ≡ found_block v b
    has_by v b low true is = sym (touched (touches own v b) (i (unit_of core.units.vols v) b) (c.block v b) is)
    has_by v b low false is =
        ⊎_elim (λ was. (settled v b low).only (i (unit_of core.units.vols v) b) was) (λ written. absurd (not_there v b low is written.covers)) (each (unit_of core.units.vols v) b)
        ∙ sym (untouched (touches own v b) (i (unit_of core.units.vols v) b) (c.block v b) is)

    has : HasContent core.units.vols found (writes_of s.held) i
    has = subst (λ (rs : List Record). HasContent core.units.vols found (writes_of rs) i) (sym none_held) (record { each = λ v b low. has_by v b low (touches own v b) refl })

    beside : Beside (Run unit start (blocks_in bytes)) m.leaves i
    beside u b = ⊎_elim (λ was. inl was) (λ written. inr (Written_Run unit start bytes blocks.whole u b (i u b) written)) (each u b)

    recovers : Recovers core.log.ring (classes core.log.unit core.log.ring i) s.header s.held
    recovers =
        found_held core.log.ring s (classes core.log.unit core.log.ring i) ready.idle
        ((call_safe core.log.ring s Seal ready.ring.is_log tt).0.0 (classes core.log.unit core.log.ring i)
        (image_beside core.log.unit core.log.ring s.unit (Run unit start (blocks_in bytes)) m i ready.ring.tracks beside log_aside))

-- ---- of whatever the group held, where u is the unit of the volume

module _ (core : Core) (vol start : ℕ) (bytes : List ℕ) (m m' : Meaning) (sound : IsSound core m)
    (exists : vol < length core.units.vols) (blocks : AreBlocks bytes) (emptied : last_of core < core.log.header.low) (within : start + blocks_in bytes ≤ volume_size core.units.vols m vol)
    (u : ℕ) (unit_is : u ≡ unit_of core.units.vols vol) (goes : Goes (Written u start bytes) m m') where
  -- the maps lie beside the volume
  maps_aside : (b : ℕ) → Run (unit_of core.units.vols vol) start (blocks_in bytes) core.units.maps b → ⊥
  maps_aside b is = sound.placed.maps_aside vol exists (sym is.there)

  module _ (h : Holding) (stands : Stands core h m) (i : Image) (each : Each (Or m.leaves (Written (unit_of core.units.vols vol) start bytes)) i) where
    store_found : (d : Content) × IsPartly h.content (write_at vol start bytes) d × FoundAs core i (with_content d h)
    store_found =
        let c : Content = h.content in
        let d : Content = found core c vol start bytes m stands.log stands.ready sound exists blocks emptied within i each in (
          d,
          partly core c vol start bytes m stands.log stands.ready sound exists blocks emptied within i each,
          found_with core h m i sound.log_unit stands (recovers core c vol start bytes m stands.log stands.ready sound exists blocks emptied within i each) d
              (has core c vol start bytes m stands.log stands.ready sound exists blocks emptied within i each)
              (has_maps_beside (Run (unit_of core.units.vols vol) start (blocks_in bytes)) core.units h.maps m i maps_aside stands.maps
              (beside core c vol start bytes m stands.log stands.ready sound exists blocks emptied within i each)),
        )

  pub store_moves : Moves (Run (unit_of core.units.vols vol) start (blocks_in bytes)) (Putting core (write_at vol start bytes) m) m m'
  store_moves =
      of_written (Putting core (write_at vol start bytes) m) (unit_of core.units.vols vol) start bytes m m' blocks.whole (subst (λ (w : ℕ). Goes (Written w start bytes) m m') unit_is goes)
      (λ i each. record { each = λ h stands. store_found h stands i each })

  pub store_stands : KeepsAll m' u start bytes → (IsTrue m'.down → ⊥) → (h : Holding) → Stands core h m → Stands core (with_content (put h.content (write_at vol start bytes)) h) m'
  store_stands kept up h stands = record {
    log = stands.log;
    ready = store_ready core h.content vol start bytes m stands.log stands.ready sound exists blocks emptied within m' (Putting core (write_at vol start bytes) m) store_moves
        (subst (λ (w : ℕ). KeepsAll m' w start bytes) unit_is kept) up;
    low = stands.low;
    place = stands.place;
    writes = stands.writes;
    maps = maps_moved (Run (unit_of core.units.vols vol) start (blocks_in bytes)) (Putting core (write_at vol start bytes) m) core.units h.maps m m' store_moves maps_aside stands.maps;
    marks = stands.marks;
  }

  pub store_puts : KeepsAll m' u start bytes → (IsTrue m'.down → ⊥) → PutsInto core core (write_at vol start bytes) m m'
  store_puts kept up = record { each = λ h stands. store_stands kept up h stands }

  pub store_fails : (why : No) → DeviceCause m m' why → IsSound (core_halted why core) m'
  store_fails why cause =
      failed_sound core core.log m m' why (moved_sizes (Run (unit_of core.units.vols vol) start (blocks_in bytes)) (Putting core (write_at vol start bytes) m) m m' store_moves) sound
      (record { unit = refl; ring = refl; header = refl; held = refl }) cause

-- why it failed
pub put_cause : (m m' : Meaning) (u : ℕ) (error : ShelfError) (why : No) → why ≡ refusal_of error → Cause {T = Unit {0}} m m' u (Err error) → DeviceCause m m' why
put_cause m m' u (Fault disk) why is cause = subst (λ (no : No). DeviceCause m m' no) (sym is) cause.0.disk_count
put_cause m m' u Down why is cause = subst (λ (no : No). DeviceCause m m' no) (sym is) cause
