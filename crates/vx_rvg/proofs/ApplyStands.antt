-- A group that stands, while blocks that wait come into their volumes.
use Rattle.std.proofs.Common.{◌≡◌, ℕ, ◌+◌, ◌-◌, ◌<◌, ◌≤◌, List, ◌++◌, length, take, drop, Option, Some, None, MatchOption, All, Bool, true, false, IsTrue, IsFalse, refl, sym, ◌∙◌, ap, subst, arith}
use Rattle.std.proofs.lemmas.List.{drop-drop, map-append, take-append-drop}
use Rattle.std.proofs.lemmas.List.Elements.{All-contains, All-take}
use Rattle.std.proofs.lemmas.Option.{none-some}
use Rattle.vx_model.specs.Content.{Content, Write}
use Rattle.vx_model.specs.declared.no.No.{No}
use Rattle.vx_disk.specs.Moves.{Anything, Beside, Moves}
use Rattle.vx_disk.specs.Shelf.{Image, Keeps, Meaning}
use Rattle.vx_disk.proofs.Moving.{kept_beside, seen_beside, still, wider}
use Rattle.vx_overlay.specs.declared.entry.Entry.{Entry}
use Rattle.vx_overlay.specs.Pending.{Pending, newest, newer_or}
use Rattle.vx_overlay.specs.Writes.{entries_of, newest_of}
use Rattle.vx_overlay.proofs.WriteLemmas.{entries_count, entries_drop, newest_append, newest_drop_none, newest_entries}
use Rattle.vx_ringlog.specs.Chain.{Recovers}
use Rattle.vx_ringlog.specs.Logs.{Seal, State}
use Rattle.vx_ringlog.specs.Records.{Record, write_logged}
use Rattle.vx_ringlog.proofs.Calls.{call_safe}
use Rattle.vx_ringio.specs.Classes.{classes}
use Rattle.vx_ringio.proofs.Following.{image_beside, tracks_beside}
use Rattle.vx_disk.specs.Causes.{DeviceCause}
use Rattle.vx_srl.specs.Views.{count_to}
use Rattle.vx_srl.proofs.Shared_S1.{Same, held_same, same_drop, same_take}
use Rattle.vx_rvg.specs.Brings.{Brings, IsPut, due}
use Rattle.vx_rvg.specs.Contents.{HasContent, KeepsContent, writes_of}
use Rattle.vx_rvg.specs.Groups.{core_halted, core_applied}
use Rattle.vx_rvg.specs.Stands.{IsWholeRecord, Ready, Resting, Rests}
use Rattle.vx_rvg.specs.Views.{Core, IsSound, Waits, applied_count, last_of, unit_of, volume_size}
use Rattle.vx_rvg.proofs.ApplyAll.{applied_core, apply_sound, bring_few}
use Rattle.vx_rvg.proofs.ApplyPuts.{none_put, put_kept, within_count}
use Rattle.vx_rvg.proofs.ContentFacts.{found_as, found_held, has_maps_beside, maps_moved, volume_there}
use Rattle.vx_rvg.proofs.ReadStands.{ready_covers, waits_content, whole_drop, whole_writes, writes_drop}
use Rattle.vx_rvg.proofs.WriteSound.{failed_sound, moved_sizes}

keeps_case : (m m' : Meaning) (u b : ℕ) (y : List ℕ) (o : Option (List ℕ)) → (o ≡ None → Keeps m u b y → Keeps m' u b y) → MatchOption o (Keeps m u b y) (λ bytes. bytes ≡ y)
    → MatchOption o (Keeps m' u b y) (λ bytes. bytes ≡ y)
keeps_case m m' u b y (Some bytes) to is = is
keeps_case m m' u b y None to keeps = to refl keeps

image_case : (m : Meaning) (i : Image) (u b : ℕ) (y : List ℕ) (o : Option (List ℕ)) → (o ≡ None → Keeps m u b y → i u b ≡ y) → MatchOption o (Keeps m u b y) (λ bytes. bytes ≡ y)
    → MatchOption o (i u b ≡ y) (λ bytes. bytes ≡ y)
image_case m i u b y (Some bytes) to is = is
image_case m i u b y None to keeps = to refl keeps

-- ---- the blocks that wait

module _ (core : Core) (c : Content) (m : Meaning) (s : State) (ready : Ready core c s m) where
  newest_is : (v b : ℕ) → newest core.pending.entries v b ≡ newest_of c.size (writes_of (drop (applied_count core) s.held)) v b
  newest_is v b =
      ap (λ (es : List Entry). newest es v b) ready.waiting
      ∙ newest_entries c.size (writes_of (drop (applied_count core) s.held)) v b (whole_writes (drop (applied_count core) s.held) (whole_drop (applied_count core) s.held ready.whole))

  -- a block that no write covers does not wait
  covered_not : (v b : ℕ) → newest_of c.size (writes_of s.held) v b ≡ None → newest core.pending.entries v b ≡ None
  covered_not v b none =
      newest_is v b ∙ ap (λ (ws : List Write). newest_of c.size ws v b) (writes_drop (applied_count core) s.held) ∙ newest_drop_none c.size (applied_count core) (writes_of s.held) v b none

  module _ (sound : IsSound core m) where
    -- where nothing waits, no record that is not applied puts anything
    pub waits_not : (v b : ℕ) → b < c.size v → newest core.pending.entries v b ≡ None → Waits core m (unit_of core.units.vols v) b → ⊥
    waits_not v b low none waits =
        let a : ℕ = applied_count core in
        let exists : v < length core.units.vols = volume_there core.units.vols c m v b ready.sizes low in
        let volume : v ≡ waits.kept.head.vol = sound.placed.distinct v waits.kept.head.vol exists waits.exists waits.there in
        let within : waits.kept.head.block + waits.kept.head.count ≤ volume_size core.units.vols m v
        = omega (arith, waits.within, ap (λ (w : ℕ). volume_size core.units.vols m w) volume) in
        All-contains (λ k. IsPut (volume_size core.units.vols m) k v b → ⊥) (drop a core.log.held) waits.kept
        (none_put core.units.vols c m ready.sizes (drop a s.held) (drop a core.log.held) v b (same_drop a s.held core.log.held (held_same core.log s m ready.ring)) (whole_drop a s.held ready.whole)
        (sym (newest_is v b) ∙ none)) waits.among
        (record { volume = volume; within = within; first = waits.first; last = waits.last })

    log_aside : (b : ℕ) → b < core.log.ring + 2 → Waits core m core.log.unit b → ⊥
    log_aside b low waits = sound.placed.apart waits.kept.head.vol waits.exists (sym waits.there ∙ sound.log_unit)

    -- ---- an image in the call

    module _ (i : Image) (beside : Beside (Waits core m) m.leaves i) where
      recovers : Recovers core.log.ring (classes core.log.unit core.log.ring i) s.header s.held
      recovers =
          found_held core.log.ring s (classes core.log.unit core.log.ring i) ready.idle
          ((call_safe core.log.ring s Seal ready.ring.is_log tt).0.0 (classes core.log.unit core.log.ring i)
          (image_beside core.log.unit core.log.ring s.unit (Waits core m) m i ready.ring.tracks beside log_aside))

      has : HasContent core.units.vols c (writes_of s.held) i
      has = record {
        each = λ v b low.
            image_case m i (unit_of core.units.vols v) b (c.block v b) (newest_of c.size (writes_of s.held) v b)
            (λ none keeps. seen_beside (Waits core m) m (unit_of core.units.vols v) b (waits_not v b low (covered_not v b none)) (c.block v b) i keeps beside) (ready.content.each v b low);
      }

    -- ---- behind the call

    module _ (m' : Meaning) (moves : Moves (Waits core m) Anything m m') where
      kept : (v b : ℕ) → b < c.size v → newest core.pending.entries v b ≡ None → (y : List ℕ) → Keeps m (unit_of core.units.vols v) b y → Keeps m' (unit_of core.units.vols v) b y
      kept v b low none y keeps = kept_beside (Waits core m) Anything m m' moves (unit_of core.units.vols v) b (waits_not v b low none) y keeps

      content : KeepsContent core.units.vols c (writes_of s.held) m'
      content = record {
        each = λ v b low.
            keeps_case m m' (unit_of core.units.vols v) b (c.block v b) (newest_of c.size (writes_of s.held) v b)
            (λ none keeps. kept v b low (covered_not v b none) (c.block v b) keeps) (ready.content.each v b low);
      }

      module _ (to count : ℕ) (low : core.log.header.low ≤ core.applied + 1) (from : core.applied ≤ to) (brings : Brings core to m m' count) (up : IsTrue m'.down → ⊥) where
        abbrev a : ℕ
        a = applied_count core

        abbrev j : ℕ
        j = to - core.applied

        -- the records that came in, and those that still wait
        abbrev came : List Record
        came = take j (drop a s.held)

        abbrev rest : List Record
        rest = drop j (drop a s.held)

        rest_is : rest ≡ drop (count_to core.log to) s.held
        rest_is = let at : a + j ≡ count_to core.log to = omega (arith, low, from) in drop-drop j a s.held ∙ ap (λ (n : ℕ). drop n s.held) at

        both : writes_of (drop a s.held) ≡ writes_of came ++ writes_of rest
        both = ap (λ (rs : List Record). writes_of rs) (sym (take-append-drop j (drop a s.held))) ∙ map-append write_logged came rest

        came_same : Same came (due core to)
        came_same = same_take j (drop a s.held) (drop a core.log.held) (same_drop a s.held core.log.held (held_same core.log s m ready.ring))

        came_whole : All IsWholeRecord came
        came_whole = All-take IsWholeRecord j (drop a s.held) (whole_drop a s.held ready.whole)

        count_is : count ≡ length (entries_of c.size (writes_of came))
        count_is = brings.count_is ∙ sym (within_count core.units.vols c m ready.sizes came (due core to) came_same came_whole) ∙ sym (entries_count c.size (writes_of came))

        waiting : drop count core.pending.entries ≡ entries_of c.size (writes_of (drop (count_to core.log to) s.held))
        waiting =
            ap (λ (es : List Entry). drop count es) (ready.waiting ∙ ap (λ (ws : List Write). entries_of c.size ws) both)
            ∙ ap (λ (n : ℕ). drop n (entries_of c.size (writes_of came ++ writes_of rest))) count_is
            ∙ entries_drop c.size (writes_of came) (writes_of rest)
            ∙ ap (λ (rs : List Record). entries_of c.size (writes_of rs)) rest_is

        -- a block that waits no longer is in its volume
        rest_none : (v b : ℕ) → newest (drop count core.pending.entries) v b ≡ None → newest_of c.size (writes_of rest) v b ≡ None
        rest_none v b none =
            sym (newest_entries c.size (writes_of rest) v b (whole_writes rest (whole_drop j (drop a s.held) (whole_drop a s.held ready.whole))))
            ∙ ap (λ (rs : List Record). newest (entries_of c.size (writes_of rs)) v b) rest_is ∙ ap (λ (es : List Entry). newest es v b) (sym waiting) ∙ none

        came_some : (v b : ℕ) (bytes : List ℕ) → newest core.pending.entries v b ≡ Some bytes → newest (drop count core.pending.entries) v b ≡ None
            → newest_of c.size (writes_of came) v b ≡ None → ⊥
        came_some v b bytes is none not =
            none-some bytes (sym (
            newest_is v b ∙ ap (λ (ws : List Write). newest_of c.size ws v b) both ∙ newest_append c.size (writes_of came) (writes_of rest) v b
            ∙ ap (λ (o : Option (List ℕ)). newer_or o (newest_of c.size (writes_of came) v b)) (rest_none v b none) ∙ not) ∙ is)

        settles : (v b : ℕ) → b < c.size v → newest (drop count core.pending.entries) v b ≡ None → (o : Option (List ℕ)) → newest core.pending.entries v b ≡ o
            → Keeps m' (unit_of core.units.vols v) b (c.block v b)
        settles v b inside none (Some bytes) is =
            subst (λ (y : List ℕ). Keeps m' (unit_of core.units.vols v) b y) (waits_content core c m s.held (ready_covers core c m s ready) v b bytes inside is)
            (put_kept core.units.vols c m ready.sizes core m' v b bytes is came (due core to) came_same came_whole brings.each (came_some v b bytes is none))
        settles v b inside none None is = kept v b inside is (c.block v b) (ready.settled v b inside is)

        pub applied_ready : Ready (core_applied core to count) c s m'
        applied_ready = record {
          ring = record {
            is_log = ready.ring.is_log;
            tracks = tracks_beside core.log.unit core.log.ring s.unit (Waits core m) Anything m m' moves log_aside up ready.ring.tracks;
            describes = ready.ring.describes;
          };
          idle = ready.idle;
          whole = ready.whole;
          sizes = record { each = λ v there. ready.sizes.each v there ∙ sym (moves.size (unit_of core.units.vols v)); none = ready.sizes.none };
          content = content;
          waiting = waiting;
          settled = λ v b inside none. settles v b inside none (newest core.pending.entries v b) refl;
        }

-- ---- of whatever the group held

-- the maps lie beside what comes into the volumes
maps_aside : (core : Core) (m : Meaning) → IsSound core m → (b : ℕ) → Waits core m core.units.maps b → ⊥
maps_aside core m sound b waits = sound.placed.maps_aside waits.kept.head.vol waits.exists (sym waits.there)

pub apply_moves : (core : Core) (m m' : Meaning) → IsSound core m → Moves (Waits core m) Anything m m' → Moves (Waits core m) (Resting core m) m m'
apply_moves core m m' sound moves =
    wider (Waits core m) (Waits core m) Anything (Resting core m) m m' moves (λ u b is. is)
    (λ i beside any. record {
      each = λ h stands.
          found_as core h m i sound.log_unit stands (recovers core h.content m stands.log stands.ready sound i beside) (has core h.content m stands.log stands.ready sound i beside)
          (has_maps_beside (Waits core m) core.units h.maps m i (maps_aside core m sound) stands.maps beside);
    })

pub apply_rests : (core : Core) (m m' : Meaning) → IsSound core m → Moves (Waits core m) Anything m m' → (to count : ℕ) → core.log.header.low ≤ core.applied + 1 → core.applied ≤ to
    → Brings core to m m' count → (IsTrue m'.down → ⊥) → Rests core (core_applied core to count) m m'
apply_rests core m m' sound moves to count low from brings up = record {
  each = λ h stands. record {
    log = stands.log;
    ready = applied_ready core h.content m stands.log stands.ready sound m' moves to count low from brings up;
    low = stands.low;
    place = stands.place;
    writes = stands.writes;
    maps = maps_moved (Waits core m) Anything core.units h.maps m m' moves (maps_aside core m sound) stands.maps;
    marks = stands.marks;
  };
}

pub still_running : (answer down : Bool) → answer ≡ down → IsFalse answer → IsTrue down → ⊥
still_running answer down is not fell = let wrong : false ≡ true = sym not ∙ is ∙ fell in cc

-- nothing was brought
pub same_rests : (core : Core) (m : Meaning) → Rests core core m m
same_rests core m = record { each = λ h stands. stands }

pub same_moves : (core : Core) (m : Meaning) → Moves (Waits core m) (Resting core m) m m
same_moves core m = still (Waits core m) (Resting core m) m

-- ---- v is the group as the code has it

module _ (v core : Core) (same : v ≡ core) (m m' : Meaning) (sound : IsSound core m) (to count : ℕ) (from : core.applied ≤ to) (known : to ≤ last_of core)
    (moves : Moves (Waits core m) Anything m m') where
  module _ (brings : Brings core to m m' count) where
    pub few_wait : count ≤ length v.pending.entries
    few_wait = subst (λ (k : Core). count ≤ length k.pending.entries) (sym same) (bring_few core m m' sound to count from brings)

    module _ (p : Pending) (entries : p.entries ≡ drop count v.pending.entries) (capacity : p.capacity ≡ v.pending.capacity) where
      abbrev new_core : Core
      new_core = record v { pending = p; applied = to }

      is : new_core ≡ core_applied core to count
      is = applied_core v to count p entries capacity ∙ ap (λ (k : Core). core_applied k to count) same

      pub new_sound : IsSound (record v { pending = p; applied = to }) m'
      new_sound = subst (λ (k : Core). IsSound k m') (sym is) (apply_sound core m m' sound to count from brings (Waits core m) Anything moves known)

      pub new_rests : (IsTrue m'.down → ⊥) → Rests core (record v { pending = p; applied = to }) m m'
      new_rests up = subst (λ (k : Core). Rests core k m m') (sym is) (apply_rests core m m' sound moves to count sound.low from brings up)

-- a call on the shelf failed
pub apply_failed : (core : Core) (m m' : Meaning) → IsSound core m → Moves (Waits core m) Anything m m' → (why : No) → DeviceCause m m' why → IsSound (core_halted why core) m'
apply_failed core m m' sound moves why cause =
    failed_sound core core.log m m' why (moved_sizes (Waits core m) Anything m m' moves) sound (record { unit = refl; ring = refl; header = refl; held = refl }) cause
