-- Records whose blocks are written to their volumes, one after another, and then made durable.
use Rattle.std.proofs.Common.{◌≡◌, ℕ, ◌+◌, ◌-◌, ◌≤◌, Bool, true, false, List, [], ◌∷◌, ◌++◌, length, take, drop, get_or, Some, All, IsTrue, sym, ◌∙◌, ap, subst, arith, length-drop}
use Rattle.std.specs.Prelude.{if◌then◌else◌, leb, slice_get}
use Rattle.std.proofs.lemmas.List.{drop-drop, get_or-drop, take-append-drop, take_more}
use Rattle.std.proofs.lemmas.List.Elements.{All-nil, All-push, All-weaker}
use Rattle.std.proofs.lemmas.Option.{get_or_from_slice_get, slice_get_within}
use Rattle.vx_disk.specs.Moves.{Anything, Blocks, Moves, Nowhere, Says}
use Rattle.vx_disk.specs.Shelf.{Meaning}
use Rattle.vx_disk.proofs.Moving.{goes_on, still}
use Rattle.vx_overlay.specs.declared.entry.Entry.{Entry}
use Rattle.vx_overlay.specs.Pending.{Pending}
use Rattle.vx_srl.specs.Views.{IsOrdered, all_of, count_to, widths}
use Rattle.vx_srl.specs.declared.kept.Kept.{Kept}
use Rattle.vx_rvg.specs.Brings.{Brings, BringsOne, IsPut, KeepsNewest, ReadsNewest, VolumesFlushed, due}
use Rattle.vx_rvg.specs.Groups.{core_applied}
use Rattle.vx_rvg.specs.Views.{Core, IsSound, Waits, applied_count, blocks_within, last_of, volume_size}
use Rattle.vx_rvg.proofs.ApplyOne.{put_there_is}
use Rattle.vx_rvg.proofs.WriteSound.{SameSizes, lies_same, loaded_same, moved_sizes, placed_same, volume_same, was_up, within_append, within_same}

-- ---- how many blocks they are

pub if_few : (t : Bool) (n : ℕ) → (if t then n else 0) ≤ n
if_few true n = omega arith
if_few false n = omega arith

pub within_few : (size : ℕ → ℕ) (ks : List Kept) → blocks_within size ks ≤ widths ks
within_few size [] = omega arith
within_few size (k ∷ ks) = omega (arith, if_few (leb (k.head.block + k.head.count) (size k.head.vol)) k.head.count, within_few size ks)

-- a first part of a list has no more
within_first : (size : ℕ → ℕ) (n : ℕ) (ks : List Kept) → blocks_within size (take n ks) ≤ blocks_within size ks
within_first size n ks =
    omega (arith, within_append size (take n ks) (drop n ks), ap (λ (xs : List Kept). blocks_within size xs) (take-append-drop n ks))

within_rest : (size : ℕ → ℕ) (n : ℕ) (ks : List Kept) → blocks_within size (drop n ks) ≤ blocks_within size ks
within_rest size n ks =
    omega (arith, within_append size (take n ks) (drop n ks), ap (λ (xs : List Kept). blocks_within size xs) (take-append-drop n ks))

pub due_few : (core : Core) (size : ℕ → ℕ) (k : ℕ) → IsOrdered core.log.ring core.log.header (all_of core.log) → blocks_within size (due core k) ≤ 65534
due_few core size k ordered =
    omega (
      arith,
      within_first size (k - core.applied) (drop (applied_count core) core.log.held),
      within_rest size (applied_count core) core.log.held,
      within_append size core.log.held core.log.staged,
      within_few size (all_of core.log),
      ordered.fits,
      ordered.few,
    )

-- ---- the same sizes

module _ (core : Core) (m m' : Meaning) (same : SameSizes m m') where
  pub waits_same : (u b : ℕ) → Waits core m' u b → Waits core m u b
  waits_same u b waits = record {
    kept = waits.kept;
    among = waits.among;
    exists = waits.exists;
    there = waits.there;
    within = omega (arith, waits.within, volume_same core.units.vols m m' same waits.kept.head.vol);
    first = waits.first;
    last = waits.last;
  }

  put_later : (k : Kept) (v b : ℕ) → IsPut (volume_size core.units.vols m) k v b → IsPut (volume_size core.units.vols m') k v b
  put_later k v b put = record { volume = put.volume; within = omega (arith, put.within, volume_same core.units.vols m m' same v); first = put.first; last = put.last }

  put_sooner : (k : Kept) (v b : ℕ) → IsPut (volume_size core.units.vols m') k v b → IsPut (volume_size core.units.vols m) k v b
  put_sooner k v b put = record { volume = put.volume; within = omega (arith, put.within, volume_same core.units.vols m m' same v); first = put.first; last = put.last }

  reads_later : (now : Meaning) (k : Kept) → ReadsNewest core (volume_size core.units.vols m) now k → ReadsNewest core (volume_size core.units.vols m') now k
  reads_later now k reads = record { each = λ v b bytes put is. reads.each v b bytes (put_sooner k v b put) is }

  reads_sooner : (now : Meaning) (k : Kept) → ReadsNewest core (volume_size core.units.vols m') now k → ReadsNewest core (volume_size core.units.vols m) now k
  reads_sooner now k reads = record { each = λ v b bytes put is. reads.each v b bytes (put_later k v b put) is }

-- ---- what the loop keeps

-- the blocks of the records up to a number were written
pub record BroughtTo (core : Core) (k : ℕ) (old new : Meaning) (count : ℕ) : Type 0 where
  pub count_is : count ≡ blocks_within (volume_size core.units.vols old) (due core k)
  pub each : All (ReadsNewest core (volume_size core.units.vols old) new) (due core k)
  pub moves : Moves (Waits core old) Anything old new
  pub up : (IsTrue old.down → ⊥) → IsTrue new.down → ⊥

none_due : (core : Core) → due core core.applied ≡ []
none_due core = let none : core.applied - core.applied ≡ 0 = omega arith in ap (λ (n : ℕ). take n (drop (applied_count core) core.log.held)) none

pub none_brought : (core : Core) (m : Meaning) → BroughtTo core core.applied m m 0
none_brought core m = record {
  count_is = sym (ap (λ (ks : List Kept). blocks_within (volume_size core.units.vols m) ks) (none_due core));
  each = subst (λ (ks : List Kept). All (ReadsNewest core (volume_size core.units.vols m) m) ks) (sym (none_due core)) (All-nil (ReadsNewest core (volume_size core.units.vols m) m));
  moves = still (Waits core m) Anything m;
  up = λ up. up;
}

-- one more
due_more : (core : Core) (k : ℕ) (one : Kept) → core.log.header.low ≤ core.applied + 1 → core.applied ≤ k → slice_get core.log.held (k + 1 - core.log.header.low) ≡ Some one
    → due core (k + 1) ≡ due core k ++ one ∷ []
due_more core k one low from there =
    let a : ℕ = applied_count core in
    let count : k + 1 - core.applied ≡ (k - core.applied) + 1 = omega (arith, from) in
    let at : a + (k - core.applied) ≡ k + 1 - core.log.header.low = omega (arith, low, from) in
    let item : get_or (drop a core.log.held) (k - core.applied) one ≡ one
    = get_or-drop a core.log.held (k - core.applied) one ∙ ap (λ (j : ℕ). get_or core.log.held j one) at ∙ get_or_from_slice_get core.log.held (k + 1 - core.log.header.low) one one there in
    ap (λ (n : ℕ). take n (drop a core.log.held)) count
    ∙ take_more (drop a core.log.held) (k - core.applied) one (omega (arith, low, from, slice_get_within core.log.held (k + 1 - core.log.header.low) one there, length-drop a core.log.held))
    ∙ ap (λ (y : Kept). take (k - core.applied) (drop a core.log.held) ++ y ∷ []) item

module _ (core : Core) (k : ℕ) (old mid new : Meaning) (count : ℕ) (brought : BroughtTo core k old mid count) where
  same_mid : SameSizes old mid
  same_mid = moved_sizes (Waits core old) Anything old mid brought.moves

  pub more_moves : Moves (Waits core mid) Anything mid new → Moves (Waits core old) Anything old new
  more_moves moves = goes_on (Waits core old) (Waits core mid) Anything Anything old mid new brought.moves moves (waits_same core old mid same_mid) (λ i beside any. tt)

  pub one_brought : (one : ℕ) → core.log.header.low ≤ core.applied + 1 → core.applied ≤ k → BringsOne core (k + 1) mid new one → Moves (Waits core mid) Anything mid new
      → ((IsTrue mid.down → ⊥) → IsTrue new.down → ⊥) → BroughtTo core (k + 1) old new (count + one)
  one_brought one low from brings moves up =
      let size : ℕ → ℕ = volume_size core.units.vols old in
      let is : due core (k + 1) ≡ due core k ++ brings.kept ∷ [] = due_more core k brings.kept low from brings.there in
      record {
        count_is =
            omega (
              arith,
              brought.count_is,
              brings.count_is,
              within_same size (volume_size core.units.vols mid) (volume_same core.units.vols old mid same_mid) (brings.kept ∷ []),
              within_append size (due core k) (brings.kept ∷ []),
              ap (λ (ks : List Kept). blocks_within size ks) is,
            );
        each = subst (λ (ks : List Kept). All (ReadsNewest core size new) ks) (sym is)
            (All-push (ReadsNewest core size new) (due core k) brings.kept
            (All-weaker (ReadsNewest core size mid) (ReadsNewest core size new)
            (λ x reads. reads_sooner core old mid same_mid new x (brings.others x (reads_later core old mid same_mid mid x reads))) (due core k) brought.each)
            (reads_sooner core old mid same_mid new brings.kept brings.here));
        moves = more_moves moves;
        up = λ was. up (brought.up was);
      }

  -- the flush of all volumes behind them
  pub rest_moves : Moves Nowhere Anything mid new → Moves (Waits core old) Anything old new
  rest_moves moves = goes_on (Waits core old) Nowhere Anything Anything old mid new brought.moves moves (λ u b nowhere. absurd nowhere) (λ i beside any. tt)

  pub all_bring : (to : ℕ) → k ≡ to → VolumesFlushed core.units.vols mid new → Brings core to old new count
  all_bring to is flushed =
      subst (λ (n : ℕ). Brings core n old new count) is (record {
        count_is = brought.count_is;
        each =
            All-weaker (ReadsNewest core (volume_size core.units.vols old) mid) (KeepsNewest core (volume_size core.units.vols old) new)
            (λ x reads. record {
              each = λ v b bytes put newest. record {
                only = λ y left. (reads.each v b bytes put newest).only y (flushed.each v b y (put_there_is core.units.vols old x v b put) left);
              };
            }) (due core k) brought.each;
      })

-- ---- the group behind them

module _ (core : Core) (m m' : Meaning) (sound : IsSound core m) (to count : ℕ) (from : core.applied ≤ to) (brings : Brings core to m m' count) where
  abbrev size : ℕ → ℕ
  size = volume_size core.units.vols m

  all_waiting : length core.pending.entries ≡ count + blocks_within size (drop (to - core.applied) (drop (applied_count core) core.log.held))
  all_waiting =
      let j : ℕ = to - core.applied in
      let xs : List Kept = drop (applied_count core) core.log.held in
      omega (arith, sound.waiting, brings.count_is, within_append size (take j xs) (drop j xs), ap (λ (ks : List Kept). blocks_within size ks) (take-append-drop j xs))

  -- no more than wait
  pub bring_few : count ≤ length core.pending.entries
  bring_few = omega (arith, all_waiting)

  pub apply_sound : (mine : Blocks) (P : Says) → Moves mine P m m' → to ≤ last_of core → IsSound (core_applied core to count) m'
  apply_sound mine P moves known =
      let same : SameSizes m m' = moved_sizes mine P m m' moves in
      let at : applied_count core + (to - core.applied) ≡ count_to core.log to = omega (arith, sound.low, from) in
      let rest : drop (to - core.applied) (drop (applied_count core) core.log.held) ≡ drop (count_to core.log to) core.log.held
      = drop-drop (to - core.applied) (applied_count core) core.log.held ∙ ap (λ (n : ℕ). drop n core.log.held) at in
      record {
        placed = placed_same core.units m m' same sound.placed;
        maps = loaded_same core.units core.maps m m' same sound.maps;
        log_unit = sound.log_unit;
        lies = lies_same core.log.unit core.log.ring m m' same sound.lies;
        idle = λ running up. sound.idle running (was_up m.down m'.down moves.falls up);
        low = omega (arith, sound.low, from);
        known = known;
        room = sound.room;
        waiting =
            omega (
              arith,
              length-drop count core.pending.entries,
              all_waiting,
              ap (λ (ks : List Kept). blocks_within size ks) rest,
              within_same size (volume_size core.units.vols m') (volume_same core.units.vols m m' same) (drop (count_to core.log to) core.log.held),
            );
      }

-- the group as the code leaves it
pub applied_core : (v : Core) (to count : ℕ) (p : Pending) → p.entries ≡ drop count v.pending.entries → p.capacity ≡ v.pending.capacity
    → record v { pending = p; applied = to } ≡ core_applied v to count
applied_core v to count p entries capacity =
    ap (λ (es : List Entry). record v { pending = record { capacity = p.capacity; entries = es }; applied = to }) entries
    ∙ ap (λ (n : ℕ). record v { pending = record { capacity = n; entries = drop count v.pending.entries }; applied = to }) capacity
