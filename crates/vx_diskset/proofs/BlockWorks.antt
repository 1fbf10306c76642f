-- Work on a replicated volume group on a shelf around another one, whose crashes leave each block by itself: what it makes of the shelf inside.
use Rattle.std.proofs.Common.{◌≡◌, ⊎_elim, inl, ℕ, List, refl}
use Rattle.std.specs.Prelude.{IfOk, IsFalse, None, Ok, Err, Result}
use Rattle.vx_blockwise.specs.Blocks.{blockwise, blockwise_since}
use Rattle.vx_disk.specs.Shelf.{Goes, Image, Meaning, Nothing}
use Rattle.vx_history.specs.Steps.{half_begun, logged, worked}
use Rattle.vx_history.specs.World.{Node}
use Rattle.vx_model.specs.Content.{Write, blocks_in}
use Rattle.vx_model.specs.declared.call.Update.{Update}
use Rattle.vx_model.specs.declared.no.No.{No}
use Rattle.vx_model.specs.declared.no.No.TheVariants.{Device, Limit, Down as IsOff}
use Rattle.vx_rvg.specs.Views.{Core, IsSound}
use Rattle.vx_diskset.specs.Burning.{OffIf}
use Rattle.vx_diskset.specs.DiskSets.{CanLog, halted_at, halted_with}
use Rattle.vx_diskset.specs.Holds.{HasSite, KeptBeside}
use Rattle.vx_diskset.specs.Needs.{HasRoom}
use Rattle.vx_diskset.specs.Rooms.{AppliedAs, IsMore, TakesOne, logged_count}
use Rattle.vx_diskset.specs.Shelves.{ChangesOn, LoggedAs, MovesOn, ReadAs}
use Rattle.vx_diskset.specs.Stands.{IsHeldAt, IsUpAt}
use Rattle.vx_diskset.specs.Works.{DoesApply, DoesWrite, KeepsSound, ShownAs}
use Rattle.vx_diskset.proofs.BlockLemmas.{alone_since, as_alone, as_since, seen_held, seen_receiver, seen_sound, seen_up, since_alone, since_as}

-- a read changes none
pub read_changes : (c : Core) (old new : Meaning) → Goes Nothing old new → ChangesOn c old new
read_changes c old new goes = record { units = goes.units; size = goes.size; tells = goes.tells; leaves = λ u b v left. ⊎_elim (λ was. inl was) (λ none. absurd none) (goes.leaves u b v left) }

pub no_changes : (c : Core) (m : Meaning) → ChangesOn c m m
no_changes c m = record { units = refl; size = λ u. refl; tells = refl; leaves = λ u b v left. inl left }

-- ---- calls that write

module _ {S : Type 0} (meaning : S → Meaning) (past past' : List S) (m m' : Meaning) (c d : Core) where
  abbrev mixed : Meaning
  mixed = blockwise_since meaning past m

  abbrev mixed' : Meaning
  mixed' = blockwise_since meaning past' m'

  -- the site before the call, with its past
  up_before : {beside : KeptBeside} (n : Node) → IsSound c mixed → IsUpAt beside n c (blockwise m) → IsUpAt beside n c mixed
  up_before n sound up = seen_up (blockwise m) mixed (alone_since meaning past m) n (λ i each. up.left i each) c (seen_sound mixed (blockwise m) (since_alone meaning past m) c sound) up

  module _ (sound' : IsSound d mixed') where
    keeps_inside : d.units ≡ c.units → MovesOn c mixed mixed' → KeepsSound c d m m'
    keeps_inside units moves = record {
      sound = seen_sound mixed' m' (since_as meaning past' m') d sound';
      units = units;
      moves = record { units = moves.units; size = moves.size; tells = moves.tells; leaves = moves.leaves };
    }

    -- and behind it, without
    up_behind : {beside : KeptBeside} (n : Node) → IsUpAt beside n d mixed' → IsUpAt beside n d (blockwise m')
    up_behind n up = seen_up mixed' (blockwise m') (since_alone meaning past' m') n (λ i each. up.left i each) d sound' up

    held_behind : {beside : KeptBeside} (n : Node) → IsHeldAt beside n mixed' → IsHeldAt beside n (blockwise m')
    held_behind n held = seen_held mixed' (blockwise m') (since_alone meaning past' m') n (λ i each. held.left i each) held

    logged_behind : (beside : KeptBeside) (n : Node) (x : Write) (r : Result ℕ No) → LoggedAs beside n x mixed d mixed' r → LoggedAs beside n x (blockwise m) d (blockwise m') r
    logged_behind beside n x (Ok number) it = (it.0, it.1, up_behind (logged n x) it.2, it.3)
    logged_behind beside n x (Err (Device disk)) it = (up_behind (halted_with n x disk) it.0, it.1, it.2)
    logged_behind beside n x (Err (Limit what most)) it = (it.0, it.1, up_behind (worked n) it.2)
    logged_behind beside n x (Err IsOff) it = (it.0, held_behind (half_begun n x) it.1, it.2, it.3)
    logged_behind beside n x (Err other) it = it

    applied_behind : (beside : KeptBeside) (n : Node) (to : ℕ) (r : Result ℕ No) → AppliedAs beside n to d mixed mixed' r → AppliedAs beside n to d (blockwise m) (blockwise m') r
    applied_behind beside n to (Ok number) it = (it.0, it.1, up_behind (worked n) it.2)
    applied_behind beside n to (Err (Device disk)) it = (up_behind (halted_at n disk) it.0, it.1)
    applied_behind beside n to (Err IsOff) it = (it.0, held_behind n it.1)
    applied_behind beside n to (Err other) it = it

    module _ (sound : IsSound c mixed) (units : d.units ≡ c.units) (moves : MovesOn c mixed mixed') (r : Result ℕ No) where
      pub write_inside : (volume start : ℕ) (bytes : List ℕ) (hold : ℕ)
          → ((beside : KeptBeside) (n : Node) → IsUpAt beside n c mixed → CanLog n volume start (blocks_in bytes) → HasRoom beside.links n hold (blocks_in bytes) → LoggedAs beside n (record { volume = volume; start = start; bytes = bytes }) mixed d mixed' r)
          → TakesOne c d r → IsMore (logged_count r) c d → (IsFalse mixed.down → OffIf r mixed'.down) → DoesWrite c volume start bytes hold m d m' r
      write_inside volume start bytes hold wrote takes more off = record {
        keeps = keeps_inside units moves;
        wrote = λ beside n up can room. logged_behind beside n (record { volume = volume; start = start; bytes = bytes }) r (wrote beside n (up_before n sound up) can room);
        takes = takes;
        more = more;
        off = off;
      }

      pub apply_inside : (to : ℕ) → ((beside : KeptBeside) (n : Node) → IsUpAt beside n c mixed → n.halted ≡ None → AppliedAs beside n to d mixed mixed' r) → IfOk r (λ number. d.applied ≡ number) → OffIf r mixed'.down → DoesApply c to m d m' r
      apply_inside to applied reached off = record {
        keeps = keeps_inside units moves;
        applied = λ beside n up running. applied_behind beside n to r (applied beside n (up_before n sound up) running);
        reached = reached;
        off = off;
      }

-- what is asked of the group, with the past
pub sound_before : {S : Type 0} (meaning : S → Meaning) (past : List S) (m : Meaning) (c : Core) → IsSound c m → IsSound c (blockwise_since meaning past m)
sound_before meaning past m c sound = seen_sound m (blockwise_since meaning past m) (as_since meaning past m) c sound

-- ---- calls that read

module _ (m new : Meaning) (goes : Goes Nothing m new) where
  left_read : {beside : KeptBeside} (n : Node) → ((i : Image) → (blockwise m).now i → HasSite beside n i) → (i : Image) → (blockwise new).now i → HasSite beside n i
  left_read n left i each = left i (λ u b. ⊎_elim (λ was. was) (λ none. absurd none) (goes.leaves u b (i u b) (each u b)))

  pub read_alone : (beside : KeptBeside) (n : Node) (volume start count : ℕ) (bytes : List ℕ) (d : Core) (r : Result (Unit {0}) No) → IsSound d new → ((i : Image) → (blockwise m).now i → HasSite beside n i) → ReadAs beside n volume start count bytes d m new r
      → ReadAs beside n volume start count bytes d (blockwise m) (blockwise new) r
  read_alone beside n volume start count bytes d (Ok done) sound left it = (it.0, seen_up new (blockwise new) (as_alone new) n (left_read n left) d sound it.1)
  read_alone beside n volume start count bytes d (Err (Device disk)) sound left it = (seen_up new (blockwise new) (as_alone new) n (left_read n left) d sound it.0, it.1)
  read_alone beside n volume start count bytes d (Err other) sound left it = it

  pub shown_alone : (beside : KeptBeside) (n : Node) (volume start count : ℕ) (bytes : List ℕ) (d : Core) (us : List Update) (r : Result (Unit {0}) No) → IsSound d new → ((i : Image) → (blockwise m).now i → HasSite beside n i) → ShownAs beside n volume start count bytes d us m new r
      → ShownAs beside n volume start count bytes d us (blockwise m) (blockwise new) r
  shown_alone beside n volume start count bytes d us (Ok done) sound left it = (it.0, seen_receiver new (blockwise new) (as_alone new) n (left_read n left) d us sound it.1)
  shown_alone beside n volume start count bytes d us (Err (Device disk)) sound left it = (seen_receiver new (blockwise new) (as_alone new) n (left_read n left) d us sound it.0, it.1)
  shown_alone beside n volume start count bytes d us (Err other) sound left it = it
