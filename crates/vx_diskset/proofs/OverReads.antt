-- Reads of a replicated volume group on any shelf, by parts.
use Rattle.std.proofs.lemmas.List.{length-append, length-drop}
use Rattle.std.proofs.Common.{◌≡◌, ◌++◌, ◌/◌, ◌%◌, ◌<◌, ◌≤◌, ℕ, List, length, drop, take, length-take-le, ap, arith, subst, sym, IsTrue}
use Rattle.std.specs.Prelude.{OnOk, Result}
use Rattle.vx_model.specs.Content.{blocks_in}
use Rattle.vx_model.specs.declared.no.No.{No}
use Rattle.vx_history.specs.World.{Node}
use Rattle.vx_blockwise.specs.Blocks.{blockwise}
use Rattle.vx_disk.specs.Causes.{OnDisks}
use Rattle.vx_disk.specs.Disks.{Untouched}
use Rattle.vx_disk.specs.Shelf.{Goes, Lawful, Meaning, Nothing}
use Rattle.vx_ringio.specs.Bodies.{IsBlocks}
use Rattle.vx_rvg.specs.Contents.{ShowsContent}
use Rattle.vx_rvg.specs.Groups.{ReadIs, read_refusal}
use Rattle.vx_rvg.specs.Holdings.{Holding}
use Rattle.vx_rvg.specs.Stands.{Stands}
use Rattle.vx_rvg.specs.Views.{Core, IsSound, unit_of}
use Rattle.vx_diskset.specs.DiskSets.{CanRead}
use Rattle.vx_diskset.specs.Holds.{KeptBeside}
use Rattle.vx_diskset.specs.Shelves.{ReadAs}
use Rattle.vx_diskset.specs.Stands.{IsUpAt}
use Rattle.vx_diskset.specs.Works.{DoesRead}
use Rattle.vx_diskset.proofs.MakeGroup.{fuse_untouched}
use Rattle.vx_diskset.proofs.ReadGroup.{read_as}
use Rattle.vx_diskset.proofs.BlockLemmas.{alone_up}
use Rattle.vx_diskset.proofs.BlockWorks.{read_alone, read_changes}

module _ (c c' : Core) (volume start count : ℕ) (bytes : List ℕ) (m new : Meaning) (result : Result (Unit {0}) No) (lawful : Lawful m) (after : Lawful new) (sound : IsSound c m) (same : c' ≡ c) (sound' : IsSound c' new)
    (answers : ReadIs (read_refusal c (m.size (unit_of c.units.vols volume)) start (blocks_in bytes)) m new result) (gives : OnOk result ((h : Holding) → Stands c h m → IsTrue m.tells → ShowsContent h.content volume start (blocks_in bytes) bytes))
    (goes : Goes Nothing m new) (down : new.down ≡ m.down) (disks : OnDisks m.disks new.disks Untouched) where
  read_of : (beside : KeptBeside) (n : Node) → IsUpAt beside n c m → CanRead n volume start (blocks_in bytes) → ReadAs beside n volume start (blocks_in bytes) bytes c' m new result
  read_of beside n up can =
      subst (λ (k : Core). ReadAs beside n volume start (blocks_in bytes) bytes k m new result) (sym same)
      (read_as n c m new volume start (blocks_in bytes) bytes up can lawful after sound.log_unit goes down (fuse_untouched n.fuse m new disks goes.unarmed up.fuse) result answers gives)

  -- as crashes leave each block by itself
  read_blocks : (beside : KeptBeside) (n : Node) → IsUpAt beside n c (blockwise m) → CanRead n volume start (blocks_in bytes) → ReadAs beside n volume start (blocks_in bytes) bytes c' (blockwise m) (blockwise new) result
  read_blocks beside n up can = read_alone m new goes beside n volume start (blocks_in bytes) bytes c' result sound' up.left (read_of beside n (alone_up n c m lawful sound up) can)

  pub does_read : (room : List ℕ) → length room ≡ 8192 → take count room ≡ bytes → DoesRead c volume start count m c' room new result
  does_read room size front = record {
    keeps = record { sound = sound'; units = ap (λ (k : Core). k.units) same; moves = read_changes c m new goes };
    same = same;
    long = size;
    read = λ beside n up.
        subst (λ (b : List ℕ). CanRead n volume start (blocks_in b) → ReadAs beside n volume start (blocks_in b) b c' (blockwise m) (blockwise new) result) (sym front) (read_blocks beside n up);
    down = down;
  }

-- so many bytes of a room are whole blocks
pub front_blocks : (count : ℕ) (room : List ℕ) → length room ≡ 8192 → 0 < count → count ≤ 8192 → count % 512 ≡ 0 → IsBlocks (take count room)
front_blocks count room long some few whole =
    let same : length (take count room) ≡ count = length-take-le count room (omega (arith, few, long)) in
    record {
      some = omega (arith, some, same);
      few = omega (arith, few, same);
      whole = subst (λ (n : ℕ). n % 512 ≡ 0) (sym same) whole;
    }

-- and with what was read in front it is as long
pub front_room : (count : ℕ) (bytes room : List ℕ) → length room ≡ 8192 → count ≤ 8192 → length bytes ≡ count → length (bytes ++ drop count room) ≡ 8192
front_room count bytes room long few same = omega (arith, length-append bytes (drop count room), length-drop count room, long, few, same)

-- the same where as many bytes were given as were read
module _ (c c' : Core) (volume start count : ℕ) (bytes room : List ℕ) (given : ℕ) (long : given ≡ length bytes) (m new : Meaning) (result : Result (Unit {0}) No) (lawful : Lawful m) (after : Lawful new) (sound : IsSound c m) (same : c' ≡ c) (sound' : IsSound c' new)
    (answers : ReadIs (read_refusal c (m.size (unit_of c.units.vols volume)) start (given / 512)) m new result) (gives : OnOk result ((h : Holding) → Stands c h m → IsTrue m.tells → ShowsContent h.content volume start (given / 512) bytes))
    (goes : Goes Nothing m new) (down : new.down ≡ m.down) (disks : OnDisks m.disks new.disks Untouched) (size : length room ≡ 8192) (front : take count room ≡ bytes) where
  pub reads_room : DoesRead c volume start count m c' room new result
  reads_room =
      does_read c c' volume start count bytes m new result lawful after sound same sound'
      (subst (λ (k : ℕ). ReadIs (read_refusal c (m.size (unit_of c.units.vols volume)) start (k / 512)) m new result) long answers)
      (subst (λ (k : ℕ). OnOk result ((h : Holding) → Stands c h m → IsTrue m.tells → ShowsContent h.content volume start (k / 512) bytes)) long gives) goes down disks room size front

-- what stands at the front of the room has as many bytes as were asked for
pub room_front : (count : ℕ) (room : List ℕ) → length room ≡ 8192 → count ≤ 8192 → length (take count room) ≡ count
room_front count room long few = length-take-le count room (omega (arith, few, long))

-- so a read is by the bytes that were asked for
pub read_front : (beside : KeptBeside) (n : Node) (c' : Core) (volume start count : ℕ) (room into : List ℕ) (m new : Meaning) (result : Result (Unit {0}) No) → length room ≡ 8192 → count ≤ 8192 → into ≡ take count room
    → (CanRead n volume start (blocks_in (take count room)) → ReadAs beside n volume start (blocks_in (take count room)) (take count room) c' m new result) → CanRead n volume start (count / 512) → ReadAs beside n volume start (count / 512) into c' m new result
read_front beside n c' volume start count room into m new result long few is reads =
    subst (λ (xs : List ℕ). CanRead n volume start (count / 512) → ReadAs beside n volume start (count / 512) xs c' m new result) (sym is)
    (subst (λ (k : ℕ). CanRead n volume start (k / 512) → ReadAs beside n volume start (k / 512) (take count room) c' m new result) (room_front count room long few) reads)
