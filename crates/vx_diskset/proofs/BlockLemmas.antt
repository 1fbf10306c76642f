-- A replicated volume group on a shelf of which only the images and the earlier moments are others, as they are of one whose crashes leave each block by itself.
use Rattle.std.proofs.Common.{◌≡◌, ◌∙◌, inl, inr, ⊎_elim, ℕ, List, take, IsTrue, Option, None, arith, refl, subst, sym}
use Rattle.std.specs.Prelude.{IsFalse}
use Rattle.vx_blockwise.specs.Blocks.{blockwise, blockwise_since}
use Rattle.vx_blockwise.proofs.MixLemmas.{told_each}
use Rattle.vx_disk.specs.Disks.{Disks}
use Rattle.vx_disk.specs.Moves.{Nowhere}
use Rattle.vx_disk.specs.Racks.{Alike}
use Rattle.vx_disk.specs.Shelf.{Each, Image, Lawful, Meaning}
use Rattle.vx_grouped.specs.Volumes.{VolumesGo}
use Rattle.vx_history.specs.World.{Fuse, FuseLit, FuseSet, NoFuse, Node}
use Rattle.vx_model.specs.declared.call.Update.{Update}
use Rattle.vx_rvg.specs.Holdings.{Holding}
use Rattle.vx_rvg.specs.Stands.{Stands}
use Rattle.vx_rvg.specs.Views.{Core, IsSound}
use Rattle.vx_rvg.proofs.ContentFacts.{left_found}
use Rattle.vx_diskset.specs.Fuses.{FuseOn, LetsOn}
use Rattle.vx_diskset.specs.Holds.{HasSite, KeptBeside}
use Rattle.vx_diskset.specs.Stands.{IsHeldAt, IsReceiverAt, IsUpAt}
use Rattle.vx_diskset.proofs.BesideLemmas.{may_same}
use Rattle.vx_diskset.proofs.LastWrites.{still_with}
use Rattle.vx_diskset.proofs.Laying.{lies_as}
use Rattle.vx_diskset.proofs.OverFrames.{frame_sound, frame_stands}
use Rattle.vx_diskset.proofs.StaysUp.{up_found}

-- no more is read of a block, or left in it
pub record SeenAs (m k : Meaning) : Type 0 where
  pub units : k.units ≡ m.units
  pub size : (u : ℕ) → k.size u ≡ m.size u
  pub tells : k.tells ≡ m.tells
  pub reads : (u b : ℕ) (v : List ℕ) → k.reads u b v → m.reads u b v
  pub leaves : (u b : ℕ) (v : List ℕ) → k.leaves u b v → m.leaves u b v
  pub down : k.down ≡ m.down
  pub armed : k.armed ≡ m.armed
  pub disks : k.disks ≡ m.disks

fuse_seen : (f : Fuse) (m k : Meaning) → SeenAs m k → FuseOn f m → FuseOn f k
fuse_seen NoFuse m k seen has = seen.armed ∙ has
fuse_seen (FuseSet calls) m k seen has = subst (λ (o : Option Disks). LetsOn calls o) (sym seen.disks) has
fuse_seen (FuseLit most) m k seen has = tt

module _ (m k : Meaning) (seen : SeenAs m k) where
  seen_goes : VolumesGo Nowhere m k
  seen_goes = record {
    units = omega (arith, seen.units);
    size = λ u low. seen.size u;
    tells = seen.tells;
    reads = λ u b v low read. inl (seen.reads u b v read);
    leaves = λ u b v low left. inl (seen.leaves u b v left);
    falls = λ down. seen.down ∙ down;
    unarmed = λ none. seen.armed ∙ none;
  }

  pub seen_sound : (c : Core) → IsSound c m → IsSound c k
  seen_sound c sound = frame_sound c m k Nowhere seen_goes sound

  pub seen_stands : (c : Core) → IsSound c m → IsFalse m.down → (h : Holding) → Stands c h m → Stands c h k
  seen_stands c sound up = frame_stands c m k Nowhere seen_goes sound (seen.down ∙ up) (λ b none. none) (λ b none. none) (λ v b low none. none)

  module _ {beside : KeptBeside} (n : Node) (left : (i : Image) → k.now i → HasSite beside n i) where
    pub seen_up : (c : Core) → IsSound c m → IsUpAt beside n c m → IsUpAt beside n c k
    seen_up c sound up = record {
      state = up.state;
      up = seen.down ∙ up.up;
      fuse = fuse_seen n.fuse m k seen up.fuse;
      lies = lies_as n m k seen.units seen.size up.lies;
      low = up.low;
      units = up.units;
      ring = up.ring;
      found = up.found;
      kept = up.kept;
      linked = λ told. up.linked (sym seen.tells ∙ told);
      session = up.session;
      begun = λ told. up.begun (sym seen.tells ∙ told);
      stamp = λ told none. up.stamp (sym seen.tells ∙ told) none;
      fresh = λ origin told none one room. up.fresh origin (sym seen.tells ∙ told) none one room;
      first = up.first;
      head = up.head;
      halted = up.halted;
      logged = up.logged;
      durable = up.durable;
      takes = up.takes;
      content = λ none told. still_with c n.log n.base m k (seen_stands c sound up.up) (up.content none (sym seen.tells ∙ told));
      left = left;
      sure = up.sure;
      may = λ s is. may_same s m k seen.units seen.size seen.tells (up.may s is);
    }

    pub seen_receiver : (c : Core) (us : List Update) → IsSound c m → IsReceiverAt beside n c us m → IsReceiverAt beside n c us k
    seen_receiver c us sound r = record {
      state = r.state;
      role = r.role;
      up = seen.down ∙ r.up;
      fuse = fuse_seen n.fuse m k seen r.fuse;
      lies = lies_as n m k seen.units seen.size r.lies;
      low = r.low;
      units = r.units;
      ring = r.ring;
      found = r.found;
      kept = r.kept;
      linked = λ told. r.linked (sym seen.tells ∙ told);
      session = r.session;
      begun = λ told. r.begun (sym seen.tells ∙ told);
      stamp = λ told none. r.stamp (sym seen.tells ∙ told) none;
      first = r.first;
      least = r.least;
      most = r.most;
      head = r.head;
      halted = r.halted;
      waits = r.waits;
      takes = r.takes;
      content = λ none told. still_with c (take n.safe n.log) n.base m k (seen_stands c sound r.up) (r.content none (sym seen.tells ∙ told));
      left = left;
      sure = r.sure;
      may = λ s is. may_same s m k seen.units seen.size seen.tells (r.may s is);
    }

    pub seen_held : IsHeldAt beside n m → IsHeldAt beside n k
    seen_held held = record {
      lies = lies_as n m k seen.units seen.size held.lies;
      low = held.low;
      logged = held.logged;
      begun = λ told. held.begun (sym seen.tells ∙ told);
      left = left;
      may = λ s is. may_same s m k seen.units seen.size seen.tells (held.may s is);
    }

-- ---- a shelf, and it as crashes leave each block of it by itself

pub as_alone : (m : Meaning) → SeenAs m (blockwise m)
as_alone m = record { units = refl; size = λ u. refl; tells = refl; reads = λ u b v read. read; leaves = λ u b v left. left; down = refl; armed = refl; disks = refl }

pub alone_as : (m : Meaning) → SeenAs (blockwise m) m
alone_as m = record { units = refl; size = λ u. refl; tells = refl; reads = λ u b v read. read; leaves = λ u b v left. left; down = refl; armed = refl; disks = refl }

-- and with its past
module _ {S : Type 0} (meaning : S → Meaning) (past : List S) (m : Meaning) where
  pub as_since : SeenAs m (blockwise_since meaning past m)
  as_since = record { units = refl; size = λ u. refl; tells = refl; reads = λ u b v read. read; leaves = λ u b v left. left; down = refl; armed = refl; disks = refl }

  pub since_as : SeenAs (blockwise_since meaning past m) m
  since_as = record { units = refl; size = λ u. refl; tells = refl; reads = λ u b v read. read; leaves = λ u b v left. left; down = refl; armed = refl; disks = refl }

  pub alone_since : SeenAs (blockwise m) (blockwise_since meaning past m)
  alone_since = record { units = refl; size = λ u. refl; tells = refl; reads = λ u b v read. read; leaves = λ u b v left. left; down = refl; armed = refl; disks = refl }

  pub since_alone : SeenAs (blockwise_since meaning past m) (blockwise m)
  since_alone = record { units = refl; size = λ u. refl; tells = refl; reads = λ u b v read. read; leaves = λ u b v left. left; down = refl; armed = refl; disks = refl }

pub sound_alone : (c : Core) (m : Meaning) → IsSound c m → IsSound c (blockwise m)
sound_alone c m sound = seen_sound m (blockwise m) (as_alone m) c sound

-- what stands where crashes leave each block by itself stands where they leave images of these
pub alone_up : {beside : KeptBeside} (n : Node) (c : Core) (m : Meaning) → Lawful m → IsSound c m → IsUpAt beside n c (blockwise m) → IsUpAt beside n c m
alone_up n c m lawful sound up = seen_up (blockwise m) m (alone_as m) n (λ i now. up.left i (lawful.within i now)) c (sound_alone c m sound) up

pub alone_receiver : {beside : KeptBeside} (n : Node) (c : Core) (us : List Update) (m : Meaning) → Lawful m → IsSound c m → IsReceiverAt beside n c us (blockwise m) → IsReceiverAt beside n c us m
alone_receiver n c us m lawful sound r = seen_receiver (blockwise m) m (alone_as m) n (λ i now. r.left i (lawful.within i now)) c us (sound_alone c m sound) r

-- a site that runs has its content in each mix of what its blocks may have
pub up_alone : {beside : KeptBeside} (n : Node) (c : Core) (m : Meaning) → n.halted ≡ None → Lawful m → IsSound c m → IsUpAt beside n c m → IsUpAt beside n c (blockwise m)
up_alone {beside} n c m running lawful sound up = seen_up m (blockwise m) (as_alone m) n left c sound up
  where
    left : (i : Image) → (blockwise m).now i → HasSite beside n i
    left i each =
        let told : IsTrue m.tells = told_each m i lawful each in
        let stood = up.content running told in
        inl (up_found n c m i up running told (record { held = stood.held; has = stood.has; needs = stood.needs; found = left_found c stood.held m i sound.log_unit stood.stands each }))

-- as much of it is left as was
pub alike_blockwise : (m k : Meaning) → Alike m k → Alike (blockwise m) (blockwise k)
alike_blockwise m k alike = record {
  contents = record {
    units = alike.contents.units;
    size = alike.contents.size;
    tells = alike.contents.tells;
    moment = refl;
    reads = alike.contents.reads;
    still_reads = alike.contents.still_reads;
    leaves = alike.contents.leaves;
    still_leaves = alike.contents.still_leaves;
    now = less;
    still_now = more;
    since = λ t i left. ⊎_elim (λ each. inl (less i each)) (λ none. inr none) left;
    keeps = λ t i left. ⊎_elim (λ each. inl (more i each)) (λ none. inr none) left;
  };
  counts = record { faults = alike.counts.faults; disk_faults = alike.counts.disk_faults };
}
  where
    less : (i : Image) → Each k.leaves i → Each m.leaves i
    less i each u b = alike.contents.leaves u b (i u b) (each u b)

    more : (i : Image) → Each m.leaves i → Each k.leaves i
    more i each u b = alike.contents.still_leaves u b (i u b) (each u b)
