-- What the setting of the fuse leaves of a site.
use Rattle.std.proofs.Common.{◌≡◌, ◌∙◌, ℕ, List, sym, refl, Option, Some, None, MatchOption, arith}
use Rattle.vx_history.specs.World.{Fuse, FuseSet, Node}
use Rattle.vx_diskset.specs.Holds.{KeptBeside}
use Rattle.vx_disk.specs.Causes.{OnDisks}
use Rattle.vx_disk.specs.Disks.{Disks, SameBlocks}
use Rattle.vx_disk.specs.Racks.{IsRack, Alike}
use Rattle.vx_disk.specs.Shelf.{Meaning, Keeps}
use Rattle.vx_srl.specs.Rings.{RingOn}
use Rattle.vx_overlay.specs.Writes.{newest_of}
use Rattle.vx_rvg.specs.Contents.{writes_of}
use Rattle.vx_rvg.specs.Holdings.{Holding}
use Rattle.vx_rvg.specs.Stands.{Stands}
use Rattle.vx_rvg.specs.Views.{Core, IsSound, unit_of}
use Rattle.vx_rvg.proofs.WriteSound.{ended_sound}
use Rattle.vx_diskset.specs.Fuses.{FuseOn, LetsOn}
use Rattle.vx_diskset.specs.Stands.{IsUpAt}
use Rattle.vx_diskset.proofs.Laying.{lies_as}
use Rattle.vx_diskset.proofs.BesideLemmas.{may_same, site_map}
use Rattle.vx_diskset.proofs.LastWrites.{still_with}

-- ---- a group on a rack of which only the fuse changed

pub alike_sound : (core : Core) (m new : Meaning) → Alike m new → new.down ≡ m.down → IsSound core m → IsSound core new
alike_sound core m new alike down sound =
    ended_sound core core.log core.halted m new (record { units = alike.contents.units; size = alike.contents.size }) sound (record { unit = refl; ring = refl; header = refl; held = refl })
    (λ running up. sound.idle running (sym down ∙ up))

keeps_alike : (m new : Meaning) → Alike m new → (u b : ℕ) (y : List ℕ) → Keeps m u b y → Keeps new u b y
keeps_alike m new alike u b y keeps = record { only = λ v left. keeps.only v (alike.contents.leaves u b v left) }

keeps_each : (m new : Meaning) → Alike m new → (o : Option (List ℕ)) (u b : ℕ) (y : List ℕ) → MatchOption o (Keeps m u b y) (λ bytes. bytes ≡ y) → MatchOption o (Keeps new u b y) (λ bytes. bytes ≡ y)
keeps_each m new alike (Some bytes) u b y is = is
keeps_each m new alike None u b y keeps = keeps_alike m new alike u b y keeps

pub alike_stands : (core : Core) (m new : Meaning) → Alike m new → (h : Holding) → Stands core h m → Stands core h new
alike_stands core m new alike h stands = record {
  log = stands.log;
  low = stands.low;
  writes = stands.writes;
  place = stands.place;
  maps = record { size = (let least = stands.maps.size in let same = alike.contents.size core.units.maps in omega (arith, least, same)); each = λ b bytes there. keeps_alike m new alike core.units.maps b bytes (stands.maps.each b bytes there) };
  marks = stands.marks;
  ready = record {
    ring = record {
      is_log = on.is_log;
      tracks = record {
        leaves = λ b v low left. on.tracks.leaves b v low (alike.contents.leaves core.log.unit b v left);
        reads = λ b v low reads. on.tracks.reads b v low (alike.contents.reads core.log.unit b v reads);
        beyond = on.tracks.beyond;
        beyond_read = on.tracks.beyond_read;
      };
      describes = on.describes;
    };
    idle = stands.ready.idle;
    whole = stands.ready.whole;
    sizes = record { each = λ v low. stands.ready.sizes.each v low ∙ sym (alike.contents.size (unit_of core.units.vols v)); none = stands.ready.sizes.none };
    content = record {
      each = λ v b low. keeps_each m new alike (newest_of h.content.size (writes_of stands.log.held) v b) (unit_of core.units.vols v) b (h.content.block v b) (stands.ready.content.each v b low);
    };
    waiting = stands.ready.waiting;
    settled = λ v b low none. keeps_alike m new alike (unit_of core.units.vols v) b (h.content.block v b) (stands.ready.settled v b low none);
  };
}
  where
    on : RingOn core.log stands.log m
    on = stands.ready.ring

pub lets_by : (calls pick : ℕ) (old new : Option Disks) → OnDisks old new (λ o n. SameBlocks o n × (n.fuse ≡ Some (calls, pick))) → (d : Disks) → new ≡ Some d → LetsOn calls new
lets_by calls pick None None with d is = tt
lets_by calls pick None (Some n) with d is = absurd with
lets_by calls pick (Some o) None with d is = absurd with
lets_by calls pick (Some o) (Some n) with d is = (pick, with.0.1)

-- a site that is up, on a shelf of which only the fuse changed
pub up_alike : {beside : KeptBeside} (n : Node) (fuse : Fuse) (c : Core) (m new : Meaning) → Alike m new → new.down ≡ m.down → FuseOn fuse new → IsUpAt beside n c m → IsUpAt beside (record n { fuse = fuse }) c new
up_alike n fuse c m new alike down on up = record {
  state = up.state;
  up = down ∙ up.up;
  fuse = on;
  lies = lies_as n m new alike.contents.units alike.contents.size up.lies;
  units = up.units;
  ring = up.ring;
  low = up.low;
  found = up.found;
  kept = up.kept;
  linked = λ told. up.linked (sym alike.contents.tells ∙ told);
  session = up.session;
  begun = λ told. up.begun (sym alike.contents.tells ∙ told);
  stamp = λ told none. up.stamp (sym alike.contents.tells ∙ told) none;
  fresh = λ origin told none one room. up.fresh origin (sym alike.contents.tells ∙ told) none one room;
  first = up.first;
  head = up.head;
  halted = up.halted;
  logged = up.logged;
  durable = up.durable;
  takes = up.takes;
  content = λ none told. still_with c n.log n.base m new (alike_stands c m new alike) (up.content none (sym alike.contents.tells ∙ told));
  left = λ i now. site_map n (record n { fuse = fuse }) i (λ has. record { count = has.count; least = has.least; most = has.most; found = has.found }) (up.left i (alike.contents.now i now));
  sure = up.sure;
  may = λ k is. may_same k m new alike.contents.units alike.contents.size alike.contents.tells (up.may k is);
}

-- a site that is up, with its fuse
pub up_fused : {beside : KeptBeside} (n : Node) (c : Core) (m new : Meaning) (calls pick : ℕ) → IsRack new → Alike m new → new.down ≡ m.down → OnDisks m.disks new.disks (λ o n. SameBlocks o n × (n.fuse ≡ Some (calls, pick)))
    → IsUpAt beside n c m → IsUpAt beside (record n { fuse = FuseSet calls }) c new
up_fused n c m new calls pick rack alike down disks up = up_alike n (FuseSet calls) c m new alike down (lets_by calls pick m.disks new.disks disks rack.told rack.is) up
