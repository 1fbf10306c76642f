-- What want of memory leaves of a recovery where a group of disks has a replicated volume group, or of a line that makes one: good worlds, in which each
-- site has what it had, and of which what the disks hold stays known.
use Rattle.std.proofs.Common.{◌≡◌, ℕ, List, Bool, true, false}
use Rattle.vx_history.specs.Doubts.{Doubted}
use Rattle.vx_history.specs.Good.{IsMade}
use Rattle.vx_history.specs.Groups.{GroupNode}
use Rattle.vx_history.specs.World.{World}
use Rattle.vx_history.specs.declared.event.Event.{Event}
use Rattle.vx_script.specs.declared.line.ScriptLine.{ScriptLine}
use Rattle.vx_world.proofs.Doubting.{like_good}
use Rattle.vx_world.proofs.Lining.{line_good}
use Rattle.vx_world.specs.Lines.{DoubtsAlike, GoodDoubted, RoomStays, SameRoom}
use Rattle.vx_events.proofs.RvgAgain.{fits_again}
use Rattle.vx_events.proofs.RvgEnding.{short_stops}
use Rattle.vx_events.proofs.RvgShorts.{short_known, short_stays}
use Rattle.vx_events.proofs.RvgStays.{but_group}
use Rattle.vx_events.specs.Doubts.{run_as, with_disks}
use Rattle.vx_events.specs.GroupEnds.{BringsUp}
use Rattle.vx_events.specs.GroupLines.{group_noted, noting}
use Rattle.vx_events.specs.GroupNotes.{note_at}
use Rattle.vx_events.specs.RvgBack.{IsLeftBut, fall_first, fuse_left}
use Rattle.vx_events.specs.RvgFits.{FitsNoted}
use Rattle.vx_events.specs.RvgMakes.{RvgStops}
use Rattle.vx_events.specs.RvgParts.{RvgShort, ShortGroup, ShortLog, ShortMade}
use Rattle.vx_events.specs.RvgViews.{is_over_rvg}
use Rattle.vx_events.specs.Brights.{AllBright, IsBright}
use Rattle.vx_settling.proofs.BrightLines.{made_bright, next_bright}
use Rattle.vx_settling.proofs.Brights.{as_bright, disks_bright, group_noted_bright, lost_bright, noting_bright, run_bright}
use Rattle.vx_settling.proofs.RvgRooms.{has_data, stops_room}

but_bright : (lost : Bool) (s : ℕ) (line : ScriptLine) (taken : Bool) (next : GroupNode) (d last new : Doubted) → IsLeftBut lost s line taken next d last new
    → IsBright (new.world.nodes s) → AllBright d → AllBright last → AllBright new
but_bright lost s line taken next d last new left here before b =
    let known : next.dark ≡ false = next_bright (new.world.nodes s) next (but_group lost s line taken next d last new left) here in
    let u : World = with_disks taken s d.world last.world in
    let v : World = noting u s next in
    let w : World = group_noted s line v in
    as_bright last (fuse_left lost w s) new left
    (lost_bright lost w s (group_noted_bright s line v (noting_bright u s next known (disks_bright taken s d.world last.world before.sites b.sites)))) b

module _ (told : Type 0) (tells : told) (d : Doubted) (line : ScriptLine) (s : ℕ) (new : Doubted) where
  pub short_bright : AllBright d → (BringsUp line → (note_at (d.world.nodes s)).loose ≡ false) → RvgShort told d line s new → AllBright new
  short_bright b agree short = by short (short_known told d line s new (b.sites s) agree short)
    where
      by : RvgShort told d line s new → IsBright (new.world.nodes s) → AllBright new
      by (ShortGroup kept taken lost next has is notes left) here =
          let falls : List Event = fall_first (d.world.nodes s).state s kept in
          but_bright lost s line taken next d (run_as taken d falls) new left here b (run_bright taken d falls b)
      by (ShortLog kept taken fails middle next has is are back keeps cut left) here =
          let falls : List Event = fall_first (d.world.nodes s).state s kept in
          but_bright true s line taken next d (run_as taken d falls) new left here b (run_bright taken d falls b)
      by (ShortMade site srl maps volumes fails next is are notes left) here = made_bright s next d new left here b

pub short_good : (told : Type 0) (d : Doubted) (line : ScriptLine) (s : ℕ) (new : Doubted) → GoodDoubted d → RvgShort told d line s new → GoodDoubted new
short_good told d line s new good short =
    let x : RvgStops d new = short_stops told d line s new short in
    line_good x.before new x.events x.ending (like_good d x.before good x.like) x.stops

pub short_fits : (told : Type 0) (d : Doubted) (line : ScriptLine) (s : ℕ) (new : Doubted) → GoodDoubted d → DoubtsAlike d → IsMade (d.world.nodes s)
    → is_over_rvg (d.world.nodes s) ≡ true → RvgShort told d line s new → FitsNoted (d.world.nodes s) → FitsNoted (new.world.nodes s)
short_fits told d line s new good alike made over short fits =
    let stays : RoomStays d new = stops_room d new good alike (short_stops told d line s new short) in
    let same : SameRoom (d.world.nodes s) (new.world.nodes s) = stays.sites s (has_data (d.world.nodes s) made over) in
    fits_again (d.world.nodes s) (new.world.nodes s) same.ring same.volumes (short_stays told d line s new over short) fits
