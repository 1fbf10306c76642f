-- However the events of a line end, each site that has data volumes has them still, and its log; and so has what a site in doubt may be on its disks.
use Rattle.std.proofs.Common.{◌≡◌, ◌∙◌, ℕ, List, [], ◌∷◌, refl, ap, sym, subst, Bool, true, false}
use Rattle.std.specs.Prelude.{Option, Some, None}
use Rattle.vx_history.proofs.GoodLemmas.{up_is_made}
use Rattle.vx_history.proofs.Updates.{all_updated, at_place}
use Rattle.vx_history.specs.Doubts.{After, Doubted, Runs, crashed_as, crashed_by, halved, happened, resolved_at, resolved_for, taken_up}
use Rattle.vx_history.specs.Events.{kept_of}
use Rattle.vx_history.specs.Good.{IsMade}
use Rattle.vx_history.specs.Refusals.{is_running}
use Rattle.vx_history.specs.Step.{step}
use Rattle.vx_history.specs.Steps.{stopped_by}
use Rattle.vx_history.specs.Stops.{AllDone, Cuts, EventsEnd, Halts, IsLikeDoubted, IsOpen, Reads, WritesAt}
use Rattle.vx_history.specs.World.{Node, World}
use Rattle.vx_history.specs.declared.event.Event.{Event}
use Rattle.vx_history.specs.declared.event.Event.TheVariants.{Volumes}
use Rattle.vx_world.proofs.Doubting.{happened_good, others, resolve_good, runs_good, world_good}
use Rattle.vx_world.proofs.Grows.{step_grows}
use Rattle.vx_world.proofs.Halving.{half}
use Rattle.vx_world.proofs.Rooms.{GivesNone, crash_room, room_at, room_back, room_of, room_self, room_then, step_room}
use Rattle.vx_world.specs.Lines.{DoubtsAlike, GoodDoubted, HasData, IsDoubt, NoDoubts, RoomStays, SameRoom}

-- no event gives data volumes to a site that has some, or that a disk halted
gives_none : (e : Event) (n : Node) → (n.volumes ≡ [] → is_running n.halted ≡ false) → GivesNone e n
gives_none (Volumes p log xs) n holds = holds
gives_none other n holds = tt

-- and none that writes a header does
writes_none : (w : World) (e : Event) (s : ℕ) (n : Node) → WritesAt w e s → GivesNone e n
writes_none w (Volumes p log xs) s n at = absurd at
writes_none w other s n at = tt

-- ---- a site in doubt that is resolved

resolved_room : (d : Doubted) (t : ℕ) (taken : Bool) → DoubtsAlike d → (i : ℕ) → SameRoom (d.world.nodes i) ((resolved_at d t taken).world.nodes i)
resolved_room d t false alike i = room_self (d.world.nodes i)
resolved_room d t true alike i = by_after (d.after t) refl
  where
    by_after : (o : Option After) → d.after t ≡ o → SameRoom (d.world.nodes i) ((taken_up d.world t o).nodes i)
    by_after None is = room_self (d.world.nodes i)
    by_after (Some a) is = room_at d.world i t a.node (λ _. alike t a is)

resolved_made : (d : Doubted) (t : ℕ) (taken : Bool) → GoodDoubted d → (i : ℕ) → IsMade (d.world.nodes i) → IsMade ((resolved_at d t taken).world.nodes i)
resolved_made d t false g i made = made
resolved_made d t true g i made = by_after (d.after t) refl
  where
    by_after : (o : Option After) → d.after t ≡ o → IsMade ((taken_up d.world t o).nodes i)
    by_after None is = made
    by_after (Some a) is =
        all_updated (λ k (m : Node). IsMade (d.world.nodes k) → IsMade m) d.world.nodes t a.node (λ _. up_is_made a.node (g.doubts t a is).up_too) (λ _ _ same. same) i made

-- of the others what they may be is as it was
resolved_alike : (d : Doubted) (t : ℕ) (taken : Bool) → DoubtsAlike d → DoubtsAlike (resolved_at d t taken)
resolved_alike d t taken alike s a is =
    let before = others d.after t s a is in
    room_then ((resolved_at d t taken).world.nodes s) (d.world.nodes s) a.node
    (room_back (d.world.nodes s) ((resolved_at d t taken).world.nodes s) (resolved_room d t taken alike s)) (alike s a before.1)

has_still : (n m : Node) → SameRoom n m → IsMade m → HasData n → HasData m
has_still n m same made has = (made, λ none. has.1 (sym same.volumes ∙ none))

-- ---- an event that is done

stepped_room : (d : Doubted) (e : Event) → GoodDoubted d → (i : ℕ) → HasData (d.world.nodes i) → SameRoom (d.world.nodes i) ((step d.world e).world.nodes i)
stepped_room d e g i has =
    room_of (d.world.nodes i) ((step d.world e).world.nodes i)
    (step_room d.world i (world_good d g).sound has.0 e (gives_none e (d.world.nodes i) (λ none. absurd (has.1 none))))

stepped_alike : (d : Doubted) (e : Event) → GoodDoubted d → DoubtsAlike d → DoubtsAlike (record d { world = (step d.world e).world })
stepped_alike d e g alike s a is =
    let n : Node = d.world.nodes s in
    let m : Node = (step d.world e).world.nodes s in
    let doubt : IsDoubt d.world s a = g.doubts s a is in
    room_then m n a.node
    (room_back n m (room_of n m (step_room d.world s (world_good d g).sound (up_is_made n doubt.up) e (gives_none e n (λ _. doubt.halted))))) (alike s a is)

stepped_has : (d : Doubted) (e : Event) → GoodDoubted d → (i : ℕ) → HasData (d.world.nodes i) → HasData ((step d.world e).world.nodes i)
stepped_has d e g i has =
    has_still (d.world.nodes i) ((step d.world e).world.nodes i) (stepped_room d e g i has) ((step_grows d.world e (world_good d g).sound).made i has.0) has

-- what goes on to hold of sites that have data volumes, and of those in doubt
record RoomGoes (d new : Doubted) : Type 0 where
  stays : RoomStays d new
  has : (i : ℕ) → HasData (d.world.nodes i) → HasData (new.world.nodes i)

goes_then : (d e f : Doubted) → RoomGoes d e → RoomGoes e f → RoomGoes d f
goes_then d e f x y = record {
  stays = record {
    sites = λ i has. room_then (d.world.nodes i) (e.world.nodes i) (f.world.nodes i) (x.stays.sites i has) (y.stays.sites i (x.has i has));
    doubts = y.stays.doubts;
  };
  has = λ i has. y.has i (x.has i has);
}

goes_resolved : (d : Doubted) (t : ℕ) (taken : Bool) → GoodDoubted d → DoubtsAlike d → RoomGoes d (resolved_at d t taken)
goes_resolved d t taken g alike = record {
  stays = record { sites = λ i _. resolved_room d t taken alike i; doubts = resolved_alike d t taken alike };
  has = λ i has. has_still (d.world.nodes i) ((resolved_at d t taken).world.nodes i) (resolved_room d t taken alike i) (resolved_made d t taken g i has.0) has;
}

goes_stepped : (d : Doubted) (e : Event) → GoodDoubted d → DoubtsAlike d → RoomGoes d (record d { world = (step d.world e).world })
goes_stepped d e g alike = record {
  stays = record { sites = λ i has. stepped_room d e g i has; doubts = stepped_alike d e g alike };
  has = λ i has. stepped_has d e g i has;
}

goes_happened : (d : Doubted) (e : Event) (taken : Bool) → GoodDoubted d → DoubtsAlike d → RoomGoes d (happened d e taken)
goes_happened d e taken g alike = by_crash (crashed_by e)
  where
    by_crash : (o : Option ℕ) → (let r = resolved_for o d taken in RoomGoes d (record r { world = (step r.world e).world }))
    by_crash None = goes_stepped d e g alike
    by_crash (Some t) =
        let r : Doubted = resolved_at d t taken in
        goes_then d r (record r { world = (step r.world e).world }) (goes_resolved d t taken g alike)
        (goes_stepped r e (resolve_good d t taken g) (resolved_alike d t taken alike))

goes_self : (d : Doubted) → DoubtsAlike d → RoomGoes d d
goes_self d alike = record {
  stays = record { sites = λ i _. room_self (d.world.nodes i); doubts = alike };
  has = λ i has. has;
}

goes_runs : (es : List Event) (d new : Doubted) → GoodDoubted d → DoubtsAlike d → Runs d es new → RoomGoes d new
goes_runs [] d new g alike is = subst (λ (e : Doubted). RoomGoes d e) (sym is) (goes_self d alike)
goes_runs (e ∷ es) d new g alike (taken, rest) =
    let next : Doubted = happened d e taken in
    let first : RoomGoes d next = goes_happened d e taken g alike in
    goes_then d next new first (goes_runs es next new (happened_good d e taken g) first.stays.doubts rest)

-- ---- an event that a disk or a fuse ends

module _ (d : Doubted) (e : Event) (site disk : ℕ) (g : GoodDoubted d) (alike : DoubtsAlike d) (opens : IsOpen (d.world.nodes site)) (at : WritesAt d.world e site) where
  abbrev done : World
  done = (step d.world e).world

  abbrev h : Doubted
  h = halved d e site disk

  abbrev mine : After
  mine = record { node = (stopped_by done site disk).nodes site; row = done.links site }

  halted_room : (i : ℕ) → SameRoom (d.world.nodes i) (h.world.nodes i)
  halted_room i = room_at d.world i site (half (d.world.nodes site) disk) (λ _. record { ring = refl; volumes = refl })

  halted_made : (i : ℕ) → IsMade (d.world.nodes i) → IsMade (h.world.nodes i)
  halted_made i made =
      all_updated (λ k (m : Node). IsMade (d.world.nodes k) → IsMade m) d.world.nodes site (half (d.world.nodes site) disk) (λ is. is) (λ _ _ is. is) i made

  -- the event leaves the site what it had
  may_room : SameRoom (d.world.nodes site) mine.node
  may_room =
      let n : Node = d.world.nodes site in
      let m : Node = done.nodes site in
      subst (λ (k : Node). SameRoom n k) (sym (at_place done.nodes site (half m disk)))
      (room_then n m (half m disk) (room_of n m (step_room d.world site (world_good d g).sound (up_is_made n opens.0) e (writes_none d.world e site n at)))
      (record { ring = refl; volumes = refl }))

  halved_alike : DoubtsAlike h
  halved_alike s a is =
      room_then (h.world.nodes s) (d.world.nodes s) a.node (room_back (d.world.nodes s) (h.world.nodes s) (halted_room s))
      (all_updated (λ k (o : Option After). o ≡ Some a → SameRoom (d.world.nodes k) a.node) d.after site (Some mine)
      (λ same. let here : mine ≡ a = cc in subst (λ (x : After). SameRoom (d.world.nodes site) x.node) here may_room) (λ k _ same. alike k a same) s is)

  goes_halved : RoomGoes d h
  goes_halved = record {
    stays = record { sites = λ i _. halted_room i; doubts = halved_alike };
    has = λ i has. has_still (d.world.nodes i) (h.world.nodes i) (halted_room i) (halted_made i has.0) has;
  }

-- a crash of a site in doubt
crash_falls : (d : Doubted) (s kept : ℕ) (taken : Bool) (i : ℕ) → SameRoom ((resolved_at d s taken).world.nodes i) ((crashed_as d s kept taken).world.nodes i)
crash_falls d s kept taken i =
    let r : World = (resolved_at d s taken).world in
    room_of (r.nodes i) ((crashed_as d s kept taken).world.nodes i) (crash_room r i s (kept_of (r.nodes s) kept))

crashed_stays : (d : Doubted) (s kept : ℕ) (taken : Bool) → DoubtsAlike d → RoomStays d (crashed_as d s kept taken)
crashed_stays d s kept taken alike =
    let r : Doubted = resolved_at d s taken in
    let v : World = (crashed_as d s kept taken).world in
    record {
      sites = λ i _. room_then (d.world.nodes i) (r.world.nodes i) (v.nodes i) (resolved_room d s taken alike i) (crash_falls d s kept taken i);
      doubts = λ t a is.
          room_then (v.nodes t) (r.world.nodes t) a.node (room_back (r.world.nodes t) (v.nodes t) (crash_falls d s kept taken t)) (resolved_alike d s taken alike t a is);
    }

-- ---- lines

like_room : (d last new : Doubted) → IsLikeDoubted last new → RoomStays d last → RoomStays d new
like_room d last new like stays = record {
  sites = λ i has. room_then (d.world.nodes i) (last.world.nodes i) (new.world.nodes i) (stays.sites i has) (noted i);
  doubts = λ s a is.
      room_then (new.world.nodes s) (last.world.nodes s) a.node (room_back (last.world.nodes s) (new.world.nodes s) (noted s)) (stays.doubts s a (sym (like.after s) ∙ is));
}
  where
    noted : (i : ℕ) → SameRoom (last.world.nodes i) (new.world.nodes i)
    noted i = record { ring = ap (λ (n : Node). n.ring) (like.worlds.nodes i); volumes = ap (λ (n : Node). n.volumes) (like.worlds.nodes i) }

-- worlds that differ in notes alone have the same sites, with the same data volumes
pub like_stays : (d e : Doubted) → IsLikeDoubted d e → DoubtsAlike d → RoomStays d e
like_stays d e like alike = like_room d d e like (goes_self d alike).stays

pub like_has : (d e : Doubted) → IsLikeDoubted d e → (i : ℕ) → HasData (d.world.nodes i) → HasData (e.world.nodes i)
like_has d e like i has = (
  λ bare. has.0 (sym (ap (λ (n : Node). n.state) (like.worlds.nodes i)) ∙ bare),
  λ none. has.1 (sym (ap (λ (n : Node). n.volumes) (like.worlds.nodes i)) ∙ none),
)

stays_then : (d e f : Doubted) → RoomGoes d e → RoomStays e f → RoomStays d f
stays_then d e f x y = record {
  sites = λ i has. room_then (d.world.nodes i) (e.world.nodes i) (f.world.nodes i) (x.stays.sites i has) (y.sites i (x.has i has));
  doubts = y.doubts;
}

pub line_room : (d new : Doubted) (events : List Event) (fails : List (ℕ × ℕ)) → GoodDoubted d → DoubtsAlike d → EventsEnd d events fails new → RoomStays d new
line_room d new events fails g alike (AllDone last runs failed like) = like_room d last new like (goes_runs events d last g alike runs).stays
line_room d new events fails g alike (Halts e site disk middle comes failed like) =
    let h : Doubted = halved middle e site disk in
    let first : RoomGoes d middle = goes_runs comes.before d middle g alike comes.runs in
    like_room d h new like
    (stays_then d middle h first
    (goes_halved middle e site disk (runs_good comes.before d middle g comes.runs) first.stays.doubts comes.opens comes.writes).stays)
line_room d new events fails g alike (Cuts e site kept taken middle comes fused failed like) =
    let h : Doubted = halved middle e site 0 in
    let first : RoomGoes d middle = goes_runs comes.before d middle g alike comes.runs in
    let then_halved : RoomGoes middle h =
    goes_halved middle e site 0 (runs_good comes.before d middle g comes.runs) first.stays.doubts comes.opens comes.writes in
    like_room d (crashed_as h site kept taken) new like
    (stays_then d h (crashed_as h site kept taken) (goes_then d middle h first then_halved) (crashed_stays h site kept taken then_halved.stays.doubts))
line_room d new events fails g alike (Reads before rest e site disk middle split runs quiet failed like) =
    like_room d middle new like (goes_runs before d middle g alike runs).stays

pub quiet_alike : (d : Doubted) → NoDoubts d → DoubtsAlike d
quiet_alike d none s a is = absurd (let e : None ≡ Some a = sym (none s) ∙ is in cc)
