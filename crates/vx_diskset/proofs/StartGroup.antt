-- What the start of a site that crashed leaves of it.
use Rattle.std.proofs.Common.{◌-◌, ◌≡◌, ◌⊎◌, inl, inr, ⊎_elim, ℕ, ◌+◌, ◌*◌, ◌<◌, ◌≤◌, Bool, true, false, List, [], length, Option, None, IsTrue, refl, sym, ◌∙◌, ap, subst, arith}
use Rattle.std.specs.Prelude.{IsFalse}
use Rattle.vx_disk.specs.Maps.{maps_of}
use Rattle.vx_model.specs.Content.{Content, Write}
use Rattle.vx_history.specs.World.{Node, Fuse}
use Rattle.vx_history.specs.Steps.{recovered}
use Rattle.vx_model.specs.Sizes.{ring_of}
use Rattle.vx_model.specs.declared.no.Counted.{Counted}
use Rattle.vx_model.specs.declared.no.No.{No}
use Rattle.vx_model.specs.declared.no.No.TheVariants.{Device, Limit, NoConfig, Damaged, Down as IsOff}
use Rattle.vx_model.specs.declared.site.SiteState.TheVariants.{Bare as IsBare, Up as IsUp, Down as IsDown}
use Rattle.vx_model.specs.declared.state.State.{State}
use Rattle.vx_model.specs.declared.units.Units.{Units}
use Rattle.vx_diskset.specs.Holds.{KeptBeside}
use Rattle.vx_disk.specs.Counts.{Rose}
use Rattle.vx_disk.specs.Moves.{Moves, Run}
use Rattle.vx_disk.specs.Racks.{IsRack, Alike, Stopped}
use Rattle.vx_disk.specs.Shelf.{Meaning, Image, Keeps, Lawful, Goes, Nothing}
use Rattle.vx_overlay.specs.Writes.{newest_of}
use Rattle.std.specs.Prelude.{MatchOption, Some, Err}
use Rattle.vx_rvg.specs.Holdings.{Holding}
use Rattle.vx_rvg.specs.Stands.{LeftGroup}
use Rattle.vx_rvg.specs.Starts.{IsStarted, Room, Starting, StartCause, NothingLeft, ring_in}
use Rattle.vx_rvg.specs.Views.{Core, UnitsPlaced, last_of, unit_of}
use Rattle.vx_rvg.proofs.MapStands.{room_as}
use Rattle.vx_rvg.proofs.WriteSound.{maps_fit_as}
use Rattle.vx_model.specs.declared.limits.TheConstants.{LINK_PLACES}
use Rattle.vx_rvg.proofs.ContentFacts.{stands_last}
use Rattle.vx_srl.specs.Starts.{ReadsAtLimit}
use Rattle.vx_srl.specs.Views.{most_number}
use Rattle.vx_rvg.specs.declared.group.Rvg.{Rvg}
use Rattle.vx_disk.specs.declared.shelf.Shelf.{Ghosts}
use Rattle.vx_diskset.specs.declared.disk_set.DiskSet.{DiskSet}
use Rattle.vx_diskset.specs.declared.disk_set.DiskSet.TheVariants.{Bare, Spoiled, Up, Receives, Down, OfGroup, Over, Gone}
use Rattle.vx_diskset.proofs.GroupStands.{apart_bare, none_apart}
use Rattle.vx_diskset.proofs.MakeGroup.{placed_raw}
use Rattle.vx_diskset.specs.DiskSets.{CanStart, CameUp, CameUpIs, no_number}
use Rattle.vx_events.specs.Found.{SameDisks}
use Rattle.vx_diskset.specs.Holds.{HasWrites, state_with}
use Rattle.vx_diskset.specs.Layouts.{IsRoomOf, LiesRaw, raw_units}
use Rattle.vx_diskset.proofs.Laying.{maps_few, maps_fit, raw_as, raw_on, sizes_of, units_raw}
use Rattle.vx_diskset.specs.Holds.{most_header}
use Rattle.vx_diskset.specs.Fuses.{FuseOn}
use Rattle.vx_diskset.specs.Stands.{IsUpAt, IsDownAt, SiteStands, faults_at}
use Rattle.vx_diskset.specs.Lasts.{FoundWith, HasLast, LeftWith, StandsHolding}
use Rattle.vx_diskset.proofs.CrashGroup.{one_value, found_left_with, left_with}
use Rattle.vx_diskset.proofs.BesideLemmas.{never_besides}
use Rattle.vx_diskset.proofs.LastWrites.{stands_with}
use Rattle.vx_diskset.specs.Needs.{NoneNeeds, TakesAs}
use Rattle.vx_diskset.proofs.NeedLemmas.{ins_length, stand_ins, takes_ins, takes_told}
use Rattle.vx_diskset.proofs.Sessions.{header_below, found_below_most, next_below}
use Rattle.vx_diskset.proofs.StaysUp.{found_below, not_true, never_both, told_now, left_moved, writes_found}
use Rattle.vx_diskset.proofs.RawSets.{raw_alone}

-- ---- calls that change no contents

keeps_less : (m new : Meaning) (u b : ℕ) (bytes : List ℕ) (o : Option (List ℕ)) → ((v : List ℕ) → new.leaves u b v → m.leaves u b v)
    → MatchOption o (Keeps m u b bytes) (λ x. x ≡ bytes) → MatchOption o (Keeps new u b bytes) (λ x. x ≡ bytes)
keeps_less m new u b bytes (Some x) less is = is
keeps_less m new u b bytes None less keeps = record { only = λ v left. keeps.only v (less v left) }

pub left_still : (units : Units) (ring : ℕ) (state : State) (session stamp : ℕ) (h : Holding) (m new : Meaning) → new.tells ≡ m.tells → ((u : ℕ) → new.size u ≡ m.size u)
    → ((u b : ℕ) (v : List ℕ) → new.leaves u b v → m.leaves u b v) → LeftGroup units ring state session stamp h m → LeftGroup units ring state session stamp h new
left_still units ring state session stamp h m new tells size less left = record {
  header = left.header;
  records = left.records;
  kinds = left.kinds;
  leaves = record {
    tells = tells ∙ left.leaves.tells;
    each = λ b v low is. left.leaves.each b v low (less units.srl b v is);
    beyond = left.leaves.beyond;
  };
  recovers = left.recovers;
  state_is = left.state_is;
  session_is = left.session_is;
  stamp_most = left.stamp_most;
  some = left.some;
  low_is = left.low_is;
  writes_are = left.writes_are;
  place_is = left.place_is;
  sizes = record { each = λ v there. left.sizes.each v there ∙ sym (size (unit_of units.vols v)); none = left.sizes.none };
  content = record {
    each = λ v b low. keeps_less m new (unit_of units.vols v) b (h.content.block v b) (newest_of h.content.size h.writes v b) (less (unit_of units.vols v) b) (left.content.each v b low);
  };
  maps = record {
    size = (let least = left.maps.size in let same = size units.maps in omega (arith, least, same));
    each = λ b bytes there. record { only = λ v is. (left.maps.each b bytes there).only v (less units.maps b v is) };
  };
}

pub left_still_with : (units : Units) (ring : ℕ) (state : State) (session stamp : ℕ) (xs : List Write) (c : Content) (m new : Meaning) → new.tells ≡ m.tells → ((u : ℕ) → new.size u ≡ m.size u)
    → ((u b : ℕ) (v : List ℕ) → new.leaves u b v → m.leaves u b v) → LeftWith units ring state session stamp xs c m → LeftWith units ring state session stamp xs c new
left_still_with units ring state session stamp xs c m new tells size less with = record { held = with.held; has = with.has; needs = with.needs; left = left_still units ring state session stamp with.held m new tells size less with.left }

-- a site that is down stays so
pub down_still : {beside : KeptBeside} (n : Node) (m new : Meaning) → Goes Nothing m new → new.down ≡ m.down → new.armed ≡ m.armed → IsDownAt beside n m → IsDownAt beside n new
down_still {beside} n m new goes down armed is = record {
  state = is.state;
  unfused = is.unfused;
  down = down ∙ is.down;
  unarmed = armed ∙ is.unarmed;
  sure = is.sure;
  raw = is.raw;
  lies = raw_as n.disks n.blocks n.ring n.volumes n.base.size m new goes.units goes.size is.lies;
  logged = is.logged;
  low = is.low;
  begun = λ tells. is.begun (sym goes.tells ∙ tells);
  left = λ tells. left_still_with (raw_units n.disks) n.ring (state_with n beside.links) n.session (most_header beside n) n.log n.base m new goes.tells goes.size
      (λ u b v left. ⊎_elim (λ was. was) (λ none. absurd none) (goes.leaves u b v left)) (is.left (sym goes.tells ∙ tells));
}

-- ---- a site with what stands on its disks

abbrev pub found_site : Node → State → ℕ → ℕ → List Write → Node
found_site n state session last log = record n {
  state = IsUp;
  role = state.role;
  line = state.line;
  parent = state.parent;
  fork = state.fork;
  top = state.top;
  session = session;
  mark = state.mark;
  phase = state.phase;
  replay = state.replay;
  end = state.end;
  other = state.other;
  log = log;
  safe = last;
  halted = None;
}

-- a site that came up, as a start has it
pub record Came (beside : KeptBeside) (n : Node) (core : Core) (m : Meaning) : Type 0 where
  pub node : Node
  pub is : IsTrue m.tells → node ≡ recovered n
  pub same : SameDisks n node
  pub stands : IsUpAt beside node core m
  pub next : IsTrue m.tells → n.session < most_number

never_untold : {b : Bool} → b ≡ true → b ≡ false → ⊥
never_untold is not = cc

-- a site that is down, revived and started
module _ {beside : KeptBeside} (n : Node) (m up : Meaning) (is : IsDownAt beside n m) (alike : Alike m up) (risen : IsFalse up.down) (armed : up.armed ≡ m.armed) where
  abbrev units : Units
  units = raw_units n.disks

  ring_here : ring_in units up ≡ n.ring
  ring_here = ap ring_of (alike.contents.size 0) ∙ sym is.lies.laid.ring_is

  left_up : IsTrue up.tells → LeftWith units (ring_in units up) (state_with n beside.links) n.session (most_header beside n) n.log n.base up
  left_up tells =
      subst (λ (r : ℕ). LeftWith units r (state_with n beside.links) n.session (most_header beside n) n.log n.base up) (sym ring_here)
      (left_still_with units n.ring (state_with n beside.links) n.session (most_header beside n) n.log n.base m up alike.contents.tells alike.contents.size alike.contents.leaves (is.left (sym alike.contents.tells ∙ tells)))

  module _ (new : Meaning) (lawful : Lawful up) (after : Lawful new)
      (moves : Moves (Run units.srl 0 (ring_in units up + 2)) (Starting units up) up new) where
    unarmed : IsFalse up.armed
    unarmed = armed ∙ is.unarmed

    still_up : IsTrue new.down → ⊥
    still_up down = never_both up.down (moves.safe unarmed down) risen

    -- with the log that a start took up
    started_up : (core : Core) (state : State) (session last : ℕ) (log : List Write) → (IsTrue new.tells → 1 < session) → IsStarted units up core new → core.log.header.state ≡ state → (IsTrue new.tells → state.links ≡ beside.links)
        → core.log.header.incarnation ≡ session → (IsTrue new.tells → core.log.header.stamp + 1 ≤ most_header beside (found_site n state session last log)) → last_of core ≡ last → length log ≡ last
        → TakesAs core.log log → (IsTrue new.tells → StandsHolding core log n.base new) → ((i : Image) → new.now i → HasWrites beside (found_site n state session last log) i)
        → IsUpAt beside (found_site n state session last log) core new
    started_up core state session last log begun started kept unlinked incarnation stamp head logged takes content left = record {
      state = refl;
      up = not_true new.down still_up;
      lies = raw_on (found_site n state session last log) new is.raw (raw_as n.disks n.blocks n.ring n.volumes n.base.size m new (moves.units ∙ alike.contents.units) (λ u. moves.size u ∙ alike.contents.size u) is.lies);
      fuse = subst (λ (f : Fuse). FuseOn f new) (sym is.unfused) (moves.unarmed unarmed);
      units = started.units_are ∙ sym (units_raw n is.raw);
      ring = started.ring_is ∙ ring_here;
      low = is.low;
      found = state.links;
      kept = kept;
      linked = unlinked;
      session = incarnation;
      begun = λ tells. let more = begun tells in omega (arith, more);
      stamp = λ tells _. stamp tells;
      fresh = λ origin tells _ one room. let more = begun tells in absurd (omega (arith, more, one));
      first = omega (arith, started.applied);
      head = head;
      halted = started.running;
      logged = omega (arith, logged);
      durable = λ _. omega (arith, logged);
      takes = λ _. takes;
      content = λ _ tells. content tells;
      left = λ i now. inl (left i now);
      sure = λ none. is.sure;
      may = never_besides beside.doubt new is.sure;
    }

    same_disks : (state : State) (session last : ℕ) (log : List Write) → SameDisks n (found_site n state session last log)
    same_disks state session last log = record { name = refl; disks = refl; blocks = refl; volumes = refl; up = refl; running = refl; failing = refl; fuse = refl; group = refl }

    came_by : (b : Bool) → new.tells ≡ b → (core : Core) → core.log.unit ≡ core.units.srl → core.log.staged ≡ [] → IsStarted units up core new → Came beside n core new
    came_by true tells core unit_is idle started =
        let told : IsTrue up.tells = sym moves.tells ∙ tells in
        let with = left_up told in
        let has = started.each (state_with n beside.links) n.session (most_header beside n) with.held with.left in
        let stood : StandsHolding core n.log n.base new = record {
          held = with.held;
          has = subst (λ (r : ℕ). HasLast r n.log n.base with.held) (sym started.ring_is) with.has;
          needs = subst (λ (s : State). NoneNeeds s.links (with.held.low - 1)) (sym has.0) with.needs;
          stands = has.3;
        } in
        let head : last_of core ≡ n.safe = (let last = stands_last core with.held new has.3 (omega (arith, started.applied)) in omega (arith, last, with.has.last, is.logged)) in
        record {
          node = recovered n;
          is = λ _. refl;
          same = same_disks (state_with n beside.links) (n.session + 1) n.safe n.log;
          stands = started_up core (state_with n beside.links) (n.session + 1) n.safe n.log (λ _. let some = is.begun (sym alike.contents.tells ∙ told) in omega (arith, some)) started has.0 (λ _. refl) has.1 (λ _. omega (arith, has.2)) head is.logged (takes_told core with.held new n.log idle has.3 with.has.some with.has.writes) (λ _. stood)
              (λ i now. writes_found (recovered n) core i (started.units_are ∙ sym (units_raw n is.raw)) (started.ring_is ∙ ring_here) has.0 has.1 (omega (arith, has.2)) is.logged
              (stands_with core n.log n.base new i unit_is after stood now));
          next = λ _.
              let i = after.image tells in
              next_below n.session has.1 (found_below_most core.units core.log.ring core.log.header.state core.log.header.incarnation core.log.header.stamp i.0 n.log n.base (stands_with core n.log n.base new i.0 unit_is after stood i.1));
        }
    came_by false untold core unit_is idle started = record {
      node = found_site n core.log.header.state core.log.header.incarnation (last_of core) (stand_ins core.log);
      is = λ tells. absurd (never_untold tells untold);
      same = same_disks core.log.header.state core.log.header.incarnation (last_of core) (stand_ins core.log);
      stands = started_up core core.log.header.state core.log.header.incarnation (last_of core) (stand_ins core.log) (λ tells. absurd (never_untold tells untold)) started refl (λ tells. absurd (never_untold tells untold)) refl
          (λ tells. absurd (never_untold tells untold)) refl (omega (arith, ins_length core.log, started.applied)) (takes_ins core.log (omega (arith, started.applied))) (λ tells. absurd (never_untold tells untold))
          (λ i now. absurd (never_untold (told_now new i after now) untold));
      next = λ tells. absurd (never_untold tells untold);
    }

    -- a start that was answered
    pub came : (core : Core) → core.log.unit ≡ core.units.srl → core.log.staged ≡ [] → IsStarted units up core new → Came beside n core new
    came core unit_is idle started = came_by new.tells refl core unit_is idle started

-- ---- a start that was refused, and the crash behind it

-- why a site stays down
abbrev pub RefusedAs : KeptBeside → Node → Meaning → Meaning → No → Type 0
RefusedAs beside n m last (Device disk) = (IsDownAt beside n last ⊎ (IsDownAt beside (record n { session = n.session + 1 }) last × (n.session < most_number))) × Rose (m.disk_faults disk) (last.disk_faults disk)
RefusedAs beside n m last (Limit what most) =
    (Limit what most ≡ no_number) × (IsTrue last.tells → most_number ≤ most_header beside n + 2) × IsDownAt beside n last
RefusedAs beside n m last other = (IsTrue last.tells → ⊥) × IsDownAt beside n last

pub limit_same : {a b : Counted} {x y : ℕ} → a ≡ b → x ≡ y → Limit a x ≡ Limit b y
limit_same e f = λ i. Limit (e i) (f i)

module _ {beside : KeptBeside} (n : Node) (m up new last : Meaning) (is : IsDownAt beside n m) (alike : Alike m up) (risen : IsFalse up.down) (armed : up.armed ≡ m.armed) (lawful : Lawful up) (after : Lawful new)
    (moves : Moves (Run (raw_units n.disks).srl 0 (ring_in (raw_units n.disks) up + 2)) (Starting (raw_units n.disks) up) up new)
    (stopped : Stopped new last) (law : Lawful last) (rack : IsRack last) where
  told_up : IsTrue last.tells → IsTrue up.tells
  told_up tells = sym moves.tells ∙ sym stopped.tells ∙ tells

  left_here : IsTrue last.tells → LeftWith (raw_units n.disks) (ring_in (raw_units n.disks) up) (state_with n beside.links) n.session (most_header beside n) n.log n.base up
  left_here tells = left_up n m up is alike risen armed (told_up tells)

  begun_here : IsTrue last.tells → 0 < n.session
  begun_here tells = is.begun (sym alike.contents.tells ∙ told_up tells)

  lies_last : LiesRaw n last
  lies_last = raw_as n.disks n.blocks n.ring n.volumes n.base.size m last (stopped.units ∙ moves.units ∙ alike.contents.units) (λ u. stopped.size u ∙ moves.size u ∙ alike.contents.size u) is.lies

  -- down in a session, with what is left there where contents are told
  down_with : (session : ℕ) → (IsTrue last.tells → 0 < session) → (IsTrue last.tells → LeftWith (raw_units n.disks) n.ring (state_with n beside.links) session (most_header beside (record n { session = session })) n.log n.base last)
      → IsDownAt beside (record n { session = session }) last
  down_with session begun left = record {
    state = is.state;
    unfused = is.unfused;
    down = stopped.down;
    unarmed = stopped.unarmed;
    sure = is.sure;
    raw = is.raw;
    lies = lies_last;
    logged = is.logged;
    low = is.low;
    begun = begun;
    left = left;
  }

  still_down : (b : Bool) → last.tells ≡ b → IsDownAt beside n last ⊎ (IsDownAt beside (record n { session = n.session + 1 }) last × (n.session < most_number))
  still_down true tells =
      let i = law.image tells in
      ⊎_elim
      (λ was. inl (down_with n.session begun_here (λ _. at n.session (most_header beside n) i.0 i.1
      (left_with (raw_units n.disks) (ring_in (raw_units n.disks) up) (state_with n beside.links) n.session (most_header beside n) n.log n.base up i.0 lawful was (left_here tells)))))
      (λ starting. ⊎_elim
      (λ old. inl (down_with n.session begun_here (λ _. at n.session (most_header beside n) i.0 i.1 (record { held = (left_here tells).held; has = (left_here tells).has; needs = (left_here tells).needs; found = old }))))
      (λ next. inr (
        (down_with (n.session + 1) (λ _. omega arith) (λ _. at (n.session + 1) (most_header beside (record n { session = n.session + 1 })) i.0 i.1
            (record {
              held = (left_here tells).held;
              has = (left_here tells).has;
              needs = (left_here tells).needs;
              found = found_below (raw_units n.disks) (ring_in (raw_units n.disks) up) (state_with n beside.links) (n.session + 1) (most_header beside n + 3) (most_header beside (record n { session = n.session + 1 })) i.0 (left_here tells).held (omega arith) next;
            }))),
        next_below n.session refl (header_below (raw_units n.disks) (ring_in (raw_units n.disks) up) (state_with n beside.links) (n.session + 1) (most_header beside n + 3) i.0 (left_here tells).held next),
      ))
      (starting.each (state_with n beside.links) n.session (most_header beside n) (left_here tells).held (left_here tells).left))
      (left_moved (Run (raw_units n.disks).srl 0 (ring_in (raw_units n.disks) up + 2)) (Starting (raw_units n.disks) up) up new i.0 lawful after moves (stopped.now i.0 i.1))
    where
      at : (session stamp : ℕ) (i : Image) → last.now i → FoundWith (raw_units n.disks) (ring_in (raw_units n.disks) up) (state_with n beside.links) session stamp i n.log n.base
          → LeftWith (raw_units n.disks) n.ring (state_with n beside.links) session stamp n.log n.base last
      at session stamp i now found =
          subst (λ (r : ℕ). LeftWith (raw_units n.disks) r (state_with n beside.links) session stamp n.log n.base last) (ring_here n m up is alike risen armed)
          (found_left_with (raw_units n.disks) (ring_in (raw_units n.disks) up) (state_with n beside.links) session stamp n.log n.base last i tells
          (λ u b. one_value last i u b law rack stopped.down tells now)
          (sizes_of (raw_units n.disks) n.ring n.volumes n.base last lies_last.laid) found)
  still_down false untold = inl (down_with n.session begun_here (λ tells. absurd (never_untold tells untold)))

  rose : (disk : ℕ) → Rose (up.disk_faults disk) (new.disk_faults disk) → Rose (m.disk_faults disk) (last.disk_faults disk)
  rose disk r =
      subst (λ (k : ℕ). Rose k (last.disk_faults disk)) (alike.counts.disk_faults disk)
      (subst (λ (k : ℕ). Rose (up.disk_faults disk) k) (sym (stopped.counts.disk_faults disk)) r)

  -- where something was left, no start finds that nothing was
  nothing_left : NothingLeft (raw_units n.disks) up → (IsTrue last.tells → ⊥) × IsDownAt beside n last
  nothing_left none =
      let untold : IsTrue last.tells → ⊥ = λ tells. none (state_with n beside.links) n.session (most_header beside n) (left_here tells).held (left_here tells).left in
      (untold, down_with n.session begun_here (λ tells. absurd (untold tells)))

  -- its disks were only read
  only_read : Goes Nothing up new → IsDownAt beside n last
  only_read goes = down_with n.session begun_here (λ tells.
      subst (λ (r : ℕ). LeftWith (raw_units n.disks) r (state_with n beside.links) n.session (most_header beside n) n.log n.base last) (ring_here n m up is alike risen armed)
      (left_still_with (raw_units n.disks) (ring_in (raw_units n.disks) up) (state_with n beside.links) n.session (most_header beside n) n.log n.base up last (stopped.tells ∙ goes.tells) (λ u. stopped.size u ∙ goes.size u)
      (λ u b v left. ⊎_elim (λ was. was) (λ none. absurd none) (goes.leaves u b v (stopped.leaves u b v left))) (left_here tells)))

  pub refused_as : (why : No) → StartCause (raw_units n.disks) up new why → ReadsAtLimit up new why → RefusedAs beside n m last why
  refused_as NoConfig h read = nothing_left h.1
  refused_as (Damaged u b stored computed) h read = nothing_left h.3
  refused_as (Limit what most) h read = (
    limit_same h.0 h.1,
    λ tells. ⊎_elim (λ (stamp : most_number ≤ most_header beside n + 2). stamp) (λ (session : most_number ≤ n.session). let more : most_number ≤ most_header beside n + 2 = omega arith in more)
        (h.2 (state_with n beside.links) n.session (most_header beside n) (left_here tells).held (left_here tells).left),
    only_read read,
  )
  refused_as (Device disk) h read = (still_down last.tells refl, rose disk h)
  refused_as IsOff h read = absurd (never_both up.down (moves.safe (armed ∙ is.unarmed) h) risen)
  refused_as other h read = absurd h

-- ---- the disk set of the site

-- a site that is down can be started
pub can_start : {beside : KeptBeside} (n : Node) (m : Meaning) (room : Room) → IsDownAt beside n m → IsRoomOf n.blocks n.ring room → CanStart room m
can_start n m room is fits = record {
  holds = record {
    some = omega (arith, is.lies.units, is.lies.can.some);
    few = omega (arith, is.lies.units, is.lies.few);
    large = is.lies.laid.large;
    is_ring = fits.ring_is ∙ is.lies.laid.ring_is;
    maps = subst (λ (k : ℕ). LINK_PLACES * maps_of (raw_units k).vols m ≤ m.size (raw_units k).maps) (sym is.lies.units) (maps_fit n.disks n.blocks m is.lies.can is.lies.size);
    takes = subst (λ (k : ℕ). LINK_PLACES * maps_of (raw_units k).vols m ≤ room.maps) (sym is.lies.units) (omega (arith, maps_few n.disks n.blocks m is.lies.can is.lies.few is.lies.size, fits.maps_are));
  };
  down = is.down;
}

-- what a start needs
pub start_needs : (disks : ℕ) (room : Room) (units : Units) (m up : Meaning) → CanStart room m → Alike m up → units ≡ raw_units disks → disks ≡ up.units
    → UnitsPlaced units up × (8 ≤ up.size units.srl) × (room.ring ≡ ring_in units up) × (LINK_PLACES * maps_of units.vols up ≤ room.maps)
start_needs disks room units m up can alike is disks_is =
    let size : up.size units.srl ≡ m.size 0 = ap (λ (u : Units). up.size u.srl) is ∙ alike.contents.size 0 in (
      subst (λ (u : Units). UnitsPlaced u up) (sym is) (placed_raw disks up disks_is (omega (arith, disks_is, alike.contents.units, can.holds.some))
          (subst (λ (k : ℕ). LINK_PLACES * maps_of (raw_units k).vols up ≤ up.size (raw_units k).maps) (sym alike.contents.units ∙ sym disks_is) (maps_fit_as (raw_units m.units) m up alike.contents.size can.holds.maps))),
      omega (arith, size, can.holds.large),
      can.holds.is_ring ∙ sym (ap ring_of size),
      subst (λ (u : Units). LINK_PLACES * maps_of u.vols up ≤ room.maps) (sym is)
          (subst (λ (k : ℕ). LINK_PLACES * maps_of (raw_units k).vols up ≤ room.maps) (sym alike.contents.units ∙ sym disks_is) (room_as (raw_units m.units) room.maps m up alike.contents.size can.holds.takes)),
    )

module _ {R : Type 0} {g : Ghosts R} where
  never_down : (beside : KeptBeside) (n : Node) (e : DiskSet R g) → SiteStands beside n e → n.state ≡ IsDown → n.group ≡ None → ((rack : R) → e ≡ Down rack → ⊥) → ⊥
  never_down beside n (Bare rack) h down apart none = let e : IsBare ≡ IsDown = sym (ap (λ (x : Node). x.state) h.bare.is) ∙ down in absurd (cc)
  never_down beside n (Spoiled rack) h down apart none = let e : IsBare ≡ IsDown = sym (ap (λ (x : Node). x.state) h.is) ∙ down in absurd (cc)
  never_down beside n (Up rvg) h down apart none = let e : IsUp ≡ IsDown = sym h.1.state ∙ down in absurd (cc)
  never_down beside n (Receives s) h down apart none = let e : IsUp ≡ IsDown = sym h.1.state ∙ down in absurd (cc)
  never_down beside n (Down rack) h down apart none = none rack refl
  never_down beside n (OfGroup s) h down apart none = let e : IsBare ≡ IsDown = sym (apart_bare beside n s h (none_apart n apart)) ∙ down in absurd (cc)
  never_down beside n (Over s) h down apart none = h.0.0 apart
  never_down beside n Gone h down apart none = h

  pub came_at : {beside : KeptBeside} (n : Node) (disks : ℕ) (units : Units) (rack up : R) (rvg : Rvg R g) → units ≡ raw_units disks → disks ≡ (g.meaning up).units → IsDownAt beside n (g.meaning rack)
      → Alike (g.meaning rack) (g.meaning up) → IsFalse (g.meaning up).down → (g.meaning up).armed ≡ (g.meaning rack).armed → Lawful (g.meaning up) → Lawful (g.meaning rvg.shelf)
      → IsStarted units (g.meaning up) rvg.core (g.meaning rvg.shelf) → Moves (Run units.srl 0 (ring_in units (g.meaning up) + 2)) (Starting units (g.meaning up)) (g.meaning up) (g.meaning rvg.shelf)
      → CameUp beside n (Up rvg)
  came_at {beside} n disks units rack up rvg is disks_is down alike risen armed lawful after started moves =
      let same : units ≡ raw_units n.disks = is ∙ ap raw_units (disks_is ∙ alike.contents.units ∙ down.lies.units) in
      let c = came n (g.meaning rack) (g.meaning up) down alike risen armed (g.meaning rvg.shelf) lawful after
      (subst (λ (u : Units). Moves (Run u.srl 0 (ring_in u (g.meaning up) + 2)) (Starting u (g.meaning up)) (g.meaning up) (g.meaning rvg.shelf)) same moves)
      rvg.core rvg.sound.log_unit (rvg.sound.idle started.running (not_true (g.meaning rvg.shelf).down (λ fell. never_both (g.meaning up).down (moves.safe (armed ∙ down.unarmed) fell) risen))) (subst (λ (u : Units). IsStarted u (g.meaning up) rvg.core (g.meaning rvg.shelf)) same started) in
      record { node = c.node; is = c.is; same = c.same; whole = omega (arith, c.stands.logged, c.stands.durable c.same.running); stands = (raw_alone beside c.node down.sure (c.same.group ∙ down.raw), c.stands); next = c.next }

  down_as : (beside : KeptBeside) (n : Node) (old : DiskSet R g) (rack last : R) (why : No) → old ≡ Down rack → RefusedAs beside n (g.meaning rack) (g.meaning last) why → CameUpIs beside n old (Down last) (Err why)
  down_as beside n old rack last (Device disk) is h = (h.0, subst (λ (e : DiskSet R g). Rose (faults_at e disk) ((g.meaning last).disk_faults disk)) (sym is) h.1)
  down_as beside n old rack last (Limit what most) is h = h
  down_as beside n old rack last other is h = h

  pub refused_at : {beside : KeptBeside} (n : Node) (disks : ℕ) (units : Units) (old : DiskSet R g) (rack up back last : R) (why : No) → old ≡ Down rack → units ≡ raw_units disks → disks ≡ (g.meaning up).units → IsDownAt beside n (g.meaning rack)
      → Alike (g.meaning rack) (g.meaning up) → IsFalse (g.meaning up).down → (g.meaning up).armed ≡ (g.meaning rack).armed → Lawful (g.meaning up) → Lawful (g.meaning back)
      → StartCause units (g.meaning up) (g.meaning back) why → ReadsAtLimit (g.meaning up) (g.meaning back) why → Moves (Run units.srl 0 (ring_in units (g.meaning up) + 2)) (Starting units (g.meaning up)) (g.meaning up) (g.meaning back)
      → Stopped (g.meaning back) (g.meaning last) → Lawful (g.meaning last) → IsRack (g.meaning last) → CameUpIs beside n old (Down last) (Err why)
  refused_at {beside} n disks units old rack up back last why old_is is disks_is down alike risen armed lawful after cause read moves stopped law is_rack =
      let same : units ≡ raw_units n.disks = is ∙ ap raw_units (disks_is ∙ alike.contents.units ∙ down.lies.units) in
      down_as beside n old rack last why old_is
      (refused_as n (g.meaning rack) (g.meaning up) (g.meaning back) (g.meaning last) down alike risen armed lawful after
      (subst (λ (u : Units). Moves (Run u.srl 0 (ring_in u (g.meaning up) + 2)) (Starting u (g.meaning up)) (g.meaning up) (g.meaning back)) same moves)
      stopped law is_rack why (subst (λ (u : Units). StartCause u (g.meaning up) (g.meaning back) why) same cause) read)

  -- no site that is down has another disk set, or disks that cannot be started
  pub not_started : (beside : KeptBeside) (n : Node) (e new : DiskSet R g) (why : No) → SiteStands beside n e → n.state ≡ IsDown → n.group ≡ None → ((rack : R) → e ≡ Down rack → ⊥) → CameUpIs beside n e new (Err why)
  not_started beside n e new why h down apart none = absurd (never_down beside n e h down apart none)
