-- A group that is started stands with what was left.
use Rattle.std.proofs.Common.{◌≡◌, inl, inr, ⊎_elim, ℕ, zero, suc, ◌+◌, ◌<◌, ◌≤◌, Bool, List, [], ◌∷◌, ◌++◌, length, take, drop, Option, Some, None, IsTrue, MatchOption, refl, sym, ◌∙◌, ap, subst, arith}
use Rattle.std.specs.Prelude.{if◌then◌else◌, leb, slice_get, All}
use Rattle.std.proofs.lemmas.Bool.{cases_lt, lt-ltb, le-ltb}
use Rattle.std.proofs.lemmas.List.{take_all}
use Rattle.std.proofs.lemmas.List.Elements.{All-head, All-tail}
use Rattle.std.proofs.lemmas.Option.{same_Some}
use Rattle.vx_model.specs.Content.{Content, Write, blocks_in}
use Rattle.vx_model.specs.Sizes.{ring_of}
use Rattle.vx_model.specs.declared.no.No.{No}
use Rattle.vx_model.specs.declared.no.No.TheVariants as no
use Rattle.vx_model.specs.declared.state.State.{State as SiteState}
use Rattle.vx_model.specs.declared.units.Units.{Units}
use Rattle.vx_srlfmt.specs.declared.header.Header.{Header}
use Rattle.vx_srlfmt.specs.declared.record.Seen.TheVariants as seen
use Rattle.vx_disk.specs.Moves.{Beside, Moves, Run}
use Rattle.vx_disk.specs.Shelf.{Each, Goes, Image, Keeps, Meaning, Nothing}
use Rattle.vx_disk.proofs.Moving.{then_goes, wider}
use Rattle.vx_disk.proofs.Runs.{at_rest}
use Rattle.vx_overlay.specs.Pending.{Pending, newest}
use Rattle.vx_overlay.specs.Writes.{entries_at, entries_of, newest_of}
use Rattle.vx_overlay.specs.declared.entry.Entry.{Entry}
use Rattle.vx_overlay.proofs.WriteLemmas.{newest_entries}
use Rattle.vx_ringlog.specs.Chain.{Recovers}
use Rattle.vx_ringlog.specs.Chain.{block as block_of}
use Rattle.vx_ringlog.specs.Logs.{State}
use Rattle.vx_ringlog.specs.Records.{Record}
use Rattle.vx_ringio.specs.Classes.{classes}
use Rattle.vx_ringio.specs.Reading.{SeesFront}
use Rattle.vx_ringio.specs.Tracks.{RingLies}
use Rattle.vx_ringio.proofs.Aside.{gave_aside}
use Rattle.vx_srl.specs.Rings.{RingOn}
use Rattle.vx_srl.specs.Damages.{SeesRecordBody, SeesFronts, SeesOwner}
use Rattle.vx_srl.specs.Starts.{IsRaised, LeavesLog, Restarting}
use Rattle.vx_srl.specs.Starts as srl
use Rattle.vx_dcm.specs.Places.{DcmLoaded, Maps}
use Rattle.vx_srl.specs.Views.{Log}
use Rattle.vx_srl.specs.declared.kept.Kept.{Kept}
use Rattle.vx_rvg.specs.Contents.{HasContent, HasSizes, KeepsContent, writes_of}
use Rattle.vx_rvg.specs.Fills.{FillCause, IsFilledTo, NamesOne}
use Rattle.vx_rvg.specs.Holdings.{Holding}
use Rattle.vx_rvg.specs.Stands.{FoundGroup, HasMaps, IsWholeRecord, KeepsMaps, LeftGroup, Ready, Stands}
use Rattle.vx_rvg.specs.Starts.{GivesMarks, IsStarted, StartCause, Starting, ring_in}
use Rattle.vx_rvg.specs.Views.{Core, IsSound, UnitsPlaced, applied_count, blocks_within, unit_of, volume_size}
use Rattle.vx_rvg.proofs.ContentFacts.{has_content, has_content_beside, has_maps, has_maps_beside, held_length, maps_moved, ring_left}
use Rattle.vx_rvg.proofs.MakeStands.{in_volumes, sizes_moved, volume_kept}
use Rattle.vx_rvg.proofs.ReadStands.{keeps_rest, whole_writes}
use Rattle.vx_rvg.proofs.StartFill.{none_is, ring_rests}
use Rattle.vx_rvg.proofs.WriteLog.{cause_from}
use Rattle.vx_rvg.proofs.WriteSound.{SameSizes, lies_same, placed_same, volume_same, within_same}

-- ---- sizes

-- the ring lies in its unit
pub ring_lies : (units : Units) (m : Meaning) → UnitsPlaced units m → 8 ≤ m.size units.srl → RingLies units.srl (ring_in units m) m
ring_lies units m placed large = record { exists = placed.log_exists; within = fits (m.size units.srl) large }
  where
    fits : (n : ℕ) → 8 ≤ n → ring_of n + 2 ≤ n
    fits n some = omega (arith, some)

-- a content has the sizes of its volumes
volume_is : (vols : List ℕ) (c : Content) (m : Meaning) → HasSizes vols c m → (v : ℕ) → volume_size vols m v ≡ c.size v
volume_is vols c m sizes v =
    ⊎_elim
    (λ (low : v < length vols). ap (λ (t : Bool). if t then m.size (unit_of vols v) else 0) (lt-ltb v (length vols) low) ∙ sym (sizes.each v low))
    (λ (high : length vols ≤ v). ap (λ (t : Bool). if t then m.size (unit_of vols v) else 0) (le-ltb v (length vols) high) ∙ sym (sizes.none v high))
    (cases_lt v (length vols))

entries_same : (one two : ℕ → ℕ) → ((v : ℕ) → one v ≡ two v) → (xs : List Write) → entries_of one xs ≡ entries_of two xs
entries_same one two same [] = refl
entries_same one two same (x ∷ xs) =
    ap (λ (n : ℕ). (if leb (x.start + blocks_in x.bytes) n then entries_at x.volume x.start (blocks_in x.bytes) x.bytes else []) ++ entries_of one xs) (same x.volume)
    ∙ ap (λ (es : List Entry). (if leb (x.start + blocks_in x.bytes) (two x.volume) then entries_at x.volume x.start (blocks_in x.bytes) x.bytes else []) ++ es) (entries_same one two same xs)

-- ---- blocks of a volume

kept_option : (o : Option (List ℕ)) (old new : Meaning) (u b : ℕ) (y : List ℕ) → (Keeps old u b y → Keeps new u b y) → MatchOption o (Keeps old u b y) (λ bytes. bytes ≡ y)
    → MatchOption o (Keeps new u b y) (λ bytes. bytes ≡ y)
kept_option (Some bytes) old new u b y to is = is
kept_option None old new u b y to keeps = to keeps

uncovered : (o : Option (List ℕ)) (P : Type 0) (y : List ℕ) → o ≡ None → MatchOption o P (λ bytes. bytes ≡ y) → P
uncovered o P y none match = subst (λ (p : Option (List ℕ)). MatchOption p P (λ bytes. bytes ≡ y)) none match

-- one of these
one_of : {X : Type 0} (P : X → Type 0) (xs : List X) (k : ℕ) (x : X) → All P xs → slice_get xs k ≡ Some x → P x
one_of P [] k x all is = absurd (none_is x is)
one_of P (y ∷ xs) zero x all is = subst P (same_Some y x is) (All-head P y xs all)
one_of P (y ∷ xs) (suc k) x all is = one_of P xs k x (All-tail P y xs all) is

-- ---- the log that was left

left_log : (units : Units) (ring : ℕ) (state : SiteState) (session stamp : ℕ) (h : Holding) (m : Meaning) (left : LeftGroup units ring state session stamp h m)
    → LeavesLog units.srl ring left.header left.records m
left_log units ring state session stamp h m left = record { kinds = left.kinds; leaves = left.leaves; recovers = left.recovers }

module _ (units : Units) (ring : ℕ) (state : SiteState) (session stamp : ℕ) (h : Holding) (m : Meaning) (left : LeftGroup units ring state session stamp h m) (i : Image) (g : Header)
    (recovers : Recovers ring (classes units.srl ring i) g left.records) (has : HasContent units.vols h.content h.writes i) (has_them : HasMaps units h.maps i) where
  -- behind the header that was left, or one that a start writes
  pub found_old : g ≡ left.header → FoundGroup units ring state session stamp i h
  found_old same = record {
    header = g;
    records = left.records;
    recovers = recovers;
    state_is = ap (λ (x : Header). x.state) same ∙ left.state_is;
    session_is = ap (λ (x : Header). x.incarnation) same ∙ left.session_is;
    stamp_most = omega (arith, ap (λ (x : Header). x.stamp) same, left.stamp_most);
    some = left.some;
    low_is = ap (λ (x : Header). x.low) same ∙ left.low_is;
    writes_are = left.writes_are;
    place_is = ap (λ (x : Header). x.place) same ∙ left.place_is;
    content = has;
    maps = has_them;
  }

  pub found_raised : IsRaised left.header g → FoundGroup units ring state (session + 1) (stamp + 3) i h
  found_raised is = record {
    header = g;
    records = left.records;
    recovers = recovers;
    state_is = ap (λ (x : Header). x.state) is.3 ∙ left.state_is;
    session_is = omega (arith, ap (λ (x : Header). x.incarnation) is.3, left.session_is);
    stamp_most = omega (arith, ap (λ (x : Header). x.stamp) is.3, left.stamp_most, is.2);
    some = left.some;
    low_is = ap (λ (x : Header). x.low) is.3 ∙ left.low_is;
    writes_are = left.writes_are;
    place_is = ap (λ (x : Header). x.place) is.3 ∙ left.place_is;
    content = has;
    maps = has_them;
  }

-- ---- what a crash in a start leaves

module _ (units : Units) (old mid : Meaning) (placed : UnitsPlaced units old) (moves : Moves (Run units.srl 0 (ring_in units old + 2)) (Restarting units.srl (ring_in units old) old) old mid) where
  pub restarting_starts : (i : Image) → Beside (Run units.srl 0 (ring_in units old + 2)) old.leaves i → Restarting units.srl (ring_in units old) old i → Starting units old i
  restarting_starts i beside restarts = record {
    each = λ state session stamp h left.
        let got = restarts.each left.header left.records (left_log units (ring_in units old) state session stamp h old left) in
        let has : HasContent units.vols h.content h.writes i
        = has_content_beside (Run units.srl 0 (ring_in units old + 2)) units.vols h.content h.writes old i
        (λ v b low mine. placed.apart v (in_volumes units.vols h.content old v b left.sizes low) mine.there) left.content beside in
        let has_them : HasMaps units h.maps i = has_maps_beside (Run units.srl 0 (ring_in units old + 2)) units h.maps old i (λ b mine. placed.maps_apart mine.there) left.maps beside in
        ⊎_elim
        (λ same. inl (found_old units (ring_in units old) state session stamp h old left i got.0 got.2 has has_them same))
        (λ raised. inr (found_raised units (ring_in units old) state session stamp h old left i got.0 got.2 has has_them raised))
        got.1;
  }

  pub log_moves : Moves (Run units.srl 0 (ring_in units old + 2)) (Starting units old) old mid
  log_moves =
      wider (Run units.srl 0 (ring_in units old + 2)) (Run units.srl 0 (ring_in units old + 2)) (Restarting units.srl (ring_in units old) old) (Starting units old) old mid moves (λ u b is. is)
      (λ i beside restarts. restarting_starts i beside restarts)

  module _ (l : Log) (started : srl.IsStartedLog units.srl (ring_in units old) l old mid) where
    module _ (state : SiteState) (session stamp : ℕ) (h : Holding) (left : LeftGroup units (ring_in units old) state session stamp h old) where
      abbrev stood : IsRaised left.header l.header × ((s : State) × RingOn l s mid × (s.held ≡ left.records) × (s.staged ≡ []) × (s.found ≡ left.records))
      stood = started.each left.header left.records (left_log units (ring_in units old) state session stamp h old left)

      told : IsTrue mid.tells
      told = subst IsTrue (sym moves.tells) left.leaves.tells

      kept : KeepsContent units.vols h.content h.writes mid
      kept = record {
        each = λ v b low.
            kept_option (newest_of h.content.size h.writes v b) old mid (unit_of units.vols v) b (h.content.block v b)
            (volume_kept units (ring_in units old + 2) (Restarting units.srl (ring_in units old) old) h.content old mid placed moves left.sizes v b low) (left.content.each v b low);
      }

      kept_maps : KeepsMaps units h.maps mid
      kept_maps = maps_moved (Run units.srl 0 (ring_in units old + 2)) (Restarting units.srl (ring_in units old) old) units h.maps old mid moves (λ b mine. placed.maps_apart mine.there) left.maps

      recovers_at : (i : Image) → Each mid.leaves i → Recovers (ring_in units old) (classes units.srl (ring_in units old) i) l.header left.records
      recovers_at i each =
          let s : State = stood.1.0 in
          let there : Recovers l.ring (classes l.unit l.ring i) s.header s.held = ring_left l s mid i stood.1.1 stood.1.3 each in
          let one : Recovers l.ring (classes l.unit l.ring i) l.header s.held = subst (λ (x : Header). Recovers l.ring (classes l.unit l.ring i) x s.held) stood.1.1.describes.header there in
          let two : Recovers l.ring (classes l.unit l.ring i) l.header left.records = subst (λ (rs : List Record). Recovers l.ring (classes l.unit l.ring i) l.header rs) stood.1.2 one in
          let three : Recovers l.ring (classes units.srl l.ring i) l.header left.records = subst (λ (u : ℕ). Recovers l.ring (classes u l.ring i) l.header left.records) started.unit_is two in
          subst (λ (r : ℕ). Recovers r (classes units.srl r i) l.header left.records) started.ring_is three

      rests_found : (i : Image) → Each mid.leaves i → FoundGroup units (ring_in units old) state (session + 1) (stamp + 3) i h
      rests_found i each =
          found_raised units (ring_in units old) state session stamp h old left i l.header (recovers_at i each) (has_content units.vols h.content h.writes mid i kept each)
          (has_maps units h.maps mid i kept_maps (λ b. each units.maps b)) stood.0

    rests_starting : (i : Image) → Each mid.leaves i → Starting units old i
    rests_starting i each = record { each = λ state session stamp h left. inr (rests_found state session stamp h left i each) }

    pub all_moves : (new : Meaning) → Goes Nothing mid new → Moves (Run units.srl 0 (ring_in units old + 2)) (Starting units old) old new
    all_moves new goes =
        then_goes (Run units.srl 0 (ring_in units old + 2)) (Starting units old) Nothing old mid new log_moves goes (λ u b v none. absurd none)
        (λ i each. rests_starting i (λ u b. at_rest mid u b (i u b) (each u b)))

    -- ---- why it is refused

    -- the header of the record was read
    abbrev owner : (block : ℕ) (stored computed : List ℕ) (names : NamesOne l block stored computed mid) → SeesFronts units.srl (ring_in units old) l.held old → SeesOwner units.srl (ring_in units old) block stored old
    owner block stored computed names fronts = record {
      place = names.kept.place;
      head = names.kept.head;
      front = one_of (λ (k : Kept). SeesFront units.srl (block_of (ring_in units old) k.place) old (seen.Record k.head)) l.held names.place names.kept fronts names.there;
      at = names.at ∙ ap (λ (r : ℕ). block_of r (names.kept.place + 1)) started.ring_is;
      stored_is = names.stored_is;
    }

    -- and its body
    body_there : (block : ℕ) (stored computed : List ℕ) (names : NamesOne l block stored computed mid) → IsTrue mid.tells → SeesRecordBody units.srl (ring_in units old) names.kept.place names.kept.head computed old
    body_there block stored computed names tells =
        let sees : SeesRecordBody units.srl (ring_in units old) names.kept.place names.kept.head computed mid
        = subst (λ (r : ℕ). SeesRecordBody units.srl r names.kept.place names.kept.head computed mid) started.ring_is
        (subst (λ (u : ℕ). SeesRecordBody u l.ring names.kept.place names.kept.head computed mid) started.unit_is (names.body tells)) in
        record {
          body = sees.body;
          count = sees.count;
          gave = gave_aside units.srl (ring_in units old) old mid started.ring_reads (names.kept.place + 1) sees.body sees.gave;
          computed_is = sees.computed_is;
        }

    pub fill_stops : (new : Meaning) (why : No) → FillCause l mid new why → StartCause units old new why
    fill_stops new (no.Damaged unit block stored computed) cause = (
      cause.0 ∙ started.unit_is,
      cause.1,
      (λ tells. inr (inr (owner block stored computed cause.2 (started.fronts tells), body_there block stored computed cause.2 (subst IsTrue (sym moves.tells) tells)))),
      (λ state session stamp h left. cause.3 (stood state session stamp h left).1.0 (stood state session stamp h left).1.1 (told state session stamp h left)),
    )
    fill_stops new (no.Device disk) cause = cause_from old mid new (no.Device disk) moves.disk_faults cause
    fill_stops new no.Down cause = cause
    fill_stops new other cause = absurd cause

    -- ---- the group that is started

    module _ (large : 8 ≤ old.size units.srl) (some : 0 < l.header.low) (new : Meaning) (goes : Goes Nothing mid new) (up : IsTrue new.down → ⊥) (pending : Pending)
        (capacity : pending.capacity ≡ ring_in units old) (filled : IsFilledTo l (volume_size units.vols mid) mid (length l.held) pending.entries) (applied : ℕ) (below : applied + 1 ≡ l.header.low)
        (d : Maps) (loaded : DcmLoaded units new d) (marked : GivesMarks units mid d) where
      abbrev core : Core
      core = record { units = units; log = l; maps = d; pending = pending; applied = applied; halted = None }

      none_applied : applied_count core ≡ 0
      none_applied = omega (arith, below)

      sizes : SameSizes old new
      sizes = record { units = goes.units ∙ moves.units; size = λ u. goes.size u ∙ moves.size u }

      later : SameSizes mid new
      later = record { units = goes.units; size = goes.size }

      lies : RingLies l.unit l.ring new
      lies = subst (λ (u : ℕ). RingLies u l.ring new) (sym started.unit_is) (subst (λ (r : ℕ). RingLies units.srl r new) (sym started.ring_is)
          (lies_same units.srl (ring_in units old) old new sizes (ring_lies units old placed large)))

      counted : length pending.entries ≡ blocks_within (volume_size units.vols new) (drop (applied_count core) l.held)
      counted =
          filled.count
          ∙ ap (λ ks. blocks_within (volume_size units.vols mid) ks) (take_all (length l.held) l.held (omega arith))
          ∙ sym (within_same (volume_size units.vols mid) (volume_size units.vols new) (volume_same units.vols mid new later) l.held)
          ∙ ap (λ n. blocks_within (volume_size units.vols new) (drop n l.held)) (sym none_applied)

      sound : IsSound core new
      sound = record {
        placed = placed_same units old new sizes placed;
        maps = loaded;
        log_unit = started.unit_is;
        lies = lies;
        idle = λ none up. started.nothing_staged;
        low = omega (arith, below);
        known = omega (arith, below);
        room = capacity ∙ sym started.ring_is;
        waiting = counted;
      }

      module _ (state : SiteState) (session stamp : ℕ) (h : Holding) (left : LeftGroup units (ring_in units old) state session stamp h old) where
        abbrev s : State
        s = (stood state session stamp h left).1.0

        on : RingOn l s mid
        on = (stood state session stamp h left).1.1

        held : s.held ≡ left.records
        held = (stood state session stamp h left).1.2

        is_raised : IsRaised left.header l.header
        is_raised = (stood state session stamp h left).0

        sizes_mid : HasSizes units.vols h.content mid
        sizes_mid = sizes_moved units.vols h.content old mid moves.size left.sizes

        all_held : take (length l.held) s.held ≡ s.held
        all_held = take_all (length l.held) s.held (omega (arith, held_length l s mid on))

        whole : All IsWholeRecord s.held
        whole = subst (λ (rs : List Record). All IsWholeRecord rs) all_held (filled.whole s on (told state session stamp h left))

        entries_are : pending.entries ≡ entries_of h.content.size (writes_of s.held)
        entries_are =
            filled.entries_are s on (told state session stamp h left)
            ∙ ap (λ (rs : List Record). entries_of (volume_size units.vols mid) (writes_of rs)) all_held
            ∙ entries_same (volume_size units.vols mid) h.content.size (volume_is units.vols h.content mid sizes_mid) (writes_of s.held)

        writes_here : writes_of s.held ≡ h.writes
        writes_here = ap (λ (rs : List Record). writes_of rs) held ∙ left.writes_are

        content : KeepsContent units.vols h.content (writes_of s.held) new
        content = subst (λ (ws : List Write). KeepsContent units.vols h.content ws new) (sym writes_here) (record {
          each = λ v b low.
              kept_option (newest_of h.content.size h.writes v b) mid new (unit_of units.vols v) b (h.content.block v b) (keeps_rest mid new goes (unit_of units.vols v) b (h.content.block v b))
              ((kept state session stamp h left).each v b low);
        })

        settled : (v b : ℕ) → b < h.content.size v → newest pending.entries v b ≡ None → Keeps new (unit_of units.vols v) b (h.content.block v b)
        settled v b low none =
            let uncovers : newest_of h.content.size (writes_of s.held) v b ≡ None
            = sym (newest_entries h.content.size (writes_of s.held) v b (whole_writes s.held whole)) ∙ ap (λ (es : List Entry). newest es v b) (sym entries_are) ∙ none in
            uncovered (newest_of h.content.size (writes_of s.held) v b) (Keeps new (unit_of units.vols v) b (h.content.block v b)) (h.content.block v b) uncovers (content.each v b low)

        ready : Ready core h.content s new
        ready = record {
          ring = ring_rests l s mid new goes up on;
          idle = (stood state session stamp h left).1.3;
          whole = whole;
          sizes = sizes_moved units.vols h.content mid new goes.size sizes_mid;
          content = content;
          waiting = entries_are ∙ ap (λ (n : ℕ). entries_of h.content.size (writes_of (drop n s.held))) (sym none_applied);
          settled = settled;
        }

        maps : KeepsMaps units h.maps new
        maps = record {
          size = (let least = (kept_maps state session stamp h left).size in let same = goes.size units.maps in omega (arith, least, same));
          each = λ b bytes there. keeps_rest mid new goes units.maps b bytes ((kept_maps state session stamp h left).each b bytes there);
        }

        stands : (l.header.state ≡ state) × (l.header.incarnation ≡ session + 1) × (l.header.stamp ≤ stamp + 3) × Stands core h new
        stands = (
          ap (λ (x : Header). x.state) is_raised.3 ∙ left.state_is,
          omega (arith, ap (λ (x : Header). x.incarnation) is_raised.3, left.session_is),
          omega (arith, ap (λ (x : Header). x.stamp) is_raised.3, left.stamp_most, is_raised.2),
          record { log = s; ready = ready; low = ap (λ (x : Header). x.low) is_raised.3 ∙ left.low_is; writes = writes_here; place = ap (λ (x : Header). x.place) is_raised.3 ∙ left.place_is; maps = maps; marks = marked.each h.maps (told state session stamp h left) (kept_maps state session stamp h left) },
        )

      is_started : IsStarted units old core new
      is_started = record {
        units_are = refl;
        ring_is = started.ring_is;
        applied = below;
        running = refl;
        header_is = started.header_is;
        each = stands;
      }

      -- the same with the copy of the units
      pub group_started : (kept : Units) → kept ≡ units → IsStarted units old (record { units = kept; log = l; maps = d; pending = pending; applied = applied; halted = None }) new
      group_started copy same = subst (λ (u : Units). IsStarted units old (record { units = u; log = l; maps = d; pending = pending; applied = applied; halted = None }) new) (sym same) is_started

      pub group_sound : (kept : Units) → kept ≡ units → IsSound (record { units = kept; log = l; maps = d; pending = pending; applied = applied; halted = None }) new
      group_sound copy same = subst (λ (u : Units). IsSound (record { units = u; log = l; maps = d; pending = pending; applied = applied; halted = None }) new) (sym same) sound

-- the log could not be started
pub log_stops : (units : Units) (old new : Meaning) (why : No) → srl.LogStartCause units.srl (ring_in units old) old new why → StartCause units old new why
log_stops units old new no.NoConfig cause = (cause.0, (λ state session stamp h left. cause.1 left.header left.records (left_log units (ring_in units old) state session stamp h old left)))
log_stops units old new (no.Damaged unit block stored computed) cause = (
  cause.0,
  cause.1,
  cause.2,
  (λ state session stamp h left. cause.3 left.header left.records (left_log units (ring_in units old) state session stamp h old left)),
)
log_stops units old new (no.Limit what most) cause = (
  cause.0,
  cause.1,
  (λ state session stamp h left.
      ⊎_elim (λ high. inl (omega (arith, high, left.stamp_most))) (λ high. inr (omega (arith, high, left.session_is)))
      (cause.2 left.header left.records (left_log units (ring_in units old) state session stamp h old left))),
)
log_stops units old new other cause = cause
