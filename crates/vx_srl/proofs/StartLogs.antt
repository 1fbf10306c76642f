-- The log behind a start, and what a crash in it leaves.
use Rattle.std.proofs.Common.{◌≡◌, ◌⊎◌, inl, inr, ℕ, ◌+◌, ◌-◌, ◌%◌, ◌<◌, ◌≤◌, ◌==◌, Bool, true, false, List, [], IsTrue, refl, sym, ◌∙◌, ap, subst, arith}
use Rattle.std.specs.Prelude.{if◌then◌else◌}
use Rattle.std.proofs.Math.Nat.{mod-eq_of_lt}
use Rattle.std.proofs.lemmas.Bool.{eqb-true, eqb-false}
use Rattle.vx_disk.specs.Moves.{Moves, Run}
use Rattle.vx_disk.specs.Shelf.{Meaning, Image, Lawful, Nothing, Goes}
use Rattle.vx_disk.proofs.Moving.{goes_on}
use Rattle.vx_ringlog.specs.Acts.{start_acts}
use Rattle.vx_ringlog.specs.Cells.{RingImage as Kinds, Always, Leaves, LeftBy, still}
use Rattle.vx_ringlog.specs.Chain.{IsGreaterTop, Recovers}
use Rattle.vx_ringlog.specs.Heads.{HeaderStands}
use Rattle.vx_ringlog.specs.Logs.{IsLog}
use Rattle.vx_ringlog.specs.Records.{Record}
use Rattle.vx_ringlog.specs.Starting.{Raises, Repeats, SameLog, started}
use Rattle.vx_ringlog.proofs.Starting.{start_safe}
use Rattle.vx_ringio.specs.Classes.{classes, is_of_ring}
use Rattle.vx_ringio.specs.Reading.{ReadsAs}
use Rattle.vx_ringio.specs.Tracks.{Tracks, AmidCalls, Follows, Arrives}
use Rattle.vx_ringio.proofs.Following.{left_now, always_left, following_gives, rest_follows, reads_stay, leaves_stay, leaves_read, left_tracks}
use Rattle.vx_srlfmt.specs.Headers.{CanSpellHeader}
use Rattle.vx_srlfmt.specs.declared.header.Header.{Header}
use Rattle.vx_srl.specs.Damages.{SeesFronts}
use Rattle.vx_srl.specs.Headers.{raised}
use Rattle.vx_srl.specs.Kepts.{IsLogKept}
use Rattle.vx_srl.specs.Rings.{RingOn, heads_of, kept_heads}
use Rattle.vx_srl.specs.Scans.{Scans}
use Rattle.vx_srl.specs.Standings.{IsStanding, first_step_of, taken_over, taking_over}
use Rattle.vx_srl.specs.Starts.{LeavesLog, IsRaised, Restarting, IsStartedLog, StartsFrom}
use Rattle.vx_srl.specs.Views.{Log}
use Rattle.vx_srl.specs.declared.kept.Kept.{Kept}
use Rattle.vx_srl.specs.declared.start.Standing.{Standing}
use Rattle.vx_srl.proofs.StartPlaces.{place_of_ring}

-- ---- the headers that a start writes

stands_of : (c : Kinds) (h : Header) → IsGreaterTop c h → (here : ℕ) × (other : ℕ) × HeaderStands c here other h
stands_of c h (inl counts) = (0, 1, record { slots = inl (refl, refl); top = counts.0; less = counts.1 })
stands_of c h (inr counts) = (1, 0, record { slots = inr (refl, refl); top = counts.0; less = counts.1 })

raises : (h : Header) (n : ℕ) → 0 < n → Raises h (raised h n)
raises h n some = record { stamp = omega arith; incarnation = omega arith; run = refl; line = refl; low = refl; place = refl; floor = refl }

repeats : (h : Header) (n : ℕ) → Repeats (raised h n) (raised h (n + 1))
repeats h n = record { stamp = omega arith; era = refl; low = refl; place = refl; floor = refl }

-- one of the three headers stands
abbrev StandsFor : ℕ → Header → List Record → Kinds → Type 0
StandsFor ring h rs i = (g : Header) × ((g ≡ h) ⊎ IsRaised h g) × Recovers ring i g rs

same_stands : (ring : ℕ) (h : Header) (n : ℕ) (rs : List Record) (i : Kinds) → 0 < n → n ≤ 2 → SameLog ring h (raised h n) (raised h (n + 1)) rs i → StandsFor ring h rs i
same_stands ring h n rs i some few (inl old) = (h, inl refl, old)
same_stands ring h n rs i some few (inr (inl first)) = (raised h n, inr (n, some, omega arith, refl), first)
same_stands ring h n rs i some few (inr (inr again)) = (raised h (n + 1), inr (n + 1, omega arith, omega arith, refl), again)

module _ (ring : ℕ) (c : Kinds) (here other : ℕ) (h : Header) (rs : List Record) (n : ℕ) (some : 0 < n) (few : n ≤ 2) (stands : HeaderStands c here other h) (recovers : Recovers ring c h rs) where
  safe : Always (Leaves (SameLog ring h (raised h n) (raised h (n + 1)) rs)) (still c) (start_acts here other (raised h n) (raised h (n + 1))) × IsLog ring (started c here other (raised h n) (raised h (n + 1)) rs)
  safe = start_safe ring c here other h (raised h n) (raised h (n + 1)) rs (record { stands = stands; raises = raises h n some; repeats = repeats h n }) recovers

  left_stands : (i : Kinds) → LeftBy (still c) (start_acts here other (raised h n) (raised h (n + 1))) i → StandsFor ring h rs i
  left_stands i left =
      same_stands ring h n rs i some few (always_left (SameLog ring h (raised h n) (raised h (n + 1)) rs) (still c) (start_acts here other (raised h n) (raised h (n + 1))) i safe.0 left)

-- ---- calls that write nothing leave what was left

module _ (unit ring : ℕ) (old : Meaning) (lawful : Lawful old) where
  pub rests : (new : Meaning) → Goes Nothing old new → Moves (Run unit 0 (ring + 2)) (Restarting unit ring old) old new
  rests new goes = following_gives unit ring [] (Restarting unit ring old) old new (rest_follows unit ring old new goes) (λ i amid. record { each = λ h rs left. each i amid h rs left })
    where
      each : (i : Image) → AmidCalls unit ring [] old i → (h : Header) (rs : List Record) → LeavesLog unit ring h rs old → StandsFor ring h rs (classes unit ring i)
      each i amid h rs left =
          let at = stands_of left.kinds h left.recovers.starts.counts in
          left_stands ring left.kinds at.0 at.1 h rs 1 (omega arith) (omega arith) at.2 left.recovers (classes unit ring i)
          (left_now (still left.kinds) (start_acts at.0 at.1 (raised h 1) (raised h 2)) (classes unit ring i) (amid.each (still left.kinds) (left_tracks unit ring left.kinds old lawful left.leaves)))

-- ---- the calls that take the log over

step_some : (stamp block : ℕ) → (0 < first_step_of stamp block) × (first_step_of stamp block ≤ 2)
step_some stamp block = go (stamp % 2 == block)
  where
    go : (t : Bool) → (0 < (if t then 1 else 2)) × ((if t then 1 else 2) ≤ 2)
    go true = (omega arith, omega arith)
    go false = (omega arith, omega arith)

module _ (unit ring : ℕ) (s : Standing) (old : Meaning) (lawful : Lawful old) (standing : IsStanding unit ring s old) where
  n : ℕ
  n = first_step_of s.header.stamp s.block

  -- where a log was left its header is the one that was found
  pub header_left : (h : Header) (rs : List Record) → LeavesLog unit ring h rs old → s.header ≡ h
  header_left h rs left = (standing.counts left.kinds h (leaves_read unit ring left.kinds old lawful left.leaves) left.recovers.starts.counts).0

  stands_left : (h : Header) (rs : List Record) (left : LeavesLog unit ring h rs old) → HeaderStands left.kinds s.block (1 - s.block) s.header
  stands_left h rs left =
      subst (λ (x : Header). HeaderStands left.kinds s.block (1 - s.block) x) (sym (header_left h rs left))
      (standing.counts left.kinds h (leaves_read unit ring left.kinds old lawful left.leaves) left.recovers.starts.counts).1

  recovers_left : (h : Header) (rs : List Record) (left : LeavesLog unit ring h rs old) → Recovers ring left.kinds s.header rs
  recovers_left h rs left = subst (λ (x : Header). Recovers ring left.kinds x rs) (sym (header_left h rs left)) left.recovers

  -- and a scan from it takes its records
  pub scans_left : (mid : Meaning) → Goes Nothing old mid → (IsTrue mid.down → ⊥) → (h : Header) (rs : List Record) → LeavesLog unit ring h rs old → Scans unit ring s.header rs mid
  scans_left mid goes up h rs left = record {
    kinds = left.kinds;
    reads = reads_stay unit ring left.kinds old mid goes up (leaves_read unit ring left.kinds old lawful left.leaves);
    scan = (recovers_left h rs left).starts.scan;
    fits = left.recovers.room;
  }

  module _ (now : Meaning) (lawful_now : Lawful now) (goes : Goes Nothing old now) (new : Meaning) where
    tracks : (h : Header) (rs : List Record) (left : LeavesLog unit ring h rs old) → Tracks unit ring (still left.kinds) now
    tracks h rs left = left_tracks unit ring left.kinds now lawful_now (leaves_stay unit ring left.kinds old now goes left.leaves)

    pub goes_over : Follows unit ring (taking_over s) now new → Moves (Run unit 0 (ring + 2)) (Restarting unit ring old) old new
    goes_over follows =
        goes_on (Run unit 0 (ring + 2)) (Run unit 0 (ring + 2)) (Restarting unit ring old) (AmidCalls unit ring (taking_over s) now) old now new (rests unit ring old lawful now goes) follows
        (λ u b is. is) (λ i beside amid. record { each = λ h rs left. each i amid h rs left })
      where
        each : (i : Image) → AmidCalls unit ring (taking_over s) now i → (h : Header) (rs : List Record) → LeavesLog unit ring h rs old → StandsFor ring h rs (classes unit ring i)
        each i amid h rs left =
            let step = step_some s.header.stamp s.block in
            subst (λ (x : Header). StandsFor ring x rs (classes unit ring i)) (header_left h rs left)
            (left_stands ring left.kinds s.block (1 - s.block) s.header rs (first_step_of s.header.stamp s.block) step.0 step.1 (stands_left h rs left) (recovers_left h rs left) (classes unit ring i)
            (amid.each (still left.kinds) (tracks h rs left)))

    -- the log that was started
    module _ (records : List Kept) (heads : (rs : List Record) → ((h : Header) → LeavesLog unit ring h rs old → kept_heads records ≡ heads_of rs)) (fronts : IsTrue old.tells → SeesFronts unit ring records old)
        (ring_reads : (b : ℕ) (v : List ℕ) → 2 ≤ b → new.reads unit b v → old.reads unit b v) (arrives : Arrives unit ring (taking_over s) now new) where
      abbrev log : Log
      log = record { unit = unit; ring = ring; header = taken_over s; held = records; staged = [] }

      place_is : (taken_over s).place % ring ≡ (taken_over s).place
      place_is = mod-eq_of_lt (place_of_ring ring s.header standing.of_ring)

      stamp_here : s.block ≡ (taken_over s).stamp % 2
      stamp_here = stamp_at s.header.stamp s.block standing.block
        where
          stamp_at : (stamp block : ℕ) → block < 2 → block ≡ (stamp + (first_step_of stamp block + 1)) % 2
          stamp_at stamp block low = go (stamp % 2 == block) refl
            where
              go : (t : Bool) → (stamp % 2 == block) ≡ t → block ≡ (stamp + ((if t then 1 else 2) + 1)) % 2
              go true is = omega (arith, eqb-true (stamp % 2) block is)
              go false is = omega (arith, low, eqb-false (stamp % 2) block is)

      on : (h : Header) (rs : List Record) (left : LeavesLog unit ring h rs old) → RingOn log (started left.kinds s.block (1 - s.block) (raised s.header n) (taken_over s) rs) new
      unfolding n
      on h rs left =
          let step = step_some s.header.stamp s.block in
          record {
            is_log = (safe ring left.kinds s.block (1 - s.block) s.header rs (first_step_of s.header.stamp s.block) step.0 step.1 (stands_left h rs left) (recovers_left h rs left)).1;
            tracks = arrives.each (still left.kinds) (tracks h rs left);
            describes = record {
              header = refl;
              here = stamp_here;
              other = omega (arith, stamp_here, standing.block);
              place = place_is;
              held = sym (heads rs h left);
              staged = refl;
            };
          }

      raised_left : (h : Header) (rs : List Record) → LeavesLog unit ring h rs old → IsRaised h (taken_over s)
      raised_left h rs left =
          let step = step_some s.header.stamp s.block in
          (first_step_of s.header.stamp s.block + 1, omega arith, omega (arith, step.1), ap (λ (x : Header). raised x (first_step_of s.header.stamp s.block + 1)) (header_left h rs left))

      raised_read : (c : Kinds) (h : Header) → ReadsAs unit ring c old → IsGreaterTop c h → IsRaised h (taken_over s)
      raised_read c h reads greater =
          let step = step_some s.header.stamp s.block in
          (first_step_of s.header.stamp s.block + 1, omega arith, omega (arith, step.1), ap (λ (x : Header). raised x (first_step_of s.header.stamp s.block + 1)) (standing.counts c h reads greater).0)

      from_header : IsTrue old.tells → StartsFrom unit ring (taken_over s) old
      from_header told =
          let step = step_some s.header.stamp s.block in
          record {
            block = s.block;
            header = s.header;
            low = standing.block;
            sees = standing.sees told;
            raised_is = (first_step_of s.header.stamp s.block + 1, omega arith, omega (arith, step.1), refl);
          }

      log_started : IsStartedLog unit ring log old new
      log_started = record {
        unit_is = refl;
        ring_is = refl;
        nothing_staged = refl;
        header_is = from_header;
        counts = raised_read;
        fronts = fronts;
        ring_reads = ring_reads;
        each = λ h rs left. (raised_left h rs left, (started left.kinds s.block (1 - s.block) (raised s.header n) (taken_over s) rs, on h rs left, refl, refl, refl));
      }

      pub is_started : (header : Header) (l : Log) → header ≡ taken_over s → l ≡ record { unit = unit; ring = ring; header = header; held = records; staged = [] } → IsStartedLog unit ring l old new
      is_started header l same is =
          let at : l ≡ log = is ∙ ap (λ (x : Header). record { unit = unit; ring = ring; header = x; held = records; staged = [] }) same in
          subst (λ (x : Log). IsStartedLog unit ring x old new) (sym at) log_started

-- what was found is kept behind the header that was written
pub kept_over : (ring : ℕ) (s : Standing) (records : List Kept) (capacity sealed end used : ℕ) (header : Header) → IsLogKept ring s.header records capacity sealed end used → header ≡ taken_over s → CanSpellHeader header
    → is_of_ring ring header ≡ true → IsLogKept ring header records capacity sealed end used
kept_over ring s records capacity sealed end used header kept same spell of_ring =
    subst (λ (h : Header). IsLogKept ring h records capacity sealed end used) (sym same)
    (record {
      ordered = record {
        some = kept.ordered.some;
        few = kept.ordered.few;
        spell = subst CanSpellHeader same spell;
        of_ring = subst (λ (h : Header). is_of_ring ring h ≡ true) same of_ring;
        heads = kept.ordered.heads;
        placed = kept.ordered.placed;
        fits = kept.ordered.fits;
        numbers = kept.ordered.numbers;
      };
      room = kept.room;
      few = kept.few;
      end_is = kept.end_is;
      used_is = kept.used_is;
    })
