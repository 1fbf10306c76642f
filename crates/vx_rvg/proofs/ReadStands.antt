-- A read: what waits over what the volumes show is the content, and the group stands as before.
use Rattle.std.proofs.Common.{◌≡◌, ℕ, zero, suc, ◌+◌, ◌-◌, ◌<◌, ◌≤◌, Bool, true, false, List, [], ◌∷◌, length, drop, Option, Some, None, IsTrue, IsFalse, MatchOption, All, refl, sym, ◌∙◌, ap, subst, arith}
use Rattle.std.proofs.lemmas.Bool.{both_ways}
use Rattle.std.proofs.lemmas.List.Elements.{All-nil, All-cons, All-head, All-tail}
use Rattle.std.proofs.lemmas.Nat.{div-add-mod'}
use Rattle.vx_model.specs.Content.{Content, Write, blocks_in, block_of}
use Rattle.vx_disk.specs.Shelf.{Covers, Goes, Keeps, Lawful, Meaning, Nothing, Read}
use Rattle.vx_disk.proofs.Runs.{at_rest}
use Rattle.vx_overlay.specs.declared.entry.Entry.{Entry}
use Rattle.vx_overlay.specs.Pending.{newest}
use Rattle.vx_overlay.specs.Writes.{IsWholeWrite, newest_of}
use Rattle.vx_overlay.proofs.WriteLemmas.{newest_drop, newest_entries}
use Rattle.vx_ringlog.specs.Logs.{State}
use Rattle.vx_ringlog.specs.Records.{Record, write_logged}
use Rattle.vx_ringio.specs.Bodies.{IsBlocks}
use Rattle.vx_ringio.proofs.Following.{rest_tracks}
use Rattle.vx_srl.specs.Rings.{RingOn}
use Rattle.vx_rvg.specs.Commits.{HasStaged}
use Rattle.vx_rvg.specs.Contents.{ShowsContent, writes_of}
use Rattle.vx_rvg.specs.Groups.{IsPatched}
use Rattle.vx_rvg.specs.Holdings.{Holding}
use Rattle.vx_rvg.specs.Stands.{IsCovered, IsWholeRecord, Ready, Stands, StandsWith}
use Rattle.vx_rvg.specs.Views.{Core, IsSound, applied_count, unit_of}
use Rattle.vx_rvg.proofs.WriteSound.{SameSizes, ended_sound}

-- ---- the group behind a call that writes nothing

pub rest_sizes : (m m' : Meaning) → Goes Nothing m m' → SameSizes m m'
rest_sizes m m' goes = record { units = goes.units; size = goes.size }

pub still_up : (m m' : Meaning) → Goes Nothing m m' → IsFalse m'.down → IsFalse m.down
still_up m m' goes up = was_up m.down m'.down goes.falls up
  where
    was_up : (before after : Bool) → (IsTrue before → IsTrue after) → IsFalse after → IsFalse before
    was_up false after falls not = refl
    was_up true after falls not = let wrong : false ≡ true = sym not ∙ falls refl in cc

pub rest_sound : (core : Core) (m m' : Meaning) → Goes Nothing m m' → IsSound core m → IsSound core m'
rest_sound core m m' goes sound =
    ended_sound core core.log core.halted m m' (rest_sizes m m' goes) sound (record { unit = refl; ring = refl; header = refl; held = refl })
    (λ running up. sound.idle running (still_up m m' goes up))

pub keeps_rest : (m m' : Meaning) → Goes Nothing m m' → (u b : ℕ) (y : List ℕ) → Keeps m u b y → Keeps m' u b y
keeps_rest m m' goes u b y keeps = record { only = λ v left. keeps.only v (at_rest m u b v (goes.leaves u b v left)) }

keeps_each : (m m' : Meaning) → Goes Nothing m m' → (o : Option (List ℕ)) (u b : ℕ) (y : List ℕ) → MatchOption o (Keeps m u b y) (λ bytes. bytes ≡ y) → MatchOption o (Keeps m' u b y) (λ bytes. bytes ≡ y)
keeps_each m m' goes (Some bytes) u b y is = is
keeps_each m m' goes None u b y keeps = keeps_rest m m' goes u b y keeps

-- with whatever is staged
pub rest_with : (staged : List Record) (core : Core) (m m' : Meaning) → Goes Nothing m m' → IsFalse m'.down → (h : Holding) → StandsWith staged core h m → StandsWith staged core h m'
rest_with staged core m m' goes up h stands = record {
  log = stands.log;
  low = stands.low;
  place = stands.place;
  writes = stands.writes;
  maps = record { size = (let least = stands.maps.size in let same = goes.size core.units.maps in omega (arith, least, same)); each = λ b bytes there. keeps_rest m m' goes core.units.maps b bytes (stands.maps.each b bytes there) };
  marks = stands.marks;
  ready = record {
    ring = record { is_log = on.is_log; tracks = rest_tracks core.log.unit core.log.ring stands.log.unit m m' goes (λ down. both_ways m'.down up down) on.tracks; describes = on.describes };
    idle = stands.ready.idle;
    whole = stands.ready.whole;
    sizes = record { each = λ v low. stands.ready.sizes.each v low ∙ sym (goes.size (unit_of core.units.vols v)); none = stands.ready.sizes.none };
    content = record {
      each = λ v b low. keeps_each m m' goes (newest_of h.content.size (writes_of stands.log.held) v b) (unit_of core.units.vols v) b (h.content.block v b) (stands.ready.content.each v b low);
    };
    waiting = stands.ready.waiting;
    settled = λ v b low none. keeps_rest m m' goes (unit_of core.units.vols v) b (h.content.block v b) (stands.ready.settled v b low none);
  };
}
  where
    on : RingOn core.log stands.log m
    on = stands.ready.ring

pub rest_stands : (core : Core) (m m' : Meaning) → Goes Nothing m m' → IsFalse m'.down → (h : Holding) → Stands core h m → Stands core h m'
rest_stands core m m' goes up h stands = rest_with [] core m m' goes up h stands

pub rest_staged : (core : Core) (m m' : Meaning) → Goes Nothing m m' → IsFalse m'.down → (xs : List Write) (h : Holding) → HasStaged xs core h m → HasStaged xs core h m'
rest_staged core m m' goes up xs h has = record { records = has.records; are = has.are; whole = has.whole; stands = rest_with has.records core m m' goes up h has.stands }

-- ---- what waits is the content

pub whole_writes : (rs : List Record) → All IsWholeRecord rs → All IsWholeWrite (writes_of rs)
whole_writes [] whole = All-nil IsWholeWrite
whole_writes (r ∷ rs) whole =
    All-cons IsWholeWrite (write_logged r) (writes_of rs) (omega (arith, All-head IsWholeRecord r rs whole)) (whole_writes rs (All-tail IsWholeRecord r rs whole))

pub whole_drop : (n : ℕ) (rs : List Record) → All IsWholeRecord rs → All IsWholeRecord (drop n rs)
whole_drop zero rs whole = whole
whole_drop (suc n) [] whole = whole
whole_drop (suc n) (r ∷ rs) whole = whole_drop n rs (All-tail IsWholeRecord r rs whole)

pub writes_drop : (n : ℕ) (rs : List Record) → writes_of (drop n rs) ≡ drop n (writes_of rs)
writes_drop zero rs = refl
writes_drop (suc n) [] = refl
writes_drop (suc n) (r ∷ rs) = writes_drop n rs

matched : (o : Option (List ℕ)) (bytes y : List ℕ) (P : Type 0) → o ≡ Some bytes → MatchOption o P (λ b. b ≡ y) → bytes ≡ y
matched o bytes y P is match = subst (λ (p : Option (List ℕ)). MatchOption p P (λ b. b ≡ y)) is match

-- a group that stands has its content over what its log holds
pub ready_covers : (core : Core) (c : Content) (m : Meaning) (s : State) → Ready core c s m → IsCovered core c s.held m
ready_covers core c m s ready = record { whole = ready.whole; sizes = ready.sizes; content = ready.content; waiting = ready.waiting; settled = ready.settled }

pub waits_content : (core : Core) (c : Content) (m : Meaning) (rs : List Record) (ready : IsCovered core c rs m) (v b : ℕ) (bytes : List ℕ) → b < c.size v
    → newest core.pending.entries v b ≡ Some bytes → bytes ≡ c.block v b
waits_content core c m rs ready v b bytes low is =
    let n : ℕ = applied_count core in
    let among : newest_of c.size (drop n (writes_of rs)) v b ≡ Some bytes
    = ap (λ (ws : List Write). newest_of c.size ws v b) (sym (writes_drop n rs))
    ∙ sym (newest_entries c.size (writes_of (drop n rs)) v b (whole_writes (drop n rs) (whole_drop n rs ready.whole)))
    ∙ ap (λ (es : List Entry). newest es v b) (sym ready.waiting) ∙ is in
    matched (newest_of c.size (writes_of rs) v b) bytes (c.block v b) (Keeps m (unit_of core.units.vols v) b (c.block v b)) (newest_drop c.size n (writes_of rs) v b bytes among) (ready.content.each v b low)

-- ---- a block that was read and patched

module _ (core : Core) (c : Content) (m : Meaning) (rs : List Record) (ready : IsCovered core c rs m) (lawful : Lawful m) (tells : IsTrue m.tells) (vol start : ℕ) (exists : vol < length core.units.vols)
    (old mid new : List ℕ) (blocks : IsBlocks old) (same : length mid ≡ length old) (within : start + blocks_in old ≤ m.size (unit_of core.units.vols vol))
    (read : Read m (unit_of core.units.vols vol) start mid) (patched : IsPatched core.pending.entries vol start mid new) where
  inside : (k : ℕ) → k < blocks_in old → start + k < c.size vol
  inside k low = omega (arith, low, within, ready.sizes.each vol exists)

  from_volume : (k : ℕ) → k < blocks_in old → newest core.pending.entries vol (start + k) ≡ None → block_of mid k ≡ c.block vol (start + k)
  from_volume k low none =
      let covers : Covers (unit_of core.units.vols vol) start mid (unit_of core.units.vols vol) (start + k)
      = record { there = refl; first = omega arith; last = omega (arith, low, same, blocks.whole, div-add-mod' (length old) 512) } in
      let at : start + k - start ≡ k = omega arith in
      let shown : m.reads (unit_of core.units.vols vol) (start + k) (block_of mid k)
      = subst (λ (j : ℕ). m.reads (unit_of core.units.vols vol) (start + k) (block_of mid j)) at (read.each tells (start + k) covers) in
      (ready.settled vol (start + k) (inside k low) none).only (block_of mid k) (lawful.shown (unit_of core.units.vols vol) (start + k) (block_of mid k) shown)

  one_block : (k : ℕ) → k < blocks_in old → (o : Option (List ℕ)) → newest core.pending.entries vol (start + k) ≡ o
      → MatchOption o (block_of new k ≡ block_of mid k) (λ bytes. block_of new k ≡ bytes) → block_of new k ≡ c.block vol (start + k)
  one_block k low (Some bytes) is here = here ∙ waits_content core c m rs ready vol (start + k) bytes (inside k low) is
  one_block k low None is here = here ∙ from_volume k low is

  pub shows : ShowsContent c vol start (blocks_in old) new
  shows = record { each = λ k low. one_block k low (newest core.pending.entries vol (start + k)) refl (patched.each k (omega (arith, low, same))) }
