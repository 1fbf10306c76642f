-- How many calls a write is in a log that began empty and did not go round.
use Rattle.std.proofs.Common.{◌≡◌, ◌∙◌, ◌+◌, ◌<◌, ◌≤◌, ◌-◌, ⊎_elim, ℕ, List, [], ◌∷◌, ◌++◌, length, drop, ap, sym, subst, refl, arith, IsTrue, true}
use Rattle.std.specs.Prelude.{◌%◌, false, IsSome, Option, Some, None, Result, Ok, Err, OnOk}
use Rattle.std.proofs.lemmas.List.{append-nil}
use Rattle.std.proofs.Math.Nat.{mod-eq_of_lt}
use Rattle.vx_model.specs.Content.{Content, Write, blocks_in}
use Rattle.vx_model.specs.Sites.{is_origin}
use Rattle.vx_model.specs.declared.limits.TheConstants.{MOST_CALL_BLOCKS}
use Rattle.vx_history.specs.Events.{logged_blocks}
use Rattle.vx_history.specs.World.{Node, Fuse, FuseSet}
use Rattle.vx_model.specs.declared.no.No.{No}
use Rattle.vx_diskset.specs.Holds.{KeptBeside}
use Rattle.vx_disk.specs.Causes.{WithDisks}
use Rattle.vx_disk.specs.Disks.{Disks}
use Rattle.vx_disk.specs.Shelf.{Meaning}
use Rattle.vx_disk.specs.declared.shelf.Shelf.{Ghosts}
use Rattle.vx_rvg.specs.declared.group.Rvg.{Rvg}
use Rattle.vx_disk.specs.Burns.{FewerLeft, MakesCalls, IsShort, RackIsShort, FallsShort}
use Rattle.vx_srl.specs.Views.{Log, BodyFits, all_of, end_of, free_of, kept_record, widths}
use Rattle.vx_srl.specs.declared.kept.Kept.{Kept}
use Rattle.vx_srl.proofs.LogLists.{place_sum}
use Rattle.vx_srl.proofs.Shared_S1.{widths_append}
use Rattle.vx_rvg.specs.Holdings.{blocks_taken}
use Rattle.vx_rvg.specs.Views.{Core, IsSound}
use Rattle.vx_rvg.proofs.FetchGives.{widths_beside}
use Rattle.vx_diskset.specs.Lasts.{StandsHolding}
use Rattle.vx_rvg.specs.Groups.{core_with_write}
use Rattle.vx_diskset.specs.Fuses.{IsFirstLog}
use Rattle.vx_diskset.specs.Fuses.{FuseOn, LetsOn}
use Rattle.vx_events.specs.Fuses.{IsExact, KeepsAllWrites}
use Rattle.vx_diskset.specs.Stands.{IsUpAt}

pub taken_push : (xs : List Write) (x : Write) → logged_blocks (xs ++ x ∷ []) ≡ logged_blocks xs + (blocks_in x.bytes + 1)
taken_push [] x = omega arith
taken_push (y ∷ xs) x = let rest = taken_push xs x in omega (arith, rest)

pub taken_many : (xs : List Write) → length xs ≤ logged_blocks xs
taken_many [] = omega arith
taken_many (x ∷ xs) = let rest = taken_many xs in omega (arith, rest)

-- a log with room for one write more
module _ (l : Log) (xs : List Write) (bytes : List ℕ) (first : IsFirstLog l xs) (idle : l.staged ≡ []) (some : 0 < blocks_in bytes) (room : logged_blocks xs + (blocks_in bytes + 1) ≤ l.ring) where
  all_is : all_of l ≡ l.held
  all_is = ap (λ (ks : List Kept). l.held ++ ks) idle ∙ append-nil l.held

  used : widths (all_of l) ≡ logged_blocks xs
  used = ap widths all_is ∙ first.widths_are

  pub at_hand : blocks_in bytes < free_of l
  at_hand = omega (arith, used, room)

  end_is : end_of l ≡ logged_blocks xs
  end_is =
      place_sum l.ring l.header.place (all_of l) (omega (arith, first.place, room))
      ∙ mod-eq_of_lt (omega (arith, first.place, used, room))
      ∙ (let sum : l.header.place + widths (all_of l) ≡ logged_blocks xs = omega (arith, first.place, used) in sum)

  pub fits : BodyFits l bytes
  fits =
      let small : (end_of l + 1) % l.ring ≡ end_of l + 1 = mod-eq_of_lt (omega (arith, end_is, some, room)) in
      omega (arith, small, end_is, room)

-- with the write
pub first_pushed : (c c' : Core) (xs : List Write) (volume start : ℕ) (bytes : List ℕ) → c' ≡ core_with_write c volume start bytes → c.log.staged ≡ [] → IsFirstLog c.log xs
    → IsFirstLog c'.log (xs ++ record { volume = volume; start = start; bytes = bytes } ∷ [])
first_pushed c c' xs volume start bytes is idle first = record {
  place = ap (λ (k : Core). k.log.header.place) is ∙ first.place;
  widths_are =
      let k : Kept = kept_record c.log volume start bytes in
      let held : widths (c.log.held ++ (c.log.staged ++ k ∷ [])) ≡ widths c.log.held + widths (k ∷ []) =
      widths_append c.log.held (c.log.staged ++ k ∷ []) ∙ ap (λ (ks : List Kept). widths c.log.held + widths (ks ++ k ∷ [])) idle in
      let more = taken_push xs (record { volume = volume; start = start; bytes = bytes }) in
      ap (λ (x : Core). widths x.log.held) is ∙ omega (arith, held, first.widths_are, more);
}

-- a log that holds all of its writes
pub taken_same : (xs : List Write) → blocks_taken xs ≡ logged_blocks xs
taken_same [] = refl
taken_same (x ∷ xs) = let rest = taken_same xs in omega (arith, rest)

first_whole : (c : Core) (xs : List Write) (base : Content) (m : Meaning) → StandsHolding c xs base m → logged_blocks xs + (MOST_CALL_BLOCKS + 1) ≤ c.log.ring → IsFirstLog c.log xs
first_whole c xs base m stood room =
    let whole = stood.has.whole room in
    let none : stood.held.low - 1 ≡ 0 = omega (arith, whole.0) in
    record {
      place = stood.stands.place ∙ whole.1;
      widths_are = widths_beside c stood.held m stood.stands ∙ ap (λ (ws : List Write). blocks_taken ws) (stood.has.writes ∙ ap (λ (k : ℕ). drop k xs) none) ∙ taken_same xs;
    }

-- ---- what the fuse says of its calls

fewer_four : (calls pick : ℕ) (fuse new : Option (ℕ × ℕ)) → fuse ≡ Some (calls, pick) → FewerLeft 4 fuse new → 4 ≤ calls
fewer_four calls pick None new is fewer = absurd (cc)
fewer_four calls pick (Some f) new is fewer =
    let same : f ≡ (calls, pick) = cc in
    omega (arith, fewer.0, ap (λ (p : ℕ × ℕ). p.0) same)

four_of : (calls : ℕ) (old new : Option Disks) → IsSome old → WithDisks old new (λ o n. FewerLeft 4 o.fuse n.fuse) → LetsOn calls old → 4 ≤ calls
four_of calls None new some with lets = let wrong : false ≡ true = some in absurd (cc)
four_of calls (Some o) None some with lets = absurd with
four_of calls (Some o) (Some n) some with lets = fewer_four calls lets.0 o.fuse n.fuse lets.1 with

short_four : (calls pick : ℕ) (fuse : Option (ℕ × ℕ)) → fuse ≡ Some (calls, pick) → IsShort 4 fuse → calls < 4
short_four calls pick None is short = absurd short
short_four calls pick (Some f) is short =
    let same : f ≡ (calls, pick) = cc in
    omega (arith, short, ap (λ (p : ℕ × ℕ). p.0) same)

less_of : (calls : ℕ) (old : Option Disks) → IsSome old → RackIsShort 4 old → LetsOn calls old → calls < 4
less_of calls None some short lets = let wrong : false ≡ true = some in absurd (cc)
less_of calls (Some o) some short lets = short_four calls lets.0 o.fuse lets.1 short

-- a shelf that a call made no rack was none before
pub rack_before : (old new : Option Disks) (P : Disks → Disks → Type 0) → WithDisks old new P → IsSome new → IsSome old
rack_before None None P with some = some
rack_before None (Some n) P with some = absurd with
rack_before (Some o) new P with some = refl

lets_pass : (n : Node) (m : Meaning) (calls : ℕ) → n.fuse ≡ FuseSet calls → FuseOn n.fuse m → LetsOn calls m.disks
lets_pass n m calls set has = subst (λ (f : Fuse). FuseOn f m) set has

-- a site that is up, and a write that is exactly four calls
module _ {beside : KeptBeside} (n : Node) (c : Core) (m : Meaning) (volume start : ℕ) (bytes : List ℕ) (up : IsUpAt beside n c m) (none : n.halted ≡ None) (origin : is_origin n.role ≡ true) (sound : IsSound c m) (told : IsTrue m.tells) (some : 0 < blocks_in bytes)
    (keeps : KeepsAllWrites n) (room : logged_blocks n.log + (blocks_in bytes + 1) ≤ n.ring) where
  idle : c.log.staged ≡ []
  idle = sound.idle (up.halted ∙ none) up.up

  pub first_here : IsFirstLog c.log n.log
  first_here =
      ⊎_elim (λ one. up.fresh origin told none one (omega (arith, room))) (λ (most : logged_blocks n.log + (MOST_CALL_BLOCKS + 1) ≤ n.ring). first_whole c n.log n.base m (up.content none told) (omega (arith, most, up.ring))) keeps

  pub hand_here : blocks_in bytes < free_of c.log
  hand_here = at_hand c.log n.log bytes first_here idle some (omega (arith, room, up.ring))

  pub fits_here : BodyFits c.log bytes
  fits_here = fits c.log n.log bytes first_here idle some (omega (arith, room, up.ring))

  pub pushed_here : (c' : Core) → c' ≡ core_with_write c volume start bytes → IsFirstLog c'.log (n.log ++ record { volume = volume; start = start; bytes = bytes } ∷ [])
  pushed_here c' is = first_pushed c c' n.log volume start bytes is idle first_here

  pub four_here : (new : Meaning) (calls : ℕ) → IsSome new.disks → n.fuse ≡ FuseSet calls → MakesCalls 4 m new → 4 ≤ calls
  four_here new calls some set made = four_of calls m.disks new.disks (rack_before m.disks new.disks _ made.fuses some) made.fuses (lets_pass n m calls set up.fuse)

  pub less_here : (new : Meaning) (calls : ℕ) → IsSome m.disks → n.fuse ≡ FuseSet calls → FallsShort 4 m new → IsTrue new.down → calls < 4
  less_here new calls some set falls down = less_of calls m.disks some (falls.left up.up down) (lets_pass n m calls set up.fuse)

-- ---- the same of a group before and behind the making of room, which changed nothing

module _ {beside : KeptBeside} {R : Type 0} {g : Ghosts R} (n : Node) (old mid : Rvg R g) (volume start : ℕ) (bytes : List ℕ) (up : IsUpAt beside n old.core (g.meaning old.shelf)) (none : n.halted ≡ None) (origin : is_origin n.role ≡ true) (told : IsTrue (g.meaning old.shelf).tells)
    (some : 0 < blocks_in bytes) where
  at_once : KeepsAllWrites n → logged_blocks n.log + (blocks_in bytes + 1) ≤ n.ring → (blocks_in bytes < free_of old.core.log → mid ≡ old) → mid ≡ old
  at_once keeps room idle = idle (hand_here n old.core (g.meaning old.shelf) volume start bytes up none origin old.sound told some keeps room)

  pub first_after : KeepsAllWrites n → logged_blocks n.log + (blocks_in bytes + 1) ≤ n.ring → (blocks_in bytes < free_of old.core.log → mid ≡ old) → IsFirstLog mid.core.log n.log
  first_after keeps room idle =
      subst (λ (r : Rvg R g). IsFirstLog r.core.log n.log) (sym (at_once keeps room idle)) (first_here n old.core (g.meaning old.shelf) volume start bytes up none origin old.sound told some keeps room)

  falls_less : (r : Rvg R g) → r ≡ old → (new : Meaning) (calls : ℕ) → IsSome (g.meaning r.shelf).disks → IsExact n (record { volume = volume; start = start; bytes = bytes }) calls
      → (BodyFits r.core.log bytes → FallsShort 4 (g.meaning r.shelf) new) → IsTrue new.down → calls < 4
  falls_less r same new calls some_disks exact short down =
      let rack : IsSome (g.meaning old.shelf).disks = subst (λ (k : Rvg R g). IsSome (g.meaning k.shelf).disks) same some_disks in
      let here : BodyFits old.core.log bytes → FallsShort 4 (g.meaning old.shelf) new = subst (λ (k : Rvg R g). BodyFits k.core.log bytes → FallsShort 4 (g.meaning k.shelf) new) same short in
      less_here n old.core (g.meaning old.shelf) volume start bytes up none origin old.sound told some exact.keeps exact.room new calls rack exact.set
      (here (fits_here n old.core (g.meaning old.shelf) volume start bytes up none origin old.sound told some exact.keeps exact.room)) down

  pub cut_less : (new : Meaning) (calls : ℕ) → IsSome (g.meaning mid.shelf).disks → IsExact n (record { volume = volume; start = start; bytes = bytes }) calls → (blocks_in bytes < free_of old.core.log → mid ≡ old)
      → (BodyFits mid.core.log bytes → FallsShort 4 (g.meaning mid.shelf) new) → IsTrue new.down → calls < 4
  cut_less new calls rack exact idle short down = falls_less mid (at_once exact.keeps exact.room idle) new calls rack exact short down

  makes_four : (r : Rvg R g) → r ≡ old → (new : Meaning) (calls : ℕ) → IsSome new.disks → IsExact n (record { volume = volume; start = start; bytes = bytes }) calls
      → (BodyFits r.core.log bytes → MakesCalls 4 (g.meaning r.shelf) new) → 4 ≤ calls
  makes_four r same new calls rack exact made =
      let here : BodyFits old.core.log bytes → MakesCalls 4 (g.meaning old.shelf) new = subst (λ (k : Rvg R g). BodyFits k.core.log bytes → MakesCalls 4 (g.meaning k.shelf) new) same made in
      four_here n old.core (g.meaning old.shelf) volume start bytes up none origin old.sound told some exact.keeps exact.room new calls rack exact.set
      (here (fits_here n old.core (g.meaning old.shelf) volume start bytes up none origin old.sound told some exact.keeps exact.room))

  pub exact_is : (new : Meaning) (calls : ℕ) → IsSome new.disks → IsExact n (record { volume = volume; start = start; bytes = bytes }) calls → (blocks_in bytes < free_of old.core.log → mid ≡ old)
      → (result : Result ℕ No) → OnOk result (BodyFits mid.core.log bytes → MakesCalls 4 (g.meaning mid.shelf) new) → OnOk result (4 ≤ calls)
  exact_is new calls rack exact idle (Ok number) made = makes_four mid (at_once exact.keeps exact.room idle) new calls rack exact made
  exact_is new calls rack exact idle (Err why) made = tt
