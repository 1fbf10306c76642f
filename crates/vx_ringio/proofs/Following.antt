-- How the cells of a log follow its unit, call by call.
use Rattle.std.proofs.Common.{◌≡◌, inl, inr, ⊎_elim, ℕ, ◌+◌, ◌<◌, ◌≤◌, Bool, true, false, List, [], ◌∷◌, ◌++◌, IsTrue, refl, sym, ◌∙◌, subst}
use Rattle.std.specs.Prelude.{if◌then◌else◌}
use Rattle.std.proofs.lemmas.Bool.{cases_lt, lt-ltb, le-ltb}
use Rattle.vx_srlfmt.specs.Kinds.{Kind, Top, Front, Body, Damaged, Other, IsKind, kind_of}
use Rattle.vx_srlfmt.proofs.KindLaws.{kind_of-is}
use Rattle.vx_srlfmt.specs.declared.header.Header.{Header}
use Rattle.vx_disk.specs.Shelf.{Meaning, Image, Each, Lawful, Nothing, Goes}
use Rattle.vx_disk.specs.Moves.{Moves, Run, Blocks, Says, Beside}
use Rattle.vx_disk.proofs.Moving.{goes_on, of_goes, wider, still as still_moves}
use Rattle.vx_disk.proofs.Runs.{at_rest, still_left}
use Rattle.vx_ringlog.specs.Cells.{Cells, May, IsImage, read, Act, act, run_all, Always, Leaves, LeftBy, still}
use Rattle.vx_ringlog.specs.Cells as cells
use Rattle.vx_ringio.specs.Classes.{class_of, classes, narrowed, is_of_ring}
use Rattle.vx_ringio.specs.Reading.{ReadsAs, LeavesAs}
use Rattle.vx_ringio.specs.Tracks.{Tracks, AmidCalls, Follows, Arrives}

-- ---- images

pub class_here : (unit ring : ℕ) (i : Image) (b : ℕ) → b < ring + 2 → classes unit ring i b ≡ class_of ring (i unit b)
class_here unit ring i b low = rw (lt-ltb b (ring + 2) low) refl

pub class_beyond : (unit ring : ℕ) (i : Image) (b : ℕ) → ring + 2 ≤ b → classes unit ring i b ≡ Other
class_beyond unit ring i b high = rw (le-ltb b (ring + 2) high) refl

pub image_is : (unit ring : ℕ) (u : Cells) (i : Image) → ((b : ℕ) → b < ring + 2 → May u b (class_of ring (i unit b))) → ((b : ℕ) → ring + 2 ≤ b → u.stable b ≡ Other)
    → IsImage u (classes unit ring i)
image_is unit ring u i here beyond b =
    ⊎_elim
    (λ (low : b < ring + 2). subst (λ (v : Kind). May u b v) (sym (class_here unit ring i b low)) (here b low))
    (λ (high : ring + 2 ≤ b). inl (class_beyond unit ring i b high ∙ sym (beyond b high)))
    (cases_lt b (ring + 2))

-- what a crash now leaves
pub now_left : (unit ring : ℕ) (u : Cells) (m : Meaning) (i : Image) → Tracks unit ring u m → Each m.leaves i → IsImage u (classes unit ring i)
now_left unit ring u m i tracks each = image_is unit ring u i (λ b low. tracks.leaves b (i unit b) low (each unit b)) tracks.beyond

pub left_image : (unit ring : ℕ) (c : cells.RingImage) (m : Meaning) (i : Image) → LeavesAs unit ring c m → Each m.leaves i → (b : ℕ) → classes unit ring i b ≡ c b
left_image unit ring c m i leaves each b =
    ⊎_elim
    (λ (low : b < ring + 2). class_here unit ring i b low ∙ leaves.each b (i unit b) low (each unit b))
    (λ (high : ring + 2 ≤ b). class_beyond unit ring i b high ∙ sym (leaves.beyond b high))
    (cases_lt b (ring + 2))

-- ---- lists of acts

pub left_now : (u : Cells) (acts : List Act) (i : cells.RingImage) → IsImage u i → LeftBy u acts i
left_now u [] i is = is
left_now u (a ∷ rest) i is = inl is

pub left_last : (u : Cells) (acts : List Act) (i : cells.RingImage) → IsImage (run_all u acts) i → LeftBy u acts i
left_last u [] i is = is
left_last u (a ∷ rest) i is = inr (left_last (act u a) rest i is)

pub left_sooner : (u : Cells) (a b : List Act) (i : cells.RingImage) → LeftBy u a i → LeftBy u (a ++ b) i
left_sooner u [] b i left = left_now u b i left
left_sooner u (x ∷ a) b i (inl is) = inl is
left_sooner u (x ∷ a) b i (inr left) = inr (left_sooner (act u x) a b i left)

pub left_later : (u : Cells) (a b : List Act) (i : cells.RingImage) → LeftBy (run_all u a) b i → LeftBy u (a ++ b) i
left_later u [] b i left = left
left_later u (x ∷ a) b i left = inr (left_later (act u x) a b i left)

pub run_both : (u : Cells) (a b : List Act) → run_all (run_all u a) b ≡ run_all u (a ++ b)
run_both u [] b = refl
run_both u (x ∷ a) b = run_both (act u x) a b

-- what is always so is so of an image that a crash left
pub always_left : (P : cells.RingImage → Type 0) (u : Cells) (acts : List Act) (i : cells.RingImage) → Always (Leaves P) u acts → LeftBy u acts i → P i
always_left P u [] i always left = always i left
always_left P u (a ∷ rest) i always (inl is) = always.0 i is
always_left P u (a ∷ rest) i always (inr left) = always_left P (act u a) rest i always.1 left

-- ---- calls

pub nothing_follows : (unit ring : ℕ) (m : Meaning) → Follows unit ring [] m m
nothing_follows unit ring m = still_moves (Run unit 0 (ring + 2)) (AmidCalls unit ring [] m) m

pub nothing_arrives : (unit ring : ℕ) (m : Meaning) → Arrives unit ring [] m m
nothing_arrives unit ring m = record { each = λ u tracks. tracks }

pub following_gives : (unit ring : ℕ) (acts : List Act) (P : Says) (old new : Meaning) → Follows unit ring acts old new → ((i : Image) → AmidCalls unit ring acts old i → P i)
    → Moves (Run unit 0 (ring + 2)) P old new
following_gives unit ring acts P old new follows gives =
    wider (Run unit 0 (ring + 2)) (Run unit 0 (ring + 2)) (AmidCalls unit ring acts old) P old new follows (λ u b is. is) (λ i beside amid. gives i amid)

pub sooner : (unit ring : ℕ) (a b : List Act) (old new : Meaning) → Follows unit ring a old new → Follows unit ring (a ++ b) old new
sooner unit ring a b old new follows =
    following_gives unit ring a (AmidCalls unit ring (a ++ b) old) old new follows
    (λ i amid. record { each = λ u tracks. left_sooner u a b (classes unit ring i) (amid.each u tracks) })

-- the calls a, and then the calls b
pub then_follows : (unit ring : ℕ) (a b : List Act) (old mid new : Meaning) → Follows unit ring a old mid → Arrives unit ring a old mid → Follows unit ring b mid new
    → Follows unit ring (a ++ b) old new
then_follows unit ring a b old mid new one arrives two =
    goes_on (Run unit 0 (ring + 2)) (Run unit 0 (ring + 2)) (AmidCalls unit ring (a ++ b) old) (AmidCalls unit ring b mid) old mid new
    (sooner unit ring a b old mid one) two (λ u b is. is)
    (λ i beside amid. record { each = λ u tracks. left_later u a b (classes unit ring i) (amid.each (run_all u a) (arrives.each u tracks)) })

pub then_arrives : (unit ring : ℕ) (a b : List Act) (old mid new : Meaning) → Arrives unit ring a old mid → Arrives unit ring b mid new → Arrives unit ring (a ++ b) old new
then_arrives unit ring a b old mid new one two = record {
  each = λ u tracks. subst (λ (v : Cells). Tracks unit ring v new) (run_both u a b) (two.each (run_all u a) (one.each u tracks));
}

-- ---- calls that write nothing

module _ (unit ring : ℕ) (old new : Meaning) (goes : Goes Nothing old new) where
  pub rest_follows : Follows unit ring [] old new
  rest_follows =
      of_goes (Run unit 0 (ring + 2)) (AmidCalls unit ring [] old) Nothing old new goes (λ u b v no. absurd no)
      (λ i each. record { each = λ u tracks. now_left unit ring u old i tracks (λ w b. at_rest old w b (i w b) (each w b)) })

-- a read gives what it gave
pub still_read : (old new : Meaning) → Goes Nothing old new → (IsTrue new.down → ⊥) → (u b : ℕ) (v : List ℕ) → new.reads u b v → old.reads u b v
still_read old new goes up u b v reads =
    ⊎_elim (λ or. ⊎_elim (λ was. was) (λ no. absurd no) or) (λ down. absurd (up down)) (goes.reads u b v reads)

pub rest_tracks : (unit ring : ℕ) (u : Cells) (old new : Meaning) → Goes Nothing old new → (IsTrue new.down → ⊥) → Tracks unit ring u old → Tracks unit ring u new
rest_tracks unit ring u old new goes up tracks = record {
  leaves = λ b v low left. tracks.leaves b v low (still_left old new goes unit b v left);
  reads = λ b v low reads. tracks.reads b v low (still_read old new goes up unit b v reads);
  beyond = tracks.beyond;
  beyond_read = tracks.beyond_read;
}

pub reads_stay : (unit ring : ℕ) (c : cells.RingImage) (old new : Meaning) → Goes Nothing old new → (IsTrue new.down → ⊥) → ReadsAs unit ring c old → ReadsAs unit ring c new
reads_stay unit ring c old new goes up reads = record {
  tells = subst (λ (t : Bool). IsTrue t) (sym goes.tells) reads.tells;
  each = λ b v low is. reads.each b v low (still_read old new goes up unit b v is);
}

pub leaves_stay : (unit ring : ℕ) (c : cells.RingImage) (old new : Meaning) → Goes Nothing old new → LeavesAs unit ring c old → LeavesAs unit ring c new
leaves_stay unit ring c old new goes leaves = record {
  tells = subst (λ (t : Bool). IsTrue t) (sym goes.tells) leaves.tells;
  each = λ b v low left. leaves.each b v low (still_left old new goes unit b v left);
  beyond = leaves.beyond;
}

-- ---- what stands, and what is read

pub leaves_read : (unit ring : ℕ) (c : cells.RingImage) (m : Meaning) → Lawful m → LeavesAs unit ring c m → ReadsAs unit ring c m
leaves_read unit ring c m lawful leaves = record { tells = leaves.tells; each = λ b v low reads. leaves.each b v low (lawful.shown unit b v reads) }

pub left_tracks : (unit ring : ℕ) (c : cells.RingImage) (m : Meaning) → Lawful m → LeavesAs unit ring c m → Tracks unit ring (still c) m
left_tracks unit ring c m lawful leaves = record {
  leaves = λ b v low left. inl (leaves.each b v low left);
  reads = λ b v low reads. leaves.each b v low (lawful.shown unit b v reads);
  beyond = leaves.beyond;
  beyond_read = leaves.beyond;
}

pub tracks_read : (unit ring : ℕ) (u : Cells) (m : Meaning) → IsTrue m.tells → Tracks unit ring u m → ReadsAs unit ring (read u) m
tracks_read unit ring u m tells tracks = record { tells = tells; each = tracks.reads }

-- ---- a body block is its bytes

not_top : (t : Bool) (h : Header) (x : List ℕ) → (if t then Top h else Other) ≡ Body x → ⊥
not_top true h x is = cc
not_top false h x is = cc

pub narrowed_body : (ring : ℕ) (k : Kind) (x : List ℕ) → narrowed ring k ≡ Body x → k ≡ Body x
narrowed_body ring (Top h) x is = absurd (not_top (is_of_ring ring h) h x is)
narrowed_body ring (Front r) x is = is
narrowed_body ring (Body bytes) x is = is
narrowed_body ring Damaged x is = is
narrowed_body ring Other x is = is

pub body_same : (ring : ℕ) (b x : List ℕ) → class_of ring b ≡ Body x → b ≡ x
unfolding class_of
body_same ring b x is = sym (subst (λ (k : Kind). IsKind b k) (narrowed_body ring (kind_of b) x is) (kind_of-is b)).1

-- ---- beside a call on other blocks

pub tracks_beside : (unit ring : ℕ) (u : Cells) (mine : Blocks) (P : Says) (old new : Meaning) → Moves mine P old new → ((b : ℕ) → b < ring + 2 → mine unit b → ⊥) → (IsTrue new.down → ⊥)
    → Tracks unit ring u old → Tracks unit ring u new
tracks_beside unit ring u mine P old new moves out up tracks = record {
  leaves = λ b v low left. ⊎_elim (λ was. tracks.leaves b v low was) (λ in_mine. absurd (out b low in_mine)) (moves.leaves unit b v left);
  reads = λ b v low reads. elim (moves.reads unit b v reads) [
    | inl was ↦ tracks.reads b v low was
    | inr (inl in_mine) ↦ absurd (out b low in_mine)
    | inr (inr down) ↦ absurd (up down)
  ];
  beyond = tracks.beyond;
  beyond_read = tracks.beyond_read;
}

pub image_beside : (unit ring : ℕ) (u : Cells) (mine : Blocks) (m : Meaning) (i : Image) → Tracks unit ring u m → Beside mine m.leaves i → ((b : ℕ) → b < ring + 2 → mine unit b → ⊥)
    → IsImage u (classes unit ring i)
image_beside unit ring u mine m i tracks beside out =
    image_is unit ring u i (λ b low. ⊎_elim (λ was. tracks.leaves b (i unit b) low was) (λ in_mine. absurd (out b low in_mine)) (beside unit b)) tracks.beyond
