-- The headers of records, written one after another.
use Rattle.std.proofs.Common.{◌≡◌, ℕ, ◌+◌, ◌-◌, ◌%◌, ◌<◌, ◌≤◌, List, [], ◌∷◌, ◌++◌, length, take, drop, get_or, All, Result, Ok, Err, IsTrue, refl, sym, ◌∙◌, ap, subst, arith, length-drop}
use Rattle.std.proofs.Math.Nat.{mod-lt}
use Rattle.std.proofs.lemmas.List.{get_or-drop, take-append-drop, take_all, take_more}
use Rattle.std.proofs.lemmas.List.Elements.{All-cons, All-nil}
use Rattle.vx_srlfmt.specs.Kinds.{Front}
use Rattle.vx_disk.specs.Causes.{Cause}
use Rattle.vx_disk.specs.Shelf.{Meaning}
use Rattle.vx_disk.specs.declared.shelf.ShelfError.{ShelfError}
use Rattle.vx_disk.specs.declared.shelf.ShelfError.TheVariants.{Fault, Down}
use Rattle.vx_ringlog.specs.Cells.{Act, Flush, Write}
use Rattle.vx_ringlog.specs.Chain.{block}
use Rattle.vx_disk.specs.Burns.{FallsShort, MakesCalls}
use Rattle.vx_ringio.specs.Tracks.{Arrives, Follows, RingLies}
use Rattle.vx_disk.proofs.Burning.{sooner_short, then_calls, then_short}
use Rattle.vx_disk.proofs.Causing.{Rose_before}
use Rattle.vx_ringio.proofs.Following.{nothing_arrives, nothing_follows, sooner, then_arrives, then_follows}
use Rattle.vx_disk.specs.Causes.{DeviceCause, refusal_of}
use Rattle.vx_srl.specs.Causes.{CallsEnded}
use Rattle.vx_srl.specs.Fronts.{fronts_written, seal_written}
use Rattle.vx_srl.specs.Views.{PlacedFrom, width_of}
use Rattle.vx_srl.specs.declared.kept.Kept.{Kept}

pub places_low : (ring p : ℕ) (ks : List Kept) → p < ring → PlacedFrom ring p ks → All (λ k. k.place < ring) ks
places_low ring p [] low placed = All-nil (λ k. k.place < ring)
places_low ring p (k ∷ ks) low placed =
    All-cons (λ x. x.place < ring) k ks (omega (arith, placed.0, low)) (places_low ring ((p + width_of k) % ring) ks (mod-lt (p + width_of k) (omega (arith, low))) placed.1)

pub fronts_append : (ring : ℕ) (ks ls : List Kept) → fronts_written ring (ks ++ ls) ≡ fronts_written ring ks ++ fronts_written ring ls
fronts_append ring [] ls = refl
fronts_append ring (k ∷ ks) ls = ap (λ (acts : List Act). Write (block ring k.place) (Front k.head) ∷ acts) (fronts_append ring ks ls)

-- those from one on, up to another
abbrev pub fronts_to : ℕ → List Kept → ℕ → ℕ → List Act
fronts_to ring ks from to = fronts_written ring (take (to - from) (drop from ks))

pub fronts_more : (ring : ℕ) (ks : List Kept) (from k : ℕ) (x : Kept) → from ≤ k → k < length ks → x ≡ get_or ks k x
    → fronts_to ring ks from (k + 1) ≡ fronts_to ring ks from k ++ Write (block ring x.place) (Front x.head) ∷ []
fronts_more ring ks from k x low more is =
    let count : k + 1 - from ≡ (k - from) + 1 = omega (arith, low) in
    let at : from + (k - from) ≡ k = omega (arith, low) in
    let item : get_or (drop from ks) (k - from) x ≡ x = get_or-drop from ks (k - from) x ∙ ap (λ (n : ℕ). get_or ks n x) at ∙ sym is in
    ap (λ (n : ℕ). fronts_written ring (take n (drop from ks))) count
    ∙ ap (λ (xs : List Kept). fronts_written ring xs) (take_more (drop from ks) (k - from) x (omega (arith, low, more, length-drop from ks)))
    ∙ ap (λ (y : Kept). fronts_written ring (take (k - from) (drop from ks) ++ y ∷ [])) item
    ∙ fronts_append ring (take (k - from) (drop from ks)) (x ∷ [])

fronts_none : (ring : ℕ) (ks : List Kept) (from : ℕ) → fronts_to ring ks from from ≡ []
fronts_none ring ks from = let none : from - from ≡ 0 = omega arith in ap (λ (n : ℕ). fronts_written ring (take n (drop from ks))) none

pub fronts_all : (ring : ℕ) (ks : List Kept) (from k : ℕ) → length ks ≤ k → fronts_to ring ks from k ≡ fronts_written ring (drop from ks)
fronts_all ring ks from k all = ap (λ (xs : List Kept). fronts_written ring xs) (take_all (k - from) (drop from ks) (omega (arith, all, length-drop from ks)))

-- the first of them, and the rest
fronts_split : (ring : ℕ) (ks : List Kept) (from k : ℕ) → fronts_to ring ks from k ++ fronts_written ring (drop (k - from) (drop from ks)) ≡ fronts_written ring (drop from ks)
fronts_split ring ks from k =
    sym (fronts_append ring (take (k - from) (drop from ks)) (drop (k - from) (drop from ks)))
    ∙ ap (λ (xs : List Kept). fronts_written ring xs) (take-append-drop (k - from) (drop from ks))

-- ---- calls

pub lies_stays : (unit ring : ℕ) (acts : List Act) (old new : Meaning) → Follows unit ring acts old new → RingLies unit ring old → RingLies unit ring new
lies_stays unit ring acts old new follows lies = record {
  exists = omega (arith, lies.exists, follows.units);
  within = omega (arith, lies.within, follows.size unit);
}

-- a failed call behind others has its cause in all of them
pub later_cause : (T : Type 0) (unit ring : ℕ) (acts : List Act) (old mid new : Meaning) (e : ShelfError) → Follows unit ring acts old mid → Cause {T = T} mid new unit (Err e) → DeviceCause old new (refusal_of e)
later_cause T unit ring acts old mid new (Fault disk) follows cause = Rose_before (old.disk_faults disk) (mid.disk_faults disk) (new.disk_faults disk) (follows.disk_faults disk) cause.0.disk_count
later_cause T unit ring acts old mid new Down follows cause = cause

pub later_device : (unit ring : ℕ) (acts : List Act) (old mid new : Meaning) (e : ShelfError) → Follows unit ring acts old mid → DeviceCause mid new (refusal_of e) → DeviceCause old new (refusal_of e)
later_device unit ring acts old mid new (Fault disk) follows cause = Rose_before (old.disk_faults disk) (mid.disk_faults disk) (new.disk_faults disk) (follows.disk_faults disk) cause
later_device unit ring acts old mid new Down follows cause = cause

-- what the loop keeps: the headers before number k are written
pub record Written (unit ring : ℕ) (ks : List Kept) (from k : ℕ) (old new : Meaning) : Type 0 where
  pub follows : Follows unit ring (fronts_to ring ks from k) old new
  pub arrives : Arrives unit ring (fronts_to ring ks from k) old new
  pub up : (IsTrue old.down → ⊥) → IsTrue new.down → ⊥

pub none_written : (unit ring : ℕ) (ks : List Kept) (from : ℕ) (m : Meaning) → Written unit ring ks from from m m
none_written unit ring ks from m = record {
  follows = subst (λ (acts : List Act). Follows unit ring acts m m) (sym (fronts_none ring ks from)) (nothing_follows unit ring m);
  arrives = subst (λ (acts : List Act). Arrives unit ring acts m m) (sym (fronts_none ring ks from)) (nothing_arrives unit ring m);
  up = λ up. up;
}

module _ (unit ring : ℕ) (ks : List Kept) (from k : ℕ) (x : Kept) (low : from ≤ k) (more : k < length ks) (is : x ≡ get_or ks k x) (old mid new : Meaning) (written : Written unit ring ks from k old mid) where
  one_follows : Follows unit ring (Write (block ring x.place) (Front x.head) ∷ []) mid new → Follows unit ring (fronts_to ring ks from (k + 1)) old new
  one_follows follows =
      subst (λ (acts : List Act). Follows unit ring acts old new) (sym (fronts_more ring ks from k x low more is))
      (then_follows unit ring (fronts_to ring ks from k) (Write (block ring x.place) (Front x.head) ∷ []) old mid new written.follows written.arrives follows)

  pub one_written : Follows unit ring (Write (block ring x.place) (Front x.head) ∷ []) mid new → Arrives unit ring (Write (block ring x.place) (Front x.head) ∷ []) mid new
      → (IsTrue new.down → ⊥) → Written unit ring ks from (k + 1) old new
  one_written follows arrives up = record {
    follows = one_follows follows;
    arrives = subst (λ (acts : List Act). Arrives unit ring acts old new) (sym (fronts_more ring ks from k x low more is))
        (then_arrives unit ring (fronts_to ring ks from k) (Write (block ring x.place) (Front x.head) ∷ []) old mid new written.arrives arrives);
    up = λ was. up;
  }

  -- one of them failed
  pub cut_follows : Follows unit ring (Write (block ring x.place) (Front x.head) ∷ []) mid new → Follows unit ring (fronts_written ring (drop from ks)) old new
  cut_follows follows =
      subst (λ (acts : List Act). Follows unit ring acts old new) (fronts_split ring ks from (k + 1))
      (sooner unit ring (fronts_to ring ks from (k + 1)) (fronts_written ring (drop (k + 1 - from) (drop from ks))) old new (one_follows follows))

pub all_follow : (unit ring : ℕ) (ks : List Kept) (from k : ℕ) (old new : Meaning) → length ks ≤ k → Written unit ring ks from k old new → Follows unit ring (fronts_written ring (drop from ks)) old new
all_follow unit ring ks from k old new all written = subst (λ (acts : List Act). Follows unit ring acts old new) (fronts_all ring ks from k all) written.follows

pub all_arrive : (unit ring : ℕ) (ks : List Kept) (from k : ℕ) (old new : Meaning) → length ks ≤ k → Written unit ring ks from k old new → Arrives unit ring (fronts_written ring (drop from ks)) old new
all_arrive unit ring ks from k old new all written = subst (λ (acts : List Act). Arrives unit ring acts old new) (fronts_all ring ks from k all) written.arrives

-- ---- a seal

module _ (unit ring : ℕ) (ks : List Kept) (old : Meaning) where
  abbrev Fronts : List Act
  Fronts = fronts_written ring ks

  pub flush_cut : (new : Meaning) → Follows unit ring (Flush ∷ []) old new → Follows unit ring (seal_written ring ks) old new
  flush_cut new follows = sooner unit ring (Flush ∷ []) (Fronts ++ Flush ∷ []) old new follows

  module _ (mid : Meaning) (follows : Follows unit ring (Flush ∷ []) old mid) (arrives : Arrives unit ring (Flush ∷ []) old mid) where
    pub fronts_follow : (new : Meaning) → Follows unit ring Fronts mid new → Follows unit ring (Flush ∷ Fronts) old new
    fronts_follow new two = then_follows unit ring (Flush ∷ []) Fronts old mid new follows arrives two

    pub fronts_cut : (new : Meaning) → Follows unit ring Fronts mid new → Follows unit ring (seal_written ring ks) old new
    fronts_cut new two = sooner unit ring (Flush ∷ Fronts) (Flush ∷ []) old new (fronts_follow new two)

    module _ (late : Meaning) (two : Follows unit ring Fronts mid late) (came : Arrives unit ring Fronts mid late) where
      two_arrive : Arrives unit ring (Flush ∷ Fronts) old late
      two_arrive = then_arrives unit ring (Flush ∷ []) Fronts old mid late arrives came

      pub seal_follows : (new : Meaning) → Follows unit ring (Flush ∷ []) late new → Follows unit ring (seal_written ring ks) old new
      seal_follows new last = then_follows unit ring (Flush ∷ Fronts) (Flush ∷ []) old late new (fronts_follow late two) two_arrive last

      pub seal_arrives : (new : Meaning) → Arrives unit ring (Flush ∷ []) late new → Arrives unit ring (seal_written ring ks) old new
      seal_arrives new last = then_arrives unit ring (Flush ∷ Fronts) (Flush ∷ []) old late new two_arrive last

-- ---- causes

pub ended_last : (T : Type 0) (unit ring : ℕ) (acts : List Act) (old late new : Meaning) (r : Result T ShelfError) → Follows unit ring acts old late → Cause late new unit r → CallsEnded old new r
ended_last T unit ring acts old late new (Ok x) follows cause = cause.after
ended_last T unit ring acts old late new (Err e) follows cause = later_cause T unit ring acts old late new e follows cause

pub ended_err : (T : Type 0) (unit ring : ℕ) (acts : List Act) (old mid new : Meaning) (r : Result T ShelfError) (e : ShelfError) → r ≡ Err e → Follows unit ring acts old mid → DeviceCause mid new (refusal_of e) → CallsEnded old new r
ended_err T unit ring acts old mid new r e is follows cause = subst (λ (x : Result T ShelfError). CallsEnded old new x) (sym is) (later_device unit ring acts old mid new e follows cause)

-- ---- how many calls they are

-- one header more
pub one_more : (from k k' : ℕ) → from ≤ k → k' ≡ k + 1 → (old mid new : Meaning) → MakesCalls (k - from) old mid → MakesCalls 1 mid new → MakesCalls (k' - from) old new
one_more from k k' le next old mid new before one =
    let sum : (k - from) + 1 ≡ k' - from = omega (arith, le, next) in
    subst (λ (n : ℕ). MakesCalls n old new) sum (then_calls (k - from) 1 old mid new before one)

-- the same of how many were left where the shelf fell: of one header more, and of one that is not the last
pub short_more : (from k k' : ℕ) → from ≤ k → k' ≡ k + 1 → (old mid new : Meaning) → MakesCalls (k - from) old mid → FallsShort (k - from) old mid → FallsShort 1 mid new → FallsShort (k' - from) old new
short_more from k k' le next old mid new before short one =
    let sum : (k - from) + 1 ≡ k' - from = omega (arith, le, next) in
    subst (λ (n : ℕ). FallsShort n old new) sum (then_short (k - from) 1 old mid new short before one)

pub short_cut : (from k len : ℕ) → from ≤ k → k < len → (old mid new : Meaning) → MakesCalls (k - from) old mid → FallsShort (k - from) old mid → FallsShort 1 mid new → FallsShort (len - from) old new
short_cut from k len le low old mid new before short one =
    sooner_short ((k - from) + 1) (len - from) (omega (arith, le, low)) old new (then_short (k - from) 1 old mid new short before one)
