-- Calls of a group that write to no volume, as its site notes them.
use Rattle.std.proofs.Common.{◌≡◌, ◌⊎◌, inl, inr, ℕ, Bool, true, false, List, refl, sym, ap, IsTrue, subst}
use Rattle.std.specs.Prelude.{Result, Ok, Err, IfErr, OnOk, Option, Some, None, if◌then◌else◌}
use Rattle.vx_model.specs.declared.errors.Stop.{Stop}
use Rattle.vx_model.specs.declared.errors.Stop.TheVariants.{No as Refused, OutOfMemory}
use Rattle.vx_model.specs.declared.no.Counted.TheVariants.{Number as Numbers}
use Rattle.vx_model.specs.declared.no.Named.TheVariants.{Number}
use Rattle.vx_model.specs.declared.no.No.{No}
use Rattle.vx_model.specs.declared.no.No.TheVariants.{Device, Down, LastPlex, Limit, Unknown}
use Rattle.vx_disk.specs.Shelf.{Goes, Meaning, Nothing}
use Rattle.vx_history.specs.Groups.{GroupNode}
use Rattle.vx_history.specs.World.{Node}
use Rattle.vx_config.specs.declared.config.Config.{Config}
use Rattle.vx_volume.specs.Plexes.{active}
use Rattle.vx_group.specs.Attaches.{GroupAttachEnds, IsAttached}
use Rattle.vx_group.specs.Dets.{DetStops}
use Rattle.vx_group.specs.Finds.{CoreFinds}
use Rattle.vx_group.specs.Holding.{GroupStands, wide}
use Rattle.vx_group.specs.Stands.{inner_meaning}
use Rattle.vx_group.specs.declared.group_core.GroupCore.{GroupCore}
use Rattle.vx_grouped.specs.Ends.{CallLeaves}
use Rattle.vx_grouped.specs.GroupNotes.{GroupLies, IsGroupAt, IsGroupCut, note_called}
use Rattle.vx_grouped.proofs.ImageLemmas.{called_tight, nexts_of}
use Rattle.vx_grouped.proofs.NoteLemmas.{lies_called}
use Rattle.vx_grouped.proofs.PlainLemmas.{same_holds, still_holds}

-- tests of names and counts refuse nothing with 6
pub det_not_down : (t u w x : Bool) (v p most : ℕ) → (if t then Some (Unknown (Number v)) else (if u then Some (Unknown (Number p)) else (if w then Some LastPlex else (if x then Some (Limit Numbers most) else None)))) ≡ Some Down → ⊥
det_not_down true u w x v p most is = let clash : Some (Unknown (Number v)) ≡ Some Down = is in cc
det_not_down false true w x v p most is = let clash : Some (Unknown (Number p)) ≡ Some Down = is in cc
det_not_down false false true x v p most is = let clash : Some LastPlex ≡ Some Down = is in cc
det_not_down false false false true v p most is = let clash : Some (Limit Numbers most) ≡ Some Down = is in cc
det_not_down false false false false v p most is = let clash : None ≡ Some Down = is in cc

pub att_not_down : (t u x : Bool) (v p most : ℕ) → (if t then Some (Unknown (Number v)) else (if u then Some (Unknown (Number p)) else (if x then Some (Limit Numbers most) else None))) ≡ Some Down → ⊥
att_not_down true u x v p most is = let clash : Some (Unknown (Number v)) ≡ Some Down = is in cc
att_not_down false true x v p most is = let clash : Some (Unknown (Number p)) ≡ Some Down = is in cc
att_not_down false false true v p most is = let clash : Some (Limit Numbers most) ≡ Some Down = is in cc
att_not_down false false false v p most is = let clash : None ≡ Some Down = is in cc

module _ (n : Node) (note : GroupNode) (c d : GroupCore) (m m' : Meaning) (at : IsGroupAt n note c m) (two : GroupStands d m') (units : m'.units ≡ m.units) (size : (u : ℕ) → m'.size u ≡ m.size u)
    (goes : Goes Nothing (inner_meaning (wide c) m) (inner_meaning (wide d) m')) (finds : CoreFinds (wide c) (wide d) m m') where
  abbrev nexts : List (List ℕ)
  nexts = nexts_of c d m m' finds

  kept_called : GroupLies n (note_called nexts d note) d m'
  kept_called =
      let next : GroupNode = note_called nexts d note in
      lies_called n note c d m m' at.lies two units (λ u low. size u) finds next refl refl refl
      (same_holds note (inner_meaning (wide d) m') next.config next.begun next.loose (still_holds note (inner_meaning (wide c) m) (inner_meaning (wide d) m') at.lies.holds goes))

  -- the disks are down behind it
  pub call_cut : IsTrue m'.down → (nexts : List (List ℕ)) × IsGroupCut n (note_called nexts d note) d m'
  call_cut down = (nexts, record { down = down; lies = kept_called })

  -- they are not, and it stopped for a device alone
  pub call_up : {T : Type 0} (r : Result T Stop) → (IsTrue m'.down → ⊥) → OnOk r (c.inner.committed ≡ true → d.inner.committed ≡ true) → OnOk r (c.held ≡ None → d.held ≡ None) → DetStops m m' r → CallLeaves n note d m' r
  call_up (Ok done) up trust free stops = (nexts, record { state = at.state; up = up; lies = kept_called }, called_tight note c d m m' at.lies.images finds at.lies.committed trust free)
  call_up (Err (Refused (Device disk))) up trust free stops = (nexts, record { state = at.state; up = up; lies = kept_called })
  call_up (Err (Refused Down)) up trust free stops = absurd (up stops)
  call_up (Err (Refused other)) up trust free stops = absurd stops
  call_up (Err OutOfMemory) up trust free stops = absurd stops

  -- it was refused by a test, and nothing has changed
  pub call_none : (T : Type 0) (no : No) → IsGroupAt n note d m' → (no ≡ Down → ⊥) → CallLeaves {T = T} n note d m' (Err (Refused no))
  call_none T (Device disk) same never = (nexts, record { state = at.state; up = same.up; lies = kept_called })
  call_none T Down same never = absurd (never refl)
  call_none T other same never = same

  pub call_leaves : {T : Type 0} (r : Result T Stop) (o : Option No) → (IsTrue m'.down → ⊥) → OnOk r (c.inner.committed ≡ true → d.inner.committed ≡ true) → OnOk r (c.held ≡ None → d.held ≡ None) → (o ≡ None → DetStops m m' r)
      → ((no : No) → o ≡ Some no → (r ≡ Err (Refused no)) × IsGroupAt n note d m') → (o ≡ Some Down → ⊥) → CallLeaves n note d m' r
  call_leaves {T} r None up trust free stops refused never = call_up r up trust free (stops refl)
  call_leaves {T} r (Some why) up trust free stops refused never =
      subst (λ (x : Result T Stop). CallLeaves n note d m' x) (sym (refused why refl).0) (call_none T why (refused why refl).1 (λ is. never (ap (λ (y : No). Some y) is)))

-- ---- a call over a shelf that is looked at behind it

-- where nothing has changed
pub same_at : {S : Type 0} (meaning : S → Meaning) (n : Node) (note : GroupNode) (c d : GroupCore) (s t : S) → d ≡ c → t ≡ s → IsGroupAt n note c (meaning s) → IsGroupAt n note d (meaning t)
same_at meaning n note c d s t core shelf at = subst (λ (x : GroupCore). IsGroupAt n note x (meaning t)) (sym core) (subst (λ y. IsGroupAt n note c (meaning y)) (sym shelf) at)

-- nothing has changed, and the shelf was not down
pub never_fell : {S : Type 0} (meaning : S → Meaning) (s t : S) → t ≡ s → (IsTrue (meaning s).down → ⊥) → IsTrue (meaning t).down → ⊥
never_fell meaning s t same up down = up (subst (λ y. IsTrue (meaning y).down) same down)

-- imports agree behind either answer
pub agreed_either : {T : Type 0} (r : Result T Stop) (was kept agr : Bool) → OnOk r (was ≡ true → kept ≡ true) → (kept ≡ true → agr ≡ true) → IfErr r (λ stop. was ≡ true → agr ≡ true) → was ≡ true → agr ≡ true
agreed_either (Ok done) was kept agr trust both refused is = both (trust is)
agreed_either (Err stop) was kept agr trust both refused is = refused is

-- an attach that is done
pub attached_by : {T : Type 0} (r : Result T Stop) (v p : ℕ) (d : Config) (m : Meaning) → GroupAttachEnds v p d m r → OnOk r (IsAttached v p d m)
attached_by (Ok done) v p d m it = it
attached_by (Err stop) v p d m it = tt

-- and one that a disk refuses
pub undone_by : {T : Type 0} (r : Result T Stop) (v p : ℕ) (d : Config) (m : Meaning) (disk : ℕ) → GroupAttachEnds v p d m r → r ≡ Err (Refused (Device disk)) → active d v p ≡ false
undone_by {T} r v p d m disk ends is = subst (λ (x : Result T Stop). GroupAttachEnds v p d m x) is ends

-- nor a detach, where the disks are up
pub undone_det : {T : Type 0} (r : Result T Stop) (disk : ℕ) (fell same : Type 0) → IfErr r (λ stop. fell ⊎ same) → r ≡ Err (Refused (Device disk)) → (fell → ⊥) → same
undone_det {T} r disk fell same it is up = by (subst (λ (x : Result T Stop). IfErr x (λ stop. fell ⊎ same)) is it)
  where
    by : fell ⊎ same → same
    by (inl down) = absurd (up down)
    by (inr kept) = kept

-- disks that are down are no disk that failed
pub fell_else : {T : Type 0} (disk : ℕ) → (let r : Result T Stop = Err (Refused Down) in r) ≡ Err (Refused (Device disk)) → ⊥
fell_else disk is = cc

-- tests of names and counts blame no disk
pub det_not_device : (t u w x : Bool) (v p most disk : ℕ) → (if t then Some (Unknown (Number v)) else (if u then Some (Unknown (Number p)) else (if w then Some LastPlex else (if x then Some (Limit Numbers most) else None)))) ≡ Some (Device disk) → ⊥
det_not_device true u w x v p most disk is = let clash : Some (Unknown (Number v)) ≡ Some (Device disk) = is in cc
det_not_device false true w x v p most disk is = let clash : Some (Unknown (Number p)) ≡ Some (Device disk) = is in cc
det_not_device false false true x v p most disk is = let clash : Some LastPlex ≡ Some (Device disk) = is in cc
det_not_device false false false true v p most disk is = let clash : Some (Limit Numbers most) ≡ Some (Device disk) = is in cc
det_not_device false false false false v p most disk is = let clash : None ≡ Some (Device disk) = is in cc

pub att_not_device : (t u x : Bool) (v p most disk : ℕ) → (if t then Some (Unknown (Number v)) else (if u then Some (Unknown (Number p)) else (if x then Some (Limit Numbers most) else None))) ≡ Some (Device disk) → ⊥
att_not_device true u x v p most disk is = let clash : Some (Unknown (Number v)) ≡ Some (Device disk) = is in cc
att_not_device false true x v p most disk is = let clash : Some (Unknown (Number p)) ≡ Some (Device disk) = is in cc
att_not_device false false true v p most disk is = let clash : Some (Limit Numbers most) ≡ Some (Device disk) = is in cc
att_not_device false false false v p most disk is = let clash : None ≡ Some (Device disk) = is in cc

-- whatever is answered, no plex is held back where none was
pub free_either : {T : Type 0} (r : Result T Stop) (P : Type 0) → P → OnOk r P
free_either (Ok done) P it = it
free_either (Err stop) P it = tt
