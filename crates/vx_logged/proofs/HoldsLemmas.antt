-- Plexes that take no part have noted a run, where each that is STALE has; and plexes that fell in a flush.
use Rattle.std.proofs.Common.{◌≡◌, ◌⊎◌, inl, inr, ◌+◌, ◌<◌, ◌≤◌, ℕ, Bool, true, false, IsTrue, List, refl, sym, ◌∙◌, ap, subst, arith}
use Rattle.std.specs.Prelude.{Some, None, ◌&&◌, not}
use Rattle.std.proofs.lemmas.Bool.{cases_eq}
use Rattle.vx_config.specs.Checks.{blocks_of, plexes_of}
use Rattle.vx_config.specs.declared.config.Config.{Config}
use Rattle.vx_disk.specs.Shelf.{Meaning}
use Rattle.vx_group.specs.Holding.{GroupStands, wide}
use Rattle.vx_group.specs.declared.group_core.GroupCore.{GroupCore}
use Rattle.vx_group.specs.declared.inner.Inner.{Inner}
use Rattle.vx_group.proofs.HoldLemmas.{narrow_sound, wide_none, wide_shape}
use Rattle.vx_grouplogs.specs.Marking.{MarksFewer, MarksOnly}
use Rattle.vx_grouplogs.proofs.FreshLemmas.{off_stale}
use Rattle.vx_grouplogs.proofs.LogShape.{same_count}
use Rattle.vx_groupmaps.specs.Missing.{HoldMissed}
use Rattle.vx_groupmaps.proofs.KnowLemmas.{note_same}
use Rattle.vx_kept.specs.Keeping.{AllOn, frame_at}
use Rattle.vx_logs.specs.declared.logs.Logs.{Logs}
use Rattle.vx_volume.specs.Plexes.{active}
use Rattle.vx_volume.proofs.PlaceLemmas.{count_few}
use Rattle.vx_logged.specs.Begun.{MapsOff, MapsOfRun, fell_in, fell_now, was_on}
use Rattle.vx_logged.specs.Holds.{HoldsRun, NoneFell, TheseHold}
use Rattle.vx_logged.specs.Logged.{Narrowed}
use Rattle.vx_logged.proofs.BeginLemmas.{first_flag}
use Rattle.vx_logged.proofs.FallenLemmas.{off_run}

pub holds_run : (c : Config) (v first last : ℕ) (l : Logs) → AllOn c → 0 < blocks_of c.volumes v → HoldMissed c v first last l → HoldsRun c v first last l
holds_run c v first last l all some it = record { each = λ f at p r low off lo hi. it.so f at p r (off_stale c v p all some low off) lo hi }

-- by another configuration with the same plexes
pub holds_same : (c d : Config) (v first last : ℕ) (l : Logs) → plexes_of d v ≡ plexes_of c v → ((p : ℕ) → active d v p ≡ active c v p) → HoldsRun c v first last l → HoldsRun d v first last l
holds_same c d v first last l many same it = record { each = λ f at p r low off lo hi. it.each f at p r (subst (λ (n : ℕ). p < n) many low) (sym (same p) ∙ off) lo hi }

-- where there are no maps
pub holds_none : (c : Config) (v first last : ℕ) (l : Logs) → l.fmr ≡ None → HoldsRun c v first last l
holds_none c v first last l none = record { each = λ f at p r low off lo hi. absurd (let clash : None ≡ Some f = sym none ∙ at in cc) }

-- ---- plexes of a list that fell

pub none_fell : (was : List Bool) (core : GroupCore) (v : ℕ) → NoneFell was core v 0
none_fell was core v = record { each = λ p lt. absurd (omega (arith, lt)) }

pub one_more : (was : List Bool) (core : GroupCore) (v n : ℕ) → fell_now was core v n ≡ false → NoneFell was core v n → NoneFell was core v (n + 1)
one_more was core v n off it = record {
  each = λ p lt. elim (cases_eq p n) [
    | inl same ↦ subst (λ (q : ℕ). fell_now was core v q ≡ false) (sym same) off
    | inr apart ↦ it.each p (omega (arith, lt, apart))
  ];
}

pub fell_few : (was : List Bool) (core : GroupCore) (v n k : ℕ) → k ≤ n → NoneFell was core v n → NoneFell was core v k
fell_few was core v n k le it = record { each = λ p lt. it.each p (omega (arith, lt, le)) }

-- one that fell is not ACTIVE
off_now : (was : List Bool) (core : GroupCore) (v p : ℕ) → fell_now was core v p ≡ true → active core.inner.config v p ≡ false
off_now was core v p fell = by (was_on was p) (active core.inner.config v p) fell
  where
    by : (a b : Bool) → (a && not b) ≡ true → b ≡ false
    by a false is = refl
    by true true is = absurd (let clash : false ≡ true = is in cc)
    by false true is = absurd (let clash : false ≡ true = is in cc)

-- ---- what such plexes have noted

-- a volume has as many blocks in memory behind calls that leave it as many
pub inner_blocks : (c d : GroupCore) (v : ℕ) → blocks_of (wide d).config.volumes v ≡ blocks_of (wide c).config.volumes v → blocks_of d.inner.config.volumes v ≡ blocks_of c.inner.config.volumes v
inner_blocks c d v same = sym ((wide_shape d).blocks v) ∙ same ∙ (wide_shape c).blocks v

-- and as many plexes, where its frame stays
pub inner_count : (c d : GroupCore) (v : ℕ) → frame_at d.inner.config v ≡ frame_at c.inner.config v → blocks_of (wide d).config.volumes v ≡ blocks_of (wide c).config.volumes v → plexes_of d.inner.config v ≡ plexes_of c.inner.config v
inner_count c d v frames same = same_count c.inner.config d.inner.config v frames (inner_blocks c d v same)

pub these_hold : (c d : GroupCore) (v first last : ℕ) (was : List Bool) (l : Logs) → plexes_of d.inner.config v ≡ plexes_of c.inner.config v → ((p : ℕ) → was_on was p ≡ true → p < plexes_of c.inner.config v) → HoldsRun d.inner.config v first last l → TheseHold (fell_now was d v) first last l
these_hold c d v first last was l many exists it = record {
  each = λ f is p r fell lo hi. it.each f is p r (let low = exists p (first_flag was d v p fell) in omega (arith, low, many)) (off_now was d v p fell) lo hi;
}

-- none fell
pub none_hold : (core : GroupCore) (v first last : ℕ) (was : List Bool) (l : Logs) (m : Meaning) → GroupStands core m → ((p : ℕ) → was_on was p ≡ true → p < plexes_of core.inner.config v) → NoneFell was core v 8 → TheseHold (fell_now was core v) first last l
none_hold core v first last was l m stands exists none = record {
  each = λ f is p r fell lo hi. absurd (
      let low = exists p (first_flag was core v p fell) in
      let few = count_few core.inner.config (narrow_sound core m stands) v in
      let clash : false ≡ true = sym (none.each p (omega (arith, low, few))) ∙ fell in
      cc
      );
}

pub less_hold : (fell these : ℕ → Bool) (first last : ℕ) (l : Logs) → ((p : ℕ) → fell p ≡ true → these p ≡ true) → TheseHold these first last l → TheseHold fell first last l
less_hold fell these first last l less it = record { each = λ f is p r on lo hi. it.each f is p r (less p on) lo hi }

pub either_way : {P Q : Type 0} (b : Bool) → (b ≡ true → P) → (b ≡ false → Q) → P ⊎ Q
either_way true one two = inl (one refl)
either_way false one two = inr (two refl)

-- where they had none, and none is noted, they have those of any run alone
pub off_any : (these : ℕ → Bool) (first last : ℕ) (l : Logs) → MapsOff these l → MapsOfRun these first last l
off_any these first last l off = off_run these these these first last l l (λ p on. on) off (note_same these first last l l refl)

-- plexes that fell before calls that leave each as it is
pub fell_still : (b c d : GroupCore) (v : ℕ) → ((w p : ℕ) → active d.inner.config w p ≡ active c.inner.config w p) → (p : ℕ) → fell_in b c v p ≡ true → fell_in b d v p ≡ true
fell_still b c d v still p fell = ap (λ (t : Bool). active b.inner.config v p && not t) (still v p) ∙ fell

-- ---- marks behind calls that add none

pub fewer_only : (n n' first last : ℕ) (l k j : Logs) → n' ≡ n → MarksFewer n l k → MarksOnly n' first last k j → MarksOnly n first last l j
fewer_only n n' first last l k j same one two = record {
  each = λ r lt is. elim (two.each r (omega (arith, lt, same)) is) [ inl was ↦ inl (one.each r lt was) | inr now ↦ inr now ];
}

pub only_fewer : (n first last : ℕ) (l k : Logs) → MarksFewer n l k → MarksOnly n first last l k
only_fewer n first last l k one = record { each = λ r lt is. inl (one.each r lt is) }

-- ---- plexes that take no part still do not

-- where none is held back
pub narrow_inner : (c d : GroupCore) → c.held ≡ None → d.held ≡ None → Narrowed c d → (w p : ℕ) → IsTrue (active d.inner.config w p) → IsTrue (active c.inner.config w p)
narrow_inner c d none gone narrow w p is = sym (ap (λ (i : Inner). active i.config w p) (wide_none c none)) ∙ narrow.on w p (ap (λ (i : Inner). active i.config w p) (wide_none d gone) ∙ is)
