-- A rack inside what is known of its contents, with an account of whether it tells.
use Rattle.std.proofs.Common.{◌≡◌, ◌∙◌, Bool, IsTrue, refl, sym, ap, subst}
use Rattle.vx_disk.specs.Shelf.{Meaning}
use Rattle.vx_disk.specs.declared.shelf.Shelf.{Ghosts}
use Rattle.vx_history.specs.Groups.{GroupNode}
use Rattle.vx_group.specs.declared.group_core.GroupCore.{GroupCore}
use Rattle.vx_untold.specs.Shades.{rack_of, shade_meaning}
use Rattle.vx_untold.specs.declared.shade.Shade.{Shade}
use Rattle.vx_untold.specs.declared.shade.Shade.TheVariants.{Bright, Dark}
use Rattle.vx_watched.specs.Traces.{TellsLess}
use Rattle.vx_watched.specs.declared.begun.Begun.{Ghosts as Begins}
use Rattle.vx_watched.specs.declared.traced.Traced.{Traced}
use Rattle.vx_grouped.specs.GroupSites.{IsLit}
use Rattle.vx_grouped.specs.Tracings.{shade_over}

module _ {R B : Type 0} {g : Ghosts R} {b : Begins B} where
  abbrev pub inside : Traced R B g b → R
  inside t = t.rack

  abbrev pub off : Shade (Traced R B g b) → Shade R
  off s = shade_over inside s

  -- it means the same
  pub off_same : (s : Shade (Traced R B g b)) → shade_meaning (λ t. g.meaning (inside t)) s ≡ shade_meaning g.meaning (off s)
  off_same (Bright t) = refl
  off_same (Dark t) = refl

  pub off_means : (s : Shade R) (s0 : Shade (Traced R B g b)) → s ≡ off s0 → shade_meaning (λ t. g.meaning (inside t)) s0 ≡ shade_meaning g.meaning s
  off_means s s0 same = off_same s0 ∙ ap (λ (x : Shade R). shade_meaning g.meaning x) (sym same)

  -- of one shelf
  pub carried_off : (P : Meaning → Type 0) (s : Shade R) (s0 : Shade (Traced R B g b)) → s ≡ off s0 → P (shade_meaning (λ t. g.meaning (inside t)) s0) → P (shade_meaning g.meaning s)
  carried_off P s s0 same it = subst (λ (x : Shade R). P (shade_meaning g.meaning x)) (sym same) (subst P (off_same s0) it)

  -- and the other way
  pub carried_on : (P : Meaning → Type 0) (s : Shade R) (s0 : Shade (Traced R B g b)) → s ≡ off s0 → P (shade_meaning g.meaning s) → P (shade_meaning (λ t. g.meaning (inside t)) s0)
  carried_on P s s0 same it = subst P (sym (off_same s0)) (subst (λ (x : Shade R). P (shade_meaning g.meaning x)) same it)

  -- of one group, the other way
  pub carried_one : (P : GroupCore → Meaning → Type 0) (c c0 : GroupCore) (s : Shade R) (s0 : Shade (Traced R B g b)) → c0 ≡ c → s ≡ off s0 → P c (shade_meaning g.meaning s) → P c0 (shade_meaning (λ t. g.meaning (inside t)) s0)
  carried_one P c c0 s s0 first shelf it = subst (λ (x : GroupCore). P x (shade_meaning (λ t. g.meaning (inside t)) s0)) (sym first) (carried_on (P c) s s0 shelf it)

  -- of two shelves
  pub carried_both : (P : Meaning → Meaning → Type 0) (s : Shade R) (s0 : Shade (Traced R B g b)) (t : Shade R) (t0 : Shade (Traced R B g b)) → s ≡ off s0 → t ≡ off t0
      → P (shade_meaning (λ t. g.meaning (inside t)) s0) (shade_meaning (λ t. g.meaning (inside t)) t0) → P (shade_meaning g.meaning s) (shade_meaning g.meaning t)
  carried_both P s s0 t t0 first last it = carried_off (λ m. P m (shade_meaning g.meaning t)) s s0 first (carried_off (P (shade_meaning (λ t. g.meaning (inside t)) s0)) t t0 last it)

  -- of two groups
  pub carried_in : (P : GroupCore → Meaning → GroupCore → Meaning → Type 0) (c c0 d d0 : GroupCore) (s : Shade R) (s0 : Shade (Traced R B g b)) (t : Shade R) (t0 : Shade (Traced R B g b)) → c0 ≡ c → s ≡ off s0 → d ≡ d0 → t ≡ off t0
      → P c0 (shade_meaning (λ t. g.meaning (inside t)) s0) d0 (shade_meaning (λ t. g.meaning (inside t)) t0) → P c (shade_meaning g.meaning s) d (shade_meaning g.meaning t)
  carried_in P c c0 d d0 s s0 t t0 first shelf last new it =
      subst (λ (x : GroupCore). P x (shade_meaning g.meaning s) d (shade_meaning g.meaning t)) first
      (subst (λ (x : GroupCore). P c0 (shade_meaning g.meaning s) x (shade_meaning g.meaning t)) (sym last) (carried_both (λ m n. P c0 m d0 n) s s0 t t0 shelf new it))

-- ---- what is known of the contents

-- it told no more at the start
pub tells_same : {R : Type 0} (meaning : R → Meaning) (s t : Shade R) → t ≡ s → TellsLess (meaning (rack_of s)) (meaning (rack_of t))
tells_same meaning s t same told = subst (λ (x : Shade _). IsTrue (meaning (rack_of x)).tells) same told

-- what was told of before is still, where contents are told as they were
pub lit_since : (note next : GroupNode) (told told' : Bool) (m m' : Meaning) → next.dark ≡ note.dark → m'.tells ≡ m.tells → (IsTrue told' → IsTrue told) → IsLit note told m → IsLit next told' m'
lit_since note next told told' m m' dark tells less lit = λ bright is. tells ∙ lit (sym dark ∙ bright) (less is)
