-- What a call does, carried along equations between the parts of groups.
use Rattle.std.proofs.Common.{◌≡◌, sym, ap, subst}
use Rattle.vx_disk.specs.Shelf.{Meaning}
use Rattle.vx_disk.specs.declared.shelf.Shelf.{Ghosts}
use Rattle.vx_watched.specs.Since.{CalledSince}
use Rattle.vx_watched.proofs.SinceLemmas.{since_none}
use Rattle.vx_watched.specs.declared.begun.Begun.{Ghosts as Begins}
use Rattle.vx_watched.specs.declared.watched.Watched.{Watched}
use Rattle.vx_group.specs.declared.group_core.GroupCore.{GroupCore}

pub carried : {S : Type 0} (P : GroupCore → S → GroupCore → S → Type 0) (c c0 d d0 : GroupCore) (s s0 t t0 : S) → c0 ≡ c → s0 ≡ s → d ≡ d0 → t ≡ t0 → P c0 s0 d0 t0 → P c s d t
carried P c c0 d d0 s s0 t t0 first shelf last new it =
    subst (λ (x : GroupCore). P x s d t) first (subst (λ y. P c0 y d t) shelf (subst (λ (x : GroupCore). P c0 s0 x t) (sym last) (subst (λ y. P c0 s0 d0 y) (sym new) it)))

-- the shelf that a shelf with an account has
pub shelf_of : {S B : Type 0} {g : Ghosts S} {b : Begins B} (v w : Watched S B g b) → v ≡ w → v.shelf ≡ w.shelf
shelf_of {S} {B} {g} {b} v w same = ap (λ (x : Watched S B g b). x.shelf) same

-- the same of shelves alone
pub carried_two : {S : Type 0} (P : S → S → Type 0) (s s0 t t0 : S) → s0 ≡ s → t ≡ t0 → P s0 t0 → P s t
carried_two P s s0 t t0 shelf new it = subst (λ y. P y t) shelf (subst (λ y. P s0 y) (sym new) it)

-- no call was made yet
pub since_at : {S : Type 0} (meaning : S → Meaning) (s t : S) → t ≡ s → CalledSince (meaning s) (meaning t)
since_at meaning s t same = subst (λ y. CalledSince (meaning s) (meaning y)) (sym same) (since_none (meaning s))
