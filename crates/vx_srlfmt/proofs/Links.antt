-- Links read one after the other.
use Rattle.std.proofs.Common.{◌≡◌, ◌≤◌, ℕ, suc, ◌+◌, ◌-◌, ◌<◌, List, [], ◌∷◌, ◌++◌, sym, ◌∙◌, arith, append_assoc, refl}
use Rattle.std.proofs.lemmas.List.{append-nil}
use Rattle.vx_model.specs.declared.state.KeptLink.{KeptLink}
use Rattle.vx_srlfmt.specs.HeaderReading.{link_at, links_at}

-- one link more of the count
pub links_at-more : (so_far all : List KeptLink) (i count at : ℕ) (block : List ℕ) → i < count → so_far ++ links_at (count - i) at block ≡ all
    → (so_far ++ link_at at block ∷ []) ++ links_at (count - (i + 1)) (at + 24) block ≡ all
unfolding links_at
links_at-more so_far all i count at block lt e =
    let left : count - i ≡ suc (count - (i + 1)) = omega arith in
    let step : so_far ++ links_at (count - i) at block ≡ so_far ++ (link_at at block ∷ links_at (count - (i + 1)) (at + 24) block) = rw left refl in
    append_assoc so_far (link_at at block ∷ []) (links_at (count - (i + 1)) (at + 24) block) ∙ sym step ∙ e

pub links_at-done : (so_far all : List KeptLink) (i count at : ℕ) (block : List ℕ) → count ≤ i → so_far ++ links_at (count - i) at block ≡ all → so_far ≡ all
unfolding links_at
links_at-done so_far all i count at block le e =
    let none : count - i ≡ 0 = omega arith in
    let end : so_far ++ links_at (count - i) at block ≡ so_far = rw none (append-nil so_far) in
    sym end ∙ e
