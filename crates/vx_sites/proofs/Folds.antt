-- What writes make of volumes of zeros.
use Rattle.std.proofs.Common.{◌≡◌, ◌∙◌, ℕ, ◌+◌, ◌<◌, List, [], ◌∷◌, length, get_or, take, sym, ap}
use Rattle.std.proofs.lemmas.List.{take_more}
use Rattle.vx_model.specs.Content.{Write, Content, put, fold_writes}
use Rattle.vx_history.proofs.GoodLemmas.{fold_append}

-- one more write
pub fold_more : (c : Content) (xs : List Write) (i : ℕ) (x : Write) → i < length xs → x ≡ get_or xs i x → fold_writes c (take (i + 1) xs) ≡ put (fold_writes c (take i xs)) x
fold_more c xs i x lt is =
    ap (λ (ys : List Write). fold_writes c ys) (take_more xs i x lt)
    ∙ fold_append c (take i xs) (get_or xs i x ∷ [])
    ∙ ap (λ (y : Write). put (fold_writes c (take i xs)) y) (sym is)
