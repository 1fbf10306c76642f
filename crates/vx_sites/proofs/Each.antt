-- All links of a site changed, and the blocks of a log counted.
use Rattle.std.proofs.Common.{◌≡◌, ℕ, ◌+◌, ◌<◌, List, [], ◌∷◌, ◌++◌, length, get_or, take, refl, sym, ap, ◌∙◌, arith, add_assoc}
use Rattle.std.proofs.Math.ListN.{set}
use Rattle.std.proofs.lemmas.List.{take_more}
use Rattle.vx_model.specs.Content.{Write, blocks_in}
use Rattle.vx_history.specs.World.{Link as PlainLink, no_link}
use Rattle.vx_history.specs.Events.{logged_blocks}
use Rattle.vx_sites.specs.declared.link.Link.{Link}
use Rattle.vx_sites.specs.Shapes.{link_of, row_of}
use Rattle.vx_sites.proofs.Tables.{changed_below, changed-more, changed-all, seen-changed}

pub each_step : (g : ℕ → PlainLink → PlainLink) (start links : List Link) (i : ℕ) (v x : Link) → i < length links → v ≡ get_or links i v → link_of x ≡ g i (link_of v)
    → row_of links ≡ changed_below g i (row_of start) → row_of (set links i x) ≡ changed_below g (i + 1) (row_of start)
each_step g start links i v x lt is made h =
    seen-changed link_of no_link links i v x (row_of links) (g i) lt is refl made ∙ changed-more g i (row_of start) (row_of links) h

pub each_done : (g : ℕ → PlainLink → PlainLink) (start links : List Link) (i : ℕ) → i ≡ length start → ((k : ℕ) → g k no_link ≡ no_link)
    → row_of links ≡ changed_below g i (row_of start) → row_of links ≡ (λ k. g k (row_of start k))
each_done g start links i all same h =
    h ∙ ap (λ (n : ℕ). changed_below g n (row_of start)) all ∙ changed-all g link_of no_link start same

-- ## The blocks of a log

log_blocks_append : (xs ys : List Write) → logged_blocks (xs ++ ys) ≡ logged_blocks xs + logged_blocks ys
log_blocks_append [] ys = omega arith
log_blocks_append (x ∷ xs) ys =
    ap (λ (n : ℕ). blocks_in x.bytes + 1 + n) (log_blocks_append xs ys) ∙ sym (add_assoc (blocks_in x.bytes + 1) (logged_blocks xs) (logged_blocks ys))

pub log_blocks_more : (xs : List Write) (i : ℕ) (x : Write) → i < length xs → x ≡ get_or xs i x → logged_blocks (take (i + 1) xs) ≡ logged_blocks (take i xs) + (blocks_in x.bytes + 1)
log_blocks_more xs i x lt is =
    let more : take (i + 1) xs ≡ take i xs ++ get_or xs i x ∷ [] = take_more xs i x lt in
    let last : logged_blocks (get_or xs i x ∷ []) ≡ blocks_in x.bytes + 1 = ap (λ (y : Write). logged_blocks (y ∷ [])) (sym is) ∙ omega arith in
    ap logged_blocks more ∙ log_blocks_append (take i xs) (get_or xs i x ∷ []) ∙ ap (λ (n : ℕ). logged_blocks (take i xs) + n) last
