-- Writes that are put over a content one after another, and the blocks of bytes.
use Rattle.std.proofs.Common.{◌≡◌, ◌∙◌, [], ℕ, ◌*◌, ◌++◌, ◌+◌, ◌-◌, ◌∷◌, List, ap, arith, drop, refl, take}
use Rattle.vx_model.specs.Content.{Content, Write, block_of, fold_writes, put}

pub fold_append : (c : Content) (xs ys : List Write) → fold_writes c (xs ++ ys) ≡ fold_writes (fold_writes c xs) ys
fold_append c [] ys = refl
fold_append c (x ∷ xs) ys = fold_append (put c x) xs ys

pub fold_size : (c : Content) (xs : List Write) → (fold_writes c xs).size ≡ c.size
fold_size c [] = refl
fold_size c (x ∷ xs) = fold_size (put c x) xs

pub folded_size : (c : Content) (xs : List Write) (v : ℕ) → (fold_writes c xs).size v ≡ c.size v
folded_size c [] v = refl
folded_size c (x ∷ xs) v = folded_size (put c x) xs v

-- the bytes between two places, one block apart
pub cut : (n : ℕ) (bytes part : List ℕ) → part ≡ take (512 * n + 512 - 512 * n) (drop (512 * n) bytes) → part ≡ block_of bytes n
cut n bytes part is = let wide : 512 * n + 512 - 512 * n ≡ 512 = omega arith in is ∙ ap (λ (m : ℕ). take m (drop (512 * n) bytes)) wide
