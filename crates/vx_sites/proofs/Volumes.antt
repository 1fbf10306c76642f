-- The volumes of sites in memory.
use Rattle.std.proofs.Common.{◌≡◌, ◌∙◌, ℕ, zero, suc, ◌+◌, ◌<◌, ◌≤◌, Bool, true, false, List, [], ◌∷◌, ◌++◌, length, map, take, replicate, get_or, slice_index_or, refl, ap, sym, arith}
use Rattle.std.specs.Prelude.{eqb, ltb, not, ◌&&◌, if◌then◌else◌, codes, None}
use Rattle.std.specs.Fmt.{decimal}
use Rattle.std.proofs.Math.Path.{fun_ext}
use Rattle.std.proofs.lemmas.Bool.Decides.{nat_tests}
use Rattle.vx_history.specs.World.{Volume}
use Rattle.vx_history.specs.Steps.{raw_volumes}
use Rattle.vx_history.specs.Refusals.{agree, sizes_meet}
use Rattle.vx_history.specs.Fits.{blocks_of_volume}
use Rattle.vx_history.specs.Volumes.{as_volume, data_block, data_content}
use Rattle.vx_history.specs.declared.volumes.DataVolume.{DataVolume}
use Rattle.vx_model.specs.Content.{Content, zero_block, zeros}
use Rattle.vx_sites.specs.Shapes.{called_volumes, sizes, named_volumes}

pub length_named : (k : ℕ) (bs : List ℕ) → length (named_volumes k bs) ≡ length bs
length_named k [] = refl
length_named k (b ∷ bs) = ap suc (length_named (k + 1) bs)

-- volumes of one size are those of a raw set
pub named_raw : (k n blocks : ℕ) → named_volumes k (replicate n blocks) ≡ raw_volumes k n blocks
named_raw k zero blocks = refl
named_raw k (suc n) blocks =
    ap (λ (vs : List Volume). let v : Volume = record { name = codes "d" ++ decimal k; blocks = blocks } in v ∷ vs) (named_raw (k + 1) n blocks)

pub sizes_raw : (n blocks : ℕ) → sizes (replicate n blocks) ≡ (λ v. if ltb v n then blocks else 0)
sizes_raw n blocks = fun_ext (λ v. choose n v (ltb v n) refl)
  where
    below : (n v : ℕ) → v < n → get_or (replicate n blocks) v 0 ≡ blocks
    below zero v h = absurd (omega (arith, h))
    below (suc n) zero h = refl
    below (suc n) (suc v) h = below n v (omega (arith, h))

    past : (n v : ℕ) → n ≤ v → get_or (replicate n blocks) v 0 ≡ 0
    past zero v h = refl
    past (suc n) zero h = absurd (omega (arith, h))
    past (suc n) (suc v) h = past n v (omega (arith, h))

    choose : (n v : ℕ) (b : Bool) → ltb v n ≡ b → get_or (replicate n blocks) v 0 ≡ (if b then blocks else 0)
    choose n v true e = below n v (grind (arith, nat_tests))
    choose n v false e = past n v (grind (arith, nat_tests))

-- ## Volumes that agree

pub tells_apart : (a b : ℕ) → (a ≡ b → ⊥) → eqb a b ≡ false
tells_apart a b h = grind (arith, nat_tests)

pub tells_same : (a b : ℕ) → a ≡ b → eqb a b ≡ true
tells_same a b h = grind (arith, nat_tests)

swap : (a b c : Bool) → (a && (b && c)) ≡ (b && (a && c))
swap true b c = refl
swap false true c = refl
swap false false c = refl

-- first parts with one volume more
pub agree_more : (k l : ℕ) (xs ys : List ℕ) (i : ℕ) → i < length xs → i < length ys
    → agree (named_volumes k (take (suc i) xs)) (named_volumes l (take (suc i) ys))
    ≡ (eqb (slice_index_or xs i 0) (slice_index_or ys i 0) && agree (named_volumes k (take i xs)) (named_volumes l (take i ys)))
agree_more k l [] ys i h e = absurd (omega (arith, h))
agree_more k l (x ∷ xs) [] i h e = absurd (omega (arith, e))
agree_more k l (x ∷ xs) (y ∷ ys) zero h e = refl
agree_more k l (x ∷ xs) (y ∷ ys) (suc i) h e =
    ap (λ (r : Bool). eqb x y && r) (agree_more (k + 1) (l + 1) xs ys i (omega (arith, h)) (omega (arith, e)))
    ∙ swap (eqb x y) (eqb (slice_index_or xs i 0) (slice_index_or ys i 0)) (agree (named_volumes (k + 1) (take i xs)) (named_volumes (l + 1) (take i ys)))

-- nor do volumes of which one is of another size
pub agree_differs : (k l : ℕ) (xs ys : List ℕ) (i : ℕ) → i < length xs → i < length ys → eqb (slice_index_or xs i 0) (slice_index_or ys i 0) ≡ false
    → agree (named_volumes k xs) (named_volumes l ys) ≡ false
agree_differs k l [] ys i h e other = absurd (omega (arith, h))
agree_differs k l (x ∷ xs) [] i h e other = absurd (omega (arith, e))
agree_differs k l (x ∷ xs) (y ∷ ys) zero h e other = ap (λ (b : Bool). b && agree (named_volumes (k + 1) xs) (named_volumes (l + 1) ys)) other
agree_differs k l (x ∷ xs) (y ∷ ys) (suc i) h e other =
    ap (λ (r : Bool). eqb x y && r) (agree_differs (k + 1) (l + 1) xs ys i (omega (arith, h)) (omega (arith, e)) other) ∙ neither (eqb x y)
  where
    neither : (b : Bool) → (b && false) ≡ false
    neither true = refl
    neither false = refl

-- volumes that are not as many do not agree
pub agree_apart : (k l : ℕ) (xs ys : List ℕ) → (length xs ≡ length ys → ⊥) → agree (named_volumes k xs) (named_volumes l ys) ≡ false
agree_apart k l [] [] apart = absurd (apart refl)
agree_apart k l [] (y ∷ ys) apart = refl
agree_apart k l (x ∷ xs) [] apart = refl
agree_apart k l (x ∷ xs) (y ∷ ys) apart = ap (λ (r : Bool). eqb x y && r) (agree_apart (k + 1) (l + 1) xs ys (λ e. apart (ap suc e))) ∙ neither (eqb x y)
  where
    neither : (b : Bool) → (b && false) ≡ false
    neither true = refl
    neither false = refl

pub take_whole : (xs : List ℕ) → take (length xs) xs ≡ xs
take_whole [] = refl
take_whole (x ∷ xs) = ap (λ (ys : List ℕ). x ∷ ys) (take_whole xs)

-- ## Volumes with names of their own

pub called_none : (k : ℕ) (bs : List ℕ) → called_volumes [] k bs ≡ named_volumes k bs
called_none k [] = refl
called_none k (b ∷ bs) = ap (λ (vs : List Volume). let v : Volume = record { name = codes "d" ++ decimal k; blocks = b } in v ∷ vs) (called_none (k + 1) bs)

pub length_called : (names : List (List ℕ)) (k : ℕ) (bs : List ℕ) → length (called_volumes names k bs) ≡ length bs
length_called names k [] = refl
length_called [] k (b ∷ bs) = ap suc (length_called [] (k + 1) bs)
length_called (n ∷ ns) k (b ∷ bs) = ap suc (length_called ns (k + 1) bs)

-- whether sizes agree is no matter of names
pub called_agree : (ns ms : List (List ℕ)) (k l : ℕ) (xs ys : List ℕ)
    → agree (called_volumes ns k xs) (called_volumes ms l ys) ≡ agree (named_volumes k xs) (named_volumes l ys)
called_agree ns ms k l [] [] = refl
called_agree ns [] k l [] (y ∷ ys) = refl
called_agree ns (m ∷ ms) k l [] (y ∷ ys) = refl
called_agree [] ms k l (x ∷ xs) [] = refl
called_agree (n ∷ ns) ms k l (x ∷ xs) [] = refl
called_agree [] [] k l (x ∷ xs) (y ∷ ys) = ap (λ (b : Bool). eqb x y && b) (called_agree [] [] (k + 1) (l + 1) xs ys)
called_agree [] (m ∷ ms) k l (x ∷ xs) (y ∷ ys) = ap (λ (b : Bool). eqb x y && b) (called_agree [] ms (k + 1) (l + 1) xs ys)
called_agree (n ∷ ns) [] k l (x ∷ xs) (y ∷ ys) = ap (λ (b : Bool). eqb x y && b) (called_agree ns [] (k + 1) (l + 1) xs ys)
called_agree (n ∷ ns) (m ∷ ms) k l (x ∷ xs) (y ∷ ys) = ap (λ (b : Bool). eqb x y && b) (called_agree ns ms (k + 1) (l + 1) xs ys)

-- names and blocks of data volumes
pub called_data : (k : ℕ) (xs : List DataVolume) → called_volumes (map (λ (x : DataVolume). x.name) xs) k (map (λ (x : DataVolume). x.blocks) xs) ≡ map as_volume xs
called_data k [] = refl
called_data k (x ∷ xs) = ap (λ (vs : List Volume). as_volume x ∷ vs) (called_data (k + 1) xs)

pub data_sizes_are : (xs : List DataVolume) (v : ℕ) → sizes (map (λ (x : DataVolume). x.blocks) xs) v ≡ blocks_of_volume (map as_volume xs) v
data_sizes_are [] zero = refl
data_sizes_are [] (suc v) = refl
data_sizes_are (x ∷ xs) zero = refl
data_sizes_are (x ∷ xs) (suc v) = data_sizes_are xs v

pub data_zeros : (xs : List DataVolume) (v b : ℕ) → data_block None xs v b ≡ zero_block
data_zeros [] v b = refl
data_zeros (x ∷ xs) zero b = refl
data_zeros (x ∷ xs) (suc v) b = data_zeros xs v b

-- where nothing is noted they hold zeros
pub data_of_none : (xs : List DataVolume) → zeros (sizes (map (λ (x : DataVolume). x.blocks) xs)) ≡ data_content None xs
data_of_none xs =
    ap zeros (fun_ext (λ v. data_sizes_are xs v))
    ∙ ap (λ (f : ℕ → ℕ → List ℕ). let c : Content = record { size = λ v. blocks_of_volume (map as_volume xs) v; block = f } in c)
    (fun_ext (λ v. fun_ext (λ b. sym (data_zeros xs v b))))

-- whether there are sizes, and others that agree with them
pub meets_called : (ns ms : List (List ℕ)) (xs ys : List ℕ) (some same : Bool) → some ≡ not (eqb (length xs) 0) → same ≡ agree (named_volumes 1 xs) (named_volumes 1 ys)
    → (some && same) ≡ sizes_meet (called_volumes ns 1 xs) (called_volumes ms 1 ys)
meets_called ns ms xs ys some same e f =
    ap (λ (b : Bool). b && same) (e ∙ ap (λ (n : ℕ). not (eqb n 0)) (sym (length_called ns 1 xs)))
    ∙ ap (λ (b : Bool). not (eqb (length (called_volumes ns 1 xs)) 0) && b) (f ∙ sym (called_agree ns ms 1 1 xs ys))
