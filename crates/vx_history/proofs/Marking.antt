-- Maps that cover writes, and what they say of contents.
use Rattle.std.proofs.Common.{◌≡◌, ◌∙◌, ℕ, zero, suc, ◌≤◌, List, [], ◌∷◌, ◌++◌, length, take, drop, refl, ap, sym, subst, arith, Bool, true, false}
use Rattle.std.specs.Prelude.{◌/◌, ◌||◌}
use Rattle.std.specs.List.{AllByRecursion}
use Rattle.std.proofs.lemmas.List.{take-append-drop}
use Rattle.std.proofs.lemmas.Bool.Decides.{nat_tests}
use Rattle.vx_model.proofs.Contents.{fold_append}
use Rattle.vx_model.specs.Content.{Write, Content, put, fold_writes, touches, IsPrefixOf}
use Rattle.vx_history.specs.World.{Regions}
use Rattle.vx_history.specs.Regions.{CoversWrite, Fuzzy, IsWithin, IsMapped, marks_block, joined_maps, marks_of, marks_of_all}
use Rattle.vx_history.proofs.Each.{drop_whole, each_drop_append, each_drop_more, each_weaker}
use Rattle.vx_history.proofs.Fuzzies.{put_other, unmarked}

pub marks_cover : (x : Write) → CoversWrite (marks_of x) x
marks_cover x v b t = grind (arith, nat_tests, div_less)
  where
    div_less : (a b : ℕ) → a ≤ b → a / 64 ≤ b / 64
    div_less a b h = omega arith

pub in_left : (a b : Regions) → IsWithin a (joined_maps a b)
in_left a b v r h = grind arith

pub in_right : (a b : Regions) → IsWithin b (joined_maps a b)
in_right a b v r h = or_true (a v r) (b v r) h
  where
    or_true : (p q : Bool) → q ≡ true → (p || q) ≡ true
    or_true true q e = refl
    or_true false q e = e

pub joined_wider : (a b c d : Regions) → IsWithin a c → IsWithin b d → IsWithin (joined_maps a b) (joined_maps c d)
joined_wider a b c d f g v r h = both (a v r) (b v r) (c v r) (d v r) (f v r) (g v r) h
  where
    both : (p q s t : Bool) → (p ≡ true → s ≡ true) → (q ≡ true → t ≡ true) → (p || q) ≡ true → (s || t) ≡ true
    both true q true t f g h = refl
    both true q false t f g h = absurd (let e : false ≡ true = f refl in cc)
    both false q true t f g h = refl
    both false q false t f g h = g h

pub within_same : (a : Regions) → IsWithin a a
within_same a v r h = h

pub each_wider : (m w : Regions) (xs : List Write) → IsWithin m w → AllByRecursion (CoversWrite m) xs → AllByRecursion (CoversWrite w) xs
each_wider m w xs h c = each_weaker (CoversWrite m) (CoversWrite w) (λ x k v b t. h v (b / 64) (k v b t)) xs c

pub marks_all_cover : (xs : List Write) → AllByRecursion (CoversWrite (marks_of_all xs)) xs
marks_all_cover [] = tt
marks_all_cover (x ∷ xs) = (
  λ v b t. in_left (marks_of x) (marks_of_all xs) v (b / 64) (marks_cover x v b t),
  each_wider (marks_of_all xs) (marks_of_all (x ∷ xs)) xs (in_right (marks_of x) (marks_of_all xs)) (marks_all_cover xs),
)

-- further writes have further marks
pub marks_more : (xs ys : List Write) → IsWithin (marks_of_all xs) (marks_of_all (xs ++ ys))
marks_more [] ys v r h = absurd (cc)
marks_more (x ∷ xs) ys v r h = joined_wider (marks_of x) (marks_of_all xs) (marks_of x) (marks_of_all (xs ++ ys)) (within_same (marks_of x)) (marks_more xs ys) v r h

pub marks_drop_more : (n : ℕ) (xs ys : List Write) → IsWithin (marks_of_all (drop n xs)) (marks_of_all (drop n (xs ++ ys)))
marks_drop_more zero xs ys v r h = marks_more xs ys v r h
marks_drop_more (suc n) [] ys v r h = absurd (cc)
marks_drop_more (suc n) (x ∷ xs) ys v r h = marks_drop_more n xs ys v r h

-- the marks above n cover what follows n
pub late_cover : (map : Regions) (n m : ℕ) (xs : List Write) → n ≤ m → AllByRecursion (CoversWrite (joined_maps map (marks_of_all (drop n xs)))) (drop m xs)
late_cover map n m xs le =
    each_drop_more (CoversWrite (joined_maps map (marks_of_all (drop n xs)))) n m xs le
    (each_wider (marks_of_all (drop n xs)) (joined_maps map (marks_of_all (drop n xs))) (drop n xs) (in_right map (marks_of_all (drop n xs))) (marks_all_cover (drop n xs)))

-- further writes of the line are among the marks above n
pub late_cover_more : (map : Regions) (n : ℕ) (xs ys : List Write) → n ≤ length xs → AllByRecursion (CoversWrite (joined_maps map (marks_of_all (drop n (xs ++ ys))))) ys
late_cover_more map n xs ys le =
    subst (λ (zs : List Write). AllByRecursion (CoversWrite (joined_maps map (marks_of_all (drop n (xs ++ ys))))) zs) (drop_whole xs ys) (late_cover map n (length xs) (xs ++ ys) le)

-- a first part of the marks
pub late_prefix : (n : ℕ) (xs ys : List Write) → IsPrefixOf xs ys → IsWithin (marks_of_all (drop n xs)) (marks_of_all (drop n ys))
unfolding IsPrefixOf
late_prefix n xs ys (r, e) = subst (λ (zs : List Write). IsWithin (marks_of_all (drop n xs)) (marks_of_all (drop n zs))) e (marks_drop_more n xs r)

-- covered writes leave a block outside the map
pub covered_fold : (map : Regions) (v b : ℕ) → marks_block map v b ≡ false → (c : Content) (xs : List Write) → AllByRecursion (CoversWrite map) xs → (fold_writes c xs).block v b ≡ c.block v b
covered_fold map v b m c [] h = refl
covered_fold map v b m c (x ∷ xs) (k, h) = covered_fold map v b m (put c x) xs h ∙ put_other c x v b (unmarked (touches x v b) (marks_block map v b) (k v b) m)

-- above n nothing changes outside the map
pub covered_same : (map : Regions) (v b : ℕ) → marks_block map v b ≡ false → (s : Content) (xs : List Write) (n : ℕ) → AllByRecursion (CoversWrite map) (drop n xs) → (fold_writes s xs).block v b ≡ (fold_writes s (take n xs)).block v b
covered_same map v b m s xs n h =
    ap (λ (t : List Write). (fold_writes s t).block v b) (sym (take-append-drop n xs)) ∙ ap (λ (c : Content). c.block v b) (fold_append s (take n xs) (drop n xs)) ∙ covered_fold map v b m (fold_writes s (take n xs)) (drop n xs) h

pub covered_at : (map : Regions) (v b : ℕ) → marks_block map v b ≡ false → (s : Content) (xs : List Write) (n q : ℕ) → n ≤ q → AllByRecursion (CoversWrite map) (drop n xs) → (fold_writes s (take q xs)).block v b ≡ (fold_writes s xs).block v b
covered_at map v b m s xs n q le h = sym (covered_same map v b m s xs q (each_drop_more (CoversWrite map) n q xs le h))

pub marked_later : (xs : List Write) (n m : ℕ) (base start : Content) (map : Regions) → n ≤ m → IsMapped xs n base start map → IsMapped xs m base start map
marked_later xs n m base start map le h = record { near = h.near; covers = each_drop_more (CoversWrite map) n m xs le h.covers }

pub marked_wider : (xs : List Write) (n : ℕ) (base start : Content) (map wide : Regions) → IsWithin map wide → IsMapped xs n base start map → IsMapped xs n base start wide
marked_wider xs n base start map wide w h = record {
  near = λ v b m. h.near v b (unmarked (marks_block map v b) (marks_block wide v b) (w v (b / 64)) m);
  covers = each_wider map wide (drop n xs) w h.covers;
}

-- the line grows by covered writes
pub marked_grows : (xs ys : List Write) (n : ℕ) (base start : Content) (map : Regions) → AllByRecursion (CoversWrite map) ys → IsMapped xs n base start map → IsMapped (xs ++ ys) n base start map
marked_grows xs ys n base start map c h = record {
  near = λ v b m. h.near v b m ∙ sym (ap (λ (d : Content). d.block v b) (fold_append start xs ys) ∙ covered_fold map v b m (fold_writes start xs) ys c);
  covers = each_drop_append (CoversWrite map) n xs ys h.covers c;
}

-- covered writes are put into the base
pub marked_put : (xs ys : List Write) (n m : ℕ) (base start : Content) (map : Regions) → n ≤ m → AllByRecursion (CoversWrite map) ys → IsMapped xs n base start map → IsMapped xs m (fold_writes base ys) start map
marked_put xs ys n m base start map le c h = record {
  near = λ v b u. covered_fold map v b u base ys c ∙ h.near v b u;
  covers = each_drop_more (CoversWrite map) n m xs le h.covers;
}

-- what was right at some moment is right now outside a map that covers what came later
pub fuzzy_marked : (xs : List Write) (low high : ℕ) (base start : Content) (map wide : Regions) → IsWithin map wide → AllByRecursion (CoversWrite wide) (drop low xs) → Fuzzy base start xs low high map → IsMapped xs low base start wide
fuzzy_marked xs low high base start map wide w c h = record {
  near = λ v b m. let p = h v b (unmarked (marks_block map v b) (marks_block wide v b) (w v (b / 64)) m) in p.3 ∙ covered_at wide v b m start xs low p.0 p.1 c;
  covers = c;
}

-- of a part of the line that is known, and a map that covers the rest
pub content_marked : (xs : List Write) (n : ℕ) (base start : Content) (map : Regions) → base ≡ fold_writes start (take n xs) → AllByRecursion (CoversWrite map) (drop n xs) → IsMapped xs n base start map
content_marked xs n base start map e c = record {
  near = λ v b m. ap (λ (d : Content). d.block v b) e ∙ covered_at map v b m start xs n n (omega arith) c;
  covers = c;
}
