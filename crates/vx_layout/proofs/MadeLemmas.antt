-- A volume in the space that was found keeps a configuration sound.
use Rattle.std.proofs.Common.{◌≡◌, ◌⊎◌, inl, inr, ℕ, zero, suc, ◌+◌, ◌-◌, ◌*◌, ◌<◌, ◌≤◌, Bool, true, false, Option, Some, None, List, [], ◌∷◌, ◌++◌, length, refl, ap, sym, ◌∙◌, subst, arith}
use Rattle.std.specs.Prelude.{◌&&◌, ◌||◌, ◌==◌, not, nat_le, slice_get, sum_by, is_some, if◌then◌else◌}
use Rattle.std.specs.Int.{div_ceil}
use Rattle.std.specs.List.{list_all, list_any}
use Rattle.std.proofs.lemmas.Bool.{cases_lt, eq-eqb, eqb-true, le-leb, lt-leb}
use Rattle.std.proofs.lemmas.List.{append-nil}
use Rattle.std.proofs.lemmas.List.Folds.{list_any-append}
use Rattle.std.proofs.lemmas.List.Sums.{sum_by-cons}
use Rattle.vx_config.specs.declared.entry.DiskEntry.{DiskEntry}
use Rattle.vx_config.specs.declared.entry.LogEntry.{LogEntry}
use Rattle.vx_config.specs.declared.entry.Subdisk.{Subdisk}
use Rattle.vx_config.specs.Checks.{fill, log_has, log_run, log_runs, map_blocks, next_room}
use Rattle.vx_config.proofs.FillLemmas.{not-zero}
use Rattle.vx_layout.specs.Places.{subdisk_blocks}
use Rattle.vx_layout.specs.Free.{IsLowestRun, holds, is_free}
use Rattle.vx_layout.specs.Space.{AreColumns, AreLogs, ArePlexes, IsPlex, IsShape, OnOne, OnSeveral, column_of, drl_blocks, flat, fmr_blocks}
use Rattle.vx_layout.specs.declared.shape.Shape.{Shape}
use Rattle.vx_layout.proofs.FreshLemmas.{AreFresh, IsFresh, apart_used, fresh_join, one_fresh, region_from, several_fresh}

pub both : {x y : Bool} → x ≡ true → y ≡ true → x && y ≡ true
both one two = rw one two

pub no_item : {A : Type 0} (k : ℕ) (x : A) → slice_get [] k ≡ Some x → ⊥
no_item k x at = cc

none_fresh : (used : List Subdisk) (disks : List DiskEntry) (found ss : List Subdisk) → ss ≡ [] → AreFresh used disks found ss
none_fresh used disks found ss is = subst (λ (xs : List Subdisk). AreFresh used disks found xs) (sym is) (record { fresh = λ k s at. absurd (no_item k s at); away = λ k j s t at. absurd (no_item k s at); pairs = refl })

-- ---- what was found fills the plexes

-- runs that have so many blocks fill a column
fill_part : (column m room : ℕ) (ss rest : List Subdisk) → ((k : ℕ) (s : Subdisk) → slice_get ss k ≡ Some s → 0 < s.blocks) → sum_by subdisk_blocks ss ≡ room → 0 < room → fill column (suc m) room (ss ++ rest) ≡ fill column m (next_room column (suc m)) rest
fill_part column m room [] rest each sum some = absurd (omega (arith, sum, some))
fill_part column m room (s ∷ ss) rest each sum some =
    ap (λ (b : Bool). b && (if s.blocks == room then fill column (suc m - 1) (next_room column (suc m)) (ss ++ rest) else fill column (suc m) (room - s.blocks) (ss ++ rest))) (le-leb s.blocks room (omega (arith, cons, sum)))
    ∙ by (s.blocks == room) refl ss each cons (λ left pos. fill_part column m (room - s.blocks) ss rest (λ k t at. each (suc k) t at) left pos)
  where
    cons : sum_by subdisk_blocks (s ∷ ss) ≡ s.blocks + sum_by subdisk_blocks ss
    cons = sum_by-cons subdisk_blocks s ss

    by : (b : Bool) → (s.blocks == room) ≡ b → (xs : List Subdisk) → ((k : ℕ) (t : Subdisk) → slice_get (s ∷ xs) k ≡ Some t → 0 < t.blocks) → sum_by subdisk_blocks (s ∷ ss) ≡ s.blocks + sum_by subdisk_blocks xs
        → (sum_by subdisk_blocks xs ≡ room - s.blocks → 0 < room - s.blocks → fill column (suc m) (room - s.blocks) (xs ++ rest) ≡ fill column m (next_room column (suc m)) rest)
        → (if b then fill column (suc m - 1) (next_room column (suc m)) (xs ++ rest) else fill column (suc m) (room - s.blocks) (xs ++ rest)) ≡ fill column m (next_room column (suc m)) rest
    by true is [] each cons more = ap (λ (n : ℕ). fill column n (next_room column (suc m)) rest) (let e : suc m - 1 ≡ m = omega arith in e)
    by true is (t ∷ xs) each cons more =
        let same : s.blocks ≡ room = eqb-true s.blocks room is in
        let next : sum_by subdisk_blocks (t ∷ xs) ≡ t.blocks + sum_by subdisk_blocks xs = sum_by-cons subdisk_blocks t xs in
        let pos : 0 < t.blocks = each 1 t refl in
        absurd (omega (arith, same, sum, cons, next, pos))
    by false is xs each cons more =
        let first : 0 < s.blocks = each 0 s refl in
        more (omega (arith, sum, cons)) (let other : s.blocks ≡ room → ⊥ = λ same. let clash : true ≡ false = sym (eq-eqb s.blocks room same) ∙ is in cc in omega (arith, other, sum, cons))

columns_fresh : (used : List Subdisk) (disks : List DiskEntry) (found : List Subdisk) (n blocks : ℕ) (ss : List Subdisk) → 0 < blocks → AreColumns used disks found n blocks ss → AreFresh used disks found ss × ((m : ℕ) → n ≡ suc m → fill blocks (suc m) blocks ss ≡ true)
columns_fresh used disks found zero blocks ss some is = (none_fresh used disks found ss is, λ m none. absurd (omega (arith, none)))
columns_fresh used disks found (suc k) blocks ss some is = by is.0 is.1 is.2 (one_fresh used disks found blocks is.0 is.3) (columns_fresh used disks (found ++ is.0) k blocks is.1 some is.4) (λ none. last k none is.1 is.4)
  where
    last : (k : ℕ) → k ≡ 0 → (back : List Subdisk) → AreColumns used disks (found ++ is.0) k blocks back → back ≡ []
    last zero none back are = are
    last (suc k) none back are = absurd (omega (arith, none))

    by : (front back : List Subdisk) → ss ≡ front ++ back → AreFresh used disks found front × (sum_by subdisk_blocks front ≡ blocks) → AreFresh used disks (found ++ front) back × ((m : ℕ) → k ≡ suc m → fill blocks (suc m) blocks back ≡ true) → (k ≡ 0 → back ≡ [])
        → AreFresh used disks found ss × ((m : ℕ) → suc k ≡ suc m → fill blocks (suc m) blocks ss ≡ true)
    by front back same one rest none = (
      subst (λ (xs : List Subdisk). AreFresh used disks found xs) (sym same) (fresh_join used disks found front back one.0 rest.0),
      λ m is_m.
          let m_is : m ≡ k = omega (arith, is_m) in
          ap (fill blocks (suc m) blocks) same ∙ fill_part blocks m blocks front back (λ i s at. (one.0.fresh i s at).some) one.1 some ∙ ap (λ (j : ℕ). fill blocks j (next_room blocks (suc j)) back) m_is ∙ end k none rest.1,
    )
      where
        end : (j : ℕ) → (j ≡ 0 → back ≡ []) → ((m : ℕ) → j ≡ suc m → fill blocks (suc m) blocks back ≡ true) → fill blocks j (next_room blocks (suc j)) back ≡ true
        end zero none more = ap (fill blocks 0 (next_room blocks 1)) (none refl)
        end (suc j) none more =
            let many : nat_le (suc (suc j)) 1 ≡ false = lt-leb (suc (suc j)) 1 (omega arith) in
            ap (λ (t : Bool). fill blocks (suc j) (if t then 0 else blocks) back) many ∙ more j refl

-- one column of all blocks
whole_fill : (blocks : ℕ) (ss : List Subdisk) → 0 < blocks → ((k : ℕ) (s : Subdisk) → slice_get ss k ≡ Some s → 0 < s.blocks) → sum_by subdisk_blocks ss ≡ blocks → fill blocks 1 blocks ss ≡ true
whole_fill blocks ss some each sum = ap (fill blocks 1 blocks) (sym (append-nil ss)) ∙ fill_part blocks 0 blocks ss [] each sum some

abbrev pub columns_of : Shape → ℕ
columns_of want = if want.width == 0 then want.blocks else column_of want

column_some : (want : Shape) → IsShape want → 0 < want.width → 0 < column_of want
column_some want is some = grind (arith, least, some)
  where
    wide : 0 < want.ncol * want.width
    wide = mul_pos want.ncol want.width is.columns some
      where
        mul_pos : (a b : ℕ) → 0 < a → 0 < b → 0 < a * b
        mul_pos a b x y = grind arith

    least : 0 < div_ceil want.blocks (want.ncol * want.width)
    least = ceil_pos want.blocks (want.ncol * want.width) is.some wide
      where
        ceil_pos : (a b : ℕ) → 0 < a → 0 < b → 0 < div_ceil a b
        ceil_pos a b x y = grind arith

plex_fresh : (want : Shape) (used : List Subdisk) (disks : List DiskEntry) (found ss : List Subdisk) → IsShape want → IsPlex want used disks found ss → AreFresh used disks found ss × (fill (columns_of want) want.ncol (columns_of want) ss ≡ true)
plex_fresh want used disks found ss shape is = by (cases_lt 0 want.width)
  where
    whole : want.width ≡ 0 → AreFresh used disks found ss × (sum_by subdisk_blocks ss ≡ want.blocks) → AreFresh used disks found ss × (fill (columns_of want) want.ncol (columns_of want) ss ≡ true)
    whole none it =
        let test : (want.width == 0) ≡ true = eq-eqb want.width 0 none in (
          it.0,
          ap (λ (t : Bool). fill (if t then want.blocks else column_of want) want.ncol (if t then want.blocks else column_of want) ss) test ∙ ap (λ (n : ℕ). fill want.blocks n want.blocks ss) (shape.one none)
              ∙ whole_fill want.blocks ss shape.some (λ k s at. (it.0.fresh k s at).some) it.1,
        )

    split : want.width ≡ 0 → OnOne used disks found want.blocks ss ⊎ OnSeveral used disks found want.blocks ss → AreFresh used disks found ss × (fill (columns_of want) want.ncol (columns_of want) ss ≡ true)
    split none (inl one) = whole none (one_fresh used disks found want.blocks ss one)
    split none (inr several) = whole none (several_fresh used disks found want.blocks ss several)

    by : (0 < want.width) ⊎ (want.width ≤ 0) → AreFresh used disks found ss × (fill (columns_of want) want.ncol (columns_of want) ss ≡ true)
    by (inl some) =
        let it = columns_fresh used disks found want.ncol (column_of want) ss (column_some want shape some) (is.striped some) in
        let test : (want.width == 0) ≡ false = not-zero want.width (λ none. omega (arith, some, none)) in
        let more : want.ncol ≡ suc (want.ncol - 1) = omega (arith, shape.columns) in
        (it.0, ap (λ (t : Bool). fill (if t then want.blocks else column_of want) want.ncol (if t then want.blocks else column_of want) ss) test ∙ ap (λ (n : ℕ). fill (column_of want) n (column_of want) ss) more ∙ it.1 (want.ncol - 1) more)
    by (inr no_more) = let none : want.width ≡ 0 = omega (arith, no_more) in split none (is.concatenated none)

pub plexes_fresh : (want : Shape) (used : List Subdisk) (disks : List DiskEntry) (found : List Subdisk) (ps : List (List Subdisk)) → IsShape want → ArePlexes want used disks found ps → AreFresh used disks found (flat ps) × (list_all (λ ss. fill (columns_of want) want.ncol (columns_of want) ss) ps ≡ true)
plexes_fresh want used disks found [] shape are = (none_fresh used disks found [] refl, refl)
plexes_fresh want used disks found (p ∷ ps) shape are =
    let one = plex_fresh want used disks found p shape are.0 in
    let rest = plexes_fresh want used disks (found ++ p) ps shape are.1 in
    (fresh_join used disks found p (flat ps) one.0 rest.0, both one.1 rest.1)

-- ---- logs

free_less : (used more : List Subdisk) (disk b : ℕ) → is_free (used ++ more) disk b ≡ true → is_free used disk b ≡ true
unfolding is_free
free_less used more disk b is = by (list_any (holds disk b) used) (list_any (holds disk b) more) (ap not (sym (list_any-append (holds disk b) used more)) ∙ is)
  where
    by : (x y : Bool) → not (x || y) ≡ true → not x ≡ true
    by true y is = is
    by false y is = refl

run_fresh : (used : List Subdisk) (disks : List DiskEntry) (count : ℕ) (s : Subdisk) → 0 < count → IsLowestRun used disks count s → IsFresh used disks s
run_fresh used disks count s some is =
    let size = is.blocks in
    record {
      some = omega (arith, some, size);
      region = region_from disks s (omega (arith, some, size)) is.run.public (omega (arith, is.run.end, size));
      free = λ b low high. is.run.free b low (omega (arith, high, size));
    }

pub less_fresh : (used more : List Subdisk) (disks : List DiskEntry) (s : Subdisk) → IsFresh (used ++ more) disks s → IsFresh used disks s
less_fresh used more disks s is = record { some = is.some; region = is.region; free = λ b low high. free_less used more s.disk b (is.free b low high) }

one_log : (used : List Subdisk) (disks : List DiskEntry) (s : Subdisk) (logs : List Subdisk) → logs ≡ s ∷ [] → IsFresh used disks s → AreFresh used disks [] logs
one_log used disks s logs same is = subst (λ (xs : List Subdisk). AreFresh used disks [] xs) (sym same) (record { fresh = λ k t at. by k t at; away = λ k j t u at_t at_u. absurd (no_item j u at_u); pairs = refl })
  where
    by : (k : ℕ) (t : Subdisk) → slice_get (s ∷ []) k ≡ Some t → IsFresh used disks t
    by zero t at = let one : s ≡ t = cc in subst (λ (x : Subdisk). IsFresh used disks x) one is
    by (suc k) t at = absurd (no_item k t at)

two_logs : (used : List Subdisk) (disks : List DiskEntry) (s t : Subdisk) (logs : List Subdisk) → logs ≡ s ∷ (t ∷ []) → IsFresh used disks s → IsFresh (used ++ (s ∷ [])) disks t → AreFresh used disks [] logs
two_logs used disks s t logs same one two = subst (λ (xs : List Subdisk). AreFresh used disks [] xs) (sym same) (record {
  fresh = λ k u at. by k u at;
  away = λ k j u w at_u at_w. absurd (no_item j w at_w);
  pairs = both (both (apart_used (used ++ (s ∷ [])) disks t s (length used) two (at_end used)) refl) refl;
})
  where
    at_end : (xs : List Subdisk) → slice_get (xs ++ (s ∷ [])) (length xs) ≡ Some s
    at_end [] = refl
    at_end (x ∷ xs) = at_end xs

    by : (k : ℕ) (u : Subdisk) → slice_get (s ∷ (t ∷ [])) k ≡ Some u → IsFresh used disks u
    by zero u at = let e : s ≡ u = cc in subst (λ (x : Subdisk). IsFresh used disks x) e one
    by (suc zero) u at = let e : t ≡ u = cc in subst (λ (x : Subdisk). IsFresh used disks x) e (less_fresh used (s ∷ []) disks t two)
    by (suc (suc k)) u at = absurd (no_item k u at)

maps_some : (want : Shape) → IsShape want → 0 < drl_blocks want
maps_some want is = ceil_pos (div_ceil want.blocks 64) 4096 (ceil_pos want.blocks 64 is.some (omega arith)) (omega arith)
  where
    ceil_pos : (a b : ℕ) → 0 < a → 0 < b → 0 < div_ceil a b
    ceil_pos a b x y = grind arith

fmr_some : (want : Shape) → IsShape want → 0 < fmr_blocks want
fmr_some want is = mul_pos want.mirrors (map_blocks want.blocks) is.mirrors (maps_some want is)
  where
    mul_pos : (a b : ℕ) → 0 < a → 0 < b → 0 < a * b
    mul_pos a b x y = grind arith

head_of : (s t : Subdisk) (xs ys : List Subdisk) → s ∷ xs ≡ t ∷ ys → s ≡ t
head_of s t xs ys e = cc

tail_of : (s t : Subdisk) (xs ys : List Subdisk) → s ∷ xs ≡ t ∷ ys → xs ≡ ys
tail_of s t xs ys e = cc

-- the logs of a volume are those that were found
pub logs_good : (want : Shape) (used : List Subdisk) (disks : List DiskEntry) (d f : Bool) (drl fmr : Option LogEntry) (logs : List Subdisk) → IsShape want → is_some drl ≡ d → is_some fmr ≡ f → log_runs drl ++ log_runs fmr ≡ logs → AreLogs want used disks d f logs
    → AreFresh used disks [] logs × (log_has (drl_blocks want) drl ≡ true) × (log_has (fmr_blocks want) fmr ≡ true)
logs_good want used disks false false None None logs shape d f same are = (none_fresh used disks [] logs are, refl, refl)
logs_good want used disks true false (Some l) None logs shape d f same are =
    let head : log_run l ≡ are.0 = head_of (log_run l) are.0 [] [] (same ∙ are.1) in
    (one_log used disks are.0 logs are.1 (run_fresh used disks (drl_blocks want) are.0 (maps_some want shape) are.2), eq-eqb l.blocks (drl_blocks want) (ap (λ (s : Subdisk). s.blocks) head ∙ are.2.blocks), refl)
logs_good want used disks false true None (Some l) logs shape d f same are =
    let head : log_run l ≡ are.0 = head_of (log_run l) are.0 [] [] (same ∙ are.1) in
    (one_log used disks are.0 logs are.1 (run_fresh used disks (fmr_blocks want) are.0 (fmr_some want shape) are.2), refl, eq-eqb l.blocks (fmr_blocks want) (ap (λ (s : Subdisk). s.blocks) head ∙ are.2.blocks))
logs_good want used disks true true (Some l) (Some k) logs shape d f same are =
    let head : log_run l ≡ are.0 = head_of (log_run l) are.0 (log_run k ∷ []) (are.1 ∷ []) (same ∙ are.2) in
    let rest : log_run k ∷ [] ≡ are.1 ∷ [] = tail_of (log_run l) are.0 (log_run k ∷ []) (are.1 ∷ []) (same ∙ are.2) in
    let next : log_run k ≡ are.1 = head_of (log_run k) are.1 [] [] rest in (
      two_logs used disks are.0 are.1 logs are.2 (run_fresh used disks (drl_blocks want) are.0 (maps_some want shape) are.3) (run_fresh (used ++ (are.0 ∷ [])) disks (fmr_blocks want) are.1 (fmr_some want shape) are.4),
      eq-eqb l.blocks (drl_blocks want) (ap (λ (s : Subdisk). s.blocks) head ∙ are.3.blocks),
      eq-eqb k.blocks (fmr_blocks want) (ap (λ (s : Subdisk). s.blocks) next ∙ are.4.blocks),
    )
logs_good want used disks true f None fmr logs shape d f' same are = absurd (let clash : false ≡ true = d in cc)
logs_good want used disks false f (Some l) fmr logs shape d f' same are = absurd (let clash : true ≡ false = d in cc)
logs_good want used disks false true drl None logs shape d f same are = absurd (let clash : false ≡ true = f in cc)
logs_good want used disks true true drl None logs shape d f same are = absurd (let clash : false ≡ true = f in cc)
logs_good want used disks false false drl (Some l) logs shape d f same are = absurd (let clash : true ≡ false = f in cc)
logs_good want used disks true false drl (Some l) logs shape d f same are = absurd (let clash : true ≡ false = f in cc)
