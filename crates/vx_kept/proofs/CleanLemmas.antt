-- What a configuration with plexes CLEAN in place of ACTIVE has as before, and that the change can be taken back.
use Rattle.std.proofs.Common.{◌≡◌, inl, inr, ℕ, zero, suc, ◌+◌, ◌-◌, ◌<◌, Bool, true, false, IsTrue, Option, Some, None, List, length, refl, ap, sym, ◌∙◌, subst, arith}
use Rattle.std.specs.Prelude.{if◌then◌else◌, slice_get}
use Rattle.std.proofs.lemmas.Bool.{both_ways, cases_eq, cases_lt, false_from_ne_true}
use Rattle.vx_model.specs.declared.site.PlexState.{PlexState}
use Rattle.vx_model.specs.declared.site.PlexState.TheVariants.{Active, Clean, Stale}
use Rattle.vx_config.specs.Changes.{stated, with_state, has_live}
use Rattle.vx_config.specs.declared.config.Config.{Config}
use Rattle.vx_config.specs.declared.entry.PlexEntry.{PlexEntry}
use Rattle.vx_config.specs.declared.entry.VolumeEntry.{VolumeEntry}
use Rattle.vx_config.proofs.Fewer.{stated_back}
use Rattle.vx_layout.specs.Places.{plex_at, plex_in}
use Rattle.vx_volume.specs.Plexes.{active, active_or, is_active}
use Rattle.vx_kept.specs.Choice.{live, live_or}
use Rattle.vx_kept.specs.Cleans.{NoneClean, clean, clean_at, clean_or, clean_plexes, cleaned, is_clean, is_unsure}
use Rattle.vx_kept.specs.Keeping.{AllOn}
use Rattle.vx_kept.specs.Opens.{SameLives as Alike}
use Rattle.vx_kept.specs.States.{whole_of, whole_or}
use Rattle.vx_kept.proofs.Narrower.{live_has, on_live}
use Rattle.vx_kept.proofs.StateLemmas.{map_one, plex_apart, plex_same, same_shape, stated_logs, stated_shape, then_shape, there_of}

pub alike_refl : (c : Config) → Alike c c
alike_refl c = record { shape = same_shape c; serial = refl; site = refl; disks = refl; rvg = refl; lives = λ x q. refl; logs = λ x log. refl }

pub alike_then : (c d e : Config) → Alike c d → Alike d e → Alike c e
alike_then c d e one two = record {
  shape = then_shape e d c two.shape one.shape;
  serial = two.serial ∙ one.serial;
  site = two.site ∙ one.site;
  disks = two.disks ∙ one.disks;
  rvg = two.rvg ∙ one.rvg;
  lives = λ x q. two.lives x q ∙ one.lives x q;
  logs = λ x log. two.logs x log ∙ one.logs x log;
}

-- ---- one plex

clean_live : (w : Bool) (o : Option PlexEntry) → active_or o ≡ true → live_or (map_one (with_state Clean w) o) ≡ true
clean_live w None is = absurd (let clash : false ≡ true = is in cc)
clean_live w (Some p) is = refl

clean_off : (w : Bool) (o : Option PlexEntry) → active_or (map_one (with_state Clean w) o) ≡ false
clean_off w None = refl
clean_off w (Some p) = refl

clean_is : (w : Bool) (o : Option PlexEntry) → active_or o ≡ true → clean_or (map_one (with_state Clean w) o) ≡ true
clean_is w None is = absurd (let clash : false ≡ true = is in cc)
clean_is w (Some p) is = refl

-- what one plex that is made CLEAN leaves as it was
pub record OneClean (v p : ℕ) (c d : Config) : Type 0 where
  pub alike : Alike c d
  pub same : (x q : ℕ) → (x ≡ v → q ≡ p → ⊥) → plex_at d x q ≡ plex_at c x q
  pub off : active d v p ≡ false

stated_clean : (v p : ℕ) (w : Bool) (c : Config) → IsTrue (active c v p) → OneClean v p c (stated v p Clean w c)
unfolding active live
stated_clean v p w c is_on = record {
  alike = record {
    shape = stated_shape v p Clean w c;
    serial = refl;
    site = refl;
    disks = refl;
    rvg = refl;
    lives = λ x q. elim (cases_eq x v) [
      | inl in_v ↦ elim (cases_eq q p) [
        | inl at ↦ subst (λ (y : ℕ). live (stated v p Clean w c) y q ≡ live c y q) (sym in_v) (subst (λ (r : ℕ). live (stated v p Clean w c) v r ≡ live c v r) (sym at)
            (ap live_or (plex_same v p Clean w c) ∙ clean_live w (plex_at c v p) is_on ∙ sym (on_live c v p is_on)))
        | inr other ↦ ap live_or (plex_apart v p Clean w c x q (λ same at. other at))
      ]
      | inr apart ↦ ap live_or (plex_apart v p Clean w c x q (λ same at. apart same))
    ];
    logs = stated_logs v p Clean w c;
  };
  same = plex_apart v p Clean w c;
  off = ap active_or (plex_same v p Clean w c) ∙ clean_off w (plex_at c v p);
}

pub one_clean : (v p : ℕ) (c : Config) → OneClean v p c (clean_at v p c)
one_clean v p c = by (active c v p) refl
  where
    by : (b : Bool) → active c v p ≡ b → OneClean v p c (if b then stated v p Clean (whole_of c v p) c else c)
    by true is = stated_clean v p (whole_of c v p) c is
    by false is = record { alike = alike_refl c; same = λ x q apart. refl; off = is }

-- a volume with such a plex has one that takes part
pub clean_has : (v p : ℕ) (w : Bool) (c : Config) → IsTrue (active c v p) → has_live (slice_get (stated v p Clean w c).volumes v) ≡ true
clean_has v p w c is_on = live_has (stated v p Clean w c) v p ((stated_clean v p w c is_on).alike.lives v p ∙ on_live c v p is_on)

-- ---- the plexes of a volume

pub record VolumeClean (v n : ℕ) (c d : Config) : Type 0 where
  pub alike : Alike c d
  pub same : (x q : ℕ) → (x ≡ v → q < n → ⊥) → plex_at d x q ≡ plex_at c x q
  pub off : (q : ℕ) → q < n → active d v q ≡ false

pub plexes_none : (v : ℕ) (c : Config) → clean_plexes v c 0 ≡ c
unfolding clean_plexes
plexes_none v c = refl

pub plexes_more : (v n : ℕ) (c : Config) → clean_plexes v c (suc n) ≡ clean_at v n (clean_plexes v c n)
unfolding clean_plexes
plexes_more v n c = refl

one_volume : (v n : ℕ) (c d e : Config) → VolumeClean v n c d → OneClean v n d e → VolumeClean v (suc n) c e
unfolding active
one_volume v n c d e was one = record {
  alike = alike_then c d e was.alike one.alike;
  same = λ x q apart. one.same x q (λ in_v at. apart in_v (omega (arith, at))) ∙ was.same x q (λ in_v lt. apart in_v (omega (arith, lt)));
  off = λ q lt. elim (cases_lt q n) [
    | inl less ↦ ap active_or (one.same v q (λ same at. omega (arith, at, less))) ∙ was.off q less
    | inr le ↦ let at : q ≡ n = omega (arith, lt, le) in subst (λ (r : ℕ). active e v r ≡ false) (sym at) one.off
  ];
}

pub volume_clean : (v n : ℕ) (c : Config) → VolumeClean v n c (clean_plexes v c n)
volume_clean v zero c = subst (VolumeClean v zero c) (sym (plexes_none v c)) (record { alike = alike_refl c; same = λ x q apart. refl; off = λ q lt. absurd (omega (arith, lt)) })
volume_clean v (suc n) c = subst (VolumeClean v (suc n) c) (sym (plexes_more v n c))
    (one_volume v n c (clean_plexes v c n) (clean_at v n (clean_plexes v c n)) (volume_clean v n c) (one_clean v n (clean_plexes v c n)))

-- ---- all volumes

pub record AllClean (unsure : List Bool) (n : ℕ) (c d : Config) : Type 0 where
  pub alike : Alike c d
  pub same : (x q : ℕ) → (x < n → is_unsure unsure x ≡ false → ⊥) → plex_at d x q ≡ plex_at c x q
  pub off : (x q : ℕ) → x < n → is_unsure unsure x ≡ false → q < 8 → active d x q ≡ false

pub cleaned_none : (unsure : List Bool) (c : Config) → cleaned unsure c 0 ≡ c
unfolding cleaned
cleaned_none unsure c = refl

pub cleaned_more : (unsure : List Bool) (n : ℕ) (c : Config) → cleaned unsure c (suc n) ≡ (if is_unsure unsure n then cleaned unsure c n else clean_plexes n (cleaned unsure c n) 8)
unfolding cleaned
cleaned_more unsure n c = refl

pub marked_more : (unsure : List Bool) (n : ℕ) (c : Config) → is_unsure unsure n ≡ true → cleaned unsure c (suc n) ≡ cleaned unsure c n
marked_more unsure n c is = cleaned_more unsure n c ∙ ap (λ (b : Bool). if b then cleaned unsure c n else clean_plexes n (cleaned unsure c n) 8) is

pub sure_more : (unsure : List Bool) (n : ℕ) (c : Config) → is_unsure unsure n ≡ false → cleaned unsure c (suc n) ≡ clean_plexes n (cleaned unsure c n) 8
sure_more unsure n c is = cleaned_more unsure n c ∙ ap (λ (b : Bool). if b then cleaned unsure c n else clean_plexes n (cleaned unsure c n) 8) is

skip_volume : (unsure : List Bool) (n : ℕ) (c d : Config) → is_unsure unsure n ≡ true → AllClean unsure n c d → AllClean unsure (suc n) c d
skip_volume unsure n c d is was = record {
  alike = was.alike;
  same = λ x q apart. was.same x q (λ lt sure. apart (omega (arith, lt)) sure);
  off = λ x q lt sure few. elim (cases_lt x n) [
    | inl less ↦ was.off x q less sure few
    | inr le ↦ let at : x ≡ n = omega (arith, lt, le) in absurd (both_ways (is_unsure unsure n) (subst (λ (y : ℕ). is_unsure unsure y ≡ false) at sure) is)
  ];
}

one_more_volume : (unsure : List Bool) (n : ℕ) (c d e : Config) → is_unsure unsure n ≡ false → AllClean unsure n c d → VolumeClean n 8 d e → AllClean unsure (suc n) c e
unfolding active
one_more_volume unsure n c d e is was one = record {
  alike = alike_then c d e was.alike one.alike;
  same = λ x q apart.
      one.same x q (λ in_v lt. apart (omega (arith, in_v)) (subst (λ (y : ℕ). is_unsure unsure y ≡ false) (sym in_v) is)) ∙ was.same x q (λ lt sure. apart (omega (arith, lt)) sure);
  off = λ x q lt sure few. elim (cases_lt x n) [
    | inl less ↦ ap active_or (one.same x q (λ in_v small. omega (arith, in_v, less))) ∙ was.off x q less sure few
    | inr le ↦ let at : x ≡ n = omega (arith, lt, le) in subst (λ (y : ℕ). active e y q ≡ false) (sym at) (one.off q few)
  ];
}

pub all_clean : (unsure : List Bool) (n : ℕ) (c : Config) → AllClean unsure n c (cleaned unsure c n)
all_clean unsure zero c = subst (AllClean unsure zero c) (sym (cleaned_none unsure c)) (record { alike = alike_refl c; same = λ x q apart. refl; off = λ x q lt sure few. absurd (omega (arith, lt)) })
all_clean unsure (suc n) c = by (all_clean unsure n c) (is_unsure unsure n) refl
  where
    by : AllClean unsure n c (cleaned unsure c n) → (b : Bool) → is_unsure unsure n ≡ b → AllClean unsure (suc n) c (cleaned unsure c (suc n))
    by was true is = subst (AllClean unsure (suc n) c) (sym (marked_more unsure n c is)) (skip_volume unsure n c (cleaned unsure c n) is was)
    by was false is = subst (AllClean unsure (suc n) c) (sym (sure_more unsure n c is))
        (one_more_volume unsure n c (cleaned unsure c n) (clean_plexes n (cleaned unsure c n) 8) is was (volume_clean n 8 (cleaned unsure c n)))

-- ---- and back

-- with a plex that is CLEAN in the state ACTIVE
abbrev pub open_at : ℕ → ℕ → Config → Config
open_at v p d = if clean d v p then stated v p Active (whole_of d v p) d else d

opened : (v n : ℕ) (d : Config) → IsTrue (active d v n) → open_at v n (stated v n Clean (whole_of d v n) d) ≡ d
unfolding whole_of clean active
opened v n d is_on =
    let t = there_of d v n is_on in
    let at : plex_at d v n ≡ Some t.plex = ap (λ (o : Option VolumeEntry). plex_in o n) t.at_v ∙ t.at_p in
    let w : Bool = whole_of d v n in
    let e : Config = stated v n Clean w d in
    let w_is : w ≡ t.plex.whole = ap whole_or at in
    let now : whole_of e v n ≡ t.plex.whole = ap whole_or (plex_same v n Clean w d ∙ ap (map_one (with_state Clean w)) at) ∙ w_is in
    let is : clean e v n ≡ true = ap clean_or (plex_same v n Clean w d) ∙ clean_is w (plex_at d v n) is_on in
    ap (λ (b : Bool). if b then stated v n Active (whole_of e v n) e else e) is ∙ ap (λ (b : Bool). stated v n Active b e) now
    ∙ ap (λ (s : PlexState). stated v n s t.plex.whole e) (sym t.state) ∙ stated_back d v n t.volume t.plex Clean w t.at_v t.at_p

pub open_one : (v n : ℕ) (c : Config) → clean c v n ≡ false → open_at v n (clean_at v n c) ≡ c
open_one v n c none = by (active c v n) refl
  where
    by : (b : Bool) → active c v n ≡ b → open_at v n (if b then stated v n Clean (whole_of c v n) c else c) ≡ c
    by true is = opened v n c is
    by false is = ap (λ (b : Bool). if b then stated v n Active (whole_of c v n) c else c) none

pub open_more : (v n : ℕ) (c d : Config) → NoneClean c v → d ≡ clean_plexes v c (suc n) → open_at v n d ≡ clean_plexes v c n
unfolding clean
open_more v n c d none is =
    ap (open_at v n) (is ∙ plexes_more v n c) ∙ open_one v n (clean_plexes v c n) (ap clean_or ((volume_clean v n c).same v n (λ same lt. omega (arith, lt))) ∙ none.each n)

pub clean_takes : (o : Option PlexEntry) → clean_or o ≡ true → live_or o ≡ true
clean_takes None is = absurd (let clash : false ≡ true = is in cc)
clean_takes (Some p) is = by p.state refl is
  where
    by : (s : PlexState) → p.state ≡ s → is_clean s ≡ true → live_or (Some p) ≡ true
    by Active at it = absurd (let clash : false ≡ true = it in cc)
    by Clean at it = rw at refl
    by Stale at it = absurd (let clash : false ≡ true = it in cc)

not_clean : (o : Option PlexEntry) → active_or o ≡ true → clean_or o ≡ true → ⊥
not_clean None is it = let clash : false ≡ true = is in cc
not_clean (Some p) is it = by p.state is it
  where
    by : (s : PlexState) → is_active s ≡ true → is_clean s ≡ true → ⊥
    by Active is it = let clash : false ≡ true = it in cc
    by Clean is it = let clash : false ≡ true = is in cc
    by Stale is it = let clash : false ≡ true = it in cc

-- where each plex that takes part is ACTIVE none is CLEAN
pub none_clean : (c : Config) → AllOn c → (v : ℕ) → NoneClean c v
unfolding clean active live
none_clean c on v = record { each = λ p. false_from_ne_true (clean c v p) (λ is. not_clean (plex_at c v p) (on.each v p (clean_takes (plex_at c v p) is)) is) }

-- and so it is with a volume that no change has come to
pub still_none : (unsure : List Bool) (n : ℕ) (c : Config) → AllOn c → NoneClean (cleaned unsure c n) n
unfolding clean
still_none unsure n c on = record { each = λ p. ap clean_or ((all_clean unsure n c).same n p (λ lt sure. omega (arith, lt))) ∙ (none_clean c on n).each p }

-- ---- as the code makes them

module _ (v n : ℕ) (c d : Config) (is : d ≡ clean_plexes v c n) where
  -- one more is made CLEAN
  pub made_clean : (w : Bool) (e : Config) → IsTrue (active d v n) → w ≡ whole_of d v n → e ≡ stated v n Clean w d → e ≡ clean_plexes v c (n + 1)
  made_clean w e is_on whole made =
      let next : suc n ≡ n + 1 = omega arith in
      made ∙ ap (λ (x : Bool). stated v n Clean x d) whole ∙ sym (ap (λ (b : Bool). if b then stated v n Clean (whole_of d v n) d else d) is_on) ∙ ap (clean_at v n) is ∙ sym (plexes_more v n c)
      ∙ ap (clean_plexes v c) next

  pub left_clean : active d v n ≡ false → d ≡ clean_plexes v c (n + 1)
  left_clean off =
      let next : suc n ≡ n + 1 = omega arith in
      sym (ap (λ (b : Bool). if b then stated v n Clean (whole_of d v n) d else d) off) ∙ ap (clean_at v n) is ∙ sym (plexes_more v n c) ∙ ap (clean_plexes v c) next

-- one more is put back
module _ (v n : ℕ) (d : Config) where
  pub made_open : (w : Bool) (e : Config) → clean d v n ≡ true → w ≡ whole_of d v n → e ≡ stated v n Active w d → e ≡ open_at v n d
  made_open w e is whole made =
      made ∙ ap (λ (x : Bool). stated v n Active x d) whole ∙ sym (ap (λ (b : Bool). if b then stated v n Active (whole_of d v n) d else d) is)

  pub left_open : clean d v n ≡ false → d ≡ open_at v n d
  left_open off = sym (ap (λ (b : Bool). if b then stated v n Active (whole_of d v n) d else d) off)

  pub back_open : (t : ℕ) (c old e : Config) → t < 8 → n ≡ 7 - t
      → ((x : Config) → old ≡ clean_plexes v x 8 → NoneClean x v → d ≡ clean_plexes v x (8 - t)) × (NoneClean old v → d ≡ old) → e ≡ open_at v n d
      → ((x : Config) → old ≡ clean_plexes v x 8 → NoneClean x v → e ≡ clean_plexes v x (8 - (t + 1))) × (NoneClean old v → e ≡ old)
  back_open t c old e lt at was made =
      let here : 8 - t ≡ suc n = omega (arith, lt, at) in
      let next : n ≡ 8 - (t + 1) = omega (arith, lt, at) in (
        (λ (x : Config) is none. made ∙ open_more v n x d none (was.0 x is none ∙ ap (clean_plexes v x) here) ∙ ap (clean_plexes v x) next),
        (λ (none : NoneClean old v).
            let same : d ≡ old = was.1 none in
            let off : clean d v n ≡ false = ap (λ (x : Config). clean x v n) same ∙ none.each n in
            made ∙ sym (left_open off) ∙ same),
      )

-- all volumes
pub volume_more : (unsure : List Bool) (n : ℕ) (c d e : Config) → d ≡ cleaned unsure c n → is_unsure unsure n ≡ false → e ≡ clean_plexes n d 8 → e ≡ cleaned unsure c (n + 1)
volume_more unsure n c d e is sure made =
    let next : suc n ≡ n + 1 = omega arith in
    made ∙ ap (λ (x : Config). clean_plexes n x 8) is ∙ sym (sure_more unsure n c sure) ∙ ap (cleaned unsure c) next

pub volume_skip : (unsure : List Bool) (n : ℕ) (c d : Config) → d ≡ cleaned unsure c n → is_unsure unsure n ≡ true → d ≡ cleaned unsure c (n + 1)
volume_skip unsure n c d is mark =
    let next : suc n ≡ n + 1 = omega arith in
    is ∙ sym (marked_more unsure n c mark) ∙ ap (cleaned unsure c) next

pub volume_back : (unsure : List Bool) (n m t : ℕ) (c d e : Config) → AllOn c → n < m → t + n + 1 ≡ m → d ≡ cleaned unsure c (m - t)
    → ((x : Config) → d ≡ clean_plexes n x 8 → NoneClean x n → e ≡ x) → (NoneClean d n → e ≡ d) → e ≡ cleaned unsure c (m - (t + 1))
volume_back unsure n m t c d e on lt at is back same =
    let here : m - t ≡ suc n = omega (arith, lt, at) in
    let next : n ≡ m - (t + 1) = omega (arith, lt, at) in
    by (is_unsure unsure n) refl (is ∙ ap (cleaned unsure c) here) ∙ ap (cleaned unsure c) next
  where
    by : (b : Bool) → is_unsure unsure n ≡ b → d ≡ cleaned unsure c (suc n) → e ≡ cleaned unsure c n
    by true mark made =
        let was : d ≡ cleaned unsure c n = made ∙ marked_more unsure n c mark in
        same (subst (λ (x : Config). NoneClean x n) (sym was) (still_none unsure n c on)) ∙ was
    by false mark made = back (cleaned unsure c n) (made ∙ sure_more unsure n c mark) (still_none unsure n c on)

pub cleaned_count : (unsure : List Bool) (c d : Config) → d ≡ cleaned unsure c (length c.volumes) → length d.volumes ≡ length c.volumes
cleaned_count unsure c d is = ap (λ (x : Config). length x.volumes) is ∙ (all_clean unsure (length c.volumes) c).alike.shape.volumes
