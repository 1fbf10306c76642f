-- Plexes that are put from CLEAN into ACTIVE.
use Rattle.std.proofs.Common.{◌≡◌, inl, inr, ℕ, suc, ◌≤◌, Bool, true, false, IsTrue, Option, Some, None, length, refl, ap, sym, ◌∙◌, subst, arith}
use Rattle.std.specs.Prelude.{if◌then◌else◌, not, slice_get}
use Rattle.std.proofs.lemmas.Bool.{cases_eq, cases_lt}
use Rattle.vx_model.specs.declared.site.PlexState.{PlexState}
use Rattle.vx_model.specs.declared.site.PlexState.TheVariants.{Active, Clean, Stale}
use Rattle.vx_config.specs.Changes.{has_live, stated, with_state}
use Rattle.vx_config.specs.Checks.{is_stale}
use Rattle.vx_config.specs.declared.config.Config.{Config}
use Rattle.vx_config.specs.declared.entry.PlexEntry.{PlexEntry}
use Rattle.vx_layout.specs.Places.{plex_at}
use Rattle.vx_volume.specs.Plexes.{active, active_or, is_active}
use Rattle.vx_kept.specs.Choice.{live, live_or}
use Rattle.vx_kept.specs.Cleans.{clean, clean_or, is_clean}
use Rattle.vx_kept.specs.Opens.{OpenFrom, OpenVolumes, SameLives}
use Rattle.vx_kept.specs.States.{whole_of}
use Rattle.vx_kept.proofs.CleanLemmas.{alike_refl, alike_then, clean_takes, open_at}
use Rattle.vx_kept.proofs.Narrower.{live_has}
use Rattle.vx_kept.proofs.StateLemmas.{map_one, plex_apart, plex_same, stated_logs, stated_shape}

-- ---- one plex

opened_live : (w : Bool) (o : Option PlexEntry) → clean_or o ≡ true → live_or (map_one (with_state Active w) o) ≡ true
opened_live w None is = absurd (let clash : false ≡ true = is in cc)
opened_live w (Some p) is = refl

opened_on : (w : Bool) (o : Option PlexEntry) → clean_or o ≡ true → active_or (map_one (with_state Active w) o) ≡ true
opened_on w None is = absurd (let clash : false ≡ true = is in cc)
opened_on w (Some p) is = refl

-- what takes part and is not CLEAN is ACTIVE
live_on : (o : Option PlexEntry) → clean_or o ≡ false → live_or o ≡ true → active_or o ≡ true
live_on None off is = absurd (let clash : false ≡ true = is in cc)
live_on (Some p) off is = by p.state off is
  where
    by : (s : PlexState) → is_clean s ≡ false → not (is_stale s) ≡ true → is_active s ≡ true
    by Active it takes = refl
    by Clean it takes = absurd (let clash : true ≡ false = it in cc)
    by Stale it takes = absurd (let clash : false ≡ true = takes in cc)

pub record OneOpen (v p : ℕ) (c d : Config) : Type 0 where
  pub alike : SameLives c d
  pub same : (x q : ℕ) → (x ≡ v → q ≡ p → ⊥) → plex_at d x q ≡ plex_at c x q
  pub on : IsTrue (live d v p) → IsTrue (active d v p)

stated_open : (v p : ℕ) (w : Bool) (c : Config) → clean c v p ≡ true → OneOpen v p c (stated v p Active w c)
unfolding active live clean
stated_open v p w c is = record {
  alike = record {
    shape = stated_shape v p Active w c;
    serial = refl;
    site = refl;
    disks = refl;
    rvg = refl;
    lives = λ x q. elim (cases_eq x v) [
      | inl in_v ↦ elim (cases_eq q p) [
        | inl at ↦ subst (λ (y : ℕ). live (stated v p Active w c) y q ≡ live c y q) (sym in_v) (subst (λ (r : ℕ). live (stated v p Active w c) v r ≡ live c v r) (sym at)
            (ap live_or (plex_same v p Active w c) ∙ opened_live w (plex_at c v p) is ∙ sym (clean_takes (plex_at c v p) is)))
        | inr other ↦ ap live_or (plex_apart v p Active w c x q (λ same at. other at))
      ]
      | inr apart ↦ ap live_or (plex_apart v p Active w c x q (λ same at. apart same))
    ];
    logs = stated_logs v p Active w c;
  };
  same = plex_apart v p Active w c;
  on = λ takes. ap active_or (plex_same v p Active w c) ∙ opened_on w (plex_at c v p) is;
}

left_open_on : (c : Config) (v p : ℕ) → clean c v p ≡ false → IsTrue (live c v p) → IsTrue (active c v p)
unfolding active live clean
left_open_on c v p off is = live_on (plex_at c v p) off is

pub one_open : (v p : ℕ) (c : Config) → OneOpen v p c (open_at v p c)
one_open v p c = by (clean c v p) refl
  where
    by : (b : Bool) → clean c v p ≡ b → OneOpen v p c (if b then stated v p Active (whole_of c v p) c else c)
    by true is = stated_open v p (whole_of c v p) c is
    by false is = record { alike = alike_refl c; same = λ x q apart. refl; on = left_open_on c v p is }

-- a volume with such a plex has one that takes part
pub open_has : (v p : ℕ) (w : Bool) (c : Config) → clean c v p ≡ true → has_live (slice_get (stated v p Active w c).volumes v) ≡ true
unfolding live clean
open_has v p w c is = live_has (stated v p Active w c) v p (ap live_or (plex_same v p Active w c) ∙ opened_live w (plex_at c v p) is)

-- ---- the plexes of a volume, from the last on

pub open_start : (v k : ℕ) (c : Config) → k ≡ 8 → OpenFrom v k c c
open_start v k c is = record { alike = alike_refl c; same = λ x q apart. refl; on = λ q le lt takes. absurd (omega (arith, is, le, lt)) }

pub open_step : (v n k j : ℕ) (c d e : Config) → k ≡ suc n → j ≡ n → OpenFrom v k c d → OneOpen v n d e → OpenFrom v j c e
unfolding active live
open_step v n k j c d e next now was one = record {
  alike = alike_then c d e was.alike one.alike;
  same = λ x q apart. one.same x q (λ in_v at. apart in_v (omega (arith, at, now))) ∙ was.same x q (λ in_v le. apart in_v (omega (arith, le, next, now)));
  on = λ q le lt takes. elim (cases_eq q n) [
    | inl at ↦ subst (λ (r : ℕ). IsTrue (active e v r)) (sym at) (one.on (subst (λ (r : ℕ). IsTrue (live e v r)) at takes))
    | inr other ↦
        let same = one.same v q (λ in_v at. other at) in
        let above : k ≤ q = elim (cases_lt n q) [ inl more ↦ omega (arith, more, next) | inr less ↦ absurd (other (omega (arith, less, le, now))) ] in
        ap active_or same ∙ was.on q above lt (sym (ap live_or same) ∙ takes)
  ];
}

-- ---- the volumes

pub volumes_start : (n : ℕ) (c : Config) → length c.volumes ≤ n → OpenVolumes n c c
volumes_start n c le = record { alike = alike_refl c; same = λ x q apart. refl; on = λ x q low lt small takes. absurd (omega (arith, le, low, lt)) }

pub volumes_step : (n k j : ℕ) (c d e : Config) → k ≡ suc n → j ≡ n → OpenVolumes k c d → OpenFrom n 0 d e → OpenVolumes j c e
unfolding active live
volumes_step n k j c d e next now was one = record {
  alike = alike_then c d e was.alike one.alike;
  same = λ x q apart. one.same x q (λ in_v le. apart (omega (arith, in_v, now))) ∙ was.same x q (λ le. apart (omega (arith, le, next, now)));
  on = λ x q low lt small takes. elim (cases_eq x n) [
    | inl at ↦ subst (λ (y : ℕ). IsTrue (active e y q)) (sym at) (one.on q (omega arith) small (subst (λ (y : ℕ). IsTrue (live e y q)) at takes))
    | inr other ↦
        let same = one.same x q (λ in_v le. other in_v) in
        let above : k ≤ x = elim (cases_lt n x) [ inl more ↦ omega (arith, more, next) | inr less ↦ absurd (other (omega (arith, less, low, now))) ] in
        ap active_or same ∙ was.on x q above lt small (sym (ap live_or same) ∙ takes)
  ];
}
