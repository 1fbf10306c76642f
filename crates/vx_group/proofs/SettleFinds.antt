-- Whether images say of a volume that it stopped cleanly, behind calls and commits.
use Rattle.std.proofs.Common.{◌≡◌, ◌∙◌, ◌⊎◌, inl, inr, ⊎_elim, ℕ, ◌<◌, Bool, true, false, IsTrue, List, Option, Some, None, length, ap, arith, refl, subst, sym}
use Rattle.std.specs.Prelude.{slice_get}
use Rattle.std.proofs.lemmas.Bool.{cases_lt}
use Rattle.vx_config.specs.declared.config.Config.{Config}
use Rattle.vx_config.specs.declared.entry.PlexEntry.{PlexEntry}
use Rattle.vx_copyfmt.specs.Imports.{Found}
use Rattle.vx_disk.specs.Shelf.{Meaning}
use Rattle.vx_kept.specs.Choice.{live}
use Rattle.vx_kept.specs.Cleans.{NoneClean, clean, clean_or, is_clean}
use Rattle.vx_kept.specs.Commits.{IsCommitted}
use Rattle.vx_kept.specs.Facts.{KeptFact}
use Rattle.vx_kept.specs.Finds.{FindsFrom, IsTryOf, LeavesConfig, NoConfiguration}
use Rattle.vx_kept.specs.Groups.{found}
use Rattle.vx_kept.specs.Keeping.{AllOn, Kin}
use Rattle.vx_kept.proofs.CleanLemmas.{clean_takes, none_clean}
use Rattle.vx_layout.specs.Places.{place, plex_at, plex_in}
use Rattle.vx_model.specs.declared.site.PlexState.{PlexState}
use Rattle.vx_model.specs.declared.site.PlexState.TheVariants.{Active, Clean, Stale}
use Rattle.vx_volume.specs.Plexes.{Inside, active, active_or, is_active}
use Rattle.vx_group.specs.Settles.{FindsAlike, FindsNoneClean, LivesAgree}

-- ---- configurations without a plex that is CLEAN

never_both : (o : Option PlexEntry) → active_or o ≡ true → clean_or o ≡ true → ⊥
never_both None is it = let clash : false ≡ true = is in cc
never_both (Some p) is it = by p.state is it
  where
    by : (s : PlexState) → is_active s ≡ true → is_clean s ≡ true → ⊥
    by Active is it = let clash : false ≡ true = it in cc
    by Clean is it = let clash : false ≡ true = is in cc
    by Stale is it = let clash : false ≡ true = it in cc

from_never : (b : Bool) → (b ≡ true → ⊥) → b ≡ false
from_never true none = absurd (none refl)
from_never false none = refl

-- a volume of which each plex that takes part is ACTIVE
none_at : (c : Config) (v : ℕ) → ((p : ℕ) → IsTrue (live c v p) → IsTrue (active c v p)) → NoneClean c v
unfolding clean active live
none_at c v on = record { each = λ p. from_never (clean c v p) (λ is. never_both (plex_at c v p) (on p (clean_takes (plex_at c v p) is)) is) }

pub clean_volumes : (x a : Config) → x.volumes ≡ a.volumes → (v p : ℕ) → clean x v p ≡ clean a v p
unfolding clean
clean_volumes x a same v p = ap (λ vs. clean_or (plex_in (slice_get vs v) p)) same

-- what is the same but for the serial and disks that are held as failed
tried_none : (a x : Config) → IsTryOf a x → AllOn a → (v : ℕ) → NoneClean x v
tried_none a x it on v = record { each = λ p. clean_volumes x a (ap (λ (y : Config). y.volumes) it) v p ∙ (none_clean a on v).each p }

-- ---- images

found_as : (x y : Config) → Found x ≡ Found y → x ≡ y
found_as x y is = cc

-- no image has another configuration
pub none_still : (v : ℕ) (m m' : Meaning) → FindsFrom NoConfiguration m m' → FindsNoneClean v m → FindsNoneClean v m'
none_still v m m' finds none = record {
  each = λ i x each is. elim (finds.each i x each is) [
    | inl was ↦ none.each was.image x was.left was.found
    | inr new ↦ absurd new
  ];
}

-- a commit of a configuration with which each plex that takes part is ACTIVE may be begun
pub none_tried : (a : Config) (v : ℕ) (m m' : Meaning) → AllOn a → FindsFrom (IsTryOf a) m m' → FindsNoneClean v m → FindsNoneClean v m'
none_tried a v m m' on finds none = record {
  each = λ i x each is. elim (finds.each i x each is) [
    | inl was ↦ none.each was.image x was.left was.found
    | inr new ↦ tried_none a x new on v
  ];
}

-- it is done
pub none_done : (d : Config) (v : ℕ) (m : Meaning) → AllOn d → IsCommitted d m → FindsNoneClean v m
none_done d v m on committed = record {
  each = λ i x each is. subst (λ (y : Config). NoneClean y v) (found_as d x (sym (committed.finds i each) ∙ is)) (none_clean d on v);
}

pub none_alike : (v : ℕ) (m : Meaning) → FindsNoneClean v m → FindsAlike v m
none_alike v m none = record { each = λ i x each is. inl (none.each i x each is) }

-- ---- where no more is left of plexes that are ACTIVE in memory

-- of their blocks no more is left
pub record NoMoreLeft (c : Config) (m m' : Meaning) : Type 0 where
  pub each : (v p b : ℕ) (y : List ℕ) → IsTrue (active c v p) → Inside c v b → m'.leaves (place c v p b).0 (place c v p b).1 y → m.leaves (place c v p b).0 (place c v p b).1 y

module _ (c : Config) (good : ℕ → Type 0) (m m' : Meaning) (kept : KeptFact c good m) (less : NoMoreLeft c m m') (v : ℕ) (alike : FindsAlike v m) where
  module _ (x : Config) (was : LeavesConfig m x) where
    kin : Kin c x
    kin = kept.kin was.image x was.left was.found

    module _ (low : v < length c.volumes) where
      inside_c : (b : ℕ) → Inside x v b → Inside c v b
      inside_c b inside = record { volume = low; within = let lt = inside.within in let same = kin.shape.blocks v low in omega (arith, lt, same) }

      back : (p b : ℕ) (y : List ℕ) → Inside x v b → IsTrue (live x v p) → m'.leaves (place x v p b).0 (place x v p b).1 y → m.leaves (place x v p b).0 (place x v p b).1 y
      back p b y inside on left =
          subst (λ (s : ℕ × ℕ). m.leaves s.0 s.1 y) (sym (kin.shape.place v p b low))
          (less.each v p b y (kin.on v p low on) (inside_c b inside) (subst (λ (s : ℕ × ℕ). m'.leaves s.0 s.1 y) (kin.shape.place v p b low) left))

      agree_still : LivesAgree x v m → LivesAgree x v m'
      agree_still agree = record {
        so = λ p q b y z inside on_p on_q at_p at_q. agree.so p q b y z inside on_p on_q (back p b y inside on_p at_p) (back q b z inside on_q at_q);
      }

    -- one that memory has not is of a commit that was refused: none of its plexes is CLEAN
    alike_was : NoneClean x v ⊎ LivesAgree x v m'
    alike_was = ⊎_elim
        (λ low. elim (alike.each was.image x was.left was.found) [
          | inl none ↦ inl none
          | inr agree ↦ inr (agree_still low agree)
        ])
        (λ high. inl (none_at x v (λ p. kin.shape.fresh v p high)))
        (cases_lt v (length c.volumes))

  -- no image has another configuration
  pub alike_still : FindsFrom NoConfiguration m m' → FindsAlike v m'
  alike_still finds = record {
    each = λ i x each is. elim (finds.each i x each is) [
      | inl was ↦ alike_was x was
      | inr new ↦ absurd new
    ];
  }

  -- others have one of which it is so
  pub alike_by : (New : Config → Type 0) → ((x : Config) → New x → NoneClean x v ⊎ LivesAgree x v m') → FindsFrom New m m' → FindsAlike v m'
  alike_by New so finds = record {
    each = λ i x each is. elim (finds.each i x each is) [
      | inl was ↦ alike_was x was
      | inr new ↦ so x new
    ];
  }

  -- a commit was begun with which each plex that takes part is ACTIVE
  pub alike_tried : (a : Config) → AllOn a → FindsFrom (IsTryOf a) m m' → FindsAlike v m'
  alike_tried a on finds = record {
    each = λ i x each is. elim (finds.each i x each is) [
      | inl was ↦ alike_was x was
      | inr new ↦ inl (tried_none a x new on v)
    ];
  }
