-- The invariant and its fact are one.
use Rattle.std.proofs.Common.{◌≡◌, ℕ, true, false, Option, Some, None, refl, ap, sym, subst, ◌∙◌, is_some}
use Rattle.vx_disk.specs.Shelf.{Each, Image, Meaning}
use Rattle.vx_copyfmt.specs.Copies.{copy_at}
use Rattle.vx_copyfmt.specs.Imports.{Damaged, Format, Found, Missing, NoConfig, ImportOutcome}
use Rattle.vx_config.specs.declared.config.Config.{Config}
use Rattle.vx_copies.specs.Looking.{on_shelf}
use Rattle.vx_kept.specs.Facts.{KeptFact, TidyFact, is_found}
use Rattle.vx_kept.specs.Groups.{found}
use Rattle.vx_kept.specs.Keeping.{IsTidy, Kept, Kin}

pub the_one : {A : Type 0} (o : Option A) → is_some o ≡ true → (x : A) × (o ≡ Some x)
the_one None is = absurd (let clash : false ≡ true = is in cc)
the_one (Some x) is = (x, refl)

pub the_config : (o : ImportOutcome Config) → is_found o ≡ true → (x : Config) × (o ≡ Found x)
the_config (Found x) is = (x, refl)
the_config (Missing disk) is = absurd (let clash : false ≡ true = is in cc)
the_config NoConfig is = absurd (let clash : false ≡ true = is in cc)
the_config (Damaged disk block s t) is = absurd (let clash : false ≡ true = is in cc)
the_config (Format version) is = absurd (let clash : false ≡ true = is in cc)

pub to_fact : (c : Config) (good : ℕ → Type 0) (m : Meaning) → Kept c good m → KeptFact c good m
to_fact c good m kept = record {
  below = kept.below;
  counts = λ u d a h lt is among top. ap is_some (kept.counts u lt d a h is among top).1;
  labels = kept.labels;
  finds = λ i each. ap is_found (kept.sees i each).found;
  kin = λ i x each is. same_kin i x each is;
  others = λ i R g x each in_g read is. (kept.sees i each).others R g x in_g read is;
}
  where
    same_kin : (i : Image) (x : Config) → Each m.leaves i → found m i ≡ Found x → Kin c x
    same_kin i x each is =
        let sees = kept.sees i each in
        let one : Found sees.config ≡ Found x = sym sees.found ∙ is in
        let same : sees.config ≡ x = cc in
        subst (Kin c) same sees.kin

pub from_fact : (c : Config) (good : ℕ → Type 0) (m : Meaning) → KeptFact c good m → Kept c good m
from_fact c good m fact = record {
  below = fact.below;
  counts = λ u lt d a h is among top. the_one (copy_at (on_shelf m) d a) (fact.counts u d a h lt is among top);
  labels = fact.labels;
  sees = λ i each. let it = the_config (found m i) (fact.finds i each) in record {
    config = it.0;
    found = it.1;
    kin = fact.kin i it.0 each it.1;
    others = λ R g x in_g read is. fact.others i R g x each in_g read is;
  };
}

-- ---- the next copies

pub to_tidy : (c : Config) (m : Meaning) → IsTidy c m → TidyFact c m
to_tidy c m tidy = record { goes = λ u v w x y held in_v in_w in_x in_y. (tidy.each u held).goes v w x y in_v in_w in_x in_y }

pub from_tidy : (c : Config) (good : ℕ → Type 0) (m : Meaning) → KeptFact c good m → TidyFact c m → IsTidy c m
from_tidy c good m fact tidy = record {
  each = λ u held. record {
    fit = record { counts = (from_fact c good m fact).counts u held.below; below = fact.below.each u held.below };
    goes = λ v w x y in_v in_w in_x in_y. tidy.goes u v w x y held in_v in_w in_x in_y;
  };
}
