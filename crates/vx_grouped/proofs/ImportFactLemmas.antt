-- What an import asks, and its fact, are one.
use Rattle.std.proofs.Common.{◌≡◌, ap, sym, ◌∙◌, is_some}
use Rattle.vx_disk.specs.Shelf.{Meaning}
use Rattle.vx_config.specs.declared.config.Config.{Config}
use Rattle.vx_copyfmt.specs.Copies.{copy_at}
use Rattle.vx_copyfmt.specs.Imports.{Found}
use Rattle.vx_copies.specs.Looking.{on_shelf}
use Rattle.vx_kept.specs.Facts.{is_found}
use Rattle.vx_kept.specs.Groups.{found}
use Rattle.vx_kept.proofs.Facts.{the_config, the_one}
use Rattle.vx_group.specs.Resumes.{CanImport}
use Rattle.vx_grouped.specs.ImportFacts.{ImportFact}

found_one : (x y : Config) → Found y ≡ Found x → y ≡ x
found_one x y is = cc

pub import_fact : (m : Meaning) → CanImport m → ImportFact m
import_fact m can = record {
  below = λ i x each is. (can.base i x each is).below;
  counts = λ i x u d a h each is lt block among top. ap is_some ((can.base i x each is).counts u lt d a h block among top).1;
  labels = λ i x each is. (can.base i x each is).labels;
  finds = λ i j R x each_i each_j is. ap is_found (can.one i j R x each_i each_j is);
  one = λ i j R x y each_i each_j is now. found_one x y (sym now ∙ can.one i j R x each_i each_j is);
  plain = can.plain;
}

pub fact_import : (m : Meaning) → ImportFact m → CanImport m
fact_import m fact = record {
  base = λ i x each is. record {
    below = fact.below i x each is;
    counts = λ u lt d a h block among top. the_one (copy_at (on_shelf m) d a) (fact.counts i x u d a h each is lt block among top);
    labels = fact.labels i x each is;
  };
  one = λ i j R x each_i each_j is. let it = the_config (found m j) (fact.finds i j R x each_i each_j is) in it.1 ∙ ap (λ (z : Config). Found z) (fact.one i j R x it.0 each_i each_j is it.1);
  plain = fact.plain;
}
