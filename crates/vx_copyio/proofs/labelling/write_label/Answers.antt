-- `write_label`: clauses goes and kept.
use Rattle.std.proofs.Common.{ap, ℕ}
use Rattle.std.proofs.lemmas.Result.{on_ok_weaker}
use Rattle.vx_copyio.specs.Labelling.{label_of}
use Rattle.vx_copyio.proofs.Labels.{one_goes, one_kept}
use Rattle.vx_copyio.proofs.labelling.write_label.Goals as goal

pub returns-clause-goes : goal.returns-clause-goes
returns-clause-goes g c =
    one_goes c.args.site c.args.unit (g.S.Shelf.meaning c.args.shelf.now) _ _ _ (ap (λ (n : ℕ). label_of c.args.site c.args.unit n) c.size.ensures) c.put_label.ensures c.requires.there c.put.ensures.goes

pub returns-clause-kept : goal.returns-clause-kept
returns-clause-kept g c =
    on_ok_weaker c.put.result
    (one_kept c.args.site c.args.unit (g.S.Shelf.meaning c.args.shelf.now) _ _ _ (ap (λ (n : ℕ). label_of c.args.site c.args.unit n) c.size.ensures) c.put_label.ensures)
    c.put.ensures.kept
