-- Disks by themselves: what an import asks of them, where imports agree.
use Rattle.vx_grouped.proofs.ImportFactLemmas.{import_fact}
use Rattle.vx_untold.specs.Shades.{shade_meaning}
use Rattle.vx_grouped.proofs.idle.Idle.of.Goals as goal

pub invariant_of-result : goal.invariant_of-result
invariant_of-result g c = record { can = λ agreed. import_fact (shade_meaning g.R.Shelf.meaning c.args.rack) (c.requires.can agreed); tells = c.requires.tells }
