-- `unlabel_all`: clean disks stay clean.
use Rattle.vx_diskset.proofs.LabelLemmas.{clean_zeros}
use Rattle.vx_diskset.proofs.labels.unlabel_all.Goals as goal

pub returns-then-are_large-clause-clean : goal.returns-then-are_large-clause-clean
returns-then-are_large-clause-clean g c = λ n it. clean_zeros n (g.R.Shelf.meaning c.args.rack.now) (g.R.Shelf.meaning c.unlabel_disks.new.rack) c.unlabel_disks.ensures.zeroes.goes it
