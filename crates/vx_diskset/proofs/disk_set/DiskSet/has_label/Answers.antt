-- `has_label`: reads of the disks of a bare site.
use Rattle.std.proofs.Common.{IsTrue, subst, sym}
use Rattle.vx_diskset.specs.Asked.{SameFailing}
use Rattle.vx_diskset.specs.DiskSets.{Later}
use Rattle.vx_diskset.specs.Stands.{IsToldAt, SiteStands}
use Rattle.vx_diskset.specs.declared.disk_set.DiskSet.TheVariants.{Bare}
use Rattle.vx_diskset.proofs.KeepsFailing.{same_spent}
use Rattle.vx_diskset.proofs.LabelLemmas.{no_front}
use Rattle.vx_diskset.proofs.StartBare.{clean_read}
use Rattle.vx_diskset.proofs.disk_set.DiskSet.has_label.Goals as goal

pub returns-in-Bare-clause-none : goal.returns-in-Bare-clause-none
returns-in-Bare-clause-none g c = λ beside n stands state told.
    c.has_label.ensures.none (subst (λ e. IsToldAt e) c.in-Bare.is told) (no_front n (g.R.Shelf.meaning c.in-Bare.rack) (subst (λ e. SiteStands beside n e) c.in-Bare.is stands))

pub returns-in-Bare-clause-stands : goal.returns-in-Bare-clause-stands
returns-in-Bare-clause-stands g c = λ beside n stands.
    clean_read n (g.R.Shelf.meaning c.in-Bare.rack) (g.R.Shelf.meaning c.has_label.new.rack) c.has_label.ensures.goes (subst (λ e. SiteStands beside n e) c.in-Bare.is stands)

pub returns-in-Bare-clause-failing : goal.returns-in-Bare-clause-failing
returns-in-Bare-clause-failing g c =
    subst (λ e. SameFailing e (Bare c.has_label.new.rack)) (sym c.in-Bare.is)
    (record { told = same_spent (g.R.Shelf.meaning c.in-Bare.rack) (g.R.Shelf.meaning c.has_label.new.rack) c.has_label.ensures.spends })

pub returns-in-Bare-clause-later : goal.returns-in-Bare-clause-later
returns-in-Bare-clause-later g c =
    subst (λ e. Later e (Bare c.has_label.new.rack)) (sym c.in-Bare.is)
    (record { counts = c.has_label.ensures.goes.disk_faults; told = λ told. subst (λ b. IsTrue b) c.has_label.ensures.goes.tells told })
