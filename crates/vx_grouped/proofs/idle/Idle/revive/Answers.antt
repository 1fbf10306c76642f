-- Disks that are up again tell an import what they told before.
use Rattle.std.proofs.Common.{◌≡◌, IsTrue, subst, sym}
use Rattle.std.specs.Prelude.{IsFalse}
use Rattle.vx_disk.specs.Racks.{Alike}
use Rattle.vx_untold.specs.Shades.{rack_of, shade_meaning}
use Rattle.vx_grouped.specs.SiteReturns.{ReturnSince}
use Rattle.vx_grouped.proofs.ImportFactLemmas.{fact_import}
use Rattle.vx_grouped.proofs.TellLemmas.{alike_tells}
use Rattle.vx_grouped.proofs.idle.Idle.revive.Goals as goal

pub of-requires-clause-can : goal.of-requires-clause-can
of-requires-clause-can g c = λ κs within agreed. c.risen.ensures.can (fact_import (shade_meaning g.R.Shelf.meaning c.args.self.rack) (c.args.self.can agreed))

pub of-requires-clause-tells : goal.of-requires-clause-tells
of-requires-clause-tells g c = λ κs within r agreed is.
    alike_tells r (shade_meaning g.R.Shelf.meaning c.args.self.rack) (shade_meaning g.R.Shelf.meaning c.risen.result) c.risen.ensures.alike (c.args.self.tells r agreed is)

pub returns-clause-alike : goal.returns-clause-alike
returns-clause-alike g c = subst (λ s. Alike (shade_meaning g.R.Shelf.meaning c.args.self.rack) (shade_meaning g.R.Shelf.meaning s)) (sym c.of.ensures.rack) c.risen.ensures.alike

pub returns-clause-up : goal.returns-clause-up
returns-clause-up g c = subst (λ s. IsFalse (shade_meaning g.R.Shelf.meaning s).down) (sym c.of.ensures.rack) c.risen.ensures.up

pub returns-clause-armed : goal.returns-clause-armed
returns-clause-armed g c = subst (λ s. (shade_meaning g.R.Shelf.meaning s).armed ≡ (shade_meaning g.R.Shelf.meaning c.args.self.rack).armed) (sym c.of.ensures.rack) c.risen.ensures.armed

pub returns-clause-since : goal.returns-clause-since
returns-clause-since g c = subst (λ s. ReturnSince (shade_meaning g.R.Shelf.meaning c.args.self.rack) (shade_meaning g.R.Shelf.meaning s)) (sym c.of.ensures.rack) c.risen.ensures.since

pub returns-clause-told : goal.returns-clause-told
returns-clause-told g c = λ told. c.risen.ensures.told (subst (λ s. IsTrue (g.R.Shelf.meaning (rack_of s)).tells) c.of.ensures.rack told)
