-- The group behind a fetch, and what it gives.
use Rattle.std.proofs.Common.{subst, OnOk, IsFalse}
use Rattle.std.specs.Prelude.{IfErr}
use Rattle.vx_srl.specs.Causes.{BlamesLog}
use Rattle.vx_rvg.specs.Holdings.{Holding}
use Rattle.vx_rvg.specs.Stands.{GivesWrite, Stands}
use Rattle.vx_rvg.specs.contracts.rvg_core.RvgCore.{the_view}
use Rattle.vx_rvg.specs.declared.group.Rvg.{Rvg}
use Rattle.vx_rvg.proofs.FetchGives.{gives_ok}
use Rattle.vx_rvg.proofs.ReadStands.{rest_sound, rest_stands}
use Rattle.vx_disk.specs.Causes.{Works}
use Rattle.vx_rvg.proofs.group.Rvg.fetch.Goals as goal

pub invariant_of-self-inside : goal.invariant_of-self-inside
invariant_of-self-inside g c = record { sound = rest_sound _ (g.S.Shelf.meaning c.self.inside.0.0) (g.S.Shelf.meaning c.fetch.new.shelf) c.fetch.ensures.goes c.self.inside.1.0 }

pub returns-clause-gives : goal.returns-clause-gives
returns-clause-gives g c =
    subst (λ (r : Rvg g.row.S.Denot g.S.Shelf). OnOk c.fetch.result (GivesWrite r.core c.args.n (g.S.Shelf.meaning r.shelf) c.fetch.new.into)) c.self.view_is
    (gives_ok (the_view c.self.inside.0.1.0) c.args.n (g.S.Shelf.meaning c.self.inside.0.0) c.fetch.new.into c.fetch.result c.fetch.ensures.gives c.fetch.ensures.agrees)

pub returns-clause-stands : goal.returns-clause-stands
returns-clause-stands g c =
    subst (λ (r : Rvg g.row.S.Denot g.S.Shelf). (x : Holding) → Stands r.core x (g.S.Shelf.meaning r.shelf) → IsFalse (g.S.Shelf.meaning c.fetch.new.shelf).down → Stands (the_view c.self.inside.0.1.0) x (g.S.Shelf.meaning c.fetch.new.shelf)) c.self.view_is
    (λ x stands up. rest_stands _ (g.S.Shelf.meaning c.self.inside.0.0) (g.S.Shelf.meaning c.fetch.new.shelf) c.fetch.ensures.goes up x stands)

pub returns-clause-works : goal.returns-clause-works
returns-clause-works g c = subst (λ (r : Rvg g.row.S.Denot g.S.Shelf). OnOk c.fetch.result (Works (g.S.Shelf.meaning r.shelf).disks r.core.log.unit)) c.self.view_is c.fetch.ensures.works

pub returns-clause-blames : goal.returns-clause-blames
returns-clause-blames g c = subst (λ (r : Rvg g.row.S.Denot g.S.Shelf). IfErr c.fetch.result (BlamesLog (g.S.Shelf.meaning r.shelf).disks r.core.log.unit)) c.self.view_is c.fetch.ensures.blames
