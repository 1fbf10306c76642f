-- `find_target`: clause target.
use Rattle.std.proofs.Common.{arith, ◌≡◌, ◌∙◌, ap, sym, subst, ℕ}
use Rattle.vx_copyfmt.specs.Areas.{header_of}
use Rattle.vx_copyfmt.specs.Commits.{target_of}
use Rattle.vx_copyio.specs.Putting.{IsTarget}
use Rattle.vx_copyio.proofs.Putting.{target_is}
use Rattle.vx_copyio.proofs.copying.find_target.Goals as goal

pub returns-clause-target : goal.returns-clause-target
returns-clause-target g c =
    let is : c.target.result ≡ target_of (header_of c.read.new.into) (header_of c.read-2.new.into) =
    c.target.ensures ∙ ap (λ o. target_of o c.get_area-2.result) c.get_area.ensures ∙ ap (λ o. target_of (header_of c.read.new.into) o) c.get_area-2.ensures in
    subst (λ (k : ℕ). IsTarget c.args.disk k (g.S.Shelf.meaning c.args.shelf.now)) (sym is)
    (target_is c.args.disk c.read.new.into c.read-2.new.into _ _ (g.met.S.Shelf.lawful c.args.shelf.now) (g.met.S.Shelf.lawful c.read.new.self) (omega arith) (omega arith) c.in_ok-read.ensures.goes c.in_ok-read.ensures.ok c.in_ok-read-2.ensures.ok)
