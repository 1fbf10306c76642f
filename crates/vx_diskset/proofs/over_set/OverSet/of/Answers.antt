-- A group, what stands over it and the write that is cut, together.
use Rattle.std.proofs.Common.{◌∙◌, refl, subst, sym}
use Rattle.vx_diskset.specs.Aboves.{AboveStays, above_site}
use Rattle.vx_diskset.specs.OverKeeps.{StaysAbove}
use Rattle.vx_diskset.specs.declared.above.Above.TheVariants.{Nothing}
use Rattle.vx_diskset.proofs.over_set.OverSet.of.Goals as goal

pub with_above-site-requires-after_bounds : goal.with_above-site-requires-after_bounds
with_above-site-requires-after_bounds g c = λ κs lives. subst (λ e. AboveStays c.args.above e) c.in-Up.is c.requires

pub returns-in-Up-clause-cut : goal.returns-in-Up-clause-cut
returns-in-Up-clause-cut g c = refl

pub returns-in-Up-clause-site : goal.returns-in-Up-clause-site
returns-in-Up-clause-site g c = c.with_above-site.ensures.site ∙ sym c.in-Up.is

pub returns-in-Up-clause-above : goal.returns-in-Up-clause-above
returns-in-Up-clause-above g c = subst (λ e. StaysAbove c.args.above e (above_site c.with_above-site.result)) (sym c.in-Up.is) c.with_above-site.ensures.above

pub returns-in-Deported-clause-cut : goal.returns-in-Deported-clause-cut
returns-in-Deported-clause-cut g c = refl

pub returns-in-Deported-clause-site : goal.returns-in-Deported-clause-site
returns-in-Deported-clause-site g c = sym c.in-Deported.is

pub returns-in-Deported-clause-above : goal.returns-in-Deported-clause-above
returns-in-Deported-clause-above g c = subst (λ e. StaysAbove c.args.above e Nothing) (sym c.in-Deported.is) tt

pub returns-in-Down-clause-cut : goal.returns-in-Down-clause-cut
returns-in-Down-clause-cut g c = refl

pub returns-in-Down-clause-site : goal.returns-in-Down-clause-site
returns-in-Down-clause-site g c = sym c.in-Down.is

pub returns-in-Down-clause-above : goal.returns-in-Down-clause-above
returns-in-Down-clause-above g c = subst (λ e. StaysAbove c.args.above e Nothing) (sym c.in-Down.is) tt

pub returns-in-Marked-clause-cut : goal.returns-in-Marked-clause-cut
returns-in-Marked-clause-cut g c = refl

pub returns-in-Marked-clause-site : goal.returns-in-Marked-clause-site
returns-in-Marked-clause-site g c = absurd (subst (λ e. AboveStays c.args.above e) c.in-Marked.is c.requires)

pub returns-in-Marked-clause-above : goal.returns-in-Marked-clause-above
returns-in-Marked-clause-above g c = absurd (subst (λ e. AboveStays c.args.above e) c.in-Marked.is c.requires)

pub returns-clause-cut : goal.returns-clause-cut
returns-clause-cut g c = refl

pub returns-clause-site : goal.returns-clause-site
returns-clause-site g c = sym c.in-Gone.is

pub returns-clause-above : goal.returns-clause-above
returns-clause-above g c = subst (λ e. StaysAbove c.args.above e Nothing) (sym c.in-Gone.is) tt
