-- Each place has what the link of that place needs.
use Rattle.std.proofs.Common.{◌∙◌, ap, sym, refl, arith}
use Rattle.std.specs.Prelude.{is_some, slice_get}
use Rattle.vx_model.proofs.Lists.{got}
use Rattle.vx_yard.proofs.Lists.{length-set}
use Rattle.vx_site_lines.proofs.RiseNeeds.{need_got, needs_all, needs_more, needs_none}
use Rattle.vx_site_lines.proofs.rooms.used_links.Goals as goal

pub loop-k-init : goal.loop-k-init
loop-k-init g c = (refl, λ beside n stands up running. needs_none n _ _)

pub returns-in_default-clause-some : goal.returns-in_default-clause-some
returns-in_default-clause-some g c = λ beside n stands up apart running told origins is.
    let at = got c.args.links.now c.loop-k.k _ c.loop-k-test.true in
    sym (ap is_some c.in_default.is)
    ∙ c.used_by.ensures.some beside n c.loop-k.k stands (origins c.loop-k.k _ at) up apart running told (ap (λ ls. slice_get ls c.loop-k.k) (sym is) ∙ at)

pub loop-k-preserved : goal.loop-k-preserved
loop-k-preserved g c = (
  length-set c.loop-k.used c.loop-k.k c.in-Some.blocks ∙ c.loop-k.invariant.0,
  λ beside n stands up running.
      needs_more n c.args.links.now c.loop-k.used c.loop-k.k _ c.in-Some.blocks (omega (arith, c.loop-k-test.true, c.requires.few, c.loop-k.invariant.0)) (got c.args.links.now c.loop-k.k _ c.loop-k-test.true)
      (need_got n _ c.used_by.result c.in-Some.blocks c.in-Some.is (c.used_by.ensures.is beside n stands up running)) (c.loop-k.invariant.1 beside n stands up running),
)

pub returns-clause-is : goal.returns-clause-is
returns-clause-is g c = λ beside n stands up running.
    needs_all n c.args.links.now c.loop-k.used c.loop-k.k (grind (arith, c.loop-k-test.false, c.loop-k.auto.k-end)) (c.loop-k.invariant.1 beside n stands up running)

pub returns-clause-long : goal.returns-clause-long
returns-clause-long g c = c.loop-k.invariant.0
