-- What a site comes up with is what its log keeps of it.
use Rattle.std.proofs.Common.{◌∙◌, ap, sym}
use Rattle.std.specs.Prelude.{is_some, slice_get}
use Rattle.vx_site_lines.proofs.RiseNeeds.{rises_with, risen_copy}
use Rattle.vx_site_lines.proofs.rooms.what_rose.Goals as goal

pub returns-in_default-clause-some : goal.returns-in_default-clause-some
returns-in_default-clause-some g c = λ beside n stands up apart running told origins may.
    sym (ap is_some c.in_default.is) ∙ (c.state.ensures.is beside n stands up apart).1

pub returns-then-not-may_rise-clause-some : goal.returns-then-not-may_rise-clause-some
returns-then-not-may_rise-clause-some g c = λ beside n stands up apart running told origins may.
    c.if-not-may_rise.ensures
    ∙ rises_with c.args.site c.args.sites n beside.links c.in-Some.state.now (c.in-Some.ensures.is beside n stands up apart).0 (c.in-Some.ensures.links beside n stands up told) may

pub returns-in_default-used_links-clause-some : goal.returns-in_default-used_links-clause-some
returns-in_default-used_links-clause-some g c = λ beside n stands up apart running told origins may.
    let same = c.as_slice.ensures.links ∙ c.in-Some.ensures.links beside n stands up told in
    sym (ap is_some c.in_default-used_links.is)
    ∙ c.used_links.ensures.some beside n stands up apart running told (λ k l at. origins k l (ap (λ ls. slice_get ls k) (sym same) ∙ at)) same

pub returns-clause-is : goal.returns-clause-is
returns-clause-is g c = λ beside n stands up apart running.
    risen_copy c.args.site c.args.sites n c.in-Some.state.now c.copy.result c.as_slice.result.now c.in-Some-used_links.used c.copy.ensures (c.in-Some.ensures.is beside n stands up apart).0 c.if-not-may_rise.ensures
    c.as_slice.ensures.links (c.in-Some-used_links.ensures.is beside n stands up running)

pub returns-clause-told : goal.returns-clause-told
returns-clause-told g c = λ beside n stands up running told. ap (λ st. st.links) c.copy.ensures ∙ c.in-Some.ensures.links beside n stands up told
