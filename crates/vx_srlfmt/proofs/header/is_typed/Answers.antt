-- `is_typed`: clause state; what stays true in its loop over `link`.
use Rattle.std.proofs.Common.{arith, ◌≡◌, ◌<◌, ◌^◌, ap, subst, List, ℕ, length, get_or, take}
use Rattle.std.proofs.lemmas.List.{take_more, take_all}
use Rattle.std.proofs.lemmas.List.Elements.{All-push}
use Rattle.std.specs.Prelude.{All}
use Rattle.vx_model.specs.declared.state.KeptLink.{KeptLink}
use Rattle.vx_srlfmt.proofs.Lengths.{no_link}
use Rattle.vx_srlfmt.proofs.header.is_typed.Goals as goal

pub loop-link-preserved : goal.loop-link-preserved
loop-link-preserved c =
    let links : List KeptLink = c.args.h.now.state.links in
    let i : ℕ = c.loop-link.link-index in
    let items : c.as_slice-link-items.result.now ≡ links = c.as_slice-link-items.ensures.links in
    let lt : i < length links = omega (arith, c.loop-link-test.true, ap length items) in
    let site : (get_or links i no_link).site < 2 ^ 32 = subst (λ (ls : List KeptLink). (get_or ls i no_link).site < 2 ^ 32) items c.site_is_typed.ensures in
    rw (take_more links i no_link lt) (All-push (λ (k : KeptLink). k.site < 2 ^ 32) (take i links) (get_or links i no_link) c.loop-link.invariant site)

pub returns-clause-state : goal.returns-clause-state
returns-clause-state c =
    let links : List KeptLink = c.args.h.now.state.links in
    let all : take c.loop-link.link-index links ≡ links = take_all c.loop-link.link-index links (omega (arith, c.loop-link-test.false, ap length c.as_slice-link-items.ensures.links)) in
    record {
      origin = omega arith;
      other = omega arith;
      parent = omega arith;
      sites = subst (All (λ (k : KeptLink). k.site < 2 ^ 32)) all c.loop-link.invariant;
    }
