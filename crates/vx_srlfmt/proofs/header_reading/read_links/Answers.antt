-- `read_links`: clause links; what stays true in its loop over `i`.
use Rattle.std.proofs.Common.{arith, ◌≡◌, ◌∙◌, ◌+◌, ◌<◌, ◌^◌, ◌*◌, ◌-◌, ◌++◌, ◌∷◌, [], ap, sym, List, ℕ, length}
use Rattle.std.proofs.lemmas.List.{length_push}
use Rattle.std.proofs.lemmas.List.Elements.{All-push}
use Rattle.vx_model.specs.declared.state.KeptLink.{KeptLink}
use Rattle.vx_srlfmt.specs.HeaderReading.{link_at, links_at}
use Rattle.vx_srlfmt.proofs.Links.{links_at-more, links_at-done}
use Rattle.vx_srlfmt.proofs.header_reading.read_links.Goals as goal

pub loop-i-preserved : goal.loop-i-preserved
loop-i-preserved c =
    let i : ℕ = c.loop-i.i in
    let rest : ℕ = c.args.count - (i + 1) in
    let next : 124 + 24 * i + 24 ≡ 124 + 24 * (i + 1) = omega arith in
    let pushed : c.push.new.self ≡ c.loop-i.links ++ link_at (124 + 24 * i) c.args.block.now ∷ [] =
    c.push.ensures ∙ ap (λ (l : KeptLink). c.loop-i.links ++ l ∷ []) c.read_link.ensures.link in
    record {
      links = ap (λ (ls : List KeptLink). ls ++ links_at rest (124 + 24 * (i + 1)) c.args.block.now) pushed
          ∙ ap (λ (at : ℕ). (c.loop-i.links ++ link_at (124 + 24 * i) c.args.block.now ∷ []) ++ links_at rest at c.args.block.now) (sym next)
          ∙ links_at-more c.loop-i.links _ i c.args.count (124 + 24 * i) c.args.block.now c.loop-i-test.true c.loop-i.invariant.links;
      sites = rw c.push.ensures (All-push (λ (k : KeptLink). k.site < 2 ^ 32) c.loop-i.links c.read_link.result c.loop-i.invariant.sites c.read_link.ensures.site);
      many = ap length c.push.ensures ∙ length_push c.loop-i.links c.read_link.result ∙ omega (arith, c.loop-i.invariant.many);
    }

pub returns-clause-links : goal.returns-clause-links
returns-clause-links c = links_at-done _ _ _ _ _ _ (omega arith) c.loop-i.invariant.links
