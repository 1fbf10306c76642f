-- `restart_links`: what `push` asks; what stays true in its loop over `k`.
use Rattle.std.proofs.Common.{◌≡◌, ◌∙◌, ◌+◌, ◌<◌, ◌≤◌, ℕ, suc, List, [], ◌∷◌, ◌++◌, length, take, ap, sym, arith}
use Rattle.vx_model.proofs.Lists.{got}
use Rattle.vx_order.specs.declared.facts.LinkFacts.{LinkFacts}
use Rattle.vx_effects.specs.Restarts.{facts_again}
use Rattle.vx_linked.proofs.Loops.{facts_few, facts_more}
use Rattle.vx_linked.proofs.restarting.restart_links.Goals as goal

pub push-requires : goal.push-requires
push-requires c =
    let few : length (facts_again (take c.loop-k.k c.args.links.now) c.args.used.now) ≤ c.loop-k.k = facts_few c.args.links.now c.args.used.now c.loop-k.k in
    let same : length c.loop-k.room ≡ length (facts_again (take c.loop-k.k c.args.links.now) c.args.used.now) = ap length c.loop-k.invariant in
    let less : c.loop-k.k < length c.args.links.now = c.loop-k-test.true in
    record { room = omega (arith, few, same, less, c.requires.few) }

pub loop-k-preserved : goal.loop-k-preserved
loop-k-preserved c =
    let ls = c.args.links.now in
    let us = c.args.used.now in
    let k : ℕ = c.loop-k.k in
    let next : suc k ≡ k + 1 = omega arith in
    let less : k < length ls = c.loop-k-test.true in
    c.push.ensures
    ∙ ap (λ (r : List LinkFacts). r ++ c.restart.result ∷ []) c.loop-k.invariant
    ∙ ap (λ (x : LinkFacts). facts_again (take k ls) us ++ x ∷ []) c.restart.ensures
    ∙ sym (facts_more ls us k _ _ (got ls k _ less) (got us k _ (omega (arith, less, c.requires.used))))
    ∙ ap (λ (n : ℕ). facts_again (take n ls) us) next
