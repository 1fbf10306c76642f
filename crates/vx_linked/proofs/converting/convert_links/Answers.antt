-- `convert_links`: its result; what `put_at` asks; what stays true in its loop over `k`; that each place lies within.
use Rattle.std.proofs.Common.{◌≡◌, ◌∙◌, ◌+◌, ◌<◌, ◌≤◌, ℕ, suc, List, length, ap, sym, arith}
use Rattle.std.specs.Prelude.{Some, slice_get, slice_index_or, slice_set}
use Rattle.vx_model.proofs.Lists.{got, length-set}
use Rattle.vx_order.specs.declared.facts.LinkFacts.{LinkFacts}
use Rattle.vx_order.specs.declared.facts.SiteFacts.{SiteFacts}
use Rattle.vx_linked.specs.Converting.{converted_fact, turned_below}
use Rattle.vx_linked.specs.Tables.{site_relinked}
use Rattle.vx_linked.proofs.EachLink.{turned_all, turned_get, turned_step}
use Rattle.vx_linked.proofs.converting.convert_links.Goals as goal

-- the link that is looked at is still the old one
old_link : (f : LinkFacts → LinkFacts) (k : ℕ) (old now : SiteFacts) (ls : List LinkFacts) (d : LinkFacts) → now ≡ record old { links = turned_below f k old.links } → ls ≡ now.links → k < length ls
    → slice_get old.links k ≡ Some (slice_index_or ls k d)
old_link f k old now ls d is same less =
    sym (turned_get f k old.links) ∙ ap (λ (xs : List LinkFacts). slice_get xs k) (sym (same ∙ ap (λ (s : SiteFacts). s.links) is)) ∙ got ls k d less

pub bounds-as_slice-k : goal.bounds-as_slice-k
bounds-as_slice-k c = omega (arith, c.loop-k.invariant.0, c.loop-k.invariant.1, c.loop-k-test.true, ap length c.as_slice.ensures)

pub put_at-requires : goal.put_at-requires
put_at-requires c = record { place = omega (arith, c.loop-k.invariant.0, c.loop-k.invariant.1, c.loop-k-test.true) }

pub loop-k-preserved : goal.loop-k-preserved
loop-k-preserved c =
    let k : ℕ = c.loop-k.k in
    let old : SiteFacts = c.args.site.now in
    let next : suc k ≡ k + 1 = omega arith in
    let less : k < length c.as_slice.result.now = omega (arith, c.loop-k.invariant.0, c.loop-k.invariant.1, c.loop-k-test.true, ap length c.as_slice.ensures) in
    let here = c.loop-k.invariant.2 in
    let there = old_link (converted_fact c.args.need c.args.room) k old c.loop-k.site c.as_slice.result.now _ here c.as_slice.ensures less in (
      c.loop-k.invariant.0,
      ap (λ (s : SiteFacts). length s.links) c.put_at.ensures ∙ length-set c.loop-k.site.links k c.convert-next.result ∙ c.loop-k.invariant.1,
      c.put_at.ensures
          ∙ ap (λ (s : SiteFacts). site_relinked s k c.convert-next.result) here
          ∙ ap (λ (x : LinkFacts). let s : SiteFacts = record old { links = slice_set (turned_below (converted_fact c.args.need c.args.room) k old.links) k x } in s) c.convert-next.ensures
          ∙ ap (λ (ls : List LinkFacts). let s : SiteFacts = record old { links = ls } in s)
          (turned_step (converted_fact c.args.need c.args.room) k old.links _ there ∙ ap (λ (n : ℕ). turned_below (converted_fact c.args.need c.args.room) n old.links) next),
    )

pub returns : goal.returns
returns c =
    let old : SiteFacts = c.args.site.now in
    let past : length old.links ≤ c.loop-k.k = omega (arith, c.loop-k-test.false, c.loop-k.invariant.0) in
    record {
      converted = c.loop-k.invariant.2 ∙ ap (λ (ls : List LinkFacts). let s : SiteFacts = record old { links = ls } in s) (turned_all (converted_fact c.args.need c.args.room) c.loop-k.k old.links past);
    }
