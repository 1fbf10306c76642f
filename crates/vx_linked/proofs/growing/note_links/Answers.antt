-- `note_links`: its result; what `put_at` asks; what stays true in its loop over `k`; that each place lies within.
use Rattle.std.proofs.Common.{◌≡◌, ◌∙◌, ◌+◌, ◌<◌, ◌≤◌, ℕ, suc, List, length, ap, sym, arith}
use Rattle.std.specs.Prelude.{Some, slice_get, slice_index_or, slice_set}
use Rattle.vx_model.proofs.Lists.{got, length-set}
use Rattle.vx_order.specs.declared.facts.LinkFacts.{LinkFacts}
use Rattle.vx_order.specs.declared.facts.SiteFacts.{SiteFacts}
use Rattle.vx_linked.specs.Holds.{grown_below, is_over}
use Rattle.vx_linked.specs.Tables.{site_relinked}
use Rattle.vx_linked.proofs.Loops.{grown_all, grown_get, grown_step, none_any}
use Rattle.vx_linked.proofs.growing.note_links.Goals as goal

-- the links in the middle of the loop
links_are : (number blocks k : ℕ) (old now : SiteFacts) → now ≡ record old { links = grown_below number blocks k old.links } → now.links ≡ grown_below number blocks k old.links
links_are number blocks k old now is = ap (λ (s : SiteFacts). s.links) is

-- the link that is looked at is still the old one
old_link : (number blocks k : ℕ) (old now : SiteFacts) (ls : List LinkFacts) (d : LinkFacts) → now ≡ record old { links = grown_below number blocks k old.links } → ls ≡ now.links → k < length ls
    → slice_get old.links k ≡ Some (slice_index_or ls k d)
old_link number blocks k old now ls d is same less =
    sym (grown_get number blocks k old.links) ∙ ap (λ (xs : List LinkFacts). slice_get xs k) (sym (same ∙ links_are number blocks k old now is)) ∙ got ls k d less

pub bounds-as_slice-k : goal.bounds-as_slice-k
bounds-as_slice-k c = omega (arith, c.loop-k.invariant.0, c.loop-k.invariant.1, c.loop-k-test.true, ap length c.as_slice.ensures)

pub put_at-requires : goal.put_at-requires
put_at-requires c = record { place = omega (arith, c.loop-k.invariant.0, c.loop-k.invariant.1, c.loop-k-test.true) }

pub loop-k-preserved : goal.loop-k-preserved
loop-k-preserved c =
    let k : ℕ = c.loop-k.k in
    let old : SiteFacts = c.args.site.now in
    let next : suc k ≡ k + 1 = omega arith in
    let less : k < length c.as_slice.result.now = omega (arith, c.loop-k.invariant.0, c.loop-k.invariant.1, c.loop-k-test.true, ap length c.as_slice.ensures) in (
      c.loop-k.invariant.0,
      ap (λ (s : SiteFacts). length s.links) c.put_at.ensures ∙ length-set c.loop-k.site.links k c.grow-next.result ∙ c.loop-k.invariant.1,
      λ none.
          let here = c.loop-k.invariant.2 none in
          let there = old_link c.args.number c.args.blocks k old c.loop-k.site c.as_slice.result.now _ here c.as_slice.ensures less in
          c.put_at.ensures
          ∙ ap (λ (s : SiteFacts). site_relinked s k c.grow-next.result) here
          ∙ ap (λ (x : LinkFacts). let s : SiteFacts = record old { links = slice_set (grown_below c.args.number c.args.blocks k old.links) k x } in s)
          (c.grow-next.ensures (none_any (is_over c.args.blocks) old.links k _ none there))
          ∙ ap (λ (ls : List LinkFacts). let s : SiteFacts = record old { links = ls } in s)
          (grown_step c.args.number c.args.blocks k old.links _ there ∙ ap (λ (n : ℕ). grown_below c.args.number c.args.blocks n old.links) next),
    )

pub returns : goal.returns
returns c =
    let old : SiteFacts = c.args.site.now in
    let past : length old.links ≤ c.loop-k.k = omega (arith, c.loop-k-test.false, c.loop-k.invariant.0) in
    record {
      grown = λ none. c.loop-k.invariant.2 none ∙ ap (λ (ls : List LinkFacts). let s : SiteFacts = record old { links = ls } in s) (grown_all c.args.number c.args.blocks c.loop-k.k old.links past);
    }
