-- `write_line`: clauses leads, called and asked; what `unreachable` and `write_blocks` ask.
use Rattle.std.proofs.Common.{◌≡◌, ◌∙◌, ◌*◌, ◌≤◌, ℕ, ap, arith, refl}
use Rattle.std.specs.Prelude.{min, replicate}
use Rattle.vx_script.specs.declared.line.ScriptLine.TheVariants.{Write as WriteLine}
use Rattle.vx_events.proofs.RefusedCalls.{write_may}
use Rattle.vx_events.specs.Facts.{site_number}
use Rattle.vx_events.specs.StepsOver.{over_group_at}
use Rattle.vx_yard.specs.Writes.IsWriteLine.{OfWrite}
use Rattle.vx_yard.specs.Yards.{in_files}
use Rattle.vx_site_lines.proofs.write.write_line.Goals.{then-count-lt1-via-then-count-lt1, then-count-lt1-via-else-count-lt1+then-count-gt-MOST_CALL_BLOCKS}
use Rattle.vx_yard.proofs.OfSites.{bytes_as, writes_keep}
use Rattle.vx_yard.proofs.RawSites.{ungrouped_at}
use Rattle.vx_site_lines.proofs.Apart.{writes_alone}
use Rattle.vx_site_lines.proofs.write.write_line.Goals as goal

few_blocks : (n : ℕ) → n ≤ 16 → min n 16 ≡ n
few_blocks n few = omega (arith, few)

pub unreachable-requires : goal.unreachable-requires
unreachable-requires g c =
    let call = (write_may c.args.yard.now.facts.items (in_files c.args.yard.now) c.args.name.now c.args.volume.now c.args.start c.args.count c.args.fill c.requires.free).call in
    elim c.then-count-lt1.branch [
      | then-count-lt1-via-then-count-lt1 w ↦ absurd (omega (arith, w.if-count-lt1.true, call.some))
      | then-count-lt1-via-else-count-lt1+then-count-gt-MOST_CALL_BLOCKS w ↦ absurd (omega (arith, w.if-count-gt-MOST_CALL_BLOCKS.true, call.few))
    ]

pub write_blocks-requires-clause-free : goal.write_blocks-requires-clause-free
write_blocks-requires-clause-free g c = λ κs within. (
  WriteLine c.args.name.now c.args.volume.now c.args.start c.args.count c.args.fill,
  OfWrite c.args.count c.args.fill refl (c.requires.bytes ∙ ap (λ (n : ℕ). replicate (512 * n) c.args.fill) (few_blocks c.args.count (omega (arith, c.if-count-lt1.false)))),
  c.requires.free,
)

pub returns-clause-leads : goal.returns-clause-leads
returns-clause-leads g c = λ d stands apart off.
    c.write_blocks.ensures.leads d (WriteLine c.args.name.now c.args.volume.now c.args.start c.args.count c.args.fill) stands (ungrouped_at d.world c.args.name.now apart off)
    (OfWrite c.args.count c.args.fill refl (c.requires.bytes ∙ ap (λ (n : ℕ). replicate (512 * n) c.args.fill) (few_blocks c.args.count (omega (arith, c.if-count-lt1.false))))) c.requires.free

pub returns-clause-above : goal.returns-clause-above
returns-clause-above g c = λ d stands over plain.
    c.write_blocks.ensures.above d (WriteLine c.args.name.now c.args.volume.now c.args.start c.args.count c.args.fill) stands over plain
    (OfWrite c.args.count c.args.fill refl (c.requires.bytes ∙ ap (λ (n : ℕ). replicate (512 * n) c.args.fill) (few_blocks c.args.count (omega (arith, c.if-count-lt1.false))))) c.requires.free

pub returns-clause-called : goal.returns-clause-called
returns-clause-called g c = λ d stands apart off.
    writes_alone (over_group_at d.world c.args.name.now) (site_number d.world c.args.name.now) (replicate (512 * c.args.count) c.args.fill) c.write_blocks.result c.args.yard.now _ apart
    (bytes_as c.args.bytes.now (replicate (512 * c.args.count) c.args.fill) c.write_blocks.result _ c.args.yard.now _
    (c.requires.bytes ∙ ap (λ (n : ℕ). replicate (512 * n) c.args.fill) (few_blocks c.args.count (omega (arith, c.if-count-lt1.false)))) (c.write_blocks.ensures.called d stands (ungrouped_at d.world c.args.name.now apart off)))

pub returns-clause-asked : goal.returns-clause-asked
returns-clause-asked g c = λ d stands apart off.
    writes_keep c.args.bytes.now c.write_blocks.result _ c.args.yard.now _ (c.write_blocks.ensures.called d stands (ungrouped_at d.world c.args.name.now apart off))
