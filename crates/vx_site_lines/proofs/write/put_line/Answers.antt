-- `put_line`: clauses leads, called and asked; what `write_blocks` asks.
use Rattle.std.proofs.Common.{◌∙◌, List, ℕ, ap, length, refl, subst, sym}
use Rattle.vx_events.specs.Facts.{site_number}
use Rattle.vx_events.specs.StepsOver.{over_group_at}
use Rattle.vx_script.specs.declared.line.ScriptLine.TheVariants.{Put as PutLine}
use Rattle.vx_yard.specs.Standing.{Leads}
use Rattle.vx_yard.specs.AboveLines.{LeadsAbove}
use Rattle.vx_yard.specs.Working.{IsFree}
use Rattle.vx_yard.specs.Writes.IsWriteLine.{OfPut}
use Rattle.vx_yard.proofs.OfSites.{bytes_as, writes_keep}
use Rattle.vx_yard.proofs.RawSites.{ungrouped_at}
use Rattle.vx_site_lines.proofs.Apart.{writes_alone}
use Rattle.vx_site_lines.proofs.write.put_line.Goals as goal

pub write_blocks-requires-clause-free : goal.write_blocks-requires-clause-free
write_blocks-requires-clause-free g c = λ κs within. (
  PutLine c.args.name.now c.args.volume.now c.args.start c.as_bytes.result.now,
  OfPut refl (ap (λ (bs : List ℕ). length bs) c.as_bytes.ensures.bytes ∙ c.as_bytes.ensures.whole),
  subst (λ (bs : List ℕ). IsFree c.args.yard.now (PutLine c.args.name.now c.args.volume.now c.args.start bs)) (sym c.as_bytes.ensures.bytes) c.requires.free,
)

pub returns-clause-leads : goal.returns-clause-leads
returns-clause-leads g c = λ d stands apart off.
    subst (λ (bs : List ℕ). Leads d (PutLine c.args.name.now c.args.volume.now c.args.start bs) c.write_blocks.result c.args.yard.now c.write_blocks.new.yard) c.as_bytes.ensures.bytes
    (c.write_blocks.ensures.leads d (PutLine c.args.name.now c.args.volume.now c.args.start c.as_bytes.result.now) stands (ungrouped_at d.world c.args.name.now apart off)
    (OfPut refl (ap (λ (bs : List ℕ). length bs) c.as_bytes.ensures.bytes ∙ c.as_bytes.ensures.whole))
    (subst (λ (bs : List ℕ). IsFree c.args.yard.now (PutLine c.args.name.now c.args.volume.now c.args.start bs)) (sym c.as_bytes.ensures.bytes) c.requires.free))

pub returns-clause-above : goal.returns-clause-above
returns-clause-above g c = λ d stands over plain.
    subst (λ (bs : List ℕ). LeadsAbove d (PutLine c.args.name.now c.args.volume.now c.args.start bs) c.write_blocks.result c.args.yard.now c.write_blocks.new.yard) c.as_bytes.ensures.bytes
    (c.write_blocks.ensures.above d (PutLine c.args.name.now c.args.volume.now c.args.start c.as_bytes.result.now) stands over plain
    (OfPut refl (ap (λ (bs : List ℕ). length bs) c.as_bytes.ensures.bytes ∙ c.as_bytes.ensures.whole))
    (subst (λ (bs : List ℕ). IsFree c.args.yard.now (PutLine c.args.name.now c.args.volume.now c.args.start bs)) (sym c.as_bytes.ensures.bytes) c.requires.free))

pub returns-clause-called : goal.returns-clause-called
returns-clause-called g c = λ d stands apart off.
    writes_alone (over_group_at d.world c.args.name.now) (site_number d.world c.args.name.now) c.args.bytes.now c.write_blocks.result c.args.yard.now _ apart
    (bytes_as c.as_bytes.result.now c.args.bytes.now c.write_blocks.result _ c.args.yard.now _ c.as_bytes.ensures.bytes
    (c.write_blocks.ensures.called d stands (ungrouped_at d.world c.args.name.now apart off)))

pub returns-clause-asked : goal.returns-clause-asked
returns-clause-asked g c = λ d stands apart off.
    writes_keep c.as_bytes.result.now c.write_blocks.result _ c.args.yard.now _ (c.write_blocks.ensures.called d stands (ungrouped_at d.world c.args.name.now apart off))
