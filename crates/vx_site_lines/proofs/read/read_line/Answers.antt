-- `read_line`: clauses leads, above and asked; what `fetch` asks.
use Rattle.std.proofs.Common.{◌≡◌, ℕ, ap, false, inl, refl, subst}
use Rattle.vx_order.specs.declared.facts.VolumeKind.{VolumeKind}
use Rattle.vx_script.specs.declared.line.ScriptLine.TheVariants.{Read as ReadBlocks}
use Rattle.vx_events.specs.Facts.{site_number}
use Rattle.vx_events.specs.RvgOver.{is_plain_kind}
use Rattle.vx_events.specs.RvgViews.{is_over_rvg}
use Rattle.vx_events.specs.StepsOver.{over_group_at}
use Rattle.vx_yard.proofs.Leading.{read_leads}
use Rattle.vx_yard.proofs.NamedSite.{place_at}
use Rattle.vx_yard.proofs.OverGroup.{both_ways}
use Rattle.vx_yard.proofs.RawSites.{ungrouped_at}
use Rattle.vx_site_lines.proofs.Apart.{reads_alone}
use Rattle.vx_site_lines.proofs.ReadAbove.{data_at}
use Rattle.vx_site_lines.proofs.read.read_line.Goals as goal

pub fetch-requires-clause-free : goal.fetch-requires-clause-free
fetch-requires-clause-free g c = λ κs within. inl c.requires.free

pub returns-clause-leads : goal.returns-clause-leads
returns-clause-leads g c = λ d stands apart off.
    c.fetch.ensures.leads d (ReadBlocks c.args.name.now c.args.volume.now c.args.start c.args.count) stands (ungrouped_at d.world c.args.name.now apart off) (inl refl) c.requires.free
    (λ t at. read_leads d c.args.yard.now c.args.name.now t stands at c.args.volume.now c.args.start c.args.count
    (λ rvg. absurd (both_ways rvg (subst (λ (i : ℕ). is_over_rvg (d.world.nodes i) ≡ false) (place_at d c.args.yard.now c.args.name.now t stands at).number off))) c.requires.free t at)

pub returns-clause-asked : goal.returns-clause-asked
returns-clause-asked g c = λ d stands apart off.
    reads_alone (over_group_at d.world c.args.name.now) (site_number d.world c.args.name.now) c.args.yard.now _ apart (c.fetch.ensures.asked d stands (ungrouped_at d.world c.args.name.now apart off))

pub returns-clause-above : goal.returns-clause-above
returns-clause-above g c = λ d stands over kind.
    c.fetch.ensures.above d (ReadBlocks c.args.name.now c.args.volume.now c.args.start c.args.count) stands over kind (inl refl) c.requires.free
    (λ t at. read_leads d c.args.yard.now c.args.name.now t stands at c.args.volume.now c.args.start c.args.count
    (λ _. ap (λ (k : VolumeKind). is_plain_kind k) (data_at d c.args.yard.now c.args.name.now c.args.volume.now t stands at over kind).1) c.requires.free t at)
