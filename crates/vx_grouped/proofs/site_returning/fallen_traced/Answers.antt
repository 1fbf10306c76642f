-- Disks that fell: as a crash leaves them, or dark.
use Rattle.std.proofs.Common.{◌≡◌, ◌∙◌, sym, subst, IsTrue}
use Rattle.vx_group.specs.Resumes.{CanImport, CanImportBehind}
use Rattle.vx_untold.specs.Shades.{rack_of, shade_meaning, shade_rack}
use Rattle.vx_untold.specs.declared.shade.Shade.TheVariants.{Dark}
use Rattle.vx_grouped.specs.GroupSites.{AreStopped}
use Rattle.vx_grouped.specs.SiteReturns.{ReturnSince, TellsNone}
use Rattle.vx_grouped.proofs.SinceReturns.{dark_armed, dark_can, dark_counts, dark_down, dark_none, return_dark, return_fell, return_then}
use Rattle.vx_grouped.proofs.TraceLemmas.{carried_both}
use Rattle.vx_disk.specs.Racks.{Stopped}
use Rattle.vx_disk.specs.Causes.{OnDisks}
use Rattle.vx_disk.specs.Disks.{Crashed}
use Rattle.vx_grouped.proofs.site_returning.fallen_traced.Goals as goal

pub returns-then-early-clause-stopped : goal.returns-then-early-clause-stopped
returns-then-early-clause-stopped g c = λ early. carried_both (λ m m'. Stopped m m') c.args.rack c.traced-inside.result c.untraced-rack.result c.fall_shaded.new.rack c.traced-inside.ensures c.untraced-rack.ensures.shade c.fall_shaded.ensures.stopped

pub returns-then-early-clause-since : goal.returns-then-early-clause-since
returns-then-early-clause-since g c =
    let is_rack = (g.met.R.Rack g.world.𝓛 g.world.𝓜 g.world.𝓡 ((λ s x. x), (λ x. x), (λ x. x), λ x. x)).rack in
    let racks = shade_rack g.R.Shelf.meaning is_rack in
    return_fell (shade_meaning g.R.Shelf.meaning c.args.rack) (shade_meaning g.R.Shelf.meaning c.untraced-rack.result) 0xffff_ffff_ffff_ffff (racks c.untraced-rack.result) (carried_both (λ m m'. Stopped m m') c.args.rack c.traced-inside.result c.untraced-rack.result c.fall_shaded.new.rack c.traced-inside.ensures c.untraced-rack.ensures.shade c.fall_shaded.ensures.stopped)
    (carried_both (λ m m'. OnDisks m.disks m'.disks (Crashed m.size 0xffff_ffff_ffff_ffff)) c.args.rack c.traced-inside.result c.untraced-rack.result c.fall_shaded.new.rack c.traced-inside.ensures c.untraced-rack.ensures.shade c.fall_shaded.ensures.disks)

pub returns-then-early-clause-counts : goal.returns-then-early-clause-counts
returns-then-early-clause-counts g c = λ d. (carried_both (λ m m'. Stopped m m') c.args.rack c.traced-inside.result c.untraced-rack.result c.fall_shaded.new.rack c.traced-inside.ensures c.untraced-rack.ensures.shade c.fall_shaded.ensures.stopped).counts.disk_faults d

pub returns-then-early-clause-fell : goal.returns-then-early-clause-fell
returns-then-early-clause-fell g c = let stopped = carried_both (λ m m'. Stopped m m') c.args.rack c.traced-inside.result c.untraced-rack.result c.fall_shaded.new.rack c.traced-inside.ensures c.untraced-rack.ensures.shade c.fall_shaded.ensures.stopped in record { down = stopped.down; unarmed = stopped.unarmed }

pub returns-then-early-clause-can : goal.returns-then-early-clause-can
returns-then-early-clause-can g c = carried_both (λ m m'. CanImportBehind m → CanImport m') c.args.rack c.traced-inside.result c.untraced-rack.result c.fall_shaded.new.rack c.traced-inside.ensures c.untraced-rack.ensures.shade c.fall_shaded.ensures.can

pub returns-then-early-clause-told : goal.returns-then-early-clause-told
returns-then-early-clause-told g c = c.untraced-rack.ensures.told

pub returns-else-early-clause-since : goal.returns-else-early-clause-since
returns-else-early-clause-since g c =
    let is_rack = (g.met.R.Rack g.world.𝓛 g.world.𝓜 g.world.𝓡 ((λ s x. x), (λ x. x), (λ x. x), λ x. x)).rack in
    let racks = shade_rack g.R.Shelf.meaning is_rack in
    subst (λ s. ReturnSince (shade_meaning g.R.Shelf.meaning c.args.rack) (shade_meaning g.R.Shelf.meaning s)) (sym c.darkened.ensures)
    (return_then (shade_meaning g.R.Shelf.meaning c.args.rack) (shade_meaning g.R.Shelf.meaning c.untraced-rack.result) (shade_meaning g.R.Shelf.meaning (Dark (rack_of c.untraced-rack.result)))
    (return_fell (shade_meaning g.R.Shelf.meaning c.args.rack) (shade_meaning g.R.Shelf.meaning c.untraced-rack.result) 0xffff_ffff_ffff_ffff (racks c.untraced-rack.result) (carried_both (λ m m'. Stopped m m') c.args.rack c.traced-inside.result c.untraced-rack.result c.fall_shaded.new.rack c.traced-inside.ensures c.untraced-rack.ensures.shade c.fall_shaded.ensures.stopped)
    (carried_both (λ m m'. OnDisks m.disks m'.disks (Crashed m.size 0xffff_ffff_ffff_ffff)) c.args.rack c.traced-inside.result c.untraced-rack.result c.fall_shaded.new.rack c.traced-inside.ensures c.untraced-rack.ensures.shade c.fall_shaded.ensures.disks))
    (return_dark g.R.Shelf.meaning c.untraced-rack.result))

pub returns-else-early-clause-counts : goal.returns-else-early-clause-counts
returns-else-early-clause-counts g c = λ d.
    subst (λ s. (shade_meaning g.R.Shelf.meaning s).disk_faults d ≡ (shade_meaning g.R.Shelf.meaning c.args.rack).disk_faults d) (sym c.darkened.ensures)
    (dark_counts g.R.Shelf.meaning c.untraced-rack.result d ∙ (carried_both (λ m m'. Stopped m m') c.args.rack c.traced-inside.result c.untraced-rack.result c.fall_shaded.new.rack c.traced-inside.ensures c.untraced-rack.ensures.shade c.fall_shaded.ensures.stopped).counts.disk_faults d)

pub returns-else-early-clause-fell : goal.returns-else-early-clause-fell
returns-else-early-clause-fell g c =
    let stopped = carried_both (λ m m'. Stopped m m') c.args.rack c.traced-inside.result c.untraced-rack.result c.fall_shaded.new.rack c.traced-inside.ensures c.untraced-rack.ensures.shade c.fall_shaded.ensures.stopped in
    subst (λ s. AreStopped (shade_meaning g.R.Shelf.meaning s)) (sym c.darkened.ensures)
    (record { down = dark_down g.R.Shelf.meaning c.untraced-rack.result ∙ stopped.down; unarmed = dark_armed g.R.Shelf.meaning c.untraced-rack.result ∙ stopped.unarmed })

pub returns-else-early-clause-dark : goal.returns-else-early-clause-dark
returns-else-early-clause-dark g c = λ late. subst (λ s. TellsNone (shade_meaning g.R.Shelf.meaning s)) (sym c.darkened.ensures) (dark_none g.R.Shelf.meaning c.untraced-rack.result)

pub returns-else-early-clause-can : goal.returns-else-early-clause-can
returns-else-early-clause-can g c = λ behind. subst (λ s. CanImport (shade_meaning g.R.Shelf.meaning s)) (sym c.darkened.ensures) (dark_can g.R.Shelf.meaning c.untraced-rack.result)

pub returns-else-early-clause-told : goal.returns-else-early-clause-told
returns-else-early-clause-told g c = λ told. c.untraced-rack.ensures.told (subst (λ s. IsTrue (g.R.Shelf.meaning (rack_of s)).tells) c.darkened.ensures told)
