-- Disks by themselves that are made to fail.
use Rattle.std.proofs.Common.{◌≡◌, ◌≢◌, ◌∙◌, ℕ, IsTrue, subst}
use Rattle.std.specs.Prelude.{◌<◌}
use Rattle.vx_disk.specs.Causes.{WithDisks}
use Rattle.vx_disk.specs.Disks.{Untouched}
use Rattle.vx_disk.specs.Racks.{Alike}
use Rattle.vx_group.specs.Resumes.{CanImport}
use Rattle.vx_group.proofs.FallenLemmas.{alike_can}
use Rattle.vx_untold.specs.Shades.{rack_of, shade_meaning}
use Rattle.vx_grouped.proofs.ImportFactLemmas.{fact_import}
use Rattle.vx_logimport.specs.Rests.{LogsTell}
use Rattle.vx_grouped.proofs.TellLemmas.{alike_tells}
use Rattle.vx_grouped.proofs.TraceLemmas.{carried_both, carried_on}
use Rattle.vx_grouped.proofs.racking.fail_idle.Goals as goal

pub returns-clause-alike : goal.returns-clause-alike
returns-clause-alike g c = carried_both (λ m m'. Alike m m') c.args.idle.rack c.traced-inside.result c.of.result.rack c.fail.new.self c.traced-inside.ensures (c.of.ensures.rack ∙ c.untraced.ensures.shade) c.fail.ensures.alike

pub returns-clause-down : goal.returns-clause-down
returns-clause-down g c = carried_both (λ m m'. m'.down ≡ m.down) c.args.idle.rack c.traced-inside.result c.of.result.rack c.fail.new.self c.traced-inside.ensures (c.of.ensures.rack ∙ c.untraced.ensures.shade) c.fail.ensures.down

pub returns-clause-armed : goal.returns-clause-armed
returns-clause-armed g c = carried_both (λ m m'. m'.armed ≡ m.armed) c.args.idle.rack c.traced-inside.result c.of.result.rack c.fail.new.self c.traced-inside.ensures (c.of.ensures.rack ∙ c.untraced.ensures.shade) c.fail.ensures.armed

pub returns-clause-disks : goal.returns-clause-disks
returns-clause-disks g c = carried_both (λ m m'. WithDisks m.disks m'.disks (λ o n. Untouched o n × (n.failing c.args.disk ≡ c.args.on) × ((u : ℕ) → u ≢ c.args.disk → n.failing u ≡ o.failing u))) c.args.idle.rack c.traced-inside.result c.of.result.rack c.fail.new.self c.traced-inside.ensures (c.of.ensures.rack ∙ c.untraced.ensures.shade) c.fail.ensures.disks

pub returns-clause-told : goal.returns-clause-told
returns-clause-told g c = λ told. c.untraced.ensures.told (subst (λ s. IsTrue (g.R.Shelf.meaning (rack_of s)).tells) c.of.ensures.rack told)

pub fail-requires : goal.fail-requires
fail-requires g c = carried_on (λ m. c.args.disk < m.units) c.args.idle.rack c.traced-inside.result c.traced-inside.ensures c.requires.disk

pub of-requires-clause-can : goal.of-requires-clause-can
of-requires-clause-can g c = λ κs within agreed.
    carried_both (λ m m'. CanImport m → CanImport m') c.args.idle.rack c.traced-inside.result c.untraced.result c.fail.new.self c.traced-inside.ensures c.untraced.ensures.shade (alike_can _ _ c.fail.ensures.alike) (fact_import (shade_meaning g.R.Shelf.meaning c.args.idle.rack) (c.args.idle.can agreed))

pub of-requires-clause-tells : goal.of-requires-clause-tells
of-requires-clause-tells g c = λ κs within r agreed is.
    carried_both (λ m m'. LogsTell r m → LogsTell r m') c.args.idle.rack c.traced-inside.result c.untraced.result c.fail.new.self c.traced-inside.ensures c.untraced.ensures.shade (alike_tells r _ _ c.fail.ensures.alike) (c.args.idle.tells r agreed is)
