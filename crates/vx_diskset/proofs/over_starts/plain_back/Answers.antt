-- The disks of a site that had no replicated volume group, behind an import that is refused.
use Rattle.std.proofs.Common.{refl, subst}
use Rattle.vx_diskset.specs.OverStarts.{DarkBack}
use Rattle.vx_diskset.proofs.over_starts.plain_back.Goals as goal

pub returns : goal.returns
returns g c = (subst (λ b. DarkBack b c.args.rested c.args.laid c.dark_back-site.result) c.rests_away-rests.ensures c.dark_back-site.ensures, refl, refl)
