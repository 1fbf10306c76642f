-- Disks that are made to fail, below a replicated volume group: what it stands for.
use Rattle.std.proofs.Common.{◌<◌, ℕ, ap, arith, sym, subst}
use Rattle.vx_grouped.specs.GroupSites.{site_disks}
use Rattle.vx_diskset.specs.Aboves.{above_site, below_site}
use Rattle.vx_diskset.specs.Stands.{OverStands}
use Rattle.vx_diskset.proofs.OverDisks.{away_asked, away_counts, away_fails, away_stays, fell_asked, fell_counts, fell_fails, fell_stays, origin_above, origin_asked, origin_counts, origin_fails, origin_stays, receiver_above, receiver_asked, receiver_counts, receiver_fails, receiver_stays, same_counts, same_stays}
use Rattle.vx_diskset.proofs.over_set.OverSet.failing.Goals as goal

none_below : {n : ℕ} → n < 0 → ⊥
none_below low = omega (arith, low)

pub fail-founded-requires-clause-there : goal.fail-founded-requires-clause-there
fail-founded-requires-clause-there g c = λ κs lives. subst (λ s. c.args.disk < (site_disks (below_site s)).units) c.in-Origin.is c.requires.there

pub fail-founded-requires-in-Receiver-clause-there : goal.fail-founded-requires-in-Receiver-clause-there
fail-founded-requires-in-Receiver-clause-there g c = λ κs lives. subst (λ s. c.args.disk < (site_disks (below_site s)).units) c.in-Receiver.is c.requires.there

pub fail-idle-requires-after_bounds : goal.fail-idle-requires-after_bounds
fail-idle-requires-after_bounds g c = λ κs lives. subst (λ s. c.args.disk < (site_disks (below_site s)).units) c.in-Deported.is c.requires.there

pub fail-idle-requires-in-Down-after_bounds : goal.fail-idle-requires-in-Down-after_bounds
fail-idle-requires-in-Down-after_bounds g c = λ κs lives. subst (λ s. c.args.disk < (site_disks (below_site s)).units) c.in-Down.is c.requires.there

pub returns-in-Origin-clause-stands : goal.returns-in-Origin-clause-stands
returns-in-Origin-clause-stands g c = origin_fails c.args.self.site c.in-Origin.founded c.fail-founded.result c.in-Origin.is c.fail-founded.ensures.fails.0 c.args.disk c.args.on c.fail-founded.ensures.fails.1

pub returns-in-Receiver-clause-stands : goal.returns-in-Receiver-clause-stands
returns-in-Receiver-clause-stands g c = receiver_fails c.args.self.site c.in-Receiver.founded c.fail-founded-in-Receiver.result c.in-Receiver.is c.fail-founded-in-Receiver.ensures.fails.0 c.fail-founded-in-Receiver.ensures.fails.1 c.args.disk c.args.on c.fail-founded-in-Receiver.ensures.fails.2

pub returns-in-Deported-clause-stands : goal.returns-in-Deported-clause-stands
returns-in-Deported-clause-stands g c = away_fails c.args.self c.in-Deported.idle c.fail-idle.result c.args.disk c.args.on c.fail-idle.ensures.agreed c.fail-idle.ensures.alike c.fail-idle.ensures.down c.fail-idle.ensures.armed c.fail-idle.ensures.disks c.fail-idle.ensures.told c.in-Deported.is

pub returns-in-Down-clause-stands : goal.returns-in-Down-clause-stands
returns-in-Down-clause-stands g c = fell_fails c.args.self c.in-Down.idle c.fail-idle-in-Down.result c.args.disk c.args.on c.fail-idle-in-Down.ensures.agreed c.fail-idle-in-Down.ensures.alike c.fail-idle-in-Down.ensures.down c.fail-idle-in-Down.ensures.armed c.fail-idle-in-Down.ensures.disks c.fail-idle-in-Down.ensures.told c.in-Down.is c.fail-idle-in-Down.ensures.rested

pub returns-in-Gone-clause-stands : goal.returns-in-Gone-clause-stands
returns-in-Gone-clause-stands g c = λ beside n stands. subst (λ s. OverStands beside n s) c.in-Gone.is stands

pub returns-in-Origin-clause-noted : goal.returns-in-Origin-clause-noted
returns-in-Origin-clause-noted g c = origin_stays c.args.self c.in-Origin.founded c.fail-founded.result c.in-Origin.is c.args.disk c.args.on c.fail-founded.ensures.fails.1

pub returns-in-Receiver-clause-noted : goal.returns-in-Receiver-clause-noted
returns-in-Receiver-clause-noted g c = receiver_stays c.args.self c.in-Receiver.founded c.fail-founded-in-Receiver.result c.in-Receiver.is c.args.disk c.args.on c.fail-founded-in-Receiver.ensures.fails.2

pub returns-in-Deported-clause-noted : goal.returns-in-Deported-clause-noted
returns-in-Deported-clause-noted g c = away_stays c.args.self c.in-Deported.idle c.fail-idle.result c.args.disk c.args.on c.fail-idle.ensures.agreed c.fail-idle.ensures.alike c.fail-idle.ensures.down c.fail-idle.ensures.armed c.fail-idle.ensures.disks c.fail-idle.ensures.told c.in-Deported.is

pub returns-in-Down-clause-noted : goal.returns-in-Down-clause-noted
returns-in-Down-clause-noted g c = fell_stays c.args.self c.in-Down.idle c.fail-idle-in-Down.result c.args.disk c.args.on c.fail-idle-in-Down.ensures.agreed c.fail-idle-in-Down.ensures.alike c.fail-idle-in-Down.ensures.down c.fail-idle-in-Down.ensures.armed c.fail-idle-in-Down.ensures.disks c.fail-idle-in-Down.ensures.told c.in-Down.is

pub returns-in-Origin-clause-asked : goal.returns-in-Origin-clause-asked
returns-in-Origin-clause-asked g c = origin_asked c.args.self c.in-Origin.founded c.fail-founded.result c.in-Origin.is c.args.disk c.args.on c.fail-founded.ensures.fails.1

pub returns-in-Receiver-clause-asked : goal.returns-in-Receiver-clause-asked
returns-in-Receiver-clause-asked g c = receiver_asked c.args.self c.in-Receiver.founded c.fail-founded-in-Receiver.result c.in-Receiver.is c.args.disk c.args.on c.fail-founded-in-Receiver.ensures.fails.2

pub returns-in-Deported-clause-asked : goal.returns-in-Deported-clause-asked
returns-in-Deported-clause-asked g c = away_asked c.args.self c.in-Deported.idle c.fail-idle.result c.args.disk c.args.on c.fail-idle.ensures.agreed c.fail-idle.ensures.alike c.fail-idle.ensures.down c.fail-idle.ensures.armed c.fail-idle.ensures.disks c.fail-idle.ensures.told c.in-Deported.is

pub returns-in-Down-clause-asked : goal.returns-in-Down-clause-asked
returns-in-Down-clause-asked g c = fell_asked c.args.self c.in-Down.idle c.fail-idle-in-Down.result c.args.disk c.args.on c.fail-idle-in-Down.ensures.agreed c.fail-idle-in-Down.ensures.alike c.fail-idle-in-Down.ensures.down c.fail-idle-in-Down.ensures.armed c.fail-idle-in-Down.ensures.disks c.fail-idle-in-Down.ensures.told c.in-Down.is

pub returns-in-Origin-clause-later : goal.returns-in-Origin-clause-later
returns-in-Origin-clause-later g c = origin_counts c.args.self c.in-Origin.founded c.fail-founded.result c.in-Origin.is c.args.disk c.args.on c.fail-founded.ensures.fails.1

pub returns-in-Receiver-clause-later : goal.returns-in-Receiver-clause-later
returns-in-Receiver-clause-later g c = receiver_counts c.args.self c.in-Receiver.founded c.fail-founded-in-Receiver.result c.in-Receiver.is c.args.disk c.args.on c.fail-founded-in-Receiver.ensures.fails.2

pub returns-in-Deported-clause-later : goal.returns-in-Deported-clause-later
returns-in-Deported-clause-later g c = away_counts c.args.self c.in-Deported.idle c.fail-idle.result c.args.disk c.args.on c.fail-idle.ensures.agreed c.fail-idle.ensures.alike c.fail-idle.ensures.down c.fail-idle.ensures.armed c.fail-idle.ensures.disks c.fail-idle.ensures.told c.in-Deported.is

pub returns-in-Down-clause-later : goal.returns-in-Down-clause-later
returns-in-Down-clause-later g c = fell_counts c.args.self c.in-Down.idle c.fail-idle-in-Down.result c.args.disk c.args.on c.fail-idle-in-Down.ensures.agreed c.fail-idle-in-Down.ensures.alike c.fail-idle-in-Down.ensures.down c.fail-idle-in-Down.ensures.armed c.fail-idle-in-Down.ensures.disks c.fail-idle-in-Down.ensures.told c.in-Down.is

pub returns-in-Gone-clause-noted : goal.returns-in-Gone-clause-noted
returns-in-Gone-clause-noted g c = same_stays c.args.self _ c.in-Gone.is

pub returns-in-Gone-clause-asked : goal.returns-in-Gone-clause-asked
returns-in-Gone-clause-asked g c = absurd (none_below (subst (λ s. c.args.disk < (site_disks (below_site s)).units) c.in-Gone.is c.requires.there))

pub returns-in-Gone-clause-later : goal.returns-in-Gone-clause-later
returns-in-Gone-clause-later g c = same_counts c.args.self _ c.in-Gone.is

pub returns-in-Origin-clause-above : goal.returns-in-Origin-clause-above
returns-in-Origin-clause-above g c = origin_above c.args.self.site c.in-Origin.founded c.fail-founded.result c.in-Origin.is c.fail-founded.ensures.fails.0

pub returns-in-Receiver-clause-above : goal.returns-in-Receiver-clause-above
returns-in-Receiver-clause-above g c = receiver_above c.args.self.site c.in-Receiver.founded c.fail-founded-in-Receiver.result c.in-Receiver.is c.fail-founded-in-Receiver.ensures.fails.0 c.fail-founded-in-Receiver.ensures.fails.1

pub returns-in-Deported-clause-above : goal.returns-in-Deported-clause-above
returns-in-Deported-clause-above g c = sym (ap (λ s. above_site s) c.in-Deported.is)

pub returns-in-Down-clause-above : goal.returns-in-Down-clause-above
returns-in-Down-clause-above g c = sym (ap (λ s. above_site s) c.in-Down.is)

pub returns-in-Gone-clause-above : goal.returns-in-Gone-clause-above
returns-in-Gone-clause-above g c = sym (ap (λ s. above_site s) c.in-Gone.is)
