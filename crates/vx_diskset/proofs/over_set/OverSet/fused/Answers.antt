-- The fuse of the disks below a replicated volume group: what it stands for.
use Rattle.std.proofs.Common.{ap, sym}
use Rattle.vx_untold.specs.Shades.{shade_rack}
use Rattle.vx_diskset.specs.Aboves.{above_site}
use Rattle.vx_diskset.proofs.OverDisks.{away_fused, away_up, fell_fused, fell_up, gone_fused, gone_up, origin_above, origin_fused, origin_fuses, origin_set, origin_since, receiver_above, receiver_fused_noted, receiver_fuses, receiver_set, receiver_since, same_counts}
use Rattle.vx_diskset.proofs.over_set.OverSet.fused.Goals as goal

pub returns-in-Origin-clause-fused : goal.returns-in-Origin-clause-fused
returns-in-Origin-clause-fused g c = λ beside n stands up. origin_fuses c.args.self.site c.in-Origin.founded c.fuse-founded.result c.in-Origin.is c.fuse-founded.ensures.fuses.0 c.args.calls c.args.pick c.fuse-founded.ensures.fuses.1 beside n stands

pub returns-in-Receiver-clause-fused : goal.returns-in-Receiver-clause-fused
returns-in-Receiver-clause-fused g c = λ beside n stands up. receiver_fuses c.args.self.site c.in-Receiver.founded c.fuse-founded-in-Receiver.result c.in-Receiver.is c.fuse-founded-in-Receiver.ensures.fuses.0 c.fuse-founded-in-Receiver.ensures.fuses.1 c.args.calls c.args.pick c.fuse-founded-in-Receiver.ensures.fuses.2 beside n stands

pub returns-in-Deported-clause-fused : goal.returns-in-Deported-clause-fused
returns-in-Deported-clause-fused g c = λ beside n stands up. absurd (away_up beside n c.args.self.site c.in-Deported.idle c.in-Deported.is stands up)

pub returns-in-Deported-clause-asked : goal.returns-in-Deported-clause-asked
returns-in-Deported-clause-asked g c = λ beside n stands up. absurd (away_up beside n c.args.self.site c.in-Deported.idle c.in-Deported.is stands up)

pub returns-in-Deported-clause-noted : goal.returns-in-Deported-clause-noted
returns-in-Deported-clause-noted g c = away_fused c.args.calls c.args.self c.in-Deported.idle c.in-Deported.is

pub returns-in-Down-clause-fused : goal.returns-in-Down-clause-fused
returns-in-Down-clause-fused g c = λ beside n stands up. absurd (fell_up beside n c.args.self.site c.in-Down.idle c.in-Down.is stands up)

pub returns-in-Down-clause-asked : goal.returns-in-Down-clause-asked
returns-in-Down-clause-asked g c = λ beside n stands up. absurd (fell_up beside n c.args.self.site c.in-Down.idle c.in-Down.is stands up)

pub returns-in-Down-clause-noted : goal.returns-in-Down-clause-noted
returns-in-Down-clause-noted g c = fell_fused c.args.calls c.args.self c.in-Down.idle c.in-Down.is

pub returns-in-Gone-clause-fused : goal.returns-in-Gone-clause-fused
returns-in-Gone-clause-fused g c = λ beside n stands up. absurd (gone_up beside n c.args.self.site c.in-Gone.is stands)

pub returns-in-Gone-clause-asked : goal.returns-in-Gone-clause-asked
returns-in-Gone-clause-asked g c = λ beside n stands up. absurd (gone_up beside n c.args.self.site c.in-Gone.is stands)

pub returns-in-Gone-clause-noted : goal.returns-in-Gone-clause-noted
returns-in-Gone-clause-noted g c = gone_fused c.args.calls c.args.self c.in-Gone.is

pub returns-in-Origin-clause-noted : goal.returns-in-Origin-clause-noted
returns-in-Origin-clause-noted g c =
    let is_rack = (g.met.R.Rack g.world.𝓛 g.world.𝓜 g.world.𝓡 ((λ s x. x), (λ x. x), (λ x. x), λ x. x)).rack in
    origin_fused c.args.self c.in-Origin.founded c.fuse-founded.result c.in-Origin.is c.args.calls c.args.pick c.fuse-founded.ensures.fuses.1 (shade_rack g.R.Shelf.meaning is_rack)

pub returns-in-Receiver-clause-noted : goal.returns-in-Receiver-clause-noted
returns-in-Receiver-clause-noted g c =
    let is_rack = (g.met.R.Rack g.world.𝓛 g.world.𝓜 g.world.𝓡 ((λ s x. x), (λ x. x), (λ x. x), λ x. x)).rack in
    receiver_fused_noted c.args.self c.in-Receiver.founded c.fuse-founded-in-Receiver.result c.in-Receiver.is c.args.calls c.args.pick c.fuse-founded-in-Receiver.ensures.fuses.2 (shade_rack g.R.Shelf.meaning is_rack)

pub returns-in-Origin-clause-asked : goal.returns-in-Origin-clause-asked
returns-in-Origin-clause-asked g c = λ beside n stands up. origin_set c.args.self c.in-Origin.founded c.fuse-founded.result c.in-Origin.is c.args.calls c.args.pick c.fuse-founded.ensures.fuses.1

pub returns-in-Receiver-clause-asked : goal.returns-in-Receiver-clause-asked
returns-in-Receiver-clause-asked g c = λ beside n stands up. receiver_set c.args.self c.in-Receiver.founded c.fuse-founded-in-Receiver.result c.in-Receiver.is c.args.calls c.args.pick c.fuse-founded-in-Receiver.ensures.fuses.2

pub returns-in-Origin-clause-later : goal.returns-in-Origin-clause-later
returns-in-Origin-clause-later g c = origin_since c.args.self c.in-Origin.founded c.fuse-founded.result c.in-Origin.is c.args.calls c.args.pick c.fuse-founded.ensures.fuses.1

pub returns-in-Receiver-clause-later : goal.returns-in-Receiver-clause-later
returns-in-Receiver-clause-later g c = receiver_since c.args.self c.in-Receiver.founded c.fuse-founded-in-Receiver.result c.in-Receiver.is c.args.calls c.args.pick c.fuse-founded-in-Receiver.ensures.fuses.2

pub returns-in-Deported-clause-later : goal.returns-in-Deported-clause-later
returns-in-Deported-clause-later g c = same_counts c.args.self _ c.in-Deported.is

pub returns-in-Deported-clause-above : goal.returns-in-Deported-clause-above
returns-in-Deported-clause-above g c = sym (ap (λ s. above_site s) c.in-Deported.is)

pub returns-in-Down-clause-later : goal.returns-in-Down-clause-later
returns-in-Down-clause-later g c = same_counts c.args.self _ c.in-Down.is

pub returns-in-Down-clause-above : goal.returns-in-Down-clause-above
returns-in-Down-clause-above g c = sym (ap (λ s. above_site s) c.in-Down.is)

pub returns-in-Gone-clause-later : goal.returns-in-Gone-clause-later
returns-in-Gone-clause-later g c = same_counts c.args.self _ c.in-Gone.is

pub returns-in-Gone-clause-above : goal.returns-in-Gone-clause-above
returns-in-Gone-clause-above g c = sym (ap (λ s. above_site s) c.in-Gone.is)

pub returns-in-Origin-clause-above : goal.returns-in-Origin-clause-above
returns-in-Origin-clause-above g c = origin_above c.args.self.site c.in-Origin.founded c.fuse-founded.result c.in-Origin.is c.fuse-founded.ensures.fuses.0

pub returns-in-Receiver-clause-above : goal.returns-in-Receiver-clause-above
returns-in-Receiver-clause-above g c = receiver_above c.args.self.site c.in-Receiver.founded c.fuse-founded-in-Receiver.result c.in-Receiver.is c.fuse-founded-in-Receiver.ensures.fuses.0 c.fuse-founded-in-Receiver.ensures.fuses.1
