-- What stands over a group that is up, with it.
use Rattle.std.proofs.Common.{◌∙◌, ap, subst, sym}
use Rattle.vx_ground.specs.Lifted.{laid_volumes}
use Rattle.vx_grouped.specs.declared.group_site.GroupSite.TheVariants.{Up}
use Rattle.vx_diskset.specs.Aboves.{IsAboveOn}
use Rattle.vx_diskset.specs.declared.above.Above.TheVariants.{Origin, Receiver}
use Rattle.vx_diskset.proofs.over_set.with_above.Goals as goal

pub together-founded-requires-after_bounds : goal.together-founded-requires-after_bounds
together-founded-requires-after_bounds g c = λ κs lives. subst (λ a. IsAboveOn a (laid_volumes c.args.laid)) c.in-Origin.is c.requires

pub together-founded-requires-in-Receiver-clause-sound : goal.together-founded-requires-in-Receiver-clause-sound
together-founded-requires-in-Receiver-clause-sound g c = λ κs lives. let both = subst (λ a. IsAboveOn a (laid_volumes c.args.laid)) c.in-Receiver.is c.requires in both.0

pub together-founded-requires-in-Receiver-clause-waits : goal.together-founded-requires-in-Receiver-clause-waits
together-founded-requires-in-Receiver-clause-waits g c = λ κs lives. let both = subst (λ a. IsAboveOn a (laid_volumes c.args.laid)) c.in-Receiver.is c.requires in both.1

pub returns-in-Origin-clause-site : goal.returns-in-Origin-clause-site
returns-in-Origin-clause-site g c = ap (λ l. Up l) c.together-founded.ensures.laid

pub returns-in-Origin-clause-above : goal.returns-in-Origin-clause-above
returns-in-Origin-clause-above g c = ap (λ k. Origin k) c.together-founded.ensures.core ∙ sym c.in-Origin.is

pub returns-in-Receiver-clause-site : goal.returns-in-Receiver-clause-site
returns-in-Receiver-clause-site g c = ap (λ l. Up l) c.together-founded-in-Receiver.ensures.laid

pub returns-in-Receiver-clause-above : goal.returns-in-Receiver-clause-above
returns-in-Receiver-clause-above g c =
    ap (λ k. Receiver k c.together-founded-in-Receiver.result.waiting) c.together-founded-in-Receiver.ensures.core ∙ ap (λ ws. Receiver c.in-Receiver.core ws) c.together-founded-in-Receiver.ensures.waiting ∙ sym c.in-Receiver.is

pub returns-in-Nothing-clause-site : goal.returns-in-Nothing-clause-site
returns-in-Nothing-clause-site g c = absurd (subst (λ a. IsAboveOn a (laid_volumes c.args.laid)) c.in-Nothing.is c.requires)

pub returns-in-Nothing-clause-above : goal.returns-in-Nothing-clause-above
returns-in-Nothing-clause-above g c = sym c.in-Nothing.is
