-- The group that a group commit begins with.
use Rattle.std.proofs.Common.{◌∙◌}
use Rattle.vx_rvg.proofs.StagedStands.{none_staged}
use Rattle.vx_rvg.proofs.WriteCommit.{sound_staged}
use Rattle.vx_rvg.proofs.group.Rvg.begin.Goals as goal

pub invariant_of-result : goal.invariant_of-result
invariant_of-result g c = record {
  sound = sound_staged c.args.self.core (g.S.Shelf.meaning c.args.self.shelf) (c.args.self.sound.idle c.requires.running c.requires.up) c.args.self.sound;
  counted = c.waiting-waiting.ensures ∙ c.args.self.sound.waiting;
}

pub returns-clause-none : goal.returns-clause-none
returns-clause-none g c = c.args.self.sound.idle c.requires.running c.requires.up

pub returns-clause-staged : goal.returns-clause-staged
returns-clause-staged g c h stands = none_staged c.args.self.core h (g.S.Shelf.meaning c.args.self.shelf) stands
