-- Each clause is part of its theorem.
use Rattle.vx_effects.proofs.Notes.{both_here, both_there, noted_effect, noted_fits, worked_shows}
use Rattle.vx_effects.proofs.link_laws.notes_burn_fuses.Goals as goal

pub returns : goal.returns
returns c = record {
  shows = worked_shows;
  fits = noted_fits;
  here = λ d a b s one. both_here d.world.nodes a b s one;
  there = λ d a b s one two. both_there d.world.nodes a b s one two;
  effect = noted_effect;
}
