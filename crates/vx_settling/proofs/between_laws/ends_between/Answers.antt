-- Each clause is its theorem.
use Rattle.std.proofs.Common.{◌≡◌, true}
use Rattle.vx_settling.proofs.Moving.{line_finds, line_short, moved_fits}
use Rattle.vx_settling.proofs.between_laws.ends_between.Goals as goal

pub returns : goal.returns
returns c = record {
  finds = λ told d middle p s moves. line_finds (told ≡ true) d middle p s moves;
  short = λ told d middle p s moves. line_short (told ≡ true) d middle p s moves;
  fits = moved_fits;
}
