-- What the header of a log keeps of a site that begins its first line.
use Rattle.std.specs.Prelude.{ℕ, []}
use Rattle.vx_model.specs.declared.state.State.{State}
use Rattle.vx_model.specs.declared.site.Role.TheVariants.{Primary}
use Rattle.vx_model.specs.declared.site.Mark.TheVariants.{Consistent}
use Rattle.vx_model.specs.declared.site.SPhase.TheVariants.{Quiet}
use Rattle.vx_model.specs.Sites.{no_line, first_line}
use Rattle.vx_model.specs.declared.limits.TheConstants.{NO_SITE}

abbrev pub first_state : ℕ → State
first_state site = record {
  line = first_line site;
  top = 1;
  role = Primary;
  mark = Consistent;
  phase = Quiet;
  replay = 0;
  end = 0;
  other = NO_SITE;
  parent = no_line;
  fork = 0;
  links = [];
}
