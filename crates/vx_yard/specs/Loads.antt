-- What sites put together, where one of them lets go what it has.
use Rattle.std.specs.Prelude.{◌≡◌, ℕ, List, None, slice_set}
use Rattle.vx_model.specs.declared.no.No.{No}
use Rattle.vx_model.specs.declared.no.No.TheVariants.{Down}
use Rattle.vx_packet.specs.Assemblies.{Assembled}

-- the place of this site has nothing in assembly any more, and the others are as they were
pub record LetGo (s : ℕ) (old new : List Assembled) : Type 0 where
  pub assembly : Assembled
  pub none : assembly.held ≡ None
  pub is : new ≡ slice_set old s assembly

-- the same where a refusal says that the site is down, and else all are as they were
abbrev pub LetGoBy : No → ℕ → List Assembled → List Assembled → Type 0
LetGoBy Down s old new = LetGo s old new
LetGoBy other s old new = new ≡ old
