-- Each clause is part of its theorem.
use Rattle.std.specs.Prelude.{IsTrue}
use Rattle.vx_effects.proofs.GroupAside.{group_ends_change}
use Rattle.vx_effects.proofs.GroupKeeps.{group_ends_keep}
use Rattle.vx_effects.proofs.laws.groups_change_one_site.Goals as goal

pub returns : goal.returns
returns c = record {
  keeps = λ tells d line s fails said new none ends. group_ends_keep (IsTrue tells) d line s fails said new none ends;
  aside = λ tells d line s fails said new ends. group_ends_change (IsTrue tells) d line s fails said new ends;
}
