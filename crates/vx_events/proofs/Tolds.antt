-- What is told to a line.
use Rattle.std.proofs.Common.{Bool, true, false, inl, inr}
use Rattle.vx_history.specs.Doubts.{Doubted}
use Rattle.vx_script.specs.declared.line.ScriptLine.{ScriptLine}
use Rattle.vx_events.specs.Fails.{Fails}
use Rattle.vx_events.specs.Lines.{IsDone, is_of_links}
use Rattle.vx_events.specs.StepsOver.{WorksOver, group_place}
use Rattle.vx_events.specs.declared.said.Said.{Said}
use Rattle.vx_events.proofs.GroupTold.{finds_told, group_told}
use Rattle.vx_events.proofs.LineTold.{counts_told, kind_told}

-- what a line came to where contents are told it came to where even more is told
module _ {T U : Type 0} (f : U → T) where
  pub done_told : (d : Doubted) (line : ScriptLine) (fails : Fails) (said : Said) (new : Doubted) → IsDone T d line fails said new → IsDone U d line fails said new
  done_told d line fails said new x =
      record { ends = kind_told f (is_of_links line) d line fails said new x.ends; counts = counts_told f d.world line said x.counts; works = x.works; calls = x.calls }

  pub works_told : (group : Bool) (d : Doubted) (line : ScriptLine) (fails : Fails) (said : Said) (new : Doubted) → WorksOver group T d line fails said new → WorksOver group U d line fails said new
  works_told true d line fails said new x = group_told f d line (group_place d.world line) fails said new x
  works_told false d line fails said new (inl x) = inl (done_told d line fails said new x)
  works_told false d line fails said new (inr x) = inr (finds_told f d line (group_place d.world line) fails said new x)
