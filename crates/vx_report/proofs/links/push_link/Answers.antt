-- `push_link`: its result.
use Rattle.std.proofs.Common.{◌≡◌, ℕ, List, [], ◌∷◌, ◌++◌, append_assoc, codes}
use Rattle.std.specs.Fmt.{decimal}
use Rattle.vx_report.proofs.links.push_link.Goals as goal

-- The parts of the line are put one after another.
parts : (out way space mode a net b stored end : List ℕ)
    → ((out ++ way) ++ space) ++ mode ++ (a ++ net ++ b ++ stored ++ end) ≡ out ++ (way ++ (space ++ mode) ++ a ++ net ++ b ++ stored ++ end)
parts out way space mode a net b stored end = simp append_assoc

pub returns : goal.returns
returns c =
    rw (c.in_ok-push_link_counts.ensures, c.in_ok-push_mode.ensures, c.in_ok-push_text.ensures, c.in_ok-push_link_way.ensures)
    (parts _ _ (32 ∷ []) _ (codes " net ") (decimal c.args.link.now.net) (codes " stored ") (decimal c.args.link.now.stored) (10 ∷ []))
