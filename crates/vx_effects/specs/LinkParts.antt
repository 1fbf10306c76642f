-- What the tests of a line see of the sites of a link that is made, and what the header of a log keeps of it.
use Rattle.std.specs.Prelude.{ℕ, ◌++◌, ◌∷◌, List, [], map, eqb, Option, Some, None, if◌then◌else◌}
use Rattle.vx_history.specs.Doubts.{Doubted}
use Rattle.vx_history.specs.Steps.{worked_on}
use Rattle.vx_model.specs.declared.history.Line.{Line}
use Rattle.vx_model.specs.declared.site.Mark.TheVariants.{Inconsistent}
use Rattle.vx_model.specs.declared.site.Role.TheVariants.{Secondary}
use Rattle.vx_model.specs.declared.state.KeptLink.{KeptLink}
use Rattle.vx_order.specs.declared.facts.LinkFacts.{LinkFacts}
use Rattle.vx_order.specs.declared.facts.RvgFacts.{RvgFacts}
use Rattle.vx_order.specs.declared.facts.SiteFacts.{SiteFacts}

abbrev pub joined_group : (line parent : Line) → Option RvgFacts → Option RvgFacts
joined_group line parent None = None
joined_group line parent (Some rvg) =
    Some (record rvg { role = Secondary; line = line; parent = parent; mark = Inconsistent; low = 1; last = 0 })

-- a site that came to this line behind an empty log, as a receiver
abbrev pub joined_fact : (line parent : Line) → SiteFacts → SiteFacts
joined_fact line parent f = record f { rvg = joined_group line parent f.rvg }

-- a site with one link more, behind the others
abbrev pub further_fact : LinkFacts → SiteFacts → SiteFacts
further_fact l f = record f { links = f.links ++ l ∷ [] }

-- the links that a header keeps, with this one in place of the one to its site
abbrev pub kept_over : KeptLink → List KeptLink → List KeptLink
kept_over x links = map (λ l. if eqb l.site x.site then x else l) links

-- the world with what a line notes of two sites whose disks it may have written
abbrev pub noted_both : Doubted → (a b : ℕ) → Doubted
noted_both d a b = record d { world = worked_on (worked_on d.world a) b }
