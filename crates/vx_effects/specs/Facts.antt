-- What the tests of a line see of a site with its links, as events change it.
use Rattle.std.specs.Prelude.{ℕ, ◌+◌, ◌&&◌, ltb, List, [], map, Option, Some, None, if◌then◌else◌}
use Rattle.vx_history.specs.Admission.{hold, is_holding}
use Rattle.vx_history.specs.Events.{linked_sites}
use Rattle.vx_history.specs.World.{Link, Node}
use Rattle.vx_model.specs.declared.site.Mark.{Mark}
use Rattle.vx_model.specs.declared.site.SiteState.TheVariants.{Down, Up}
use Rattle.vx_order.specs.declared.facts.LinkFacts.{LinkFacts}
use Rattle.vx_order.specs.declared.facts.RvgFacts.{RvgFacts}
use Rattle.vx_order.specs.declared.facts.SiteFacts.{SiteFacts}
use Rattle.vx_events.specs.Facts.{group_fact}
use Rattle.vx_events.specs.GroupLines.{is_over_group}
use Rattle.vx_events.specs.GroupNotes.{note_at}
use Rattle.vx_events.specs.LinkedFacts.{link_facts, links_by, seen_fact}
use Rattle.vx_events.specs.StepsOver.{fact_of_group}

-- the facts of a site by its node, its links and how many sites there are
abbrev pub fact_of : Node → (row : ℕ → Link) → (sites : ℕ) → SiteFacts
fact_of n row sites = record (seen_fact n) { links = links_by n.state (link_facts n row (linked_sites row sites 0 sites)) }

-- the same of a site that may be over a group
abbrev pub over_of : Node → (row : ℕ → Link) → (sites : ℕ) → SiteFacts
over_of n row sites = if is_over_group n then fact_of_group n (note_at n) else fact_of n row sites

-- a link behind a further write of its site, of this number and so many blocks of the log
abbrev pub grown_link : (number blocks : ℕ) → LinkFacts → LinkFacts
grown_link number blocks l = record l { used = if is_holding l.link && ltb (hold l.link) number then l.used + blocks else l.used }

abbrev pub grown_links : (number blocks : ℕ) → List LinkFacts → List LinkFacts
grown_links number blocks links = map (grown_link number blocks) links

abbrev pub last_group : ℕ → Option RvgFacts → Option RvgFacts
last_group number None = None
last_group number (Some rvg) = Some (record rvg { last = number })

abbrev pub halted_group : ℕ → Option RvgFacts → Option RvgFacts
halted_group disk None = None
halted_group disk (Some rvg) = Some (record rvg { halted = Some disk })

abbrev pub marked_group : Mark → Option RvgFacts → Option RvgFacts
marked_group mark None = None
marked_group mark (Some rvg) = Some (record rvg { mark = mark })

-- a site with one more write
abbrev pub logged_fact : (number blocks : ℕ) → SiteFacts → SiteFacts
logged_fact number blocks f = record f { rvg = last_group number f.rvg; links = grown_links number blocks f.links }

-- a site that receives, has no links, and took one more write
abbrev pub received_fact : (number : ℕ) → SiteFacts → SiteFacts
received_fact number f = record f { rvg = last_group number f.rvg }

-- a site that a disk halted in such a write
abbrev pub half_fact : (disk number blocks : ℕ) → SiteFacts → SiteFacts
half_fact disk number blocks f = record f { rvg = halted_group disk f.rvg; links = grown_links number blocks f.links }

-- a site that a disk halted in a line that writes nothing new
abbrev pub halted_fact : (disk : ℕ) → SiteFacts → SiteFacts
halted_fact disk f = record f { rvg = halted_group disk f.rvg }

abbrev pub marked_fact : Mark → SiteFacts → SiteFacts
marked_fact mark f = record f { rvg = marked_group mark f.rvg }

-- a site that went down shows no group and no link
abbrev pub down_fact : SiteFacts → SiteFacts
down_fact f = record f { state = Down; rvg = None; links = [] }

-- a site that came up as this node, with these links, among so many sites
abbrev pub risen_fact : Node → (row : ℕ → Link) → (sites : ℕ) → SiteFacts → SiteFacts
risen_fact n row sites f = record f { state = Up; rvg = Some (group_fact n); links = link_facts n row (linked_sites row sites 0 sites) }
