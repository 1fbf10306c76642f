-- What the tests of a line see of the world with its links and its packets, and of the volumes of groups over which sites have their replicated volume groups.
use Rattle.std.specs.Prelude.{ℕ, Bool, List, [], ◌∷◌, length, Option, if◌then◌else◌}
use Rattle.vx_history.specs.Admission.{is_holding}
use Rattle.vx_history.specs.Events.{linked_sites, used_above}
use Rattle.vx_history.specs.LinkForms.{plain_link}
use Rattle.vx_history.specs.World.{Node, Link, World}
use Rattle.vx_model.specs.declared.no.No.{No}
use Rattle.vx_model.specs.declared.site.SiteState.{SiteState}
use Rattle.vx_model.specs.declared.site.SiteState.TheVariants.{Bare, Up, Deported, Down}
use Rattle.vx_order.specs.declared.facts.SiteFacts.{SiteFacts}
use Rattle.vx_order.specs.declared.facts.LinkFacts.{LinkFacts}
use Rattle.vx_order.specs.Order.{line_refusal}
use Rattle.vx_order.specs.Packets.{packet_unknown}
use Rattle.vx_script.specs.declared.line.ScriptLine.{ScriptLine}
use Rattle.vx_script.specs.declared.line.ScriptLine.TheVariants.{Deliver}
use Rattle.vx_events.specs.Facts.{site_fact, values_from}
use Rattle.vx_events.specs.RvgViews.{is_over_rvg, table_at}

-- the blocks of its site's log that a link needs: those of the numbers above its hold, where it needs any
abbrev pub needed_by : Node → (s : ℕ) → Link → ℕ
needed_by n s l = if is_holding (plain_link s l) then used_above n s l else 0

-- a link to site s
abbrev pub link_fact : Node → (s : ℕ) → Link → LinkFacts
link_fact n s l = record { link = plain_link s l; used = needed_by n s l }

abbrev pub link_facts : Node → (ℕ → Link) → List ℕ → List LinkFacts
link_facts n row [] = []
link_facts n row (s ∷ ss) = link_fact n s (row s) ∷ link_facts n row ss

-- only a site that is up shows its links
abbrev pub links_by : SiteState → List LinkFacts → List LinkFacts
links_by Bare links = []
links_by Up links = links
links_by Deported links = []
links_by Down links = []

-- the links of site i in the order of their making
abbrev pub links_of_site : World → ℕ → List LinkFacts
links_of_site w i = link_facts (w.nodes i) (w.links i) (linked_sites (w.links i) w.sites 0 w.sites)

-- a site that is over no group without a replicated volume group
abbrev pub seen_fact : Node → SiteFacts
seen_fact n = record (site_fact n) { grouped = is_over_rvg n; volumes = table_at n }

-- such sites in the order of their numbers, without their links
abbrev pub seen_facts : World → List SiteFacts
seen_facts w = values_from (λ i. seen_fact (w.nodes i)) 0 w.sites

abbrev pub linked_fact : World → ℕ → SiteFacts
linked_fact w i = record (seen_fact (w.nodes i)) { links = links_by (w.nodes i).state (links_of_site w i) }

-- the sites in the order of their numbers, with their links
abbrev pub linked_facts : World → List SiteFacts
linked_facts w = values_from (λ i. linked_fact w i) 0 w.sites

-- the first refusal of a line before it works
abbrev pub refused_by : World → Bool → ScriptLine → Option No
refused_by w files (Deliver number) = packet_unknown (length w.packets) number
refused_by w files other = line_refusal (linked_facts w) files other
