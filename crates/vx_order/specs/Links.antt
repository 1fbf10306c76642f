-- The links of a site, by the numbers of the sites to which they go.
use Rattle.std.specs.Prelude.{ℕ, ◌==◌, List, length, Option, Some, None, slice_get, if◌then◌else◌}
use Rattle.std.specs.List.{find, position}
use Rattle.std.specs.Str.{bytes_eq}
use Rattle.vx_model.specs.declared.no.SiteName.{SiteName}
use Rattle.vx_model.specs.declared.no.SiteName.TheVariants.{Known, Number}
use Rattle.vx_model.specs.Sites.{is_up}
use Rattle.vx_order.specs.declared.facts.SiteFacts.{SiteFacts}
use Rattle.vx_order.specs.declared.facts.LinkFacts.{LinkFacts}

-- the number of the site that a line names
abbrev pub place_named : List SiteFacts → Option (List ℕ) → Option ℕ
place_named sites None = None
place_named sites (Some name) = position (λ site. bytes_eq site.name name) sites

abbrev pub named_at : Option SiteFacts → ℕ → SiteName
named_at None number = Number number
named_at (Some site) number = Known site.name

-- the name of the site of this number, or the number where there is none
abbrev pub site_name : List SiteFacts → ℕ → SiteName
site_name sites number = named_at (slice_get sites number) number

abbrev pub link_to : List LinkFacts → Option ℕ → Option LinkFacts
link_to links None = None
link_to links (Some number) = find (λ l. l.link.site == number) links

-- the link of a site, which only an up site has, to the one of this number
abbrev pub link_towards : Option SiteFacts → Option ℕ → Option LinkFacts
link_towards None there = None
link_towards (Some site) there = if is_up site.state then link_to site.links there else None

-- how many links a site has
abbrev pub link_count : Option SiteFacts → ℕ
link_count None = 0
link_count (Some site) = if is_up site.state then length site.links else 0
