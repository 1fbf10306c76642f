-- A link in what the tests of a line see of the sites.
use Rattle.std.specs.Prelude.{◌≡◌, ℕ, Bool, ◌==◌, List, Option, Some, None, IsSome, slice_get, slice_set}
use Rattle.std.specs.List.{find, position}
use Rattle.vx_order.specs.declared.facts.SiteFacts.{SiteFacts}
use Rattle.vx_order.specs.declared.facts.LinkFacts.{LinkFacts}
use Rattle.vx_order.specs.Order.{line_refusal}
use Rattle.vx_script.specs.declared.line.ScriptLine.{ScriptLine}
use Rattle.vx_events.specs.Facts.{seat_of}

-- no test refuses the line, where disks are kept in files or in memory
abbrev pub IsUnrefused : List SiteFacts → ScriptLine → Type 0
IsUnrefused sites line = (files : Bool) × (line_refusal sites files line ≡ None)

abbrev pub leads_to : (site : ℕ) → LinkFacts → Bool
leads_to site l = l.link.site == site

-- the place of the link to this site among those of another
abbrev pub place_to : (site : ℕ) → List LinkFacts → Option ℕ
place_to site links = position (leads_to site) links

abbrev pub link_leading : Option SiteFacts → (site : ℕ) → Option LinkFacts
link_leading None to = None
link_leading (Some site) to = find (leads_to to) site.links

-- the link of the site of this number to that of another
abbrev pub fact_between : List SiteFacts → (from to : ℕ) → Option LinkFacts
fact_between sites from to = link_leading (slice_get sites from) to

-- The link of a site to another, by their names: the numbers of the sites, the first one, and the link with its place among those of this site.
pub record FoundLink (sites : List SiteFacts) (from to : List ℕ) : Type 0 where
  pub here : ℕ
  pub there : ℕ
  pub site : SiteFacts
  pub place : ℕ
  pub link : LinkFacts
  pub first : seat_of sites from ≡ Some here
  pub second : seat_of sites to ≡ Some there
  pub site_is : slice_get sites here ≡ Some site
  pub place_is : place_to there site.links ≡ Some place
  pub link_is : slice_get site.links place ≡ Some link

-- a site with another link in a place
abbrev pub site_relinked : SiteFacts → (place : ℕ) → LinkFacts → SiteFacts
site_relinked site place link = record site { links = slice_set site.links place link }

-- the sites with another link in that place, and all else as it was
abbrev pub relinked : (sites : List SiteFacts) → (here : ℕ) → SiteFacts → (place : ℕ) → LinkFacts → List SiteFacts
relinked sites here site place link = slice_set sites here (site_relinked site place link)

-- a link between the sites of two numbers is this one; each other link, and whatever else there is of the sites, is as it was
pub record Put (from to : ℕ) (l : LinkFacts) (old new : List SiteFacts) : Type 0 where
  pub site : SiteFacts
  pub place : ℕ
  pub site_is : slice_get old from ≡ Some site
  pub place_is : place_to to site.links ≡ Some place
  pub new_is : new ≡ relinked old from site place l

-- a site of this number has a link to that of another, in a place of its own
pub record HasPlace (sites : List SiteFacts) (from to : ℕ) : Type 0 where
  pub site : SiteFacts
  pub site_is : slice_get sites from ≡ Some site
  pub placed : IsSome (place_to to site.links)
  pub found : LinkFacts
  pub found_is : fact_between sites from to ≡ Some found

-- the site in a place has the links of this one
pub record HasLinksOf (sites : List SiteFacts) (k : ℕ) (site : SiteFacts) : Type 0 where
  pub other : SiteFacts
  pub there : slice_get sites k ≡ Some other
  pub links : site.links ≡ other.links
