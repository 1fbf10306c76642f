-- The words that stand in several lines.
use Rattle.std.specs.Prelude.{ℕ, ◌+◌, List, [], ◌∷◌, ◌++◌, codes}
use Rattle.std.specs.Fmt.{decimal}
use Rattle.vx_model.specs.declared.no.SiteName.{SiteName}
use Rattle.vx_model.specs.declared.no.SiteName.TheVariants.{Known, Number}
use Rattle.vx_model.specs.declared.no.Named.{Named}
use Rattle.vx_model.specs.declared.no.Named.TheVariants.{Of, Number as Numbered}
use Rattle.vx_model.specs.declared.no.Counted.{Counted}
use Rattle.vx_model.specs.declared.no.Counted.TheVariants.{Sites, Disks, Blocks, Volumes, Plexes, Subdisks, Links, Threads, Calls, Number as AnyNumber}

-- the name of a site, or `#` and its number
abbrev pub site_name_text : SiteName → List ℕ
site_name_text (Known name) = name
site_name_text (Number number) = codes "#" ++ decimal number

-- what is unknown: a name, or a number in decimals
abbrev pub named_text : Named → List ℕ
named_text (Of name) = name
named_text (Numbered number) = decimal number

-- what there is a greatest count of
abbrev pub counted_text : Counted → List ℕ
counted_text Sites = codes "sites"
counted_text Disks = codes "disks"
counted_text Blocks = codes "blocks"
counted_text Volumes = codes "volumes"
counted_text Plexes = codes "plexes"
counted_text Subdisks = codes "subdisks"
counted_text Links = codes "links"
counted_text Threads = codes "threads"
counted_text Calls = codes "calls"
counted_text AnyNumber = codes "number"

-- the lines of items that are numbered from `number` on
abbrev pub numbered : {A : Type 0} → (ℕ → A → List ℕ) → ℕ → List A → List ℕ
numbered line number [] = []
numbered line number (item ∷ items) = line number item ++ numbered line (number + 1) items
