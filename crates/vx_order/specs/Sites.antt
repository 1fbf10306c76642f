-- The sites that a line names, and the tests of how they stand.
use Rattle.std.specs.Prelude.{ℕ, Bool, false, not, ◌||◌, List, [], ◌∷◌, Option, Some, None, if◌then◌else◌}
use Rattle.std.specs.List.{find}
use Rattle.std.specs.Str.{bytes_eq}
use Rattle.vx_model.specs.declared.no.No.{No}
use Rattle.vx_model.specs.declared.no.No.TheVariants.{Unknown, Down as NotUp, Halted}
use Rattle.vx_model.specs.declared.no.Named.TheVariants.{Of}
use Rattle.vx_model.specs.Sites.{is_up, is_bare}
use Rattle.vx_order.specs.Tests.{when, first_said_no}
use Rattle.vx_order.specs.declared.facts.SiteFacts.{SiteFacts}
use Rattle.vx_order.specs.declared.facts.VolumeFacts.{VolumeFacts}
use Rattle.vx_order.specs.declared.facts.RvgFacts.{RvgFacts}
use Rattle.vx_order.specs.declared.subject.Need.{Need}
use Rattle.vx_order.specs.declared.subject.Need.TheVariants.{Nothing, FirstUp, FirstUpOrBare, BothUp, SecondUpOrBare}
use Rattle.vx_order.specs.declared.subject.Halt.{Halt}
use Rattle.vx_order.specs.declared.subject.Halt.TheVariants.{Neither, First, Both}

-- the site of this name
abbrev pub site_named : List SiteFacts → List ℕ → Option SiteFacts
site_named sites name = find (λ site. bytes_eq site.name name) sites

-- the site that a line names
abbrev pub named_facts : List SiteFacts → Option (List ℕ) → Option SiteFacts
named_facts sites None = None
named_facts sites (Some name) = site_named sites name

-- a known site is not up
abbrev pub site_off : Option SiteFacts → Bool
site_off None = false
site_off (Some site) = not (is_up site.state)

-- a known site is neither up nor bare
abbrev pub site_gone : Option SiteFacts → Bool
site_gone None = false
site_gone (Some site) = not (is_up site.state || is_bare site.state)

-- the volume of this name, which only an up site has
abbrev pub volume_of : Option SiteFacts → List ℕ → Option VolumeFacts
volume_of None name = None
volume_of (Some site) name = if is_up site.state then find (λ volume. bytes_eq volume.name name) site.volumes else None

-- the replicated volume group, which only an up site has
abbrev pub rvg_of : Option SiteFacts → Option RvgFacts
rvg_of None = None
rvg_of (Some site) = if is_up site.state then site.rvg else None

-- 1: the site that the line names is not known
abbrev pub unknown_one : Option (List ℕ) → Option SiteFacts → Option No
unknown_one None site = None
unknown_one (Some name) None = Some (Unknown (Of name))
unknown_one (Some name) (Some site) = None

-- 6: a site that has to be up is not
abbrev pub down_by : Need → Option SiteFacts → Option SiteFacts → Option No
down_by Nothing first second = None
down_by FirstUp first second = when (site_off first) NotUp
down_by FirstUpOrBare first second = when (site_gone first) NotUp
down_by BothUp first second = when (site_off first || site_off second) NotUp
down_by SecondUpOrBare first second = when (site_off first || site_gone second) NotUp

abbrev pub halted_disk : Option ℕ → Option No
halted_disk None = None
halted_disk (Some disk) = Some (Halted disk)

abbrev pub halted_rvg : Option RvgFacts → Option No
halted_rvg None = None
halted_rvg (Some rvg) = halted_disk rvg.halted

-- 20: the site is halted
abbrev pub halted_one : Option SiteFacts → Option No
halted_one site = halted_rvg (rvg_of site)

-- 20: a site that must not be halted is, the first one first
abbrev pub halted_by : Halt → Option SiteFacts → Option SiteFacts → Option No
halted_by Neither first second = None
halted_by First first second = halted_one first
halted_by Both first second = first_said_no (halted_one first ∷ halted_one second ∷ [])
