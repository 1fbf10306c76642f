-- What the tests of a line look at of a site whose disks are a group, as lines change it.
use Rattle.std.specs.Prelude.{true, List, [], None}
use Rattle.vx_model.specs.declared.site.SiteState.TheVariants.{Up, Deported}
use Rattle.vx_order.specs.declared.facts.SiteFacts.{SiteFacts}
use Rattle.vx_order.specs.declared.facts.VolumeFacts.{VolumeFacts}

-- a site that is up as a group with these volumes
abbrev pub group_up_facts : List VolumeFacts → SiteFacts → SiteFacts
group_up_facts volumes f = record f { state = Up; grouped = true; volumes = volumes; rvg = None }

-- the same site, with these volumes
abbrev pub with_table : List VolumeFacts → SiteFacts → SiteFacts
with_table volumes f = record f { volumes = volumes }

-- one that was deported: nothing is seen of a replicated volume group that it may have, and of its links
abbrev pub deported_facts : SiteFacts → SiteFacts
deported_facts f = record f { state = Deported; rvg = None; links = [] }
