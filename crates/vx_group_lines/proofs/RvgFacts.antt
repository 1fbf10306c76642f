-- What the tests see of a site over a group that got a replicated volume group.
use Rattle.std.proofs.Common.{◌≡◌, ◌∙◌, ◌++◌, ℕ, Bool, true, false, List, [], ◌∷◌, length, map, ap, sym, refl}
use Rattle.std.specs.Prelude.{Option, Some, None, if◌then◌else◌}
use Rattle.vx_model.specs.declared.site.SiteState.{SiteState}
use Rattle.vx_model.specs.declared.site.SiteState.TheVariants.{Up as IsUp}
use Rattle.vx_model.specs.declared.state.State.{State}
use Rattle.vx_disk.specs.Shelf.{Meaning}
use Rattle.vx_config.specs.declared.config.Config.{Config}
use Rattle.vx_history.specs.Events.{linked_sites}
use Rattle.vx_history.specs.Groups.{GroupNode}
use Rattle.vx_history.specs.KeptLinks.{kept_links}
use Rattle.vx_history.specs.World.{Link, Node, Volume, World}
use Rattle.vx_kept.specs.Cleans.{at_serial}
use Rattle.vx_rvg.specs.Views.{Core, last_of}
use Rattle.vx_diskset.specs.Holds.{KeptBeside, header_links, state_with}
use Rattle.vx_diskset.specs.Stands.{IsUpAt}
use Rattle.vx_order.specs.declared.facts.LinkFacts.{LinkFacts}
use Rattle.vx_order.specs.declared.facts.RvgFacts.{RvgFacts}
use Rattle.vx_order.specs.declared.facts.SiteFacts.{SiteFacts}
use Rattle.vx_order.specs.declared.facts.VolumeFacts.{VolumeFacts}
use Rattle.vx_events.specs.Facts.{group_by, group_fact, volume_fact}
use Rattle.vx_events.specs.GroupNotes.{note_at}
use Rattle.vx_events.specs.GroupViews.{config_of, volumes_of}
use Rattle.vx_events.specs.LinkedFacts.{link_facts, linked_fact, links_by, links_of_site, seen_fact}
use Rattle.vx_events.specs.RvgViews.{is_over_rvg, data_facts, data_seen, data_units, kinds_by, others_by, others_of, over_table, table_at}
use Rattle.vx_events.specs.StepsOver.{fact_of_group, fact_over}
use Rattle.vx_above.proofs.SeenSites.{group_seen}
use Rattle.vx_yard.specs.Changes.{up_group}
use Rattle.vx_group_lines.specs.Noting.{made_facts}
use Rattle.vx_model.specs.declared.units.Units.{Units}
use Rattle.vx_config.specs.declared.entry.VolumeEntry.{VolumeEntry}
use Rattle.vx_history.specs.Volumes.{as_volume}
use Rattle.vx_events.specs.RvgFits.{config_rvg, data_at, data_of}
use Rattle.vx_events.proofs.OverSeats.{fact_apart}
use Rattle.vx_events.specs.GroupLines.{is_over_group}

-- ---- no links

none_linked : (row : ℕ → Link) (ss : List ℕ) → kept_links row ss ≡ [] → (n : Node) → link_facts n row ss ≡ []
none_linked row [] none n = refl
none_linked row (s ∷ ss) none n = absurd (cc)

links_none : (w : World) (s : ℕ) → header_links w s ≡ [] → links_of_site w s ≡ []
links_none w s none = none_linked (w.links s) (linked_sites (w.links s) w.sites 0 w.sites) none (w.nodes s)

-- ---- the replicated volume group

-- as it comes up: with no write, and no call failed
pub up_seen : (beside : KeptBeside) (k : Node) (core : Core) (m : Meaning) → IsUpAt beside k core m → k.halted ≡ None → length k.log ≡ k.safe → up_group core.log.header.state (last_of core) core.log.ring ≡ group_fact k
up_seen beside k core m it running whole =
    ap (λ (t : State). up_group t (last_of core) core.log.ring) it.kept ∙ ap (λ (last : ℕ). up_group (state_with k it.found) last core.log.ring) it.head
    ∙ group_seen k core.log.ring it.found (record { up = it.state; running = running; whole = whole; low = it.low; ring = it.ring })

-- ---- the site

abbrev seen_with : Node → SiteState → List VolumeFacts → Option RvgFacts → List LinkFacts → SiteFacts
seen_with k state volumes rvg links = record { name = k.name; state = state; disks = k.disks; blocks = k.blocks; grouped = true; volumes = volumes; rvg = rvg; links = links }

-- the data volumes of the site are those of the configuration
pub data_same : (vs : List VolumeEntry) (places : List ℕ) → data_facts vs places (map as_volume (map (data_at vs) places)) ≡ map (data_seen vs) places
data_same vs [] = refl
data_same vs (p ∷ places) = ap (λ (fs : List VolumeFacts). data_seen vs p ∷ fs) (data_same vs places)

module _ (w : World) (s : ℕ) (n k : Node) (note gained : GroupNode) (core : Core) (c : Config) (units : Units) (at : w.nodes s ≡ k) (noted : note_at k ≡ gained) (config : config_of gained.config ≡ Some (at_serial 0 c)) (up : k.state ≡ IsUp)
    (over : is_over_rvg k ≡ true) (apart : is_over_group k ≡ false) (rvg : c.rvg ≡ Some units) (volumes : k.volumes ≡ map as_volume (data_of c.volumes units)) (links : header_links w s ≡ []) (name : k.name ≡ n.name) (disks : k.disks ≡ n.disks) (blocks : k.blocks ≡ n.blocks)
    (seen : up_group core.log.header.state (last_of core) core.log.ring ≡ group_fact k) where
  made_shown : made_facts core c (fact_of_group n note) ≡ seen_with k IsUp (kinds_by c.rvg c.volumes) (Some (group_fact k)) []
  made_shown =
      ap (λ (x : List ℕ). let f : SiteFacts = record (made_facts core c (fact_of_group n note)) { name = x } in f) (sym name)
      ∙ ap (λ (x : ℕ). let f : SiteFacts = record (made_facts core c (fact_of_group n note)) { name = k.name; disks = x } in f) (sym disks)
      ∙ ap (λ (x : ℕ). let f : SiteFacts = record (made_facts core c (fact_of_group n note)) { name = k.name; disks = k.disks; blocks = x } in f) (sym blocks)
      ∙ ap (λ (x : RvgFacts). seen_with k IsUp (kinds_by c.rvg c.volumes) (Some x) []) seen

  -- its volumes, by what it notes
  abbrev table_by : List Volume → Option Config → List VolumeFacts
  table_by vs o = data_facts (volumes_of o) (data_units (config_rvg o)) vs ++ others_of o

  table_made : over_table k gained ≡ kinds_by c.rvg c.volumes
  table_made =
      ap (λ (o : Option Config). table_by k.volumes o) config
      ∙ ap (λ (vs : List Volume). data_facts c.volumes (data_units c.rvg) vs ++ others_by c.rvg c.volumes) volumes
      ∙ ap (λ (o : Option Units). data_facts c.volumes (data_units o) (map as_volume (data_of c.volumes units)) ++ others_by c.rvg c.volumes) rvg
      ∙ ap (λ (fs : List VolumeFacts). fs ++ others_by c.rvg c.volumes) (data_same c.volumes units.vols)
      ∙ ap (λ (o : Option Units). map (data_seen c.volumes) (data_units o) ++ others_by c.rvg c.volumes) (sym rvg)

  table_shown : table_at k ≡ kinds_by c.rvg c.volumes
  table_shown =
      ap (λ (b : Bool). if b then over_table k (note_at k) else map volume_fact k.volumes) over ∙ ap (λ (g : GroupNode). over_table k g) noted ∙ table_made

  -- in the world
  abbrev seen_by : Bool → SiteState → List VolumeFacts → List LinkFacts → SiteFacts
  seen_by grouped t vs ls = record { name = k.name; state = t; disks = k.disks; blocks = k.blocks; grouped = grouped; volumes = vs; rvg = group_by t k; links = links_by t ls }

  world_shown : linked_fact w s ≡ seen_with k IsUp (kinds_by c.rvg c.volumes) (Some (group_fact k)) []
  world_shown =
      ap (λ (ls : List LinkFacts). let f : SiteFacts = record (seen_fact (w.nodes s)) { links = links_by (w.nodes s).state ls } in f) (links_none w s links)
      ∙ ap (λ (x : Node). let f : SiteFacts = record (seen_fact x) { links = links_by x.state [] } in f) at
      ∙ ap (λ (t : SiteState). seen_by (is_over_rvg k) t (table_at k) []) up
      ∙ ap (λ (b : Bool). seen_by b IsUp (table_at k) []) over
      ∙ ap (λ (vs : List VolumeFacts). seen_by true IsUp vs []) table_shown

  pub gained_fact : made_facts core c (fact_of_group n note) ≡ fact_over w s
  gained_fact = made_shown ∙ sym world_shown ∙ sym (fact_apart w s (ap (λ (x : Node). is_over_group x) at ∙ apart))
