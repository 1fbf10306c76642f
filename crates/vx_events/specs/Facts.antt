-- What the tests of a line see of the world.
use Rattle.std.specs.Prelude.{ℕ, false, zero, suc, ◌+◌, List, [], ◌∷◌, map, length, Option, Some, None, unwrap_or, if◌then◌else◌}
use Rattle.std.specs.List.{position}
use Rattle.std.specs.Str.{bytes_eq}
use Rattle.vx_model.specs.Sites.{is_origin}
use Rattle.vx_history.specs.World.{Node, World, Volume}
use Rattle.vx_model.specs.declared.site.SiteState.{SiteState}
use Rattle.vx_model.specs.declared.site.SiteState.TheVariants.{Bare, Up, Deported, Down}
use Rattle.vx_order.specs.declared.facts.SiteFacts.{SiteFacts}
use Rattle.vx_order.specs.declared.facts.RvgFacts.{RvgFacts}
use Rattle.vx_order.specs.declared.facts.VolumeFacts.{VolumeFacts}
use Rattle.vx_order.specs.declared.facts.VolumeKind.TheVariants.{Data}

-- a data volume of a raw set
abbrev pub volume_fact : Volume → VolumeFacts
volume_fact v = record { name = v.name; blocks = v.blocks; kind = Data; plexes = 0 }

-- the number of the last write that a site has: where writes arise the last durable one, and at a receiver the last that came
abbrev pub head_of : Node → ℕ
head_of n = if is_origin n.role then n.safe else length n.log

abbrev pub group_fact : Node → RvgFacts
group_fact n = record {
  role = n.role;
  line = n.line;
  parent = n.parent;
  mark = n.mark;
  low = n.low;
  last = head_of n;
  ring = n.ring;
  halted = n.halted;
}

-- only a site that is up shows its replicated volume group
abbrev pub group_by : SiteState → Node → Option RvgFacts
group_by Bare n = None
group_by Up n = Some (group_fact n)
group_by Deported n = None
group_by Down n = None

abbrev pub site_fact : Node → SiteFacts
site_fact n = record {
  name = n.name;
  state = n.state;
  disks = n.disks;
  blocks = n.blocks;
  grouped = false;
  volumes = map volume_fact n.volumes;
  rvg = group_by n.state n;
  links = [];
}

-- so many values of f, from that of k on
abbrev pub values_from : {A : Type 0} → (ℕ → A) → ℕ → ℕ → List A
values_from f k zero = []
values_from f k (suc n) = f k ∷ values_from f (k + 1) n

-- the sites in the order of their numbers
abbrev pub facts_of : World → List SiteFacts
facts_of w = values_from (λ i. site_fact (w.nodes i)) 0 w.sites

-- the number of the site of this name
abbrev pub seat_of : List SiteFacts → List ℕ → Option ℕ
seat_of sites name = position (λ site. bytes_eq site.name name) sites

abbrev pub site_number : World → List ℕ → ℕ
site_number w name = unwrap_or (seat_of (facts_of w) name) 0

-- the number of the volume of this name among the data volumes
abbrev pub place_of : List VolumeFacts → List ℕ → Option ℕ
place_of volumes name = position (λ volume. bytes_eq volume.name name) volumes

abbrev pub volume_number : Node → List ℕ → ℕ
volume_number n name = unwrap_or (place_of (map volume_fact n.volumes) name) 0
