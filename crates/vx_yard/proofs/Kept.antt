-- A yard that stands for a world has sites of shapes that sites may have.
use Rattle.std.proofs.Common.{◌≡◌, ◌∙◌, ◌+◌, ◌<◌, ◌≤◌, ⊎_elim, ℕ, zero, suc, Bool, true, false, List, [], ◌∷◌, length, length-append, map, ap, subst, sym, refl, arith}
use Rattle.std.proofs.lemmas.List.{length-map}
use Rattle.std.specs.Prelude.{Option, Some, None, slice_get, if◌then◌else◌}
use Rattle.std.specs.Str.{bytes_eq}
use Rattle.std.proofs.lemmas.Option.{slice_get_within}
use Rattle.vx_history.specs.Doubts.{Doubted}
use Rattle.vx_history.specs.World.{Link, Node, Volume}
use Rattle.vx_history.proofs.GoodLemmas.{bare_or_made}
use Rattle.vx_model.specs.declared.limits.TheConstants.{LEAST_BLOCKS, MOST_DATA_VOLUMES, MOST_DISKS, MOST_VOLUMES}
use Rattle.vx_model.specs.declared.units.Units.{Units}
use Rattle.vx_config.specs.Table.{config}
use Rattle.vx_config.specs.declared.config.Config.{Config}
use Rattle.vx_config.specs.declared.entry.VolumeEntry.{VolumeEntry}
use Rattle.vx_model.specs.declared.site.SiteState.TheVariants.{Bare as IsBare, Up as IsUp, Deported as IsDeported, Down as IsDown}
use Rattle.vx_disk.specs.Shelf.{Meaning}
use Rattle.vx_disk.specs.declared.shelf.Shelf.{Ghosts}
use Rattle.vx_order.specs.declared.facts.SiteFacts.{SiteFacts}
use Rattle.vx_order.specs.declared.facts.VolumeFacts.{VolumeFacts}
use Rattle.vx_diskset.specs.Holds.{KeptBeside, beside_of}
use Rattle.vx_diskset.specs.Layouts.{LiesRaw}
use Rattle.vx_diskset.specs.Stands.{OverStands, SiteStands, bare_with}
use Rattle.vx_diskset.specs.declared.disk_set.DiskSet.{DiskSet}
use Rattle.vx_diskset.specs.declared.disk_set.DiskSet.TheVariants.{Bare, Spoiled, Up, Receives, Down, OfGroup, Over, Gone}
use Rattle.vx_diskset.specs.declared.over_set.OverSite.{OverSite}
use Rattle.vx_diskset.specs.declared.over_set.OverSite.TheVariants.{Origin as OriginSite, Receiver as ReceiverSite, Deported as OverAway, Down as OverFell, Gone as NoOver}
use Rattle.vx_diskset.specs.LaidBlocks.{laid_blockwise}
use Rattle.vx_events.proofs.Places.{position_within, some_same}
use Rattle.vx_events.proofs.Values.{length-values_from}
use Rattle.vx_events.specs.Facts.{place_of, volume_fact}
use Rattle.vx_events.specs.GroupLines.{is_over_group}
use Rattle.vx_events.specs.GroupNotes.{note_at}
use Rattle.vx_events.specs.GroupViews.{config_of, plain_fact, volumes_of}
use Rattle.vx_events.specs.RvgFits.{entries_noted, rvg_noted}
use Rattle.vx_events.specs.RvgViews.{data_facts, data_units, is_data_unit, is_over_rvg, kinded, others_by, others_from, others_of, over_table, table_at, unless_data}
use Rattle.vx_events.proofs.RvgEvents.{rvg_apart}
use Rattle.vx_events.specs.StepsOver.{fact_of_group, fact_over}
use Rattle.vx_yard.specs.Carries.{Carries}
use Rattle.vx_yard.specs.Standing.{StandsFor}
use Rattle.vx_yard.specs.Yards.{IsYardKept, IsShaped}
use Rattle.vx_yard.specs.declared.yard.Yard.{Yard}
use Rattle.vx_yard.proofs.NamedSite.{fact_of}
use Rattle.vx_yard.proofs.NotedFew.{few_noted, few_of}
use Rattle.vx_yard.proofs.OverGroup.{bare_apart, many_apart, over_rvg, set_over}
use Rattle.vx_yard.proofs.Rows.{fact_from, over_from}
use Rattle.vx_diskset.proofs.Laying.{laid_in, raw_in}

some_at : {A : Type 0} (xs : List A) (i : ℕ) → i < length xs → (x : A) × (slice_get xs i ≡ Some x)
some_at [] i h = absurd (omega arith)
some_at (x ∷ xs) zero h = (x, refl)
some_at (x ∷ xs) (suc i) h = some_at xs i (omega arith)

-- ---- the volumes that the tests see

data_long : (vs : List VolumeEntry) (places : List ℕ) (xs : List Volume) → length (data_facts vs places xs) ≡ length xs
data_long vs places [] = refl
data_long vs [] (x ∷ xs) = ap suc (data_long vs [] xs)
data_long vs (p ∷ places) (x ∷ xs) = ap suc (data_long vs places xs)

others_short : (units : Units) (k : ℕ) (vs : List VolumeEntry) → length (others_from units k vs) ≤ length vs
others_short units k [] = omega arith
others_short units k (v ∷ vs) = by (is_data_unit units.vols k) (others_short units (k + 1) vs)
  where
    by : (b : Bool) → length (others_from units (k + 1) vs) ≤ length vs → length (unless_data b (kinded units k v) (others_from units (k + 1) vs)) ≤ suc (length vs)
    by true less = omega (arith, less)
    by false less = omega (arith, less)

others_by_few : (o : Option Units) (vs : List VolumeEntry) → length (others_by o vs) ≤ length vs
others_by_few None vs = omega (arith, length-map vs plain_fact)
others_by_few (Some units) vs = others_short units 0 vs

others_few : (o : Option Config) → length (others_of o) ≤ length (volumes_of o)
others_few None = omega arith
others_few (Some c) = others_by_few c.rvg c.volumes

table_few : (n : Node) → length n.volumes ≤ MOST_DATA_VOLUMES → length (table_at n) ≤ MOST_VOLUMES + MOST_DATA_VOLUMES
table_few n few = by (is_over_rvg n)
  where
    by : (b : Bool) → length (if b then over_table n (note_at n) else map volume_fact n.volumes) ≤ MOST_VOLUMES + MOST_DATA_VOLUMES
    by true =
        omega (
          arith,
          length-append (data_facts (entries_noted (note_at n)) (data_units (rvg_noted (note_at n))) n.volumes) (others_of (config_of (note_at n).config)),
          data_long (entries_noted (note_at n)) (data_units (rvg_noted (note_at n))) n.volumes,
          others_few (config_of (note_at n).config),
          few_of (note_at n).config (config.read (note_at n).config) refl,
          few,
        )
    by false = omega (arith, length-map n.volumes volume_fact, few)

-- the shape of a node over no group without a replicated volume group
record IsNodeShaped (n : Node) : Type 0 where
  volumes : length n.volumes ≤ MOST_DATA_VOLUMES
  disks : n.state ≡ IsBare → n.disks ≤ MOST_DISKS
  blocks : LEAST_BLOCKS ≤ n.blocks
  away : n.state ≡ IsDeported → is_over_rvg n ≡ true

module _ (n : Node) (row : ℕ → Link) (sites : ℕ) where
  -- such a site
  apart_shape : is_over_group n ≡ false → IsNodeShaped n → IsShaped (over_from n row sites)
  apart_shape apart shape =
      let is : over_from n row sites ≡ fact_from n row sites = ap (λ (b : Bool). if b then fact_of_group n (note_at n) else fact_from n row sites) apart in
      subst (λ (f : SiteFacts). IsShaped f) (sym is)
      (record {
        volumes = table_few n shape.volumes;
        disks = λ bare. shape.disks bare;
        blocks = shape.blocks;
        grouped = λ away. shape.away away;
      })

  -- and one over a group
  group_shape : is_over_group n ≡ true → n.disks ≤ MOST_DISKS → LEAST_BLOCKS ≤ n.blocks → IsShaped (over_from n row sites)
  group_shape over few some =
      let is : over_from n row sites ≡ fact_of_group n (note_at n) = ap (λ (b : Bool). if b then fact_of_group n (note_at n) else fact_from n row sites) over in
      subst (λ (f : SiteFacts). IsShaped f) (sym is) (record { volumes = omega (arith, few_noted (note_at n)); disks = λ bare. few; blocks = some; grouped = λ away. refl })

  bare_shape : n ≡ bare_with n → n.disks ≤ MOST_DISKS → LEAST_BLOCKS ≤ n.blocks → IsShaped (over_from n row sites)
  bare_shape is few some = apart_shape (bare_apart n is) (record {
    volumes = omega (arith, ap (λ (k : Node). length k.volumes) is);
    disks = λ bare. few;
    blocks = some;
    away = λ away. absurd (let e : IsBare ≡ IsDeported = sym (ap (λ (x : Node). x.state) is) ∙ away in cc);
  })

  laid_shape : (m : Meaning) → LiesRaw n m → (n.state ≡ IsDeported → ⊥) → IsShaped (over_from n row sites)
  laid_shape m lies never = apart_shape (many_apart n lies.laid.some) (record {
    volumes = lies.laid.few;
    disks = λ bare. lies.few;
    blocks = omega (arith, lies.laid.large, lies.size 0 (omega (arith, lies.can.some)));
    away = λ away. absurd (never away);
  })

  -- one over a group with a replicated volume group
  over_shape : is_over_rvg n ≡ true → length n.volumes ≤ MOST_DATA_VOLUMES → n.disks ≤ MOST_DISKS → LEAST_BLOCKS ≤ n.blocks → IsShaped (over_from n row sites)
  over_shape over few disks some = apart_shape (rvg_apart n over) (record { volumes = few; disks = λ bare. disks; blocks = some; away = λ away. over })

-- a place in the table of volumes is a number of one
pub volume_small : (f : SiteFacts) (volume : List ℕ) (v : ℕ) → IsShaped f → place_of f.volumes volume ≡ Some v → v < MOST_VOLUMES + MOST_DATA_VOLUMES
volume_small f volume v shaped is = omega (arith, position_within (λ (x : VolumeFacts). bytes_eq x.name volume) f.volumes v is, shaped.volumes)

module _ {R : Type 0} {g : Ghosts R} where
  -- as many sites as the tests see
  pub many_sites : (d : Doubted) (y : Yard R g) → StandsFor d y → length y.facts.items ≡ d.world.sites
  many_sites d y stands = ap (λ (fs : List SiteFacts). length fs) stands.facts ∙ length-values_from (λ i. fact_over d.world i) 0 d.world.sites

  over_few : (beside : KeptBeside) (n : Node) (s : OverSite R g) → OverStands beside n s → length n.volumes ≤ MOST_DATA_VOLUMES
  over_few beside n (OriginSite f) h = (laid_in n (laid_blockwise f.laid) h.lies).few
  over_few beside n (ReceiverSite f) h = (laid_in n (laid_blockwise f.laid) h.lies).few
  over_few beside n (OverAway idle) h = h.1.lies.few
  over_few beside n (OverFell idle) h = h.2.lies.few
  over_few beside n NoOver h = absurd h

  shape_at : (beside : KeptBeside) (n : Node) (row : ℕ → Link) (sites : ℕ) (e : DiskSet R g) → SiteStands beside n e → IsShaped (over_from n row sites)
  shape_at beside n row sites (Bare rack) h = bare_shape n row sites h.bare.is h.bare.few h.bare.some
  shape_at beside n row sites (Spoiled rack) h = bare_shape n row sites h.is h.few h.some
  shape_at beside n row sites (Up rvg) h = laid_shape n row sites (g.meaning rvg.shelf) (raw_in n (g.meaning rvg.shelf) h.0.0 h.1.lies) (λ away. let e : IsUp ≡ IsDeported = sym h.1.state ∙ away in cc)
  shape_at beside n row sites (Receives s) h = laid_shape n row sites (g.meaning s.rvg.shelf) (raw_in n (g.meaning s.rvg.shelf) h.0.0 h.1.lies) (λ away. let e : IsUp ≡ IsDeported = sym h.1.state ∙ away in cc)
  shape_at beside n row sites (Down rack) h = laid_shape n row sites (g.meaning rack) h.lies (λ away. let e : IsDown ≡ IsDeported = sym h.state ∙ away in cc)
  shape_at beside n row sites (OfGroup s) h = ⊎_elim
      (λ (bare : n.state ≡ IsBare). bare_shape n row sites (h.bare bare) h.few h.some)
      (λ made. group_shape n row sites (set_over beside n s h made) h.few h.some)
      (bare_or_made n.state)
  shape_at beside n row sites (Over s) h = over_shape n row sites (over_rvg beside n s h) (over_few beside n s.site h.1) h.0.2 h.0.3
  shape_at beside n row sites Gone h = absurd h

  pub kept_for : (d : Doubted) (y : Yard R g) → StandsFor d y → Carries d y → IsYardKept y
  kept_for d y stands carries = record {
    eight = stands.disk_sets.eight;
    few = omega (arith, many_sites d y stands, stands.disk_sets.few);
    places = carries.places;
    numbers = carries.numbers;
    each = λ s f at.
        let below : s < d.world.sites = omega (arith, slice_get_within y.facts.items s f at, many_sites d y stands) in
        let e = some_at y.disk_sets.items s (omega (arith, below, stands.disk_sets.few, stands.disk_sets.eight)) in
        let same : f ≡ fact_over d.world s = some_same (sym at ∙ fact_of d y s stands below) in
        subst (λ (k : SiteFacts). IsShaped k) (sym same)
        (shape_at (beside_of d s) (d.world.nodes s) (d.world.links s) d.world.sites e.0 (stands.disk_sets.sites s e.0 below e.1));
  }
