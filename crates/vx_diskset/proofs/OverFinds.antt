-- A replicated volume group that an import found over a group of disks, where contents are not told.
use Rattle.std.proofs.Common.{◌≡◌, ◌∙◌, ℕ, ◌≤◌, true, [], length, IsTrue, ap, arith, refl, subst, sym}
use Rattle.std.specs.Prelude.{None, Option, Some}
use Rattle.vx_config.specs.Checks.{blocks_of, is_group}
use Rattle.vx_config.specs.declared.config.Config.{Config}
use Rattle.vx_disk.specs.Shelf.{Lawful, Meaning}
use Rattle.vx_disk.specs.declared.shelf.Shelf.{Ghosts}
use Rattle.vx_events.specs.Found.{SameDisks}
use Rattle.vx_events.specs.GroupViews.{config_of}
use Rattle.vx_events.specs.RvgFits.{FitsRvg, data_of}
use Rattle.vx_events.specs.RvgNotes.{inside_of}
use Rattle.vx_ground.specs.Lifted.{laid_volumes}
use Rattle.vx_group.specs.Holding.{wide}
use Rattle.vx_group.specs.Laws.{group_lawful}
use Rattle.vx_group.proofs.HoldLemmas.{wide_shape}
use Rattle.vx_grouped.specs.declared.laid.Laid.{Laid}
use Rattle.vx_history.specs.Groups.{GroupNode}
use Rattle.vx_history.specs.Volumes.{data_content, volumes_set}
use Rattle.vx_history.specs.World.{Fuse, Node}
use Rattle.vx_model.specs.Content.{Content}
use Rattle.vx_kept.specs.Cleans.{at_serial}
use Rattle.vx_model.specs.Sites.{is_origin}
use Rattle.vx_model.specs.Sizes.{ring_of}
use Rattle.vx_model.specs.declared.limits.TheConstants.{LEAST_BLOCKS, MOST_DISKS}
use Rattle.vx_model.specs.declared.units.Units.{Units}
use Rattle.vx_rvg.specs.Starts.{IsStarted, ring_in}
use Rattle.vx_rvg.specs.Views.{Core, UnitsPlaced, last_of, unit_of}
use Rattle.vx_untold.specs.Shades.{shade_meaning}
use Rattle.vx_untold.specs.declared.shade.Shade.{Shade}
use Rattle.vx_diskset.specs.Fuses.{FuseOn}
use Rattle.vx_diskset.specs.Holds.{KeptBeside}
use Rattle.vx_diskset.specs.Layouts.{IsLaid, config_units}
use Rattle.vx_diskset.specs.OverStarts.{Started}
use Rattle.vx_diskset.specs.Stands.{IsUpAt, SiteStands}
use Rattle.vx_diskset.specs.Works.{OnlyLog}
use Rattle.vx_diskset.specs.declared.disk_set.DiskSet.TheVariants.{Over}
use Rattle.vx_diskset.specs.declared.over_set.OverSet.{OverSet}
use Rattle.vx_diskset.proofs.BesideLemmas.{never_besides}
use Rattle.vx_diskset.proofs.MakeStepping.{may_same}
use Rattle.vx_diskset.proofs.Narrowing.{inside_there, volumes_at, volumes_many, volumes_named, volumes_past, volumes_size}
use Rattle.vx_diskset.proofs.NeedLemmas.{ins_length, stand_ins, takes_ins}
use Rattle.vx_diskset.proofs.BlockLemmas.{up_alone}
use Rattle.vx_diskset.proofs.OverUp.{set_came}
use Rattle.vx_diskset.proofs.StartGroup.{found_site}
use Rattle.vx_diskset.proofs.StaysUp.{not_true, told_now}
use Rattle.vx_diskset.proofs.UnitsLie.{laid_group, laid_placed, units_few, units_large, units_some}

never_note : (note : GroupNode) → ◌≡◌ {A = Option GroupNode} (Some note) None → ⊥
never_note note none = cc

-- the site with what stands on the volumes of this configuration
abbrev pub found_over : Node → GroupNode → Fuse → Config → Units → Core → Node
found_over n next fuse c u core =
    found_site (volumes_set (blocks_of c.volumes u.srl) (data_of c.volumes u) (record n { group = Some next; fuse = fuse; low = 1; fed_by = core.log.header.state.other })) core.log.header.state core.log.header.incarnation (last_of core) (stand_ins core.log)

module _ (n : Node) (next : GroupNode) (fuse : Fuse) (c : Config) (u : Units) (v new : Meaning) (core : Core) (may : is_group c.volumes u ≡ true) (placed : UnitsPlaced u v) (size : (w : ℕ) → v.size w ≡ blocks_of c.volumes w)
    (on : config_units (config_of next.config) ≡ u) (moves : OnlyLog u v new) (started : IsStarted u v core new) (up : IsTrue new.down → ⊥) (law : Lawful new) (lit : FuseOn fuse new) (untold : IsTrue new.tells → ⊥) where
  abbrev k : Node
  k = found_over n next fuse c u core

  abbrev content : Content
  content = data_content (Some next) (data_of c.volumes u)

  size_new : (w : ℕ) → new.size w ≡ blocks_of c.volumes w
  size_new w = moves.size w ∙ size w

  laid : IsLaid u (ring_of (blocks_of c.volumes u.srl)) (volumes_at c.volumes u.vols) content.size new
  laid = record {
    large = (let least = units_large c.volumes u may in let same = size_new u.srl in omega (arith, least, same));
    ring_is = ap ring_of (sym (size_new u.srl));
    some = (let many = volumes_many c.volumes u.vols in let least = units_some c.volumes u may in omega (arith, many, least));
    few = (let many = volumes_many c.volumes u.vols in let most = units_few c.volumes u may in omega (arith, many, most));
    count = sym (volumes_many c.volumes u.vols);
    named = λ w x at. volumes_named c.volumes u.vols w x at;
    each = λ w less. let many = volumes_many c.volumes u.vols in volumes_size c.volumes u.vols w (omega (arith, less, many)) ∙ sym (size_new (unit_of u.vols w));
    none = λ w high. let many = volumes_many c.volumes u.vols in volumes_past c.volumes u.vols w (omega (arith, high, many));
  }

  ring_here : ring_in u v ≡ ring_of (blocks_of c.volumes u.srl)
  ring_here = ap ring_of (size u.srl)

  pub found_whole : length k.log ≡ k.safe
  found_whole = omega (arith, ins_length core.log, started.applied)

  pub found_over_up : (beside : KeptBeside) → beside.doubt ≡ None → IsUpAt beside k core new
  found_over_up beside sure = record {
    state = refl;
    up = not_true new.down up;
    fuse = lit;
    lies = record {
      laid = subst (λ (x : Units). IsLaid x (ring_of (blocks_of c.volumes u.srl)) (volumes_at c.volumes u.vols) content.size new) (sym on) laid;
      there = λ j is. (let least = inside_there u v placed j (subst (λ (x : Units). inside_of x j ≡ true) on is) in let same = moves.units in omega (arith, least, same));
    };
    low = refl;
    units = started.units_are ∙ sym on;
    ring = started.ring_is ∙ ring_here;
    found = core.log.header.state.links;
    kept = refl;
    linked = λ told. absurd (untold told);
    session = refl;
    begun = λ told. absurd (untold told);
    stamp = λ told none. absurd (untold told);
    fresh = λ origin told none one room. absurd (untold told);
    first = omega (arith, started.applied);
    head = refl;
    halted = started.running;
    logged = omega (arith, ins_length core.log, started.applied);
    durable = λ none. omega (arith, ins_length core.log, started.applied);
    takes = λ none. takes_ins core.log (omega (arith, started.applied));
    content = λ none told. absurd (untold told);
    left = λ i now. absurd (untold (told_now new i law now));
    sure = λ none. sure;
    may = never_besides beside.doubt new sure;
  }

  pub found_disks : SameDisks (record n { volumes = k.volumes; group = Some next; fuse = fuse }) k
  found_disks = record { name = refl; disks = refl; blocks = refl; volumes = refl; up = refl; running = refl; failing = refl; fuse = refl; group = refl }

  pub found_fits : c.rvg ≡ Some u → FitsRvg k (at_serial 0 c) u
  found_fits has = record { rvg = has; volumes = refl; ring = refl }

-- the disk set of a site over whose group one was found, which stands by itself
module _ {R : Type 0} {g : Ghosts R} (laws : (s : Shade R) → Lawful (shade_meaning g.meaning s)) (n : Node) (next : GroupNode) (fuse : Fuse) (u : Units) (laid : Laid R g) (s : OverSet R g) (had : laid.core.inner.config.rvg ≡ Some u) (started : Started u laid s)
    (has : started.laid.core.inner.config.rvg ≡ Some u) (few : n.disks ≤ MOST_DISKS) (some : LEAST_BLOCKS ≤ n.blocks) (on : config_units (config_of next.config) ≡ u) (lit : FuseOn fuse (laid_volumes started.laid)) (untold : IsTrue (laid_volumes started.laid).tells → ⊥) where
  abbrev c : Config
  c = started.laid.core.inner.config

  pub found_may : is_group c.volumes u ≡ true
  found_may =
      let blocks : blocks_of c.volumes ≡ blocks_of (wide started.laid.core).config.volumes = λ t. λ w. (sym ((wide_shape started.laid.core).blocks w)) t in
      may_same (wide started.laid.core).config.volumes c.volumes u (sym (wide_shape started.laid.core).volumes) blocks (laid_group started.laid u has)

  size : (w : ℕ) → (laid_volumes laid).size w ≡ blocks_of c.volumes w
  size w = sym (started.starts.does.0.size w) ∙ (wide_shape started.laid.core).blocks w

  law : Lawful (laid_volumes started.laid)
  law = group_lawful (wide started.laid.core) (shade_meaning g.meaning started.laid.shelf) (laws started.laid.shelf) started.laid.stands.group.stands

  pub whole_found : length (found_over n next fuse c u started.core).log ≡ (found_over n next fuse c u started.core).safe
  whole_found = found_whole n next fuse c u (laid_volumes laid) (laid_volumes started.laid) started.core found_may (laid_placed laid u had) size on started.starts.does.0 started.starts.does.2 started.starts.does.3 law lit untold

  pub set_found : (beside : KeptBeside) → beside.doubt ≡ None → beside.links ≡ [] → is_origin started.core.log.header.state.role ≡ true → SiteStands beside (found_over n next fuse c u started.core) (Over s)
  set_found beside sure links origin = (
    ((λ none. never_note next none), sure, few, some, links, origin),
    set_came beside (found_over n next fuse c u started.core) s started.laid started.core started.site started.above
        (up_alone (found_over n next fuse c u started.core) started.core (laid_volumes started.laid) refl law started.starts.does.1
        (found_over_up n next fuse c u (laid_volumes laid) (laid_volumes started.laid) started.core found_may (laid_placed laid u had) size on started.starts.does.0 started.starts.does.2 started.starts.does.3 law lit untold beside sure)),
  )
