-- A replicated volume group that was found over a group of disks of which nothing is told: it stands by itself.
use Rattle.std.proofs.Common.{◌≡◌, ◌∙◌, ◌⊎◌, inl, inr, ℕ, ◌<◌, ◌≤◌, true, false, List, [], length, IsFalse, IsTrue, ap, arith, refl, subst, sym}
use Rattle.std.specs.Prelude.{◌&&◌, None, Option, Some}
use Rattle.std.proofs.lemmas.Bool.{and_parts}
use Rattle.vx_config.specs.Configs.{HasSpelling}
use Rattle.vx_config.specs.declared.config.Config.{Config}
use Rattle.vx_copies.proofs.OneTry.{wanted_count}
use Rattle.vx_disk.specs.Shelf.{Lawful, Meaning}
use Rattle.vx_disk.specs.declared.shelf.Shelf.{Ghosts}
use Rattle.vx_events.specs.GroupViews.{config_of}
use Rattle.vx_events.specs.RvgFits.{config_rvg, entries_noted, rvg_noted}
use Rattle.vx_events.specs.RvgNotes.{inside_of, note_gained}
use Rattle.vx_ground.specs.Lifted.{laid_volumes}
use Rattle.vx_ground.proofs.NamedSpelling.{spelled_few}
use Rattle.vx_group.specs.Holding.{wide}
use Rattle.vx_grouped.specs.GroupNotes.{noted_config}
use Rattle.vx_grouped.specs.GroupSites.{GroupUp, laid_below, laid_disks, site_below, with_note}
use Rattle.vx_grouped.specs.declared.group_site.GroupSite.{GroupSite}
use Rattle.vx_grouped.specs.declared.laid.Laid.{Laid}
use Rattle.vx_grouped.proofs.SpellLemmas.{spells_like}
use Rattle.vx_history.specs.Groups.{BlockMay, GroupNode}
use Rattle.vx_history.specs.Steps.{burned}
use Rattle.vx_history.specs.World.{Node}
use Rattle.vx_kept.specs.Cleans.{at_serial}
use Rattle.vx_model.proofs.Tests.{by_bool}
use Rattle.vx_model.specs.Sites.{is_origin}
use Rattle.vx_model.specs.declared.limits.TheConstants.{LEAST_BLOCKS, MOST_DISKS}
use Rattle.vx_model.specs.declared.site.SPhase.{SPhase}
use Rattle.vx_model.specs.declared.site.SPhase.TheVariants.{ForkKept, Log, Quiet, Regions}
use Rattle.vx_model.specs.declared.state.State.{State}
use Rattle.vx_model.specs.declared.units.Units.{Units}
use Rattle.vx_untold.specs.Shades.{shade_meaning}
use Rattle.vx_untold.specs.declared.shade.Shade.{Shade}
use Rattle.vx_untold.specs.declared.shade.Shade.TheVariants.{Bright, Dark}
use Rattle.vx_diskset.specs.Aboves.{InsideOf, site_in}
use Rattle.vx_diskset.specs.Fuses.{FuseOn}
use Rattle.vx_diskset.specs.GroupSets.{cut_value}
use Rattle.vx_diskset.specs.Holds.{KeptBeside}
use Rattle.vx_diskset.specs.Layouts.{config_units, units_or}
use Rattle.vx_diskset.specs.Noted.{NotedOn, RestsNamed, TidyNote, below_rvg}
use Rattle.vx_diskset.specs.OverRises.{FoundOver, KnowsLess}
use Rattle.vx_diskset.specs.OverStarts.{Started, has_no_links, is_alone, is_dark, is_idle_phase}
use Rattle.vx_diskset.specs.declared.group_set.CutWrite.{CutWrite}
use Rattle.vx_diskset.specs.declared.over_set.OverSet.{OverSet}
use Rattle.vx_diskset.proofs.GroundNotes.{ground_tidy, ground_up, note_ground}
use Rattle.vx_diskset.proofs.MadeOver.{fuse_over, group_as}
use Rattle.vx_diskset.proofs.MakeEnds.{or_left}
use Rattle.vx_diskset.proofs.InsideUnits.{log_inside, or_right, vol_inside}
use Rattle.vx_diskset.proofs.OverFinds.{found_may, found_over, set_found, whole_found}
use Rattle.vx_diskset.proofs.OverNoted.{note_read}
use Rattle.vx_diskset.proofs.StaysUp.{not_true}
use Rattle.vx_diskset.proofs.UnitsLie.{units_has}

-- ---- what stands by itself

idle_quiet : (p : SPhase) → is_idle_phase p ≡ true → p ≡ Quiet
idle_quiet Quiet is = refl
idle_quiet Regions is = absurd (let clash : false ≡ true = is in cc)
idle_quiet Log is = absurd (let clash : false ≡ true = is in cc)
idle_quiet ForkKept is = absurd (let clash : false ≡ true = is in cc)

alone_parts : (s : State) → is_alone s ≡ true → (is_origin s.role ≡ true) × (s.phase ≡ Quiet)
alone_parts s is =
    let parts = and_parts (is_origin s.role) (has_no_links s.links && is_idle_phase s.phase) is in
    (parts.0, idle_quiet s.phase (and_parts (has_no_links s.links) (is_idle_phase s.phase) parts.1).1)

pub dark_untold : {R : Type 0} (meaning : R → Meaning) (s : Shade R) → is_dark s ≡ true → IsTrue (shade_meaning meaning s).tells → ⊥
dark_untold meaning (Bright rack) is told = let clash : false ≡ true = is in cc
dark_untold meaning (Dark rack) is told = let clash : false ≡ true = told in cc

-- ---- the group of site n, as an import brought it with the note `middle`, and what was started over it

module _ {R : Type 0} {g : Ghosts R} (laws : (s : Shade R) → Lawful (shade_meaning g.meaning s)) (n site : Node) (middle : GroupNode) (u : Units) (laid : Laid R g) (s : OverSet R g) (up : GroupUp site middle (laid_below laid).tells laid.core (laid_disks laid))
    (had : laid.core.inner.config.rvg ≡ Some u) (dim : IsTrue (laid_disks laid).tells → ⊥) (started : Started u laid s) (disks : site.disks ≡ n.disks) (blocks : site.blocks ≡ n.blocks) (fuse : burned site.fuse ≡ burned n.fuse) (clear : middle.cut ≡ None) where
  abbrev k : Laid R g
  k = started.laid

  abbrev c : Config
  c = k.core.inner.config

  abbrev base : GroupNode
  base = note_gained u middle

  abbrev next : GroupNode
  next = note_ground (noted_config c) k.core base

  abbrev node : Node
  node = found_over n next (burned n.fuse) c u started.core

  untold : IsTrue (laid_volumes k).tells → ⊥
  untold told = dim (sym started.starts.does.0.tells ∙ told)

  has : c.rvg ≡ Some u
  has = started.starts.ground.parts.rvg ∙ had

  spells : HasSpelling (at_serial 0 c)
  spells = spells_like laid.core.inner.config c started.starts.ground.parts started.starts.ground.frames started.starts.ground.blocks up.spells

  sizes : (v : ℕ) → base.bytes.size v ≡ (laid_volumes k).size v
  sizes v = up.at.lies.holds.size v ∙ sym (started.starts.does.0.size v)

  gained : (v b : ℕ) (x : List ℕ) → BlockMay middle v b x → BlockMay base v b x
  gained v b x (inl inside) = inl (or_right (inside_of u v) (middle.inside v) inside)
  gained v b x (inr it) = inr it

  may : (v b : ℕ) (x : List ℕ) → v < (laid_volumes k).units → b < (laid_volumes k).size v → (laid_volumes k).leaves v b x → BlockMay base v b x
  may v b x low within left = elim (started.starts.does.0.leaves v b x left) [
    | inl was ↦
        gained v b x (up.at.lies.holds.has v b x (let same = started.starts.does.0.units in omega (arith, low, same)) (let same = started.starts.does.0.size v in omega (arith, within, same)) was)
    | inr log ↦ inl (or_left (inside_of u v) (middle.inside v) (subst (λ (w : ℕ). inside_of u w ≡ true) (sym log) (log_inside u)))
  ]

  off : IsFalse (laid_disks k).down
  off = not_true (laid_disks k).down started.starts.does.3

  below : GroupUp (below_rvg node) next (laid_below k).tells k.core (laid_disks k)
  below = group_as (with_note next site) (below_rvg node) next (laid_below k).tells k.core (laid_disks k) (record { is = refl; none = record { role = refl; volumes = refl; log = refl; safe = refl; running = refl } })
      (sym up.at.state) disks blocks (sym fuse)
      (ground_up site middle base laid.core.inner.config laid k up started.starts.ground started.starts.since started.starts.told refl sizes may spells off)

  on : config_units (config_of next.config) ≡ u
  on = ap (λ (o : Option Config). config_units o) (note_read next c (record { is = refl; spells = spells })) ∙ ap (λ (r : Option Units). units_or r) has

  named : rvg_noted next ≡ Some u
  named = ap (λ (o : Option Config). config_rvg o) (note_read next c (record { is = refl; spells = spells })) ∙ has

  lit : FuseOn (burned n.fuse) (laid_volumes k)
  lit = fuse_over n.fuse (laid_disks k) (laid_volumes k) (λ off. off) below.fuse

  many : length laid.core.inner.config.disks ≡ n.disks
  many = wanted_count (laid_disks laid).units (laid_disks laid).size (wide laid.core).config laid.stands.group.stands.wanted ∙ up.at.lies.units ∙ disks

  few : n.disks ≤ MOST_DISKS
  few = let count = many in let most = spelled_few laid.core.inner.config up.spells in omega (arith, count, most)

  some : LEAST_BLOCKS ≤ n.blocks
  some =
      let count = many in
      let first = laid.stands.group.stands.disks in
      let same = disks in
      let here : 0 < site.disks = omega (arith, count, first, same) in
      let units = up.at.lies.units in
      let size = up.at.lies.size 0 here in
      let large = laid.stands.group.stands.large.each 0 (omega (arith, here, units)) in
      let long = blocks in
      omega (arith, size, large, long)

  inside_so : InsideOf u next
  inside_so v (inl same) = or_left (inside_of u v) (middle.inside v) (subst (λ (w : ℕ). inside_of u w ≡ true) (sym same) (log_inside u))
  inside_so v (inr (w, (low, same))) = or_left (inside_of u v) (middle.inside v) (subst (λ (j : ℕ). inside_of u j ≡ true) (sym same) (vol_inside u w low))

  alone : (is_origin started.core.log.header.state.role ≡ true) × (started.core.log.header.state.phase ≡ Quiet)
  alone = alone_parts started.core.log.header.state started.alone

  pub found_over_set : (beside : KeptBeside) → beside.doubt ≡ None → beside.links ≡ [] → (it : FoundOver beside n (burned n.fuse) s) × (it.next.dark ≡ middle.dark)
  found_over_set beside sure links = (
    record {
      next = next;
      now = at_serial 0 c;
      units = u;
      node = node;
      same = record { name = refl; disks = refl; blocks = refl; volumes = refl; up = refl; running = refl; failing = refl; fuse = refl; group = refl };
      whole = whole_found laws n next (burned n.fuse) u laid s had started has few some on lit untold;
      quiet = alone.1;
      origin = alone.0;
      rests = refl;
      clear = clear;
      is = note_read next c (record { is = refl; spells = spells });
      fits = record { rvg = has; volumes = refl; ring = refl };
      has = units_has c.volumes u (found_may laws n next (burned n.fuse) u laid s had started has few some on lit untold);
      noted = (
        subst (λ (e : GroupSite R g). NotedOn (below_rvg node) next e) (sym started.site) below,
        ap (λ (o : Option CutWrite). cut_value o) started.cut ∙ sym clear,
        subst (λ (x : Units). InsideOf x next) (sym on) inside_so,
        subst (λ (x : Units). TidyNote x next) (sym on) (record { tidy = ground_tidy (noted_config c) k.core base; named = named }),
        subst (λ (e : GroupSite R g). RestsNamed (config_units (config_of next.config)) (length (entries_noted next)) e) (sym started.site) tt,
      );
      stands = set_found laws n next (burned n.fuse) u laid s had started has few some on lit untold beside sure links alone.0;
    },
    refl,
  )

  -- where the rack below tells its contents, it is noted that nothing is known of what the disks hold
  pub found_dark : IsTrue (laid_below laid).tells → middle.dark ≡ true
  found_dark told = by_bool middle.dark (λ is. is) (λ never. absurd (dim (up.lit never told)))

  pub found_less : (note after : GroupNode) → after.dark ≡ middle.dark → (middle.dark ≡ true → (note.dark ≡ true) ⊎ (note.loose ≡ true)) → KnowsLess note after (site_in s)
  found_less note after same was = record { was = λ told. was (dark_then told); dark = λ told. same ∙ dark_then told }
    where
      dark_then : IsTrue (site_below (site_in s)).tells → middle.dark ≡ true
      dark_then told = found_dark (started.starts.told (subst (λ (e : GroupSite R g). IsTrue (site_below e).tells) started.site told))
