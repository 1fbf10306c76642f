-- A replicated volume group that was made over a group that is up, by what its steps made of the group.
use Rattle.std.proofs.Common.{◌≡◌, ◌∙◌, ◌⊎◌, inl, inr, ⊎_elim, ℕ, ◌<◌, Bool, true, false, List, [], length, IsFalse, ap, arith, refl, subst, sym}
use Rattle.std.specs.Prelude.{◌||◌, ◌==◌, if◌then◌else◌, Contains, None, Ok, Option, Some}
use Rattle.vx_config.specs.Checks.{blocks_of, is_group}
use Rattle.vx_config.specs.Configs.{HasSpelling, UnitsFit}
use Rattle.vx_config.specs.declared.config.Config.{Config}
use Rattle.vx_copies.proofs.OneTry.{wanted_count}
use Rattle.vx_disk.specs.Racks.{IsRack}
use Rattle.vx_disk.specs.Shelf.{Lawful, Meaning}
use Rattle.vx_disk.specs.declared.shelf.Shelf.{Ghosts}
use Rattle.vx_events.specs.GroupViews.{config_of}
use Rattle.vx_events.specs.RvgFits.{config_rvg, entries_noted, rvg_noted}
use Rattle.vx_events.specs.RvgNotes.{as_replicated, inside_of, note_gained}
use Rattle.vx_group.specs.Holding.{wide}
use Rattle.vx_group.specs.Laws.{group_lawful}
use Rattle.vx_group.specs.Rvgs.{with_rvg}
use Rattle.vx_group.specs.declared.group_core.GroupCore.{GroupCore}
use Rattle.vx_group.proofs.HoldLemmas.{wide_shape}
use Rattle.vx_group.proofs.RvgSound.{rvg_sound}
use Rattle.vx_ground.specs.Accounts.{ground_state}
use Rattle.vx_ground.specs.Lifted.{laid_volumes}
use Rattle.vx_diskset.specs.LaidBlocks.{laid_blockwise}
use Rattle.vx_diskset.proofs.BlockLemmas.{up_alone}
use Rattle.vx_ground.specs.Named.{named_state}
use Rattle.vx_ground.proofs.AccountLemmas.{account_loses}
use Rattle.vx_ground.proofs.NamedSpelling.{named_spelled, spelled_few}
use Rattle.vx_grouped.specs.ConfigMoves.{LosesSome}
use Rattle.vx_grouped.specs.CoreMoves.{BothOn}
use Rattle.vx_grouped.specs.GroupNotes.{noted_config}
use Rattle.vx_grouped.specs.GroupSites.{GroupUp, NotesGroup, laid_below, laid_disks, site_disks, with_note}
use Rattle.vx_grouped.specs.SetFuses.{HasFuse}
use Rattle.vx_grouped.specs.SiteEnds.{ConfigGoes}
use Rattle.vx_grouped.specs.declared.group_site.GroupSite.{GroupSite}
use Rattle.vx_grouped.specs.declared.group_site.GroupSite.TheVariants.{Up}
use Rattle.vx_grouped.specs.declared.laid.Laid.{Laid}
use Rattle.vx_grouped.proofs.BothLemmas.{both_on}
use Rattle.vx_grouped.proofs.ImportMapLemmas.{memory_note}
use Rattle.vx_grouped.proofs.SettleLemmas.{fuse_burned}
use Rattle.vx_grouped.proofs.SiteLemmas.{lies_as}
use Rattle.vx_grouped.proofs.SpellLemmas.{spells_like}
use Rattle.vx_history.specs.Groups.{BlockMay, GroupNode, MissedNote}
use Rattle.vx_history.specs.Steps.{burned}
use Rattle.vx_history.specs.World.{Fuse, FuseLit, FuseSet, NoFuse, Node}
use Rattle.vx_kept.specs.Cleans.{at_serial}
use Rattle.vx_kept.proofs.Committed.{take_on}
use Rattle.vx_model.specs.States.{first_state}
use Rattle.vx_model.specs.declared.units.Units.{Units}
use Rattle.vx_rvg.specs.Groups.{new_core}
use Rattle.vx_rvg.specs.Views.{Core, IsSound, UnitsPlaced, unit_of}
use Rattle.vx_model.specs.Sizes.{ring_of}
use Rattle.vx_untold.specs.Shades.{shade_lawful, shade_rack}
use Rattle.vx_diskset.specs.Aboves.{InsideOf, above_in, site_in}
use Rattle.vx_diskset.specs.Fuses.{FuseOn}
use Rattle.vx_diskset.specs.GroupSets.{cut_value}
use Rattle.vx_diskset.specs.Holds.{KeptBeside}
use Rattle.vx_diskset.specs.Layouts.{config_units, units_or}
use Rattle.vx_diskset.specs.MakeSteps.{MadeOn}
use Rattle.vx_diskset.specs.Makings.{IsFirstSite, MakesRvgIs, rvg_made}
use Rattle.vx_diskset.specs.Noted.{AgreesStill, NotedOn, RestsNamed, TidyNote, below_rvg}
use Rattle.vx_diskset.specs.Stands.{IsOverSite, IsUpAt}
use Rattle.vx_diskset.specs.declared.above.Above.{Above}
use Rattle.vx_diskset.specs.declared.above.Above.TheVariants.{Origin}
use Rattle.vx_diskset.specs.declared.disk_set.DiskSet.TheVariants.{Over}
use Rattle.vx_diskset.specs.declared.over_set.OverSet.{OverSet}
use Rattle.vx_diskset.proofs.GroundNotes.{ground_agrees, ground_tidy, ground_up, note_ground, note_works}
use Rattle.vx_diskset.proofs.MakeEnds.{left_may, or_left, sizes_then}
use Rattle.vx_diskset.proofs.Narrowing.{block_chosen, is_named, narrowed_left, narrows, note_narrowed, one_value}
use Rattle.vx_diskset.proofs.InsideUnits.{log_inside, or_right, vol_inside}
use Rattle.vx_diskset.proofs.OverFrames.{OverUp, over_from}
use Rattle.vx_diskset.proofs.OverMaking.{placed_then}
use Rattle.vx_diskset.proofs.OverNoted.{note_read}
use Rattle.vx_diskset.proofs.Rewriting.{is_among, place_among}
use Rattle.vx_diskset.proofs.RvgMade.{rvg_stands}
use Rattle.vx_diskset.proofs.UnitsLie.{units_few}
use Rattle.vx_model.specs.Sites.{is_origin}
use Rattle.vx_model.specs.declared.site.Role.{Role}

-- ---- notes of the volumes

or_none : (a b c : Bool) → (a || (b || c)) ≡ false → c ≡ false
or_none false false c is = is
or_none true b c is = let clash : true ≡ false = is in cc
or_none false true c is = let clash : true ≡ false = is in cc

-- of a volume that is none of these what may be in a block is the same
plain_may : (u : Units) (note middle : GroupNode) (v b : ℕ) (y : List ℕ) → middle.bytes.block v b ≡ note.bytes.block v b → middle.others v b ≡ note.others v b → middle.inside v ≡ note.inside v → BlockMay note v b y → BlockMay (note_gained u middle) v b y
plain_may u note middle v b y block others inside (inl is) = inl (or_right (inside_of u v) (middle.inside v) (inside ∙ is))
plain_may u note middle v b y block others inside (inr (inl is)) = inr (inl (is ∙ sym block))
plain_may u note middle v b y block others inside (inr (inr among)) = inr (inr (subst (λ (os : List (List ℕ)). Contains os y) (sym others) among))

-- ---- sites

-- a group that is up below a site with the same disks
pub group_as : (a b : Node) (note : GroupNode) (told : Bool) (core : GroupCore) (m : Meaning) → NotesGroup b note → b.state ≡ a.state → a.disks ≡ b.disks → a.blocks ≡ b.blocks → b.fuse ≡ a.fuse → GroupUp a note told core m → GroupUp b note told core m
group_as a b note told core m noted state disks blocks fuse it = record {
  noted = noted;
  lit = it.lit;
  fuse = subst (λ (f : Fuse). HasFuse f m) (sym fuse) it.fuse;
  spells = it.spells;
  at = record { state = state ∙ it.at.state; up = it.at.up; lies = lies_as a b note core m disks blocks it.at.lies };
}

-- a fuse that may have let calls pass, as volumes have it
pub fuse_over : (f : Fuse) (m v : Meaning) → (IsFalse m.armed → IsFalse v.armed) → HasFuse (burned f) m → FuseOn (burned f) v
fuse_over NoFuse m v armed it = armed it
fuse_over (FuseSet calls) m v armed it = tt
fuse_over (FuseLit most) m v armed it = tt

module _ {R : Type 0} {g : Ghosts R} (rackful : (s : R) → IsRack (g.meaning s)) (lawful : (s : R) → Lawful (g.meaning s)) (site : ℕ) (n : Node) (note : GroupNode) (u : Units) (l : Laid R g) (up : GroupUp n note (laid_below l).tells l.core (laid_disks l)) (at_first : IsFirstSite site n)
    (may : is_group l.core.inner.config.volumes u ≡ true) (below : GroupSite R g) (core : Core) (made : MadeOn u (first_state site) l below core) (sound : IsSound core (laid_volumes made.last)) where
  abbrev k : Laid R g
  k = made.last

  law : Lawful (laid_volumes k)
  law = group_lawful (wide k.core) (laid_disks k) (shade_lawful g.meaning lawful k.shelf) k.stands.group.stands

  placed : UnitsPlaced u (laid_volumes k)
  placed = placed_then l u may (laid_volumes k) made.alone.units made.alone.size

  abbrev maps : MissedNote
  maps = memory_note k.core.inner.config k.logs.items k.alike k.stopped

  abbrev middle : GroupNode
  middle = note_narrowed (laid_volumes k) law u maps note

  abbrev settled : GroupNode
  settled = note_ground (noted_config k.core.inner.config) k.core middle

  abbrev gained : GroupNode
  gained = note_gained u settled

  abbrev after : Node
  after = rvg_made l.core.inner.config u middle gained n

  -- ---- the configuration

  fit : UnitsFit u
  fit = k.stands.group.stands.rvg u made.went.ground.parts.rvg

  spells : HasSpelling (at_serial 0 k.core.inner.config)
  spells = spells_like (with_rvg (Some u) l.core.inner.config) k.core.inner.config made.went.ground.parts made.went.ground.frames made.went.ground.blocks
      (named_spelled l.core.inner.config u up.spells fit (units_few l.core.inner.config.volumes u may))

  both : BothOn (with_rvg (Some u) l.core.inner.config) k.core.inner.config (laid_disks l).units
  both =
      let it = both_on l.core k.core (laid_disks l) (laid_disks k) l.stands.group k.stands.group in
      record {
        was = take_on l.core.inner.config (with_rvg (Some u) l.core.inner.config) refl it.was;
        now = it.now;
        sound = rvg_sound (Some u) l.core.inner.config it.sound ∙ may;
        count = it.count;
      }

  change : LosesSome (laid_disks l) (laid_disks k) (as_replicated u l.core.inner.config) k.core.inner.config
  change = account_loses (named_state u (ground_state l.core)) (ground_state k.core) (laid_disks l) (laid_disks k) (shade_rack g.meaning rackful l.shelf).counts (shade_rack g.meaning rackful k.shelf).counts made.went.ground both

  goes : ConfigGoes (λ x y. LosesSome (laid_disks l) (laid_disks k) (as_replicated u x) y) middle settled (Up l) (Up k)
  goes = record {
    was = l.core.inner.config;
    now = k.core.inner.config;
    had = refl;
    has = refl;
    noted = record { is = up.at.lies.config; spells = up.spells };
    noted_now = record { is = refl; spells = spells };
    change = change;
  }

  on : config_units (config_of gained.config) ≡ u
  on = ap (λ (o : Option Config). config_units o) (note_read gained k.core.inner.config (record { is = refl; spells = spells })) ∙ ap (λ (r : Option Units). units_or r) made.went.ground.parts.rvg

  named_rvg : rvg_noted gained ≡ Some u
  named_rvg = ap (λ (o : Option Config). config_rvg o) (note_read gained k.core.inner.config (record { is = refl; spells = spells })) ∙ made.went.ground.parts.rvg

  -- ---- the volumes

  off_log : (v : ℕ) → Contains u.vols v → v ≡ u.srl → ⊥
  off_log v among same = placed.apart among.0 among.1 (place_among u.vols v among ∙ same)

  had : (v b : ℕ) (y : List ℕ) → Contains u.vols v → b < note.bytes.size v → (laid_volumes k).leaves v b y → BlockMay note v b y
  had v b y among low left = ⊎_elim (λ it. it) (λ log. absurd (off_log v among log))
      (left_may rackful n note u l up k made.alone v b y (let there = placed.exist among.0 among.1 in let same = place_among u.vols v among in omega (arith, there, same))
      (let same = sizes_then rackful n note u l up k made.alone v in omega (arith, low, same)) left)

  -- the volume of the log is one of the group's, as each of the others is
  gained_may : (v b : ℕ) (y : List ℕ) (t : Bool) → inside_of u v ≡ t → BlockMay note v b y ⊎ (v ≡ u.srl) → BlockMay (note_gained u middle) v b y
  gained_may v b y true is it = inl (or_left (inside_of u v) (middle.inside v) is)
  gained_may v b y false is (inl it) =
      let off : is_named u.vols v ≡ false = or_none (v == u.srl) (v == u.maps) (is_named u.vols v) is in
      plain_may u note middle v b y (ap (λ (t : Bool). if t then block_chosen (laid_volumes k) law u maps note v b else note.bytes.block v b) off) (ap (λ (t : Bool). if t then [] else note.others v b) off) refl it
  gained_may v b y false is (inr log) = absurd (let clash : true ≡ false = sym (subst (λ (w : ℕ). inside_of u w ≡ true) (sym log) (log_inside u)) ∙ is in cc)

  holds : (v b : ℕ) (y : List ℕ) → v < (laid_volumes k).units → b < (laid_volumes k).size v → (laid_volumes k).leaves v b y → BlockMay (note_gained u middle) v b y
  holds v b y low within left = gained_may v b y (inside_of u v) refl (left_may rackful n note u l up k made.alone v b y low within left)

  sizes : (v : ℕ) → note.bytes.size v ≡ (laid_volumes k).size v
  sizes v = sizes_then rackful n note u l up k made.alone v

  -- ---- the group below

  group_up : GroupUp (below_rvg after) gained (laid_below k).tells k.core (laid_disks k)
  group_up = group_as (with_note gained n) (below_rvg after) gained (laid_below k).tells k.core (laid_disks k) (record { is = refl; none = record { role = refl; volumes = refl; log = refl; safe = refl; running = refl } }) refl refl refl refl
      (ground_up n note (note_gained u middle) (with_rvg (Some u) l.core.inner.config) l k up made.went.ground made.went.since made.went.told refl sizes holds spells made.up)

  agrees : AgreesStill middle settled (laid_disks l) (laid_disks k)
  agrees = ground_agrees n note (note_gained u middle) (with_rvg (Some u) l.core.inner.config) l k up made.went.ground made.went.since made.went.told refl sizes holds made.up

  inside_so : InsideOf u gained
  inside_so j (inl same) = or_left (inside_of u j) (settled.inside j) (subst (λ (w : ℕ). inside_of u w ≡ true) (sym same) (log_inside u))
  inside_so j (inr (v, (low, same))) = or_left (inside_of u j) (settled.inside j) (subst (λ (w : ℕ). inside_of u w ≡ true) (sym same) (vol_inside u v low))

  -- ---- the replicated volume group

  core_here : core ≡ new_core u (first_state site) (ring_of (blocks_of l.core.inner.config.volumes u.srl)) core.maps
  core_here = made.core_is ∙ ap (λ (j : ℕ). new_core u (first_state site) (ring_of j) core.maps) ((wide_shape l.core).blocks u.srl)

  plain : (beside : KeptBeside) → beside.links ≡ [] → beside.doubt ≡ None → IsUpAt beside after core (laid_volumes k)
  plain = rvg_stands site n at_first up.noted.none up.at.state l.core.inner.config u middle gained core (laid_volumes k) law sound placed core_here may (λ v. made.alone.size v ∙ (wide_shape l.core).blocks v) made.up
      (fuse_over n.fuse (laid_disks k) (laid_volumes k) (λ off. off) (fuse_burned n.fuse (laid_disks l) (laid_disks k) made.went.since.unarmed up.fuse)) on made.stands
      (λ told v b low. narrowed_left (laid_volumes k) law u maps note told (unit_of u.vols v) b (is_among u.vols v low))

  stands : (beside : KeptBeside) → beside.links ≡ [] → beside.doubt ≡ None → IsUpAt beside after core (laid_blockwise k)
  stands beside unlinked certain = up_alone after core (laid_volumes k) up.noted.none.running law sound (plain beside unlinked certain)

  disks_many : length l.core.inner.config.disks ≡ n.disks
  disks_many = wanted_count (laid_disks l).units (laid_disks l).size (wide l.core).config l.stands.group.stands.wanted ∙ up.at.lies.units

  over_site : (beside : KeptBeside) → beside.links ≡ [] → beside.doubt ≡ None → IsOverSite beside after
  over_site beside unlinked certain = (
    λ is. no_note is,
    certain,
    (let many = disks_many in let most = spelled_few l.core.inner.config up.spells in omega (arith, many, most)),
    (let many = disks_many in
        let some = l.stands.group.stands.disks in
        let units = up.at.lies.units in
        let here : 0 < n.disks = omega (arith, many, some) in
        let size = up.at.lies.size 0 here in
        let large = l.stands.group.stands.large.each 0 (omega (arith, here, units)) in
        omega (arith, size, large)),
    unlinked,
    ap (λ (r : Role). is_origin r) up.noted.none.role,
  )
    where
      no_note : {A : Type 0} {x : A} → Some x ≡ None → ⊥
      no_note is = cc

  -- ---- the line is done

  pub made_over : (o : OverSet R g) → site_in o ≡ Up k → above_in o ≡ Origin core → cut_value o.cut ≡ note.cut → MakesRvgIs site n note u l.core.inner.config (Up l) (Over o) (site_in o) (Ok tt)
  made_over o is above cut = (
    middle,
    settled,
    narrows (laid_volumes k) law u maps note (note.dark ≡ false) had,
    one_value (laid_volumes k) law u maps note,
    note_works k.core middle (noted_config k.core.inner.config),
    subst (λ (e : GroupSite R g). ConfigGoes (λ x y. LosesSome (laid_disks l) (site_disks e) (as_replicated u x) y) middle settled (Up l) e) (sym is) goes,
    subst (λ (e : GroupSite R g). AgreesStill middle settled (laid_disks l) (site_disks e)) (sym is) agrees,
    λ beside unlinked certain. (
      over_site beside unlinked certain,
      over_from beside after o.site
          (subst (λ (a : Above). OverUp beside after a (site_in o)) (sym above)
          (subst (λ (e : GroupSite R g). OverUp beside after (Origin core) e) (sym is) (stands beside unlinked certain))),
    ),
    (
      subst (λ (e : GroupSite R g). NotedOn (below_rvg after) gained e) (sym is) group_up,
      cut,
      subst (λ (x : Units). InsideOf x gained) (sym on) inside_so,
      subst (λ (x : Units). TidyNote x gained) (sym on) (record { tidy = ground_tidy (noted_config k.core.inner.config) k.core middle; named = named_rvg }),
      subst (λ (e : GroupSite R g). RestsNamed (config_units (config_of gained.config)) (length (entries_noted gained)) e) (sym is) tt,
    ),
  )
