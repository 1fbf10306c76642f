-- How a line ends that makes a replicated volume group over a group that is up, by what its steps made of the group.
use Rattle.std.proofs.Common.{◌≡◌, ◌∙◌, ◌⊎◌, inl, inr, ⊎_elim, ℕ, ◌<◌, Bool, true, false, List, IsTrue, IsFalse, arith, refl, subst, sym}
use Rattle.std.specs.Prelude.{◌||◌, ◌==◌, Err, None, Option, Some}
use Rattle.std.proofs.lemmas.Bool.{eq-eqb}
use Rattle.std.proofs.lemmas.Option.{same_Some}
use Rattle.vx_config.specs.Configs.{HasSpelling}
use Rattle.vx_config.specs.declared.config.Config.{Config}
use Rattle.vx_disk.specs.Racks.{IsRack}
use Rattle.vx_disk.specs.declared.shelf.Shelf.{Ghosts}
use Rattle.vx_ground.specs.Accounts.{ground_state}
use Rattle.vx_ground.specs.Lifted.{laid_volumes}
use Rattle.vx_ground.proofs.AccountLemmas.{account_loses}
use Rattle.vx_grouped.specs.ConfigMoves.{LosesSome}
use Rattle.vx_grouped.specs.GroupNotes.{is_sure, noted_config}
use Rattle.vx_grouped.specs.GroupSites.{GroupUp, idle_below, idle_disks, laid_below, laid_disks, site_disks, with_note}
use Rattle.vx_grouped.specs.SiteEnds.{ConfigGoes, HasNow}
use Rattle.vx_grouped.specs.SiteMaps.{StandMaps}
use Rattle.vx_grouped.specs.declared.group_site.GroupSite.{GroupSite}
use Rattle.vx_grouped.specs.declared.group_site.GroupSite.TheVariants.{Up, Deported, Down, Marked, Gone}
use Rattle.vx_grouped.specs.declared.idle.Idle.{Idle}
use Rattle.vx_grouped.specs.declared.laid.Laid.{Laid}
use Rattle.vx_grouped.proofs.BothLemmas.{both_on}
use Rattle.vx_grouped.proofs.ImportMapLemmas.{memory_note, memory_noted}
use Rattle.vx_grouped.proofs.MapStandLemmas.{none_on_disks}
use Rattle.vx_grouped.proofs.SettleLemmas.{fell_fused}
use Rattle.vx_grouped.proofs.SiteLemmas.{down_with}
use Rattle.vx_grouped.proofs.SpellLemmas.{spells_like}
use Rattle.vx_grouped.proofs.TraceLemmas.{lit_since}
use Rattle.vx_history.specs.Groups.{BlockMay, GroupNode, MissedNote}
use Rattle.vx_history.specs.Missing.{no_maps}
use Rattle.vx_history.specs.Steps.{crashed}
use Rattle.vx_history.specs.World.{Node}
use Rattle.vx_kept.specs.Cleans.{at_serial}
use Rattle.vx_model.specs.declared.errors.Stop.{Stop}
use Rattle.vx_model.specs.declared.errors.Stop.TheVariants.{No as Refused, OutOfMemory}
use Rattle.vx_model.specs.declared.no.No.TheVariants.{Device, Down as IsOff, Limit}
use Rattle.vx_model.specs.declared.units.Units.{Units}
use Rattle.vx_untold.specs.Shades.{shade_rack}
use Rattle.vx_diskset.specs.GroupSets.{cut_value}
use Rattle.vx_diskset.specs.MakeSteps.{FellUnder, GroupWent, LogAlone, LineStops, RefusedOn}
use Rattle.vx_diskset.specs.Makings.{MakesNone, MakesRvgIs, PlainNoted, StaysNone, note_begun}
use Rattle.vx_diskset.specs.declared.disk_set.DiskSet.TheVariants.{OfGroup}
use Rattle.vx_diskset.specs.declared.group_set.CutWrite.{CutWrite}
use Rattle.vx_diskset.proofs.CountMoves.{counts_lose}
use Rattle.vx_diskset.proofs.GroundNotes.{ground_agrees, ground_lies, ground_lit, ground_up, note_ground, note_works, sure_of}
use Rattle.vx_diskset.proofs.InsideUnits.{or_right}

not_both : (b : Bool) → IsTrue b → IsFalse b → ⊥
not_both true is off = let clash : true ≡ false = off in cc
not_both false is off = let clash : false ≡ true = is in cc

pub or_left : (a b : Bool) → a ≡ true → (a || b) ≡ true
or_left true b is = refl
or_left false b is = let clash : false ≡ true = is in cc

-- ---- what may be in a block

-- nothing is noted of the volume of the log
begun_log : (u : Units) (note : GroupNode) (v b : ℕ) (y : List ℕ) → v ≡ u.srl → BlockMay (note_begun u note) v b y
begun_log u note v b y same = inl (or_left (v == u.srl) (note.inside v) (eq-eqb v u.srl same))

begun_may : (u : Units) (note : GroupNode) (v b : ℕ) (y : List ℕ) → BlockMay note v b y → BlockMay (note_begun u note) v b y
begun_may u note v b y (inl inside) = inl (or_right (v == u.srl) (note.inside v) inside)
begun_may u note v b y (inr value) = inr value

module _ {R : Type 0} {g : Ghosts R} (rackful : (s : R) → IsRack (g.meaning s)) (n : Node) (note : GroupNode) (u : Units) (l : Laid R g) (up : GroupUp n note (laid_below l).tells l.core (laid_disks l)) where
  first : (d : ℕ) → (laid_disks l).disk_faults d ≡ (laid_disks l).faults d
  first = (shade_rack g.meaning rackful l.shelf).counts

  -- a value that a crash leaves in a block is one that it might have
  pub left_may : (k : Laid R g) → LogAlone u (laid_volumes l) (laid_volumes k) → (v b : ℕ) (y : List ℕ) → v < (laid_volumes k).units → b < (laid_volumes k).size v → (laid_volumes k).leaves v b y → BlockMay note v b y ⊎ (v ≡ u.srl)
  left_may k alone v b y low within left = ⊎_elim
      (λ was. inl (up.at.lies.holds.has v b y (let same = alone.units in omega (arith, low, same)) (let same = alone.size v in omega (arith, within, same)) was))
      (λ log. inr log)
      (alone.leaves v b y left)

  pub sizes_then : (k : Laid R g) → LogAlone u (laid_volumes l) (laid_volumes k) → (v : ℕ) → note.bytes.size v ≡ (laid_volumes k).size v
  sizes_then k alone v = up.at.lies.holds.size v ∙ sym (alone.size v)

  -- ---- it was refused

  module _ (w : MissedNote) (k : Laid R g) (went : GroupWent (ground_state l.core) l k) (alone : LogAlone u (laid_volumes l) (laid_volumes k)) where
    abbrev middle : GroupNode
    middle = record note { maps = w }

    abbrev begun : GroupNode
    begun = note_begun u middle

    abbrev next : GroupNode
    next = note_ground (noted_config k.core.inner.config) k.core begun

    spells : HasSpelling (at_serial 0 k.core.inner.config)
    spells = spells_like l.core.inner.config k.core.inner.config went.ground.parts went.ground.frames went.ground.blocks up.spells

    may : (v b : ℕ) (y : List ℕ) → v < (laid_volumes k).units → b < (laid_volumes k).size v → (laid_volumes k).leaves v b y → BlockMay begun v b y
    may v b y low within left = ⊎_elim (λ was. begun_may u middle v b y was) (λ log. begun_log u middle v b y log) (left_may k alone v b y low within left)

    change : LosesSome (laid_disks l) (laid_disks k) l.core.inner.config k.core.inner.config
    change = account_loses (ground_state l.core) (ground_state k.core) (laid_disks l) (laid_disks k) first (shade_rack g.meaning rackful k.shelf).counts went.ground
        (both_on l.core k.core (laid_disks l) (laid_disks k) l.stands.group k.stands.group)

    moved : (e : GroupSite R g) → HasNow k.core.inner.config e → LosesSome (laid_disks l) (site_disks e) l.core.inner.config k.core.inner.config → ConfigGoes (LosesSome (laid_disks l) (site_disks e)) middle next (Up l) e
    moved e has by = record {
      was = l.core.inner.config;
      now = k.core.inner.config;
      had = refl;
      has = has;
      noted = record { is = up.at.lies.config; spells = up.spells };
      noted_now = record { is = refl; spells = spells };
      change = by;
    }

    made_none : (Still : GroupNode → GroupNode → Type 0) (e : GroupSite R g) → ConfigGoes (LosesSome (laid_disks l) (site_disks e)) middle next (Up l) e → StandMaps next e → Still begun next → MakesNone Still n note u (Up l) e
    made_none Still e goes maps still = (
      middle,
      next,
      record { size = λ v. refl; may = λ told v b x among low it. it; others = λ v b off. (refl, refl); same = refl },
      note_works k.core begun (noted_config k.core.inner.config),
      goes,
      maps,
      still,
    )

    -- the group is up still
    module _ (x : Option CutWrite) (cut : cut_value x ≡ note.cut) (running : IsFalse (laid_disks k).down) (maps : StandMaps next (Up k)) where
      stays_none : MakesNone (StaysNone n (Up l) (Up k) (OfGroup (record { site = Up k; cut = x }))) n note u (Up l) (Up k)
      stays_none = made_none (StaysNone n (Up l) (Up k) (OfGroup (record { site = Up k; cut = x }))) (Up k) (moved (Up k) refl change) maps (
        ground_agrees n note begun l.core.inner.config l k up went.ground went.since went.told refl (sizes_then k alone) may running,
        (ground_up n note begun l.core.inner.config l k up went.ground went.since went.told refl (sizes_then k alone) may spells running, cut),
      )

      pub stops_up : (site : ℕ) (c : Config) (why : Stop) → LineStops (laid_disks l) (laid_disks k) why → MakesRvgIs site n note u c (Up l) (OfGroup (record { site = Up k; cut = x })) (Up k) (Err why)
      stops_up site c (Refused (Device disk)) it = (stays_none, it)
      stops_up site c (Refused IsOff) it = absurd (not_both (laid_disks k).down it running)
      stops_up site c (Refused (Limit what most)) it = (it.0, it.1, stays_none)
      stops_up site c OutOfMemory it = stays_none
      stops_up site c (Refused other) it = absurd it

    -- its fuse ran out
    module _ (x : Option CutWrite) (cut : cut_value x ≡ note.cut) (idle : Idle R g) (fell : FellUnder k idle) (maps : StandMaps next (Down idle)) where
      pub stops_down : (site : ℕ) (c : Config) → MakesRvgIs site n note u c (Up l) (OfGroup (record { site = Down idle; cut = x })) (Down idle) (Err (Refused IsOff))
      stops_down site c = (
        made_none (λ (b m : GroupNode). PlainNoted (crashed (with_note m n) 0) m (OfGroup (record { site = Down idle; cut = x }))) (Down idle) (moved (Down idle) tt (counts_lose (laid_disks l) (laid_disks k) (idle_disks idle) fell.stopped.counts.disk_faults l.core.inner.config k.core.inner.config change)) maps (
          down_with n note next idle.agreed (idle_below idle).tells k.core.inner.config (idle_disks idle) up.noted
              (lit_since next next (laid_below k).tells (idle_below idle).tells (laid_disks k) (idle_disks idle) refl fell.stopped.tells fell.told
              (ground_lit n note begun l.core.inner.config l k up went.ground went.since went.told refl (sizes_then k alone) may))
              (λ tight. fell.agreed ∙ sure_of (is_sure k.core) tight)
              (record { down = fell.stopped.down; unarmed = fell.stopped.unarmed }) spells
              (fell.away n next (ground_lies n note begun l.core.inner.config l k up went.ground went.since went.told refl (sizes_then k alone) may)),
          cut,
        ),
        fell_fused n.fuse (laid_disks l) (laid_disks k) up.fuse up.at.up went.since.safe fell.down,
      )

  -- ---- by the site that is left

  memory_maps : (k : Laid R g) (went : GroupWent (ground_state l.core) l k) (alone : LogAlone u (laid_volumes l) (laid_volumes k))
      → StandMaps (next (memory_note k.core.inner.config k.logs.items k.alike k.stopped) k went alone) (Up k)
  memory_maps k went alone = record {
    config = k.core.inner.config;
    is = refl;
    spells = spells (memory_note k.core.inner.config k.logs.items k.alike k.stopped) k went alone;
    up = λ c is. sym (same_Some k.core.inner.config c is);
    maps = memory_noted k.core.inner.config k.logs.items k.alike k.stopped;
  }

  no_config : {P : Type 0} (c : Config) → None ≡ Some c → P
  no_config c is = absurd (let clash : None ≡ Some c = is in cc)

  lost_maps : (k : Laid R g) (went : GroupWent (ground_state l.core) l k) (alone : LogAlone u (laid_volumes l) (laid_volumes k)) (idle : Idle R g) → FellUnder k idle → StandMaps (next no_maps k went alone) (Down idle)
  lost_maps k went alone idle fell = record {
    config = k.core.inner.config;
    is = refl;
    spells = spells no_maps k went alone;
    up = λ c is. no_config c is;
    maps = λ bright. record { disks = none_on_disks 0 k.core.inner.config (idle_disks idle); rests = fell.rests };
  }

  pub refused_made : (x : Option CutWrite) → cut_value x ≡ note.cut → (site : ℕ) (c : Config) (e : GroupSite R g) (stop : Stop) → RefusedOn u l e stop → MakesRvgIs site n note u c (Up l) (OfGroup (record { site = e; cut = x })) e (Err stop)
  refused_made x cut site c (Up same) stop it =
      subst (λ (k : Laid R g). MakesRvgIs site n note u c (Up l) (OfGroup (record { site = Up k; cut = x })) (Up k) (Err stop)) (sym it.stays.0)
      (subst (λ (s : Stop). MakesRvgIs site n note u c (Up l) (OfGroup (record { site = Up it.last; cut = x })) (Up it.last) (Err s)) (sym it.stays.1)
      (stops_up (memory_note it.last.core.inner.config it.last.logs.items it.last.alike it.last.stopped) it.last it.went it.alone x cut it.stays.2 (memory_maps it.last it.went it.alone) site c it.why it.stops))
  refused_made x cut site c (Down idle) stop it =
      subst (λ (s : Stop). MakesRvgIs site n note u c (Up l) (OfGroup (record { site = Down idle; cut = x })) (Down idle) (Err s)) (sym it.stays.1)
      (stops_down no_maps it.last it.went it.alone x cut idle it.stays.0 (lost_maps it.last it.went it.alone idle it.stays.0) site c)
  refused_made x cut site c (Deported idle) stop it = absurd it.stays
  refused_made x cut site c (Marked rack) stop it = absurd it.stays
  refused_made x cut site c Gone stop it = absurd it.stays
