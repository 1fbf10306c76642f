-- What is noted of the regions that plexes missed leaves what else the disks of a site stand for as it is.
use Rattle.std.proofs.Common.{Bool, refl}
use Rattle.std.specs.Prelude.{Some}
use Rattle.vx_config.specs.declared.config.Config.{Config}
use Rattle.vx_disk.specs.Shelf.{Meaning}
use Rattle.vx_disk.specs.declared.shelf.Shelf.{Ghosts}
use Rattle.vx_group.specs.declared.group_core.GroupCore.{GroupCore}
use Rattle.vx_history.specs.Groups.{GroupNode, MissedNote}
use Rattle.vx_history.specs.Missing.{with_maps}
use Rattle.vx_history.specs.World.{Node}
use Rattle.vx_grouped.specs.Away.{AwayLies}
use Rattle.vx_grouped.specs.GroupNotes.{GroupLies, ImagesAre, IsGroupAt, NotesFound}
use Rattle.vx_grouped.specs.GroupSites.{AwayNoted, CutNoted, DownNoted, GroupAway, GroupDown, GroupFallen, GroupUp, NotesGroup, UpNoted}
use Rattle.vx_grouped.specs.Plain.{HoldsPlain}
use Rattle.vx_grouped.proofs.SiteLemmas.{some_as}
use Rattle.vx_grouped.specs.declared.group_site.GroupSite.{GroupSite}
use Rattle.vx_grouped.specs.declared.group_site.GroupSite.TheVariants.{Up, Deported, Down, Marked, Gone}

-- a site that notes this of those regions beside what it notes of its group
abbrev pub site_maps : MissedNote → GroupNode → Node → Node
site_maps w note n = record n { group = Some (with_maps w note) }

module _ (w : MissedNote) (n : Node) (note : GroupNode) where
  -- ---- parts

  noted_so : NotesGroup n note → NotesGroup (site_maps w note n) (with_maps w note)
  noted_so it = record { is = refl; none = record { role = it.none.role; volumes = it.none.volumes; log = it.none.log; safe = it.none.safe; running = it.none.running } }

  found_so : (c : Config) (m : Meaning) → NotesFound note c m → NotesFound (with_maps w note) c m
  found_so c m it = record { each = it.each }

  holds_so : (m : Meaning) → HoldsPlain note m → HoldsPlain (with_maps w note) m
  holds_so m it = record { size = it.size; has = it.has }

  images_so : (core : GroupCore) (m : Meaning) → ImagesAre note core m → ImagesAre (with_maps w note) core m
  images_so core m it = record { noted = found_so core.inner.config m it.noted; newest = it.newest; openly = it.openly; free = it.free }

  lies_so : (core : GroupCore) (m : Meaning) → GroupLies n note core m → GroupLies (site_maps w note n) (with_maps w note) core m
  lies_so core m it = record {
    units = it.units;
    size = it.size;
    config = it.config;
    agreed = it.agreed;
    committed = it.committed;
    images = images_so core m it.images;
    holds = holds_so _ it.holds;
  }

  away_so : (last : Config) (m : Meaning) → AwayLies n note last m → AwayLies (site_maps w note n) (with_maps w note) last m
  away_so last m it = record { units = it.units; size = it.size; can = it.can; sizes = it.sizes; finds = it.finds; volumes = it.volumes; has = it.has }

  -- ---- a site that is up, and one whose disks are by themselves

  group_at_so : (core : GroupCore) (m : Meaning) → IsGroupAt n note core m → IsGroupAt (site_maps w note n) (with_maps w note) core m
  group_at_so core m it = record { state = it.state; up = it.up; lies = lies_so core m it.lies }

  up_so : (told : Bool) (core : GroupCore) (m : Meaning) → GroupUp n note told core m → GroupUp (site_maps w note n) (with_maps w note) told core m
  up_so told core m it = record { noted = noted_so it.noted; lit = it.lit; fuse = it.fuse; spells = it.spells; at = group_at_so core m it.at }

  fallen_so : (told : Bool) (core : GroupCore) (m : Meaning) → GroupFallen n note told core m → GroupFallen (site_maps w note n) (with_maps w note) told core m
  fallen_so told core m it = record { noted = noted_so it.noted; lit = it.lit; spells = it.spells; cut = record { down = it.cut.down; lies = lies_so core m it.cut.lies } }

  down_so : (agreed told : Bool) (m : Meaning) → GroupDown n note agreed told m → GroupDown (site_maps w note n) (with_maps w note) agreed told m
  down_so agreed told m it = record {
    noted = noted_so it.noted;
    lit = it.lit;
    agrees = it.agrees;
    unfused = it.unfused;
    stopped = it.stopped;
    last = it.last;
    spells = it.spells;
    away = record { state = it.away.state; config = it.away.config; found = found_so it.last m it.away.found; runs = it.away.runs; some = some_as n (site_maps w note n) it.last refl refl it.away.some; lies = away_so it.last m it.away.lies };
  }

  deported_so : (agreed told : Bool) (m : Meaning) → GroupAway n note agreed told m → GroupAway (site_maps w note n) (with_maps w note) agreed told m
  deported_so agreed told m it = record {
    noted = noted_so it.noted;
    lit = it.lit;
    agrees = it.agrees;
    up = it.up;
    fuse = it.fuse;
    last = it.last;
    newest = it.newest;
    spells = it.spells;
    away = record { state = it.away.state; config = it.away.config; frames = it.away.frames; found = found_so it.newest m it.away.found; some = some_as n (site_maps w note n) it.newest refl refl it.away.some; lies = away_so it.last m it.away.lies };
  }

  -- ---- a site over a group

  module _ {R : Type 0} {g : Ghosts R} where
    pub up_with_maps : (e : GroupSite R g) → UpNoted n note e → UpNoted (site_maps w note n) (with_maps w note) e
    up_with_maps (Up group) it = up_so _ group.core _ it
    up_with_maps (Deported idle) it = absurd it
    up_with_maps (Down idle) it = absurd it
    up_with_maps (Marked rack) it = absurd it
    up_with_maps Gone it = absurd it

    pub cut_with_maps : (e : GroupSite R g) → CutNoted n note e → CutNoted (site_maps w note n) (with_maps w note) e
    cut_with_maps (Up group) it = fallen_so _ group.core _ it
    cut_with_maps (Deported idle) it = absurd it
    cut_with_maps (Down idle) it = absurd it
    cut_with_maps (Marked rack) it = absurd it
    cut_with_maps Gone it = absurd it

    pub down_with_maps : (e : GroupSite R g) → DownNoted n note e → DownNoted (site_maps w note n) (with_maps w note) e
    down_with_maps (Up group) it = absurd it
    down_with_maps (Deported idle) it = absurd it
    down_with_maps (Down idle) it = down_so idle.agreed _ _ it
    down_with_maps (Marked rack) it = absurd it
    down_with_maps Gone it = absurd it

    pub away_with_maps : (e : GroupSite R g) → AwayNoted n note e → AwayNoted (site_maps w note n) (with_maps w note) e
    away_with_maps (Up group) it = absurd it
    away_with_maps (Deported idle) it = deported_so idle.agreed _ _ it
    away_with_maps (Down idle) it = absurd it
    away_with_maps (Marked rack) it = absurd it
    away_with_maps Gone it = absurd it
