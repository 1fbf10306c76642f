-- What is noted of a group holds still where imports of it may disagree besides.
use Rattle.std.proofs.Common.{◌≡◌, ◌∙◌, ℕ, Bool, true, false, List, [], ◌∷◌, ap, refl, sym, subst}
use Rattle.std.specs.Prelude.{◌||◌, Some}
use Rattle.vx_config.specs.declared.config.Config.{Config}
use Rattle.vx_disk.specs.Shelf.{Meaning}
use Rattle.vx_disk.specs.declared.shelf.Shelf.{Ghosts}
use Rattle.vx_events.specs.RvgOver.{note_loosened}
use Rattle.vx_group.specs.Holding.{wide}
use Rattle.vx_group.specs.Stands.{inner_meaning}
use Rattle.vx_group.specs.declared.group_core.GroupCore.{GroupCore}
use Rattle.vx_grouped.specs.GroupNotes.{GroupLies, NotesFound}
use Rattle.vx_grouped.specs.GroupSites.{DownNoted, GroupDown, GroupUp, NotesGroup, UpNoted, idle_below, idle_disks, laid_below, laid_disks}
use Rattle.vx_grouped.specs.declared.group_site.GroupSite.{GroupSite}
use Rattle.vx_grouped.specs.declared.group_site.GroupSite.TheVariants.{Up, Deported, Down, Marked, Gone}
use Rattle.vx_grouped.specs.declared.idle.Idle.{Idle}
use Rattle.vx_grouped.proofs.PlainLemmas.{same_holds}
use Rattle.vx_history.specs.Groups.{GroupNode}
use Rattle.vx_history.specs.World.{Node}
use Rattle.vx_untold.specs.Shades.{rack_of, shade_meaning}
use Rattle.vx_untold.specs.declared.shade.Shade.{Shade}
use Rattle.vx_diskset.specs.Noted.{IsNoteTidy}
use Rattle.vx_diskset.specs.OverAways.{Doubts}

or_second : (a b : Bool) → (a || b) ≡ false → b ≡ false
or_second true b is = absurd (let clash : true ≡ false = is in cc)
or_second false b is = is

-- whether something is begun
abbrev pub is_some_begun : List (List ℕ) → Bool
is_some_begun [] = false
is_some_begun (x ∷ xs) = true

-- where something is begun imports may disagree, so it is tidy
pub begun_tidy : (note : GroupNode) → IsNoteTidy (note_loosened (is_some_begun note.begun) note)
begun_tidy note = by note.begun refl
  where
    by : (begun : List (List ℕ)) → note.begun ≡ begun → IsNoteTidy (note_loosened (is_some_begun note.begun) note)
    by [] none tight = none
    by (x ∷ xs) some tight = absurd (let clash : true ≡ false = sym (ap (λ (b : Bool). b || note.loose) (ap (λ (ys : List (List ℕ)). is_some_begun ys) some)) ∙ tight in cc)

pub loose_tidy : (note : GroupNode) → IsNoteTidy (note_loosened true note)
loose_tidy note tight = absurd (let clash : true ≡ false = tight in cc)

module _ (loosens : Bool) (n : Node) (note : GroupNode) where
  abbrev less : GroupNode
  less = note_loosened loosens note

  abbrev k : Node
  k = record n { group = Some (note_loosened loosens note) }

  still_tight : less.loose ≡ false → note.loose ≡ false
  still_tight tight = or_second loosens note.loose tight

  found_less : (c : Config) (m : Meaning) → NotesFound note c m → NotesFound less c m
  found_less c m it = record { each = λ tight i x each is. it.each (still_tight tight) i x each is }

  noted_less : NotesGroup n note → NotesGroup k less
  noted_less it = record { is = refl; none = record { role = it.none.role; volumes = it.none.volumes; log = it.none.log; safe = it.none.safe; running = it.none.running } }

  lies_less : (core : GroupCore) (m : Meaning) → GroupLies n note core m → GroupLies k less core m
  lies_less core m it = record {
    units = it.units;
    size = it.size;
    config = it.config;
    agreed = λ tight. it.agreed (still_tight tight);
    committed = λ tight none. it.committed (still_tight tight) none;
    images = record {
      noted = found_less core.inner.config m it.images.noted;
      newest = it.images.newest;
      openly = it.images.openly;
      free = λ tight none. it.images.free (still_tight tight) none;
    };
    holds = same_holds note (inner_meaning (wide core) m) note.config note.begun (loosens || note.loose) it.holds;
  }

  up_less : (told : Bool) (core : GroupCore) (m : Meaning) → GroupUp n note told core m → GroupUp k less told core m
  up_less told core m it = record {
    noted = noted_less it.noted;
    lit = it.lit;
    fuse = it.fuse;
    spells = it.spells;
    at = record { state = it.at.state; up = it.at.up; lies = lies_less core m it.at.lies };
  }

  -- disks that crashed: they may then be held to disagree
  down_less : (agreed next told : Bool) (m : Meaning) → (less.loose ≡ false → next ≡ true) → GroupDown n note agreed told m → GroupDown k less next told m
  down_less agreed next told m agrees it = record {
    noted = noted_less it.noted;
    lit = it.lit;
    agrees = agrees;
    unfused = it.unfused;
    stopped = it.stopped;
    last = it.last;
    spells = it.spells;
    away = record {
      state = it.away.state;
      config = it.away.config;
      found = found_less it.last m it.away.found;
      runs = it.away.runs;
      some = record { large = it.away.some.large; some = it.away.some.some };
      lies = record {
        units = it.away.lies.units;
        size = it.away.lies.size;
        can = λ tight. it.away.lies.can (still_tight tight);
        sizes = it.away.lies.sizes;
        finds = it.away.lies.finds;
        volumes = it.away.lies.volumes;
        has = it.away.lies.has;
      };
    };
  }

  module _ {R : Type 0} {g : Ghosts R} where
    pub up_loosened : (e : GroupSite R g) → UpNoted n note e → UpNoted k less e
    up_loosened (Up laid) it = up_less (laid_below laid).tells laid.core (laid_disks laid) it
    up_loosened (Deported idle) it = absurd it
    up_loosened (Down idle) it = absurd it
    up_loosened (Marked rack) it = absurd it
    up_loosened Gone it = absurd it

    -- imports of the same disks may disagree
    pub down_doubted : (idle other : Idle R g) → Doubts idle other → loosens ≡ true → DownNoted n note (Down idle) → DownNoted k less (Down other)
    down_doubted idle other doubts loose it =
        subst (λ (s : Shade R). GroupDown k less other.agreed (g.meaning (rack_of s)).tells (shade_meaning g.meaning s)) (sym doubts.rack)
        (down_less idle.agreed other.agreed (idle_below idle).tells (idle_disks idle) (λ tight. absurd (never (sym (ap (λ (b : Bool). b || note.loose) loose) ∙ tight))) it)
      where
        never : true ≡ false → ⊥
        never clash = cc
