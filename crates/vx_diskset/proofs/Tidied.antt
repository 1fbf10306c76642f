-- What a site notes of a group that is up stands where the note says besides that imports may disagree while a configuration is begun.
use Rattle.std.proofs.Common.{◌≡◌, ◌∙◌, ◌<◌, ℕ, Bool, true, false, List, [], ◌∷◌, refl, subst, sym}
use Rattle.std.specs.Prelude.{◌||◌}
use Rattle.vx_disk.specs.Shelf.{Meaning}
use Rattle.vx_disk.specs.declared.shelf.Shelf.{Ghosts}
use Rattle.vx_history.specs.Groups.{GroupNode}
use Rattle.vx_history.specs.World.{Node}
use Rattle.vx_group.specs.declared.group_core.GroupCore.{GroupCore}
use Rattle.vx_grouped.specs.GroupNotes.{GroupLies}
use Rattle.vx_grouped.specs.GroupSites.{GroupFallen, GroupUp, UpNoted, laid_below, laid_disks, with_note}
use Rattle.vx_grouped.specs.declared.group_site.GroupSite.{GroupSite}
use Rattle.vx_grouped.specs.declared.group_site.GroupSite.TheVariants.{Up, Deported, Down, Marked, Gone}
use Rattle.vx_diskset.specs.Noted.{IsNoteTidy}
use Rattle.vx_diskset.specs.OverPlains.{any_begun, note_tidied}

-- ---- flags: whether a configuration is begun, and whether imports may disagree

pub loose_off : (b l : Bool) → (b || l) ≡ false → l ≡ false
loose_off true l is = absurd (let clash : true ≡ false = is in cc)
loose_off false l is = is

pub begun_off : (begun : List (List ℕ)) (l : Bool) → (any_begun begun || l) ≡ false → begun ≡ []
begun_off [] l is = refl
begun_off (x ∷ xs) l is = absurd (let clash : true ≡ false = is in cc)

pub note_tidy : (note : GroupNode) → IsNoteTidy (note_tidied note)
note_tidy note = λ tight. begun_off note.begun note.loose tight

-- ---- a group that is up

lies_tidied : (n k : Node) (note : GroupNode) (core : GroupCore) (m : Meaning) → n.disks ≡ k.disks → n.blocks ≡ k.blocks → GroupLies n note core m → GroupLies k (note_tidied note) core m
lies_tidied n k note core m disks blocks it = record {
  units = it.units ∙ disks;
  size = λ u low. it.size u (subst (λ (x : ℕ). u < x) (sym disks) low) ∙ blocks;
  config = it.config;
  agreed = λ tight. it.agreed (loose_off (any_begun note.begun) note.loose tight);
  committed = λ tight none. it.committed (loose_off (any_begun note.begun) note.loose tight) none;
  images = record {
    noted = record { each = λ tight i x each is. it.images.noted.each (loose_off (any_begun note.begun) note.loose tight) i x each is };
    newest = it.images.newest;
    openly = it.images.openly;
    free = λ tight none. it.images.free (loose_off (any_begun note.begun) note.loose tight) none;
  };
  holds = record { size = it.holds.size; has = it.holds.has };
}

up_tidied : (n : Node) (next : GroupNode) (told : Bool) (core : GroupCore) (m : Meaning) → GroupUp (with_note next n) next told core m → GroupUp (with_note (note_tidied next) n) (note_tidied next) told core m
up_tidied n next told core m it = record {
  noted = record {
    is = refl;
    none = record { role = it.noted.none.role; volumes = it.noted.none.volumes; log = it.noted.none.log; safe = it.noted.none.safe; running = it.noted.none.running };
  };
  lit = it.lit;
  fuse = it.fuse;
  spells = it.spells;
  at = record { state = it.at.state; up = it.at.up; lies = lies_tidied (with_note next n) (with_note (note_tidied next) n) next core m refl refl it.at.lies };
}

pub fallen_tidied : (n : Node) (next : GroupNode) (told : Bool) (core : GroupCore) (m : Meaning) → GroupFallen (with_note next n) next told core m → GroupFallen (with_note (note_tidied next) n) (note_tidied next) told core m
fallen_tidied n next told core m it = record {
  noted = record {
    is = refl;
    none = record { role = it.noted.none.role; volumes = it.noted.none.volumes; log = it.noted.none.log; safe = it.noted.none.safe; running = it.noted.none.running };
  };
  lit = it.lit;
  spells = it.spells;
  cut = record { down = it.cut.down; lies = lies_tidied (with_note next n) (with_note (note_tidied next) n) next core m refl refl it.cut.lies };
}

module _ {R : Type 0} {g : Ghosts R} where
  pub site_tidied : (n : Node) (next : GroupNode) (e : GroupSite R g) → UpNoted (with_note next n) next e → UpNoted (with_note (note_tidied next) n) (note_tidied next) e
  site_tidied n next (Up laid) it = up_tidied n next (laid_below laid).tells laid.core (laid_disks laid) it
  site_tidied n next (Deported idle) it = absurd it
  site_tidied n next (Down idle) it = absurd it
  site_tidied n next (Marked rack) it = absurd it
  site_tidied n next Gone it = absurd it
