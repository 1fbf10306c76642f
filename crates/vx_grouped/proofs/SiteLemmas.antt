-- The disks of a site with a group behind a call, by its note.
use Rattle.std.proofs.Common.{◌≡◌, ℕ, ◌<◌, ◌≤◌, IsTrue, refl, sym, ◌∙◌, subst, Bool, true, false}
use Rattle.vx_model.specs.declared.site.SiteState.TheVariants.{Down as IsDown, Deported as IsDeported}
use Rattle.vx_disk.specs.Shelf.{Meaning}
use Rattle.vx_history.specs.Groups.{GroupNode}
use Rattle.vx_history.specs.Steps.{burned, crashed}
use Rattle.vx_history.specs.World.{Node}
use Rattle.vx_config.specs.Configs.{HasSpelling}
use Rattle.vx_config.specs.declared.config.Config.{Config}
use Rattle.vx_kept.specs.Cleans.{at_serial}
use Rattle.vx_group.specs.declared.group_core.GroupCore.{GroupCore}
use Rattle.vx_grouped.specs.Away.{AllRun, AwayLies, AwayFit, IsAwayAt, IsDeportedAt}
use Rattle.vx_grouped.specs.GroupNotes.{GroupLies, IsGroupAt, note_dimmed}
use Rattle.vx_grouped.specs.GroupSites.{AreStopped, GroupAway, GroupDown, GroupUp, NotesGroup, deported_with, with_note, IsLit, dimmed_site}
use Rattle.vx_grouped.specs.SetFuses.{HasFuse}

-- ---- facts of a node hold of one with its disks

pub lies_as : (n k : Node) (note : GroupNode) (c : GroupCore) (m : Meaning) → n.disks ≡ k.disks → n.blocks ≡ k.blocks → GroupLies n note c m → GroupLies k note c m
lies_as n k note c m disks blocks it = record {
  units = it.units ∙ disks;
  size = λ u low. it.size u (subst (λ (x : ℕ). u < x) (sym disks) low) ∙ blocks;
  config = it.config;
  agreed = it.agreed;
  committed = it.committed;
  images = it.images;
  holds = it.holds;
}

pub away_as : (n k : Node) (note : GroupNode) (last : Config) (m : Meaning) → n.disks ≡ k.disks → n.blocks ≡ k.blocks → AwayLies n note last m → AwayLies k note last m
away_as n k note last m disks blocks it = record {
  units = it.units ∙ disks;
  size = λ u low. it.size u (subst (λ (x : ℕ). u < x) (sym disks) low) ∙ blocks;
  can = it.can;
  sizes = it.sizes;
  finds = it.finds;
  volumes = it.volumes;
  has = it.has;
}

pub some_as : (n k : Node) (c : Config) → n.disks ≡ k.disks → n.blocks ≡ k.blocks → AwayFit n c → AwayFit k c
some_as n k c disks blocks it = record { large = λ more. subst (λ (x : ℕ). 1024 ≤ x) blocks (it.large (subst (λ (x : ℕ). 0 < x) (sym disks) more)); some = it.some }

-- ---- notes

pub noted_with : (n : Node) (note next : GroupNode) → NotesGroup n note → NotesGroup (with_note next n) next
noted_with n note next it = record { is = refl; none = record { role = it.none.role; volumes = it.none.volumes; log = it.none.log; safe = it.none.safe; running = it.none.running } }

pub noted_crashed : (n : Node) (note : GroupNode) → NotesGroup n note → NotesGroup (crashed n 0) note
noted_crashed n note it = record { is = it.is; none = record { role = it.none.role; volumes = it.none.volumes; log = refl; safe = refl; running = refl } }

-- ---- a group that is up

pub up_with : (n : Node) (note next : GroupNode) (told : Bool) (d : GroupCore) (m' : Meaning) → NotesGroup n note → IsLit next told m' → HasSpelling (at_serial 0 d.inner.config) → HasFuse (burned n.fuse) m' → IsGroupAt n next d m' → GroupUp (with_note next n) next told d m'
up_with n note next told d m' noted lit spells fuse at = record {
  noted = noted_with n note next noted;
  lit = lit;
  fuse = fuse;
  spells = spells;
  at = record { state = at.state; up = at.up; lies = lies_as n (with_note next n) next d m' refl refl at.lies };
}

-- and its note is the same
pub up_burned : (n : Node) (note : GroupNode) (told : Bool) (d : GroupCore) (m' : Meaning) → NotesGroup n note → IsLit note told m' → HasSpelling (at_serial 0 d.inner.config) → HasFuse (burned n.fuse) m' → IsGroupAt n note d m' → GroupUp (record n { fuse = burned n.fuse }) note told d m'
up_burned n note told d m' noted lit spells fuse at = record {
  lit = lit;
  noted = record { is = noted.is; none = record { role = noted.none.role; volumes = noted.none.volumes; log = noted.none.log; safe = noted.none.safe; running = noted.none.running } };
  fuse = fuse;
  spells = spells;
  at = record { state = at.state; up = at.up; lies = lies_as n (record n { fuse = burned n.fuse }) note d m' refl refl at.lies };
}

-- ---- one that crashed

pub down_noted : (n : Node) (note : GroupNode) (agreed told : Bool) (last : Config) (m : Meaning) → NotesGroup n note → IsLit note told m → (note.loose ≡ false → agreed ≡ true) → AreStopped m → HasSpelling (at_serial 0 last) → IsAwayAt (record n { state = IsDown }) note last m → GroupDown (crashed n 0) note agreed told m
down_noted n note agreed told last m noted lit agrees stopped spells away = record {
  noted = noted_crashed n note noted;
  lit = lit;
  agrees = agrees;
  unfused = refl;
  stopped = stopped;
  last = last;
  spells = spells;
  away = record { state = refl; config = away.config; found = away.found; runs = away.runs; some = some_as (record n { state = IsDown }) (crashed n 0) last refl refl away.some; lies = away_as (record n { state = IsDown }) (crashed n 0) note last m refl refl away.lies };
}

-- behind a call that changed the note
pub down_with : (n : Node) (note next : GroupNode) (agreed told : Bool) (last : Config) (m : Meaning) → NotesGroup n note → IsLit next told m → (next.loose ≡ false → agreed ≡ true) → AreStopped m → HasSpelling (at_serial 0 last) → IsAwayAt (record n { state = IsDown }) next last m → GroupDown (crashed (with_note next n) 0) next agreed told m
down_with n note next agreed told last m noted lit agrees stopped spells away =
    down_noted (with_note next n) next agreed told last m (noted_with n note next noted) lit agrees stopped spells
    (record { state = refl; config = away.config; found = away.found; runs = away.runs; some = some_as (record n { state = IsDown }) (record (with_note next n) { state = IsDown }) last refl refl away.some; lies = away_as (record n { state = IsDown }) (record (with_note next n) { state = IsDown }) next last m refl refl away.lies })

-- ---- one that was deported

pub away_with : (n : Node) (note next : GroupNode) (agreed told : Bool) (last newest : Config) (m : Meaning) → NotesGroup n note → IsLit next told m → (next.loose ≡ false → agreed ≡ true) → (IsTrue m.down → ⊥) → HasFuse (burned n.fuse) m → HasSpelling (at_serial 0 newest) → IsDeportedAt (record n { state = IsDeported }) next last newest m → GroupAway (deported_with next n) next agreed told m
away_with n note next agreed told last newest m noted lit agrees up fuse spells away = record {
  lit = lit;
  agrees = agrees;
  noted = record { is = refl; none = record { role = noted.none.role; volumes = noted.none.volumes; log = refl; safe = refl; running = refl } };
  up = up;
  fuse = fuse;
  last = last;
  newest = newest;
  spells = spells;
  away = record { state = refl; config = away.config; frames = away.frames; found = away.found; some = some_as (record n { state = IsDeported }) (deported_with next n) newest refl refl away.some; lies = away_as (record n { state = IsDeported }) (deported_with next n) next last m refl refl away.lies };
}

-- ---- one of whose disks it is no longer known what they hold

pub noted_dimmed : (dims : Bool) (n : Node) (note : GroupNode) → NotesGroup n note → NotesGroup (dimmed_site dims note n) (note_dimmed dims note)
noted_dimmed dims n note it = record { is = refl; none = record { role = it.none.role; volumes = it.none.volumes; log = it.none.log; safe = it.none.safe; running = it.none.running } }

pub away_dimmed : (dims : Bool) (n k : Node) (note : GroupNode) (last : Config) (m : Meaning) → n.disks ≡ k.disks → n.blocks ≡ k.blocks → AwayLies n note last m → AwayLies k (note_dimmed dims note) last m
away_dimmed dims n k note last m disks blocks it = record {
  units = it.units ∙ disks;
  size = λ u low. it.size u (subst (λ (x : ℕ). u < x) (sym disks) low) ∙ blocks;
  can = it.can;
  sizes = it.sizes;
  finds = it.finds;
  volumes = it.volumes;
  has = it.has;
}

pub runs_dimmed : (dims : Bool) (note : GroupNode) (last : Config) → AllRun note last → AllRun (note_dimmed dims note) last
runs_dimmed true note last it = λ bright. absurd (let clash : true ≡ false = bright in cc)
runs_dimmed false note last it = it

-- nothing is told of them
pub lit_dimmed : (note : GroupNode) (told : Bool) (m : Meaning) → IsLit (note_dimmed true note) told m
lit_dimmed note told m = λ bright. absurd (let clash : true ≡ false = bright in cc)
