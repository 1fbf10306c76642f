-- Disks by themselves, of a site that was deported, as its note has them: behind a start that was refused, or an import of which nothing is known any more.
use Rattle.std.proofs.Common.{◌≡◌, ◌∙◌, ℕ, Bool, List, true, false, IsTrue, ap, refl, subst, sym}
use Rattle.std.specs.Prelude.{◌||◌, Option}
use Rattle.vx_disk.specs.Shelf.{Meaning}
use Rattle.vx_disk.specs.declared.shelf.Shelf.{Ghosts}
use Rattle.vx_grouped.proofs.AlikeLemmas.{less_deported}
use Rattle.vx_grouped.proofs.ImageLemmas.{none_noted}
use Rattle.vx_grouped.proofs.SiteLemmas.{away_as, some_as}
use Rattle.vx_grouped.proofs.SiteReturnLemmas.{dark_away, frames_blocks, none_can}
use Rattle.vx_grouped.proofs.TraceLemmas.{lit_since}
use Rattle.vx_grouped.specs.Away.{AwayLies, IsDeportedAt}
use Rattle.vx_grouped.specs.GroupSites.{AreStopped, AwayNoted, DownNoted, GroupAway, GroupDown, IsLit, NotesGroup, idle_below, idle_disks}
use Rattle.vx_grouped.specs.SetFuses.{HasFuse}
use Rattle.vx_grouped.specs.SiteReturns.{TellsNone}
use Rattle.vx_grouped.specs.declared.group_site.GroupSite.TheVariants.{Deported, Down}
use Rattle.vx_grouped.specs.declared.idle.Idle.{Idle}
use Rattle.vx_history.specs.Groups.{GroupNode}
use Rattle.vx_history.specs.World.{Fuse, NoFuse, Node}
use Rattle.vx_model.specs.Content.{Write}
use Rattle.vx_model.specs.declared.site.SiteState.TheVariants.{Deported as IsAway, Down as IsDown}
use Rattle.vx_diskset.specs.OverRises.{note_held}
use Rattle.vx_diskset.specs.OverStarts.{Revived}

-- the same disks by another node
pub gone_as : (a k : Node) (note : GroupNode) (agreed told : Bool) (m : Meaning) → NotesGroup k note → k.state ≡ IsAway → HasFuse k.fuse m → a.disks ≡ k.disks → a.blocks ≡ k.blocks → GroupAway a note agreed told m → GroupAway k note agreed told m
gone_as a k note agreed told m noted state fuse disks blocks it = record {
  noted = noted;
  lit = it.lit;
  agrees = it.agrees;
  up = it.up;
  fuse = fuse;
  last = it.last;
  newest = it.newest;
  spells = it.spells;
  away = record {
    state = state;
    config = it.away.config;
    frames = it.away.frames;
    found = it.away.found;
    some = some_as a k it.newest disks blocks it.away.some;
    lies = away_as a k note it.last m disks blocks it.away.lies;
  };
}

-- disks that crashed, by themselves, with a write that is cut: they have no fuse
pub fell_gone : (a k : Node) (note : GroupNode) (c : Option Write) (agreed told : Bool) (m : Meaning) → NotesGroup k (record note { cut = c }) → k.state ≡ IsAway → HasFuse k.fuse m → (IsTrue m.down → ⊥) → a.disks ≡ k.disks → a.blocks ≡ k.blocks → IsLit note told m → (note.loose ≡ false → agreed ≡ true)
    → (old : Meaning) (was below : Bool) → m.units ≡ old.units → ((u : ℕ) → m.size u ≡ old.size u) → ((u b : ℕ) (v : List ℕ) → m.leaves u b v → old.leaves u b v) → GroupDown a note was below old → GroupAway k (record note { cut = c }) agreed told m
fell_gone a k note c agreed told m noted state fuse up disks blocks lit agrees old was below units size leaves it =
    let lies : AwayLies k note it.last old = away_as a k note it.last old disks blocks it.away.lies in
    let there : IsDeportedAt k note it.last it.last m = less_deported k note old m units size leaves it.last it.last (record {
      state = state;
      config = it.away.config;
      frames = λ v. refl;
      found = it.away.found;
      some = some_as a k it.last disks blocks it.away.some;
      lies = lies;
    }) in
    record {
      noted = noted;
      lit = lit;
      agrees = agrees;
      up = up;
      fuse = fuse;
      last = it.last;
      newest = it.last;
      spells = it.spells;
      away = record {
        state = state;
        config = there.config;
        frames = there.frames;
        found = record { each = there.found.each };
        some = there.some;
        lies = record { units = there.lies.units; size = there.lies.size; can = there.lies.can; sizes = there.lies.sizes; finds = there.lies.finds; volumes = there.lies.volumes; has = there.lies.has };
      };
    }

-- disks that tell nothing, by a note of before
module _ (n : Node) (note : GroupNode) (was below : Bool) (old : Meaning) (it : GroupAway n note was below old) (loosens dims told agreed : Bool) (m : Meaning) (agrees : (loosens || note.loose) ≡ false → agreed ≡ true) (none : TellsNone m) (units : m.units ≡ old.units)
    (size : (u : ℕ) → m.size u ≡ old.size u) (lit : IsLit (note_held loosens dims note) told m) where
  abbrev held : GroupNode
  held = note_held loosens dims note

  dark : AwayLies n note it.last m
  dark = dark_away n note it.last old m units size none it.away.lies

  -- by themselves
  pub held_gone : (k : Node) → NotesGroup k (note_held loosens dims note) → k.state ≡ IsAway → HasFuse k.fuse m → (IsTrue m.down → ⊥) → n.disks ≡ k.disks → n.blocks ≡ k.blocks → GroupAway k (note_held loosens dims note) agreed told m
  held_gone k noted state fuse up disks blocks = record {
    noted = noted;
    lit = lit;
    agrees = agrees;
    up = up;
    fuse = fuse;
    last = it.last;
    newest = it.newest;
    spells = it.spells;
    away = record {
      state = state;
      config = it.away.config;
      frames = it.away.frames;
      found = none_noted held it.newest m none.leaves;
      some = some_as n k it.newest disks blocks it.away.some;
      lies = away_as n k held it.last m disks blocks (record {
        units = dark.units;
        size = dark.size;
        can = λ tight. none_can m none;
        sizes = dark.sizes;
        finds = λ i each. absurd (none.leaves 0 0 (i 0 0) (each 0 0));
        volumes = λ i x each is. absurd (none.leaves 0 0 (i 0 0) (each 0 0));
        has = λ i x each is. absurd (none.leaves 0 0 (i 0 0) (each 0 0));
      });
    };
  }

  -- or down, where it is not known any more what they hold
  pub held_fell : (k : Node) → NotesGroup k (note_held loosens dims note) → dims ≡ true → k.state ≡ IsDown → k.fuse ≡ NoFuse → AreStopped m → n.disks ≡ k.disks → n.blocks ≡ k.blocks → GroupDown k (note_held loosens dims note) agreed told m
  held_fell k noted dim state unfused stopped disks blocks = record {
    noted = noted;
    lit = lit;
    agrees = agrees;
    unfused = unfused;
    stopped = stopped;
    last = it.newest;
    spells = it.spells;
    away = record {
      state = state;
      config = it.away.config;
      found = none_noted held it.newest m none.leaves;
      runs = λ bright. absurd (let clash : true ≡ false = sym (ap (λ (b : Bool). b || note.dark) dim) ∙ bright in cc);
      some = some_as n k it.newest disks blocks it.away.some;
      lies = away_as n k held it.newest m disks blocks (record {
        units = dark.units;
        size = dark.size;
        can = λ tight. none_can m none;
        sizes = λ v. dark.sizes v ∙ sym (frames_blocks it.newest it.last it.away.frames v);
        finds = λ i each. absurd (none.leaves 0 0 (i 0 0) (each 0 0));
        volumes = λ i x each is. absurd (none.leaves 0 0 (i 0 0) (each 0 0));
        has = λ i x each is. absurd (none.leaves 0 0 (i 0 0) (each 0 0));
      });
    };
  }

module _ {R : Type 0} {g : Ghosts R} where
  -- disks that crashed and were brought up by themselves
  pub risen_gone : (a k : Node) (note : GroupNode) (c : Option Write) (fell idle : Idle R g) → NotesGroup k (record note { cut = c }) → k.state ≡ IsAway → k.fuse ≡ NoFuse → a.disks ≡ k.disks → a.blocks ≡ k.blocks → Revived fell idle → DownNoted a note (Down fell)
      → AwayNoted k (record note { cut = c }) (Deported idle)
  risen_gone a k note c fell idle noted state unfused disks blocks risen it =
      fell_gone a k note c idle.agreed (idle_below idle).tells (idle_disks idle) noted state (subst (λ (f : Fuse). HasFuse f (idle_disks idle)) (sym unfused) (risen.armed ∙ it.stopped.unarmed))
      (λ off. let clash : true ≡ false = sym off ∙ risen.up in cc) disks blocks (lit_since note note (idle_below fell).tells (idle_below idle).tells (idle_disks fell) (idle_disks idle) refl risen.alike.contents.tells risen.told it.lit)
      (λ tight. risen.agreed ∙ it.agrees tight) (idle_disks fell) fell.agreed (idle_below fell).tells risen.alike.contents.units risen.alike.contents.size risen.alike.contents.leaves it
