-- Disks of which only the fuse changed, or which of them are made to fail: what stands on them stays.
use Rattle.std.proofs.Common.{◌≡◌, ℕ, true, IsTrue, List, Option, Some, None, refl, sym, ◌∙◌, ap, subst, arith, Bool}
use Rattle.vx_disk.specs.Causes.{OnDisks, WithDisks}
use Rattle.vx_disk.specs.Disks.{Disks, SameBlocks}
use Rattle.vx_disk.specs.Racks.{Alike, IsRack}
use Rattle.vx_disk.specs.Shelf.{Each, Image, Meaning}
use Rattle.vx_history.specs.Groups.{GroupNode}
use Rattle.vx_history.specs.World.{Fuse, NoFuse, FuseSet, FuseLit, Node}
use Rattle.vx_config.specs.Configs.{HasSpelling}
use Rattle.vx_config.specs.declared.config.Config.{Config}
use Rattle.vx_kept.specs.Cleans.{at_serial}
use Rattle.vx_kept.specs.Facts.{is_found}
use Rattle.vx_kept.proofs.Low.{found_same}
use Rattle.vx_group.specs.Holding.{wide}
use Rattle.vx_group.specs.Stands.{inner_meaning}
use Rattle.vx_group.specs.declared.group_core.GroupCore.{GroupCore}
use Rattle.vx_group.proofs.AgainLemmas.{less_can}
use Rattle.vx_grouped.specs.Away.{AwayLies, IsAwayAt, IsDeportedAt}
use Rattle.vx_grouped.specs.GroupNotes.{GroupLies, noted_config}
use Rattle.vx_grouped.specs.GroupSites.{IsMarkedSite, AreStopped, GroupAway, GroupDown, GroupFallen, GroupUp, IsLit}
use Rattle.vx_grouped.specs.Plain.{HoldsPlain}
use Rattle.vx_grouped.specs.SetFuses.{HasFuse, LetsPass}
use Rattle.vx_grouped.proofs.ImageLemmas.{images_less, less_from, less_noted}
use Rattle.vx_grouped.proofs.SiteLemmas.{lies_as}
use Rattle.vx_grouped.proofs.TraceLemmas.{lit_since}

-- ---- the fuse

lets_pass : (calls : ℕ) (old new : Option Disks) (P : Disks → Disks → Type 0) → ((o n : Disks) → P o n → n.fuse ≡ o.fuse) → WithDisks old new P → LetsPass calls old → LetsPass calls new
lets_pass calls None new P same on it = absurd it
lets_pass calls (Some o) None P same on it = absurd on
lets_pass calls (Some o) (Some n) P same on it = (it.0, same o n on ∙ it.1)

pub fuse_stays : (f : Fuse) (m m' : Meaning) (P : Disks → Disks → Type 0) → m'.armed ≡ m.armed → ((o n : Disks) → P o n → n.fuse ≡ o.fuse) → WithDisks m.disks m'.disks P → HasFuse f m → HasFuse f m'
fuse_stays NoFuse m m' P armed same on it = armed ∙ it
fuse_stays (FuseSet calls) m m' P armed same on it = lets_pass calls m.disks m'.disks P same on it
fuse_stays (FuseLit most) m m' P armed same on it = tt

fuse_is : (calls pick : ℕ) (told : Disks) (old new : Option Disks) → old ≡ Some told → OnDisks old new (λ o n. SameBlocks o n × (n.fuse ≡ Some (calls, pick))) → LetsPass calls new
fuse_is calls pick told None new is on = cc
fuse_is calls pick told (Some o) None is on = absurd on
fuse_is calls pick told (Some o) (Some n) is on = (pick, on.0.1)

pub fuse_now : (calls pick : ℕ) (m m' : Meaning) → IsRack m → OnDisks m.disks m'.disks (λ o n. SameBlocks o n × (n.fuse ≡ Some (calls, pick))) → LetsPass calls m'.disks
fuse_now calls pick m m' rack on = fuse_is calls pick rack.told m.disks m'.disks rack.is on

-- ---- a group over them

holds_alike : (note : GroupNode) (a c : Meaning) → Alike a c → HoldsPlain note a → HoldsPlain note c
holds_alike note a c alike it = record {
  size = λ w. it.size w ∙ sym (alike.contents.size w);
  has = λ u b x there within left. it.has u b x (let same = alike.contents.units in omega (arith, there, same)) (let same = alike.contents.size u in omega (arith, within, same)) (alike.contents.leaves u b x left);
}

module _ (n : Node) (note : GroupNode) (c d : GroupCore) (m m' : Meaning) (core : d ≡ c) (alike : Alike m m') (down : m'.down ≡ m.down) (volumes : Alike (inner_meaning (wide c) m) (inner_meaning (wide d) m')) (told told' : Bool) (less : IsTrue told' → IsTrue told) where
  pub alike_lies : GroupLies n note c m → GroupLies n note d m'
  alike_lies lies = record {
    units = alike.contents.units ∙ lies.units;
    size = λ u low. alike.contents.size u ∙ lies.size u low;
    config = lies.config ∙ ap (λ (x : GroupCore). noted_config x.inner.config) (sym core);
    agreed = λ tight. ap (λ (x : GroupCore). x.inner.agreed) core ∙ lies.agreed tight;
    committed = λ tight none. ap (λ (x : GroupCore). x.inner.committed) core ∙ lies.committed tight none;
    images = images_less note c d m m' core (less_from m m' alike.contents.units alike.contents.size alike.contents.leaves) lies.images;
    holds = holds_alike note (inner_meaning (wide c) m) (inner_meaning (wide d) m') volumes lies.holds;
  }

  lit : IsLit note told m → IsLit note told' m'
  lit it = lit_since note note told told' m m' refl alike.contents.tells less it

  spells_core : HasSpelling (at_serial 0 c.inner.config) → HasSpelling (at_serial 0 d.inner.config)
  spells_core it = subst (λ (x : GroupCore). HasSpelling (at_serial 0 x.inner.config)) (sym core) it

  pub alike_up : HasFuse n.fuse m' → GroupUp n note told c m → GroupUp n note told' d m'
  alike_up fuse it = record { noted = it.noted; lit = lit it.lit; fuse = fuse; spells = spells_core it.spells; at = record { state = it.at.state; up = λ is. it.at.up (subst IsTrue down is); lies = alike_lies it.at.lies } }

  pub alike_fallen : GroupFallen n note told c m → GroupFallen n note told' d m'
  alike_fallen it = record { noted = it.noted; lit = lit it.lit; spells = spells_core it.spells; cut = record { down = down ∙ it.cut.down; lies = alike_lies it.cut.lies } }

  -- with a fuse that was just set
  pub fused_up : (calls : ℕ) → LetsPass calls m'.disks → GroupUp n note told c m → GroupUp (record n { fuse = FuseSet calls }) note told' d m'
  fused_up calls fuse it = record {
    lit = lit it.lit;
    noted = record { is = it.noted.is; none = record { role = it.noted.none.role; volumes = it.noted.none.volumes; log = it.noted.none.log; safe = it.noted.none.safe; running = it.noted.none.running } };
    fuse = fuse;
    spells = spells_core it.spells;
    at = record { state = it.at.state; up = λ is. it.at.up (subst IsTrue down is); lies = lies_as n (record n { fuse = FuseSet calls }) note d m' refl refl (alike_lies it.at.lies) };
  }

-- ---- disks by themselves

module _ (n : Node) (note : GroupNode) (m m' : Meaning) (units : m'.units ≡ m.units) (size : (u : ℕ) → m'.size u ≡ m.size u) (leaves : (u b : ℕ) (v : List ℕ) → m'.leaves u b v → m.leaves u b v) where
  before : (i : Image) → Each m'.leaves i → Each m.leaves i
  before i each u b = leaves u b (i u b) (each u b)

  pub less_away : (last : Config) → AwayLies n note last m → AwayLies n note last m'
  less_away last it = record {
    units = units ∙ it.units;
    size = λ u low. size u ∙ it.size u low;
    can = λ tight. less_can m m' units size leaves (it.can tight);
    sizes = it.sizes;
    finds = λ i each. subst (λ o. is_found o ≡ true) (sym (found_same m m' units size (λ u. true) i)) (it.finds i (before i each));
    volumes = λ i x each is. it.volumes i x (before i each) (sym (found_same m m' units size (λ u. true) i) ∙ is);
    has = λ i x each is. it.has i x (before i each) (sym (found_same m m' units size (λ u. true) i) ∙ is);
  }

  pub less_down : (last : Config) → IsAwayAt n note last m → IsAwayAt n note last m'
  less_down last it = record { state = it.state; config = it.config; found = less_noted note last m m' (less_from m m' units size leaves) it.found; runs = it.runs; some = it.some; lies = less_away last it.lies }

  pub less_deported : (last newest : Config) → IsDeportedAt n note last newest m → IsDeportedAt n note last newest m'
  less_deported last newest it = record { state = it.state; config = it.config; frames = it.frames; found = less_noted note newest m m' (less_from m m' units size leaves) it.found; some = it.some; lies = less_away last it.lies }

module _ (n : Node) (m m' : Meaning) (alike : Alike m m') (down : m'.down ≡ m.down) (armed : m'.armed ≡ m.armed) (was is : Bool) (same : is ≡ was) (told told' : Bool) (less : IsTrue told' → IsTrue told) where
  stopped_alike : AreStopped m → AreStopped m'
  stopped_alike it = record { down = down ∙ it.down; unarmed = armed ∙ it.unarmed }

  pub alike_down : (note : GroupNode) → GroupDown n note was told m → GroupDown n note is told' m'
  alike_down note it = record { noted = it.noted; lit = lit_since note note told told' m m' refl alike.contents.tells less it.lit; agrees = λ tight. same ∙ it.agrees tight; unfused = it.unfused; stopped = stopped_alike it.stopped; last = it.last; spells = it.spells; away = less_down n note m m' alike.contents.units alike.contents.size alike.contents.leaves it.last it.away }

  pub alike_away : (note : GroupNode) → HasFuse n.fuse m' → GroupAway n note was told m → GroupAway n note is told' m'
  alike_away note fuse it = record { noted = it.noted; lit = lit_since note note told told' m m' refl alike.contents.tells less it.lit; agrees = λ tight. same ∙ it.agrees tight; up = λ is. it.up (subst IsTrue down is); fuse = fuse; last = it.last; newest = it.newest; spells = it.spells; away = less_deported n note m m' alike.contents.units alike.contents.size alike.contents.leaves it.last it.newest it.away }

  pub alike_marked : IsMarkedSite n m → IsMarkedSite n m'
  alike_marked it = record {
    state = it.state;
    units = alike.contents.units ∙ it.units;
    size = λ u low. alike.contents.size u ∙ it.size u low;
    unfused = it.unfused;
    up = down ∙ it.up;
    unarmed = armed ∙ it.unarmed;
  }
