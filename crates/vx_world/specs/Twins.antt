-- Two worlds that differ in one halted site and its links alone.
use Rattle.std.specs.Prelude.{◌≡◌, ℕ, ◌<◌, false}
use Rattle.vx_history.specs.Refusals.{is_running}
use Rattle.vx_history.specs.World.{World}
use Rattle.vx_history.specs.declared.event.Event.{Event}
use Rattle.vx_history.specs.declared.event.Event.TheVariants.{Site, Raw, Group, Volumes, Write, Read, Apply, Pump, Tick, Deliver, Connect, Cut, Pause, Resume, Wait, Link, Set, Attach, Detach, Crash, Deport, Fall, Recover, Fault}
use Rattle.vx_history.specs.GoodWorld.{GoodWorld}
use Rattle.vx_model.specs.declared.site.SiteState.TheVariants.{Up}

pub record Twin (s : ℕ) (w v : World) : Type 0 where
  pub sites : v.sites ≡ w.sites
  pub nodes : (i : ℕ) → (i ≡ s → ⊥) → v.nodes i ≡ w.nodes i
  pub rows : (i : ℕ) → (i ≡ s → ⊥) → v.links i ≡ w.links i
  pub lines : v.lines ≡ w.lines
  pub packets : v.packets ≡ w.packets
  pub promised : v.promised ≡ w.promised
  pub gathering : (i : ℕ) → v.gathering i ≡ w.gathering i
  pub here : s < w.sites
  pub name : (v.nodes s).name ≡ (w.nodes s).name
  pub up : (w.nodes s).state ≡ Up
  pub up_too : (v.nodes s).state ≡ Up
  pub halted : is_running (w.nodes s).halted ≡ false
  pub halted_too : is_running (v.nodes s).halted ≡ false

-- the event is none of what crashes, recovers or halts this site
abbrev pub IsElsewhere : ℕ → Event → Type 0
IsElsewhere s (Site name disks blocks) = Unit {0}
IsElsewhere s (Raw p) = Unit {0}
IsElsewhere s (Group p) = Unit {0}
IsElsewhere s (Volumes p log xs) = Unit {0}
IsElsewhere s (Write p volume start bytes fails) = Unit {0}
IsElsewhere s (Read p volume start count) = Unit {0}
IsElsewhere s (Apply p count reached) = Unit {0}
IsElsewhere s (Pump p q) = Unit {0}
IsElsewhere s (Tick p q) = Unit {0}
IsElsewhere s (Deliver number) = Unit {0}
IsElsewhere s (Connect p q) = Unit {0}
IsElsewhere s (Cut p q) = Unit {0}
IsElsewhere s (Pause p q) = Unit {0}
IsElsewhere s (Resume p q) = Unit {0}
IsElsewhere s (Wait p number) = Unit {0}
IsElsewhere s (Link p q sync prot part) = Unit {0}
IsElsewhere s (Set p q sync prot) = Unit {0}
IsElsewhere s (Attach p q) = Unit {0}
IsElsewhere s (Detach p q) = Unit {0}
IsElsewhere s (Crash p kept) = p ≡ s → ⊥
IsElsewhere s (Deport p) = Unit {0}
IsElsewhere s (Fall p) = Unit {0}
IsElsewhere s (Recover p fails) = p ≡ s → ⊥
IsElsewhere s (Fault p disk) = p ≡ s → ⊥

-- both are good: what the site is, and what it may be on its disks
pub record GoodTwin (s : ℕ) (w v : World) : Type 0 where
  pub twin : Twin s w v
  pub good : GoodWorld w
  pub good_too : GoodWorld v

-- u is w but for one site, its links, and what it has in assembly
pub record IsAlone (s : ℕ) (w u : World) : Type 0 where
  pub sites : u.sites ≡ w.sites
  pub nodes : (i : ℕ) → (i ≡ s → ⊥) → u.nodes i ≡ w.nodes i
  pub rows : (i : ℕ) → (i ≡ s → ⊥) → u.links i ≡ w.links i
  pub lines : u.lines ≡ w.lines
  pub packets : u.packets ≡ w.packets
  pub promised : u.promised ≡ w.promised
  pub gathering : (i : ℕ) → (i ≡ s → ⊥) → u.gathering i ≡ w.gathering i
  pub name : (u.nodes s).name ≡ (w.nodes s).name
  pub up : (u.nodes s).state ≡ Up
