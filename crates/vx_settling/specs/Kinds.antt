-- The events of which settling a link is made, and what each of them leaves of sites and links.
use Rattle.std.specs.Prelude.{◌≡◌, ◌≤◌, ◌++◌, ℕ, Bool, true, false, List}
use Rattle.std.specs.List.{AllByRecursion}
use Rattle.vx_model.specs.Sites.{is_origin}
use Rattle.vx_model.specs.declared.link.Mode.TheVariants.{Log}
use Rattle.vx_history.specs.World.{Link, Node, Packet, World}
use Rattle.vx_history.specs.declared.event.Event.{Event}
use Rattle.vx_history.specs.declared.event.Event.TheVariants.{Apply, Connect, Deliver, Pump, Tick}

-- a link is connected, ticked or pumped, a packet is delivered, or what waits is applied
abbrev pub is_settling : Event → Bool
is_settling (Connect p s) = true
is_settling (Tick p s) = true
is_settling (Pump p s) = true
is_settling (Deliver number) = true
is_settling (Apply s count reached) = true
is_settling other = false

abbrev pub AreSettling : List Event → Type 0
AreSettling events = AllByRecursion (λ e. is_settling e ≡ true) events

-- a site that took updates and applied them, or did not
abbrev pub IsStillSite : Node → Node → Type 0
IsStillSite n k = k ≡ record n { fed_by = k.fed_by; base = k.base; log = k.log; safe = k.safe; mark = k.mark }

-- A link that moved by its rule: it is as it was but for what it knows of its receiver, of which neither the session falls nor what is stored. It stays
-- connected, and goes by the log still.
pub record StillGoes (l m : Link) : Type 0 where
  pub rest : m ≡ record l { connected = m.connected; session = m.session; net = m.net; stored = m.stored; sent = m.sent; trimmed = m.trimmed; mode = m.mode; since = m.since }
  pub connects : l.connected ≡ true → m.connected ≡ true
  pub trims : l.trimmed ≡ 0 → m.trimmed ≡ 0
  pub logs : l.mode ≡ Log → m.mode ≡ Log
  pub sessions : l.session ≤ m.session
  pub stores : l.stored ≤ m.stored

-- What such events leave of a world: each site and each link is as it was but for that, and where writes arise a site is wholly as it was. Packets are
-- sent, and none is forgotten.
pub record StaysAs (w v : World) : Type 0 where
  pub sites : v.sites ≡ w.sites
  pub nodes : (i : ℕ) → IsStillSite (w.nodes i) (v.nodes i)
  pub origins : (i : ℕ) → is_origin (w.nodes i).role ≡ true → v.nodes i ≡ w.nodes i
  pub links : (i k : ℕ) → StillGoes (w.links i k) (v.links i k)
  pub more : List Packet
  pub sent : v.packets ≡ w.packets ++ more
