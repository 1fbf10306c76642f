-- What a line notes is no more than a note: it leaves worlds that differ in notes alone.
use Rattle.std.proofs.Common.{◌≡◌, ◌∙◌, ℕ, Bool, true, false, ap, sym, subst, refl}
use Rattle.std.specs.Prelude.{Option, Some, None, ltb}
use Rattle.vx_history.proofs.Updates.{all_updated, by_test}
use Rattle.vx_history.specs.Doubts.{Doubted}
use Rattle.vx_history.specs.Events.{packet_at}
use Rattle.vx_history.specs.Groups.{GroupNode}
use Rattle.vx_history.specs.Likes.{IsLike}
use Rattle.vx_history.specs.Steps.{burned, worked_on}
use Rattle.vx_history.specs.Stops.{IsLikeDoubted}
use Rattle.vx_history.specs.World.{Node, Packet, World, Fuse, FuseSet, updated, with_node}
use Rattle.vx_script.specs.declared.line.ScriptLine.{ScriptLine}
use Rattle.vx_script.specs.declared.line.ScriptLine.TheVariants.{Disk as DiskLine, Fuse as FuseLine, Write, Put, Apply, Link, Set, Deliver, Settle}
use Rattle.vx_events.specs.Doubts.{IsAs, with_disks}
use Rattle.vx_events.specs.Ends.{noted, IsLeft}
use Rattle.vx_events.specs.Facts.{site_number}
use Rattle.vx_events.specs.Failing.{is_failing}
use Rattle.vx_events.specs.LinkEnds.{target_noted, link_noted, AreLeft}

pub like_self : (w : World) → IsLike w w
like_self w = record {
  sites = refl;
  nodes = λ i. refl;
  links = λ p s. record { linked = refl; same = λ _. refl };
  lines = λ l. refl;
  packets = refl;
  promised = refl;
  gathering = λ i. refl;
}

pub like_noted : (v : World) (s : ℕ) (f : Fuse) → IsLike v (with_node v s (record (v.nodes s) { fuse = f }))
like_noted v s f = record {
  sites = refl;
  nodes = all_updated (λ i (n : Node). n ≡ record (v.nodes i) { fuse = n.fuse; failing = n.failing; group = n.group }) v.nodes s (record (v.nodes s) { fuse = f }) refl (λ k _. refl);
  links = λ p q. record { linked = refl; same = λ _. refl };
  lines = λ l. refl;
  packets = refl;
  promised = refl;
  gathering = λ i. refl;
}

pub like_disks : (v : World) (s : ℕ) (failing : ℕ → Bool) (group : Option GroupNode) → IsLike v (with_node v s (record (v.nodes s) { failing = failing; group = group }))
like_disks v s failing group = record {
  sites = refl;
  nodes = all_updated (λ i (n : Node). n ≡ record (v.nodes i) { fuse = n.fuse; failing = n.failing; group = n.group }) v.nodes s (record (v.nodes s) { failing = failing; group = group }) refl (λ k _. refl);
  links = λ p q. record { linked = refl; same = λ _. refl };
  lines = λ l. refl;
  packets = refl;
  promised = refl;
  gathering = λ i. refl;
}

pub like_site : (v : World) (s : ℕ) (failing : ℕ → Bool) (group : Option GroupNode) (fuse : Fuse)
    → IsLike v (with_node v s (record (v.nodes s) { failing = failing; group = group; fuse = fuse }))
like_site v s failing group fuse = record {
  sites = refl;
  nodes = all_updated (λ i (n : Node). n ≡ record (v.nodes i) { fuse = n.fuse; failing = n.failing; group = n.group }) v.nodes s (record (v.nodes s) { failing = failing; group = group; fuse = fuse }) refl (λ k _. refl);
  links = λ p q. record { linked = refl; same = λ _. refl };
  lines = λ l. refl;
  packets = refl;
  promised = refl;
  gathering = λ i. refl;
}

line_noted : (s : ℕ) (line : ScriptLine) (v : World) → IsLike v (noted s line v)
line_noted s (DiskLine site disk state) v = like_disks v s (updated (v.nodes s).failing disk (is_failing state)) (v.nodes s).group
line_noted s (FuseLine site calls pick) v = like_noted v s (FuseSet calls)
line_noted s (Write site volume start count fill) v = like_noted v s (burned (v.nodes s).fuse)
line_noted s (Put site volume start bytes) v = like_noted v s (burned (v.nodes s).fuse)
line_noted s (Apply site to) v = like_noted v s (burned (v.nodes s).fuse)
line_noted s other v = like_self v

pub like_then : {x y z : World} → IsLike x y → IsLike y z → IsLike x z
like_then {x} {y} {z} a b = record {
  sites = b.sites ∙ a.sites;
  nodes = λ i. b.nodes i ∙ ap (λ (n : Node). record n { fuse = (z.nodes i).fuse; failing = (z.nodes i).failing; group = (z.nodes i).group }) (a.nodes i);
  links = λ p q. record { linked = (b.links p q).linked ∙ (a.links p q).linked; same = λ is. (b.links p q).same ((a.links p q).linked ∙ is) ∙ (a.links p q).same is };
  lines = λ l. b.lines l ∙ a.lines l;
  packets = b.packets ∙ a.packets;
  promised = b.promised ∙ a.promised;
  gathering = λ i. b.gathering i ∙ a.gathering i;
}

-- worlds that are the same but for notes have the same doubts
pub as_like : (last new : Doubted) (v : World) → IsLike last.world v → IsAs last v new → IsLikeDoubted last new
as_like last new v like is = record { worlds = subst (λ (x : World). IsLike last.world x) (sym is.world) like; after = is.after }

pub disks_like : (taken : Bool) (s : ℕ) (w v : World) → IsLike v (with_disks taken s w v)
disks_like true s w v = like_disks v s (w.nodes s).failing (w.nodes s).group
disks_like false s w v = like_self v

pub same_like : (d new : Doubted) → new ≡ d → IsLikeDoubted d new
same_like d new is = subst (λ (x : Doubted). IsLikeDoubted d x) (sym is) (record { worlds = like_self d.world; after = λ s. refl })

-- what a line leaves
pub left_like : (s : ℕ) (line : ScriptLine) (taken : Bool) (d last new : Doubted) → IsLeft s line taken d last new → IsLikeDoubted last new
left_like s line taken d last new is =
    let v : World = with_disks taken s d.world last.world in
    as_like last new (noted s line v) (like_then (disks_like taken s d.world last.world) (line_noted s line v)) is

-- ---- lines of links

pub like_worked : (v : World) (s : ℕ) → IsLike v (worked_on v s)
like_worked v s = like_noted v s (burned (v.nodes s).fuse)

like_twice : (v : World) (p s : ℕ) → IsLike v (worked_on (worked_on v p) s)
like_twice v p s = like_then (like_worked v p) (like_worked (worked_on v p) s)

like_target : (sites : ℕ) (o : Option Packet) (v : World) → IsLike v (target_noted sites o v)
like_target sites None v = like_self v
like_target sites (Some p) v = by_test (λ (u : World). IsLike v u) (ltb p.target sites) (worked_on v p.target) v (λ _. like_worked v p.target) (λ _. like_self v)

links_noted : (w : World) (line : ScriptLine) (v : World) → IsLike v (link_noted w line v)
links_noted w (Link p s sync prot) v = like_twice v (site_number w p) (site_number w s)
links_noted w (Set p s sync prot) v = like_worked v (site_number w p)
links_noted w (Deliver number) v = like_target w.sites (packet_at w.packets number) v
links_noted w (Settle p s) v = like_twice v (site_number w p) (site_number w s)
links_noted w other v = like_self v

pub links_like : (line : ScriptLine) (d last new : Doubted) → AreLeft line d last new → IsLikeDoubted last new
links_like line d last new is = as_like last new (link_noted d.world line last.world) (links_noted d.world line last.world) is
