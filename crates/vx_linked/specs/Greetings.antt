-- The greeting of a receiver as a link to it is connected.
use Rattle.std.specs.Prelude.{◌≡◌, ℕ, ◌<◌, ◌≤◌, Bool, true, false, not, ◌&&◌, List, [], Option, Some, None, if◌then◌else◌}
use Rattle.vx_events.specs.GroupLines.{is_over_group}
use Rattle.vx_history.specs.Refusals.{is_running}
use Rattle.vx_history.specs.Sends.{packets_of}
use Rattle.vx_history.specs.World.{Hello, Node, Packet}
use Rattle.vx_model.specs.Sites.{is_origin, same_line}
use Rattle.vx_model.specs.declared.history.Line.{Line}
use Rattle.vx_model.specs.declared.site.SiteState.TheVariants.{Up}
use Rattle.vx_net.specs.Flights.{Flying, greatest_packet}
use Rattle.vx_order.specs.declared.facts.RvgFacts.{RvgFacts}
use Rattle.vx_order.specs.declared.facts.SiteFacts.{SiteFacts}
use Rattle.vx_order.specs.Sites.{rvg_of, site_named}

-- a group that receives on this line, and is not halted
abbrev pub receives_on : Line → RvgFacts → Bool
receives_on line r = is_running r.halted && (not (is_origin r.role) && same_line r.line line)

-- of two sites' groups the second, where it receives on the line of the first
abbrev pub greeter_of : (first second : Option RvgFacts) → Option RvgFacts
greeter_of None second = None
greeter_of (Some a) None = None
greeter_of (Some a) (Some b) = if receives_on a.line b then Some b else None

-- the group that greets as a link from this site to that one is connected
abbrev pub greeter : List SiteFacts → (from to : List ℕ) → Option RvgFacts
greeter sites from to = greeter_of (rvg_of (site_named sites from)) (rvg_of (site_named sites to))

-- the packets in which it greets, or none
abbrev pub hello_of : Option RvgFacts → (source target session stored : ℕ) → List Packet
hello_of None source target session stored = []
hello_of (Some r) source target session stored = packets_of source target r.line (Hello session r.last stored)

-- The session of a site that is up and receives, and, where it runs, how many writes a crash there keeps. A site over a group does not receive.
pub record Tells (n : Node) (session stored : ℕ) : Type 0 where
  pub origin : is_over_group n ≡ true → is_origin n.role ≡ true
  pub session_is : n.state ≡ Up → is_origin n.role ≡ false → session ≡ n.session
  pub stored_is : n.state ≡ Up → n.halted ≡ None → is_origin n.role ≡ false → stored ≡ n.safe

-- a packet can carry the greeting, and a number is left for it
pub record CanGreet (f : Flying) (session stored : ℕ) (r : RvgFacts) : Type 0 where
  pub room : f.count < greatest_packet
  pub session_fits : session ≤ greatest_packet
  pub stored_fits : stored ≤ greatest_packet
  pub last_fits : r.last ≤ greatest_packet
  pub generation_fits : r.line.generation ≤ greatest_packet
