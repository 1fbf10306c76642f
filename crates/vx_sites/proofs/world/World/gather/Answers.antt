-- `gather`: its result.
use Rattle.std.proofs.Common.{◌≡◌, ◌∙◌, ℕ, Bool, List, ap}
use Rattle.std.specs.Prelude.{Option, None}
use Rattle.vx_history.specs.World.{Gathering, World, updated}
use Rattle.vx_history.specs.Gatherings.{came_after, all_came, left_by}
use Rattle.vx_sites.specs.Shapes.{world_of, packet_of, held_of, plain_key}
use Rattle.vx_sites.specs.declared.gathering.Place.{Place}
use Rattle.vx_sites.proofs.Tables.{seen-set}
use Rattle.vx_sites.proofs.Placing.{left_whole, left_part}
use Rattle.vx_sites.proofs.world.World.gather.Goals as goal
use Rattle.vx_sites.proofs.world.World.gather.Goals.{then-is_whole, else-is_whole}

pub returns : goal.returns
returns c =
    let w : World = world_of c.args.self.now in
    let p = packet_of c.args.packet.now in
    let came : List Bool = c.in_ok-came.came.items in
    let is : came ≡ came_after (w.gathering p.target) p = c.in_ok-came.ensures in
    let tested : c.is_whole.result ≡ all_came came = c.is_whole.ensures ∙ ap all_came c.deref.ensures.value in
    let held : held_of c.if-is_whole.held ≡ left_by (w.gathering p.target) p =
    elim c.if-is_whole.branch [
      | then-is_whole x ↦ ap held_of x.held-is ∙ left_whole (w.gathering p.target) p came c.is_whole.result is tested x.if-is_whole.true
      | else-is_whole x ↦ ap held_of x.held-is ∙ left_part (w.gathering p.target) p came c.is_whole.result (plain_key x.key_of.result) is tested x.if-is_whole.false x.key_of.ensures
    ] in
    ap (λ (g : ℕ → Option Gathering). let v : World = record w { gathering = g } in v)
    (seen-set (λ (x : Place). held_of x.held) None c.lengthen_places.new.places.items p.target (record { held = c.if-is_whole.held }) c.in_ok-lengthen_places.ensures.within
    ∙ ap (λ (f : ℕ → Option Gathering). updated f p.target (held_of c.if-is_whole.held)) c.in_ok-lengthen_places.ensures.same
    ∙ ap (λ (g : Option Gathering). updated w.gathering p.target g) held)
