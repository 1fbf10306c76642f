-- The rule of a link, step by step as the program takes it.
use Rattle.std.proofs.Common.{◌≡◌, ◌∙◌, ℕ, Bool, true, sym, ap}
use Rattle.vx_history.specs.World.{Node, Link, World, no_regions}
use Rattle.vx_history.specs.Sends.{with_link}
use Rattle.vx_history.specs.LinkForms.{plain_link, with_plain}
use Rattle.vx_history.specs.Sending.{Sent, sent_step}
use Rattle.vx_history.specs.Events.{receiver_facts, link_step}
use Rattle.vx_model.specs.Sites.{same_line}
use Rattle.vx_model.specs.declared.history.Line.{Line}
use Rattle.vx_model.specs.declared.link.Link.{Link as PlainLink}
use Rattle.vx_history.specs.declared.sender.SEvent.{SEvent}
use Rattle.vx_history.specs.declared.sender.SFacts.{SFacts}
use Rattle.vx_history.proofs.Updates.{same_line_self}
use Rattle.vx_sites.specs.Shapes.{with_map}

-- a link in memory keeps no regions that were sent
pub ticked_is : (w new : World) (p s : ℕ) (mid put : Link) (after : PlainLink) (r : Sent) → mid ≡ with_map no_regions (w.links p s) → after ≡ r.link → put ≡ with_plain mid after
    → (record (with_plain mid after) { since = no_regions }) ≡ with_plain mid after → new ≡ with_link w p s (with_map (w.links p s).map put)
    → new ≡ with_link w p s (record (with_plain (w.links p s) r.link) { since = no_regions })
ticked_is w new p s mid put after r is stepped made none changed =
    changed
    ∙ ap (λ (l : Link). with_link w p s (with_map (w.links p s).map l))
    (made ∙ sym none ∙ ap (λ (l : Link). let m : Link = record (with_plain l after) { since = no_regions } in m) is
    ∙ ap (λ (l : PlainLink). let m : Link = record (with_plain (with_map no_regions (w.links p s)) l) { since = no_regions } in m) stepped)

-- what a message of the site's own line finds there
pub own_facts : (n m : Node) → n ≡ m → (let f : SFacts = record { safe = n.safe; line_ok = true } in f) ≡ receiver_facts m m.line
own_facts n m same =
    ap (λ (x : Node). let f : SFacts = record { safe = x.safe; line_ok = true } in f) same
    ∙ ap (λ b. let f : SFacts = record { safe = m.safe; line_ok = b } in f) (sym (same_line_self m.line))

pub step_is : (w : World) (p s : ℕ) (e : SEvent) (mid : Link) (plain : PlainLink) (facts : SFacts) → mid ≡ with_map no_regions (w.links p s) → plain ≡ plain_link s mid
    → facts ≡ receiver_facts (w.nodes p) (w.nodes p).line
    → sent_step plain e facts ≡ link_step w p s e
step_is w p s e mid plain facts is spelled told =
    ap (λ (l : PlainLink). sent_step l e facts) (spelled ∙ ap (λ (l : Link). plain_link s l) is)
    ∙ ap (λ (f : SFacts). sent_step (plain_link s (w.links p s)) e f) told

pub moved_is : (w new : World) (p s : ℕ) (mid put : Link) (after : PlainLink) (r : Sent) → mid ≡ with_map no_regions (w.links p s) → after ≡ r.link → put ≡ with_plain mid after
    → new ≡ with_link w p s (with_map (w.links p s).map put)
    → new ≡ with_link w p s (with_plain (w.links p s) r.link)
moved_is w new p s mid put after r is stepped made changed =
    changed
    ∙ ap (λ (l : Link). with_link w p s (with_map (w.links p s).map l)) (made ∙ ap (λ (l : Link). with_plain l after) is ∙ ap (λ (l : PlainLink). with_plain (with_map no_regions (w.links p s)) l) stepped)

-- what a message of any line finds at a site
pub heard_facts : (n m : Node) (line : Line) (ok : Bool) → n ≡ m → ok ≡ same_line line n.line → (let f : SFacts = record { safe = n.safe; line_ok = ok } in f) ≡ receiver_facts m line
heard_facts n m line ok same is =
    ap (λ (b : Bool). let f : SFacts = record { safe = n.safe; line_ok = b } in f) is ∙ ap (λ (x : Node). receiver_facts x line) same

pub heard_is : (w : World) (p s : ℕ) (line : Line) (e : SEvent) (mid : Link) (plain : PlainLink) (facts : SFacts) → mid ≡ with_map no_regions (w.links p s) → plain ≡ plain_link s mid
    → facts ≡ receiver_facts (w.nodes p) line → sent_step plain e facts ≡ sent_step (plain_link s (w.links p s)) e (receiver_facts (w.nodes p) line)
heard_is w p s line e mid plain facts is spelled told =
    ap (λ (l : PlainLink). sent_step l e facts) (spelled ∙ ap (λ (l : Link). plain_link s l) is)
    ∙ ap (λ (f : SFacts). sent_step (plain_link s (w.links p s)) e f) told
