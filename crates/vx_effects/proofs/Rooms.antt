-- A write that is let in leaves room for what links need.
use Rattle.std.proofs.Common.{◌≡◌, ◌∙◌, inl, inr, ◌+◌, ◌≤◌, ℕ, List, [], ◌∷◌, zip, Bool, true, false, ap, sym, refl, arith}
use Rattle.std.specs.Prelude.{◌&&◌, ltb, Option, Some, None, if◌then◌else◌}
use Rattle.std.proofs.lemmas.Bool.Decides.{nat_tests}
use Rattle.vx_model.specs.Content.{Write, blocks_in}
use Rattle.vx_model.specs.declared.link.Link.{Link as PlainLink}
use Rattle.vx_model.specs.declared.link.Prot.{Prot}
use Rattle.vx_model.specs.declared.link.Prot.TheVariants.{Fail}
use Rattle.vx_history.proofs.Places.{links_listed}
use Rattle.vx_history.specs.Admission.{Goes, Held, Held_by, blocks, first_down, first_full, full_log, full_log_of, held_by_room, held_when_full, is_holding, is_live_link, or_else, unless_held}
use Rattle.vx_history.specs.Events.{admitted, linked_sites, plain_links, used_above, log_uses}
use Rattle.vx_history.specs.LinkForms.{plain_link}
use Rattle.vx_history.specs.Listed.{IsAmong}
use Rattle.vx_history.specs.Sends.{is_linked}
use Rattle.vx_history.specs.World.{Link, Node, World}
use Rattle.vx_history.specs.declared.admission.Change.{Change}
use Rattle.vx_events.specs.LinksFit.{RowFits}

-- nothing holds a write that goes
full_none : (a b : Option Held) (cs ds : List Change) → unless_held a (unless_held b (Goes cs)) ≡ Goes ds → b ≡ None
full_none (Some x) b cs ds e = absurd (let f : Held_by x ≡ Goes ds = e in cc)
full_none None (Some x) cs ds e = absurd (let f : Held_by x ≡ Goes ds = e in cc)
full_none None None cs ds e = refl

first_none : (a b : Option Held) → or_else a b ≡ None → a ≡ None
first_none (Some x) b e = absurd (cc)
first_none None b e = refl

rest_none : (a b : Option Held) → or_else a b ≡ None → b ≡ None
rest_none (Some x) b e = absurd (cc)
rest_none None b e = e

each_none : (need room : ℕ) (n : Node) (row : ℕ → Link) (ss : List ℕ) (s : ℕ) → first_full need room (zip (plain_links row ss) (log_uses n row ss)) ≡ None → IsAmong s ss
    → held_by_room need room (plain_link s (row s)) (used_above n s (row s)) ≡ None
each_none need room n row [] s e among = absurd among
each_none need room n row (t ∷ ts) s e (inl same) =
    ap (λ (i : ℕ). held_by_room need room (plain_link i (row i)) (used_above n i (row i))) same ∙ first_none (held_by_room need room (plain_link t (row t)) (used_above n t (row t))) _ e
each_none need room n row (t ∷ ts) s e (inr more) = each_none need room n row ts s (rest_none (held_by_room need room (plain_link t (row t)) (used_above n t (row t))) _ e) more

-- a link that fails what its log has no room for leaves room
never_none : (p : Prot) (live : Bool) (site : ℕ) → p ≡ Fail → held_when_full (full_log p live) site ≡ None → ⊥
never_none p true site e none = let f : held_when_full (full_log Fail true) site ≡ None = ap (λ (q : Prot). held_when_full (full_log q true) site) (sym e) ∙ none in cc
never_none p false site e none = let f : held_when_full (full_log Fail false) site ≡ None = ap (λ (q : Prot). held_when_full (full_log q false) site) (sym e) ∙ none in cc

not_blocking : (b : Bool) (x : Option Held) → (x ≡ None → ⊥) → (if b then x else None) ≡ None → b ≡ false
not_blocking true x never e = absurd (never e)
not_blocking false x never e = refl

at_most : (a b : ℕ) → ltb a b ≡ false → b ≤ a
at_most a b e = grind (arith, nat_tests)

pub has_room : (w : World) (s : ℕ) (x : Write) (cs : List Change) → RowFits s w.sites (w.links s) → admitted w s x ≡ Goes cs → (k : ℕ) → is_linked (w.links s k) ≡ true
    → is_holding (plain_link k (w.links s k)) ≡ true → (blocks_in x.bytes + 1) + used_above (w.nodes s) k (w.links s k) ≤ (w.nodes s).ring
has_room w s x cs fit goes k linked holding =
    let n : Node = w.nodes s in
    let row : ℕ → Link = w.links s in
    let ss : List ℕ = linked_sites row w.sites 0 w.sites in
    let need : ℕ = blocks_in x.bytes + 1 in
    let l : PlainLink = plain_link k (row k) in
    let used : ℕ = used_above n k (row k) in
    let none : first_full need n.ring (zip (plain_links row ss) (log_uses n row ss)) ≡ None = full_none (first_down (plain_links row ss)) _ _ cs goes in
    let one : held_by_room need n.ring l used ≡ None = each_none need n.ring n row ss k none (links_listed w.sites row fit.places k linked) in
    let free : blocks need n.ring l used ≡ false =
    not_blocking (blocks need n.ring l used) (held_when_full (full_log_of l) l.site) (never_none l.prot (is_live_link l) l.site (fit.plain k linked).prot) one in
    at_most n.ring (need + used) (sym (ap (λ (b : Bool). b && ltb n.ring (need + used)) holding) ∙ free)
