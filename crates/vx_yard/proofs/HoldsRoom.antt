-- A write that no test refuses finds room in the log of its site beside what the links of that site need.
use Rattle.std.proofs.Common.{◌≡◌, ◌∙◌, ⊎_elim, ◌+◌, ◌≤◌, ℕ, zero, suc, List, [], ◌∷◌, length, drop, Bool, true, ap, sym, refl, arith}
use Rattle.std.specs.Prelude.{◌&&◌, Some, slice_get, if◌then◌else◌}
use Rattle.std.proofs.lemmas.List.{drop_all}
use Rattle.vx_order.specs.Sending.{last_number}
use Rattle.vx_model.specs.Content.{Write, blocks_in}
use Rattle.vx_model.specs.Sites.{is_origin}
use Rattle.vx_model.specs.declared.link.Mode.{Mode}
use Rattle.vx_model.specs.declared.link.Mode.TheVariants.{Log, Dcm, Replay, Fork, Stale}
use Rattle.vx_model.specs.declared.site.SiteState.{SiteState}
use Rattle.vx_model.specs.declared.site.SiteState.TheVariants.{Up}
use Rattle.vx_model.specs.declared.state.KeptLink.{KeptLink}
use Rattle.vx_history.specs.Admission.{Goes, hold, is_holding, mode_hold, mode_holds}
use Rattle.vx_history.specs.Events.{admitted, linked_sites, logged_blocks, used_above}
use Rattle.vx_history.specs.KeptLinks.{kept_link, kept_links, kept_mode, kept_start}
use Rattle.vx_history.specs.LinkForms.{plain_link}
use Rattle.vx_history.specs.Sends.{is_linked}
use Rattle.vx_history.specs.World.{Link, Node, World}
use Rattle.vx_history.specs.declared.admission.Change.{Change}
use Rattle.vx_order.specs.declared.facts.LinkFacts.{LinkFacts}
use Rattle.vx_order.specs.declared.facts.SiteFacts.{SiteFacts}
use Rattle.vx_diskset.specs.Holds.{header_links}
use Rattle.vx_diskset.specs.Needs.{HasRoom, NoneNeeds, hold_of, is_needing, kept_mode_hold as kept_hold, mode_needs}
use Rattle.vx_events.proofs.LinkTesting.{AllLinked, all_linked}
use Rattle.vx_events.proofs.Places.{some_same}
use Rattle.vx_events.specs.Facts.{group_by}
use Rattle.vx_events.specs.LinkedFacts.{link_fact, link_facts, linked_fact, links_by}
use Rattle.vx_events.specs.LinksFit.{RowFits, is_plain_mode}
use Rattle.vx_effects.proofs.Rooms.{has_room}
use Rattle.vx_linked.specs.Holds.{HeldBy, least_hold}
use Rattle.vx_linked.proofs.LeastHolds.{least_by, least_each}

-- a link by the log needs it, and its hold is what it has stored
needing_is : (m : Mode) → mode_needs (kept_mode m) ≡ mode_holds m
needing_is Log = refl
needing_is Dcm = refl
needing_is (Replay id phase left start end) = refl
needing_is (Fork maps) = refl
needing_is Stale = refl

hold_is : (m : Mode) (stored : ℕ) → is_plain_mode m ≡ true → kept_hold (kept_mode m) (kept_start m) stored ≡ mode_hold m stored
hold_is Log stored e = refl
hold_is Dcm stored e = absurd (cc)
hold_is (Replay id phase left start end) stored e = absurd (cc)
hold_is (Fork maps) stored e = absurd (cc)
hold_is Stale stored e = refl

-- the link of this place in a header, and in memory
record AtPlace (n : Node) (row : ℕ → Link) (ss : List ℕ) (k : ℕ) : Type 0 where
  to : ℕ
  linked : is_linked (row to) ≡ true
  kept : slice_get (kept_links row ss) k ≡ Some (kept_link to (row to))
  fact : slice_get (link_facts n row ss) k ≡ Some (link_fact n to (row to))

further : (n : Node) (row : ℕ → Link) (s : ℕ) (ss : List ℕ) (k : ℕ) → AtPlace n row ss k → AtPlace n row (s ∷ ss) (suc k)
further n row s ss k a = record { to = a.to; linked = a.linked; kept = a.kept; fact = a.fact }

of_kept : (n : Node) (row : ℕ → Link) (ss : List ℕ) (k : ℕ) (l : KeptLink) → AllLinked row ss → slice_get (kept_links row ss) k ≡ Some l → AtPlace n row ss k
of_kept n row [] k l all is = absurd (cc)
of_kept n row (s ∷ ss) zero l all is = record { to = s; linked = all.0; kept = refl; fact = refl }
of_kept n row (s ∷ ss) (suc k) l all is = further n row s ss k (of_kept n row ss k l all.1 is)

of_fact : (n : Node) (row : ℕ → Link) (ss : List ℕ) (k : ℕ) (l : LinkFacts) → AllLinked row ss → slice_get (link_facts n row ss) k ≡ Some l → AtPlace n row ss k
of_fact n row [] k l all is = absurd (cc)
of_fact n row (s ∷ ss) zero l all is = record { to = s; linked = all.0; kept = refl; fact = refl }
of_fact n row (s ∷ ss) (suc k) l all is = further n row s ss k (of_fact n row ss k l all.1 is)

module _ (w : World) (s : ℕ) (fit : RowFits s w.sites (w.links s)) (up : (w.nodes s).state ≡ Up) where
  abbrev n : Node
  n = w.nodes s

  abbrev row : ℕ → Link
  row = w.links s

  abbrev ss : List ℕ
  ss = linked_sites (w.links s) w.sites 0 w.sites

  abbrev f : SiteFacts
  f = linked_fact w s

  shown : f.links ≡ link_facts n row ss
  shown = ap (λ (t : SiteState). links_by t (link_facts n row ss)) up

  -- the least hold is no more than what any link needs
  pub none_needs : NoneNeeds (header_links w s) (least_hold f)
  none_needs = record {
    each = λ k l is needs.
        let a : AtPlace n row ss k = of_kept n row ss k l (all_linked row w.sites 0 w.sites) is in
        let r : Link = row a.to in
        let same : kept_link a.to r ≡ l = some_same (sym a.kept ∙ is) in
        let holding : is_holding (plain_link a.to r) ≡ true
        = sym (ap (λ (b : Bool). r.attached && b) (needing_is r.mode)) ∙ ap (λ (x : KeptLink). is_needing x) same ∙ needs in
        let least : least_hold f ≤ hold (plain_link a.to r)
        = least_each f k (link_fact n a.to r) (ap (λ (ls : List LinkFacts). slice_get ls k) shown ∙ a.fact) holding in
        let held : hold_of l ≡ hold (plain_link a.to r) = ap (λ (x : KeptLink). hold_of x) (sym same) ∙ hold_is r.mode r.stored (fit.plain a.to a.linked).mode in
        omega (arith, least, held);
  }

  -- the room beside it
  module _ (x : Write) (cs : List Change) (goes : admitted w s x ≡ Goes cs) (origin : is_origin n.role ≡ true) (all : length n.log ≡ n.safe) (fits : blocks_in x.bytes + 1 ≤ n.ring) where
    last_is : last_number f.rvg ≡ n.safe
    last_is = ap (λ (t : SiteState). last_number (group_by t n)) up ∙ ap (λ (b : Bool). if b then n.safe else length n.log) origin

    by_last : least_hold f ≡ last_number f.rvg → blocks_in x.bytes + 1 + logged_blocks (drop (least_hold f) n.log) ≤ n.ring
    by_last e =
        let at : least_hold f ≡ n.safe = e ∙ last_is in
        let none : drop (least_hold f) n.log ≡ [] = drop_all (least_hold f) n.log (omega (arith, at, all)) in
        let zero_blocks : logged_blocks (drop (least_hold f) n.log) ≡ 0 = ap logged_blocks none in
        omega (arith, zero_blocks, fits)

    by_held : HeldBy (least_hold f) f.links → blocks_in x.bytes + 1 + logged_blocks (drop (least_hold f) n.log) ≤ n.ring
    by_held h =
        let there : slice_get (link_facts n row ss) h.place ≡ Some h.link = ap (λ (ls : List LinkFacts). slice_get ls h.place) (sym shown) ∙ h.there in
        let a : AtPlace n row ss h.place = of_fact n row ss h.place h.link (all_linked row w.sites 0 w.sites) there in
        let r : Link = row a.to in
        let same : h.link ≡ link_fact n a.to r = some_same (sym there ∙ a.fact) in
        let holding : is_holding (plain_link a.to r) ≡ true = sym (ap (λ (y : LinkFacts). is_holding y.link) same) ∙ h.needs in
        let room : (blocks_in x.bytes + 1) + used_above n a.to r ≤ n.ring = has_room w s x cs fit goes a.to a.linked holding in
        let at : least_hold f ≡ hold (plain_link a.to r) = h.is ∙ ap (λ (y : LinkFacts). hold y.link) same in
        let used : logged_blocks (drop (least_hold f) n.log) ≡ used_above n a.to r = ap (λ (k : ℕ). logged_blocks (drop k n.log)) at in
        omega (arith, room, used)

    pub room_beside : HasRoom (header_links w s) n (least_hold f) (blocks_in x.bytes)
    room_beside = record { unneeded = none_needs; room = ⊎_elim by_last by_held (least_by f) }
