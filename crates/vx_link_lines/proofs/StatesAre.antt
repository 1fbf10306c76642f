-- What the headers of two logs keep behind each part of a line that makes a link, of the states and the links before it.
use Rattle.std.proofs.Common.{◌≡◌, ◌∙◌, ◌++◌, ◌∷◌, [], ℕ, List, ap}
use Rattle.vx_model.specs.declared.link.SyncMode.{SyncMode}
use Rattle.vx_model.specs.declared.site.Mark.TheVariants.{Consistent}
use Rattle.vx_model.specs.declared.state.KeptLink.{KeptLink}
use Rattle.vx_model.specs.declared.state.State.{State}
use Rattle.vx_history.specs.World.{World}
use Rattle.vx_diskset.specs.Holds.{header_links, state_with}
use Rattle.vx_effects.specs.LinkParts.{kept_over}
use Rattle.vx_linked.specs.Making.{fresh_link, joined_state, kept_plain, opened_link}
use Rattle.vx_link_lines.specs.Linking.{AreLinkStates}

module _ (w : World) (p s : ℕ) (sync : SyncMode) (first second joined made marked opened : State) (session last : ℕ) (kept further over : List KeptLink)
    (first_is : first ≡ state_with (w.nodes p) first.links) (second_is : second ≡ state_with (w.nodes s) second.links) (kept_is : kept ≡ header_links w p)
    (further_is : further ≡ kept ++ kept_plain (fresh_link s sync session) ∷ []) (over_is : over ≡ kept_over (kept_plain (opened_link (fresh_link s sync session) last)) further) where
  further_links_are : further ≡ header_links w p ++ kept_plain (fresh_link s sync session) ∷ []
  further_links_are = further_is ∙ ap (λ (ls : List KeptLink). ls ++ kept_plain (fresh_link s sync session) ∷ []) kept_is

  pub states_are : joined ≡ joined_state first p second → marked ≡ (let m : State = record joined { mark = Consistent } in m) → made ≡ (let m : State = record first { links = further } in m)
      → opened ≡ (let m : State = record first { links = over } in m) → session ≡ (w.nodes s).session → last ≡ (w.nodes p).safe
      → AreLinkStates w p s sync (record { joined = joined; made = made; marked = marked; opened = opened; session = session; last = last })
  states_are joined_is marked_is made_is opened_is session_is last_is =
      let joined_to_it = joined_is ∙ ap (λ (x : State). joined_state x p second) first_is ∙ ap (λ (x : State). joined_state (state_with (w.nodes p) first.links) p x) second_is in
      record {
        session = session_is;
        last = last_is;
        joined = joined_to_it;
        made = made_is ∙ ap (λ (x : State). let m : State = record x { links = further } in m) first_is ∙ ap (λ (ls : List KeptLink). state_with (w.nodes p) ls) further_links_are;
        marked = marked_is ∙ ap (λ (x : State). let m : State = record x { mark = Consistent } in m) joined_to_it;
        opened = opened_is
            ∙ ap (λ (x : State). let m : State = record x { links = over } in m) first_is
            ∙ ap (λ (ls : List KeptLink). state_with (w.nodes p) ls)
            (over_is ∙ ap (λ (ls : List KeptLink). kept_over (kept_plain (opened_link (fresh_link s sync session) last)) ls) further_links_are);
      }
