-- What the headers of two logs keep behind each part of a line that links a site to another.
use Rattle.std.specs.Prelude.{◌≡◌, ◌<◌, ◌++◌, ◌∷◌, [], ℕ, List, None}
use Rattle.vx_model.specs.declared.link.Prot.TheVariants.{Fail as FailsWhenFull}
use Rattle.vx_model.specs.declared.link.SyncMode.{SyncMode}
use Rattle.vx_model.specs.declared.site.Mark.TheVariants.{Consistent}
use Rattle.vx_model.specs.declared.state.KeptLink.{KeptLink}
use Rattle.vx_model.specs.declared.state.State.{State}
use Rattle.vx_history.specs.Doubts.{Doubted}
use Rattle.vx_history.specs.Events.{joined as joined_to}
use Rattle.vx_history.specs.Step.{step}
use Rattle.vx_history.specs.World.{World}
use Rattle.vx_history.specs.declared.event.Event.TheVariants.{Link as LinkAt}
use Rattle.vx_history.specs.declared.event.LinkPart.TheVariants.{Joins}
use Rattle.vx_history.specs.declared.event.Said.TheVariants.{Done as IsDone}
use Rattle.vx_srlfmt.specs.Headers.{CanSpellState}
use Rattle.vx_diskset.specs.Holds.{header_links, state_with}
use Rattle.vx_effects.specs.LinkParts.{kept_over}
use Rattle.vx_events.specs.Facts.{site_number}
use Rattle.vx_linked.specs.Making.{fresh_link, kept_plain, opened_link}
use Rattle.vx_link_lines.specs.declared.linking.LinkStates.{LinkStates}

-- a header has a spelling for each of them
pub record AreSpelled (states : LinkStates) : Type 0 where
  pub joined : CanSpellState states.joined
  pub made : CanSpellState states.made
  pub marked : CanSpellState states.marked
  pub opened : CanSpellState states.opened

-- the links of site p with the one to site s behind them
abbrev pub further_links : World → (p s : ℕ) → SyncMode → (session : ℕ) → List KeptLink
further_links w p s sync session = header_links w p ++ kept_plain (fresh_link s sync session) ∷ []

-- the same as that link goes by the log from this number on
abbrev pub opened_links : World → (p s : ℕ) → SyncMode → (session last : ℕ) → List KeptLink
opened_links w p s sync session last = kept_over (kept_plain (opened_link (fresh_link s sync session) last)) (further_links w p s sync session)

-- they are those of a world in which nothing of the line is done
pub record AreLinkStates (w : World) (p s : ℕ) (sync : SyncMode) (states : LinkStates) : Type 0 where
  pub session : states.session ≡ (w.nodes s).session
  pub last : states.last ≡ (w.nodes p).safe
  pub joined : states.joined ≡ state_with (joined_to (w.nodes p) p (w.nodes s)) []
  pub made : states.made ≡ state_with (w.nodes p) (further_links w p s sync states.session)
  pub marked : states.marked ≡ (let m : State = record (state_with (joined_to (w.nodes p) p (w.nodes s)) []) { mark = Consistent } in m)
  pub opened : states.opened ≡ state_with (w.nodes p) (opened_links w p s sync states.session states.last)

-- a line that links the site of the one name to that of the other, by these states, where no test refuses it
pub record IsLinking (d : Doubted) (first second : List ℕ) (p s : ℕ) (sync : SyncMode) (states : LinkStates) : Type 0 where
  pub below : p < d.world.sites
  pub below_too : s < d.world.sites
  pub apart : (d.world.nodes p).group ≡ None
  pub apart_too : (d.world.nodes s).group ≡ None
  pub number : site_number d.world first ≡ p
  pub number_too : site_number d.world second ≡ s
  pub said : (step d.world (LinkAt p s sync FailsWhenFull Joins)).said ≡ IsDone
  pub are : AreLinkStates d.world p s sync states
