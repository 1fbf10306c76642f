-- What a pass has seen, and what each call of a turn makes of it.
use Rattle.std.specs.Prelude.{◌≡◌, ℕ, suc, ◌-◌, ◌<◌, List, [], ◌∷◌, ◌++◌, length, slice_get, Option, Some, MatchOption}
use Rattle.atomic_table.specs.Seated.{TableId}
use Rattle.vx_model.specs.declared.call.Update.{Update}
use Rattle.vx_turn.specs.declared.ask.Ask.{Ask}
use Rattle.vx_turn.specs.declared.ask.Ask.TheVariants.{Charged}
use Rattle.vx_turn.specs.declared.ask.Said.{Said}
use Rattle.vx_turn.specs.declared.ask.Said.TheVariants.{Worked}
use Rattle.vx_turn.specs.declared.ask.Job.{Job}
use Rattle.vx_turn.specs.declared.ask.JobReply.{JobReply}
use Rattle.vx_turn.specs.declared.meaning.Counts.{Counts}
use Rattle.vx_turn.specs.declared.meaning.State.{State}
use Rattle.vx_turn.specs.declared.meaning.Entry.{Entry}
use Rattle.vx_turn.specs.declared.view.View.{View}
use Rattle.vx_turn.specs.declared.passes.Pass.{Pass}
use Rattle.vx_turn.specs.declared.passes.Passes.{Passes}
use Rattle.vx_turn.specs.declared.turn.Turn.{Turn}
use Rattle.vx_turn.specs.History.{Legal, Given, FitsHistory, places, places_from, BeginsWith, Named}
use Rattle.vx_turn.specs.Turning.{Has}
use Rattle.vx_turn.specs.Resting.{only}

-- which turn it is
abbrev pub table_of : {E : Type 0} → Turn E → TableId
table_of t = t.table.shared.table_id

-- the engine with which it began
abbrev pub first_engine : {E : Type 0} → Turn E → E
first_engine t = t.table.shared.key.engine.value

-- which turn a pass is of
abbrev pub table_id_of : Pass → TableId
table_id_of p = p.badge.table_id

abbrev pub pass_view : Pass → View
pass_view p = only p.badge.views

-- the history that a pass has seen
abbrev pub seen_of : Pass → List Entry
seen_of p = (pass_view p).seen

-- the places of its own entries
abbrev pub mine_of : Pass → List ℕ
mine_of p = (pass_view p).mine

-- the callers that it met, each with the places of its entries
abbrev pub met_of : Pass → List (ℕ × List ℕ)
met_of p = (pass_view p).met

-- what the engine was when the turn began
abbrev pub start_of : Pass → State
start_of p = (pass_view p).start

-- how many callers the turn has
abbrev pub callers_of : Pass → ℕ
callers_of p = (pass_view p).callers

-- a pass of the same turn with the same number
abbrev pub IsSame : Pass → Pass → Type 0
IsSame p q = (table_id_of q ≡ table_id_of p) × (q.number ≡ p.number)

-- the pass p became q by asking this, which has the place and was said this
pub record PassCalls (p : Pass) (ask : Ask) (place : ℕ) (said : Said) (q : Pass) : Type 0 where
  pub between : List Entry
  pub before : Counts
  pub after : Counts
  pub long : length (seen_of q) ≡ place
  pub ends : seen_of q ≡ (seen_of p ++ between) ++ record { caller = p.number; ask = ask; said = said; before = before; after = after } ∷ []
  pub legal : Legal (start_of q) (seen_of q)
  pub start : start_of q ≡ start_of p
  pub callers : callers_of q ≡ callers_of p
  pub mine : mine_of q ≡ mine_of p ++ place ∷ []
  pub met : met_of q ≡ met_of p
  pub own : (by : ℕ) (ps : List ℕ) → Has (pass_view q) by ps → places by (seen_of q) ≡ ps
  pub others : places_from (length (seen_of p)) p.number between ≡ []
  pub given : Given (start_of q) (seen_of p ++ between) ask said
  pub named : Named (callers_of q) (seen_of q)

-- the pass p became q by this job
abbrev pub Jobs : Pass → Job → JobReply → Update → Pass → Type 0
Jobs p j reply into q = (place : ℕ) × PassCalls p (Charged j) place (Worked reply into) q

-- the pass p became q, which has seen what another had, and stands for its callers too
pub record Meets (p other q : Pass) : Type 0 where
  pub first : BeginsWith (seen_of p) (seen_of q)
  pub second : BeginsWith (seen_of other) (seen_of q)
  pub legal : Legal (start_of q) (seen_of q)
  pub start : start_of q ≡ start_of p
  pub callers : callers_of q ≡ callers_of p
  pub mine : mine_of q ≡ mine_of p
  pub met : met_of q ≡ met_of p ++ (other.number, mine_of other) ∷ met_of other
  pub own : (by : ℕ) (ps : List ℕ) → Has (pass_view q) by ps → places by (seen_of q) ≡ ps

-- the engine is where a legal history has come to, which begins with what the pass has seen, and is that where the pass stands for all
-- callers. The engine has the root of the first one
pub record ClosesTurn {E : Type 0} (state : E → State) (root : E → E) (first : E) (p : Pass) (engine : E) : Type 0 where
  pub log : List Entry
  pub begins : BeginsWith (seen_of p) log
  pub legal : Legal (start_of p) log
  pub fits : FitsHistory (start_of p) log (state engine)
  pub own : (by : ℕ) (ps : List ℕ) → Has (pass_view p) by ps → places by log ≡ ps
  pub named : Named (callers_of p) log
  pub whole : ((by : ℕ) → by < callers_of p → (ps : List ℕ) × Has (pass_view p) by ps) → log ≡ seen_of p
  pub rooted : root engine ≡ root first

-- a pass with this number that has seen nothing
pub record IsNewPass (z : TableId) (start : State) (callers number : ℕ) (p : Pass) : Type 0 where
  pub number_is : p.number ≡ number
  pub table : table_id_of p ≡ z
  pub unseen : seen_of p ≡ []
  pub none_made : mine_of p ≡ []
  pub none_met : met_of p ≡ []
  pub start_is : start_of p ≡ start
  pub callers_is : callers_of p ≡ callers

-- the passes that are not given out yet: the last has the least number, and the first the greatest
abbrev pub PassesLeft : TableId → State → ℕ → List Pass → Type 0
PassesLeft z start callers left = (k : ℕ) (p : Pass) → slice_get left k ≡ Some p → (k < callers) × IsNewPass z start callers (callers - suc k) p

-- so many passes are left, those with the greatest numbers
abbrev pub AreDealt : TableId → State → ℕ → ℕ → Passes → Type 0
AreDealt z start callers n passes = PassesLeft z start callers passes.left.items × (length passes.left.items ≡ n)

-- the pass that is given out is new and has the least number of those that were left, and there is none only where none was left
abbrev pub Pops : Passes → Option Pass → Passes → Type 0
Pops old given new = (z : TableId) (start : State) (callers n : ℕ) → AreDealt z start callers n old
    → MatchOption given ((n ≡ 0) × AreDealt z start callers 0 new) (λ p. (0 < n) × IsNewPass z start callers (callers - n) p × AreDealt z start callers (n - 1) new)
