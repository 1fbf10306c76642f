-- What a thread of a burst has done.
use Rattle.std.specs.Prelude.{◌≡◌, ◌≢◌, ◌⊎◌, ℕ, ◌+◌, ◌<◌, ◌≤◌, Bool, true, false, List, [], ◌∷◌, ◌++◌, length, vec_capacity, slice_get, Option, Some, MatchOption}
use Rattle.atomic_table.specs.Seated.{TableId}
use Rattle.vx_model.specs.declared.call.Reply.{Reply}
use Rattle.vx_turn.specs.declared.ask.Ask.{Ask}
use Rattle.vx_turn.specs.declared.ask.Ask.TheVariants.{Ordered}
use Rattle.vx_turn.specs.declared.ask.Said.{Said}
use Rattle.vx_turn.specs.declared.ask.Said.TheVariants.{Replied}
use Rattle.vx_turn.specs.declared.meaning.Counts.{Counts}
use Rattle.vx_turn.specs.declared.meaning.Entry.{Entry}
use Rattle.vx_turn.specs.declared.passes.Pass.{Pass}
use Rattle.vx_turn.specs.Acting.{LiesAmong}
use Rattle.vx_turn.specs.History.{BeginsWith}
use Rattle.vx_turn.specs.Passing.{PassCalls, IsSame, seen_of, start_of, mine_of, met_of, callers_of, table_id_of}
use Rattle.vx_burst_threads.specs.declared.plan.Planned.{Planned}
use Rattle.vx_burst_threads.specs.declared.writer.Made.{Made}
use Rattle.vx_burst_threads.specs.declared.writer.Writer.{Writer}
use Rattle.vx_burst_threads.specs.Planning.{AllCalls, IsToldAs, IsStalled, IsNotStalled, call_for, own_count}

-- this entry stands at this place
pub record StandsInLog (log : List Entry) (place by : ℕ) (ask : Ask) (said : Said) : Type 0 where
  pub front : List Entry
  pub rest : List Entry
  pub before : Counts
  pub after : Counts
  pub is : log ≡ (front ++ record { caller = by; ask = ask; said = said; before = before; after = after } ∷ []) ++ rest
  pub at : length front + 1 ≡ place

-- the call at this place of the plan is the thread's, and it stands in what the pass has seen, with the answer that was told
pub record IsMemberMade (plan : List Planned) (thread k : ℕ) (p : Pass) (m : Made) : Type 0 where
  pub planned : Planned
  pub reply : Reply
  pub is : slice_get plan m.at ≡ Some planned
  pub own : planned.thread ≡ thread
  pub done : m.at < k
  pub stands : StandsInLog (seen_of p) m.place p.number (Ordered (call_for planned)) (Replied reply)
  pub told : IsToldAs reply m.reply
  pub goes : IsNotStalled reply

-- at this place in what the pass has seen stands a stalled answer to member k of the plan, which is the thread's
pub record IsStalledAt (plan : List Planned) (thread k : ℕ) (p : Pass) (place : ℕ) : Type 0 where
  pub planned : Planned
  pub reply : Reply
  pub is : slice_get plan k ≡ Some planned
  pub own : planned.thread ≡ thread
  pub stands : StandsInLog (seen_of p) place p.number (Ordered (call_for planned)) (Replied reply)
  pub stalled : IsStalled reply

-- of the first k members of the plan the thread has made its own, in order, and nothing else but what was left
pub record HasMade (plan : List Planned) (thread k : ℕ) (p : Pass) (made : List Made) (Left : ℕ → Type 0) : Type 0 where
  pub each : (m : Made) → LiesAmong m made → IsMemberMade plan thread k p m
  pub rises : (i j : ℕ) (a b : Made) → i < j → slice_get made i ≡ Some a → slice_get made j ≡ Some b → (a.at < b.at) × (a.place < b.place)
  pub whole : (j : ℕ) (pl : Planned) → j < k → slice_get plan j ≡ Some pl → pl.thread ≡ thread → (m : Made) × LiesAmong m made × (m.at ≡ j)
  pub only : (place : ℕ) → LiesAmong place (mine_of p) → ((m : Made) × LiesAmong m made × (m.place ≡ place)) ⊎ Left place

-- the call was made: it was stalled, or it was told
abbrev pub WasAsked : Planned → ℕ → Pass → Option Made → Pass → Type 0
WasAsked pl at p r q = IsSame p q × ((place : ℕ) × (reply : Reply) × PassCalls p (Ordered (call_for pl)) place (Replied reply) q
    × MatchOption r (IsStalled reply) (λ m. IsNotStalled reply × IsToldAs reply m.reply × (m.at ≡ at) × (m.place ≡ place)))

-- another thread's member leaves the writer alone, and an own one is made, or ends the thread where it is stalled
abbrev pub WriterGoes : Planned → ℕ → Writer → Bool → Writer → Type 0
WriterGoes pl at w on x = (x.thread ≡ w.thread) × (vec_capacity w.made ≤ vec_capacity x.made)
    × (((on ≡ true) × (pl.thread ≢ w.thread) × (x.pass ≡ w.pass) × (x.made.items ≡ w.made.items))
    ⊎ ((pl.thread ≡ w.thread) × IsSame w.pass x.pass × ((place : ℕ) × (reply : Reply) × PassCalls w.pass (Ordered (call_for pl)) place (Replied reply) x.pass
    × (((on ≡ true) × IsNotStalled reply × ((m : Made) × (x.made.items ≡ w.made.items ++ m ∷ []) × (m.at ≡ at) × (m.place ≡ place) × IsToldAs reply m.reply))
    ⊎ ((on ≡ false) × IsStalled reply × (x.made.items ≡ w.made.items))))))

-- what no call changes of a pass
abbrev pub KeepsPass : Pass → Pass → Type 0
KeepsPass p q = IsSame p q × (start_of q ≡ start_of p) × (callers_of q ≡ callers_of p) × (met_of q ≡ met_of p) × BeginsWith (seen_of p) (seen_of q)

-- the thread has made its calls up to the plan's end, or to the first that was stalled
pub record WriterWrote (plan : List Planned) (w x : Writer) : Type 0 where
  pub thread : x.thread ≡ w.thread
  pub keeps : KeepsPass w.pass x.pass
  pub made : mine_of w.pass ≡ [] → (stop : ℕ) × HasMade plan w.thread stop x.pass x.made.items (IsStalledAt plan w.thread stop x.pass) × ((length plan ≤ stop) ⊎ ((place : ℕ) × IsStalledAt plan w.thread stop x.pass place))

abbrev pub IsWriterReady : TableId → List Planned → Writer → Type 0
IsWriterReady z plan w = (table_id_of w.pass ≡ z) × (w.made.items ≡ []) × (own_count w.thread plan ≤ vec_capacity w.made) × AllCalls plan
