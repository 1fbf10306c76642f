-- The rule of the table, and what each step tells.
use Rattle.std.specs.Prelude.{◌≡◌, ◌≢◌, ◌⊎◌, ℕ, ◌+◌, ◌-◌, ◌<◌, ◌≤◌, Bool, true, false, List, [], ◌∷◌, ◌++◌, length, slice_index, nat_lt, cond, Option, Some, None}
use mathlib.Core.Option.{some}
use lib.ListN.{get_elem?}
use Rattle.atomic_table.specs.Table as table
use Rattle.atomic_table.specs.Table.{Me, Step}
use Rattle.vx_turn.specs.declared.meaning.State.{State}
use Rattle.vx_turn.specs.declared.meaning.Entry.{Entry}
use Rattle.vx_turn.specs.declared.view.View.{View}
use Rattle.vx_turn.specs.declared.slot.Slot.{Slot}
use Rattle.vx_turn.specs.declared.slot.Last.{Last}
use Rattle.vx_turn.specs.declared.slot.Last.TheVariants as last
use Rattle.vx_turn.specs.declared.ask.Ask.{Ask}
use Rattle.vx_turn.specs.declared.ask.Ask.TheVariants.{Ordered, Charged}
use Rattle.vx_turn.specs.declared.ask.Said.{Said}
use Rattle.vx_turn.specs.declared.ask.Said.TheVariants.{Replied, Worked}
use Rattle.vx_turn.specs.Acting.{LiesAmong}
use Rattle.vx_turn.specs.History.{Legal, FitsHistory, places, BeginsWith, Named}

-- the view stands for the caller with this number, whose entries have these places
abbrev pub Has : View → ℕ → List ℕ → Type 0
Has v by ps = ((v.low ≤ by) × (by < v.high) × (ps ≡ v.mine)) ⊎ LiesAmong (by, ps) v.met

abbrev pub first_view : ℕ → State → View
first_view callers start = record { live = true; low = 0; high = callers; holds = false; seen = []; mine = []; met = []; one = []; two = []; start = start; callers = callers }

-- what a view says that does not depend on the other seats
module _ (log : List Entry) (v : View) where
  pub record TellsView : Type 0 where
    pub begins : BeginsWith v.seen log
    pub own : (by : ℕ) (ps : List ℕ) → Has v by ps → (places by log ≡ ps) × (places by v.seen ≡ ps)
    pub bounded : (by : ℕ) (ps : List ℕ) → Has v by ps → by < v.callers
    pub alone : (by : ℕ) (ps : List ℕ) → v.low ≤ by → by < v.high → LiesAmong (by, ps) v.met → ⊥
    pub first : BeginsWith v.one v.seen
    pub second : BeginsWith v.two v.seen

module _ (log : List Entry) (start : State) (callers hold holder j : ℕ) (v : View) where
  pub record Knows : Type 0 where
    pub same : v.live ≡ true → (v.start ≡ start) × (v.callers ≡ callers)
    pub tells : TellsView log v
    pub has : v.holds ≡ true → (hold ≡ 1) × (j ≡ holder) × (log ≡ v.seen) × (v.live ≡ true)

-- the rule of a turn that began with the engine `first`: there is one legal history, and while the hold is free the engine lies in the
-- slot, where the history has come to
module _ {E : Type 0} (state : E → State) (root : E → E) (first : E) where
  pub record KeptTable (s : table.State (Option (Slot E)) View) : Type 0 where
    pub log : List Entry
    pub start : State
    pub callers : ℕ
    pub holder : ℕ
    pub wide : length s.words ≡ 2
    pub count : slice_index s.words 1 ≡ length log
    pub legal : Legal start log
    pub named : Named callers log
    pub free : slice_index s.words 0 ≡ 0 → (slot : Slot E) × (get_elem? s.homes 0 ≡ some (some (Some slot))) × FitsHistory start log (state slot.engine) × (root slot.engine ≡ root first)
    pub each : (j : ℕ) (v : View) → get_elem? s.views j ≡ some v → Knows log start callers (slice_index s.words 0) holder j v
    pub apart : (i j : ℕ) (v w : View) (by : ℕ) (ps qs : List ℕ) → get_elem? s.views i ≡ some v → get_elem? s.views j ≡ some w → Has v by ps → Has w by qs → i ≡ j

-- the view with another history
abbrev pub sees : View → Bool → List Entry → List ℕ → View
sees v holds seen mine = record v { holds = holds; seen = seen; mine = mine }

-- one number, for which a seat stands
abbrev pub IsOneSeat : View → Type 0
IsOneSeat v = v.high ≡ v.low + 1

abbrev pub lower : View → View
lower v = record v { high = v.high - 1 }

abbrev pub upper : View → View
upper v = record v { low = v.high - 1; holds = false; met = [] }

-- a pass takes in what another has seen, and stands for its callers too
abbrev pub longer : List Entry → List Entry → List Entry
longer xs ys = cond (nat_lt (length xs) (length ys)) ys xs

abbrev pub joined_views : View → View → View
joined_views v w = record v { seen = longer v.seen w.seen; met = v.met ++ (w.low, w.mine) ∷ w.met; one = v.seen; two = w.seen }

abbrev pub blank_view : View
blank_view = record {
  live = false;
  low = 0;
  high = 0;
  holds = false;
  seen = [];
  mine = [];
  met = [];
  one = [];
  two = [];
  callers = 0;
  start = record { volumes = []; ring = 0; head = 0; applied = 0; line = record { generation = 0; origin = 0 }; kept = []; nets = []; counts = record { faults = 0; held = 0 }; halted = false; trail = [] };
}

-- what the engine was asked last
abbrev pub ask_in : Last → Ask
ask_in (last.Ordered call reply) = Ordered call.value
ask_in (last.Charged j reply into) = Charged j.value

-- what it said
abbrev pub said_in : Last → Said
said_in (last.Ordered call reply) = Replied reply.value
said_in (last.Charged j reply into) = Worked reply.value into.value

abbrev pub Sat : Type 0 → Type 0
Sat E = Me (Option (Slot E)) View

abbrev pub At : Type 0 → Type 0
At E = Step (Option (Slot E))

module _ {E : Type 0} where
  -- the engine has the root of the one with which the turn began
  abbrev pub IsRooted : (E → E) → Option E → E → Type 0
  IsRooted root first engine = (e : E) → first ≡ Some e → root engine ≡ root e

  -- the entry that this makes
  abbrev pub entry_in : (E → State) → ℕ → Slot E → Entry
  entry_in state by slot = record { caller = by; ask = ask_in slot.last; said = said_in slot.last; before = (state slot.before.value).counts; after = (state slot.engine).counts }

  -- the hold was free: the seat has the engine and has seen the whole history. Or nothing changed
  abbrev pub taken_turn : (E → State) → (E → E) → Option E → At E → Sat E → ℕ → Sat E → Type 0
  taken_turn state root first st m r m' = (r ≡ 0 → m.0.live ≡ true → (slot : Slot E) × (log : List Entry) × (m' ≡ (sees m.0 true log m.0.mine, (0, Some slot) ∷ m.1))
      × TellsView log m.0 × Legal m.0.start log × FitsHistory m.0.start log (state slot.engine) × Named m.0.callers log × IsRooted root first slot.engine) × (r ≢ 0 → m' ≡ m)

  abbrev pub count_seen : At E → Sat E → ℕ → Sat E → Type 0
  count_seen st m r m' = (m' ≡ m) × (m.0.holds ≡ true → r ≡ length m.0.seen)

  -- what the engine was asked last joined the history
  abbrev pub added : (E → State) → At E → Sat E → ℕ → Sat E → Type 0
  added state st m r m' = (slot : Slot E) → m.1 ≡ (0, Some slot) ∷ [] → m' ≡ (sees m.0 true (m.0.seen ++ entry_in state m.0.low slot ∷ []) (m.0.mine ++ r ∷ []), m.1)

  abbrev pub handed_back : At E → Sat E → ℕ → Sat E → Type 0
  handed_back st m r m' = m' ≡ (sees m.0 false m.0.seen m.0.mine, [])

  -- what the view says
  abbrev pub looked : At E → Sat E → ℕ → Sat E → Type 0
  looked st m r m' = (m' ≡ m) × TellsView m.0.seen m.0 × (m.0.live ≡ true → Legal m.0.start m.0.seen)

  -- the view once the last entry joined, and the engine was given back
  abbrev pub longer_by : (E → State) → View → ℕ → Slot E → View
  longer_by state v place slot = sees v false (v.seen ++ entry_in state v.low slot ∷ []) (v.mine ++ place ∷ [])

module _ {E : Type 0} (state : E → State) (root : E → E) (first : E) where
  -- the seat has the engine and has seen the whole history, which has n entries
  abbrev pub HoldsTurn : View → ℕ → Sat E → Type 0
  HoldsTurn v n m = (slot : Slot E) × (log : List Entry) × (m ≡ (sees v true log v.mine, (0, Some slot) ∷ []))
      × TellsView log v × Legal v.start log × FitsHistory v.start log (state slot.engine) × Named v.callers log × (root slot.engine ≡ root first) × (n ≡ length log)

  -- the seat has the slot, which is empty, and has seen the whole history, behind which the next entry has the place
  pub record Out (v : View) (place : ℕ) (engine : E) (m : Sat E) : Type 0 where
    pub log : List Entry
    pub seat : m ≡ (sees v true log v.mine, (0, None) ∷ [])
    pub tells : TellsView log v
    pub legal : Legal v.start log
    pub fits : FitsHistory v.start log (state engine)
    pub named : Named v.callers log
    pub rooted : root engine ≡ root first
    pub next : place ≡ length log + 1
    pub short : place < 18446744073709551616

  -- the engine may be given back, and its last entry joins the history
  pub record ReadyBack (m : Sat E) (place : ℕ) (slot : Slot E) : Type 0 where
    pub holds : m.0.holds ≡ true
    pub carried : m.1 ≡ (0, None) ∷ []
    pub one : IsOneSeat m.0
    pub next : place ≡ length m.0.seen + 1
    pub legal : Legal m.0.start (m.0.seen ++ entry_in state m.0.low slot ∷ [])
    pub fits : FitsHistory m.0.start (m.0.seen ++ entry_in state m.0.low slot ∷ []) (state slot.engine)
    pub rooted : root slot.engine ≡ root first
