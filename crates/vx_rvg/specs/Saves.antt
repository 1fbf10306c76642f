-- The calls of a group that write a header of its log.
use Rattle.std.specs.Prelude.{◌≡◌, ◌⊎◌, ℕ, ◌+◌, ◌≤◌, Option, Some, None, Result, Ok, Err, [], IsTrue, leb, ◌||◌, ◌&&◌, if◌then◌else◌}
use Rattle.vx_model.specs.declared.no.No.{No}
use Rattle.vx_model.specs.declared.no.No.TheVariants.{Limit}
use Rattle.vx_model.specs.declared.no.Counted.TheVariants.{Number}
use Rattle.vx_model.specs.declared.state.State.{State}
use Rattle.vx_disk.specs.Moves.{Blocks, Run, Union}
use Rattle.vx_disk.specs.Shelf.{Meaning}
use Rattle.vx_srl.specs.Calls.{can_restart, saved, restarted_log}
use Rattle.vx_srl.specs.Headers.{with_header_state, without, emptied_header}
use Rattle.vx_srl.specs.Views.{Log, most_number, count_to}
use Rattle.vx_rvg.specs.Groups.{GroupFails, halted_or, core_applied}
use Rattle.vx_rvg.specs.Views.{Core, Waits, last_of}

-- why the records up to a number are not given up
abbrev pub reclaim_refusal : Core → ℕ → Option No
reclaim_refusal c to =
    halted_or c.halted (if leb c.log.header.low to && (leb most_number c.log.header.stamp || leb most_number to) then Some (Limit Number most_number) else None)

-- without the records up to a number
abbrev pub log_without : Log → ℕ → Log
log_without l to = if leb l.header.low to then saved l (without l to) (count_to l to) else l

abbrev pub reclaimed : Core → ℕ → Core
reclaimed c to = record c { log = log_without c.log to }

-- why a state is not made durable
abbrev pub change_refusal : Core → Option No
change_refusal c = halted_or c.halted (if leb most_number c.log.header.stamp then Some (Limit Number most_number) else None)

-- with another state
abbrev pub with_new_state : Core → State → Core
with_new_state c state = record c { log = saved c.log (with_header_state c.log state) 0 }

-- the header was written, or a device call failed
abbrev pub Saves : Core → Core → Meaning → Meaning → Core → Result (Unit {0}) No → Type 0
Saves c after old new c' (Ok done) = c' ≡ after
Saves c after old new c' (Err why) = GroupFails c old new c' why

abbrev pub SaveIs : Option No → Core → Core → Meaning → Meaning → Core → Result (Unit {0}) No → Type 0
SaveIs (Some why) c after old new c' result = (result ≡ Err why) × (c' ≡ c)
SaveIs None c after old new c' result = Saves c after old new c' result

-- why the log is not emptied behind a record of this number
abbrev pub restart_refusal : Core → ℕ → Option No
restart_refusal c head = halted_or c.halted (if can_restart c.log head then None else Some (Limit Number most_number))

-- with all writes in the volumes, and behind them an empty log that has another state
abbrev pub with_restart : Core → State → ℕ → Core
with_restart c state head = record c { log = restarted_log c.log (emptied_header c.log state head); pending = record c.pending { entries = [] }; applied = head }

-- the log was emptied, or a device call failed
abbrev pub Empties : Core → Core → Meaning → Meaning → Core → Result (Unit {0}) No → Type 0
Empties c after old new c' (Ok done) = (c' ≡ after) × (IsTrue new.down → ⊥)
Empties c after old new c' (Err why) = GroupFails c old new c' why

-- The same where writes were brought into their volumes first. A device call that failed may be one behind them.
abbrev pub Restarts : Core → Core → Meaning → Meaning → Core → Result (Unit {0}) No → Type 0
Restarts c after old new c' (Ok done) = (c' ≡ after) × (IsTrue new.down → ⊥)
Restarts c after old new c' (Err why) = GroupFails c old new c' why ⊎ ((n : ℕ) × GroupFails (core_applied c (last_of c) n) old new c' why)

abbrev pub RestartIs : Option No → Core → Core → Meaning → Meaning → Core → Result (Unit {0}) No → Type 0
RestartIs (Some why) c after old new c' result = (result ≡ Err why) × (c' ≡ c)
RestartIs None c after old new c' result = Restarts c after old new c' result

-- A change sets a state, and where it is given a number it empties the log behind a record of this number.
abbrev pub refusal_of_change : Core → Option ℕ → Option No
refusal_of_change c None = change_refusal c
refusal_of_change c (Some head) = restart_refusal c head

abbrev pub core_changed : Core → State → Option ℕ → Core
core_changed c state None = with_new_state c state
core_changed c state (Some head) = with_restart c state head

abbrev pub ChangeIs : Option ℕ → Core → State → Meaning → Meaning → Core → Result (Unit {0}) No → Type 0
ChangeIs None c state old new c' result = SaveIs (change_refusal c) c (with_new_state c state) old new c' result
ChangeIs (Some head) c state old new c' result = RestartIs (restart_refusal c head) c (with_restart c state head) old new c' result

-- a change before which nothing has to come into its volume: its header is all that it writes
abbrev pub AppliesNone : Option ℕ → Core → Type 0
AppliesNone None c = Unit {0}
AppliesNone (Some head) c = last_of c ≤ c.applied

-- the blocks that a change may write: the log's, and with a number those that wait for their volumes too
abbrev pub change_blocks : Option ℕ → Core → Meaning → Blocks
change_blocks None c m = Run c.units.srl 0 (c.log.ring + 2)
change_blocks (Some head) c m = Union (Waits c m) (Run c.units.srl 0 (c.log.ring + 2))
