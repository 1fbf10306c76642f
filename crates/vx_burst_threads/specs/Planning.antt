-- The calls of a plan, and what their replies tell.
use Rattle.std.specs.Prelude.{◌≡◌, ℕ, ◌+◌, ◌*◌, ◌<◌, ◌≤◌, ◌==◌, List, [], ◌∷◌, take, replicate, slice_get, cond, Option, Some, None}
use Rattle.vx_model.specs.declared.limits.TheConstants.{BLOCK, MOST_CALL_BLOCKS}
use Rattle.vx_model.specs.declared.call.Call.{Call}
use Rattle.vx_model.specs.declared.call.Call.TheVariants.{Read, Write as WriteBlocks}
use Rattle.vx_model.specs.declared.call.Reply.{Reply}
use Rattle.vx_model.specs.declared.call.Reply.TheVariants as reply
use Rattle.vx_model.specs.declared.no.No.{No}
use Rattle.vx_model.specs.declared.no.No.TheVariants as no
use Rattle.vx_model.specs.declared.no.SiteName.{SiteName}
use Rattle.vx_burst_threads.specs.declared.plan.Planned.{Planned}
use Rattle.vx_burst_threads.specs.declared.plan.Told.{Told}
use Rattle.vx_burst_threads.specs.declared.plan.Told.TheVariants as told

-- a write has from 1 to the most blocks of a call
abbrev pub IsCount : Option ℕ → ℕ → Type 0
IsCount None count = Unit {0}
IsCount (Some fill) count = (0 < count) × (count ≤ MOST_CALL_BLOCKS)

abbrev pub IsCall : Planned → Type 0
IsCall pl = IsCount pl.fill pl.count

abbrev pub AllCalls : List Planned → Type 0
AllCalls plan = (k : ℕ) (pl : Planned) → slice_get plan k ≡ Some pl → IsCall pl

-- a read of one block, or a write of blocks that are filled with a byte
abbrev pub call_with : Option ℕ → Planned → Call
call_with None pl = Read pl.vol pl.start 1
call_with (Some fill) pl = WriteBlocks pl.vol pl.start (replicate (BLOCK * pl.count) fill)

abbrev pub call_for : Planned → Call
call_for pl = call_with pl.fill pl

-- of the blocks that were read the first is told, and all else is told as it is
abbrev pub IsToldAs : Reply → Told → Type 0
IsToldAs (reply.Got bytes) (told.Got block) = block ≡ take BLOCK bytes
IsToldAs (reply.Done n) (told.Done m) = m ≡ n
IsToldAs (reply.Logged n) (told.Logged m) = m ≡ n
IsToldAs (reply.Refused cause) (told.Refused said) = said ≡ cause
IsToldAs r t = ⊥

-- 13
abbrev pub IsStall : No → Type 0
IsStall cause = (link : SiteName) × (cause ≡ no.Stalled link)

abbrev pub IsNoStall : No → Type 0
IsNoStall cause = (link : SiteName) → cause ≡ no.Stalled link → ⊥

abbrev pub IsStalled : Reply → Type 0
IsStalled r = (link : SiteName) × (r ≡ reply.Refused (no.Stalled link))

abbrev pub IsNotStalled : Reply → Type 0
IsNotStalled r = (link : SiteName) → r ≡ reply.Refused (no.Stalled link) → ⊥

-- how many members of the plan are the thread's
abbrev pub own_count : ℕ → List Planned → ℕ
own_count thread [] = 0
own_count thread (pl ∷ plan) = cond (pl.thread == thread) (1 + own_count thread plan) (own_count thread plan)
