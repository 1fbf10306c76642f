-- What is asked of a replicated volume group that stands over a group of disks.
use Rattle.std.specs.Prelude.{◌≡◌, ℕ, ◌+◌, ◌<◌, ◌≤◌, IfSome, IsSome, None, Option, Some, length}
use Rattle.vx_model.specs.declared.state.State.{State}
use Rattle.vx_rvg.specs.Views.{Core, last_of}
use Rattle.vx_srl.specs.Views.{blocks_above}
use Rattle.vx_diskset.specs.declared.above.Above.{Above}
use Rattle.vx_diskset.specs.declared.above.Above.TheVariants.{Nothing, Origin, Receiver}

-- the number of the last write in its log
abbrev pub core_last : Option Core → ℕ
core_last None = 0
core_last (Some core) = last_of core

abbrev pub core_session : Option Core → ℕ
core_session None = 0
core_session (Some core) = core.log.header.incarnation

-- what its log keeps of its site
abbrev pub core_state : Option Core → Option State
core_state None = None
core_state (Some core) = Some core.log.header.state

-- the blocks that the numbers above one take in a log, if it holds all of them
pub record UsesAs (core : Core) (above : ℕ) (o : Option ℕ) : Type 0 where
  pub low : IfSome o (λ blocks. core.log.header.low ≤ above + 1)
  pub past : last_of core ≤ above → IfSome o (λ blocks. blocks ≡ 0)
  pub is : above < last_of core → IfSome o (λ blocks. blocks ≡ blocks_above core.log above)
  pub some : core.log.header.low ≤ above + 1 → IsSome o

-- the same of an origin; nothing is said of any other
abbrev pub UsesOver : Above → ℕ → Option ℕ → Type 0
UsesOver Nothing above o = o ≡ None
UsesOver (Origin core) above o = UsesAs core above o
UsesOver (Receiver core waiting) above o = o ≡ None

-- how many updates wait behind it, and how many writes came with these
abbrev pub many_waiting : Above → ℕ
many_waiting Nothing = 0
many_waiting (Origin core) = 0
many_waiting (Receiver core waiting) = length waiting

abbrev pub many_received : Above → ℕ
many_received Nothing = 0
many_received (Origin core) = last_of core
many_received (Receiver core waiting) = last_of core + length waiting
