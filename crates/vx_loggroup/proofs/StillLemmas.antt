-- A group beside calls on the shelf below it that write nothing.
use Rattle.std.proofs.Common.{ℕ, refl}
use Rattle.vx_disk.specs.Shelf.{Goes, Lawful, Meaning, Nothing}
use Rattle.vx_disk.proofs.Runs.{weaker}
use Rattle.vx_group.specs.Holding.{GroupStands, wide}
use Rattle.vx_group.specs.Stands.{inner_meaning, volume_faults}
use Rattle.vx_group.specs.declared.group_core.GroupCore.{GroupCore}
use Rattle.vx_group.proofs.Standing.{kept_of, low_Stands, sound_of}
use Rattle.vx_grouplogs.specs.Covering.{OnLogs}
use Rattle.vx_grouplogs.proofs.GroupLemmas.{logs_keep}
use Rattle.vx_logged.specs.Logged.{EachOn, OthersOn}
use Rattle.vx_logged.proofs.StandLemmas.{others_each}
use Rattle.vx_loggroup.proofs.AlikeLemmas.{each_below}

module _ (c : GroupCore) (m m' : Meaning) (law : Lawful m) (law' : Lawful m') (stands : GroupStands c m) (goes : Goes Nothing m m') where
  pub core_goes : Goes Nothing (inner_meaning (wide c) m) (inner_meaning (wide c) m')
  core_goes = (logs_keep (wide c).config (sound_of (wide c) m stands.stands) 0 m m' law law' (weaker Nothing (OnLogs (wide c).config 0) m m' goes (λ u b y none. absurd none))).goes c.inner.good (volume_faults c.inner.faults) (kept_of (wide c) m stands.stands)

  pub core_stands : GroupStands c m'
  core_stands = record {
    stands = low_Stands (wide c) Nothing m m' goes (λ u b y none. absurd none) law law' stands.stands;
    held = stands.held;
  }

pub core_each : (c : GroupCore) (m m' : Meaning) → GroupStands c m → Goes Nothing m m' → EachOn c c m m'
core_each c m m' stands goes = each_below c c m m' stands refl refl goes

pub core_others : (v : ℕ) (c : GroupCore) (m m' : Meaning) → GroupStands c m → Goes Nothing m m' → OthersOn v c c m m'
core_others v c m m' stands goes = others_each v c c m m' (core_each c m m' stands goes)
