-- What the calls of a line on the disks of its site leave of their fuse.
use Rattle.std.specs.Prelude.{◌≡◌, ℕ, Bool, false, IsFalse, Result, Ok, Err}
use Rattle.vx_model.specs.declared.no.No.{No}
use Rattle.vx_model.specs.declared.no.No.TheVariants.{Down as IsDown}
use Rattle.vx_disk.specs.Disks.{Disks}
use Rattle.vx_grouped.specs.SiteEnds.{is_off}
use Rattle.vx_disk.specs.Spends.{BurntOut, Loses, Passed}
use Rattle.vx_events.specs.declared.said.Said.{Said}
use Rattle.vx_events.specs.declared.said.Said.TheVariants.{DoneAt, Logged, Refused}

-- a shelf is down behind a call that was answered so exactly where the answer is 6
abbrev pub OffIf : {T : Type 0} → Result T No → Bool → Type 0
OffIf (Ok done) down = IsFalse down
OffIf (Err why) down = down ≡ is_off why

-- the reply of a call that answers a number
abbrev pub said_by : Result ℕ No → Said
said_by (Ok number) = DoneAt number
said_by (Err why) = Refused why

-- what is known of a write that is done: it was four writes and flushes or more, and the disk of the log is not made to fail
pub record IsLogged (old new : Disks) : Type 0 where
  pub calls : Loses 4 old.fuse new.fuse
  pub works : old.failing 0 ≡ false

-- nothing more is known
abbrev pub NoMore : Disks → Disks → Type 0
NoMore old new = Unit {0}

-- The calls passed: the fuse keeps its pick, and loses none of its calls or some; and this is known where the line is done, also where a link has to
-- confirm it. Or the line is answered 6, and then the fuse had no call left: the disks are as the crash with its pick left them.
abbrev pub Burnt : (Disks → Disks → Type 0) → Said → (ℕ → ℕ) → Disks → Disks → Type 0
Burnt P (DoneAt number) size old new = Passed old new × P old new
Burnt P (Logged number) size old new = Passed old new × P old new
Burnt P (Refused IsDown) size old new = BurntOut size old new
Burnt P other size old new = Passed old new
