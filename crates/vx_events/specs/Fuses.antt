-- The fuse of the disks of a site, as the lines of a script tell of it.
use Rattle.std.specs.Prelude.{◌≡◌, ◌⊎◌, ℕ, ◌+◌, ◌*◌, ◌≤◌, true, None}
use Rattle.vx_model.specs.declared.limits.TheConstants.{MOST_CALL_BLOCKS}
use Rattle.vx_model.specs.Content.{Write, blocks_in}
use Rattle.vx_history.specs.Events.{logged_blocks}
use Rattle.vx_history.specs.Steps.{write_calls}
use Rattle.vx_history.specs.World.{Fuse, Node, World, NoFuse, FuseSet, FuseLit}
use Rattle.vx_script.specs.declared.line.ScriptLine.{ScriptLine}
use Rattle.vx_script.specs.declared.line.ScriptLine.TheVariants.{Write as WriteLine, Put, Link, Set}
use Rattle.vx_events.specs.Facts.{site_number}
use Rattle.vx_events.specs.Sayings.{is_written}
use Rattle.vx_events.specs.declared.said.Said.{Said}
use Rattle.vx_events.specs.declared.said.Said.TheVariants.{Done}

-- No write of the site can have made its log give up others, where all that it has fits: in the first session each of them stands in the
-- log; and where there is still room for the largest write, there was before each write that was begun, whatever came of it.
abbrev pub KeepsAllWrites : Node → Type 0
KeepsAllWrites n = (n.session ≡ 1) ⊎ (logged_blocks n.log + (MOST_CALL_BLOCKS + 1) ≤ n.ring)

-- A write under a fuse that was just set, which is exactly four writes and flushes: the site's log holds all of its writes, and has room for
-- this one too without going round.
pub record IsExact (n : Node) (x : Write) (calls : ℕ) : Type 0 where
  pub raw : n.group ≡ None
  pub set : n.fuse ≡ FuseSet calls
  pub keeps : KeepsAllWrites n
  pub room : logged_blocks n.log + (blocks_in x.bytes + 1) ≤ n.ring

-- this fuse may let so many writes and flushes pass
abbrev pub MayPass : ℕ → Fuse → Type 0
MayPass n NoFuse = Unit {0}
MayPass n (FuseSet calls) = n ≤ calls
MayPass n (FuseLit most) = n ≤ most

-- a header is written and flushed
abbrev pub header_calls : ℕ
header_calls = 2

-- A write is done only where the fuse of its site may let as many calls pass as a write is at least. Each one that is done takes these from the
-- fuse (`logged`), so under a fuse of so many calls at most a fourth as many writes are done. A line that sets a link anew writes one header, and
-- one that makes a link two at each of its sites.
abbrev pub NeedsCalls : World → ScriptLine → Said → Type 0
NeedsCalls w (WriteLine site volume start count fill) said = is_written said ≡ true → MayPass write_calls (w.nodes (site_number w site)).fuse
NeedsCalls w (Put site volume start bytes) said = is_written said ≡ true → MayPass write_calls (w.nodes (site_number w site)).fuse
NeedsCalls w (Link p s sync prot) said =
    said ≡ Done → MayPass (2 * header_calls) (w.nodes (site_number w p)).fuse × MayPass (2 * header_calls) (w.nodes (site_number w s)).fuse
NeedsCalls w (Set p s sync prot) said = said ≡ Done → MayPass header_calls (w.nodes (site_number w p)).fuse
NeedsCalls w other said = Unit {0}
