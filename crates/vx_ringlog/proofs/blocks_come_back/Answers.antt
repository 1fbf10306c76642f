-- `blocks_come_back`: its result.
use Rattle.vx_ringlog.proofs.Blocks.{given_comes_back, blocks_stand, write_comes_back}
use Rattle.vx_ringlog.proofs.blocks_come_back.Goals as goal

pub returns : goal.returns
returns c = record { given = given_comes_back; on_disk = blocks_stand; write = write_comes_back }
