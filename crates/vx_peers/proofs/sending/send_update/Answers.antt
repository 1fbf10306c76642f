-- `send_update`: clause count.
use Rattle.std.proofs.Common.{List, ap, arith, ℕ}
use Rattle.vx_packet.specs.Messages.{count_of_parts}
use Rattle.vx_packet.specs.declared.message.Message.TheVariants.{Update}
use Rattle.vx_peers.proofs.Sizes.{update_parts}
use Rattle.vx_peers.proofs.sending.send_update.Goals as goal

pub returns-clause-count : goal.returns-clause-count
returns-clause-count g c =
    omega (
      arith,
      c.send_message.ensures.count,
      ap (λ (bytes : List ℕ). count_of_parts (Update c.args.number c.args.update.now.vol c.args.update.now.block bytes)) c.of.ensures.bytes,
      update_parts c.args.number c.args.update.now c.of.ensures.blocks,
    )
