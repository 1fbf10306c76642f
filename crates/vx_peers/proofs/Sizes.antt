-- How many packets an update is.
use Rattle.std.proofs.Common.{◌+◌, ◌/◌, ◌≤◌, ℕ, zero, suc, length, arith}
use Rattle.std.specs.Prelude.{pred}
use Rattle.vx_model.specs.declared.call.Update.{Update}
use Rattle.vx_history.specs.Sends.{parts_of}
use Rattle.vx_history.specs.World.{Update as PlainUpdate}
use Rattle.vx_packet.specs.Buffers.{AreWholeBlocks}
use Rattle.vx_packet.specs.Messages.{count_of_parts as parts_in_bytes}
use Rattle.vx_packet.specs.declared.message.Message.TheVariants.{Update as MUpdate}
use Rattle.vx_parts.proofs.Counting.{parts_are}
use Rattle.vx_rvg.specs.Contents.{write_of_update}

pred_less : (n : ℕ) → pred n ≤ n
pred_less zero = omega arith
pred_less (suc n) = omega arith

suc_most : (n : ℕ) → n ≤ 15 → suc n ≤ 16
suc_most n le = omega (arith, le)

few_parts : (number : ℕ) (u : Update) → AreWholeBlocks 16 u.bytes → parts_of (PlainUpdate number (write_of_update u)) ≤ 16
few_parts number u blocks =
    let many : (16 + length u.bytes + 1023) / 1024 ≤ 15 = omega (arith, blocks.few) in
    let less : pred ((16 + length u.bytes + 1023) / 1024) ≤ (16 + length u.bytes + 1023) / 1024 = pred_less ((16 + length u.bytes + 1023) / 1024) in
    let all : pred ((16 + length u.bytes + 1023) / 1024) ≤ 15 = omega (arith, many, less) in
    suc_most (pred ((16 + length u.bytes + 1023) / 1024)) all

pub update_parts : (number : ℕ) (u : Update) → AreWholeBlocks 16 u.bytes → parts_in_bytes (MUpdate number u.vol u.block u.bytes) ≤ 16
update_parts number u blocks = omega (arith, few_parts number u blocks, parts_are (PlainUpdate number (write_of_update u)))
