-- The first refusal of a line.
use Rattle.std.proofs.Common.{◌∙◌, ap, sym}
use Rattle.vx_order.specs.Order.{line_refusal}
use Rattle.vx_order.specs.Packets.{packet_unknown}
use Rattle.vx_yard.specs.Working.{refused_in}
use Rattle.vx_yard.specs.Yards.{in_files}
use Rattle.vx_link_lines.proofs.AnswerFor.{refused_other}
use Rattle.vx_node.proofs.answering.refusal.Goals as goal

pub returns-in-Deliver : goal.returns-in-Deliver
returns-in-Deliver g c =
    c.refuse_packet.ensures ∙ ap (λ k. packet_unknown k c.in-Deliver.packet) c.count.ensures.count ∙ ap (λ line. refused_in c.args.yard.now line) (sym c.in-Deliver.is)

pub returns-in_default : goal.returns-in_default
returns-in_default g c =
    c.refuse.ensures ∙ ap (λ files. line_refusal c.deref.result.now files c.args.words.now) c.is_some-files.ensures
    ∙ ap (λ fs. line_refusal fs (in_files c.args.yard.now) c.args.words.now) c.deref.ensures.value ∙ refused_other c.args.yard.now c.args.words.now (λ number is. c.in_default.not-Deliver number is)
