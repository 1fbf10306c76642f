-- `read_message`: clause only.
use Rattle.std.proofs.Common.{◌≡◌, ◌∙◌, sym, subst}
use Rattle.std.proofs.lemmas.Option.{same_Some}
use Rattle.vx_packet.specs.Messages.{CanSpellMessage, IsSpelled}
use Rattle.vx_packet.specs.declared.message.Message.{Message}
use Rattle.vx_packet.proofs.MessageAgain.{message_in-is}
use Rattle.vx_packet.proofs.Numbers.{not_both}
use Rattle.vx_packet.proofs.reading.read_message.Goals.{else-spelled-via-then-spelled+else-can_spell, else-spelled-via-else-spelled}
use Rattle.vx_packet.proofs.reading.read_message.Goals as goal

pub returns-then-can_spell-clause-only : goal.returns-then-can_spell-clause-only
returns-then-can_spell-clause-only c m is = c.in-Some.ensures ∙ message_in-is c.args.kind c.args.session c.args.number c.args.payload.now m is

pub returns-else-spelled-clause-only : goal.returns-else-spelled-clause-only
returns-else-spelled-clause-only c m is =
    let same : m ≡ c.in-Some.message = same_Some m c.in-Some.message (sym (message_in-is c.args.kind c.args.session c.args.number c.args.payload.now m is) ∙ sym c.in-Some.ensures) in
    elim c.else-spelled.branch [
      | else-spelled-via-then-spelled+else-can_spell w ↦ absurd (not_both (w.if-can_spell.ensures.1 (subst CanSpellMessage same is.can)))
      | else-spelled-via-else-spelled w ↦
          absurd (not_both (w.if-spelled.ensures.spelled.1 (subst (λ (q : Message). IsSpelled c.args.kind c.args.session c.args.number c.args.payload.now q) same is.spelled)))
    ]

pub returns-in-None-clause-only : goal.returns-in-None-clause-only
returns-in-None-clause-only c m is = c.in-None.ensures ∙ message_in-is c.args.kind c.args.session c.args.number c.args.payload.now m is
