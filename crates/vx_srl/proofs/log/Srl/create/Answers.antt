-- `create`: clause makes.
use Rattle.std.proofs.Common.{◌∙◌, ap, arith}
use Rattle.vx_model.specs.Sizes.{ring_of}
use Rattle.vx_srlfmt.specs.declared.header.Header.{Header}
use Rattle.vx_srl.proofs.MakeLog.{makes_new}
use Rattle.vx_srl.proofs.log.Srl.create.Goals as goal

pub returns-clause-makes : goal.returns-clause-makes
returns-clause-makes g c = λ big low. (
  makes_new c.args.unit _ c.ring_blocks-ring.result c.args.head c.args.state.now c.new_header-first.result c.new_header-second.result c.in_ok-records.records.items c.made.result _ _
      (c.ring_blocks-ring.ensures ∙ ap ring_of c.size-size.ensures) c.new_header-first.ensures.is (ap (λ (h : Header). h.stamp) c.new_header-second.ensures.is) (omega (arith, c.ring_blocks-ring.ensures, c.size-size.ensures))
      c.in_ok-records.ensures.items c.made.ensures c.in_default.ensures.written c.write_new.ensures.moves.tells,
  c.in_default.ensures.cause,
)
