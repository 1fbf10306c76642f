-- `wait_line`: its result; what `wait` asks.
use Rattle.std.proofs.Common.{◌≡◌, ◌∙◌, subst, sym}
use Rattle.std.specs.Prelude.{None}
use Rattle.vx_order.specs.Order.{line_refusal}
use Rattle.vx_script.specs.declared.line.ScriptLine.TheVariants.{Wait}
use Rattle.vx_yard.specs.Yards.{in_files}
use Rattle.vx_yard.proofs.LinkLines.{listed, wait_brings, wait_free}
use Rattle.vx_link_lines.proofs.wait.wait_line.Goals as goal

pub wait-requires : goal.wait-requires
wait-requires g c = record {
  free = (in_files c.args.yard.now, subst (λ fs. line_refusal fs (in_files c.args.yard.now) (Wait c.args.name.now c.args.number) ≡ None) (sym c.deref.ensures.value) c.requires.free);
}

pub returns : goal.returns
returns g c = record {
  leads = λ d stands carries.
      let y = c.args.yard.now in
      let facts = c.deref.ensures.value ∙ stands.facts in
      wait_brings d y c.args.name.now c.args.number _ c.wait.result c.deref.result.now stands carries (in_files y) (wait_free d y c.args.name.now c.args.number stands c.requires.free)
      (c.wait.ensures.world d.world facts (listed d stands.links)) c.deref.ensures.value (c.wait.ensures.facts d.world facts) c.reply.ensures;
}
