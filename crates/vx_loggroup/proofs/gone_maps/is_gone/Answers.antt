-- `is_gone`: clauses gone and there behind the tests.
use Rattle.std.proofs.Common.{◌∙◌, ap, sym, arith}
use Rattle.std.specs.Prelude.{is_some}
use Rattle.vx_loggroup.specs.Attaching.{fmr_at}
use Rattle.vx_loggroup.proofs.FreshLemmas.{none_of}
use Rattle.vx_loggroup.proofs.gone_maps.is_gone.Goals as goal

pub returns-then-config-clause-there : goal.returns-then-config-clause-there
returns-then-config-clause-there c = λ off lt told none. absurd (let full = c.if-config.true in omega (arith, lt, full))

pub returns-then-has_maps-clause-there : goal.returns-then-has_maps-clause-there
returns-then-has_maps-clause-there c = λ off lt told none. sym (ap is_some none) ∙ sym c.has_maps.ensures ∙ c.if-has_maps.true

pub returns-clause-gone : goal.returns-clause-gone
returns-clause-gone c = λ is. none_of (fmr_at c.args.logs.now c.args.vol) (sym c.has_maps.ensures ∙ c.if-has_maps.false)

pub returns-clause-there : goal.returns-clause-there
returns-clause-there c = λ off lt told none. sym off ∙ c.is_trusted.ensures ∙ told
