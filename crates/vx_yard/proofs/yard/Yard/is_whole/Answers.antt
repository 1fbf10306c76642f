-- Each test is a field of what a line asks.
use Rattle.std.proofs.Common.{◌∙◌, List, ap, arith}
use Rattle.std.specs.Prelude.{slice_get}
use Rattle.vx_order.specs.declared.facts.SiteFacts.{SiteFacts}
use Rattle.vx_yard.proofs.yard.Yard.is_whole.Goals as goal

pub returns : goal.returns
returns g c = λ shaped. record {
  eight = omega (arith, c.if-len-ne-MOST_SITES.false, c.len.ensures);
  few = omega (arith, c.if-len-gt-MOST_SITES.false, c.len-else-len-ne-MOST_SITES.ensures);
  each = λ s f at. c.are_shaped.ensures shaped s f (ap (λ (fs : List SiteFacts). slice_get fs s) c.deref.ensures.value ∙ at);
  places = omega (arith, c.if-len-ne-MOST_SITES-2.false, c.len-2.ensures);
  numbers = omega (arith, c.if-len-ne-MOST_SITES-3.false, c.len-else-len-ne-MOST_SITES-2.ensures);
}
