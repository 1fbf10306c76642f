-- `number_seen`: its result; that no number grows too large.
use Rattle.std.proofs.Common.{◌≡◌, ◌∙◌, ap, sym, arith}
use Rattle.std.specs.Prelude.{Some, unwrap_or}
use Rattle.std.specs.Str.{bytes_eq}
use Rattle.vx_events.proofs.Places.{position_within}
use Rattle.vx_events.specs.Facts.{place_of}
use Rattle.vx_order.specs.declared.facts.VolumeFacts.{VolumeFacts}
use Rattle.vx_group_lines.proofs.rvg.number_seen.Goals as goal

pub overflow_cast-result : goal.overflow_cast-result
overflow_cast-result c =
    let is : place_of c.args.facts.now.volumes c.args.name.now ≡ Some c.in-Some.number = sym c.place.ensures ∙ c.in-Some.is in
    let low = position_within (λ (v : VolumeFacts). bytes_eq v.name c.args.name.now) c.args.facts.now.volumes c.in-Some.number is in
    omega (arith, low, c.requires.few)

pub returns-in-Some : goal.returns-in-Some
returns-in-Some c = sym (ap (λ o. unwrap_or o 0) (sym c.place.ensures ∙ c.in-Some.is))

pub returns-in-None : goal.returns-in-None
returns-in-None c = sym (ap (λ o. unwrap_or o 0) (sym c.place.ensures ∙ c.in-None.is))
