-- `place_in`: its result; that no number grows too large.
use Rattle.std.proofs.Common.{◌≡◌, ◌∙◌, ap, sym, arith}
use Rattle.std.specs.List.{position}
use Rattle.std.specs.Prelude.{Some, unwrap_or}
use Rattle.std.specs.Str.{bytes_eq}
use Rattle.vx_config.specs.declared.entry.VolumeEntry.{VolumeEntry}
use Rattle.vx_events.proofs.Places.{position_within}
use Rattle.vx_group_lines.proofs.numbers.place_in.Goals as goal

pub overflow_cast-result : goal.overflow_cast-result
overflow_cast-result c =
    let is : position (λ (v : VolumeEntry). bytes_eq v.name c.args.name.now) c.args.volumes.now ≡ Some c.in-Some.place = sym c.find_in.ensures ∙ c.in-Some.is in
    let low = position_within (λ (v : VolumeEntry). bytes_eq v.name c.args.name.now) c.args.volumes.now c.in-Some.place is in
    omega (arith, low, c.requires.few)

pub returns-in-Some : goal.returns-in-Some
returns-in-Some c = sym (ap (λ o. unwrap_or o 0) (sym c.find_in.ensures ∙ c.in-Some.is))

pub returns-in-None : goal.returns-in-None
returns-in-None c = sym (ap (λ o. unwrap_or o 0) (sym c.find_in.ensures ∙ c.in-None.is))
