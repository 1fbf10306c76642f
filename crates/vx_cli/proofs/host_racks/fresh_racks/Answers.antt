-- `fresh_racks`: its result; what stays true in its loop over `step`.
use Rattle.std.proofs.Common.{◌∷◌, [], List, ap, arith, length, length-append, subst, sym}
use Rattle.std.specs.List.{All}
use Rattle.std.proofs.lemmas.List.Elements.{All-push}
use Rattle.vx_disk.specs.Racks.{Bare}
use Rattle.vx_filedisk.specs.Meanings.{rack_meaning}
use Rattle.vx_filedisk.specs.declared.host.HostRack.{HostRack}
use Rattle.vx_cli.proofs.Fresh.{fresh}
use Rattle.vx_cli.proofs.host_racks.fresh_racks.Goals as goal

pub loop-step-preserved : goal.loop-step-preserved
loop-step-preserved c = record {
  count = omega (arith, ap (λ (racks : List HostRack). length racks) c.in_ok-push.ensures.items, length-append c.loop-step.racks.items (c.in_ok-new.field-0 ∷ []), c.loop-step.invariant.count);
  bare = subst (λ (racks : List HostRack). All (λ (r : HostRack). Bare (rack_meaning r)) racks) (sym c.in_ok-push.ensures.items)
      (All-push (λ (r : HostRack). Bare (rack_meaning r)) _ _ c.loop-step.invariant.bare c.in_ok-new.ensures.bare);
}

pub returns : goal.returns
returns c = fresh rack_meaning c.loop-step.racks.items (omega (arith, c.loop-step.invariant.count, c.loop-step.auto, c.loop-step-test.false)) c.loop-step.invariant.bare
