-- `lengthen_places`: what stays true in its loop over `places`.
use Rattle.std.proofs.Common.{◌∙◌, refl}
use Rattle.std.specs.Prelude.{None}
use Rattle.vx_sites.specs.Shapes.{held_of}
use Rattle.vx_sites.specs.declared.gathering.Place.{Place}
use Rattle.vx_sites.proofs.Tables.{seen-longer}
use Rattle.vx_sites.proofs.gathering.lengthen_places.Goals as goal

pub loop-places-preserved : goal.loop-places-preserved
loop-places-preserved c =
    rw c.in_ok-push.ensures.items (seen-longer (λ (p : Place). held_of p.held) None c.loop-places.places.items (record { held = None }) refl ∙ c.loop-places.invariant)
