-- Where a yard stands for a world, all writes of a site are durable that is up and runs, and at which writes arise.
use Rattle.std.proofs.Common.{◌≡◌, ◌∙◌, ◌≤◌, true, false, List, length, ap, sym, arith}
use Rattle.std.specs.Prelude.{None}
use Rattle.vx_model.specs.Sites.{is_origin}
use Rattle.vx_model.specs.declared.site.SiteState.TheVariants.{Bare as IsBare, Down as IsDown, Up as IsUp}
use Rattle.vx_history.specs.Doubts.{Doubted}
use Rattle.vx_history.specs.World.{Node}
use Rattle.vx_events.specs.Durables.{AreDurable}
use Rattle.vx_model.specs.Content.{Write}
use Rattle.vx_model.proofs.Lists.{get_there}
use Rattle.vx_disk.specs.declared.shelf.Shelf.{Ghosts}
use Rattle.vx_diskset.proofs.GroupStands.{up_has_none}
use Rattle.vx_diskset.proofs.OverSets.{over_durable}
use Rattle.vx_diskset.specs.Holds.{KeptBeside, beside_of}
use Rattle.vx_diskset.specs.Stands.{SiteStands}
use Rattle.vx_diskset.specs.declared.disk_set.DiskSet.{DiskSet}
use Rattle.vx_diskset.specs.declared.disk_set.DiskSet.TheVariants.{Bare, Spoiled, Up, Receives, Down, OfGroup, Over, Gone}
use Rattle.vx_yard.specs.Standing.{StandsFor}
use Rattle.vx_yard.specs.declared.yard.Yard.{Yard}

module _ {R : Type 0} {g : Ghosts R} where
  durable_at : (beside : KeptBeside) (n : Node) (e : DiskSet R g) → SiteStands beside n e → n.state ≡ IsUp → n.halted ≡ None → is_origin n.role ≡ true → length n.log ≤ n.safe
  durable_at beside n (Bare rack) h up none origin = let e : IsBare ≡ IsUp = sym (ap (λ (x : Node). x.state) h.bare.is) ∙ up in absurd (cc)
  durable_at beside n (Spoiled rack) h up none origin = let e : IsBare ≡ IsUp = sym (ap (λ (x : Node). x.state) h.is) ∙ up in absurd (cc)
  durable_at beside n (Up rvg) h up none origin = h.1.durable none
  durable_at beside n (Receives s) h up none origin = let e : true ≡ false = sym origin ∙ h.1.role in absurd (cc)
  durable_at beside n (Down rack) h up none origin = let e : IsDown ≡ IsUp = sym h.state ∙ up in absurd (cc)
  durable_at beside n (OfGroup s) h up none origin = let has = up_has_none beside n s h up in omega (arith, ap (λ (xs : List Write). length xs) has.log)
  durable_at beside n (Over s) h up none origin = over_durable beside n s.site h.1 up none origin
  durable_at beside n Gone h up none origin = absurd h

  pub durable_for : (d : Doubted) (y : Yard R g) → StandsFor d y → AreDurable d.world
  durable_for d y stands = record {
    each = λ i below up none origin.
        let one = get_there y.disk_sets.items i (omega (arith, below, stands.disk_sets.few, stands.disk_sets.eight)) in
        durable_at (beside_of d i) (d.world.nodes i) one.0 (stands.disk_sets.sites i one.0 below one.1) up none origin;
  }
