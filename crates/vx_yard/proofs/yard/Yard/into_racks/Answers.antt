-- `into_racks`: clauses holds, groups, counts and told.
use Rattle.std.proofs.Common.{◌∙◌, ap, sym, subst, arith}
use Rattle.vx_yard.specs.Holds.{GroupsHold, RacksHold, RacksTell, rack_faults}
use Rattle.vx_yard.proofs.IntoRacks.{groups_hold, racks_counted, racks_keep, racks_told}
use Rattle.vx_yard.proofs.yard.Yard.into_racks.Goals as goal

pub returns-clause-holds : goal.returns-clause-holds
returns-clause-holds g c = λ d stands.
    subst (λ rs. RacksHold g.R.Shelf.meaning d rs) (sym (c.take_racks.ensures stands.none (omega (arith, stands.room, stands.disk_sets.eight))))
    (racks_keep (g.met.R.Shelf g.world.𝓛 g.world.𝓜 g.world.𝓡 ((λ s x. x), (λ x. x), (λ x. x), λ x. x)).lawful d c.args.self.disk_sets.items stands.disk_sets)

pub returns-clause-groups : goal.returns-clause-groups
returns-clause-groups g c = λ d stands told.
    subst (λ rs. GroupsHold g.R.Shelf.meaning d rs) (sym (c.take_racks.ensures stands.none (omega (arith, stands.room, stands.disk_sets.eight))))
    (groups_hold (g.met.R.Shelf g.world.𝓛 g.world.𝓜 g.world.𝓡 ((λ s x. x), (λ x. x), (λ x. x), λ x. x)).lawful d c.args.self.disk_sets.items stands.disk_sets told)

pub returns-clause-counts : goal.returns-clause-counts
returns-clause-counts g c = λ e stands s u.
    ap (λ rs. rack_faults g.R.Shelf.meaning rs s u) (c.take_racks.ensures stands.none (omega (arith, stands.room, stands.disk_sets.eight))) ∙ racks_counted e c.args.self.disk_sets.items stands.disk_sets s u

pub returns-clause-told : goal.returns-clause-told
returns-clause-told g c = λ d stands tell.
    racks_told d c.args.self.disk_sets.items stands.disk_sets (subst (λ rs. RacksTell g.R.Shelf.meaning rs) (c.take_racks.ensures stands.none (omega (arith, stands.room, stands.disk_sets.eight))) tell)
