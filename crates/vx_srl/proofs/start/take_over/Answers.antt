-- `take_over`: clauses follows, arrives, spends and aside.
use Rattle.vx_srl.proofs.StartTakeOver.{first_follows, both_follow, both_arrive}
use Rattle.vx_disk.proofs.Spending.{then_spends}
use Rattle.vx_ringio.proofs.Aside.{both_aside}
use Rattle.vx_srl.proofs.start.take_over.Goals as goal

pub returns-in-Err-clause-follows : goal.returns-in-Err-clause-follows
returns-in-Err-clause-follows g c =
    first_follows c.args.unit c.args.ring c.args.standing.now c.requires.block c.first_step-step.result c.first_step-step.ensures.is c.first_step-step.ensures.other c.raise-raised.result c.raise-raised.ensures.is _ _
    c.write_header.ensures.follows

pub returns-in-Err-write_header-clause-follows : goal.returns-in-Err-write_header-clause-follows
returns-in-Err-write_header-clause-follows g c =
    both_follow c.args.unit c.args.ring c.args.standing.now c.requires.block c.first_step-step.result c.first_step-step.ensures.is c.first_step-step.ensures.other c.raise-raised.result c.raise-raised.ensures.is _ _
    c.raise-again.result c.raise-again.ensures.is _ c.in_default.ensures.arrives c.write_header.ensures.follows c.write_header-2.ensures.follows

pub returns-clause-follows : goal.returns-clause-follows
returns-clause-follows g c =
    both_follow c.args.unit c.args.ring c.args.standing.now c.requires.block c.first_step-step.result c.first_step-step.ensures.is c.first_step-step.ensures.other c.raise-raised.result c.raise-raised.ensures.is _ _
    c.raise-again.result c.raise-again.ensures.is _ c.in_default.ensures.arrives c.write_header.ensures.follows c.write_header-2.ensures.follows

pub returns-clause-arrives : goal.returns-clause-arrives
returns-clause-arrives g c =
    both_arrive c.args.unit c.args.ring c.args.standing.now c.requires.block c.first_step-step.result c.first_step-step.ensures.is c.first_step-step.ensures.other c.raise-raised.result c.raise-raised.ensures.is _ _
    c.raise-again.result c.raise-again.ensures.is _ c.in_default.ensures.arrives c.in_default-write_header.ensures.arrives

pub returns-in-Err-write_header-clause-spends : goal.returns-in-Err-write_header-clause-spends
returns-in-Err-write_header-clause-spends g c = then_spends _ _ _ c.write_header.ensures.spends c.write_header-2.ensures.spends

pub returns-clause-spends : goal.returns-clause-spends
returns-clause-spends g c = then_spends _ _ _ c.write_header.ensures.spends c.write_header-2.ensures.spends

pub returns-in-Err-write_header-clause-aside : goal.returns-in-Err-write_header-clause-aside
returns-in-Err-write_header-clause-aside g c = both_aside _ _ _ _ c.write_header.ensures.aside c.write_header-2.ensures.aside

pub returns-clause-aside : goal.returns-clause-aside
returns-clause-aside g c = both_aside _ _ _ _ c.write_header.ensures.aside c.write_header-2.ensures.aside
