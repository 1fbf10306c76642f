-- Every event elsewhere passes a halted site.
use Rattle.std.proofs.Common.{ℕ}
use Rattle.vx_history.specs.Step.{outcome_of, step}
use Rattle.vx_history.specs.World.{World}
use Rattle.vx_history.specs.Events.{link_attached, link_detached, link_with}
use Rattle.vx_history.specs.declared.event.Event.{Event}
use Rattle.vx_history.specs.declared.event.Event.TheVariants.{Site, Raw, Group, Volumes, Write, Read, Apply, Pump, Tick, Deliver, Connect, Cut, Pause, Resume, Wait, Link, Set, Attach, Detach, Crash, Deport, Fall, Recover, Fault}
use Rattle.vx_world.proofs.Whole.{step_good}
use Rattle.vx_world.specs.Twins.{Twin, IsElsewhere, GoodTwin}
use Rattle.vx_world.proofs.Twinning.{twin_tick, twin_cut, twin_pause, twin_resume, twin_pump, twin_connect, twin_set, twin_deliver, twin_fault}
use Rattle.vx_world.proofs.BesidesLinks.{twin_site, twin_raw, twin_fall, twin_group, twin_volumes, twin_join}
use Rattle.vx_world.proofs.Besides.{twin_write, twin_read, twin_apply, twin_wait, twin_crash, twin_deport, twin_recover}

twin_outcome : (s : ℕ) (w v : World) (e : Event) → IsElsewhere s e → Twin s w v → Twin s (outcome_of w e).world (outcome_of v e).world
twin_outcome s w v (Site name disks blocks) there twin = twin_site s w v twin name disks blocks
twin_outcome s w v (Raw p) there twin = twin_raw s w v twin p
twin_outcome s w v (Group p) there twin = twin_group s w v twin p
twin_outcome s w v (Volumes p log xs) there twin = twin_volumes s w v twin p log xs
twin_outcome s w v (Write p volume start bytes fails) there twin = twin_write s w v twin p (record { volume = volume; start = start; bytes = bytes }) fails
twin_outcome s w v (Read p volume start count) there twin = twin_read s w v twin p volume start count
twin_outcome s w v (Apply p count reached) there twin = twin_apply s w v twin p count reached
twin_outcome s w v (Pump p q) there twin = twin_pump s w v twin p q
twin_outcome s w v (Tick p q) there twin = twin_tick s w v twin p q
twin_outcome s w v (Deliver number) there twin = twin_deliver s w v twin number
twin_outcome s w v (Connect p q) there twin = twin_connect s w v twin p q
twin_outcome s w v (Cut p q) there twin = twin_cut s w v twin p q
twin_outcome s w v (Pause p q) there twin = twin_pause s w v twin p q
twin_outcome s w v (Resume p q) there twin = twin_resume s w v twin p q
twin_outcome s w v (Wait p number) there twin = twin_wait s w v twin p number
twin_outcome s w v (Link p q sync prot part) there twin = twin_join s w v twin p q sync prot part
twin_outcome s w v (Set p q sync prot) there twin = twin_set s w v twin p q (λ l. link_with sync prot l)
twin_outcome s w v (Attach p q) there twin = twin_set s w v twin p q link_attached
twin_outcome s w v (Detach p q) there twin = twin_set s w v twin p q link_detached
twin_outcome s w v (Crash p kept) there twin = twin_crash s w v twin p kept there
twin_outcome s w v (Deport p) there twin = twin_deport s w v twin p
twin_outcome s w v (Fall p) there twin = twin_fall s w v twin p
twin_outcome s w v (Recover p fails) there twin = twin_recover s w v twin p fails there
twin_outcome s w v (Fault p disk) there twin = twin_fault s w v twin p disk there

-- whatever headers are counted
pub twin_step : (s : ℕ) (w v : World) (e : Event) → IsElsewhere s e → Twin s w v → Twin s (step w e).world (step v e).world
twin_step s w v e there twin =
    let t : Twin s (outcome_of w e).world (outcome_of v e).world = twin_outcome s w v e there twin in record {
      sites = t.sites;
      nodes = t.nodes;
      rows = t.rows;
      lines = t.lines;
      packets = t.packets;
      promised = t.promised;
      gathering = t.gathering;
      here = t.here;
      name = t.name;
      up = t.up;
      up_too = t.up_too;
      halted = t.halted;
      halted_too = t.halted_too;
    }

pub good_step : (s : ℕ) (w v : World) (e : Event) → IsElsewhere s e → GoodTwin s w v → GoodTwin s (step w e).world (step v e).world
good_step s w v e there is = record { twin = twin_step s w v e there is.twin; good = step_good w e is.good; good_too = step_good v e is.good_too }
