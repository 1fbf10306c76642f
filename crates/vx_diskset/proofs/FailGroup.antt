-- Which disks of a site are made to fail is nothing by which the group over them stands.
use Rattle.std.proofs.Common.{ℕ, Bool, List}
use Rattle.vx_model.specs.declared.call.Update.{Update}
use Rattle.vx_history.specs.World.{Node}
use Rattle.vx_disk.specs.Shelf.{Meaning}
use Rattle.vx_rvg.specs.Views.{Core}
use Rattle.vx_diskset.specs.Holds.{KeptBeside}
use Rattle.vx_diskset.specs.Stands.{IsDownAt, IsReceiverAt, IsUpAt}
use Rattle.vx_diskset.proofs.BesideLemmas.{site_map}

-- a group that is up
pub up_failing : (beside : KeptBeside) (n : Node) (failing : ℕ → Bool) (c : Core) (m : Meaning) → IsUpAt beside n c m → IsUpAt beside (record n { failing = failing }) c m
up_failing beside n failing c m h = record {
  state = h.state;
  up = h.up;
  fuse = h.fuse;
  lies = h.lies;
  low = h.low;
  units = h.units;
  ring = h.ring;
  found = h.found;
  kept = h.kept;
  linked = h.linked;
  session = h.session;
  begun = h.begun;
  stamp = h.stamp;
  fresh = h.fresh;
  first = h.first;
  head = h.head;
  halted = h.halted;
  logged = h.logged;
  durable = h.durable;
  takes = h.takes;
  content = h.content;
  left = λ i now. site_map n (record n { failing = failing }) i (λ has. record { count = has.count; least = has.least; most = has.most; found = has.found }) (h.left i now);
  sure = h.sure;
  may = h.may;
}

pub receiver_failing : (beside : KeptBeside) (n : Node) (failing : ℕ → Bool) (c : Core) (us : List Update) (m : Meaning) → IsReceiverAt beside n c us m → IsReceiverAt beside (record n { failing = failing }) c us m
receiver_failing beside n failing c us m h = record {
  state = h.state;
  role = h.role;
  up = h.up;
  fuse = h.fuse;
  lies = h.lies;
  low = h.low;
  units = h.units;
  ring = h.ring;
  found = h.found;
  kept = h.kept;
  linked = h.linked;
  session = h.session;
  begun = h.begun;
  stamp = h.stamp;
  first = h.first;
  least = h.least;
  most = h.most;
  head = h.head;
  halted = h.halted;
  waits = h.waits;
  takes = h.takes;
  content = h.content;
  left = λ i now. site_map n (record n { failing = failing }) i (λ has. record { count = has.count; least = has.least; most = has.most; found = has.found }) (h.left i now);
  sure = h.sure;
  may = h.may;
}

pub down_failing : (beside : KeptBeside) (n : Node) (failing : ℕ → Bool) (m : Meaning) → IsDownAt beside n m → IsDownAt beside (record n { failing = failing }) m
down_failing beside n failing m h = record {
  state = h.state;
  unfused = h.unfused;
  down = h.down;
  unarmed = h.unarmed;
  sure = h.sure;
  raw = h.raw;
  lies = h.lies;
  low = h.low;
  logged = h.logged;
  begun = h.begun;
  left = h.left;
}
