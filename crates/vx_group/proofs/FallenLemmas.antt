-- What a crash of its disks leaves of a group, and what may be imported behind it.
use Rattle.std.proofs.Common.{◌≡◌, true, refl, sym}
use Rattle.vx_disk.specs.Racks.{Alike, IsRack, Stopped}
use Rattle.vx_disk.specs.Shelf.{Lawful, Meaning}
use Rattle.vx_group.specs.Resumes.{CanImport}
use Rattle.vx_group.specs.Stands.{InnerStands, inner_meaning}
use Rattle.vx_group.specs.declared.inner.Inner.{Inner}
use Rattle.vx_group.proofs.AgainLemmas.{agreed_behind, fall_can, less_can}
use Rattle.vx_group.proofs.LessLemmas.{image_from, less_Stands, seen_from}

module _ (core : Inner) (m m' : Meaning) (stands : InnerStands core m) (law : Lawful m) (law' : Lawful m') (stopped : Stopped m m') where
  -- the group stands on what it leaves
  pub fallen_Stands : InnerStands core m'
  fallen_Stands = less_Stands core m m' stands law law' stopped.units stopped.size stopped.tells stopped.leaves

  pub fallen_can : IsRack m' → core.agreed ≡ true → CanImport m'
  fallen_can rack agreed = fall_can m m' law' rack stopped (agreed_behind core m stands agreed)

  -- to its volumes it is a crash
  pub fallen_volumes : Stopped (inner_meaning core m) (inner_meaning core m')
  fallen_volumes = record {
    units = refl;
    size = λ v. refl;
    tells = stopped.tells;
    reads = seen_from core.config m.tells m'.tells stopped.tells m.leaves m'.reads stopped.reads;
    leaves = seen_from core.config m.tells m'.tells stopped.tells m.leaves m'.leaves stopped.leaves;
    now = λ i it. image_from core.config m m' stopped.units stopped.size m.now m'.now stopped.now i it;
    later = stopped.later;
    since = λ t i le it. image_from core.config m m' stopped.units stopped.size (m.left_since t) (m'.left_since t) (λ j left. stopped.since t j le left) i it;
    keeps = λ t i le it. image_from core.config m' m (sym stopped.units) (λ u. sym (stopped.size u)) (m'.left_since t) (m.left_since t) (λ j left. stopped.keeps t j le left) i it;
    counts = record { faults = λ v. refl; disk_faults = stopped.counts.disk_faults };
    down = stopped.down;
    unarmed = stopped.unarmed;
  }

-- ---- the down state ends

pub alike_can : (m m' : Meaning) → Alike m m' → CanImport m → CanImport m'
alike_can m m' alike can = less_can m m' alike.contents.units alike.contents.size alike.contents.leaves can
