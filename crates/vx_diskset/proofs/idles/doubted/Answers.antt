-- The same disks, of which imports may disagree.
use Rattle.std.proofs.Common.{◌≡◌, false, true}
use Rattle.vx_diskset.proofs.idles.doubted.Goals as goal

pub of-requires-clause-can : goal.of-requires-clause-can
of-requires-clause-can g c = λ κs lives agreed. absurd (let clash : false ≡ true = agreed in cc)

pub of-requires-clause-tells : goal.of-requires-clause-tells
of-requires-clause-tells g c = λ κs lives r agreed is. absurd (let clash : false ≡ true = agreed in cc)
