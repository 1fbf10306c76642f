-- `update_of`: its result.
use Rattle.std.proofs.Common.{◌≡◌, ◌-◌, refl, arith, slice_get, Some}
use Rattle.std.proofs.lemmas.Option.{slice_get_read}
use Rattle.vx_plain.proofs.Logged.{kept-at}
use Rattle.vx_plain.proofs.small.Core.update_of.Goals as goal

pub returns : goal.returns
returns c = let some = c.requires.0 in let few = c.requires.1 in
    let at : slice_get c.args.self.now.slips.items (c.args.number - 1) ≡ Some c.index-slip.result.now = slice_get_read c.args.self.now.slips.items _ (c.args.number - 1) c.index-slip.result.now refl (omega (arith, some, few)) c.index-slip.ensures in
    (kept-at c.args.number c.args.self.now.slips.items c.index-slip.result.now some at, refl, refl)
