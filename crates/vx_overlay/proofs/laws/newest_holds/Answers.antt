-- What the laws say, by the lemmas.
use Rattle.std.proofs.Common.{refl}
use Rattle.vx_overlay.proofs.Newest.{newest-added, newest-others, newest-stands, newest-is, newest-drop}
use Rattle.vx_overlay.proofs.laws.newest_holds.Goals as goal

pub returns : goal.returns
returns c = record { empty = λ v b. refl; added = newest-added; others = newest-others; stands = newest-stands; held = newest-is; dropped = newest-drop }
