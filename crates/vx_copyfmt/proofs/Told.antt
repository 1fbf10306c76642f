-- What tests have told, and what is read of what was spelled.
use Rattle.std.proofs.Common.{◌≡◌, true, false}

pub not_both : false ≡ true → ⊥
not_both h = cc
