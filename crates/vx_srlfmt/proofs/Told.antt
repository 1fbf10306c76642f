-- What a test has told.
use Rattle.std.proofs.Common.{◌≡◌, true, false}

pub not_both : false ≡ true → ⊥
not_both h = cc
