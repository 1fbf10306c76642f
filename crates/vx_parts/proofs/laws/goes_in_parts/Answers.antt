-- Each clause is part of its theorem.
use Rattle.vx_parts.proofs.Counting.{parts_are, key_is}
use Rattle.vx_parts.proofs.Wholes.{after_same, whole_same}
use Rattle.vx_parts.proofs.laws.goes_in_parts.Goals as goal

pub returns : goal.returns
returns c = record { parts = parts_are; whole = whole_same; came = after_same; key = key_is }
