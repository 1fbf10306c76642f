-- `first_of`: clause value.
use Rattle.std.proofs.Common.{◌≡◌, ◌==◌, true, length, get_or, sym, arith}
use Rattle.std.proofs.lemmas.List.Sums.{position_or_len_is}
use Rattle.vx_script.proofs.scan.first_of.Goals as goal

pub returns-then-b-byte-clause-value : goal.returns-then-b-byte-clause-value
returns-then-b-byte-clause-value c =
    let here : (get_or c.args.bytes.now c.loop-i.i 0 == c.args.byte) ≡ true = grind arith in
    sym (position_or_len_is (λ b. b == c.args.byte) c.args.bytes.now c.loop-i.i 0 (omega arith) c.loop-i.invariant (λ _. here))

pub returns-clause-value : goal.returns-clause-value
returns-clause-value c =
    sym (position_or_len_is (λ b. b == c.args.byte) c.args.bytes.now (length c.args.bytes.now) 0 (omega arith) (λ k below. c.loop-i.invariant k (omega arith)) (λ past. absurd (omega arith)))
