-- `clear`: its result.
use Rattle.std.proofs.Common.{arith, ◌≡◌, ◌∙◌, ◌++◌, ap, sym, subst, ℕ, List, Option, None, length, take, drop, replicate}
use Rattle.std.proofs.lemmas.List.{take_at, length-take, length-append, length-drop, length-replicate}
use Rattle.vx_packet.specs.Gathering.{parts_came, AreFull}
use Rattle.vx_packet.proofs.GatherLemmas.{came-none, AreFull-none}
use Rattle.vx_packet.proofs.gathered.clear.Goals as goal

pub returns : goal.returns
returns c =
    let old : List (Option ℕ) = c.args.lengths.now in
    let n : ℕ = c.args.count in
    let count : length (take n old) ≡ n = omega (arith, length-take n old) in
    let front : c.reset.new.lengths ≡ replicate n None = c.reset.ensures ∙ ap (λ (k : ℕ). replicate k None) count in
    let long : length c.reset.new.lengths ≡ n = ap length front ∙ length-replicate {A = Option ℕ} n None in
    let is : take n (c.reset.new.lengths ++ drop n old) ≡ replicate n None = take_at c.reset.new.lengths (drop n old) n long ∙ front in record {
      none = λ buffer. ap (λ (ls : List (Option ℕ)). parts_came ls buffer) is ∙ came-none n buffer;
      full = subst AreFull (sym is) (AreFull-none n);
      told = omega (arith, length-append c.reset.new.lengths (drop n old), length-drop n old);
    }
