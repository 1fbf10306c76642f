-- `seal`: its result.
use Rattle.std.proofs.Common.{arith, ◌≡◌, ◌+◌, ◌∙◌, ap, take, drop, [], ◌++◌, List, ℕ, length}
use Rattle.std.proofs.lemmas.List.{drop_all, append-nil}
use Rattle.vx_wire.specs.Places.{put_at}
use Rattle.vx_wire.proofs.SealLemmas.{length-digest_of}
use Rattle.vx_wire.proofs.sealed.seal.Goals as goal

pub returns : goal.returns
unfolding put_at
returns c =
    let front : List ℕ = take 480 c.args.block.now in
    let len : length c.digest-front.result ≡ 32 = ap length c.digest-front.ensures ∙ length-digest_of front in
    let none : drop (480 + length c.digest-front.result) c.args.block.now ≡ [] = drop_all (480 + length c.digest-front.result) c.args.block.now (omega arith) in
    c.put_bytes.ensures ∙ rw (none, append-nil) (ap (λ (d : List ℕ). front ++ d) c.digest-front.ensures)
