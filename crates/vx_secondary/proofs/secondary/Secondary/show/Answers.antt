-- What a receiver shows.
use Rattle.std.proofs.Common.{◌≡◌, ◌/◌, ℕ, ap, subst, sym}
use Rattle.vx_model.specs.Content.{blocks_in, fold_writes}
use Rattle.vx_rvg.specs.Contents.{ShowsContent}
use Rattle.vx_secondary.specs.Receivers.{writes_of_updates}
use Rattle.vx_secondary.proofs.Waits.{waits_within}
use Rattle.vx_secondary.proofs.secondary.Secondary.show.Goals as goal

pub returns-clause-gives : goal.returns-clause-gives
returns-clause-gives g c = λ h stands told.
    let many : blocks_in c.read.new.into ≡ blocks_in c.args.into.now = ap (λ (n : ℕ). n / 512) c.read.auto.into in
    subst (λ (n : ℕ). ShowsContent (fold_writes h.content (writes_of_updates c.args.self.now.waiting)) c.args.vol c.args.start n c.put_waiting.new.into) many
    (c.put_waiting.ensures h.content
    (waits_within c.args.self.now.rvg.core h (g.S.Shelf.meaning c.args.self.now.rvg.shelf) c.args.self.now.waiting stands c.args.self.now.waits)
    (subst (λ (n : ℕ). ShowsContent h.content c.args.vol c.args.start n c.read.new.into) (sym many) (c.in_ok-read.ensures.gives h stands told)))
