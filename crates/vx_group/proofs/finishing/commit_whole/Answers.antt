-- `commit_whole`: clauses commits, acts, trust and agreed; what `commit_stale` asks.
use Rattle.std.proofs.Common.{◌≡◌, inl, true, false, refl, sym, ◌∙◌}
use Rattle.vx_disk.specs.Shelf.{Nothing}
use Rattle.vx_kept.specs.Commits.{Member}
use Rattle.vx_kept.specs.Keeping.{Sees}
use Rattle.vx_group.proofs.AttachLemmas.{any_acts}
use Rattle.vx_group.proofs.CallLemmas.{not_down}
use Rattle.vx_group.proofs.DetachLemmas.{zero_bit}
use Rattle.vx_group.proofs.FinishLemmas.{commit_left, commit_made, commit_on}
use Rattle.vx_group.proofs.Standing.{kept_of, some_active, tidy_of}
use Rattle.vx_group.proofs.TrustLemmas.{committed_or, stays_committed}
use Rattle.vx_group.proofs.finishing.commit_whole.Goals as goal

pub commit_stale-requires-clause-left : goal.commit_stale-requires-clause-left
commit_stale-requires-clause-left g c = λ lt.
    let some = some_active c.args.core.now (g.S.Shelf.meaning c.args.shelf.now) c.requires.stands 0 lt in
    record { plex = some.plex; is_on = some.is_on; out = zero_bit 0 some.plex refl }

pub commit_stale-requires-clause-those : goal.commit_stale-requires-clause-those
commit_stale-requires-clause-those g c = record { each = λ p is. absurd (let none = zero_bit 0 p refl in let clash : false ≡ true = sym none ∙ is in cc) }

pub commit_stale-requires-clause-kept : goal.commit_stale-requires-clause-kept
commit_stale-requires-clause-kept g c = kept_of c.args.core.now (g.S.Shelf.meaning c.args.shelf.now) c.requires.stands

pub commit_stale-requires-clause-tidy : goal.commit_stale-requires-clause-tidy
commit_stale-requires-clause-tidy g c = tidy_of c.args.core.now (g.S.Shelf.meaning c.args.shelf.now) c.requires.stands c.requires.settled

pub returns-then-is_down-clause-commits : goal.returns-then-is_down-clause-commits
returns-then-is_down-clause-commits g c = (
  commit_on c.args.core.now _ (g.S.Shelf.meaning c.args.shelf.now) (g.S.Shelf.meaning c.commit_stale.new.shelf) (g.met.S.Shelf.lawful c.commit_stale.new.shelf) c.requires.stands c.commit_stale.ensures.acts c.commit_stale.ensures.wanted c.commit_stale.ensures.can c.commit_stale.ensures.on refl refl
      c.in-Ok.ensures.ends c.good_of-core.ensures (c.in-Ok.ensures.trusts c.args.core.now.committed c.args.core.now.agreed c.requires.stands.trusts c.is_committed-core.result c.is_committed-core.ensures.some),
  inl (sym c.is_down.ensures ∙ c.if-is_down.true),
)

pub returns-else-is_down-clause-commits : goal.returns-else-is_down-clause-commits
returns-else-is_down-clause-commits g c =
    commit_made c.args.core.now _ (g.S.Shelf.meaning c.args.shelf.now) (g.S.Shelf.meaning c.commit_stale.new.shelf) (g.met.S.Shelf.lawful c.commit_stale.new.shelf) c.requires.stands c.commit_stale.ensures.acts c.commit_stale.ensures.wanted c.commit_stale.ensures.can c.commit_stale.ensures.on refl refl
    c.in-Ok.ensures.ends c.good_of-core.ensures (c.in-Ok.ensures.trusts c.args.core.now.committed c.args.core.now.agreed c.requires.stands.trusts c.is_committed-core.result c.is_committed-core.ensures.some) c.requires.settled (not_down c.is_down.result (g.S.Shelf.meaning c.commit_stale.new.shelf).down c.is_down.ensures c.if-is_down.false) (committed_or c.is_committed-core.result c.commit_stale.new.config.disks (λ off. (c.is_committed-core.ensures.none off).1))

pub returns-in-Err-clause-commits : goal.returns-in-Err-clause-commits
returns-in-Err-clause-commits g c =
    commit_left c.args.core.now _ (g.S.Shelf.meaning c.args.shelf.now) (g.S.Shelf.meaning c.commit_stale.new.shelf) (g.met.S.Shelf.lawful c.commit_stale.new.shelf) c.requires.stands c.commit_stale.ensures.acts c.commit_stale.ensures.wanted c.commit_stale.ensures.can c.commit_stale.ensures.on refl refl
    c.in-Err.no c.in-Err.ensures.ends refl refl (c.in-Err.ensures.trusts c.args.core.now.committed c.args.core.now.agreed c.requires.stands.trusts)

pub returns-then-is_down-clause-acts : goal.returns-then-is_down-clause-acts
returns-then-is_down-clause-acts g c = any_acts Nothing Nothing (Sees c.args.core.now.config (Member c.args.core.now.good (g.S.Shelf.meaning c.args.shelf.now)) (g.S.Shelf.meaning c.args.shelf.now)) (g.S.Shelf.meaning c.args.shelf.now) (g.S.Shelf.meaning c.commit_stale.new.shelf) c.commit_stale.ensures.acts (λ u b x none. none)

pub returns-else-is_down-clause-acts : goal.returns-else-is_down-clause-acts
returns-else-is_down-clause-acts g c = any_acts Nothing Nothing (Sees c.args.core.now.config (Member c.args.core.now.good (g.S.Shelf.meaning c.args.shelf.now)) (g.S.Shelf.meaning c.args.shelf.now)) (g.S.Shelf.meaning c.args.shelf.now) (g.S.Shelf.meaning c.commit_stale.new.shelf) c.commit_stale.ensures.acts (λ u b x none. none)

pub returns-in-Err-clause-acts : goal.returns-in-Err-clause-acts
returns-in-Err-clause-acts g c = any_acts Nothing Nothing (Sees c.args.core.now.config (Member c.args.core.now.good (g.S.Shelf.meaning c.args.shelf.now)) (g.S.Shelf.meaning c.args.shelf.now)) (g.S.Shelf.meaning c.args.shelf.now) (g.S.Shelf.meaning c.commit_stale.new.shelf) c.commit_stale.ensures.acts (λ u b x none. none)

pub returns-else-is_down-clause-trust : goal.returns-else-is_down-clause-trust
returns-else-is_down-clause-trust g c = stays_committed c.args.core.now.committed c.is_committed-core.result (λ off. (c.is_committed-core.ensures.none off).0)

pub returns-then-is_down-clause-agreed : goal.returns-then-is_down-clause-agreed
returns-then-is_down-clause-agreed g c = stays_committed c.args.core.now.committed c.is_committed-core.result (λ off. (c.is_committed-core.ensures.none off).0)
