-- `release`: its clauses; what `detach_plex-result` asks.
use Rattle.std.proofs.Common.{arith, ◌∙◌, ◌≡◌, None, Some, ap, refl, sym, subst}
use Rattle.vx_config.specs.declared.config.Config.{Config}
use Rattle.vx_copies.specs.Commits.{MoreFailed}
use Rattle.vx_group.specs.declared.group_core.GroupCore.{GroupCore}
use Rattle.vx_group.specs.declared.inner.Inner.{Inner}
use Rattle.vx_group.proofs.AloneLemmas.{back_failing}
use Rattle.vx_group.proofs.FailingLemmas.{no_failing}
use Rattle.vx_group.proofs.HoldLemmas.{back_free, back_inner, back_parts, back_rest, e_Stands, e_finds, e_narrows, e_volumes, opened_same, wide_none, x_other, e_told, x_on}
use Rattle.vx_group.proofs.LoseLemmas.{le_same, none_parts}
use Rattle.vx_group.proofs.RegainLemmas.{same_narrows}
use Rattle.vx_group.proofs.TrustLemmas.{err_from, ok_from}
use Rattle.vx_group.specs.GivesUp.{NoCommit}
use Rattle.vx_group.specs.Moves.{Narrows}
use Rattle.vx_group.specs.Settles.{CoreSettles}
use Rattle.vx_group.proofs.SettleCalls.{same_told}
use Rattle.vx_group.proofs.UnsureMarks.{same_unsure}
use Rattle.vx_group.specs.Stands.{InnerStands}
use Rattle.vx_group.proofs.releasing.release.Goals as goal
use Rattle.vx_group.specs.Finds.{CoreFinds}
use Rattle.vx_group.specs.Holding.{GroupStands, wide}
use Rattle.vx_group.specs.Loses.{SameParts, TrustsStill}
use Rattle.vx_group.proofs.TrustStillLemmas.{held_logs, same_logs, volumes_logs}
use Rattle.vx_group.proofs.FindingLemmas.{none_finds, still_group}

pub detach_plex-result-requires-clause-other : goal.detach_plex-result-requires-clause-other
detach_plex-result-requires-clause-other g c = x_other c.args.core.now c.in-Some.held (g.S.Shelf.meaning c.args.shelf.now) c.requires.stands (sym c.open_held.ensures.held ∙ c.in-Some.is) c.open_held.new.core.inner c.open_held.ensures.inner

pub returns-in-Some-clause-stands : goal.returns-in-Some-clause-stands
returns-in-Some-clause-stands g c =
    e_Stands c.args.core.now c.in-Some.held (g.S.Shelf.meaning c.args.shelf.now) c.requires.stands (sym c.open_held.ensures.held ∙ c.in-Some.is) c.open_held.new.core.inner c.open_held.ensures.inner
    c.detach_plex-result.new.core c.detach_plex-result.ensures.others _ c.hold_back.new.core refl c.open_held.ensures.none c.hold_back.ensures
    (g.S.Shelf.meaning c.detach_plex-result.new.shelf) c.detach_plex-result.ensures.stands

pub returns-in-Some-clause-narrows : goal.returns-in-Some-clause-narrows
returns-in-Some-clause-narrows g c =
    e_narrows c.args.core.now c.in-Some.held (g.S.Shelf.meaning c.args.shelf.now) c.requires.stands (sym c.open_held.ensures.held ∙ c.in-Some.is) c.open_held.new.core.inner c.open_held.ensures.inner
    c.detach_plex-result.new.core c.detach_plex-result.ensures.others _ c.hold_back.new.core refl c.open_held.ensures.none c.hold_back.ensures
    (g.S.Shelf.meaning c.detach_plex-result.new.shelf) c.detach_plex-result.ensures.narrows

pub returns-in-Some-clause-volumes : goal.returns-in-Some-clause-volumes
returns-in-Some-clause-volumes g c =
    e_volumes c.args.core.now c.in-Some.held (g.S.Shelf.meaning c.args.shelf.now) c.requires.stands (sym c.open_held.ensures.held ∙ c.in-Some.is) c.open_held.new.core.inner c.open_held.ensures.inner
    c.detach_plex-result.new.core c.detach_plex-result.ensures.others _ c.hold_back.new.core refl c.open_held.ensures.none c.hold_back.ensures c.detach_plex-result.ensures.kept

pub returns-in-Some-clause-parts : goal.returns-in-Some-clause-parts
returns-in-Some-clause-parts g c =
    let parts = subst (λ (i : Inner). SameParts i.config c.detach_plex-result.new.core.config) c.open_held.ensures.inner c.detach_plex-result.ensures.parts in
    back_parts c.in-Some.held.vol c.in-Some.held.plex c.args.core.now.inner.config _ c.hold_back.new.core c.open_held.ensures.none c.hold_back.ensures (record { site = parts.site; rvg = parts.rvg; count = parts.count; later = parts.later })

pub returns-in-None-clause-parts : goal.returns-in-None-clause-parts
returns-in-None-clause-parts g c = subst (λ (i : Inner). SameParts c.args.core.now.inner.config i.config) (sym c.open_held.ensures.inner) (record { site = refl; rvg = refl; count = refl; later = le_same c.args.core.now.inner.config.serial })

pub returns-in-Some-clause-finds : goal.returns-in-Some-clause-finds
returns-in-Some-clause-finds g c =
    record {
      core = e_finds c.args.core.now c.in-Some.held (g.S.Shelf.meaning c.args.shelf.now) c.requires.stands (sym c.open_held.ensures.held ∙ c.in-Some.is) c.open_held.new.core.inner c.open_held.ensures.inner
          c.detach_plex-result.new.core c.detach_plex-result.ensures.others _ c.hold_back.new.core refl c.open_held.ensures.none c.hold_back.ensures
          (g.S.Shelf.meaning c.detach_plex-result.new.shelf) c.detach_plex-result.ensures.finds;
      settles = e_told c.args.core.now c.in-Some.held (g.S.Shelf.meaning c.args.shelf.now) c.requires.stands (sym c.open_held.ensures.held ∙ c.in-Some.is) c.open_held.new.core.inner c.open_held.ensures.inner
          c.detach_plex-result.new.core c.detach_plex-result.ensures.others _ c.hold_back.new.core refl c.open_held.ensures.none c.hold_back.ensures
          (g.S.Shelf.meaning c.detach_plex-result.new.shelf) c.detach_plex-result.ensures.settles;
      unsure = same_unsure c.args.core.now.inner.unsure c.hold_back.new.core.inner.unsure (returns-in-Some-clause-narrows g c).unsure;
      free = λ none. absurd (let clash : None ≡ Some c.in-Some.held = sym none ∙ sym c.open_held.ensures.held ∙ c.in-Some.is in cc);
    }

pub returns-then-core-ge-MOST_NUMBER-clause-finds : goal.returns-then-core-ge-MOST_NUMBER-clause-finds
returns-then-core-ge-MOST_NUMBER-clause-finds g c = still_group c.args.core.now (g.S.Shelf.meaning c.args.shelf.now)

pub returns-in-None-clause-finds : goal.returns-in-None-clause-finds
returns-in-None-clause-finds g c = record {
  core = subst (λ (i : Inner). CoreFinds (wide c.args.core.now) i (g.S.Shelf.meaning c.args.shelf.now) (g.S.Shelf.meaning c.args.shelf.now)) (sym (wide_none c.open_held.new.core c.open_held.ensures.none ∙ c.open_held.ensures.inner))
      (none_finds (wide c.args.core.now) (g.S.Shelf.meaning c.args.shelf.now));
  settles = subst (λ (i : Inner). CoreSettles (wide c.args.core.now) i (g.S.Shelf.meaning c.args.shelf.now) (g.S.Shelf.meaning c.args.shelf.now)) (sym (wide_none c.open_held.new.core c.open_held.ensures.none ∙ c.open_held.ensures.inner))
      (same_told (wide c.args.core.now) (g.S.Shelf.meaning c.args.shelf.now));
  unsure = same_unsure c.args.core.now.inner.unsure c.open_held.new.core.inner.unsure (ap (λ (i : Inner). i.unsure) c.open_held.ensures.inner);
  free = λ was. c.open_held.ensures.none;
}

pub returns-then-core-ge-MOST_NUMBER-clause-logs : goal.returns-then-core-ge-MOST_NUMBER-clause-logs
returns-then-core-ge-MOST_NUMBER-clause-logs g c = same_logs c.args.core.now.inner.config

pub returns-in-Some-clause-logs : goal.returns-in-Some-clause-logs
returns-in-Some-clause-logs g c = volumes_logs c.args.core.now.inner.config c.hold_back.new.core.inner.config (returns-in-Some-clause-volumes g c)

pub returns-in-None-clause-logs : goal.returns-in-None-clause-logs
returns-in-None-clause-logs g c = subst (λ (i : Inner). TrustsStill c.args.core.now.inner.config i.config) (sym c.open_held.ensures.inner) (held_logs c.args.core.now.held c.args.core.now.inner.config)

pub returns-then-core-ge-MOST_NUMBER-clause-full : goal.returns-then-core-ge-MOST_NUMBER-clause-full
returns-then-core-ge-MOST_NUMBER-clause-full g c = λ full. (refl, refl)

pub returns-in-Some-clause-full : goal.returns-in-Some-clause-full
returns-in-Some-clause-full g c = λ full. absurd (let left = c.if-core-ge-MOST_NUMBER.false in omega (arith, full, left))

pub returns-in-None-clause-full : goal.returns-in-None-clause-full
returns-in-None-clause-full g c = λ full. absurd (let left = c.if-core-ge-MOST_NUMBER.false in omega (arith, full, left))

pub returns-then-core-ge-MOST_NUMBER-clause-idle : goal.returns-then-core-ge-MOST_NUMBER-clause-idle
returns-then-core-ge-MOST_NUMBER-clause-idle g c = λ none. refl

pub returns-in-Some-clause-idle : goal.returns-in-Some-clause-idle
returns-in-Some-clause-idle g c = λ none. absurd (let clash : None ≡ Some c.in-Some.held = sym none ∙ sym c.open_held.ensures.held ∙ c.in-Some.is in cc)

pub returns-in-None-clause-idle : goal.returns-in-None-clause-idle
returns-in-None-clause-idle g c = λ none. refl

pub returns-in-Some-clause-failing : goal.returns-in-Some-clause-failing
returns-in-Some-clause-failing g c =
    back_failing c.in-Some.held.vol c.in-Some.held.plex (record { inner = c.detach_plex-result.new.core; held = c.open_held.new.core.held }) c.hold_back.new.core c.open_held.ensures.none c.hold_back.ensures c.args.core.now.inner.config.disks (g.S.Shelf.meaning c.args.shelf.now) (g.S.Shelf.meaning c.detach_plex-result.new.shelf)
    (subst (λ (i : Inner). MoreFailed (g.S.Shelf.meaning c.args.shelf.now) (g.S.Shelf.meaning c.detach_plex-result.new.shelf) i.config.disks c.detach_plex-result.new.core.config.disks) c.open_held.ensures.inner c.detach_plex-result.ensures.failing)

pub returns-in-Some-clause-few : goal.returns-in-Some-clause-few
returns-in-Some-clause-few g c =
    ok_from c.detach_plex-result.result
    (λ le. let same : c.hold_back.new.core.inner.config.serial ≡ c.detach_plex-result.new.core.config.serial = ap (λ (x : Config). x.serial) (back_rest c.in-Some.held.vol c.in-Some.held.plex (record { inner = c.detach_plex-result.new.core; held = c.open_held.new.core.held }) c.hold_back.new.core c.open_held.ensures.none c.hold_back.ensures) in let was : c.open_held.new.core.inner.config.serial ≡ c.args.core.now.inner.config.serial = ap (λ (i : Inner). i.config.serial) c.open_held.ensures.inner in omega (arith, le, same, was)) c.detach_plex-result.ensures.few

pub returns-in-Some-clause-done : goal.returns-in-Some-clause-done
returns-in-Some-clause-done g c = λ more.
    ok_from c.detach_plex-result.result (λ off. back_free c.in-Some.held.vol c.in-Some.held.plex (record { inner = c.detach_plex-result.new.core; held = c.open_held.new.core.held }) c.hold_back.new.core c.open_held.ensures.none off c.hold_back.ensures) c.detach_plex-result.ensures.off

pub returns-in-Some-clause-none : goal.returns-in-Some-clause-none
returns-in-Some-clause-none g c = λ none. absurd (let clash : None ≡ Some c.in-Some.held = sym none ∙ sym c.open_held.ensures.held ∙ c.in-Some.is in cc)

pub returns-in-Some-clause-missed : goal.returns-in-Some-clause-missed
returns-in-Some-clause-missed g c =
    err_from c.detach_plex-result.result (λ missed. subst (λ (i : Inner). NoCommit i (g.S.Shelf.meaning c.detach_plex-result.new.shelf)) (sym (back_inner c.in-Some.held.vol c.in-Some.held.plex (record { inner = c.detach_plex-result.new.core; held = c.open_held.new.core.held }) c.hold_back.new.core c.open_held.ensures.none c.hold_back.ensures)) missed) c.detach_plex-result.ensures.missed

pub returns-in-Some-clause-trust : goal.returns-in-Some-clause-trust
returns-in-Some-clause-trust g c =
    ok_from c.detach_plex-result.result (λ trust is. ap (λ (i : Inner). i.committed) (back_inner c.in-Some.held.vol c.in-Some.held.plex (record { inner = c.detach_plex-result.new.core; held = c.open_held.new.core.held }) c.hold_back.new.core c.open_held.ensures.none c.hold_back.ensures) ∙ trust (ap (λ (i : Inner). i.committed) c.open_held.ensures.inner ∙ is)) c.detach_plex-result.ensures.trust

pub returns-in-Some-clause-agreed : goal.returns-in-Some-clause-agreed
returns-in-Some-clause-agreed g c =
    err_from c.detach_plex-result.result (λ agrees is. ap (λ (i : Inner). i.agreed) (back_inner c.in-Some.held.vol c.in-Some.held.plex (record { inner = c.detach_plex-result.new.core; held = c.open_held.new.core.held }) c.hold_back.new.core c.open_held.ensures.none c.hold_back.ensures) ∙ agrees (ap (λ (i : Inner). i.committed) c.open_held.ensures.inner ∙ is)) c.detach_plex-result.ensures.agreed

pub returns-in-Some-clause-cause : goal.returns-in-Some-clause-cause
returns-in-Some-clause-cause g c = c.detach_plex-result.ensures.cause

pub returns-in-None-clause-stands : goal.returns-in-None-clause-stands
returns-in-None-clause-stands g c = subst (λ (k : GroupCore). GroupStands k (g.S.Shelf.meaning c.args.shelf.now)) (sym (opened_same c.args.core.now c.open_held.new.core (sym c.open_held.ensures.held ∙ c.in-None.is) c.open_held.ensures.inner c.open_held.ensures.none)) c.requires.stands

pub returns-in-None-clause-narrows : goal.returns-in-None-clause-narrows
returns-in-None-clause-narrows g c = subst (λ (k : GroupCore). Narrows (wide c.args.core.now) (wide k) (g.S.Shelf.meaning c.args.shelf.now) (g.S.Shelf.meaning c.args.shelf.now)) (sym (opened_same c.args.core.now c.open_held.new.core (sym c.open_held.ensures.held ∙ c.in-None.is) c.open_held.ensures.inner c.open_held.ensures.none)) (same_narrows (wide c.args.core.now) (wide c.args.core.now) (g.S.Shelf.meaning c.args.shelf.now) refl refl refl)

pub returns-in-None-clause-volumes : goal.returns-in-None-clause-volumes
returns-in-None-clause-volumes g c = ap (λ (k : GroupCore). k.inner.config.volumes) (opened_same c.args.core.now c.open_held.new.core (sym c.open_held.ensures.held ∙ c.in-None.is) c.open_held.ensures.inner c.open_held.ensures.none)

pub returns-in-None-clause-failing : goal.returns-in-None-clause-failing
returns-in-None-clause-failing g c = no_failing (g.S.Shelf.meaning c.args.shelf.now) (g.S.Shelf.meaning c.args.shelf.now) c.args.core.now.inner.config.disks c.open_held.new.core.inner.config.disks (ap (λ (k : GroupCore). k.inner.config.disks) (opened_same c.args.core.now c.open_held.new.core (sym c.open_held.ensures.held ∙ c.in-None.is) c.open_held.ensures.inner c.open_held.ensures.none))

pub returns-in-None-clause-few : goal.returns-in-None-clause-few
returns-in-None-clause-few g c = let same : c.open_held.new.core.inner.config.serial ≡ c.args.core.now.inner.config.serial = ap (λ (k : GroupCore). k.inner.config.serial) (opened_same c.args.core.now c.open_held.new.core (sym c.open_held.ensures.held ∙ c.in-None.is) c.open_held.ensures.inner c.open_held.ensures.none) in omega (arith, same)

pub returns-in-None-clause-done : goal.returns-in-None-clause-done
returns-in-None-clause-done g c = λ more. c.open_held.ensures.none

pub returns-in-None-clause-none : goal.returns-in-None-clause-none
returns-in-None-clause-none g c = λ none. (opened_same c.args.core.now c.open_held.new.core (sym c.open_held.ensures.held ∙ c.in-None.is) c.open_held.ensures.inner c.open_held.ensures.none, refl)

pub returns-in-None-clause-missed : goal.returns-in-None-clause-missed
returns-in-None-clause-missed g c = tt

pub returns-in-None-clause-trust : goal.returns-in-None-clause-trust
returns-in-None-clause-trust g c = λ is. ap (λ (k : GroupCore). k.inner.committed) (opened_same c.args.core.now c.open_held.new.core (sym c.open_held.ensures.held ∙ c.in-None.is) c.open_held.ensures.inner c.open_held.ensures.none) ∙ is

pub returns-in-None-clause-agreed : goal.returns-in-None-clause-agreed
returns-in-None-clause-agreed g c = tt

pub returns-in-None-clause-cause : goal.returns-in-None-clause-cause
returns-in-None-clause-cause g c = c.requires.up

pub returns-then-core-ge-MOST_NUMBER-clause-stands : goal.returns-then-core-ge-MOST_NUMBER-clause-stands
returns-then-core-ge-MOST_NUMBER-clause-stands g c = c.requires.stands

pub returns-then-core-ge-MOST_NUMBER-clause-narrows : goal.returns-then-core-ge-MOST_NUMBER-clause-narrows
returns-then-core-ge-MOST_NUMBER-clause-narrows g c = same_narrows (wide c.args.core.now) (wide c.args.core.now) (g.S.Shelf.meaning c.args.shelf.now) refl refl refl

pub returns-then-core-ge-MOST_NUMBER-clause-volumes : goal.returns-then-core-ge-MOST_NUMBER-clause-volumes
returns-then-core-ge-MOST_NUMBER-clause-volumes g c = refl

pub returns-then-core-ge-MOST_NUMBER-clause-parts : goal.returns-then-core-ge-MOST_NUMBER-clause-parts
returns-then-core-ge-MOST_NUMBER-clause-parts g c = none_parts c.args.core.now.inner.config

pub returns-then-core-ge-MOST_NUMBER-clause-failing : goal.returns-then-core-ge-MOST_NUMBER-clause-failing
returns-then-core-ge-MOST_NUMBER-clause-failing g c = no_failing (g.S.Shelf.meaning c.args.shelf.now) (g.S.Shelf.meaning c.args.shelf.now) c.args.core.now.inner.config.disks c.args.core.now.inner.config.disks refl

pub returns-then-core-ge-MOST_NUMBER-clause-few : goal.returns-then-core-ge-MOST_NUMBER-clause-few
returns-then-core-ge-MOST_NUMBER-clause-few g c = omega arith

pub returns-then-core-ge-MOST_NUMBER-clause-done : goal.returns-then-core-ge-MOST_NUMBER-clause-done
returns-then-core-ge-MOST_NUMBER-clause-done g c = λ more. absurd (let full = c.if-core-ge-MOST_NUMBER.true in omega (arith, full, more))

pub returns-then-core-ge-MOST_NUMBER-clause-none : goal.returns-then-core-ge-MOST_NUMBER-clause-none
returns-then-core-ge-MOST_NUMBER-clause-none g c = λ none. (refl, refl)

pub returns-then-core-ge-MOST_NUMBER-clause-missed : goal.returns-then-core-ge-MOST_NUMBER-clause-missed
returns-then-core-ge-MOST_NUMBER-clause-missed g c = tt

pub returns-then-core-ge-MOST_NUMBER-clause-trust : goal.returns-then-core-ge-MOST_NUMBER-clause-trust
returns-then-core-ge-MOST_NUMBER-clause-trust g c = λ is. is

pub returns-then-core-ge-MOST_NUMBER-clause-agreed : goal.returns-then-core-ge-MOST_NUMBER-clause-agreed
returns-then-core-ge-MOST_NUMBER-clause-agreed g c = tt

pub returns-then-core-ge-MOST_NUMBER-clause-cause : goal.returns-then-core-ge-MOST_NUMBER-clause-cause
returns-then-core-ge-MOST_NUMBER-clause-cause g c = c.requires.up

pub detach_plex-result-requires-clause-stands : goal.detach_plex-result-requires-clause-stands
detach_plex-result-requires-clause-stands g c = subst (λ (i : Inner). InnerStands i (g.S.Shelf.meaning c.args.shelf.now)) (sym c.open_held.ensures.inner) c.requires.stands.stands

pub detach_plex-result-requires-clause-is_on : goal.detach_plex-result-requires-clause-is_on
detach_plex-result-requires-clause-is_on g c = x_on c.args.core.now c.in-Some.held (g.S.Shelf.meaning c.args.shelf.now) c.requires.stands (sym c.open_held.ensures.held ∙ c.in-Some.is) c.open_held.new.core.inner c.open_held.ensures.inner

pub detach_plex-result-requires-clause-more : goal.detach_plex-result-requires-clause-more
detach_plex-result-requires-clause-more g c =
    let left = c.if-core-ge-MOST_NUMBER.false in let same : c.open_held.new.core.inner.config.serial ≡ c.args.core.now.inner.config.serial = ap (λ (i : Inner). i.config.serial) c.open_held.ensures.inner in omega (arith, left, same)

pub detach_plex-result-requires-clause-up : goal.detach_plex-result-requires-clause-up
detach_plex-result-requires-clause-up g c = c.requires.up
