-- `set_rvg_in`: what `may_name` and `name_rvg` ask; each clause, over the configuration that the test leaves as it was.
use Rattle.std.proofs.Common.{refl, ap, sym, ◌∙◌, subst, arith}
use Rattle.vx_disk.specs.Shelf.{Goes, Nothing}
use Rattle.vx_disk.proofs.Runs.{same_Goes}
use Rattle.vx_config.specs.Checks.{is_group}
use Rattle.vx_config.specs.declared.config.Config.{Config}
use Rattle.vx_copies.specs.Commits.{MoreFailed}
use Rattle.vx_group.specs.Calls.{GroupNarrows}
use Rattle.vx_group.specs.Finds.{GroupFinds}
use Rattle.vx_group.specs.Holding.{GroupStands, wide}
use Rattle.vx_group.specs.Rvgs.{RvgEnds}
use Rattle.vx_group.specs.Stands.{inner_meaning}
use Rattle.vx_group.specs.declared.group_core.GroupCore.{GroupCore}
use Rattle.vx_group.proofs.FailingLemmas.{no_failing}
use Rattle.vx_group.proofs.FindingLemmas.{still_group}
use Rattle.vx_group.proofs.HoldLemmas.{narrow_sound}
use Rattle.vx_group.proofs.RvgLemmas.{late_refusal, no_narrows, no_refusal, none_some, refused_as, same_core, small_refusal}
use Rattle.vx_group.proofs.grouping.set_rvg_in.Goals as goal

pub returns-then-core-clause-refused : goal.returns-then-core-clause-refused
returns-then-core-clause-refused g c = λ why is. (refused_as _ why (sym (late_refusal c.args.core.now.inner.config c.args.units.now (let lt = c.if-core.true in omega (arith, lt))) ∙ is), refl, refl)

pub returns-then-core-clause-goes : goal.returns-then-core-clause-goes
returns-then-core-clause-goes g c = same_Goes Nothing (inner_meaning (wide c.args.core.now) (g.S.Shelf.meaning c.args.shelf.now))

pub returns-then-core-clause-narrows : goal.returns-then-core-clause-narrows
returns-then-core-clause-narrows g c = no_narrows c.args.core.now (g.S.Shelf.meaning c.args.shelf.now)

pub returns-then-core-clause-disks : goal.returns-then-core-clause-disks
returns-then-core-clause-disks g c = no_failing (g.S.Shelf.meaning c.args.shelf.now) (g.S.Shelf.meaning c.args.shelf.now) c.args.core.now.inner.config.disks c.args.core.now.inner.config.disks refl

pub returns-then-core-clause-cause : goal.returns-then-core-clause-cause
returns-then-core-clause-cause g c = λ none. none_some _ (sym (late_refusal c.args.core.now.inner.config c.args.units.now (let lt = c.if-core.true in omega (arith, lt))) ∙ none)

pub may_name-requires : goal.may_name-requires
may_name-requires g c = record { sound = narrow_sound c.args.core.now (g.S.Shelf.meaning c.args.shelf.now) c.requires.stands }

pub returns-then-not-may_name-clause-stands : goal.returns-then-not-may_name-clause-stands
returns-then-not-may_name-clause-stands g c = subst (λ (k : GroupCore). GroupStands k (g.S.Shelf.meaning c.args.shelf.now)) (sym (same_core c.args.core.now c.may_name.new.config c.may_name.ensures.same)) c.requires.stands

pub returns-then-not-may_name-clause-refused : goal.returns-then-not-may_name-clause-refused
returns-then-not-may_name-clause-refused g c = λ why is. (refused_as _ why (sym (small_refusal c.args.core.now.inner.config c.args.units.now (let le = c.if-core.false in omega (arith, le)) (sym c.may_name.ensures.is ∙ c.if-not-may_name.true)) ∙ is), same_core c.args.core.now c.may_name.new.config c.may_name.ensures.same, refl)

pub returns-then-not-may_name-clause-goes : goal.returns-then-not-may_name-clause-goes
returns-then-not-may_name-clause-goes g c =
    subst (λ (k : GroupCore). Goes Nothing (inner_meaning (wide c.args.core.now) (g.S.Shelf.meaning c.args.shelf.now)) (inner_meaning (wide k) (g.S.Shelf.meaning c.args.shelf.now))) (sym (same_core c.args.core.now c.may_name.new.config c.may_name.ensures.same)) (same_Goes Nothing (inner_meaning (wide c.args.core.now) (g.S.Shelf.meaning c.args.shelf.now)))

pub returns-then-not-may_name-clause-narrows : goal.returns-then-not-may_name-clause-narrows
returns-then-not-may_name-clause-narrows g c = subst (λ (k : GroupCore). GroupNarrows c.args.core.now k (g.S.Shelf.meaning c.args.shelf.now) (g.S.Shelf.meaning c.args.shelf.now)) (sym (same_core c.args.core.now c.may_name.new.config c.may_name.ensures.same)) (no_narrows c.args.core.now (g.S.Shelf.meaning c.args.shelf.now))

pub returns-then-not-may_name-clause-volumes : goal.returns-then-not-may_name-clause-volumes
returns-then-not-may_name-clause-volumes g c = ap (λ (x : Config). x.volumes) c.may_name.ensures.same

pub returns-then-not-may_name-clause-site : goal.returns-then-not-may_name-clause-site
returns-then-not-may_name-clause-site g c = ap (λ (x : Config). x.site) c.may_name.ensures.same

pub returns-then-not-may_name-clause-disks : goal.returns-then-not-may_name-clause-disks
returns-then-not-may_name-clause-disks g c = no_failing (g.S.Shelf.meaning c.args.shelf.now) (g.S.Shelf.meaning c.args.shelf.now) c.args.core.now.inner.config.disks c.may_name.new.config.disks (ap (λ (x : Config). x.disks) c.may_name.ensures.same)

pub returns-then-not-may_name-clause-ends : goal.returns-then-not-may_name-clause-ends
returns-then-not-may_name-clause-ends g c = ap (λ (x : Config). x.rvg) c.may_name.ensures.same

pub returns-then-not-may_name-clause-cause : goal.returns-then-not-may_name-clause-cause
returns-then-not-may_name-clause-cause g c = λ none. none_some _ (sym (small_refusal c.args.core.now.inner.config c.args.units.now (let le = c.if-core.false in omega (arith, le)) (sym c.may_name.ensures.is ∙ c.if-not-may_name.true)) ∙ none)

pub name_rvg-requires-clause-stands : goal.name_rvg-requires-clause-stands
name_rvg-requires-clause-stands g c = subst (λ (k : GroupCore). GroupStands k (g.S.Shelf.meaning c.args.shelf.now)) (sym (same_core c.args.core.now c.may_name.new.config c.may_name.ensures.same)) c.requires.stands

pub name_rvg-requires-clause-may : goal.name_rvg-requires-clause-may
name_rvg-requires-clause-may g c = ap (λ (x : Config). is_group x.volumes c.args.units.now) c.may_name.ensures.same ∙ sym c.may_name.ensures.is ∙ c.if-not-may_name.false

pub name_rvg-requires-clause-more : goal.name_rvg-requires-clause-more
name_rvg-requires-clause-more g c = let at = ap (λ (x : Config). x.serial) c.may_name.ensures.same in let le = c.if-core.false in omega (arith, at, le)

pub returns-clause-refused : goal.returns-clause-refused
returns-clause-refused g c = λ why is. none_some why (sym is ∙ no_refusal c.args.core.now.inner.config c.args.units.now (let le = c.if-core.false in omega (arith, le)) (sym c.may_name.ensures.is ∙ c.if-not-may_name.false))

pub returns-clause-goes : goal.returns-clause-goes
returns-clause-goes g c = subst (λ (k : GroupCore). Goes Nothing (inner_meaning (wide k) (g.S.Shelf.meaning c.args.shelf.now)) (inner_meaning (wide c.name_rvg.new.core) (g.S.Shelf.meaning c.name_rvg.new.shelf))) (same_core c.args.core.now c.may_name.new.config c.may_name.ensures.same) c.name_rvg.ensures.goes

pub returns-clause-narrows : goal.returns-clause-narrows
returns-clause-narrows g c = subst (λ (k : GroupCore). GroupNarrows k c.name_rvg.new.core (g.S.Shelf.meaning c.args.shelf.now) (g.S.Shelf.meaning c.name_rvg.new.shelf)) (same_core c.args.core.now c.may_name.new.config c.may_name.ensures.same) c.name_rvg.ensures.narrows

pub returns-clause-volumes : goal.returns-clause-volumes
returns-clause-volumes g c = c.name_rvg.ensures.volumes ∙ ap (λ (x : Config). x.volumes) c.may_name.ensures.same

pub returns-clause-site : goal.returns-clause-site
returns-clause-site g c = c.name_rvg.ensures.site ∙ ap (λ (x : Config). x.site) c.may_name.ensures.same

pub returns-clause-disks : goal.returns-clause-disks
returns-clause-disks g c = subst (λ (k : GroupCore). MoreFailed (g.S.Shelf.meaning c.args.shelf.now) (g.S.Shelf.meaning c.name_rvg.new.shelf) k.inner.config.disks c.name_rvg.new.core.inner.config.disks) (same_core c.args.core.now c.may_name.new.config c.may_name.ensures.same) c.name_rvg.ensures.disks

pub returns-clause-ends : goal.returns-clause-ends
returns-clause-ends g c = subst (λ (k : GroupCore). RvgEnds c.args.units.now k.inner.config c.name_rvg.new.core.inner.config (g.S.Shelf.meaning c.name_rvg.new.shelf) c.name_rvg.result) (same_core c.args.core.now c.may_name.new.config c.may_name.ensures.same) c.name_rvg.ensures.ends

pub returns-clause-up : goal.returns-clause-up
returns-clause-up g c = c.name_rvg.ensures.up

pub returns-then-core-clause-finds : goal.returns-then-core-clause-finds
returns-then-core-clause-finds g c = still_group c.args.core.now (g.S.Shelf.meaning c.args.shelf.now)

pub returns-then-core-clause-later : goal.returns-then-core-clause-later
returns-then-core-clause-later g c = omega arith

pub returns-then-not-may_name-clause-finds : goal.returns-then-not-may_name-clause-finds
returns-then-not-may_name-clause-finds g c = subst (λ (k : GroupCore). GroupFinds c.args.core.now k (g.S.Shelf.meaning c.args.shelf.now) (g.S.Shelf.meaning c.args.shelf.now)) (sym (same_core c.args.core.now c.may_name.new.config c.may_name.ensures.same)) (still_group c.args.core.now (g.S.Shelf.meaning c.args.shelf.now))

pub returns-then-not-may_name-clause-later : goal.returns-then-not-may_name-clause-later
returns-then-not-may_name-clause-later g c = let same = ap (λ (x : Config). x.serial) c.may_name.ensures.same in omega (arith, same)

pub returns-clause-finds : goal.returns-clause-finds
returns-clause-finds g c = subst (λ (k : GroupCore). GroupFinds k c.name_rvg.new.core (g.S.Shelf.meaning c.args.shelf.now) (g.S.Shelf.meaning c.name_rvg.new.shelf)) (same_core c.args.core.now c.may_name.new.config c.may_name.ensures.same) c.name_rvg.ensures.finds

pub returns-clause-later : goal.returns-clause-later
returns-clause-later g c = let same = ap (λ (x : Config). x.serial) c.may_name.ensures.same in let more = c.name_rvg.ensures.later in omega (arith, same, more)

pub returns-then-core-clause-stands : goal.returns-then-core-clause-stands
returns-then-core-clause-stands g c = c.requires.stands

pub returns-then-core-clause-volumes : goal.returns-then-core-clause-volumes
returns-then-core-clause-volumes g c = refl

pub returns-then-core-clause-site : goal.returns-then-core-clause-site
returns-then-core-clause-site g c = refl

pub returns-then-core-clause-trust : goal.returns-then-core-clause-trust
returns-then-core-clause-trust g c = tt

pub returns-then-core-clause-whole : goal.returns-then-core-clause-whole
returns-then-core-clause-whole g c = tt

pub returns-then-core-clause-agreed : goal.returns-then-core-clause-agreed
returns-then-core-clause-agreed g c = c.requires.stands.stands.trusts.both

pub returns-then-not-may_name-clause-trust : goal.returns-then-not-may_name-clause-trust
returns-then-not-may_name-clause-trust g c = tt

pub returns-then-not-may_name-clause-whole : goal.returns-then-not-may_name-clause-whole
returns-then-not-may_name-clause-whole g c = tt

pub returns-clause-stands : goal.returns-clause-stands
returns-clause-stands g c = c.name_rvg.ensures.stands
