-- `name_rvg`: what `commit_rvg` asks; clauses goes, narrows, volumes, site, disks, ends, later, finds and stands.
use Rattle.std.proofs.Common.{ℕ, List, ap, sym, ◌∙◌, arith}
use Rattle.vx_disk.specs.Shelf.{Nothing}
use Rattle.vx_config.specs.Checks.{is_group}
use Rattle.vx_config.specs.declared.entry.VolumeEntry.{VolumeEntry}
use Rattle.vx_group.specs.Stands.{volume_faults}
use Rattle.vx_group.proofs.CallLemmas.{narrows_Goes}
use Rattle.vx_group.proofs.FailingLemmas.{then_failing}
use Rattle.vx_group.proofs.FindingLemmas.{still_group}
use Rattle.vx_group.proofs.FoundThrough.{second_finds}
use Rattle.vx_group.proofs.HoldLemmas.{from_none, none_Stands, wide_none}
use Rattle.vx_group.proofs.ThroughLemmas.{released_goes, released_narrows, second_narrows, through_goes}
use Rattle.vx_group.proofs.UnsureMarks.{same_unsure}
use Rattle.vx_group.proofs.grouping.name_rvg.Goals as goal

pub returns-in-Err-clause-goes : goal.returns-in-Err-clause-goes
returns-in-Err-clause-goes g c = released_goes c.args.core.now c.release.new.core (g.S.Shelf.meaning c.args.shelf.now) (g.S.Shelf.meaning c.release.new.shelf) c.requires.stands c.release.ensures.narrows c.release.ensures.volumes (g.met.S.Shelf.lawful c.release.new.shelf)

pub returns-in-Err-clause-narrows : goal.returns-in-Err-clause-narrows
returns-in-Err-clause-narrows g c = released_narrows c.args.core.now c.release.new.core (g.S.Shelf.meaning c.args.shelf.now) (g.S.Shelf.meaning c.release.new.shelf) c.requires.stands c.release.ensures.narrows c.release.ensures.volumes

pub returns-in-Err-clause-site : goal.returns-in-Err-clause-site
returns-in-Err-clause-site g c = c.release.ensures.parts.site

pub returns-in-Err-clause-ends : goal.returns-in-Err-clause-ends
returns-in-Err-clause-ends g c = c.release.ensures.parts.rvg

pub commit_rvg-requires-clause-stands : goal.commit_rvg-requires-clause-stands
commit_rvg-requires-clause-stands g c = from_none c.release.new.core (g.S.Shelf.meaning c.release.new.shelf) (c.in-Ok.ensures.done (let room = c.requires.more in omega (arith, room))) c.release.ensures.stands

pub commit_rvg-requires-clause-may : goal.commit_rvg-requires-clause-may
commit_rvg-requires-clause-may g c = ap (λ (vs : List VolumeEntry). is_group vs c.args.units.now) c.release.ensures.volumes ∙ c.requires.may

pub commit_rvg-requires-clause-more : goal.commit_rvg-requires-clause-more
commit_rvg-requires-clause-more g c = let le = c.in-Ok.ensures.few in let room = c.requires.more in omega (arith, le, room)

pub returns-in-Ok-commit_rvg-clause-stands : goal.returns-in-Ok-commit_rvg-clause-stands
returns-in-Ok-commit_rvg-clause-stands g c = none_Stands (record { inner = c.commit_rvg.new.core; held = c.release.new.core.held }) (g.S.Shelf.meaning c.commit_rvg.new.shelf) (c.in-Ok.ensures.done (let room = c.requires.more in omega (arith, room))) c.commit_rvg.ensures.stands

pub returns-in-Ok-commit_rvg-clause-goes : goal.returns-in-Ok-commit_rvg-clause-goes
returns-in-Ok-commit_rvg-clause-goes g c =
    through_goes c.args.core.now c.release.new.core (record { inner = c.commit_rvg.new.core; held = c.release.new.core.held }) c.release.new.core.inner c.commit_rvg.new.core (g.S.Shelf.meaning c.args.shelf.now) (g.S.Shelf.meaning c.release.new.shelf) (g.S.Shelf.meaning c.commit_rvg.new.shelf) (sym (wide_none c.release.new.core (c.in-Ok.ensures.done (let room = c.requires.more in omega (arith, room))))) (wide_none (record { inner = c.commit_rvg.new.core; held = c.release.new.core.held }) (c.in-Ok.ensures.done (let room = c.requires.more in omega (arith, room)))) Nothing
    (released_goes c.args.core.now c.release.new.core (g.S.Shelf.meaning c.args.shelf.now) (g.S.Shelf.meaning c.release.new.shelf) c.requires.stands c.release.ensures.narrows c.release.ensures.volumes (g.met.S.Shelf.lawful c.release.new.shelf))
    (narrows_Goes c.release.new.core.inner c.commit_rvg.new.core (g.S.Shelf.meaning c.release.new.shelf) (g.S.Shelf.meaning c.commit_rvg.new.shelf) (g.met.S.Shelf.lawful c.commit_rvg.new.shelf) (from_none c.release.new.core (g.S.Shelf.meaning c.release.new.shelf) (c.in-Ok.ensures.done (let room = c.requires.more in omega (arith, room))) c.release.ensures.stands) c.commit_rvg.ensures.narrows (volume_faults c.release.new.core.inner.faults) (volume_faults c.commit_rvg.new.core.faults)
    (λ u. let same = ap (λ (f : List ℕ). volume_faults f u) c.commit_rvg.ensures.narrows.faults in omega (arith, same)))

pub returns-in-Ok-commit_rvg-clause-narrows : goal.returns-in-Ok-commit_rvg-clause-narrows
returns-in-Ok-commit_rvg-clause-narrows g c =
    second_narrows (λ s. g.S.Shelf.meaning s) c.args.shelf.now c.release.new.shelf c.args.core.now c.release.new.core c.commit_rvg.new.core (g.S.Shelf.meaning c.commit_rvg.new.shelf) c.requires.stands c.release.ensures.narrows c.release.ensures.volumes c.release.ensures.none (c.in-Ok.ensures.done (let room = c.requires.more in omega (arith, room))) c.commit_rvg.ensures.narrows

pub returns-in-Ok-commit_rvg-clause-volumes : goal.returns-in-Ok-commit_rvg-clause-volumes
returns-in-Ok-commit_rvg-clause-volumes g c = c.commit_rvg.ensures.volumes ∙ c.release.ensures.volumes

pub returns-in-Ok-commit_rvg-clause-site : goal.returns-in-Ok-commit_rvg-clause-site
returns-in-Ok-commit_rvg-clause-site g c = c.commit_rvg.ensures.site ∙ c.release.ensures.parts.site

pub returns-in-Ok-commit_rvg-clause-disks : goal.returns-in-Ok-commit_rvg-clause-disks
returns-in-Ok-commit_rvg-clause-disks g c = then_failing (g.S.Shelf.meaning c.args.shelf.now) (g.S.Shelf.meaning c.release.new.shelf) (g.S.Shelf.meaning c.commit_rvg.new.shelf) c.release.ensures.narrows.acts.faults c.commit_rvg.ensures.narrows.acts.faults c.args.core.now.inner.config.disks c.release.new.core.inner.config.disks c.commit_rvg.new.core.config.disks c.release.ensures.failing c.commit_rvg.ensures.failing

pub returns-in-Err-commit_rvg-clause-stands : goal.returns-in-Err-commit_rvg-clause-stands
returns-in-Err-commit_rvg-clause-stands g c = none_Stands (record { inner = c.commit_rvg.new.core; held = c.release.new.core.held }) (g.S.Shelf.meaning c.commit_rvg.new.shelf) (c.in-Ok.ensures.done (let room = c.requires.more in omega (arith, room))) c.commit_rvg.ensures.stands

pub returns-in-Err-commit_rvg-clause-goes : goal.returns-in-Err-commit_rvg-clause-goes
returns-in-Err-commit_rvg-clause-goes g c =
    through_goes c.args.core.now c.release.new.core (record { inner = c.commit_rvg.new.core; held = c.release.new.core.held }) c.release.new.core.inner c.commit_rvg.new.core (g.S.Shelf.meaning c.args.shelf.now) (g.S.Shelf.meaning c.release.new.shelf) (g.S.Shelf.meaning c.commit_rvg.new.shelf) (sym (wide_none c.release.new.core (c.in-Ok.ensures.done (let room = c.requires.more in omega (arith, room))))) (wide_none (record { inner = c.commit_rvg.new.core; held = c.release.new.core.held }) (c.in-Ok.ensures.done (let room = c.requires.more in omega (arith, room)))) Nothing
    (released_goes c.args.core.now c.release.new.core (g.S.Shelf.meaning c.args.shelf.now) (g.S.Shelf.meaning c.release.new.shelf) c.requires.stands c.release.ensures.narrows c.release.ensures.volumes (g.met.S.Shelf.lawful c.release.new.shelf))
    (narrows_Goes c.release.new.core.inner c.commit_rvg.new.core (g.S.Shelf.meaning c.release.new.shelf) (g.S.Shelf.meaning c.commit_rvg.new.shelf) (g.met.S.Shelf.lawful c.commit_rvg.new.shelf) (from_none c.release.new.core (g.S.Shelf.meaning c.release.new.shelf) (c.in-Ok.ensures.done (let room = c.requires.more in omega (arith, room))) c.release.ensures.stands) c.commit_rvg.ensures.narrows (volume_faults c.release.new.core.inner.faults) (volume_faults c.commit_rvg.new.core.faults)
    (λ u. let same = ap (λ (f : List ℕ). volume_faults f u) c.commit_rvg.ensures.narrows.faults in omega (arith, same)))

pub returns-in-Err-commit_rvg-clause-narrows : goal.returns-in-Err-commit_rvg-clause-narrows
returns-in-Err-commit_rvg-clause-narrows g c =
    second_narrows (λ s. g.S.Shelf.meaning s) c.args.shelf.now c.release.new.shelf c.args.core.now c.release.new.core c.commit_rvg.new.core (g.S.Shelf.meaning c.commit_rvg.new.shelf) c.requires.stands c.release.ensures.narrows c.release.ensures.volumes c.release.ensures.none (c.in-Ok.ensures.done (let room = c.requires.more in omega (arith, room))) c.commit_rvg.ensures.narrows

pub returns-in-Err-commit_rvg-clause-volumes : goal.returns-in-Err-commit_rvg-clause-volumes
returns-in-Err-commit_rvg-clause-volumes g c = c.commit_rvg.ensures.volumes ∙ c.release.ensures.volumes

pub returns-in-Err-commit_rvg-clause-site : goal.returns-in-Err-commit_rvg-clause-site
returns-in-Err-commit_rvg-clause-site g c = c.commit_rvg.ensures.site ∙ c.release.ensures.parts.site

pub returns-in-Err-commit_rvg-clause-disks : goal.returns-in-Err-commit_rvg-clause-disks
returns-in-Err-commit_rvg-clause-disks g c = then_failing (g.S.Shelf.meaning c.args.shelf.now) (g.S.Shelf.meaning c.release.new.shelf) (g.S.Shelf.meaning c.commit_rvg.new.shelf) c.release.ensures.narrows.acts.faults c.commit_rvg.ensures.narrows.acts.faults c.args.core.now.inner.config.disks c.release.new.core.inner.config.disks c.commit_rvg.new.core.config.disks c.release.ensures.failing c.commit_rvg.ensures.failing

pub returns-in-Err-commit_rvg-clause-ends : goal.returns-in-Err-commit_rvg-clause-ends
returns-in-Err-commit_rvg-clause-ends g c = c.in-Err-commit_rvg.ensures.ends ∙ c.release.ensures.parts.rvg

pub returns-in-Ok-commit_rvg-clause-up : goal.returns-in-Ok-commit_rvg-clause-up
returns-in-Ok-commit_rvg-clause-up g c = c.in-Ok-commit_rvg.ensures.cause

pub returns-then-is_down-clause-finds : goal.returns-then-is_down-clause-finds
returns-then-is_down-clause-finds g c = still_group c.args.core.now (g.S.Shelf.meaning c.args.shelf.now)

pub returns-in-Err-clause-finds : goal.returns-in-Err-clause-finds
returns-in-Err-clause-finds g c = c.release.ensures.finds

pub returns-in-Err-clause-later : goal.returns-in-Err-clause-later
returns-in-Err-clause-later g c = c.release.ensures.parts.later

pub returns-in-Ok-commit_rvg-clause-finds : goal.returns-in-Ok-commit_rvg-clause-finds
returns-in-Ok-commit_rvg-clause-finds g c =
    second_finds c.args.core.now c.release.new.core c.commit_rvg.new.core (g.S.Shelf.meaning c.args.shelf.now) (g.S.Shelf.meaning c.release.new.shelf) (g.S.Shelf.meaning c.commit_rvg.new.shelf) (c.in-Ok.ensures.done (let room = c.requires.more in omega (arith, room)))
    c.release.ensures.finds c.commit_rvg.ensures.finds c.commit_rvg.ensures.settles (same_unsure c.release.new.core.inner.unsure c.commit_rvg.new.core.unsure c.commit_rvg.ensures.narrows.unsure)

pub returns-in-Ok-commit_rvg-clause-later : goal.returns-in-Ok-commit_rvg-clause-later
returns-in-Ok-commit_rvg-clause-later g c = let one = c.release.ensures.parts.later in let two = c.commit_rvg.ensures.later in omega (arith, one, two)

pub returns-in-Err-commit_rvg-clause-finds : goal.returns-in-Err-commit_rvg-clause-finds
returns-in-Err-commit_rvg-clause-finds g c =
    second_finds c.args.core.now c.release.new.core c.commit_rvg.new.core (g.S.Shelf.meaning c.args.shelf.now) (g.S.Shelf.meaning c.release.new.shelf) (g.S.Shelf.meaning c.commit_rvg.new.shelf) (c.in-Ok.ensures.done (let room = c.requires.more in omega (arith, room)))
    c.release.ensures.finds c.commit_rvg.ensures.finds c.commit_rvg.ensures.settles (same_unsure c.release.new.core.inner.unsure c.commit_rvg.new.core.unsure c.commit_rvg.ensures.narrows.unsure)

pub returns-in-Err-commit_rvg-clause-later : goal.returns-in-Err-commit_rvg-clause-later
returns-in-Err-commit_rvg-clause-later g c = let one = c.release.ensures.parts.later in let two = c.commit_rvg.ensures.later in omega (arith, one, two)
