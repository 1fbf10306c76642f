-- A group that is made ready.
use Rattle.std.proofs.Common.{◌≡◌, ◌∙◌, ℕ, Bool, List, Option, true, false, ap, refl, subst, sym, arith}
use Rattle.std.specs.Prelude.{is_some, not}
use Rattle.vx_group.specs.declared.group_core.Held.{Held}
use Rattle.vx_disk.specs.Shelf.{Nothing}
use Rattle.vx_group.specs.Blames.{CountsRise}
use Rattle.vx_group.specs.Holding.{wide}
use Rattle.vx_group.specs.Stands.{volume_faults, inner_meaning}
use Rattle.vx_group.proofs.ActsLemmas.{narrow_PlexActs}
use Rattle.vx_group.proofs.CallLemmas.{cause_by, counts_less, narrows_Goes, not_down}
use Rattle.vx_group.proofs.LostLemmas.{error_to}
use Rattle.vx_logged.proofs.StandLemmas.{each_on, each_same, narrowed_acts, narrowed_same}
use Rattle.vx_group.proofs.LoseLemmas.{along_none, loses_none}
use Rattle.vx_group.proofs.UnitLemmas.{acts_units, same_units}
use Rattle.vx_kept.proofs.Chosen.{active_volumes}
use Rattle.vx_group.proofs.FindingLemmas.{still_group, as_finds}
use Rattle.vx_group.proofs.TrustStillLemmas.{same_logs}
use Rattle.vx_logged.proofs.GoneLogs.{ready_spent}
use Rattle.vx_group.proofs.UnsureMarks.{error_unsure, then_unsure}
use Rattle.vx_group.proofs.SettleCalls.{as_told}
use Rattle.vx_group.proofs.UnsureLemmas.{misses_by, unsure_then}
use Rattle.vx_disk.proofs.Runs.{same_Goes}
use Rattle.vx_logged.proofs.readying.ready_group.Goals as goal

pub returns-then-is_down-clause-logs : goal.returns-then-is_down-clause-logs
returns-then-is_down-clause-logs g c =
    each_same c.args.core.now (g.S.Shelf.meaning c.args.shelf.now)

pub returns-in-Ok-clause-logs : goal.returns-in-Ok-clause-logs
returns-in-Ok-clause-logs g c =
    each_on c.args.core.now c.release.new.core (g.S.Shelf.meaning c.args.shelf.now) (g.S.Shelf.meaning c.release.new.shelf) c.requires.stands (narrow_PlexActs Nothing (wide c.args.core.now) (wide c.release.new.core) (g.S.Shelf.meaning c.args.shelf.now) (g.S.Shelf.meaning c.release.new.shelf) c.release.ensures.narrows)

pub returns-in-Err-clause-logs : goal.returns-in-Err-clause-logs
returns-in-Err-clause-logs g c =
    each_on c.args.core.now (record { inner = record { config = c.release.new.core.inner.config; good = c.release.new.core.inner.good; room = c.release.new.core.inner.room; unsettled = c.release.new.core.inner.unsettled; committed = c.release.new.core.inner.committed; agreed = c.release.new.core.inner.agreed; next = c.release.new.core.inner.next; faults = c.give_up.new.faults; unsure = c.give_up.new.unsure }; held = c.release.new.core.held }) (g.S.Shelf.meaning c.args.shelf.now) (g.S.Shelf.meaning c.release.new.shelf) c.requires.stands (narrow_PlexActs Nothing (wide c.args.core.now) (wide c.release.new.core) (g.S.Shelf.meaning c.args.shelf.now) (g.S.Shelf.meaning c.release.new.shelf) c.release.ensures.narrows)

pub returns-in-Ok-clause-goes : goal.returns-in-Ok-clause-goes
returns-in-Ok-clause-goes g c =
    narrows_Goes (wide c.args.core.now) (wide c.release.new.core) (g.S.Shelf.meaning c.args.shelf.now) (g.S.Shelf.meaning c.release.new.shelf) (g.met.S.Shelf.lawful c.release.new.shelf) c.requires.stands.stands c.release.ensures.narrows (volume_faults c.args.core.now.inner.faults) (volume_faults c.release.new.core.inner.faults) (λ u. let same = ap (λ (f : List ℕ). volume_faults f u) c.release.ensures.narrows.faults in omega (arith, same))

pub returns-in-Err-clause-goes : goal.returns-in-Err-clause-goes
returns-in-Err-clause-goes g c =
    narrows_Goes (wide c.args.core.now) (wide c.release.new.core) (g.S.Shelf.meaning c.args.shelf.now) (g.S.Shelf.meaning c.release.new.shelf) (g.met.S.Shelf.lawful c.release.new.shelf) c.requires.stands.stands c.release.ensures.narrows (volume_faults c.args.core.now.inner.faults) (volume_faults c.give_up.new.faults) (λ u. let same = ap (λ (f : List ℕ). volume_faults f u) c.release.ensures.narrows.faults in let less = counts_less c.in-Err.error c.args.vol (volume_faults c.release.new.core.inner.faults) (volume_faults c.give_up.new.faults) c.give_up.ensures.counts u in omega (arith, same, less))

pub returns-in-Err-clause-cause : goal.returns-in-Err-clause-cause
returns-in-Err-clause-cause g c =
    cause_by Bool c.in-Err.error (wide c.args.core.now).config (wide c.release.new.core).config c.args.vol (volume_faults c.args.core.now.inner.faults) (volume_faults c.give_up.new.faults) (g.S.Shelf.meaning c.args.shelf.now) (g.S.Shelf.meaning c.release.new.shelf)
    (not_down c.is_down.result (g.S.Shelf.meaning c.args.shelf.now).down c.is_down.ensures c.if-is_down.false) (error_to (Unit {0}) Bool c.in-Err.error (g.S.Shelf.meaning c.args.shelf.now) (g.S.Shelf.meaning c.release.new.shelf) c.in-Err.ensures.cause)
    (subst (λ (f : List ℕ). CountsRise c.in-Err.error c.args.vol (volume_faults f) (volume_faults c.give_up.new.faults)) c.release.ensures.narrows.faults c.give_up.ensures.counts)

pub returns-then-is_down-clause-narrow : goal.returns-then-is_down-clause-narrow
returns-then-is_down-clause-narrow g c = narrowed_same c.args.core.now

pub returns-in-Ok-clause-narrow : goal.returns-in-Ok-clause-narrow
returns-in-Ok-clause-narrow g c =
    narrowed_acts Nothing c.args.core.now c.release.new.core (g.S.Shelf.meaning c.args.shelf.now) (g.S.Shelf.meaning c.release.new.shelf) (narrow_PlexActs Nothing (wide c.args.core.now) (wide c.release.new.core) (g.S.Shelf.meaning c.args.shelf.now) (g.S.Shelf.meaning c.release.new.shelf) c.release.ensures.narrows)

pub returns-in-Err-clause-narrow : goal.returns-in-Err-clause-narrow
returns-in-Err-clause-narrow g c =
    let it = narrowed_acts Nothing c.args.core.now c.release.new.core (g.S.Shelf.meaning c.args.shelf.now) (g.S.Shelf.meaning c.release.new.shelf) (narrow_PlexActs Nothing (wide c.args.core.now) (wide c.release.new.core) (g.S.Shelf.meaning c.args.shelf.now) (g.S.Shelf.meaning c.release.new.shelf) c.release.ensures.narrows) in
    record { shape = it.shape; less = it.less; on = it.on }

pub returns-then-is_down-clause-loses : goal.returns-then-is_down-clause-loses
returns-then-is_down-clause-loses g c = along_none c.args.core.now.inner.config (g.S.Shelf.meaning c.args.shelf.now)

pub returns-in-Ok-clause-loses : goal.returns-in-Ok-clause-loses
returns-in-Ok-clause-loses g c = record { loses = loses_none c.args.core.now.inner.config c.release.new.core.inner.config (g.S.Shelf.meaning c.args.shelf.now) (g.S.Shelf.meaning c.release.new.shelf) c.release.ensures.volumes c.release.ensures.failing c.release.ensures.parts; rises = c.release.ensures.narrows.acts.faults }

pub returns-in-Err-clause-loses : goal.returns-in-Err-clause-loses
returns-in-Err-clause-loses g c = record { loses = loses_none c.args.core.now.inner.config c.release.new.core.inner.config (g.S.Shelf.meaning c.args.shelf.now) (g.S.Shelf.meaning c.release.new.shelf) c.release.ensures.volumes c.release.ensures.failing c.release.ensures.parts; rises = c.release.ensures.narrows.acts.faults }

pub returns-then-is_down-clause-still : goal.returns-then-is_down-clause-still
returns-then-is_down-clause-still g c = λ w p. refl

pub returns-then-is_down-clause-below : goal.returns-then-is_down-clause-below
returns-then-is_down-clause-below g c = same_units (g.S.Shelf.meaning c.args.shelf.now)

pub returns-in-Ok-clause-still : goal.returns-in-Ok-clause-still
returns-in-Ok-clause-still g c = active_volumes c.release.new.core.inner.config c.args.core.now.inner.config c.release.ensures.volumes

pub returns-in-Ok-clause-below : goal.returns-in-Ok-clause-below
returns-in-Ok-clause-below g c = acts_units Nothing _ (g.S.Shelf.meaning c.args.shelf.now) (g.S.Shelf.meaning c.release.new.shelf) c.release.ensures.narrows.acts

pub returns-in-Err-clause-still : goal.returns-in-Err-clause-still
returns-in-Err-clause-still g c = active_volumes c.release.new.core.inner.config c.args.core.now.inner.config c.release.ensures.volumes

pub returns-in-Err-clause-below : goal.returns-in-Err-clause-below
returns-in-Err-clause-below g c = acts_units Nothing _ (g.S.Shelf.meaning c.args.shelf.now) (g.S.Shelf.meaning c.release.new.shelf) c.release.ensures.narrows.acts

pub returns-then-is_down-clause-finds : goal.returns-then-is_down-clause-finds
returns-then-is_down-clause-finds g c =
    still_group c.args.core.now (g.S.Shelf.meaning c.args.shelf.now)

pub returns-in-Ok-clause-finds : goal.returns-in-Ok-clause-finds
returns-in-Ok-clause-finds g c =
    c.release.ensures.finds

pub returns-in-Err-clause-finds : goal.returns-in-Err-clause-finds
returns-in-Err-clause-finds g c =
    record {
      core = as_finds (wide c.args.core.now) (wide c.release.new.core) _ (g.S.Shelf.meaning c.args.shelf.now) (g.S.Shelf.meaning c.release.new.shelf) refl refl refl c.release.ensures.finds.core;
      settles = as_told (wide c.args.core.now) (wide c.release.new.core) _ (g.S.Shelf.meaning c.args.shelf.now) (g.S.Shelf.meaning c.release.new.shelf) refl refl c.release.ensures.finds.settles;
      unsure = then_unsure c.args.core.now.inner.unsure c.release.new.core.inner.unsure c.give_up.new.unsure c.release.ensures.finds.unsure (error_unsure c.in-Err.error c.args.vol c.release.new.core.inner.unsure c.give_up.new.unsure c.give_up.ensures.marks);
      free = c.release.ensures.finds.free;
    }

pub returns-then-is_down-clause-trusts : goal.returns-then-is_down-clause-trusts
returns-then-is_down-clause-trusts g c =
    same_logs c.args.core.now.inner.config

pub returns-in-Ok-clause-trusts : goal.returns-in-Ok-clause-trusts
returns-in-Ok-clause-trusts g c =
    c.release.ensures.logs

pub returns-in-Err-clause-trusts : goal.returns-in-Err-clause-trusts
returns-in-Err-clause-trusts g c =
    record { each = c.release.ensures.logs.each }

pub returns-in-Ok-clause-spent : goal.returns-in-Ok-clause-spent
returns-in-Ok-clause-spent g c =
    λ is. ready_spent c.args.core.now c.release.new.core c.in-Ok.ensures.done (λ none. (c.release.ensures.full none).0) (λ none.
    let was = c.is_none.ensures in
    let on : not c.is_none.result ≡ true = ap not is in
    let gone : is_some c.release.new.core.held ≡ false = ap (λ (o : Option Held). is_some o) none in
    let turned : not (is_some c.release.new.core.held) ≡ true = ap not gone in
    cc)

pub returns-then-is_down-clause-quiet : goal.returns-then-is_down-clause-quiet
returns-then-is_down-clause-quiet g c = λ none. sym c.is_down.ensures ∙ c.if-is_down.true

pub returns-in-Ok-clause-quiet : goal.returns-in-Ok-clause-quiet
returns-in-Ok-clause-quiet g c = λ none. tt

pub returns-in-Err-clause-quiet : goal.returns-in-Err-clause-quiet
returns-in-Err-clause-quiet g c = λ none. absurd (let clash : false ≡ true = c.in-Err.ensures.idle none in cc)

pub returns-in-Ok-clause-marks : goal.returns-in-Ok-clause-marks
returns-in-Ok-clause-marks g c = c.release.ensures.narrows.unsure

pub returns-in-Err-clause-marks : goal.returns-in-Err-clause-marks
returns-in-Err-clause-marks g c = unsure_then c.args.vol c.args.core.now.inner.unsure c.release.new.core.inner.unsure c.give_up.new.unsure c.in-Err.error c.release.ensures.narrows.unsure c.give_up.ensures.marks

pub returns-in-Err-clause-misses : goal.returns-in-Err-clause-misses
returns-in-Err-clause-misses g c = misses_by c.release.new.core.inner (g.S.Shelf.meaning c.args.shelf.now) (g.S.Shelf.meaning c.release.new.shelf) c.in-Err.error c.in-Err.ensures.missed c.in-Err.ensures.cause

pub returns-then-is_down-clause-stands : goal.returns-then-is_down-clause-stands
returns-then-is_down-clause-stands g c = c.requires.stands

pub returns-then-is_down-clause-goes : goal.returns-then-is_down-clause-goes
returns-then-is_down-clause-goes g c = same_Goes Nothing (inner_meaning (wide c.args.core.now) (g.S.Shelf.meaning c.args.shelf.now))

pub returns-then-is_down-clause-none : goal.returns-then-is_down-clause-none
returns-then-is_down-clause-none g c = tt

pub returns-then-is_down-clause-few : goal.returns-then-is_down-clause-few
returns-then-is_down-clause-few g c = tt

pub returns-then-is_down-clause-full : goal.returns-then-is_down-clause-full
returns-then-is_down-clause-full g c = tt

pub returns-then-is_down-clause-spent : goal.returns-then-is_down-clause-spent
returns-then-is_down-clause-spent g c = tt

pub returns-then-is_down-clause-trust : goal.returns-then-is_down-clause-trust
returns-then-is_down-clause-trust g c = tt

pub returns-then-is_down-clause-agreed : goal.returns-then-is_down-clause-agreed
returns-then-is_down-clause-agreed g c = c.requires.stands.stands.trusts.both

pub returns-then-is_down-clause-marks : goal.returns-then-is_down-clause-marks
returns-then-is_down-clause-marks g c = refl

pub returns-then-is_down-clause-misses : goal.returns-then-is_down-clause-misses
returns-then-is_down-clause-misses g c = tt

pub returns-then-is_down-clause-cause : goal.returns-then-is_down-clause-cause
returns-then-is_down-clause-cause g c = sym c.is_down.ensures ∙ c.if-is_down.true

pub returns-in-Err-clause-none : goal.returns-in-Err-clause-none
returns-in-Err-clause-none g c = tt

pub returns-in-Err-clause-few : goal.returns-in-Err-clause-few
returns-in-Err-clause-few g c = tt

pub returns-in-Err-clause-full : goal.returns-in-Err-clause-full
returns-in-Err-clause-full g c = tt

pub returns-in-Err-clause-spent : goal.returns-in-Err-clause-spent
returns-in-Err-clause-spent g c = tt

pub returns-in-Err-clause-trust : goal.returns-in-Err-clause-trust
returns-in-Err-clause-trust g c = tt

pub returns-in-Ok-clause-agreed : goal.returns-in-Ok-clause-agreed
returns-in-Ok-clause-agreed g c = tt

pub returns-in-Ok-clause-misses : goal.returns-in-Ok-clause-misses
returns-in-Ok-clause-misses g c = tt

pub returns-in-Err-clause-agreed : goal.returns-in-Err-clause-agreed
returns-in-Err-clause-agreed g c = c.in-Err.ensures.agreed

pub returns-in-Err-clause-stands : goal.returns-in-Err-clause-stands
returns-in-Err-clause-stands g c = let it = c.release.ensures.stands in let s = it.stands in record { stands = record { wanted = s.wanted; serial = s.serial; disks = s.disks; rvg = s.rvg; few = s.few; small = s.small; large = s.large; on = s.on; some = s.some; kept = s.kept; tidy = s.tidy; trusts = s.trusts }; held = it.held }

pub returns-in-Ok-clause-stands : goal.returns-in-Ok-clause-stands
returns-in-Ok-clause-stands g c = c.release.ensures.stands

pub returns-in-Ok-clause-trust : goal.returns-in-Ok-clause-trust
returns-in-Ok-clause-trust g c = c.in-Ok.ensures.trust

pub returns-in-Ok-clause-cause : goal.returns-in-Ok-clause-cause
returns-in-Ok-clause-cause g c = record { before = not_down c.is_down.result (g.S.Shelf.meaning c.args.shelf.now).down c.is_down.ensures c.if-is_down.false; after = c.in-Ok.ensures.cause }
