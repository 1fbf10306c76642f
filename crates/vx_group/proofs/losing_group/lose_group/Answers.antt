-- A log that is lost, behind the commit that detaches the plex that is held back.
use Rattle.std.proofs.Common.{◌∙◌, ◌≤◌, ℕ, Bool, List, ap, refl, subst, arith, ◌≡◌, sym}
use Rattle.vx_config.specs.Table.{greatest}
use Rattle.vx_config.specs.declared.config.Config.{Config}
use Rattle.vx_disk.specs.Shelf.{Nothing}
use Rattle.vx_kept.specs.LogRuns.{log_trusted}
use Rattle.vx_kept.proofs.Chosen.{active_volumes}
use Rattle.vx_kept.proofs.PlexActing.{none_PlexActs}
use Rattle.vx_group.specs.Blames.{CountsRise}
use Rattle.vx_group.specs.Holding.{wide}
use Rattle.vx_group.specs.Stands.{volume_faults, inner_meaning}
use Rattle.vx_group.specs.declared.inner.Inner.{Inner}
use Rattle.vx_group.proofs.ActsLemmas.{narrow_PlexActs, through_PlexActs}
use Rattle.vx_group.proofs.CallLemmas.{cause_by, counts_less, narrows_Goes, not_down}
use Rattle.vx_group.proofs.LoseLemmas.{loses_none, loses_same}
use Rattle.vx_group.proofs.LostLemmas.{error_to, if_ok_from}
use Rattle.vx_group.proofs.ThroughLemmas.{new_Stands, new_wide, released_goes, through_cause, through_goes, through_loses, through_still}
use Rattle.vx_group.proofs.FindingLemmas.{still_group, as_finds}
use Rattle.vx_group.proofs.FoundThrough.{through_finds}
use Rattle.vx_group.proofs.TrustStillLemmas.{same_logs, still_but, through_but}
use Rattle.vx_group.proofs.TrustLemmas.{ok_from, err_from}
use Rattle.vx_group.proofs.SettleCalls.{as_told}
use Rattle.vx_group.proofs.UnsureMarks.{error_unsure, then_unsure, done_unsure}
use Rattle.vx_group.proofs.UnsureLemmas.{misses_by, through_marks, through_misses, unsure_then}
use Rattle.vx_disk.proofs.Runs.{same_Goes}
use Rattle.vx_group.proofs.losing_group.lose_group.Goals as goal

pub returns-in-Err-clause-goes : goal.returns-in-Err-clause-goes
returns-in-Err-clause-goes g c = narrows_Goes (wide c.args.core.now) (wide c.release.new.core) (g.S.Shelf.meaning c.args.shelf.now) (g.S.Shelf.meaning c.release.new.shelf) (g.met.S.Shelf.lawful c.release.new.shelf) c.requires.stands.stands c.release.ensures.narrows (volume_faults c.args.core.now.inner.faults) (volume_faults c.give_up.new.faults) (λ u. let same = ap (λ (f : List ℕ). volume_faults f u) c.release.ensures.narrows.faults in let less = counts_less c.in-Err.error c.args.vol (volume_faults c.release.new.core.inner.faults) (volume_faults c.give_up.new.faults) c.give_up.ensures.counts u in omega (arith, same, less))

pub returns-in-Err-clause-cause : goal.returns-in-Err-clause-cause
returns-in-Err-clause-cause g c =
    cause_by Bool c.in-Err.error (wide c.args.core.now).config (wide c.release.new.core).config c.args.vol (volume_faults c.args.core.now.inner.faults) (volume_faults c.give_up.new.faults) (g.S.Shelf.meaning c.args.shelf.now) (g.S.Shelf.meaning c.release.new.shelf)
    (not_down c.is_down.result (g.S.Shelf.meaning c.args.shelf.now).down c.is_down.ensures c.if-is_down.false) (error_to (Unit {0}) Bool c.in-Err.error (g.S.Shelf.meaning c.args.shelf.now) (g.S.Shelf.meaning c.release.new.shelf) c.in-Err.ensures.cause)
    (subst (λ (f : List ℕ). CountsRise c.in-Err.error c.args.vol (volume_faults f) (volume_faults c.give_up.new.faults)) c.release.ensures.narrows.faults c.give_up.ensures.counts)

pub returns-clause-stands : goal.returns-clause-stands
returns-clause-stands g c =
    new_Stands c.args.core.now c.release.new.core (record { inner = c.lose_in-result.new.core; held = c.open_held-held.new.core.held }) c.close_held.new.core c.open_held-held.new.core.inner (g.S.Shelf.meaning c.args.shelf.now) (g.S.Shelf.meaning c.release.new.shelf) (g.S.Shelf.meaning c.lose_in-result.new.shelf) c.requires.stands c.release.ensures.stands c.release.ensures.narrows c.release.ensures.volumes c.open_held-held.result c.open_held-held.ensures.held c.open_held-held.ensures.inner c.open_held-held.ensures.none c.close_held.ensures
    c.lose_in-result.ensures.stands

pub returns-clause-goes : goal.returns-clause-goes
returns-clause-goes g c =
    through_goes c.args.core.now c.release.new.core c.close_held.new.core c.open_held-held.new.core.inner c.lose_in-result.new.core (g.S.Shelf.meaning c.args.shelf.now) (g.S.Shelf.meaning c.release.new.shelf) (g.S.Shelf.meaning c.lose_in-result.new.shelf) c.open_held-held.ensures.inner (new_wide c.args.core.now c.release.new.core (record { inner = c.lose_in-result.new.core; held = c.open_held-held.new.core.held }) c.close_held.new.core c.open_held-held.new.core.inner (g.S.Shelf.meaning c.args.shelf.now) (g.S.Shelf.meaning c.release.new.shelf) (g.S.Shelf.meaning c.lose_in-result.new.shelf) c.requires.stands c.release.ensures.stands c.release.ensures.narrows c.release.ensures.volumes c.open_held-held.result c.open_held-held.ensures.held c.open_held-held.ensures.inner c.open_held-held.ensures.none c.close_held.ensures)
    Nothing (released_goes c.args.core.now c.release.new.core (g.S.Shelf.meaning c.args.shelf.now) (g.S.Shelf.meaning c.release.new.shelf) c.requires.stands c.release.ensures.narrows c.release.ensures.volumes (g.met.S.Shelf.lawful c.release.new.shelf)) c.lose_in-result.ensures.goes

pub returns-clause-cause : goal.returns-clause-cause
returns-clause-cause g c =
    through_cause c.args.core.now c.release.new.core c.close_held.new.core c.open_held-held.new.core.inner c.lose_in-result.new.core (g.S.Shelf.meaning c.args.shelf.now) (g.S.Shelf.meaning c.release.new.shelf) (g.S.Shelf.meaning c.lose_in-result.new.shelf) c.open_held-held.ensures.inner (new_wide c.args.core.now c.release.new.core (record { inner = c.lose_in-result.new.core; held = c.open_held-held.new.core.held }) c.close_held.new.core c.open_held-held.new.core.inner (g.S.Shelf.meaning c.args.shelf.now) (g.S.Shelf.meaning c.release.new.shelf) (g.S.Shelf.meaning c.lose_in-result.new.shelf) c.requires.stands c.release.ensures.stands c.release.ensures.narrows c.release.ensures.volumes c.open_held-held.result c.open_held-held.ensures.held c.open_held-held.ensures.inner c.open_held-held.ensures.none c.close_held.ensures)
    c.release.ensures.narrows (not_down c.is_down.result (g.S.Shelf.meaning c.args.shelf.now).down c.is_down.ensures c.if-is_down.false) c.args.vol c.lose_in-result.result c.lose_in-result.ensures.cause

pub returns-then-is_down-clause-acts : goal.returns-then-is_down-clause-acts
returns-then-is_down-clause-acts g c =
    none_PlexActs (Nothing) (wide c.args.core.now).config (g.S.Shelf.meaning c.args.shelf.now)

pub returns-in-Err-clause-acts : goal.returns-in-Err-clause-acts
returns-in-Err-clause-acts g c =
    narrow_PlexActs (Nothing) (wide c.args.core.now) (wide c.release.new.core) (g.S.Shelf.meaning c.args.shelf.now) (g.S.Shelf.meaning c.release.new.shelf) c.release.ensures.narrows

pub returns-clause-acts : goal.returns-clause-acts
returns-clause-acts g c =
    through_PlexActs (λ (k : Config). Nothing) c.args.core.now c.release.new.core c.close_held.new.core c.open_held-held.new.core.inner c.lose_in-result.new.core (g.S.Shelf.meaning c.args.shelf.now) (g.S.Shelf.meaning c.release.new.shelf) (g.S.Shelf.meaning c.lose_in-result.new.shelf) c.open_held-held.ensures.inner (new_wide c.args.core.now c.release.new.core (record { inner = c.lose_in-result.new.core; held = c.open_held-held.new.core.held }) c.close_held.new.core c.open_held-held.new.core.inner (g.S.Shelf.meaning c.args.shelf.now) (g.S.Shelf.meaning c.release.new.shelf) (g.S.Shelf.meaning c.lose_in-result.new.shelf) c.requires.stands c.release.ensures.stands c.release.ensures.narrows c.release.ensures.volumes c.open_held-held.result c.open_held-held.ensures.held c.open_held-held.ensures.inner c.open_held-held.ensures.none c.close_held.ensures)
    c.release.ensures.narrows (λ u b x none. none) c.lose_in-result.ensures.acts

pub returns-clause-lost : goal.returns-clause-lost
returns-clause-lost g c = if_ok_from c.lose_in-result.result (λ (done : Bool) gone is. ap (λ (i : Inner). log_trusted i.config c.args.vol c.args.log) (new_wide c.args.core.now c.release.new.core (record { inner = c.lose_in-result.new.core; held = c.open_held-held.new.core.held }) c.close_held.new.core c.open_held-held.new.core.inner (g.S.Shelf.meaning c.args.shelf.now) (g.S.Shelf.meaning c.release.new.shelf) (g.S.Shelf.meaning c.lose_in-result.new.shelf) c.requires.stands c.release.ensures.stands c.release.ensures.narrows c.release.ensures.volumes c.open_held-held.result c.open_held-held.ensures.held c.open_held-held.ensures.inner c.open_held-held.ensures.none c.close_held.ensures) ∙ gone is) c.lose_in-result.ensures.lost

pub returns-clause-full : goal.returns-clause-full
returns-clause-full g c =
    if_ok_from c.lose_in-result.result (λ (done : Bool) full is.
    let few = c.in-Ok.ensures.few in
    let here : greatest ≤ (wide c.release.new.core).config.serial = subst (λ (i : Inner). greatest ≤ i.config.serial) c.open_held-held.ensures.inner (full is) in
    omega (arith, few, here)) c.lose_in-result.ensures.full

pub returns-then-is_down-clause-loses : goal.returns-then-is_down-clause-loses
returns-then-is_down-clause-loses g c = loses_same c.args.core.now.inner.config (g.S.Shelf.meaning c.args.shelf.now) (g.S.Shelf.meaning c.args.shelf.now)

pub returns-in-Err-clause-loses : goal.returns-in-Err-clause-loses
returns-in-Err-clause-loses g c =
    loses_none c.args.core.now.inner.config c.release.new.core.inner.config (g.S.Shelf.meaning c.args.shelf.now) (g.S.Shelf.meaning c.release.new.shelf) c.release.ensures.volumes c.release.ensures.failing c.release.ensures.parts

pub returns-clause-loses : goal.returns-clause-loses
returns-clause-loses g c =
    through_loses c.args.core.now c.release.new.core (record { inner = c.lose_in-result.new.core; held = c.open_held-held.new.core.held }) c.close_held.new.core c.open_held-held.new.core.inner (g.S.Shelf.meaning c.args.shelf.now) (g.S.Shelf.meaning c.release.new.shelf) (g.S.Shelf.meaning c.lose_in-result.new.shelf) c.requires.stands c.release.ensures.stands c.release.ensures.narrows c.release.ensures.volumes c.open_held-held.result c.open_held-held.ensures.held c.open_held-held.ensures.inner c.open_held-held.ensures.none c.close_held.ensures
    c.lose_in-result.ensures.acts.acts.faults c.release.ensures.failing c.release.ensures.parts c.lose_in-result.ensures.loses

pub returns-then-is_down-clause-still : goal.returns-then-is_down-clause-still
returns-then-is_down-clause-still g c = λ none w p. refl

pub returns-in-Err-clause-still : goal.returns-in-Err-clause-still
returns-in-Err-clause-still g c = λ none w p. active_volumes c.release.new.core.inner.config c.args.core.now.inner.config c.release.ensures.volumes w p

pub returns-clause-still : goal.returns-clause-still
returns-clause-still g c = λ none.
    through_still c.args.core.now c.release.new.core (record { inner = c.lose_in-result.new.core; held = c.open_held-held.new.core.held }) c.close_held.new.core c.open_held-held.new.core.inner c.open_held-held.result none (c.release.ensures.none none).0 c.open_held-held.ensures.held c.open_held-held.ensures.inner c.close_held.ensures
    c.lose_in-result.ensures.plexes

pub returns-then-is_down-clause-finds : goal.returns-then-is_down-clause-finds
returns-then-is_down-clause-finds g c =
    still_group c.args.core.now (g.S.Shelf.meaning c.args.shelf.now)

pub returns-in-Err-clause-finds : goal.returns-in-Err-clause-finds
returns-in-Err-clause-finds g c =
    record {
      core = as_finds (wide c.args.core.now) (wide c.release.new.core) _ (g.S.Shelf.meaning c.args.shelf.now) (g.S.Shelf.meaning c.release.new.shelf) refl refl refl c.release.ensures.finds.core;
      settles = as_told (wide c.args.core.now) (wide c.release.new.core) _ (g.S.Shelf.meaning c.args.shelf.now) (g.S.Shelf.meaning c.release.new.shelf) refl refl c.release.ensures.finds.settles;
      unsure = then_unsure c.args.core.now.inner.unsure c.release.new.core.inner.unsure c.give_up.new.unsure c.release.ensures.finds.unsure (error_unsure c.in-Err.error c.args.vol c.release.new.core.inner.unsure c.give_up.new.unsure c.give_up.ensures.marks);
      free = c.release.ensures.finds.free;
    }

pub returns-clause-finds : goal.returns-clause-finds
returns-clause-finds g c =
    through_finds c.args.core.now c.release.new.core (record { inner = c.lose_in-result.new.core; held = c.open_held-held.new.core.held }) c.close_held.new.core c.open_held-held.new.core.inner c.lose_in-result.new.core (g.S.Shelf.meaning c.args.shelf.now) (g.S.Shelf.meaning c.release.new.shelf) (g.S.Shelf.meaning c.lose_in-result.new.shelf) c.open_held-held.ensures.inner
    (new_wide c.args.core.now c.release.new.core (record { inner = c.lose_in-result.new.core; held = c.open_held-held.new.core.held }) c.close_held.new.core c.open_held-held.new.core.inner (g.S.Shelf.meaning c.args.shelf.now) (g.S.Shelf.meaning c.release.new.shelf) (g.S.Shelf.meaning c.lose_in-result.new.shelf) c.requires.stands c.release.ensures.stands c.release.ensures.narrows c.release.ensures.volumes c.open_held-held.result c.open_held-held.ensures.held c.open_held-held.ensures.inner c.open_held-held.ensures.none c.close_held.ensures)
    c.open_held-held.result c.open_held-held.ensures.held c.open_held-held.ensures.none c.close_held.ensures c.release.ensures.finds c.lose_in-result.ensures.finds c.lose_in-result.ensures.settles
    (done_unsure c.args.vol c.open_held-held.new.core.inner.unsure c.lose_in-result.new.core.unsure c.lose_in-result.result c.lose_in-result.ensures.marks)

pub returns-then-is_down-clause-logs : goal.returns-then-is_down-clause-logs
returns-then-is_down-clause-logs g c = still_but c.args.vol c.args.log c.args.core.now.inner.config c.args.core.now.inner.config (same_logs c.args.core.now.inner.config)

pub returns-in-Err-clause-logs : goal.returns-in-Err-clause-logs
returns-in-Err-clause-logs g c = still_but c.args.vol c.args.log c.args.core.now.inner.config c.release.new.core.inner.config c.release.ensures.logs

pub returns-clause-logs : goal.returns-clause-logs
returns-clause-logs g c =
    through_but c.args.core.now c.release.new.core (record { inner = c.lose_in-result.new.core; held = c.open_held-held.new.core.held }) c.close_held.new.core c.open_held-held.new.core.inner c.open_held-held.result c.open_held-held.ensures.inner c.close_held.ensures c.release.ensures.logs c.args.vol c.args.log c.lose_in-result.ensures.logs

pub returns-clause-few : goal.returns-clause-few
returns-clause-few g c = ok_from c.lose_in-result.result (λ two.
    let one = c.in-Ok.ensures.few in
    let last : (wide c.close_held.new.core).config.serial ≡ c.lose_in-result.new.core.config.serial = ap (λ (i : Inner). i.config.serial) (new_wide c.args.core.now c.release.new.core (record { inner = c.lose_in-result.new.core; held = c.open_held-held.new.core.held }) c.close_held.new.core c.open_held-held.new.core.inner (g.S.Shelf.meaning c.args.shelf.now) (g.S.Shelf.meaning c.release.new.shelf) (g.S.Shelf.meaning c.lose_in-result.new.shelf) c.requires.stands c.release.ensures.stands c.release.ensures.narrows c.release.ensures.volumes c.open_held-held.result c.open_held-held.ensures.held c.open_held-held.ensures.inner c.open_held-held.ensures.none c.close_held.ensures) in
    let mid : c.open_held-held.new.core.inner.config.serial ≡ (wide c.release.new.core).config.serial = ap (λ (i : Inner). i.config.serial) c.open_held-held.ensures.inner in
    omega (arith, one, two, last, mid)) c.lose_in-result.ensures.few

pub returns-in-Err-clause-marks : goal.returns-in-Err-clause-marks
returns-in-Err-clause-marks g c = unsure_then c.args.vol c.args.core.now.inner.unsure c.release.new.core.inner.unsure c.give_up.new.unsure c.in-Err.error c.release.ensures.narrows.unsure c.give_up.ensures.marks

pub returns-clause-marks : goal.returns-clause-marks
returns-clause-marks g c =
    through_marks c.args.core.now c.release.new.core c.close_held.new.core c.open_held-held.new.core.inner c.lose_in-result.new.core c.args.vol c.lose_in-result.result c.release.ensures.narrows.unsure c.open_held-held.ensures.inner
    (new_wide c.args.core.now c.release.new.core (record { inner = c.lose_in-result.new.core; held = c.open_held-held.new.core.held }) c.close_held.new.core c.open_held-held.new.core.inner (g.S.Shelf.meaning c.args.shelf.now) (g.S.Shelf.meaning c.release.new.shelf) (g.S.Shelf.meaning c.lose_in-result.new.shelf) c.requires.stands c.release.ensures.stands c.release.ensures.narrows c.release.ensures.volumes c.open_held-held.result c.open_held-held.ensures.held c.open_held-held.ensures.inner c.open_held-held.ensures.none c.close_held.ensures)
    c.lose_in-result.ensures.marks

pub returns-in-Err-clause-misses : goal.returns-in-Err-clause-misses
returns-in-Err-clause-misses g c = misses_by c.release.new.core.inner (g.S.Shelf.meaning c.args.shelf.now) (g.S.Shelf.meaning c.release.new.shelf) c.in-Err.error c.in-Err.ensures.missed c.in-Err.ensures.cause

pub returns-clause-misses : goal.returns-clause-misses
returns-clause-misses g c =
    through_misses c.close_held.new.core c.lose_in-result.new.core c.lose_in-result.result
    (new_wide c.args.core.now c.release.new.core (record { inner = c.lose_in-result.new.core; held = c.open_held-held.new.core.held }) c.close_held.new.core c.open_held-held.new.core.inner (g.S.Shelf.meaning c.args.shelf.now) (g.S.Shelf.meaning c.release.new.shelf) (g.S.Shelf.meaning c.lose_in-result.new.shelf) c.requires.stands c.release.ensures.stands c.release.ensures.narrows c.release.ensures.volumes c.open_held-held.result c.open_held-held.ensures.held c.open_held-held.ensures.inner c.open_held-held.ensures.none c.close_held.ensures)
    c.lose_in-result.ensures.misses

pub returns-then-is_down-clause-stands : goal.returns-then-is_down-clause-stands
returns-then-is_down-clause-stands g c = c.requires.stands

pub returns-then-is_down-clause-goes : goal.returns-then-is_down-clause-goes
returns-then-is_down-clause-goes g c = same_Goes Nothing (inner_meaning (wide c.args.core.now) (g.S.Shelf.meaning c.args.shelf.now))

pub returns-then-is_down-clause-lost : goal.returns-then-is_down-clause-lost
returns-then-is_down-clause-lost g c = tt

pub returns-then-is_down-clause-full : goal.returns-then-is_down-clause-full
returns-then-is_down-clause-full g c = tt

pub returns-then-is_down-clause-few : goal.returns-then-is_down-clause-few
returns-then-is_down-clause-few g c = tt

pub returns-then-is_down-clause-trust : goal.returns-then-is_down-clause-trust
returns-then-is_down-clause-trust g c = tt

pub returns-then-is_down-clause-agreed : goal.returns-then-is_down-clause-agreed
returns-then-is_down-clause-agreed g c = c.requires.stands.stands.trusts.both

pub returns-then-is_down-clause-marks : goal.returns-then-is_down-clause-marks
returns-then-is_down-clause-marks g c = refl

pub returns-then-is_down-clause-misses : goal.returns-then-is_down-clause-misses
returns-then-is_down-clause-misses g c = tt

pub returns-then-is_down-clause-cause : goal.returns-then-is_down-clause-cause
returns-then-is_down-clause-cause g c = sym c.is_down.ensures ∙ c.if-is_down.true

pub returns-in-Err-clause-lost : goal.returns-in-Err-clause-lost
returns-in-Err-clause-lost g c = tt

pub returns-in-Err-clause-full : goal.returns-in-Err-clause-full
returns-in-Err-clause-full g c = tt

pub returns-in-Err-clause-few : goal.returns-in-Err-clause-few
returns-in-Err-clause-few g c = tt

pub returns-in-Err-clause-trust : goal.returns-in-Err-clause-trust
returns-in-Err-clause-trust g c = tt

pub returns-in-Err-clause-agreed : goal.returns-in-Err-clause-agreed
returns-in-Err-clause-agreed g c = c.in-Err.ensures.agreed

pub returns-in-Err-clause-stands : goal.returns-in-Err-clause-stands
returns-in-Err-clause-stands g c = let it = c.release.ensures.stands in let s = it.stands in record { stands = record { wanted = s.wanted; serial = s.serial; disks = s.disks; rvg = s.rvg; few = s.few; small = s.small; large = s.large; on = s.on; some = s.some; kept = s.kept; tidy = s.tidy; trusts = s.trusts }; held = it.held }

pub returns-clause-trust : goal.returns-clause-trust
returns-clause-trust g c = ok_from c.lose_in-result.result (λ keeps is. ap (λ (i : Inner). i.committed) (new_wide c.args.core.now c.release.new.core (record { inner = c.lose_in-result.new.core; held = c.open_held-held.new.core.held }) c.close_held.new.core c.open_held-held.new.core.inner (g.S.Shelf.meaning c.args.shelf.now) (g.S.Shelf.meaning c.release.new.shelf) (g.S.Shelf.meaning c.lose_in-result.new.shelf) c.requires.stands c.release.ensures.stands c.release.ensures.narrows c.release.ensures.volumes c.open_held-held.result c.open_held-held.ensures.held c.open_held-held.ensures.inner c.open_held-held.ensures.none c.close_held.ensures) ∙ keeps (ap (λ (i : Inner). i.committed) c.open_held-held.ensures.inner ∙ c.in-Ok.ensures.trust is)) c.lose_in-result.ensures.trust

pub returns-clause-agreed : goal.returns-clause-agreed
returns-clause-agreed g c = err_from c.lose_in-result.result (λ keeps is. ap (λ (i : Inner). i.agreed) (new_wide c.args.core.now c.release.new.core (record { inner = c.lose_in-result.new.core; held = c.open_held-held.new.core.held }) c.close_held.new.core c.open_held-held.new.core.inner (g.S.Shelf.meaning c.args.shelf.now) (g.S.Shelf.meaning c.release.new.shelf) (g.S.Shelf.meaning c.lose_in-result.new.shelf) c.requires.stands c.release.ensures.stands c.release.ensures.narrows c.release.ensures.volumes c.open_held-held.result c.open_held-held.ensures.held c.open_held-held.ensures.inner c.open_held-held.ensures.none c.close_held.ensures) ∙ keeps (ap (λ (i : Inner). i.committed) c.open_held-held.ensures.inner ∙ c.in-Ok.ensures.trust is)) c.lose_in-result.ensures.agreed
