-- `write_group`: clauses goes, loses, cause, stands, ok, gave_up, clear and acts.
use Rattle.std.proofs.Common.{◌/◌, ◌∙◌, ℕ, List, length, refl, ap, subst, arith, sym}
use Rattle.vx_disk.specs.Shelf.{Meaning, Written, Wrote}
use Rattle.vx_disk.proofs.Runs.{none_written}
use Rattle.vx_group.specs.Blames.{CountsRise}
use Rattle.vx_group.specs.Holding.{wide}
use Rattle.vx_group.specs.Stands.{volume_faults}
use Rattle.vx_group.proofs.CallLemmas.{cause_by, counts_less, narrows_Goes, not_down, nothing_Wrote}
use Rattle.vx_group.proofs.LoseLemmas.{loses_none, loses_same}
use Rattle.vx_group.proofs.RegainLemmas.{all_holds}
use Rattle.vx_group.proofs.ThroughLemmas.{again_none, new_Stands, new_wide, released_goes, through_cause, through_gives, through_goes, through_loses, through_ok}
use Rattle.vx_group.proofs.TrustLemmas.{ok_from, err_from}
use Rattle.vx_config.specs.declared.config.Config.{Config}
use Rattle.vx_volume.specs.Volumes.{OnPlexes}
use Rattle.vx_kept.proofs.PlexActing.{none_PlexActs, on_wider}
use Rattle.vx_group.proofs.ActsLemmas.{narrow_PlexActs, through_PlexActs}
use Rattle.vx_group.proofs.FindingLemmas.{still_group, as_finds}
use Rattle.vx_group.proofs.FoundThrough.{through_finds}
use Rattle.vx_group.proofs.TrustStillLemmas.{same_logs, through_logs}
use Rattle.vx_group.proofs.SettleCalls.{as_told}
use Rattle.vx_group.proofs.UnsureMarks.{done_unsure, error_unsure, then_unsure}
use Rattle.vx_group.proofs.UnsureLemmas.{through_marks, unsure_then}
use Rattle.vx_group.specs.GivesUp.{MissesNone}
use Rattle.vx_group.specs.declared.inner.Inner.{Inner}
use Rattle.vx_group.proofs.writing.write_group.Goals as goal

pub returns-in-Err-clause-goes : goal.returns-in-Err-clause-goes
returns-in-Err-clause-goes g c = none_written (Written c.args.vol c.args.block c.args.bytes.now) _ _ (narrows_Goes (wide c.args.core.now) (wide c.release.new.core) (g.S.Shelf.meaning c.args.shelf.now) (g.S.Shelf.meaning c.release.new.shelf) (g.met.S.Shelf.lawful c.release.new.shelf) c.requires.stands.stands c.release.ensures.narrows (volume_faults c.args.core.now.inner.faults) (volume_faults c.give_up.new.faults) (λ u. let same = ap (λ (f : List ℕ). volume_faults f u) c.release.ensures.narrows.faults in let less = counts_less c.in-Err.error c.args.vol (volume_faults c.release.new.core.inner.faults) (volume_faults c.give_up.new.faults) c.give_up.ensures.counts u in omega (arith, same, less)))

pub returns-in-Err-clause-loses : goal.returns-in-Err-clause-loses
returns-in-Err-clause-loses g c =
    loses_none c.args.core.now.inner.config c.release.new.core.inner.config (g.S.Shelf.meaning c.args.shelf.now) (g.S.Shelf.meaning c.release.new.shelf) c.release.ensures.volumes c.release.ensures.failing c.release.ensures.parts

pub returns-in-Err-clause-cause : goal.returns-in-Err-clause-cause
returns-in-Err-clause-cause g c =
    cause_by (Unit {0}) c.in-Err.error (wide c.args.core.now).config (wide c.release.new.core).config c.args.vol (volume_faults c.args.core.now.inner.faults) (volume_faults c.give_up.new.faults) (g.S.Shelf.meaning c.args.shelf.now) (g.S.Shelf.meaning c.release.new.shelf)
    (not_down c.is_down.result (g.S.Shelf.meaning c.args.shelf.now).down c.is_down.ensures c.if-is_down.false) c.in-Err.ensures.cause
    (subst (λ (f : List ℕ). CountsRise c.in-Err.error c.args.vol (volume_faults f) (volume_faults c.give_up.new.faults)) c.release.ensures.narrows.faults c.give_up.ensures.counts)

pub returns-clause-stands : goal.returns-clause-stands
returns-clause-stands g c =
    new_Stands c.args.core.now c.release.new.core (record { inner = c.write_in-result.new.core; held = c.open_held-held.new.core.held }) c.close_held.new.core c.open_held-held.new.core.inner (g.S.Shelf.meaning c.args.shelf.now) (g.S.Shelf.meaning c.release.new.shelf) (g.S.Shelf.meaning c.write_in-result.new.shelf) c.requires.stands c.release.ensures.stands c.release.ensures.narrows c.release.ensures.volumes c.open_held-held.result c.open_held-held.ensures.held c.open_held-held.ensures.inner c.open_held-held.ensures.none c.close_held.ensures
    c.write_in-result.ensures.stands

pub returns-clause-goes : goal.returns-clause-goes
returns-clause-goes g c =
    through_goes c.args.core.now c.release.new.core c.close_held.new.core c.open_held-held.new.core.inner c.write_in-result.new.core (g.S.Shelf.meaning c.args.shelf.now) (g.S.Shelf.meaning c.release.new.shelf) (g.S.Shelf.meaning c.write_in-result.new.shelf) c.open_held-held.ensures.inner (new_wide c.args.core.now c.release.new.core (record { inner = c.write_in-result.new.core; held = c.open_held-held.new.core.held }) c.close_held.new.core c.open_held-held.new.core.inner (g.S.Shelf.meaning c.args.shelf.now) (g.S.Shelf.meaning c.release.new.shelf) (g.S.Shelf.meaning c.write_in-result.new.shelf) c.requires.stands c.release.ensures.stands c.release.ensures.narrows c.release.ensures.volumes c.open_held-held.result c.open_held-held.ensures.held c.open_held-held.ensures.inner c.open_held-held.ensures.none c.close_held.ensures)
    (Written c.args.vol c.args.block c.args.bytes.now) (released_goes c.args.core.now c.release.new.core (g.S.Shelf.meaning c.args.shelf.now) (g.S.Shelf.meaning c.release.new.shelf) c.requires.stands c.release.ensures.narrows c.release.ensures.volumes (g.met.S.Shelf.lawful c.release.new.shelf)) c.write_in-result.ensures.goes

pub returns-clause-ok : goal.returns-clause-ok
returns-clause-ok g c =
    ok_from c.write_in-result.result
    (λ done. through_ok c.args.core.now c.release.new.core c.close_held.new.core c.open_held-held.new.core.inner c.write_in-result.new.core (g.S.Shelf.meaning c.args.shelf.now) (g.S.Shelf.meaning c.release.new.shelf) (g.S.Shelf.meaning c.write_in-result.new.shelf) c.open_held-held.ensures.inner (new_wide c.args.core.now c.release.new.core (record { inner = c.write_in-result.new.core; held = c.open_held-held.new.core.held }) c.close_held.new.core c.open_held-held.new.core.inner (g.S.Shelf.meaning c.args.shelf.now) (g.S.Shelf.meaning c.release.new.shelf) (g.S.Shelf.meaning c.write_in-result.new.shelf) c.requires.stands c.release.ensures.stands c.release.ensures.narrows c.release.ensures.volumes c.open_held-held.result c.open_held-held.ensures.held c.open_held-held.ensures.inner c.open_held-held.ensures.none c.close_held.ensures)
    c.in-Ok.ensures.cause (released_goes c.args.core.now c.release.new.core (g.S.Shelf.meaning c.args.shelf.now) (g.S.Shelf.meaning c.release.new.shelf) c.requires.stands c.release.ensures.narrows c.release.ensures.volumes (g.met.S.Shelf.lawful c.release.new.shelf)) (λ (a b : Meaning). Wrote c.args.vol c.args.block c.args.bytes.now a b) (λ a b d goes up done. nothing_Wrote c.args.vol c.args.block c.args.bytes.now a b d goes up done) done)
    c.write_in-result.ensures.ok

pub returns-clause-gave_up : goal.returns-clause-gave_up
returns-clause-gave_up g c =
    through_gives c.args.core.now c.release.new.core (record { inner = c.write_in-result.new.core; held = c.open_held-held.new.core.held }) c.close_held.new.core c.open_held-held.new.core.inner (g.S.Shelf.meaning c.args.shelf.now) (g.S.Shelf.meaning c.release.new.shelf) (g.S.Shelf.meaning c.write_in-result.new.shelf) c.requires.stands c.release.ensures.stands c.release.ensures.narrows c.release.ensures.volumes c.open_held-held.result c.open_held-held.ensures.held c.open_held-held.ensures.inner c.open_held-held.ensures.none c.close_held.ensures
    c.args.vol c.write_in-result.result c.write_in-result.ensures.gave_up

pub returns-clause-loses : goal.returns-clause-loses
returns-clause-loses g c =
    through_loses c.args.core.now c.release.new.core (record { inner = c.write_in-result.new.core; held = c.open_held-held.new.core.held }) c.close_held.new.core c.open_held-held.new.core.inner (g.S.Shelf.meaning c.args.shelf.now) (g.S.Shelf.meaning c.release.new.shelf) (g.S.Shelf.meaning c.write_in-result.new.shelf) c.requires.stands c.release.ensures.stands c.release.ensures.narrows c.release.ensures.volumes c.open_held-held.result c.open_held-held.ensures.held c.open_held-held.ensures.inner c.open_held-held.ensures.none c.close_held.ensures
    c.write_in-result.ensures.unit_faults c.release.ensures.failing c.release.ensures.parts c.write_in-result.ensures.loses

pub returns-clause-cause : goal.returns-clause-cause
returns-clause-cause g c =
    through_cause c.args.core.now c.release.new.core c.close_held.new.core c.open_held-held.new.core.inner c.write_in-result.new.core (g.S.Shelf.meaning c.args.shelf.now) (g.S.Shelf.meaning c.release.new.shelf) (g.S.Shelf.meaning c.write_in-result.new.shelf) c.open_held-held.ensures.inner (new_wide c.args.core.now c.release.new.core (record { inner = c.write_in-result.new.core; held = c.open_held-held.new.core.held }) c.close_held.new.core c.open_held-held.new.core.inner (g.S.Shelf.meaning c.args.shelf.now) (g.S.Shelf.meaning c.release.new.shelf) (g.S.Shelf.meaning c.write_in-result.new.shelf) c.requires.stands c.release.ensures.stands c.release.ensures.narrows c.release.ensures.volumes c.open_held-held.result c.open_held-held.ensures.held c.open_held-held.ensures.inner c.open_held-held.ensures.none c.close_held.ensures)
    c.release.ensures.narrows (not_down c.is_down.result (g.S.Shelf.meaning c.args.shelf.now).down c.is_down.ensures c.if-is_down.false) c.args.vol c.write_in-result.result c.write_in-result.ensures.cause

pub returns-clause-clear : goal.returns-clause-clear
returns-clause-clear g c = λ less. all_holds c.write_in-result.result
    (again_none c.open_held-held.result _ c.close_held.new.core (c.open_held-held.ensures.held ∙ c.in-Ok.ensures.done less) c.open_held-held.ensures.none c.close_held.ensures)

pub returns-then-is_down-clause-acts : goal.returns-then-is_down-clause-acts
returns-then-is_down-clause-acts g c =
    none_PlexActs (OnPlexes (wide c.args.core.now).config c.args.vol c.args.block (length c.args.bytes.now / 512) c.args.bytes.now) (wide c.args.core.now).config (g.S.Shelf.meaning c.args.shelf.now)

pub returns-in-Err-clause-acts : goal.returns-in-Err-clause-acts
returns-in-Err-clause-acts g c =
    narrow_PlexActs (OnPlexes (wide c.args.core.now).config c.args.vol c.args.block (length c.args.bytes.now / 512) c.args.bytes.now) (wide c.args.core.now) (wide c.release.new.core) (g.S.Shelf.meaning c.args.shelf.now) (g.S.Shelf.meaning c.release.new.shelf) c.release.ensures.narrows

pub returns-clause-acts : goal.returns-clause-acts
returns-clause-acts g c =
    through_PlexActs (λ (k : Config). OnPlexes k c.args.vol c.args.block (length c.args.bytes.now / 512) c.args.bytes.now) c.args.core.now c.release.new.core c.close_held.new.core c.open_held-held.new.core.inner c.write_in-result.new.core (g.S.Shelf.meaning c.args.shelf.now) (g.S.Shelf.meaning c.release.new.shelf) (g.S.Shelf.meaning c.write_in-result.new.shelf) c.open_held-held.ensures.inner (new_wide c.args.core.now c.release.new.core (record { inner = c.write_in-result.new.core; held = c.open_held-held.new.core.held }) c.close_held.new.core c.open_held-held.new.core.inner (g.S.Shelf.meaning c.args.shelf.now) (g.S.Shelf.meaning c.release.new.shelf) (g.S.Shelf.meaning c.write_in-result.new.shelf) c.requires.stands c.release.ensures.stands c.release.ensures.narrows c.release.ensures.volumes c.open_held-held.result c.open_held-held.ensures.held c.open_held-held.ensures.inner c.open_held-held.ensures.none c.close_held.ensures)
    c.release.ensures.narrows (on_wider (wide c.args.core.now).config (wide c.release.new.core).config c.args.vol c.args.block (length c.args.bytes.now / 512) c.args.bytes.now c.release.ensures.narrows.shape c.release.ensures.narrows.on) c.write_in-result.ensures.acts

pub returns-then-is_down-clause-finds : goal.returns-then-is_down-clause-finds
returns-then-is_down-clause-finds g c =
    still_group c.args.core.now (g.S.Shelf.meaning c.args.shelf.now)

pub returns-in-Err-clause-finds : goal.returns-in-Err-clause-finds
returns-in-Err-clause-finds g c =
    record {
      core = as_finds (wide c.args.core.now) (wide c.release.new.core) _ (g.S.Shelf.meaning c.args.shelf.now) (g.S.Shelf.meaning c.release.new.shelf) refl refl refl c.release.ensures.finds.core;
      settles = as_told (wide c.args.core.now) (wide c.release.new.core) _ (g.S.Shelf.meaning c.args.shelf.now) (g.S.Shelf.meaning c.release.new.shelf) refl refl c.release.ensures.finds.settles;
      unsure = then_unsure c.args.core.now.inner.unsure c.release.new.core.inner.unsure c.give_up.new.unsure c.release.ensures.finds.unsure (error_unsure c.in-Err.error c.args.vol c.release.new.core.inner.unsure c.give_up.new.unsure c.give_up.ensures.marks);
      free = c.release.ensures.finds.free;
    }

pub returns-clause-finds : goal.returns-clause-finds
returns-clause-finds g c =
    through_finds c.args.core.now c.release.new.core (record { inner = c.write_in-result.new.core; held = c.open_held-held.new.core.held }) c.close_held.new.core c.open_held-held.new.core.inner c.write_in-result.new.core (g.S.Shelf.meaning c.args.shelf.now) (g.S.Shelf.meaning c.release.new.shelf) (g.S.Shelf.meaning c.write_in-result.new.shelf) c.open_held-held.ensures.inner
    (new_wide c.args.core.now c.release.new.core (record { inner = c.write_in-result.new.core; held = c.open_held-held.new.core.held }) c.close_held.new.core c.open_held-held.new.core.inner (g.S.Shelf.meaning c.args.shelf.now) (g.S.Shelf.meaning c.release.new.shelf) (g.S.Shelf.meaning c.write_in-result.new.shelf) c.requires.stands c.release.ensures.stands c.release.ensures.narrows c.release.ensures.volumes c.open_held-held.result c.open_held-held.ensures.held c.open_held-held.ensures.inner c.open_held-held.ensures.none c.close_held.ensures)
    c.open_held-held.result c.open_held-held.ensures.held c.open_held-held.ensures.none c.close_held.ensures c.release.ensures.finds c.write_in-result.ensures.finds c.write_in-result.ensures.settles
    (done_unsure c.args.vol c.open_held-held.new.core.inner.unsure c.write_in-result.new.core.unsure c.write_in-result.result c.write_in-result.ensures.marks)

pub returns-then-is_down-clause-logs : goal.returns-then-is_down-clause-logs
returns-then-is_down-clause-logs g c = same_logs c.args.core.now.inner.config

pub returns-in-Err-clause-logs : goal.returns-in-Err-clause-logs
returns-in-Err-clause-logs g c = c.release.ensures.logs

pub returns-clause-logs : goal.returns-clause-logs
returns-clause-logs g c =
    through_logs c.args.core.now c.release.new.core (record { inner = c.write_in-result.new.core; held = c.open_held-held.new.core.held }) c.close_held.new.core c.open_held-held.new.core.inner c.open_held-held.result c.open_held-held.ensures.inner c.close_held.ensures c.release.ensures.logs c.write_in-result.ensures.logs

pub returns-in-Err-clause-marks : goal.returns-in-Err-clause-marks
returns-in-Err-clause-marks g c = unsure_then c.args.vol c.args.core.now.inner.unsure c.release.new.core.inner.unsure c.give_up.new.unsure c.in-Err.error c.release.ensures.narrows.unsure c.give_up.ensures.marks

pub returns-clause-marks : goal.returns-clause-marks
returns-clause-marks g c =
    through_marks c.args.core.now c.release.new.core c.close_held.new.core c.open_held-held.new.core.inner c.write_in-result.new.core c.args.vol c.write_in-result.result c.release.ensures.narrows.unsure c.open_held-held.ensures.inner
    (new_wide c.args.core.now c.release.new.core (record { inner = c.write_in-result.new.core; held = c.open_held-held.new.core.held }) c.close_held.new.core c.open_held-held.new.core.inner (g.S.Shelf.meaning c.args.shelf.now) (g.S.Shelf.meaning c.release.new.shelf) (g.S.Shelf.meaning c.write_in-result.new.shelf) c.requires.stands c.release.ensures.stands c.release.ensures.narrows c.release.ensures.volumes c.open_held-held.result c.open_held-held.ensures.held c.open_held-held.ensures.inner c.open_held-held.ensures.none c.close_held.ensures)
    c.write_in-result.ensures.marks

pub returns-clause-ready : goal.returns-clause-ready
returns-clause-ready g c =
    ok_from c.write_in-result.result (λ ready. subst (λ (i : Inner). MissesNone i) (sym
    (new_wide c.args.core.now c.release.new.core (record { inner = c.write_in-result.new.core; held = c.open_held-held.new.core.held }) c.close_held.new.core c.open_held-held.new.core.inner (g.S.Shelf.meaning c.args.shelf.now) (g.S.Shelf.meaning c.release.new.shelf) (g.S.Shelf.meaning c.write_in-result.new.shelf) c.requires.stands c.release.ensures.stands c.release.ensures.narrows c.release.ensures.volumes c.open_held-held.result c.open_held-held.ensures.held c.open_held-held.ensures.inner c.open_held-held.ensures.none c.close_held.ensures)) ready) c.write_in-result.ensures.ready

pub returns-then-is_down-clause-stands : goal.returns-then-is_down-clause-stands
returns-then-is_down-clause-stands g c = c.requires.stands

pub returns-then-is_down-clause-ok : goal.returns-then-is_down-clause-ok
returns-then-is_down-clause-ok g c = tt

pub returns-then-is_down-clause-ready : goal.returns-then-is_down-clause-ready
returns-then-is_down-clause-ready g c = tt

pub returns-then-is_down-clause-gave_up : goal.returns-then-is_down-clause-gave_up
returns-then-is_down-clause-gave_up g c = tt

pub returns-then-is_down-clause-loses : goal.returns-then-is_down-clause-loses
returns-then-is_down-clause-loses g c = loses_same c.args.core.now.inner.config (g.S.Shelf.meaning c.args.shelf.now) (g.S.Shelf.meaning c.args.shelf.now)

pub returns-then-is_down-clause-clear : goal.returns-then-is_down-clause-clear
returns-then-is_down-clause-clear g c = λ what. tt

pub returns-then-is_down-clause-trust : goal.returns-then-is_down-clause-trust
returns-then-is_down-clause-trust g c = tt

pub returns-then-is_down-clause-agreed : goal.returns-then-is_down-clause-agreed
returns-then-is_down-clause-agreed g c = c.requires.stands.stands.trusts.both

pub returns-then-is_down-clause-marks : goal.returns-then-is_down-clause-marks
returns-then-is_down-clause-marks g c = refl

pub returns-then-is_down-clause-cause : goal.returns-then-is_down-clause-cause
returns-then-is_down-clause-cause g c = sym c.is_down.ensures ∙ c.if-is_down.true

pub returns-in-Err-clause-ok : goal.returns-in-Err-clause-ok
returns-in-Err-clause-ok g c = tt

pub returns-in-Err-clause-ready : goal.returns-in-Err-clause-ready
returns-in-Err-clause-ready g c = tt

pub returns-in-Err-clause-trust : goal.returns-in-Err-clause-trust
returns-in-Err-clause-trust g c = tt

pub returns-in-Err-clause-clear : goal.returns-in-Err-clause-clear
returns-in-Err-clause-clear g c = λ less. tt

pub returns-in-Err-clause-agreed : goal.returns-in-Err-clause-agreed
returns-in-Err-clause-agreed g c = c.in-Err.ensures.agreed

pub returns-in-Err-clause-stands : goal.returns-in-Err-clause-stands
returns-in-Err-clause-stands g c = let it = c.release.ensures.stands in let s = it.stands in record { stands = record { wanted = s.wanted; serial = s.serial; disks = s.disks; rvg = s.rvg; few = s.few; small = s.small; large = s.large; on = s.on; some = s.some; kept = s.kept; tidy = s.tidy; trusts = s.trusts }; held = it.held }

pub returns-clause-trust : goal.returns-clause-trust
returns-clause-trust g c = ok_from c.write_in-result.result (λ keeps is. ap (λ (i : Inner). i.committed) (new_wide c.args.core.now c.release.new.core (record { inner = c.write_in-result.new.core; held = c.open_held-held.new.core.held }) c.close_held.new.core c.open_held-held.new.core.inner (g.S.Shelf.meaning c.args.shelf.now) (g.S.Shelf.meaning c.release.new.shelf) (g.S.Shelf.meaning c.write_in-result.new.shelf) c.requires.stands c.release.ensures.stands c.release.ensures.narrows c.release.ensures.volumes c.open_held-held.result c.open_held-held.ensures.held c.open_held-held.ensures.inner c.open_held-held.ensures.none c.close_held.ensures) ∙ keeps (ap (λ (i : Inner). i.committed) c.open_held-held.ensures.inner ∙ c.in-Ok.ensures.trust is)) c.write_in-result.ensures.trust

pub returns-clause-agreed : goal.returns-clause-agreed
returns-clause-agreed g c = err_from c.write_in-result.result (λ keeps is. ap (λ (i : Inner). i.agreed) (new_wide c.args.core.now c.release.new.core (record { inner = c.write_in-result.new.core; held = c.open_held-held.new.core.held }) c.close_held.new.core c.open_held-held.new.core.inner (g.S.Shelf.meaning c.args.shelf.now) (g.S.Shelf.meaning c.release.new.shelf) (g.S.Shelf.meaning c.write_in-result.new.shelf) c.requires.stands c.release.ensures.stands c.release.ensures.narrows c.release.ensures.volumes c.open_held-held.result c.open_held-held.ensures.held c.open_held-held.ensures.inner c.open_held-held.ensures.none c.close_held.ensures) ∙ keeps (ap (λ (i : Inner). i.committed) c.open_held-held.ensures.inner ∙ c.in-Ok.ensures.trust is)) c.write_in-result.ensures.agreed
