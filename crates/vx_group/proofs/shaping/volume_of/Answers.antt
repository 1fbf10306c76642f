-- `volume_of`: its result.
use Rattle.std.proofs.Common.{refl, ap, ◌∙◌}
use Rattle.std.specs.Prelude.{map}
use Rattle.vx_layout.specs.Made.{made_plex}
use Rattle.vx_maplog.specs.Logs.{used_or}
use Rattle.vx_group.proofs.ShapeLemmas.{drl_is, drl_lost, fmr_is, fmr_lost, logs_lost, logs_made}
use Rattle.vx_group.proofs.shaping.volume_of.Goals as goal

pub returns : goal.returns
returns c =
    let want = c.args.want.now in
    let drl = c.drl_of.ensures ∙ ap (drl_is want.drl) c.as_slice-logs.ensures in
    let fmr = c.fmr_of.ensures ∙ ap (fmr_is want.drl want.fmr) c.as_slice-logs.ensures in
    let logs = logs_made want.drl want.fmr c.args.found.now.logs c.drl_of.result c.fmr_of.result c.requires.logs drl fmr in
    record {
      made = record { blocks = refl; ncol = refl; width = refl; prefer = c.preferred.ensures; plexes = c.in_ok-plexes.ensures ∙ ap (map made_plex) c.deref.ensures.value; drl = logs.0; fmr = logs.1; logs = logs.2 };
      named = refl;
      lost = logs_lost _ (ap used_or drl ∙ drl_lost want.drl c.args.found.now.logs) (ap used_or fmr ∙ fmr_lost want.drl want.fmr c.args.found.now.logs);
    }
