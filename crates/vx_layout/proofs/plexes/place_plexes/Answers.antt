-- `place_plexes`: its result; what stays true in its loop over `plex`.
use Rattle.std.proofs.Common.{◌≡◌, Global, Vec, length, ◌∙◌, arith, refl}
use Rattle.std.proofs.lemmas.Result.{err_from_is_err_and}
use Rattle.vx_layout.specs.Steps.{Placed}
use Rattle.vx_layout.specs.declared.shape.Runs.{Runs}
use Rattle.vx_layout.proofs.PlexLemmas.{placing_end, placing_more, placing_err, placing_start, tail_of}
use Rattle.vx_layout.proofs.plexes.place_plexes.Goals as goal

pub loop-plex-init : goal.loop-plex-init
loop-plex-init c = placing_start c.args.want.now c.args.used.now c.args.disks.now c.args.found.now.items c.new-plexes.result.items c.requires.empty c.new-plexes.ensures.items

pub returns : goal.returns
returns c = placing_end c.args.want.now c.args.used.now c.args.disks.now c.loop-plex._plex c.loop-plex.found.items c.loop-plex.plexes.items (omega arith) c.loop-plex.invariant

pub returns-in_err-place_plex : goal.returns-in_err-place_plex
returns-in_err-place_plex c =
    let p = err_from_is_err_and c.from_residual.result c.from_residual.ensures.1 in
    rw (p.1, p.2) (placing_err {T = Vec Runs Global} (λ plexes. Placed c.args.want.now c.args.used.now c.args.disks.now c.place_plex.new.found.items plexes.items) c.args.want.now c.args.used.now c.args.disks.now c.loop-plex._plex c.loop-plex.found.items c.place_plex.new.found.items c.loop-plex.plexes.items _ _ c.loop-plex-test.true c.loop-plex.invariant refl c.in_err-place_plex.ensures)

pub loop-plex-preserved : goal.loop-plex-preserved
loop-plex-preserved c =
    let start : c.len-start.result ≡ length c.loop-plex.found.items = omega (arith, c.len-start.ensures, c.loop-plex.found.ok.0) in
    placing_more c.args.want.now c.args.used.now c.args.disks.now c.loop-plex._plex c.loop-plex.found.items c.place_plex.new.found.items c.of.result c.loop-plex.plexes.items c.push.new.self.items c.loop-plex.invariant c.in_ok-place_plex.ensures
    (c.of.ensures ∙ c.in_ok-runs.ensures.items ∙ tail_of c.deref.result.now c.place_plex.new.found.items c.len-start.result (length c.loop-plex.found.items) c.deref.ensures.value start) c.in_ok-push.ensures.items
