-- `put_plexes`: its result; what stays true in its loop over `plex`.
use Rattle.std.proofs.Common.{length, ap, ◌∙◌}
use Rattle.vx_wire.specs.Numbers.{be_bytes}
use Rattle.vx_config.specs.Table.{plex}
use Rattle.vx_config.specs.Pages.{onto}
use Rattle.vx_config.specs.declared.entry.PlexEntry.{PlexEntry}
use Rattle.vx_config.proofs.PageLemmas.{many-first, many-more, many-all}
use Rattle.vx_config.proofs.spelling.put_plexes.Goals as goal

pub loop-plex-init : goal.loop-plex-init
loop-plex-init c = many-first plex c.args.page.now c.u8.new.self (be_bytes 1 (length c.args.plexes.now)) c.args.plexes.now c.u8.ensures

pub loop-plex-preserved : goal.loop-plex-preserved
loop-plex-preserved c = many-more plex c.args.page.now c.loop-plex.page c.put_plex.new.page (be_bytes 1 (length c.args.plexes.now)) c.args.plexes.now c.loop-plex.plex-index _ c.loop-plex-test.true c.loop-plex.invariant (c.put_plex.ensures ∙ ap (λ (x : PlexEntry). onto c.loop-plex.page (plex.spell x)) c.plex-item.is)

pub returns : goal.returns
returns c = many-all plex c.args.page.now c.loop-plex.page (be_bytes 1 (length c.args.plexes.now)) c.args.plexes.now c.loop-plex.plex-index c.loop-plex-test.false c.loop-plex.invariant
