-- The loop of `put_plexes` over `plex`: what stays true.
use Rattle.std.proofs.Common.{◌≡◌, ◌++◌, length, take}
use Rattle.std.specs.Prelude.{flat_map}
use Rattle.vx_wire.specs.Numbers.{be_bytes}
use Rattle.vx_config.specs.Pages.{onto}
use Rattle.vx_config.specs.Table.{plex}
use Rattle.vx_config.proofs.spelling.put_plexes.Given as goal

abbrev pub invariant-loop-plex : goal.invariant-loop-plex
invariant-loop-plex l = l.page ≡ onto l.fn.page (be_bytes 1 (length l.plexes) ++ flat_map plex.spell (take l.plex-index l.plexes))
