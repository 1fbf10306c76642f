-- What a status shows of a disk group, and what the tests see of it, by the configuration in memory.
use Rattle.std.proofs.Common.{◌≡◌, ◌∙◌, ℕ, List, [], map, ap}
use Rattle.std.specs.Prelude.{Option, Some, Ok}
use Rattle.vx_config.specs.Configs.{HasSpelling}
use Rattle.vx_config.specs.Forms.{Reading}
use Rattle.vx_config.specs.Table.{config}
use Rattle.vx_config.specs.declared.config.Config.{Config}
use Rattle.vx_kept.specs.Cleans.{at_serial}
use Rattle.vx_history.specs.Groups.{GroupNode}
use Rattle.vx_grouped.proofs.NotedLemmas.{noted_is}
use Rattle.vx_grouped.specs.GroupNotes.{noted_config}
use Rattle.vx_events.specs.GroupViews.{config_of, plain_fact, noted_table, read_front, volumes_of}

read_back : (c : Config) → HasSpelling (at_serial 0 c) → config.read (noted_config c) ≡ Ok (at_serial 0 c, [])
unfolding noted_config
read_back c has = noted_is (at_serial 0 c) has

-- the configuration that is noted is the one in memory, but for its serial
pub config_is : (note : List ℕ) (c : Config) → note ≡ noted_config c → HasSpelling (at_serial 0 c) → config_of note ≡ Some (at_serial 0 c)
config_is note c is has =
    ap (λ (bytes : List ℕ). config_of bytes) is ∙ ap (λ (r : Reading Config). read_front r) (read_back c has)

-- so the tests see its volumes
pub table_is : (note : GroupNode) (c : Config) → config_of note.config ≡ Some (at_serial 0 c) → noted_table note ≡ map plain_fact c.volumes
table_is note c is = ap (λ (o : Option Config). map plain_fact (volumes_of o)) is
