-- What stands in the places of a header's fields, whether or not the block is a header.
use Rattle.std.specs.Prelude.{ℕ, zero, suc, ◌+◌, min, List, [], ◌∷◌}
use Rattle.vx_model.specs.declared.history.Line.{Line}
use Rattle.vx_model.specs.declared.state.KeptLink.{KeptLink}
use Rattle.vx_model.specs.declared.state.State.{State}
use Rattle.vx_wire.specs.Numbers.{number_at}
use Rattle.vx_srlfmt.specs.Codes.{role_of, mark_of, phase_of, mode_of, sync_of, prot_of, attached_of, bunker_of}
use Rattle.vx_srlfmt.specs.declared.header.Header.{Header}

abbrev pub line_at : ℕ → List ℕ → Line
line_at at block = record { generation = number_at 8 at block; origin = number_at 4 (at + 8) block }

abbrev pub link_at : ℕ → List ℕ → KeptLink
link_at at block = record {
  site = number_at 4 at block;
  attached = attached_of (number_at 1 (at + 4) block);
  bunker = bunker_of (number_at 1 (at + 4) block);
  mode = mode_of (number_at 1 (at + 5) block);
  sync = sync_of (number_at 1 (at + 6) block);
  prot = prot_of (number_at 1 (at + 7) block);
  stored = number_at 8 (at + 8) block;
  start = number_at 8 (at + 16) block;
}

-- so many links from a place on
unfoldable pub links_at : ℕ → ℕ → List ℕ → List KeptLink
links_at zero at block = []
links_at (suc n) at block = link_at at block ∷ links_at n (at + 24) block

unfoldable pub state_in : List ℕ → State
state_in block = record {
  line = line_at 16 block;
  top = number_at 8 28 block;
  role = role_of (number_at 1 80 block) (number_at 4 99 block);
  mark = mark_of (number_at 1 81 block);
  phase = phase_of (number_at 1 82 block);
  replay = number_at 8 83 block;
  end = number_at 8 91 block;
  other = number_at 4 99 block;
  parent = line_at 103 block;
  fork = number_at 8 115 block;
  links = links_at (min (number_at 1 123 block) 4) 124 block;
}

unfoldable pub header_in : List ℕ → Header
header_in block = record {
  stamp = number_at 8 8 block;
  state = state_in block;
  incarnation = number_at 8 36 block;
  floor = number_at 8 44 block;
  run = number_at 8 52 block;
  low = number_at 8 60 block;
  place = number_at 4 68 block;
  applied = number_at 8 72 block;
}
