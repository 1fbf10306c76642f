-- What the tests of a line look at, as events change it.
use Rattle.std.specs.Prelude.{ℕ, false, ◌+◌, List, [], ◌∷◌, Some, None}
use Rattle.vx_effects.specs.Facts.{halted_group, last_group}
use Rattle.vx_model.specs.Sites.{first_line}
use Rattle.vx_model.specs.Sizes.{ring_of}
use Rattle.vx_model.specs.Sites.{no_line}
use Rattle.vx_model.specs.declared.site.SiteState.TheVariants.{Bare, Up}
use Rattle.vx_model.specs.declared.state.State.{State}
use Rattle.vx_model.specs.declared.site.Role.TheVariants.{Primary}
use Rattle.vx_model.specs.declared.site.Mark.TheVariants.{Consistent}
use Rattle.vx_order.specs.declared.facts.SiteFacts.{SiteFacts}
use Rattle.vx_order.specs.declared.facts.RvgFacts.{RvgFacts}
use Rattle.vx_order.specs.declared.facts.VolumeFacts.{VolumeFacts}
use Rattle.vx_order.specs.declared.facts.VolumeKind.TheVariants.{Data}

abbrev pub bare_facts : List ℕ → ℕ → ℕ → SiteFacts
bare_facts name disks blocks = record { name = name; state = Bare; disks = disks; blocks = blocks; grouped = false; volumes = []; rvg = None; links = [] }

-- volume k + 1 of a raw set: `d` and a digit
abbrev pub raw_volume_fact : ℕ → ℕ → VolumeFacts
raw_volume_fact k blocks = record { name = 100 ∷ (49 + k) ∷ []; blocks = blocks; kind = Data; plexes = 0 }

abbrev pub first_group : ℕ → ℕ → RvgFacts
first_group site blocks = record {
  role = Primary;
  line = first_line site;
  parent = no_line;
  mark = Consistent;
  low = 1;
  last = 0;
  ring = ring_of blocks;
  halted = None;
}

abbrev pub raw_facts : ℕ → List VolumeFacts → SiteFacts → SiteFacts
raw_facts site volumes f = record f { state = Up; volumes = volumes; rvg = Some (first_group site f.blocks) }

abbrev pub last_facts : ℕ → SiteFacts → SiteFacts
last_facts number f = record f { rvg = last_group number f.rvg }

abbrev pub halted_facts : ℕ → SiteFacts → SiteFacts
halted_facts disk f = record f { rvg = halted_group disk f.rvg }

-- the group of a site that came up with this state, up to this number, with this ring
abbrev pub up_group : State → ℕ → ℕ → RvgFacts
up_group state last ring = record {
  role = state.role;
  line = state.line;
  parent = state.parent;
  mark = state.mark;
  low = 1;
  last = last;
  ring = ring;
  halted = None;
}

abbrev pub up_facts : State → ℕ → ℕ → SiteFacts → SiteFacts
up_facts state last ring f = record f { state = Up; rvg = Some (up_group state last ring) }
