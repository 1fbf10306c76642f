-- The replicated volume group that a note names, behind calls that change its configuration otherwise.
use Rattle.std.proofs.Common.{◌≡◌, ◌∙◌, ℕ, ap, sym, inl, inr}
use Rattle.std.specs.Prelude.{Option}
use Rattle.vx_disk.specs.Shelf.{Meaning}
use Rattle.vx_config.specs.declared.config.Config.{Config}
use Rattle.vx_history.specs.Groups.{GroupNode}
use Rattle.vx_grouped.specs.ConfigMoves.{AttCuts, CleansPlexes, DetCuts}
use Rattle.vx_grouped.specs.GroupNotes.{NotesConfig}
use Rattle.vx_events.specs.RvgFits.{config_rvg, rvg_noted}
use Rattle.vx_above.proofs.Changing.{notes_config}

-- two notes name the same where their configurations do
pub rvg_goes : (note next : GroupNode) (was now : Config) → NotesConfig note was → NotesConfig next now → now.rvg ≡ was.rvg → rvg_noted next ≡ rvg_noted note
rvg_goes note next was now noted noted_now same =
    ap (λ (o : Option Config). config_rvg o) (notes_config next now noted_now) ∙ same ∙ sym (ap (λ (o : Option Config). config_rvg o) (notes_config note was noted))

pub det_rvg : (v p : ℕ) (o e : Meaning) (was now : Config) → DetCuts v p o e was now → now.rvg ≡ was.rvg
det_rvg v p o e was now (inl moves) = moves.parts.rvg
det_rvg v p o e was now (inr it) = it.moves.parts.rvg

pub att_rvg : (v p : ℕ) (o e : Meaning) (was now : Config) → AttCuts v p o e was now → now.rvg ≡ was.rvg
att_rvg v p o e was now (inl moves) = moves.parts.rvg
att_rvg v p o e was now (inr it) = it.moves.parts.rvg

pub cleans_rvg : (o e : Meaning) (was now : Config) → CleansPlexes o e was now → now.rvg ≡ was.rvg
cleans_rvg o e was now (inl moves) = moves.parts.rvg
cleans_rvg o e was now (inr (any, moves)) = moves.parts.rvg
