-- How the configuration of a group goes from one note to the next, in the words of its lines.
use Rattle.std.proofs.Common.{◌≡◌, ◌∙◌, ◌⊎◌, ◌≤◌, ℕ, Bool, false, map, length, sym, refl, inl, inr}
use Rattle.std.specs.Prelude.{Some}
use Rattle.vx_model.specs.declared.site.PlexState.{PlexState}
use Rattle.vx_model.specs.declared.site.PlexState.TheVariants.{Active, Stale}
use Rattle.vx_disk.specs.Shelf.{Meaning}
use Rattle.vx_config.specs.Changes.{stated}
use Rattle.vx_config.specs.declared.config.Config.{Config}
use Rattle.vx_history.specs.Groups.{GroupNode}
use Rattle.vx_kept.specs.Cleans.{at_serial}
use Rattle.vx_volume.specs.Plexes.{uses}
use Rattle.vx_grouped.specs.ConfigMoves.{AttCuts, AttDone, AttFails, ConfigMoves, DetCuts, Restated, StateKeeps, StateMoves, none_again}
use Rattle.vx_grouped.specs.GroupNotes.{NotesConfig}
use Rattle.vx_events.specs.Fails.{Fails}
use Rattle.vx_events.specs.GroupConfigs.{ConfigKeeps, ConfigKeepsBut, ConfigLosesBut, PutsPlex, StateLoses, StateSame, lies_on_disk}
use Rattle.vx_events.specs.GroupNotes.{Reconfigures}
use Rattle.vx_events.specs.GroupViews.{config_of, noted_table, plain_fact}
use Rattle.vx_above.proofs.GroupStatus.{config_is, table_is}
use Rattle.vx_above.proofs.Losing.{Names, again_as, config_goes, facts_move, facts_stated, serial_goes, state_loses, uses_is}

-- the tests see the volumes that are noted
pub notes_table : (note : GroupNode) (c : Config) → NotesConfig note c → noted_table note ≡ map plain_fact c.volumes
notes_table note c it = table_is note c (config_is note.config c it.is it.spells)

pub notes_config : (note : GroupNode) (c : Config) → NotesConfig note c → config_of note.config ≡ Some (at_serial 0 c)
notes_config note c it = config_is note.config c it.is it.spells

-- a plex that may hold a configuration that was changed so, or not
abbrev pub PutsOr : (s : ℕ) (fails : Fails) (again : ℕ → Bool) (v p : ℕ) (state : PlexState) → Config → Config → Type 0
PutsOr s fails again v p state c d = (x : Config) × PutsPlex v p state c x × ConfigKeepsBut again s fails x d

module _ (s many : ℕ) (fails : Fails) (o e : Meaning) (note next : GroupNode) (names : Names s many fails o e) where
  -- disks failed
  pub moves_to : (again : ℕ → Bool) (was now : Config) → length was.disks ≤ many → ConfigMoves again (StateMoves o e) o e was now → ConfigLosesBut again s fails (at_serial 0 was) (at_serial 0 now)
  moves_to again was now enough moves =
      serial_goes (StateMoves o e) (StateLoses s fails) fails again s was now
      (config_goes (StateMoves o e) (StateLoses s fails) fails again s many o e was now (λ v p t it. state_loses s many fails o e names v p t it) names enough moves)

  -- and no plex changed its state
  pub keeps_to : (again : ℕ → Bool) (was now : Config) → length was.disks ≤ many → ConfigMoves again StateKeeps o e was now → ConfigKeepsBut again s fails (at_serial 0 was) (at_serial 0 now)
  keeps_to again was now enough moves = serial_goes StateKeeps StateSame fails again s was now (config_goes StateKeeps StateSame fails again s many o e was now (λ v p t it. it) names enough moves)

  pub moves_table : (again : ℕ → Bool) (was now : Config) → NotesConfig note was → NotesConfig next now → ConfigMoves again (StateMoves o e) o e was now → noted_table next ≡ noted_table note
  moves_table again was now noted noted_now moves =
      notes_table next now noted_now ∙ facts_move again (StateMoves o e) o e was now moves ∙ sym (notes_table note was noted)

  pub keeps_table : (again : ℕ → Bool) (was now : Config) → NotesConfig note was → NotesConfig next now → ConfigMoves again StateKeeps o e was now → noted_table next ≡ noted_table note
  keeps_table again was now noted noted_now moves = notes_table next now noted_now ∙ facts_move again StateKeeps o e was now moves ∙ sym (notes_table note was noted)

  -- and a plex was put into another state
  pub stated_to : (again : ℕ → Bool) (v p : ℕ) (state : PlexState) (was now : Config) → length was.disks ≤ many → Restated again v p state o e was now → PutsOr s fails again v p state (at_serial 0 was) (at_serial 0 now)
  stated_to again v p state was now enough it =
      (at_serial 0 (stated v p state it.whole was), record { whole = it.whole; is = refl }, keeps_to again (stated v p state it.whole was) now enough it.moves)

  pub stated_table : (again : ℕ → Bool) (v p : ℕ) (state : PlexState) (was now : Config) → NotesConfig note was → NotesConfig next now → Restated again v p state o e was now → noted_table next ≡ noted_table note
  stated_table again v p state was now noted noted_now it =
      notes_table next now noted_now ∙ facts_move again StateKeeps o e (stated v p state it.whole was) now it.moves ∙ facts_stated v p state it.whole was ∙ sym (notes_table note was noted)

  -- ---- by calls

  pub reconfigures : (Change : Config → Config → Type 0) (Keeps : GroupNode → GroupNode → Type 0) (was now : Config) → NotesConfig note was → NotesConfig next now → Change (at_serial 0 was) (at_serial 0 now) → Keeps note next
      → Reconfigures Change Keeps note next
  reconfigures Change Keeps was now noted noted_now change keeps = record {
    old = at_serial 0 was;
    now = at_serial 0 now;
    was = notes_config note was noted;
    is = notes_config next now noted_now;
    change = change;
    keeps = keeps;
  }

  -- a plex that was detached, or perhaps
  pub det_to : (v p : ℕ) (was now : Config) → length was.disks ≤ many → DetCuts v p o e was now → ConfigKeeps s fails (at_serial 0 was) (at_serial 0 now) ⊎ PutsOr s fails (λ k. false) v p Stale (at_serial 0 was) (at_serial 0 now)
  det_to v p was now enough (inl moves) = inl (keeps_to none_again was now enough moves)
  det_to v p was now enough (inr it) = inr (stated_to none_again v p Stale was now enough it)

  pub det_table : (v p : ℕ) (was now : Config) → NotesConfig note was → NotesConfig next now → DetCuts v p o e was now → noted_table next ≡ noted_table note
  det_table v p was now noted noted_now (inl moves) = keeps_table none_again was now noted noted_now moves
  det_table v p was now noted noted_now (inr it) = stated_table none_again v p Stale was now noted noted_now it

  -- and one that was attached
  uses_zero : (v p k : ℕ) (was : Config) → uses was v p k ≡ lies_on_disk (at_serial 0 was) v p k
  uses_zero v p k was = uses_is was v p k

  pub att_done : (v p : ℕ) (was now : Config) → length was.disks ≤ many → AttDone v p o e was now → PutsOr s fails (lies_on_disk (at_serial 0 was) v p) v p Active (at_serial 0 was) (at_serial 0 now)
  att_done v p was now enough it =
      let to = stated_to (uses was v p) v p Active was now enough it in
      (to.0, to.1, again_as StateSame (uses was v p) (lies_on_disk (at_serial 0 was) v p) s fails to.0 (at_serial 0 now) (λ k. uses_zero v p k was) to.2)

  pub att_kept : (v p : ℕ) (was now : Config) → length was.disks ≤ many → AttFails v p o e was now → ConfigKeepsBut (lies_on_disk (at_serial 0 was) v p) s fails (at_serial 0 was) (at_serial 0 now)
  att_kept v p was now enough moves =
      again_as StateSame (uses was v p) (lies_on_disk (at_serial 0 was) v p) s fails (at_serial 0 was) (at_serial 0 now) (λ k. uses_zero v p k was) (keeps_to (uses was v p) was now enough moves)

  pub att_to : (v p : ℕ) (was now : Config) → length was.disks ≤ many → AttCuts v p o e was now
      → ConfigKeepsBut (lies_on_disk (at_serial 0 was) v p) s fails (at_serial 0 was) (at_serial 0 now) ⊎ PutsOr s fails (lies_on_disk (at_serial 0 was) v p) v p Active (at_serial 0 was) (at_serial 0 now)
  att_to v p was now enough (inl moves) = inl (att_kept v p was now enough moves)
  att_to v p was now enough (inr it) = inr (att_done v p was now enough it)

  pub att_table : (v p : ℕ) (was now : Config) → NotesConfig note was → NotesConfig next now → AttCuts v p o e was now → noted_table next ≡ noted_table note
  att_table v p was now noted noted_now (inl moves) = keeps_table (uses was v p) was now noted noted_now moves
  att_table v p was now noted noted_now (inr it) = stated_table (uses was v p) v p Active was now noted noted_now it
