-- What the tests see of a group that came up below a replicated volume group which did not: the volumes that were noted.
use Rattle.std.proofs.Common.{◌≡◌, ◌∙◌, ◌⊎◌, ◌<◌, ℕ, zero, suc, false, List, [], ◌∷◌, length, map, sym, arith, ⊎_elim, IsTrue}
use Rattle.std.specs.Prelude.{slice_get}
use Rattle.vx_disk.specs.declared.shelf.Shelf.{Ghosts}
use Rattle.vx_config.specs.Changes.{Matched}
use Rattle.vx_history.specs.Groups.{GroupNode}
use Rattle.vx_history.specs.World.{Node}
use Rattle.vx_model.specs.declared.units.Units.{Units}
use Rattle.vx_grouped.specs.ConfigMoves.{AnyState, LosesSome, OpensMoves, StateMoves, VolumeMoves, none_again}
use Rattle.vx_grouped.specs.GroupSites.{laid_disks, site_disks}
use Rattle.vx_grouped.specs.SiteEnds.{ConfigGoes}
use Rattle.vx_grouped.specs.SiteReturns.{as_imported}
use Rattle.vx_grouped.specs.declared.group_site.GroupSite.{GroupSite}
use Rattle.vx_grouped.specs.declared.group_site.GroupSite.TheVariants.{Up}
use Rattle.vx_grouped.specs.declared.laid.Laid.{Laid}
use Rattle.vx_diskset.specs.Noted.{TidyNote}
use Rattle.vx_diskset.specs.OverRises.{CameGroup, note_ready}
use Rattle.vx_events.specs.GroupViews.{plain_fact}
use Rattle.vx_events.specs.RvgFits.{entries_noted}
use Rattle.vx_above.proofs.Changing.{notes_table}
use Rattle.vx_above.proofs.Losing.{fact_moves, facts_move, same_map}

-- two lists that are as long match wherever they do in the places of one
all_matched : {A : Type 0} (P : A → A → Type 0) (us vs : List A) → length us ≡ length vs → ((v : ℕ) → v < length us → Matched P (slice_get us v) (slice_get vs v)) → (v : ℕ) → Matched P (slice_get us v) (slice_get vs v)
all_matched P [] [] same each v = tt
all_matched P [] (y ∷ ys) same each v = absurd (omega (arith, same))
all_matched P (x ∷ xs) [] same each v = absurd (omega (arith, same))
all_matched P (x ∷ xs) (y ∷ ys) same each zero = each 0 (omega arith)
all_matched P (x ∷ xs) (y ∷ ys) same each (suc v) = all_matched P xs ys (omega (arith, same)) (λ k below. each (suc k) (omega (arith, below))) v

module _ {R : Type 0} {g : Ghosts R} (n : Node) (note : GroupNode) (old new : GroupSite R g) (laid : Laid R g) (group : CameGroup n note old laid) (told : IsTrue (laid_disks laid).tells) (units : Units) (tidy : TidyNote units note)
    (seen : (note.loose ≡ false) ⊎ (length group.config.now.volumes ≡ length group.config.was.volumes)) (worked : GroupNode) (goes : ConfigGoes (LosesSome (laid_disks laid) (site_disks new)) group.middle worked (Up laid) new) where
  -- the import found the volumes that were noted
  found_same : map plain_fact group.config.now.volumes ≡ map plain_fact group.config.was.volumes
  found_same = ⊎_elim
      (λ (tight : note.loose ≡ false).
      same_map plain_fact (VolumeMoves (OpensMoves (as_imported old) (laid_disks laid))) (fact_moves (OpensMoves (as_imported old) (laid_disks laid))) group.config.was.volumes group.config.now.volumes
      (group.config.opens told tight (tidy.tidy tight)))
      (λ (many_same : length group.config.now.volumes ≡ length group.config.was.volumes).
      same_map plain_fact (VolumeMoves AnyState) (fact_moves AnyState) group.config.was.volumes group.config.now.volumes
      (all_matched (VolumeMoves AnyState) group.config.was.volumes group.config.now.volumes (sym many_same) (λ v below. group.config.change.volumes told v below)))
      seen

  pub shown_same : map plain_fact (entries_noted worked) ≡ map plain_fact (entries_noted note)
  shown_same =
      notes_table worked goes.now goes.noted_now ∙ facts_move none_again (StateMoves (laid_disks laid) (site_disks new)) (laid_disks laid) (site_disks new) goes.was goes.now goes.change
      ∙ sym (notes_table group.middle goes.was goes.noted) ∙ notes_table group.middle group.config.now group.config.noted_now ∙ found_same
      ∙ sym (notes_table (note_ready old note) group.config.was group.config.noted)
