-- What a line that makes a replicated volume group leaves of the note of its site.
use Rattle.std.proofs.Common.{◌≡◌, ◌∙◌, ◌≤◌, inl, inr, ℕ, Bool, true, false, List, ◌∷◌, length, ap, sym, refl}
use Rattle.std.specs.Prelude.{◌==◌, ◌||◌, Contains}
use Rattle.std.proofs.lemmas.Bool.{eqb-true}
use Rattle.vx_model.specs.declared.units.Units.{Units}
use Rattle.vx_disk.specs.Shelf.{Meaning}
use Rattle.vx_config.specs.declared.config.Config.{Config}
use Rattle.vx_history.specs.Groups.{BlockMay, GroupNode}
use Rattle.vx_grouped.proofs.ImageLemmas.{contains_next}
use Rattle.vx_grouped.specs.ConfigMoves.{LosesSome, none_again}
use Rattle.vx_grouped.specs.GroupNotes.{NotesConfig}
use Rattle.vx_diskset.specs.Makings.{NarrowsNote, note_begun}
use Rattle.vx_events.specs.Fails.{Fails}
use Rattle.vx_events.specs.GroupConfigs.{ConfigLoses}
use Rattle.vx_events.specs.RvgNotes.{HasOneValue, NotesLacking, NotesNarrowed, NotesNoRvg, NotesRvg, as_replicated, note_gained}
use Rattle.vx_events.specs.RvgWorks.{NotesWork, WorksAs}
use Rattle.vx_above.proofs.Changing.{moves_to, reconfigures}
use Rattle.vx_above.proofs.Losing.{Names}
use Rattle.vx_above.proofs.Quiet.{works_note}

-- ---- the volumes, written as they read

not_same : (a b : ℕ) → (a ≡ b → ⊥) → (a == b) ≡ false
not_same a b apart = by (a == b) refl
  where
    by : (t : Bool) → (a == b) ≡ t → (a == b) ≡ false
    by true is = absurd (apart (eqb-true a b is))
    by false is = is

-- where nothing more is noted of the volume of a log, as much is noted of the others
others_may : (units : Units) (middle : GroupNode) (v b : ℕ) (x : List ℕ) → (v ≡ units.srl → ⊥) → BlockMay (note_begun units middle) v b x → BlockMay middle v b x
others_may units middle v b x apart (inl inside) = inl (sym (ap (λ (t : Bool). t || middle.inside v) (not_same v units.srl apart)) ∙ inside)
others_may units middle v b x apart (inr known) = inr known

module _ (told : Type 0) (units : Units) (note middle : GroupNode) (it : NarrowsNote (note.dark ≡ false) units note middle) where
  not_inside : (v : ℕ) → (Contains (units.srl ∷ (units.maps ∷ units.vols)) v → ⊥) → Contains units.vols v → ⊥
  not_inside v apart has = apart (contains_next v units.srl (units.maps ∷ units.vols) (contains_next v units.maps units.vols has))

  inside_same : middle.inside ≡ note.inside
  inside_same = ap (λ (k : GroupNode). k.inside) it.same

  pub narrowed : NotesNarrowed told units note middle
  narrowed = record {
    size = it.size;
    may = λ known v b x has within left. it.may known.1 v b x has within left;
    others = λ v b apart. it.others v b (not_inside v apart);
    inside = λ v apart. ap (λ (f : ℕ → Bool). f v) inside_same;
    same = it.same
        ∙ ap (λ (f : ℕ → Bool). let k : GroupNode = record note { bytes = middle.bytes; others = middle.others; maps = middle.maps; inside = f } in k) (sym inside_same);
  }

  -- and of the volume of the log nothing is noted any more
  pub narrowed_begun : ((v : ℕ) → Contains units.vols v → v ≡ units.srl → ⊥) → NotesNarrowed told units note (note_begun units middle)
  narrowed_begun aside = record {
    size = it.size;
    may = λ known v b x has within left. it.may known.1 v b x has within (others_may units middle v b x (aside v has) left);
    others = λ v b apart. it.others v b (not_inside v apart);
    inside = λ v apart. ap (λ (t : Bool). t || middle.inside v) (not_same v units.srl apart) ∙ ap (λ (f : ℕ → Bool). f v) inside_same;
    same = ap (λ (k : GroupNode). let m : GroupNode = record k { inside = λ v. (v == units.srl) || middle.inside v } in m) it.same;
  }

module _ (s many : ℕ) (fails : Fails) (o e : Meaning) (names : Names s many fails o e) where
  module _ (told : Type 0) (units : Units) (note middle : GroupNode) (it : NarrowsNote (note.dark ≡ false) units note middle) (was now : Config) (noted : NotesConfig middle was) (enough : length was.disks ≤ many) where
    -- none was made
    module _ (next : GroupNode) (noted_now : NotesConfig next now) (change : LosesSome o e was now) where
      begun_works : (Off : Type 0) → WorksAs Off s fails (note_begun units middle) next → NotesWork Off s fails (note_begun units middle) next
      begun_works Off works = works_note s many fails o e names Off (note_begun units middle) next was now (record { is = noted.is; spells = noted.spells }) noted_now enough change works

      pub notes_none : ((v : ℕ) → Contains units.vols v → v ≡ units.srl → ⊥) → (Off : Type 0) → WorksAs Off s fails (note_begun units middle) next → NotesNoRvg told Off s fails units note next
      notes_none aside Off works = record { middle = note_begun units middle; narrowed = narrowed_begun told units note middle it aside; moves = begun_works Off works }

      pub notes_lacking : ((v : ℕ) → Contains units.vols v → v ≡ units.srl → ⊥) → WorksAs ⊥ s fails (note_begun units middle) next → NotesLacking told s fails units note next
      notes_lacking aside works = record { middle = note_begun units middle; narrowed = narrowed_begun told units note middle it aside; moves = begun_works ⊥ works }

    -- one was
    pub notes_rvg : (settled : GroupNode) → NotesConfig settled now → LosesSome o e (as_replicated units was) now → HasOneValue units middle → WorksAs ⊥ s fails middle settled
        → NotesRvg told s fails units note middle (note_gained units settled)
    notes_rvg settled noted_now change one works = record {
      narrowed = narrowed told units note middle it;
      one = one;
      settled = settled;
      moves = reconfigures s many fails o e middle settled names (λ c x. ConfigLoses s fails (as_replicated units c) x) (WorksAs ⊥ s fails) was now noted noted_now
          (moves_to s many fails o e middle settled names none_again (as_replicated units was) now enough change) works;
      is = refl;
    }
