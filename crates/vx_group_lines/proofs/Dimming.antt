-- What an import that was refused leaves of the note of a site: nothing, or that it is not known any more what its disks hold.
use Rattle.std.proofs.Common.{◌≡◌, ◌∙◌, ◌⊎◌, inl, inr, ℕ, Bool, true, false, List, [], ◌∷◌, arith, refl, subst, sym}
use Rattle.std.specs.Prelude.{Contains}
use Rattle.vx_model.specs.declared.no.No.{No}
use Rattle.vx_model.specs.declared.no.No.TheVariants.{NoConfig}
use Rattle.vx_history.specs.Groups.{GroupNode}
use Rattle.vx_grouped.specs.GroupNotes.{note_dimmed}
use Rattle.vx_events.specs.Fails.{Fails}
use Rattle.vx_events.specs.GroupEnds.{FoundNo, KnowsNothing, NotFound, NotFoundLeaves}
use Rattle.vx_events.specs.GroupNotes.{NotesRefused, NotesShort}

-- the note behind an import of disks that may disagree, or not, which was refused behind its first write, or before
abbrev pub dimmed_by : (late dims : Bool) → GroupNode → GroupNode
dimmed_by late dims note = note_dimmed late (note_dimmed dims note)

pub notes_refused : (late dims : Bool) (note : GroupNode) → NotesRefused note (dimmed_by late dims note)
notes_refused true dims note = inr refl
notes_refused false true note = inr refl
notes_refused false false note = inl refl

-- what want of memory leaves of it
pub notes_short : (dims : Bool) (note : GroupNode) → (dims ≡ true → note.loose ≡ true) → NotesShort note (dimmed_by false dims note)
notes_short true note loose = inr (loose refl, refl)
notes_short false note loose = inl refl

-- Where an import finds what no disk that tells its contents could have, nothing was known of them.
pub knows_none : (told : Type 0) (dims : Bool) (note : GroupNode) → (dims ≡ true → note.loose ≡ true) → (told → (dimmed_by false dims note).dark ≡ false → ⊥) → KnowsNothing told note
knows_none told true note loose never = inr (inl (loose refl))
knows_none told false note loose never = by note.dark refl
  where
    by : (b : Bool) → note.dark ≡ b → KnowsNothing told note
    by true is = inr (inr is)
    by false is = inl (λ yes_. never yes_ is)

-- what a group that came up notes of it
pub dark_moves : (dims : Bool) (note next : GroupNode) → (dims ≡ true → note.loose ≡ true) → next.dark ≡ (note_dimmed dims note).dark → (next.dark ≡ note.dark) ⊎ ((next.dark ≡ true) × (note.loose ≡ true))
dark_moves true note next loose is = inr (is, loose refl)
dark_moves false note next loose is = inl is

-- why none was found before the first write, and what is left of the note
abbrev pub KnownBy : (told : Type 0) (late dims : Bool) (s : ℕ) → GroupNode → Fails → No → Type 0
KnownBy told late dims s note fails why = (NotFound s note fails why × NotFoundLeaves why note (dimmed_by late dims note)) ⊎ (KnowsNothing told note × FoundNo s fails why)

pub early_known : (told : Type 0) (dims : Bool) (s : ℕ) (note : GroupNode) (fails : Fails) (why : No) → (dims ≡ true → note.loose ≡ true) → NotFound s note fails why → FoundNo s fails why → ((k : GroupNode) → NotFoundLeaves why k k)
    → KnownBy told false dims s note fails why
early_known told true s note fails why loose none other same = inr (inr (inl (loose refl)), other)
early_known told false s note fails why loose none other same = inl (none, same note)

-- None has a configuration: then a call on a disk failed, unless it is not known what they hold, or a configuration was begun.
pub none_found : (told told_new : Type 0) (dims : Bool) (s : ℕ) (note : GroupNode) (fails : Fails) → (dims ≡ true → note.loose ≡ true) → (told → (dimmed_by false dims note).dark ≡ false → told_new)
    → (told_new × (note.loose ≡ false) × (note.begun ≡ []) → fails ≡ [] → ⊥) → NotFound s note fails NoConfig ⊎ KnowsNothing told note
none_found told told_new dims s note fails loose tells never = by_loose note.loose refl
  where
    by_fails : note.loose ≡ false → note.begun ≡ [] → (l : Fails) → fails ≡ l → NotFound s note fails NoConfig ⊎ KnowsNothing told note
    by_fails tight none [] is = inr (knows_none told dims note loose (λ yes_ bright. never (tells yes_ bright, tight, none) is))
    by_fails tight none (x ∷ xs) is = inl (λ no_try no_fails. let clash : x ∷ xs ≡ [] = sym is ∙ no_fails in cc)

    by_begun : note.loose ≡ false → (l : List (List ℕ)) → note.begun ≡ l → NotFound s note fails NoConfig ⊎ KnowsNothing told note
    by_begun tight [] is = by_fails tight is fails refl
    by_begun tight (x ∷ xs) is = inl (λ no_try no_fails. let clash : x ∷ xs ≡ [] = sym is ∙ no_try in cc)

    by_loose : (b : Bool) → note.loose ≡ b → NotFound s note fails NoConfig ⊎ KnowsNothing told note
    by_loose true is = inr (inr (inl is))
    by_loose false is = by_begun is note.begun refl

-- no call is in a list that is empty
pub no_call : (fails : Fails) (x : ℕ × ℕ) → fails ≡ [] → Contains fails x → ⊥
no_call fails x none has = by (subst (λ (l : Fails). Contains l x) none has)
  where
    by : Contains [] x → ⊥
    by (k, low, is) = omega (arith, low)
