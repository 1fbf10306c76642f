-- A line that is done in part.
use Rattle.std.proofs.Common.{◌≡◌, ◌∙◌, ◌⊎◌, inl, inr, ℕ, zero, suc, Bool, true, false, List, [], ◌∷◌, ◌++◌, ap, refl, sym, subst}
use Rattle.std.proofs.lemmas.Bool.{or_parts}
use Rattle.std.specs.Prelude.{◌||◌, take, drop}
use Rattle.vx_history.specs.Doubts.{Doubted}
use Rattle.vx_history.specs.declared.event.Event.{Event}
use Rattle.vx_script.specs.declared.line.ScriptLine.{ScriptLine}
use Rattle.vx_events.specs.Lists.{Choice}
use Rattle.vx_events.specs.Parts.{DonePart, FellFirst, MayStop, PartLeft, ReadFirst, StopsShort, StopsInPart, StopsDown, StopsRead, StopsBetween, all_events, raises_first, first_part, goes_in_parts, may_stop, part_left, reads_first}

-- any line may stop before its first event
stops_first : (parts : Bool) → MayStop parts []
stops_first true = tt
stops_first false = refl

pub none_done : (d : Doubted) (line : ScriptLine) → DonePart d line d
none_done d line =
    let c : Choice = record { kept = 0; reached = 0 } in
    record { choice = c; before = []; rest = all_events d.world line c; list = refl; stops = stops_first (goes_in_parts line); leads = refl }

-- of a line that does not go in parts nothing is done
pub whole_stays : (d : Doubted) (line : ScriptLine) (new : Doubted) → goes_in_parts line ≡ false → DonePart d line new → new ≡ d
whole_stays d line new whole part =
    let none : part.before ≡ [] = subst (λ (b : Bool). MayStop b part.before) whole part.stops in
    subst (λ (es : List Event). PartLeft line d es new) none part.leads

first_and_rest : (k : ℕ) (es : List Event) → es ≡ take k es ++ drop k es
first_and_rest zero es = refl
first_and_rest (suc k) [] = refl
first_and_rest (suc k) (e ∷ es) = ap (λ (t : List Event). e ∷ t) (first_and_rest k es)

is_left : (line : ScriptLine) (d : Doubted) (es : List Event) → PartLeft line d es (part_left line d es)
is_left line d [] = refl
is_left line d (e ∷ es) = record { world = refl; after = λ s. refl; strayed = refl }

pub part_stops : (d : Doubted) (line : ScriptLine) (c : Choice) (k : ℕ) → goes_in_parts line ≡ true → DonePart d line (first_part d line c k)
part_stops d line c k parts =
    let es : List Event = all_events d.world line c in
    record {
      choice = c;
      before = take k es;
      rest = drop k es;
      list = first_and_rest k es;
      stops = subst (λ (b : Bool). MayStop b (take k es)) (sym parts) tt;
      leads = is_left line d (take k es);
    }

never_both : true ≡ false → ⊥
never_both e = absurd (cc)

-- so it is over disks that tell no contents
pub whole_short : (told : Type 0) (d : Doubted) (line : ScriptLine) (new : Doubted) → may_stop d.world line ≡ false → StopsShort told d line new → new ≡ d
whole_short told d line new whole short =
    let first = or_parts (goes_in_parts line) (raises_first d.world line || reads_first d.world line) whole in
    let later = or_parts (raises_first d.world line) (reads_first d.world line) first.1 in
    by first.0 later.0 later.1 short
  where
    by : goes_in_parts line ≡ false → raises_first d.world line ≡ false → reads_first d.world line ≡ false → StopsShort told d line new → new ≡ d
    by parts raises reads (StopsInPart part) = whole_stays d line new parts part
    by parts raises reads (StopsDown fell) = absurd (never_both (sym fell.raises ∙ raises))
    by parts raises reads (StopsRead read) = absurd (never_both (sym read.reads ∙ reads))
    by parts raises reads (StopsBetween untold p s middle is moves left) = absurd (never_both (subst (λ (l : ScriptLine). goes_in_parts l ≡ false) is parts))

-- over disks that tell their contents, where the world has not strayed, it is a first part of the events, the crash before a recovery, or the reads of an import
pub told_part : (told : Type 0) (d : Doubted) (line : ScriptLine) (new : Doubted) → told → d.strayed ≡ false → StopsShort told d line new → DonePart d line new ⊎ FellFirst d line new ⊎ ReadFirst d line new
told_part told d line new tells calm (StopsInPart part) = inl part
told_part told d line new tells calm (StopsDown fell) = inr (inl fell)
told_part told d line new tells calm (StopsRead read) = inr (inr read)
told_part told d line new tells calm (StopsBetween untold p s middle is moves left) = absurd (untold tells calm)
