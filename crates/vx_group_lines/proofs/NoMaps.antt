-- Where nothing is noted of the regions that plexes of a group missed, nothing is said of them behind a call; and the serial that is noted is the last one.
use Rattle.std.proofs.Common.{◌≡◌, ◌<◌, ◌+◌, ℕ, true, false, arith, refl, subst, sym}
use Rattle.vx_model.specs.declared.limits.TheConstants.{COMMIT_MARGIN, MOST_NUMBER}
use Rattle.vx_config.specs.declared.config.Config.{Config}
use Rattle.vx_history.specs.Groups.{GroupNode, MissedNote}
use Rattle.vx_history.specs.Missing.{maps_none}
use Rattle.vx_events.specs.Fails.{Fails}
use Rattle.vx_events.specs.GroupEnds.{LacksSerials}
use Rattle.vx_events.specs.GroupMaps.{MapsCalled, MapsLost}

abbrev pub none_noted : MissedNote
none_noted = maps_none MOST_NUMBER

nothing : {A : Type 0} → false ≡ true → A
nothing clash = absurd (let e : false ≡ true = clash in cc)

none_stays : (s : ℕ) (fails : Fails) (c d : Config) → MapsCalled s fails c d none_noted none_noted
none_stays s fails c d = record {
  known = record { stays = λ v known. nothing known; begins = λ v known. nothing known; later = omega arith };
  written = record { missed = λ v p r known. nothing known; perhaps = λ v p r known. nothing known; doubt = λ v low. refl };
}

pub none_called : (s : ℕ) (fails : Fails) (c d : Config) (w : MissedNote) → w ≡ none_noted → MapsCalled s fails c d w none_noted
none_called s fails c d w is = subst (λ (x : MissedNote). MapsCalled s fails c d x none_noted) (sym is) (none_stays s fails c d)

pub none_lost : (c d : Config) (w : MissedNote) → MapsLost c d w none_noted
none_lost c d w = record { none = λ v. refl }

pub none_lacks : (note : GroupNode) → note.maps ≡ none_noted → LacksSerials note
none_lacks note is = subst (λ (w : MissedNote). MOST_NUMBER < w.serial + COMMIT_MARGIN) (sym is) (omega arith)
