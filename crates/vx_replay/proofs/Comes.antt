-- What each message of a replay leaves of the site that receives.
use Rattle.std.proofs.Common.{◌≡◌, ◌∙◌, ℕ, ◌≤◌, ◌<◌, Bool, true, false, refl, sym, ap}
use Rattle.std.specs.Prelude.{◌&&◌, eqb, leb, ltb, if◌then◌else◌}
use Rattle.std.proofs.lemmas.Bool.{and_parts, eqb-true, leb-true, ltb-true}
use Rattle.vx_history.specs.declared.receiver.RState.{RState}
use Rattle.vx_history.proofs.Updates.{by_test as choose}
use Rattle.vx_model.specs.Sites.{same_line}
use Rattle.vx_model.specs.declared.history.Line.{Line}
use Rattle.vx_model.specs.declared.site.Mark.{Mark}
use Rattle.vx_model.specs.declared.site.Mark.TheVariants.{Consistent, Inconsistent}
use Rattle.vx_model.specs.declared.site.SPhase.{SPhase}
use Rattle.vx_model.specs.declared.site.SPhase.TheVariants.{Quiet, Regions, Log, ForkKept}
use Rattle.vx_replay.specs.Secondary.{AtReceiver, as_it_was, begins, begun, closed, copies, done_came, fills, id_of, phase_copies, region_came, secondary_step, start_came}
use Rattle.vx_replay.specs.declared.event.QEvent.{QEvent}
use Rattle.vx_replay.specs.declared.event.QEvent.TheVariants.{Start, Region, Done}
use Rattle.vx_replay.specs.declared.event.QAction.{QAction}
use Rattle.vx_replay.specs.declared.event.QAction.TheVariants.{Ignored, Again, Begin, Store, Close}

abbrev is_consistent : Mark → Bool
is_consistent Consistent = true
is_consistent Inconsistent = false

abbrev is_begin : QAction → Bool
is_begin Ignored = false
is_begin Again = false
is_begin Begin = true
is_begin Store = false
is_begin Close = false

abbrev is_store : QAction → Bool
is_store Ignored = false
is_store Again = false
is_store Begin = false
is_store Store = true
is_store Close = false

abbrev is_ignored : QAction → Bool
is_ignored Ignored = true
is_ignored Again = false
is_ignored Begin = false
is_ignored Store = false
is_ignored Close = false

no : false ≡ true → ⊥
no clash = cc

unmarked : Inconsistent ≡ Consistent → ⊥
unmarked h = no (ap is_consistent h)

copies_phase : (phase : SPhase) → phase_copies phase ≡ true → phase ≡ Regions
copies_phase Quiet h = absurd (no h)
copies_phase Regions h = refl
copies_phase Log h = absurd (no h)
copies_phase ForkKept h = absurd (no h)

-- what holds of a receiver behind any message of the replay with this id
record Comes (s : RState) (id : ℕ) (r : AtReceiver) : Type 0 where
  pub becomes : s.mark ≡ Inconsistent → r.state.mark ≡ Consistent → (r.state.phase ≡ Log) × (r.state.end ≤ r.state.last)
  pub began : r.action ≡ Begin → (s.replay < id) × (r.state.replay ≡ id) × (r.state.mark ≡ Inconsistent) × (r.state.phase ≡ Regions)
  pub stored : r.action ≡ Store → (s.phase ≡ Regions) × (s.replay ≡ id) × (r.state ≡ s)
  pub ignored : r.action ≡ Ignored → r.state ≡ s

alone : (s : RState) (id : ℕ) (a : QAction) → is_begin a ≡ false → is_store a ≡ false → Comes s id (as_it_was s a)
alone s id a not other = record {
  becomes = λ was is. absurd (unmarked (sym was ∙ is));
  began = λ h. absurd (no (sym not ∙ ap is_begin h));
  stored = λ h. absurd (no (sym other ∙ ap is_store h));
  ignored = λ h. refl;
}

start_comes : (s : RState) (line : Line) (id start : ℕ) → Comes s id (start_came s line id start)
start_comes s line id start =
    choose (λ (r : AtReceiver). Comes s id r) (begins s line id start) (record { state = begun s id; action = Begin }) (as_it_was s (if copies s line id then Again else Ignored))
    (λ all. record {
      becomes = λ was is. absurd (unmarked is);
      began = λ h. (ltb-true s.replay id (and_parts (ltb s.replay id) (leb s.last start) (and_parts (same_line line s.line) (ltb s.replay id && leb s.last start) all).1).0, refl, refl, refl);
      stored = λ h. absurd (no (ap is_store h));
      ignored = λ h. absurd (no (ap is_ignored h));
    })
    (λ _. choose (λ (a : QAction). Comes s id (as_it_was s a)) (copies s line id) Again Ignored (λ _. alone s id Again refl refl) (λ _. alone s id Ignored refl refl))

region_comes : (s : RState) (line : Line) (id : ℕ) → Comes s id (region_came s line id)
region_comes s line id =
    choose (λ (a : QAction). Comes s id (as_it_was s a)) (copies s line id) Store Ignored
    (λ all.
    let own = and_parts (eqb id s.replay) (phase_copies s.phase) (and_parts (same_line line s.line) (eqb id s.replay && phase_copies s.phase) all).1 in
    record {
      becomes = λ was is. absurd (unmarked (sym was ∙ is));
      began = λ h. absurd (no (ap is_begin h));
      stored = λ h. (copies_phase s.phase own.1, sym (eqb-true id s.replay own.0), refl);
      ignored = λ h. refl;
    })
    (λ _. alone s id Ignored refl refl)

-- it is consistent behind the last region where the end is not above the start
at_end : (s : RState) (start end : ℕ) (b : Bool) → leb end start ≡ b → s.mark ≡ Inconsistent → (if b then Consistent else s.mark) ≡ Consistent → end ≤ start
at_end s start end true is was h = leb-true end start is
at_end s start end false is was h = absurd (unmarked (sym was ∙ h))

done_comes : (s : RState) (line : Line) (id start end : ℕ) → Comes s id (done_came s line id start end)
done_comes s line id start end =
    choose (λ (r : AtReceiver). Comes s id r) (copies s line id) (record { state = closed s start end; action = Close }) (as_it_was s (if fills s line id then Again else Ignored))
    (λ _. record {
      becomes = λ was is. (refl, at_end s start end (leb end start) refl was is);
      began = λ h. absurd (no (ap is_begin h));
      stored = λ h. absurd (no (ap is_store h));
      ignored = λ h. absurd (no (ap is_ignored h));
    })
    (λ _. choose (λ (a : QAction). Comes s id (as_it_was s a)) (fills s line id) Again Ignored (λ _. alone s id Again refl refl) (λ _. alone s id Ignored refl refl))

comes : (s : RState) (e : QEvent) → Comes s (id_of e) (secondary_step s e)
comes s (Start line id start) = start_comes s line id start
comes s (Region line id) = region_comes s line id
comes s (Done line id start end) = done_comes s line id start end

pub becomes-consistent : (s : RState) (e : QEvent) → s.mark ≡ Inconsistent → (secondary_step s e).state.mark ≡ Consistent
    → ((secondary_step s e).state.phase ≡ Log) × ((secondary_step s e).state.end ≤ (secondary_step s e).state.last)
becomes-consistent s e was is = (comes s e).becomes was is

pub begins-later : (s : RState) (e : QEvent) → (secondary_step s e).action ≡ Begin
    → (s.replay < id_of e) × ((secondary_step s e).state.replay ≡ id_of e) × ((secondary_step s e).state.mark ≡ Inconsistent) × ((secondary_step s e).state.phase ≡ Regions)
begins-later s e h = (comes s e).began h

pub stores-its-own : (s : RState) (e : QEvent) → (secondary_step s e).action ≡ Store → (s.phase ≡ Regions) × (s.replay ≡ id_of e) × ((secondary_step s e).state ≡ s)
stores-its-own s e h = (comes s e).stored h

pub ignored-keeps : (s : RState) (e : QEvent) → (secondary_step s e).action ≡ Ignored → (secondary_step s e).state ≡ s
ignored-keeps s e h = (comes s e).ignored h
