-- What each event of a replay leaves of the link at its sending end.
use Rattle.std.proofs.Common.{◌≡◌, ◌≢◌, ◌∙◌, ℕ, ◌-◌, ◌≤◌, Bool, true, false, refl, sym, ap, arith}
use Rattle.std.specs.Prelude.{◌&&◌, eqb, leb, if◌then◌else◌}
use Rattle.std.proofs.lemmas.Bool.{and_parts, eqb-true, leb-true}
use Rattle.vx_history.specs.KeptLinks.{kept_start}
use Rattle.vx_history.specs.Sending.{phase_logs, phase_overtaken}
use Rattle.vx_history.proofs.Updates.{by_test as choose}
use Rattle.vx_model.specs.declared.link.Link.{Link}
use Rattle.vx_model.specs.declared.link.Phase.{Phase}
use Rattle.vx_model.specs.declared.link.Phase.TheVariants.{Start, Regions, Done, Log as ByLogAgain}
use Rattle.vx_model.specs.declared.link.Mode.{Mode}
use Rattle.vx_model.specs.declared.link.Mode.TheVariants.{Log, Dcm, Replay, Fork, Stale}
use Rattle.vx_replay.specs.Primary.{AtPrimary, acked, as_it_was, at_start, can_begin, copying, done_heard, end_in, ends_at, filling, id_in, in_mode, mode_fallen, mode_read, mode_sends, phase_copies, phase_ends, phase_sends, primary_step, region_heard, start_heard, told_stored}
use Rattle.vx_replay.specs.declared.event.PEvent.{PEvent}
use Rattle.vx_replay.specs.declared.event.PEvent.TheVariants.{Begin, Ack, Read, Stored, Pump, Restart}
use Rattle.vx_replay.specs.declared.event.PAction.{PAction}
use Rattle.vx_replay.specs.declared.event.PAction.TheVariants.{Nothing, Ignored, SendStart, SendDone, Finished}

-- ---- modes and actions that differ

abbrev is_log : Mode → Bool
is_log Log = true
is_log Dcm = false
is_log (Replay id phase left start end) = false
is_log (Fork maps) = false
is_log Stale = false

abbrev is_finished : PAction → Bool
is_finished Nothing = false
is_finished Ignored = false
is_finished SendStart = false
is_finished SendDone = false
is_finished Finished = true

abbrev is_ignored : PAction → Bool
is_ignored Nothing = false
is_ignored Ignored = true
is_ignored SendStart = false
is_ignored SendDone = false
is_ignored Finished = false

no : false ≡ true → ⊥
no clash = cc

-- ---- what holds of a link behind any event

-- it is finished only where all up to its end is stored, and ignored means unchanged
record Follows (l : Link) (told : ℕ) (r : AtPrimary) : Type 0 where
  pub finished : r.action ≡ Finished → (r.link.mode ≡ Log) × (end_in l.mode ≤ told)
  pub only : l.mode ≢ Log → r.link.mode ≡ Log → r.action ≡ Finished
  pub ignored : r.action ≡ Ignored → r.link ≡ l

alone : (l : Link) (told : ℕ) (a : PAction) → is_finished a ≡ false → Follows l told (as_it_was l a)
alone l told a other = record {
  finished = λ h. absurd (no (sym other ∙ ap is_finished h));
  only = λ was h. absurd (was h);
  ignored = λ h. refl;
}

moved : (l : Link) (told : ℕ) (m : Mode) (a : PAction) → is_log m ≡ false → is_finished a ≡ false → is_ignored a ≡ false → Follows l told (in_mode l m a)
moved l told m a apart other heard = record {
  finished = λ h. absurd (no (sym other ∙ ap is_finished h));
  only = λ was h. absurd (no (sym apart ∙ ap is_log h));
  ignored = λ h. absurd (no (sym heard ∙ ap is_ignored h));
}

-- a mode that is made of the one before, and is the log only where that was
kept : (l : Link) (told : ℕ) (m : Mode) → (m ≡ Log → l.mode ≡ Log) → Follows l told (in_mode l m Nothing)
kept l told m back = record {
  finished = λ h. absurd (no (ap is_finished h));
  only = λ was h. absurd (was (back h));
  ignored = λ h. absurd (no (ap is_ignored h));
}

copying_no_log : (id left start end : ℕ) → is_log (copying id left start end) ≡ false
copying_no_log id left start end = choose (λ (m : Mode). is_log m ≡ false) (eqb left 0) (Replay id Done left start end) (Replay id Regions left start end) (λ _. refl) (λ _. refl)

start_follows : (l : Link) (told id : ℕ) (mode : Mode) → Follows l told (start_heard l id mode)
start_follows l told id Log = alone l told Ignored refl
start_follows l told id Dcm = alone l told Ignored refl
start_follows l told id (Replay of phase left start end) =
    choose (λ (r : AtPrimary). Follows l told r) (eqb id of && phase_overtaken phase) (in_mode l (copying of left start end) Nothing) (as_it_was l Ignored)
    (λ _. moved l told (copying of left start end) Nothing (copying_no_log of left start end) refl refl) (λ _. alone l told Ignored refl)
start_follows l told id (Fork maps) = alone l told Ignored refl
start_follows l told id Stale = alone l told Ignored refl

region_follows : (l : Link) (told id : ℕ) (marked : Bool) (mode : Mode) → Follows l told (region_heard l id marked mode)
region_follows l told id marked Log = alone l told Ignored refl
region_follows l told id marked Dcm = alone l told Ignored refl
region_follows l told id marked (Replay of phase left start end) =
    choose (λ (r : AtPrimary). Follows l told r) (eqb id of && (phase_copies phase && marked)) (in_mode l (copying of (left - 1) start end) Nothing) (as_it_was l Ignored)
    (λ _. moved l told (copying of (left - 1) start end) Nothing (copying_no_log of (left - 1) start end) refl refl) (λ _. alone l told Ignored refl)
region_follows l told id marked (Fork maps) = alone l told Ignored refl
region_follows l told id marked Stale = alone l told Ignored refl

filling_follows : (l : Link) (id left start end : ℕ) → l.mode ≡ Replay id Done left start end → Follows l start (filling l id left start end)
filling_follows l id left start end is =
    choose (λ (r : AtPrimary). Follows l start r) (leb end start) (record { link = at_start l start Log; action = Finished }) (record { link = at_start l start (Replay id ByLogAgain left start end); action = Nothing })
    (λ all. record {
      finished = λ h. (refl, (let e : end_in l.mode ≡ end = ap end_in is in let le = leb-true end start all in omega (arith, e, le)));
      only = λ was h. refl;
      ignored = λ h. absurd (no (ap is_ignored h));
    })
    (λ _. record {
      finished = λ h. absurd (no (ap is_finished h));
      only = λ was h. absurd (no (ap is_log h));
      ignored = λ h. absurd (no (ap is_ignored h));
    })

ends_phase : (phase : Phase) → phase_ends phase ≡ true → phase ≡ Done
ends_phase Start is = absurd (no is)
ends_phase Regions is = absurd (no is)
ends_phase Done is = refl
ends_phase ByLogAgain is = absurd (no is)

done_follows : (l : Link) (id : ℕ) (mode : Mode) → l.mode ≡ mode → Follows l (kept_start mode) (done_heard l id mode)
done_follows l id Log is = alone l 0 Ignored refl
done_follows l id Dcm is = alone l 0 Ignored refl
done_follows l id (Replay of phase left start end) is =
    choose (λ (r : AtPrimary). Follows l start r) (eqb id of && phase_ends phase) (filling l of left start end) (as_it_was l Ignored)
    (λ both. filling_follows l of left start end (is ∙ ap (λ (p : Phase). Replay of p left start end) (ends_phase phase (and_parts (eqb id of) (phase_ends phase) both).1)))
    (λ _. alone l start Ignored refl)
done_follows l id (Fork maps) is = alone l 0 Ignored refl
done_follows l id Stale is = alone l 0 Ignored refl

abbrev third : Link → (id kind : ℕ) → AtPrimary
third l id kind = if eqb kind 2 then done_heard l id l.mode else as_it_was l Ignored

abbrev second : Link → (id kind : ℕ) → (marked : Bool) → AtPrimary
second l id kind marked = if eqb kind 1 then region_heard l id marked l.mode else third l id kind

acked_follows : (l : Link) (id kind : ℕ) (marked : Bool) → Follows l (kept_start l.mode) (acked l id kind marked)
acked_follows l id kind marked =
    choose (λ (r : AtPrimary). Follows l (kept_start l.mode) r) (eqb kind 0) (start_heard l id l.mode) (second l id kind marked)
    (λ _. start_follows l (kept_start l.mode) id l.mode)
    (λ _. choose (λ (r : AtPrimary). Follows l (kept_start l.mode) r) (eqb kind 1) (region_heard l id marked l.mode) (third l id kind)
    (λ _. region_follows l (kept_start l.mode) id marked l.mode)
    (λ _. choose (λ (r : AtPrimary). Follows l (kept_start l.mode) r) (eqb kind 2) (done_heard l id l.mode) (as_it_was l Ignored)
    (λ _. done_follows l id l.mode refl)
    (λ _. alone l (kept_start l.mode) Ignored refl)))

read_back : (head : ℕ) (mode : Mode) → mode_read head mode ≡ Log → mode ≡ Log
read_back head Log h = refl
read_back head Dcm h = absurd (no (ap is_log h))
read_back head (Replay id phase left start end) h = absurd (no (ap is_log h))
read_back head (Fork maps) h = absurd (no (ap is_log h))
read_back head Stale h = absurd (no (ap is_log h))

fallen_back : (mode : Mode) → mode_fallen mode ≡ Log → mode ≡ Log
fallen_back Log h = refl
fallen_back Dcm h = absurd (no (ap is_log h))
fallen_back (Replay id phase left start end) h = absurd (no (ap is_log h))
fallen_back (Fork maps) h = absurd (no (ap is_log h))
fallen_back Stale h = absurd (no (ap is_log h))

stored_end : (number : ℕ) (mode : Mode) → ends_at number mode ≡ true → end_in mode ≤ number
stored_end number Log h = absurd (no h)
stored_end number Dcm h = absurd (no h)
stored_end number (Replay id phase left start end) h = leb-true end number (and_parts (phase_logs phase) (leb end number) h).1
stored_end number (Fork maps) h = absurd (no h)
stored_end number Stale h = absurd (no h)

phase_unfinished : (phase : Phase) → is_finished (phase_sends phase) ≡ false
phase_unfinished Start = refl
phase_unfinished Regions = refl
phase_unfinished Done = refl
phase_unfinished ByLogAgain = refl

sends_unfinished : (mode : Mode) → is_finished (mode_sends mode) ≡ false
sends_unfinished Log = refl
sends_unfinished Dcm = refl
sends_unfinished (Replay id phase left start end) = phase_unfinished phase
sends_unfinished (Fork maps) = refl
sends_unfinished Stale = refl

follows : (l : Link) (e : PEvent) → Follows l (told_stored l.mode e) (primary_step l e)
follows l (Begin id head regions) =
    choose (λ (r : AtPrimary). Follows l 0 r) (can_begin l.mode) (in_mode l (Replay id Start regions head head) SendStart) (as_it_was l Nothing)
    (λ _. moved l 0 (Replay id Start regions head head) SendStart refl refl refl) (λ _. alone l 0 Nothing refl)
follows l (Ack id kind marked) = acked_follows l id kind marked
follows l (Read head) = kept l 0 (mode_read head l.mode) (read_back head l.mode)
follows l (Stored number) =
    choose (λ (r : AtPrimary). Follows l number r) (ends_at number l.mode) (in_mode l Log Finished) (as_it_was l Nothing)
    (λ at. record { finished = λ h. (refl, stored_end number l.mode at); only = λ was h. refl; ignored = λ h. absurd (no (ap is_ignored h)) })
    (λ _. alone l number Nothing refl)
follows l Pump = alone l 0 (mode_sends l.mode) (sends_unfinished l.mode)
follows l Restart = kept l 0 (mode_fallen l.mode) (fallen_back l.mode)

-- ---- the laws

pub finished-stored : (l : Link) (e : PEvent) → (primary_step l e).action ≡ Finished → ((primary_step l e).link.mode ≡ Log) × (end_in l.mode ≤ told_stored l.mode e)
finished-stored l e h = (follows l e).finished h

pub finished-only : (l : Link) (e : PEvent) → l.mode ≢ Log → (primary_step l e).link.mode ≡ Log → (primary_step l e).action ≡ Finished
finished-only l e was h = (follows l e).only was h

pub ignored-keeps : (l : Link) (e : PEvent) → (primary_step l e).action ≡ Ignored → (primary_step l e).link ≡ l
ignored-keeps l e h = (follows l e).ignored h

-- an answer of another replay

start_earlier : (l : Link) (id : ℕ) (mode : Mode) → id ≢ id_in mode → (start_heard l id mode).action ≡ Ignored
start_earlier l id Log other = refl
start_earlier l id Dcm other = refl
start_earlier l id (Replay of phase left start end) other =
    choose (λ (r : AtPrimary). r.action ≡ Ignored) (eqb id of && phase_overtaken phase) (in_mode l (copying of left start end) Nothing) (as_it_was l Ignored)
    (λ both. absurd (other (eqb-true id of (and_parts (eqb id of) (phase_overtaken phase) both).0))) (λ _. refl)
start_earlier l id (Fork maps) other = refl
start_earlier l id Stale other = refl

region_earlier : (l : Link) (id : ℕ) (marked : Bool) (mode : Mode) → id ≢ id_in mode → (region_heard l id marked mode).action ≡ Ignored
region_earlier l id marked Log other = refl
region_earlier l id marked Dcm other = refl
region_earlier l id marked (Replay of phase left start end) other =
    choose (λ (r : AtPrimary). r.action ≡ Ignored) (eqb id of && (phase_copies phase && marked)) (in_mode l (copying of (left - 1) start end) Nothing) (as_it_was l Ignored)
    (λ both. absurd (other (eqb-true id of (and_parts (eqb id of) (phase_copies phase && marked) both).0))) (λ _. refl)
region_earlier l id marked (Fork maps) other = refl
region_earlier l id marked Stale other = refl

done_earlier : (l : Link) (id : ℕ) (mode : Mode) → id ≢ id_in mode → (done_heard l id mode).action ≡ Ignored
done_earlier l id Log other = refl
done_earlier l id Dcm other = refl
done_earlier l id (Replay of phase left start end) other =
    choose (λ (r : AtPrimary). r.action ≡ Ignored) (eqb id of && phase_ends phase) (filling l of left start end) (as_it_was l Ignored)
    (λ both. absurd (other (eqb-true id of (and_parts (eqb id of) (phase_ends phase) both).0))) (λ _. refl)
done_earlier l id (Fork maps) other = refl
done_earlier l id Stale other = refl

pub earlier-ignored : (l : Link) (id kind : ℕ) (marked : Bool) → id ≢ id_in l.mode → (primary_step l (Ack id kind marked)).action ≡ Ignored
earlier-ignored l id kind marked other =
    choose (λ (r : AtPrimary). r.action ≡ Ignored) (eqb kind 0) (start_heard l id l.mode) (second l id kind marked)
    (λ _. start_earlier l id l.mode other)
    (λ _. choose (λ (r : AtPrimary). r.action ≡ Ignored) (eqb kind 1) (region_heard l id marked l.mode) (third l id kind)
    (λ _. region_earlier l id marked l.mode other)
    (λ _. choose (λ (r : AtPrimary). r.action ≡ Ignored) (eqb kind 2) (done_heard l id l.mode) (as_it_was l Ignored)
    (λ _. done_earlier l id l.mode other)
    (λ _. refl)))
