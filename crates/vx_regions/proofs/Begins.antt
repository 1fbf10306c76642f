-- The begin of a replay behind the logging of all that waits.
use Rattle.std.proofs.Common.{◌≡◌, ◌∙◌, inl, inr, ⊎_elim, ℕ, zero, suc, ◌+◌, ◌≤◌, Bool, true, false, List, [], ◌∷◌, length, take, drop, Option, Some, None, refl, sym, ap, subst, arith}
use Rattle.std.specs.Prelude.{Result, Ok, Err, leb, if◌then◌else◌}
use Rattle.std.proofs.lemmas.Bool.Decides.{nat_tests}
use Rattle.std.proofs.lemmas.List.{length-map, take_all}
use Rattle.vx_model.specs.Content.{Write}
use Rattle.vx_model.specs.declared.call.Update.{Update}
use Rattle.vx_model.specs.declared.history.Line.{Line}
use Rattle.vx_model.specs.declared.limits.TheConstants.{MOST_NUMBER, MOST_WAITING}
use Rattle.vx_model.specs.declared.no.No.{No}
use Rattle.vx_model.specs.declared.no.No.TheVariants.{Limit}
use Rattle.vx_model.specs.declared.no.Counted.TheVariants.{Number}
use Rattle.vx_model.specs.declared.site.Mark.{Mark}
use Rattle.vx_model.specs.declared.site.SPhase.{SPhase}
use Rattle.vx_model.specs.declared.state.State.{State as SiteState}
use Rattle.vx_history.specs.declared.receiver.RState.{RState}
use Rattle.vx_disk.specs.Moves.{Moves, Run}
use Rattle.vx_disk.specs.Shelf.{Image, Meaning}
use Rattle.vx_disk.proofs.Moving.{goes_on, still, wider}
use Rattle.vx_replay.specs.Secondary.{AtReceiver, begins, begun, copies, secondary_step}
use Rattle.vx_replay.specs.declared.event.QAction.{QAction}
use Rattle.vx_replay.specs.declared.event.QAction.TheVariants.{Again, Begin, Ignored}
use Rattle.vx_replay.specs.declared.event.QEvent.{QEvent}
use Rattle.vx_replay.specs.declared.event.QEvent.TheVariants.{Start}
use Rattle.vx_srl.specs.Views.{most_number}
use Rattle.vx_rvg.specs.Contents.{write_of_update}
use Rattle.vx_rvg.specs.Holdings.{Holding, kept_in}
use Rattle.vx_rvg.specs.Saves.{SaveIs, change_refusal, with_new_state}
use Rattle.vx_rvg.specs.Stands.{FoundAs, Retains, Saving, Stands}
use Rattle.vx_rvg.specs.Views.{Core, last_of}
use Rattle.vx_rvg.proofs.ContentFacts.{kept_all}
use Rattle.vx_secondary.specs.Logging.{EndsAfter, EndsLogging, Grows, Logging, LogsAll, Own, SameGroup, Step}
use Rattle.vx_secondary.specs.Receivers.{Wait, receiver_of, writes_of_updates}
use Rattle.vx_secondary.proofs.Rooms.{failed_ends, failed_same}
use Rattle.vx_secondary.proofs.Steps.{found_same, own_same, same_self}
use Rattle.vx_secondary.proofs.Writings.{ends_later}
use Rattle.vx_regions.specs.Copies.{BeginsCopy, BegunCopy, CopyBegin, told_state}

-- ---- all that waits

pub wait_none : (c : Core) (size : ℕ → ℕ) → Wait c size []
wait_none c size = record { few = omega arith; line = λ k u is. cc; number = λ k u is. cc; fits = λ k u is. cc }

pub drop_all : (n : ℕ) (us : List Update) → length us ≤ n → drop n us ≡ []
drop_all zero [] le = refl
drop_all zero (u ∷ us) le = absurd (omega (arith, le))
drop_all (suc n) [] le = refl
drop_all (suc n) (u ∷ us) le = drop_all n us (omega (arith, le))

pub take_few : (us : List Update) → length us ≤ MOST_WAITING → take MOST_WAITING us ≡ us
take_few us le = take_all MOST_WAITING us le

-- ---- the rule

-- what a start makes of a receiver, by whether it begins
abbrev start_by : RState → (id : ℕ) → QAction → Bool → AtReceiver
start_by s id other begins_it = if begins_it then record { state = begun s id; action = Begin } else record { state = s; action = other }

abbrev else_copies : RState → Line → (id : ℕ) → QAction
else_copies s line id = if copies s line id then Again else Ignored

take_begin : (s : RState) (line : Line) (id start : ℕ) (b d : Bool) → begins s line id start ≡ b → copies s line id ≡ d → (secondary_step s (Start line id start)).action ≡ Begin → (secondary_step s (Start line id start)).state ≡ begun s id
take_begin s line id start true d is of action = ap (λ (t : Bool). (start_by s id (else_copies s line id) t).state) is
take_begin s line id start false true is of action =
    let wrong : Again ≡ Begin = sym (ap (λ (t : Bool). if t then Again else Ignored) of) ∙ (sym (ap (λ (t : Bool). (start_by s id (else_copies s line id) t).action) is) ∙ action) in cc
take_begin s line id start false false is of action =
    let wrong : Ignored ≡ Begin = sym (ap (λ (t : Bool). if t then Again else Ignored) of) ∙ (sym (ap (λ (t : Bool). (start_by s id (else_copies s line id) t).action) is) ∙ action) in cc

-- what the rule makes of a receiver where a replay begins
pub begun_is : (s : RState) (line : Line) (id start : ℕ) → (secondary_step s (Start line id start)).action ≡ Begin → (secondary_step s (Start line id start)).state ≡ begun s id
begun_is s line id start action = take_begin s line id start (begins s line id start) (copies s line id) refl refl action

receiver_as : (line one : Line) (last last1 waiting waiting1 session session1 : ℕ) (mark : Mark) (phase : SPhase) (replay end : ℕ) → line ≡ one → last ≡ last1 → waiting ≡ waiting1 → session ≡ session1
    → ◌≡◌ {A = RState} (record { line = line; last = last; waiting = waiting; session = session; mark = mark; phase = phase; replay = replay; end = end }) (record { line = one; last = last1; waiting = waiting1; session = session1; mark = mark; phase = phase; replay = replay; end = end })
receiver_as line one last last1 waiting waiting1 session session1 mark phase replay end a b d e =
    λ i. record { line = a i; last = b i; waiting = d i; session = e i; mark = mark; phase = phase; replay = replay; end = end }

-- a receiver behind which nothing waits, with another state in its log
abbrev receiver_in : Core → SiteState → RState
receiver_in e s = record { line = s.line; last = last_of e + 0; waiting = 0; session = e.log.header.incarnation; mark = s.mark; phase = s.phase; replay = s.replay; end = s.end }

-- a group that keeps what was told, and behind which nothing waits, is the receiver that was told
pub told_receiver : (c e : Core) (us : List Update) (told : RState) → us ≡ [] → e.log.header.state ≡ told_state c.log.header.state told → told.line ≡ c.log.header.state.line → told.last ≡ last_of e → told.waiting ≡ 0
    → told.session ≡ e.log.header.incarnation → receiver_of e us ≡ told
told_receiver c e us told none kept line last waiting session =
    ap (λ (ws : List Update). receiver_of e ws) none
    ∙ ap (λ (s : SiteState). receiver_in e s) kept
    ∙ receiver_as c.log.header.state.line told.line (last_of e + 0) told.last 0 told.waiting e.log.header.incarnation told.session told.mark told.phase told.replay told.end (sym line) (omega (arith, last)) (sym waiting) (sym session)

-- a start that begins nothing changes nothing
take_none : (s : RState) (line : Line) (id start : ℕ) (b : Bool) → begins s line id start ≡ b → ((secondary_step s (Start line id start)).action ≡ Begin → ⊥) → s ≡ (secondary_step s (Start line id start)).state
take_none s line id start true is not =
    absurd (not (ap (λ (t : Bool). (start_by s id (else_copies s line id) t).action) is))
take_none s line id start false is not =
    sym (ap (λ (t : Bool). (start_by s id (else_copies s line id) t).state) is)

pub start_ignored : (s : RState) (line : Line) (id start : ℕ) → ((secondary_step s (Start line id start)).action ≡ Begin → ⊥) → s ≡ (secondary_step s (Start line id start)).state
start_ignored s line id start not = take_none s line id start (begins s line id start) refl not

-- of the receiver that the code has
module _ (r s : RState) (is : r ≡ s) (e : QEvent) where
  pub heard_state : (told : RState) → told ≡ (secondary_step r e).state → told ≡ (secondary_step s e).state
  heard_state told made = made ∙ ap (λ (x : RState). (secondary_step x e).state) is

  pub heard_action : (action : QAction) → action ≡ (secondary_step r e).action → action ≡ (secondary_step s e).action
  heard_action action made = made ∙ ap (λ (x : RState). (secondary_step x e).action) is

pub begin_asked : (s : RState) (line : Line) (id start : ℕ) (told : RState) → Begin ≡ (secondary_step s (Start line id start)).action → told ≡ (secondary_step s (Start line id start)).state → (told ≡ begun s told.replay) × (told.replay ≡ id)
begin_asked s line id start told action made =
    let is : told ≡ begun s id = made ∙ begun_is s line id start (sym action) in
    let replay : told.replay ≡ id = ap (λ (x : RState). x.replay) is in
    (is ∙ ap (λ (n : ℕ). begun s n) (sym replay), replay)

-- ---- a new state

-- the same units and session, and no stamp taken back
record Nearly (c c' : Core) : Type 0 where
  units : c'.units ≡ c.units
  ring : c'.log.ring ≡ c.log.ring
  session : c'.log.header.incarnation ≡ c.log.header.incarnation
  stamp : c.log.header.stamp ≤ c'.log.header.stamp

nearly_same : (c d : Core) → SameGroup c d → Nearly c d
nearly_same c d same = record { units = same.units; ring = same.ring; session = same.session; stamp = same.stamp }

module _ (d e : Core) (state : SiteState) (m m' : Meaning) where
  nearly_by : (r : Option No) (result : Result (Unit {0}) No) → SaveIs r d (with_new_state d state) m m' e result → Nearly d e
  nearly_by (Some why) result is = subst (λ (k : Core). Nearly d k) (sym is.1) (nearly_same d d (same_self d))
  nearly_by None (Ok done) is = subst (λ (k : Core). Nearly d k) (sym is) (record { units = refl; ring = refl; session = refl; stamp = omega arith })
  nearly_by None (Err why) is = nearly_same d e (failed_same d e m m' why is)

  pub state_done : (r : Option No) (done : Unit {0}) → SaveIs r d (with_new_state d state) m m' e (Ok done) → e ≡ with_new_state d state
  state_done (Some why) done is = absurd (let wrong : Ok done ≡ Err why = is.0 in cc)
  state_done None done is = is

  -- what the group held
  pub state_rests : (done : Unit {0}) → SaveIs (change_refusal d) d (with_new_state d state) m m' e (Ok done) → Retains d e m m' → (k : Holding) → Stands d k m → Stands e k m'
  state_rests done is retains k stands =
      subst (λ (x : Holding). Stands e x m') (ap (λ (c : Core). kept_in c k) (state_done (change_refusal d) done is) ∙ kept_all d k m stands) (retains.each k stands)

  module _ (running : d.halted ≡ None) where
    ends_by : (b : Bool) (why : No) → leb most_number d.log.header.stamp ≡ b → SaveIs (if b then Some (Limit Number most_number) else None) d (with_new_state d state) m m' e (Err why) → EndsLogging 0 d e m m' why
    ends_by true why past is =
        let named : why ≡ Limit Number MOST_NUMBER = (let same : Err why ≡ Err (Limit Number most_number) = is.0 in cc) in
        let le : most_number ≤ d.log.header.stamp = grind (arith, nat_tests) in
        subst (λ (k : Core). EndsLogging 0 d k m m' why) (sym is.1) (subst (λ (n : No). EndsLogging 0 d d m m' n) (sym named) (omega arith, (refl, (running, inl le))))
    ends_by false why past is = failed_ends d e m m' why is

    pub state_ends : (why : No) → SaveIs (change_refusal d) d (with_new_state d state) m m' e (Err why) → EndsLogging 0 d e m m' why
    state_ends why is =
        let refusal : change_refusal d ≡ (if leb most_number d.log.header.stamp then Some (Limit Number most_number) else None) = rw running refl in
        ends_by (leb most_number d.log.header.stamp) why refl (subst (λ (r : Option No). SaveIs r d (with_new_state d state) m m' e (Err why)) refusal is)

-- ---- the begin

-- nothing was done
pub begin_self : (c : Core) (xs : List Write) (state : SiteState) (m : Meaning) → BeginsCopy xs state c c m m
begin_self c xs state m = record { units = refl; ring = refl; session = refl; stamp = omega arith; moves = still (Own c) (CopyBegin c xs state (c.log.header.stamp + 1) m) m }

module _ (c d : Core) (us : List Update) (xs : List Write) (state : SiteState) (m mid : Meaning) (step : Step xs c d m mid) where
  logging_begin : (stamp : ℕ) (i : Image) → d.log.header.stamp + 1 ≤ stamp → Logging c xs (d.log.header.stamp + 1) m i → CopyBegin c xs state stamp m i
  logging_begin stamp i le logging = record {
    each = λ h stands.
        let got = logging.each h stands in
        (got.0, (got.1.0, (got.1.1.0, inl (found_same c c (d.log.header.stamp + 1) stamp i got.1.0 (same_self c) le got.1.1.1))));
  }

  -- nothing more was done
  pub begin_stopped : BeginsCopy xs state c d m mid
  begin_stopped = record {
    units = step.same.units;
    ring = step.same.ring;
    session = step.same.session;
    stamp = step.same.stamp;
    moves =
        wider (Own c) (Own c) (Logging c xs (d.log.header.stamp + 1) m) (CopyBegin c xs state (d.log.header.stamp + 1) m) m mid step.moves (λ u b own. own)
        (λ i beside logging. logging_begin (d.log.header.stamp + 1) i (omega arith) logging);
  }

  module _ (e : Core) (m' : Meaning) (logs : LogsAll xs c d m mid) (result : Result (Unit {0}) No) (answers : SaveIs (change_refusal d) d (with_new_state d state) mid m' e result) where
    near : Nearly d e
    near = nearly_by d e state mid m' (change_refusal d) result answers

    all_taken : (h k : Holding) → Grows xs h k → Grows (take (length xs) xs) h k
    all_taken h k grows = subst (λ (ws : List Write). Grows ws h k) (sym (take_all (length xs) xs (omega arith))) grows

    since : (i : Image) → Saving d (with_new_state d state) mid i → CopyBegin c xs state (e.log.header.stamp + 1) m i
    since i saving = record {
      each = λ h stands.
          let first = logs.holds h stands in
          let kept : kept_in (with_new_state d state) first.0 ≡ first.0 = kept_all d first.0 mid first.1.1 in
          ⊎_elim
          (λ found. (length xs, (first.0, (all_taken h first.0 first.1.0, inl (found_same c d d.log.header.stamp (e.log.header.stamp + 1) i first.0 step.same (omega (arith, near.stamp)) found)))))
          (λ found. (
            length xs,
            (
              first.0,
              (
                all_taken h first.0 first.1.0,
                inr (
                  omega arith,
                  found_same (with_new_state c state) (with_new_state d state) (d.log.header.stamp + 1) (e.log.header.stamp + 1) i first.0
                      (record { units = step.same.units; ring = step.same.ring; state = refl; session = step.same.session; stamp = omega (arith, step.same.stamp) }) (omega (arith, near.stamp))
                      (subst (λ (x : Holding). FoundAs (with_new_state d state) i x) kept found),
                ),
              ),
            ),
          ))
          (saving.each first.0 first.1.1);
    }

    pub begin_step : Moves (Run d.units.srl 0 (d.log.ring + 2)) (Saving d (with_new_state d state) mid) mid m' → BeginsCopy xs state c e m m'
    begin_step moves = record {
      units = near.units ∙ step.same.units;
      ring = near.ring ∙ step.same.ring;
      session = near.session ∙ step.same.session;
      stamp = omega (arith, step.same.stamp, near.stamp);
      moves =
          goes_on (Own c) (Run d.units.srl 0 (d.log.ring + 2)) (CopyBegin c xs state (e.log.header.stamp + 1) m) (Saving d (with_new_state d state) mid) m mid m'
          (wider (Own c) (Own c) (Logging c xs (d.log.header.stamp + 1) m) (CopyBegin c xs state (e.log.header.stamp + 1) m) m mid step.moves (λ u b own. own)
          (λ i beside logging. logging_begin (e.log.header.stamp + 1) i (omega (arith, near.stamp)) logging))
          moves (λ u b run. own_same c d step.same u b (record { here = inl run })) (λ i beside saving. since i saving);
    }

  module _ (e : Core) (m' : Meaning) (logs : LogsAll xs c d m mid) where
    pub begin_done : (done : Unit {0}) → SaveIs (change_refusal d) d (with_new_state d state) mid m' e (Ok done) → Retains d e mid m' → BegunCopy xs state c e m m'
    begin_done done answers retains =
        let made : e ≡ with_new_state d state = state_done d e state mid m' (change_refusal d) done answers in
        record {
          state_is = ap (λ (k : Core). k.log.header.state) made;
          last = ap (λ (k : Core). last_of k) made ∙ logs.last;
          running = ap (λ (k : Core). k.halted) made ∙ logs.running;
          holds = λ h stands.
              let first = logs.holds h stands in
              (first.0, (first.1.0, state_rests d e state mid m' done answers retains first.0 first.1.1));
        }

    -- the state could not be kept
    pub begin_ends : writes_of_updates us ≡ xs → length us ≤ MOST_WAITING → (why : No) → SaveIs (change_refusal d) d (with_new_state d state) mid m' e (Err why) → EndsAfter MOST_WAITING us [] c e m m' why
    begin_ends writes few why answers =
        let long : length xs ≡ length us = ap (λ (ws : List Write). length ws) (sym writes) ∙ length-map us write_of_update in (
          length us,
          (
            few,
            (
              sym (drop_all (length us) us (omega arith)),
              subst (λ (n : ℕ). EndsLogging n c e m m' why) (let e : length xs + 0 ≡ length us = omega (arith, long) in e)
                  (ends_later (length xs) 0 c d e m mid m' why logs.last step.moves.disk_faults (state_ends d e state mid m' logs.running why answers)),
            ),
          ),
        )

-- ---- the receiver behind the begin

-- the state that is kept is the one that was told
pub begin_told : (c d : Core) (told : RState) (state : SiteState) → SameGroup c d → state ≡ told_state d.log.header.state told → state ≡ told_state c.log.header.state told
begin_told c d told state same is = is ∙ ap (λ (s : SiteState). told_state s told) same.state

pub begin_receiver : (c d e : Core) (us now : List Update) (told : RState) (state : SiteState) (m mid : Meaning) → Step (writes_of_updates us) c d m mid → LogsAll (writes_of_updates us) c d m mid → now ≡ []
    → told ≡ begun (receiver_of c us) told.replay → state ≡ told_state d.log.header.state told → e ≡ with_new_state d state → receiver_of e now ≡ told
begin_receiver c d e us now told state m mid step logs none is kept made =
    told_receiver c e now told none (ap (λ (k : Core). k.log.header.state) made ∙ begin_told c d told state step.same kept) (ap (λ (r : RState). r.line) is)
    (let one = ap (λ (r : RState). r.last) is in let two = ap (λ (k : Core). last_of k) made in let long = length-map us write_of_update in let top = logs.last in omega (arith, one, two, top, long)) (ap (λ (r : RState). r.waiting) is)
    (ap (λ (r : RState). r.session) is ∙ sym step.same.session ∙ sym (ap (λ (k : Core). k.log.header.incarnation) made))
