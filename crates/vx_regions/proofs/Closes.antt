-- The end of a replay's copying, and the mark behind a replay.
use Rattle.std.proofs.Common.{◌≡◌, ◌∙◌, ◌⊎◌, inl, inr, ℕ, ◌+◌, Bool, true, false, List, [], Option, Some, None, refl, sym, ap, subst, arith}
use Rattle.std.specs.Prelude.{Result, Ok, Err, eqb, leb, ◌&&◌, if◌then◌else◌}
use Rattle.std.proofs.lemmas.Bool.{and_parts, eqb-true}
use Rattle.vx_model.specs.declared.call.Update.{Update}
use Rattle.vx_model.specs.declared.history.Line.{Line}
use Rattle.vx_model.specs.declared.no.No.{No}
use Rattle.vx_model.specs.declared.site.Mark.{Mark}
use Rattle.vx_model.specs.declared.site.Mark.TheVariants.{Consistent, Inconsistent}
use Rattle.vx_model.specs.declared.state.State.{State as SiteState}
use Rattle.vx_history.specs.Receiving.{is_log_phase, marked_by}
use Rattle.vx_history.specs.declared.receiver.RState.{RState}
use Rattle.vx_disk.specs.Shelf.{Meaning}
use Rattle.vx_model.specs.Sites.{same_line}
use Rattle.vx_replay.specs.Secondary.{AtReceiver, closed, copies, fills, phase_copies, secondary_step}
use Rattle.vx_srlfmt.specs.Headers.{CanSpellState}
use Rattle.vx_replay.specs.declared.event.QAction.{QAction}
use Rattle.vx_replay.specs.declared.event.QAction.TheVariants.{Again, Close, Ignored}
use Rattle.vx_replay.specs.declared.event.QEvent.TheVariants.{Done}
use Rattle.vx_rvg.specs.Groups.{core_applied}
use Rattle.vx_rvg.specs.Saves.{RestartIs, SaveIs, change_refusal, with_new_state, with_restart}
use Rattle.vx_rvg.specs.Stands.{Rests, Retains}
use Rattle.vx_rvg.specs.Views.{Core, last_of}
use Rattle.vx_secondary.specs.Logging.{SameGroup}
use Rattle.vx_secondary.specs.Receivers.{Wait, receiver_of}
use Rattle.vx_secondary.proofs.Rooms.{failed_ends, failed_same}
use Rattle.vx_secondary.proofs.Steps.{same_self}
use Rattle.vx_secondary.proofs.Waits.{wait_moved}
use Rattle.vx_secondary.proofs.Writings.{can_same}
use Rattle.vx_regions.specs.Copies.{consistent_state, is_inconsistent, mark_is_due, told_state}
use Rattle.vx_regions.proofs.Begins.{state_done, state_rests, told_receiver}

-- ---- the rule

-- what an end makes of a receiver, by whether it closes
abbrev end_by : RState → (start end : ℕ) → QAction → Bool → AtReceiver
end_by s start end other closes_it = if closes_it then record { state = closed s start end; action = Close } else record { state = s; action = other }

abbrev else_fills : RState → Line → (id : ℕ) → QAction
else_fills s line id = if fills s line id then Again else Ignored

take_close : (s : RState) (line : Line) (id start end : ℕ) (b d : Bool) → copies s line id ≡ b → fills s line id ≡ d → (secondary_step s (Done line id start end)).action ≡ Close → (secondary_step s (Done line id start end)).state ≡ closed s start end
take_close s line id start end true d is of action = ap (λ (t : Bool). (end_by s start end (else_fills s line id) t).state) is
take_close s line id start end false true is of action =
    let wrong : Again ≡ Close = sym (ap (λ (t : Bool). if t then Again else Ignored) of) ∙ (sym (ap (λ (t : Bool). (end_by s start end (else_fills s line id) t).action) is) ∙ action) in cc
take_close s line id start end false false is of action =
    let wrong : Ignored ≡ Close = sym (ap (λ (t : Bool). if t then Again else Ignored) of) ∙ (sym (ap (λ (t : Bool). (end_by s start end (else_fills s line id) t).action) is) ∙ action) in cc

-- what the rule makes of a receiver where every region came
pub closed_is : (s : RState) (line : Line) (id start end : ℕ) → (secondary_step s (Done line id start end)).action ≡ Close → (secondary_step s (Done line id start end)).state ≡ closed s start end
closed_is s line id start end action = take_close s line id start end (copies s line id) (fills s line id) refl refl action

-- and then its replay is that of the message
take_copied : (s : RState) (line : Line) (id start end : ℕ) (b d : Bool) → copies s line id ≡ b → fills s line id ≡ d → (secondary_step s (Done line id start end)).action ≡ Close → copies s line id ≡ true
take_copied s line id start end true d is of action = is
take_copied s line id start end false true is of action =
    let wrong : Again ≡ Close = sym (ap (λ (t : Bool). if t then Again else Ignored) of) ∙ (sym (ap (λ (t : Bool). (end_by s start end (else_fills s line id) t).action) is) ∙ action) in cc
take_copied s line id start end false false is of action =
    let wrong : Ignored ≡ Close = sym (ap (λ (t : Bool). if t then Again else Ignored) of) ∙ (sym (ap (λ (t : Bool). (end_by s start end (else_fills s line id) t).action) is) ∙ action) in cc

pub copied_is : (s : RState) (line : Line) (id start end : ℕ) → (secondary_step s (Done line id start end)).action ≡ Close → copies s line id ≡ true
copied_is s line id start end action = take_copied s line id start end (copies s line id) (fills s line id) refl refl action

take_not : (s : RState) (line : Line) (id start end : ℕ) (b : Bool) → copies s line id ≡ b → ((secondary_step s (Done line id start end)).action ≡ Close → ⊥) → s ≡ (secondary_step s (Done line id start end)).state
take_not s line id start end true is not =
    absurd (not (ap (λ (t : Bool). (end_by s start end (else_fills s line id) t).action) is))
take_not s line id start end false is not =
    sym (ap (λ (t : Bool). (end_by s start end (else_fills s line id) t).state) is)

-- an end that closes nothing changes nothing
pub end_ignored : (s : RState) (line : Line) (id start end : ℕ) → ((secondary_step s (Done line id start end)).action ≡ Close → ⊥) → s ≡ (secondary_step s (Done line id start end)).state
end_ignored s line id start end not = take_not s line id start end (copies s line id) refl not

-- the replay of a message that a receiver copies is its own
same_replay : (a d : Bool) (id replay : ℕ) → (a && (eqb id replay && d)) ≡ true → id ≡ replay
same_replay a d id replay is = let both = and_parts a (eqb id replay && d) is in let own = and_parts (eqb id replay) d both.1 in eqb-true id replay own.0

pub close_asked : (s : RState) (line : Line) (id start end : ℕ) (told : RState) → Close ≡ (secondary_step s (Done line id start end)).action → told ≡ (secondary_step s (Done line id start end)).state
    → (told ≡ closed s told.last told.end) × (told.replay ≡ id) × (told.last ≡ start) × (told.end ≡ end)
close_asked s line id start end told action made =
    let is : told ≡ closed s start end = made ∙ closed_is s line id start end (sym action) in
    let last : told.last ≡ start = ap (λ (x : RState). x.last) is in
    let top : told.end ≡ end = ap (λ (x : RState). x.end) is in
    let replay : told.replay ≡ s.replay = ap (λ (x : RState). x.replay) is in
    (is ∙ ap (λ (n : ℕ). closed s n end) (sym last) ∙ ap (λ (n : ℕ). closed s told.last n) (sym top), replay ∙ sym (same_replay (same_line line s.line) (phase_copies s.phase) id s.replay (copied_is s line id start end (sym action))), last, top)

-- ---- the log is emptied

-- the group that a header leaves at the start is the receiver that was told
pub closed_receiver : (c e : Core) (us now : List Update) (told : RState) → now ≡ [] → told ≡ closed (receiver_of c us) told.last told.end → e ≡ with_restart c (told_state c.log.header.state told) told.last → receiver_of e now ≡ told
closed_receiver c e us now told none is made =
    told_receiver c e now told none (ap (λ (k : Core). k.log.header.state) made) (ap (λ (r : RState). r.line) is)
    (let last : last_of e ≡ last_of (with_restart c (told_state c.log.header.state told) told.last) = ap (λ (k : Core). last_of k) made in omega (arith, last))
    (ap (λ (r : RState). r.waiting) is) (ap (λ (r : RState). r.session) is ∙ sym (ap (λ (k : Core). k.log.header.incarnation) made))

pub restart_done : (c e : Core) (state : SiteState) (head : ℕ) (m m' : Meaning) (r : Option No) (done : Unit {0}) → RestartIs r c (with_restart c state head) m m' e (Ok done) → e ≡ with_restart c state head
restart_done c e state head m m' (Some why) done is = absurd (let wrong : Ok done ≡ Err why = is.0 in cc)
restart_done c e state head m m' None done is = is.0

-- where it could not be emptied, the same updates wait
module _ (c e after : Core) (m m' : Meaning) where
  kept_by : (r : Option No) (why : No) → RestartIs r c after m m' e (Err why) → SameGroup c e × (last_of e ≡ last_of c + 0)
  kept_by (Some other) why is = subst (λ (k : Core). SameGroup c k × (last_of k ≡ last_of c + 0)) (sym is.1) (same_self c, omega arith)
  kept_by None why (inl fails) = (failed_same c e m m' why fails, (failed_ends c e m m' why fails).0)
  kept_by None why (inr fails) =
      let part : Core = core_applied c (last_of c) fails.0 in
      let same : SameGroup part e = failed_same part e m m' why fails.1 in
      (record { units = same.units; ring = same.ring; state = same.state; session = same.session; stamp = omega (arith, same.stamp) }, (failed_ends part e m m' why fails.1).0)

  pub stopped_wait : (r : Option No) (why : No) → RestartIs r c after m m' e (Err why) → ((u : ℕ) → m'.size u ≡ m.size u) → (us : List Update) → Wait c m.size us → Wait e m'.size us
  stopped_wait r why is sizes us wait = wait_moved 0 c e m.size m'.size us wait (kept_by r why is).0 (kept_by r why is).1 sizes

-- ---- the mark

consistent_of : (k : Mark) → is_inconsistent k ≡ false → k ≡ Consistent
consistent_of Consistent is = refl
consistent_of Inconsistent is = cc

module _ (s : RState) (n : ℕ) where
  reaches : (a b : Bool) → is_log_phase s.phase ≡ a → leb s.end n ≡ b → (is_log_phase s.phase && leb s.end n) ≡ (a && b)
  reaches a b one two = ap (λ (x : Bool). x && leb s.end n) one ∙ ap (λ (y : Bool). a && y) two

  by_test : (t : Bool) → (is_log_phase s.phase && leb s.end n) ≡ t → marked_by s n ≡ (if t then record s { mark = Consistent } else s)
  by_test t is = ap (λ (x : Bool). if x then record s { mark = Consistent } else s) is

  due_not : (a b d : Bool) → is_log_phase s.phase ≡ a → leb s.end n ≡ b → is_inconsistent s.mark ≡ d → (a && (b && d)) ≡ false → s ≡ marked_by s n
  due_not true true true one two three none = let wrong : true ≡ false = none in cc
  due_not true true false one two three none = ap (λ (k : Mark). record s { mark = k }) (consistent_of s.mark three) ∙ sym (by_test true (reaches true true one two))
  due_not true false d one two three none = sym (by_test false (reaches true false one two))
  due_not false b d one two three none = sym (by_test false (reaches false b one two))

  due_so : (a b d : Bool) → is_log_phase s.phase ≡ a → leb s.end n ≡ b → is_inconsistent s.mark ≡ d → (a && (b && d)) ≡ true → record s { mark = Consistent } ≡ marked_by s n
  due_so true true true one two three due = sym (by_test true (reaches true true one two))
  due_so true true false one two three due = let wrong : false ≡ true = due in cc
  due_so true false d one two three due = let wrong : false ≡ true = due in cc
  due_so false b d one two three due = let wrong : false ≡ true = due in cc

-- what the rule makes of a receiver whose log keeps its mark already
pub mark_stays : (c : Core) (us : List Update) → mark_is_due c.log.header.state (last_of c) ≡ false → receiver_of c us ≡ marked_by (receiver_of c us) (last_of c)
mark_stays c us none = due_not (receiver_of c us) (last_of c) (is_log_phase c.log.header.state.phase) (leb c.log.header.state.end (last_of c)) (is_inconsistent c.log.header.state.mark) refl refl refl none

-- and of one whose log does not
pub mark_settles : (c e : Core) (us : List Update) → mark_is_due c.log.header.state (last_of c) ≡ true → e ≡ with_new_state c (consistent_state c.log.header.state) → receiver_of e us ≡ marked_by (receiver_of c us) (last_of c)
mark_settles c e us due made =
    ap (λ (k : Core). receiver_of k us) made
    ∙ due_so (receiver_of c us) (last_of c) (is_log_phase c.log.header.state.phase) (leb c.log.header.state.end (last_of c)) (is_inconsistent c.log.header.state.mark) refl refl refl due

-- the same updates wait behind a header with another state of this line
wait_stated : (c : Core) (state : SiteState) (one two : ℕ → ℕ) (us : List Update) → state.line ≡ c.log.header.state.line → ((u : ℕ) → two u ≡ one u) → Wait c one us → Wait (with_new_state c state) two us
wait_stated c state one two us line sizes wait = record {
  few = wait.few;
  line = λ k u is. wait.line k u is ∙ sym line;
  number = λ k u is. wait.number k u is;
  fits = λ k u is. can_same c c one two u (same_self c) sizes (wait.fits k u is);
}

module _ (c e : Core) (state : SiteState) (m m' : Meaning) (sizes : (u : ℕ) → m'.size u ≡ m.size u) (us : List Update) (wait : Wait c m.size us) where
  kept_wait : (done : Unit {0}) → state.line ≡ c.log.header.state.line → SaveIs (change_refusal c) c (with_new_state c state) m m' e (Ok done) → Wait e m'.size us
  kept_wait done line is = subst (λ (k : Core). Wait k m'.size us) (sym (state_done c e state m m' (change_refusal c) done is)) (wait_stated c state m.size m'.size us line sizes wait)

  failed_by : (r : Option No) (why : No) → SaveIs r c (with_new_state c state) m m' e (Err why) → SameGroup c e × (last_of e ≡ last_of c + 0)
  failed_by (Some other) why is = subst (λ (k : Core). SameGroup c k × (last_of k ≡ last_of c + 0)) (sym is.1) (same_self c, omega arith)
  failed_by None why fails = (failed_same c e m m' why fails, (failed_ends c e m m' why fails).0)

  failed_wait : (why : No) → SaveIs (change_refusal c) c (with_new_state c state) m m' e (Err why) → Wait e m'.size us
  failed_wait why is = wait_moved 0 c e m.size m'.size us wait (failed_by (change_refusal c) why is).0 (failed_by (change_refusal c) why is).1 sizes

  pub settled_wait : state.line ≡ c.log.header.state.line → (result : Result (Unit {0}) No) → SaveIs (change_refusal c) c (with_new_state c state) m m' e result → Wait e m'.size us
  settled_wait line (Ok done) is = kept_wait done line is
  settled_wait line (Err why) is = failed_wait why is

pub spelled_mark : (s : SiteState) → CanSpellState s → CanSpellState (consistent_state s)
spelled_mark s spelled = record {
  generation = spelled.generation;
  top = spelled.top;
  role = spelled.role;
  replay = spelled.replay;
  end = spelled.end;
  parent = spelled.parent;
  fork = spelled.fork;
  few = spelled.few;
  links = spelled.links;
}

-- what the group held, it holds
pub mark_rests : (c e : Core) (state : SiteState) (m m' : Meaning) (done : Unit {0}) → SaveIs (change_refusal c) c (with_new_state c state) m m' e (Ok done) → Retains c e m m' → Rests c e m m'
mark_rests c e state m m' done is retains = record { each = λ h stands. state_rests c e state m m' done is retains h stands }

pub rests_still : (c : Core) (m : Meaning) → Rests c c m m
rests_still c m = record { each = λ h stands. stands }
