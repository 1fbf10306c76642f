-- What the calls of the log that write a header make of a group.
use Rattle.std.proofs.Common.{◌≡◌, ◌⊎◌, inl, inr, ⊎_elim, ℕ, ◌+◌, ◌<◌, ◌≤◌, Bool, true, false, List, IsFalse, Result, Ok, Err, refl, sym, ◌∙◌, subst, arith}
use Rattle.std.specs.Prelude.{if◌then◌else◌, leb}
use Rattle.std.proofs.lemmas.Bool.{cases_lt}
use Rattle.std.proofs.lemmas.Bool.Decides.{nat_tests}
use Rattle.vx_model.specs.declared.no.No.{No}
use Rattle.vx_model.specs.declared.state.State.{State as SiteState}
use Rattle.vx_srlfmt.specs.declared.header.Header.{Header}
use Rattle.vx_disk.specs.Moves.{Blocks, Says, Moves, Run}
use Rattle.vx_disk.specs.Shelf.{Meaning}
use Rattle.vx_srl.specs.Calls.{SavesHeader, saved, saving, log_no_number}
use Rattle.vx_srl.specs.Headers.{with_header_state, without}
use Rattle.vx_srl.specs.Rings.{RingGoes, LeadsTo}
use Rattle.vx_srl.specs.Views.{Log, count_to, most_number}
use Rattle.vx_srl.specs.declared.errors.SrlNo.{SrlNo}
use Rattle.vx_srl.specs.declared.kept.Kept.{Kept}
use Rattle.vx_rvg.specs.Groups.{core_halted}
use Rattle.vx_rvg.specs.Saves.{log_without, reclaimed}
use Rattle.vx_rvg.specs.Stands.{Retains, Saving}
use Rattle.vx_rvg.specs.Views.{Core, IsSound, IsSoundWith, applied_count}
use Rattle.vx_rvg.proofs.SaveStands.{save_sound, save_moves, save_rests}
use Rattle.vx_rvg.proofs.WriteSound.{ended_sound, moved_sizes, was_up}

-- the log is as it was, or has the new header
saves_cases : (l after l' : Log) (m m' : Meaning) (r : Result (Unit {0}) SrlNo) → SavesHeader l after m m' l' r → (l' ≡ l) ⊎ (l' ≡ after)
saves_cases l after l' m m' (Ok done) is = inr is.0
saves_cases l after l' m m' (Err why) is = inl is.0

pub set_cases : {X : Type 0} (l l' : Log) (state : SiteState) (m m' : Meaning) (r : Result (Unit {0}) SrlNo) (x x' : X)
    → (most_number ≤ l.header.stamp → (r ≡ Err log_no_number) × (l' ≡ l) × (x' ≡ x)) → (l.header.stamp < most_number → SavesHeader l (saved l (with_header_state l state) 0) m m' l' r)
    → (l' ≡ l) ⊎ (l' ≡ saved l (with_header_state l state) 0)
set_cases l l' state m m' r x x' limit saves =
    ⊎_elim (λ below. saves_cases l (saved l (with_header_state l state) 0) l' m m' r (saves below)) (λ past. inl (limit past).1) (cases_lt l.header.stamp most_number)

pub reclaim_cases : {X : Type 0} (l l' : Log) (to : ℕ) (m m' : Meaning) (r : Result (Unit {0}) SrlNo) (x x' : X) → l.header.low ≤ to
    → (l.header.low ≤ to → (most_number ≤ l.header.stamp) ⊎ (most_number ≤ to) → (r ≡ Err log_no_number) × (l' ≡ l) × (x' ≡ x))
    → (l.header.low ≤ to → l.header.stamp < most_number → to < most_number → SavesHeader l (saved l (without l to) (count_to l to)) m m' l' r)
    → (l' ≡ l) ⊎ (l' ≡ saved l (without l to) (count_to l to))
reclaim_cases l l' to m m' r x x' low limit saves =
    ⊎_elim
    (λ below. ⊎_elim
    (λ under. saves_cases l (saved l (without l to) (count_to l to)) l' m m' r (saves low below under))
    (λ past. inl (limit low (inr past)).1)
    (cases_lt to most_number))
    (λ past. inl (limit low (inl past)).1)
    (cases_lt l.header.stamp most_number)

pub still_up : (mine : Blocks) (P : Says) (m m' : Meaning) → Moves mine P m m' → IsFalse m'.down → IsFalse m.down
still_up mine P m m' moves up = was_up m.down m'.down moves.falls up

pub same_sound : (core : Core) (l' : Log) (mine : Blocks) (P : Says) (m m' : Meaning) → Moves mine P m m' → IsSound core m → l' ≡ core.log → IsSound (record core { log = l' }) m'
same_sound core l' mine P m m' moves sound is =
    subst (λ (l : Log). IsSound (record core { log = l }) m') (sym is)
    (ended_sound core core.log core.halted m m' (moved_sizes mine P m m' moves) sound (record { unit = refl; ring = refl; header = refl; held = refl })
    (λ running up. sound.idle running (still_up mine P m m' moves up)))

pub saved_sound : (core : Core) (g : Header) (n : ℕ) (l' : Log) (mine : Blocks) (P : Says) (m m' : Meaning) → Moves mine P m m' → g.low ≡ core.log.header.low + n → n ≤ applied_count core
    → 0 < core.log.header.low → IsSound core m → (l' ≡ core.log) ⊎ (l' ≡ saved core.log g n) → IsSound (record core { log = l' }) m'
saved_sound core g n l' mine P m m' moves low_is fewer some sound cases =
    ⊎_elim (λ is. same_sound core l' mine P m m' moves sound is)
    (λ is. subst (λ (l : Log). IsSound (record core { log = l }) m') (sym is)
    (save_sound core g n low_is fewer some m m' (moved_sizes mine P m m' moves) sound (still_up mine P m m' moves)))
    cases

-- the numbers of a reclaim
pub without_low : (l : Log) (to : ℕ) → l.header.low ≤ to → (without l to).low ≡ l.header.low + count_to l to
without_low l to low = omega (arith, low)

pub state_low : (l : Log) (state : SiteState) → (with_header_state l state).low ≡ l.header.low + 0
state_low l state = omega arith

pub reclaim_fewer : (core : Core) (to : ℕ) → to ≤ core.applied → count_to core.log to ≤ applied_count core
reclaim_fewer core to le = omega (arith, le)

taken : {A : Type 0} (t : Bool) (a b : A) → t ≡ true → (if t then a else b) ≡ a
taken true a b is = refl
taken false a b is = cc

pub reclaimed_log : (l : Log) (to : ℕ) → l.header.low ≤ to → log_without l to ≡ saved l (without l to) (count_to l to)
reclaimed_log l to low = taken (leb l.header.low to) (saved l (without l to) (count_to l to)) l (grind (arith, nat_tests))

pub reclaimed_moves : (core : Core) (to : ℕ) (m m' : Meaning) → core.log.header.low ≤ to → to ≤ core.applied → 0 < core.log.header.low → IsSound core m
    → RingGoes core.log (saving (without core.log to) (count_to core.log to)) m m' → Moves (Run core.units.srl 0 (core.log.ring + 2)) (Saving core (reclaimed core to) m) m m'
reclaimed_moves core to m m' low applied some sound goes =
    subst (λ (l : Log). Moves (Run core.units.srl 0 (core.log.ring + 2)) (Saving core (record core { log = l }) m) m m') (sym (reclaimed_log core.log to low))
    (save_moves core (without core.log to) (count_to core.log to) (without_low core.log to low) (reclaim_fewer core to applied) some m m' sound goes)

pub reclaimed_rests : (core : Core) (to : ℕ) (l' : Log) (m m' : Meaning) → core.log.header.low ≤ to → to ≤ core.applied → 0 < core.log.header.low → IsSound core m
    → (P : Says) → Moves (Run core.log.unit 0 (core.log.ring + 2)) P m m' → LeadsTo core.log (saving (without core.log to) (count_to core.log to)) l' m m'
    → l' ≡ saved core.log (without core.log to) (count_to core.log to) → Retains core (record core { log = l' }) m m'
reclaimed_rests core to l' m m' low applied some sound P moves leads is =
    subst (λ (l : Log). Retains core (record core { log = l }) m m') (sym is)
    (save_rests core (without core.log to) (count_to core.log to) (without_low core.log to low) (reclaim_fewer core to applied) some m m' sound P moves
    (subst (λ (l : Log). LeadsTo core.log (saving (without core.log to) (count_to core.log to)) l m m') is leads))

saves_done : (l after l' : Log) (m m' : Meaning) (r : Result (Unit {0}) SrlNo) (done : Unit {0}) → r ≡ Ok done → SavesHeader l after m m' l' r → l' ≡ after
saves_done l after l' m m' (Ok x) done is saves = saves.0
saves_done l after l' m m' (Err why) done is saves = cc

refused_done : (r : Result (Unit {0}) SrlNo) (done : Unit {0}) (P : Type 0) → r ≡ Ok done → r ≡ Err log_no_number → P
refused_done r done P is not = let e : Ok done ≡ Err log_no_number = sym is ∙ not in cc

pub reclaim_done : {X : Type 0} (l l' : Log) (to : ℕ) (m m' : Meaning) (r : Result (Unit {0}) SrlNo) (x x' : X) (done : Unit {0}) → r ≡ Ok done → l.header.low ≤ to
    → (l.header.low ≤ to → (most_number ≤ l.header.stamp) ⊎ (most_number ≤ to) → (r ≡ Err log_no_number) × (l' ≡ l) × (x' ≡ x))
    → (l.header.low ≤ to → l.header.stamp < most_number → to < most_number → SavesHeader l (saved l (without l to) (count_to l to)) m m' l' r)
    → l' ≡ saved l (without l to) (count_to l to)
reclaim_done l l' to m m' r x x' done is low limit saves =
    ⊎_elim
    (λ below. ⊎_elim
    (λ under. saves_done l (saved l (without l to) (count_to l to)) l' m m' r done is (saves low below under))
    (λ past. refused_done r done (l' ≡ saved l (without l to) (count_to l to)) is (limit low (inr past)).0)
    (cases_lt to most_number))
    (λ past. refused_done r done (l' ≡ saved l (without l to) (count_to l to)) is (limit low (inl past)).0)
    (cases_lt l.header.stamp most_number)

-- ---- of a group v as its own fields show it, which is the group `core`

-- a group that is sound is sound when it is halted too
pub halted_sound : {ks : List Kept} (core : Core) (m : Meaning) (why : No) → IsSoundWith ks core m → IsSoundWith ks (core_halted why core) m
halted_sound core m (No.Device disk) sound =
    record {
      placed = sound.placed;
      maps = sound.maps;
      log_unit = sound.log_unit;
      lies = sound.lies;
      idle = λ none up. cc;
      low = sound.low;
      known = sound.known;
      room = sound.room;
      waiting = sound.waiting;
    }
halted_sound core m other sound = sound

module _ (v core : Core) (view : v ≡ core) (to : ℕ) (low : v.log.header.low ≤ to) (fits : to ≤ core.applied) (some : 0 < v.log.header.low) (m m' : Meaning) (sound : IsSound core m)
    (goes : RingGoes v.log (saving (without v.log to) (count_to v.log to)) m m') where
  fits_here : to ≤ v.applied
  fits_here = subst (λ (k : Core). to ≤ k.applied) (sym view) fits

  sound_here : IsSound v m
  sound_here = subst (λ (k : Core). IsSound k m) (sym view) sound

  pub given_up_moves : Moves (Run core.units.srl 0 (core.log.ring + 2)) (Saving core (reclaimed core to) m) m m'
  given_up_moves =
      subst (λ (k : Core). Moves (Run k.units.srl 0 (k.log.ring + 2)) (Saving k (reclaimed k to) m) m m') view (reclaimed_moves v to m m' low fits_here some sound_here goes)

  module _ (l' : Log) where
    pub given_up_sound : (l' ≡ v.log) ⊎ (l' ≡ saved v.log (without v.log to) (count_to v.log to)) → IsSound (record v { log = l' }) m'
    given_up_sound cases =
        saved_sound v (without v.log to) (count_to v.log to) l' _ _ m m' goes (without_low v.log to low) (reclaim_fewer v to fits_here) some sound_here cases

    pub halted_up_sound : (why : No) → (l' ≡ v.log) ⊎ (l' ≡ saved v.log (without v.log to) (count_to v.log to)) → IsSound (core_halted why (record v { log = l' })) m'
    halted_up_sound why cases = halted_sound (record v { log = l' }) m' why (given_up_sound cases)

    pub given_up_rests : LeadsTo v.log (saving (without v.log to) (count_to v.log to)) l' m m' → l' ≡ saved v.log (without v.log to) (count_to v.log to) → Retains core (record v { log = l' }) m m'
    given_up_rests leads is =
        subst (λ (k : Core). Retains k (record v { log = l' }) m m') view (reclaimed_rests v to l' m m' low fits_here some sound_here _ goes leads is)

-- ---- a new state

pub set_done : {X : Type 0} (l l' : Log) (state : SiteState) (m m' : Meaning) (r : Result (Unit {0}) SrlNo) (x x' : X) (done : Unit {0}) → r ≡ Ok done
    → (most_number ≤ l.header.stamp → (r ≡ Err log_no_number) × (l' ≡ l) × (x' ≡ x)) → (l.header.stamp < most_number → SavesHeader l (saved l (with_header_state l state) 0) m m' l' r)
    → l' ≡ saved l (with_header_state l state) 0
set_done l l' state m m' r x x' done is limit saves =
    ⊎_elim (λ below. saves_done l (saved l (with_header_state l state) 0) l' m m' r done is (saves below))
    (λ past. refused_done r done (l' ≡ saved l (with_header_state l state) 0) is (limit past).0) (cases_lt l.header.stamp most_number)

pub state_rests : (core : Core) (state : SiteState) → 0 < core.log.header.low → (m m' : Meaning) → IsSound core m → RingGoes core.log (saving (with_header_state core.log state) 0) m m' → (l' : Log)
    → LeadsTo core.log (saving (with_header_state core.log state) 0) l' m m' → l' ≡ saved core.log (with_header_state core.log state) 0 → Retains core (record core { log = l' }) m m'
state_rests core state some m m' sound goes l' leads is =
    subst (λ (l : Log). Retains core (record core { log = l }) m m') (sym is)
    (save_rests core (with_header_state core.log state) 0 (state_low core.log state) (omega arith) some m m' sound _ goes (subst (λ (l : Log). LeadsTo core.log (saving (with_header_state core.log state) 0) l m m') is leads))
