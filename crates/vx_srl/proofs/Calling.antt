-- A call on a log, by the acts that it makes on the shelf.
use Rattle.std.proofs.Common.{◌≡◌, ℕ, ◌+◌, List, refl, sym, subst}
use Rattle.vx_disk.specs.Moves.{Run}
use Rattle.vx_disk.specs.Shelf.{Meaning}
use Rattle.vx_disk.proofs.Moving.{still}
use Rattle.vx_ringlog.specs.Cells.{Act, Always, Cells, Leaves, run_all}
use Rattle.vx_ringlog.specs.Logs.{Allowed, Call, Found, IsLog, Restart, Save, Seal, Stage, State, acts_of, behind_call}
use Rattle.vx_ringlog.proofs.Calls.{call_safe}
use Rattle.vx_ringio.specs.Classes.{classes}
use Rattle.vx_ringio.specs.Tracks.{Arrives, Follows, Tracks}
use Rattle.vx_ringio.proofs.Following.{always_left, following_gives}
use Rattle.vx_srl.specs.Rings.{Describes, Finding, RingGoes, LeadsTo, RingOn}
use Rattle.vx_srl.specs.Views.{Log}

-- of every log that stands on the shelf: the call is one that it allows, and these are its acts
pub record Makes (l : Log) (call : State → Call) (acts : List Act) (m : Meaning) : Type 0 where
  pub allowed : (s : State) → RingOn l s m → Allowed l.ring s (call s)
  pub acts_are : (s : State) → RingOn l s m → acts_of l.ring s (call s) ≡ acts

-- no call on the shelf
pub goes_nowhere : (l : Log) (call : State → Call) (m : Meaning) → RingGoes l call m m
goes_nowhere l call m = still (Run l.unit 0 (l.ring + 2)) (Finding l call m) m

pub makes_goes : (l : Log) (call : State → Call) (acts : List Act) (old new : Meaning) → Makes l call acts old → Follows l.unit l.ring acts old new → RingGoes l call old new
makes_goes l call acts old new makes follows =
    following_gives l.unit l.ring acts (Finding l call old) old new follows
    (λ i amid. record {
      each = λ s on.
          let safe : Always (Leaves (Found l.ring s (call s))) s.unit acts
          = subst (λ (x : List Act). Always (Leaves (Found l.ring s (call s))) s.unit x) (makes.acts_are s on) (call_safe l.ring s (call s) on.is_log (makes.allowed s on)).0 in
          always_left (Found l.ring s (call s)) s.unit acts (classes l.unit l.ring i) safe (amid.each s.unit on.tracks);
    })

-- the cells behind a call are those behind its acts
pub done_unit : (ring : ℕ) (s : State) (c : Call) → (behind_call ring s c).unit ≡ run_all s.unit (acts_of ring s c)
done_unit ring s (Stage r) = refl
done_unit ring s Seal = refl
done_unit ring s (Save g gone kept) = refl
done_unit ring s (Restart g) = refl

-- the log behind a call, of which memory keeps this
pub makes_leads : (l : Log) (call : State → Call) (acts : List Act) (after : Log) (old new : Meaning) → Makes l call acts old → Arrives l.unit l.ring acts old new
    → after.unit ≡ l.unit → after.ring ≡ l.ring → ((s : State) → RingOn l s old → Describes after (behind_call l.ring s (call s))) → LeadsTo l call after old new
makes_leads l call acts after old new makes arrives same_unit same_ring described = record {
  each = λ s on.
      let cells : run_all s.unit acts ≡ (behind_call l.ring s (call s)).unit = subst (λ (x : List Act). run_all s.unit x ≡ (behind_call l.ring s (call s)).unit) (makes.acts_are s on) (sym (done_unit l.ring s (call s))) in
      let tracks : Tracks l.unit l.ring (behind_call l.ring s (call s)).unit new = subst (λ (u : Cells). Tracks l.unit l.ring u new) cells (arrives.each s.unit on.tracks) in
      let stands : IsLog l.ring (behind_call l.ring s (call s)) = (call_safe l.ring s (call s) on.is_log (makes.allowed s on)).1 in
      record {
        is_log = subst (λ (r : ℕ). IsLog r (behind_call l.ring s (call s))) (sym same_ring) stands;
        tracks = subst (λ (r : ℕ). Tracks after.unit r (behind_call l.ring s (call s)).unit new) (sym same_ring)
            (subst (λ (n : ℕ). Tracks n l.ring (behind_call l.ring s (call s)).unit new) (sym same_unit) tracks);
        describes = described s on;
      };
}
