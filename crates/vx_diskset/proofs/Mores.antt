-- How many writes calls log in a group.
use Rattle.std.proofs.Common.{◌≡◌, ◌∙◌, ℕ, ◌+◌, ◌<◌, ◌≤◌, List, length, drop, ap, sym, subst, refl, arith}
use Rattle.std.specs.Prelude.{IsTrue, Option, Some, None, Result, Ok, Err, ltb, leb, if◌then◌else◌}
use Rattle.vx_model.specs.Answer.{is_too_large}
use Rattle.vx_model.specs.declared.call.Update.{Update}
use Rattle.vx_model.specs.declared.no.No.{No}
use Rattle.vx_model.specs.declared.no.No.TheVariants.{Limit, Range, Size}
use Rattle.vx_model.specs.declared.no.Counted.TheVariants.{Number}
use Rattle.vx_model.specs.declared.state.State.{State}
use Rattle.vx_srlfmt.specs.declared.header.Header.{Header}
use Rattle.vx_srl.specs.Views.{most_number}
use Rattle.vx_srl.specs.Views.{kept_record}
use Rattle.vx_srl.specs.declared.kept.Kept.{Kept}
use Rattle.vx_disk.specs.Shelf.{Meaning}
use Rattle.vx_rvg.specs.Groups.{ApplyIs, WriteIs, Writes, halted_or, write_refusal}
use Rattle.vx_rvg.specs.Saves.{SaveIs, log_without, reclaimed}
use Rattle.vx_rvg.specs.Views.{Core, IsSound, last_of}
use Rattle.vx_secondary.specs.Receivers.{Wait}
use Rattle.vx_secondary.proofs.Waits.{wait_moved}
use Rattle.vx_diskset.specs.Rooms.{IsMore, logged_count}
use Rattle.vx_diskset.proofs.ApplyGroup.{applied_log}
use Rattle.vx_diskset.proofs.MakeRoom.{GivenUp, given_up}
use Rattle.vx_diskset.proofs.Receiving.{failed_log, same_log, wait_as}
use Rattle.vx_diskset.proofs.StaysUp.{SameLog, not_true}
use Rattle.vx_diskset.proofs.WriteGroup.{pushed}

pub more_none : (c : Core) → IsMore 0 c c
more_none c = record { units = refl; ring = refl; line = refl; last = omega arith }

more_log : (c d : Core) → SameLog c d → IsMore 0 c d
more_log c d same = record {
  units = same.units;
  ring = same.ring;
  line = ap (λ (h : Header). h.state.line) same.header;
  last = omega (arith, ap (λ (h : Header). h.low) same.header, ap (λ (ks : List Kept). length ks) same.held);
}

pub more_then : (j k n : ℕ) (c d e : Core) → j + k ≡ n → IsMore j c d → IsMore k d e → IsMore n c e
more_then j k n c d e sum one two = record {
  units = two.units ∙ one.units;
  ring = two.ring ∙ one.ring;
  line = two.line ∙ one.line;
  last = omega (arith, one.last, two.last, sum);
}

pub more_after : (k : ℕ) (c d e : Core) → IsMore 0 c d → IsMore k d e → IsMore k c e
more_after k c d e one two = more_then 0 k k c d e (omega arith) one two

pub more_applied : (r : Option No) (c d : Core) (to : ℕ) (m new : Meaning) (result : Result ℕ No) → ApplyIs r c to m new d result → IsMore 0 c d
more_applied (Some why) c d to m new result is = more_log c d (same_log c d is.1)
more_applied None c d to m new (Ok number) is = more_log c d (applied_log c number is.1.0 d is.1.1)
more_applied None c d to m new (Err why) is = more_log c d (failed_log c d m new why is)

reclaimed_more : (c : Core) (to : ℕ) → 0 < c.log.header.low → to ≤ last_of c → IsMore 0 c (reclaimed c to)
reclaimed_more c to some low =
    let given : GivenUp c.log (log_without c.log to) to = given_up c.log to some low in
    record { units = refl; ring = given.ring; line = ap (λ (s : State). s.line) given.state; last = omega (arith, given.head) }

pub more_reclaimed : (r : Option No) (c d : Core) (to : ℕ) (m new : Meaning) (result : Result (Unit {0}) No) → 0 < c.log.header.low → to ≤ last_of c → SaveIs r c (reclaimed c to) m new d result → IsMore 0 c d
more_reclaimed (Some why) c d to m new result some low is = more_log c d (same_log c d is.1)
more_reclaimed None c d to m new (Ok done) some low is = subst (λ (k : Core). IsMore 0 c k) (sym is) (reclaimed_more c to some low)
more_reclaimed None c d to m new (Err why) some low is = more_log c d (failed_log c d m new why is)

module _ (c d : Core) (vol start : ℕ) (bytes : List ℕ) (m new : Meaning) (sound : IsSound c m) (falls : IsTrue m.down → IsTrue new.down) (some : 0 < c.log.header.low) where
  done_more : (number : ℕ) → c.halted ≡ None → Writes c vol start bytes m new d (Ok number) → IsMore 1 c d
  done_more number running is =
      let idle = sound.idle running (not_true m.down (λ down. is.2 (falls down))) in
      subst (λ (k : Core). IsMore 1 c k) (sym is.1) (record {
        units = refl;
        ring = refl;
        line = refl;
        last = pushed c.log.header.low c.log.held c.log.staged (kept_record c.log vol start bytes) some (ap (λ (ks : List Kept). length ks) idle);
      })

  by_write : (o : Option No) (result : Result ℕ No) → (o ≡ None → c.halted ≡ None) → WriteIs o c vol start bytes m new d result → IsMore (logged_count result) c d
  by_write (Some why) result running is = subst (λ (r : Result ℕ No). IsMore (logged_count r) c d) (sym is.0) (more_log c d (same_log c d is.1))
  by_write None (Ok number) running is = done_more number (running refl) is
  by_write None (Err why) running is = more_log c d (failed_log c d m new why is)

  runs : (h : Option ℕ) (rest : Option No) → halted_or h rest ≡ None → h ≡ None
  runs None rest is = refl
  runs (Some disk) rest is = absurd (cc)

  pub more_written : (size count : ℕ) (result : Result ℕ No) → WriteIs (write_refusal c size start count) c vol start bytes m new d result → IsMore (logged_count result) c d
  more_written size count result is =
      by_write (write_refusal c size start count) result
      (λ none. runs c.halted (if is_too_large c.log.ring count then Some Size else if ltb size (start + count) then Some Range else if leb most_number (last_of c) then Some (Limit Number most_number) else None) none) is

  by_down : (o : Option No) (result : Result ℕ No) → IsTrue new.down → WriteIs o c vol start bytes m new d result → IsMore 0 c d
  by_down (Some why) result down is = more_log c d (same_log c d is.1)
  by_down None (Ok number) down is = absurd (is.2 down)
  by_down None (Err why) down is = more_log c d (failed_log c d m new why is)

  pub more_down : (size count : ℕ) (result : Result ℕ No) → IsTrue new.down → WriteIs (write_refusal c size start count) c vol start bytes m new d result → IsMore 0 c d
  more_down size count result down is = by_down (write_refusal c size start count) result down is

-- what waits behind it
pub wait_more : (k : ℕ) (c d : Core) (one two : ℕ → ℕ) (us : List Update) → IsMore k c d → ((u : ℕ) → two u ≡ one u) → Wait c one us → Wait d two (drop k us)
wait_more k c d one two us more sizes wait =
    wait_as e d two two (drop k us) refl refl more.line refl (λ u. refl)
    (wait_moved k c e one two us wait (record { units = more.units; ring = more.ring; state = refl; session = refl; stamp = omega arith }) more.last sizes)
  where
    e : Core
    e = record d { log = record d.log { header = record d.log.header { state = c.log.header.state; incarnation = c.log.header.incarnation; stamp = c.log.header.stamp } } }
