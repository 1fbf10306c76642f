-- What a line is answered and prints, where sites may keep links and be in doubt.
use Rattle.std.proofs.Common.{◌≡◌, ◌∙◌, ◌+◌, List, [], length, true, false, ap, sym, subst, refl, arith}
use Rattle.std.specs.Prelude.{IfOk, Option, Some, None, Result, Ok, Err, nat_lt, suc, ℕ, if◌then◌else◌}
use Rattle.vx_history.specs.Doubts.{Doubted}
use Rattle.vx_history.specs.World.{World}
use Rattle.vx_model.specs.declared.no.No.{No}
use Rattle.vx_disk.specs.declared.shelf.Shelf.{Ghosts}
use Rattle.vx_order.specs.Order.{line_refusal}
use Rattle.vx_order.specs.Packets.{packet_unknown}
use Rattle.vx_order.specs.declared.facts.SiteFacts.{SiteFacts}
use Rattle.vx_script.specs.declared.line.ScriptLine.{ScriptLine}
use Rattle.vx_script.specs.declared.line.ScriptLine.TheVariants.{Deliver, Settle}
use Rattle.vx_events.specs.RvgSteps.{FullBy, is_for_rvg}
use Rattle.vx_events.specs.StepsOver.{refused_over}
use Rattle.vx_events.specs.Sent.{sent_between}
use Rattle.vx_events.specs.declared.said.Said.{Said}
use Rattle.vx_events.specs.declared.said.Said.TheVariants.{Refused}
use Rattle.vx_yard.specs.Carries.{Carries}
use Rattle.vx_yard.specs.OfSites.{AsSettled, HasCalled}
use Rattle.vx_yard.specs.Replies.{text_of}
use Rattle.vx_yard.specs.Standing.{AnswersFor, StandsFor, StaysFor, StepsFor}
use Rattle.vx_yard.specs.Working.{IsFree, refused_in, takes_memory}
use Rattle.vx_yard.specs.Yards.{IsTold, count_of, in_files}
use Rattle.vx_yard.specs.declared.yard.Yard.{Yard}
use Rattle.vx_yard.proofs.Carrying.{sent_count}
use Rattle.vx_yard.proofs.ChangeSite.{rose_none}
use Rattle.vx_yard.proofs.OfSites.{all_still}

-- the packets that a line sent, by how many there were before and are behind it
sent_as : (w new : World) (before count : ℕ) → before ≡ length w.packets → count ≡ length new.packets → (if nat_lt before count then Some (before + 1, count) else None) ≡ sent_between w new
sent_as w new before count was now =
    let next : length w.packets + 1 ≡ suc (length w.packets) = omega arith in
    ap (λ (k : ℕ). if nat_lt k count then Some (k + 1, count) else None) was
    ∙ ap (λ (k : ℕ). if nat_lt (length w.packets) k then Some (length w.packets + 1, k) else None) now
    ∙ ap (λ (k : ℕ). if nat_lt (length w.packets) (length new.packets) then Some (k, length new.packets) else None) next

-- what holds of any answer
pub if_ok : {T E : Type 0} (P : T → Type 0) (r : Result T E) → ((x : T) → P x) → IfOk r P
if_ok P (Ok x) all = all x
if_ok P (Err e) all = tt

-- a line for which memory may be short
pub memory_taken : {P : Type 0} → (words line : ScriptLine) → words ≡ line → takes_memory line ≡ true → takes_memory words ≡ false → P
memory_taken words line is taken none = absurd (let e : true ≡ false = sym taken ∙ ap takes_memory (sym is) ∙ none in cc)

module _ {R : Type 0} {g : Ghosts R} where
  -- a line is refused by what the tests see of the yard
  pub tested : (d : Doubted) (y : Yard R g) (line : ScriptLine) → StandsFor d y → Carries d y → refused_over d.world (in_files y) line ≡ refused_in y line
  tested d y (Deliver number) stands carries = ap (λ (k : ℕ). packet_unknown k number) (sym (sent_count d y carries))
  tested d y other stands carries = ap (λ (fs : List SiteFacts). line_refusal fs (in_files y) other) (sym stands.facts)

  -- of one that delivers it is the network
  pub refused_other : (y : Yard R g) (line : ScriptLine) → ((number : ℕ) → line ≡ Deliver number → ⊥) → line_refusal y.facts.items (in_files y) line ≡ refused_in y line
  refused_other y (Deliver number) not = absurd (not number refl)
  refused_other y other not = refl

  -- one that settles no link
  pub other_settled : (line : ScriptLine) (old new : Yard R g) → ((p s : List ℕ) → line ≡ Settle p s → ⊥) → AsSettled line old new
  other_settled (Settle p s) old new not = absurd (not p s refl)
  other_settled other old new not = tt

  pub settled_still : (line : ScriptLine) (y : Yard R g) → AsSettled line y y
  settled_still (Settle p s) y = all_still y y refl
  settled_still other y = tt

  -- nothing of a line was done
  pub stays_still : (d : Doubted) (y : Yard R g) → StandsFor d y → StaysFor d y y
  stays_still d y stands = record { stands = stands; carries = λ was. was; rose = rose_none (count_of y) (count_of y) (λ s u. omega arith) }

  -- one that is refused changes nothing
  pub refusal_answer : (d : Doubted) (line : ScriptLine) (y : Yard R g) (why : No) → StandsFor d y → Carries d y → refused_in y line ≡ Some why → AnswersFor d line (Refused why) y y
  refusal_answer d line y why stands carries is =
      let some : refused_over d.world (in_files y) line ≡ Some why = tested d y line stands carries ∙ is in
      record {
        next = d;
        fails = [];
        step = subst (λ (o : Option No). FullBy o (IsTold y) d line [] (Refused why) d) (sym some) (record { none = refl; says = refl; stays = refl });
        stands = stands;
        carries = λ was. was;
        rose = rose_none (count_of y) (count_of y) (λ s u. omega arith);
      }

  -- what it prints, with the numbers of the packets that it sent
  pub answer_steps : (d : Doubted) (line : ScriptLine) (old new : Yard R g) (said : Said) (before count : ℕ) (sent : Option (ℕ × ℕ)) → Carries d old → before ≡ old.flight.count → count ≡ new.flight.count
      → sent ≡ (if nat_lt before count then Some (before + 1, count) else None) → AnswersFor d line said old new → (IsFree old line → is_for_rvg d.world line ≡ false → HasCalled d.world line said old new) → StepsFor d line old new (text_of said sent)
  answer_steps d line old new said before count sent was first last is a called = record {
    next = a.next;
    fails = a.fails;
    prints = record {
      said = said;
      step = a.step;
      is = ap (λ (o : Option (ℕ × ℕ)). text_of said o) (is ∙ sent_as d.world a.next.world before count (first ∙ sent_count d old was) (last ∙ sent_count a.next new (a.carries was)));
    };
    stands = a.stands;
    carries = a.carries;
    rose = a.rose;
    called = λ free off. called free off;
  }
