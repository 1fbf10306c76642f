-- An engine without volumes does as an engine must.
use Rattle.std.proofs.Common.{◌≡◌, ℕ, zero, suc, ◌+◌, ◌<◌, ◌||◌, Bool, true, false, List, [], ◌∷◌, ◌++◌, refl, sym, ◌∙◌, subst, inl, inr, arith, Some, slice_get}
use Rattle.std.proofs.lemmas.Bool.{lt-ltb}
use Rattle.std.specs.Prelude.{if◌then◌else◌}
use Rattle.vx_model.specs.Answer.{Shows, Accepts, WrongSize, OutOfRange, is_wrong_count, is_past, is_too_large}
use Rattle.vx_model.specs.Content.{blocks_in, blocks_from}
use Rattle.vx_model.specs.declared.call.Call.{Call}
use Rattle.vx_model.specs.declared.call.Call.TheVariants.{Read, Write as WriteBlocks}
use Rattle.vx_model.specs.declared.call.Reply.TheVariants.{Refused}
use Rattle.vx_model.specs.declared.call.Update.{Update}
use Rattle.vx_model.specs.declared.no.No.{No}
use Rattle.vx_model.specs.declared.no.No.TheVariants as no
use Rattle.vx_turn.specs.declared.ask.Ask.TheVariants.{Ordered, Charged}
use Rattle.vx_turn.specs.declared.ask.Said.TheVariants.{Replied, Worked}
use Rattle.vx_turn.specs.declared.ask.Job.{Job}
use Rattle.vx_turn.specs.declared.ask.Job.TheVariants.{Apply, Fetch, Acked, Wait}
use Rattle.vx_turn.specs.declared.ask.JobReply.{JobReply}
use Rattle.vx_turn.specs.declared.ask.JobReply.TheVariants as job
use Rattle.vx_turn.specs.Acting.{EngineActs, RepliesBy, LogsUpdate, NamesLink, Nets, volumes_after}
use Rattle.vx_turn.specs.Volumes.{as_content}
use Rattle.vx_settle.specs.declared.peer.Ack.{Ack}
use Rattle.vx_settle.specs.declared.peer.Stand.{Stand}
use Rattle.vx_settle.specs.Peers.{Hands}
use Rattle.vx_settle.specs.Bringing.{Events}
use Rattle.vx_plain.specs.Trails.{shut, no_counts, IsRefusedCall, IsSaid}

-- a write has no room in the log
pub write-size : (v s : ℕ) (bytes : List ℕ) → IsRefusedCall (WriteBlocks v s bytes) no.Size
write-size v s bytes = subst (λ (b : Bool). RepliesBy (if b then WrongSize else if is_past (as_content []) v s (blocks_in bytes) then OutOfRange else Accepts) 0 (WriteBlocks v s bytes) (Refused no.Size) no_counts no_counts)
    (sym (right (is_wrong_count (blocks_in bytes)) (is_too_large 0 (blocks_in bytes)) (lt-ltb 0 (blocks_in bytes + 1) (omega arith)))) tt
  where
    right : (b c : Bool) → c ≡ true → (b || c) ≡ true
    right true c e = refl
    right false c e = e

pub read-size : (v s count : ℕ) → is_wrong_count count ≡ true → IsRefusedCall (Read v s count) no.Size
read-size v s count e = subst (λ (b : Bool). RepliesBy (if b then WrongSize else if is_past (as_content []) v s count then OutOfRange else Shows (blocks_from (as_content []) v s count)) 0 (Read v s count) (Refused no.Size) no_counts no_counts)
    (sym e) tt

pub read-range : (v s count : ℕ) → is_wrong_count count ≡ false → 0 < count → IsRefusedCall (Read v s count) no.Range
read-range v s count e some = subst (λ (b : Bool × Bool). RepliesBy (if b.0 then WrongSize else if b.1 then OutOfRange else Shows (blocks_from (as_content []) v s count)) 0 (Read v s count) (Refused no.Range) no_counts no_counts)
    (λ i. (sym e i, sym (lt-ltb 0 (s + count) (omega (arith, some))) i)) tt

pub refused : (xs ys : Events) (call : Call) (cause : No) → IsRefusedCall call cause → ys ≡ xs ++ (Ordered call, Replied (Refused cause)) ∷ [] → EngineActs (shut xs) (Ordered call) (Replied (Refused cause)) (shut ys)
refused xs ys call cause ok is = record {
  rises = (omega arith, omega arith);
  held = inl refl;
  replied = inr ok;
  tells = tt;
  volumes_is = same call;
  ring_is = refl;
  head_is = refl;
  applied = (omega arith, omega arith);
  line_is = refl;
  keeps = λ u m. inl m;
  logged = λ u l. absurd (none call u l);
  nets = refl;
  halts = λ h. absurd (cc h);
  trail_is = is;
}
  where
    same : (c : Call) → [] ≡ volumes_after [] (Ordered c) (Replied (Refused cause))
    same (Read v s n) = refl
    same (WriteBlocks v s bytes) = refl

    none : (c : Call) (u : Update) → LogsUpdate (record { generation = 0; origin = 0 }) (Ordered c) (Replied (Refused cause)) u → ⊥
    none (Read v s n) u l = l
    none (WriteBlocks v s bytes) u l = l

pub worked : (xs ys : Events) (j : Job) (reply : JobReply) (into : Update) → IsSaid j reply → NamesLink 2 j → ys ≡ xs ++ (Charged j, Worked reply into) ∷ [] → EngineActs (shut xs) (Charged j) (Worked reply into) (shut ys)
worked xs ys j reply into ok link is = record {
  rises = (omega arith, omega arith);
  held = refl;
  replied = tt;
  tells = ok xs ys into link;
  volumes_is = refl;
  ring_is = refl;
  head_is = refl;
  applied = (omega arith, omega arith);
  line_is = refl;
  keeps = λ u m. inl m;
  logged = λ u l. absurd l;
  nets = links j;
  halts = λ h. absurd (cc h);
  trail_is = is;
}
  where
    one : (n m : ℕ) → Some n ≡ Some m → n ≡ m
    one n m e = cc e

    links : (k : Job) → Nets (Charged k) (0 ∷ 0 ∷ []) (0 ∷ 0 ∷ [])
    links (Apply n) = refl
    links (Fetch n) = refl
    links (Acked link net stored) = (refl, λ i n m x y. let e : n ≡ m = one n m (sym x ∙ y) in (omega (arith, e), λ far. sym e))
    links (Wait n) = refl

pub said-apply : (n : ℕ) → IsSaid (Apply n) job.Nothing
said-apply n xs ys into link = omega arith

pub said-fetch : (n : ℕ) → 0 < n → IsSaid (Fetch n) job.Nothing
said-fetch n some xs ys into link = some

pub said-gone : (n : ℕ) → n ≡ 0 → IsSaid (Fetch n) (job.Gone 1)
said-gone n is xs ys into link = ((omega (arith, is), λ u m. absurd (cc m.1)), inl (refl, refl))

pub said-acked : (link net stored : ℕ) → IsSaid (Acked link net stored) (job.Done 0)
said-acked zero net stored xs ys into link = refl
said-acked (suc zero) net stored xs ys into link = refl
said-acked (suc (suc k)) net stored xs ys into link = absurd (omega (arith, link))

pub said-wait : (n : ℕ) → IsSaid (Wait n) job.Nothing
said-wait n xs ys into link = tt

-- a peer without volumes takes nothing
pub hands-none : (s : Stand) (u : Update) (ack : Ack) → s.sizes ≡ [] → ack.net ≡ s.net → ack.stored ≡ s.stored → Hands s u ack s
hands-none s u ack none net stored = record {
  goes = record { link = refl; line = refl; sizes = refl; faults = omega arith; net = omega arith; stored = omega arith };
  net = net;
  stored = stored;
  handed = inl (refl, refl);
  next = λ calm line number lies. absurd (cc (subst (λ (l : List ℕ). slice_get l u.vol ≡ Some lies.0) none lies.1));
}
