-- A small log does as an engine must.
use Rattle.std.proofs.Common.{◌≡◌, ◌≢◌, ◌⊎◌, ℕ, zero, suc, ◌+◌, ◌-◌, ◌<◌, ◌≤◌, ◌||◌, Bool, true, false, List, [], ◌∷◌, ◌++◌, length, refl, ap, sym, ◌∙◌, subst, ⊎_elim, inl, inr, arith, Some, slice_get, slice_set, slice_index_or}
use Rattle.std.proofs.Common.{length-append}
use Rattle.std.proofs.lemmas.Bool.{lt-ltb, le-ltb, ne_eqb}
use Rattle.std.specs.Prelude.{if◌then◌else◌}
use Rattle.vx_model.specs.Answer.{Answer, Shows, Accepts, WrongSize, OutOfRange, answer_of, is_wrong_count, is_past, is_too_large}
use Rattle.vx_model.specs.Content.{Content, blocks_in, blocks_from, put}
use Rattle.vx_model.specs.declared.call.Call.{Call}
use Rattle.vx_model.specs.declared.call.Call.TheVariants.{Read, Write as WriteBlocks}
use Rattle.vx_model.specs.declared.call.Reply.TheVariants.{Logged, Refused}
use Rattle.vx_model.specs.declared.call.Update.{Update}
use Rattle.vx_model.specs.declared.no.No.{No}
use Rattle.vx_model.specs.declared.no.No.TheVariants as no
use Rattle.vx_turn.specs.declared.ask.Ask.TheVariants.{Ordered, Charged}
use Rattle.vx_turn.specs.declared.ask.Said.TheVariants.{Replied, Worked}
use Rattle.vx_turn.specs.declared.ask.Job.{Job}
use Rattle.vx_turn.specs.declared.ask.Job.TheVariants.{Apply, Fetch, Acked, Wait}
use Rattle.vx_turn.specs.declared.ask.JobReply.{JobReply}
use Rattle.vx_turn.specs.declared.ask.JobReply.TheVariants as job
use Rattle.vx_turn.specs.declared.meaning.Counts.{Counts}
use Rattle.vx_turn.specs.Acting.{LiesAmong, HoldsBy, RepliesBy, LogsUpdate, Nets, SaysJob, volumes_after}
use Rattle.vx_turn.specs.Volumes.{as_content, blocks_as}
use Rattle.vx_turn.proofs.Histories.{among-split}
use Rattle.vx_settle.proofs.Bringings.{among-right, among-one}
use Rattle.vx_settle.proofs.ManyPeers.{some-one, get-set, set-here, set-long, get-inside}
use Rattle.vx_settle.specs.Bringing.{Events}
use Rattle.vx_plain.specs.declared.small.Core.{Core}
use Rattle.vx_plain.specs.declared.small.Slip.{Slip}
use Rattle.vx_plain.specs.declared.small.TheConstants.{VOLUME_BLOCKS, RING_BLOCKS}
use Rattle.vx_plain.specs.Logging.{blocks_after, blocks_after_all, blank_volume, update_for, kept_from, logging, Does, RaisesCount, HeldFor}

blocks-snoc : (bs : List (List ℕ)) (ss : List Slip) (s : Slip) → blocks_after_all bs (ss ++ s ∷ []) ≡ blocks_after (blocks_after_all bs ss) s
blocks-snoc bs [] s = refl
blocks-snoc bs (x ∷ ss) s = blocks-snoc (blocks_after bs x) ss s

as-long : (c : Content) (v b : ℕ) (xs : List (List ℕ)) → length (blocks_as c v b xs) ≡ length xs
as-long c v b [] = refl
as-long c v b (x ∷ xs) = ap suc (as-long c v (suc b) xs)

blocks-long : (bs : List (List ℕ)) (ss : List Slip) → length (blocks_after_all bs ss) ≡ length bs
blocks-long bs [] = refl
blocks-long bs (s ∷ ss) = blocks-long (blocks_after bs s) ss ∙ as-long (put (as_content (bs ∷ [])) (record { volume = s.vol; start = s.start; bytes = s.bytes })) 0 0 bs

size : (ss : List Slip) → length (blocks_after_all blank_volume ss) ≡ VOLUME_BLOCKS
size ss = blocks-long blank_volume ss ∙ refl

kept-snoc : (n m : ℕ) (ss : List Slip) (s : Slip) → m ≡ n + suc (length ss) → kept_from n (ss ++ s ∷ []) ≡ kept_from n ss ++ update_for m s ∷ []
kept-snoc n m [] s is = let e : suc n ≡ m = omega (arith, is) in ap (λ k. update_for k s ∷ []) e
kept-snoc n m (x ∷ ss) s is = ap (λ l. update_for (suc n) x ∷ l) (kept-snoc (suc n) m ss s (omega (arith, is)))

-- the update of a number
pub kept-get : (n k : ℕ) (ss : List Slip) (s : Slip) → slice_get ss k ≡ Some s → slice_get (kept_from n ss) k ≡ Some (update_for (n + suc k) s)
kept-get n k [] s at = absurd (cc at)
kept-get n zero (x ∷ ss) s at = let e : suc n ≡ n + 1 = omega arith in λ i. Some (update_for (e i) (some-one at i))
kept-get n (suc k) (x ∷ ss) s at = let e : suc n + suc k ≡ n + suc (suc k) = omega arith in kept-get (suc n) k ss s at ∙ ap (λ m. Some (update_for m s)) e

pub kept-at : (n : ℕ) (ss : List Slip) (s : Slip) → 0 < n → slice_get ss (n - 1) ≡ Some s → slice_get (kept_from 0 ss) (n - 1) ≡ Some (update_for n s)
kept-at n ss s some at = let e : 0 + suc (n - 1) ≡ n = omega (arith, some) in kept-get 0 (n - 1) ss s at ∙ ap (λ m. Some (update_for m s)) e

abbrev pub counts : Core → Counts
counts c = record { faults = c.faults; held = c.held }

abbrev pub answer : Core → Call → Answer
answer c call = answer_of (as_content (blocks_after_all blank_volume c.slips.items ∷ [])) RING_BLOCKS call

-- a refusal changes counts alone
pub does-refused : (c d : Core) (call : Call) (cause : No) → d.slips.items ≡ c.slips.items → d.nets ≡ c.nets → c.faults ≤ d.faults → c.held ≤ d.held → HoldsBy (Ordered call) (Replied (Refused cause)) c.held d.held
    → RepliesBy (answer c call) (length c.slips.items) call (Refused cause) (counts c) (counts d) → Does c (Ordered call) (Replied (Refused cause)) d
does-refused c d call cause slips nets faults held holds ok xs ys is = record {
  rises = (faults, held);
  held = holds;
  replied = inr ok;
  tells = tt;
  volumes_is = ap (λ l. blocks_after_all blank_volume l ∷ []) slips ∙ same call;
  ring_is = refl;
  head_is = ap (λ l. length l) slips;
  applied = (let same : length d.slips.items ≡ length c.slips.items = ap (λ l. length l) slips in omega (arith, same), omega arith);
  line_is = refl;
  keeps = λ u m. inl (subst (λ l. LiesAmong u (kept_from 0 l)) slips m);
  logged = λ u l. absurd (none call u l);
  nets = nets;
  halts = λ h. absurd (cc h);
  trail_is = is;
}
  where
    same : (k : Call) → blocks_after_all blank_volume c.slips.items ∷ [] ≡ volumes_after (blocks_after_all blank_volume c.slips.items ∷ []) (Ordered k) (Replied (Refused cause))
    same (Read v s n) = refl
    same (WriteBlocks v s bytes) = refl

    none : (k : Call) (u : Update) → LogsUpdate (record { generation = 0; origin = 0 }) (Ordered k) (Replied (Refused cause)) u → ⊥
    none (Read v s n) u l = l
    none (WriteBlocks v s bytes) u l = l

-- a number of blocks that a call may have
right-count : (n : ℕ) → 0 < n → n ≤ 16 → is_wrong_count n ≡ false
right-count n some few = λ i. ne_eqb n 0 (λ e. absurd (omega (arith, e, some))) i || le-ltb 16 n few i

right-write : (n : ℕ) → 0 < n → n ≤ 16 → (is_wrong_count n || is_too_large RING_BLOCKS n) ≡ false
right-write n some few = λ i. right-count n some few i || le-ltb RING_BLOCKS (n + 1) (omega (arith, few)) i

size-other : (bs : List (List ℕ)) (v : ℕ) → 0 < v → length (slice_index_or (bs ∷ []) v []) ≡ 0
size-other bs zero some = absurd (omega (arith, some))
size-other bs (suc v) some = refl

-- blocks that end past the volume, or those of no volume
past : (c : Core) (v s n : ℕ) → (0 < v) ⊎ (VOLUME_BLOCKS < s + n) → 0 < n → is_past (as_content (blocks_after_all blank_volume c.slips.items ∷ [])) v s n ≡ true
past c v s n how some = ⊎_elim (λ (o : 0 < v). let e = size-other (blocks_after_all blank_volume c.slips.items) v o in lt-ltb (length (slice_index_or (blocks_after_all blank_volume c.slips.items ∷ []) v [])) (s + n) (omega (arith, e, some)))
    (λ (o : VOLUME_BLOCKS < s + n). either v o) how
  where
    either : (v : ℕ) → VOLUME_BLOCKS < s + n → is_past (as_content (blocks_after_all blank_volume c.slips.items ∷ [])) v s n ≡ true
    either zero o = let e = size c.slips.items in lt-ltb (length (blocks_after_all blank_volume c.slips.items)) (s + n) (omega (arith, e, o))
    either (suc v) o = lt-ltb 0 (s + n) (omega (arith, some))

within : (c : Core) (v s n : ℕ) → v ≡ 0 → s + n ≤ VOLUME_BLOCKS → is_past (as_content (blocks_after_all blank_volume c.slips.items ∷ [])) v s n ≡ false
within c zero s n is le = let e = size c.slips.items in le-ltb (length (blocks_after_all blank_volume c.slips.items)) (s + n) (omega (arith, e, le))
within c (suc v) s n is le = absurd (omega (arith, is))

abbrev pub write_answer : Bool → Bool → Answer
write_answer wrong over = if wrong then WrongSize else if over then OutOfRange else Accepts

accepts : (c : Core) (v s : ℕ) (bytes : List ℕ) → v ≡ 0 → s + blocks_in bytes ≤ VOLUME_BLOCKS → 0 < blocks_in bytes → blocks_in bytes ≤ 16 → Accepts ≡ answer c (WriteBlocks v s bytes)
accepts c v s bytes is le some few = λ i. write_answer (sym (right-write (blocks_in bytes) some few) i) (sym (within c v s (blocks_in bytes) is le) i)

pub write-range : (c : Core) (v s : ℕ) (bytes : List ℕ) → (0 < v) ⊎ (VOLUME_BLOCKS < s + blocks_in bytes) → 0 < blocks_in bytes → blocks_in bytes ≤ 16 → Does c (Ordered (WriteBlocks v s bytes)) (Replied (Refused no.Range)) c
write-range c v s bytes how some few = does-refused c c (WriteBlocks v s bytes) no.Range refl refl (omega arith) (omega arith) (inl refl)
    (subst (λ a. RepliesBy a (length c.slips.items) (WriteBlocks v s bytes) (Refused no.Range) (counts c) (counts c)) over tt)
  where
    over : OutOfRange ≡ answer c (WriteBlocks v s bytes)
    over = λ i. write_answer (sym (right-write (blocks_in bytes) some few) i) (sym (past c v s (blocks_in bytes) how some) i)

-- a write that is held
pub write-held : (c e d : Core) (v s : ℕ) (bytes : List ℕ) (cause : No) → v ≡ 0 → s + blocks_in bytes ≤ VOLUME_BLOCKS → 0 < blocks_in bytes → blocks_in bytes ≤ 16 → e.slips.items ≡ c.slips.items → e.nets ≡ c.nets → e.faults ≡ c.faults → e.held ≡ c.held
    → HeldFor e cause d → Does c (Ordered (WriteBlocks v s bytes)) (Replied (Refused cause)) d
write-held c e d v s bytes cause is le some few slips nets faults held h = does-refused c d (WriteBlocks v s bytes) cause (h.2 ∙ slips) (h.3 ∙ nets) (let a = h.4 in omega (arith, a, faults)) (let a = h.1.0 in omega (arith, a, held)) (inr (h.0, tt))
    (subst (λ a. RepliesBy a (length c.slips.items) (WriteBlocks v s bytes) (Refused cause) (counts c) (counts d)) (accepts c v s bytes is le some few) (inr (h.0, tt, subst (λ n. Rattle.vx_turn.specs.Acting.CountRose n d.held) held h.1.1)))

-- a write that is logged
pub write-logged : (c d : Core) (v s : ℕ) (bytes : List ℕ) → v ≡ 0 → s + blocks_in bytes ≤ VOLUME_BLOCKS → 0 < blocks_in bytes → blocks_in bytes ≤ 16 → d.slips.items ≡ c.slips.items ++ record { vol = v; start = s; bytes = bytes } ∷ []
    → d.nets ≡ c.nets → d.faults ≡ c.faults → d.held ≡ c.held → Does c (Ordered (WriteBlocks v s bytes)) (Replied (Logged (length d.slips.items))) d
write-logged c d v s bytes is le some few slips nets faults held xs ys trail = record {
  rises = (omega (arith, faults), omega (arith, held));
  held = held;
  replied = inr (subst (λ a. RepliesBy a (length c.slips.items) (WriteBlocks v s bytes) (Logged (length d.slips.items)) (counts c) (counts d)) (accepts c v s bytes is le some few) long);
  tells = tt;
  volumes_is = ap (λ l. l ∷ []) (ap (blocks_after_all blank_volume) slips ∙ blocks-snoc blank_volume c.slips.items slip);
  ring_is = refl;
  head_is = refl;
  applied = (omega (arith, long), omega arith);
  line_is = refl;
  keeps = λ u m. ⊎_elim (λ (o : LiesAmong u (kept_from 0 c.slips.items)). inl o) (λ (o : LiesAmong u (update_for (length d.slips.items) slip ∷ [])). inr (sym (among-one u (update_for (length d.slips.items) slip) o)))
      (among-split u (kept_from 0 c.slips.items) (update_for (length d.slips.items) slip ∷ []) (subst (LiesAmong u) kept m));
  logged = λ u l. subst (λ x. LiesAmong x (kept_from 0 d.slips.items)) (sym l) (subst (LiesAmong (update_for (length d.slips.items) slip)) (sym kept)
      (among-right (update_for (length d.slips.items) slip) (kept_from 0 c.slips.items) (update_for (length d.slips.items) slip ∷ []) (0, refl)));
  nets = nets;
  halts = λ h. absurd (cc h);
  trail_is = trail;
}
  where
    slip : Slip
    slip = record { vol = v; start = s; bytes = bytes }

    long : length d.slips.items ≡ length c.slips.items + 1
    long = let a : length d.slips.items ≡ length (c.slips.items ++ record { vol = v; start = s; bytes = bytes } ∷ []) = ap (λ l. length l) slips in
        let b = length-append c.slips.items (record { vol = v; start = s; bytes = bytes } ∷ []) in omega (arith, a, b)

    kept : kept_from 0 d.slips.items ≡ kept_from 0 c.slips.items ++ update_for (length d.slips.items) (record { vol = v; start = s; bytes = bytes }) ∷ []
    kept = ap (kept_from 0) slips ∙ kept-snoc 0 (length d.slips.items) c.slips.items (record { vol = v; start = s; bytes = bytes }) (omega (arith, long))

read_answer : Core → ℕ → ℕ → ℕ → Bool → Bool → Answer
read_answer c v s n wrong over = if wrong then WrongSize else if over then OutOfRange else Shows (blocks_from (as_content (blocks_after_all blank_volume c.slips.items ∷ [])) v s n)

pub read-size : (c : Core) (v s n : ℕ) → is_wrong_count n ≡ true → Does c (Ordered (Read v s n)) (Replied (Refused no.Size)) c
read-size c v s n wrong = does-refused c c (Read v s n) no.Size refl refl (omega arith) (omega arith) (inl refl)
    (subst (λ a. RepliesBy a (length c.slips.items) (Read v s n) (Refused no.Size) (counts c) (counts c)) (λ i. if sym wrong i then WrongSize else if is_past (as_content (blocks_after_all blank_volume c.slips.items ∷ [])) v s n then OutOfRange
    else Shows (blocks_from (as_content (blocks_after_all blank_volume c.slips.items ∷ [])) v s n)) tt)

pub read-range : (c : Core) (v s n : ℕ) → (0 < v) ⊎ (VOLUME_BLOCKS < s + n) → 0 < n → n ≤ 16 → Does c (Ordered (Read v s n)) (Replied (Refused no.Range)) c
read-range c v s n how some few = does-refused c c (Read v s n) no.Range refl refl (omega arith) (omega arith) (inl refl)
    (subst (λ a. RepliesBy a (length c.slips.items) (Read v s n) (Refused no.Range) (counts c) (counts c)) (λ i. if sym (right-count n some few) i then WrongSize else if sym (past c v s n how some) i then OutOfRange
    else Shows (blocks_from (as_content (blocks_after_all blank_volume c.slips.items ∷ [])) v s n)) tt)

-- each read fails
pub read-fault : (c d : Core) (v s n disk : ℕ) → v ≡ 0 → s + n ≤ VOLUME_BLOCKS → 0 < n → n ≤ 16 → d.slips ≡ c.slips → d.nets ≡ c.nets → RaisesCount c.faults d.faults → d.held ≡ c.held → Does c (Ordered (Read v s n)) (Replied (Refused (no.Device disk))) d
read-fault c d v s n disk is le some few slips nets faults held = does-refused c d (Read v s n) (no.Device disk) (ap (λ x. x.items) slips) nets faults.0 (omega (arith, held)) (inl held)
    (subst (λ a. RepliesBy a (length c.slips.items) (Read v s n) (Refused (no.Device disk)) (counts c) (counts d)) (λ i. if sym (right-count n some few) i then WrongSize else if sym (within c v s n is le) i then OutOfRange
    else Shows (blocks_from (as_content (blocks_after_all blank_volume c.slips.items ∷ [])) v s n)) (inl (tt, faults.1)))

-- a job changes what a link has received, and nothing else
pub does-job : (c d : Core) (j : Job) (reply : JobReply) (into : Update) → d.slips.items ≡ c.slips.items → d.faults ≡ c.faults → d.held ≡ c.held → Nets (Charged j) c.nets d.nets → ((xs ys : Events) → SaysJob (logging c xs) j reply into (logging d ys))
    → Does c (Charged j) (Worked reply into) d
does-job c d j reply into slips faults held nets says xs ys is = record {
  rises = (omega (arith, faults), omega (arith, held));
  held = held;
  replied = tt;
  tells = says xs ys;
  volumes_is = ap (λ l. blocks_after_all blank_volume l ∷ []) slips;
  ring_is = refl;
  head_is = ap (λ l. length l) slips;
  applied = (let same : length d.slips.items ≡ length c.slips.items = ap (λ l. length l) slips in omega (arith, same), omega arith);
  line_is = refl;
  keeps = λ u m. inl (subst (λ l. LiesAmong u (kept_from 0 l)) slips m);
  logged = λ u l. absurd l;
  nets = nets;
  halts = λ h. absurd (cc h);
  trail_is = is;
}

pub does-apply : (c : Core) (n : ℕ) (into : Update) → Does c (Charged (Apply n)) (Worked job.Nothing into) c
does-apply c n into = does-job c c (Apply n) job.Nothing into refl refl refl refl (λ xs ys. omega arith)

pub does-wait : (c : Core) (n : ℕ) (into : Update) → Does c (Charged (Wait n)) (Worked (job.Done n) into) c
does-wait c n into = does-job c c (Wait n) (job.Done n) into refl refl refl refl (λ xs ys. refl)

pub does-not-wait : (c : Core) (n : ℕ) (into : Update) → Does c (Charged (Wait n)) (Worked job.Nothing into) c
does-not-wait c n into = does-job c c (Wait n) job.Nothing into refl refl refl refl (λ xs ys. tt)

pub does-nothing : (c : Core) (n : ℕ) (into : Update) → length c.slips.items < n → Does c (Charged (Fetch n)) (Worked job.Nothing into) c
does-nothing c n into above = does-job c c (Fetch n) job.Nothing into refl refl refl refl (λ xs ys. above)

-- the numbers of a log are above that before its first one
kept-above : (n : ℕ) (ss : List Slip) (u : Update) → LiesAmong u (kept_from n ss) → n < u.number
kept-above n [] u m = absurd (cc m.1)
kept-above n (s ∷ ss) u (zero, at) = let e : suc n ≡ u.number = ap (λ (x : Update). x.number) (some-one at) in omega (arith, e)
kept-above n (s ∷ ss) u (suc i, at) = let r = kept-above (suc n) ss u (i, at) in omega (arith, r)

pub does-gone : (c : Core) (n : ℕ) (into : Update) → n ≡ 0 → Does c (Charged (Fetch n)) (Worked (job.Gone 1) into) c
does-gone c n into none = does-job c c (Fetch n) (job.Gone 1) into refl refl refl refl
    (λ xs ys. ((omega (arith, none), λ u m. (let a = kept-above 0 c.slips.items u m in omega (arith, a, none))), low c.slips.items xs))
  where
    low : (ss : List Slip) (xs : Events) → ((kept_from 0 ss ≡ []) × (1 ≡ length ss + 1)) ⊎ (((u : Update) × LiesAmong u (kept_from 0 ss) × (u.number ≡ 1)) × ((u : Update) → LiesAmong u (kept_from 0 ss) → 1 ≤ u.number))
    low [] xs = inl (refl, refl)
    low (s ∷ ss) xs = inr ((update_for 1 s, (0, refl), refl), λ u m. (let a = kept-above 0 (s ∷ ss) u m in omega (arith, a)))

pub does-fetch : (c : Core) (n : ℕ) (into : Update) → (slice_get (kept_from 0 c.slips.items) (n - 1) ≡ Some into) × (into.number ≡ n) × (into.line ≡ record { generation = 0; origin = 0 }) → Does c (Charged (Fetch n)) (Worked (job.Done n) into) c
does-fetch c n into f = does-job c c (Fetch n) (job.Done n) into refl refl refl refl (λ xs ys. (refl, f.1, f.2, (n - 1, f.0)))

-- what a link has received is at least what it had
pub does-acked : (c d : Core) (link net stored old m : ℕ) (into : Update) → slice_get c.nets link ≡ Some old → old ≤ m → d.nets ≡ slice_set c.nets link m → d.slips.items ≡ c.slips.items → d.faults ≡ c.faults → d.held ≡ c.held
    → Does c (Charged (Acked link net stored)) (Worked (job.Done m) into) d
does-acked c d link net stored old m into was le nets slips faults held = does-job c d (Acked link net stored) (job.Done m) into slips faults held (
  ap (λ l. length l) nets ∙ set-long c.nets link m,
  λ i n k x y. ⊎_elim (λ (o : (i ≡ link) × (m ≡ k)). let e : old ≡ n = some-one (sym was ∙ (ap (slice_get c.nets) (sym o.0) ∙ x)) in let f = o.1 in (omega (arith, e, le, f), λ far. absurd (far o.0)))
      (λ (o : (i ≢ link) × (slice_get c.nets i ≡ Some k)). let e : n ≡ k = some-one (sym x ∙ o.1) in (omega (arith, e), λ far. sym e)) (get-set c.nets link m i k (subst (λ l. slice_get l i ≡ Some k) nets y)),
) (λ xs ys. subst (λ l. slice_get l link ≡ Some m) (sym nets) (set-here c.nets link m (get-inside c.nets link old was)))
