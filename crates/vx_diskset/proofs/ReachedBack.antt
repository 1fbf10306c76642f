-- A receiver behind writes that are applied, seen as it was before them, and with the first of its writes alone.
use Rattle.std.proofs.Common.{◌≡◌, ◌∙◌, inl, inr, ⊎_elim, ℕ, ◌≤◌, List, [], ◌∷◌, ◌++◌, length, take, drop, ap, sym, subst, refl, arith}
use Rattle.std.proofs.lemmas.List.{drop-append-le, length-take, take-append-drop, take-take}
use Rattle.vx_model.specs.Content.{Content, Write, fold_writes, put}
use Rattle.vx_model.specs.declared.call.Update.{Update}
use Rattle.vx_model.proofs.Contents.{folded_size}
use Rattle.vx_history.specs.Steps.{burned, worked}
use Rattle.vx_history.specs.World.{Node, Fuse}
use Rattle.vx_history.proofs.Fuses.{burned_twice}
use Rattle.vx_disk.specs.Shelf.{Image, Meaning}
use Rattle.vx_diskset.specs.Fuses.{FuseOn}
use Rattle.vx_rvg.specs.Views.{Core}
use Rattle.vx_diskset.specs.DiskSets.{halted_at, with_first}
use Rattle.vx_diskset.specs.Holds.{KeptBeside, HasWrites, most_with, state_with}
use Rattle.vx_diskset.specs.Lasts.{FoundWith}
use Rattle.vx_diskset.specs.Layouts.{units_of}
use Rattle.vx_diskset.specs.Received.{reached}
use Rattle.vx_diskset.specs.Stands.{IsHeldAt, IsReceiverAt}
use Rattle.vx_diskset.proofs.BesideLemmas.{site_map}
use Rattle.vx_diskset.proofs.Laying.{lies_sized}
use Rattle.vx_diskset.proofs.Receiving.{never_some}
use Rattle.vx_diskset.proofs.StaysUp.{durable_content, fuse_burned}

-- ---- lists

fold_both : (c : Content) (xs ys : List Write) → fold_writes (fold_writes c xs) ys ≡ fold_writes c (xs ++ ys)
fold_both c [] ys = refl
fold_both c (x ∷ xs) ys = fold_both (put c x) xs ys

-- the writes up to j, and those from there up to k
parts : (a j k : ℕ) (xs : List Write) → a ≤ j → j ≤ k → k ≤ length xs → drop a (take j xs) ++ drop j (take k xs) ≡ drop a (take k xs)
parts a j k xs le low most =
    ap (λ (ws : List Write). drop a ws ++ drop j (take k xs)) (sym (take-take j k xs low))
    ∙ sym (drop-append-le a (take j (take k xs)) (drop j (take k xs)) (omega (arith, length-take j (take k xs), length-take k xs, le, low, most)))
    ∙ ap (λ (ws : List Write). drop a ws) (take-append-drop j (take k xs))

content_more : (c : Content) (a j k : ℕ) (xs : List Write) → a ≤ j → j ≤ k → k ≤ length xs → fold_writes (fold_writes c (drop a (take j xs))) (drop j (take k xs)) ≡ fold_writes c (drop a (take k xs))
content_more c a j k xs le low most = fold_both c (drop a (take j xs)) (drop j (take k xs)) ∙ ap (λ (ws : List Write). fold_writes c ws) (parts a j k xs le low most)

-- ---- a receiver with other parts of its node

pub like : {beside : KeptBeside} (n : Node) (b b' : Content) (s s' : ℕ) (f f' : Fuse) (c : Core) (us : List Update) (m : Meaning) → b ≡ b' → s ≡ s' → f ≡ f'
    → IsReceiverAt beside (record n { base = b; safe = s; fuse = f }) c us m → IsReceiverAt beside (record n { base = b'; safe = s'; fuse = f' }) c us m
like {beside} n b b' s s' f f' c us m eb es ef r =
    subst (λ (x : Fuse). IsReceiverAt beside (record n { base = b'; safe = s'; fuse = x }) c us m) ef
    (subst (λ (x : ℕ). IsReceiverAt beside (record n { base = b'; safe = x; fuse = f }) c us m) es
    (subst (λ (x : Content). IsReceiverAt beside (record n { base = x; safe = s; fuse = f }) c us m) eb r))

pub receiver_burned : {beside : KeptBeside} (n : Node) (c : Core) (us : List Update) (m : Meaning) → IsReceiverAt beside n c us m → IsReceiverAt beside (worked n) c us m
receiver_burned n c us m r = record {
  state = r.state;
  role = r.role;
  up = r.up;
  fuse = fuse_burned n.fuse m r.fuse;
  lies = r.lies;
  low = r.low;
  units = r.units;
  ring = r.ring;
  found = r.found;
  kept = r.kept;
  linked = r.linked;
  session = r.session;
  begun = r.begun;
  stamp = r.stamp;
  first = r.first;
  least = r.least;
  most = r.most;
  head = r.head;
  halted = r.halted;
  waits = r.waits;
  takes = r.takes;
  content = r.content;
  left = λ i now. site_map n (worked n) i (λ has. record { count = has.count; least = has.least; most = has.most; found = has.found }) (r.left i now);
  sure = r.sure;
  may = r.may;
}

-- none is applied yet
pub reached_none : {beside : KeptBeside} (n : Node) (c : Core) (us : List Update) (m : Meaning) → IsReceiverAt beside n c us m → IsReceiverAt beside (reached n n.safe) c us m
reached_none n c us m r = like n n.base (fold_writes n.base (drop n.safe (take n.safe n.log))) n.safe n.safe (burned n.fuse) (burned n.fuse) c us m (durable_content n) refl refl (receiver_burned n c us m r)

-- those up to j, and from there up to k
pub reached_more : {beside : KeptBeside} (n : Node) (j k : ℕ) (c : Core) (us : List Update) (m : Meaning) → n.safe ≤ j → j ≤ k → k ≤ length n.log → IsReceiverAt beside (reached (reached n j) k) c us m → IsReceiverAt beside (reached n k) c us m
reached_more n j k c us m le low most r =
    like n (fold_writes (fold_writes n.base (drop n.safe (take j n.log))) (drop j (take k n.log))) (fold_writes n.base (drop n.safe (take k n.log))) k k (burned (burned n.fuse)) (burned n.fuse) c us m
    (content_more n.base n.safe j k n.log le low most) refl (burned_twice n.fuse) r

-- ---- back to the site as it was before

back_writes : {beside : KeptBeside} (n : Node) (number : ℕ) (i : Image) → n.safe ≤ number → HasWrites beside (reached n number) i → HasWrites beside n i
back_writes {beside} n number i le has = record {
  count = has.count;
  least = omega (arith, le, has.least);
  most = has.most;
  found = subst (λ (c : Content). FoundWith (units_of n) n.ring (state_with n beside.links) n.session (most_with beside n has.count) i (take has.count n.log) c)
      (content_more n.base n.safe number has.count n.log le has.least has.most) has.found;
}

-- the sizes of its volumes are those of its first content
pub back_held : {beside : KeptBeside} (n : Node) (number : ℕ) (m : Meaning) → n.safe ≤ number → n.safe ≤ length n.log → IsHeldAt beside (reached n number) m → IsHeldAt beside n m
back_held n number m le some held = record {
  lies = lies_sized (reached n number) n.base.size m (λ v. sym (folded_size n.base (drop n.safe (take number n.log)) v)) held.lies;
  low = held.low;
  logged = some;
  begun = held.begun;
  left = λ i now. ⊎_elim (λ one. inl (back_writes n number i le one)) (λ other. inr other) (held.left i now);
  may = held.may;
}

pub back_halted : {beside : KeptBeside} (n : Node) (number disk : ℕ) (c : Core) (us : List Update) (m : Meaning) → n.safe ≤ number → IsReceiverAt beside (halted_at (reached n number) disk) c us m → IsReceiverAt beside (halted_at n disk) c us m
back_halted {beside} n number disk c us m le r = record {
  state = r.state;
  role = r.role;
  up = r.up;
  fuse = subst (λ (f : Fuse). FuseOn f m) (burned_twice n.fuse) r.fuse;
  lies = lies_sized (reached n number) n.base.size m (λ v. sym (folded_size n.base (drop n.safe (take number n.log)) v)) r.lies;
  low = r.low;
  units = r.units;
  ring = r.ring;
  found = r.found;
  kept = r.kept;
  linked = r.linked;
  session = r.session;
  begun = r.begun;
  stamp = λ told none. absurd (never_some none);
  first = r.first;
  least = omega (arith, le, r.least);
  most = r.most;
  head = λ none. absurd (never_some none);
  halted = r.halted;
  waits = r.waits;
  takes = λ none. absurd (never_some none);
  content = λ none. absurd (never_some none);
  left = λ i now. ⊎_elim (λ one. inl (of_halted (back_writes n number i le (record { count = one.count; least = one.least; most = one.most; found = one.found })))) (λ other. inr other) (r.left i now);
  sure = λ none. absurd (never_some none);
  may = r.may;
}
  where
    of_halted : {i : Image} → HasWrites beside n i → HasWrites beside (halted_at n disk) i
    of_halted has = record { count = has.count; least = has.least; most = has.most; found = has.found }

-- ---- the first of its writes

-- the writes up to c, which are among the first j and among the first k
take_both : (c j k : ℕ) (xs : List Write) → c ≤ j → c ≤ k → take c (take j xs) ≡ take c (take k xs)
take_both c j k xs one two = take-take c j xs one ∙ sym (take-take c k xs two)

-- an image that has a site with its first j writes has one with its first k
more_first : {beside : KeptBeside} (n : Node) (j k : ℕ) (i : Image) → j ≤ k → HasWrites beside (with_first n j) i → HasWrites beside (with_first n k) i
more_first {beside} n j k i le has = record {
  count = has.count;
  least = has.least;
  most = omega (arith, has.most, length-take j n.log, length-take k n.log, le);
  found = subst (λ (ws : List Write). FoundWith (units_of n) n.ring (state_with n beside.links) n.session (most_with beside n has.count) i ws (fold_writes n.base (drop n.safe ws)))
      (take_both has.count j k n.log below (omega (arith, below, le))) has.found;
}
  where
    below : has.count ≤ j
    below = omega (arith, has.most, length-take j n.log)

-- and so have the disks
pub held_first : {beside : KeptBeside} (n : Node) (j k : ℕ) (m : Meaning) → j ≤ k → IsHeldAt beside (with_first n j) m → IsHeldAt beside (with_first n k) m
held_first n j k m le held = record {
  lies = held.lies;
  low = held.low;
  logged = omega (arith, held.logged, length-take j n.log, length-take k n.log, le);
  begun = held.begun;
  left = λ i now. ⊎_elim (λ one. inl (more_first n j k i le one)) (λ other. inr other) (held.left i now);
  may = held.may;
}

first_reached : (n : Node) (j k : ℕ) → j ≤ k → with_first (reached n j) k ≡ reached (with_first n k) j
first_reached n j k le =
    ap (λ (ws : List Write). let m : Node = record (reached n j) { base = fold_writes n.base (drop n.safe ws); log = take k n.log } in m) (sym (take-take j k n.log le))

-- behind an apply of the first j
pub back_first : {beside : KeptBeside} (n : Node) (j k : ℕ) (m : Meaning) → n.safe ≤ j → j ≤ k → n.safe ≤ length n.log → IsHeldAt beside (with_first (reached n j) k) m → IsHeldAt beside (with_first n k) m
back_first {beside} n j k m low le some held =
    back_held (with_first n k) j m low (omega (arith, some, low, le, length-take k n.log)) (subst (λ (x : Node). IsHeldAt beside x m) (first_reached n j k le) held)
