-- What waits behind a receiver's group, as it is logged and applied.
use Rattle.std.proofs.Common.{◌≡◌, ◌∙◌, inl, inr, ⊎_elim, ℕ, zero, suc, ◌+◌, ◌-◌, ◌<◌, ◌≤◌, Bool, true, false, List, [], ◌∷◌, ◌++◌, length, take, drop, ap, sym, subst, refl, arith, length-append}
use Rattle.std.specs.Prelude.{IsTrue, IsFalse, Some, None, Result, Ok, Err, slice_get, min, eqb, if◌then◌else◌}
use Rattle.std.proofs.lemmas.List.{drop-append-le, drop-drop, length-drop, length-take, take-take, length-map}
use Rattle.vx_model.specs.Content.{Content, Write, blocks_in, fold_writes, put}
use Rattle.vx_model.specs.declared.call.Update.{Update}
use Rattle.vx_model.specs.declared.no.No.{No}
use Rattle.vx_model.specs.declared.no.No.TheVariants.{Device, Limit, Down as IsOff}
use Rattle.vx_model.specs.declared.units.Units.{Units}
use Rattle.std.proofs.lemmas.Bool.Decides.{nat_tests}
use Rattle.vx_secondary.specs.declared.secondary.Secondary.{Secondary}
use Rattle.vx_history.specs.declared.receiver.REvent.TheVariants.{Applied}
use Rattle.vx_history.specs.declared.receiver.RAction.TheVariants.{Nothing as DoesNothing, DataAck}
use Rattle.vx_history.specs.declared.receiver.RAction.{RAction}
use Rattle.vx_history.specs.Events.{logged_blocks}
use Rattle.vx_history.specs.Receiving.{Received, received_step, with_applied}
use Rattle.vx_history.specs.LinkForms.{plain_receiver}
use Rattle.vx_history.specs.Steps.{burned, half_begun, logged, spent, write_calls}
use Rattle.vx_history.specs.World.{Node, Fuse, NoFuse, FuseSet, FuseLit}
use Rattle.vx_history.proofs.Fuses.{burned_twice, fused_before}
use Rattle.vx_disk.specs.Shelf.{Image, Meaning}
use Rattle.vx_disk.specs.declared.shelf.Shelf.{Ghosts}
use Rattle.vx_rvg.specs.Contents.{write_of_update}
use Rattle.vx_rvg.specs.Views.{Core, last_of, unit_of}
use Rattle.vx_rvg.specs.declared.group.Rvg.{Rvg}
use Rattle.vx_secondary.specs.Receivers.{Wait, writes_of_updates}
use Rattle.vx_secondary.proofs.Writings.{can_parts}
use Rattle.vx_diskset.specs.declared.receivers.Reached.{Reached}
use Rattle.vx_diskset.specs.declared.disk_set.DiskSet.{DiskSet}
use Rattle.vx_diskset.specs.declared.disk_set.DiskSet.TheVariants.{Up, Receives}
use Rattle.vx_diskset.specs.Shelves.{LoggedAs, MovesOn}
use Rattle.vx_diskset.proofs.RvgMoves.{no_moves, then_moves}
use Rattle.vx_diskset.specs.DiskSets.{CanLog, halted_at, halted_with, CrashedAt, with_first}
use Rattle.vx_diskset.specs.Fuses.{FuseOn}
use Rattle.vx_grouped.specs.SiteEnds.{is_off}
use Rattle.vx_diskset.specs.Holds.{KeptBeside, HasWrites, most_with, state_with}
use Rattle.vx_diskset.specs.Lasts.{FoundWith}
use Rattle.vx_diskset.specs.Layouts.{units_of}
use Rattle.vx_diskset.specs.Needs.{HasRoom}
use Rattle.vx_diskset.specs.Received.{CanReceive, LoggedTo, reached, ReachedAt, ReachedBy, ReachedTo, ReachedUp}
use Rattle.vx_model.specs.declared.no.Counted.TheVariants.{Number}
use Rattle.vx_rvg.specs.Groups.{has_numbers}
use Rattle.vx_srl.specs.Views.{most_number}
use Rattle.vx_diskset.specs.Rooms.{AppliedAs, HasNumbers, IsMore, NeverLimit}
use Rattle.vx_diskset.proofs.LeavesNumbers.{lacks_them}
use Rattle.vx_diskset.specs.Stands.{IsHeldAt, IsReceiverAt, IsUpAt, CutAt, SiteStands, IsUngrouped}
use Rattle.vx_diskset.proofs.BesideLemmas.{never_besides, site_map}
use Rattle.vx_disk.specs.Spends.{Spends}
use Rattle.vx_disk.proofs.Spending.{spends_none, then_spends}
use Rattle.vx_diskset.proofs.MakeRoom.{rose_later}
use Rattle.vx_diskset.proofs.Mores.{more_none, more_then, wait_more}
use Rattle.vx_diskset.proofs.Laying.{laid_in}
use Rattle.vx_diskset.proofs.NeedLemmas.{needs_less}
use Rattle.vx_diskset.proofs.CrashGroup.{fell_within}
use Rattle.vx_diskset.proofs.ReachedBack.{back_first, back_halted, held_first, like, reached_more, reached_none, receiver_burned}
use Rattle.vx_diskset.proofs.Receiving.{as_receiver, durable_of, never_some, receiver_volumes, up_receiver}
use Rattle.vx_diskset.proofs.StaysUp.{drop-take_none, up_worked}
use Rattle.vx_diskset.proofs.RawSets.{receiver_there, up_there}

-- ---- lists

next_of : {A : Type 0} (k : ℕ) (xs : List A) (x : A) (rest : List A) → drop k xs ≡ x ∷ rest → (take (suc k) xs ≡ take k xs ++ x ∷ []) × (drop (suc k) xs ≡ rest)
next_of zero [] x rest is = absurd (cc)
next_of zero (y ∷ ys) x rest is = let head : y ≡ x = cc in let tail : ys ≡ rest = cc in (ap (λ z. z ∷ []) head, tail)
next_of (suc k) [] x rest is = absurd (cc)
next_of (suc k) (y ∷ ys) x rest is = let r = next_of k ys x rest is in (ap (λ zs. y ∷ zs) r.0, r.1)

-- ---- the oldest of what waits is logged

fuse_less : (k : ℕ) (f : Fuse) (m : Meaning) → FuseOn (spent k f) m → FuseOn (burned f) m
fuse_less k NoFuse m has = has
fuse_less k (FuseSet calls) m has = tt
fuse_less k (FuseLit most) m has = tt

-- a site that is up, with a like content and a fuse of which less is known
up_like : {beside : KeptBeside} (n : Node) (b : Content) (f : Fuse) (c : Core) (m : Meaning) → n.base ≡ b → FuseOn f m → IsUpAt beside n c m → IsUpAt beside (record n { base = b; fuse = f }) c m
up_like {beside} n b f c m eb fuse up = subst (λ (x : Content). IsUpAt beside (record n { base = x; fuse = f }) c m) eb (record {
  state = up.state;
  up = up.up;
  fuse = fuse;
  lies = up.lies;
  units = up.units;
  ring = up.ring;
  low = up.low;
  found = up.found;
  kept = up.kept;
  linked = up.linked;
  session = up.session;
  begun = up.begun;
  stamp = up.stamp;
  fresh = up.fresh;
  first = up.first;
  head = up.head;
  halted = up.halted;
  logged = up.logged;
  durable = up.durable;
  takes = up.takes;
  content = up.content;
  left = λ i now. site_map n (record n { fuse = f }) i (λ has. record { count = has.count; least = has.least; most = has.most; found = has.found }) (up.left i now);
  sure = up.sure;
  may = up.may;
})

-- an image that has the first j writes has the site's
first_writes : {beside : KeptBeside} (k : Node) (log : List Write) (j : ℕ) (i : Image) → k.log ≡ take j log → j ≤ length log → HasWrites beside k i → HasWrites beside (record k { log = log }) i
first_writes {beside} k log j i front most has = record {
  count = has.count;
  least = has.least;
  most = omega (arith, below, most);
  found = subst (λ (ws : List Write). FoundWith (units_of k) k.ring (state_with k beside.links) k.session (most_with beside k has.count) i ws (fold_writes k.base (drop k.safe ws)))
      (ap (λ (ws : List Write). take has.count ws) front ∙ take-take has.count j log below) has.found;
}
  where
    below : has.count ≤ j
    below = omega (arith, has.most, ap (λ (ws : List Write). length ws) front, length-take j log)

module _ {beside : KeptBeside} (n : Node) (c : Core) (us rest : List Update) (u : Update) (m : Meaning) (r : IsReceiverAt beside n c us m) (can : CanReceive beside n) (front : us ≡ u ∷ rest) where
  abbrev pub x : Write
  x = write_of_update u

  split : drop n.safe n.log ≡ x ∷ writes_of_updates rest
  split = sym (r.waits ∙ ap (λ (k : ℕ). drop k n.log) (r.head can.running)) ∙ ap (λ (vs : List Update). writes_of_updates vs) front

  more : suc n.safe ≡ n.safe + 1
  more = omega arith

  front_next : take n.safe n.log ++ x ∷ [] ≡ take (n.safe + 1) n.log
  front_next = sym (next_of n.safe n.log x (writes_of_updates rest) split).0 ∙ ap (λ (k : ℕ). take k n.log) more

  rest_next : writes_of_updates rest ≡ drop (n.safe + 1) n.log
  rest_next = sym (next_of n.safe n.log x (writes_of_updates rest) split).1 ∙ ap (λ (k : ℕ). drop k n.log) more

  long : n.safe ≤ length n.log
  long = omega (arith, r.least, r.most)

  long_next : n.safe + 1 ≤ length n.log
  long_next = omega (arith, ap (λ (ws : List Write). length ws) front_next, length-append (take n.safe n.log) (x ∷ []), length-take n.safe n.log, length-take (n.safe + 1) n.log, long)

  -- its content with the write
  content_next : put n.base x ≡ fold_writes n.base (drop n.safe (take (n.safe + 1) n.log))
  content_next =
      ap (λ (ws : List Write). fold_writes n.base ws)
      (sym (ap (λ (ws : List Write). ws ++ x ∷ []) (drop-take_none n.safe n.log))
      ∙ sym (drop-append-le n.safe (take n.safe n.log) (x ∷ []) (omega (arith, length-take n.safe n.log, long)))
      ∙ ap (λ (ws : List Write). drop n.safe ws) front_next)

  -- the group can log it
  pub can_next : Wait c m.size us → CanLog (durable_of n) u.vol u.block (blocks_in u.bytes)
  can_next wait =
      let parts = can_parts c m.size u (wait.fits 0 u (ap (λ (vs : List Update). slice_get vs 0) front)) in
      let volume : u.vol < length n.volumes = omega (arith, parts.0, receiver_volumes n c us m r) in
      let size = ap (λ (w : Units). m.size (unit_of w.vols u.vol)) r.units ∙ sym ((laid_in n m r.lies).each u.vol volume) in
      record { up = r.state; running = can.running; volume_exists = volume; fits = omega (arith, parts.1.0, r.ring); within = omega (arith, parts.1.1, size) }

  pub room_next : CanLog (durable_of n) u.vol u.block (blocks_in u.bytes) → (hold : ℕ) → hold ≡ last_of c → HasRoom beside.links (durable_of n) hold (blocks_in u.bytes)
  room_next able hold is = record {
    unneeded = needs_less beside.links (length n.log) hold (omega (arith, is, r.most)) can.unneeded;
    room =
        let none = ap (λ (k : ℕ). logged_blocks (drop k (take n.safe n.log))) (is ∙ r.head can.running) ∙ ap (λ (ws : List Write). logged_blocks ws) (drop-take_none n.safe n.log) in
        omega (arith, none, able.fits);
  }

  -- with it
  next_receiver : (c' : Core) (new : Meaning) → IsUpAt beside (logged (durable_of n) x) c' new → IsReceiverAt beside (reached n (n.safe + 1)) c' rest new
  next_receiver c' new up =
      up_receiver beside.doubt (record (logged (durable_of n) x) { base = fold_writes n.base (drop n.safe (take (n.safe + 1) n.log)); fuse = burned n.fuse }) n.log c' rest new r.role front_next long_next rest_next (λ i has. has)
      (λ y is. never_besides beside.doubt new (r.sure can.running) y is) (λ none. r.sure can.running)
      (up_like (logged (durable_of n) x) (fold_writes n.base (drop n.safe (take (n.safe + 1) n.log))) (burned n.fuse) c' new content_next (fuse_less write_calls n.fuse new up.fuse) up)

  -- a disk failed in it
  halted_receiver : (disk : ℕ) (c' : Core) (new : Meaning) → IsUpAt beside (halted_with (durable_of n) x disk) c' new → IsReceiverAt beside (halted_at n disk) c' us new
  halted_receiver disk c' new up = record {
    state = up.state;
    role = r.role;
    up = up.up;
    fuse = up.fuse;
    lies = up.lies;
    low = up.low;
    units = up.units;
    ring = up.ring;
    found = up.found;
    kept = up.kept;
    linked = up.linked;
    session = up.session;
    begun = up.begun;
    stamp = λ told none. absurd (never_some none);
    first = up.first;
    least = omega (arith, up.head);
    most = omega (arith, up.head, long);
    head = λ none. absurd (never_some none);
    halted = up.halted;
    waits = r.waits ∙ ap (λ (k : ℕ). drop k n.log) (r.head can.running ∙ sym up.head);
    takes = λ none. absurd (never_some none);
    content = λ none. absurd (never_some none);
    left = λ i now. ⊎_elim (λ one. inl (first_writes (halted_with (durable_of n) x disk) n.log (n.safe + 1) i front_next long_next one)) (λ other. inr other) (up.left i now);
    sure = λ none. absurd (never_some none);
    may = up.may;
  }

  -- its fuse ran out in it
  held_next : (new : Meaning) → IsHeldAt beside (half_begun (durable_of n) x) new → IsHeldAt beside (with_first n (n.safe + 1)) new
  held_next new held = subst (λ (ws : List Write). IsHeldAt beside (let m : Node = record n { log = ws } in m) new) front_next held

  module _ (c' : Core) (new : Meaning) where
    pub next_failed : (why : No) → NeverLimit (let result : Result ℕ No = Err why in result) → LoggedAs beside (durable_of n) x m c' new (Err why) → LoggedTo beside n 1 us c' m new (Err why)
    next_failed (Device disk) never h = (halted_receiver disk c' new h.0, h.1)
    next_failed (Limit what most) never h = absurd never
    next_failed IsOff never h = (h.0, held_next new h.1)
    next_failed other never h = h

    pub next_done : (number : ℕ) → LoggedAs beside (durable_of n) x m c' new (Ok number) → IsReceiverAt beside (reached n (n.safe + 1)) c' rest new
    next_done number h = next_receiver c' new h.2

-- ---- several of them

pub front_is : (us : List Update) (u : Update) → Some u ≡ slice_get us 0 → us ≡ u ∷ drop 1 us
front_is [] u is = absurd (cc)
front_is (v ∷ vs) u is = let same : u ≡ v = cc in ap (λ (w : Update). w ∷ vs) (sym same)

pub next_can : {beside : KeptBeside} (n : Node) (number : ℕ) → CanReceive beside n → CanReceive beside (reached n number)
next_can n number can = record { receives = can.receives; up = can.up; running = can.running; unneeded = can.unneeded }

-- so many of the updates are logged
pub record LoggedSo (us : List Update) (k : ℕ) (c d : Core) (m mid : Meaning) (left : List Update) : Type 0 where
  pub each : (beside : KeptBeside) (n : Node) → IsReceiverAt beside n c us m → CanReceive beside n → IsReceiverAt beside (reached n (n.safe + k)) d left mid
  pub left_is : left ≡ drop k us
  pub more : IsMore k c d
  pub stamp : d.log.header.stamp ≤ c.log.header.stamp + k
  pub spends : Spends m mid
  pub up : IsFalse m.down → IsFalse mid.down
  pub counts : (disk : ℕ) → m.disk_faults disk ≤ mid.disk_faults disk
  pub told : IsTrue mid.tells → IsTrue m.tells
  pub moves : MovesOn c m mid

pub logged_none : (us : List Update) (c : Core) (m : Meaning) → LoggedSo us 0 c c m m us
logged_none us c m = record {
  each = λ beside n r can. subst (λ (k : ℕ). IsReceiverAt beside (reached n k) c us m) (let e : n.safe ≡ n.safe + 0 = omega arith in e) (reached_none n c us m r);
  left_is = refl;
  more = more_none c;
  stamp = omega arith;
  spends = spends_none m;
  up = λ up. up;
  counts = λ disk. omega arith;
  told = λ told. told;
  moves = no_moves c m;
}

module _ (us : List Update) (k : ℕ) (c d e : Core) (m mid new : Meaning) (left : List Update) (at : LoggedSo us k c d m mid left) where
  pub still_waits : Wait c m.size us → Wait d mid.size left
  still_waits wait = subst (λ (vs : List Update). Wait d mid.size vs) (sym at.left_is) (wait_more k c d m.size mid.size us at.more at.spends.size wait)

  pub some_waits : k < length us → 0 < length left
  some_waits low = omega (arith, low, ap (λ (vs : List Update). length vs) at.left_is, length-drop k us)

  pub numbers_left : (count : ℕ) → k < count → HasNumbers c count → HasNumbers d 1
  numbers_left count low has = record { stamps = omega (arith, at.stamp, low, has.stamps); numbers = omega (arith, at.more.last, low, has.numbers) }

  pub logged_more : (after : List Update) → ((beside : KeptBeside) (n : Node) → IsReceiverAt beside n d left mid → CanReceive beside n → IsReceiverAt beside (reached n (n.safe + 1)) e after new)
      → after ≡ drop 1 left → IsMore 1 d e → e.log.header.stamp ≤ d.log.header.stamp + 1 → Spends mid new → (IsFalse mid.down → IsFalse new.down) → ((disk : ℕ) → mid.disk_faults disk ≤ new.disk_faults disk) → (IsTrue new.tells → IsTrue mid.tells) → MovesOn d mid new
      → LoggedSo us (k + 1) c e m new after
  logged_more after next left_is more stamp spends up counts told moves = record {
    each = λ beside n r can.
        let here = at.each beside n r can in
        let there = next beside (reached n (n.safe + k)) here (next_can n (n.safe + k) can) in
        subst (λ (j : ℕ). IsReceiverAt beside (reached n j) e after new) (let sum : n.safe + k + 1 ≡ n.safe + (k + 1) = omega arith in sum)
        (reached_more n (n.safe + k) (n.safe + k + 1) e after new (omega arith) (omega arith) (omega (arith, there.least, there.most)) there);
    left_is = left_is ∙ ap (λ (vs : List Update). drop 1 vs) at.left_is ∙ drop-drop 1 k us ∙ ap (λ (j : ℕ). drop j us) (let sum : k + 1 ≡ k + 1 = refl in sum);
    more = more_then k 1 (k + 1) c d e refl at.more more;
    stamp = omega (arith, at.stamp, stamp);
    spends = then_spends m mid new at.spends spends;
    up = λ here. up (at.up here);
    counts = λ disk. let one = at.counts disk in let two = counts disk in omega (arith, one, two);
    told = λ here. at.told (told here);
    moves = then_moves c d m mid new at.more.units at.moves moves;
  }

  -- what a later call answers of the site
  pub failed_more : {beside : KeptBeside} (n : Node) (count : ℕ) (after : List Update) (why : No) → k < count → IsReceiverAt beside n c us m → CanReceive beside n → LoggedTo beside (reached n (n.safe + k)) 1 after e mid new (Err why) → LoggedTo beside n count after e m new (Err why)
  failed_more n count after (Device disk) low r can h = (back_halted n (n.safe + k) disk e after new (omega arith) h.0, rose_later (m.disk_faults disk) (mid.disk_faults disk) (new.disk_faults disk) (at.counts disk) h.1)
  failed_more n count after IsOff low r can h = (
    fused_before n.fuse h.0,
    held_first n (n.safe + k + 1) (n.safe + count) new (omega (arith, low)) (back_first n (n.safe + k) (n.safe + k + 1) new (omega arith) (omega arith) (omega (arith, r.least, r.most)) h.1),
  )
  failed_more n count after other low r can h = h

-- ---- and applied

module _ {beside : KeptBeside} (n : Node) (number : ℕ) (c d : Core) (us : List Update) (m mid new : Meaning) (low : n.safe ≤ number) (some : n.safe ≤ length n.log) (r : IsReceiverAt beside (reached n number) c us mid) (running : n.halted ≡ None)
    (counts : (disk : ℕ) → m.disk_faults disk ≤ mid.disk_faults disk) where
  long_here : number ≤ length n.log
  long_here = omega (arith, r.least, r.most)

  waits_here : writes_of_updates us ≡ drop number n.log
  waits_here = r.waits ∙ ap (λ (k : ℕ). drop k n.log) (r.head running)

  pub applied_done : (to got : ℕ) → AppliedAs beside (durable_of (reached n number)) to d mid new (Ok got) → IsReceiverAt beside (reached n number) d us new
  applied_done to got h =
      like n (reached n number).base (reached n number).base number number (burned (burned n.fuse)) (burned n.fuse) d us new refl refl (burned_twice n.fuse)
      (as_receiver (reached n number) us n.halted (burned (burned n.fuse)) d new (r.sure running) r.role long_here waits_here h.2)

  -- all of them are in the volumes
  pub applied_all : (to got : ℕ) → to ≡ number → AppliedAs beside (durable_of (reached n number)) to d mid new (Ok got) → got ≡ number
  applied_all to got is h = omega (arith, is, h.0, h.1)

  pub applied_failed : (count to : ℕ) (why : No) → number ≤ n.safe + count → AppliedAs beside (durable_of (reached n number)) to d mid new (Err why) → LoggedTo beside n count us d m new (Err why)
  applied_failed count to (Device disk) few h = (
    back_halted n number disk d us new low (as_receiver (reached n number) us (Some disk) (burned (burned n.fuse)) d new (r.sure running) r.role long_here waits_here h.0),
    rose_later (m.disk_faults disk) (mid.disk_faults disk) (new.disk_faults disk) (counts disk) h.1,
  )
  applied_failed count to IsOff few h = (fused_before n.fuse h.0, held_first n number (n.safe + count) new few (back_first n number number new low (omega arith) some h.1))
  applied_failed count to other few h = absurd h

-- ---- what the rule of receivers says

pub rule_none : (n : Node) (count : ℕ) → min count (length n.log - n.safe) ≡ 0 → (received_step (plain_receiver n) (Applied count)).action ≡ DoesNothing
rule_none n count is = by (eqb (min count (length n.log - n.safe)) 0) refl
  where
    by : (b : Bool) → eqb (min count (length n.log - n.safe)) 0 ≡ b
        → (if b then (let s : Received = record { state = plain_receiver n; action = DoesNothing } in s) else with_applied (plain_receiver n) (length n.log - n.safe - count)).action ≡ DoesNothing
    by true e = refl
    by false e = absurd (never (sym (ap (λ (k : ℕ). eqb k 0) is) ∙ e))
      where
        never : true ≡ false → ⊥
        never e = cc

pub rule_some : (n : Node) (count few : ℕ) → few ≡ min count (length n.log - n.safe) → 0 < few → n.safe ≤ length n.log → (received_step (plain_receiver n) (Applied count)).action ≡ DataAck (n.safe + few)
rule_some n count few is some low = by (eqb (min count (length n.log - n.safe)) 0) refl
  where
    by : (b : Bool) → eqb (min count (length n.log - n.safe)) 0 ≡ b
        → (if b then (let s : Received = record { state = plain_receiver n; action = DoesNothing } in s) else with_applied (plain_receiver n) (length n.log - n.safe - count)).action ≡ DataAck (n.safe + few)
    by true e = absurd (let none : min count (length n.log - n.safe) ≡ 0 = grind (arith, nat_tests) in omega (arith, none, is, some))
    by false e = ap DataAck (omega (arith, is, some, low))

-- ---- the same of disk sets

module _ {R : Type 0} {g : Ghosts R} where
  count_waits : {beside : KeptBeside} (n : Node) (s : Secondary R g) → IsReceiverAt beside n s.rvg.core s.waiting (g.meaning s.rvg.shelf) → n.halted ≡ None → length s.waiting ≡ length n.log - n.safe
  count_waits n s r running = omega (arith, ap (λ (ws : List Write). length ws) r.waits, length-map s.waiting write_of_update, length-drop (last_of s.rvg.core) n.log, r.head running)

  by_result : (beside : KeptBeside) (n : Node) (count few : ℕ) (s new : Secondary R g) (result : Result Reached No) → IsUngrouped beside n → IsReceiverAt beside n s.rvg.core s.waiting (g.meaning s.rvg.shelf) → n.halted ≡ None → few ≡ min count (length s.waiting) → 0 < few
      → ReachedTo beside n few new.waiting new.rvg.core (g.meaning s.rvg.shelf) (g.meaning new.rvg.shelf) result → ReachedUp beside n count (Receives s) (Receives new) result
  by_result beside n count few s new (Ok r) raw here running is some h =
      subst (λ (a : RAction). ReachedBy a beside n r (Receives new)) (sym (rule_some n count few (is ∙ ap (λ (k : ℕ). min count k) (count_waits n s here running)) some (omega (arith, here.least, here.most)))) (h.0, h.1, (raw, h.2))
  by_result beside n count few s new (Err (Device disk)) raw here running is some h = ((raw, h.0), h.1)
  by_result beside n count few s new (Err (Limit what most)) raw here running is some h = absurd h
  by_result beside n count few s new (Err IsOff) raw here running is some h = (h.0, (raw, held_first n (n.safe + few) (n.safe + count) (g.meaning new.rvg.shelf) (omega (arith, is)) h.1))
  by_result beside n count few s new (Err other) raw here running is some h = h

  pub reached_up : (beside : KeptBeside) (n : Node) (count few : ℕ) (old : DiskSet R g) (s new : Secondary R g) (result : Result Reached No) → old ≡ Receives s → few ≡ min count (length s.waiting) → 0 < few
      → (IsReceiverAt beside n s.rvg.core s.waiting (g.meaning s.rvg.shelf) → CanReceive beside n → ReachedTo beside n few new.waiting new.rvg.core (g.meaning s.rvg.shelf) (g.meaning new.rvg.shelf) result)
      → SiteStands beside n old → CanReceive beside n → ReachedUp beside n count old (Receives new) result
  reached_up beside n count few old s new result is few_is some reaches stands can =
      let at = receiver_there beside n old s is stands in
      let here = at.1 in
      subst (λ (e : DiskSet R g). ReachedUp beside n count e (Receives new) result) (sym is) (by_result beside n count few s new result at.0 here can.running few_is some (reaches here can))

  -- nothing is asked for, or nothing waits
  pub reached_idle : (beside : KeptBeside) (n : Node) (count few head : ℕ) (old : DiskSet R g) (s : Secondary R g) → old ≡ Receives s → few ≡ min count (length s.waiting) → few ≡ 0 → head ≡ last_of s.rvg.core → SiteStands beside n old → CanReceive beside n
      → ReachedUp beside n count old (Receives s) (Ok (record { number = head; acks = false }))
  reached_idle beside n count few head old s is few_is none head_is stands can =
      let at = receiver_there beside n old s is stands in
      let here = at.1 in
      subst (λ (a : RAction). ReachedBy a beside n (record { number = head; acks = false }) (Receives s))
      (sym (rule_none n count (sym (ap (λ (k : ℕ). min count k) (count_waits n s here can.running)) ∙ sym few_is ∙ none)))
      (head_is ∙ here.head can.running, refl, (at.0, receiver_burned n s.rvg.core s.waiting (g.meaning s.rvg.shelf) here))

  -- no number is left for all of them
  pub reached_full : (beside : KeptBeside) (n : Node) (count few : ℕ) (old : DiskSet R g) (s : Secondary R g) → old ≡ Receives s → few ≡ min count (length s.waiting) → has_numbers s.rvg.core few ≡ false → SiteStands beside n old → CanReceive beside n
      → ReachedUp beside n count old (Receives s) (Err (Limit Number most_number))
  reached_full beside n count few old s is few_is full stands can =
      let at = receiver_there beside n old s is stands in
      let here = at.1 in
      let long = count_waits n s here can.running in (
        refl,
        (λ told.
            let stamp = here.stamp told can.running in
            ⊎_elim (λ one. omega (arith, one, stamp, few_is, long, here.least, here.most)) (λ two. omega (arith, two, few_is, long, here.least, here.most, here.head can.running)) (lacks_them s.rvg.core few full)),
        (at.0, here),
      )

  -- nothing waits at a site that was not started as one that receives
  pub reached_none_up : (beside : KeptBeside) (n : Node) (count head : ℕ) (old : DiskSet R g) (rvg : Rvg R g) → old ≡ Up rvg → head ≡ last_of rvg.core → SiteStands beside n old → CanReceive beside n
      → ReachedUp beside n count old (Up rvg) (Ok (record { number = head; acks = false }))
  reached_none_up beside n count head old rvg is head_is stands can =
      let at = up_there beside n old rvg is stands in
      let here = at.1 in
      let whole = here.durable can.running in
      subst (λ (a : RAction). ReachedBy a beside n (record { number = head; acks = false }) (Up rvg)) (sym (rule_none n count (omega (arith, whole))))
      (head_is ∙ here.head, refl, (at.0, up_worked n rvg.core (g.meaning rvg.shelf) here))

  -- an apply whose fuse ran out, and the crash behind it
  pub reached_off : {beside : KeptBeside} (n : Node) (count : ℕ) (old mid new : DiskSet R g) (why : No) → is_off why ≡ true → beside.doubt ≡ None → ReachedUp beside n count old mid (Err why)
      → (CutAt beside (with_first n (n.safe + count)) mid → CrashedAt beside (with_first n (n.safe + count)) new) → ReachedAt beside n count old new (Err why)
  reached_off n count old mid new IsOff off sure is falls = (is.0, fell_within n (n.safe + count) new sure (falls is.1))
  reached_off n count old mid new other off sure is falls = absurd (cc)

  pub reached_on : (beside : KeptBeside) (n : Node) (count : ℕ) (old new : DiskSet R g) (why : No) → is_off why ≡ false → ReachedUp beside n count old new (Err why) → ReachedAt beside n count old new (Err why)
  reached_on beside n count old new IsOff off is = absurd (cc)
  reached_on beside n count old new (Device disk) off is = is
  reached_on beside n count old new (Limit what most) off is = is
  reached_on beside n count old new other off is = is
