-- A receiver that runs, seen as a site whose writes end with those that are durable; and what waits behind its group, past calls.
use Rattle.std.proofs.Common.{◌≡◌, ◌∙◌, inl, inr, ⊎_elim, ℕ, ◌+◌, ◌≤◌, true, false, List, [], length, take, drop, ap, sym, subst, refl, arith}
use Rattle.std.specs.Prelude.{IsFalse, Option, Some, None, Result, Ok, Err}
use Rattle.std.proofs.lemmas.Bool.{both_ways}
use Rattle.std.proofs.lemmas.List.{drop_all, length-take, take_all}
use Rattle.vx_model.specs.Content.{Write, fold_writes}
use Rattle.vx_model.specs.Sites.{is_origin}
use Rattle.vx_model.specs.declared.call.Update.{Update}
use Rattle.vx_model.specs.declared.no.No.{No}
use Rattle.vx_model.specs.declared.no.No.TheVariants.{Device, Limit, Down as IsOff}
use Rattle.vx_model.specs.declared.state.KeptLink.{KeptLink}
use Rattle.vx_model.specs.declared.state.State.{State}
use Rattle.vx_model.specs.declared.units.Units.{Units}
use Rattle.vx_rvg.specs.declared.group.Rvg.{Rvg}
use Rattle.vx_history.specs.World.{Node, Fuse, FuseSet}
use Rattle.vx_srlfmt.specs.declared.header.Header.{Header}
use Rattle.vx_srl.specs.declared.kept.Kept.{Kept as KeptRecord}
use Rattle.vx_disk.specs.Causes.{OnDisks}
use Rattle.vx_disk.specs.Disks.{SameBlocks}
use Rattle.vx_disk.specs.Racks.{Alike, IsRack}
use Rattle.vx_disk.specs.Shelf.{Goes, Image, Lawful, Meaning, Nothing}
use Rattle.vx_rvg.specs.Groups.{ApplyIs, GroupFails}
use Rattle.vx_rvg.specs.Saves.{SaveIs, with_new_state}
use Rattle.vx_rvg.specs.Views.{Core, last_of}
use Rattle.vx_rvg.proofs.ReadStands.{rest_stands}
use Rattle.vx_secondary.specs.Receivers.{Wait, writes_of_updates}
use Rattle.vx_secondary.proofs.Writings.{can_same}
use Rattle.vx_diskset.specs.Fuses.{FuseOn}
use Rattle.vx_diskset.specs.Holds.{KeptBeside, HasDoubted, HasWrites, KeptSite, MayBe, site_alone, most_with, state_with}
use Rattle.vx_diskset.specs.Lasts.{FoundWith, StandsHolding}
use Rattle.vx_diskset.specs.Layouts.{units_of}
use Rattle.vx_diskset.specs.Needs.{TakesAs}
use Rattle.vx_diskset.specs.Stands.{IsHeldAt, IsReceiverAt, IsUpAt, RoleIs, SiteStands, IsToldAt, IsUngrouped}
use Rattle.vx_diskset.specs.Rooms.{AppliedAs}
use Rattle.vx_diskset.specs.DiskSets.{AppliedUp, ReadAt, halted_at, BareUp, BareUpBy, CameUp, CameUpBy}
use Rattle.vx_diskset.specs.Keeps.{KeptUp, doubting, restated, kept_anew}
use Rattle.vx_diskset.specs.declared.disk_set.DiskSet.{DiskSet}
use Rattle.vx_diskset.specs.declared.disk_set.DiskSet.TheVariants.{Up, Receives}
use Rattle.vx_disk.specs.declared.shelf.Shelf.{Ghosts}
use Rattle.vx_secondary.specs.declared.secondary.Secondary.{Secondary}
use Rattle.vx_events.proofs.Places.{some_same}
use Rattle.vx_history.specs.Steps.{burned, worked}
use Rattle.vx_diskset.proofs.ApplyGroup.{applied_log, ended_log}
use Rattle.vx_diskset.proofs.BesideLemmas.{may_same, never_besides, site_map}
use Rattle.vx_diskset.proofs.FuseGroup.{alike_stands, lets_by}
use Rattle.vx_diskset.proofs.LastWrites.{stands_with, still_with}
use Rattle.vx_diskset.proofs.Laying.{laid_in, lies_as}
use Rattle.vx_diskset.proofs.StaysUp.{SameLog, told_now, writes_found}
use Rattle.vx_diskset.proofs.RawSets.{receiver_there, up_there, raw_sure, raw_doubting}

-- ---- what waits behind a group

pub wait_as : (c d : Core) (one two : ℕ → ℕ) (us : List Update) → d.units ≡ c.units → d.log.ring ≡ c.log.ring → d.log.header.state.line ≡ c.log.header.state.line → last_of d ≡ last_of c
    → ((u : ℕ) → two u ≡ one u) → Wait c one us → Wait d two us
wait_as c d one two us units ring line last sizes wait = record {
  few = wait.few;
  line = λ k u is. wait.line k u is ∙ sym line;
  number = λ k u is. omega (arith, wait.number k u is, last);
  fits = λ k u is. can_same c e one two u (record { units = units; ring = ring; state = refl; session = refl; stamp = omega arith }) sizes (wait.fits k u is);
}
  where
    e : Core
    e = record c { units = d.units; log = record c.log { ring = d.log.ring } }

-- the same log
wait_log : (c d : Core) (one two : ℕ → ℕ) (us : List Update) → SameLog c d → ((u : ℕ) → two u ≡ one u) → Wait c one us → Wait d two us
wait_log c d one two us same sizes wait =
    wait_as c d one two us same.units same.ring (ap (λ (h : Header). h.state.line) same.header)
    (omega (arith, ap (λ (h : Header). h.low) same.header, ap (λ (ks : List KeptRecord). length ks) same.held)) sizes wait

pub failed_log : (c d : Core) (m new : Meaning) (why : No) → GroupFails c m new d why → SameLog c d
failed_log c d m new (Device disk) fails = ended_log c (Some disk) d fails.0
failed_log c d m new IsOff fails = ended_log c c.halted d fails.0
failed_log c d m new other fails = absurd fails

pub same_log : (c d : Core) → d ≡ c → SameLog c d
same_log c d is = subst (λ (k : Core). SameLog c k) (sym is) (record { units = refl; ring = refl; header = refl; held = refl })

-- behind an apply
pub wait_applied : (r : Option No) (c d : Core) (to : ℕ) (m new : Meaning) (result : Result ℕ No) (us : List Update) → ApplyIs r c to m new d result → ((u : ℕ) → new.size u ≡ m.size u) → Wait c m.size us → Wait d new.size us
wait_applied (Some why) c d to m new result us is sizes wait = wait_log c d m.size new.size us (same_log c d is.1) sizes wait
wait_applied None c d to m new (Ok number) us is sizes wait = wait_log c d m.size new.size us (applied_log c number is.1.0 d is.1.1) sizes wait
wait_applied None c d to m new (Err why) us is sizes wait = wait_log c d m.size new.size us (failed_log c d m new why is) sizes wait

-- behind a state of the same line
pub wait_kept : (r : Option No) (c d : Core) (s : State) (m new : Meaning) (result : Result (Unit {0}) No) (us : List Update) → c.log.header.state.line ≡ s.line → SaveIs r c (with_new_state c s) m new d result
    → ((u : ℕ) → new.size u ≡ m.size u) → Wait c m.size us → Wait d new.size us
wait_kept (Some why) c d s m new result us line is sizes wait = wait_log c d m.size new.size us (same_log c d is.1) sizes wait
wait_kept None c d s m new (Ok done) us line is sizes wait =
    wait_as c d m.size new.size us (ap (λ (k : Core). k.units) is) (ap (λ (k : Core). k.log.ring) is) (ap (λ (k : Core). k.log.header.state.line) is ∙ sym line) (ap (λ (k : Core). last_of k) is) sizes wait
wait_kept None c d s m new (Err why) us line is sizes wait = wait_log c d m.size new.size us (failed_log c d m new why is) sizes wait

-- ---- a receiver that runs, as a site with its durable writes

-- a site with its durable writes alone
abbrev pub durable_of : Node → Node
durable_of n = record n { log = take n.safe n.log }

pub receiver_up : {beside : KeptBeside} (n : Node) (c : Core) (us : List Update) (m : Meaning) → IsReceiverAt beside n c us m → n.halted ≡ None → Lawful m → c.log.unit ≡ c.units.srl → IsUpAt beside (durable_of n) c m
receiver_up {beside} n c us m r running lawful unit_is = record {
  state = r.state;
  up = r.up;
  fuse = r.fuse;
  lies = r.lies;
  low = r.low;
  units = r.units;
  ring = r.ring;
  found = r.found;
  kept = r.kept;
  linked = r.linked;
  session = r.session;
  begun = r.begun;
  stamp = r.stamp;
  fresh = λ origin. absurd (both_ways (is_origin n.role) r.role origin);
  first = r.first;
  head = r.head running;
  halted = r.halted;
  logged = omega (arith, long);
  durable = λ none. omega (arith, long);
  takes = r.takes;
  content = r.content;
  left = λ i now.
      let told = told_now m i lawful now in
      let stood = stands_with c (take n.safe n.log) n.base m i unit_is lawful (r.content running told) now in
      inl (writes_found (durable_of n) c i r.units r.ring (r.kept ∙ ap (λ (ls : List KeptLink). state_with n ls) (r.linked told)) r.session (let t = r.stamp told running in omega (arith, t)) long stood);
  sure = r.sure;
  may = r.may;
}
  where
    long : length (take n.safe n.log) ≡ n.safe
    long = omega (arith, length-take n.safe n.log, r.least, r.most)

-- what an image has of the durable writes it has of all
pub more_writes : {beside : KeptBeside} (k : Node) (log : List Write) (i : Image) → k.log ≡ take k.safe log → k.safe ≤ length log → HasWrites beside k i → HasWrites beside (record k { log = log }) i
more_writes {beside} k log i front most has = record {
  count = has.count;
  least = has.least;
  most = omega (arith, all, most);
  found = subst (λ (ws : List Write). FoundWith (units_of k) k.ring (state_with k beside.links) k.session (most_with beside k has.count) i ws (fold_writes k.base (drop k.safe ws)))
      (take_all has.count k.log (omega (arith, long, all)) ∙ front ∙ ap (λ (j : ℕ). take j log) (sym all)) has.found;
}
  where
    long : length k.log ≡ k.safe
    long = omega (arith, ap (λ (ws : List Write). length ws) front, length-take k.safe log, most)

    all : has.count ≡ k.safe
    all = omega (arith, has.least, has.most, long)

-- a site that has its durable writes is a receiver with more of them, behind which these wait
pub up_receiver : {beside : KeptBeside} (doubt : Option KeptSite) (k : Node) (log : List Write) (c : Core) (us : List Update) (m : Meaning) → is_origin k.role ≡ false → k.log ≡ take k.safe log → k.safe ≤ length log → writes_of_updates us ≡ drop k.safe log
    → ((i : Image) → HasDoubted beside.doubt i → HasDoubted doubt i) → ((x : KeptSite) → doubt ≡ Some x → MayBe x m) → (k.halted ≡ None → doubt ≡ None)
    → IsUpAt beside k c m → IsReceiverAt (record beside { doubt = doubt }) (record k { log = log }) c us m
up_receiver {beside} doubt k log c us m role front most waits same may sure up = record {
  state = up.state;
  role = role;
  up = up.up;
  fuse = up.fuse;
  lies = up.lies;
  low = up.low;
  units = up.units;
  ring = up.ring;
  found = up.found;
  kept = up.kept;
  linked = up.linked;
  session = up.session;
  begun = up.begun;
  stamp = up.stamp;
  first = up.first;
  least = omega (arith, up.head);
  most = omega (arith, up.head, most);
  head = λ none. up.head;
  halted = up.halted;
  waits = waits ∙ ap (λ (j : ℕ). drop j log) (sym up.head);
  takes = λ none. subst (λ (ws : List Write). TakesAs c.log ws) front (up.takes none);
  content = λ none told. subst (λ (ws : List Write). StandsHolding c ws k.base m) front (up.content none told);
  left = λ i now. ⊎_elim (λ one. inl (of_doubt (more_writes k log i front most one))) (λ other. inr (same i other)) (up.left i now);
  sure = sure;
  may = may;
}
  where
    of_doubt : {i : Image} → HasWrites beside (record k { log = log }) i → HasWrites (record beside { doubt = doubt }) (record k { log = log }) i
    of_doubt has = record { count = has.count; least = has.least; most = has.most; found = has.found }

-- the same of one whose shelf is down
pub held_receiver : {beside : KeptBeside} (doubt : Option KeptSite) (k : Node) (log : List Write) (m : Meaning) → k.log ≡ take k.safe log → k.safe ≤ length log
    → ((i : Image) → HasDoubted beside.doubt i → HasDoubted doubt i) → ((x : KeptSite) → doubt ≡ Some x → MayBe x m) → IsHeldAt beside k m → IsHeldAt (record beside { doubt = doubt }) (record k { log = log }) m
held_receiver {beside} doubt k log m front most same may held = record {
  lies = held.lies;
  low = held.low;
  logged = most;
  begun = held.begun;
  left = λ i now. ⊎_elim (λ one. inl (of_doubt (more_writes k log i front most one))) (λ other. inr (same i other)) (held.left i now);
  may = may;
}
  where
    of_doubt : {i : Image} → HasWrites beside (record k { log = log }) i → HasWrites (record beside { doubt = doubt }) (record k { log = log }) i
    of_doubt has = record { count = has.count; least = has.least; most = has.most; found = has.found }

-- ---- a receiver over calls that change no contents

pub receiver_held : {beside : KeptBeside} (n : Node) (c : Core) (us : List Update) (m : Meaning) → IsReceiverAt beside n c us m → IsHeldAt beside n m
receiver_held n c us m r = record { lies = r.lies; low = r.low; logged = omega (arith, r.least, r.most); begun = r.begun; left = r.left; may = r.may }

pub receiver_still : {beside : KeptBeside} (n : Node) (c : Core) (us : List Update) (m new : Meaning) → Goes Nothing m new → ((i : Image) → new.now i → m.now i) → new.down ≡ m.down → FuseOn n.fuse new
    → IsReceiverAt beside n c us m → IsReceiverAt beside n c us new
receiver_still n c us m new goes now down fuse r =
    let still : IsFalse new.down = down ∙ r.up in
    record {
      state = r.state;
      role = r.role;
      up = still;
      fuse = fuse;
      lies = lies_as n m new goes.units goes.size r.lies;
      low = r.low;
      units = r.units;
      ring = r.ring;
      found = r.found;
      kept = r.kept;
      linked = λ told. r.linked (sym goes.tells ∙ told);
      session = r.session;
      begun = λ told. r.begun (sym goes.tells ∙ told);
      stamp = λ told none. r.stamp (sym goes.tells ∙ told) none;
      first = r.first;
      least = r.least;
      most = r.most;
      head = r.head;
      halted = r.halted;
      waits = r.waits;
      takes = r.takes;
      content = λ none told. still_with c (take n.safe n.log) n.base m new (rest_stands c m new goes still) (r.content none (sym goes.tells ∙ told));
      left = λ i is. r.left i (now i is);
      sure = r.sure;
      may = λ k is. may_same k m new goes.units goes.size goes.tells (r.may k is);
    }

-- on a shelf of which only the fuse changed
pub receiver_alike : {beside : KeptBeside} (n : Node) (fuse : Fuse) (c : Core) (us : List Update) (m new : Meaning) → Alike m new → new.down ≡ m.down → FuseOn fuse new
    → IsReceiverAt beside n c us m → IsReceiverAt beside (record n { fuse = fuse }) c us new
receiver_alike n fuse c us m new alike down on r = record {
  state = r.state;
  role = r.role;
  up = down ∙ r.up;
  fuse = on;
  lies = lies_as n m new alike.contents.units alike.contents.size r.lies;
  low = r.low;
  units = r.units;
  ring = r.ring;
  found = r.found;
  kept = r.kept;
  linked = λ told. r.linked (sym alike.contents.tells ∙ told);
  session = r.session;
  begun = λ told. r.begun (sym alike.contents.tells ∙ told);
  stamp = λ told none. r.stamp (sym alike.contents.tells ∙ told) none;
  first = r.first;
  least = r.least;
  most = r.most;
  head = r.head;
  halted = r.halted;
  waits = r.waits;
  takes = r.takes;
  content = λ none told. still_with c (take n.safe n.log) n.base m new (alike_stands c m new alike) (r.content none (sym alike.contents.tells ∙ told));
  left = λ i now. site_map n (record n { fuse = fuse }) i (λ has. record { count = has.count; least = has.least; most = has.most; found = has.found }) (r.left i (alike.contents.now i now));
  sure = r.sure;
  may = λ k is. may_same k m new alike.contents.units alike.contents.size alike.contents.tells (r.may k is);
}

-- with its fuse
pub receiver_fused : {beside : KeptBeside} (n : Node) (c : Core) (us : List Update) (m new : Meaning) (calls pick : ℕ) → IsRack new → Alike m new → new.down ≡ m.down → OnDisks m.disks new.disks (λ o n. SameBlocks o n × (n.fuse ≡ Some (calls, pick)))
    → IsReceiverAt beside n c us m → IsReceiverAt beside (record n { fuse = FuseSet calls }) c us new
receiver_fused n c us m new calls pick rack alike down disks r = receiver_alike n (FuseSet calls) c us m new alike down (lets_by calls pick m.disks new.disks disks rack.told rack.is) r

-- the volumes of its group are those of the site
pub receiver_volumes : {beside : KeptBeside} (n : Node) (c : Core) (us : List Update) (m : Meaning) → IsReceiverAt beside n c us m → length c.units.vols ≡ length n.volumes
receiver_volumes n c us m r = ap (λ (u : Units). length u.vols) r.units ∙ (laid_in n m r.lies).count

-- ---- what calls on a receiver that runs leave of it

never_may : (beside : KeptBeside) (m : Meaning) → beside.doubt ≡ None → (x : KeptSite) → beside.doubt ≡ Some x → MayBe x m
never_may beside m sure x is = never_besides beside.doubt m sure x is

-- a receiver whose node is this one with another halt and another fuse
pub as_receiver : {beside : KeptBeside} (n : Node) (us : List Update) (halted : Option ℕ) (fuse : Fuse) (c : Core) (m : Meaning) → beside.doubt ≡ None → is_origin n.role ≡ false → n.safe ≤ length n.log → writes_of_updates us ≡ drop n.safe n.log
    → IsUpAt beside (record (durable_of n) { halted = halted; fuse = fuse }) c m → IsReceiverAt beside (record n { halted = halted; fuse = fuse }) c us m
as_receiver {beside} n us halted fuse c m sure role most waits up =
    up_receiver beside.doubt (record (durable_of n) { halted = halted; fuse = fuse }) n.log c us m role refl most waits (λ i has. has) (never_may beside m sure) (λ none. sure) up

pub as_held : {beside : KeptBeside} (n : Node) (m : Meaning) → beside.doubt ≡ None → n.safe ≤ length n.log → IsHeldAt beside (durable_of n) m → IsHeldAt beside n m
as_held {beside} n m sure most held = held_receiver beside.doubt (durable_of n) n.log m refl most (λ i has. has) (never_may beside m sure) held

-- ---- a header that a receiver may have written, or not

module _ (beside : KeptBeside) (n : Node) (k : State) (long : n.safe ≤ length n.log) where
  abbrev pub doubted : ℕ → KeptSite
  doubted disk = record { node = halted_at (restated n k) disk; links = k.links; headers = beside.headers + 1 }

  pub has_doubted : (disk : ℕ) (i : Image) → HasDoubted (doubting beside (durable_of n) k disk).doubt i → HasDoubted (Some (doubted disk)) i
  has_doubted disk i has = more_writes (halted_at (restated (durable_of n) k) disk) n.log i refl long has

  pub may_doubted : (disk : ℕ) (m : Meaning) → ((x : KeptSite) → (doubting beside (durable_of n) k disk).doubt ≡ Some x → MayBe x m) → (x : KeptSite) → Some (doubted disk) ≡ Some x → MayBe x m
  may_doubted disk m may x is =
      let own = may (record { node = halted_at (restated (durable_of n) k) disk; links = k.links; headers = beside.headers + 1 }) refl in
      subst (λ (y : KeptSite). MayBe y m) (some_same is) (record { state = own.state; lies = own.lies; low = own.low; logged = long; begun = own.begun })

-- ---- the same of disk sets

pub never_some : {A : Type 0} {x : A} → Some x ≡ None → ⊥
never_some e = cc

-- behind a call that changes nothing of the group's core
pub wait_core : (c d : Core) (m new : Meaning) (us : List Update) → d ≡ c → ((u : ℕ) → new.size u ≡ m.size u) → Wait c m.size us → Wait d new.size us
wait_core c d m new us is sizes wait = wait_log c d m.size new.size us (same_log c d is) sizes wait

module _ {R : Type 0} {g : Ghosts R} where
  -- what is known of a receiver
  abbrev At : KeptBeside → Node → Secondary R g → Type 0
  At beside n s = IsReceiverAt beside n s.rvg.core s.waiting (g.meaning s.rvg.shelf)

  -- the writes that wait at one that runs
  waits_safe : {beside : KeptBeside} (n : Node) (s : Secondary R g) → At beside n s → n.halted ≡ None → writes_of_updates s.waiting ≡ drop n.safe n.log
  waits_safe n s r running = r.waits ∙ ap (λ (k : ℕ). drop k n.log) (r.head running)

  -- as a site with its durable writes
  pub receiver_as : (beside : KeptBeside) (n : Node) (old : DiskSet R g) (s : Secondary R g) → old ≡ Receives s → SiteStands beside n old → n.halted ≡ None → Lawful (g.meaning s.rvg.shelf) → IsUpAt beside (durable_of n) s.rvg.core (g.meaning s.rvg.shelf)
  receiver_as beside n old s is stands running lawful =
      receiver_up n s.rvg.core s.waiting (g.meaning s.rvg.shelf) (receiver_there beside n old s is stands).1 running lawful s.rvg.sound.log_unit

  module _ (beside : KeptBeside) (n : Node) (old : DiskSet R g) (s new : Secondary R g) (is : old ≡ Receives s) (stands : SiteStands beside n old) (running : n.halted ≡ None) (waiting : new.waiting ≡ s.waiting) where
    raw : IsUngrouped beside n
    raw = (receiver_there beside n old s is stands).0

    here : At beside n s
    here = (receiver_there beside n old s is stands).1

    waits_new : writes_of_updates new.waiting ≡ drop n.safe n.log
    waits_new = ap (λ (us : List Update). writes_of_updates us) waiting ∙ waits_safe n s here running

    long : n.safe ≤ length n.log
    long = omega (arith, here.least, here.most)

    receives : (halted : Option ℕ) (fuse : Fuse) → IsUpAt beside (record (durable_of n) { halted = halted; fuse = fuse }) new.rvg.core (g.meaning new.rvg.shelf) → At beside (record n { halted = halted; fuse = fuse }) new
    receives halted fuse up = as_receiver n new.waiting halted fuse new.rvg.core (g.meaning new.rvg.shelf) (here.sure running) here.role long waits_new up

    -- a read
    by_read : (volume start count : ℕ) (bytes : List ℕ) (result : Result (Unit {0}) No) → ReadAt beside (durable_of n) volume start count bytes (Up s.rvg) (Up new.rvg) result → ReadAt beside n volume start count bytes (Receives s) (Receives new) result
    by_read volume start count bytes (Ok done) h = (h.0, (raw, receives n.halted n.fuse h.1.1))
    by_read volume start count bytes (Err (Device disk)) h = ((raw, receives n.halted n.fuse h.0.1), h.1)
    by_read volume start count bytes (Err other) h = h

    pub read_received : (volume start count : ℕ) (bytes : List ℕ) (result : Result (Unit {0}) No) → ReadAt beside (durable_of n) volume start count bytes (Up s.rvg) (Up new.rvg) result → ReadAt beside n volume start count bytes old (Receives new) result
    read_received volume start count bytes result h =
        subst (λ (e : DiskSet R g). ReadAt beside n volume start count bytes e (Receives new) result) (sym is) (by_read volume start count bytes result h)

    -- an apply of what is logged
    by_apply : (to : ℕ) (result : Result ℕ No) → AppliedAs beside (durable_of n) to new.rvg.core (g.meaning s.rvg.shelf) (g.meaning new.rvg.shelf) result → AppliedUp beside n to (Receives s) (Receives new) result
    by_apply to (Ok number) h = (h.0, h.1, (raw, receives n.halted (burned n.fuse) h.2))
    by_apply to (Err (Device disk)) h = ((raw, receives (Some disk) (burned n.fuse) h.0), h.1)
    by_apply to (Err IsOff) h = (h.0, (raw, h.1))
    by_apply to (Err other) h = h

    pub applied_received : (to : ℕ) (result : Result ℕ No) → AppliedAs beside (durable_of n) to new.rvg.core (g.meaning s.rvg.shelf) (g.meaning new.rvg.shelf) result → AppliedUp beside n to old (Receives new) result
    applied_received to result h = subst (λ (e : DiskSet R g). AppliedUp beside n to e (Receives new) result) (sym is) (by_apply to result h)

    -- a state that is kept
    module _ (k : State) (same_role : is_origin k.role ≡ is_origin n.role) where
      by_keep : (result : Result (Unit {0}) No) → KeptUp beside (durable_of n) k (Up s.rvg) (Up new.rvg) result → KeptUp beside n k (Receives s) (Receives new) result
      by_keep (Ok done) h = (
        raw_sure (kept_anew beside n k) (worked (restated n k)) raw.0,
        up_receiver None (worked (restated (durable_of n) k)) n.log new.rvg.core new.waiting (g.meaning new.rvg.shelf) (same_role ∙ here.role) refl long waits_new (λ i has. has) (λ x none. absurd (never_some (sym none))) (λ none. refl) h.1,
      )
      by_keep (Err (Device disk)) h = (
        (
          raw_doubting beside n k disk raw.0,
          up_receiver (Some (doubted beside n k long disk)) (halted_at (durable_of n) disk) n.log new.rvg.core new.waiting (g.meaning new.rvg.shelf) here.role refl long waits_new (has_doubted beside n k long disk) (may_doubted beside n k long disk (g.meaning new.rvg.shelf) h.0.1.may)
              (λ none. absurd (never_some none)) h.0.1,
        ),
        h.1,
        h.2,
      )
      by_keep (Err (Limit what most)) h = (h.0, h.1, (raw, receives n.halted n.fuse h.2.1))
      by_keep (Err IsOff) h = (h.0, (raw_doubting beside n k 0 raw.0, held_receiver (Some (doubted beside n k long 0)) (halted_at (durable_of n) 0) n.log (g.meaning new.rvg.shelf) refl long (has_doubted beside n k long 0) (may_doubted beside n k long 0 (g.meaning new.rvg.shelf) h.1.1.may) h.1.1))
      by_keep (Err other) h = h

      pub kept_received : (result : Result (Unit {0}) No) → KeptUp beside (durable_of n) k (Up s.rvg) (Up new.rvg) result → KeptUp beside n k old (Receives new) result
      kept_received result h = subst (λ (e : DiskSet R g). KeptUp beside n k e (Receives new) result) (sym is) (by_keep result h)

-- ---- a site that came up

-- with all writes durable
pub risen_receiver : {beside : KeptBeside} (n : Node) (c : Core) (m : Meaning) → IsUpAt beside n c m → n.halted ≡ None → length n.log ≡ n.safe → is_origin c.log.header.state.role ≡ false → IsReceiverAt beside n c [] m
risen_receiver {beside} n c m up running whole role =
    up_receiver beside.doubt n n.log c [] m (sym (ap (λ (s : State). is_origin s.role) up.kept) ∙ role) (sym (take_all n.safe n.log (omega (arith, whole)))) (omega (arith, whole)) (sym (drop_all n.safe n.log (omega (arith, whole))))
    (λ i has. has) (λ x is. up.may x is) up.sure up

module _ {R : Type 0} {g : Ghosts R} where
  pub risen_at : (beside : KeptBeside) (n : Node) (old : DiskSet R g) (rvg : Rvg R g) (s : Secondary R g) → old ≡ Up rvg → s.rvg ≡ rvg → s.waiting ≡ [] → is_origin rvg.core.log.header.state.role ≡ false → SiteStands beside n old → n.halted ≡ None → length n.log ≡ n.safe
      → IsUngrouped beside n × IsReceiverAt beside n s.rvg.core s.waiting (g.meaning s.rvg.shelf)
  risen_at beside n old rvg s is group none role stands running whole =
      let at = up_there beside n old rvg is stands in (
        at.0,
        subst (λ (us : List Update). IsReceiverAt beside n s.rvg.core us (g.meaning s.rvg.shelf)) (sym none)
            (subst (λ (k : Rvg R g). IsReceiverAt beside n k.core [] (g.meaning k.shelf)) (sym group) (risen_receiver n rvg.core (g.meaning rvg.shelf) at.1 running whole role)),
      )

  -- by its role it is an origin
  pub risen_origin : (beside : KeptBeside) (n : Node) (e : DiskSet R g) (rvg : Rvg R g) → e ≡ Up rvg → is_origin rvg.core.log.header.state.role ≡ true → SiteStands beside n e → is_origin n.role ≡ true
  risen_origin beside n e rvg is role stands =
      let up : IsUpAt beside n rvg.core (g.meaning rvg.shelf) = (up_there beside n e rvg is stands).1 in
      sym (ap (λ (s : State). is_origin s.role) up.kept) ∙ role

  pub came_role : {beside : KeptBeside} (n : Node) (mid new : DiskSet R g) → CameUp beside n mid → ((k : Node) → SiteStands beside k mid → k.halted ≡ None → length k.log ≡ k.safe → SiteStands beside k new) → ((k : Node) → SiteStands beside k mid → RoleIs k new)
      → (IsToldAt new → IsToldAt mid) → CameUpBy beside n new
  came_role n mid new came rises role told = record {
    came = record {
      node = came.node;
      is = λ here. came.is (told here);
      same = came.same;
      whole = came.whole;
      stands = rises came.node came.stands came.same.running came.whole;
      next = λ here. came.next (told here);
    };
    role = role came.node came.stands;
  }

  pub bare_role : (n : Node) (mid new : DiskSet R g) → BareUp n mid → ((beside : KeptBeside) (k : Node) → SiteStands beside k mid → k.halted ≡ None → length k.log ≡ k.safe → SiteStands beside k new) → ((beside : KeptBeside) (k : Node) → SiteStands beside k mid → RoleIs k new)
      → (IsToldAt new → IsToldAt mid) → BareUpBy n new
  bare_role n mid new came rises role told = record {
    came = record {
      untold = λ here. came.untold (told here);
      node = came.node;
      same = came.same;
      whole = came.whole;
      stands = λ beside sure. rises beside came.node (came.stands beside sure) came.same.running came.whole;
    };
    role = role site_alone came.node (came.stands site_alone refl);
  }
