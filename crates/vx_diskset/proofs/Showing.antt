-- What is shown of a receiver.
use Rattle.std.proofs.Common.{◌≡◌, ◌∙◌, ◌≤◌, ℕ, List, length, take, drop, ap, sym, subst, arith, ◌/◌}
use Rattle.std.specs.Prelude.{None, Result, Ok, Err, OnOk, IsTrue}
use Rattle.std.proofs.lemmas.List.{drop_all}
use Rattle.vx_model.specs.Content.{Write, fold_writes, Content, blocks_in}
use Rattle.vx_model.specs.declared.call.Update.{Update}
use Rattle.vx_model.specs.declared.no.No.{No}
use Rattle.vx_model.specs.declared.no.No.TheVariants.{Device}
use Rattle.vx_rvg.specs.Contents.{ShowsContent}
use Rattle.vx_rvg.specs.Holdings.{Holding}
use Rattle.vx_rvg.specs.Stands.{Stands}
use Rattle.vx_rvg.specs.declared.group.Rvg.{Rvg}
use Rattle.vx_history.specs.World.{Node}
use Rattle.vx_blockwise.specs.Blocks.{blockwise}
use Rattle.vx_disk.specs.Causes.{OnDisks}
use Rattle.vx_disk.specs.Disks.{Untouched}
use Rattle.vx_disk.specs.Shelf.{Goes, Lawful, Meaning, Nothing}
use Rattle.vx_rvg.specs.Groups.{ReadIs, read_refusal}
use Rattle.vx_rvg.specs.Views.{Core, unit_of, IsSound}
use Rattle.vx_secondary.specs.Receivers.{writes_of_updates}
use Rattle.vx_diskset.proofs.MakeGroup.{fuse_untouched}
use Rattle.vx_diskset.specs.Shelves.{ReadAs}
use Rattle.vx_diskset.proofs.ReadGroup.{read_as, reads_up}
use Rattle.vx_events.specs.Sayings.{received_content}
use Rattle.vx_diskset.specs.Received.{ShowedAt}
use Rattle.vx_diskset.specs.Fuses.{FuseOn}
use Rattle.vx_diskset.specs.Holds.{KeptBeside}
use Rattle.vx_diskset.specs.Stands.{IsReceiverAt, IsUpAt, SiteStands, IsUngrouped}
use Rattle.vx_diskset.specs.DiskSets.{ReadAt, CanRead}
use Rattle.vx_diskset.specs.declared.disk_set.DiskSet.{DiskSet}
use Rattle.vx_diskset.specs.declared.disk_set.DiskSet.TheVariants.{Up, Receives}
use Rattle.vx_disk.specs.declared.shelf.Shelf.{Ghosts}
use Rattle.vx_secondary.specs.declared.secondary.Secondary.{Secondary}
use Rattle.vx_diskset.proofs.RawSets.{receiver_there, up_there}
use Rattle.vx_diskset.specs.Works.{DoesShow, ShownAs}
use Rattle.vx_diskset.proofs.OverReads.{room_front}
use Rattle.vx_diskset.proofs.BlockLemmas.{alone_receiver}
use Rattle.vx_diskset.proofs.BlockWorks.{read_changes, shown_alone}
use Rattle.vx_diskset.proofs.Receiving.{as_receiver, durable_of, receiver_up}

module _ {beside : KeptBeside} (n : Node) (c c' : Core) (us us' : List Update) (m new : Meaning) (volume start count : ℕ) (bytes : List ℕ) (r : IsReceiverAt beside n c us m) (can : CanRead n volume start count) (lawful : Lawful m) (after : Lawful new)
    (unit : c.log.unit ≡ c.units.srl) (same : c' ≡ c) (waiting : us' ≡ us) (goes : Goes Nothing m new) (down : new.down ≡ m.down) (disks : OnDisks m.disks new.disks Untouched) where
  up : IsUpAt beside (durable_of n) c m
  up = receiver_up n c us m r can.running lawful unit

  fuse : FuseOn n.fuse new
  fuse = fuse_untouched n.fuse m new disks goes.unarmed r.fuse

  waits : writes_of_updates us ≡ drop n.safe n.log
  waits = r.waits ∙ ap (λ (k : ℕ). drop k n.log) (r.head can.running)

  shown_with : (d : Core) → d ≡ c → IsUpAt beside (durable_of n) d new → IsReceiverAt beside n d us' new
  shown_with d is here = as_receiver n us' n.halted n.fuse d new (r.sure can.running) r.role (omega (arith, r.least, r.most)) (ap (λ (xs : List Update). writes_of_updates xs) waiting ∙ waits) here

  stands : IsReceiverAt beside n c' us' new
  stands = shown_with c' same (subst (λ (d : Core). IsUpAt beside (durable_of n) d new) (sym same) (reads_up (durable_of n) c m new can.running up lawful after unit goes down fuse))

  -- a read that was refused
  refused : (why : No) → ReadIs (read_refusal c (m.size (unit_of c.units.vols volume)) start count) m new (Err why) → ReadAs beside (durable_of n) volume start count bytes c m new (Err why)
  refused why is =
      read_as (durable_of n) c m new volume start count bytes up (record { up = can.up; running = can.running; volume_exists = can.volume_exists; within = can.within }) lawful after unit goes down fuse (Err why) is tt

  by_why : (why : No) → ReadAs beside (durable_of n) volume start count bytes c m new (Err why) → ShownAs beside n volume start count bytes c' us' m new (Err why)
  by_why (Device disk) is = (stands, is.1)
  by_why other is = is

  pub shown_as : (result : Result (Unit {0}) No) → ReadIs (read_refusal c (m.size (unit_of c.units.vols volume)) start count) m new result
      → OnOk result ((h : Holding) → Stands c h m → IsTrue m.tells → ShowsContent (fold_writes h.content (writes_of_updates us)) volume start count bytes) → ShownAs beside n volume start count bytes c' us' m new result
  shown_as (Ok done) is gives = (
    (λ told.
        let here : IsTrue m.tells = sym goes.tells ∙ told in
        let stood = r.content can.running here in
        subst (λ (x : Content). ShowsContent x volume start count bytes) (ap (λ (x : Content). fold_writes x (writes_of_updates us)) stood.has.content ∙ ap (λ (xs : List Write). fold_writes n.base xs) waits) (gives stood.held stood.stands here)),
    stands,
  )
  shown_as (Err why) is gives = by_why why (refused why is)

module _ {R : Type 0} {g : Ghosts R} where
  module _ (beside : KeptBeside) (n : Node) (s new : Secondary R g) (volume start count : ℕ) (bytes : List ℕ) (raw : IsUngrouped beside n) (r : IsReceiverAt beside n s.rvg.core s.waiting (g.meaning s.rvg.shelf)) (can : CanRead n volume start count)
      (lawful : Lawful (g.meaning s.rvg.shelf)) (after : Lawful (g.meaning new.rvg.shelf)) (same : new.rvg.core ≡ s.rvg.core) (waiting : new.waiting ≡ s.waiting) (goes : Goes Nothing (g.meaning s.rvg.shelf) (g.meaning new.rvg.shelf))
      (down : (g.meaning new.rvg.shelf).down ≡ (g.meaning s.rvg.shelf).down) (disks : OnDisks (g.meaning s.rvg.shelf).disks (g.meaning new.rvg.shelf).disks Untouched) where
    by_parts : (result : Result (Unit {0}) No) → ShownAs beside n volume start count bytes new.rvg.core new.waiting (g.meaning s.rvg.shelf) (g.meaning new.rvg.shelf) result → ShowedAt beside n volume start count bytes (Receives s) (Receives new) result
    by_parts (Ok done) h = (h.0, (raw, h.1))
    by_parts (Err (Device disk)) h = ((raw, h.0), h.1)
    by_parts (Err other) h = h

    pub showed : (result : Result (Unit {0}) No) → ReadIs (read_refusal s.rvg.core ((g.meaning s.rvg.shelf).size (unit_of s.rvg.core.units.vols volume)) start count) (g.meaning s.rvg.shelf) (g.meaning new.rvg.shelf) result
        → OnOk result ((h : Holding) → Stands s.rvg.core h (g.meaning s.rvg.shelf) → IsTrue (g.meaning s.rvg.shelf).tells → ShowsContent (fold_writes h.content (writes_of_updates s.waiting)) volume start count bytes)
        → ShowedAt beside n volume start count bytes (Receives s) (Receives new) result
    showed result is gives =
        by_parts result (shown_as n s.rvg.core new.rvg.core s.waiting new.waiting (g.meaning s.rvg.shelf) (g.meaning new.rvg.shelf) volume start count bytes r can lawful after s.rvg.sound.log_unit same waiting goes down disks result is gives)

  pub showed_at : (beside : KeptBeside) (n : Node) (old new : DiskSet R g) (s : Secondary R g) (volume start count : ℕ) (bytes : List ℕ) (result : Result (Unit {0}) No) → old ≡ Receives s
      → (IsUngrouped beside n → IsReceiverAt beside n s.rvg.core s.waiting (g.meaning s.rvg.shelf) → ShowedAt beside n volume start count bytes (Receives s) new result) → SiteStands beside n old → ShowedAt beside n volume start count bytes old new result
  showed_at beside n old new s volume start count bytes result is shows stands =
      let at = receiver_there beside n old s is stands in
      subst (λ (e : DiskSet R g). ShowedAt beside n volume start count bytes e new result) (sym is) (shows at.0 at.1)

  -- nothing waits at a site that does not receive
  pub read_showed : (beside : KeptBeside) (n : Node) (old new : DiskSet R g) (rvg : Rvg R g) (volume start count : ℕ) (bytes : List ℕ) (result : Result (Unit {0}) No) → old ≡ Up rvg → SiteStands beside n old → n.halted ≡ None
      → ReadAt beside n volume start count bytes old new result → ShowedAt beside n volume start count bytes old new result
  read_showed beside n old new rvg volume start count bytes result is stands running read = by result read
    where
      up : IsUpAt beside n rvg.core (g.meaning rvg.shelf)
      up = (up_there beside n old rvg is stands).1

      same : n.base ≡ received_content n
      same = ap (λ (xs : List Write). fold_writes n.base xs) (sym (drop_all n.safe n.log (up.durable running)))

      by : (result : Result (Unit {0}) No) → ReadAt beside n volume start count bytes old new result → ShowedAt beside n volume start count bytes old new result
      by (Ok done) h = ((λ told. subst (λ (c : Content). ShowsContent c volume start count bytes) same (h.0 told)), h.1)
      by (Err (Device disk)) h = h
      by (Err other) h = h

-- ---- the same by parts, where what was read stands at the front of a room

module _ (c c' : Core) (us us' : List Update) (volume start count : ℕ) (bytes room : List ℕ) (given : ℕ) (long : given ≡ length bytes) (m new : Meaning) (result : Result (Unit {0}) No) (lawful : Lawful m) (after : Lawful new) (sound : IsSound c m) (same : c' ≡ c) (sound' : IsSound c' new)
    (waiting : us' ≡ us) (answers : ReadIs (read_refusal c (m.size (unit_of c.units.vols volume)) start (given / 512)) m new result)
    (gives : OnOk result ((h : Holding) → Stands c h m → IsTrue m.tells → ShowsContent (fold_writes h.content (writes_of_updates us)) volume start (given / 512) bytes)) (goes : Goes Nothing m new) (down : new.down ≡ m.down)
    (disks : OnDisks m.disks new.disks Untouched) (size : length room ≡ 8192) (front : take count room ≡ bytes) where
  answers_front : ReadIs (read_refusal c (m.size (unit_of c.units.vols volume)) start (blocks_in bytes)) m new result
  answers_front = subst (λ (k : ℕ). ReadIs (read_refusal c (m.size (unit_of c.units.vols volume)) start (k / 512)) m new result) long answers

  gives_front : OnOk result ((h : Holding) → Stands c h m → IsTrue m.tells → ShowsContent (fold_writes h.content (writes_of_updates us)) volume start (blocks_in bytes) bytes)
  gives_front = subst (λ (k : ℕ). OnOk result ((h : Holding) → Stands c h m → IsTrue m.tells → ShowsContent (fold_writes h.content (writes_of_updates us)) volume start (k / 512) bytes)) long gives

  shown_of : (beside : KeptBeside) (n : Node) → IsReceiverAt beside n c us m → CanRead n volume start (blocks_in bytes) → ShownAs beside n volume start (blocks_in bytes) bytes c' us' m new result
  shown_of beside n r can = shown_as n c c' us us' m new volume start (blocks_in bytes) bytes r can lawful after sound.log_unit same waiting goes down disks result answers_front gives_front

  -- as crashes leave each block by itself
  shown_blocks : (beside : KeptBeside) (n : Node) → IsReceiverAt beside n c us (blockwise m) → CanRead n volume start (blocks_in bytes) → ShownAs beside n volume start (blocks_in bytes) bytes c' us' (blockwise m) (blockwise new) result
  shown_blocks beside n r can = shown_alone m new goes beside n volume start (blocks_in bytes) bytes c' us' result sound' r.left (shown_of beside n (alone_receiver n c us m lawful sound r) can)

  pub shows_room : DoesShow c us volume start count m c' us' room new result
  shows_room = record {
    keeps = record { sound = sound'; units = ap (λ (k : Core). k.units) same; moves = read_changes c m new goes };
    same = same;
    waiting = waiting;
    long = size;
    shown = λ beside n r. subst (λ (b : List ℕ). CanRead n volume start (blocks_in b) → ShownAs beside n volume start (blocks_in b) b c' us' (blockwise m) (blockwise new) result) (sym front) (shown_blocks beside n r);
    down = down;
  }

-- and it is by the bytes that were asked for
pub show_front : (beside : KeptBeside) (n : Node) (c' : Core) (us' : List Update) (volume start count : ℕ) (room into : List ℕ) (m new : Meaning) (result : Result (Unit {0}) No) → length room ≡ 8192 → count ≤ 8192 → into ≡ take count room
    → (CanRead n volume start (blocks_in (take count room)) → ShownAs beside n volume start (blocks_in (take count room)) (take count room) c' us' m new result) → CanRead n volume start (count / 512)
    → ShownAs beside n volume start (count / 512) into c' us' m new result
show_front beside n c' us' volume start count room into m new result long few is shows =
    subst (λ (xs : List ℕ). CanRead n volume start (count / 512) → ShownAs beside n volume start (count / 512) xs c' us' m new result) (sym is)
    (subst (λ (k : ℕ). CanRead n volume start (k / 512) → ShownAs beside n volume start (k / 512) (take count room) c' us' m new result) (room_front count room long few) shows)
