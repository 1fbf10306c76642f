-- What a read gives of a site that is up.
use Rattle.std.proofs.Common.{◌≡◌, ◌∙◌, inl, ℕ, ◌+◌, ◌*◌, ◌≤◌, ◌++◌, length, take, Bool, true, false, List, ap, sym, subst, refl, arith}
use Rattle.std.specs.Prelude.{Option, Some, None, Result, Ok, Err, OnOk, IsTrue, IsFalse, ltb, if◌then◌else◌}
use Rattle.std.proofs.lemmas.Bool.Decides.{nat_tests}
use Rattle.std.proofs.lemmas.List.{take-append-le, take_all}
use Rattle.vx_model.specs.Content.{Content}
use Rattle.vx_history.specs.World.{Node}
use Rattle.vx_model.specs.declared.no.No.{No}
use Rattle.vx_model.specs.declared.no.No.TheVariants.{Range, Device, Down as IsOff}
use Rattle.vx_model.specs.declared.units.Units.{Units}
use Rattle.vx_diskset.specs.Holds.{KeptBeside}
use Rattle.vx_disk.specs.Moves.{Moves, Anything, Nowhere}
use Rattle.vx_disk.specs.Causes.{OnDisks}
use Rattle.vx_disk.specs.Disks.{Untouched}
use Rattle.vx_disk.specs.Shelf.{Meaning, Image, Lawful, Goes, Nothing}
use Rattle.vx_disk.specs.declared.shelf.Shelf.{Ghosts}
use Rattle.vx_disk.proofs.Moving.{of_nothing}
use Rattle.vx_rvg.specs.Contents.{ShowsContent}
use Rattle.vx_rvg.specs.Groups.{halted_or, read_refusal, ReadIs, ReadsGroup}
use Rattle.vx_rvg.specs.Holdings.{Holding}
use Rattle.vx_rvg.specs.Stands.{Stands}
use Rattle.vx_rvg.specs.Views.{Core, unit_of}
use Rattle.vx_rvg.specs.declared.group.Rvg.{Rvg}
use Rattle.vx_rvg.proofs.ReadStands.{rest_stands}
use Rattle.vx_diskset.specs.declared.disk_set.DiskSet.{DiskSet}
use Rattle.vx_diskset.specs.declared.disk_set.DiskSet.TheVariants.{Up}
use Rattle.vx_diskset.specs.DiskSets.{CanRead, ReadAt}
use Rattle.vx_diskset.specs.Fetching.{Gave, GaveAt}
use Rattle.vx_diskset.specs.Holds.{HasSite}
use Rattle.vx_diskset.specs.Fuses.{FuseOn}
use Rattle.vx_diskset.specs.Stands.{IsUpAt, SiteStands, IsUngrouped}
use Rattle.vx_diskset.specs.Lasts.{StandsHolding}
use Rattle.vx_diskset.specs.Shelves.{ReadAs}
use Rattle.vx_diskset.proofs.Laying.{laid_in}
use Rattle.vx_diskset.proofs.LastWrites.{stands_with, still_with}
use Rattle.vx_diskset.proofs.MakeGroup.{fuse_untouched}
use Rattle.vx_diskset.proofs.StaysUp.{told_now, never_both, up_found, up_with}
use Rattle.vx_diskset.proofs.RawSets.{up_there}

-- what was written over a list of the same length is all of it
pub written_over : (len : ℕ) (xs rest : List ℕ) → len ≡ length xs → take len (xs ++ rest) ≡ xs
written_over len xs rest is = take-append-le len xs rest (omega (arith, is)) ∙ take_all len xs (omega (arith, is))

range_by : (b : Bool) → b ≡ false → (if b then Some Range else None) ≡ None
range_by false e = refl
range_by true e = absurd (cc)

in_range : (size last : ℕ) → last ≤ size → (if ltb size last then Some Range else None) ≡ None
in_range size last within = range_by (ltb size last) (grind (arith, nat_tests))

-- a site that is up stays so over a call that only reads
module _ {beside : KeptBeside} (n : Node) (c : Core) (m new : Meaning) (running : n.halted ≡ None) (up : IsUpAt beside n c m) (lawful : Lawful m) (after : Lawful new) (unit_is : c.log.unit ≡ c.units.srl) (goes : Goes Nothing m new)
    (down : new.down ≡ m.down) (fuse : FuseOn n.fuse new) where
  moves : Moves Nowhere Anything m new
  moves = of_nothing m new goes

  content_on : IsTrue new.tells → StandsHolding c n.log n.base new
  content_on told = still_with c n.log n.base m new (rest_stands c m new goes (down ∙ up.up)) (up.content running (sym goes.tells ∙ told))

  left_on : (i : Image) → new.now i → HasSite beside n i
  left_on i now =
      let told = told_now new i after now in
      inl (up_found n c m i up running (sym goes.tells ∙ told) (stands_with c n.log n.base new i unit_is after (content_on told) now))

  pub reads_up : IsUpAt beside n c new
  reads_up = up_with n c c m new n.halted n.fuse Nowhere Anything moves (down ∙ up.up) fuse up (record { units = refl; ring = refl; header = refl; held = refl }) up.halted (λ none. none) (λ none told. content_on told) left_on

module _ {beside : KeptBeside} (n : Node) (c : Core) (m new : Meaning) (volume start count : ℕ) (bytes : List ℕ) (up : IsUpAt beside n c m) (can : CanRead n volume start count) (lawful : Lawful m) (after : Lawful new)
    (unit_is : c.log.unit ≡ c.units.srl) (goes : Goes Nothing m new) (down : new.down ≡ m.down) (fuse : FuseOn n.fuse new) where
  still : IsFalse new.down
  still = down ∙ up.up

  read_up : IsUpAt beside n c new
  read_up = reads_up n c m new can.running up lawful after unit_is goes down fuse

  size : m.size (unit_of c.units.vols volume) ≡ n.base.size volume
  size = ap (λ (u : Units). m.size (unit_of u.vols volume)) up.units ∙ sym ((laid_in n m up.lies).each volume can.volume_exists)

  by_reads : (result : Result (Unit {0}) No) → ReadsGroup m new result → OnOk result ((h : Holding) → Stands c h m → IsTrue m.tells → ShowsContent h.content volume start count bytes) → ReadAs beside n volume start count bytes c m new result
  by_reads (Ok done) reads gives = (
    (λ told.
        let stood = up.content can.running (sym goes.tells ∙ told) in
        subst (λ (k : Content). ShowsContent k volume start count bytes) stood.has.content (gives stood.held stood.stands (sym goes.tells ∙ told))),
    read_up,
  )
  by_reads (Err (Device disk)) reads gives = (read_up, reads)
  by_reads (Err IsOff) reads gives = never_both new.down reads still
  by_reads (Err other) reads gives = reads

  pub read_as : (result : Result (Unit {0}) No) → ReadIs (read_refusal c (m.size (unit_of c.units.vols volume)) start count) m new result
      → OnOk result ((h : Holding) → Stands c h m → IsTrue m.tells → ShowsContent h.content volume start count bytes) → ReadAs beside n volume start count bytes c m new result
  read_as result is gives =
      let range = in_range (m.size (unit_of c.units.vols volume)) (start + count) (omega (arith, can.within, size)) in
      let refusal : read_refusal c (m.size (unit_of c.units.vols volume)) start count ≡ None
      = ap (λ (h : Option ℕ). halted_or h (if ltb (m.size (unit_of c.units.vols volume)) (start + count) then Some Range else None)) (up.halted ∙ can.running) ∙ range in
      by_reads result (subst (λ (o : Option No). ReadIs o m new result) refusal is) gives

module _ {R : Type 0} {g : Ghosts R} where
  by_disk_set : (beside : KeptBeside) (n : Node) (volume start count : ℕ) (bytes : List ℕ) (rvg new : Rvg R g) (result : Result (Unit {0}) No) → IsUngrouped beside n
      → ReadAs beside n volume start count bytes new.core (g.meaning rvg.shelf) (g.meaning new.shelf) result → ReadAt beside n volume start count bytes (Up rvg) (Up new) result
  by_disk_set beside n volume start count bytes rvg new (Ok done) raw h = (h.0, (raw, h.1))
  by_disk_set beside n volume start count bytes rvg new (Err (Device disk)) raw h = ((raw, h.0), h.1)
  by_disk_set beside n volume start count bytes rvg new (Err other) raw h = h

  -- the disk set of a site whose blocks are read
  pub read_at : (beside : KeptBeside) (n : Node) (volume start count : ℕ) (bytes : List ℕ) (old : DiskSet R g) (rvg new : Rvg R g) (result : Result (Unit {0}) No) → old ≡ Up rvg → SiteStands beside n old
      → CanRead n volume start count → Lawful (g.meaning rvg.shelf) → Lawful (g.meaning new.shelf) → new.core ≡ rvg.core
      → ReadIs (read_refusal rvg.core ((g.meaning rvg.shelf).size (unit_of rvg.core.units.vols volume)) start count) (g.meaning rvg.shelf) (g.meaning new.shelf) result
      → OnOk result ((h : Holding) → Stands rvg.core h (g.meaning rvg.shelf) → IsTrue (g.meaning rvg.shelf).tells → ShowsContent h.content volume start count bytes)
      → Goes Nothing (g.meaning rvg.shelf) (g.meaning new.shelf) → (g.meaning new.shelf).down ≡ (g.meaning rvg.shelf).down
      → OnDisks (g.meaning rvg.shelf).disks (g.meaning new.shelf).disks Untouched → ReadAt beside n volume start count bytes old (Up new) result
  read_at beside n volume start count bytes old rvg new result is stands can lawful after same answers gives goes down disks =
      let at = up_there beside n old rvg is stands in
      subst (λ (e : DiskSet R g). ReadAt beside n volume start count bytes e (Up new) result) (sym is)
      (by_disk_set beside n volume start count bytes rvg new result at.0
      (subst (λ (k : Core). ReadAs beside n volume start count bytes k (g.meaning rvg.shelf) (g.meaning new.shelf) result) (sym same)
      (read_as n rvg.core (g.meaning rvg.shelf) (g.meaning new.shelf) volume start count bytes at.1 can lawful after rvg.sound.log_unit goes down (fuse_untouched n.fuse (g.meaning rvg.shelf) (g.meaning new.shelf) disks goes.unarmed at.1.fuse) result answers gives)))

  -- the same with the blocks in a place for them
  pub gave_blocks : (beside : KeptBeside) (n : Node) (volume start count k : ℕ) (bytes items : List ℕ) (old new : DiskSet R g) (done : Unit {0}) → count ≡ k → items ≡ bytes → length bytes ≡ 512 * count
      → (CanRead n volume start k → ReadAt beside n volume start k bytes old new (Ok done)) → CanRead n volume start count → Gave beside n volume start count items new
  gave_blocks beside n volume start count k bytes items old new done same is size reads can =
      let got = reads (subst (λ (j : ℕ). CanRead n volume start j) same can) in
      subst (λ (xs : List ℕ). Gave beside n volume start count xs new) (sym is) (record {
        size = size;
        shows = λ told. subst (λ (j : ℕ). ShowsContent n.base volume start j bytes) (sym same) (got.0 told);
        stands = got.1;
      })

  pub gave_none : (beside : KeptBeside) (n : Node) (volume start count k : ℕ) (bytes : List ℕ) (old new : DiskSet R g) (no : No) → count ≡ k
      → (CanRead n volume start k → ReadAt beside n volume start k bytes old new (Err no)) → CanRead n volume start count → GaveAt beside n volume start count old new (Err no)
  gave_none beside n volume start count k bytes old new why same reads can = by why (reads (subst (λ (j : ℕ). CanRead n volume start j) same can))
    where
      by : (why : No) → ReadAt beside n volume start k bytes old new (Err why) → GaveAt beside n volume start count old new (Err why)
      by (Device disk) h = h
      by other h = h
