-- A write to a volume of a group, as its site notes it.
use Rattle.std.proofs.Common.{◌≡◌, ℕ, ◌≤◌, true, List, length, refl, sym, subst, arith}
use Rattle.std.specs.Prelude.{Err}
use Rattle.vx_model.specs.declared.no.No.{No}
use Rattle.vx_config.specs.declared.config.Config.{Config}
use Rattle.vx_disk.specs.Causes.{Cause, StaysUp, refusal_of}
use Rattle.vx_disk.specs.Racks.{IsRack}
use Rattle.vx_disk.specs.Shelf.{Fits, Flushed, Goes, Lawful, Meaning, Nothing, Written, Wrote}
use Rattle.vx_disk.specs.declared.shelf.ShelfError.{ShelfError}
use Rattle.vx_disk.specs.declared.shelf.ShelfError.TheVariants.{Down, Fault}
use Rattle.vx_history.specs.Groups.{GroupNode, note_cut, note_doubt, note_write}
use Rattle.vx_history.specs.World.{Node}
use Rattle.vx_group.specs.Finds.{GroupFinds}
use Rattle.vx_group.specs.Holding.{GroupStands, wide}
use Rattle.vx_group.specs.Loses.{LosesPlexes}
use Rattle.vx_group.specs.Stands.{inner_meaning}
use Rattle.vx_group.specs.declared.group_core.GroupCore.{GroupCore}
use Rattle.vx_group.proofs.LoseLemmas.{then_loses}
use Rattle.vx_grouped.specs.Ends.{WriteLeaves, plain_write}
use Rattle.vx_grouped.specs.GroupNotes.{GroupLies, IsGroupAt, IsTight, note_called}
use Rattle.vx_grouped.proofs.ImageLemmas.{called_tight, images_as, nexts_of}
use Rattle.vx_grouped.proofs.NoteLemmas.{lies_called, rack_size, rack_units}
use Rattle.vx_grouped.proofs.PlainLemmas.{cut_holds, doubt_holds, same_holds, write_holds}

module _ (n : Node) (note : GroupNode) (v block : ℕ) (bytes : List ℕ) (c d : GroupCore) (m m' : Meaning) (at : IsGroupAt n note c m) (one : GroupStands c m) (two : GroupStands d m') (loses : LosesPlexes c.inner.config d.inner.config m m') (finds : GroupFinds c d m m') where
  abbrev nexts : List (List ℕ)
  nexts = nexts_of c d m m' finds.core

  abbrev called : GroupNode
  called = note_called nexts d note

  -- a write that failed
  failed_lies : Goes (Written v block bytes) (inner_meaning (wide c) m) (inner_meaning (wide d) m') → GroupLies n (note_doubt (plain_write v block bytes) called) d m'
  failed_lies goes =
      lies_called n note c d m m' at.lies two (rack_units c d m m' one two loses.disks) (rack_size c d m m' one two loses.disks) finds.core
      (note_doubt (plain_write v block bytes) called) refl refl refl
      (doubt_holds called v block bytes (inner_meaning (wide c) m) (inner_meaning (wide d) m')
      (same_holds note (inner_meaning (wide c) m) called.config called.begun called.loose at.lies.holds) goes)

  cut_lies : Goes (Written v block bytes) (inner_meaning (wide c) m) (inner_meaning (wide d) m') → GroupLies n (note_cut (plain_write v block bytes) called) d m'
  cut_lies goes =
      let it = failed_lies goes in
      record { units = it.units; size = it.size; config = it.config; agreed = it.agreed; committed = it.committed; images = images_as (note_doubt (plain_write v block bytes) called) (note_cut (plain_write v block bytes) called) d m' refl refl it.images; holds = cut_holds called v block bytes (inner_meaning (wide d) m') it.holds }

  failed_as : (T U : Type 0) (error : ShelfError) → Goes (Written v block bytes) (inner_meaning (wide c) m) (inner_meaning (wide d) m') → (b : Meaning) → Cause {T = U} b (inner_meaning (wide d) m') v (Err error)
      → WriteLeaves {T = T} n note (plain_write v block bytes) d m' (Err (refusal_of error))
  failed_as T U (Fault disk) goes b cause = (nexts, record { state = at.state; up = cause.1.after; lies = failed_lies goes })
  failed_as T U Down goes b cause = (nexts, record { down = cause; lies = cut_lies goes })

  pub write_failed : (T U : Type 0) (error : ShelfError) (why : No) → why ≡ refusal_of error → Goes (Written v block bytes) (inner_meaning (wide c) m) (inner_meaning (wide d) m') → (b : Meaning)
      → Cause {T = U} b (inner_meaning (wide d) m') v (Err error) → WriteLeaves {T = T} n note (plain_write v block bytes) d m' (Err why)
  write_failed T U error why is goes b cause = subst (λ (y : No). WriteLeaves {T = T} n note (plain_write v block bytes) d m' (Err y)) (sym is) (failed_as T U error goes b cause)

  pub write_done : (b : Meaning) → Lawful (inner_meaning (wide c) m) → Fits (inner_meaning (wide c) m) v block (length bytes) → Goes (Written v block bytes) (inner_meaning (wide c) m) b → Wrote v block bytes (inner_meaning (wide c) m) b
      → Goes Nothing b (inner_meaning (wide d) m') → Flushed v b (inner_meaning (wide d) m') → StaysUp b (inner_meaning (wide d) m') → (c.inner.committed ≡ true → d.inner.committed ≡ true)
      → (nexts : List (List ℕ)) × IsGroupAt n (note_write (plain_write v block bytes) (note_called nexts d note)) d m' × IsTight note d
  write_done b lawful room goes wrote still flushed up trust = (
    nexts,
    record {
      state = at.state;
      up = up.after;
      lies = lies_called n note c d m m' at.lies two (rack_units c d m m' one two loses.disks) (rack_size c d m m' one two loses.disks) finds.core
          (note_write (plain_write v block bytes) called) refl refl refl
          (write_holds called v block bytes (inner_meaning (wide c) m) b (inner_meaning (wide d) m') lawful
          (same_holds note (inner_meaning (wide c) m) called.config called.begun called.loose at.lies.holds) room goes wrote still flushed);
    },
    called_tight note c d m m' at.lies.images finds.core at.lies.committed trust finds.free,
  )

-- two calls over a rack, whose units are its disks
pub rack_rises : (m m' : Meaning) → IsRack m → IsRack m' → ((disk : ℕ) → m.disk_faults disk ≤ m'.disk_faults disk) → (u : ℕ) → m.faults u ≤ m'.faults u
rack_rises m m' old new rise u = let more = rise u in let one = old.counts u in let two = new.counts u in omega (arith, more, one, two)

pub both_lose : (m0 m1 m2 : Meaning) → IsRack m0 → IsRack m1 → IsRack m2 → ((disk : ℕ) → m0.disk_faults disk ≤ m1.disk_faults disk) → ((disk : ℕ) → m1.disk_faults disk ≤ m2.disk_faults disk)
    → (c d e : Config) → LosesPlexes c d m0 m1 → LosesPlexes d e m1 m2 → LosesPlexes c e m0 m2
both_lose m0 m1 m2 first mid last one two c d e = then_loses m0 m1 m2 (rack_rises m0 m1 first mid one) (rack_rises m1 m2 mid last two) c d e
