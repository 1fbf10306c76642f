-- A change of the line over the disks of a site, and the crash behind one that the fuse cut.
use Rattle.std.proofs.Common.{◌≡◌, ◌≤◌, ◌∙◌, ◌+◌, ℕ, true, false, List, [], ap, sym, subst, refl, arith, IsTrue}
use Rattle.std.specs.Prelude.{Err, None}
use Rattle.vx_model.specs.declared.call.Update.{Update}
use Rattle.vx_model.specs.declared.no.No.{No}
use Rattle.vx_model.specs.declared.no.No.TheVariants.{Device, Limit, Down as IsOff}
use Rattle.vx_model.specs.declared.site.SiteState.TheVariants.{Bare as IsBare, Up as IsUp, Down as IsDown}
use Rattle.vx_history.specs.World.{Node}
use Rattle.vx_disk.specs.Causes.{OnDisks}
use Rattle.vx_disk.specs.declared.shelf.Shelf.{Ghosts}
use Rattle.vx_grouped.specs.SiteEnds.{is_off}
use Rattle.vx_rvg.specs.declared.group.Rvg.{Rvg}
use Rattle.vx_secondary.specs.declared.secondary.Secondary.{Secondary}
use Rattle.vx_events.specs.declared.said.Said.{Said}
use Rattle.vx_events.specs.declared.said.Said.TheVariants.{Done}
use Rattle.vx_diskset.specs.Asked.{HeadUnder, LeavesFuse, disks_told, size_in}
use Rattle.vx_diskset.specs.Burning.{Burnt, NoMore}
use Rattle.vx_diskset.specs.DiskSets.{CrashedAt, Later, halted_at}
use Rattle.vx_diskset.specs.Holds.{KeptBeside}
use Rattle.vx_diskset.specs.Stands.{CutAt, IsReceiverAt, SiteStands, IsUngrouped}
use Rattle.vx_diskset.specs.declared.disk_set.DiskSet.{DiskSet}
use Rattle.vx_diskset.specs.declared.disk_set.DiskSet.TheVariants.{Bare, Spoiled, Up, Receives, Down, OfGroup, Over, Gone}
use Rattle.vx_diskset.proofs.GroupStands.{apart_bare, none_apart}
use Rattle.vx_joins.specs.Joins.{CanJoin, JoinedAs, JoinedAt, joins_in_doubt}
use Rattle.vx_diskset.proofs.RawSets.{raw_doubted}
use Rattle.vx_history.specs.Events.{joined}

-- a site that may have come to the line is on no group of disks either way
raw_joining : (beside : KeptBeside) (a : Node) (p : ℕ) (n : Node) (disk : ℕ) → n.group ≡ None → IsUngrouped (joins_in_doubt beside a p n disk) (halted_at n disk)
raw_joining beside a p n disk none = (none, raw_doubted (record { node = halted_at (joined a p n) disk; links = beside.links; headers = beside.headers + 1 }) n none refl)

module _ {R : Type 0} {g : Ghosts R} where
  -- the group with the room for updates
  pub receives_group : {beside : KeptBeside} (n : Node) (s : Secondary R g) (v : Rvg R g) → s.rvg ≡ v → s.waiting ≡ [] → IsUngrouped beside n → IsReceiverAt beside n v.core [] (g.meaning v.shelf) → SiteStands beside n (Receives s)
  receives_group {beside} n s v same none raw stands = (
    raw,
    subst (λ (us : List Update). IsReceiverAt beside n s.rvg.core us (g.meaning s.rvg.shelf)) (sym none)
        (subst (λ (k : Rvg R g). IsReceiverAt beside n k.core [] (g.meaning k.shelf)) (sym same) stands),
  )

  -- the fuse ran out, and the site crashed
  pub joined_off : (beside : KeptBeside) (a : Node) (p : ℕ) (n : Node) (old mid : Rvg R g) (new : DiskSet R g) (why : No) → IsUngrouped beside n → is_off why ≡ true → JoinedAs beside a p n (g.meaning old.shelf) mid.core (g.meaning mid.shelf) (Err why)
      → (CutAt (joins_in_doubt beside a p n 0) (halted_at n 0) (Up mid) → CrashedAt (joins_in_doubt beside a p n 0) (halted_at n 0) new) → JoinedAt beside a p n (Up old) new (Err why)
  joined_off beside a p n old mid new IsOff raw off is falls = (is.0, falls (raw_joining beside a p n 0 raw.0, is.1))
  joined_off beside a p n old mid new other raw off is falls = absurd (cc)

  pub joined_on : (beside : KeptBeside) (a : Node) (p : ℕ) (n : Node) (old mid : Rvg R g) (why : No) → IsUngrouped beside n → is_off why ≡ false → JoinedAs beside a p n (g.meaning old.shelf) mid.core (g.meaning mid.shelf) (Err why)
      → JoinedAt beside a p n (Up old) (Up mid) (Err why)
  joined_on beside a p n old mid IsOff raw on is = absurd (cc)
  joined_on beside a p n old mid (Device disk) raw on is = ((raw_joining beside a p n disk raw.0, is.0), is.1, is.2)
  joined_on beside a p n old mid (Limit what most) raw on is = (is.0, is.1, (raw, is.2))
  joined_on beside a p n old mid other raw on is = is

  -- with the room for updates the calls are the same
  pub called_group : (said : Said) (old mid : Rvg R g) (s : Secondary R g) → s.rvg ≡ mid → LeavesFuse NoMore said (Up old) (Up mid) → LeavesFuse NoMore said (Up old) (Receives s)
  called_group said old mid s same called = record {
    told = subst (λ (v : Rvg R g). OnDisks (disks_told (Up old)) (g.meaning v.shelf).disks (Burnt NoMore said (size_in (Up old)))) (sym same) called.told;
    sizes = λ u. ap (λ (v : Rvg R g). (g.meaning v.shelf).size u) same ∙ called.sizes u;
  }

  pub head_group : (old mid : Rvg R g) (s : Secondary R g) → s.rvg ≡ mid → HeadUnder 2 Done (Up old) (Up mid) → HeadUnder 2 Done (Up old) (Receives s)
  head_group old mid s same head =
      let here : HeadUnder 2 Done (Up old) (Up s.rvg) = subst (λ (v : Rvg R g). HeadUnder 2 Done (Up old) (Up v)) (sym same) head in
      record { burns = record { told = here.burns.told; sizes = here.burns.sizes }; takes = here.takes; short = here.short; works = here.works }

  pub later_receives : (old mid : Rvg R g) (s : Secondary R g) → s.rvg ≡ mid → Later (Up old) (Up mid) → Later (Up old) (Receives s)
  later_receives old mid s same later = record {
    counts = λ d. subst (λ (v : Rvg R g). (g.meaning old.shelf).disk_faults d ≤ (g.meaning v.shelf).disk_faults d) (sym same) (later.counts d);
    told = λ t. later.told (subst (λ (v : Rvg R g). IsTrue (g.meaning v.shelf).tells) same t);
  }

  pub later_self : (e : DiskSet R g) → Later e e
  later_self e = record { counts = λ d. omega arith; told = λ t. t }

  -- no other disks are those of an origin that is up
  pub never_joins : {beside : KeptBeside} (n : Node) (e : DiskSet R g) → ((rvg : Rvg R g) → e ≡ Up rvg → ⊥) → SiteStands beside n e → CanJoin beside n → ⊥
  never_joins n (Bare rack) other stands can = let e : IsBare ≡ IsUp = sym (ap (λ (x : Node). x.state) stands.bare.is) ∙ can.up in cc
  never_joins n (Spoiled rack) other stands can = let e : IsBare ≡ IsUp = sym (ap (λ (x : Node). x.state) stands.is) ∙ can.up in cc
  never_joins n (Up rvg) other stands can = other rvg refl
  never_joins n (Receives s) other stands can = let e : true ≡ false = sym can.origin ∙ stands.1.role in cc
  never_joins n (Down rack) other stands can = let e : IsDown ≡ IsUp = sym stands.state ∙ can.up in cc
  never_joins {beside} n (OfGroup s) other stands can = let e : IsBare ≡ IsUp = sym (apart_bare beside n s stands (none_apart n can.apart)) ∙ can.up in cc
  never_joins n (Over s) other stands can = stands.0.0 can.apart
  never_joins n Gone other stands can = stands
