-- What the call on the disks of a target promised of the packet of an update, and what the line leaves behind it, whether contents are told or not.
use Rattle.std.proofs.Common.{◌≡◌, ◌⊎◌, ⊎_elim, ◌<◌, ℕ, false, [], length, refl, subst, sym}
use Rattle.std.specs.Prelude.{Err, Option, Result, Some, slice_set}
use Rattle.vx_model.specs.Content.{Write}
use Rattle.vx_model.specs.Sites.{is_origin}
use Rattle.vx_history.specs.Doubts.{Doubted}
use Rattle.vx_history.specs.Events.{delivered, packet_at, with_write}
use Rattle.vx_history.specs.Stops.{IsOpen}
use Rattle.vx_history.specs.World.{Node, Packet, Update}
use Rattle.vx_history.specs.declared.event.Said.{Said as EventSaid}
use Rattle.vx_history.specs.declared.event.Said.TheVariants.{Ignored as IsIgnored, Taken as IsTaken}
use Rattle.vx_disk.specs.declared.shelf.Shelf.{Ghosts}
use Rattle.vx_effects.specs.Facts.{fact_of, received_fact}
use Rattle.vx_events.specs.declared.said.Said.TheVariants.{Ignored, Taken}
use Rattle.vx_packet.specs.Assemblies.{Assembled}
use Rattle.vx_script.specs.declared.line.ScriptLine.TheVariants.{Deliver}
use Rattle.vx_diskset.specs.Asked.{LeavesAlone}
use Rattle.vx_model.specs.declared.errors.OutOfMemory.{OutOfMemory}
use Rattle.vx_disk.specs.Disks.{Untouched}
use Rattle.vx_events.specs.declared.said.Said.{Said}
use Rattle.vx_script.specs.declared.line.ScriptLine.{ScriptLine}
use Rattle.vx_diskset.specs.Fuses.{LeftAs}
use Rattle.vx_diskset.specs.Holds.{KeptBeside, beside_of}
use Rattle.vx_diskset.specs.Stands.{RoleIs, SiteStands}
use Rattle.vx_diskset.specs.declared.disk_set.DiskSet.{DiskSet}
use Rattle.vx_joins.proofs.TakesUpdate.{node_behind}
use Rattle.vx_joins.specs.Deliveries.{DeliveredTo, TookTo}
use Rattle.vx_yard.specs.Standing.{Leads, LeadsIs, StandsFor}
use Rattle.vx_yard.specs.Yards.{IsTold}
use Rattle.vx_yard.specs.declared.yard.Yard.{Yard}
use Rattle.vx_link_lines.proofs.Deaf.{all_calm, took_open}
use Rattle.vx_link_lines.proofs.HandedOn.{Handed, exact_ignored, exact_taken, found_ignored, found_taken}
use Rattle.vx_yard.proofs.Carrying.{SameLoad, carries_same}
use Rattle.vx_yard.proofs.CrashLine.{rose_still}
use Rattle.vx_yard.proofs.FailsStay.{alone_keeps, fails_then}
use Rattle.vx_yard.proofs.FuseStays.{fused_on}
use Rattle.vx_yard.proofs.NoteSite.{comes_same}
use Rattle.vx_yard.proofs.OneSite.{Changed, stands_still}
use Rattle.vx_events.specs.RvgViews.{is_over_rvg}
use Rattle.vx_yard.proofs.OverGroup.{noted_off}

open_behind : (n m : Node) (source : ℕ) (x : Write) → (m ≡ n) ⊎ (m ≡ with_write n source x) → IsOpen n → IsOpen m
open_behind n m source x one opens = ⊎_elim (λ is. subst (λ (k : Node). IsOpen k) (sym is) opens) (λ is. subst (λ (k : Node). IsOpen k) (sym is) opens) one

module _ {R : Type 0} {g : Ghosts R} where
  -- of the site of this number
  pub record IsBehind (d : Doubted) (number : ℕ) (p : Packet) (k : ℕ) (old new : Yard R g) (before after : DiskSet R g) (feeder : ℕ) (was a : Assembled) (said : EventSaid) (t : ℕ) : Type 0 where
    pub below : t < d.world.sites
    pub changed : Changed old new t before after
    pub role : RoleIs (d.world.nodes t) after
    pub off : is_over_rvg (d.world.nodes t) ≡ false
    pub handed : Handed old new t feeder a
    pub took : TookTo d.world number p k (beside_of d t) after feeder was a old.flight new.flight said
    pub exact : IsTold new → d.strayed ≡ false → DeliveredTo (delivered d.world number (packet_at d.world.packets number)) (beside_of d t) t after feeder a new.flight said
    pub receives : is_origin (d.world.nodes t).role ≡ false
    pub none : (fact_of (d.world.nodes t) (d.world.links t) d.world.sites).links ≡ []

  module _ (d : Doubted) (number : ℕ) (p : Packet) (k : ℕ) (x : Write) (old new : Yard R g) (before after : DiskSet R g) (feeder : ℕ) (was a : Assembled) (stands : StandsFor d old) (at : packet_at d.world.packets number ≡ Some p) (message : p.message ≡ Update k x)
      (alone : LeavesAlone before after) (t : ℕ) (to : p.target ≡ t) where
    pub behind_ignored : IsBehind d number p k old new before after feeder was a IsIgnored t → new.facts.items ≡ old.facts.items → Leads d (Deliver number) Ignored old new
    behind_ignored there facts =
        let here = subst (λ (i : ℕ). IsBehind d number p k old new before after feeder was a IsIgnored i) (sym to) there in
        ⊎_elim
        (λ told. exact_ignored d number p k x old new before after stands here.below here.changed alone here.role here.off feeder a at message here.handed (here.exact told.0 told.1) facts)
        (λ untold. found_ignored d number p k x old new before after stands here.below here.changed alone here.role here.off feeder a at message here.handed untold was here.took facts)
        (all_calm new.disk_sets.items d.strayed)

    pub behind_taken : (last : ℕ) → IsBehind d number p k old new before after feeder was a IsTaken t → ((m : Node) → SiteStands (beside_of d t) m after → IsOpen m → last ≡ length m.log)
        → new.facts.items ≡ slice_set old.facts.items t (received_fact last (fact_of (d.world.nodes t) (d.world.links t) d.world.sites)) → Leads d (Deliver number) Taken old new
    behind_taken last there received facts =
        let here = subst (λ (i : ℕ). IsBehind d number p k old new before after feeder was a IsTaken i) (sym to) there in
        let many = subst (λ (i : ℕ). (m : Node) → SiteStands (beside_of d i) m after → IsOpen m → last ≡ length m.log) (sym to) received in
        let shown = subst (λ (i : ℕ). new.facts.items ≡ slice_set old.facts.items i (received_fact last (fact_of (d.world.nodes i) (d.world.links i) d.world.sites))) (sym to) facts in
        let opens = took_open d.world number p k (beside_of d p.target) after feeder was a old.flight new.flight here.took in
        let m : Node = (delivered d.world number (packet_at d.world.packets number)).world.nodes p.target in
        ⊎_elim
        (λ told.
        let is = here.exact told.0 told.1 in
        exact_taken d number p k x old new before after stands here.below here.changed alone here.role here.off feeder a at message here.handed last is here.receives here.none
        (many m is.stands (open_behind (d.world.nodes p.target) m p.source x (node_behind d.world p x number k at message) opens)) shown)
        (λ untold. found_taken d number p k x old new before after stands here.below here.changed alone here.role here.off feeder a at message here.handed untold last was here.took here.none many shown)
        (all_calm new.disk_sets.items d.strayed)

  -- want of memory: nothing was done
  pub behind_short : (d : Doubted) (line : ScriptLine) (old new : Yard R g) (before after : DiskSet R g) (t : ℕ) (r : Result Said OutOfMemory) (e : OutOfMemory) → r ≡ Err e → StandsFor d old → t < d.world.sites → Changed old new t before after → LeavesAlone before after → RoleIs (d.world.nodes t) after → is_over_rvg (d.world.nodes t) ≡ false
      → ((beside : KeptBeside) (n : Node) → SiteStands beside n before → SiteStands beside n after) → new.facts.items ≡ old.facts.items → SameLoad old new → (IsTold new → IsTold old) → LeadsIs d line old new r
  behind_short d line old new before after t r e is stands below changed alone role off on facts load told =
      let n : Node = d.world.nodes t in
      subst (λ (x : Result Said OutOfMemory). LeadsIs d line old new x) (sym is) (record {
        stands = stands_still d d old new t before after stands below changed
            (comes_same d t after stands.links (on (beside_of d t) n (stands.disk_sets.sites t before below changed.there)) (fails_then n n before after refl (alone_keeps before after alone) (stands.failing t before below changed.there))
            (fused_on Untouched n n n.fuse before after refl (λ a b same left. subst (λ (z : Option (ℕ × ℕ)). LeftAs n.fuse z) (sym same.fuse) left) alone.told (stands.fuses t before below changed.there)) role) (λ first. first)
            (λ _. noted_off (beside_of d t) n n after (on (beside_of d t) n (stands.disk_sets.sites t before below changed.there)) off) refl facts;
        carries = carries_same d old new load told;
        rose = rose_still old new t before after changed.there changed.later changed.disk_sets;
      })
