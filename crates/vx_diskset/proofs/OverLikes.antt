-- The disks of a site whose group has a replicated volume group, by another note of its group that names the same units, and another fuse.
use Rattle.std.proofs.Common.{◌≡◌, ◌∙◌, inl, inr, ℕ, true, List, drop, take, ap, refl, subst, sym}
use Rattle.std.specs.Prelude.{None, Option, Some}
use Rattle.vx_config.specs.Checks.{blocks_of}
use Rattle.vx_config.specs.declared.config.Config.{Config}
use Rattle.vx_disk.specs.Shelf.{Image, Meaning}
use Rattle.vx_disk.specs.declared.shelf.Shelf.{Ghosts}
use Rattle.vx_events.specs.RvgNotes.{inside_of}
use Rattle.vx_grouped.specs.declared.idle.Idle.{Idle}
use Rattle.vx_diskset.specs.LaidBlocks.{laid_blockwise}
use Rattle.vx_history.specs.Groups.{GroupNode}
use Rattle.vx_history.specs.World.{Fuse, Node, NoFuse}
use Rattle.vx_kept.specs.Groups.{group_meaning}
use Rattle.vx_model.specs.Content.{fold_writes}
use Rattle.vx_model.specs.declared.call.Update.{Update}
use Rattle.vx_model.specs.declared.units.Units.{Units}
use Rattle.vx_rvg.specs.Views.{Core}
use Rattle.vx_diskset.specs.Fuses.{FuseOn}
use Rattle.vx_diskset.specs.Holds.{HasSite, HasWrites, KeptBeside, most_header, most_with, state_with}
use Rattle.vx_diskset.specs.Lasts.{FoundWith, LeftWith}
use Rattle.vx_diskset.specs.Layouts.{IsLaid, IsLaidBy, LiesBy, units_by, units_of}
use Rattle.vx_diskset.specs.Stands.{AwayLeft, AwayOver, FellOver, IsOverSite, IsReceiverAt, IsUpAt, OverStands, RestsOver, RvgSettles, SiteStands, idle_ready}
use Rattle.vx_diskset.specs.declared.disk_set.DiskSet.TheVariants.{Over}
use Rattle.vx_diskset.specs.declared.over_set.OverSet.{OverSet}
use Rattle.vx_diskset.specs.declared.over_set.OverSite.{OverSite}
use Rattle.vx_diskset.specs.declared.over_set.OverSite.TheVariants.{Origin as OriginSite, Receiver as ReceiverSite, Deported as GroupAway, Down as GroupFell, Gone as NoGroup}

-- on the same units of a group
lies_over : (was now : Option GroupNode) (fuse : Fuse) (n : Node) (x : Meaning) → (was ≡ None → ⊥) → (now ≡ None → ⊥) → units_by now n.disks ≡ units_by was n.disks → LiesBy was n.disks n.blocks n.ring n.volumes n.base.size x → LiesBy now n.disks n.blocks n.ring n.volumes n.base.size x
lies_over None now fuse n x first last same it = absurd (first refl)
lies_over (Some a) None fuse n x first last same it = absurd (last refl)
lies_over (Some a) (Some b) fuse n x first last same it = record {
  laid = subst (λ (u : Units). IsLaid u n.ring n.volumes n.base.size x) (sym same) it.laid;
  there = λ j is. it.there j (subst (λ (u : Units). inside_of u j ≡ true) same is);
}

module _ (beside : KeptBeside) (n : Node) (group : Option GroupNode) (fuse : Fuse) (some : n.group ≡ None → ⊥) (has : group ≡ None → ⊥) (units : units_by group n.disks ≡ units_of n) where
  abbrev k : Node
  k = record n { group = group; fuse = fuse }

  has_writes : (i : Image) → HasWrites beside n i → HasWrites beside k i
  has_writes i it = record {
    count = it.count;
    least = it.least;
    most = it.most;
    found = subst (λ (u : Units). FoundWith u n.ring (state_with n beside.links) n.session (most_with beside n it.count) i (take it.count n.log) (fold_writes n.base (drop n.safe (take it.count n.log)))) (sym units) it.found;
  }

  has_site : (i : Image) → HasSite beside n i → HasSite beside k i
  has_site i (inl it) = inl (has_writes i it)
  has_site i (inr doubted) = inr doubted

  -- ---- one that is up

  up_as : (c : Core) (x : Meaning) → FuseOn fuse x → IsUpAt beside n c x → IsUpAt beside k c x
  up_as c x lit up = record {
    state = up.state;
    up = up.up;
    fuse = lit;
    lies = lies_over n.group group fuse n x some has units up.lies;
    low = up.low;
    units = up.units ∙ sym units;
    ring = up.ring;
    found = up.found;
    kept = up.kept;
    linked = up.linked;
    session = up.session;
    begun = up.begun;
    stamp = up.stamp;
    fresh = up.fresh;
    first = up.first;
    head = up.head;
    halted = up.halted;
    logged = up.logged;
    durable = up.durable;
    takes = up.takes;
    content = up.content;
    left = λ i now. has_site i (up.left i now);
    sure = up.sure;
    may = up.may;
  }

  receiver_as : (c : Core) (us : List Update) (x : Meaning) → FuseOn fuse x → IsReceiverAt beside n c us x → IsReceiverAt beside k c us x
  receiver_as c us x lit up = record {
    state = up.state;
    role = up.role;
    up = up.up;
    fuse = lit;
    lies = lies_over n.group group fuse n x some has units up.lies;
    low = up.low;
    units = up.units ∙ sym units;
    ring = up.ring;
    found = up.found;
    kept = up.kept;
    linked = up.linked;
    session = up.session;
    begun = up.begun;
    stamp = up.stamp;
    first = up.first;
    least = up.least;
    most = up.most;
    head = up.head;
    halted = up.halted;
    waits = up.waits;
    takes = up.takes;
    content = up.content;
    left = λ i now. has_site i (up.left i now);
    sure = up.sure;
    may = up.may;
  }

  -- ---- one that is off

  rests_as : (P Q : Config → Type 0) (x : Meaning) → ((c : Config) → P c → Q c) → RestsOver P beside n x → RestsOver Q beside k x
  rests_as P Q x like it = record {
    config = it.config;
    sure = it.sure;
    lies = subst (λ (u : Units). IsLaidBy u n.ring n.volumes n.base.size (blocks_of it.config.volumes)) (sym units) it.lies;
    there = λ j is. it.there j (subst (λ (u : Units). inside_of u j ≡ true) units is);
    low = it.low;
    logged = it.logged;
    begun = it.begun;
    left = λ told. like it.config (it.left told);
  }

  away_as : (x : Meaning) (c : Config) → AwayOver c beside n x → AwayOver c beside k x
  away_as x c it = record {
    extends = it.extends;
    left = λ i y opened readable each found open_by.
        subst (λ (u : Units). LeftWith u n.ring (state_with n beside.links) n.session (most_header beside n) n.log n.base (group_meaning opened (λ v. 0) x)) (sym units) (it.left i y opened readable each found open_by);
  }

  fell_as : (x : Meaning) (c : Config) → FellOver c beside n x → FellOver c beside k x
  fell_as x c it = record {
    extends = it.extends;
    found = λ i y above each found shows.
        subst (λ (u : Units). FoundWith u n.ring (state_with n beside.links) n.session (most_header beside n) above n.log n.base) (sym units) (it.found i y above each found shows);
  }

  left_as : (x : Meaning) (c : Config) → AwayLeft c beside n x → AwayLeft c beside k x
  left_as x c (inl it) = inl (away_as x c it)
  left_as x c (inr it) = inr (record { over = fell_as x c it.over; settles = subst (λ (u : Units). RvgSettles u x) (sym units) it.settles; one = it.one })

  ground_as : IsOverSite beside n → IsOverSite beside k
  ground_as it = (has, it.1, it.2, it.3, it.4, it.5)

  -- of one that was deported no fuse is said
  idle_as : {R : Type 0} {g : Ghosts R} (idle : Idle R g) → OverStands beside n (GroupAway idle) → OverStands beside k (GroupAway idle)
  idle_as idle it = (it.0, rests_as (λ c. AwayLeft c beside n (idle_ready idle)) (λ c. AwayLeft c beside k (idle_ready idle)) (idle_ready idle) (left_as (idle_ready idle)) it.1)

  module _ {R : Type 0} {g : Ghosts R} (lit : (x : Meaning) → FuseOn n.fuse x → FuseOn fuse x) (unlit : n.fuse ≡ NoFuse → fuse ≡ NoFuse) where
    stands_as : (s : OverSite R g) → OverStands beside n s → OverStands beside k s
    stands_as (OriginSite f) it = up_as f.core (laid_blockwise f.laid) (lit (laid_blockwise f.laid) it.fuse) it
    stands_as (ReceiverSite f) it = receiver_as f.core f.waiting (laid_blockwise f.laid) (lit (laid_blockwise f.laid) it.fuse) it
    stands_as (GroupAway idle) it = idle_as idle it
    stands_as (GroupFell idle) it = (
      it.0,
      unlit it.1,
      rests_as (λ c. FellOver c beside n (idle_ready idle)) (λ c. FellOver c beside k (idle_ready idle)) (idle_ready idle) (fell_as (idle_ready idle)) it.2,
      λ r is. subst (λ (u : Units). RvgSettles u (idle_ready idle)) (sym units) (it.3 r is),
    )
    stands_as NoGroup it = it

-- by a node that has another note and another fuse
pub over_like : {R : Type 0} {g : Ghosts R} (beside : KeptBeside) (n k : Node) (o : OverSet R g) → k ≡ record n { group = k.group; fuse = k.fuse } → (k.group ≡ None → ⊥) → units_of k ≡ units_of n → ((x : Meaning) → FuseOn n.fuse x → FuseOn k.fuse x)
    → (n.fuse ≡ NoFuse → k.fuse ≡ NoFuse) → SiteStands beside n (Over o) → SiteStands beside k (Over o)
over_like beside n k o is has units lit unlit stands =
    let same : units_by k.group n.disks ≡ units_of n = ap (λ (d : ℕ). units_by k.group d) (sym (ap (λ (x : Node). x.disks) is)) ∙ units in
    subst (λ (x : Node). SiteStands beside x (Over o)) (sym is)
    (ground_as beside n k.group k.fuse stands.0.0 has same stands.0, stands_as beside n k.group k.fuse stands.0.0 has same lit unlit o.site stands.1)

-- and so it is of one that was deported with any fuse
pub idle_like : {R : Type 0} {g : Ghosts R} (beside : KeptBeside) (n k : Node) (o : OverSet R g) (idle : Idle R g) → o.site ≡ GroupAway idle → k ≡ record n { group = k.group; fuse = k.fuse } → (k.group ≡ None → ⊥) → units_of k ≡ units_of n
    → SiteStands beside n (Over o) → SiteStands beside k (Over o)
idle_like {R} {g} beside n k o idle at is has units stands =
    let same : units_by k.group n.disks ≡ units_of n = ap (λ (d : ℕ). units_by k.group d) (sym (ap (λ (x : Node). x.disks) is)) ∙ units in
    let there : OverStands beside n (GroupAway idle) = subst (λ (x : OverSite R g). OverStands beside n x) at stands.1 in
    subst (λ (x : Node). SiteStands beside x (Over o)) (sym is)
    (ground_as beside n k.group k.fuse stands.0.0 has same stands.0, subst (λ (x : OverSite R g). OverStands beside (let m : Node = record n { group = k.group; fuse = k.fuse } in m) x) (sym at) (idle_as beside n k.group k.fuse stands.0.0 has same idle there))

-- who fed a site that is down has nothing to do with its disks
pub fed_like : {R : Type 0} {g : Ghosts R} (beside : KeptBeside) (n : Node) (fed : ℕ) (o : OverSet R g) (idle : Idle R g) → o.site ≡ GroupFell idle → SiteStands beside n (Over o) → SiteStands beside (record n { fed_by = fed }) (Over o)
fed_like {R} {g} beside n fed o idle at stands =
    let there : OverStands beside n (GroupFell idle) = subst (λ (x : OverSite R g). OverStands beside n x) at stands.1 in (
      stands.0,
      subst (λ (x : OverSite R g). OverStands beside (let m : Node = record n { fed_by = fed } in m) x) (sym at) (
        there.0,
        there.1,
        fed_rests (idle_ready idle) there.2,
        there.3,
      ),
    )
  where
    fed_rests : (x : Meaning) → RestsOver (λ c. FellOver c beside n x) beside n x → RestsOver (λ c. FellOver c beside (let m : Node = record n { fed_by = fed } in m) x) beside (let m : Node = record n { fed_by = fed } in m) x
    fed_rests x it = record {
      config = it.config;
      sure = it.sure;
      lies = it.lies;
      there = it.there;
      low = it.low;
      logged = it.logged;
      begun = it.begun;
      left = λ told. let was : FellOver it.config beside n x = it.left told in record { extends = was.extends; found = was.found };
    }
