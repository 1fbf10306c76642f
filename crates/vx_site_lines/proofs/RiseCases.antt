-- Each case of a site whose group is started, from what the calls on its disks promise.
use Rattle.std.proofs.Common.{◌≡◌, ◌∙◌, ◌<◌, ◌-◌, ℕ, Bool, true, false, List, length, ap, sym, subst, refl, arith}
use Rattle.std.specs.Prelude.{Some, None, Result, Ok, Err, map, slice_get, slice_set}
use Rattle.vx_model.specs.Sites.{is_origin}
use Rattle.vx_model.specs.Sizes.{ring_of}
use Rattle.vx_model.specs.declared.no.No.{No}
use Rattle.vx_model.specs.declared.no.No.TheVariants.{NoConfig}
use Rattle.vx_model.specs.declared.site.SiteState.TheVariants.{Bare as IsBare, Down as IsDown, Up as IsUp}
use Rattle.vx_model.specs.declared.state.KeptLink.{KeptLink}
use Rattle.vx_model.specs.declared.state.State.{State}
use Rattle.vx_model.proofs.Lists.{get_there}
use Rattle.vx_disk.specs.Shelf.{Lawful}
use Rattle.vx_disk.specs.declared.shelf.Shelf.{Ghosts}
use Rattle.vx_rvg.specs.Starts.{Room}
use Rattle.vx_diskset.specs.Asked.{SameFailing}
use Rattle.vx_diskset.specs.DiskSets.{BareUp, BareUpBy, BareUpByIs, CameUp, CameUpBy, CameUpByIs, CrashedAt, Later}
use Rattle.vx_diskset.specs.Holds.{KeptBeside, site_alone, beside_of, doubt_of, header_links, state_with}
use Rattle.vx_diskset.specs.Layouts.{CanBeRaw, IsRoomOf}
use Rattle.vx_diskset.specs.Stands.{IsToldAt, SiteStands}
use Rattle.vx_diskset.specs.Withdrawn.{IsBareOf}
use Rattle.vx_diskset.specs.declared.disk_set.DiskSet.{DiskSet}
use Rattle.vx_diskset.specs.declared.disk_set.DiskSet.TheVariants.{Bare, Spoiled, Up, Receives, Down, OfGroup, Over, Gone}
use Rattle.vx_diskset.proofs.KeepsFailing.{failing_same, failing_then}
use Rattle.vx_history.specs.Doubts.{Doubted}
use Rattle.vx_history.specs.Steps.{raw_volumes}
use Rattle.vx_history.specs.World.{Node}
use Rattle.vx_events.proofs.OverSeats.{fact_apart}
use Rattle.vx_events.proofs.Places.{some_same}
use Rattle.vx_events.specs.Facts.{site_number, volume_fact}
use Rattle.vx_events.specs.GroupLines.{is_over_group}
use Rattle.vx_events.specs.LinkedFacts.{linked_fact}
use Rattle.vx_events.specs.Lists.{Choice}
use Rattle.vx_events.specs.LinksFit.{LinksFit}
use Rattle.vx_events.specs.declared.said.Said.{Said}
use Rattle.vx_events.specs.declared.said.Said.TheVariants.{Refused}
use Rattle.vx_order.specs.declared.facts.SiteFacts.{SiteFacts}
use Rattle.vx_order.specs.declared.facts.VolumeFacts.{VolumeFacts}
use Rattle.vx_script.specs.declared.line.ScriptLine.TheVariants.{Recover}
use Rattle.vx_yard.specs.Changes.{raw_facts}
use Rattle.vx_above.specs.OwnDisks.{own_disks}
use Rattle.vx_site_lines.specs.Rises.{IsRisen, LeadsFrom, RisesFrom, RisesTo, can_rise}
use Rattle.vx_yard.specs.Standing.{Leads, StandsFor}
use Rattle.vx_yard.specs.declared.yard.Yard.{Yard}
use Rattle.vx_yard.proofs.Kept.{many_sites}
use Rattle.vx_yard.proofs.Lists.{set_same}
use Rattle.vx_yard.proofs.NamedSite.{fact_of}
use Rattle.vx_yard.proofs.RawSites.{raw_site, raw_told}
use Rattle.vx_site_lines.proofs.Apart.{bare_over}
use Rattle.vx_site_lines.proofs.RawSite.{bare_at}
use Rattle.vx_site_lines.proofs.RiseBare.{none_leads, stands_up_bare, stays_bare, untold_none}
use Rattle.vx_site_lines.proofs.RiseLeads.{Replaced, stays_down, stood_up, withdrawn}
use Rattle.vx_site_lines.proofs.RiseLine.{shape_at, sure, told_may, told_origin}
use Rattle.vx_above.proofs.RiseWorlds.{own_sites}
use Rattle.vx_diskset.proofs.GroupCalling.{rack_tells}
use Rattle.vx_diskset.proofs.GroupFinding.{over_made}
use Rattle.vx_diskset.proofs.GroupStands.{none_apart}

module _ {R : Type 0} {g : Ghosts R} where
  pub later_then : (a b c : DiskSet R g) → Later a b → Later b c → Later a c
  later_then a b c one two = record { counts = λ k. omega (arith, one.counts k, two.counts k); told = λ told. one.told (two.told told) }

  later_none : (e : DiskSet R g) → Later e e
  later_none e = record { counts = λ k. omega arith; told = λ told. told }

  -- ---- a site that was down

  module _ (lawful : (r : R) → Lawful (g.meaning r)) (d h : Doubted) (old : Yard R g) (s ring : ℕ) (c : Choice) (taken : Bool) (name : List ℕ) (number : site_number d.world name ≡ s)
      (from : RisesFrom d s c taken h) (fit_d : LinksFit d) (stands : StandsFor (own_disks taken s d.world h) old) (below : s < h.world.sites)
      (down : ((own_disks taken s d.world h).world.nodes s).state ≡ IsDown) (apart : ((own_disks taken s d.world h).world.nodes s).group ≡ None) (ring_is : ring ≡ ring_of ((own_disks taken s d.world h).world.nodes s).blocks) (room : Room) (room_is : IsRoomOf ((own_disks taken s d.world h).world.nodes s).blocks ring room)
      (before up : DiskSet R g) (there : slice_get old.disk_sets.items s ≡ Some before) (later : Later before up) (same : SameFailing before up) (r : Result (Unit {0}) No)
      (recovered : (beside : KeptBeside) (n : Node) → SiteStands beside n before → n.state ≡ IsDown → n.group ≡ None → IsRoomOf n.blocks n.ring room → CameUpByIs beside n before up r) where
    abbrev mid : Doubted
    mid = own_disks taken s d.world h

    abbrev m : Node
    m = mid.world.nodes s

    stood : SiteStands (beside_of mid s) m before
    stood = stands.disk_sets.sites s before (omega (arith, below, own_sites s d.world h taken)) there

    came_by : CameUpByIs (beside_of mid s) m before up r
    came_by =
        recovered (beside_of mid s) m stood down apart
        (record {
          ring_is = room_is.ring_is ∙ ring_is ∙ sym (shape_at (beside_of mid s) m before stood apart (λ bare. let e : IsBare ≡ IsDown = sym bare ∙ down in cc)).1;
          maps_are = room_is.maps_are;
        })

    -- it was refused
    pub rises_not : (new : Yard R g) (why : No) → r ≡ Err why → Replaced old new s up → LeadsFrom mid d (Recover name) (Refused why) old new
    rises_not new why is replaced =
        stays_down lawful d h old s ring c taken name number from fit_d stands below down apart ring_is before up there later same new replaced why
        (subst (λ (x : Result (Unit {0}) No). CameUpByIs (beside_of mid s) m before up x) is came_by)

    -- it came up
    module _ (done : Unit {0}) (is : r ≡ Ok done) (sites : ℕ) (sites_is : sites ≡ length old.facts.items) where
      by : CameUpBy (beside_of mid s) m up
      by = subst (λ (x : Result (Unit {0}) No). CameUpByIs (beside_of mid s) m before up x) is came_by

      came : CameUp (beside_of mid s) m up
      came = by.came

      by_apart : is_over_group by.came.node ≡ false
      by_apart = none_apart by.came.node (by.came.same.group ∙ apart)

      came_apart : is_over_group came.node ≡ false
      came_apart = none_apart came.node (came.same.group ∙ apart)

      sites_mid : sites ≡ mid.world.sites
      sites_mid = sites_is ∙ many_sites mid old stands

      -- and stands up
      pub rises_up : (y new : Yard R g) (state : State) (used : List ℕ) (said : Said) → RisesTo s ring state used said y new
          → ((beside : KeptBeside) (n : Node) → SiteStands beside n up → n.state ≡ IsUp → is_over_group n ≡ false → n.halted ≡ None → IsRisen s sites n state used)
          → ((beside : KeptBeside) (n : Node) → SiteStands beside n up → n.state ≡ IsUp → n.halted ≡ None → IsToldAt up → state.links ≡ beside.links)
          → Replaced old y s up → LeadsFrom mid d (Recover name) said old new
      rises_up y new state used said rises risen links replaced =
          stood_up lawful d h old s ring c taken name number from fit_d stands below down apart ring_is before up there later same y new replaced sites state used said rises sites_mid by.came by.role
          (risen (beside_of mid s) by.came.node by.came.stands by.came.same.up by_apart by.came.same.running) (λ told. links (beside_of mid s) by.came.node by.came.stands by.came.same.up by.came.same.running told)

      -- and goes down again, as it may not stand up with what its log keeps
      module _ (after : DiskSet R g) (new : Yard R g)
          (none : (beside : KeptBeside) (n : Node) → SiteStands beside n up → n.state ≡ IsUp → is_over_group n ≡ false → n.halted ≡ None → IsToldAt up
          → ((k : ℕ) (l : KeptLink) → slice_get beside.links k ≡ Some l → is_origin n.role ≡ true) → can_rise s sites (state_with n beside.links) ≡ true → false ≡ true)
          (crashes : (beside : KeptBeside) (n : Node) → SiteStands beside n up → n.state ≡ IsUp → CrashedAt beside n after) (fell : Later up after) (fails : SameFailing up after)
          (replaced : Replaced old new s after) where
        refuted : IsToldAt up → ⊥
        refuted told =
            let e : false ≡ true = none (beside_of mid s) came.node came.stands came.same.up came_apart came.same.running told
            (told_origin lawful d h old s ring c taken from fit_d stands below down apart ring_is before up there same came told)
            (ap (λ (n : ℕ). can_rise s n (state_with came.node (header_links mid.world s))) sites_mid
            ∙ told_may lawful d h old s ring c taken from fit_d stands below down apart ring_is before up there same came told) in
            cc

        pub rises_again : LeadsFrom mid d (Recover name) (Refused NoConfig) old new
        rises_again =
            withdrawn lawful d h old s ring c taken name number from fit_d stands below down apart ring_is before after there (later_then before up after later fell)
            (failing_then before up after same fails) new replaced up (beside_of mid s) came.node (λ told. refuted (raw_told up (raw_site (beside_of mid s) came.node up (came.same.group ∙ apart) came.stands) (fell.told (rack_tells after told)))) came.same
            (ap (doubt_of mid.world s) (sure lawful d h old s ring c taken from fit_d stands below down apart ring_is before up there same))
            (crashes (beside_of mid s) came.node came.stands came.same.up)

  -- ---- a bare site

  bare_of : (beside : KeptBeside) (n k : Node) (e : DiskSet R g) → SiteStands beside n e → n.state ≡ IsBare → k.disks ≡ n.disks → k.blocks ≡ n.blocks → IsBareOf n k
  bare_of beside n k (Bare rack) h bare disks blocks = record { is = h.bare.is; few = h.bare.few; some = h.bare.some; disks = disks; blocks = blocks }
  bare_of beside n k (Spoiled rack) h bare disks blocks = record { is = h.is; few = h.few; some = h.some; disks = disks; blocks = blocks }
  bare_of beside n k (Up rvg) h bare disks blocks = absurd (let e : IsBare ≡ IsUp = sym bare ∙ h.1.state in cc)
  bare_of beside n k (Receives s) h bare disks blocks = absurd (let e : IsBare ≡ IsUp = sym bare ∙ h.1.state in cc)
  bare_of beside n k (Down rack) h bare disks blocks = absurd (let e : IsBare ≡ IsDown = sym bare ∙ h.state in cc)
  bare_of beside n k (OfGroup s) h bare disks blocks = record { is = h.bare bare; few = h.few; some = h.some; disks = disks; blocks = blocks }
  bare_of beside n k (Over s) h bare disks blocks = absurd (over_made beside n s.site h.1 bare)
  bare_of beside n k Gone h bare disks blocks = absurd h

  module _ (d : Doubted) (old : Yard R g) (s : ℕ) (name : List ℕ) (number : site_number d.world name ≡ s) (stands : StandsFor d old) (below : s < d.world.sites)
      (bare : (d.world.nodes s).state ≡ IsBare) where
    abbrev n : Node
    n = d.world.nodes s

    -- its disks can be no raw set
    pub bare_refused : Leads d (Recover name) (Refused NoConfig) old old
    bare_refused =
        let there = get_there old.disk_sets.items s (omega (arith, below, stands.disk_sets.eight, stands.disk_sets.few)) in
        none_leads d old s name number stands below bare there.0 there.0 there.1 (later_none there.0) (failing_same there.0) old
        (record { disk_sets = sym (set_same old.disk_sets.items s there.0 there.1); facts = refl; racks = refl; flight = refl; assemblies = refl; feeders = refl })
        (stands.disk_sets.sites s there.0 below there.1)

    module _ (one two : SiteFacts) (at_one : slice_get old.facts.items s ≡ Some one) (at_two : slice_get old.facts.items s ≡ Some two) (can : CanBeRaw one.disks two.blocks) (room : Room)
        (room_is : IsRoomOf two.blocks (ring_of two.blocks) room) (before up : DiskSet R g) (there : slice_get old.disk_sets.items s ≡ Some before) (later : Later before up) (same : SameFailing before up)
        (r : Result (Unit {0}) No)
        (found : (beside : KeptBeside) (k : Node) → SiteStands beside k before → k.state ≡ IsBare → CanBeRaw k.disks k.blocks → IsRoomOf k.blocks (ring_of k.blocks) room → BareUpByIs k before up r) where
      one_is : one ≡ linked_fact d.world s
      one_is = some_same (sym at_one ∙ fact_of d old s stands below) ∙ fact_apart d.world s (bare_over d old s stands below bare)

      two_is : two ≡ linked_fact d.world s
      two_is = some_same (sym at_two ∙ fact_of d old s stands below) ∙ fact_apart d.world s (bare_over d old s stands below bare)

      stood_bare : SiteStands (beside_of d s) n before
      stood_bare = stands.disk_sets.sites s before below there

      up_by : BareUpByIs n before up r
      up_by =
          found (beside_of d s) n stood_bare bare
          (subst (λ (f : SiteFacts). CanBeRaw f.disks n.blocks) one_is (subst (λ (f : SiteFacts). CanBeRaw one.disks f.blocks) two_is can))
          (subst (λ (f : SiteFacts). IsRoomOf f.blocks (ring_of f.blocks) room) two_is room_is)

      -- nothing came up of them
      pub bare_not : (new : Yard R g) (why : No) → r ≡ Err why → Replaced old new s up → Leads d (Recover name) (Refused why) old new
      bare_not new why is replaced =
          stays_bare d old s name number stands below bare before up there later same new replaced why (subst (λ (x : Result (Unit {0}) No). BareUpByIs n before up x) is up_by)

      module _ (done : Unit {0}) (is : r ≡ Ok done) where
        rose_by : BareUpBy n up
        rose_by = subst (λ (x : Result (Unit {0}) No). BareUpByIs n before up x) is up_by

        rose : BareUp n up
        rose = rose_by.came

        rose_by_apart : is_over_group rose_by.came.node ≡ false
        rose_by_apart = none_apart rose_by.came.node (rose_by.came.same.group ∙ (bare_at (beside_of d s) n before stood_bare bare).3)

        rose_none : rose.node.group ≡ None
        rose_none = rose.same.group ∙ (bare_at (beside_of d s) n before stood_bare bare).3

        -- a site came up of them, and stands up
        pub bare_up : (lawful : (r : R) → Lawful (g.meaning r)) (y new : Yard R g) (three : SiteFacts) (volumes : List VolumeFacts) (ring sites : ℕ) (state : State) (used : List ℕ) (said : Said)
            → RisesTo s ring state used said y new → slice_get old.facts.items s ≡ Some three → volumes ≡ map volume_fact (raw_volumes 1 (one.disks - 2) two.blocks) → ring ≡ ring_of two.blocks
            → sites ≡ length old.facts.items → ((beside : KeptBeside) (k : Node) → SiteStands beside k up → k.state ≡ IsUp → is_over_group k ≡ false → k.halted ≡ None → IsRisen s sites k state used)
            → y.facts.items ≡ slice_set old.facts.items s (raw_facts s volumes three) → y.disk_sets.items ≡ slice_set old.disk_sets.items s up → y.racks ≡ old.racks → y.flight ≡ old.flight
            → y.assemblies ≡ old.assemblies → y.feeders ≡ old.feeders → Leads d (Recover name) said old new
        bare_up lawful y new three volumes ring sites state used said rises at_three table ring_is sites_is risen facts disk_sets racks flight assemblies feeders =
            let two_three : two ≡ three = some_same (sym at_two ∙ at_three) in
            stands_up_bare d old s name number stands below bare before up there later same lawful y new three volumes ring sites state used said at_three
            (table ∙ ap (λ (f : SiteFacts). map volume_fact (raw_volumes 1 (f.disks - 2) two.blocks)) (some_same (sym at_one ∙ at_three))
            ∙ ap (λ (f : SiteFacts). map volume_fact (raw_volumes 1 (three.disks - 2) f.blocks)) two_three)
            (ring_is ∙ ap (λ (f : SiteFacts). ring_of f.blocks) two_three) facts disk_sets racks flight assemblies feeders rises (sites_is ∙ many_sites d old stands) rose_by.came rose_by.role
            (risen site_alone rose_by.came.node (rose_by.came.stands site_alone refl) rose_by.came.same.up rose_by_apart rose_by.came.same.running)

        -- and is bare again, as it may not stand up with what its log keeps
        pub bare_again : (after : DiskSet R g) (new : Yard R g)
            → ((beside : KeptBeside) (n k : Node) → SiteStands beside k up → k.state ≡ IsUp → k.group ≡ None → IsBareOf n k → (IsToldAt after → ⊥) → (other : KeptBeside) → SiteStands other n after) → Later up after
            → SameFailing up after → Replaced old new s after → Leads d (Recover name) (Refused NoConfig) old new
        bare_again after new withdraws fell fails replaced =
            untold_none d old s name number stands below bare before after there (later_then before up after later fell) (failing_then before up after same fails) new replaced
            (withdraws site_alone n rose.node (rose.stands site_alone refl) rose.same.up rose_none (bare_of (beside_of d s) n rose.node before stood_bare bare rose.same.disks rose.same.blocks)
            untold (beside_of d s))
            NoConfig tt untold
          where
            untold : IsToldAt after → ⊥
            untold told = rose.untold (raw_told up (raw_site site_alone rose.node up rose_none (rose.stands site_alone refl)) (fell.told (rack_tells after told)))
