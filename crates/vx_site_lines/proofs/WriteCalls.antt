-- What the calls of a write say of its site, whatever it has beside its node: its log, its fuse, and what its links need.
use Rattle.std.proofs.Common.{◌≡◌, ◌∙◌, ◌+◌, ◌-◌, ◌^◌, ◌≤◌, ℕ, List, [], ◌∷◌, length, Bool, true, false, ap, sym, refl, arith}
use Rattle.std.specs.Prelude.{◌||◌, None, nat_lt, if◌then◌else◌}
use Rattle.std.specs.List.{list_any}
use Rattle.std.proofs.lemmas.Bool.Decides.{nat_tests}
use Rattle.vx_model.specs.Content.{Write, blocks_in}
use Rattle.vx_model.specs.Sites.{is_origin}
use Rattle.vx_model.specs.declared.site.SiteState.{SiteState}
use Rattle.vx_model.specs.declared.site.SiteState.TheVariants.{Bare as IsBare, Up as IsUp, Down as IsDown}
use Rattle.vx_history.specs.Admission.{Goes, is_holding}
use Rattle.vx_history.specs.Events.{admitted, linked_sites, used_above}
use Rattle.vx_history.specs.LinkForms.{plain_link}
use Rattle.vx_history.specs.Sends.{is_linked}
use Rattle.vx_history.specs.Steps.{burned, logged, spent, write_calls}
use Rattle.vx_history.specs.World.{Link, Node, World}
use Rattle.vx_history.specs.declared.admission.Change.{Change}
use Rattle.vx_disk.specs.Disks.{Disks}
use Rattle.vx_disk.specs.Racks.{IsRack}
use Rattle.vx_disk.specs.declared.shelf.Shelf.{Ghosts}
use Rattle.vx_disk.specs.Spends.{Passed}
use Rattle.vx_diskset.proofs.GroupStands.{up_has_none}
use Rattle.vx_diskset.specs.Asked.{FailsAs, FusedAs, LeavesFuse, disks_told, size_in}
use Rattle.vx_diskset.specs.Burning.{Burnt, IsLogged}
use Rattle.vx_diskset.specs.Holds.{KeptBeside}
use Rattle.vx_diskset.specs.Stands.{SiteStands, OverStands}
use Rattle.vx_diskset.specs.declared.disk_set.DiskSet.{DiskSet}
use Rattle.vx_diskset.specs.declared.disk_set.DiskSet.TheVariants.{Bare, Spoiled, Up, Receives, Down, OfGroup, Over, Gone}
use Rattle.vx_diskset.specs.declared.over_set.OverSite.{OverSite}
use Rattle.vx_diskset.specs.declared.over_set.OverSite.TheVariants.{Origin as OriginSite, Receiver as ReceiverSite, Deported as OverAway, Down as OverFell, Gone as NoOver}
use Rattle.vx_events.specs.Fuses.{MayPass}
use Rattle.vx_events.specs.GroupLines.{is_over_group}
use Rattle.vx_events.specs.LinkedFacts.{link_facts, linked_fact, links_by}
use Rattle.vx_events.specs.LinksFit.{RowFits}
use Rattle.vx_events.specs.Sayings.{is_written}
use Rattle.vx_events.specs.declared.said.Said.{Said}
use Rattle.vx_events.proofs.LinkTesting.{AllLinked, all_linked}
use Rattle.vx_effects.proofs.Rooms.{has_room}
use Rattle.vx_linked.specs.Holds.{is_over}
use Rattle.vx_yard.proofs.ApplySite.{calls_keep}
use Rattle.vx_yard.proofs.FailsStay.{fails_then, told_disks, works_by, written_burnt}
use Rattle.vx_yard.proofs.FuseStays.{fused_on, left_passed, left_spent, may_on}
use Rattle.vx_site_lines.proofs.Apart.{never_up}
use Rattle.vx_diskset.proofs.Laying.{laid_in}
use Rattle.vx_diskset.specs.LaidBlocks.{laid_blockwise}

-- ---- the links of the site

not_over : (used blocks : ℕ) → used + blocks ≤ 2 ^ 32 → blocks ≤ 17 → nat_lt (2 ^ 64 - 1 - blocks) used ≡ false
not_over used blocks few small = grind (arith, nat_tests)

-- of each link the blocks that it needs can be counted with those of the write
none_over : (n : Node) (row : ℕ → Link) (blocks : ℕ) → blocks ≤ 17 → n.ring ≤ 2 ^ 32 → ((k : ℕ) → is_linked (row k) ≡ true → is_holding (plain_link k (row k)) ≡ true → blocks + used_above n k (row k) ≤ n.ring)
    → (ss : List ℕ) → AllLinked row ss → list_any (is_over blocks) (link_facts n row ss) ≡ false
none_over n row blocks small ring room [] all = refl
none_over n row blocks small ring room (s ∷ ss) all =
    ap (λ (b : Bool). b || list_any (is_over blocks) (link_facts n row ss)) (one (is_holding (plain_link s (row s))) refl) ∙ none_over n row blocks small ring room ss all.1
  where
    one : (b : Bool) → is_holding (plain_link s (row s)) ≡ b → nat_lt (2 ^ 64 - 1 - blocks) (if b then used_above n s (row s) else 0) ≡ false
    one true holds = let fits = room s all.0 holds in not_over (used_above n s (row s)) blocks (omega (arith, fits, ring)) small
    one false holds = not_over 0 blocks (omega (arith, small)) small

pub links_count : (w : World) (s : ℕ) (x : Write) (cs : List Change) → RowFits s w.sites (w.links s) → (w.nodes s).state ≡ IsUp → admitted w s x ≡ Goes cs → blocks_in x.bytes ≤ 16 → (w.nodes s).ring ≤ 2 ^ 32
    → list_any (is_over (blocks_in x.bytes + 1)) (linked_fact w s).links ≡ false
links_count w s x cs fit up goes few ring =
    let n : Node = w.nodes s in
    let row : ℕ → Link = w.links s in
    let ss : List ℕ = linked_sites row w.sites 0 w.sites in
    ap (λ (t : SiteState). list_any (is_over (blocks_in x.bytes + 1)) (links_by t (link_facts n row ss))) up
    ∙ none_over n row (blocks_in x.bytes + 1) (omega (arith, few)) ring (λ k linked holding. has_room w s x cs fit goes k linked holding) ss (all_linked row w.sites 0 w.sites)

-- ---- its calls

module _ {R : Type 0} {g : Ghosts R} where
  over_log : (beside : KeptBeside) (n : Node) (s : OverSite R g) → OverStands beside n s → n.halted ≡ None → is_origin n.role ≡ true → length n.log ≡ n.safe
  over_log beside n (OriginSite f) h runs origin = omega (arith, h.logged, h.durable runs)
  over_log beside n (ReceiverSite f) h runs origin = absurd (let e : true ≡ false = sym origin ∙ h.role in cc)
  over_log beside n (OverAway idle) h runs origin = h.1.logged
  over_log beside n (OverFell idle) h runs origin = h.2.logged
  over_log beside n NoOver h runs origin = absurd h

  over_ring : (beside : KeptBeside) (n : Node) (s : OverSite R g) → OverStands beside n s → n.ring ≤ 2 ^ 32
  over_ring beside n (OriginSite f) h = omega (arith, (laid_in n (laid_blockwise f.laid) h.lies).ring_is)
  over_ring beside n (ReceiverSite f) h = omega (arith, (laid_in n (laid_blockwise f.laid) h.lies).ring_is)
  over_ring beside n (OverAway idle) h = omega (arith, h.1.lies.ring_is)
  over_ring beside n (OverFell idle) h = omega (arith, h.2.lies.ring_is)
  over_ring beside n NoOver h = absurd h

  -- the log of a running site that takes writes holds those that are durable
  pub whole_log : (beside : KeptBeside) (n : Node) (e : DiskSet R g) → SiteStands beside n e → n.state ≡ IsUp → n.halted ≡ None → is_origin n.role ≡ true → length n.log ≡ n.safe
  whole_log beside n (Bare rack) h up runs origin = absurd (let e : IsBare ≡ IsUp = sym (ap (λ (k : Node). k.state) h.bare.is) ∙ up in cc)
  whole_log beside n (Spoiled rack) h up runs origin = absurd (let e : IsBare ≡ IsUp = sym (ap (λ (k : Node). k.state) h.is) ∙ up in cc)
  whole_log beside n (Up rvg) h up runs origin = omega (arith, h.1.logged, h.1.durable runs)
  whole_log beside n (Receives site) h up runs origin = absurd (let e : true ≡ false = sym origin ∙ h.1.role in cc)
  whole_log beside n (Down rack) h up runs origin = absurd (let e : IsDown ≡ IsUp = sym h.state ∙ up in cc)
  whole_log beside n (OfGroup s) h up runs origin = let none = up_has_none beside n s h up in ap (λ (us : List Write). length us) none.log ∙ sym none.safe
  whole_log beside n (Over s) h up runs origin = over_log beside n s.site h.1 runs origin
  whole_log beside n Gone h up runs origin = absurd h

  -- no ring is greater than a log may be
  pub small_ring : (beside : KeptBeside) (n : Node) (e : DiskSet R g) → SiteStands beside n e → is_over_group n ≡ false → n.state ≡ IsUp → n.ring ≤ 2 ^ 32
  small_ring beside n (Bare rack) h apart up = absurd (let e : IsBare ≡ IsUp = sym (ap (λ (k : Node). k.state) h.bare.is) ∙ up in cc)
  small_ring beside n (Spoiled rack) h apart up = absurd (let e : IsBare ≡ IsUp = sym (ap (λ (k : Node). k.state) h.is) ∙ up in cc)
  small_ring beside n (Up rvg) h apart up = omega (arith, (laid_in n (g.meaning rvg.shelf) h.1.lies).ring_is)
  small_ring beside n (Receives site) h apart up = omega (arith, (laid_in n (g.meaning site.rvg.shelf) h.1.lies).ring_is)
  small_ring beside n (Down rack) h apart up = absurd (let e : IsDown ≡ IsUp = sym h.state ∙ up in cc)
  small_ring beside n (OfGroup s) h apart up = never_up beside n s h apart up
  small_ring beside n (Over s) h apart up = omega (arith, over_ring beside n s.site h.1)
  small_ring beside n Gone h apart up = absurd h

  module _ (beside : KeptBeside) (n : Node) (before after : DiskSet R g) (stood : SiteStands beside n before) (said : Said) (burns : LeavesFuse IsLogged said before after) where
    -- which disks are made to fail, in any node behind the write
    pub fails_behind : (m : Node) → m.failing ≡ n.failing → FailsAs n before → FailsAs m after
    fails_behind m same fails = fails_then n m before after same (calls_keep IsLogged said before after burns) fails

    -- the fuse of a write that is done, and of one that is not
    pub fuse_spent : (x : Write) → is_written said ≡ true → FusedAs n before → FusedAs (logged n x) after
    fuse_spent x is lit =
        fused_on (Burnt IsLogged said (size_in before)) n (logged n x) (spent write_calls n.fuse) before after refl
        (λ a b burnt left. left_spent write_calls n.fuse a.fuse b.fuse (written_burnt IsLogged (size_in before) said a b is burnt).1.calls left) burns.told lit

    pub fuse_burned : (m : Node) → m.fuse ≡ burned n.fuse → ((a b : Disks) → Burnt IsLogged said (size_in before) a b → Passed a b) → FusedAs n before → FusedAs m after
    fuse_burned m same passes lit =
        fused_on (Burnt IsLogged said (size_in before)) n m (burned n.fuse) before after same (λ a b burnt left. left_passed n.fuse a.fuse b.fuse (passes a b burnt).fuse left) burns.told lit

    -- a write is done only where the disk of the log works, and where so many calls may pass
    pub log_works : ((r : R) → IsRack (g.meaning r)) → FailsAs n before → is_written said ≡ true → n.failing 0 ≡ false
    log_works racks fails is =
        let d = told_disks racks beside n before stood in
        let works : d.0.failing 0 ≡ false = works_by (disks_told before) (disks_told after) (size_in before) d.0 said is d.1 burns.told in
        off (n.failing 0) (λ on. never (sym (fails.told d.0 d.1 0 on) ∙ works))
      where
        never : true ≡ false → ⊥
        never e = cc

        off : (b : Bool) → (b ≡ true → ⊥) → b ≡ false
        off true not = absurd (not refl)
        off false not = refl

    pub calls_pass : ((r : R) → IsRack (g.meaning r)) → FusedAs n before → is_written said ≡ true → MayPass write_calls n.fuse
    calls_pass racks lit is =
        let d = told_disks racks beside n before stood in
        may_on (Burnt IsLogged said (size_in before)) write_calls (disks_told before) (disks_told after) n.fuse d.0 d.1 (λ a b burnt. (written_burnt IsLogged (size_in before) said a b is burnt).1.calls) burns.told (lit.told d.0 d.1)
