-- What a crash leaves of a running site: its durable writes, and nothing that waits in its memory.
use Rattle.std.proofs.Common.{◌≡◌, ◌∙◌, ◌≤◌, List, [], length, sym, ap, subst, refl, arith}
use Rattle.std.specs.Prelude.{None}
use Rattle.std.proofs.lemmas.List.{take_all}
use Rattle.vx_model.specs.Content.{Write}
use Rattle.vx_model.specs.declared.site.SiteState.TheVariants.{Bare as IsBare, Up as IsUp, Down as IsDown, Deported as IsAway}
use Rattle.vx_history.specs.World.{Node}
use Rattle.vx_disk.specs.Racks.{IsRack, Stopped}
use Rattle.vx_disk.specs.Shelf.{Lawful}
use Rattle.vx_disk.specs.declared.shelf.Shelf.{Ghosts}
use Rattle.vx_blockwise.specs.Blocks.{alone_lawful}
use Rattle.vx_ground.specs.Lifted.{laid_volumes}
use Rattle.vx_diskset.specs.LaidBlocks.{laid_blockwise}
use Rattle.vx_grouped.specs.GroupSites.{GroupSiteStands}
use Rattle.vx_grouped.specs.declared.group_site.GroupSite.{GroupSite}
use Rattle.vx_grouped.specs.declared.group_site.GroupSite.TheVariants.{Up as GroupUp, Deported, Down as GroupDown, Marked, Gone as GroupGone}
use Rattle.vx_rvg.specs.declared.group.Rvg.{Rvg}
use Rattle.vx_secondary.specs.declared.secondary.Secondary.{Secondary}
use Rattle.vx_diskset.specs.declared.disk_set.DiskSet.{DiskSet}
use Rattle.vx_diskset.specs.declared.disk_set.DiskSet.TheVariants.{Bare, Spoiled, Up, Receives, Down, OfGroup, Over, Gone}
use Rattle.vx_diskset.specs.declared.founded.FoundedReceiver.{FoundedReceiver}
use Rattle.vx_diskset.specs.declared.group_set.GroupSet.{GroupSet}
use Rattle.vx_diskset.specs.declared.over_set.OverSet.{OverSet}
use Rattle.vx_diskset.specs.declared.over_set.OverSite.{OverSite}
use Rattle.vx_diskset.specs.declared.over_set.OverSite.TheVariants.{Origin as OriginSite, Receiver as ReceiverSite, Deported as OverAway, Down as OverFell, Gone as NoOver}
use Rattle.vx_diskset.specs.DiskSets.{CrashedAt, CrashedTo, with_first}
use Rattle.vx_diskset.specs.Holds.{KeptBeside}
use Rattle.vx_diskset.specs.Stands.{CutAt, CutOver, IsGroupSet, IsOverSite, OverStands, SiteStands}
use Rattle.vx_diskset.proofs.CrashGroup.{crashed_at, fell_within}
use Rattle.vx_diskset.proofs.RawSets.{over_on, receiver_there, up_there}
use Rattle.vx_diskset.proofs.Receiving.{durable_of, receiver_as, receiver_up}
use Rattle.vx_diskset.proofs.StaysUp.{held_up, whole_held}

module _ {R : Type 0} {g : Ghosts R} where
  -- a running site is what its node says
  over_sure : (beside : KeptBeside) (n : Node) (s : OverSite R g) → OverStands beside n s → n.halted ≡ None → beside.doubt ≡ None
  over_sure beside n (OriginSite f) h runs = h.sure runs
  over_sure beside n (ReceiverSite f) h runs = h.sure runs
  over_sure beside n (OverAway idle) h runs = h.1.sure
  over_sure beside n (OverFell idle) h runs = h.2.sure
  over_sure beside n NoOver h runs = absurd h

  pub running_sure : (beside : KeptBeside) (n : Node) (e : DiskSet R g) → SiteStands beside n e → n.state ≡ IsUp → n.halted ≡ None → beside.doubt ≡ None
  running_sure beside n (Bare rack) h up runs = absurd (let e : IsBare ≡ IsUp = sym (ap (λ (k : Node). k.state) h.bare.is) ∙ up in cc)
  running_sure beside n (Spoiled rack) h up runs = absurd (let e : IsBare ≡ IsUp = sym (ap (λ (k : Node). k.state) h.is) ∙ up in cc)
  running_sure beside n (Up rvg) h up runs = h.1.sure runs
  running_sure beside n (Receives site) h up runs = h.1.sure runs
  running_sure beside n (Over s) h up runs = over_sure beside n s.site h.1 runs
  running_sure beside n (Down rack) h up runs = absurd (let e : IsDown ≡ IsUp = sym h.state ∙ up in cc)
  running_sure beside n (OfGroup s) h up runs = h.sure (λ bare. let e : IsBare ≡ IsUp = sym bare ∙ up in cc)
  running_sure beside n Gone h up runs = absurd h

  -- ---- a crash

  -- of a site whose writes are all durable
  fell_whole : (beside : KeptBeside) (n : Node) (new : DiskSet R g) → beside.doubt ≡ None → length n.log ≤ n.safe → CrashedAt beside n new → CrashedTo beside n n.safe new
  fell_whole beside n new sure whole fell =
      fell_within n n.safe new sure (subst (λ (ws : List Write). CrashedAt beside (let m : Node = record n { log = ws } in m) new) (sym (take_all n.safe n.log whole)) fell)

  -- of an origin
  pub up_fell : (beside : KeptBeside) (n : Node) (e new : DiskSet R g) (rvg : Rvg R g) → e ≡ Up rvg → SiteStands beside n e → n.halted ≡ None → CrashedAt beside n new → CrashedTo beside n n.safe new
  up_fell beside n e new rvg is stands running fell =
      let at = up_there beside n e rvg is stands in
      fell_whole beside n new (at.1.sure running) (at.1.durable running) fell

  -- of a receiver, behind which updates wait
  pub received_fell : (beside : KeptBeside) (n : Node) (e : DiskSet R g) (s : Secondary R g) (shelf new : R) → e ≡ Receives s → shelf ≡ s.rvg.shelf → SiteStands beside n e → n.halted ≡ None
      → Lawful (g.meaning s.rvg.shelf) → Lawful (g.meaning new) → IsRack (g.meaning new) → Stopped (g.meaning shelf) (g.meaning new) → CrashedTo {g = g} beside n n.safe (Down new)
  received_fell beside n e s shelf new is same stands running before lawful rack stopped =
      let at = receiver_there beside n e s is stands in
      fell_within n n.safe (Down new) (at.1.sure running) (crashed_at (durable_of n) s.rvg.core s.rvg.shelf shelf new same at.0 (receiver_as beside n e s is stands running before) lawful rack stopped)

  -- of a group, which has no writes
  none_logged : (n : Node) (s : GroupSite R g) → GroupSiteStands n s → n.state ≡ IsUp → n.log ≡ []
  none_logged n (GroupUp group) (note, it) up = it.noted.none.log
  none_logged n (Deported idle) (note, it) up = it.noted.none.log
  none_logged n (GroupDown idle) (note, it) up = it.noted.none.log
  none_logged n (Marked rack) it up = absurd (let e : IsBare ≡ IsUp = sym it.state ∙ up in cc)
  none_logged n GroupGone it up = absurd it

  pub group_fell : (beside : KeptBeside) (n : Node) (e new : DiskSet R g) (s : GroupSet R g) → e ≡ OfGroup s → SiteStands beside n e → n.state ≡ IsUp → CrashedAt beside n new → CrashedTo beside n n.safe new
  group_fell beside n e new s is stands up fell =
      let it : IsGroupSet beside n s = subst (λ (x : DiskSet R g). SiteStands beside n x) is stands in
      fell_whole beside n new (it.sure (λ bare. let f : IsBare ≡ IsUp = sym bare ∙ up in cc)) (omega (arith, ap (λ (xs : List Write). length xs) (none_logged n s.site it.stands up))) fell

  -- of a replicated volume group over a group: its disks hold the site with its durable writes
  module _ (lawful : (f : FoundedReceiver R g) → Lawful (laid_volumes f.laid)) (beside : KeptBeside) (n : Node) (up : n.state ≡ IsUp) (runs : n.halted ≡ None) where
    cut_durable : (s : OverSite R g) → OverStands beside n s → CutOver beside (with_first n n.safe) s
    cut_durable (OriginSite f) h = whole_held n (laid_blockwise f.laid) (h.durable runs) (held_up n f.core (laid_blockwise f.laid) h)
    cut_durable (ReceiverSite f) h = held_up (durable_of n) f.core (laid_blockwise f.laid) (receiver_up n f.core f.waiting (laid_blockwise f.laid) h runs (alone_lawful (laid_volumes f.laid) (lawful f)) f.sound.log_unit)
    cut_durable (OverAway idle) h = absurd (let e : IsAway ≡ IsUp = sym h.0 ∙ up in cc)
    cut_durable (OverFell idle) h = absurd (let e : IsDown ≡ IsUp = sym h.0 ∙ up in cc)
    cut_durable NoOver h = absurd h

    pub over_fell : (e new : DiskSet R g) (s : OverSet R g) → e ≡ Over s → SiteStands beside n e → (CutAt beside (with_first n n.safe) (Over s) → CrashedAt beside (with_first n n.safe) new) → CrashedTo beside n n.safe new
    over_fell e new s is stands falls =
        let at : IsOverSite beside n × OverStands beside n s.site = subst (λ (x : DiskSet R g). SiteStands beside n x) is stands in
        fell_within n n.safe new (over_sure beside n s.site at.1 runs) (falls (over_on beside n (with_first n n.safe) refl refl refl refl at.0, cut_durable s.site at.1))
