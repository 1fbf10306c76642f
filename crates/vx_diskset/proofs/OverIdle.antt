-- A site over a group of disks of which nothing is asked, or that does not do what is asked.
use Rattle.std.proofs.Common.{◌≡◌, ◌∙◌, true, false, refl, sym}
use Rattle.std.specs.Prelude.{Option}
use Rattle.vx_disk.specs.Racks.{IsRack}
use Rattle.vx_disk.specs.declared.shelf.Shelf.{Ghosts}
use Rattle.vx_history.specs.World.{Node}
use Rattle.vx_model.specs.Sites.{is_origin}
use Rattle.vx_model.specs.declared.site.SiteState.TheVariants.{Up as IsUp, Down as IsDown, Deported as IsAway}
use Rattle.vx_untold.specs.Shades.{shade_meaning}
use Rattle.vx_untold.specs.declared.shade.Shade.{Shade}
use Rattle.vx_watched.specs.Empty.{no_shelf}
use Rattle.vx_watched.proofs.SinceLemmas.{since_none}
use Rattle.vx_grouped.specs.GroupSites.{idle_disks}
use Rattle.vx_diskset.specs.Holds.{KeptBeside}
use Rattle.vx_diskset.specs.Noted.{OverCalled}
use Rattle.vx_diskset.specs.Stands.{OverStands}
use Rattle.vx_diskset.specs.declared.founded.Founded.{Founded}
use Rattle.vx_diskset.specs.declared.founded.FoundedReceiver.{FoundedReceiver}
use Rattle.vx_diskset.specs.declared.group_set.CutWrite.{CutWrite}
use Rattle.vx_diskset.specs.declared.over_set.OverSet.{OverSet}
use Rattle.vx_diskset.specs.declared.over_set.OverSite.{OverSite}
use Rattle.vx_diskset.specs.declared.over_set.OverSite.TheVariants.{Origin as OriginSite, Receiver as ReceiverSite, Deported as GroupAway, Down as GroupFell, Gone as NoGroup}
use Rattle.vx_diskset.proofs.FoundedWork.{founded_none}
use Rattle.vx_diskset.proofs.OverCalled.{origin_called, receiver_called}

module _ {R : Type 0} {g : Ghosts R} where
  abbrev with_cut : OverSite R g → Option CutWrite → OverSet R g
  with_cut s k = record { site = s; cut = k }

  rest_site : ((s : Shade R) → IsRack (shade_meaning g.meaning s)) → (s : OverSite R g) (k : Option CutWrite) → OverCalled (with_cut s k) (with_cut s k)
  rest_site racks (OriginSite f) k = origin_called (with_cut (OriginSite f) k) f f refl racks (founded_none f.core f.laid)
  rest_site racks (ReceiverSite f) k = receiver_called (with_cut (ReceiverSite f) k) f f refl racks (founded_none f.core f.laid)
  rest_site racks (GroupAway idle) k = record { since = since_none (idle_disks idle); told = λ told. told; cut = refl; notes = λ n note up inside. absurd up; above = λ n role. role }
  rest_site racks (GroupFell idle) k = record { since = since_none (idle_disks idle); told = λ told. told; cut = refl; notes = λ n note up inside. absurd up; above = λ n role. role }
  rest_site racks NoGroup k = record { since = since_none no_shelf; told = λ told. told; cut = refl; notes = λ n note up inside. absurd up; above = λ n role. role }

  -- no call
  pub rest_called : ((s : Shade R) → IsRack (shade_meaning g.meaning s)) → (s : OverSet R g) → OverCalled s s
  rest_called racks s = rest_site racks s.site s.cut

  -- one that is up has a replicated volume group over it
  pub off_never : (beside : KeptBeside) (n : Node) (s : OverSite R g) → ((f : Founded R g) → s ≡ OriginSite f → ⊥) → ((f : FoundedReceiver R g) → s ≡ ReceiverSite f → ⊥) → OverStands beside n s → n.state ≡ IsUp → ⊥
  off_never beside n (OriginSite f) never other it up = never f refl
  off_never beside n (ReceiverSite f) never other it up = other f refl
  off_never beside n (GroupAway idle) never other it up = let clash : IsAway ≡ IsUp = sym it.0 ∙ up in cc
  off_never beside n (GroupFell idle) never other it up = let clash : IsDown ≡ IsUp = sym it.0 ∙ up in cc
  off_never beside n NoGroup never other it up = it

  -- and where writes arise at it none that receives
  pub logs_never : (beside : KeptBeside) (n : Node) (s : OverSite R g) → ((f : Founded R g) → s ≡ OriginSite f → ⊥) → OverStands beside n s → n.state ≡ IsUp → is_origin n.role ≡ true → ⊥
  logs_never beside n (OriginSite f) never it up origin = never f refl
  logs_never beside n (ReceiverSite f) never it up origin = let clash : false ≡ true = sym it.role ∙ origin in cc
  logs_never beside n (GroupAway idle) never it up origin = let clash : IsAway ≡ IsUp = sym it.0 ∙ up in cc
  logs_never beside n (GroupFell idle) never it up origin = let clash : IsDown ≡ IsUp = sym it.0 ∙ up in cc
  logs_never beside n NoGroup never it up origin = it
