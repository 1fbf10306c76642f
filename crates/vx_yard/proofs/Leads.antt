-- A site whose group has room in which updates wait, and one whose group has none.
use Rattle.std.proofs.Common.{◌≡◌, ◌∙◌, Bool, true, false, ap, sym}
use Rattle.vx_model.specs.Sites.{is_origin}
use Rattle.vx_model.specs.declared.site.Role.{Role}
use Rattle.vx_model.specs.declared.site.SiteState.TheVariants.{Bare as IsBare, Up as IsUp, Down as IsDown, Deported as IsDeported}
use Rattle.vx_history.specs.World.{Node}
use Rattle.vx_disk.specs.declared.shelf.Shelf.{Ghosts}
use Rattle.vx_diskset.specs.Holds.{KeptBeside}
use Rattle.vx_diskset.specs.Stands.{RoleIs, SiteStands, OverStands, RoleBy}
use Rattle.vx_diskset.specs.declared.disk_set.DiskSet.{DiskSet}
use Rattle.vx_diskset.specs.declared.disk_set.DiskSet.TheVariants.{Bare, Spoiled, Up, Receives as HasRoom, Down, OfGroup, Over, Gone}
use Rattle.vx_diskset.specs.declared.over_set.OverSite.{OverSite}
use Rattle.vx_diskset.specs.declared.over_set.OverSite.TheVariants.{Origin as OriginSite, Receiver as ReceiverSite, Deported as OverAway, Down as OverFell, Gone as NoOver}
use Rattle.vx_diskset.proofs.GroupStands.{up_has_none}
use Rattle.vx_yard.specs.Deliveries.{Receives}
use Rattle.vx_diskset.specs.Aboves.{above_site, is_receiver}

module _ {R : Type 0} {g : Ghosts R} where
  over_origin : (beside : KeptBeside) (n : Node) (s : OverSite R g) → is_receiver (above_site s) ≡ false → RoleBy n (above_site s) → OverStands beside n s → n.state ≡ IsUp → is_origin n.role ≡ true
  over_origin beside n (OriginSite f) none role stands up = role
  over_origin beside n (ReceiverSite f) none role stands up = absurd (let e : true ≡ false = none in cc)
  over_origin beside n (OverAway idle) none role stands up = absurd (let e : IsDeported ≡ IsUp = sym stands.0 ∙ up in cc)
  over_origin beside n (OverFell idle) none role stands up = absurd (let e : IsDown ≡ IsUp = sym stands.0 ∙ up in cc)
  over_origin beside n NoOver none role stands up = absurd stands

  over_receives : (beside : KeptBeside) (n : Node) (s : OverSite R g) → is_receiver (above_site s) ≡ true → OverStands beside n s → (n.state ≡ IsUp) × (is_origin n.role ≡ false)
  over_receives beside n (OriginSite f) yes_ stands = absurd (let e : false ≡ true = yes_ in cc)
  over_receives beside n (ReceiverSite f) yes_ stands = (stands.state, stands.role)
  over_receives beside n (OverAway idle) yes_ stands = absurd (let e : false ≡ true = yes_ in cc)
  over_receives beside n (OverFell idle) yes_ stands = absurd (let e : false ≡ true = yes_ in cc)
  over_receives beside n NoOver yes_ stands = absurd stands

  -- one that is up is an origin
  pub room_origin : (beside : KeptBeside) (n : Node) (e : DiskSet R g) (b : Bool) → Receives e b → b ≡ false → RoleIs n e → SiteStands beside n e → n.state ≡ IsUp → is_origin n.role ≡ true
  room_origin beside n (Bare rack) b is none role stands up = absurd (let e : IsBare ≡ IsUp = sym (ap (λ (k : Node). k.state) stands.bare.is) ∙ up in cc)
  room_origin beside n (Spoiled rack) b is none role stands up = absurd (let e : IsBare ≡ IsUp = sym (ap (λ (k : Node). k.state) stands.is) ∙ up in cc)
  room_origin beside n (Up rvg) b is none role stands up = role
  room_origin beside n (HasRoom s) b is none role stands up = absurd (let e : true ≡ false = sym is ∙ none in cc)
  room_origin beside n (Down rack) b is none role stands up = absurd (let e : IsDown ≡ IsUp = sym stands.state ∙ up in cc)
  room_origin beside n (OfGroup s) b is none role stands up = ap (λ (r : Role). is_origin r) (up_has_none beside n s stands up).role
  room_origin beside n (Over s) b is none role stands up = over_origin beside n s.site (sym is ∙ none) role stands.1 up
  room_origin beside n Gone b is none role stands up = absurd stands

  -- a group with that room is that of a site that is up and receives
  pub room_receives : (beside : KeptBeside) (n : Node) (e : DiskSet R g) (b : Bool) → Receives e b → b ≡ true → SiteStands beside n e → (n.state ≡ IsUp) × (is_origin n.role ≡ false)
  room_receives beside n (Bare rack) b is yes_ stands = absurd (let e : false ≡ true = sym is ∙ yes_ in cc)
  room_receives beside n (Spoiled rack) b is yes_ stands = absurd (let e : false ≡ true = sym is ∙ yes_ in cc)
  room_receives beside n (Up rvg) b is yes_ stands = absurd (let e : false ≡ true = sym is ∙ yes_ in cc)
  room_receives beside n (HasRoom s) b is yes_ stands = (stands.1.state, stands.1.role)
  room_receives beside n (Down rack) b is yes_ stands = absurd (let e : false ≡ true = sym is ∙ yes_ in cc)
  room_receives beside n (OfGroup s) b is yes_ stands = absurd (let e : false ≡ true = sym is ∙ yes_ in cc)
  room_receives beside n (Over s) b is yes_ stands = over_receives beside n s.site (sym is ∙ yes_) stands.1
  room_receives beside n Gone b is yes_ stands = absurd (let e : false ≡ true = sym is ∙ yes_ in cc)
