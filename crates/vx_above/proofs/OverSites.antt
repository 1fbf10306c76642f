-- The disks of a site with a replicated volume group over its group.
use Rattle.std.proofs.Common.{◌≡◌, ◌∙◌, ◌<◌, ℕ, Bool, true, false, List, length, ap, sym, refl, ⊎_elim, subst}
use Rattle.std.specs.Prelude.{◌&&◌, eqb, not, Option, Some, None, is_some, unwrap_or, slice_get}
use Rattle.vx_history.specs.Doubts.{Doubted}
use Rattle.vx_history.specs.Groups.{GroupNode}
use Rattle.vx_history.specs.World.{Node, Volume}
use Rattle.vx_history.proofs.GoodLemmas.{bare_or_made}
use Rattle.vx_model.specs.declared.site.SiteState.TheVariants.{Bare as IsBare, Up as IsUp, Deported as IsAway, Down as IsDown}
use Rattle.vx_disk.specs.declared.shelf.Shelf.{Ghosts}
use Rattle.vx_diskset.specs.Aboves.{below_site}
use Rattle.vx_diskset.specs.Holds.{KeptBeside}
use Rattle.vx_diskset.specs.Noted.{IsNamed, NotedOn, SiteNoted, below_rvg}
use Rattle.vx_diskset.specs.Stands.{IsGroupSet, OverStands, SiteStands, bare_with}
use Rattle.vx_diskset.specs.declared.disk_set.DiskSet.{DiskSet}
use Rattle.vx_diskset.specs.declared.disk_set.DiskSet.TheVariants.{Bare, Spoiled, Up, Receives, Down, OfGroup, Over, Gone}
use Rattle.vx_diskset.specs.declared.group_set.GroupSet.{GroupSet}
use Rattle.vx_diskset.specs.declared.over_set.OverSet.{OverSet}
use Rattle.vx_diskset.specs.declared.over_set.OverSite.{OverSite}
use Rattle.vx_diskset.specs.declared.over_set.OverSite.TheVariants.{Origin as OriginSite, Receiver as ReceiverSite, Deported as OverAway, Down as OverFell, Gone as NoOver}
use Rattle.vx_events.specs.GroupNotes.{no_note, note_at}
use Rattle.vx_events.specs.RvgViews.{is_over_rvg}
use Rattle.vx_yard.proofs.OverGroup.{both_ways, group_off, none_rvg, set_over}
use Rattle.vx_yard.specs.Standing.{StandsFor}
use Rattle.vx_yard.specs.declared.yard.Yard.{Yard}

-- it notes a group
noted_by : (o : Option GroupNode) (b : Bool) → (is_some o && b) ≡ true → o ≡ Some (unwrap_or o no_note)
noted_by None b is = absurd (let clash : true ≡ false = sym is in cc)
noted_by (Some note) b is = refl

pub note_is : (n : Node) → is_over_rvg n ≡ true → n.group ≡ Some (note_at n)
note_is n over = noted_by n.group (not (eqb (length n.volumes) 0)) over

-- the site is over one as well that notes another note of its group
pub over_again : (n m : Node) (next : GroupNode) → is_over_rvg n ≡ true → m.group ≡ Some next → m.volumes ≡ n.volumes → is_over_rvg m ≡ true
over_again n m next over group volumes =
    ap (λ (o : Option GroupNode). is_some o && not (eqb (length m.volumes) 0)) group
    ∙ ap (λ (vs : List Volume). not (eqb (length vs) 0)) volumes
    ∙ ap (λ (o : Option GroupNode). is_some o && not (eqb (length n.volumes) 0)) (sym (note_is n over)) ∙ over

bare_off : (n : Node) → n ≡ bare_with n → is_over_rvg n ≡ false
bare_off n is = ap (λ (k : Node). is_over_rvg k) is

module _ {R : Type 0} {g : Ghosts R} where
  -- the disks of a replicated volume group over a group
  pub record OverIs (e : DiskSet R g) : Type 0 where
    pub set : OverSet R g
    pub is : e ≡ Over set

  group_set_off : (beside : KeptBeside) (n : Node) (s : GroupSet R g) → IsGroupSet beside n s → is_over_rvg n ≡ false
  group_set_off beside n s it = ⊎_elim (λ (bare : n.state ≡ IsBare). bare_off n (it.bare bare)) (λ made. group_off n (set_over beside n s it made)) (bare_or_made n.state)

  pub over_set : (beside : KeptBeside) (n : Node) (e : DiskSet R g) → SiteStands beside n e → is_over_rvg n ≡ true → OverIs e
  over_set beside n (Bare rack) it over = absurd (both_ways over (bare_off n it.bare.is))
  over_set beside n (Spoiled rack) it over = absurd (both_ways over (bare_off n it.is))
  over_set beside n (Up rvg) it over = absurd (both_ways over (none_rvg n it.0.0))
  over_set beside n (Receives s) it over = absurd (both_ways over (none_rvg n it.0.0))
  over_set beside n (Down rack) it over = absurd (both_ways over (none_rvg n it.raw))
  over_set beside n (OfGroup s) it over = absurd (both_ways over (group_set_off beside n s it))
  over_set beside n (Over s) it over = record { set = s; is = refl }
  over_set beside n Gone it over = absurd it

  -- what is noted of them
  pub site_noted : (d : Doubted) (y : Yard R g) (s : ℕ) (o : OverSet R g) → StandsFor d y → s < d.world.sites → slice_get y.disk_sets.items s ≡ Some (Over o) → is_over_rvg (d.world.nodes s) ≡ true
      → SiteNoted (d.world.nodes s) (note_at (d.world.nodes s)) (Over o)
  site_noted d y s o stands below there over = (stands.noted s (Over o) below there).0 (note_at (d.world.nodes s)) (note_is (d.world.nodes s) over)

  -- and how its data volumes are named
  pub site_named : (d : Doubted) (y : Yard R g) (s : ℕ) (o : OverSet R g) → StandsFor d y → s < d.world.sites → slice_get y.disk_sets.items s ≡ Some (Over o) → IsNamed (d.world.nodes s)
  site_named d y s o stands below there = (stands.noted s (Over o) below there).1

  -- a note that a site is up holds only where its group is up, and one that it is down only where it is not
  up_on : (n k : Node) (note : GroupNode) (beside : KeptBeside) (s : OverSite R g) → OverStands beside n s → n.state ≡ IsUp → NotedOn k note (below_site s) → k.state ≡ IsUp
  up_on n k note beside (OriginSite f) stands up it = it.at.state
  up_on n k note beside (ReceiverSite f) stands up it = it.at.state
  up_on n k note beside (OverAway idle) stands up it = absurd (let clash : IsAway ≡ IsUp = sym stands.0 ∙ up in cc)
  up_on n k note beside (OverFell idle) stands up it = absurd (let clash : IsDown ≡ IsUp = sym stands.0 ∙ up in cc)
  up_on n k note beside NoOver stands up it = absurd stands

  down_on : (n k : Node) (note : GroupNode) (beside : KeptBeside) (s : OverSite R g) → OverStands beside n s → n.state ≡ IsDown → NotedOn k note (below_site s) → k.state ≡ IsDown
  down_on n k note beside (OriginSite f) stands down it = absurd (let clash : IsUp ≡ IsDown = sym stands.state ∙ down in cc)
  down_on n k note beside (ReceiverSite f) stands down it = absurd (let clash : IsUp ≡ IsDown = sym stands.state ∙ down in cc)
  down_on n k note beside (OverAway idle) stands down it = absurd (let clash : IsAway ≡ IsDown = sym stands.0 ∙ down in cc)
  down_on n k note beside (OverFell idle) stands down it = it.away.state
  down_on n k note beside NoOver stands down it = absurd stands

  -- so a site that is up is none of which a crash is noted, and the other way round
  pub up_not_down : (beside : KeptBeside) (n k : Node) (note : GroupNode) (o : OverSet R g) → SiteStands beside n (Over o) → n.state ≡ IsUp → SiteNoted k note (Over o) → k.state ≡ IsDown → ⊥
  up_not_down beside n k note o stands up it down = let clash : IsUp ≡ IsDown = sym (up_on n (below_rvg k) note beside o.site stands.1 up it.0) ∙ down in absurd (cc)

  pub down_not_up : (beside : KeptBeside) (n k : Node) (note : GroupNode) (o : OverSet R g) → SiteStands beside n (Over o) → n.state ≡ IsDown → SiteNoted k note (Over o) → k.state ≡ IsUp → ⊥
  down_not_up beside n k note o stands down it up = let clash : IsDown ≡ IsUp = sym (down_on n (below_rvg k) note beside o.site stands.1 down it.0) ∙ up in absurd (cc)

  -- what holds of two such disk sets, by what they are
  pub at_over : {T : Type 0} (F : DiskSet R g → DiskSet R g → Type 0) (a b : DiskSet R g) → OverIs a → OverIs b → ((o p : OverSet R g) → F (Over o) (Over p) → T) → F a b → T
  at_over F a b first second then it = then first.set second.set (subst (λ (x : DiskSet R g). F x (Over second.set)) first.is (subst (λ (x : DiskSet R g). F a x) second.is it))
