-- A site over a group of disks keeps no link, be there a replicated volume group over that group or not; and with one writes arise there.
use Rattle.std.proofs.Common.{◌≡◌, ◌<◌, ⊎_elim, ℕ, Bool, true, false, List, [], ◌∷◌, ap, subst, refl, arith}
use Rattle.std.specs.Prelude.{Some, slice_get}
use Rattle.vx_disk.specs.declared.shelf.Shelf.{Ghosts}
use Rattle.vx_diskset.specs.Holds.{KeptBeside, beside_of}
use Rattle.vx_diskset.specs.Stands.{IsGroupSet, IsOverSite, SiteStands}
use Rattle.vx_diskset.specs.declared.disk_set.DiskSet.{DiskSet}
use Rattle.vx_diskset.specs.declared.disk_set.DiskSet.TheVariants.{Bare, Spoiled, Up, Receives, Down, OfGroup, Over, Gone}
use Rattle.vx_diskset.specs.declared.group_set.GroupSet.{GroupSet}
use Rattle.vx_events.specs.GroupLines.{is_over_group}
use Rattle.vx_events.specs.RvgViews.{is_over_rvg}
use Rattle.vx_history.proofs.GoodLemmas.{bare_or_made}
use Rattle.vx_history.proofs.Places.{links_listed}
use Rattle.vx_history.specs.Doubts.{Doubted}
use Rattle.vx_history.specs.Events.{linked_sites}
use Rattle.vx_history.specs.KeptLinks.{kept_links}
use Rattle.vx_history.specs.Listed.{IsAmong}
use Rattle.vx_history.specs.Sends.{is_linked}
use Rattle.vx_history.specs.World.{Link, Node}
use Rattle.vx_model.proofs.Lists.{get_there}
use Rattle.vx_model.specs.Sites.{is_origin}
use Rattle.vx_model.specs.declared.site.SiteState.TheVariants.{Bare as IsBare}
use Rattle.vx_yard.proofs.OverGroup.{bare_apart, both_ways, group_off, none_rvg, over_is, set_over}
use Rattle.vx_yard.specs.Standing.{StandsFor}
use Rattle.vx_yard.specs.declared.yard.Yard.{Yard}

-- no link stands in a header that keeps none
none_among : (row : ℕ → Link) (s : ℕ) (ss : List ℕ) → kept_links row ss ≡ [] → IsAmong s ss → ⊥
none_among row s [] none among = among
none_among row s (t ∷ ts) none among = absurd (cc)

module _ {R : Type 0} {g : Ghosts R} where
  -- the header of its disks would keep none
  over_links : (beside : KeptBeside) (n : Node) (e : DiskSet R g) → SiteStands beside n e → is_over_group n ≡ true → beside.links ≡ []
  over_links beside n e it over =
      let of = over_is beside n e it over in
      let set : IsGroupSet beside n of.0 = subst (λ (x : DiskSet R g). SiteStands beside n x) of.1 it in
      set.unlinked (λ bare. both_ways over (bare_apart n (set.bare bare)))

  -- a site with a group of disks alone has no replicated volume group over one
  group_rvg : (beside : KeptBeside) (n : Node) (s : GroupSet R g) → IsGroupSet beside n s → is_over_rvg n ≡ true → ⊥
  group_rvg beside n s it over =
      ⊎_elim (λ (bare : n.state ≡ IsBare). both_ways over (none_rvg n (ap (λ (x : Node). x.group) (it.bare bare))))
      (λ made. both_ways over (group_off n (set_over beside n s it made))) (bare_or_made n.state)

  -- the disks of a site with one are a group below it
  rvg_site : (beside : KeptBeside) (n : Node) (e : DiskSet R g) → SiteStands beside n e → is_over_rvg n ≡ true → IsOverSite beside n
  rvg_site beside n (Bare rack) it over = absurd (both_ways over (none_rvg n (ap (λ (x : Node). x.group) it.bare.is)))
  rvg_site beside n (Spoiled rack) it over = absurd (both_ways over (none_rvg n (ap (λ (x : Node). x.group) it.is)))
  rvg_site beside n (Up rvg) it over = absurd (both_ways over (none_rvg n it.0.0))
  rvg_site beside n (Receives s) it over = absurd (both_ways over (none_rvg n it.0.0))
  rvg_site beside n (Down rack) it over = absurd (both_ways over (none_rvg n it.raw))
  rvg_site beside n (OfGroup s) it over = absurd (group_rvg beside n s it over)
  rvg_site beside n (Over s) it over = it.0
  rvg_site beside n Gone it over = absurd it

  -- one at which no writes arise has none
  pub second_raw : (beside : KeptBeside) (n : Node) (e : DiskSet R g) → SiteStands beside n e → is_origin n.role ≡ false → is_over_rvg n ≡ false
  second_raw beside n e it second = by (is_over_rvg n) refl
    where
      by : (b : Bool) → is_over_rvg n ≡ b → is_over_rvg n ≡ false
      by false is = is
      by true is = absurd (both_ways (rvg_site beside n e it is).5 second)

  -- a site whose header would keep none has none
  row_unlinked : (d : Doubted) (y : Yard R g) (t q : ℕ) → StandsFor d y → (beside_of d t).links ≡ [] → is_linked (d.world.links t q) ≡ false
  row_unlinked d y t q stands none = by (is_linked (d.world.links t q)) refl
    where
      by : (b : Bool) → is_linked (d.world.links t q) ≡ b → is_linked (d.world.links t q) ≡ false
      by false is = is
      by true is =
          absurd (none_among (d.world.links t) q (linked_sites (d.world.links t) d.world.sites 0 d.world.sites) none
          (links_listed d.world.sites (d.world.links t) (stands.links.rows t).places q is))

  pub over_unlinked : (d : Doubted) (y : Yard R g) (t q : ℕ) (e : DiskSet R g) → StandsFor d y → t < d.world.sites → slice_get y.disk_sets.items t ≡ Some e → is_over_group (d.world.nodes t) ≡ true
      → is_linked (d.world.links t q) ≡ false
  over_unlinked d y t q e stands below at over =
      row_unlinked d y t q stands (over_links (beside_of d t) (d.world.nodes t) e (stands.disk_sets.sites t e below at) over)

  -- one with a link has no replicated volume group over a group
  pub linked_off : (d : Doubted) (y : Yard R g) (t q : ℕ) → StandsFor d y → t < d.world.sites → is_linked (d.world.links t q) ≡ true → is_over_rvg (d.world.nodes t) ≡ false
  linked_off d y t q stands below linked = by (is_over_rvg (d.world.nodes t)) refl
    where
      by : (b : Bool) → is_over_rvg (d.world.nodes t) ≡ b → is_over_rvg (d.world.nodes t) ≡ false
      by false is = is
      by true is =
          let e = get_there y.disk_sets.items t (omega (arith, below, stands.disk_sets.eight, stands.disk_sets.few)) in
          absurd (both_ways linked (row_unlinked d y t q stands (rvg_site (beside_of d t) (d.world.nodes t) e.0 (stands.disk_sets.sites t e.0 below e.1) is).4))

  -- nor has one at which no writes arise
  pub second_off_at : (d : Doubted) (y : Yard R g) (t : ℕ) → StandsFor d y → t < d.world.sites → is_origin (d.world.nodes t).role ≡ false → is_over_rvg (d.world.nodes t) ≡ false
  second_off_at d y t stands below second =
      let e = get_there y.disk_sets.items t (omega (arith, below, stands.disk_sets.eight, stands.disk_sets.few)) in
      second_raw (beside_of d t) (d.world.nodes t) e.0 (stands.disk_sets.sites t e.0 below e.1) second
