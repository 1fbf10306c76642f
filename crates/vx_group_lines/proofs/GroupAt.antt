-- The group of the site that a line names.
use Rattle.std.proofs.Common.{◌≡◌, ◌∙◌, ◌<◌, ℕ, Bool, true, false, List, ap, sym, subst, refl, IsTrue}
use Rattle.std.specs.Prelude.{Option, Some, None, not, slice_get, unwrap_or}
use Rattle.vx_model.specs.declared.site.SiteState.TheVariants.{Bare as IsBare, Up as IsUp, Deported as IsDeported, Down as IsDown}
use Rattle.vx_disk.specs.declared.shelf.Shelf.{Ghosts}
use Rattle.vx_history.specs.Doubts.{Doubted}
use Rattle.vx_history.specs.Groups.{GroupNode}
use Rattle.vx_history.specs.World.{Node}
use Rattle.vx_order.specs.declared.facts.SiteFacts.{SiteFacts}
use Rattle.vx_grouped.specs.Ends.{plain_write}
use Rattle.vx_grouped.specs.GroupSites.{AwayNoted, DownNoted, GroupSiteStands, NotesGroup, UpNoted, site_below, site_disks}
use Rattle.vx_grouped.specs.SiteReturns.{is_dimmed}
use Rattle.vx_grouped.specs.declared.group_site.GroupSite.{GroupSite}
use Rattle.vx_grouped.specs.declared.group_site.GroupSite.TheVariants.{Up, Deported, Down, Marked, Gone}
use Rattle.vx_diskset.specs.GroupSets.{cut_value}
use Rattle.vx_diskset.specs.Holds.{KeptBeside, beside_of}
use Rattle.vx_diskset.specs.Stands.{CutLies, IsGroupSet, SiteStands}
use Rattle.vx_diskset.specs.declared.disk_set.DiskSet.{DiskSet}
use Rattle.vx_diskset.specs.declared.disk_set.DiskSet.TheVariants.{OfGroup}
use Rattle.vx_diskset.specs.declared.group_set.CutWrite.{CutWrite}
use Rattle.vx_diskset.specs.declared.group_set.GroupSet.{GroupSet}
use Rattle.vx_events.proofs.OverSeats.{fact_grouped}
use Rattle.vx_events.specs.Facts.{seat_of}
use Rattle.vx_events.specs.GroupLines.{is_over_group}
use Rattle.vx_events.specs.GroupNotes.{no_note, note_at}
use Rattle.vx_events.specs.StepsOver.{fact_of_group, over_group_at}
use Rattle.vx_yard.proofs.NamedSite.{fact_of, place_at}
use Rattle.vx_yard.proofs.OverGroup.{bare_apart, both_ways, over_is}
use Rattle.vx_yard.specs.Standing.{StandsFor}
use Rattle.vx_yard.specs.declared.yard.Yard.{Yard}

pub note_is : (n : Node) (note : GroupNode) → NotesGroup n note → note ≡ note_at n
note_is n note it = sym (ap (λ (o : Option GroupNode). unwrap_or o no_note) it.is)

bare_up : IsBare ≡ IsUp → ⊥
bare_up e = cc

bare_down : IsBare ≡ IsDown → ⊥
bare_down e = cc

bare_away : IsBare ≡ IsDeported → ⊥
bare_away e = cc

away_up : IsDeported ≡ IsUp → ⊥
away_up e = cc

away_down : IsDeported ≡ IsDown → ⊥
away_down e = cc

down_up : IsDown ≡ IsUp → ⊥
down_up e = cc

-- nothing is cut
pub no_value : (o : Option CutWrite) → cut_value o ≡ None → o ≡ None
no_value None is = refl
no_value (Some x) is = absurd (let e : Some (plain_write x.volume x.block x.bytes) ≡ None = is in cc)

loose_by : (loose agreed : Bool) → (loose ≡ false → agreed ≡ true) → not agreed ≡ true → loose ≡ true
loose_by true agreed agrees dims = refl
loose_by false true agrees dims = absurd (cc)
loose_by false false agrees dims = absurd (let e : false ≡ true = agrees refl in cc)

module _ {R : Type 0} {g : Ghosts R} where
  -- a site that is up has its group up, with the note that it has
  pub up_noted : (n : Node) (e : GroupSite R g) → GroupSiteStands n e → n.state ≡ IsUp → UpNoted n (note_at n) e
  up_noted n (Up group) (note, it) up = subst (λ (k : GroupNode). UpNoted {g = g} n k (Up group)) (note_is n note it.noted) it
  up_noted n (Deported rack) (note, it) up = absurd (away_up (sym it.away.state ∙ up))
  up_noted n (Down rack) (note, it) up = absurd (down_up (sym it.away.state ∙ up))
  up_noted n (Marked rack) it up = absurd (bare_up (sym it.state ∙ up))
  up_noted n Gone it up = absurd it

  pub away_noted : (n : Node) (e : GroupSite R g) → GroupSiteStands n e → n.state ≡ IsDeported → AwayNoted n (note_at n) e
  away_noted n (Up group) (note, it) away = absurd (away_up (sym away ∙ it.at.state))
  away_noted n (Deported rack) (note, it) away = subst (λ (k : GroupNode). AwayNoted {g = g} n k (Deported rack)) (note_is n note it.noted) it
  away_noted n (Down rack) (note, it) away = absurd (away_down (sym away ∙ it.away.state))
  away_noted n (Marked rack) it away = absurd (bare_away (sym it.state ∙ away))
  away_noted n Gone it away = absurd it

  pub down_noted : (n : Node) (e : GroupSite R g) → GroupSiteStands n e → n.state ≡ IsDown → DownNoted n (note_at n) e
  down_noted n (Up group) (note, it) down = absurd (down_up (sym down ∙ it.at.state))
  down_noted n (Deported rack) (note, it) down = absurd (away_down (sym it.away.state ∙ down))
  down_noted n (Down rack) (note, it) down = subst (λ (k : GroupNode). DownNoted {g = g} n k (Down rack)) (note_is n note it.noted) it
  down_noted n (Marked rack) it down = absurd (bare_down (sym it.state ∙ down))
  down_noted n Gone it down = absurd it

  -- ---- what is told of the disks: what the rack tells, where it is known what they hold

  pub lit_up : (n : Node) (note : GroupNode) (e : GroupSite R g) → UpNoted n note e → note.dark ≡ false → IsTrue (site_below e).tells → IsTrue (site_disks e).tells
  lit_up n note (Up group) it bright tells = it.lit bright tells
  lit_up n note (Deported rack) it bright tells = absurd it
  lit_up n note (Down rack) it bright tells = absurd it
  lit_up n note (Marked rack) it bright tells = absurd it
  lit_up n note Gone it bright tells = absurd it

  pub lit_away : (n : Node) (note : GroupNode) (e : GroupSite R g) → AwayNoted n note e → note.dark ≡ false → IsTrue (site_below e).tells → IsTrue (site_disks e).tells
  lit_away n note (Up group) it bright tells = absurd it
  lit_away n note (Deported idle) it bright tells = it.lit bright tells
  lit_away n note (Down rack) it bright tells = absurd it
  lit_away n note (Marked rack) it bright tells = absurd it
  lit_away n note Gone it bright tells = absurd it

  pub lit_down : (n : Node) (note : GroupNode) (e : GroupSite R g) → DownNoted n note e → note.dark ≡ false → IsTrue (site_below e).tells → IsTrue (site_disks e).tells
  lit_down n note (Up group) it bright tells = absurd it
  lit_down n note (Deported rack) it bright tells = absurd it
  lit_down n note (Down idle) it bright tells = it.lit bright tells
  lit_down n note (Marked rack) it bright tells = absurd it
  lit_down n note Gone it bright tells = absurd it

  -- imports that may disagree are noted
  pub loose_away : (n : Node) (note : GroupNode) (e : GroupSite R g) → AwayNoted n note e → is_dimmed e ≡ true → note.loose ≡ true
  loose_away n note (Up group) it dims = absurd it
  loose_away n note (Deported idle) it dims = loose_by note.loose idle.agreed it.agrees dims
  loose_away n note (Down rack) it dims = absurd it
  loose_away n note (Marked rack) it dims = absurd it
  loose_away n note Gone it dims = absurd it

  pub loose_down : (n : Node) (note : GroupNode) (e : GroupSite R g) → DownNoted n note e → is_dimmed e ≡ true → note.loose ≡ true
  loose_down n note (Up group) it dims = absurd it
  loose_down n note (Deported rack) it dims = absurd it
  loose_down n note (Down idle) it dims = loose_by note.loose idle.agreed it.agrees dims
  loose_down n note (Marked rack) it dims = absurd it
  loose_down n note Gone it dims = absurd it

  -- ---- and back

  pub up_stands : (n : Node) (note : GroupNode) (e : GroupSite R g) → UpNoted n note e → GroupSiteStands n e
  up_stands n note (Up group) it = (note, it)
  up_stands n note (Deported rack) it = absurd it
  up_stands n note (Down rack) it = absurd it
  up_stands n note (Marked rack) it = absurd it
  up_stands n note Gone it = absurd it

  pub away_stands : (n : Node) (note : GroupNode) (e : GroupSite R g) → AwayNoted n note e → GroupSiteStands n e
  away_stands n note (Up group) it = absurd it
  away_stands n note (Deported rack) it = (note, it)
  away_stands n note (Down rack) it = absurd it
  away_stands n note (Marked rack) it = absurd it
  away_stands n note Gone it = absurd it

  pub down_stands : (n : Node) (note : GroupNode) (e : GroupSite R g) → DownNoted n note e → GroupSiteStands n e
  down_stands n note (Up group) it = absurd it
  down_stands n note (Deported rack) it = absurd it
  down_stands n note (Down rack) it = (note, it)
  down_stands n note (Marked rack) it = absurd it
  down_stands n note Gone it = absurd it

  -- what the node of such a site says
  pub up_notes : (n : Node) (note : GroupNode) (e : GroupSite R g) → UpNoted n note e → NotesGroup n note × (n.state ≡ IsUp)
  up_notes n note (Up group) it = (it.noted, it.at.state)
  up_notes n note (Deported rack) it = absurd it
  up_notes n note (Down rack) it = absurd it
  up_notes n note (Marked rack) it = absurd it
  up_notes n note Gone it = absurd it

  pub away_notes : (n : Node) (note : GroupNode) (e : GroupSite R g) → AwayNoted n note e → NotesGroup n note × (n.state ≡ IsDeported)
  away_notes n note (Up group) it = absurd it
  away_notes n note (Deported rack) it = (it.noted, it.away.state)
  away_notes n note (Down rack) it = absurd it
  away_notes n note (Marked rack) it = absurd it
  away_notes n note Gone it = absurd it

  pub down_notes : (n : Node) (note : GroupNode) (e : GroupSite R g) → DownNoted n note e → NotesGroup n note × (n.state ≡ IsDown)
  down_notes n note (Up group) it = absurd it
  down_notes n note (Deported rack) it = absurd it
  down_notes n note (Down rack) it = (it.noted, it.away.state)
  down_notes n note (Marked rack) it = absurd it
  down_notes n note Gone it = absurd it

  -- ---- the disk set of the site

  -- the site of this number is over a group, and these are its disks
  pub record GroupAt (d : Doubted) (y : Yard R g) (name : List ℕ) (s : ℕ) (e : DiskSet R g) : Type 0 where
    pub below : s < d.world.sites
    pub set : GroupSet R g
    pub is_set : e ≡ OfGroup set
    pub stands : IsGroupSet (beside_of d s) (d.world.nodes s) set
    pub over : is_over_group (d.world.nodes s) ≡ true
    pub made : (d.world.nodes s).state ≡ IsBare → ⊥
    pub fact : slice_get y.facts.items s ≡ Some (fact_of_group (d.world.nodes s) (note_at (d.world.nodes s)))

  pub group_by : (d : Doubted) (y : Yard R g) (name : List ℕ) (s : ℕ) (e : DiskSet R g) → StandsFor d y → s < d.world.sites → is_over_group (d.world.nodes s) ≡ true → slice_get y.disk_sets.items s ≡ Some e → GroupAt d y name s e
  group_by d y name s e stands below over there =
      let it : SiteStands (beside_of d s) (d.world.nodes s) e = stands.disk_sets.sites s e below there in
      let of = over_is (beside_of d s) (d.world.nodes s) e it over in
      let set : IsGroupSet (beside_of d s) (d.world.nodes s) of.0 = subst (λ (x : DiskSet R g). SiteStands (beside_of d s) (d.world.nodes s) x) of.1 it in
      record {
        below = below;
        set = of.0;
        is_set = of.1;
        stands = set;
        over = over;
        made = λ bare. both_ways over (bare_apart (d.world.nodes s) (set.bare bare));
        fact = fact_of d y s stands below ∙ ap (λ (f : SiteFacts). Some f) (fact_grouped d.world s over);
      }

  pub group_at : (d : Doubted) (y : Yard R g) (name : List ℕ) (s : ℕ) (e : DiskSet R g) → StandsFor d y → seat_of y.facts.items name ≡ Some s → over_group_at d.world name ≡ true → slice_get y.disk_sets.items s ≡ Some e → GroupAt d y name s e
  group_at d y name s e stands seat over there =
      let place = place_at d y name s stands seat in
      group_by d y name s e stands place.below (ap (λ (k : ℕ). is_over_group (d.world.nodes k)) (sym place.number) ∙ over) there

  -- no write is cut at a site that is not down
  none_cut : (n : Node) (set : GroupSet R g) (o : Option CutWrite) → set.cut ≡ o → ((x : CutWrite) → set.cut ≡ Some x → CutLies n x) → (n.state ≡ IsDown → ⊥) → cut_value set.cut ≡ None
  none_cut n set None is lies off = ap (λ (o : Option CutWrite). cut_value o) is
  none_cut n set (Some x) is lies off = absurd (off (lies x is).down)

  pub uncut : (beside : KeptBeside) (n : Node) (set : GroupSet R g) → IsGroupSet beside n set → (n.state ≡ IsDown → ⊥) → cut_value set.cut ≡ None
  uncut beside n set it off = none_cut n set set.cut refl it.lies off
