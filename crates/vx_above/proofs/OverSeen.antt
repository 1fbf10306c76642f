-- What the tests see of a site with a replicated volume group over its group, behind a line that noted the group anew.
use Rattle.std.proofs.Common.{◌≡◌, ◌∙◌, ℕ, Bool, true, ap, sym, refl}
use Rattle.std.specs.Prelude.{Some, map, if◌then◌else◌}
use Rattle.vx_history.proofs.Updates.{at_place}
use Rattle.vx_history.specs.Doubts.{Doubted}
use Rattle.vx_history.specs.Groups.{GroupNode}
use Rattle.vx_history.specs.World.{Fuse, Node}
use Rattle.vx_model.specs.declared.site.SiteState.{SiteState}
use Rattle.vx_model.specs.declared.site.SiteState.TheVariants.{Bare as IsBare, Up as IsUp, Deported, Down as IsDown}
use Rattle.vx_events.proofs.OverSeats.{fact_apart}
use Rattle.vx_events.proofs.RvgEvents.{rvg_apart}
use Rattle.vx_events.specs.Facts.{group_by, volume_fact}
use Rattle.vx_events.specs.GroupLines.{is_over_group}
use Rattle.vx_events.specs.GroupNotes.{note_at}
use Rattle.vx_events.specs.LinkedFacts.{linked_fact, seen_fact}
use Rattle.vx_events.specs.RvgViews.{is_over_rvg, over_table, table_at}
use Rattle.vx_events.specs.StepsOver.{fact_over}
use Rattle.vx_yard.proofs.NoteSite.{with_one}
use Rattle.vx_yard.proofs.Rows.{fact_like, fact_same, facts_is}

-- a node with another note and another fuse
abbrev pub noted_node : Node → GroupNode → Fuse → Node
noted_node m next fuse = record m { group = Some next; fuse = fuse }

pub group_like : (state : SiteState) (m : Node) (next : GroupNode) (fuse : Fuse) → group_by state (noted_node m next fuse) ≡ group_by state m
group_like IsBare m next fuse = refl
group_like IsUp m next fuse = refl
group_like Deported m next fuse = refl
group_like IsDown m next fuse = refl

pub table_by : (n : Node) → is_over_rvg n ≡ true → table_at n ≡ over_table n (note_at n)
table_by n over = ap (λ (b : Bool). if b then over_table n (note_at n) else map volume_fact n.volumes) over

module _ (m : Node) (next : GroupNode) (fuse : Fuse) (was : is_over_rvg m ≡ true) (over : is_over_rvg (noted_node m next fuse) ≡ true) (table : over_table (noted_node m next fuse) next ≡ over_table m (note_at m)) where
  abbrev k : Node
  k = noted_node m next fuse

  pub seen_like : seen_fact (noted_node m next fuse) ≡ seen_fact m
  seen_like = facts_is (seen_fact k) (seen_fact m) refl refl refl refl (over ∙ sym was) (table_by k over ∙ table ∙ sym (table_by m was)) (group_like m.state m next fuse) refl

  -- in the world
  pub fact_noted : (e : Doubted) (s : ℕ) → e.world.nodes s ≡ m → fact_over (with_one e s (noted_node m next fuse)).world s ≡ linked_fact e.world s
  fact_noted e s here =
      let at : (with_one e s k).world.nodes s ≡ k = at_place e.world.nodes s k in
      fact_apart (with_one e s k).world s (ap (λ (x : Node). is_over_group x) at ∙ rvg_apart k over)
      ∙ fact_same k ((with_one e s k).world.nodes s) (e.world.links s) (e.world.links s) e.world.sites e.world.sites at (λ j. refl) refl
      ∙ fact_like m k (e.world.links s) e.world.sites seen_like (λ j l. refl)
      ∙ sym (fact_same m (e.world.nodes s) (e.world.links s) (e.world.links s) e.world.sites e.world.sites here (λ j. refl) refl)
