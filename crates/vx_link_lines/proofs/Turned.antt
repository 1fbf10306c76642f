-- A yard of which one site has another disk set, where its node, its links and what it may be besides changed.
use Rattle.std.proofs.Common.{◌≡◌, ◌∙◌, ◌<◌, ℕ, ap, sym, subst, arith, ⊎_elim}
use Rattle.std.specs.Prelude.{Some, slice_get, slice_set, length}
use Rattle.std.specs.Vec.{vec_capacity}
use Rattle.std.proofs.lemmas.Bool.{cases_eq}
use Rattle.std.proofs.lemmas.Option.{slice_get_within}
use Rattle.vx_history.specs.Doubts.{After, Doubted}
use Rattle.vx_history.specs.World.{Node}
use Rattle.vx_disk.specs.declared.shelf.Shelf.{Ghosts}
use Rattle.vx_diskset.specs.Asked.{FailsAs, FusedAs}
use Rattle.vx_diskset.specs.Holds.{KeptBeside, beside_of}
use Rattle.vx_diskset.specs.Noted.{NotedOver}
use Rattle.vx_diskset.specs.Stands.{RoleIs, SiteStands}
use Rattle.vx_diskset.specs.declared.disk_set.DiskSet.{DiskSet}
use Rattle.vx_events.specs.Effects.{ChangesNode}
use Rattle.vx_events.specs.StepsOver.{facts_over}
use Rattle.vx_events.specs.LinksFit.{LinksFit}
use Rattle.vx_yard.specs.Standing.{IsSameSite, SitesAgree, StandsFor, BeginsFirst}
use Rattle.vx_yard.specs.declared.yard.Yard.{Yard}
use Rattle.vx_yard.proofs.Lists.{get-set_other, length-set}
use Rattle.vx_yard.proofs.OneSite.{Changed, at_set, beside_same}

module _ {R : Type 0} {g : Ghosts R} where
  -- what a site comes to, whose disk set is this one then
  pub record Turned (d e : Doubted) (s : ℕ) (after : DiskSet R g) : Type 0 where
    pub changes : ChangesNode s d e
    pub links : LinksFit e
    pub stands : SiteStands (beside_of e s) (e.world.nodes s) after
    pub failing : FailsAs (e.world.nodes s) after
    pub fuse : FusedAs (e.world.nodes s) after
    pub role : RoleIs (e.world.nodes s) after

  -- the yard stands for the world that this one comes to
  pub stands_turned : (d e : Doubted) (old new : Yard R g) (s : ℕ) (before after : DiskSet R g) → StandsFor d old → s < d.world.sites → Changed old new s before after → Turned d e s after
      → (BeginsFirst s (d.world.nodes s) → BeginsFirst s (e.world.nodes s)) → (NotedOver (d.world.nodes s) before → NotedOver (e.world.nodes s) after) → new.facts.items ≡ facts_over e.world → ((a : After) → e.after s ≡ Some a → IsSameSite (e.world.nodes s) a.node) → StandsFor e new
  stands_turned d e old new s before after stands below changed turned first noted facts doubt = record {
    facts = facts;
    disk_sets = subst (λ es. SitesAgree e es) (sym changed.disk_sets) (record {
      eight = length-set old.disk_sets.items s after ∙ stands.disk_sets.eight;
      few = omega (arith, stands.disk_sets.few, turned.changes.sites);
      sites = λ i x inside is.
          at_set (λ j y. SiteStands (beside_of e j) (e.world.nodes j) y) old.disk_sets.items s after within turned.stands i x is
          (λ apart was.
          subst (λ (b : KeptBeside). SiteStands b (e.world.nodes i) x)
          (sym (beside_same d e i turned.changes.sites (λ k. turned.changes.links i k apart) (turned.changes.headers i apart) (turned.changes.after i apart)))
          (subst (λ (n : Node). SiteStands (beside_of d i) n x) (sym (turned.changes.nodes i apart)) (stands.disk_sets.sites i x (omega (arith, inside, turned.changes.sites)) was)));
      others = λ i x past is. stands.disk_sets.others i x (omega (arith, past, turned.changes.sites))
          (sym (get-set_other old.disk_sets.items s i after (λ same. omega (arith, past, below, same, turned.changes.sites))) ∙ is);
    });
    links = turned.links;
    roles = record {
      each = λ i x inside is. at_set (λ j y. RoleIs (e.world.nodes j) y) old.disk_sets.items s after within turned.role i x (here i x is)
          (λ apart was. subst (λ (n : Node). RoleIs n x) (sym (turned.changes.nodes i apart)) (stands.roles.each i x (omega (arith, inside, turned.changes.sites)) was));
    };
    first = λ i inside. ⊎_elim
        (λ (same : i ≡ s). subst (λ (k : ℕ). BeginsFirst k (e.world.nodes k)) (sym same) (first (stands.first s below)))
        (λ apart. subst (λ (n : Node). BeginsFirst i n) (sym (turned.changes.nodes i apart)) (stands.first i (omega (arith, inside, turned.changes.sites))))
        (cases_eq i s);
    noted = λ i x inside is. at_set (λ j y. NotedOver (e.world.nodes j) y) old.disk_sets.items s after within (noted (stands.noted s before below changed.there)) i x (here i x is)
        (λ apart was. subst (λ (n : Node). NotedOver n x) (sym (turned.changes.nodes i apart)) (stands.noted i x (omega (arith, inside, turned.changes.sites)) was));
    doubts = λ i a is. ⊎_elim
        (λ (same : i ≡ s). subst (λ (k : ℕ). IsSameSite (e.world.nodes k) a.node) (sym same) (doubt a (ap (λ (k : ℕ). e.after k) (sym same) ∙ is)))
        (λ apart. subst (λ (n : Node). IsSameSite n a.node) (sym (turned.changes.nodes i apart)) (stands.doubts i a (sym (turned.changes.after i apart) ∙ is)))
        (cases_eq i s);
    failing = λ i x inside is. at_set (λ j y. FailsAs (e.world.nodes j) y) old.disk_sets.items s after within turned.failing i x (here i x is)
        (λ apart was. subst (λ (n : Node). FailsAs n x) (sym (turned.changes.nodes i apart)) (stands.failing i x (omega (arith, inside, turned.changes.sites)) was));
    fuses = λ i x inside is. at_set (λ j y. FusedAs (e.world.nodes j) y) old.disk_sets.items s after within turned.fuse i x (here i x is)
        (λ apart was. subst (λ (n : Node). FusedAs n x) (sym (turned.changes.nodes i apart)) (stands.fuses i x (omega (arith, inside, turned.changes.sites)) was));
    none = ap (λ r. r.items) changed.racks ∙ stands.none;
    room = omega (arith, stands.room, ap (λ r. vec_capacity r) changed.racks);
  }
    where
      within : s < length old.disk_sets.items
      within = slice_get_within old.disk_sets.items s before changed.there

      here : (i : ℕ) (x : DiskSet R g) → slice_get new.disk_sets.items i ≡ Some x → slice_get (slice_set old.disk_sets.items s after) i ≡ Some x
      here i x is = sym (ap (λ es. slice_get es i) changed.disk_sets) ∙ is
