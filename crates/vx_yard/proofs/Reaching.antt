-- What a site comes to in the world behind the events of a line, but for its disks that are made to fail and for its fuse.
use Rattle.std.proofs.Common.{◌≡◌, ◌∙◌, ap, sym, subst, refl}
use Rattle.std.specs.Prelude.{List, ℕ, Option, Some}
use Rattle.vx_model.specs.Sites.{is_origin}
use Rattle.vx_history.specs.Doubts.{After, Doubted}
use Rattle.vx_history.specs.World.{Gathering, Node, Packet}
use Rattle.vx_disk.specs.declared.shelf.Shelf.{Ghosts}
use Rattle.vx_diskset.specs.Asked.{FailsAs, FusedAs}
use Rattle.vx_diskset.specs.Holds.{KeptBeside, beside_of}
use Rattle.vx_diskset.specs.Stands.{RoleIs, SiteStands}
use Rattle.vx_diskset.specs.declared.disk_set.DiskSet.{DiskSet}
use Rattle.vx_diskset.proofs.Roles.{role_like}
use Rattle.vx_events.specs.Effects.{ChangesNode, EffectAt}
use Rattle.vx_events.specs.LinksFit.{LinksFit}
use Rattle.vx_yard.specs.Standing.{IsSameSite}
use Rattle.vx_yard.proofs.NoteSite.{IsNoted, changes_one, fits_one, with_one}
use Rattle.vx_yard.proofs.OneSite.{Comes, beside_same}
use Rattle.vx_history.proofs.Updates.{at_place}

module _ {R : Type 0} {g : Ghosts R} where
  -- the site has this node, with which its disk set stands
  pub record Reaches (d e : Doubted) (s : ℕ) (m : Node) (after : DiskSet R g) : Type 1 where
    pub changes : ChangesNode s d e
    pub here : e.world.nodes s ≡ m
    pub links : LinksFit e
    pub stands : SiteStands (beside_of e s) m after
    pub role : RoleIs m after
    pub doubt : ((a : After) → d.after s ≡ Some a → IsSameSite (d.world.nodes s) a.node) → (a : After) → e.after s ≡ Some a → IsSameSite m a.node

  -- with what is known of its disks
  pub comes_reached : (d e : Doubted) (s : ℕ) (m : Node) (after : DiskSet R g) → Reaches d e s m after → FailsAs m after → FusedAs m after → Comes d e s after
  comes_reached d e s m after reach failing fuse =
      let here : m ≡ e.world.nodes s = sym reach.here in
      record {
        changes = reach.changes;
        links = reach.links;
        stands = subst (λ (k : Node). SiteStands (beside_of e s) k after) here reach.stands;
        failing = subst (λ (k : Node). FailsAs k after) here failing;
        fuse = subst (λ (k : Node). FusedAs k after) here fuse;
        role = subst (λ (k : Node). RoleIs k after) here reach.role;
        doubt = λ was a is. subst (λ (k : Node). IsSameSite k a.node) here (reach.doubt was a is);
      }

  -- a site that an event left so, with what it has beside its node
  pub reaches_effect : (d e : Doubted) (s : ℕ) (m : Node) (packets : List Packet) (gathered : Option Gathering) (after : DiskSet R g)
      → EffectAt s d e m (d.world.links s) (d.world.headers s) (d.after s) packets gathered → LinksFit e
      → m.name ≡ (d.world.nodes s).name → m.disks ≡ (d.world.nodes s).disks → m.blocks ≡ (d.world.nodes s).blocks → m.volumes ≡ (d.world.nodes s).volumes → m.role ≡ (d.world.nodes s).role
      → SiteStands (beside_of d s) m after → RoleIs (d.world.nodes s) after → Reaches d e s m after
  reaches_effect d e s m packets gathered after eff fits name disks blocks volumes role stands kind = record {
    changes = eff.site;
    here = eff.is.node;
    links = fits;
    stands = subst (λ (b : KeptBeside). SiteStands b m after) (sym (beside_same d e s eff.site.sites (λ k. eff.is.links k) eff.is.headers eff.is.after)) stands;
    role = role_like (d.world.nodes s) m after (ap is_origin role) kind;
    doubt = λ was a is.
        let w = was a (sym eff.is.after ∙ is) in
        record { name = w.name ∙ sym name; disks = w.disks ∙ sym disks; blocks = w.blocks ∙ sym blocks; volumes = w.volumes ∙ sym volumes };
  }

  -- one of which nothing happened
  pub reaches_same : (d : Doubted) (s : ℕ) (after : DiskSet R g) → LinksFit d → SiteStands (beside_of d s) (d.world.nodes s) after → RoleIs (d.world.nodes s) after → Reaches d d s (d.world.nodes s) after
  reaches_same d s after fits stands role = record {
    changes = record { sites = refl; nodes = λ i apart. refl; links = λ i k apart. refl; headers = λ i apart. refl; after = λ i apart. refl; strayed = λ calm. calm; gathering = λ i apart. refl };
    here = refl;
    links = fits;
    stands = stands;
    role = role;
    doubt = λ was a is. was a is;
  }

  -- one of which nothing but what is noted of its disks changed
  pub reaches_one : (d : Doubted) (s : ℕ) (m : Node) (after : DiskSet R g) → IsNoted (d.world.nodes s) m → LinksFit d → SiteStands (beside_of d s) m after → RoleIs (d.world.nodes s) after → Reaches d (with_one d s m) s m after
  reaches_one d s m after noted fits stands role = record {
    changes = changes_one d s m;
    here = at_place d.world.nodes s m;
    links = fits_one d s m noted fits;
    stands = stands;
    role = role_like (d.world.nodes s) m after (ap (λ (k : Node). is_origin k.role) noted) role;
    doubt = λ was a is.
        let w = was a is in
        record {
          name = w.name ∙ sym (ap (λ (k : Node). k.name) noted);
          disks = w.disks ∙ sym (ap (λ (k : Node). k.disks) noted);
          blocks = w.blocks ∙ sym (ap (λ (k : Node). k.blocks) noted);
          volumes = w.volumes ∙ sym (ap (λ (k : Node). k.volumes) noted);
        };
  }
