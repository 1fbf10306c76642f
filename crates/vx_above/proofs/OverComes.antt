-- What a site with a replicated volume group over its group comes to behind calls, with what it notes of the group then.
use Rattle.std.proofs.Common.{◌≡◌, ◌∙◌, ℕ, true, false, ap, sym, subst, refl}
use Rattle.std.proofs.lemmas.Bool.{false_from_ne_true}
use Rattle.std.specs.Prelude.{Option, Some, None}
use Rattle.vx_disk.specs.Causes.{WithDisks}
use Rattle.vx_disk.specs.Disks.{Disks}
use Rattle.vx_disk.specs.Shelf.{Meaning}
use Rattle.vx_disk.specs.declared.shelf.Shelf.{Ghosts}
use Rattle.vx_effects.proofs.Effects.{changes_then}
use Rattle.vx_history.proofs.Updates.{at_place}
use Rattle.vx_history.specs.Doubts.{Doubted}
use Rattle.vx_history.specs.Groups.{GroupNode}
use Rattle.vx_history.specs.Steps.{burned, crashed, spent}
use Rattle.vx_history.specs.World.{Fuse, FuseLit, FuseSet, Node, NoFuse}
use Rattle.vx_model.specs.declared.site.SiteState.TheVariants.{Up as IsUp, Down as IsDown}
use Rattle.vx_watched.specs.Since.{is_rack}
use Rattle.vx_grouped.specs.GroupSites.{site_disks, with_note}
use Rattle.vx_diskset.specs.Aboves.{site_in}
use Rattle.vx_diskset.specs.Asked.{FailsAs, FusedAs, SameFailing, disks_told}
use Rattle.vx_diskset.specs.Fuses.{FuseOn}
use Rattle.vx_diskset.specs.Holds.{KeptBeside, beside_of}
use Rattle.vx_diskset.specs.Layouts.{units_by, units_of}
use Rattle.vx_diskset.specs.Noted.{NotedOver, NotesAs, SiteNoted}
use Rattle.vx_diskset.specs.Stands.{SiteStands}
use Rattle.vx_diskset.specs.declared.disk_set.DiskSet.TheVariants.{Over}
use Rattle.vx_diskset.specs.declared.over_set.OverSet.{OverSet}
use Rattle.vx_diskset.proofs.NotedLikes.{noted_as}
use Rattle.vx_diskset.proofs.OverLikes.{over_like}
use Rattle.vx_diskset.proofs.Roles.{role_like}
use Rattle.vx_events.proofs.Places.{never_some, some_same}
use Rattle.vx_events.specs.RvgOver.{burnt_over}
use Rattle.vx_yard.proofs.FailsStay.{fails_then}
use Rattle.vx_yard.proofs.FuseStays.{fused_none}
use Rattle.vx_yard.proofs.NoteSite.{IsNoted, changes_one, fits_one, with_one}
use Rattle.vx_yard.proofs.OneSite.{Comes}
use Rattle.vx_yard.proofs.Reaching.{Reaches}
use Rattle.vx_yard.specs.Standing.{IsSameSite}
use Rattle.vx_yard.specs.declared.yard.Yard.{Yard}
use Rattle.vx_above.proofs.FuseGoing.{fused_goes}
use Rattle.vx_above.proofs.Moved.{OverCall, call_named, call_note, call_off, call_running, call_units, call_up}
use Rattle.vx_above.proofs.OverSeen.{noted_node}
use Rattle.vx_above.proofs.OverSites.{note_is, site_named}
use Rattle.vx_model.specs.Sites.{is_origin}

-- ---- fuses

-- a fuse behind a write, behind other calls, and behind none
pub lit_spent : (k : ℕ) (f : Fuse) → burnt_over f (spent k f) ≡ burned f
lit_spent k NoFuse = refl
lit_spent k (FuseSet calls) = refl
lit_spent k (FuseLit most) = refl

pub lit_burned : (f : Fuse) → burnt_over f (burned f) ≡ burned f
lit_burned NoFuse = refl
lit_burned (FuseSet calls) = refl
lit_burned (FuseLit most) = refl

pub lit_still : (f : Fuse) → burnt_over f f ≡ burned f
lit_still NoFuse = refl
lit_still (FuseSet calls) = refl
lit_still (FuseLit most) = refl

pub on_spent : (k : ℕ) (f : Fuse) (m : Meaning) → FuseOn (spent k f) m → FuseOn (burned f) m
on_spent k NoFuse m on = on
on_spent k (FuseSet calls) m on = tt
on_spent k (FuseLit most) m on = tt

pub on_still : (f : Fuse) (m : Meaning) → FuseOn f m → FuseOn (burned f) m
on_still NoFuse m on = on
on_still (FuseSet calls) m on = tt
on_still (FuseLit most) m on = tt

pub none_spent : (k : ℕ) (f : Fuse) → spent k f ≡ NoFuse → burned f ≡ NoFuse
none_spent k NoFuse is = refl
none_spent k (FuseSet calls) is = absurd (cc)
none_spent k (FuseLit most) is = absurd (cc)

pub none_still : (f : Fuse) → f ≡ NoFuse → burned f ≡ NoFuse
none_still NoFuse is = refl
none_still (FuseSet calls) is = absurd (cc)
none_still (FuseLit most) is = absurd (cc)

-- ---- the disks

with_both : (a b : Option Disks) (P : Disks → Disks → Type 0) → is_rack b ≡ is_rack a → ((x y : Disks) → a ≡ Some x → b ≡ Some y → P x y) → WithDisks a b P
with_both None None P rack each = tt
with_both None (Some y) P rack each = absurd (let clash : true ≡ false = rack in cc)
with_both (Some x) None P rack each = absurd (let clash : false ≡ true = rack in cc)
with_both (Some x) (Some y) P rack each = each x y refl refl

-- a site with the same name, disks and volumes, of the same group, the same disks of which are made to fail
pub record StaysAs (n m : Node) : Type 0 where
  pub name : m.name ≡ n.name
  pub disks : m.disks ≡ n.disks
  pub blocks : m.blocks ≡ n.blocks
  pub volumes : m.volumes ≡ n.volumes
  pub group : m.group ≡ n.group
  pub failing : m.failing ≡ n.failing

module _ {R : Type 0} {g : Ghosts R} (d : Doubted) (old new : Yard R g) (s : ℕ) (o p : OverSet R g) (call : OverCall d old new s o p) where
  abbrev n : Node
  n = d.world.nodes s

  abbrev next : GroupNode
  next = call_note d old new s o p call

  -- the same disks are made to fail
  pub same_failing : SameFailing (Over o) (Over p)
  same_failing = record {
    told = with_both (disks_told (Over o)) (disks_told (Over p)) (λ x y. (u : ℕ) → y.failing u ≡ x.failing u) call.notes.calls.rack
        (λ x y was is. (call.notes.calls.told x y was is).failing);
  }

  fails_over : (m : Node) → m.failing ≡ n.failing → FailsAs m (Over p)
  fails_over m same = fails_then n m (Over o) (Over p) same same_failing (call.stands.failing s (Over o) call.below call.changed.there)

  -- a fuse that is still there has no more calls left
  fused_over : (m : Node) (beside : KeptBeside) (k : Node) → SiteStands beside k (Over p) → k.state ≡ IsUp → m.fuse ≡ burned n.fuse → FusedAs m (Over p)
  fused_over m beside k stands up is =
      fused_goes n m (Over o) (Over p) is call.notes.calls.rack
      (λ x y was now. (call.notes.calls.told x y was now).fuse (false_from_ne_true (site_disks (site_in p)).down (call_running d old new s o p call beside k stands up)))
      (call.stands.fuses s (Over o) call.below call.changed.there)

  some_group : (note : GroupNode) → Some note ≡ None → ⊥
  some_group note is = never_some (sym is)

  module _ (e : Doubted) (m : Node) (reach : Reaches d e s m (Over p)) (stays : StaysAs n m) where
    units_again : (fuse : Fuse) → units_of (noted_node m next fuse) ≡ units_of m
    units_again fuse =
        call_units d old new s o p call
        ∙ sym (ap (λ (x : Option GroupNode). units_by x m.disks) (stays.group ∙ note_is n call.over))

    comes_with : (fuse : Fuse) → ((x : Meaning) → FuseOn m.fuse x → FuseOn fuse x) → (m.fuse ≡ NoFuse → fuse ≡ NoFuse) → FusedAs (noted_node m next fuse) (Over p) → Comes d (with_one e s (noted_node m next fuse)) s (Over p)
    comes_with fuse lit unlit fused =
        let k : Node = noted_node m next fuse in
        let here : k ≡ (with_one e s k).world.nodes s = sym (at_place e.world.nodes s k) in
        record {
          changes = changes_then s d e (with_one e s k) reach.changes (changes_one e s k);
          links = fits_one e s k (subst (λ (x : Node). IsNoted x k) (sym reach.here) refl) reach.links;
          stands = subst (λ (x : Node). SiteStands (beside_of e s) x (Over p)) here
              (over_like (beside_of e s) m k p refl (some_group next) (units_again fuse) lit unlit reach.stands);
          failing = subst (λ (x : Node). FailsAs x (Over p)) here (fails_over k stays.failing);
          fuse = subst (λ (x : Node). FusedAs x (Over p)) here fused;
          role = role_like m ((with_one e s k).world.nodes s) (Over p) (ap (λ (x : Node). is_origin x.role) (sym here)) reach.role;
          doubt = λ was a is.
              let w = reach.doubt was a is in
              subst (λ (x : Node). IsSameSite x a.node) here (record { name = w.name; disks = w.disks; blocks = w.blocks; volumes = w.volumes });
        }

    noted_with : (base k : Node) → NotesAs base k → base.group ≡ Some next → base.volumes ≡ n.volumes → SiteNoted base next (Over p) → NotedOver k (Over p)
    noted_with base k like group volumes noted =
        noted_as base k like p (
          (λ note is. subst (λ (x : GroupNode). SiteNoted base x (Over p)) (some_same (sym group ∙ is)) noted),
          call_named d old new s o p call (site_named d old s o call.stands call.below call.changed.there) base volumes group,
        )

    -- ---- the site is up still

    module _ (up : m.state ≡ IsUp) where
      abbrev pub node_up : Node
      node_up = noted_node m next (burned n.fuse)

      pub comes_up : ((x : Meaning) → FuseOn m.fuse x → FuseOn (burned n.fuse) x) → (m.fuse ≡ NoFuse → burned n.fuse ≡ NoFuse) → Comes d (with_one e s node_up) s (Over p)
      comes_up lit unlit = comes_with (burned n.fuse) lit unlit (fused_over node_up (beside_of e s) m reach.stands up refl)

      pub noted_up : NotedOver ((with_one e s node_up).world.nodes s) (Over p)
      noted_up =
          subst (λ (x : Node). NotedOver x (Over p)) (sym (at_place e.world.nodes s node_up))
          (noted_with (with_note next n) node_up (record { name = stays.name; disks = stays.disks; blocks = stays.blocks; volumes = stays.volumes; group = refl; state = up ∙ sym call.up; fuse = refl }) refl refl
          (call_up d old new s o p call (beside_of e s) m reach.stands up).0)

    -- ---- its fuse ran out

    module _ (down : m.state ≡ IsDown) (unfused : m.fuse ≡ NoFuse) where
      abbrev pub node_off : Node
      node_off = noted_node m next NoFuse

      pub comes_off : Comes d (with_one e s node_off) s (Over p)
      comes_off = comes_with NoFuse (λ x on. subst (λ (f : Fuse). FuseOn f x) unfused on) (λ _. refl) (fused_none node_off (Over p) refl)

      pub noted_off : NotedOver ((with_one e s node_off).world.nodes s) (Over p)
      noted_off =
          subst (λ (x : Node). NotedOver x (Over p)) (sym (at_place e.world.nodes s node_off))
          (noted_with (crashed (with_note next n) 0) node_off (record { name = stays.name; disks = stays.disks; blocks = stays.blocks; volumes = stays.volumes; group = refl; state = down; fuse = refl }) refl refl
          (call_off d old new s o p call (beside_of e s) m reach.stands down).0)
