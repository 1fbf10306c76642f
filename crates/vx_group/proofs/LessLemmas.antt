-- What stands of a group where its disks have no other values than before, as behind the own calls of a rack.
use Rattle.std.proofs.Common.{◌≡◌, inl, inr, ℕ, ◌<◌, Bool, true, Option, List, refl, sym, ◌∙◌, subst, arith}
use Rattle.vx_disk.specs.Racks.{Alike}
use Rattle.vx_disk.specs.Shelf.{Image, Lawful, Meaning, Values}
use Rattle.vx_copyfmt.specs.Commits.{Counts}
use Rattle.vx_copyfmt.proofs.Subs.{counts_sub}
use Rattle.vx_config.specs.declared.config.Config.{Config}
use Rattle.vx_copies.specs.Looking.{on_shelf}
use Rattle.vx_copies.proofs.OneTry.{shelf_same, wanted_same}
use Rattle.vx_kept.specs.Commits.{Member}
use Rattle.vx_kept.specs.Groups.{ImportedImage, seen}
use Rattle.vx_kept.specs.Keeping.{Kept}
use Rattle.vx_kept.proofs.Committed.{fewer, member_same}
use Rattle.vx_kept.proofs.Facts.{to_fact}
use Rattle.vx_kept.proofs.Lasting.{sees_same}
use Rattle.vx_kept.proofs.Low.{found_same}
use Rattle.vx_kept.proofs.Trusting.{less_trusts}
use Rattle.vx_group.specs.Holding.{GroupStands, wide}
use Rattle.vx_group.specs.Stands.{InnerStands, inner_meaning}
use Rattle.vx_group.specs.declared.group_core.GroupCore.{GroupCore}
use Rattle.vx_group.specs.declared.inner.Inner.{Inner}
use Rattle.vx_group.proofs.Standing.{kept_of, still_large}

module _ (core : Inner) (m m' : Meaning) (stands : InnerStands core m) (law : Lawful m) (law' : Lawful m') (units : m'.units ≡ m.units) (size : (u : ℕ) → m'.size u ≡ m.size u) (tells : m'.tells ≡ m.tells)
    (leaves : (u b : ℕ) (v : List ℕ) → m'.leaves u b v → m.leaves u b v) where
  less_Kept : Kept core.config (Member core.good m) m'
  less_Kept =
      let kept = kept_of core m stands in
      record {
        below = record { each = λ u lt a v h is left head. kept.below.each u (omega (arith, units, lt)) a v h is (leaves u a v left) head };
        counts = λ u lt. subst (λ (r : ℕ → List ℕ → Option Config). Counts r (m'.leaves u)) (shelf_same m m' units size)
            (counts_sub (on_shelf m) (m.leaves u) (m'.leaves u) (λ b v left. leaves u b v left) (kept.counts u (omega (arith, units, lt))));
        labels = record { each = λ u v lt left. kept.labels.each u v (omega (arith, units, lt)) (leaves u 0 v left) };
        sees = λ i each. sees_same core.config (Member core.good m) m m' units size i (kept.sees i (λ u b. leaves u b (i u b) (each u b)));
      }

  -- the group stands on them
  pub less_Stands : InnerStands core m'
  less_Stands = record {
    wanted = wanted_same m m' core.config units size stands.wanted;
    serial = stands.serial;
    disks = stands.disks;
    rvg = stands.rvg;
    few = stands.few;
    small = stands.small;
    large = still_large m m' units size stands.large;
    on = stands.on;
    some = stands.some;
    kept = to_fact core.config (Member core.good m') m' (fewer core.config (Member core.good m) (Member core.good m') m' (member_same core.good m m' units) less_Kept);
    tidy = λ is. record {
      goes = λ u v w x y held in_v in_w in_x in_y. (stands.tidy is).goes u v w x y (record { below = let lt : u < m'.units = held.below in omega (arith, units, lt); good = held.good })
          (leaves u _ v in_v) (leaves u _ w in_w) (leaves u _ x in_x) (leaves u _ y in_y);
    };
    trusts = less_trusts core.committed core.agreed core.good m m' law law' units size tells (λ u b v lt left. leaves u b v left) stands.trusts;
  }

-- ---- to its volumes

pub seen_from : (c : Config) (told told' : Bool) → told' ≡ told → (s s' : Values) → ((u b : ℕ) (v : List ℕ) → s' u b v → s u b v) → (v b : ℕ) (x : List ℕ) → seen told' c s' v b x → seen told c s v b x
seen_from c told told' same s s' sub v b x (inl on) = inl (record { inside = on.inside; plex = on.plex; is_on = on.is_on; value = sub _ _ x on.value })
seen_from c told told' same s s' sub v b x (inr out) = inr (record { tells = sym same ∙ out.tells; outside = out.outside; empty = out.empty })

pub image_from : (c : Config) (m m' : Meaning) → m'.units ≡ m.units → ((u : ℕ) → m'.size u ≡ m.size u) → (P Q : Image → Type 0) → ((i : Image) → Q i → P i) → (i : Image) → ImportedImage c m' Q i → ImportedImage c m P i
image_from c m m' units size P Q sub i it = record {
  image = it.image;
  left = sub it.image it.left;
  config = it.config;
  found = sym (found_same m m' units size (λ u. true) it.image) ∙ it.found;
  shows = it.shows;
}

-- ---- where nothing changed but the fuse, the disks that are made to fail, and whether it is down

pub alike_Stands : (core : GroupCore) (m m' : Meaning) → Lawful m → Lawful m' → Alike m m' → GroupStands core m → GroupStands core m'
alike_Stands core m m' law law' alike it = record {
  stands = less_Stands (wide core) m m' it.stands law law' alike.contents.units alike.contents.size alike.contents.tells alike.contents.leaves;
  held = it.held;
}

pub alike_volumes : (core : Inner) (m m' : Meaning) → Alike m m' → Alike (inner_meaning core m) (inner_meaning core m')
alike_volumes core m m' alike = record {
  contents = record {
    units = refl;
    size = λ v. refl;
    tells = alike.contents.tells;
    moment = alike.contents.moment;
    reads = seen_from core.config m.tells m'.tells alike.contents.tells m.reads m'.reads alike.contents.reads;
    still_reads = seen_from core.config m'.tells m.tells (sym alike.contents.tells) m'.reads m.reads alike.contents.still_reads;
    leaves = seen_from core.config m.tells m'.tells alike.contents.tells m.leaves m'.leaves alike.contents.leaves;
    still_leaves = seen_from core.config m'.tells m.tells (sym alike.contents.tells) m'.leaves m.leaves alike.contents.still_leaves;
    now = λ i it. image_from core.config m m' alike.contents.units alike.contents.size m.now m'.now alike.contents.now i it;
    still_now = λ i it. image_from core.config m' m (sym alike.contents.units) (λ u. sym (alike.contents.size u)) m'.now m.now alike.contents.still_now i it;
    since = λ t i it. image_from core.config m m' alike.contents.units alike.contents.size (m.left_since t) (m'.left_since t) (alike.contents.since t) i it;
    keeps = λ t i it. image_from core.config m' m (sym alike.contents.units) (λ u. sym (alike.contents.size u)) (m'.left_since t) (m.left_since t) (alike.contents.keeps t) i it;
  };
  counts = record { faults = λ v. refl; disk_faults = alike.counts.disk_faults };
}
