-- Which configurations images have behind calls in a row.
use Rattle.std.proofs.Common.{◌≡◌, inl, inr, ⊎_elim, true, false, IsTrue, Option, None, List, [], ◌∷◌, ◌++◌, refl, ap, sym, ◌∙◌}
use Rattle.std.proofs.lemmas.Bool.{both_ways}
use Rattle.vx_disk.specs.Shelf.{Goes, Lawful, Meaning, Nothing}
use Rattle.vx_config.specs.declared.config.Config.{Config}
use Rattle.vx_kept.specs.Cleans.{at_serial}
use Rattle.vx_kept.specs.Commits.{IsCommitted, Member}
use Rattle.vx_kept.specs.Finds.{AllAtOnce, FindsFrom, IsTryAmong, IsTryOf, NoConfiguration}
use Rattle.vx_kept.proofs.Findings.{first_tries, last_tries, newest_at, same_from, then_from, wider_from}
use Rattle.vx_kept.proofs.Trusting.{less_finds}
use Rattle.vx_group.specs.Finds.{CoreEnds, CoreFinds, FindsStill, GroupFinds, GroupImages, MissesOpenly, MoreUnsure}
use Rattle.vx_group.specs.Holding.{config_by, wide}
use Rattle.vx_group.specs.Stands.{InnerStands}
use Rattle.vx_group.proofs.SettleCalls.{idle_told, quiet_told, same_told, then_told}
use Rattle.vx_group.proofs.SettleFinds.{NoMoreLeft}
use Rattle.vx_group.specs.declared.group_core.Held.{Held}
use Rattle.vx_group.specs.declared.group_core.GroupCore.{GroupCore}
use Rattle.vx_group.specs.declared.inner.Inner.{Inner}

none_wide : (es : List Config) (m m' : Meaning) → FindsFrom NoConfiguration m m' → FindsFrom (IsTryAmong es) m m'
none_wide es m m' finds = wider_from NoConfiguration (IsTryAmong es) m m' finds (λ x none. absurd none)

-- ---- calls in a row

both_finds : (es fs : List Config) (m m1 m2 : Meaning) → FindsFrom (IsTryAmong es) m m1 → FindsFrom (IsTryAmong fs) m1 m2 → FindsFrom (IsTryAmong (es ++ fs)) m m2
both_finds es fs m m1 m2 one two = then_from (IsTryAmong (es ++ fs)) m m1 m2
    (wider_from (IsTryAmong es) (IsTryAmong (es ++ fs)) m m1 one (λ x it. first_tries es fs x it))
    (wider_from (IsTryAmong fs) (IsTryAmong (es ++ fs)) m1 m2 two (λ x it. last_tries es fs x it))

-- each image has a configuration that is the same under another serial
still_newest : (d e : Inner) (m1 m2 : Meaning) → AllAtOnce d.config m1 → FindsStill d e m1 m2 → AllAtOnce e.config m2
still_newest d e m1 m2 newest still = record {
  each = λ i x each is. elim (still.finds.each i x each is) [
    | inl left ↦ newest.each left.image x left.left left.found ∙ sym still.same
    | inr none ↦ absurd none
  ];
}

pub then_finds : (c d e : Inner) (m m1 m2 : Meaning) → CoreFinds c d m m1 → CoreFinds d e m1 m2 → CoreFinds c e m m2
then_finds c d e m m1 m2 one two = record {
  begun = one.begun ++ two.begun;
  finds = both_finds one.begun two.begun m m1 m2 one.finds two.finds;
  openly = λ was. two.openly (one.openly was);
  sure = λ was is. elim (two.sure (one.openly was) is) [
    | inl newest ↦ inl newest
    | inr still ↦ elim (one.sure was still.was) [
      | inl newest ↦ inl (still_newest d e m1 m2 newest still)
      | inr first ↦ inr (record { was = first.was; same = still.same ∙ first.same; finds = then_from NoConfiguration m m1 m2 first.finds still.finds })
    ]
  ];
}

pub ends_finds : (c d : Inner) (m m' : Meaning) → CoreEnds d m m' → CoreFinds c d m m'
ends_finds c d m m' ends = record { begun = ends.begun; finds = ends.finds; openly = λ was. ends.openly; sure = λ was is. inl (ends.newest is) }

pub before_ends : (d : Inner) (m m1 m2 : Meaning) → FindsFrom NoConfiguration m m1 → CoreEnds d m1 m2 → CoreEnds d m m2
before_ends d m m1 m2 first ends = record {
  begun = ends.begun;
  finds = then_from (IsTryAmong ends.begun) m m1 m2 (none_wide ends.begun m m1 first) ends.finds;
  openly = ends.openly;
  newest = ends.newest;
}

pub finds_ends : (c d e : Inner) (m m1 m2 : Meaning) → CoreFinds c d m m1 → CoreEnds e m1 m2 → CoreEnds e m m2
finds_ends c d e m m1 m2 one ends = record {
  begun = one.begun ++ ends.begun;
  finds = both_finds one.begun ends.begun m m1 m2 one.finds ends.finds;
  openly = ends.openly;
  newest = ends.newest;
}

pub ends_then : (d e : Inner) (m m1 m2 : Meaning) → CoreEnds d m m1 → CoreFinds d e m1 m2 → CoreEnds e m m2
ends_then d e m m1 m2 ends two = record {
  begun = ends.begun ++ two.begun;
  finds = both_finds ends.begun two.begun m m1 m2 ends.finds two.finds;
  openly = two.openly ends.openly;
  newest = λ is. elim (two.sure ends.openly is) [
    | inl newest ↦ newest
    | inr still ↦ still_newest d e m1 m2 (ends.newest still.was) still
  ];
}

-- behind a commit that followed a call, as one call
pub behind_finds : (c d e : Inner) (m m1 m2 : Meaning) → CoreFinds c d m m1 → CoreEnds e m1 m2 → CoreFinds c e m m2
behind_finds c d e m m1 m2 one ends = ends_finds c e m m2 (finds_ends c d e m m1 m2 one ends)

-- ---- one call

-- memory has the configuration that it had, and no image another one
pub stays_finds : (c d : Inner) (m m' : Meaning) → at_serial 0 d.config ≡ at_serial 0 c.config → d.committed ≡ c.committed → d.unsettled ≡ c.unsettled → FindsFrom NoConfiguration m m' → CoreFinds c d m m'
stays_finds c d m m' same committed unsettled finds = record {
  begun = [];
  finds = none_wide [] m m' finds;
  openly = λ was is. committed ∙ was (sym unsettled ∙ is);
  sure = λ was is. inr (record { was = sym committed ∙ is; same = same; finds = finds });
}

-- nothing is called
pub none_finds : (c : Inner) (m : Meaning) → CoreFinds c c m m
none_finds c m = stays_finds c c m m refl refl refl (same_from NoConfiguration m)

-- what a call leaves beside the configuration and these flags does not count
pub as_finds : (c d e : Inner) (m m' : Meaning) → e.config ≡ d.config → e.committed ≡ d.committed → e.unsettled ≡ d.unsettled → CoreFinds c d m m' → CoreFinds c e m m'
as_finds c d e m m' config committed unsettled goes =
    then_finds c d e m m' m' goes (stays_finds d e m' m' (ap (λ (x : Config). at_serial 0 x) config) committed unsettled (same_from NoConfiguration m'))

-- memory may have another configuration, of which nothing is said
pub open_finds : (c d : Inner) (m m' : Meaning) → (MissesOpenly c → d.committed ≡ false) → FindsFrom NoConfiguration m m' → CoreFinds c d m m'
open_finds c d m m' off finds = record {
  begun = [];
  finds = none_wide [] m m' finds;
  openly = λ was is. off was;
  sure = λ was is. absurd (both_ways d.committed (off was) is);
}

-- a commit that is done
pub done_ends : (a : Config) (d : Inner) (m m' : Meaning) → FindsFrom (IsTryOf a) m m' → d.unsettled ≡ false → IsCommitted d.config m' → CoreEnds d m m'
done_ends a d m m' tried settled committed = record {
  begun = a ∷ [];
  finds = wider_from (IsTryOf a) (IsTryAmong (a ∷ [])) m m' tried (λ x is. inl is);
  openly = λ is. absurd (both_ways d.unsettled settled is);
  newest = λ is. newest_at d.config m' committed;
}

-- one that is refused
pub left_ends : (a : Config) (d : Inner) (m m' : Meaning) → FindsFrom (IsTryOf a) m m' → d.committed ≡ false → CoreEnds d m m'
left_ends a d m m' tried off = record {
  begun = a ∷ [];
  finds = wider_from (IsTryOf a) (IsTryAmong (a ∷ [])) m m' tried (λ x is. inl is);
  openly = λ is. off;
  newest = λ is. absurd (both_ways d.committed off is);
}

-- calls that write nothing
pub quiet_finds : (m m' : Meaning) → Lawful m → Lawful m' → Goes Nothing m m' → FindsFrom NoConfiguration m m'
quiet_finds m m' law law' goes = less_finds m m' law law' goes.units goes.size goes.tells (λ u b v lt left. ⊎_elim (λ was. was) (λ none. absurd none) (goes.leaves u b v left))

-- ---- a whole group

pub still_group : (c : GroupCore) (m : Meaning) → GroupFinds c c m m
still_group c m = record { core = none_finds (wide c) m; settles = same_told (wide c) m; unsure = λ v is. is; free = λ none. none }

pub then_group : (c d e : GroupCore) (m m1 m2 : Meaning) → GroupFinds c d m m1 → GroupFinds d e m1 m2 → GroupFinds c e m m2
then_group c d e m m1 m2 one two = record {
  core = then_finds (wide c) (wide d) (wide e) m m1 m2 one.core two.core;
  settles = then_told (wide c) (wide d) (wide e) m m1 m2 one.settles two.settles;
  unsure = λ v is. one.unsure v (two.unsure v is);
  free = λ none. two.free (one.free none);
}

-- its configurations
pub images_of : (c d : GroupCore) (m m' : Meaning) → GroupFinds c d m m' → GroupImages c d m m'
images_of c d m m' finds = record { core = finds.core; free = finds.free }

pub still_images : (c : GroupCore) (m : Meaning) → GroupImages c c m m
still_images c m = images_of c c m m (still_group c m)

pub then_images : (c d e : GroupCore) (m m1 m2 : Meaning) → GroupImages c d m m1 → GroupImages d e m1 m2 → GroupImages c e m m2
then_images c d e m m1 m2 one two = record { core = then_finds (wide c) (wide d) (wide e) m m1 m2 one.core two.core; free = λ none. two.free (one.free none) }

-- no image has another configuration, and memory has what it had; no plex that is ACTIVE is written
pub idle_group : (c : GroupCore) (m m' : Meaning) → InnerStands (wide c) m → NoMoreLeft (wide c).config m m' → (IsTrue m.down → IsTrue m'.down) → FindsFrom NoConfiguration m m' → GroupFinds c c m m'
idle_group c m m' stands less falls finds = record {
  core = stays_finds (wide c) (wide c) m m' refl refl refl finds;
  settles = quiet_told (wide c) (wide c) m m' refl refl finds (Member (wide c).good m) stands.kept less falls;
  unsure = λ v is. is;
  free = λ none. none;
}

-- the same where marks of volumes changed
pub marked_group : (c d : GroupCore) (m m' : Meaning) → InnerStands (wide c) m → Goes Nothing m m' → d.inner.config ≡ c.inner.config → d.held ≡ c.held → d.inner.committed ≡ c.inner.committed → d.inner.unsettled ≡ c.inner.unsettled → MoreUnsure c.inner.unsure d.inner.unsure → FindsFrom NoConfiguration m m' → GroupFinds c d m m'
marked_group c d m m' stands goes config held committed unsettled more finds = record {
  settles =
      idle_told (wide c) (wide d) (Member (wide c).good m) m m' (ap (λ (x : Config). (config_by d.held x).serial) config ∙ ap (λ (o : Option Held). (config_by o c.inner.config).serial) held) unsettled stands.kept goes finds;
  core = stays_finds (wide c) (wide d) m m' (ap (λ (x : Config). at_serial 0 (config_by d.held x)) config ∙ ap (λ (o : Option Held). at_serial 0 (config_by o c.inner.config)) held) committed unsettled finds;
  unsure = more;
  free = λ none. held ∙ none;
}

-- behind calls on a group of which each image has the configuration in memory, each has it still where it is committed
pub newest_group : (c d : GroupCore) (m m' : Meaning) → c.held ≡ None → c.inner.unsettled ≡ false → AllAtOnce (wide c).config m → GroupFinds c d m m' → d.inner.committed ≡ true → AllAtOnce (wide d).config m'
newest_group c d m m' none settled newest finds is = elim (finds.core.sure (λ un. absurd (both_ways c.inner.unsettled settled un)) is) [
  | inl now ↦ now
  | inr still ↦ still_newest (wide c) (wide d) m m' newest still
]

-- the same where none misses a commit that is said to be made
pub newest_goes : (c d : GroupCore) (m m' : Meaning) → MissesOpenly (wide c) → (c.inner.committed ≡ true → AllAtOnce (wide c).config m) → CoreFinds (wide c) (wide d) m m' → d.inner.committed ≡ true → AllAtOnce (wide d).config m'
newest_goes c d m m' openly newest finds is = elim (finds.sure openly is) [
  | inl now ↦ now
  | inr still ↦ still_newest (wide c) (wide d) m m' (newest still.was) still
]
