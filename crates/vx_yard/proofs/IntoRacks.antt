-- The racks as they come back from their disk sets.
use Rattle.std.proofs.Common.{◌≡◌, ◌∙◌, ◌++◌, ◌≤◌, inl, ℕ, zero, suc, List, [], ◌∷◌, length, ap, append_assoc, sym, subst, refl, arith, IsTrue, true, false}
use Rattle.std.specs.Prelude.{Option, Some, None, drop, map, reverse, slice_get, take}
use Rattle.std.proofs.lemmas.List.{append-nil, reverse-append, reverse-reverse}
use Rattle.std.specs.Option.{option_and_then}
use Rattle.vx_history.specs.World.{Node}
use Rattle.vx_model.specs.declared.site.SiteState.TheVariants.{Bare as IsBare, Up as IsUp, Down as IsDown}
use Rattle.vx_model.specs.declared.site.SiteState.{SiteState}
use Rattle.vx_model.specs.declared.call.Update.{Update}
use Rattle.vx_model.specs.Content.{Content, Write, fold_writes}
use Rattle.vx_disk.specs.Shelf.{Meaning, Lawful}
use Rattle.vx_disk.specs.declared.shelf.Shelf.{Ghosts}
use Rattle.vx_diskset.specs.Lasts.{FoundWith, LeftWith}
use Rattle.vx_rvg.specs.Views.{Core}
use Rattle.vx_diskset.specs.declared.disk_set.DiskSet.{DiskSet}
use Rattle.vx_diskset.specs.declared.disk_set.DiskSet.TheVariants.{Bare, Spoiled, Up, Receives, Down, OfGroup, Over, Gone}
use Rattle.vx_diskset.specs.Aboves.{below_site, site_in}
use Rattle.vx_diskset.specs.declared.over_set.OverSite.{OverSite}
use Rattle.vx_diskset.specs.declared.over_set.OverSite.TheVariants.{Origin as OverOrigin, Receiver as OverReceiver, Deported as OverAway, Down as OverFell, Gone as NoOver}
use Rattle.vx_diskset.proofs.GroupStands.{none_apart}
use Rattle.vx_diskset.specs.Holds.{KeptBeside, HoldsSite, most_header, state_with, beside_of}
use Rattle.vx_history.specs.Doubts.{Doubted}
use Rattle.vx_yard.specs.Holds.{GroupsHold, HoldsGroup, RacksHold, RacksTell, rack_count, rack_faults}
use Rattle.vx_untold.specs.Shades.{shade_meaning, rack_of as shaded}
use Rattle.vx_untold.specs.declared.shade.Shade.{Shade}
use Rattle.vx_untold.specs.declared.shade.Shade.TheVariants.{Bright, Dark}
use Rattle.vx_yard.proofs.HoldsGroups.{set_holds}
use Rattle.vx_yard.proofs.OverGroup.{apart_bare, bare_apart, both_ways, over_is}
use Rattle.vx_diskset.specs.Layouts.{units_of}
use Rattle.vx_yard.specs.Racks.{rack_in, racks_in, site_rack}
use Rattle.vx_yard.specs.Stands.{AreTold, fault_count, site_faults}
use Rattle.vx_grouped.specs.GroupSites.{GroupSiteStands, site_below, site_disks}
use Rattle.vx_grouped.specs.declared.group_site.GroupSite.{GroupSite}
use Rattle.vx_grouped.specs.declared.group_site.GroupSite.TheVariants.{Up as GroupUp, Deported as GroupAway, Down as GroupDown, Marked, Gone as GroupGone}
use Rattle.vx_history.specs.Groups.{GroupNode}
use Rattle.vx_events.specs.GroupLines.{is_over_group}
use Rattle.vx_diskset.specs.Stands.{IsGroupSet, IsUnused, IsBareAt, IsUpAt, IsReceiverAt, IsDownAt, IsRackTold, OverStands, SiteStands}
use Rattle.vx_events.proofs.Places.{some_same}
use Rattle.vx_diskset.specs.Stands.{IsUnfitted}
use Rattle.vx_yard.specs.Standing.{SitesAgree}
use Rattle.vx_diskset.proofs.CrashGroup.{left_with}
use Rattle.vx_diskset.proofs.StaysUp.{all_taken, durable_content, told_now}
use Rattle.std.proofs.lemmas.Bool.{cases_lt}
use Rattle.std.proofs.Common.{⊎_elim}
use Rattle.vx_diskset.proofs.Laying.{units_raw}
use Rattle.vx_model.specs.declared.units.Units.{Units}

never_both : {x : SiteState} → x ≡ IsUp → x ≡ IsDown → ⊥
never_both a b = let e : IsUp ≡ IsDown = sym a ∙ b in cc

-- a site that is up
up_holds : {beside : KeptBeside} (n : Node) (c : Core) (m : Meaning) → IsUpAt beside n c m → HoldsSite beside n m
up_holds n c m up = record { up = λ _ i now. up.left i now; down = λ down. absurd (never_both up.state down) }

-- a site that receives
receiver_holds : {beside : KeptBeside} (n : Node) (c : Core) (us : List Update) (m : Meaning) → IsReceiverAt beside n c us m → HoldsSite beside n m
receiver_holds n c us m up = record { up = λ _ i now. up.left i now; down = λ down. absurd (never_both up.state down) }

-- a site that is down
down_holds : {beside : KeptBeside} (n : Node) (m : Meaning) → Lawful m → IsDownAt beside n m → HoldsSite beside n m
down_holds {beside} n m lawful is = record {
  up = λ up. absurd (never_both up is.state);
  down = λ _ i now. inl (record {
    count = n.safe;
    least = omega arith;
    most = omega (arith, is.logged);
    found = subst (λ (xs : List Write). FoundWith (units_of n) n.ring (state_with n beside.links) n.session (most_header beside n) i xs (fold_writes n.base (drop n.safe (take n.safe n.log)))) (all_taken n is.logged)
        (subst (λ (c : Content). FoundWith (units_of n) n.ring (state_with n beside.links) n.session (most_header beside n) i n.log c) (durable_content n)
        (left_with (units_of n) n.ring (state_with n beside.links) n.session (most_header beside n) n.log n.base m i lawful now
        (subst (λ (u : Units). LeftWith u n.ring (state_with n beside.links) n.session (most_header beside n) n.log n.base m) (sym (units_raw n is.raw)) (is.left (told_now m i lawful now)))));
  });
}

-- nothing is made of a bare site
bare_has : {beside : KeptBeside} (n : Node) (m : Meaning) → n.state ≡ IsBare → HoldsSite beside n m
bare_has n m state = record {
  up = λ up. absurd (let e : IsBare ≡ IsUp = sym state ∙ up in cc);
  down = λ down. absurd (let e : IsBare ≡ IsDown = sym state ∙ down in cc);
}

bare_holds : {beside : KeptBeside} (n : Node) (m : Meaning) → IsBareAt n m → HoldsSite beside n m
bare_holds n m bare = bare_has n m (ap (λ (k : Node). k.state) bare.is)

bright_as : (k note : GroupNode) → Some k ≡ Some note → note.dark ≡ false → k.dark ≡ false
bright_as k note same bright = ap (λ (x : GroupNode). x.dark) (some_same same) ∙ bright

-- one more of the last of a list has its image behind the others
pub put_more : {A B : Type 0} (f : A → B) (sets new : List B) (racks rest : List A) (r : A) → racks ≡ rest ++ r ∷ [] → new ≡ sets ++ f r ∷ [] → new ++ map f (reverse rest) ≡ sets ++ map f (reverse racks)
put_more {A} {B} f sets new racks rest r front is =
    ap (λ (xs : List B). xs ++ map f (reverse rest)) is ∙ append_assoc sets (f r ∷ []) (map f (reverse rest))
    ∙ ap (λ (ys : List A). sets ++ map f ys) (sym (ap (λ (ys : List A). reverse ys) front ∙ reverse-append rest (r ∷ [])))

-- none has come yet
pub put_first : {A B : Type 0} (f : A → B) (sets : List B) (racks rest : List A) → sets ≡ [] → rest ≡ reverse racks → sets ++ map f (reverse rest) ≡ map f racks
put_first {A} {B} f sets racks rest none is =
    ap (λ (xs : List B). xs ++ map f (reverse rest)) none ∙ ap (λ (ys : List A). map f ys) (ap (λ (ys : List A). reverse ys) is ∙ reverse-reverse racks)

-- none is left
pub put_all : {A B : Type 0} (f : A → B) (sets : List B) (racks all : List A) → racks ≡ [] → sets ++ map f (reverse racks) ≡ map f all → sets ≡ map f all
put_all {A} {B} f sets racks all none whole = sym (append-nil sets) ∙ sym (ap (λ (rs : List A). sets ++ map f (reverse rs)) none) ∙ whole

module _ {R : Type 0} (meaning : R → Meaning) where
  -- a rack that is seen as it is or as one that tells nothing has the same counts
  shade_faults : (s : Shade R) (d : ℕ) → (meaning (shaded s)).disk_faults d ≡ (shade_meaning meaning s).disk_faults d
  shade_faults (Bright rack) d = refl
  shade_faults (Dark rack) d = refl

  -- one that tells its contents is seen as it is
  shade_told : (s : Shade R) → IsTrue (shade_meaning meaning s).tells → shade_meaning meaning s ≡ meaning (shaded s)
  shade_told (Bright rack) tells = refl
  shade_told (Dark rack) tells = absurd (let e : false ≡ true = tells in cc)

module _ {R : Type 0} {g : Ghosts R} where
  -- ---- those of a group

  abbrev rack_at : GroupSite R g → Option R
  rack_at (GroupUp laid) = Some (shaded laid.shelf)
  rack_at (GroupAway idle) = Some (shaded idle.rack)
  rack_at (GroupDown idle) = Some (shaded idle.rack)
  rack_at (Marked rack) = Some rack
  rack_at GroupGone = None

  abbrev IsAt : GroupSite R g → Type 0
  IsAt (GroupUp group) = Unit {0}
  IsAt (GroupAway rack) = Unit {0}
  IsAt (GroupDown rack) = Unit {0}
  IsAt (Marked rack) = Unit {0}
  IsAt GroupGone = ⊥

  first_at : (s : GroupSite R g) (rs : List R) → IsAt s → slice_get (site_rack s ++ rs) zero ≡ rack_at s
  first_at (GroupUp group) rs there = refl
  first_at (GroupAway rack) rs there = refl
  first_at (GroupDown rack) rs there = refl
  first_at (Marked rack) rs there = refl
  first_at GroupGone rs there = absurd there

  more_at : (s : GroupSite R g) (rs : List R) (k : ℕ) → IsAt s → slice_get (site_rack s ++ rs) (suc k) ≡ slice_get rs k
  more_at (GroupUp group) rs k there = refl
  more_at (GroupAway rack) rs k there = refl
  more_at (GroupDown rack) rs k there = refl
  more_at (Marked rack) rs k there = refl
  more_at GroupGone rs k there = absurd there

  long_at : (s : GroupSite R g) (rs : List R) → IsAt s → length (site_rack s ++ rs) ≡ suc (length rs)
  long_at (GroupUp group) rs there = refl
  long_at (GroupAway rack) rs there = refl
  long_at (GroupDown rack) rs there = refl
  long_at (Marked rack) rs there = refl
  long_at GroupGone rs there = absurd there

  few_at : (s : GroupSite R g) → length (site_rack s) ≤ 1
  few_at (GroupUp group) = omega arith
  few_at (GroupAway rack) = omega arith
  few_at (GroupDown rack) = omega arith
  few_at (Marked rack) = omega arith
  few_at GroupGone = omega arith

  count_at : (s : GroupSite R g) (d : ℕ) → rack_count g.meaning (rack_at s) d ≡ (site_disks s).disk_faults d
  count_at (GroupUp laid) d = shade_faults g.meaning laid.shelf d
  count_at (GroupAway idle) d = shade_faults g.meaning idle.rack d
  count_at (GroupDown idle) d = shade_faults g.meaning idle.rack d
  count_at (Marked rack) d = refl
  count_at GroupGone d = refl

  -- those of which contents are told are seen as they are
  disks_at : (s : GroupSite R g) (r : R) → IsTrue (site_disks s).tells → rack_at s ≡ Some r → site_disks s ≡ g.meaning r
  disks_at (GroupUp laid) r tells is = shade_told g.meaning laid.shelf tells ∙ ap g.meaning (some_same is)
  disks_at (GroupAway idle) r tells is = shade_told g.meaning idle.rack tells ∙ ap g.meaning (some_same is)
  disks_at (GroupDown idle) r tells is = shade_told g.meaning idle.rack tells ∙ ap g.meaning (some_same is)
  disks_at (Marked rack) r tells is = ap g.meaning (some_same is)
  disks_at GroupGone r tells is = absurd (cc)

  -- what is told of the rack that comes back was told of it before
  told_at : (n : Node) (s : GroupSite R g) → GroupSiteStands n s → ((r : R) → rack_at s ≡ Some r → IsTrue (g.meaning r).tells) → IsTrue (site_below s).tells
  told_at n (GroupUp laid) it f = f (shaded laid.shelf) refl
  told_at n (GroupAway idle) it f = f (shaded idle.rack) refl
  told_at n (GroupDown idle) it f = f (shaded idle.rack) refl
  told_at n (Marked rack) it f = f rack refl
  told_at n GroupGone it f = absurd it

  -- where it is known what they hold, contents are told of the disks as the group sees them
  lit_at : (n : Node) (s : GroupSite R g) (note : GroupNode) → GroupSiteStands n s → (n.state ≡ IsBare → ⊥) → n.group ≡ Some note → note.dark ≡ false → IsTrue (site_below s).tells → IsTrue (site_disks s).tells
  lit_at n (GroupUp laid) note (k, it) made noted bright tells = it.lit (bright_as k note (sym it.noted.is ∙ noted) bright) tells
  lit_at n (GroupAway idle) note (k, it) made noted bright tells = it.lit (bright_as k note (sym it.noted.is ∙ noted) bright) tells
  lit_at n (GroupDown idle) note (k, it) made noted bright tells = it.lit (bright_as k note (sym it.noted.is ∙ noted) bright) tells
  lit_at n (Marked rack) note it made noted bright tells = absurd (made it.state)
  lit_at n GroupGone note it made noted bright tells = absurd it

  stood_at : (n : Node) (s : GroupSite R g) → GroupSiteStands n s → IsAt s
  stood_at n (GroupUp group) h = tt
  stood_at n (GroupAway rack) h = tt
  stood_at n (GroupDown rack) h = tt
  stood_at n (Marked rack) h = tt
  stood_at n GroupGone h = h

  -- ---- those of any disk set

  abbrev rack_of : DiskSet R g → Option R
  rack_of (Bare rack) = Some rack
  rack_of (Spoiled rack) = Some rack
  rack_of (Up rvg) = Some rvg.shelf
  rack_of (Receives s) = Some s.rvg.shelf
  rack_of (Down rack) = Some rack
  rack_of (OfGroup s) = rack_at s.site
  rack_of (Over s) = rack_at (site_in s)
  rack_of Gone = None

  abbrev IsThere : DiskSet R g → Type 0
  IsThere (Bare rack) = Unit {0}
  IsThere (Spoiled rack) = Unit {0}
  IsThere (Up rvg) = Unit {0}
  IsThere (Receives s) = Unit {0}
  IsThere (Down rack) = Unit {0}
  IsThere (OfGroup s) = IsAt s.site
  IsThere (Over s) = IsAt (site_in s)
  IsThere Gone = ⊥

  abbrev AllThere : List (DiskSet R g) → Type 0
  AllThere [] = Unit {0}
  AllThere (e ∷ es) = IsThere e × AllThere es

  all_there : (es : List (DiskSet R g)) → ((s : ℕ) (e : DiskSet R g) → slice_get es s ≡ Some e → IsThere e) → AllThere es
  all_there [] f = tt
  all_there (e ∷ es) f = (f zero e refl, all_there es (λ s e' h. f (suc s) e' h))

  slice_get-racks_in : (es : List (DiskSet R g)) → AllThere es → (s : ℕ) → slice_get (racks_in es) s ≡ option_and_then rack_of (slice_get es s)
  slice_get-racks_in [] all s = refl
  slice_get-racks_in (Bare rack ∷ es) all zero = refl
  slice_get-racks_in (Spoiled rack ∷ es) all zero = refl
  slice_get-racks_in (Up rvg ∷ es) all zero = refl
  slice_get-racks_in (Receives s ∷ es) all zero = refl
  slice_get-racks_in (Down rack ∷ es) all zero = refl
  slice_get-racks_in (OfGroup s ∷ es) all zero = first_at s.site (racks_in es) all.0
  slice_get-racks_in (Over s ∷ es) all zero = first_at (site_in s) (racks_in es) all.0
  slice_get-racks_in (Gone ∷ es) all zero = absurd all.0
  slice_get-racks_in (Bare rack ∷ es) all (suc s) = slice_get-racks_in es all.1 s
  slice_get-racks_in (Spoiled rack ∷ es) all (suc s) = slice_get-racks_in es all.1 s
  slice_get-racks_in (Up rvg ∷ es) all (suc s) = slice_get-racks_in es all.1 s
  slice_get-racks_in (Receives site ∷ es) all (suc s) = slice_get-racks_in es all.1 s
  slice_get-racks_in (Down rack ∷ es) all (suc s) = slice_get-racks_in es all.1 s
  slice_get-racks_in (OfGroup set ∷ es) all (suc s) = more_at set.site (racks_in es) s all.0 ∙ slice_get-racks_in es all.1 s
  slice_get-racks_in (Over set ∷ es) all (suc s) = more_at (site_in set) (racks_in es) s all.0 ∙ slice_get-racks_in es all.1 s
  slice_get-racks_in (Gone ∷ es) all (suc s) = absurd all.0

  length-racks_in : (es : List (DiskSet R g)) → AllThere es → length (racks_in es) ≡ length es
  length-racks_in [] all = refl
  length-racks_in (Bare rack ∷ es) all = ap suc (length-racks_in es all.1)
  length-racks_in (Spoiled rack ∷ es) all = ap suc (length-racks_in es all.1)
  length-racks_in (Up rvg ∷ es) all = ap suc (length-racks_in es all.1)
  length-racks_in (Receives s ∷ es) all = ap suc (length-racks_in es all.1)
  length-racks_in (Down rack ∷ es) all = ap suc (length-racks_in es all.1)
  length-racks_in (OfGroup s ∷ es) all = long_at s.site (racks_in es) all.0 ∙ ap suc (length-racks_in es all.1)
  length-racks_in (Over s ∷ es) all = long_at (site_in s) (racks_in es) all.0 ∙ ap suc (length-racks_in es all.1)
  length-racks_in (Gone ∷ es) all = absurd all.0

  unused_there : (e : DiskSet R g) → IsUnused e → IsThere e
  unused_there (Bare rack) h = tt
  unused_there (Spoiled rack) h = tt
  unused_there (Up rvg) h = tt
  unused_there (Receives s) h = tt
  unused_there (Down rack) h = tt
  unused_there (OfGroup s) h = absurd h
  unused_there (Over s) h = absurd h
  unused_there Gone h = h

  counts_as : (x : Option (DiskSet R g)) (d : ℕ) → rack_count g.meaning (option_and_then rack_of x) d ≡ fault_count x d
  counts_as None d = refl
  counts_as (Some (Bare rack)) d = refl
  counts_as (Some (Spoiled rack)) d = refl
  counts_as (Some (Up rvg)) d = refl
  counts_as (Some (Receives s)) d = refl
  counts_as (Some (Down rack)) d = refl
  counts_as (Some (OfGroup s)) d = count_at s.site d
  counts_as (Some (Over s)) d = count_at (site_in s) d
  counts_as (Some Gone) d = refl

  -- the rack of a number that no site has
  unused_holds : (x : Option (DiskSet R g)) (r : R) → ((e : DiskSet R g) → x ≡ Some e → IsUnused e) → option_and_then rack_of x ≡ Some r → IsUnfitted (g.meaning r)
  unused_holds None r unused is = absurd (cc)
  unused_holds (Some (Bare rack)) r unused is = subst (λ (k : R). IsUnfitted (g.meaning k)) (some_same is) (unused (Bare rack) refl)
  unused_holds (Some (Spoiled rack)) r unused is = absurd (unused (Spoiled rack) refl)
  unused_holds (Some (Up rvg)) r unused is = absurd (unused (Up rvg) refl)
  unused_holds (Some (Receives s)) r unused is = absurd (unused (Receives s) refl)
  unused_holds (Some (Down rack)) r unused is = absurd (unused (Down rack) refl)
  unused_holds (Some (OfGroup s)) r unused is = absurd (unused (OfGroup s) refl)
  unused_holds (Some (Over s)) r unused is = absurd (unused (Over s) refl)
  unused_holds (Some Gone) r unused is = absurd (unused Gone refl)

  unused_tells : (e : DiskSet R g) → IsUnused e → ((r : R) → rack_of e ≡ Some r → IsTrue (g.meaning r).tells) → IsRackTold e
  unused_tells (Bare rack) there f = f rack refl
  unused_tells (Spoiled rack) there f = absurd there
  unused_tells (Up rvg) there f = absurd there
  unused_tells (Receives s) there f = absurd there
  unused_tells (Down rack) there f = absurd there
  unused_tells (OfGroup s) there f = absurd there
  unused_tells (Over s) there f = absurd there
  unused_tells Gone there f = absurd there

  -- those below a replicated volume group
  over_there : (beside : KeptBeside) (n : Node) (s : OverSite R g) → OverStands beside n s → IsAt (below_site s)
  over_there beside n (OverOrigin f) it = tt
  over_there beside n (OverReceiver f) it = tt
  over_there beside n (OverAway idle) it = tt
  over_there beside n (OverFell idle) it = tt
  over_there beside n NoOver it = it

  below_at : (s : GroupSite R g) → IsAt s → ((r : R) → rack_at s ≡ Some r → IsTrue (g.meaning r).tells) → IsTrue (site_below s).tells
  below_at (GroupUp laid) it f = f (shaded laid.shelf) refl
  below_at (GroupAway idle) it f = f (shaded idle.rack) refl
  below_at (GroupDown idle) it f = f (shaded idle.rack) refl
  below_at (Marked rack) it f = f rack refl
  below_at GroupGone it f = absurd it

  tells_at : (beside : KeptBeside) (n : Node) (e : DiskSet R g) → SiteStands beside n e → ((r : R) → rack_of e ≡ Some r → IsTrue (g.meaning r).tells) → IsRackTold e
  tells_at beside n (Bare rack) there f = f rack refl
  tells_at beside n (Spoiled rack) there f = f rack refl
  tells_at beside n (Up rvg) there f = f rvg.shelf refl
  tells_at beside n (Receives s) there f = f s.rvg.shelf refl
  tells_at beside n (Down rack) there f = f rack refl
  tells_at beside n (OfGroup s) there f = told_at n s.site there.stands f
  tells_at beside n (Over s) there f = below_at (site_in s) (over_there beside n s.site there.1) f
  tells_at beside n Gone there f = absurd there

  -- ---- sites that may keep links and be in doubt

  stood_there : (beside : KeptBeside) (n : Node) (e : DiskSet R g) → SiteStands beside n e → IsThere e
  stood_there beside n (Bare rack) h = tt
  stood_there beside n (Spoiled rack) h = tt
  stood_there beside n (Up rvg) h = tt
  stood_there beside n (Receives s) h = tt
  stood_there beside n (Down rack) h = tt
  stood_there beside n (OfGroup s) h = stood_at n s.site h.stands
  stood_there beside n (Over s) h = over_there beside n s.site h.1
  stood_there beside n Gone h = h

  agree_there : (d : Doubted) (es : List (DiskSet R g)) → SitesAgree d es → (s : ℕ) (e : DiskSet R g) → slice_get es s ≡ Some e → IsThere e
  agree_there d es agree s e at =
      ⊎_elim (λ below. stood_there (beside_of d s) (d.world.nodes s) e (agree.sites s e below at)) (λ past. unused_there e (agree.others s e past at)) (cases_lt s d.world.sites)

  beside_holds : (lawful : (r : R) → Lawful (g.meaning r)) (beside : KeptBeside) (n : Node) (x : Option (DiskSet R g)) (r : R) → n.group ≡ None → ((e : DiskSet R g) → x ≡ Some e → SiteStands beside n e) → option_and_then rack_of x ≡ Some r → HoldsSite beside n (g.meaning r)
  beside_holds lawful beside n None r none stands is = absurd (cc)
  beside_holds lawful beside n (Some (Bare rack)) r none stands is =
      subst (λ (k : R). HoldsSite beside n (g.meaning k)) (some_same is) (bare_holds n (g.meaning rack) (stands (Bare rack) refl).bare)
  beside_holds lawful beside n (Some (Spoiled rack)) r none stands is =
      subst (λ (k : R). HoldsSite beside n (g.meaning k)) (some_same is) (bare_holds n (g.meaning rack) (stands (Spoiled rack) refl))
  beside_holds lawful beside n (Some (Up rvg)) r none stands is =
      subst (λ (k : R). HoldsSite beside n (g.meaning k)) (some_same is) (up_holds n rvg.core (g.meaning rvg.shelf) (stands (Up rvg) refl).1)
  beside_holds lawful beside n (Some (Receives s)) r none stands is =
      subst (λ (k : R). HoldsSite beside n (g.meaning k)) (some_same is) (receiver_holds n s.rvg.core s.waiting (g.meaning s.rvg.shelf) (stands (Receives s) refl).1)
  beside_holds lawful beside n (Some (Down rack)) r none stands is =
      subst (λ (k : R). HoldsSite beside n (g.meaning k)) (some_same is) (down_holds n (g.meaning rack) (lawful rack) (stands (Down rack) refl))
  beside_holds lawful beside n (Some (OfGroup s)) r none stands is =
      bare_has {beside = beside} n (g.meaning r) (apart_bare beside n s (stands (OfGroup s) refl) (none_apart n none))
  beside_holds lawful beside n (Some (Over s)) r none stands is = absurd ((stands (Over s) refl).0.0 none)
  beside_holds lawful beside n (Some Gone) r none stands is = absurd (cc)

  beside_group : (lawful : (r : R) → Lawful (g.meaning r)) (beside : KeptBeside) (n : Node) (x : Option (DiskSet R g)) (r : R) (note : GroupNode) → is_over_group n ≡ true → n.group ≡ Some note → note.dark ≡ false → ((e : DiskSet R g) → x ≡ Some e → IsRackTold e)
      → ((e : DiskSet R g) → x ≡ Some e → SiteStands beside n e) → option_and_then rack_of x ≡ Some r → HoldsGroup note (g.meaning r)
  beside_group lawful beside n None r note over noted bright told stands is = absurd (cc)
  beside_group lawful beside n (Some e) r note over noted bright told stands is =
      let of = over_is beside n e (stands e refl) over in
      let it : IsGroupSet beside n of.0 = subst (λ (k : DiskSet R g). SiteStands beside n k) of.1 (stands e refl) in
      subst (λ (m : Meaning). HoldsGroup note m) (disks_at of.0.site r (lit_at n of.0.site note it.stands (λ bare. both_ways over (bare_apart n (it.bare bare))) noted bright (subst (λ (k : DiskSet R g). IsRackTold k) of.1 (told e refl))) (ap (λ (k : DiskSet R g). rack_of k) (sym of.1) ∙ is)) (set_holds lawful beside n of.0 note it over noted bright)

  pub racks_keep : (lawful : (r : R) → Lawful (g.meaning r)) (d : Doubted) (es : List (DiskSet R g)) → SitesAgree d es → RacksHold g.meaning d (racks_in es)
  racks_keep lawful d es agree =
      let there = all_there es (agree_there d es agree) in
      record {
        eight = length-racks_in es there ∙ agree.eight;
        each = λ s r below none at. beside_holds lawful (beside_of d s) (d.world.nodes s) (slice_get es s) r none (λ e is. agree.sites s e below is) (sym (slice_get-racks_in es there s) ∙ at);
        others = λ s r past at. unused_holds (slice_get es s) r (λ e is. agree.others s e past is) (sym (slice_get-racks_in es there s) ∙ at);
      }

  pub groups_hold : (lawful : (r : R) → Lawful (g.meaning r)) (d : Doubted) (es : List (DiskSet R g)) → SitesAgree d es → AreTold es → GroupsHold g.meaning d (racks_in es)
  groups_hold lawful d es agree told =
      let there = all_there es (agree_there d es agree) in
      record {
        each = λ s r note below over noted bright at.
            beside_group lawful (beside_of d s) (d.world.nodes s) (slice_get es s) r note over noted bright (λ e is. told.each s e is) (λ e is. agree.sites s e below is) (sym (slice_get-racks_in es there s) ∙ at);
      }

  pub racks_counted : (d : Doubted) (es : List (DiskSet R g)) → SitesAgree d es → (s u : ℕ) → rack_faults g.meaning (racks_in es) s u ≡ site_faults es s u
  racks_counted d es agree s u = ap (λ (r : Option R). rack_count g.meaning r u) (slice_get-racks_in es (all_there es (agree_there d es agree)) s) ∙ counts_as (slice_get es s) u

  pub racks_told : (d : Doubted) (es : List (DiskSet R g)) → SitesAgree d es → RacksTell g.meaning (racks_in es) → AreTold es
  racks_told d es agree tell = record { each = each }
    where
      found : (s : ℕ) (e : DiskSet R g) → slice_get es s ≡ Some e → (r : R) → rack_of e ≡ Some r → IsTrue (g.meaning r).tells
      found s e at r is = tell.each s r (slice_get-racks_in es (all_there es (agree_there d es agree)) s ∙ ap (λ (x : Option (DiskSet R g)). option_and_then rack_of x) at ∙ is)

      each : (s : ℕ) (e : DiskSet R g) → slice_get es s ≡ Some e → IsRackTold e
      each s e at = ⊎_elim
          (λ below. tells_at (beside_of d s) (d.world.nodes s) e (agree.sites s e below at) (found s e at))
          (λ past. unused_tells e (agree.others s e past at) (found s e at))
          (cases_lt s d.world.sites)

  -- one disk set gives one rack at most
  pub rack_few : (e : DiskSet R g) → length (rack_in e) ≤ 1
  rack_few (Bare rack) = omega arith
  rack_few (Spoiled rack) = omega arith
  rack_few (Up rvg) = omega arith
  rack_few (Receives s) = omega arith
  rack_few (Down rack) = omega arith
  rack_few (OfGroup s) = few_at s.site
  rack_few (Over s) = few_at (site_in s)
  rack_few Gone = omega arith

  -- all were given back
  pub given_all : (racks : List R) (sets all : List (DiskSet R g)) → sets ≡ [] → racks ++ racks_in (reverse sets) ≡ racks_in all → racks ≡ racks_in all
  given_all racks sets all none whole = sym (append-nil racks) ∙ sym (ap (λ (es : List (DiskSet R g)). racks ++ racks_in (reverse es)) none) ∙ whole

  pub given_first : (racks : List R) (sets rest : List (DiskSet R g)) → racks ≡ [] → rest ≡ reverse sets → racks ++ racks_in (reverse rest) ≡ racks_in sets
  given_first racks sets rest none is =
      ap (λ (xs : List R). xs ++ racks_in (reverse rest)) none
      ∙ ap (λ (es : List (DiskSet R g)). racks_in es) (ap (λ (es : List (DiskSet R g)). reverse es) is ∙ reverse-reverse sets)

  pub given_back : (racks new : List R) (sets rest : List (DiskSet R g)) (e : DiskSet R g) → sets ≡ rest ++ e ∷ [] → new ≡ racks ++ rack_in e → new ++ racks_in (reverse rest) ≡ racks ++ racks_in (reverse sets)
  given_back racks new sets rest e front is =
      ap (λ (xs : List R). xs ++ racks_in (reverse rest)) is
      ∙ append_assoc racks (rack_in e) (racks_in (reverse rest))
      ∙ ap (λ (es : List (DiskSet R g)). racks ++ racks_in es) (sym (ap (λ (es : List (DiskSet R g)). reverse es) front ∙ reverse-append rest (e ∷ [])))
