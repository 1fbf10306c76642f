-- The disk sets of two sites within their yard: one of them is changed after the other.
use Rattle.std.proofs.Common.{◌≡◌, ◌∙◌, ◌<◌, ℕ, zero, suc, List, [], ◌∷◌, length, ap, sym, subst, refl}
use Rattle.std.specs.Prelude.{Some, slice_get, slice_set}
use Rattle.std.proofs.lemmas.Option.{slice_get_within}
use Rattle.vx_disk.specs.declared.shelf.Shelf.{Ghosts}
use Rattle.vx_diskset.specs.Asked.{HeadUnder}
use Rattle.vx_diskset.specs.declared.disk_set.DiskSet.{DiskSet}
use Rattle.vx_diskset.proofs.ThenUnder.{then_under}
use Rattle.vx_events.proofs.Places.{some_same}
use Rattle.vx_events.specs.declared.said.Said.{Said}
use Rattle.vx_events.specs.declared.said.Said.TheVariants.{Done, Refused}
use Rattle.vx_model.specs.declared.no.No.{No}
use Rattle.vx_model.proofs.Lists.{get_there}
use Rattle.vx_yard.specs.BothSites.{BothSites, LinkBurns, LinkBreaks, AtJoined, AtMade, AtMarked, AtOpened}
use Rattle.vx_yard.specs.OfSites.{OfSite}
use Rattle.vx_yard.specs.declared.yard.Yard.{Yard}
use Rattle.vx_yard.proofs.Lists.{get-set_other, get-set_same, length-set, set_same, set_twice}

-- two places are set in either order
pub set_apart : {A : Type 0} (xs : List A) (i j : ℕ) (x y : A) → (i ≡ j → ⊥) → slice_set (slice_set xs i x) j y ≡ slice_set (slice_set xs j y) i x
set_apart [] i j x y apart = refl
set_apart (z ∷ xs) zero zero x y apart = absurd (apart refl)
set_apart (z ∷ xs) zero (suc j) x y apart = refl
set_apart (z ∷ xs) (suc i) zero x y apart = refl
set_apart (z ∷ xs) (suc i) (suc j) x y apart = ap (λ ys. z ∷ ys) (set_apart xs i j x y (λ e. apart (ap suc e)))

-- of two disk sets, as each was and is
abbrev pub OnTwo : (R : Type 0) → Ghosts R → Type 1
OnTwo R g = (first first' second second' : DiskSet R g) → Type 0

module _ {R : Type 0} {g : Ghosts R} where
  -- nothing was done
  pub both_still : (Did : OnTwo R g) (p s : ℕ) (y : Yard R g) → p < length y.disk_sets.items → s < length y.disk_sets.items → ((a b : DiskSet R g) → Did a a b b) → BothSites Did p s y y
  both_still Did p s y below below_too none =
      let a = get_there y.disk_sets.items p below in
      let b = get_there y.disk_sets.items s below_too in
      let one : slice_set y.disk_sets.items p a.0 ≡ y.disk_sets.items = set_same y.disk_sets.items p a.0 a.1 in
      record {
        first = a.0;
        first_new = a.0;
        second = b.0;
        second_new = b.0;
        there = a.1;
        there_too = b.1;
        disk_sets = sym (ap (λ es. slice_set es s b.0) one ∙ set_same y.disk_sets.items s b.0 b.1);
        did = none a.0 b.0;
      }

  module _ (Did Then : OnTwo R g) (E : DiskSet R g → DiskSet R g → Type 0) (p s : ℕ) (apart : p ≡ s → ⊥) (old mid new : Yard R g) (both : BothSites Did p s old mid) where
    -- the second one was changed
    pub at_second : OfSite E s mid new → ((a a' b b' c : DiskSet R g) → Did a a' b b' → E b' c → Then a a' b c) → BothSites Then p s old new
    at_second of join =
        let xs : List (DiskSet R g) = slice_set old.disk_sets.items p both.first_new in
        let below : s < length xs = subst (λ (k : ℕ). s < k) (sym (length-set old.disk_sets.items p both.first_new)) (slice_get_within old.disk_sets.items s both.second both.there_too) in
        let found : slice_get mid.disk_sets.items s ≡ Some both.second_new = ap (λ es. slice_get es s) both.disk_sets ∙ get-set_same xs s both.second_new below in
        let here : of.before ≡ both.second_new = some_same (sym of.there ∙ found) in
        record {
          first = both.first;
          first_new = both.first_new;
          second = both.second;
          second_new = of.after;
          there = both.there;
          there_too = both.there_too;
          disk_sets = of.disk_sets ∙ ap (λ es. slice_set es s of.after) both.disk_sets ∙ set_twice xs s both.second_new of.after;
          did = join both.first both.first_new both.second both.second_new of.after both.did (subst (λ (e : DiskSet R g). E e of.after) here of.did);
        }

    -- the first one was changed
    pub at_first : OfSite E p mid new → ((a a' b b' c : DiskSet R g) → Did a a' b b' → E a' c → Then a c b b') → BothSites Then p s old new
    at_first of join =
        let xs : List (DiskSet R g) = old.disk_sets.items in
        let below : p < length xs = slice_get_within xs p both.first both.there in
        let found : slice_get mid.disk_sets.items p ≡ Some both.first_new =
        ap (λ es. slice_get es p) both.disk_sets ∙ get-set_other (slice_set xs p both.first_new) s p both.second_new apart ∙ get-set_same xs p both.first_new below in
        let here : of.before ≡ both.first_new = some_same (sym of.there ∙ found) in
        record {
          first = both.first;
          first_new = of.after;
          second = both.second;
          second_new = both.second_new;
          there = both.there;
          there_too = both.there_too;
          disk_sets = of.disk_sets
              ∙ ap (λ es. slice_set es p of.after) (both.disk_sets ∙ sym (set_apart xs s p both.second_new both.first_new (λ e. apart (sym e))))
              ∙ set_twice (slice_set xs s both.second_new) p both.first_new of.after
              ∙ set_apart xs s p both.second_new of.after (λ e. apart (sym e));
          did = join both.first both.first_new both.second both.second_new of.after both.did (subst (λ (e : DiskSet R g). E e of.after) here of.did);
        }

  -- what is known of them, as more is not
  pub both_as : (Did Then : OnTwo R g) (p s : ℕ) (old new : Yard R g) → ((a a' b b' : DiskSet R g) → Did a a' b b' → Then a a' b b') → BothSites Did p s old new → BothSites Then p s old new
  both_as Did Then p s old new wider both = record {
    first = both.first;
    first_new = both.first_new;
    second = both.second;
    second_new = both.second_new;
    there = both.there;
    there_too = both.there_too;
    disk_sets = both.disk_sets;
    did = wider both.first both.first_new both.second both.second_new both.did;
  }

  -- ---- the parts of a line that makes a link

  abbrev pub UnderJoined : Said → OnTwo R g
  UnderJoined said a a' b b' = (a' ≡ a) × HeadUnder 2 said b b'

  abbrev pub UnderMade : Said → OnTwo R g
  UnderMade said a a' b b' = HeadUnder 2 said a a' × HeadUnder 2 Done b b'

  abbrev pub UnderMarked : Said → OnTwo R g
  UnderMarked said a a' b b' = HeadUnder 2 Done a a' × HeadUnder 4 said b b'

  abbrev pub UnderOpened : Said → OnTwo R g
  UnderOpened said a a' b b' = HeadUnder 4 said a a' × HeadUnder 4 Done b b'

  module _ (p s : ℕ) (apart : p ≡ s → ⊥) where
    pub under_joined : (said : Said) (old new : Yard R g) → p < length old.disk_sets.items → s < length old.disk_sets.items → OfSite (HeadUnder 2 said) s old new → BothSites (UnderJoined said) p s old new
    under_joined said old new below below_too of =
        at_second (λ a a' b b'. (a' ≡ a) × (b' ≡ b)) (UnderJoined said) (HeadUnder 2 said) p s apart old old new
        (both_still (λ a a' b b'. (a' ≡ a) × (b' ≡ b)) p s old below below_too (λ a b. (refl, refl))) of
        (λ a a' b b' c did head. (did.0, subst (λ (e : DiskSet R g). HeadUnder 2 said e c) did.1 head))

    pub under_made : (said : Said) (old mid new : Yard R g) → BothSites (UnderJoined Done) p s old mid → OfSite (HeadUnder 2 said) p mid new → BothSites (UnderMade said) p s old new
    under_made said old mid new both of =
        at_first (UnderJoined Done) (UnderMade said) (HeadUnder 2 said) p s apart old mid new both of
        (λ a a' b b' c did head. (subst (λ (e : DiskSet R g). HeadUnder 2 said e c) did.0 head, did.1))

    pub under_marked : (said : Said) (old mid new : Yard R g) → BothSites (UnderMade Done) p s old mid → OfSite (HeadUnder 2 said) s mid new → BothSites (UnderMarked said) p s old new
    under_marked said old mid new both of =
        at_second (UnderMade Done) (UnderMarked said) (HeadUnder 2 said) p s apart old mid new both of (λ a a' b b' c did head. (did.0, then_under 2 2 said b b' c did.1 head))

    pub under_opened : (said : Said) (old mid new : Yard R g) → BothSites (UnderMarked Done) p s old mid → OfSite (HeadUnder 2 said) p mid new → BothSites (UnderOpened said) p s old new
    under_opened said old mid new both of =
        at_first (UnderMarked Done) (UnderOpened said) (HeadUnder 2 said) p s apart old mid new both of (λ a a' b b' c did head. (then_under 2 2 said a a' c did.0 head, did.1))

  -- ---- the line

  burns_so : (said : Said) (why : No) (a a' b b' : DiskSet R g) → said ≡ Refused why → LinkBreaks said a a' b b' → LinkBurns said a a' b b'
  burns_so said why a a' b b' is stops =
      subst (λ (x : Said). LinkBurns x a a' b b') (sym is) (subst (λ (x : Said). LinkBreaks x a a' b b') is stops)

  module _ (p s : ℕ) (said : Said) (why : No) (is : said ≡ Refused why) (old new : Yard R g) where
    pub stops_joined : BothSites (UnderJoined said) p s old new → BothSites (LinkBurns said) p s old new
    stops_joined both = both_as (UnderJoined said) (LinkBurns said) p s old new (λ a a' b b' did. burns_so said why a a' b b' is (AtJoined did.0 did.1)) both

    pub stops_made : BothSites (UnderMade said) p s old new → BothSites (LinkBurns said) p s old new
    stops_made both = both_as (UnderMade said) (LinkBurns said) p s old new (λ a a' b b' did. burns_so said why a a' b b' is (AtMade did.0 did.1)) both

    pub stops_marked : BothSites (UnderMarked said) p s old new → BothSites (LinkBurns said) p s old new
    stops_marked both = both_as (UnderMarked said) (LinkBurns said) p s old new (λ a a' b b' did. burns_so said why a a' b b' is (AtMarked did.0 did.1)) both

    pub stops_opened : BothSites (UnderOpened said) p s old new → BothSites (LinkBurns said) p s old new
    stops_opened both = both_as (UnderOpened said) (LinkBurns said) p s old new (λ a a' b b' did. burns_so said why a a' b b' is (AtOpened did.0 did.1)) both

  -- all parts are done
  pub link_burns : (p s : ℕ) (old new : Yard R g) → BothSites (UnderOpened Done) p s old new → BothSites (LinkBurns Done) p s old new
  link_burns p s old new both = both_as (UnderOpened Done) (LinkBurns Done) p s old new (λ a a' b b' did. did) both
