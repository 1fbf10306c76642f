-- The places of links among those of their site.
use Rattle.std.proofs.Common.{◌≡◌, ◌∙◌, inl, inr, ◌⊎◌, ⊎_elim, ◌+◌, ◌-◌, ◌<◌, ◌≤◌, ℕ, zero, suc, List, length, Bool, true, false, ap, sym, subst, refl, arith, ◌++◌}
use Rattle.std.specs.Prelude.{Option, Some, None, eqb, nat_lt, if◌then◌else◌}
use Rattle.std.proofs.lemmas.Bool.Decides.{nat_tests}
use Rattle.vx_history.proofs.Updates.{all_updated, at_place, by_test, eqb_equal, eqb_self}
use Rattle.vx_history.specs.Events.{is_in_place, link_in_place, linked_sites, put_before}
use Rattle.vx_history.specs.Listed.{AreListed, HasPlaces, IsAmong, links_in}
use Rattle.vx_history.specs.Refusals.{how_many_below}
use Rattle.vx_history.specs.Sends.{is_linked, is_made}
use Rattle.vx_history.specs.World.{Link, World, updated}

-- ---- how many numbers a test holds of

one_or_none : (b : Bool) (k n : ℕ) → k ≤ n → (if b then 1 else 0) + k ≤ suc n
one_or_none true k n h = omega (arith, h)
one_or_none false k n h = omega (arith, h)

pub count_most : (n : ℕ) (test : ℕ → Bool) → how_many_below n test ≤ n
count_most zero test = omega arith
count_most (suc k) test = one_or_none (test k) (how_many_below k test) k (count_most k test)

pub count_same : (n : ℕ) (f g : ℕ → Bool) → ((k : ℕ) → k < n → g k ≡ f k) → how_many_below n g ≡ how_many_below n f
count_same zero f g same = refl
count_same (suc k) f g same =
    ap (λ (b : Bool). (if b then 1 else 0) + how_many_below k g) (same k (omega arith))
    ∙ ap (λ (m : ℕ). (if f k then 1 else 0) + m) (count_same k f g (λ i h. same i (omega (arith, h))))

abbrev one_by : Bool → ℕ
one_by b = if b then 1 else 0

-- one number more
count_more : (n s : ℕ) (f g : ℕ → Bool) → s < n → f s ≡ false → g s ≡ true → ((k : ℕ) → (k ≡ s → ⊥) → g k ≡ f k) → how_many_below n g ≡ suc (how_many_below n f)
count_more zero s f g h old new same = absurd (omega (arith, h))
count_more (suc k) s f g h old new same =
    by_test (λ (m : ℕ). (if g k then 1 else 0) + how_many_below k g ≡ suc ((if f k then 1 else 0) + how_many_below k f)) (eqb k s) 0 0
    (λ e.
    let at : k ≡ s = eqb_equal k s e in
    let was : f k ≡ false = subst (λ (i : ℕ). f i ≡ false) (sym at) old in
    let is : g k ≡ true = subst (λ (i : ℕ). g i ≡ true) (sym at) new in
    let rest : how_many_below k g ≡ how_many_below k f = count_same k f g (λ i below. same i (λ (is : i ≡ s). omega (arith, below, at, is))) in
    let one : one_by (g k) ≡ one_by true = ap one_by is in
    let none : one_by (f k) ≡ one_by false = ap one_by was in
    omega (arith, rest, one, none))
    (λ e.
    let apart : k ≡ s → ⊥ = not_equal k s e in
    let rest : how_many_below k g ≡ suc (how_many_below k f) = count_more k s f g (less s k h apart) old new same in
    let here : one_by (g k) ≡ one_by (f k) = ap one_by (same k apart) in
    omega (arith, rest, here))
  where
    not_equal : (a b : ℕ) → eqb a b ≡ false → a ≡ b → ⊥
    not_equal a b h e = grind (arith, nat_tests)

    less : (s k : ℕ) → s < suc k → (k ≡ s → ⊥) → s < k
    less s k h apart = grind arith

-- ---- the list by places

pub split_at : (a b : ℕ) → (a < b) ⊎ (b ≤ a)
split_at a b = by_test (λ (m : ℕ). (a < b) ⊎ (b ≤ a)) (nat_lt a b) 0 0 (λ e. inl (grind (arith, nat_tests))) (λ e. inr (grind (arith, nat_tests)))

at_own : (o : Option ℕ) (place : ℕ) → is_in_place o place ≡ true → o ≡ Some place
at_own None place e = absurd (cc)
at_own (Some k) place e = ap (λ (i : ℕ). let o : Option ℕ = Some i in o) (eqb_equal k place e)

own_place : (o : Option ℕ) (place : ℕ) → o ≡ Some place → is_in_place o place ≡ true
own_place o place e = ap (λ (x : Option ℕ). is_in_place x place) e ∙ eqb_self place

link_place : (o : Option ℕ) → is_made o ≡ true → (place : ℕ) × (o ≡ Some place)
link_place None e = absurd (cc)
link_place (Some k) e = (k, refl)

among_behind : (s : ℕ) (o : Option ℕ) (xs : List ℕ) → IsAmong s xs → IsAmong s (put_before o xs)
among_behind s None xs h = h
among_behind s (Some t) xs h = inr h

module _ (sites : ℕ) (row : ℕ → Link) (has : HasPlaces sites row) where
  abbrev count : ℕ
  count = links_in sites row

  some_there : (n s place : ℕ) → s < n → (row s).made ≡ Some place → link_in_place row place n ≡ Some s
  some_there zero s place h at = absurd (omega (arith, h))
  some_there (suc k) s place h at =
      by_test (λ (o : Option ℕ). o ≡ Some s) (is_in_place (row k).made place) (Some k) (link_in_place row place k)
      (λ e. ap (λ (i : ℕ). let o : Option ℕ = Some i in o) (has.apart k s place (at_own (row k).made place e) at))
      (λ e. some_there k s place (before (split_at s k) e) at)
    where
      before : (s < k) ⊎ (k ≤ s) → is_in_place (row k).made place ≡ false → s < k
      before (inl less) e = less
      before (inr more) e =
          let same : k ≡ s = omega (arith, h, more) in
          let own : is_in_place (row k).made place ≡ true = own_place (row k).made place (subst (λ (i : ℕ). (row i).made ≡ Some place) (sym same) at) in
          absurd (never (sym own ∙ e))
        where
          never : true ≡ false → ⊥
          never e = cc

  none_there : (n place : ℕ) → count ≤ place → link_in_place row place n ≡ None
  none_there zero place h = refl
  none_there (suc k) place h =
      by_test (λ (o : Option ℕ). o ≡ None) (is_in_place (row k).made place) (Some k) (link_in_place row place k)
      (λ e. let less : place < count = has.below k place (at_own (row k).made place e) in absurd (omega (arith, less, h)))
      (λ e. none_there k place h)

  listed_long : (places place : ℕ) → count ≤ place + places → length (linked_sites row sites place places) ≡ count - place
  listed_long zero place h = omega (arith, h)
  listed_long (suc k) place h =
      let rest : length (linked_sites row sites (place + 1) k) ≡ count - (place + 1) = listed_long k (place + 1) (omega (arith, h)) in
      ⊎_elim
      (λ (less : place < count).
      let there = has.filled place less in
      let found : link_in_place row place sites ≡ Some there.0 = some_there sites there.0 place (has.within there.0 (ap is_made there.1)) there.1 in
      let long : length (linked_sites row sites place (suc k)) ≡ suc (length (linked_sites row sites (place + 1) k)) = ap (λ (o : Option ℕ). length (put_before o (linked_sites row sites (place + 1) k))) found in
      omega (arith, long, rest, less))
      (λ (more : count ≤ place).
      let long : length (linked_sites row sites place (suc k)) ≡ length (linked_sites row sites (place + 1) k) = ap (λ (o : Option ℕ). length (put_before o (linked_sites row sites (place + 1) k))) (none_there sites place more) in
      omega (arith, long, rest, more))
      (split_at place count)

  among_listed : (places place s own : ℕ) → (row s).made ≡ Some own → place ≤ own → own < place + places → IsAmong s (linked_sites row sites place places)
  among_listed zero place s own at least less = absurd (omega (arith, least, less))
  among_listed (suc k) place s own at least less =
      ⊎_elim
      (λ (later : place < own). among_behind s (link_in_place row place sites) (linked_sites row sites (place + 1) k) (among_listed k (place + 1) s own at (omega (arith, later)) (omega (arith, less))))
      (λ (here : own ≤ place).
      let same : own ≡ place = omega (arith, least, here) in
      let found : link_in_place row place sites ≡ Some s = some_there sites s place (has.within s (ap is_made at)) (at ∙ ap (λ (i : ℕ). let o : Option ℕ = Some i in o) same) in
      subst (λ (o : Option ℕ). IsAmong s (put_before o (linked_sites row sites (place + 1) k))) (sym found) (inl refl))
      (split_at place own)

  pub links_listed : (s : ℕ) → is_linked (row s) ≡ true → IsAmong s (linked_sites row sites 0 sites)
  links_listed s linked =
      let own = link_place (row s).made linked in
      let below : own.0 < count = has.below s own.0 own.1 in
      let most : count ≤ sites = count_most sites (λ k. is_linked (row k)) in
      among_listed sites 0 s own.0 own.1 (omega arith) (omega (arith, below, most))

  pub links_counted : count ≡ length (linked_sites row sites 0 sites)
  links_counted =
      let most : count ≤ sites = count_most sites (λ k. is_linked (row k)) in
      let long : length (linked_sites row sites 0 sites) ≡ count - 0 = listed_long sites 0 (omega (arith, most)) in
      omega (arith, long)

-- each link has a place of its own among those of its site
pub all_listed : (w : World) → ((p : ℕ) → HasPlaces w.sites (w.links p)) → AreListed w
all_listed w has = record {
  each = λ p s below linked. links_listed w.sites (w.links p) (has p) s linked;
  count = λ p. links_counted w.sites (w.links p) (has p);
}

-- ---- changes of a row

-- links that are made, in the places in which they were
pub places_same : (sites : ℕ) (row new : ℕ → Link) → ((s : ℕ) → (new s).made ≡ (row s).made) → HasPlaces sites row → HasPlaces sites new
places_same sites row new same has =
    let count : links_in sites new ≡ links_in sites row = count_same sites (λ k. is_linked (row k)) (λ k. is_linked (new k)) (λ k below. ap is_made (same k)) in
    record {
      within = λ s linked. has.within s (ap is_made (sym (same s)) ∙ linked);
      below = λ s place at. let h : place < links_in sites row = has.below s place (sym (same s) ∙ at) in omega (arith, h, count);
      apart = λ s t place one two. has.apart s t place (sym (same s) ∙ one) (sym (same t) ∙ two);
      filled = λ place less. let there = has.filled place (omega (arith, less, count)) in (there.0, same there.0 ∙ there.1);
    }

-- a further site, to which no link goes yet
pub places_further : (sites : ℕ) (row : ℕ → Link) → HasPlaces sites row → HasPlaces (sites + 1) row
places_further sites row has =
    let free : is_linked (row sites) ≡ false = by_link (is_linked (row sites)) (λ is. let h : sites < sites = has.within sites is in omega (arith, h)) in
    let further : sites + 1 ≡ suc sites = omega arith in
    let none : 0 + links_in sites row ≡ links_in sites row = omega arith in
    let count : links_in (sites + 1) row ≡ links_in sites row = ap (λ (n : ℕ). links_in n row) further ∙ ap (λ (b : Bool). (if b then 1 else 0) + links_in sites row) free ∙ none in
    record {
      within = λ s linked. let h : s < sites = has.within s linked in omega (arith, h);
      below = λ s place at. let h : place < links_in sites row = has.below s place at in omega (arith, h, count);
      apart = has.apart;
      filled = λ place less. has.filled place (omega (arith, less, count));
    }
  where
    by_link : (b : Bool) → (b ≡ true → ⊥) → b ≡ false
    by_link true never = absurd (never refl)
    by_link false never = refl

-- a link that is made in the place behind the others
pub places_made : (sites : ℕ) (row : ℕ → Link) (s : ℕ) (l : Link) → s < sites → is_linked (row s) ≡ false → l.made ≡ Some (links_in sites row) → HasPlaces sites row → HasPlaces sites (updated row s l)
places_made sites row s l below free made has = record {
  within = all_updated (λ k (m : Link). is_linked m ≡ true → k < sites) row s l (λ linked. below) (λ k apart. has.within k);
  below = all_updated (λ k (m : Link). (place : ℕ) → m.made ≡ Some place → place < links_in sites new) row s l
      (λ place at. let e : place ≡ links_in sites row = sym (one_place (sym made ∙ at)) in omega (arith, e, count))
      (λ k apart place at. let h : place < links_in sites row = has.below k place at in omega (arith, h, count));
  apart = λ a b place one two. meets a b place (at_new a place one) (at_new b place two);
  filled = λ place less. ⊎_elim
      (λ (old : place < links_in sites row).
      let there = has.filled place old in
      (there.0, ap (λ (m : Link). m.made) (other there.0 (λ (at : there.0 ≡ s). taken there.0 at (ap is_made there.1))) ∙ there.1))
      (λ (last : links_in sites row ≤ place).
      let e : links_in sites row ≡ place = omega (arith, last, less, count) in
      (s, ap (λ (m : Link). m.made) (at_place row s l) ∙ made ∙ ap (λ (i : ℕ). let o : Option ℕ = Some i in o) e))
      (split_at place (links_in sites row));
}
  where
    new : ℕ → Link
    new = updated row s l

    one_place : {a b : ℕ} → Some a ≡ Some b → a ≡ b
    one_place e = cc

    other : (k : ℕ) → (k ≡ s → ⊥) → updated row s l k ≡ row k
    other k apart = by_test (λ (m : Link). m ≡ row k) (eqb k s) l (row k) (λ e. absurd (apart (eqb_equal k s e))) (λ e. refl)

    taken : (k : ℕ) → k ≡ s → is_linked (row k) ≡ true → ⊥
    taken k at linked = let f : is_linked (row k) ≡ false = subst (λ (i : ℕ). is_linked (row i) ≡ false) (sym at) free in never (sym linked ∙ f)
      where
        never : true ≡ false → ⊥
        never e = cc

    count : links_in sites (updated row s l) ≡ suc (links_in sites row)
    count =
        count_more sites s (λ k. is_linked (row k)) (λ k. is_linked (updated row s l k)) below free
        (ap is_linked (at_place row s l) ∙ ap is_made made) (λ k apart. ap is_linked (other k apart))

    -- a place of the new row: the new link's, or that of an old one
    at_new : (k place : ℕ) → (updated row s l k).made ≡ Some place → ((k ≡ s) × (place ≡ links_in sites row)) ⊎ ((row k).made ≡ Some place)
    at_new k place at =
        all_updated (λ i (m : Link). m.made ≡ Some place → ((i ≡ s) × (place ≡ links_in sites row)) ⊎ ((row i).made ≡ Some place)) row s l
        (λ at. inl (refl, sym (one_place (sym made ∙ at)))) (λ i apart at. inr at) k at

    meets : (a b place : ℕ) → ((a ≡ s) × (place ≡ links_in sites row)) ⊎ ((row a).made ≡ Some place) → ((b ≡ s) × (place ≡ links_in sites row)) ⊎ ((row b).made ≡ Some place) → a ≡ b
    meets a b place (inl one) (inl two) = one.0 ∙ sym two.0
    meets a b place (inl one) (inr two) = absurd (let h : place < links_in sites row = has.below b place two in omega (arith, h, one.1))
    meets a b place (inr one) (inl two) = absurd (let h : place < links_in sites row = has.below a place one in omega (arith, h, two.1))
    meets a b place (inr one) (inr two) = has.apart a b place one two

pub in_place_same : (row new : ℕ → Link) → ((k : ℕ) → (new k).made ≡ (row k).made) → (place sites : ℕ) → link_in_place new place sites ≡ link_in_place row place sites
in_place_same row new same place zero = refl
in_place_same row new same place (suc k) =
    ap (λ (m : Option ℕ). if is_in_place m place then Some k else link_in_place new place k) (same k)
    ∙ ap (λ (o : Option ℕ). if is_in_place (row k).made place then Some k else o) (in_place_same row new same place k)

pub before_more : (o : Option ℕ) (xs ys : List ℕ) → put_before o (xs ++ ys) ≡ put_before o xs ++ ys
before_more None xs ys = refl
before_more (Some s) xs ys = refl
