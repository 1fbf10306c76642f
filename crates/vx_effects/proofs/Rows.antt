-- The links of a row in the order of their making, of rows that are alike.
use Rattle.std.proofs.Common.{◌≡◌, ◌∙◌, inl, inr, ◌+◌, ◌≤◌, ℕ, zero, suc, List, [], ◌∷◌, Bool, true, false, ap, sym, subst, refl, arith}
use Rattle.std.specs.Prelude.{Option, Some, None, if◌then◌else◌}
use Rattle.vx_history.proofs.Places.{count_most, in_place_same}
use Rattle.vx_history.proofs.Updates.{all_updated, eqb_equal}
use Rattle.vx_history.specs.Events.{is_in_place, link_in_place, link_left, linked_sites, lost_touch, put_before, restarted_link}
use Rattle.vx_history.specs.KeptLinks.{kept_link, kept_links, kept_mode, kept_start}
use Rattle.vx_history.specs.Listed.{HasPlaces, IsAmong, links_in}
use Rattle.vx_events.proofs.Places.{never_some, some_same}
use Rattle.vx_history.specs.Sends.{is_linked, is_made}
use Rattle.vx_history.specs.World.{Link, Node, updated}
use Rattle.vx_model.specs.declared.link.Mode.{Mode}
use Rattle.vx_model.specs.declared.state.KeptLink.{KeptLink}
use Rattle.vx_model.proofs.Tests.{by_bool}
use Rattle.vx_order.specs.declared.facts.LinkFacts.{LinkFacts}
use Rattle.vx_events.specs.LinkedFacts.{link_fact, link_facts}
use Rattle.vx_events.specs.LinksFit.{RowFits}
use Rattle.vx_effects.proofs.Links.{mode_same}

-- ---- which links there are goes by their places alone

pub sites_same : (row new : ℕ → Link) → ((k : ℕ) → (new k).made ≡ (row k).made) → (sites place k : ℕ) → linked_sites new sites place k ≡ linked_sites row sites place k
sites_same row new same sites place zero = refl
sites_same row new same sites place (suc k) =
    ap (λ (o : Option ℕ). put_before o (linked_sites new sites (place + 1) k)) (in_place_same row new same place sites)
    ∙ ap (put_before (link_in_place row place sites)) (sites_same row new same sites (place + 1) k)

pub made_same : (row : ℕ → Link) (s : ℕ) (l : Link) → l.made ≡ (row s).made → (k : ℕ) → (updated row s l k).made ≡ (row k).made
made_same row s l same k = all_updated (λ (j : ℕ) (x : Link). x.made ≡ (row j).made) row s l same (λ j apart. refl) k

-- ---- no site is named twice

abbrev pub AreApart : List ℕ → Type 0
AreApart [] = Unit {0}
AreApart (s ∷ ss) = (IsAmong s ss → ⊥) × AreApart ss

place_at : (made : Option ℕ) (place : ℕ) → is_in_place made place ≡ true → made ≡ Some place
place_at None place e = absurd (cc)
place_at (Some k) place e = ap (λ (j : ℕ). Some j) (eqb_equal k place e)

picked_at : (row : ℕ → Link) (place sites s : ℕ) → link_in_place row place sites ≡ Some s → (row s).made ≡ Some place
picked_at row place zero s e = absurd (never_some e)
picked_at row place (suc k) s e = by (is_in_place (row k).made place) (place_at (row k).made place) (λ is. picked_at row place k s is) e
  where
    by : (b : Bool) → (b ≡ true → (row k).made ≡ Some place) → (link_in_place row place k ≡ Some s → (row s).made ≡ Some place)
        → (if b then Some k else link_in_place row place k) ≡ Some s → (row s).made ≡ Some place
    by true there more is = subst (λ (j : ℕ). (row j).made ≡ Some place) (some_same is) (there refl)
    by false there more is = more is

-- each link of the list was made in this place or in a later one
pub placed : (row : ℕ → Link) (sites place k t : ℕ) → IsAmong t (linked_sites row sites place k) → (j : ℕ) × ((row t).made ≡ Some j) × (place ≤ j)
placed row sites place zero t h = absurd h
placed row sites place (suc k) t h =
    by (link_in_place row place sites) (λ s is. picked_at row place sites s is)
    (λ more. let r = placed row sites (place + 1) k t more in (r.0, r.1, omega (arith, r.2))) h
  where
    by : (o : Option ℕ) → ((s : ℕ) → o ≡ Some s → (row s).made ≡ Some place) → (IsAmong t (linked_sites row sites (place + 1) k) → (j : ℕ) × ((row t).made ≡ Some j) × (place ≤ j))
        → IsAmong t (put_before o (linked_sites row sites (place + 1) k)) → (j : ℕ) × ((row t).made ≡ Some j) × (place ≤ j)
    by None there more among = more among
    by (Some s) there more (inl same) = (place, ap (λ (i : ℕ). (row i).made) same ∙ there s refl, omega arith)
    by (Some s) there more (inr rest) = more rest

pub apart : (row : ℕ → Link) (sites place k : ℕ) → AreApart (linked_sites row sites place k)
apart row sites place zero = tt
apart row sites place (suc k) = by (link_in_place row place sites) (λ s is. picked_at row place sites s is) (apart row sites (place + 1) k)
  where
    by : (o : Option ℕ) → ((s : ℕ) → o ≡ Some s → (row s).made ≡ Some place) → AreApart (linked_sites row sites (place + 1) k) → AreApart (put_before o (linked_sites row sites (place + 1) k))
    by None there more = more
    by (Some s) there more = (
      λ among.
          let r = placed row sites (place + 1) k s among in
          let e : Some place ≡ Some r.0 = sym (there s refl) ∙ r.1 in
          let same : place ≡ r.0 = some_same e in
          omega (arith, r.2, same),
      more,
    )

-- ---- a further site, to which no link goes

module _ (sites : ℕ) (row : ℕ → Link) (has : HasPlaces sites row) where
  made_none : (made : Option ℕ) (place : ℕ) → is_made made ≡ false → is_in_place made place ≡ false
  made_none None place e = refl
  made_none (Some k) place e = absurd (cc)

  made_at : (made : Option ℕ) (place : ℕ) → is_in_place made place ≡ true → made ≡ Some place
  made_at None place e = absurd (cc)
  made_at (Some k) place e = ap (λ (j : ℕ). Some j) (eqb_equal k place e)

  unlinked : is_linked (row sites) ≡ false
  unlinked = by_bool (is_linked (row sites)) (λ is. let h : suc sites ≤ sites = has.within sites is in absurd (omega (arith, h))) (λ is. is)

  place_further : (place : ℕ) → link_in_place row place (suc sites) ≡ link_in_place row place sites
  place_further place = ap (λ (b : Bool). if b then Some sites else link_in_place row place sites) (made_none (row sites).made place unlinked)

  none_beyond : (n place : ℕ) → links_in sites row ≤ place → link_in_place row place n ≡ None
  none_beyond zero place h = refl
  none_beyond (suc k) place h =
      by_bool (is_in_place (row k).made place)
      (λ is. let less : suc place ≤ links_in sites row = has.below k place (made_at (row k).made place is) in absurd (omega (arith, less, h)))
      (λ is. ap (λ (b : Bool). if b then Some k else link_in_place row place k) is ∙ none_beyond k place h)

  listed_further : (place k : ℕ) → linked_sites row (suc sites) place k ≡ linked_sites row sites place k
  listed_further place zero = refl
  listed_further place (suc k) =
      ap (λ (o : Option ℕ). put_before o (linked_sites row (suc sites) (place + 1) k)) (place_further place)
      ∙ ap (put_before (link_in_place row place sites)) (listed_further (place + 1) k)

  one_more : (place k : ℕ) → links_in sites row ≤ place + k → linked_sites row sites place (suc k) ≡ linked_sites row sites place k
  one_more place zero h = ap (λ (o : Option ℕ). put_before o []) (none_beyond sites place (omega (arith, h)))
  one_more place (suc k) h = ap (put_before (link_in_place row place sites)) (one_more (place + 1) k (omega (arith, h)))

  pub sites_further : linked_sites row (sites + 1) 0 (sites + 1) ≡ linked_sites row sites 0 sites
  sites_further =
      let more : sites + 1 ≡ suc sites = omega arith in
      let most : links_in sites row ≤ sites = count_most sites (λ k. is_linked (row k)) in
      ap (λ (n : ℕ). linked_sites row n 0 n) more ∙ listed_further 0 (suc sites) ∙ one_more 0 sites (omega (arith, most))

-- ---- facts of links, and what a header keeps of them

pub facts_same : (n : Node) (row new : ℕ → Link) → ((k : ℕ) → new k ≡ row k) → (ss : List ℕ) → link_facts n new ss ≡ link_facts n row ss
facts_same n row new same [] = refl
facts_same n row new same (s ∷ ss) =
    ap (λ (l : Link). link_fact n s l ∷ link_facts n new ss) (same s) ∙ ap (λ (fs : List LinkFacts). link_fact n s (row s) ∷ fs) (facts_same n row new same ss)

pub kept_same : (row new : ℕ → Link) → ((k : ℕ) → kept_link k (new k) ≡ kept_link k (row k)) → (ss : List ℕ) → kept_links new ss ≡ kept_links row ss
kept_same row new same [] = refl
kept_same row new same (s ∷ ss) = ap (λ k. k ∷ kept_links new ss) (same s) ∙ ap (λ ks. kept_link s (row s) ∷ ks) (kept_same row new same ss)

-- rows of the same places, of whose links the header keeps the same
pub listed_same : (row new : ℕ → Link) (sites : ℕ) → ((k : ℕ) → (new k).made ≡ (row k).made) → ((k : ℕ) → kept_link k (new k) ≡ kept_link k (row k))
    → kept_links new (linked_sites new sites 0 sites) ≡ kept_links row (linked_sites row sites 0 sites)
listed_same row new sites made kept = ap (kept_links new) (sites_same row new made sites 0 sites) ∙ kept_same row new kept (linked_sites row sites 0 sites)

pub row_same : (row new : ℕ → Link) (sites : ℕ) → ((k : ℕ) → new k ≡ row k) → kept_links new (linked_sites new sites 0 sites) ≡ kept_links row (linked_sites row sites 0 sites)
row_same row new sites same = listed_same row new sites (λ k. ap (λ (l : Link). l.made) (same k)) (λ k. ap (kept_link k) (same k))

-- a crash
pub touch_kept : (row : ℕ → Link) (sites : ℕ)
    → kept_links (λ k. lost_touch (row k)) (linked_sites (λ k. lost_touch (row k)) sites 0 sites) ≡ kept_links row (linked_sites row sites 0 sites)
touch_kept row sites = listed_same row (λ k. lost_touch (row k)) sites (λ k. refl) (λ k. refl)

-- so does a crash, whatever is marked in their maps
pub left_kept : (n : Node) (j : ℕ) (row : ℕ → Link) (sites : ℕ)
    → kept_links (λ k. link_left n j (row k)) (linked_sites (λ k. link_left n j (row k)) sites 0 sites) ≡ kept_links row (linked_sites row sites 0 sites)
left_kept n j row sites = listed_same row (λ k. link_left n j (row k)) sites (λ k. refl) (λ k. refl)

-- a site that comes up
module _ (n : Node) (p sites : ℕ) (row : ℕ → Link) (fit : RowFits p sites row) where
  with_mode : (k : ℕ) → Mode → KeptLink
  with_mode k m = record (kept_link k (row k)) { mode = kept_mode m; start = kept_start m }

  restarted_one : (k : ℕ) → kept_link k (restarted_link n k (row k)) ≡ kept_link k (row k)
  unfolding with_mode
  restarted_one k =
      by_bool (is_linked (row k)) (λ is. ap (with_mode k) (mode_same (row k).mode (fit.plain k is).mode))
      (λ is. ap (λ (l : Link). kept_link k (restarted_link n k l)) (fit.none k is) ∙ sym (ap (kept_link k) (fit.none k is)))

  pub restarted_kept : kept_links (λ k. restarted_link n k (row k)) (linked_sites (λ k. restarted_link n k (row k)) sites 0 sites) ≡ kept_links row (linked_sites row sites 0 sites)
  restarted_kept = listed_same row (λ k. restarted_link n k (row k)) sites (λ k. refl) restarted_one
