-- What the tests of a line see, and the header of a log keeps, of a row in which a link changed or was made, and of a site that joined a line.
use Rattle.std.proofs.Common.{◌≡◌, ◌∙◌, inl, inr, ◌⊎◌, ⊎_elim, ◌+◌, ◌<◌, ◌≤◌, ℕ, zero, suc, List, [], ◌∷◌, ◌++◌, Bool, true, false, ap, sym, refl, arith}
use Rattle.std.specs.Prelude.{Option, Some, None, eqb, if◌then◌else◌}
use Rattle.vx_model.specs.declared.site.Mark.{Mark}
use Rattle.vx_model.specs.declared.site.SiteState.{SiteState}
use Rattle.vx_model.specs.declared.site.SiteState.TheVariants.{Bare, Up, Deported, Down}
use Rattle.vx_model.specs.declared.state.KeptLink.{KeptLink}
use Rattle.vx_history.proofs.Places.{before_more, count_most, places_made, split_at}
use Rattle.vx_history.proofs.Updates.{all_updated, at_place, by_test, eqb_equal, eqb_self}
use Rattle.vx_history.specs.Events.{is_in_place, joined, link_in_place, linked_sites, put_before}
use Rattle.vx_history.specs.KeptLinks.{kept_link, kept_links}
use Rattle.vx_history.specs.Listed.{HasPlaces, IsAmong, links_in}
use Rattle.vx_history.specs.Sends.{is_linked, is_made}
use Rattle.vx_history.specs.World.{Link, Node, updated}
use Rattle.vx_order.specs.declared.facts.LinkFacts.{LinkFacts}
use Rattle.vx_order.specs.declared.facts.RvgFacts.{RvgFacts}
use Rattle.vx_order.specs.declared.facts.SiteFacts.{SiteFacts}
use Rattle.vx_events.specs.Facts.{group_by}
use Rattle.vx_events.specs.LinkedFacts.{link_fact, link_facts, links_by, seen_fact}
use Rattle.vx_events.proofs.Steps.{not_made}
use Rattle.vx_effects.specs.Facts.{fact_of, marked_fact, marked_group}
use Rattle.vx_effects.specs.LinkParts.{further_fact, joined_fact, joined_group, kept_over}
use Rattle.vx_effects.proofs.Facts.{with_parts}
use Rattle.vx_effects.proofs.Fitting.{updated_other}
use Rattle.vx_effects.proofs.Rows.{made_same, placed, sites_same}

-- ---- a link that changed

one_over : (row : ℕ → Link) (s : ℕ) (l : Link) (t : ℕ) → kept_link t (updated row s l t) ≡ (if eqb t s then kept_link s l else kept_link t (row t))
one_over row s l t = by (eqb t s) (eqb_equal t s)
  where
    by : (b : Bool) → (b ≡ true → t ≡ s) → kept_link t (if b then l else row t) ≡ (if b then kept_link s l else kept_link t (row t))
    by true same = ap (λ (k : ℕ). kept_link k l) (same refl)
    by false same = refl

each_over : (row : ℕ → Link) (s : ℕ) (l : Link) (ss : List ℕ) → kept_links (updated row s l) ss ≡ kept_over (kept_link s l) (kept_links row ss)
each_over row s l [] = refl
each_over row s l (t ∷ ts) =
    ap (λ (x : KeptLink). x ∷ kept_links (updated row s l) ts) (one_over row s l t)
    ∙ ap (λ (xs : List KeptLink). (if eqb t s then kept_link s l else kept_link t (row t)) ∷ xs) (each_over row s l ts)

pub changed_kept : (row : ℕ → Link) (sites s : ℕ) (l : Link) → l.made ≡ (row s).made
    → kept_links (updated row s l) (linked_sites (updated row s l) sites 0 sites) ≡ kept_over (kept_link s l) (kept_links row (linked_sites row sites 0 sites))
changed_kept row sites s l same =
    ap (kept_links (updated row s l)) (sites_same row (updated row s l) (made_same row s l same) sites 0 sites) ∙ each_over row s l (linked_sites row sites 0 sites)

-- ---- a link that was made

in_own : (made : Option ℕ) (place : ℕ) → is_in_place made place ≡ true → made ≡ Some place
in_own None place e = absurd (cc)
in_own (Some k) place e = ap (λ (i : ℕ). let o : Option ℕ = Some i in o) (eqb_equal k place e)

place_apart : (a b : ℕ) → (b ≡ a → ⊥) → eqb a b ≡ false
place_apart a b apart = by (eqb a b) (λ e. sym (eqb_equal a b e))
  where
    by : (c : Bool) → (c ≡ true → b ≡ a) → c ≡ false
    by true same = absurd (apart (same refl))
    by false same = refl

-- where no place from here on has a link
none_listed : (row : ℕ → Link) (sites place k : ℕ) → ((j : ℕ) → place ≤ j → link_in_place row j sites ≡ None) → linked_sites row sites place k ≡ []
none_listed row sites place zero none = refl
none_listed row sites place (suc k) none =
    ap (λ (o : Option ℕ). put_before o (linked_sites row sites (place + 1) k)) (none place (omega arith)) ∙ none_listed row sites (place + 1) k (λ j least. none j (omega (arith, least)))

module _ (sites : ℕ) (row : ℕ → Link) (s : ℕ) (l : Link) (has : HasPlaces sites row) (below : s < sites) (free : is_linked (row s) ≡ false) (made : l.made ≡ Some (links_in sites row)) where
  abbrev new : ℕ → Link
  new = updated row s l

  abbrev count : ℕ
  count = links_in sites row

  has_new : HasPlaces sites new
  has_new = places_made sites row s l below free made has

  own_made : (new s).made ≡ Some count
  own_made = ap (λ (m : Link). m.made) (at_place row s l) ∙ made

  count_less : count < sites
  count_less =
      let in_row : count < links_in sites new = has_new.below s count own_made in
      let most : links_in sites new ≤ sites = count_most sites (λ k. is_linked (new k)) in
      omega (arith, in_row, most)

  -- in any other place stands the link that stood there
  place_other : (n place : ℕ) → (place ≡ count → ⊥) → link_in_place new place n ≡ link_in_place row place n
  place_other zero place apart = refl
  place_other (suc k) place apart =
      ap (λ (b : Bool). if b then Some k else link_in_place new place k) (same k) ∙ ap (λ (o : Option ℕ). if is_in_place (row k).made place then Some k else o) (place_other k place apart)
    where
      here : is_in_place l.made place ≡ is_in_place (row s).made place
      here = ap (λ (m : Option ℕ). is_in_place m place) made ∙ place_apart count place apart ∙ sym (not_made (row s).made place free)

      same : (j : ℕ) → is_in_place (new j).made place ≡ is_in_place (row j).made place
      same = all_updated (λ (j : ℕ) (x : Link). is_in_place x.made place ≡ is_in_place (row j).made place) row s l here (λ j _. refl)

  -- and in its own stands the new one
  place_own : (n : ℕ) → s < n → link_in_place new count n ≡ Some s
  place_own zero h = absurd (omega (arith, h))
  place_own (suc k) h =
      by_test (λ (o : Option ℕ). o ≡ Some s) (is_in_place (new k).made count) (Some k) (link_in_place new count k)
      (λ e. ap (λ (i : ℕ). let o : Option ℕ = Some i in o) (has_new.apart k s count (in_own (new k).made count e) own_made))
      (λ e. place_own k (less e))
    where
      less : is_in_place (new k).made count ≡ false → s < k
      less e = ⊎_elim (λ (early : s < k). early)
          (λ (late : k ≤ s).
          let is : k ≡ s = omega (arith, h, late) in
          let own : is_in_place (new k).made count ≡ true = ap (λ (j : ℕ). is_in_place (new j).made count) is ∙ ap (λ (m : Option ℕ). is_in_place m count) own_made ∙ eqb_self count in
          absurd (let f : true ≡ false = sym own ∙ e in cc)) (split_at s k)

  -- behind the last place stands none
  place_none : (n place : ℕ) → count ≤ place → link_in_place row place n ≡ None
  place_none zero place h = refl
  place_none (suc k) place h =
      by_test (λ (o : Option ℕ). o ≡ None) (is_in_place (row k).made place) (Some k) (link_in_place row place k)
      (λ e. let less : place < count = has.below k place (in_own (row k).made place e) in absurd (omega (arith, less, h))) (λ _. place_none k place h)

  listed_more : (place k : ℕ) → place ≤ count → count < place + k → linked_sites new sites place k ≡ linked_sites row sites place k ++ s ∷ []
  listed_more place zero most less = absurd (omega (arith, most, less))
  listed_more place (suc k) most less =
      ⊎_elim
      (λ (early : place < count).
      ap (λ (o : Option ℕ). put_before o (linked_sites new sites (place + 1) k)) (place_other sites place (λ (e : place ≡ count). omega (arith, e, early)))
      ∙ ap (put_before (link_in_place row place sites)) (listed_more (place + 1) k (omega (arith, early)) (omega (arith, less)))
      ∙ before_more (link_in_place row place sites) (linked_sites row sites (place + 1) k) (s ∷ []))
      (λ (last : count ≤ place).
      let is : place ≡ count = omega (arith, most, last) in
      let here : link_in_place new place sites ≡ Some s = ap (λ (j : ℕ). link_in_place new j sites) is ∙ place_own sites below in
      let rest : linked_sites new sites (place + 1) k ≡ [] =
      none_listed new sites (place + 1) k
      (λ j least. place_other sites j (λ (e : j ≡ count). omega (arith, e, least, last)) ∙ place_none sites j (omega (arith, least, last))) in
      let old : linked_sites row sites place (suc k) ≡ [] = none_listed row sites place (suc k) (λ j least. place_none sites j (omega (arith, least, last))) in
      ap (λ (o : Option ℕ). put_before o (linked_sites new sites (place + 1) k)) here
      ∙ ap (λ (xs : List ℕ). s ∷ xs) rest
      ∙ sym (ap (λ (xs : List ℕ). xs ++ s ∷ []) old))
      (split_at place count)

  -- the sites of the links of a row, with that of the new one behind them
  pub sites_more : linked_sites new sites 0 sites ≡ linked_sites row sites 0 sites ++ s ∷ []
  sites_more = listed_more 0 sites (omega arith) (omega (arith, count_less))

  -- the new link goes to none of the others
  pub not_among : IsAmong s (linked_sites row sites 0 sites) → ⊥
  not_among among =
      let r = placed row sites 0 sites s among in
      let linked : is_linked (row s) ≡ true = ap is_made r.1 in
      let f : true ≡ false = sym linked ∙ free in
      cc

  facts_more : (n : Node) (ss : List ℕ) → (IsAmong s ss → ⊥) → link_facts n new (ss ++ s ∷ []) ≡ link_facts n row ss ++ link_fact n s l ∷ []
  facts_more n [] apart = ap (λ (x : Link). link_fact n s x ∷ []) (at_place row s l)
  facts_more n (t ∷ ts) apart =
      ap (λ (x : Link). link_fact n t x ∷ link_facts n new (ts ++ s ∷ [])) (updated_other row s t l (λ e. apart (inl (sym e))))
      ∙ ap (λ (fs : List LinkFacts). link_fact n t (row t) ∷ fs) (facts_more n ts (λ more. apart (inr more)))

  kept_more : (ss : List ℕ) → (IsAmong s ss → ⊥) → kept_links new (ss ++ s ∷ []) ≡ kept_links row ss ++ kept_link s l ∷ []
  kept_more [] apart = ap (λ (x : Link). kept_link s x ∷ []) (at_place row s l)
  kept_more (t ∷ ts) apart =
      ap (λ (x : Link). kept_link t x ∷ kept_links new (ts ++ s ∷ [])) (updated_other row s t l (λ e. apart (inl (sym e))))
      ∙ ap (λ (xs : List KeptLink). kept_link t (row t) ∷ xs) (kept_more ts (λ more. apart (inr more)))

  pub further_kept_here : kept_links new (linked_sites new sites 0 sites) ≡ kept_links row (linked_sites row sites 0 sites) ++ kept_link s l ∷ []
  further_kept_here = ap (kept_links new) sites_more ∙ kept_more (linked_sites row sites 0 sites) not_among

  pub further_fact_here : (n : Node) → n.state ≡ Up → fact_of n new sites ≡ further_fact (link_fact n s l) (fact_of n row sites)
  further_fact_here n up =
      let ss : List ℕ = linked_sites row sites 0 sites in
      let all : link_facts n new (linked_sites new sites 0 sites) ≡ link_facts n row ss ++ link_fact n s l ∷ [] = ap (link_facts n new) sites_more ∙ facts_more n ss not_among in
      ap (λ (fs : List LinkFacts). let f : SiteFacts = record (seen_fact n) { links = links_by n.state fs } in f) all
      ∙ ap (λ (fs : List LinkFacts). let f : SiteFacts = record (seen_fact n) { links = fs } in f)
      (ap (λ (t : SiteState). links_by t (link_facts n row ss ++ link_fact n s l ∷ [])) up
      ∙ ap (λ (t : SiteState). links_by t (link_facts n row ss) ++ link_fact n s l ∷ []) (sym up))

pub further_kept : (row : ℕ → Link) (sites s : ℕ) (l : Link) → HasPlaces sites row → s < sites → is_linked (row s) ≡ false → l.made ≡ Some (links_in sites row)
    → kept_links (updated row s l) (linked_sites (updated row s l) sites 0 sites) ≡ kept_links row (linked_sites row sites 0 sites) ++ kept_link s l ∷ []
further_kept row sites s l has below free made = further_kept_here sites row s l has below free made

pub further_is : (n : Node) (row : ℕ → Link) (sites s : ℕ) (l : Link) → n.state ≡ Up → HasPlaces sites row → s < sites → is_linked (row s) ≡ false → l.made ≡ Some (links_in sites row)
    → fact_of n (updated row s l) sites ≡ further_fact (link_fact n s l) (fact_of n row sites)
further_is n row sites s l up has below free made = further_fact_here sites row s l has below free made n up

-- ---- a site without links that joined a line

no_place : (row : ℕ → Link) (place n : ℕ) → ((k : ℕ) → k < n → is_linked (row k) ≡ false) → link_in_place row place n ≡ None
no_place row place zero free = refl
no_place row place (suc k) free =
    ap (λ (b : Bool). if b then Some k else link_in_place row place k) (not_made (row k).made place (free k (omega arith))) ∙ no_place row place k (λ j less. free j (omega (arith, less)))

joins_group : (a n : Node) (p : ℕ) (t : SiteState) → group_by t (joined a p n) ≡ joined_group a.line a.parent (group_by t n)
joins_group a n p Bare = refl
joins_group a n p Up = refl
joins_group a n p Deported = refl
joins_group a n p Down = refl

pub joined_is : (a n : Node) (p : ℕ) (row : ℕ → Link) (sites : ℕ) → ((k : ℕ) → k < sites → is_linked (row k) ≡ false) → fact_of (joined a p n) row sites ≡ joined_fact a.line a.parent (fact_of n row sites)
joined_is a n p row sites free =
    let none : linked_sites row sites 0 sites ≡ [] = none_listed row sites 0 sites (λ j _. no_place row j sites free) in
    let group : Option RvgFacts = group_by n.state (joined a p n) in
    ap (λ (ss : List ℕ). with_parts (seen_fact n) group (links_by n.state (link_facts (joined a p n) row ss))) none
    ∙ sym (ap (λ (ss : List ℕ). with_parts (seen_fact n) group (links_by n.state (link_facts n row ss))) none)
    ∙ ap (λ (rvg : Option RvgFacts). with_parts (seen_fact n) rvg (links_by n.state (link_facts n row (linked_sites row sites 0 sites)))) (joins_group a n p n.state)

-- ---- a site that is marked

marks_group : (n : Node) (mark : Mark) (t : SiteState) → group_by t (record n { mark = mark }) ≡ marked_group mark (group_by t n)
marks_group n mark Bare = refl
marks_group n mark Up = refl
marks_group n mark Deported = refl
marks_group n mark Down = refl

marks_links : (n : Node) (mark : Mark) (row : ℕ → Link) (ss : List ℕ) → link_facts (record n { mark = mark }) row ss ≡ link_facts n row ss
marks_links n mark row [] = refl
marks_links n mark row (s ∷ ss) = ap (λ (fs : List LinkFacts). link_fact n s (row s) ∷ fs) (marks_links n mark row ss)

pub marked_shows : (n : Node) (row : ℕ → Link) (sites : ℕ) (mark : Mark) → fact_of (record n { mark = mark }) row sites ≡ marked_fact mark (fact_of n row sites)
marked_shows n row sites mark =
    let ss : List ℕ = linked_sites row sites 0 sites in
    ap (λ (fs : List LinkFacts). with_parts (seen_fact n) (group_by n.state (record n { mark = mark })) (links_by n.state fs)) (marks_links n mark row ss)
    ∙ ap (λ (rvg : Option RvgFacts). with_parts (seen_fact n) rvg (links_by n.state (link_facts n row ss))) (marks_group n mark n.state)
