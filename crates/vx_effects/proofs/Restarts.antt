-- The links of a header that fit are those of a row that fits, and the other way round.
use Rattle.std.proofs.Common.{◌≡◌, ◌∙◌, inl, inr, ◌⊎◌, ◌+◌, ◌<◌, ◌≤◌, ℕ, zero, suc, List, [], ◌∷◌, ◌++◌, Bool, true, false, ap, sym, subst, refl, arith, append_assoc}
use Rattle.std.proofs.lemmas.Bool.{not-true, or_parts}
use Rattle.std.specs.Prelude.{Option, Some, None, not, ◌&&◌, ◌||◌, eqb, ltb, if◌then◌else◌}
use Rattle.std.specs.List.{list_any}
use Rattle.std.proofs.lemmas.Bool.Decides.{nat_tests}
use Rattle.std.proofs.lemmas.List.{append-nil}
use Rattle.vx_model.specs.declared.link.Link.{Link as PlainLink}
use Rattle.vx_model.specs.declared.link.Mode.{Mode}
use Rattle.vx_model.specs.declared.link.Mode.TheVariants as mode
use Rattle.vx_model.specs.declared.link.Prot.{Prot}
use Rattle.vx_model.specs.declared.link.Prot.TheVariants.{Off, Override, Fail, Dcm as MapIfCut, Autodcm}
use Rattle.vx_model.specs.declared.state.KeptLink.{KeptLink}
use Rattle.vx_model.specs.declared.state.KeptMode.{KeptMode}
use Rattle.vx_model.specs.declared.state.KeptMode.TheVariants.{Log, Dcm, Replay, Fork, Stale}
use Rattle.vx_model.proofs.Tests.{both_true, by_bool}
use Rattle.vx_history.proofs.Places.{count_most, places_made}
use Rattle.vx_history.proofs.Updates.{all_updated, at_place, eqb_apart, eqb_equal, eqb_self, and_left, and_right}
use Rattle.vx_history.specs.Events.{is_in_place, link_in_place, linked_sites, put_before, restarted_link}
use Rattle.vx_history.specs.KeptLinks.{kept_link, kept_links, kept_mode, kept_start}
use Rattle.vx_history.specs.LinkForms.{plain_link}
use Rattle.vx_history.specs.Listed.{HasPlaces, IsAmong, links_in}
use Rattle.vx_history.specs.Refusals.{how_many_below}
use Rattle.vx_history.specs.Sending.{mode_restarted}
use Rattle.vx_history.specs.Sends.{is_linked, is_made}
use Rattle.vx_history.specs.World.{Link, Node, no_link, updated}
use Rattle.vx_order.specs.declared.facts.LinkFacts.{LinkFacts}
use Rattle.vx_events.proofs.LinkTesting.{AllLinked, all_linked}
use Rattle.vx_events.proofs.Places.{never_some}
use Rattle.vx_events.proofs.Steps.{no_sites}
use Rattle.vx_events.specs.LinkedFacts.{link_facts, needed_by}
use Rattle.vx_events.specs.LinksFit.{IsPlain, RowFits, is_plain_mode}
use Rattle.vx_effects.specs.Restarts.{IsAgain, are_fine, fact_again, facts_again, is_failing_prot, is_fine, is_plain_kept, leads_there, link_again, link_found, mode_again, needs_of, row_of_kept, row_with}
use Rattle.vx_effects.proofs.Fitting.{updated_other}
use Rattle.vx_effects.proofs.Headers.{count_none}
use Rattle.vx_effects.proofs.Links.{restarted_plain}
use Rattle.vx_effects.proofs.Rows.{AreApart, apart}

-- ---- what the test of a link says

never : {A : Type 0} → true ≡ false → A
never e = absurd (cc)

prot_is : (p : Prot) → is_failing_prot p ≡ true → p ≡ Fail
prot_is Off e = absurd (cc)
prot_is Override e = absurd (cc)
prot_is Fail e = refl
prot_is MapIfCut e = absurd (cc)
prot_is Autodcm e = absurd (cc)

again_plain : (m : KeptMode) → is_plain_kept m ≡ true → is_plain_mode (mode_again m) ≡ true
again_plain Log e = refl
again_plain Dcm e = absurd (cc)
again_plain Replay e = absurd (cc)
again_plain Fork e = absurd (cc)
again_plain Stale e = refl

-- a link that came back comes back as the same
again_twice : (m : KeptMode) → mode_again (kept_mode (mode_again m)) ≡ mode_again m
again_twice Log = refl
again_twice Dcm = refl
again_twice Replay = refl
again_twice Fork = refl
again_twice Stale = refl

kept_again : (m : KeptMode) → is_plain_kept m ≡ true → kept_mode (mode_again m) ≡ m
kept_again Log e = refl
kept_again Dcm e = absurd (cc)
kept_again Replay e = absurd (cc)
kept_again Fork e = absurd (cc)
kept_again Stale e = refl

start_again : (m : KeptMode) → kept_start (mode_again m) ≡ 0
start_again Log = refl
start_again Dcm = refl
start_again Replay = refl
start_again Fork = refl
start_again Stale = refl

-- what the header keeps of a link by the log, or of one that waits
plain_kept : (m : Mode) → is_plain_mode m ≡ true → is_plain_kept (kept_mode m) ≡ true
plain_kept mode.Log e = refl
plain_kept mode.Dcm e = absurd (cc)
plain_kept (mode.Replay id phase left start end) e = absurd (cc)
plain_kept (mode.Fork maps) e = absurd (cc)
plain_kept mode.Stale e = refl

plain_start : (m : Mode) → is_plain_mode m ≡ true → kept_start m ≡ 0
plain_start mode.Log e = refl
plain_start mode.Dcm e = absurd (cc)
plain_start (mode.Replay id phase left start end) e = absurd (cc)
plain_start (mode.Fork maps) e = absurd (cc)
plain_start mode.Stale e = refl

pub plain_again : (m : Mode) → is_plain_mode m ≡ true → mode_again (kept_mode m) ≡ m
plain_again mode.Log e = refl
plain_again mode.Dcm e = absurd (cc)
plain_again (mode.Replay id phase left start end) e = absurd (cc)
plain_again (mode.Fork maps) e = absurd (cc)
plain_again mode.Stale e = refl

record Fine (p sites : ℕ) (l : KeptLink) : Type 0 where
  prot : l.prot ≡ Fail
  mode : is_plain_kept l.mode ≡ true
  bunker : l.bunker ≡ false
  start : l.start ≡ 0
  other : l.site ≡ p → ⊥
  below : l.site < sites

below_is : (a b : ℕ) → ltb a b ≡ true → a < b
below_is a b e = grind (arith, nat_tests)

fine_is : (p sites : ℕ) (l : KeptLink) → is_fine p sites l ≡ true → Fine p sites l
fine_is p sites l e =
    let last : Bool = not (eqb l.site p) && ltb l.site sites in
    let e1 : (is_plain_kept l.mode && (not l.bunker && (eqb l.start 0 && last))) ≡ true = and_right (is_failing_prot l.prot) _ e in
    let e2 : (not l.bunker && (eqb l.start 0 && last)) ≡ true = and_right (is_plain_kept l.mode) _ e1 in
    let e3 : (eqb l.start 0 && last) ≡ true = and_right (not l.bunker) _ e2 in
    let e4 : last ≡ true = and_right (eqb l.start 0) last e3 in
    record {
      prot = prot_is l.prot (and_left (is_failing_prot l.prot) _ e);
      mode = and_left (is_plain_kept l.mode) _ e1;
      bunker = not-true l.bunker (and_left (not l.bunker) _ e2);
      start = eqb_equal l.start 0 (and_left (eqb l.start 0) last e3);
      other = eqb_apart l.site p (not-true (eqb l.site p) (and_left (not (eqb l.site p)) (ltb l.site sites) e4));
      below = below_is l.site sites (and_right (not (eqb l.site p)) (ltb l.site sites) e4);
    }

-- ---- a row with one link more, in the place behind the others

abbrev one_by : Bool → ℕ
one_by b = if b then 1 else 0

count_same : (n : ℕ) (f g : ℕ → Bool) → ((k : ℕ) → k < n → g k ≡ f k) → how_many_below n g ≡ how_many_below n f
count_same zero f g same = refl
count_same (suc k) f g same =
    let here : one_by (g k) ≡ one_by (f k) = ap one_by (same k (omega arith)) in
    let rest : how_many_below k g ≡ how_many_below k f = count_same k f g (λ i h. same i (omega (arith, h))) in
    omega (arith, here, rest)

count_more : (n s : ℕ) (f g : ℕ → Bool) → s < n → f s ≡ false → g s ≡ true → ((k : ℕ) → (k ≡ s → ⊥) → g k ≡ f k) → how_many_below n g ≡ suc (how_many_below n f)
count_more zero s f g h old new same = absurd (omega (arith, h))
count_more (suc k) s f g h old new same =
    by_bool (eqb k s)
    (λ e.
    let at : k ≡ s = eqb_equal k s e in
    let rest : how_many_below k g ≡ how_many_below k f = count_same k f g (λ i below. same i (λ (is : i ≡ s). omega (arith, below, at, is))) in
    let one : one_by (g k) ≡ 1 = ap one_by (ap g at ∙ new) in
    let none : one_by (f k) ≡ 0 = ap one_by (ap f at ∙ old) in
    omega (arith, rest, one, none))
    (λ e.
    let other : k ≡ s → ⊥ = eqb_apart k s e in
    let rest : how_many_below k g ≡ suc (how_many_below k f) = count_more k s f g (less s k h other) old new same in
    let here : one_by (g k) ≡ one_by (f k) = ap one_by (same k other) in
    omega (arith, rest, here))
  where
    less : (s k : ℕ) → s < suc k → (k ≡ s → ⊥) → s < k
    less s k h other = grind arith

module _ (sites : ℕ) (row : ℕ → Link) (s : ℕ) (l : Link) (below : s < sites) (free : is_linked (row s) ≡ false) (made : l.made ≡ Some (links_in sites row)) (has : HasPlaces sites row) where
  abbrev new : ℕ → Link
  new = updated row s l

  abbrev count : ℕ
  count = links_in sites row

  pub more_counted : links_in sites new ≡ suc count
  more_counted =
      count_more sites s (λ k. is_linked (row k)) (λ k. is_linked (new k)) below free (ap is_linked (at_place row s l) ∙ ap is_made made)
      (λ k other. ap is_linked (updated_other row s k l other))

  unmade : (o : Option ℕ) (place : ℕ) → is_made o ≡ false → is_in_place o place ≡ false
  unmade None place e = refl
  unmade (Some k) place e = let f : true ≡ false = e in absurd (cc)

  apart_false : (a b : ℕ) → (a ≡ b → ⊥) → eqb a b ≡ false
  apart_false a b h = by_bool (eqb a b) (λ e. absurd (h (eqb_equal a b e))) (λ e. e)

  -- of another place nothing is new
  place_same : (place : ℕ) → (place ≡ count → ⊥) → (n : ℕ) → link_in_place new place n ≡ link_in_place row place n
  place_same place other zero = refl
  place_same place other (suc k) =
      ap (λ (b : Bool). if b then Some k else link_in_place new place k)
      (all_updated (λ (j : ℕ) (m : Link). is_in_place m.made place ≡ is_in_place (row j).made place) row s l
      (ap (λ (o : Option ℕ). is_in_place o place) made ∙ apart_false count place (λ (e : count ≡ place). other (sym e)) ∙ sym (unmade (row s).made place free)) (λ j _. refl) k)
      ∙ ap (λ (o : Option ℕ). if is_in_place (row k).made place then Some k else o) (place_same place other k)

  old_none : (n place : ℕ) → count ≤ place → link_in_place row place n ≡ None
  old_none zero place h = refl
  old_none (suc k) place h =
      by_bool (is_in_place (row k).made place)
      (λ is. let less : place < count = has.below k place (made_at (row k).made place is) in absurd (omega (arith, less, h)))
      (λ is. ap (λ (b : Bool). if b then Some k else link_in_place row place k) is ∙ old_none k place h)
    where
      made_at : (o : Option ℕ) (place : ℕ) → is_in_place o place ≡ true → o ≡ Some place
      made_at None place e = absurd (cc)
      made_at (Some k) place e = ap (λ (j : ℕ). Some j) (eqb_equal k place e)

  new_there : (n : ℕ) → s < n → link_in_place new count n ≡ Some s
  new_there zero h = absurd (omega (arith, h))
  new_there (suc k) h =
      by_bool (eqb k s)
      (λ e.
      let at : k ≡ s = eqb_equal k s e in
      let here : is_in_place (new k).made count ≡ true = ap (λ (i : ℕ). is_in_place (new i).made count) at ∙ ap (λ (m : Link). is_in_place m.made count) (at_place row s l)
      ∙ ap (λ (o : Option ℕ). is_in_place o count) made ∙ eqb_self count in
      ap (λ (b : Bool). if b then Some k else link_in_place new count k) here ∙ ap (λ (i : ℕ). Some i) at)
      (λ e.
      let other : k ≡ s → ⊥ = eqb_apart k s e in
      let none : is_in_place (new k).made count ≡ false =
      by_bool (is_in_place (new k).made count)
      (λ is. let old : link_in_place row count (suc k) ≡ None = old_none (suc k) count (omega arith) in
      let same : is_in_place (row k).made count ≡ true = sym (ap (λ (m : Link). is_in_place m.made count) (updated_other row s k l other)) ∙ is in
      absurd (never_some (sym old ∙ ap (λ (b : Bool). if b then Some k else link_in_place row count k) same)))
      (λ is. is) in
      ap (λ (b : Bool). if b then Some k else link_in_place new count k) none ∙ new_there k (less k h other))
    where
      less : (k : ℕ) → s < suc k → (k ≡ s → ⊥) → s < k
      less k h other = grind arith

  rest_same : (place k : ℕ) → count < place → linked_sites new sites place k ≡ linked_sites row sites place k
  rest_same place zero h = refl
  rest_same place (suc k) h =
      ap (λ (o : Option ℕ). put_before o (linked_sites new sites (place + 1) k)) (place_same place (λ (e : place ≡ count). omega (arith, e, h)) sites)
      ∙ ap (put_before (link_in_place row place sites)) (rest_same (place + 1) k (omega (arith, h)))

  rest_none : (place k : ℕ) → count ≤ place → linked_sites row sites place k ≡ []
  rest_none place zero h = refl
  rest_none place (suc k) h =
      ap (λ (o : Option ℕ). put_before o (linked_sites row sites (place + 1) k)) (old_none sites place h) ∙ rest_none (place + 1) k (omega (arith, h))

  put_append : (o : Option ℕ) (xs ys : List ℕ) → put_before o (xs ++ ys) ≡ put_before o xs ++ ys
  put_append None xs ys = refl
  put_append (Some t) xs ys = refl

  split_at : (place : ℕ) → place ≤ count → (place ≡ count) ⊎ (place < count)
  split_at place h = by_bool (eqb place count) (λ e. inl (eqb_equal place count e)) (λ e. inr (less (eqb_apart place count e)))
    where
      less : (place ≡ count → ⊥) → place < count
      less other = grind arith

  listed_from : (place k : ℕ) → place ≤ count → count < place + k → linked_sites new sites place k ≡ linked_sites row sites place k ++ s ∷ []
  listed_from place zero least less = absurd (omega (arith, least, less))
  listed_from place (suc k) least less = by_place place k (split_at place least) (λ before. listed_from (place + 1) k (omega (arith, before)) (omega (arith, less)))
    where
      by_place : (place k : ℕ) → (place ≡ count) ⊎ (place < count)
          → (place < count → linked_sites new sites (place + 1) k ≡ linked_sites row sites (place + 1) k ++ s ∷ [])
          → linked_sites new sites place (suc k) ≡ linked_sites row sites place (suc k) ++ s ∷ []
      by_place place k (inl at) more =
          ap (λ (o : Option ℕ). put_before o (linked_sites new sites (place + 1) k)) (ap (λ (i : ℕ). link_in_place new i sites) at ∙ new_there sites below)
          ∙ ap (λ (ts : List ℕ). s ∷ ts) (rest_same (place + 1) k (omega (arith, at)) ∙ rest_none (place + 1) k (omega (arith, at)))
          ∙ ap (λ (ts : List ℕ). ts ++ s ∷ []) (sym (rest_none place (suc k) (omega (arith, at))))
      by_place place k (inr before) more =
          ap (λ (o : Option ℕ). put_before o (linked_sites new sites (place + 1) k)) (place_same place (λ (e : place ≡ count). omega (arith, e, before)) sites)
          ∙ ap (put_before (link_in_place row place sites)) (more before)
          ∙ put_append (link_in_place row place sites) (linked_sites row sites (place + 1) k) (s ∷ [])

  pub more_listed : linked_sites new sites 0 sites ≡ linked_sites row sites 0 sites ++ s ∷ []
  more_listed =
      let most : links_in sites new ≤ sites = count_most sites (λ k. is_linked (new k)) in
      let one : links_in sites new ≡ suc count = more_counted in
      listed_from 0 sites (omega arith) (omega (arith, most, one))

  kept_before : (ss : List ℕ) → AllLinked row ss → kept_links new (ss ++ s ∷ []) ≡ kept_links row ss ++ kept_link s l ∷ []
  kept_before [] all = ap (λ (m : Link). kept_link s m ∷ []) (at_place row s l)
  kept_before (t ∷ ts) all =
      let other : t ≡ s → ⊥ = (λ (e : t ≡ s). never (sym all.0 ∙ ap (λ (i : ℕ). is_linked (row i)) e ∙ free)) in
      ap (λ (m : Link). kept_link t m ∷ kept_links new (ts ++ s ∷ [])) (updated_other row s t l other)
      ∙ ap (λ (ks : List KeptLink). kept_link t (row t) ∷ ks) (kept_before ts all.1)

  pub more_kept : kept_links new (linked_sites new sites 0 sites) ≡ kept_links row (linked_sites row sites 0 sites) ++ kept_link s l ∷ []
  more_kept = ap (kept_links new) more_listed ∙ kept_before (linked_sites row sites 0 sites) (all_linked row sites 0 sites)

-- ---- a row of links that a header keeps

kept_found : (p sites place : ℕ) (l : KeptLink) → Fine p sites l → kept_link l.site (link_found place l) ≡ l
kept_found p sites place l f =
    let with_mode : KeptMode → KeptLink = λ m. record l { mode = m; start = kept_start (mode_again l.mode) } in
    ap with_mode (kept_again l.mode f.mode) ∙ ap (λ (k : ℕ). let x : KeptLink = record l { start = k } in x) (start_again l.mode ∙ sym f.start)

plain_found : (p sites place : ℕ) (l : KeptLink) → Fine p sites l → IsPlain (link_found place l)
plain_found p sites place l f = record { prot = f.prot; mode = again_plain l.mode f.mode; bunker = f.bunker; trimmed = refl; map = λ volume region. refl }

record Found (p sites : ℕ) (row : ℕ → Link) (ls : List KeptLink) : Type 0 where
  fits : RowFits p sites row
  kept : kept_links row (linked_sites row sites 0 sites) ≡ ls

-- none of these leads where the row has a link
abbrev Leave : (ℕ → Link) → List KeptLink → Type 0
Leave row [] = Unit {0}
Leave row (l ∷ ls) = (is_linked (row l.site) ≡ false) × Leave row ls

none_there : (a b : Bool) → (not a && b) ≡ true → a ≡ false
none_there true b e = absurd (cc)
none_there false b e = refl

leave_more : (row : ℕ → Link) (s : ℕ) (m : Link) (ls : List KeptLink) → list_any (leads_there s) ls ≡ false → Leave row ls → Leave (updated row s m) ls
leave_more row s m [] none leave = tt
leave_more row s m (l ∷ ls) none leave =
    let parts = or_parts (eqb l.site s) (list_any (leads_there s) ls) none in
    (ap is_linked (updated_other row s l.site m (eqb_apart l.site s parts.0)) ∙ leave.0, leave_more row s m ls parts.1 leave.1)

module _ (p sites : ℕ) where
  -- the row with one link more
  one_more : (row : ℕ → Link) (place : ℕ) (l : KeptLink) (before : List KeptLink) → Found p sites row before → links_in sites row ≡ place → is_linked (row l.site) ≡ false → Fine p sites l
      → Found p sites (updated row l.site (link_found place l)) (before ++ l ∷ [])
  one_more row place l before found count free f =
      let s : ℕ = l.site in
      let m : Link = link_found place l in
      let made : m.made ≡ Some (links_in sites row) = ap (λ (i : ℕ). Some i) (sym count) in
      record {
        fits = record {
          places = places_made sites row s m f.below free made found.fits.places;
          apart = all_updated (λ (k : ℕ) (x : Link). is_linked x ≡ true → k ≡ p → ⊥) row s m (λ _. f.other) (λ k _. found.fits.apart k);
          plain = all_updated (λ (k : ℕ) (x : Link). is_linked x ≡ true → IsPlain x) row s m (λ _. plain_found p sites place l f) (λ k _. found.fits.plain k);
          none = all_updated (λ (k : ℕ) (x : Link). is_linked x ≡ false → x ≡ no_link) row s m (λ e. let g : true ≡ false = e in absurd (cc)) (λ k _. found.fits.none k);
        };
        kept = more_kept sites row s m f.below free made found.fits.places ∙ ap (λ (ks : List KeptLink). ks ++ kept_link s m ∷ []) found.kept
            ∙ ap (λ (k : KeptLink). before ++ k ∷ []) (kept_found p sites place l f);
      }

  counted : (row : ℕ → Link) (place : ℕ) (l : KeptLink) (before : List KeptLink) → Found p sites row before → links_in sites row ≡ place → is_linked (row l.site) ≡ false → Fine p sites l
      → links_in sites (updated row l.site (link_found place l)) ≡ place + 1
  counted row place l before found count free f =
      let more : links_in sites (updated row l.site (link_found place l)) ≡ suc (links_in sites row)
      = more_counted sites row l.site (link_found place l) f.below free (ap (λ (i : ℕ). Some i) (sym count)) found.fits.places in
      omega (arith, more, count)

  abbrev with_link_mode : PlainLink → Mode → PlainLink
  with_link_mode l m = record l { mode = m }

  again_one : (row : ℕ → Link) (place : ℕ) (l : KeptLink) → IsAgain row → IsAgain (updated row l.site (link_found place l))
  again_one row place l again k =
      all_updated (λ (i : ℕ) (x : Link). is_linked x ≡ true → plain_link i x ≡ link_again (kept_link i x)) row l.site (link_found place l)
      (λ _. ap (with_link_mode (plain_link l.site (link_found place l))) (sym (again_twice l.mode))) (λ i _. again i) k

  rows_found : (ls : List KeptLink) (row : ℕ → Link) (place : ℕ) (before : List KeptLink) → Found p sites row before → links_in sites row ≡ place → IsAgain row → Leave row ls
      → are_fine p sites ls ≡ true → (Found p sites (row_with row place ls) (before ++ ls)) × (IsAgain (row_with row place ls))
  rows_found [] row place before found count again leave fine =
      (subst (λ (ks : List KeptLink). Found p sites row ks) (sym (append-nil before)) found, again)
  rows_found (l ∷ ls) row place before found count again leave fine =
      let rest : Bool = not (list_any (leads_there l.site) ls) && are_fine p sites ls in
      let f : Fine p sites l = fine_is p sites l (and_left (is_fine p sites l) rest fine) in
      let others : rest ≡ true = and_right (is_fine p sites l) rest fine in
      let none : list_any (leads_there l.site) ls ≡ false = none_there (list_any (leads_there l.site) ls) (are_fine p sites ls) others in
      let all = rows_found ls (updated row l.site (link_found place l)) (place + 1) (before ++ l ∷ []) (one_more row place l before found count leave.0 f)
      (counted row place l before found count leave.0 f) (again_one row place l again) (leave_more row l.site (link_found place l) ls none leave.1)
      (and_right (not (list_any (leads_there l.site) ls)) (are_fine p sites ls) others) in
      (subst (λ (ks : List KeptLink). Found p sites (row_with (updated row l.site (link_found place l)) (place + 1) ls) ks) (append_assoc before (l ∷ []) ls) all.0, all.1)

  none_found : Found p sites (λ s. no_link) []
  none_found =
      let none : links_in sites (λ s. no_link) ≡ 0 = count_none sites (λ k. is_linked no_link) (λ k. refl) in
      record {
        fits = record {
          places = record {
            within = λ s e. let f : false ≡ true = e in absurd (cc);
            below = λ s place e. absurd (never_some e);
            apart = λ s t place e f. absurd (never_some e);
            filled = λ place less. absurd (let h : place < links_in sites (λ s. no_link) = less in omega (arith, h, none));
          };
          apart = λ k e. let f : false ≡ true = e in absurd (cc);
          plain = λ k e. let f : false ≡ true = e in absurd (cc);
          none = λ k e. refl;
        };
        kept = ap (kept_links (λ s. no_link)) (no_sites (λ s. no_link) sites 0 sites (λ k. refl));
      }

  leave_all : (ls : List KeptLink) → Leave (λ s. no_link) ls
  leave_all [] = tt
  leave_all (l ∷ ls) = (refl, leave_all ls)

  again_none : IsAgain (λ s. no_link)
  again_none k e = let f : false ≡ true = e in absurd (cc)

  all_found : (ls : List KeptLink) → are_fine p sites ls ≡ true → (Found p sites (row_of_kept ls) ls) × (IsAgain (row_of_kept ls))
  all_found ls fine =
      rows_found ls (λ s. no_link) 0 [] none_found (count_none sites (λ k. is_linked no_link) (λ k. refl)) again_none (leave_all ls) fine

  pub found_fits : (ls : List KeptLink) → are_fine p sites ls ≡ true → RowFits p sites (row_of_kept ls)
  found_fits ls fine = (all_found ls fine).0.fits

  pub found_kept : (ls : List KeptLink) → are_fine p sites ls ≡ true → kept_links (row_of_kept ls) (linked_sites (row_of_kept ls) sites 0 sites) ≡ ls
  found_kept ls fine = (all_found ls fine).0.kept

  pub found_again : (ls : List KeptLink) → are_fine p sites ls ≡ true → IsAgain (row_of_kept ls)
  found_again ls fine = (all_found ls fine).1

  -- ---- what the header keeps of a row that fits

  module _ (row : ℕ → Link) (fit : RowFits p sites row) where
    below_true : (a b : ℕ) → a < b → ltb a b ≡ true
    below_true a b h = grind (arith, nat_tests)

    one_fine : (s : ℕ) → is_linked (row s) ≡ true → is_fine p sites (kept_link s (row s)) ≡ true
    one_fine s is =
        let f : IsPlain (row s) = fit.plain s is in
        let other : eqb s p ≡ false = by_bool (eqb s p) (λ e. absurd (fit.apart s is (eqb_equal s p e))) (λ e. e) in
        both_true (is_failing_prot (row s).prot) _ (ap is_failing_prot f.prot)
        (both_true (is_plain_kept (kept_mode (row s).mode)) _ (plain_kept (row s).mode f.mode)
        (both_true (not (row s).bunker) _ (ap (λ (b : Bool). not b) f.bunker)
        (both_true (eqb (kept_start (row s).mode) 0) _ (ap (λ (n : ℕ). eqb n 0) (plain_start (row s).mode f.mode))
        (both_true (not (eqb s p)) (ltb s sites) (ap (λ (b : Bool). not b) other) (below_true s sites (fit.places.within s is))))))

    none_leads : (s : ℕ) (ss : List ℕ) → (IsAmong s ss → ⊥) → list_any (leads_there s) (kept_links row ss) ≡ false
    none_leads s [] h = refl
    none_leads s (t ∷ ts) h =
        ap (λ (b : Bool). b || list_any (leads_there s) (kept_links row ts)) (by_bool (eqb t s) (λ e. absurd (h (inl (sym (eqb_equal t s e))))) (λ e. e))
        ∙ none_leads s ts (λ more. h (inr more))

    fine_from : (ss : List ℕ) → AllLinked row ss → AreApart ss → are_fine p sites (kept_links row ss) ≡ true
    fine_from [] all apart = refl
    fine_from (s ∷ ss) all apart =
        both_true (is_fine p sites (kept_link s (row s))) _ (one_fine s all.0)
        (both_true (not (list_any (leads_there s) (kept_links row ss))) (are_fine p sites (kept_links row ss)) (ap (λ (b : Bool). not b) (none_leads s ss apart.0)) (fine_from ss all.1 apart.1))

    pub kept_fine : are_fine p sites (kept_links row (linked_sites row sites 0 sites)) ≡ true
    kept_fine = fine_from (linked_sites row sites 0 sites) (all_linked row sites 0 sites) (apart row sites 0 sites)

    -- a site that comes up
    pub restarted_again : (n : Node) → IsAgain (λ k. restarted_link n k (row k))
    restarted_again n k is =
        let m : Mode = (row k).mode in
        ap (with_link_mode (plain_link k (restarted_link n k (row k)))) (sym (plain_again (mode_restarted m) (restarted_plain m (fit.plain k is).mode)))

-- ---- what memory has of such links

pub again_facts : (n : Node) (row : ℕ → Link) → IsAgain row → (ss : List ℕ) → AllLinked row ss
    → link_facts n row ss ≡ facts_again (kept_links row ss) (needs_of n row ss)
again_facts n row again [] all = refl
again_facts n row again (s ∷ ss) all =
    ap (λ (l : PlainLink). (let f : LinkFacts = record { link = l; used = needed_by n s (row s) } in f) ∷ link_facts n row ss) (again s all.0)
    ∙ ap (λ (fs : List LinkFacts). fact_again (kept_link s (row s)) (needed_by n s (row s)) ∷ fs) (again_facts n row again ss all.1)

pub row_facts : (n : Node) (row : ℕ → Link) (sites : ℕ) → IsAgain row
    → link_facts n row (linked_sites row sites 0 sites) ≡ facts_again (kept_links row (linked_sites row sites 0 sites)) (needs_of n row (linked_sites row sites 0 sites))
row_facts n row sites again = again_facts n row again (linked_sites row sites 0 sites) (all_linked row sites 0 sites)
