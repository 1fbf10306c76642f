-- The sites in memory behind each part of a line that makes a link, and behind one that sets it, are what the tests of a line see of the world then.
use Rattle.std.proofs.Common.{◌≡◌, ◌∙◌, ◌<◌, ℕ, zero, suc, List, [], ◌∷◌, length, Bool, true, false, ap, sym, refl, arith, ⊎_elim}
use Rattle.std.proofs.lemmas.Bool.{cases_eq}
use Rattle.std.proofs.lemmas.Bool.Decides.{nat_tests}
use Rattle.std.specs.List.{find}
use Rattle.std.specs.Prelude.{Option, Some, None, drop, not, ◌&&◌, ◌||◌, eqb, slice_get, slice_index_or, slice_set, if◌then◌else◌}
use Rattle.vx_model.specs.Content.{Write}
use Rattle.vx_model.specs.Sites.{first_line, is_origin, same_line}
use Rattle.vx_model.specs.declared.history.Line.{Line}
use Rattle.vx_model.specs.declared.link.Link.{Link as PlainLink}
use Rattle.vx_model.specs.declared.link.Prot.TheVariants.{Fail}
use Rattle.vx_model.specs.declared.link.SyncMode.{SyncMode}
use Rattle.vx_model.specs.declared.no.No.TheVariants.{Role as WrongRole, Unknown}
use Rattle.vx_model.specs.declared.no.Named.TheVariants.{Number as ByNumber}
use Rattle.vx_model.specs.declared.site.Mark.TheVariants.{Consistent}
use Rattle.vx_model.specs.declared.site.SiteState.{SiteState}
use Rattle.vx_model.specs.declared.state.KeptLink.{KeptLink}
use Rattle.vx_model.specs.declared.site.SiteState.TheVariants.{Up}
use Rattle.vx_model.proofs.Lists.{got}
use Rattle.vx_history.proofs.Places.{links_listed}
use Rattle.vx_history.proofs.Updates.{and_left, and_right}
use Rattle.vx_history.specs.Admission.{is_holding}
use Rattle.vx_history.specs.Doubts.{Doubted, happened}
use Rattle.vx_history.specs.Events.{linked_sites, logged_blocks, new_link, opened}
use Rattle.vx_history.specs.KeptLinks.{kept_link, kept_links}
use Rattle.vx_history.specs.LinkForms.{plain_link}
use Rattle.vx_history.specs.Listed.{HasPlaces}
use Rattle.vx_history.specs.Refusals.{Outcome, at_site, at_work, unless, is_empty, is_fresh, is_primary, is_stale_mode, is_consistent, follows, count_links_of, may_link, some_below}
use Rattle.vx_history.specs.Receiving.{phase_takes}
use Rattle.vx_history.specs.Sends.{is_linked, with_link}
use Rattle.vx_history.specs.Step.{done, outcome_of, step}
use Rattle.vx_history.specs.World.{Gathering, Link, Node, Packet, World}
use Rattle.vx_history.specs.declared.event.Event.TheVariants.{Link as LinkAt, Set as SetAt}
use Rattle.vx_history.specs.declared.event.LinkPart.TheVariants.{Joins, Made, Marked, Opened}
use Rattle.vx_history.specs.declared.event.Said.TheVariants.{Done, Refused}
use Rattle.vx_order.specs.declared.facts.LinkFacts.{LinkFacts}
use Rattle.vx_order.specs.declared.facts.SiteFacts.{SiteFacts}
use Rattle.vx_events.proofs.Places.{some_same}
use Rattle.vx_events.specs.Doubts.{sure}
use Rattle.vx_events.specs.Effects.{EffectAt}
use Rattle.vx_events.specs.Facts.{group_by, group_fact}
use Rattle.vx_events.specs.GroupLines.{is_over_group}
use Rattle.vx_events.specs.LinkedFacts.{link_fact, link_facts, linked_fact, links_by, links_of_site, needed_by}
use Rattle.vx_events.specs.StepsOver.{facts_over}
use Rattle.vx_effects.proofs.Facts.{facts_at, over_apart, over_same}
use Rattle.vx_effects.proofs.LinkParts.{joins_done, joins_effect, made_done, made_effect, marked_effect, may_open, opened_done, two_done}
use Rattle.vx_effects.proofs.LinkRows.{further_is, joined_is, marked_shows}
use Rattle.vx_effects.proofs.Tests
use Rattle.vx_effects.specs.Facts.{fact_of, marked_fact, over_of}
use Rattle.vx_effects.specs.LinkParts.{further_fact, joined_fact}
use Rattle.vx_linked.specs.Making.{fresh_link, kept_each, opened_link}
use Rattle.vx_linked.specs.Tables.{HasLinksOf, fact_between, leads_to, link_leading}
use Rattle.vx_linked.proofs.Heard.{among_found, site_apart}

-- ---- the facts behind an event that changes one site

pub behind : (w : World) (v : Doubted) (s : ℕ) {n : Node} {row : ℕ → Link} {many : ℕ} {packets : List Packet} {gathered : Option Gathering} → s < w.sites → is_over_group n ≡ false
    → EffectAt s (sure w) v n row many None packets gathered → facts_over v.world ≡ slice_set (facts_over w) s (fact_of n row w.sites)
behind w v s {n} {row} below alone f =
    facts_at s (sure w) v f.site below
    ∙ ap (slice_set (facts_over w) s)
    (ap (λ (m : Node). over_of m (v.world.links s) v.world.sites) f.is.node ∙ ap (λ (k : ℕ). over_of n (v.world.links s) k) f.site.sites ∙ over_same n row (v.world.links s) w.sites f.is.links
    ∙ over_apart n row w.sites alone)

-- the site in a place of the facts
pub site_of : (w : World) (sites : List SiteFacts) (s : ℕ) (d : SiteFacts) → sites ≡ facts_over w → s < w.sites → is_over_group (w.nodes s) ≡ false → s < length sites
    → slice_index_or sites s d ≡ linked_fact w s
site_of w sites s d facts below alone inside = some_same (sym (got sites s d inside) ∙ ap (λ (fs : List SiteFacts). slice_get fs s) facts ∙ site_apart w s below alone)

-- another site in that place
pub put_site : (w : World) (sites : List SiteFacts) (s : ℕ) (d new : SiteFacts) (g : SiteFacts → SiteFacts) → sites ≡ facts_over w → s < w.sites → is_over_group (w.nodes s) ≡ false
    → s < length sites → new ≡ g (slice_index_or sites s d) → slice_set sites s new ≡ slice_set (facts_over w) s (g (linked_fact w s))
put_site w sites s d new g facts below alone inside is =
    ap (λ (fs : List SiteFacts). slice_set fs s new) facts ∙ ap (slice_set (facts_over w) s) (is ∙ ap g (site_of w sites s d facts below alone inside))

-- ---- a site that joins

-- the links of all sites stay
pub joined_links : (line parent : Line) (sites : List SiteFacts) (s : ℕ) (d new : SiteFacts) → s < length sites → new ≡ joined_fact line parent (slice_index_or sites s d)
    → (k : ℕ) (site : SiteFacts) → slice_get (slice_set sites s new) k ≡ Some site → HasLinksOf sites k site
joined_links line parent [] s d new inside is k site there = absurd (omega (arith, inside))
joined_links line parent (f ∷ fs) zero d new inside is zero site there = record { other = f; there = refl; links = ap (λ (x : SiteFacts). x.links) (sym (some_same there) ∙ is) }
joined_links line parent (f ∷ fs) zero d new inside is (suc k) site there = record { other = site; there = there; links = refl }
joined_links line parent (f ∷ fs) (suc s) d new inside is zero site there = record { other = site; there = there; links = refl }
joined_links line parent (f ∷ fs) (suc s) d new inside is (suc k) site there =
    let rest = joined_links line parent fs s d new (omega (arith, inside)) is k site there in
    record { other = rest.other; there = rest.there; links = rest.links }

below_none : (n : ℕ) (test : ℕ → Bool) → some_below n test ≡ false → (k : ℕ) → k < n → test k ≡ false
below_none zero test none k less = absurd (omega (arith, less))
below_none (suc m) test none k less = by (eqb k m) (λ e. same e) (λ e. below_none m test (rest (test m) (some_below m test) none) k (other e))
  where
    first : (a b : Bool) → (a || b) ≡ false → a ≡ false
    first true b e = absurd (cc)
    first false b e = refl

    rest : (a b : Bool) → (a || b) ≡ false → b ≡ false
    rest true b e = absurd (cc)
    rest false b e = e

    same : k ≡ m → test k ≡ false
    same e = ap test e ∙ first (test m) (some_below m test) none

    other : (k ≡ m → ⊥) → k < m
    other apart = omega (arith, less, apart)

    by : (b : Bool) → (k ≡ m → test k ≡ false) → ((k ≡ m → ⊥) → test k ≡ false) → test k ≡ false
    by b yes_so no_so = ⊎_elim yes_so no_so (cases_eq k m)

module _ (w : World) (p s : ℕ) (sync : SyncMode) where
  -- the second site is a primary that logged nothing and has no links
  pub joins_fresh : (step w (LinkAt p s sync Fail Joins)).said ≡ Done → is_fresh w s ≡ true
  joins_fresh said =
      let may : may_link w p s ≡ true = (joins_done w p s sync Fail said).0 in
      let first : Bool = same_line (w.nodes p).line (first_line p) in
      let r1 = and_right (is_primary (w.nodes p).role) (not (eqb s p) && (is_empty (w.nodes p).log && (first && is_fresh w s))) may in
      let r2 = and_right (not (eqb s p)) (is_empty (w.nodes p).log && (first && is_fresh w s)) r1 in
      let r3 = and_right (is_empty (w.nodes p).log) (first && is_fresh w s) r2 in
      and_right first (is_fresh w s) r3

  pub fresh_row : (step w (LinkAt p s sync Fail Joins)).said ≡ Done → (k : ℕ) → k < w.sites → is_linked (w.links s k) ≡ false
  fresh_row said =
      let none : Bool = not (some_below w.sites (λ k. is_linked (w.links s k))) in
      let r4 = and_right (is_primary (w.nodes s).role) (is_empty (w.nodes s).log && none) (joins_fresh said) in
      let r5 : none ≡ true = and_right (is_empty (w.nodes s).log) none r4 in
      below_none w.sites (λ k. is_linked (w.links s k)) (is_false (some_below w.sites (λ k. is_linked (w.links s k))) r5)
    where
      is_false : (b : Bool) → not b ≡ true → b ≡ false
      is_false true e = absurd (cc)
      is_false false e = refl

  pub joined_facts : is_over_group (w.nodes s) ≡ false → (step w (LinkAt p s sync Fail Joins)).said ≡ Done
      → facts_over (step w (LinkAt p s sync Fail Joins)).world ≡ slice_set (facts_over w) s (joined_fact (w.nodes p).line (w.nodes p).parent (linked_fact w s))
  joined_facts alone said =
      behind w (happened (sure w) (LinkAt p s sync Fail Joins) true) s (two_done w p s sync Fail Joins said).0.second alone (joins_effect (sure w) p s sync Fail true said)
      ∙ ap (slice_set (facts_over w) s) (joined_is (w.nodes p) (w.nodes s) p (w.links s) w.sites (fresh_row said))

  -- the group of the first one, as the facts have it
  pub group_shown : (step w (LinkAt p s sync Fail Joins)).said ≡ Done → (linked_fact w p).rvg ≡ Some (group_fact (w.nodes p))
  group_shown said = ap (λ (t : SiteState). group_by t (w.nodes p)) (two_done w p s sync Fail Joins said).0.up

  pub made_facts : is_over_group (w.nodes p) ≡ false → HasPlaces w.sites (w.links p) → (session : ℕ) → (w.nodes s).session ≡ session → (step w (LinkAt p s sync Fail Made)).said ≡ Done
      → facts_over (step w (LinkAt p s sync Fail Made)).world
      ≡ slice_set (facts_over w) p (further_fact (let x : LinkFacts = record { link = fresh_link s sync session; used = 0 } in x) (linked_fact w p))
  made_facts alone has session is said =
      let l : Link = new_link (count_links_of w p) sync Fail (w.nodes s) in
      let two = (two_done w p s sync Fail Made said).0 in
      behind w (happened (sure w) (LinkAt p s sync Fail Made) true) p two.first alone (made_effect (sure w) p s sync Fail true said)
      ∙ ap (slice_set (facts_over w) p) (further_is (w.nodes p) (w.links p) w.sites s l two.up has two.second (made_done w p s sync Fail said).0 refl)
      ∙ ap (λ (k : ℕ). slice_set (facts_over w) p (further_fact (let x : LinkFacts = record { link = fresh_link s sync k; used = 0 } in x) (linked_fact w p))) is

  pub marked_facts : is_over_group (w.nodes s) ≡ false → (step w (LinkAt p s sync Fail Marked)).said ≡ Done
      → facts_over (step w (LinkAt p s sync Fail Marked)).world ≡ slice_set (facts_over w) s (marked_fact Consistent (linked_fact w s))
  marked_facts alone said =
      behind w (happened (sure w) (LinkAt p s sync Fail Marked) true) s (two_done w p s sync Fail Marked said).0.second alone (marked_effect (sure w) p s sync Fail true said)
      ∙ ap (slice_set (facts_over w) s) (marked_shows (w.nodes s) (w.links s) w.sites Consistent)

  -- ---- a link that is opened

  picks_none : (b : Bool) (k : ℕ) → k ≡ 0 → (let x : ℕ = (if b then k else 0) in x) ≡ 0
  picks_none true k e = e
  picks_none false k e = refl

  none_drop : (k : ℕ) (xs : List Write) → is_empty xs ≡ true → logged_blocks (drop k xs) ≡ 0
  none_drop zero [] e = refl
  none_drop (suc k) [] e = refl
  none_drop k (x ∷ xs) e = absurd (not_zero (length xs) e)
    where
      not_zero : (n : ℕ) → eqb (suc n) 0 ≡ true → ⊥
      not_zero n h = grind (arith, nat_tests)

  abbrev pub opens : Link
  opens = opened (w.links p s) (w.nodes p).safe

  -- nothing is logged, so it needs nothing of the log
  pub opened_fact : (step w (LinkAt p s sync Fail Opened)).said ≡ Done → (last : ℕ) → (w.nodes p).safe ≡ last → (l : PlainLink) → l ≡ opened_link (plain_link s (w.links p s)) last
      → (let x : LinkFacts = record { link = l; used = 0 } in x) ≡ link_fact (w.nodes p) s opens
  opened_fact said last is l at =
      let may : may_open w p s sync Fail ≡ true = (opened_done w p s sync Fail said).0 in
      let n : Node = w.nodes p in
      let rest : Bool = is_stale_mode (w.links p s).mode && (phase_takes (w.nodes s).phase && is_consistent (w.nodes s).mark) in
      let r1 = and_right (is_primary n.role) (follows w p s && (is_linked (w.links p s) && (is_empty n.log && rest))) may in
      let r2 = and_right (follows w p s) (is_linked (w.links p s) && (is_empty n.log && rest)) r1 in
      let empty : is_empty n.log ≡ true = and_left (is_empty n.log) rest (and_right (is_linked (w.links p s)) (is_empty n.log && rest) r2) in
      let none : needed_by n s opens ≡ 0 = picks_none (is_holding (plain_link s opens)) (logged_blocks (drop n.safe n.log)) (none_drop n.safe n.log empty) in
      ap (λ (x : PlainLink). let f : LinkFacts = record { link = x; used = 0 } in f) at
      ∙ ap (λ (k : ℕ). let f : LinkFacts = record { link = opened_link (plain_link s (w.links p s)) k; used = 0 } in f) (sym is)
      ∙ ap (λ (k : ℕ). let f : LinkFacts = record { link = plain_link s opens; used = k } in f) (sym none)

  pub opened_shown : (step w (LinkAt p s sync Fail Opened)).said ≡ Done → facts_over (step w (LinkAt p s sync Fail Opened)).world ≡ facts_over (with_link w p s opens)
  opened_shown said = ap (λ (o : Outcome). facts_over o.world) ((two_done w p s sync Fail Opened said).1 ∙ (opened_done w p s sync Fail said).1)

  -- ---- a link that is set

  abbrev pub sets : Link
  sets = record (w.links p s) { sync = sync; prot = Fail }

  abbrev is_set : Outcome → Type 0
  is_set o = o.said ≡ Done → ((w.nodes p).state ≡ Up) × (is_linked (w.links p s) ≡ true) × (o ≡ done (with_link w p s sets))

  pub set_done : is_set (outcome_of w (SetAt p s sync Fail))
  set_done =
      Tests.link_ends is_set w (λ why e. absurd (let f : Refused why ≡ Done = e in cc)) is_origin p s (done (with_link w p s sets)) (λ up linked _. (up, linked, refl))

  pub set_shown : (step w (SetAt p s sync Fail)).said ≡ Done → facts_over (step w (SetAt p s sync Fail)).world ≡ facts_over (with_link w p s sets)
  set_shown said = ap (λ (o : Outcome). facts_over o.world) (set_done said).2

  pub opened_linked : (step w (LinkAt p s sync Fail Opened)).said ≡ Done → is_linked (w.links p s) ≡ true
  opened_linked said =
      let n : Node = w.nodes p in
      let rest : Bool = is_empty n.log && (is_stale_mode (w.links p s).mode && (phase_takes (w.nodes s).phase && is_consistent (w.nodes s).mark)) in
      let r1 = and_right (is_primary n.role) (follows w p s && (is_linked (w.links p s) && rest)) (opened_done w p s sync Fail said).0 in
      and_left (is_linked (w.links p s)) rest (and_right (follows w p s) (is_linked (w.links p s) && rest) r1)

-- a link of a site that is up is found
pub some_between : (w : World) (sites : List SiteFacts) (p s : ℕ) → sites ≡ facts_over w → p < w.sites → is_over_group (w.nodes p) ≡ false → (w.nodes p).state ≡ Up → HasPlaces w.sites (w.links p) → is_linked (w.links p s) ≡ true
    → fact_between sites p s ≡ None → ⊥
some_between w sites p s facts below alone up has linked none =
    among_found (w.nodes p) (w.links p) s (linked_sites (w.links p) w.sites 0 w.sites) (links_listed w.sites (w.links p) has s linked)
    (ap (λ (t : SiteState). find (leads_to s) (links_by t (links_of_site w p))) (sym up)
    ∙ ap (λ (o : Option SiteFacts). link_leading o s) (sym (site_apart w p below alone)) ∙ ap (λ (fs : List SiteFacts). fact_between fs p s) (sym facts) ∙ none)

pub set_found : (w : World) (p s : ℕ) (sync : SyncMode) (sites : List SiteFacts) → sites ≡ facts_over w → is_over_group (w.nodes p) ≡ false → HasPlaces w.sites (w.links p) → (step w (SetAt p s sync Fail)).said ≡ Done
    → fact_between sites p s ≡ None → ⊥
set_found w p s sync sites facts alone has said none =
    let d = set_done w p s sync said in
    some_between w sites p s facts (site_below said) alone d.0 has d.1 none
  where
    site_below : (step w (SetAt p s sync Fail)).said ≡ Done → p < w.sites
    site_below e =
        let o : Outcome = at_site w s (at_work w p (unless (not (is_origin (w.nodes p).role)) WrongRole w (unless (not (is_linked (w.links p s))) (Unknown (ByNumber s)) w (done (with_link w p s (sets w p s sync)))))) in
        Tests.site_ends (λ (r : Outcome). r.said ≡ Done → p < w.sites) w (λ why f. absurd (let g : Refused why ≡ Done = f in cc)) p o (λ below _. below) e

-- ---- links as the header of a log keeps them

pub each_kept : (n : Node) (row : ℕ → Link) (ss : List ℕ) → kept_each (link_facts n row ss) ≡ kept_links row ss
each_kept n row [] = refl
each_kept n row (s ∷ ss) = ap (λ (ls : List KeptLink). kept_link s (row s) ∷ ls) (each_kept n row ss)
