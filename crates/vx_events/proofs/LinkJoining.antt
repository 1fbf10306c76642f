-- Where no test of a line that makes a link refuses, its first event is not refused; and where none of a line that waits does, the write is
-- confirmed or pending.
use Rattle.std.proofs.Common.{◌≡◌, ◌∙◌, ◌+◌, ◌++◌, inl, inr, ◌<◌, ◌≤◌, ℕ, suc, List, [], ◌∷◌, length, Bool, true, false, ap, sym, subst, refl, arith}
use Rattle.std.specs.Prelude.{Option, Some, None, not, ◌&&◌, ◌||◌, ◌==◌, cond, eqb, leb, nat_le, is_some, slice_get, map, if◌then◌else◌}
use Rattle.std.proofs.lemmas.Bool.{or_parts, and_parts, false_from_ne_true}
use Rattle.std.specs.List.{find}
use Rattle.std.proofs.lemmas.Bool.Decides.{nat_tests}
use Rattle.vx_model.specs.Sites.{is_up, is_origin, same_line, first_line}
use Rattle.vx_model.specs.declared.limits.TheConstants.{MOST_LINKS}
use Rattle.vx_model.specs.declared.link.SyncMode.{SyncMode}
use Rattle.vx_model.specs.declared.link.Prot.TheVariants.{Fail as FailsWhenFull}
use Rattle.vx_model.specs.declared.link.Prot.{Prot}
use Rattle.vx_model.specs.declared.no.Counted.TheVariants.{Links}
use Rattle.vx_model.specs.declared.no.No.{No}
use Rattle.vx_model.specs.declared.no.No.TheVariants.{Exists, Size, Role as WrongRole, Down as NotUp, Limit}
use Rattle.vx_model.specs.declared.site.Role.TheVariants.{Primary}
use Rattle.vx_model.specs.declared.site.SiteState.{SiteState}
use Rattle.vx_model.specs.declared.site.SiteState.TheVariants.{Up}
use Rattle.vx_model.proofs.Tests.{both_true}
use Rattle.vx_history.specs.Events.{linked_sites, joined}
use Rattle.vx_history.specs.Gatherings.{emptied}
use Rattle.vx_history.specs.Refusals as history
use Rattle.vx_history.specs.Refusals.{Outcome, unless, unless_halted, at_site, both_at_work, may_join, may_link, agree, sizes_meet, is_empty, count_links_of, some_below, is_primary}
use Rattle.vx_history.specs.Sends.{is_linked}
use Rattle.vx_history.specs.Step.{step, outcome_of, done}
use Rattle.vx_history.specs.World.{Node, Link as LinkOf, Volume, World, with_node}
use Rattle.vx_history.specs.declared.event.Event.TheVariants.{Link as LinkAt}
use Rattle.vx_history.specs.declared.event.LinkPart.TheVariants.{Joins}
use Rattle.vx_history.specs.declared.event.Said.TheVariants.{Done}
use Rattle.vx_order.specs.declared.facts.SiteFacts.{SiteFacts}
use Rattle.vx_order.specs.declared.facts.LinkFacts.{LinkFacts}
use Rattle.vx_order.specs.declared.facts.RvgFacts.{RvgFacts}
use Rattle.vx_order.specs.Asks.{ask_of}
use Rattle.vx_order.specs.Joining.{is_unused, on_first, are_two, can_link, linked_already, data_sizes, same_sizes, volumes_agree, ring_fits}
use Rattle.vx_order.specs.Links.{place_named, link_to, link_towards, link_count}
use Rattle.vx_order.specs.Sites.{site_named, site_off, rvg_of, halted_one}
use Rattle.vx_order.specs.Subject.{first_name, second_name, need_of, halt_of}
use Rattle.vx_order.specs.Tests.{when, before, first_said_no}
use Rattle.vx_script.specs.declared.line.ScriptLine.TheVariants.{Link}
use Rattle.vx_events.specs.Durables.{AreDurable}
use Rattle.vx_events.specs.Facts.{site_number, volume_fact, group_fact, group_by, head_of}
use Rattle.vx_events.specs.GroupLines.{is_over_group}
use Rattle.vx_events.specs.LinkedFacts.{link_fact, link_facts, links_by, links_of_site, linked_fact}
use Rattle.vx_events.specs.StepsOver.{fact_over, facts_over, refused_over}
use Rattle.vx_history.specs.Listed.{IsAmong, AreListed}
use Rattle.vx_history.proofs.GroupLemmas.{primary_is}
use Rattle.vx_history.proofs.StateCases.{up_is}
use Rattle.vx_events.proofs.LinkTesting.{Seat, seat_at, shown}
use Rattle.vx_events.proofs.OverSeats.{apart_shown, fact_apart}
use Rattle.vx_events.proofs.Passing.{off, is_site, above}
use Rattle.vx_events.proofs.Refused.{passes, when_none, not_false, running_by}
use Rattle.vx_events.proofs.Testing.{none_under}
use Rattle.vx_config.specs.declared.config.Config.{Config}
use Rattle.vx_order.specs.declared.facts.VolumeKind.TheVariants.{Map, Plain, Srl}
use Rattle.vx_model.specs.declared.units.Units.{Units}
use Rattle.vx_config.specs.declared.entry.VolumeEntry.{VolumeEntry}
use Rattle.vx_order.specs.declared.facts.VolumeFacts.{VolumeFacts}
use Rattle.vx_events.specs.GroupViews.{config_of, plain_fact}
use Rattle.vx_events.specs.RvgViews.{data_facts, data_units, is_data_unit, is_over_rvg, kind_at, kinded, others_by, others_from, others_of, over_table, table_at, unless_data}
use Rattle.vx_events.specs.RvgFits.{entries_noted, rvg_noted}
use Rattle.vx_order.specs.Calls.{is_data}
use Rattle.vx_events.specs.GroupNotes.{note_at}

none_of : (k : ℕ) → (k == 0) ≡ true → k ≡ 0
none_of k e = grind (arith, nat_tests)

-- a site that is up and is not halted, as its facts show it
pub record IsHere (w : World) (i : ℕ) : Type 0 where
  pub up : (w.nodes i).state ≡ Up
  pub running : (w.nodes i).halted ≡ None
  pub group : rvg_of (Some (linked_fact w i)) ≡ Some (group_fact (w.nodes i))

-- a site that logged nothing
record IsUnused (n : Node) : Type 0 where
  role : n.role ≡ Primary
  empty : is_empty n.log ≡ true

unused_of : (w : World) → AreDurable w → (i : ℕ) → i < w.sites → IsHere w i → is_unused (Some (group_fact (w.nodes i))) ≡ true → IsUnused (w.nodes i)
unused_of w whole i below here e =
    let n : Node = w.nodes i in
    let parts = and_parts (is_primary n.role) (head_of n == 0) e in
    let role : n.role ≡ Primary = primary_is n.role parts.0 in
    let origin : is_origin n.role ≡ true = ap is_origin role in
    let head : head_of n ≡ n.safe = ap (λ (b : Bool). if b then n.safe else length n.log) origin in
    let safe : n.safe ≡ 0 = sym head ∙ none_of (head_of n) parts.1 in
    let fits : length n.log ≤ n.safe = whole.each i below here.up here.running origin in
    let none : length n.log ≡ 0 = omega (arith, safe, fits) in
    record { role = role; empty = ap (λ (k : ℕ). eqb k 0) none }

-- ---- lists of links

some_among : (s : ℕ) (ts : List ℕ) → IsAmong s ts → length ts ≡ 0 → ⊥
some_among s [] h e = h
some_among s (t ∷ ts) h e = absurd (omega (arith, e))

same_self : (s : ℕ) → (s == s) ≡ true
same_self s = grind (arith, nat_tests)

-- a link that stands in the list is found
among_found : (n : Node) (row : ℕ → LinkOf) (s : ℕ) (ts : List ℕ) → IsAmong s ts → find (λ (x : LinkFacts). x.link.site == s) (link_facts n row ts) ≡ None → ⊥
among_found n row s [] h e = h
among_found n row s (t ∷ ts) (inl same) e =
    let self : (t == s) ≡ true = subst (λ (k : ℕ). (t == k) ≡ true) (sym same) (same_self t) in
    by (t == s) self e
  where
    by : (b : Bool) → b ≡ true → cond b (Some (link_fact n t (row t))) (find (λ (x : LinkFacts). x.link.site == s) (link_facts n row ts)) ≡ None → ⊥
    by true is none = absurd (cc)
    by false is none = absurd (cc)
among_found n row s (t ∷ ts) (inr more) e = by (t == s) (λ none. among_found n row s ts more none) e
  where
    by : (b : Bool) → (find (λ (x : LinkFacts). x.link.site == s) (link_facts n row ts) ≡ None → ⊥) → cond b (Some (link_fact n t (row t))) (find (λ (x : LinkFacts). x.link.site == s) (link_facts n row ts)) ≡ None → ⊥
    by true rest none = absurd (cc)
    by false rest none = rest none

length-link_facts : (n : Node) (row : ℕ → LinkOf) (ss : List ℕ) → length (link_facts n row ss) ≡ length ss
length-link_facts n row [] = refl
length-link_facts n row (s ∷ ss) = ap suc (length-link_facts n row ss)

-- ---- volumes and rings

-- the blocks of volumes
abbrev sizes_of : List Volume → List ℕ
sizes_of [] = []
sizes_of (x ∷ xs) = x.blocks ∷ sizes_of xs

-- those of the data volumes that the tests see of a site
raw_sizes : (xs : List Volume) → data_sizes (map volume_fact xs) ≡ sizes_of xs
raw_sizes [] = refl
raw_sizes (x ∷ xs) = ap (λ (ns : List ℕ). x.blocks ∷ ns) (raw_sizes xs)

other_kind : (units : Units) (place : ℕ) → is_data (kind_at units place) ≡ false
other_kind units place = by (place == units.srl) (place == units.maps)
  where
    by : (a b : Bool) → is_data (if a then Srl else if b then Map else Plain) ≡ false
    by true b = refl
    by false true = refl
    by false false = refl

others_none : (units : Units) (place : ℕ) (vs : List VolumeEntry) → data_sizes (others_from units place vs) ≡ []
others_none units place [] = refl
others_none units place (v ∷ vs) = by (is_data_unit units.vols place) (others_none units (place + 1) vs)
  where
    by : (b : Bool) → data_sizes (others_from units (place + 1) vs) ≡ [] → data_sizes (unless_data b (kinded units place v) (others_from units (place + 1) vs)) ≡ []
    by true none = none
    by false none = ap (λ (c : Bool). if c then v.blocks ∷ data_sizes (others_from units (place + 1) vs) else data_sizes (others_from units (place + 1) vs)) (other_kind units place) ∙ none

plain_none : (vs : List VolumeEntry) → data_sizes (map plain_fact vs) ≡ []
plain_none [] = refl
plain_none (v ∷ vs) = plain_none vs

no_data : (o : Option Config) → data_sizes (others_of o) ≡ []
no_data None = refl
no_data (Some c) = by c.rvg
  where
    by : (u : Option Units) → data_sizes (others_by u c.volumes) ≡ []
    by None = plain_none c.volumes
    by (Some units) = others_none units 0 c.volumes

over_sizes : (vs : List VolumeEntry) (places : List ℕ) (xs : List Volume) (others : List VolumeFacts) → data_sizes others ≡ [] → data_sizes (data_facts vs places xs ++ others) ≡ sizes_of xs
over_sizes vs places [] others none = none
over_sizes vs [] (x ∷ xs) others none = ap (λ (ns : List ℕ). x.blocks ∷ ns) (over_sizes vs [] xs others none)
over_sizes vs (p ∷ places) (x ∷ xs) others none = ap (λ (ns : List ℕ). x.blocks ∷ ns) (over_sizes vs places xs others none)

table_sizes : (n : Node) → data_sizes (table_at n) ≡ sizes_of n.volumes
table_sizes n = by (is_over_rvg n)
  where
    by : (b : Bool) → data_sizes (if b then over_table n (note_at n) else map volume_fact n.volumes) ≡ sizes_of n.volumes
    by true = over_sizes (entries_noted (note_at n)) (data_units (rvg_noted (note_at n))) n.volumes (others_of (config_of (note_at n).config)) (no_data (config_of (note_at n).config))
    by false = raw_sizes n.volumes

sizes_same : (xs ys : List Volume) → same_sizes (sizes_of xs) (sizes_of ys) ≡ agree xs ys
sizes_same [] [] = refl
sizes_same [] (y ∷ ys) = refl
sizes_same (x ∷ xs) [] = refl
sizes_same (x ∷ xs) (y ∷ ys) = ap (λ (b : Bool). (x.blocks == y.blocks) && b) (sizes_same xs ys)

more_than_none : (n : ℕ) → eqb (suc n) 0 ≡ false
more_than_none n = grind (arith, nat_tests)

sizes_meet_so : (xs ys : List Volume)
    → (is_some (slice_get (sizes_of xs) 0) && same_sizes (sizes_of xs) (sizes_of ys)) ≡ sizes_meet xs ys
sizes_meet_so [] ys = refl
sizes_meet_so (x ∷ xs) ys = sizes_same (x ∷ xs) ys ∙ sym (ap (λ (b : Bool). not b && agree (x ∷ xs) ys) (more_than_none (length xs)))

-- ---- the tests of the event

pub first_halt : (one two : Option No) → before one (before two None) ≡ None → (one ≡ None) × (two ≡ None)
first_halt None None e = (refl, refl)
first_halt None (Some x) e = absurd (cc)
first_halt (Some x) two e = absurd (cc)

free_link : (o : Option LinkFacts) (site : SiteFacts) → linked_already o (Some site) ≡ None → o ≡ None
free_link None site e = refl
free_link (Some l) site e = absurd (cc)

below_limit : (k : ℕ) → nat_le MOST_LINKS k ≡ false → k < MOST_LINKS
below_limit k e = grind (arith, nat_tests)

pub here_by : (w : World) (i : ℕ) → not (is_up (w.nodes i).state) ≡ false → halted_one (Some (linked_fact w i)) ≡ None → IsHere w i
here_by w i up running =
    let here : (w.nodes i).state ≡ Up = up_is (w.nodes i).state (not_false (is_up (w.nodes i).state) up) in
    record {
      up = here;
      running = running_by (linked_fact w i) (group_fact (w.nodes i)) running (ap (λ (t : SiteState). if is_up t then group_by (w.nodes i).state (w.nodes i) else None) here) (ap (λ (t : SiteState). group_by t (w.nodes i)) here);
      group = shown w i here;
    }

-- what the tests of the line say of two sites, in the world's words
record MayJoin (w : World) (a b : ℕ) : Type 0 where
  below_a : a < w.sites
  below_b : b < w.sites
  first : IsHere w a
  second : IsHere w b
  may : may_link w a b ≡ true
  free : is_linked (w.links a b) ≡ false
  few : count_links_of w a < MOST_LINKS
  fits : (sizes_meet (w.nodes a).volumes (w.nodes b).volumes && history.rings_fit (w.nodes a) (w.nodes b)) ≡ true

joins_step : (w : World) (a b : ℕ) (sync : SyncMode) → MayJoin w a b → outcome_of w (LinkAt a b sync FailsWhenFull Joins) ≡ done (emptied (with_node w b (joined (w.nodes a) a (w.nodes b))) b)
joins_step w a b sync m =
    let o : Outcome = done (emptied (with_node w b (joined (w.nodes a) a (w.nodes b))) b) in
    let sized : Outcome = unless (not (sizes_meet (w.nodes a).volumes (w.nodes b).volumes && history.rings_fit (w.nodes a) (w.nodes b))) Size w o in
    let room : Outcome = unless (leb MOST_LINKS (count_links_of w a)) (Limit Links MOST_LINKS) w sized in
    let free : Outcome = unless (is_linked (w.links a b)) (Exists (w.nodes b).name) w room in
    let joins : Outcome = may_join w a b o in
    let second : Outcome = unless_halted (w.nodes b).halted w joins in
    let works : Outcome = both_at_work w a b joins in
    is_site w a (at_site w b works) m.below_a
    ∙ is_site w b works m.below_b
    ∙ off (not (is_up (w.nodes a).state && is_up (w.nodes b).state)) NotUp w (unless_halted (w.nodes a).halted w second)
    (ap (λ (t : SiteState). not (is_up t && is_up (w.nodes b).state)) m.first.up ∙ ap (λ (t : SiteState). not (is_up t)) m.second.up)
    ∙ ap (λ (h : Option ℕ). unless_halted h w second) m.first.running
    ∙ ap (λ (h : Option ℕ). unless_halted h w joins) m.second.running
    ∙ off (not (may_link w a b)) WrongRole w free (ap not m.may)
    ∙ off (is_linked (w.links a b)) (Exists (w.nodes b).name) w room m.free
    ∙ off (leb MOST_LINKS (count_links_of w a)) (Limit Links MOST_LINKS) w sized (above MOST_LINKS (count_links_of w a) m.few)
    ∙ off (not (sizes_meet (w.nodes a).volumes (w.nodes b).volumes && history.rings_fit (w.nodes a) (w.nodes b))) Size w o (ap not m.fits)

-- by what the one order says of the sites
module _ (w : World) (whole : AreDurable w) (listed : AreListed w) (p s : List ℕ) (one : Seat w p) (two : Seat w s)
    (here : IsHere w (site_number w p)) (there : IsHere w (site_number w s)) where
  abbrev a : ℕ
  a = site_number w p

  abbrev b : ℕ
  b = site_number w s

  abbrev row_of : ℕ → List ℕ
  row_of i = linked_sites (w.links i) w.sites 0 w.sites

  counted_here : (i : ℕ) → (w.nodes i).state ≡ Up → link_count (Some (linked_fact w i)) ≡ length (row_of i)
  counted_here i up = ap (λ (t : SiteState). if is_up t then length (links_by t (links_of_site w i)) else 0) up ∙ length-link_facts (w.nodes i) (w.links i) (row_of i)

  fresh : link_count (Some (linked_fact w b)) ≡ 0 → some_below w.sites (λ k. is_linked (w.links b k)) ≡ false
  fresh e =
      none_under w.sites (λ k. is_linked (w.links b k))
      (λ k below. false_from_ne_true (is_linked (w.links b k)) (λ is. some_among k (row_of b) (listed.each b k below is) (sym (counted_here b there.up) ∙ e)))

  can : can_link (Some a) (Some b) (Some (linked_fact w a)) (Some (linked_fact w b)) ≡ true → may_link w a b ≡ true
  can e =
      let at_a : is_unused (Some (group_fact (w.nodes a))) && (on_first (Some a) (Some (group_fact (w.nodes a))) && (are_two (Some a) (Some b) && (is_unused (Some (group_fact (w.nodes b))) && link_count (Some (linked_fact w b)) == 0))) ≡ true =
      subst (λ (o : Option RvgFacts). is_unused o && (on_first (Some a) o && (are_two (Some a) (Some b) && (is_unused (Some (group_fact (w.nodes b))) && link_count (Some (linked_fact w b)) == 0))) ≡ true) here.group
      (subst (λ (o : Option RvgFacts). is_unused (rvg_of (Some (linked_fact w a))) && (on_first (Some a) (rvg_of (Some (linked_fact w a))) && (are_two (Some a) (Some b) && (is_unused o && link_count (Some (linked_fact w b)) == 0))) ≡ true) there.group e) in
      let q = and_parts (is_unused (Some (group_fact (w.nodes a)))) _ at_a in
      let r = and_parts (on_first (Some a) (Some (group_fact (w.nodes a)))) _ q.1 in
      let t = and_parts (are_two (Some a) (Some b)) _ r.1 in
      let u = and_parts (is_unused (Some (group_fact (w.nodes b)))) _ t.1 in
      let first = unused_of w whole a one.below here q.0 in
      let second = unused_of w whole b two.below there u.0 in
      let none : link_count (Some (linked_fact w b)) ≡ 0 = none_of (link_count (Some (linked_fact w b))) u.1 in
      both_true (history.is_primary (w.nodes a).role) _ (ap history.is_primary first.role)
      (both_true (not (eqb b a)) _ t.0
      (both_true (is_empty (w.nodes a).log) _ first.empty
      (both_true (same_line (w.nodes a).line (first_line a)) _ r.0
      (both_true (history.is_primary (w.nodes b).role) _ (ap history.is_primary second.role)
      (both_true (is_empty (w.nodes b).log) _ second.empty (ap not (fresh none)))))))

  free_here : link_towards (Some (linked_fact w a)) (Some b) ≡ None → is_linked (w.links a b) ≡ false
  free_here e =
      false_from_ne_true (is_linked (w.links a b))
      (λ is. among_found (w.nodes a) (w.links a) b (row_of a) (listed.each a b two.below is)
      (sym (ap (λ (t : SiteState). if is_up t then link_to (links_by t (links_of_site w a)) (Some b) else None) here.up) ∙ e))

  fits_here : (volumes_agree (Some (linked_fact w a)) (Some (linked_fact w b)) && ring_fits (rvg_of (Some (linked_fact w a))) (rvg_of (Some (linked_fact w b)))) ≡ true
      → (sizes_meet (w.nodes a).volumes (w.nodes b).volumes && history.rings_fit (w.nodes a) (w.nodes b)) ≡ true
  fits_here e =
      ap (λ (c : Bool). c && history.rings_fit (w.nodes a) (w.nodes b))
      (sym (sizes_meet_so (w.nodes a).volumes (w.nodes b).volumes)
      ∙ ap (λ (ns : List ℕ). is_some (slice_get ns 0) && same_sizes ns (sizes_of (w.nodes b).volumes)) (sym (table_sizes (w.nodes a)))
      ∙ ap (λ (ns : List ℕ). is_some (slice_get (data_sizes (table_at (w.nodes a))) 0) && same_sizes (data_sizes (table_at (w.nodes a))) ns) (sym (table_sizes (w.nodes b))))
      ∙ subst (λ (o : Option RvgFacts). (volumes_agree (Some (linked_fact w a)) (Some (linked_fact w b)) && ring_fits o (Some (group_fact (w.nodes b)))) ≡ true) here.group
      (subst (λ (o : Option RvgFacts). (volumes_agree (Some (linked_fact w a)) (Some (linked_fact w b)) && ring_fits (rvg_of (Some (linked_fact w a))) o) ≡ true) there.group e)

-- both sites of a link that may be made have logged nothing
both_unused : (first second : Option SiteFacts) (here there : Option ℕ) → can_link here there first second ≡ true → (is_unused (rvg_of first) ≡ true) × (is_unused (rvg_of second) ≡ true)
both_unused first second here there e =
    let q = and_parts (is_unused (rvg_of first)) _ e in
    let r = and_parts (on_first here (rvg_of first)) _ q.1 in
    let t = and_parts (are_two here there) _ r.1 in
    let u = and_parts (is_unused (rvg_of second)) _ t.1 in
    (q.0, u.0)

-- neither of the sites of a link that may be made is over a group
pub join_apart : (w : World) (files : Bool) (p s : List ℕ) (sync : SyncMode) (prot : Prot) → refused_over w files (Link p s sync prot) ≡ None
    → (is_over_group (w.nodes (site_number w p)) ≡ false) × (is_over_group (w.nodes (site_number w s)) ≡ false)
unfolding first_name second_name need_of halt_of ask_of first_said_no
join_apart w files p s sync prot free =
    let t = passes (facts_over w) files (Link p s sync prot) free in
    let a : ℕ = site_number w p in
    let b : ℕ = site_number w s in
    let one = seat_at w p t.known in
    let two = seat_at w s t.other_known in
    let linking = not_false (can_link (Some a) (Some b) (Some (fact_over w a)) (Some (fact_over w b))) (when_none (not (can_link (Some a) (Some b) (Some (fact_over w a)) (Some (fact_over w b)))) _
    (subst (λ (o : Option SiteFacts). when (not (can_link (Some a) (Some b) (Some (fact_over w a)) o)) WrongRole ≡ None) two.found
    (subst (λ (o : Option SiteFacts). when (not (can_link (Some a) (Some b) o (site_named (facts_over w) s))) WrongRole ≡ None) one.found
    (subst (λ (o : Option ℕ). when (not (can_link (Some a) o (site_named (facts_over w) p) (site_named (facts_over w) s))) WrongRole ≡ None) two.place
    (subst (λ (o : Option ℕ). when (not (can_link o (place_named (facts_over w) (Some s)) (site_named (facts_over w) p) (site_named (facts_over w) s))) WrongRole ≡ None) one.place t.link_role))))) in
    let unused = both_unused (Some (fact_over w a)) (Some (fact_over w b)) (Some a) (Some b) linking in
    (apart_shown w a is_unused refl unused.0, apart_shown w b is_unused refl unused.1)

pub join_agrees : (w : World) (files : Bool) (p s : List ℕ) (sync : SyncMode) (prot : Prot) → AreDurable w → AreListed w → refused_over w files (Link p s sync prot) ≡ None
    → (step w (LinkAt (site_number w p) (site_number w s) sync FailsWhenFull Joins)).said ≡ Done
unfolding first_name second_name need_of halt_of ask_of first_said_no
join_agrees w files p s sync prot whole listed free =
    let t = passes (facts_over w) files (Link p s sync prot) free in
    let a : ℕ = site_number w p in
    let b : ℕ = site_number w s in
    let one = seat_at w p t.known in
    let two = seat_at w s t.other_known in
    let apart = join_apart w files p s sync prot free in
    let first : site_named (facts_over w) p ≡ Some (linked_fact w a) = one.found ∙ ap (λ (f : SiteFacts). Some f) (fact_apart w a apart.0) in
    let second : site_named (facts_over w) s ≡ Some (linked_fact w b) = two.found ∙ ap (λ (f : SiteFacts). Some f) (fact_apart w b apart.1) in
    let ups = or_parts (not (is_up (w.nodes a).state)) (not (is_up (w.nodes b).state))
    (when_none (not (is_up (w.nodes a).state) || not (is_up (w.nodes b).state)) _
    (subst (λ (o : Option SiteFacts). when (not (is_up (w.nodes a).state) || site_off o) NotUp ≡ None) second (subst (λ (o : Option SiteFacts). when (site_off o || site_off (site_named (facts_over w) s)) NotUp ≡ None) first t.up))) in
    let halts = first_halt (halted_one (Some (linked_fact w a))) (halted_one (Some (linked_fact w b)))
    (subst (λ (o : Option SiteFacts). before (halted_one (Some (linked_fact w a))) (before (halted_one o) None) ≡ None) second
    (subst (λ (o : Option SiteFacts). before (halted_one o) (before (halted_one (site_named (facts_over w) s)) None) ≡ None) first t.running)) in
    let here = here_by w a ups.0 halts.0 in
    let there = here_by w b ups.1 halts.1 in
    let may = not_false (can_link (Some a) (Some b) (Some (linked_fact w a)) (Some (linked_fact w b))) (when_none (not (can_link (Some a) (Some b) (Some (linked_fact w a)) (Some (linked_fact w b)))) _
    (subst (λ (o : Option SiteFacts). when (not (can_link (Some a) (Some b) (Some (linked_fact w a)) o)) WrongRole ≡ None) second
    (subst (λ (o : Option SiteFacts). when (not (can_link (Some a) (Some b) o (site_named (facts_over w) s))) WrongRole ≡ None) first
    (subst (λ (o : Option ℕ). when (not (can_link (Some a) o (site_named (facts_over w) p) (site_named (facts_over w) s))) WrongRole ≡ None) two.place
    (subst (λ (o : Option ℕ). when (not (can_link o (place_named (facts_over w) (Some s)) (site_named (facts_over w) p) (site_named (facts_over w) s))) WrongRole ≡ None) one.place t.link_role))))) in
    let taken = free_link (link_towards (Some (linked_fact w a)) (Some b)) (linked_fact w b)
    (subst (λ (o : Option SiteFacts). linked_already (link_towards (Some (linked_fact w a)) (Some b)) o ≡ None) second
    (subst (λ (o : Option SiteFacts). linked_already (link_towards o (Some b)) (site_named (facts_over w) s) ≡ None) first
    (subst (λ (o : Option ℕ). linked_already (link_towards (site_named (facts_over w) p) o) (site_named (facts_over w) s) ≡ None) two.place t.link_free))) in
    let few = below_limit (link_count (Some (linked_fact w a))) (when_none (nat_le MOST_LINKS (link_count (Some (linked_fact w a)))) _
    (subst (λ (o : Option SiteFacts). when (nat_le MOST_LINKS (link_count o)) (Limit Links MOST_LINKS) ≡ None) first t.link_limit)) in
    let fits = not_false (volumes_agree (Some (linked_fact w a)) (Some (linked_fact w b)) && ring_fits (rvg_of (Some (linked_fact w a))) (rvg_of (Some (linked_fact w b))))
    (when_none (not (volumes_agree (Some (linked_fact w a)) (Some (linked_fact w b)) && ring_fits (rvg_of (Some (linked_fact w a))) (rvg_of (Some (linked_fact w b))))) _
    (subst (λ (o : Option SiteFacts). when (not (volumes_agree (Some (linked_fact w a)) o && ring_fits (rvg_of (Some (linked_fact w a))) (rvg_of o))) Size ≡ None) second
    (subst (λ (o : Option SiteFacts). when (not (volumes_agree o (site_named (facts_over w) s) && ring_fits (rvg_of o) (rvg_of (site_named (facts_over w) s)))) Size ≡ None) first t.link_size))) in
    let links : count_links_of w a ≡ link_count (Some (linked_fact w a)) = listed.count a ∙ sym (counted_here w whole listed p s one two here there a here.up) in
    ap (λ (o : Outcome). o.said)
    (joins_step w a b sync (record {
      below_a = one.below;
      below_b = two.below;
      first = here;
      second = there;
      may = can w whole listed p s one two here there may;
      free = free_here w whole listed p s one two here there taken;
      few = omega (arith, few, links);
      fits = fits_here w whole listed p s one two here there fits;
    }))
