-- A write that no test refuses is let in by the links of its site.
use Rattle.std.proofs.Common.{◌≡◌, ◌∙◌, ◌+◌, ◌≤◌, ℕ, List, [], ◌∷◌, length, zip, Bool, true, false, ap, sym, subst, refl, arith}
use Rattle.std.specs.Prelude.{Option, Some, None, ◌&&◌, ◌*◌, ltb, nat_le, replicate, if◌then◌else◌}
use Rattle.std.proofs.lemmas.Bool.Decides.{nat_tests}
use Rattle.vx_model.specs.Content.{blocks_in}
use Rattle.vx_model.specs.Sites.{is_up}
use Rattle.vx_model.specs.declared.no.No.TheVariants.{LinkDown}
use Rattle.vx_model.specs.declared.site.SiteState.{SiteState}
use Rattle.vx_history.specs.Admission.{Held, Link_is_down, Log_is_full, Log_stalls, Goes, is_down, first_down, first_full, full_log_of, held_by_room, held_when_full, is_holding, or_else, unless_held, changes}
use Rattle.vx_history.specs.Events.{admitted, linked_sites, plain_links, log_uses, used_above}
use Rattle.vx_history.specs.LinkForms.{plain_link}
use Rattle.vx_model.specs.declared.link.Link.{Link as PlainLink}
use Rattle.vx_history.specs.World.{Node, Link, World}
use Rattle.vx_history.specs.declared.admission.Change.{Change}
use Rattle.vx_policy.specs.Verdicts.{refusal_if}
use Rattle.vx_order.specs.declared.facts.SiteFacts.{SiteFacts}
use Rattle.vx_order.specs.declared.facts.VolumeFacts.{VolumeFacts}
use Rattle.vx_order.specs.declared.facts.VolumeKind.{VolumeKind}
use Rattle.vx_order.specs.declared.facts.VolumeKind.TheVariants.{Data}
use Rattle.vx_order.specs.declared.span.Span.{Span}
use Rattle.vx_order.specs.declared.span.Way.{Way}
use Rattle.vx_order.specs.declared.span.Way.TheVariants.{Writes}
use Rattle.vx_order.specs.Calls.{call_role, is_data, is_write, span_role, span_unknown, span_size}
use Rattle.vx_order.specs.Holding.{record_size, down_link, held_down, span_down, with_name, full_link, full_in, held_full, span_full}
use Rattle.vx_order.specs.Links.{site_name}
use Rattle.vx_order.specs.Sites.{site_named, volume_of, rvg_of}
use Rattle.vx_order.specs.Spans.{span_of}
use Rattle.vx_order.specs.Subject.{first_name, halt_of}
use Rattle.vx_order.specs.Tests.{before}
use Rattle.vx_script.specs.declared.line.ScriptLine.TheVariants.{Write, Put}
use Rattle.vx_events.specs.Facts.{site_number, group_by}
use Rattle.vx_events.specs.GroupLines.{is_over_group}
use Rattle.vx_events.specs.LinkedFacts.{link_facts, links_by, links_of_site, linked_fact}
use Rattle.vx_events.specs.StepsOver.{facts_over, refused_over}
use Rattle.vx_events.specs.Lines.{write_in}
use Rattle.vx_events.proofs.LinkTesting.{seat_at}
use Rattle.vx_events.proofs.OverSeats.{fact_apart}
use Rattle.vx_events.proofs.Refused.{passes}
use Rattle.vx_events.proofs.RefusedCalls.{Calling, calling, sized}
use Rattle.vx_events.proofs.Testing.{blocks_filled}
use Rattle.vx_events.proofs.DataNamed.{written_kind}
use Rattle.vx_events.specs.RvgOver.{is_plain_kind, kind_named}
use Rattle.vx_events.specs.RvgViews.{is_over_rvg}

-- a link that needs nothing of the log is held by no room
held_needed : (need room : ℕ) (l : PlainLink) (used : ℕ) → held_by_room need room l (if is_holding l then used else 0) ≡ held_by_room need room l used
held_needed need room l used = by (is_holding l)
  where
    by : (b : Bool) → (if b && ltb room (need + (if b then used else 0)) then held_when_full (full_log_of l) l.site else None)
        ≡ (if b && ltb room (need + used) then held_when_full (full_log_of l) l.site else None)
    by true = refl
    by false = refl

module _ (sites : List SiteFacts) (n : Node) (row : ℕ → Link) where
  -- no link is down
  down_none : (ss : List ℕ) → down_link sites (link_facts n row ss) ≡ None → first_down (plain_links row ss) ≡ None
  down_none [] e = refl
  down_none (s ∷ ss) e = by (is_down (plain_link s (row s))) (λ is. down_none ss is) e
    where
      by : (b : Bool) → (down_link sites (link_facts n row ss) ≡ None → first_down (plain_links row ss) ≡ None) → (if b then Some (LinkDown (site_name sites s)) else down_link sites (link_facts n row ss)) ≡ None
          → (if b then Some (Link_is_down s) else first_down (plain_links row ss)) ≡ None
      by true more is = absurd (cc)
      by false more is = more is

  -- none leaves too little room
  full_none : (need room : ℕ) (ss : List ℕ) → full_link sites need room (link_facts n row ss) ≡ None → first_full need room (zip (plain_links row ss) (log_uses n row ss)) ≡ None
  full_none need room [] e = refl
  full_none need room (s ∷ ss) e =
      by (held_by_room need room (plain_link s (row s)) (used_above n s (row s))) (λ is. full_none need room ss is)
      (subst (λ (h : Option Held). before (with_name (site_name sites s) (refusal_if h)) (full_link sites need room (link_facts n row ss)) ≡ None) (held_needed need room (plain_link s (row s)) (used_above n s (row s))) e)
    where
      by : (h : Option Held) → (full_link sites need room (link_facts n row ss) ≡ None → first_full need room (zip (plain_links row ss) (log_uses n row ss)) ≡ None) → before (with_name (site_name sites s) (refusal_if h)) (full_link sites need room (link_facts n row ss)) ≡ None
          → or_else h (first_full need room (zip (plain_links row ss) (log_uses n row ss))) ≡ None
      by None more is = more is
      by (Some (Link_is_down t)) more is = absurd (cc)
      by (Some (Log_is_full t)) more is = absurd (cc)
      by (Some (Log_stalls t)) more is = absurd (cc)

-- a volume that is logged, and a write that is not too long
record_is : (volume : VolumeFacts) (span : Span) → span.way ≡ Writes → volume.kind ≡ Data → span.count ≤ 16 → record_size (Some volume) span ≡ Some (span.count + 1)
record_is volume span way kind few =
    let short : nat_le span.count 16 ≡ true = grind (arith, nat_tests) in
    ap (λ (w : Way). if is_write w && (is_data volume.kind && nat_le span.count 16) then Some (span.count + 1) else None) way
    ∙ ap (λ (k : VolumeKind). if is_data k && nat_le span.count 16 then Some (span.count + 1) else None) kind
    ∙ ap (λ (b : Bool). if b then Some (span.count + 1) else None) short

-- the volume of a write that none of the tests refuses
data_in : (w : World) (name : List ℕ) (span : Span) → span.way ≡ Writes → site_named (facts_over w) name ≡ Some (linked_fact w (site_number w name)) → (c : Calling (linked_fact w (site_number w name)) span)
    → (is_over_rvg (w.nodes (site_number w name)) ≡ true → is_plain_kind (kind_named (w.nodes (site_number w name)) span.volume) ≡ false)
    → span_role (site_named (facts_over w) name) (Some span) ≡ None → c.volume.kind ≡ Data
data_in w name span way found c plain role =
    let f : SiteFacts = linked_fact w (site_number w name) in
    let here : call_role (rvg_of (Some f)) (volume_of (Some f) span.volume) span.way ≡ None = subst (λ (o : Option SiteFacts). span_role o (Some span) ≡ None) found role in
    let named : call_role (rvg_of (Some f)) (Some c.volume) span.way ≡ None = subst (λ (o : Option VolumeFacts). call_role (rvg_of (Some f)) o span.way ≡ None) c.volume_is here in
    written_kind (w.nodes (site_number w name)) span.volume c.volume (rvg_of (Some f)) c.found
    (subst (λ (y : Way). call_role (rvg_of (Some f)) (Some c.volume) y ≡ None) way named) plain

-- a site that is up, and the run of blocks of a write that none of its tests refuses
module _ (w : World) (name : List ℕ) (span : Span) (way : span.way ≡ Writes) (found : site_named (facts_over w) name ≡ Some (linked_fact w (site_number w name))) (c : Calling (linked_fact w (site_number w name)) span)
    (kind : c.volume.kind ≡ Data) (few : span.count ≤ 16)
    (down : span_down (facts_over w) (site_named (facts_over w) name) (Some span) ≡ None) (full : span_full (facts_over w) (site_named (facts_over w) name) (Some span) ≡ None) where
  abbrev a : ℕ
  a = site_number w name

  abbrev n : Node
  n = w.nodes a

  abbrev ss : List ℕ
  ss = linked_sites (w.links a) w.sites 0 w.sites

  record_there : record_size (volume_of (Some (linked_fact w a)) span.volume) span ≡ Some (span.count + 1)
  record_there =
      ap (λ (o : Option VolumeFacts). record_size o span) c.volume_is
      ∙ record_is c.volume span way kind few

  none_down : first_down (plain_links (w.links a) ss) ≡ None
  none_down =
      down_none (facts_over w) n (w.links a) ss
      (sym (ap (λ (t : SiteState). if is_up t then down_link (facts_over w) (links_by t (links_of_site w a)) else None) c.up)
      ∙ ap (λ (o : Option ℕ). held_down (facts_over w) (Some (linked_fact w a)) o) (sym record_there)
      ∙ ap (λ (o : Option SiteFacts). span_down (facts_over w) o (Some span)) (sym found) ∙ down)

  none_full : first_full (span.count + 1) n.ring (zip (plain_links (w.links a) ss) (log_uses n (w.links a) ss)) ≡ None
  none_full =
      full_none (facts_over w) n (w.links a) (span.count + 1) n.ring ss
      (sym (ap (λ (t : SiteState). if is_up t then full_in (facts_over w) (span.count + 1) (group_by t n) (links_by t (links_of_site w a)) else None) c.up)
      ∙ ap (λ (o : Option ℕ). held_full (facts_over w) (Some (linked_fact w a)) o) (sym record_there)
      ∙ ap (λ (o : Option SiteFacts). span_full (facts_over w) o (Some span)) (sym found) ∙ full)

  pub let_in : (bytes : List ℕ) → blocks_in bytes ≡ span.count → (cs : List Change) × (admitted w a (write_in w name span.volume span.start bytes) ≡ Goes cs)
  let_in bytes many =
      let all : List Change = changes (span.count + 1) n.ring (zip (plain_links (w.links a) ss) (log_uses n (w.links a) ss)) in (
        all,
        ap (λ (k : ℕ). unless_held (first_down (plain_links (w.links a) ss)) (unless_held (first_full (k + 1) n.ring (zip (plain_links (w.links a) ss) (log_uses n (w.links a) ss))) (Goes (changes (k + 1) n.ring (zip (plain_links (w.links a) ss) (log_uses n (w.links a) ss)))))) many
            ∙ ap (λ (o : Option Held). unless_held o (unless_held (first_full (span.count + 1) n.ring (zip (plain_links (w.links a) ss) (log_uses n (w.links a) ss))) (Goes all))) none_down
            ∙ ap (λ (o : Option Held). unless_held o (Goes all)) none_full,
      )

pub write_let_in : (w : World) (files : Bool) (name volume : List ℕ) (start count fill : ℕ) → is_over_group (w.nodes (site_number w name)) ≡ false
    → (is_over_rvg (w.nodes (site_number w name)) ≡ true → is_plain_kind (kind_named (w.nodes (site_number w name)) volume) ≡ false) → refused_over w files (Write name volume start count fill) ≡ None
    → (cs : List Change) × (admitted w (site_number w name) (write_in w name volume start (replicate (512 * count) fill)) ≡ Goes cs)
unfolding first_name span_of halt_of
write_let_in w files name volume start count fill apart plain free =
    let p = passes (facts_over w) files (Write name volume start count fill) free in
    let span : Span = record { volume = volume; start = start; count = count; way = Writes } in
    let found : site_named (facts_over w) name ≡ Some (linked_fact w (site_number w name)) =
    (seat_at w name p.known).found ∙ ap (λ (f : SiteFacts). Some f) (fact_apart w (site_number w name) apart) in
    let c = calling (linked_fact w (site_number w name)) span (subst (λ (o : Option SiteFacts). span_unknown o (Some span) ≡ None) found p.volume) in
    let_in w name span refl found c (data_in w name span refl found c plain p.call_role) (sized (rvg_of (Some (linked_fact w (site_number w name)))) (volume_of (Some (linked_fact w (site_number w name))) span.volume) span (subst (λ (o : Option SiteFacts). span_size o (Some span) ≡ None) found p.call_size)).few p.call_up p.call_room
    (replicate (512 * count) fill) (blocks_filled count fill)

pub put_let_in : (w : World) (files : Bool) (name volume : List ℕ) (start : ℕ) (bytes : List ℕ) → is_over_group (w.nodes (site_number w name)) ≡ false
    → (is_over_rvg (w.nodes (site_number w name)) ≡ true → is_plain_kind (kind_named (w.nodes (site_number w name)) volume) ≡ false) → refused_over w files (Put name volume start bytes) ≡ None → length bytes ≡ 512
    → (cs : List Change) × (admitted w (site_number w name) (write_in w name volume start bytes) ≡ Goes cs)
unfolding first_name span_of halt_of
put_let_in w files name volume start bytes apart plain free one =
    let p = passes (facts_over w) files (Put name volume start bytes) free in
    let span : Span = record { volume = volume; start = start; count = 1; way = Writes } in
    let found : site_named (facts_over w) name ≡ Some (linked_fact w (site_number w name)) =
    (seat_at w name p.known).found ∙ ap (λ (f : SiteFacts). Some f) (fact_apart w (site_number w name) apart) in
    let c = calling (linked_fact w (site_number w name)) span (subst (λ (o : Option SiteFacts). span_unknown o (Some span) ≡ None) found p.volume) in
    let_in w name span refl found c (data_in w name span refl found c plain p.call_role) (sized (rvg_of (Some (linked_fact w (site_number w name)))) (volume_of (Some (linked_fact w (site_number w name))) span.volume) span (subst (λ (o : Option SiteFacts). span_size o (Some span) ≡ None) found p.call_size)).few p.call_up p.call_room
    bytes (omega (arith, one))
