-- The line that detaches a plex, and what refuses one that attaches it.
use Rattle.std.proofs.Common.{◌≡◌, ◌∙◌, ◌⊎◌, ◌-◌, ◌<◌, ℕ, zero, suc, Bool, true, false, List, length, ap, sym, subst, refl, arith, inl, inr, ⊎_elim}
use Rattle.std.specs.Prelude.{Option, Some, None, not, ◌&&◌, ◌||◌, ◌==◌, nat_le, nat_lt, if◌then◌else◌, slice_get, Result, Ok, Err, option_map}
use Rattle.std.proofs.lemmas.Bool.{and_parts, cases_eq, not-true, or_parts}
use Rattle.std.proofs.lemmas.Bool.Decides.{nat_tests}
use Rattle.std.proofs.lemmas.Option.{slice_get-map, slice_get_within}
use Rattle.vx_model.specs.declared.errors.OutOfMemory.{OutOfMemory}
use Rattle.vx_model.specs.declared.errors.Stop.{Stop}
use Rattle.vx_model.specs.declared.errors.Stop.TheVariants.{No as StopsBy, OutOfMemory as MemoryStop}
use Rattle.vx_model.specs.declared.no.Counted.TheVariants.{Number as Numbers}
use Rattle.vx_model.specs.declared.no.Named.TheVariants.{Number}
use Rattle.vx_model.specs.declared.no.No.{No}
use Rattle.vx_model.specs.declared.no.No.TheVariants.{LastPlex, Limit, Unknown}
use Rattle.vx_model.specs.declared.site.PlexState.{PlexState}
use Rattle.vx_model.specs.declared.site.PlexState.TheVariants.{Active, Clean, Stale}
use Rattle.vx_disk.specs.declared.shelf.Shelf.{Ghosts}
use Rattle.vx_config.specs.Checks.{plexes_of, plexes_or}
use Rattle.vx_model.specs.declared.limits.TheConstants.{MOST_NUMBER}
use Rattle.vx_config.specs.Table.{greatest}
use Rattle.vx_config.specs.declared.config.Config.{Config}
use Rattle.vx_config.specs.declared.entry.PlexEntry.{PlexEntry}
use Rattle.vx_config.specs.declared.entry.VolumeEntry.{VolumeEntry}
use Rattle.vx_history.specs.Doubts.{Doubted}
use Rattle.vx_history.specs.Groups.{GroupNode, NoteSettles, NoteUnsettles}
use Rattle.vx_history.specs.World.{Node}
use Rattle.vx_layout.specs.Places.{plex_at}
use Rattle.vx_volume.specs.Plexes.{active, active_or}
use Rattle.vx_group.specs.Dets.{any_below, det_refusal, is_other, margin}
use Rattle.vx_group.specs.Attaches.{att_refusal}
use Rattle.vx_order.specs.declared.facts.VolumeFacts.{VolumeFacts}
use Rattle.vx_script.specs.declared.line.ScriptLine.TheVariants.{PlexAttach, PlexDetach}
use Rattle.vx_grouped.specs.ConfigMoves.{DetCuts, DetDone, DetFails, none_again}
use Rattle.vx_grouped.specs.GroupNotes.{NotesConfig}
use Rattle.vx_grouped.specs.GroupSites.{UpNoted}
use Rattle.vx_grouped.specs.SiteEnds.{DetCalled, refuses_att, refuses_det}
use Rattle.vx_grouped.specs.declared.group_site.GroupSite.{GroupSite}
use Rattle.vx_grouped.specs.declared.group_site.GroupSite.TheVariants.{Up as SiteUp, Deported as SiteAway, Down as SiteDown, Marked, Gone as SiteGone}
use Rattle.vx_diskset.specs.GroupCalls.{AtPlain, OnSites}
use Rattle.vx_diskset.specs.declared.disk_set.DiskSet.{DiskSet}
use Rattle.vx_diskset.specs.declared.disk_set.DiskSet.TheVariants.{OfGroup}
use Rattle.vx_diskset.specs.declared.group_set.GroupSet.{GroupSet}
use Rattle.vx_events.proofs.Places.{some_same}
use Rattle.vx_events.specs.GroupConfigs.{ConfigKeeps}
use Rattle.vx_events.specs.GroupEnds.{GroupWants}
use Rattle.vx_events.specs.GroupLines.{plain_number}
use Rattle.vx_events.specs.GroupNotes.{note_at, Reconfigures}
use Rattle.vx_events.specs.GroupReplies.{IsLastPlex, entry_state, plex_entry_state, plex_state}
use Rattle.vx_events.specs.GroupViews.{noted_table, plain_fact, volumes_of}
use Rattle.vx_events.specs.StepsOver.{fact_of_group}
use Rattle.vx_events.specs.declared.said.Said.{Said}
use Rattle.vx_events.specs.declared.said.Said.TheVariants.{Done}
use Rattle.vx_yard.proofs.Carrying.{SameLoad}
use Rattle.vx_yard.specs.Standing.{LeadsOver, LeadsOverIs, StandsFor}
use Rattle.vx_yard.specs.declared.yard.Yard.{Yard}
use Rattle.vx_above.proofs.Changing.{PutsOr, det_table, det_to, keeps_table, keeps_to, notes_config, notes_table, reconfigures, stated_table, stated_to}
use Rattle.vx_group_lines.proofs.GroupCalls.{maps_were, sets_then}
use Rattle.vx_group_lines.proofs.GroupDone.{done_leads, refused_leads}
use Rattle.vx_group_lines.proofs.GroupEnding.{Calling, Midway, SameTable}
use Rattle.vx_grouped.specs.SiteMaps.{DetMapped, DetMapsDone, DetMapsFailed, StandMaps, UpMaps}
use Rattle.vx_events.specs.GroupMaps.{MapsDetached, MapsLost, MapsUndetached}
use Rattle.vx_group_lines.proofs.MapGoing.{with_goes}
use Rattle.vx_group_lines.proofs.MapLines.{det_named, logs_low, undet_named}
use Rattle.vx_group_lines.proofs.Plains.{det_rvg, rvg_goes}
use Rattle.vx_group_lines.proofs.Serials.{det_left, lacks_by, serial_noted}
use Rattle.vx_group_lines.specs.Noting.{IsNotedRefusal, reply_noted}

-- ---- tests in order

some_first : {A : Type 0} (b : Bool) (x y : A) (o : Option A) → (if b then Some x else o) ≡ Some y → ((b ≡ true) × (x ≡ y)) ⊎ ((b ≡ false) × (o ≡ Some y))
some_first true x y o is = inl (refl, some_same is)
some_first false x y o is = inr (refl, is)

none_some : {A : Type 0} (b : Bool) (x y : A) → (if b then Some x else None) ≡ Some y → (b ≡ true) × (x ≡ y)
none_some true x y is = (refl, some_same is)
none_some false x y is = absurd (cc)

no_other : (test : ℕ → Bool) (n q : ℕ) → any_below test n ≡ false → q < n → test q ≡ false
no_other test zero q none below = absurd (omega (arith, below))
no_other test (suc n) q none below =
    let parts = or_parts (any_below test n) (test n) none in
    ⊎_elim (λ (same : q ≡ n). ap (λ (k : ℕ). test k) same ∙ parts.1) (λ apart. no_other test n q parts.0 (omega (arith, below, apart))) (cases_eq q n)

-- ---- the state of a plex

abbrev is_on : PlexState → Bool
is_on Active = true
is_on Clean = false
is_on Stale = false

abbrev plex_of : Option VolumeEntry → ℕ → Option PlexEntry
plex_of None p = None
plex_of (Some v) p = slice_get v.plexes p

active_state : (o : Option PlexEntry) → active_or o ≡ true → entry_state o ≡ Some Active
active_state None is = absurd (cc)
active_state (Some p) is = by_state p.state is
  where
    by_state : (t : PlexState) → is_on t ≡ true → Some t ≡ Some Active
    by_state Active is = refl
    by_state Clean is = absurd (cc)
    by_state Stale is = absurd (cc)

state_active : (o : Option PlexEntry) → entry_state o ≡ Some Active → active_or o ≡ true
state_active None is = absurd (cc)
state_active (Some p) is = ap (λ (t : PlexState). is_on t) (some_same is)

entry_at : (v : Option VolumeEntry) (p : ℕ) → plex_entry_state v p ≡ entry_state (plex_of v p)
entry_at None p = refl
entry_at (Some v) p = refl

-- where the note has this configuration
noted_state : (note : GroupNode) (c : Config) (v p : ℕ) → NotesConfig note c → plex_state note v p ≡ entry_state (plex_at c v p)
noted_state note c v p noted =
    ap (λ (o : Option Config). plex_entry_state (slice_get (volumes_of o) v) p) (notes_config note c noted) ∙ entry_at (slice_get c.volumes v) p

pub state_on : (note : GroupNode) (c : Config) (v p : ℕ) → NotesConfig note c → active c v p ≡ true → plex_state note v p ≡ Some Active
unfolding active
state_on note c v p noted on = noted_state note c v p noted ∙ active_state (plex_at c v p) on

pub on_state : (note : GroupNode) (c : Config) (v p : ℕ) → NotesConfig note c → plex_state note v p ≡ Some Active → active c v p ≡ true
unfolding active
on_state note c v p noted is = state_active (plex_at c v p) (sym (noted_state note c v p noted) ∙ is)

on_within : (c : Config) (v p : ℕ) → active c v p ≡ true → p < plexes_of c v
unfolding active
on_within c v p on = by_volume (slice_get c.volumes v) on
  where
    by_plex : (ps : List PlexEntry) (o : Option PlexEntry) → slice_get ps p ≡ o → active_or o ≡ true → p < length ps
    by_plex ps None at is = absurd (cc)
    by_plex ps (Some x) at is = slice_get_within ps p x at

    by_volume : (o : Option VolumeEntry) → active_or (plex_of o p) ≡ true → p < plexes_or o
    by_volume None is = absurd (cc)
    by_volume (Some x) is = by_plex x.plexes (slice_get x.plexes p) refl is

-- no other plex takes part
last_plex : (note : GroupNode) (c : Config) (v p : ℕ) → NotesConfig note c → active c v p ≡ true → any_below (is_other c v p) (plexes_of c v) ≡ false → IsLastPlex note v p
last_plex note c v p noted on none = record {
  takes = state_on note c v p noted on;
  alone = λ q is.
      let here : active c v q ≡ true = on_state note c v q noted is in
      let other : (not (q == p) && active c v q) ≡ false = no_other (is_other c v p) (plexes_of c v) q none (on_within c v q here) in
      same_by q (q == p) refl (sym (ap (λ (b : Bool). not (q == p) && b) here) ∙ other);
}
  where
    same_by : (q : ℕ) (b : Bool) → (q == p) ≡ b → (not b && true) ≡ false → q ≡ p
    same_by q true is e = grind (arith, nat_tests)
    same_by q false is e = absurd (cc)

-- ---- what refuses a detach and an attach

-- a volume and a plex that the tests found
pub record HasPlex (c : Config) (v p : ℕ) : Type 0 where
  pub volume : v < length c.volumes
  pub plex : p < plexes_of c v

past_of : (n v : ℕ) → v < n → nat_le n v ≡ true → ⊥
past_of n v below past = grind (arith, nat_tests)

-- too few serials are left
limit_first : (c : Config) (why : No) → (if nat_lt (greatest - margin) c.serial then Some (Limit Numbers greatest) else None) ≡ Some why → (why ≡ Limit Numbers MOST_NUMBER) × (nat_lt (greatest - margin) c.serial ≡ true)
limit_first c why is = let parts = none_some (nat_lt (greatest - margin) c.serial) (Limit Numbers greatest) why is in (sym parts.1, parts.0)

det_why : (note : GroupNode) (c : Config) (v p : ℕ) (why : No) → NotesConfig note c → HasPlex c v p → det_refusal c v p ≡ Some why → ((why ≡ LastPlex) × IsLastPlex note v p) ⊎ ((why ≡ Limit Numbers MOST_NUMBER) × (nat_lt (greatest - margin) c.serial ≡ true))
det_why note c v p why noted has is = ⊎_elim
    (λ first. absurd (past_of (length c.volumes) v has.volume first.0))
    (λ second. ⊎_elim
    (λ past. absurd (past_of (plexes_of c v) p has.plex past.0))
    (λ third. ⊎_elim
    (λ last.
    let parts = and_parts (active c v p) (not (any_below (is_other c v p) (plexes_of c v))) last.0 in
    inl (sym last.1, last_plex note c v p noted parts.0 (not-true (any_below (is_other c v p) (plexes_of c v)) parts.1)))
    (λ rest. inr (limit_first c why rest.1))
    (some_first (active c v p && not (any_below (is_other c v p) (plexes_of c v))) LastPlex why _ third.1))
    (some_first (nat_le (plexes_of c v) p) (Unknown (Number p)) why _ second.1))
    (some_first (nat_le (length c.volumes) v) (Unknown (Number v)) why _ is)

att_why : (c : Config) (v p : ℕ) (why : No) → HasPlex c v p → att_refusal c v p ≡ Some why → (why ≡ Limit Numbers MOST_NUMBER) × (nat_lt (greatest - margin) c.serial ≡ true)
att_why c v p why has is = ⊎_elim
    (λ first. absurd (past_of (length c.volumes) v has.volume first.0))
    (λ second. ⊎_elim
    (λ past. absurd (past_of (plexes_of c v) p has.plex past.0))
    (λ rest. limit_first c why rest.1)
    (some_first (nat_le (plexes_of c v) p) (Unknown (Number p)) why _ second.1))
    (some_first (nat_le (length c.volumes) v) (Unknown (Number v)) why _ is)

-- ---- the last plex is refused

first_not : {A : Type 0} (b : Bool) (x y : A) (o : Option A) → b ≡ false → o ≡ Some y → (if b then Some x else o) ≡ Some y
first_not true x y o off is = absurd (cc)
first_not false x y o off is = is

first_is : {A : Type 0} (b : Bool) (x : A) (o : Option A) → b ≡ true → (if b then Some x else o) ≡ Some x
first_is true x o on = refl
first_is false x o on = absurd (cc)

within_of : (n v : ℕ) → v < n → nat_le n v ≡ false
within_of n v below = grind (arith, nat_tests)

det_last : (c : Config) (v p : ℕ) → HasPlex c v p → active c v p ≡ true → any_below (is_other c v p) (plexes_of c v) ≡ false → det_refusal c v p ≡ Some LastPlex
det_last c v p has on none =
    first_not (nat_le (length c.volumes) v) (Unknown (Number v)) LastPlex _ (within_of (length c.volumes) v has.volume)
    (first_not (nat_le (plexes_of c v) p) (Unknown (Number p)) LastPlex _ (within_of (plexes_of c v) p has.plex)
    (first_is (active c v p && not (any_below (is_other c v p) (plexes_of c v))) LastPlex _ (ap (λ (b : Bool). b && not (any_below (is_other c v p) (plexes_of c v))) on ∙ ap not none)))

none_below : (test : ℕ → Bool) (n : ℕ) → ((q : ℕ) → test q ≡ false) → any_below test n ≡ false
none_below test zero none = refl
none_below test (suc n) none = ap (λ (b : Bool). b || test n) (none_below test n none) ∙ none n

-- no plex beside this one takes part
no_more : (note : GroupNode) (c : Config) (v p : ℕ) → NotesConfig note c → IsLastPlex note v p → (q : ℕ) → is_other c v p q ≡ false
no_more note c v p noted last q = by_on (active c v q) refl
  where
    and_off : (a : Bool) → (a && false) ≡ false
    and_off true = refl
    and_off false = refl

    same_is : q ≡ p → (q == p) ≡ true
    same_is same = grind (arith, nat_tests)

    by_on : (b : Bool) → active c v q ≡ b → (not (q == p) && active c v q) ≡ false
    by_on true on = ap (λ (b : Bool). not b && active c v q) (same_is (last.alone q (state_on note c v q noted on)))
    by_on false off = ap (λ (b : Bool). not (q == p) && b) off ∙ and_off (not (q == p))

last_refused : (note : GroupNode) (c : Config) (v p : ℕ) → NotesConfig note c → HasPlex c v p → IsLastPlex note v p → det_refusal c v p ≡ Some LastPlex
last_refused note c v p noted has last = det_last c v p has (on_state note c v p noted last.takes) (none_below (is_other c v p) (plexes_of c v) (no_more note c v p noted last))

-- the plex that the tests found is one of the configuration
facts_length : (vs : List VolumeEntry) (v : ℕ) (o : Option VolumeEntry) (f : VolumeFacts) (p : ℕ) → slice_get vs v ≡ o → option_map plain_fact o ≡ Some f → p < f.plexes → (v < length vs) × (p < plexes_or o)
facts_length vs v None f p at is below = absurd (cc)
facts_length vs v (Some x) f p at is below = (slice_get_within vs v x at, omega (arith, below, ap (λ (k : VolumeFacts). k.plexes) (some_same is)))

pub has_plex_at : (note : GroupNode) (c : Config) (v p : ℕ) (f : VolumeFacts) → NotesConfig note c → slice_get (noted_table note) v ≡ Some f → p < f.plexes → HasPlex c v p
has_plex_at note c v p f noted at below =
    let parts = facts_length c.volumes v (slice_get c.volumes v) f p refl
    (sym (slice_get-map plain_fact c.volumes v) ∙ ap (λ (xs : List VolumeFacts). slice_get xs v) (sym (notes_table note c noted)) ∙ at) below in
    record { volume = parts.0; plex = parts.1 }

module _ {R : Type 0} {g : Ghosts R} where
  pub det_wants : (n : Node) (note : GroupNode) (e : GroupSite R g) (name volume : List ℕ) (p : ℕ) (f : VolumeFacts) (why : No) → UpNoted n note e → StandMaps note e → slice_get (noted_table note) (plain_number note volume) ≡ Some f → p < f.plexes
      → refuses_det e (plain_number note volume) p ≡ Some why → GroupWants note (PlexDetach name volume p) why
  det_wants n note (SiteUp group) name volume p f why it maps at below is =
      let noted : NotesConfig note group.core.inner.config = record { is = it.at.lies.config; spells = it.spells } in
      ⊎_elim
      (λ last. subst (λ (w : No). GroupWants note (PlexDetach name volume p) w) (sym last.0) last.1)
      (λ limit. subst (λ (w : No). GroupWants note (PlexDetach name volume p) w) (sym limit.0) (tt, refl, lacks_by note group.core.inner.config.serial (serial_noted note group maps) limit.1))
      (det_why note group.core.inner.config (plain_number note volume) p why noted (has_plex_at note group.core.inner.config (plain_number note volume) p f noted at below) is)
  det_wants n note (SiteAway idle) name volume p f why it maps at below is = absurd it
  det_wants n note (SiteDown idle) name volume p f why it maps at below is = absurd it
  det_wants n note (Marked rack) name volume p f why it maps at below is = absurd it
  det_wants n note SiteGone name volume p f why it maps at below is = absurd it

  pub att_wants : (n : Node) (note : GroupNode) (e : GroupSite R g) (name volume : List ℕ) (p : ℕ) (f : VolumeFacts) (why : No) → UpNoted n note e → StandMaps note e → slice_get (noted_table note) (plain_number note volume) ≡ Some f → p < f.plexes
      → refuses_att e (plain_number note volume) p ≡ Some why → GroupWants note (PlexAttach name volume p) why
  att_wants n note (SiteUp group) name volume p f why it maps at below is =
      let noted : NotesConfig note group.core.inner.config = record { is = it.at.lies.config; spells = it.spells } in
      let limit = att_why group.core.inner.config (plain_number note volume) p why (has_plex_at note group.core.inner.config (plain_number note volume) p f noted at below) is in
      subst (λ (w : No). GroupWants note (PlexAttach name volume p) w) (sym limit.0) (tt, refl, lacks_by note group.core.inner.config.serial (serial_noted note group maps) limit.1)
  att_wants n note (SiteAway idle) name volume p f why it maps at below is = absurd it
  att_wants n note (SiteDown idle) name volume p f why it maps at below is = absurd it
  att_wants n note (Marked rack) name volume p f why it maps at below is = absurd it
  att_wants n note SiteGone name volume p f why it maps at below is = absurd it

  -- a detach that is done is not of the last plex that takes part
  pub not_last : (n : Node) (note : GroupNode) (e : GroupSite R g) (v p : ℕ) (f : VolumeFacts) → UpNoted n note e → slice_get (noted_table note) v ≡ Some f → p < f.plexes
      → ((no : No) → refuses_det e v p ≡ Some no → (let r : Result (Unit {0}) Stop = Ok (tt {0}) in r) ≡ Err (StopsBy no)) → IsLastPlex note v p → ⊥
  not_last n note (SiteUp group) v p f it at below refused last =
      let noted : NotesConfig note group.core.inner.config = record { is = it.at.lies.config; spells = it.spells } in
      let clash = refused LastPlex (last_refused note group.core.inner.config v p noted (has_plex_at note group.core.inner.config v p f noted at below) last) in
      absurd (cc)
  not_last n note (SiteAway idle) v p f it at below refused last = it
  not_last n note (SiteDown idle) v p f it at below refused last = it
  not_last n note (Marked rack) v p f it at below refused last = it
  not_last n note SiteGone v p f it at below refused last = it

  -- by the numbers that the call got
  pub det_refuses : (before : DiskSet R g) (set : GroupSet R g) {v w p q : ℕ} → before ≡ OfGroup set → v ≡ w → p ≡ q → ((no : No) → AtPlain (λ o. refuses_det o v p ≡ Some no) before → (let r : Result (Unit {0}) Stop = Ok (tt {0}) in r) ≡ Err (StopsBy no))
      → (no : No) → refuses_det set.site w q ≡ Some no → (let r : Result (Unit {0}) Stop = Ok (tt {0}) in r) ≡ Err (StopsBy no)
  det_refuses before set {v} {w} {p} {q} is number plex refused why at =
      refused why (subst (λ (x : DiskSet R g). AtPlain (λ (o : GroupSite R g). refuses_det o v p ≡ Some why) x) (sym is)
      (subst (λ (k : ℕ). refuses_det set.site k p ≡ Some why) (sym number) (subst (λ (k : ℕ). refuses_det set.site w k ≡ Some why) (sym plex) at)))

  pub det_at : (n : Node) (note : GroupNode) {v w p q : ℕ} → v ≡ w → p ≡ q → (r : Result (Unit {0}) Stop) (before after : DiskSet R g) → OnSites (λ o e. DetCalled n note v p o e r) before after
      → OnSites (λ o e. DetCalled n note w q o e r) before after
  det_at n note {v} {w} {p} {q} number plex r before after it =
      subst (λ (k : ℕ). OnSites (λ (o e : GroupSite R g). DetCalled n note k q o e r) before after) number
      (subst (λ (k : ℕ). OnSites (λ (o e : GroupSite R g). DetCalled n note v k o e r) before after) plex it)

  pub det_maps_at : {v w p q : ℕ} → v ≡ w → p ≡ q → (r : Result (Unit {0}) Stop) (before after : DiskSet R g) → OnSites (λ o e. DetMapped v p o e r) before after → OnSites (λ o e. DetMapped w q o e r) before after
  det_maps_at {v} {w} {p} {q} number plex r before after it =
      subst (λ (k : ℕ). OnSites (λ (o e : GroupSite R g). DetMapped k q o e r) before after) number (subst (λ (k : ℕ). OnSites (λ (o e : GroupSite R g). DetMapped v k o e r) before after) plex it)

  -- ---- the line that detaches a plex

  module _ (d : Doubted) (old new : Yard R g) (name volume : List ℕ) (plex s : ℕ) (before after : DiskSet R g) (found : VolumeFacts) (stands : StandsFor d old)
      (it : Calling d (PlexDetach name volume plex) old new name s before after)
      (at : slice_get (noted_table (note_at (d.world.nodes s))) (plain_number (note_at (d.world.nodes s)) volume) ≡ Some found) (below : plex < found.plexes)
      (is_up : UpNoted (d.world.nodes s) (note_at (d.world.nodes s)) it.call.at.set.site) where
    abbrev n : Node
    n = d.world.nodes s

    abbrev note : GroupNode
    note = note_at (d.world.nodes s)

    abbrev v : ℕ
    v = plain_number (note_at (d.world.nodes s)) volume

    det_fails_same : SameTable note (λ o e. DetFails o e)
    det_fails_same = record { same = λ many o e t fails next was now names noted noted_now change. keeps_table t many fails o e note next names none_again was now noted noted_now change; rvg = λ o e next was now noted noted_now change. rvg_goes note next was now noted noted_now change.parts.rvg }

    det_cuts_same : SameTable note (λ o e. DetCuts v plex o e)
    det_cuts_same = record { same = λ many o e t fails next was now names noted noted_now change. det_table t many fails o e note next names v plex was now noted noted_now change; rvg = λ o e next was now noted noted_now change. rvg_goes note next was now noted noted_now (det_rvg v plex o e was now change) }

    pub det_done : OnSites (λ o e. DetCalled n note v plex o e (Ok (tt {0}))) before after → OnSites (λ o e. UpMaps (DetMapsDone v plex) o e) before after
        → ((no : No) → refuses_det it.call.at.set.site v plex ≡ Some no → (let r : Result (Unit {0}) Stop = Ok (tt {0}) in r) ≡ Err (StopsBy no)) → new.facts.items ≡ old.facts.items → SameLoad old new → LeadsOver d (PlexDetach name volume plex) Done old new
    det_done on maps refused facts load =
        done_leads d (PlexDetach name volume plex) old new name s before after stands it false (λ o e. DetDone v plex o e) (λ o e. DetFails o e) (λ o e. DetCuts v plex o e) (DetMapsDone v plex) (λ o which. refuses_det o v plex ≡ Some which) Done (tt {0}) (λ k h. h)
        (record {
          ends = λ many fails o e next was now names noted noted_now enough logs change keeps w by. (
            with_goes (Reconfigures (λ c x. PutsOr s fails none_again v plex Stale c x) NoteSettles) (MapsDetached s fails v plex) note next was now w noted noted_now
                (reconfigures s many fails o e note next names (λ c x. PutsOr s fails none_again v plex Stale c x) (λ a b. NoteSettles a b) was now noted noted_now
                (stated_to s many fails o e note next names none_again v plex Stale was now enough change) keeps)
                (det_named s many fails o e names was now (λ u k. logs_low was many u k logs) note.maps w v plex by),
            refl,
            not_last n note it.call.at.set.site v plex found is_up at below refused,
            det_left n note it.call.at.set.site v plex is_up (maps_were d old new name s before after stands it.call) (λ no is. (let clash = refused no is in absurd (cc))),
          );
        })
        (record { same = λ many o e t fails next was now names noted noted_now change. stated_table t many fails o e note next names none_again v plex Stale was now noted noted_now change; rvg = λ o e next was now noted noted_now change. rvg_goes note next was now noted noted_now change.moves.parts.rvg })
        on maps facts load

    pub det_refused : (mid : Yard R g) (result : Result Said OutOfMemory) → Midway old mid → (why : No) → OnSites (λ o e. DetCalled n note v plex o e (Err (StopsBy why))) before after
        → OnSites (λ o e. DetMapped v plex o e (Err (StopsBy why))) before after → IsNotedRefusal s (fact_of_group (d.world.nodes s) (note_at (d.world.nodes s))) why mid new result → LeadsOverIs d (PlexDetach name volume plex) old new result
    det_refused mid result half why on maps refusal =
        refused_leads d (PlexDetach name volume plex) old new name s before after stands it mid half result (Unit {0}) false (λ o e. DetDone v plex o e) (λ o e. DetFails o e) (λ o e. DetCuts v plex o e) (DetMapsFailed v plex) (λ o which. refuses_det o v plex ≡ Some which)
        (record {
          ends = λ many fails o e next was now names noted noted_now enough logs change keeps w by.
              with_goes (Reconfigures (λ c x. ConfigKeeps s fails c x) (NoteUnsettles false)) (MapsUndetached s fails v plex) note next was now w noted noted_now
              (reconfigures s many fails o e note next names (λ c x. ConfigKeeps s fails c x) (λ a b. NoteUnsettles false a b) was now noted noted_now
              (keeps_to s many fails o e note next names none_again was now enough change) keeps)
              (undet_named s many fails o e names was now (λ u k. logs_low was many u k logs) note.maps w v plex by);
        })
        (record {
          ends = λ many fails o e next was now names noted noted_now enough logs change keeps w by.
              with_goes (Reconfigures (λ c x. ConfigKeeps s fails c x ⊎ PutsOr s fails none_again v plex Stale c x) (NoteUnsettles false)) MapsLost note next was now w noted noted_now
              (reconfigures s many fails o e note next names (λ c x. ConfigKeeps s fails c x ⊎ PutsOr s fails none_again v plex Stale c x) (λ a b. NoteUnsettles false a b) was now noted noted_now
              (det_to s many fails o e note next names v plex was now enough change) keeps)
              (record { none = by.none });
        })
        det_fails_same det_cuts_same (λ which is. det_wants n note it.call.at.set.site name volume plex found which is_up (maps_were d old new name s before after stands it.call) at below is) why on maps refusal

    -- memory suffices
    det_memory : OnSites (λ o e. DetCalled n note v plex o e (Err MemoryStop)) before after → ⊥
    det_memory on = (sets_then (λ o e. DetCalled n note v plex o e (Err MemoryStop)) before after it.call.at.set it.call.at.is_set on).holds

    pub det_stopped : (mid : Yard R g) (result : Result Said OutOfMemory) → Midway old mid → (stop : Stop) → OnSites (λ o e. DetCalled n note v plex o e (Err stop)) before after
        → OnSites (λ o e. DetMapped v plex o e (Err stop)) before after → reply_noted s (fact_of_group (d.world.nodes s) (note_at (d.world.nodes s))) stop mid new result → LeadsOverIs d (PlexDetach name volume plex) old new result
    det_stopped mid result half (StopsBy why) on maps refusal = det_refused mid result half why on maps refusal
    det_stopped mid result half MemoryStop on maps refusal = absurd (det_memory on)
