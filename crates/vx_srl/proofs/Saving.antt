-- What the calls that write a header make of the log that memory keeps.
use Rattle.std.proofs.Common.{◌≡◌, ℕ, ◌+◌, ◌%◌, ◌<◌, ◌≤◌, refl, sym, ◌∙◌, ap, subst, arith, length-take}
use Rattle.vx_model.specs.declared.history.Line.{Line}
use Rattle.vx_model.specs.declared.state.State.{State as SiteState}
use Rattle.vx_srlfmt.specs.declared.header.Header.{Header}
use Rattle.vx_disk.specs.Shelf.{Meaning}
use Rattle.vx_ringlog.specs.Acts.{head_acts}
use Rattle.vx_ringio.specs.Tracks.{Arrives, Follows}
use Rattle.vx_srl.specs.Calls.{restarted_log, restarting, saved, saving}
use Rattle.vx_srl.specs.Headers.{with_header_state, without, emptied_header}
use Rattle.vx_srl.specs.Rings.{RingGoes, LeadsTo}
use Rattle.vx_srl.specs.Views.{Log, count_to, head_number}
use Rattle.vx_srl.proofs.SaveLaws.{Empties, Keeps, restart_goes, restart_leads, save_goes, save_leads}

state_keeps : (l : Log) (state : SiteState) → state.line ≡ l.header.state.line → Keeps l (with_header_state l state) 0
state_keeps l state line = record {
  stamp = refl;
  era = ap (λ (x : Line). record { incarnation = l.header.incarnation; run = l.header.run; line = x }) line;
  low = omega arith;
  place = refl;
  floor = refl;
}

without_keeps : (l : Log) (to : ℕ) → 0 < l.header.low → l.header.low ≤ to → to ≤ head_number l → Keeps l (without l to) (count_to l to)
without_keeps l to some low held = record {
  stamp = refl;
  era = refl;
  low = omega (arith, some, low, held, length-take (count_to l to) l.held);
  place = refl;
  floor = refl;
}

emptied_empties : (l : Log) (state : SiteState) (head : ℕ) → Empties l (emptied_header l state head)
emptied_empties l state head = record { stamp = refl; incarnation = refl; run = refl; place = refl; floor = refl }

-- v is the log as the code has it, and h the header that was written
module _ (v l : Log) (same : v ≡ l) (h : Header) (old new : Meaning) where
  abbrev Writes : Type 0
  Writes = Follows v.unit v.ring (head_acts (h.stamp % 2) h) old new

  abbrev Wrote : Type 0
  Wrote = Arrives v.unit v.ring (head_acts (h.stamp % 2) h) old new

  pub state_goes : (state : SiteState) → h ≡ with_header_state l state → state.line ≡ l.header.state.line → Writes → RingGoes l (saving (with_header_state l state) 0) old new
  state_goes state is line writes =
      subst (λ (x : Log). h ≡ with_header_state x state → state.line ≡ x.header.state.line → RingGoes x (saving (with_header_state x state) 0) old new) same
      (λ his at. save_goes v (with_header_state v state) 0 (state_keeps v state at) old new (subst (λ (g : Header). Follows v.unit v.ring (head_acts (g.stamp % 2) g) old new) his writes)) is line

  pub state_leads : (state : SiteState) → h ≡ with_header_state l state → state.line ≡ l.header.state.line → Wrote → LeadsTo l (saving (with_header_state l state) 0) (saved v h 0) old new
  state_leads state is line wrote =
      subst (λ (x : Log). h ≡ with_header_state x state → state.line ≡ x.header.state.line → LeadsTo x (saving (with_header_state x state) 0) (saved v h 0) old new) same
      (λ his at.
      subst (λ (g : Header). LeadsTo v (saving (with_header_state v state) 0) (saved v g 0) old new) (sym his)
      (save_leads v (with_header_state v state) 0 (state_keeps v state at) old new (subst (λ (g : Header). Arrives v.unit v.ring (head_acts (g.stamp % 2) g) old new) his wrote))) is line

  pub without_goes : (to : ℕ) → h ≡ without l to → 0 < l.header.low → l.header.low ≤ to → to ≤ head_number l → Writes → RingGoes l (saving (without l to) (count_to l to)) old new
  without_goes to is some low held writes =
      subst (λ (x : Log). h ≡ without x to → 0 < x.header.low → x.header.low ≤ to → to ≤ head_number x → RingGoes x (saving (without x to) (count_to x to)) old new) same
      (λ his positive at most. save_goes v (without v to) (count_to v to) (without_keeps v to positive at most) old new (subst (λ (g : Header). Follows v.unit v.ring (head_acts (g.stamp % 2) g) old new) his writes)) is some low held

  pub without_leads : (to : ℕ) (after : Log) → h ≡ without l to → 0 < l.header.low → l.header.low ≤ to → to ≤ head_number l → after ≡ saved l h (count_to l to) → Wrote
      → LeadsTo l (saving (without l to) (count_to l to)) after old new
  without_leads to after is some low held after_is wrote =
      subst (λ (x : Log). h ≡ without x to → 0 < x.header.low → x.header.low ≤ to → to ≤ head_number x → after ≡ saved x h (count_to x to) → LeadsTo x (saving (without x to) (count_to x to)) after old new) same
      (λ his positive at most behind.
      subst (λ (a : Log). LeadsTo v (saving (without v to) (count_to v to)) a old new) (sym (behind ∙ ap (λ (g : Header). saved v g (count_to v to)) his))
      (save_leads v (without v to) (count_to v to) (without_keeps v to positive at most) old new (subst (λ (g : Header). Arrives v.unit v.ring (head_acts (g.stamp % 2) g) old new) his wrote))) is some low held after_is

  pub emptied_goes : (state : SiteState) (head : ℕ) → h ≡ emptied_header l state head → Writes → RingGoes l (restarting (emptied_header l state head)) old new
  emptied_goes state head is writes =
      subst (λ (x : Log). h ≡ emptied_header x state head → RingGoes x (restarting (emptied_header x state head)) old new) same
      (λ his. restart_goes v (emptied_header v state head) (emptied_empties v state head) old new (subst (λ (g : Header). Follows v.unit v.ring (head_acts (g.stamp % 2) g) old new) his writes)) is

  pub emptied_leads : (state : SiteState) (head : ℕ) (after : Log) → h ≡ emptied_header l state head → after ≡ restarted_log v h → Wrote → LeadsTo l (restarting (emptied_header l state head)) after old new
  emptied_leads state head after is after_is wrote =
      subst (λ (x : Log). h ≡ emptied_header x state head → LeadsTo x (restarting (emptied_header x state head)) after old new) same
      (λ his.
      subst (λ (a : Log). LeadsTo v (restarting (emptied_header v state head)) a old new) (sym (after_is ∙ ap (λ (g : Header). restarted_log v g) his))
      (restart_leads v (emptied_header v state head) (emptied_empties v state head) old new (subst (λ (g : Header). Arrives v.unit v.ring (head_acts (g.stamp % 2) g) old new) his wrote))) is

-- ---- the header of a reclaim

pub without_is : (v l : Log) (to : ℕ) (state : SiteState) (floor place : ℕ) → v ≡ l → state ≡ v.header.state → floor ≡ (without v to).floor → place ≡ (without v to).place
    → record { stamp = v.header.stamp + 1; state = state; incarnation = v.header.incarnation; floor = floor; run = v.header.run; low = to + 1; place = place; applied = to } ≡ without l to
without_is v l to state floor place same state_is floor_is place_is =
    ap (λ (x : SiteState). record { stamp = v.header.stamp + 1; state = x; incarnation = v.header.incarnation; floor = floor; run = v.header.run; low = to + 1; place = place; applied = to }) state_is
    ∙ ap (λ (x : ℕ). record { stamp = v.header.stamp + 1; state = v.header.state; incarnation = v.header.incarnation; floor = x; run = v.header.run; low = to + 1; place = place; applied = to }) floor_is
    ∙ ap (λ (x : ℕ). record { stamp = v.header.stamp + 1; state = v.header.state; incarnation = v.header.incarnation; floor = (without v to).floor; run = v.header.run; low = to + 1; place = x; applied = to }) place_is
    ∙ ap (λ (x : Log). without x to) same
