-- What recoveries, reads, applies, settings, failing disks and notes change.
use Rattle.std.proofs.Common.{◌≡◌, ◌∙◌, ℕ, ◌+◌, ◌-◌, ◌<◌, ◌≤◌, List, ◌++◌, Bool, true, false, refl, ap, sym, subst}
use Rattle.std.specs.Prelude.{eqb, min, Some, None, if◌then◌else◌}
use Rattle.vx_model.specs.Sites.{is_origin}
use Rattle.vx_model.specs.Sizes.{is_raw_shape}
use Rattle.vx_model.specs.declared.limits.TheConstants.{MOST_NUMBER}
use Rattle.vx_model.specs.declared.link.Prot.{Prot}
use Rattle.vx_model.specs.declared.link.SyncMode.{SyncMode}
use Rattle.vx_model.specs.declared.no.No.TheVariants.{Device}
use Rattle.vx_model.specs.declared.site.SiteState.TheVariants.{Bare, Down, Up}
use Rattle.vx_history.proofs.Updates.{at_place, by_test, eqb_equal, eqb_self}
use Rattle.vx_history.specs.Doubts.{Doubted, happened}
use Rattle.vx_history.specs.Events.{acknowledged, applied_by, apply_at, come_back, link_with, reached_at, recovery, recovery_greeting, restarted_link}
use Rattle.vx_history.specs.LinkForms.{plain_receiver}
use Rattle.vx_history.specs.Receiving.{Received, with_applied}
use Rattle.vx_history.specs.Refusals.{Outcome, at_work, says}
use Rattle.vx_history.specs.Sends.{packets_of, with_link}
use Rattle.vx_history.specs.Step.{done, outcome_of, step}
use Rattle.vx_history.specs.Steps.{burned, raw_made, raw_set, site_made, stopped_by}
use Rattle.vx_history.specs.World.{DataAck, FuseSet, Link, Node, World, bare_site, updated, with_node}
use Rattle.vx_history.specs.declared.event.Event.TheVariants.{Apply, Fault, Raw, Read, Recover, Set, Site}
use Rattle.vx_history.specs.declared.event.Said.TheVariants.{Done, DoneAt, Refused}
use Rattle.vx_history.specs.declared.receiver.RAction.TheVariants.{Nothing}
use Rattle.vx_script.specs.declared.line.ScriptLine.{ScriptLine}
use Rattle.vx_script.specs.declared.line.ScriptLine.TheVariants.{Apply as ApplyLine, Disk, Fuse as FuseLine, Put, Write as WriteLine}
use Rattle.vx_events.proofs.Keeping.{read_stays}
use Rattle.vx_events.proofs.Passing.{is_at_work, is_site}
use Rattle.vx_events.proofs.Steps.{apply_step, fault_step, raw_step, recover_step}
use Rattle.vx_events.specs.Doubts.{IsAs, with_disks}
use Rattle.vx_events.specs.Effects.{AddsSite, ChangesAt, EffectAt}
use Rattle.vx_events.specs.Ends.{IsLeft, noted}
use Rattle.vx_events.specs.Failing.{is_failing}
use Rattle.vx_events.specs.Stamps.{waiting_of}
use Rattle.vx_effects.specs.Applies.{applied_up_to, behind_apply}
use Rattle.vx_effects.proofs.Effects.{Turns, effect_of, effect_plain, effect_quiet, quiet_then, turns_like, turns_node, turns_none, updated_self}
use Rattle.vx_effects.proofs.Fitting.{none_more, updated_other}
use Rattle.vx_effects.proofs.Tests

module _ (d : Doubted) (s : ℕ) where
  abbrev w : World
  w = d.world

  abbrev n : Node
  n = w.nodes s

  -- ---- recoveries

  pub recover_effect : (taken : Bool) → s < w.sites → n.state ≡ Down → n.session < MOST_NUMBER
      → EffectAt s d (happened d (Recover s None) taken) (come_back n) (λ k. restarted_link (come_back n) k (w.links s k)) (w.headers s) (d.after s)
      (w.packets ++ recovery_greeting s (come_back n)) (w.gathering s)
  recover_effect taken below down some =
      effect_plain d (Recover s None) (recovery w s None) s (recover_step w s None below down some)
      (record {
        sites = refl;
        nodes = λ i. refl;
        links = λ i k. refl;
        headers = λ i. refl;
        sent = refl;
        gathering = λ i. updated_self w.gathering s i;
      })
      (λ i. refl)

  pub session_effect : (disk : ℕ) (taken : Bool) → s < w.sites → n.state ≡ Down → n.session < MOST_NUMBER
      → EffectAt s d (happened d (Recover s (Some disk)) taken) (record n { session = n.session + 1 }) (w.links s) (w.headers s) (d.after s) w.packets (w.gathering s)
  session_effect disk taken below down some =
      effect_plain d (Recover s (Some disk)) (recovery w s (Some disk)) s (recover_step w s (Some disk) below down some)
      (turns_node s w (record n { session = n.session + 1 })) (λ i. refl)

  -- ---- reads and applies

  pub read_effect : (volume start count : ℕ) (taken : Bool)
      → EffectAt s d (happened d (Read s volume start count) taken) n (w.links s) (w.headers s) (d.after s) w.packets (w.gathering s)
  read_effect volume start count taken =
      effect_plain d (Read s volume start count) (outcome_of w (Read s volume start count)) s refl
      (subst (λ (v : World). Turns s w v n (w.links s) w.packets (w.gathering s)) (sym (read_stays w s volume start count)) (turns_none s w)) (λ i. refl)

  pub reached_effect : (count reached : ℕ) (taken : Bool) → s < w.sites → n.state ≡ Up → n.halted ≡ None → is_origin n.role ≡ true → min count n.safe ≤ reached → reached ≤ n.safe
      → EffectAt s d (happened d (Apply s count reached) taken) n (w.links s) (w.headers s) (d.after s) w.packets (w.gathering s)
  reached_effect count reached taken below up runs origin least most =
      effect_plain d (Apply s count reached) (says w (DoneAt reached)) s (apply_step w s count reached below up runs origin least most) (turns_none s w) (λ i. refl)

  receiver_step : (count reached : ℕ) → s < w.sites → n.state ≡ Up → n.halted ≡ None → is_origin n.role ≡ false → outcome_of w (Apply s count reached) ≡ apply_at w s count
  receiver_step count reached below up runs receives =
      let o : Outcome = (if is_origin n.role then reached_at w s count reached else apply_at w s count) in
      is_site w s (at_work w s o) below ∙ is_at_work w s o up runs ∙ ap (λ (b : Bool). if b then reached_at w s count reached else apply_at w s count) receives

  abbrev heard_by : ℕ → Bool → Received
  heard_by count b = if b then record { state = plain_receiver n; action = Nothing } else with_applied (plain_receiver n) (waiting_of n - count)

  -- nothing waited, or none was asked for
  pub idle_effect : (count reached : ℕ) (taken : Bool) → s < w.sites → n.state ≡ Up → n.halted ≡ None → is_origin n.role ≡ false → eqb (min count (waiting_of n)) 0 ≡ true
      → EffectAt s d (happened d (Apply s count reached) taken) n (w.links s) (w.headers s) (d.after s) w.packets (w.gathering s)
  idle_effect count reached taken below up runs receives none =
      effect_plain d (Apply s count reached) (says w (DoneAt n.safe)) s
      (receiver_step count reached below up runs receives ∙ ap (λ (b : Bool). applied_by w s (heard_by count b).state (heard_by count b).action) none) (turns_none s w) (λ i. refl)

  pub applied_effect : (count reached : ℕ) (taken : Bool) → s < w.sites → n.state ≡ Up → n.halted ≡ None → is_origin n.role ≡ false → eqb (min count (waiting_of n)) 0 ≡ false
      → EffectAt s d (happened d (Apply s count reached) taken) (behind_apply n count) (w.links s) (w.headers s) (d.after s)
      (w.packets ++ packets_of s n.fed_by n.line (DataAck (applied_up_to n count))) (w.gathering s)
  applied_effect count reached taken below up runs receives some =
      effect_plain d (Apply s count reached) (says (acknowledged w s (behind_apply n count)) (DoneAt (applied_up_to n count))) s
      (receiver_step count reached below up runs receives ∙ ap (λ (b : Bool). applied_by w s (heard_by count b).state (heard_by count b).action) some)
      (turns_like s w (with_node w s (behind_apply n count)) (acknowledged w s (behind_apply n count))
      (w.packets ++ packets_of s n.fed_by n.line (DataAck (applied_up_to n count))) refl (λ i. refl) (λ i k. refl) (λ i. refl) refl (λ i. refl)
      (turns_node s w (behind_apply n count)))
      (λ i. refl)

  -- ---- failing disks

  pub fault_effect : (disk : ℕ) (taken : Bool) → s < w.sites → n.state ≡ Up
      → EffectAt s d (happened d (Fault s disk) taken) (record n { halted = Some disk; fuse = burned n.fuse }) (w.links s) (w.headers s) (d.after s) w.packets (w.gathering s)
  fault_effect disk taken below up =
      effect_plain d (Fault s disk) (says (stopped_by w s disk) (Refused (Device disk))) s (fault_step w s disk below up)
      (turns_node s w (record n { halted = Some disk; fuse = burned n.fuse })) (λ i. refl)

  -- ---- settings

  abbrev link_set : ℕ → SyncMode → Prot → Link
  link_set q sync prot = link_with sync prot (w.links s q)

  set_step : (q : ℕ) (sync : SyncMode) (prot : Prot) → (step w (Set s q sync prot)).said ≡ Done → outcome_of w (Set s q sync prot) ≡ done (with_link w s q (link_set q sync prot))
  set_step q sync prot =
      Tests.link_ends (λ (o : Outcome). o.said ≡ Done → o ≡ done (with_link w s q (link_set q sync prot))) w
      (λ why e. absurd (let f : Refused why ≡ Done = e in cc)) is_origin s q (done (with_link w s q (link_set q sync prot))) (λ _ _ _. refl)

  pub set_effect : (q : ℕ) (sync : SyncMode) (prot : Prot) (taken : Bool) → (step w (Set s q sync prot)).said ≡ Done
      → EffectAt s d (happened d (Set s q sync prot) taken) n (updated (w.links s) q (link_with sync prot (w.links s q))) (w.headers s + 1) (d.after s) w.packets
      (w.gathering s)
  set_effect q sync prot taken said =
      effect_of d (Set s q sync prot) (done (with_link w s q (link_set q sync prot))) s 1 (set_step q sync prot said)
      (record {
        sites = refl;
        nodes = λ i. updated_self w.nodes s i;
        links = λ i k. refl;
        headers = λ i. refl;
        sent = refl;
        gathering = λ i. updated_self w.gathering s i;
      })
      (ap (λ (b : Bool). if b then 1 else 0) (eqb_self s))
      (λ i apart. by_test (λ (m : ℕ). m ≡ 0) (eqb s i) 1 0 (λ e. absurd (apart (sym (eqb_equal s i e)))) (λ _. refl))

  -- ---- raw sets

  pub raw_effect : (taken : Bool) → s < w.sites → n.state ≡ Bare → is_raw_shape n.disks n.blocks ≡ true
      → EffectAt s d (happened d (Raw s) taken) (raw_set s n) (w.links s) (w.headers s) (d.after s) w.packets (w.gathering s)
  raw_effect taken below bare shape =
      effect_plain d (Raw s) (done (raw_made w s)) s (raw_step w s below bare shape)
      (turns_like s w (with_node w s (raw_set s n)) (raw_made w s) w.packets refl (λ i. refl) (λ i k. refl) (λ i. refl) refl (λ i. refl) (turns_node s w (raw_set s n))) (λ i. refl)

  -- ---- notes

  pub note_effect : (m : Node) → EffectAt s d (record d { world = with_node w s m }) m (w.links s) (w.headers s) (d.after s) w.packets (w.gathering s)
  note_effect m = record {
    site = record {
      sites = refl;
      nodes = λ i apart. updated_other w.nodes s i m apart;
      links = λ i k apart. refl;
      headers = λ i apart. refl;
      after = λ i apart. refl;
      strayed = λ calm. calm;
      gathering = λ i apart. refl;
    };
    is = record { node = at_place w.nodes s m; links = λ k. refl; headers = refl; after = refl };
    sent = refl;
    gathering = refl;
  }

quiet_same : (s : ℕ) (d : Doubted) → ChangesAt s d d
quiet_same s d = record {
  site = record { sites = refl; nodes = λ i apart. refl; links = λ i k apart. refl; headers = λ i apart. refl; after = λ i apart. refl; strayed = λ calm. calm; gathering = λ i apart. refl };
  packets = refl;
  gathering = refl;
}

noted_quiet : (s : ℕ) (line : ScriptLine) (d : Doubted) → ChangesAt s d (record d { world = noted s line d.world })
noted_quiet s (Disk site disk state) d = effect_quiet s d _ (note_effect d s (record (d.world.nodes s) { failing = updated (d.world.nodes s).failing disk (is_failing state) }))
noted_quiet s (FuseLine site calls pick) d = effect_quiet s d _ (note_effect d s (record (d.world.nodes s) { fuse = FuseSet calls }))
noted_quiet s (WriteLine site volume start count fill) d = effect_quiet s d _ (note_effect d s (record (d.world.nodes s) { fuse = burned (d.world.nodes s).fuse }))
noted_quiet s (Put site volume start bytes) d = effect_quiet s d _ (note_effect d s (record (d.world.nodes s) { fuse = burned (d.world.nodes s).fuse }))
noted_quiet s (ApplyLine site to) d = effect_quiet s d _ (note_effect d s (record (d.world.nodes s) { fuse = burned (d.world.nodes s).fuse }))
noted_quiet s other d = quiet_same s d

disks_quiet : (taken : Bool) (s : ℕ) (w : World) (d : Doubted) → ChangesAt s d (record d { world = with_disks taken s w d.world })
disks_quiet true s w d = effect_quiet s d _ (note_effect d s (record (d.world.nodes s) { failing = (w.nodes s).failing; group = (w.nodes s).group }))
disks_quiet false s w d = quiet_same s d

as_quiet : (s : ℕ) (d new : Doubted) (v : World) → IsAs d v new → ChangesAt s d (record d { world = v }) → ChangesAt s d new
as_quiet s d new v is c = record {
  site = record {
    sites = ap (λ (w : World). w.sites) is.world ∙ c.site.sites;
    nodes = λ i apart. ap (λ (w : World). w.nodes i) is.world ∙ c.site.nodes i apart;
    links = λ i k apart. ap (λ (w : World). w.links i k) is.world ∙ c.site.links i k apart;
    headers = λ i apart. ap (λ (w : World). w.headers i) is.world ∙ c.site.headers i apart;
    after = λ i apart. is.after i;
    strayed = λ calm. sym is.strayed ∙ calm;
    gathering = λ i apart. ap (λ (w : World). w.gathering i) is.world ∙ c.site.gathering i apart;
  };
  packets = ap (λ (w : World). w.packets) is.world ∙ c.packets;
  gathering = ap (λ (w : World). w.gathering s) is.world ∙ c.gathering;
}

-- what a line notes changes its site alone
pub left_quiet : (s : ℕ) (line : ScriptLine) (taken : Bool) (d last new : Doubted) → IsLeft s line taken d last new → ChangesAt s last new
left_quiet s line taken d last new left =
    let v : World = with_disks taken s d.world last.world in
    let e : Doubted = record last { world = v } in
    as_quiet s last new (noted s line v) left (quiet_then s last e (record e { world = noted s line v }) (disks_quiet taken s d.world last) (noted_quiet s line e))

-- a further site
pub site_adds : (d : Doubted) (name : List ℕ) (disks blocks : ℕ) (taken : Bool) → outcome_of d.world (Site name disks blocks) ≡ done (site_made d.world name disks blocks)
    → AddsSite d (happened d (Site name disks blocks) taken) (bare_site name disks blocks)
site_adds d name disks blocks taken is =
    subst (λ (o : Outcome). AddsSite d (record d { world = record o.world { headers = λ i. d.world.headers i + 0 } }) (bare_site name disks blocks)) (sym is)
    (record {
      sites = refl;
      node = at_place d.world.nodes d.world.sites (bare_site name disks blocks);
      nodes = λ i apart. updated_other d.world.nodes d.world.sites i (bare_site name disks blocks) apart;
      links = λ i k. refl;
      headers = λ i. none_more (d.world.headers i) 0 refl;
      after = λ i. refl;
      strayed = λ calm. calm;
      packets = refl;
      gathering = λ i. refl;
    })
