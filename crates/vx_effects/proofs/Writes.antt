-- What a write changes where the links of its site fit: it writes no header, and changes no link.
use Rattle.std.proofs.Common.{◌≡◌, ◌∙◌, ℕ, zero, suc, ◌+◌, [], ◌∷◌, ◌++◌, Bool, refl, ap}
use Rattle.std.specs.Prelude.{◌||◌, leb, Option, Some, None, if◌then◌else◌}
use Rattle.vx_model.specs.Answer.{is_too_large}
use Rattle.vx_model.specs.Content.{Write as WriteBlocks, blocks_in}
use Rattle.vx_model.specs.declared.limits.TheConstants.{MOST_NUMBER}
use Rattle.vx_model.specs.declared.no.Counted.TheVariants.{Number}
use Rattle.vx_model.specs.declared.no.No.TheVariants.{Limit}
use Rattle.vx_history.proofs.Updates.{all_updated}
use Rattle.vx_history.specs.Admission.{Admitted, Goes, Held_by}
use Rattle.vx_history.specs.Doubts.{Doubted, happened}
use Rattle.vx_history.specs.Events.{admitted, link_after, link_marked, links_changed, links_marked, put_in, said_of_write, written_if}
use Rattle.vx_history.specs.Headers.{headers_by, is_given_up}
use Rattle.vx_history.specs.Refusals.{Outcome, how_many_below, is_waited_for, refused, some_below}
use Rattle.vx_history.specs.Step.{outcome_of, step}
use Rattle.vx_history.specs.Steps.{burned, half_written, logged, written}
use Rattle.vx_history.specs.World.{Link, Node, World, updated}
use Rattle.vx_history.specs.declared.event.Event.TheVariants.{Write}
use Rattle.vx_history.specs.declared.event.Said.TheVariants.{DoneAt, Logged}
use Rattle.vx_events.proofs.Passing.{above, is_call, not_below, off}
use Rattle.vx_events.specs.Effects.{EffectAt}
use Rattle.vx_events.specs.LinksFit.{RowFits}
use Rattle.vx_effects.specs.Writes.{IsLetIn}
use Rattle.vx_effects.proofs.Effects.{Turns, effect_plain, updated_self}
use Rattle.vx_effects.proofs.Headers.{count_none, none_at, none_given}
use Rattle.vx_effects.proofs.Links.{row_after, row_marked}
use Rattle.vx_effects.proofs.Tests

module _ (w : World) (s : ℕ) (x : WriteBlocks) (fit : RowFits s w.sites (w.links s)) where
  abbrev v : World
  v = links_changed w s x

  pub changed_same : (i k : ℕ) → v.links i k ≡ w.links i k
  changed_same i k =
      all_updated (λ (j : ℕ) (r : ℕ → Link). r k ≡ w.links j k) w.links s (λ j. link_after (w.nodes s) x j (w.links s j)) (row_after (w.nodes s) x s w.sites (w.links s) fit k) (λ j _. refl) i

  pub marked_same : (i k : ℕ) → (links_marked v s (x ∷ [])).links i k ≡ w.links i k
  marked_same i k =
      all_updated (λ (j : ℕ) (r : ℕ → Link). r k ≡ w.links j k) v.links s (λ j. link_marked (x ∷ []) (v.links s j))
      (ap (λ (l : Link). link_marked (x ∷ []) l) (changed_same s k) ∙ row_marked (x ∷ []) s w.sites (w.links s) fit k) (λ j _. changed_same j k) i

  none_given_up : (o : Outcome) → ((k : ℕ) → o.world.links s k ≡ w.links s k) → how_many_below w.sites (λ k. is_given_up (w.links s k) (o.world.links s k)) ≡ 0
  none_given_up o same = count_none w.sites (λ k. is_given_up (w.links s k) (o.world.links s k)) (λ k. none_given (w.links s k) (o.world.links s k) (same k))

  -- no header, whatever comes of it
  put_none : (fails : Option ℕ) → how_many_below w.sites (λ k. is_given_up (w.links s k) ((put_in v s x fails).world.links s k)) ≡ 0
  put_none None = none_given_up (put_in v s x None) (marked_same s)
  put_none (Some disk) = none_given_up (put_in v s x (Some disk)) (changed_same s)

  admitted_none : (a : Admitted) (fails : Option ℕ) → how_many_below w.sites (λ k. is_given_up (w.links s k) ((written_if a w s x fails).world.links s k)) ≡ 0
  admitted_none (Held_by why) fails = none_given_up (written_if (Held_by why) w s x fails) (λ k. refl)
  admitted_none (Goes changes) fails =
      Tests.unless_ends (λ (o : Outcome). how_many_below w.sites (λ k. is_given_up (w.links s k) (o.world.links s k)) ≡ 0) w (λ why. none_given_up (refused w why) (λ k. refl))
      (leb MOST_NUMBER (w.nodes s).safe) (Limit Number MOST_NUMBER) (put_in v s x fails) (λ _. put_none fails)

  pub write_none : (fails : Option ℕ) (i : ℕ) → headers_by (Write s x.volume x.start x.bytes fails) w (outcome_of w (Write s x.volume x.start x.bytes fails)) i ≡ 0
  write_none fails i =
      none_at s i _
      (λ _. Tests.volume_ends (λ (o : Outcome). how_many_below w.sites (λ k. is_given_up (w.links s k) (o.world.links s k)) ≡ 0) w (λ why. none_given_up (refused w why) (λ k. refl))
      s x.volume x.start (blocks_in x.bytes) (is_too_large (w.nodes s).ring (blocks_in x.bytes)) (written_if (admitted w s x) w s x fails) (λ _. admitted_none (admitted w s x) fails))

  pub put_step : (fails : Option ℕ) → IsLetIn w s x → outcome_of w (Write s x.volume x.start x.bytes fails) ≡ put_in v s x fails
  put_step fails can =
      is_call w s x.volume x.start (blocks_in x.bytes) (is_too_large (w.nodes s).ring (blocks_in x.bytes)) (written_if (admitted w s x) w s x fails) can.call
      (not_below (w.nodes s).ring (blocks_in x.bytes + 1) can.fits)
      ∙ ap (λ (a : Admitted). written_if a w s x fails) can.goes
      ∙ off (leb MOST_NUMBER (w.nodes s).safe) (Limit Number MOST_NUMBER) w (put_in v s x fails) (above MOST_NUMBER (w.nodes s).safe can.free)

  put_turns : (n : Node) (u : World) → u.sites ≡ w.sites → ((i : ℕ) → u.nodes i ≡ updated w.nodes s n i) → ((i k : ℕ) → u.links i k ≡ w.links i k)
      → ((i : ℕ) → u.headers i ≡ w.headers i) → u.packets ≡ w.packets → ((i : ℕ) → u.gathering i ≡ w.gathering i) → Turns s w u n (w.links s) w.packets (w.gathering s)
  put_turns n u sites nodes links headers packets gathering = record {
    sites = sites;
    nodes = nodes;
    links = λ i k. links i k ∙ ap (λ (r : ℕ → Link). r k) (updated_self w.links s i);
    headers = headers;
    sent = packets;
    gathering = λ i. gathering i ∙ updated_self w.gathering s i;
  }

  -- what is said by links that did not change
  waited_same : (n : ℕ) → some_below n (λ k. is_waited_for k (v.links s k)) ≡ some_below n (λ k. is_waited_for k (w.links s k))
  waited_same zero = refl
  waited_same (suc n) =
      ap (λ (l : Link). is_waited_for n l || some_below n (λ k. is_waited_for k (v.links s k))) (changed_same s n)
      ∙ ap (λ (b : Bool). is_waited_for n (w.links s n) || b) (waited_same n)

  pub write_said : IsLetIn w s x → (step w (Write s x.volume x.start x.bytes None)).said ≡ said_of_write w s ((w.nodes s).safe + 1)
  write_said can =
      ap (λ (o : Outcome). o.said) (put_step None can)
      ∙ ap (λ (b : Bool). if b then Logged ((w.nodes s).safe + 1) else DoneAt ((w.nodes s).safe + 1)) (waited_same w.sites)

module _ (d : Doubted) (s : ℕ) (x : WriteBlocks) (fit : RowFits s d.world.sites (d.world.links s)) (can : IsLetIn d.world s x) where
  abbrev w : World
  w = d.world

  abbrev n : Node
  n = w.nodes s

  no_headers : (fails : Option ℕ) (i : ℕ) → headers_by (Write s x.volume x.start x.bytes fails) w (put_in (links_changed w s x) s x fails) i ≡ 0
  no_headers fails i = none_at s i _ (λ _. put_none w s x fit fails)

  pub write_effect : (taken : Bool)
      → EffectAt s d (happened d (Write s x.volume x.start x.bytes None) taken) (logged n x) (w.links s) (w.headers s) (d.after s) w.packets (w.gathering s)
  write_effect taken =
      effect_plain d (Write s x.volume x.start x.bytes None) (put_in (links_changed w s x) s x None) s (put_step w s x fit None can)
      (put_turns w s x fit (logged n x) (written (links_marked (links_changed w s x) s (x ∷ [])) s x) refl (λ i. refl) (λ i k. marked_same w s x fit i k) (λ i. refl) refl (λ i. refl))
      (no_headers None)

  pub half_effect : (disk : ℕ) (taken : Bool)
      → EffectAt s d (happened d (Write s x.volume x.start x.bytes (Some disk)) taken) (record n { log = n.log ++ x ∷ []; halted = Some disk; fuse = burned n.fuse }) (w.links s)
      (w.headers s) (d.after s) w.packets (w.gathering s)
  half_effect disk taken =
      effect_plain d (Write s x.volume x.start x.bytes (Some disk)) (put_in (links_changed w s x) s x (Some disk)) s (put_step w s x fit (Some disk) can)
      (put_turns w s x fit (record n { log = n.log ++ x ∷ []; halted = Some disk; fuse = burned n.fuse }) (half_written (links_changed w s x) s x disk) refl (λ i. refl) (λ i k. changed_same w s x fit i k)
      (λ i. refl) refl (λ i. refl))
      (no_headers (Some disk))
