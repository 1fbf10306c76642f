-- Each part of a line that makes a link, as an event that writes one header: what it changes, and that nothing but a failing disk or want of a number
-- keeps the header from the log.
use Rattle.std.proofs.Common.{◌≡◌, ◌∙◌, ◌⊎◌, inl, inr, ⊎_elim, ◌+◌, ℕ, zero, suc, true, false, List, [], ◌∷◌, ◌++◌, ap, sym, refl, arith}
use Rattle.std.specs.Prelude.{None, Some, slice_get}
use Rattle.vx_history.specs.Doubts.{Doubted}
use Rattle.vx_history.specs.Events.{linked_sites, new_link, opened}
use Rattle.vx_history.specs.KeptLinks.{kept_link}
use Rattle.vx_history.specs.Listed.{HasPlaces}
use Rattle.vx_history.specs.Refusals.{count_links_of as count_of_links}
use Rattle.vx_history.specs.Step.{step}
use Rattle.vx_history.specs.Stops.{IsOpen}
use Rattle.vx_history.specs.World.{Link, Node, World, updated}
use Rattle.vx_history.specs.declared.event.Event.{Event}
use Rattle.vx_history.specs.declared.event.Event.TheVariants.{Link as LinkAt}
use Rattle.vx_history.specs.declared.event.LinkPart.TheVariants.{Made, Marked, Opened}
use Rattle.vx_history.specs.declared.event.Said.TheVariants.{Done as IsDone}
use Rattle.vx_history.specs.Steps.{worked}
use Rattle.vx_model.specs.declared.link.Prot.TheVariants.{Fail as FailsWhenFull}
use Rattle.vx_model.specs.declared.link.SyncMode.{SyncMode}
use Rattle.vx_model.specs.declared.site.Mark.TheVariants.{Consistent}
use Rattle.vx_model.specs.declared.state.KeptLink.{KeptLink}
use Rattle.vx_model.specs.declared.state.State.{State}
use Rattle.vx_diskset.specs.Holds.{beside_of, header_links, row_links, state_with}
use Rattle.vx_diskset.specs.Keeps.{CanKeep, Suffices}
use Rattle.vx_diskset.specs.Needs.{is_needing}
use Rattle.vx_effects.proofs.LinkParts.{AreTwo, made_done, made_effect, marked_effect, opened_effect, two_done}
use Rattle.vx_effects.proofs.LinkRows.{changed_kept, further_kept}
use Rattle.vx_events.proofs.Places.{some_same}
use Rattle.vx_events.specs.Effects.{EffectAt}
use Rattle.vx_events.specs.GroupLines.{is_over_group}
use Rattle.vx_effects.proofs.Fitting.{fit_happened}
use Rattle.vx_events.specs.LinksFit.{LinksFit}
use Rattle.vx_yard.proofs.OverGroup.{none_over}
use Rattle.vx_link_lines.specs.Headed.{behind}
use Rattle.vx_link_lines.proofs.NotedYard.{sure_open}
use Rattle.vx_link_lines.proofs.PartLine.{IsKeptHeader}
use Rattle.vx_yard.proofs.Rows.{row_links_same}
use Rattle.vx_link_lines.proofs.SetLink.{needs_over}

-- a link of a list, or the one behind it
behind_get : (ls : List KeptLink) (x : KeptLink) (k : ℕ) (l : KeptLink) → slice_get (ls ++ x ∷ []) k ≡ Some l → (slice_get ls k ≡ Some l) ⊎ (l ≡ x)
behind_get [] x zero l is = inr (sym (some_same is))
behind_get [] x (suc k) l is = absurd (cc)
behind_get (y ∷ ls) x zero l is = inl is
behind_get (y ∷ ls) x (suc k) l is = behind_get ls x k l is

-- a link that stood there before needs what it needed
needs_same : (n : Node) (ls : List KeptLink) (k : ℕ) (l : KeptLink) → slice_get ls k ≡ Some l → is_needing l ≡ true → Suffices ls n l
needs_same n ls k l is needs = inr (k, (l, (is, (needs, omega arith))))

module _ (d : Doubted) (p s : ℕ) (sync : SyncMode) where
  abbrev w : World
  w = d.world

  -- ---- the first site has the link

  abbrev made : Event
  made = LinkAt p s sync FailsWhenFull Made

  abbrev made_link : Link
  made_link = new_link (count_of_links w p) sync FailsWhenFull (w.nodes s)

  module _ (said : (step w made).said ≡ IsDone) where
    pub made_f : EffectAt p d (behind d made) (w.nodes p) (updated (w.links p) s made_link) (w.headers p + 1) (d.after p) w.packets (w.gathering p)
    made_f = made_effect d p s sync FailsWhenFull false said

    pub made_opens : IsOpen (w.nodes p)
    made_opens = let t : AreTwo w p s = (two_done w p s sync FailsWhenFull Made said).0 in (t.up, t.running)

    pub made_kept : row_links (updated (w.links p) s made_link) w.sites ≡ header_links (behind d made).world p
    made_kept =
        sym (row_links_same (updated (w.links p) s made_link) ((behind d made).world.links p) made_f.is.links (behind d made).world.sites
        ∙ ap (λ (k : ℕ). row_links (updated (w.links p) s made_link) k) made_f.site.sites)

    -- the header keeps the links of before, and the new one behind them
    pub made_links : HasPlaces w.sites (w.links p) → header_links (behind d made).world p ≡ header_links w p ++ kept_link s made_link ∷ []
    made_links has =
        sym made_kept ∙ further_kept (w.links p) w.sites s made_link has (two_done w p s sync FailsWhenFull Made said).0.second (made_done w p s sync FailsWhenFull said).0 refl

    pub made_can : is_over_group (w.nodes p) ≡ false → HasPlaces w.sites (w.links p) → CanKeep (beside_of d p) (worked (w.nodes p)) (state_with (w.nodes p) (header_links (behind d made).world p))
    made_can alone has = record {
      up = made_opens.0;
      running = made_opens.1;
      apart = alone;
      line = refl;
      role = refl;
      needs = λ k l is needs. ⊎_elim (λ (old : slice_get (header_links w p) k ≡ Some l). needs_same (worked (w.nodes p)) (header_links w p) k l old needs)
          (λ (new : l ≡ kept_link s made_link). absurd (let f : false ≡ true = ap (λ (x : KeptLink). is_needing x) (sym new) ∙ needs in cc))
          (behind_get (header_links w p) (kept_link s made_link) k l (ap (λ (ls : List KeptLink). slice_get ls k) (sym (made_links has)) ∙ is));
    }

  -- ---- the second site is consistent

  abbrev marked : Event
  marked = LinkAt p s sync FailsWhenFull Marked

  module _ (said : (step w marked).said ≡ IsDone) where
    pub marked_f : EffectAt s d (behind d marked) (record (w.nodes s) { mark = Consistent }) (w.links s) (w.headers s + 1) (d.after s) w.packets (w.gathering s)
    marked_f = marked_effect d p s sync FailsWhenFull false said

    pub marked_opens : IsOpen (w.nodes s)
    marked_opens = let t : AreTwo w p s = (two_done w p s sync FailsWhenFull Marked said).0 in (t.up_too, t.running_too)

    abbrev pub marked_state : State
    marked_state = record (state_with (w.nodes s) (header_links w s)) { mark = Consistent }

    pub marked_can : is_over_group (w.nodes s) ≡ false → CanKeep (beside_of d s) (worked (w.nodes s)) marked_state
    marked_can alone = record {
      up = marked_opens.0;
      running = marked_opens.1;
      apart = alone;
      line = refl;
      role = refl;
      needs = λ k l is needs. needs_same (worked (w.nodes s)) (header_links w s) k l is needs;
    }

  -- ---- the link goes by the log

  abbrev opens : Event
  opens = LinkAt p s sync FailsWhenFull Opened

  abbrev opened_link : Link
  opened_link = opened (w.links p s) (w.nodes p).safe

  module _ (said : (step w opens).said ≡ IsDone) where
    pub opened_f : EffectAt p d (behind d opens) (w.nodes p) (updated (w.links p) s opened_link) (w.headers p + 1) (d.after p) w.packets (w.gathering p)
    opened_f = opened_effect d p s sync FailsWhenFull false said

    pub opened_opens : IsOpen (w.nodes p)
    opened_opens = let t : AreTwo w p s = (two_done w p s sync FailsWhenFull Opened said).0 in (t.up, t.running)

    pub opened_kept : row_links (updated (w.links p) s opened_link) w.sites ≡ header_links (behind d opens).world p
    opened_kept =
        sym (row_links_same (updated (w.links p) s opened_link) ((behind d opens).world.links p) opened_f.is.links (behind d opens).world.sites
        ∙ ap (λ (k : ℕ). row_links (updated (w.links p) s opened_link) k) opened_f.site.sites)

    pub opened_can : is_over_group (w.nodes p) ≡ false → CanKeep (beside_of d p) (worked (w.nodes p)) (state_with (w.nodes p) (header_links (behind d opens).world p))
    opened_can alone = record {
      up = opened_opens.0;
      running = opened_opens.1;
      apart = alone;
      line = refl;
      role = refl;
      needs = λ k l is needs.
          needs_over (worked (w.nodes p)) (w.links p) (linked_sites (w.links p) w.sites 0 w.sites) s (kept_link s opened_link) refl (λ _. inl (omega arith)) k l
          (ap (λ (ls : List KeptLink). slice_get ls k) (sym (changed_kept (w.links p) w.sites s opened_link refl) ∙ opened_kept) ∙ is) needs;
    }

  -- ---- as events that write a header

  module _ (fit : LinksFit d) where
    pub made_header : (w.nodes p).group ≡ None → (step w made).said ≡ IsDone → IsKeptHeader d made p (state_with (w.nodes p) (header_links (step w made).world p))
    made_header none said = record {
      header = record {
        row = updated (w.links p) s made_link;
        effect = made_f said;
        kept = made_kept said;
        sure = sure_open d p fit (made_opens said);
        like = record { state = refl; name = refl; disks = refl; blocks = refl; volumes = refl; group = refl; failing = refl; fuse = refl };
        fits = fit_happened d made false refl fit;
        fits_before = fit;
        sets = refl;
        opens = made_opens said;
        none = none;
        writes = refl;
      };
      role = refl;
      can = made_can said (none_over (w.nodes p) none) (fit.rows p).places;
    }

    pub marked_header : (w.nodes s).group ≡ None → (step w marked).said ≡ IsDone → IsKeptHeader d marked s (record (state_with (w.nodes s) (header_links w s)) { mark = Consistent })
    marked_header none said = record {
      header = record {
        row = w.links s;
        effect = marked_f said;
        kept = refl;
        sure = sure_open d s fit (marked_opens said);
        like = record { state = refl; name = refl; disks = refl; blocks = refl; volumes = refl; group = refl; failing = refl; fuse = refl };
        fits = fit_happened d marked false refl fit;
        fits_before = fit;
        sets = refl;
        opens = marked_opens said;
        none = none;
        writes = refl;
      };
      role = refl;
      can = marked_can said (none_over (w.nodes s) none);
    }

    pub opened_header : (w.nodes p).group ≡ None → (step w opens).said ≡ IsDone → IsKeptHeader d opens p (state_with (w.nodes p) (header_links (step w opens).world p))
    opened_header none said = record {
      header = record {
        row = updated (w.links p) s opened_link;
        effect = opened_f said;
        kept = opened_kept said;
        sure = sure_open d p fit (opened_opens said);
        like = record { state = refl; name = refl; disks = refl; blocks = refl; volumes = refl; group = refl; failing = refl; fuse = refl };
        fits = fit_happened d opens false refl fit;
        fits_before = fit;
        sets = refl;
        opens = opened_opens said;
        none = none;
        writes = refl;
      };
      role = refl;
      can = opened_can said (none_over (w.nodes p) none);
    }
