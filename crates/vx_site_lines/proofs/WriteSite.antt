-- A site that may keep links, behind a write of it.
use Rattle.std.proofs.Common.{◌≡◌, ◌∙◌, ◌+◌, ◌≤◌, ℕ, true, false, List, [], ◌∷◌, ◌++◌, length, ap, sym, subst, refl}
use Rattle.std.specs.Prelude.{Option, Some, None}
use Rattle.vx_model.specs.Content.{Write, blocks_in}
use Rattle.vx_model.specs.Sites.{is_origin}
use Rattle.vx_history.specs.Doubts.{After, Doubted, happened}
use Rattle.vx_history.specs.Events.{lost_touch}
use Rattle.vx_history.specs.Steps.{crashed, half_begun, logged, worked_on}
use Rattle.vx_history.specs.World.{Gathering, Link, Node, Packet}
use Rattle.vx_history.specs.declared.event.Event.TheVariants.{Crash as CrashAt, Write as WriteAt}
use Rattle.vx_disk.specs.declared.shelf.Shelf.{Ghosts}
use Rattle.vx_diskset.specs.Asked.{FailsAs, FusedAs}
use Rattle.vx_diskset.specs.DiskSets.{halted_with}
use Rattle.vx_diskset.specs.Holds.{KeptBeside, beside_of, row_links}
use Rattle.vx_diskset.specs.Stands.{RoleIs, SiteStands}
use Rattle.vx_diskset.specs.declared.disk_set.DiskSet.{DiskSet}
use Rattle.vx_events.specs.Doubts.{run_as}
use Rattle.vx_events.specs.Effects.{EffectAt}
use Rattle.vx_events.specs.LinkedFacts.{linked_fact}
use Rattle.vx_events.specs.LinksFit.{LinksFit}
use Rattle.vx_effects.specs.Facts.{fact_of, half_fact, logged_fact}
use Rattle.vx_effects.specs.Writes.{IsLetIn}
use Rattle.vx_effects.proofs.Facts.{fact_same, half_is, logged_is}
use Rattle.vx_effects.proofs.Fitting.{fit_happened, fit_run}
use Rattle.vx_effects.proofs.Leaving.{fit_worked}
use Rattle.vx_effects.proofs.Rows.{touch_kept}
use Rattle.vx_effects.proofs.WriteLines.{line_cut, line_halted, line_written, worked_effect}
use Rattle.vx_events.proofs.Places.{never_some}
use Rattle.vx_yard.proofs.CrashSite.{beside_sure, down_up}
use Rattle.vx_yard.proofs.FuseStays.{fused_none}
use Rattle.vx_yard.proofs.OneSite.{Comes, role_off}
use Rattle.vx_yard.proofs.Rows.{row_links_same}
use Rattle.vx_yard.proofs.Reaching.{Reaches, comes_reached, reaches_effect}

-- the world behind a write that is done, and behind one that met a failing disk, with what the line notes
abbrev pub written_for : Doubted → (s : ℕ) → Write → Option ℕ → Doubted
written_for d s x fails =
    let h = happened d (WriteAt s x.volume x.start x.bytes fails) false in record h { world = worked_on h.world s }

-- the world behind one that a fuse cut, of which a crash kept so many writes
abbrev pub cut_events : Doubted → (s : ℕ) → Write → (count : ℕ) → Doubted
cut_events d s x count = run_as false d (WriteAt s x.volume x.start x.bytes (Some 0) ∷ CrashAt s count ∷ [])

abbrev pub cut_for : Doubted → (s : ℕ) → Write → (count : ℕ) → Doubted
cut_for d s x count = record (cut_events d s x count) { world = worked_on (cut_events d s x count).world s }

written_fits : (d : Doubted) (s : ℕ) (x : Write) (fails : Option ℕ) → LinksFit d → LinksFit (written_for d s x fails)
written_fits d s x fails fits =
    fit_worked (happened d (WriteAt s x.volume x.start x.bytes fails) false) s (fit_happened d (WriteAt s x.volume x.start x.bytes fails) false tt fits)

-- what the tests see of a site that an event at it left
left_fact : (d e : Doubted) (s : ℕ) (n : Node) {many : ℕ} {doubt : Option After} {packets : List Packet} {gathered : Option Gathering} → EffectAt s d e n (d.world.links s) many doubt packets gathered
    → linked_fact e.world s ≡ fact_of n (d.world.links s) d.world.sites
left_fact d e s n f =
    ap (λ (m : Node). fact_of m (e.world.links s) e.world.sites) f.is.node
    ∙ ap (λ (k : ℕ). fact_of n (e.world.links s) k) f.site.sites
    ∙ fact_same n (d.world.links s) (e.world.links s) d.world.sites f.is.links

module _ (d : Doubted) (s : ℕ) (x : Write) (fits : LinksFit d) (can : IsLetIn d.world s x) where
  -- the facts of the site with one more write
  pub written_fact : is_origin (d.world.nodes s).role ≡ true → length (d.world.nodes s).log ≡ (d.world.nodes s).safe
      → linked_fact (written_for d s x None).world s ≡ logged_fact ((d.world.nodes s).safe + 1) (blocks_in x.bytes + 1) (linked_fact d.world s)
  written_fact origin all =
      left_fact d (written_for d s x None) s (logged (d.world.nodes s) x) (line_written d s x (fits.rows s) can)
      ∙ logged_is (d.world.nodes s) (d.world.links s) d.world.sites x origin all

  -- those of one that a disk halted in it
  pub half_shown : (disk : ℕ) → is_origin (d.world.nodes s).role ≡ true → length (d.world.nodes s).log ≡ (d.world.nodes s).safe
      → linked_fact (written_for d s x (Some disk)).world s ≡ half_fact disk ((d.world.nodes s).safe + 1) (blocks_in x.bytes + 1) (linked_fact d.world s)
  half_shown disk origin all =
      left_fact d (written_for d s x (Some disk)) s (halted_with (d.world.nodes s) x disk) (line_halted d s x (fits.rows s) can disk)
      ∙ half_is (d.world.nodes s) (d.world.links s) d.world.sites x disk origin all

module _ {R : Type 0} {g : Ghosts R} where
  -- the write is done
  pub written_reaches : (d : Doubted) (s : ℕ) (x : Write) (after : DiskSet R g) → LinksFit d → IsLetIn d.world s x → SiteStands (beside_of d s) (logged (d.world.nodes s) x) after → RoleIs (d.world.nodes s) after
      → Reaches d (written_for d s x None) s (logged (d.world.nodes s) x) after
  written_reaches d s x after fits can stands role =
      reaches_effect d (written_for d s x None) s (logged (d.world.nodes s) x) d.world.packets (d.world.gathering s) after (line_written d s x (fits.rows s) can) (written_fits d s x None fits)
      refl refl refl refl refl stands role

  pub written_comes : (d : Doubted) (s : ℕ) (x : Write) (after : DiskSet R g) → LinksFit d → IsLetIn d.world s x → SiteStands (beside_of d s) (logged (d.world.nodes s) x) after
      → FailsAs (d.world.nodes s) after → FusedAs (logged (d.world.nodes s) x) after → RoleIs (d.world.nodes s) after → Comes d (written_for d s x None) s after
  written_comes d s x after fits can stands failing fuse role =
      comes_reached d (written_for d s x None) s (logged (d.world.nodes s) x) after (written_reaches d s x after fits can stands role) (record { told = failing.told }) fuse

  -- a disk failed in it
  pub half_reaches : (d : Doubted) (s : ℕ) (x : Write) (disk : ℕ) (after : DiskSet R g) → LinksFit d → IsLetIn d.world s x → SiteStands (beside_of d s) (halted_with (d.world.nodes s) x disk) after → RoleIs (d.world.nodes s) after
      → Reaches d (written_for d s x (Some disk)) s (halted_with (d.world.nodes s) x disk) after
  half_reaches d s x disk after fits can stands role =
      reaches_effect d (written_for d s x (Some disk)) s (halted_with (d.world.nodes s) x disk) d.world.packets (d.world.gathering s) after (line_halted d s x (fits.rows s) can disk)
      (written_fits d s x (Some disk) fits) refl refl refl refl refl stands role

  pub half_comes : (d : Doubted) (s : ℕ) (x : Write) (disk : ℕ) (after : DiskSet R g) → LinksFit d → IsLetIn d.world s x → SiteStands (beside_of d s) (halted_with (d.world.nodes s) x disk) after
      → FailsAs (d.world.nodes s) after → FusedAs (halted_with (d.world.nodes s) x disk) after → RoleIs (d.world.nodes s) after → Comes d (written_for d s x (Some disk)) s after
  half_comes d s x disk after fits can stands failing fuse role =
      comes_reached d (written_for d s x (Some disk)) s (halted_with (d.world.nodes s) x disk) after (half_reaches d s x disk after fits can stands role) (record { told = failing.told }) fuse

  -- the fuse of its site ran out in it
  pub cut_reaches : (d : Doubted) (s : ℕ) (x : Write) (count : ℕ) (after : DiskSet R g) → LinksFit d → IsLetIn d.world s x → (d.world.nodes s).safe ≤ count → count ≤ length ((d.world.nodes s).log ++ x ∷ [])
      → SiteStands (record (beside_of d s) { doubt = None }) (crashed (half_begun (d.world.nodes s) x) count) after → Reaches d (cut_for d s x count) s (crashed (half_begun (d.world.nodes s) x) count) after
  cut_reaches d s x count after fits can least most stands =
      let last : Doubted = cut_events d s x count in
      let e : Doubted = cut_for d s x count in
      let n : Node = crashed (half_begun (d.world.nodes s) x) count in
      let row : ℕ → Link = d.world.links s in
      let eff : EffectAt s d e n (λ k. lost_touch (row k)) (d.world.headers s) None d.world.packets None = worked_effect s d last n (line_cut d s x (fits.rows s) can count least most) in
      let there : beside_of e s ≡ record (beside_of d s) { doubt = None } =
      beside_sure e s (row_links row d.world.sites) (d.world.headers s)
      (row_links_same (λ k. lost_touch (row k)) (e.world.links s) eff.is.links e.world.sites ∙ ap (λ (k : ℕ). row_links (λ j. lost_touch (row j)) k) eff.site.sites ∙ touch_kept row d.world.sites)
      eff.is.headers eff.is.after in
      record {
        changes = eff.site;
        here = eff.is.node;
        links = fit_worked last s (fit_run false d (WriteAt s x.volume x.start x.bytes (Some 0) ∷ CrashAt s count ∷ []) (tt, (tt, tt)) fits);
        stands = subst (λ (b : KeptBeside). SiteStands b n after) (sym there) stands;
        role = role_off (record (beside_of d s) { doubt = None }) n n after stands (λ up. down_up up);
        doubt = λ was a is. absurd (never_some (sym eff.is.after ∙ is));
      }

  pub cut_comes : (d : Doubted) (s : ℕ) (x : Write) (count : ℕ) (after : DiskSet R g) → LinksFit d → IsLetIn d.world s x → (d.world.nodes s).safe ≤ count
      → count ≤ length ((d.world.nodes s).log ++ x ∷ []) → SiteStands (record (beside_of d s) { doubt = None }) (crashed (half_begun (d.world.nodes s) x) count) after
      → FailsAs (d.world.nodes s) after → Comes d (cut_for d s x count) s after
  cut_comes d s x count after fits can least most stands failing =
      let n : Node = crashed (half_begun (d.world.nodes s) x) count in
      comes_reached d (cut_for d s x count) s n after (cut_reaches d s x count after fits can least most stands) (record { told = failing.told }) (fused_none n after refl)
