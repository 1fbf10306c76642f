-- How a line that writes ends, where sites may keep links and be in doubt.
use Rattle.std.proofs.Common.{◌≡◌, inl, ◌+◌, ◌<◌, ◌≤◌, ℕ, Bool, true, false, List, [], ◌∷◌, sym, subst, refl}
use Rattle.std.specs.Prelude.{Some, None, if◌then◌else◌}
use Rattle.vx_model.specs.Content.{Write, blocks_in}
use Rattle.vx_model.specs.declared.limits.TheConstants.{MOST_NUMBER}
use Rattle.vx_model.specs.declared.no.Counted.TheVariants.{Number}
use Rattle.vx_model.specs.declared.no.No.TheVariants.{Device, Down as Off, Limit}
use Rattle.vx_model.specs.declared.site.Role.TheVariants.{Primary}
use Rattle.vx_history.specs.Admission.{Goes}
use Rattle.vx_history.specs.Doubts.{Doubted}
use Rattle.vx_history.specs.Events.{admitted}
use Rattle.vx_history.specs.Refusals.{is_waited_for, some_below}
use Rattle.vx_history.specs.Step.{step}
use Rattle.vx_history.specs.Steps.{worked_on}
use Rattle.vx_history.specs.Stops.{IsFused}
use Rattle.vx_history.specs.World.{World}
use Rattle.vx_history.specs.declared.admission.Change.{Change}
use Rattle.vx_history.specs.declared.event.Event.{Event}
use Rattle.vx_history.specs.declared.event.Event.TheVariants.{Write as WriteAt}
use Rattle.vx_history.specs.declared.event.Said.{Said as EventSaid}
use Rattle.vx_history.specs.declared.event.Said.TheVariants.{DoneAt as IsDoneAt, Logged as IsLogged}
use Rattle.vx_script.specs.declared.line.ScriptLine.{ScriptLine}
use Rattle.vx_diskset.specs.DiskSets.{CanWrite}
use Rattle.vx_events.specs.Doubts.{run_as}
use Rattle.vx_events.specs.Ends.{AllDone, DiskFails, Ends, FuseRunsOut, IsLeft, NoNumber, noted}
use Rattle.vx_events.specs.Fails.{IsSiteDisk}
use Rattle.vx_events.specs.Lists.{Choice, events_of}
use Rattle.vx_events.specs.LinksFit.{RowFits}
use Rattle.vx_events.specs.Sayings.{RepeatsSaid, Replies}
use Rattle.vx_events.specs.Stamps.{most_stamp_at}
use Rattle.vx_events.specs.declared.said.Said.{Said}
use Rattle.vx_events.specs.declared.said.Said.TheVariants.{DoneAt, Logged, Refused}
use Rattle.vx_effects.specs.Writes.{IsLetIn}
use Rattle.vx_effects.proofs.Writes.{write_said}
use Rattle.vx_site_lines.proofs.WriteSite.{cut_for, written_for}

-- what the tests found lets the write in
pub let_in : (w : World) (s : ℕ) (x : Write) (cs : List Change) → s < w.sites → CanWrite (w.nodes s) x.volume x.start (blocks_in x.bytes) → (w.nodes s).role ≡ Primary
    → 1 ≤ blocks_in x.bytes → blocks_in x.bytes ≤ 16 → (w.nodes s).safe < MOST_NUMBER → admitted w s x ≡ Goes cs → IsLetIn w s x
let_in w s x cs below can primary some few free goes = record {
  call = record { site = below; up = can.up; running = can.running; primary = primary; known = can.volume_exists; some = some; few = few; within = can.within };
  fits = can.fits;
  free = free;
  changes = cs;
  goes = goes;
}

-- a write that some link has to confirm is logged
abbrev pub said_by : (waited : Bool) → ℕ → Said
said_by waited number = if waited then Logged number else DoneAt number

repeats_by : (w : World) (s : ℕ) (waited : Bool) (number : ℕ) → RepeatsSaid w s (if waited then IsLogged number else IsDoneAt number) (said_by waited number)
repeats_by w s true number = refl
repeats_by w s false number = refl

module _ (told : Type 0) (d : Doubted) (line : ScriptLine) (s : ℕ) (x : Write) (c : Choice)
    (events : events_of d.world line c ≡ WriteAt s x.volume x.start x.bytes None ∷ []) (notes : (v : World) → noted s line v ≡ worked_on v s) where
  abbrev event : Event
  event = WriteAt s x.volume x.start x.bytes None

  -- it is done, and answered by the links of its site
  pub done_ends : RowFits s d.world.sites (d.world.links s) → IsLetIn d.world s x
      → Ends told d line s [] (said_by (some_below d.world.sites (λ k. is_waited_for k (d.world.links s k))) ((d.world.nodes s).safe + 1)) (written_for d s x None)
  done_ends fit can =
      let waited : Bool = some_below d.world.sites (λ k. is_waited_for k (d.world.links s k)) in
      let said : Said = said_by waited ((d.world.nodes s).safe + 1) in
      let e : Doubted = written_for d s x None in
      AllDone c false tt
      (subst (λ (es : List Event). Replies told line s false d es said) (sym events)
      (subst (λ (o : EventSaid). RepeatsSaid (step d.world event).world s o said) (sym (write_said d.world s x fit can)) (repeats_by (step d.world event).world s waited ((d.world.nodes s).safe + 1))))
      (subst (λ (es : List Event). IsLeft s line false d (run_as false d es) e) (sym events) (record { world = sym (notes (step d.world event).world); after = λ i. refl; strayed = refl }))

  -- a disk failed in it
  pub half_ends : (disk : ℕ) → IsSiteDisk (d.world.nodes s) disk → Ends told d line s ((s, disk) ∷ []) (Refused (Device disk)) (written_for d s x (Some disk))
  half_ends disk names =
      DiskFails c false [] event [] (WriteAt s x.volume x.start x.bytes (Some disk) ∷ []) disk events refl names refl refl
      (record { world = sym (notes (step d.world (WriteAt s x.volume x.start x.bytes (Some disk))).world); after = λ i. refl; strayed = refl })

  -- no number is left
  pub none_ends : (told → MOST_NUMBER ≤ most_stamp_at d.world s) → Ends told d line s [] (Refused (Limit Number MOST_NUMBER)) (record d { world = worked_on d.world s })
  none_ends least = NoNumber c false [] event [] events tt least refl refl (record { world = sym (notes d.world); after = λ i. refl; strayed = refl })

  -- the fuse of its site ran out in it
  pub cut_ends : IsFused (d.world.nodes s).fuse → Ends told d line s [] (Refused Off) (cut_for d s x c.kept)
  cut_ends fused =
      FuseRunsOut c event (WriteAt s x.volume x.start x.bytes (Some 0) ∷ []) events (inl refl) tt fused refl refl (record { world = sym (notes _); after = λ i. refl; strayed = refl })
