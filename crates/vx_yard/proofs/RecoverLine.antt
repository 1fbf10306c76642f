-- What a line comes to that recovers a site.
use Rattle.std.proofs.Common.{◌≡◌, ◌∙◌, ◌⊎◌, inl, inr, ℕ, ◌+◌, List, [], ◌∷◌, arith, Bool, true, false, ap, refl, subst, sym, IsTrue}
use Rattle.std.specs.Prelude.{None}
use Rattle.vx_history.specs.World.{Node}
use Rattle.vx_model.specs.declared.site.SiteState.{SiteState}
use Rattle.vx_model.specs.declared.site.SiteState.TheVariants.{Bare as IsBare, Up as IsUp, Deported, Down as IsDown}
use Rattle.vx_disk.specs.declared.shelf.Shelf.{Ghosts}
use Rattle.vx_order.specs.declared.facts.SiteFacts.{SiteFacts}
use Rattle.vx_diskset.specs.declared.disk_set.DiskSet.{DiskSet}
use Rattle.vx_diskset.specs.declared.disk_set.DiskSet.TheVariants.{Bare, Spoiled, Up, Receives, Down, OfGroup, Over, Gone}
use Rattle.vx_history.specs.Doubts.{Doubted}
use Rattle.vx_history.specs.declared.event.Event.TheVariants.{Recover as RecoverAt}
use Rattle.vx_script.specs.declared.line.ScriptLine.TheVariants.{Recover}
use Rattle.vx_events.specs.Ends.{Ends}
use Rattle.vx_events.specs.Facts.{site_number, group_by}
use Rattle.vx_events.specs.Lines.{IsDone as IsDoneLine}
use Rattle.vx_events.specs.Lists.{crash_count, events_of, recovery_of}
use Rattle.vx_events.specs.declared.said.Said.{Said}
use Rattle.vx_yard.proofs.SiteEvents.{first_choice}
use Rattle.vx_grouped.specs.GroupSites.{site_below, site_disks}
use Rattle.vx_events.specs.Fails.{Fails}
use Rattle.vx_yard.specs.Stands.{RoseAll, RoseBy, times}
use Rattle.vx_diskset.specs.Stands.{IsRackTold, IsToldAt}
use Rattle.vx_diskset.specs.Aboves.{site_in}
use Rattle.vx_events.specs.LinkedFacts.{seen_fact}

-- a session more is not seen
pub session_fact : (n : Node) → seen_fact n ≡ seen_fact (record n { session = n.session + 1 })
session_fact n = ap (λ r. let f : SiteFacts = record (seen_fact n) { rvg = r } in f) (seen n.state)
  where
    seen : (t : SiteState) → group_by t n ≡ group_by t (record n { session = n.session + 1 })
    seen IsBare = refl
    seen IsUp = refl
    seen Deported = refl
    seen IsDown = refl

rose_by : (n a b c : ℕ) → RoseBy 0 a b → RoseBy n b c → RoseBy n a c
rose_by n a b c one two = omega (arith, one, two)

pub rose_then : (fails : Fails) (old mid new : ℕ → ℕ → ℕ) → RoseAll [] old mid → RoseAll fails mid new → RoseAll fails old new
rose_then fails old mid new one two = record { each = λ s d. rose_by (times fails s d) (old s d) (mid s d) (new s d) (one.each s d) (two.each s d) }

true_or : (b : Bool) → IsTrue b ⊎ (IsTrue b → ⊥)
true_or true = inl refl
true_or false = inr (λ e. cc)

-- the one event of a bare site
pub bare_events : (d : Doubted) (s : ℕ) (name : List ℕ) → site_number d.world name ≡ s → (d.world.nodes s).state ≡ IsBare → events_of d.world (Recover name) first_choice ≡ RecoverAt s None ∷ []
bare_events d s name number bare =
    ap (λ (k : ℕ). recovery_of (d.world.nodes k).state k (crash_count (d.world.nodes k) first_choice.kept)) number
    ∙ ap (λ (t : SiteState). recovery_of t s (crash_count (d.world.nodes s) first_choice.kept)) bare

-- a line that recovers a site is done as its events end
pub recover_done : (T : Type 0) (d next : Doubted) (s : ℕ) (name : List ℕ) (fails : Fails) (said : Said) → site_number d.world name ≡ s → Ends T d (Recover name) s fails said next
    → IsDoneLine T d (Recover name) fails said next
recover_done T d next s name fails said number ends = record {
  ends = subst (λ (k : ℕ). Ends T d (Recover name) k fails said next) (sym number) ends;
  counts = tt;
  works = tt;
  calls = tt;
}

module _ {R : Type 0} {g : Ghosts R} where
  pub told_or : (e : DiskSet R g) → IsToldAt e ⊎ (IsToldAt e → ⊥)
  told_or (Bare rack) = true_or (g.meaning rack).tells
  told_or (Spoiled rack) = true_or (g.meaning rack).tells
  told_or (Up rvg) = true_or (g.meaning rvg.shelf).tells
  told_or (Receives s) = true_or (g.meaning s.rvg.shelf).tells
  told_or (Down rack) = true_or (g.meaning rack).tells
  told_or (OfGroup s) = true_or (site_below s.site).tells
  told_or (Over s) = true_or (site_disks (site_in s)).tells
  told_or Gone = inr (λ none. none)

  pub rack_told_or : (e : DiskSet R g) → IsRackTold e ⊎ (IsRackTold e → ⊥)
  rack_told_or (Bare rack) = true_or (g.meaning rack).tells
  rack_told_or (Spoiled rack) = true_or (g.meaning rack).tells
  rack_told_or (Up rvg) = true_or (g.meaning rvg.shelf).tells
  rack_told_or (Receives s) = true_or (g.meaning s.rvg.shelf).tells
  rack_told_or (Down rack) = true_or (g.meaning rack).tells
  rack_told_or (OfGroup s) = true_or (site_below s.site).tells
  rack_told_or (Over s) = true_or (site_below (site_in s)).tells
  rack_told_or Gone = inr (λ none. none)
