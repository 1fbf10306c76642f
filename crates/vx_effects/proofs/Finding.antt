-- What a line of links finds over disks that tell no contents keeps the links fitting.
use Rattle.std.proofs.Common.{◌≡◌, ◌∙◌, ℕ, ◌≤◌, Bool, true, false, List, refl, ap, sym, subst}
use Rattle.std.specs.Prelude.{Option, Some, eqb}
use Rattle.vx_history.proofs.Updates.{at_place, eqb_apart, eqb_equal}
use Rattle.vx_history.specs.Doubts.{Doubted, halved}
use Rattle.vx_history.specs.Events.{with_write}
use Rattle.vx_history.specs.Refusals.{is_running}
use Rattle.vx_history.specs.Sends.{is_linked}
use Rattle.vx_history.specs.Step.{step}
use Rattle.vx_history.specs.Steps.{burned}
use Rattle.vx_history.specs.World.{Gathering, Link as LinkOf, Node, Packet, World, with_node}
use Rattle.vx_history.specs.declared.event.Event.{Event}
use Rattle.vx_history.specs.declared.event.Event.TheVariants.{Deliver as DeliverAt, Fault, Pump as PumpAt}
use Rattle.vx_model.specs.declared.site.SiteState.TheVariants.{Bare, Down, Up}
use Rattle.vx_script.specs.declared.line.ScriptLine.{ScriptLine}
use Rattle.vx_events.specs.Facts.{site_number}
use Rattle.vx_events.specs.Fails.{Fails}
use Rattle.vx_events.specs.LinkFinds.{ApplyCut, ApplyHalts, EndsBetween, FindsOther, GivesUp, HasMoved, HeaderCut, HeaderHalts, IsStored, IsUnread, KeepsOther, LosesOther, MovesBetween, ReadsNone, SendsOther, SettlesOther, TakesOf, TakesOther, pumped_with, target_with}
use Rattle.vx_events.specs.LinksFit.{IsPlain, LinksFit}
use Rattle.vx_events.specs.declared.said.Said.{Said}
use Rattle.vx_effects.proofs.Fitting.{fit_happened}
use Rattle.vx_effects.proofs.Leaving.{fit_crashed_as, fit_halved}
use Rattle.vx_effects.proofs.Links.{KeepsLink, keeps_equal, none_of}
use Rattle.vx_effects.proofs.Moves.{All, Moves, Rests, Stays, StillKeeps, fit_moves, keeps_role, moves_alike, moves_like, moves_same, rests_same, stays_same}

-- the same world but for what is sent and put together
fit_like : (d : Doubted) (v u : World) → u.sites ≡ v.sites → ((p : ℕ) → u.nodes p ≡ v.nodes p) → ((p k : ℕ) → u.links p k ≡ v.links p k) → ((p : ℕ) → u.headers p ≡ v.headers p)
    → LinksFit (record d { world = v }) → LinksFit (record d { world = u })
fit_like d v u sites nodes links headers fit =
    fit_moves (record d { world = v }) (record d { world = u }) (moves_like All v v u sites nodes links (moves_same All v)) (λ p _. headers p) (λ p a is. (is, tt)) fit

-- the target of an update is a node that is up as before
fit_target_with : (d : Doubted) (s : ℕ) (n : Node) (g : Option Gathering) (more : List Packet) → n.state ≡ (d.world.nodes s).state → n.halted ≡ (d.world.nodes s).halted
    → n.role ≡ (d.world.nodes s).role → Rests (d.world.nodes s) n → LinksFit d → LinksFit (record d { world = target_with d.world s n g more })
fit_target_with d s n g more state halted role rests fit =
    fit_moves d (record d { world = target_with d.world s n g more })
    (moves_like All d.world (with_node d.world s n) (target_with d.world s n g more) refl (λ p. refl) (λ p j. refl) (moves_alike All d.world s n state halted role rests))
    (λ p _. refl) (λ p a is. (is, tt)) fit

-- ---- a link that is settled

-- the site that took updates is up as it was, in its role
module _ (p : ℕ) (n k : Node) (takes : TakesOf p n k) (up : n.state ≡ Up) where
  same_state : k.state ≡ n.state
  same_state = ap (λ (m : Node). m.state) takes.rest

  taken_stays : Stays n k
  taken_stays = record { up = λ e. same_state ∙ e; halted = λ _ h. ap (λ (m : Node). is_running m.halted) takes.rest ∙ h }

  taken_rests : Rests n k
  taken_rests = record {
    quiet = λ e. ap (λ (m : Node). m.phase) takes.rest ∙ e;
    rests = λ _ down. let f : Up ≡ Down = sym up ∙ sym same_state ∙ down in absurd (cc);
  }

moved_keeps : (l m : LinkOf) → is_linked l ≡ true → HasMoved l m → KeepsLink l m
moved_keeps l m linked moved = record {
  made = ap (λ (x : LinkOf). x.made) moved.rest;
  plain = λ f. subst IsPlain (sym moved.rest) (record { prot = f.prot; mode = f.mode; bunker = f.bunker; trimmed = f.trimmed; map = f.map });
  none = none_of l m linked;
}

module _ (p s : ℕ) (d e : Doubted) (m : MovesBetween p s d e) where
  -- of each site, by whether it is the one that took updates
  by_site : (P : (i : ℕ) → Node → Node → Type 0) → P s (d.world.nodes s) (e.world.nodes s) → ((i : ℕ) → P i (d.world.nodes i) (d.world.nodes i)) → (i : ℕ)
      → P i (d.world.nodes i) (e.world.nodes i)
  by_site P here there i = choose (eqb i s) refl
    where
      choose : (b : Bool) → eqb i s ≡ b → P i (d.world.nodes i) (e.world.nodes i)
      choose true same = subst (λ (j : ℕ). P j (d.world.nodes j) (e.world.nodes j)) (sym (eqb_equal i s same)) here
      choose false other = subst (λ (n : Node). P i (d.world.nodes i) n) (sym (m.nodes i (eqb_apart i s other))) (there i)

  link_kept : (i k : ℕ) → KeepsLink (d.world.links i k) (e.world.links i k)
  link_kept i k = choose (eqb i p) refl (eqb k s) refl
    where
      choose : (a : Bool) → eqb i p ≡ a → (b : Bool) → eqb k s ≡ b → KeepsLink (d.world.links i k) (e.world.links i k)
      choose false other b _ = keeps_equal (d.world.links i k) (e.world.links i k) (m.rows i k (eqb_apart i p other))
      choose true same false other =
          keeps_equal (d.world.links i k) (e.world.links i k)
          (subst (λ (j : ℕ). e.world.links j k ≡ d.world.links j k) (sym (eqb_equal i p same)) (m.links k (eqb_apart k s other)))
      choose true same true too =
          subst (λ (j : ℕ). KeepsLink (d.world.links j k) (e.world.links j k)) (sym (eqb_equal i p same))
          (subst (λ (j : ℕ). KeepsLink (d.world.links p j) (e.world.links p j)) (sym (eqb_equal k s too)) (moved_keeps (d.world.links p s) (e.world.links p s) m.linked m.moves))

  between_moves : Moves All d.world e.world
  between_moves = record {
    sites = m.sites;
    links = link_kept;
    bare = by_site (λ _ (a b : Node). b.state ≡ Bare → a.state ≡ Bare) (λ b. sym (same_state p (d.world.nodes s) (e.world.nodes s) m.takes m.up) ∙ b) (λ i b. b);
    later = by_site (λ (i : ℕ) (a b : Node). d.world.sites ≤ i → a.state ≡ Bare → b.state ≡ Bare)
        (λ _ b. same_state p (d.world.nodes s) (e.world.nodes s) m.takes m.up ∙ b) (λ i _ b. b);
    stays = by_site (λ _ (a b : Node). Unit {0} → Stays a b) (λ _. taken_stays p (d.world.nodes s) (e.world.nodes s) m.takes m.up) (λ i _. stays_same (d.world.nodes i));
    starts = by_site (λ (i : ℕ) (a b : Node). StillKeeps d.world.sites (d.world.links i) a b)
        (keeps_role d.world.sites (d.world.links s) (d.world.nodes s) (e.world.nodes s) (ap (λ (n : Node). n.role) m.takes.rest)) (λ i. keeps_role d.world.sites (d.world.links i) (d.world.nodes i) (d.world.nodes i) refl);
    rests = by_site (λ _ (a b : Node). Rests a b) (taken_rests p (d.world.nodes s) (e.world.nodes s) m.takes m.up) (λ i. rests_same (d.world.nodes i));
  }

  -- a bare site keeps no link, so no headers of it were written
  fit_between : LinksFit d → LinksFit e
  fit_between fit =
      fit_moves d e between_moves
      (λ i bare. m.headers i (λ (same : i ≡ p).
      let none : is_linked (d.world.links i s) ≡ false = (fit.bare i bare).links s in
      let f : true ≡ false = sym m.linked ∙ subst (λ (j : ℕ). is_linked (d.world.links j s) ≡ false) same none in cc))
      (λ i a is. (sym (m.after i) ∙ is, tt)) fit

-- a site that a disk halted is up
halved_up : (d : Doubted) (e : Event) (s disk : ℕ) → (d.world.nodes s).state ≡ Up → ((halved d e s disk).world.nodes s).state ≡ Up
halved_up d e s disk up = ap (λ (n : Node). n.state) (at_place d.world.nodes s (record (d.world.nodes s) { halted = Some disk; fuse = burned (d.world.nodes s).fuse })) ∙ up

fit_ends : (p s : ℕ) (d middle : Doubted) (fails : Fails) (said : Said) (last : Doubted) → EndsBetween p s d middle fails said last → LinksFit middle → LinksFit last
fit_ends p s d middle fails said last (IsStored stored none is leaves) fit = subst LinksFit (sym leaves) fit
fit_ends p s d middle fails said last (GivesUp why other none is leaves) fit = subst LinksFit (sym leaves) fit
fit_ends p s d middle fails said last (IsUnread disk asks here one is leaves) fit = subst LinksFit (sym leaves) fit
fit_ends p s d middle fails said last (HeaderHalts number disk opens writes here one is leaves) fit =
    subst LinksFit (sym leaves) (fit_halved middle (DeliverAt number) p disk opens writes tt fit)
fit_ends p s d middle fails said last (ApplyHalts disk opens here one is leaves) fit = subst LinksFit (sym leaves) (fit_happened middle (Fault s disk) false tt fit)
fit_ends p s d middle fails said last (HeaderCut number kept taken opens writes fused none is leaves) fit =
    subst LinksFit (sym leaves)
    (fit_crashed_as (halved middle (DeliverAt number) p 0) p kept taken (halved_up middle (DeliverAt number) p 0 opens.0) (fit_halved middle (DeliverAt number) p 0 opens writes tt fit))
fit_ends p s d middle fails said last (ApplyCut kept taken opens fused none is leaves) fit =
    subst LinksFit (sym leaves)
    (fit_crashed_as (halved middle (Fault s 0) s 0) s kept taken (halved_up middle (Fault s 0) s 0 opens.0) (fit_halved middle (Fault s 0) s 0 opens refl tt fit))

pub fit_finds : (d : Doubted) (line : ScriptLine) (fails : Fails) (said : Said) (last : Doubted) → FindsOther d line fails said last → LinksFit d → LinksFit last
fit_finds d line fails said last (SendsOther p s more is sends none says leaves) fit =
    let a : ℕ = site_number d.world p in
    let b : ℕ = site_number d.world s in
    subst LinksFit (sym leaves)
    (fit_like d (step d.world (PumpAt a b)).world (pumped_with d.world a b more) refl (λ i. refl) (λ i k. refl) (λ i. refl) (fit_happened d (PumpAt a b) false tt fit))
fit_finds d line fails said last (ReadsNone p s why is other none says leaves) fit = subst LinksFit (sym leaves) fit
fit_finds d line fails said last (TakesOther number q x is may none says leaves) fit =
    subst LinksFit (sym leaves)
    (fit_target_with d q.target (with_write (d.world.nodes q.target) q.source x) _ _ refl refl refl
    (record { quiet = λ e. e; rests = λ _ down. let f : Up ≡ Down = sym may.opens.0 ∙ down in absurd (cc) }) fit)
fit_finds d line fails said last (KeepsOther number q is may none says leaves) fit =
    subst LinksFit (sym leaves) (fit_target_with d q.target (d.world.nodes q.target) _ _ refl refl refl (rests_same (d.world.nodes q.target)) fit)
fit_finds d line fails said last (LosesOther number q is may none says leaves) fit = subst LinksFit (sym leaves) fit
fit_finds d line fails said last (SettlesOther p s middle is moves ends) fit =
    let a : ℕ = site_number d.world p in
    let b : ℕ = site_number d.world s in
    fit_ends a b d middle fails said last ends (fit_between a b d middle moves fit)
