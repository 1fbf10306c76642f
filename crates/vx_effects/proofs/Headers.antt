-- For a bare site no header is written.
use Rattle.std.proofs.Common.{◌≡◌, ◌∙◌, ℕ, zero, suc, Bool, true, false, refl, ap, sym, subst, arith}
use Rattle.std.specs.Prelude.{not, ◌&&◌, eqb, ltb, Option, Some, None, if◌then◌else◌}
use Rattle.std.proofs.lemmas.Bool.Decides.{nat_tests}
use Rattle.vx_model.specs.Answer.{is_too_large}
use Rattle.vx_model.specs.Content.{Write as WriteBlocks, blocks_in}
use Rattle.vx_model.specs.Sites.{is_origin, is_up}
use Rattle.vx_model.specs.declared.no.No.{No}
use Rattle.vx_model.specs.declared.site.SiteState.{SiteState}
use Rattle.vx_model.specs.declared.site.SiteState.TheVariants.{Bare, Up}
use Rattle.vx_history.proofs.Updates.{by_test, eqb_equal}
use Rattle.vx_history.specs.Admission.{mode_holds}
use Rattle.vx_history.specs.Events.{admitted, delivered, gathers, handed, heard, link_attached, link_detached, link_with, packet_at, written_if}
use Rattle.vx_history.specs.Headers.{count_at, headers_by, heard_headers, is_given_up, is_refused, one_at, part_writes}
use Rattle.vx_history.specs.Refusals.{Outcome, at_site, both_at_work, how_many_below, is_running, refused, says}
use Rattle.vx_history.specs.Sends.{with_link}
use Rattle.vx_history.specs.Step.{done, link_part, outcome_of}
use Rattle.vx_history.specs.World.{Link as LinkOf, Packet, World}
use Rattle.vx_history.specs.declared.event.Event.{Event}
use Rattle.vx_history.specs.declared.event.Event.TheVariants.{Site, Raw, Group, Volumes, Write, Read, Apply, Pump, Tick, Deliver, Connect, Cut, Pause, Resume, Wait, Link, Set, Attach, Detach, Crash, Deport, Fall, Recover, Fault}
use Rattle.vx_history.specs.declared.event.LinkPart.{LinkPart}
use Rattle.vx_history.specs.declared.event.LinkPart.TheVariants.{Joins, Made, Marked, Opened}
use Rattle.vx_history.specs.declared.event.Said.TheVariants.{Ignored as IsIgnored}
use Rattle.vx_effects.proofs.Tests

pub none_at : (site i n : ℕ) → (site ≡ i → n ≡ 0) → count_at site i n ≡ 0
none_at site i n k = by_test (λ (m : ℕ). m ≡ 0) (eqb site i) n 0 (λ e. k (eqb_equal site i e)) (λ _. refl)

abbrev one_by : Bool → ℕ
one_by b = if b then 1 else 0

pub count_none : (n : ℕ) (test : ℕ → Bool) → ((k : ℕ) → test k ≡ false) → how_many_below n test ≡ 0
count_none zero test none = refl
count_none (suc k) test none =
    let rest : how_many_below k test ≡ 0 = count_none k test none in
    let here : one_by (test k) ≡ one_by false = ap one_by (none k) in
    omega (arith, rest, here)

not_both : (b : Bool) → (b && not b) ≡ false
not_both true = refl
not_both false = refl

-- a link that is as it was is not given up
pub none_given : (a b : LinkOf) → b ≡ a → is_given_up a b ≡ false
none_given a b e = ap (λ (l : LinkOf). mode_holds a.mode && not (mode_holds l.mode)) e ∙ not_both (mode_holds a.mode)

not_less : (n : ℕ) → ltb n n ≡ false
not_less n = grind (arith, nat_tests)

module _ (w : World) (i : ℕ) (bare : (w.nodes i).state ≡ Bare) where
  never_up : (p : ℕ) → p ≡ i → (w.nodes p).state ≡ Up → ⊥
  never_up p is up = let e : (w.nodes p).state ≡ Bare = subst (λ (k : ℕ). (w.nodes k).state ≡ Bare) (sym is) bare in let f : Up ≡ Bare = sym up ∙ e in cc

  written_none : (p : ℕ) (x : WriteBlocks) (fails : Option ℕ) → p ≡ i
      → how_many_below w.sites (λ k. is_given_up (w.links p k) ((outcome_of w (Write p x.volume x.start x.bytes fails)).world.links p k)) ≡ 0
  written_none p x fails is =
      Tests.volume_ends (λ (o : Outcome). how_many_below w.sites (λ k. is_given_up (w.links p k) (o.world.links p k)) ≡ 0) w
      (λ why. count_none w.sites (λ k. is_given_up (w.links p k) (w.links p k)) (λ k. none_given (w.links p k) (w.links p k) refl))
      p x.volume x.start (blocks_in x.bytes) (is_too_large (w.nodes p).ring (blocks_in x.bytes)) (written_if (admitted w p x) w p x fails)
      (λ up. absurd (never_up p is up))

  heard_none : (p : Option Packet) (number : ℕ) → heard_headers w (delivered w number p).world i p ≡ 0
  heard_none None number = refl
  heard_none (Some p) number =
      none_at p.target i _
      (λ is.
      let closed : (w.nodes p.target).state ≡ Bare = subst (λ (k : ℕ). (w.nodes k).state ≡ Bare) (sym is) bare in
      let told : ℕ = (w.links p.target p.source).stored in
      let ignored : handed w p ≡ says w IsIgnored =
      ap (λ (s : SiteState). if is_up s && is_running (w.nodes p.target).halted then heard w p p.message else says w IsIgnored) closed in
      ap (λ (o : Outcome). if ltb told ((gathers p o).world.links p.target p.source).stored then 1 else 0) ignored
      ∙ ap one_by (not_less told))

  abbrev None_at : (x : ℕ) → Outcome → Type 0
  None_at x o = one_at x i o.said ≡ 0

  refused_none : (x : ℕ) (why : No) → None_at x (refused w why)
  refused_none x why = none_at x i 0 (λ _. refl)

  up_none : (x : ℕ) (o : Outcome) → (w.nodes x).state ≡ Up → None_at x o
  up_none x o up = none_at x i (if is_refused o.said then 0 else 1) (λ is. absurd (never_up x is up))

  part_none : (part : LinkPart) (p s : ℕ) (o : Outcome) → (w.nodes p).state ≡ Up → (w.nodes s).state ≡ Up → None_at (part_writes part p s) o
  part_none Joins p s o up there = up_none s o there
  part_none Made p s o up there = up_none p o up
  part_none Marked p s o up there = up_none s o there
  part_none Opened p s o up there = up_none p o up

  pub bare_none : (e : Event) → headers_by e w (outcome_of w e) i ≡ 0
  bare_none (Site name disks blocks) = refl
  bare_none (Raw s) = refl
  bare_none (Group s) = refl
  bare_none (Volumes s log xs) = refl
  bare_none (Write p volume start bytes fails) = none_at p i _ (written_none p (record { volume = volume; start = start; bytes = bytes }) fails)
  bare_none (Read p volume start count) = refl
  bare_none (Apply s count reached) = refl
  bare_none (Pump p s) = refl
  bare_none (Tick p s) = refl
  bare_none (Deliver number) = heard_none (packet_at w.packets number) number
  bare_none (Connect p s) = refl
  bare_none (Cut p s) = refl
  bare_none (Pause p s) = refl
  bare_none (Resume p s) = refl
  bare_none (Wait p number) = refl
  bare_none (Link p s sync prot part) =
      let x : ℕ = part_writes part p s in
      let o : Outcome = link_part part w p s sync prot in
      Tests.site_ends (None_at x) w (refused_none x) p (at_site w s (both_at_work w p s o))
      (λ _. Tests.site_ends (None_at x) w (refused_none x) s (both_at_work w p s o)
      (λ _. Tests.both_ends (None_at x) w (refused_none x) p s o (λ up there _ _. part_none part p s o up there)))
  bare_none (Set p s sync prot) =
      let o : Outcome = done (with_link w p s (link_with sync prot (w.links p s))) in
      Tests.link_ends (None_at p) w (refused_none p) is_origin p s o (λ up _. up_none p o up)
  bare_none (Attach p s) =
      let o : Outcome = done (with_link w p s (link_attached (w.links p s))) in
      Tests.link_ends (None_at p) w (refused_none p) is_origin p s o (λ up _. up_none p o up)
  bare_none (Detach p s) =
      let o : Outcome = done (with_link w p s (link_detached (w.links p s))) in
      Tests.link_ends (None_at p) w (refused_none p) is_origin p s o (λ up _. up_none p o up)
  bare_none (Crash s kept) = refl
  bare_none (Deport s) = refl
  bare_none (Fall s) = refl
  bare_none (Recover s fails) = refl
  bare_none (Fault s disk) = refl
