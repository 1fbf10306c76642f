-- The two headers with which a start takes a log over.
use Rattle.std.proofs.Common.{◌≡◌, ℕ, ◌+◌, ◌-◌, ◌%◌, ◌<◌, List, sym, ◌∙◌, ap, subst, arith}
use Rattle.vx_disk.specs.Shelf.{Meaning}
use Rattle.vx_ringlog.specs.Acts.{head_acts}
use Rattle.vx_ringlog.specs.Cells.{Act}
use Rattle.vx_ringio.specs.Tracks.{Follows, Arrives}
use Rattle.vx_ringio.proofs.Following.{sooner, then_follows, then_arrives}
use Rattle.vx_srlfmt.specs.declared.header.Header.{Header}
use Rattle.vx_srl.specs.Headers.{raised}
use Rattle.vx_srl.specs.Standings.{first_step_of, taken_over, taking_over}
use Rattle.vx_srl.specs.declared.start.Standing.{Standing}

header_acts : (b : ℕ) (h g : Header) → h ≡ g → g.stamp % 2 ≡ b → head_acts (h.stamp % 2) h ≡ head_acts b g
header_acts b h g is at = ap (λ (x : Header). head_acts (x.stamp % 2) x) is ∙ ap (λ (n : ℕ). head_acts n g) at

module _ (unit ring : ℕ) (s : Standing) (low : s.block < 2) (step : ℕ) (step_is : step ≡ first_step_of s.header.stamp s.block) (other : (s.header.stamp + step) % 2 ≡ 1 - s.block)
    (first : Header) (first_is : first ≡ raised s.header step) (old mid : Meaning) where
  first_raised : first ≡ raised s.header (first_step_of s.header.stamp s.block)
  first_raised = first_is ∙ ap (λ (n : ℕ). raised s.header n) step_is

  first_acts : head_acts (first.stamp % 2) first ≡ head_acts (1 - s.block) (raised s.header (first_step_of s.header.stamp s.block))
  first_acts = header_acts (1 - s.block) first (raised s.header (first_step_of s.header.stamp s.block)) first_raised (ap (λ (n : ℕ). (s.header.stamp + n) % 2) (sym step_is) ∙ other)

  pub first_follows : Follows unit ring (head_acts (first.stamp % 2) first) old mid → Follows unit ring (taking_over s) old mid
  first_follows follows =
      sooner unit ring (head_acts (1 - s.block) (raised s.header (first_step_of s.header.stamp s.block))) (head_acts s.block (taken_over s)) old mid
      (subst (λ (acts : List Act). Follows unit ring acts old mid) first_acts follows)

  module _ (again : Header) (again_is : again ≡ raised s.header (step + 1)) (new : Meaning) (arrives : Arrives unit ring (head_acts (first.stamp % 2) first) old mid) where
    pub again_raised : again ≡ taken_over s
    again_raised = again_is ∙ ap (λ (n : ℕ). raised s.header (n + 1)) step_is

    again_acts : head_acts (again.stamp % 2) again ≡ head_acts s.block (taken_over s)
    again_acts = header_acts s.block again (taken_over s) again_raised (ap (λ (n : ℕ). (s.header.stamp + (n + 1)) % 2) (sym step_is) ∙ omega (arith, other, low))

    pub both_follow : Follows unit ring (head_acts (first.stamp % 2) first) old mid → Follows unit ring (head_acts (again.stamp % 2) again) mid new → Follows unit ring (taking_over s) old new
    both_follow one two =
        then_follows unit ring (head_acts (1 - s.block) (raised s.header (first_step_of s.header.stamp s.block))) (head_acts s.block (taken_over s)) old mid new
        (subst (λ (acts : List Act). Follows unit ring acts old mid) first_acts one)
        (subst (λ (acts : List Act). Arrives unit ring acts old mid) first_acts arrives)
        (subst (λ (acts : List Act). Follows unit ring acts mid new) again_acts two)

    pub both_arrive : Arrives unit ring (head_acts (again.stamp % 2) again) mid new → Arrives unit ring (taking_over s) old new
    both_arrive two =
        then_arrives unit ring (head_acts (1 - s.block) (raised s.header (first_step_of s.header.stamp s.block))) (head_acts s.block (taken_over s)) old mid new
        (subst (λ (acts : List Act). Arrives unit ring acts old mid) first_acts arrives)
        (subst (λ (acts : List Act). Arrives unit ring acts mid new) again_acts two)
