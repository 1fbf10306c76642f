-- What a line that makes a raw set comes to.
use Rattle.std.proofs.Common.{◌≡◌, ◌∙◌, ◌-◌, ℕ, List, ap, sym, refl}
use Rattle.std.specs.Prelude.{None, Some, map}
use Rattle.vx_history.specs.World.{Node}
use Rattle.vx_model.specs.Sites.{no_line}
use Rattle.vx_history.specs.Steps.{raw_set, raw_volumes}
use Rattle.vx_model.specs.Sites.{first_line}
use Rattle.vx_model.specs.Sizes.{ring_of}
use Rattle.vx_model.specs.declared.history.Line.{Line}
use Rattle.vx_model.specs.declared.site.Role.TheVariants.{Primary}
use Rattle.vx_model.specs.declared.site.Mark.TheVariants.{Consistent}
use Rattle.vx_order.specs.declared.facts.SiteFacts.{SiteFacts}
use Rattle.vx_order.specs.declared.facts.VolumeFacts.{VolumeFacts}
use Rattle.vx_yard.specs.Changes.{raw_facts}
use Rattle.vx_events.specs.Facts.{site_fact, volume_fact}
use Rattle.vx_events.specs.LinkedFacts.{seen_fact}
use Rattle.vx_site_lines.proofs.Apart.{seen_alone}

raw_fact_by : (site : ℕ) (n : Node) (parent : Line) (low : ℕ) → n.group ≡ None → n.parent ≡ parent → n.low ≡ low → parent ≡ no_line → low ≡ 1
    → raw_facts site (map volume_fact (raw_volumes 1 (n.disks - 2) n.blocks)) (seen_fact n) ≡ seen_fact (raw_set site n)
raw_fact_by site n parent low none a b d e =
    ap (raw_facts site (map volume_fact (raw_volumes 1 (n.disks - 2) n.blocks))) (seen_alone n none)
    ∙ ap (λ (p : Line). made p 1) (sym (a ∙ d)) ∙ ap (λ (k : ℕ). made n.parent k) (sym (b ∙ e)) ∙ sym (seen_alone (raw_set site n) none)
  where
    made : Line → ℕ → SiteFacts
    made p k = record (raw_facts site (map volume_fact (raw_volumes 1 (n.disks - 2) n.blocks)) (site_fact n)) {
      rvg = Some (record { role = Primary; line = first_line site; parent = p; mark = Consistent; low = k; last = 0; ring = ring_of n.blocks; halted = None });
    }

-- what the tests see of a bare site that becomes a raw set
pub raw_fact_of : (s : ℕ) (n : Node) (site : SiteFacts) (volumes : List VolumeFacts) → site ≡ seen_fact n → volumes ≡ map volume_fact (raw_volumes 1 (site.disks - 2) site.blocks) → n.group ≡ None → n.parent ≡ no_line → n.low ≡ 1
    → raw_facts s volumes site ≡ seen_fact (raw_set s n)
raw_fact_of s n site volumes is table none parent low =
    ap (λ (vs : List VolumeFacts). raw_facts s vs site) (table ∙ ap (λ (f : SiteFacts). map volume_fact (raw_volumes 1 (f.disks - 2) f.blocks)) is)
    ∙ ap (λ (f : SiteFacts). raw_facts s (map volume_fact (raw_volumes 1 (n.disks - 2) n.blocks)) f) is
    ∙ raw_fact_by s n n.parent n.low none refl refl parent low
