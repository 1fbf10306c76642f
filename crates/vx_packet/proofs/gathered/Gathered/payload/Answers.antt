-- `payload`: its result.
use Rattle.std.proofs.Common.{◌≡◌, ◌∙◌, ap, sym, ℕ, List, Option, length, take, min, true, false}
use Rattle.std.specs.List.{list_all}
use Rattle.std.specs.Option.{is_some}
use Rattle.std.proofs.lemmas.List.{take_min}
use Rattle.vx_packet.specs.Gathering.{all_parts_came, joined_parts, whole_length}
use Rattle.vx_packet.proofs.GatherLemmas.{all_came-came, joined-came}
use Rattle.vx_packet.proofs.gathered.Gathered.payload.Goals as goal

pub returns-then-not-is_whole : goal.returns-then-not-is_whole
returns-then-not-is_whole c =
    let count : ℕ = c.self.inside.count in
    let lengths : List (Option ℕ) = take count c.self.inside.lengths.items in
    let all : list_all is_some lengths ≡ false =
    ap (λ (ls : List (Option ℕ)). list_all is_some (take count ls)) (sym c.deref.ensures.value) ∙ sym c.is_whole.ensures ∙ c.if-not-is_whole.true in
    ap all_parts_came (sym c.self.view_is) ∙ all_came-came lengths c.self.inside.buffer.items ∙ all

pub returns : goal.returns
returns c =
    let count : ℕ = c.self.inside.count in
    let lengths : List (Option ℕ) = take count c.self.inside.lengths.items in
    let buffer : List ℕ = c.self.inside.buffer.items in
    let all : list_all is_some lengths ≡ true =
    ap (λ (ls : List (Option ℕ)). list_all is_some (take count ls)) (sym c.deref.ensures.value) ∙ sym c.is_whole.ensures ∙ c.if-not-is_whole.false in
    let total : c.total.result ≡ whole_length lengths = c.total.ensures ∙ ap (λ (ls : List (Option ℕ)). whole_length (take count ls)) c.deref.ensures.value in
    let room : c.len.result ≡ length buffer = c.len.ensures ∙ sym c.deref-2.ensures.len ∙ ap length c.deref-2.ensures.value in
    let end : c.min.result ≡ min (whole_length lengths) (length buffer) = c.min.ensures ∙ ap (λ (n : ℕ). min n c.len.result) total ∙ ap (min (whole_length lengths)) room in
    let front : take c.min.result c.deref-2.result.now ≡ take (whole_length lengths) buffer =
    ap (take c.min.result) c.deref-2.ensures.value ∙ ap (λ (n : ℕ). take n buffer) end ∙ take_min (whole_length lengths) buffer in (
      ap all_parts_came (sym c.self.view_is) ∙ all_came-came lengths buffer ∙ all,
      front ∙ sym (joined-came lengths buffer c.self.invariant.full all) ∙ ap joined_parts c.self.view_is,
    )
