-- `text`: its result.
use Rattle.std.proofs.Common.{◌≡◌, ◌≤◌, ℕ, ◌+◌, ◌-◌, List, length, take, sym, ap, ◌∙◌, arith, ◌⊎◌, inl, inr}
use Rattle.std.proofs.lemmas.List.{length-take}
use Rattle.vx_wire.proofs.PlaceLemmas.{put_mid-whole}
use Rattle.vx_config.specs.Pages.{room, onto}
use Rattle.vx_config.proofs.PageLemmas.{onto-cut, take-put_at}
use Rattle.vx_config.proofs.page.Page.text.Goals as goal
use Rattle.vx_config.proofs.page.Page.text.Goals.{then-text-room, else-text-room}

pub returns : goal.returns
returns c =
    let len : ℕ = c.self.inside.len in
    let bytes : List ℕ = c.self.inside.bytes in
    let text : List ℕ = c.args.text.now in
    let count : ℕ = c.if-text-room.count in
    let way : ((count ≡ length text) × (length text ≤ room - len)) ⊎ (count ≡ room - len) =
    elim c.if-text-room.branch [ then-text-room w ↦ inl (w.count-is, omega arith) | else-text-room w ↦ inr w.count-is ] in
    let low : len ≤ room = c.self.invariant in
    let fits : len + count ≤ length bytes = elim c.if-text-room.branch [ then-text-room w ↦ omega arith | else-text-room w ↦ omega arith ] in
    let few : count ≤ length text = elim c.if-text-room.branch [ then-text-room w ↦ omega arith | else-text-room w ↦ omega arith ] in
    let part : List ℕ = take count text in
    let part_len : length part ≡ count = omega (arith, length-take count text) in
    let k : (len + count) - len ≡ length part = omega arith in
    ap (take (len + count)) (put_mid-whole len ((len + count) - len) part bytes c.copy_from_slice.new.self k (omega arith) c.copy_from_slice.ensures.after)
    ∙ take-put_at len count part bytes part_len fits ∙ sym (onto-cut len count bytes text low c.self.told way) ∙ ap (λ (front : List ℕ). onto front text) c.self.view_is
