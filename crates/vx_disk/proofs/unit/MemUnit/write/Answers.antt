-- `write`: the invariant of what it hands on.
use Rattle.std.proofs.Common.{◌≡◌, ℕ, ◌*◌, ◌/◌, ◌∙◌, true, false, get_or, length, replicate, sym, ap, subst, arith}
use Rattle.std.proofs.lemmas.List.{with_items_is}
use Rattle.vx_disk.specs.Blocks.{block_at, over}
use Rattle.vx_disk.specs.Runs.{AreInside}
use Rattle.vx_disk.proofs.Flags.{clean-write}
use Rattle.vx_disk.proofs.Kept.{noted_write, inside_write}
use Rattle.vx_disk.proofs.unit.MemUnit.write.Goals as goal

pub invariant_of-self-clause-clean : goal.invariant_of-self-clause-clean
invariant_of-self-clause-clean c = λ b loose.
    let s = c.args.self.now in
    let k = length c.args.bytes.now / 512 in
    let whole : length c.args.bytes.now ≡ 512 * k = omega (arith, c.requires.whole) in
    let marked = with_items_is s.loose c.mark.new.loose (c.mark.auto.loose ∙ c.deref_mut-2.ensures.len) ∙ c.mark.ensures ∙ ap (λ l. over l c.args.block (replicate k true)) c.deref_mut-2.ensures.value in
    let written = with_items_is s.latest c.copy_over.new.into (c.copy_over.auto.into ∙ c.deref_mut.ensures.len) ∙ c.copy_over.ensures ∙ ap (λ l. over l (512 * c.args.block) c.args.bytes.now) c.deref_mut.ensures.value in
    clean-write s.loose.items s.stable.items s.latest.items c.args.bytes.now c.args.block k whole s.latest_size c.requires.within s.clean b (ap (λ l. get_or l b false) (sym marked) ∙ loose)
    ∙ ap (λ l. block_at l b) (sym written)

pub invariant_of-self-clause-latest_size : goal.invariant_of-self-clause-latest_size
invariant_of-self-clause-latest_size c =
    let s = c.args.self.now in
    let latest = with_items_is s.latest c.copy_over.new.into (c.copy_over.auto.into ∙ c.deref_mut.ensures.len) in
    let loose = with_items_is s.loose c.mark.new.loose (c.mark.auto.loose ∙ c.deref_mut-2.ensures.len) in
    ap length latest ∙ c.copy_over.auto.into ∙ ap length c.deref_mut.ensures.value ∙ s.latest_size
    ∙ sym (ap (λ (n : ℕ). 512 * n) (ap length loose ∙ c.mark.auto.loose ∙ ap length c.deref_mut-2.ensures.value))

pub invariant_of-self-clause-noted : goal.invariant_of-self-clause-noted
invariant_of-self-clause-noted c =
    let s = c.args.self.now in
    let k = length c.args.bytes.now / 512 in
    let marked = with_items_is s.loose c.mark.new.loose (c.mark.auto.loose ∙ c.deref_mut-2.ensures.len) ∙ c.mark.ensures ∙ ap (λ l. over l c.args.block (replicate k true)) c.deref_mut-2.ensures.value in
    noted_write s.runs.items c.deref_mut-3.result.now c.note_run-self.new.runs _ s.loose.items _ s.number c.note_run-self.result c.args.block k c.note_run-self.ensures c.deref_mut-3.ensures.value
    (with_items_is s.runs c.note_run-self.new.runs (c.note_run-self.auto.runs ∙ c.deref_mut-3.ensures.len)) c.note_run-self.auto.runs marked c.requires.within s.noted

pub invariant_of-self-clause-inside : goal.invariant_of-self-clause-inside
invariant_of-self-clause-inside c =
    let s = c.args.self.now in
    let k = length c.args.bytes.now / 512 in
    let loose = with_items_is s.loose c.mark.new.loose (c.mark.auto.loose ∙ c.deref_mut-2.ensures.len) in
    let blocks = ap length loose ∙ c.mark.auto.loose ∙ ap length c.deref_mut-2.ensures.value in
    inside_write s.runs.items c.deref_mut-3.result.now c.note_run-self.new.runs _ _ s.number c.note_run-self.result c.args.block k c.note_run-self.ensures c.deref_mut-3.ensures.value
    (with_items_is s.runs c.note_run-self.new.runs (c.note_run-self.auto.runs ∙ c.deref_mut-3.ensures.len)) c.note_run-self.auto.runs (omega (arith, c.requires.within, blocks))
    (λ room. subst (λ (n : ℕ). AreInside s.number s.runs.items n) (sym blocks) (s.inside room))
