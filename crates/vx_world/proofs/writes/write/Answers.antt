-- `write`: its result.
use Rattle.std.proofs.Common.{◌≡◌, ◌∙◌, ℕ, ◌/◌, List, length, ap}
use Rattle.std.specs.Prelude.{◌||◌}
use Rattle.vx_model.specs.Content.{Write, blocks_in}
use Rattle.vx_model.specs.Answer.{is_wrong_count, is_too_large, is_past}
use Rattle.vx_history.specs.Refusals.{Outcome, unless, on_volume}
use Rattle.vx_history.specs.Events.{admitted, written_if}
use Rattle.vx_history.specs.Step.{write_at}
use Rattle.vx_model.specs.declared.no.No.TheVariants.{Range, Size}
use Rattle.vx_sites.specs.Shapes.{world_of}
use Rattle.vx_world.proofs.Passing.{passed}
use Rattle.vx_world.proofs.writes.write.Goals as goal

pub returns : goal.returns
returns c =
    let w = world_of c.args.world.now in
    let s = c.args.site in
    let y : Write = c.new-write.result in
    let x : Write = record { volume = c.args.volume; start = c.args.start; bytes = c.args.bytes } in
    let o : Outcome = written_if (admitted w s y) w s y c.args.fails in
    let in_range : Outcome = unless (is_past (w.nodes s).base c.args.volume c.args.start (blocks_in y.bytes)) Range w o in
    let sized : Outcome = unless (is_wrong_count (blocks_in y.bytes) || is_too_large (w.nodes s).ring (blocks_in y.bytes)) Size w in_range in
    let range : o ≡ in_range =
    c.in_default-refuse_range.ensures.refuses o
    ∙ ap (λ (bytes : List ℕ). unless (is_past (w.nodes s).base c.args.volume c.args.start (length bytes / 512)) Range w o) c.as_bytes.ensures.bytes in
    let size : in_range ≡ sized = c.in_default-refuse_size.ensures in_range in
    let whole : o ≡ write_at w s x c.args.fails =
    range ∙ size ∙ c.in_default.ensures.refuses sized
    ∙ ap (λ (z : Write). on_volume w s c.args.volume c.args.start (blocks_in z.bytes) (is_too_large (w.nodes s).ring (blocks_in z.bytes))
    (written_if (admitted w s z) w s z c.args.fails)) c.new-write.ensures in
    passed c.write_if_let_in.result (world_of c.write_if_let_in.new.world) o (write_at w s x c.args.fails) whole c.write_if_let_in.ensures
