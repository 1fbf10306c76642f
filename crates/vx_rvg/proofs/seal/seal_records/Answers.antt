-- The group behind the sealing of what is staged.
use Rattle.std.proofs.Common.{◌<◌, ◌+◌, length, sym, ◌∙◌, ap, subst, Ok, Err, refl}
use Rattle.vx_disk.specs.Burns.{FallsShort, MakesCalls}
use Rattle.vx_ringio.specs.Tracks.{RingLies}
use Rattle.vx_rvg.specs.Views.{Core}
use Rattle.vx_rvg.proofs.Blaming.{blames_of}
use Rattle.vx_rvg.proofs.StagedCalls.{all_sound, all_stand, core_kept, not_none, seal_done, seal_failed, seal_stopped, sealed_moves}
use Rattle.vx_rvg.proofs.seal.seal_records.Goals as goal

pub seal-requires : goal.seal-requires
seal-requires g c = record { lies = subst (λ (k : Core). RingLies k.log.unit k.log.ring (g.S.Shelf.meaning c.args.shelf.now)) (sym c.core.view_is) c.requires.sound.lies }

pub returns-in-Ok-clause-answers : goal.returns-in-Ok-clause-answers
returns-in-Ok-clause-answers g c =
    seal_done _ c.args.core.now c.core.view_is (g.S.Shelf.meaning c.args.shelf.now) (g.S.Shelf.meaning c.seal.new.shelf) c.requires.sound c.requires.some c.in-Ok.ensures.goes c.seal.new.self
    c.in-Ok.number (Ok c.in-Ok.number) refl (λ none. let did = c.in-Ok.ensures.nothing none in (did.0, did.1, ap g.S.Shelf.meaning did.2)) c.in-Ok.ensures.seals c.requires.up

pub returns-in-Ok-clause-nothing : goal.returns-in-Ok-clause-nothing
returns-in-Ok-clause-nothing g c none =
    let did = c.in-Ok.ensures.nothing (ap (λ (k : Core). k.log.staged) c.core.view_is ∙ none) in
    (core_kept _ c.args.core.now c.core.view_is c.seal.new.self did.1, did.2)

pub returns-in-Ok-clause-sound : goal.returns-in-Ok-clause-sound
returns-in-Ok-clause-sound g c =
    all_sound _ c.args.core.now c.core.view_is (g.S.Shelf.meaning c.args.shelf.now) (g.S.Shelf.meaning c.seal.new.shelf) c.requires.sound c.requires.some c.in-Ok.ensures.goes c.seal.new.self
    c.in-Ok.number (Ok c.in-Ok.number) refl (λ none. let did = c.in-Ok.ensures.nothing none in (did.0, did.1, ap g.S.Shelf.meaning did.2)) c.in-Ok.ensures.seals

pub returns-in-Ok-clause-stands : goal.returns-in-Ok-clause-stands
returns-in-Ok-clause-stands g c =
    all_stand _ c.args.core.now c.core.view_is (g.S.Shelf.meaning c.args.shelf.now) (g.S.Shelf.meaning c.seal.new.shelf) c.requires.sound c.requires.some c.in-Ok.ensures.goes c.seal.new.self
    c.in-Ok.number (Ok c.in-Ok.number) refl (λ none. let did = c.in-Ok.ensures.nothing none in (did.0, did.1, ap g.S.Shelf.meaning did.2)) c.in-Ok.ensures.seals c.in-Ok.ensures.leads

pub returns-in-Ok-clause-moves : goal.returns-in-Ok-clause-moves
returns-in-Ok-clause-moves g c =
    sealed_moves _ c.args.core.now c.core.view_is (g.S.Shelf.meaning c.args.shelf.now) (g.S.Shelf.meaning c.seal.new.shelf) c.requires.sound c.requires.some c.in-Ok.ensures.goes

pub returns-in-Ok-clause-calls : goal.returns-in-Ok-clause-calls
returns-in-Ok-clause-calls g c =
    subst (λ (k : Core). 0 < length k.log.staged → MakesCalls (length k.log.staged + 2) (g.S.Shelf.meaning c.args.shelf.now) (g.S.Shelf.meaning c.seal.new.shelf)) c.core.view_is c.in-Ok.ensures.calls

pub returns-in-Ok-clause-short : goal.returns-in-Ok-clause-short
returns-in-Ok-clause-short g c =
    subst (λ (k : Core). FallsShort (length k.log.staged + 2) (g.S.Shelf.meaning c.args.shelf.now) (g.S.Shelf.meaning c.seal.new.shelf)) c.core.view_is c.in-Ok.ensures.short

pub returns-in-Err-clause-answers : goal.returns-in-Err-clause-answers
returns-in-Err-clause-answers g c =
    seal_stopped _ c.args.core.now c.core.view_is (g.S.Shelf.meaning c.args.shelf.now) (g.S.Shelf.meaning c.seal.new.shelf) c.requires.sound c.requires.some c.in-Err.ensures.goes c.seal.new.self
    c.in-Err.why (Err c.in-Err.why) refl (λ none. (c.in-Err.ensures.nothing none).0) c.in-Err.ensures.seals c.refused-no.result c.refused-no.ensures _ c.halt.ensures

pub returns-in-Err-clause-nothing : goal.returns-in-Err-clause-nothing
returns-in-Err-clause-nothing g c none =
    absurd (not_none _ c.args.core.now c.core.view_is (g.S.Shelf.meaning c.args.shelf.now) (g.S.Shelf.meaning c.seal.new.shelf) c.requires.sound c.requires.some c.in-Err.ensures.goes c.seal.new.self
    c.in-Err.why (Err c.in-Err.why) refl (λ empty. (c.in-Err.ensures.nothing empty).0) c.in-Err.ensures.seals none)

pub returns-in-Err-clause-sound : goal.returns-in-Err-clause-sound
returns-in-Err-clause-sound g c =
    seal_failed _ c.args.core.now c.core.view_is (g.S.Shelf.meaning c.args.shelf.now) (g.S.Shelf.meaning c.seal.new.shelf) c.requires.sound c.requires.some c.in-Err.ensures.goes c.seal.new.self
    c.in-Err.why (Err c.in-Err.why) refl (λ none. (c.in-Err.ensures.nothing none).0) c.in-Err.ensures.seals c.refused-no.result c.refused-no.ensures _ c.halt.ensures

pub returns-in-Err-clause-moves : goal.returns-in-Err-clause-moves
returns-in-Err-clause-moves g c =
    sealed_moves _ c.args.core.now c.core.view_is (g.S.Shelf.meaning c.args.shelf.now) (g.S.Shelf.meaning c.seal.new.shelf) c.requires.sound c.requires.some c.in-Err.ensures.goes

pub returns-in-Err-clause-short : goal.returns-in-Err-clause-short
returns-in-Err-clause-short g c =
    subst (λ (k : Core). FallsShort (length k.log.staged + 2) (g.S.Shelf.meaning c.args.shelf.now) (g.S.Shelf.meaning c.seal.new.shelf)) c.core.view_is c.in-Err.ensures.short

pub returns-in-Err-clause-blames : goal.returns-in-Err-clause-blames
returns-in-Err-clause-blames g c =
    blames_of (g.S.Shelf.meaning c.args.shelf.now).disks _ _ c.in-Err.why c.refused-no.result (ap (λ (k : Core). k.log.unit) c.core.view_is) c.refused-no.ensures c.in-Err.ensures.blames
