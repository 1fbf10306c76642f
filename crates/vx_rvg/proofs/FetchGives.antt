-- What a fetch gives of a group: the write that it holds under the number. And the room that its writes take.
use Rattle.std.proofs.Common.{◌≡◌, ℕ, zero, suc, ◌+◌, ◌-◌, List, [], ◌∷◌, ◌++◌, length, drop, Some, Result, Ok, Err, OnOk, IsTrue, refl, sym, ◌∙◌, ap, subst, arith, append-nil}
use Rattle.std.specs.Prelude.{slice_get, All}
use Rattle.std.proofs.lemmas.List.Elements.{All-head, All-tail}
use Rattle.std.proofs.lemmas.Option.{same_Some}
use Rattle.vx_model.specs.Content.{Write}
use Rattle.vx_model.specs.declared.call.Update.{Update}
use Rattle.vx_model.specs.declared.history.Line.{Line}
use Rattle.vx_srlfmt.specs.declared.header.Header.{Header}
use Rattle.vx_srlfmt.specs.declared.record.RecordHead.{RecordHead}
use Rattle.vx_disk.specs.Shelf.{Meaning}
use Rattle.vx_ringlog.specs.Ready.{RecordsFit}
use Rattle.vx_ringlog.specs.Records.{Era, Record, given, write_logged}
use Rattle.vx_srl.specs.Calls.{AgreesWithFront, Fetches}
use Rattle.vx_srl.specs.Calls as srl
use Rattle.vx_srl.specs.Rings.{RingOn}
use Rattle.vx_srl.specs.Views.{all_of, count_to, free_of, blocks_above, widths}
use Rattle.vx_srl.specs.declared.errors.SrlNo.{SrlNo}
use Rattle.vx_srl.specs.declared.kept.Kept.{Kept}
use Rattle.vx_srl.proofs.Shared_S1.{Same, held_same, same_drop, same_length, staged_same}
use Rattle.vx_rvg.specs.Contents.{writes_of}
use Rattle.vx_rvg.specs.Holdings.{Holding, blocks_taken, update_of}
use Rattle.vx_rvg.specs.Stands.{GivesWrite, IsWholeRecord, Stands}
use Rattle.vx_rvg.specs.Views.{Core}
use Rattle.vx_rvg.proofs.ReadStands.{whole_drop, writes_drop}
use Rattle.vx_rvg.proofs.StartFill.{none_is}

-- ---- the write of a number

write_at_place : (rs : List Record) (k : ℕ) (r : Record) → slice_get rs k ≡ Some r → slice_get (writes_of rs) k ≡ Some (write_logged r)
write_at_place [] k r is = absurd (none_is r is)
write_at_place (x ∷ rs) zero r is = ap (λ (y : Record). Some (write_logged y)) (same_Some x r is)
write_at_place (x ∷ rs) (suc k) r is = write_at_place rs k r is

-- each record is of the line of its log
line_at_place : (e : Era) (n prev : ℕ) (rs : List Record) (k : ℕ) (r : Record) → RecordsFit e n prev rs → slice_get rs k ≡ Some r → r.line ≡ e.line
line_at_place e n prev [] k r fits is = absurd (none_is r is)
line_at_place e n prev (x ∷ rs) zero r fits is = ap (λ (y : Record). y.line) (sym (same_Some x r is)) ∙ fits.2.line
line_at_place e n prev (x ∷ rs) (suc k) r fits is = line_at_place e (suc n) x.incarnation rs k r fits.5 is

update_same : (line : Line) (n : ℕ) (r : Record) → r.head.line ≡ line → r.head.number ≡ n → srl.update_with r ≡ update_of line n (write_logged r)
update_same line n r one two = λ i. record { line = one i; number = two i; vol = r.head.vol; block = r.head.block; bytes = given r }

pub gives : (core : Core) (n : ℕ) (m : Meaning) (update : Update) → Fetches core.log n m update → AgreesWithFront core.log n update → GivesWrite core n m update
gives core n m update fetches agrees = record { each = each }
  where
    each : (h : Holding) → Stands core h m → IsTrue m.tells → (x : Write) × (slice_get h.writes (n - h.low) ≡ Some x) × (update ≡ update_of core.log.header.state.line n x)
    each h stands tells =
        let got = fetches.each stands.log stands.ready.ring tells in
        let on : RingOn core.log stands.log m = stands.ready.ring in
        let there : slice_get (writes_of stands.log.held) (n - core.log.header.low) ≡ Some (write_logged got.0) = write_at_place stands.log.held (n - core.log.header.low) got.0 got.1 in
        let of_held : slice_get h.writes (n - h.low) ≡ Some (write_logged got.0)
        = subst (λ (low : ℕ). slice_get h.writes (n - low) ≡ Some (write_logged got.0)) stands.low
        (subst (λ (ws : List Write). slice_get ws (n - core.log.header.low) ≡ Some (write_logged got.0)) stands.writes there) in
        let line : got.0.head.line ≡ core.log.header.state.line
        = line_at_place _ _ _ stands.log.held (n - core.log.header.low) got.0 on.is_log.ready.fits got.1 ∙ ap (λ (g : Header). g.state.line) on.describes.header in
        let number : got.0.head.number ≡ n = sym (ap (λ (u : Update). u.number) got.2) ∙ agrees.number in
        (write_logged got.0, of_held, got.2 ∙ update_same core.log.header.state.line n got.0 line number)

pub gives_ok : (core : Core) (n : ℕ) (m : Meaning) (update : Update) (r : Result (Unit {0}) SrlNo) → OnOk r (Fetches core.log n m update) → OnOk r (AgreesWithFront core.log n update) → OnOk r (GivesWrite core n m update)
gives_ok core n m update (Ok done) fetches agrees = gives core n m update fetches agrees
gives_ok core n m update (Err why) fetches agrees = fetches

-- ---- the room that the writes take

taken_by : (rs : List Record) (ks : List Kept) → Same rs ks → All IsWholeRecord rs → widths ks ≡ blocks_taken (writes_of rs)
taken_by [] [] same whole = refl
taken_by [] (k ∷ ks) same whole = absurd same
taken_by (r ∷ rs) [] same whole = absurd same
taken_by (r ∷ rs) (k ∷ ks) same whole =
    omega (arith, ap (λ (head : RecordHead). head.count) same.0, All-head IsWholeRecord r rs whole, taken_by rs ks same.2 (All-tail IsWholeRecord r rs whole))

no_kept : (ks : List Kept) → length ks ≡ 0 → ks ≡ []
no_kept [] none = refl
no_kept (k ∷ ks) none = absurd (omega (arith, none))

module _ (core : Core) (h : Holding) (m : Meaning) (stands : Stands core h m) where
  none_staged : core.log.staged ≡ []
  none_staged = no_kept core.log.staged (sym (same_length stands.log.staged core.log.staged (staged_same core.log stands.log m stands.ready.ring)) ∙ ap (λ (rs : List Record). length rs) stands.ready.idle)

  all_held : all_of core.log ≡ core.log.held
  all_held = ap (λ (ks : List Kept). core.log.held ++ ks) none_staged ∙ append-nil core.log.held

  pub taken_above : (above : ℕ) → blocks_above core.log above ≡ blocks_taken (drop (above + 1 - h.low) h.writes)
  taken_above above =
      let n : ℕ = count_to core.log above in
      ap (λ (ks : List Kept). widths (drop n ks)) all_held
      ∙ taken_by (drop n stands.log.held) (drop n core.log.held) (same_drop n stands.log.held core.log.held (held_same core.log stands.log m stands.ready.ring)) (whole_drop n stands.log.held stands.ready.whole)
      ∙ ap (λ (ws : List Write). blocks_taken ws) (writes_drop n stands.log.held ∙ ap (λ (ws : List Write). drop n ws) stands.writes)
      ∙ ap (λ (low : ℕ). blocks_taken (drop (above + 1 - low) h.writes)) stands.low

  -- the blocks of the records
  pub widths_beside : widths core.log.held ≡ blocks_taken h.writes
  widths_beside = taken_by stands.log.held core.log.held (held_same core.log stands.log m stands.ready.ring) stands.ready.whole ∙ ap (λ (ws : List Write). blocks_taken ws) stands.writes

  pub free_beside : free_of core.log ≡ core.log.ring - blocks_taken h.writes
  free_beside =
      ap (λ (ks : List Kept). core.log.ring - widths ks) all_held
      ∙ ap (λ (k : ℕ). core.log.ring - k) widths_beside
