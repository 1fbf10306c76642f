-- The record of a write may be staged, and its blocks are the body that the call writes.
use Rattle.std.proofs.Common.{◌≡◌, ℕ, suc, ◌+◌, ◌*◌, ◌/◌, ◌≤◌, List, [], ◌∷◌, ◌++◌, length, refl, sym, ◌∙◌, ap, subst, arith}
use Rattle.std.specs.Prelude.{All}
use Rattle.std.proofs.lemmas.List.{map-append}
use Rattle.vx_model.specs.Content.{blocks_in}
use Rattle.vx_wire.specs.Seals.{digest_of}
use Rattle.vx_srlfmt.specs.Kinds.{IsBody}
use Rattle.vx_srlfmt.specs.declared.header.Header.{Header}
use Rattle.vx_srlfmt.specs.declared.record.RecordHead.{RecordHead}
use Rattle.vx_disk.specs.Shelf.{Meaning}
use Rattle.vx_ringlog.specs.Acts.{body_acts}
use Rattle.vx_ringlog.specs.Cells.{Act, run_all, LeftBy}
use Rattle.vx_ringlog.specs.Logs.{State, Stage, MayStage, Found, acts_of}
use Rattle.vx_ringlog.specs.Ready.{after}
use Rattle.vx_ringlog.specs.Records.{Record, Genuine, IsWhole, as_on_disk, given}
use Rattle.vx_ringlog.proofs.Blocks.{blocks_stand, cut_count, given_comes_back}
use Rattle.vx_ringlog.proofs.Calls.{call_safe}
use Rattle.vx_ringio.specs.Bodies.{IsBlocks, all_blocks}
use Rattle.vx_ringio.specs.Classes.{classes}
use Rattle.vx_ringio.specs.Tracks.{Tracks, Follows, Arrives}
use Rattle.vx_ringio.proofs.Bodies.{whole_blocks, concat_blocks}
use Rattle.vx_ringio.proofs.Following.{following_gives, always_left}
use Rattle.vx_srl.specs.Calls.{staging, staged_with}
use Rattle.vx_srl.specs.Rings.{RingOn, Finding, RingGoes, LeadsTo, heads_of, kept_heads}
use Rattle.vx_srl.specs.Views.{Log, end_of, free_of, blocks_needed, record_next, kept_record}
use Rattle.vx_srl.specs.declared.kept.Kept.{Kept}
use Rattle.vx_srl.proofs.Shared_S1.{all_end, all_next, all_total, body_wraps, wrapped}

-- ---- whole blocks

module _ (bytes : List ℕ) (blocks : IsBlocks bytes) where
  size_is : length bytes ≡ 512 * (length bytes / 512)
  size_is = omega (arith, blocks.whole)

  pub all_whole : All IsWhole (all_blocks bytes)
  all_whole = whole_blocks (length bytes / 512) bytes size_is

  pub count_is : length (as_on_disk (all_blocks bytes)) ≡ blocks_in bytes
  count_is = (blocks_stand (all_blocks bytes) all_whole).count ∙ cut_count (length bytes / 512) bytes

  pub body_is : All IsBody (as_on_disk (all_blocks bytes))
  body_is = (blocks_stand (all_blocks bytes) all_whole).body

pub body_blocks : (bytes disk : List ℕ) → IsBlocks bytes → all_blocks disk ≡ as_on_disk (all_blocks bytes) → All IsBody (all_blocks disk)
body_blocks bytes disk blocks is = subst (λ (bs : List (List ℕ)). All IsBody bs) (sym is) (body_is bytes blocks)

-- ---- the record

module _ (l : Log) (vol block : ℕ) (bytes : List ℕ) (blocks : IsBlocks bytes) where
  given_is : given (record_next l vol block bytes) ≡ bytes
  given_is =
      given_comes_back (record_next l vol block bytes) (all_blocks bytes) (all_whole bytes blocks) (record { firsts = refl; body = refl })
      ∙ concat_blocks (length bytes / 512) bytes (size_is bytes blocks)

  is_genuine : Genuine (record_next l vol block bytes)
  is_genuine = record { count = sym (count_is bytes blocks); digest = ap (λ (xs : List ℕ). digest_of xs) (sym given_is) }

  module _ (room : blocks_needed bytes ≤ free_of l) (s : State) (m : Meaning) (on : RingOn l s m) where
    pub may_stage : MayStage l.ring s (record_next l vol block bytes)
    may_stage = record {
      room = omega (arith, room, all_total l s m on, count_is bytes blocks);
      number = sym (all_next l s m on);
      run = ap (λ (h : Header). h.run) (sym on.describes.header);
      line = ap (λ (h : Header). h.state.line) (sym on.describes.header);
      genuine = is_genuine;
      incarnation = ap (λ (h : Header). h.incarnation) (sym on.describes.header);
    }

    -- the acts of the call, by the place that is kept
    pub acts_are : (disk : List ℕ) → all_blocks disk ≡ as_on_disk (all_blocks bytes)
        → body_acts l.ring (end_of l + 1) (all_blocks disk) ≡ acts_of l.ring s (staging (record_next l vol block bytes) s)
    acts_are disk is =
        let at : suc (after (after s.base s.held) s.staged) ≡ after (after s.base s.held) s.staged + 1 = omega arith in
        ap (λ (bs : List (List ℕ)). body_acts l.ring (end_of l + 1) bs) is
        ∙ sym (ap (λ (p : ℕ). body_acts l.ring p (as_on_disk (all_blocks bytes))) at
        ∙ body_wraps l.ring (after (after s.base s.held) s.staged + 1) (end_of l + 1) (as_on_disk (all_blocks bytes)) (wrapped l.ring (after (after s.base s.held) s.staged) (end_of l) 1 (all_end l s m on)))

-- ---- the call

heads_with : (rs : List Record) (ks : List Kept) (r : Record) (k : Kept) → heads_of rs ≡ kept_heads ks → r.head ≡ k.head → heads_of (rs ++ r ∷ []) ≡ kept_heads (ks ++ k ∷ [])
heads_with rs ks r k is same =
    map-append (λ (r : Record). r.head) rs (r ∷ [])
    ∙ ap (λ (hs : List RecordHead). hs ++ r.head ∷ []) is
    ∙ ap (λ (h : RecordHead). kept_heads ks ++ h ∷ []) same
    ∙ sym (map-append (λ (k : Kept). k.head) ks (k ∷ []))

module _ (l : Log) (vol block : ℕ) (bytes disk : List ℕ) (blocks : IsBlocks bytes) (room : blocks_needed bytes ≤ free_of l) (is : all_blocks disk ≡ as_on_disk (all_blocks bytes)) (old new : Meaning) where
  pub stage_goes : Follows l.unit l.ring (body_acts l.ring (end_of l + 1) (all_blocks disk)) old new → RingGoes l (staging (record_next l vol block bytes)) old new
  stage_goes follows =
      following_gives l.unit l.ring (body_acts l.ring (end_of l + 1) (all_blocks disk)) (Finding l (staging (record_next l vol block bytes)) old) old new follows
      (λ i amid. record {
        each = λ s on.
            always_left (Found l.ring s (Stage (record_next l vol block bytes))) s.unit (acts_of l.ring s (Stage (record_next l vol block bytes))) (classes l.unit l.ring i)
            (call_safe l.ring s (Stage (record_next l vol block bytes)) on.is_log (may_stage l vol block bytes blocks room s old on)).0
            (subst (λ (acts : List Act). LeftBy s.unit acts (classes l.unit l.ring i)) (acts_are l vol block bytes blocks room s old on disk is) (amid.each s.unit on.tracks));
      })

  pub stage_leads : Arrives l.unit l.ring (body_acts l.ring (end_of l + 1) (all_blocks disk)) old new
      → LeadsTo l (staging (record_next l vol block bytes)) (staged_with l (kept_record l vol block bytes)) old new
  stage_leads arrives = record {
    each = λ s on. record {
      is_log = (call_safe l.ring s (Stage (record_next l vol block bytes)) on.is_log (may_stage l vol block bytes blocks room s old on)).1;
      tracks = subst (λ (acts : List Act). Tracks l.unit l.ring (run_all s.unit acts) new) (acts_are l vol block bytes blocks room s old on disk is) (arrives.each s.unit on.tracks);
      describes = record {
        header = on.describes.header;
        here = on.describes.here;
        other = on.describes.other;
        place = on.describes.place;
        held = on.describes.held;
        staged = heads_with s.staged l.staged (record_next l vol block bytes) (kept_record l vol block bytes) on.describes.staged refl;
      };
    };
  }
