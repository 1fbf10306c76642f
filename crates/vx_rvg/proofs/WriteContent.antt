-- What a write makes of a content, block by block.
use Rattle.std.proofs.Common.{◌≡◌, ℕ, ◌*◌, ◌/◌, ◌<◌, List, [], ◌∷◌, ◌++◌, length, Option, Some, None, MatchOption, refl, sym, ◌∙◌, ap, subst, arith}
use Rattle.std.specs.Prelude.{unwrap_or}
use Rattle.std.proofs.lemmas.List.{map-append}
use Rattle.std.proofs.lemmas.Nat.{div-add-mod'}
use Rattle.vx_model.specs.Content.{Content, Write, put}
use Rattle.vx_disk.specs.Shelf.{Meaning, Image, Keeps}
use Rattle.vx_ringlog.specs.Records.{Record, write_logged}
use Rattle.vx_ringlog.proofs.Blocks.{given_comes_back}
use Rattle.vx_ringio.specs.Bodies.{IsBlocks, all_blocks}
use Rattle.vx_ringio.proofs.Bodies.{whole_blocks, concat_blocks}
use Rattle.vx_overlay.specs.Pending.{newer_or}
use Rattle.vx_overlay.specs.Writes.{newest_of, put_there}
use Rattle.vx_overlay.proofs.WriteLemmas.{newest_append, put_block}
use Rattle.vx_srl.specs.Views.{Log, record_next}
use Rattle.vx_rvg.specs.Contents.{writes_of, KeepsContent, HasContent}
use Rattle.vx_rvg.specs.Views.{unit_of}

put_case : (o w : Option (List ℕ)) (old new : List ℕ) (P Q : List ℕ → Type 0) → new ≡ unwrap_or o old → ((y : List ℕ) → P y → Q y)
    → MatchOption w (P old) (λ bytes. bytes ≡ old) → MatchOption (newer_or o w) (Q new) (λ bytes. bytes ≡ new)
put_case (Some bytes) w old new P Q is to before = sym is
put_case None (Some bytes) old new P Q is to before = before ∙ sym is
put_case None None old new P Q is to before = subst (λ (y : List ℕ). Q y) (sym is) (to old before)

module _ (c : Content) (x : Write) (ws : List Write) (v b : ℕ) (P Q : List ℕ → Type 0) where
  -- a block that no write covers has P before and Q behind the write, and the write is one more
  pub put_more : ((y : List ℕ) → P y → Q y) → MatchOption (newest_of c.size ws v b) (P (c.block v b)) (λ bytes. bytes ≡ c.block v b)
      → MatchOption (newest_of c.size (ws ++ x ∷ []) v b) (Q ((put c x).block v b)) (λ bytes. bytes ≡ (put c x).block v b)
  put_more to before =
      let more : newest_of c.size (ws ++ x ∷ []) v b ≡ newer_or (put_there c.size x v b) (newest_of c.size ws v b) = newest_append c.size ws (x ∷ []) v b in
      subst (λ (o : Option (List ℕ)). MatchOption o (Q ((put c x).block v b)) (λ bytes. bytes ≡ (put c x).block v b)) (sym more)
      (put_case (put_there c.size x v b) (newest_of c.size ws v b) (c.block v b) ((put c x).block v b) P Q (put_block c x v b) to before)

-- what a write leaves as it was
pub put_aside : (c : Content) (x : Write) (v b : ℕ) → put_there c.size x v b ≡ None → (put c x).block v b ≡ c.block v b
put_aside c x v b none = put_block c x v b ∙ ap (λ (o : Option (List ℕ)). unwrap_or o (c.block v b)) none

module _ (vols : List ℕ) (c : Content) (x : Write) (ws : List Write) where
  pub put_keeps : (m m' : Meaning) → ((v b : ℕ) (y : List ℕ) → b < c.size v → Keeps m (unit_of vols v) b y → Keeps m' (unit_of vols v) b y)
      → KeepsContent vols c ws m → KeepsContent vols (put c x) (ws ++ x ∷ []) m'
  put_keeps m m' kept keeps = record {
    each = λ v b low. put_more c x ws v b (λ y. Keeps m (unit_of vols v) b y) (λ y. Keeps m' (unit_of vols v) b y) (λ y. kept v b y low) (keeps.each v b low);
  }

  pub put_has : (i : Image) → HasContent vols c ws i → HasContent vols (put c x) (ws ++ x ∷ []) i
  put_has i has = record {
    each = λ v b low. put_more c x ws v b (λ y. i (unit_of vols v) b ≡ y) (λ y. i (unit_of vols v) b ≡ y) (λ y is. is) (has.each v b low);
  }

-- ---- the record of a write

pub writes_more : (rs : List Record) (r : Record) (x : Write) → write_logged r ≡ x → writes_of (rs ++ r ∷ []) ≡ writes_of rs ++ x ∷ []
writes_more rs r x is = map-append write_logged rs (r ∷ []) ∙ ap (λ (y : Write). writes_of rs ++ y ∷ []) is

pub record_writes : (l : Log) (vol start : ℕ) (bytes : List ℕ) → IsBlocks bytes → write_logged (record_next l vol start bytes) ≡ record { volume = vol; start = start; bytes = bytes }
record_writes l vol start bytes blocks =
    ap (λ (b : List ℕ). record { volume = vol; start = start; bytes = b })
    (given_comes_back (record_next l vol start bytes) (all_blocks bytes) (whole_blocks (length bytes / 512) bytes all) (record { firsts = refl; body = refl }) ∙ concat_blocks (length bytes / 512) bytes all)
  where
    all : length bytes ≡ 512 * (length bytes / 512)
    all = omega (arith, blocks.whole, div-add-mod' (length bytes) 512)
