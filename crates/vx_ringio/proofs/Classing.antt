-- What blocks are, and blocks that are written.
use Rattle.std.proofs.Common.{◌≡◌, ℕ, zero, suc, ◌+◌, ◌*◌, ◌%◌, ◌<◌, ◌≤◌, Bool, true, false, List, [], ◌∷◌, length, take, drop, refl, sym, ◌∙◌, ap, subst, arith}
use Rattle.std.specs.Prelude.{All, if◌then◌else◌}
use Rattle.std.specs.List.{AllByRecursion}
use Rattle.std.proofs.Math.Nat.{mod-add-mod, mod-eq_of_lt}
use Rattle.std.proofs.lemmas.List.{take_all}
use Rattle.std.proofs.lemmas.List.Elements.{recursion_from_All}
use Rattle.vx_ringlog.specs.Records.{first_blocks}
use Rattle.vx_srlfmt.specs.Headers.{IsHeader}
use Rattle.vx_srlfmt.specs.Kinds.{Kind, Top, Front, Body, Damaged, Other, IsKind, IsBody, kind_of}
use Rattle.vx_srlfmt.specs.Records.{IsRecord, IsDamaged}
use Rattle.vx_srlfmt.specs.declared.header.Header.{Header}
use Rattle.vx_srlfmt.specs.declared.record.RecordHead.{RecordHead}
use Rattle.vx_srlfmt.proofs.KindLaws.{kind_of-is, kind_of-only}
use Rattle.vx_disk.specs.Shelf.{Meaning, Written, Goes, Wrote}
use Rattle.vx_ringlog.specs.Acts.{body_acts}
use Rattle.vx_ringlog.specs.Cells.{Act, Write, Flush}
use Rattle.vx_ringlog.specs.Chain.{block}
use Rattle.vx_ringio.specs.Classes.{class_of, narrowed, is_of_ring}
use Rattle.vx_ringio.specs.Tracks.{Follows, Arrives}
use Rattle.vx_ringio.proofs.Following.{then_follows, then_arrives}
use Rattle.vx_ringio.proofs.Writing.{put_acts, put_follows, put_arrives}

-- ---- what a block is

pub class_is : (ring : ℕ) (b : List ℕ) (k : Kind) → IsKind b k → class_of ring b ≡ narrowed ring k
unfolding class_of
class_is ring b k is = ap (λ (x : Kind). narrowed ring x) (kind_of-only b k is)

pub class_front : (ring : ℕ) (b : List ℕ) (r : RecordHead) → IsRecord b r → class_of ring b ≡ Front r
class_front ring b r is = class_is ring b (Front r) is

pub class_body : (ring : ℕ) (b : List ℕ) → IsBody b → class_of ring b ≡ Body b
class_body ring b is = class_is ring b (Body b) (is, refl)

pub class_top : (ring : ℕ) (b : List ℕ) (h : Header) → IsHeader b h → is_of_ring ring h ≡ true → class_of ring b ≡ Top h
class_top ring b h is of_ring = class_is ring b (Top h) is ∙ ap (λ (t : Bool). if t then Top h else Other) of_ring

pub class_no_top : (ring : ℕ) (b : List ℕ) (h : Header) → IsHeader b h → is_of_ring ring h ≡ false → class_of ring b ≡ Other
class_no_top ring b h is of_ring = class_is ring b (Top h) is ∙ ap (λ (t : Bool). if t then Top h else Other) of_ring

-- and back
kept_front : (t : Bool) (h : Header) (r : RecordHead) → (if t then Top h else Other) ≡ Front r → ⊥
kept_front true h r is = cc
kept_front false h r is = cc

narrowed_front : (ring : ℕ) (k : Kind) (r : RecordHead) → narrowed ring k ≡ Front r → k ≡ Front r
narrowed_front ring (Top h) r is = absurd (kept_front (is_of_ring ring h) h r is)
narrowed_front ring (Front q) r is = is
narrowed_front ring (Body bytes) r is = is
narrowed_front ring Damaged r is = is
narrowed_front ring Other r is = is

kept_damaged : (t : Bool) (h : Header) → (if t then Top h else Other) ≡ Damaged → ⊥
kept_damaged true h is = cc
kept_damaged false h is = cc

narrowed_damaged : (ring : ℕ) (k : Kind) → narrowed ring k ≡ Damaged → k ≡ Damaged
narrowed_damaged ring (Top h) is = absurd (kept_damaged (is_of_ring ring h) h is)
narrowed_damaged ring (Front q) is = is
narrowed_damaged ring (Body bytes) is = is
narrowed_damaged ring Damaged is = is
narrowed_damaged ring Other is = is

kept_top : (t : Bool) (h g : Header) → (if t then Top h else Other) ≡ Top g → Top h ≡ Top g
kept_top true h g is = is
kept_top false h g is = cc

narrowed_top : (ring : ℕ) (k : Kind) (g : Header) → narrowed ring k ≡ Top g → k ≡ Top g
narrowed_top ring (Top h) g is = kept_top (is_of_ring ring h) h g is
narrowed_top ring (Front q) g is = is
narrowed_top ring (Body bytes) g is = is
narrowed_top ring Damaged g is = is
narrowed_top ring Other g is = is

pub front_class : (ring : ℕ) (b : List ℕ) (r : RecordHead) → class_of ring b ≡ Front r → IsRecord b r
unfolding class_of
front_class ring b r is = subst (λ (k : Kind). IsKind b k) (narrowed_front ring (kind_of b) r is) (kind_of-is b)

pub damaged_class : (ring : ℕ) (b : List ℕ) → class_of ring b ≡ Damaged → IsDamaged b
unfolding class_of
damaged_class ring b is = subst (λ (k : Kind). IsKind b k) (narrowed_damaged ring (kind_of b) is) (kind_of-is b)

pub top_class : (ring : ℕ) (b : List ℕ) (h : Header) → class_of ring b ≡ Top h → IsHeader b h
unfolding class_of
top_class ring b h is = subst (λ (k : Kind). IsKind b k) (narrowed_top ring (kind_of b) h is) (kind_of-is b)

-- ---- one block

one_acts : (ring b : ℕ) (bytes : List ℕ) (v : Kind) → length bytes ≡ 512 → class_of ring bytes ≡ v → put_acts ring b 1 bytes ≡ Write b v ∷ []
one_acts ring b bytes v size is = ap (λ (x : Kind). Write b x ∷ []) (ap (λ (x : List ℕ). class_of ring x) (take_all 512 bytes (omega (arith, size))) ∙ is)

module _ (unit ring b : ℕ) (bytes : List ℕ) (v : Kind) (size : length bytes ≡ 512) (inside : b < ring + 2) (is : class_of ring bytes ≡ v) (m m' : Meaning) (goes : Goes (Written unit b bytes) m m') where
  pub one_follows : Follows unit ring (Write b v ∷ []) m m'
  one_follows = subst (λ (acts : List Act). Follows unit ring acts m m') (one_acts ring b bytes v size is) (put_follows unit ring b 1 bytes size (omega arith) m m' goes)

  pub one_arrives : Wrote unit b bytes m m' → Arrives unit ring (Write b v ∷ []) m m'
  one_arrives wrote = subst (λ (acts : List Act). Arrives unit ring acts m m') (one_acts ring b bytes v size is) (put_arrives unit ring b 1 bytes size (omega arith) m m' goes wrote)

  -- and a flush behind it
  pub flushed_follows : (m'' : Meaning) → Wrote unit b bytes m m' → Follows unit ring (Flush ∷ []) m' m'' → Follows unit ring (Write b v ∷ Flush ∷ []) m m''
  flushed_follows m'' wrote flush = then_follows unit ring (Write b v ∷ []) (Flush ∷ []) m m' m'' one_follows (one_arrives wrote) flush

  pub flushed_arrives : (m'' : Meaning) → Wrote unit b bytes m m' → Arrives unit ring (Flush ∷ []) m' m'' → Arrives unit ring (Write b v ∷ Flush ∷ []) m m''
  flushed_arrives m'' wrote flush = then_arrives unit ring (Write b v ∷ []) (Flush ∷ []) m m' m'' (one_arrives wrote) flush

-- ---- the blocks of a body

pub block_run : (ring p k : ℕ) → p % ring + k < ring → block ring (p + k) ≡ block ring p + k
block_run ring p k fits =
    let a : (p % ring + k) % ring ≡ p % ring + k = mod-eq_of_lt fits in
    let b : (p % ring + k) % ring ≡ (p + k) % ring = mod-add-mod p ring k in
    omega arith

acts_at : (ring p b n : ℕ) (bytes : List ℕ) → ((k : ℕ) → k < n → block ring (p + k) ≡ b + k) → AllByRecursion IsBody (first_blocks n bytes) → body_acts ring p (first_blocks n bytes) ≡ put_acts ring b n bytes
acts_at ring p b zero bytes at body = refl
acts_at ring p b (suc n) bytes at body =
    let here : block ring p ≡ b = ap (λ (q : ℕ). block ring q) (omega arith) ∙ at 0 (omega arith) ∙ omega arith in
    ap (λ (c : ℕ). Write c (Body (take 512 bytes)) ∷ body_acts ring (suc p) (first_blocks n (drop 512 bytes))) here
    ∙ ap (λ (x : Kind). Write b x ∷ body_acts ring (suc p) (first_blocks n (drop 512 bytes))) (sym (class_body ring (take 512 bytes) body.0))
    ∙ ap (λ (acts : List Act). Write b (class_of ring (take 512 bytes)) ∷ acts)
    (acts_at ring (suc p) (suc b) n (drop 512 bytes) (λ k low. ap (λ (q : ℕ). block ring q) (omega arith) ∙ at (suc k) (omega arith) ∙ omega arith) body.1)

body_puts : (ring first n : ℕ) (bytes : List ℕ) → first + n ≤ ring → All IsBody (first_blocks n bytes) → body_acts ring first (first_blocks n bytes) ≡ put_acts ring (2 + first) n bytes
body_puts ring first n bytes fits body =
    acts_at ring first (2 + first) n bytes (λ k low. at k low) (recursion_from_All IsBody (first_blocks n bytes) body)
  where
    at : (k : ℕ) → k < n → block ring (first + k) ≡ 2 + first + k
    at k low = let same : (first + k) % ring ≡ first + k = mod-eq_of_lt (omega arith) in omega arith

module _ (unit ring first n : ℕ) (bytes : List ℕ) (size : length bytes ≡ 512 * n) (fits : first + n ≤ ring) (body : All IsBody (first_blocks n bytes)) (m m' : Meaning) (goes : Goes (Written unit (2 + first) bytes) m m') where
  pub part_follows : Follows unit ring (body_acts ring first (first_blocks n bytes)) m m'
  part_follows = subst (λ (acts : List Act). Follows unit ring acts m m') (sym (body_puts ring first n bytes fits body)) (put_follows unit ring (2 + first) n bytes size (omega (arith, fits)) m m' goes)

  pub part_arrives : Wrote unit (2 + first) bytes m m' → Arrives unit ring (body_acts ring first (first_blocks n bytes)) m m'
  part_arrives wrote = subst (λ (acts : List Act). Arrives unit ring acts m m') (sym (body_puts ring first n bytes fits body)) (put_arrives unit ring (2 + first) n bytes size (omega (arith, fits)) m m' goes wrote)
