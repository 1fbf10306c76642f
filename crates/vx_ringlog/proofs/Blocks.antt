-- The blocks of a record, as given and on disk.
use Rattle.std.proofs.Common.{◌≡◌, ℕ, zero, suc, ◌-◌, ◌*◌, ◌%◌, List, [], ◌∷◌, ◌++◌, length, take, drop, slice_index, All, refl, sym, ◌∙◌, ap, subst, arith}
use Rattle.std.specs.List.{concat}
use Rattle.std.proofs.lemmas.List.{length-append, length-drop, length-replicate, length-take, take-append-drop}
use Rattle.std.proofs.lemmas.Nat.{div-add-mod'}
use Rattle.std.proofs.lemmas.List.Elements.{All-nil, All-cons, All-head, All-tail}
use Rattle.std.proofs.Math.Seq.{drop-append_seam}
use Rattle.vx_model.specs.Content.{Write, blocks_in}
use Rattle.vx_wire.specs.Seals.{digest_of}
use Rattle.vx_wire.specs.Fields.{zero_bytes}
use Rattle.vx_srlfmt.specs.Kinds.{body_byte, IsBody}
use Rattle.vx_ringlog.specs.Records.{Era, with_firsts, given, as_on_disk, first_bytes, firsts_of, IsWhole, GivenComesBack, StandOnDisk, BlocksStand, first_blocks, write_blocks, record_of, LogsWrite, WriteComesBack}

-- a block is its first byte and the rest of it
own_first : (block : List ℕ) → IsWhole block → slice_index block 0 ∷ drop 1 block ≡ block
own_first [] whole = absurd (omega (arith, whole))
own_first (x ∷ xs) whole = refl

-- with another first byte it is as long
same_length : (block : List ℕ) → IsWhole block → IsWhole (body_byte ∷ drop 1 block)
same_length [] whole = absurd (omega (arith, whole))
same_length (x ∷ xs) whole = whole

comes_back : (blocks : List (List ℕ)) (rest : List ℕ) → All IsWhole blocks → with_firsts (first_bytes blocks ++ rest) (as_on_disk blocks) ≡ concat blocks
comes_back [] rest whole = refl
comes_back (b ∷ bs) rest whole =
    ap (λ (x : List ℕ). x ++ with_firsts (first_bytes bs ++ rest) (as_on_disk bs)) (own_first b (All-head IsWhole b bs whole)) ∙ ap (λ (x : List ℕ). b ++ x) (comes_back bs rest (All-tail IsWhole b bs whole))

pub given_comes_back : GivenComesBack
given_comes_back r blocks whole keeps =
    ap (λ (x : List ℕ). with_firsts x r.body) keeps.firsts ∙ ap (λ (x : List (List ℕ)). with_firsts (firsts_of blocks) x) keeps.body ∙ comes_back blocks (zero_bytes (16 - length blocks)) whole

as_many : (blocks : List (List ℕ)) → length (as_on_disk blocks) ≡ length blocks
as_many [] = refl
as_many (b ∷ bs) = ap suc (as_many bs)

bytes_of : (blocks : List (List ℕ)) → length (first_bytes blocks) ≡ length blocks
bytes_of [] = refl
bytes_of (b ∷ bs) = ap suc (bytes_of bs)

still_whole : (blocks : List (List ℕ)) → All IsWhole blocks → All IsWhole (as_on_disk blocks)
still_whole [] whole = All-nil IsWhole
still_whole (b ∷ bs) whole = All-cons IsWhole (body_byte ∷ drop 1 b) (as_on_disk bs) (same_length b (All-head IsWhole b bs whole)) (still_whole bs (All-tail IsWhole b bs whole))

all_body : (blocks : List (List ℕ)) → All IsBody (as_on_disk blocks)
all_body [] = All-nil IsBody
all_body (b ∷ bs) = All-cons IsBody (body_byte ∷ drop 1 b) (as_on_disk bs) refl (all_body bs)

pub blocks_stand : BlocksStand
blocks_stand blocks whole = record {
  count = as_many blocks;
  whole = still_whole blocks whole;
  body = all_body blocks;
  firsts = λ few. omega (arith, length-append (first_bytes blocks) (zero_bytes (16 - length blocks)), bytes_of blocks, length-replicate {A = ℕ} (16 - length blocks) 0);
  zeros = subst (λ (n : ℕ). drop n (firsts_of blocks) ≡ zero_bytes (16 - length blocks)) (bytes_of blocks) (drop-append_seam (first_bytes blocks) (zero_bytes (16 - length blocks)));
}

pub cut_count : (n : ℕ) (bytes : List ℕ) → length (first_blocks n bytes) ≡ n
cut_count zero bytes = refl
cut_count (suc n) bytes = ap suc (cut_count n (drop 512 bytes))

cut_whole : (n : ℕ) (bytes : List ℕ) → length bytes ≡ 512 * n → All IsWhole (first_blocks n bytes)
cut_whole zero bytes is = All-nil IsWhole
cut_whole (suc n) bytes is = All-cons IsWhole (take 512 bytes) (first_blocks n (drop 512 bytes)) (omega (arith, is, length-take 512 bytes)) (cut_whole n (drop 512 bytes) (omega (arith, is, length-drop 512 bytes)))

cut_back : (n : ℕ) (bytes : List ℕ) → length bytes ≡ 512 * n → concat (first_blocks n bytes) ≡ bytes
cut_back zero [] is = refl
cut_back zero (b ∷ bs) is = absurd (omega (arith, is))
cut_back (suc n) bytes is = ap (λ (x : List ℕ). take 512 bytes ++ x) (cut_back n (drop 512 bytes) (omega (arith, is, length-drop 512 bytes))) ∙ take-append-drop 512 bytes

module _ (e : Era) (number : ℕ) (x : Write) (whole : length x.bytes % 512 ≡ 0) where
  all : length x.bytes ≡ 512 * blocks_in x.bytes
  all = omega (arith, whole, div-add-mod' (length x.bytes) 512)

  blocks_whole : All IsWhole (write_blocks x)
  blocks_whole = cut_whole (blocks_in x.bytes) x.bytes all

  count_is : length (write_blocks x) ≡ blocks_in x.bytes
  count_is = cut_count (blocks_in x.bytes) x.bytes

  given_is : given (record_of e number x) ≡ x.bytes
  given_is = given_comes_back (record_of e number x) (write_blocks x) blocks_whole (record { firsts = refl; body = refl }) ∙ cut_back (blocks_in x.bytes) x.bytes all

  stand : StandOnDisk (write_blocks x)
  stand = blocks_stand (write_blocks x) blocks_whole

  logs : LogsWrite (record_of e number x) x
  logs = record {
    write = ap (λ (b : List ℕ). record { volume = x.volume; start = x.start; bytes = b }) given_is;
    genuine = record { count = sym (stand.count ∙ count_is); digest = ap digest_of (sym given_is) };
    whole = stand.whole;
    body = stand.body;
    firsts = λ few. stand.firsts (omega (arith, few, count_is, all));
    zeros = subst (λ (n : ℕ). drop n (firsts_of (write_blocks x)) ≡ zero_bytes (16 - n)) count_is stand.zeros;
  }

pub write_comes_back : WriteComesBack
write_comes_back e number x whole = logs e number x whole
