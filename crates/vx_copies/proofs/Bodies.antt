-- Which configuration a body is.
use Rattle.std.proofs.Common.{◌≡◌, ℕ, ◌+◌, ◌<◌, ◌≤◌, Bool, true, false, Option, Some, None, Ok, List, [], ◌∷◌, ◌++◌, length, take, drop, refl, ap, sym, subst, ◌∙◌, arith}
use Rattle.std.specs.Prelude.{◌&&◌, ◌==◌, if◌then◌else◌}
use Rattle.std.proofs.lemmas.Bool.{and_parts, eqb-true}
use Rattle.std.proofs.lemmas.List.{append-nil, take_all, take-append-drop, length-drop}
use Rattle.vx_config.specs.Checks.{is_sound}
use Rattle.vx_config.specs.Configs.{IsRefused, IsSpelling, spelled_config}
use Rattle.vx_config.specs.Table.{config}
use Rattle.vx_config.specs.declared.config.Config.{Config}
use Rattle.vx_config.specs.declared.entry.DiskEntry.{DiskEntry}
use Rattle.vx_config.proofs.DecodeLemmas.{spelled-read}
use Rattle.vx_copies.specs.Bodies.{alone, have_blocks, fits_units, is_wanted, if_wanted, reads_in}

-- ---- the same sizes

have_blocks-same : (s t : ℕ → ℕ) (k : ℕ) (ds : List DiskEntry) → ((u : ℕ) → s u ≡ t u) → have_blocks s k ds ≡ have_blocks t k ds
have_blocks-same s t k [] same = refl
have_blocks-same s t k (d ∷ ds) same =
    ap (λ (n : ℕ). d.blocks == n && have_blocks s (k + 1) ds) (same k) ∙ ap (λ (b : Bool). d.blocks == t k && b) (have_blocks-same s t (k + 1) ds same)

wanted-same : (m n : ℕ) (s t : ℕ → ℕ) (o : Option Config) → m ≡ n → ((u : ℕ) → s u ≡ t u) → if_wanted m s o ≡ if_wanted n t o
wanted-same m n s t None units same = refl
wanted-same m n s t (Some c) units same =
    let one : is_wanted m s c ≡ is_wanted n t c = ap (λ (k : ℕ). is_sound c && (length c.disks == k && have_blocks s 0 c.disks)) units
    ∙ ap (λ (b : Bool). is_sound c && (length c.disks == n && b)) (have_blocks-same s t 0 c.disks same) in
    ap (λ (b : Bool). if b then Some c else None) one

pub reads-same : (m n : ℕ) (s t : ℕ → ℕ) (bytes : List ℕ) → m ≡ n → ((u : ℕ) → s u ≡ t u) → reads_in m s bytes ≡ reads_in n t bytes
unfolding reads_in
reads-same m n s t bytes units same = wanted-same m n s t (alone (config.read bytes)) units same

-- ---- what a decoder said

pub read_whole : (units : ℕ) (size : ℕ → ℕ) (bytes : List ℕ) (c : Config) (n : ℕ) → IsSpelling (take n bytes) c → n ≡ length bytes → is_wanted units size c ≡ true → Some c ≡ reads_in units size bytes
unfolding reads_in
read_whole units size bytes c n is len wanted =
    let all : bytes ≡ spelled_config c ++ [] = sym (take_all n bytes (omega (arith, len))) ∙ is.is ∙ sym (append-nil (spelled_config c)) in
    rw (spelled-read bytes c [] is.has all, wanted) refl

pub read_unwanted : (units : ℕ) (size : ℕ → ℕ) (bytes : List ℕ) (c : Config) (n : ℕ) → IsSpelling (take n bytes) c → n ≡ length bytes → is_wanted units size c ≡ false → None ≡ reads_in units size bytes
unfolding reads_in
read_unwanted units size bytes c n is len wanted =
    let all : bytes ≡ spelled_config c ++ [] = sym (take_all n bytes (omega (arith, len))) ∙ is.is ∙ sym (append-nil (spelled_config c)) in
    rw (spelled-read bytes c [] is.has all, wanted) refl

with_rest : (c : Config) (rest : List ℕ) → 0 < length rest → alone (Ok (c, rest)) ≡ None
with_rest c [] some = absurd (omega (arith, some))
with_rest c (x ∷ rest) some = refl

pub read_longer : (units : ℕ) (size : ℕ → ℕ) (bytes : List ℕ) (c : Config) (n : ℕ) → IsSpelling (take n bytes) c → n ≤ length bytes → (n ≡ length bytes → ⊥) → None ≡ reads_in units size bytes
unfolding reads_in
read_longer units size bytes c n is few apart =
    let all : bytes ≡ spelled_config c ++ drop n bytes = sym (take-append-drop n bytes) ∙ ap (λ (t : List ℕ). t ++ drop n bytes) is.is in
    let some : 0 < length (drop n bytes) = omega (arith, length-drop n bytes, few, apart) in
    let none : alone (config.read bytes) ≡ None = ap alone (spelled-read bytes c (drop n bytes) is.has all) ∙ with_rest c (drop n bytes) some in
    rw none refl

pub read_refused : (units : ℕ) (size : ℕ → ℕ) (bytes : List ℕ) (at : ℕ) → IsRefused at bytes → None ≡ reads_in units size bytes
unfolding reads_in
read_refused units size bytes at refused = rw refused.place.wrong refl

-- a configuration that counts has as many disks as there are units
pub read_fits : (units : ℕ) (size : ℕ → ℕ) (bytes : List ℕ) (c : Config) → Some c ≡ reads_in units size bytes → length c.disks ≡ units
unfolding reads_in
read_fits units size bytes c is = by_read (alone (config.read bytes)) is
  where
    by_wanted : (x : Config) (b : Bool) → is_wanted units size x ≡ b → Some c ≡ (if b then Some x else None) → length c.disks ≡ units
    by_wanted x true wanted is_x =
        let same : c ≡ x = cc in
        let parts = and_parts (is_sound x) (fits_units units size x) wanted in
        let two = and_parts (length x.disks == units) (have_blocks size 0 x.disks) parts.1 in
        subst (λ (k : Config). length k.disks ≡ units) (sym same) (eqb-true (length x.disks) units two.0)
    by_wanted x false wanted is_x = absurd cc

    by_read : (o : Option Config) → Some c ≡ if_wanted units size o → length c.disks ≡ units
    by_read None is_o = absurd cc
    by_read (Some x) is_o = by_wanted x (is_wanted units size x) refl is_o
