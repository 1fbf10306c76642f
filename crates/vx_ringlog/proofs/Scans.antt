-- Scans of images whose records stand.
use Rattle.std.proofs.Common.{◌⊎◌, inl, inr, ⊎_elim, ℕ, suc, ◌+◌, List, [], ◌∷◌, ◌++◌, take, arith}
use Rattle.vx_ringlog.specs.Cells.{Cells, RingImage, IsImage, Leaves}
use Rattle.vx_ringlog.specs.Records.{Era, Record}
use Rattle.vx_ringlog.specs.Chain.{Bounded, HasBody, Scan, ScanStops, Takes, block, width}
use Rattle.vx_ringlog.specs.Ready.{RecordsFit, Prepared, SureAll, SureBody, Tame, after, last, next}

-- the records stand, wherever the scan ends
abbrev pub HasAll : ℕ → RingImage → Era → ℕ → ℕ → ℕ → List Record → Type 0
HasAll size i e p n prev [] = Unit {0}
HasAll size i e p n prev (r ∷ rs) = Takes e n prev (i (block size p)) r × HasBody size i (suc p) r.body × HasAll size i e (p + width r) (suc n) r.incarnation rs

-- a first part stands, and the scan stops behind it
abbrev pub Partly : ℕ → RingImage → Era → ℕ → ℕ → ℕ → List Record → Type 0
Partly size i e p n prev [] = ScanStops e n prev (i (block size p))
Partly size i e p n prev (r ∷ rs) = (Takes e n prev (i (block size p)) r × HasBody size i (suc p) r.body × Partly size i e (p + width r) (suc n) r.incarnation rs) ⊎ ScanStops e n prev (i (block size p))

partly : (size : ℕ) (i : RingImage) (e : Era) (p n prev : ℕ) (ss : List Record) → Partly size i e p n prev ss → (k : ℕ) × Scan size i e p n prev (take k ss)
partly size i e p n prev [] stops = (0, stops)
partly size i e p n prev (s ∷ ss) (inl stands) = let rest = partly size i e (p + width s) (suc n) s.incarnation ss stands.2 in (suc rest.0, (stands.0, stands.1, rest.1))
partly size i e p n prev (s ∷ ss) (inr stops) = (0, stops)

pub scanned : (size : ℕ) (i : RingImage) (e : Era) (p n prev : ℕ) (rs ss : List Record) → HasAll size i e p n prev rs → Partly size i e (after p rs) (next n rs) (last prev rs) ss → (k : ℕ) × Scan size i e p n prev (rs ++ take k ss)
scanned size i e p n prev [] ss all part = partly size i e p n prev ss part
scanned size i e p n prev (r ∷ rs) ss all part = let rest = scanned size i e (p + width r) (suc n) r.incarnation rs ss all.2 part in (rest.0, (all.0, all.1, rest.1))

-- the scan from a later header is the rest of it
pub from_later : (size : ℕ) (i : RingImage) (e : Era) (p n prev : ℕ) (rs ss : List Record) → Scan size i e p n prev (rs ++ ss) → Scan size i e (after p rs) (next n rs) (last prev rs) ss
from_later size i e p n prev [] ss scan = scan
from_later size i e p n prev (r ∷ rs) ss scan = from_later size i e (p + width r) (suc n) r.incarnation rs ss scan.2

-- in each image a scan finds what is held and a first part of what is staged
abbrev pub Prefix : ℕ → Era → ℕ → ℕ → ℕ → List Record → List Record → Cells → Type 0
Prefix size e p n floor held staged u = Leaves (λ i. (k : ℕ) × Scan size i e p n floor (held ++ take k staged) × Bounded i e) u

-- what is sure stands in each image
has_body : (size : ℕ) (u : Cells) (i : RingImage) → IsImage u i → (p : ℕ) (bs : List (List ℕ)) → SureBody size u p bs → HasBody size i p bs
has_body size u i img p [] sure = tt
has_body size u i img p (b ∷ bs) sure = (sure.0 (i (block size p)) (img (block size p)), has_body size u i img (suc p) bs sure.1)

pub has_all : (size : ℕ) (u : Cells) (i : RingImage) → IsImage u i → (e : Era) (p n prev : ℕ) (rs : List Record) → SureAll size u p rs → RecordsFit e n prev rs → HasAll size i e p n prev rs
has_all size u i img e p n prev [] sure fits = tt
has_all size u i img e p n prev (r ∷ rs) sure fits = (
  (record { is = sure.0 (i (block size p)) (img (block size p)); number = fits.0; run = fits.1; line = fits.2.line; not_below = omega (arith, fits.3); not_above = fits.4 }, fits.2.genuine),
  has_body size u i img (suc p) r.body sure.1,
  has_all size u i img e (p + width r) (suc n) r.incarnation rs sure.2 fits.5,
)

pub is_partly : (size : ℕ) (u : Cells) (i : RingImage) → IsImage u i → (e : Era) (p n prev : ℕ) (ss : List Record) → Prepared size u e p n prev ss → RecordsFit e n prev ss → Partly size i e p n prev ss
is_partly size u i img e p n prev [] prepared fits = prepared (i (block size p)) (img (block size p))
is_partly size u i img e p n prev (s ∷ ss) prepared fits = ⊎_elim
    (λ is. inl (
      (record { is = is; number = fits.0; run = fits.1; line = fits.2.line; not_below = omega (arith, fits.3); not_above = fits.4 }, fits.2.genuine),
      has_body size u i img (suc p) s.body prepared.1,
      is_partly size u i img e (p + width s) (suc n) s.incarnation ss prepared.2 fits.5,
    ))
    (λ stops. inr stops)
    (prepared.0 (i (block size p)) (img (block size p)))

-- an image in which the scan stops behind what is held has a first part of anything
pub none_yet : (size : ℕ) (i : RingImage) (e : Era) (p n prev : ℕ) (ss : List Record) → ScanStops e n prev (i (block size p)) → Partly size i e p n prev ss
none_yet size i e p n prev [] stops = stops
none_yet size i e p n prev (s ∷ ss) stops = inr stops

pub bounded : (u : Cells) (e : Era) (n : ℕ) (i : RingImage) → IsImage u i → Tame u e n → Bounded i e
bounded u e n i img tame = record {
  whole = λ b is. (tame b (i b) (img b)).whole is;
  incarnation = λ b r is. (tame b (i b) (img b)).incarnation r is;
  run = λ b r is. (tame b (i b) (img b)).run r is;
}
