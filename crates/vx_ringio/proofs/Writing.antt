-- A write of whole blocks, as acts on the cells that follow the unit.
use Rattle.std.proofs.Common.{◌≡◌, inl, inr, ⊎_elim, ℕ, zero, suc, ◌+◌, ◌-◌, ◌*◌, ◌<◌, ◌≤◌, List, [], ◌∷◌, length, take, drop, refl, sym, ◌∙◌, ap, subst, arith}
use Rattle.std.proofs.lemmas.Bool.{eq-eqb, ne_eqb}
use Rattle.std.proofs.lemmas.List.{drop-drop}
use Rattle.vx_srlfmt.specs.Kinds.{Kind, Other}
use Rattle.vx_disk.specs.Shelf.{Meaning, Image, Each, Or, Covers, Written, Goes, Wrote}
use Rattle.vx_disk.specs.Moves.{Run}
use Rattle.vx_disk.proofs.Moving.{of_goes}
use Rattle.vx_ringlog.specs.Cells.{Cells, May, IsImage, read, Act, Write, run_all, write}
use Rattle.vx_ringio.specs.Classes.{class_of, classes}
use Rattle.vx_ringio.specs.Tracks.{Tracks, AmidCalls, Follows, Arrives}
use Rattle.vx_ringio.proofs.Following.{image_is, left_last}

-- the writes of n blocks of these bytes, from block b on
abbrev pub put_acts : ℕ → ℕ → ℕ → List ℕ → List Act
put_acts ring b zero bytes = []
put_acts ring b (suc n) bytes = Write b (class_of ring (take 512 bytes)) ∷ put_acts ring (suc b) n (drop 512 bytes)

-- block k of these bytes
abbrev pub nth : List ℕ → ℕ → List ℕ
nth bytes k = take 512 (drop (512 * k) bytes)

nth_zero : (bytes : List ℕ) → nth bytes 0 ≡ take 512 bytes
nth_zero bytes = refl

pub nth_more : (bytes : List ℕ) (k : ℕ) → nth (drop 512 bytes) k ≡ nth bytes (suc k)
nth_more bytes k =
    let at : 512 + 512 * k ≡ 512 * suc k = omega arith in
    ap (λ (rest : List ℕ). take 512 rest) (drop-drop (512 * k) 512 bytes ∙ ap (λ (n : ℕ). drop n bytes) at)

module _ (ring : ℕ) where
  may_write : (u : Cells) (b : ℕ) (v : Kind) (c : ℕ) (w : Kind) → May u c w → May (write u b v) c w
  may_write u b v c w (inl is) = inl is
  may_write u b v c w (inr among) = inr (inr among)

  may_old : (u : Cells) (b n : ℕ) (bytes : List ℕ) (c : ℕ) (w : Kind) → May u c w → May (run_all u (put_acts ring b n bytes)) c w
  may_old u b zero bytes c w may = may
  may_old u b (suc n) bytes c w may =
      may_old (write u b (class_of ring (take 512 bytes))) (suc b) n (drop 512 bytes) c w (may_write u b (class_of ring (take 512 bytes)) c w may)

  may_new : (u : Cells) (b n : ℕ) (bytes : List ℕ) (k : ℕ) → k < n → May (run_all u (put_acts ring b n bytes)) (b + k) (class_of ring (nth bytes k))
  may_new u b zero bytes k low = absurd (omega arith)
  may_new u b (suc n) bytes zero low =
      may_old (write u b (class_of ring (take 512 bytes))) (suc b) n (drop 512 bytes) (b + 0) (class_of ring (nth bytes 0)) (inr (inl (omega arith, refl)))
  may_new u b (suc n) bytes (suc k) low =
      let at : suc b + k ≡ b + suc k = omega arith in
      let here = may_new (write u b (class_of ring (take 512 bytes))) (suc b) n (drop 512 bytes) k (omega arith) in
      subst (λ (c : ℕ). May (run_all u (put_acts ring b (suc n) bytes)) c (class_of ring (nth bytes (suc k)))) at
      (subst (λ (x : List ℕ). May (run_all u (put_acts ring b (suc n) bytes)) (suc b + k) (class_of ring x)) (nth_more bytes k) here)

  stable_same : (u : Cells) (b n : ℕ) (bytes : List ℕ) (c : ℕ) → (run_all u (put_acts ring b n bytes)).stable c ≡ u.stable c
  stable_same u b zero bytes c = refl
  stable_same u b (suc n) bytes c = stable_same (write u b (class_of ring (take 512 bytes))) (suc b) n (drop 512 bytes) c

  read_write : (u : Cells) (b : ℕ) (v : Kind) (c : ℕ) → (b ≡ c → ⊥) → read (write u b v) c ≡ read u c
  read_write u b v c other = rw (ne_eqb b c other) refl

  read_there : (u : Cells) (b : ℕ) (v : Kind) (c : ℕ) → b ≡ c → read (write u b v) c ≡ v
  read_there u b v c same = rw (eq-eqb b c same) refl

  read_old : (u : Cells) (b n : ℕ) (bytes : List ℕ) (c : ℕ) → ((k : ℕ) → k < n → b + k ≡ c → ⊥) → read (run_all u (put_acts ring b n bytes)) c ≡ read u c
  read_old u b zero bytes c out = refl
  read_old u b (suc n) bytes c out =
      read_old (write u b (class_of ring (take 512 bytes))) (suc b) n (drop 512 bytes) c (λ k low is. out (suc k) (omega arith) (omega (arith, is)))
      ∙ read_write u b (class_of ring (take 512 bytes)) c (λ is. out 0 (omega arith) (omega (arith, is)))

  read_new : (u : Cells) (b n : ℕ) (bytes : List ℕ) (k : ℕ) → k < n → read (run_all u (put_acts ring b n bytes)) (b + k) ≡ class_of ring (nth bytes k)
  read_new u b zero bytes k low = absurd (omega arith)
  read_new u b (suc n) bytes zero low =
      read_old (write u b (class_of ring (take 512 bytes))) (suc b) n (drop 512 bytes) (b + 0) (λ k below is. omega (arith, is))
      ∙ read_there u b (class_of ring (take 512 bytes)) (b + 0) (omega arith)
  read_new u b (suc n) bytes (suc k) low =
      let at : b + suc k ≡ suc b + k = omega arith in
      ap (λ (c : ℕ). read (run_all u (put_acts ring b (suc n) bytes)) c) at
      ∙ read_new (write u b (class_of ring (take 512 bytes))) (suc b) n (drop 512 bytes) k (omega arith)
      ∙ ap (λ (x : List ℕ). class_of ring x) (nth_more bytes k)

-- a write of n blocks from block b on
module _ (unit ring b n : ℕ) (bytes : List ℕ) (size : length bytes ≡ 512 * n) (inside : b + n ≤ ring + 2) where
  covered : (c : ℕ) → Covers unit b bytes unit c → (b ≤ c) × (c - b < n) × (b + (c - b) ≡ c)
  covered c covers = (covers.first, omega (arith, covers.last, size), omega (arith, covers.first))

  in_ring : (w c : ℕ) (v : List ℕ) → Written unit b bytes w c v → Run unit 0 (ring + 2) w c
  in_ring w c v put = record { there = put.covers.there; first = omega arith; last = omega (arith, put.covers.first, put.covers.last, size, inside) }

  module _ (u : Cells) (m : Meaning) (tracks : Tracks unit ring u m) where
    put_may : (c : ℕ) (v : List ℕ) → c < ring + 2 → Or m.leaves (Written unit b bytes) unit c v → May (run_all u (put_acts ring b n bytes)) c (class_of ring v)
    put_may c v low (inl left) = may_old ring u b n bytes c (class_of ring v) (tracks.leaves c v low left)
    put_may c v low (inr put) =
        let is = covered c put.covers in
        subst (λ (x : List ℕ). May (run_all u (put_acts ring b n bytes)) c (class_of ring x)) (sym put.value)
        (subst (λ (d : ℕ). May (run_all u (put_acts ring b n bytes)) d (class_of ring (nth bytes (c - b)))) is.2 (may_new ring u b n bytes (c - b) is.1))

    put_beyond : (c : ℕ) → ring + 2 ≤ c → (run_all u (put_acts ring b n bytes)).stable c ≡ Other
    put_beyond c high = stable_same ring u b n bytes c ∙ tracks.beyond c high

    -- an image of it
    pub put_image : (i : Image) → Each (Or m.leaves (Written unit b bytes)) i → IsImage (run_all u (put_acts ring b n bytes)) (classes unit ring i)
    put_image i each = image_is unit ring (run_all u (put_acts ring b n bytes)) i (λ c low. put_may c (i unit c) low (each unit c)) put_beyond

    pub put_tracks : (m' : Meaning) → Goes (Written unit b bytes) m m' → Wrote unit b bytes m m' → Tracks unit ring (run_all u (put_acts ring b n bytes)) m'
    put_tracks m' goes wrote = record {
      leaves = λ c v low left. put_may c v low (goes.leaves unit c v left);
      reads = λ c v low is. ⊎_elim (λ put. new c v put) (λ was. old c v low was.0 was.1) (wrote.each unit c v is);
      beyond = put_beyond;
      beyond_read = λ c high. read_old ring u b n bytes c (λ k low is. omega (arith, high, low, is, inside)) ∙ tracks.beyond_read c high;
    }
      where
        new : (c : ℕ) (v : List ℕ) → Written unit b bytes unit c v → class_of ring v ≡ read (run_all u (put_acts ring b n bytes)) c
        new c v put =
            let is = covered c put.covers in
            ap (λ (x : List ℕ). class_of ring x) put.value ∙ sym (read_new ring u b n bytes (c - b) is.1)
            ∙ ap (λ (d : ℕ). read (run_all u (put_acts ring b n bytes)) d) is.2

        old : (c : ℕ) (v : List ℕ) → c < ring + 2 → (Covers unit b bytes unit c → ⊥) → m.reads unit c v → class_of ring v ≡ read (run_all u (put_acts ring b n bytes)) c
        old c v low out was =
            tracks.reads c v low was
            ∙ sym (read_old ring u b n bytes c (λ k below is. out (record { there = refl; first = omega (arith, is); last = omega (arith, is, below, size) })))

  pub put_follows : (m m' : Meaning) → Goes (Written unit b bytes) m m' → Follows unit ring (put_acts ring b n bytes) m m'
  put_follows m m' goes =
      of_goes (Run unit 0 (ring + 2)) (AmidCalls unit ring (put_acts ring b n bytes) m) (Written unit b bytes) m m' goes in_ring
      (λ i each. record { each = λ u tracks. left_last u (put_acts ring b n bytes) (classes unit ring i) (put_image u m tracks i each) })

  pub put_arrives : (m m' : Meaning) → Goes (Written unit b bytes) m m' → Wrote unit b bytes m m' → Arrives unit ring (put_acts ring b n bytes) m m'
  put_arrives m m' goes wrote = record { each = λ u tracks. put_tracks u m tracks m' goes wrote }
