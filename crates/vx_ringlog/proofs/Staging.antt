-- The writes of a body behind what is staged.
use Rattle.std.proofs.Common.{◌≡◌, inl, inr, ⊎_elim, ℕ, suc, ◌+◌, ◌<◌, ◌≤◌, List, [], ◌∷◌, ◌++◌, length, refl, sym, ◌∙◌, arith}
use Rattle.vx_srlfmt.specs.Kinds.{Body, Kind}
use Rattle.vx_ringlog.specs.Cells.{Always, Cells, May, flush, read, run_all, write}
use Rattle.vx_ringlog.specs.Records.{Era, Record}
use Rattle.vx_ringlog.specs.Chain.{ScanStops, block, width}
use Rattle.vx_ringlog.specs.Ready.{Now, OfLine, ReadBodies, ReadBody, ReadyRing, TameValue, after, last, next}
use Rattle.vx_ringlog.specs.Acts.{body_acts, stage_acts}
use Rattle.vx_ringlog.proofs.Places.{block_apart}
use Rattle.vx_ringlog.proofs.CellLemmas.{flush_may, may_write, read_other, read_same}
use Rattle.vx_ringlog.proofs.Scans.{Prefix}
use Rattle.vx_ringlog.proofs.Keeps.{Apart, after_append, after_le, read_bodies_write, sure_all_flush, sure_all_write, tame_body, tame_flush, tame_write}
use Rattle.vx_ringlog.proofs.Sealing.{fits_append, ready_prefix}

-- a write elsewhere keeps the log
ready_write : (size : ℕ) (u : Cells) (e : Era) (p n floor : ℕ) (held staged : List Record) (b : ℕ) (v : Kind) → TameValue e (next n held) v
    → Apart size b p (after (after p held) staged) → (block size (after p held) ≡ b → ⊥) → ReadyRing size u e p n floor held staged → ReadyRing size (write u b v) e p n floor held staged
ready_write size u e p n floor held staged b v tame apart not_end r =
    let q = after p held in
    let le = after_le q staged in record {
      room = r.room;
      tame = tame_write u e (next n held) b v tame r.tame;
      sure = sure_all_write size u b v p held (λ k low high. apart k low (omega arith)) r.sure;
      fits = r.fits;
      floor_below = r.floor_below;
      end = ⊎_elim (λ now. inl now) (λ (stops : (w : Kind) → May u (block size q) w → ScanStops e (next n held) (last floor held) w). inr (λ w may. ⊎_elim (stops w) (λ (new : (b ≡ block size q) × (v ≡ w)). absurd (not_end (sym new.0))) (may_write u b v (block size q) w may))) r.end;
      staged_fits = r.staged_fits;
      now = r.now;
      bodies = read_bodies_write size u b v q staged (λ k low high. apart k (omega (arith, after_le p held)) high) r.bodies;
    }

pub ready_top : (size : ℕ) (u : Cells) (e : Era) (p n floor : ℕ) (held staged : List Record) (b : ℕ) (v : Kind) → TameValue e (next n held) v → b < 2
    → ReadyRing size u e p n floor held staged → ReadyRing size (write u b v) e p n floor held staged
ready_top size u e p n floor held staged b v tame low r = ready_write size u e p n floor held staged b v tame (λ k from to same. omega arith) (λ same. omega arith) r

read_bodies_flush_body : (size : ℕ) (u : Cells) (p : ℕ) (bs : List (List ℕ)) → ReadBody size u p bs → ReadBody size (flush u) p bs
read_bodies_flush_body size u p [] is = tt
read_bodies_flush_body size u p (b ∷ bs) is = (is.0, read_bodies_flush_body size u (suc p) bs is.1)

read_bodies_flush : (size : ℕ) (u : Cells) (p : ℕ) (ss : List Record) → ReadBodies size u p ss → ReadBodies size (flush u) p ss
read_bodies_flush size u p [] is = tt
read_bodies_flush size u p (s ∷ ss) is = (read_bodies_flush_body size u (suc p) s.body is.0, read_bodies_flush size u (p + width s) ss is.1)

pub ready_flush : (size : ℕ) (u : Cells) (e : Era) (p n floor : ℕ) (held staged : List Record) → ReadyRing size u e p n floor held staged → ReadyRing size (flush u) e p n floor held staged
ready_flush size u e p n floor held staged r =
    let q = after p held in record {
      room = r.room;
      tame = tame_flush u e (next n held) r.tame;
      sure = sure_all_flush size u p held r.sure;
      fits = r.fits;
      floor_below = r.floor_below;
      end = ⊎_elim (λ now. inl now) (λ (stops : (w : Kind) → May u (block size q) w → ScanStops e (next n held) (last floor held) w). inr (λ w may. stops w (flush_may u (block size q) w may))) r.end;
      staged_fits = r.staged_fits;
      now = r.now;
      bodies = read_bodies_flush size u q staged r.bodies;
    }

reads_kept : (size : ℕ) (u : Cells) (c x : ℕ) (bs : List (List ℕ)) → Apart size c x (x + length bs) → read (run_all u (body_acts size x bs)) c ≡ read u c
reads_kept size u c x [] apart = refl
reads_kept size u c x (b ∷ bs) apart =
    reads_kept size (write u (block size x) (Body b)) c (suc x) bs (λ k low high. apart k (omega arith) (omega arith)) ∙ read_other u (block size x) c (Body b) (apart x (omega arith) (omega arith))

fits_snoc_now : (e : Era) (ss : List Record) (s : Record) → Now e ss → s.incarnation ≡ e.incarnation → Now e (ss ++ s ∷ [])
fits_snoc_now e [] s now is = (is, tt)
fits_snoc_now e (x ∷ ss) s now is = (now.0, fits_snoc_now e ss s now.1 is)

bodies_snoc : (size : ℕ) (u : Cells) (p : ℕ) (ss : List Record) (s : Record) → ReadBodies size u p ss → ReadBody size u (suc (after p ss)) s.body → ReadBodies size u p (ss ++ s ∷ [])
bodies_snoc size u p [] s is new = (new, tt)
bodies_snoc size u p (x ∷ ss) s is new = (is.0, bodies_snoc size u (p + width x) ss s is.1 new)

module _ (size : ℕ) (e : Era) (p n floor : ℕ) (held staged : List Record) where
  bodies_written : (u : Cells) (x : ℕ) (bs : List (List ℕ)) → after (after p held) staged < x → x + length bs ≤ p + size → ReadyRing size u e p n floor held staged
      → Always (Prefix size e p n floor held staged) u (body_acts size x bs) × ReadyRing size (run_all u (body_acts size x bs)) e p n floor held staged × ReadBody size (run_all u (body_acts size x bs)) x bs
  bodies_written u x [] low high r = (ready_prefix size u e p n floor held staged r, r, tt)
  bodies_written u x (b ∷ bs) low high r =
      let q = after p held in
      let le1 = after_le p held in
      let le2 = after_le q staged in
      let v = write u (block size x) (Body b) in
      let kept_ready : ReadyRing size v e p n floor held staged =
      ready_write size u e p n floor held staged (block size x) (Body b) (tame_body e (next n held) b)
      (λ k from to same. block_apart size k x (omega arith) (omega arith) same) (λ same. block_apart size q x (omega arith) (omega arith) same) r in
      let rest = bodies_written v (suc x) bs (omega arith) (omega arith) kept_ready in
      let kept : read (run_all v (body_acts size (suc x) bs)) (block size x) ≡ Body b =
      reads_kept size v (block size x) (suc x) bs (λ k from to same. block_apart size x k (omega arith) (omega arith) (sym same)) ∙ read_same u (block size x) (Body b) in
      ((ready_prefix size u e p n floor held staged r, rest.0), rest.1, (kept, rest.2))

  -- at each moment of a stage a crash leaves what was held; behind it the record is staged
  pub staged_one : (u : Cells) (s : Record) → after (after p held) staged + width s ≤ p + size → s.number ≡ next (next n held) staged → s.run ≡ e.run → OfLine e s → s.incarnation ≡ e.incarnation
      → last (last floor held) staged ≤ e.incarnation → ReadyRing size u e p n floor held staged
      → Always (Prefix size e p n floor held staged) u (stage_acts size (after (after p held) staged) s) × ReadyRing size (run_all u (stage_acts size (after (after p held) staged) s)) e p n floor held (staged ++ s ∷ [])
  staged_one u s room number run line incarnation below r =
      let q = after p held in
      let all = bodies_written u (suc (after q staged)) s.body (omega arith) (omega arith) r in
      let r2 = all.1 in (
        all.0,
        record {
          room = omega (arith, after_append q staged (s ∷ []));
          tame = r2.tame;
          sure = r2.sure;
          fits = r2.fits;
          floor_below = r2.floor_below;
          end = r2.end;
          staged_fits = fits_append e (next n held) (last floor held) staged (s ∷ []) r.staged_fits (number, run, line, omega arith, omega arith, tt);
          now = fits_snoc_now e staged s r.now incarnation;
          bodies = bodies_snoc size (run_all u (stage_acts size (after q staged) s)) q staged s r2.bodies all.2;
        },
      )
