-- A seal: the flush of the bodies, each front, and the last flush.
use Rattle.std.proofs.Common.{◌≡◌, inl, inr, ⊎_elim, ℕ, suc, ◌+◌, ◌<◌, ◌≤◌, List, [], ◌∷◌, ◌++◌, refl, sym, ◌∙◌, ap, subst, arith, append_assoc}
use Rattle.std.proofs.lemmas.List.{append-nil}
use Rattle.vx_srlfmt.specs.Kinds.{Front, Kind}
use Rattle.vx_srlfmt.specs.declared.record.RecordHead.{RecordHead}
use Rattle.vx_ringlog.specs.Cells.{Always, Cells, May, flush, run_all, write}
use Rattle.vx_ringlog.specs.Records.{Era, Record}
use Rattle.vx_ringlog.specs.Chain.{ScanStops, block, width}
use Rattle.vx_ringlog.specs.Ready.{End, RecordsFit, Now, Prepared, ReadFronts, ReadyRing, SureAll, Tame, after, last, next}
use Rattle.vx_ringlog.specs.Acts.{fronts_of, seal_acts}
use Rattle.vx_ringlog.proofs.Places.{block_apart}
use Rattle.vx_ringlog.proofs.CellLemmas.{flush_may, read_same}
use Rattle.vx_ringlog.proofs.Scans.{Prefix, bounded, has_all, is_partly, none_yet, scanned}
use Rattle.vx_ringlog.proofs.Keeps.{after_append, after_le, all_read, bodies_read, last_append, next_append, next_le, prepared_flush, read_fronts_snoc, read_fronts_write, sure_all_flush, sure_all_write, tame_flush, tame_front, tame_more, tame_write}
use Rattle.vx_ringlog.proofs.Preparing.{Harmless, end_stops, harmless_rest, harmless_skip, prepare, prepared_write}

pub fits_behind : (e : Era) (n prev : ℕ) (done rest : List Record) → RecordsFit e n prev (done ++ rest) → RecordsFit e (next n done) (last prev done) rest
fits_behind e n prev [] rest fits = fits
fits_behind e n prev (r ∷ rs) rest fits = fits_behind e (suc n) r.incarnation rs rest fits.5

pub fits_append : (e : Era) (n prev : ℕ) (rs ss : List Record) → RecordsFit e n prev rs → RecordsFit e (next n rs) (last prev rs) ss → RecordsFit e n prev (rs ++ ss)
fits_append e n prev [] ss fits more = more
fits_append e n prev (r ∷ rs) ss fits more = (fits.0, fits.1, fits.2, fits.3, fits.4, fits_append e (suc n) r.incarnation rs ss fits.5 more)

pub sure_append : (size : ℕ) (u : Cells) (p : ℕ) (rs ss : List Record) → SureAll size u p rs → SureAll size u (after p rs) ss → SureAll size u p (rs ++ ss)
sure_append size u p [] ss sure more = more
sure_append size u p (r ∷ rs) ss sure more = (sure.0, sure.1, sure_append size u (p + width r) rs ss sure.2 more)

pub last_now : (e : Era) (prev : ℕ) (ss : List Record) → Now e ss → prev ≡ e.incarnation → last prev ss ≡ e.incarnation
last_now e prev [] now is = is
last_now e prev (s ∷ ss) now is = last_now e s.incarnation ss now.1 now.0

-- the other front than the one that belongs there
stops_front : (e : Era) (n prev : ℕ) (s : RecordHead) → s.number < n → ScanStops e n prev (Front s)
stops_front e n prev s less = (
  (λ r t. let same : s ≡ r = cc (t.is) in let below : r.number < n = subst (λ (x : RecordHead). x.number < n) same less in omega (arith, t.number)),
  (λ is. cc),
)

module _ (size : ℕ) (e : Era) (p n floor : ℕ) (held staged : List Record) (fits : RecordsFit e n floor held) (staged_fits : RecordsFit e (next n held) (last floor held) staged) (room : after (after p held) staged ≤ p + size) where
  abbrev q : ℕ
  q = after p held

  abbrev m : ℕ
  m = next n held

  abbrev prev : ℕ
  prev = last floor held

  -- while the fronts are written
  record Sealing (u : Cells) (done todo : List Record) : Type 0 where
    all : done ++ todo ≡ staged
    sure : SureAll size u p held
    prepared : Prepared size u e q m prev staged
    fronts : ReadFronts size u q done
    tame : Tame u e (next m staged)

  record Sealed (u : Cells) : Type 0 where
    sure : SureAll size u p (held ++ staged)
    tame : Tame u e (next m staged)

  prefix : (u : Cells) → SureAll size u p held → Prepared size u e q m prev staged → Tame u e (next m staged) → Prefix size e p n floor held staged u
  prefix u sure prepared tame i img =
      let found = scanned size i e p n floor held staged (has_all size u i img e p n floor held sure fits) (is_partly size u i img e q m prev staged prepared staged_fits) in
      (found.0, found.1, bounded u e (next m staged) i img tame)

  one : (u : Cells) (done : List Record) (s : Record) (rest : List Record) → Sealing u done (s ∷ rest) → Sealing (write u (block size (after q done)) (Front s.head)) (done ++ s ∷ []) rest
  one u done s rest sealing = record {
    all = append_assoc done (s ∷ []) rest ∙ sealing.all;
    sure = sure_all_write size u (block size (after q done)) (Front s.head) p held (λ k low high same. block_apart size k (after q done) (omega (arith, q_le_x)) (omega (arith, x_end, room)) same) sealing.sure;
    prepared = prepared_write size u (block size (after q done)) (Front s.head) e q m prev staged harmless sealing.prepared;
    fronts = read_fronts_snoc size (write u (block size (after q done)) (Front s.head)) q done s (read_fronts_write size u (block size (after q done)) (Front s.head) q done (λ k low high same. block_apart size k (after q done) high (omega (arith, x_end, room, after_le p held)) same) sealing.fronts) (read_same u (block size (after q done)) (Front s.head));
    tame = tame_write u e (next m staged) (block size (after q done)) (Front s.head) (tame_front e (next m staged) s.head here.4 here.1 number_less) sealing.tame;
  }
    where
      q_le_x : q ≤ (after q done)
      q_le_x = after_le q done

      end_is : after q staged ≡ after ((after q done) + width s) rest
      end_is = ap (λ (l : List Record). after q l) (sym sealing.all) ∙ after_append q done (s ∷ rest)

      x_end : (after q done) < after q staged
      x_end = omega (arith, end_is, after_le ((after q done) + width s) rest)

      here : RecordsFit e (next m done) (last prev done) (s ∷ rest)
      here = fits_behind e m prev done (s ∷ rest) (subst (λ (l : List Record). RecordsFit e m prev l) (sym sealing.all) staged_fits)

      next_is : next m staged ≡ next (suc (next m done)) rest
      next_is = ap (λ (l : List Record). next m l) (sym sealing.all) ∙ next_append m done (s ∷ rest)

      number_less : s.number < next m staged
      number_less = omega (arith, next_is, next_le (suc (next m done)) rest, here.0)

      harmless : Harmless size (block size (after q done)) (Front s.head) e q m prev staged
      harmless = subst (λ (l : List Record). Harmless size (block size (after q done)) (Front s.head) e q m prev l) sealing.all
          (harmless_skip size (block size (after q done)) (Front s.head) e q m prev done (s ∷ rest)
          (λ k low high same. block_apart size k (after q done) high (omega (arith, x_end, room, after_le p held)) same) (
            (λ same. refl),
            (λ k low high same. block_apart size (after q done) k (omega arith) (omega (arith, end_is, after_le ((after q done) + width s) rest, room, after_le p held, q_le_x)) (sym same)),
            harmless_rest size (block size (after q done)) (Front s.head) e ((after q done) + width s) (suc (next m done)) s.incarnation rest
                (λ k low high same. block_apart size (after q done) k (omega arith) (omega (arith, end_is, room, after_le p held, q_le_x)) (sym same))
                (stops_front e _ _ s.head (omega (arith, number_less, next_is))),
          ))

  fronts_written : (u : Cells) (done todo : List Record) → Sealing u done todo → Always (Prefix size e p n floor held staged) u (fronts_of size (after q done) todo) × Sealed (run_all u (fronts_of size (after q done) todo))
  fronts_written u done [] s =
      let whole : done ≡ staged = sym (append-nil done) ∙ s.all in
      let sure : SureAll size (flush u) p held = sure_all_flush size u p held s.sure in (
        (prefix u s.sure s.prepared s.tame, prefix (flush u) sure (prepared_flush size u e q m prev staged s.prepared) (tame_flush u e (next m staged) s.tame)),
        record {
          sure = sure_append size (flush u) p held staged sure (all_read size u e q m prev staged (subst (λ (l : List Record). ReadFronts size u q l) whole s.fronts) s.prepared);
          tame = tame_flush u e (next m staged) s.tame;
        },
      )
  fronts_written u done (s ∷ rest) sealing =
      let v = write u (block size (after q done)) (Front s.head) in
      let more = fronts_written v (done ++ s ∷ []) rest (one u done s rest sealing) in
      let place : after q (done ++ s ∷ []) ≡ after q done + width s = after_append q done (s ∷ []) in
      let moved = subst (λ (x : ℕ). Always (Prefix size e p n floor held staged) v (fronts_of size x rest) × Sealed (run_all v (fronts_of size x rest))) place more in
      ((prefix u sealing.sure sealing.prepared sealing.tame, moved.0), moved.1)

-- between calls the scan finds what is held, and a first part, none, of what is staged
pub ready_prefix : (size : ℕ) (u : Cells) (e : Era) (p n floor : ℕ) (held staged : List Record) → ReadyRing size u e p n floor held staged → Prefix size e p n floor held staged u
ready_prefix size u e p n floor held staged r i img =
    let stops = end_stops size u e (next n held) (after p held) (next n held) (last floor held) r.tame (omega arith) r.end _ (img (block size (after p held))) in
    let found = scanned size i e p n floor held staged (has_all size u i img e p n floor held r.sure r.fits) (none_yet size i e (after p held) (next n held) (last floor held) staged stops) in
    (found.0, found.1, bounded u e (next n held) i img r.tame)

ends : (size : ℕ) (u : Cells) (e : Era) (q m behind : ℕ) (staged : List Record) → Now e staged → End size u e q m behind → End size (run_all u (seal_acts size q staged)) e (after q staged) (next m staged) (last behind staged)
ends size u e q m behind [] now (inl is) = inl is
ends size u e q m behind [] now (inr stops) = inr (λ v may. stops v (flush_may u (block size q) v (flush_may (flush u) (block size q) v may)))
ends size u e q m behind (s ∷ ss) now end = inl (last_now e s.incarnation ss now.1 now.0)

-- at each moment of a seal a crash leaves what was held and a first part of what was staged; at its end all is held
pub sealed : (size : ℕ) (u : Cells) (e : Era) (p n floor : ℕ) (held staged : List Record) → ReadyRing size u e p n floor held staged
    → Always (Prefix size e p n floor held staged) u (seal_acts size (after p held) staged) × ReadyRing size (run_all u (seal_acts size (after p held) staged)) e p n floor (held ++ staged) []
sealed size u e p n floor held staged r =
    let q = after p held in
    let m = next n held in
    let prev = last floor held in
    let u1 = flush u in
    let u2 = run_all u (seal_acts size q staged) in
    let end1 : End size u1 e q m prev = ⊎_elim (λ now. inl now) (λ (stops : (v : Kind) → May u (block size q) v → ScanStops e m prev v). inr (λ v may. stops v (flush_may u (block size q) v may))) r.end in
    let tame1 : Tame u1 e m = tame_flush u e m r.tame in
    let sealing : Sealing size e p n floor held staged r.fits r.staged_fits r.room u1 [] staged = record {
      all = refl;
      sure = sure_all_flush size u p held r.sure;
      prepared = prepare size u1 e m q m prev staged tame1 (omega arith) end1 (bodies_read size u q staged r.bodies) r.now;
      fronts = tt;
      tame = tame_more u1 e m (next m staged) (next_le m staged) tame1;
    } in
    let run = fronts_written size e p n floor held staged r.fits r.staged_fits r.room u1 [] staged sealing in
    let end2 : End size u2 e (after q staged) (next m staged) (last prev staged) = ends size u e q m prev staged r.now r.end in (
      (ready_prefix size u e p n floor held staged r, run.0),
      record {
        room = omega (arith, r.room, after_append p held staged);
        tame = subst (λ (x : ℕ). Tame u2 e x) (sym (next_append n held staged)) run.1.tame;
        sure = run.1.sure;
        fits = fits_append e n floor held staged r.fits r.staged_fits;
        floor_below = r.floor_below;
        end = rw (after_append p held staged, next_append n held staged, last_append floor held staged) end2;
        staged_fits = tt;
        now = tt;
        bodies = tt;
      },
    )
