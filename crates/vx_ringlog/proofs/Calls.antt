-- Each call of the log, at each moment.
use Rattle.std.proofs.Common.{◌≡◌, ◌⊎◌, inl, inr, ⊎_elim, ℕ, zero, suc, ◌+◌, ◌%◌, ◌<◌, ◌≤◌, List, [], ◌∷◌, ◌++◌, take, refl, sym, ◌∙◌, ap, subst, arith, append_assoc}
use Rattle.std.proofs.Math.Nat.{mod-add-mod}
use Rattle.vx_srlfmt.specs.Kinds.{Front, Top}
use Rattle.vx_srlfmt.specs.declared.header.Header.{Header}
use Rattle.vx_ringlog.specs.Cells.{Act, Always, Cells, Flush, RingImage, IsImage, Leaves, Write, flush, run_all, write}
use Rattle.vx_ringlog.specs.Records.{Era, Record, era_of}
use Rattle.vx_ringlog.specs.Chain.{Bounded, IsGreaterTop, HasBody, Recovers, Scan, ScanStops, Takes, block, total, width}
use Rattle.vx_ringlog.specs.Ready.{RecordsFit, Now, ReadyRing, SureAll, Tame, TameValue, after, last, next}
use Rattle.vx_ringlog.specs.Acts.{body_acts, fronts_of, head_acts}
use Rattle.vx_ringlog.specs.Heads.{Heads}
use Rattle.vx_ringlog.specs.Logs.{CallIsSafe, Found, In, IsLog, MayRestart, MaySave, MayStage, New, Restart, Save, Seal, Stage, State, acts_of, behind_call}
use Rattle.vx_ringlog.proofs.Scans.{from_later}
use Rattle.vx_ringlog.proofs.Keeps.{after_append, after_le, last_append, next_append}
use Rattle.vx_ringlog.proofs.Sealing.{fits_behind, ready_prefix, sealed}
use Rattle.vx_ringlog.proofs.Staging.{ready_flush, ready_top, staged_one}
use Rattle.vx_ringlog.proofs.HeadLemmas.{counts, counts_either, heads_flush, heads_ring, heads_written, slots_low}

pub after_is : (p : ℕ) (rs : List Record) → after p rs ≡ p + total rs
after_is p [] = omega arith
after_is p (r ∷ rs) = omega (arith, after_is (p + width r) rs)

total_append : (rs ss : List Record) → total (rs ++ ss) ≡ total rs + total ss
total_append [] ss = omega arith
total_append (r ∷ rs) ss = omega (arith, total_append rs ss)

total_take : (k : ℕ) (ss : List Record) → total (take k ss) ≤ total ss
total_take zero ss = omega arith
total_take (suc k) [] = omega arith
total_take (suc k) (s ∷ ss) = omega (arith, total_take k ss)

last_le : (e : Era) (n prev : ℕ) (rs : List Record) → RecordsFit e n prev rs → prev ≤ e.incarnation → last prev rs ≤ e.incarnation
last_le e n prev [] fits le = le
last_le e n prev (r ∷ rs) fits le = last_le e (suc n) r.incarnation rs fits.5 fits.4

-- a scan from another place of the same block
block_shift : (size p x k : ℕ) → block size p ≡ block size x → block size (p + k) ≡ block size (x + k)
block_shift size p x k same =
    let m : p % size ≡ x % size = omega arith in
    let n : (p % size + k) % size ≡ (x % size + k) % size = ap (λ (y : ℕ). (y + k) % size) m in
    omega (arith, n, mod-add-mod p size k, mod-add-mod x size k)

block_suc : (size p x : ℕ) → block size p ≡ block size x → block size (suc p) ≡ block size (suc x)
block_suc size p x same =
    let a : suc p ≡ p + 1 = omega arith in
    let b : suc x ≡ x + 1 = omega arith in
    ap (λ (y : ℕ). block size y) a ∙ block_shift size p x 1 same ∙ sym (ap (λ (y : ℕ). block size y) b)

body_shift : (size : ℕ) (i : RingImage) (p x : ℕ) (bs : List (List ℕ)) → block size p ≡ block size x → HasBody size i p bs → HasBody size i x bs
body_shift size i p x [] same has = tt
body_shift size i p x (b ∷ bs) same has = (ap i (sym same) ∙ has.0, body_shift size i (suc p) (suc x) bs (block_suc size p x same) has.1)

scan_shift : (size : ℕ) (i : RingImage) (e : Era) (p x n prev : ℕ) (rs : List Record) → block size p ≡ block size x → Scan size i e p n prev rs → Scan size i e x n prev rs
scan_shift size i e p x n prev [] same stops = subst (λ (b : ℕ). ScanStops e n prev (i b)) same stops
scan_shift size i e p x n prev (r ∷ rs) same scan = (
  subst (λ (b : ℕ). Takes e n prev (i b) r) same scan.0,
  body_shift size i (suc p) (suc x) r.body (block_suc size p x same) scan.1,
  scan_shift size i e (p + width r) (x + width r) (suc n) r.incarnation rs (block_shift size p x (width r) same) scan.2,
)

-- calls that write the ring alone
abbrev RingActs : List Act → Type 0
RingActs [] = Unit {0}
RingActs (Write b v ∷ rest) = (2 ≤ b) × RingActs rest
RingActs (Flush ∷ rest) = RingActs rest

ring_fronts : (size p : ℕ) (ss : List Record) → RingActs (fronts_of size p ss)
ring_fronts size p [] = tt
ring_fronts size p (s ∷ ss) = (omega arith, ring_fronts size (p + width s) ss)

ring_bodies : (size p : ℕ) (bs : List (List ℕ)) → RingActs (body_acts size p bs)
ring_bodies size p [] = tt
ring_bodies size p (b ∷ bs) = (omega arith, ring_bodies size (suc p) bs)

heads_run : (u : Cells) (a o : ℕ) (h : Header) (rest : List Act) → RingActs rest → Heads u a o h → Heads (run_all u rest) a o h
heads_run u a o h [] ring heads = heads
heads_run u a o h (Write b v ∷ rest) ring heads = heads_run (write u b v) a o h rest ring.1 (heads_ring u a o h b v ring.0 heads)
heads_run u a o h (Flush ∷ rest) ring heads = heads_run (flush u) a o h rest ring (heads_flush u a o h heads)

counted : (P Q : RingImage → Type 0) (a o : ℕ) (h : Header) → ((i : RingImage) → IsGreaterTop i h → P i → Q i) → (u : Cells) (rest : List Act) → RingActs rest → Heads u a o h → Always (Leaves P) u rest → Always (Leaves Q) u rest
counted P Q a o h to u [] ring heads all = λ i img. to i (counts u a o h heads i img) (all i img)
counted P Q a o h to u (Write b v ∷ rest) ring heads all = ((λ i img. to i (counts u a o h heads i img) (all.0 i img)), counted P Q a o h to (write u b v) rest ring.1 (heads_ring u a o h b v ring.0 heads) all.1)
counted P Q a o h to u (Flush ∷ rest) ring heads all = ((λ i img. to i (counts u a o h heads i img) (all.0 i img)), counted P Q a o h to (flush u) rest ring (heads_flush u a o h heads) all.1)

pub in_append : (r : Record) (rs ss : List Record) → In r (rs ++ ss) → In r rs ⊎ In r ss
in_append r [] ss is = inr is
in_append r (x ∷ rs) ss (inl here) = inl (inl here)
in_append r (x ∷ rs) ss (inr there) = ⊎_elim (λ a. inl (inr a)) (λ b. inr b) (in_append r rs ss there)

pub in_behind : (r : Record) (rs ss : List Record) → In r ss → In r (rs ++ ss)
in_behind r [] ss is = is
in_behind r (x ∷ rs) ss is = inr (in_behind r rs ss is)

pub now_in : (e : Era) (r : Record) (ss : List Record) → Now e ss → In r ss → r.incarnation ≡ e.incarnation
now_in e r [] now is = absurd is
now_in e r (x ∷ ss) now (inl here) = subst (λ (y : Record). y.incarnation ≡ e.incarnation) (sym here) now.0
now_in e r (x ∷ ss) now (inr there) = now_in e r ss now.1 there

sure_behind : (size : ℕ) (u : Cells) (p : ℕ) (rs ss : List Record) → SureAll size u p (rs ++ ss) → SureAll size u (after p rs) ss
sure_behind size u p [] ss sure = sure
sure_behind size u p (r ∷ rs) ss sure = sure_behind size u (p + width r) rs ss sure.2

fits_front : (e : Era) (n prev : ℕ) (rs ss : List Record) → RecordsFit e n prev (rs ++ ss) → RecordsFit e n prev rs
fits_front e n prev [] ss fits = tt
fits_front e n prev (r ∷ rs) ss fits = (fits.0, fits.1, fits.2, fits.3, fits.4, fits_front e (suc n) r.incarnation rs ss fits.5)

-- the log from a later record on
ready_drop : (size : ℕ) (u : Cells) (e : Era) (p n floor : ℕ) (gone kept staged : List Record) → ReadyRing size u e p n floor (gone ++ kept) staged → ReadyRing size u e (after p gone) (next n gone) (last floor gone) kept staged
ready_drop size u e p n floor gone kept staged r =
    let places = after_append p gone kept in
    let numbers = next_append n gone kept in
    let lasts = last_append floor gone kept in
    let room : after (after (after p gone) kept) staged ≤ p + size = subst (λ (x : ℕ). after x staged ≤ p + size) places r.room in
    record {
      room = omega (arith, room, after_le p gone);
      tame = subst (λ (x : ℕ). Tame u e x) numbers r.tame;
      sure = sure_behind size u p gone kept r.sure;
      fits = fits_behind e n floor gone kept r.fits;
      floor_below = last_le e n floor gone (fits_front e n floor gone kept r.fits) r.floor_below;
      end = rw (← places, ← numbers, ← lasts) r.end;
      staged_fits = rw (← numbers, ← lasts) r.staged_fits;
      now = r.now;
      bodies = rw (← places) r.bodies;
    }

pub ready_like : (size : ℕ) (u : Cells) (e new_era : Era) (p n new_number floor new_floor : ℕ) (held staged : List Record) → new_era ≡ e → new_number ≡ n → new_floor ≡ floor → ReadyRing size u e p n floor held staged → ReadyRing size u new_era p new_number new_floor held staged
ready_like size u e new_era p n new_number floor new_floor held staged same_era same_number same_floor r =
    subst (λ (x : Era). ReadyRing size u x p new_number new_floor held staged) (sym same_era) (subst (λ (x : ℕ). ReadyRing size u e p x new_floor held staged) (sym same_number) (subst (λ (x : ℕ). ReadyRing size u e p n x held staged) (sym same_floor) r))

pub tame_top : (e : Era) (n : ℕ) (g : Header) → TameValue e n (Top g)
tame_top e n g = record { whole = λ is. cc; incarnation = λ r is. absurd cc; run = λ r is. absurd cc; fresh = λ r is i k. absurd cc }

-- the headers are flushed behind them
pub fronts_loose : (size : ℕ) (u : Cells) (p : ℕ) (ss : List Record) → (run_all u (fronts_of size p ss)).loose ≡ []
fronts_loose size u p [] = refl
fronts_loose size u p (s ∷ ss) = fronts_loose size (write u (block size p) (Front s.head)) (p + width s) ss

-- what was staged is staged still
never_none : (ss : List Record) (r : Record) → ss ++ r ∷ [] ≡ [] → ⊥
never_none [] r is = cc
never_none (s ∷ ss) r is = cc

module _ (size : ℕ) (s : State) (log : IsLog size s) where
  abbrev Finds : RingImage → Type 0
  Finds i = (k : ℕ) × Scan size i (era_of s.header) s.base s.header.low s.header.floor (s.held ++ take k s.staged) × Bounded i (era_of s.header)

  room_is : total s.held + total s.staged ≤ size
  room_is = omega (arith, log.ready.room, after_is (after s.base s.held) s.staged, after_is s.base s.held)

  -- the old header counts
  old : (i : RingImage) → IsGreaterTop i s.header → Finds i → (k : ℕ) × Recovers size i s.header (s.held ++ take k s.staged)
  old i count finds = (
    finds.0,
    record {
      starts = record { counts = count; scan = scan_shift size i (era_of s.header) s.base s.header.place s.header.low s.header.floor (s.held ++ take finds.0 s.staged) log.place finds.1 };
      bounded = finds.2;
      room = omega (arith, room_is, total_append s.held (take finds.0 s.staged), total_take finds.0 s.staged);
      floor_below = log.ready.floor_below;
    },
  )

  stage_safe : (r : Record) → MayStage size s r → Always (Leaves (Found size s (Stage r))) s.unit (acts_of size s (Stage r)) × IsLog size (behind_call size s (Stage r))
  stage_safe r may =
      let all = staged_one size (era_of s.header) s.base s.header.low s.header.floor s.held s.staged s.unit r
      (omega (arith, may.room, after_is (after s.base s.held) s.staged, after_is s.base s.held)) may.number may.run (record { line = may.line; genuine = may.genuine }) may.incarnation
      (last_le (era_of s.header) (next s.header.low s.held) (last s.header.floor s.held) s.staged log.ready.staged_fits (last_le (era_of s.header) s.header.low s.header.floor s.held log.ready.fits log.ready.floor_below)) log.ready in
      let ring = ring_bodies size (suc (after (after s.base s.held) s.staged)) r.body in (
        counted Finds (Found size s (Stage r)) s.here s.other s.header (λ i count finds. inl (old i count finds)) s.unit (acts_of size s (Stage r)) ring log.heads all.0,
        record { ready = all.1; heads = heads_run s.unit s.here s.other s.header (acts_of size s (Stage r)) ring log.heads; place = log.place; origin = log.origin; still = λ none. absurd (never_none s.staged r none) },
      )

  seal_safe : Always (Leaves (Found size s Seal)) s.unit (acts_of size s Seal) × IsLog size (behind_call size s Seal)
  seal_safe =
      let all = sealed size s.unit (era_of s.header) s.base s.header.low s.header.floor s.held s.staged log.ready in
      let ring = ring_fronts size (after s.base s.held) s.staged in (
        counted Finds (Found size s Seal) s.here s.other s.header (λ i count finds. inl (old i count finds)) s.unit (acts_of size s Seal) ring log.heads all.0,
        record {
          ready = all.1;
          heads = heads_run s.unit s.here s.other s.header (acts_of size s Seal) ring log.heads;
          place = log.place;
          origin = λ r is. ⊎_elim (log.origin r) (λ new. inr (now_in (era_of s.header) r s.staged log.ready.now new)) (in_append r s.held s.staged is);
          still = λ none. fronts_loose size (flush s.unit) (after s.base s.held) s.staged;
        },
      )

  -- the three units of a header write, and what counts in their images
  ready1 : (g : Header) → ReadyRing size (write s.unit s.other (Top g)) (era_of s.header) s.base s.header.low s.header.floor s.held s.staged
  ready1 g = ready_top size s.unit (era_of s.header) s.base s.header.low s.header.floor s.held s.staged s.other (Top g) (tame_top (era_of s.header) (next s.header.low s.held) g) (slots_low s.here s.other log.heads.slots).1 log.ready

  ready2 : (g : Header) → ReadyRing size (run_all s.unit (head_acts s.other g)) (era_of s.header) s.base s.header.low s.header.floor s.held s.staged
  ready2 g = ready_flush size (write s.unit s.other (Top g)) (era_of s.header) s.base s.header.low s.header.floor s.held s.staged (ready1 g)

  header_safe : (g : Header) (P : RingImage → Type 0) → s.header.stamp < g.stamp → ((i : RingImage) → IsGreaterTop i g → Finds i → P i)
      → Always (Leaves (λ i. ((k : ℕ) × Recovers size i s.header (s.held ++ take k s.staged)) ⊎ P i)) s.unit (head_acts s.other g)
  header_safe g P less new =
      let finds0 : (i : RingImage) → IsImage s.unit i → Finds i = ready_prefix size s.unit (era_of s.header) s.base s.header.low s.header.floor s.held s.staged log.ready in
      let finds1 : (i : RingImage) → IsImage (write s.unit s.other (Top g)) i → Finds i = ready_prefix size (write s.unit s.other (Top g)) (era_of s.header) s.base s.header.low s.header.floor s.held s.staged (ready1 g) in
      let finds2 : (i : RingImage) → IsImage (run_all s.unit (head_acts s.other g)) i → Finds i = ready_prefix size (run_all s.unit (head_acts s.other g)) (era_of s.header) s.base s.header.low s.header.floor s.held s.staged (ready2 g) in (
        (λ i img. inl (old i (counts s.unit s.here s.other s.header log.heads i img) (finds0 i img))),
        (
          (λ i img. ⊎_elim (λ count. inl (old i count (finds1 i img))) (λ count. inr (new i count (finds1 i img))) (counts_either s.unit s.here s.other s.header g log.heads less i img)),
          (λ i img. inr (new i (counts (run_all s.unit (head_acts s.other g)) s.other s.here g (heads_written s.unit s.here s.other s.header g log.heads less) i img) (finds2 i img))),
        ),
      )

  save_safe : (g : Header) (gone kept : List Record) → MaySave size s g gone kept → Always (Leaves (Found size s (Save g gone kept))) s.unit (acts_of size s (Save g gone kept)) × IsLog size (behind_call size s (Save g gone kept))
  save_safe g gone kept may =
      let h = s.header in
      let scanned : (i : RingImage) (k : ℕ) → Scan size i (era_of h) s.base h.low h.floor (s.held ++ take k s.staged) → Scan size i (era_of g) g.place g.low g.floor (kept ++ take k s.staged) =
      λ i k scan.
      let whole : s.held ++ take k s.staged ≡ gone ++ (kept ++ take k s.staged) = ap (λ (l : List Record). l ++ take k s.staged) may.split ∙ append_assoc gone kept (take k s.staged) in
      let rest = from_later size i (era_of h) s.base h.low h.floor gone (kept ++ take k s.staged) (subst (λ (l : List Record). Scan size i (era_of h) s.base h.low h.floor l) whole scan) in
      let moved = scan_shift size i (era_of h) (after s.base gone) g.place (next h.low gone) (last h.floor gone) (kept ++ take k s.staged) may.place rest in
      let numbered = subst (λ (x : ℕ). Scan size i (era_of h) g.place x g.floor (kept ++ take k s.staged)) (sym may.low) (subst (λ (x : ℕ). Scan size i (era_of h) g.place (next h.low gone) x (kept ++ take k s.staged)) (sym may.floor) moved) in
      subst (λ (x : Era). Scan size i x g.place g.low g.floor (kept ++ take k s.staged)) (sym may.era) numbered in
      let rooms : total gone + total kept + total s.staged ≤ size = omega (arith, room_is, ap total may.split, total_append gone kept) in
      let dropped : ReadyRing size (run_all s.unit (head_acts s.other g)) (era_of h) (after s.base gone) (next h.low gone) (last h.floor gone) kept s.staged = ready_drop size (run_all s.unit (head_acts s.other g)) (era_of h) s.base h.low h.floor gone kept s.staged (subst (λ (l : List Record). ReadyRing size (run_all s.unit (head_acts s.other g)) (era_of h) s.base h.low h.floor l s.staged) may.split (ready2 g)) in
      let final : ReadyRing size (run_all s.unit (head_acts s.other g)) (era_of g) (after s.base gone) g.low g.floor kept s.staged =
      ready_like size (run_all s.unit (head_acts s.other g)) (era_of h) (era_of g) (after s.base gone) (next h.low gone) g.low (last h.floor gone) g.floor kept s.staged may.era may.low may.floor dropped in (
        header_safe g (New size s (Save g gone kept)) may.stamp (λ i count finds. (
          finds.0,
          record {
            starts = record { counts = count; scan = scanned i finds.0 finds.1 };
            bounded = subst (λ (x : Era). Bounded i x) (sym may.era) finds.2;
            room = omega (arith, rooms, total_append kept (take finds.0 s.staged), total_take finds.0 s.staged);
            floor_below = final.floor_below;
          },
        )),
        record {
          ready = final;
          heads = heads_written s.unit s.here s.other s.header g log.heads may.stamp;
          place = may.place;
          origin = λ r is. subst (λ (x : Era). In r s.found ⊎ (r.incarnation ≡ x.incarnation)) (sym may.era) (log.origin r (subst (λ (l : List Record). In r l) (sym may.split) (in_behind r gone kept is)));
          still = λ none. refl;
        },
      )

  restart_safe : (g : Header) → MayRestart s g → Always (Leaves (Found size s (Restart g))) s.unit (acts_of size s (Restart g)) × IsLog size (behind_call size s (Restart g))
  restart_safe g may =
      let h = s.header in
      let u2 = run_all s.unit (head_acts s.other g) in
      let raised : (i : RingImage) → Bounded i (era_of h) → Bounded i (era_of g) = λ i b. record {
        whole = b.whole;
        incarnation = λ c r is. omega (arith, b.incarnation c r is, may.incarnation);
        run = λ c r is. omega (arith, b.run c r is, may.run);
      } in
      let stops : (i : RingImage) → Bounded i (era_of h) → ScanStops (era_of g) g.low g.floor (i (block size g.place)) = λ i b. (
        (λ r t. omega (arith, b.run (block size g.place) r t.is, t.run, may.run)),
        b.whole (block size g.place),
      ) in (
        header_safe g (New size s (Restart g)) may.stamp (λ i count finds. record {
          starts = record { counts = count; scan = stops i finds.2 };
          bounded = raised i finds.2;
          room = omega arith;
          floor_below = omega (arith, may.floor, may.incarnation);
        }),
        record {
          ready = record {
            room = omega arith;
            tame = λ b v is.
                let t = (ready2 g).tame b v is in record {
                  whole = t.whole;
                  incarnation = λ r at. omega (arith, t.incarnation r at, may.incarnation);
                  run = λ r at. omega (arith, t.run r at, may.run);
                  fresh = λ r at inc run. absurd (omega (arith, t.run r at, may.run, run));
                };
            sure = tt;
            fits = tt;
            floor_below = omega (arith, may.floor, may.incarnation);
            end = inl (may.floor ∙ sym may.incarnation);
            staged_fits = tt;
            now = tt;
            bodies = tt;
          };
          heads = heads_written s.unit s.here s.other s.header g log.heads may.stamp;
          place = refl;
          origin = λ r is. absurd is;
          still = λ none. refl;
        },
      )

pub call_safe : CallIsSafe
call_safe size s (Stage r) log may = stage_safe size s log r may
call_safe size s Seal log may = seal_safe size s log
call_safe size s (Save g gone kept) log may = save_safe size s log g gone kept may
call_safe size s (Restart g) log may = restart_safe size s log g may
