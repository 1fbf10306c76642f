-- A start from what a crash left.
use Rattle.std.proofs.Common.{◌≡◌, ◌⊎◌, inl, inr, ⊎_elim, ℕ, zero, suc, ◌+◌, ◌<◌, List, [], ◌∷◌, ◌++◌, take, refl, sym, ◌∙◌, ap, subst, arith}
use Rattle.std.proofs.lemmas.List.{append-nil}
use Rattle.vx_srlfmt.specs.Kinds.{Kind, Top}
use Rattle.vx_srlfmt.specs.declared.header.Header.{Header}
use Rattle.vx_ringlog.specs.Cells.{Always, RingImage, IsImage, Leaves, May, flush, run_all, still, write}
use Rattle.vx_ringlog.specs.Records.{Era, Record, era_of}
use Rattle.vx_ringlog.specs.Chain.{Bounded, IsGreaterTop, HasBody, Recovers, Scan, ScanStops, Takes, block, width}
use Rattle.vx_ringlog.specs.Ready.{RecordsFit, ReadyRing, SureAll, SureBody, TameValue, after, last, next}
use Rattle.vx_ringlog.specs.Acts.{head_acts}
use Rattle.vx_ringlog.specs.Heads.{Heads, HeaderStands}
use Rattle.vx_ringlog.specs.Logs.{Found, IsLog, MaySave, Save, State}
use Rattle.vx_ringlog.specs.Starting.{Raises, Repeats, SameLog, started, StartIsSafe, StartIsStill}
use Rattle.vx_ringlog.proofs.CellLemmas.{always_append, always_more, flush_may, may_write}
use Rattle.vx_ringlog.proofs.Staging.{ready_flush, ready_top}
use Rattle.vx_ringlog.proofs.HeadLemmas.{counts, counts_either, heads_written, slots_low}
use Rattle.vx_ringlog.proofs.Calls.{after_is, call_safe, ready_like, tame_top}

pub may_still : (i : RingImage) (b : ℕ) (v : Kind) → May (still i) b v → v ≡ i b
may_still i b v (inl is) = is
may_still i b v (inr none) = absurd none

-- what a scan found is sure
sure_found_body : (size : ℕ) (i : RingImage) (p : ℕ) (bs : List (List ℕ)) → HasBody size i p bs → SureBody size (still i) p bs
sure_found_body size i p [] has = tt
sure_found_body size i p (b ∷ bs) has = ((λ w may. may_still i (block size p) w may ∙ has.0), sure_found_body size i (suc p) bs has.1)

sure_found : (size : ℕ) (i : RingImage) (e : Era) (p n prev : ℕ) (rs : List Record) → Scan size i e p n prev rs → SureAll size (still i) p rs
sure_found size i e p n prev [] scan = tt
sure_found size i e p n prev (r ∷ rs) scan = (
  (λ w may. may_still i (block size p) w may ∙ scan.0.0.is),
  sure_found_body size i (suc p) r.body scan.1,
  sure_found size i e (p + width r) (suc n) r.incarnation rs scan.2,
)

stops_found : (size : ℕ) (i : RingImage) (e : Era) (p n prev : ℕ) (rs : List Record) → Scan size i e p n prev rs → ScanStops e (next n rs) (last prev rs) (i (block size (after p rs)))
stops_found size i e p n prev [] scan = scan
stops_found size i e p n prev (r ∷ rs) scan = stops_found size i e (p + width r) (suc n) r.incarnation rs scan.2

scan_same : (size : ℕ) (i j : RingImage) (e : Era) → ((p : ℕ) → j (block size p) ≡ i (block size p)) → (p n prev : ℕ) (rs : List Record) → Scan size i e p n prev rs → Scan size j e p n prev rs
scan_same size i j e same p n prev [] scan = subst (λ (v : Kind). ScanStops e n prev v) (sym (same p)) scan
scan_same size i j e same p n prev (r ∷ rs) scan = (
  subst (λ (v : Kind). Takes e n prev v r) (sym (same p)) scan.0,
  body (suc p) r.body scan.1,
  scan_same size i j e same (p + width r) (suc n) r.incarnation rs scan.2,
)
  where
    body : (x : ℕ) (bs : List (List ℕ)) → HasBody size i x bs → HasBody size j x bs
    body x [] has = tt
    body x (b ∷ bs) has = (same x ∙ has.0, body (suc x) bs has.1)

module _ (size : ℕ) (i : RingImage) (h g : Header) (raises : Raises h g) (low : Bounded i (era_of h)) where
  stops_up : (n prev b : ℕ) → ScanStops (era_of h) n prev (i b) → ScanStops (era_of g) n prev (i b)
  stops_up n prev b stops = (
    (λ r t. stops.0 r (record {
      is = t.is;
      number = t.number;
      run = t.run ∙ raises.run;
      line = t.line ∙ raises.line;
      not_below = t.not_below;
      not_above = low.incarnation b r t.is;
    })),
    stops.1,
  )

  takes_up : (n prev : ℕ) (v : Kind) (r : Record) → Takes (era_of h) n prev v r → Takes (era_of g) n prev v r
  takes_up n prev v r (t, genuine) = (
    record {
      is = t.is;
      number = t.number;
      run = t.run ∙ sym raises.run;
      line = t.line ∙ sym raises.line;
      not_below = t.not_below;
      not_above = omega (arith, t.not_above, raises.incarnation);
    },
    genuine,
  )

  scan_up : (p n prev : ℕ) (rs : List Record) → Scan size i (era_of h) p n prev rs → Scan size i (era_of g) p n prev rs
  scan_up p n prev [] scan = stops_up n prev (block size p) scan
  scan_up p n prev (r ∷ rs) scan = (takes_up n prev (i (block size p)) r scan.0, scan.1, scan_up (p + width r) (suc n) r.incarnation rs scan.2)

  fits_up : (p n prev : ℕ) (rs : List Record) → Scan size i (era_of h) p n prev rs → RecordsFit (era_of g) n prev rs
  fits_up p n prev [] scan = tt
  fits_up p n prev (r ∷ rs) scan =
      let both = takes_up n prev (i (block size p)) r scan.0 in let t = both.0 in (t.number, t.run, record { line = t.line; genuine = both.1 }, t.not_below, t.not_above, fits_up (p + width r) (suc n) r.incarnation rs scan.2)

  ready_found : (rs : List Record) → Recovers size i h rs → ReadyRing size (still i) (era_of g) h.place h.low h.floor rs []
  ready_found rs rec = record {
    room = omega (arith, rec.room, after_is h.place rs);
    tame = λ b v may. subst (λ (w : Kind). TameValue (era_of g) (next h.low rs) w) (sym (may_still i b v may)) (record {
      whole = low.whole b;
      incarnation = λ r is. omega (arith, low.incarnation b r is, raises.incarnation);
      run = λ r is. omega (arith, low.run b r is, raises.run);
      fresh = λ r is inc run. absurd (omega (arith, low.incarnation b r is, raises.incarnation, inc));
    });
    sure = sure_found size i (era_of h) h.place h.low h.floor rs rec.starts.scan;
    fits = fits_up h.place h.low h.floor rs rec.starts.scan;
    floor_below = omega (arith, rec.floor_below, raises.incarnation);
    end = inr (λ v may. subst (λ (w : Kind). ScanStops (era_of g) (next h.low rs) (last h.floor rs) w) (sym (may_still i _ v may)) (stops_up (next h.low rs) (last h.floor rs) (block size (after h.place rs)) (stops_found size i (era_of h) h.place h.low h.floor rs rec.starts.scan)));
    staged_fits = tt;
    now = tt;
    bodies = tt;
  }

-- the ring of each image while the header is written
ring_same : (size : ℕ) (i j : RingImage) (o : ℕ) (g : Header) → o < 2 → IsImage (write (still i) o (Top g)) j → (p : ℕ) → j (block size p) ≡ i (block size p)
ring_same size i j o g low img p =
    ⊎_elim (may_still i (block size p) (j (block size p))) (λ (new : (o ≡ block size p) × (Top g ≡ j (block size p))). absurd (omega arith)) (may_write (still i) o (Top g) (block size p) (j (block size p)) (img (block size p)))

bounded_again : (i j : RingImage) (o : ℕ) (g : Header) (e : Era) → Bounded i e → IsImage (write (still i) o (Top g)) j → Bounded j e
bounded_again i j o g e low img = record {
  whole = λ b is. ⊎_elim (λ old. low.whole b (sym (may_still i b (j b) old) ∙ is)) (λ (new : (o ≡ b) × (Top g ≡ j b)). cc (new.1, is)) (may_write (still i) o (Top g) b (j b) (img b));
  incarnation = λ b r is. ⊎_elim (λ old. low.incarnation b r (sym (may_still i b (j b) old) ∙ is)) (λ (new : (o ≡ b) × (Top g ≡ j b)). absurd (cc (new.1, is))) (may_write (still i) o (Top g) b (j b) (img b));
  run = λ b r is. ⊎_elim (λ old. low.run b r (sym (may_still i b (j b) old) ∙ is)) (λ (new : (o ≡ b) × (Top g ≡ j b)). absurd (cc (new.1, is))) (may_write (still i) o (Top g) b (j b) (img b));
}

-- the log between the two headers of a start
abbrev raised : RingImage → ℕ → ℕ → Header → List Record → State
raised i here other g rs = record { unit = run_all (still i) (head_acts other g); here = other; other = here; header = g; base = g.place; held = rs; staged = []; found = rs }

-- the first header of a start
first_header : (size : ℕ) (i : RingImage) (here other : ℕ) (h g : Header) (rs : List Record) → HeaderStands i here other h → Recovers size i h rs → Raises h g
    → Always (Leaves (λ j. Recovers size j h rs ⊎ Recovers size j g rs)) (still i) (head_acts other g) × IsLog size (raised i here other g rs)
first_header size i here other h g rs stands rec raises =
    let heads : Heads (still i) here other h = record { slots = stands.slots; sure = λ w may. may_still i here w may ∙ stands.top; other = λ f may. stands.less f (sym (may_still i other (Top f) may)) } in
    let low = (slots_low here other stands.slots).1 in
    let u1 = write (still i) other (Top g) in
    let u2 = flush u1 in
    let again : (j : RingImage) → IsImage u1 j → IsGreaterTop j h → Recovers size j h rs = λ j img count. record {
      starts = record { counts = count; scan = scan_same size i j (era_of h) (ring_same size i j other g low img) h.place h.low h.floor rs rec.starts.scan };
      bounded = bounded_again i j other g (era_of h) rec.bounded img;
      room = rec.room;
      floor_below = rec.floor_below;
    } in
    let new : (j : RingImage) → IsImage u1 j → IsGreaterTop j g → Recovers size j g rs = λ j img count.
    let b = bounded_again i j other g (era_of h) rec.bounded img in
    let up = scan_up size i h g raises rec.bounded h.place h.low h.floor rs rec.starts.scan in
    let there = scan_same size i j (era_of g) (ring_same size i j other g low img) h.place h.low h.floor rs up in record {
      starts = record {
        counts = count;
        scan = subst (λ (x : ℕ). Scan size j (era_of g) x g.low g.floor rs) (sym raises.place) (subst (λ (x : ℕ). Scan size j (era_of g) h.place x g.floor rs) (sym raises.low) (subst (λ (x : ℕ). Scan size j (era_of g) h.place h.low x rs) (sym raises.floor) there));
      };
      bounded = record { whole = b.whole; incarnation = λ c r is. omega (arith, b.incarnation c r is, raises.incarnation); run = λ c r is. omega (arith, b.run c r is, raises.run) };
      room = rec.room;
      floor_below = omega (arith, rec.floor_below, raises.floor, raises.incarnation);
    } in
    let r0 = ready_found size i h g raises rec.bounded rs rec in
    let r1 = ready_top size (still i) (era_of g) h.place h.low h.floor rs [] other (Top g) (tame_top (era_of g) (next h.low rs) g) low r0 in
    let r2 = ready_flush size u1 (era_of g) h.place h.low h.floor rs [] r1 in
    let r3 : ReadyRing size u2 (era_of g) h.place g.low g.floor rs [] = ready_like size u2 (era_of g) (era_of g) h.place h.low g.low h.floor g.floor rs [] refl raises.low raises.floor r2 in
    let heads2 = heads_written (still i) here other h g heads raises.stamp in (
      (
        (λ j img. let same : (b : ℕ) → j b ≡ i b = λ b. may_still i b (j b) (img b) in inl (again j (λ b. inl (same b)) (counts (still i) here other h heads j img))),
        (
          (λ j img. ⊎_elim (λ count. inl (again j img count)) (λ count. inr (new j img count)) (counts_either (still i) here other h g heads raises.stamp j img)),
          (λ j img. inr (new j (λ b. flush_may u1 b (j b) (img b)) (counts u2 other here g heads2 j img))),
        ),
      ),
      record {
        ready = subst (λ (x : ℕ). ReadyRing size u2 (era_of g) x g.low g.floor rs []) (sym raises.place) r3;
        heads = heads2;
        place = refl;
        origin = λ r is. inl is;
        still = λ none. refl;
      },
    )

nothing_taken : (k : ℕ) (rs : List Record) → rs ++ take k [] ≡ rs
nothing_taken zero rs = append-nil rs
nothing_taken (suc k) rs = append-nil rs

may_repeat : (size : ℕ) (i : RingImage) (here other : ℕ) (g again : Header) (rs : List Record) → Repeats g again → MaySave size (raised i here other g rs) again [] rs
may_repeat size i here other g again rs repeats = record {
  split = refl;
  stamp = repeats.stamp;
  era = repeats.era;
  low = repeats.low;
  place = ap (λ (x : ℕ). block size x) (sym repeats.place);
  floor = repeats.floor;
}

same_log : (size : ℕ) (i : RingImage) (here other : ℕ) (h g again : Header) (rs : List Record) (j : RingImage) → Found size (raised i here other g rs) (Save again [] rs) j → SameLog size h g again rs j
same_log size i here other h g again rs j (inl old) = inr (inl (subst (λ (l : List Record). Recovers size j g l) (nothing_taken old.0 rs) old.1))
same_log size i here other h g again rs j (inr new) = inr (inr (subst (λ (l : List Record). Recovers size j again l) (nothing_taken new.0 rs) new.1))

first_log : (size : ℕ) (h g again : Header) (rs : List Record) (j : RingImage) → Recovers size j h rs ⊎ Recovers size j g rs → SameLog size h g again rs j
first_log size h g again rs j (inl old) = inl old
first_log size h g again rs j (inr new) = inr (inl new)

pub start_still : StartIsStill
start_still i here other g again rs = refl

pub start_safe : StartIsSafe
start_safe size i here other h g again rs may rec =
    let first = first_header size i here other h g rs may.stands rec may.raises in
    let second = call_safe size (raised i here other g rs) (Save again [] rs) first.1 (may_repeat size i here other g again rs may.repeats) in
    let old = always_more (λ j. Recovers size j h rs ⊎ Recovers size j g rs) (SameLog size h g again rs) (first_log size h g again rs) (still i) (head_acts other g) first.0 in
    let new = always_more (Found size (raised i here other g rs) (Save again [] rs)) (SameLog size h g again rs) (same_log size i here other h g again rs) (run_all (still i) (head_acts other g)) (head_acts here again) second.0 in (
      always_append (Leaves (SameLog size h g again rs)) (still i) (head_acts other g) (head_acts here again) old new,
      subst (λ (x : ℕ). IsLog size (record (started i here other g again rs) { base = x })) (sym may.repeats.place) second.1,
    )
