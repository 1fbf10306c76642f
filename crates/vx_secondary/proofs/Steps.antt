-- Steps of a receiver's group, one behind another.
use Rattle.std.proofs.Common.{◌≡◌, ◌∙◌, ◌⊎◌, ⊎_elim, ℕ, ◌+◌, ◌<◌, ◌≤◌, List, [], ◌++◌, length, take, drop, None, refl, sym, ap, subst, arith, append-nil, append_assoc, length-append, length-drop, drop-drop}
use Rattle.std.proofs.lemmas.Bool.{cases_lt}
use Rattle.std.proofs.lemmas.List.{drop-append-le, take-append-le, take_all}
use Rattle.std.proofs.Math.Seq.{take-append-add}
use Rattle.vx_model.specs.Content.{Content, Write, fold_writes}
use Rattle.vx_model.specs.declared.state.State.{State as SiteState}
use Rattle.vx_model.specs.declared.units.Units.{Units}
use Rattle.vx_model.proofs.Contents.{fold_append}
use Rattle.vx_disk.specs.Moves.{Blocks, Moves, Run, Says}
use Rattle.vx_disk.specs.Shelf.{Meaning, Image}
use Rattle.vx_disk.proofs.Moving.{goes_on, still, wider}
use Rattle.vx_rvg.specs.Holdings.{Holding}
use Rattle.vx_rvg.specs.Stands.{FoundGroup, Stands}
use Rattle.vx_rvg.specs.Views.{Core, unit_of}
use Rattle.vx_secondary.specs.Logging.{Grows, SameGroup, Own, Logging, Step, LogsAll}

-- ---- lists

-- ---- holdings

pub grows_self : (h : Holding) → Grows [] h h
grows_self h = record { gone = 0; few = omega arith; writes = sym (append-nil h.writes); low = omega arith; content = refl; maps = refl }

pub grows_then : (xs ys : List Write) (h k l : Holding) → Grows xs h k → Grows ys k l → Grows (xs ++ ys) h l
grows_then xs ys h k l one two = record {
  gone = one.gone + two.gone;
  few = omega (
    arith,
    one.few,
    two.few,
    ap (λ (ws : List Write). length (ws ++ ys)) one.writes,
    length-append (drop one.gone (h.writes ++ xs)) ys,
    length-drop one.gone (h.writes ++ xs),
    length-append h.writes (xs ++ ys),
    length-append xs ys,
    length-append h.writes xs,
  );
  writes = two.writes
      ∙ ap (λ (ws : List Write). drop two.gone (ws ++ ys)) one.writes
      ∙ ap (λ (ws : List Write). drop two.gone ws) (sym (drop-append-le one.gone (h.writes ++ xs) ys one.few))
      ∙ drop-drop two.gone one.gone ((h.writes ++ xs) ++ ys)
      ∙ ap (λ (ws : List Write). drop (one.gone + two.gone) ws) (append_assoc h.writes xs ys);
  low = omega (arith, one.low, two.low);
  content = two.content ∙ ap (λ (c : Content). fold_writes c ys) one.content ∙ sym (fold_append h.content xs ys);
  maps = two.maps ∙ one.maps;
}

-- ---- groups

pub same_self : (c : Core) → SameGroup c c
same_self c = record { units = refl; ring = refl; state = refl; session = refl; stamp = omega arith }

pub same_then : (c d e : Core) → SameGroup c d → SameGroup d e → SameGroup c e
same_then c d e one two = record {
  units = two.units ∙ one.units;
  ring = two.ring ∙ one.ring;
  state = two.state ∙ one.state;
  session = two.session ∙ one.session;
  stamp = omega (arith, one.stamp, two.stamp);
}

pub own_same : (c d : Core) → SameGroup c d → (u b : ℕ) → Own d u b → Own c u b
own_same c d same u b own =
    subst (λ (units : Units). Run units.srl 0 (c.log.ring + 2) u b ⊎ ((v : ℕ) × (v < length units.vols) × (u ≡ unit_of units.vols v)) → Own c u b) (sym same.units)
    (λ here. record { here = here })
    (subst (λ (ring : ℕ). Run d.units.srl 0 (ring + 2) u b ⊎ ((v : ℕ) × (v < length d.units.vols) × (u ≡ unit_of d.units.vols v))) same.ring own.here)

found_later : (u : Units) (r : ℕ) (st : SiteState) (se a b : ℕ) (i : Image) (k : Holding) → a ≤ b → FoundGroup u r st se a i k → FoundGroup u r st se b i k
found_later u r st se a b i k le f = record {
  header = f.header;
  records = f.records;
  recovers = f.recovers;
  state_is = f.state_is;
  session_is = f.session_is;
  stamp_most = omega (arith, le, f.stamp_most);
  some = f.some;
  low_is = f.low_is;
  writes_are = f.writes_are;
  place_is = f.place_is;
  content = f.content;
  maps = f.maps;
}

-- what is found of a later group is found of the first, with a later stamp
pub found_same : (c d : Core) (a stamp : ℕ) (i : Image) (k : Holding) → SameGroup c d → a ≤ stamp → FoundGroup d.units d.log.ring d.log.header.state d.log.header.incarnation a i k
    → FoundGroup c.units c.log.ring c.log.header.state c.log.header.incarnation stamp i k
found_same c d a stamp i k same le f =
    found_later c.units c.log.ring c.log.header.state c.log.header.incarnation a stamp i k le
    (subst (λ (se : ℕ). FoundGroup c.units c.log.ring c.log.header.state se a i k) same.session
    (subst (λ (st : SiteState). FoundGroup c.units c.log.ring st d.log.header.incarnation a i k) same.state
    (subst (λ (r : ℕ). FoundGroup c.units r d.log.header.state d.log.header.incarnation a i k) same.ring
    (subst (λ (u : Units). FoundGroup u d.log.ring d.log.header.state d.log.header.incarnation a i k) same.units f))))

-- ---- images

-- a first part of these is one of more
take_more : (n : ℕ) (xs ys : List Write) → (k : ℕ) × (take n xs ≡ take k (xs ++ ys))
take_more n xs ys =
    ⊎_elim
    (λ (lt : n < length xs). (n, sym (take-append-le n xs ys (omega (arith, lt)))))
    (λ (ge : length xs ≤ n). (length xs + 0, take_all n xs ge ∙ sym (append-nil xs) ∙ sym (take-append-add xs ys 0)))
    (cases_lt n (length xs))

pub logging_more : (c : Core) (xs ys : List Write) (a stamp : ℕ) (m : Meaning) (i : Image) → a ≤ stamp → Logging c xs a m i → Logging c (xs ++ ys) stamp m i
logging_more c xs ys a stamp m i le logging = record {
  each = λ h stands.
      let got = logging.each h stands in
      let part = take_more got.0 xs ys in
      (part.0, (got.1.0, (subst (λ (ws : List Write). Grows ws h got.1.0) part.1 got.1.1.0, found_later c.units c.log.ring c.log.header.state c.log.header.incarnation a stamp i got.1.0 le got.1.1.1)));
}

-- an image of a later step, of which the first is told
pub logging_then : (c d : Core) (xs ys : List Write) (a stamp : ℕ) (m mid : Meaning) (i : Image) → SameGroup c d → a ≤ stamp
    → ((h : Holding) → Stands c h m → (k : Holding) × (Grows xs h k × Stands d k mid)) → Logging d ys a mid i → Logging c (xs ++ ys) stamp m i
logging_then c d xs ys a stamp m mid i same le holds logging = record {
  each = λ h stands.
      let first = holds h stands in
      let got = logging.each first.0 first.1.1 in (
        length xs + got.0,
        (
          got.1.0,
          (
            subst (λ (ws : List Write). Grows ws h got.1.0) (sym (take-append-add xs ys got.0)) (grows_then xs (take got.0 ys) h first.0 got.1.0 first.1.0 got.1.1.0),
            found_same c d a stamp i got.1.0 same le got.1.1.1,
          ),
        ),
      );
}

-- ---- steps

-- the step of a call, of which an image is told by what the group held
pub step_of : (xs : List Write) (c c' : Core) (mine : Blocks) (P : Says) (m m' : Meaning) → SameGroup c c' → Moves mine P m m'
    → ((u b : ℕ) → mine u b → Own c u b) → ((i : Image) → P i → Logging c xs (c'.log.header.stamp + 1) m i) → Step xs c c' m m'
step_of xs c c' mine P m m' same moves within here = record {
  same = same;
  moves = wider mine (Own c) P (Logging c xs (c'.log.header.stamp + 1) m) m m' moves within (λ i beside is. here i is);
}

pub step_self : (xs : List Write) (c : Core) (m : Meaning) → Step xs c c m m
step_self xs c m = record { same = same_self c; moves = still (Own c) (Logging c xs (c.log.header.stamp + 1) m) m }

pub step_more : (xs ys : List Write) (c c' : Core) (m m' : Meaning) → Step xs c c' m m' → Step (xs ++ ys) c c' m m'
step_more xs ys c c' m m' step =
    step_of (xs ++ ys) c c' (Own c) (Logging c xs (c'.log.header.stamp + 1) m) m m' step.same step.moves (λ u b own. own)
    (λ i is. logging_more c xs ys (c'.log.header.stamp + 1) (c'.log.header.stamp + 1) m i (omega arith) is)

pub step_then : (xs ys : List Write) (c d e : Core) (m mid m' : Meaning) → Step xs c d m mid → LogsAll xs c d m mid → Step ys d e mid m' → Step (xs ++ ys) c e m m'
step_then xs ys c d e m mid m' one logs two = record {
  same = same_then c d e one.same two.same;
  moves =
      goes_on (Own c) (Own d) (Logging c (xs ++ ys) (e.log.header.stamp + 1) m) (Logging d ys (e.log.header.stamp + 1) mid) m mid m'
      (wider (Own c) (Own c) (Logging c xs (d.log.header.stamp + 1) m) (Logging c (xs ++ ys) (e.log.header.stamp + 1) m) m mid one.moves (λ u b own. own)
      (λ i beside is. logging_more c xs ys (d.log.header.stamp + 1) (e.log.header.stamp + 1) m i (omega (arith, two.same.stamp)) is))
      two.moves (own_same c d one.same)
      (λ i beside is. logging_then c d xs ys (e.log.header.stamp + 1) (e.log.header.stamp + 1) m mid i one.same (omega arith) logs.holds is);
}

pub logs_self : (c : Core) (m : Meaning) → c.halted ≡ None → LogsAll [] c c m m
logs_self c m running = record { last = omega arith; running = running; holds = λ h stands. (h, (grows_self h, stands)) }

pub logs_then : (xs ys : List Write) (c d e : Core) (m mid m' : Meaning) → LogsAll xs c d m mid → LogsAll ys d e mid m' → LogsAll (xs ++ ys) c e m m'
logs_then xs ys c d e m mid m' one two = record {
  last = omega (arith, one.last, two.last, length-append xs ys);
  running = two.running;
  holds = λ h stands.
      let first = one.holds h stands in
      let next = two.holds first.0 first.1.1 in
      (next.0, (grows_then xs ys h first.0 next.0 first.1.0 next.1.0, next.1.1));
}
