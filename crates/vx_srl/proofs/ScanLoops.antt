-- The loop of the scan.
use Rattle.std.proofs.Common.{◌≡◌, inl, inr, Bool, ℕ, suc, ◌+◌, ◌-◌, ◌*◌, ◌%◌, ◌<◌, ◌≤◌, true, List, [], ◌∷◌, ◌++◌, length, IsTrue, refl, sym, ◌∙◌, ap, subst, arith, length-append, append_assoc, append-nil}
use Rattle.std.specs.Prelude.{All}
use Rattle.std.proofs.Math.Nat.{mod-add-mod, mod-eq_of_lt}
use Rattle.std.proofs.lemmas.List.Elements.{All-nil, All-push}
use Rattle.vx_disk.specs.Shelf.{Meaning, Nothing, Goes}
use Rattle.vx_disk.proofs.Runs.{same_Goes, then_nothing}
use Rattle.vx_srlfmt.specs.Headers.{CanSpellHeader}
use Rattle.vx_srlfmt.specs.Records.{CanSpellHead}
use Rattle.vx_srlfmt.specs.declared.header.Header.{Header}
use Rattle.vx_srlfmt.specs.declared.record.RecordHead.{RecordHead}
use Rattle.vx_srlfmt.specs.declared.record.Seen.{Seen}
use Rattle.vx_srlfmt.specs.declared.record.Seen.TheVariants as seen
use Rattle.vx_ringlog.specs.Cells.{RingImage as Kinds}
use Rattle.vx_ringlog.specs.Chain.{block, width, total, Takes, ScanStops, HasBody, Scan}
use Rattle.vx_ringlog.specs.Ready.{last}
use Rattle.vx_ringlog.specs.Records.{Era, era_of, Record}
use Rattle.vx_ringio.specs.Classes.{is_of_ring}
use Rattle.vx_ringio.specs.Reading.{GaveBlocks, ReadsAs, SeesFront}
use Rattle.vx_ringio.proofs.Following.{reads_stay, still_read}
use Rattle.vx_srl.specs.Damages.{RecordDamaged, SeesFronts}
use Rattle.vx_srl.specs.Kepts.{IsLogKept}
use Rattle.vx_srl.specs.Rings.{heads_of, kept_heads}
use Rattle.vx_srl.specs.Scans.{FindsByScan, Chained, IsShown, StandsThere, TakenFits, Scans, AreChained}
use Rattle.vx_srl.specs.Views.{PlacedFrom, place_after, width_of, widths, most_number}
use Rattle.vx_srl.specs.declared.kept.Kept.{Kept}
use Rattle.vx_srl.specs.declared.scan.Found.{Found}
use Rattle.vx_srl.specs.declared.scan.Found.TheVariants.{Taken, End, Broken}

-- ---- places with the same block

pub plus_same : (ring p q k : ℕ) → p % ring ≡ q % ring → (p + k) % ring ≡ (q + k) % ring
plus_same ring p q k same = sym (mod-add-mod p ring k) ∙ ap (λ (m : ℕ). (m + k) % ring) same ∙ mod-add-mod q ring k

suc_same : (ring p q : ℕ) → p % ring ≡ q % ring → suc p % ring ≡ suc q % ring
suc_same ring p q same =
    let one : suc p ≡ p + 1 = omega arith in
    let two : q + 1 ≡ suc q = omega arith in
    ap (λ (m : ℕ). m % ring) one ∙ plus_same ring p q 1 same ∙ ap (λ (m : ℕ). m % ring) two

pub body_at : (ring : ℕ) (c : Kinds) (p q : ℕ) (bs : List (List ℕ)) → p % ring ≡ q % ring → HasBody ring c p bs → HasBody ring c q bs
body_at ring c p q [] same has = tt
body_at ring c p q (b ∷ bs) same has = (ap (λ (m : ℕ). c (2 + m)) (sym same) ∙ has.0, body_at ring c (suc p) (suc q) bs (suc_same ring p q same) has.1)

pub scan_at : (ring : ℕ) (c : Kinds) (e : Era) (p q n prev : ℕ) (rs : List Record) → p % ring ≡ q % ring → Scan ring c e p n prev rs → Scan ring c e q n prev rs
scan_at ring c e p q n prev [] same scan = subst (λ (m : ℕ). ScanStops e n prev (c (2 + m))) same scan
scan_at ring c e p q n prev (r ∷ rs) same scan = (
  subst (λ (m : ℕ). Takes e n prev (c (2 + m)) r) same scan.0,
  body_at ring c (suc p) (suc q) r.body (suc_same ring p q same) scan.1,
  scan_at ring c e (p + width r) (q + width r) (suc n) r.incarnation rs (plus_same ring p q (width r) same) scan.2,
)

-- ---- one record more

placed_more : (ring p : ℕ) (ks : List Kept) (k : Kept) → k.place ≡ place_after ring p ks → PlacedFrom ring p ks → PlacedFrom ring p (ks ++ k ∷ [])
placed_more ring p [] k is placed = (is, tt)
placed_more ring p (x ∷ ks) k is placed = (placed.0, placed_more ring ((p + width_of x) % ring) ks k is placed.1)

after_more : (ring p : ℕ) (ks : List Kept) (k : Kept) → place_after ring p (ks ++ k ∷ []) ≡ (place_after ring p ks + width_of k) % ring
after_more ring p [] k = refl
after_more ring p (x ∷ ks) k = after_more ring ((p + width_of x) % ring) ks k

widths_more : (ks : List Kept) (k : Kept) → widths (ks ++ k ∷ []) ≡ widths ks + width_of k
widths_more [] k = omega arith
widths_more (x ∷ ks) k = omega (arith, widths_more ks k)

total_more : (rs : List Record) (r : Record) → total (rs ++ r ∷ []) ≡ total rs + width r
total_more [] r = omega arith
total_more (x ∷ rs) r = omega (arith, total_more rs r)

last_more : (prev : ℕ) (rs : List Record) (r : Record) → last prev (rs ++ r ∷ []) ≡ r.incarnation
last_more prev [] r = refl
last_more prev (x ∷ rs) r = last_more x.incarnation rs r

kept_more : (ks : List Kept) (k : Kept) → kept_heads (ks ++ k ∷ []) ≡ kept_heads ks ++ k.head ∷ []
kept_more [] k = refl
kept_more (x ∷ ks) k = ap (λ (hs : List RecordHead). x.head ∷ hs) (kept_more ks k)

heads_more : (rs : List Record) (r : Record) → heads_of (rs ++ r ∷ []) ≡ heads_of rs ++ r.head ∷ []
heads_more [] r = refl
heads_more (x ∷ rs) r = ap (λ (hs : List RecordHead). x.head ∷ hs) (heads_more rs r)

count_heads : (rs : List Record) → length (heads_of rs) ≡ length rs
count_heads [] = refl
count_heads (r ∷ rs) = ap suc (count_heads rs)

count_kept : (ks : List Kept) → length (kept_heads ks) ≡ length ks
count_kept [] = refl
count_kept (k ∷ ks) = ap suc (count_kept ks)

pub same_count : (rs : List Record) (ks : List Kept) → heads_of rs ≡ kept_heads ks → length rs ≡ length ks
same_count rs ks same = sym (count_heads rs) ∙ ap (λ (hs : List RecordHead). length hs) same ∙ count_kept ks

chained_more : (ring : ℕ) (c : Kinds) (e : Era) (p n prev : ℕ) (rs : List Record) (r : Record) (q m : ℕ) → (p + total rs) % ring ≡ q % ring → n + length rs ≡ m → Chained ring c e p n prev rs
    → Takes e m (last prev rs) (c (block ring q)) r → HasBody ring c (suc q) r.body → Chained ring c e p n prev (rs ++ r ∷ [])
chained_more ring c e p n prev [] r q m at number chained takes has =
    let same : q % ring ≡ p % ring = sym at ∙ ap (λ (x : ℕ). x % ring) (omega arith) in
    let is : m ≡ n = omega arith in (
      subst (λ (x : ℕ). Takes e x prev (c (block ring p)) r) is (subst (λ (x : ℕ). Takes e m prev (c (2 + x)) r) same takes),
      body_at ring c (suc q) (suc p) r.body (suc_same ring q p same) has,
      tt,
    )
chained_more ring c e p n prev (x ∷ rs) r q m at number chained takes has =
    let there : p + width x + total rs ≡ p + total (x ∷ rs) = omega arith in (
      chained.0,
      chained.1,
      chained_more ring c e (p + width x) (suc n) x.incarnation rs r q m (ap (λ (y : ℕ). y % ring) there ∙ at) (omega arith) chained.2 takes has,
    )

-- ---- the loop

-- of the records that a scan takes, those that were found and the rest, which fits into the blocks that are left
pub record Rest (ring : ℕ) (c : Kinds) (e : Era) (rs : List Record) (found : List Kept) (place left number prev : ℕ) : Type 0 where
  pub rest : List Record
  pub whole : kept_heads found ++ heads_of rest ≡ heads_of rs
  pub scan : Scan ring c e place number prev rest
  pub fits : total rest ≤ left

-- the records that were found stand one behind another, up to this place
pub record Behind (ring : ℕ) (c : Kinds) (h : Header) (found : List Kept) (place prev : ℕ) : Type 0 where
  pub rs : List Record
  pub heads : heads_of rs ≡ kept_heads found
  pub chained : Chained ring c (era_of h) h.place h.low h.floor rs
  pub at : (h.place + total rs) % ring ≡ place % ring
  pub last_is : last h.floor rs ≡ prev

-- so many turns of the loop found these records
pub record Scanning (unit ring : ℕ) (h : Header) (old now : Meaning) (found : List Kept) (capacity place left prev turns : ℕ) : Type 0 where
  pub goes : Goes Nothing old now
  pub reads : (c : Kinds) → ReadsAs unit ring c old → ReadsAs unit ring c now
  pub back : (u b : ℕ) (v : List ℕ) → now.reads u b v → old.reads u b v
  pub fronts : IsTrue old.tells → SeesFronts unit ring found old
  pub inside : place < ring
  pub heads : All (λ (k : Kept). CanSpellHead k.head) found
  pub placed : PlacedFrom ring h.place found
  pub end_is : place ≡ place_after ring h.place found
  pub left_is : left + widths found ≡ ring
  pub numbers : h.low + length found ≤ most_number + 1
  pub few : 2 * length found ≤ widths found
  pub room : ring ≤ 2 * capacity
  pub turns_are : turns ≡ length found
  pub rest : (c : Kinds) (rs : List Record) → ReadsAs unit ring c old → Scan ring c (era_of h) h.place h.low h.floor rs → total rs ≤ ring
      → Rest ring c (era_of h) rs found place left (h.low + length found) prev
  pub behind : (c : Kinds) → ReadsAs unit ring c old → Behind ring c h found place prev

begun_with : (unit ring : ℕ) (h : Header) (m : Meaning) (capacity : ℕ) → CanSpellHeader h → h.place < ring → ring ≤ 2 * capacity → Scanning unit ring h m m [] capacity h.place ring h.floor 0
begun_with unit ring h m capacity spell inside room = record {
  goes = same_Goes Nothing m;
  reads = λ c reads. reads;
  back = λ u b v is. is;
  fronts = λ tells. All-nil (λ (k : Kept). SeesFront unit (block ring k.place) m (seen.Record k.head));
  inside = inside;
  heads = All-nil (λ (k : Kept). CanSpellHead k.head);
  placed = tt;
  end_is = refl;
  left_is = omega arith;
  numbers = omega (arith, spell.low);
  few = omega arith;
  room = room;
  turns_are = refl;
  rest = λ c rs reads scan fits. record { rest = rs; whole = refl; scan = (let same : h.low ≡ h.low + 0 = omega arith in subst (λ (n : ℕ). Scan ring c (era_of h) h.place n h.floor rs) same scan); fits = fits };
  behind = λ c reads. record { rs = []; heads = refl; chained = tt; at = ap (λ (x : ℕ). x % ring) (omega arith); last_is = refl };
}

pub begun : (unit ring : ℕ) (h : Header) (m : Meaning) (found : List Kept) (capacity : ℕ) → CanSpellHeader h → h.place < ring → ring ≤ 2 * capacity → found ≡ []
    → Scanning unit ring h m m found capacity h.place ring h.floor 0
begun unit ring h m found capacity spell inside room none =
    subst (λ (ks : List Kept). Scanning unit ring h m m ks capacity h.place ring h.floor 0) (sym none) (begun_with unit ring h m capacity spell inside room)

module _ (unit ring : ℕ) (h : Header) (old now : Meaning) (found : List Kept) (capacity place left prev turns : ℕ) (s : Scanning unit ring h old now found capacity place left prev turns) where
  -- what a look says of the records that a scan takes from here, behind so many
  abbrev pub LooksAt : ℕ → Found → Type 0
  LooksAt count x = (c : Kinds) (rs : List Record) → ReadsAs unit ring c now → Scan ring c (era_of h) place (h.low + count) prev rs → total rs ≤ left → FindsByScan rs x

  abbrev pub LooksLike : Found → Type 0
  LooksLike x = LooksAt (length found) x

  -- and what stands there
  abbrev pub StandsAt : ℕ → Found → Type 0
  StandsAt count x = (c : Kinds) → ReadsAs unit ring c now → StandsThere ring c (era_of h) place (h.low + count) prev x

  looks_here : (x y : Found) (count : ℕ) → x ≡ y → count ≡ length found → LooksAt count x → LooksLike y
  looks_here x y count same is looks = subst (λ (n : ℕ). LooksAt n y) is (subst (λ (f : Found). LooksAt count f) same looks)

  stands_here : (x y : Found) (count : ℕ) → x ≡ y → count ≡ length found → StandsAt count x → StandsAt (length found) y
  stands_here x y count same is stands = subst (λ (n : ℕ). StandsAt n y) is (subst (λ (f : Found). StandsAt count f) same stands)

  fits_here : (x y : Found) (count : ℕ) → x ≡ y → count ≡ length found → TakenFits left (h.low + count) x → TakenFits left (h.low + length found) y
  fits_here x y count same is fits = subst (λ (n : ℕ). TakenFits left (h.low + n) y) is (subst (λ (f : Found). TakenFits left (h.low + count) f) same fits)

  -- at the end nothing is left to find
  ended_here : LooksLike End → (rs : List Record) → Scans unit ring h rs old → kept_heads found ≡ heads_of rs
  ended_here looks rs scans =
      let so = s.rest scans.kinds rs scans.reads scans.scan scans.fits in
      go so.rest so.whole (looks scans.kinds so.rest (s.reads scans.kinds scans.reads) so.scan so.fits)
    where
      go : (rest : List Record) → kept_heads found ++ heads_of rest ≡ heads_of rs → FindsByScan rest End → kept_heads found ≡ heads_of rs
      go [] whole agrees = sym (append-nil (kept_heads found)) ∙ whole
      go (r ∷ rest) whole agrees = absurd agrees

  pub ended : (x : Found) (count : ℕ) → x ≡ End → count ≡ length found → LooksAt count x → (rs : List Record) → Scans unit ring h rs old → kept_heads found ≡ heads_of rs
  ended x count same is looks = ended_here (looks_here x End count same is looks)

  -- no loop goes on for so many turns as the ring has blocks
  pub emptied : 6 ≤ ring → ring ≤ turns → ⊥
  emptied some all = omega (arith, some, all, s.left_is, s.few, s.turns_are)

  -- a damaged block is not met
  pub undamaged : (x : Found) (count at : ℕ) (stored computed : List ℕ) → x ≡ Broken at stored computed → count ≡ length found → LooksAt count x → (rs : List Record) → Scans unit ring h rs old → ⊥
  undamaged x count at stored computed same is looks rs scans =
      let so = s.rest scans.kinds rs scans.reads scans.scan scans.fits in
      go so.rest (looks_here x (Broken at stored computed) count same is looks scans.kinds so.rest (s.reads scans.kinds scans.reads) so.scan so.fits)
    where
      go : (rest : List Record) → FindsByScan rest (Broken at stored computed) → ⊥
      go [] agrees = agrees
      go (r ∷ rest) agrees = agrees

  still_told : IsTrue old.tells → IsTrue now.tells
  still_told tells = subst (λ (t : Bool). IsTrue t) (sym s.goes.tells) tells

  -- what reads gave now they gave before
  front_back : (x : Seen) (b : ℕ) → SeesFront unit b now x → SeesFront unit b old x
  front_back x b sees = record { bytes = sees.bytes; read = s.back unit b sees.bytes sees.read; is = sees.is }

  damaged_back : (at : ℕ) (stored computed : List ℕ) → RecordDamaged unit ring at stored computed now → RecordDamaged unit ring at stored computed old
  damaged_back at stored computed (inl front) = inl (front_back (seen.Damaged stored computed) at front)
  damaged_back at stored computed (inr body) = inr (
    record { place = body.0.place; head = body.0.head; front = front_back (seen.Record body.0.head) (block ring body.0.place) body.0.front; at = body.0.at; stored_is = body.0.stored_is },
    record { body = body.1.body; count = body.1.count; gave = gave_back body.1.body (body.0.place + 1) body.1.gave; computed_is = body.1.computed_is },
  )
    where
      gave_back : (bs : List (List ℕ)) (p : ℕ) → GaveBlocks unit ring now p bs → GaveBlocks unit ring old p bs
      gave_back [] p gave = tt
      gave_back (b ∷ bs) p gave = (s.back unit (block ring p) b gave.0, gave_back bs (suc p) gave.1)

  -- a damaged block that is met was read
  pub damaged_read : (x : Found) (at : ℕ) (stored computed : List ℕ) → x ≡ Broken at stored computed → (IsTrue now.tells → IsShown unit ring place now x) → IsTrue old.tells → RecordDamaged unit ring at stored computed old
  damaged_read x at stored computed same shown tells = damaged_back at stored computed (subst (λ (f : Found). IsShown unit ring place now f) same (shown (still_told tells)))

  -- what was found is kept as a log
  pub found_kept : 6 ≤ ring → ring ≤ 65534 → CanSpellHeader h → is_of_ring ring h ≡ true → (used : ℕ) → used + left ≡ ring → IsLogKept ring h found capacity (length found) place used
  found_kept some few spell of_ring used used_is = record {
    ordered = record { some = some; few = few; spell = spell; of_ring = of_ring; heads = s.heads; placed = s.placed; fits = omega (arith, s.left_is); numbers = s.numbers };
    room = s.room;
    few = omega arith;
    end_is = s.end_is;
    used_is = omega (arith, s.left_is, used_is);
  }

  pub found_chained : AreChained unit ring h found old
  found_chained = record { each = λ c reads. (let b = s.behind c reads in (b.rs, b.heads, b.chained)) }

  -- a record more
  module _ (head : RecordHead) (new : Meaning) (fits : TakenFits left (h.low + length found) (Taken head)) (looks : LooksLike (Taken head))
      (stands : StandsAt (length found) (Taken head)) (shown : IsTrue now.tells → IsShown unit ring place now (Taken head)) (goes : Goes Nothing now new) (up : IsTrue new.down → ⊥) where
    abbrev k : Kept
    k = record { place = place; head = head }

    abbrev next : ℕ
    next = (place + (head.count + 1)) % ring

    count_more : length (found ++ k ∷ []) ≡ length found + 1
    count_more = length-append found (k ∷ [])

    number_more : suc (h.low + length found) ≡ h.low + length (found ++ k ∷ [])
    number_more = omega (arith, count_more)

    twice : (x : ℕ) → x % ring ≡ (x % ring) % ring
    twice x = let same : (x % ring) % ring ≡ x % ring = mod-eq_of_lt (omega (arith, s.inside)) in sym same

    rest_more : (c : Kinds) (rs : List Record) → ReadsAs unit ring c old → Scan ring c (era_of h) h.place h.low h.floor rs → total rs ≤ ring
        → (left' : ℕ) → left' + (head.count + 1) ≡ left → Rest ring c (era_of h) rs (found ++ k ∷ []) next left' (h.low + length (found ++ k ∷ [])) head.incarnation
    rest_more c rs reads scan few left' less =
        let so = s.rest c rs reads scan few in
        go so.rest so.whole so.scan so.fits (looks c so.rest (s.reads c reads) so.scan so.fits)
      where
        go : (rest : List Record) → kept_heads found ++ heads_of rest ≡ heads_of rs → Scan ring c (era_of h) place (h.low + length found) prev rest → total rest ≤ left → FindsByScan rest (Taken head)
            → Rest ring c (era_of h) rs (found ++ k ∷ []) next left' (h.low + length (found ++ k ∷ [])) head.incarnation
        go [] whole here small agrees = absurd agrees
        go (r ∷ rest) whole here small agrees =
            let count : width r ≡ head.count + 1 = (let size : head.count ≡ r.head.count = ap (λ (x : RecordHead). x.count) agrees in omega (arith, here.0.1.count)) in
            let at : (place + width r) % ring ≡ next % ring = ap (λ (x : ℕ). (place + x) % ring) count ∙ twice (place + (head.count + 1)) in
            let incarnation : r.incarnation ≡ head.incarnation = sym (ap (λ (x : RecordHead). x.incarnation) agrees) in
            let moved : Scan ring c (era_of h) next (suc (h.low + length found)) r.incarnation rest =
            scan_at ring c (era_of h) (place + width r) next (suc (h.low + length found)) r.incarnation rest at here.2 in
            record {
              rest = rest;
              whole = ap (λ (hs : List RecordHead). hs ++ heads_of rest) (kept_more found k) ∙ append_assoc (kept_heads found) (head ∷ []) (heads_of rest)
                  ∙ ap (λ (x : RecordHead). kept_heads found ++ x ∷ heads_of rest) agrees ∙ whole;
              scan = subst (λ (n : ℕ). Scan ring c (era_of h) next n head.incarnation rest) number_more
                  (subst (λ (i : ℕ). Scan ring c (era_of h) next (suc (h.low + length found)) i rest) incarnation moved);
              fits = omega (arith, small, count, less);
            }

    behind_more : (c : Kinds) → ReadsAs unit ring c old → Behind ring c h (found ++ k ∷ []) next head.incarnation
    behind_more c reads =
        let b = s.behind c reads in
        let there = stands c (s.reads c reads) in
        let r = there.0 in
        let count : width r ≡ head.count + 1 = (let size : r.head.count ≡ head.count = ap (λ (x : RecordHead). x.count) there.1 in omega (arith, there.2.1.count)) in
        let takes : Takes (era_of h) (h.low + length found) (last h.floor b.rs) (c (block ring place)) r =
        subst (λ (i : ℕ). Takes (era_of h) (h.low + length found) i (c (block ring place)) r) (sym b.last_is) there.2 in
        record {
          rs = b.rs ++ r ∷ [];
          heads = heads_more b.rs r ∙ ap (λ (hs : List RecordHead). hs ++ r.head ∷ []) b.heads ∙ ap (λ (x : RecordHead). kept_heads found ++ x ∷ []) there.1 ∙ sym (kept_more found k);
          chained = chained_more ring c (era_of h) h.place h.low h.floor b.rs r place (h.low + length found) b.at
              (ap (λ (n : ℕ). h.low + n) (same_count b.rs found b.heads)) b.chained takes there.3;
          at = (let sum : h.place + total (b.rs ++ r ∷ []) ≡ h.place + total b.rs + width r = omega (arith, total_more b.rs r) in ap (λ (x : ℕ). x % ring) sum)
              ∙ plus_same ring (h.place + total b.rs) place (width r) b.at ∙ ap (λ (x : ℕ). (place + x) % ring) count ∙ twice (place + (head.count + 1));
          last_is = last_more h.floor b.rs r ∙ ap (λ (x : RecordHead). x.incarnation) there.1;
        }

    more : (left' : ℕ) → left' + (head.count + 1) ≡ left → (turns' : ℕ) → turns' ≡ turns + 1 → Scanning unit ring h old new (found ++ k ∷ []) capacity next left' head.incarnation turns'
    more left' less turns' turned = record {
      goes = then_nothing Nothing old now new s.goes goes;
      reads = λ c reads. reads_stay unit ring c now new goes up (s.reads c reads);
      back = λ u b v is. s.back u b v (still_read now new goes up u b v is);
      fronts = λ tells. All-push (λ (x : Kept). SeesFront unit (block ring x.place) old (seen.Record x.head)) found k (s.fronts tells) (front_back (seen.Record head) (block ring place) (shown (still_told tells)));
      inside = omega (arith, s.inside);
      heads = All-push (λ (x : Kept). CanSpellHead x.head) found k s.heads fits.0;
      placed = placed_more ring h.place found k s.end_is s.placed;
      end_is = ap (λ (x : ℕ). (x + (head.count + 1)) % ring) s.end_is ∙ sym (after_more ring h.place found k);
      left_is = omega (arith, s.left_is, widths_more found k, less);
      numbers = omega (arith, fits.0.number, fits.1, count_more);
      few = omega (arith, s.few, widths_more found k, count_more, fits.0.some);
      room = s.room;
      turns_are = omega (arith, s.turns_are, turned, count_more);
      rest = λ c rs reads scan few. rest_more c rs reads scan few left' less;
      behind = behind_more;
    }

  pub went_on : (head : RecordHead) (new : Meaning) (x : Found) (count : ℕ) → x ≡ Taken head → count ≡ length found → TakenFits left (h.low + count) x → LooksAt count x → StandsAt count x → (IsTrue now.tells → IsShown unit ring place now x) → Goes Nothing now new
      → (IsTrue new.down → ⊥) → (found' : List Kept) (capacity' left' turns' : ℕ) → found' ≡ found ++ record { place = place; head = head } ∷ [] → capacity' ≡ capacity → left' ≡ left - (head.count + 1) → turns' ≡ turns + 1
      → Scanning unit ring h old new found' capacity' ((place + (head.count + 1)) % ring) left' head.incarnation turns'
  went_on head new x count same is fits looks stands shown goes up found' capacity' left' turns' items room less turned =
      let here = fits_here x (Taken head) count same is fits in
      let there = more head new here (looks_here x (Taken head) count same is looks) (stands_here x (Taken head) count same is stands) (λ tells. subst (λ (f : Found). IsShown unit ring place now f) same (shown tells)) goes up left' (omega (arith, less, here.2)) turns' turned in
      subst (λ (ks : List Kept). Scanning unit ring h old new ks capacity' ((place + (head.count + 1)) % ring) left' head.incarnation turns') (sym items)
      (subst (λ (n : ℕ). Scanning unit ring h old new (found ++ record { place = place; head = head } ∷ []) n ((place + (head.count + 1)) % ring) left' head.incarnation turns') (sym room) there)
