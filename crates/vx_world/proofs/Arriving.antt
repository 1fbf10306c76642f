-- Updates that are delivered in their order, part by part: with whichever part each of them becomes whole, it is taken.
use Rattle.std.proofs.Common.{◌≡◌, ◌∙◌, ◌⊎◌, inl, inr, ℕ, zero, suc, ◌+◌, ◌-◌, ◌≤◌, ◌<◌, List, [], ◌∷◌, ◌++◌, length, take, ap, sym, subst, refl, arith, Bool, true, false, append_assoc, length-append, get_or}
use Rattle.std.specs.Prelude.{Option, Some, ltb, slice_get}
use Rattle.std.proofs.lemmas.Bool.Decides.{nat_tests}
use Rattle.std.proofs.lemmas.List.{append-nil, length-set}
use Rattle.vx_model.specs.Content.{Write}
use Rattle.vx_model.specs.declared.history.Line.{Line}
use Rattle.vx_model.proofs.Tests.{by_bool}
use Rattle.vx_history.specs.World.{World, Node, Link, Packet, Key, Gathering, Update, NetAck}
use Rattle.vx_history.specs.Gatherings.{message_key, came_before, came_after, completes}
use Rattle.vx_history.specs.Sends.{packet, packets_from, updates, further_parts}
use Rattle.vx_history.specs.Events.{with_write}
use Rattle.vx_history.specs.Step.{step, run}
use Rattle.vx_history.specs.declared.event.Event.TheVariants.{Deliver}
use Rattle.std.specs.List.{AllByRecursion}
use Rattle.vx_history.specs.Settling.{is_between}
use Rattle.vx_world.proofs.Pair.{At, Fit}
use Rattle.vx_world.proofs.Told.{IsYoung, taken_at, kept_at, ignored_at, again_at, memory_at, stale_at}
use Rattle.vx_world.proofs.Batches.{deliver_each, between_back, IsIn, in_head, in_tail, in_more, fit_log, fit_link}
use Rattle.vx_world.proofs.PartsCame.{Came, all_true, came_more, kept_came}

-- ## Acknowledgements

-- acknowledgements from memory in this session, of no number above this one
abbrev pub AreAcks : (s p : ℕ) → Line → (session high : ℕ) → List Packet → Type 0
AreAcks s p line session high [] = Unit {0}
AreAcks s p line session high (q ∷ qs) = (k : ℕ) × (q ≡ packet s p line (NetAck session k) 0) × (k ≤ high) × AreAcks s p line session high qs

-- one of them is of this number
abbrev pub HasAck : (s p : ℕ) → Line → (session number : ℕ) → List Packet → Type 0
HasAck s p line session number [] = ⊥
HasAck s p line session number (q ∷ qs) = (q ≡ packet s p line (NetAck session number) 0) ⊎ HasAck s p line session number qs

-- they go from the receiver to the site that sends it updates
pub acks_between : (p s : ℕ) (line : Line) (session high : ℕ) (qs : List Packet) → AreAcks s p line session high qs
    → AllByRecursion (λ q. is_between p s q ≡ true) qs
acks_between p s line session high [] are = tt
acks_between p s line session high (q ∷ qs) are = (
  ap (λ (r : Packet). is_between p s r) are.1 ∙ between_back p s line (NetAck session are.0) 0,
  acks_between p s line session high qs are.3,
)

-- ## Updates

-- one packet more was sent, and one packet was delivered
pub young_more : (ps : List Packet) (k : ℕ) (q : Packet) → IsYoung ps k → IsYoung (ps ++ q ∷ []) (suc k)
young_more ps k q h = omega (arith, h, length-append ps (q ∷ []))

pub young_next : (ps : List Packet) (k : ℕ) → IsYoung ps k → IsYoung ps (suc k)
young_next ps k h = omega (arith, h)

module _ (p s : ℕ) (a : Node) (Q : World → Type 0) where
  abbrev pub Acks : Node → ℕ → List Packet → Type 0
  Acks b high qs = AreAcks s p b.line b.session high qs

  abbrev pub parts : ℕ → Write → (part count : ℕ) → List Packet
  parts n x part count = packets_from p s a.line (Update n x) part count

  -- what follows behind so many more parts, of which more acknowledgements came
  abbrev pub Follows : Node → Link → List Packet → (k m : ℕ) → (high : ℕ) → List Packet → Type 0
  Follows b l ps k m high rest =
      (w : World) (more : List Packet) → Acks b high more → length more ≤ m → At w p s a b l (ps ++ more) → IsIn (ps ++ more) (k + m) rest → IsYoung
      (ps ++ more) (k + m) → Q (run w (deliver_each (k + m) rest))

  -- parts of an update that the site has
  pub known_run : (m k j n : ℕ) (x : Write) (rest : List Packet) (v : World) (b : Node) (l : Link) (ps : List Packet) → At v p s a b l ps → Fit p s a b l
      → n ≤ length b.log → IsIn ps k (parts n x j m ++ rest) → IsYoung ps k → Follows b l ps k m (length b.log) rest → Q
      (run v (deliver_each k (parts n x j m ++ rest)))
  known_run zero k j n x rest v b l ps at fit old is young each =
      let here : k ≡ k + zero = omega arith in
      subst (λ (i : ℕ). Q (run v (deliver_each i rest))) (sym here)
      (each v [] tt (omega arith) (subst (λ (xs : List Packet). At v p s a b l xs) (sym (append-nil ps)) at)
      (subst (λ (i : ℕ). IsIn (ps ++ []) i rest) here (subst (λ (xs : List Packet). IsIn xs k rest) (sym (append-nil ps)) is))
      (subst (λ (i : ℕ). IsYoung (ps ++ []) i) here (subst (λ (xs : List Packet). IsYoung xs k) (sym (append-nil ps)) young)))
  known_run (suc m) k j n x rest v b l ps at fit old is young each =
      let q : Packet = packet p s a.line (Update n x) j in
      let ack : Packet = packet s p b.line (NetAck b.session (length b.log)) 0 in
      let tail : List Packet = parts n x (j + 1) m ++ rest in
      let there : suc k + m ≡ k + suc m = omega arith in
      known_run m (suc k) (j + 1) n x rest (step v (Deliver (suc k))).world b l (ps ++ ack ∷ [])
      (again_at v p s a b l ps at fit k n x j young (in_head ps k q tail is) old) fit old
      (in_more ps (ack ∷ []) (suc k) tail (in_tail ps k q tail is)) (young_more ps k ack young)
      (λ w more acks few at_w is_w young_w.
      let same : (ps ++ ack ∷ []) ++ more ≡ ps ++ ack ∷ more = append_assoc ps (ack ∷ []) more in
      subst (λ (i : ℕ). Q (run w (deliver_each i rest))) (sym there)
      (each w (ack ∷ more) (length b.log, refl, omega arith, acks) (omega (arith, few)) (subst (λ (xs : List Packet). At w p s a b l xs) same at_w)
      (subst (λ (i : ℕ). IsIn (ps ++ ack ∷ more) i rest) there (subst (λ (xs : List Packet). IsIn xs (suc k + m) rest) same is_w))
      (subst (λ (i : ℕ). IsYoung (ps ++ ack ∷ more) i) there (subst (λ (xs : List Packet). IsYoung xs (suc k + m)) same young_w))))

  -- what follows behind an update that was taken with one of so many parts
  abbrev pub Taken : Node → Link → List Packet → (k m n : ℕ) → Write → List Packet → Type 0
  Taken b l ps k m n x rest =
      (w : World) (more : List Packet) → Acks b n more → length more ≤ m → At w p s a (with_write b p x) l (ps ++ packet s p b.line (NetAck b.session n) 0 ∷ more)
      → IsIn (ps ++ packet s p b.line (NetAck b.session n) 0 ∷ more) (k + suc m) rest → IsYoung (ps ++ packet s p b.line (NetAck b.session n) 0 ∷ more)
      (k + suc m) → Q (run w (deliver_each (k + suc m) rest))

  -- the parts of the next update up to this one
  pub part_came : (n : ℕ) (x : Write) (j : ℕ) (g : Option Gathering)
      → length (came_before g (message_key p a.line (Update n x))) ≡ suc (further_parts (Update n x)) → j ≤ further_parts (Update n x)
      → Came g (message_key p a.line (Update n x)) j
      → (i : ℕ) → i < suc j → get_or (came_after g (packet p s a.line (Update n x) j)) i false ≡ true
  part_came n x j g places few came = came_more (came_before g (message_key p a.line (Update n x))) j (omega (arith, places, few)) came

  -- with the last part it is whole
  pub last_whole : (n : ℕ) (x : Write) (j : ℕ) (g : Option Gathering)
      → length (came_before g (message_key p a.line (Update n x))) ≡ suc (further_parts (Update n x)) → j ≡ further_parts (Update n x)
      → Came g (message_key p a.line (Update n x)) j
      → completes g (packet p s a.line (Update n x) j) ≡ true
  last_whole n x j g places last came =
      let long : length (came_after g (packet p s a.line (Update n x) j)) ≡ suc (further_parts (Update n x)) = length-set
      (came_before g (message_key p a.line (Update n x))) j true ∙ places in
      all_true (came_after g (packet p s a.line (Update n x) j)) (λ i lt. part_came n x j g places (omega (arith, last)) came i (omega (arith, lt, long, last)))

  -- the update is taken with this part, and so many more follow
  pub whole_run : (m k j n : ℕ) (x : Write) (rest : List Packet) (v : World) (b : Node) (l : Link) (ps : List Packet) → At v p s a b l ps → Fit p s a b l
      → n ≡ length b.log + 1 → ltb (length b.log - b.safe) 16 ≡ true → completes (v.gathering s) (packet p s a.line (Update n x) j) ≡ true
      → IsIn ps k (parts n x j (suc m) ++ rest) → IsYoung ps k → Taken b l ps k m n x rest → Q (run v (deliver_each k (parts n x j (suc m) ++ rest)))
  whole_run m k j n x rest v b l ps at fit next room whole is young each =
      let q : Packet = packet p s a.line (Update n x) j in
      let ack : Packet = packet s p b.line (NetAck b.session n) 0 in
      let tail : List Packet = parts n x (j + 1) m ++ rest in
      let there : suc k + m ≡ k + suc m = omega arith in
      let c : Node = with_write b p x in
      let long : length (b.log ++ x ∷ []) ≡ n = omega (arith, next, length-append b.log (x ∷ [])) in
      known_run m (suc k) (j + 1) n x rest (step v (Deliver (suc k))).world c l (ps ++ ack ∷ [])
      (taken_at v p s a b l ps at fit k n x j young (in_head ps k q tail is) next room whole) (fit_log p s a b l (b.log ++ x ∷ []) p fit)
      (omega (arith, long)) (in_more ps (ack ∷ []) (suc k) tail (in_tail ps k q tail is)) (young_more ps k ack young)
      (λ w more acks few at_w is_w young_w.
      let same : (ps ++ ack ∷ []) ++ more ≡ ps ++ ack ∷ more = append_assoc ps (ack ∷ []) more in
      subst (λ (i : ℕ). Q (run w (deliver_each i rest))) (sym there)
      (each w more (subst (λ (i : ℕ). Acks b i more) long acks) few (subst (λ (xs : List Packet). At w p s a c l xs) same at_w)
      (subst (λ (i : ℕ). IsIn (ps ++ ack ∷ more) i rest) there (subst (λ (xs : List Packet). IsIn xs (suc k + m) rest) same is_w))
      (subst (λ (i : ℕ). IsYoung (ps ++ ack ∷ more) i) there (subst (λ (xs : List Packet). IsYoung xs (suc k + m)) same young_w))))

  -- parts of the next update, for which there is room: those before have come, and it is taken with one of these
  pub next_run : (m k j n : ℕ) (x : Write) (rest : List Packet) (v : World) (b : Node) (l : Link) (ps : List Packet) → At v p s a b l ps → Fit p s a b l
      → j + m ≡ further_parts (Update n x) → n ≡ length b.log + 1 → ltb (length b.log - b.safe) 16 ≡ true → Came (v.gathering s)
      (message_key p a.line (Update n x)) j
      → IsIn ps k (parts n x j (suc m) ++ rest) → IsYoung ps k → Taken b l ps k m n x rest → Q (run v (deliver_each k (parts n x j (suc m) ++ rest)))
  next_run zero k j n x rest v b l ps at fit all next room came is young each =
      whole_run zero k j n x rest v b l ps at fit next room
      (last_whole n x j (v.gathering s) (at.places (message_key p a.line (Update n x))) (omega (arith, all)) came) is young each
  next_run (suc m) k j n x rest v b l ps at fit all next room came is young each =
      let q : Packet = packet p s a.line (Update n x) j in
      let ack : Packet = packet s p b.line (NetAck b.session n) 0 in
      let tail : List Packet = parts n x (j + 1) (suc m) ++ rest in
      let key : Key = message_key p a.line (Update n x) in
      by_bool (completes (v.gathering s) q)
      (λ whole. whole_run (suc m) k j n x rest v b l ps at fit next room whole is young each)
      (λ some.
      let w : World = (step v (Deliver (suc k))).world in
      let after = kept_at v p s a b l ps at fit k n x j young (in_head ps k q tail is) next room some in
      let on : suc k + suc m ≡ k + suc (suc m) = omega arith in
      let now : came_before (w.gathering s) key ≡ came_after (v.gathering s) q = ap (λ (g : Option Gathering). came_before g key) after.1 ∙ kept_came key
      (came_after (v.gathering s) q) in
      let came_now : Came (w.gathering s) key (j + 1) = λ i lt. ap (λ (xs : List Bool). get_or xs i false) now ∙ part_came n x j (v.gathering s)
      (at.places key) (omega (arith, all)) came i (omega (arith, lt)) in
      next_run m (suc k) (j + 1) n x rest w b l ps after.0 fit (omega (arith, all)) next room came_now (in_tail ps k q tail is) (young_next ps k young)
      (λ u more acks few at_u is_u young_u.
      subst (λ (i : ℕ). Q (run u (deliver_each i rest))) (sym on)
      (each u more acks (omega (arith, few)) at_u
      (subst (λ (i : ℕ). IsIn (ps ++ ack ∷ more) i rest) on is_u)
      (subst (λ (i : ℕ). IsYoung (ps ++ ack ∷ more) i) on young_u))))

  -- parts of updates for which there is no room
  pub full_run : (m k j n : ℕ) (x : Write) (rest : List Packet) (v : World) (b : Node) (l : Link) (ps : List Packet) → At v p s a b l ps → Fit p s a b l
      → length b.log < n → ltb (length b.log - b.safe) 16 ≡ false → IsIn ps k (parts n x j m ++ rest) → IsYoung ps k
      → ((w : World) → At w p s a b l ps → IsIn ps (k + m) rest → IsYoung ps (k + m) → Q (run w (deliver_each (k + m) rest))) → Q
      (run v (deliver_each k (parts n x j m ++ rest)))
  full_run zero k j n x rest v b l ps at fit past full is young each =
      let here : k ≡ k + zero = omega arith in
      subst (λ (i : ℕ). Q (run v (deliver_each i rest))) (sym here)
      (each v at (subst (λ (i : ℕ). IsIn ps i rest) here is) (subst (λ (i : ℕ). IsYoung ps i) here young))
  full_run (suc m) k j n x rest v b l ps at fit past full is young each =
      let q : Packet = packet p s a.line (Update n x) j in
      let tail : List Packet = parts n x (j + 1) m ++ rest in
      let there : suc k + m ≡ k + suc m = omega arith in
      full_run m (suc k) (j + 1) n x rest (step v (Deliver (suc k))).world b l ps
      (ignored_at v p s a b l ps at fit k n x j young (in_head ps k q tail is) past full) fit past full (in_tail ps k q tail is) (young_next ps k young)
      (λ w at_w is_w young_w.
      subst (λ (i : ℕ). Q (run w (deliver_each i rest))) (sym there)
      (each w at_w (subst (λ (i : ℕ). IsIn ps i rest) there is_w) (subst (λ (i : ℕ). IsYoung ps i) there young_w)))

  pub full_all : (xs : List Write) (k n : ℕ) (v : World) (b : Node) (l : Link) (ps : List Packet) → At v p s a b l ps → Fit p s a b l → length b.log < n
      → ltb (length b.log - b.safe) 16 ≡ false
      → IsIn ps k (updates p s a.line n xs) → IsYoung ps k → ((w : World) → At w p s a b l ps → Q w) → Q (run v (deliver_each k (updates p s a.line n xs)))
  full_all [] k n v b l ps at fit past full is young each = each v at
  full_all (x ∷ xs) k n v b l ps at fit past full is young each =
      full_run (suc (further_parts (Update n x))) k 0 n x (updates p s a.line (n + 1) xs) v b l ps at fit past full is young
      (λ w at_w is_w young_w. full_all xs (k + suc (further_parts (Update n x))) (n + 1) w b l ps at_w fit (omega (arith, past)) full is_w young_w each)

-- ## A batch of updates

-- so many of the writes came, and were acknowledged; at least one where there was room
pub record Arrived (p s : ℕ) (a b : Node) (l : Link) (ps : List Packet) (xs : List Write) (size : ℕ) (w : World) : Type 0 where
  pub count : ℕ
  pub few : count ≤ length xs
  pub some : 0 < length xs → ltb (length b.log - b.safe) 16 ≡ true → 0 < count
  pub acks : List Packet
  pub are : AreAcks s p b.line b.session (length b.log + count) acks
  pub short : length acks ≤ size
  pub last : 0 < count → HasAck s p b.line b.session (length b.log + count) acks
  pub fed : ℕ
  pub at : At w p s a (record b { log = b.log ++ take count xs; fed_by = fed }) l (ps ++ acks)

pub more_acks : (s p : ℕ) (line : Line) (session low high : ℕ) (qs : List Packet) → low ≤ high → AreAcks s p line session low qs → AreAcks s p line session high qs
more_acks s p line session low high [] few are = tt
more_acks s p line session low high (q ∷ qs) few are = (are.0, are.1, omega (arith, are.2, few), more_acks s p line session low high qs few are.3)

pub both_acks : (s p : ℕ) (line : Line) (session high : ℕ) (qs rs : List Packet) → AreAcks s p line session high qs → AreAcks s p line session high rs
    → AreAcks s p line session high (qs ++ rs)
both_acks s p line session high [] rs first second = second
both_acks s p line session high (q ∷ qs) rs first second = (first.0, first.1, first.2, both_acks s p line session high qs rs first.3 second)

pub later_ack : (s p : ℕ) (line : Line) (session number : ℕ) (qs rs : List Packet) → HasAck s p line session number rs → HasAck s p line session number (qs ++ rs)
later_ack s p line session number [] rs has = has
later_ack s p line session number (q ∷ qs) rs has = inr (later_ack s p line session number qs rs has)

pub less_or_not : (m n : ℕ) → (m < n) ⊎ (n ≤ m)
less_or_not m n = by (ltb m n) refl
  where
    by : (t : Bool) → ltb m n ≡ t → (m < n) ⊎ (n ≤ m)
    by true e = inl (grind (arith, nat_tests))
    by false e = inr (grind (arith, nat_tests))

pub same_ack : (s p : ℕ) (line : Line) (session m n : ℕ) → packet s p line (NetAck session m) 0 ≡ packet s p line (NetAck session n) 0 → m ≡ n
same_ack s p line session m n e = let f : NetAck session m ≡ NetAck session n = ap (λ (q : Packet). q.message) e in cc

-- none came
pub none_came : (v : World) (p s : ℕ) (a b : Node) (l : Link) (ps : List Packet) (xs : List Write) (size : ℕ)
    → (0 < length xs → ltb (length b.log - b.safe) 16 ≡ true → 0 < 0) → At v p s a b l ps → Arrived p s a b l ps xs size v
none_came v p s a b l ps xs size some at = record {
  count = 0;
  few = omega arith;
  some = some;
  acks = [];
  are = tt;
  short = omega arith;
  last = λ h. absurd (omega (arith, h));
  fed = b.fed_by;
  at = subst (λ (log : List Write). At v p s a (record b { log = log }) l (ps ++ [])) (sym (append-nil b.log))
      (subst (λ (qs : List Packet). At v p s a b l qs) (sym (append-nil ps)) at);
}

pub parts_length : (p s : ℕ) (line : Line) (n : ℕ) (x : Write) (j m : ℕ) (rest : List Packet)
    → length (packets_from p s line (Update n x) j m ++ rest) ≡ m + length rest
parts_length p s line n x j zero rest = omega arith
parts_length p s line n x j (suc m) rest = omega (arith, parts_length p s line n x (j + 1) m rest)

-- one came, and then others
pub one_came : (w : World) (p s : ℕ) (a b : Node) (l : Link) (ps more : List Packet) (n : ℕ) (x : Write) (xs : List Write) (size all : ℕ) → n ≡ length b.log + 1
    → AreAcks s p b.line b.session n more → length more + 1 + size ≤ all
    → Arrived p s a (with_write b p x) l (ps ++ packet s p b.line (NetAck b.session n) 0 ∷ more) xs size w → Arrived p s a b l ps (x ∷ xs) all w
one_came w p s a b l ps more n x xs size all next acks room rest =
    let ack : Packet = packet s p b.line (NetAck b.session n) 0 in
    let long : length (b.log ++ x ∷ []) ≡ length b.log + 1 = length-append b.log (x ∷ []) in
    let high : length (b.log ++ x ∷ []) + rest.count ≡ length b.log + suc rest.count = omega (arith, long) in
    let every : List Packet = ack ∷ (more ++ rest.acks) in record {
      count = suc rest.count;
      few = omega (arith, rest.few);
      some = λ _ _. omega arith;
      acks = every;
      are = (
        n,
        refl,
        omega (arith, next),
        both_acks s p b.line b.session (length b.log + suc rest.count) more rest.acks
            (more_acks s p b.line b.session n (length b.log + suc rest.count) more (omega (arith, next)) acks)
            (subst (λ (i : ℕ). AreAcks s p b.line b.session i rest.acks) high rest.are),
      );
      short = omega (arith, room, rest.short, length-append more rest.acks);
      last = λ _. by_count rest.count refl;
      fed = rest.fed;
      at = subst (λ (sent : List Packet). At w p s a (record b { log = b.log ++ take (suc rest.count) (x ∷ xs); fed_by = rest.fed }) l sent)
          (append_assoc ps (ack ∷ more) rest.acks)
          (subst (λ (log : List Write). At w p s a (record b { log = log; fed_by = rest.fed }) l ((ps ++ ack ∷ more) ++ rest.acks))
          (append_assoc b.log (x ∷ []) (take rest.count xs)) rest.at);
    }
  where
    by_count : (c : ℕ) → rest.count ≡ c
        → HasAck s p b.line b.session (length b.log + suc rest.count) (packet s p b.line (NetAck b.session n) 0 ∷ (more ++ rest.acks))
    by_count zero e = let number : n ≡ length b.log + suc rest.count = omega (arith, next, e) in inl
        (ap (λ (i : ℕ). packet s p b.line (NetAck b.session i) 0) number)
    by_count (suc c) e =
        let number : length (b.log ++ x ∷ []) + rest.count ≡ length b.log + suc rest.count = omega (arith, length-append b.log (x ∷ [])) in
        inr (later_ack s p b.line b.session (length b.log + suc rest.count) more rest.acks
        (subst (λ (i : ℕ). HasAck s p b.line b.session i rest.acks) number (rest.last (omega (arith, e)))))

-- at first no part is asked for
pub none_below : (g : Option Gathering) (key : Key) → Came g key 0
none_below g key i lt = absurd (omega (arith, lt))

pub updates_any : (p s : ℕ) (a : Node) (xs : List Write) (k n : ℕ) (v : World) (b : Node) (l : Link) (ps : List Packet) → At v p s a b l ps → Fit p s a b l
    → IsIn ps k (updates p s a.line n xs) → n ≡ length b.log + 1 → IsYoung ps k
    → Arrived p s a b l ps xs (length (updates p s a.line n xs)) (run v (deliver_each k (updates p s a.line n xs)))
updates_any p s a [] k n v b l ps at fit is next young = none_came v p s a b l ps [] 0 (λ h _. h) at
updates_any p s a (x ∷ xs) k n v b l ps at fit is next young =
    let f : ℕ = further_parts (Update n x) in
    let rest : List Packet = updates p s a.line (n + 1) xs in
    let size : ℕ = length (updates p s a.line n (x ∷ xs)) in
    let long : size ≡ suc f + length rest = parts_length p s a.line n x 0 (suc f) rest in
    by_bool (ltb (length b.log - b.safe) 16)
    (λ room. next_run p s a (λ w. Arrived p s a b l ps (x ∷ xs) size w) f k 0 n x rest v b l ps at fit (omega arith) next room
    (none_below (v.gathering s) (message_key p a.line (Update n x))) is young
    (λ w more acks few at_w is_w young_w. one_came (run w (deliver_each (k + suc f) rest)) p s a b l ps more n x xs (length rest) size next acks
    (omega (arith, few, long))
    (updates_any p s a xs (k + suc f) (n + 1) w (with_write b p x) l (ps ++ packet s p b.line (NetAck b.session n) 0 ∷ more) at_w
    (fit_log p s a b l (b.log ++ x ∷ []) p fit) is_w
    (omega (arith, next, length-append b.log (x ∷ []))) young_w)))
    (λ full. full_all p s a (λ w. Arrived p s a b l ps (x ∷ xs) size w) (x ∷ xs) k n v b l ps at fit (omega (arith, next)) full is young
    (λ w at_w. none_came w p s a b l ps (x ∷ xs) size (λ _ room. let e : true ≡ false = sym room ∙ full in absurd (cc)) at_w))

-- ## Their acknowledgements

-- the link knows a number from what it knew up to the highest one, and this one where it was among them
pub record Told (p s : ℕ) (a b : Node) (l : Link) (ps : List Packet) (high : ℕ) (qs : List Packet) (w : World) : Type 0 where
  pub net : ℕ
  pub rises : l.net ≤ net
  pub most : net ≤ high
  pub all : HasAck s p b.line b.session high qs → net ≡ high
  pub at : At w p s a b (record l { net = net }) ps

pub acks_any : (p s : ℕ) (a b : Node) (qs : List Packet) (k high : ℕ) (v : World) (l : Link) (ps : List Packet) → At v p s a b l ps → Fit p s a b l
    → IsIn ps k qs → AreAcks s p b.line b.session high qs → l.session ≡ b.session → l.net ≤ high
    → IsYoung ps k → Told p s a b l ps high qs (run v (deliver_each k qs))
acks_any p s a b [] k high v l ps at fit is are session most young = record { net = l.net; rises = omega arith; most = most; all = λ none. absurd none; at = at }
acks_any p s a b (q ∷ qs) k high v l ps at fit is are session most young =
    let number : ℕ = are.0 in
    let there : slice_get ps k ≡ Some (packet s p b.line (NetAck b.session number) 0) = in_head ps k q qs is ∙ ap (λ (r : Packet). Some r) are.1 in
    let w : World = (step v (Deliver (suc k))).world in
    elim (less_or_not l.net number) [
      | inl new ↦
          let m : Link = record l { net = number } in
          let rest = acks_any p s a b qs (suc k) high w m ps (memory_at v p s a b l ps at fit k number young there session new)
          (fit_link p s a b l l.session number l.stored l.sent l.trimmed fit) (in_tail ps k q qs is) are.3 session (omega (arith, are.2))
          (young_next ps k young) in
          record {
            net = rest.net;
            rises = omega (arith, rest.rises, new);
            most = rest.most;
            all = λ has. elim has [
              | inl here ↦ let top : number ≡ high = same_ack s p b.line b.session number high (sym are.1 ∙ here) in omega
                  (arith, rest.rises, rest.most, top)
              | inr later ↦ rest.all later
            ];
            at = rest.at;
          }
      | inr old ↦
          let rest = acks_any p s a b qs (suc k) high w l ps (stale_at v p s a b l ps at fit k number young there old) fit
          (in_tail ps k q qs is) are.3 session most (young_next ps k young) in
          record {
            net = rest.net;
            rises = rest.rises;
            most = rest.most;
            all = λ has. elim has [
              | inl here ↦ let top : number ≡ high = same_ack s p b.line b.session number high (sym are.1 ∙ here) in omega
                  (arith, rest.rises, rest.most, top, old)
              | inr later ↦ rest.all later
            ];
            at = rest.at;
          }
    ]
