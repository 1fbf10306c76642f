-- Blocks that are written as they read: what a run of them makes, and how runs go on.
use Rattle.std.proofs.Common.{◌≡◌, ◌∙◌, inl, inr, ℕ, ◌+◌, ◌*◌, ◌<◌, ◌≤◌, Bool, true, false, List, length, IsTrue, refl, sym, subst, arith}
use Rattle.std.specs.Prelude.{◌⊎◌, Err, Ok, OnOk, Result}
use Rattle.std.proofs.lemmas.Bool.{cases_lt}
use Rattle.vx_disk.specs.Causes.{Cause, StaysUp}
use Rattle.vx_disk.specs.Shelf.{Covers, Flushed, Goes, Lawful, Meaning, Nothing, Or, Read, Written, Wrote, piece}
use Rattle.vx_disk.specs.declared.shelf.ShelfError.{ShelfError}
use Rattle.vx_disk.specs.declared.shelf.ShelfError.TheVariants.{Down, Fault}
use Rattle.vx_disk.proofs.Causing.{Cause_both}
use Rattle.vx_disk.proofs.Runs.{both_Goes, nothing_then, same_Goes, weaker}
use Rattle.vx_ground.specs.Rewrites.{OneSeen, OneRests, Rewrote, WasLeft}

-- where nothing is told there is no value
module _ (p q : Meaning → ℕ → ℕ → List ℕ → Type 0) (unit : ℕ) (old new : Meaning) (law : Lawful new) (g : Goes (p old) old new) where
  dark : new.tells ≡ false → Goes (q old) old new
  dark off = record {
    units = g.units;
    size = g.size;
    tells = g.tells;
    later = g.later;
    keeps = g.keeps;
    faults = g.faults;
    disk_faults = g.disk_faults;
    falls = g.falls;
    unarmed = g.unarmed;
    safe = g.safe;
    reads = λ u b v is. absurd (law.none off u b v (law.shown u b v is));
    leaves = λ u b v left. absurd (law.none off u b v left);
    since = λ t i le left. absurd (law.never off t i left);
  }

module _ (unit block : ℕ) (bytes : List ℕ) (old mid new : Meaning) (law : Lawful old) (last : Lawful new) (first : Goes Nothing old mid) (read : Read old unit block bytes) (second : Goes (Written unit block bytes) mid new) where
  both : Goes (Written unit block bytes) old new
  both = nothing_then (Written unit block bytes) old mid new first second

  was_left : IsTrue old.tells → (u b : ℕ) (x : List ℕ) → Written unit block bytes u b x → WasLeft unit old u b x
  was_left tells u b x put =
      let here : Covers unit block bytes unit b = record { there = refl; first = put.covers.first; last = put.covers.last } in
      record {
        there = put.covers.there;
        left = subst (λ (w : ℕ). old.leaves w b x) (sym put.covers.there) (subst (λ (y : List ℕ). old.leaves unit b y) (sym put.value) (law.shown unit b (piece block bytes b) (read.each tells b here)));
      }

  by_tells : (t : Bool) → old.tells ≡ t → Goes (WasLeft unit old) old new
  by_tells true is = weaker (Written unit block bytes) (WasLeft unit old) old new both (was_left is)
  by_tells false is = dark (λ m. Written unit block bytes) (λ m. WasLeft unit m) unit old new last both (both.tells ∙ is)

  pub run_goes : Goes (WasLeft unit old) old new
  run_goes = by_tells old.tells refl

module _ (unit block count : ℕ) (bytes : List ℕ) (size : length bytes ≡ 512 * count) (old mid new : Meaning) (first : Goes Nothing old mid) (up : StaysUp old mid) (wrote : Wrote unit block bytes mid new) where
  covered : (b : ℕ) → block ≤ b → b < block + count → Covers unit block bytes unit b
  covered b low high = record { there = refl; first = low; last = omega (arith, low, high, size) }

  put_there : (b : ℕ) (x : List ℕ) → block ≤ b → b < block + count → new.reads unit b x → x ≡ piece block bytes b
  put_there b x low high reads = elim (wrote.each unit b x reads) [
    | inl put ↦ put.value
    | inr out ↦ absurd (out.0 (covered b low high))
  ]

  read_there : (b : ℕ) (x : List ℕ) → mid.reads unit b x → old.reads unit b x
  read_there b x reads = elim (first.reads unit b x reads) [
    | inl (inl was) ↦ was
    | inl (inr none) ↦ absurd none
    | inr down ↦ absurd (up.after down)
  ]

  pub run_rewrote : Rewrote unit block count old new
  run_rewrote = record {
    one = record { one = λ b x y low high here there. put_there b x low high here ∙ sym (put_there b y low high there) };
    others = λ b x out reads. elim (wrote.each unit b x reads) [
      | inl put ↦ absurd (out put.covers.first (let last = put.covers.last in let low = put.covers.first in omega (arith, last, low, size)))
      | inr was ↦ read_there b x was.1
    ];
  }

-- runs go on
module _ (unit : ℕ) (old mid new : Meaning) where
  pub on_goes : Goes (WasLeft unit old) old mid → Goes (WasLeft unit mid) mid new → Goes (WasLeft unit old) old new
  on_goes first second = weaker (Or (WasLeft unit old) (WasLeft unit mid)) (WasLeft unit old) old new (both_Goes (WasLeft unit old) (WasLeft unit mid) old mid new first second) (λ u b x or. back u b x or)
    where
      back : (u b : ℕ) (x : List ℕ) → Or (WasLeft unit old) (WasLeft unit mid) u b x → WasLeft unit old u b x
      back u b x (inl was) = was
      back u b x (inr was) = elim (first.leaves u b x was.left) [
        | inl before ↦ record { there = was.there; left = before }
        | inr put ↦ put
      ]

pub on_one : (unit done count : ℕ) (old new : Meaning) → OneSeen unit 0 done old → Rewrote unit done count old new → OneSeen unit 0 (done + count) new
on_one unit done count old new each more = record { one = λ b x y low high here there. by b x y high here there (cases_lt b done) }
  where
    by : (b : ℕ) (x y : List ℕ) → b < 0 + (done + count) → new.reads unit b x → new.reads unit b y → (b < done) ⊎ (done ≤ b) → x ≡ y
    by b x y high here there (inl lt) =
        each.one b x y (omega arith) (omega (arith, lt)) (more.others b x (λ le less. omega (arith, lt, le)) here) (more.others b y (λ le less. omega (arith, lt, le)) there)
    by b x y high here there (inr le) = more.one.one b x y le (omega (arith, high)) here there

pub on_left : (unit : ℕ) (old new : Meaning) → OneSeen unit 0 (old.size unit) old → new.size unit ≡ old.size unit → Flushed unit old new → OneRests unit new
on_left unit old new each size flushed = record { one = λ b x y low here there. each.one b x y (omega arith) (omega (arith, low, size)) (flushed.each b x here) (flushed.each b y there) }

-- ---- the loop over runs

pub record RewriteLoop (unit : ℕ) (old new : Meaning) (done blocks : ℕ) : Type 0 where
  pub goes : Goes (WasLeft unit old) old new
  pub one : OneSeen unit 0 done new
  pub low : done ≤ blocks

pub loop_none : (unit : ℕ) (m : Meaning) (blocks : ℕ) → RewriteLoop unit m m 0 blocks
loop_none unit m blocks = record {
  goes = same_Goes (WasLeft unit m) m;
  one = record { one = λ b x y low high here there. absurd (omega (arith, high)) };
  low = omega arith;
}

module _ (unit : ℕ) (old mid new : Meaning) (done blocks : ℕ) (at : RewriteLoop unit old mid done blocks) where
  pub loop_more : (count : ℕ) → Goes (WasLeft unit mid) mid new → Rewrote unit done count mid new → done + count ≤ blocks → RewriteLoop unit old new (done + count) blocks
  loop_more count goes wrote low = record { goes = on_goes unit old mid new at.goes goes; one = on_one unit done count mid new at.one wrote; low = low }

  -- a shelf that is up was up
  stays_first : StaysUp mid new → StaysUp old mid
  stays_first stays = record { before = λ down. stays.before (at.goes.falls down); after = stays.before }

  pub loop_cause : {T : Type 0} (r : Result T ShelfError) → Cause mid new unit r → Cause old new unit r
  loop_cause {T} (Ok x) stays = record { before = λ down. stays.before (at.goes.falls down); after = stays.after }
  loop_cause {T} (Err (Fault disk)) cause = Cause_both {T = T} old mid new unit (Err (Fault disk)) (stays_first cause.1) at.goes.faults at.goes.disk_faults cause
  loop_cause {T} (Err Down) down = down

-- the flush behind it
pub loop_left : {T E : Type 0} (r : Result T E) (unit : ℕ) (old mid new : Meaning) (done blocks : ℕ) → RewriteLoop unit old mid done blocks → blocks ≡ old.size unit → blocks ≤ done → Goes Nothing mid new → OnOk r (Flushed unit mid new) → OnOk r (OneRests unit new)
loop_left (Err e) unit old mid new done blocks at size past goes flushed = tt
loop_left (Ok x) unit old mid new done blocks at size past goes flushed =
    let all : done ≡ mid.size unit = (let low = at.low in let same = at.goes.size unit in omega (arith, low, past, size, same)) in
    on_left unit mid new (subst (λ (k : ℕ). OneSeen unit 0 k mid) all at.one) (goes.size unit) flushed

pub ok_then : {T E : Type 0} (r : Result T E) (A B : Type 0) → (A → B) → OnOk r A → OnOk r B
ok_then (Ok x) A B then it = then it
ok_then (Err e) A B then it = tt
