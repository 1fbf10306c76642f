-- What stands of each link where a write is let in.
use Rattle.std.proofs.Common.{◌≡◌, ℕ, ◌<◌, ◌≤◌, zero, suc, true, false, Bool, List, [], ◌∷◌, length, get_or, zip, Option, Some, None, arith, refl, if◌then◌else◌}
use Rattle.vx_history.specs.Admission.{Held, Goes, admit, unless_held, first_down, first_full, is_down, blocks, change, changes, changed, change_by, held_by_room, held_when_full, or_else, full_log_of}
use Rattle.vx_history.specs.declared.admission.FullLog.{FullLog}
use Rattle.vx_history.specs.declared.admission.FullLog.TheVariants.{Stalls, Fails, TurnsStale, TurnsDcm}
use Rattle.vx_history.specs.declared.admission.Change.{Change}
use Rattle.vx_history.specs.declared.admission.Change.TheVariants.{Stays}
use Rattle.vx_model.specs.declared.link.Link.{Link}

-- what a write that is let in tells of the three parts of the rule
pub record Parts (need room : ℕ) (links : List Link) (used : List ℕ) (cs : List Change) : Type 0 where
  pub up : first_down links ≡ None
  pub fits : first_full need room (zip links used) ≡ None
  pub is : cs ≡ changes need room (zip links used)

parts-by : (need room : ℕ) (links : List Link) (used : List ℕ) (cs : List Change) (down full : Option Held) → first_down links ≡ down
    → first_full need room (zip links used) ≡ full → unless_held down (unless_held full (Goes (changes need room (zip links used)))) ≡ Goes cs
    → Parts need room links used cs
parts-by need room links used cs (Some why) full d f h = grind (arith, h)
parts-by need room links used cs None (Some why) d f h = grind (arith, h)
parts-by need room links used cs None None d f h = record { up = d; fits = f; is = grind (arith, h) }

pub parts-of : (need room : ℕ) (links : List Link) (used : List ℕ) (cs : List Change) → admit need room links used ≡ Goes cs → Parts need room links used cs
parts-of need room links used cs h = parts-by need room links used cs (first_down links) (first_full need room (zip links used)) refl refl h

down-by : (b : Bool) (why : Held) (rest : Option Held) → (if b then Some why else rest) ≡ None → (b ≡ false) × (rest ≡ None)
down-by true why rest h = grind (arith, h)
down-by false why rest h = (refl, h)

pub none-down : (links : List Link) (at : ℕ) (d : Link) → first_down links ≡ None → at < length links → is_down (get_or links at d) ≡ false
none-down [] at d h k = grind (arith, k)
none-down (l ∷ ls) zero d h k = (down-by (is_down l) _ (first_down ls) h).0
none-down (l ∷ ls) (suc at) d h k = none-down ls at d (down-by (is_down l) _ (first_down ls) h).1 (grind (arith, k))

full-by : (here rest : Option Held) → or_else here rest ≡ None → (here ≡ None) × (rest ≡ None)
full-by (Some why) rest h = grind (arith, h)
full-by None rest h = (refl, h)

-- a link that has changed holds nothing
freed : (c : FullLog) (need room : ℕ) (l : Link) (used : ℕ) (bunker : Bool) → held_when_full c l.site ≡ None
    → blocks need room (changed (change_by c bunker) l) used ≡ false
freed Stalls need room l used bunker h = grind (arith, h)
freed Fails need room l used bunker h = grind (arith, h)
freed TurnsStale need room l used bunker h = grind arith
freed TurnsDcm need room l used true h = grind arith
freed TurnsDcm need room l used false h = grind arith

room-by : (b : Bool) (need room : ℕ) (l : Link) (used : ℕ) → blocks need room l used ≡ b
    → (if b then held_when_full (full_log_of l) l.site else None) ≡ None
    → blocks need room (changed (if b then change_by (full_log_of l) l.bunker else Stays) l) used ≡ false
room-by true need room l used is h = freed (full_log_of l) need room l used l.bunker h
room-by false need room l used is h = is

-- a link that does not refuse leaves room after its change
room-one : (need room : ℕ) (l : Link) (used : ℕ) → held_by_room need room l used ≡ None → blocks need room (changed (change need room l used) l) used ≡ false
room-one need room l used h = room-by (blocks need room l used) need room l used refl h

pub all-room : (need room : ℕ) (links : List Link) (used : List ℕ) (at : ℕ) (d : Link) → first_full need room (zip links used) ≡ None
    → at < length links → length links ≤ length used
    → blocks need room (changed (get_or (changes need room (zip links used)) at Stays) (get_or links at d)) (get_or used at 0) ≡ false
all-room need room [] used at d h k le = grind (arith, k)
all-room need room (l ∷ ls) [] at d h k le = grind (arith, le)
all-room need room (l ∷ ls) (u ∷ us) zero d h k le = room-one need room l u (full-by (held_by_room need room l u) _ h).0
all-room need room (l ∷ ls) (u ∷ us) (suc at) d h k le =
    all-room need room ls us at d (full-by (held_by_room need room l u) _ h).1 (grind (arith, k)) (grind (arith, le))

stays-one : (need room : ℕ) (l : Link) (used : ℕ) → blocks need room l used ≡ false → change need room l used ≡ Stays
stays-one need room l used h = rw h refl

pub all-stay : (need room : ℕ) (links : List Link) (used : List ℕ) (at : ℕ) (d : Link) → at < length links → length links ≤ length used
    → blocks need room (get_or links at d) (get_or used at 0) ≡ false → get_or (changes need room (zip links used)) at Stays ≡ Stays
all-stay need room [] used at d k le h = grind (arith, k)
all-stay need room (l ∷ ls) [] at d k le h = grind (arith, le)
all-stay need room (l ∷ ls) (u ∷ us) zero d k le h = stays-one need room l u h
all-stay need room (l ∷ ls) (u ∷ us) (suc at) d k le h = all-stay need room ls us at d (grind (arith, k)) (grind (arith, le)) h
